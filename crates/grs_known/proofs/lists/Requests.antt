-- What a task's own request does to what the task owns, and what the reply tells of that.
use Rattle.std.proofs.Common.{◌≡◌, ℕ, suc, zero, Bool, true, false, ◌&&◌, ◌||◌, List, [], ◌∷◌, ◌++◌, refl, ap, sym, ◌∙◌}
use Rattle.std.proofs.Common.{subst, arith}
use Rattle.std.specs.List.{list_any}
use Rattle.std.proofs.lemmas.Bool.Decides.{nat_tests}
use Rattle.grs_base.specs.Same.{same_res}
use Rattle.grs_base.specs.Lists.{owns, owns_shared, has_task, all_shared, is_shared, can_have, standing_of, list_after}
use Rattle.grs_base.specs.Lists.{list_exclusive, enq_decision, deq_code, is_owner}
use Rattle.grs_base.specs.State.{State, list_of, enq_state, enq_code}
use Rattle.grs_base.specs.declared.resource.Elem.{Elem}
use Rattle.grs_base.specs.declared.resource.Ctl.{Ctl}
use Rattle.grs_base.specs.declared.resource.Ctl.TheVariants.{E, S}
use Rattle.grs_base.specs.declared.resource.Res.{Res}
use Rattle.grs_base.specs.declared.resource.Ret.{Ret}
use Rattle.grs_base.specs.declared.resource.TaskId.{TaskId}
use Rattle.grs_base.specs.declared.decision.Effect.{Effect}
use Rattle.grs_base.specs.declared.decision.Effect.TheVariants.{Nothing, Append, MakeExclusive}
use Rattle.grs_base.specs.declared.decision.Standing.{Standing}
use Rattle.grs_base.specs.declared.decision.Standing.TheVariants.{Exclusive, OnlyShared, AmongShared, Waits, Absent}
use Rattle.grs_base.proofs.SameLaws.{same_res-exact, same_task-itself}
use Rattle.grs_base.proofs.ListLaws.{owns-append, is_owner-standing}
use Rattle.grs_base.proofs.StateLaws.{list_of-effect, list_of-effect_other, only_owner}
use Rattle.grs_wire.specs.Wants.{after_want}
use Rattle.grs_wire.specs.History.{entries_for, look_entries}
use Rattle.grs_wire.specs.declared.request.Want.{Want}
use Rattle.grs_wire.specs.declared.request.Want.TheVariants as wants
use Rattle.grs_wire.proofs.WantLaws.{list_of-want_other, absent-has, by_res}
use Rattle.task_state.specs.Replies.{is_queued, is_granted, gives_up}
use Rattle.grs_known.specs.Items.{took, has_control, tells}
use Rattle.grs_wire.specs.declared.history.HistEntry.{HistEntry}
use Rattle.grs_wire.specs.declared.history.HistEntry.TheVariants as entries
use Rattle.grs_base.specs.declared.resource.Ret.TheVariants.{RetNone, RetUse, RetHave, RetTest, RetChng, RetEcb}
use Rattle.grs_known.specs.Items.{gave}

-- ---- a task's own ENQ
owns_shared-push : (es : List Elem) (t : TaskId) (c : Ctl) → has_task es t ≡ false
    → owns_shared (es ++ record { task = t; ctl = c } ∷ []) t ≡ (all_shared es && is_shared c)
owns_shared-push [] t c h = grind (arith, same_task-itself t)
owns_shared-push (e ∷ es) t c h = grind (arith, h, owns_shared-push es t c)

pub owns-push : (es : List Elem) (t : TaskId) (c : Ctl) → has_task es t ≡ false
    → owns (es ++ record { task = t; ctl = c } ∷ []) t ≡ can_have es c
owns-push [] t E h = grind (arith, same_task-itself t)
owns-push [] t S h = grind (arith, same_task-itself t)
owns-push (e ∷ es) t E h = grind (arith, h, owns_shared-push es t E)
owns-push (e ∷ es) t S h = grind (arith, h, owns_shared-push es t S)

pub owns-exclusive : (es : List Elem) (t : TaskId) → standing_of es t ≡ OnlyShared → owns (list_exclusive es t) t ≡ true
owns-exclusive [] t h = grind (arith, nat_tests, h)
owns-exclusive (e ∷ es) t h = grind (arith, nat_tests, h)

-- it leaves what its task owned
owns-after : (es : List Elem) (t : TaskId) (c : Ctl) (e : Effect) → (e ≡ MakeExclusive → standing_of es t ≡ OnlyShared)
    → owns es t ≡ true → owns (list_after es t c e) t ≡ true
owns-after es t c Nothing only h = h
owns-after es t c Append only h = owns-append es _ t h
owns-after es t c MakeExclusive only h = owns-exclusive es t (only refl)

owns-enq : (s : State) (r q : Res) (t : TaskId) (c : Ctl) (ret : Ret) (full : Bool) → owns (list_of s r) t ≡ true
    → owns (list_of (enq_state s q t c ret full) r) t ≡ true
owns-enq s r q t c ret full h = by_res r q _
    (λ same. subst (λ z. owns (list_of (enq_state s q t c ret full) z) t ≡ true) (sym same)
    (ap (λ es. owns es t) (list_of-effect s q t c _)
    ∙ owns-after (list_of s q) t c _ (only_owner (list_of s q) t c ret full)
    (subst (λ z. owns (list_of s z) t ≡ true) same h)))
    (λ other. ap (λ es. owns es t) (list_of-effect_other s r q t c _ other) ∙ h)

-- whether a task that stood like this owns after an effect; `can` tells whether its control could be had
abbrev then_owns : Standing → Bool → Effect → Bool
then_owns st can Nothing = is_owner st
then_owns Absent can Append = can
then_owns OnlyShared can MakeExclusive = true
then_owns _ _ _ = false

then_owns-granted : (st : Standing) (ret : Ret) (full can : Bool) → has_control ret ≡ true
    → is_granted (enq_decision st ret full can).code ≡ true
    → then_owns st can (enq_decision st ret full can).effect ≡ true
then_owns-granted st ret full can has g = grind (arith, has, g)

owns-then : (es : List Elem) (t : TaskId) (c : Ctl) (e : Effect) (st : Standing) → standing_of es t ≡ st
    → then_owns st (can_have es c) e ≡ true → owns (list_after es t c e) t ≡ true
owns-then es t c Nothing st at h = sym (is_owner-standing es t) ∙ ap is_owner at ∙ h
owns-then es t c Append Absent at h = owns-push es t c (absent-has es t at) ∙ h
owns-then es t c Append Exclusive at h = cc
owns-then es t c Append OnlyShared at h = cc
owns-then es t c Append AmongShared at h = cc
owns-then es t c Append Waits at h = cc
owns-then es t c MakeExclusive OnlyShared at h = owns-exclusive es t at
owns-then es t c MakeExclusive Exclusive at h = cc
owns-then es t c MakeExclusive AmongShared at h = cc
owns-then es t c MakeExclusive Waits at h = cc
owns-then es t c MakeExclusive Absent at h = cc

-- one that tells control is of an owner
pub owns-granted : (s : State) (r : Res) (t : TaskId) (c : Ctl) (ret : Ret) (full : Bool) → has_control ret ≡ true
    → is_granted (enq_code s r t c ret full) ≡ true → owns (list_of (enq_state s r t c ret full) r) t ≡ true
owns-granted s r t c ret full has g =
    ap (λ es. owns es t) (list_of-effect s r t c _)
    ∙ owns-then (list_of s r) t c _ (standing_of (list_of s r) t) refl
    (then_owns-granted (standing_of (list_of s r) t) ret full (can_have (list_of s r) c) has g)

-- ---- a task's own request
pub granted-deq : (st : Standing) (have : Bool) → is_owner st ≡ true → is_granted (deq_code st have) ≡ true
granted-deq st have h = grind (arith, h)

pub want-keeps : (s : State) (t : TaskId) (w : Want) (r : Res) → gives_up r w ≡ false → owns (list_of s r) t ≡ true
    → owns (list_of (after_want s t w) r) t ≡ true
want-keeps s t (wants.Enq q c ret full) r e h = owns-enq s r q t c ret full h
want-keeps s t (wants.Deq q have) r e h = ap (λ es. owns es t) (list_of-want_other s t (wants.Deq q have) r e) ∙ h
want-keeps s t (wants.Release q) r e h = ap (λ es. owns es t) (list_of-want_other s t (wants.Release q) r e) ∙ h
want-keeps s t (wants.Look first count f) r e h = h

pub want-takes : (s : State) (t : TaskId) (w : Want) (r : Res) → gives_up r w ≡ true → owns (list_of s r) t ≡ true
    → list_any (took r) (entries_for s t w) ≡ true
want-takes s t (wants.Enq q c ret full) r e h = cc
want-takes s t (wants.Deq q have) r e h =
    let own : owns (list_of s q) t ≡ true = subst (λ z. owns (list_of s z) t ≡ true) (same_res-exact r q e) h in
    rw (e, granted-deq (standing_of (list_of s q) t) have (is_owner-standing (list_of s q) t ∙ own)) refl
want-takes s t (wants.Release q) r e h = rw e refl
want-takes s t (wants.Look first count f) r e h = cc

looks-tell : (s : State) (t : TaskId) (r : Res) (first count : ℕ) (f : _)
    → list_any (tells r) (look_entries s t first count f) ≡ false
looks-tell s t r first zero f = refl
looks-tell s t r first (suc count) f = looks-tell s t r (suc first) count f

pub want-tells : (s : State) (t : TaskId) (w : Want) (r : Res) → list_any (tells r) (entries_for s t w) ≡ true
    → owns (list_of (after_want s t w) r) t ≡ true
want-tells s t (wants.Enq q c ret full) r h =
    let parts : (same_res r q ≡ true) × (is_granted (enq_code s q t c ret full) ≡ true) × (has_control ret ≡ true) =
    three (same_res r q) (is_granted (enq_code s q t c ret full)) (has_control ret) h in
    subst (λ z. owns (list_of (enq_state s q t c ret full) z) t ≡ true) (sym (same_res-exact r q parts.0))
    (owns-granted s q t c ret full parts.2 parts.1)
  where
    three : (a b c : Bool) → ((a && (b && c)) || false) ≡ true → (a ≡ true) × (b ≡ true) × (c ≡ true)
    three true true true e = (refl, refl, refl)
    three true true false e = cc
    three true false c e = cc
    three false b c e = cc
want-tells s t (wants.Deq q have) r h = cc
want-tells s t (wants.Release q) r h = cc
want-tells s t (wants.Look first count f) r h =
    absurd (let g : false ≡ true = sym (looks-tell s t r first count f) ∙ h in cc)

-- ---- the reply
-- what is queued was asked where its task had no element
pub queued-absent : (st : Standing) (ret : Ret) (full can : Bool)
    → is_queued ret (enq_decision st ret full can).code ≡ true → st ≡ Absent
queued-absent st ret full can h = grind (arith, h)

-- what an entry gave its task it tells
pub gave-tells : (r : Res) (hs : List HistEntry) → list_any (gave r) hs ≡ true → list_any (tells r) hs ≡ true
gave-tells r [] h = cc
gave-tells r (entries.Enq u q c RetNone code ∷ hs) h = grind (arith, h, gave-tells r hs)
gave-tells r (entries.Enq u q c RetUse code ∷ hs) h = grind (arith, h, gave-tells r hs)
gave-tells r (entries.Enq u q c RetHave code ∷ hs) h = grind (arith, h, gave-tells r hs)
gave-tells r (entries.Enq u q c RetTest code ∷ hs) h = grind (arith, h, gave-tells r hs)
gave-tells r (entries.Enq u q c RetChng code ∷ hs) h = grind (arith, h, gave-tells r hs)
gave-tells r (entries.Enq u q c RetEcb code ∷ hs) h = grind (arith, h, gave-tells r hs)
gave-tells r (entries.Deq u q have code ∷ hs) h = gave-tells r hs h
gave-tells r (entries.Release u q ∷ hs) h = gave-tells r hs h
gave-tells r (entries.Look u place f rows ∷ hs) h = gave-tells r hs h
gave-tells r (entries.Remove by target ∷ hs) h = gave-tells r hs h
