-- What one request leaves of each list.
use Rattle.std.proofs.Common.{◌≡◌, ◌<◌, Bool, true, false, cond, not, List, refl, ap, sym, ◌∙◌, subst, arith}
use Rattle.std.proofs.lemmas.Bool.{ltb-true}
use Rattle.std.proofs.lemmas.Bool.Decides.{nat_tests}
use Rattle.grs_base.specs.Same.{same_res, same_task}
use Rattle.grs_base.specs.Lists.{list_after, owns, owners, place_of, standing_of, is_owner, is_apart, has_task}
use Rattle.grs_base.specs.State.{without, State, list_of, after_effect}
use Rattle.grs_base.specs.declared.resource.Res.{Res}
use Rattle.grs_base.specs.declared.resource.TaskId.{TaskId}
use Rattle.grs_base.specs.declared.resource.Elem.{Elem}
use Rattle.grs_base.specs.declared.resource.Ctl.{Ctl}
use Rattle.grs_base.specs.declared.decision.Effect.{Effect}
use Rattle.grs_base.specs.declared.decision.Effect.TheVariants.{Nothing, Append, MakeExclusive}
use Rattle.grs_base.specs.declared.decision.Standing.TheVariants.{OnlyShared, Absent}
use Rattle.grs_base.proofs.SameLaws.{same_res-exact, same_task-exact, same_task-itself}
use Rattle.grs_base.proofs.ListLaws.{owns-append, owns-filter, owns-place, same_place, owners-le, has_task-place}
use Rattle.grs_base.proofs.ListLaws.{is_apart-push, is_apart-filter, is_apart-exclusive}
use Rattle.grs_base.proofs.StateLaws.{list_at-without, list_at-without_other, res_equality, list_of-effect}
use Rattle.grs_base.proofs.StateLaws.{list_of-effect_other, only_owner, appends_absent}
use Rattle.grs_wire.specs.Wants.{after_want}
use Rattle.grs_wire.specs.declared.request.Want.{Want}
use Rattle.grs_wire.specs.declared.request.Want.TheVariants.{Enq, Deq, Release, Look}

-- a property of both branches
pub cond_both : {X : Type 0} (b : Bool) (x y : X) (P : X → Type 0) → P x → P y → P (cond b x y)
cond_both true x y P p q = p
cond_both false x y P p q = q

-- a property of each branch, by its test
pub by_test : {X : Type 0} (P : X → Type 0) (b : Bool) (x y : X) → (b ≡ true → P x) → (b ≡ false → P y) → P (cond b x y)
by_test P true x y p q = p refl
by_test P false x y p q = q refl

-- a fact of the list of q after a request for r, from the case that they are one and the case that they are not
pub by_res : (q r : Res) (P : Type 0) → (q ≡ r → P) → (same_res q r ≡ false → P) → P
by_res q r P same other =
    elim (same_res q r) as (λ b. same_res q r ≡ b → P) [ true ↦ λ p. same (same_res-exact q r p) | false ↦ other ] refl

-- whether a request may change the list of a resource
abbrev pub speaks_of : Want → Res → Bool
speaks_of (Enq r c ret full) q = same_res q r
speaks_of (Deq r have) q = same_res q r
speaks_of (Release r) q = same_res q r
speaks_of (Look first count f) q = false

-- other lists stay
pub list_of-want_other : (s : State) (t : TaskId) (w : Want) (q : Res) → speaks_of w q ≡ false
    → list_of (after_want s t w) q ≡ list_of s q
list_of-want_other s t (Enq r c ret full) q h = list_of-effect_other s q r t c _ h
list_of-want_other s t (Deq r have) q h =
    cond_both (is_owner (standing_of (list_of s r) t)) (without same_res s r t) s (λ x. list_of x q ≡ list_of s q)
    (list_at-without_other same_res res_equality s q r t h) refl
list_of-want_other s t (Release r) q h = list_at-without_other same_res res_equality s q r t h
list_of-want_other s t (Look first count f) q h = refl

-- an only owner with shared control stands first and owns alone
pub only_shared-place : (es : List Elem) (u : TaskId) → standing_of es u ≡ OnlyShared
    → (place_of es u ≡ 0) × (owners es ≡ 1)
only_shared-place es u h = grind (arith, nat_tests, h)

sole : (es : List Elem) (t u : TaskId) → same_task t u ≡ false → standing_of es u ≡ OnlyShared → owns es t ≡ true → ⊥
sole es t u apart only own =
    let first = only_shared-place es u only in
    let within : place_of es t < owners es = ltb-true _ _ (sym (owns-place es t) ∙ own) in
    let same : t ≡ u = same_place es t u (omega (arith, first)) (omega (arith, owners-le es)) in
    grind (arith, apart, same, same_task-itself t)

owns-after : (es : List Elem) (t u : TaskId) (c : Ctl) (e : Effect) → same_task t u ≡ false
    → (e ≡ MakeExclusive → standing_of es u ≡ OnlyShared) → owns es t ≡ true → owns (list_after es u c e) t ≡ true
owns-after es t u c Nothing apart only own = own
owns-after es t u c Append apart only own = owns-append es _ t own
owns-after es t u c MakeExclusive apart only own = absurd (sole es t u apart (only refl) own)

owns-without : (s : State) (q r : Res) (t u : TaskId) → same_task t u ≡ false → owns (list_of s q) t ≡ true
    → owns (list_of (without same_res s r u) q) t ≡ true
owns-without s q r t u apart own = by_res q r _
    (λ same. subst (λ x. owns (list_of (without same_res s x u) q) t ≡ true) same
    (subst (λ l. owns l t ≡ true) (sym (list_at-without same_res res_equality s q u))
    (owns-filter (λ x. not (same_task u x.task)) t
    (λ e p. grind (arith, apart, same_task-exact t e.task p, same_task-exact u e.task, same_task-itself)) (list_of s q)
    own)))
    (λ other. subst (λ l. owns l t ≡ true) (sym (list_at-without_other same_res res_equality s q r u other)) own)

owns-effect : (s : State) (q r : Res) (t u : TaskId) (c : Ctl) (e : Effect) → same_task t u ≡ false
    → (e ≡ MakeExclusive → standing_of (list_of s r) u ≡ OnlyShared) → owns (list_of s q) t ≡ true
    → owns (list_of (after_effect s r u c e) q) t ≡ true
owns-effect s q r t u c e apart only own = by_res q r _
    (λ same. subst (λ x. owns (list_of (after_effect s r u c e) x) t ≡ true) (sym same)
    (subst (λ l. owns l t ≡ true) (sym (list_of-effect s r u c e))
    (owns-after _ t u c e apart only (subst (λ x. owns (list_of s x) t ≡ true) same own))))
    (λ other. subst (λ l. owns l t ≡ true) (sym (list_of-effect_other s q r u c e other)) own)

-- an owner stays one after a request of another task
pub owns-want : (s : State) (u : TaskId) (w : Want) (q : Res) (t : TaskId) → same_task t u ≡ false
    → owns (list_of s q) t ≡ true → owns (list_of (after_want s u w) q) t ≡ true
owns-want s u (Enq r c ret full) q t apart own =
    owns-effect s q r t u c _ apart (only_owner (list_of s r) u c ret full) own
owns-want s u (Deq r have) q t apart own =
    cond_both (is_owner (standing_of (list_of s r) u)) (without same_res s r u) s (λ x. owns (list_of x q) t ≡ true)
    (owns-without s q r t u apart own) own
owns-want s u (Release r) q t apart own = owns-without s q r t u apart own
owns-want s u (Look first count f) q t apart own = own

-- a task that is absent has no element
pub absent-has : (es : List Elem) (u : TaskId) → standing_of es u ≡ Absent → has_task es u ≡ false
absent-has es u h = grind (arith, nat_tests, h, has_task-place es u)

apart-after : (es : List Elem) (u : TaskId) (c : Ctl) (e : Effect) → (e ≡ Append → standing_of es u ≡ Absent)
    → is_apart es ≡ true → is_apart (list_after es u c e) ≡ true
apart-after es u c Nothing absent h = h
apart-after es u c Append absent h = is_apart-push es (record { task = u; ctl = c }) h (absent-has es u (absent refl))
apart-after es u c MakeExclusive absent h = is_apart-exclusive es u ∙ h

apart-without : (s : State) (q r : Res) (u : TaskId) → is_apart (list_of s q) ≡ true
    → is_apart (list_of (without same_res s r u) q) ≡ true
apart-without s q r u h = by_res q r _
    (λ same.
    subst (λ x. is_apart (list_of (without same_res s x u) q) ≡ true) same
    (ap is_apart (list_at-without same_res res_equality s q u)
    ∙ is_apart-filter (λ x. not (same_task u x.task)) (list_of s q) h))
    (λ other. ap is_apart (list_at-without_other same_res res_equality s q r u other) ∙ h)

-- no task comes to stand twice
pub apart-want : (s : State) (u : TaskId) (w : Want) (q : Res) → ((r : Res) → is_apart (list_of s r) ≡ true)
    → is_apart (list_of (after_want s u w) q) ≡ true
apart-want s u (Enq r c ret full) q all = by_res q r _
    (λ same. subst (λ x. is_apart (list_of (after_want s u (Enq r c ret full)) x) ≡ true) (sym same)
    (ap is_apart (list_of-effect s r u c _) ∙ apart-after _ u c _ (appends_absent (list_of s r) u c ret full) (all r)))
    (λ other. ap is_apart (list_of-effect_other s q r u c _ other) ∙ all q)
apart-want s u (Deq r have) q all =
    cond_both (is_owner (standing_of (list_of s r) u)) (without same_res s r u) s (λ x. is_apart (list_of x q) ≡ true)
    (apart-without s q r u (all q)) (all q)
apart-want s u (Release r) q all = apart-without s q r u (all q)
apart-want s u (Look first count f) q all = all q
