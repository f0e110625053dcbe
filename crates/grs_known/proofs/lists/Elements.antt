-- What requests leave of a task's own elements, by the lists and by the replies.
use Rattle.std.proofs.Common.{◌≡◌, ℕ, zero, suc, Bool, true, false, cond, not, ◌&&◌, ◌||◌, List, [], ◌∷◌, ◌++◌, map}
use Rattle.std.proofs.Common.{refl, ap, sym, ◌∙◌, subst, arith, append-nil}
use Rattle.std.specs.Prelude.{filter, ◌==◌}
use Rattle.std.specs.List.{list_all}
use Rattle.std.proofs.lemmas.Bool.Decides.{nat_tests}
use Rattle.grs_base.specs.Same.{same_res, same_task}
use Rattle.grs_base.specs.Lists.{has_task, is_apart, is_owner, is_shared, deq_code, standing_of, can_have, enq_decision}
use Rattle.grs_base.specs.Lists.{decide_enq}
use Rattle.grs_base.specs.State.{State, list_of, is_at, is_systems, without, with_exclusive, after_effect, remove_state}
use Rattle.grs_base.specs.State.{enq_code, enq_state}
use Rattle.grs_base.specs.declared.look.Filter.{Filter}
use Rattle.grs_base.specs.declared.resource.Ctl.{Ctl}
use Rattle.grs_base.specs.declared.resource.Ctl.TheVariants.{E}
use Rattle.grs_base.specs.declared.resource.Elem.{Elem}
use Rattle.grs_base.specs.declared.resource.Res.{Res}
use Rattle.grs_base.specs.declared.resource.Ret.{Ret}
use Rattle.grs_base.specs.declared.resource.Ret.TheVariants.{RetNone, RetUse, RetHave, RetTest, RetChng, RetEcb}
use Rattle.grs_base.specs.declared.resource.SysId.{SysId}
use Rattle.grs_base.specs.declared.resource.TaskId.{TaskId}
use Rattle.grs_base.specs.declared.decision.Effect.{Effect}
use Rattle.grs_base.specs.declared.decision.Effect.TheVariants.{Nothing, Append, MakeExclusive}
use Rattle.grs_base.specs.declared.decision.Standing.{Standing}
use Rattle.grs_base.specs.declared.decision.Standing.TheVariants.{Exclusive, OnlyShared, AmongShared, Waits, Absent}
use Rattle.grs_base.proofs.Picks.{pick-append, pick-filter, pick-filter_by, pick-map, pick-map_by}
use Rattle.grs_base.proofs.SameLaws.{same_task-exact, same_task-itself}
use Rattle.grs_wire.specs.History.{entries_for, fixed_entries, after_fixed, look_entries}
use Rattle.grs_wire.specs.Wants.{after_want}
use Rattle.grs_wire.specs.declared.request.Fixed.{Fixed}
use Rattle.grs_wire.specs.declared.request.Fixed.TheVariants.{Asked, LocalLook, Purged}
use Rattle.grs_wire.specs.declared.request.Want.{Want}
use Rattle.grs_wire.specs.declared.request.Want.TheVariants as wants
use Rattle.grs_wire.proofs.WantLaws.{cond_both, apart-want}
use Rattle.grs_wire.proofs.RemoveLaws.{apart-remove}
use Rattle.task_state.specs.Replies.{is_granted}
use Rattle.grs_known.specs.Items.{is_of, removes_system_of}
use Rattle.grs_known.specs.Past.{own_elements, made_exclusive, effect_told, own_by_effect, own_after}

-- ---- a request of another task leaves them
own-push_other : (s : State) (r : Res) (e : Elem) (t : TaskId) → same_task t e.task ≡ false
    → own_elements (s ++ (r, e) ∷ []) t ≡ own_elements s t
own-push_other s r e t apart =
    grind (
      arith,
      apart,
      append-nil,
      pick-append {Y = Res × Ctl} (λ (h : Res × Elem). same_task t h.1.task) (λ h. (h.0, h.1.ctl)) s ((r, e) ∷ []),
    )

own-without_other : (s : State) (r : Res) (t u : TaskId) → same_task t u ≡ false
    → own_elements (without same_res s r u) t ≡ own_elements s t
own-without_other s r t u apart =
    pick-filter (λ h. same_task t h.1.task) (λ h. (h.0, h.1.ctl)) (λ h. not (is_at same_res r u h))
    (λ h p. grind (arith, apart, same_task-exact t h.1.task p, same_task-exact u h.1.task, same_task-itself u)) s

own-exclusive_other : (s : State) (r : Res) (t u : TaskId) → same_task t u ≡ false
    → own_elements (with_exclusive same_res s r u) t ≡ own_elements s t
own-exclusive_other s r t u apart =
    pick-map (λ h. same_task t h.1.task) (λ h. (h.0, h.1.ctl))
    (λ h. cond (is_at same_res r u h) (h.0, record { task = h.1.task; ctl = E }) h)
    (λ h. grind arith)
    (λ h p. grind (arith, apart, same_task-exact t h.1.task p, same_task-exact u h.1.task, same_task-itself u)) s

own-effect_other : (s : State) (r : Res) (t u : TaskId) (c : Ctl) (e : Effect) → same_task t u ≡ false
    → own_elements (after_effect s r u c e) t ≡ own_elements s t
own-effect_other s r t u c Nothing apart = refl
own-effect_other s r t u c Append apart = own-push_other s r (record { task = u; ctl = c }) t apart
own-effect_other s r t u c MakeExclusive apart = own-exclusive_other s r t u apart

pub own-want_other : (s : State) (u : TaskId) (w : Want) (t : TaskId) → same_task t u ≡ false
    → own_elements (after_want s u w) t ≡ own_elements s t
own-want_other s u (wants.Enq r c ret full) t apart = own-effect_other s r t u c _ apart
own-want_other s u (wants.Deq r have) t apart =
    cond_both (is_owner (standing_of (list_of s r) u)) (without same_res s r u) s
    (λ x. own_elements x t ≡ own_elements s t) (own-without_other s r t u apart) refl
own-want_other s u (wants.Release r) t apart = own-without_other s r t u apart
own-want_other s u (wants.Look first count f) t apart = refl

-- so does the removal of another system
own-remove_other : (s : State) (n : ℕ) (t : TaskId) → (n == t.system.0) ≡ false
    → own_elements (remove_state s n) t ≡ own_elements s t
own-remove_other s n t apart =
    pick-filter (λ h. same_task t h.1.task) (λ h. (h.0, h.1.ctl))
    (λ h. not (is_systems h.0 && (n == h.1.task.system.0)))
    (λ h p.
    ap (λ (u : TaskId). not (is_systems h.0 && (n == u.system.0))) (sym (same_task-exact t h.1.task p))
    ∙ (ap (λ b. not (is_systems h.0 && b)) apart ∙ both_false (is_systems h.0)))
    s
  where
    both_false : (b : Bool) → not (b && false) ≡ true
    both_false true = refl
    both_false false = refl

-- ---- a task's own request changes them
own-push : (s : State) (r : Res) (t : TaskId) (c : Ctl)
    → own_elements (s ++ (r, record { task = t; ctl = c }) ∷ []) t ≡ own_elements s t ++ (r, c) ∷ []
own-push s r t c =
    grind (
      arith,
      pick-append {Y = Res × Ctl} (λ (h : Res × Elem). same_task t h.1.task) (λ h. (h.0, h.1.ctl)) s
          ((r, record { task = t; ctl = c }) ∷ []),
      same_task-itself t,
    )

own-without : (s : State) (r : Res) (t : TaskId)
    → own_elements (without same_res s r t) t ≡ filter (λ k. not (same_res r k.0)) (own_elements s t)
own-without s r t =
    pick-filter_by (λ h. same_task t h.1.task) (λ h. (h.0, h.1.ctl)) (λ h. not (is_at same_res r t h))
    (λ k. not (same_res r k.0)) (λ h p. grind (arith, p)) s

own-exclusive : (s : State) (r : Res) (t : TaskId)
    → own_elements (with_exclusive same_res s r t) t ≡ map (made_exclusive r) (own_elements s t)
own-exclusive s r t =
    pick-map_by (λ h. same_task t h.1.task) (λ h. (h.0, h.1.ctl))
    (λ h. cond (is_at same_res r t h) (h.0, record { task = h.1.task; ctl = E }) h) (made_exclusive r)
    (λ h. grind arith) (λ h p. grind (arith, p)) s

own-after_effect : (s : State) (r : Res) (t : TaskId) (c : Ctl) (e : Effect)
    → own_elements (after_effect s r t c e) t ≡ own_by_effect e r c (own_elements s t)
own-after_effect s r t c Nothing = refl
own-after_effect s r t c Append = own-push s r t c
own-after_effect s r t c MakeExclusive = own-exclusive s r t

-- where all of a task's elements are exclusive already, making them so changes nothing
exclusive_front : (es : List Elem) (t : TaskId) → has_task es t ≡ false
    → list_all (λ e. not (same_task t e.task) || not (is_shared e.ctl)) es ≡ true
exclusive_front [] t h = refl
exclusive_front (e ∷ es) t h = grind (arith, h, exclusive_front es t)

all_exclusive : (es : List Elem) (t : TaskId) → is_apart es ≡ true → standing_of es t ≡ Exclusive
    → list_all (λ e. not (same_task t e.task) || not (is_shared e.ctl)) es ≡ true
all_exclusive [] t apart h = refl
all_exclusive (e ∷ es) t apart h = grind (arith, nat_tests, h, apart, same_task-exact t e.task, exclusive_front es t)

own-exclusive_already : (s : State) (t : TaskId) (r : Res)
    → list_all (λ e. not (same_task t e.task) || not (is_shared e.ctl)) (list_of s r) ≡ true
    → map (made_exclusive r) (own_elements s t) ≡ own_elements s t
own-exclusive_already [] t r h = refl
own-exclusive_already (x ∷ s) t r h = grind (arith, h, own-exclusive_already s t r)

-- an ENQ's code tells its effect; of one whose control was exclusive, what it leaves of the elements
abbrev EffectTold : List (Res × Ctl) → Res → Ctl → Ret → Bool → Bool → Standing → Type 0
EffectTold ks r c ret full can st =
    own_by_effect (enq_decision st ret full can).effect r c ks
    ≡ own_by_effect (effect_told ret (enq_decision st ret full can).code) r c ks

told-exclusive : (ks : List (Res × Ctl)) (r : Res) (c : Ctl) (ret : Ret) (full can : Bool)
    → map (made_exclusive r) ks ≡ ks → EffectTold ks r c ret full can Exclusive
told-exclusive ks r c RetNone full can same = refl
told-exclusive ks r c RetUse full can same = refl
told-exclusive ks r c RetHave full can same = refl
told-exclusive ks r c RetTest full can same = refl
told-exclusive ks r c RetChng full can same = sym same
told-exclusive ks r c RetEcb full can same = refl

abbrev not_exclusive : Standing → Bool
not_exclusive Exclusive = false
not_exclusive OnlyShared = true
not_exclusive AmongShared = true
not_exclusive Waits = true
not_exclusive Absent = true

effect-told : (st : Standing) (ret : Ret) (full can : Bool) → not_exclusive st ≡ true
    → (enq_decision st ret full can).effect ≡ effect_told ret (enq_decision st ret full can).code
effect-told st ret full can h = grind (arith, h)

told-standing : (ks : List (Res × Ctl)) (r : Res) (c : Ctl) (ret : Ret) (full can : Bool) (st : Standing)
    → (st ≡ Exclusive → map (made_exclusive r) ks ≡ ks) → EffectTold ks r c ret full can st
told-standing ks r c ret full can Exclusive same = told-exclusive ks r c ret full can (same refl)
told-standing ks r c ret full can OnlyShared same =
    ap (λ e. own_by_effect e r c ks) (effect-told OnlyShared ret full can refl)
told-standing ks r c ret full can AmongShared same =
    ap (λ e. own_by_effect e r c ks) (effect-told AmongShared ret full can refl)
told-standing ks r c ret full can Waits same = ap (λ e. own_by_effect e r c ks) (effect-told Waits ret full can refl)
told-standing ks r c ret full can Absent same = ap (λ e. own_by_effect e r c ks) (effect-told Absent ret full can refl)

own-enq : (s : State) (r : Res) (t : TaskId) (c : Ctl) (ret : Ret) (full : Bool) → is_apart (list_of s r) ≡ true →
    own_elements (enq_state s r t c ret full) t
    ≡ own_by_effect (effect_told ret (enq_code s r t c ret full)) r c (own_elements s t)
own-enq s r t c ret full apart =
    own-after_effect s r t c (decide_enq (list_of s r) t c ret full).effect
    ∙ told-standing (own_elements s t) r c ret full (can_have (list_of s r) c) (standing_of (list_of s r) t)
    (λ e. own-exclusive_already s t r (all_exclusive (list_of s r) t apart e))

own-deq : (s : State) (r : Res) (t : TaskId) (have : Bool) (st : Standing) →
    own_elements (cond (is_owner st) (without same_res s r t) s) t
    ≡ cond (is_granted (deq_code st have)) (filter (λ k. not (same_res r k.0)) (own_elements s t)) (own_elements s t)
own-deq s r t have Exclusive = own-without s r t
own-deq s r t have OnlyShared = own-without s r t
own-deq s r t have AmongShared = own-without s r t
own-deq s r t true Waits = refl
own-deq s r t false Waits = refl
own-deq s r t true Absent = refl
own-deq s r t false Absent = refl

own_after-looks : (ks : List (Res × Ctl)) (s : State) (t : TaskId) (first count : ℕ) (f : Filter)
    → own_after ks (look_entries s t first count f) ≡ ks
own_after-looks ks s t first zero f = refl
own_after-looks ks s t first (suc count) f = own_after-looks ks s t (suc first) count f

pub own-want : (s : State) (t : TaskId) (w : Want) → ((r : Res) → is_apart (list_of s r) ≡ true)
    → own_elements (after_want s t w) t ≡ own_after (own_elements s t) (entries_for s t w)
own-want s t (wants.Enq r c ret full) apart = own-enq s r t c ret full (apart r)
own-want s t (wants.Deq r have) apart = own-deq s r t have (standing_of (list_of s r) t)
own-want s t (wants.Release r) apart = own-without s r t
own-want s t (wants.Look first count f) apart = sym (own_after-looks (own_elements s t) s t first count f)

-- ---- what was fixed
pub apart-fixed : (s : State) (f : Fixed) → ((r : Res) → is_apart (list_of s r) ≡ true) → (r : Res)
    → is_apart (list_of (after_fixed s f) r) ≡ true
apart-fixed s (Asked q) apart r = apart-want s q.task q.want r apart
apart-fixed s (LocalLook u f) apart r = apart r
apart-fixed s (Purged target) apart r = apart-remove s target.0 r (apart r)

pub own-fixed : (s : State) (t : TaskId) (by : SysId) (f : Fixed) → ((r : Res) → is_apart (list_of s r) ≡ true)
    → is_of t f ≡ true → own_elements (after_fixed s f) t ≡ own_after (own_elements s t) (fixed_entries s by f)
own-fixed s t by (Asked q) apart own =
    subst (λ u. own_elements (after_want s u q.want) t ≡ own_after (own_elements s t) (entries_for s u q.want))
    (same_task-exact t q.task own) (own-want s t q.want apart)
own-fixed s t by (LocalLook u f) apart own = refl
own-fixed s t by (Purged target) apart own = cc

pub own-fixed_other : (s : State) (t : TaskId) (f : Fixed) → is_of t f ≡ false → removes_system_of t f ≡ false
    → own_elements (after_fixed s f) t ≡ own_elements s t
own-fixed_other s t (Asked q) apart live = own-want_other s q.task q.want t apart
own-fixed_other s t (LocalLook u f) apart live = refl
own-fixed_other s t (Purged target) apart live = own-remove_other s target.0 t live
