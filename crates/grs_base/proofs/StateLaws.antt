-- Laws of the state: what each step leaves in the list of each resource, and in the order of each task.
use Rattle.std.proofs.Common.{◌≡◌, Bool, true, false, cond, not, List, [], ◌∷◌, ◌++◌, refl, arith, append-nil}
use Rattle.grs_base.specs.Same.{same_res, same_task}
use Rattle.grs_base.specs.Lists.{list_after, list_exclusive, list_without, decide_enq, enq_decision, standing_of}
use Rattle.grs_base.specs.Lists.{can_have}
use Rattle.grs_base.specs.declared.resource.Ret.{Ret}
use Rattle.grs_base.specs.declared.decision.Standing.{Standing}
use Rattle.grs_base.specs.declared.decision.Standing.TheVariants.{OnlyShared, Absent}
use Rattle.grs_base.specs.State.{Held, list_at, without, with_exclusive, queued_by, is_at, State, list_of, after_effect}
use Rattle.grs_base.specs.declared.resource.Res.{Res}
use Rattle.grs_base.specs.declared.resource.TaskId.{TaskId}
use Rattle.grs_base.specs.declared.resource.Elem.{Elem}
use Rattle.grs_base.specs.declared.resource.Ctl.{Ctl}
use Rattle.grs_base.specs.declared.resource.Ctl.TheVariants.{E}
use Rattle.grs_base.specs.declared.decision.Effect.{Effect}
use Rattle.grs_base.specs.declared.decision.Effect.TheVariants.{Nothing, Append, MakeExclusive}
use Rattle.grs_base.proofs.SameLaws.{IsEquality, same_res-exact, same_res-itself}
use Rattle.grs_base.proofs.Picks.{pick-append, pick-filter, pick-filter_by, pick-map, pick-map_by}

module _ {K : Type 0} (same : K → K → Bool) (equality : IsEquality same) where
  -- a test that holds of one key holds of no other
  other_key : (k j x : K) → same k j ≡ false → same k x ≡ true → same j x ≡ false
  other_key k j x apart h = grind (arith, apart, equality.exact k x, equality.exact j x, equality.itself k, h)

  pub list_at-push : (s : Held K) (k : K) (e : Elem) → list_at same (s ++ (k, e) ∷ []) k ≡ list_at same s k ++ e ∷ []
  list_at-push s k e =
      grind (arith, pick-append (λ (h : K × Elem). same k h.0) (λ h. h.1) s ((k, e) ∷ []), equality.itself k)

  pub list_at-push_other : (s : Held K) (k j : K) (e : Elem) → same k j ≡ false
      → list_at same (s ++ (j, e) ∷ []) k ≡ list_at same s k
  list_at-push_other s k j e apart =
      grind (arith, apart, append-nil, pick-append (λ (h : K × Elem). same k h.0) (λ h. h.1) s ((j, e) ∷ []))

  pub list_at-without : (s : Held K) (k : K) (t : TaskId)
      → list_at same (without same s k t) k ≡ list_without (list_at same s k) t
  list_at-without s k t =
      pick-filter_by (λ h. same k h.0) (λ h. h.1) (λ h. not (is_at same k t h)) (λ x. not (same_task t x.task))
      (λ h p. grind (arith, p)) s

  pub list_at-without_other : (s : Held K) (k j : K) (t : TaskId) → same k j ≡ false
      → list_at same (without same s j t) k ≡ list_at same s k
  list_at-without_other s k j t apart =
      pick-filter (λ h. same k h.0) (λ h. h.1) (λ h. not (is_at same j t h))
      (λ h p. grind (arith, other_key k j h.0 apart p)) s

  pub list_at-exclusive : (s : Held K) (k : K) (t : TaskId)
      → list_at same (with_exclusive same s k t) k ≡ list_exclusive (list_at same s k) t
  list_at-exclusive s k t =
      pick-map_by (λ h. same k h.0) (λ h. h.1)
      (λ h. cond (is_at same k t h) (h.0, record { task = h.1.task; ctl = E }) h)
      (λ x. cond (same_task t x.task) (record { task = x.task; ctl = E }) x)
      (λ h. grind arith) (λ h p. grind (arith, p)) s

  pub list_at-exclusive_other : (s : Held K) (k j : K) (t : TaskId) → same k j ≡ false
      → list_at same (with_exclusive same s j t) k ≡ list_at same s k
  list_at-exclusive_other s k j t apart =
      pick-map (λ h. same k h.0) (λ h. h.1) (λ h. cond (is_at same j t h) (h.0, record { task = h.1.task; ctl = E }) h)
      (λ h. grind arith) (λ h p. grind (arith, other_key k j h.0 apart p)) s

pub res_equality : IsEquality same_res
res_equality = record { exact = same_res-exact; itself = same_res-itself }

-- the list of the resource that an ENQ speaks of
pub list_of-effect : (s : State) (r : Res) (t : TaskId) (c : Ctl) (e : Effect)
    → list_of (after_effect s r t c e) r ≡ list_after (list_of s r) t c e
list_of-effect s r t c Nothing = refl
list_of-effect s r t c Append = list_at-push same_res res_equality s r (record { task = t; ctl = c })
list_of-effect s r t c MakeExclusive = list_at-exclusive same_res res_equality s r t

-- any other list stays
pub list_of-effect_other : (s : State) (q r : Res) (t : TaskId) (c : Ctl) (e : Effect) → same_res q r ≡ false
    → list_of (after_effect s r t c e) q ≡ list_of s q
list_of-effect_other s q r t c Nothing apart = refl
list_of-effect_other s q r t c Append apart =
    list_at-push_other same_res res_equality s q r (record { task = t; ctl = c }) apart
list_of-effect_other s q r t c MakeExclusive apart = list_at-exclusive_other same_res res_equality s q r t apart

-- the order in which a task queued
pub queued_by-exclusive : {K : Type 0} (same : K → K → Bool) (s : Held K) (k : K) (t u : TaskId)
    → queued_by (with_exclusive same s k u) t ≡ queued_by s t
queued_by-exclusive same s k t u =
    pick-map (λ h. same_task t h.1.task) (λ h. h.0)
    (λ h. cond (is_at same k u h) (h.0, record { task = h.1.task; ctl = E }) h) (λ h. grind arith) (λ h p. grind arith)
    s

by_standing : (st : Standing) (ret : Ret) (full can : Bool) → (enq_decision st ret full can).effect ≡ MakeExclusive
    → st ≡ OnlyShared
by_standing st ret full can h = grind arith

append_by_standing : (st : Standing) (ret : Ret) (full can : Bool) → (enq_decision st ret full can).effect ≡ Append
    → st ≡ Absent
append_by_standing st ret full can h = grind arith

-- what a task decides exclusively is of the only owner
pub only_owner : (es : List Elem) (t : TaskId) (c : Ctl) (ret : Ret) (full : Bool)
    → (decide_enq es t c ret full).effect ≡ MakeExclusive → standing_of es t ≡ OnlyShared
only_owner es t c ret full h = by_standing (standing_of es t) ret full (can_have es c) h

pub appends_absent : (es : List Elem) (t : TaskId) (c : Ctl) (ret : Ret) (full : Bool)
    → (decide_enq es t c ret full).effect ≡ Append → standing_of es t ≡ Absent
appends_absent es t c ret full h = append_by_standing (standing_of es t) ret full (can_have es c) h
