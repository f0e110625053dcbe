-- The grants of a call are those who waited before it and own behind it.
use Rattle.std.proofs.Common.{◌≡◌, ◌+◌, ℕ, zero, suc, Bool, true, false, cond, not, ◌&&◌, ◌||◌, List, [], ◌∷◌, ◌++◌}
use Rattle.std.proofs.Common.{take, refl, ap, sym, ◌∙◌, arith}
use Rattle.std.specs.Str.{bytes_eq}
use Rattle.grs_base.specs.Same.{same_task}
use Rattle.grs_base.specs.Lists.{has_task, is_shared, shared_front, owners, owns, owns_shared, standing_of, can_have}
use Rattle.grs_base.specs.Lists.{is_owner, list_without}
use Rattle.grs_base.specs.State.{pick}
use Rattle.grs_base.specs.declared.resource.TaskId.{TaskId}
use Rattle.grs_base.specs.declared.resource.Elem.{Elem}
use Rattle.grs_base.specs.declared.resource.Ctl.{Ctl}
use Rattle.grs_base.specs.declared.decision.Standing.TheVariants.{Absent}
use Rattle.grs_base.proofs.SameLaws.{same_task-itself, same_task-exact}
use Rattle.grs_wire.specs.Wants.{became_owners}
use Rattle.queue_table.proofs.OwnerLemmas.{became_owners-same}
use Rattle.grs_latch.specs.Latches.{Lists, task_of, is_queued, obtained, released, changed_at, grants_at}
use Rattle.grs_latch.specs.Latches.{owners_without}
use Rattle.grs_latch.specs.Latches.{release_grants, purged, purge_grants}
use Rattle.grs_latch.specs.Calls.{Sets, name_of, reply_in, lists_after, reply_apart, reply, after}
use Rattle.grs_latch.specs.Granted.{waits, granted, granted_in, granted_of}
use Rattle.grs_latch.specs.declared.call.LatchCall.{LatchCall}
use Rattle.grs_latch.specs.declared.call.LatchCall.TheVariants.{Crt, Obt, Rel, Prg}
use Rattle.grs_latch.specs.declared.reply.Grant.{Grant}
use Rattle.grs_latch.specs.declared.sets.NamedSet.{NamedSet}
use Rattle.grs_latch.proofs.LatchLemmas.{queued_absent, absent_none}
use Rattle.grs_latch.proofs.NumberLemmas.{by_cases}

-- of the owners none is picked who doesn't own
module _ (q : TaskId → Bool) where
  none_shared : (es : List Elem) → ((u : TaskId) → owns_shared es u ≡ true → q u ≡ false)
      → pick (λ e. q e.task) (λ e. e.task) (take (shared_front es) es) ≡ []
  none_shared [] h = refl
  none_shared (e ∷ es) h = step (none_shared es) (is_shared e.ctl) refl
    where
      step :
          (((u : TaskId) → owns_shared es u ≡ true → q u ≡ false)
          → pick (λ e. q e.task) (λ e. e.task) (take (shared_front es) es) ≡ [])
          → (b : Bool) → is_shared e.ctl ≡ b
          → pick (λ e. q e.task) (λ e. e.task) (take (cond b (suc (shared_front es)) 0) (e ∷ es)) ≡ []
      step rest true s =
          let first : q e.task ≡ false = h e.task (grind (arith, s, same_task-itself e.task)) in
          let others : pick (λ e. q e.task) (λ e. e.task) (take (shared_front es) es) ≡ [] =
          rest (λ u o. h u (grind (arith, s, o))) in
          grind (arith, first, others)
      step rest false s = refl

  none_owning : (es : List Elem) → ((u : TaskId) → owns es u ≡ true → q u ≡ false)
      → pick (λ e. q e.task) (λ e. e.task) (take (owners es) es) ≡ []
  none_owning [] h = refl
  none_owning (e ∷ es) h = step (h e.task (grind (arith, same_task-itself e.task))) (is_shared e.ctl) refl
    where
      step : q e.task ≡ false → (b : Bool) → is_shared e.ctl ≡ b
          → pick (λ e. q e.task) (λ e. e.task) (take (cond b (suc (shared_front es)) 1) (e ∷ es)) ≡ []
      step first true s =
          let others : pick (λ e. q e.task) (λ e. e.task) (take (shared_front es) es) ≡ [] =
          none_shared es (λ u o. h u (grind (arith, s, o))) in
          grind (arith, first, others)
      step first false s = grind (arith, first)

-- a list that stays grants nothing
granted-same : (es : List Elem) → granted es es ≡ []
granted-same es = none_owning (waits es) es (λ u o. grind (arith, o))

owns_shared-more : (es : List Elem) (x : Elem) (u : TaskId) → owns_shared (es ++ x ∷ []) u ≡ true
    → (owns_shared es u || same_task u x.task) ≡ true
owns_shared-more [] x u h = grind (arith, h)
owns_shared-more (e ∷ es) x u h = grind (arith, h, owns_shared-more es x u)

owns-more : (es : List Elem) (x : Elem) (u : TaskId) → owns (es ++ x ∷ []) u ≡ true
    → (owns es u || same_task u x.task) ≡ true
owns-more [] x u h = grind (arith, h)
owns-more (e ∷ es) x u h = grind (arith, h, owns_shared-more es x u)

has_task-same : (es : List Elem) (t u : TaskId) → same_task u t ≡ true → has_task es t ≡ false → has_task es u ≡ false
has_task-same es t u same none = ap (has_task es) (same_task-exact u t same) ∙ none

-- nor does one with a request more, of a task that had none
granted-more : (es : List Elem) (x : Elem) → has_task es x.task ≡ false → granted es (es ++ x ∷ []) ≡ []
granted-more es x none = none_owning (waits es) (es ++ x ∷ [])
    (λ u o. by_cases (same_task u x.task)
    (λ same. grind (arith, has_task-same es x.task u same none))
    (λ apart. grind (arith, apart, owns-more es x u o)))

granted-either : (b : Bool) (es more : List Elem) → (b ≡ true → granted es more ≡ [])
    → granted es (cond b more es) ≡ []
granted-either true es more h = h refl
granted-either false es more h = granted-same es

granted-obtained : (t : TaskId) (c : Ctl) (may_wait : Bool) (es : List Elem)
    → granted es (obtained es t c may_wait) ≡ []
granted-obtained t c may_wait es =
    granted-either (is_queued (standing_of es t) (can_have es c) may_wait) es (es ++ record { task = t; ctl = c } ∷ [])
    (λ h. granted-more es (record { task = t; ctl = c })
    (absent_none es t (queued_absent (standing_of es t) (can_have es c) may_wait h)))

-- where a request leaves, all that are left had one before
left_over : (before es : List Elem) (t : TaskId) (n : ℕ)
    → ((u : TaskId) → has_task es u ≡ true → has_task before u ≡ true)
    → pick (λ e. not (owns before e.task) && not (same_task t e.task)) (λ e. e.task) (take n (list_without es t))
    ≡ pick (λ e. waits before e.task) (λ e. e.task) (take n (list_without es t))
left_over before es t zero there = refl
left_over before [] t (suc n) there = refl
left_over before (e ∷ es) t (suc n) there =
    let first : has_task before e.task ≡ true = there e.task (grind (arith, same_task-itself e.task)) in
    let deeper : (u : TaskId) → has_task es u ≡ true → has_task before u ≡ true = λ u h. there u (grind (arith, h)) in
    step first (left_over before es t (suc n) deeper) (left_over before es t n deeper) (same_task t e.task) refl
  where
    step : has_task before e.task ≡ true
        → pick (λ e. not (owns before e.task) && not (same_task t e.task)) (λ e. e.task)
        (take (suc n) (list_without es t))
        ≡ pick (λ e. waits before e.task) (λ e. e.task) (take (suc n) (list_without es t))
        → pick (λ e. not (owns before e.task) && not (same_task t e.task)) (λ e. e.task) (take n (list_without es t))
        ≡ pick (λ e. waits before e.task) (λ e. e.task) (take n (list_without es t))
        → (b : Bool) → same_task t e.task ≡ b
        → pick (λ e. not (owns before e.task) && not (same_task t e.task)) (λ e. e.task)
        (take (suc n) (cond (not b) (e ∷ list_without es t) (list_without es t)))
        ≡ pick (λ e. waits before e.task) (λ e. e.task)
        (take (suc n) (cond (not b) (e ∷ list_without es t) (list_without es t)))
    step first same less true s = same
    step first same less false s = grind (arith, s, first, less)

granted-without : (es : List Elem) (t : TaskId) → owners_without es t ≡ granted es (list_without es t)
granted-without es t = left_over es es t (owners (list_without es t)) (λ u h. h)

became-either : (b : Bool) (es less : List Elem) (t : TaskId) → became_owners es less t ≡ granted es less
    → became_owners es (cond b less es) t ≡ granted es (cond b less es)
became-either true es less t h = h
became-either false es less t h = became_owners-same es t ∙ sym (granted-same es)

granted-released : (es : List Elem) (t : TaskId) → became_owners es (released es t) t ≡ granted es (released es t)
granted-released es t =
    became-either (is_owner (standing_of es t)) es (list_without es t) t (granted-without es t)

-- the same of the latches of a set
granted_in-same : (at l : ℕ) (ls : Lists) → granted_in at l ls ls ≡ []
granted_in-same at l [] = refl
granted_in-same at l (es ∷ ls) =
    ap (λ (ts : List TaskId). grants_at at l ts ++ granted_in at (suc l) ls ls) (granted-same es)
    ∙ granted_in-same at (suc l) ls

-- latches behind one that grants nothing
granted_in-behind : (at l : ℕ) (es : List Elem) (ls ms : Lists)
    → granted_in at (suc l) ls ms ≡ granted_in at l (es ∷ ls) (es ∷ ms)
granted_in-behind at l es ls ms =
    sym (ap (λ (ts : List TaskId). grants_at at l ts ++ granted_in at (suc l) ls ms) (granted-same es))

granted_in-obtained : (at l n : ℕ) (t : TaskId) (c : Ctl) (may_wait : Bool) (ls : Lists)
    → granted_in at l ls (changed_at (λ es. obtained es t c may_wait) n ls) ≡ []
granted_in-obtained at l n t c may_wait [] = refl
granted_in-obtained at l zero t c may_wait (es ∷ ls) =
    ap (λ (ts : List TaskId). grants_at at l ts ++ granted_in at (suc l) ls ls) (granted-obtained t c may_wait es)
    ∙ granted_in-same at (suc l) ls
granted_in-obtained at l (suc n) t c may_wait (es ∷ ls) =
    sym (granted_in-behind at l es ls (changed_at (λ es. obtained es t c may_wait) n ls))
    ∙ granted_in-obtained at (suc l) n t c may_wait ls

nothing_more : (xs ys : List Grant) → ys ≡ [] → xs ≡ xs ++ ys
nothing_more [] ys h = sym h
nothing_more (x ∷ xs) ys h = ap (λ (zs : List Grant). x ∷ zs) (nothing_more xs ys h)

granted_in-released : (at k l n : ℕ) (ls : Lists) (t : TaskId) → k ≡ l + n
    → release_grants at k n ls t ≡ granted_in at l ls (changed_at (λ es. released es t) n ls)
granted_in-released at k l n [] t is = refl
granted_in-released at k l zero (es ∷ ls) t is =
    let same : k ≡ l = omega (arith, is) in
    ap (λ (m : ℕ). grants_at at m (became_owners es (released es t) t)) same
    ∙ ap (λ (ts : List TaskId). grants_at at l ts) (granted-released es t)
    ∙ nothing_more (grants_at at l (granted es (released es t))) (granted_in at (suc l) ls ls)
    (granted_in-same at (suc l) ls)
granted_in-released at k l (suc n) (es ∷ ls) t is =
    granted_in-released at k (suc l) n ls t (omega (arith, is))
    ∙ granted_in-behind at l es ls (changed_at (λ es. released es t) n ls)

granted_in-purged : (at l : ℕ) (ls : Lists) (t : TaskId) → purge_grants at l ls t ≡ granted_in at l ls (purged ls t)
granted_in-purged at l [] t = refl
granted_in-purged at l (es ∷ ls) t =
    ap (λ (ts : List TaskId). grants_at at l ts ++ purge_grants at (suc l) ls t) (granted-without es t)
    ∙ ap (λ (gs : List Grant). grants_at at l (granted es (list_without es t)) ++ gs)
    (granted_in-purged at (suc l) ls t)

granted_in-call : (at : ℕ) (c : LatchCall) (ls : Lists)
    → (reply_in at c ls).grants ≡ granted_in at 0 ls (lists_after c ls)
granted_in-call at (Crt n count) ls = sym (granted_in-same at 0 ls)
granted_in-call at (Obt n l r c sync) ls = sym (granted_in-obtained at 0 l (task_of r) c sync ls)
granted_in-call at (Rel n l r) ls = granted_in-released at l 0 l ls (task_of r) (omega arith)
granted_in-call at (Prg n r) ls = granted_in-purged at 0 ls (task_of r)

-- and of sets
granted_of-same : (at : ℕ) (ss : Sets) → granted_of at ss ss ≡ []
granted_of-same at [] = refl
granted_of-same at (s ∷ ss) =
    ap (λ (gs : List Grant). gs ++ granted_of (suc at) ss ss) (granted_in-same at 0 s.latches)
    ∙ granted_of-same (suc at) ss

pub apart-grants : (c : LatchCall) → (reply_apart c).grants ≡ []
apart-grants (Crt n count) = refl
apart-grants (Obt n l r c sync) = refl
apart-grants (Rel n l r) = refl
apart-grants (Prg n r) = refl

grants-granted : (at : ℕ) (c : LatchCall) (ss : Sets) → (reply at c ss).grants ≡ granted_of at ss (after c ss)
grants-granted at c [] = apart-grants c
grants-granted at c (s ∷ ss) = step (grants-granted (suc at) c ss) (bytes_eq s.name (name_of c))
  where
    step : (reply (suc at) c ss).grants ≡ granted_of (suc at) ss (after c ss) → (b : Bool)
        → (cond b (reply_in at c s.latches) (reply (suc at) c ss)).grants
        ≡ granted_of at (s ∷ ss)
        (cond b (record { name = s.name; latches = lists_after c s.latches } ∷ ss) (s ∷ after c ss))
    step rest true =
        granted_in-call at c s.latches
        ∙ nothing_more (granted_in at 0 s.latches (lists_after c s.latches)) (granted_of (suc at) ss ss)
        (granted_of-same (suc at) ss)
    step rest false =
        rest
        ∙ sym (ap (λ (gs : List Grant). gs ++ granted_of (suc at) ss (after c ss)) (granted_in-same at 0 s.latches))

-- the grants of a call
pub call-grants : (c : LatchCall) (ss : Sets) → (reply 0 c ss).grants ≡ granted_of 0 ss (after c ss)
call-grants c ss = grants-granted 0 c ss

pub ruleset grants = (call-grants, apart-grants)
