-- Who owns before and after a change of the list.
use Rattle.std.proofs.Common.{◌≡◌, ℕ, zero, suc, Bool, true, false, cond, not, ◌&&◌, ◌||◌, List, [], ◌∷◌, ◌++◌, take}
use Rattle.std.proofs.Common.{drop, length, refl, ap, sym, ◌∙◌, arith}
use Rattle.std.specs.List.{list_all}
use Rattle.std.specs.Prelude.{filter, map}
use Rattle.std.proofs.lemmas.Bool.Decides.{nat_tests}
use Rattle.grs_base.specs.Same.{same_res, same_task}
use Rattle.grs_base.specs.Lists.{is_apart, has_task, is_shared, shared_front, owners, owns, owns_shared, standing_of}
use Rattle.grs_base.specs.Lists.{list_after, list_exclusive, list_without, is_owner, decide_enq}
use Rattle.grs_base.specs.State.{pick, State, list_of, enq_state, deq_state, release_state}
use Rattle.grs_base.specs.declared.resource.TaskId.{TaskId}
use Rattle.grs_base.specs.declared.resource.Elem.{Elem}
use Rattle.grs_base.specs.declared.resource.Res.{Res}
use Rattle.grs_base.specs.declared.resource.Ctl.{Ctl}
use Rattle.grs_base.specs.declared.resource.Ret.{Ret}
use Rattle.grs_base.specs.declared.decision.Effect.{Effect}
use Rattle.grs_base.specs.declared.decision.Effect.TheVariants.{Nothing, Append, MakeExclusive}
use Rattle.grs_base.specs.declared.decision.Standing.TheVariants.{OnlyShared}
use Rattle.grs_base.proofs.SameLaws.{same_task-itself}
use Rattle.grs_base.proofs.ListLaws.{same_task-sym, is_owner-standing}
use Rattle.grs_base.proofs.StateLaws.{list_at-without, res_equality, list_of-effect, only_owner}
use Rattle.grs_wire.specs.Wants.{became_owners}

module _ (p : Elem → Bool) where
  none_in_front : (es : List Elem) → ((x : Elem) → owns_shared es x.task ≡ true → p x ≡ false)
      → pick p (λ e. e.task) (take (shared_front es) es) ≡ []
  none_in_front [] h = refl
  none_in_front (e ∷ es) h = step (none_in_front es) (is_shared e.ctl) refl
    where
      step :
          (((x : Elem) → owns_shared es x.task ≡ true → p x ≡ false)
          → pick p (λ e. e.task) (take (shared_front es) es) ≡ [])
          → (b : Bool) → is_shared e.ctl ≡ b
          → pick p (λ e. e.task) (take (cond b (suc (shared_front es)) 0) (e ∷ es)) ≡ []
      step rest true s =
          let first : p e ≡ false = h e (grind (arith, s, same_task-itself e.task)) in
          let others : pick p (λ e. e.task) (take (shared_front es) es) ≡ [] =
          rest (λ x o. h x (grind (arith, s, o))) in
          grind (arith, first, others)
      step rest false s = refl

  -- nothing is picked of the owners where each owner fails the test
  none_of_owners : (es : List Elem) → ((x : Elem) → owns es x.task ≡ true → p x ≡ false)
      → pick p (λ e. e.task) (take (owners es) es) ≡ []
  none_of_owners [] h = refl
  none_of_owners (e ∷ es) h = step (h e (grind (arith, same_task-itself e.task))) (is_shared e.ctl) refl
    where
      step : p e ≡ false → (b : Bool) → is_shared e.ctl ≡ b
          → pick p (λ e. e.task) (take (cond b (suc (shared_front es)) 1) (e ∷ es)) ≡ []
      step first true s =
          let others : pick p (λ e. e.task) (take (shared_front es) es) ≡ [] =
          none_in_front es (λ x o. h x (grind (arith, s, o))) in
          grind (arith, first, others)
      step first false s = grind (arith, first)

owns_shared-push : (es : List Elem) (x : Elem) (t : TaskId) → owns_shared (es ++ x ∷ []) t ≡ true
    → (owns_shared es t || same_task t x.task) ≡ true
owns_shared-push [] x t h = grind (arith, h)
owns_shared-push (e ∷ es) x t h = grind (arith, h, owns_shared-push es x t)

-- who owns behind a new element owned before, or is the new element's task
owns-push : (es : List Elem) (x : Elem) (t : TaskId) → owns (es ++ x ∷ []) t ≡ true
    → (owns es t || same_task t x.task) ≡ true
owns-push [] x t h = grind (arith, h)
owns-push (e ∷ es) x t h = grind (arith, h, owns_shared-push es x t)

pub became_owners-same : (es : List Elem) (t : TaskId) → became_owners es es t ≡ []
became_owners-same es t =
    none_of_owners (λ e. not (owns es e.task) && not (same_task t e.task)) es (λ x o. grind (arith, o))

became_owners-push : (es : List Elem) (t : TaskId) (c : Ctl)
    → became_owners es (es ++ record { task = t; ctl = c } ∷ []) t ≡ []
became_owners-push es t c =
    none_of_owners (λ e. not (owns es e.task) && not (same_task t e.task)) (es ++ record { task = t; ctl = c } ∷ [])
    (λ x o. grind (arith, owns-push es (record { task = t; ctl = c }) x.task o, same_task-sym t x.task))

became_owners-exclusive : (es : List Elem) (t : TaskId) → standing_of es t ≡ OnlyShared
    → became_owners es (list_exclusive es t) t ≡ []
became_owners-exclusive [] t h = cc
became_owners-exclusive (e ∷ es) t h = grind (arith, nat_tests, h)

became_owners-effect : (es : List Elem) (t : TaskId) (c : Ctl) (e : Effect)
    → (e ≡ MakeExclusive → standing_of es t ≡ OnlyShared) → became_owners es (list_after es t c e) t ≡ []
became_owners-effect es t c Nothing only = became_owners-same es t
became_owners-effect es t c Append only = became_owners-push es t c
became_owners-effect es t c MakeExclusive only = became_owners-exclusive es t (only refl)

-- an ENQ gives control to no other task
pub became_owners-enq : (s : State) (r : Res) (t : TaskId) (c : Ctl) (ret : Ret) (full : Bool)
    → [] ≡ became_owners (list_of s r) (list_of (enq_state s r t c ret full) r) t
became_owners-enq s r t c ret full =
    sym (ap (λ (l : List Elem). became_owners (list_of s r) l t)
    (list_of-effect s r t c (decide_enq (list_of s r) t c ret full).effect)
    ∙ became_owners-effect (list_of s r) t c (decide_enq (list_of s r) t c ret full).effect
    (only_owner (list_of s r) t c ret full))

list_of-cond : (b : Bool) (s u : State) (r : Res) → list_of (cond b s u) r ≡ cond b (list_of s r) (list_of u r)
list_of-cond true s u r = refl
list_of-cond false s u r = refl

-- a RELEASE takes the element out wherever it stands
pub list_of-release : (s : State) (r : Res) (t : TaskId)
    → list_of (release_state s r t) r ≡ list_without (list_of s r) t
list_of-release s r t = list_at-without same_res res_equality s r t

-- a DEQ takes the element of an owner out of the list
pub list_of-deq : (s : State) (r : Res) (t : TaskId)
    → list_of (deq_state s r t) r ≡ cond (owns (list_of s r) t) (list_without (list_of s r) t) (list_of s r)
list_of-deq s r t =
    list_of-cond (is_owner (standing_of (list_of s r) t)) (release_state s r t) s r
    ∙ ap (λ (b : Bool). cond b (list_of (release_state s r t) r) (list_of s r)) (is_owner-standing (list_of s r) t)
    ∙ ap (λ (l : List Elem). cond (owns (list_of s r) t) l (list_of s r)) (list_of-release s r t)

-- a test that follows passes all
all_more : {X : Type 0} (q r : X → Bool) → ((x : X) → q x ≡ true → r x ≡ true) → (xs : List X) → list_all q xs ≡ true
    → list_all r xs ≡ true
all_more q r up [] h = refl
all_more q r up (x ∷ xs) h = grind (arith, h, up x, all_more q r up xs)

all_drop : {X : Type 0} (q : X → Bool) (k : ℕ) (xs : List X) → list_all q xs ≡ true → list_all q (drop k xs) ≡ true
all_drop q zero xs h = h
all_drop q (suc k) [] h = h
all_drop q (suc k) (x ∷ xs) h = all_drop q k xs (grind (arith, h))

all_both : {X : Type 0} (q r : X → Bool) (xs : List X) → list_all q xs ≡ true → list_all r xs ≡ true
    → list_all (λ x. q x && r x) xs ≡ true
all_both q r [] h k = refl
all_both q r (x ∷ xs) h k = grind (arith, h, k, all_both q r xs)

all_filter : {X : Type 0} (q r : X → Bool) (xs : List X) → list_all q xs ≡ true
    → list_all (λ x. q x && r x) (filter r xs) ≡ true
all_filter q r [] h = refl
all_filter q r (x ∷ xs) h = grind (arith, h, all_filter q r xs)

all_pass : {X : Type 0} (q : X → Bool) → ((x : X) → q x ≡ true) → (xs : List X) → list_all q xs ≡ true
all_pass q yes_all [] = refl
all_pass q yes_all (x ∷ xs) = grind (arith, yes_all x, all_pass q yes_all xs)

front_owns : (es : List Elem) → list_all (λ x. owns_shared es x.task) (take (shared_front es) es) ≡ true
front_owns [] = refl
front_owns (e ∷ es) = step (front_owns es) (is_shared e.ctl) refl
  where
    step : list_all (λ x. owns_shared es x.task) (take (shared_front es) es) ≡ true → (b : Bool) → is_shared e.ctl ≡ b
        → list_all (λ x. b && (same_task x.task e.task || owns_shared es x.task))
        (take (cond b (suc (shared_front es)) 0) (e ∷ es))
        ≡ true
    step rest true s =
        grind (
          arith,
          same_task-itself e.task,
          all_more (λ x. owns_shared es x.task) (λ x. same_task x.task e.task || owns_shared es x.task)
              (λ x h. grind (arith, h)) (take (shared_front es) es) rest,
        )
    step rest false s = refl

-- the first elements own
owners_own : (es : List Elem) → list_all (λ x. owns es x.task) (take (owners es) es) ≡ true
owners_own [] = refl
owners_own (e ∷ es) = step (is_shared e.ctl) refl
  where
    step : (b : Bool) → is_shared e.ctl ≡ b
        → list_all (λ x. same_task x.task e.task || (b && owns_shared es x.task))
        (take (cond b (suc (shared_front es)) 1) (e ∷ es))
        ≡ true
    step true s =
        grind (
          arith,
          same_task-itself e.task,
          all_more (λ x. owns_shared es x.task) (λ x. same_task x.task e.task || owns_shared es x.task)
              (λ x h. grind (arith, h)) (take (shared_front es) es) (front_owns es),
        )
    step false s = grind (arith, same_task-itself e.task)

-- a task that has no element has none of these
all_others : (es : List Elem) (t : TaskId) → has_task es t ≡ false → list_all (λ x. not (same_task x.task t)) es ≡ true
all_others [] t h = refl
all_others (e ∷ es) t h = grind (arith, h, same_task-sym t e.task, all_others es t)

behind_front : (es : List Elem) → is_apart es ≡ true
    → list_all (λ x. not (owns_shared es x.task)) (drop (shared_front es) es) ≡ true
behind_front [] h = refl
behind_front (e ∷ es) h = step (behind_front es (grind (arith, h))) (is_shared e.ctl) refl
  where
    step : list_all (λ x. not (owns_shared es x.task)) (drop (shared_front es) es) ≡ true → (b : Bool)
        → is_shared e.ctl ≡ b
        → list_all (λ x. not (b && (same_task x.task e.task || owns_shared es x.task)))
        (drop (cond b (suc (shared_front es)) 0) (e ∷ es))
        ≡ true
    step rest true s =
        all_more (λ x. not (same_task x.task e.task) && not (owns_shared es x.task))
        (λ x. not (same_task x.task e.task || owns_shared es x.task)) (λ x k. grind (arith, k))
        (drop (shared_front es) es)
        (all_both (λ x. not (same_task x.task e.task)) (λ x. not (owns_shared es x.task)) (drop (shared_front es) es)
        (all_drop (λ x. not (same_task x.task e.task)) (shared_front es) es (all_others es e.task (grind (arith, h))))
        rest)
    step rest false s = all_pass (λ x. true) (λ x. refl) (e ∷ es)

-- the elements behind the owners don't own
behind_owners : (es : List Elem) → is_apart es ≡ true
    → list_all (λ x. not (owns es x.task)) (drop (owners es) es) ≡ true
behind_owners [] h = refl
behind_owners (e ∷ es) h = step (is_shared e.ctl) refl
  where
    step : (b : Bool) → is_shared e.ctl ≡ b
        → list_all (λ x. not (same_task x.task e.task || (b && owns_shared es x.task)))
        (drop (cond b (suc (shared_front es)) 1) (e ∷ es))
        ≡ true
    step true s =
        all_more (λ x. not (same_task x.task e.task) && not (owns_shared es x.task))
        (λ x. not (same_task x.task e.task || owns_shared es x.task)) (λ x k. grind (arith, k))
        (drop (shared_front es) es)
        (all_both (λ x. not (same_task x.task e.task)) (λ x. not (owns_shared es x.task)) (drop (shared_front es) es)
        (all_drop (λ x. not (same_task x.task e.task)) (shared_front es) es (all_others es e.task (grind (arith, h))))
        (behind_front es (grind (arith, h))))
    step false s =
        all_more (λ x. not (same_task x.task e.task)) (λ x. not (same_task x.task e.task || false))
        (λ x k. grind (arith, k)) es (all_others es e.task (grind (arith, h)))

-- what is picked of a front of two lists, of which the one fails and the other passes
pick-pass : {X Y : Type 0} (p : X → Bool) (f : X → Y) (n : ℕ) (xs : List X) → list_all p xs ≡ true
    → pick p f (take n xs) ≡ map f (take n xs)
pick-pass p f zero xs h = refl
pick-pass p f (suc n) [] h = refl
pick-pass p f (suc n) (x ∷ xs) h = grind (arith, h, pick-pass p f n xs)

pick-behind : {X Y : Type 0} (p : X → Bool) (f : X → Y) (n : ℕ) (xs ys : List X) → list_all (λ x. not (p x)) xs ≡ true
    → list_all p ys ≡ true → pick p f (take n (xs ++ ys)) ≡ map f (drop (length xs) (take n (xs ++ ys)))
pick-behind p f n [] ys h k = pick-pass p f n ys k
pick-behind p f zero (x ∷ xs) ys h k = refl
pick-behind p f (suc n) (x ∷ xs) ys h k = grind (arith, h, pick-behind p f n xs ys (grind (arith, h)) k)

filter-split : {X : Type 0} (q : X → Bool) (k : ℕ) (xs : List X)
    → filter q xs ≡ filter q (take k xs) ++ filter q (drop k xs)
filter-split q zero xs = refl
filter-split q (suc k) [] = refl
filter-split q (suc k) (x ∷ xs) = grind (arith, filter-split q k xs)

-- the new owners are the owners behind those that owned before
pub became_owners-without : (es : List Elem) (t : TaskId) → is_apart es ≡ true →
    became_owners es (list_without es t) t
    ≡ map (λ e. e.task)
    (drop (length (list_without (take (owners es) es) t)) (take (owners (list_without es t)) (list_without es t)))
became_owners-without es t apart =
    let new : Elem → Bool = λ e. not (owns es e.task) && not (same_task t e.task) in
    let other : Elem → Bool = λ e. not (same_task t e.task) in
    let front : List Elem = list_without (take (owners es) es) t in
    let back : List Elem = list_without (drop (owners es) es) t in
    let split : list_without es t ≡ front ++ back = filter-split other (owners es) es in
    let n : ℕ = owners (list_without es t) in
    let own : list_all (λ x. owns es x.task && other x) front ≡ true =
    all_filter (λ x. owns es x.task) other (take (owners es) es) (owners_own es) in
    let fails : list_all (λ x. not (new x)) front ≡ true =
    all_more (λ x. owns es x.task && other x) (λ x. not (new x)) (λ x h. grind (arith, h)) front own in
    let passes : list_all new back ≡ true =
    all_filter (λ x. not (owns es x.task)) other (drop (owners es) es) (behind_owners es apart) in
    ap (λ (l : List Elem). pick new (λ e. e.task) (take n l)) split
    ∙ pick-behind new (λ e. e.task) n front back fails passes
    ∙ ap (λ (l : List Elem). map (λ (e : Elem). e.task) (drop (length front) (take n l))) (sym split)

pub ruleset outcomes = (became_owners-same, became_owners-enq, list_of-deq, list_of-release)
