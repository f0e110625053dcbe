-- Elements of a system that leave.
use Rattle.std.proofs.Common.{◌≡◌, ◌<◌, ◌≤◌, ◌+◌, ℕ, zero, suc, Bool, true, false, cond, not, ◌&&◌, ◌||◌, List, [], ◌∷◌}
use Rattle.std.proofs.Common.{◌++◌, length, take, Some, None, refl, ap, sym, ◌∙◌, subst, arith, eqb, nat_eq, add-one}
use Rattle.std.specs.Prelude.{filter, slice_get}
use Rattle.std.specs.List.{list_all}
use Rattle.std.proofs.lemmas.Bool.{eqb-true, eq-eqb}
use Rattle.std.proofs.lemmas.Bool.Decides.{nat_tests}
use Rattle.grs_base.specs.Same.{same_task}
use Rattle.grs_base.specs.Lists.{list_without}
use Rattle.grs_base.specs.State.{Held, list_at, is_at, without, is_systems, remove_state, is_of_other}
use Rattle.grs_base.specs.declared.resource.Res.{Res}
use Rattle.grs_base.specs.declared.resource.Elem.{Elem}
use Rattle.grs_base.proofs.SameLaws.{same_task-exact, same_task-itself, IsEquality}
use Rattle.grs_base.proofs.StateLaws.{list_at-without}
use Rattle.queue_table.specs.Names.{Numbers, name_of, named, is_paired, all_numbers, all_named, IsTable}
use Rattle.queue_table.specs.Purge.{purge_queue, purge, is_systems_number}
use Rattle.queue_table.proofs.NameLemmas.{named-filter, all_numbers-more, all_named-filter}

-- a filter that drops what a filter leaves alone
filter_idle : {X : Type 0} (p q : X → Bool) → ((x : X) → p x ≡ true → q x ≡ true) → (xs : List X)
    → filter p (filter q xs) ≡ filter p xs
filter_idle p q keeps [] = refl
filter_idle p q keeps (x ∷ xs) = grind (arith, keeps x, filter_idle p q keeps xs)

nat_equality : IsEquality nat_eq
nat_equality = record { exact = eqb-true; itself = λ a. eq-eqb a a refl }

take-filter : {X : Type 0} (q : X → Bool) (xs : List X) (p : ℕ) → list_all q (take p xs) ≡ true
    → take p (filter q xs) ≡ take p xs
take-filter q [] zero h = refl
take-filter q [] (suc p) h = refl
take-filter q (x ∷ xs) zero h = refl
take-filter q (x ∷ xs) (suc p) h = grind (arith, h, take-filter q xs p)

length-filter-le : {X : Type 0} (q : X → Bool) (xs : List X) → length (filter q xs) ≤ length xs
length-filter-le q [] = omega arith
length-filter-le q (x ∷ xs) = grind (arith, length-filter-le q xs)

length-filter-lt : {X : Type 0} (q : X → Bool) (xs : List X) (p : ℕ) (x : X) → slice_get xs p ≡ Some x → q x ≡ false
    → length (filter q xs) < length xs
length-filter-lt q [] p x e f = cc
length-filter-lt q (y ∷ xs) zero x e f = grind (arith, e, f, length-filter-le q xs)
length-filter-lt q (y ∷ xs) (suc p) x e f = grind (arith, e, f, length-filter-lt q xs p x)

all-filter : {X : Type 0} (f q : X → Bool) (xs : List X) → list_all f xs ≡ true → ((x : X) → f x ≡ true → q x ≡ true)
    → list_all q xs ≡ true
all-filter f q [] h up = refl
all-filter f q (x ∷ xs) h up = grind (arith, h, up x, all-filter f q xs)

-- one element of the system is taken out of the queue
pub purge_queue-take : (hs : Held ℕ) (q n p : ℕ) (e : Elem) → slice_get (list_at nat_eq hs q) p ≡ Some e
    → eqb n e.task.system.0 ≡ true → list_all (is_of_other n) (take p (list_at nat_eq hs q)) ≡ true →
    (purge_queue (without nat_eq hs q e.task) q n ≡ purge_queue hs q n)
    × ((list_all (is_of_other n) (take p (list_at nat_eq (without nat_eq hs q e.task) q)) ≡ true)
    × (length (list_at nat_eq (without nat_eq hs q e.task) q) < length (list_at nat_eq hs q)))
purge_queue-take hs q n p e at of all =
    let keeps : (x : Elem) → is_of_other n x ≡ true
    → not (same_task e.task x.task) ≡ true = λ x f. grind (arith, of, f, same_task-exact e.task x.task) in
    let list : list_at nat_eq (without nat_eq hs q e.task) q ≡ list_without (list_at nat_eq hs q) e.task =
    list_at-without nat_eq nat_equality hs q e.task in
    let front : take p (list_without (list_at nat_eq hs q) e.task) ≡ take p (list_at nat_eq hs q) =
    take-filter (λ x. not (same_task e.task x.task)) (list_at nat_eq hs q) p
    (all-filter (is_of_other n) (λ x. not (same_task e.task x.task)) (take p (list_at nat_eq hs q)) all keeps) in (
      filter_idle (λ h. not (eqb q h.0 && not (is_of_other n h.1))) (λ h. not (is_at nat_eq q e.task h))
          (λ h f. grind (arith, of, f, same_task-exact e.task h.1.task)) hs,
      (
        ap (λ (l : List Elem). list_all (is_of_other n) (take p l)) list ∙ ap (list_all (is_of_other n)) front ∙ all,
        subst (λ (l : List Elem). length l < length (list_at nat_eq hs q)) (sym list)
            (length-filter-lt (λ x. not (same_task e.task x.task)) (list_at nat_eq hs q) p e at
            (grind (arith, same_task-itself e.task))),
      ),
    )

list_all-take_suc : {X : Type 0} (f : X → Bool) (xs : List X) (p : ℕ) (x : X) → slice_get xs p ≡ Some x → f x ≡ true
    → list_all f (take p xs) ≡ true → list_all f (take (suc p) xs) ≡ true
list_all-take_suc f [] p x e t h = cc
list_all-take_suc f (y ∷ xs) zero x e t h = grind (arith, e, t)
list_all-take_suc f (y ∷ xs) (suc p) x e t h = grind (arith, e, t, h, list_all-take_suc f xs p x)

list_all-take_more : {X : Type 0} (f : X → Bool) (xs : List X) (p : ℕ) (x : X) → slice_get xs p ≡ Some x → f x ≡ true
    → list_all f (take p xs) ≡ true → list_all f (take (p + 1) xs) ≡ true
list_all-take_more f xs p x e t h = rw add-one (list_all-take_suc f xs p x e t h)

-- one element of another system is passed
pub purge_queue-pass : (hs : Held ℕ) (q n p : ℕ) (e : Elem) → slice_get (list_at nat_eq hs q) p ≡ Some e
    → eqb n e.task.system.0 ≡ false → list_all (is_of_other n) (take p (list_at nat_eq hs q)) ≡ true
    → list_all (is_of_other n) (take (p + 1) (list_at nat_eq hs q)) ≡ true
purge_queue-pass hs q n p e at of all =
    list_all-take_more (is_of_other n) (list_at nat_eq hs q) p e at (grind (arith, of)) all

list_all-take_all : {X : Type 0} (f : X → Bool) (xs : List X) (p : ℕ) → length xs ≤ p → list_all f (take p xs) ≡ true
    → list_all f xs ≡ true
list_all-take_all f [] p h a = refl
list_all-take_all f (x ∷ xs) zero h a = absurd (omega arith)
list_all-take_all f (x ∷ xs) (suc p) h a = grind (arith, h, a, list_all-take_all f xs p)

purged : (hs : Held ℕ) (q n : ℕ) → list_all (is_of_other n) (list_at nat_eq hs q) ≡ true → purge_queue hs q n ≡ hs
purged [] q n h = refl
purged (x ∷ hs) q n h = grind (arith, nat_tests, h, purged hs q n)

-- all elements are passed
pub purge_queue-done : (hs : Held ℕ) (q n p : ℕ) → length (list_at nat_eq hs q) ≤ p
    → list_all (is_of_other n) (take p (list_at nat_eq hs q)) ≡ true → purge_queue hs q n ≡ hs
purge_queue-done hs q n p h all = purged hs q n (list_all-take_all (is_of_other n) (list_at nat_eq hs q) p h all)

-- the queues of the first entries are purged
purge-none : (hs : Held ℕ) (n : ℕ) → purge [] hs n ≡ hs
purge-none [] n = refl
purge-none (x ∷ hs) n = ap (λ (l : Held ℕ). x ∷ l) (purge-none hs n)

is_systems_number-push : (es : Numbers) (e : Res × ℕ) (q : ℕ)
    → is_systems_number (es ++ e ∷ []) q ≡ (is_systems_number es q || (eqb q e.1 && is_systems e.0))
is_systems_number-push [] e q = grind arith
is_systems_number-push (x ∷ es) e q = grind (arith, is_systems_number-push es e q)

purge-push_local : (es : Numbers) (e : Res × ℕ) (hs : Held ℕ) (n : ℕ) → is_systems e.0 ≡ false
    → purge (es ++ e ∷ []) hs n ≡ purge es hs n
purge-push_local es e [] n h = refl
purge-push_local es e (x ∷ hs) n h = grind (arith, h, is_systems_number-push es e x.0, purge-push_local es e hs n h)

purge-push_systems : (es : Numbers) (e : Res × ℕ) (hs : Held ℕ) (n : ℕ) → is_systems e.0 ≡ true
    → purge_queue (purge es hs n) e.1 n ≡ purge (es ++ e ∷ []) hs n
purge-push_systems es e [] n h = refl
purge-push_systems es e (x ∷ hs) n h =
    grind (arith, nat_tests, h, is_systems_number-push es e x.0, purge-push_systems es e hs n h)

-- the name of a number says whether it is of a Systems resource
is_systems_number-none : (es : Numbers) (q : ℕ) → name_of es q ≡ None → is_systems_number es q ≡ false
is_systems_number-none [] q h = refl
is_systems_number-none (e ∷ es) q h = grind (arith, h, is_systems_number-none es q)

is_systems_number-name : (es : Numbers) (q : ℕ) (r : Res) → is_paired es ≡ true → name_of es q ≡ Some r
    → is_systems_number es q ≡ is_systems r
is_systems_number-name [] q r p h = cc
is_systems_number-name (e ∷ es) q r p h =
    grind (arith, nat_tests, eqb-true q e.1, p, h, is_systems_number-none es q, is_systems_number-name es q r)

-- in the end the elements of the system have left every Systems list
pub named-purge : (es : Numbers) (hs : Held ℕ) (n : ℕ) → is_paired es ≡ true
    → named es (purge es hs n) ≡ remove_state (named es hs) n
named-purge es hs n p =
    named-filter es (λ h. not (is_systems_number es h.0 && not (is_of_other n h.1)))
    (λ h. not (is_systems h.0 && eqb n h.1.task.system.0)) (λ x r e. grind (arith, is_systems_number-name es x.0 r p e))
    hs

pub of_system : (xs : List Elem) (p n : ℕ) (a b : Elem) → slice_get xs p ≡ Some a → slice_get xs p ≡ Some b
    → eqb a.task.system.0 n ≡ true → eqb n b.task.system.0 ≡ true
of_system xs p n a b x y h =
    let same : Some a ≡ Some b = sym x ∙ y in
    let one : a ≡ b = cc in
    grind (arith, nat_tests, one, h)

pub of_other_system : (n m : ℕ) → eqb m n ≡ false → eqb n m ≡ false
of_other_system n m h = grind (arith, nat_tests, h)

pub number_at-live : (live : ℕ → Bool) (es : Numbers) (i : ℕ) (e : Res × ℕ) → all_numbers live es ≡ true
    → slice_get es i ≡ Some e → live e.1 ≡ true
number_at-live live [] i e h at = cc
number_at-live live (x ∷ es) zero e h at = grind (arith, h, at)
number_at-live live (x ∷ es) (suc i) e h at = grind (arith, h, at, number_at-live live es i e)

take_suc_get : {X : Type 0} (xs : List X) (i : ℕ) (x : X) → slice_get xs i ≡ Some x
    → take (suc i) xs ≡ take i xs ++ x ∷ []
take_suc_get [] i x e = cc
take_suc_get (y ∷ xs) zero x e = grind (arith, e)
take_suc_get (y ∷ xs) (suc i) x e = ap (λ l. y ∷ l) (take_suc_get xs i x e)

-- one entry more is purged
pub purge-more : (es : Numbers) (i : ℕ) (e : Res × ℕ) (start hs new : Held ℕ) (n : ℕ) → slice_get es i ≡ Some e
    → hs ≡ purge (take i es) start n → new ≡ cond (is_systems e.0) (purge_queue hs e.1 n) hs
    → new ≡ purge (take (i + 1) es) start n
purge-more es i e start hs new n at so_far is =
    is ∙ ap (λ (l : Held ℕ). cond (is_systems e.0) (purge_queue l e.1 n) l) so_far ∙ by (is_systems e.0) refl
    ∙ ap (λ (l : Numbers). purge l start n) (sym (take_suc_get es i e at))
    ∙ ap (λ (k : ℕ). purge (take k es) start n) (sym (add-one i))
  where
    by : (b : Bool) → is_systems e.0 ≡ b
        → cond b (purge_queue (purge (take i es) start n) e.1 n) (purge (take i es) start n)
        ≡ purge (take i es ++ e ∷ []) start n
    by true p = purge-push_systems (take i es) e start n p
    by false p = sym (purge-push_local (take i es) e start n p)

pub purge-start : (hs : Held ℕ) (n : ℕ) → hs ≡ purge [] hs n
purge-start hs n = sym (purge-none hs n)

pub IsTable-purge : (es : Numbers) (hs new : Held ℕ) (live more : ℕ → Bool) (n : ℕ) → IsTable es hs live
    → new ≡ purge es hs n → ((q : ℕ) → more q ≡ live q)
    → IsTable es new more × (named es new ≡ remove_state (named es hs) n)
IsTable-purge es hs new live more n table is same = (
  record {
    paired = table.paired;
    live_numbers = all_numbers-more live more (λ k p. same k ∙ p) es table.live_numbers;
    named_all =
        ap (all_named es) is
        ∙ all_named-filter es (λ h. not (is_systems_number es h.0 && not (is_of_other n h.1))) hs table.named_all;
  },
  ap (named es) is ∙ named-purge es hs n table.paired,
)
