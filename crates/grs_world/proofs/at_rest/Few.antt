-- A deck that is read has so few lines that no run of it asks more ENQs than there are ranks.
use Rattle.grs_world.proofs.Common.{[], ◌&&◌, ◌*◌, ◌++◌, ◌+◌, ◌<◌, ◌==◌, ◌∙◌, ◌∷◌, ◌≡◌, ◌≢◌, ◌≤◌, and_from, and_parts}
use Rattle.grs_world.proofs.Common.{ap, arith, asks_of, Bool, cond, Deck, entries_for, eq-eqb, eqb-false, eqb-true}
use Rattle.grs_world.proofs.Common.{false, Filter, filter, Fixed, fixed_entries, get_or, HistEntry, history, is_by}
use Rattle.grs_world.proofs.Common.{is_some, is_task, IsHistory, last_number, LegalFrom, length, length-append}
use Rattle.grs_world.proofs.Common.{length-map, line_entries, lines_of, List, list_all, list_all-append, lists, lt-ltb}
use Rattle.grs_world.proofs.Common.{ltb-true, map, Meaning, meanings, nat_le, nat_lt, new_tasks, no_truth, None, not}
use Rattle.grs_world.proofs.Common.{Option, refl, RunItem, same_place, same_task, slice_get, slice_get_within, Some}
use Rattle.grs_world.proofs.Common.{some_of, State, subst, suc, sym, SysId, SystemDef, TaskId, TasksView, true, Want}
use Rattle.grs_world.proofs.Common.{zero, ℕ}
use Rattle.std.proofs.Common.{leb-true, le-leb}
use Rattle.std.specs.Prelude.{All, IsSomeAnd}
use Rattle.grs_legal.specs.Asks.{Script, lines_at, meaning_of, scripts_at, scripts_from, scripts_in}
use Rattle.grs_wire.specs.History.{look_entries}
use Rattle.grs_known.specs.Items.{AllMade}
use Rattle.grs_base.specs.Limits.{most_lines}
use Rattle.grs_legal.specs.Legal.{IsLegal, is_of_line}
use Rattle.grs_known.proofs.system.Ours.{script_at}
use Rattle.std.proofs.lemmas.Option.{get_or_from_slice_get}
use Rattle.grs_wire.specs.Decks.{IsBounded, IsWithin, task_count}
use Rattle.grs_wire.specs.declared.deck.JobDef.{JobDef}
use Rattle.grs_wire.specs.declared.deck.TaskDef.{TaskDef}
use Rattle.grs_wire.proofs.DeckLaws.{lines_few}
use Rattle.grs_world.proofs.at_rest.AsAsked.{asked-few, asks-few, entries-asked}
use Rattle.grs_world.proofs.star.Heard.{enq_count, is_enq, is_enq_want}
use Rattle.grs_wire.specs.declared.history.HistEntry.TheVariants as entries
use Rattle.grs_wire.specs.declared.request.Fixed.TheVariants as fixing
use Rattle.grs_wire.specs.declared.request.Want.TheVariants as wants

-- ---- counting by classes
-- fewer pass a stronger test
length-fewer_of : {X : Type 0} (p q k : X → Bool) (xs : List X) → list_all k xs ≡ true
    → ((x : X) → p x ≡ true → k x ≡ true → q x ≡ true) → length (filter p xs) ≤ length (filter q xs)
length-fewer_of p q k [] all f = omega arith
length-fewer_of p q k (x ∷ xs) all f = go (p x) refl (q x) refl (length-fewer_of p q k xs both.1 f)
  where
    both : (k x ≡ true) × (list_all k xs ≡ true)
    both = and_parts (k x) (list_all k xs) all

    go : (a : Bool) → p x ≡ a → (b : Bool) → q x ≡ b → length (filter p xs) ≤ length (filter q xs)
        → length (cond a (x ∷ filter p xs) (filter p xs)) ≤ length (cond b (x ∷ filter q xs) (filter q xs))
    go true e true g h = omega (arith, h)
    go true e false g h = no_truth (q x) (f x e both.0) g
    go false e true g h = omega (arith, h)
    go false e false g h = h

-- the first that passes
first-passes : {X : Type 0} (p k : X → Bool) (xs : List X) (y : X) (ys : List X) → list_all k xs ≡ true
    → filter p xs ≡ y ∷ ys → (p y ≡ true) × (k y ≡ true)
first-passes p k [] y ys all e = absurd (cc)
first-passes p k (x ∷ xs) y ys all e = go (p x) refl e (first-passes p k xs y ys both.1)
  where
    both : (k x ≡ true) × (list_all k xs ≡ true)
    both = and_parts (k x) (list_all k xs) all

    go : (a : Bool) → p x ≡ a → cond a (x ∷ filter p xs) (filter p xs) ≡ y ∷ ys
        → (filter p xs ≡ y ∷ ys → (p y ≡ true) × (k y ≡ true)) → (p y ≡ true) × (k y ≡ true)
    go true f g more = let same : x ≡ y = cc in (ap p (sym same) ∙ f, ap k (sym same) ∙ both.0)
    go false f g more = more g

-- those of one class, and the others
pub length-parts : {X : Type 0} (p : X → Bool) (xs : List X)
    → length xs ≡ length (filter p xs) + length (filter (λ x. not (p x)) xs)
length-parts p [] = refl
length-parts p (x ∷ xs) = go (p x) (length-parts p xs)
  where
    go : (a : Bool) → length xs ≡ length (filter p xs) + length (filter (λ z. not (p z)) xs)
        → suc (length xs)
        ≡ length (cond a (x ∷ filter p xs) (filter p xs))
        + length (cond (not a) (x ∷ filter (λ z. not (p z)) xs) (filter (λ z. not (p z)) xs))
    go true h = omega (arith, h)
    go false h = omega (arith, h)

length-both : {X : Type 0} (p q : X → Bool) (xs : List X) → length (filter p (filter q xs)) ≤ length (filter p xs)
length-both p q [] = omega arith
length-both p q (x ∷ xs) = go (q x) (p x) refl (length-both p q xs)
  where
    go : (b a : Bool) → p x ≡ a → length (filter p (filter q xs)) ≤ length (filter p xs)
        → length (filter p (cond b (x ∷ filter q xs) (filter q xs))) ≤ length (cond a (x ∷ filter p xs) (filter p xs))
    go true a e h =
        subst (λ c.
        length (cond c (x ∷ filter p (filter q xs)) (filter p (filter q xs)))
        ≤ length (cond a (x ∷ filter p xs) (filter p xs)))
        (sym e) (by_same a h)
      where
        by_same : (c : Bool) → length (filter p (filter q xs)) ≤ length (filter p xs)
            → length (cond c (x ∷ filter p (filter q xs)) (filter p (filter q xs)))
            ≤ length (cond c (x ∷ filter p xs) (filter p xs))
        by_same true k = omega (arith, k)
        by_same false k = k
    go false true e h = omega (arith, h)
    go false false e h = h

pub below-all : {X : Type 0} (f : X → ℕ) (n : ℕ) (xs : List X) → list_all (λ x. nat_lt (f x) (suc n)) xs ≡ true
    → list_all (λ x. nat_lt (f x) n) (filter (λ x. not (f x == n)) xs) ≡ true
below-all f n [] h = refl
below-all f n (x ∷ xs) h = go (f x == n) refl (below-all f n xs both.1)
  where
    both : (nat_lt (f x) (suc n) ≡ true) × (list_all (λ z. nat_lt (f z) (suc n)) xs ≡ true)
    both = and_parts (nat_lt (f x) (suc n)) (list_all (λ z. nat_lt (f z) (suc n)) xs) h

    go : (b : Bool) → (f x == n) ≡ b → list_all (λ z. nat_lt (f z) n) (filter (λ z. not (f z == n)) xs) ≡ true
        → list_all (λ z. nat_lt (f z) n)
        (cond (not b) (x ∷ filter (λ z. not (f z == n)) xs) (filter (λ z. not (f z == n)) xs))
        ≡ true
    go true e k = k
    go false e k =
        let l : f x < suc n = ltb-true (f x) (suc n) both.0 in
        let ne : f x ≢ n = eqb-false (f x) n e in
        and_from (nat_lt (f x) n) (list_all (λ z. nat_lt (f z) n) (filter (λ z. not (f z == n)) xs))
        (lt-ltb (f x) n (omega (arith, l, ne))) k

-- so many classes, each of at most b
pub by_classes : {X : Type 0} (f : X → ℕ) (b n : ℕ) (xs : List X) → list_all (λ x. nat_lt (f x) n) xs ≡ true
    → ((i : ℕ) → length (filter (λ x. f x == i) xs) ≤ b) → length xs ≤ n * b
by_classes f b zero [] all each = omega arith
by_classes f b zero (x ∷ xs) all each =
    absurd (let l : f x < 0 = ltb-true (f x) 0 (and_parts (nat_lt (f x) 0) (list_all (λ z. nat_lt (f z) 0) xs) all).0 in
    omega (arith, l))
by_classes f b (suc n) xs all each =
    let rest = filter (λ x. not (f x == n)) xs in
    let h : length rest ≤ n * b =
    by_classes f b n rest (below-all f n xs all)
    (λ i. let a = length-both (λ x. f x == i) (λ x. not (f x == n)) xs in let c = each i in omega (arith, a, c)) in
    let one = each n in
    let parts = length-parts (λ x. f x == n) xs in
    omega (arith, h, one, parts)

-- ---- the entries of a task's lines are as many as these ask for, at most
pub task-few : (deck : Deck) (t : TaskId) (ls : List Meaning) → lines_of deck t ≡ Some ls → (hs : List HistEntry)
    → LegalFrom deck [] hs → length (line_entries t hs) ≤ length ls * 65
task-few deck t ls lines_are hs legal =
    let a = asked-few (asks_of ls) (line_entries t hs) (entries-asked deck t ls lines_are hs legal) in
    let b = asks-few deck t ls lines_are in
    omega (arith, a, b)

-- ---- by places
abbrev is_e : HistEntry → Bool
is_e (entries.Enq u r c ret code) = true
is_e (entries.Deq u r have code) = false
is_e (entries.Release u r) = false
is_e (entries.Look u at f rows) = false
is_e (entries.Remove by target) = false

abbrev place : HistEntry → ℕ
place (entries.Enq u r c ret code) = u.system.0 * 64 + u.task
place (entries.Deq u r have code) = 0
place (entries.Release u r) = 0
place (entries.Look u at f rows) = 0
place (entries.Remove by target) = 0

-- an ENQ of a task of the deck
abbrev is_known : Deck → HistEntry → Bool
is_known deck (entries.Enq u r c ret code) = is_some (lines_of deck u)
is_known deck (entries.Deq u r have code) = false
is_known deck (entries.Release u r) = false
is_known deck (entries.Look u at f rows) = false
is_known deck (entries.Remove by target) = false

known-enqs : (deck : Deck) (front hs : List HistEntry) → LegalFrom deck front hs
    → list_all (is_known deck) (filter is_e hs) ≡ true
known-enqs deck front [] legal = refl
known-enqs deck front (entries.Enq u r c ret code ∷ hs) legal =
    and_from (is_some (lines_of deck u)) _ (by_lines (lines_of deck u) legal.0)
    (known-enqs deck (front ++ entries.Enq u r c ret code ∷ []) hs legal.1)
  where
    by_lines : (o : Option (List Meaning))
        → IsSomeAnd o (λ ls. IsLegal deck.limit u ls front (entries.Enq u r c ret code)) → is_some o ≡ true
    by_lines None k = absurd k
    by_lines (Some ls) k = refl
known-enqs deck front (entries.Deq u r have code ∷ hs) legal =
    known-enqs deck (front ++ entries.Deq u r have code ∷ []) hs legal.1
known-enqs deck front (entries.Release u r ∷ hs) legal = known-enqs deck (front ++ entries.Release u r ∷ []) hs legal.1
known-enqs deck front (entries.Look u at f rows ∷ hs) legal =
    known-enqs deck (front ++ entries.Look u at f rows ∷ []) hs legal.1
known-enqs deck front (entries.Remove by target ∷ hs) legal =
    known-enqs deck (front ++ entries.Remove by target ∷ []) hs legal.1

-- ---- the scripts of a deck
length-scripts : (k : ℕ) (js : List JobDef) → length (scripts_from k js) ≡ task_count js
length-scripts k [] = refl
length-scripts k (j ∷ js) =
    length-append (scripts_in k j.tasks) (scripts_from (suc k) js)
    ∙ (ap (λ n. n + length (scripts_from (suc k) js)) (length-map j.tasks _)
    ∙ ap (λ n. length j.tasks + n) (length-scripts (suc k) js))

tasks-short : (b k : ℕ) (ts : List TaskDef) → All (λ (t : TaskDef). length t.lines ≤ b) ts
    → list_all (λ (z : Script). nat_le (length z.lines) b) (scripts_in k ts) ≡ true
tasks-short b k [] h = refl
tasks-short b k (t ∷ ts) h =
    and_from (nat_le (length t.lines) b) _ (le-leb (length t.lines) b (h 0 t (omega arith)))
    (tasks-short b k ts (λ i d l. h (suc i) d (omega (arith, l))))

scripts-short : (b k : ℕ) (js : List JobDef)
    → All (λ (j : JobDef). All (λ (t : TaskDef). length t.lines ≤ b) j.tasks) js
    → list_all (λ (z : Script). nat_le (length z.lines) b) (scripts_from k js) ≡ true
scripts-short b k [] h = refl
scripts-short b k (j ∷ js) h =
    list_all-append (λ (z : Script). nat_le (length z.lines) b) (scripts_in k j.tasks) (scripts_from (suc k) js)
    ∙ and_from (list_all (λ (z : Script). nat_le (length z.lines) b) (scripts_in k j.tasks)) _
    (tasks-short b k j.tasks (h 0 j (omega arith)))
    (scripts-short b (suc k) js (λ i d l. h (suc i) d (omega (arith, l))))

all-at : {X : Type 0} (p : X → Bool) (xs : List X) (i : ℕ) (x : X) → list_all p xs ≡ true → slice_get xs i ≡ Some x
    → p x ≡ true
all-at p [] i x h e = absurd (cc)
all-at p (y ∷ xs) zero x h e = let same : y ≡ x = cc in ap p (sym same) ∙ (and_parts (p y) (list_all p xs) h).0
all-at p (y ∷ xs) (suc i) x h e = all-at p xs i x (and_parts (p y) (list_all p xs) h).1 e

-- where a task of the deck is, and how long it is
record IsSmall (deck : Deck) (t : TaskId) (ls : List Meaning) : Type 0 where
  system : t.system.0 < 8
  task : t.task < 64
  short : length ls ≤ most_lines

small : (deck : Deck) → IsBounded deck → (t : TaskId) (ls : List Meaning) → lines_of deck t ≡ Some ls
    → IsSmall deck t ls
small deck h t ls e = by_system (slice_get deck.systems t.system.0) refl
  where
    by_system : (o : Option SystemDef) → slice_get deck.systems t.system.0 ≡ o → IsSmall deck t ls
    by_system None at =
        absurd (let none : meanings deck.lists t (lines_at t.job (slice_get (scripts_at None) t.task)) ≡ Some ls =
        subst (λ z. meanings deck.lists t (lines_at t.job (slice_get (scripts_at z) t.task)) ≡ Some ls) at e in
        cc)
    by_system (Some d) at = record {
      system = let a = slice_get_within deck.systems t.system.0 d at in let b = h.fits.few in omega (arith, a, b);
      task =
          let a = slice_get_within (scripts_from 0 d.jobs) t.task found.0 found.1 in
          let b = length-scripts 0 d.jobs in
          let w : IsWithin (get_or deck.systems t.system.0 d) =
          h.fits.each t.system.0 d (slice_get_within deck.systems t.system.0 d at) in
          let own : IsWithin d = subst IsWithin (get_or_from_slice_get deck.systems t.system.0 d d at) w in
          let c = own.tasks in
          omega (arith, a, b, c);
      short =
          let a : length (found.0).lines ≤ most_lines =
          leb-true (length (found.0).lines) most_lines (all-at (λ (z : Script). nat_le (length z.lines) most_lines)
          (scripts_from 0 d.jobs) t.task found.0 (scripts-short most_lines 0 d.jobs (lines_few deck t.system.0 d h at))
          found.1) in
          let b : length ls ≡ length (found.0).lines = by_script (found.0).job refl in
          omega (arith, a, b);
    }
      where
        here : meanings deck.lists t (lines_at t.job (slice_get (scripts_from 0 d.jobs) t.task)) ≡ Some ls
        here = subst (λ z. meanings deck.lists t (lines_at t.job (slice_get (scripts_at z) t.task)) ≡ Some ls) at e

        found : (z : Script) × (slice_get (scripts_from 0 d.jobs) t.task ≡ Some z)
        found = script_at deck.lists t (slice_get (scripts_from 0 d.jobs) t.task) ls here

        by_script : (j : ℕ) → (found.0).job ≡ j → length ls ≡ length (found.0).lines
        by_script j is =
            go ((found.0).job == t.job) (subst (λ o. meanings deck.lists t (lines_at t.job o) ≡ Some ls) found.1 here)
          where
            go : (b : Bool) → meanings deck.lists t (cond b (Some (found.0).lines) None) ≡ Some ls
                → length ls ≡ length (found.0).lines
            go false f = absurd (cc)
            go true f =
                let same : map (meaning_of deck.lists t) (found.0).lines ≡ ls = cc in
                ap (λ xs. length xs) (sym same) ∙ length-map (found.0).lines (meaning_of deck.lists t)

-- ---- so the ENQs of a history are few
length-new : (n : ℕ) → length (new_tasks n) ≡ n
length-new zero = refl
length-new (suc n) = ap suc (length-new n)

module _ (deck : Deck) (h : IsBounded deck) (hs : List HistEntry) (legal : LegalFrom deck [] hs) where
  abbrev E : List HistEntry
  E = filter is_e hs

  known : list_all (is_known deck) E ≡ true
  known = known-enqs deck [] hs legal

  in-range : (xs : List HistEntry) → list_all (is_known deck) xs ≡ true → list_all (λ x. nat_lt (place x) 512) xs ≡ true
  in-range [] k = refl
  in-range (entries.Enq u r c ret code ∷ xs) k =
      let both = and_parts (is_some (lines_of deck u)) (list_all (is_known deck) xs) k in
      let ls = some_of (lines_of deck u) both.0 in
      let s = small deck h u ls.0 ls.1 in
      let a = s.system in let b = s.task in
      and_from (nat_lt (u.system.0 * 64 + u.task) 512) _ (lt-ltb (u.system.0 * 64 + u.task) 512 (omega (arith, a, b)))
      (in-range xs both.1)
  in-range (entries.Deq u r have code ∷ xs) k = absurd (cc)
  in-range (entries.Release u r ∷ xs) k = absurd (cc)
  in-range (entries.Look u at f rows ∷ xs) k = absurd (cc)
  in-range (entries.Remove by target ∷ xs) k = absurd (cc)

  -- those at one place are of one task
  of-one : (t : TaskId) (ls : List Meaning) → lines_of deck t ≡ Some ls → (i : ℕ) → t.system.0 * 64 + t.task ≡ i
      → (x : HistEntry) → (place x == i) ≡ true → is_known deck x ≡ true → (is_by t x && is_of_line x) ≡ true
  of-one t ls lines_t i at (entries.Enq u r c ret code) e k =
      let ms = some_of (lines_of deck u) k in
      let a = small deck h t ls lines_t in
      let b = small deck h u ms.0 ms.1 in
      let same_at : u.system.0 * 64 + u.task ≡ i = eqb-true (u.system.0 * 64 + u.task) i e in
      let a1 = a.task in let b1 = b.task in
      let system : t.system.0 ≡ u.system.0 = omega (arith, at, same_at, a1, b1) in
      let task : t.task ≡ u.task = omega (arith, at, same_at, system) in
      let v : TasksView = record { system = t.system.0; tasks = new_tasks (suc t.task); told = [] } in
      let in_t : is_task v t ≡ true =
      and_from (t.system.0 == t.system.0) (nat_lt t.task (length (new_tasks (suc t.task))))
      (eq-eqb t.system.0 t.system.0 refl)
      (lt-ltb t.task (length (new_tasks (suc t.task))) (omega (arith, length-new (suc t.task)))) in
      let in_u : is_task v u ≡ true =
      and_from (t.system.0 == u.system.0) (nat_lt u.task (length (new_tasks (suc t.task))))
      (eq-eqb t.system.0 u.system.0 system)
      (lt-ltb u.task (length (new_tasks (suc t.task))) (omega (arith, task, length-new (suc t.task)))) in
      and_from (same_task t u) true (same_place deck t.system.0 v t u ls ms.0
      (record { lines = lines_t; home = refl; here = in_t }) (record { lines = ms.1; home = sym system; here = in_u })
      task)
      refl
  of-one t ls lines_t i at (entries.Deq u r have code) e k = absurd (cc)
  of-one t ls lines_t i at (entries.Release u r) e k = absurd (cc)
  of-one t ls lines_t i at (entries.Look u p f rows) e k = absurd (cc)
  of-one t ls lines_t i at (entries.Remove by target) e k = absurd (cc)

  class-few : (i : ℕ) → length (filter (λ x. place x == i) E) ≤ most_lines * 65
  class-few i = go (filter (λ x. place x == i) E) refl
    where
      go : (fs : List HistEntry) → filter (λ x. place x == i) E ≡ fs → length fs ≤ most_lines * 65
      go [] e = omega arith
      go (y ∷ ys) e = by_first y (first-passes (λ x. place x == i) (is_known deck) E y ys known e)
        where
          by_first : (y0 : HistEntry) → ((place y0 == i) ≡ true) × (is_known deck y0 ≡ true)
              → length (y ∷ ys) ≤ most_lines * 65
          by_first (entries.Enq t r c ret code) k =
              let ls = some_of (lines_of deck t) k.1 in
              let a =
              length-fewer_of (λ x. place x == i) (λ x. is_by t x && is_of_line x) (is_known deck) E known
              (of-one t ls.0 ls.1 i (eqb-true (t.system.0 * 64 + t.task) i k.0)) in
              let b = length-both (λ x. is_by t x && is_of_line x) is_e hs in
              let c2 = task-few deck t ls.0 ls.1 hs legal in
              let d = (small deck h t ls.0 ls.1).short in
              let f = ap (λ (xs : List HistEntry). length xs) e in
              omega (arith, a, b, c2, d, f)
          by_first (entries.Deq u r have code) k = absurd (let z : false ≡ true = k.1 in cc)
          by_first (entries.Release u r) k = absurd (let z : false ≡ true = k.1 in cc)
          by_first (entries.Look u at f rows) k = absurd (let z : false ≡ true = k.1 in cc)
          by_first (entries.Remove by target) k = absurd (let z : false ≡ true = k.1 in cc)

  pub enqs-few : length E ≤ 512 * (16384 * 65)
  enqs-few = by_classes place (most_lines * 65) 512 E (in-range E known) class-few

-- ---- so no rank is too great
-- what an event fixed has an entry of an ENQ, if it is one
look-more : (s : State) (t : TaskId) (first count : ℕ) (f : Filter) (hs : List HistEntry) (n : ℕ)
    → n ≤ length (filter is_e hs) → n ≤ length (filter is_e (look_entries s t first count f ++ hs))
look-more s t first zero f hs n h = h
look-more s t first (suc count) f hs n h = look-more s t (suc first) count f hs n h

grown-want : (s : State) (t : TaskId) (w : Want) (hs : List HistEntry) (x : RunItem) (xs : List RunItem)
    → length xs ≤ length (filter is_e hs)
    → length (cond (is_enq_want w) (x ∷ xs) xs) ≤ length (filter is_e (entries_for s t w ++ hs))
grown-want s t (wants.Enq r c ret full) hs x xs h = omega (arith, h)
grown-want s t (wants.Deq r have) hs x xs h = h
grown-want s t (wants.Release r) hs x xs h = h
grown-want s t (wants.Look first count f) hs x xs h = look-more s t first count f hs (length xs) h

grown-by : (s : State) (c : SysId) (f : Fixed) (hs : List HistEntry) (x : RunItem) (xs : List RunItem)
    → length xs ≤ length (filter is_e hs)
    → length (cond (is_enq f) (x ∷ xs) xs) ≤ length (filter is_e (fixed_entries s c f ++ hs))
grown-by s c (fixing.Asked q) hs x xs h = grown-want s q.task q.want hs x xs h
grown-by s c (fixing.LocalLook t f) hs x xs h = h
grown-by s c (fixing.Purged target) hs x xs h = h

enqs-counted : (F T : List RunItem) → AllMade F T → enq_count T ≤ length (filter is_e (history T))
enqs-counted F [] made = omega arith
enqs-counted F (x ∷ T) made =
    subst (λ hs. length (cond (is_enq x.fixed) (x ∷ E) E) ≤ length (filter is_e (hs ++ history T))) (sym made.0)
    (grown-by (lists F) x.by x.fixed (history T) x E (enqs-counted (F ++ x ∷ []) T made.1))
  where
    E : List RunItem
    E = filter (λ (z : RunItem). is_enq z.fixed) T

pub ranks-few : (deck : Deck) → IsBounded deck → (T : List RunItem) → IsHistory deck T → enq_count T ≤ last_number
ranks-few deck h T right =
    let a = enqs-counted [] T right.made in
    let b = enqs-few deck h (history T) (right.legal h.orders) in
    omega (arith, a, b)
