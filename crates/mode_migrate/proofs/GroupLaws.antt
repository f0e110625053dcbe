-- The rows of a table by their lock entries: what is read off an entry's own rows is what is read off all rows.
use Rattle.std.proofs.Common.{◌≡◌, ◌≢◌, ◌≤◌, ◌<◌, ◌+◌, ℕ, zero, suc, Bool, true, false, cond, ◌&&◌, ◌||◌, List, [], ◌∷◌}
use Rattle.std.proofs.Common.{◌++◌, map, length, Option, Some, None, refl, ap, sym, ◌∙◌, arith, append_assoc}
use Rattle.std.proofs.Common.{append-nil}
use Rattle.std.specs.Prelude.{filter, ◌==◌, slice_set}
use Rattle.std.specs.List.{range_with_len, list_any}
use Rattle.std.proofs.lemmas.Bool.{eq-eqb, eqb-true}
use Rattle.std.proofs.lemmas.List.{length-set}
use Rattle.std.proofs.lemmas.List.Elements.{filter-append}
use Rattle.std.proofs.lemmas.List.FromFn.{get_or-map-range_with_len, length-map-range_with_len}
use Rattle.grs_base.specs.Limits.{most_systems}
use Rattle.grs_base.specs.declared.resource.Row.{Row}
use Rattle.grs_base.specs.declared.resource.SysId.{SysId}
use Rattle.grs_wire.specs.LockWords.{is_manager, lock_word}
use Rattle.grs_wire.specs.Masks.{with_also}
use Rattle.lock_structure.specs.Entries.{entry_of_res, is_entry}
use Rattle.lock_structure.specs.Least.{or_this, least_below}
use Rattle.mode_migrate.specs.Migrate.{row_is_of, rows_in, is_by, has_elements, set_below}
use Rattle.mode_migrate.specs.Migrate.{interest_by, manager_by, word_by, numbered_from, numbered_in}
use Rattle.mode_migrate.specs.Groups.{groups_of, group_at, with_row_at, with_row, is_among, interest_of, manager_of}
use Rattle.mode_migrate.specs.Groups.{word_of}
use Rattle.mode_migrate.proofs.TableWords.{entry-within}

-- ---- functions that agree on numbers in order

same-map : {X : Type 0} (f g : ℕ → X) (a n : ℕ) → ((e : ℕ) → a ≤ e → f e ≡ g e)
    → map f (range_with_len a n) ≡ map g (range_with_len a n)
same-map f g a zero h = refl
same-map f g a (suc n) h =
    ap (λ x. x ∷ map f (range_with_len (a + 1) n)) (h a (omega arith))
    ∙ ap (λ xs. g a ∷ xs) (same-map f g (a + 1) n (λ e l. h e (omega (arith, l))))

same-filter : (p q : ℕ → Bool) (a n : ℕ) → ((e : ℕ) → e < a + n → p e ≡ q e)
    → filter p (range_with_len a n) ≡ filter q (range_with_len a n)
same-filter p q a zero h = refl
same-filter p q a (suc n) h =
    ap (λ (b : Bool). cond b (a ∷ filter p (range_with_len (a + 1) n)) (filter p (range_with_len (a + 1) n)))
    (h a (omega arith))
    ∙ ap (λ (xs : List ℕ). cond (q a) (a ∷ xs) xs) (same-filter p q (a + 1) n (λ e l. h e (omega (arith, l))))

-- one of them in another's place
set-map : {X : Type 0} (f g : ℕ → X) (a n i k : ℕ) → a + i ≡ k → i < n → ((e : ℕ) → e ≢ k → f e ≡ g e)
    → slice_set (map f (range_with_len a n)) i (g k) ≡ map g (range_with_len a n)
set-map f g a zero i k at below other = absurd (omega (arith, below))
set-map f g a (suc n) zero k at below other =
    let here : k ≡ a = omega (arith, at) in
    ap (λ (j : ℕ). g j ∷ map f (range_with_len (a + 1) n)) here
    ∙ ap (λ xs. g a ∷ xs) (same-map f g (a + 1) n (λ e l. other e (λ is. absurd (omega (arith, l, is, here)))))
set-map f g a (suc n) (suc i) k at below other =
    ap (λ x. x ∷ slice_set (map f (range_with_len (a + 1) n)) i (g k)) (other a (λ is. absurd (omega (arith, at, is))))
    ∙ ap (λ xs. g a ∷ xs) (set-map f g (a + 1) n i k (omega (arith, at)) (omega (arith, below)) other)

-- ---- the rows of each entry, row by row

abbrev pub with_rows : ℕ → List Row → List (List Row) → List (List Row)
with_rows entries [] groups = groups
with_rows entries (x ∷ rows) groups = with_rows entries rows (with_row entries x groups)

module _ (entries : ℕ) where
  last-in : (e : ℕ) (done : List Row) (x : Row) (b : Bool) → row_is_of entries e x ≡ b
      → rows_in entries e (done ++ x ∷ []) ≡ rows_in entries e done ++ cond b (x ∷ []) []
  last-in e done x b is =
      filter-append (row_is_of entries e) done (x ∷ [])
      ∙ ap (λ (c : Bool). rows_in entries e done ++ cond c (x ∷ []) []) is

  last-out : (e : ℕ) (done : List Row) (x : Row) → row_is_of entries e x ≡ false
      → rows_in entries e done ≡ rows_in entries e (done ++ x ∷ [])
  last-out e done x is = sym (last-in e done x false is ∙ append-nil (rows_in entries e done))

  row-more : 0 < entries → (done : List Row) (x : Row)
      → with_row entries x (groups_of entries done) ≡ groups_of entries (done ++ x ∷ [])
  row-more some done x = go (entry_of_res entries x.res) refl
    where
      go : (o : Option ℕ) → entry_of_res entries x.res ≡ o
          → with_row_at o x (groups_of entries done) ≡ groups_of entries (done ++ x ∷ [])
      go None at =
          same-map (λ e. rows_in entries e done) (λ e. rows_in entries e (done ++ x ∷ [])) 0 entries
          (λ e l. last-out e done x (ap (is_entry e) at))
      go (Some k) at =
          let mine : row_is_of entries k x ≡ true = ap (is_entry k) at ∙ eq-eqb k k refl in
          let below : k < entries = entry-within entries k x.res some mine in
          let same : 0 + k ≡ k = omega arith in
          ap (λ (xs : List Row). slice_set (groups_of entries done) k (xs ++ x ∷ []))
          (get_or-map-range_with_len (λ e. rows_in entries e done) 0 entries k k [] below same)
          ∙ ap (slice_set (groups_of entries done) k) (sym (last-in k done x true mine))
          ∙ set-map (λ e. rows_in entries e done) (λ e. rows_in entries e (done ++ x ∷ [])) 0 entries k k same below
          (λ e other. last-out e done x (ap (is_entry e) at ∙ apart e k other))
        where
          apart : (e m : ℕ) → e ≢ m → (m == e) ≡ false
          apart e m other = by (m == e) refl
            where
              by : (b : Bool) → (m == e) ≡ b → b ≡ false
              by true is = absurd (other (sym (eqb-true m e is)))
              by false is = refl

  rows-more : 0 < entries → (done rows : List Row)
      → with_rows entries rows (groups_of entries done) ≡ groups_of entries (done ++ rows)
  rows-more some done [] = ap (groups_of entries) (sym (append-nil done))
  rows-more some done (x ∷ rows) =
      ap (with_rows entries rows) (row-more some done x)
      ∙ rows-more some (done ++ x ∷ []) rows
      ∙ ap (groups_of entries) (append_assoc done (x ∷ []) rows)

pub all-rows : (entries : ℕ) (rows : List Row) → entries ≢ 0
    → with_rows entries rows (groups_of entries []) ≡ groups_of entries rows
all-rows entries rows some = rows-more entries (omega (arith, some)) [] rows

pub length-groups_of : (entries : ℕ) (rows : List Row) → length (groups_of entries rows) ≡ entries
length-groups_of entries rows = length-map-range_with_len (λ e. rows_in entries e rows) 0 entries

pub length-with_row : (entries : ℕ) (x : Row) (groups : List (List Row))
    → length (with_row entries x groups) ≡ length groups
length-with_row entries x groups = go (entry_of_res entries x.res)
  where
    go : (o : Option ℕ) → length (with_row_at o x groups) ≡ length groups
    go None = refl
    go (Some e) = length-set groups e (group_at groups e ++ x ∷ [])

pub ruleset grouped = (all-rows, length-groups_of, length-with_row)

-- ---- what is read off the rows of an entry

any-chosen : (p q : Row → Bool) (rows : List Row) → list_any (λ x. p x && q x) rows ≡ list_any q (filter p rows)
any-chosen p q [] = refl
any-chosen p q (x ∷ rows) = go (p x) (any-chosen p q rows)
  where
    go : (b : Bool) → list_any (λ y. p y && q y) rows ≡ list_any q (filter p rows)
        → ((b && q x) || list_any (λ y. p y && q y) rows) ≡ list_any q (cond b (x ∷ filter p rows) (filter p rows))
    go true rest = ap (λ (c : Bool). q x || c) rest
    go false rest = rest

same-set : (n : ℕ) (test other : ℕ → Bool) → ((s : ℕ) → test s ≡ other s) → set_below n test ≡ set_below n other
same-set zero test other h = refl
same-set (suc n) test other h =
    ap (λ (b : Bool). cond b (with_also (set_below n test) n) (set_below n test)) (h n)
    ∙ ap (λ (m : ℕ). cond (other n) (with_also m n) m) (same-set n test other h)

same-least : (n : ℕ) (test other : ℕ → Bool) → ((s : ℕ) → test s ≡ other s) → least_below n test ≡ least_below n other
same-least zero test other h = refl
same-least (suc n) test other h =
    ap (λ (b : Bool). or_this (least_below n test) n b) (h n)
    ∙ ap (λ (o : Option SysId). or_this o n (other n)) (same-least n test other h)

module _ (entries e : ℕ) (rows : List Row) where
  among-in : (s : ℕ) → is_among (rows_in entries e rows) s ≡ has_elements entries e rows s
  among-in s = sym (any-chosen (row_is_of entries e) (λ x. list_any (is_by s) x.elems) rows)

  interest-in : interest_of (rows_in entries e rows) ≡ interest_by entries e rows
  interest-in = same-set most_systems (is_among (rows_in entries e rows)) (has_elements entries e rows) among-in

  manager-in : manager_of (rows_in entries e rows) ≡ manager_by entries e rows
  manager-in = same-least most_systems (is_among (rows_in entries e rows)) (has_elements entries e rows) among-in

  word-in : word_of (rows_in entries e rows) ≡ word_by entries e rows
  word-in =
      ap (λ (m : ℕ). lock_word m (manager_of (rows_in entries e rows)) 0) interest-in
      ∙ ap (λ (o : Option SysId). lock_word (interest_by entries e rows) o 0) manager-in

  group-here : e < entries → group_at (groups_of entries rows) e ≡ rows_in entries e rows
  group-here below = get_or-map-range_with_len (λ k. rows_in entries k rows) 0 entries e e [] below (omega arith)

-- ---- the same of all entries

map-each : {X Y : Type 0} (h : X → Y) (f : ℕ → X) (g : ℕ → Y) (ks : List ℕ) → ((e : ℕ) → h (f e) ≡ g e)
    → map h (map f ks) ≡ map g ks
map-each h f g [] same = refl
map-each h f g (k ∷ ks) same = ap (λ y. y ∷ map h (map f ks)) (same k) ∙ ap (λ ys. g k ∷ ys) (map-each h f g ks same)

pub words-in : (entries : ℕ) (rows : List Row)
    → map word_of (groups_of entries rows) ≡ map (λ e. word_by entries e rows) (range_with_len 0 entries)
words-in entries rows =
    map-each word_of (λ e. rows_in entries e rows) (λ e. word_by entries e rows) (range_with_len 0 entries)
    (λ e. word-in entries e rows)

pub parts-in : (entries : ℕ) (rows : List Row)
    → map (numbered_from 1) (groups_of entries rows)
    ≡ map (λ e. numbered_in entries e rows) (range_with_len 0 entries)
parts-in entries rows =
    map-each (numbered_from 1) (λ e. rows_in entries e rows) (λ e. numbered_in entries e rows)
    (range_with_len 0 entries) (λ e. refl)

pub managed-in : (entries : ℕ) (s : SysId) (rows : List Row)
    → filter (λ e. is_manager (manager_of (group_at (groups_of entries rows) e)) s) (range_with_len 0 entries)
    ≡ filter (λ e. is_manager (manager_by entries e rows) s) (range_with_len 0 entries)
managed-in entries s rows =
    same-filter (λ e. is_manager (manager_of (group_at (groups_of entries rows) e)) s)
    (λ e. is_manager (manager_by entries e rows) s) 0 entries
    (λ e below.
    ap (λ (xs : List Row). is_manager (manager_of xs) s) (group-here entries e rows (omega (arith, below)))
    ∙ ap (λ (o : Option SysId). is_manager o s) (manager-in entries e rows))

pub interested-in : (entries s : ℕ) (rows : List Row)
    → filter (λ e. is_among (group_at (groups_of entries rows) e) s) (range_with_len 0 entries)
    ≡ filter (λ e. has_elements entries e rows s) (range_with_len 0 entries)
interested-in entries s rows =
    same-filter (λ e. is_among (group_at (groups_of entries rows) e) s) (λ e. has_elements entries e rows s) 0 entries
    (λ e below.
    ap (λ (xs : List Row). is_among xs s) (group-here entries e rows (omega (arith, below)))
    ∙ among-in entries e rows s)

pub ruleset roles = (length-groups_of, parts-in)
