-- The rows of a table, and each lock entry's part of them with ranks: a manager may load it as it is.
use Rattle.std.proofs.Common.{◌≡◌, ◌≤◌, ◌<◌, ◌+◌, ◌≢◌, ℕ, zero, suc, Bool, true, false, cond, not, T, ◌&&◌, List, []}
use Rattle.std.proofs.Common.{◌∷◌, ◌++◌, length, map, refl, ap, sym, ◌∙◌, subst, arith}
use Rattle.std.specs.Prelude.{filter, nat_le, nat_lt, ◌==◌, Option, Some, None}
use Rattle.std.specs.List.{list_all, list_any, range_with_len, flat_map}
use Rattle.std.specs.declared.cmp.Ordering.{Ordering}
use Rattle.std.specs.declared.cmp.Ordering.TheVariants.{Less, Equal, Greater}
use Rattle.std.specs.Ordering.{is_lt, eq_by_cmp}
use Rattle.std.specs.FinMap.{put, is_sorted}
use Rattle.std.specs.FinMap.Entries.{by_order, below_all, is_sorted-put}
use Rattle.std.proofs.lemmas.Bool.{and_parts, eqb-true}
use Rattle.std.proofs.lemmas.Bool.Decides.{nat_tests}
use Rattle.std.proofs.lemmas.List.Elements.{filter-append}
use Rattle.std.proofs.lemmas.List.{get_or_past}
use Rattle.std.proofs.lemmas.List.FromFn.{get_or-map-range_with_len, length-map-range_with_len, length-range_with_len}
use Rattle.grs_base.specs.Limits.{last_number}
use Rattle.grs_base.specs.Lists.{is_apart}
use Rattle.grs_base.specs.ResOrder.{res_order}
use Rattle.grs_base.specs.Rows.{lists_from, lists_of, row_of, rows_of}
use Rattle.grs_base.specs.Same.{same_res}
use Rattle.grs_base.specs.State.{State, list_of}
use Rattle.grs_base.specs.declared.resource.Elem.{Elem}
use Rattle.grs_base.specs.declared.resource.Res.{Res}
use Rattle.grs_base.specs.declared.resource.Row.{Row}
use Rattle.grs_base.proofs.OrderLaws.{res_total, same_res-tie}
use Rattle.lock_structure.specs.Entries.{entry_of_res, is_entry}
use Rattle.lock_structure.specs.RankedRows.{RankedRow, ranks_of, rises, differ, rows_apart, IsLoadable}
use Rattle.mode_migrate.specs.Migrate.{row_is_of, rows_in, numbered_from, numbered_in, ranked_by, part_of, part_by}
use Rattle.mode_migrate.specs.Migrate.{parts_by, part_at, has_small_ranks, AreApart, AreLoadable}

abbrev Lists : Type 0
Lists = List (Res × List Elem)

pub both : (a b : Bool) → a ≡ true → b ≡ true → (a && b) ≡ true
both true true e f = refl
both true false e f = absurd cc
both false b e f = absurd cc

-- ---- what passes

-- what is left passes where all did, and what was chosen passes the choice
pub all-filter : {X : Type 0} (p test : X → Bool) (xs : List X) → list_all p xs ≡ true
    → list_all p (filter test xs) ≡ true
all-filter p test [] h = refl
all-filter p test (x ∷ xs) h = go (test x) (all-filter p test xs (and_parts (p x) _ h).1)
  where
    go : (b : Bool) → list_all p (filter test xs) ≡ true
        → list_all p (cond b (x ∷ filter test xs) (filter test xs)) ≡ true
    go true rest = both (p x) _ (and_parts (p x) _ h).0 rest
    go false rest = rest

chosen-pass : {X : Type 0} (test : X → Bool) (xs : List X) → list_all test (filter test xs) ≡ true
chosen-pass test [] = refl
chosen-pass test (x ∷ xs) = go (test x) refl (chosen-pass test xs)
  where
    go : (b : Bool) → test x ≡ b → list_all test (filter test xs) ≡ true
        → list_all test (cond b (x ∷ filter test xs) (filter test xs)) ≡ true
    go true is rest = both (test x) _ is rest
    go false is rest = rest

filter-all : {X : Type 0} (test : X → Bool) (xs : List X) → list_all test xs ≡ true → filter test xs ≡ xs
filter-all test [] h = refl
filter-all test (x ∷ xs) h =
    ap (λ (b : Bool). cond b (x ∷ filter test xs) (filter test xs)) (and_parts (test x) _ h).0
    ∙ ap (λ (l : List _). x ∷ l) (filter-all test xs (and_parts (test x) _ h).1)

filter-none : {X : Type 0} (test other : X → Bool) (xs : List X) → ((x : X) → test x ≡ true → other x ≡ false)
    → list_all test xs ≡ true → filter other xs ≡ []
filter-none test other [] apart h = refl
filter-none test other (x ∷ xs) apart h =
    ap (λ (b : Bool). cond b (x ∷ filter other xs) (filter other xs)) (apart x (and_parts (test x) _ h).0)
    ∙ filter-none test other xs apart (and_parts (test x) _ h).1

-- numbering changes no row
all-numbered : (p : Row → Bool) (n : ℕ) (rows : List Row) → list_all p rows ≡ true
    → list_all (λ x. p x.0) (numbered_from n rows) ≡ true
all-numbered p n [] h = refl
all-numbered p n (x ∷ rows) h =
    both (p x) _ (and_parts (p x) _ h).0 (all-numbered p (n + length x.elems) rows (and_parts (p x) _ h).1)

-- ---- the rows of a table

module _ (R : Res → Res → Ordering) (q : List Elem → Bool) where
  put-values : (k : Res) (v : List Elem) (es : Lists) → q v ≡ true → list_all (λ e. q e.1) es ≡ true
      → list_all (λ e. q e.1) (put R k v es) ≡ true
  put-values k v [] new old = both (q v) true new refl
  put-values k v (e ∷ es) new old = go (R k e.0) (put-values k v es new (and_parts (q e.1) _ old).1)
    where
      go : (o : Ordering) → list_all (λ x. q x.1) (put R k v es) ≡ true
          → list_all (λ x. q x.1) (by_order o ((k, v) ∷ e ∷ es) ((e.0, v) ∷ es) (e ∷ put R k v es)) ≡ true
      go Less rest = both (q v) _ new old
      go Equal rest = both (q v) _ new (and_parts (q e.1) _ old).1
      go Greater rest = both (q e.1) _ (and_parts (q e.1) _ old).0 rest

all-lists : (q : List Elem → Bool) (s hs : State) → ((r : Res) → q (list_of s r) ≡ true)
    → list_all (λ e. q e.1) (lists_from s hs) ≡ true
all-lists q s [] h = refl
all-lists q s (x ∷ hs) h = put-values res_order q x.0 (list_of s x.0) (lists_from s hs) (h x.0) (all-lists q s hs h)

all-mapped : (q : List Elem → Bool) (es : Lists) → list_all (λ e. q e.1) es ≡ true
    → list_all (λ x. q x.elems) (map row_of es) ≡ true
all-mapped q [] h = refl
all-mapped q (e ∷ es) h = both (q e.1) _ (and_parts (q e.1) _ h).0 (all-mapped q es (and_parts (q e.1) _ h).1)

-- what is so of each list is so of each row
pub all-rows : (q : List Elem → Bool) (t : State) → ((r : Res) → q (list_of t r) ≡ true)
    → list_all (λ x. q x.elems) (rows_of t) ≡ true
all-rows q t h = all-mapped q (lists_of t) (all-lists q t t h)

-- the same of the rows of an entry, with their ranks
pub all-part : (q : List Elem → Bool) (entries : ℕ) (t : State) (e : ℕ) → ((r : Res) → q (list_of t r) ≡ true)
    → list_all (λ x. q x.0.elems) (part_by entries t e) ≡ true
all-part q entries t e h =
    all-numbered (λ x. q x.elems) 1 (rows_in entries e (rows_of t))
    (all-filter (λ x. q x.elems) (row_is_of entries e) (rows_of t) (all-rows q t h))

-- what is so of all elements of a table is so of those of a list
pub all-list : (q : Elem → Bool) (t : State) (r : Res) → list_all (λ h. q h.1) t ≡ true
    → list_all q (list_of t r) ≡ true
all-list q [] r h = refl
all-list q (x ∷ t) r h = go (same_res r x.0) (all-list q t r (and_parts (q x.1) _ h).1)
  where
    go : (b : Bool) → list_all q (list_of t r) ≡ true → list_all q (cond b (x.1 ∷ list_of t r) (list_of t r)) ≡ true
    go true rest = both (q x.1) _ (and_parts (q x.1) _ h).0 rest
    go false rest = rest

lists-sorted : (s hs : State) → T (is_sorted res_order (lists_from s hs))
lists-sorted s [] = tt
lists-sorted s (h ∷ hs) = is_sorted-put res_order res_total h.0 (list_of s h.0) (lists_from s hs) (lists-sorted s hs)

-- ---- rows of several resources

first : (a b : Bool) → T (a && b) → T a
first true b p = tt
first false b p = p

second : (a b : Bool) → T (a && b) → T b
second true b p = p
second false b p = absurd p

module _ (R : Res → Res → Ordering) (tie : (a b : Res) → same_res a b ≡ eq_by_cmp R a b) (test : Row → Bool) where
  below-other : (a b : Res) → T (is_lt (R a b)) → same_res a b ≡ false
  below-other a b h = tie a b ∙ go (R a b) refl h
    where
      go : (o : Ordering) → R a b ≡ o → T (is_lt o) → eq_by_cmp R a b ≡ false
      go Less is k = rw is refl
      go Equal is k = absurd k
      go Greater is k = absurd k

  none-behind : (r : Res) (n : ℕ) (es : Lists) → T (below_all R r es)
      → list_any (λ y. same_res r y.0.res) (numbered_from n (filter test (map row_of es))) ≡ false
  none-behind r n [] h = refl
  none-behind r n (e ∷ es) h = go (test (row_of e)) (λ k. none-behind r k es (second _ _ h))
    where
      go : (b : Bool)
          → ((k : ℕ) → list_any (λ y. same_res r y.0.res) (numbered_from k (filter test (map row_of es))) ≡ false)
          → list_any (λ y. same_res r y.0.res)
          (numbered_from n (cond b (row_of e ∷ filter test (map row_of es)) (filter test (map row_of es))))
          ≡ false
      go true rest = rw (below-other r e.0 (first _ _ h)) (rest (n + length e.1))
      go false rest = rest n

  apart-numbered : (n : ℕ) (es : Lists) → T (is_sorted R es)
      → rows_apart (numbered_from n (filter test (map row_of es))) ≡ true
  apart-numbered n [] h = refl
  apart-numbered n (e ∷ es) h = go (test (row_of e)) (λ k. apart-numbered k es (second _ _ h))
    where
      go : (b : Bool) → ((k : ℕ) → rows_apart (numbered_from k (filter test (map row_of es))) ≡ true)
          → rows_apart (numbered_from n (cond b (row_of e ∷ filter test (map row_of es)) (filter test (map row_of es))))
          ≡ true
      go true rest = both _ _ (ap not (none-behind e.0 (n + length e.1) es (first _ _ h))) (rest (n + length e.1))
      go false rest = rest n

-- ---- ranks

rises-above : (m n k : ℕ) → m < n → list_all (λ j. nat_lt m j) (range_with_len n k) ≡ true
rises-above m n zero h = refl
rises-above m n (suc k) h =
    both (nat_lt m n) _ (grind (arith, nat_tests, h)) (rises-above m (n + 1) k (omega (arith, h)))

range-rises : (n k : ℕ) → rises (range_with_len n k) ≡ true
range-rises n zero = refl
range-rises n (suc k) = both _ _ (rises-above n (n + 1) k (omega arith)) (range-rises (n + 1) k)

not-above : (m n k : ℕ) → m < n → list_any (λ j. m == j) (range_with_len n k) ≡ false
not-above m n zero h = refl
not-above m n (suc k) h =
    let other : (m == n) ≡ false = grind (arith, nat_tests, h) in
    rw other (not-above m (n + 1) k (omega (arith, h)))

range-differ : (n k : ℕ) → differ (range_with_len n k) ≡ true
range-differ n zero = refl
range-differ n (suc k) = both _ _ (ap not (not-above n (n + 1) k (omega arith))) (range-differ (n + 1) k)

range-append : (n a b : ℕ) → range_with_len n a ++ range_with_len (n + a) b ≡ range_with_len n (a + b)
range-append n zero b =
    let same : n + 0 ≡ n = omega arith in
    let none : b ≡ 0 + b = omega arith in
    ap (λ (k : ℕ). range_with_len k b) same ∙ ap (range_with_len n) none
range-append n (suc a) b =
    let same : n + suc a ≡ n + 1 + a = omega arith in
    let more : suc (a + b) ≡ suc a + b = omega arith in
    ap (λ (k : ℕ). n ∷ range_with_len (n + 1) a ++ range_with_len k b) same
    ∙ ap (λ (l : List ℕ). n ∷ l) (range-append (n + 1) a b)
    ∙ ap (range_with_len n) more

abbrev elem_count : List Row → ℕ
elem_count [] = 0
elem_count (x ∷ rows) = length x.elems + elem_count rows

ranks-numbered : (n : ℕ) (rows : List Row) → ranks_of (numbered_from n rows) ≡ range_with_len n (elem_count rows)
ranks-numbered n [] = refl
ranks-numbered n (x ∷ rows) =
    ap (λ (l : List ℕ). range_with_len n (length x.elems) ++ l) (ranks-numbered (n + length x.elems) rows)
    ∙ range-append n (length x.elems) (elem_count rows)

ranked-numbered : (n : ℕ) (rows : List Row)
    → list_all (λ x. length x.1 == length x.0.elems) (numbered_from n rows) ≡ true
ranked-numbered n [] = refl
ranked-numbered n (x ∷ rows) =
    both _ _ (grind (arith, nat_tests, length-range_with_len n (length x.elems)))
    (ranked-numbered (n + length x.elems) rows)

rising-numbered : (n : ℕ) (rows : List Row) → list_all (λ x. rises x.1) (numbered_from n rows) ≡ true
rising-numbered n [] = refl
rising-numbered n (x ∷ rows) = both _ _ (range-rises n (length x.elems)) (rising-numbered (n + length x.elems) rows)

-- the rows of an entry: each resource has one, and ranks rise in it
pub part-apart : (entries : ℕ) (t : State) (e : ℕ) → rows_apart (part_by entries t e) ≡ true
part-apart entries t e = apart-numbered res_order same_res-tie (row_is_of entries e) 1 (lists_of t) (lists-sorted t t)

pub part-rises : (entries : ℕ) (t : State) (e : ℕ) → list_all (λ x. rises x.1) (part_by entries t e) ≡ true
part-rises entries t e = rising-numbered 1 (rows_in entries e (rows_of t))

-- ---- the part of an entry among those of all

is-one : (e f : ℕ) (o : Option ℕ) → f ≢ e → is_entry f o ≡ true → is_entry e o ≡ false
is-one e f None other h = refl
is-one e f (Some n) other h =
    let same : n ≡ f = eqb-true n f h in
    go (n == e) refl same
  where
    go : (b : Bool) → (n == e) ≡ b → n ≡ f → b ≡ false
    go true is same = absurd (other (sym same ∙ eqb-true n e is))
    go false is same = refl

part-same : (entries e : ℕ) (rows : List Row)
    → part_of entries e (numbered_in entries e rows) ≡ numbered_in entries e rows
part-same entries e rows =
    filter-all (λ x. row_is_of entries e x.0) (numbered_in entries e rows)
    (all-numbered (row_is_of entries e) 1 (rows_in entries e rows) (chosen-pass (row_is_of entries e) rows))

part-other : (entries e f : ℕ) (rows : List Row) → f ≢ e → part_of entries e (numbered_in entries f rows) ≡ []
part-other entries e f rows other =
    filter-none (λ x. row_is_of entries f x.0) (λ x. row_is_of entries e x.0) (numbered_in entries f rows)
    (λ x h. is-one e f (entry_of_res entries x.0.res) other h)
    (all-numbered (row_is_of entries f) 1 (rows_in entries f rows) (chosen-pass (row_is_of entries f) rows))

module _ (entries e : ℕ) (rows : List Row) where
  abbrev all_from : ℕ → ℕ → List RankedRow
  all_from a n = flat_map (λ k. numbered_in entries k rows) (range_with_len a n)

  part-above : (a n : ℕ) → e < a → part_of entries e (all_from a n) ≡ []
  part-above a zero h = refl
  part-above a (suc n) h =
      filter-append (λ (x : RankedRow). row_is_of entries e x.0) (numbered_in entries a rows) (all_from (a + 1) n)
      ∙ ap (λ (l : List RankedRow). l ++ part_of entries e (all_from (a + 1) n))
      (part-other entries e a rows (λ is. absurd (omega (arith, h, is))))
      ∙ part-above (a + 1) n (omega (arith, h))

  append-none : (xs : List RankedRow) → xs ++ [] ≡ xs
  append-none [] = refl
  append-none (x ∷ xs) = ap (λ (l : List RankedRow). x ∷ l) (append-none xs)

  part-within : (a n : ℕ) → a ≤ e → e < a + n → part_of entries e (all_from a n) ≡ numbered_in entries e rows
  part-within a zero low high = absurd (omega (arith, low, high))
  part-within a (suc n) low high =
      filter-append (λ (x : RankedRow). row_is_of entries e x.0) (numbered_in entries a rows) (all_from (a + 1) n)
      ∙ go (a == e) refl (part-within (a + 1) n)
    where
      go : (b : Bool) → (a == e) ≡ b
          → (a + 1 ≤ e → e < a + 1 + n → part_of entries e (all_from (a + 1) n) ≡ numbered_in entries e rows)
          → part_of entries e (numbered_in entries a rows) ++ part_of entries e (all_from (a + 1) n)
          ≡ numbered_in entries e rows
      go true is rest =
          let same : a ≡ e = eqb-true a e is in
          ap (λ (l : List RankedRow). part_of entries e (numbered_in entries a rows) ++ l)
          (part-above (a + 1) n (omega (arith, same)))
          ∙ append-none (part_of entries e (numbered_in entries a rows))
          ∙ ap (λ (k : ℕ). part_of entries e (numbered_in entries k rows)) same
          ∙ part-same entries e rows
      go false is rest =
          let other : a ≢ e = λ same. grind (arith, nat_tests, is, same) in
          ap (λ (l : List RankedRow). l ++ part_of entries e (all_from (a + 1) n)) (part-other entries e a rows other)
          ∙ rest (grind (arith, nat_tests, low, is)) (omega (arith, high))

-- the part of an entry is its rows, numbered from 1
pub parts_are_numbered : (entries e : ℕ) (t : State) → e < entries
    → part_of entries e (ranked_by entries t) ≡ part_by entries t e
parts_are_numbered entries e t h = part-within entries e (rows_of t) 0 entries (omega arith) (omega (arith, h))

-- ---- it may be loaded

loadable-numbered : (entries e : ℕ) (t : State) → AreApart t
    → list_all (λ n. nat_le n last_number) (ranks_of (part_by entries t e)) ≡ true
    → IsLoadable entries e (part_by entries t e)
loadable-numbered entries e t apart small = record {
  of_entry =
      all-numbered (row_is_of entries e) 1 (rows_in entries e (rows_of t))
      (chosen-pass (row_is_of entries e) (rows_of t));
  once = apart-numbered res_order same_res-tie (row_is_of entries e) 1 (lists_of t) (lists-sorted t t);
  apart = all-part is_apart entries t e apart;
  ranked = ranked-numbered 1 (rows_in entries e (rows_of t));
  rising = rising-numbered 1 (rows_in entries e (rows_of t));
  distinct =
      ap differ (ranks-numbered 1 (rows_in entries e (rows_of t)))
      ∙ range-differ 1 (elem_count (rows_in entries e (rows_of t)));
  small = small;
}

loadable-none : (entries e : ℕ) → IsLoadable entries e []
loadable-none entries e = record {
  of_entry = refl;
  once = refl;
  apart = refl;
  ranked = refl;
  rising = refl;
  distinct = refl;
  small = refl;
}

-- ---- the parts of all entries

pub length-parts_by : (entries : ℕ) (t : State) → length (parts_by entries t) ≡ entries
length-parts_by entries t = length-map-range_with_len (part_by entries t) 0 entries

pub part-there : (entries e : ℕ) (t : State) → e < entries → part_at (parts_by entries t) e ≡ part_by entries t e
part-there entries e t h = get_or-map-range_with_len (part_by entries t) 0 entries e e [] h (omega arith)

part-past : (entries e : ℕ) (t : State) → entries ≤ e → part_at (parts_by entries t) e ≡ []
part-past entries e t h =
    get_or_past (parts_by entries t) e [] (omega (arith, h, length-parts_by entries t))

joined-map : (f : ℕ → List RankedRow) (ks : List ℕ) → flat_map (λ part. part) (map f ks) ≡ flat_map f ks
joined-map f [] = refl
joined-map f (k ∷ ks) = ap (λ (xs : List RankedRow). f k ++ xs) (joined-map f ks)

-- together they are the ranked rows
pub parts-joined : (entries : ℕ) (t : State) → flat_map (λ part. part) (parts_by entries t) ≡ ranked_by entries t
parts-joined entries t = joined-map (part_by entries t) (range_with_len 0 entries)

small-at : (parts : List (List RankedRow)) (e : ℕ) → list_all has_small_ranks parts ≡ true
    → has_small_ranks (part_at parts e) ≡ true
small-at [] e h = refl
small-at (part ∷ parts) zero h = (and_parts (has_small_ranks part) _ h).0
small-at (part ∷ parts) (suc e) h = small-at parts e (and_parts (has_small_ranks part) _ h).1

pub parts_are_loadable : (entries : ℕ) (t : State) → AreApart t
    → list_all has_small_ranks (parts_by entries t) ≡ true → AreLoadable entries (parts_by entries t)
parts_are_loadable entries t apart small e = go (nat_lt e entries) refl
  where
    go : (b : Bool) → nat_lt e entries ≡ b → IsLoadable entries e (part_at (parts_by entries t) e)
    go true is =
        let there : part_at (parts_by entries t) e ≡ part_by entries t e =
        part-there entries e t (grind (arith, nat_tests, is)) in
        subst (IsLoadable entries e) (sym there)
        (loadable-numbered entries e t apart (subst (λ (xs : List RankedRow). has_small_ranks xs ≡ true) there
        (small-at (parts_by entries t) e small)))
    go false is =
        subst (IsLoadable entries e) (sym (part-past entries e t (grind (arith, nat_tests, is))))
        (loadable-none entries e)
