-- Laws of a removal, proved.
use Rattle.std.proofs.Common.{◌≡◌, ◌≢◌, ◌<◌, ◌≤◌, ◌+◌, ℕ, zero, suc, Bool, true, false, cond, not, ◌&&◌, List, [], ◌∷◌}
use Rattle.std.proofs.Common.{◌++◌, length, map, Option, Some, None, refl, ap, sym, ◌∙◌, subst, arith, append-nil}
use Rattle.std.specs.Prelude.{◌==◌, nat_lt, filter}
use Rattle.std.specs.List.{All, list_all, range_with_len, flat_map}
use Rattle.std.proofs.lemmas.Bool.{and_parts, eqb-true, eqb-false, true≢false}
use Rattle.std.proofs.lemmas.Bool.Decides.{nat_tests}
use Rattle.std.proofs.lemmas.List.{get_or-map, map-append}
use Rattle.std.proofs.lemmas.List.Elements.{filter-append}
use Rattle.std.proofs.lemmas.List.Folds.{list_all-append}
use Rattle.grs_base.specs.declared.resource.SysId.{SysId}
use Rattle.grs_wire.proofs.MaskLaws.{has-zero, has-without_same, has-without_other, without-absent, without-lt}
use Rattle.grs_wire.specs.LockWords.{interest, manager, epoch, manager_number, lock_word, is_manager}
use Rattle.grs_wire.specs.Masks.{has, without}
use Rattle.grs_wire.specs.declared.gather.Moved.{Moved}
use Rattle.lock_structure.specs.Laws.{ManagedBy, IsManaged, is_interested}
use Rattle.lock_structure.specs.Least.{least_below, least_of}
use Rattle.lock_structure.specs.Purge.{last_epoch, next_epoch, purged_word, purged_words, made_known, moved_at, moved}
use Rattle.lock_structure.specs.Purge.{moved_for}
use Rattle.lock_structure.specs.PurgeLaws.{PurgeTakesTarget, PurgeKeepsOthers, PurgeNamesLeast, PurgeCounts}
use Rattle.lock_structure.specs.PurgeLaws.{EpochsNeverFall, PurgeKeepsManaged, PurgeKeepsWord, PurgeKeepsAllManaged}
use Rattle.lock_structure.specs.PurgeLaws.{MovedOnce, MovedAreEntries, MovedInOrder, MovedForInterested, MovedForOthers}
use Rattle.lock_structure.specs.RankedRows.{rises}
use Rattle.lock_structure.specs.Words.{word_at}
use Rattle.lock_structure.proofs.LawProofs.{managed-word, without-managed, has-without}
use Rattle.lock_structure.proofs.LeastLaws.{least-passes, none-passes, nobody-below}
use Rattle.lock_structure.proofs.Others.{same-members}
use Rattle.lock_structure.proofs.Ranges.{flat_map-range_more}
use Rattle.lock_structure.proofs.WordLaws.{interest-lock_word, manager-lock_word, epoch-lock_word, lock_word-parts}
use Rattle.lock_structure.proofs.WordLaws.{manager_number-lt}

-- ---- the parts of a word behind a removal
number-least : (mask : ℕ) → manager_number (least_of mask) < 16
number-least mask = go (least_of mask) refl
  where
    go : (o : Option SysId) → least_of mask ≡ o → manager_number o < 16
    go None is = omega arith
    go (Some s) is = let below = (least-passes 8 (has mask) s is).0 in omega (arith, below)

abbrev left : ℕ → SysId → ℕ
left w t = without (interest w) t.0

left-lt : (w : ℕ) (t : SysId) → left w t < 256
left-lt w t = without-lt (interest w) t.0 (omega arith)

pub interest-purged : (w : ℕ) (t : SysId) → interest (purged_word w t) ≡ without (interest w) t.0
unfolding purged_word
interest-purged w t = go (is_manager (manager w) t)
  where
    go : (b : Bool)
        → interest (cond b (lock_word (left w t) (least_of (left w t)) (next_epoch (epoch w)))
        (lock_word (left w t) (manager w) (epoch w)))
        ≡ left w t
    go true = interest-lock_word (left w t) (least_of (left w t)) (next_epoch (epoch w)) (left-lt w t)
    go false = interest-lock_word (left w t) (manager w) (epoch w) (left-lt w t)

pub manager-purged : (w : ℕ) (t : SysId)
    → manager (purged_word w t)
    ≡ cond (is_manager (manager w) t) (least_of (without (interest w) t.0)) (manager w)
unfolding purged_word
manager-purged w t = go (is_manager (manager w) t)
  where
    go : (b : Bool)
        → manager (cond b (lock_word (left w t) (least_of (left w t)) (next_epoch (epoch w)))
        (lock_word (left w t) (manager w) (epoch w)))
        ≡ cond b (least_of (left w t)) (manager w)
    go true =
        manager-lock_word (left w t) (least_of (left w t)) (next_epoch (epoch w)) (left-lt w t)
        (number-least (left w t))
    go false = manager-lock_word (left w t) (manager w) (epoch w) (left-lt w t) (manager_number-lt w)

pub epoch-purged : (w : ℕ) (t : SysId)
    → epoch (purged_word w t) ≡ cond (is_manager (manager w) t) (next_epoch (epoch w)) (epoch w)
unfolding purged_word
epoch-purged w t = go (is_manager (manager w) t)
  where
    go : (b : Bool)
        → epoch (cond b (lock_word (left w t) (least_of (left w t)) (next_epoch (epoch w)))
        (lock_word (left w t) (manager w) (epoch w)))
        ≡ cond b (next_epoch (epoch w)) (epoch w)
    go true =
        epoch-lock_word (left w t) (least_of (left w t)) (next_epoch (epoch w)) (left-lt w t) (number-least (left w t))
    go false = epoch-lock_word (left w t) (manager w) (epoch w) (left-lt w t) (manager_number-lt w)

-- ---- laws of one word
pub purge_takes_target : PurgeTakesTarget
purge_takes_target w t s = ap (λ (m : ℕ). has m s) (interest-purged w t) ∙ has-without (interest w) t.0 s

pub purge_keeps_others : PurgeKeepsOthers
purge_keeps_others w t other = (
  manager-purged w t ∙ ap (λ (b : Bool). cond b (least_of (left w t)) (manager w)) other,
  epoch-purged w t ∙ ap (λ (b : Bool). cond b (next_epoch (epoch w)) (epoch w)) other,
)

member-left : (w : ℕ) (t : SysId) (s : ℕ) → has (left w t) s ≡ true → (s ≢ t.0) × (has (interest w) s ≡ true)
member-left w t s is =
    let parts = and_parts (has (interest w) s) (not (s == t.0)) (sym (has-without (interest w) t.0 s) ∙ is) in
    (eqb-false s t.0 (turned (s == t.0) parts.1), parts.0)
  where
    turned : (b : Bool) → not b ≡ true → b ≡ false
    turned false e = refl
    turned true e = absurd cc

pub purge_names_least : PurgeNamesLeast
purge_names_least w t s managed is =
    let least : least_of (left w t) ≡ Some s =
    sym (ap (λ (b : Bool). cond b (least_of (left w t)) (manager w)) managed) ∙ sym (manager-purged w t) ∙ is in
    let here = member-left w t s.0 (least-passes 8 (has (left w t)) s least).1 in (
      here.0,
      here.1,
      λ k less other.
          sym (has-without_other (interest w) t.0 k other) ∙ nobody-below 8 (has (left w t)) s least k less,
    )

pub purge_counts : PurgeCounts
purge_counts w t managed low =
    let below : nat_lt (epoch w) last_epoch ≡ true = grind (arith, nat_tests, low) in
    epoch-purged w t
    ∙ ap (λ (b : Bool). cond b (next_epoch (epoch w)) (epoch w)) managed
    ∙ ap (λ (b : Bool). cond b (suc (epoch w)) (epoch w)) below

next_epoch-le : (n : ℕ) → n ≤ next_epoch n
next_epoch-le n = go (nat_lt n last_epoch)
  where
    go : (b : Bool) → n ≤ cond b (suc n) n
    go true = omega arith
    go false = omega arith

pub epochs_never_fall : EpochsNeverFall
epochs_never_fall w t = subst (λ (n : ℕ). epoch w ≤ n) (sym (epoch-purged w t)) (go (is_manager (manager w) t))
  where
    go : (b : Bool) → epoch w ≤ cond b (next_epoch (epoch w)) (epoch w)
    go true = next_epoch-le (epoch w)
    go false = omega arith

least-managed : (mask : ℕ) → mask < 256 → ManagedBy (least_of mask) mask
least-managed mask small = go (least_of mask) refl
  where
    go : (o : Option SysId) → least_of mask ≡ o → ManagedBy o mask
    go None is =
        same-members mask 0 small (omega arith) (λ s low. none-passes 8 (has mask) is s low ∙ sym (has-zero s))
    go (Some s) is = (least-passes 8 (has mask) s is).1

pub purge_keeps_managed : PurgeKeepsManaged
unfolding purged_word
purge_keeps_managed w t h = go (is_manager (manager w) t) refl
  where
    go : (b : Bool) → is_manager (manager w) t ≡ b
        → IsManaged (cond b (lock_word (left w t) (least_of (left w t)) (next_epoch (epoch w)))
        (lock_word (left w t) (manager w) (epoch w)))
    go true is =
        managed-word (left w t) (least_of (left w t)) (next_epoch (epoch w)) (left-lt w t) (number-least (left w t))
        (least-managed (left w t) (left-lt w t))
    go false is =
        managed-word (left w t) (manager w) (epoch w) (left-lt w t) (manager_number-lt w)
        (without-managed (interest w) (manager w) t is h)

pub purge_keeps_word : PurgeKeepsWord
unfolding purged_word
purge_keeps_word w t gone other =
    ap (λ (b : Bool).
    cond b (lock_word (left w t) (least_of (left w t)) (next_epoch (epoch w)))
    (lock_word (left w t) (manager w) (epoch w)))
    other
    ∙ ap (λ (m : ℕ). lock_word m (manager w) (epoch w)) (without-absent (interest w) t.0 gone)
    ∙ lock_word-parts w

-- ---- the words of all entries
pub purge_keeps_all_managed : PurgeKeepsAllManaged
purge_keeps_all_managed [] t all k d inside = absurd (omega (arith, inside))
purge_keeps_all_managed (w ∷ ws) t all zero d inside = purge_keeps_managed w t (all 0 0 (omega arith))
purge_keeps_all_managed (w ∷ ws) t all (suc k) d inside =
    purge_keeps_all_managed ws t (λ i e low. all (suc i) e (omega (arith, low))) k d (omega (arith, inside))

word-purged : (words : List ℕ) (t : SysId) (e : ℕ) → e < length words
    → word_at (purged_words words t) e ≡ purged_word (word_at words e) t
word-purged words t e inside = get_or-map (λ (w : ℕ). purged_word w t) words e 0 0 inside

-- what is made known of an entry is of this entry
known-once : (e : ℕ) (o : Option SysId) (w k : ℕ)
    → filter (λ m. m.entry == k) (made_known e o w) ≡ cond (e == k) (made_known e o w) []
known-once e None w k = go (e == k)
  where
    go : (b : Bool) → [] ≡ cond b (made_known e None w) []
    go true = refl
    go false = refl
known-once e (Some s) w k = refl

at-once : (e w : ℕ) (t : SysId) (k : ℕ)
    → filter (λ m. m.entry == k) (moved_at e w t) ≡ cond (e == k) (moved_at e w t) []
at-once e w t k = go (is_manager (manager w) t)
  where
    none : (b : Bool) → [] ≡ cond b (made_known e None w) []
    none true = refl
    none false = refl

    go : (b : Bool)
        → filter (λ m. m.entry == k) (cond b (made_known e (manager (purged_word w t)) (purged_word w t)) [])
        ≡ cond (e == k) (cond b (made_known e (manager (purged_word w t)) (purged_word w t)) []) []
    go true = known-once e (manager (purged_word w t)) (purged_word w t) k
    go false = none (e == k)

abbrev first_moved : List ℕ → SysId → ℕ → List Moved
first_moved words t n = flat_map (λ e. moved_at e (word_at words e) t) (range_with_len 0 n)

first-more : (words : List ℕ) (t : SysId) (n : ℕ)
    → first_moved words t (suc n) ≡ first_moved words t n ++ moved_at n (word_at words n) t
first-more words t n =
    let next : suc n ≡ n + 1 = omega arith in
    ap (first_moved words t) next ∙ flat_map-range_more (λ e. moved_at e (word_at words e) t) n

first-once : (words : List ℕ) (t : SysId) (e n : ℕ)
    → filter (λ m. m.entry == e) (first_moved words t n) ≡ cond (nat_lt e n) (moved_at e (word_at words e) t) []
first-once words t e zero = go (nat_lt e 0) (grind (arith, nat_tests))
  where
    go : (b : Bool) → b ≡ false → [] ≡ cond b (moved_at e (word_at words e) t) []
    go false is = refl
    go true is = absurd cc
first-once words t e (suc n) =
    ap (filter (λ (m : Moved). m.entry == e)) (first-more words t n)
    ∙ filter-append (λ (m : Moved). m.entry == e) (first_moved words t n) (moved_at n (word_at words n) t)
    ∙ ap (λ (xs : List Moved). xs ++ filter (λ (m : Moved). m.entry == e) (moved_at n (word_at words n) t))
    (first-once words t e n)
    ∙ ap (λ (xs : List Moved). cond (nat_lt e n) (moved_at e (word_at words e) t) [] ++ xs)
    (at-once n (word_at words n) t e)
    ∙ go (nat_lt e n) refl (n == e) refl (nat_lt e (suc n)) refl
  where
    go : (a : Bool) → nat_lt e n ≡ a → (b : Bool) → (n == e) ≡ b → (c : Bool) → nat_lt e (suc n) ≡ c
        → cond a (moved_at e (word_at words e) t) [] ++ cond b (moved_at n (word_at words n) t) []
        ≡ cond c (moved_at e (word_at words e) t) []
    go true less false other true below = append-nil (moved_at e (word_at words e) t)
    go false more true same true below = ap (λ (k : ℕ). moved_at k (word_at words k) t) (eqb-true n e same)
    go false more false other false above = refl
    go true less true same c below = absurd (grind (arith, nat_tests, less, same))
    go true less false other false above = absurd (grind (arith, nat_tests, less, above))
    go false more true same false above = absurd (grind (arith, nat_tests, same, above))
    go false more false other true below = absurd (grind (arith, nat_tests, more, other, below))

pub moved_once : MovedOnce
moved_once words t e inside =
    let below : nat_lt e (length words) ≡ true = grind (arith, nat_tests, inside) in
    first-once words t e (length words) ∙ ap (λ (b : Bool). cond b (moved_at e (word_at words e) t) []) below

both : (a b : Bool) → a ≡ true → b ≡ true → (a && b) ≡ true
both true true e f = refl
both true false e f = absurd cc
both false b e f = absurd cc

-- a test that each number passes from some on
known-all : (test : ℕ → Bool) (e : ℕ) (o : Option SysId) (w : ℕ) → test e ≡ true
    → list_all (λ m. test m.entry) (made_known e o w) ≡ true
known-all test e None w is = refl
known-all test e (Some s) w is = both (test e) true is refl

at-all : (test : ℕ → Bool) (e w : ℕ) (t : SysId) → test e ≡ true
    → list_all (λ m. test m.entry) (moved_at e w t) ≡ true
at-all test e w t is = go (is_manager (manager w) t)
  where
    go : (b : Bool)
        → list_all (λ m. test m.entry) (cond b (made_known e (manager (purged_word w t)) (purged_word w t)) [])
        ≡ true
    go true = known-all test e (manager (purged_word w t)) (purged_word w t) is
    go false = refl

first-all : (test : ℕ → Bool) (words : List ℕ) (t : SysId) (n : ℕ) → ((k : ℕ) → k < n → test k ≡ true)
    → list_all (λ m. test m.entry) (first_moved words t n) ≡ true
first-all test words t zero passes = refl
first-all test words t (suc n) passes =
    ap (list_all (λ (m : Moved). test m.entry)) (first-more words t n)
    ∙ list_all-append (λ (m : Moved). test m.entry) (first_moved words t n) (moved_at n (word_at words n) t)
    ∙ both _ _ (first-all test words t n (λ k low. passes k (omega (arith, low))))
    (at-all test n (word_at words n) t (passes n (omega arith)))

pub moved_are_entries : MovedAreEntries
moved_are_entries words t =
    first-all (λ k. nat_lt k (length words)) words t (length words) (λ k low. grind (arith, nat_tests, low))

-- numbers that rise, and a greater one behind them
rises-last : (ns : List ℕ) (k : ℕ) → rises ns ≡ true → list_all (λ n. nat_lt n k) ns ≡ true
    → rises (ns ++ k ∷ []) ≡ true
rises-last [] k rising below = refl
rises-last (n ∷ ns) k rising below =
    let now = and_parts (list_all (λ i. nat_lt n i) ns) (rises ns) rising in
    let less = and_parts (nat_lt n k) (list_all (λ i. nat_lt i k) ns) below in
    both _ _
    (list_all-append (λ (i : ℕ). nat_lt n i) ns (k ∷ []) ∙ both _ _ now.0 (both _ _ less.0 refl))
    (rises-last ns k now.1 less.1)

abbrev numbers_of : List Moved → List ℕ
numbers_of xs = map (λ m. m.entry) xs

all-numbers : (test : ℕ → Bool) (xs : List Moved) → list_all (λ m. test m.entry) xs ≡ true
    → list_all test (numbers_of xs) ≡ true
all-numbers test [] all = refl
all-numbers test (x ∷ xs) all =
    let now = and_parts (test x.entry) (list_all (λ m. test m.entry) xs) all in
    both _ _ now.0 (all-numbers test xs now.1)

rises-at : (xs : List Moved) (e w : ℕ) (t : SysId) → rises (numbers_of xs) ≡ true
    → list_all (λ n. nat_lt n e) (numbers_of xs) ≡ true → rises (numbers_of (xs ++ moved_at e w t)) ≡ true
rises-at xs e w t rising below =
    ap rises (map-append (λ (m : Moved). m.entry) xs (moved_at e w t))
    ∙ go (is_manager (manager w) t) (manager (purged_word w t))
  where
    none : rises (numbers_of xs ++ []) ≡ true
    none = ap rises (append-nil (numbers_of xs)) ∙ rising

    go : (b : Bool) (o : Option SysId)
        → rises (numbers_of xs ++ numbers_of (cond b (made_known e o (purged_word w t)) [])) ≡ true
    go false o = none
    go true None = none
    go true (Some s) = rises-last (numbers_of xs) e rising below

first-rises : (words : List ℕ) (t : SysId) (n : ℕ) → rises (numbers_of (first_moved words t n)) ≡ true
first-rises words t zero = refl
first-rises words t (suc n) =
    ap (λ (xs : List Moved). rises (numbers_of xs)) (first-more words t n)
    ∙ rises-at (first_moved words t n) n (word_at words n) t (first-rises words t n)
    (all-numbers (λ k. nat_lt k n) (first_moved words t n)
    (first-all (λ k. nat_lt k n) words t n (λ k low. grind (arith, nat_tests, low))))

pub moved_in_order : MovedInOrder
moved_in_order words t = first-rises words t (length words)

-- two filters, in either order
filters-commute : (p q : Moved → Bool) (xs : List Moved) → filter p (filter q xs) ≡ filter q (filter p xs)
filters-commute p q [] = refl
filters-commute p q (x ∷ xs) = go (p x) refl (q x) refl (filters-commute p q xs)
  where
    go : (a : Bool) → p x ≡ a → (b : Bool) → q x ≡ b → filter p (filter q xs) ≡ filter q (filter p xs)
        → filter p (cond b (x ∷ filter q xs) (filter q xs)) ≡ filter q (cond a (x ∷ filter p xs) (filter p xs))
    go true is true at rest =
        ap (λ (c : Bool). cond c (x ∷ filter p (filter q xs)) (filter p (filter q xs))) is
        ∙ ap (λ (ys : List Moved). x ∷ ys) rest
        ∙ sym (ap (λ (c : Bool). cond c (x ∷ filter q (filter p xs)) (filter q (filter p xs))) at)
    go true is false at rest =
        rest ∙ sym (ap (λ (c : Bool). cond c (x ∷ filter q (filter p xs)) (filter q (filter p xs))) at)
    go false is true at rest =
        ap (λ (c : Bool). cond c (x ∷ filter p (filter q xs)) (filter p (filter q xs))) is ∙ rest
    go false is false at rest = rest

-- what is made known of an entry has the interest of its word
known-for : (e : ℕ) (o : Option SysId) (w s : ℕ)
    → filter (λ m. has m.mask s) (made_known e o w) ≡ cond (has (interest w) s) (made_known e o w) []
known-for e None w s = go (has (interest w) s)
  where
    go : (b : Bool) → [] ≡ cond b (made_known e None w) []
    go true = refl
    go false = refl
known-for e (Some m) w s = refl

at-for : (e w : ℕ) (t : SysId) (s : ℕ)
    → filter (λ m. has m.mask s) (moved_at e w t) ≡ cond (has (interest (purged_word w t)) s) (moved_at e w t) []
at-for e w t s = go (is_manager (manager w) t)
  where
    none : (b : Bool) → [] ≡ cond b (made_known e None w) []
    none true = refl
    none false = refl

    go : (b : Bool)
        → filter (λ m. has m.mask s) (cond b (made_known e (manager (purged_word w t)) (purged_word w t)) [])
        ≡ cond (has (interest (purged_word w t)) s)
        (cond b (made_known e (manager (purged_word w t)) (purged_word w t)) []) []
    go true = known-for e (manager (purged_word w t)) (purged_word w t) s
    go false = none (has (interest (purged_word w t)) s)

pub moved_for_interested : MovedForInterested
moved_for_interested words t s e inside =
    filters-commute (λ m. m.entry == e) (λ m. has m.mask s.0) (moved words t)
    ∙ ap (filter (λ (m : Moved). has m.mask s.0)) (moved_once words t e inside)
    ∙ at-for e (word_at words e) t s.0
    ∙ ap (λ (w : ℕ). cond (has (interest w) s.0) (moved_at e (word_at words e) t) [])
    (sym (word-purged words t e inside))

-- where no entry tells anything, all of them tell nothing
none-of : (p : Moved → Bool) (f : ℕ → List Moved) → ((e : ℕ) → filter p (f e) ≡ []) → (es : List ℕ)
    → filter p (flat_map f es) ≡ []
none-of p f none [] = refl
none-of p f none (e ∷ es) =
    filter-append p (f e) (flat_map f es)
    ∙ (ap (λ (xs : List Moved). xs ++ filter p (flat_map f es)) (none e) ∙ none-of p f none es)

pub moved_for_others : MovedForOthers
moved_for_others words t =
    none-of (λ m. has m.mask t.0) (λ e. moved_at e (word_at words e) t)
    (λ e.
    at-for e (word_at words e) t t.0
    ∙ ap (λ (b : Bool). cond b (moved_at e (word_at words e) t) []) (gone (word_at words e)))
    (range_with_len 0 (length words))
  where
    gone : (w : ℕ) → has (interest (purged_word w t)) t.0 ≡ false
    gone w = ap (λ (m : ℕ). has m t.0) (interest-purged w t) ∙ has-without_same (interest w) t.0
