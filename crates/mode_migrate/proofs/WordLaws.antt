-- The lock words of a table are such as the complex may change by.
use Rattle.std.proofs.Common.{◌≡◌, ◌≤◌, ◌<◌, ◌+◌, ℕ, zero, suc, Bool, true, false, cond, not, ◌&&◌, List, [], ◌∷◌}
use Rattle.std.proofs.Common.{length, map, refl, ap, sym, ◌∙◌, arith}
use Rattle.std.specs.Prelude.{nat_lt, ◌==◌, ◌||◌, Option, Some, None}
use Rattle.std.specs.List.{list_all, list_any, range_with_len}
use Rattle.std.proofs.lemmas.Bool.{and_parts, eqb-true}
use Rattle.std.proofs.lemmas.Bool.Decides.{nat_tests}
use Rattle.std.proofs.lemmas.List.FromFn.{length-map-range_with_len}
use Rattle.grs_base.specs.Rows.{rows_of}
use Rattle.grs_base.specs.State.{State}
use Rattle.grs_base.specs.declared.resource.Elem.{Elem}
use Rattle.grs_base.specs.declared.resource.Row.{Row}
use Rattle.grs_base.specs.declared.resource.SysId.{SysId}
use Rattle.grs_wire.specs.LockWords.{interest, manager, manager_number, lock_word}
use Rattle.grs_wire.specs.Masks.{has, with_also, all_others}
use Rattle.grs_wire.proofs.MaskLaws.{has-zero, has-with_same, has-with_other, with_also-lt}
use Rattle.lock_structure.specs.Words.{manager_fits, word_fits}
use Rattle.lock_structure.specs.Least.{least_below}
use Rattle.lock_structure.proofs.LeastLaws.{least-passes, none-passes, least-none}
use Rattle.lock_structure.proofs.WordLaws.{interest-lock_word, manager-lock_word}
use Rattle.mode_migrate.specs.Migrate.{row_is_of, is_by, has_elements, set_below, interest_by}
use Rattle.mode_migrate.specs.Migrate.{manager_by, word_by, table_words}
use Rattle.mode_migrate.specs.Laws.{are_within}
use Rattle.mode_migrate.proofs.PartLaws.{both, all-rows, all-list}

-- ---- sets and their least

-- the set has nobody else
pub has-past : (n : ℕ) (test : ℕ → Bool) (s : ℕ) → n ≤ s → has (set_below n test) s ≡ false
has-past zero test s l = has-zero s
has-past (suc n) test s l = go (test n) (has-past n test s (omega (arith, l)))
  where
    go : (b : Bool) → has (set_below n test) s ≡ false
        → has (cond b (with_also (set_below n test) n) (set_below n test)) s ≡ false
    go true rest = has-with_other (set_below n test) n s (λ e. absurd (omega (arith, l, e))) ∙ rest
    go false rest = rest

-- the set has who passes, among the systems below
pub has-set : (n : ℕ) (test : ℕ → Bool) (s : ℕ) → s < n → has (set_below n test) s ≡ test s
has-set zero test s h = absurd (omega (arith, h))
has-set (suc n) test s h = go (test n) refl (s == n) refl (has-set n test s)
  where
    go : (b : Bool) → test n ≡ b → (c : Bool) → (s == n) ≡ c → (s < n → has (set_below n test) s ≡ test s)
        → has (cond b (with_also (set_below n test) n) (set_below n test)) s ≡ test s
    go true is true same rest =
        let e : s ≡ n = eqb-true s n same in
        ap (has (with_also (set_below n test) n)) e ∙ has-with_same (set_below n test) n ∙ sym is ∙ ap test (sym e)
    go true is false other rest =
        has-with_other (set_below n test) n s (λ e. grind (arith, nat_tests, other, e))
        ∙ rest (grind (arith, nat_tests, other, h))
    go false is true same rest =
        let e : s ≡ n = eqb-true s n same in
        ap (has (set_below n test)) e ∙ has-past n test n (omega arith) ∙ sym is ∙ ap test (sym e)
    go false is false other rest = rest (grind (arith, nat_tests, other, h))

set-small : (n : ℕ) (test : ℕ → Bool) → n ≤ 8 → set_below n test < 256
set-small zero test h = omega arith
set-small (suc n) test h = go (test n) (set-small n test (omega (arith, h)))
  where
    go : (b : Bool) → set_below n test < 256 → cond b (with_also (set_below n test) n) (set_below n test) < 256
    go true rest = with_also-lt (set_below n test) n rest (omega (arith, h))
    go false rest = rest

pub set-none : (n : ℕ) (test : ℕ → Bool) → least_below n test ≡ None → set_below n test ≡ 0
set-none zero test h = refl
set-none (suc n) test h =
    ap (λ (b : Bool). cond b (with_also (set_below n test) n) (set_below n test))
    (none-passes (suc n) test h n (omega arith))
    ∙ set-none n test (least-none n test h)

all-none : (n mask : ℕ) (test : ℕ → Bool) → ((s : ℕ) → s < n → test s ≡ true) → all_others n mask test ≡ true
all-none zero mask test h = refl
all-none (suc n) mask test h =
    both _ _ (all-none n mask test (λ s l. h s (omega (arith, l)))) (or-right (has mask n) (test n) (h n (omega arith)))
  where
    or-right : (a b : Bool) → b ≡ true → (a || b) ≡ true
    or-right true b k = refl
    or-right false b k = k

-- ---- who has elements

by-within : (n s : ℕ) (es : List Elem) → list_all (λ x. nat_lt x.task.system.0 n) es ≡ true
    → list_any (is_by s) es ≡ true → nat_lt s n ≡ true
by-within n s [] all h = absurd cc
by-within n s (x ∷ es) all h =
    go (x.task.system.0 == s) refl h (by-within n s es (and_parts (nat_lt x.task.system.0 n) _ all).1)
  where
    go : (b : Bool) → (x.task.system.0 == s) ≡ b → (b || list_any (is_by s) es) ≡ true
        → (list_any (is_by s) es ≡ true → nat_lt s n ≡ true) → nat_lt s n ≡ true
    go true is k rest =
        ap (λ (m : ℕ). nat_lt m n) (sym (eqb-true x.task.system.0 s is))
        ∙ (and_parts (nat_lt x.task.system.0 n) _ all).0
    go false is k rest = rest k

any-within : (n s : ℕ) (test : Row → Bool) (rows : List Row)
    → list_all (λ x. list_all (λ y. nat_lt y.task.system.0 n) x.elems) rows ≡ true
    → list_any (λ x. test x && list_any (is_by s) x.elems) rows ≡ true → nat_lt s n ≡ true
any-within n s test [] all h = absurd cc
any-within n s test (x ∷ rows) all h =
    go (test x && list_any (is_by s) x.elems) refl h
    (any-within n s test rows (and_parts (list_all (λ y. nat_lt y.task.system.0 n) x.elems) _ all).1)
  where
    go : (b : Bool) → (test x && list_any (is_by s) x.elems) ≡ b
        → (b || list_any (λ y. test y && list_any (is_by s) y.elems) rows) ≡ true
        → (list_any (λ y. test y && list_any (is_by s) y.elems) rows ≡ true → nat_lt s n ≡ true) → nat_lt s n ≡ true
    go true is k rest =
        by-within n s x.elems (and_parts (list_all (λ y. nat_lt y.task.system.0 n) x.elems) _ all).0
        (and_parts (test x) _ is).1
    go false is k rest = rest k

-- who has elements is one of the systems
pub elements-within : (n entries e : ℕ) (t : State) (s : ℕ) → are_within n t ≡ true
    → has_elements entries e (rows_of t) s ≡ true → nat_lt s n ≡ true
elements-within n entries e t s within h =
    any-within n s (row_is_of entries e) (rows_of t)
    (all-rows (list_all (λ x. nat_lt x.task.system.0 n)) t (λ r. all-list (λ x. nat_lt x.task.system.0 n) t r within)) h

-- ---- a word

-- the parts of a word
pub interest-word : (entries e : ℕ) (rows : List Row) → interest (word_by entries e rows) ≡ interest_by entries e rows
interest-word entries e rows =
    interest-lock_word (interest_by entries e rows) (manager_by entries e rows) 0
    (set-small 8 (has_elements entries e rows) (omega arith))

number-small : (n : ℕ) (test : ℕ → Bool) → n ≤ 8 → manager_number (least_below n test) < 16
number-small n test few = go (least_below n test) refl
  where
    go : (o : Option SysId) → least_below n test ≡ o → manager_number o < 16
    go None is = omega arith
    go (Some s) is = let below = (least-passes n test s is).0 in omega (arith, below, few)

pub manager-word : (entries e : ℕ) (rows : List Row) → manager (word_by entries e rows) ≡ manager_by entries e rows
manager-word entries e rows =
    manager-lock_word (interest_by entries e rows) (manager_by entries e rows) 0
    (set-small 8 (has_elements entries e rows) (omega arith))
    (number-small 8 (has_elements entries e rows) (omega arith))

word-none : (entries e : ℕ) (rows : List Row) → manager_by entries e rows ≡ None → word_by entries e rows ≡ 0
unfolding lock_word
word-none entries e rows is =
    let empty : interest_by entries e rows ≡ 0 = set-none 8 (has_elements entries e rows) is in
    rw (is, empty) refl

word-fits : (n entries e : ℕ) (t : State) → are_within n t ≡ true → word_fits n (word_by entries e (rows_of t)) ≡ true
word-fits n entries e t within = go (manager_by entries e (rows_of t)) refl
  where
    or-left : (a b : Bool) → a ≡ true → (a || b) ≡ true
    or-left true b k = refl
    or-left false b k = absurd cc

    or-right : (a b : Bool) → b ≡ true → (a || b) ≡ true
    or-right true b k = refl
    or-right false b k = k

    passes : (s : ℕ) → s < 8 → (not (has (interest_by entries e (rows_of t)) s) || nat_lt s n) ≡ true
    passes s l =
        ap (λ (b : Bool). not b || nat_lt s n) (has-set 8 (has_elements entries e (rows_of t)) s l)
        ∙ by (has_elements entries e (rows_of t) s) refl
      where
        by : (b : Bool) → has_elements entries e (rows_of t) s ≡ b → (not b || nat_lt s n) ≡ true
        by true is = elements-within n entries e t s within is
        by false is = refl

    fits : (s : SysId) → manager_by entries e (rows_of t) ≡ Some s
        → manager_fits n (word_by entries e (rows_of t)) (Some s) ≡ true
    fits s is =
        let found = least-passes 8 (has_elements entries e (rows_of t)) s is in
        both (nat_lt s.0 n) _ (elements-within n entries e t s.0 within found.1)
        (ap (λ (m : ℕ). has m s.0) (interest-word entries e (rows_of t))
        ∙ has-set 8 (has_elements entries e (rows_of t)) s.0 found.0
        ∙ found.1)

    go : (o : Option SysId) → manager_by entries e (rows_of t) ≡ o → word_fits n (word_by entries e (rows_of t)) ≡ true
    go None is =
        or-left (word_by entries e (rows_of t) == 0) _ (ap (λ (w : ℕ). w == 0) (word-none entries e (rows_of t) is))
    go (Some s) is = or-right (word_by entries e (rows_of t) == 0) _
        (both _ _
        (ap (manager_fits n (word_by entries e (rows_of t))) (manager-word entries e (rows_of t) ∙ is) ∙ fits s is)
        (all-none 8 0 (λ s. not (has (interest (word_by entries e (rows_of t))) s) || nat_lt s n)
        (λ u l. ap (λ (m : ℕ). not (has m u) || nat_lt u n) (interest-word entries e (rows_of t)) ∙ passes u l)))

words-from : (n entries a k : ℕ) (t : State) → are_within n t ≡ true
    → list_all (word_fits n) (map (λ e. word_by entries e (rows_of t)) (range_with_len a k)) ≡ true
words-from n entries a zero t within = refl
words-from n entries a (suc k) t within =
    both _ _ (word-fits n entries a t within) (words-from n entries (a + 1) k t within)

-- the words of a table
pub own_words_fit : (n entries : ℕ) (t : State) → are_within n t ≡ true
    → (length (table_words entries t) ≡ entries) × (list_all (word_fits n) (table_words entries t) ≡ true)
own_words_fit n entries t within = (
  length-map-range_with_len (λ e. word_by entries e (rows_of t)) 0 entries,
  words-from n entries 0 entries t within,
)
