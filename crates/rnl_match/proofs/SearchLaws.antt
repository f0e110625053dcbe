-- How far the search for a pattern behind a star has come.
use Rattle.std.proofs.Common.{◌≡◌, ◌<◌, ◌≤◌, ◌+◌, ◌-◌, ◌||◌, ◌==◌, ℕ, zero, suc, Bool, true, false, List, [], ◌∷◌}
use Rattle.std.proofs.Common.{length, drop, get_or, refl, ap, sym, ◌∙◌, arith}
use Rattle.std.proofs.lemmas.Bool.Decides.{nat_tests}
use Rattle.std.proofs.lemmas.List.{drop_more, drop_all, drop-drop}
use Rattle.rnl_match.specs.Matches.{some_rest, matches_pattern}

-- a pattern matches some rest of a text where what is left of both matches, or where the pattern behind the last star
-- matches a rest further on; and where it matches one there, what is left of the pattern matches one behind the place
-- that was reached, so that a star that comes next can do without the last one
pub record IsSearch (pattern text : List ℕ) (star from reached place : ℕ) : Type 0 where
  pub same : some_rest (matches_pattern pattern) text
      ≡ (matches_pattern (drop reached pattern) (drop place text)
      || some_rest (matches_pattern (drop star pattern)) (drop (from + 1) text))
  pub less : some_rest (matches_pattern (drop star pattern)) (drop (from + 1) text) ≡ true
      → some_rest (matches_pattern (drop reached pattern)) (drop (place + 1) text) ≡ true

or_less : (a b r : Bool) → (r ≡ true → b ≡ true) → ((a || b) || r) ≡ (a || b)
or_less true b r h = refl
or_less false true r h = refl
or_less false false true h = sym (h refl)
or_less false false false h = refl

-- a rest is the text, or a rest of what is behind its first byte
some_rest-more : (f : List ℕ → Bool) (x : List ℕ) → some_rest f x ≡ (f x || some_rest f (drop 1 x))
some_rest-more f [] = grind arith
some_rest-more f (b ∷ x) = refl

some_rest-itself : (f : List ℕ → Bool) (x : List ℕ) → f x ≡ true → some_rest f x ≡ true
some_rest-itself f [] h = h
some_rest-itself f (b ∷ x) h = grind (arith, h)

some_rest-behind : (f : List ℕ → Bool) (x : List ℕ) → some_rest f (drop 1 x) ≡ true → some_rest f x ≡ true
some_rest-behind f [] h = h
some_rest-behind f (b ∷ x) h = grind (arith, h)

-- a star that matches a rest of a rest matches a rest
some_rest-star : (p x : List ℕ) → some_rest (matches_pattern (42 ∷ p)) x ≡ some_rest (matches_pattern p) x
some_rest-star p [] = refl
some_rest-star p (b ∷ x) = grind (arith, some_rest-star p x)

-- where a byte and the pattern behind it match a rest, the pattern matches one further on
some_rest-byte : (c : ℕ) (p x : List ℕ) → (c == 42) ≡ false → some_rest (matches_pattern (c ∷ p)) x ≡ true
    → some_rest (matches_pattern p) (drop 1 x) ≡ true
some_rest-byte c p [] n h = grind (arith, n, h)
some_rest-byte c p (b ∷ x) n h =
    grind (
      arith,
      n,
      h,
      some_rest-byte c p x n,
      some_rest-itself (matches_pattern p) x,
      some_rest-behind (matches_pattern p) x,
    )

-- a byte of a pattern and one of a text
pub matches-stands : (c b : ℕ) (p x : List ℕ) → (c == 42) ≡ false → (c == 63 || c == b) ≡ true
    → matches_pattern (c ∷ p) (b ∷ x) ≡ matches_pattern p x
matches-stands c b p x n h = grind (arith, n, h)

pub matches-differs : (c b : ℕ) (p x : List ℕ) → (c == 42) ≡ false → (c == 63 || c == b) ≡ false
    → matches_pattern (c ∷ p) (b ∷ x) ≡ false
matches-differs c b p x n h = grind (arith, n, h)

-- what is left at a place, and behind it
pub left_at : (x : List ℕ) (i : ℕ) → i < length x → drop i x ≡ get_or x i 0 ∷ drop (i + 1) x
left_at x i h = drop_more x i 0 h

drop-next : (x : List ℕ) (i : ℕ) → drop 1 (drop i x) ≡ drop (i + 1) x
drop-next x i = drop-drop 1 i x

-- the next star
pub search-star : (p x : List ℕ) (s f r i : ℕ) → r < length p → get_or p r 0 ≡ 42 → IsSearch p x s f r i
    → IsSearch p x (r + 1) i (r + 1) i
search-star p x s f r i within star h =
    let q = drop (r + 1) p in
    let here : drop r p ≡ 42 ∷ q = left_at p r within ∙ ap (λ (c : ℕ). c ∷ q) star in
    let rest = some_rest (matches_pattern (drop s p)) (drop (f + 1) x) in
    let more : matches_pattern (drop r p) (drop i x)
    ≡ (matches_pattern q (drop i x) || some_rest (matches_pattern q) (drop (i + 1) x))
    =
    ap (λ (l : List ℕ). matches_pattern l (drop i x)) here
    ∙ some_rest-more (matches_pattern q) (drop i x)
    ∙ ap (λ (y : List ℕ). matches_pattern q (drop i x) || some_rest (matches_pattern q) y) (drop-next x i) in
    let less : rest ≡ true → some_rest (matches_pattern q) (drop (i + 1) x) ≡ true
    = λ e.
    sym (some_rest-star q (drop (i + 1) x))
    ∙ sym (ap (λ (l : List ℕ). some_rest (matches_pattern l) (drop (i + 1) x)) here)
    ∙ h.less e in
    record {
      same =
          h.same
          ∙ ap (λ (b : Bool). b || rest) more
          ∙ or_less (matches_pattern q (drop i x)) (some_rest (matches_pattern q) (drop (i + 1) x)) rest less;
      less = λ e. e;
    }

-- a byte that stands for the text's
pub search-byte : (p x : List ℕ) (s f r i : ℕ) → r < length p → i < length x → (get_or p r 0 == 42) ≡ false
    → (get_or p r 0 == 63 || get_or p r 0 == get_or x i 0) ≡ true → IsSearch p x s f r i
    → IsSearch p x s f (r + 1) (i + 1)
search-byte p x s f r i within before plain stands h =
    let c = get_or p r 0 in
    let q = drop (r + 1) p in
    let rest = some_rest (matches_pattern (drop s p)) (drop (f + 1) x) in
    let here : drop r p ≡ c ∷ q = left_at p r within in
    let more : matches_pattern (drop r p) (drop i x) ≡ matches_pattern q (drop (i + 1) x)
    =
    ap (λ (l : List ℕ). matches_pattern l (drop i x)) here
    ∙ ap (λ (l : List ℕ). matches_pattern (c ∷ q) l) (left_at x i before)
    ∙ matches-stands c (get_or x i 0) q (drop (i + 1) x) plain stands in
    record {
      same = h.same ∙ ap (λ (b : Bool). b || rest) more;
      less = λ e.
          sym (ap (λ (l : List ℕ). some_rest (matches_pattern q) l) (drop-next x (i + 1)))
          ∙ some_rest-byte c q (drop (i + 1) x) plain
          (sym (ap (λ (l : List ℕ). some_rest (matches_pattern l) (drop (i + 1) x)) here) ∙ h.less e);
    }

-- what is left doesn't match
pub search-fail : (p x : List ℕ) (s f r i : ℕ) → matches_pattern (drop r p) (drop i x) ≡ false → IsSearch p x s f r i
    → IsSearch p x s (f + 1) s (f + 1)
search-fail p x s f r i fails h = record {
  same =
      h.same
      ∙ ap (λ (b : Bool). b || some_rest (matches_pattern (drop s p)) (drop (f + 1) x)) fails
      ∙ some_rest-more (matches_pattern (drop s p)) (drop (f + 1) x)
      ∙ ap (λ (y : List ℕ). matches_pattern (drop s p) (drop (f + 1) x) || some_rest (matches_pattern (drop s p)) y)
      (drop-next x (f + 1));
  less = λ e. e;
}

-- a pattern that is at its end
pub fails-at_end : (p x : List ℕ) (r i : ℕ) → length p ≤ r → i < length x
    → matches_pattern (drop r p) (drop i x) ≡ false
fails-at_end p x r i past before =
    ap (λ (l : List ℕ). matches_pattern l (drop i x)) (drop_all r p past)
    ∙ ap (λ (l : List ℕ). matches_pattern [] l) (left_at x i before)

-- a byte that is no star and doesn't stand for the text's
pub fails-at : (p x : List ℕ) (r i : ℕ) → r < length p → i < length x → (get_or p r 0 == 42) ≡ false
    → (get_or p r 0 == 63 || get_or p r 0 == get_or x i 0) ≡ false → matches_pattern (drop r p) (drop i x) ≡ false
fails-at p x r i within before plain differs =
    ap (λ (l : List ℕ). matches_pattern l (drop i x)) (left_at p r within)
    ∙ ap (λ (l : List ℕ). matches_pattern (get_or p r 0 ∷ drop (r + 1) p) l) (left_at x i before)
    ∙ matches-differs (get_or p r 0) (get_or x i 0) (drop (r + 1) p) (drop (i + 1) x) plain differs

-- a pattern without stars is at its end
nothing-drop : (n : ℕ) (x : List ℕ) → n ≤ length x → (n == length x) ≡ matches_pattern [] (drop n x)
nothing-drop zero [] h = refl
nothing-drop zero (b ∷ x) h = grind (arith, nat_tests)
nothing-drop (suc n) [] h = absurd (omega arith)
nothing-drop (suc n) (b ∷ x) h = grind (arith, nat_tests, nothing-drop n x (omega arith))

pub matches-end : (p x : List ℕ) (i : ℕ) → i ≡ length p → i ≤ length x
    → (length p == length x) ≡ matches_pattern (drop i p) (drop i x)
matches-end p x i end within =
    nothing-drop (length p) x (omega arith)
    ∙ ap (λ (n : ℕ). matches_pattern [] (drop n x)) (sym end)
    ∙ sym (ap (λ (l : List ℕ). matches_pattern l (drop i x)) (drop_all i p (omega arith)))
