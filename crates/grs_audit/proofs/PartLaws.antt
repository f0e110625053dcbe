-- A text cut at a byte, by the place of the byte.
use Rattle.std.proofs.Common.{◌≡◌, ◌<◌, ◌≤◌, ◌+◌, ℕ, zero, suc, Bool, true, false, cond, List, [], ◌∷◌, length, take, drop}
use Rattle.std.proofs.Common.{Some, None, refl, ap, sym, ◌∙◌, arith}
use Rattle.std.specs.Prelude.{◌==◌, not, nat_lt, position}
use Rattle.std.specs.List.{position_or_len}
use Rattle.std.specs.Str.{bytes_eq}
use Rattle.std.proofs.lemmas.Bool.{eq-eqb, eqb-true, ltb-false}
use Rattle.std.proofs.lemmas.Slice.Eq.{bytes_eq-Decides}
use Rattle.bstr.specs.Find.{is_byte}
use Rattle.grs_audit.specs.Lines.{lines_in, before_lines, front, behind}

module _ (b : ℕ) where
  abbrev is : ℕ → Bool
  is x = x == b

  front-at : (xs : List ℕ) → front b xs ≡ take (position_or_len is xs) xs
  front-at [] = refl
  front-at (x ∷ xs) = go (x == b) (front-at xs)
    where
      go : (c : Bool) → front b xs ≡ take (position_or_len is xs) xs
          → cond c [] (x ∷ front b xs) ≡ take (cond (not c) (1 + position_or_len is xs) 0) (x ∷ xs)
      go true cut = refl
      go false cut =
          let up : suc (position_or_len is xs) ≡ 1 + position_or_len is xs = omega arith in
          ap (λ l. x ∷ l) cut ∙ ap (λ n. take n (x ∷ xs)) up

  behind-at : (xs : List ℕ) → behind b xs ≡ drop (suc (position_or_len is xs)) xs
  behind-at [] = refl
  behind-at (x ∷ xs) = go (x == b) (behind-at xs)
    where
      go : (c : Bool) → behind b xs ≡ drop (suc (position_or_len is xs)) xs
          → cond c xs (behind b xs) ≡ drop (suc (cond (not c) (1 + position_or_len is xs) 0)) (x ∷ xs)
      go true cut = refl
      go false cut =
          let up : suc (position_or_len is xs) ≡ 1 + position_or_len is xs = omega arith in
          cut ∙ ap (λ n. drop (suc n) (x ∷ xs)) up

  place-some : (xs : List ℕ) (at : ℕ) → Some at ≡ position is xs → at ≡ position_or_len is xs
  place-some xs at e = go (nat_lt (position_or_len is xs) (length xs)) e
    where
      go : (c : Bool) → Some at ≡ cond c (Some (position_or_len is xs)) None → at ≡ position_or_len is xs
      go true f = cc
      go false f = absurd (cc)

  place-none : (xs : List ℕ) → None ≡ position is xs → length xs ≤ position_or_len is xs
  place-none xs e = go (nat_lt (position_or_len is xs) (length xs)) refl e
    where
      go : (c : Bool) → nat_lt (position_or_len is xs) (length xs) ≡ c
          → None ≡ cond c (Some (position_or_len is xs)) None → length xs ≤ position_or_len is xs
      go true lt f = absurd (cc)
      go false lt f = ltb-false (position_or_len is xs) (length xs) lt

  take-all : (n : ℕ) (xs : List ℕ) → length xs ≤ n → take n xs ≡ xs
  take-all zero [] e = refl
  take-all (suc n) [] e = refl
  take-all zero (x ∷ xs) e = absurd (omega (arith, e))
  take-all (suc n) (x ∷ xs) e = ap (λ l. x ∷ l) (take-all n xs (omega (arith, e)))

  drop-all : (n : ℕ) (xs : List ℕ) → length xs ≤ n → drop n xs ≡ []
  drop-all zero [] e = refl
  drop-all (suc n) [] e = refl
  drop-all zero (x ∷ xs) e = absurd (omega (arith, e))
  drop-all (suc n) (x ∷ xs) e = drop-all n xs (omega (arith, e))

  pub front-some : (xs : List ℕ) (at : ℕ) → Some at ≡ position is xs → take at xs ≡ front b xs
  front-some xs at e = ap (λ n. take n xs) (place-some xs at e) ∙ sym (front-at xs)

  pub behind-some : (xs : List ℕ) (at : ℕ) → Some at ≡ position is xs → drop (at + 1) xs ≡ behind b xs
  behind-some xs at e =
      let n = place-some xs at e in
      let up : at + 1 ≡ suc (position_or_len is xs) = omega (arith, n) in
      ap (λ k. drop k xs) up ∙ sym (behind-at xs)

  pub front-whole : (xs : List ℕ) → None ≡ position is xs → xs ≡ front b xs
  front-whole xs e = sym (front-at xs ∙ take-all (position_or_len is xs) xs (place-none xs e))

  pub behind-none : (xs : List ℕ) → None ≡ position is xs → [] ≡ behind b xs
  behind-none xs e =
      let n = place-none xs e in
      sym (behind-at xs ∙ drop-all (suc (position_or_len is xs)) xs (omega (arith, n)))

-- a text has no more lines than bytes
before-length : (b : ℕ) (ls : List (List ℕ)) → length (before_lines b ls) ≤ suc (length ls)
before-length b [] = go (b == 10)
  where
    go : (c : Bool) → length (cond c ([] ∷ []) ((b ∷ []) ∷ [])) ≤ 1
    go true = omega arith
    go false = omega arith
before-length b (l ∷ ls) = go (b == 10)
  where
    go : (c : Bool) → length (cond c ([] ∷ l ∷ ls) ((b ∷ l) ∷ ls)) ≤ suc (suc (length ls))
    go true = omega arith
    go false = omega arith

pub lines-few : (text : List ℕ) → length (lines_in text) ≤ length text
lines-few [] = omega arith
lines-few (b ∷ bs) =
    let one = before-length b (lines_in bs) in
    let more = lines-few bs in
    omega (arith, one, more)

-- ---- the place of a byte
not-not : (b : Bool) → not (not b) ≡ b
not-not true = refl
not-not false = refl

place-same : (byte : ℕ) (xs : List ℕ)
    → position_or_len (λ x. not (not (is_byte byte x))) xs ≡ position_or_len (λ x. x == byte) xs
place-same byte [] = refl
place-same byte (x ∷ xs) =
    ap (λ c. cond (not c) (1 + position_or_len (λ y. not (not (is_byte byte y))) xs) 0) (not-not (x == byte))
    ∙ ap (λ n. cond (not (x == byte)) (1 + n) 0) (place-same byte xs)

pub position-by : (byte : ℕ) (xs : List ℕ)
    → position (λ x. not (not (is_byte byte x))) xs ≡ position (λ x. x == byte) xs
position-by byte xs = ap (λ n. cond (nat_lt n (length xs)) (Some n) None) (place-same byte xs)

-- ---- tests
pub some-from : (n : ℕ) (b : Bool) → b ≡ (n == 0) → b ≡ false → 0 < n
some-from zero b e f = by_contradiction (sym (eq-eqb 0 0 refl) ∙ sym e ∙ f)
  where
    by_contradiction : true ≡ false → 0 < 0
    by_contradiction g = absurd (cc)
some-from (suc n) b e f = omega arith

pub none-from : (n : ℕ) (b : Bool) → b ≡ (n == 0) → b ≡ true → n ≡ 0
none-from n b e t = eqb-true n 0 (sym e ∙ t)

-- two parts of texts that were compared
pub same-from : (xs ys us vs : List ℕ) (b : Bool) → xs ≡ us → ys ≡ vs → b ≡ not (bytes_eq xs ys) → b ≡ false → us ≡ vs
same-from xs ys us vs b e f is un = sym e ∙ (bytes_eq-Decides xs ys).0 (turned (bytes_eq xs ys) (sym is ∙ un)) ∙ f
  where
    turned : (c : Bool) → not c ≡ false → c ≡ true
    turned true g = refl
    turned false g = absurd (cc)

pub other-from : (xs ys us vs : List ℕ) (b : Bool) → xs ≡ us → ys ≡ vs → b ≡ not (bytes_eq xs ys) → b ≡ true
    → us ≡ vs → ⊥
other-from xs ys us vs b e f is un same =
    turned (bytes_eq xs ys) (sym is ∙ un) ((bytes_eq-Decides xs ys).1 (e ∙ same ∙ sym f))
  where
    turned : (c : Bool) → not c ≡ true → c ≡ true → ⊥
    turned true g h = absurd (cc)
    turned false g h = absurd (cc)

pub ruleset cuts = (front-some, behind-some, front-whole, behind-none)
