-- The first line of a history, found line by line.
use Rattle.std.proofs.Common.{◌≡◌, ◌<◌, ◌≤◌, ◌+◌, ◌*◌, ◌-◌, ◌^◌, ℕ, suc, Bool, true, false, cond, List, [], ◌∷◌, length}
use Rattle.std.proofs.Common.{Bor, Option, Some, None, refl, ap, sym, ◌∙◌, arith}
use Rattle.std.specs.Prelude.{◌==◌, if◌then◌else◌}
use Rattle.std.specs.Option.{option_map}
use Rattle.grs_base.specs.ShortNames.{is_digit}
use Rattle.deck_form.specs.Words.{digits}
use Rattle.grs_audit.specs.Found.{capped, IsFound}
use Rattle.grs_audit.specs.declared.head.Found.TheVariants.{At, Nowhere}
use Rattle.grs_audit.specs.Lines.{lines_in, front, behind}
use Rattle.grs_audit.specs.Verdicts.{Head, later, head_by, head_in, count_in}
use Rattle.grs_audit.proofs.LineLaws.{lines-cut}

-- behind so many lines more
abbrev pub behind_lines : ℕ → Head → Head
behind_lines k h = record { place = k + h.place; count = h.count; lines = h.lines }

abbrev pub shifted : ℕ → Option Head → Option Head
shifted k o = option_map (behind_lines k) o

at-place : (h : Head) (p : ℕ) → p ≡ h.place → record { place = p; count = h.count; lines = h.lines } ≡ h
at-place h p e = ap (λ x. record { place = x; count = h.count; lines = h.lines }) e

pub shifted-none : (o : Option Head) → shifted 0 o ≡ o
shifted-none None = refl
shifted-none (Some h) = ap (λ x. Some x) (at-place h (0 + h.place) (omega arith))

pub shifted-later : (k : ℕ) (o : Option Head) → shifted k (option_map later o) ≡ shifted (k + 1) o
shifted-later k None = refl
shifted-later k (Some h) =
    let up : k + suc h.place ≡ (k + 1) + h.place = omega arith in
    ap (λ x. Some (record { place = x; count = h.count; lines = h.lines })) up

-- a shorter rest
pub behind-less : (b : ℕ) (xs : List ℕ) → length (behind b xs) ≤ length xs
behind-less b [] = omega arith
behind-less b (x ∷ xs) = go (x == b) (behind-less b xs)
  where
    go : (c : Bool) → length (behind b xs) ≤ length xs → length (cond c xs (behind b xs)) ≤ suc (length xs)
    go true less = omega arith
    go false less = omega (arith, less)

pub behind-shorter : (b : ℕ) (xs : List ℕ) → 0 < length xs → length (behind b xs) < length xs
behind-shorter b [] some = absurd (omega (arith, some))
behind-shorter b (x ∷ xs) some = go (x == b) (behind-less b xs)
  where
    go : (c : Bool) → length (behind b xs) ≤ length xs → length (cond c xs (behind b xs)) < suc (length xs)
    go true less = omega arith
    go false less = omega (arith, less)

pub lines-some : (xs : List ℕ) → 0 < length xs → lines_in xs ≡ front 10 xs ∷ lines_in (behind 10 xs)
lines-some [] some = absurd (omega (arith, some))
lines-some (x ∷ xs) some = lines-cut x xs

pub lines-none : (xs : List ℕ) → length xs ≡ 0 → lines_in xs ≡ []
lines-none [] e = refl
lines-none (x ∷ xs) e = absurd (omega (arith, e))

-- lines are counted one by one
pub counted-more : (rest : List ℕ) (n k : ℕ) → 0 < length rest → n + length (lines_in rest) ≡ k
    → (n + 1) + length (lines_in (behind 10 rest)) ≡ k
counted-more rest n k some e =
    let one = ap length (lines-some rest some) in omega (arith, one, e)

pub counted-some : (rest : List ℕ) (n k : ℕ) → 0 < length rest → n + length (lines_in rest) ≡ k → n < k
counted-some rest n k some e = let one = ap length (lines-some rest some) in omega (arith, one, e)

pub counted-all : (rest : List ℕ) (n k : ℕ) → length rest ≡ 0 → n + length (lines_in rest) ≡ k → n ≡ k
counted-all rest n k none e = let zero = ap length (lines-none rest none) in omega (arith, zero, e)

-- a number counts on as the largest one, where it is larger
capped-more : (m n d : ℕ) → capped m ≡ capped n → capped (m * 10 + d) ≡ capped (n * 10 + d)
capped-more m n d e = omega (arith, e)

pub capped-digits : (m n : ℕ) (bs : List ℕ) → capped m ≡ capped n
    → option_map capped (digits m bs) ≡ option_map capped (digits n bs)
unfolding digits
capped-digits m n [] e = ap (λ x. Some x) e
capped-digits m n (b ∷ bs) e =
    go (is_digit b) (capped-digits (m * 10 + (b - 48)) (n * 10 + (b - 48)) bs (capped-more m n (b - 48) e))
  where
    go : (c : Bool)
        → option_map capped (digits (m * 10 + (b - 48)) bs) ≡ option_map capped (digits (n * 10 + (b - 48)) bs)
        → option_map capped (if c then digits (m * 10 + (b - 48)) bs else None)
        ≡ option_map capped (if c then digits (n * 10 + (b - 48)) bs else None)
    go true same = same
    go false same = refl

-- ---- a number digit by digit
pub digits-next : (n m b : ℕ) (bs : List ℕ) → is_digit b ≡ true → capped m ≡ capped (n * 10 + (b - 48))
    → option_map capped (digits m bs) ≡ option_map capped (digits n (b ∷ bs))
unfolding digits
digits-next n m b bs is e =
    capped-digits m (n * 10 + (b - 48)) bs e
    ∙ sym (ap (λ c. option_map capped (if c then digits (n * 10 + (b - 48)) bs else None)) is)

pub digits-none : (n b : ℕ) (bs : List ℕ) → is_digit b ≡ false → None ≡ option_map capped (digits n (b ∷ bs))
unfolding digits
digits-none n b bs is = sym (ap (λ c. option_map capped (if c then digits (n * 10 + (b - 48)) bs else None)) is)

pub digits-end : (n : ℕ) (rest : List ℕ) → n < 2 ^ 64 → length rest ≡ 0 → Some n ≡ option_map capped (digits n rest)
unfolding digits
digits-end n [] small none =
    let same : n ≡ capped n = omega (arith, small) in ap (λ x. Some x) same
digits-end n (b ∷ bs) small none = absurd (omega (arith, none))

-- ---- the first line that begins a history, line by line
-- Before this part of a text stand so many lines, none of which begins a history.
pub record IsLooked (text rest : List ℕ) (place : ℕ) : Type 0 where
  pub head : head_in (lines_in text) ≡ shifted place (head_in (lines_in rest))
  pub count : length (lines_in text) ≡ place + length (lines_in rest)

pub looked-none : (text : List ℕ) → IsLooked text text 0
looked-none text = record { head = sym (shifted-none (head_in (lines_in text))); count = omega arith }

pub looked-more : (text rest : List ℕ) (place : ℕ) → IsLooked text rest place → 0 < length rest
    → None ≡ option_map capped (count_in (front 10 rest)) → IsLooked text (behind 10 rest) (place + 1)
looked-more text rest place l some none = record {
  head =
      l.head
      ∙ ap (λ ls. shifted place (head_in ls)) (lines-some rest some)
      ∙ go (count_in (front 10 rest)) none
      ∙ shifted-later place (head_in (lines_in (behind 10 rest)));
  count = let c = l.count in let one = ap length (lines-some rest some) in omega (arith, c, one);
}
  where
    go : (o : Option ℕ) → None ≡ option_map capped o
        → shifted place (head_by o (lines_in (behind 10 rest)) (head_in (lines_in (behind 10 rest))))
        ≡ shifted place (option_map later (head_in (lines_in (behind 10 rest))))
    go None e = refl
    go (Some n) e = absurd (cc)

pub looked-here : (text rest : List ℕ) (place count : ℕ) (r : Bor (List ℕ)) → IsLooked text rest place
    → 0 < length rest → Some count ≡ option_map capped (count_in (front 10 rest)) → r.now ≡ behind 10 rest
    → IsFound (lines_in text) (At place count r)
looked-here text rest place count r l some here is = go (count_in (front 10 rest)) refl here
  where
    go : (o : Option ℕ) → count_in (front 10 rest) ≡ o → Some count ≡ option_map capped o
        → IsFound (lines_in text) (At place count r)
    go None e f = absurd (cc)
    go (Some n) e f =
        let there : count ≡ capped n = cc in (
          record { place = place + 0; count = n; lines = lines_in (behind 10 rest) },
          l.head
              ∙ ap (λ ls. shifted place (head_in ls)) (lines-some rest some)
              ∙ ap (λ o. shifted place (head_by o (lines_in (behind 10 rest)) (head_in (lines_in (behind 10 rest))))) e,
          omega arith,
          there,
          ap lines_in (sym is),
        )

pub looked-all : (text rest : List ℕ) (place : ℕ) → IsLooked text rest place → length rest ≡ 0
    → IsFound (lines_in text) (Nowhere place)
looked-all text [] place l none = (
  l.head,
  let c = l.count in omega (arith, c),
)
looked-all text (x ∷ xs) place l none = absurd (omega (arith, none))
