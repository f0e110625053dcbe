-- Numbers of at most nine digits stay small.
use Rattle.std.proofs.Common.{◌≡◌, ℕ, suc, ◌+◌, ◌-◌, ◌*◌, ◌^◌, ◌<◌, ◌≤◌, true, leb, List, ◌∷◌, length, Option, refl}
use Rattle.std.proofs.Common.{sym, ap, subst, ◌∙◌, arith, lit<}
use Rattle.std.proofs.Math.Nat.{pow-suc, pow-le-pow_right, one-le-pow}
use Rattle.std.proofs.lemmas.Bool.{and_parts, leb-true}
use Rattle.grs_base.specs.ShortNames.{is_digit}
use Rattle.deck_form.specs.Words.{digits}

-- one digit more
digit_more : (n d t : ℕ) → suc t ≤ 9 → d ≤ 9 → n < 10 ^ (9 - suc t) → n * 10 + d < 10 ^ (9 - t)
digit_more n d t h k l = let e : 9 - t ≡ suc (9 - suc t) = omega arith in rw (e, pow-suc 10 (9 - suc t)) (omega arith)

-- fewer than nine digits write less than this
digit_fits : (n t : ℕ) → suc t ≤ 9 → n < 10 ^ (9 - suc t) → n < 100000000
digit_fits n t h l =
    let few : 9 - suc t ≤ 8 = omega arith in
    let most : 10 ^ (9 - suc t) ≤ 10 ^ 8 = pow-le-pow_right {n = 10} (lit< tt) few in
    omega (arith, most, l)

pub none_yet : (k : ℕ) → 0 < 10 ^ k
none_yet k = let one : 1 ≤ 10 ^ k = one-le-pow k 10 (lit< tt) in omega (arith, one)

pub digits_more : (n b d : ℕ) (rest tail : List ℕ) (total : Option ℕ) → rest ≡ b ∷ tail → is_digit b ≡ true → d ≡ b - 48
    → digits n rest ≡ total → digits (n * 10 + d) tail ≡ total
unfolding digits
digits_more n b d rest tail total is digit value so_far =
    let one : digits n (b ∷ tail) ≡ digits (n * 10 + (b - 48)) tail = rw digit refl in
    rw value (sym one ∙ ap (digits n) (sym is) ∙ so_far)

pub digit_small : (b d : ℕ) → is_digit b ≡ true → d ≡ b - 48 → d ≤ 9
digit_small b d h is = let low = leb-true b 57 (and_parts (leb 48 b) (leb b 57) h).1 in omega (arith, low, is)

-- a number of few digits, with one more
pub small_more : (n b d : ℕ) (rest tail : List ℕ) → rest ≡ b ∷ tail → d ≤ 9 → length rest ≤ 9
    → n < 10 ^ (9 - length rest) → n * 10 + d < 10 ^ (9 - length tail)
small_more n b d rest tail is low short small =
    let long : length rest ≡ suc (length tail) = ap length is in
    let P : ℕ → Type 0 = λ k. n < 10 ^ (9 - k) in
    digit_more n d (length tail) (omega (arith, long, short)) low (subst P long small)

-- a number of few digits, before one more
pub small_now : (n b : ℕ) (rest tail : List ℕ) → rest ≡ b ∷ tail → length rest ≤ 9 → n < 10 ^ (9 - length rest)
    → n < 100000000
small_now n b rest tail is short small =
    let long : length rest ≡ suc (length tail) = ap length is in
    let P : ℕ → Type 0 = λ k. n < 10 ^ (9 - k) in
    digit_fits n (length tail) (omega (arith, long, short)) (subst P long small)
