-- The laws of masks that the rest cites. No other file opens a mask.
use Rattle.std.proofs.Common.{ℕ, zero, suc, ◌≡◌, ◌≢◌, true, false, not, eqb, ◌^◌, ◌+◌, ◌*◌, ◌%◌, ◌<◌, min, max}
use Rattle.std.proofs.Common.{zero-mul, one-mul, pow_pos, bit_and, bit_or, w32, sym, ◌∙◌, refl, arith, eqb-true, ne_eqb}
use Rattle.std.proofs.Common.{◌≤◌, Bool, cond, subst}
use Rattle.std.specs.Int.{bit_at, bit_not}
use Rattle.std.proofs.lemmas.Nat.Bits.{bit_at_and, bit_at_xor, bit_at_or, bit_at-pow_same, bit_at-pow_other, bit_at-lt}
use Rattle.std.proofs.lemmas.Nat.Bits.{bit_at-zero, and_pow, same_from_bits, bit_at_clear_same, bit_at_clear_other}
use Rattle.std.proofs.lemmas.Nat.Bits.{bit_at_above}
use Rattle.std.proofs.lemmas.Nat.{and_le_l, one_shl, or_lt, pow_below, xor_lt}
use native.Mathlib.Decide.{dec_lt, ℕ_discrete}
use Rattle.std.specs.Prelude.{◌&&◌}
use Rattle.grs_wire.specs.Masks.{has, without, with_also, without_all}

twice_gone : (b : ℕ) → b < 2 → (b + min b 1) % 2 ≡ 0
twice_gone b h = omega arith

max_one : (b : ℕ) → b < 2 → max b 1 ≡ 1
max_one b h = omega arith

max_zero : (b : ℕ) → max b 0 ≡ b
max_zero b = omega arith

min_zero : (b : ℕ) → min 0 b ≡ 0
min_zero b = omega arith

kept_bit : (b : ℕ) → b < 2 → (b + min b 0) % 2 ≡ b
kept_bit b h = omega arith

pub has-without_same : (m s : ℕ) → has (without m s) s ≡ false
unfolding has without
has-without_same m s = rw (bit_at_xor, bit_at_and, bit_at-pow_same, twice_gone (bit_at m s) (bit_at-lt m s)) refl

pub has-without_other : (m s t : ℕ) → t ≢ s → has (without m s) t ≡ has m t
unfolding has without
has-without_other m s t ne =
    rw (bit_at_xor, bit_at_and, bit_at-pow_other s t ne, kept_bit (bit_at m t) (bit_at-lt m t)) refl

pub has-zero : (s : ℕ) → has 0 s ≡ false
unfolding has
has-zero s = rw bit_at-zero refl

-- ---- the code's operations at 32 bits
one_bit : (b p : ℕ) → b < 2 → 0 < p → not (eqb (b * p) 0) ≡ eqb b 1
one_bit zero p h k = rw zero-mul refl
one_bit (suc zero) p h k = rw (one-mul, ne_eqb p 0 (λ e. omega arith)) refl
one_bit (suc (suc b)) p h k = absurd (omega arith)

pub has_code : (m s : ℕ) → s < 32 → not (eqb (bit_and m ((1 * 2 ^ s) % 2 ^ 32)) 0) ≡ has m s
unfolding has
has_code m s h = rw (one_shl s 32 h, and_pow m s) (one_bit (bit_at m s) (2 ^ s) (bit_at-lt m s) (pow_pos s))

pub with_code : (m s : ℕ) → s < 32 → bit_or m ((1 * 2 ^ s) % 2 ^ 32) ≡ with_also m s
unfolding with_also
with_code m s h = rw (one_shl s 32 h) refl

bits_without : (m s i : ℕ) → i ≢ s → bit_at (without m s) i ≡ bit_at m i
unfolding without
bits_without m s i ne = rw (bit_at_xor, bit_at_and, bit_at-pow_other s i ne, kept_bit (bit_at m i) (bit_at-lt m i)) refl

bits_without_same : (m s : ℕ) → bit_at (without m s) s ≡ 0
unfolding without
bits_without_same m s = rw (bit_at_xor, bit_at_and, bit_at-pow_same, twice_gone (bit_at m s) (bit_at-lt m s)) refl

pub without_code : (m s : ℕ) → s < 32 → m < 2 ^ 32 → bit_and m (bit_not w32 ((1 * 2 ^ s) % 2 ^ 32)) ≡ without m s
without_code m s h fits = same_from_bits _ _ (λ i. go i (dec_lt i 32) (ℕ_discrete i s))
  where
    go : (i : ℕ) → Dec (i < 32) → Dec (i ≡ s)
        → bit_at (bit_and m (bit_not w32 ((1 * 2 ^ s) % 2 ^ 32))) i ≡ bit_at (without m s) i
    go i _ (yes e) = rw e (bit_at_clear_same w32 m s h ∙ sym (bits_without_same m s))
    go i (yes l) (no ne) = bit_at_clear_other w32 m s h i l ne ∙ sym (bits_without m s i ne)
    go i (no far) (no ne) =
        let z : bit_at m i ≡ 0 = bit_at_above m 32 i fits (omega arith) in
        rw (bit_at_and, bits_without m s i ne, z) (min_zero _)

pub has-with_same : (m s : ℕ) → has (with_also m s) s ≡ true
unfolding has with_also
has-with_same m s = rw (bit_at_or, bit_at-pow_same, max_one (bit_at m s) (bit_at-lt m s)) refl

pub has-with_other : (m s t : ℕ) → t ≢ s → has (with_also m s) t ≡ has m t
unfolding has with_also
has-with_other m s t ne = rw (bit_at_or, bit_at-pow_other s t ne, max_zero (bit_at m t)) refl

-- ---- what a set is without a system that it lacks, and with one that it has
bit-absent : (b : ℕ) → b < 2 → eqb b 1 ≡ false → b ≡ 0
bit-absent zero h e = refl
bit-absent (suc zero) h e = cc
bit-absent (suc (suc b)) h e = absurd (omega arith)

pub without-absent : (m s : ℕ) → has m s ≡ false → without m s ≡ m
unfolding has without
without-absent m s e = same_from_bits _ _ (λ i. go i (ℕ_discrete i s))
  where
    go : (i : ℕ) → Dec (i ≡ s) → bit_at (without m s) i ≡ bit_at m i
    go i (yes same) = rw same (bits_without_same m s ∙ sym (bit-absent (bit_at m s) (bit_at-lt m s) e))
    go i (no ne) = bits_without m s i ne

pub with-present : (m s : ℕ) → has m s ≡ true → with_also m s ≡ m
unfolding has with_also
with-present m s e = same_from_bits _ _ (λ i. go i (ℕ_discrete i s))
  where
    one : bit_at m s ≡ 1
    one = eqb-true (bit_at m s) 1 e

    go : (i : ℕ) → Dec (i ≡ s) → bit_at (bit_or m (2 ^ s)) i ≡ bit_at m i
    go i (yes same) = rw (same, bit_at_or, bit_at-pow_same, max_one (bit_at m s) (bit_at-lt m s)) (sym one)
    go i (no ne) = rw (bit_at_or, bit_at-pow_other s i ne, max_zero (bit_at m i)) refl

-- ---- sets of eight systems stay below 256
pub with_also-lt : (m s : ℕ) → m < 256 → s < 8 → with_also m s < 256
unfolding with_also
with_also-lt m s h below = or_lt 8 m (2 ^ s) h (pow_below s 8 below)

pub without-lt : (m s : ℕ) → m < 256 → without m s < 256
unfolding without
without-lt m s h = xor_lt 8 m (bit_and m (2 ^ s)) h (omega (arith, and_le_l m (2 ^ s)))

pub ruleset small_sets = (with_also-lt, without-lt)

-- ---- a set without the systems of another one
above-stay : (n m f s : ℕ) → n ≤ s → has (without_all n m f) s ≡ has f s
above-stay zero m f s h = refl
above-stay (suc n) m f s h = go (has m n) (above-stay n m f s (omega (arith, h)))
  where
    go : (b : Bool) → has (without_all n m f) s ≡ has f s
        → has (cond b (without (without_all n m f) n) (without_all n m f)) s ≡ has f s
    go true rest = has-without_other (without_all n m f) n s (λ e. omega (arith, h, e)) ∙ rest
    go false rest = rest

both-ways : (a b : Bool) → b ≡ true → false ≡ (a && not b)
both-ways true b e = rw e refl
both-ways false b e = refl

stays-in : (a b : Bool) → b ≡ false → a ≡ (a && not b)
stays-in true b e = rw e refl
stays-in false b e = refl

last-same : (n m f : ℕ) → has (without_all (suc n) m f) n ≡ (has f n && not (has m n))
last-same n m f = go (has m n) refl (above-stay n m f n (omega arith))
  where
    go : (b : Bool) → has m n ≡ b → has (without_all n m f) n ≡ has f n
        → has (cond b (without (without_all n m f) n) (without_all n m f)) n ≡ (has f n && not (has m n))
    go true e above = has-without_same (without_all n m f) n ∙ both-ways (has f n) (has m n) e
    go false e above = above ∙ stays-in (has f n) (has m n) e

last-other : (n m f s : ℕ) → s ≢ n → has (without_all n m f) s ≡ (has f s && not (has m s))
    → has (without_all (suc n) m f) s ≡ (has f s && not (has m s))
last-other n m f s ne below = go (has m n)
  where
    go : (b : Bool)
        → has (cond b (without (without_all n m f) n) (without_all n m f)) s ≡ (has f s && not (has m s))
    go true = has-without_other (without_all n m f) n s ne ∙ below
    go false = below

pub has-without_all : (n m f s : ℕ) → s < n → has (without_all n m f) s ≡ (has f s && not (has m s))
has-without_all zero m f s h = absurd (omega (arith, h))
has-without_all (suc n) m f s h = go (ℕ_discrete s n) (has-without_all n m f s)
  where
    go : Dec (s ≡ n) → (s < n → has (without_all n m f) s ≡ (has f s && not (has m s)))
        → has (without_all (suc n) m f) s ≡ (has f s && not (has m s))
    go (yes same) below = subst (λ (k : ℕ). has (without_all (suc n) m f) k ≡ (has f k && not (has m k))) (sym same) (last-same n m f)
    go (no ne) below = last-other n m f s ne (below (omega (arith, h, ne)))
