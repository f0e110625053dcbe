-- Who is live among the systems that were there at the start.
use Rattle.std.proofs.Common.{◌≡◌, ◌≢◌, ◌<◌, ℕ, zero, suc, Bool, true, false, cond, not, eqb, ◌&&◌, refl, ap, sym, ◌∙◌}
use Rattle.std.proofs.Common.{subst, arith, eqb-true}
use Rattle.std.specs.Prelude.{nat_lt}
use Rattle.std.proofs.lemmas.Bool.{eqb-false, lt-ltb, ltb-true, and_right, true≢false}
use Rattle.std.proofs.lemmas.Nat.Bits.{bit_at-lt, same_from_bits}
use Rattle.std.specs.Int.{bit_at}
use Rattle.grs_wire.specs.Masks.{has, with_also, others, lives}
use Rattle.grs_wire.proofs.MaskLaws.{has-zero, has-with_same, has-with_other}

-- what can't be true
no_truth : {X : Type 0} (b : Bool) → b ≡ true → b ≡ false → X
no_truth b e f = absurd (true≢false (sym e ∙ f))

false_by : (b : Bool) → (b ≡ true → b ≡ false) → b ≡ false
false_by true h = h refl
false_by false h = refl

-- the systems below a number are live where none is removed
pub has-others : (n s : ℕ) → s < n → has (others n 0) s ≡ true
has-others zero s l = absurd (omega arith)
has-others (suc n) s l = go (eqb s n) refl (has 0 n) (has-zero n) (λ m. has-others n s m)
  where
    go : (b : Bool) → eqb s n ≡ b → (z : Bool) → z ≡ false → (s < n → has (others n 0) s ≡ true)
        → has (cond z (others n 0) (with_also (others n 0) n)) s ≡ true
    go b e true z below = cc
    go true e false z below =
        subst (λ i. has (with_also (others n 0) n) i ≡ true) (sym (eqb-true s n e)) (has-with_same (others n 0) n)
    go false e false z below =
        let ne : s ≢ n = eqb-false s n e in
        has-with_other (others n 0) n s ne ∙ below (omega arith)

-- who is live among so many, of whom these were removed
live-step : (n m : ℕ) → ((j : ℕ) → has (others n m) j ≡ lives n m j) → (s : ℕ)
    → has (cond (has m n) (others n m) (with_also (others n m) n)) s ≡ lives (suc n) m s
live-step n m below s = go (eqb s n) refl
  where
    at_end : (b : Bool) → has m n ≡ b
        → has (cond b (others n m) (with_also (others n m) n)) n ≡ (nat_lt n (suc n) && not b)
    at_end true e =
        let out : nat_lt n n ≡ false =
        false_by (nat_lt n n) (λ h. absurd (let l : n < n = ltb-true n n h in omega (arith, l))) in
        below n ∙ (ap (λ b. b && not (has m n)) out ∙ sym (and_right (nat_lt n (suc n)) (not true) refl))
    at_end false e = has-with_same (others n m) n ∙ sym (ap (λ b. b && not false) (lt-ltb n (suc n) (omega arith)))

    step : s ≢ n → (b : Bool) → nat_lt s n ≡ b → b ≡ nat_lt s (suc n)
    step ne true e = sym (lt-ltb s (suc n) (let l : s < n = ltb-true s n e in omega (arith, l)))
    step ne false e =
        sym (false_by (nat_lt s (suc n))
        (λ h. no_truth (nat_lt s n) (lt-ltb s n (let l : s < suc n = ltb-true s (suc n) h in omega (arith, l, ne))) e))

    apart : s ≢ n → (b : Bool) → has m n ≡ b
        → has (cond b (others n m) (with_also (others n m) n)) s ≡ lives (suc n) m s
    apart ne true e = below s ∙ ap (λ b. b && not (has m s)) (step ne (nat_lt s n) refl)
    apart ne false e =
        has-with_other (others n m) n s ne ∙ (below s ∙ ap (λ b. b && not (has m s)) (step ne (nat_lt s n) refl))

    go : (b : Bool) → eqb s n ≡ b → has (cond (has m n) (others n m) (with_also (others n m) n)) s ≡ lives (suc n) m s
    go true e =
        subst (λ i. has (cond (has m n) (others n m) (with_also (others n m) n)) i ≡ lives (suc n) m i)
        (sym (eqb-true s n e)) (at_end (has m n) refl)
    go false e = apart (eqb-false s n e) (has m n) refl

pub has-live : (n m s : ℕ) → has (others n m) s ≡ lives n m s
has-live zero m s =
    has-zero s
    ∙ sym (ap (λ b. b && not (has m s))
    (false_by (nat_lt s 0) (λ h. absurd (let l : s < 0 = ltb-true s 0 h in omega (arith, l)))))
has-live (suc n) m s = live-step n m (has-live n m) s

-- ---- two sets with the same systems are one; this alone looks at the bits of a mask
same_bit : (a b : ℕ) → a < 2 → b < 2 → eqb a 1 ≡ eqb b 1 → a ≡ b
same_bit zero zero k l e = refl
same_bit zero (suc zero) k l e = absurd (true≢false (sym e))
same_bit (suc zero) zero k l e = absurd (true≢false e)
same_bit (suc zero) (suc zero) k l e = refl
same_bit zero (suc (suc b)) k l e = absurd (omega (arith, l))
same_bit (suc zero) (suc (suc b)) k l e = absurd (omega (arith, l))
same_bit (suc (suc a)) b k l e = absurd (omega (arith, k))

pub same_set : (m k : ℕ) → ((s : ℕ) → has m s ≡ has k s) → m ≡ k
unfolding has
same_set m k same =
    same_from_bits m k (λ i. same_bit (bit_at m i) (bit_at k i) (bit_at-lt m i) (bit_at-lt k i) (same i))
