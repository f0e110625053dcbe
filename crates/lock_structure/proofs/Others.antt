-- Kept comes exactly where the manager has interest and another system has too.
use Rattle.std.proofs.Common.{◌≡◌, ◌≢◌, ◌<◌, ℕ, zero, suc, Bool, true, false, cond, not, ◌&&◌, ◌||◌, refl, ap, sym, ◌∙◌}
use Rattle.std.proofs.Common.{arith}
use Rattle.std.specs.Prelude.{◌==◌, eqb}
use Rattle.std.specs.Int.{bit_at}
use Rattle.std.proofs.lemmas.Bool.{eqb-true, eqb-false, and_parts, true≢false}
use Rattle.std.proofs.lemmas.Nat.Bits.{same_from_bits_below, bit_at-lt, bit_at_above}
use native.Mathlib.Decide.{dec_lt, ℕ_discrete}
use Rattle.grs_base.specs.declared.resource.SysId.{SysId}
use Rattle.grs_wire.proofs.MaskLaws.{has-zero, has-with_same, has-with_other, with_also-lt}
use Rattle.grs_wire.specs.LockWords.{interest, manager, is_manager, is_kept, leave_reply}
use Rattle.grs_wire.specs.Masks.{has, only, all_others}
use Rattle.grs_wire.specs.declared.medium.Reply.TheVariants.{Left, Kept}
use Rattle.lock_structure.specs.Laws.{has_others, KeptHasOther, LoneIsLeft}

-- ---- a set of eight systems is known by its members; beside the laws of masks this section alone opens one
same-bit : (a b : ℕ) → a < 2 → b < 2 → eqb a 1 ≡ eqb b 1 → a ≡ b
same-bit zero zero h k e = refl
same-bit zero (suc zero) h k e = absurd cc
same-bit (suc zero) zero h k e = absurd cc
same-bit (suc zero) (suc zero) h k e = refl
same-bit (suc (suc a)) b h k e = absurd (omega arith)
same-bit a (suc (suc b)) h k e = absurd (omega arith)

pub same-members : (m n : ℕ) → m < 256 → n < 256 → ((s : ℕ) → s < 8 → has m s ≡ has n s) → m ≡ n
unfolding has
same-members m n h k e =
    same_from_bits_below 8 m n h k
    (λ i low. same-bit (bit_at m i) (bit_at n i) (bit_at-lt m i) (bit_at-lt n i) (e i low))

pub member-lt : (m s : ℕ) → m < 256 → has m s ≡ true → s < 8
unfolding has
member-lt m s h is = go (dec_lt s 8)
  where
    go : Dec (s < 8) → s < 8
    go (yes low) = low
    go (no high) =
        let none : bit_at m s ≡ 0 = bit_at_above m 8 s h (omega arith) in
        absurd (true≢false (sym is ∙ ap (λ (b : ℕ). eqb b 1) none))

-- ---- each system that isn't in a set passes a test, or one doesn't
pub passes : (n m : ℕ) (test : ℕ → Bool) → all_others n m test ≡ true → (s : ℕ) → s < n → (has m s || test s) ≡ true
passes zero m test all s h = absurd (omega arith)
passes (suc n) m test all s h =
    go (ℕ_discrete s n)
    (λ (less : s < n). passes n m test (and_parts (all_others n m test) (has m n || test n) all).0 s less)
  where
    go : Dec (s ≡ n) → (s < n → (has m s || test s) ≡ true) → (has m s || test s) ≡ true
    go (yes last) before =
        ap (λ (i : ℕ). has m i || test i) last ∙ (and_parts (all_others n m test) (has m n || test n) all).1
    go (no ne) before = before (omega arith)

fails : (n m : ℕ) (test : ℕ → Bool) → all_others n m test ≡ false → (s : ℕ) × ((has m s || test s) ≡ false)
fails zero m test some = absurd cc
fails (suc n) m test some = go (all_others n m test) (fails n m test) some
  where
    go : (b : Bool) → (b ≡ false → (s : ℕ) × ((has m s || test s) ≡ false)) → (b && (has m n || test n)) ≡ false
        → (s : ℕ) × ((has m s || test s) ≡ false)
    go false before one = before refl
    go true before one = (n, one)

-- ---- whether another has interest
-- the set of one system has no other
only-other : (k s : ℕ) → s ≢ k → has (only k) s ≡ false
only-other k s ne = has-with_other 0 k s ne ∙ has-zero s

neither-test : (a b : Bool) → (a || not b) ≡ false → (a ≡ false) × (b ≡ true)
neither-test true b is = absurd cc
neither-test false true is = (refl, refl)
neither-test false false is = absurd cc

other-member : (mask : ℕ) (c : SysId) → has_others mask c ≡ true → (s : ℕ) × ((s ≢ c.0) × (has mask s ≡ true))
other-member mask c is =
    let found =
    fails 8 (only c.0) (λ s. not (has mask s)) (turned (all_others 8 (only c.0) (λ s. not (has mask s))) is) in
    let parts = neither-test (has (only c.0) found.0) (has mask found.0) found.1 in
    (found.0, ((λ same. true≢false (sym (ap (has (only c.0)) same ∙ has-with_same 0 c.0) ∙ parts.0)), parts.1))
  where
    turned : (b : Bool) → not b ≡ true → b ≡ false
    turned false e = refl
    turned true e = absurd cc

-- c is alone in a set exactly where the set is that of c
alone-or-not : (mask : ℕ) (c : SysId) → mask < 256 → has mask c.0 ≡ true → not (mask == only c.0) ≡ has_others mask c
alone-or-not mask c small here = go (mask == only c.0) (all_others 8 (only c.0) (λ s. not (has mask s))) refl refl
  where
    go : (a b : Bool) → (mask == only c.0) ≡ a → all_others 8 (only c.0) (λ s. not (has mask s)) ≡ b → not a ≡ not b
    go true true is all = refl
    go false false is all = refl
    go true false is all =
        let found = fails 8 (only c.0) (λ s. not (has mask s)) all in
        let parts = neither-test (has (only c.0) found.0) (has mask found.0) found.1 in
        let same : has mask found.0 ≡ has (only c.0) found.0 =
        ap (λ (m : ℕ). has m found.0) (eqb-true mask (only c.0) is) in
        absurd (true≢false (sym parts.1 ∙ same ∙ parts.0))
    go false true is all =
        absurd (eqb-false mask (only c.0) is (same-members mask (only c.0) small
        (with_also-lt 0 c.0 (omega arith) (member-lt mask c.0 small here)) (λ s low. each s low (ℕ_discrete s c.0))))
      where
        kept-out : (a b : Bool) → a ≡ false → (a || not b) ≡ true → b ≡ false
        kept-out a true none e = absurd (true≢false (sym e ∙ ap (λ (x : Bool). x || false) none))
        kept-out a false none e = refl

        each : (s : ℕ) → s < 8 → Dec (s ≡ c.0) → has mask s ≡ has (only c.0) s
        each s low (yes same) = ap (has mask) same ∙ here ∙ sym (ap (has (only c.0)) same ∙ has-with_same 0 c.0)
        each s low (no ne) =
            kept-out (has (only c.0) s) (has mask s) (only-other c.0 s ne)
            (passes 8 (only c.0) (λ i. not (has mask i)) all s low)
            ∙ sym (only-other c.0 s ne)

-- ---- the test of Kept by the systems
pub kept-where : (w : ℕ) (c : SysId)
    → is_kept w c ≡ (is_manager (manager w) c && (has (interest w) c.0 && has_others (interest w) c))
kept-where w c = go (has (interest w) c.0) (is_manager (manager w) c) refl
  where
    go : (h m : Bool) → has (interest w) c.0 ≡ h
        → (h && m && not (interest w == only c.0)) ≡ (m && (h && has_others (interest w) c))
    go false false here = refl
    go false true here = refl
    go true false here = refl
    go true true here = alone-or-not (interest w) c (omega arith) here

kept-other : (w : ℕ) (c : SysId) → is_kept w c ≡ true → (s : ℕ) × ((s ≢ c.0) × (has (interest w) s ≡ true))
kept-other w c is =
    let parts =
    and_parts (is_manager (manager w) c) (has (interest w) c.0 && has_others (interest w) c)
    (sym (kept-where w c) ∙ is) in
    other-member (interest w) c (and_parts (has (interest w) c.0) (has_others (interest w) c) parts.1).1

pub kept_has_other : KeptHasOther
unfolding leave_reply
kept_has_other w c mask given = kept-other w c (go (is_kept w c) (interest w) given)
  where
    go : (b : Bool) (whole : ℕ) → cond b (Kept whole) Left ≡ Kept mask → b ≡ true
    go true whole h = refl
    go false whole h = absurd cc

pub lone_is_left : LoneIsLeft
unfolding leave_reply
lone_is_left w c alone = go (is_kept w c) refl
  where
    go : (b : Bool) → is_kept w c ≡ b → cond b (Kept (interest w)) Left ≡ Left
    go false is = refl
    go true is = let other = kept-other w c is in absurd (true≢false (sym other.1.1 ∙ alone other.0 other.1.0))
