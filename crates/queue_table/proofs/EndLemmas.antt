-- What is kept for classes, under their numbers.
use Rattle.std.proofs.Common.{◌≡◌, ◌<◌, ◌≤◌, ◌+◌, ◌-◌, ℕ, zero, suc, Bool, true, false, cond, List, [], ◌∷◌, ◌++◌, Option, Some, None}
use Rattle.std.proofs.Common.{length, set, take, get_or, refl, ap, sym, ◌∙◌, arith, nat_eq, subst}
use Rattle.std.specs.Prelude.{replicate, nat_le}
use Rattle.std.proofs.lemmas.Bool.Decides.{nat_tests}
use Rattle.queue_table.specs.Classes.{end_at}

pub end_at-get : (os : List (Option ℕ)) (c : ℕ) (o : Option ℕ) → c < length os → o ≡ get_or os c o → o ≡ end_at os c
end_at-get [] c o l e = absurd (omega arith)
end_at-get (x ∷ os) zero o l e = e
end_at-get (x ∷ os) (suc c) o l e = end_at-get os c o (omega arith) e

pub end_at-past : (os : List (Option ℕ)) (c : ℕ) → length os ≤ c → end_at os c ≡ None
end_at-past [] c l = refl
end_at-past (x ∷ os) zero l = absurd (omega arith)
end_at-past (x ∷ os) (suc c) l = end_at-past os c (omega arith)

pub end_at-set : (os : List (Option ℕ)) (i : ℕ) (o : Option ℕ) (c : ℕ) → i < length os
    → end_at (set os i o) c ≡ cond (nat_eq c i) o (end_at os c)
end_at-set [] i o c l = absurd (omega arith)
end_at-set (x ∷ os) zero o zero l = refl
end_at-set (x ∷ os) zero o (suc c) l = grind (arith, nat_tests)
end_at-set (x ∷ os) (suc i) o zero l = grind (arith, nat_tests)
end_at-set (x ∷ os) (suc i) o (suc c) l = grind (arith, nat_tests, l, end_at-set os i o c)

pub end_at-none : (n c : ℕ) → end_at (replicate n None) c ≡ None
end_at-none zero c = refl
end_at-none (suc n) zero = refl
end_at-none (suc n) (suc c) = end_at-none n c

-- with nothing more behind
pub end_at-more : (os : List (Option ℕ)) (n m c : ℕ) → length os ≤ n
    → end_at (take n os ++ replicate m None) c ≡ end_at os c
end_at-more [] zero m c l = end_at-none m c
end_at-more [] (suc n) m c l = end_at-none m c
end_at-more (o ∷ os) zero m c l = absurd (omega arith)
end_at-more (o ∷ os) (suc n) m zero l = refl
end_at-more (o ∷ os) (suc n) m (suc c) l = end_at-more os n m c (omega arith)

-- ---- room for one more place, where there is room for the last place of any class
pub ready : (n m x : ℕ) → 1 ≤ cond (nat_le n m) x 0 → n ≤ m
ready n m x h = by_test (nat_le n m) refl h
  where
    by_test : (b : Bool) → nat_le n m ≡ b → 1 ≤ cond b x 0 → n ≤ m
    by_test true f k = grind (arith, nat_tests, f)
    by_test false f k = absurd (omega (arith, k))

pub room_left : (n m a b : ℕ) → 1 ≤ cond (nat_le n m) (a - b) 0 → b < a
room_left n m a b h = by_test (nat_le n m) h
  where
    by_test : (t : Bool) → 1 ≤ cond t (a - b) 0 → b < a
    by_test true k = omega (arith, k)
    by_test false k = absurd (omega (arith, k))

-- at most one less
pub room_kept : (n m l a b e d : ℕ) → l ≡ m → e ≡ b + 1 → a ≤ d
    → cond (nat_le n m) (a - b) 0 ≤ cond (nat_le n l) (d - e) 0 + 1
room_kept n m l a b e d same more wide =
    subst (λ k. cond (nat_le n m) (a - b) 0 ≤ cond (nat_le n k) (d - e) 0 + 1) (sym same) (by_test (nat_le n m))
  where
    by_test : (t : Bool) → cond t (a - b) 0 ≤ cond t (d - e) 0 + 1
    by_test true = omega (arith, more, wide)
    by_test false = omega arith

-- as much as there was, once nothing stands there
pub room_cleared : (n m l x a : ℕ) → x ≤ a → (0 < x → n ≤ m) → l ≡ m → x ≤ cond (nat_le n l) (a - 0) 0
room_cleared n m l x a fits any same = by_none x fits any
  where
    by_none : (y : ℕ) → y ≤ a → (0 < y → n ≤ m) → y ≤ cond (nat_le n l) (a - 0) 0
    by_none zero k h = omega arith
    by_none (suc y) k h = by_test (nat_le n l) refl
      where
        by_test : (t : Bool) → nat_le n l ≡ t → suc y ≤ cond t (a - 0) 0
        by_test true f = omega (arith, k)
        by_test false f =
            absurd (let wide : n ≤ l = omega (arith, h (omega arith), same) in
            let z : true ≡ false = grind (arith, nat_tests, wide, f) in
            cc)

pub ruleset ends = (end_at-get, end_at-past, end_at-set, end_at-none, end_at-more)
