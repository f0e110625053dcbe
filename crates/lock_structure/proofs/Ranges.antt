-- Numbers in order, with one more at their end.
use Rattle.std.proofs.Common.{◌≡◌, ℕ, zero, suc, ◌+◌, Bool, cond, List, [], ◌∷◌, ◌++◌, map, ap, sym, ◌∙◌, subst, arith}
use Rattle.std.proofs.Common.{append_assoc, append-nil}
use Rattle.std.specs.Prelude.{filter}
use Rattle.std.specs.List.{range_with_len, flat_map}
use Rattle.std.proofs.lemmas.List.{map-append}
use Rattle.std.proofs.lemmas.List.Elements.{filter-append}

-- one number more
pub range-more : (a n : ℕ) → range_with_len a (n + 1) ≡ range_with_len a n ++ (a + n) ∷ []
range-more a n =
    let next : suc n ≡ n + 1 = omega arith in
    subst (λ (k : ℕ). range_with_len a k ≡ range_with_len a n ++ (a + n) ∷ []) next (go a n)
  where
    go : (b k : ℕ) → range_with_len b (suc k) ≡ range_with_len b k ++ (b + k) ∷ []
    go b zero = ap (λ (x : ℕ). x ∷ []) (omega arith)
    go b (suc k) =
        ap (λ (xs : List ℕ). b ∷ xs) (go (b + 1) k ∙ ap (λ (x : ℕ). range_with_len (b + 1) k ++ x ∷ []) (omega arith))

pub zero-more : (n : ℕ) → range_with_len 0 (n + 1) ≡ range_with_len 0 n ++ n ∷ []
zero-more n = let same : 0 + n ≡ n = omega arith in range-more 0 n ∙ ap (λ (x : ℕ). range_with_len 0 n ++ x ∷ []) same

pub map-range_more : {X : Type 0} (f : ℕ → X) (n : ℕ)
    → map f (range_with_len 0 (n + 1)) ≡ map f (range_with_len 0 n) ++ f n ∷ []
map-range_more f n = ap (map f) (zero-more n) ∙ map-append f (range_with_len 0 n) (n ∷ [])

pub filter-range_more : (test : ℕ → Bool) (n : ℕ)
    → filter test (range_with_len 0 (n + 1)) ≡ filter test (range_with_len 0 n) ++ cond (test n) (n ∷ []) []
filter-range_more test n = ap (filter test) (zero-more n) ∙ filter-append test (range_with_len 0 n) (n ∷ [])

pub flat_map-range_more : {X : Type 0} (f : ℕ → List X) (n : ℕ)
    → flat_map f (range_with_len 0 (n + 1)) ≡ flat_map f (range_with_len 0 n) ++ f n
flat_map-range_more {X} f n = ap (flat_map f) (zero-more n) ∙ go (range_with_len 0 n)
  where
    go : (ks : List ℕ) → flat_map f (ks ++ n ∷ []) ≡ flat_map f ks ++ f n
    go [] = append-nil (f n)
    go (k ∷ ks) = ap (λ (xs : List X). f k ++ xs) (go ks) ∙ sym (append_assoc (f k) (flat_map f ks) (f n))

pub ruleset ranges = (range-more, map-range_more, filter-range_more, flat_map-range_more)
