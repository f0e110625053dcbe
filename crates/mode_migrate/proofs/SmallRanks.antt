-- Ranks that are small.
use Rattle.std.proofs.Common.{◌≡◌, ◌≤◌, ℕ, zero, suc, ◌+◌, Bool, true, false, cond, ◌&&◌, List, [], ◌∷◌, ◌++◌, map}
use Rattle.std.proofs.Common.{refl, ap, sym, ◌∙◌, subst, arith, append_assoc, append-nil}
use Rattle.std.specs.Prelude.{nat_le}
use Rattle.std.specs.List.{list_all}
use Rattle.std.proofs.lemmas.Bool.Decides.{nat_tests}
use Rattle.std.proofs.lemmas.List.Folds.{list_all-append}
use Rattle.grs_base.specs.Limits.{last_number}
use Rattle.lock_structure.specs.RankedRows.{RankedRow, ranks_of}
use Rattle.mode_migrate.specs.Migrate.{has_small_ranks}

-- ranks of rows, one behind the other
pub ranks-append : (xs ys : List RankedRow) → ranks_of (xs ++ ys) ≡ ranks_of xs ++ ranks_of ys
ranks-append [] ys = refl
ranks-append (x ∷ xs) ys =
    ap (λ (ns : List ℕ). x.1 ++ ns) (ranks-append xs ys) ∙ sym (append_assoc x.1 (ranks_of xs) (ranks_of ys))

abbrev is_rank : ℕ → Bool
is_rank n = nat_le n last_number

both : (a b : Bool) → a ≡ true → b ≡ true → (a && b) ≡ true
both true true e f = refl
both true false e f = absurd cc
both false b e f = absurd cc

-- one small rank more
pub numbers-small : (ns : List ℕ) (n : ℕ) → list_all (λ k. nat_le k last_number) ns ≡ true → n ≤ last_number
    → list_all (λ k. nat_le k last_number) (ns ++ n ∷ []) ≡ true
numbers-small ns n all small =
    let one : list_all is_rank (n ∷ []) ≡ true =
    both (nat_le n last_number) true (grind (arith, nat_tests, small)) refl in
    list_all-append is_rank ns (n ∷ []) ∙ both (list_all is_rank ns) (list_all is_rank (n ∷ [])) all one

pub ranks-small : (xs : List RankedRow) (x : RankedRow) → list_all (λ n. nat_le n last_number) (ranks_of xs) ≡ true
    → list_all (λ n. nat_le n last_number) x.1 ≡ true
    → list_all (λ n. nat_le n last_number) (ranks_of (xs ++ x ∷ [])) ≡ true
ranks-small xs x all one =
    ap (list_all is_rank) (ranks-append xs (x ∷ []) ∙ ap (λ (ns : List ℕ). ranks_of xs ++ ns) (append-nil x.1))
    ∙ list_all-append is_rank (ranks_of xs) x.1
    ∙ both _ _ all one

pub ruleset small_ranks = (numbers-small, ranks-small)

-- one part more
pub parts-small : (parts : List (List RankedRow)) (part : List RankedRow) → list_all has_small_ranks parts ≡ true
    → has_small_ranks part ≡ true → list_all has_small_ranks (parts ++ part ∷ []) ≡ true
parts-small parts part all one =
    list_all-append has_small_ranks parts (part ∷ [])
    ∙ both (list_all has_small_ranks parts) (list_all has_small_ranks (part ∷ [])) all
    (both (has_small_ranks part) true one refl)

pub ruleset small_parts = (parts-small)
