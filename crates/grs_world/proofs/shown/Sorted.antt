-- Records that have the ranks of their tasks are, in the order of these, the elements of a list along which the ranks
-- of its tasks rise, where the list has their elements in any order.
use Rattle.grs_world.proofs.Common.{[], ◌∙◌, ◌∷◌, ◌≡◌, and_parts, ap, arith, Bool, cond, Elem, false, List, list_all}
use Rattle.grs_world.proofs.Common.{map, nat_lt, nat_tests, PartRec, refl, Res, subst, sym, TaskId, true, ℕ}
use Rattle.std.specs.Prelude.{nat_eq}
use Rattle.std.specs.List.{AllByRecursion, IsDistinct}
use Rattle.std.specs.List.Sorted.{IsPermutation}
use Rattle.std.proofs.lemmas.List.Sorted.{IsPermutation-map, IsPermutation-sym}
use Rattle.std.proofs.lemmas.Map.Keys.{IsDistinct-IsPermutation}
use Rattle.contention_mgr.specs.Installs.{elem_of}
use Rattle.lock_structure.specs.RankedRows.{rises}
use Rattle.system_purge.specs.Gather.{by_rank, placed as placed_by_rank, ranks}
use Rattle.system_purge.proofs.Counting.{in-order-is}

-- ---- rising numbers
above-apart : (n : ℕ) (ks : List ℕ) → list_all (λ k. nat_lt n k) ks ≡ true → AllByRecursion (λ k. nat_eq n k ≡ false) ks
above-apart n [] h = tt
above-apart n (k ∷ ks) h =
    let both = and_parts (nat_lt n k) (list_all (λ j. nat_lt n j) ks) h in
    (grind (arith, nat_tests, both.0), above-apart n ks both.1)

-- no two of them are equal
rising-distinct : (ks : List ℕ) → rises ks ≡ true → IsDistinct nat_eq ks
unfolding IsDistinct
rising-distinct [] h = tt
rising-distinct (k ∷ ks) h =
    let both = and_parts (list_all (λ j. nat_lt k j) ks) (rises ks) h in
    (above-apart k ks both.0, rising-distinct ks both.1)

flips : (a b : ℕ) → nat_eq a b ≡ nat_eq b a
flips a b = grind (arith, nat_tests)

-- ---- records of resource r, each with the rank of its task
module _ (r : Res) (rank : TaskId → ℕ) where
  abbrev pub AreRanked : List PartRec → Type 0
  AreRanked [] = Unit {0}
  AreRanked (z ∷ zs) = (z.rank ≡ rank z.task) × AreRanked zs

  -- a record but for what isn't of its element or rank, and an element as such a record
  abbrev bare : PartRec → PartRec
  bare z = record { res = r; task = z.task; ctl = z.ctl; rank = z.rank; told = false }

  abbrev record_of_elem : Elem → PartRec
  record_of_elem x = record { res = r; task = x.task; ctl = x.ctl; rank = rank x.task; told = false }

  abbrev rank_of_elem : Elem → ℕ
  rank_of_elem x = rank x.task

  placed-bare : (z : PartRec) (zs : List PartRec)
      → placed_by_rank (bare z) (map bare zs) ≡ map bare (placed_by_rank z zs)
  placed-bare z [] = refl
  placed-bare z (y ∷ ys) = go (nat_lt z.rank y.rank) (placed-bare z ys)
    where
      go : (b : Bool) → placed_by_rank (bare z) (map bare ys) ≡ map bare (placed_by_rank z ys)
          → cond b (bare z ∷ (bare y ∷ map bare ys)) (bare y ∷ placed_by_rank (bare z) (map bare ys))
          ≡ map bare (cond b (z ∷ (y ∷ ys)) (y ∷ placed_by_rank z ys))
      go true more = refl
      go false more = ap (λ (xs : List PartRec). bare y ∷ xs) more

  by_rank-bare : (zs : List PartRec) → by_rank (map bare zs) ≡ map bare (by_rank zs)
  by_rank-bare [] = refl
  by_rank-bare (z ∷ zs) =
      ap (λ (ys : List PartRec). placed_by_rank (bare z) ys) (by_rank-bare zs) ∙ placed-bare z (by_rank zs)

  bare-ranked : (zs : List PartRec) → AreRanked zs → map bare zs ≡ map record_of_elem (map elem_of zs)
  bare-ranked [] h = refl
  bare-ranked (z ∷ zs) h =
      ap (λ (n : ℕ). record (bare z) { rank = n } ∷ map bare zs) h.0
      ∙ ap (λ (ys : List PartRec). record_of_elem (elem_of z) ∷ ys) (bare-ranked zs h.1)

  bare-elems : (zs : List PartRec) → map elem_of (map bare zs) ≡ map elem_of zs
  bare-elems [] = refl
  bare-elems (z ∷ zs) = ap (λ (ys : List Elem). elem_of z ∷ ys) (bare-elems zs)

  elems-back : (xs : List Elem) → map elem_of (map record_of_elem xs) ≡ xs
  elems-back [] = refl
  elems-back (x ∷ xs) = ap (λ (ys : List Elem). x ∷ ys) (elems-back xs)

  ranks-back : (xs : List Elem) → ranks (map record_of_elem xs) ≡ map rank_of_elem xs
  ranks-back [] = refl
  ranks-back (x ∷ xs) = ap (λ (ns : List ℕ). rank x.task ∷ ns) (ranks-back xs)

  bare-ranks : (zs : List PartRec) → ranks (map bare zs) ≡ ranks zs
  bare-ranks [] = refl
  bare-ranks (z ∷ zs) = ap (λ (ns : List ℕ). z.rank ∷ ns) (bare-ranks zs)

  -- in the order of ranks they are the elements, as such records
  module _ (zs : List PartRec) (xs : List Elem) (ranked : AreRanked zs)
      (rising : rises (map (λ (x : Elem). rank x.task) xs) ≡ true) (same : IsPermutation (map elem_of zs) xs) where
    in-order : map bare (by_rank zs) ≡ map record_of_elem xs
    in-order =
        let bares : IsPermutation (map bare zs) (map record_of_elem xs) =
        subst (λ (ys : List PartRec). IsPermutation ys (map record_of_elem xs)) (sym (bare-ranked zs ranked))
        (IsPermutation-map record_of_elem (map elem_of zs) xs same) in
        let up : rises (ranks (map record_of_elem xs)) ≡ true = ap rises (ranks-back xs) ∙ rising in
        let apart : IsDistinct nat_eq (ranks (map bare zs)) =
        IsDistinct-IsPermutation nat_eq flips (ranks (map record_of_elem xs)) (ranks (map bare zs))
        (IsPermutation-map (λ (y : PartRec). y.rank) (map record_of_elem xs) (map bare zs)
        (IsPermutation-sym (map bare zs) (map record_of_elem xs) bares))
        (rising-distinct (ranks (map record_of_elem xs)) up) in
        let is : map record_of_elem xs ≡ by_rank (map bare zs) =
        in-order-is (map bare zs) (map record_of_elem xs) apart (record { same = bares; rising = up }) in
        sym (by_rank-bare zs) ∙ sym is

    pub by_rank-is : map elem_of (by_rank zs) ≡ xs
    by_rank-is =
        sym (bare-elems (by_rank zs)) ∙ (ap (λ (ys : List PartRec). map elem_of ys) in-order ∙ elems-back xs)

    pub ranks-are : ranks (by_rank zs) ≡ map rank_of_elem xs
    ranks-are = sym (bare-ranks (by_rank zs)) ∙ (ap ranks in-order ∙ ranks-back xs)
