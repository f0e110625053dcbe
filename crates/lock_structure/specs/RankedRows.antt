-- Lists whose elements have ranks, as they are handed to who manages their lock entry from then on.
use Rattle.std.specs.Prelude.{◌≡◌, ℕ, Bool, true, not, ◌&&◌, ◌==◌, nat_lt, nat_le, List, [], ◌∷◌, ◌++◌, length}
use Rattle.std.specs.List.{list_any, list_all}
use Rattle.grs_base.specs.Limits.{last_number}
use Rattle.grs_base.specs.Same.{same_res}
use Rattle.grs_base.specs.Lists.{is_apart}
use Rattle.grs_base.specs.declared.resource.Row.{Row}
use Rattle.lock_structure.specs.Entries.{entry_of_res, is_entry}

-- a row with the ranks of its elements
abbrev pub RankedRow : Type 0
RankedRow = Row × List ℕ

-- the ranks of rows, row by row
abbrev pub ranks_of : List RankedRow → List ℕ
ranks_of [] = []
ranks_of (x ∷ xs) = x.1 ++ ranks_of xs

-- whether numbers rise
abbrev pub rises : List ℕ → Bool
rises [] = true
rises (n ∷ ns) = list_all (λ k. nat_lt n k) ns && rises ns

-- whether no number stands twice
abbrev pub differ : List ℕ → Bool
differ [] = true
differ (n ∷ ns) = not (list_any (λ k. n == k) ns) && differ ns

-- whether no resource has two rows
abbrev pub rows_apart : List RankedRow → Bool
rows_apart [] = true
rows_apart (x ∷ xs) = not (list_any (λ y. same_res x.0.res y.0.res) xs) && rows_apart xs

-- whether no task stands twice in a row
abbrev pub all_apart : List RankedRow → Bool
all_apart xs = list_all (λ x. is_apart x.0.elems) xs

-- Which rows a manager may keep of an entry, where there are so many entries.
pub record IsLoadable (entries e : ℕ) (xs : List RankedRow) : Type 0 where
  -- each row is of a resource of the entry, and each resource has one
  pub of_entry : list_all (λ x. is_entry e (entry_of_res entries x.0.res)) xs ≡ true
  pub once : rows_apart xs ≡ true
  -- no task stands twice in a row, and each element has a rank
  pub apart : all_apart xs ≡ true
  pub ranked : list_all (λ x. length x.1 == length x.0.elems) xs ≡ true
  -- ranks rise in each row, and no two are equal
  pub rising : list_all (λ x. rises x.1) xs ≡ true
  pub distinct : differ (ranks_of xs) ≡ true
  pub small : list_all (λ n. nat_le n last_number) (ranks_of xs) ≡ true
