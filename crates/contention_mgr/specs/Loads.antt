-- What an entry keeps of the ranked lists with which it is loaded.
use Rattle.std.specs.Prelude.{ℕ, ◌+◌, Bool, true, false, ◌&&◌, max, List, [], ◌∷◌, ◌++◌}
use Rattle.std.specs.List.{list_all}
use Rattle.grs_base.specs.State.{State, list_of}
use Rattle.grs_base.specs.declared.resource.Elem.{Elem}
use Rattle.grs_base.specs.declared.resource.Res.{Res}
use Rattle.contention_mgr.specs.Manager.{Ranked, Managed}
use Rattle.lock_structure.specs.RankedRows.{RankedRow, ranks_of, rows_apart}

-- elements of one resource with their ranks; all who own count as told
abbrev pub ranked_list : Res → List Elem → List ℕ → List Ranked
ranked_list r [] ns = []
ranked_list r (e ∷ es) [] = []
ranked_list r (e ∷ es) (n ∷ ns) = record { res = r; elem = e; rank = n; untold = false } ∷ ranked_list r es ns

-- the elements of the rows, row by row
abbrev pub ranked_rows : List RankedRow → List Ranked
ranked_rows [] = []
ranked_rows (x ∷ xs) = ranked_list x.0.res x.0.elems x.1 ++ ranked_rows xs

-- the greatest rank, 0 where there is none
abbrev pub greatest : ℕ → List ℕ → ℕ
greatest k [] = k
greatest k (n ∷ ns) = greatest (max k n) ns

-- the entry that keeps these rows: the next rank is the greatest plus one
abbrev pub loaded : List RankedRow → Managed
loaded xs = record { next = greatest 0 (ranks_of xs) + 1; items = ranked_rows xs }

-- ---- where rows are added

-- whether nothing stands yet in the lists of rows, and no two of them are of one resource
abbrev pub no_elems : List Elem → Bool
no_elems [] = true
no_elems (e ∷ es) = false

abbrev pub rows_free : State → List RankedRow → Bool
rows_free s xs = list_all (λ x. no_elems (list_of s x.0.res)) xs && rows_apart xs
