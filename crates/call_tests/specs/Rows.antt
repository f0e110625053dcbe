-- The rows with which a manager is loaded in a test: two shared owners in front of an exclusive task, and one.
use Rattle.std.specs.Prelude.{ℕ, List, [], ◌∷◌}
use Rattle.grs_base.specs.declared.resource.Ctl.{Ctl}
use Rattle.grs_base.specs.declared.resource.Ctl.TheVariants.{E, S}
use Rattle.grs_base.specs.declared.resource.Elem.{Elem}
use Rattle.grs_base.specs.declared.resource.Res.TheVariants.{Systems}
use Rattle.lock_structure.specs.RankedRows.{RankedRow}

-- an element of the first task of a system
abbrev pub elem_of : ℕ → Ctl → Elem
elem_of system ctl = record { task = record { system = record { 0 = system }; job = 0; task = 0 }; ctl = ctl }

-- ranks rise along each row, and the greatest is 9
abbrev pub two_rows : List RankedRow
two_rows = (
  record { res = Systems (80 ∷ []) (81 ∷ []); elems = elem_of 0 S ∷ elem_of 1 S ∷ elem_of 2 E ∷ []; owners = 2 },
  2 ∷ 5 ∷ 9 ∷ [],
)
    ∷ (record { res = Systems (80 ∷ []) (82 ∷ []); elems = elem_of 1 S ∷ elem_of 2 E ∷ []; owners = 1 }, 3 ∷ 4 ∷ [])
    ∷ []
