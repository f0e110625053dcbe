-- A worked manager that loses a system.
use Rattle.std.proofs.Common.{◌≡◌, ℕ, Bool, true, false, List, [], ◌∷◌, Some, None, refl, codes}
use Rattle.grs_base.specs.declared.resource.Ctl.{Ctl}
use Rattle.grs_base.specs.declared.resource.Ctl.TheVariants.{E, S}
use Rattle.grs_base.specs.declared.resource.Res.{Res}
use Rattle.grs_base.specs.declared.resource.Res.TheVariants.{Systems}
use Rattle.grs_base.specs.declared.resource.TaskId.{TaskId}
use Rattle.contention_mgr.specs.Loses.{lost, gained, after_losing}
use Rattle.contention_mgr.specs.Manager.{Ranked, Managed, ManagerView}

abbrev a : Res
a = Systems (codes "P") (codes "A")

abbrev b : Res
b = Systems (codes "P") (codes "B")

abbrev task : ℕ → ℕ → TaskId
task s n = record { system = record { 0 = s }; job = 0; task = n }

abbrev kept : Res → ℕ → ℕ → Ctl → ℕ → Bool → Ranked
kept r s n c rank untold = record { res = r; elem = record { task = task s n; ctl = c }; rank = rank; untold = untold }

-- The first system owns a resource, and two others wait to share it. It is removed: both own. The manager, the second
-- system, tells its own task; the third system's is still to be told.
abbrev waiting : Managed
waiting = record { next = 4; items = kept b 0 0 E 1 false ∷ kept b 2 0 S 2 false ∷ kept b 1 0 S 3 false ∷ [] }

abbrev left : Managed
left = record { next = 4; items = kept b 2 0 S 2 true ∷ kept b 1 0 S 3 false ∷ [] }

one_entry :
    (lost 1 0 waiting ≡ left)
    -- a waiter is removed: who owned owns, and nobody gets control
    × (lost 1 2 waiting ≡ record { next = 4; items = kept b 0 0 E 1 false ∷ kept b 1 0 S 3 false ∷ [] })
    -- who is still to be told stays so
    × (lost 1 0 left ≡ left)
one_entry = (refl, refl, refl)

-- Two entries: of the other one the first system owned a resource that is shown before. The tasks of the manager's
-- system are told of that one first.
abbrev two : ManagerView
two = record {
  system = record { 0 = 1 };
  entries =
      Some waiting ∷ None
      ∷ Some (record { next = 9; items = kept a 0 1 E 5 false ∷ kept a 1 1 E 8 false ∷ kept a 2 1 E 6 false ∷ [] })
      ∷ [];
}

two_entries :
    (gained two (record { 0 = 0 }) ≡ (task 1 1, a) ∷ (task 1 0, b) ∷ [])
    × (after_losing two (record { 0 = 0 })
    ≡ record {
      system = record { 0 = 1 };
      entries =
          Some left ∷ None ∷ Some (record { next = 9; items = kept a 1 1 E 8 false ∷ kept a 2 1 E 6 false ∷ [] })
          ∷ [];
    })
    × (gained two (record { 0 = 2 }) ≡ [])
two_entries = (refl, refl, refl)

-- One entry, two resources, and on each five tasks: the first system's owns, and two of other systems and two of the
-- manager's own wait to share. All four own both behind its removal: the two others are still to be told, and the own
-- ones are told resource by resource.
abbrev many : Managed
many = record {
  next = 11;
  items =
      kept b 0 0 E 1 false ∷ kept b 2 0 S 2 false ∷ kept b 3 0 S 3 false ∷ kept b 1 0 S 4 false ∷ kept b 1 1 S 5 false
      ∷ kept a 0 0 E 6 false ∷ kept a 2 0 S 7 false ∷ kept a 3 0 S 8 false ∷ kept a 1 0 S 9 false
      ∷ kept a 1 1 S 10 false ∷ [];
}

abbrev all_own : Managed
all_own = record {
  next = 11;
  items =
      kept b 2 0 S 2 true ∷ kept b 3 0 S 3 true ∷ kept b 1 0 S 4 false ∷ kept b 1 1 S 5 false ∷ kept a 2 0 S 7 true
      ∷ kept a 3 0 S 8 true ∷ kept a 1 0 S 9 false ∷ kept a 1 1 S 10 false ∷ [];
}

abbrev one : ManagerView
one = record { system = record { 0 = 1 }; entries = Some many ∷ [] }

many_on_two :
    (lost 1 0 many ≡ all_own)
    × (gained one (record { 0 = 0 }) ≡ (task 1 0, a) ∷ (task 1 1, a) ∷ (task 1 0, b) ∷ (task 1 1, b) ∷ [])
many_on_two = (refl, refl)
