-- A worked entry that is made of gathered records.
use Rattle.std.proofs.Common.{◌≡◌, ℕ, Bool, true, false, List, [], ◌∷◌, Some, refl, codes}
use Rattle.grs_base.specs.State.{list_of}
use Rattle.grs_base.specs.declared.resource.Ctl.{Ctl}
use Rattle.grs_base.specs.declared.resource.Ctl.TheVariants.{E, S}
use Rattle.grs_base.specs.declared.resource.Elem.{Elem}
use Rattle.grs_base.specs.declared.resource.Res.{Res}
use Rattle.grs_base.specs.declared.resource.Res.TheVariants.{Systems}
use Rattle.grs_wire.specs.declared.gather.PartRec.{PartRec}
use Rattle.contention_mgr.specs.Installs.{installed, IsInstallable}
use Rattle.contention_mgr.specs.Manager.{Ranked, plain, no_elements, first_untold}

abbrev pq : Res
pq = Systems (codes "P") (codes "Q")

abbrev elem : ℕ → ℕ → Ctl → Elem
elem s n c = record { task = record { system = record { 0 = s }; job = 0; task = n }; ctl = c }

-- a system's record of the element of its task n, and such an element as it is kept
abbrev rec : ℕ → ℕ → Ctl → ℕ → Bool → PartRec
rec s n c rank told = record { res = pq; task = (elem s n c).task; ctl = c; rank = rank; told = told }

abbrev kept : ℕ → ℕ → Ctl → ℕ → Bool → Ranked
kept s n c rank untold = record { res = pq; elem = elem s n c; rank = rank; untold = untold }

-- The first of three systems managed an entry and is removed; it owned. The third system's task waited at rank 2 and
-- the second system's at rank 3, both exclusive. The second system takes the entry up: the third system's task owns,
-- and is still to be told.
of_two :
    (installed 1 (rec 2 0 E 2 false ∷ rec 1 0 E 3 false ∷ [])
    ≡ record { next = 4; items = kept 2 0 E 2 true ∷ kept 1 0 E 3 false ∷ [] })
    -- the third system had told it: nobody is still to be told
    × (installed 1 (rec 2 0 E 2 true ∷ rec 1 0 E 3 false ∷ [])
    ≡ record { next = 4; items = kept 2 0 E 2 false ∷ kept 1 0 E 3 false ∷ [] })
    -- both share: the task of the manager's own system is told by that system
    × (installed 1 (rec 2 0 S 2 false ∷ rec 1 0 S 3 false ∷ [])
    ≡ record { next = 4; items = kept 2 0 S 2 true ∷ kept 1 0 S 3 false ∷ [] })
    -- nothing is on record
    × (installed 1 [] ≡ no_elements)
of_two = (refl, refl, refl, refl)

-- three share, of whom one waits behind an exclusive one
shared :
    (installed 0 (rec 1 0 S 2 true ∷ rec 2 0 S 5 false ∷ rec 1 1 E 7 false ∷ rec 2 1 S 8 false ∷ [])
    ≡ record {
      next = 9;
      items = kept 1 0 S 2 false ∷ kept 2 0 S 5 true ∷ kept 1 1 E 7 false ∷ kept 2 1 S 8 false ∷ [];
    })
    × (list_of (plain (installed 0 (rec 1 0 S 2 true ∷ rec 2 0 S 5 false ∷ [])).items) pq
    ≡ elem 1 0 S ∷ elem 2 0 S ∷ [])
shared = (refl, refl)

installable : IsInstallable 1 0 (rec 2 0 E 2 false ∷ rec 1 0 E 3 false ∷ [])
installable = record { of_entry = refl; apart = refl; rising = refl; small = refl }

-- not in the order of ranks, a rank twice, a task twice on a resource, and another entry
refuses_order : IsInstallable 1 0 (rec 1 0 E 3 false ∷ rec 2 0 E 2 false ∷ []) → ⊥
refuses_order h = let never : false ≡ true = h.rising in cc

refuses_rank : IsInstallable 1 0 (rec 1 0 E 3 false ∷ rec 2 0 E 3 false ∷ []) → ⊥
refuses_rank h = let never : false ≡ true = h.rising in cc

refuses_task : IsInstallable 1 0 (rec 1 0 E 3 false ∷ rec 1 0 S 4 false ∷ []) → ⊥
refuses_task h = let never : false ≡ true = h.apart in cc

refuses_entry : IsInstallable 1 1 (rec 1 0 E 3 false ∷ []) → ⊥
refuses_entry h = let never : false ≡ true = h.of_entry in cc
