-- Worked rows, computed from the definitions.
use Rattle.std.proofs.Common.{◌≡◌, ℕ, List, [], ◌∷◌, ◌++◌, Some, None, refl}
use Rattle.std.specs.Prelude.{codes}
use Rattle.std.specs.Fmt.{digits}
use Rattle.grs_base.specs.declared.resource.SysId.{SysId}
use Rattle.grs_base.specs.declared.resource.Res.TheVariants as kinds
use Rattle.grs_base.specs.declared.resource.Elem.{Elem}
use Rattle.grs_base.specs.declared.resource.Ctl.{Ctl}
use Rattle.grs_base.specs.declared.resource.Ctl.TheVariants.{E, S}
use Rattle.grs_base.specs.declared.look.Place.TheVariants as places
use Rattle.grs_base.specs.declared.look.Filter.TheVariants as filters
use Rattle.grs_wire.specs.declared.seen.Names.{Names}
use Rattle.grs_display.specs.Lines.{line}
use Rattle.grs_display.specs.Names.{name_at, name_in, task_in_job, task_word}
use Rattle.grs_display.specs.Rows.{names_word, res_word, elem_word, row_line, place_word, filter_word}

-- a line with its end
abbrev ended : List ℕ → List ℕ
ended text = text ++ 10 ∷ []

abbrev system : ℕ → SysId
system n = record { 0 = n }

-- an element of a task of the first job of a system
abbrev elem : ℕ → ℕ → Ctl → Elem
elem s t ctl = record { task = record { system = system s; job = 0; task = t }; ctl = ctl }

-- the names of three systems with a job of two tasks each
abbrev three : Names
three = record {
  systems = codes "SYA" ∷ codes "SYB" ∷ codes "SYC" ∷ [];
  jobs = (codes "J1" ∷ []) ∷ (codes "J1" ∷ []) ∷ (codes "J1" ∷ []) ∷ [];
  tasks = (codes "T1" ∷ codes "T2" ∷ []) ∷ (codes "T1" ∷ codes "T2" ∷ []) ∷ (codes "T1" ∷ codes "T2" ∷ []) ∷ [];
}

-- one owner before two waiters; two owners that share, and a waiter that shares behind one that doesn't; nobody
rows :
    (row_line three 81 (record {
      res = kinds.Systems (codes "P") (codes "Q");
      elems = elem 2 0 E ∷ elem 1 0 E ∷ elem 2 1 S ∷ [];
      owners = 1;
    }) ≡ ended (codes "Q SYSTEMS(P,Q) SYC.J1.T1:E* SYB.J1.T1:E SYC.J1.T2:S"))
    × (row_line three 82 (record {
      res = kinds.System (system 0) (codes "P") (codes "b c");
      elems = elem 0 0 S ∷ elem 1 1 S ∷ elem 2 0 E ∷ elem 0 1 S ∷ [];
      owners = 2;
    }) ≡ ended (codes "R SYSTEM(SYA,P,'b c') SYA.J1.T1:S* SYB.J1.T2:S* SYC.J1.T1:E SYA.J1.T2:S"))
    × (row_line three 82 (record { res = kinds.Systems (codes "P") (codes "Q"); elems = []; owners = 0 })
    ≡ ended (codes "R SYSTEMS(P,Q)"))
    × (res_word three (kinds.Step (system 0) 0 (codes "APPL") (codes "it's")) ≡ codes "STEP(SYA,J1,APPL,'it''s')")
unfolding digits line name_at name_in task_in_job task_word names_word res_word elem_word row_line
rows = (refl, refl, refl, refl)

-- a system, a job and a task without names, of which nothing is written
nameless :
    (res_word three (kinds.System (system 3) (codes "P") (codes "Q")) ≡ codes "SYSTEM(,P,Q)")
    × (row_line three 81 (record {
      res = kinds.Step (system 1) 1 (codes "P") (codes "Q");
      elems = elem 1 2 E ∷ elem 3 0 E ∷ [];
      owners = 1;
    }) ≡ ended (codes "Q STEP(SYB,,P,Q) SYB.J1.:E* ..:E"))
unfolding digits line name_at name_in task_in_job task_word names_word res_word elem_word row_line
nameless = (refl, refl)

-- where looks were taken, and for what
asked :
    (place_word (places.Slice 52) ≡ codes "52")
    × (place_word (places.Local (system 1)) ≡ codes "LOCAL")
    × (filter_word filters.All ≡ codes "ALL")
    × (filter_word filters.Contended ≡ codes "C")
    × (filter_word (filters.Named (Some (codes "A")) None) ≡ codes "(A)")
    × (filter_word (filters.Named None (Some (codes "B C"))) ≡ codes "(,'B C')")
    × (filter_word (filters.Named (Some (codes "A")) (Some (codes "B"))) ≡ codes "(A,B)")
unfolding digits place_word filter_word
asked = (refl, refl, refl, refl, refl, refl, refl)
