-- Whether two lists are the same.
use Rattle.std.specs.Prelude.{Bool, true, false, ◌&&◌, List, [], ◌∷◌}
use Rattle.grs_base.specs.Same.{same_task}
use Rattle.grs_base.specs.declared.resource.Elem.{Elem}
use Rattle.grs_base.specs.declared.resource.Ctl.{Ctl}
use Rattle.grs_base.specs.declared.resource.Ctl.TheVariants.{E, S}

abbrev pub same_ctl : Ctl → Ctl → Bool
same_ctl E E = true
same_ctl E S = false
same_ctl S E = false
same_ctl S S = true

-- task by task, each with the same control
abbrev pub same_elems : List Elem → List Elem → Bool
same_elems [] [] = true
same_elems [] (f ∷ fs) = false
same_elems (e ∷ es) [] = false
same_elems (e ∷ es) (f ∷ fs) = (same_task e.task f.task && same_ctl e.ctl f.ctl) && same_elems es fs
