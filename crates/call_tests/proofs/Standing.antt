-- How a task stands in a list.
use Rattle.std.proofs.Common.{◌≡◌, List, length, arith}
use Rattle.std.proofs.lemmas.Bool.Decides.{nat_tests}
use Rattle.grs_base.specs.Lists.{place_of, standing_of}
use Rattle.grs_base.specs.declared.decision.Standing.TheVariants.{Absent}
use Rattle.grs_base.specs.declared.resource.Elem.{Elem}
use Rattle.grs_base.specs.declared.resource.TaskId.{TaskId}
use Rattle.grs_base.proofs.ListLaws.{place-le, owners-le}

-- a task that is absent has no place
pub absent_place : (es : List Elem) (t : TaskId) → standing_of es t ≡ Absent → place_of es t ≡ length es
absent_place es t h = grind (arith, nat_tests, h, place-le es t, owners-le es)
