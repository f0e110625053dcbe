use Rattle.std.proofs.Common.{◌≡◌, ◌||◌, drop}
use Rattle.grs_base.specs.declared.resource.Ctl.TheVariants.{E, S}
use Rattle.grs_analyze.specs.Depends.{blocks}
use Rattle.grs_analyze.specs.Numbered.{elems_of, is_flagged}
use Rattle.grs_analyze.proofs.front.front_of.Given as goal

abbrev pub invariant-loop-spot : goal.invariant-loop-spot
invariant-loop-spot l = record {
  any :
      (l.front.any || blocks (is_flagged l.tasks l.members) E (elems_of (drop l.spot-index l.spots)))
      ≡ blocks (is_flagged l.tasks l.members) E (elems_of l.spots);
  exclusive :
      (l.front.exclusive || blocks (is_flagged l.tasks l.members) S (elems_of (drop l.spot-index l.spots)))
      ≡ blocks (is_flagged l.tasks l.members) S (elems_of l.spots);
}
