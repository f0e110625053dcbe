use Rattle.std.proofs.Common.{arith}
use Rattle.std.proofs.lemmas.Grind.{common_steps}
use Rattle.grs_analyze.proofs.NumberLemmas.{named-push}
use Rattle.grs_analyze.proofs.numbered.spots.Goals as goal

pub loop-elem-preserved : goal.loop-elem-preserved
loop-elem-preserved c = record {
  tasks = grind (arith, common_steps);
  elems = grind (arith, common_steps);
  named =
      named-push _ _ _ _ _ _ c.in_ok-number.ensures.tasks c.in_ok-number.ensures.number c.in_ok-push.ensures.ok
      c.loop-elem.invariant.named;
}
