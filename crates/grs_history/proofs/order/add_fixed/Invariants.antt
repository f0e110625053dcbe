use Rattle.std.proofs.Common.{◌≡◌, ◌++◌, drop, map}
use Rattle.grs_wire.specs.History.{answered_from}
use Rattle.grs_history.specs.Merging.{after_all_fixed}
use Rattle.grs_history.proofs.order.add_fixed.Given as goal

abbrev pub invariant-loop-one : goal.invariant-loop-one
invariant-loop-one l =
    record {
      entries : l.hist ++ answered_from l.table.elements (map (λ f. (l.system, f)) (drop l.one-index l.fixed))
          ≡ l.fn.hist ++ answered_from l.fn.table.elements (map (λ f. (l.system, f)) l.fixed);
      after : after_all_fixed l.table.elements (drop l.one-index l.fixed) ≡ after_all_fixed l.fn.table.elements l.fixed;
    }
