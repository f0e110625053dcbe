use Rattle.std.proofs.Common.{◌≡◌, length, ap, sym, arith, ◌∙◌, subst}
use Rattle.grs_node.specs.Removal.{Standing, standing, IsOrderly}
use Rattle.grs_node.specs.Star.{StarPart}
use Rattle.grs_node.proofs.Orderly.{taken-orderly, taken-entries, taken-next}
use Rattle.grs_node.proofs.star.StarPart.take_up_all.Goals as goal

pub loop-entry-preserved : goal.loop-entry-preserved
loop-entry-preserved c =
    let before = standing c.loop-entry.tasks c.loop-entry.self in
    let step = c.in_ok-take_up_if.ensures.step in
    let inside : length c.self.inside.manager.entries ≡ length c.args.self.now.manager.entries =
    ap (λ (p : StarPart). length p.manager.entries) c.self.view_is in
    let part = ap (λ (x : Standing). x.part) step in
    record {
      step =
          step
          ∙ taken-next c.args.names.now (standing c.args.tasks.now c.args.self.now) before c.loop-entry.entry
          c.loop-entry.invariant.step;
      entries =
          ap (λ (x : Standing). length x.part.manager.entries) step
          ∙ (taken-entries c.args.names.now before c.loop-entry.entry ∙ c.loop-entry.invariant.entries);
      orderly =
          subst IsOrderly (sym part)
          (taken-orderly c.args.names.now before c.loop-entry.entry
          (omega
          (arith, c.loop-entry-test.true, c.entries-entry-end.ensures.count, inside, c.loop-entry.invariant.entries))
          c.loop-entry.invariant.orderly);
      system = c.in_ok-take_up_if.ensures.system ∙ c.loop-entry.invariant.system;
      count = c.in_ok-take_up_if.ensures.count ∙ c.loop-entry.invariant.count;
    }
