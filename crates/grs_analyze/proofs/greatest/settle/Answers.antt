use Rattle.std.proofs.Common.{◌∙◌, ◌-◌, ap, arith}
use Rattle.grs_analyze.specs.Greatest.{left_after}
use Rattle.grs_analyze.specs.Numbered.{flagged}
use Rattle.grs_analyze.proofs.PassLemmas.{left-step, left-stop}
use Rattle.grs_analyze.proofs.greatest.settle.Goals as goal

pub loop-pass-preserved : goal.loop-pass-preserved
loop-pass-preserved c = record {
  long = c.pass.ensures.long ∙ c.loop-pass.invariant.long;
  left =
      left-step c.args._rows.now c.len-count.result c.loop-pass._pass
      (flagged c.args.numbered.now.tasks c.loop-pass.members) (flagged c.args.numbered.now.tasks c.pass.new.members) _
      c.loop-pass-test.true c.in_ok-pass.ensures.left c.loop-pass.invariant.left;
}

pub returns-then-not-branch-clause-left : goal.returns-then-not-branch-clause-left
returns-then-not-branch-clause-left c =
    left-stop c.args._rows.now (c.len-count.result - c.loop-pass._pass)
    (flagged c.args.numbered.now.tasks c.loop-pass.members)
    (flagged c.args.numbered.now.tasks c.pass.new.members) _ c.in_ok-pass.ensures.left
    (ap (flagged c.args.numbered.now.tasks) (c.in_ok-pass.ensures.same (grind (arith, c.if-not-branch.true))))
    (c.loop-pass.invariant.left
    ∙ ap (λ n. left_after c.args._rows.now n (flagged c.args.numbered.now.tasks c.args.members.now))
    c.len-count.ensures)
