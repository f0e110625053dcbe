use Rattle.std.proofs.Common.{ap, ◌∙◌, rules, arith}
use Rattle.deck_scan.specs.declared.row.ScannedLine.{ScannedLine}
use Rattle.deck_scan.proofs.Rows.{along_none, along_piece, takes_less, printable_rest, row_done, open_here}
use Rattle.deck_scan.proofs.Rows.{comment_here}
use Rattle.deck_scan.proofs.row.read_apart.Goals as goal

pub loop-b-init : goal.loop-b-init
loop-b-init c = record {
  along = λ more. along_none c.args.at c.args.text.now c.in_ok-row.row more c.in_ok-row.ensures;
  printable = c.requires;
  apart = ap (λ (r : ScannedLine). r.begun) c.in_ok-row.ensures;
}

pub returns-in-None : goal.returns-in-None
returns-in-None c =
    open_here c.loop-b.row c.loop-b.rest.now c.loop-b.invariant.printable c.in-47.len_at_least (search rules)
    (search rules) c.args.at c.args.text.now c.requires c.in-None.ensures.begun c.loop-b.invariant.along

pub loop-b-preserved-in-42-1 : goal.loop-b-preserved-in-42-1
loop-b-preserved-in-42-1 c =
    let rest = c.loop-b.rest.now in
    let k =
    comment_here c.loop-b.row rest c.loop-b.invariant.printable (search (rules, arith)) (search rules) (search rules)
    c.in-Some-behind_comment.behind.now c.in-Some-behind_comment.ensures.closed in
    record {
      along = λ more.
          along_piece c.args.at c.args.text.now c.loop-b.row rest c.in-Some-behind_comment.behind.now _ more k
          (c.loop-b.invariant.along more);
      printable = printable_rest rest c.loop-b.row c.in-Some-behind_comment.behind.now _ k c.loop-b.invariant.printable;
      apart = c.loop-b.invariant.apart;
    }

pub loop-b-preserved : goal.loop-b-preserved
loop-b-preserved c = record {
  along = λ more.
      along_piece c.args.at c.args.text.now c.loop-b.row c.loop-b.rest.now c.in_ok-rest.rest.now c.take_piece.new.self
      more c.in_ok-rest.ensures (c.loop-b.invariant.along more);
  printable =
      printable_rest c.loop-b.rest.now c.loop-b.row c.in_ok-rest.rest.now c.take_piece.new.self c.in_ok-rest.ensures
      c.loop-b.invariant.printable;
  apart = c.in_ok-rest.ensures.begun ∙ c.loop-b.invariant.apart;
}

pub loop-b-smaller : goal.loop-b-smaller
loop-b-smaller c =
    takes_less c.loop-b.rest.now c.loop-b.row c.in_ok-rest.rest.now c.take_piece.new.self c.in_ok-rest.ensures

pub returns : goal.returns
returns c =
    row_done c.args.at c.args.text.now c.loop-b.row c.loop-b.rest.now (search (rules, c.in_default.ensures.cases))
    c.requires c.loop-b.invariant.apart c.loop-b.invariant.along
