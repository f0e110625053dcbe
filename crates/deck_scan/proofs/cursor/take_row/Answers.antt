use Rattle.deck_scan.proofs.Rows.{passes_end}
use Rattle.deck_scan.proofs.cursor.take_row.Goals as goal

pub returns : goal.returns
returns c =
    passes_end c.args.from c.split_printable.result.0.now c.split_printable.result.1.now c.in-Some.rest
    c.in_ok-row-2.row c.split_printable.ensures c.in-Some.ensures.ends c.in_ok-row-2.ensures
