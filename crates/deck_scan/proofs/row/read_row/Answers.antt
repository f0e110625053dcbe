use Rattle.deck_scan.proofs.Rows.{row_goes_behind, row_stays_inside}
use Rattle.deck_scan.proofs.row.read_row.Goals as goal

pub returns-in-Some : goal.returns-in-Some
returns-in-Some c =
    row_goes_behind c.args.at c.args.begun c.args.text.now c.in-Some.behind.now c.read_apart-in-Some.result
    c.if-is_none.ensures c.requires c.in-Some.ensures.closed c.read_apart-in-Some.ensures

pub returns-in-None : goal.returns-in-None
returns-in-None c =
    row_stays_inside c.args.at c.args.begun c.args.text.now c.new.result c.if-is_none.ensures c.requires
    c.in-None.ensures.begun c.new.ensures
