use Rattle.std.proofs.Common.{sym, ◌∙◌}
use Rattle.deck_scan.proofs.Pieces.{takes_mark}
use Rattle.deck_scan.proofs.row.ScannedLine.take_piece.Goals as goal

pub returns-then-is_single : goal.returns-then-is_single
returns-then-is_single c =
    takes_mark c.args.text.now c.args.self.now c.args.b c.args.tail.now c.take_mark.new.self c.requires.front
    (sym c.is_single.ensures ∙ c.if-is_single.true) c.requires.comment c.in_ok-take_mark.ensures
