use Rattle.std.proofs.Common.{suc, cond}
use Rattle.grs_legal.specs.Legal as legal
use Rattle.grs_track.proofs.CursorLaws.{past-behind}
use Rattle.grs_track.proofs.kept.cursor_behind.Goals as goal

pub returns : goal.returns
returns c = λ asked p.
    c.onward.ensures (cond (legal.is_of_line c.args.entry.now) (suc asked) asked)
    (past-behind (legal.is_of_line c.args.entry.now) c.args.lines.now asked c.args.before.place c.args.before.part
    c.in_ok-part.part p c.in_ok-part.ensures)
