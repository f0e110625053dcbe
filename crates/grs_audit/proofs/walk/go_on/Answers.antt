use Rattle.std.proofs.Common.{◌∙◌}
use Rattle.grs_track.specs.Tracks.{view_of}
use Rattle.grs_audit.specs.Lines.{lines_in}
use Rattle.grs_audit.proofs.WalkLaws.{goes-all, goes-some}
use Rattle.grs_audit.proofs.walk.go_on.Goals as goal

pub returns-in-All-clause-goes : goal.returns-in-All-clause-goes
returns-in-All-clause-goes c =
    goes-all c.args.names.now c.args.number (view_of c.args.tracks.now) c.args.entry.now (lines_in c.args.text.now)
    (view_of c.carry_out.new.self) c.as_slice.result.now c.in-All.rest
    (c.as_slice.ensures ∙ c.in_ok-wanted.ensures) c.in-All.ensures c.in_ok-carry_out-in-All.ensures.goes_on

pub returns-clause-goes : goal.returns-clause-goes
returns-clause-goes c =
    goes-some c.args.names.now c.args.number (view_of c.args.tracks.now) c.args.entry.now (lines_in c.args.text.now)
    (view_of c.args.tracks.now) c.as_slice.result.now c.in-Some.lines (c.as_slice.ensures ∙ c.in_ok-wanted.ensures)
    c.in-Some.ensures
