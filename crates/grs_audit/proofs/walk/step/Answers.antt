use Rattle.std.proofs.Common.{sym, ◌∙◌}
use Rattle.grs_track.specs.Tracks.{view_of}
use Rattle.grs_audit.proofs.WalkLaws.{steps-on, steps-none}
use Rattle.grs_audit.proofs.walk.step.Goals as goal

pub returns-in-Some-clause-steps : goal.returns-in-Some-clause-steps
returns-in-Some-clause-steps c =
    steps-on c.args.names.now c.args.number (view_of c.args.tracks.now) c.args.text.now c.cut.result.0.now
    (view_of c.go_on.new.tracks) c.in-Some.entry c.go_on.result c.cut.ensures.front
    (sym c.in-Some.is ∙ c.in_ok-entry.ensures) c.go_on.ensures.goes

pub returns-in-None-clause-steps : goal.returns-in-None-clause-steps
returns-in-None-clause-steps c =
    steps-none c.args.names.now c.args.number (view_of c.args.tracks.now) c.args.text.now c.cut.result.0.now
    (view_of c.args.tracks.now) c.cut.ensures.front (sym c.in-None.is ∙ c.in_ok-entry.ensures)
