use Rattle.std.proofs.Common.{ap, sym, ◌∙◌}
use Rattle.grs_base.specs.State.{list_of}
use Rattle.grs_track.specs.Walk.{is_no_wait}
use Rattle.grs_track.proofs.WalkLaws.{no_wait-standing}
use Rattle.grs_track.proofs.walk.passes_wait.Goals as goal

pub returns : goal.returns
returns c =
    c.is_no_wait.ensures
    ∙ ap is_no_wait c.decide_deq.ensures
    ∙ sym (no_wait-standing (list_of c.args.table.now.elements c.args.res.now) c.args.task)
