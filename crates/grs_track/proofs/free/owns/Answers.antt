use Rattle.std.proofs.Common.{ap, sym, ◌∙◌}
use Rattle.grs_base.specs.State.{list_of}
use Rattle.grs_track.specs.Walk.{is_granted}
use Rattle.grs_track.proofs.NextLaws.{granted-standing}
use Rattle.grs_track.proofs.free.owns.Goals as goal

pub returns : goal.returns
returns c =
    c.is_granted.ensures
    ∙ ap is_granted c.decide_deq.ensures
    ∙ sym (granted-standing (list_of c.args.table.now.elements c.args.res.now) c.args.task)
