use Rattle.std.proofs.Common.{refl}
use Rattle.task_state.specs.View.{telling}
use Rattle.grs_node.proofs.state.NodeState.desk_told_within.Goals as goal

pub returns-clause-told : goal.returns-clause-told
unfolding telling
returns-clause-told c =
    rw (
      c.tell_within.ensures,
      c.from_vec.ensures,
      c.push_reserved.ensures.items,
      c.requires.no_told,
      ← c.self.view_is,
    ) refl
