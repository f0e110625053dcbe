use Rattle.grs_world.proofs.Common.{refl}
use Rattle.std.proofs.Common.{rules}
use Rattle.grs_medium.specs.TurnReplies.{refusal_reply}
use Rattle.grs_world.proofs.code.Turns.{chosen-refused, refused-ends}
use Rattle.grs_world.proofs.chosen.refused_turn.Goals as goal

pub replied-requires : goal.replied-requires
replied-requires c =
    rw c.into_reply.ensures (
      refused-ends c.args.node.now.deck c.args.medium.now.state c.args.system c.args.node.now.node c.args.known
          c.requires.prepared (refusal_reply c.args.refusal) c.requires.refused,
      refl,
    )

pub returns-clause-medium : goal.returns-clause-medium
returns-clause-medium c =
    rw (chosen-refused c.args.node.now.deck c.args.medium.now.state c.args.system c.args.node.now.node c.args.known
    c.requires.prepared (refusal_reply c.args.refusal) c.requires.refused)
    (search rules)

pub returns-clause-ends : goal.returns-clause-ends
returns-clause-ends c =
    rw (
      chosen-refused c.args.node.now.deck c.args.medium.now.state c.args.system c.args.node.now.node c.args.known
          c.requires.prepared (refusal_reply c.args.refusal) c.requires.refused,
      ← c.into_reply.ensures,
    )
    c.replied.ensures.ends
