use Rattle.grs_world.proofs.code.Calls.{act-fits}
use Rattle.grs_world.proofs.chosen.called.Goals as goal

pub reserve-requires : goal.reserve-requires
reserve-requires c = (
  c.requires.caller,
  act-fits c.args.medium.now.state c.args.system c.args.node.now.deck c.args.call.act c.requires.addressed
      c.requires.systems c.requires.words,
)

pub apply-reply-requires-clause-call : goal.apply-reply-requires-clause-call
apply-reply-requires-clause-call c =
    rw c.reserve.ensures.state (
      c.requires.caller,
      act-fits c.args.medium.now.state c.args.system c.args.node.now.deck c.args.call.act c.requires.addressed
          c.requires.systems c.requires.words,
    )
