use Rattle.grs_world.proofs.Common.{◌≡◌, cond, length, most_additions, refl, Some, take, Turn, unseen}
use Rattle.grs_wire.specs.declared.medium.Reply.TheVariants.{Turned}
use Rattle.grs_world.proofs.code.Logged.{shown-node, shown-done, shown-some}
use Rattle.grs_world.proofs.code.Turns.{chosen-given}
use Rattle.grs_world.proofs.chosen.turned.Goals as goal

pub take_done-requires : goal.take_done-requires
take_done-requires c =
    shown-some c.args.node.now c.finish_turn.new.self Turn
    (Some (Turned (unseen c.args.system c.entries.result.now) c.taken_of-taken.result c.is_closed-closed.result))
    c.in_ok-finish_turn.ensures.step

pub returns-clause-ends : goal.returns-clause-ends
returns-clause-ends c =
    let reply : Turned (unseen c.args.system c.entries.result.now) c.taken_of-taken.result c.is_closed-closed.result
    ≡ Turned (unseen c.args.system c.args.medium.now.state.message.entries)
    (cond c.args.medium.now.state.message.closed 0 (length (take most_additions c.args.node.now.node.outbox)))
    c.args.medium.now.state.message.closed =
    rw (
      c.entries.ensures,
      c.taken_of-taken.ensures,
      c.is_closed-closed.ensures,
      c.in_ok-reserve_places.ensures.state,
      c.len-count.ensures,
      c.in_ok-out.ensures.first,
    )
    refl in
    rw (
      c.take_done.ensures.node,
      c.take_done.ensures.done,
      chosen-given c.args.node.now.deck c.args.medium.now.state c.args.system c.args.node.now.node c.args.known
          c.requires.prepared c.requires.given,
      ← reply,
    ) (
      shown-node c.args.node.now c.finish_turn.new.self Turn
          (Some (Turned (unseen c.args.system c.entries.result.now) c.taken_of-taken.result c.is_closed-closed.result))
          c.in_ok-finish_turn.ensures.step,
      shown-done c.args.node.now c.finish_turn.new.self Turn
          (Some (Turned (unseen c.args.system c.entries.result.now) c.taken_of-taken.result c.is_closed-closed.result))
          c.in_ok-finish_turn.ensures.step,
    )
