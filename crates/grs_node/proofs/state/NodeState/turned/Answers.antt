use Rattle.std.proofs.Common.{ap, ◌∙◌}
use Rattle.grs_node.specs.Node.{NodeState, put_in}
use Rattle.grs_node.proofs.Tables.{apart-turned}
use Rattle.grs_node.proofs.state.NodeState.turned.Goals as goal

pub change_if-requires-clause-apart : goal.change_if-requires-clause-apart
change_if-requires-clause-apart c =
    apart-turned c.args.deck.now c.args.self.now c.put_in.new.self c.args.entries.now c.args.taken c.in_ok-fixed.fixed
    c.requires.apart
    (c.in_ok-fixed.ensures.step ∙ ap (λ (n : NodeState). put_in n c.args.taken) c.in_ok-read_entries.ensures.step)
