use Rattle.std.proofs.Common.{ap, sym, ◌∙◌}
use Rattle.grs_legal.specs.Asks.{scripts_of}
use Rattle.grs_wire.specs.Unseen.{unseen}
use Rattle.grs_node.proofs.Fits.{entries-there, turned-fits-after}
use Rattle.grs_node.specs.Names.{names_of}
use Rattle.grs_node.proofs.node.Node.turned.Goals as goal

pub invariant_of-self : goal.invariant_of-self
invariant_of-self c = (
  c.self.invariant.0,
  c.self.invariant.1 ∙ ap (scripts_of c.self.inside.deck.now) (sym c.turned_among.ensures.system),
  c.self.invariant.2 ∙ ap (names_of c.self.inside.deck.now) (sym c.turned_among.ensures.system),
  turned-fits-after c.self.inside.deck.now c.self.inside.state c.turned_among.new.self
      (unseen c.args.system c.args.entries.now) c.args.taken c.args.closed c.in-Ok.fixed c.self.invariant.3
      c.in-Ok.ensures.system c.in-Ok.ensures.step,
  c.self.invariant.4,
  c.self.invariant.5,
  tt,
)

pub turned_among-requires-clause-entries : goal.turned_among-requires-clause-entries
turned_among-requires-clause-entries c = entries-there c.self.inside.deck.now c.self.inside.state c.self.invariant.3

pub turned_among-requires-clause-apart : goal.turned_among-requires-clause-apart
turned_among-requires-clause-apart c = c.self.invariant.3.apart
