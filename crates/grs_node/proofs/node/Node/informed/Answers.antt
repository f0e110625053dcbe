use Rattle.std.proofs.Common.{◌≡◌, true, ap, sym, ◌∙◌, subst}
use Rattle.grs_legal.specs.Asks.{scripts_of}
use Rattle.grs_node.proofs.Fits.{stale-fits-after}
use Rattle.grs_node.specs.Finish.{may_come}
use Rattle.grs_node.specs.Log.{NodeView}
use Rattle.grs_node.specs.Names.{names_of}
use Rattle.grs_node.specs.Node.{prepare}
use Rattle.grs_wire.specs.declared.medium.Reply.TheVariants as replies
use Rattle.grs_node.proofs.node.Node.informed.Goals as goal

pub invariant_of-self : goal.invariant_of-self
invariant_of-self c =
    let comes =
    subst (λ (v : NodeView). may_come (prepare v.deck v.node c.args.choice) (replies.Stale c.args.set) ≡ true)
    (sym c.self.view_is)
    c.requires.come in (
      c.self.invariant.0,
      c.self.invariant.1 ∙ ap (scripts_of c.self.inside.deck.now) (sym c.informed.ensures.system),
      c.self.invariant.2 ∙ ap (names_of c.self.inside.deck.now) (sym c.informed.ensures.system),
      stale-fits-after c.self.inside.deck.now c.self.inside.state c.informed.new.self c.args.choice c.args.set
          c.self.invariant.3 comes c.informed.ensures.system c.informed.ensures.step,
      c.self.invariant.4,
      c.self.invariant.5,
      tt,
    )
