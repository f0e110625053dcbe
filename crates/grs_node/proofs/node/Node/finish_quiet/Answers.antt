use Rattle.std.proofs.Common.{◌≡◌, ap, sym, ◌∙◌, subst}
use Rattle.grs_legal.specs.Asks.{scripts_of}
use Rattle.grs_node.proofs.Fits.{quiet-fits-after}
use Rattle.grs_node.specs.Log.{NodeView}
use Rattle.grs_node.specs.Names.{names_of}
use Rattle.grs_node.specs.Node.{prepare}
use Rattle.grs_node.specs.declared.prepared.Prepared.TheVariants.{Quiet}
use Rattle.grs_node.proofs.node.Node.finish_quiet.Goals as goal

pub invariant_of-self : goal.invariant_of-self
invariant_of-self c =
    let asked =
    subst (λ (v : NodeView). prepare v.deck v.node c.args.choice ≡ Quiet) (sym c.self.view_is) c.requires in (
      c.self.invariant.0,
      c.self.invariant.1 ∙ ap (scripts_of c.self.inside.deck.now) (sym c.finish_quiet.ensures.system),
      c.self.invariant.2 ∙ ap (names_of c.self.inside.deck.now) (sym c.finish_quiet.ensures.system),
      quiet-fits-after c.self.inside.deck.now c.self.inside.state c.finish_quiet.new.self c.args.choice c.in-Ok.fixed
          c.self.invariant.3 asked c.in-Ok.ensures.system c.in-Ok.ensures.step,
      c.self.invariant.4,
      c.self.invariant.5,
      tt,
    )
