use Rattle.std.proofs.Common.{Option, ap, sym, ◌∙◌, subst}
use Rattle.grs_legal.specs.Asks.{scripts_of}
use Rattle.grs_node.proofs.StartFits.{started-fits}
use Rattle.grs_node.specs.Names.{names_from, names_of}
use Rattle.grs_node.specs.Node.{NodeState, first_node}
use Rattle.grs_node.specs.Room.{IsReady}
use Rattle.grs_node.specs.declared.ready.ToldNext.{ToldNext}
use Rattle.grs_node.proofs.node.Node.new.Goals as goal

pub invariant_of-result : goal.invariant_of-result
unfolding first_node
invariant_of-result c =
    let own = ap (λ (n : NodeState). n.tasks.system) c.in_ok-state.ensures in (
      c.in_ok-resolver.ensures,
      c.in_ok-scripts.ensures ∙ ap (scripts_of c.args.deck.now) (sym own),
      c.in_ok-names.ensures
          ∙ (ap (names_from c.args.system.0 0) (c.as_slice.ensures ∙ c.in_ok-scripts.ensures)
          ∙ ap (names_of c.args.deck.now) (sym own)),
      started-fits c.args.deck.now c.in_ok-state.state c.args.system.0 c.requires.deck c.requires.system own
          (ap (λ (n : NodeState). n.shared) c.in_ok-state.ensures)
          (ap (λ (n : NodeState). n.star) c.in_ok-state.ensures),
      c.new-2.ensures.lines,
      c.new-2.ensures.told,
      subst (λ (o : Option ToldNext). IsReady c.in_ok-state.state.star o) (sym c.new-2.ensures.next) tt,
    )
