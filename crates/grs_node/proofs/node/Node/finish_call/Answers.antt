use Rattle.std.proofs.Common.{◌≡◌, true, ap, sym, ◌∙◌, subst}
use Rattle.grs_legal.specs.Asks.{scripts_of}
use Rattle.grs_node.proofs.Fits.{call-fits-after, entries-there, target-fits}
use Rattle.grs_node.specs.Finish.{may_come}
use Rattle.grs_node.proofs.Orderly.{fits-orderly}
use Rattle.grs_node.specs.Log.{NodeView}
use Rattle.grs_node.specs.Names.{names_of}
use Rattle.grs_node.specs.Node.{prepare}
use Rattle.grs_node.proofs.node.Node.finish_call.Goals as goal

pub invariant_of-self : goal.invariant_of-self
invariant_of-self c =
    let comes =
    subst (λ (v : NodeView). may_come (prepare v.deck v.node c.args.choice) c.args.reply ≡ true) (sym c.self.view_is)
    c.requires.come in (
      c.self.invariant.0,
      c.self.invariant.1 ∙ ap (scripts_of c.self.inside.deck.now) (sym c.finish_call.ensures.system),
      c.self.invariant.2 ∙ ap (names_of c.self.inside.deck.now) (sym c.finish_call.ensures.system),
      call-fits-after c.self.inside.deck.now c.self.inside.state c.finish_call.new.self c.args.choice c.args.reply
          c.in-Ok.fixed c.self.invariant.3 comes c.in-Ok.ensures.system c.in-Ok.ensures.step,
      c.self.invariant.4,
      c.self.invariant.5,
      tt,
    )

pub finish_call-requires-clause-few : goal.finish_call-requires-clause-few
finish_call-requires-clause-few c = c.self.invariant.3.few

pub finish_call-requires-clause-entries : goal.finish_call-requires-clause-entries
finish_call-requires-clause-entries c = entries-there c.self.inside.deck.now c.self.inside.state c.self.invariant.3

pub finish_call-requires-clause-desk : goal.finish_call-requires-clause-desk
finish_call-requires-clause-desk c = c.self.invariant.3.desk

pub finish_call-requires-clause-apart : goal.finish_call-requires-clause-apart
finish_call-requires-clause-apart c = c.self.invariant.3.apart

pub finish_call-requires-clause-target : goal.finish_call-requires-clause-target
finish_call-requires-clause-target c =
    let comes =
    subst (λ (v : NodeView). may_come (prepare v.deck v.node c.args.choice) c.args.reply ≡ true) (sym c.self.view_is)
    c.requires.come in
    target-fits c.self.inside.deck.now c.self.inside.state c.args.choice c.args.reply c.self.invariant.3 comes

pub finish_call-requires-clause-orderly : goal.finish_call-requires-clause-orderly
finish_call-requires-clause-orderly c =
    fits-orderly c.self.inside.deck.now c.self.inside.state.tasks.system c.self.inside.state.star
    c.self.invariant.3.part
