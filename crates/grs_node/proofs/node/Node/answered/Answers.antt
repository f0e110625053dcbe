use Rattle.std.proofs.Common.{◌≡◌, Option, true, [], ap, sym, ◌∙◌, subst}
use Rattle.grs_legal.specs.Asks.{scripts_of}
use Rattle.grs_node.proofs.Fits.{call-fits-after}
use Rattle.grs_node.specs.Finish.{may_come}
use Rattle.grs_node.specs.Log.{NodeView}
use Rattle.grs_node.specs.Names.{names_of}
use Rattle.grs_node.specs.Node.{prepare}
use Rattle.grs_node.specs.Room.{IsReady}
use Rattle.grs_node.specs.declared.ready.Ready.{Ready}
use Rattle.grs_node.specs.declared.ready.ToldNext.{ToldNext}
use Rattle.grs_node.proofs.node.Node.answered.Goals as goal

pub invariant_of-self : goal.invariant_of-self
invariant_of-self c =
    let comes =
    subst (λ (v : NodeView). may_come (prepare v.deck v.node c.args.choice) c.args.reply.now ≡ true)
    (sym c.self.view_is)
    c.requires.come in
    let none = ap (λ (r : Ready). r.next) c.replace-ready.ensures.after ∙ c.new.ensures.next in (
      c.self.invariant.0,
      c.self.invariant.1 ∙ ap (scripts_of c.self.inside.deck.now) (sym c.answered.ensures.system),
      c.self.invariant.2 ∙ ap (names_of c.self.inside.deck.now) (sym c.answered.ensures.system),
      call-fits-after c.self.inside.deck.now c.self.inside.state c.answered.new.self c.args.choice c.args.reply.now []
          c.self.invariant.3 comes c.answered.ensures.system c.answered.ensures.step,
      ap (λ (r : Ready). r.lines.items) c.replace-ready.ensures.after ∙ c.new.ensures.lines,
      ap (λ (r : Ready). r.told.items) c.replace-ready.ensures.after ∙ c.new.ensures.told,
      subst (λ (o : Option ToldNext). IsReady c.answered.new.self.star o) (sym none) tt,
    )
