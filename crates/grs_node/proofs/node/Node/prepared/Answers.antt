use Rattle.std.proofs.Common.{◌≡◌, true, ap, ◌∙◌, subst, Result, Ok, Err, IfOk}
use Rattle.grs_node.proofs.Fits.{entries-there}
use Rattle.grs_node.proofs.AskFits.{prepare-addressed}
use Rattle.grs_node.proofs.Owed.{fits-owed}
use Rattle.grs_node.proofs.Orderly.{fits-orderly}
use Rattle.grs_node.specs.Addressed.{is_addressed, NodeFits}
use Rattle.grs_node.specs.Log.{NodeView}
use Rattle.grs_node.specs.Node.{NodeState, prepare}
use Rattle.grs_node.specs.declared.prepared.Prepared.{Prepared}
use Rattle.grs_wire.specs.declared.deck.Choice.{Choice}
use Rattle.grs_wire.specs.declared.deck.Deck.{Deck}
use Rattle.grs_node.proofs.node.Node.prepared.Goals as goal

-- so does what is prepared
addressed : {E : Type 0} (deck : Deck) (n : NodeState) (choice : Choice) (r : Result Prepared E) → NodeFits deck n
    → IfOk r (λ p. p ≡ prepare deck n choice) → IfOk r (λ p. is_addressed deck n.tasks.system p ≡ true)
addressed deck n choice (Ok p) fits is = ap (is_addressed deck n.tasks.system) is ∙ prepare-addressed deck n choice fits
addressed deck n choice (Err e) fits is = tt

pub returns-clause-addressed : goal.returns-clause-addressed
returns-clause-addressed c =
    subst (λ (v : NodeView). IfOk c.prepare.result (λ p. is_addressed v.deck v.node.tasks.system p ≡ true))
    c.self.view_is
    (addressed c.self.inside.deck.now c.self.inside.state c.args.choice.now c.prepare.result c.self.invariant.3
    c.prepare.ensures)

pub prepare-requires-clause-entries : goal.prepare-requires-clause-entries
prepare-requires-clause-entries c = entries-there c.self.inside.deck.now c.self.inside.state c.self.invariant.3

pub prepare-requires-clause-orderly : goal.prepare-requires-clause-orderly
prepare-requires-clause-orderly c =
    fits-orderly c.self.inside.deck.now c.self.inside.state.tasks.system c.self.inside.state.star
    c.self.invariant.3.part

pub prepare-requires-clause-owed : goal.prepare-requires-clause-owed
prepare-requires-clause-owed c =
    fits-owed c.self.inside.deck.now c.self.invariant.3.few c.self.inside.state.tasks.system c.self.inside.state.star
    c.self.invariant.3.part
