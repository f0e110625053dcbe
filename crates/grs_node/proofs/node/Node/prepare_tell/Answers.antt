use Rattle.std.proofs.Common.{◌≡◌, ℕ, true, Option, None, Some, ap, sym, ◌∙◌, subst, Result, Ok, Err, IfOk}
use Rattle.grs_base.specs.declared.resource.Res.{Res}
use Rattle.grs_base.specs.declared.resource.TaskId.{TaskId}
use Rattle.grs_node.proofs.AskFits.{prepare-addressed, tell-prepared}
use Rattle.grs_node.specs.Addressed.{is_addressed, NodeFits}
use Rattle.grs_node.specs.Log.{NodeView}
use Rattle.grs_node.specs.Node.{NodeState, prepared_by}
use Rattle.grs_node.specs.Room.{told_next}
use Rattle.grs_node.specs.Star.{tell_by}
use Rattle.grs_node.specs.declared.node.Node.TheInside.{Inside}
use Rattle.grs_node.specs.declared.prepared.Prepared.{Prepared}
use Rattle.grs_node.specs.declared.ready.ToldNext.{ToldNext}
use Rattle.grs_wire.specs.declared.deck.Choice.TheVariants as choices
use Rattle.grs_wire.specs.declared.deck.Deck.{Deck}
use Rattle.grs_node.proofs.node.Node.prepare_tell.Goals as goal

-- the call that tells who is told next goes where the others go
addressed : {E : Type 0} (deck : Deck) (n : NodeState) (entry known : ℕ) (owner : Option (TaskId × Res))
    (r : Result Prepared E) → NodeFits deck n → known ≡ n.known → owner ≡ told_next n.star entry
    → IfOk r (λ p. p ≡ prepared_by known (tell_by owner))
    → IfOk r (λ p. is_addressed deck n.tasks.system p ≡ true)
addressed deck n entry known owner (Ok p) fits knows next is =
    let told =
    is
    ∙ ap (λ (k : ℕ). prepared_by k (tell_by owner)) knows
    ∙ ap (λ (o : Option (TaskId × Res)). prepared_by n.known (tell_by o)) next
    ∙ sym (tell-prepared deck n entry) in
    ap (is_addressed deck n.tasks.system) told ∙ prepare-addressed deck n (choices.Tell entry) fits
addressed deck n entry known owner (Err e) fits knows next is = tt

-- who is told, where that is kept
abbrev owner_of : Option ToldNext → Option (TaskId × Res)
owner_of None = None
owner_of (Some next) = next.owner

pub returns-clause-addressed : goal.returns-clause-addressed
returns-clause-addressed c =
    let deck = ap (λ (v : NodeView). v.deck) c.self.view_is ∙ c.in_ok-keep_next.ensures.deck in
    let node = ap (λ (v : NodeView). v.node) c.self.view_is ∙ c.in_ok-keep_next.ensures.node in
    let fits =
    subst (λ (d : Deck). NodeFits d c.args.self.now.node) deck
    (subst (λ (n : NodeState). NodeFits c.self.inside.deck.now n) node c.self.invariant.3) in
    addressed c.args.self.now.deck c.args.self.now.node c.args.entry _ c.in-Some.next.owner c.tell_call.result fits
    (ap (λ (x : Inside). x.state.known) c.self-inside.view_is ∙ ap (λ (n : NodeState). n.known) node)
    (ap owner_of
    (sym c.in-Some.is
    ∙ (ap (λ (x : Inside). x.ready.next) c.self-inside.view_is
    ∙ (ap (λ (v : NodeView). v.room.next) c.self.view_is ∙ c.in_ok-keep_next.ensures.next))))
    c.tell_call.ensures
