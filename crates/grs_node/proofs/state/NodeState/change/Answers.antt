use Rattle.std.proofs.Common.{◌≡◌, ℕ, ap, sym, ◌∙◌, subst}
use Rattle.std.specs.Prelude.{IfSome, OnOk}
use Rattle.grs_node.specs.Removal.{IsOrderly, members}
use Rattle.grs_node.specs.Names.{names_of}
use Rattle.grs_node.specs.Node.{NodeState, change_to_star, losing}
use Rattle.grs_node.proofs.ChangeFits.{known-changed, orderly-changed}
use Rattle.grs_node.proofs.state.NodeState.change.Goals as goal

-- a system that just changed gathers nothing
pub lose-requires : goal.lose-requires
lose-requires c =
    subst (λ (n : NodeState). IfSome n.star IsOrderly) (sym c.in_ok-change_to_star.ensures.step)
    (orderly-changed c.args.deck.now c.args.self.now)

pub returns-clause-step : goal.returns-clause-step
returns-clause-step c =
    let after = c.change_to_star.new.self in
    let known = ap (λ (n : NodeState). n.known) c.self.view_is in
    subst (λ (k : ℕ).
    OnOk c.lose.result
    (c.lose.new.self ≡ losing c.args.deck.now (change_to_star c.args.deck.now c.args.self.now) (members k)))
    (known-changed c.args.deck.now c.args.self.now)
    (subst (λ (n : NodeState). OnOk c.lose.result (c.lose.new.self ≡ losing c.args.deck.now n (members n.known)))
    c.in_ok-change_to_star.ensures.step
    (subst (λ (k : ℕ). OnOk c.lose.result (c.lose.new.self ≡ losing c.args.deck.now after (members k))) known
    (c.lose.ensures.step c.args.deck.now
    (c.requires.names ∙ ap (names_of c.args.deck.now) (sym c.in_ok-change_to_star.ensures.system)))))
