use Rattle.std.proofs.Common.{◌≡◌, ℕ, List, [], ◌∷◌, refl, ap, sym, ◌∙◌, Result, Ok, Err, IfOk}
use Rattle.grs_base.specs.declared.resource.SysId.{SysId}
use Rattle.grs_wire.specs.Masks.{with_also}
use Rattle.grs_wire.specs.declared.deck.Choice.{Choice}
use Rattle.grs_wire.specs.declared.deck.Deck.{Deck}
use Rattle.grs_wire.specs.declared.request.Fixed.{Fixed}
use Rattle.grs_node.specs.Log.{stepped}
use Rattle.grs_node.specs.Names.{names_of}
use Rattle.grs_node.specs.Node.{NodeState, desk_told, losing, purged}
use Rattle.grs_wire.specs.declared.deck.Choice.TheVariants as choices
use Rattle.grs_wire.specs.declared.request.Fixed.TheVariants as fixes
use Rattle.grs_wire.specs.declared.told.Said.TheVariants as saids
use Rattle.grs_node.proofs.state.NodeState.purged.Goals as goal

-- a removal is fixed and known, and in star mode the removed system is lost
removes : {E : Type 0} (deck : Deck) (n m after : NodeState) (target : SysId) (choice : Choice) (known : ℕ)
    (r : Result (List Fixed) E)
    → m ≡ desk_told n saids.VaryDone → choice ≡ choices.Purge target → known ≡ with_also m.known target.0
    → after ≡ losing deck (record m { known = known }) (target ∷ [])
    → IfOk r (λ fixed. fixed ≡ fixes.Purged target ∷ []) → IfOk r (λ fixed. stepped after fixed ≡ purged deck n choice)
unfolding purged desk_told
removes deck n m after target choice known (Ok fixed) told is knows lost removal =
    rw (lost, knows, is, removal, told) refl
removes deck n m after target choice known (Err e) told is knows lost removal = tt

-- by another choice nothing is
leaves : (deck : Deck) (n m : NodeState) (choice : Choice) (fixed : List Fixed) → m ≡ desk_told n saids.VaryDone
    → fixed ≡ [] → ((x : SysId) → choice ≡ choices.Purge x → ⊥) → stepped m fixed ≡ purged deck n choice
unfolding purged desk_told
leaves deck n m (choices.Task t) fixed told none other = rw (told, none) refl
leaves deck n m choices.Turn fixed told none other = rw (told, none) refl
leaves deck n m (choices.Send t) fixed told none other = rw (told, none) refl
leaves deck n m choices.Take fixed told none other = rw (told, none) refl
leaves deck n m choices.Settle fixed told none other = rw (told, none) refl
leaves deck n m (choices.Tell e) fixed told none other = rw (told, none) refl
leaves deck n m (choices.Part e) fixed told none other = rw (told, none) refl
leaves deck n m (choices.Leave e) fixed told none other = rw (told, none) refl
leaves deck n m choices.Switch fixed told none other = rw (told, none) refl
leaves deck n m (choices.Purge target) fixed told none other = absurd (other target refl)
leaves deck n m choices.Rest fixed told none other = rw (told, none) refl

pub returns-in_ok-lose_one-in-Purge-clause-step : goal.returns-in_ok-lose_one-in-Purge-clause-step
returns-in_ok-lose_one-in-Purge-clause-step c =
    let system = ap (λ (n : NodeState). n.tasks.system) c.self.view_is ∙ c.in_ok-desk_told.ensures.system in
    removes c.args.deck.now c.args.self.now _ c.lose_one.new.self c.in-Purge.target c.args.choice
    c.with_system-self-inside.result c.purged_alone.result (c.self.view_is ∙ c.in_ok-desk_told.ensures.step)
    c.in-Purge.is c.with_system-self-inside.ensures
    (c.in_ok-lose_one-in-Purge.ensures.step c.args.deck.now
    (c.requires.names ∙ ap (names_of c.args.deck.now) (sym system)))
    c.purged_alone.ensures

pub returns-in_default : goal.returns-in_default
returns-in_default c = record {
  step =
      leaves c.args.deck.now c.args.self.now c.desk_told.new.self c.args.choice c.new.result
      c.in_ok-desk_told.ensures.step c.new.ensures c.in_default.not-Purge;
  system = c.in_ok-desk_told.ensures.system;
}
