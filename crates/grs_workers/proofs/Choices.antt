-- There is always something to do: a turn, or a look into the inbox.
use Rattle.std.proofs.Common.{◌≡◌, Option, Some, None}
use Rattle.grs_node.specs.Node.{NodeState, turn_call, star_call, prepare}
use Rattle.grs_node.specs.Star.{StarPart}
use Rattle.grs_node.specs.declared.prepared.Prepared.TheVariants.{Nothing}
use Rattle.grs_wire.specs.declared.deck.Choice.TheVariants.{Turn, Take}
use Rattle.grs_wire.specs.declared.deck.Deck.{Deck}

-- where a Turn comes to nothing the system is in star mode, where it may look into its inbox
pub take-without_turn : (deck : Deck) (n : NodeState) → prepare deck n Turn ≡ Nothing
    → ¬ (prepare deck n Take ≡ Nothing)
unfolding prepare star_call
take-without_turn deck n h = by_mode n.star h
  where
    by_mode : (o : Option StarPart) → turn_call n o ≡ Nothing → ¬ (star_call deck n o Take ≡ Nothing)
    by_mode None h = λ e. cc
    by_mode (Some p) h = λ e. cc

pub ruleset choices = (take-without_turn)
