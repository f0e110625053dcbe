-- That the steps of a log lead from one state of a system to another, where calls are replied as the entries of a
-- journal say.
use Rattle.std.specs.Prelude.{◌≡◌, List, [], ◌∷◌, true, false, Some, None, ◌⊎◌}
use Rattle.grs_wire.specs.declared.deck.Deck.{Deck}
use Rattle.grs_wire.specs.declared.log.StepDone.{StepDone}
use Rattle.grs_wire.specs.declared.medium.JEntry.{JEntry}
use Rattle.grs_node.specs.Log.{step_done}
use Rattle.grs_node.specs.Node.{NodeState, prepare, finish}
use Rattle.grs_node.specs.declared.prepared.Prepared.TheVariants.{Quiet, Call}

-- A quiet step leads from n to m: its choice is prepared to be done without a call, and the step is what it fixes and
-- tells.
pub record IsQuiet (deck : Deck) (n : NodeState) (x : StepDone) (m : NodeState) : Type 0 where
  pub prepared : prepare deck n x.choice ≡ Quiet
  pub step : x ≡ step_done n x.choice false (finish deck n x.choice None)
  pub after : m ≡ (finish deck n x.choice None).node

-- A journalled step leads from n to m: its choice is prepared to make the call of the entry, and the step is what the
-- reply of the entry fixes and tells.
pub record IsJournalled (deck : Deck) (n : NodeState) (x : StepDone) (e : JEntry) (m : NodeState) : Type 0 where
  pub prepared : prepare deck n x.choice ≡ Call e.call
  pub step : x ≡ step_done n x.choice true (finish deck n x.choice (Some e.reply))
  pub after : m ≡ (finish deck n x.choice (Some e.reply)).node

-- The steps lead from n to m, one after the other, and each journalled one has the next entry, until none is left.
abbrev pub Makes : Deck → NodeState → List StepDone → List JEntry → NodeState → Type 0
Makes deck n [] es m = (es ≡ []) × (m ≡ n)
Makes deck n (x ∷ xs) es m =
    ((k : NodeState) × IsQuiet deck n x k × Makes deck k xs es m)
    ⊎ ((e : JEntry) × (rest : List JEntry) × (es ≡ e ∷ rest) × (k : NodeState) × IsJournalled deck n x e k
    × Makes deck k xs rest m)
