-- A Take that finds an empty inbox.
use Rattle.grs_world.proofs.Common.{[], ◌∙◌, ◌≡◌, ap, Call, finish, MediumState, NodeView, prepare, refl, Reply, Some}
use Rattle.grs_world.proofs.Common.{sym, SysId, true, ℕ}
use Rattle.grs_medium.specs.TakeReplies.{finds_nothing}
use Rattle.grs_medium.proofs.TakeLaws.{take_finds_nothing}
use Rattle.grs_node.specs.TurnCalls.{take_of}
use Rattle.grs_wire.specs.declared.deck.Choice.TheVariants.{Take}
use Rattle.grs_wire.specs.declared.medium.Reply.TheVariants.{Empty}
use Rattle.grs_world.specs.Done.{chosen_by, done_by}
use Rattle.grs_world.proofs.code.Calls.{chosen-call}
use Rattle.grs_world.proofs.code.Logged.{left-node, left-done}

-- what such a Take of a system that was prepared leads to: nothing
module _ (v : NodeView) (m : MediumState) (c : SysId) (known : ℕ)
    (asks : prepare v.deck v.node Take ≡ Call (take_of known)) (h : finds_nothing m c known ≡ true) where
  chosen-empty : chosen_by v m c Take ≡ record { medium = m; step = finish v.deck v.node Take (Some Empty) }
  chosen-empty =
      chosen-call v.deck m c v.node Take (take_of known) asks
      ∙ ap (λ (x : Reply × MediumState). record { medium = x.1; step = finish v.deck v.node Take (Some x.0) })
      (take_finds_nothing m c known h)

  pub empty-medium : m ≡ (chosen_by v m c Take).medium
  empty-medium = sym (ap (λ t. t.medium) chosen-empty)

  pub empty-node : v.node ≡ (chosen_by v m c Take).step.node
  empty-node = left-node v Take Empty refl ∙ sym (ap (λ t. t.step.node) chosen-empty)

  pub empty-done : record { fixed = []; told = [] } ≡ done_by v.node (chosen_by v m c Take).step
  empty-done = left-done v Take Empty refl ∙ sym (ap (λ t. done_by v.node t.step) chosen-empty)

pub ruleset takes = (empty-medium, empty-node, empty-done)
