-- Each system of a run has its number, also once it was removed.
use Rattle.grs_world.proofs.Common.{◌∙◌, ◌≡◌, ap, Deck, Event, first_node, List, NodeState, refl, run, slice_get, Some}
use Rattle.grs_world.proofs.Common.{World, ℕ}
use Rattle.grs_world.proofs.at_rest.Full.{size-came}
use Rattle.grs_world.proofs.run.Chosen.{came}
use Rattle.grs_world.proofs.run.Each.{systems_run}

abbrev pub AreHomes : World → Type 0
AreHomes w = (s : ℕ) (n : NodeState) → slice_get w.nodes s ≡ Some n → n.tasks.system ≡ s

first-home : (deck : Deck) (s : ℕ) → (first_node deck s).tasks.system ≡ s
unfolding first_node
first-home deck s = refl

pub homes_run : (deck : Deck) (es : List Event) → AreHomes (run deck es)
homes_run deck =
    systems_run deck (λ s n. n.tasks.system ≡ s) (first-home deck)
    (λ m c n choice live h.
    ap (λ (z : ℕ × ℕ). z.0) (size-came deck m c n choice _ _ (came deck m c n live choice)) ∙ h)
