-- The systems of the first world: as many as the deck has, each as it starts.
use Rattle.grs_world.proofs.Common.{[], ◌+◌, ◌∙◌, ◌∷◌, ◌≡◌, ap, arith, Deck, first_node, first_nodes, first_world}
use Rattle.grs_world.proofs.Common.{length, List, NodeState, refl, same_Some, slice_get, Some, suc, sym, SystemDef}
use Rattle.grs_world.proofs.Common.{zero, ℕ}

pub count_first : (deck : Deck) (k : ℕ) (ds : List SystemDef) → length (first_nodes deck k ds) ≡ length ds
count_first deck k [] = refl
count_first deck k (d ∷ ds) = ap suc (count_first deck (k + 1) ds)

first_at : (deck : Deck) (k : ℕ) (ds : List SystemDef) (i : ℕ) (n : NodeState)
    → slice_get (first_nodes deck k ds) i ≡ Some n → n ≡ first_node deck (k + i)
first_at deck k [] i n h = absurd (cc)
first_at deck k (d ∷ ds) zero n h = sym (same_Some (first_node deck k) n h) ∙ ap (first_node deck) (plus_zero k)
  where
    plus_zero : (a : ℕ) → a ≡ a + 0
    plus_zero a = omega arith
first_at deck k (d ∷ ds) (suc i) n h = first_at deck (k + 1) ds i n h ∙ ap (first_node deck) (next k i)
  where
    next : (a b : ℕ) → a + 1 + b ≡ a + suc b
    next a b = omega arith

pub first_is : (deck : Deck) (s : ℕ) (n : NodeState) → slice_get (first_nodes deck 0 deck.systems) s ≡ Some n
    → n ≡ first_node deck s
first_is deck s n h = first_at deck 0 deck.systems s n h ∙ ap (first_node deck) (zero_plus s)
  where
    zero_plus : (a : ℕ) → 0 + a ≡ a
    zero_plus a = omega arith

pub first_of : (deck : Deck) (s : ℕ) (n : NodeState) → slice_get (first_world deck).nodes s ≡ Some n
    → n ≡ first_node deck s
unfolding first_world
first_of deck s n at = first_is deck s n at
