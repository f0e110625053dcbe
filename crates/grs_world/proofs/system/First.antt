-- A complex before its first event.
use Rattle.grs_world.proofs.Common.{[], ◌++◌, ◌+◌, ◌<◌, ◌∷◌, ◌≡◌, ap, arith, Bool, Deck, false, first_medium}
use Rattle.grs_world.proofs.Common.{first_node, first_nodes, length, List, nodes_of, NodeView, refl, suc, SystemDef}
use Rattle.grs_world.proofs.Common.{systems_of, take, true, zero, ℕ}
use Rattle.std.proofs.Common.{replicate, add-one}

pub systems_of-first : (systems entries : ℕ) (star : Bool) → systems_of (first_medium systems entries star) ≡ systems
systems_of-first systems entries true = refl
systems_of-first systems entries false = refl

length-repeat : (n : ℕ) → length {A = ℕ} (replicate n 0) ≡ n
length-repeat zero = refl
length-repeat (suc n) = ap suc (length-repeat n)

-- as many lock words as there are entries
pub words-first : (systems entries : ℕ) (star : Bool) → length (first_medium systems entries star).words ≡ entries
words-first systems entries star = length-repeat entries

-- each system has its number
pub system-first : (deck : Deck) (s : ℕ) → (first_node deck s).tasks.system ≡ s
unfolding first_node
system-first deck s = refl

-- nothing is told
pub first_told : (deck : Deck) (s : ℕ) → (first_node deck s).tasks.told ≡ []
unfolding first_node
first_told deck s = refl

-- one more system
more_from : (deck : Deck) (s i k : ℕ) (ds : List SystemDef) → k ≡ s + i → i < length ds
    → first_nodes deck s (take (suc i) ds) ≡ first_nodes deck s (take i ds) ++ first_node deck k ∷ []
more_from deck s i k [] e h = absurd (omega (arith, h))
more_from deck s zero k (d ∷ ds) e h = let at : s ≡ k = omega (arith, e) in ap (λ j. first_node deck j ∷ []) at
more_from deck s (suc i) k (d ∷ ds) e h =
    ap (λ ns. first_node deck s ∷ ns) (more_from deck (s + 1) i k ds (omega (arith, e)) (omega (arith, h)))

pub first_nodes-more : (deck : Deck) (i : ℕ) (ds : List SystemDef) → i < length ds
    → first_nodes deck 0 (take (i + 1) ds) ≡ first_nodes deck 0 (take i ds) ++ first_node deck i ∷ []
first_nodes-more deck i ds h = rw add-one (more_from deck 0 i i ds (omega arith) h)

pub nodes_of-push : (vs : List NodeView) (v : NodeView) → nodes_of (vs ++ v ∷ []) ≡ nodes_of vs ++ v.node ∷ []
nodes_of-push [] v = refl
nodes_of-push (w ∷ vs) v = ap (λ ns. w.node ∷ ns) (nodes_of-push vs v)

pub ruleset first = (systems_of-first, words-first, system-first, first_nodes-more, nodes_of-push)
