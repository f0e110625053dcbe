-- The systems of a run by their places.
use Rattle.grs_world.proofs.Common.{[], ◌++◌, ◌+◌, ◌<◌, ◌∙◌, ◌∷◌, ◌≡◌, ap, arith, Deck, length, List, nodes_of}
use Rattle.grs_world.proofs.Common.{NodeState, NodeView, option_map, refl, slice_get, suc, zero, ℕ}
use Rattle.std.proofs.Common.{set, get_or, length-set}
use Rattle.grs_world.specs.Running.{AreOf, AreNumbered, busy_at, is_busy}
use Rattle.std.specs.Prelude.{map}

pub AreOf-get : (deck : Deck) (vs : List NodeView) (i : ℕ) (d : NodeView) → i < length vs → AreOf deck vs
    → (get_or vs i d).deck ≡ deck
AreOf-get deck [] i d h a = absurd (omega arith)
AreOf-get deck (v ∷ vs) zero d h a = a.0
AreOf-get deck (v ∷ vs) (suc i) d h a = AreOf-get deck vs i d (omega arith) a.1

pub AreOf-set : (deck : Deck) (vs : List NodeView) (i : ℕ) (v : NodeView) → AreOf deck vs → v.deck ≡ deck
    → AreOf deck (set vs i v)
AreOf-set deck [] i v a h = tt
AreOf-set deck (w ∷ vs) zero v a h = (h, a.1)
AreOf-set deck (w ∷ vs) (suc i) v a h = (a.0, AreOf-set deck vs i v a.1 h)

pub AreOf-push : (deck : Deck) (vs : List NodeView) (v : NodeView) → AreOf deck vs → v.deck ≡ deck
    → AreOf deck (vs ++ v ∷ [])
AreOf-push deck [] v a h = (h, tt)
AreOf-push deck (w ∷ vs) v a h = (a.0, AreOf-push deck vs v a.1 h)

numbered-from : (s : ℕ) (vs : List NodeView) (i : ℕ) (d : NodeView) → i < length vs → AreNumbered s vs
    → (get_or vs i d).node.tasks.system ≡ s + i
numbered-from s [] i d h a = absurd (omega arith)
numbered-from s (v ∷ vs) zero d h a = omega (arith, a.0)
numbered-from s (v ∷ vs) (suc i) d h a = let k = numbered-from (s + 1) vs i d (omega arith) a.1 in omega (arith, k)

-- the system at a place has it as its number
pub AreNumbered-get : (vs : List NodeView) (i : ℕ) (d : NodeView) → i < length vs → AreNumbered 0 vs
    → (get_or vs i d).node.tasks.system ≡ i
AreNumbered-get vs i d h a = let k = numbered-from 0 vs i d h a in omega (arith, k)

renumbered : (s : ℕ) (vs : List NodeView) (i : ℕ) (v : NodeView) → AreNumbered s vs → v.node.tasks.system ≡ s + i
    → AreNumbered s (set vs i v)
renumbered s [] i v a h = tt
renumbered s (w ∷ vs) zero v a h = (omega (arith, h), a.1)
renumbered s (w ∷ vs) (suc i) v a h = (a.0, renumbered (s + 1) vs i v a.1 (omega (arith, h)))

pub AreNumbered-set : (vs : List NodeView) (i : ℕ) (v : NodeView) → AreNumbered 0 vs → v.node.tasks.system ≡ i
    → AreNumbered 0 (set vs i v)
AreNumbered-set vs i v a h = renumbered 0 vs i v a (omega (arith, h))

numbered-more : (s : ℕ) (vs : List NodeView) (v : NodeView) → AreNumbered s vs → v.node.tasks.system ≡ s + length vs
    → AreNumbered s (vs ++ v ∷ [])
numbered-more s [] v a h = (omega (arith, h), tt)
numbered-more s (w ∷ vs) v a h = (a.0, numbered-more (s + 1) vs v a.1 (omega (arith, h)))

pub AreNumbered-push : (vs : List NodeView) (v : NodeView) → AreNumbered 0 vs → v.node.tasks.system ≡ length vs
    → AreNumbered 0 (vs ++ v ∷ [])
AreNumbered-push vs v a h = numbered-more 0 vs v a (omega (arith, h))

pub nodes_of-get : (vs : List NodeView) (i : ℕ) (d : NodeView) (e : NodeState) → i < length vs
    → get_or (nodes_of vs) i e ≡ (get_or vs i d).node
nodes_of-get [] i d e h = absurd (omega arith)
nodes_of-get (v ∷ vs) zero d e h = refl
nodes_of-get (v ∷ vs) (suc i) d e h = nodes_of-get vs i d e (omega arith)

pub nodes_of-set : (vs : List NodeView) (i : ℕ) (v : NodeView) → nodes_of (set vs i v) ≡ set (nodes_of vs) i v.node
nodes_of-set [] i v = refl
nodes_of-set (w ∷ vs) zero v = refl
nodes_of-set (w ∷ vs) (suc i) v = ap (λ ns. w.node ∷ ns) (nodes_of-set vs i v)

-- the system at a place of those without their decks and logs
pub slice_get-nodes_of : (vs : List NodeView) (i : ℕ)
    → slice_get (nodes_of vs) i ≡ option_map (λ (v : NodeView). v.node) (slice_get vs i)
slice_get-nodes_of [] i = refl
slice_get-nodes_of (v ∷ vs) zero = refl
slice_get-nodes_of (v ∷ vs) (suc i) = slice_get-nodes_of vs i

-- systems of a deck are busy by it
pub busy_at-of : (deck : Deck) (removed : ℕ) (vs : List NodeView) → AreOf deck vs
    → busy_at removed vs ≡ map (is_busy deck removed) (nodes_of vs)
busy_at-of deck removed [] a = refl
busy_at-of deck removed (v ∷ vs) a =
    ap (λ (d : Deck). is_busy d removed v.node ∷ busy_at removed vs) a.0
    ∙ ap (λ bs. is_busy deck removed v.node ∷ bs) (busy_at-of deck removed vs a.1)

pub ruleset nodes = (
  AreOf-get,
  AreOf-set,
  AreOf-push,
  AreNumbered-get,
  AreNumbered-set,
  AreNumbered-push,
  nodes_of-get,
  nodes_of-set,
  slice_get-nodes_of,
  busy_at-of,
  length-set,
)
