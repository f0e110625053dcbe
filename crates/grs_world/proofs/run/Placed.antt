-- The world after an event, part by part. What holds of the medium that an event leaves, or of its system and of the
-- others as they were, holds behind it.
use Rattle.grs_world.proofs.Common.{◌++◌, ◌+◌, ◌==◌, ◌≡◌, ◌≢◌, Bool, eqb-false, eqb-true, false, fixed_by, length}
use Rattle.grs_world.proofs.Common.{length-set, List, MediumState, NodeState, Option, placed, refl, same_Some, set}
use Rattle.grs_world.proofs.Common.{slice_get, slice_get-set, slice_get-set_other, Some, subst, sym, SysId, Told}
use Rattle.grs_world.proofs.Common.{told_by, told_in, true, Turnout, World, ℕ}
use Rattle.std.proofs.Common.{subst₂}

-- ---- one system stands otherwise
pub by_set : (ns : List NodeState) (c : ℕ) (n k : NodeState) → slice_get ns c ≡ Some n
    → (s : ℕ) (Q : ℕ → Option NodeState → Type 0) → Q c (Some k) → (s ≢ c → Q s (slice_get ns s))
    → Q s (slice_get (set ns c k) s)
by_set ns c n k at s Q own other = go (s == c) refl
  where
    go : (b : Bool) → (s == c) ≡ b → Q s (slice_get (set ns c k) s)
    go true e =
        let same : s ≡ c = eqb-true s c e in
        subst (λ u. Q u (slice_get (set ns c k) u)) (sym same) (subst (Q c) (sym (slice_get-set ns c n k at)) own)
    go false e = let ne : s ≢ c = eqb-false s c e in subst (Q s) (sym (slice_get-set_other ns c s k ne)) (other ne)

-- what holds of a system holds of each, where it holds of the one that changed and of the others
pub by_node : (ns : List NodeState) (s : ℕ) (n m : NodeState) → slice_get ns s ≡ Some n → (P : ℕ → NodeState → Type 0)
    → P s m → ((u : ℕ) (k : NodeState) → u ≢ s → slice_get ns u ≡ Some k → P u k) → (u : ℕ) (k : NodeState)
    → slice_get (set ns s m) u ≡ Some k → P u k
by_node ns s n m at P own others u k there =
    by_set ns s n m at u (λ i o. o ≡ Some k → P i k) (λ is. subst (P s) (same_Some m k is) own)
    (λ ne is. others u k ne is) there

-- ---- the world after an event
abbrev pub nodes_then : World → SysId → Turnout → List NodeState
nodes_then w c o = set w.nodes c.0 o.step.node

-- the same, its parts written out
abbrev pub world_then : World → SysId → NodeState → Turnout → World
world_then w c n o = record {
  medium = o.medium;
  nodes = nodes_then w c o;
  events = w.events + 1;
  fixed = w.fixed ++ fixed_by c o.step.fixed;
  told = w.told ++ told_by (w.events + 1) c (told_in n o.step);
}

module _ (w : World) (c : SysId) (n : NodeState) (o : Turnout) where
  pub medium-placed : (placed w c n o).medium ≡ o.medium
  unfolding placed
  medium-placed = refl

  pub nodes-placed : (placed w c n o).nodes ≡ nodes_then w c o
  unfolding placed
  nodes-placed = refl

  pub events-placed : (placed w c n o).events ≡ w.events + 1
  unfolding placed
  events-placed = refl

  pub fixed-placed : (placed w c n o).fixed ≡ w.fixed ++ fixed_by c o.step.fixed
  unfolding placed
  fixed-placed = refl

  pub told-placed : (placed w c n o).told ≡ w.told ++ told_by (w.events + 1) c (told_in n o.step)
  unfolding placed
  told-placed = refl

  pub count-placed : length (placed w c n o).nodes ≡ length w.nodes
  unfolding placed
  count-placed = length-set w.nodes c.0 o.step.node

  -- what holds of all its parts
  pub of_world : (P : World → Type 0) → P (world_then w c n o) → P (placed w c n o)
  unfolding placed
  of_world P own = own

  -- what holds of the medium
  pub of_medium : (P : MediumState → Type 0) → P o.medium → P (placed w c n o).medium
  of_medium P own = subst P (sym medium-placed) own

  -- and of the systems, or of what was told, too
  pub of_both : (P : MediumState → List NodeState → Type 0) → P o.medium (nodes_then w c o)
      → P (placed w c n o).medium (placed w c n o).nodes
  of_both P own = subst₂ P (sym medium-placed) (sym nodes-placed) own

  pub of_told : (P : MediumState → List Told → Type 0)
      → P o.medium (w.told ++ told_by (w.events + 1) c (told_in n o.step))
      → P (placed w c n o).medium (placed w c n o).told
  of_told P own = subst₂ P (sym medium-placed) (sym told-placed) own

  module _ (at : slice_get w.nodes c.0 ≡ Some n) where
    pub own-placed : slice_get (placed w c n o).nodes c.0 ≡ Some o.step.node
    unfolding placed
    own-placed = slice_get-set w.nodes c.0 n o.step.node at

    -- what holds of each system
    pub of_nodes : (P : ℕ → NodeState → Type 0) → P c.0 o.step.node
        → ((s : ℕ) (k : NodeState) → s ≢ c.0 → slice_get w.nodes s ≡ Some k → P s k) → (s : ℕ) (k : NodeState)
        → slice_get (placed w c n o).nodes s ≡ Some k → P s k
    unfolding placed
    of_nodes = by_node w.nodes c.0 n o.step.node at
