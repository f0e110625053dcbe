-- A system's place in a run: it is there, and wasn't removed. What holds of each such system holds behind an event if
-- it does of the event's own system, and of each other one that was there before.
use Rattle.grs_world.proofs.Common.{◌<◌, ◌∙◌, ◌≡◌, ◌≢◌, false, has, length, List, NodeState, slice_get, slice_get-set}
use Rattle.grs_world.proofs.Common.{slice_get-set_other, slice_get_within, Some, SysId, Turnout, World, ℕ}
use Rattle.grs_world.proofs.run.Placed.{nodes_then, by_node}

pub record IsThere (nodes : List NodeState) (removed : ℕ) (s : ℕ) (n : NodeState) : Type 0 where
  pub at : slice_get nodes s ≡ Some n
  pub live : has removed s ≡ false

abbrev pub Site : World → ℕ → NodeState → Type 0
Site w s n = IsThere w.nodes w.medium.removed s n

pub at_site : {nodes : List NodeState} {removed s : ℕ} {n : NodeState} → slice_get nodes s ≡ Some n
    → has removed s ≡ false → IsThere nodes removed s n
at_site at live = record { at = at; live = live }

pub site-below : (w : World) (s : ℕ) (n : NodeState) → Site w s n → s < length w.nodes
site-below w s n v = slice_get_within w.nodes s n v.at

module _ (w : World) (c : SysId) (n : NodeState) (v : Site w c.0 n) (o : Turnout) where
  pub own-site : has o.medium.removed c.0 ≡ false → IsThere (nodes_then w c o) o.medium.removed c.0 o.step.node
  own-site live = record { at = slice_get-set w.nodes c.0 n o.step.node v.at; live = live }

  pub other-site : (s : ℕ) (k : NodeState) → s ≢ c.0 → Site w s k → has o.medium.removed s ≡ false
      → IsThere (nodes_then w c o) o.medium.removed s k
  other-site s k ne u live = record { at = slice_get-set_other w.nodes c.0 s o.step.node ne ∙ u.at; live = live }

  -- who is removed stays so
  pub each_site : ((s : ℕ) → has o.medium.removed s ≡ false → has w.medium.removed s ≡ false)
      → (P : ℕ → NodeState → Type 0) → P c.0 o.step.node
      → ((s : ℕ) (k : NodeState) → s ≢ c.0 → Site w s k → P s k) → (s : ℕ) (k : NodeState)
      → IsThere (nodes_then w c o) o.medium.removed s k → P s k
  each_site stays P own others s k u =
      by_node w.nodes c.0 n o.step.node v.at (λ i z. has w.medium.removed i ≡ false → P i z) (λ l. own)
      (λ i z ne f l. others i z ne (record { at = f; live = l })) s k u.at (stays s u.live)
