-- What is shown of the live systems of a complex that changes is told by the world alone: who has changed shows itself,
-- and any other what it comes to by its Turn.
use Rattle.grs_world.proofs.Common.{[], ◌∙◌, ◌∷◌, ◌≡◌, ◌≤◌, ap, arith, change_to_star, cond, Deck, false, has, is_none}
use Rattle.grs_world.proofs.Common.{items, length, List, NodeState, None, Option, read_entries, refl, RingEntry}
use Rattle.grs_world.proofs.Common.{same_Some, slice_get, slice_get-past, slice_get_within, Some, StarPart, suc, sym}
use Rattle.grs_world.proofs.Common.{SysId, unseen, World, zero, ℕ}
use Rattle.grs_world.proofs.move.Changing.{IsChanging, Shown, Waits, has_changed, viewed, waits_yet}
use Rattle.grs_world.proofs.move.Moved.{alive as lives-on}
use Rattle.grs_world.proofs.move.Waiting.{comes-to}
use Rattle.grs_world.proofs.run.Site.{at_site}

-- ---- lists
pub past-none : {X : Type 0} (xs : List X) (i : ℕ) → length xs ≤ i → slice_get xs i ≡ None
past-none [] i h = refl
past-none (x ∷ xs) zero h = absurd (omega (arith, h))
past-none (x ∷ xs) (suc i) h = past-none xs i (omega (arith, h))

-- ---- what is shown
abbrev pub system_of : ℕ → SysId
system_of s = record { 0 = s }

-- what system s comes to by what it has still to process
abbrev pub read_by : Deck → List RingEntry → ℕ → NodeState → NodeState
read_by deck entries s n = read_entries deck n (unseen (system_of s) entries)

abbrev pub shown_at : Deck → List RingEntry → ℕ → NodeState → NodeState
shown_at deck entries s n = cond (is_none n.star) (change_to_star deck (read_by deck entries s n)) n

pub shown-star : (deck : Deck) (entries : List RingEntry) (s : ℕ) (n : NodeState) (p : StarPart) → n.star ≡ Some p
    → shown_at deck entries s n ≡ n
shown-star deck entries s n p star =
    ap (λ (o : Option StarPart). cond (is_none o) (change_to_star deck (read_by deck entries s n)) n) star

pub shown-waits : (deck : Deck) (entries : List RingEntry) (s : ℕ) (n : NodeState) → n.star ≡ None
    → shown_at deck entries s n ≡ change_to_star deck (read_by deck entries s n)
shown-waits deck entries s n alone =
    ap (λ (o : Option StarPart). cond (is_none o) (change_to_star deck (read_by deck entries s n)) n) alone

module _ (deck : Deck) (w : World) (g : IsChanging deck w) where
  module _ (s : ℕ) (n : NodeState) (at : slice_get w.nodes s ≡ Some n) (alive : has w.medium.removed s ≡ false) where
    pub view-of : slice_get g.view s ≡ Some (shown_at deck w.medium.message.entries s n)
    view-of = by_shown (g.shown s n at alive).0 n at (g.shown s n at alive).1 (g.shown s n at alive).2
      where
        by_shown : (k m : NodeState) → slice_get w.nodes s ≡ Some m → slice_get g.view s ≡ Some k
            → Shown deck s (items w.fixed) (g.before s) (g.due s) g.since (g.whole.out s) k m
            → slice_get g.view s ≡ Some (shown_at deck w.medium.message.entries s m)
        by_shown k m here there (has_changed none) =
            there
            ∙ ap (λ (z : NodeState). Some z) (sym (shown-star deck w.medium.message.entries s k
            (g.whole.roles.node s k (at_site there alive)).part (g.whole.roles.node s k (at_site there alive)).star))
        by_shown k m here there (waits_yet x h is empty) =
            let done : change_to_star deck (read_by deck w.medium.message.entries s x) ≡ k =
            comes-to deck w g (system_of s) x here alive k there h is empty
            (lives-on deck w g (system_of s) x here alive) in
            there ∙ ap (λ (z : NodeState). Some z) (sym (shown-waits deck w.medium.message.entries s x h.alone ∙ done))

  -- whose node is shown so
  pub node-of : (s : ℕ) (k : NodeState) → slice_get g.view s ≡ Some k → has w.medium.removed s ≡ false
      → (n : NodeState) × (slice_get w.nodes s ≡ Some n) × (k ≡ shown_at deck w.medium.message.entries s n)
  node-of s k there alive = go (slice_get w.nodes s) refl
    where
      go : (o : Option NodeState) → slice_get w.nodes s ≡ o
          → (n : NodeState) × (slice_get w.nodes s ≡ Some n) × (k ≡ shown_at deck w.medium.message.entries s n)
      go (Some n) at = (
        n,
        at,
        same_Some k (shown_at deck w.medium.message.entries s n) (sym there ∙ view-of s n at alive),
      )
      go None at =
          let past : length w.nodes ≤ s = slice_get-past w.nodes s at in
          let within = slice_get_within g.view s k there in
          absurd (omega (arith, past, within, g.whole.roles.systems, g.count))

  -- a list in which each live system stands as it is shown is the view, as far as they go
  pub view-is : (V : List NodeState) → length V ≡ length w.nodes
      → ((s : ℕ) (n : NodeState) → slice_get w.nodes s ≡ Some n → has w.medium.removed s ≡ false
      → slice_get V s ≡ Some (shown_at deck w.medium.message.entries s n))
      →
      (s : ℕ) → has w.medium.removed s ≡ false → slice_get V s ≡ slice_get g.view s
  view-is V count each s alive = go (slice_get w.nodes s) refl
    where
      go : (o : Option NodeState) → slice_get w.nodes s ≡ o → slice_get V s ≡ slice_get g.view s
      go (Some n) at = each s n at alive ∙ sym (view-of s n at alive)
      go None at =
          let past : length w.nodes ≤ s = slice_get-past w.nodes s at in
          past-none V s (omega (arith, past, count))
          ∙ sym (past-none g.view s (omega (arith, past, g.whole.roles.systems, g.count)))

  -- a system that hasn't changed
  pub record IsWaitingHere (s : ℕ) (n : NodeState) : Type 0 where
    pub shows : NodeState
    pub there : slice_get g.view s ≡ Some shows
    pub waits : Waits deck s (items w.fixed) (g.before s) (g.due s) g.since n
    pub is : shows ≡ viewed deck n (g.due s)
    pub empty : g.whole.out s ≡ []

  pub waits-here : (s : ℕ) (n : NodeState) → slice_get w.nodes s ≡ Some n → has w.medium.removed s ≡ false
      → n.star ≡ None → IsWaitingHere s n
  waits-here s n at alive = by_shown (g.shown s n at alive).0 n (g.shown s n at alive).1 (g.shown s n at alive).2
    where
      by_shown : (k m : NodeState) → slice_get g.view s ≡ Some k
          → Shown deck s (items w.fixed) (g.before s) (g.due s) g.since (g.whole.out s) k m → m.star ≡ None
          → IsWaitingHere s m
      by_shown k m there (has_changed none) alone =
          absurd (let no : Some (g.whole.roles.node s k (at_site there alive)).part ≡ None =
          sym (g.whole.roles.node s k (at_site there alive)).star ∙ alone in
          cc)
      by_shown k m there (waits_yet x h is empty)
          alone = record { shows = k; there = there; waits = h; is = is; empty = empty }
