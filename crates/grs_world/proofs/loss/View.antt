-- The complex in star mode behind removals of systems that manage no lock entry, as it is shown: each live system's
-- part has lost all that were removed, whether the system knows of them or not, and of their requests none is in an
-- inbox. By what is shown the world is a star that lost nobody.
use Rattle.grs_world.proofs.Common.{[], ◌∙◌, ◌∷◌, ◌≡◌, ap, Bool, Deck, false, false_by, has, inbox, inbox_of, length}
use Rattle.grs_world.proofs.Common.{List, Mail, map, members, most_systems, no_truth, NodeState, None, Option}
use Rattle.grs_world.proofs.Common.{option_map, refl, same_Some, slice_get, Some, StarPart, subst, suc, sym, SysId}
use Rattle.grs_world.proofs.Common.{true, without_those, World, zero, ℕ}
use Rattle.contention_mgr.specs.Laws.{AreWellKept}
use Rattle.std.proofs.lemmas.Option.{slice_get-map}
use Rattle.grs_world.proofs.loss.Leaves.{mail_without}
use Rattle.grs_world.proofs.loss.Losing.{is_in, lose_parts, lost-system, none-unknown, not-in}
use Rattle.grs_world.proofs.star.Plain.{of-those}
use Rattle.grs_world.proofs.run.Site.{at_site}
use Rattle.grs_world.specs.Kept.{IsKeptBy}
use Rattle.grs_world.proofs.star.Calm.{IsCalm}
use Rattle.grs_world.proofs.star.Worlds.{IsWhole}

-- the removed systems of which a system doesn't know
abbrev pub unknown : ℕ → NodeState → List SysId
unknown removed n = members (without_those n.known removed)

-- who is lost was removed
pub in-removed : (known removed u : ℕ) → is_in u (members (without_those known removed)) ≡ true → has removed u ≡ true
in-removed known removed u h = of-those known removed u (go (has (without_those known removed) u) refl)
  where
    go : (b : Bool) → has (without_those known removed) u ≡ b → b ≡ true
    go true is = refl
    go false is =
        no_truth (is_in u (members (without_those known removed))) h
        (not-in (without_those known removed) u most_systems is)

pub unknown-free : (known removed u : ℕ) → has removed u ≡ false
    → is_in u (members (without_those known removed)) ≡ false
unknown-free known removed u live =
    false_by (is_in u (members (without_those known removed)))
    (λ lost. no_truth (has removed u) (in-removed known removed u lost) live)

-- a system whose part has lost them; its tasks aren't told yet
abbrev pub left_node : ℕ → NodeState → NodeState
left_node removed n = record n { star = option_map (λ p. lose_parts p (unknown removed n)) n.star }

-- It is shown so. Its own part is well kept, and gathers nothing.
pub record IsLeft (removed : ℕ) (n k : NodeState) : Type 0 where
  pub part : StarPart
  pub star : n.star ≡ Some part
  pub is : k ≡ record n { star = Some (lose_parts part (unknown removed n)) }
  pub well : AreWellKept part.manager
  pub calm : IsCalm part.gathers part.owes

-- who knows all that were removed shows itself
pub left-same : (removed : ℕ) (n k : NodeState) → IsLeft removed n k → n.known ≡ removed → k ≡ n
left-same removed n k h knows =
    h.is
    ∙ (ap (λ ss. let z : NodeState = record n { star = Some (lose_parts h.part ss) } in z)
    (ap (λ r. members (without_those n.known r)) (sym knows) ∙ none-unknown n.known)
    ∙ ap (λ o. let z : NodeState = record n { star = o } in z) (sym h.star))

-- a world with these systems and inboxes
abbrev pub viewed_by : World → List NodeState → List (List Mail) → World
viewed_by w view boxes = record w { nodes = view; medium = record w.medium { inboxes = boxes } }

-- What holds of the world then.
pub record IsLosing (deck : Deck) (w : World) : Type 0 where
  pub view : List NodeState
  pub boxes : List (List Mail)
  pub whole : IsWhole deck (viewed_by w view boxes)
  pub shown : (s : ℕ) (n : NodeState) → slice_get w.nodes s ≡ Some n → has w.medium.removed s ≡ false
      → (k : NodeState) × (slice_get view s ≡ Some k) × IsLeft w.medium.removed n k
  pub mail : (s : ℕ) → has w.medium.removed s ≡ false
      → inbox_of boxes s ≡ mail_without (has w.medium.removed) (inbox w.medium s)
  pub around : w.medium.message.systems ≡ length deck.systems
  pub places : length w.medium.inboxes ≡ length deck.systems
  -- who was removed keeps well what it had
  pub gone : (s : ℕ) (n : NodeState) (p : StarPart) → slice_get w.nodes s ≡ Some n → has w.medium.removed s ≡ true
      → n.star ≡ Some p → IsKeptBy s p
  pub count : length w.nodes ≡ length deck.systems

-- so does each live one
pub kept-by : (deck : Deck) (w : World) (g : IsLosing deck w) (s : ℕ) (n : NodeState) (p : StarPart)
    → slice_get w.nodes s ≡ Some n → has w.medium.removed s ≡ false → n.star ≡ Some p → IsKeptBy s p
kept-by deck w g s n p at live star =
    let old = g.shown s n at live in
    let m = g.whole.roles.node s old.0 (at_site old.1 live) in
    let same : m.part ≡ lose_parts old.2.part (unknown w.medium.removed n) =
    same_Some m.part (lose_parts old.2.part (unknown w.medium.removed n))
    (sym m.star ∙ ap (λ (z : NodeState). z.star) old.2.is) in
    subst (IsKeptBy s) (same_Some old.2.part p (sym old.2.star ∙ star)) (record {
      home =
          ap (λ (z : SysId). z.0) (sym (lost-system old.2.part (unknown w.medium.removed n)))
          ∙ (ap (λ (q : StarPart). q.manager.system.0) (sym same) ∙ m.fits.home);
      well = old.2.well;
    })

-- ---- all systems and all inboxes at once
abbrev pub left_nodes : ℕ → List NodeState → List NodeState
left_nodes removed ns = map (left_node removed) ns

abbrev pub left_boxes : (ℕ → Bool) → List (List Mail) → List (List Mail)
left_boxes gone boxes = map (mail_without gone) boxes

pub left-there : (removed : ℕ) (ns : List NodeState) (s : ℕ) (n : NodeState) → slice_get ns s ≡ Some n
    → slice_get (left_nodes removed ns) s ≡ Some (left_node removed n)
left-there removed ns s n at = slice_get-map (left_node removed) ns s ∙ ap (option_map (left_node removed)) at

-- and it is one of these
pub left-from : (removed : ℕ) (ns : List NodeState) (s : ℕ) (k : NodeState)
    → slice_get (left_nodes removed ns) s ≡ Some k
    → (n : NodeState) × (slice_get ns s ≡ Some n) × (k ≡ left_node removed n)
left-from removed ns s k at = go (slice_get ns s) refl (sym (slice_get-map (left_node removed) ns s) ∙ at)
  where
    go : (o : Option NodeState) → slice_get ns s ≡ o → option_map (left_node removed) o ≡ Some k
        → (n : NodeState) × (slice_get ns s ≡ Some n) × (k ≡ left_node removed n)
    go None there is = absurd (cc)
    go (Some n) there is = (n, there, sym (same_Some (left_node removed n) k is))

pub left-box : (gone : ℕ → Bool) (boxes : List (List Mail)) (s : ℕ)
    → inbox_of (left_boxes gone boxes) s ≡ mail_without gone (inbox_of boxes s)
left-box gone [] s = refl
left-box gone (b ∷ boxes) zero = refl
left-box gone (b ∷ boxes) (suc s) = left-box gone boxes s
