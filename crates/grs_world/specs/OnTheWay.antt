-- Where the parts of a lock entry are while its lists have still to be gathered: its manager was removed, and the next
-- one needs of each live system what that has on record of the entry.
use Rattle.std.specs.Prelude.{◌≡◌, ◌<◌, ◌==◌, ◌&&◌, ℕ, Bool, true, false, not, cond, List, [], ◌∷◌, length, map, filter}
use Rattle.std.specs.Prelude.{Option, Some, None, is_some, slice_get}
use Rattle.std.specs.List.{flat_map}
use Rattle.std.specs.Option.{option_map}
use Rattle.grs_base.specs.declared.resource.SysId.{SysId}
use Rattle.grs_medium.specs.Medium.{inbox}
use Rattle.grs_node.specs.Node.{NodeState}
use Rattle.grs_node.specs.Star.{StarPart, manages, owed_to}
use Rattle.grs_wire.specs.LockWords.{is_manager}
use Rattle.grs_wire.specs.Masks.{has}
use Rattle.grs_wire.specs.declared.deck.Deck.{Deck}
use Rattle.grs_wire.specs.declared.deck.Event.{Event}
use Rattle.grs_wire.specs.declared.gather.Moved.{Moved}
use Rattle.grs_wire.specs.declared.gather.PartRec.{PartRec}
use Rattle.grs_wire.specs.declared.medium.Mail.{Mail}
use Rattle.grs_wire.specs.declared.medium.Mail.TheVariants.{Part}
use Rattle.lock_structure.specs.Laws.{manager_at}
use Rattle.system_purge.specs.Gathers.{gathering_at}
use Rattle.system_purge.specs.declared.gathers.Gathering.{Gathering}
use Rattle.grs_world.specs.Noticed.{items_in}
use Rattle.grs_world.specs.World.{World, run}

-- ---- what a system is to an entry
-- Whether it manages the entry, what it keeps of it where it gathers it, and to whom it owes its part; and of its inbox
-- the item of the last notice that names the entry, and the parts of it that each system sent.
pub record Stance : Type 0 where
  pub manages : Bool
  pub gathering : Option Gathering
  pub owes : Option SysId
  pub notice : Option Moved
  pub coming : ℕ → List (List PartRec)

-- the item of the last notice of an inbox that names the entry: its first one of that entry
abbrev pub or_else : Option Moved → Option Moved → Option Moved
or_else (Some x) o = Some x
or_else None o = o

abbrev pub last_item : ℕ → List Mail → Option Moved
last_item e [] = None
last_item e (y ∷ ms) = or_else (last_item e ms) (slice_get (items_in e y) 0)

-- the parts of the entry under way from system u, in their order
abbrev pub part_from : ℕ → ℕ → Mail → List (List PartRec)
part_from e u (Part x from records) = cond ((x == e) && (from.0 == u)) (records ∷ []) []
part_from e u mail = []

abbrev pub parts_from : ℕ → List Mail → ℕ → List (List PartRec)
parts_from e ms u = flat_map (part_from e u) ms

-- by a system's part and inbox
abbrev pub stance_of : ℕ → StarPart → List Mail → Stance
stance_of e p ms = record {
  manages = manages p e;
  gathering = gathering_at p.gathers e;
  owes = owed_to p e;
  notice = last_item e ms;
  coming = parts_from e ms;
}

-- that of system s of a world, if it is there, live and in star mode
abbrev pub stance_by : ℕ → List Mail → Option NodeState → Option Stance
stance_by e ms None = None
stance_by e ms (Some n) = option_map (λ p. stance_of e p ms) n.star

abbrev pub stance_at : World → ℕ → ℕ → Option Stance
stance_at w e s = cond (has w.medium.removed s) None (stance_by e (inbox w.medium s) (slice_get w.nodes s))

-- ---- the part of system u, where m manages the entry by its word
-- the parts of u that are kept
abbrev pub kept_of : Option Gathering → ℕ → List (List PartRec)
kept_of None u = []
kept_of (Some g) u = map (λ p. p.records) (filter (λ p. p.from.0 == u) g.parts)

-- whether m waits for the part of u: by the last notice as long as it has one, and then by what it gathers
abbrev pub awaits_by : Option Moved → Option Gathering → ℕ → ℕ → Bool
awaits_by (Some x) g m u = has x.mask u && not (m == u)
awaits_by None (Some g) m u = has g.awaits u
awaits_by None None m u = false

abbrev pub awaits : ℕ → Stance → ℕ → Bool
awaits m M u = awaits_by M.notice M.gathering m u

-- It is in one of five places: u has still to take the notice, owes it to m, or sent it, which then is in m's inbox; m
-- keeps it; or there is none. It is awaited just in the first three.
pub data OnTheWay (m u : ℕ) (M U : Stance) : Type 0 where
  has_to_take : (x : Moved) → U.notice ≡ Some x → M.coming u ≡ [] → kept_of M.gathering u ≡ [] → awaits m M u ≡ true
      → OnTheWay m u M U
  owes_it : U.notice ≡ None → U.owes ≡ Some (record { 0 = m }) → M.coming u ≡ [] → kept_of M.gathering u ≡ []
      → awaits m M u ≡ true → OnTheWay m u M U
  has_sent : U.notice ≡ None → U.owes ≡ None → (part : List PartRec) → M.coming u ≡ part ∷ []
      → kept_of M.gathering u ≡ [] → awaits m M u ≡ true → OnTheWay m u M U
  is_kept : U.notice ≡ None → U.owes ≡ None → M.coming u ≡ [] → (part : List PartRec)
      → kept_of M.gathering u ≡ part ∷ [] → awaits m M u ≡ false → OnTheWay m u M U
  has_none : U.notice ≡ None → U.owes ≡ None → M.coming u ≡ [] → kept_of M.gathering u ≡ [] → awaits m M u ≡ false
      → OnTheWay m u M U

-- Once m manages the entry, nothing of it has still to be taken, is owed or under way.
pub record IsDone (u : ℕ) (M U : Stance) : Type 0 where
  pub notice : U.notice ≡ None
  pub owes : U.owes ≡ None
  pub coming : M.coming u ≡ []

abbrev pub PartIs : ℕ → ℕ → Stance → Stance → Bool → Type 0
PartIs m u M U true = IsDone u M U
PartIs m u M U false = OnTheWay m u M U

-- After these events it is so of each other live system's part of each entry that has a manager.
abbrev pub PartsAreOnTheWay : Deck → List Event → Type 0
PartsAreOnTheWay deck es =
    (e : ℕ) (m u : SysId) (M U : Stance) → e < deck.entries → manager_at (run deck es).medium.words e ≡ Some m
    → (m.0 == u.0) ≡ false → stance_at (run deck es) e m.0 ≡ Some M → stance_at (run deck es) e u.0 ≡ Some U
    → PartIs m.0 u.0 M U M.manages

-- ---- roles
-- The manager by the word manages the entry, gathers it, or has still to take the notice that says so: one of the
-- three.
-- No other system manages or gathers it.
abbrev pub IsRole : Bool → Stance → Type 0
IsRole true S = length (filter (λ b. b) (S.manages ∷ is_some S.gathering ∷ is_some S.notice ∷ [])) ≡ 1
IsRole false S = (S.manages ≡ false) × (S.gathering ≡ None)

-- After these events each live system has the role that the word gives it.
abbrev pub RolesGoByWords : Deck → List Event → Type 0
RolesGoByWords deck es =
    (e : ℕ) (s : SysId) (S : Stance) → e < deck.entries → stance_at (run deck es) e s.0 ≡ Some S
    → IsRole (is_manager (manager_at (run deck es).medium.words e) s) S
