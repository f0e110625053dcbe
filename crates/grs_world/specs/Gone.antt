-- Of a removed system nothing is kept in star mode by those who know of its removal; and who acts knows.
use Rattle.std.specs.Prelude.{◌≡◌, ◌<◌, ◌==◌, ◌&&◌, ℕ, Bool, true, not, List, Option, Some, None, slice_get}
use Rattle.std.specs.List.{list_all}
use Rattle.contention_mgr.specs.LoseLaws.{is_without}
use Rattle.grs_base.specs.Limits.{most_systems}
use Rattle.grs_node.specs.Node.{NodeState}
use Rattle.grs_node.specs.Star.{StarPart}
use Rattle.grs_wire.specs.Masks.{has}
use Rattle.grs_wire.specs.declared.deck.Deck.{Deck}
use Rattle.grs_wire.specs.declared.deck.Event.{Event}
use Rattle.system_purge.specs.declared.gathers.Gathering.{Gathering}
use Rattle.system_purge.specs.declared.gathers.SentPart.{SentPart}
use Rattle.grs_world.specs.Removing.{CallsKnowing}
use Rattle.grs_world.specs.World.{run}

-- whether a part is of another system than u
abbrev pub is_sent_by_other : ℕ → SentPart → Bool
is_sent_by_other u q = not (q.from.0 == u)

-- whether of an entry, if it is gathered, no part of system u is awaited, and none is kept
abbrev pub is_free_of : ℕ → Option Gathering → Bool
is_free_of u None = true
is_free_of u (Some g) = not (has g.awaits u) && list_all (is_sent_by_other u) g.parts

-- A part in star mode keeps nothing of system u: no element of its tasks in the lists that are managed, no request of
-- them that is held, and of no entry that is gathered a part of it, or the wait for one.
pub record KeepsNothingOf (u : ℕ) (p : StarPart) : Type 0 where
  pub elements : list_all (is_without u) p.manager.entries ≡ true
  pub requests : list_all (λ q. not (u == q.task.system.0)) p.held ≡ true
  pub parts : list_all (is_free_of u) p.gathers ≡ true

-- After these events each system in star mode keeps nothing of one that it knows to be removed.
abbrev pub KnownAreGone : Deck → List Event → Type 0
KnownAreGone deck es =
    (s u : ℕ) (n : NodeState) (p : StarPart)
    → slice_get (run deck es).nodes s ≡ Some n → n.star ≡ Some p → u < most_systems → has n.known u ≡ true
    → KeepsNothingOf u p

-- So by a call that isn't refused a system in star mode keeps nothing of any that was removed before.
abbrev pub ActsWithoutGone : Deck → List Event → Event → Type 0
ActsWithoutGone deck es e =
    CallsKnowing deck (run deck es) e → (u : ℕ) (n : NodeState) (p : StarPart)
    → slice_get (run deck es).nodes e.system.0 ≡ Some n → n.star ≡ Some p → u < most_systems
    → has (run deck es).medium.removed u ≡ true → KeepsNothingOf u p
