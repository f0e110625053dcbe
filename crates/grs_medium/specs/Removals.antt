-- What a removal in star mode leaves in the inboxes, and of the flags of rest: who gets to know which lock entries have
-- another manager.
use Rattle.std.specs.Prelude.{◌≡◌, ◌≢◌, ◌<◌, ◌≤◌, ◌+◌, ℕ, true, not, ◌&&◌, ◌||◌, [], length, take}
use Rattle.grs_base.specs.declared.resource.SysId.{SysId}
use Rattle.grs_wire.specs.LockWords.{interest}
use Rattle.grs_wire.specs.Masks.{has}
use Rattle.grs_wire.specs.declared.medium.Act.TheVariants.{Purge}
use Rattle.grs_wire.specs.declared.medium.Reply.TheVariants.{Purged}
use Rattle.grs_medium.specs.Apply.{is_live, is_noticed, manages, reply_to, medium_after}
use Rattle.grs_medium.specs.Medium.{MediumState, systems_of, inbox, word}

-- c removes t from the medium m, which then is `after`
pub record Removes (m : MediumState) (c t : SysId) (after : MediumState) : Type 0 where
  pub known : ℕ
  pub star : m.star ≡ true
  pub told : reply_to m c (record { known = known; act = Purge t }) ≡ Purged
  pub is : after ≡ medium_after m c (record { known = known; act = Purge t })

-- In the inbox of any other system a notice names a lock entry where one did before, and where the removed system
-- managed the entry and the other has interest in it.
abbrev pub RemovalIsNoticed : Type 0
RemovalIsNoticed =
    (m after : MediumState) (c t s : SysId) (entry : ℕ) → Removes m c t after → s.0 < systems_of m
    → s.0 < length m.inboxes → s.0 ≢ t.0 → entry < length m.words
    → is_noticed after s entry ≡ (is_noticed m s entry || (manages m t entry && has (interest (word m entry)) s.0))

-- The mail of any other system stays in front, and one mail at most is behind it.
abbrev pub RemovalKeepsMail : Type 0
RemovalKeepsMail =
    (m after : MediumState) (c t s : SysId) → Removes m c t after → s.0 < length m.inboxes → s.0 ≢ t.0
    → (take (length (inbox m s.0)) (inbox after s.0) ≡ inbox m s.0)
    × (length (inbox after s.0) ≤ length (inbox m s.0) + 1)

-- The inbox of the removed system is empty.
abbrev pub RemovalEmptiesInbox : Type 0
RemovalEmptiesInbox =
    (m after : MediumState) (c t : SysId) → Removes m c t after → t.0 < length m.inboxes → inbox after t.0 ≡ []

-- The flags of all systems are cleared that are live then, and no other is changed.
abbrev pub RemovalWakes : Type 0
RemovalWakes =
    (m after : MediumState) (c t s : SysId) → Removes m c t after
    → has after.rest s.0 ≡ (has m.rest s.0 && not (is_live after s))
