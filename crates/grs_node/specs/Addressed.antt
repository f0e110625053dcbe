-- To whom the calls of a system go: to systems of the deck, and to lock entries that there are.
use Rattle.std.specs.Prelude.{◌≡◌, ◌<◌, ℕ, Bool, true, nat_lt, nat_le, length, not, All, Option, Some, None, ◌≤◌}
use Rattle.std.specs.Prelude.{◌&&◌, ◌==◌, slice_get}
use Rattle.std.specs.List.{list_all}
use Rattle.std.specs.Option.{option_map_or}
use Rattle.contention_mgr.specs.Elements.{all_of}
use Rattle.grs_base.specs.Limits.{most_systems, most_commands}
use Rattle.grs_base.specs.declared.resource.SysId.{SysId}
use Rattle.grs_base.specs.declared.resource.TaskId.{TaskId}
use Rattle.grs_node.specs.Node.{NodeState, desk_of, desk_count}
use Rattle.grs_base.specs.Limits.{most_additions}
use Rattle.grs_node.specs.Removal.{IsOrderly}
use Rattle.grs_node.specs.Star.{StarPart}
use Rattle.grs_node.specs.declared.prepared.Prepared.{Prepared}
use Rattle.grs_node.specs.declared.prepared.Prepared.TheVariants.{Quiet, Call, Nothing}
use Rattle.grs_wire.specs.Decks.{IsOrderOf}
use Rattle.grs_wire.specs.declared.deck.Choice.{Choice}
use Rattle.grs_wire.specs.declared.deck.Choice.TheVariants as choices
use Rattle.grs_wire.specs.declared.deck.Deck.{Deck}
use Rattle.grs_wire.specs.declared.deck.Desk.{Desk}
use Rattle.grs_wire.specs.declared.medium.Act.{Act}
use Rattle.grs_wire.specs.declared.medium.Act.TheVariants as acts
use Rattle.lock_structure.specs.Words.{word_fits}
use Rattle.mode_migrate.specs.Migrate.{AreApart}
use Rattle.star_client.specs.Owes.{OwesView}
use Rattle.system_purge.specs.Gathers.{GathersView}
use Rattle.system_purge.specs.declared.gathers.Gathering.{Gathering}

-- Whether an act of the system of a number goes to a system of the deck and speaks of a lock entry that there is, where
-- it does so, a Turn puts in no more than it may, a Switch has a word for each lock entry, which names systems of the
-- deck alone, and a Purge is of another system of the deck. What else an act carries isn't looked at.
abbrev pub is_act_addressed : Deck → ℕ → Act → Bool
is_act_addressed deck home (acts.Turn out) = nat_le (length out) most_additions
is_act_addressed deck home (acts.Switch words) =
    (length words == deck.entries) && list_all (word_fits (length deck.systems)) words
is_act_addressed deck home (acts.Submit e q) = nat_lt e deck.entries
is_act_addressed deck home acts.Take = true
is_act_addressed deck home (acts.Settle to mail) = nat_lt to.0 (length deck.systems)
is_act_addressed deck home (acts.Tell to mail) = nat_lt to.0 (length deck.systems)
is_act_addressed deck home (acts.Leave e) = nat_lt e deck.entries
is_act_addressed deck home (acts.Purge target) = nat_lt target.0 (length deck.systems) && not (target.0 == home)
is_act_addressed deck home acts.Rest = true

-- the same of what was prepared, if it is a call
abbrev pub is_addressed : Deck → ℕ → Prepared → Bool
is_addressed deck home Quiet = true
is_addressed deck home (Call call) = is_act_addressed deck home call.act
is_addressed deck home Nothing = true

-- a choice to remove a system is of one of as many as a deck may have
abbrev pub TargetFits : Choice → Type 0
TargetFits (choices.Purge target) = target.0 < most_systems
TargetFits choice = Unit {0}

-- whether a task is of a system of the deck
abbrev pub is_within : Deck → TaskId → Bool
is_within deck t = nat_lt t.system.0 (length deck.systems)

-- whether the records of parts are of systems of the deck, where an entry is gathered
abbrev pub parts_within : Deck → Option Gathering → Bool
parts_within deck None = true
parts_within deck (Some g) = list_all (λ x. list_all (λ r. is_within deck r.task) x.records) g.parts

-- whether it is a system of the deck to whom a part is owed, if one is
abbrev pub is_owed_within : Deck → Option SysId → Bool
is_owed_within deck to = option_map_or (λ s. nat_lt s.0 (length deck.systems)) to true

-- What a system keeps of entries whose manager was removed: as many as the deck has; and whose records came, and to
-- whom parts are owed, are systems of the deck.
pub record GatheringFits (deck : Deck) (gathers : GathersView) (owes : OwesView) : Type 0 where
  pub count : length gathers ≡ deck.entries
  pub parts : list_all (parts_within deck) gathers ≡ true
  pub owed : list_all (is_owed_within deck) owes ≡ true

-- What the part in star mode of the system of a number keeps: its manager is of that system, there are as many lock
-- entries as the deck says, one at least, elements, held requests and what it keeps of entries whose manager was
-- removed are of systems of the deck, and it is orderly.
pub record PartFits (deck : Deck) (home : ℕ) (p : StarPart) : Type 0 where
  pub system : p.manager.system.0 ≡ home
  pub some : 0 < deck.entries
  pub entries : length p.manager.entries ≡ deck.entries
  pub interest : length p.interest ≡ deck.entries
  pub elements : all_of (is_within deck) p.manager.entries ≡ true
  pub held : list_all (λ q. is_within deck q.task) p.held ≡ true
  pub gathering : GatheringFits deck p.gathers p.owes
  pub orderly : IsOrderly p

abbrev pub AnyPartFits : Deck → ℕ → Option StarPart → Type 0
AnyPartFits deck home None = Unit {0}
AnyPartFits deck home (Some p) = PartFits deck home p

-- A system of the deck, which has as many systems, lock entries and as many commands at the system's desk as a deck may
-- have, and whose commands remove other systems of the deck alone. The elements of its table are of systems of the
-- deck, and no task stands twice in a list; and its part in star mode fits.
pub record NodeFits (deck : Deck) (n : NodeState) : Type 0 where
  pub system : n.tasks.system < length deck.systems
  pub some : 0 < deck.entries
  pub few : length deck.systems ≤ most_systems
  pub desk : desk_count (slice_get deck.systems n.tasks.system) ≤ most_commands
  pub orders :
      All (λ (c : Desk). IsOrderOf (length deck.systems) n.tasks.system c.order)
      (desk_of (slice_get deck.systems n.tasks.system))
  pub shared : list_all (λ h. is_within deck h.1.task) n.shared ≡ true
  pub apart : AreApart n.shared
  pub part : AnyPartFits deck n.tasks.system n.star
