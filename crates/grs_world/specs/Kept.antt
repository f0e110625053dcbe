-- What the systems keep of the resources of the whole complex is what the history says of them.
use Rattle.std.specs.Prelude.{◌≡◌, ℕ, ◌+◌, Bool, true, false, not, cond, ◌||◌, List, [], ◌∷◌, ◌++◌, length, map, filter}
use Rattle.std.specs.Prelude.{Option, Some, None, slice_get}
use Rattle.std.specs.Option.{option_map_or}
use Rattle.contention_mgr.specs.Installs.{elem_of}
use Rattle.contention_mgr.specs.Laws.{AreWellKept}
use Rattle.contention_mgr.specs.Manager.{plain, items_of, managed_of}
use Rattle.lock_structure.specs.Entries.{entry_of_res}
use Rattle.grs_base.specs.Same.{same_res}
use Rattle.grs_base.specs.State.{is_systems, list_of, State}
use Rattle.grs_base.specs.declared.resource.Elem.{Elem}
use Rattle.grs_base.specs.declared.resource.Res.{Res}
use Rattle.grs_base.specs.declared.resource.SysId.{SysId}
use Rattle.grs_medium.specs.Medium.{inbox}
use Rattle.grs_node.specs.Names.{names_of}
use Rattle.grs_node.specs.Node.{NodeState, read_entries, changed, finish}
use Rattle.grs_node.specs.Star.{StarPart, gathers}
use Rattle.grs_wire.specs.History.{replay}
use Rattle.grs_wire.specs.Masks.{has}
use Rattle.grs_wire.specs.Notices.{noticed}
use Rattle.grs_wire.specs.Unseen.{unseen}
use Rattle.grs_wire.specs.declared.deck.Choice.TheVariants as choices
use Rattle.grs_wire.specs.declared.deck.Deck.{Deck}
use Rattle.grs_wire.specs.declared.deck.Event.{Event}
use Rattle.grs_wire.specs.declared.gather.PartRec.{PartRec}
use Rattle.grs_wire.specs.declared.medium.Mail.{Mail}
use Rattle.grs_wire.specs.declared.medium.Reply.TheVariants as replies
use Rattle.lock_structure.specs.Laws.{manager_at}
use Rattle.lock_structure.specs.RankedRows.{rises}
use Rattle.system_purge.specs.Gather.{records_of, by_rank, ranks}
use Rattle.grs_world.specs.Running.{is_live}
use Rattle.grs_world.specs.World.{World, run, hist}

-- A resource has this list behind the whole history of a run.
abbrev pub places : Deck → List Event → Res → List Elem
places deck es r = list_of (replay deck.limit (hist deck es)) r

-- the table of a system once the system has processed, in order, the entries of the message that it hasn't seen
abbrev pub table_behind : Deck → World → SysId → NodeState → State
table_behind deck w s n = (read_entries deck n (unseen s w.medium.message.entries)).shared

-- then the table has this list
abbrev pub in_table : Deck → World → SysId → Option NodeState → Res → List Elem
in_table deck w s None r = []
in_table deck w s (Some n) r = list_of (table_behind deck w s n) r

-- A manager m keeps this list of a resource. Once it has changed to star mode that is the list of its elements, in the
-- order in which they stand, which in every run is that of their ranks (`ManagersKeepWell`). Before that it is the list
-- of its table, once it has processed what it hasn't seen.
abbrev pub managed_list : Deck → World → SysId → NodeState → Option StarPart → Res → List Elem
managed_list deck w m n None r = in_table deck w m (Some n) r
managed_list deck w m n (Some p) r = list_of (plain (items_of (managed_of p.manager r))) r

-- ---- while the lists of an entry have still to be gathered

-- whether a manager has still to gather the lists of a lock entry, if it is one: a notice in its inbox names the entry,
-- or it gathers them
abbrev pub has_to_gather : World → SysId → NodeState → Option ℕ → Bool
has_to_gather w m n None = false
has_to_gather w m n (Some e) = noticed e (inbox w.medium m.0) || option_map_or (λ p. gathers p e) n.star false

-- a system once it has taken these mails, one after the other
abbrev pub taking : Deck → NodeState → List Mail → NodeState
taking deck n [] = n
taking deck n (mail ∷ mails) = taking deck (finish deck n choices.Take (Some (replies.Taken mail))).node mails

-- a system in star mode: one that hasn't changed processes what it hasn't seen of the message, and changes
abbrev pub once_changed : Deck → World → SysId → NodeState → Option StarPart → NodeState
once_changed deck w s n None = changed deck (read_entries deck n (unseen s w.medium.message.entries))
once_changed deck w s n (Some p) = n

-- the same once it has taken the mail of its inbox
abbrev pub caught_up : Deck → World → SysId → NodeState → NodeState
caught_up deck w s n = taking deck (once_changed deck w s n n.star) (inbox w.medium s.0)

-- what the tasks of a system have on record of a resource
abbrev pub on_record : Deck → NodeState → Res → List PartRec
on_record deck n r = filter (λ y. same_res r y.res) (records_of (names_of deck n.tasks.system) n.tasks.tasks)

-- What the live ones of these systems, of which the first has this number, show of a resource: what each has on record
-- of it, once it has changed to star mode and taken the mail of its inbox.
abbrev pub shown_from : Deck → World → Res → ℕ → List NodeState → List PartRec
shown_from deck w r s [] = []
shown_from deck w r s (n ∷ ns) =
    cond (has w.medium.removed s) [] (on_record deck (caught_up deck w (record { 0 = s }) n) r)
    ++ shown_from deck w r (s + 1) ns

-- what all live systems show together of a resource, in the order of ranks, and the list that this is
abbrev pub shown_records : Deck → World → Res → List PartRec
shown_records deck w r = by_rank (shown_from deck w r 0 w.nodes)

abbrev pub shown_list : Deck → World → Res → List Elem
shown_list deck w r = map elem_of (shown_records deck w r)

-- the ranks of the elements that a manager keeps of a resource, in the order in which they stand
abbrev pub managed_ranks : StarPart → Res → List ℕ
managed_ranks p r = map (λ x. x.rank) (filter (λ x. same_res r x.res) (items_of (managed_of p.manager r)))

-- ---- what is kept

-- A manager keeps the list that it has, and the systems together keep the one that they show as long as it has still to
-- gather the lists of the resource's entry.
abbrev pub at_node : Deck → World → SysId → Option NodeState → Res → List Elem
at_node deck w m None r = []
at_node deck w m (Some n) r =
    cond (has_to_gather w m n (entry_of_res (length w.medium.words) r))
    (shown_list deck w r) (managed_list deck w m n n.star r)

-- where there is no manager nothing is kept
abbrev pub at_manager : Deck → World → Option SysId → Res → List Elem
at_manager deck w None r = []
at_manager deck w (Some m) r = at_node deck w m (slice_get w.nodes m.0) r

-- the manager of a lock entry, if it is one, by these words
abbrev pub named_by : List ℕ → Option ℕ → Option SysId
named_by words None = None
named_by words (Some e) = manager_at words e

-- a list without the elements of these systems
abbrev pub without_gone : ℕ → List Elem → List Elem
without_gone gone xs = filter (λ x. not (has gone x.task.system.0)) xs

-- This list of a resource of the whole complex is kept, as this live system sees it, a case a mode of the medium. In a
-- ring (false) each live system keeps one in its table. In star mode (true) the manager of the resource's lock entry
-- keeps it for all, whether it has changed to star mode or not; while it has still to gather the entry's lists, since
-- the manager before it was removed, all live systems keep it together; and where there is no manager nothing is kept.
-- An element of a removed system doesn't count.
abbrev pub kept_in : Bool → Deck → World → SysId → Res → List Elem
kept_in false deck w s r = in_table deck w s (slice_get w.nodes s.0) r
kept_in true deck w s r =
    without_gone w.medium.removed
    (at_manager deck w (named_by w.medium.words (entry_of_res (length w.medium.words) r)) r)

abbrev pub kept : Deck → World → SysId → Res → List Elem
kept deck w s r = kept_in w.medium.star deck w s r

-- After these events the list that is kept of each resource of the whole complex, as each live system sees it, is the
-- history's.
abbrev pub KeptArePlaces : Deck → List Event → Type 0
KeptArePlaces deck es =
    (s : SysId) (r : Res) → is_live (run deck es) s ≡ true → is_systems r ≡ true
    → kept deck (run deck es) s r ≡ places deck es r

-- So it is behind one event more.
abbrev pub KeptArePlacesThen : Deck → List Event → Event → Type 0
KeptArePlacesThen deck es e = KeptArePlaces deck (es ++ e ∷ [])

-- After these events what the live systems show together of each resource of the whole complex is the history's list.
abbrev pub ShownArePlaces : Deck → List Event → Type 0
ShownArePlaces deck es =
    (r : Res) → is_systems r ≡ true → shown_list deck (run deck es) r ≡ places deck es r

-- What the live systems show together of a resource has the ranks that its manager gave: they rise, so that no two are
-- equal, and they are, one by one, those of the elements that the manager keeps, as soon as it has changed.
pub record HaveRanksKept (deck : Deck) (w : World) (r : Res) : Type 0 where
  pub rising : rises (ranks (shown_records deck w r)) ≡ true
  pub managed : (m : SysId) (n : NodeState) (p : StarPart)
      → named_by w.medium.words (entry_of_res (length w.medium.words) r) ≡ Some m → slice_get w.nodes m.0 ≡ Some n
      → (once_changed deck w m n n.star).star ≡ Some p → ranks (shown_records deck w r) ≡ managed_ranks p r

-- After these events it is so of each resource of the whole complex.
abbrev pub ShownHaveRanks : Deck → List Event → Type 0
ShownHaveRanks deck es = (r : Res) → is_systems r ≡ true → HaveRanksKept deck (run deck es) r

-- A system's part in star mode is well kept where the manager in it is the system's own, ranks rise along the list of
-- each resource, and each owner that is still to be told owns and is of another system.
pub record IsKeptBy (s : ℕ) (p : StarPart) : Type 0 where
  pub home : p.manager.system.0 ≡ s
  pub well : AreWellKept p.manager

-- After these events each system in star mode keeps well what it manages. So the list of a resource that a manager
-- keeps is that of its elements by rank.
abbrev pub ManagersKeepWell : Deck → List Event → Type 0
ManagersKeepWell deck es =
    (s : ℕ) (n : NodeState) (p : StarPart) → slice_get (run deck es).nodes s ≡ Some n → n.star ≡ Some p → IsKeptBy s p
