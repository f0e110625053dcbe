-- Tasks that wait for one another, and none of which goes on.
use Rattle.std.specs.Prelude.{◌≡◌, ◌⊎◌, Bool, true, false, List, [], ◌++◌, IsSomeAnd}
use Rattle.std.specs.List.{list_any, list_all}
use Rattle.grs_base.specs.Same.{same_res}
use Rattle.grs_base.specs.Rows.{rows_of}
use Rattle.grs_base.specs.State.{list_of}
use Rattle.grs_base.specs.declared.decision.Code.TheVariants.{Wait}
use Rattle.grs_base.specs.declared.resource.Res.{Res}
use Rattle.grs_base.specs.declared.resource.TaskId.{TaskId}
use Rattle.grs_wire.specs.History.{removes, replay}
use Rattle.grs_wire.specs.declared.deck.Deck.{Deck}
use Rattle.grs_wire.specs.declared.history.HistEntry.{HistEntry}
use Rattle.grs_wire.specs.declared.history.HistEntry.TheVariants.{Enq}
use Rattle.grs_legal.specs.Asks.{lines_of}
use Rattle.grs_legal.specs.Legal.{entries_of, last_entry, passed_lines, LegalFrom}
use Rattle.grs_legal.specs.declared.meaning.Meaning.{Meaning}
use Rattle.grs_legal.specs.declared.meaning.Meaning.TheVariants as lines
use Rattle.grs_analyze.specs.Depends.{waits_for}
use Rattle.grs_analyze.specs.Greatest.{is_among, greatest}
use Rattle.grs_analyze.specs.Walk.{reported_cycle}

-- An entry asked for this resource, and was answered WAIT.
abbrev pub WasLeftWaiting : Res → HistEntry → Type 0
WasLeftWaiting r (Enq t q c ret code) = (q ≡ r) × (code ≡ Wait)
WasLeftWaiting r _ = ⊥

-- whether a line is a WAIT for this resource
abbrev pub is_wait_for : Res → Meaning → Bool
is_wait_for r (lines.Wait q) = same_res r q
is_wait_for r _ = false

-- A task is held until it has control of this resource: its last entry asked for it and was answered WAIT, or a WAIT line
-- for it stands before what the task asks next.
abbrev pub IsHeldFor : Deck → List HistEntry → TaskId → Res → Type 0
IsHeldFor deck hist t r =
    IsSomeAnd (last_entry (entries_of t hist)) (WasLeftWaiting r)
    ⊎ IsSomeAnd (lines_of deck t) (λ ls. list_any (is_wait_for r) (passed_lines t ls hist) ≡ true)

-- A task is held for a resource for which it waits behind one of these tasks, so that it depends on that one.
pub record IsStuck (deck : Deck) (hist : List HistEntry) (ts : List TaskId) (t : TaskId) : Type 0 where
  pub res : Res
  pub held : IsHeldFor deck hist t res
  pub waits : waits_for (is_among ts) t (list_of (replay deck.limit hist) res) ≡ true

-- Each of these tasks is held for a resource for which it waits behind one of them.
abbrev pub IsDeadlock : Deck → List HistEntry → List TaskId → Type 0
IsDeadlock deck hist ts = (t : TaskId) → is_among ts t ≡ true → IsStuck deck hist ts t

-- whether one of these entries removes the system of one of these tasks
abbrev pub removes_some : List TaskId → List HistEntry → Bool
removes_some ts hs = list_any (λ h. list_any (λ t. removes t.system h) ts) hs

-- Whatever comes behind such a history, each of these tasks stays so and asks nothing, unless the system of one of them
-- is removed.
abbrev pub DeadlocksStay : Type 0
DeadlocksStay =
    (deck : Deck) (hist hs : List HistEntry) (ts : List TaskId) → IsDeadlock deck hist ts → LegalFrom deck hist hs
    → removes_some ts hs ≡ false
    → IsDeadlock deck (hist ++ hs) ts × ((t : TaskId) → is_among ts t ≡ true → entries_of t hs ≡ [])

-- An analysis of the lists that a history leaves has these tasks in its greatest set, and where it reports no cycle, there
-- are none.
pub record AreFound (deck : Deck) (hist : List HistEntry) (ts : List TaskId) : Type 0 where
  pub found : list_all (is_among (greatest (rows_of (replay deck.limit hist)))) ts ≡ true
  pub told : reported_cycle (rows_of (replay deck.limit hist)) ≡ [] → ts ≡ []

-- So it is of each deadlock.
abbrev pub DeadlocksAreFound : Type 0
DeadlocksAreFound =
    (deck : Deck) (hist : List HistEntry) (ts : List TaskId) → IsDeadlock deck hist ts → AreFound deck hist ts
