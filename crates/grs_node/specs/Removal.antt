-- What becomes of a system's part in star mode, and of its tasks, when another system is removed: the lists that the
-- other one's elements leave, the lock entries that it managed and that somebody else manages from then on, and what is
-- gathered of those.
use Rattle.std.specs.Prelude.{◌≡◌, ℕ, zero, suc, Bool, true, false, not, ◌&&◌, ◌||◌, ◌==◌, cond, List, [], ◌∷◌, ◌++◌}
use Rattle.std.specs.Prelude.{length, map, filter, nat_lt, Some, None}
use Rattle.std.specs.List.{list_all}
use Rattle.contention_mgr.specs.Installs.{installed, own_owners}
use Rattle.contention_mgr.specs.Loses.{gained, after_losing}
use Rattle.contention_mgr.specs.Manager.{ManagerView, with_entry}
use Rattle.grs_base.specs.Limits.{most_systems}
use Rattle.grs_base.specs.declared.resource.SysId.{SysId}
use Rattle.grs_base.specs.declared.resource.TaskId.{TaskId}
use Rattle.grs_node.specs.Star.{StarPart, manages, gathers, is_kept, asks_in}
use Rattle.grs_wire.specs.Masks.{has, without, without_all}
use Rattle.grs_wire.specs.declared.gather.Moved.{Moved}
use Rattle.grs_wire.specs.declared.gather.PartRec.{PartRec}
use Rattle.star_client.specs.Owes.{owing}
use Rattle.system_purge.specs.Gather.{gathered, part_of}
use Rattle.system_purge.specs.Gathers.{gathering_at, awaiting, with_part_at, behind_loss, is_complete, parts_in}
use Rattle.system_purge.specs.Gathers.{without_entry}
use Rattle.system_purge.specs.Purge.{tell_each}
use Rattle.task_state.specs.View.{TasksView, is_sent}
use Rattle.task_state.specs.declared.state.Phase.TheVariants as phases
use Rattle.task_state.specs.declared.state.TaskState.{TaskState}

-- the tasks of a system, with its part
pub record Standing : Type 0 where
  pub tasks : TasksView
  pub part : StarPart

abbrev pub standing : TasksView → StarPart → Standing
standing v p = record { tasks = v; part = p }

-- A system has as many entries to gather as to manage. It doesn't gather what it manages, and each request that it
-- holds is of an entry that it manages or gathers.
pub record IsOrderly (p : StarPart) : Type 0 where
  pub count : length p.gathers ≡ length p.manager.entries
  pub apart : (e : ℕ) → gathers p e ≡ true → manages p e ≡ false
  pub held : list_all (is_kept p) p.held ≡ true

-- ---- an entry whose parts have all come

-- The lists of an entry that is gathered become what the system's own tasks, which have these names, and the parts of
-- others say of it. Own owners who weren't told are, and the system manages the entry from then on.
abbrev pub installing : List TaskId → Standing → ℕ → ManagerView
installing names x e =
    let own = part_of (length x.part.manager.entries) e names x.tasks in
    with_entry x.part.manager (Some e)
    (Some (installed x.part.manager.system.0 (gathered own (parts_in (gathering_at x.part.gathers e)))))

abbrev pub take_up : List TaskId → Standing → ℕ → Standing
take_up names x e =
    let m = installing names x e in
    standing (tell_each x.tasks (own_owners m e))
    (record x.part { manager = m; gathers = without_entry x.part.gathers e })

-- the same of an entry where it is gathered and no part of it is awaited; of the entries below one, by number; and of
-- all
abbrev pub take_up_if : List TaskId → Standing → ℕ → Standing
take_up_if names x e = cond (is_complete x.part.gathers e) (take_up names x e) x

unfoldable pub take_up_below : List TaskId → Standing → ℕ → Standing
take_up_below names x zero = x
take_up_below names x (suc e) = take_up_if names (take_up_below names x e) e

abbrev pub take_up_all : List TaskId → Standing → Standing
take_up_all names x = take_up_below names x (length x.part.manager.entries)

-- ---- a system that was removed

-- A removed system is lost: the elements of its tasks leave the lists, its held requests and its parts go, and own
-- tasks that got control are told.
abbrev pub lose : Standing → SysId → Standing
lose x s =
    standing (tell_each x.tasks (gained x.part.manager s))
    (record x.part {
      manager = after_losing x.part.manager s;
      gathers = behind_loss x.part.gathers s;
      held = filter (λ q. not (s.0 == q.task.system.0)) x.part.held;
    })

unfoldable pub lose_each : Standing → List SysId → Standing
lose_each x [] = x
lose_each x (s ∷ ss) = lose_each (lose x s) ss

-- Several are lost one after the other, before any entry is taken up of which then no part is awaited.
abbrev pub lose_all : List TaskId → Standing → List SysId → Standing
lose_all names x ss = take_up_all names (lose_each x ss)

-- the systems of a set below one, by number, and all of them
unfoldable pub members_below : ℕ → ℕ → List SysId
members_below set zero = []
members_below set (suc n) = members_below set n ++ cond (has set n) (record { 0 = n } ∷ []) []

abbrev pub members : ℕ → List SysId
members set = members_below set most_systems

-- a set without the systems of another one, m
abbrev pub without_those : ℕ → ℕ → ℕ
without_those m set = without_all most_systems m set

-- ---- an entry whose manager was removed

-- each task that has sent a request of an entry that isn't answered yet is to send it again
abbrev pub has_sent_in : StarPart → ℕ → TaskState → Bool
has_sent_in p e x = is_sent x.phase && asks_in p e x.outstanding

abbrev pub again : StarPart → ℕ → TaskState → TaskState
again p e x = cond (has_sent_in p e x) (record x { phase = phases.ToSend }) x

abbrev pub sent_again : StarPart → ℕ → TasksView → TasksView
sent_again p e v = record v { tasks = map (again p e) v.tasks }

-- the systems of a set that owe their parts to one of them, s: the others, but for those that it knows to be removed
abbrev pub awaited : ℕ → ℕ → ℕ → ℕ
awaited known s mask = without (without_those known mask) s

-- The system gathers the entry where it is to manage it, and else owes its part to the new manager. One that it owed to
-- an earlier manager isn't owed any more.
abbrev pub with_role : ℕ → StarPart → Moved → StarPart
with_role known p m =
    cond (m.manager.0 == p.manager.system.0)
    (record p {
      gathers = awaiting p.gathers m.entry (awaited known p.manager.system.0 m.mask);
      owes = owing p.owes m.entry None;
    })
    (record p { owes = owing p.owes m.entry (Some m.manager) })

-- whether the new manager of an entry is one of as many systems as there may be
abbrev pub names_system : Moved → Bool
names_system m = nat_lt m.manager.0 most_systems

-- An item of a notice has an effect where the system neither manages nor gathers the entry.
abbrev pub is_news : StarPart → ℕ → Bool
is_news p e = not (manages p e || gathers p e)

abbrev pub move_entry : ℕ → Standing → Moved → Standing
move_entry known x m =
    cond (is_news x.part m.entry) (standing (sent_again x.part m.entry x.tasks) (with_role known x.part m)) x

unfoldable pub move_each : ℕ → Standing → List Moved → Standing
move_each known x [] = x
move_each known x (m ∷ ms) = move_each known (move_entry known x m) ms

-- ---- mail, at a system that knows this set of systems to be removed

-- Behind a notice with these items, and behind a part, those entries are taken up of which no part is awaited.
abbrev pub took_notice : ℕ → List TaskId → Standing → List Moved → Standing
took_notice known names x ms = take_up_all names (move_each known x ms)

-- A part of a system that is known to be removed is dropped.
abbrev pub took_part : ℕ → List TaskId → Standing → ℕ → SysId → List PartRec → Standing
took_part known names x e s recs =
    cond (has known s.0) x
    (take_up_all names (standing x.tasks (record x.part { gathers = with_part_at x.part.gathers e s recs })))
