-- Laws of the plain lists.
use Rattle.std.specs.Prelude.{◌≡◌, ℕ, Bool, true, false, not, ◌==◌, cond, List, filter}
use Rattle.grs_base.specs.Same.{same_res, same_task}
use Rattle.grs_base.specs.Lists.{owns, is_apart, list_after, list_without, decide_enq, is_owner, standing_of}
use Rattle.grs_base.specs.State.{State, list_of, is_full, is_systems}
use Rattle.grs_base.specs.declared.resource.Res.{Res}
use Rattle.grs_base.specs.declared.resource.TaskId.{TaskId}
use Rattle.grs_base.specs.declared.resource.Elem.{Elem}
use Rattle.grs_wire.specs.History.{step, replay}
use Rattle.grs_wire.specs.declared.history.HistEntry.{HistEntry}
use Rattle.grs_wire.specs.declared.history.HistEntry.TheVariants.{Enq, Deq, Release, Look, Remove}

-- whether an entry may change the list of a resource: a request that of its own, a removal those of all
-- Systems resources, a look none
abbrev pub may_change : HistEntry → Res → Bool
may_change (Enq t q c ret code) r = same_res r q
may_change (Deq t q have code) r = same_res r q
may_change (Release t q) r = same_res r q
may_change (Look t place f rows) r = false
may_change (Remove by target) r = is_systems r

-- An entry changes no other list.
abbrev pub KeepsOtherLists : Type 0
KeepsOtherLists =
    (limit : ℕ) (s : State) (h : HistEntry) (r : Res) → may_change h r ≡ false
    → list_of (step limit s h) r ≡ list_of s r

-- a list that an entry may change, afterwards, from that list and whether the asker is full
abbrev pub list_stepped : (TaskId → Bool) → List Elem → HistEntry → List Elem
list_stepped full es (Enq t r c ret code) = list_after es t c (decide_enq es t c ret (full t)).effect
list_stepped full es (Deq t r have code) = cond (is_owner (standing_of es t)) (list_without es t) es
list_stepped full es (Release t r) = list_without es t
list_stepped full es (Look t place f rows) = es
list_stepped full es (Remove by target) = filter (λ e. not (target.0 == e.task.system.0)) es

-- A list that an entry may change becomes what the tables say of that list alone.
abbrev pub StepsByLists : Type 0
StepsByLists =
    (limit : ℕ) (s : State) (h : HistEntry) (r : Res) → may_change h r ≡ true
    → list_of (step limit s h) r ≡ list_stepped (is_full limit s) (list_of s r) h

-- whether an entry is of this task, or removes its system
abbrev pub concerns : TaskId → HistEntry → Bool
concerns t (Enq u r c ret code) = same_task t u
concerns t (Deq u r have code) = same_task t u
concerns t (Release u r) = same_task t u
concerns t (Look u place f rows) = same_task t u
concerns t (Remove by target) = target.0 == t.system.0

-- An owner stays one after an entry of another task, unless its system is removed.
abbrev pub KeepsOwners : Type 0
KeepsOwners =
    (limit : ℕ) (s : State) (h : HistEntry) (r : Res) (t : TaskId) → concerns t h ≡ false → owns (list_of s r) t ≡ true
    → owns (list_of (step limit s h) r) t ≡ true

-- No task stands twice in a list, at any time.
abbrev pub NoneTwice : Type 0
NoneTwice = (limit : ℕ) (hs : List HistEntry) (r : Res) → is_apart (list_of (replay limit hs) r) ≡ true
