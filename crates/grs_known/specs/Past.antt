-- What a task's standing depends on: its own elements, what it owns, and its entries; and what each entry makes of that
-- by its reply alone.
use Rattle.std.specs.Prelude.{◌≡◌, ℕ, Bool, true, false, not, cond, filter, map, List, [], ◌∷◌, ◌++◌, Option, Some}
use Rattle.std.specs.Prelude.{None}
use Rattle.std.specs.List.{list_any}
use Rattle.grs_base.specs.Same.{same_res, same_task}
use Rattle.grs_base.specs.Lists.{owns}
use Rattle.grs_base.specs.State.{pick, State, list_of}
use Rattle.grs_base.specs.declared.resource.Ctl.{Ctl}
use Rattle.grs_base.specs.declared.resource.Ctl.TheVariants.{E}
use Rattle.grs_base.specs.declared.resource.Res.{Res}
use Rattle.grs_base.specs.declared.resource.Ret.{Ret}
use Rattle.grs_base.specs.declared.resource.TaskId.{TaskId}
use Rattle.grs_base.specs.declared.decision.Code.{Code}
use Rattle.grs_base.specs.declared.decision.Effect.{Effect}
use Rattle.grs_base.specs.declared.decision.Effect.TheVariants.{Nothing, Append, MakeExclusive}
use Rattle.grs_legal.specs.Legal.{entries_of, line_entries, last_entry, is_of_line}
use Rattle.grs_wire.specs.History.{replay}
use Rattle.grs_wire.specs.declared.history.HistEntry.{HistEntry}
use Rattle.grs_wire.specs.declared.history.HistEntry.TheVariants.{Enq, Deq, Release, Look, Remove}
use Rattle.task_state.specs.Replies.{is_granted, is_queued, is_changed}
use Rattle.grs_known.specs.Items.{RunItem, gives_back, owns_told, removes_system_of, lists, mine, history, AllMade}
use Rattle.grs_known.specs.Items.{AllCount}
use Rattle.grs_known.specs.Known.{Known, learned, outstanding, IsRight, learns_item}

-- a task's own elements: their resources, each with its control, in the order in which they were queued
abbrev pub own_elements : State → TaskId → List (Res × Ctl)
own_elements s t = pick (λ h. same_task t h.1.task) (λ h. (h.0, h.1.ctl)) s

-- one of them, with the control of this resource made exclusive
abbrev pub made_exclusive : Res → Res × Ctl → Res × Ctl
made_exclusive r k = cond (same_res r k.0) (k.0, E) k

-- what an ENQ's answer tells of its effect
abbrev pub effect_told : Ret → Code → Effect
effect_told ret code = cond (is_queued ret code) Append (cond (is_changed ret code) MakeExclusive Nothing)

abbrev pub own_by_effect : Effect → Res → Ctl → List (Res × Ctl) → List (Res × Ctl)
own_by_effect Nothing r c ks = ks
own_by_effect Append r c ks = ks ++ (r, c) ∷ []
own_by_effect MakeExclusive r c ks = map (made_exclusive r) ks

-- a task's own elements after an entry of its own, and after several
abbrev pub own_told : HistEntry → List (Res × Ctl) → List (Res × Ctl)
own_told (Enq t r c ret code) ks = own_by_effect (effect_told ret code) r c ks
own_told (Deq t r have code) ks = cond (is_granted code) (filter (λ k. not (same_res r k.0)) ks) ks
own_told (Release t r) ks = filter (λ k. not (same_res r k.0)) ks
own_told (Look t place f rows) ks = ks
own_told (Remove by target) ks = ks

abbrev pub own_after : List (Res × Ctl) → List HistEntry → List (Res × Ctl)
own_after ks [] = ks
own_after ks (h ∷ hs) = own_after (own_told h ks) hs

-- A task's past: its own elements, whether it owns a resource, the entries that its lines asked for, and its last
-- entry.
pub record Past : Type 0 where
  pub own : List (Res × Ctl)
  pub owns : Res → Bool
  pub asked : List HistEntry
  pub last : Option HistEntry

-- the past after an entry, and after several
abbrev pub after_entry : HistEntry → Past → Past
after_entry h p = record {
  own = own_told h p.own;
  owns = owns_told h p.owns;
  asked = cond (is_of_line h) (p.asked ++ h ∷ []) p.asked;
  last = Some h;
}

abbrev pub after_entries : List HistEntry → Past → Past
after_entries [] p = p
after_entries (h ∷ hs) p = after_entries hs (after_entry h p)

-- the past of these entries, of a task that owns this
abbrev pub past_by : (Res → Bool) → List HistEntry → Past
past_by f hs = record { own = own_after [] hs; owns = f; asked = filter is_of_line hs; last = last_entry hs }

-- the past of a task by what is known of it
abbrev pub past_of : TaskId → Known → List RunItem → Past
past_of t k T = past_by k.owns (history (learned t k T))

-- The past is that of the task in a history: its elements are those of the lists, what it owns it owns by the lists,
-- and its entries are the history's.
pub record Speaks (limit : ℕ) (t : TaskId) (p : Past) (P : List HistEntry) : Type 0 where
  pub own : own_elements (replay limit P) t ≡ p.own
  pub owns : (r : Res) → p.owns r ≡ true → owns (list_of (replay limit P) r) t ≡ true
  pub asked : line_entries t P ≡ p.asked
  pub last : last_entry (entries_of t P) ≡ p.last

-- Of one resource, where something else is outstanding: what the task owns by the past it owns by the lists, and the
-- history may have more entries of its lines.
pub record SpeaksOf (limit : ℕ) (t : TaskId) (r : Res) (p : Past) (P : List HistEntry) : Type 0 where
  pub owns : p.owns r ≡ true → owns (list_of (replay limit P) r) t ≡ true
  pub asked : (more : List HistEntry) × (line_entries t P ≡ p.asked ++ more)

-- whether an outstanding item gives a resource up
abbrev pub may_leave : Res → Option RunItem → Bool
may_leave r None = false
may_leave r (Some x) = gives_back r x.fixed

-- whether one of a task's own elements is on this resource
abbrev pub has_own : Res → List (Res × Ctl) → Bool
has_own r ks = list_any (λ k. same_res r k.0) ks

-- What a reply of the plain lists says of its asker's past: an ENQ is queued only where its task has no element; a DEQ
-- that isn't answered 00 had no control to give up.
abbrev pub Fits : Past → HistEntry → Type 0
Fits p (Enq u r c ret code) = is_queued ret code ≡ true → has_own r p.own ≡ false
Fits p (Deq u r have code) = is_granted code ≡ false → p.owns r ≡ false
Fits p (Release u r) = Unit {0}
Fits p (Look u place filter rows) = Unit {0}
Fits p (Remove by target) = Unit {0}

-- ---- laws

-- A task's elements are those which its items queued, by their replies, unless its system was removed.
abbrev pub ElementsAreOfItems : Type 0
ElementsAreOfItems =
    (t : TaskId) (T : List RunItem) → AllMade [] T → list_any (λ x. removes_system_of t x.fixed) T ≡ false
    → own_elements (lists T) t ≡ own_after [] (history (mine t T))

-- Learning an item makes the past longer by its entries.
abbrev pub PastGrows : Type 0
PastGrows =
    (t : TaskId) (k : Known) (T : List RunItem) (x : RunItem) → outstanding t k T ≡ Some x
    → past_of t (learns_item k x) T ≡ after_entries x.entries (past_of t k T)

-- Of a resource that the outstanding item doesn't give up the past by what is known is that of the history.
abbrev pub PastSpeaksOf : Type 0
PastSpeaksOf =
    (limit : ℕ) (t : TaskId) (r : Res) (k : Known) (T : List RunItem) → AllMade [] T → AllCount limit [] T
    → may_leave r (outstanding t k T) ≡ false → IsRight t k T → SpeaksOf limit t r (past_of t k T) (history T)

-- Of a task with nothing outstanding the past by what is known is that of the history.
abbrev pub PastSpeaks : Type 0
PastSpeaks =
    (limit : ℕ) (t : TaskId) (k : Known) (T : List RunItem) → AllMade [] T → AllCount limit [] T
    → list_any (λ x. removes_system_of t x.fixed) T ≡ false → k.behind ≡ false → IsRight t k T
    → Speaks limit t (past_of t k T) (history T)

-- The reply in a task's outstanding item fits its past by what is known.
abbrev pub ReplyFits : Type 0
ReplyFits =
    (t : TaskId) (k : Known) (T : List RunItem) (x : RunItem) (h : HistEntry) → AllMade [] T
    → list_any (λ y. removes_system_of t y.fixed) T ≡ false → outstanding t k T ≡ Some x → x.entries ≡ h ∷ []
    → IsRight t k T → Fits (past_of t k T) h
