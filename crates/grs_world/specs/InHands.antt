-- Where a request may be that a task has sent and that isn't answered yet, in a complex that is in star mode: in the
-- hands of its lock entry's manager; or settled, so that the answer is in the inbox of the task's system; or in neither,
-- where the system was removed in whose hands it was, and a notice says so. It is in one of these at most. And where the
-- mail stands that tells tasks control.
use Rattle.std.specs.Prelude.{[], ◌≡◌, ◌≤◌, ◌<◌, ◌==◌, ◌&&◌, ◌||◌, ◌∷◌, ◌++◌, Bool, cond, false, filter, is_some}
use Rattle.std.specs.Prelude.{length, List, nat_lt, not, slice_get, Some, true, ℕ}
use Rattle.std.specs.List.{list_any}
use Rattle.contention_mgr.specs.Manager.{entry_wanted}
use Rattle.grs_base.specs.declared.resource.SysId.{SysId}
use Rattle.grs_base.specs.declared.resource.TaskId.{TaskId}
use Rattle.grs_medium.specs.Medium.{inbox}
use Rattle.grs_node.specs.Node.{NodeState}
use Rattle.grs_node.specs.Star.{StarPart}
use Rattle.grs_wire.specs.Masks.{has}
use Rattle.grs_wire.specs.Notices.{names, noticed}
use Rattle.grs_wire.specs.declared.deck.Deck.{Deck}
use Rattle.grs_wire.specs.declared.deck.Event.{Event}
use Rattle.grs_wire.specs.declared.medium.Mail.{Mail}
use Rattle.grs_wire.specs.declared.medium.Mail.TheVariants.{Answered, Granted, Notice, Part, Request}
use Rattle.grs_wire.specs.declared.request.Req.{Req}
use Rattle.lock_structure.specs.Entries.{entry_of_res, is_entry}
use Rattle.lock_structure.specs.Laws.{is_interested, manager_at}
use Rattle.star_client.specs.Client.{has_sent}
use Rattle.task_state.specs.View.{state_of, TasksView}
use Rattle.task_state.specs.declared.state.Asked.{Asked}
use Rattle.grs_world.specs.OnTheWay.{kept_of, Stance, stance_at}
use Rattle.grs_world.specs.World.{run, World}

-- ---- requests and answers
-- the requests among these mails
abbrev pub requests_in : List Mail → List Req
requests_in [] = []
requests_in (Request e from q ∷ ms) = q ∷ requests_in ms
requests_in (Answered t answer rank ∷ ms) = requests_in ms
requests_in (Granted t r ∷ ms) = requests_in ms
requests_in (Notice target moved ∷ ms) = requests_in ms
requests_in (Part e from records ∷ ms) = requests_in ms

-- What is in a system's hands: what it holds, and then what comes.
abbrev pub in_hands : StarPart → List Mail → List Req
in_hands p ms = p.held ++ requests_in ms

-- whether two tasks stand at one place of one system
abbrev pub same_place : TaskId → TaskId → Bool
same_place t u = (t.system.0 == u.system.0) && (t.task == u.task)

-- the requests among these of the task at a place
abbrev pub asked_by : TaskId → List Req → List Req
asked_by t qs = filter (λ q. same_place t q.task) qs

-- whether a mail of its system's inbox is an answer to the task at a place there
abbrev pub is_answer_to : ℕ → Mail → Bool
is_answer_to place (Answered u answer rank) = u.task == place
is_answer_to place mail = false

-- whether one answer to it is in that inbox, and no notice that names the entry stands in front of it
abbrev pub is_answered_once : ℕ → ℕ → List Mail → Bool
is_answered_once e place [] = false
is_answered_once e place (y ∷ ms) =
    cond (is_answer_to place y) (not (list_any (is_answer_to place) ms))
    (not (names e y) && is_answered_once e place ms)

-- ---- what a task has sent
-- A task has sent this request, which isn't answered yet: it is of this entry, in which the task's system has interest.
pub record HasSent (deck : Deck) (words : List ℕ) (v : TasksView) (t : TaskId) (a : Asked) (e : ℕ) : Type 0 where
  pub sent : has_sent v t ≡ true
  pub asks : (state_of v t).outstanding ≡ Some a
  pub at : entry_wanted deck.entries a.req.want ≡ Some e
  pub near : is_interested words e t.system.0 ≡ true

-- A request in the hands of system m is what its task has sent, whose system has these tasks and this inbox. By the
-- word m manages the entry; the task isn't answered, and no notice of the entry has still to be taken there.
pub record IsInHands (deck : Deck) (words : List ℕ) (m : SysId) (q : Req) (v : TasksView) (ms : List Mail) :
    Type 0 where
  pub asked : Asked
  pub entry : ℕ
  pub has : HasSent deck words v q.task asked entry
  pub same : asked.req.want ≡ q.want
  pub managed : manager_at words entry ≡ Some m
  pub unanswered : list_any (is_answer_to q.task.task) ms ≡ false
  pub unnoticed : noticed entry ms ≡ false

-- An answer in this inbox is to what its task has sent; it is the only one, and stands in front of each notice of the
-- entry.
pub record IsAnswered (deck : Deck) (words : List ℕ) (t : TaskId) (v : TasksView) (ms : List Mail) : Type 0 where
  pub asked : Asked
  pub entry : ℕ
  pub has : HasSent deck words v t asked entry
  pub once : is_answered_once entry t.task ms ≡ true

-- ---- after these events
-- a system that is there, and wasn't removed
pub record Lives (w : World) (s : ℕ) (n : NodeState) : Type 0 where
  pub at : slice_get w.nodes s ≡ Some n
  pub live : has w.medium.removed s ≡ false

-- Each request in the hands of a live system is as IsInHands says, if its task's system is live; no two of them are of
-- one task; and each answer in the inbox of a live system is as IsAnswered says.
pub record SettlesOnce (deck : Deck) (w : World) : Type 0 where
  pub hands : (m : SysId) (n : NodeState) (p : StarPart) (i : ℕ) (q : Req) (k : NodeState) → Lives w m.0 n
      → n.star ≡ Some p → slice_get (in_hands p (inbox w.medium m.0)) i ≡ Some q → Lives w q.task.system.0 k
      → IsInHands deck w.medium.words m q k.tasks (inbox w.medium q.task.system.0)
  pub single : (m : SysId) (n : NodeState) (p : StarPart) (t : TaskId) → Lives w m.0 n → n.star ≡ Some p
      → length (asked_by t (in_hands p (inbox w.medium m.0))) ≤ 1
  pub answers : (t : TaskId) (k : NodeState) → Lives w t.system.0 k
      → list_any (is_answer_to t.task) (inbox w.medium t.system.0) ≡ true
      → IsAnswered deck w.medium.words t k.tasks (inbox w.medium t.system.0)

abbrev pub RequestsSettleOnce : Deck → List Event → Type 0
RequestsSettleOnce deck es = SettlesOnce deck (run deck es)

-- ---- where an entry has still to be gathered
-- The manager of an entry by its word doesn't manage it yet: then where an answer that is of the entry is in an inbox, a
-- notice of it is there too. It stands behind the answer, since no notice stands in front of that (IsAnswered).
abbrev pub AnswersAreNoticed : Deck → List Event → Type 0
AnswersAreNoticed deck es =
    (t : TaskId) (k : NodeState) (a : Asked) (e : ℕ) (m : SysId) (M : Stance) → Lives (run deck es) t.system.0 k
    → list_any (is_answer_to t.task) (inbox (run deck es).medium t.system.0) ≡ true
    → HasSent deck (run deck es).medium.words k.tasks t a e → manager_at (run deck es).medium.words e ≡ Some m
    → stance_at (run deck es) e m.0 ≡ Some M → M.manages ≡ false
    → noticed e (inbox (run deck es).medium t.system.0) ≡ true

-- ---- control of the resources of an entry
-- whether a mail tells a task control of a resource of this entry, where there are n entries
abbrev pub is_control_of : ℕ → ℕ → Mail → Bool
is_control_of n e (Granted t r) = is_entry e (entry_of_res n r)
is_control_of n e mail = false

-- whether one of these mails tells such control, and no notice of the entry stands behind it
abbrev pub is_told_late : ℕ → ℕ → List Mail → Bool
is_told_late n e [] = false
is_told_late n e (y ∷ ms) = (is_control_of n e y && not (noticed e ms)) || is_told_late n e ms

-- Whether the part of system u is on its way to one that stands so to the entry: u has still to take a notice of it, or
-- owes its part, or sent it there, or it is kept there.
abbrev pub is_expected : ℕ → Stance → Stance → Bool
is_expected u M U =
    is_some U.notice
    || (is_some U.owes || (nat_lt 0 (length (M.coming u)) || nat_lt 0 (length (kept_of M.gathering u))))

-- Then no control of the entry's resources comes behind the notices that u has of it.
abbrev pub ControlComesFirst : Deck → List Event → Type 0
ControlComesFirst deck es =
    (e : ℕ) (m u : SysId) (M U : Stance) → e < deck.entries → (m.0 == u.0) ≡ false
    → stance_at (run deck es) e m.0 ≡ Some M → stance_at (run deck es) e u.0 ≡ Some U → is_expected u.0 M U ≡ true
    → is_told_late deck.entries e (inbox (run deck es).medium u.0) ≡ false
