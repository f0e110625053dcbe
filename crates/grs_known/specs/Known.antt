-- What a system knows of one of its tasks, in any mode: how much of the run it has learned of the task, and what the
-- task owns by what was learned; and what the system has still to learn.
use Rattle.std.specs.Prelude.{◌≡◌, Bool, true, false, ◌||◌, cond, List, [], ◌∷◌, Option, Some, None, is_some}
use Rattle.std.specs.List.{list_any}
use Rattle.grs_base.specs.Same.{same_res, same_task}
use Rattle.grs_base.specs.Lists.{owns}
use Rattle.grs_base.specs.State.{list_of}
use Rattle.grs_base.specs.declared.resource.Res.{Res}
use Rattle.grs_base.specs.declared.resource.TaskId.{TaskId}
use Rattle.grs_wire.specs.declared.request.Answer.{Answer}
use Rattle.grs_wire.specs.declared.request.Req.{Req}
use Rattle.grs_known.specs.Items.{RunItem, gives_back, took, owns_after, tells, reply_in, lists, mine}

-- What a system knows of a task: whether it has still to learn the task's last item, and what the task owns by what
-- was learned.
pub record Known : Type 0 where
  pub behind : Bool
  pub owns : Res → Bool

abbrev pub all_but_last : List RunItem → List RunItem
all_but_last [] = []
all_but_last (x ∷ []) = []
all_but_last (x ∷ y ∷ ys) = x ∷ all_but_last (y ∷ ys)

abbrev pub last_of : List RunItem → Option RunItem
last_of [] = None
last_of (x ∷ []) = Some x
last_of (x ∷ y ∷ ys) = last_of (y ∷ ys)

-- the task's items that were learned, and the one that wasn't yet, if there is one
abbrev pub learned : TaskId → Known → List RunItem → List RunItem
learned t k T = cond k.behind (all_but_last (mine t T)) (mine t T)

abbrev pub outstanding : TaskId → Known → List RunItem → Option RunItem
outstanding t k T = cond k.behind (last_of (mine t T)) None

-- What a task owned is still its own by the lists after all items, unless the outstanding item gives it up; and the
-- reply of one that does took it.
abbrev pub Still : Res → TaskId → List RunItem → Option RunItem → Type 0
Still r t T None = owns (list_of (lists T) r) t ≡ true
Still r t T (Some x) =
    (gives_back r x.fixed ≡ false → owns (list_of (lists T) r) t ≡ true)
    × (gives_back r x.fixed ≡ true → list_any (took r) x.entries ≡ true)

-- Control that the outstanding item's reply tells is there by the lists after all items.
abbrev pub Given : TaskId → List RunItem → Option RunItem → Type 0
Given t T None = Unit {0}
Given t T (Some x) = (r : Res) → list_any (tells r) x.entries ≡ true → owns (list_of (lists T) r) t ≡ true

-- What is known of a task is right. A task is behind only where there is an item that it has still to learn.
pub record IsRight (t : TaskId) (k : Known) (T : List RunItem) : Type 0 where
  pub waits : k.behind ≡ true → is_some (outstanding t k T) ≡ true
  pub owned : (r : Res) → k.owns r ≡ true → Still r t T (outstanding t k T)
  pub given : Given t T (outstanding t k T)

-- ---- how it changes

-- an item of the task is fixed, and not learned yet
abbrev pub falls_behind : Known → Known
falls_behind k = record { behind = true; owns = k.owns }

-- an item is learned, by its reply
abbrev pub learns_item : Known → RunItem → Known
learns_item k x = record { behind = false; owns = owns_after k.owns x.entries }

abbrev pub learns_any : Known → Option RunItem → Known
learns_any k None = k
learns_any k (Some x) = learns_item k x

-- control of a resource is learned
abbrev pub learns_control : Known → Res → Known
learns_control k r = record { behind = k.behind; owns = λ q. k.owns q || same_res q r }

-- ---- what comes

-- What comes to a system: the answer to a request of its task, control that its task got, or a request that it is to
-- settle as a manager, which tells it nothing of its own tasks; and what else tells it nothing of them.
pub data News : Type 0 where
  Answers : TaskId → Answer → News
  Grants : TaskId → Res → News
  Wants : Req → News
  Silent : News

-- whether it answers this task
abbrev pub is_answer_to : TaskId → News → Bool
is_answer_to t (Answers u a) = same_task t u
is_answer_to t (Grants u r) = false
is_answer_to t (Wants q) = false
is_answer_to t Silent = false

-- What comes of a task is right, in the order in which it comes. An answer is that of the outstanding item, with the
-- reply which stands there; control is still there by what is known where it comes; and what comes behind each is
-- right by what is known then. This is about what does come: nothing wrong comes. That what a task waits for is on its
-- way, so that nothing is lost, isn't said here; a task may be behind with nothing that comes.
abbrev pub Coming : TaskId → Known → List RunItem → List News → Type 0
Coming t k T [] = Unit {0}
Coming t k T (Answers u a ∷ ns) =
    (same_task t u ≡ true
    → (x : RunItem) × (outstanding t k T ≡ Some x) × (reply_in x.entries ≡ a) × Coming t (learns_item k x) T ns)
    × (same_task t u ≡ false → Coming t k T ns)
Coming t k T (Grants u r ∷ ns) =
    (same_task t u ≡ true → Still r t T (outstanding t k T) × Coming t (learns_control k r) T ns)
    × (same_task t u ≡ false → Coming t k T ns)
Coming t k T (Wants q ∷ ns) = Coming t k T ns
Coming t k T (Silent ∷ ns) = Coming t k T ns

-- what is known once all of this was read
abbrev pub after_news : TaskId → Known → List RunItem → List News → Known
after_news t k T [] = k
after_news t k T (Answers u a ∷ ns) =
    cond (same_task t u) (after_news t (learns_any k (outstanding t k T)) T ns) (after_news t k T ns)
after_news t k T (Grants u r ∷ ns) = cond (same_task t u) (after_news t (learns_control k r) T ns) (after_news t k T ns)
after_news t k T (Wants q ∷ ns) = after_news t k T ns
after_news t k T (Silent ∷ ns) = after_news t k T ns
