-- The laws on items and on what is known of a task. They speak of no mode and of no program.
use Rattle.std.specs.Prelude.{◌≡◌, ◌⊎◌, ℕ, true, false, cond, List, [], ◌∷◌, ◌++◌, Option, Some, None, Bool, ◌&&◌}
use Rattle.std.specs.List.{list_any}
use Rattle.grs_base.specs.Same.{same_task}
use Rattle.grs_base.specs.Lists.{owns}
use Rattle.grs_base.specs.State.{State, list_of}
use Rattle.grs_base.specs.declared.resource.Res.{Res}
use Rattle.grs_base.specs.declared.resource.SysId.{SysId}
use Rattle.grs_base.specs.declared.resource.TaskId.{TaskId}
use Rattle.grs_legal.specs.Legal.{entries_of}
use Rattle.grs_wire.specs.History.{answered, entries_for, replay}
use Rattle.grs_wire.specs.Wants.{answer_to}
use Rattle.grs_wire.specs.declared.request.Answer.{Answer}
use Rattle.grs_wire.specs.declared.request.Fixed.{Fixed}
use Rattle.grs_wire.specs.declared.request.Want.{Want}
use Rattle.grs_known.specs.Items.{RunItem, is_of, removes_system_of, gives_back, mine, tells, reply_in, lists, Made}
use Rattle.grs_known.specs.Items.{AllMade, history, items, AllCount}
use Rattle.grs_known.specs.Known.{Known, learned, outstanding, Still, IsRight, falls_behind, learns_item}
use Rattle.grs_known.specs.Known.{learns_control, News, Answers, Grants, Wants, Silent, is_answer_to, Coming}
use Rattle.grs_known.specs.Known.{after_news}

-- ---- items

-- The history is the entries of the items, which stand as the plain lists give them.
abbrev pub ItemsAreHistory : Type 0
ItemsAreHistory = (fixed : List (SysId × Fixed)) → (history (items fixed) ≡ answered fixed) × AllMade [] (items fixed)

-- The reply in a request's entries is what the lists answer.
abbrev pub RepliesAreAnswers : Type 0
RepliesAreAnswers = (s : State) (t : TaskId) (w : Want) → reply_in (entries_for s t w) ≡ answer_to s t w

-- The lists after the items are those to which their history leads.
abbrev pub ListsAreReplayed : Type 0
ListsAreReplayed =
    (limit : ℕ) (T : List RunItem) → AllMade [] T → AllCount limit [] T → lists T ≡ replay limit (history T)

-- The entries of a task are those of its items.
abbrev pub EntriesAreOfItems : Type 0
EntriesAreOfItems = (t : TaskId) (T : List RunItem) → AllMade [] T → entries_of t (history T) ≡ history (mine t T)

-- ---- what is known

-- Another task's item, whoever fixed it, leaves all as it is.
pub record KeptAll (t : TaskId) (k : Known) (T : List RunItem) (x : RunItem) (ns : List News) : Type 0 where
  pub right : IsRight t k (T ++ x ∷ [])
  pub coming : Coming t k (T ++ x ∷ []) ns
  pub same : learned t k (T ++ x ∷ []) ≡ learned t k T

abbrev pub OthersKeep : Type 0
OthersKeep =
    (t : TaskId) (k : Known) (T : List RunItem) (x : RunItem) (ns : List News) → is_of t x.fixed ≡ false
    → removes_system_of t x.fixed ≡ false →
    IsRight t k T → Coming t k T ns → KeptAll t k T x ns

-- An item of the task that another system fixes, as a manager does with a Settle: what is known is right and is as
-- much as before, though now behind, and the answer may come last.
pub record FixedElsewhere (t : TaskId) (k : Known) (T : List RunItem) (x : RunItem) (ns : List News) : Type 0 where
  pub right : IsRight t (falls_behind k) (T ++ x ∷ [])
  pub coming : Coming t (falls_behind k) (T ++ x ∷ []) (ns ++ Answers t (reply_in x.entries) ∷ [])
  pub same : learned t (falls_behind k) (T ++ x ∷ []) ≡ learned t k T

abbrev pub AnswerIsSent : Type 0
AnswerIsSent =
    (t : TaskId) (k : Known) (T : List RunItem) (x : RunItem) (ns : List News) → is_of t x.fixed ≡ true
    → k.behind ≡ false → Made T x →
    list_any (is_answer_to t) ns ≡ false → IsRight t k T → Coming t k T ns → FixedElsewhere t k T x ns

-- whether it is control of a resource for this task that what was fixed gives up
abbrev pub is_given_back : TaskId → Fixed → News → Bool
is_given_back t f (Answers u a) = false
is_given_back t f (Grants u r) = same_task t u && gives_back r f
is_given_back t f (Wants q) = false
is_given_back t f Silent = false

-- An item of the task that its own system decides at once, with nothing outstanding: it is learned, and what is known
-- is right, and what comes, unless that is control of what the item gives up.
pub record DecidedHere (t : TaskId) (k : Known) (T : List RunItem) (x : RunItem) (ns : List News) : Type 0 where
  pub right : IsRight t (learns_item k x) (T ++ x ∷ [])
  pub coming : Coming t (learns_item k x) (T ++ x ∷ []) ns
  pub longer : learned t (learns_item k x) (T ++ x ∷ []) ≡ learned t k T ++ x ∷ []

abbrev pub DecidedAtOnce : Type 0
DecidedAtOnce =
    (t : TaskId) (k : Known) (T : List RunItem) (x : RunItem) (ns : List News) → is_of t x.fixed ≡ true
    → k.behind ≡ false → Made T x →
    list_any (is_given_back t x.fixed) ns ≡ false → IsRight t k T → Coming t k T ns → DecidedHere t k T x ns

-- The answer comes: it is the reply in the outstanding item, which is learned with it; control that it tells is there
-- now; and what is known, and what comes behind, is right.
pub record ItemLearned (t : TaskId) (k : Known) (T : List RunItem) (a : Answer) (ns : List News) : Type 0 where
  pub item : RunItem
  pub reply : reply_in item.entries ≡ a
  pub longer : learned t (learns_item k item) T ≡ learned t k T ++ item ∷ []
  pub control : (r : Res) → list_any (tells r) item.entries ≡ true → owns (list_of (lists T) r) t ≡ true
  pub right : IsRight t (learns_item k item) T
  pub coming : Coming t (learns_item k item) T ns

abbrev pub AnswerIsLearned : Type 0
AnswerIsLearned =
    (t : TaskId) (k : Known) (T : List RunItem) (a : Answer) (ns : List News) → IsRight t k T
    → Coming t k T (Answers t a ∷ ns) → ItemLearned t k T a ns

-- Control comes: it is still there, and what is known, and what comes behind, is right.
pub record ControlLearned (t : TaskId) (k : Known) (T : List RunItem) (r : Res) (ns : List News) : Type 0 where
  pub still : Still r t T (outstanding t k T)
  pub same : learned t (learns_control k r) T ≡ learned t k T
  pub right : IsRight t (learns_control k r) T
  pub coming : Coming t (learns_control k r) T ns

abbrev pub ControlIsLearned : Type 0
ControlIsLearned =
    (t : TaskId) (k : Known) (T : List RunItem) (r : Res) (ns : List News) → IsRight t k T
    → Coming t k T (Grants t r ∷ ns) → ControlLearned t k T r ns

-- Control that is still there once all before it was read may come last.
abbrev pub ControlIsSent : Type 0
ControlIsSent =
    (t : TaskId) (k : Known) (T : List RunItem) (ns : List News) (r : Res) → Coming t k T ns
    → Still r t T (outstanding t (after_news t k T ns) T) → Coming t k T (ns ++ Grants t r ∷ [])

-- Reading the first of what comes leaves what is known, and the rest, right.
pub record ReadRight (t : TaskId) (k : Known) (T : List RunItem) (first rest : List News) : Type 0 where
  pub right : IsRight t (after_news t k T first) T
  pub coming : Coming t (after_news t k T first) T rest

abbrev pub ReadInOrder : Type 0
ReadInOrder =
    (t : TaskId) (k : Known) (T : List RunItem) (first rest : List News) → IsRight t k T → Coming t k T (first ++ rest)
    → ReadRight t k T first rest

-- Of a task without an outstanding item all items are known, and what it owns by them it owns by the lists.
abbrev pub AllIsKnown : Type 0
AllIsKnown =
    (t : TaskId) (k : Known) (T : List RunItem) → k.behind ≡ false → IsRight t k T
    → (learned t k T ≡ mine t T) × ((r : Res) → k.owns r ≡ true → owns (list_of (lists T) r) t ≡ true)

-- the first of a task's items among these
abbrev pub first_mine : TaskId → List RunItem → Option RunItem
first_mine t [] = None
first_mine t (x ∷ xs) = cond (is_of t x.fixed) (Some x) (first_mine t xs)

-- An owner by a front of the items, behind which its task has at most one, is still one by all of them. So what a
-- system of the ring sees in its table is right.
abbrev pub FrontOwnersStay : Type 0
FrontOwnersStay =
    (t : TaskId) (r : Res) (front rest : List RunItem) → AllMade front rest
    → list_any (λ x. removes_system_of t x.fixed) rest ≡ false
    → (mine t rest ≡ []) ⊎ ((x : RunItem) × (mine t rest ≡ x ∷ [])) →
    owns (list_of (lists front) r) t ≡ true → Still r t (front ++ rest) (first_mine t rest)
