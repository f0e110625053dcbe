-- What a system in the ring learns by its table, which is what the items that it has processed lead to, of those that
-- went with the message.
use Rattle.std.specs.Prelude.{◌≡◌, Bool, true, false, ◌&&◌, cond, List, [], ◌∷◌, ◌++◌, Option, Some, None}
use Rattle.std.specs.List.{list_any}
use Rattle.grs_base.specs.Same.{same_task}
use Rattle.grs_base.specs.Lists.{owns}
use Rattle.grs_base.specs.State.{State, list_of}
use Rattle.grs_base.specs.declared.resource.Res.{Res}
use Rattle.grs_base.specs.declared.resource.TaskId.{TaskId}
use Rattle.grs_wire.specs.Wants.{answer_to, res_wanted, new_owners}
use Rattle.grs_wire.specs.declared.request.Fixed.{Fixed}
use Rattle.grs_wire.specs.declared.request.Fixed.TheVariants.{Asked, LocalLook, Purged}
use Rattle.grs_wire.specs.declared.request.Req.{Req}
use Rattle.grs_known.specs.Items.{RunItem, is_of, removes_system_of, gives_back, wants_round, mine, rounds, reply_in}
use Rattle.grs_known.specs.Items.{lists, Made, AllMade}
use Rattle.grs_known.specs.Known.{Known, outstanding, Still, IsRight, learns_item, learns_control}

-- whether one of the task's items among these asks to give the resource up
abbrev pub gives_among : TaskId → Res → List RunItem → Bool
gives_among t r xs = list_any (λ x. is_of t x.fixed && gives_back r x.fixed) xs

-- Behind a front the task's system may have decided some of its items at once. None of these gives the resource up; and
-- where the task is behind, one more item of it stands behind them, as its last.
pub data Keeps (t : TaskId) (r : Res) (k : Known) : List RunItem → Type 0 where
  all_known : (rest : List RunItem) → k.behind ≡ false → gives_among t r rest ≡ false → Keeps t r k rest
  all_but : (mid : List RunItem) (x : RunItem) (rest : List RunItem) → k.behind ≡ true → gives_among t r mid ≡ false
      → is_of t x.fixed ≡ true → mine t rest ≡ [] → Keeps t r k (mid ++ x ∷ rest)

-- ---- an item of the message is processed

-- the asker learns its item
abbrev pub learns_mine : TaskId → Known → RunItem → Known
learns_mine t k x = cond (is_of t x.fixed) (learns_item k x) k

-- the resource of which a task becomes an owner by what was fixed, where these are the lists; of a removal nothing is
-- said
abbrev pub gained : TaskId → State → Fixed → Option Res
gained t table (Asked q) = cond (list_any (same_task t) (new_owners table q.task q.want)) (res_wanted q.want) None
gained t table (LocalLook u f) = None
gained t table (Purged target) = None

abbrev pub learns_gained : Known → Option Res → Known
learns_gained k None = k
learns_gained k (Some r) = learns_control k r

-- what is known of a task once its system has processed an item, with this table before
abbrev pub after_read : TaskId → Known → State → RunItem → Known
after_read t k table x = learns_gained (learns_mine t k x) (gained t table x.fixed)

-- ---- laws

-- The table answers a request that goes with the message as the history does.
abbrev pub TableAnswers : Type 0
TableAnswers =
    (front : List RunItem) (x : RunItem) (q : Req) → x.fixed ≡ Asked q → wants_round q.want ≡ true → Made front x
    → answer_to (lists (rounds front)) q.task q.want ≡ reply_in x.entries

-- An owner by a front is still one by all items, however many of its own its system has decided behind the front,
-- unless these give the resource up.
abbrev pub OwnersStayOn : Type 0
OwnersStayOn =
    (t : TaskId) (r : Res) (k : Known) (front rest : List RunItem) → AllMade front rest
    → list_any (λ x. removes_system_of t x.fixed) rest ≡ false → Keeps t r k rest →
    owns (list_of (lists front) r) t ≡ true → Still r t (front ++ rest) (outstanding t k (front ++ rest))

-- What a system in the ring knows of a task stays right when it processes a request of the message by its table: the
-- asker's is its outstanding item, and control that the table gives is still there.
abbrev pub ReadingIsRight : Type 0
ReadingIsRight =
    (t : TaskId) (k : Known) (front : List RunItem) (x : RunItem) (rest : List RunItem) (q : Req) → x.fixed ≡ Asked q
    → wants_round q.want ≡ true →
    AllMade front (x ∷ rest) → list_any (λ y. removes_system_of t y.fixed) rest ≡ false
    → (is_of t x.fixed ≡ true → outstanding t k (front ++ x ∷ rest) ≡ Some x) →
    ((r : Res) → res_wanted q.want ≡ Some r → Keeps t r (learns_mine t k x) rest) →
    IsRight t k (front ++ x ∷ rest) → IsRight t (after_read t k (lists (rounds front)) x) (front ++ x ∷ rest)
