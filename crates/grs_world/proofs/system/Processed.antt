-- A system processes an item of the message by its table.
use Rattle.grs_world.proofs.Common.{[], ◌&&◌, ◌++◌, ◌==◌, ◌||◌, ◌∙◌, ◌∷◌, ◌≡◌, ◌≢◌, after_want, among-front, and_parts}
use Rattle.grs_world.proofs.Common.{Answer, answer_own, answer_to, answered, ap, are_sent, Asked, askers, Bool, cond}
use Rattle.grs_world.proofs.Common.{Deck, Deq, Enq, entries_for, eqb-false, eqb-true, false, false_by, filter-cons_kept}
use Rattle.grs_world.proofs.Common.{filter-cons_left, gives_up, here-kept, HistEntry, history, is_among, is_home_at}
use Rattle.grs_world.proofs.Common.{is_leaving, is_look, is_of, is_sent, is_some, is_task, is_task-system, IsAsk}
use Rattle.grs_world.proofs.Common.{IsAskedFor, IsGood, IsHere, IsHistory, IsLooks, IsLooksBy, IsOpenBy, IsOurs, IsReq}
use Rattle.grs_world.proofs.Common.{IsTask, line_asked, lines_of, List, list_all, lists, Look, Meaning, mine}
use Rattle.grs_world.proofs.Common.{new_owners, NodeState, None, none, not, not-true, Opens, Option, outstanding}
use Rattle.grs_world.proofs.Common.{own_asked, Past, past_of, phase_seen, process, recalled, refl, Release, Req, Res}
use Rattle.grs_world.proofs.Common.{res_wanted, rounds, RunItem, same_task, same_task-itself, Some, some_of}
use Rattle.grs_world.proofs.Common.{stand_apart, State, state_of, StaysGood, subst, sym, task-open, TaskId, TaskState}
use Rattle.grs_world.proofs.Common.{TasksView, tell_answer, tell_answer_any, tell_new, ToldBy, true, unasked_by, Want}
use Rattle.grs_world.proofs.Common.{wants_round, ℕ}
use Rattle.ring_mode.specs.Ring.{Side, is_asked}
use Rattle.grs_known.proofs.lists.Shows.{looks-are}
use Rattle.grs_known.proofs.system.Events.{Decides, Leaves, Looks, tells_good}
use Rattle.grs_wire.specs.contracts.request.WantPartialEq.TheImpl.{eq-value as same_want}
use Rattle.ring_mode.proofs.WantLaws.{want-itself}
use Rattle.grs_known.proofs.known.Knowing.{one-some}
use Rattle.grs_known.proofs.ring.Due.{ReadBy, read_by}
use Rattle.grs_known.proofs.known.Knows.{KnowsLooks, entry-learned, looks-learned}
use Rattle.grs_world.proofs.system.AtNode.{opens_of, Seen, after-asked, not-ours}
use Rattle.grs_known.proofs.system.Outstanding.{asked-good}
use Rattle.grs_wire.specs.declared.request.Fixed.TheVariants as fixing

-- ---- what the node does
-- a system's node after it has processed an entry of the message
abbrev pub after_read : NodeState → Req → NodeState
after_read n q =
    let side : Side = process (record { tasks = n.tasks; shared = n.shared }) q in
    record n { tasks = side.tasks; shared = side.shared }

pub read-tasks : (n : NodeState) (q : Req)
    → (after_read n q).tasks
    ≡ tell_new (answer_own n.tasks q (answer_to n.shared q.task q.want)) (res_wanted q.want)
    (new_owners n.shared q.task q.want)
unfolding process
read-tasks n q = refl

pub read-shared : (n : NodeState) (q : Req) → (after_read n q).shared ≡ after_want n.shared q.task q.want
unfolding process
read-shared n q = refl

-- the tasks among which a request of the system's own was answered
pub answers-own : (v : TasksView) (q : Req) (answer : Answer) (a : Asked) → is_task v q.task ≡ true
    → is_sent (state_of v q.task).phase ≡ true → (state_of v q.task).outstanding ≡ Some a → a.req ≡ q →
    answer_own v q answer ≡ answered (recalled v q.task q.want) q.task a answer
unfolding answer_own tell_answer_any tell_answer
answers-own v q answer a here sent opened is =
    let asked : is_asked q.want (state_of v q.task).outstanding ≡ true =
    ap (is_asked q.want) opened ∙ ap (λ (z : Req). same_want.it q.want z.want) is ∙ want-itself q.want in
    let all :
    (is_task v q.task && (is_sent (state_of v q.task).phase && is_asked q.want (state_of v q.task).outstanding))
    ≡ true =
    rw (here, sent, asked) refl in
    ap (λ b. cond b (tell_answer_any v q.task answer (state_of v q.task).outstanding) v) all
    ∙ ap (λ o. tell_answer_any v q.task answer o) opened
    ∙ ap (λ (z : Req). answered (recalled v q.task z.want) q.task a answer) is

pub answers-none : (v : TasksView) (q : Req) (answer : Answer) → is_task v q.task ≡ false → answer_own v q answer ≡ v
unfolding answer_own
answers-none v q answer away =
    ap (λ b.
    cond (b && (is_sent (state_of v q.task).phase && is_asked q.want (state_of v q.task).outstanding))
    (tell_answer_any v q.task answer (state_of v q.task).outstanding) v)
    away

-- looks make entries of looks alone
pub entries-look : (s : State) (t : TaskId) (w : Want) → res_wanted w ≡ None
    → list_all is_look (entries_for s t w) ≡ true
entries-look s t (Enq r c ret full) e = absurd (cc)
entries-look s t (Deq r have) e = absurd (cc)
entries-look s t (Release r) e = absurd (cc)
entries-look s t (Look first count f) e = looks-are s t first count f

-- ---- the first of the items that are due
-- A request of the message was processed.
pub record Reads (deck : Deck) (s : ℕ) (P before : List RunItem) (x : RunItem) (later : List RunItem) (out : List Req)
    (n : NodeState) (q : Req) :
    Type 0 where
  pub seen : Seen deck s P (before ++ x ∷ []) later out (after_read n q)
  pub told : ToldBy deck s (out ++ n.outbox) (history P) n.tasks.told (after_read n q).tasks.told

module _ (deck : Deck) (s : ℕ) (P before : List RunItem) (right : IsHistory deck P) (x : RunItem) (later : List RunItem)
    (whole : rounds P ≡ before ++ x ∷ later) (n : NodeState) where
  -- it is of a task of the system
  module _ (out : List Req) (q : Req) (ls : List Meaning) (ours : IsOurs deck s n.tasks q.task ls)
      (own : is_of q.task x.fixed ≡ true) (seen : Seen deck s P before (x ∷ later) (q ∷ out) n)
      (others : (u : TaskId) → is_of u x.fixed ≡ same_task u q.task) where
    abbrev v : TasksView
    v = n.tasks

    abbrev os : Opens
    os = opens_of (x ∷ later) (q ∷ out) n

    abbrev os' : Opens
    os' = opens_of later out n

    abbrev here : IsHere deck os P n.tasks.told q.task ls (state_of n.tasks q.task)
    here = seen.good.tasks.each q.task ls ours

    abbrev p : Past
    p = past_of q.task here.known P

    -- the task's outstanding item is this one
    is_due : (outstanding q.task here.known P ≡ Some x) × (mine q.task later ≡ [])
    is_due =
        one-some (outstanding q.task here.known P) x (mine q.task later)
        (sym (filter-cons_kept (λ y. is_of q.task y.fixed) x later own) ∙ here.due)

    away : is_among q.task (askers (out ++ n.outbox)) ≡ false
    away = not-true _ (and_parts _ _ seen.apart).0

    leaves : Leaves deck os os' P P q.task
    leaves u ms T T' y apart told k =
        here-kept deck os os' P T T' u ms y (sym (filter-cons_left (λ z. is_of u z.fixed) x later (others u ∙ apart)))
        (λ a. a.1) (λ a. (and_parts _ _ a).1) told k

    decides : (b : ReadBy deck P before x later q) (h : HistEntry) (r : Res) → res_wanted q.want ≡ Some r
        → x.entries ≡ h ∷ [] → Decides deck os os' P P q.task p h r (new_owners (lists before) q.task q.want)
    decides b h r wanted one = record {
      right = right;
      learns = entry-learned deck P x q.task here.known h right here.knows.live here.knows.right is_due.0 one;
      due = is_due.1;
      leaves = leaves;
      away = away;
      away_out = among-front q.task out n.outbox away;
      owners = λ u e.
          ((b.owners r wanted u e).0, λ T ms y k. (b.owners r wanted u e).1 k.known k.knows.live k.knows.right k.due);
    }

    looks : (b : ReadBy deck P before x later q) → res_wanted q.want ≡ None
        → Looks deck os os' P P q.task p (entries_for b.at q.task q.want)
    looks b e = record {
      right = right;
      learns =
          subst (KnowsLooks P q.task p) b.made
          (looks-learned P x q.task here.known here.knows.live here.knows.right is_due.0
          (ap (list_all is_look) b.made ∙ entries-look b.at q.task q.want e));
      due = is_due.1;
      leaves = leaves;
    }

    -- it asks and its request is decided, in one
    own_read : (b : ReadBy deck P before x later q) (a : Asked) → a.req ≡ q →
        IsTask ls p v.told (λ z. gives_up z a.req.want) q.task (record (state_of v q.task) {
          line = line_asked a.req.want (state_of v q.task).line;
          phase = phase_seen a.req.want (state_of v q.task).code;
          outstanding = None;
        })
        →
        IsAskedFor deck.limit ls (state_of v q.task).line (state_of v q.task).records a.req.want a.unit
        → IsLooksBy ls p.asked (state_of v q.task).line a.req.want a.showing →
        StaysGood deck s os' P v.told (tell_new
        (answered (recalled v q.task q.want) q.task a (answer_to (lists before) q.task q.want)) (res_wanted q.want)
        (new_owners (lists before) q.task q.want))
    own_read b a is k f l =
        let ts = new_owners (lists before) q.task q.want in
        subst (λ z.
        StaysGood deck s os' P v.told
        (tell_new (answered (recalled v q.task q.want) q.task a z) (res_wanted q.want) ts))
        (sym b.answer)
        (subst (λ (z : Req).
        StaysGood deck s os' P v.told (tell_new
        (answered (recalled v q.task z.want) q.task a (answer_to b.at q.task z.want)) (res_wanted z.want) ts))
        is
        (asked-good deck s os os' P P v seen.good q.task ls ours a (ap (λ (z : Req). z.task) is) b.at ts k f l
        (λ h r wanted one.
        decides b h r (ap (λ (z : Req). res_wanted z.want) (sym is) ∙ wanted)
        (b.made ∙ ap (λ (z : Req). entries_for b.at q.task z.want) (sym is) ∙ one))
        (λ e. (
          subst (λ (z : Req). Looks deck os os' P P q.task p (entries_for b.at q.task z.want)) (sym is)
              (looks b (ap (λ (z : Req). res_wanted z.want) (sym is) ∙ e)),
          away,
          among-front q.task out n.outbox away,
        ))))

  -- the system afterwards, given its tasks
  module _ (a : IsAsk deck x) (out0 out : List Req) (seen : Seen deck s P before (x ∷ later) out0 n)
      (homes : list_all (λ q. is_home_at deck s q.task) (out ++ n.outbox) ≡ true)
      (apart : stand_apart (askers (out ++ n.outbox)) ≡ true) where
    reads-by : (w : TasksView)
        → tell_new (answer_own n.tasks a.req (answer_to (lists before) a.req.task a.req.want)) (res_wanted a.req.want)
        (new_owners (lists before) a.req.task a.req.want)
        ≡ w
        → StaysGood deck s (opens_of later out n) P n.tasks.told w → Reads deck s P before x later out n a.req
    reads-by w e done =
        let q : Req = a.req in
        let is : (after_read n q).tasks ≡ w =
        read-tasks n q
        ∙ ap (λ z.
        tell_new (answer_own n.tasks q (answer_to z q.task q.want)) (res_wanted q.want) (new_owners z q.task q.want))
        seen.shared
        ∙ e in
        record {
          seen = record {
            good = subst (λ v. IsGood deck s (opens_of later out n) P v) (sym is) done.good;
            own = seen.own;
            shared =
                read-shared n q
                ∙ ap (λ z. after_want z q.task q.want) seen.shared
                ∙ sym (after-asked before x q a.asked);
            homes = homes;
            apart = apart;
          };
          told =
              subst (λ (v : TasksView). ToldBy deck s (out ++ n.outbox) (history P) n.tasks.told v.told) (sym is)
              done.told;
        }

  -- one of its own
  read-own : (out : List Req) (a : IsAsk deck x) → wants_round a.req.want ≡ true
      → Seen deck s P before (x ∷ later) (a.req ∷ out) n → Reads deck s P before x later out n a.req
  read-own out a round seen = by_open (state_of n.tasks t).outstanding refl (here_is.asked.0 (same_task-itself t))
    where
      t : TaskId
      t = a.req.task

      home : is_home_at deck s a.req.task ≡ true
      home =
          (and_parts (is_home_at deck s a.req.task) (list_all (λ z. is_home_at deck s z.task) (out ++ n.outbox))
          seen.homes).0

      both : ((a.req.task.system.0 == s) ≡ true) × (is_some (lines_of deck a.req.task) ≡ true)
      both = and_parts (a.req.task.system.0 == s) (is_some (lines_of deck a.req.task)) home

      ls : List Meaning
      ls = (some_of (lines_of deck a.req.task) both.1).0

      ours : IsOurs deck s n.tasks a.req.task ls
      ours = record {
        lines = (some_of (lines_of deck a.req.task) both.1).1;
        home = eqb-true a.req.task.system.0 s both.0;
        here = seen.good.here a.req.task home;
      }

      here_is :
          IsHere deck (opens_of (x ∷ later) (a.req ∷ out) n) P n.tasks.told a.req.task ls (state_of n.tasks a.req.task)
      here_is = seen.good.tasks.each a.req.task ls ours

      sent : is_sent (state_of n.tasks a.req.task).phase ≡ true
      sent =
          ap (λ b. not b || is_sent (state_of n.tasks a.req.task).phase) (sym (same_task-itself a.req.task))
          ∙ (and_parts (not (same_task a.req.task a.req.task) || is_sent (state_of n.tasks a.req.task).phase)
          (are_sent a.req.task (state_of n.tasks a.req.task).phase out) here_is.sent).0

      by_open : (o : Option Asked) → (state_of n.tasks a.req.task).outstanding ≡ o
          → IsReq a.req (state_of n.tasks a.req.task).outstanding → Reads deck s P before x later out n a.req
      by_open None f is = absurd (subst (IsReq a.req) f is)
      by_open (Some b) f is =
          let q : Req = a.req in
          let y : TaskState = state_of n.tasks q.task in
          let k = seen.good.tasks.each q.task ls ours in
          let own_past : Past = past_of q.task k.known P in
          let rq : b.req ≡ q = subst (IsReq q) f is in
          let opened : IsOpenBy deck.limit ls q.task y (Some b) =
          subst (λ o. IsOpenBy deck.limit ls q.task y o) f here_is.opened in
          let task =
          subst (λ o. IsTask ls own_past n.tasks.told (λ r. is_leaving r o) q.task (unasked_by o y)) f k.task in
          reads-by a (q ∷ out) out seen (and_parts _ _ seen.homes).1 (and_parts _ _ seen.apart).1 _
          (ap (λ z. tell_new z (res_wanted q.want) (new_owners (lists before) q.task q.want))
          (answers-own n.tasks q (answer_to (lists before) q.task q.want) b ours.here sent f rq))
          (own_read out q ls ours (ap (is_of q.task) a.asked ∙ same_task-itself q.task) seen (λ u. ap (is_of u) a.asked)
          (read_by deck P before x later q right whole a.asked round) b rq
          (task-open ls own_past n.tasks.told _ q.task _ None task) opened.2
          (subst (IsLooks ls own_past.asked y.line) f k.looks))

  -- one of another system
  read-other : (out : List Req) (a : IsAsk deck x) → wants_round a.req.want ≡ true → a.req.task.system.0 ≢ s
      → Seen deck s P before (x ∷ later) out n → Reads deck s P before x later out n a.req
  unfolding tell_new
  read-other out a round ne seen =
      reads-by a out out seen seen.homes seen.apart _
      (ap (λ z. tell_new z (res_wanted q.want) (new_owners (lists before) q.task q.want))
      (answers-none n.tasks q (answer_to (lists before) q.task q.want)
      (false_by (is_task n.tasks q.task) (λ e.
      absurd (ne (sym (is_task-system n.tasks q.task e) ∙ seen.good.system))))))
      (by_res (res_wanted q.want) refl)
    where
      q : Req
      q = a.req

      b : ReadBy deck P before x later a.req
      b = read_by deck P before x later a.req right whole a.asked round

      good : IsGood deck s (opens_of later out n) P n.tasks
      good = record {
        tasks = record {
          each = λ u ls o.
              here-kept deck (opens_of (x ∷ later) out n) (opens_of later out n) P n.tasks.told n.tasks.told u ls _
              (sym (filter-cons_left (λ z. is_of u z.fixed) x later (not-ours deck s n.tasks x a ne u ls o))) (λ k. k)
              (λ k. k) (λ p leaving y j. j) (seen.good.tasks.each u ls o);
        };
        here = seen.good.here;
        system = seen.good.system;
      }

      by_res : (o : Option Res) → res_wanted a.req.want ≡ o
          → StaysGood deck s (opens_of later out n) P n.tasks.told
          (tell_new n.tasks o (new_owners (lists before) a.req.task a.req.want))
      by_res None wanted = record { good = good; told = none }
      by_res (Some r) wanted =
          tells_good deck s (opens_of later out n) P right n.tasks.told n.tasks good none r
          (new_owners (lists before) a.req.task a.req.want) (λ u e.
          ((b.owners r wanted u e).0, λ T ls y k. (b.owners r wanted u e).1 k.known k.knows.live k.knows.right k.due))

  pub read : (out : List Req) (a : IsAsk deck x) → wants_round a.req.want ≡ true
      → Seen deck s P before (x ∷ later) (own_asked s (fixing.Asked a.req) ++ out) n
      → Reads deck s P before x later out n a.req
  read out a round = go (a.req.task.system.0 == s) refl
    where
      go : (b : Bool) → (a.req.task.system.0 == s) ≡ b
          → Seen deck s P before (x ∷ later) (cond b (a.req ∷ []) [] ++ out) n
          → Reads deck s P before x later out n a.req
      go true e seen = read-own out a round seen
      go false e seen = read-other out a round (eqb-false _ _ e) seen
