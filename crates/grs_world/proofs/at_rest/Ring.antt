-- A system of the ring, by its own lists and its table: who owns by them is marked, and who has sent a request has it
-- among what the system has still to process. So it stays as entries of the message are processed.
use Rattle.grs_world.proofs.Common.{[], ◌++◌, ◌+◌, ◌==◌, ◌||◌, ◌∙◌, ◌∷◌, ◌≡◌, ◌≢◌, a_look, a_removal, after_want}
use Rattle.grs_world.proofs.Common.{all-middle, AllAsk, an_ask, and_parts, answer_own, answer_to, answered, ap}
use Rattle.grs_world.proofs.Common.{append_assoc, are_sent, Asked, askers, asks-behind, AsksOrRemoves, Bool, C00}
use Rattle.grs_world.proofs.Common.{code_in, cond, Deck, Deq, Did, did-none, did-outstanding, did-phase, did-rows}
use Rattle.grs_world.proofs.Common.{did-shown, Enq, eqb-false, eqb-true, false, false_by, filter, get_or}
use Rattle.grs_world.proofs.Common.{goes_on_looking, goes_round, is_among, is_distinct, is_home_at, is_of_deck, is_sent}
use Rattle.grs_world.proofs.Common.{is_some, is_systems, is_task, is_task-system, is_to_send, IsAsk, IsHere, IsHistory}
use Rattle.grs_world.proofs.Common.{IsOurs, IsReq, IsWanted, IsWantedBy, length, lines_of, List, list_all, list_any}
use Rattle.grs_world.proofs.Common.{Look, looked, looks, Matches, Meaning, new_owners, new_task, no_truth, NodeState}
use Rattle.grs_world.proofs.Common.{None, not, Option, or_parts, own_asked, own_requests, Phase, recalled, refl}
use Rattle.grs_world.proofs.Common.{Release, removes_system_of, replied, Req, Res, res_wanted, rounds, Row, Rows}
use Rattle.grs_world.proofs.Common.{rows_of, RunItem, same_place, same_task, same_task-exact, same_task-itself, set}
use Rattle.grs_world.proofs.Common.{Showing, Some, some_of, State, state_of, subst, suc, sym, SysId, TaskId, TaskState}
use Rattle.grs_world.proofs.Common.{TasksView, tell_freed, tell_new, ToldLine, true, Want, wants_round, with_phase}
use Rattle.grs_world.proofs.Common.{with_rows, with_state, ℕ}
use Rattle.std.specs.Prelude.{zero}
use Rattle.grs_known.proofs.known.Histories.{live-behind, wants-round}
use Rattle.task_state.specs.Replies.{phase_asking}
use Rattle.grs_known.proofs.system.Asking.{records-unasked}
use Rattle.grs_node.specs.Node.{process_removal}
use Rattle.grs_base.specs.State.{deq_reply, enq_code}
use Rattle.task_state.proofs.ViewLaws.{is_task-state}
use Rattle.grs_known.proofs.tasks.UpToDate.{IsLeft}
use Rattle.grs_known.proofs.records.Lists.{matches-records}
use Rattle.grs_wire.specs.declared.request.Answer.TheVariants.{Coded as CodedBy}
use Rattle.gqscan.specs.Shown.{code_for}
use Rattle.grs_wire.specs.declared.told.Verb.{Verb}
use Rattle.grs_known.proofs.records.Deciding.{AllKept, IsQuiet, asker-waits, foreign-kept, own-kept}
use Rattle.grs_world.proofs.at_rest.Events.{date-answer_own}
use Rattle.grs_world.proofs.at_rest.Steps.{AllDate, date-new}
use Rattle.grs_world.proofs.run.Growing.{asks-rounds}
use Rattle.grs_world.proofs.run.Reading.{all-rounds, read_all, read_item}
use Rattle.grs_world.proofs.system.AtNode.{Seen, opens_of}
use Rattle.grs_world.proofs.system.Processed.{Reads, after_read, answers-none, answers-own, read, read-shared}
use Rattle.grs_world.proofs.system.Processed.{read-tasks}
use Rattle.grs_world.proofs.system.Puts.{home-task}
use Rattle.grs_world.proofs.at_rest.Freed.{ToldFreed, date-freed, matches-freed, told-freed}
use Rattle.grs_world.proofs.system.Removed.{Frees, read-removal}
use Rattle.grs_wire.specs.declared.request.Fixed.TheVariants as fixing
use Rattle.task_state.specs.declared.state.Phase.TheVariants as phases
use Rattle.grs_wire.specs.declared.told.ToldLine.TheVariants as told

-- the resources of one system
abbrev pub is_local : Res → Bool
is_local r = not (is_systems r)

-- System s, where these requests stand among what it has still to process.
pub record IsRead (deck : Deck) (s : ℕ) (n : NodeState) (qs : List Req) : Type 0 where
  pub own : (t : TaskId) (ls : List Meaning) → IsOurs deck s n.tasks t ls
      → Matches is_local n.own t (state_of n.tasks t).records
  pub shared : (t : TaskId) (ls : List Meaning) → IsOurs deck s n.tasks t ls
      → Matches is_systems n.shared t (state_of n.tasks t).records
  pub sent : (t : TaskId) (ls : List Meaning) → IsOurs deck s n.tasks t ls → is_sent (state_of n.tasks t).phase ≡ true
      → is_among t (askers qs) ≡ true
  pub boxed : (t : TaskId) (ls : List Meaning) → IsOurs deck s n.tasks t ls
      → is_to_send (state_of n.tasks t).phase ≡ true → is_among t (askers n.outbox) ≡ true
  pub date : AllDate true deck n.tasks

-- no resource of the whole complex is local
wide-apart : (r : Res) → is_systems r ≡ true → is_local r ≡ false
wide-apart r e = ap not e

-- a task of ours is one of the tasks as they were
pub ours-was : (deck : Deck) (s : ℕ) (v w : TasksView) → ((t : TaskId) → is_task w t ≡ is_task v t)
    → (t : TaskId) (ls : List Meaning) → IsOurs deck s w t ls → IsOurs deck s v t ls
ours-was deck s v w here t ls o = record { lines = o.lines; home = o.home; here = sym (here t) ∙ o.here }

pub distinct-at : (deck : Deck) (s : ℕ) (P before later : List RunItem) (out : List Req) (n : NodeState)
    → Seen deck s P before later out n → (t : TaskId) (ls : List Meaning) → IsOurs deck s n.tasks t ls
    → is_distinct (state_of n.tasks t).records ≡ true
distinct-at deck s P before later out n seen t ls ours =
    ap is_distinct (sym (records-unasked (state_of n.tasks t))) ∙ (seen.good.tasks.each t ls ours).task.distinct

-- ---- phases
records-set : (xs : List TaskState) (i j : ℕ) (p : Phase)
    → (get_or (set xs i (record (get_or xs i new_task) { phase = p; code = code_in p (get_or xs i new_task).code })) j
    new_task).records
    ≡ (get_or xs j new_task).records
records-set [] i j p = refl
records-set (x ∷ xs) zero zero p = refl
records-set (x ∷ xs) zero (suc j) p = refl
records-set (x ∷ xs) (suc i) zero p = refl
records-set (x ∷ xs) (suc i) (suc j) p = records-set xs i j p

pub here-phase : (v : TasksView) (u : TaskId) (p : Phase) (t : TaskId) → is_task (with_phase v u p) t ≡ is_task v t
unfolding with_phase
here-phase v u p t = is_task-state v u t _

-- a task of ours at another place
pub other-phase : (deck : Deck) (s : ℕ) (v : TasksView) (t u : TaskId) (ls : List Meaning) → IsOurs deck s v t ls
    → is_home_at deck s u ≡ true → is_task v u ≡ true → same_task t u ≡ false
    → state_of (with_phase v u phases.Sent) t ≡ state_of v t
other-phase deck s v t u ls ours home there apart =
    let both = and_parts (u.system.0 == s) (is_some (lines_of deck u)) home in
    let ms = some_of (lines_of deck u) both.1 in
    let ours_u : IsOurs deck s v u ms.0 = record { lines = ms.1; home = eqb-true u.system.0 s both.0; here = there } in
    (did-phase v v u (state_of v u) v.told there (did-none v u) phases.Sent).changed.others t
    (λ place. no_truth (same_task t u) (same_place deck s v t u ls ms.0 ours ours_u place) apart)

-- a phase leaves all records
pub records-phase : (v : TasksView) (u : TaskId) (p : Phase) (t : TaskId)
    → (state_of (with_phase v u p) t).records ≡ (state_of v t).records
unfolding with_phase with_state state_of
records-phase v u p t = records-set v.tasks u.task t.task p

did-recalled : (v : TasksView) (u : TaskId) (w : Want) → is_task v u ≡ true
    → Did v (recalled v u w) u (record (state_of v u) {
      phase = phase_asking w (state_of v u).code;
      code = code_in (phase_asking w (state_of v u).code) (state_of v u).code;
      outstanding = None;
    })
    v.told
unfolding recalled
did-recalled v u w here =
    did-outstanding v (with_phase v u (phase_asking w (state_of v u).code)) u
    (record (state_of v u) {
      phase = phase_asking w (state_of v u).code;
      code = code_in (phase_asking w (state_of v u).code) (state_of v u).code;
    })
    v.told here
    (did-phase v v u (state_of v u) v.told here (did-none v u) (phase_asking w (state_of v u).code)) None

-- ---- an entry of the message is processed
quiet-asking : (f : Phase → Bool) → IsQuiet f → (w : Want) (code : ℕ) → f (phase_asking w code) ≡ false
quiet-asking f k (Enq r c ret full) code = k.ready
quiet-asking f k (Deq r have) code = k.ready
quiet-asking f k (Release r) code = k.ending code
quiet-asking f k (Look first count g) code = k.ready

pub quiet-sent : IsQuiet is_sent
quiet-sent = record { ready = refl; held = refl; ending = λ c. refl }

pub quiet-to_send : IsQuiet is_to_send
quiet-to_send = record { ready = refl; held = refl; ending = λ c. refl }

-- the tasks afterwards, where its lists are kept so
after-kept : (deck : Deck) (s : ℕ) (n : NodeState) (q : Req) (w : TasksView) (out qs : List Req)
    → (after_read n q).tasks ≡ w
    → AllKept deck s is_systems is_local (after_want n.shared q.task q.want) n.own n.tasks w → IsRead deck s n qs
    → is_of_deck deck q.task ≡ true →
    ((t : TaskId) (ls : List Meaning) → IsOurs deck s n.tasks t ls → is_sent (state_of w t).phase ≡ true
    → is_sent (state_of n.tasks t).phase ≡ true → is_among t (askers out) ≡ true)
    → IsRead deck s (after_read n q) out
after-kept deck s n q w out qs is k h of_deck still = record {
  own = λ t ls ours.
      subst (λ (v : TasksView). Matches is_local n.own t (state_of v t).records) (sym is)
      (k.others t ls (was t ls ours));
  shared = λ t ls ours.
      subst (λ (v : TasksView). Matches is_systems (after_read n q).shared t (state_of v t).records) (sym is)
      (subst (λ z. Matches is_systems z t (state_of w t).records) (sym (read-shared n q))
      (k.lists t ls (was t ls ours)));
  sent = λ t ls ours e.
      let f : is_sent (state_of w t).phase ≡ true = ap (λ (v : TasksView). is_sent (state_of v t).phase) (sym is) ∙ e in
      still t ls (was t ls ours) f (k.phases_are is_sent quiet-sent t ls (was t ls ours) f);
  boxed = λ t ls ours e.
      h.boxed t ls (was t ls ours) (k.phases_are is_to_send quiet-to_send t ls (was t ls ours)
      (ap (λ (v : TasksView). is_to_send (state_of v t).phase) (sym is) ∙ e));
  date =
      subst (AllDate true deck)
      (sym (read-tasks n q)) (date-new true deck (res_wanted q.want) (new_owners n.shared q.task q.want)
      (answer_own n.tasks q (answer_to n.shared q.task q.want))
      (date-answer_own true deck n.tasks q n.shared h.date of_deck));
}
  where
    was : (t : TaskId) (ls : List Meaning) → IsOurs deck s (after_read n q).tasks t ls → IsOurs deck s n.tasks t ls
    was = ours-was deck s n.tasks (after_read n q).tasks (λ t. ap (λ (v : TasksView). is_task v t) is ∙ k.here t)

-- nobody is told of no resource
nobody : (v : TasksView) (us : List TaskId) → tell_new v None us ≡ v
unfolding tell_new
nobody v us = refl

-- an answer that is no rows
coded-answered : (v : TasksView) (u : TaskId) (b : Asked) (w : Want) (r : Res) (z : State) (t : TaskId)
    → res_wanted w ≡ Some r → b.req.want ≡ w →
    answered v u b (answer_to z t w) ≡ replied v u w b.unit (answer_to z t w)
coded-answered v u b (Enq k c ret full) r z t wanted e =
    ap (λ w. replied v u w b.unit (CodedBy (enq_code z k t c ret full))) e
coded-answered v u b (Deq k have) r z t wanted e = ap (λ w. replied v u w b.unit (CodedBy (deq_reply z k t have))) e
coded-answered v u b (Release k) r z t wanted e = ap (λ w. replied v u w b.unit (CodedBy C00)) e
coded-answered v u b (Look first count f) r z t wanted e = absurd (cc)

-- looks show rows, leave the lists, and make nobody an owner
looks-rows : (w : Want) → res_wanted w ≡ None → (z : State) (t : TaskId)
    → (rows : List Row) × (answer_to z t w ≡ Rows rows) × (after_want z t w ≡ z)
looks-rows (Enq r c ret full) none z t = absurd (cc)
looks-rows (Deq r have) none z t = absurd (cc)
looks-rows (Release r) none z t = absurd (cc)
looks-rows (Look first count f) none z t = (looks z first count f, refl, refl)

looks-left : (whole : Bool) (ls : List Meaning) (n : ℕ) (w : Want) (unit : Option ℕ) (showing : Option Showing)
    → res_wanted w ≡ None → IsWanted whole ls n w unit showing → IsLeft whole showing
looks-left whole ls n (Enq r c ret full) unit showing none k = absurd (cc)
looks-left whole ls n (Deq r have) unit showing none k = absurd (cc)
looks-left whole ls n (Release r) unit showing none k = absurd (cc)
looks-left whole ls n (Look first count f) unit showing none k = k.1

-- what task u was shown by its looks, of which nothing is left
record IsShown (v : TasksView) (u : TaskId) (w : Want) (k : TasksView) : Type 0 where
  pub rows : List Row
  pub verb : Verb
  pub did :
      Did v k u (record (state_of v u) {
        phase = phase_asking w (state_of v u).code;
        code = code_in (phase_asking w (state_of v u).code) (state_of v u).code;
        outstanding = None;
        rows = [];
      })
      (v.told ++ told.Shown u (state_of v u).line verb (code_for (length rows)) rows ∷ [])

did-more : (v : TasksView) (u : TaskId) (w : Want) (rows : List Row) → is_task v u ≡ true
    → Did v (with_rows (recalled v u w) u rows) u (record (state_of v u) {
      phase = phase_asking w (state_of v u).code;
      code = code_in (phase_asking w (state_of v u).code) (state_of v u).code;
      outstanding = None;
      rows = (state_of v u).rows ++ rows;
    })
    v.told
did-more v u w rows here = did-rows v (recalled v u w) u _ v.told here (did-recalled v u w here) rows

last-shown : (v : TasksView) (u : TaskId) (w : Want) (b : Asked) (rows : List Row) → is_task v u ≡ true → (verb : Verb)
    (n : ℕ) → n ≡ 0 → IsShown v u w (goes_on_looking (with_rows (recalled v u w) u rows) u b verb n)
unfolding goes_on_looking
last-shown v u w b rows here verb zero left = record {
  rows = (state_of v u).rows ++ rows;
  verb = verb;
  did = did-shown v (with_rows (recalled v u w) u rows) u _ v.told here (did-more v u w rows here) verb;
}
last-shown v u w b rows here verb (suc n) left = absurd (cc)

looks-shown : (v : TasksView) (u : TaskId) (w : Want) (b : Asked) (rows : List Row) → is_task v u ≡ true
    → IsLeft true b.showing → IsShown v u w (answered (recalled v u w) u b (Rows rows))
looks-shown v u w b rows here left = go b.showing left
  where
    go : (o : Option Showing) → IsLeft true o → IsShown v u w (looked (recalled v u w) u b rows o)
    go None k = absurd k
    go (Some z) k = last-shown v u w b rows here z.verb z.left (k refl)

-- one task changed, and keeps its records
same-kept : (deck : Deck) (home : ℕ) (p o : Res → Bool) (s z : State) (v w : TasksView) (u : TaskId) (ms : List Meaning)
    (x : TaskState) (T : List ToldLine) → IsOurs deck home v u ms → Did v w u x T
    → x.records ≡ (state_of v u).records → ((f : Phase → Bool) → IsQuiet f → f x.phase ≡ false)
    → ((t : TaskId) (ls : List Meaning) → IsOurs deck home v t ls → Matches p s t (state_of v t).records)
    → ((t : TaskId) (ls : List Meaning) → IsOurs deck home v t ls → Matches o z t (state_of v t).records)
    → AllKept deck home p o s z v w
same-kept deck home p o s z v w u ms x T ours_u did recs quiet lists others = record {
  here = did.changed.here;
  lists = λ t ls ours. subst (Matches p s t) (sym (records t ls ours)) (lists t ls ours);
  others = λ t ls ours. subst (Matches o z t) (sym (records t ls ours)) (others t ls ours);
  phases_are = phases_are;
}
  where
    by_task : (P : TaskState → TaskState → Type 0) → P (state_of v u) x → ((y : TaskState) → P y y) → (t : TaskId)
        (ls : List Meaning) → IsOurs deck home v t ls → P (state_of v t) (state_of w t)
    by_task P asks rest t ls ours = go (same_task t u) refl
      where
        go : (b : Bool) → same_task t u ≡ b → P (state_of v t) (state_of w t)
        go true e =
            let one : u ≡ t = sym (same_task-exact t u e) in
            subst (λ i. P (state_of v i) (state_of w i)) one (subst (P (state_of v u)) (sym did.state) asks)
        go false e =
            subst (P (state_of v t)) (sym (did.changed.others t
            (λ place. no_truth (same_task t u) (same_place deck home v t u ls ms ours ours_u place) e)))
            (rest (state_of v t))

    records : (t : TaskId) (ls : List Meaning) → IsOurs deck home v t ls
        → (state_of w t).records ≡ (state_of v t).records
    records = by_task (λ a b. b.records ≡ a.records) recs (λ y. refl)

    phases_are : (f : Phase → Bool) → IsQuiet f → (t : TaskId) (ls : List Meaning) → IsOurs deck home v t ls
        → f (state_of w t).phase ≡ true → f (state_of v t).phase ≡ true
    phases_are f k = by_task (λ a b. f b.phase ≡ true → f a.phase ≡ true)
        (λ e. no_truth (f x.phase) e (quiet f k)) (λ y e. e)

module _ (deck : Deck) (s : ℕ) (P before : List RunItem) (x : RunItem) (later : List RunItem) (n : NodeState)
    (out : List Req) (a : IsAsk deck x) where
  -- one of another system
  module _ (ne : a.req.task.system.0 ≢ s) (seen : Seen deck s P before (x ∷ later) out n)
      (h : IsRead deck s n out) where
    answers-nobody : (after_read n a.req).tasks
        ≡ tell_new n.tasks (res_wanted a.req.want) (new_owners n.shared a.req.task a.req.want)
    answers-nobody =
        let q : Req = a.req in
        read-tasks n q
        ∙ ap (λ v. tell_new v (res_wanted q.want) (new_owners n.shared q.task q.want))
        (answers-none n.tasks q (answer_to n.shared q.task q.want)
        (false_by (is_task n.tasks q.task)
        (λ e. absurd (ne (sym (is_task-system n.tasks q.task e) ∙ seen.good.system)))))

    kept-other : (o : Option Res) → res_wanted a.req.want ≡ o → wants_round a.req.want ≡ true
        → IsRead deck s (after_read n a.req) out
    kept-other (Some r) wanted round =
        let q : Req = a.req in
        let wide : is_systems r ≡ true = sym (wants-round q.want r wanted) ∙ round in
        after-kept deck s n q (tell_new n.tasks (Some r) (new_owners n.shared q.task q.want)) out out
        (answers-nobody ∙ ap (λ o. tell_new n.tasks o (new_owners n.shared q.task q.want)) wanted)
        (foreign-kept deck s is_systems is_local n.shared n.own n.tasks r wide (wide-apart r wide) h.shared h.own
        q.task q.want wanted (λ t ls ours.
        false_by (same_task t q.task)
        (λ e. absurd (ne (ap (λ (z : TaskId). z.system.0) (sym (same_task-exact t q.task e)) ∙ ours.home)))))
        h a.known (λ t ls ours f g. h.sent t ls ours g)
    kept-other None none round =
        let q : Req = a.req in
        after-kept deck s n q n.tasks out out
        (answers-nobody ∙ told_none)
        (subst (λ z. AllKept deck s is_systems is_local z n.own n.tasks n.tasks)
        (sym (looks-rows q.want none n.shared q.task).2)
        (record {
          here = λ t. refl;
          lists = h.shared;
          others = h.own;
          phases_are = λ f k t ls ours e. e;
        }))
        h a.known (λ t ls ours f g. h.sent t ls ours g)
      where
        told_none : tell_new n.tasks (res_wanted a.req.want) (new_owners n.shared a.req.task a.req.want) ≡ n.tasks
        told_none =
            ap (λ o. tell_new n.tasks o (new_owners n.shared a.req.task a.req.want)) none
            ∙ nobody n.tasks (new_owners n.shared a.req.task a.req.want)

  -- one of its own
  kept-own : wants_round a.req.want ≡ true → Seen deck s P before (x ∷ later) (a.req ∷ out) n
      → IsRead deck s n (a.req ∷ out) → IsRead deck s (after_read n a.req) out
  kept-own round seen h = by_open (state_of n.tasks t).outstanding refl (here_is.asked.0 (same_task-itself t))
    where
      t : TaskId
      t = a.req.task

      task_is : (ls : List Meaning) × IsOurs deck s n.tasks a.req.task ls
      task_is =
          home-task deck s (opens_of (x ∷ later) (a.req ∷ out) n) P n.tasks a.req.task seen.good
          (and_parts (is_home_at deck s a.req.task) (list_all (λ z. is_home_at deck s z.task) (out ++ n.outbox))
          seen.homes).0

      ls : List Meaning
      ls = task_is.0

      ours : IsOurs deck s n.tasks a.req.task ls
      ours = task_is.1

      here_is :
          IsHere deck (opens_of (x ∷ later) (a.req ∷ out) n) P n.tasks.told a.req.task ls (state_of n.tasks a.req.task)
      here_is = seen.good.tasks.each a.req.task ls ours

      sent_now : is_sent (state_of n.tasks a.req.task).phase ≡ true
      sent_now =
          ap (λ b. not b || is_sent (state_of n.tasks a.req.task).phase) (sym (same_task-itself a.req.task))
          ∙ (and_parts (not (same_task a.req.task a.req.task) || is_sent (state_of n.tasks a.req.task).phase)
          (are_sent a.req.task (state_of n.tasks a.req.task).phase out) here_is.sent).0

      by_open : (o : Option Asked) → (state_of n.tasks a.req.task).outstanding ≡ o
          → IsReq a.req (state_of n.tasks a.req.task).outstanding → IsRead deck s (after_read n a.req) out
      by_open None f is = absurd (subst (IsReq a.req) f is)
      by_open (Some b) f is = by_res (res_wanted q.want) refl
        where
          q : Req
          q = a.req

          rq : b.req ≡ a.req
          rq = subst (IsReq q) f is

          x1 : TaskState
          x1 =
              record (state_of n.tasks a.req.task) {
                phase = phase_asking a.req.want (state_of n.tasks a.req.task).code;
                code =
                    code_in (phase_asking a.req.want (state_of n.tasks a.req.task).code)
                    (state_of n.tasks a.req.task).code;
                outstanding = None;
              }

          did : Did n.tasks (recalled n.tasks a.req.task a.req.want) a.req.task x1 n.tasks.told
          did = did-recalled n.tasks a.req.task a.req.want ours.here

          answers : (after_read n a.req).tasks
              ≡ tell_new (answered (recalled n.tasks a.req.task a.req.want) a.req.task b
              (answer_to n.shared a.req.task a.req.want))
              (res_wanted a.req.want) (new_owners n.shared a.req.task a.req.want)
          answers =
              read-tasks n q
              ∙ ap (λ v. tell_new v (res_wanted q.want) (new_owners n.shared q.task q.want))
              (answers-own n.tasks q (answer_to n.shared q.task q.want) b ours.here sent_now f rq)

          -- its request isn't sent any more
          still : (w : TasksView) → is_sent (state_of w a.req.task).phase ≡ false → (u : TaskId) (ms : List Meaning)
              → IsOurs deck s n.tasks u ms → is_sent (state_of w u).phase ≡ true →
              is_sent (state_of n.tasks u).phase ≡ true → is_among u (askers out) ≡ true
          still w unsent u ms o now was = go (same_task u q.task) refl (h.sent u ms o was)
            where
              go : (c : Bool) → same_task u a.req.task ≡ c → (same_task u a.req.task || is_among u (askers out)) ≡ true
                  → is_among u (askers out) ≡ true
              go true e z =
                  no_truth (is_sent (state_of w u).phase) now
                  (ap (λ i. is_sent (state_of w i).phase) (same_task-exact u q.task e) ∙ unsent)
              go false e z = ap (λ c. c || is_among u (askers out)) (sym e) ∙ z

          by_res : (o : Option Res) → res_wanted a.req.want ≡ o → IsRead deck s (after_read n a.req) out
          by_res (Some r) wanted =
              after-kept deck s n q w out (q ∷ out)
              (answers
              ∙ (ap (λ v. tell_new v (res_wanted q.want) (new_owners n.shared q.task q.want))
              (coded-answered (recalled n.tasks q.task q.want) q.task b q.want r n.shared q.task wanted
              (ap (λ (z : Req). z.want) rq))
              ∙ ap (λ o. tell_new k o (new_owners n.shared q.task q.want)) wanted))
              (own-kept deck s is_systems is_local n.shared n.own n.tasks r wide (wide-apart r wide) h.shared
              h.own q.task ls ours (recalled n.tasks q.task q.want) x1 did refl (λ f g. quiet-asking f g q.want y.code)
              (distinct-at deck s P before (x ∷ later) (a.req ∷ out) n seen q.task ls ours) q.want wanted b.unit)
              h a.known
              (still w
              (asker-waits deck s is_systems is_local n.shared n.own n.tasks r wide (wide-apart r wide) h.shared
              h.own q.task ls ours (recalled n.tasks q.task q.want) x1 did refl (λ f g. quiet-asking f g q.want y.code)
              (distinct-at deck s P before (x ∷ later) (a.req ∷ out) n seen q.task ls ours) q.want wanted b.unit
              is_sent quiet-sent))
            where
              y : TaskState
              y = state_of n.tasks a.req.task

              wide : is_systems r ≡ true
              wide = sym (wants-round a.req.want r wanted) ∙ round

              k : TasksView
              k =
                  replied (recalled n.tasks a.req.task a.req.want) a.req.task a.req.want b.unit
                  (answer_to n.shared a.req.task a.req.want)

              w : TasksView
              w = tell_new k (Some r) (new_owners n.shared a.req.task a.req.want)
          by_res None none =
              after-kept deck s n q w out (q ∷ out)
              (answers
              ∙ (ap (λ o.
              tell_new (answered (recalled n.tasks q.task q.want) q.task b (answer_to n.shared q.task q.want)) o
              (new_owners n.shared q.task q.want)) none
              ∙ (nobody (answered (recalled n.tasks q.task q.want) q.task b (answer_to n.shared q.task q.want))
              (new_owners n.shared q.task q.want)
              ∙ ap (answered (recalled n.tasks q.task q.want) q.task b) rows.1)))
              (subst (λ z. AllKept deck s is_systems is_local z n.own n.tasks w) (sym rows.2)
              (same-kept deck s is_systems is_local n.shared n.own n.tasks w q.task ls _ _ ours shown.did refl
              (λ g c. quiet-asking g c q.want y.code) h.shared h.own))
              h a.known
              (still w (ap (λ (z : TaskState). is_sent z.phase) shown.did.state
              ∙ quiet-asking is_sent quiet-sent q.want y.code))
            where
              y : TaskState
              y = state_of n.tasks a.req.task

              rows : (rows : List Row) × (answer_to n.shared a.req.task a.req.want ≡ Rows rows)
                  × (after_want n.shared a.req.task a.req.want ≡ n.shared)
              rows = looks-rows q.want none n.shared q.task

              w : TasksView
              w = answered (recalled n.tasks a.req.task a.req.want) a.req.task b (Rows rows.0)

              wanted : IsWanted true ls (state_of n.tasks a.req.task).line b.req.want b.unit b.showing
              wanted = subst (IsWantedBy true ls y.line) f (h.date q.task ls ours.lines ours.here).wanted

              shown : IsShown n.tasks a.req.task a.req.want
                  (answered (recalled n.tasks a.req.task a.req.want) a.req.task b (Rows rows.0))
              shown =
                  looks-shown n.tasks q.task q.want b rows.0 ours.here
                  (looks-left true ls y.line b.req.want b.unit b.showing
                  (ap (λ (z : Req). res_wanted z.want) rq ∙ none) wanted)

  pub kept-read : wants_round a.req.want ≡ true
      → Seen deck s P before (x ∷ later) (own_asked s (fixing.Asked a.req) ++ out) n
      → IsRead deck s n (own_asked s (fixing.Asked a.req) ++ out) → IsRead deck s (after_read n a.req) out
  kept-read round = go (a.req.task.system.0 == s) refl
    where
      go : (b : Bool) → (a.req.task.system.0 == s) ≡ b
          → Seen deck s P before (x ∷ later) (cond b (a.req ∷ []) [] ++ out) n
          → IsRead deck s n (cond b (a.req ∷ []) [] ++ out) → IsRead deck s (after_read n a.req) out
      go true e seen h = kept-own round seen h
      go false e seen h = kept-other (eqb-false _ _ e) seen h (res_wanted a.req.want) refl round

-- ---- a removal is processed
none-left : {X : Type 0} (p q : X → Bool) (xs : List X) → list_any p xs ≡ false → list_any p (filter q xs) ≡ false
none-left p q [] h = refl
none-left p q (x ∷ xs) h = let both = or_parts (p x) (list_any p xs) h in go (q x) both.0 (none-left p q xs both.1)
  where
    go : (b : Bool) → p x ≡ false → list_any p (filter q xs) ≡ false
        → list_any p (cond b (x ∷ filter q xs) (filter q xs)) ≡ false
    go true e more = ap (λ c. c || list_any p (filter q xs)) e ∙ more
    go false e more = more

module _ (deck : Deck) (s : ℕ) (P before : List RunItem) (x : RunItem) (later : List RunItem) (n : NodeState)
    (out : List Req) (target : SysId) (purged : x.fixed ≡ fixing.Purged target)
    (whole : rounds P ≡ before ++ x ∷ later) where
  -- no task of the system is of the removed one
  not-removed : Seen deck s P before (x ∷ later) out n → (t : TaskId) (ls : List Meaning) → IsOurs deck s n.tasks t ls
      → (target.0 == t.system.0) ≡ false
  not-removed seen t ls ours =
      let away = λ (y : RunItem). removes_system_of t y.fixed in
      let left : list_any away (rounds P) ≡ false =
      none-left away (λ y. goes_round y.fixed) P (seen.good.tasks.each t ls ours).knows.live in
      let behind : list_any away (x ∷ later) ≡ false =
      live-behind t before (x ∷ later) (ap (list_any away) (sym whole) ∙ left) in
      ap (removes_system_of t) (sym purged) ∙ (or_parts (removes_system_of t x.fixed) (list_any away later) behind).0

  pub kept-removal : Seen deck s P before (x ∷ later) out n → IsRead deck s n out
      → IsRead deck s (process_removal n target) out
  kept-removal seen h = record {
    own = λ t ls ours. let o = was t ls ours in
        matches-records is_local n.own t (state_of n.tasks t).records (state_of after t).records
        (λ r narrow. z.has t r o.here) (λ r narrow. z.marks t r o.here) (h.own t ls o);
    shared = λ t ls ours. let o = was t ls ours in
        matches-freed n.shared target.0 n.tasks t o.here (not-removed seen t ls o) (h.shared t ls o);
    sent = λ t ls ours e. let o = was t ls ours in h.sent t ls o (z.phase t is_sent o.here refl e);
    boxed = λ t ls ours e. let o = was t ls ours in h.boxed t ls o (z.phase t is_to_send o.here refl e);
    date = date-freed true deck target.0 (rows_of n.shared) n.tasks h.date;
  }
    where
      after : TasksView
      after = tell_freed n.tasks target.0 (rows_of n.shared)

      z : ToldFreed n.tasks (tell_freed n.tasks target.0 (rows_of n.shared)) target.0 (rows_of n.shared)
      z = told-freed target.0 (rows_of n.shared) n.tasks

      was : (t : TaskId) (ls : List Meaning) → IsOurs deck s (tell_freed n.tasks target.0 (rows_of n.shared)) t ls
          → IsOurs deck s n.tasks t ls
      was = ours-was deck s n.tasks after z.here

-- ---- all that is due is processed
module _ (deck : Deck) (s : ℕ) (P : List RunItem) (right : IsHistory deck P) (extra : List RunItem) where
  pub kept-all : (later before : List RunItem) (n : NodeState) → rounds P ≡ before ++ (later ++ extra)
      → Seen deck s P before (later ++ extra) (own_requests s later) n → IsRead deck s n (own_requests s later)
      → IsRead deck s (read_all n later) []
  kept-all [] before n whole seen h = h
  kept-all (x ∷ later) before n whole seen h =
      by_item (λ m now k.
      kept-all later (before ++ x ∷ []) m (whole ∙ sym (append_assoc before (x ∷ []) (later ++ extra))) now k)
      (asks-behind deck before (x ∷ later ++ extra) (subst (AllAsk deck) whole (asks-rounds deck P right.asks))).0
    where
      out : List Req
      out = own_requests s later

      -- how what is left is processed
      More : Type 0
      More =
          (m : NodeState) → Seen deck s P (before ++ x ∷ []) (later ++ extra) (own_requests s later) m
          → IsRead deck s m (own_requests s later) → IsRead deck s (read_all m later) []

      by_item : More → AsksOrRemoves deck x → IsRead deck s (read_all (read_item n x.fixed) later) []
      by_item goes (an_ask a) =
          let round : goes_round x.fixed ≡ true =
          all-middle (λ y. goes_round y.fixed) before x (later ++ extra)
          (ap (list_all (λ y. goes_round y.fixed)) (sym whole) ∙ all-rounds P) in
          let wants : wants_round a.req.want ≡ true = ap goes_round (sym a.asked) ∙ round in
          let seen1 = subst (λ f. Seen deck s P before (x ∷ later ++ extra) (own_asked s f ++ out) n) a.asked seen in
          let reads : Reads deck s P before x (later ++ extra) out n a.req =
          read deck s P before right x (later ++ extra) whole n out a wants seen1 in
          let next : IsRead deck s (after_read n a.req) out =
          kept-read deck s P before x (later ++ extra) n out a wants seen1
          (subst (λ f. IsRead deck s n (own_asked s f ++ out)) a.asked h) in
          subst (λ f. IsRead deck s (read_all (read_item n f) later) []) (sym a.asked)
          (goes (after_read n a.req) reads.seen next)
      by_item goes (a_look t f looks of_deck) =
          let round : goes_round x.fixed ≡ true =
          all-middle (λ y. goes_round y.fixed) before x (later ++ extra)
          (ap (list_all (λ y. goes_round y.fixed)) (sym whole) ∙ all-rounds P) in
          no_truth (goes_round x.fixed) round (ap goes_round looks)
      by_item goes (a_removal target purged) =
          let seen1 = subst (λ f. Seen deck s P before (x ∷ later ++ extra) (own_asked s f ++ out) n) purged seen in
          let frees : Frees deck s P before x (later ++ extra) out n target =
          read-removal deck s P before right x (later ++ extra) whole n out target purged seen1 in
          let next : IsRead deck s (process_removal n target) out =
          kept-removal deck s P before x (later ++ extra) n out target purged whole seen1
          (subst (λ f. IsRead deck s n (own_asked s f ++ out)) purged h) in
          subst (λ f. IsRead deck s (read_all (read_item n f) later) []) (sym purged)
          (goes (process_removal n target) frees.seen next)
