-- The tasks of a system of star mode: they stay up to date in each event, and what the system has on record goes on
-- with its own lists.
use Rattle.grs_world.proofs.Common.{[], ◌++◌, ◌==◌, ◌∙◌, ◌∷◌, ◌≡◌, after_mail, after_want, and_parts, Answer, answer_to}
use Rattle.grs_world.proofs.Common.{ap, ask, Asked, Bool, by_test, C00, C08, Code, cond, controlled, decide, Deck, Deq}
use Rattle.grs_world.proofs.Common.{Did, did-line, did-none, did-outstanding, did-phase, did-rows, did-shown}
use Rattle.grs_world.proofs.Common.{did-telling, Display, end_step, Enq, eqb-false, eqb-true, false, false_by, get_or}
use Rattle.grs_world.proofs.Common.{has_effect, has_most, has_res, has_task, is_distinct, is_for_all, is_marked}
use Rattle.grs_world.proofs.Common.{is_of_deck, is_sent, is_systems, is_task, is_task-telling, IsOurs, IsWanted}
use Rattle.grs_world.proofs.Common.{IsWantedBy, lines_of, List, list_of, Local, Look, look, look_around, look_home}
use Rattle.grs_world.proofs.Common.{looks_asked, Matches, may_go, Meaning, new_owners, new_task, no_truth, NodeState}
use Rattle.grs_world.proofs.Common.{None, not, Option, owns, Phase, phase_step, post, posted, ready_step, Rec}
use Rattle.grs_world.proofs.Common.{record_of, refl, Release, replied, Res, res_wanted, Row, Rows, same_place, same_res}
use Rattle.grs_world.proofs.Common.{same_res-exact, same_task, same_task-exact, show, Showing, slice_get, Some, some_of}
use Rattle.grs_world.proofs.Common.{State, state_of, state_of-telling, Step, subst, suc, sym, SysId, take_line}
use Rattle.grs_world.proofs.Common.{task_step, TaskId, TaskState, TasksView, tell_all, tell_answer}
use Rattle.grs_world.proofs.Common.{tell_answer_any_ranked, tell_answer_ranked, tell_code, tell_control, tell_new}
use Rattle.grs_world.proofs.Common.{tell_rows, tell_untold, telling, ToldLine, true, unrecorded, wait, Want, with_line}
use Rattle.grs_world.proofs.Common.{with_outstanding, with_phase, with_rank_of, with_rows, with_tasks, zero, ℕ}
use Rattle.star_client.specs.Client.{has_sent, is_awaited}
use Rattle.grs_known.proofs.records.Control.{Controlled, hears-has, hears-marked}
use Rattle.grs_known.proofs.system.Did.{did-code}
use Rattle.grs_wire.specs.declared.request.Answer.TheVariants.{Coded as CodedBy}
use Rattle.grs_wire.specs.declared.medium.Mail.TheVariants.{Answered as AnsweredMail}
use Rattle.grs_known.proofs.tasks.Answered.{IsAnswerTo, KeepsRecords, lists-answer, rows-told}
use Rattle.grs_known.proofs.records.Deciding.{AllKept, IsQuiet, own-kept}
use Rattle.grs_world.proofs.at_rest.Events.{can_get-answers, date-ranked, date-sent, date-telling}
use Rattle.grs_world.proofs.at_rest.Ring.{is_local}
use Rattle.grs_world.proofs.at_rest.Steps.{AllDate, date-control, date-task, going-ours, placed-here}
use Rattle.grs_world.proofs.star.Heard.{grants}
use Rattle.grs_world.proofs.star.hearing.Answering.{Answered, answered}
use Rattle.grs_world.proofs.star.hearing.Gentle.{phase-records}
use Rattle.grs_legal.specs.declared.meaning.Meaning.TheVariants as lines
use Rattle.grs_wire.specs.declared.told.ToldLine.TheVariants as told
use Rattle.grs_wire.specs.declared.told.Verb.TheVariants as verbs
use Rattle.task_state.specs.declared.state.Phase.TheVariants as phases

-- ---- what other events leave
-- Each task stays up to date, and of the resources of its system the same are on record, where what was told stays
-- told.
pub record Keeps (deck : Deck) (v w : TasksView) : Type 0 where
  pub date : AllDate false deck w
  pub here : (t : TaskId) → is_task w t ≡ is_task v t
  pub local : (t : TaskId) (r : Res) → is_local r ≡ true
      → (has_res r (state_of w t).records ≡ has_res r (state_of v t).records)
      × (is_marked r (state_of v t).records ≡ true → is_marked r (state_of w t).records ≡ true)

pub keeps-none : (deck : Deck) (v : TasksView) → AllDate false deck v → Keeps deck v v
keeps-none deck v h = record { date = h; here = λ t. refl; local = λ t r l. (refl, λ m. m) }

pub keeps-then : (deck : Deck) (v w z : TasksView) → Keeps deck v w → (AllDate false deck w → Keeps deck w z)
    → Keeps deck v z
keeps-then deck v w z a f =
    let b = f a.date in
    record {
      date = b.date;
      here = λ t. b.here t ∙ a.here t;
      local = λ t r l. ((b.local t r l).0 ∙ (a.local t r l).0, λ m. (b.local t r l).1 ((a.local t r l).1 m));
    }

pub at-place : (v : TasksView) (t u : TaskId) → u.task ≡ t.task → state_of v u ≡ state_of v t
unfolding state_of
at-place v t u e = ap (λ i. get_or v.tasks i new_task) e

local-did : (v w : TasksView) (t : TaskId) (x : TaskState) (T : List ToldLine) → Did v w t x T →
    ((r : Res) → is_local r ≡ true
    → (has_res r x.records ≡ has_res r (state_of v t).records)
    × (is_marked r (state_of v t).records ≡ true → is_marked r x.records ≡ true))
    →
    (u : TaskId) (r : Res) → is_local r ≡ true
    → (has_res r (state_of w u).records ≡ has_res r (state_of v u).records)
    × (is_marked r (state_of v u).records ≡ true → is_marked r (state_of w u).records ≡ true)
local-did v w t x T d k u r l = go (u.task == t.task) refl
  where
    go : (b : Bool) → (u.task == t.task) ≡ b
        → (has_res r (state_of w u).records ≡ has_res r (state_of v u).records)
        × (is_marked r (state_of v u).records ≡ true → is_marked r (state_of w u).records ≡ true)
    go true e =
        let same : u.task ≡ t.task = eqb-true u.task t.task e in
        subst (λ (y : TaskState).
        (has_res r (state_of w u).records ≡ has_res r y.records)
        × (is_marked r y.records ≡ true → is_marked r (state_of w u).records ≡ true))
        (sym (at-place v t u same))
        (subst (λ (y : TaskState).
        (has_res r y.records ≡ has_res r (state_of v t).records)
        × (is_marked r (state_of v t).records ≡ true → is_marked r y.records ≡ true))
        (sym (at-place w t u same ∙ d.state)) (k r l))
    go false e =
        subst (λ (y : TaskState).
        (has_res r y.records ≡ has_res r (state_of v u).records)
        × (is_marked r (state_of v u).records ≡ true → is_marked r y.records ≡ true))
        (sym (d.changed.others u (eqb-false u.task t.task e))) (refl, λ m. m)

-- control is told
pub keeps-control : (deck : Deck) (v : TasksView) (r : Res) (t : TaskId) → AllDate false deck v
    → Keeps deck v (tell_control v r t)
unfolding tell_control
keeps-control deck v r t h = go (is_task v t) refl
  where
    go : (b : Bool) → is_task v t ≡ b → Keeps deck v (tell_control v r t)
    go false e =
        subst (λ b. Keeps deck v (cond b (tell_untold v t r (record_of (state_of v t).records r)) v)) (sym e)
        (keeps-none deck v h)
    go true e =
        let k : Controlled v r t (tell_control v r t) = controlled v r t e in
        record {
          date = date-control false deck v r t h;
          here = k.did.changed.here;
          local =
              local-did v (tell_control v r t) t k.state k.told k.did
              (λ q l. (
                hears-has t r q (state_of v t) v.told k.state k.told k.hears,
                λ m. hears-marked t r q (state_of v t) v.told k.state k.told k.hears m,
              ));
        }

keeps-all : (deck : Deck) (v : TasksView) (r : Res) (ts : List TaskId) → AllDate false deck v
    → Keeps deck v (tell_all v r ts)
unfolding tell_all
keeps-all deck v r [] h = keeps-none deck v h
keeps-all deck v r (t ∷ ts) h =
    keeps-then deck v (tell_control v r t) (tell_all (tell_control v r t) r ts) (keeps-control deck v r t h)
    (λ k. keeps-all deck (tell_control v r t) r ts k)

pub keeps-new : (deck : Deck) (v : TasksView) (o : Option Res) (ts : List TaskId) → AllDate false deck v
    → Keeps deck v (tell_new v o ts)
unfolding tell_new
keeps-new deck v None ts h = keeps-none deck v h
keeps-new deck v (Some r) ts h = keeps-all deck v r ts h

-- a line that is no task's
pub keeps-telling : (deck : Deck) (v : TasksView) (l : ToldLine) → AllDate false deck v → Keeps deck v (telling v l)
keeps-telling deck v l h = record {
  date = date-telling false deck v l h;
  here = λ t. is_task-telling v t l;
  local = λ t r k.
      subst (λ (y : TaskState).
      (has_res r y.records ≡ has_res r (state_of v t).records)
      × (is_marked r (state_of v t).records ≡ true → is_marked r y.records ≡ true))
      (sym (state_of-telling v t l)) (refl, λ m. m);
}

-- a request is sent
pub keeps-sent : (deck : Deck) (v : TasksView) (t : TaskId) → is_task v t ≡ true → AllDate false deck v
    → Keeps deck v (with_phase v t phases.Sent)
keeps-sent deck v t here h = record {
  date = date-sent false deck v t h here;
  here = (did-phase v v t (state_of v t) v.told here (did-none v t) phases.Sent).changed.here;
  local = λ u r l. let same = phase-records v t phases.Sent here u in
      (ap (has_res r) same, λ m. ap (is_marked r) same ∙ m);
}

-- what is outstanding and answered by a code is asked of the whole complex
wanted-wide : (ls : List Meaning) (n : ℕ) (w : Want) (unit : Option ℕ) (showing : Option Showing) (code : Code)
    → IsAnswerTo w (CodedBy code) → IsWanted false ls n w unit showing
    → (r : Res) × (res_wanted w ≡ Some r) × (is_systems r ≡ true)
wanted-wide ls n (Enq r c ret full) unit showing code is k = (r, refl, k.1.1)
wanted-wide ls n (Deq r have) unit showing code is k = (r, refl, k.1)
wanted-wide ls n (Release r) unit showing code is k = (r, refl, k)
wanted-wide ls n (Look first count f) unit showing code is k = absurd is

-- rows are shown to who looks, and make no record
looks-wanted : (w : Want) (rows : List Row) → IsAnswerTo w (Rows rows) → res_wanted w ≡ None
looks-wanted (Enq r c ret full) rows is = absurd is
looks-wanted (Deq r have) rows is = absurd is
looks-wanted (Release r) rows is = absurd is
looks-wanted (Look first count f) rows is = refl

unranked : (v : TasksView) (u : TaskId) (a : Asked) (rows : List Row) (rank : ℕ) → IsAnswerTo a.req.want (Rows rows)
    → tell_answer_ranked v u a (Rows rows) rank ≡ tell_answer v u a (Rows rows)
unfolding tell_answer_ranked
unranked v u a rows rank answers =
    ap (λ o. with_rank_of (tell_answer v u a (Rows rows)) u (unrecorded v u o) rank)
    (looks-wanted a.req.want rows answers)

local-apart : (q r : Res) → is_local q ≡ true → is_systems r ≡ true → same_res q r ≡ false
local-apart q r narrow wide =
    false_by (same_res q r)
    (λ e. no_truth (is_systems q) (ap is_systems (same_res-exact q r e) ∙ wide) (by_not (is_systems q) narrow))
  where
    by_not : (b : Bool) → not b ≡ true → b ≡ false
    by_not false e = refl
    by_not true e = absurd (cc)

-- it is answered
pub keeps-answer : (deck : Deck) (v : TasksView) (u : TaskId) (a : Asked) (answer : Answer) (rank : ℕ)
    → is_of_deck deck u ≡ true → is_task v u ≡ true → (state_of v u).outstanding ≡ Some a → IsAnswerTo a.req.want answer
    → AllDate false deck v → Keeps deck v (tell_answer_ranked v u a answer rank)
keeps-answer deck v u a (Rows rows) rank of_deck here is answers h =
    let lines = some_of (lines_of deck u) of_deck in
    let k : KeepsRecords false lines.0 u v u (tell_answer v u a (Rows rows)) =
    rows-told false lines.0 v u u (placed-here v u u here here refl) here a is (h u lines.0 lines.1 here) rows
    answers in
    record {
      date = date-ranked false deck v u a (Rows rows) rank h of_deck here is answers;
      here =
          subst (λ w. (t : TaskId) → is_task w t ≡ is_task v t) (sym (unranked v u a rows rank answers))
          k.stands.did.changed.here;
      local =
          subst (λ w.
          (t : TaskId) (r : Res) → is_local r ≡ true
          → (has_res r (state_of w t).records ≡ has_res r (state_of v t).records)
          × (is_marked r (state_of v t).records ≡ true → is_marked r (state_of w t).records ≡ true))
          (sym (unranked v u a rows rank answers))
          (local-did v (tell_answer v u a (Rows rows)) u k.stands.state k.stands.told k.stands.did
          (λ q l. (ap (has_res q) k.records, λ m. ap (is_marked q) k.records ∙ m)));
    }
keeps-answer deck v u a (CodedBy code) rank of_deck here is coded h =
    let lines = some_of (lines_of deck u) of_deck in
    let wanted : IsWantedBy false lines.0 (state_of v u).line (Some a) =
    subst (IsWantedBy false lines.0 (state_of v u).line) is (h u lines.0 lines.1 here).wanted in
    let wide = wanted-wide lines.0 (state_of v u).line a.req.want a.unit a.showing code coded wanted in
    let k : Answered v (tell_answer_ranked v u a (CodedBy code) rank) u a.req.want (grants (CodedBy code)) =
    answered v u here a (CodedBy code) rank in
    record {
      date = date-ranked false deck v u a (CodedBy code) rank h of_deck here is coded;
      here = k.did.changed.here;
      local =
          local-did v (tell_answer_ranked v u a (CodedBy code) rank) u k.state k.told k.did
          (λ q l. let o = k.replied.others q wide.0 wide.1 (local-apart q wide.0 l wide.2) in (o.1, λ m. o.0 ∙ m));
    }

-- by the system itself, and then it tells the new owners
pub keeps-decided : (deck : Deck) (v : TasksView) (u : TaskId) (a : Asked) (s : State) (rank : ℕ) (ts : List TaskId)
    → is_of_deck deck u ≡ true → is_task v u ≡ true → (state_of v u).outstanding ≡ Some a → AllDate false deck v →
    Keeps deck v (tell_new (tell_answer_ranked v u a (answer_to s u a.req.want) rank) (res_wanted a.req.want) ts)
keeps-decided deck v u a s rank ts of_deck here is h =
    keeps-then deck v (tell_answer_ranked v u a (answer_to s u a.req.want) rank)
    (tell_new (tell_answer_ranked v u a (answer_to s u a.req.want) rank) (res_wanted a.req.want) ts)
    (keeps-answer deck v u a (answer_to s u a.req.want) rank of_deck here is (lists-answer s u a.req.want) h)
    (λ k. keeps-new deck (tell_answer_ranked v u a (answer_to s u a.req.want) rank) (res_wanted a.req.want) ts k)

-- by mail
pub keeps-mail : (deck : Deck) (v : TasksView) (u : TaskId) (answer : Answer) (rank : ℕ) → is_of_deck deck u ≡ true
    → AllDate false deck v → Keeps deck v (after_mail v (AnsweredMail u answer rank))
unfolding after_mail
keeps-mail deck v u answer rank of_deck h =
    by_test (Keeps deck v) (has_effect v u answer rank) _ v answers (λ e. keeps-none deck v h)
  where
    answers : has_effect v u answer rank ≡ true
        → Keeps deck v (tell_answer_any_ranked v u answer rank (state_of v u).outstanding)
    answers e = go (state_of v u).outstanding refl
      where
        here : is_task v u ≡ true
        here = (and_parts (is_task v u) (is_sent (state_of v u).phase) (and_parts (has_sent v u) _ e).0).0

        awaited : is_awaited answer (state_of v u).outstanding ≡ true
        awaited = (and_parts _ (is_awaited answer (state_of v u).outstanding) (and_parts (has_sent v u) _ e).1).1

        go : (o : Option Asked) → (state_of v u).outstanding ≡ o
            → Keeps deck v (tell_answer_any_ranked v u answer rank o)
        go None f = keeps-none deck v h
        go (Some a) f =
            keeps-answer deck v u a answer rank of_deck here f
            (can_get-answers a.req.want answer (ap (is_awaited answer) (sym f) ∙ awaited)) h

-- ---- a system whose tasks are up to date, and which has on record what its own lists have
abbrev pub AreLocal : Deck → ℕ → NodeState → Type 0
AreLocal deck s n =
    (t : TaskId) (ls : List Meaning) → IsOurs deck s n.tasks t ls
    → Matches is_local n.own t (state_of n.tasks t).records

pub record IsDated (deck : Deck) (s : ℕ) (n : NodeState) : Type 0 where
  pub date : AllDate false deck n.tasks
  pub own : AreLocal deck s n

pub dated-by : (deck : Deck) (s : ℕ) (n k : NodeState) → k.own ≡ n.own → IsDated deck s n → Keeps deck n.tasks k.tasks
    → IsDated deck s k
dated-by deck s n k own h z = record {
  date = z.date;
  own = λ t ls o.
      let old = h.own t ls (record { lines = o.lines; home = o.home; here = sym (z.here t) ∙ o.here }) in
      record {
        same = λ r l. (z.local t r l).0 ∙ (old.same r l ∙ ap (λ y. has_task (list_of y r) t) (sym own));
        told = λ r l owned. (z.local t r l).1 (old.told r l (ap (λ y. owns (list_of y r) t) (sym own) ∙ owned));
      };
}

-- ---- a task goes on
module _ (deck : Deck) (s : ℕ) (n : NodeState) (h : AreLocal deck s n) (u : TaskId) (ms : List Meaning)
    (ours : IsOurs deck s n.tasks u ms) (distinct : is_distinct (state_of n.tasks u).records ≡ true) where
  abbrev v : TasksView
  v = n.tasks

  module _ (w : TasksView) (x : TaskState) (T : List ToldLine) (did : Did n.tasks w u x T) where
    was : (t : TaskId) (ls : List Meaning) → IsOurs deck s w t ls → IsOurs deck s n.tasks t ls
    was t ls o = record { lines = o.lines; home = o.home; here = sym (did.changed.here t) ∙ o.here }

    -- it has the same records
    local-same : x.records ≡ (state_of n.tasks u).records → AreLocal deck s (with_tasks n w)
    local-same recs t ls o = go (same_task t u) refl
      where
        go : (b : Bool) → same_task t u ≡ b → Matches is_local n.own t (state_of w t).records
        go true e = let one : u ≡ t = sym (same_task-exact t u e) in
            subst (λ z. Matches is_local n.own z (state_of w z).records) one
            (subst (λ (y : TaskState). Matches is_local n.own u y.records) (sym did.state)
            (subst (Matches is_local n.own u) (sym recs) (h u ms ours)))
        go false e =
            subst (λ (y : TaskState). Matches is_local n.own t y.records)
            (sym (did.changed.others t
            (λ place. no_truth (same_task t u) (same_place deck s n.tasks t u ls ms (was t ls o) ours place) e)))
            (h t ls (was t ls o))

  -- ---- its request waits to be sent
  module _ (v0 : TasksView) (x : TaskState) (did : Did n.tasks v0 u x n.tasks.told)
      (recs : x.records ≡ (state_of n.tasks u).records) where
    local-posted : (a : Asked) → AreLocal deck s (posted (with_tasks n v0) u a)
    local-posted a =
        local-same (with_outstanding (with_phase v0 u phases.ToSend) u (Some a))
        (record x { phase = phases.ToSend; code = x.code; outstanding = Some a }) n.tasks.told
        (did-outstanding v (with_phase v0 u phases.ToSend) u (record x { phase = phases.ToSend; code = x.code }) v.told
        ours.here (did-phase v v0 u x v.told ours.here did phases.ToSend) (Some a))
        recs

  -- ---- it asks, as it stands at x
  module _ (v0 : TasksView) (x : TaskState) (did : Did n.tasks v0 u x n.tasks.told)
      (recs : x.records ≡ (state_of n.tasks u).records) (free : (f : Phase → Bool) → IsQuiet f → f x.phase ≡ false)
      (w : Want) (r : Res) (wanted : res_wanted w ≡ Some r) (unit : Option ℕ) where
    local-decide : is_systems r ≡ false → AreLocal deck s (decide (with_tasks n v0) u w unit).node
    unfolding decide
    local-decide narrow =
        subst (λ o.
        AreLocal deck s (record n {
          tasks = tell_new (replied v0 u w unit (answer_to n.own u w)) o (new_owners n.own u w);
          own = after_want n.own u w;
        }))
        (sym wanted)
        (λ t ls o. k.lists t ls (was_ours t ls o))
      where
        k :
            AllKept deck s is_local (λ q. false) (after_want n.own u w) [] n.tasks
            (tell_new (replied v0 u w unit (answer_to n.own u w)) (Some r) (new_owners n.own u w))
        k =
            own-kept deck s is_local (λ q. false) n.own [] n.tasks r (ap not narrow) refl h
            (λ t ls o. record {
              same = λ q e. absurd (let no : false ≡ true = e in cc);
              told = λ q e own. absurd (let no : false ≡ true = e in cc);
            })
            u ms ours v0 x did recs free distinct w wanted unit

        was_ours : (t : TaskId) (ls : List Meaning)
            → IsOurs deck s (tell_new (replied v0 u w unit (answer_to n.own u w)) (Some r) (new_owners n.own u w)) t ls
            → IsOurs deck s n.tasks t ls
        was_ours t ls o = record { lines = o.lines; home = o.home; here = sym (k.here t) ∙ o.here }

    local-post : AreLocal deck s (post (with_tasks n v0) u w unit).node
    unfolding post
    local-post =
        local-posted v0 x did recs (record { req = record { task = u; want = w }; unit = unit; showing = None })

    local-ask : AreLocal deck s (ask (with_tasks n v0) u w unit).node
    unfolding ask
    local-ask =
        by_test (λ (st : Step). AreLocal deck s st.node) (is_for_all (res_wanted w)) (post (with_tasks n v0) u w unit)
        (decide (with_tasks n v0) u w unit) (λ wide. local-post)
        (λ narrow. local-decide (ap is_for_all (sym wanted) ∙ narrow))

  -- ---- one that is ready
  quiet-ready : (p : Phase) → p ≡ phases.Ready → (f : Phase → Bool) → IsQuiet f → f p ≡ false
  quiet-ready p e f k = ap f e ∙ k.ready

  module _ (ready : (state_of n.tasks u).phase ≡ phases.Ready) where
    abbrev y : TaskState
    y = state_of n.tasks u

    did-next : Did n.tasks (with_line n.tasks u) u (record y { line = suc y.line }) n.tasks.told
    did-next = did-line v v u y v.told ours.here (did-none v u)

    local-wait : (r : Res) (o : Option Rec) → AreLocal deck s (with_tasks n (wait (with_line n.tasks u) u r o))
    unfolding wait
    local-wait r None =
        local-same (tell_code (with_line v u) u verbs.Wait C08) (record y { line = suc y.line }) _
        (did-code v (with_line v u) u (record y { line = suc y.line }) v.told ours.here did-next verbs.Wait C08) refl
    local-wait r (Some z) = go z.told
      where
        go : (b : Bool)
            → AreLocal deck s (with_tasks n (cond b (tell_code (with_line n.tasks u) u verbs.Wait C00)
            (with_phase (with_line n.tasks u) u (phases.HeldLine r))))
        go true =
            local-same (tell_code (with_line v u) u verbs.Wait C00) (record y { line = suc y.line }) _
            (did-code v (with_line v u) u (record y { line = suc y.line }) v.told ours.here did-next verbs.Wait C00)
            refl
        go false =
            local-same (with_phase (with_line v u) u (phases.HeldLine r))
            (record y { line = suc y.line; phase = phases.HeldLine r }) v.told
            (did-phase v (with_line v u) u (record y { line = suc y.line }) v.told ours.here did-next
            (phases.HeldLine r))
            refl

    -- a line that shows lists
    local-around : (d : Display) (w : TasksView) (z : TaskState) → Did n.tasks w u z n.tasks.told
        → z.records ≡ y.records → (count : ℕ) → AreLocal deck s (look_around (with_tasks n w) u d count)
    local-around d w z did recs zero =
        local-same (tell_rows w u d.verb) (record z { rows = [] }) _ (did-shown v w u z v.told ours.here did d.verb)
        recs
    local-around d w z did recs (suc more) = local-posted w z did recs (looks_asked u d more n.star)

    local-show : (d : Display) → AreLocal deck s (show (with_tasks n (with_line n.tasks u)) u d).node
    unfolding show
    local-show d = go d.home
      where
        go : (home : Option SysId)
            → AreLocal deck s (look_around (look_home (with_tasks n (with_line n.tasks u)) u d home).node u d d.count)
        go None = local-around d (with_line v u) (record y { line = suc y.line }) did-next refl d.count
        go (Some z) =
            let rows : List Row = look n.own (Local u.system) d.filter in
            local-around d (with_rows (with_line v u) u rows) (record y { line = suc y.line; rows = y.rows ++ rows })
            (did-rows v (with_line v u) u (record y { line = suc y.line }) v.told ours.here did-next rows) refl d.count

    local-line : (limit : ℕ) (l : Meaning)
        → AreLocal deck s (take_line limit (with_tasks n (with_line n.tasks u)) u l).node
    unfolding take_line
    local-line limit (lines.Enq r c ret unit) =
        local-ask (with_line v u) (record y { line = suc y.line }) did-next refl (quiet-ready y.phase ready)
        (Enq r c ret (has_most limit (with_line v u) u)) r refl unit
    local-line limit (lines.Deq r have) =
        local-ask (with_line v u) (record y { line = suc y.line }) did-next refl (quiet-ready y.phase ready)
        (Deq r have) r refl None
    local-line limit (lines.Wait r) = local-wait r (record_of (state_of (with_line v u) u).records r)
    local-line limit (lines.Shows d) = local-show d
    local-line limit lines.Nothing = local-same (with_line v u) (record y { line = suc y.line }) v.told did-next refl

  -- one that is ending
  module _ (v0 : TasksView) (x : TaskState) (did : Did n.tasks v0 u x n.tasks.told)
      (recs : x.records ≡ (state_of n.tasks u).records) (c : ℕ) (ending : x.phase ≡ phases.Ending c) where
    local-end : (xs : List Rec) → AreLocal deck s (end_step (with_tasks n v0) u c xs).node
    unfolding end_step
    local-end [] =
        local-same (telling (with_phase v0 u phases.Ended) (told.Ended u c)) (record x { phase = phases.Ended }) _
        (did-telling v (with_phase v0 u phases.Ended) u (record x { phase = phases.Ended }) v.told (told.Ended u c)
        (did-phase v v0 u x v.told ours.here did phases.Ended))
        recs
    local-end (z ∷ xs) = local-ask v0 x did recs (λ f k. ap f ending ∙ k.ending c) (Release z.res) z.res refl None

  -- whatever it does by its phase
  local-phase : (limit : ℕ) (p : Phase) → (state_of n.tasks u).phase ≡ p
      → AreLocal deck s (phase_step limit n u ms p).node
  unfolding phase_step ready_step
  local-phase limit phases.Ready e = go (slice_get ms (state_of v u).line)
    where
      go : (o : Option Meaning) → AreLocal deck s (ready_step limit n u o).node
      go (Some l) = local-line e limit l
      go None =
          local-end (with_phase v u (phases.Ending 0)) (record (state_of v u) { phase = phases.Ending 0; code = 0 })
          (did-phase v v u (state_of v u) v.told ours.here (did-none v u) (phases.Ending 0)) refl 0 refl
          (state_of (with_phase v u (phases.Ending 0)) u).records
  local-phase limit (phases.Ending c) e = local-end v (state_of v u) (did-none v u) refl c e (state_of v u).records
  local-phase limit phases.HeldAnswer e = h
  local-phase limit (phases.HeldLine r) e = h
  local-phase limit phases.ToSend e = h
  local-phase limit phases.Sent e = h
  local-phase limit phases.Ended e = h

  pub local-star : (limit : ℕ) → AreLocal deck s (task_step limit n u (Some ms)).node
  local-star limit = local-phase limit (state_of v u).phase refl

-- so it stays as it should be
pub dated-task : (deck : Deck) (s : ℕ) (n : NodeState) → n.tasks.system ≡ s
    → ((t : TaskId) (ls : List Meaning) → IsOurs deck s n.tasks t ls → is_distinct (state_of n.tasks t).records ≡ true)
    → (t : TaskId) → may_go deck n t ≡ true → IsDated deck s n
    → IsDated deck s (task_step deck.limit n t (lines_of deck t)).node
dated-task deck s n system distinct t may h =
    let ours = going-ours deck s n system t may in
    subst (λ o. IsDated deck s (task_step deck.limit n t o).node) (sym ours.1.lines) (record {
      date = date-task false deck n (λ e. absurd (cc)) h.date t ours.0 ours.1.lines ours.1.here;
      own = local-star deck s n h.own t ours.0 ours.1 (distinct t ours.0 ours.1) deck.limit;
    })
