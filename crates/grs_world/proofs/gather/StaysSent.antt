-- A task that has sent its request, which isn't answered yet, stays so by each event of its system that takes neither a
-- notice nor an answer to it.
use Rattle.grs_world.proofs.Common.{[], ◌&&◌, ◌==◌, ◌∙◌, ◌∷◌, ◌≡◌, ◌≢◌, after_code, after_mail, and_from, and_parts}
use Rattle.grs_world.proofs.Common.{Answer, answer_to, ap, ask, Asked, Bool, by_test, C00, C08, call_at, call_in}
use Rattle.grs_world.proofs.Common.{Choice, chosen, Code, cond, counted, decide, decide_own, Deck, Deq, desk_told}
use Rattle.grs_world.proofs.Common.{did-none, did-rows, did-shown, Display, end_step, Enq, eq-eqb, Event, false, filter}
use Rattle.grs_world.proofs.Common.{fixing_none, get_or, goes_on, happens, happens_at, has, has_effect, has_most}
use Rattle.grs_world.proofs.Common.{is_for_all, is_for_deck, is_live, is_none, is_of_deck, is_sent, is_task}
use Rattle.grs_world.proofs.Common.{is_task-telling, is_to_send, known_from, length, lines_of, List, Local, Look, look}
use Rattle.grs_world.proofs.Common.{look_around, look_home, losing, lt-ltb, Mail, may_go, may_send, Meaning}
use Rattle.grs_world.proofs.Common.{MediumState, members, names_of, nat_lt, new_owners, new_task, no_truth, NodeState}
use Rattle.grs_world.proofs.Common.{None, not, not-true, Option, PartRec, phase_step, placed, post, posted, prepare, purged}
use Rattle.grs_world.proofs.Common.{ready_step, Rec, record_of, refl, Release, replied, reply_by, reply_of, Res}
use Rattle.grs_world.proofs.Common.{res_wanted, Row, Rows, run, Said, same_Some, show, slice_get, slice_get_within}
use Rattle.grs_world.proofs.Common.{Some, stale, standing, StarPart, state_of, state_of-telling, Step, suc, switched}
use Rattle.grs_world.proofs.Common.{sym, SysId, take_line, take_mail, task_step, TaskId, TaskState, TasksView, tell_all}
use Rattle.grs_world.proofs.Common.{tell_answer_any_ranked, tell_answer_ranked, tell_code, tell_control, tell_new}
use Rattle.grs_world.proofs.Common.{tell_rows, telling, took_mail, true, true≢false, Turnout, wait, Wait, Want}
use Rattle.grs_world.proofs.Common.{with_also, with_line, with_outstanding, with_phase, with_rows, with_state}
use Rattle.grs_world.proofs.Common.{with_tasks, without_those, World, zero, ℕ}
use Rattle.grs_known.proofs.system.Did.{did-after_code_deq, did-after_code_enq, did-after_code_release, did-code}
use Rattle.grs_known.proofs.system.Ours.{IsChanged, changed-state, changed-telling}
use Rattle.grs_wire.specs.declared.told.Verb.{Verb}
use Rattle.star_client.specs.Client.{has_sent}
use Rattle.task_state.specs.declared.state.Phase.{Phase}
use Rattle.grs_legal.specs.declared.meaning.Meaning.TheVariants as lines
use Rattle.grs_wire.specs.declared.medium.Mail.TheVariants as mails
use Rattle.grs_wire.specs.declared.medium.Reply.TheVariants as replies
use Rattle.grs_wire.specs.declared.request.Answer.TheVariants.{Coded as CodedAnswer}
use Rattle.grs_wire.specs.declared.told.Said.TheVariants as saids
use Rattle.grs_wire.specs.declared.told.ToldLine.TheVariants as told
use Rattle.grs_wire.specs.declared.told.Verb.TheVariants as verbs
use Rattle.task_state.specs.declared.state.Phase.TheVariants as phases
use Rattle.grs_world.proofs.gather.Again.{IsFree, Stands, node-after, told-stands}
use Rattle.grs_world.proofs.run.Came as any
use Rattle.grs_world.proofs.run.Came.{Acts, Came, Result, no_part, result_of}
use Rattle.grs_world.proofs.run.Chosen.{came, reply-in, reply_in}
use Rattle.grs_world.proofs.run.Lost.{tasks-lost, tasks-part}
use Rattle.grs_world.proofs.star.hearing.Faces.{answer-face}
use Rattle.grs_world.specs.Again.{SentStays, is_touched}

free-sent : IsFree phases.Sent
free-sent = (refl, λ q. refl)

-- ---- task u, at another place, does something
module _ (t : TaskId) (a : Option Asked) where
  abbrev IsSent : TasksView → Type 0
  IsSent v = Stands t a phases.Sent v

  control-sent : (v : TasksView) (r : Res) (u : TaskId) → IsSent v → IsSent (tell_control v r u)
  control-sent v r u h = told-stands t a phases.Sent free-sent v r u h

  all-sent : (ts : List TaskId) (v : TasksView) (r : Res) → IsSent v → IsSent (tell_all v r ts)
  unfolding tell_all
  all-sent [] v r h = h
  all-sent (u ∷ ts) v r h = all-sent ts (tell_control v r u) r (control-sent v r u h)

  new-sent : (v : TasksView) (o : Option Res) (ts : List TaskId) → IsSent v → IsSent (tell_new v o ts)
  unfolding tell_new
  new-sent v None ts h = h
  new-sent v (Some r) ts h = all-sent ts v r h

  -- two places
  apart-of : (v : TasksView) (u : TaskId) → is_sent (state_of v u).phase ≡ false → IsSent v → t.task ≢ u.task
  unfolding state_of
  apart-of v u off h same =
      true≢false (sym (ap is_sent h.is) ∙ (ap (λ i. is_sent (get_or v.tasks i new_task).phase) same ∙ off))

  module _ (u : TaskId) (apart : t.task ≢ u.task) where
    -- it is there, and so is the one that has sent
    record Both (v : TasksView) : Type 0 where
      sent : Stands t a phases.Sent v
      here : is_task v u ≡ true

    changed-both : (v w : TasksView) → IsChanged v w u → Both v → Both w
    changed-both v w c h =
        let same = c.others t apart in
        record {
          sent = record {
            here = c.here t ∙ h.sent.here;
            is = ap (λ (x : TaskState). x.phase) same ∙ h.sent.is;
            asks = ap (λ (x : TaskState). x.outstanding) same ∙ h.sent.asks;
          };
          here = c.here u ∙ h.here;
        }

    state-both : (v : TasksView) (f : TaskState → TaskState) → Both v → Both (with_state v u f)
    state-both v f h = changed-both v (with_state v u f) (changed-state v u f) h

    phase-both : (v : TasksView) (p : Phase) → Both v → Both (with_phase v u p)
    unfolding with_phase
    phase-both v p h = state-both v _ h

    asks-both : (v : TasksView) (o : Option Asked) → Both v → Both (with_outstanding v u o)
    unfolding with_outstanding
    asks-both v o h = state-both v _ h

    line-both : (v : TasksView) → Both v → Both (with_line v u)
    unfolding with_line
    line-both v h = state-both v _ h

    code-both : (v : TasksView) (verb : Verb) (c : Code) → Both v → Both (tell_code v u verb c)
    code-both v verb c h =
        changed-both v (tell_code v u verb c)
        (did-code v v u (state_of v u) v.told h.here (did-none v u) verb c).changed h

    after-both : (v : TasksView) (w : Want) (unit : Option ℕ) (c : Code) → Both v → Both (after_code v u w unit c)
    unfolding after_code
    after-both v (Enq r k ret full) unit c h =
        changed-both v _
        (did-after_code_enq v v u (state_of v u) v.told h.here (did-none v u) r k unit ret full c).changed h
    after-both v (Deq r have) unit c h =
        changed-both v _
        (did-after_code_deq v v u (state_of v u) v.told h.here (did-none v u) r have unit c).changed h
    after-both v (Release r) unit c h =
        changed-both v _
        (did-after_code_release v v u (state_of v u) v.told h.here (did-none v u) r unit c).changed h
    after-both v (Look first count f) unit c h = h

    replied-both : (v : TasksView) (w : Want) (unit : Option ℕ) (answer : Answer) → Both v
        → Both (replied v u w unit answer)
    unfolding replied
    replied-both v w unit (CodedAnswer c) h = after-both v w unit c h
    replied-both v w unit (Rows rows) h = h

    -- what it does by itself
    posted-sent : (k : NodeState) (x : Asked) → Both k.tasks → Stands t a phases.Sent (posted k u x).tasks
    posted-sent k x b =
        (asks-both (with_phase k.tasks u phases.ToSend) (Some x) (phase-both k.tasks phases.ToSend b)).sent

    ask-sent : (n : NodeState) (w : Want) (unit : Option ℕ) → Both n.tasks
        → Stands t a phases.Sent (ask n u w unit).node.tasks
    unfolding ask decide post
    ask-sent n w unit h =
        by_test (λ (z : Step). Stands t a phases.Sent z.node.tasks) (is_for_all (res_wanted w)) (post n u w unit)
        (decide n u w unit) (λ wide. posted-sent n _ h)
        (λ narrow.
        new-sent (replied n.tasks u w unit (answer_to n.own u w)) (res_wanted w) (new_owners n.own u w)
        (replied-both n.tasks w unit (answer_to n.own u w) h).sent)

    around-sent : (k : NodeState) (d : Display) (count : ℕ) → Both k.tasks
        → Stands t a phases.Sent (look_around k u d count).tasks
    around-sent k d zero b =
        (changed-both k.tasks (tell_rows k.tasks u d.verb)
        (did-shown k.tasks k.tasks u (state_of k.tasks u) k.tasks.told b.here (did-none k.tasks u) d.verb).changed
        b).sent
    around-sent k d (suc more) b = posted-sent k _ b

    show-sent : (n : NodeState) (d : Display) → Both n.tasks → Stands t a phases.Sent (show n u d).node.tasks
    unfolding show
    show-sent n d h = go d.home
      where
        go : (home : Option SysId)
            → Stands t a phases.Sent (look_around (look_home n u d home).node u d d.count).tasks
        go None = around-sent n d d.count h
        go (Some z) =
            let rows : List Row = look n.own (Local u.system) d.filter in
            around-sent (with_tasks n (with_rows n.tasks u rows)) d d.count
            (changed-both n.tasks (with_rows n.tasks u rows)
            (did-rows n.tasks n.tasks u (state_of n.tasks u) n.tasks.told h.here (did-none n.tasks u) rows).changed h)

    wait-both : (v : TasksView) (r : Res) (o : Option Rec) → Both v → Both (wait v u r o)
    unfolding wait
    wait-both v r None h = code-both v verbs.Wait C08 h
    wait-both v r (Some x) h =
        by_test (λ (w : TasksView). Both w) x.told (tell_code v u verbs.Wait C00) (with_phase v u (phases.HeldLine r))
        (λ told. code-both v verbs.Wait C00 h) (λ untold. phase-both v (phases.HeldLine r) h)

    line-sent : (limit : ℕ) (n : NodeState) (l : Meaning) → Both n.tasks
        → Stands t a phases.Sent (take_line limit n u l).node.tasks
    unfolding take_line
    line-sent limit n (lines.Enq r c ret unit) h = ask-sent n (Enq r c ret (has_most limit n.tasks u)) unit h
    line-sent limit n (lines.Deq r have) h = ask-sent n (Deq r have) None h
    line-sent limit n (lines.Wait r) h = (wait-both n.tasks r (record_of (state_of n.tasks u).records r) h).sent
    line-sent limit n (lines.Shows d) h = show-sent n d h
    line-sent limit n lines.Nothing h = h.sent

    end-sent : (n : NodeState) (c : ℕ) (xs : List Rec) → Both n.tasks
        → Stands t a phases.Sent (end_step n u c xs).node.tasks
    unfolding end_step
    end-sent n c [] h =
        let k = phase-both n.tasks phases.Ended h in
        (changed-both (with_phase n.tasks u phases.Ended)
        (telling (with_phase n.tasks u phases.Ended) (told.Ended u c))
        (changed-telling (with_phase n.tasks u phases.Ended) u (told.Ended u c)) k).sent
    end-sent n c (x ∷ xs) h = ask-sent n (Release x.res) None h

    phase-sent : (limit : ℕ) (n : NodeState) (ls : List Meaning) (p : Phase) → Both n.tasks
        → Stands t a phases.Sent (phase_step limit n u ls p).node.tasks
    unfolding phase_step ready_step
    phase-sent limit n ls phases.Ready h = go (slice_get ls (state_of n.tasks u).line)
      where
        go : (o : Option Meaning) → Stands t a phases.Sent (ready_step limit n u o).node.tasks
        go (Some l) = line-sent limit (with_tasks n (with_line n.tasks u)) l (line-both n.tasks h)
        go None =
            end-sent (with_tasks n (with_phase n.tasks u (phases.Ending 0))) 0
            (state_of (with_phase n.tasks u (phases.Ending 0)) u).records (phase-both n.tasks (phases.Ending 0) h)
    phase-sent limit n ls (phases.Ending c) h = end-sent n c (state_of n.tasks u).records h
    phase-sent limit n ls phases.HeldAnswer h = h.sent
    phase-sent limit n ls (phases.HeldLine r) h = h.sent
    phase-sent limit n ls phases.ToSend h = h.sent
    phase-sent limit n ls phases.Sent h = h.sent
    phase-sent limit n ls phases.Ended h = h.sent

    task-sent : (limit : ℕ) (n : NodeState) (o : Option (List Meaning)) → Both n.tasks
        → Stands t a phases.Sent (task_step limit n u o).node.tasks
    task-sent limit n None h = h.sent
    task-sent limit n (Some ls) h = phase-sent limit n ls (state_of n.tasks u).phase h

    -- an answer to it
    answered-sent : (v : TasksView) (x : Asked) (answer : Answer) (rank : ℕ) → Both v
        → Stands t a phases.Sent (tell_answer_ranked v u x answer rank)
    answered-sent v x answer rank h =
        (changed-both v (tell_answer_ranked v u x answer rank) (answer-face v u h.here x answer rank).did.changed
        h).sent

  -- a task that goes on has sent nothing
  goes-unsent : (p : Phase) → goes_on p ≡ true → is_sent p ≡ false
  goes-unsent phases.Ready h = refl
  goes-unsent (phases.Ending c) h = refl
  goes-unsent phases.HeldAnswer h = refl
  goes-unsent (phases.HeldLine r) h = refl
  goes-unsent phases.ToSend h = refl
  goes-unsent phases.Sent h = absurd (cc)
  goes-unsent phases.Ended h = refl

  to_send-unsent : (p : Phase) → is_to_send p ≡ true → is_sent p ≡ false
  to_send-unsent phases.Ready h = refl
  to_send-unsent (phases.Ending c) h = refl
  to_send-unsent phases.HeldAnswer h = refl
  to_send-unsent (phases.HeldLine r) h = refl
  to_send-unsent phases.ToSend h = refl
  to_send-unsent phases.Sent h = absurd (cc)
  to_send-unsent phases.Ended h = refl

-- ---- an event of a system in star mode
may-parts : (deck : Deck) (n : NodeState) (u : TaskId) → may_send deck n u ≡ true
    → (is_task n.tasks u ≡ true) × (is_to_send (state_of n.tasks u).phase ≡ true)
unfolding may_send
may-parts deck n u h =
    let z = and_parts (is_task n.tasks u) (is_of_deck deck u && is_to_send (state_of n.tasks u).phase) h in
    (z.0, (and_parts (is_of_deck deck u) (is_to_send (state_of n.tasks u).phase) z.1).1)

goes-parts : (deck : Deck) (n : NodeState) (u : TaskId) → may_go deck n u ≡ true
    → (is_task n.tasks u ≡ true) × (goes_on (state_of n.tasks u).phase ≡ true)
unfolding may_go
goes-parts deck n u h =
    let z = and_parts (is_task n.tasks u) (is_of_deck deck u && goes_on (state_of n.tasks u).phase) h in
    (z.0, (and_parts (is_of_deck deck u) (goes_on (state_of n.tasks u).phase) z.1).1)

module _ (deck : Deck) (t : TaskId) (a : Option Asked) (n : NodeState) (h : Stands t a phases.Sent n.tasks) where
  abbrev StaysSo : TasksView → Type 0
  StaysSo v = Stands t a phases.Sent v

  -- its task u isn't that one, where it has sent nothing
  both-of : (u : TaskId) → is_task n.tasks u ≡ true → (apart : t.task ≢ u.task) → Both t a u apart n.tasks
  both-of u here apart = record { sent = h; here = here }

  desk-sent : (said : Said) → StaysSo (desk_told n said).tasks
  unfolding desk_told
  desk-sent said = record {
    here = is_task-telling n.tasks t _ ∙ h.here;
    is = ap (λ (x : TaskState). x.phase) (state_of-telling n.tasks t _) ∙ h.is;
    asks = ap (λ (x : TaskState). x.outstanding) (state_of-telling n.tasks t _) ∙ h.asks;
  }

  lost-sent : (k : NodeState) (ss : List SysId) → StaysSo k.tasks → StaysSo (losing deck k ss).tasks
  lost-sent k ss b = tasks-lost StaysSo (λ v r u g. control-sent t a v r u g) deck k ss b

  mail-sent : (p : StarPart) (mail : Mail) → is_touched t (Some (replies.Taken mail)) ≡ false
      → StaysSo (take_mail deck n.known n.tasks p mail).tasks
  unfolding took_mail after_mail
  mail-sent p mail off = go (is_for_deck deck mail) mail off
    where
      go : (b : Bool) (m : Mail) → is_touched t (Some (replies.Taken m)) ≡ false
          → StaysSo (cond b (took_mail deck n.known n.tasks p m) (fixing_none n.tasks p)).tasks
      go false m k = h
      go true (mails.Request e from q) k = h
      go true (mails.Granted u r) k = control-sent t a n.tasks r u h
      go true (mails.Notice target moved) k = absurd (cc)
      go true (mails.Part e from records) k =
          tasks-part StaysSo (λ v r u g. control-sent t a v r u g) n.known (names_of deck n.tasks.system)
          (standing n.tasks p) e from (filter (λ (r : PartRec). is_of_deck deck r.task) records) h
      go true (mails.Answered u answer rank) k =
          by_test StaysSo (has_effect n.tasks u answer rank)
          (tell_answer_any_ranked n.tasks u answer rank (state_of n.tasks u).outstanding) n.tasks
          (λ has_it. answered (state_of n.tasks u).outstanding (here has_it)) (λ none. h)
        where
          here : has_effect n.tasks u answer rank ≡ true → is_task n.tasks u ≡ true
          here e =
              (and_parts (is_task n.tasks u) (is_sent (state_of n.tasks u).phase)
              (and_parts (has_sent n.tasks u) _ e).0).0

          answered : (o : Option Asked) → is_task n.tasks u ≡ true
              → StaysSo (tell_answer_any_ranked n.tasks u answer rank o)
          answered None there = h
          answered (Some x) there =
              answered-sent t a u (λ same. no_truth (u.task == t.task) (eq-eqb u.task t.task (sym same)) k) n.tasks x
              answer rank (both-of u there (λ same. no_truth (u.task == t.task) (eq-eqb u.task t.task (sym same)) k))

  acts-sent : (m : MediumState) (c : SysId) (p : StarPart) (choice : Choice) (b : Result) (o : Turnout)
      → Acts deck m c n p choice b o → is_touched t (reply_in b) ≡ false → StaysSo o.step.node.tasks
  unfolding decide_own
  acts-sent m c p choice b o (any.decided u x e asked to at same) off =
      let z = may-parts deck n u asked.may in
      let apart = apart-of t a n.tasks u (to_send-unsent t a (state_of n.tasks u).phase z.1) h in
      new-sent t a _ _ _ (answered-sent t a u apart n.tasks x _ _ (both-of u z.0 apart))
  acts-sent m c p choice b o (any.began u x e asked none) off =
      let z = may-parts deck n u asked.may in
      let apart = apart-of t a n.tasks u (to_send-unsent t a (state_of n.tasks u).phase z.1) h in
      new-sent t a _ _ _ (answered-sent t a u apart n.tasks x _ _ (both-of u z.0 apart))
  acts-sent m c p choice b o (any.sent u x e asked to at far) off =
      let z = may-parts deck n u asked.may in
      let apart = apart-of t a n.tasks u (to_send-unsent t a (state_of n.tasks u).phase z.1) h in
      (phase-both t a u apart n.tasks phases.Sent (both-of u z.0 apart)).sent
  acts-sent m c p choice b o (any.took mail rest at) off = mail-sent p mail off
  acts-sent m c p choice b o (any.settled q first) off = new-sent t a n.tasks _ _ h
  acts-sent m c p choice b o (any.told e x first) off = h
  acts-sent m c p choice b o (any.parted e to owes unknown) off = h
  acts-sent m c p choice b o (any.left x flags may is) off = h

  pub came-sent : (m : MediumState) (c : SysId) (p : StarPart) → n.star ≡ Some p → (choice : Choice) (b : Result)
      (o : Turnout) → Came deck m c n choice b o → is_touched t (reply_in b) ≡ false → StaysSo o.step.node.tasks
  unfolding purged stale switched
  came-sent m c p star choice b o (any.nothing k r silent flags) off = h
  came-sent m c p star choice b o (any.informed k) off =
      let known : ℕ = known_from deck n.known m.removed in
      lost-sent (record n { known = known }) (members (without_those n.known known)) h
  came-sent m c p star choice b o (any.went_on u may) off =
      let z = goes-parts deck n u may in
      let apart = apart-of t a n.tasks u (goes-unsent t a (state_of n.tasks u).phase z.1) h in
      task-sent t a u apart deck.limit n (lines_of deck u) (both-of u z.0 apart)
  came-sent m c p star choice b o (any.turn flags alone unclosed here) off = no_part n p star alone
  came-sent m c p star choice b o (any.last_turn flags alone shut here) off = no_part n p star alone
  came-sent m c p star choice b o (any.changed ring next seen) off =
      by_test (λ (k : NodeState). StaysSo k.tasks) (is_none n.star) _ n
      (λ alone. absurd (true≢false (sym alone ∙ ap is_none star))) (λ there. h)
  came-sent m c p star choice b o (any.already mode next) off = desk-sent saids.StarAlready
  came-sent m c p star choice b o (any.removes_one target ring next lives) off =
      lost-sent (record (desk_told n saids.VaryDone) { known = with_also n.known target.0 }) (target ∷ [])
      (desk-sent saids.VaryDone)
  came-sent m c p star choice b o (any.removes_star target mode next lives) off =
      lost-sent (record (desk_told n saids.VaryDone) { known = with_also n.known target.0 }) (target ∷ [])
      (desk-sent saids.VaryDone)
  came-sent m c p star choice b o (any.no_such target next gone) off = desk-sent saids.VaryNoSuch
  came-sent m c p star choice b o (any.acted q is k r x acts) off = acts-sent m c q k r x acts off

-- a removed system's events change nothing
node-still : (deck : Deck) (w : World) (e : Event) (n : NodeState) → slice_get w.nodes e.system.0 ≡ Some n
    → is_live w e.system ≡ false → slice_get (happens deck w e).nodes e.system.0 ≡ slice_get w.nodes e.system.0
unfolding happens happens_at
node-still deck w e n at away =
    ap (λ o. slice_get (happens_at deck w e o).nodes e.system.0) at
    ∙ ap (λ b.
    let v : World = cond b (counted w) (placed w e.system n (chosen deck w.medium e.system n e.choice)) in
    slice_get v.nodes e.system.0)
    gone
  where
    gone : has w.medium.removed e.system.0 ≡ true
    gone = go (has w.medium.removed e.system.0) refl
      where
        go : (b : Bool) → has w.medium.removed e.system.0 ≡ b → b ≡ true
        go true is = refl
        go false is =
            let low : nat_lt e.system.0 (length w.nodes) ≡ true =
            lt-ltb e.system.0 (length w.nodes) (slice_get_within w.nodes e.system.0 n at) in
            absurd (true≢false (sym (and_from (nat_lt e.system.0 (length w.nodes)) _ low (ap not is)) ∙ away))

-- ---- so in every run
pub sent_stays : (deck : Deck) (es : List Event) (e : Event) → SentStays deck es e
sent_stays deck es e n k p t at star now off here is_out = by_live (is_live (run deck es) e.system) refl
  where
    stands : Stands t (state_of n.tasks t).outstanding phases.Sent n.tasks
    stands = record { here = here; is = is_out; asks = refl }

    made : (b : Bool) → is_live (run deck es) e.system ≡ b
        → reply_of deck (run deck es) e
        ≡ reply_by (run deck es).medium e.system (cond b (call_in (prepare deck n e.choice)) None)
    made b is =
        ap (λ q. reply_by (run deck es).medium e.system (call_at deck (run deck es) e q)) at
        ∙ ap (λ c. reply_by (run deck es).medium e.system (cond c (call_in (prepare deck n e.choice)) None)) is

    by_live : (b : Bool) → is_live (run deck es) e.system ≡ b
        → ((state_of k.tasks t).phase ≡ phases.Sent)
        × ((state_of k.tasks t).outstanding ≡ (state_of n.tasks t).outstanding)
    by_live false away =
        let same : k ≡ n = same_Some k n (sym now ∙ (node-still deck (run deck es) e n at away ∙ at)) in (
          ap (λ (z : NodeState). (state_of z.tasks t).phase) same ∙ is_out,
          ap (λ (z : NodeState). (state_of z.tasks t).outstanding) same,
        )
    by_live true live =
        let alive : has (run deck es).medium.removed e.system.0 ≡ false =
        not-true _
        (and_parts (nat_lt e.system.0 (length (run deck es).nodes))
        (not (has (run deck es).medium.removed e.system.0)) live).1 in
        let reply = made true live ∙ sym (reply-in (run deck es).medium e.system (prepare deck n e.choice)) in
        let node : k ≡ (chosen deck (run deck es).medium e.system n e.choice).step.node =
        same_Some k _ (sym now ∙ node-after deck (run deck es) e n at alive) in
        let z =
        came-sent deck t (state_of n.tasks t).outstanding n stands (run deck es).medium e.system p star e.choice
        (result_of (run deck es).medium e.system (prepare deck n e.choice))
        (chosen deck (run deck es).medium e.system n e.choice)
        (came deck (run deck es).medium e.system n alive e.choice) (sym (ap (is_touched t) reply) ∙ off) in (
          ap (λ (y : NodeState). (state_of y.tasks t).phase) node ∙ z.is,
          ap (λ (y : NodeState). (state_of y.tasks t).outstanding) node ∙ z.asks,
        )
