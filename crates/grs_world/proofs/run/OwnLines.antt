-- What a system tells its tasks in an event it tells tasks of its own, whatever the event is and whatever the medium
-- replies. It needs nothing of the run.
use Rattle.grs_world.proofs.Common.{[], ◌&&◌, ◌++◌, ◌+◌, ◌==◌, ◌∙◌, ◌∷◌, ◌≡◌, after_code, after_mail, all_sent}
use Rattle.grs_world.proofs.Common.{and_parts, Answer, answer_for, answer_own, answer_to, answered, ap, append-nil}
use Rattle.grs_world.proofs.Common.{append_assoc, ask, Asked, begun, Bool, by_test, C00, C08, change_to_star, Choice}
use Rattle.grs_world.proofs.Common.{Code, cond, Ctl, decide, decide_own, Deck, Deq, desk_told, Display, Elem, end_step}
use Rattle.grs_world.proofs.Common.{Enq, eq-eqb, eqb-true, false, filter, fixing_none, freed, goes_on_looking, Granted}
use Rattle.grs_world.proofs.Common.{has_effect, is_for_all, is_for_deck, is_granted, is_held_for, is_item_of}
use Rattle.grs_world.proofs.Common.{is_leaving, is_line_of, is_none, is_of_deck, is_sent, is_task, known_from, length}
use Rattle.grs_world.proofs.Common.{lines_of, List, list_all, Look, look_around, look_home, looked, losing, Mail}
use Rattle.grs_world.proofs.Common.{may_send, Meaning, MediumState, members, most_additions, names_of, nat_lt}
use Rattle.grs_world.proofs.Common.{new_owners, NodeState, None, Notice, one_by_one, Option, owners_by, Part}
use Rattle.grs_world.proofs.Common.{passes_wait, Phase, phase_step, post, process, process_entry, purged, put_in}
use Rattle.grs_world.proofs.Common.{rank_of, ranked_by, RankedRow, read_entries, read_entry, ready_step, Rec, recalled}
use Rattle.grs_world.proofs.Common.{record_enq, record_of, refl, Release, Remove, replied, Req, Request, request_of}
use Rattle.grs_world.proofs.Common.{Res, res_wanted, Ret, RingBody, RingEntry, Row, Rows, rows_of, Said, sent_again}
use Rattle.grs_world.proofs.Common.{show, Showing, side_of, slice_get, Some, stale, standing, StarPart, state_of, Step}
use Rattle.grs_world.proofs.Common.{suc, switched, sym, SysId, take, take_line, take_mail, task_step, TaskId, TaskState}
use Rattle.grs_world.proofs.Common.{TasksView, tell_all, tell_answer, tell_answer_any, tell_answer_any_ranked}
use Rattle.grs_world.proofs.Common.{tell_answer_ranked, tell_code, tell_control, tell_freed, tell_line, tell_new}
use Rattle.grs_world.proofs.Common.{tell_rows, tell_untold, telling, told-state, told-telling, ToldLine, took_mail}
use Rattle.grs_world.proofs.Common.{true, Turnout, unrecorded, unseen, Wait, wait, Want, with_also, with_exclusive}
use Rattle.grs_world.proofs.Common.{with_first_look, with_line, with_list_ranks, with_outstanding, with_phase}
use Rattle.grs_world.proofs.Common.{with_rank, with_rank_by, with_rank_of, with_ranks, with_record, with_rows}
use Rattle.grs_world.proofs.Common.{with_side, with_state, with_tasks, with_told, without_record, without_rows}
use Rattle.grs_world.proofs.Common.{without_those, zero, ℕ}
use Rattle.task_state.specs.Replies.{is_changed, is_held, is_queued, new_record, phase_after}
use Rattle.grs_node.specs.Node.{changed as changed_now}
use Rattle.ring_mode.specs.Ring.{is_asked}
use Rattle.grs_wire.specs.declared.medium.Mail.TheVariants.{Request as RequestMail, Answered as AnsweredMail}
use Rattle.grs_wire.specs.declared.request.Answer.TheVariants.{Coded}
use Rattle.grs_wire.specs.declared.told.Verb.{Verb}
use Rattle.task_state.proofs.Stays.{system-state, system-telling}
use Rattle.grs_known.proofs.lists.Facts.{all-more}
use Rattle.grs_world.proofs.run.Came.{Acts, Came, Result, acted, already, began, changed, decided, informed, last_turn}
use Rattle.grs_world.proofs.run.Came.{left, no_such, parted, removes_one, removes_star, sent, settled, took, turn}
use Rattle.grs_world.proofs.run.Came.{went_on}
use Rattle.grs_world.proofs.run.Fixing.{may_go-task}
use Rattle.grs_world.proofs.run.Lost.{tasks-lost, tasks-notice, tasks-part}
use Rattle.grs_legal.specs.declared.meaning.Meaning.TheVariants as lines
use Rattle.grs_wire.specs.declared.told.Said.TheVariants as saids
use Rattle.grs_wire.specs.declared.told.ToldLine.TheVariants as told
use Rattle.grs_wire.specs.declared.told.Verb.TheVariants as verbs
use Rattle.task_state.specs.declared.state.Phase.TheVariants as phases
use Rattle.grs_world.proofs.run.Came as any

-- whether a line is told at the desk, or to a task of this system
abbrev pub is_own : ℕ → ToldLine → Bool
is_own s (told.Desk k said) = true
is_own s l = is_line_of s l

-- Behind these lines this system has told its own tasks.
pub record TellsOwn (s : ℕ) (ls : List ToldLine) (v : TasksView) : Type 0 where
  pub system : v.system ≡ s
  pub lines : List ToldLine
  pub is : v.told ≡ ls ++ lines
  pub own : list_all (is_own s) lines ≡ true

module _ (s : ℕ) (ls : List ToldLine) where
  abbrev Own : TasksView → Type 0
  Own v = TellsOwn s ls v

  own-state : (v : TasksView) (t : TaskId) (f : TaskState → TaskState) → Own v → Own (with_state v t f)
  own-state v t f h = record {
    system = system-state v t f ∙ h.system;
    lines = h.lines;
    is = told-state v t f ∙ h.is;
    own = h.own;
  }

  own-telling : (v : TasksView) (l : ToldLine) → is_own s l ≡ true → Own v → Own (telling v l)
  own-telling v l mine h = record {
    system = system-telling v l ∙ h.system;
    lines = h.lines ++ l ∷ [];
    is = told-telling v l ∙ (ap (λ T. T ++ l ∷ []) h.is ∙ append_assoc ls h.lines (l ∷ []));
    own = all-more (is_own s) h.lines l h.own mine;
  }

  -- ---- what changes of a task
  own-line : (v : TasksView) (t : TaskId) → Own v → Own (with_line v t)
  unfolding with_line
  own-line v t h = own-state v t _ h

  own-phase : (v : TasksView) (t : TaskId) (p : Phase) → Own v → Own (with_phase v t p)
  unfolding with_phase
  own-phase v t p h = own-state v t _ h

  own-outstanding : (v : TasksView) (t : TaskId) (q : Option Asked) → Own v → Own (with_outstanding v t q)
  unfolding with_outstanding
  own-outstanding v t q h = own-state v t _ h

  own-record : (v : TasksView) (t : TaskId) (x : Rec) → Own v → Own (with_record v t x)
  unfolding with_record
  own-record v t x h = own-state v t _ h

  own-without : (v : TasksView) (t : TaskId) (r : Res) → Own v → Own (without_record v t r)
  unfolding without_record
  own-without v t r h = own-state v t _ h

  own-marked : (v : TasksView) (t : TaskId) (r : Res) → Own v → Own (with_told v t r)
  unfolding with_told
  own-marked v t r h = own-state v t _ h

  own-exclusive : (v : TasksView) (t : TaskId) (r : Res) → Own v → Own (with_exclusive v t r)
  unfolding with_exclusive
  own-exclusive v t r h = own-state v t _ h

  own-rank : (v : TasksView) (t : TaskId) (r : Res) (n : ℕ) → Own v → Own (with_rank v t r n)
  unfolding with_rank
  own-rank v t r n h = own-state v t _ h

  own-rows : (v : TasksView) (t : TaskId) (rs : List Row) → Own v → Own (with_rows v t rs)
  unfolding with_rows
  own-rows v t rs h = own-state v t _ h

  own-no_rows : (v : TasksView) (t : TaskId) → Own v → Own (without_rows v t)
  unfolding without_rows
  own-no_rows v t h = own-state v t _ h

  -- ---- what a task of the system is told
  module _ (t : TaskId) (home : t.system.0 ≡ s) where
    mine : (t.system.0 == s) ≡ true
    mine = eq-eqb t.system.0 s home

    own-code : (v : TasksView) (verb : Verb) (code : Code) → Own v → Own (tell_code v t verb code)
    unfolding tell_code
    own-code v verb Wait h = h
    own-code v verb code h = own-telling v _ mine h

    own-enq : (v : TasksView) (r : Res) (c : Ctl) (unit : Option ℕ) (ret : Ret) (code : Code) → Own v
        → Own (record_enq v t r c unit ret code)
    unfolding record_enq
    own-enq v r c unit ret code h =
        by_test Own (is_queued ret code) (with_record v t (new_record v t r c unit code))
        (cond (is_changed ret code) (with_exclusive v t r) v) (λ queued. own-record v t _ h)
        (λ other.
        by_test Own (is_changed ret code) (with_exclusive v t r) v (λ more. own-exclusive v t r h) (λ none. h))

    own-after : (v : TasksView) (w : Want) (unit : Option ℕ) (code : Code) → Own v → Own (after_code v t w unit code)
    unfolding after_code
    own-after v (Enq r c ret full) unit code h =
        own-code (with_phase (record_enq v t r c unit ret code) t (phase_after code)) verbs.Enq code
        (own-phase (record_enq v t r c unit ret code) t (phase_after code) (own-enq v r c unit ret code h))
    own-after v (Deq r have) unit code h =
        own-code (with_phase (cond (is_granted code) (without_record v t r) v) t (phase_after code)) verbs.Deq code
        (own-phase (cond (is_granted code) (without_record v t r) v) t (phase_after code)
        (by_test Own (is_granted code) (without_record v t r) v (λ given. own-without v t r h) (λ kept. h)))
    own-after v (Release r) unit code h = own-without v t r h
    own-after v (Look first count filter) unit code h = h

    own-replied : (v : TasksView) (w : Want) (unit : Option ℕ) (a : Answer) → Own v → Own (replied v t w unit a)
    unfolding replied
    own-replied v w unit (Coded code) h = own-after v w unit code h
    own-replied v w unit (Rows rows) h = h

    own-tell_rows : (v : TasksView) (verb : Verb) → Own v → Own (tell_rows v t verb)
    unfolding tell_rows
    own-tell_rows v verb h = own-telling (without_rows v t) _ mine (own-no_rows v t h)

    own-looking : (v : TasksView) (a : Asked) (verb : Verb) (left : ℕ) → Own v → Own (goes_on_looking v t a verb left)
    unfolding goes_on_looking
    own-looking v a verb zero h = own-tell_rows v verb h
    own-looking v a verb (suc more) h =
        own-outstanding (with_phase v t phases.ToSend) t _ (own-phase v t phases.ToSend h)

    own-answered : (v : TasksView) (a : Asked) (answer : Answer) → Own v → Own (answered v t a answer)
    own-answered v a (Coded code) h = own-replied v a.req.want a.unit (Coded code) h
    own-answered v a (Rows rows) h = go a.showing
      where
        go : (o : Option Showing) → Own (looked v t a rows o)
        go None = h
        go (Some x) = own-looking (with_rows v t rows) a x.verb x.left (own-rows v t rows h)

    own-answer : (v : TasksView) (a : Asked) (answer : Answer) → Own v → Own (tell_answer v t a answer)
    unfolding tell_answer recalled
    own-answer v a answer h =
        own-answered (recalled v t a.req.want) a answer (own-outstanding (with_phase v t _) t None (own-phase v t _ h))

    own-ranked : (v : TasksView) (a : Asked) (answer : Answer) (rank : ℕ) → Own v
        → Own (tell_answer_ranked v t a answer rank)
    unfolding tell_answer_ranked
    own-ranked v a answer rank h = go (unrecorded v t (res_wanted a.req.want))
      where
        go : (o : Option Res) → Own (with_rank_of (tell_answer v t a answer) t o rank)
        go None = own-answer v a answer h
        go (Some r) = own-rank (tell_answer v t a answer) t r rank (own-answer v a answer h)

    -- control
    own-pass : (v : TasksView) (r : Res) → Own v → Own (passes_wait v t r)
    unfolding passes_wait
    own-pass v r h =
        by_test Own (is_held_for r (state_of v t).phase) (telling (with_phase v t phases.Ready) _) v
        (λ held. own-telling (with_phase v t phases.Ready) _ mine (own-phase v t phases.Ready h)) (λ free. h)

    own-told : (v : TasksView) (r : Res) (k : ℕ) → Own v → Own (tell_line v t r k)
    unfolding tell_line
    own-told v r k h =
        by_test Own (is_held (state_of v t).phase && (k == (state_of v t).line))
        (telling (with_phase (with_told v t r) t phases.Ready) _)
        (passes_wait (telling (with_told v t r) (told.Post t k)) t r)
        (λ held.
        own-telling (with_phase (with_told v t r) t phases.Ready) _ mine
        (own-phase (with_told v t r) t phases.Ready (own-marked v t r h)))
        (λ free.
        own-pass (telling (with_told v t r) (told.Post t k)) r
        (own-telling (with_told v t r) (told.Post t k) mine (own-marked v t r h)))

    own-untold : (v : TasksView) (r : Res) (o : Option Rec) → Own v → Own (tell_untold v t r o)
    unfolding tell_untold
    own-untold v r None h = h
    own-untold v r (Some x) h =
        by_test Own x.told v _ (λ was. h)
        (λ untold.
        by_test Own (is_leaving r (state_of v t).outstanding) (with_told v t r) (tell_line v t r x.line)
        (λ leaving. own-marked v t r h) (λ stays. own-told v r x.line h))

  -- a task that is one of them is of the system
  home-of : (v : TasksView) (t : TaskId) → Own v → is_task v t ≡ true → t.system.0 ≡ s
  home-of v t h here =
      sym (eqb-true v.system t.system.0
      (and_parts (v.system == t.system.0) (nat_lt t.task (length v.tasks)) here).0)
      ∙ h.system

  own-control : (v : TasksView) (r : Res) (t : TaskId) → Own v → Own (tell_control v r t)
  unfolding tell_control
  own-control v r t h =
      by_test Own (is_task v t) (tell_untold v t r (record_of (state_of v t).records r)) v
      (λ here. own-untold t (home-of v t h here) v r (record_of (state_of v t).records r) h) (λ away. h)

  own-all : (r : Res) (ts : List TaskId) (v : TasksView) → Own v → Own (tell_all v r ts)
  unfolding tell_all
  own-all r [] v h = h
  own-all r (t ∷ ts) v h = own-all r ts (tell_control v r t) (own-control v r t h)

  own-new : (v : TasksView) (o : Option Res) (ts : List TaskId) → Own v → Own (tell_new v o ts)
  unfolding tell_new
  own-new v None ts h = h
  own-new v (Some r) ts h = own-all r ts v h

  own-freed : (n : ℕ) (rows : List Row) (v : TasksView) → Own v → Own (tell_freed v n rows)
  unfolding tell_freed
  own-freed n [] v h = h
  own-freed n (x ∷ xs) v h =
      own-freed n xs (tell_new v (Some x.res) (freed n x.res x.elems))
      (own-new v (Some x.res) (freed n x.res x.elems) h)

  -- ---- a task goes on
  module _ (t : TaskId) (home : t.system.0 ≡ s) where
    own-decide : (n : NodeState) (w : Want) (unit : Option ℕ) → Own n.tasks → Own (decide n t w unit).node.tasks
    unfolding decide
    own-decide n w unit h =
        own-new (replied n.tasks t w unit (answer_to n.own t w)) (res_wanted w) (new_owners n.own t w)
        (own-replied t home n.tasks w unit (answer_to n.own t w) h)

    own-post : (n : NodeState) (w : Want) (unit : Option ℕ) → Own n.tasks → Own (post n t w unit).node.tasks
    unfolding post
    own-post n w unit h =
        own-outstanding (with_phase n.tasks t phases.ToSend) t _ (own-phase n.tasks t phases.ToSend h)

    own-ask : (n : NodeState) (w : Want) (unit : Option ℕ) → Own n.tasks → Own (ask n t w unit).node.tasks
    unfolding ask
    own-ask n w unit h =
        by_test (λ (x : Step). Own x.node.tasks) (is_for_all (res_wanted w)) (post n t w unit) (decide n t w unit)
        (λ wide. own-post n w unit h) (λ narrow. own-decide n w unit h)

    own-wait : (v : TasksView) (r : Res) (o : Option Rec) → Own v → Own (wait v t r o)
    unfolding wait
    own-wait v r None h = own-code t home v verbs.Wait C08 h
    own-wait v r (Some x) h =
        by_test Own x.told (tell_code v t verbs.Wait C00) (with_phase v t (phases.HeldLine r))
        (λ was. own-code t home v verbs.Wait C00 h) (λ untold. own-phase v t (phases.HeldLine r) h)

    own-show : (n : NodeState) (d : Display) → Own n.tasks → Own (show n t d).node.tasks
    unfolding show
    own-show n d h = around d.count (look_home n t d d.home).node (at_home d.home)
      where
        around : (count : ℕ) (k : NodeState) → Own k.tasks → Own (look_around k t d count).tasks
        around zero k own = own-tell_rows t home k.tasks d.verb own
        around (suc more) k own =
            own-outstanding (with_phase k.tasks t phases.ToSend) t _ (own-phase k.tasks t phases.ToSend own)

        at_home : (o : Option SysId) → Own (look_home n t d o).node.tasks
        at_home None = h
        at_home (Some c) = own-rows n.tasks t _ h

    own-take : (limit : ℕ) (n : NodeState) (l : Meaning) → Own n.tasks → Own (take_line limit n t l).node.tasks
    unfolding take_line
    own-take limit n (lines.Enq r c ret unit) h = own-ask n _ unit h
    own-take limit n (lines.Deq r have) h = own-ask n (Deq r have) None h
    own-take limit n (lines.Wait r) h = own-wait n.tasks r (record_of (state_of n.tasks t).records r) h
    own-take limit n (lines.Shows d) h = own-show n d h
    own-take limit n lines.Nothing h = h

    own-end : (n : NodeState) (c : ℕ) (xs : List Rec) → Own n.tasks → Own (end_step n t c xs).node.tasks
    unfolding end_step
    own-end n c [] h =
        own-telling (with_phase n.tasks t phases.Ended) (told.Ended t c) (mine t home)
        (own-phase n.tasks t phases.Ended h)
    own-end n c (x ∷ xs) h = own-ask n (Release x.res) None h

    own-ready : (limit : ℕ) (n : NodeState) (o : Option Meaning) → Own n.tasks → Own (ready_step limit n t o).node.tasks
    unfolding ready_step
    own-ready limit n None h =
        own-end (with_tasks n (with_phase n.tasks t (phases.Ending 0))) 0
        (state_of (with_phase n.tasks t (phases.Ending 0)) t).records (own-phase n.tasks t (phases.Ending 0) h)
    own-ready limit n (Some l) h = own-take limit (with_tasks n (with_line n.tasks t)) l (own-line n.tasks t h)

    own-step : (limit : ℕ) (n : NodeState) (o : Option (List Meaning)) → Own n.tasks
        → Own (task_step limit n t o).node.tasks
    unfolding phase_step
    own-step limit n None h = h
    own-step limit n (Some ms) h = go (state_of n.tasks t).phase
      where
        go : (p : Phase) → Own (phase_step limit n t ms p).node.tasks
        go phases.Ready = own-ready limit n (slice_get ms (state_of n.tasks t).line) h
        go (phases.Ending c) = own-end n c (state_of n.tasks t).records h
        go p = h

  -- ---- what the message gave
  own-answering : (v : TasksView) (q : Req) (answer : Answer) → Own v → Own (answer_own v q answer)
  unfolding answer_own tell_answer_any
  own-answering v q answer h =
      by_test Own
      (is_task v q.task && (is_sent (state_of v q.task).phase && is_asked q.want (state_of v q.task).outstanding))
      (tell_answer_any v q.task answer (state_of v q.task).outstanding) v
      (λ asks. go (home-of v q.task h (and_parts (is_task v q.task) _ asks).0) (state_of v q.task).outstanding)
      (λ other. h)
    where
      go : q.task.system.0 ≡ s → (o : Option Asked) → Own (tell_answer_any v q.task answer o)
      go home None = h
      go home (Some a) = own-answer q.task home v a answer h

  own-process : (n : NodeState) (q : Req) → Own n.tasks → Own (process (side_of n.tasks n.shared) q).tasks
  unfolding process
  own-process n q h =
      own-new (answer_own n.tasks q (answer_to n.shared q.task q.want)) (res_wanted q.want)
      (new_owners n.shared q.task q.want) (own-answering n.tasks q (answer_to n.shared q.task q.want) h)

  own-entry : (deck : Deck) (n : NodeState) (b : RingBody) → Own n.tasks → Own (read_entry deck n b).tasks
  unfolding process_entry
  own-entry deck n (Remove target) h = own-freed target.0 (rows_of n.shared) n.tasks h
  own-entry deck n (Request q) h = go (is_of_deck deck q.task) (is_for_all (res_wanted q.want))
    where
      go : (a b : Bool)
          → Own
          (cond a (with_side n (cond b (process (side_of n.tasks n.shared) q) (side_of n.tasks n.shared))) n).tasks
      go true true = own-process n q h
      go true false = h
      go false b = h

  own-entries : (deck : Deck) (es : List RingEntry) (n : NodeState) → Own n.tasks → Own (read_entries deck n es).tasks
  unfolding read_entries
  own-entries deck [] n h = h
  own-entries deck (e ∷ es) n h = own-entries deck es (read_entry deck n e.body) (own-entry deck n e.body h)

  own-sent : (qs : List Req) (v : TasksView) → Own v → Own (all_sent v qs)
  unfolding all_sent
  own-sent [] v h = h
  own-sent (q ∷ qs) v h = own-sent qs (with_phase v q.task phases.Sent) (own-phase v q.task phases.Sent h)

  own-put : (n : NodeState) (taken : ℕ) → Own n.tasks → Own (put_in n taken).node.tasks
  unfolding put_in
  own-put n taken h = own-sent (take taken n.outbox) n.tasks h

  -- ---- its desk, the change to star mode, and what it loses
  own-desk : (n : NodeState) (said : Said) → Own n.tasks → Own (desk_told n said).tasks
  unfolding desk_told
  own-desk n said h = own-telling n.tasks (told.Desk (n.done + 1) said) refl h

  own-list : (r : Res) (xs : List Elem) (ns : List ℕ) (v : TasksView) → Own v → Own (with_list_ranks v r xs ns)
  own-list r [] ns v h = h
  own-list r (x ∷ xs) [] v h = h
  own-list r (x ∷ xs) (n ∷ ns) v h =
      own-list r xs ns (with_rank_by v r x.task n)
      (by_test Own (is_task v x.task) (with_rank v x.task r n) v (λ here. own-rank v x.task r n h) (λ away. h))

  own-ranks : (xs : List RankedRow) (v : TasksView) → Own v → Own (with_ranks v xs)
  own-ranks [] v h = h
  own-ranks (x ∷ xs) v h =
      own-ranks xs (with_list_ranks v x.0.res x.0.elems x.1) (own-list x.0.res x.0.elems x.1 v h)

  own-look : (v : TasksView) (t : TaskId) (w : Want) → Own v → Own (with_first_look v t w)
  own-look v t (Enq r c ret full) h = h
  own-look v t (Deq r have) h = h
  own-look v t (Release r) h = h
  own-look v t (Look first count f) h = own-outstanding v t _ h

  own-looks : (qs : List Req) (v : TasksView) → Own v → Own (one_by_one v qs)
  own-looks [] v h = h
  own-looks (q ∷ qs) v h = own-looks qs (with_first_look v q.task q.want) (own-look v q.task q.want h)

  own-lost : (deck : Deck) (n : NodeState) (ss : List SysId) → Own n.tasks → Own (losing deck n ss).tasks
  own-lost deck n ss h = tasks-lost Own own-control deck n ss h

  own-changed : (deck : Deck) (n : NodeState) → Own n.tasks → Own (changed_now deck n).tasks
  unfolding change_to_star
  own-changed deck n h =
      own-lost deck (change_to_star deck n) (members n.known)
      (own-ranks (ranked_by deck.entries n.shared) (one_by_one n.tasks n.outbox) (own-looks n.outbox n.tasks h))

  own-switched : (deck : Deck) (n : NodeState) → Own n.tasks → Own (switched deck n).tasks
  unfolding switched
  own-switched deck n h =
      by_test (λ (k : NodeState). Own k.tasks) (is_none n.star) (changed_now deck (desk_told n saids.StarDone)) n
      (λ alone. own-changed deck (desk_told n saids.StarDone) (own-desk n saids.StarDone h)) (λ there. h)

  -- ---- star mode
  own-decided : (v : TasksView) (p : StarPart) (t : TaskId) (a : Asked) → is_task v t ≡ true → Own v
      → Own (decide_own v p t a).tasks
  unfolding decide_own
  own-decided v p t a here h =
      own-new (tell_answer_ranked v t a (answer_for p (request_of t a)) (rank_of p (request_of t a)))
      (res_wanted a.req.want) (owners_by p (request_of t a))
      (own-ranked t (home-of v t h here) v a (answer_for p (request_of t a)) (rank_of p (request_of t a)) h)

  own-again : (p : StarPart) (e : ℕ) (v : TasksView) → Own v → Own (sent_again p e v)
  own-again p e v h = record { system = h.system; lines = h.lines; is = h.is; own = h.own }

  own-mail : (v : TasksView) (t : TaskId) (answer : Answer) (rank : ℕ) → Own v
      → Own (after_mail v (AnsweredMail t answer rank))
  unfolding after_mail
  own-mail v t answer rank h =
      by_test Own (has_effect v t answer rank) (tell_answer_any_ranked v t answer rank (state_of v t).outstanding) v
      (λ waits.
      go (home-of v t h
      (and_parts (is_task v t) _ (and_parts (is_task v t && is_sent (state_of v t).phase) _ waits).0).0)
      (state_of v t).outstanding)
      (λ other. h)
    where
      go : t.system.0 ≡ s → (o : Option Asked) → Own (tell_answer_any_ranked v t answer rank o)
      go home None = h
      go home (Some a) = own-ranked t home v a answer rank h

  own-taken : (deck : Deck) (known : ℕ) (v : TasksView) (p : StarPart) (m : Mail) → Own v
      → Own (take_mail deck known v p m).tasks
  unfolding took_mail after_mail
  own-taken deck known v p m h = go (is_for_deck deck m) m
    where
      go : (b : Bool) (m : Mail) → Own (cond b (took_mail deck known v p m) (fixing_none v p)).tasks
      go false m = h
      go true (RequestMail e from q) = h
      go true (AnsweredMail t answer rank) = own-mail v t answer rank h
      go true (Granted t r) = own-control v r t h
      go true (Notice target moved) =
          tasks-notice Own own-control own-again known (names_of deck v.system) (standing v p)
          (filter (is_item_of deck) moved) h
      go true (Part e from records) =
          tasks-part Own own-control known (names_of deck v.system) (standing v p) e from
          (filter (λ r. is_of_deck deck r.task) records) h

  own-acts :
      (deck : Deck) (m : MediumState) (c : SysId) (n : NodeState) (p : StarPart) (choice : Choice) (b : Result)
      (o : Turnout)
      → Acts deck m c n p choice b o → Own n.tasks → Own o.step.node.tasks
  unfolding may_send
  own-acts deck m c n p choice b o (decided t a x asked to at same) h =
      own-decided n.tasks (begun p x) t a (and_parts (is_task n.tasks t) _ asked.may).0 h
  own-acts deck m c n p choice b o (began t a x asked none) h =
      own-decided n.tasks (begun p x) t a (and_parts (is_task n.tasks t) _ asked.may).0 h
  own-acts deck m c n p choice b o (sent t a x asked to at apart) h = own-phase n.tasks t phases.Sent h
  own-acts deck m c n p choice b o (took mail rest at) h = own-taken deck n.known n.tasks p mail h
  own-acts deck m c n p choice b o (settled q first) h = own-new n.tasks (res_wanted q.want) (owners_by p q) h
  own-acts deck m c n p choice b o (any.told e x first) h = h
  own-acts deck m c n p choice b o (parted e to owes unknown) h = h
  own-acts deck m c n p choice b o (left x flags free by) h = h

  -- ---- any event
  own-came : (deck : Deck) (m : MediumState) (c : SysId) (n : NodeState) (choice : Choice) (b : Result) (o : Turnout)
      → Came deck m c n choice b o → Own n.tasks → Own o.step.node.tasks
  unfolding purged stale
  own-came deck m c n choice b o (any.nothing k r silent flags) h = h
  own-came deck m c n choice b o (informed k) h =
      let known : ℕ = known_from deck n.known m.removed in
      own-lost deck (record n { known = known }) (members (without_those n.known known)) h
  own-came deck m c n choice b o (went_on t may) h =
      own-step t (home-of n.tasks t h (may_go-task deck n t may)) deck.limit n (lines_of deck t) h
  own-came deck m c n choice b o (turn flags alone unclosed here) h =
      own-put (read_entries deck n (unseen c m.message.entries)) (length (take most_additions n.outbox))
      (own-entries deck (unseen c m.message.entries) n h)
  own-came deck m c n choice b o (last_turn flags alone shut here) h =
      own-changed deck (read_entries deck n (unseen c m.message.entries))
      (own-entries deck (unseen c m.message.entries) n h)
  own-came deck m c n choice b o (changed ring next seen) h = own-switched deck n h
  own-came deck m c n choice b o (already mode next) h = own-desk n saids.StarAlready h
  own-came deck m c n choice b o (removes_one target ring next lives) h =
      own-lost deck (record (desk_told n saids.VaryDone) { known = with_also n.known target.0 }) (target ∷ [])
      (own-desk n saids.VaryDone h)
  own-came deck m c n choice b o (removes_star target mode next lives) h =
      own-lost deck (record (desk_told n saids.VaryDone) { known = with_also n.known target.0 }) (target ∷ [])
      (own-desk n saids.VaryDone h)
  own-came deck m c n choice b o (no_such target next gone) h = own-desk n saids.VaryNoSuch h
  own-came deck m c n choice b o (acted p is k r x acts) h = own-acts deck m c n p k r x acts h

-- What an event of a system tells tasks it tells its own.
pub tells_own : (deck : Deck) (m : MediumState) (c : SysId) (n : NodeState) (choice : Choice) (b : Result) (o : Turnout)
    → Came deck m c n choice b o → n.tasks.system ≡ c.0 → TellsOwn c.0 n.tasks.told o.step.node.tasks
tells_own deck m c n choice b o came home =
    own-came c.0 n.tasks.told deck m c n choice b o came
    (record { system = home; lines = []; is = sym (append-nil n.tasks.told); own = refl })
