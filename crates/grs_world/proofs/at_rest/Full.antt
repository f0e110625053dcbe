-- As many tasks as there are of a system there are of it in the deck, in every run: no event makes or ends one.
use Rattle.grs_world.proofs.Common.{[], ◌==◌, ◌∙◌, ◌∷◌, ◌≡◌, after_code, after_mail, all_sent, Answer, answer_for}
use Rattle.grs_world.proofs.Common.{answer_own, answer_to, answered, ap, ask, Asked, begun, Bool, C00, C04, C08, C14}
use Rattle.grs_world.proofs.Common.{change_to_star, Choice, Code, cond, Ctl, decide, decide_own, Deck, Deq, desk_told}
use Rattle.grs_world.proofs.Common.{Display, Elem, End, end_step, Enq, Event, false, filter, first_node, fixing_none}
use Rattle.grs_world.proofs.Common.{freed, goes_on_looking, Granted, has_effect, is_for_all, is_for_deck, is_granted}
use Rattle.grs_world.proofs.Common.{is_held_for, is_item_of, is_leaving, is_none, is_of_deck, is_task, known_from}
use Rattle.grs_world.proofs.Common.{length, length-map, lines_of, List, Look, look_around, look_home, looked, losing}
use Rattle.grs_world.proofs.Common.{Mail, Meaning, MediumState, members, most_additions, names_of, nat_lt, new_owners}
use Rattle.grs_world.proofs.Common.{new_tasks, NodeState, None, Nothing, Notice, one_by_one, Option, owners_by, Part}
use Rattle.grs_world.proofs.Common.{passes_wait, Phase, phase_step, post, process, process_entry, purged, put_in}
use Rattle.grs_world.proofs.Common.{rank_of, ranked_by, RankedRow, read_entries, read_entry, ready_step, Rec, recalled}
use Rattle.grs_world.proofs.Common.{record_enq, record_of, refl, Release, Remove, replied, Req, Request, request_of}
use Rattle.grs_world.proofs.Common.{Res, res_wanted, Ret, RingBody, RingEntry, Row, Rows, rows_of, run, Said}
use Rattle.grs_world.proofs.Common.{scripts_of, sent_again, show, Showing, side_of, slice_get, Some, stale, standing}
use Rattle.grs_world.proofs.Common.{StarPart, state_of, Step, suc, switched, SysId, take, take_line, take_mail}
use Rattle.grs_world.proofs.Common.{task_step, TaskId, TasksView, tell_all, tell_answer, tell_answer_any}
use Rattle.grs_world.proofs.Common.{tell_answer_any_ranked, tell_answer_ranked, tell_code, tell_control, tell_freed}
use Rattle.grs_world.proofs.Common.{tell_line, tell_new, tell_rows, tell_untold, telling, ToldLine, took_mail, true}
use Rattle.grs_world.proofs.Common.{Turnout, unrecorded, unseen, Wait, wait, Want, with_also, with_first_look}
use Rattle.grs_world.proofs.Common.{with_line, with_list_ranks, with_outstanding, with_phase, with_rank, with_rank_by}
use Rattle.grs_world.proofs.Common.{with_rank_of, with_ranks, with_rows, with_side, with_tasks, with_told}
use Rattle.grs_world.proofs.Common.{without_record, without_rows, without_those, World, zero, ℕ}
use Rattle.std.specs.Prelude.{◌&&◌}
use Rattle.task_state.specs.Replies.{phase_after}
use Rattle.grs_node.specs.Node.{changed as changed_now}
use Rattle.grs_node.specs.Star.{own_step}
use Rattle.grs_base.specs.declared.decision.Code.TheVariants.{C18}
use Rattle.grs_wire.specs.declared.medium.Mail.TheVariants.{Request as RequestMail, Answered as AnsweredMail}
use Rattle.grs_wire.specs.declared.request.Answer.TheVariants.{Coded}
use Rattle.grs_world.proofs.run.Each.{systems_run}
use Rattle.grs_wire.specs.declared.told.Verb.{Verb}
use Rattle.task_state.proofs.Keeps.{count-enq, system-enq}
use Rattle.task_state.proofs.Stays.{count-line, count-outstanding, count-phase, count-rank, count-telling, count-told}
use Rattle.task_state.proofs.Stays.{count-no_rows, count-rows, count-without, system-line, system-no_rows}
use Rattle.task_state.proofs.Stays.{system-outstanding, system-phase, system-rank, system-rows, system-telling}
use Rattle.task_state.proofs.Stays.{system-told, system-without}
use Rattle.grs_world.proofs.run.Came.{Acts, Came, acted, already, began, changed, decided, informed, last_turn, left}
use Rattle.grs_world.proofs.run.Came.{no_such, nothing, parted, removes_one, removes_star, sent, settled, took, turn}
use Rattle.grs_world.proofs.run.Came.{went_on, told as told_one, Result}
use Rattle.grs_world.proofs.run.Chosen.{came}
use Rattle.grs_world.proofs.run.Lost.{tasks-lost, tasks-notice, tasks-part}
use Rattle.grs_wire.specs.declared.told.Said.TheVariants as saids
use Rattle.grs_legal.specs.declared.meaning.Meaning.TheVariants as lines
use Rattle.grs_wire.specs.declared.told.ToldLine.TheVariants as told
use Rattle.grs_wire.specs.declared.told.Verb.TheVariants as verbs
use Rattle.task_state.specs.declared.state.Phase.TheVariants as phases

-- whose they are, and how many
abbrev pub size : TasksView → ℕ × ℕ
size v = (v.system, length v.tasks)

same-size : (v w : TasksView) → w.system ≡ v.system → length w.tasks ≡ length v.tasks → size w ≡ size v
same-size v w e f =
    ap (λ (k : ℕ). let z : ℕ × ℕ = (k, length w.tasks) in z) e
    ∙ ap (λ (k : ℕ). let z : ℕ × ℕ = (v.system, k) in z) f

same-line : (v : TasksView) (t : TaskId) → size (with_line v t) ≡ size v
same-line v t = same-size v (with_line v t) (system-line v t) (count-line v t)

same-phase : (v : TasksView) (t : TaskId) (p : Phase) → size (with_phase v t p) ≡ size v
same-phase v t p = same-size v (with_phase v t p) (system-phase v t p) (count-phase v t p)

same-outstanding : (v : TasksView) (t : TaskId) (q : Option Asked) → size (with_outstanding v t q) ≡ size v
same-outstanding v t q = same-size v (with_outstanding v t q) (system-outstanding v t q) (count-outstanding v t q)

same-without : (v : TasksView) (t : TaskId) (r : Res) → size (without_record v t r) ≡ size v
same-without v t r = same-size v (without_record v t r) (system-without v t r) (count-without v t r)

same-told : (v : TasksView) (t : TaskId) (r : Res) → size (with_told v t r) ≡ size v
same-told v t r = same-size v (with_told v t r) (system-told v t r) (count-told v t r)

same-rank : (v : TasksView) (t : TaskId) (r : Res) (n : ℕ) → size (with_rank v t r n) ≡ size v
same-rank v t r n = same-size v (with_rank v t r n) (system-rank v t r n) (count-rank v t r n)

same-rows : (v : TasksView) (t : TaskId) (rs : List Row) → size (with_rows v t rs) ≡ size v
same-rows v t rs = same-size v (with_rows v t rs) (system-rows v t rs) (count-rows v t rs)

same-no_rows : (v : TasksView) (t : TaskId) → size (without_rows v t) ≡ size v
same-no_rows v t = same-size v (without_rows v t) (system-no_rows v t) (count-no_rows v t)

same-telling : (v : TasksView) (l : ToldLine) → size (telling v l) ≡ size v
same-telling v l = same-size v (telling v l) (system-telling v l) (count-telling v l)

same-enq : (v : TasksView) (t : TaskId) (r : Res) (c : Ctl) (unit : Option ℕ) (ret : Ret) (code : Code)
    → size (record_enq v t r c unit ret code) ≡ size v
same-enq v t r c unit ret code =
    same-size v (record_enq v t r c unit ret code) (system-enq v t r c unit ret code) (count-enq v t r c unit ret code)

-- so who is one of them stays so
pub here-of : (v w : TasksView) → size w ≡ size v → (t : TaskId) → is_task w t ≡ is_task v t
here-of v w same t = ap (λ (z : ℕ × ℕ). (z.0 == t.system.0) && nat_lt t.task z.1) same

by_both : (b : Bool) (x y : TasksView) (k : ℕ × ℕ) → size x ≡ k → size y ≡ k → size (cond b x y) ≡ k
by_both true x y k f g = f
by_both false x y k f g = g

-- ---- what a task is told
size-code : (v : TasksView) (t : TaskId) (verb : Verb) (code : Code) → size (tell_code v t verb code) ≡ size v
unfolding tell_code
size-code v t verb Wait = refl
size-code v t verb C00 = same-telling v _
size-code v t verb C04 = same-telling v _
size-code v t verb C08 = same-telling v _
size-code v t verb C14 = same-telling v _
size-code v t verb C18 = same-telling v _
size-code v t verb (End n) = same-telling v _

size-after : (v : TasksView) (t : TaskId) (w : Want) (unit : Option ℕ) (code : Code)
    → size (after_code v t w unit code) ≡ size v
unfolding after_code
size-after v t (Enq r c ret full) unit code =
    size-code (with_phase (record_enq v t r c unit ret code) t (phase_after code)) t verbs.Enq code
    ∙ (same-phase (record_enq v t r c unit ret code) t (phase_after code) ∙ same-enq v t r c unit ret code)
size-after v t (Deq r have) unit code =
    size-code (with_phase (cond (is_granted code) (without_record v t r) v) t (phase_after code)) t verbs.Deq code
    ∙ (same-phase (cond (is_granted code) (without_record v t r) v) t (phase_after code)
    ∙ by_both (is_granted code) (without_record v t r) v (size v) (same-without v t r) refl)
size-after v t (Release r) unit code = same-without v t r
size-after v t (Look first count filter) unit code = refl

size-replied : (v : TasksView) (t : TaskId) (w : Want) (unit : Option ℕ) (a : Answer)
    → size (replied v t w unit a) ≡ size v
unfolding replied
size-replied v t w unit (Coded code) = size-after v t w unit code
size-replied v t w unit (Rows rows) = refl

size-pass : (v : TasksView) (t : TaskId) (r : Res) → size (passes_wait v t r) ≡ size v
unfolding passes_wait
size-pass v t r =
    by_both (is_held_for r (state_of v t).phase) (telling (with_phase v t phases.Ready) _) v (size v)
    (same-telling (with_phase v t phases.Ready) _ ∙ same-phase v t phases.Ready) refl

size-line : (v : TasksView) (t : TaskId) (r : Res) (k : ℕ) → size (tell_line v t r k) ≡ size v
unfolding tell_line
size-line v t r k = by_both _ _ _ (size v)
    (same-telling (with_phase (with_told v t r) t phases.Ready) _
    ∙ (same-phase (with_told v t r) t phases.Ready ∙ same-told v t r))
    (size-pass (telling (with_told v t r) (told.Post t k)) t r
    ∙ (same-telling (with_told v t r) (told.Post t k) ∙ same-told v t r))

size-untold : (v : TasksView) (t : TaskId) (r : Res) (o : Option Rec) → size (tell_untold v t r o) ≡ size v
unfolding tell_untold
size-untold v t r None = refl
size-untold v t r (Some x) =
    by_both x.told v _ (size v) refl (by_both (is_leaving r (state_of v t).outstanding) (with_told v t r)
    (tell_line v t r x.line) (size v) (same-told v t r) (size-line v t r x.line))

pub size-control : (v : TasksView) (r : Res) (t : TaskId) → size (tell_control v r t) ≡ size v
unfolding tell_control
size-control v r t =
    by_both (is_task v t) (tell_untold v t r (record_of (state_of v t).records r)) v (size v)
    (size-untold v t r (record_of (state_of v t).records r)) refl

pub size-all : (r : Res) (ts : List TaskId) (v : TasksView) → size (tell_all v r ts) ≡ size v
unfolding tell_all
size-all r [] v = refl
size-all r (t ∷ ts) v = size-all r ts (tell_control v r t) ∙ size-control v r t

pub size-new : (v : TasksView) (o : Option Res) (ts : List TaskId) → size (tell_new v o ts) ≡ size v
unfolding tell_new
size-new v None ts = refl
size-new v (Some r) ts = size-all r ts v

size-rows : (v : TasksView) (t : TaskId) (verb : Verb) → size (tell_rows v t verb) ≡ size v
unfolding tell_rows
size-rows v t verb = same-telling (without_rows v t) _ ∙ same-no_rows v t

size-looking : (v : TasksView) (t : TaskId) (a : Asked) (verb : Verb) (left : ℕ)
    → size (goes_on_looking v t a verb left) ≡ size v
unfolding goes_on_looking
size-looking v t a verb zero = size-rows v t verb
size-looking v t a verb (suc more) =
    same-outstanding (with_phase v t phases.ToSend) t _ ∙ same-phase v t phases.ToSend

size-answered : (v : TasksView) (t : TaskId) (a : Asked) (answer : Answer) → size (answered v t a answer) ≡ size v
size-answered v t a (Coded code) = size-replied v t a.req.want a.unit (Coded code)
size-answered v t a (Rows rows) = go a.showing
  where
    go : (o : Option Showing) → size (looked v t a rows o) ≡ size v
    go None = refl
    go (Some s) = size-looking (with_rows v t rows) t a s.verb s.left ∙ same-rows v t rows

pub size-answer : (v : TasksView) (t : TaskId) (a : Asked) (answer : Answer) → size (tell_answer v t a answer) ≡ size v
unfolding tell_answer recalled
size-answer v t a answer =
    size-answered (recalled v t a.req.want) t a answer
    ∙ (same-outstanding (with_phase v t _) t None ∙ same-phase v t _)

size-own : (v : TasksView) (q : Req) (answer : Answer) → size (answer_own v q answer) ≡ size v
unfolding answer_own tell_answer_any
size-own v q answer = by_both _ _ v (size v) (go (state_of v q.task).outstanding) refl
  where
    go : (o : Option Asked) → size (tell_answer_any v q.task answer o) ≡ size v
    go None = refl
    go (Some a) = size-answer v q.task a answer

pub size-ranked : (v : TasksView) (t : TaskId) (a : Asked) (answer : Answer) (rank : ℕ)
    → size (tell_answer_ranked v t a answer rank) ≡ size v
unfolding tell_answer_ranked
size-ranked v t a answer rank = go (unrecorded v t (res_wanted a.req.want))
  where
    go : (o : Option Res) → size (with_rank_of (tell_answer v t a answer) t o rank) ≡ size v
    go None = size-answer v t a answer
    go (Some r) = same-rank (tell_answer v t a answer) t r rank ∙ size-answer v t a answer

size-mail : (v : TasksView) (m : Mail) → size (after_mail v m) ≡ size v
unfolding after_mail
size-mail v (RequestMail e from q) = refl
size-mail v (AnsweredMail t answer rank) =
    by_both (has_effect v t answer rank) (tell_answer_any_ranked v t answer rank (state_of v t).outstanding) v (size v)
    (go (state_of v t).outstanding) refl
  where
    go : (o : Option Asked) → size (tell_answer_any_ranked v t answer rank o) ≡ size v
    go None = refl
    go (Some a) = size-ranked v t a answer rank
size-mail v (Granted t r) = size-control v r t
size-mail v (Notice target moved) = refl
size-mail v (Part e from records) = refl

size-sent : (qs : List Req) (v : TasksView) → size (all_sent v qs) ≡ size v
unfolding all_sent
size-sent [] v = refl
size-sent (q ∷ qs) v = size-sent qs (with_phase v q.task phases.Sent) ∙ same-phase v q.task phases.Sent

-- ---- the change to star mode
size-list : (r : Res) (es : List Elem) (ns : List ℕ) (v : TasksView) → size (with_list_ranks v r es ns) ≡ size v
size-list r [] ns v = refl
size-list r (e ∷ es) [] v = refl
size-list r (e ∷ es) (n ∷ ns) v =
    size-list r es ns (with_rank_by v r e.task n)
    ∙ by_both (is_task v e.task) (with_rank v e.task r n) v (size v) (same-rank v e.task r n) refl

size-ranks : (xs : List RankedRow) (v : TasksView) → size (with_ranks v xs) ≡ size v
size-ranks [] v = refl
size-ranks (x ∷ xs) v = size-ranks xs (with_list_ranks v x.0.res x.0.elems x.1) ∙ size-list x.0.res x.0.elems x.1 v

size-look : (v : TasksView) (t : TaskId) (w : Want) → size (with_first_look v t w) ≡ size v
size-look v t (Enq r c ret full) = refl
size-look v t (Deq r have) = refl
size-look v t (Release r) = refl
size-look v t (Look first count f) = same-outstanding v t _

size-looks : (qs : List Req) (v : TasksView) → size (one_by_one v qs) ≡ size v
size-looks [] v = refl
size-looks (q ∷ qs) v = size-looks qs (with_first_look v q.task q.want) ∙ size-look v q.task q.want

pub size-changed : (deck : Deck) (n : NodeState) → size (change_to_star deck n).tasks ≡ size n.tasks
unfolding change_to_star
size-changed deck n =
    size-ranks (ranked_by deck.entries n.shared) (one_by_one n.tasks n.outbox) ∙ size-looks n.outbox n.tasks

-- ---- a task goes on
step_both : (b : Bool) (x y : Step) (k : ℕ × ℕ) → size x.node.tasks ≡ k → size y.node.tasks ≡ k
    → size (cond b x y).node.tasks ≡ k
step_both true x y k f g = f
step_both false x y k f g = g

size-decide : (n : NodeState) (t : TaskId) (w : Want) (unit : Option ℕ)
    → size (decide n t w unit).node.tasks ≡ size n.tasks
unfolding decide
size-decide n t w unit =
    size-new (replied n.tasks t w unit (answer_to n.own t w)) (res_wanted w) (new_owners n.own t w)
    ∙ size-replied n.tasks t w unit (answer_to n.own t w)

size-post : (n : NodeState) (t : TaskId) (w : Want) (unit : Option ℕ) → size (post n t w unit).node.tasks ≡ size n.tasks
unfolding post
size-post n t w unit = same-outstanding (with_phase n.tasks t phases.ToSend) t _ ∙ same-phase n.tasks t phases.ToSend

size-ask : (n : NodeState) (t : TaskId) (w : Want) (unit : Option ℕ) → size (ask n t w unit).node.tasks ≡ size n.tasks
unfolding ask
size-ask n t w unit =
    step_both (is_for_all (res_wanted w)) (post n t w unit) (decide n t w unit) (size n.tasks) (size-post n t w unit)
    (size-decide n t w unit)

size-wait : (v : TasksView) (t : TaskId) (r : Res) (o : Option Rec) → size (wait v t r o) ≡ size v
unfolding wait
size-wait v t r None = size-code v t verbs.Wait C08
size-wait v t r (Some x) =
    by_both x.told (tell_code v t verbs.Wait C00) (with_phase v t (phases.HeldLine r)) (size v)
    (size-code v t verbs.Wait C00) (same-phase v t (phases.HeldLine r))

size-show : (n : NodeState) (t : TaskId) (d : Display) → size (show n t d).node.tasks ≡ size n.tasks
unfolding show
size-show n t d = around d.count (look_home n t d d.home).node ∙ home d.home
  where
    around : (count : ℕ) (k : NodeState) → size (look_around k t d count).tasks ≡ size k.tasks
    around zero k = size-rows k.tasks t d.verb
    around (suc more) k =
        same-outstanding (with_phase k.tasks t phases.ToSend) t _ ∙ same-phase k.tasks t phases.ToSend

    home : (o : Option SysId) → size (look_home n t d o).node.tasks ≡ size n.tasks
    home None = refl
    home (Some s) = same-rows n.tasks t _

size-take : (limit : ℕ) (n : NodeState) (t : TaskId) (l : Meaning)
    → size (take_line limit n t l).node.tasks ≡ size n.tasks
unfolding take_line
size-take limit n t (lines.Enq r c ret unit) = size-ask n t _ unit
size-take limit n t (lines.Deq r have) = size-ask n t (Deq r have) None
size-take limit n t (lines.Wait r) = size-wait n.tasks t r (record_of (state_of n.tasks t).records r)
size-take limit n t (lines.Shows d) = size-show n t d
size-take limit n t lines.Nothing = refl

size-end : (n : NodeState) (t : TaskId) (c : ℕ) (xs : List Rec) → size (end_step n t c xs).node.tasks ≡ size n.tasks
unfolding end_step
size-end n t c [] = same-telling (with_phase n.tasks t phases.Ended) _ ∙ same-phase n.tasks t phases.Ended
size-end n t c (x ∷ xs) = size-ask n t (Release x.res) None

size-ready : (limit : ℕ) (n : NodeState) (t : TaskId) (o : Option Meaning)
    → size (ready_step limit n t o).node.tasks ≡ size n.tasks
unfolding ready_step
size-ready limit n t None =
    size-end (with_tasks n (with_phase n.tasks t (phases.Ending 0))) t 0
    (state_of (with_phase n.tasks t (phases.Ending 0)) t).records
    ∙ same-phase n.tasks t (phases.Ending 0)
size-ready limit n t (Some l) = size-take limit (with_tasks n (with_line n.tasks t)) t l ∙ same-line n.tasks t

size-phase : (limit : ℕ) (n : NodeState) (t : TaskId) (ls : List Meaning) (p : Phase)
    → size (phase_step limit n t ls p).node.tasks ≡ size n.tasks
unfolding phase_step
size-phase limit n t ls phases.Ready = size-ready limit n t (slice_get ls (state_of n.tasks t).line)
size-phase limit n t ls (phases.Ending c) = size-end n t c (state_of n.tasks t).records
size-phase limit n t ls phases.HeldAnswer = refl
size-phase limit n t ls (phases.HeldLine r) = refl
size-phase limit n t ls phases.ToSend = refl
size-phase limit n t ls phases.Sent = refl
size-phase limit n t ls phases.Ended = refl

pub size-step : (limit : ℕ) (n : NodeState) (t : TaskId) (o : Option (List Meaning))
    → size (task_step limit n t o).node.tasks ≡ size n.tasks
size-step limit n t None = refl
size-step limit n t (Some ls) = size-phase limit n t ls (state_of n.tasks t).phase

-- ---- what the message gave
size-freed : (s : ℕ) (rows : List Row) (v : TasksView) → size (tell_freed v s rows) ≡ size v
unfolding tell_freed
size-freed s [] v = refl
size-freed s (x ∷ xs) v =
    size-freed s xs (tell_new v (Some x.res) (freed s x.res x.elems)) ∙ size-new v (Some x.res) (freed s x.res x.elems)

size-process : (n : NodeState) (q : Req) → size (process (side_of n.tasks n.shared) q).tasks ≡ size n.tasks
unfolding process
size-process n q =
    size-new (answer_own n.tasks q (answer_to n.shared q.task q.want)) (res_wanted q.want)
    (new_owners n.shared q.task q.want)
    ∙ size-own n.tasks q (answer_to n.shared q.task q.want)

pub size-entry : (deck : Deck) (n : NodeState) (b : RingBody) → size (read_entry deck n b).tasks ≡ size n.tasks
unfolding process_entry
size-entry deck n (Remove target) = size-freed target.0 (rows_of n.shared) n.tasks
size-entry deck n (Request q) = go (is_of_deck deck q.task) (is_for_all (res_wanted q.want))
  where
    go : (a b : Bool)
        → size (cond a (with_side n (cond b (process (side_of n.tasks n.shared) q) (side_of n.tasks n.shared))) n).tasks
        ≡ size n.tasks
    go true true = size-process n q
    go true false = refl
    go false b = refl

pub size-entries : (deck : Deck) (es : List RingEntry) (n : NodeState)
    → size (read_entries deck n es).tasks ≡ size n.tasks
unfolding read_entries
size-entries deck [] n = refl
size-entries deck (e ∷ es) n = size-entries deck es (read_entry deck n e.body) ∙ size-entry deck n e.body

pub size-put : (n : NodeState) (taken : ℕ) → size (put_in n taken).node.tasks ≡ size n.tasks
unfolding put_in
size-put n taken = size-sent (take taken n.outbox) n.tasks

pub size-desk : (n : NodeState) (said : Said) → size (desk_told n said).tasks ≡ size n.tasks
unfolding desk_told
size-desk n said = same-telling n.tasks _

-- a system loses others, also where it changes to star mode
pub size-lost : (deck : Deck) (n : NodeState) (ss : List SysId) → size (losing deck n ss).tasks ≡ size n.tasks
size-lost deck n ss =
    tasks-lost (λ v. size v ≡ size n.tasks) (λ v r t h. size-control v r t ∙ h) deck n ss refl

size-moved : (deck : Deck) (n : NodeState) → size (changed_now deck n).tasks ≡ size n.tasks
size-moved deck n = size-lost deck (change_to_star deck n) (members n.known) ∙ size-changed deck n

size-switched : (deck : Deck) (n : NodeState) → size (switched deck n).tasks ≡ size n.tasks
unfolding switched
size-switched deck n = go (is_none n.star)
  where
    go : (b : Bool) → size (cond b (changed_now deck (desk_told n saids.StarDone)) n).tasks ≡ size n.tasks
    go true = size-moved deck (desk_told n saids.StarDone) ∙ size-desk n saids.StarDone
    go false = refl

-- ---- star mode
pub size-own_step : (v : TasksView) (p : StarPart) (t : TaskId) (o : Option Asked)
    → size (own_step v p t o).tasks ≡ size v
unfolding decide_own
size-own_step v p t None = refl
size-own_step v p t (Some a) =
    size-new (tell_answer_ranked v t a (answer_for p (request_of t a)) (rank_of p (request_of t a)))
    (res_wanted a.req.want) (owners_by p (request_of t a))
    ∙ size-ranked v t a (answer_for p (request_of t a)) (rank_of p (request_of t a))

size-again : (p : StarPart) (e : ℕ) (v : TasksView) → size (sent_again p e v) ≡ size v
size-again p e v = same-size v (sent_again p e v) refl (length-map v.tasks _)

size-took : (deck : Deck) (known : ℕ) (v : TasksView) (p : StarPart) (m : Mail)
    → size (take_mail deck known v p m).tasks ≡ size v
unfolding took_mail after_mail
size-took deck known v p m = go (is_for_deck deck m) m
  where
    go : (b : Bool) (m : Mail) → size (cond b (took_mail deck known v p m) (fixing_none v p)).tasks ≡ size v
    go false m = refl
    go true (RequestMail e from q) = refl
    go true (AnsweredMail t answer rank) = size-mail v (AnsweredMail t answer rank)
    go true (Granted t r) = size-mail v (Granted t r)
    go true (Notice target moved) =
        tasks-notice (λ z. size z ≡ size v) (λ z r t h. size-control z r t ∙ h) (λ q e z h. size-again q e z ∙ h) known
        (names_of deck v.system) (standing v p) (filter (is_item_of deck) moved) refl
    go true (Part e from records) =
        tasks-part (λ z. size z ≡ size v) (λ z r t h. size-control z r t ∙ h) known (names_of deck v.system)
        (standing v p) e from (filter (λ r. is_of_deck deck r.task) records) refl

pub size-acts :
    (deck : Deck) (m : MediumState) (s : SysId) (n : NodeState) (p : StarPart) (choice : Choice) (b : Result)
    (o : Turnout)
    → Acts deck m s n p choice b o → size o.step.node.tasks ≡ size n.tasks
size-acts deck m s n p choice b o (decided t a x asked to at same) = size-own_step n.tasks (begun p x) t (Some a)
size-acts deck m s n p choice b o (began t a x asked none) = size-own_step n.tasks (begun p x) t (Some a)
size-acts deck m s n p choice b o (sent t a x asked to at apart) = same-phase n.tasks t phases.Sent
size-acts deck m s n p choice b o (took mail rest at) = size-took deck n.known n.tasks p mail
size-acts deck m s n p choice b o (settled q first) = size-new n.tasks (res_wanted q.want) (owners_by p q)
size-acts deck m s n p choice b o (told_one e x first) = refl
size-acts deck m s n p choice b o (parted e to owes unknown) = refl
size-acts deck m s n p choice b o (left x flags free by) = refl

-- ---- any event
pub size-came : (deck : Deck) (m : MediumState) (s : SysId) (n : NodeState) (choice : Choice) (b : Result) (o : Turnout)
    → Came deck m s n choice b o → size o.step.node.tasks ≡ size n.tasks
unfolding purged stale
size-came deck m s n choice b o (nothing k r silent flags) = refl
size-came deck m s n choice b o (informed k) =
    let known : ℕ = known_from deck n.known m.removed in
    size-lost deck (record n { known = known }) (members (without_those n.known known))
size-came deck m s n choice b o (went_on t may) = size-step deck.limit n t (lines_of deck t)
size-came deck m s n choice b o (turn flags alone unclosed here) =
    let es = unseen s m.message.entries in
    size-put (read_entries deck n es) (length (take most_additions n.outbox)) ∙ size-entries deck es n
size-came deck m s n choice b o (last_turn flags alone shut here) =
    let es = unseen s m.message.entries in size-moved deck (read_entries deck n es) ∙ size-entries deck es n
size-came deck m s n choice b o (changed ring next seen) = size-switched deck n
size-came deck m s n choice b o (already mode next) = size-desk n saids.StarAlready
size-came deck m s n choice b o (removes_one target ring next lives) =
    size-lost deck (record (desk_told n saids.VaryDone) { known = with_also n.known target.0 }) (target ∷ [])
    ∙ size-desk n saids.VaryDone
size-came deck m s n choice b o (removes_star target mode next lives) =
    size-lost deck (record (desk_told n saids.VaryDone) { known = with_also n.known target.0 }) (target ∷ [])
    ∙ size-desk n saids.VaryDone
size-came deck m s n choice b o (no_such target next gone) = size-desk n saids.VaryNoSuch
size-came deck m s n choice b o (acted p is k r x acts) = size-acts deck m s n p k r x acts

-- ---- so in every run
abbrev pub AreFull : Deck → World → Type 0
AreFull deck w =
    (s : ℕ) (n : NodeState) → slice_get w.nodes s ≡ Some n → length n.tasks.tasks ≡ length (scripts_of deck s)

length-new : (k : ℕ) → length (new_tasks k) ≡ k
length-new zero = refl
length-new (suc k) = ap suc (length-new k)

first-size : (deck : Deck) (s : ℕ) → length (first_node deck s).tasks.tasks ≡ length (scripts_of deck s)
unfolding first_node
first-size deck s = length-new (length (scripts_of deck s))

pub full_run : (deck : Deck) (es : List Event) → AreFull deck (run deck es)
full_run deck =
    systems_run deck (λ s n. length n.tasks.tasks ≡ length (scripts_of deck s)) (first-size deck)
    (λ m c n choice live h.
    ap (λ (z : ℕ × ℕ). z.1) (size-came deck m c n choice _ _ (came deck m c n live choice)) ∙ h)
