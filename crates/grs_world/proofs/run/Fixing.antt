-- What an event fixes, by its choice, the reply to its call and its task's line. It needs nothing of the run.
use Rattle.grs_world.proofs.Common.{[], ◌∙◌, ◌∷◌, ◌≡◌, and_parts, ap, append-nil, ask, Bool, by_test, Call, Choice}
use Rattle.grs_world.proofs.Common.{chosen, code_in, cond, counted, decide, decide_own, Deck, Display, end_step, Event}
use Rattle.grs_world.proofs.Common.{false, first_world, Fixed, fixed_by, fixing_none, happens, happens_at, has}
use Rattle.grs_world.proofs.Common.{is_for_all, is_for_deck, is_of_deck, is_some, is_task, lines_of, List, LocalLook}
use Rattle.grs_world.proofs.Common.{look_home, Mail, map, may_go, Meaning, MediumState, most_additions, nat_le}
use Rattle.grs_world.proofs.Common.{NodeState, None, Nothing, Option, Phase, phase_step, placed, post, prepare}
use Rattle.grs_world.proofs.Common.{Prepared, purged, put_in, Quiet, read_entries, read_entry, ready_step, Rec, refl}
use Rattle.grs_world.proofs.Common.{res_wanted, RingBody, RingEntry, run, show, slice_get, Some, StarPart, StarStep}
use Rattle.grs_world.proofs.Common.{state_of, Step, sym, SysId, take, take-none, take_line, take_mail, task_step}
use Rattle.grs_world.proofs.Common.{TaskId, TasksView, took_mail, true, Turnout, unseen, Want, with_line, with_phase}
use Rattle.grs_world.proofs.Common.{with_tasks, World, ℕ}
use Rattle.std.specs.Prelude.{◌+◌, ◌++◌, length}
use Rattle.grs_wire.specs.declared.request.Fixed.TheVariants.{Asked}
use Rattle.grs_node.proofs.ReplyFits.{by-reply}
use Rattle.task_state.proofs.ViewLaws.{state_of-same}
use Rattle.grs_world.proofs.run.Placed.{fixed-placed}
use Rattle.grs_world.specs.Fixing.{EventFixes, acting, asks_for, at_once, fixed_alone, fixed_at_end, fixed_by_event}
use Rattle.grs_world.specs.Fixing.{fixed_by_line, fixed_by_reply, fixed_by_task, fixed_in_phase, fixed_more}
use Rattle.grs_world.specs.Fixing.{fixed_when_ready, held_first, one_request}
use Rattle.grs_world.proofs.run.Each.{run-push}
use Rattle.grs_world.proofs.run.Came.{Acts, Came, Result, acted, already, began, by_itself, changed, decided, informed}
use Rattle.grs_world.proofs.run.Came.{is_silent, last_turn, left, no_such, nothing, parted, removes_one, removes_star}
use Rattle.grs_world.proofs.run.Came.{replied, result_of, sent, settled, skipped, told, took, turn, went_on}
use Rattle.grs_world.proofs.run.Chosen.{came}
use Rattle.grs_legal.specs.declared.meaning.Meaning.TheVariants as lines
use Rattle.grs_wire.specs.declared.medium.Mail.TheVariants as mails
use Rattle.grs_wire.specs.declared.medium.RingBody.TheVariants as bodies
use Rattle.grs_wire.specs.declared.request.Want.TheVariants as wants
use Rattle.task_state.specs.declared.state.Phase.TheVariants as phases

-- ---- a task goes on
by_ask : (n : NodeState) (t : TaskId) (w : Want) (unit : Option ℕ) → (ask n t w unit).fixed ≡ at_once t w
unfolding ask post decide
by_ask n t w unit = by_home (is_for_all (res_wanted w))
  where
    by_home : (b : Bool)
        → (cond {A = Step} b (post n t w unit) (decide n t w unit)).fixed
        ≡ cond b [] (Asked (record { task = t; want = w }) ∷ [])
    by_home true = refl
    by_home false = refl

by_show : (n : NodeState) (t : TaskId) (d : Display)
    → (show n t d).fixed ≡ cond (is_some d.home) (LocalLook t d.filter ∷ []) []
unfolding show
by_show n t d = by_home d.home
  where
    by_home : (o : Option SysId)
        → (look_home n t d o).fixed ≡ cond (is_some o) (LocalLook t d.filter ∷ []) []
    by_home None = refl
    by_home (Some u) = refl

by_line : (limit : ℕ) (n : NodeState) (t : TaskId) (l : Meaning)
    → (take_line limit n t l).fixed ≡ fixed_by_line limit n t l
unfolding take_line
by_line limit n t (lines.Enq r c ret unit) = by_ask n t _ unit
by_line limit n t (lines.Deq r have) = by_ask n t (wants.Deq r have) None
by_line limit n t (lines.Wait r) = refl
by_line limit n t (lines.Shows d) = by_show n t d
by_line limit n t lines.Nothing = refl

by_end : (n : NodeState) (t : TaskId) (code : ℕ) (xs : List Rec) → (end_step n t code xs).fixed ≡ fixed_at_end t xs
unfolding end_step
by_end n t code [] = refl
by_end n t code (x ∷ xs) = by_ask n t (wants.Release x.res) None

-- what a task has on record stays as it takes a line, and as it begins to end
records-line : (v : TasksView) (t : TaskId) → is_task v t ≡ true
    → (state_of (with_line v t) t).records ≡ (state_of v t).records
unfolding with_line
records-line v t here = ap (λ x. x.records) (state_of-same v t (λ x. record x { line = x.line + 1 }) here)

records-phase : (v : TasksView) (t : TaskId) (p : Phase) → is_task v t ≡ true
    → (state_of (with_phase v t p) t).records ≡ (state_of v t).records
unfolding with_phase
records-phase v t p here =
    ap (λ x. x.records) (state_of-same v t (λ x. record x { phase = p; code = code_in p x.code }) here)

line-taken : (limit : ℕ) (n : NodeState) (t : TaskId) → is_task n.tasks t ≡ true → (l : Meaning)
    → fixed_by_line limit (with_tasks n (with_line n.tasks t)) t l ≡ fixed_by_line limit n t l
line-taken limit n t here (lines.Enq r c ret unit) =
    ap (λ (xs : List Rec). at_once t (wants.Enq r c ret (nat_le limit (length xs)))) (records-line n.tasks t here)
line-taken limit n t here (lines.Deq r have) = refl
line-taken limit n t here (lines.Wait r) = refl
line-taken limit n t here (lines.Shows d) = refl
line-taken limit n t here lines.Nothing = refl

by_ready : (limit : ℕ) (n : NodeState) (t : TaskId) → is_task n.tasks t ≡ true → (l : Option Meaning)
    → (ready_step limit n t l).fixed ≡ fixed_when_ready limit n t l
unfolding ready_step
by_ready limit n t here None = by_end _ t 0 _ ∙ ap (fixed_at_end t) (records-phase n.tasks t (phases.Ending 0) here)
by_ready limit n t here (Some l) = by_line limit _ t l ∙ line-taken limit n t here l

by_phase : (limit : ℕ) (n : NodeState) (t : TaskId) → is_task n.tasks t ≡ true → (ls : List Meaning) (p : Phase)
    → (phase_step limit n t ls p).fixed ≡ fixed_in_phase limit n t ls p
unfolding phase_step
by_phase limit n t here ls phases.Ready = by_ready limit n t here _
by_phase limit n t here ls (phases.Ending c) = by_end n t c _
by_phase limit n t here ls phases.ToSend = refl
by_phase limit n t here ls phases.Sent = refl
by_phase limit n t here ls phases.HeldAnswer = refl
by_phase limit n t here ls (phases.HeldLine r) = refl
by_phase limit n t here ls phases.Ended = refl

pub by_task : (limit : ℕ) (n : NodeState) (t : TaskId) → is_task n.tasks t ≡ true → (o : Option (List Meaning))
    → (task_step limit n t o).fixed ≡ fixed_by_task limit n t o
by_task limit n t here None = refl
by_task limit n t here (Some ls) = by_phase limit n t here ls (state_of n.tasks t).phase

pub may_go-task : (deck : Deck) (n : NodeState) (t : TaskId) → may_go deck n t ≡ true → is_task n.tasks t ≡ true
unfolding may_go
may_go-task deck n t h = (and_parts _ _ h).0

-- ---- a Turn
outbox-entry : (deck : Deck) (n : NodeState) (b : RingBody) → (read_entry deck n b).outbox ≡ n.outbox
outbox-entry deck n (bodies.Remove target) = refl
outbox-entry deck n (bodies.Request q) =
    by_test (λ (k : NodeState). k.outbox ≡ n.outbox) (is_of_deck deck q.task) _ n (λ e. refl) (λ e. refl)

pub outbox-entries : (deck : Deck) (es : List RingEntry) (n : NodeState) → (read_entries deck n es).outbox ≡ n.outbox
unfolding read_entries
outbox-entries deck [] n = refl
outbox-entries deck (e ∷ es) n = outbox-entries deck es (read_entry deck n e.body) ∙ outbox-entry deck n e.body

-- ---- a system acts by its part in star mode
by_kind : (deck : Deck) (known : ℕ) (v : TasksView) (p : StarPart) (m : Mail)
    → (took_mail deck known v p m).fixed ≡ []
unfolding took_mail
by_kind deck known v p (mails.Request e from q) = refl
by_kind deck known v p (mails.Answered t answer rank) = refl
by_kind deck known v p (mails.Granted t r) = refl
by_kind deck known v p (mails.Notice target moved) = refl
by_kind deck known v p (mails.Part e from records) = refl

pub fixed-mail : (deck : Deck) (known : ℕ) (v : TasksView) (p : StarPart) (m : Mail)
    → (take_mail deck known v p m).fixed ≡ []
fixed-mail deck known v p m =
    by_test (λ (s : StarStep). s.fixed ≡ []) (is_for_deck deck m) (took_mail deck known v p m) (fixing_none v p)
    (λ h. by_kind deck known v p m) (λ h. refl)

-- what an event fixes by what it was
abbrev by_result : Deck → NodeState → Choice → Result → List Fixed
by_result deck n choice skipped = []
by_result deck n choice by_itself = fixed_alone deck n choice
by_result deck n choice (replied reply) = fixed_by_reply n choice reply

as_prepared : (deck : Deck) (m : MediumState) (s : SysId) (n : NodeState) (choice : Choice) (p : Prepared)
    → by_result deck n choice (result_of m s p) ≡ fixed_by_event deck m s n choice p
as_prepared deck m s n choice Nothing = refl
as_prepared deck m s n choice Quiet = refl
as_prepared deck m s n choice (Call call) = refl

-- by a reply that says nothing new nothing is fixed
by_silence : (deck : Deck) (n : NodeState) (choice : Choice) (b : Result) → is_silent b ≡ true
    → by_result deck n choice b ≡ []
by_silence deck n choice skipped silent = refl
by_silence deck n choice by_itself silent = absurd (cc)
by_silence deck n choice (replied reply) silent =
    by-reply (λ r. is_silent (replied r) ≡ true → fixed_by_reply n choice r ≡ []) (λ es k b h. absurd (cc))
    (λ x h. refl) (λ k h. refl) (λ h. absurd (cc)) (λ h. absurd (cc)) (λ h. absurd (cc)) (λ h. refl) (λ m h. refl)
    (λ h. refl) (λ h. absurd (cc)) (λ h. refl) (λ h. refl) (λ k h. refl) (λ h. refl) (λ h. refl) (λ h. absurd (cc))
    (λ h. refl) (λ h. refl) (λ h. refl) (λ k h. refl) (λ h. refl) reply silent

by_acts : (deck : Deck) (m : MediumState) (s : SysId) (n : NodeState) (p : StarPart) → n.star ≡ Some p
    → (choice : Choice) (b : Result) (o : Turnout) → Acts deck m s n p choice b o
    → o.step.fixed ≡ by_result deck n choice b
unfolding decide_own
by_acts deck m s n p is choice b o (decided t a x asked to at same) = sym (ap (asks_for t) asked.asks)
by_acts deck m s n p is choice b o (began t a x asked none) = sym (ap (asks_for t) asked.asks)
by_acts deck m s n p is choice b o (sent t a x asked to at apart) = refl
by_acts deck m s n p is choice b o (took mail rest at) = fixed-mail deck n.known n.tasks p mail
by_acts deck m s n p is choice b o (settled q first) = sym (ap held_first is ∙ ap one_request first)
by_acts deck m s n p is choice b o (told e x first) = refl
by_acts deck m s n p is choice b o (parted e to owes unknown) = refl
by_acts deck m s n p is choice b o (left x flags free by) = refl

-- ---- any event
by_came : (deck : Deck) (m : MediumState) (s : SysId) (n : NodeState) (choice : Choice) (b : Result) (o : Turnout)
    → Came deck m s n choice b o → o.step.fixed ≡ by_result deck n choice b
unfolding put_in purged
by_came deck m s n choice b o (nothing k r silent flags) = sym (by_silence deck n choice b silent)
by_came deck m s n choice b o (informed k) = refl
by_came deck m s n choice b o (went_on t may) =
    by_task deck.limit n t (may_go-task deck n t may) (lines_of deck t)
by_came deck m s n choice b o (turn flags alone unclosed here) =
    ap (λ qs. map Asked (take (length (take most_additions n.outbox)) qs))
    (outbox-entries deck (unseen s m.message.entries) n)
by_came deck m s n choice b o (last_turn flags alone shut here) = sym (ap (map Asked) (take-none n.outbox))
by_came deck m s n choice b o (changed ring next seen) = refl
by_came deck m s n choice b o (already mode next) = refl
by_came deck m s n choice b o (removes_one target ring next lives) = refl
by_came deck m s n choice b o (removes_star target mode next lives) = refl
by_came deck m s n choice b o (no_such target next gone) = refl
by_came deck m s n choice b o (acted p is k r x acts) = by_acts deck m s n p is k r x acts

fixes-chosen : (deck : Deck) (m : MediumState) (s : SysId) (n : NodeState) (choice : Choice)
    → has m.removed s.0 ≡ false
    → (chosen deck m s n choice).step.fixed ≡ fixed_by_event deck m s n choice (prepare deck n choice)
fixes-chosen deck m s n choice alive =
    by_came deck m s n choice _ _ (came deck m s n alive choice)
    ∙ as_prepared deck m s n choice (prepare deck n choice)

-- ---- in the world
fixes-next : (deck : Deck) (w : World) (e : Event)
    → (happens deck w e).fixed ≡ w.fixed ++ fixed_more deck w e (acting w e.system)
unfolding happens happens_at
fixes-next deck w e = by_node (slice_get w.nodes e.system.0)
  where
    gone : (b : Bool) → w.fixed ≡ w.fixed ++ fixed_more deck w e (cond b None None)
    gone true = sym (append-nil w.fixed)
    gone false = sym (append-nil w.fixed)

    here : (n : NodeState) (b : Bool) → has w.medium.removed e.system.0 ≡ b
        → (cond b (counted w) (placed w e.system n (chosen deck w.medium e.system n e.choice))).fixed
        ≡ w.fixed ++ fixed_more deck w e (cond b None (Some n))
    here n true out = sym (append-nil w.fixed)
    here n false alive =
        fixed-placed w e.system n (chosen deck w.medium e.system n e.choice)
        ∙ ap (λ fs. w.fixed ++ fixed_by e.system fs) (fixes-chosen deck w.medium e.system n e.choice alive)

    by_node : (o : Option NodeState)
        → (happens_at deck w e o).fixed ≡ w.fixed ++ fixed_more deck w e (cond (has w.medium.removed e.system.0) None o)
    by_node None = gone (has w.medium.removed e.system.0)
    by_node (Some n) = here n (has w.medium.removed e.system.0) refl

pub event_fixes : (deck : Deck) (es : List Event) (next : Event) → EventFixes deck es next
event_fixes deck es next =
    ap (λ (x : World). x.fixed) (run-push deck es (first_world deck) next) ∙ fixes-next deck (run deck es) next
