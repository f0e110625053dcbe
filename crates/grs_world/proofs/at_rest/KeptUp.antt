-- Each system stays up to date in each event, whatever the event is and whatever the medium replies: so it is in every
-- run, of a system that was removed too.
use Rattle.grs_world.proofs.Common.{[], ◌++◌, ◌∙◌, ◌∷◌, ◌≡◌, after_mail, and_from, and_parts, answer_to, ap, ask, Asked}
use Rattle.grs_world.proofs.Common.{begun, Bool, by_test, change_to_star, Choice, cond, decide, decide_own, Deck, Deq}
use Rattle.grs_world.proofs.Common.{desk_told, Display, end_step, Enq, Event, false, filter, first_node, fixing_none}
use Rattle.grs_world.proofs.Common.{Granted, is_for_all, is_for_deck, is_item_of, is_none, is_of_deck, is_some, is_task}
use Rattle.grs_world.proofs.Common.{is_to_send, known_from, length, lines_of, List, list_all, list_all-append}
use Rattle.grs_world.proofs.Common.{look_around, look_home, looks_asked, losing, losing_in, Mail, may_go, may_send}
use Rattle.grs_world.proofs.Common.{Meaning, MediumState, members, most_additions, names_of, names_of_deck, NodeState}
use Rattle.grs_world.proofs.Common.{None, Notice, one_by_one, Option, owners_by, Part, Phase, phase_step, post, posted}
use Rattle.grs_world.proofs.Common.{purged, put_in, rank_of, ranked_by, read_entries, ready_step, Rec, refl, Release}
use Rattle.grs_world.proofs.Common.{Req, request_of, Res, res_wanted, RingEntry, run, Said, show, slice_get, Some}
use Rattle.grs_world.proofs.Common.{stale, standing, StarPart, StarStep, state_of, Step, subst, suc, switched, sym}
use Rattle.grs_world.proofs.Common.{SysId, take, take-append-drop, take_line, take_mail, task_step, TaskId, TasksView}
use Rattle.grs_world.proofs.Common.{tell_answer_ranked, took_mail, true, Turnout, unseen, Want, with_also, with_line}
use Rattle.grs_world.proofs.Common.{with_phase, with_tasks, without_those, World, zero, ℕ}
use Rattle.grs_node.specs.Node.{changed as changed_now}
use Rattle.grs_node.specs.Star.{lists_for}
use Rattle.std.specs.Prelude.{◌&&◌, drop}
use Rattle.grs_wire.specs.declared.medium.Mail.TheVariants.{Request as RequestMail, Answered as AnsweredMail}
use Rattle.grs_known.proofs.tasks.Answered.{lists-answer}
use Rattle.grs_world.proofs.at_rest.Events.{date-again, date-any, date-entries, date-all_sent, date-one_by_one}
use Rattle.grs_world.proofs.at_rest.Events.{date-ranked, date-ranks, date-sent, date-telling, here-all}
use Rattle.grs_world.proofs.at_rest.Full.{here-of, size, size-acts, size-desk, size-entries, size-lost, size-put}
use Rattle.grs_world.proofs.at_rest.Full.{size-step}
use Rattle.grs_world.proofs.at_rest.RingRun.{first-read}
use Rattle.grs_world.proofs.at_rest.Steps.{AllDate, date-control, date-new, date-task, going-ours}
use Rattle.grs_world.proofs.at_rest.StarTasks.{keeps-mail}
use Rattle.grs_world.proofs.run.Each.{systems_run}
use Rattle.grs_world.proofs.run.Lost.{tasks-lost, tasks-notice, tasks-part}
use Rattle.grs_world.proofs.run.Came.{told, Result, Acts, Came, acted, already, began, changed, decided, informed}
use Rattle.grs_world.proofs.run.Came.{last_turn, left, no_such, nothing, parted, removes_one, removes_star, sent}
use Rattle.grs_world.proofs.run.Came.{settled, took, turn, went_on}
use Rattle.grs_world.proofs.run.Fixing.{outbox-entries}
use Rattle.grs_world.proofs.run.Chosen.{came}
use Rattle.grs_legal.specs.declared.meaning.Meaning.TheVariants as lines
use Rattle.grs_wire.specs.declared.deck.Choice.TheVariants as choices
use Rattle.grs_wire.specs.declared.told.Said.TheVariants as saids
use Rattle.task_state.specs.declared.state.Phase.TheVariants as phases

-- A system whose tasks are up to date, and whose requests that wait to be put in are of its tasks.
abbrev pub IsBoxed : TasksView → List Req → Type 0
IsBoxed v qs = list_all (λ q. is_task v q.task) qs ≡ true

pub record IsKeptUp (deck : Deck) (n : NodeState) : Type 0 where
  pub date : AllDate false deck n.tasks
  pub box : IsBoxed n.tasks n.outbox

-- the same of a system with as many tasks
boxed-as : (v w : TasksView) (qs : List Req) → size w ≡ size v → IsBoxed v qs → IsBoxed w qs
boxed-as v w qs same h = here-all v w (here-of v w same) qs h

-- ---- a task goes on
-- one more request of the task waits, or none
module _ (v : TasksView) (t : TaskId) (here : is_task v t ≡ true) where
  box-posted : (n : NodeState) (a : Asked) → a.req.task ≡ t → IsBoxed v n.outbox → IsBoxed v (posted n t a).outbox
  box-posted n a by h = go (is_some n.star)
    where
      go : (b : Bool) → IsBoxed v (cond b n.outbox (n.outbox ++ a.req ∷ []))
      go true = h
      go false =
          list_all-append (λ (q : Req). is_task v q.task) n.outbox (a.req ∷ [])
          ∙ and_from (list_all (λ (q : Req). is_task v q.task) n.outbox) _ h
          (and_from (is_task v a.req.task) true (ap (is_task v) by ∙ here) refl)

  box-ask : (n : NodeState) (w : Want) (unit : Option ℕ) → IsBoxed v n.outbox → IsBoxed v (ask n t w unit).node.outbox
  unfolding ask post decide
  box-ask n w unit h =
      by_test (λ (s : Step). IsBoxed v s.node.outbox) (is_for_all (res_wanted w)) (post n t w unit) (decide n t w unit)
      (λ wide. box-posted n (record { req = record { task = t; want = w }; unit = unit; showing = None }) refl h)
      (λ narrow. h)

  asked-by : (d : Display) (more : ℕ) (o : Option StarPart) → (looks_asked t d more o).req.task ≡ t
  asked-by d more None = refl
  asked-by d more (Some p) = refl

  box-around : (n : NodeState) (d : Display) (count : ℕ) → IsBoxed v n.outbox
      → IsBoxed v (look_around n t d count).outbox
  box-around n d zero h = h
  box-around n d (suc more) h = box-posted n (looks_asked t d more n.star) (asked-by d more n.star) h

  box-show : (n : NodeState) (d : Display) → IsBoxed v n.outbox → IsBoxed v (show n t d).node.outbox
  unfolding show
  box-show n d h = go d.home
    where
      go : (home : Option SysId) → IsBoxed v (look_around (look_home n t d home).node t d d.count).outbox
      go None = box-around n d d.count h
      go (Some s) = box-around (look_home n t d (Some s)).node d d.count h

  box-line : (limit : ℕ) (n : NodeState) (l : Meaning) → IsBoxed v n.outbox
      → IsBoxed v (take_line limit n t l).node.outbox
  unfolding take_line
  box-line limit n (lines.Enq r c ret unit) h = box-ask n _ unit h
  box-line limit n (lines.Deq r have) h = box-ask n (Deq r have) None h
  box-line limit n (lines.Wait r) h = h
  box-line limit n (lines.Shows d) h = box-show n d h
  box-line limit n lines.Nothing h = h

  box-end : (n : NodeState) (c : ℕ) (xs : List Rec) → IsBoxed v n.outbox → IsBoxed v (end_step n t c xs).node.outbox
  unfolding end_step
  box-end n c [] h = h
  box-end n c (x ∷ xs) h = box-ask n (Release x.res) None h

  box-phase : (limit : ℕ) (n : NodeState) (ls : List Meaning) (p : Phase) → IsBoxed v n.outbox
      → IsBoxed v (phase_step limit n t ls p).node.outbox
  unfolding phase_step ready_step
  box-phase limit n ls phases.Ready h = go (slice_get ls (state_of n.tasks t).line)
    where
      go : (o : Option Meaning) → IsBoxed v (ready_step limit n t o).node.outbox
      go None = box-end (with_tasks n (with_phase n.tasks t (phases.Ending 0))) 0 _ h
      go (Some l) = box-line limit (with_tasks n (with_line n.tasks t)) l h
  box-phase limit n ls (phases.Ending c) h = box-end n c (state_of n.tasks t).records h
  box-phase limit n ls phases.HeldAnswer h = h
  box-phase limit n ls (phases.HeldLine r) h = h
  box-phase limit n ls phases.ToSend h = h
  box-phase limit n ls phases.Sent h = h
  box-phase limit n ls phases.Ended h = h

kept-task : (deck : Deck) (n : NodeState) (t : TaskId) → may_go deck n t ≡ true → IsKeptUp deck n
    → IsKeptUp deck (task_step deck.limit n t (lines_of deck t)).node
kept-task deck n t may h =
    let ours = going-ours deck n.tasks.system n refl t may in
    let m : NodeState = (task_step deck.limit n t (Some ours.0)).node in
    subst (λ o. IsKeptUp deck (task_step deck.limit n t o).node) (sym ours.1.lines) (record {
      date = date-task false deck n (λ e. absurd (cc)) h.date t ours.0 ours.1.lines ours.1.here;
      box =
          boxed-as n.tasks m.tasks m.outbox (size-step deck.limit n t (Some ours.0))
          (box-phase n.tasks t ours.1.here deck.limit n ours.0 (state_of n.tasks t).phase h.box);
    })

-- ---- a Turn
kept-entries : (deck : Deck) (es : List RingEntry) (n : NodeState) → IsKeptUp deck n
    → IsKeptUp deck (read_entries deck n es)
kept-entries deck es n h = record {
  date = date-entries false deck es n h.date;
  box =
      boxed-as n.tasks (read_entries deck n es).tasks (read_entries deck n es).outbox (size-entries deck es n)
      (subst (IsBoxed n.tasks) (sym (outbox-entries deck es n)) h.box);
}

kept-put : (deck : Deck) (n : NodeState) (k : ℕ) → IsKeptUp deck n → IsKeptUp deck (put_in n k).node
unfolding put_in
kept-put deck n k h =
    let split : IsBoxed n.tasks (take k n.outbox ++ drop k n.outbox) =
    subst (IsBoxed n.tasks) (sym (take-append-drop k n.outbox)) h.box in
    let both =
    and_parts (list_all (λ (q : Req). is_task n.tasks q.task) (take k n.outbox))
    (list_all (λ (q : Req). is_task n.tasks q.task) (drop k n.outbox))
    (sym (list_all-append (λ (q : Req). is_task n.tasks q.task) (take k n.outbox) (drop k n.outbox)) ∙ split) in
    record {
      date = date-all_sent false deck (take k n.outbox) n.tasks h.date both.0;
      box = boxed-as n.tasks (put_in n k).node.tasks (drop k n.outbox) (size-put n k) both.1;
    }

kept-changed : (deck : Deck) (n : NodeState) → IsKeptUp deck n → IsKeptUp deck (change_to_star deck n)
unfolding change_to_star
kept-changed deck n h = record {
  date =
      date-ranks false deck (ranked_by deck.entries n.shared) (one_by_one n.tasks n.outbox)
      (date-one_by_one deck n.outbox n.tasks h.date h.box);
  box = refl;
}

-- ---- its desk
kept-desk : (deck : Deck) (n : NodeState) (said : Said) → IsKeptUp deck n → IsKeptUp deck (desk_told n said)
unfolding desk_told
kept-desk deck n said h = record {
  date = date-telling false deck n.tasks _ h.date;
  box = boxed-as n.tasks (desk_told n said).tasks n.outbox (size-desk n said) h.box;
}

-- ---- it loses others, also where it changes to star mode
outbox-lost : (deck : Deck) (n : NodeState) (ss : List SysId) → (losing deck n ss).outbox ≡ n.outbox
unfolding losing
outbox-lost deck n ss = go n.star
  where
    go : (o : Option StarPart) → (losing_in deck n o ss).outbox ≡ n.outbox
    go None = refl
    go (Some p) = refl

kept-lost : (deck : Deck) (n : NodeState) (ss : List SysId) → IsKeptUp deck n → IsKeptUp deck (losing deck n ss)
kept-lost deck n ss h = record {
  date = tasks-lost (AllDate false deck) (λ v r t k. date-control false deck v r t k) deck n ss h.date;
  box =
      boxed-as n.tasks (losing deck n ss).tasks (losing deck n ss).outbox (size-lost deck n ss)
      (subst (IsBoxed n.tasks) (sym (outbox-lost deck n ss)) h.box);
}

kept-moved : (deck : Deck) (n : NodeState) → IsKeptUp deck n → IsKeptUp deck (changed_now deck n)
kept-moved deck n h = kept-lost deck (change_to_star deck n) (members n.known) (kept-changed deck n h)

kept-switched : (deck : Deck) (n : NodeState) → IsKeptUp deck n → IsKeptUp deck (switched deck n)
unfolding switched
kept-switched deck n h =
    by_test (IsKeptUp deck) (is_none n.star) (changed_now deck (desk_told n saids.StarDone)) n
    (λ e. kept-moved deck (desk_told n saids.StarDone) (kept-desk deck n saids.StarDone h)) (λ e. h)

-- ---- star mode
sending : (deck : Deck) (n : NodeState) (t : TaskId) → may_send deck n t ≡ true
    → (is_task n.tasks t ≡ true) × (is_of_deck deck t ≡ true)
unfolding may_send
sending deck n t may =
    let both = and_parts (is_task n.tasks t) (is_of_deck deck t && is_to_send (state_of n.tasks t).phase) may in
    (both.0, (and_parts (is_of_deck deck t) (is_to_send (state_of n.tasks t).phase) both.1).0)

date-own : (deck : Deck) (v : TasksView) (p : StarPart) (t : TaskId) (a : Asked)
    → (state_of v t).outstanding ≡ Some a → is_task v t ≡ true → is_of_deck deck t ≡ true → AllDate false deck v
    → AllDate false deck (decide_own v p t a).tasks
unfolding decide_own
date-own deck v p t a e here of_deck h =
    date-new false deck (res_wanted a.req.want) (owners_by p (request_of t a))
    (tell_answer_ranked v t a (answer_to (lists_for p a.req.want) t a.req.want) (rank_of p (request_of t a)))
    (date-ranked false deck v t a (answer_to (lists_for p a.req.want) t a.req.want) (rank_of p (request_of t a)) h
    of_deck here e (lists-answer (lists_for p a.req.want) t a.req.want))

date-granted : (deck : Deck) (v : TasksView) (t : TaskId) (r : Res) → AllDate false deck v
    → AllDate false deck (after_mail v (Granted t r))
unfolding after_mail
date-granted deck v t r h = date-control false deck v r t h

date-mail : (deck : Deck) (known : ℕ) (v : TasksView) (p : StarPart) (m : Mail) → AllDate false deck v
    → is_for_deck deck m ≡ true → AllDate false deck (took_mail deck known v p m).tasks
unfolding took_mail after_mail
date-mail deck known v p (RequestMail e from q) h for_deck = h
date-mail deck known v p (AnsweredMail t answer rank) h for_deck =
    (keeps-mail deck v t answer rank (and_parts (is_of_deck deck t) (names_of_deck deck answer) for_deck).0 h).date
date-mail deck known v p (Granted t r) h for_deck = date-granted deck v t r h
date-mail deck known v p (Notice target moved) h for_deck =
    tasks-notice (AllDate false deck) (λ z r t k. date-control false deck z r t k)
    (λ q e z k. date-again false deck z q e k) known (names_of deck v.system) (standing v p)
    (filter (is_item_of deck) moved) h
date-mail deck known v p (Part e from records) h for_deck =
    tasks-part (AllDate false deck) (λ z r t k. date-control false deck z r t k) known (names_of deck v.system)
    (standing v p) e from (filter (λ r. is_of_deck deck r.task) records) h

date-taken : (deck : Deck) (known : ℕ) (v : TasksView) (p : StarPart) (m : Mail) → AllDate false deck v
    → AllDate false deck (take_mail deck known v p m).tasks
date-taken deck known v p m h =
    by_test (λ (s : StarStep). AllDate false deck s.tasks) (is_for_deck deck m) (took_mail deck known v p m)
    (fixing_none v p) (λ e. date-mail deck known v p m h e) (λ e. h)

date-acts :
    (deck : Deck) (m : MediumState) (s : SysId) (n : NodeState) (p : StarPart) (choice : Choice) (b : Result)
    (o : Turnout)
    → Acts deck m s n p choice b o → AllDate false deck n.tasks → AllDate false deck o.step.node.tasks
date-acts deck m s n p choice b o (decided t a x asked to at same) h =
    let here = sending deck n t asked.may in date-own deck n.tasks (begun p x) t a asked.asks here.0 here.1 h
date-acts deck m s n p choice b o (began t a x asked none) h =
    let here = sending deck n t asked.may in date-own deck n.tasks (begun p x) t a asked.asks here.0 here.1 h
date-acts deck m s n p choice b o (sent t a x asked to at apart) h =
    date-sent false deck n.tasks t h (sending deck n t asked.may).0
date-acts deck m s n p choice b o (took mail rest at) h = date-taken deck n.known n.tasks p mail h
date-acts deck m s n p choice b o (settled q first) h =
    date-new false deck (res_wanted q.want) (owners_by p q) n.tasks h
date-acts deck m s n p choice b o (told e x first) h = h
date-acts deck m s n p choice b o (parted e to owes unknown) h = h
date-acts deck m s n p choice b o (left x flags free by) h = h

-- no act puts anything into the outbox
box-acts :
    (deck : Deck) (m : MediumState) (s : SysId) (n : NodeState) (p : StarPart) (choice : Choice) (b : Result)
    (o : Turnout)
    → Acts deck m s n p choice b o → o.step.node.outbox ≡ n.outbox
box-acts deck m s n p choice b o (decided t a x asked to at same) = refl
box-acts deck m s n p choice b o (began t a x asked none) = refl
box-acts deck m s n p choice b o (sent t a x asked to at apart) = refl
box-acts deck m s n p choice b o (took mail rest at) = refl
box-acts deck m s n p choice b o (settled q first) = refl
box-acts deck m s n p choice b o (told e x first) = refl
box-acts deck m s n p choice b o (parted e to owes unknown) = refl
box-acts deck m s n p choice b o (left x flags free by) = refl

-- ---- any event
kept-known : (deck : Deck) (n : NodeState) (known : ℕ) → IsKeptUp deck n → IsKeptUp deck (record n { known = known })
kept-known deck n known h = record { date = h.date; box = h.box }

-- its desk removed another
kept-purged : (deck : Deck) (n : NodeState) (target : SysId) → IsKeptUp deck n
    → IsKeptUp deck (purged deck n (choices.Purge target)).node
unfolding purged
kept-purged deck n target h =
    let known : ℕ = with_also n.known target.0 in
    kept-lost deck (record (desk_told n saids.VaryDone) { known = known }) (target ∷ [])
    (kept-known deck (desk_told n saids.VaryDone) known (kept-desk deck n saids.VaryDone h))

kept-came : (deck : Deck) (m : MediumState) (s : SysId) (n : NodeState) (choice : Choice) (b : Result) (o : Turnout)
    → Came deck m s n choice b o → IsKeptUp deck n → IsKeptUp deck o.step.node
unfolding purged stale
kept-came deck m s n choice b o (nothing k r silent flags) h = h
kept-came deck m s n choice b o (informed k) h =
    let known : ℕ = known_from deck n.known m.removed in
    kept-lost deck (record n { known = known }) (members (without_those n.known known)) (kept-known deck n known h)
kept-came deck m s n choice b o (went_on t may) h = kept-task deck n t may h
kept-came deck m s n choice b o (turn flags alone unclosed here) h =
    let es = unseen s m.message.entries in
    kept-put deck (read_entries deck n es) (length (take most_additions n.outbox)) (kept-entries deck es n h)
kept-came deck m s n choice b o (last_turn flags alone shut here) h =
    let es = unseen s m.message.entries in kept-moved deck (read_entries deck n es) (kept-entries deck es n h)
kept-came deck m s n choice b o (changed ring next seen) h = kept-switched deck n h
kept-came deck m s n choice b o (already mode next) h = kept-desk deck n saids.StarAlready h
kept-came deck m s n choice b o (removes_one target ring next lives) h = kept-purged deck n target h
kept-came deck m s n choice b o (removes_star target mode next lives) h = kept-purged deck n target h
kept-came deck m s n choice b o (no_such target next gone) h = kept-desk deck n saids.VaryNoSuch h
kept-came deck m s n choice b o (acted p is k r x acts) h = record {
  date = date-acts deck m s n p k r x acts h.date;
  box =
      subst (IsBoxed o.step.node.tasks) (sym (box-acts deck m s n p k r x acts))
      (boxed-as n.tasks o.step.node.tasks n.outbox (size-acts deck m s n p k r x acts) h.box);
}

-- ---- so in every run
abbrev pub AreKeptUp : Deck → World → Type 0
AreKeptUp deck w = (s : ℕ) (n : NodeState) → slice_get w.nodes s ≡ Some n → IsKeptUp deck n

first-box : (deck : Deck) (s : ℕ) → IsBoxed (first_node deck s).tasks (first_node deck s).outbox
unfolding first_node
first-box deck s = refl

first-kept : (deck : Deck) (s : ℕ) → IsKeptUp deck (first_node deck s)
first-kept deck s = record {
  date = date-any true deck (first_node deck s).tasks (first-read deck s []).date;
  box = first-box deck s;
}

pub kept_run : (deck : Deck) (es : List Event) → AreKeptUp deck (run deck es)
kept_run deck =
    systems_run deck (λ s n. IsKeptUp deck n) (first-kept deck)
    (λ m c n choice live h. kept-came deck m c n choice _ _ (came deck m c n live choice) h)
