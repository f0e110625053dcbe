-- A task of a system of the ring goes on by itself: its records go on with the system's own lists, and nothing else is
-- sent.
use Rattle.grs_world.proofs.Common.{[], ◌++◌, ◌||◌, ◌∙◌, ◌∷◌, ◌≡◌, after_want, answer_to, ap, ask, Asked, askers, Bool}
use Rattle.grs_world.proofs.Common.{by_test, C00, C08, cond, decide, Deck, Deq, Did, did-line, did-none}
use Rattle.grs_world.proofs.Common.{did-outstanding, did-phase, did-rows, did-shown, did-telling, Display, end_step}
use Rattle.grs_world.proofs.Common.{Enq, false, has_most, is_among, is_distinct, is_for_all, is_sent, is_some}
use Rattle.grs_world.proofs.Common.{is_systems, is_to_send, IsOurs, lines_of, List, Local, look, look_around, look_home}
use Rattle.grs_world.proofs.Common.{looks_asked, Matches, may_go, Meaning, new_owners, no_truth, NodeState, None, not}
use Rattle.grs_world.proofs.Common.{Option, or_left, or_right, Phase, phase_step, post, posted, ready_step, Rec}
use Rattle.grs_world.proofs.Common.{record_of, refl, Release, replied, Req, Res, res_wanted, Row, same_place, same_task}
use Rattle.grs_world.proofs.Common.{same_task-exact, same_task-itself, show, slice_get, Some, StarPart, state_of, Step}
use Rattle.grs_world.proofs.Common.{subst, suc, sym, SysId, take_line, task_step, TaskId, TaskState, TasksView}
use Rattle.grs_world.proofs.Common.{tell_code, tell_new, tell_rows, telling, ToldLine, true, wait, Want, with_line}
use Rattle.grs_world.proofs.Common.{with_outstanding, with_phase, with_rows, with_tasks, zero, ℕ}
use Rattle.grs_node.specs.Node.{outbox_with}
use Rattle.grs_known.proofs.system.Did.{did-code}
use Rattle.grs_known.proofs.records.Deciding.{AllKept, IsQuiet, own-kept}
use Rattle.grs_world.proofs.at_rest.Ring.{IsRead, is_local, quiet-sent, quiet-to_send}
use Rattle.grs_world.proofs.at_rest.Steps.{AllDate, date-task, going-ours}
use Rattle.grs_legal.specs.declared.meaning.Meaning.TheVariants as lines
use Rattle.grs_wire.specs.declared.told.ToldLine.TheVariants as told
use Rattle.grs_wire.specs.declared.told.Verb.TheVariants as verbs
use Rattle.task_state.specs.declared.state.Phase.TheVariants as phases

-- what is said of it but that its lines are told
pub record IsLocal (deck : Deck) (s : ℕ) (n : NodeState) (qs : List Req) : Type 0 where
  pub own : (t : TaskId) (ls : List Meaning) → IsOurs deck s n.tasks t ls
      → Matches is_local n.own t (state_of n.tasks t).records
  pub shared : (t : TaskId) (ls : List Meaning) → IsOurs deck s n.tasks t ls
      → Matches is_systems n.shared t (state_of n.tasks t).records
  pub sent : (t : TaskId) (ls : List Meaning) → IsOurs deck s n.tasks t ls → is_sent (state_of n.tasks t).phase ≡ true
      → is_among t (askers qs) ≡ true
  pub boxed : (t : TaskId) (ls : List Meaning) → IsOurs deck s n.tasks t ls
      → is_to_send (state_of n.tasks t).phase ≡ true → is_among t (askers n.outbox) ≡ true

local-read : (deck : Deck) (s : ℕ) (n : NodeState) (qs : List Req) → IsLocal deck s n qs → AllDate true deck n.tasks
    → IsRead deck s n qs
local-read deck s n qs h date = record { own = h.own; shared = h.shared; sent = h.sent; boxed = h.boxed; date = date }

among-last : (t : TaskId) (xs : List Req) (q : Req) → same_task t q.task ≡ true
    → is_among t (askers (xs ++ q ∷ [])) ≡ true
among-last t [] q e = or_left (same_task t q.task) false e
among-last t (x ∷ xs) q e = or_right (same_task t x.task) (is_among t (askers (xs ++ q ∷ []))) (among-last t xs q e)

among-more : (t : TaskId) (xs : List Req) (q : Req) → is_among t (askers xs) ≡ true
    → is_among t (askers (xs ++ q ∷ [])) ≡ true
among-more t [] q h = absurd (cc)
among-more t (x ∷ xs) q h = go (same_task t x.task) h (among-more t xs q)
  where
    go : (b : Bool) → (b || is_among t (askers xs)) ≡ true
        → (is_among t (askers xs) ≡ true → is_among t (askers (xs ++ q ∷ [])) ≡ true)
        → (b || is_among t (askers (xs ++ q ∷ []))) ≡ true
    go true e more = refl
    go false e more = more e

module _ (deck : Deck) (s : ℕ) (n : NodeState) (qs : List Req) (alone : n.star ≡ None) (h : IsRead deck s n qs)
    (u : TaskId) (ms : List Meaning) (ours : IsOurs deck s n.tasks u ms)
    (distinct : is_distinct (state_of n.tasks u).records ≡ true) where
  abbrev v : TasksView
  v = n.tasks

  -- the tasks differ in that one
  module _ (w : TasksView) (x : TaskState) (T : List ToldLine) (did : Did n.tasks w u x T) where
    was : (t : TaskId) (ls : List Meaning) → IsOurs deck s w t ls → IsOurs deck s n.tasks t ls
    was t ls o = record { lines = o.lines; home = o.home; here = sym (did.changed.here t) ∙ o.here }

    by_task : (P : TaskId → TaskState → Type 0) → P u x
        → ((t : TaskId) (ls : List Meaning) → IsOurs deck s n.tasks t ls → same_task t u ≡ false
        → P t (state_of n.tasks t))
        → (t : TaskId) (ls : List Meaning) → IsOurs deck s w t ls → P t (state_of w t)
    by_task P asks rest t ls o = go (same_task t u) refl
      where
        go : (b : Bool) → same_task t u ≡ b → P t (state_of w t)
        go true e =
            let one : u ≡ t = sym (same_task-exact t u e) in
            subst (λ y. P y (state_of w y)) one (subst (P u) (sym did.state) asks)
        go false e =
            subst (P t) (sym (did.changed.others t
            (λ place. no_truth (same_task t u) (same_place deck s n.tasks t u ls ms (was t ls o) ours place) e)))
            (rest t ls (was t ls o) e)

    -- it has the same records, and waits for nothing
    local-same : x.records ≡ (state_of n.tasks u).records → is_sent x.phase ≡ false → is_to_send x.phase ≡ false
        → IsLocal deck s (with_tasks n w) qs
    local-same recs unsent unboxed = record {
      own =
          by_task (λ t y. Matches is_local n.own t y.records)
          (subst (Matches is_local n.own u) (sym recs) (h.own u ms ours)) (λ t ls o apart. h.own t ls o);
      shared =
          by_task (λ t y. Matches is_systems n.shared t y.records)
          (subst (Matches is_systems n.shared u) (sym recs) (h.shared u ms ours)) (λ t ls o apart. h.shared t ls o);
      sent =
          by_task (λ t y. is_sent y.phase ≡ true → is_among t (askers qs) ≡ true)
          (λ e. no_truth (is_sent x.phase) e unsent) (λ t ls o apart. h.sent t ls o);
      boxed =
          by_task (λ t y. is_to_send y.phase ≡ true → is_among t (askers n.outbox) ≡ true)
          (λ e. no_truth (is_to_send x.phase) e unboxed) (λ t ls o apart. h.boxed t ls o);
    }

  same : IsLocal deck s n qs
  same = record { own = h.own; shared = h.shared; sent = h.sent; boxed = h.boxed }

  -- ---- its request waits to be put in
  box-ring : (w : TasksView) (q : Req) → outbox_with (with_tasks n w) q ≡ n.outbox ++ q ∷ []
  box-ring w q = ap (λ o. cond (is_some o) n.outbox (n.outbox ++ q ∷ [])) alone

  module _ (v0 : TasksView) (x : TaskState) (did : Did n.tasks v0 u x n.tasks.told)
      (recs : x.records ≡ (state_of n.tasks u).records) where
    local-posted : (a : Asked) → a.req.task ≡ u → IsLocal deck s (posted (with_tasks n v0) u a) qs
    local-posted a by =
        subst (λ b. IsLocal deck s (record n { tasks = w; outbox = b }) qs) (sym (box-ring v0 a.req)) (record {
          own =
              by_task w z n.tasks.told did2 (λ t y. Matches is_local n.own t y.records)
              (subst (Matches is_local n.own u) (sym recs) (h.own u ms ours)) (λ t ls o apart. h.own t ls o);
          shared =
              by_task w z n.tasks.told did2 (λ t y. Matches is_systems n.shared t y.records)
              (subst (Matches is_systems n.shared u) (sym recs) (h.shared u ms ours))
              (λ t ls o apart. h.shared t ls o);
          sent =
              by_task w z n.tasks.told did2 (λ t y. is_sent y.phase ≡ true → is_among t (askers qs) ≡ true)
              (λ e. no_truth (is_sent phases.ToSend) e refl) (λ t ls o apart. h.sent t ls o);
          boxed =
              by_task w z n.tasks.told did2
              (λ t y. is_to_send y.phase ≡ true → is_among t (askers (n.outbox ++ a.req ∷ [])) ≡ true)
              (λ e.
              among-last u n.outbox a.req (subst (λ t. same_task u t ≡ true) (sym by) (same_task-itself u)))
              (λ t ls o apart e. among-more t n.outbox a.req (h.boxed t ls o e));
        })
      where
        w : TasksView
        w = with_outstanding (with_phase v0 u phases.ToSend) u (Some a)

        z : TaskState
        z = record x { phase = phases.ToSend; code = x.code; outstanding = Some a }

        did2 :
            Did n.tasks (with_outstanding (with_phase v0 u phases.ToSend) u (Some a)) u
            (record x { phase = phases.ToSend; code = x.code; outstanding = Some a }) n.tasks.told
        did2 =
            did-outstanding v (with_phase v0 u phases.ToSend) u (record x { phase = phases.ToSend; code = x.code })
            v.told ours.here (did-phase v v0 u x v.told ours.here did phases.ToSend) (Some a)

  -- ---- it asks, as it stands at x
  module _ (v0 : TasksView) (x : TaskState) (did : Did n.tasks v0 u x n.tasks.told)
      (recs : x.records ≡ (state_of n.tasks u).records) (free : (f : Phase → Bool) → IsQuiet f → f x.phase ≡ false)
      (w : Want) (r : Res) (wanted : res_wanted w ≡ Some r) (unit : Option ℕ) where
    local-decide : is_systems r ≡ false → IsLocal deck s (decide (with_tasks n v0) u w unit).node qs
    unfolding decide
    local-decide narrow =
        subst (λ o.
        IsLocal deck s (record n {
          tasks = tell_new (replied v0 u w unit (answer_to n.own u w)) o (new_owners n.own u w);
          own = after_want n.own u w;
        })
        qs)
        (sym wanted)
        (record {
          own = λ t ls o. k.lists t ls (was_ours t ls o);
          shared = λ t ls o. k.others t ls (was_ours t ls o);
          sent = λ t ls o e. h.sent t ls (was_ours t ls o) (k.phases_are is_sent quiet-sent t ls (was_ours t ls o) e);
          boxed = λ t ls o e.
              h.boxed t ls (was_ours t ls o) (k.phases_are is_to_send quiet-to_send t ls (was_ours t ls o) e);
        })
      where
        k :
            AllKept deck s is_local is_systems (after_want n.own u w) n.shared n.tasks
            (tell_new (replied v0 u w unit (answer_to n.own u w)) (Some r) (new_owners n.own u w))
        k =
            own-kept deck s is_local is_systems n.own n.shared n.tasks r (ap not narrow) narrow h.own h.shared u ms ours
            v0 x did recs free distinct w wanted unit

        was_ours : (t : TaskId) (ls : List Meaning)
            → IsOurs deck s (tell_new (replied v0 u w unit (answer_to n.own u w)) (Some r) (new_owners n.own u w)) t ls
            → IsOurs deck s n.tasks t ls
        was_ours t ls o = record { lines = o.lines; home = o.home; here = sym (k.here t) ∙ o.here }

    local-post : IsLocal deck s (post (with_tasks n v0) u w unit).node qs
    unfolding post
    local-post =
        local-posted v0 x did recs (record { req = record { task = u; want = w }; unit = unit; showing = None }) refl

    local-ask : IsLocal deck s (ask (with_tasks n v0) u w unit).node qs
    unfolding ask
    local-ask =
        by_test (λ (st : Step). IsLocal deck s st.node qs) (is_for_all (res_wanted w)) (post (with_tasks n v0) u w unit)
        (decide (with_tasks n v0) u w unit) (λ wide. local-post)
        (λ narrow. local-decide (ap is_for_all (sym wanted) ∙ narrow))

  -- ---- one that is ready
  quiet-ready : (p : Phase) → p ≡ phases.Ready → (f : Phase → Bool) → IsQuiet f → f p ≡ false
  quiet-ready p e f k = ap f e ∙ k.ready

  module _ (ready : (state_of n.tasks u).phase ≡ phases.Ready) where
    abbrev y : TaskState
    y = state_of n.tasks u

    did-next : Did n.tasks (with_line n.tasks u) u (record y { line = suc y.line }) n.tasks.told
    did-next = did-line v v u y v.told ours.here (did-none v u)

    local-wait : (r : Res) (o : Option Rec) → IsLocal deck s (with_tasks n (wait (with_line n.tasks u) u r o)) qs
    unfolding wait
    local-wait r None =
        local-same (tell_code (with_line v u) u verbs.Wait C08) (record y { line = suc y.line }) _
        (did-code v (with_line v u) u (record y { line = suc y.line }) v.told ours.here did-next verbs.Wait C08) refl
        (ap is_sent ready) (ap is_to_send ready)
    local-wait r (Some z) = go z.told
      where
        go : (b : Bool)
            → IsLocal deck s (with_tasks n (cond b (tell_code (with_line n.tasks u) u verbs.Wait C00)
            (with_phase (with_line n.tasks u) u (phases.HeldLine r))))
            qs
        go true =
            local-same (tell_code (with_line v u) u verbs.Wait C00) (record y { line = suc y.line }) _
            (did-code v (with_line v u) u (record y { line = suc y.line }) v.told ours.here did-next verbs.Wait C00)
            refl (ap is_sent ready) (ap is_to_send ready)
        go false =
            local-same (with_phase (with_line v u) u (phases.HeldLine r))
            (record y { line = suc y.line; phase = phases.HeldLine r }) v.told
            (did-phase v (with_line v u) u (record y { line = suc y.line }) v.told ours.here did-next
            (phases.HeldLine r))
            refl refl refl

    -- a line that shows lists
    asked-by : (d : Display) (more : ℕ) (o : Option StarPart) → (looks_asked u d more o).req.task ≡ u
    asked-by d more None = refl
    asked-by d more (Some p) = refl

    local-around : (d : Display) (w : TasksView) (z : TaskState) → Did n.tasks w u z n.tasks.told
        → z.records ≡ y.records → z.phase ≡ phases.Ready → (count : ℕ)
        → IsLocal deck s (look_around (with_tasks n w) u d count) qs
    local-around d w z did recs phase zero =
        local-same (tell_rows w u d.verb) (record z { rows = [] }) _ (did-shown v w u z v.told ours.here did d.verb)
        recs (ap is_sent phase) (ap is_to_send phase)
    local-around d w z did recs phase (suc more) =
        local-posted w z did recs (looks_asked u d more n.star) (asked-by d more n.star)

    local-show : (d : Display) → IsLocal deck s (show (with_tasks n (with_line n.tasks u)) u d).node qs
    unfolding show
    local-show d = go d.home
      where
        go : (home : Option SysId)
            → IsLocal deck s (look_around (look_home (with_tasks n (with_line n.tasks u)) u d home).node u d d.count)
            qs
        go None = local-around d (with_line v u) (record y { line = suc y.line }) did-next refl ready d.count
        go (Some z) =
            let rows : List Row = look n.own (Local u.system) d.filter in
            local-around d (with_rows (with_line v u) u rows)
            (record y { line = suc y.line; rows = y.rows ++ rows })
            (did-rows v (with_line v u) u (record y { line = suc y.line }) v.told ours.here did-next rows) refl ready
            d.count

    local-line : (l : Meaning) → IsLocal deck s (take_line deck.limit (with_tasks n (with_line n.tasks u)) u l).node qs
    unfolding take_line
    local-line (lines.Enq r c ret unit) =
        local-ask (with_line v u) (record y { line = suc y.line }) did-next refl (quiet-ready y.phase ready)
        (Enq r c ret (has_most deck.limit (with_line v u) u)) r refl unit
    local-line (lines.Deq r have) =
        local-ask (with_line v u) (record y { line = suc y.line }) did-next refl (quiet-ready y.phase ready)
        (Deq r have) r refl None
    local-line (lines.Wait r) = local-wait r (record_of (state_of (with_line v u) u).records r)
    local-line (lines.Shows d) = local-show d
    local-line lines.Nothing =
        local-same (with_line v u) (record y { line = suc y.line }) v.told did-next refl (ap is_sent ready)
        (ap is_to_send ready)

  -- one that is ending
  module _ (v0 : TasksView) (x : TaskState) (did : Did n.tasks v0 u x n.tasks.told)
      (recs : x.records ≡ (state_of n.tasks u).records) (c : ℕ) (ending : x.phase ≡ phases.Ending c) where
    local-end : (xs : List Rec) → IsLocal deck s (end_step (with_tasks n v0) u c xs).node qs
    unfolding end_step
    local-end [] =
        local-same (telling (with_phase v0 u phases.Ended) (told.Ended u c)) (record x { phase = phases.Ended }) _
        (did-telling v (with_phase v0 u phases.Ended) u (record x { phase = phases.Ended }) v.told (told.Ended u c)
        (did-phase v v0 u x v.told ours.here did phases.Ended))
        recs refl refl
    local-end (z ∷ xs) = local-ask v0 x did recs (λ f k. ap f ending ∙ k.ending c) (Release z.res) z.res refl None

  -- whatever it does by its phase
  local-phase : (p : Phase) → (state_of n.tasks u).phase ≡ p → IsLocal deck s (phase_step deck.limit n u ms p).node qs
  unfolding phase_step ready_step
  local-phase phases.Ready e = go (slice_get ms (state_of v u).line)
    where
      go : (o : Option Meaning) → IsLocal deck s (ready_step deck.limit n u o).node qs
      go (Some l) = local-line e l
      go None =
          local-end (with_phase v u (phases.Ending 0)) (record (state_of v u) { phase = phases.Ending 0; code = 0 })
          (did-phase v v u (state_of v u) v.told ours.here (did-none v u) (phases.Ending 0)) refl 0 refl
          (state_of (with_phase v u (phases.Ending 0)) u).records
  local-phase (phases.Ending c) e = local-end v (state_of v u) (did-none v u) refl c e (state_of v u).records
  local-phase phases.HeldAnswer e = same
  local-phase (phases.HeldLine r) e = same
  local-phase phases.ToSend e = same
  local-phase phases.Sent e = same
  local-phase phases.Ended e = same

  local-task : IsLocal deck s (task_step deck.limit n u (Some ms)).node qs
  local-task = local-phase (state_of v u).phase refl

-- what a task does that goes on, where no task's records have a resource twice
pub read-task : (deck : Deck) (s : ℕ) (n : NodeState) (qs : List Req) → n.star ≡ None → n.tasks.system ≡ s
    → ((t : TaskId) (ls : List Meaning) → IsOurs deck s n.tasks t ls → is_distinct (state_of n.tasks t).records ≡ true)
    → (t : TaskId) → may_go deck n t ≡ true →
    IsRead deck s n qs → IsRead deck s (task_step deck.limit n t (lines_of deck t)).node qs
read-task deck s n qs alone system distinct t may h =
    let ours = going-ours deck s n system t may in
    subst (λ o. IsRead deck s (task_step deck.limit n t o).node qs) (sym ours.1.lines)
    (local-read deck s (task_step deck.limit n t (Some ours.0)).node qs
    (local-task deck s n qs alone h t ours.0 ours.1 (distinct t ours.0 ours.1))
    (date-task true deck n (λ e. alone) h.date t ours.0 ours.1.lines ours.1.here))
