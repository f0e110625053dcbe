-- Each task of a system stays up to date, whatever the system does.
use Rattle.grs_world.proofs.Common.{[], ◌&&◌, ◌++◌, ◌+◌, ◌-◌, ◌<◌, ◌==◌, ◌||◌, ◌∙◌, ◌∷◌, ◌≡◌, ◌≢◌, and_from, and_parts}
use Rattle.grs_world.proofs.Common.{answer_to, any-last, any-more, ap, arith, ask, Asked, Bool, by_test, C00, C08, cond}
use Rattle.grs_world.proofs.Common.{controlled, decide, Deck, Deq, Did, did-line, did-none, did-outstanding, did-phase}
use Rattle.grs_world.proofs.Common.{did-rows, did-shown, did-telling, Display, Each, end_step, Enq, eq-eqb, eqb-false}
use Rattle.grs_world.proofs.Common.{eqb-true, false, goes_on, has_code, has_most, is_code_at, is_for_all, is_of_deck}
use Rattle.grs_world.proofs.Common.{is_some, is_task, is_task-system, is_unmarked, is_unsent, IsOurs, IsWanted}
use Rattle.grs_world.proofs.Common.{IsWantedBy, length, lines_of, List, list_any, Local, Look, look, look_around}
use Rattle.grs_world.proofs.Common.{look_home, looks_asked, may_go, Meaning, new_owners, no_truth, NodeState, None, not}
use Rattle.grs_world.proofs.Common.{Option, or_left, Phase, phase_step, post, ready_step, Rec, record_of, refl, Release}
use Rattle.grs_world.proofs.Common.{replied, Res, res_wanted, Row, same_place, same_res, same_task-exact, show}
use Rattle.grs_world.proofs.Common.{slice_get, Some, some_of, StarPart, State, state_of, Step, subst, suc, sym, SysId}
use Rattle.grs_world.proofs.Common.{take_line, task_step, TaskId, TaskState, TasksView, tell_all, tell_code}
use Rattle.grs_world.proofs.Common.{tell_control, tell_new, tell_rows, tell_untold, telling, ToldLine, true, wait, Want}
use Rattle.grs_world.proofs.Common.{with_line, with_outstanding, with_phase, with_rows, with_tasks, zero, ℕ}
use Rattle.grs_known.proofs.records.Control.{hears-grows}
use Rattle.grs_known.proofs.system.Did.{did-code}
use Rattle.task_state.specs.View.{record_place}
use Rattle.grs_known.proofs.tasks.UpToDate.{AreCoded, HasUnit, IsUpToDate, hears-date, is_end_at, is_kept, is_placed}
use Rattle.grs_known.proofs.tasks.UpToDate.{more-told, unit_of}
use Rattle.grs_known.specs.Passed.{is_at_line, passed_by, has_ended, passed_asking}
use Rattle.gqscan.specs.Shown.{code_for}
use Rattle.grs_known.proofs.tasks.Asked.{any-after, told_after}
use Rattle.grs_known.proofs.tasks.Answered.{IsCoded, IsDue, answered, coded-line, is_free, shown-line}
use Rattle.grs_known.proofs.records.Places.{state_at}
use Rattle.grs_legal.specs.declared.meaning.Meaning.TheVariants as lines
use Rattle.grs_wire.specs.declared.told.ToldLine.TheVariants as told
use Rattle.grs_wire.specs.declared.told.Verb.TheVariants as verbs
use Rattle.task_state.specs.declared.state.Phase.TheVariants as phases

-- ---- all tasks of a system
-- each task of the deck that is here is up to date
abbrev pub AllDate : Bool → Deck → TasksView → Type 0
AllDate whole deck v =
    (t : TaskId) (ls : List Meaning) → lines_of deck t ≡ Some ls → is_task v t ≡ true
    → IsUpToDate whole ls v.told t (state_of v t)

pub placed-here : (v : TasksView) (t u : TaskId) → is_task v t ≡ true → is_task v u ≡ true → t.task ≡ u.task
    → is_placed t u ≡ true
placed-here v t u a b e =
    and_from (t.system.0 == u.system.0) (t.task == u.task)
    (eq-eqb _ _ (sym (is_task-system v t a) ∙ is_task-system v u b)) (eq-eqb _ _ e)

-- one task changed, and more is told
pub date-did : (whole : Bool) (deck : Deck) (v w : TasksView) (u : TaskId) (x : TaskState) (T : List ToldLine)
    → is_task v u ≡ true
    → Did v w u x T → ((p : ToldLine → Bool) → list_any p v.told ≡ true → list_any p T ≡ true) →
    ((t : TaskId) (ls : List Meaning) → lines_of deck t ≡ Some ls → is_placed t u ≡ true
    → IsUpToDate whole ls v.told t (state_of v u) → IsUpToDate whole ls T t x)
    → AllDate whole deck v → AllDate whole deck w
date-did whole deck v w u x T here did grows own h t ls at there = go (t.task == u.task) refl
  where
    was : is_task v t ≡ true
    was = sym (did.changed.here t) ∙ there

    go : (b : Bool) → (t.task == u.task) ≡ b → IsUpToDate whole ls w.told t (state_of w t)
    go true e =
        let same : t.task ≡ u.task = eqb-true t.task u.task e in
        subst (λ U. IsUpToDate whole ls U t (state_of w t))
        (sym did.told) (subst (λ y. IsUpToDate whole ls T t y) (sym (state_at w t u same ∙ did.state))
        (own t ls at (placed-here v t u was here same)
        (subst (λ y. IsUpToDate whole ls v.told t y) (state_at v t u same) (h t ls at was))))
    go false e =
        let ne : t.task ≢ u.task = eqb-false t.task u.task e in
        subst (λ U. IsUpToDate whole ls U t (state_of w t)) (sym did.told)
        (subst (λ y. IsUpToDate whole ls T t y) (sym (did.changed.others t ne))
        (more-told whole ls v.told T t (state_of v t) grows (h t ls at was)))

-- two tasks of the deck at one place are one
pub one-task : (deck : Deck) (v : TasksView) (t u : TaskId) (ls ms : List Meaning) → lines_of deck t ≡ Some ls
    → lines_of deck u ≡ Some ms → is_task v t ≡ true → is_task v u ≡ true → t.task ≡ u.task → u ≡ t
one-task deck v t u ls ms a b at bt e =
    sym (same_task-exact t u (same_place deck v.system v t u ls ms
    (record { lines = a; home = sym (is_task-system v t at); here = at })
    (record { lines = b; home = sym (is_task-system v u bt); here = bt }) e))

-- a task of the deck changed
pub date-own :
    (whole : Bool) (deck : Deck) (v w : TasksView) (u : TaskId) (ms : List Meaning) (x : TaskState) (T : List ToldLine)
    → lines_of deck u ≡ Some ms → is_task v u ≡ true → Did v w u x T
    → ((p : ToldLine → Bool) → list_any p v.told ≡ true → list_any p T ≡ true) →
    IsUpToDate whole ms T u x → AllDate whole deck v → AllDate whole deck w
date-own whole deck v w u ms x T lines here did grows date h t ls at there = go (t.task == u.task) refl
  where
    was : is_task v t ≡ true
    was = sym (did.changed.here t) ∙ there

    go : (b : Bool) → (t.task == u.task) ≡ b → IsUpToDate whole ls w.told t (state_of w t)
    go true e =
        let same : t.task ≡ u.task = eqb-true t.task u.task e in
        let one : u ≡ t = one-task deck v t u ls ms at lines was here same in
        let lists : Some ms ≡ Some ls = sym lines ∙ (ap (lines_of deck) one ∙ at) in
        let as_one : ms ≡ ls = cc in
        subst (λ U. IsUpToDate whole ls U t (state_of w t))
        (sym did.told) (subst (λ y. IsUpToDate whole ls T t y) (sym (state_at w t u same ∙ did.state))
        (subst (λ z. IsUpToDate whole z T t x) as_one (subst (λ z. IsUpToDate whole ms T z x) one date)))
    go false e =
        let ne : t.task ≢ u.task = eqb-false t.task u.task e in
        subst (λ U. IsUpToDate whole ls U t (state_of w t)) (sym did.told)
        (subst (λ y. IsUpToDate whole ls T t y) (sym (did.changed.others t ne))
        (more-told whole ls v.told T t (state_of v t) grows (h t ls at was)))

-- who may go on is a task of the deck at this system
pub going-ours : (deck : Deck) (s : ℕ) (n : NodeState) → n.tasks.system ≡ s → (t : TaskId) → may_go deck n t ≡ true
    → (ls : List Meaning) × IsOurs deck s n.tasks t ls
unfolding may_go
going-ours deck s n system t may =
    let going = and_parts (is_task n.tasks t) (is_of_deck deck t && goes_on (state_of n.tasks t).phase) may in
    let lines =
    some_of (lines_of deck t) (and_parts (is_of_deck deck t) (goes_on (state_of n.tasks t).phase) going.1).0 in
    (lines.0, record { lines = lines.1; home = sym (is_task-system n.tasks t going.0) ∙ system; here = going.0 })

-- ---- control is told
pub date-control : (whole : Bool) (deck : Deck) (v : TasksView) (r : Res) (u : TaskId) → AllDate whole deck v
    → AllDate whole deck (tell_control v r u)
unfolding tell_control
date-control whole deck v r u h = go (is_task v u) refl
  where
    go : (b : Bool) → is_task v u ≡ b → AllDate whole deck (tell_control v r u)
    go false e =
        subst (λ b. AllDate whole deck (cond b (tell_untold v u r (record_of (state_of v u).records r)) v)) (sym e) h
    go true e =
        let c = controlled v r u e in
        date-did whole deck v (tell_control v r u) u c.state c.told e c.did
        (hears-grows u r (state_of v u) v.told c.state c.told c.hears)
        (λ t ls at place k. hears-date whole ls t u r (state_of v u) v.told c.state c.told place c.hears k) h

pub date-all : (whole : Bool) (deck : Deck) (r : Res) (us : List TaskId) (v : TasksView) → AllDate whole deck v
    → AllDate whole deck (tell_all v r us)
unfolding tell_all
date-all whole deck r [] v h = h
date-all whole deck r (u ∷ us) v h = date-all whole deck r us (tell_control v r u) (date-control whole deck v r u h)

pub date-new : (whole : Bool) (deck : Deck) (o : Option Res) (us : List TaskId) (v : TasksView) → AllDate whole deck v
    → AllDate whole deck (tell_new v o us)
unfolding tell_new
date-new whole deck None us v h = h
date-new whole deck (Some r) us v h = date-all whole deck r us v h

-- ---- a task goes on
pub codes-answer : (s : State) (t : TaskId) (w : Want) → is_some (res_wanted w) ≡ true → IsCoded w (answer_to s t w)
codes-answer s t (Enq r c ret full) e = tt
codes-answer s t (Deq r have) e = tt
codes-answer s t (Release r) e = tt
codes-answer s t (Look first count f) e = absurd (cc)

-- a line more, which has no code
coded-silent : (ls : List Meaning) (T : List ToldLine) (t : TaskId) (n : ℕ) → has_code (slice_get ls n) ≡ false
    → AreCoded ls T t n → AreCoded ls T t (suc n)
coded-silent ls T t n quiet h k low in_it asks = go (k == suc n) refl
  where
    go : (b : Bool) → (k == suc n) ≡ b → list_any (is_code_at t k) T ≡ true
    go true e =
        let same : k ≡ suc n = eqb-true k (suc n) e in
        let at : k - 1 ≡ n = omega (arith, same) in
        no_truth (has_code (slice_get ls n)) (ap (λ i. has_code (slice_get ls i)) (sym at) ∙ asks) quiet
    go false e = let ne : k ≢ suc n = eqb-false k (suc n) e in h k low (omega (arith, in_it, ne)) asks

found-unmarked : (xs : List Rec) (r : Res) (y : Rec) → record_of xs r ≡ Some y → y.told ≡ false
    → is_unmarked r xs ≡ true
found-unmarked [] r y e untold = absurd (cc)
found-unmarked (x ∷ xs) r y e untold = go (same_res r x.res) e (λ f. found-unmarked xs r y f untold)
  where
    go : (b : Bool) → slice_get (x ∷ xs) (cond b 0 (suc (record_place xs r))) ≡ Some y
        → (record_of xs r ≡ Some y → is_unmarked r xs ≡ true) → ((b && not x.told) || is_unmarked r xs) ≡ true
    go true f more =
        let same : x ≡ y = cc in
        or_left (not x.told) (is_unmarked r xs) (ap (λ (z : Rec). not z.told) same ∙ ap not untold)
    go false f more = more f

-- what a request that may wait has to do with its line
abbrev pub IsWantedIf : Bool → List Meaning → ℕ → Want → Option ℕ → Type 0
IsWantedIf whole ls n w unit = is_for_all (res_wanted w) ≡ true → IsWanted whole ls n w unit None

module _ (whole : Bool) (deck : Deck) (n : NodeState) (alone : whole ≡ true → n.star ≡ None)
    (h : AllDate whole deck n.tasks) (u : TaskId) (ms : List Meaning)
    (at : lines_of deck u ≡ Some ms) (here : is_task n.tasks u ≡ true) where
  abbrev v : TasksView
  v = n.tasks

  place_own : is_placed u u ≡ true
  place_own = placed-here n.tasks u u here here refl

  -- the tasks when it asks: it stands as x, has nothing outstanding, and is done with what is before
  module _ (v0 : TasksView) (x : TaskState) (did : Did n.tasks v0 u x n.tasks.told) (w : Want) (unit : Option ℕ)
      (due : IsDue ms n.tasks.told u x w unit) (some : is_some (res_wanted w) ≡ true) where
    -- which is decided at once
    date-decide : AllDate whole deck (decide (with_tasks n v0) u w unit).node.tasks
    unfolding decide
    date-decide =
        let a =
        answered whole ms v v0 u u place_own here x did w unit (answer_to n.own u w) (codes-answer n.own u w some)
        due in
        date-new whole deck (res_wanted w) (new_owners n.own u w) (replied v0 u w unit (answer_to n.own u w))
        (date-own whole deck v (replied v0 u w unit (answer_to n.own u w)) u ms a.state a.told at here a.did a.grows
        a.date h)

    -- or waits
    date-post : IsWanted whole ms x.line w unit None → AllDate whole deck (post (with_tasks n v0) u w unit).node.tasks
    unfolding post
    date-post wanted =
        let a : Asked = record { req = record { task = u; want = w }; unit = unit; showing = None } in
        let did1 = did-phase v v0 u x v.told here did phases.ToSend in
        let did2 = did-outstanding v (with_phase v0 u phases.ToSend) u _ v.told here did1 (Some a) in
        let z :
        TaskState = record x { phase = phases.ToSend; outstanding = Some a } in
        date-own whole deck v (with_outstanding (with_phase v0 u phases.ToSend) u (Some a)) u ms z v.told at here did2
        (λ p k. k) (record {
          closed = λ e. absurd (cc);
          wanted = wanted;
          held = refl;
          coded = due.coded;
          units = due.units;
          ended = λ e. absurd (cc);
        })
        h

    date-ask : IsWantedIf whole ms x.line w unit → AllDate whole deck (ask (with_tasks n v0) u w unit).node.tasks
    unfolding ask
    date-ask wanted =
        by_test (λ (st : Step). AllDate whole deck st.node.tasks) (is_for_all (res_wanted w))
        (post (with_tasks n v0) u w unit) (decide (with_tasks n v0) u w unit) (λ wide. date-post (wanted wide))
        (λ narrow. date-decide)

  -- one that is ready
  module _ (ready : (state_of n.tasks u).phase ≡ phases.Ready) where
    abbrev y : TaskState
    y = state_of n.tasks u

    closed : y.outstanding ≡ None
    closed = (h u ms at here).closed (ap is_unsent ready)

    done : AreCoded ms n.tasks.told u y.line
    done =
        subst (λ p. AreCoded ms v.told u (cond (is_at_line p) (y.line - 1) y.line)) ready
        (subst (λ o. AreCoded ms v.told u (passed_by o y.phase y.line)) closed (h u ms at here).coded)

    abbrev x1 : TaskState
    x1 = record (state_of n.tasks u) { line = suc (state_of n.tasks u).line }

    did-next : Did n.tasks (with_line n.tasks u) u x1 n.tasks.told
    did-next = did-line v v u y v.told here (did-none v u)

    back : (k : ℕ) → suc k - 1 ≡ k
    back k = omega arith

    -- a line that asks nothing was taken, and its code was told if it has one
    date-silent : (w : TasksView) (z : TaskState) (T : List ToldLine) → Did n.tasks w u z T
        → ((p : ToldLine → Bool) → list_any p n.tasks.told ≡ true → list_any p T ≡ true)
        → AreCoded ms T u (passed_by None z.phase z.line) → z.outstanding ≡ None → z.records ≡ y.records
        → is_kept z.phase z.records ≡ true → has_ended z.phase ≡ false → AllDate whole deck w
    date-silent w z T did grows coded shut recs held going =
        date-own whole deck v w u ms z T at here did grows (record {
          closed = λ e. shut;
          wanted = subst (IsWantedBy whole ms z.line) (sym shut) tt;
          held = held;
          coded = subst (λ o. AreCoded ms T u (passed_by o z.phase z.line)) (sym shut) coded;
          units = subst (Each (HasUnit ms)) (sym recs) (h u ms at here).units;
          ended = λ e. no_truth (has_ended z.phase) e going;
        }) h

    -- it is done with that line
    done_next : (T : List ToldLine) → AreCoded ms T u (suc y.line)
        → AreCoded ms T u (passed_by None y.phase (suc y.line))
    done_next T coded =
        subst (λ p. AreCoded ms T u (cond (is_at_line p) (suc y.line - 1) (suc y.line))) (sym ready) coded

    done_back : AreCoded ms n.tasks.told u (suc y.line - 1)
    done_back = subst (λ k. AreCoded ms v.told u k) (sym (back y.line)) done

    date-wait : (r : Res) → (o : Option Rec) → record_of (state_of (with_line n.tasks u) u).records r ≡ o
        → AllDate whole deck (wait (with_line n.tasks u) u r o)
    unfolding wait
    date-wait r None e =
        date-silent (tell_code (with_line v u) u verbs.Wait C08) x1 (told_after v.told u x1.line verbs.Wait C08)
        (did-code v (with_line v u) u x1 v.told here did-next verbs.Wait C08)
        (λ p k. any-after p v.told u x1.line verbs.Wait C08 k)
        (done_next (told_after v.told u x1.line verbs.Wait C08)
        (coded-line ms v.told u u (suc y.line) verbs.Wait C08 place_own done_back))
        closed refl (ap (λ p. is_kept p y.records) ready) (ap has_ended ready)
    date-wait r (Some z) e = go z.told refl
      where
        go : (b : Bool) → z.told ≡ b
            → AllDate whole deck
            (cond b (tell_code (with_line v u) u verbs.Wait C00) (with_phase (with_line v u) u (phases.HeldLine r)))
        go true f =
            date-silent (tell_code (with_line v u) u verbs.Wait C00) x1 (told_after v.told u x1.line verbs.Wait C00)
            (did-code v (with_line v u) u x1 v.told here did-next verbs.Wait C00)
            (λ p k. any-after p v.told u x1.line verbs.Wait C00 k)
            (done_next (told_after v.told u x1.line verbs.Wait C00)
            (coded-line ms v.told u u (suc y.line) verbs.Wait C00 place_own done_back))
            closed refl (ap (λ p. is_kept p y.records) ready) (ap has_ended ready)
        go false f =
            let w = with_phase (with_line v u) u (phases.HeldLine r) in
            date-silent w (record x1 { phase = phases.HeldLine r }) v.told
            (did-phase v (with_line v u) u x1 v.told here did-next (phases.HeldLine r)) (λ p k. k) done_back closed refl
            (found-unmarked y.records r z (ap (λ (q : TaskState). record_of q.records r) (sym did-next.state) ∙ e) f)
            refl

    -- ---- a line that shows lists was taken
    look-wanted : (d : Display) (more : ℕ) (o : Option StarPart) (m : ℕ) → 0 < m → (whole ≡ true → o ≡ None)
        → IsWantedBy whole ms m (Some (looks_asked u d more o))
    look-wanted d more None m low lone = (low, λ e. refl)
    look-wanted d more (Some p) m low lone = (low, λ e. absurd (let no : Some p ≡ None = lone e in cc))

    look-passed : (d : Display) (more : ℕ) (o : Option StarPart) (m : ℕ)
        → passed_asking (looks_asked u d more o).req.want m ≡ m - 1
    look-passed d more None m = refl
    look-passed d more (Some p) m = refl

    -- its own system's rows are there, and the others are asked for, if any are
    module _ (d : Display) (k : NodeState) (lone : whole ≡ true → k.star ≡ None) (z : TaskState)
        (did : Did n.tasks k.tasks u z n.tasks.told)
        (line : z.line ≡ suc (state_of n.tasks u).line) (phase : z.phase ≡ phases.Ready) (shut : z.outstanding ≡ None)
        (recs : z.records ≡ (state_of n.tasks u).records) where
      before : AreCoded ms n.tasks.told u (z.line - 1)
      before = subst (λ m. AreCoded ms v.told u (m - 1)) (sym line) done_back

      date-around : (count : ℕ) → AllDate whole deck (look_around k u d count).tasks
      date-around zero =
          date-silent (tell_rows k.tasks u d.verb) (record z { rows = [] })
          (v.told ++ told.Shown u z.line d.verb (code_for (length z.rows)) z.rows ∷ [])
          (did-shown v k.tasks u z v.told here did d.verb) (λ p k. any-more p v.told _ k)
          (subst (λ p.
          AreCoded ms (v.told ++ told.Shown u z.line d.verb (code_for (length z.rows)) z.rows ∷ []) u
          (cond (is_at_line p) (z.line - 1) z.line))
          (sym phase) (shown-line ms v.told u u z.line d.verb (code_for (length z.rows)) z.rows place_own before))
          shut recs (ap (λ p. is_kept p z.records) phase) (ap has_ended phase)
      date-around (suc more) =
          let a : Asked = looks_asked u d more k.star in
          date-own whole deck v (with_outstanding (with_phase k.tasks u phases.ToSend) u (Some a)) u ms
          (record z { phase = phases.ToSend; code = z.code; outstanding = Some a }) v.told at here
          (did-outstanding v (with_phase k.tasks u phases.ToSend) u (record z { phase = phases.ToSend; code = z.code })
          v.told here (did-phase v k.tasks u z v.told here did phases.ToSend) (Some a))
          (λ p k. k)
          (record {
            closed = λ e. absurd (cc);
            wanted = look-wanted d more k.star z.line (omega (arith, line)) lone;
            held = refl;
            coded = subst (AreCoded ms v.told u) (sym (look-passed d more k.star z.line)) before;
            units = subst (Each (HasUnit ms)) (sym recs) (h u ms at here).units;
            ended = λ e. absurd (cc);
          })
          h

    date-show : (d : Display) → AllDate whole deck (show (with_tasks n (with_line n.tasks u)) u d).node.tasks
    unfolding show
    date-show d = go d.home
      where
        go : (home : Option SysId)
            → AllDate whole deck
            (look_around (look_home (with_tasks n (with_line n.tasks u)) u d home).node u d d.count).tasks
        go None = date-around d (with_tasks n (with_line v u)) alone x1 did-next refl ready closed refl d.count
        go (Some s) =
            let rows : List Row = look n.own (Local u.system) d.filter in
            date-around d (with_tasks n (with_rows (with_line v u) u rows)) alone (record x1 { rows = x1.rows ++ rows })
            (did-rows v (with_line v u) u x1 v.told here did-next rows) refl ready closed refl d.count

    date-line : (l : Meaning) → slice_get ms y.line ≡ Some l
        → AllDate whole deck (take_line deck.limit (with_tasks n (with_line n.tasks u)) u l).node.tasks
    unfolding take_line
    date-line (lines.Enq r c ret unit) next =
        date-ask (with_line v u) x1 did-next (Enq r c ret (has_most deck.limit (with_line v u) u)) unit (record {
          closed = closed;
          wanted = unit_next;
          coded = subst (λ k. AreCoded ms v.told u k) (sym (back y.line)) done;
          units = (h u ms at here).units;
          phase = ap is_free ready;
        }) refl (λ wide. (omega arith, (unit_next, wide)))
      where
        unit_next : unit ≡ unit_of (slice_get ms (suc y.line - 1))
        unit_next = sym (ap unit_of (ap (slice_get ms) (back y.line) ∙ next))
    date-line (lines.Deq r have) next = date-ask (with_line v u) x1 did-next (Deq r have) None (record {
      closed = closed;
      wanted = tt;
      coded = subst (λ k. AreCoded ms v.told u k) (sym (back y.line)) done;
      units = (h u ms at here).units;
      phase = ap is_free ready;
    }) refl (λ wide. (omega arith, wide))
    date-line (lines.Wait r) next = date-wait r (record_of (state_of (with_line v u) u).records r) refl
    date-line (lines.Shows d) next = date-show d
    date-line lines.Nothing next =
        date-silent (with_line v u) x1 v.told did-next (λ p k. k)
        (done_next v.told (coded-silent ms v.told u y.line (ap has_code next) done)) closed refl
        (ap (λ p. is_kept p y.records) ready) (ap has_ended ready)

  -- one that is ending, and stands as x
  module _ (v0 : TasksView) (x : TaskState) (did : Did n.tasks v0 u x n.tasks.told) (c : ℕ)
      (ending : is_free x.phase ≡ true) (closed : x.outstanding ≡ None) (done : AreCoded ms n.tasks.told u x.line)
      (units : Each (HasUnit ms) x.records) where
    date-end : (xs : List Rec) → AllDate whole deck (end_step (with_tasks n v0) u c xs).node.tasks
    unfolding end_step
    date-end [] =
        let w = telling (with_phase v0 u phases.Ended) (told.Ended u c) in
        date-own whole deck v w u ms (record x { phase = phases.Ended }) (v.told ++ told.Ended u c ∷ []) at here
        (did-telling v (with_phase v0 u phases.Ended) u (record x { phase = phases.Ended }) v.told (told.Ended u c)
        (did-phase v v0 u x v.told here did phases.Ended))
        (λ p k. any-more p v.told _ k)
        (record {
          closed = λ e. closed;
          wanted = subst (IsWantedBy whole ms x.line) (sym closed) tt;
          held = refl;
          coded =
              subst (λ o. AreCoded ms (v.told ++ told.Ended u c ∷ []) u (passed_by o phases.Ended x.line)) (sym closed)
              (λ k low in_it asks. any-more (is_code_at u k) v.told _ (done k low in_it asks));
          units = units;
          ended = λ e. any-last (is_end_at u) v.told (told.Ended u c) place_own;
        }) h
    date-end (z ∷ xs) =
        date-ask v0 x did (Release z.res) None
        (record { closed = closed; wanted = tt; coded = done; units = units; phase = ending }) refl (λ wide. wide)

  -- whatever it does by its phase
  date-phase : (p : Phase) → (state_of n.tasks u).phase ≡ p
      → AllDate whole deck (phase_step deck.limit n u ms p).node.tasks
  unfolding phase_step ready_step
  date-phase phases.Ready e = go (slice_get ms (state_of v u).line) refl
    where
      go : (o : Option Meaning) → slice_get ms (state_of n.tasks u).line ≡ o
          → AllDate whole deck (ready_step deck.limit n u o).node.tasks
      go (Some l) next = date-line e l next
      go None none_left =
          let w = with_phase v u (phases.Ending 0) in
          let x : TaskState = record (state_of v u) { phase = phases.Ending 0; code = 0 } in
          date-end w x (did-phase v v u (state_of v u) v.told here (did-none v u) (phases.Ending 0)) 0 refl (closed e)
          (done e) (h u ms at here).units (state_of w u).records
  date-phase (phases.Ending c) e =
      let k = h u ms at here in
      let shut : (state_of v u).outstanding ≡ None = k.closed (ap is_unsent e) in
      date-end v (state_of v u) (did-none v u) c (ap is_free e) shut
      (subst (λ p. AreCoded ms v.told u (cond (is_at_line p) ((state_of v u).line - 1) (state_of v u).line)) e
      (subst (λ o. AreCoded ms v.told u (passed_by o (state_of v u).phase (state_of v u).line)) shut k.coded))
      k.units (state_of v u).records
  date-phase phases.HeldAnswer e = h
  date-phase (phases.HeldLine r) e = h
  date-phase phases.ToSend e = h
  date-phase phases.Sent e = h
  date-phase phases.Ended e = h

  pub date-task : AllDate whole deck (task_step deck.limit n u (Some ms)).node.tasks
  date-task = date-phase (state_of v u).phase refl
