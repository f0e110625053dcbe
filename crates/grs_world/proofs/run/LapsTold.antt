-- An answer is told last: by an event that tells a task an answer, every other system has processed its requests, and
-- the event puts no request of that task in.
use Rattle.grs_world.proofs.Common.{[], ◌++◌, ◌+◌, ◌==◌, ◌||◌, ◌∙◌, ◌∷◌, ◌≡◌, among-front, and_parts, ap, append-nil}
use Rattle.grs_world.proofs.Common.{arith, askers, Bodies, Bool, Choice, cond, counted, Deck, departed, drop}
use Rattle.grs_world.proofs.Common.{drop-append_seam, entries_some, eq-eqb, eqb-true, Event, false, filter-append}
use Rattle.grs_world.proofs.Common.{filter-cons_kept, first_world, FitsStar, Fixed, fixed_by, happens, has, has-live}
use Rattle.grs_world.proofs.Common.{HistEntry, history, is_among, is_line_of, is_unseen, IsHistory, items, length, List}
use Rattle.grs_world.proofs.Common.{list_all, list_any, live, LocalLook, lt-ltb, may_be_star, MediumState, Message}
use Rattle.grs_world.proofs.Common.{most_additions, nat_lt, no_truth, NodeState, None, or_left, or_other, or_right}
use Rattle.grs_world.proofs.Common.{own_asked, own_requests, Purged, put_in, read_entries, refl, Req, Request, RingBody}
use Rattle.grs_world.proofs.Common.{RingEntry, run, RunItem, Said, same_task, same_task-exact, same_task-itself}
use Rattle.grs_world.proofs.Common.{slice_get, slice_get_within, Some, stands_at, StarPart, Step, subst, sym, SysId}
use Rattle.grs_world.proofs.Common.{take, TaskId, Told, told, told_by, told_in, ToldBy, ToldLine, ToldNews, true}
use Rattle.grs_world.proofs.Common.{Turnout, unseen, World, ℕ}
use Rattle.grs_known.proofs.system.Askers.{askers-append}
use Rattle.rsa_message.proofs.Stands.{body_of}
use Rattle.grs_wire.specs.declared.request.Fixed.TheVariants.{Asked}
use Rattle.grs_known.proofs.told.News.{told-fewer}
use Rattle.rsa_message.proofs.OrderLaws.{stands_at-exact}
use Rattle.grs_world.specs.Laps.{LeftHome, answers, AnsweredLast}
use Rattle.grs_world.proofs.message.LapsMessage.{EndsAtHome, AllEndAtHome, left_at_home}
use Rattle.grs_world.proofs.run.Answered.{Answered, answered-by, left_turned, left_behind}
use Rattle.grs_world.proofs.run.Growing.{fixeds}
use Rattle.grs_world.proofs.run.Laps.{goes}
use Rattle.grs_world.proofs.run.Messages.{given-later}
use Rattle.grs_world.proofs.run.Outcomes.{turn_told}
use Rattle.grs_world.proofs.run.Runs.{GoodWorld}
use Rattle.grs_world.proofs.run.Each.{run-push}
use Rattle.grs_world.proofs.system.AtNode.{QuietStep, keeps, fixes, Seen}
use Rattle.grs_world.proofs.system.Quiet.{quiet}
use Rattle.grs_world.proofs.run.Home.{IsHome, AllHome, all_home}
use Rattle.grs_world.proofs.run.Desks.{EventTells, tells_already, tells_done, tells_lost, tells_no_such, tells_removed}
use Rattle.grs_world.proofs.run.Desks.{tells_tasks}
use Rattle.grs_world.proofs.move.Begin.{switched-moved}
use Rattle.grs_world.proofs.move.Decks.{order-may}
use Rattle.grs_world.proofs.system.Desks.{desk-told}
use Rattle.grs_world.proofs.run.Came.{Came, Result, acts-keep, no_part}
use Rattle.grs_world.proofs.run.Chosen.{each_came}
use Rattle.grs_world.proofs.run.GoesOn.{as_many}
use Rattle.grs_world.proofs.run.InRing.{CameInRing, IsRing, changed, each_in_ring, informed, is_ring, live-there}
use Rattle.grs_world.proofs.run.InRing.{no_such, nothing, purged-ring, removed_by, removes_one, told-ring, turn}
use Rattle.grs_world.proofs.run.InRing.{went_on}
use Rattle.grs_world.proofs.run.OwnLines.{TellsOwn, is_own, tells_own}
use Rattle.grs_world.proofs.gather.Unchanged.{Meets, by_itself, has_changed, meets_run}
use Rattle.grs_world.proofs.move.Sound.{ring_good}
use Rattle.grs_world.proofs.at_rest.Homes.{homes_run}
use Rattle.grs_world.proofs.run.Knowing.{known_run}
use Rattle.grs_world.proofs.run.Removals.{taken_out}
use Rattle.grs_world.proofs.run.Sound.{removed-told}
use Rattle.grs_world.proofs.run.Placed.{of_told}
use Rattle.grs_wire.specs.declared.told.ToldLine.TheVariants as lines
use Rattle.rsa_message.proofs.Stands as stands
use Rattle.grs_wire.specs.declared.told.Said.TheVariants as saids
use Rattle.grs_world.proofs.run.Came as any

-- ---- the entries of the message, one of them
home_of : (before behind : List RingEntry) (e : RingEntry) → AllHome (before ++ e ∷ behind) → IsHome e.from e.body
home_of [] behind e a = a.0
home_of (x ∷ before) behind e a = home_of before behind e a.1

ends_of : (live : ℕ) (before behind : List RingEntry) (e : RingEntry) → AllEndAtHome live (before ++ e ∷ behind)
    → EndsAtHome live e
ends_of live [] behind e a = a.0
ends_of live (x ∷ before) behind e a = ends_of live before behind e a.1

-- The request of a system's task that an entry is waits there.
among_bodies : (s : ℕ) (xs : List RunItem) (before behind : List RingEntry) (e : RingEntry) (q : Req)
    → Bodies (fixeds xs) (before ++ e ∷ behind) → e.body ≡ Request q → q.task.system.0 ≡ s
    → is_among q.task (askers (own_requests s xs)) ≡ true
among_bodies s [] [] behind e q b body home = elim b [ ]
among_bodies s [] (x ∷ before) behind e q b body home = elim b [ ]
among_bodies s (x ∷ xs) [] behind e q (stands.more is b) body home = at x.fixed (is ∙ ap Some body)
  where
    at : (f : Fixed) → body_of f ≡ Some (Request q)
        → is_among q.task (askers (own_asked s f ++ own_requests s xs)) ≡ true
    at (Asked p) k =
        let same : p ≡ q = cc in
        subst (λ (z : Req). is_among q.task (askers (own_asked s (Asked z) ++ own_requests s xs)) ≡ true) (sym same)
        (ap (λ c. is_among q.task (askers (cond c (q ∷ []) [] ++ own_requests s xs))) (eq-eqb q.task.system.0 s home)
        ∙ or_left (same_task q.task q.task) (is_among q.task (askers (own_requests s xs))) (same_task-itself q.task))
    at (LocalLook t g) k = absurd (cc)
    at (Purged target) k = absurd (cc)
among_bodies s (x ∷ xs) (y ∷ before) behind e q (stands.more is b) body home =
    ap (is_among q.task) (askers-append (own_asked s x.fixed) (own_requests s xs))
    ∙ later (askers (own_asked s x.fixed)) (among_bodies s xs before behind e q b body home)
  where
    later : (ts : List TaskId) → is_among q.task (askers (own_requests s xs)) ≡ true
        → is_among q.task (ts ++ askers (own_requests s xs)) ≡ true
    later [] h = h
    later (t ∷ ts) h = or_right (same_task q.task t) _ (later ts h)

-- ---- the lines told
answers_told : (t : TaskId) (k : ℕ) (c : SysId) (ls : List ToldLine)
    → list_any (λ x. answers t x.line) (told_by k c ls) ≡ list_any (answers t) ls
answers_told t k c [] = refl
answers_told t k c (l ∷ ls) = ap (λ b. answers t l || b) (answers_told t k c ls)

same_system : (s : ℕ) (t u : TaskId) → same_task t u ≡ true → (u.system.0 == s) ≡ true → t.system.0 ≡ s
same_system s t u same mine = ap (λ (x : TaskId). x.system.0) (same_task-exact t u same) ∙ eqb-true u.system.0 s mine

line_home : (s : ℕ) (t : TaskId) (l : ToldLine) → is_line_of s l ≡ true → answers t l ≡ true → t.system.0 ≡ s
line_home s t (lines.Coded u k part verb code) mine a = same_system s t u a mine
line_home s t (lines.Shown u k verb code rows) mine a = same_system s t u a mine
line_home s t (lines.Post u k) mine a = cc
line_home s t (lines.Ended u code) mine a = cc
line_home s t (lines.Desk k said) mine a = cc

lines_home : (s : ℕ) (t : TaskId) (ls : List ToldLine) → list_all (is_line_of s) ls ≡ true
    → list_any (answers t) ls ≡ true → t.system.0 ≡ s
lines_home s t [] mine a = cc
lines_home s t (l ∷ ls) mine a = go (answers t l) refl (lines_home s t ls (and_parts _ _ mine).1)
  where
    go : (b : Bool) → answers t l ≡ b → (list_any (answers t) ls ≡ true → t.system.0 ≡ s) → t.system.0 ≡ s
    go true is later = line_home s t l (and_parts _ _ mine).0 is
    go false is later = later (or_other (answers t l) (list_any (answers t) ls) a is)

-- lines of a desk answer no task
desk_answers : (t : TaskId) (k : ℕ) (said : Said) → list_any (answers t) (lines.Desk k said ∷ []) ≡ false
desk_answers t k said = refl

-- nor do they answer any but the system's own where it tells its own tasks besides
own_answered : (s : ℕ) (t : TaskId) (l : ToldLine) → is_own s l ≡ true → answers t l ≡ true → t.system.0 ≡ s
own_answered s t (lines.Coded u k part verb code) mine a = same_system s t u a mine
own_answered s t (lines.Shown u k verb code rows) mine a = same_system s t u a mine
own_answered s t (lines.Post u k) mine a = cc
own_answered s t (lines.Ended u code) mine a = cc
own_answered s t (lines.Desk k said) mine a = cc

own_home : (s : ℕ) (t : TaskId) (ls : List ToldLine) → list_all (is_own s) ls ≡ true
    → list_any (answers t) ls ≡ true → t.system.0 ≡ s
own_home s t [] mine a = cc
own_home s t (l ∷ ls) mine a = go (answers t l) refl (own_home s t ls (and_parts _ _ mine).1)
  where
    go : (b : Bool) → answers t l ≡ b → (list_any (answers t) ls ≡ true → t.system.0 ≡ s) → t.system.0 ≡ s
    go true is later = own_answered s t l (and_parts _ _ mine).0 is
    go false is later = later (or_other (answers t l) (list_any (answers t) ls) a is)

-- ---- one event
module _ (deck : Deck) (begins : deck.star ≡ false) (fits : may_be_star deck ≡ true → FitsStar deck) (es : List Event)
    (e : Event) where
  abbrev w : World
  w = run deck es

  abbrev s : ℕ
  s = e.system.0

  -- Only its own system has still to process an entry of this task.
  abbrev Last : TaskId → Type 0
  Last t = LeftHome t w.medium.message.entries

  -- Whoever was told an answer behind the world's lines has no entry that another system has still to process, before
  -- the event and behind it.
  abbrev RightIn : MediumState → List Told → Type 0
  RightIn m told =
      (t : TaskId) → list_any (λ x. answers t x.line) (drop (length w.told) told) ≡ true
      → Last t × LeftHome t m.message.entries

  abbrev Right : World → Type 0
  Right after = RightIn after.medium after.told

  abbrev RightBy : NodeState → Turnout → Type 0
  RightBy n o = RightIn o.medium (w.told ++ told_by (w.events + 1) e.system (told_in n o.step))

  its_system : (t : TaskId) → t.system.0 ≡ s → t.system ≡ e.system
  its_system t home = ap (λ (x : ℕ). let y : SysId = record { 0 = x } in y) home

  from_home : (t : TaskId) (entry : RingEntry) (q : Req) → entry.body ≡ Request q → q.task ≡ t
      → IsHome entry.from entry.body → entry.from.0 ≡ t.system.0
  from_home t entry q body same home =
      sym (subst (λ (b : RingBody). IsHome entry.from b) body home) ∙ ap (λ (u : TaskId). u.system.0) same

  -- So it is where the message stands at the task's system,
  at_home : stands_at w.medium.message.holder e.system ≡ true → (t : TaskId) → t.system.0 ≡ s → Last t
  at_home here t home before behind entry q is body same =
      let m = w.medium.message in
      let mine : IsHome entry.from entry.body =
      home_of before behind entry (subst AllHome is (all_home deck fits es)) in
      let from : entry.from ≡ t.system =
      ap (λ (x : ℕ). let y : SysId = record { 0 = x } in y) (from_home t entry q body same mine) in
      left_at_home m.systems t.system m.entries before behind entry q
      ((goes deck begins es).round.awaited t.system
      (stands_at-exact m.holder e.system here ∙ ap Some (sym (its_system t home))))
      is body from

  -- nobody was told an answer
  none_told : (m : MediumState) (told : List Told)
      → ((t : TaskId) → list_any (λ x. answers t x.line) (drop (length w.told) told) ≡ false) →
      (t : TaskId) → list_any (λ x. answers t x.line) (drop (length w.told) told) ≡ true
      → Last t × LeftHome t m.message.entries
  none_told m told none t a = absurd (let f : true ≡ false = sym a ∙ none t in cc)

  module _ (n : NodeState) (alive : has (live w.medium) e.system.0 ≡ true) (due : List RunItem)
      (given : Bodies (fixeds due) (unseen e.system w.medium.message.entries)) where
    -- and where the task has no request that its system has still to process.
    at_rest : (t : TaskId) → t.system.0 ≡ s → is_among t (askers (own_requests e.system.0 due)) ≡ false → Last t
    unfolding unseen
    at_rest t home none before behind entry q is body same u other =
        ends_of (live w.medium) before behind entry
        (subst (AllEndAtHome (live w.medium)) is (goes deck begins es).round.ends) q body
        (ap (has (live w.medium)) mine ∙ alive) (seen_by (has entry.mask entry.from.0) refl) u
      where
        mine : entry.from.0 ≡ e.system.0
        mine =
            from_home t entry q body same
            (home_of before behind entry (subst AllHome is (all_home deck fits es)))
            ∙ home

        split : is_unseen e.system entry ≡ true
            → unseen e.system w.medium.message.entries ≡ unseen e.system before ++ entry ∷ unseen e.system behind
        split left =
            ap (unseen e.system) is
            ∙ (filter-append (is_unseen e.system) before (entry ∷ behind)
            ∙ ap (λ xs. unseen e.system before ++ xs) (filter-cons_kept (is_unseen e.system) entry behind left))

        seen_by : (b : Bool) → has entry.mask entry.from.0 ≡ b → has entry.mask entry.from.0 ≡ false
        seen_by false m = m
        seen_by true m =
            let left : is_unseen e.system entry ≡ true = subst (λ (x : ℕ). has entry.mask x ≡ true) mine m in
            let among =
            among_bodies s due (unseen e.system before) (unseen e.system behind) entry q
            (subst (Bodies (fixeds due)) (split left) given) body (ap (λ (x : TaskId). x.system.0) same ∙ home) in
            no_truth (is_among t (askers (own_requests s due)))
            (subst (λ (x : TaskId). is_among x (askers (own_requests s due)) ≡ true) same among) none

    -- What was told in the event are these lines.
    told_now : (k : NodeState) (ls : List ToldLine) → k.tasks.told ≡ n.tasks.told ++ ls → (t : TaskId)
        → list_any (λ x. answers t x.line)
        (drop (length w.told) (w.told ++ told_by (w.events + 1) e.system (drop (length n.tasks.told) k.tasks.told)))
        ≡ list_any (answers t) ls
    told_now k ls is t =
        let new : drop (length n.tasks.told) k.tasks.told ≡ ls =
        ap (drop (length n.tasks.told)) is ∙ drop-append_seam n.tasks.told ls in
        let all :
        drop (length w.told) (w.told ++ told_by (w.events + 1) e.system (drop (length n.tasks.told) k.tasks.told))
        ≡ told_by (w.events + 1) e.system ls =
        drop-append_seam w.told _ ∙ ap (told_by (w.events + 1) e.system) new in
        ap (list_any (λ x. answers t x.line)) all ∙ answers_told t (w.events + 1) e.system ls

    -- a line of its desk, or nothing
    by_nothing : (o : Turnout) → o.step.node.tasks.told ≡ n.tasks.told → RightBy n o
    by_nothing o told =
        none_told o.medium (w.told ++ told_by (w.events + 1) e.system (told_in n o.step))
        (λ t. told_now o.step.node [] (told ∙ sym (append-nil n.tasks.told)) t)

    by_desk : (o : Turnout) (k : ℕ) (said : Said) → o.step.node.tasks.told ≡ n.tasks.told ++ lines.Desk k said ∷ []
        → RightBy n o
    by_desk o k said told =
        none_told o.medium (w.told ++ told_by (w.events + 1) e.system (told_in n o.step))
        (λ t. told_now o.step.node (lines.Desk k said ∷ []) told t ∙ desk_answers t k said)

    -- a task went on
    by_step : {H : List HistEntry} (step : Step)
        → ToldBy deck e.system.0 (own_requests e.system.0 due ++ step.node.outbox) H n.tasks.told step.node.tasks.told
        → RightBy n (record { medium = w.medium; step = step })
    by_step step told t a =
        let m = answered-by (told-fewer (λ u. among-front u (own_requests s due) step.node.outbox) told) in
        let answered = sym (told_now step.node m.lines m.is t) ∙ a in
        let last : Last t = at_rest t (lines_home s t m.lines m.ours answered) (m.clear t answered) in
        (last, last)

    by_quiet : (T before later : List RunItem) (step : Step)
        → QuietStep deck e.system.0 e.system T before later (own_requests e.system.0 due) n step
        → RightBy n (record { medium = w.medium; step = step })
    by_quiet T before later step (keeps none seen told) = by_step step told
    by_quiet T before later step (fixes f one alone may seen told) = by_step step told

    -- lines of its tasks, where each of its tasks has none
    by_lines : {H : List HistEntry} (o : Turnout) → ToldNews deck e.system.0 H n.tasks.told o.step.node.tasks.told
        → ((t : TaskId) → t.system.0 ≡ s → Last t × LeftHome t o.medium.message.entries) → RightBy n o
    by_lines o news each t a =
        each t (lines_home s t news.lines news.ours (sym (told_now o.step.node news.lines news.is t) ∙ a))

    -- lines of its desk, and lines that answer tasks of its own, where each of its tasks has none
    by_own : (o : Turnout) → TellsOwn e.system.0 n.tasks.told o.step.node.tasks
        → ((t : TaskId) → t.system.0 ≡ s → Last t × LeftHome t o.medium.message.entries) → RightBy n o
    by_own o tells each t a =
        each t (own_home s t tells.lines tells.own (sym (told_now o.step.node tells.lines tells.is t) ∙ a))

  -- ---- in ring mode
  module _ (ring : IsRing deck w) (g : GoodWorld deck es w) (n : NodeState) (at : slice_get w.nodes e.system.0 ≡ Some n)
      (there : has w.medium.removed e.system.0 ≡ false) where
    alive_here : has (live w.medium) e.system.0 ≡ true
    alive_here = live-there deck w ring s n at there

    given : Bodies (fixeds (g.later e.system.0)) (unseen e.system w.medium.message.entries)
    given = given-later w.medium e.system g.before (g.later s) (items w.fixed) (g.whole s) alive_here g.message

    right : (o : Turnout) → CameInRing deck w e.system n o → RightBy n o
    right o (nothing flags) = by_nothing n alive_here (g.later s) given o refl
    right o (informed known) = by_nothing n alive_here (g.later s) given o refl
    right o (removes_one target next lives) =
        by_desk n alive_here (g.later s) given o (n.done + 1) saids.VaryDone (removed-told n target)
    right o (no_such target next gone) =
        by_desk n alive_here (g.later s) given o (n.done + 1) saids.VaryNoSuch (desk-told n saids.VaryNoSuch)
    right o (went_on task may) =
        by_quiet n alive_here (g.later s) given (items w.fixed) (g.before s) (g.later s) o.step
        (quiet deck s e.system (items w.fixed) (g.before s) (g.later s) (own_requests s (g.later s)) n task g.history
        (g.systems s n at alive_here) may)
    right o (turn flags here) = λ t a.
        let out = take most_additions n.outbox in
        let after : NodeState =
        (put_in (read_entries deck n (unseen e.system w.medium.message.entries)) (length out)).node in
        let m : Answered s n.outbox n.tasks.told after.tasks.told =
        answered-by (turn_told deck e.system (items w.fixed) (g.before s) (g.later s) g.history (g.whole s) n
        (length out) (g.systems s n at alive_here) (unseen e.system w.medium.message.entries) given) in
        let answered = sym (told_now n alive_here (g.later s) given after m.lines m.is t) ∙ a in
        let last : Last t = at_home here t (lines_home s t m.lines m.ours answered) in (
          last,
          left_turned t e.system w.medium.message.next (live w.medium) most_additions n.outbox w.medium.message.entries
              last (m.clear t answered),
        )
    right o (changed next idle) =
        let f : FitsStar deck = fits (order-may deck n next) in
        let moved =
        switched-moved deck begins (entries_some deck.entries f.entries) f.few w ring g.history (taken_out deck es)
        g.before g.later g.whole g.message g.systems e.system n at there next idle (known_run deck es s n at) in
        changes (history (items (w.fixed ++ fixed_by e.system []))) o moved.news
      where
        changes : (H : List HistEntry) (x : Turnout)
            → EventTells deck e.system H x.step.fixed n x.step.node w.medium.star true → RightBy n x
        changes H x (tells_tasks news done mode) = absurd (let z : true ≡ false = mode ∙ ring.mode in cc)
        changes H x (tells_done next told done star was now) =
            by_desk n alive_here (g.later s) given x (n.done + 1) saids.StarDone told
        changes H x (tells_already next told done was now) =
            by_desk n alive_here (g.later s) given x (n.done + 1) saids.StarAlready told
        changes H x (tells_removed target next told done mode one) =
            absurd (let z : true ≡ false = mode ∙ ring.mode in cc)
        changes H x (tells_lost target next T1 first news done mode one) =
            absurd (let z : true ≡ false = mode ∙ ring.mode in cc)
        changes H x (tells_no_such target next told done mode gone) =
            absurd (let z : true ≡ false = mode ∙ ring.mode in cc)

  -- ---- once the medium is in star mode, whichever systems are removed
  module _ (star : w.medium.star ≡ true) (n : NodeState) (at : slice_get w.nodes e.system.0 ≡ Some n)
      (there : has w.medium.removed e.system.0 ≡ false) where
    alive_there : has (live w.medium) e.system.0 ≡ true
    alive_there =
        let here = slice_get_within w.nodes s n at in
        let below : nat_lt s w.medium.message.systems ≡ true =
        lt-ltb s w.medium.message.systems (omega (arith, here, as_many deck es, (goes deck begins es).around)) in
        has-live w.medium.message.systems w.medium.removed s ∙ rw (below, there) refl

    shut : w.medium.message.closed ≡ true
    shut = (goes deck begins es).closed star

    -- a system that has changed
    module _ (p : StarPart) (is : n.star ≡ Some p)
        (none : Bodies [] (unseen e.system w.medium.message.entries)) where
      nothing_left : (t : TaskId) → t.system.0 ≡ s → Last t
      nothing_left t home = at_rest n alive_there [] none t home refl

      -- It tells tasks of its own, none of which has a request that another system has still to process.
      tells : (o : Turnout) → TellsOwn e.system.0 n.tasks.told o.step.node.tasks
          → ((t : TaskId) → Last t → LeftHome t o.medium.message.entries) → RightBy n o
      tells o own still =
          by_own n alive_there [] none o own
          (λ t home. let last : Last t = nothing_left t home in (last, still t last))

      changed_right : (choice : Choice) (b : Result) (o : Turnout) → Came deck w.medium e.system n choice b o
          → TellsOwn e.system.0 n.tasks.told o.step.node.tasks → RightBy n o
      unfolding departed
      changed_right choice b o (any.nothing k r silent flags) own = tells o own (λ t last. last)
      changed_right choice b o (any.informed k) own = tells o own (λ t last. last)
      changed_right choice b o (any.went_on t may) own = tells o own (λ t last. last)
      changed_right choice b o (any.turn flags alone unclosed here) own = no_part n p is alone
      changed_right choice b o (any.last_turn flags alone closed here) own = no_part n p is alone
      changed_right choice b o (any.changed ring next seen) own = no_truth w.medium.star star ring
      changed_right choice b o (any.already mode next) own = tells o own (λ t last. last)
      changed_right choice b o (any.removes_one target ring next lives) own = no_truth w.medium.star star ring
      changed_right choice b o (any.removes_star target mode next lives) own =
          tells o own (λ t last. left_behind t target w.medium.message.entries last)
      changed_right choice b o (any.no_such target next gone) own = tells o own (λ t last. last)
      changed_right choice b o (any.acted q has k r x acts) own =
          tells o own (λ t last.
          subst (λ (m : Message). LeftHome t m.entries)
          (sym (acts-keep deck w.medium e.system n q k r x acts).message) last)

    -- one that hasn't
    module _ (alone : n.star ≡ None) (T before due : List RunItem) (legal : IsHistory deck T)
        (seen : Seen deck e.system.0 T before due (own_requests e.system.0 due) n)
        (given : Bodies (fixeds due) (unseen e.system w.medium.message.entries)) where
      waiting_right : (choice : Choice) (b : Result) (o : Turnout) → Came deck w.medium e.system n choice b o
          → TellsOwn e.system.0 n.tasks.told o.step.node.tasks → RightBy n o
      unfolding removed_by
      waiting_right choice b o (any.nothing k r silent flags) own = by_nothing n alive_there due given o refl
      waiting_right choice b o (any.informed k) own =
          by_nothing n alive_there due given o
          (ap (λ (z : NodeState). z.tasks.told) (told-ring deck n w.medium.removed alone))
      waiting_right choice b o (any.went_on t may) own =
          by_quiet n alive_there due given T before due o.step
          (quiet deck s e.system T before due (own_requests s due) n t legal seen may)
      waiting_right choice b o (any.turn flags apart unclosed here) own =
          no_truth w.medium.message.closed shut unclosed
      waiting_right choice b o (any.last_turn flags apart closed here) own =
          by_own n alive_there due given o own
          (λ t home. let last : Last t = at_home here t home in
          (last, left_behind t e.system w.medium.message.entries last))
      waiting_right choice b o (any.changed ring next idle) own = no_truth w.medium.star star ring
      waiting_right choice b o (any.already mode next) own =
          by_desk n alive_there due given o (n.done + 1) saids.StarAlready (desk-told n saids.StarAlready)
      waiting_right choice b o (any.removes_one target ring next lives) own = no_truth w.medium.star star ring
      waiting_right choice b o (any.removes_star target mode next lives) own =
          by_desk n alive_there due given o (n.done + 1) saids.VaryDone
          (ap (λ (z : Step). z.node.tasks.told) (purged-ring deck n target alone) ∙ removed-told n target)
      waiting_right choice b o (any.no_such target next gone) own =
          by_desk n alive_there due given o (n.done + 1) saids.VaryNoSuch (desk-told n saids.VaryNoSuch)
      waiting_right choice b o (any.acted q has k r x acts) own = no_part n q has alone

    star_right : (b : Result) (o : Turnout) → Came deck w.medium e.system n e.choice b o
        → Meets deck e.system w.medium.message.entries n → RightBy n o
    star_right b o came how =
        by_change how (tells_own deck w.medium e.system n e.choice b o came (homes_run deck es s n at))
      where
        by_change : Meets deck e.system w.medium.message.entries n
            → TellsOwn e.system.0 n.tasks.told o.step.node.tasks → RightBy n o
        by_change (has_changed p is nil) own = changed_right p is nil e.choice b o came own
        by_change (by_itself alone T before due legal seen given) own =
            waiting_right alone T before due legal seen given e.choice b o came own

  answers_right : Right (happens deck w e)
  answers_right = by_mode w.medium.star refl
    where
      idle : Right (counted w)
      idle t a =
          absurd (let f : true ≡ false =
          sym a
          ∙ ap (list_any (λ x. answers t x.line))
          (ap (drop (length w.told)) (sym (append-nil w.told)) ∙ drop-append_seam w.told []) in
          cc)

      by_mode : (b : Bool) → w.medium.star ≡ b → Right (happens deck w e)
      by_mode false mode =
          let ring : IsRing deck w = is_ring deck begins es mode in
          let g : GoodWorld deck es w = ring_good deck fits es mode in
          each_in_ring deck w e Right ring idle
          (λ n o at alive c. of_told w e.system n o RightIn (right ring g n at alive o c))
      by_mode true mode =
          each_came deck w e Right idle (λ n b o at alive came.
          of_told w e.system n o RightIn
          (star_right mode n at alive b o came (meets_run deck begins fits es s n at alive)))

pub answered_last : (deck : Deck) → deck.star ≡ false → (may_be_star deck ≡ true → FitsStar deck)
    → (es : List Event) (e : Event) → AnsweredLast deck es e
answered_last deck begins fits es e t a =
    subst (Right deck begins fits es e) (sym (run-push deck es (first_world deck) e))
    (answers_right deck begins fits es e) t a
