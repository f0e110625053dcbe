-- A run that is sound is shown by a report that shows one history.
use Rattle.std.proofs.Common.{◌≡◌, ◌≤◌, ℕ, zero, suc, ◌+◌, ◌-◌, ◌*◌, List, [], ◌∷◌, ◌++◌, length, take, drop, refl, ap}
use Rattle.std.proofs.Common.{sym, ◌∙◌, subst, arith, inl, inr, get_or}
use Rattle.std.proofs.Common.{append-nil, append_assoc, take-append-drop, length-append}
use Rattle.std.proofs.Math.Seq.{take-append_seam, take-length, drop-length, drop-append_seam}
use Rattle.std.proofs.lemmas.Bool.{and_parts, and_from, eq-eqb}
use Rattle.std.proofs.lemmas.List.{take-take, take_more, take_all}
use Rattle.std.proofs.lemmas.Option.{slice_get_cases}
use native.Mathlib.Decide.{dec_lt}
use Rattle.std.specs.Prelude.{◌<◌, ◌==◌, ◌⊎◌, Bool, true, false, cond, not, map, Option, Some, None, slice_get}
use Rattle.std.specs.List.{list_all, list_any}
use Rattle.grs_base.specs.declared.resource.SysId.{SysId}
use Rattle.grs_wire.specs.History.{answered, removes}
use Rattle.grs_wire.specs.declared.deck.Deck.{Deck}
use Rattle.grs_wire.specs.declared.deck.Event.{Event}
use Rattle.grs_wire.specs.declared.request.Fixed.{Fixed}
use Rattle.grs_wire.specs.declared.told.Told.{Told}
use Rattle.grs_world.specs.Agree.{Moment, Agrees, moment, AgreeAt, AllAgree, Sound, RemovalsTold, is_event_of}
use Rattle.grs_world.specs.InStar.{NoneTakesEntries}
use Rattle.grs_world.specs.Agree.{is_by_live, RemovedTellNothing}
use Rattle.grs_world.specs.World.{World, happens, placed, fixed_by, run_from, run, first_world, told}
use Rattle.grs_world.specs.Stopped.{cut, turn_of, left_behind, next_of, lap_from, live_count, lap, goes_lap, stopped}
use Rattle.grs_world.proofs.run.Each.{each_event}
use Rattle.grs_top.specs.Seen.{seen_of_run, report_of}
use Rattle.grs_top.proofs.Unread.{unread}
use Rattle.grs_top.specs.Schedules.{unscheduled}
use Rattle.grs_top.specs.Texts.{IsReported}
use Rattle.grs_top.specs.OneHistory.{moment_in, is_of_its_event, is_of_live, ShowsOneHistory, AnswersShowHistories}
use Rattle.grs_top.specs.declared.status.Status.{Status}
use Rattle.grs_top.specs.declared.words.Command.TheVariants.{Replay, Run, Lists, Analyze, Notices, Latch, Stop, Audit}

-- What was fixed stays fixed; behind an event it is more, by the event's system,
more_fixed : (deck : Deck) (w : World) (e : Event)
    → (more : List Fixed) × ((happens deck w e).fixed ≡ w.fixed ++ fixed_by e.system more)
unfolding placed
more_fixed deck w e =
    each_event deck w e (λ v. (more : List Fixed) × (v.fixed ≡ w.fixed ++ fixed_by e.system more))
    ([], sym (append-nil w.fixed)) (λ n at. (_, refl))

-- and behind many.
fixed-grows : (deck : Deck) (w : World) (es : List Event)
    → (more : List (SysId × Fixed)) × ((run_from deck w es).fixed ≡ w.fixed ++ more)
fixed-grows deck w [] = ([], sym (append-nil w.fixed))
fixed-grows deck w (e ∷ es) =
    let one = more_fixed deck w e in
    let others = fixed-grows deck (happens deck w e) es in (
      fixed_by e.system one.0 ++ others.0,
      others.1 ∙ ap (λ fs. fs ++ others.0) one.1 ∙ append_assoc w.fixed (fixed_by e.system one.0) others.0,
    )

run-append : (deck : Deck) (w : World) (xs ys : List Event)
    → run_from deck w (xs ++ ys) ≡ run_from deck (run_from deck w xs) ys
run-append deck w [] ys = refl
run-append deck w (x ∷ xs) ys = run-append deck (happens deck w x) xs ys

-- What the first events fixed is the first of what all fixed.
fixed-front : (deck : Deck) (xs ys : List Event)
    → take (length (run deck xs).fixed) (run deck (xs ++ ys)).fixed ≡ (run deck xs).fixed
fixed-front deck xs ys =
    let more = fixed-grows deck (run deck xs) ys in
    ap (take (length (run deck xs).fixed))
    (ap (λ (w : World). w.fixed) (run-append deck (first_world deck) xs ys) ∙ more.1)
    ∙ take-append_seam (run deck xs).fixed more.0

all_by : (s : SysId) (p : SysId × Fixed → Bool) (fs : List Fixed) → ((f : Fixed) → p (s, f) ≡ true)
    → list_all p (fixed_by s fs) ≡ true
all_by s p [] each = refl
all_by s p (f ∷ fs) each = and_from (p (s, f)) (list_all p (fixed_by s fs)) (each f) (all_by s p fs each)

all_same : (p q : Told → Bool) (xs : List Told) → ((x : Told) → p x ≡ q x) → list_all p xs ≡ true
    → list_all q xs ≡ true
all_same p q [] same h = refl
all_same p q (x ∷ xs) same h =
    let parts = and_parts (p x) (list_all p xs) h in
    and_from (q x) (list_all q xs) (sym (same x) ∙ parts.0) (all_same p q xs same parts.1)

module _ (deck : Deck) (es : List Event) where
  abbrev fronts : ℕ → ℕ
  fronts e = length (run deck (take e es)).fixed

  front : (e : ℕ) → take (fronts e) (run deck es).fixed ≡ (run deck (take e es)).fixed
  front e =
      subst (λ us. take (fronts e) (run deck us).fixed ≡ (run deck (take e es)).fixed) (take-append-drop e es)
      (fixed-front deck (take e es) (drop e es))

  fronts_rise : (e : ℕ) → fronts e ≤ fronts (e + 1)
  fronts_rise e =
      let sooner : take e (take (e + 1) es) ≡ take e es = take-take e (e + 1) es (omega arith) in
      let more = fixed-grows deck (run deck (take e (take (e + 1) es))) (drop e (take (e + 1) es)) in
      let whole : (run deck (take (e + 1) es)).fixed ≡ (run deck (take e es)).fixed ++ more.0 =
      ap (λ us. (run deck us).fixed) (sym (take-append-drop e (take (e + 1) es)))
      ∙ ap (λ (w : World). w.fixed)
      (run-append deck (first_world deck) (take e (take (e + 1) es)) (drop e (take (e + 1) es)))
      ∙ more.1
      ∙ ap (λ us. (run deck us).fixed ++ more.0) sooner in
      let lengths : fronts (e + 1) ≡ fronts e + length more.0 =
      ap length whole ∙ length-append (run deck (take e es)).fixed more.0 in
      omega (arith, lengths)

  -- what an event fixed is its own system's
  own_event : (e : ℕ) → list_all (is_of_its_event es e) (drop (fronts (e - 1)) (run deck (take e es)).fixed) ≡ true
  own_event e = by_number (dec_lt 0 e)
    where
      IsOwn : List Event → List Event → Type 0
      IsOwn xs ys = list_all (is_of_its_event es e) (drop (length (run deck xs).fixed) (run deck ys).fixed) ≡ true

      same_events : (xs : List Event) → IsOwn xs xs
      same_events xs =
          ap (λ (fs : List (SysId × Fixed)). list_all (is_of_its_event es e) fs) (drop-length (run deck xs).fixed)

      one_more : (x : Event) → slice_get es (e - 1) ≡ Some x → IsOwn (take (e - 1) es) (take (e - 1) es ++ x ∷ [])
      one_more x at =
          let more = more_fixed deck (run deck (take (e - 1) es)) x in
          let grown : (run deck (take (e - 1) es ++ x ∷ [])).fixed
          ≡ (run deck (take (e - 1) es)).fixed ++ fixed_by x.system more.0 =
          ap (λ (w : World). w.fixed) (run-append deck (first_world deck) (take (e - 1) es) (x ∷ [])) ∙ more.1 in
          ap (λ (fs : List (SysId × Fixed)).
          list_all (is_of_its_event es e) (drop (length (run deck (take (e - 1) es)).fixed) fs)) grown
          ∙ ap (λ (fs : List (SysId × Fixed)). list_all (is_of_its_event es e) fs)
          (drop-append_seam (run deck (take (e - 1) es)).fixed (fixed_by x.system more.0))
          ∙ all_by x.system (is_of_its_event es e) more.0
          (λ f. ap (is_event_of x.system) at ∙ eq-eqb x.system.0 x.system.0 refl)

      by_place : 0 < e
          → ((x : Event) × (e - 1 < length es) × (slice_get es (e - 1) ≡ Some x) × (get_or es (e - 1) x ≡ x))
          ⊎ ((length es ≤ e - 1) × (slice_get es (e - 1) ≡ None))
          → IsOwn (take (e - 1) es) (take e es)
      by_place some (inl (x, inside, at, is)) =
          let number : e ≡ e - 1 + 1 = omega arith in
          let whole : take e es ≡ take (e - 1) es ++ x ∷ [] =
          ap (λ n. take n es) number ∙ take_more es (e - 1) x inside ∙ ap (λ y. take (e - 1) es ++ y ∷ []) is in
          subst (IsOwn (take (e - 1) es)) (sym whole) (one_more x at)
      by_place some (inr (past, none)) =
          let all : take e es ≡ es = take_all e es (omega arith) in
          let before : take (e - 1) es ≡ es = take_all (e - 1) es past in
          subst (λ xs. IsOwn xs (take e es)) (sym before) (subst (IsOwn es) (sym all) (same_events es))

      by_number : Dec (0 < e) → IsOwn (take (e - 1) es) (take e es)
      by_number (yes some) = by_place some (slice_get_cases es (e - 1)).1
      by_number (no none) =
          let first : e ≡ 0 = omega arith in
          let start : take e es ≡ take (e - 1) es = ap (λ n. take n es) (first ∙ ap (λ n. n - 1) (sym first)) in
          subst (IsOwn (take (e - 1) es)) (sym start) (same_events (take (e - 1) es))

  silent_at : RemovedTellNothing deck es
      → list_all (is_of_live (run deck es).fixed fronts) (told deck es) ≡ true
  silent_at silent =
      all_same (is_by_live deck es) (is_of_live (run deck es).fixed fronts) (told deck es)
      (λ x. ap (λ (fs : List (SysId × Fixed)). not (list_any (removes x.system) (answered fs)))
      (sym (front (x.event - 1)))) silent

  moments : (e : ℕ) (before : List Told) → moment deck es e before ≡ moment_in (run deck es).fixed fronts e before
  moments e before =
      ap (λ (fs : List (SysId × Fixed)). let m : Moment = record {
        history = answered fs;
        fixed = drop (fronts (e - 1)) fs;
        before = before;
      } in m) (sym (front e))

  agree_at : (before xs : List Told) → AllAgree deck es before xs
      → AgreeAt deck (moment_in (run deck es).fixed fronts) before xs
  agree_at before [] a = tt
  agree_at before (x ∷ xs) a =
      (subst (λ m. Agrees deck m x) (moments x.event before) a.0, agree_at (before ++ x ∷ []) xs a.1)

  shows : Sound deck es → RemovedTellNothing deck es → ShowsOneHistory deck es (report_of deck es)
  unfolding report_of seen_of_run first_world
  shows sound silent = record {
    seen = seen_of_run deck es;
    text_is = refl;
    events = refl;
    fixed = (run deck es).fixed;
    fronts = fronts;
    history = refl;
    none = refl;
    rising = fronts_rise;
    all = ap (λ us. length (run deck us).fixed) (take-length es);
    own = λ e. subst (λ fs. list_all (is_of_its_event es e) (drop (fronts (e - 1)) fs) ≡ true) (sym (front e))
        (own_event e);
    legal = sound.legal;
    agree = agree_at [] (told deck es) sound.agree.lines;
    by_events = sound.agree.events;
    removals = λ e. subst (λ fs. RemovalsTold deck e (drop (fronts (e - 1)) fs) (told deck es)) (sym (front e))
        (sound.agree.removals e);
    silent = silent_at silent;
    queues = refl;
  }

reported_shows : (deck : Deck) (es : List Event) (out : List ℕ) (status : Status) → IsReported deck es out status
    → NoneTakesEntries deck es → ShowsOneHistory deck es out
reported_shows deck es out status r none =
    subst (ShowsOneHistory deck es) (sym r.whole) (shows deck es (r.sound none) r.silent)

-- A lap has Turns alone,
lap_turns : (deck : Deck) (most left : ℕ) (w : World) (at : Option SysId)
    → (turns : List SysId) × (lap_from deck most left w at ≡ map turn_of turns)
lap_turns deck zero left w at = ([], refl)
lap_turns deck (suc most) left w None = ([], refl)
lap_turns deck (suc most) left w (Some s) =
    let next = happens deck w (turn_of s) in
    let after = left_behind deck w s left in
    let others = lap_turns deck most after next (next_of after next) in
    (s ∷ others.0, ap (λ es. turn_of s ∷ es) others.1)

-- so behind the events that a system which stops leaves there are Turns alone.
only_turns : (deck : Deck) (s : SysId) (n : ℕ) (es : List Event)
    → (turns : List SysId) × (stopped deck s n es ≡ cut s n es ++ map turn_of turns)
only_turns deck s n es =
    let left : List Event = cut s n es in
    let w : World = run deck left in
    let turns = lap_turns deck (2 * live_count w) (live_count w) w (next_of (live_count w) w) in
    by left w turns (goes_lap s w)
  where
    by : (left : List Event) (w : World) (turns : (ts : List SysId) × (lap deck w ≡ map turn_of ts)) (goes : Bool)
        → (ts : List SysId) × (left ++ cond goes (lap deck w) [] ≡ left ++ map turn_of ts)
    by left w turns true = (turns.0, ap (λ fs. left ++ fs) turns.1)
    by left w turns false = ([], refl)

-- A deck without its schedule shows what the deck does.
pub report_shows : (deck : Deck) (es : List Event) (out : List ℕ) (status : Status)
    → IsReported (unscheduled deck) es out status → NoneTakesEntries (unscheduled deck) es → ShowsOneHistory deck es out
report_shows deck es out status r none =
    ((unread deck es).shows out).0 (reported_shows (unscheduled deck) es out status r none)

pub answers_show_histories : AnswersShowHistories
answers_show_histories Lists text out status a none = tt
answers_show_histories Analyze text out status a none = tt
answers_show_histories Notices text out status a none = tt
answers_show_histories Latch text out status a none = tt
answers_show_histories Audit text out status a none = tt
answers_show_histories Replay text out status a none =
    (a.input, a.spelled, report_shows a.input a.input.events out status a.is_text none)
answers_show_histories Run text out status a none = (
  a.input,
  a.spelled,
  (a.is_text.events, report_shows a.input a.is_text.events out status a.is_text.reported none),
)
answers_show_histories (Stop x) text out status a none =
    let s : SysId = a.is_text.system in
    let es : List Event = stopped (unscheduled a.input) s x.events a.input.events in
    let lap = only_turns (unscheduled a.input) s x.events a.input.events in
    let shown = report_shows a.input es out status a.is_text.reported none in (
      a.input,
      a.spelled.spelled,
      (s, a.is_text.named, (lap.0, subst (λ (fs : List Event). ShowsOneHistory a.input fs out) lap.1 shown)),
    )
