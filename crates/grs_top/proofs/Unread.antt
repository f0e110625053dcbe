-- What is said of a run is said of it whatever schedule stands in its deck.
use Rattle.std.proofs.Common.{◌≡◌, ℕ, Bool, true, List, [], ◌∷◌, ◌++◌, length, take, drop, Option, None, Some, refl, ap}
use Rattle.std.proofs.Common.{sym, ◌∙◌, subst}
use Rattle.std.specs.Prelude.{◌&&◌, ◌||◌, ◌-◌, ◌==◌, not, if◌then◌else◌}
use Rattle.std.specs.List.{list_all, list_any}
use Rattle.deck_tasks.specs.Tasks.{tasks_of}
use Rattle.grs_base.specs.Rows.{rows_of}
use Rattle.grs_base.specs.declared.resource.SysId.{SysId}
use Rattle.grs_display.specs.Names.{names_of}
use Rattle.grs_known.proofs.lists.Facts.{all-kept}
use Rattle.grs_legal.specs.Legal.{Legal, LegalFrom, MayStand}
use Rattle.grs_report.specs.Ends.{all_ended}
use Rattle.grs_report.specs.Report.{report}
use Rattle.grs_wire.specs.History.{answered, removes, replay}
use Rattle.grs_wire.specs.declared.deck.Deck.{Deck}
use Rattle.grs_wire.specs.declared.deck.Event.{Event}
use Rattle.grs_wire.specs.declared.deck.Order.{Order}
use Rattle.grs_wire.specs.declared.deck.Order.TheVariants.{Star, Vary}
use Rattle.grs_wire.specs.declared.history.HistEntry.{HistEntry}
use Rattle.grs_wire.specs.declared.history.HistEntry.TheVariants.{Enq, Deq, Release, Look, Remove}
use Rattle.grs_wire.specs.declared.request.Fixed.{Fixed}
use Rattle.grs_wire.specs.declared.seen.Seen.{Seen}
use Rattle.grs_wire.specs.declared.told.Said.{Said}
use Rattle.grs_wire.specs.declared.told.Said.TheVariants.{StarDone, StarAlready, VaryDone, VaryNoSuch}
use Rattle.grs_wire.specs.declared.told.Told.{Told}
use Rattle.grs_wire.specs.declared.told.ToldLine.{ToldLine}
use Rattle.grs_wire.specs.declared.told.ToldLine.TheVariants.{Coded, Shown, Post, Ended, Desk}
use Rattle.grs_world.specs.Agree.{Moment, Agree, AgreeAt, Agrees, AgreesBy, HasCause, RemovalsTold, Sound, fixed_in}
use Rattle.grs_world.specs.Agree.{is_by_live, is_of_event, is_removal, moment, order_of, tells_removal}
use Rattle.grs_world.specs.Running.{units_of}
use Rattle.grs_world.specs.World.{World, hist, run, told}
use Rattle.grs_top.proofs.Bare.{run-bare}
use Rattle.grs_top.specs.OneHistory.{ShowsOneHistory}
use Rattle.grs_top.specs.Schedules.{unscheduled}
use Rattle.grs_top.specs.Seen.{report_of, ending, seen_of_run}
use Rattle.grs_top.specs.Tasks.{ends_at}
use Rattle.grs_top.specs.Unread.{ScheduleIsUnread}
use Rattle.grs_top.specs.declared.status.Status.TheVariants.{Done, Waits}

-- a deck with this schedule
abbrev scheduled : Deck → List Event → Deck
scheduled deck xs = record deck { events = xs }

module _ (d : Deck) (xs ys : List Event) where
  abbrev X : Deck
  X = scheduled d xs

  abbrev Y : Deck
  Y = scheduled d ys

  -- ---- runs
  run-any : (es : List Event) → run X es ≡ run Y es
  run-any es = sym (run-bare X es) ∙ run-bare Y es

  -- ---- legal histories
  stands-any : (front : List HistEntry) (h : HistEntry) → MayStand X front h → MayStand Y front h
  stands-any front (Enq t r c ret code) m = m
  stands-any front (Deq t r have code) m = m
  stands-any front (Release t r) m = m
  stands-any front (Look t place filter rows) m = m
  stands-any front (Remove by target) m =
      record { live = m.live; first = m.first; other = m.other; commanded = m.commanded }

  legal-from : (front hs : List HistEntry) → LegalFrom X front hs → LegalFrom Y front hs
  legal-from front [] l = tt
  legal-from front (h ∷ hs) l = (stands-any front h l.0, legal-from (front ++ h ∷ []) hs l.1)

  pub legal-any : (hs : List HistEntry) → Legal X hs → Legal Y hs
  legal-any hs l = legal-from [] hs l

  -- ---- what is told agrees
  cause-any : (m : Moment) (e : ℕ) (s : SysId) (o : Option Order) (said : Said) → HasCause X m e s o said
      → HasCause Y m e s o said
  cause-any m e s None said c = absurd c
  cause-any m e s (Some Star) StarDone c = c
  cause-any m e s (Some Star) StarAlready c = c
  cause-any m e s (Some Star) VaryDone c = c
  cause-any m e s (Some Star) VaryNoSuch c = c
  cause-any m e s (Some (Vary t)) StarDone c = c
  cause-any m e s (Some (Vary t)) StarAlready c = c
  cause-any m e s (Some (Vary t)) VaryDone c = c
  cause-any m e s (Some (Vary t)) VaryNoSuch c = c

  line-any : (m : Moment) (e : ℕ) (s : SysId) (l : ToldLine) → AgreesBy X m e s l → AgreesBy Y m e s l
  line-any m e s (Coded t k part verb code) a = a
  line-any m e s (Shown t k verb code rows) a = a
  line-any m e s (Post t k) a = a
  line-any m e s (Ended t code) a = a
  line-any m e s (Desk k said) a = (a.0, a.1, cause-any m e s (order_of Y s k) said a.2)

  agree-any : (ms ns : ℕ → List Told → Moment) → ((e : ℕ) (before : List Told) → ms e before ≡ ns e before)
      → (before lines : List Told) → AgreeAt X ms before lines → AgreeAt Y ns before lines
  agree-any ms ns same before [] a = tt
  agree-any ms ns same before (x ∷ lines) a = (
    subst (λ (m : Moment). Agrees Y m x) (same x.event before)
        (line-any (ms x.event before) x.event x.system x.line a.0),
    agree-any ms ns same (before ++ x ∷ []) lines a.1,
  )

  -- ---- removals are told
  removes-any : (s target : SysId) (l : ToldLine) → tells_removal X s target l ≡ tells_removal Y s target l
  removes-any s target (Coded t k part verb code) = refl
  removes-any s target (Shown t k verb code rows) = refl
  removes-any s target (Post t k) = refl
  removes-any s target (Ended t code) = refl
  removes-any s target (Desk k StarDone) = refl
  removes-any s target (Desk k StarAlready) = refl
  removes-any s target (Desk k VaryDone) = refl
  removes-any s target (Desk k VaryNoSuch) = refl

  found-any : (e : ℕ) (s target : SysId) (lines : List Told)
      → list_any (is_removal X e s target) lines ≡ list_any (is_removal Y e s target) lines
  found-any e s target [] = refl
  found-any e s target (x ∷ lines) =
      ap
      (λ (b : Bool). ((x.event == e) && ((x.system.0 == s.0) && b)) || list_any (is_removal X e s target) lines)
      (removes-any s target x.line)
      ∙ ap (λ (b : Bool). is_removal Y e s target x || b) (found-any e s target lines)

  told-any : (e : ℕ) (fixed : List (SysId × Fixed)) (lines : List Told) → RemovalsTold X e fixed lines
      → RemovalsTold Y e fixed lines
  told-any e fixed lines r s target p = sym (found-any e s target lines) ∙ r s target p

  -- ---- a sound run
  hist-any : (es : List Event) → hist X es ≡ hist Y es
  hist-any es = ap (λ (w : World). answered w.fixed) (run-any es)

  lines-any : (es : List Event) → told X es ≡ told Y es
  lines-any es = ap (λ (w : World). w.told) (run-any es)

  fixed-any : (es : List Event) (e : ℕ) → fixed_in X es e ≡ fixed_in Y es e
  fixed-any es e =
      ap (λ (w : World). drop (length w.fixed) (run X (take e es)).fixed) (run-any (take (e - 1) es))
      ∙ ap (λ (w : World). drop (length (run Y (take (e - 1) es)).fixed) w.fixed) (run-any (take e es))

  moment-any : (es : List Event) (e : ℕ) (before : List Told) → moment X es e before ≡ moment Y es e before
  moment-any es e before =
      ap
      (λ (h : List HistEntry). let m : Moment = record { history = h; fixed = fixed_in X es e; before = before } in m)
      (hist-any (take e es))
      ∙ ap
      (λ (fs : List (SysId × Fixed)).
      let m : Moment = record { history = hist Y (take e es); fixed = fs; before = before } in m)
      (fixed-any es e)

  live-any : (es : List Event) (x : Told) → is_by_live X es x ≡ true → is_by_live Y es x ≡ true
  live-any es x h =
      sym
      (ap (λ (hs : List HistEntry). not (list_any (removes x.system) hs)) (hist-any (take (x.event - 1) es)))
      ∙ h

  pub sound-any : (es : List Event) → Sound X es → Sound Y es
  sound-any es s = record {
    legal = subst (λ (h : List HistEntry). Legal Y h) (hist-any es) (legal-any (hist X es) s.legal);
    agree = record {
      lines =
          subst (λ (ls : List Told). AgreeAt Y (moment Y es) [] ls) (lines-any es)
          (agree-any (moment X es) (moment Y es) (moment-any es) [] (told X es) s.agree.lines);
      events = subst (λ (ls : List Told). list_all (is_of_event es) ls ≡ true) (lines-any es) s.agree.events;
      removals =
          λ e.
          subst (λ (fs : List (SysId × Fixed)). RemovalsTold Y e fs (told Y es)) (fixed-any es e)
          (subst (λ (ls : List Told). RemovalsTold Y e (fixed_in X es e) ls) (lines-any es)
          (told-any e (fixed_in X es e) (told X es) (s.agree.removals e)));
      silent =
          subst (λ (ls : List Told). list_all (is_by_live Y es) ls ≡ true) (lines-any es)
          (all-kept (is_by_live X es) (is_by_live Y es) (live-any es) (told X es) s.agree.silent);
    };
  }

  -- ---- a text
  pub shows-any : (es : List Event) (text : List ℕ) → ShowsOneHistory X es text → ShowsOneHistory Y es text
  unfolding report names_of
  shows-any es text s = record {
    seen = s.seen;
    text_is = s.text_is;
    events = s.events;
    fixed = s.fixed;
    fronts = s.fronts;
    history = s.history;
    none = s.none;
    rising = s.rising;
    all = s.all;
    own = s.own;
    legal = legal-any s.seen.hist s.legal;
    agree = agree-any _ _ (λ e before. refl) [] s.seen.told s.agree;
    by_events = s.by_events;
    removals = λ e. told-any e _ s.seen.told (s.removals e);
    silent = s.silent;
    queues = s.queues;
  }

-- ---- the report, and the end
seen-bare : (deck : Deck) (es : List Event) → seen_of_run (unscheduled deck) es ≡ seen_of_run deck es
unfolding seen_of_run
seen-bare deck es =
    ap
    (λ (w : World).
    let seen : Seen = record {
      events = es;
      hist = answered w.fixed;
      told = w.told;
      queues = rows_of (replay deck.limit (answered w.fixed));
      units = units_of w.nodes;
      words = w.medium.words;
      star = w.medium.star;
      ended = ends_at w.medium.removed w.nodes (tasks_of deck);
    } in seen)
    (run-bare deck es)

report-bare : (deck : Deck) (es : List Event) → report_of (unscheduled deck) es ≡ report_of deck es
unfolding report_of report names_of
report-bare deck es = ap (λ (seen : Seen). report deck seen) (seen-bare deck es)

ending-bare : (deck : Deck) (es : List Event) → ending (unscheduled deck) es ≡ ending deck es
unfolding ending
ending-bare deck es = ap (λ (seen : Seen). if all_ended seen.ended then Done else Waits) (seen-bare deck es)

pub unread : (deck : Deck) (es : List Event) → ScheduleIsUnread deck es
unread deck es = record {
  runs = run-bare deck es;
  report = report-bare deck es;
  ends = ending-bare deck es;
  sound = (λ s. sound-any deck [] deck.events es s, λ s. sound-any deck deck.events [] es s);
  legal = λ hs. (λ l. legal-any deck [] deck.events hs l, λ l. legal-any deck deck.events [] hs l);
  shows = λ text. (λ s. shows-any deck [] deck.events es text s, λ s. shows-any deck deck.events [] es text s);
}
