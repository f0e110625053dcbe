-- What is due for a text, by what its reading answers.
use Rattle.std.proofs.Common.{◌≡◌, ℕ, true, List, length, ap, sym, subst, ◌∙◌, inl, inr, Result, Ok, Err, IfOk, Some}
use Rattle.std.proofs.Common.{if◌then◌else◌}
use Rattle.grs_analyze.specs.Depends.{AreApart, ListsAreApart}
use Rattle.grs_analyze.specs.Text.{analysis_text}
use Rattle.deck_tasks.specs.Tasks.{tasks_of}
use Rattle.grs_base.specs.Rows.{rows_of}
use Rattle.grs_base.specs.declared.fault.DeckFault.{DeckFault}
use Rattle.grs_base.specs.declared.fault.ReadError.{ReadError}
use Rattle.grs_base.specs.declared.fault.ReadError.TheVariants as read_errors
use Rattle.grs_base.specs.declared.resource.SysId.{SysId}
use Rattle.grs_deck.specs.Faults.{IsFault, Answers as AnswersDeck}
use Rattle.grs_deck.specs.Places.{system_place}
use Rattle.grs_deck.specs.Spells.{SpellsDeck}
use Rattle.grs_enf.specs.Laws.{CodesTellNotices}
use Rattle.grs_enf.specs.Notices.{told_notices}
use Rattle.grs_enf.specs.Text.{notices_text}
use Rattle.grs_history.specs.Merge.{merged_steps}
use Rattle.grs_medium.specs.Medium.{MediumState}
use Rattle.latch_form.specs.Faults.{IsFault as IsFaultOfCalls, Answers as AnswersCalls}
use Rattle.grs_node.specs.Log.{NodeView}
use Rattle.grs_report.specs.Ends.{all_ended}
use Rattle.grs_report.specs.Report.{report}
use Rattle.std.proofs.lemmas.List.Elements.{All-nil}
use Rattle.grs_wire.specs.Decks.{AreOrders, IsBounded, IsDeck, IsEventOf}
use Rattle.grs_wire.proofs.DeckLaws.{bounded}
use Rattle.grs_wire.specs.declared.deck.Deck.{Deck as DeckValue}
use Rattle.grs_wire.specs.declared.deck.Event.{Event}
use Rattle.grs_wire.specs.declared.deck.SystemDef.{SystemDef}
use Rattle.grs_wire.specs.declared.history.HistEntry.{HistEntry}
use Rattle.grs_wire.specs.declared.medium.JEntry.{JEntry}
use Rattle.grs_base.specs.declared.resource.Row.{Row}
use Rattle.grs_base.specs.declared.resource.TaskId.{TaskId}
use Rattle.grs_wire.specs.History.{replay}
use Rattle.grs_wire.specs.declared.seen.Seen.{Seen}
use Rattle.grs_wire.specs.declared.seen.TaskEnd.{TaskEnd}
use Rattle.grs_workers.specs.Beside.{RanBeside, AllLast}
use Rattle.grs_world.specs.InStar.{NoneTakesEntries}
use Rattle.grs_world.specs.Agree.{Sound, RemovedTellNothing}
use Rattle.grs_world.specs.AtRest.{RestsInTheEnd}
use Rattle.grs_world.specs.Decks.{may_be_star, FitsStar}
use Rattle.grs_world.specs.Passed.{PassedIsTold}
use Rattle.grs_world.specs.Running.{at_rest}
use Rattle.grs_world.specs.Stopped.{stopped}
use Rattle.grs_world.specs.World.{first_world, run, hist}
use Rattle.grs_top.specs.Beside.{AllDo, logs_of, MergedRuns, MergedRests}
use Rattle.grs_top.specs.Commands.{InputOf, SpellsInput, IsFaultOf, IsTextOf}
use Rattle.grs_top.specs.Due.{fault_line, IsDue}
use Rattle.grs_top.specs.Schedules.{unscheduled}
use Rattle.grs_top.specs.StopWords.{StopValue}
use Rattle.grs_top.specs.Texts.{IsReported, IsRunToRest, IsAnalyzed, AreNoticed}
use Rattle.grs_top.specs.Seen.{seen_of_run, report_of, ending}
use Rattle.grs_top.specs.Tasks.{ends_at}
use Rattle.grs_top.specs.declared.due.Due.{Due}
use Rattle.grs_top.specs.declared.status.Status.{Status}
use Rattle.grs_top.specs.declared.status.Status.TheVariants.{Deck, Done, Waits}
use Rattle.grs_top.specs.declared.words.Command.{Command}
use Rattle.grs_top.specs.declared.words.Command.TheVariants.{Run, Stop}

pub answered_due : {E : Type 0} (c : Command) (text : List ℕ) (x : InputOf c) (r : Result Due E) → SpellsInput c text x
    → IfOk r (λ due. IsTextOf c x due.out due.status) → IfOk r (λ due. IsDue c text due.out due.status)
answered_due c text x (Ok due) spelled is_text = inr (record { input = x; spelled = spelled; is_text = is_text })
answered_due c text x (Err e) spelled is_text = tt

pub refused_due :
    {E : Type 0} (c : Command) (text : List ℕ) (error : ReadError) (r : Result Due E)
    → ((f : DeckFault) → error ≡ read_errors.Fault f → IsFaultOf c text f)
    → IfOk r (λ due. (f : DeckFault) × (error ≡ read_errors.Fault f) × (due.out ≡ fault_line f) × (due.status ≡ Deck))
    → IfOk r (λ due. IsDue c text due.out due.status)
refused_due c text error (Ok due) first refused =
    inl (
      record { first = refused.0; is_first = first refused.0 refused.1; line = refused.2 },
      refused.3,
    )
refused_due c text error (Err e) first refused = tt

-- what the reading of a deck answers tells its first fault
pub first_fault : (text : List ℕ) (error : ReadError) → AnswersDeck (Err error) text
    → (f : DeckFault) → error ≡ read_errors.Fault f → IsFault text f
first_fault text error exact f is = subst (λ (e : ReadError). AnswersDeck (Err e) text) is exact

-- and so does that of calls
pub first_call_fault : (text : List ℕ) (error : ReadError) → AnswersCalls (Err error) text
    → (f : DeckFault) → error ≡ read_errors.Fault f → IsFaultOfCalls text f
first_call_fault text error exact f is = subst (λ (e : ReadError). AnswersCalls (Err e) text) is exact

-- a deck without its schedule is a deck
pub bare_deck : (d : DeckValue) → IsDeck d → IsDeck (unscheduled d)
bare_deck d h = record {
  some = h.some;
  fits = h.fits;
  names = h.names;
  once = h.once;
  orders = h.orders;
  lines = h.lines;
  entries = h.entries;
  limit = h.limit;
  lists = h.lists;
  named = h.named;
  events = All-nil (IsEventOf d.systems d.entries);
}

-- what is written of a deck apart from its schedule is what the command writes for it
pub apart :
    {E : Type 0} (Is : DeckValue → List Event → List ℕ → Status → Type 0) (deck bare : DeckValue) (es : List Event)
    (r : Result Due E) → bare ≡ unscheduled deck → es ≡ deck.events → IfOk r (λ due. Is bare es due.out due.status)
    → IfOk r (λ due. Is (unscheduled deck) deck.events due.out due.status)
apart Is deck bare es (Ok due) is events done =
    subst (λ (d : DeckValue). Is d deck.events due.out due.status) is
    (subst (λ (xs : List Event). Is bare xs due.out due.status) events done)
apart Is deck bare es (Err e) is events done = tt

pub ran_apart :
    {E : Type 0} (deck bare : DeckValue) (r : Result Due E) → bare ≡ unscheduled deck
    → IfOk r (λ due. IsRunToRest bare due.out due.status) → IfOk r (λ due. IsTextOf Run deck due.out due.status)
ran_apart deck bare (Ok due) is done = subst (λ (d : DeckValue). IsRunToRest d due.out due.status) is done
ran_apart deck bare (Err e) is done = tt

-- ---- a system that stops
-- the events that are left are taken from the deck without its schedule
pub stopped_apart :
    {E : Type 0} (deck bare : DeckValue) (order lent left : List Event) (s : SysId) (n : ℕ) (r : Result Due E)
    → bare ≡ unscheduled deck → order ≡ deck.events → lent ≡ order → left ≡ stopped bare s n lent
    → IfOk r (λ due. IsReported bare left due.out due.status)
    → IfOk r (λ due. IsReported (unscheduled deck) (stopped (unscheduled deck) s n deck.events) due.out due.status)
stopped_apart deck bare order lent left s n (Ok due) is events same are done =
    subst (λ (d : DeckValue). IsReported d (stopped d s n deck.events) due.out due.status) is
    (subst (λ (es : List Event). IsReported bare es due.out due.status)
    (are ∙ ap (λ (es : List Event). stopped bare s n es) (same ∙ events)) done)
stopped_apart deck bare order lent left s n (Err e) is events same are done = tt

-- a deck that has the system is answered by the report of the run in which it stops
pub stopped_due :
    {E : Type 0} (x : StopValue) (text : List ℕ) (deck : DeckValue) (s : SysId) (lent : List SystemDef) (name : List ℕ)
    (n : ℕ) (r : Result Due E) → SpellsDeck text deck → lent ≡ deck.systems → name ≡ x.name → n ≡ x.events
    → Some s.0 ≡ system_place lent name
    → IfOk r (λ due. IsReported (unscheduled deck) (stopped (unscheduled deck) s n deck.events) due.out due.status)
    → IfOk r (λ due. IsDue (Stop x) text due.out due.status)
stopped_due x text deck s lent name n (Ok due) spelled same is are found done =
    let named : system_place deck.systems x.name ≡ Some s.0 =
    ap (λ (ds : List SystemDef). system_place ds x.name) (sym same) ∙ ap (system_place lent) (sym is) ∙ sym found in
    let reported :
    IsReported (unscheduled deck) (stopped (unscheduled deck) s x.events deck.events) due.out due.status =
    subst (λ (k : ℕ). IsReported (unscheduled deck) (stopped (unscheduled deck) s k deck.events) due.out due.status) are
    done in
    inr (
    record {
      input = deck;
      spelled = record { spelled = spelled; place = s.0; named = named };
      is_text = record { system = s; named = named; reported = reported };
    }
    )
stopped_due x text deck s lent name n (Err e) spelled same is are found done = tt

-- ---- the report of a run, by what is seen of it

-- what holds of every run that removes no system in star mode, of a deck that keeps its bounds and whose desks order
-- what they may
abbrev OfRuns : (DeckValue → List Event → Type 0) → Type 0
OfRuns P =
    (deck : DeckValue) → (may_be_star deck ≡ true → FitsStar deck) → AreOrders (length deck.systems) 0 deck.systems
    → (es : List Event) → NoneTakesEntries deck es → P deck es

of_deck : (P : DeckValue → List Event → Type 0) → OfRuns P → (d : DeckValue) → IsDeck d → (es : List Event)
    → NoneTakesEntries d es → P d es
of_deck P holds d whole es none =
    holds d (λ star. record { few = whole.fits.few; entries = whole.entries }) whole.orders es none

pub replay_due : {E : Type 0} (d : DeckValue) (es : List Event) (seen : Seen) (r : Result Due E) → IsDeck d
    → OfRuns Sound → OfRuns PassedIsTold → ((deck : DeckValue) (es : List Event) → RemovedTellNothing deck es)
    → seen ≡ seen_of_run d es
    → IfOk r (λ due. due.out ≡ report d seen)
    → IfOk r (λ due. due.status ≡ (if all_ended seen.ended then Done else Waits))
    → IfOk r (λ due. IsReported d es due.out due.status)
unfolding report_of ending
replay_due d es seen (Ok due) whole sound passed silent is out status = record {
  whole = out ∙ ap (report d) is;
  ends = status ∙ ap (λ (x : Seen). if all_ended x.ended then Done else Waits) is;
  sound = of_deck Sound sound d whole es;
  passed = of_deck PassedIsTold passed d whole es;
  silent = silent d es;
}
replay_due d es seen (Err e) whole sound passed silent is out status = tt

-- ---- other texts of a run, by its history and the end of each task
ends_so : (d : DeckValue) (es : List Event) (ended lent : List (TaskId × TaskEnd)) (status : Status)
    → ended ≡ ends_at (run d es).medium.removed (run d es).nodes (tasks_of d) → lent ≡ ended
    → status ≡ (if all_ended lent then Done else Waits) → status ≡ ending d es
unfolding ending seen_of_run
ends_so d es ended lent status stand same ends =
    ends ∙ ap (λ (x : List (TaskId × TaskEnd)). if all_ended x then Done else Waits) (same ∙ stand)

pub analyzed_of :
    (d : DeckValue) (es : List Event) (hs slice : List HistEntry) (rows : List Row)
    (ended lent : List (TaskId × TaskEnd)) (out : List ℕ) (status : Status) → IsDeck d → OfRuns Sound → hs ≡ hist d es
    → ended ≡ ends_at (run d es).medium.removed (run d es).nodes (tasks_of d) → slice ≡ hs → lent ≡ ended
    → rows ≡ rows_of (replay d.limit slice) → out ≡ analysis_text d rows
    → status ≡ (if all_ended lent then Done else Waits) → IsAnalyzed d es out status
analyzed_of d es hs slice rows ended lent out status whole sound is stand shared same left written ends = record {
  whole =
      written
      ∙ ap (analysis_text d) (left ∙ ap (λ (xs : List HistEntry). rows_of (replay d.limit xs)) (shared ∙ is));
  ends = ends_so d es ended lent status stand same ends;
  sound = of_deck Sound sound d whole es;
}

pub noticed_of :
    (d : DeckValue) (es : List Event) (hs slice : List HistEntry) (ended lent : List (TaskId × TaskEnd)) (out : List ℕ)
    (status : Status) → IsDeck d → OfRuns Sound → CodesTellNotices → hs ≡ hist d es
    → ended ≡ ends_at (run d es).medium.removed (run d es).nodes (tasks_of d) → slice ≡ hs → lent ≡ ended
    → out ≡ notices_text d (told_notices slice) → status ≡ (if all_ended lent then Done else Waits)
    → AreNoticed d es out status
noticed_of d es hs slice ended lent out status whole sound codes is stand shared same written ends = record {
  whole = written ∙ ap (λ (xs : List HistEntry). notices_text d (told_notices xs)) (shared ∙ is);
  legal = λ none. codes d (hist d es) (of_deck Sound sound d whole es none).legal;
  ends = ends_so d es ended lent status stand same ends;
  sound = of_deck Sound sound d whole es;
}

-- the lists that a history leaves may be analyzed
pub rows_apart : (limit : ℕ) (hs : List HistEntry) (rows : List Row) → ListsAreApart → rows ≡ rows_of (replay limit hs)
    → AreApart rows
rows_apart limit hs rows apart_lists is = subst AreApart (sym is) (apart_lists limit hs)

pub run_due :
    {E : Type 0} (d : DeckValue) (m : MediumState) (journal slice : List JEntry) (vs : List NodeView) (seen : Seen)
    (r : Result Due E)
    → IsDeck d
    → OfRuns Sound → OfRuns PassedIsTold → ((deck : DeckValue) (es : List Event) → RemovedTellNothing deck es)
    → MergedRuns → MergedRests
    → ((deck : DeckValue) → IsBounded deck → (es : List Event) → NoneTakesEntries deck es → RestsInTheEnd deck es)
    → RanBeside d m journal vs
    → AllLast d journal → slice ≡ journal → seen.events ≡ (merged_steps slice (logs_of vs)).events
    → seen ≡ seen_of_run d seen.events
    → IfOk r (λ due. due.out ≡ report d seen)
    → IfOk r (λ due. due.status ≡ (if all_ended seen.ended then Done else Waits))
    → IfOk r (λ due. IsRunToRest d due.out due.status)
unfolding report_of ending
run_due d m journal slice vs seen (Ok due) whole sound passed silent runs rests kept ran last lent made is out status =
    let events : seen.events ≡ (merged_steps journal (logs_of vs)).events =
    made ∙ ap (λ (j : List JEntry). (merged_steps j (logs_of vs)).events) lent in
    let rest : at_rest d (run d seen.events) ≡ true =
    ap (λ (es : List Event). at_rest d (run d es)) events ∙ rests d m journal vs whole.some ran last in
    record {
      events = seen.events;
      all_do = subst (λ (es : List Event). AllDo d (first_world d) es) (sym events) (runs d m journal vs ran).all_do;
      reported = record {
        whole = out ∙ ap (report d) is;
        ends = status ∙ ap (λ (x : Seen). if all_ended x.ended then Done else Waits) is;
        sound = of_deck Sound sound d whole seen.events;
        passed = of_deck PassedIsTold passed d whole seen.events;
        silent = silent d seen.events;
      };
      rest = rest;
      nothing_lost = λ none. kept d (bounded d whole) seen.events none rest;
    }
run_due d m journal slice vs seen (Err e) whole sound passed silent runs rests kept ran last lent made is out status =
    tt
