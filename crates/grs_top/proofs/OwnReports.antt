-- A deck with its own report behind it is answered Yes.
use Rattle.std.proofs.Common.{◌≡◌, ◌<◌, ◌≤◌, ◌^◌, ℕ, true, List, ◌++◌, length, refl, ap, sym, subst, ◌∙◌, arith}
use Rattle.std.proofs.Common.{length-append}
use Rattle.std.specs.Prelude.{All}
use Rattle.grs_audit.proofs.OwnHalves.{own-halves}
use Rattle.grs_audit.proofs.ReportLaws.{report-begins}
use Rattle.grs_audit.specs.Halves.{most_audited_bytes, report_at, deck_part, report_part, first_line, Audited}
use Rattle.grs_audit.specs.Reports.{ReportsAreYes}
use Rattle.grs_audit.specs.Text.{verdict_text}
use Rattle.grs_audit.specs.Verdicts.{IsVerdict}
use Rattle.grs_audit.specs.declared.verdict.Verdict.TheVariants.{Yes}
use Rattle.grs_deck.specs.Spells.{SpellsDeck}
use Rattle.grs_report.specs.Report.{report}
use Rattle.grs_wire.specs.Decks.{IsDeck, IsEventOf}
use Rattle.grs_wire.specs.declared.deck.Deck.{Deck}
use Rattle.grs_wire.specs.declared.deck.Event.{Event}
use Rattle.grs_world.specs.Stopped.{stopped}
use Rattle.grs_top.proofs.DueLemmas.{bare_deck}
use Rattle.grs_top.proofs.OneHistory.{report_shows}
use Rattle.grs_top.proofs.StoppedOf.{stopped_of_deck}
use Rattle.grs_top.specs.Due.{IsAnswered}
use Rattle.grs_top.specs.OneHistory.{ShowsOneHistory}
use Rattle.grs_top.specs.OwnReports.{IsWithoutReport, OwnReportsAreYes}
use Rattle.grs_top.specs.Schedules.{unscheduled, DoersAreOfDeck}
use Rattle.grs_top.specs.declared.status.Status.TheVariants.{Done}
use Rattle.grs_top.specs.declared.words.Command.TheVariants.{Replay, Run, Lists, Analyze, Notices, Latch, Stop, Audit}

module _
    (read : (text : List ℕ) (d : Deck) → SpellsDeck text d → IsDeck d) (yes : ReportsAreYes) (doers : DoersAreOfDeck)
  where
    shown_yes : (d : Deck) (es : List Event) (text out : List ℕ) → SpellsDeck text d → ShowsOneHistory d es out
        → All (IsEventOf d.systems d.entries) es → IsWithoutReport text → length (text ++ out) ≤ most_audited_bytes
        → IsAnswered Audit (text ++ out) (verdict_text Yes) Done
    shown_yes d es text out spelled shows of without short = record {
      input = audited;
      spelled = record {
        short = short;
        deck = subst (λ (t : List ℕ). SpellsDeck t d) (sym halves.0) spelled;
        report = sym halves.1;
        first = refl;
      };
      is_text = record {
        verdict = Yes;
        is = subst (λ (t : List ℕ). IsVerdict d t audited.first Yes) (sym shows.text_is)
            (yes d shows.seen audited.first (read text d spelled) shows.legal
            (subst (All (IsEventOf d.systems d.entries)) (sym shows.events) of) few);
        whole = refl;
        ends = refl;
      };
    }
      where
        audited : Audited
        audited = record { deck = d; report = out; first = first_line (text ++ out) }

        halves : (deck_part (text ++ out) ≡ text) × (report_part (text ++ out) ≡ out)
        halves =
            own-halves without.before text out without.ends without.none
            (ap (report_at true) shows.text_is ∙ report-begins d shows.seen)

        few : length (report d shows.seen) < 2 ^ 64
        few =
            let both = length-append text out in
            let same = ap length shows.text_is in
            omega (arith, both, same, short)

    pub own_reports_are_yes : OwnReportsAreYes
    own_reports_are_yes Replay text out status own a none without short =
        shown_yes a.input a.input.events text out a.spelled
        (report_shows a.input a.input.events out status a.is_text none) (read text a.input a.spelled).events without
        short
    own_reports_are_yes Run text out status own a none without short =
        shown_yes a.input a.is_text.events text out a.spelled
        (report_shows a.input a.is_text.events out status a.is_text.reported none)
        (doers (unscheduled a.input) a.is_text.events (bare_deck a.input (read text a.input a.spelled))
        a.is_text.all_do)
        without short
    own_reports_are_yes (Stop x) text out status own a none without short =
        let whole : IsDeck a.input = read text a.input a.spelled.spelled in
        let es : List Event = stopped (unscheduled a.input) a.is_text.system x.events a.input.events in
        shown_yes a.input es text out a.spelled.spelled (report_shows a.input es out status a.is_text.reported none)
        (stopped_of_deck (unscheduled a.input) (bare_deck a.input whole) a.is_text.system x.events a.input.events
        whole.events) without short
    own_reports_are_yes Lists text out status own a none without short = absurd own
    own_reports_are_yes Analyze text out status own a none without short = absurd own
    own_reports_are_yes Notices text out status own a none without short = absurd own
    own_reports_are_yes Latch text out status own a none without short = absurd own
    own_reports_are_yes Audit text out status own a none without short = absurd own
