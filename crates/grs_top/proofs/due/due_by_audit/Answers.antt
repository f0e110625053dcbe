use Rattle.std.proofs.Common.{◌≡◌, List, ℕ, inl, inr, subst, refl, arith}
use Rattle.grs_audit.specs.Halves.{Audited, SpellsAudited}
use Rattle.grs_deck.specs.Faults.{IsFault}
use Rattle.grs_deck.specs.Spells.{SpellsDeck}
use Rattle.grs_top.proofs.DueLemmas.{answered_due, refused_due, first_fault}
use Rattle.grs_top.specs.declared.words.Command.TheVariants.{Audit}
use Rattle.grs_top.proofs.due.due_by_audit.Goals as goal

pub returns-in-Ok : goal.returns-in-Ok
returns-in-Ok c =
    let x : Audited = record {
      deck = c.in-Ok.deck;
      report = c.halves_of-halves.result.report.now;
      first = c.halves_of-halves.result.first;
    } in
    let spelled : SpellsAudited c.args.text.now x = record {
      short = omega (arith, c.if-text-gt-MOST_AUDITED_BYTES.false);
      deck = subst (λ (t : List ℕ). SpellsDeck t c.in-Ok.deck) c.halves_of-halves.ensures.deck c.in-Ok.ensures.exact.0;
      report = c.halves_of-halves.ensures.report;
      first = c.halves_of-halves.ensures.first;
    } in
    answered_due Audit c.args.text.now x c.judged.result spelled c.judged.ensures

pub returns-in-Err : goal.returns-in-Err
returns-in-Err c =
    refused_due Audit c.args.text.now c.in-Err.error c.refused-in-Err.result
    (λ f is. inr (
      omega (arith, c.if-text-gt-MOST_AUDITED_BYTES.false),
      subst (λ (t : List ℕ). IsFault t f) c.halves_of-halves.ensures.deck
          (first_fault c.halves_of-halves.result.deck.now c.in-Err.error c.in-Err.ensures.exact f is),
    ))
    c.refused-in-Err.ensures

pub judged-requires-clause-deck : goal.judged-requires-clause-deck
judged-requires-clause-deck c = c.in-Ok.ensures.whole

pub judged-requires-clause-few : goal.judged-requires-clause-few
judged-requires-clause-few c = c.halves_of-halves.ensures.few
