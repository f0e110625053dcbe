use Rattle.std.proofs.Common.{List, ap, sym, subst, ◌∙◌}
use Rattle.grs_wire.specs.Decks.{Fits}
use Rattle.grs_wire.specs.declared.deck.SystemDef.{SystemDef}
use Rattle.grs_deck.specs.Places.{system_at}
use Rattle.grs_track.specs.Tracks.{view_of}
use Rattle.grs_audit.specs.Lines.{behind}
use Rattle.grs_audit.specs.Words.{next_of_task, next_by_line, removal_of}
use Rattle.grs_audit.proofs.AskLaws.{as_next, word-of, rest-of, by-none, by-task, by-removal}
use Rattle.grs_audit.proofs.asker.next_by_line.Goals as goal

pub system_at-requires : goal.system_at-requires
system_at-requires c = subst Fits (sym c.as_slice.ensures) c.requires.fits

pub task_of-requires : goal.task_of-requires
task_of-requires c = c.in-Some.ensures.within

pub removal_of-requires : goal.removal_of-requires
removal_of-requires c = c.requires.fits

pub returns-then-holds : goal.returns-then-holds
returns-then-holds c =
    as_next c.next_of_task.result (next_of_task (view_of c.args.tracks.now) c.task_of.result)
    (next_by_line (view_of c.args.tracks.now) c.args.line.now) c.next_of_task.ensures
    (by-task (view_of c.args.tracks.now) c.args.line.now c.cut-3.result.0.now c.cut-4.result.0.now
    c.as_slice.result.now (c.as_slice.ensures ∙ ap (λ d. d.systems) (sym c.requires.deck))
    (word-of c.args.line.now c.cut.result.1.now c.cut-2.result.1.now c.cut-3.result.0.now c.cut.ensures.behind
    c.cut-2.ensures.behind c.cut-3.ensures.front) c.cut-4.ensures.front c.in-Some.id c.in-Some.found.now
    c.in-Some.ensures.at c.holds.result c.task_of.result c.holds.ensures c.if-holds.true c.task_of.ensures)

pub returns-else-holds : goal.returns-else-holds
returns-else-holds c =
    c.removal_of.ensures
    ∙ ap (λ (xs : List SystemDef). removal_of (view_of c.args.tracks.now) c.in-Some.id
    (system_at xs (behind 32 c.cut-3.result.1.now))) (ap (λ d. d.systems) (sym c.requires.deck))
    ∙ by-removal (view_of c.args.tracks.now) c.args.line.now c.cut-3.result.0.now c.cut-4.result.0.now
    c.as_slice.result.now (c.as_slice.ensures ∙ ap (λ d. d.systems) (sym c.requires.deck))
    (word-of c.args.line.now c.cut.result.1.now c.cut-2.result.1.now c.cut-3.result.0.now c.cut.ensures.behind
    c.cut-2.ensures.behind c.cut-3.ensures.front) c.cut-4.ensures.front c.in-Some.id c.in-Some.found.now
    c.in-Some.ensures.at c.holds.result c.cut-3.result.1.now c.holds.ensures c.if-holds.false
    (rest-of c.args.line.now c.cut.result.1.now c.cut-2.result.1.now c.cut-3.result.1.now c.cut.ensures.behind
    c.cut-2.ensures.behind c.cut-3.ensures.behind)

pub returns-in-None : goal.returns-in-None
returns-in-None c =
    by-none (view_of c.args.tracks.now) c.args.line.now c.cut-3.result.0.now c.cut-4.result.0.now
    c.as_slice.result.now (c.as_slice.ensures ∙ ap (λ d. d.systems) (sym c.requires.deck))
    (word-of c.args.line.now c.cut.result.1.now c.cut-2.result.1.now c.cut-3.result.0.now c.cut.ensures.behind
    c.cut-2.ensures.behind c.cut-3.ensures.front) c.cut-4.ensures.front c.in-None.ensures.at
