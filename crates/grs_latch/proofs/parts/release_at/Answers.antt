use Rattle.std.proofs.Common.{◌≡◌, refl, sym, ◌∙◌, arith, Some, None}
use Rattle.std.specs.Prelude.{slice_get}
use Rattle.grs_base.specs.Lists.{standing_of}
use Rattle.grs_latch.specs.Latches.{release_code, released}
use Rattle.grs_latch.proofs.NumberLemmas.{among_at, code_at-some, code_at-absent, code_at-none, changed_at-absent, changed_at-none}
use Rattle.grs_latch.proofs.NumberLemmas.{lists_at-changed, release_grants-some, release_grants-absent, release_grants-none}
use Rattle.grs_latch.proofs.NumberLemmas.{ok-at, on-ok}
use Rattle.grs_latch.proofs.parts.release_at.Goals as goal

pub release_in-requires : goal.release_in-requires
release_in-requires g c =
    let at : slice_get c.args.numbers.now c.args.latch ≡ Some (Some c.in-Some-Some.queue) =
    grind (arith, c.queue_of.ensures, c.in-Some-Some.is, c.in-Some-Some.field-0-is) in
    record {
      live = c.requires.numbered.live c.in-Some-Some.queue
          (among_at c.args.numbers.now c.args.latch c.in-Some-Some.queue at);
    }

pub returns-in-Some-Some-clause-code : goal.returns-in-Some-Some-clause-code
returns-in-Some-Some-clause-code g c =
    let at : slice_get c.args.numbers.now c.args.latch ≡ Some (Some c.in-Some-Some.queue) =
    grind (arith, c.queue_of.ensures, c.in-Some-Some.is, c.in-Some-Some.field-0-is) in
    ok-at (λ told. told.0) c.release_in.result _ _ c.release_in.ensures.code
    (sym
    (code_at-some (λ es. release_code (standing_of es c.args.task)) c.args.numbers.now c.args.latch c.in-Some-Some.queue
    (g.Q.Queues.elements c.args.queues.now) at))

pub returns-in-Some-Some-clause-grants : goal.returns-in-Some-Some-clause-grants
returns-in-Some-Some-clause-grants g c =
    let at : slice_get c.args.numbers.now c.args.latch ≡ Some (Some c.in-Some-Some.queue) =
    grind (arith, c.queue_of.ensures, c.in-Some-Some.is, c.in-Some-Some.field-0-is) in
    ok-at (λ told. told.1) c.release_in.result _ _ c.release_in.ensures.grants
    (sym
    (release_grants-some c.args.set c.args.latch c.args.numbers.now c.args.latch c.in-Some-Some.queue
    (g.Q.Queues.elements c.args.queues.now) c.args.task at))

pub returns-in-Some-Some-clause-lists : goal.returns-in-Some-Some-clause-lists
returns-in-Some-Some-clause-lists g c =
    let at : slice_get c.args.numbers.now c.args.latch ≡ Some (Some c.in-Some-Some.queue) =
    grind (arith, c.queue_of.ensures, c.in-Some-Some.is, c.in-Some-Some.field-0-is) in
    on-ok c.release_in.result _ _ c.release_in.ensures.list (λ here.
    lists_at-changed (g.Q.Queues.elements c.args.queues.now) (g.Q.Queues.elements c.release_in.new.queues)
    c.in-Some-Some.queue c.release_in.ensures.others (λ es. released es c.args.task) c.args.numbers.now c.args.latch at
    c.requires.numbered.apart here)

pub returns-in-Some-None-clause-code : goal.returns-in-Some-None-clause-code
returns-in-Some-None-clause-code g c =
    let at : slice_get c.args.numbers.now c.args.latch ≡ Some None =
    grind (arith, c.queue_of.ensures, c.in-Some-None.is, c.in-Some-None.field-0-is) in
    sym
    (code_at-absent (λ es. release_code (standing_of es c.args.task)) c.args.numbers.now c.args.latch
    (g.Q.Queues.elements c.args.queues.now) at)

pub returns-in-Some-None-clause-grants : goal.returns-in-Some-None-clause-grants
returns-in-Some-None-clause-grants g c =
    let at : slice_get c.args.numbers.now c.args.latch ≡ Some None =
    grind (arith, c.queue_of.ensures, c.in-Some-None.is, c.in-Some-None.field-0-is) in
    c.new.ensures
    ∙ sym
    (release_grants-absent c.args.set c.args.latch c.args.numbers.now c.args.latch
    (g.Q.Queues.elements c.args.queues.now) c.args.task at)

pub returns-in-Some-None-clause-lists : goal.returns-in-Some-None-clause-lists
returns-in-Some-None-clause-lists g c =
    let at : slice_get c.args.numbers.now c.args.latch ≡ Some None =
    grind (arith, c.queue_of.ensures, c.in-Some-None.is, c.in-Some-None.field-0-is) in
    sym
    (changed_at-absent (λ es. released es c.args.task) c.args.numbers.now c.args.latch
    (g.Q.Queues.elements c.args.queues.now) at refl)

pub returns-in-None-clause-code : goal.returns-in-None-clause-code
returns-in-None-clause-code g c =
    sym
    (code_at-none (λ es. release_code (standing_of es c.args.task)) c.args.numbers.now c.args.latch
    (g.Q.Queues.elements c.args.queues.now) (sym c.queue_of.ensures ∙ c.in-None.is))

pub returns-in-None-clause-grants : goal.returns-in-None-clause-grants
returns-in-None-clause-grants g c =
    c.new-in-None.ensures
    ∙ sym
    (release_grants-none c.args.set c.args.latch c.args.numbers.now c.args.latch (g.Q.Queues.elements c.args.queues.now)
    c.args.task (sym c.queue_of.ensures ∙ c.in-None.is))

pub returns-in-None-clause-lists : goal.returns-in-None-clause-lists
returns-in-None-clause-lists g c =
    sym
    (changed_at-none (λ es. released es c.args.task) c.args.numbers.now c.args.latch
    (g.Q.Queues.elements c.args.queues.now) (sym c.queue_of.ensures ∙ c.in-None.is))
