use Rattle.std.proofs.Common.{◌∙◌}
use Rattle.grs_wire.specs.declared.deck.JobDef.{JobDef}
use Rattle.grs_deck.proofs.Last.{at_last-is}
use Rattle.grs_deck.proofs.places.tasks_now.Goals as goal

pub returns-in-Some : goal.returns-in-Some
returns-in-Some c =
    c.as_slice.ensures
    ∙ at_last-is (λ (j : JobDef). j.tasks) c.args.jobs.now c.in-Some.field-0-1.now c.in-Some.j.now
    c.in-Some.ensures.cases.0
