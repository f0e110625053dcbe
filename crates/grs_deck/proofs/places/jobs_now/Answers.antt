use Rattle.std.proofs.Common.{◌∙◌}
use Rattle.grs_wire.specs.declared.deck.SystemDef.{SystemDef}
use Rattle.grs_deck.proofs.Last.{at_last-is}
use Rattle.grs_deck.proofs.places.jobs_now.Goals as goal

pub returns-in-Some : goal.returns-in-Some
returns-in-Some c =
    c.as_slice.ensures
    ∙ at_last-is (λ (s : SystemDef). s.jobs) c.args.systems.now c.in-Some.field-0-1.now c.in-Some.s.now
    c.in-Some.ensures.cases.0
