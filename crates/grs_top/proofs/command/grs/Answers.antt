use Rattle.std.proofs.Common.{refl}
use Rattle.grs_top.proofs.command.grs.Goals as goal

pub returns-in-Some-OfText-clause-invocation : goal.returns-in-Some-OfText-clause-invocation
returns-in-Some-OfText-clause-invocation g c =
    rw (← c.in-Some-OfText.ensures, c.in-Some-OfText.field-0-is)
    (c.of_text.ensures.answer, c.of_text.ensures.named)

pub returns-in-Some-OfText-clause-words : goal.returns-in-Some-OfText-clause-words
returns-in-Some-OfText-clause-words g c = rw (← c.in-Some-OfText.ensures) tt

pub returns-in-Some-OfText-clause-unread : goal.returns-in-Some-OfText-clause-unread
returns-in-Some-OfText-clause-unread g c = rw (← c.in-Some-OfText.ensures) tt

pub returns-in-Some-OfText-clause-unwritten : goal.returns-in-Some-OfText-clause-unwritten
returns-in-Some-OfText-clause-unwritten g c = rw (← c.in-Some-OfText.ensures) tt

pub returns-in-None-clause-invocation : goal.returns-in-None-clause-invocation
returns-in-None-clause-invocation g c = rw (← c.in-None.ensures) tt

pub returns-in-None-clause-words : goal.returns-in-None-clause-words
returns-in-None-clause-words g c = rw (← c.in-None.ensures) refl

pub returns-in-None-clause-unread : goal.returns-in-None-clause-unread
returns-in-None-clause-unread g c = rw (← c.in-None.ensures) (refl, refl)

pub returns-in-None-clause-unwritten : goal.returns-in-None-clause-unwritten
returns-in-None-clause-unwritten g c = rw (← c.in-None.ensures) (refl, refl)
