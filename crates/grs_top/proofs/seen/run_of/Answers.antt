use Rattle.std.proofs.Common.{refl}
use Rattle.grs_top.proofs.seen.run_of.Goals as goal

pub returns-clause-hist : goal.returns-clause-hist
returns-clause-hist c =
    rw (
      c.in_ok-hist.ensures,
      c.as_slice.ensures,
      c.into_log-log.ensures.fixed,
      c.in_ok-world.ensures,
    )
    refl

pub returns-clause-told : goal.returns-clause-told
returns-clause-told c = rw (c.into_log-log.ensures.told, c.in_ok-world.ensures) refl

pub returns-clause-ended : goal.returns-clause-ended
returns-clause-ended c = rw (c.in_ok-last.ensures.ended, c.in_ok-world.ensures) refl

pub returns-clause-units : goal.returns-clause-units
returns-clause-units c = rw (c.in_ok-last.ensures.units, c.in_ok-world.ensures) refl

pub returns-clause-words : goal.returns-clause-words
returns-clause-words c = rw (c.in_ok-last.ensures.words, c.in_ok-world.ensures) refl

pub returns-clause-star : goal.returns-clause-star
returns-clause-star c = rw (c.in_ok-last.ensures.star, c.in_ok-world.ensures) refl
