use Rattle.std.proofs.Common.{refl}
use Rattle.grs_top.proofs.seen.last_of.Goals as goal

pub returns-clause-ended : goal.returns-clause-ended
returns-clause-ended c =
    rw (
      c.in_ok-ended.ensures,
      c.removed.ensures,
      c.medium-3.ensures,
      c.nodes.ensures.nodes,
    )
    refl

pub returns-clause-words : goal.returns-clause-words
returns-clause-words c = rw (c.in_ok-words.ensures, c.words.ensures, c.medium.ensures) refl

pub returns-clause-star : goal.returns-clause-star
returns-clause-star c = rw (c.star-star.ensures, c.medium-2.ensures) refl
