use Rattle.std.proofs.Common.{refl, rules, arith}
use Rattle.deck_scan.proofs.Pieces.{rest_is}
use Rattle.deck_scan.proofs.FirstWord.{over_begin, over_end, over_cr, over_blank}
use Rattle.deck_scan.proofs.gaps.pass_apart.Goals as goal

pub returns-in-47-clause-over : goal.returns-in-47-clause-over
returns-in-47-clause-over c =
    over_begin c.args.from _ c.requires.apart (search (rules, arith)) (search rules) (search rules) refl refl
    (rest_is 2 c.args.from.rest.now)

pub returns-in-10-clause-over : goal.returns-in-10-clause-over
returns-in-10-clause-over c =
    over_end c.args.from _ c.requires.apart (search (rules, arith)) (search rules) refl refl
    (rest_is 1 c.args.from.rest.now)

pub returns-in-13-clause-over : goal.returns-in-13-clause-over
returns-in-13-clause-over c =
    over_cr c.args.from _ c.requires.apart (search (rules, arith)) (search rules) (search rules) refl refl
    (rest_is 2 c.args.from.rest.now)

pub returns-in-32-clause-over : goal.returns-in-32-clause-over
returns-in-32-clause-over c =
    over_blank c.args.from _ c.requires.apart (search (rules, arith)) (search rules) refl refl
    (rest_is 1 c.args.from.rest.now)
