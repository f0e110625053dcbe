use Rattle.std.proofs.Common.{sym, subst, ℕ, List}
use Rattle.deck_scan.specs.Rows.{ClosesComment}
use Rattle.deck_scan.proofs.Searches.{cut_closes, uncut_stays}
use Rattle.deck_scan.proofs.row.behind_comment.Goals as goal

pub returns-in-Some-clause-closed : goal.returns-in-Some-clause-closed
returns-in-Some-clause-closed c =
    let k = c.in-Some.ensures in
    subst (λ (t : List ℕ). ClosesComment c.args.text.now t) (sym k.3) (cut_closes c.args.text.now k.0 k.1)

pub returns-in-None-clause-begun : goal.returns-in-None-clause-begun
returns-in-None-clause-begun c = uncut_stays c.args.text.now c.in-None.ensures
