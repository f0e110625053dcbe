use Rattle.std.proofs.Common.{◌≡◌, length, rules}
use Rattle.deck_scan.specs.Rows.{coming}
use Rattle.deck_scan.proofs.Rows.{next_end}
use Rattle.deck_scan.proofs.cursor.Lines.next.Goals as goal

pub returns-clause-next : goal.returns-clause-next
returns-clause-next c =
    let comes = c.loop-at.invariant.comes in
    let seen = c.self.view_is in
    let same : coming c.loop-at.at ≡ c.args.self.now = cc in
    let none : length c.loop-at.at.rest.now ≡ 0 = search rules in
    next_end c.in_ok-last.last c.args.self.now c.loop-at.at.line c.loop-at.at.begun c.loop-at.at.rest.now none same
    (c.in_ok-last.ensures c.loop-at.at.line)
