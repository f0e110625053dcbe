use Rattle.std.proofs.Common.{◌≡◌}
use Rattle.deck_form.specs.Statements.{still}
use Rattle.deck_form.proofs.Gathered.{plain_left}
use Rattle.deck_form.proofs.grouping.Statements.next_plain.Goals as goal

pub returns-then-self-clause-next : goal.returns-then-self-clause-next
returns-then-self-clause-next c =
    let s = c.self.inside in
    let view = c.self.view_is in
    let seen : still s.scheduled s.lines ≡ c.args.self.now = cc in
    plain_left s.scheduled c.next_plain.result s.lines c.next_plain.new.self c.args.self.now seen c.if-self.true
    c.next_plain.ensures.next
