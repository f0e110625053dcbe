use Rattle.std.proofs.Common.{◌≡◌, true, false, sym, ap, ◌∙◌}
use Rattle.deck_form.specs.Statements.{is_schedule, still}
use Rattle.deck_form.proofs.Gathered.{none_left, one_left, schedule_left, gathered_left}
use Rattle.deck_form.proofs.grouping.Statements.next.Goals as goal

pub returns-in_default : goal.returns-in_default
returns-in_default c =
    let s = c.self.inside in
    let view = c.self.view_is in
    let seen : still s.scheduled s.lines ≡ c.args.self.now = cc in
    none_left s.scheduled c.in_ok-first.field-0 s.lines c.next.new.self c.args.self.now seen c.in_ok-first.ensures.next
    c.in_default.is

pub returns-then-self : goal.returns-then-self
returns-then-self c =
    let s = c.self.inside in
    let view = c.self.view_is in
    let seen : still s.scheduled s.lines ≡ c.args.self.now = cc in
    one_left s.scheduled c.in_ok-first.field-0 s.lines c.next.new.self c.args.self.now seen c.in_ok-first.ensures.next
    c.in-Some.first c.in-Some.is c.if-self.true

pub returns-then-is_schedule : goal.returns-then-is_schedule
returns-then-is_schedule c =
    let s = c.self.inside in
    let view = c.self.view_is in
    let seen : still s.scheduled s.lines ≡ c.args.self.now = cc in
    let schedule : is_schedule c.in-Some.first.tokens ≡ true =
    ap is_schedule (sym c.as_slice.ensures) ∙ sym c.is_schedule.ensures ∙ c.if-is_schedule.true in
    schedule_left s.scheduled c.in_ok-first.field-0 s.lines c.next.new.self c.args.self.now seen
    c.in_ok-first.ensures.next c.in-Some.first c.in-Some.is c.if-self.false schedule

pub returns : goal.returns
returns c =
    let s = c.self.inside in
    let view = c.self.view_is in
    let seen : still s.scheduled s.lines ≡ c.args.self.now = cc in
    let other : is_schedule c.in-Some.first.tokens ≡ false =
    ap is_schedule (sym c.as_slice.ensures) ∙ sym c.is_schedule.ensures ∙ c.if-is_schedule.false in
    gathered_left s.scheduled c.in_ok-first.field-0 s.lines c.next.new.self c.args.self.now seen
    c.in_ok-first.ensures.next c.in-Some.first c.in_ok-gather.field-0 c.gather.new.lines c.in-Some.is c.if-self.false
    other c.in_ok-gather.ensures.statement c.in_ok-gather.ensures.left
