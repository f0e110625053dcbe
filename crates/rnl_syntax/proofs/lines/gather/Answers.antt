use Rattle.std.proofs.Common.{List, subst, sym, ◌∙◌}
use Rattle.deck_scan.specs.declared.token.TokenLine.{TokenLine}
use Rattle.deck_scan.specs.Rows.{Next}
use Rattle.rnl_syntax.proofs.Gathered.{gather_ends, gather_none, gather_goes}
use Rattle.rnl_syntax.proofs.lines.gather.Goals as goal

pub returns-then-not-branch-clause-statement : goal.returns-then-not-branch-clause-statement
returns-then-not-branch-clause-statement c =
    (gather_ends c.loop-statement.statement c.loop-statement.lines c.args.first c.args.lines.now
    c.loop-statement.invariant (sym c.in_ok-wants_more.ensures.wants ∙ c.if-not-branch.true)).0

pub returns-then-not-branch-clause-left : goal.returns-then-not-branch-clause-left
returns-then-not-branch-clause-left c =
    c.in_ok-wants_more.ensures.same
    ∙ (gather_ends c.loop-statement.statement c.loop-statement.lines c.args.first c.args.lines.now
    c.loop-statement.invariant (sym c.in_ok-wants_more.ensures.wants ∙ c.if-not-branch.true)).1

pub returns-in_default-clause-statement : goal.returns-in_default-clause-statement
returns-in_default-clause-statement c =
    let next =
    subst (λ (ls : List TokenLine). Next c.in_ok-line.field-0 ls c.next.new.self) c.in_ok-wants_more.ensures.same
    c.in_ok-line.ensures.next in
    (gather_none c.in_ok-line.field-0 c.loop-statement.statement c.loop-statement.lines c.next.new.self c.args.first
    c.args.lines.now next c.loop-statement.invariant c.in_default.is).0

pub returns-in_default-clause-left : goal.returns-in_default-clause-left
returns-in_default-clause-left c =
    let next =
    subst (λ (ls : List TokenLine). Next c.in_ok-line.field-0 ls c.next.new.self) c.in_ok-wants_more.ensures.same
    c.in_ok-line.ensures.next in
    (gather_none c.in_ok-line.field-0 c.loop-statement.statement c.loop-statement.lines c.next.new.self c.args.first
    c.args.lines.now next c.loop-statement.invariant c.in_default.is).1

pub loop-statement-preserved : goal.loop-statement-preserved
loop-statement-preserved c =
    let next =
    subst (λ (ls : List TokenLine). Next c.in_ok-line.field-0 ls c.next.new.self) c.in_ok-wants_more.ensures.same
    c.in_ok-line.ensures.next in
    gather_goes c.in_ok-line.field-0 c.loop-statement.statement c.in_ok-statement.statement c.loop-statement.lines
    c.next.new.self c.args.first c.args.lines.now next c.loop-statement.invariant c.in-Some.line c.in-Some.is
    (sym c.in_ok-wants_more.ensures.wants ∙ c.if-not-branch.false) c.in_ok-statement.ensures
