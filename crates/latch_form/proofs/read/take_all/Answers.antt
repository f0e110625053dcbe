use Rattle.std.proofs.Common.{◌≡◌, length, ap, ◌∙◌, arith}
use Rattle.std.proofs.lemmas.Result.{err_from_is_err_and}
use Rattle.latch_form.proofs.Loop.{one_next, none_next, goes_on, fails, is_done, few_judge}
use Rattle.latch_form.proofs.read.take_all.Goals as goal

pub loop-draft-preserved : goal.loop-draft-preserved
loop-draft-preserved c = record {
  reads =
      goes_on c.loop-draft.draft c.take_line.new.draft c.loop-draft.rest c.next.new.self c.in-Some.line _
      (one_next c.in_ok-line.field-0 c.in-Some.line c.loop-draft.rest c.next.new.self c.in-Some.is c.in_ok-line.ensures.next)
      c.in_ok-take_line.ensures c.loop-draft.invariant.reads;
  few = few_judge c.loop-draft.draft c.take_line.new.draft c.in-Some.line c.in_ok-take_line.ensures;
}

pub loop-draft-smaller : goal.loop-draft-smaller
loop-draft-smaller c =
    let long =
    ap length (one_next c.in_ok-line.field-0 c.in-Some.line c.loop-draft.rest c.next.new.self c.in-Some.is
    c.in_ok-line.ensures.next) in
    omega (arith, long)

pub returns-in_err-take_line : goal.returns-in_err-take_line
returns-in_err-take_line c =
    let p = err_from_is_err_and c.from_residual-in_err-take_line.result c.from_residual-in_err-take_line.ensures.1 in
    rw (p.1, p.2) (fails c.in_err-take_line.field-0.0 c.loop-draft.draft c.loop-draft.rest c.next.new.self
    c.in-Some.line _
    (one_next c.in_ok-line.field-0 c.in-Some.line c.loop-draft.rest c.next.new.self c.in-Some.is c.in_ok-line.ensures.next)
    c.in_err-take_line.ensures c.loop-draft.invariant.reads)

pub returns : goal.returns
returns c =
    is_done c.loop-draft.draft c.loop-draft.rest _
    (none_next c.in_ok-line.field-0 c.loop-draft.rest c.next.new.self c.in_default.is c.in_ok-line.ensures.next)
    c.loop-draft.invariant.reads
