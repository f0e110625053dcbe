use Rattle.std.proofs.Common.{◌≡◌, ap, ◌∙◌, arith}
use Rattle.std.proofs.lemmas.Result.{err_from_is_err_and}
use Rattle.grs_deck.specs.declared.judge.Draft.{Draft}
use Rattle.grs_deck.specs.Reading.{judge_all, no_draft}
use Rattle.grs_deck.proofs.Loop.{next_goes_on, next_fits, next_lists, next_less, next_done, next_fails}
use Rattle.grs_deck.proofs.read.take_all.Goals as goal

pub loop-draft-preserved : goal.loop-draft-preserved
loop-draft-preserved c = record {
  reads =
      next_goes_on c.loop-draft.draft c.take_next.new.draft c.loop-draft.rest c.take_next.new.rest
      c.in_ok-take_next.field-0 c.in_ok-take_next.ensures _ c.if-branch.true c.loop-draft.invariant.reads;
  fits =
      next_fits c.loop-draft.draft c.take_next.new.draft c.loop-draft.rest c.take_next.new.rest
      c.in_ok-take_next.field-0 c.in_ok-take_next.ensures c.if-branch.true c.loop-draft.invariant.fits;
  lists =
      next_lists c.loop-draft.draft c.take_next.new.draft c.loop-draft.rest c.take_next.new.rest
      c.in_ok-take_next.field-0 c.in_ok-take_next.ensures c.if-branch.true c.loop-draft.invariant.lists;
}

pub loop-draft-smaller : goal.loop-draft-smaller
loop-draft-smaller c =
    let less =
    next_less c.loop-draft.draft c.take_next.new.draft c.loop-draft.rest c.take_next.new.rest
    c.in_ok-take_next.field-0 c.in_ok-take_next.ensures c.if-branch.true in
    omega (arith, less)

pub returns-in_err-take_next : goal.returns-in_err-take_next
returns-in_err-take_next c =
    let p = err_from_is_err_and c.from_residual.result c.from_residual.ensures.1 in
    let reads : judge_all c.loop-draft.draft c.loop-draft.rest ≡ judge_all (no_draft c.args.names) c.args.statements =
    c.loop-draft.invariant.reads ∙ ap (λ (d : Draft). judge_all d c.args.statements) c.start-draft.ensures in
    rw (p.1, p.2) (next_fails c.in_err-take_next.field-0.0 c.loop-draft.draft c.take_next.new.draft c.loop-draft.rest
    c.take_next.new.rest _ c.in_err-take_next.ensures reads)

pub returns : goal.returns
returns c =
    let reads : judge_all c.loop-draft.draft c.loop-draft.rest ≡ judge_all (no_draft c.args.names) c.args.statements =
    c.loop-draft.invariant.reads ∙ ap (λ (d : Draft). judge_all d c.args.statements) c.start-draft.ensures in
    next_done c.loop-draft.draft c.take_next.new.draft c.loop-draft.rest c.take_next.new.rest c.in_ok-take_next.field-0
    c.in_ok-take_next.ensures _ c.if-branch.false reads
