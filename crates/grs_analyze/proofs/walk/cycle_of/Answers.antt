use Rattle.std.proofs.Common.{◌≡◌, ◌∙◌, ◌+◌, ◌-◌, List, ap, sym, subst, arith, length, length-drop, drop}
use Rattle.std.specs.Prelude.{IfOk}
use Rattle.std.proofs.lemmas.List.{take_all}
use Rattle.grs_base.specs.declared.resource.TaskId.{TaskId}
use Rattle.grs_analyze.specs.Greatest.{is_among, greatest}
use Rattle.grs_analyze.specs.Walk.{next_of, from_task}
use Rattle.grs_analyze.proofs.PassLemmas.{walk-step, walk-back, walk-out}
use Rattle.grs_analyze.proofs.walk.cycle_of.Goals as goal

pub loop-step-preserved : goal.loop-step-preserved
loop-step-preserved c =
    walk-step c.args._rows.now (greatest c.args._rows.now) c.loop-step.past c.push.new.self _ _ c.loop-step._step
    c.in-Some.task c.loop-step.at c.in_ok-at.at (grind (arith, c.loop-step-test.true, c.len-step-end.ensures))
    c.in-Some.is
    (sym (ap (λ xs. is_among xs c.in-Some.task) c.as_slice-in-loop-step.ensures) ∙ c.in_default-place_in.ensures.none)
    c.in_ok-push.ensures.ok
    (c.in_ok-at.ensures
    ∙ ap (λ us. next_of c.args._rows.now us c.in-Some.task)
    c.in_ok-greatest.ensures.greatest)
    c.loop-step.invariant

pub returns-in-Some-place_in : goal.returns-in-Some-place_in
returns-in-Some-place_in c =
    let first = c.as_slice-in-loop-step.ensures in
    let place = c.in-Some-place_in.place in
    let past = c.as_slice-in-Some-place_in.result.now in
    subst (λ (ts : List TaskId). IfOk c.listed.result (λ list. list ≡ ts))
    (take_all (length past - place) (drop place past) (omega (arith, length-drop place past))
    ∙ ap (drop place) (c.as_slice-in-Some-place_in.ensures ∙ sym first)
    ∙ c.in-Some-place_in.ensures.from
    ∙ ap (from_task c.in-Some.task) first
    ∙ walk-back c.args._rows.now (greatest c.args._rows.now) c.loop-step.past _ (length c.args.numbered.now.tasks + 1)
    c.loop-step._step c.in-Some.task c.loop-step.at (grind (arith, c.loop-step-test.true, c.len-step-end.ensures))
    c.in-Some.is (sym (ap (λ xs. is_among xs c.in-Some.task) first) ∙ c.in-Some-place_in.ensures.among)
    c.loop-step.invariant)
    c.listed.ensures

pub returns : goal.returns
returns c =
    c.new-2.ensures
    ∙ walk-out c.args._rows.now (greatest c.args._rows.now) c.loop-step.past _ (length c.args.numbered.now.tasks + 1)
    c.loop-step._step c.loop-step.at (grind (arith, c.loop-step-test.false, c.len-step-end.ensures))
    c.loop-step.invariant
