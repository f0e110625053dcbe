use Rattle.std.proofs.Common.{◌≡◌, List, sym, subst, ◌∙◌}
use Rattle.std.specs.Prelude.{IfOk}
use Rattle.grs_enf.specs.declared.notice.Notice.{Notice}
use Rattle.grs_enf.proofs.EnqLemmas.{waits-noticed, else-noticed}
use Rattle.grs_enf.proofs.watch.step_enq.Goals as goal

pub returns-then-is_left_waiting-clause-notices : goal.returns-then-is_left_waiting-clause-notices
returns-then-is_left_waiting-clause-notices c =
    let told =
    waits-noticed c.args.table.now.elements c.reserve.new.self.elements c.enq_copied.new.self.elements c.args.res.now
    c.args.task c.args.ctl c.args.ret c.args.full c.in_ok-code.code c.as_slice.result.now c.reserve.ensures.elements
    c.in_ok-code.ensures.code c.in_ok-code.ensures.elements (sym c.is_left_waiting.ensures ∙ c.if-is_left_waiting.true)
    (c.as_slice.ensures ∙ c.in_ok-after.ensures.list) in
    subst (λ (ns : List Notice). IfOk c.notice_of_last.result (λ put. put ≡ ns)) told c.notice_of_last.ensures

pub returns-clause-notices : goal.returns-clause-notices
returns-clause-notices c =
    c.new.ensures
    ∙ else-noticed c.args.table.now.elements c.reserve.new.self.elements c.args.res.now c.args.task c.args.ctl c.args.ret
    c.args.full c.in_ok-code.code c.reserve.ensures.elements c.in_ok-code.ensures.code c.requires
    (sym c.is_left_waiting.ensures ∙ c.if-is_left_waiting.false)
