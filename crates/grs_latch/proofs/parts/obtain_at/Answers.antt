use Rattle.std.proofs.Common.{◌≡◌, sym, ◌∙◌, arith, Some, None}
use Rattle.std.specs.Prelude.{slice_get}
use Rattle.grs_base.specs.Lists.{can_have, standing_of}
use Rattle.grs_latch.specs.Latches.{obtain_code, obtained}
use Rattle.grs_latch.proofs.NumberLemmas.{among_at, code_at-some, code_at-absent, code_at-none, changed_at-none, lists_at-changed}
use Rattle.grs_latch.proofs.NumberLemmas.{first-code, ok-at, on-ok}
use Rattle.grs_latch.proofs.parts.obtain_at.Goals as goal

pub obtain_in-requires : goal.obtain_in-requires
obtain_in-requires g c =
    let at : slice_get c.args.numbers.now c.args.latch ≡ Some (Some c.in-Some-Some.queue) =
    grind (arith, c.queue_of.ensures, c.in-Some-Some.is, c.in-Some-Some.field-0-is) in
    record {
      live = c.requires.numbered.live c.in-Some-Some.queue
          (among_at c.args.numbers.now c.args.latch c.in-Some-Some.queue at);
    }

pub returns-in-Some-Some-clause-code : goal.returns-in-Some-Some-clause-code
returns-in-Some-Some-clause-code g c =
    let at : slice_get c.args.numbers.now c.args.latch ≡ Some (Some c.in-Some-Some.queue) =
    grind (arith, c.queue_of.ensures, c.in-Some-Some.is, c.in-Some-Some.field-0-is) in
    ok-at (λ x. x) c.obtain_in.result _ _ c.obtain_in.ensures.code
    (sym
    (code_at-some (λ es. obtain_code (standing_of es c.args.elem.task) (can_have es c.args.elem.ctl)) c.args.numbers.now
    c.args.latch c.in-Some-Some.queue (g.Q.Queues.elements c.args.queues.now) at))

pub returns-in-Some-Some-clause-lists : goal.returns-in-Some-Some-clause-lists
returns-in-Some-Some-clause-lists g c =
    let at : slice_get c.args.numbers.now c.args.latch ≡ Some (Some c.in-Some-Some.queue) =
    grind (arith, c.queue_of.ensures, c.in-Some-Some.is, c.in-Some-Some.field-0-is) in
    on-ok c.obtain_in.result _ _ c.obtain_in.ensures.list (λ here.
    lists_at-changed (g.Q.Queues.elements c.args.queues.now) (g.Q.Queues.elements c.obtain_in.new.queues)
    c.in-Some-Some.queue c.obtain_in.ensures.others
    (λ es. obtained es c.args.elem.task c.args.elem.ctl c.args.may_wait) c.args.numbers.now c.args.latch at
    c.requires.numbered.apart here)

pub returns-in_ok-obtain_first-in-Some-None-clause-code : goal.returns-in_ok-obtain_first-in-Some-None-clause-code
returns-in_ok-obtain_first-in-Some-None-clause-code g c =
    let at : slice_get c.args.numbers.now c.args.latch ≡ Some None =
    grind (arith, c.queue_of.ensures, c.in-Some-None.is, c.in-Some-None.field-0-is) in
    sym
    (code_at-absent (λ es. obtain_code (standing_of es c.args.elem.task) (can_have es c.args.elem.ctl))
    c.args.numbers.now c.args.latch (g.Q.Queues.elements c.args.queues.now) at
    ∙ first-code c.args.elem.task c.args.elem.ctl)

pub returns-in_ok-obtain_first-in-Some-None-clause-lists : goal.returns-in_ok-obtain_first-in-Some-None-clause-lists
returns-in_ok-obtain_first-in-Some-None-clause-lists g c =
    c.in_ok-obtain_first-in-Some-None.ensures.lists c.args.may_wait

pub returns-in-None-clause-code : goal.returns-in-None-clause-code
returns-in-None-clause-code g c =
    sym
    (code_at-none (λ es. obtain_code (standing_of es c.args.elem.task) (can_have es c.args.elem.ctl)) c.args.numbers.now
    c.args.latch (g.Q.Queues.elements c.args.queues.now) (sym c.queue_of.ensures ∙ c.in-None.is))

pub returns-in-None-clause-lists : goal.returns-in-None-clause-lists
returns-in-None-clause-lists g c =
    sym
    (changed_at-none (λ es. obtained es c.args.elem.task c.args.elem.ctl c.args.may_wait) c.args.numbers.now c.args.latch
    (g.Q.Queues.elements c.args.queues.now) (sym c.queue_of.ensures ∙ c.in-None.is))
