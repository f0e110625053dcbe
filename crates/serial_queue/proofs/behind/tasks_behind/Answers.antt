use Rattle.std.proofs.Common.{◌∙◌, ap, sym}
use Rattle.grs_base.specs.Behind.{tasks_behind}
use Rattle.serial_queue.proofs.PlainLemmas.{tasks_behind-past}
use Rattle.serial_queue.proofs.behind.tasks_behind.Goals as goal

pub returns-then-place-elems : goal.returns-then-place-elems
returns-then-place-elems c =
    c.new.ensures ∙ sym (ap (tasks_behind c.args.elems.now) c.if-place-elems.true ∙ tasks_behind-past c.args.elems.now)
