use Rattle.std.proofs.Common.{◌≡◌, ◌∙◌, List, ap, subst, sym}
use Rattle.std.specs.Prelude.{IfOk}
use Rattle.grs_base.specs.Behind.{tasks_behind}
use Rattle.grs_base.specs.Lists.{is_apart, place_of}
use Rattle.grs_base.specs.declared.resource.Elem.{Elem}
use Rattle.qel_store.proofs.TieLemmas.{list_at-held}
use Rattle.qel_store.proofs.linked.LinkedQueuesQueues.take_told.Goals as goal

pub returns-clause-apart : goal.returns-clause-apart
returns-clause-apart c =
    ap is_apart (list_at-held c.args.self.now.elements.items c.args.queue) ∙ c.args.self.now.queues.apart c.args.queue

pub returns-clause-tasks : goal.returns-clause-tasks
returns-clause-tasks c =
    subst (λ (l : List Elem). IfOk c.take_told_in.result (λ tasks. tasks ≡ tasks_behind l (place_of l c.args.task)))
    (sym (list_at-held c.args.self.now.elements.items c.args.queue)) c.take_told_in.ensures.told
