use Rattle.std.proofs.Common.{◌∙◌, List, ap, sym}
use Rattle.grs_base.specs.Lists.{has_task}
use Rattle.grs_base.specs.declared.resource.Elem.{Elem}
use Rattle.qel_store.proofs.TieLemmas.{list_at-held}
use Rattle.qel_store.proofs.linked.LinkedQueuesQueues.take_of.Goals as goal

pub returns-clause-there : goal.returns-clause-there
returns-clause-there c =
    c.take_of_in.ensures.there
    ∙ ap (λ (l : List Elem). has_task l c.args.task) (sym (list_at-held c.args.self.now.elements.items c.args.queue))
