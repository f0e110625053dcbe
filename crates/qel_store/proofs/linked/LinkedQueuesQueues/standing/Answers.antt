use Rattle.std.proofs.Common.{◌∙◌, List, ap, sym}
use Rattle.grs_base.specs.Lists.{standing_of}
use Rattle.grs_base.specs.declared.resource.Elem.{Elem}
use Rattle.qel_store.proofs.TieLemmas.{list_at-held}
use Rattle.qel_store.proofs.linked.LinkedQueuesQueues.standing.Goals as goal

pub returns : goal.returns
returns c =
    c.standing_in.ensures
    ∙ ap (λ (l : List Elem). standing_of l c.args.task) (sym (list_at-held c.args.self.now.elements.items c.args.queue))
