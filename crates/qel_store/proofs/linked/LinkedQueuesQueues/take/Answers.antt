use Rattle.std.proofs.Common.{◌<◌, ◌∙◌, List, ap, length, subst}
use Rattle.std.specs.Prelude.{slice_get}
use Rattle.grs_base.specs.declared.resource.Elem.{Elem}
use Rattle.qel_store.proofs.TieLemmas.{list_at-held}
use Rattle.qel_store.proofs.linked.LinkedQueuesQueues.take.Goals as goal

pub take_in-requires-clause-place : goal.take_in-requires-clause-place
take_in-requires-clause-place c =
    subst (λ (l : List Elem). c.args.place < length l) (list_at-held c.args.self.now.elements.items c.args.queue)
    c.requires.place

pub returns-clause-elem : goal.returns-clause-elem
returns-clause-elem c =
    ap (λ (l : List Elem). slice_get l c.args.place) (list_at-held c.args.self.now.elements.items c.args.queue)
    ∙ c.take_in.ensures.elem
