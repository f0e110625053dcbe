use Rattle.std.proofs.Common.{◌∙◌, Option, ap}
use Rattle.std.specs.Option.{option_map_or}
use Rattle.grs_base.specs.Lists.{is_shared}
use Rattle.std.proofs.Common.{false}
use Rattle.qel_store.specs.declared.elements.Element.{Element}
use Rattle.qel_store.proofs.TakeLemmas.{member_there, exclusive_already}
use Rattle.qel_store.proofs.linked.exclude.Goals as goal

pub get-requires : goal.get-requires
get-requires g c =
    member_there c.args.queue c.args.key c.args.elements.now.items c.requires.queues.keys c.requires.there

pub returns-in-E-clause-items : goal.returns-in-E-clause-items
returns-in-E-clause-items g c =
    exclusive_already c.args.elements.now.items c.args.key c.get.result c.requires.queues.keys c.get.ensures.element
    c.in-E.is

pub exclude_shared-requires-clause-shared : goal.exclude_shared-requires-clause-shared
exclude_shared-requires-clause-shared g c =
    ap (λ (o : Option Element). option_map_or (λ e. is_shared e.elem.ctl) o false) c.get.ensures.element
    ∙ ap is_shared c.in-S.is
