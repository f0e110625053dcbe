use Rattle.std.proofs.Common.{◌∙◌, ap, arith}
use Rattle.std.proofs.lemmas.Result.{on_ok_weaker}
use Rattle.system_purge.specs.Gathers.{GathersView, with_part_at}
use Rattle.system_purge.proofs.GatherSlots.{part-kept, set-part}
use Rattle.system_purge.proofs.gathers.Gathers.add.Goals as goal

pub invariant_of-self : goal.invariant_of-self
invariant_of-self c =
    part-kept c.self.inside.entries c.self.inside.slots.items c.args.entry c.args.from c.args.records c.add_part.result
    c.index_mut-slot.result.now c.add_part.new.slot c.self.invariant (omega arith) c.index_mut-slot.ensures.value
    c.add_part.ensures.ok c.add_part.ensures.err

pub returns-clause-ok : goal.returns-clause-ok
returns-clause-ok c =
    on_ok_weaker c.add_part.result
    (λ step.
    set-part c.self.inside.slots.items c.args.entry c.self.inside.entries c.args.from c.args.records
    c.index_mut-slot.result.now c.add_part.new.slot c.self.invariant.0 (omega arith) c.index_mut-slot.ensures.value step
    ∙ ap (λ (gs : GathersView). with_part_at gs c.args.entry c.args.from c.args.records) c.self.view_is)
    c.add_part.ensures.ok
