use Rattle.std.proofs.Common.{refl}
use Rattle.system_purge.proofs.GatherSlots.{set-kept}
use Rattle.system_purge.proofs.gathers.Gathers.begin.Goals as goal

pub invariant_of-self : goal.invariant_of-self
invariant_of-self c =
    set-kept c.self.inside.entries c.self.inside.slots.items c.args.entry _ c.self.invariant (rw c.new.ensures refl)

pub invariant_of-self-then-entry-self-2 : goal.invariant_of-self-then-entry-self-2
invariant_of-self-then-entry-self-2 c =
    set-kept c.self.inside.entries c.self.inside.slots.items c.args.entry _ c.self.invariant (rw c.new.ensures refl)
