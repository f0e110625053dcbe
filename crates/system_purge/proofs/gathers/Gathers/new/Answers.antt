use Rattle.std.proofs.Common.{◌∙◌, ap, sym, subst, length, ◌≡◌, true}
use Rattle.std.proofs.lemmas.List.{length-replicate}
use Rattle.system_purge.specs.Gathers.{GathersView, keep_right}
use Rattle.system_purge.proofs.GatherSlots.{none-keep}
use Rattle.system_purge.proofs.gathers.Gathers.new.Goals as goal

pub invariant_of-result : goal.invariant_of-result
invariant_of-result c = (
  ap (λ (gs : GathersView). length gs) c.in_ok-no_slots.ensures ∙ length-replicate _ _,
  subst (λ (gs : GathersView). keep_right gs ≡ true) (sym c.in_ok-no_slots.ensures) (none-keep c.args.entries),
)
