use Rattle.std.proofs.Common.{◌∙◌, ◌≡◌, ap, sym, subst, true, length}
use Rattle.std.specs.Option.{option_map}
use Rattle.std.proofs.lemmas.List.{length-map}
use Rattle.system_purge.specs.Gathers.{GathersView, keep_right, without_sender}
use Rattle.system_purge.proofs.GatherSlots.{lost-keeps}
use Rattle.system_purge.proofs.gathers.Gathers.lose.Goals as goal

pub invariant_of-self : goal.invariant_of-self
invariant_of-self c = (
  ap (λ (gs : GathersView). length gs) c.lose_parts.ensures
      ∙ length-map c.self.inside.slots.items (option_map (without_sender c.args.system))
      ∙ c.self.invariant.0,
  subst (λ (gs : GathersView). keep_right gs ≡ true) (sym c.lose_parts.ensures)
      (lost-keeps c.self.inside.slots.items c.args.system c.self.invariant.1),
)
