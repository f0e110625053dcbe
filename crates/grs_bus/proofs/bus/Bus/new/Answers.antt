use Rattle.std.proofs.Common.{◌≡◌, List, [], ◌∷◌, ◌++◌, sym, ap, subst, ◌∙◌}
use Rattle.atomic_table.specs.Table.{opening}
use Rattle.grs_medium.specs.Room.{MediumValue}
use Rattle.grs_bus.specs.Rule.{IsKept, founder}
use Rattle.grs_bus.specs.declared.slot.Slot.{Slot}
use Rattle.grs_bus.proofs.RuleLaws.{starts}
use Rattle.grs_bus.proofs.bus.Bus.new.Goals as goal

pub new-requires-2 : goal.new-requires-2
new-requires-2 c =
    let first = c.of-first.result.value in
    let slot : Slot = record { medium = c.args.medium; journal = c.new.result; alloc = c.args.alloc; concerned = 0 } in
    let one : c.into_vec.result.items ≡ slot ∷ [] =
    c.into_vec.ensures ∙ (c.in_ok-push.ensures.ok ∙ ap (λ (l : List Slot). l ++ slot ∷ []) c.new-slots.ensures) in
    subst (λ (l : List Slot). IsKept first (opening (0 ∷ []) l (founder first))) (sym one)
    (starts first slot c.new.ensures.items (ap (λ (m : MediumValue). m.state) (sym c.of-first.ensures)))
