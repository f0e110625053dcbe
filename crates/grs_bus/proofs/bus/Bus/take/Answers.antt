use Rattle.std.proofs.Common.{rules, ap, sym, ◌∙◌}
use Rattle.grs_base.specs.declared.resource.SysId.{SysId}
use Rattle.grs_bus.specs.Seats.{BusValue}
use Rattle.grs_bus.proofs.RuleLaws.{locks}
use Rattle.grs_bus.proofs.bus.Bus.take.Goals as goal

pub compare_exchange-requires : goal.compare_exchange-requires
compare_exchange-requires g c =
    let same = c.loop.invariant in let rests = c.requires.rests in
    let table = ap (λ (b : BusValue). b.table) c.self.view_is in let number = ap (λ (s : SysId). s.0) rests.1 in (
      same.0.0 ∙ (c.requires.table ∙ sym table),
      search rules,
      locks _ _ _ _ _ _ (search rules) (search rules) (search rules) (search rules),
    )
