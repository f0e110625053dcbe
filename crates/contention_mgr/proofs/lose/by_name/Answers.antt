use Rattle.std.proofs.Common.{rules, ap, ◌∙◌}
use Rattle.contention_mgr.specs.Loses.{by_name}
use Rattle.contention_mgr.proofs.NameOrder.{sort-by_name}
use Rattle.contention_mgr.proofs.lose.by_name.Goals as goal

pub returns-in-Ok : goal.returns-in-Ok
returns-in-Ok c =
    c.from_vec.ensures
    ∙ sort-by_name _ c.sort_by.new.self.items c.in-Ok.ensures.sorted c.in-Ok.ensures.stable
    (λ a o f' k. search rules)
    ∙ ap by_name c.into_vec-owners.ensures
