use Rattle.std.proofs.Common.{rules, ◌∙◌, ap, not, filter}
use Rattle.std.specs.Prelude.{◌==◌}
use Rattle.std.proofs.lemmas.Fn.{filter_same}
use Rattle.system_purge.proofs.gathers.drop_parts.Goals as goal

pub returns : goal.returns
returns c =
    c.from_vec.ensures
    ∙ (filter_same _ _ _ (λ x b f' k. search rules) _ _ c.retain.ensures.filtered
    ∙ ap (filter (λ p. not (p.from.0 == c.args.system.0))) (search rules))
