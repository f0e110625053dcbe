use Rattle.std.proofs.Common.{rules, ◌∙◌, ap, filter}
use Rattle.std.proofs.lemmas.Fn.{filter_same}
use Rattle.grs_node.specs.Node.{is_of_deck}
use Rattle.grs_node.proofs.star_replies.records_of_deck.Goals as goal

pub returns : goal.returns
returns c =
    c.from_vec.ensures
    ∙ (filter_same _ _ _ (λ x b f' k. search rules) _ _ c.retain.ensures.filtered
    ∙ ap (filter (λ r. is_of_deck c.args.deck.now r.task)) c.into_vec-items.ensures)
