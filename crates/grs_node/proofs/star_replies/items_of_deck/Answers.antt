use Rattle.std.proofs.Common.{rules, ◌∙◌, ap, filter}
use Rattle.std.proofs.lemmas.Fn.{filter_same}
use Rattle.grs_node.specs.Node.{is_item_of}
use Rattle.grs_node.proofs.star_replies.items_of_deck.Goals as goal

pub returns : goal.returns
returns c =
    c.from_vec.ensures
    ∙ (filter_same _ _ _ (λ x b f' k. search rules) _ _ c.retain.ensures.filtered
    ∙ ap (filter (is_item_of c.args.deck.now)) c.into_vec-items.ensures)
