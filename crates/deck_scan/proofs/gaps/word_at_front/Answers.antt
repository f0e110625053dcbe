use Rattle.std.proofs.Common.{sym, ◌∙◌, rules}
use Rattle.deck_scan.proofs.FirstWord.{none_inside, none_apart, hexed_apart, some_apart}
use Rattle.deck_scan.proofs.gaps.word_at_front.Goals as goal

pub returns-then-is_some : goal.returns-then-is_some
returns-then-is_some c = none_inside c.args.at (sym c.is_some.ensures ∙ c.if-is_some.true) c.requires

pub returns-then-is_empty : goal.returns-then-is_empty
returns-then-is_empty c =
    none_apart c.args.at c.split_word.result.0.now c.split_word.result.1.now
    (sym c.is_some.ensures ∙ c.if-is_some.false) c.requires c.split_word.ensures (search rules)

pub returns-then-begins_hexed : goal.returns-then-begins_hexed
returns-then-begins_hexed c =
    hexed_apart c.args.at c.split_word.result.0.now c.split_word.result.1.now
    (sym c.is_some.ensures ∙ c.if-is_some.false) c.requires c.split_word.ensures
    (sym c.begins_hexed.ensures ∙ c.if-begins_hexed.true)

pub returns : goal.returns
returns c =
    rw c.there.ensures
    (some_apart c.args.at c.split_word.result.0.now c.split_word.result.1.now
    (sym c.is_some.ensures ∙ c.if-is_some.false) c.requires c.split_word.ensures (search rules)
    (sym c.begins_hexed.ensures ∙ c.if-begins_hexed.false))
