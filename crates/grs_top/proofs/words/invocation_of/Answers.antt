use Rattle.std.proofs.Common.{rules, ◌≡◌, [], ◌∷◌, sym, subst, map, string_bytes}
use Rattle.grs_top.specs.Words.{invocation_of}
use Rattle.grs_top.proofs.OneItem.{one_item, two_items}
use Rattle.grs_top.proofs.words.invocation_of.Goals as goal

pub returns-in-len1 : goal.returns-in-len1
returns-in-len1 c =
    let single : c.args.words.now ≡ c.word-item.result ∷ [] =
    one_item c.args.words.now c.word-item.result c.in-len1.len_at_least c.in-len1.len_below c.word-item.is in
    subst (λ ws. c.map.result ≡ invocation_of (map string_bytes ws)) (sym single) (search rules)

pub returns-in-len2 : goal.returns-in-len2
returns-in-len2 c =
    let pair : c.args.words.now ≡ c.word-item-then-words-lt3.result ∷ c.number-item.result ∷ [] =
    two_items c.args.words.now c.word-item-then-words-lt3.result c.number-item.result c.in-len2.len_at_least
    c.in-len2.len_below c.word-item-then-words-lt3.is c.number-item.is in
    subst (λ ws. c.invocation_of_two.result ≡ invocation_of (map string_bytes ws)) (sym pair) (search rules)
