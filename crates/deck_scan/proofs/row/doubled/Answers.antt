use Rattle.std.proofs.Common.{List, ℕ, ◌++◌, ◌∷◌, [], sym, ap, ◌∙◌}
use Rattle.deck_scan.proofs.Pieces.{undoubled_end, undoubled_more, rest_is}
use Rattle.deck_scan.proofs.row.doubled.Goals as goal

pub returns-then-not-is_doubled : goal.returns-then-not-is_doubled
returns-then-not-is_doubled c =
    undoubled_end c.args.text.now c.loop-name.name c.loop-name.rest.now c.split_at_quote.result.0.now
    c.split_at_quote.result.1.now c.append.new.self c.split_at_quote.ensures
    (sym c.is_doubled.ensures ∙ c.if-not-is_doubled.true) c.in_ok-append.ensures.ok c.loop-name.invariant

pub loop-name-preserved : goal.loop-name-preserved
loop-name-preserved c =
    rw (rest_is 2 c.split_at_quote.result.1.now)
    (undoubled_more c.args.text.now c.loop-name.name c.loop-name.rest.now c.split_at_quote.result.0.now
    c.split_at_quote.result.1.now c.push.new.self c.split_at_quote.ensures
    (sym c.is_doubled.ensures ∙ c.if-not-is_doubled.false)
    (c.in_ok-push.ensures.ok ∙ ap (λ (x : List ℕ). x ++ 39 ∷ []) c.in_ok-append.ensures.ok) c.loop-name.invariant)
