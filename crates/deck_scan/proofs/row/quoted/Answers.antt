use Rattle.std.proofs.Common.{sym, ◌∙◌}
use Rattle.deck_scan.proofs.Pieces.{unquotes}
use Rattle.deck_scan.proofs.row.quoted.Goals as goal

pub returns-then-not-is_doubled : goal.returns-then-not-is_doubled
returns-then-not-is_doubled c =
    rw c.there.ensures (unquotes c.args.text.now c.split_at_quote.result.0.now c.split_at_quote.result.1.now c.requires
    c.split_at_quote.ensures (sym c.is_doubled.ensures ∙ c.if-not-is_doubled.true))
