use Rattle.std.proofs.Common.{ap, ◌∙◌, rules}
use Rattle.deck_scan.specs.declared.token.Token.{Token}
use Rattle.deck_scan.specs.Rows.{row_with}
use Rattle.deck_scan.proofs.Pieces.{takes_open_hexed, takes_hexed}
use Rattle.deck_scan.proofs.row.ScannedLine.take_hexed.Goals as goal

pub returns-in_default : goal.returns-in_default
returns-in_default c =
    takes_open_hexed c.args.text.now c.args.self.now c.split_at_quote.result.0.now c.split_at_quote.result.1.now
    c.put.new.self c.split_at_quote.ensures c.requires (search (rules, c.in_default.ensures.cases)) c.in_ok-put.ensures

pub returns : goal.returns
returns c =
    takes_hexed c.args.text.now c.args.self.now c.split_at_quote.result.0.now c.split_at_quote.result.1.now
    c.in-Some.behind.now c.in-Some.field-0-0.now c.put-2.new.self c.split_at_quote.ensures c.requires
    c.in-Some.ensures.cases.0
    (c.in_ok-put-2.ensures ∙ ap (λ (t : Token). row_with t c.args.self.now) c.in_ok-token.ensures)
