use Rattle.std.proofs.Common.{rules}
use Rattle.deck_scan.proofs.Pieces.{takes_open_quote, takes_quoted}
use Rattle.deck_scan.proofs.row.ScannedLine.take_quoted.Goals as goal

pub returns-in_default : goal.returns-in_default
returns-in_default c =
    takes_open_quote c.args.text.now c.args.self.now c.in_ok-name.name c.in_ok-name.quote.now c.put.new.self
    c.in_ok-name.ensures (search (rules, c.in_default.ensures.cases)) c.in_ok-put.ensures

pub returns : goal.returns
returns c =
    takes_quoted c.args.text.now c.args.self.now c.in_ok-name.name c.in_ok-name.quote.now c.in-Some.behind.now
    c.in-Some.field-0-0.now c.put-2.new.self c.in_ok-name.ensures c.in-Some.ensures.cases.0 c.in_ok-put-2.ensures
