use Rattle.deck_scan.specs.Rows.{is_no_quote}
use Rattle.deck_scan.proofs.bytes.split_at_quote.Goals as goal

pub returns : goal.returns
returns c = c.cut.ensures is_no_quote c.quote_of.ensures.at
