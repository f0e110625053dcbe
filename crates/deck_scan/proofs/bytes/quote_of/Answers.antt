use Rattle.bstr.specs.Find.{is_byte}
use Rattle.deck_scan.proofs.Searches.{byte_position}
use Rattle.deck_scan.proofs.bytes.quote_of.Goals as goal

pub returns-clause-at : goal.returns-clause-at
returns-clause-at c = byte_position (is_byte 39) c.args.text.now c.find_byte.result c.find_byte.ensures
