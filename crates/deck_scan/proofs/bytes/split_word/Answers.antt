use Rattle.deck_scan.specs.Bytes.{is_word}
use Rattle.deck_scan.proofs.bytes.split_word.Goals as goal

pub returns : goal.returns
returns c = c.cut.ensures is_word c.end_of_word.ensures.at
