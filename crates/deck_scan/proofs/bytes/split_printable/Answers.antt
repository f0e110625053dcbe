use Rattle.grs_base.specs.Printed.{is_printable}
use Rattle.deck_scan.proofs.bytes.split_printable.Goals as goal

pub returns : goal.returns
returns c = c.cut.ensures is_printable c.end_of_printable.ensures.at
