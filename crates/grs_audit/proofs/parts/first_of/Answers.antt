use Rattle.std.proofs.Common.{◌∙◌}
use Rattle.bstr.specs.Find.{is_byte}
use Rattle.deck_scan.proofs.Searches.{byte_position}
use Rattle.grs_audit.proofs.PartLaws.{position-by}
use Rattle.grs_audit.proofs.parts.first_of.Goals as goal

pub returns-clause-at : goal.returns-clause-at
returns-clause-at c =
    byte_position (is_byte c.args.byte) c.args.text.now c.find_byte.result c.find_byte.ensures
    ∙ position-by c.args.byte c.args.text.now
