use Rattle.deck_scan.proofs.Names.{piece-spelling, piece-is, piece-past, printed_spells}
use Rattle.deck_scan.proofs.laws.printed_names.Goals as goal

pub returns : goal.returns
returns c = record { spelling = piece-spelling; piece = piece-is; says = piece-past; alone = printed_spells }
