use Rattle.rnl_syntax.proofs.PrintedAgain.{entry_again}
use Rattle.rnl_syntax.proofs.laws.printed_entries.Goals as goal

pub returns : goal.returns
returns c = record { again = entry_again }
