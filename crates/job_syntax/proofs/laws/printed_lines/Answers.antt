use Rattle.job_syntax.proofs.PrintedAgain.{line_again}
use Rattle.job_syntax.proofs.laws.printed_lines.Goals as goal

pub returns : goal.returns
returns c = record { again = line_again }
