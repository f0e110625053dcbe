use Rattle.rnl_syntax.proofs.Taken.{rnldef_taken}
use Rattle.rnl_syntax.proofs.Again.{rnldef_again}
use Rattle.rnl_syntax.proofs.laws.spelled_tokens.Goals as goal

pub returns-clause-read : goal.returns-clause-read
returns-clause-read c = rnldef_taken

pub returns-clause-every : goal.returns-clause-every
returns-clause-every c = rnldef_again
