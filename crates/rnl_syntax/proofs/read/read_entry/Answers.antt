use Rattle.rnl_syntax.proofs.ReadLaws.{entry_read}
use Rattle.rnl_syntax.proofs.read.read_entry.Goals as goal

pub returns : goal.returns
returns c =
    entry_read c.args.text.now c.of_any-lines.result c.in_ok-statement.statement c.entry_on.result
    c.of_any-lines.ensures.spelled c.in_ok-statement.ensures c.entry_on.ensures
