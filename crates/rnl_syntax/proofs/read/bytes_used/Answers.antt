use Rattle.std.proofs.Common.{subst}
use Rattle.std.specs.Prelude.{ℕ}
use Rattle.deck_scan.specs.Closes.{HaveCloses}
use Rattle.rnl_syntax.proofs.Used.{enough, used_by}
use Rattle.rnl_syntax.proofs.read.bytes_used.Goals as goal

pub bytes_to_close-requires : goal.bytes_to_close-requires
bytes_to_close-requires c = rw c.operand_count.ensures (enough c.args.text.now c.args.entry.now c.requires)

pub returns : goal.returns
returns c =
    used_by c.args.text.now c.args.entry.now c.bytes_to_close.result c.requires
    (subst (λ (n : ℕ). HaveCloses c.args.text.now n c.bytes_to_close.result) c.operand_count.ensures
    c.bytes_to_close.ensures)
