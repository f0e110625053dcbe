use Rattle.std.proofs.Common.{◌≡◌, ◌++◌, ◌∙◌, ℕ, List, length, ap, sym, arith, append-nil}
use Rattle.std.proofs.lemmas.Grind.{common_steps}
use Rattle.grs_analyze.proofs.WaitLemmas.{row_lines-quiet}
use Rattle.grs_analyze.proofs.text.put_row.Goals as goal

pub returns-then-is_empty : goal.returns-then-is_empty
returns-then-is_empty c =
    let none : length c.args.waits.now ≡ 0 = grind (arith, common_steps, c.is_empty.ensures, c.if-is_empty.true) in
    sym (
    ap (λ (xs : List ℕ). c.args.out.now ++ xs)
    (row_lines-quiet c.args.names.now c.args.row.now c.args.waits.now c.requires none)
    ∙ append-nil c.args.out.now)
