use Rattle.std.proofs.Common.{sym, subst}
use Rattle.grs_analyze.specs.Numbered.{IsNamedLine}
use Rattle.grs_analyze.proofs.walk.mark_lines.Goals as goal

pub mark_line-requires-clause-named : goal.mark_line-requires-clause-named
mark_line-requires-clause-named c =
    subst (IsNamedLine c.args.tasks.now) (sym c.line-item.is)
    (c.requires.named c.loop-line.line-index c.line-item.result c.loop-line-test.true)
