use Rattle.std.proofs.Common.{◌≡◌, ◌++◌}
use Rattle.rnl_syntax.proofs.lines.append_tokens.Given as goal

abbrev pub invariant-loop-token : goal.invariant-loop-token
invariant-loop-token l = l.all ≡ l.fn.tokens ++ l.yielded
