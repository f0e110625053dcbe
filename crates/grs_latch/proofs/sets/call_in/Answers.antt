use Rattle.std.proofs.Common.{ap, ◌∙◌}
use Rattle.grs_latch.specs.Calls.{plain}
use Rattle.grs_latch.proofs.sets.call_in.Goals as goal

pub returns-in_ok-code-in-Obt-clause-reply : goal.returns-in_ok-code-in-Obt-clause-reply
returns-in_ok-code-in-Obt-clause-reply c =
    rw c.in-Obt.is (c.plain-in-Obt.ensures ∙ ap plain c.in_ok-code-in-Obt.ensures.code)
