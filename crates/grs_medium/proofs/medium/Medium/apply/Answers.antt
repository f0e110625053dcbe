use Rattle.std.proofs.Common.{sym, subst}
use Rattle.grs_medium.specs.GoesOn.{WaitsForLive}
use Rattle.grs_medium.proofs.GoesOn.{row_goes}
use Rattle.grs_medium.proofs.medium.Medium.apply.Goals as goal

pub returns-clause-goes_on : goal.returns-clause-goes_on
returns-clause-goes_on c = λ waits.
    subst WaitsForLive (sym c.act.ensures.state)
    (row_goes c.args.self.now.state c.args.caller c.args.call.act waits)
