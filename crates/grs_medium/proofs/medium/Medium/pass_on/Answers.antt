use Rattle.std.proofs.Common.{◌≡◌, rules, arith, sym, subst}
use Rattle.std.proofs.lemmas.Grind.{common_steps}
use Rattle.grs_medium.specs.Apply.{turn_row}
use Rattle.grs_medium.specs.GoesOn.{WaitsForLive}
use Rattle.grs_medium.specs.Medium.{MediumState}
use Rattle.grs_medium.proofs.GoesOn.{turn_goes}
use Rattle.grs_medium.proofs.medium.Medium.pass_on.Goals as goal

pub returns-clause-goes_on : goal.returns-clause-goes_on
unfolding turn_row
returns-clause-goes_on c = λ waits.
    let now : MediumState = record {
      star = c.self-2.inside.star;
      message = c.pass_on.new.self.message;
      words = c.self-2.inside.words;
      inboxes = c.self-2.inside.inboxes.mail;
      removed = c.self-2.inside.removed;
      rest = c.self-2.inside.rest;
    } in
    let same : now ≡ (turn_row c.args.self.now.state c.args.caller c.args.out).1 =
    first_of (search rules, grind (arith, common_steps)) in
    subst WaitsForLive (sym same) (turn_goes c.args.self.now.state c.args.caller c.args.out waits)
