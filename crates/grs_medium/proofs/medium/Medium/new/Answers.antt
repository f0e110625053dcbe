use Rattle.std.proofs.Common.{◌≡◌, ℕ, List, replicate, rules, arith, sym, subst}
use Rattle.std.proofs.lemmas.Grind.{common_steps}
use Rattle.rsa_message.specs.Message.{Message}
use Rattle.grs_medium.specs.GoesOn.{WaitsForLive}
use Rattle.grs_medium.specs.Medium.{AreWords, first_medium}
use Rattle.grs_medium.proofs.GoesOn.{beside, start_waits}
use Rattle.grs_medium.proofs.NamedLaws.{named-replicate}
use Rattle.grs_medium.proofs.medium.Medium.new.Goals as goal

pub invariant_of-result : goal.invariant_of-result
invariant_of-result c =
    let empty : c.in_ok-words.words ≡ replicate c.args.entries 0 = c.in_ok-words.ensures in (
      first_of (search rules, grind (arith, common_steps)),
      first_of (search rules, grind (arith, common_steps)),
      first_of (search rules, grind (arith, common_steps)),
      subst (λ (words : List ℕ). AreWords c.args.systems words) (sym empty)
          (named-replicate c.args.systems c.args.entries (omega arith)),
    )

pub returns-clause-waits : goal.returns-clause-waits
returns-clause-waits c =
    let start = start_waits c.args.systems c.args.entries c.args.star in
    subst
    (λ (m : Message).
    WaitsForLive (record {
      star = c.args.star;
      message = m;
      words = c.in_ok-words.words;
      inboxes = c.in_ok-inboxes.inboxes.mail;
      removed = 0;
      rest = 0;
    }))
    (sym c.new-3.ensures)
    (beside (first_medium c.args.systems c.args.entries c.args.star) c.in_ok-words.words c.in_ok-inboxes.inboxes.mail 0
    start)
