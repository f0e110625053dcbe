use Rattle.std.proofs.Common.{◌≡◌, ◌<◌, ◌≤◌, true, length, subst}
use Rattle.grs_base.specs.Limits.{most_systems}
use Rattle.grs_node.proofs.Fits.{request-sender, part-sender}
use Rattle.grs_node.specs.Node.{is_for_deck}
use Rattle.grs_wire.specs.declared.deck.Deck.{Deck}
use Rattle.grs_wire.specs.declared.medium.Mail.{Mail}
use Rattle.grs_wire.specs.declared.medium.Mail.TheVariants as mails
use Rattle.grs_node.proofs.star.StarPart.took.Goals as goal

-- whose request and whose part came is one of as many systems as there may be
abbrev SenderFits : Mail → Type 0
SenderFits (mails.Request e from q) = q.task.system.0 < most_systems
SenderFits (mails.Part e from recs) = from.0 < most_systems
SenderFits mail = Unit {0}

sender : (deck : Deck) (mail : Mail) → length deck.systems ≤ most_systems → is_for_deck deck mail ≡ true
    → SenderFits mail
sender deck (mails.Request e from q) few h = request-sender deck e from q few h
sender deck (mails.Part e from recs) few h = part-sender deck e from recs few h
sender deck (mails.Answered t answer rank) few h = tt
sender deck (mails.Granted t r) few h = tt
sender deck (mails.Notice target moved) few h = tt

pub hold-requires : goal.hold-requires
hold-requires c =
    subst SenderFits c.in-Request.is (sender c.args.deck.now c.args.mail c.requires.few c.requires.mail)

pub took_part-requires-clause-system : goal.took_part-requires-clause-system
took_part-requires-clause-system c =
    subst SenderFits c.in-Part.is (sender c.args.deck.now c.args.mail c.requires.few c.requires.mail)
