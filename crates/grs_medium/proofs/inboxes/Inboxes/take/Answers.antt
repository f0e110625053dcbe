use Rattle.std.proofs.Common.{List, drop}
use Rattle.grs_wire.specs.declared.medium.Mail.{Mail}
use Rattle.grs_medium.proofs.InboxLaws.{inside-boxes, mail-changed}
use Rattle.grs_medium.proofs.inboxes.Inboxes.take.Goals as goal

pub returns-clause-mail : goal.returns-clause-mail
returns-clause-mail c =
    mail-changed c.self.inside.boxes.items c.self.view_is (λ (mail : List Mail). drop 1 mail) c.pop_front.new.self
    (inside-boxes c.self.inside.boxes.items c.self.view_is c.requires) c.index_mut-inbox.ensures.value
    c.pop_front.ensures.rest
