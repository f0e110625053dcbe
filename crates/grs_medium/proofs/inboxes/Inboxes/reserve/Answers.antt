use Rattle.grs_medium.proofs.InboxLaws.{mail-same}
use Rattle.grs_medium.proofs.inboxes.Inboxes.reserve.Goals as goal

pub returns-clause-mail : goal.returns-clause-mail
returns-clause-mail c =
    mail-same c.self.inside.boxes.items c.self.view_is c.reserve.new.self c.requires c.index_mut-inbox.ensures.value
    c.reserve.ensures.items

pub returns-then-is_err-clause-mail : goal.returns-then-is_err-clause-mail
returns-then-is_err-clause-mail c =
    mail-same c.self.inside.boxes.items c.self.view_is c.reserve.new.self c.requires c.index_mut-inbox.ensures.value
    c.reserve.ensures.items
