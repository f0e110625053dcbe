use Rattle.std.proofs.Common.{List, [], ◌∷◌, ◌++◌, ap, ◌∙◌}
use Rattle.grs_wire.specs.declared.medium.Mail.{Mail}
use Rattle.grs_medium.specs.Inboxes.{InboxesValue}
use Rattle.grs_medium.proofs.InboxLaws.{mail-changed}
use Rattle.grs_medium.proofs.inboxes.Inboxes.put.Goals as goal

pub returns : goal.returns
returns c =
    mail-changed
    c.self.inside.boxes.items
    c.self.view_is
    (λ (mail : List Mail). mail ++ c.args.mail ∷ [])
    c.push_back_reserved.new.self
    (c.self.invariant.0 c.args.to (ap (λ (v : InboxesValue). v.ready) c.self.view_is ∙ c.requires)).0
    c.index_mut-inbox.ensures.value
    c.push_back_reserved.ensures.items
