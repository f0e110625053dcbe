use Rattle.std.proofs.Common.{List, [], set, ap, ◌∙◌}
use Rattle.grs_wire.specs.declared.gather.Moved.{Moved}
use Rattle.grs_wire.specs.declared.medium.Mail.{Mail}
use Rattle.grs_medium.specs.Inboxes.{InboxesValue, posted}
use Rattle.grs_medium.proofs.InboxLaws.{inside-boxes, mail_in, mail-changed}
use Rattle.grs_medium.proofs.inboxes.Inboxes.post.Goals as goal

pub returns : goal.returns
returns c =
    c.post_all.ensures
    ∙ (ap
    (λ (l : List (List Moved)).
    posted c.args.target l (mail_in (set c.self.inside.boxes.items c.args.target.0 c.clear.new.self)))
    (ap (λ v. v.items) c.replace-moved.ensures.value ∙ ap (λ (v : InboxesValue). v.moved) c.self.view_is)
    ∙ ap (posted c.args.target c.args.self.now.moved)
    (mail-changed c.self.inside.boxes.items c.self.view_is (λ (mail : List Mail). []) c.clear.new.self
    (inside-boxes c.self.inside.boxes.items c.self.view_is c.requires.system) c.index_mut-inbox.ensures.value
    c.clear.ensures.items))
