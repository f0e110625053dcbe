use Rattle.std.proofs.Common.{ap, sym, ◌∙◌}
use Rattle.qel_store.specs.Items.{Items, has_key, changed}
use Rattle.qel_store.specs.Rings.{with_next, with_prev}
use Rattle.qel_store.proofs.ItemLemmas.{has_key-found, has_key-changed}
use Rattle.qel_store.proofs.RingLemmas.{tied-changes, tied_others, tied_alone}
use Rattle.qel_store.proofs.rings.tie.Goals as goal

pub set_next-requires : goal.set_next-requires
set_next-requires g c =
    sym (has_key-found c.args.elements.now.items c.args.at.prev)
    ∙ (tied_others c.args.elements.now.items c.args.key c.args.at c.requires.neighbours c.if-at-key.true).0

pub set_prev-requires : goal.set_prev-requires
set_prev-requires g c =
    sym (has_key-found c.set_next.new.self.items c.args.at.next)
    ∙ ap (λ (l : Items). has_key l c.args.at.next) c.set_next.ensures.items
    ∙ has_key-changed c.args.at.prev (with_next c.args.side c.args.to.next) c.args.elements.now.items c.args.at.next
    ∙ (tied_others c.args.elements.now.items c.args.key c.args.at c.requires.neighbours c.if-at-key.true).1

pub returns-then-at-key-clause-items : goal.returns-then-at-key-clause-items
returns-then-at-key-clause-items g c =
    c.set_prev.ensures.items
    ∙ ap (changed c.args.at.next (with_prev c.args.side c.args.to.prev)) c.set_next.ensures.items
    ∙ tied-changes c.args.side c.args.at c.args.to c.args.elements.now.items

pub returns-else-at-key-clause-items : goal.returns-else-at-key-clause-items
returns-else-at-key-clause-items g c =
    tied_alone c.args.side c.args.elements.now.items c.args.key c.args.at c.args.to c.requires.absent
    c.requires.neighbours c.if-at-key.false
