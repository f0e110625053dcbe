use Rattle.std.proofs.Common.{◌≡◌, ◌<◌, List, length, nat_eq, subst, sym}
use Rattle.std.specs.Prelude.{IfSome, slice_get}
use Rattle.grs_base.specs.State.{with_exclusive}
use Rattle.grs_base.specs.declared.resource.Elem.{Elem}
use Rattle.qel_store.specs.Items.{held_of}
use Rattle.qel_store.proofs.TieLemmas.{list_at-held}
use Rattle.qel_store.proofs.linked.LinkedQueuesQueues.to_exclusive.Goals as goal

pub exclude_in-requires-clause-place : goal.exclude_in-requires-clause-place
exclude_in-requires-clause-place c =
    subst (λ (l : List Elem). c.args.place < length l) (list_at-held c.args.self.now.elements.items c.args.queue)
    c.requires.place

pub invariant_of-self-clause-linked : goal.invariant_of-self-clause-linked
invariant_of-self-clause-linked c =
    c.exclude_in.ensures.tasks c.args.self.now.tasks.circles.entries c.args.self.now.linked

pub returns-clause-elements : goal.returns-clause-elements
returns-clause-elements c =
    subst (λ (l : List Elem).
    IfSome (slice_get l c.args.place) (λ e.
    held_of c.exclude_in.new.elements.items
    ≡ with_exclusive nat_eq (held_of c.args.self.now.elements.items) c.args.queue e.task))
    (sym (list_at-held c.args.self.now.elements.items c.args.queue)) c.exclude_in.ensures.held
