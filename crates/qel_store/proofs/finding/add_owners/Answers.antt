use Rattle.std.proofs.Common.{◌≡◌, ◌<◌, ◌+◌, ◌++◌, ◌∷◌, [], ◌∙◌, List, ap, append-nil, append_assoc, arith, drop, subst}
use Rattle.std.proofs.Common.{sym}
use Rattle.std.specs.Prelude.{OnOk}
use Rattle.grs_base.specs.Behind.{shared_tasks, owner_tasks}
use Rattle.grs_base.specs.Lists.{is_shared}
use Rattle.grs_base.specs.declared.resource.TaskId.{TaskId}
use Rattle.qel_store.specs.declared.elements.Side.TheVariants.{Queue}
use Rattle.qel_store.specs.Items.{Items, members, is_in, elems_of}
use Rattle.qel_store.proofs.WalkLemmas.{place-found, place-item, place-next, place-end}
use Rattle.qel_store.proofs.StandingLemmas.{owners-end, owners-more}
use Rattle.qel_store.proofs.finding.add_owners.Goals as goal

pub returns-then-ring-from : goal.returns-then-ring-from
returns-then-ring-from g c =
    sym (append-nil c.args.tasks.now)
    ∙ ap (λ (l : Items). c.args.tasks.now ++ owner_tasks (elems_of l))
    (sym (place-end Queue (is_in c.args._queue) c.args.elements.now.items c.args.ring c.requires.circle c.args.from
    c.if-ring-from.true))

pub get-element-requires : goal.get-element-requires
get-element-requires g c =
    let within : c.args.from < c.args.ring.len = omega (arith, c.if-ring-from.false) in
    place-found Queue (is_in c.args._queue) c.args.elements.now.items c.args.ring c.requires.circle c.args.from
    c.args.first within c.requires.key

pub returns-in-E : goal.returns-in-E
returns-in-E g c =
    let within : c.args.from < c.args.ring.len = omega (arith, c.if-ring-from.false) in
    c.in_ok-push.ensures.ok
    ∙ ap (λ (l : List TaskId).
    c.args.tasks.now
    ++ l) (sym (owners-end (members (is_in c.args._queue) c.args.elements.now.items) c.args.from c.args.first
    c.get-element.result
    (place-item Queue (is_in c.args._queue) c.args.elements.now.items c.args.ring c.requires.circle c.args.from
    c.args.first c.get-element.result within c.requires.key c.get-element.ensures.element)
    (ap is_shared c.in-E.is)))

pub add_shared-requires-clause-key : goal.add_shared-requires-clause-key
add_shared-requires-clause-key g c =
    let within : c.args.from < c.args.ring.len = omega (arith, c.if-ring-from.false) in
    place-next Queue (is_in c.args._queue) c.args.elements.now.items c.args.ring c.requires.circle c.args.from
    c.args.first c.get-element.result within c.requires.key c.get-element.ensures.element

pub returns-in-S : goal.returns-in-S
returns-in-S g c =
    let ms = members (is_in c.args._queue) c.args.elements.now.items in
    let within : c.args.from < c.args.ring.len = omega (arith, c.if-ring-from.false) in
    subst (λ (l : List TaskId). OnOk c.add_shared.result (c.add_shared.new.tasks ≡ l))
    (ap (λ (l : List TaskId). l ++ shared_tasks (elems_of (drop (c.args.from + 1) ms))) c.in_ok-push.ensures.ok
    ∙ append_assoc c.args.tasks.now (c.get-element.result.elem.task ∷ [])
    (shared_tasks (elems_of (drop (c.args.from + 1) ms)))
    ∙ ap (λ (l : List TaskId). c.args.tasks.now ++ l) (sym (owners-more ms c.args.from c.args.first c.get-element.result
    (place-item Queue (is_in c.args._queue) c.args.elements.now.items c.args.ring c.requires.circle c.args.from
    c.args.first c.get-element.result within c.requires.key c.get-element.ensures.element)
    (ap is_shared c.in-S.is))))
    c.add_shared.ensures
