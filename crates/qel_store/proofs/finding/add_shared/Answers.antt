use Rattle.std.proofs.Common.{◌+◌, ◌++◌, ◌∷◌, [], ◌∙◌, List, ap, append-nil, append_assoc, drop, sym}
use Rattle.grs_base.specs.Behind.{shared_tasks}
use Rattle.grs_base.specs.Lists.{is_shared}
use Rattle.grs_base.specs.declared.resource.TaskId.{TaskId}
use Rattle.qel_store.specs.declared.elements.Side.TheVariants.{Queue}
use Rattle.qel_store.specs.Items.{Items, members, is_in, elems_of}
use Rattle.qel_store.proofs.WalkLemmas.{place-found, place-item, place-next, place-end}
use Rattle.qel_store.proofs.StandingLemmas.{tasks-end, tasks-more}
use Rattle.qel_store.proofs.finding.add_shared.Goals as goal

pub get-element-requires : goal.get-element-requires
get-element-requires g c =
    place-found Queue (is_in c.args._queue) c.args.elements.now.items c.args.ring c.requires.circle c.loop-place.place
    c.loop-place.key c.loop-place-test.true c.loop-place.invariant.key

pub returns-in-E : goal.returns-in-E
returns-in-E g c =
    sym (append-nil c.loop-place.tasks)
    ∙ ap (λ (l : List TaskId).
    c.loop-place.tasks
    ++ l) (sym (tasks-end (members (is_in c.args._queue) c.args.elements.now.items) c.loop-place.place c.loop-place.key
    c.get-element.result
    (place-item Queue (is_in c.args._queue) c.args.elements.now.items c.args.ring c.requires.circle c.loop-place.place
    c.loop-place.key c.get-element.result c.loop-place-test.true c.loop-place.invariant.key
    c.get-element.ensures.element)
    (ap is_shared c.in-E.is)))
    ∙ c.loop-place.invariant.rest

pub loop-place-preserved : goal.loop-place-preserved
loop-place-preserved g c =
    let ms = members (is_in c.args._queue) c.args.elements.now.items in
    record {
      key =
          place-next Queue (is_in c.args._queue) c.args.elements.now.items c.args.ring c.requires.circle
          c.loop-place.place c.loop-place.key c.get-element.result c.loop-place-test.true c.loop-place.invariant.key
          c.get-element.ensures.element;
      rest =
          ap (λ (l : List TaskId). l ++ shared_tasks (elems_of (drop (c.loop-place.place + 1) ms)))
          c.in_ok-push-in-S.ensures.ok
          ∙ append_assoc c.loop-place.tasks (c.get-element.result.elem.task ∷ [])
          (shared_tasks (elems_of (drop (c.loop-place.place + 1) ms)))
          ∙ ap (λ (l : List TaskId).
          c.loop-place.tasks ++ l) (sym (tasks-more ms c.loop-place.place c.loop-place.key c.get-element.result
          (place-item Queue (is_in c.args._queue) c.args.elements.now.items c.args.ring c.requires.circle
          c.loop-place.place c.loop-place.key c.get-element.result c.loop-place-test.true c.loop-place.invariant.key
          c.get-element.ensures.element)
          (ap is_shared c.in-S.is)))
          ∙ c.loop-place.invariant.rest;
    }

pub returns : goal.returns
returns g c =
    sym (append-nil c.loop-place.tasks)
    ∙ ap (λ (l : Items). c.loop-place.tasks ++ shared_tasks (elems_of l))
    (sym (place-end Queue (is_in c.args._queue) c.args.elements.now.items c.args.ring c.requires.circle
    c.loop-place.place c.loop-place-test.false))
    ∙ c.loop-place.invariant.rest
