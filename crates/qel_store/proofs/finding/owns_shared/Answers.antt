use Rattle.std.proofs.Common.{◌≡◌, ◌∙◌, ap, drop, refl, sym}
use Rattle.grs_base.specs.Lists.{is_shared, owns_shared}
use Rattle.qel_store.specs.declared.elements.Side.TheVariants.{Queue}
use Rattle.qel_store.specs.Items.{Items, members, is_in, elems_of}
use Rattle.qel_store.specs.Rings.{first_key}
use Rattle.qel_store.proofs.WalkLemmas.{circle-first, place-found, place-item, place-next, place-end}
use Rattle.qel_store.proofs.StandingLemmas.{owns-found, owns-end, owns-more, own-later}
use Rattle.qel_store.proofs.finding.owns_shared.Goals as goal

pub loop-i-init : goal.loop-i-init
loop-i-init g c = record {
  key = circle-first Queue (is_in c.args._queue) c.args.elements.now.items c.args.ring c.requires.circle;
  own = c.requires.key;
  rest = refl;
}

pub returns-then-at-key : goal.returns-then-at-key
returns-then-at-key g c =
    let place : c.args.key
    ≡ first_key (drop c.loop-i.i (members (is_in c.args._queue) c.args.elements.now.items)) c.args.ring.first =
    sym c.if-at-key.true ∙ c.loop-i.invariant.key in
    sym (owns-found c.args._queue c.args._task c.args.elements.now.items c.args.ring c.requires.circle c.loop-i.i
    c.args.key c.loop-i-test.true place c.requires.key c.requires.shared)
    ∙ c.loop-i.invariant.rest

pub get-element-requires : goal.get-element-requires
get-element-requires g c =
    place-found Queue (is_in c.args._queue) c.args.elements.now.items c.args.ring c.requires.circle c.loop-i.i
    c.loop-i.at c.loop-i-test.true c.loop-i.invariant.key

pub returns-in-E : goal.returns-in-E
returns-in-E g c =
    sym (owns-end (members (is_in c.args._queue) c.args.elements.now.items) c.args._task c.loop-i.i c.loop-i.at
    c.get-element.result
    (place-item Queue (is_in c.args._queue) c.args.elements.now.items c.args.ring c.requires.circle c.loop-i.i
    c.loop-i.at c.get-element.result c.loop-i-test.true c.loop-i.invariant.key c.get-element.ensures.element)
    (ap is_shared c.in-E.is))
    ∙ c.loop-i.invariant.rest

pub loop-i-preserved : goal.loop-i-preserved
loop-i-preserved g c =
    let ms = members (is_in c.args._queue) c.args.elements.now.items in
    let item =
    place-item Queue (is_in c.args._queue) c.args.elements.now.items c.args.ring c.requires.circle c.loop-i.i
    c.loop-i.at c.get-element.result c.loop-i-test.true c.loop-i.invariant.key c.get-element.ensures.element in
    let later =
    own-later ms c.args._task c.loop-i.i c.args.key c.loop-i.at c.get-element.result item c.loop-i.invariant.own
    c.if-at-key.false in
    record {
      key =
          place-next Queue (is_in c.args._queue) c.args.elements.now.items c.args.ring c.requires.circle c.loop-i.i
          c.loop-i.at c.get-element.result c.loop-i-test.true c.loop-i.invariant.key c.get-element.ensures.element;
      own = later.1;
      rest =
          sym (owns-more ms c.args._task c.loop-i.i c.loop-i.at c.get-element.result item later.0
          (ap is_shared c.in-S.is))
          ∙ c.loop-i.invariant.rest;
    }

pub returns : goal.returns
returns g c =
    sym (ap (λ (l : Items). owns_shared (elems_of l) c.args._task)
    (place-end Queue (is_in c.args._queue) c.args.elements.now.items c.args.ring c.requires.circle c.loop-i.i
    c.loop-i-test.false))
    ∙ c.loop-i.invariant.rest
