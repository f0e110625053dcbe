use Rattle.std.proofs.Common.{◌≡◌, ◌∙◌, ℕ, ap, arith, drop}
use Rattle.grs_base.specs.Lists.{is_shared, shared_front}
use Rattle.qel_store.specs.declared.elements.Side.TheVariants.{Queue}
use Rattle.qel_store.specs.Items.{Items, members, is_in, elems_of}
use Rattle.qel_store.specs.Rings.{first_key}
use Rattle.qel_store.proofs.WalkLemmas.{circle-first, place-found, place-item, place-next, place-end}
use Rattle.qel_store.proofs.StandingLemmas.{front-end, front-more}
use Rattle.qel_store.proofs.finding.shared_of.Goals as goal

pub loop-len-init : goal.loop-len-init
loop-len-init g c = record {
  key = circle-first Queue (is_in c.args._queue) c.args.elements.now.items c.args.ring c.requires;
  rest = omega arith;
}

pub get-element-requires : goal.get-element-requires
get-element-requires g c =
    place-found Queue (is_in c.args._queue) c.args.elements.now.items c.args.ring c.requires c.loop-len.len
    c.loop-len.key c.loop-len-test.true c.loop-len.invariant.key

pub returns-in-E-clause-len : goal.returns-in-E-clause-len
returns-in-E-clause-len g c =
    omega (
      arith,
      c.loop-len.invariant.rest,
      front-end (members (is_in c.args._queue) c.args.elements.now.items) c.loop-len.len c.loop-len.key
          c.get-element.result
          (place-item Queue (is_in c.args._queue) c.args.elements.now.items c.args.ring c.requires c.loop-len.len
          c.loop-len.key c.get-element.result c.loop-len-test.true c.loop-len.invariant.key
          c.get-element.ensures.element)
          (ap is_shared c.in-E.is),
    )

pub loop-len-preserved : goal.loop-len-preserved
loop-len-preserved g c = record {
  key =
      place-next Queue (is_in c.args._queue) c.args.elements.now.items c.args.ring c.requires c.loop-len.len
      c.loop-len.key c.get-element.result c.loop-len-test.true c.loop-len.invariant.key c.get-element.ensures.element;
  rest =
      omega (
        arith,
        c.loop-len.invariant.rest,
        front-more (members (is_in c.args._queue) c.args.elements.now.items) c.loop-len.len c.loop-len.key
            c.get-element.result
            (place-item Queue (is_in c.args._queue) c.args.elements.now.items c.args.ring c.requires c.loop-len.len
            c.loop-len.key c.get-element.result c.loop-len-test.true c.loop-len.invariant.key
            c.get-element.ensures.element)
            (ap is_shared c.in-S.is),
      );
}

pub returns-clause-len : goal.returns-clause-len
returns-clause-len g c =
    omega (
      arith,
      c.loop-len.invariant.rest,
      ap (λ (l : Items). shared_front (elems_of l)) (place-end Queue (is_in c.args._queue) c.args.elements.now.items
          c.args.ring c.requires c.loop-len.len c.loop-len-test.false),
    )

pub returns-clause-behind : goal.returns-clause-behind
returns-clause-behind g c =
    let same : c.loop-len.len ≡ c.args.ring.len = omega arith in
    c.loop-len.invariant.key
    ∙ ap (λ (n : ℕ). first_key (drop n (members (is_in c.args._queue) c.args.elements.now.items)) c.args.ring.first)
    same
