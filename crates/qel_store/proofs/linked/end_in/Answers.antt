use Rattle.std.proofs.Common.{◌≡◌, ◌<◌, ◌+◌, ◌∙◌, [], ap, arith, length, refl, subst, sym}
use Rattle.grs_base.specs.Same.{same_task}
use Rattle.qel_store.specs.declared.elements.Side.TheVariants.{Task}
use Rattle.qel_store.specs.Items.{Items, members, is_of, held_of, without_task}
use Rattle.qel_store.specs.Rings.{first_key}
use Rattle.qel_store.specs.Linked.{TasksLinked, threaded}
use Rattle.qel_store.proofs.WalkLemmas.{circle-first, circle-length}
use Rattle.qel_store.proofs.EndLemmas.{threaded-ring, end-there, end-count, end-key, end-threaded, end-held, end-others}
use Rattle.qel_store.proofs.EndLemmas.{ends-begin, ends-none, ends-held}
use Rattle.qel_store.proofs.linked.end_in.Goals as goal

pub loop-i-init : goal.loop-i-init
loop-i-init g c =
    let xs = c.args.elements.now.items in
    record {
      queues = c.requires.queues;
      left = omega (arith, circle-length Task (is_of c.args._task) xs c.args.ring c.requires.circle);
      key = circle-first Task (is_of c.args._task) xs c.args.ring c.requires.circle;
      leads_on =
          threaded-ring c.args.ring (members (is_of c.args._task) xs) c.requires.circle.circle c.requires.circle.led;
      others = λ ts m. ends-begin c.args._task xs ts m;
      held = refl;
      len = refl;
      live = λ q. refl;
      steps = omega arith;
    }

pub unqueue-element-requires-clause-there : goal.unqueue-element-requires-clause-there
unqueue-element-requires-clause-there g c =
    let xs = c.loop-i.elements.items in
    let some : 0 < length (members (is_of c.args._task) xs) =
    omega (arith, c.loop-i.invariant.left, c.loop-i-test.true) in
    end-there xs c.args._task c.loop-i.key c.args.ring.first some c.loop-i.invariant.key

pub loop-i-preserved : goal.loop-i-preserved
loop-i-preserved g c =
    let xs = c.loop-i.elements.items in
    let ys = c.unqueue-element.new.elements.items in
    let k = c.loop-i.key in
    let e = c.unqueue-element.result in
    let d = c.args.ring.first in
    let some : 0 < length (members (is_of c.args._task) xs) =
    omega (arith, c.loop-i.invariant.left, c.loop-i-test.true) in
    let is = c.unqueue-element.ensures.items in
    let count : length (members (is_of c.args._task) ys) + 1 ≡ length (members (is_of c.args._task) xs) =
    ap (λ (l : Items). length (members (is_of c.args._task) l) + 1) is
    ∙ end-count xs c.args._task k d e c.loop-i.invariant.queues.keys some c.loop-i.invariant.key
    c.unqueue-element.ensures.element in
    record {
      queues = c.unqueue-element.ensures.queues;
      left = omega (arith, c.loop-i.invariant.left, count);
      key =
          end-key xs c.args._task k d e c.loop-i.invariant.queues.keys some c.loop-i.invariant.key
          c.unqueue-element.ensures.element c.loop-i.invariant.leads_on
          ∙ ap (λ (l : Items). first_key (members (is_of c.args._task) l) d) (sym is);
      leads_on =
          ap (λ (l : Items). threaded (members (is_of c.args._task) l) d) is
          ∙ end-threaded xs c.args._task k d e c.loop-i.invariant.queues.keys some c.loop-i.invariant.key
          c.unqueue-element.ensures.element c.loop-i.invariant.leads_on;
      others = λ ts m.
          subst (λ (l : Items). TasksLinked (same_task c.args._task) l ts) (sym is)
          (end-others xs c.args._task k d e c.loop-i.invariant.queues.keys some c.loop-i.invariant.key
          c.unqueue-element.ensures.element ts (c.loop-i.invariant.others ts m));
      held =
          ap (λ (l : Items). without_task (held_of l) c.args._task) is
          ∙ end-held xs c.args._task k d e c.loop-i.invariant.queues.keys some c.loop-i.invariant.key
          c.unqueue-element.ensures.element
          ∙ c.loop-i.invariant.held;
      len = c.unqueue-element.ensures.len ∙ c.loop-i.invariant.len;
      live = λ q. c.unqueue-element.ensures.live q ∙ c.loop-i.invariant.live q;
      steps = omega (arith, c.loop-i.invariant.steps, c.unqueue-element.ensures.steps);
    }

pub returns : goal.returns
returns g c =
    let xs = c.loop-i.elements.items in
    let none : members (is_of c.args._task) xs ≡ [] =
    ends-none (members (is_of c.args._task) xs) (omega (arith, c.loop-i.invariant.left, c.loop-i-test.false)) in
    record {
      queues = c.loop-i.invariant.queues;
      none = none;
      others = c.loop-i.invariant.others;
      held = sym (ends-held c.args._task xs none) ∙ c.loop-i.invariant.held;
      len = c.loop-i.invariant.len;
      live = c.loop-i.invariant.live;
      steps = omega (arith, c.loop-i.invariant.steps, c.loop-i.invariant.left);
    }
