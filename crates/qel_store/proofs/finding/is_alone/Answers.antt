use Rattle.std.proofs.Common.{◌≡◌, ◌<◌, ◌∙◌, ap, arith, length, not, sym}
use Rattle.grs_base.specs.Lists.{is_shared}
use Rattle.qel_store.specs.declared.elements.Side.TheVariants.{Queue}
use Rattle.qel_store.specs.Items.{members, is_in}
use Rattle.qel_store.proofs.WalkLemmas.{circle-length}
use Rattle.qel_store.proofs.StandingLemmas.{alone-one, circle-some, first-there, second-there, alone-second}
use Rattle.qel_store.proofs.finding.is_alone.Goals as goal

pub returns-then-ring-eq1 : goal.returns-then-ring-eq1
returns-then-ring-eq1 g c =
    let one : length (members (is_in c.args._queue) c.args.elements.now.items) ≡ 1 =
    sym (circle-length Queue (is_in c.args._queue) c.args.elements.now.items c.args.ring c.requires.circle)
    ∙ c.if-ring-eq1.true in
    alone-one (members (is_in c.args._queue) c.args.elements.now.items) one

pub get-second-requires : goal.get-second-requires
get-second-requires g c =
    first-there c.args._queue c.args.elements.now.items c.args.ring c.requires.circle
    (circle-some c.args._queue c.args.elements.now.items c.args.ring c.requires.circle c.requires.shared)

pub get-requires : goal.get-requires
get-requires g c =
    let two : 1 < c.args.ring.len =
    omega (
      arith,
      c.if-ring-eq1.false,
      circle-some c.args._queue c.args.elements.now.items c.args.ring c.requires.circle c.requires.shared,
    ) in
    second-there c.args._queue c.args.elements.now.items c.args.ring c.requires.circle c.get-second.result two
    c.get-second.ensures.element

pub returns-in-E : goal.returns-in-E
returns-in-E g c =
    let two : 1 < c.args.ring.len =
    omega (
      arith,
      c.if-ring-eq1.false,
      circle-some c.args._queue c.args.elements.now.items c.args.ring c.requires.circle c.requires.shared,
    ) in
    sym (alone-second c.args._queue c.args.elements.now.items c.args.ring c.requires.circle c.get-second.result
    c.get.result two c.get-second.ensures.element c.get.ensures.element c.requires.shared
    ∙ ap not (ap is_shared c.in-E.is))

pub returns-in-S : goal.returns-in-S
returns-in-S g c =
    let two : 1 < c.args.ring.len =
    omega (
      arith,
      c.if-ring-eq1.false,
      circle-some c.args._queue c.args.elements.now.items c.args.ring c.requires.circle c.requires.shared,
    ) in
    sym (alone-second c.args._queue c.args.elements.now.items c.args.ring c.requires.circle c.get-second.result
    c.get.result two c.get-second.ensures.element c.get.ensures.element c.requires.shared
    ∙ ap not (ap is_shared c.in-S.is))
