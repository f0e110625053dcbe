use Rattle.std.proofs.Common.{◌∙◌, Option, ap, cond, eqb, sym, false, ℕ}
use Rattle.std.specs.Option.{option_map_or}
use Rattle.grs_base.specs.Lists.{is_shared}
use Rattle.grs_base.specs.declared.decision.Standing.TheVariants.{OnlyShared, AmongShared}
use Rattle.qel_store.specs.declared.elements.Element.{Element}
use Rattle.qel_store.specs.declared.elements.Side.TheVariants.{Queue}
use Rattle.qel_store.specs.Items.{members, is_in}
use Rattle.qel_store.proofs.ItemLemmas.{keys_apart-members}
use Rattle.qel_store.proofs.WalkLemmas.{circle-first, circle-length}
use Rattle.qel_store.proofs.StandingLemmas.{own-there, own-found, standing-all, standing-exclusive_first}
use Rattle.qel_store.proofs.StandingLemmas.{standing-exclusive_behind, key_other}
use Rattle.qel_store.proofs.finding.stands.Goals as goal

pub returns-then-head-eq0 : goal.returns-then-head-eq0
returns-then-head-eq0 g c =
    c.owner_among.ensures
    ∙ ap (λ (n : ℕ). cond (eqb n 1) OnlyShared AmongShared)
    (circle-length Queue (is_in c.args._queue) c.args.elements.now.items c.args.head.ring c.requires.circle)
    ∙ sym (standing-all (members (is_in c.args._queue) c.args.elements.now.items) c.args._task c.args.key
    (sym c.requires.exclusives ∙ c.if-head-eq0.true) c.requires.key)

pub get-requires : goal.get-requires
get-requires g c =
    own-there c.args._queue c.args._task c.args.elements.now.items c.args.key c.requires.circle.apart c.requires.key

pub returns-then-key-head : goal.returns-then-key-head
returns-then-key-head g c =
    sym (standing-exclusive_first (members (is_in c.args._queue) c.args.elements.now.items) c.args._task c.args.key
    c.args.head.ring.first c.get.result
    (keys_apart-members (is_in c.args._queue) c.args.elements.now.items c.requires.circle.apart) c.requires.key
    (own-found c.args._queue c.args._task c.args.elements.now.items c.args.key c.get.result c.requires.circle.apart
    c.requires.key c.get.ensures.element)
    (ap is_shared c.in-E.is)
    (c.if-key-head.true
    ∙ circle-first Queue (is_in c.args._queue) c.args.elements.now.items c.args.head.ring c.requires.circle))

pub returns-else-key-head : goal.returns-else-key-head
returns-else-key-head g c =
    sym (standing-exclusive_behind (members (is_in c.args._queue) c.args.elements.now.items) c.args._task c.args.key
    c.args.head.ring.first c.get.result
    (keys_apart-members (is_in c.args._queue) c.args.elements.now.items c.requires.circle.apart) c.requires.key
    (own-found c.args._queue c.args._task c.args.elements.now.items c.args.key c.get.result c.requires.circle.apart
    c.requires.key c.get.ensures.element)
    (ap is_shared c.in-E.is)
    (key_other c.args.key c.args.head.ring.first (members (is_in c.args._queue) c.args.elements.now.items)
    c.if-key-head.false
    (circle-first Queue (is_in c.args._queue) c.args.elements.now.items c.args.head.ring c.requires.circle)))

pub stands_shared-requires-clause-shared : goal.stands_shared-requires-clause-shared
stands_shared-requires-clause-shared g c =
    ap (λ (o : Option Element). option_map_or (λ e. is_shared e.elem.ctl) o false) c.get.ensures.element
    ∙ ap is_shared c.in-S.is
