use Rattle.std.proofs.Common.{◌∙◌, Bool, ap, cond, eqb, sym}
use Rattle.grs_base.specs.Lists.{owners}
use Rattle.grs_base.specs.declared.decision.Standing.TheVariants.{OnlyShared, AmongShared, Waits}
use Rattle.qel_store.specs.declared.elements.Side.TheVariants.{Queue}
use Rattle.qel_store.specs.Items.{members, is_in, elems_of}
use Rattle.qel_store.proofs.WalkLemmas.{circle-first}
use Rattle.qel_store.proofs.StandingLemmas.{begins_where, among-behind, key_other, standing-of_shared}
use Rattle.qel_store.proofs.finding.stands_shared.Goals as goal

pub returns-then-not-owns_shared : goal.returns-then-not-owns_shared
returns-then-not-owns_shared g c =
    sym (standing-of_shared c.args._queue c.args._task c.args.elements.now.items c.args.key c.requires.circle.apart
    c.requires.key c.requires.shared
    ∙ ap (λ (b : Bool).
    cond b (cond (eqb (owners (elems_of (members (is_in c.args._queue) c.args.elements.now.items))) 1) OnlyShared
    AmongShared)
    Waits)
    (sym c.owns_shared.ensures ∙ c.if-not-owns_shared.true))

pub returns-then-key-ring : goal.returns-then-key-ring
returns-then-key-ring g c =
    let ms = members (is_in c.args._queue) c.args.elements.now.items in
    let owns = sym c.owns_shared.ensures ∙ c.if-not-owns_shared.false in
    sym (standing-of_shared c.args._queue c.args._task c.args.elements.now.items c.args.key c.requires.circle.apart
    c.requires.key c.requires.shared
    ∙ ap (λ (b : Bool). cond b (cond (eqb (owners (elems_of ms)) 1) OnlyShared AmongShared) Waits) owns
    ∙ ap (λ (b : Bool). cond b OnlyShared AmongShared) (among-behind ms c.args._task c.args.key c.args.ring.first
    c.requires.key owns (key_other c.args.key c.args.ring.first ms c.if-key-ring.true
    (circle-first Queue (is_in c.args._queue) c.args.elements.now.items c.args.ring c.requires.circle))))

pub is_alone-requires-clause-shared : goal.is_alone-requires-clause-shared
is_alone-requires-clause-shared g c =
    begins_where (elems_of (members (is_in c.args._queue) c.args.elements.now.items)) c.args._task
    (sym c.owns_shared.ensures ∙ c.if-not-owns_shared.false)

pub returns-then-is_alone : goal.returns-then-is_alone
returns-then-is_alone g c =
    sym (standing-of_shared c.args._queue c.args._task c.args.elements.now.items c.args.key c.requires.circle.apart
    c.requires.key c.requires.shared
    ∙ ap (λ (b : Bool).
    cond b (cond (eqb (owners (elems_of (members (is_in c.args._queue) c.args.elements.now.items))) 1) OnlyShared
    AmongShared)
    Waits)
    (sym c.owns_shared.ensures ∙ c.if-not-owns_shared.false)
    ∙ ap (λ (b : Bool). cond b OnlyShared AmongShared) (sym c.is_alone.ensures ∙ c.if-is_alone.true))

pub returns-else-is_alone : goal.returns-else-is_alone
returns-else-is_alone g c =
    sym (standing-of_shared c.args._queue c.args._task c.args.elements.now.items c.args.key c.requires.circle.apart
    c.requires.key c.requires.shared
    ∙ ap (λ (b : Bool).
    cond b (cond (eqb (owners (elems_of (members (is_in c.args._queue) c.args.elements.now.items))) 1) OnlyShared
    AmongShared)
    Waits)
    (sym c.owns_shared.ensures ∙ c.if-not-owns_shared.false)
    ∙ ap (λ (b : Bool). cond b OnlyShared AmongShared) (sym c.is_alone.ensures ∙ c.if-is_alone.false))
