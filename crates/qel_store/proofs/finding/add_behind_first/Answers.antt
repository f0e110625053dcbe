use Rattle.std.proofs.Common.{◌≡◌, ◌<◌, ◌++◌, [], ◌∙◌, Bool, ap, append-nil, arith, cond, drop, length, subst, sym}
use Rattle.std.specs.Prelude.{OnOk}
use Rattle.grs_base.specs.Behind.{owner_tasks}
use Rattle.qel_store.specs.declared.elements.Side.TheVariants.{Queue}
use Rattle.qel_store.specs.Items.{members, is_in, elems_of}
use Rattle.qel_store.proofs.WalkLemmas.{circle-length}
use Rattle.qel_store.proofs.StandingLemmas.{elem-first, first-item, first-next, front-alone, length-elems_of}
use Rattle.qel_store.proofs.finding.add_behind_first.Goals as goal

pub owns_alone-requires-clause-first : goal.owns_alone-requires-clause-first
owns_alone-requires-clause-first g c =
    elem-first (members (is_in c.args._queue) c.args.elements.now.items) c.args.ring.first c.args.element
    (first-item c.args._queue c.args.elements.now.items c.args.ring c.requires.circle c.args.element c.requires.some
    c.requires.element)

pub add_owners-requires-clause-key : goal.add_owners-requires-clause-key
add_owners-requires-clause-key g c =
    first-next c.args._queue c.args.elements.now.items c.args.ring c.requires.circle c.args.element c.requires.some
    c.requires.element

pub returns-then-owns_alone : goal.returns-then-owns_alone
returns-then-owns_alone g c =
    let ms = members (is_in c.args._queue) c.args.elements.now.items in
    let some : 0 < length (elems_of ms) =
    omega (
      arith,
      c.requires.some,
      length-elems_of ms,
      circle-length Queue (is_in c.args._queue) c.args.elements.now.items c.args.ring c.requires.circle,
    ) in
    subst (λ (b : Bool).
    OnOk c.add_owners.result
    (c.add_owners.new.tasks ≡ c.args.tasks.now ++ cond b (owner_tasks (elems_of (drop 1 ms))) []))
    (sym c.if-owns_alone.true ∙ c.owns_alone.ensures ∙ front-alone (elems_of ms) some)
    c.add_owners.ensures

pub returns-else-owns_alone : goal.returns-else-owns_alone
returns-else-owns_alone g c =
    let ms = members (is_in c.args._queue) c.args.elements.now.items in
    let some : 0 < length (elems_of ms) =
    omega (
      arith,
      c.requires.some,
      length-elems_of ms,
      circle-length Queue (is_in c.args._queue) c.args.elements.now.items c.args.ring c.requires.circle,
    ) in
    sym (append-nil c.args.tasks.now)
    ∙ ap (λ (b : Bool). c.args.tasks.now ++ cond b (owner_tasks (elems_of (drop 1 ms))) [])
    (sym c.if-owns_alone.false ∙ c.owns_alone.ensures ∙ front-alone (elems_of ms) some)
