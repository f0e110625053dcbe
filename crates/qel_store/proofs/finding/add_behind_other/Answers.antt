use Rattle.std.proofs.Common.{◌≡◌, ◌<◌, ◌+◌, ◌++◌, [], ◌∙◌, Bool, ℕ, ap, append-nil, arith, cond, drop, eqb, subst, sym}
use Rattle.std.proofs.Common.{true, false}
use Rattle.std.specs.Prelude.{OnOk}
use Rattle.std.proofs.lemmas.Bool.{eqb-true, eq-eqb, ne_eqb}
use Rattle.grs_base.specs.Behind.{shared_tasks}
use Rattle.grs_base.specs.Lists.{shared_front}
use Rattle.qel_store.specs.declared.elements.Side.TheVariants.{Queue}
use Rattle.qel_store.specs.Items.{members, is_in, elems_of, index_of}
use Rattle.qel_store.specs.Rings.{first_key}
use Rattle.qel_store.proofs.ItemLemmas.{keys_apart-members}
use Rattle.qel_store.proofs.WalkLemmas.{place-next}
use Rattle.qel_store.proofs.StandingLemmas.{wall-key, wall-place}
use Rattle.qel_store.proofs.finding.add_behind_other.Goals as goal

pub add_shared-requires-clause-key : goal.add_shared-requires-clause-key
add_shared-requires-clause-key g c =
    let ms = members (is_in c.args._queue) c.args.elements.now.items in
    let within : c.shared_of-shared.result.len < c.args.ring.len =
    wall-place c.args._queue c.args.elements.now.items c.args.ring c.requires.circle c.args.key
    c.shared_of-shared.result.behind c.shared_of-shared.result.len c.requires.there c.requires.other
    c.shared_of-shared.ensures.len c.shared_of-shared.ensures.behind c.if-shared-key.false in
    place-next Queue (is_in c.args._queue) c.args.elements.now.items c.args.ring c.requires.circle
    c.shared_of-shared.result.len c.args.key c.args.element within
    (sym c.if-shared-key.false ∙ c.shared_of-shared.ensures.behind) c.requires.element

pub overflow_add-from : goal.overflow_add-from
overflow_add-from g c =
    let within : c.shared_of-shared.result.len < c.args.ring.len =
    wall-place c.args._queue c.args.elements.now.items c.args.ring c.requires.circle c.args.key
    c.shared_of-shared.result.behind c.shared_of-shared.result.len c.requires.there c.requires.other
    c.shared_of-shared.ensures.len c.shared_of-shared.ensures.behind c.if-shared-key.false in
    omega arith

pub returns : goal.returns
returns g c =
    let ms = members (is_in c.args._queue) c.args.elements.now.items in
    let here : eqb (index_of ms c.args.key) (shared_front (elems_of ms)) ≡ true =
    sym (wall-key ms c.args.key c.shared_of-shared.result.behind c.args.ring.first
    (keys_apart-members (is_in c.args._queue) c.args.elements.now.items c.requires.circle.apart) c.requires.there
    (subst (λ (n : ℕ). c.shared_of-shared.result.behind ≡ first_key (drop n ms) c.args.ring.first)
    c.shared_of-shared.ensures.len c.shared_of-shared.ensures.behind)
    c.requires.other)
    ∙ eq-eqb c.shared_of-shared.result.behind c.args.key c.if-shared-key.false in
    let place : c.shared_of-shared.result.len ≡ index_of ms c.args.key =
    c.shared_of-shared.ensures.len ∙ sym (eqb-true (index_of ms c.args.key) (shared_front (elems_of ms)) here) in
    subst (λ (b : Bool).
    OnOk c.add_shared.result (c.add_shared.new.tasks
    ≡ c.args.tasks.now ++ cond b (shared_tasks (elems_of (drop (index_of ms c.args.key + 1) ms))) []))
    (sym here)
    (subst (λ (n : ℕ).
    OnOk c.add_shared.result (c.add_shared.new.tasks ≡ c.args.tasks.now ++ shared_tasks (elems_of (drop (n + 1) ms))))
    place c.add_shared.ensures)

pub returns-then-shared-key : goal.returns-then-shared-key
returns-then-shared-key g c =
    let ms = members (is_in c.args._queue) c.args.elements.now.items in
    let away : eqb (index_of ms c.args.key) (shared_front (elems_of ms)) ≡ false =
    sym (wall-key ms c.args.key c.shared_of-shared.result.behind c.args.ring.first
    (keys_apart-members (is_in c.args._queue) c.args.elements.now.items c.requires.circle.apart) c.requires.there
    (subst (λ (n : ℕ). c.shared_of-shared.result.behind ≡ first_key (drop n ms) c.args.ring.first)
    c.shared_of-shared.ensures.len c.shared_of-shared.ensures.behind)
    c.requires.other)
    ∙ ne_eqb c.shared_of-shared.result.behind c.args.key c.if-shared-key.true in
    sym (append-nil c.args.tasks.now)
    ∙ ap (λ (b : Bool). c.args.tasks.now ++ cond b (shared_tasks (elems_of (drop (index_of ms c.args.key + 1) ms))) [])
    (sym away)
