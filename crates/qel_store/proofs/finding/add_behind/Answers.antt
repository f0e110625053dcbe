use Rattle.std.proofs.Common.{◌≡◌, ◌+◌, ◌++◌, [], ◌∙◌, Bool, List, ap, append-nil, arith, cond, drop, subst, sym}
use Rattle.std.specs.Prelude.{OnOk}
use Rattle.std.proofs.lemmas.Bool.{ne_eqb}
use Rattle.grs_base.specs.Behind.{shared_tasks}
use Rattle.grs_base.specs.Lists.{is_shared}
use Rattle.grs_base.specs.declared.resource.TaskId.{TaskId}
use Rattle.qel_store.specs.declared.elements.Side.TheVariants.{Queue}
use Rattle.qel_store.specs.Items.{members, is_in, is_of, elems_of, index_of}
use Rattle.qel_store.proofs.ItemLemmas.{key_of-has, keys_apart-members}
use Rattle.qel_store.proofs.WalkLemmas.{circle-first, circle-length}
use Rattle.qel_store.proofs.StandingLemmas.{own-there, own-found, own-some, key_other, behind-first, behind-other}
use Rattle.qel_store.proofs.StandingLemmas.{wall-exclusive}
use Rattle.qel_store.proofs.finding.add_behind.Goals as goal

pub get-element-requires : goal.get-element-requires
get-element-requires g c =
    own-there c.args._queue c.args._task c.args.elements.now.items c.args.key c.requires.circle.apart c.requires.key

pub add_behind_first-requires-clause-some : goal.add_behind_first-requires-clause-some
add_behind_first-requires-clause-some g c =
    omega (
      arith,
      own-some (members (is_in c.args._queue) c.args.elements.now.items) c.args._task c.args.key c.requires.key,
      circle-length Queue (is_in c.args._queue) c.args.elements.now.items c.args.ring c.requires.circle,
    )

pub returns-then-key-ring : goal.returns-then-key-ring
returns-then-key-ring g c =
    subst (λ (l : List TaskId). OnOk c.add_behind_first.result (c.add_behind_first.new.tasks ≡ c.args.tasks.now ++ l))
    (sym (behind-first (members (is_in c.args._queue) c.args.elements.now.items) c.args._task c.args.key
    c.args.ring.first (keys_apart-members (is_in c.args._queue) c.args.elements.now.items c.requires.circle.apart)
    c.requires.key
    (c.if-key-ring.true
    ∙ circle-first Queue (is_in c.args._queue) c.args.elements.now.items c.args.ring c.requires.circle)))
    c.add_behind_first.ensures

pub add_behind_other-requires-clause-there : goal.add_behind_other-requires-clause-there
add_behind_other-requires-clause-there g c =
    key_of-has (is_of c.args._task) (members (is_in c.args._queue) c.args.elements.now.items) c.args.key c.requires.key

pub returns-in-E : goal.returns-in-E
returns-in-E g c =
    let ms = members (is_in c.args._queue) c.args.elements.now.items in
    subst (λ (l : List TaskId). OnOk c.add_behind_other.result (c.add_behind_other.new.tasks ≡ c.args.tasks.now ++ l))
    (sym (behind-other ms c.args._task c.args.key c.args.ring.first
    (keys_apart-members (is_in c.args._queue) c.args.elements.now.items c.requires.circle.apart) c.requires.key
    (key_other c.args.key c.args.ring.first ms c.if-key-ring.false
    (circle-first Queue (is_in c.args._queue) c.args.elements.now.items c.args.ring c.requires.circle))))
    c.add_behind_other.ensures

pub returns-in-S : goal.returns-in-S
returns-in-S g c =
    let ms = members (is_in c.args._queue) c.args.elements.now.items in
    let apart = keys_apart-members (is_in c.args._queue) c.args.elements.now.items c.requires.circle.apart in
    sym (append-nil c.args.tasks.now)
    ∙ ap (λ (l : List TaskId).
    c.args.tasks.now ++ l) (sym (behind-other ms c.args._task c.args.key c.args.ring.first apart c.requires.key
    (key_other c.args.key c.args.ring.first ms c.if-key-ring.false
    (circle-first Queue (is_in c.args._queue) c.args.elements.now.items c.args.ring c.requires.circle))
    ∙ ap (λ (b : Bool). cond b (shared_tasks (elems_of (drop (index_of ms c.args.key + 1) ms))) [])
    (wall-exclusive ms c.args.key c.get-element.result apart
    (own-found c.args._queue c.args._task c.args.elements.now.items c.args.key c.get-element.result
    c.requires.circle.apart c.requires.key c.get-element.ensures.element)
    (ap is_shared c.in-S.is))))

pub add_behind_other-requires-clause-other : goal.add_behind_other-requires-clause-other
add_behind_other-requires-clause-other g c = ne_eqb c.args.key c.args.ring.first c.if-key-ring.false
