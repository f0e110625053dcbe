-- What has something to do is of the deck: its task stands in its system, its lock entry is one that there is, and who
-- is to be removed is another system.
use Rattle.std.proofs.Common.{◌≡◌, ◌≢◌, ◌<◌, ◌+◌, ◌⊎◌, ℕ, zero, suc, Bool, true, false, cond, List, [], ◌∷◌, ◌++◌}
use Rattle.std.proofs.Common.{length}
use Rattle.std.proofs.Common.{take, Option, Some, None, refl, ap, sym, ◌∙◌, subst, arith, inl, inr}
use Rattle.std.specs.Prelude.{◌==◌, ◌&&◌, is_some, nat_lt, slice_get, slice_index_or, unwrap_or}
use Rattle.std.specs.Option.{option_map}
use Rattle.std.proofs.lemmas.Bool.{and_parts, eqb-true}
use Rattle.std.proofs.lemmas.List.{length-map}
use Rattle.std.proofs.lemmas.Option.{slice_get_within}
use Rattle.contention_mgr.specs.Manager.{Managed, first_untold, items_of, owner_of}
use Rattle.grs_base.specs.declared.resource.Res.{Res}
use Rattle.grs_base.specs.declared.resource.SysId.{SysId}
use Rattle.grs_base.specs.declared.resource.TaskId.{TaskId}
use Rattle.grs_base.specs.declared.rnl.Lists.{Lists}
use Rattle.grs_known.proofs.lists.Facts.{take-none}
use Rattle.grs_legal.specs.Asks.{Script, lines_at, meanings, scripts_at, scripts_from, scripts_in}
use Rattle.grs_node.proofs.Calls.{target-of}
use Rattle.grs_node.proofs.StartFits.{orders-at}
use Rattle.grs_node.specs.Node.{NodeState, goes_on, is_of_deck, is_to_send, may_go, may_send, next_order, prepare}
use Rattle.grs_node.specs.Node.{prepared_by, purge_call, star_call}
use Rattle.grs_node.specs.Names.{names_of}
use Rattle.grs_node.specs.Star.{StarPart, has_interest, may_leave, owed_to, part_by, send_of, tell_by, to_tell}
use Rattle.grs_node.specs.declared.prepared.Prepared.TheVariants.{Quiet, Call, Nothing}
use Rattle.grs_node.specs.declared.star.Need.TheVariants.{Asks, Idle}
use Rattle.grs_wire.specs.Decks.{IsChoiceOf, IsDeck, IsTaskOf, task_count}
use Rattle.grs_wire.specs.declared.deck.Choice.{Choice}
use Rattle.grs_wire.specs.declared.deck.Choice.TheVariants as choices
use Rattle.grs_wire.specs.declared.deck.Deck.{Deck}
use Rattle.grs_wire.specs.declared.deck.JobDef.{JobDef}
use Rattle.grs_wire.specs.declared.deck.Order.{Order}
use Rattle.grs_wire.specs.declared.deck.Order.TheVariants as orders
use Rattle.grs_wire.specs.declared.deck.SystemDef.{SystemDef}
use Rattle.grs_wire.specs.declared.deck.TaskDef.{TaskDef}
use Rattle.grs_wire.specs.declared.medium.Act.TheVariants as acts
use Rattle.task_state.specs.View.{is_task, state_of}

-- ---- lists
-- below its length a list has an item
pub item_at : {X : Type 0} (xs : List X) (i : ℕ) → i < length xs → (x : X) × (slice_get xs i ≡ Some x)
item_at [] i within = absurd (omega (arith, within))
item_at (x ∷ xs) zero within = (x, refl)
item_at (x ∷ xs) (suc i) within = item_at xs i (omega (arith, within))

-- an item of two lists one behind the other is of the first, or of the second
item_of_two : {X : Type 0} (xs ys : List X) (i : ℕ) (x : X) → slice_get (xs ++ ys) i ≡ Some x
    → (slice_get xs i ≡ Some x) ⊎ ((k : ℕ) × (i ≡ length xs + k) × (slice_get ys k ≡ Some x))
item_of_two [] ys i x at = inr (i, omega arith, at)
item_of_two (y ∷ xs) ys zero x at = inl at
item_of_two (y ∷ xs) ys (suc i) x at = go (item_of_two xs ys i x at)
  where
    go : (slice_get xs i ≡ Some x) ⊎ ((k : ℕ) × (i ≡ length xs + k) × (slice_get ys k ≡ Some x))
        → (slice_get xs i ≡ Some x) ⊎ ((k : ℕ) × (suc i ≡ suc (length xs) + k) × (slice_get ys k ≡ Some x))
    go (inl a) = inl a
    go (inr b) = inr (b.0, omega (arith, b.1), b.2)

-- a flag that is set stands in its list
flag_within : (flags : List Bool) (i : ℕ) → slice_index_or flags i false ≡ true → i < length flags
flag_within [] i set = absurd cc
flag_within (b ∷ bs) zero set = omega arith
flag_within (b ∷ bs) (suc i) set = let more = flag_within bs i set in omega (arith, more)

-- so does whom a part is owed to
owed_within : (os : List (Option SysId)) (i : ℕ) (to : SysId) → unwrap_or (slice_get os i) None ≡ Some to
    → i < length os
owed_within [] i to owed = absurd cc
owed_within (o ∷ os) zero to owed = omega arith
owed_within (o ∷ os) (suc i) to owed = let more = owed_within os i to owed in omega (arith, more)

-- ---- where a task stands
-- Where a script stands among those of jobs, of which the first has this number: its job has a place among them, and
-- the task one in the job.
record Stands (first : ℕ) (js : List JobDef) (i : ℕ) (s : Script) : Type 0 where
  k : ℕ
  job : JobDef
  place : ℕ
  number : s.job ≡ first + k
  held : slice_get js k ≡ Some job
  below : place < length job.tasks
  at : i ≡ task_count (take k js) + place

-- the script of a task of the job of this number
abbrev script : ℕ → TaskDef → Script
script job t = record { job = job; lines = t.lines }

in_job : (first : ℕ) (ts : List TaskDef) (i : ℕ) (s : Script) → slice_get (scripts_in first ts) i ≡ Some s
    → (i < length ts) × (s.job ≡ first)
in_job first [] i s at = absurd cc
in_job first (t ∷ ts) zero s at =
    let same : script first t ≡ s = cc in (omega arith, ap (λ (z : Script). z.job) (sym same))
in_job first (t ∷ ts) (suc i) s at = let more = in_job first ts i s at in (omega (arith, more.0), more.1)

stands_at : (first : ℕ) (js : List JobDef) (i : ℕ) (s : Script) → slice_get (scripts_from first js) i ≡ Some s
    → Stands first js i s
stands_at first [] i s at = absurd cc
stands_at first (j ∷ js) i s at =
    go (λ k there. stands_at (suc first) js k s there)
    (item_of_two (scripts_in first j.tasks) (scripts_from (suc first) js) i s at)
  where
    count : length (scripts_in first j.tasks) ≡ length j.tasks
    count = length-map j.tasks (script first)

    none : task_count (take 0 (j ∷ js)) ≡ 0
    none = ap task_count (take-none (j ∷ js))

    more : (k : ℕ) → task_count (take (suc k) (j ∷ js)) ≡ length j.tasks + task_count (take k js)
    more k = refl

    go : ((k : ℕ) → slice_get (scripts_from (suc first) js) k ≡ Some s → Stands (suc first) js k s)
        → (slice_get (scripts_in first j.tasks) i ≡ Some s)
        ⊎ ((k : ℕ) × (i ≡ length (scripts_in first j.tasks) + k) × (slice_get (scripts_from (suc first) js) k ≡ Some s))
        → Stands first (j ∷ js) i s
    go further (inl here) =
        let h = in_job first j.tasks i s here in
        record {
          k = 0;
          job = j;
          place = i;
          number = omega (arith, h.1);
          held = refl;
          below = h.0;
          at = omega (arith, none);
        }
    go further (inr later) =
        let h = further later.0 later.2 in
        record {
          k = suc h.k;
          job = h.job;
          place = h.place;
          number = omega (arith, h.number);
          held = h.held;
          below = h.below;
          at = omega (arith, later.1, count, h.at, more h.k);
        }

-- the script of a task of the deck is that of its job
script_of : (lists : Lists) (t : TaskId) (o : Option Script) → is_some (meanings lists t (lines_at t.job o)) ≡ true
    → (s : Script) × (o ≡ Some s) × (s.job ≡ t.job)
script_of lists t None h = absurd cc
script_of lists t (Some s) h = go (s.job == t.job) refl h
  where
    go : (b : Bool) → (s.job == t.job) ≡ b → is_some (meanings lists t (cond b (Some s.lines) None)) ≡ true
        → (z : Script) × (Some s ≡ Some z) × (z.job ≡ t.job)
    go true e k = (s, refl, eqb-true s.job t.job e)
    go false e k = absurd cc

-- a task of the deck whose system is this one stands there
task_of_deck : (deck : Deck) (t : TaskId) (id : SysId) (s : SystemDef) → is_of_deck deck t ≡ true → t.system.0 ≡ id.0
    → slice_get deck.systems id.0 ≡ Some s → IsTaskOf s id t
task_of_deck deck t id s of own found =
    let at : slice_get deck.systems t.system.0 ≡ Some s = ap (λ k. slice_get deck.systems k) own ∙ found in
    let in_system : is_some (meanings deck.lists t (lines_at t.job (slice_get (scripts_at (Some s)) t.task))) ≡ true =
    subst (λ (o : Option SystemDef).
    is_some (meanings deck.lists t (lines_at t.job (slice_get (scripts_at o) t.task))) ≡ true) at of in
    let script = script_of deck.lists t (slice_get (scripts_from 0 s.jobs) t.task) in_system in
    let stands = stands_at 0 s.jobs t.task script.0 script.1 in
    let same : stands.k ≡ t.job = omega (arith, stands.number, script.2) in
    record {
      job = stands.job;
      place = stands.place;
      system = ap (λ (k : ℕ). let z : SysId = record { 0 = k } in z) own;
      held = subst (λ (k : ℕ). slice_get s.jobs k ≡ Some stands.job) same stands.held;
      below = stands.below;
      at = subst (λ (k : ℕ). t.task ≡ task_count (take k s.jobs) + stands.place) same stands.at;
    }

-- ---- what an event needs that has something to do
some_quiet : (b : Bool) → cond b Quiet Nothing ≢ Nothing → b ≡ true
some_quiet true h = refl
some_quiet false h = absurd (h refl)

-- an own task of the deck
own_task : (deck : Deck) (n : NodeState) (t : TaskId) (goes : Bool)
    → (is_task n.tasks t && (is_of_deck deck t && goes)) ≡ true
    → (n.tasks.system ≡ t.system.0) × (is_of_deck deck t ≡ true)
own_task deck n t goes h =
    let parts = and_parts (is_task n.tasks t) (is_of_deck deck t && goes) h in (
      eqb-true n.tasks.system t.system.0
          (and_parts (n.tasks.system == t.system.0) (nat_lt t.task (length n.tasks.tasks)) parts.0).0,
      (and_parts (is_of_deck deck t) goes parts.1).0,
    )

-- of a system of a number, whose part in star mode has the entries of the deck
module _ (deck : Deck) (whole : IsDeck deck) (n : NodeState) (id : SysId) (s : SystemDef)
    (home : n.tasks.system ≡ id.0) (found : slice_get deck.systems id.0 ≡ Some s)
    (sized : (p : StarPart) → n.star ≡ Some p
    → (length p.manager.entries ≡ deck.entries) × (length p.interest ≡ deck.entries) × (length p.owes ≡ deck.entries))
  where
    goes_there : (t : TaskId) → may_go deck n t ≡ true → IsTaskOf s id t
    unfolding may_go
    goes_there t h =
        let own = own_task deck n t (goes_on (state_of n.tasks t).phase) h in
        task_of_deck deck t id s own.1 (sym own.0 ∙ home) found

    sends_there : (t : TaskId) → may_send deck n t ≡ true → IsTaskOf s id t
    unfolding may_send
    sends_there t h =
        let own = own_task deck n t (is_to_send (state_of n.tasks t).phase) h in
        task_of_deck deck t id s own.1 (sym own.0 ∙ home) found

    -- a request is sent
    send_there : (t : TaskId) (o : Option StarPart) → star_call deck n o (choices.Send t) ≢ Nothing → IsTaskOf s id t
    unfolding star_call
    send_there t None h = absurd (h refl)
    send_there t (Some p) h = go (may_send deck n t) refl h
      where
        go : (b : Bool) → may_send deck n t ≡ b
            → prepared_by n.known (cond b (send_of p t (state_of n.tasks t).outstanding) Idle) ≢ Nothing
            → IsTaskOf s id t
        go true e k = sends_there t e
        go false e k = absurd (k refl)

    -- an owner is told by a manager of the entry
    managed_below : (p : StarPart) (e : ℕ) → length p.manager.entries ≡ deck.entries
        → prepared_by n.known (tell_by (to_tell p e)) ≢ Nothing → e < deck.entries
    managed_below p e count h = go (slice_get p.manager.entries e) refl
      where
        none : slice_get p.manager.entries e ≡ None → to_tell p e ≡ None
        none at =
            ap (λ (o : Option (Option Managed)).
            option_map owner_of (first_untold p.manager.system.0 (items_of (unwrap_or o None)))) at

        go : (o : Option (Option Managed)) → slice_get p.manager.entries e ≡ o → e < deck.entries
        go None at = absurd (h (ap (λ (x : Option (TaskId × Res)). prepared_by n.known (tell_by x)) (none at)))
        go (Some m) at = let within = slice_get_within p.manager.entries e m at in omega (arith, within, count)

    tell_there : (e : ℕ) (o : Option StarPart) → n.star ≡ o → star_call deck n o (choices.Tell e) ≢ Nothing
        → e < deck.entries
    unfolding star_call
    tell_there e None is h = absurd (h refl)
    tell_there e (Some p) is h = managed_below p e (sized p is).0 h

    -- interest is left that there is
    leave_there : (e : ℕ) (o : Option StarPart) → n.star ≡ o → star_call deck n o (choices.Leave e) ≢ Nothing
        → e < deck.entries
    unfolding star_call
    leave_there e None is h = absurd (h refl)
    leave_there e (Some p) is h = go (may_leave p n.tasks e) refl h
      where
        go : (b : Bool) → may_leave p n.tasks e ≡ b
            → prepared_by n.known (cond b (Asks (acts.Leave e)) Idle) ≢ Nothing → e < deck.entries
        go true m k =
            let within = flag_within p.interest e (and_parts (has_interest p e) _ m).0 in
            omega (arith, within, (sized p is).1)
        go false m k = absurd (k refl)

    -- a part is sent that is owed
    part_there : (e : ℕ) (o : Option StarPart) → n.star ≡ o → star_call deck n o (choices.Part e) ≢ Nothing
        → e < deck.entries
    unfolding star_call
    part_there e None is h = absurd (h refl)
    part_there e (Some p) is h = go (owed_to p e) refl h
      where
        go : (to : Option SysId) → owed_to p e ≡ to
            → prepared_by n.known (part_by (names_of deck n.tasks.system) n.known p n.tasks e to) ≢ Nothing
            → e < deck.entries
        go None at k = absurd (k refl)
        go (Some to) at k = let within = owed_within p.owes e to at in omega (arith, within, (sized p is).2)

    -- a removal is what the desk commands
    purge_there : (target : SysId) (o : Option Order) → next_order deck n ≡ o → purge_call n target o ≢ Nothing
        → (target.0 < length deck.systems) × (target.0 ≢ id.0)
    purge_there target None is h = absurd (h refl)
    purge_there target (Some orders.Star) is h = absurd (h refl)
    purge_there target (Some (orders.Vary named)) is h = go (named.0 == target.0) refl h
      where
        go : (b : Bool) → (named.0 == target.0) ≡ b
            → cond b (Call (record { known = n.known; act = acts.Purge target })) Nothing ≢ Nothing
            → (target.0 < length deck.systems) × (target.0 ≢ id.0)
        go false e k = absurd (k refl)
        go true e k =
            let same : named.0 ≡ target.0 = eqb-true named.0 target.0 e in
            let fit =
            target-of deck n named (length deck.systems)
            (orders-at (length deck.systems) deck.systems n.tasks.system whole.orders) is in (
              subst (λ (k : ℕ). k < length deck.systems) same fit.0,
              λ own. fit.1 (same ∙ own ∙ sym home),
            )

    pub does_its : (c : Choice) → prepare deck n c ≢ Nothing → IsChoiceOf deck.systems deck.entries s id c
    unfolding prepare
    does_its (choices.Task t) h = goes_there t (some_quiet (may_go deck n t) h)
    does_its choices.Turn h = tt
    does_its (choices.Send t) h = send_there t n.star h
    does_its choices.Take h = tt
    does_its choices.Settle h = tt
    does_its (choices.Tell e) h = tell_there e n.star refl h
    does_its (choices.Part e) h = part_there e n.star refl h
    does_its (choices.Leave e) h = leave_there e n.star refl h
    does_its choices.Switch h = tt
    does_its (choices.Purge target) h = purge_there target (next_order deck n) refl h
    does_its choices.Rest h = tt
