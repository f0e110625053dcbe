-- A system at which nothing is pending: what it can still do.
use Rattle.std.proofs.Common.{◌≡◌, ℕ, zero, suc, Bool, true, false, cond, not, ◌||◌, List, [], ◌∷◌, length, take}
use Rattle.std.proofs.Common.{Option, Some, None, refl, ap, sym, ◌∙◌, subst}
use Rattle.std.specs.Prelude.{◌==◌, find, nat_lt, slice_get, slice_set, is_some}
use Rattle.std.specs.List.{list_any}
use Rattle.std.specs.Option.{option_map}
use Rattle.std.proofs.Math.Dec.{eqb-suc-zero}
use Rattle.std.proofs.lemmas.Bool.{and_parts, or_from, or_parts, ltb-true, lt-ltb, true≢false}
use Rattle.std.proofs.lemmas.Option.{slice_get_within}
use Rattle.std.proofs.lemmas.List.Folds.{list_any_at}
use Rattle.contention_mgr.proofs.UntoldLemmas.{first-any}
use Rattle.contention_mgr.specs.Manager.{Ranked, Managed, any_untold_in, any_untold_at, first_untold, owner_of}
use Rattle.contention_mgr.specs.Manager.{items_of, kept_at, managed_at, with_entry}
use Rattle.grs_base.specs.Limits.{most_additions}
use Rattle.grs_base.specs.declared.resource.Res.{Res}
use Rattle.grs_base.specs.declared.resource.SysId.{SysId}
use Rattle.grs_base.specs.declared.resource.TaskId.{TaskId}
use Rattle.grs_node.specs.Node.{NodeState, goes_on, is_to_send, desk_of, desk_count, is_star_pending, is_pending}
use Rattle.grs_node.specs.Node.{may_go, may_send, turn_call, prepared_by, star_call, next_order, switch_call}
use Rattle.grs_node.specs.Node.{purge_call, prepare}
use Rattle.grs_node.specs.Star.{StarPart, to_tell, first_held, is_part_pending, send_of, settle_by, tell_by, may_leave}
use Rattle.grs_node.specs.Names.{names_of}
use Rattle.grs_node.specs.Star.{left_at, may_settle, owed_to, part_by}
use Rattle.grs_node.specs.declared.star.Need.{Need}
use Rattle.grs_node.specs.declared.star.Need.TheVariants.{Asks, Idle}
use Rattle.grs_node.specs.declared.prepared.Prepared.{Prepared}
use Rattle.grs_node.specs.declared.prepared.Prepared.TheVariants.{Quiet, Call, Nothing}
use Rattle.grs_wire.specs.declared.deck.Choice.{Choice}
use Rattle.grs_wire.specs.declared.deck.Choice.TheVariants as choices
use Rattle.grs_wire.specs.declared.deck.Deck.{Deck}
use Rattle.grs_wire.specs.declared.deck.Desk.{Desk}
use Rattle.grs_wire.specs.declared.deck.Order.{Order}
use Rattle.grs_wire.proofs.WantLaws.{by_test}
use Rattle.grs_wire.specs.declared.medium.Act.TheVariants as acts
use Rattle.grs_wire.specs.declared.request.Req.{Req}
use Rattle.star_client.specs.Owes.{any_owed}
use Rattle.grs_world.proofs.star.Calm.{none-at}
use Rattle.task_state.specs.View.{TasksView, is_task, state_of}
use Rattle.task_state.specs.declared.state.Phase.{Phase}
use Rattle.task_state.specs.declared.state.TaskState.{TaskState}

-- ---- what isn't pending

pub record NonePending (deck : Deck) (n : NodeState) : Type 0 where
  pub tasks : list_any (λ x. goes_on x.phase) n.tasks.tasks ≡ false
  pub outbox : not (length n.outbox == 0) ≡ false
  pub star : is_star_pending n.tasks n.star ≡ false
  pub desk : nat_lt n.done (desk_count (slice_get deck.systems n.tasks.system)) ≡ false

pub none_pending_parts : (deck : Deck) (n : NodeState) → is_pending deck n ≡ false → NonePending deck n
unfolding is_pending
none_pending_parts deck n h =
    let a = or_parts _ _ h in
    let b = or_parts _ _ a.1 in
    let c = or_parts _ _ b.1 in
    record { tasks = a.0; outbox = b.0; star = c.0; desk = c.1 }

pub none_pending_from : (deck : Deck) (n : NodeState) → NonePending deck n → is_pending deck n ≡ false
unfolding is_pending
none_pending_from deck n p = or_from _ _ p.tasks (or_from _ _ p.outbox (or_from _ _ p.star p.desk))

-- a task of the system that passes a test is one of its tasks
task-any : (test : Phase → Bool) (v : TasksView) (t : TaskId) → is_task v t ≡ true → test (state_of v t).phase ≡ true
    → list_any (λ x. test x.phase) v.tasks ≡ true
unfolding state_of
task-any test v t is h =
    list_any_at (λ (x : TaskState). test x.phase) v.tasks t.task _ (ltb-true _ _ (and_parts _ _ is).1) h

pub no_go : (deck : Deck) (n : NodeState) (t : TaskId) → list_any (λ x. goes_on x.phase) n.tasks.tasks ≡ false
    → may_go deck n t ≡ false
unfolding may_go
no_go deck n t none = by_may (may_go deck n t) refl
  where
    by_may : (b : Bool) → may_go deck n t ≡ b → b ≡ false
    by_may true is =
        let parts = and_parts (is_task n.tasks t) _ is in
        let goes = (and_parts _ _ parts.1).1 in
        absurd (true≢false (sym (task-any goes_on n.tasks t parts.0 goes) ∙ none))
    by_may false is = refl

pub no_send : (deck : Deck) (n : NodeState) (p : StarPart) (t : TaskId) → n.star ≡ Some p
    → is_star_pending n.tasks n.star ≡ false → may_send deck n t ≡ false
unfolding may_send
no_send deck n p t star none = by_may (may_send deck n t) refl
  where
    by_may : (b : Bool) → may_send deck n t ≡ b → b ≡ false
    by_may true is =
        let parts = and_parts (is_task n.tasks t) _ is in
        let sends = (and_parts _ _ parts.1).1 in
        let any : list_any (λ x. is_to_send x.phase) n.tasks.tasks ≡ true =
        task-any is_to_send n.tasks t parts.0 sends in
        let idle : is_star_pending n.tasks (Some p) ≡ false =
        ap (is_star_pending n.tasks) (sym star) ∙ none in
        absurd (true≢false (sym any ∙ (or_parts _ _ idle).0))
    by_may false is = refl

pub no_held : (n : NodeState) (p : StarPart) → n.star ≡ Some p → is_star_pending n.tasks n.star ≡ false
    → first_held p ≡ None
no_held n p star none =
    let idle : is_star_pending n.tasks (Some p) ≡ false = ap (is_star_pending n.tasks) (sym star) ∙ none in
    let part : is_part_pending p ≡ false = (or_parts _ _ idle).1 in
    by_held p.held (or_parts _ _ part).0
  where
    by_held : (qs : List Req) → not (length qs == 0) ≡ false → find (may_settle p) qs ≡ None
    by_held [] h = refl
    by_held (q ∷ qs) h =
        let some : (length (q ∷ qs) == 0) ≡ false = eqb-suc-zero (length qs) in
        absurd (true≢false (sym (ap not some) ∙ h))

none_kept : (home : ℕ) (os : List (Option Managed)) (e : ℕ) → any_untold_at home os ≡ false
    → any_untold_in home (items_of (kept_at os e)) ≡ false
none_kept home [] e h = refl
none_kept home (o ∷ os) zero h = (or_parts _ _ h).0
none_kept home (o ∷ os) (suc e) h = none_kept home os e (or_parts _ _ h).1

pub no_tell : (n : NodeState) (p : StarPart) (e : ℕ) → n.star ≡ Some p → is_star_pending n.tasks n.star ≡ false
    → to_tell p e ≡ None
no_tell n p e star none =
    let idle : is_star_pending n.tasks (Some p) ≡ false = ap (is_star_pending n.tasks) (sym star) ∙ none in
    let part : is_part_pending p ≡ false = (or_parts _ _ idle).1 in
    let at : any_untold_in p.manager.system.0 (items_of (managed_at p.manager e)) ≡ false =
    none_kept p.manager.system.0 p.manager.entries e (or_parts _ _ (or_parts _ _ part).1).0 in
    by_first (first_untold p.manager.system.0 (items_of (managed_at p.manager e)))
    (first-any p.manager.system.0 (items_of (managed_at p.manager e)) ∙ at)
  where
    by_first : (o : Option Ranked) → is_some o ≡ false → option_map owner_of o ≡ None
    by_first None h = refl
    by_first (Some x) h = absurd (true≢false h)

no_owed : (deck : Deck) (n : NodeState) (p : StarPart) (e : ℕ) → n.star ≡ Some p → is_pending deck n ≡ false
    → owed_to p e ≡ None
no_owed deck n p e star none =
    let idle : is_star_pending n.tasks (Some p) ≡ false =
    ap (is_star_pending n.tasks) (sym star) ∙ (none_pending_parts deck n none).star in
    let part : is_part_pending p ≡ false = (or_parts _ _ idle).1 in
    let more = (or_parts (not (length p.held == 0)) _ part).1 in
    let last = (or_parts (any_untold_at p.manager.system.0 p.manager.entries) _ more).1 in
    none-at p.owes e (or_parts (list_any is_some p.gathers) _ last).1

no_order : (deck : Deck) (n : NodeState) → is_pending deck n ≡ false → next_order deck n ≡ None
no_order deck n none = by_line (slice_get (desk_of (slice_get deck.systems n.tasks.system)) n.done) refl
  where
    by_line : (o : Option Desk) → slice_get (desk_of (slice_get deck.systems n.tasks.system)) n.done ≡ o
        → option_map (λ (c : Desk). c.order) o ≡ None
    by_line None at = refl
    by_line (Some l) at =
        let more : nat_lt n.done (desk_count (slice_get deck.systems n.tasks.system)) ≡ true =
        lt-ltb _ _ (slice_get_within (desk_of (slice_get deck.systems n.tasks.system)) n.done l at) in
        absurd (true≢false (sym more ∙ (none_pending_parts deck n none).desk))

-- interest in an entry that is given up makes nothing pending
none_without : (home : ℕ) (os : List (Option Managed)) (e : ℕ) → any_untold_at home os ≡ false
    → any_untold_at home (slice_set os e None) ≡ false
none_without home [] e h = refl
none_without home (o ∷ os) zero h = or_from _ _ refl (or_parts _ _ h).1
none_without home (o ∷ os) (suc e) h =
    let parts = or_parts _ _ h in or_from _ _ parts.0 (none_without home os e parts.1)

pub left_idle : (p : StarPart) (e : ℕ) → is_part_pending p ≡ false → is_part_pending (left_at p e) ≡ false
left_idle p e h = by_kept (is_some (managed_at p.manager e))
  where
    by_kept : (b : Bool)
        → (not (length p.held == 0)
        || (any_untold_at (cond b (with_entry p.manager (Some e) None) p.manager).system.0
        (cond b (with_entry p.manager (Some e) None) p.manager).entries
        || (list_any is_some p.gathers || any_owed p.owes)))
        ≡ false
    by_kept true =
        let parts = or_parts _ _ h in
        let more = or_parts _ _ parts.1 in
        or_from _ _ parts.0 (or_from _ _ (none_without p.manager.system.0 p.manager.entries e more.0) more.1)
    by_kept false = h

-- ---- what such a system prepares

-- no step without a call; and of calls only turns, looks into the inbox, interest that is given up, and rests
abbrev pub Calm : NodeState → Choice → Prepared → Type 0
Calm n choice Nothing = Unit {0}
Calm n choice Quiet = ⊥
Calm n choices.Turn (Call c) = c ≡ record { known = n.known; act = acts.Turn (take most_additions n.outbox) }
Calm n choices.Take (Call c) = c ≡ record { known = n.known; act = acts.Take }
Calm n (choices.Leave e) (Call c) =
    (p : StarPart) × (n.star ≡ Some p) × (c ≡ record { known = n.known; act = acts.Leave e })
Calm n choices.Rest (Call c) = c ≡ record { known = n.known; act = acts.Rest }
Calm n choice (Call c) = ⊥

pub calm : (deck : Deck) (n : NodeState) (choice : Choice) → is_pending deck n ≡ false
    → Calm n choice (prepare deck n choice)
unfolding prepare star_call
calm deck n (choices.Task t) none =
    by_test (Calm n (choices.Task t)) (may_go deck n t) Quiet Nothing
    (λ is. true≢false (sym is ∙ no_go deck n t (none_pending_parts deck n none).tasks))
    (λ is. tt)
calm deck n choices.Turn none = by_star n.star
  where
    by_star : (o : Option StarPart) → Calm n choices.Turn (turn_call n o)
    by_star None = refl
    by_star (Some p) = tt
calm deck n (choices.Send t) none = by_star n.star refl
  where
    by_star : (o : Option StarPart) → n.star ≡ o → Calm n (choices.Send t) (star_call deck n o (choices.Send t))
    by_star None star = tt
    by_star (Some p) star =
        subst (λ (b : Bool).
        Calm n (choices.Send t) (prepared_by n.known (cond b (send_of p t (state_of n.tasks t).outstanding) Idle)))
        (sym (no_send deck n p t star (none_pending_parts deck n none).star)) tt
calm deck n choices.Take none = by_star n.star
  where
    by_star : (o : Option StarPart) → Calm n choices.Take (star_call deck n o choices.Take)
    by_star None = tt
    by_star (Some p) = refl
calm deck n choices.Settle none = by_star n.star refl
  where
    by_star : (o : Option StarPart) → n.star ≡ o → Calm n choices.Settle (star_call deck n o choices.Settle)
    by_star None star = tt
    by_star (Some p) star =
        subst (λ (o : Option Req). Calm n choices.Settle (prepared_by n.known (settle_by p o)))
        (sym (no_held n p star (none_pending_parts deck n none).star)) tt
calm deck n (choices.Tell e) none = by_star n.star refl
  where
    by_star : (o : Option StarPart) → n.star ≡ o → Calm n (choices.Tell e) (star_call deck n o (choices.Tell e))
    by_star None star = tt
    by_star (Some p) star =
        subst (λ (o : Option (TaskId × Res)). Calm n (choices.Tell e) (prepared_by n.known (tell_by o)))
        (sym (no_tell n p e star (none_pending_parts deck n none).star)) tt
calm deck n (choices.Part e) none = by_star n.star refl
  where
    by_star : (o : Option StarPart) → n.star ≡ o → Calm n (choices.Part e) (star_call deck n o (choices.Part e))
    by_star None star = tt
    by_star (Some p) star =
        subst (λ (o : Option SysId).
        Calm n (choices.Part e) (prepared_by n.known (part_by (names_of deck n.tasks.system) n.known p n.tasks e o)))
        (sym (no_owed deck n p e star none)) tt
calm deck n (choices.Leave e) none = by_star n.star refl
  where
    by_star : (o : Option StarPart) → n.star ≡ o → Calm n (choices.Leave e) (star_call deck n o (choices.Leave e))
    by_star None star = tt
    by_star (Some p) star =
        by_test (λ (need : Need). Calm n (choices.Leave e) (prepared_by n.known need)) (may_leave p n.tasks e)
        (Asks (acts.Leave e)) Idle (λ is. (p, star, refl)) (λ is. tt)
calm deck n choices.Switch none =
    subst (λ (o : Option Order). Calm n choices.Switch (switch_call deck n o)) (sym (no_order deck n none)) tt
calm deck n (choices.Purge t) none =
    subst (λ (o : Option Order). Calm n (choices.Purge t) (purge_call n t o)) (sym (no_order deck n none)) tt
calm deck n choices.Rest none =
    by_test (Calm n choices.Rest) (is_pending deck n) Nothing (Call (record { known = n.known; act = acts.Rest }))
    (λ is. tt) (λ is. refl)
