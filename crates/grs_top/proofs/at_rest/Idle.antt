-- In every run nothing is pending at a live system whose flag of rest is set.
use Rattle.std.proofs.Common.{◌≡◌, ◌≢◌, ◌⊎◌, ℕ, Bool, true, false, List, take, Option, Some, None, refl, ap, sym, ◌∙◌}
use Rattle.std.proofs.Common.{cond, length, not, subst, inl, inr}
use Rattle.std.specs.Prelude.{slice_get, set, ◌==◌}
use Rattle.std.proofs.lemmas.Bool.{eq-eqb, or_from, or_parts, true≢false}
use Rattle.std.proofs.lemmas.Bool.Decides.{eqb_tells}
use Rattle.grs_base.specs.Limits.{most_additions}
use Rattle.grs_base.specs.declared.resource.Res.{Res}
use Rattle.grs_base.specs.declared.resource.SysId.{SysId}
use Rattle.grs_base.specs.declared.resource.TaskId.{TaskId}
use Rattle.grs_known.proofs.lists.Facts.{slice_get-set, slice_get-set_other}
use Rattle.grs_medium.proofs.CauseLaws.{stale_comes}
use Rattle.grs_medium.specs.Apply.{apply, medium_after, reply_to, row}
use Rattle.grs_medium.specs.Causes.{is_removed, is_uninformed}
use Rattle.grs_medium.specs.Medium.{MediumState}
use Rattle.grs_node.proofs.Finish.{replies_leave}
use Rattle.grs_node.specs.Node.{NodeState, Step, is_pending, is_star_pending, may_go, may_send, turn_call, prepared_by}
use Rattle.grs_node.specs.Node.{star_call, next_order, switch_call, purge_call, prepare, with_star, finish_star}
use Rattle.grs_node.specs.Node.{finish_call, finish}
use Rattle.grs_node.specs.Names.{names_of}
use Rattle.grs_node.specs.Node.{known_from, losing, losing_in, stale}
use Rattle.grs_node.specs.Removal.{members, without_those}
use Rattle.grs_node.specs.Star.{StarPart, first_held, to_tell, send_of, send_to, entry_for, gathers, request_of}
use Rattle.grs_node.specs.Star.{leave_step, may_leave, owed_to, part_by, settle_by, tell_by}
use Rattle.grs_node.specs.declared.prepared.Prepared.{Prepared}
use Rattle.grs_node.specs.declared.prepared.Prepared.TheVariants.{Quiet, Call, Nothing}
use Rattle.grs_node.specs.declared.star.Need.{Need}
use Rattle.grs_node.specs.declared.star.Need.TheVariants.{Asks, Idle as NoNeed}
use Rattle.grs_wire.proofs.MaskLaws.{has-zero}
use Rattle.grs_wire.proofs.WantLaws.{by_test}
use Rattle.grs_wire.specs.Masks.{has}
use Rattle.grs_wire.specs.declared.deck.Choice.{Choice}
use Rattle.grs_wire.specs.declared.deck.Choice.TheVariants as choices
use Rattle.grs_wire.specs.declared.deck.Deck.{Deck}
use Rattle.grs_wire.specs.declared.deck.Event.{Event}
use Rattle.grs_wire.specs.declared.deck.Order.{Order}
use Rattle.grs_wire.specs.declared.deck.Order.TheVariants as orders
use Rattle.grs_wire.specs.declared.medium.Act.TheVariants as acts
use Rattle.grs_wire.specs.declared.medium.Call.{Call as MediumCall}
use Rattle.grs_wire.specs.declared.medium.Mail.TheVariants.{Part}
use Rattle.grs_wire.specs.declared.medium.Reply.{Reply}
use Rattle.grs_wire.specs.declared.medium.Reply.TheVariants.{Left, Removed, Stale}
use Rattle.grs_wire.specs.declared.request.Req.{Req}
use Rattle.grs_world.proofs.run.Each.{each_run}
use Rattle.grs_world.specs.World.{World, Turnout, first_world, carry_out, chosen, placed, counted, happens_at, happens}
use Rattle.grs_world.specs.World.{run}
use Rattle.rsa_message.specs.Message.{any_unseen}
use Rattle.system_purge.specs.Gather.{part_of}
use Rattle.task_state.specs.View.{state_of}
use Rattle.task_state.specs.declared.state.Asked.{Asked}
use Rattle.grs_top.proofs.merged.Live.{still_there}
use Rattle.grs_top.proofs.merged.Shows.{placed-medium, placed-nodes}
use Rattle.grs_top.proofs.at_rest.Flags.{is_rest, Leaves, stays_off, others_stay, take_leaves, turn_leaves}
use Rattle.grs_top.proofs.at_rest.Flags.{leave_leaves}
use Rattle.grs_top.proofs.at_rest.Flags.{rest_leaves}
use Rattle.grs_top.proofs.at_rest.Pending.{none_pending_parts, none_pending_from, left_idle, Calm, calm}

-- ---- what a system at which something is pending asks isn't a rest, nor is what any other choice asks

abbrev pub IsNoRest : Prepared → Type 0
IsNoRest Nothing = Unit {0}
IsNoRest Quiet = Unit {0}
IsNoRest (Call c) = is_rest c.act ≡ false

pub no_rest : (deck : Deck) (n : NodeState) (choice : Choice) → (choice ≡ choices.Rest → is_pending deck n ≡ true)
    → IsNoRest (prepare deck n choice)
unfolding prepare star_call
no_rest deck n (choices.Task t) some = by_test IsNoRest (may_go deck n t) Quiet Nothing (λ is. tt) (λ is. tt)
no_rest deck n choices.Turn some = by_star n.star
  where
    by_star : (o : Option StarPart) → IsNoRest (turn_call n o)
    by_star None = refl
    by_star (Some p) = tt
no_rest deck n (choices.Send t) some = by_star n.star
  where
    by_entry : (p : StarPart) (q : Req) (o : Option ℕ) → IsNoRest (prepared_by n.known (send_to p q o))
    by_entry p q None = tt
    by_entry p q (Some e) =
        by_test (λ (need : Need). IsNoRest (prepared_by n.known need)) (gathers p e) NoNeed (Asks (acts.Submit e q))
        (λ is. tt) (λ is. refl)

    by_asked : (p : StarPart) (o : Option Asked) → IsNoRest (prepared_by n.known (send_of p t o))
    by_asked p None = tt
    by_asked p (Some a) = by_entry p (request_of t a) (entry_for p a.req.want)

    by_star : (o : Option StarPart) → IsNoRest (star_call deck n o (choices.Send t))
    by_star None = tt
    by_star (Some p) =
        by_test (λ (need : Need). IsNoRest (prepared_by n.known need)) (may_send deck n t)
        (send_of p t (state_of n.tasks t).outstanding) NoNeed (λ is. by_asked p (state_of n.tasks t).outstanding)
        (λ is. tt)
no_rest deck n choices.Take some = by_star n.star
  where
    by_star : (o : Option StarPart) → IsNoRest (star_call deck n o choices.Take)
    by_star None = tt
    by_star (Some p) = refl
no_rest deck n choices.Settle some = by_star n.star
  where
    by_held : (p : StarPart) (o : Option Req) → IsNoRest (prepared_by n.known (settle_by p o))
    by_held p None = tt
    by_held p (Some q) = refl

    by_star : (o : Option StarPart) → IsNoRest (star_call deck n o choices.Settle)
    by_star None = tt
    by_star (Some p) = by_held p (first_held p)
no_rest deck n (choices.Tell e) some = by_star n.star
  where
    by_owner : (o : Option (TaskId × Res)) → IsNoRest (prepared_by n.known (tell_by o))
    by_owner None = tt
    by_owner (Some x) = refl

    by_star : (o : Option StarPart) → IsNoRest (star_call deck n o (choices.Tell e))
    by_star None = tt
    by_star (Some p) = by_owner (to_tell p e)
no_rest deck n (choices.Part e) some = by_star n.star
  where
    by_owed : (p : StarPart) (o : Option SysId)
        → IsNoRest (prepared_by n.known (part_by (names_of deck n.tasks.system) n.known p n.tasks e o))
    by_owed p None = tt
    by_owed p (Some to) =
        by_test (λ (need : Need). IsNoRest (prepared_by n.known need)) (has n.known to.0) NoNeed
        (Asks (acts.Tell to
        (Part e p.manager.system
        (part_of (length p.manager.entries) e (names_of deck n.tasks.system) n.tasks))))
        (λ is. tt) (λ is. refl)

    by_star : (o : Option StarPart) → IsNoRest (star_call deck n o (choices.Part e))
    by_star None = tt
    by_star (Some p) = by_owed p (owed_to p e)
no_rest deck n (choices.Leave e) some = by_star n.star
  where
    by_star : (o : Option StarPart) → IsNoRest (star_call deck n o (choices.Leave e))
    by_star None = tt
    by_star (Some p) =
        by_test (λ (need : Need). IsNoRest (prepared_by n.known need)) (may_leave p n.tasks e) (Asks (acts.Leave e))
        NoNeed (λ is. refl) (λ is. tt)
no_rest deck n choices.Switch some = by_order (next_order deck n)
  where
    by_order : (o : Option Order) → IsNoRest (switch_call deck n o)
    by_order None = tt
    by_order (Some orders.Star) = refl
    by_order (Some (orders.Vary t)) = tt
no_rest deck n (choices.Purge t) some = by_order (next_order deck n)
  where
    by_order : (o : Option Order) → IsNoRest (purge_call n t o)
    by_order None = tt
    by_order (Some orders.Star) = tt
    by_order (Some (orders.Vary named)) =
        by_test IsNoRest (named.0 == t.0) (Call (record { known = n.known; act = acts.Purge t })) Nothing (λ is. refl)
        (λ is. tt)
no_rest deck n choices.Rest some =
    by_test IsNoRest (is_pending deck n) Nothing (Call (record { known = n.known; act = acts.Rest })) (λ is. tt)
    (λ is. absurd (true≢false (sym (some refl) ∙ is)))

-- ---- what a reply leaves pending

-- In ring mode the system has nothing to lose.
stale-after : (deck : Deck) (n : NodeState) (choice : Choice) (removed : ℕ) → n.star ≡ None
    → is_pending deck (finish deck n choice (Some (Stale removed))).node ≡ is_pending deck n
unfolding finish finish_call is_pending stale losing
stale-after deck n choice removed alone =
    let known : ℕ = known_from deck n.known removed in
    ap (λ o. is_pending deck (losing_in deck (record n { known = known }) o (members (without_those n.known known))))
    alone

leaves-after : (deck : Deck) (n : NodeState) (choice : Choice) (r : Reply) → Leaves r
    → ((set : ℕ) → r ≡ Stale set → n.star ≡ None) → is_pending deck n ≡ false
    → is_pending deck (finish deck n choice (Some r)).node ≡ false
leaves-after deck n choice r (inl all) told none =
    ap (λ (s : Step). is_pending deck s.node) (replies_leave deck n choice r all) ∙ none
leaves-after deck n choice r (inr stale) told none =
    ap (λ (x : Reply). is_pending deck (finish deck n choice (Some x)).node) stale.1
    ∙ stale-after deck n choice stale.0 (told stale.0 stale.1)
    ∙ none

left-is : (deck : Deck) (n : NodeState) (p : StarPart) (e : ℕ) → n.star ≡ Some p
    → finish deck n (choices.Leave e) (Some Left) ≡ with_star n (leave_step n.tasks p e Left)
unfolding finish finish_call finish_star
left-is deck n p e star = ap (λ o. finish_star deck n o (choices.Leave e) Left) star

left-after : (deck : Deck) (n : NodeState) (p : StarPart) (e : ℕ) → n.star ≡ Some p → is_pending deck n ≡ false
    → is_pending deck (finish deck n (choices.Leave e) (Some Left)).node ≡ false
left-after deck n p e star none =
    let parts = none_pending_parts deck n none in
    let idle : is_star_pending n.tasks (Some p) ≡ false = ap (is_star_pending n.tasks) (sym star) ∙ parts.star in
    let both = or_parts _ _ idle in
    ap (λ (s : Step). is_pending deck s.node) (left-is deck n p e star)
    ∙ none_pending_from deck (with_star n (leave_step n.tasks p e Left)).node
    (record {
      tasks = parts.tasks;
      outbox = parts.outbox;
      star = or_from _ _ both.0 (left_idle p e both.1);
      desk = parts.desk;
    })

-- ---- who is told that it doesn't know all who were removed
not-so : (b : Bool) → not b ≡ true → b ≡ false
not-so true h = absurd (true≢false (sym h))
not-so false h = refl

stale-same : (m : MediumState) (c : SysId) (call : MediumCall) → is_removed m c ≡ false
    → is_uninformed m call ≡ true → medium_after m c call ≡ m
unfolding apply
stale-same m c call live unknown =
    ap (λ b.
    (cond {A = Reply × MediumState} b (Removed, m)
    (cond (call.known == m.removed) (row m c call.act) (Stale m.removed, m))).1)
    live
    ∙ ap (λ b. (cond {A = Reply × MediumState} b (row m c call.act) (Stale m.removed, m)).1)
    (not-so (call.known == m.removed) unknown)

-- Who has its flag set knows who was removed, or is in the ring, and has still to process an entry of the message.
abbrev pub IsInformed : MediumState → ℕ → NodeState → Type 0
IsInformed m u n =
    (n.known ≡ m.removed)
    ⊎ ((n.star ≡ None) × (any_unseen (record { 0 = u }) m.message.entries ≡ true))

-- ---- one choice of a system

module _ (deck : Deck) (m : MediumState) (c : SysId) (n : NodeState)
    (idle : has m.rest c.0 ≡ true → is_pending deck n ≡ false) (informed : has m.rest c.0 ≡ true → IsInformed m c.0 n)
  where
    told-alone : (call : MediumCall) → call.known ≡ n.known → has (medium_after m c call).rest c.0 ≡ true → (set : ℕ)
        → reply_to m c call ≡ Stale set → n.star ≡ None
    told-alone call knows h set is = by_cause ((stale_comes m c call set).0 is)
      where
        by_informed : is_uninformed m call ≡ true → IsInformed m c.0 n → n.star ≡ None
        by_informed unknown (inl same) =
            absurd (true≢false (sym unknown ∙ ap not (eq-eqb call.known m.removed (knows ∙ same))))
        by_informed unknown (inr ring) = ring.0

        by_cause : (is_removed m c ≡ false) × ((is_uninformed m call ≡ true) × (set ≡ m.removed)) → n.star ≡ None
        by_cause f =
            by_informed f.1.0
            (informed (ap (λ (k : MediumState). has k.rest c.0) (sym (stale-same m c call f.0 f.1.0)) ∙ h))

    -- of a system at which nothing is pending
    calm-after : (choice : Choice) (call : MediumCall) → Calm n choice (Call call) → is_pending deck n ≡ false
        → has (medium_after m c call).rest c.0 ≡ true
        → is_pending deck (finish deck n choice (Some (reply_to m c call))).node ≡ false
    calm-after (choices.Task t) call is none h = absurd is
    calm-after choices.Turn call is none h =
        leaves-after deck n choices.Turn (reply_to m c call)
        (subst (λ (x : MediumCall). Leaves (reply_to m c x)) (sym is)
        (turn_leaves m c n.known (take most_additions n.outbox)
        (subst (λ (x : MediumCall). has (medium_after m c x).rest c.0 ≡ true) is h)))
        (told-alone call (ap (λ (x : MediumCall). x.known) is) h) none
    calm-after (choices.Send t) call is none h = absurd is
    calm-after choices.Take call is none h =
        leaves-after deck n choices.Take (reply_to m c call)
        (subst (λ (x : MediumCall). Leaves (reply_to m c x)) (sym is)
        (take_leaves m c n.known (subst (λ (x : MediumCall). has (medium_after m c x).rest c.0 ≡ true) is h)))
        (told-alone call (ap (λ (x : MediumCall). x.known) is) h) none
    calm-after choices.Settle call is none h = absurd is
    calm-after (choices.Tell e) call is none h = absurd is
    calm-after (choices.Part e) call is none h = absurd is
    calm-after (choices.Leave e) call is none h =
        subst (λ (x : MediumCall).
        is_pending deck (finish deck n (choices.Leave e) (Some (reply_to m c x))).node ≡ false)
        (sym is.2) (by_reply (leave_leaves m c n.known e))
      where
        by_reply : Leaves (reply_to m c (record { known = n.known; act = acts.Leave e }))
            ⊎ (reply_to m c (record { known = n.known; act = acts.Leave e }) ≡ Left)
            → is_pending deck
            (finish deck n (choices.Leave e)
            (Some (reply_to m c (record { known = n.known; act = acts.Leave e })))).node
            ≡ false
        by_reply (inl leaves) =
            leaves-after deck n (choices.Leave e) (reply_to m c (record { known = n.known; act = acts.Leave e })) leaves
            (told-alone (record { known = n.known; act = acts.Leave e }) refl
            (subst (λ (x : MediumCall). has (medium_after m c x).rest c.0 ≡ true) is.2 h))
            none
        by_reply (inr left) =
            ap (λ (x : Reply). is_pending deck (finish deck n (choices.Leave e) (Some x)).node) left
            ∙ left-after deck n is.0 e is.1 none
    calm-after choices.Switch call is none h = absurd is
    calm-after (choices.Purge t) call is none h = absurd is
    calm-after choices.Rest call is none h =
        leaves-after deck n choices.Rest (reply_to m c call)
        (subst (λ (x : MediumCall). Leaves (reply_to m c x)) (sym is) (rest_leaves m c n.known))
        (told-alone call (ap (λ (x : MediumCall). x.known) is) h) none

    call-after : (choice : Choice) (call : MediumCall) → prepare deck n choice ≡ Call call
        → has (medium_after m c call).rest c.0 ≡ true
        → is_pending deck (finish deck n choice (Some (reply_to m c call))).node ≡ false
    call-after choice call asks h = by_pending (is_pending deck n) refl
      where
        by_pending : (b : Bool) → is_pending deck n ≡ b
            → is_pending deck (finish deck n choice (Some (reply_to m c call))).node ≡ false
        by_pending false none = calm-after choice call (subst (Calm n choice) asks (calm deck n choice none)) none h
        by_pending true some =
            let act : is_rest call.act ≡ false = subst IsNoRest asks (no_rest deck n choice (λ is. some)) in
            absurd (true≢false (sym h ∙ stays_off m c call act (by_flag (has m.rest c.0) refl)))
          where
            by_flag : (b : Bool) → has m.rest c.0 ≡ b → b ≡ false
            by_flag true set = absurd (true≢false (sym some ∙ idle set))
            by_flag false off = refl

    -- what a choice leaves pending at its system, where the flag is set behind it
    chosen-after : (choice : Choice) → has (chosen deck m c n choice).medium.rest c.0 ≡ true
        → is_pending deck (chosen deck m c n choice).step.node ≡ false
    unfolding chosen carry_out
    chosen-after choice h = by_prepared (prepare deck n choice) refl h
      where
        by_prepared : (p : Prepared) → prepare deck n choice ≡ p
            → has (carry_out deck m c n choice p).medium.rest c.0 ≡ true
            → is_pending deck (carry_out deck m c n choice p).step.node ≡ false
        by_prepared Nothing is h = idle h
        by_prepared Quiet is h = absurd (subst (Calm n choice) is (calm deck n choice (idle h)))
        by_prepared (Call call) is h = call-after choice call is h

-- ---- a choice and the other systems

pub chosen-flags : (deck : Deck) (m : MediumState) (c : SysId) (n : NodeState) (choice : Choice) (u : ℕ) → u ≢ c.0
    → has (chosen deck m c n choice).medium.rest u ≡ true → has m.rest u ≡ true
unfolding chosen carry_out
chosen-flags deck m c n choice u other h = go (prepare deck n choice) h
  where
    go : (p : Prepared) → has (carry_out deck m c n choice p).medium.rest u ≡ true → has m.rest u ≡ true
    go Nothing set = set
    go Quiet set = set
    go (Call call) set = others_stay m c call u other set

pub chosen-live : (deck : Deck) (m : MediumState) (c : SysId) (n : NodeState) (choice : Choice) (u : ℕ)
    → has (chosen deck m c n choice).medium.removed u ≡ false → has m.removed u ≡ false
unfolding chosen carry_out
chosen-live deck m c n choice u h = go (prepare deck n choice) h
  where
    go : (p : Prepared) → has (carry_out deck m c n choice p).medium.removed u ≡ false → has m.removed u ≡ false
    go Nothing h = h
    go Quiet h = h
    go (Call call) h = still_there m c call u h

-- ---- every run

abbrev pub AreIdle : Deck → World → Type 0
AreIdle deck w =
    (u : ℕ) (n : NodeState) → slice_get w.nodes u ≡ Some n → has w.medium.removed u ≡ false → has w.medium.rest u ≡ true
    → is_pending deck n ≡ false

abbrev pub AreInformed : World → Type 0
AreInformed w =
    (u : ℕ) (n : NodeState) → slice_get w.nodes u ≡ Some n → has w.medium.removed u ≡ false → has w.medium.rest u ≡ true
    → IsInformed w.medium u n

placed-idle : (deck : Deck) (w : World) (e : Event) (n : NodeState) → slice_get w.nodes e.system.0 ≡ Some n
    → has w.medium.removed e.system.0 ≡ false → AreInformed w → AreIdle deck w
    → AreIdle deck (placed w e.system n (chosen deck w.medium e.system n e.choice))
placed-idle deck w e n at there informed idle u k found live set = by_place (eqb_tells u e.system.0)
  where
    by_place : (((u == e.system.0) ≡ true) × (u ≡ e.system.0)) ⊎ (((u == e.system.0) ≡ false) × (u ≢ e.system.0))
        → is_pending deck k ≡ false
    by_place (inl is) =
        let s : ℕ = e.system.0 in
        let out : Turnout = chosen deck w.medium e.system n e.choice in
        let v : World = placed w e.system n out in
        let here : Some out.step.node ≡ Some k =
        sym (slice_get-set w.nodes s n out.step.node at)
        ∙ ap (λ ns. slice_get ns s) (sym (placed-nodes w e.system n out))
        ∙ ap (λ i. slice_get v.nodes i) (sym is.1)
        ∙ found in
        let same : out.step.node ≡ k = cc in
        let flag : has out.medium.rest s ≡ true =
        ap (λ (m : MediumState). has m.rest s) (sym (placed-medium w e.system n out))
        ∙ ap (λ i. has v.medium.rest i) (sym is.1)
        ∙ set in
        subst (λ (z : NodeState). is_pending deck z ≡ false) same
        (chosen-after deck w.medium e.system n (λ r. idle s n at there r) (λ r. informed s n at there r) e.choice flag)
    by_place (inr is) =
        let out : Turnout = chosen deck w.medium e.system n e.choice in
        let old : slice_get w.nodes u ≡ Some k =
        sym (slice_get-set_other w.nodes e.system.0 u out.step.node is.1)
        ∙ ap (λ ns. slice_get ns u) (sym (placed-nodes w e.system n out))
        ∙ found in
        let lives : has w.medium.removed u ≡ false =
        chosen-live deck w.medium e.system n e.choice u
        (ap (λ (m : MediumState). has m.removed u) (sym (placed-medium w e.system n out)) ∙ live) in
        let flag : has w.medium.rest u ≡ true =
        chosen-flags deck w.medium e.system n e.choice u is.1
        (ap (λ (m : MediumState). has m.rest u) (sym (placed-medium w e.system n out)) ∙ set) in
        idle u k old lives flag

next-idle : (deck : Deck) (w : World) (e : Event) → AreInformed w → AreIdle deck w → AreIdle deck (happens deck w e)
unfolding happens happens_at
next-idle deck w e informed idle = go (slice_get w.nodes e.system.0) refl
  where
    go : (o : Option NodeState) → slice_get w.nodes e.system.0 ≡ o → AreIdle deck (happens_at deck w e o)
    go None at = idle
    go (Some n) at =
        by_test (AreIdle deck) (has w.medium.removed e.system.0) (counted w)
        (placed w e.system n (chosen deck w.medium e.system n e.choice)) (λ r. idle)
        (λ there. placed-idle deck w e n at there informed idle)

first-idle : (deck : Deck) → AreIdle deck (first_world deck)
unfolding first_world
first-idle deck u n at live set = absurd (true≢false (sym set ∙ has-zero u))

pub runs_idle : (deck : Deck) → ((es : List Event) → AreInformed (run deck es)) → (es : List Event)
    → AreIdle deck (run deck es)
runs_idle deck informed es =
    each_run deck (λ us w. AreIdle deck w) (first-idle deck)
    (λ us e idle. next-idle deck (run deck us) e (informed us) idle) es
