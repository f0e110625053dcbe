-- What is so where a choice of star mode was prepared: its task, its entry and what stands in it.
use Rattle.std.proofs.Common.{◌≡◌, ℕ, zero, suc, Bool, true, false, cond, List, [], ◌∷◌, length, Option, Some, None}
use Rattle.std.proofs.Common.{is_some, refl, ap, sym, subst, ◌∙◌, arith}
use Rattle.std.specs.Prelude.{◌&&◌, ◌≢◌, All, not, ◌<◌, slice_set, IfSome, ◌≤◌, slice_get, take}
use Rattle.std.proofs.lemmas.Bool.{and_parts, true≢false}
use Rattle.std.proofs.lemmas.List.{length-set}
use Rattle.std.proofs.lemmas.List.Elements.{All-tail}
use Rattle.contention_mgr.specs.Manager.{Managed, ManagerView, no_elements, entry_wanted, kept_at, kept_for, managed_at}
use Rattle.contention_mgr.specs.Manager.{with_entry}
use Rattle.std.specs.Option.{option_map}
use Rattle.grs_base.specs.declared.resource.SysId.{SysId}
use Rattle.grs_base.specs.declared.resource.TaskId.{TaskId}
use Rattle.grs_node.specs.Finish.{may_come}
use Rattle.grs_wire.specs.Replies.{is_listed}
use Rattle.grs_node.specs.Node.{NodeState, prepare, star_call, star_need, prepared_by, may_send, desk_of, desk_count}
use Rattle.grs_node.specs.Node.{next_order, switch_call, purge_call, turn_call, may_go, is_pending}
use Rattle.grs_node.specs.Names.{names_of}
use Rattle.grs_node.specs.Star.{StarPart, send_of, send_to, leave_by, may_leave, gathers, entry_for, entry_asked}
use Rattle.grs_node.specs.Room.{is_command}
use Rattle.grs_node.specs.Star.{gathers_asked, manages_if_asked, was_prepared, managing, begun, first_held}
use Rattle.grs_node.specs.Star.{settle_by, to_tell, tell_by, part_by, owed_to}
use Rattle.grs_node.specs.declared.prepared.Prepared.TheVariants.{Quiet, Call, Nothing}
use Rattle.grs_base.specs.Limits.{most_commands, most_additions}
use Rattle.grs_base.specs.declared.resource.Res.{Res}
use Rattle.grs_node.specs.declared.star.Need.{Need}
use Rattle.grs_node.specs.declared.star.Need.TheVariants.{Asks, Idle}
use Rattle.grs_wire.specs.Decks.{IsOrderOf}
use Rattle.grs_wire.specs.Masks.{has}
use Rattle.grs_wire.specs.declared.deck.Choice.{Choice}
use Rattle.grs_wire.specs.declared.deck.Deck.{Deck}
use Rattle.grs_wire.specs.declared.deck.Desk.{Desk}
use Rattle.grs_wire.specs.declared.deck.Order.{Order}
use Rattle.grs_wire.specs.declared.medium.Act.{Act}
use Rattle.grs_wire.specs.declared.medium.Reply.{Reply}
use Rattle.grs_wire.specs.declared.request.Req.{Req}
use Rattle.system_purge.specs.Gather.{part_of}
use Rattle.task_state.specs.View.{TasksView, is_task, state_of}
use Rattle.task_state.specs.declared.state.Asked.{Asked}
use Rattle.grs_wire.specs.declared.deck.Choice.TheVariants as choices
use Rattle.grs_wire.specs.declared.deck.Order.TheVariants as orders
use Rattle.grs_wire.specs.declared.medium.Act.TheVariants as acts
use Rattle.grs_wire.specs.declared.medium.Mail.TheVariants as mails
use Rattle.grs_wire.specs.declared.medium.Reply.TheVariants as replies

pub own-sender : (deck : Deck) (n : NodeState) (t : TaskId) → may_send deck n t ≡ true → is_task n.tasks t ≡ true
unfolding may_send
own-sender deck n t h = (and_parts (is_task n.tasks t) _ h).0

-- ---- a choice whose call may come to a reply
sent-need : (deck : Deck) (n : NodeState) (t : TaskId) (p : StarPart) (reply : Reply)
    → may_come (prepared_by n.known (star_need deck n p (choices.Send t))) reply ≡ true
    → was_prepared n.tasks p (choices.Send t) ≡ true
sent-need deck n t p reply h = go (may_send deck n t) refl h
  where
    free : (x : Option Asked) → may_come (prepared_by n.known (send_of p t x)) reply ≡ true
        → gathers_asked p (entry_asked p x) ≡ false
    free None k = refl
    free (Some a) k = at (entry_for p a.req.want) refl k
      where
        at : (e : Option ℕ) → entry_for p a.req.want ≡ e
            → may_come (prepared_by n.known (send_to p (record { task = t; want = a.req.want }) e)) reply ≡ true
            → gathers_asked p (entry_for p a.req.want) ≡ false
        at None is k = ap (gathers_asked p) is
        at (Some e) is k = ap (gathers_asked p) is ∙ gathers-one (gathers p e) k
          where
            gathers-one : (b : Bool)
                → may_come (prepared_by n.known
                (cond b Idle (Asks (acts.Submit e (record { task = t; want = a.req.want })))))
                reply
                ≡ true
                → b ≡ false
            gathers-one true k = cc
            gathers-one false k = refl

    both : (a b : Bool) → a ≡ true → b ≡ false → (a && not b) ≡ true
    both a b e f = rw (e, f) refl

    go : (b : Bool) → may_send deck n t ≡ b
        → may_come (prepared_by n.known (cond b (send_of p t (state_of n.tasks t).outstanding) Idle)) reply ≡ true
        → (is_task n.tasks t && not (gathers_asked p (entry_asked p (state_of n.tasks t).outstanding))) ≡ true
    go true is k = both _ _ (own-sender deck n t is) (free (state_of n.tasks t).outstanding k)
    go false is k = cc

left-need : (deck : Deck) (n : NodeState) (e : ℕ) (p : StarPart) (reply : Reply)
    → may_come (prepared_by n.known (leave_by p n.tasks e)) reply ≡ true → may_leave p n.tasks e ≡ true
left-need deck n e p reply h = go (may_leave p n.tasks e) h
  where
    go : (b : Bool) → may_come (prepared_by n.known (cond b (Asks (acts.Leave e)) Idle)) reply ≡ true → b ≡ true
    go true k = refl
    go false k = cc

need-called : (deck : Deck) (n : NodeState) (choice : Choice) (reply : Reply) (p : StarPart)
    → may_come (prepared_by n.known (star_need deck n p choice)) reply ≡ true → was_prepared n.tasks p choice ≡ true
need-called deck n (choices.Send t) reply p h = sent-need deck n t p reply h
need-called deck n (choices.Leave e) reply p h = left-need deck n e p reply h
need-called deck n (choices.Task t) reply p h = refl
need-called deck n choices.Turn reply p h = refl
need-called deck n choices.Take reply p h = refl
need-called deck n choices.Settle reply p h = refl
need-called deck n (choices.Tell e) reply p h = refl
need-called deck n (choices.Part e) reply p h = refl
need-called deck n choices.Switch reply p h = refl
need-called deck n (choices.Purge s) reply p h = refl
need-called deck n choices.Rest reply p h = refl

star-called : (deck : Deck) (n : NodeState) (choice : Choice) (reply : Reply) (o : Option StarPart)
    → may_come (star_call deck n o choice) reply ≡ true → IfSome o (λ p. was_prepared n.tasks p choice ≡ true)
unfolding star_call
star-called deck n choice reply None h = tt
star-called deck n choice reply (Some p) h = need-called deck n choice reply p h

other-called : (n : NodeState) (choice : Choice) (o : Option StarPart)
    → ((p : StarPart) → was_prepared n.tasks p choice ≡ true) → IfSome o (λ p. was_prepared n.tasks p choice ≡ true)
other-called n choice None h = tt
other-called n choice (Some p) h = h p

pub came-called : (deck : Deck) (n : NodeState) (choice : Choice) (reply : Reply)
    → may_come (prepare deck n choice) reply ≡ true → IfSome n.star (λ p. was_prepared n.tasks p choice ≡ true)
unfolding prepare
came-called deck n (choices.Task t) reply h = other-called n (choices.Task t) n.star (λ p. refl)
came-called deck n choices.Turn reply h = other-called n choices.Turn n.star (λ p. refl)
came-called deck n choices.Rest reply h = other-called n choices.Rest n.star (λ p. refl)
came-called deck n (choices.Send t) reply h = star-called deck n (choices.Send t) reply n.star h
came-called deck n choices.Take reply h = star-called deck n choices.Take reply n.star h
came-called deck n choices.Settle reply h = star-called deck n choices.Settle reply n.star h
came-called deck n (choices.Tell e) reply h = star-called deck n (choices.Tell e) reply n.star h
came-called deck n (choices.Part e) reply h = star-called deck n (choices.Part e) reply n.star h
came-called deck n (choices.Leave e) reply h = star-called deck n (choices.Leave e) reply n.star h
came-called deck n choices.Switch reply h = other-called n choices.Switch n.star (λ p. refl)
came-called deck n (choices.Purge s) reply h = other-called n (choices.Purge s) n.star (λ p. refl)

-- ---- who asks for what a desk commands
abbrev is_commanded : Act → Bool
is_commanded (acts.Switch words) = true
is_commanded (acts.Purge target) = true
is_commanded act = false

abbrev needs_command : Need → Bool
needs_command (Asks act) = is_commanded act
needs_command need = false

-- no event of star mode
send-other : (p : StarPart) (t : TaskId) (o : Option Asked) → needs_command (send_of p t o) ≡ false
send-other p t None = refl
send-other p t (Some a) = at (entry_for p a.req.want)
  where
    one : (e : ℕ) (b : Bool)
        → needs_command (cond b Idle (Asks (acts.Submit e (record { task = t; want = a.req.want })))) ≡ false
    one e true = refl
    one e false = refl

    at : (o : Option ℕ) → needs_command (send_to p (record { task = t; want = a.req.want }) o) ≡ false
    at None = refl
    at (Some e) = one e (gathers p e)

settle-other : (p : StarPart) (o : Option Req) → needs_command (settle_by p o) ≡ false
settle-other p None = refl
settle-other p (Some q) = refl

tell-other : (o : Option (TaskId × Res)) → needs_command (tell_by o) ≡ false
tell-other None = refl
tell-other (Some x) = refl

part-other : (names : List TaskId) (known : ℕ) (p : StarPart) (v : TasksView) (e : ℕ) (o : Option SysId)
    → needs_command (part_by names known p v e o) ≡ false
part-other names known p v e None = refl
part-other names known p v e (Some to) = go (has known to.0)
  where
    go : (b : Bool)
        → needs_command
        (cond b Idle
        (Asks (acts.Tell to (mails.Part e p.manager.system (part_of (length p.manager.entries) e names v)))))
        ≡ false
    go true = refl
    go false = refl

need-other : (deck : Deck) (n : NodeState) (p : StarPart) (choice : Choice)
    → needs_command (star_need deck n p choice) ≡ false
need-other deck n p (choices.Send t) = go (may_send deck n t)
  where
    go : (b : Bool) → needs_command (cond b (send_of p t (state_of n.tasks t).outstanding) Idle) ≡ false
    go true = send-other p t (state_of n.tasks t).outstanding
    go false = refl
need-other deck n p choices.Take = refl
need-other deck n p choices.Settle = settle-other p (first_held p)
need-other deck n p (choices.Tell e) = tell-other (to_tell p e)
need-other deck n p (choices.Leave e) = go (may_leave p n.tasks e)
  where
    go : (b : Bool) → needs_command (cond b (Asks (acts.Leave e)) Idle) ≡ false
    go true = refl
    go false = refl
need-other deck n p (choices.Part e) = part-other (names_of deck n.tasks.system) n.known p n.tasks e (owed_to p e)
need-other deck n p (choices.Task t) = refl
need-other deck n p choices.Turn = refl
need-other deck n p choices.Switch = refl
need-other deck n p (choices.Purge s) = refl
need-other deck n p choices.Rest = refl

-- a reply that is given to what a desk commands alone
abbrev OfDesk : Reply → Type 0
OfDesk reply = (act : Act) → is_commanded act ≡ false → is_listed act reply ≡ false

-- there are four
of-desk : (act : Act) → is_commanded act ≡ false
    → (is_listed act replies.Switched ≡ false) × (is_listed act replies.Already ≡ false)
    × (is_listed act replies.Purged ≡ false)
    × (is_listed act replies.NoSuch ≡ false)
of-desk (acts.Turn out) h = (refl, refl, refl, refl)
of-desk (acts.Switch words) h = absurd cc
of-desk (acts.Submit e q) h = (refl, refl, refl, refl)
of-desk acts.Take h = (refl, refl, refl, refl)
of-desk (acts.Settle to mail) h = (refl, refl, refl, refl)
of-desk (acts.Tell to mail) h = (refl, refl, refl, refl)
of-desk (acts.Leave e) h = (refl, refl, refl, refl)
of-desk (acts.Purge target) h = absurd cc
of-desk acts.Rest h = (refl, refl, refl, refl)

of-switched : OfDesk replies.Switched
of-switched act h = (of-desk act h).0

of-already : OfDesk replies.Already
of-already act h = (of-desk act h).1

of-purged : OfDesk replies.Purged
of-purged act h = (of-desk act h).2

of-no_such : OfDesk replies.NoSuch
of-no_such act h = (of-desk act h).3

-- such a reply comes only where the desk has a command that isn't done
module _ (deck : Deck) (n : NodeState) (reply : Reply) (only : OfDesk reply) where
  need-none : (need : Need) → needs_command need ≡ false → may_come (prepared_by n.known need) reply ≡ true → ⊥
  need-none (Asks act) h k = absurd (true≢false (sym k ∙ only act h))
  need-none Idle h k = cc

  star-none : (choice : Choice) (o : Option StarPart) → may_come (star_call deck n o choice) reply ≡ true → ⊥
  unfolding star_call
  star-none choice None k = cc
  star-none choice (Some p) k = need-none (star_need deck n p choice) (need-other deck n p choice) k

  turn-none : (o : Option StarPart) → may_come (turn_call n o) reply ≡ true → ⊥
  turn-none None k = absurd (true≢false (sym k ∙ only (acts.Turn (take most_additions n.outbox)) refl))
  turn-none (Some p) k = cc

  desk-next : (o : Option Order) → may_come (switch_call deck n o) reply ≡ true → is_some o ≡ true
  desk-next None k = cc
  desk-next (Some o) k = refl

  purge-next : (o : Option Order) (target : SysId) → may_come (purge_call n target o) reply ≡ true → is_some o ≡ true
  purge-next None target k = cc
  purge-next (Some o) target k = refl

  desk-below : (desk : List Desk) (k : ℕ) → is_some (option_map (λ c. c.order) (slice_get desk k)) ≡ true
      → k < length desk
  desk-below [] k h = cc
  desk-below (c ∷ desk) zero h = omega arith
  desk-below (c ∷ desk) (suc k) h = omega (arith, desk-below desk k h)

  ordered : (choice : Choice) → may_come (prepare deck n choice) reply ≡ true
      → n.done < desk_count (slice_get deck.systems n.tasks.system)
  unfolding prepare
  ordered choices.Switch k =
      desk-below (desk_of (slice_get deck.systems n.tasks.system)) n.done (desk-next (next_order deck n) k)
  ordered (choices.Purge s) k =
      desk-below (desk_of (slice_get deck.systems n.tasks.system)) n.done (purge-next (next_order deck n) s k)
  ordered (choices.Task t) k = absurd (go (may_go deck n t) k)
    where
      go : (b : Bool) → may_come (cond b Quiet Nothing) reply ≡ true → ⊥
      go true j = cc
      go false j = cc
  ordered choices.Turn k = absurd (turn-none n.star k)
  ordered choices.Rest k = absurd (go (is_pending deck n) k)
    where
      go : (b : Bool) → may_come (cond b Nothing (Call (record { known = n.known; act = acts.Rest }))) reply ≡ true → ⊥
      go true j = cc
      go false j = true≢false (sym j ∙ only acts.Rest refl)
  ordered (choices.Send t) k = absurd (star-none (choices.Send t) n.star k)
  ordered choices.Take k = absurd (star-none choices.Take n.star k)
  ordered choices.Settle k = absurd (star-none choices.Settle n.star k)
  ordered (choices.Tell e) k = absurd (star-none (choices.Tell e) n.star k)
  ordered (choices.Part e) k = absurd (star-none (choices.Part e) n.star k)
  ordered (choices.Leave e) k = absurd (star-none (choices.Leave e) n.star k)

  -- and where it was asked by a command of the desk
  commanded : (choice : Choice) → may_come (prepare deck n choice) reply ≡ true → is_command choice ≡ true
  unfolding prepare
  commanded choices.Switch k = refl
  commanded (choices.Purge s) k = refl
  commanded (choices.Task t) k = absurd (go (may_go deck n t) k)
    where
      go : (b : Bool) → may_come (cond b Quiet Nothing) reply ≡ true → ⊥
      go true j = cc
      go false j = cc
  commanded choices.Turn k = absurd (turn-none n.star k)
  commanded choices.Rest k = absurd (go (is_pending deck n) k)
    where
      go : (b : Bool) → may_come (cond b Nothing (Call (record { known = n.known; act = acts.Rest }))) reply ≡ true → ⊥
      go true j = cc
      go false j = true≢false (sym j ∙ only acts.Rest refl)
  commanded (choices.Send t) k = absurd (star-none (choices.Send t) n.star k)
  commanded choices.Take k = absurd (star-none choices.Take n.star k)
  commanded choices.Settle k = absurd (star-none choices.Settle n.star k)
  commanded (choices.Tell e) k = absurd (star-none (choices.Tell e) n.star k)
  commanded (choices.Part e) k = absurd (star-none (choices.Part e) n.star k)
  commanded (choices.Leave e) k = absurd (star-none (choices.Leave e) n.star k)

-- so a system that tells of its desk has a command there that isn't done
pub switched-orders : (deck : Deck) (n : NodeState) (choice : Choice)
    → may_come (prepare deck n choice) replies.Switched ≡ true
    → desk_count (slice_get deck.systems n.tasks.system) ≤ most_commands → n.done < most_commands
switched-orders deck n choice h few = omega (arith, ordered deck n replies.Switched of-switched choice h, few)

pub already-orders : (deck : Deck) (n : NodeState) (choice : Choice)
    → may_come (prepare deck n choice) replies.Already ≡ true
    → desk_count (slice_get deck.systems n.tasks.system) ≤ most_commands → n.done < most_commands
already-orders deck n choice h few = omega (arith, ordered deck n replies.Already of-already choice h, few)

pub purged-orders : (deck : Deck) (n : NodeState) (choice : Choice)
    → may_come (prepare deck n choice) replies.Purged ≡ true
    → desk_count (slice_get deck.systems n.tasks.system) ≤ most_commands → n.done < most_commands
purged-orders deck n choice h few = omega (arith, ordered deck n replies.Purged of-purged choice h, few)

pub no_such-orders : (deck : Deck) (n : NodeState) (choice : Choice)
    → may_come (prepare deck n choice) replies.NoSuch ≡ true
    → desk_count (slice_get deck.systems n.tasks.system) ≤ most_commands → n.done < most_commands
no_such-orders deck n choice h few = omega (arith, ordered deck n replies.NoSuch of-no_such choice h, few)

pub ruleset ordered_desk = (switched-orders, already-orders, purged-orders, no_such-orders)

pub already-commands : (deck : Deck) (n : NodeState) (choice : Choice)
    → may_come (prepare deck n choice) replies.Already ≡ true → is_command choice ≡ true
already-commands deck n choice h = commanded deck n replies.Already of-already choice h

pub no_such-commands : (deck : Deck) (n : NodeState) (choice : Choice)
    → may_come (prepare deck n choice) replies.NoSuch ≡ true → is_command choice ≡ true
no_such-commands deck n choice h = commanded deck n replies.NoSuch of-no_such choice h

pub ruleset commands = (already-commands, no_such-commands)

-- ---- what a removal that is commanded is of
order-at : (P : Order → Type 0) (cs : List Desk) (k : ℕ) (o : Order) → All (λ (c : Desk). P c.order) cs
    → option_map (λ c. c.order) (slice_get cs k) ≡ Some o → P o
order-at P [] k o h is = absurd (cc)
order-at P (c ∷ cs) zero o h is = let same : c.order ≡ o = cc in subst P same (h 0 c (omega arith))
order-at P (c ∷ cs) (suc k) o h is = order-at P cs k o (All-tail (λ (d : Desk). P d.order) c cs h) is

-- the target of a removal that a system's desk commands next is another system of as many
pub target-of : (deck : Deck) (n : NodeState) (target : SysId) (all : ℕ)
    → All (λ (c : Desk). IsOrderOf all n.tasks.system c.order) (desk_of (slice_get deck.systems n.tasks.system))
    → next_order deck n ≡ Some (orders.Vary target) → (target.0 < all) × (target.0 ≢ n.tasks.system)
target-of deck n target all h is =
    order-at (IsOrderOf all n.tasks.system) (desk_of (slice_get deck.systems n.tasks.system)) n.done
    (orders.Vary target) h is

-- a task that sends is one of the system's
pub call-send : (deck : Deck) (n : NodeState) (t : TaskId) (reply : Reply)
    → may_come (prepare deck n (choices.Send t)) reply ≡ true → is_task n.tasks t ≡ true
unfolding prepare star_call
call-send deck n t reply h = go n.star h
  where
    go : (o : Option StarPart) → may_come (star_call deck n o (choices.Send t)) reply ≡ true → is_task n.tasks t ≡ true
    go None k = cc
    go (Some p) k = (and_parts (is_task n.tasks t) _ (sent-need deck n t p reply k)).0

pub ruleset senders = (own-sender)

pub ruleset came = (came-called)

-- ---- an entry that is managed from now on
kept-set : (es : List (Option Managed)) (e : ℕ) (m : Managed) → e < length es
    → kept_at (slice_set es e (Some m)) e ≡ Some m
kept-set [] e m h = absurd (omega (arith, h))
kept-set (o ∷ es) zero m h = refl
kept-set (o ∷ es) (suc e) m h = kept-set es e m (omega (arith, h))

-- there are as many entries
pub managing-length : (m : ManagerView) (e : ℕ) → length (managing m e).entries ≡ length m.entries
managing-length m e = go (is_some (managed_at m e))
  where
    go : (b : Bool) → length (cond b m (with_entry m (Some e) (Some no_elements))).entries ≡ length m.entries
    go true = refl
    go false = length-set m.entries e (Some no_elements)

-- and it is managed
managing-this : (m : ManagerView) (e : ℕ) → e < length m.entries → is_some (managed_at (managing m e) e) ≡ true
managing-this m e h = go (is_some (managed_at m e)) refl
  where
    go : (b : Bool) → is_some (managed_at m e) ≡ b
        → is_some (managed_at (cond b m (with_entry m (Some e) (Some no_elements))) e) ≡ true
    go true is = is
    go false is = ap (λ (o : Option Managed). is_some o) (kept-set m.entries e no_elements h)

-- serves the request that is of it
pub decides-begun : (p : StarPart) (x : Option Asked) (e : ℕ) → entry_asked p x ≡ Some e → e < length p.manager.entries
    → manages_if_asked (begun p e) x ≡ true
decides-begun p None e is h = refl
decides-begun p (Some a) e is h =
    let at : entry_wanted (length (managing p.manager e).entries) a.req.want ≡ Some e =
    ap (λ (n : ℕ). entry_wanted n a.req.want) (managing-length p.manager e) ∙ is in
    ap (λ (o : Option ℕ). is_some (kept_for (managing p.manager e).entries o)) at ∙ managing-this p.manager e h

pub ruleset begins = (decides-begun)
