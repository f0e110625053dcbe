-- A reply that says nothing new leaves the system, and so does a call without an entry in the journal.
use Rattle.std.proofs.Common.{◌≡◌, ℕ, Bool, true, false, [], ◌∷◌, Option, Some, None, refl, ap, sym, subst, ◌∙◌}
use Rattle.std.specs.Prelude.{◌==◌}
use Rattle.std.proofs.lemmas.Bool.{and_parts, eqb-true}
use Rattle.grs_node.specs.Finish.{may_come, MayFinish, UnjournalledLeaves, RepliesLeave}
use Rattle.grs_node.specs.Log.{NodeView, finished}
use Rattle.grs_base.specs.declared.resource.TaskId.{TaskId}
use Rattle.grs_node.specs.Node.{NodeState, only, with_star, take_step, star_step, read_entries, all_sent, put_in}
use Rattle.grs_node.specs.Node.{turned, finish_star, finish_call, prepare, finish}
use Rattle.grs_node.specs.Star.{StarPart, fixing_none, send_step, settle_step, tell_step, part_step, leave_step}
use Rattle.grs_wire.specs.declared.deck.Choice.{Choice}
use Rattle.grs_wire.specs.declared.deck.Deck.{Deck}
use Rattle.grs_node.specs.declared.prepared.Prepared.{Prepared}
use Rattle.grs_node.specs.declared.prepared.Prepared.TheVariants.{Call}
use Rattle.grs_wire.specs.Replies.{is_listed}
use Rattle.grs_wire.specs.declared.medium.Call.{Call as MediumCall}
use Rattle.grs_wire.specs.declared.medium.Reply.{Reply}
use Rattle.task_state.specs.View.{TasksView}
use Rattle.grs_wire.specs.declared.medium.Reply.TheVariants as replies
use Rattle.grs_wire.specs.declared.deck.Choice.TheVariants as choices

-- what was prepared may come to each reply that is listed for its call
pub may_come-listed : (deck : Deck) (n : NodeState) (choice : Choice) (call : MediumCall) (reply : Reply)
    → prepare deck n choice ≡ Call call → is_listed call.act reply ≡ true
    → may_come (prepare deck n choice) reply ≡ true
may_come-listed deck n choice call reply h listed =
    subst (λ (p : Prepared). may_come p reply ≡ true) (sym h) listed

-- a reply that says nothing new to any choice of star mode
by-choice : (deck : Deck) (known : ℕ) (v : TasksView) (p : StarPart) (reply : Reply)
    → ((t : TaskId) → send_step v p t reply ≡ fixing_none v p) → take_step deck known v p reply ≡ fixing_none v p
    → settle_step v p reply ≡ fixing_none v p → ((e : ℕ) → tell_step v p e reply ≡ fixing_none v p)
    → ((e : ℕ) → part_step v p e reply ≡ fixing_none v p) → ((e : ℕ) → leave_step v p e reply ≡ fixing_none v p)
    → (choice : Choice) → star_step deck known v p choice reply ≡ fixing_none v p
by-choice deck known v p reply send take settle tell part leave (choices.Send t) = send t
by-choice deck known v p reply send take settle tell part leave choices.Take = take
by-choice deck known v p reply send take settle tell part leave choices.Settle = settle
by-choice deck known v p reply send take settle tell part leave (choices.Tell e) = tell e
by-choice deck known v p reply send take settle tell part leave (choices.Leave e) = leave e
by-choice deck known v p reply send take settle tell part leave (choices.Part e) = part e
by-choice deck known v p reply send take settle tell part leave (choices.Task t) = refl
by-choice deck known v p reply send take settle tell part leave choices.Turn = refl
by-choice deck known v p reply send take settle tell part leave choices.Switch = refl
by-choice deck known v p reply send take settle tell part leave (choices.Purge s) = refl
by-choice deck known v p reply send take settle tell part leave choices.Rest = refl

restored : (n : NodeState) (p : StarPart) → n.star ≡ Some p → with_star n (fixing_none n.tasks p) ≡ only n
restored n p is = ap (λ (o : Option StarPart). only (record n { star = o })) (sym is)

-- leaves the system
still : (deck : Deck) (n : NodeState) (choice : Choice) (reply : Reply)
    → ((p : StarPart) → star_step deck n.known n.tasks p choice reply ≡ fixing_none n.tasks p)
    → finish_star deck n n.star choice reply ≡ only n
unfolding finish_star
still deck n choice reply same = go n.star refl
  where
    go : (o : Option StarPart) → n.star ≡ o → finish_star deck n o choice reply ≡ only n
    go None is = refl
    go (Some p) is = ap (with_star n) (same p) ∙ restored n p is

pub replies_leave : RepliesLeave
unfolding finish finish_call turned put_in all_sent read_entries
replies_leave deck n choice (replies.NotYours holder) h =
    still deck n choice (replies.NotYours holder)
    (λ p.
    by-choice deck n.known n.tasks p (replies.NotYours holder) (λ t. refl) refl refl (λ e. refl) (λ e. refl) (λ e. refl)
    choice)
replies_leave deck n choice (replies.Behind first) h =
    still deck n choice (replies.Behind first)
    (λ p.
    by-choice deck n.known n.tasks p (replies.Behind first) (λ t. refl) refl refl (λ e. refl) (λ e. refl) (λ e. refl)
    choice)
replies_leave deck n choice replies.Empty h =
    still deck n choice replies.Empty
    (λ p. by-choice deck n.known n.tasks p replies.Empty (λ t. refl) refl refl (λ e. refl) (λ e. refl) (λ e. refl)
    choice)
replies_leave deck n choice (replies.Kept mask) h =
    still deck n choice (replies.Kept mask)
    (λ p. by-choice deck n.known n.tasks p (replies.Kept mask) (λ t. refl) refl refl (λ e. refl) (λ e. refl) (λ e. refl)
    choice)
replies_leave deck n choice replies.Yours h =
    still deck n choice replies.Yours
    (λ p. by-choice deck n.known n.tasks p replies.Yours (λ t. refl) refl refl (λ e. refl) (λ e. refl) (λ e. refl)
    choice)
replies_leave deck n choice replies.Old h =
    still deck n choice replies.Old
    (λ p. by-choice deck n.known n.tasks p replies.Old (λ t. refl) refl refl (λ e. refl) (λ e. refl) (λ e. refl)
    choice)
replies_leave deck n choice replies.Resting h =
    still deck n choice replies.Resting
    (λ p. by-choice deck n.known n.tasks p replies.Resting (λ t. refl) refl refl (λ e. refl) (λ e. refl) (λ e. refl)
    choice)
replies_leave deck n choice replies.Over h =
    still deck n choice replies.Over
    (λ p. by-choice deck n.known n.tasks p replies.Over (λ t. refl) refl refl (λ e. refl) (λ e. refl) (λ e. refl)
    choice)
replies_leave deck n choice replies.Removed h =
    still deck n choice replies.Removed
    (λ p. by-choice deck n.known n.tasks p replies.Removed (λ t. refl) refl refl (λ e. refl) (λ e. refl) (λ e. refl)
    choice)
replies_leave deck n choice (replies.Turned [] taken true) h = absurd (cc (and_parts (taken == 0) false h).1)
replies_leave deck n choice (replies.Turned [] taken false) h =
    let none : taken ≡ 0 = eqb-true taken 0 (and_parts (taken == 0) true h).0 in
    ap (λ k. finish deck n choice (Some (replies.Turned [] k false))) none
replies_leave deck n choice (replies.Turned (e ∷ es) taken closed) h = absurd (cc)
replies_leave deck n choice (replies.Stale set) h = absurd (cc)
replies_leave deck n choice replies.Switched h = absurd (cc)
replies_leave deck n choice replies.Already h = absurd (cc)
replies_leave deck n choice replies.Sole h = absurd (cc)
replies_leave deck n choice replies.Sent h = absurd (cc)
replies_leave deck n choice (replies.Taken mail) h = absurd (cc)
replies_leave deck n choice replies.Settled h = absurd (cc)
replies_leave deck n choice replies.Told h = absurd (cc)
replies_leave deck n choice replies.Left h = absurd (cc)
replies_leave deck n choice replies.Purged h = absurd (cc)
replies_leave deck n choice replies.NoSuch h = absurd (cc)

pub unjournalled_leaves : UnjournalledLeaves
unfolding finished
unjournalled_leaves v choice reply h =
    ap (λ s. record v { node = s.node }) (replies_leave v.deck v.node choice reply h.1)

-- so the system is behind it what it is finished to
pub stays : (v : NodeView) (choice : Choice) (r : Reply × Bool) → MayFinish v choice (Some r) → r.1 ≡ false
    → v ≡ finished v choice (Some r)
stays v choice (reply, true) h is = absurd (cc)
stays v choice (reply, false) h is = sym (unjournalled_leaves v choice reply h)

pub ruleset leaving = (stays)
