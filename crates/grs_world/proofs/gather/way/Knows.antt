-- Whose call is answered, but not by who was removed, knows all who were; and who is answered that it may decide a
-- request of its own has no notice of the entry.
use Rattle.grs_world.proofs.Common.{◌==◌, ◌∙◌, ◌≡◌, ap, apply, Asked, Bool, by_test, Choice, cond, Deck, eqb-true}
use Rattle.grs_world.proofs.Common.{false, has, inbox, MediumState, no_truth, NodeState, Nothing, noticed, Option}
use Rattle.grs_world.proofs.Common.{prepare, Prepared, prepared_by, Quiet, Reply, Req, request_of, row, Some, star_call}
use Rattle.grs_world.proofs.Common.{StarPart, state_of, submit_row, sym, SysId, TaskId, true, ℕ}
use Rattle.grs_medium.specs.Apply.{is_noticed, manages as manages_there, notice_reply, submit_on}
use Rattle.grs_node.specs.Star.{may_leave, send_of, send_to}
use Rattle.grs_node.specs.declared.prepared.Prepared.TheVariants.{Call as Calls}
use Rattle.grs_node.specs.declared.star.Need.{Need}
use Rattle.grs_node.specs.declared.star.Need.TheVariants.{Asks, Idle}
use Rattle.grs_wire.specs.declared.medium.Call.{Call as CallOf}
use Rattle.grs_world.proofs.gather.Acts.{Says, all_say}
use Rattle.grs_world.proofs.gather.Notices.{left-clear}
use Rattle.grs_world.proofs.run.Came.{IsToSend, Result, replied, result_of}
use Rattle.grs_world.proofs.run.Each.{each_heard}
use Rattle.grs_wire.specs.declared.deck.Choice.TheVariants as choices
use Rattle.grs_wire.specs.declared.medium.Act.TheVariants as acts
use Rattle.grs_wire.specs.declared.medium.Reply.TheVariants as replies

-- whether a reply refuses a call
abbrev pub is_refusal : Reply → Bool
is_refusal (replies.Stale set) = true
is_refusal replies.Removed = true
is_refusal _ = false

same-reply : (a b : Reply) → replied a ≡ replied b → a ≡ b
same-reply a b e = cc

module _ (m : MediumState) (c : SysId) where
  heard-knows : (call : CallOf) (r : Reply) → is_refusal r ≡ false → r ≡ (apply m c call).0 → call.known ≡ m.removed
  unfolding apply
  heard-knows call r heard =
      by_test (λ (z : Reply × MediumState). r ≡ z.0 → call.known ≡ m.removed) (has m.removed c.0) (replies.Removed, m) _
      (λ gone is. no_truth (is_refusal r) (ap is_refusal is) heard)
      (λ live.
      by_test (λ (z : Reply × MediumState). r ≡ z.0 → call.known ≡ m.removed) (call.known == m.removed)
      (row m c call.act) (replies.Stale m.removed, m) (λ same is. eqb-true call.known m.removed same)
      (λ other is. no_truth (is_refusal r) (ap is_refusal is) heard))

  by-call : (known : ℕ) (x : Prepared) → Says known x → (r : Reply) → is_refusal r ≡ false
      → replied r ≡ result_of m c x → known ≡ m.removed
  by-call known Nothing says r heard was = absurd (cc)
  by-call known Quiet says r heard was = absurd (cc)
  by-call known (Calls call) says r heard was =
      sym says ∙ heard-knows call r heard (same-reply r _ was)

  pub knows-all : (deck : Deck) (n : NodeState) (choice : Choice) (r : Reply) → is_refusal r ≡ false
      → replied r ≡ result_of m c (prepare deck n choice) → n.known ≡ m.removed
  knows-all deck n choice r heard was = by-call n.known (prepare deck n choice) (all_say deck n choice) r heard was

  -- ---- its own request
  no-sole : (b : Bool) → replies.Sole ≡ cond b replies.Yours replies.Old → (X : Type 0) → X
  no-sole true e X = absurd (cc)
  no-sole false e X = absurd (cc)

  sole-row : (x : ℕ) (q : Req) → replies.Sole ≡ (row m c (acts.Submit x q)).0 → noticed x (inbox m c.0) ≡ false
  unfolding row submit_row
  sole-row x q =
      by_test (λ (z : Reply × MediumState). replies.Sole ≡ z.0 → noticed x (inbox m c.0) ≡ false)
      (is_noticed m c x) (notice_reply m c x, m) _
      (λ yes e. no-sole (manages_there m c x) e (noticed x (inbox m c.0) ≡ false)) (λ no e. no)

  pub sole-clear : (deck : Deck) (n : NodeState) (p : StarPart) → n.star ≡ Some p → has m.removed c.0 ≡ false
      → (t : TaskId) (a : Asked) (x : ℕ) → IsToSend deck n p t a x
      → replied replies.Sole ≡ result_of m c (prepare deck n (choices.Send t)) → noticed x (inbox m c.0) ≡ false
  unfolding prepare star_call
  sole-clear deck n p star alive t a x asked was =
      each_heard m c (record { known = n.known; act = acts.Submit x (request_of t a) })
      (λ (z : Reply × MediumState). replies.Sole ≡ z.0 → noticed x (inbox m c.0) ≡ false) alive (λ e. absurd (cc))
      (sole-row x (request_of t a))
      (same-reply _ _
      (was
      ∙ (ap (λ o. result_of m c (star_call deck n o (choices.Send t))) star
      ∙ (ap (λ b. result_of m c (prepared_by n.known (cond b (send_of p t (state_of n.tasks t).outstanding) Idle)))
      asked.may
      ∙ (ap (λ o. result_of m c (prepared_by n.known (send_of p t o))) asked.asks
      ∙ (ap (λ o. result_of m c (prepared_by n.known (send_at o))) asked.entry
      ∙ ap (λ b.
      result_of m c
      (prepared_by n.known (cond b Idle (Asks (acts.Submit x (request_of t a))))))
      asked.settled))))))
    where
      send_at : Option ℕ → Need
      send_at o = send_to p (request_of t a) o

  -- who is answered that a request went to the manager has none either
  no-sent : (b : Bool) → replies.Sent ≡ cond b replies.Yours replies.Old → (X : Type 0) → X
  no-sent true e X = absurd (cc)
  no-sent false e X = absurd (cc)

  sent-row : (x : ℕ) (q : Req) → replies.Sent ≡ (row m c (acts.Submit x q)).0 → noticed x (inbox m c.0) ≡ false
  unfolding row submit_row
  sent-row x q =
      by_test (λ (z : Reply × MediumState). replies.Sent ≡ z.0 → noticed x (inbox m c.0) ≡ false)
      (is_noticed m c x) (notice_reply m c x, m) _
      (λ yes e. no-sent (manages_there m c x) e (noticed x (inbox m c.0) ≡ false)) (λ no e. no)

  pub sent-clear : (deck : Deck) (n : NodeState) (p : StarPart) → n.star ≡ Some p → has m.removed c.0 ≡ false
      → (t : TaskId) (a : Asked) (x : ℕ) → IsToSend deck n p t a x
      → replied replies.Sent ≡ result_of m c (prepare deck n (choices.Send t)) → noticed x (inbox m c.0) ≡ false
  unfolding prepare star_call
  sent-clear deck n p star alive t a x asked was =
      each_heard m c (record { known = n.known; act = acts.Submit x (request_of t a) })
      (λ (z : Reply × MediumState). replies.Sent ≡ z.0 → noticed x (inbox m c.0) ≡ false) alive (λ e. absurd (cc))
      (sent-row x (request_of t a))
      (same-reply _ _
      (was
      ∙ (ap (λ o. result_of m c (star_call deck n o (choices.Send t))) star
      ∙ (ap (λ b. result_of m c (prepared_by n.known (cond b (send_of p t (state_of n.tasks t).outstanding) Idle)))
      asked.may
      ∙ (ap (λ o. result_of m c (prepared_by n.known (send_of p t o))) asked.asks
      ∙ (ap (λ o. result_of m c (prepared_by n.known (send_at o))) asked.entry
      ∙ ap (λ b.
      result_of m c
      (prepared_by n.known (cond b Idle (Asks (acts.Submit x (request_of t a))))))
      asked.settled))))))
    where
      send_at : Option ℕ → Need
      send_at o = send_to p (request_of t a) o

  -- who leaves an entry has none either
  pub leave-clear : (deck : Deck) (n : NodeState) (p : StarPart) → n.star ≡ Some p → has m.removed c.0 ≡ false → (x : ℕ)
      → may_leave p n.tasks x ≡ true → replied replies.Left ≡ result_of m c (prepare deck n (choices.Leave x))
      → noticed x (inbox m c.0) ≡ false
  unfolding prepare star_call
  leave-clear deck n p star alive x may was =
      left-clear m c alive n.known x
      (was
      ∙ (ap (λ o. result_of m c (star_call deck n o (choices.Leave x))) star
      ∙ ap (λ b. result_of m c (prepared_by n.known (cond b (Asks (acts.Leave x)) Idle))) may))
