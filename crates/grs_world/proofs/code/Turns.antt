-- A Turn in a ring, by whether it gets to the message.
use Rattle.grs_world.proofs.Common.{◌∙◌, ◌≡◌, ap, apply, Call, chosen, cond, Deck, finish, length, List, MediumState}
use Rattle.grs_world.proofs.Common.{most_additions, NodeState, None, prepare, Reply, Req, Some, subst, SysId, take}
use Rattle.grs_world.proofs.Common.{true, Turn, turn_row, unseen, ℕ}
use Rattle.grs_medium.specs.TurnReplies.{refusal}
use Rattle.grs_medium.proofs.TurnLaws.{turn_is_refused, turn_is_served, turn_is_here}
use Rattle.grs_node.specs.Finish.{may_come}
use Rattle.grs_node.specs.TurnCalls.{turn_of}
use Rattle.grs_wire.specs.declared.medium.Reply.TheVariants.{Turned}
use Rattle.grs_world.proofs.code.Calls.{chosen-call, may_come-reply}

-- what a Turn that was prepared leads to, by what the medium makes of it
module _ (deck : Deck) (m : MediumState) (c : SysId) (n : NodeState) (known : ℕ)
    (asks : prepare deck n Turn ≡ Call (turn_of n known)) where
  by_call : {x : Reply × MediumState} → apply m c (turn_of n known) ≡ x
      → chosen deck m c n Turn ≡ record { medium = x.1; step = finish deck n Turn (Some x.0) }
  by_call is =
      chosen-call deck m c n Turn (turn_of n known) asks
      ∙ ap (λ (x : Reply × MediumState). record { medium = x.1; step = finish deck n Turn (Some x.0) }) is

  may_end : {x : Reply × MediumState} → apply m c (turn_of n known) ≡ x → may_come (prepare deck n Turn) x.0 ≡ true
  may_end is =
      subst (λ (x : Reply × MediumState). may_come (prepare deck n Turn) x.0 ≡ true) is
      (may_come-reply m c deck n Turn (turn_of n known) asks)

  pub chosen-refused : (r : Reply) → refusal m c known ≡ Some r
      → chosen deck m c n Turn ≡ record { medium = m; step = finish deck n Turn (Some r) }
  chosen-refused r h = by_call (turn_is_refused m c known (take most_additions n.outbox) r h)

  pub refused-ends : (r : Reply) → refusal m c known ≡ Some r → may_come (prepare deck n Turn) r ≡ true
  refused-ends r h = may_end (turn_is_refused m c known (take most_additions n.outbox) r h)

  -- the reply of a Turn that gets to the message, which puts these requests in
  abbrev pub reply_here : List Req → Reply
  reply_here out = Turned (unseen c m.message.entries) (cond m.message.closed 0 (length out)) m.message.closed

  pub chosen-given : refusal m c known ≡ None
      → chosen deck m c n Turn
      ≡ record {
        medium = (turn_row m c (take most_additions n.outbox)).1;
        step = finish deck n Turn (Some (reply_here (take most_additions n.outbox)));
      }
  chosen-given h = by_call (turn_is_served m c known (take most_additions n.outbox) h)

  pub given-ends : refusal m c known ≡ None
      → may_come (prepare deck n Turn) (reply_here (take most_additions n.outbox)) ≡ true
  given-ends h = may_end (turn_is_served m c known (take most_additions n.outbox) h)

pub ruleset refused = (chosen-refused, refused-ends)

pub ruleset given = (chosen-given, given-ends, turn_is_here)
