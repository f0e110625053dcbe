-- Who acts in star mode knows all who were removed, since a call of a system that doesn't is refused. So of no removed
-- system it keeps anything.
use Rattle.grs_world.proofs.Common.{◌==◌, ◌∙◌, ◌≡◌, ap, Bool, by_test, call_at, call_in, Choice, cond, Deck, Event}
use Rattle.grs_world.proofs.Common.{false, has, is_live, is_pending, List, may_go, next_order, NodeState, None, Nothing}
use Rattle.grs_world.proofs.Common.{Option, Order, OrdersFit, prepare, Prepared, prepared_by, Quiet, refl, run}
use Rattle.grs_world.proofs.Common.{same_Some, Some, star_call, StarPart, sym, SysId, true, ℕ}
use Rattle.grs_node.specs.Node.{purge_call, star_need, switch_call, turn_call}
use Rattle.grs_node.specs.declared.prepared.Prepared.TheVariants.{Call as Calls}
use Rattle.grs_node.specs.declared.star.Need.{Need}
use Rattle.grs_node.specs.declared.star.Need.TheVariants.{Asks, Idle}
use Rattle.grs_wire.specs.declared.medium.Call.{Call}
use Rattle.grs_world.proofs.gather.HeldBack.{held_run}
use Rattle.grs_world.proofs.gather.Known.{clean_run}
use Rattle.grs_world.specs.Gone.{ActsWithoutGone, KnownAreGone}
use Rattle.grs_wire.specs.declared.deck.Choice.TheVariants as choices
use Rattle.grs_wire.specs.declared.deck.Order.TheVariants as orders
use Rattle.grs_wire.specs.declared.medium.Act.TheVariants as acts

-- ---- what a system is prepared to call says whom it knows to be removed
abbrev pub Says : ℕ → Prepared → Type 0
Says known Nothing = Unit {0}
Says known Quiet = Unit {0}
Says known (Calls call) = call.known ≡ known

module _ (deck : Deck) (n : NodeState) where
  by_need : (need : Need) → Says n.known (prepared_by n.known need)
  by_need Idle = tt
  by_need (Asks act) = refl

  by_part : (choice : Choice) (o : Option StarPart) → Says n.known (star_call deck n o choice)
  unfolding star_call
  by_part choice None = tt
  by_part choice (Some p) = by_need (star_need deck n p choice)

  by_turn : (o : Option StarPart) → Says n.known (turn_call n o)
  by_turn None = refl
  by_turn (Some p) = tt

  by_switch : (o : Option Order) → Says n.known (switch_call deck n o)
  by_switch None = tt
  by_switch (Some orders.Star) = refl
  by_switch (Some (orders.Vary named)) = tt

  by_purge : (target : SysId) (o : Option Order) → Says n.known (purge_call n target o)
  by_purge target None = tt
  by_purge target (Some orders.Star) = tt
  by_purge target (Some (orders.Vary named)) =
      by_test (Says n.known) (named.0 == target.0) (Calls (record { known = n.known; act = acts.Purge target })) Nothing
      (λ same. refl) (λ other. tt)

  pub all_say : (choice : Choice) → Says n.known (prepare deck n choice)
  unfolding prepare
  all_say (choices.Task t) = by_test (Says n.known) (may_go deck n t) Quiet Nothing (λ may. tt) (λ idle. tt)
  all_say choices.Turn = by_turn n.star
  all_say choices.Switch = by_switch (next_order deck n)
  all_say (choices.Purge target) = by_purge target (next_order deck n)
  all_say choices.Rest =
      by_test (Says n.known) (is_pending deck n) Nothing (Calls (record { known = n.known; act = acts.Rest }))
      (λ busy. tt) (λ rests. refl)
  all_say (choices.Send t) = by_part (choices.Send t) n.star
  all_say choices.Take = by_part choices.Take n.star
  all_say choices.Settle = by_part choices.Settle n.star
  all_say (choices.Tell e) = by_part (choices.Tell e) n.star
  all_say (choices.Part e) = by_part (choices.Part e) n.star
  all_say (choices.Leave e) = by_part (choices.Leave e) n.star

  said-by : (x : Prepared) (call : Call) → Says n.known x → call_in x ≡ Some call → call.known ≡ n.known
  said-by Nothing call says made = absurd (cc)
  said-by Quiet call says made = absurd (cc)
  said-by (Calls c) call says made = ap (λ (z : Call). z.known) (sym (same_Some c call made)) ∙ says

  -- so does the call that an event of it makes
  called : (choice : Choice) (live : Bool) (call : Call) → cond live (call_in (prepare deck n choice)) None ≡ Some call
      → call.known ≡ n.known
  called choice true call made = said-by (prepare deck n choice) call (all_say choice) made
  called choice false call made = absurd (cc)

-- ---- so in every run
pub known_gone : (deck : Deck) → OrdersFit deck → (es : List Event) → KnownAreGone deck es
known_gone deck fit es s u n p at star below knows =
    let none = (clean_run deck fit es s n at).clean p star u below knows in
    record { elements = none.0; requests = (held_run deck es s n at).none p star u below knows; parts = none.1 }

pub acts_without : (deck : Deck) → OrdersFit deck → (es : List Event) (e : Event) → ActsWithoutGone deck es e
acts_without deck fit es e calls u n p at star below gone =
    known_gone deck fit es e.system.0 u n p at star below (ap (λ i. has i u) knows ∙ gone)
  where
    made : cond (is_live (run deck es) e.system) (call_in (prepare deck n e.choice)) None ≡ Some calls.call
    made = sym (ap (call_at deck (run deck es) e) at) ∙ calls.made

    knows : n.known ≡ (run deck es).medium.removed
    knows = sym (called deck n e.choice (is_live (run deck es) e.system) calls.call made) ∙ calls.knows
