-- What came of an event of a system that hasn't changed, though the medium has.
use Rattle.grs_world.proofs.Common.{◌≡◌, ap, change_to_star, Choice, chosen, Deck, desk_told, false, has, known_from}
use Rattle.grs_world.proofs.Common.{lines_of, losing, losing_in, may_go, members, next_order, no_truth, NodeState, None}
use Rattle.grs_world.proofs.Common.{only, read_entries, refl, Some, stale, stands_at, subst, sym, SysId, task_step}
use Rattle.grs_world.proofs.Common.{TaskId, true, turned_closed, Turnout, unseen, without_those, World, ℕ}
use Rattle.grs_node.specs.Node.{changed as changed_now}
use Rattle.grs_world.proofs.run.Came.{Came, acted, already, changed, informed, last_turn, no_such, nothing, removes_one}
use Rattle.grs_world.proofs.run.Came.{removes_star, turn, went_on, no_part, ChoiceRemovesNone, RemovesNoneInStar}
use Rattle.grs_world.proofs.run.Came.{Result}
use Rattle.grs_medium.specs.Apply.{is_live}
use Rattle.grs_world.proofs.run.Chosen.{came}
use Rattle.grs_wire.specs.declared.deck.Order.TheVariants as orders
use Rattle.grs_wire.specs.declared.told.Said.TheVariants as saids

-- Nothing but a flag of rest, a task that went on, its Turn at the closed message, its desk that was told of the
-- change or that there was no such system, or the removed systems of which it is told.
pub data CameLate (deck : Deck) (w : World) (s : SysId) (n : NodeState) : Turnout → Type 0 where
  nothing_late : (flags : ℕ) → CameLate deck w s n (record { medium = record w.medium { rest = flags }; step = only n })
  task_late : (t : TaskId) → may_go deck n t ≡ true
      → CameLate deck w s n (record { medium = w.medium; step = task_step deck.limit n t (lines_of deck t) })
  turn_late : (flags : ℕ) → stands_at w.medium.message.holder s ≡ true →
      CameLate deck w s n (record {
        medium = record w.medium { message = turned_closed w.medium.message s; rest = flags };
        step = only (change_to_star deck (read_entries deck n (unseen s w.medium.message.entries)));
      })
  desk_late : next_order deck n ≡ Some orders.Star
      → CameLate deck w s n (record { medium = w.medium; step = only (desk_told n saids.StarAlready) })
  vary_late : (target : SysId) → next_order deck n ≡ Some (orders.Vary target) → is_live w.medium target ≡ false
      → CameLate deck w s n (record { medium = w.medium; step = only (desk_told n saids.VaryNoSuch) })
  informed_late : (known : ℕ)
      → CameLate deck w s n (record { medium = w.medium; step = only (record n { known = known }) })

module _ (deck : Deck) (w : World) (mode : w.medium.star ≡ true) (shut : w.medium.message.closed ≡ true) (s : SysId)
    (n : NodeState) (alone : n.star ≡ None) (alive : has w.medium.removed s.0 ≡ false)
    (stays : changed_now deck (read_entries deck n (unseen s w.medium.message.entries))
    ≡ change_to_star deck (read_entries deck n (unseen s w.medium.message.entries))) where
  -- it has no part yet of which a system could be lost
  told-so : stale deck n w.medium.removed ≡ record n { known = known_from deck n.known w.medium.removed }
  unfolding stale losing
  told-so =
      ap (λ o.
      losing_in deck (record n { known = known_from deck n.known w.medium.removed }) o
      (members (without_those n.known (known_from deck n.known w.medium.removed))))
      alone

  late : (choice : Choice) (b : Result) (o : Turnout) → RemovesNoneInStar w.medium b → Came deck w.medium s n choice b o
      → CameLate deck w s n o
  late choice b o kept (nothing k r silent flags) = nothing_late flags
  late choice b o kept (informed k) =
      subst (λ z. CameLate deck w s n (record { medium = w.medium; step = only z })) (sym told-so)
      (informed_late (known_from deck n.known w.medium.removed))
  late choice b o kept (went_on t may) = task_late t may
  late choice b o kept (turn flags by unclosed here) = no_truth w.medium.message.closed shut unclosed
  late choice b o kept (last_turn flags by closed here) =
      subst (λ z.
      CameLate deck w s n (record {
        medium = record w.medium { message = turned_closed w.medium.message s; rest = flags };
        step = only z;
      }))
      (sym stays) (turn_late flags here)
  late choice b o kept (changed ring next seen) = no_truth w.medium.star mode ring
  late choice b o kept (already star next) = desk_late next
  late choice b o kept (removes_one target ring next lives) = no_truth w.medium.star mode ring
  late choice b o kept (removes_star target star next lives) = absurd (kept mode refl)
  late choice b o kept (no_such target next gone) = vary_late target next gone
  late choice b o kept (acted p is k r x acts) = no_part n p is alone

  pub came_late : (choice : Choice) → ChoiceRemovesNone deck w.medium s n choice
      → CameLate deck w s n (chosen deck w.medium s n choice)
  came_late choice kept = late choice _ _ kept (came deck w.medium s n alive choice)
