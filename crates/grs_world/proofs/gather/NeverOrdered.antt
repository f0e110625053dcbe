-- A run of a deck on whose desks no removal is ordered removes no system in star mode: no event of it is answered that
-- a system was removed.
use Rattle.grs_world.proofs.Common.{[], ◌&&◌, ◌++◌, ◌∙◌, ◌∷◌, ◌≡◌, and_parts, ap, Bool, call_at, call_in, Choice, cond}
use Rattle.grs_world.proofs.Common.{Deck, Event, false, false_by, first_world, happens, has, is_live, is_purged, List}
use Rattle.grs_world.proofs.Common.{MediumState, nat_lt, no_truth, NodeState, None, NoneInStar, not-true, Option}
use Rattle.grs_world.proofs.Common.{prepare, refl, Reply, reply_by, reply_of, slice_get, Some, StarPart, sym, SysId}
use Rattle.grs_world.proofs.Common.{true, Turnout, World}
use Rattle.grs_world.specs.InStar.{removals_from}
use Rattle.std.specs.Prelude.{◌≢◌, not, length}
use Rattle.grs_world.proofs.move.Decks.{order-removes}
use Rattle.grs_world.proofs.run.Came.{Acts, Came, Result, acted, already, began, by_itself, changed, decided, informed}
use Rattle.grs_world.proofs.run.Came.{is_silent, last_turn, left, no_such, nothing, parted, removes_one, removes_star}
use Rattle.grs_world.proofs.run.Came.{replied, result_of, sent, settled, skipped, told, took, turn, went_on}
use Rattle.grs_world.proofs.run.Chosen.{came, reply-in, reply_in}
use Rattle.grs_world.specs.Decks.{may_remove}
use Rattle.grs_wire.specs.declared.medium.Reply.TheVariants as replies

-- what an event was that is answered so
purged-reply : (r : Reply) → is_purged (Some r) ≡ true → r ≡ replies.Purged
purged-reply replies.Purged h = refl
purged-reply r h = absurd (cc)

purged-result : (b : Result) → is_purged (reply_in b) ≡ true → b ≡ replied replies.Purged
purged-result skipped h = absurd (cc)
purged-result by_itself h = absurd (cc)
purged-result (replied r) h = ap replied (purged-reply r h)

-- who acts by its part in star mode removes nobody
acts-apart : (deck : Deck) (m : MediumState) (s : SysId) (n : NodeState) (p : StarPart) (choice : Choice) (b : Result)
    (o : Turnout)
    → Acts deck m s n p choice b o → b ≢ replied replies.Purged
acts-apart deck m s n p choice b o (decided t a x asked to at same) is = absurd (cc)
acts-apart deck m s n p choice b o (began t a x asked none) is = absurd (cc)
acts-apart deck m s n p choice b o (sent t a x asked to at apart) is = absurd (cc)
acts-apart deck m s n p choice b o (took mail rest at) is = absurd (cc)
acts-apart deck m s n p choice b o (settled q first) is = absurd (cc)
acts-apart deck m s n p choice b o (told e x first) is = absurd (cc)
acts-apart deck m s n p choice b o (parted e to owes unknown) is = absurd (cc)
acts-apart deck m s n p choice b o (left x flags free by) is = absurd (cc)

module _ (deck : Deck) (never : may_remove deck ≡ false) where
  came-apart : (m : MediumState) (s : SysId) (n : NodeState) (choice : Choice) (b : Result) (o : Turnout)
      → Came deck m s n choice b o → b ≢ replied replies.Purged
  came-apart m s n choice b o (nothing k r silent flags) is =
      absurd (let loud : is_silent (replied replies.Purged) ≡ true = ap is_silent (sym is) ∙ silent in cc)
  came-apart m s n choice b o (informed k) is = absurd (cc)
  came-apart m s n choice b o (went_on t may) is = absurd (cc)
  came-apart m s n choice b o (turn flags alone unclosed here) is = absurd (cc)
  came-apart m s n choice b o (last_turn flags alone shut here) is = absurd (cc)
  came-apart m s n choice b o (changed ring next seen) is = absurd (cc)
  came-apart m s n choice b o (already mode next) is = absurd (cc)
  came-apart m s n choice b o (removes_one target ring next lives) is =
      no_truth (may_remove deck) (order-removes deck n target next) never
  came-apart m s n choice b o (removes_star target mode next lives) is =
      no_truth (may_remove deck) (order-removes deck n target next) never
  came-apart m s n choice b o (no_such target next gone) is = absurd (cc)
  came-apart m s n choice b o (acted p is_part k r x acts) is = acts-apart deck m s n p k r x acts is

  -- No event is answered that it removed a system.
  never-purged : (w : World) (e : Event) → is_purged (reply_of deck w e) ≡ false
  never-purged w e = by_node (slice_get w.nodes e.system.0)
    where
      s : SysId
      s = e.system

      by_live : (n : NodeState) (b : Bool) → is_live w e.system ≡ b
          → is_purged (reply_by w.medium e.system (cond b (call_in (prepare deck n e.choice)) None)) ≡ false
      by_live n false gone = refl
      by_live n true there =
          ap is_purged (sym (reply-in w.medium s (prepare deck n e.choice)))
          ∙ false_by (is_purged (reply_in (result_of w.medium s (prepare deck n e.choice)))) (λ h.
          absurd (came-apart w.medium s n e.choice _ _
          (came deck w.medium s n
          (not-true (has w.medium.removed s.0)
          (and_parts (nat_lt s.0 (length w.nodes)) (not (has w.medium.removed s.0)) there).1)
          e.choice)
          (purged-result (result_of w.medium s (prepare deck n e.choice)) h)))

      by_node : (o : Option NodeState) → is_purged (reply_by w.medium e.system (call_at deck w e o)) ≡ false
      by_node None = refl
      by_node (Some n) = by_live n (is_live w e.system) refl

  never-from : (w : World) (es : List Event) → removals_from deck w es ≡ []
  never-from w [] = refl
  never-from w (e ∷ es) =
      ap (λ b. cond b (w.medium ∷ []) [] ++ removals_from deck (happens deck w e) es) (apart w.medium.star)
      ∙ never-from (happens deck w e) es
    where
      apart : (b : Bool) → (b && is_purged (reply_of deck w e)) ≡ false
      apart true = never-purged w e
      apart false = refl

pub none_by_desks : (deck : Deck) → may_remove deck ≡ false → (es : List Event) → NoneInStar deck es
none_by_desks deck never es = never-from deck never (first_world deck) es
