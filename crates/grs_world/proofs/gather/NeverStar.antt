-- A run of a deck that neither begins in star mode nor has a desk that orders it is in ring mode throughout, so it
-- removes no system in star mode.
use Rattle.grs_world.proofs.Common.{[], ◌&&◌, ◌++◌, ◌∙◌, ◌∷◌, ◌≡◌, ap, Bool, Choice, cond, Deck, Event, false}
use Rattle.grs_world.proofs.Common.{first_world, FitsStar, happens, is_purged, List, list_any, may_be_star, MediumState}
use Rattle.grs_world.proofs.Common.{no_truth, NodeState, NoneInStar, or_parts, OrdersFit, refl, reply_of, run, subst}
use Rattle.grs_world.proofs.Common.{SysId, true, Turnout, World}
use Rattle.grs_world.specs.Decks.{orders_star}
use Rattle.grs_world.specs.InStar.{removals_from}
use Rattle.grs_world.specs.Removing.{NoneFollows}
use Rattle.grs_world.proofs.gather.Follows.{live_follow}
use Rattle.grs_world.proofs.move.Decks.{order-may}
use Rattle.grs_world.proofs.move.Sound.{every_sound}
use Rattle.grs_world.proofs.run.Behind.{legal_behind}
use Rattle.grs_world.proofs.run.Came.{Came, Result, acted, acts-keep, already, changed, informed, last_turn, no_such}
use Rattle.grs_world.proofs.run.Came.{nothing, removes_one, removes_star, turn, went_on}
use Rattle.grs_world.proofs.run.Chosen.{each_came}
use Rattle.grs_world.proofs.run.Each.{each_run, run-push}
use Rattle.grs_world.proofs.run.Placed.{of_medium}

module _ (deck : Deck) (never : may_be_star deck ≡ false) where
  mode-first : (first_world deck).medium.star ≡ false
  unfolding first_world
  mode-first = (or_parts deck.star (list_any (λ s. orders_star s.desk) deck.systems) never).0

  mode-came : (m : MediumState) (s : SysId) (n : NodeState) (choice : Choice) (b : Result) (o : Turnout)
      → Came deck m s n choice b o → m.star ≡ false → o.medium.star ≡ false
  mode-came m s n choice b o (nothing k r silent flags) ring = ring
  mode-came m s n choice b o (informed k) ring = ring
  mode-came m s n choice b o (went_on t may) ring = ring
  mode-came m s n choice b o (turn flags alone unclosed here) ring = ring
  mode-came m s n choice b o (last_turn flags alone shut here) ring = ring
  mode-came m s n choice b o (changed was next seen) ring = no_truth (may_be_star deck) (order-may deck n next) never
  mode-came m s n choice b o (already mode next) ring = ring
  mode-came m s n choice b o (removes_one target was next lives) ring = ring
  mode-came m s n choice b o (removes_star target mode next lives) ring = ring
  mode-came m s n choice b o (no_such target next gone) ring = ring
  mode-came m s n choice b o (acted p is k r x acts) ring = (acts-keep deck m s n p k r x acts).star ∙ ring

  in_ring_mode : (es : List Event) → (run deck es).medium.star ≡ false
  in_ring_mode =
      each_run deck (λ es (w : World). w.medium.star ≡ false) mode-first
      (λ es e ring.
      each_came deck (run deck es) e (λ (w : World). w.medium.star ≡ false) ring
      (λ n b o at alive came.
      of_medium (run deck es) e.system n o (λ m. m.star ≡ false)
      (mode-came (run deck es).medium e.system n e.choice b o came ring)))

  none-from : (es us : List Event) → removals_from deck (run deck us) es ≡ []
  none-from [] us = refl
  none-from (e ∷ es) us =
      ap (λ b.
      cond (b && is_purged (reply_of deck (run deck us) e)) ((run deck us).medium ∷ []) []
      ++ removals_from deck (happens deck (run deck us) e) es)
      (in_ring_mode us)
      ∙ subst (λ (w : World). removals_from deck w es ≡ []) (run-push deck us (first_world deck) e)
      (none-from es (us ++ e ∷ []))

-- So it removes none there.
pub none_by_ring : (deck : Deck) → may_be_star deck ≡ false → (es : List Event) → NoneInStar deck es
none_by_ring deck never es = none-from deck never es []

-- No entry of a removed system's task stands behind the removal, in whatever mode.
pub none_follows : (deck : Deck) → (may_be_star deck ≡ true → FitsStar deck) → OrdersFit deck → (es : List Event)
    → NoneFollows deck es
none_follows deck fits fit es = go (may_be_star deck) refl
  where
    go : (b : Bool) → may_be_star deck ≡ b → NoneFollows deck es
    go true may = live_follow deck (fits may).few fit es
    go false never = legal_behind deck es (every_sound deck fits fit es (none_by_ring deck never es)).legal
