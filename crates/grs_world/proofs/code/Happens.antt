-- What an event comes to, as the code takes it.
use Rattle.grs_world.proofs.Common.{◌+◌, ◌<◌, ◌∙◌, ◌≡◌, and_parts, ap, arith, Bool, chosen, cond, counted, Deck, drop}
use Rattle.grs_world.proofs.Common.{Event, false, first_node, happens, happens_at, has, is_live, length, List, ltb-true}
use Rattle.grs_world.proofs.Common.{nat_lt, nat_tests, node_at, NodeState, placed, refl, run_from, slice_get}
use Rattle.grs_world.proofs.Common.{slice_get-get_or, sym, true, World, ℕ}
use Rattle.std.proofs.Common.{get_or}
use Rattle.std.specs.Prelude.{◌&&◌, not}
use Rattle.std.proofs.lemmas.Option.{slice_get_past}
use Rattle.std.proofs.lemmas.List.{at_drop_more}

-- an event of a system that is there and wasn't removed
pub happens-live : (deck : Deck) (w : World) (e : Event) → is_live w e.system ≡ true
    → happens deck w e
    ≡ placed w e.system (node_at deck w.nodes e.system)
    (chosen deck w.medium e.system (node_at deck w.nodes e.system) e.choice)
unfolding happens happens_at
happens-live deck w e h =
    let both = and_parts (nat_lt e.system.0 (length w.nodes)) (not (has w.medium.removed e.system.0)) h in
    ap (λ o. happens_at deck w e o)
    (slice_get-get_or w.nodes e.system.0 (first_node deck e.system.0) (ltb-true _ _ both.0))
    ∙ by_removed (has w.medium.removed e.system.0) both.1
  where
    by_removed : (b : Bool) → not b ≡ true
        → cond b (counted w) (placed w e.system (node_at deck w.nodes e.system)
        (chosen deck w.medium e.system (node_at deck w.nodes e.system) e.choice))
        ≡ placed w e.system (node_at deck w.nodes e.system)
        (chosen deck w.medium e.system (node_at deck w.nodes e.system) e.choice)
    by_removed true k = cc
    by_removed false k = refl

-- any other event
pub happens-idle : (deck : Deck) (w : World) (e : Event) → is_live w e.system ≡ false → happens deck w e ≡ counted w
unfolding happens happens_at
happens-idle deck w e h = by_place (nat_lt e.system.0 (length w.nodes)) refl
  where
    by_removed : (n : NodeState) (b : Bool) → true && not b ≡ false
        → cond b (counted w) (placed w e.system n (chosen deck w.medium e.system n e.choice)) ≡ counted w
    by_removed n true k = refl
    by_removed n false k = cc

    by_place : (b : Bool) → nat_lt e.system.0 (length w.nodes) ≡ b
        → happens_at deck w e (slice_get w.nodes e.system.0) ≡ counted w
    by_place false past =
        ap (λ o. happens_at deck w e o) (slice_get_past w.nodes e.system.0 (grind (arith, nat_tests, past)))
    by_place true there =
        ap (λ o. happens_at deck w e o)
        (slice_get-get_or w.nodes e.system.0 (first_node deck e.system.0) (ltb-true _ _ there))
        ∙ by_removed (node_at deck w.nodes e.system) (has w.medium.removed e.system.0)
        (ap (λ b. b && not (has w.medium.removed e.system.0)) (sym there) ∙ h)

pub ruleset happening = (happens-live, happens-idle)

-- a run over one more event
pub run_from-more : (deck : Deck) (w : World) (es : List Event) (i : ℕ) (e : Event) → i < length es → e ≡ get_or es i e
    → run_from deck w (drop i es) ≡ run_from deck (happens deck w e) (drop (i + 1) es)
run_from-more deck w es i e h at =
    at_drop_more (λ (xs : List Event). run_from deck w xs) es i e h
    ∙ ap (λ x. run_from deck (happens deck w x) (drop (i + 1) es)) (sym at)

pub ruleset runs = (run_from-more)
