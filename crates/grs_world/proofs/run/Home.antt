-- What holds of all that stands in the message, whichever systems are removed.
use Rattle.grs_world.proofs.Common.{[], ◌++◌, ◌==◌, ◌∷◌, ◌≡◌, all-behind, and_parts, Bool, by_test, cleared, closed_by}
use Rattle.grs_world.proofs.Common.{cond, Deck, departed, dropped, eqb-true, Event, false, filter, first_world}
use Rattle.grs_world.proofs.Common.{FitsStar, happens, has, is_home_at, left_by, length, List, list_all, live, map}
use Rattle.grs_world.proofs.Common.{may_be_star, Message, most_additions, never_opened, NodeState, opened, own_requests}
use Rattle.grs_world.proofs.Common.{refl, Remove, Req, Request, RingBody, RingEntry, run, slice_get, Some, stamped}
use Rattle.grs_world.proofs.Common.{stands_at, subst, suc, sym, SysId, take, take-none, true, turned, turned_closed}
use Rattle.grs_world.proofs.Common.{Turnout, World, zero, ℕ}
use Rattle.std.specs.Prelude.{not}
use Rattle.grs_wire.specs.Masks.{only}
use Rattle.grs_world.proofs.run.Each.{each_run}
use Rattle.grs_world.proofs.run.InRing.{CameInRing, IsRing, begins_ring, changed, each_in_star, informed, is_ring}
use Rattle.grs_world.proofs.run.InRing.{live-there, no_such, nothing, removes_one, turn, went_on, medium_in_ring}
use Rattle.grs_world.proofs.run.Laps.{goes_on, turned_shut}
use Rattle.grs_world.proofs.move.Sound.{ring_good}
use Rattle.grs_world.proofs.run.Runs.{GoodWorld}

-- ---- what stands in the message
-- A request of the message is of a task of the system that put it in.
abbrev pub IsHome : SysId → RingBody → Type 0
IsHome s (Request q) = q.task.system.0 ≡ s.0
IsHome s (Remove t) = Unit {0}

abbrev pub AllHome : List RingEntry → Type 0
AllHome [] = Unit {0}
AllHome (e ∷ es) = IsHome e.from e.body × AllHome es

home_append : (xs ys : List RingEntry) → AllHome xs → AllHome ys → AllHome (xs ++ ys)
home_append [] ys a b = b
home_append (x ∷ xs) ys a b = (a.0, home_append xs ys a.1 b)

home_cleared : (c : SysId) (es : List RingEntry) → AllHome es → AllHome (cleared c es)
unfolding cleared
home_cleared c [] a = tt
home_cleared c (e ∷ es) a = go (not (e.mask == only c.0)) (home_cleared c es a.1)
  where
    go : (b : Bool) → AllHome (cleared c es)
        → AllHome (map (left_by c)
        (cond b (e ∷ filter (λ x. not (x.mask == only c.0)) es) (filter (λ x. not (x.mask == only c.0)) es)))
    go true ih = (a.0, ih)
    go false ih = ih

home_departed : (m : Message) (t : SysId) → AllHome m.entries → AllHome (departed m t).entries
unfolding departed
home_departed m t h = home_cleared t m.entries h

-- So is a request of the outbox.
home_put : (deck : Deck) (c : SysId) (number mask k : ℕ) (qs : List Req)
    → list_all (λ q. is_home_at deck c.0 q.task) qs ≡ true → AllHome (stamped number c mask (take k qs))
unfolding stamped
home_put deck c number mask zero qs h = subst (λ xs. AllHome (stamped number c mask xs)) (sym (take-none qs)) tt
home_put deck c number mask (suc k) [] h = tt
home_put deck c number mask (suc k) (q ∷ qs) h = (
  eqb-true q.task.system.0 c.0 (and_parts _ _ (and_parts _ _ h).0).0,
  home_put deck c (suc number) mask k qs (and_parts _ _ h).1,
)

module _ (deck : Deck) (fits : may_be_star deck ≡ true → FitsStar deck) where
  module _ (es : List Event) (e : Event) (h : AllHome (run deck es).medium.message.entries) where
    in_ring_next : IsRing deck (run deck es) → GoodWorld deck es (run deck es)
        → AllHome (happens deck (run deck es) e).medium.message.entries
    unfolding closed_by dropped
    in_ring_next ring g = medium_in_ring deck (run deck es) e (λ m. AllHome m.message.entries) ring h by_case
      where
        by_case : (n : NodeState) (o : Turnout) → slice_get (run deck es).nodes e.system.0 ≡ Some n
            → has (run deck es).medium.removed e.system.0 ≡ false → CameInRing deck (run deck es) e.system n o
            → AllHome o.medium.message.entries
        by_case n o at alive (nothing flags) = h
        by_case n o at alive (went_on t m) = h
        by_case n o at alive (turn flags here) =
            let old = (run deck es).medium.message in
            home_append (cleared e.system old.entries)
            (stamped old.next e.system (live (run deck es).medium) (take most_additions n.outbox))
            (home_cleared e.system old.entries h)
            (home_put deck e.system old.next (live (run deck es).medium) most_additions n.outbox
            (all-behind (λ q. is_home_at deck e.system.0 q.task) (own_requests e.system.0 (g.later e.system.0)) n.outbox
            (g.systems e.system.0 n at (live-there deck (run deck es) ring e.system.0 n at alive)).homes))
        by_case n o at alive (changed next idle) = h
        by_case n o at alive (informed known) = h
        by_case n o at alive (removes_one target next there) =
            home_append (cleared target (run deck es).medium.message.entries) _
            (home_cleared target (run deck es).medium.message.entries h) (tt, tt)
        by_case n o at alive (no_such target next gone) = h

    in_star_next : (run deck es).medium.star ≡ true → AllHome (happens deck (run deck es) e).medium.message.entries
    in_star_next mode = each_in_star deck (run deck es) e mode (λ m b. AllHome m.entries) h turns
        (λ target. home_departed (run deck es).medium.message target h)
      where
        turns : (out : List Req)
            → AllHome (turned (run deck es).medium.message e.system out (live (run deck es).medium)
            (run deck es).medium.rest).entries
        turns out =
            let old = (run deck es).medium.message in
            subst (λ (m : Message). AllHome m.entries)
            (sym (turned_shut old e.system out (live (run deck es).medium) (run deck es).medium.rest
            ((goes_on deck es).closed mode)))
            (by_test (λ (m : Message). AllHome m.entries) (stands_at old.holder e.system) (turned_closed old e.system)
            old (λ here. home_cleared e.system old.entries h) (λ away. h))

    home_next : AllHome (happens deck (run deck es) e).medium.message.entries
    home_next = by_mode (run deck es).medium.star refl
      where
        by_mode : (b : Bool) → (run deck es).medium.star ≡ b
            → AllHome (happens deck (run deck es) e).medium.message.entries
        by_mode true mode = in_star_next mode
        by_mode false mode =
            in_ring_next (is_ring deck (begins_ring deck es mode) es mode) (ring_good deck fits es mode)

  first_home : AllHome (first_world deck).medium.message.entries
  unfolding first_world
  first_home =
      by_test (λ (m : Message). AllHome m.entries) deck.star (never_opened (length deck.systems))
      (opened (length deck.systems)) (λ b. tt) (λ b. tt)

  pub all_home : (es : List Event) → AllHome (run deck es).medium.message.entries
  all_home =
      each_run deck (λ es (w : World). AllHome w.medium.message.entries) first_home (λ es e h. home_next es e h)
