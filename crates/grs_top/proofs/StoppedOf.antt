-- The events of a run with a system that stops are the deck's.
use Rattle.std.proofs.Common.{◌≡◌, ◌<◌, ◌*◌, ℕ, zero, suc, Bool, true, false, cond, List, [], ◌∷◌, ◌++◌, length, Option}
use Rattle.std.proofs.Common.{Some, None, refl, subst, arith}
use Rattle.std.specs.Prelude.{◌==◌, All, not}
use Rattle.std.proofs.lemmas.List.Elements.{All-nil, All-cons, All-head, All-tail, All-append, All-filter}
use Rattle.grs_base.specs.declared.resource.SysId.{SysId}
use Rattle.grs_wire.specs.Decks.{IsDeck, IsEventOf}
use Rattle.grs_wire.specs.declared.deck.Deck.{Deck}
use Rattle.grs_wire.specs.declared.deck.Event.{Event}
use Rattle.grs_world.proofs.run.Each.{run-push}
use Rattle.grs_world.proofs.run.Laps.{goes_on}
use Rattle.grs_world.specs.Stopped.{cut, goes_lap, lap, lap_from, left_behind, live_count, next_of, stopped, turn_of}
use Rattle.grs_world.specs.World.{World, first_world, happens, run}
use Rattle.grs_top.proofs.OfDeck.{item_at}

-- without a system's events there are no others
cut_of : (P : Event → Type 0) (s : SysId) (n : ℕ) (es : List Event) → All P es → All P (cut s n es)
cut_of P s zero es all = All-filter (λ e. not (e.system.0 == s.0)) P es all
cut_of P s (suc n) [] all = All-nil P
cut_of P s (suc n) (e ∷ es) all =
    All-cons P e (cut s (cond (e.system.0 == s.0) n (suc n)) es) (All-head P e es all)
    (cut_of P s (cond (e.system.0 == s.0) n (suc n)) es (All-tail P e es all))

module _ (deck : Deck) (whole : IsDeck deck) where
  abbrev Of : Event → Type 0
  Of e = IsEventOf deck.systems deck.entries e

  -- the message stands at a system of the deck
  at_one : (es : List Event) (left : ℕ) (s : SysId) → next_of left (run deck es) ≡ Some s → s.0 < length deck.systems
  at_one es zero s at = absurd (cc)
  at_one es (suc left) s at =
      let goes = goes_on deck es in
      let around = goes.around in
      let some = whole.some in
      let inside = goes.round.inside s at (omega (arith, around, some)) in
      omega (arith, inside, around)

  turn_of_deck : (s : SysId) → s.0 < length deck.systems → Of (turn_of s)
  turn_of_deck s below =
      let found = item_at deck.systems s.0 below in
      record { found = found.0; system = found.1; below = below; choice = tt }

  lap_of : (done : List Event) (most left : ℕ) (at : Option SysId)
      → ((s : SysId) → at ≡ Some s → s.0 < length deck.systems) → All Of (lap_from deck most left (run deck done) at)
  lap_of done zero left at inside = All-nil Of
  lap_of done (suc most) left None inside = All-nil Of
  lap_of done (suc most) left (Some s) inside =
      All-cons Of (turn_of s) (lap_from deck most after next (next_of after next)) (turn_of_deck s (inside s refl))
      (subst (λ (w : World). All Of (lap_from deck most after w (next_of after w)))
      (run-push deck done (first_world deck) (turn_of s))
      (lap_of (done ++ turn_of s ∷ []) most after (next_of after (run deck (done ++ turn_of s ∷ [])))
      (at_one (done ++ turn_of s ∷ []) after)))
    where
      after : ℕ
      after = left_behind deck (run deck done) s left

      next : World
      next = happens deck (run deck done) (turn_of s)

  pub stopped_of_deck : (s : SysId) (n : ℕ) (es : List Event) → All Of es → All Of (stopped deck s n es)
  stopped_of_deck s n es all =
      All-append Of (cut s n es) (cond (goes_lap s (run deck (cut s n es))) (lap deck (run deck (cut s n es))) [])
      (cut_of Of s n es all) (go (goes_lap s (run deck (cut s n es))))
    where
      go : (b : Bool) → All Of (cond b (lap deck (run deck (cut s n es))) [])
      go true =
          lap_of (cut s n es) (2 * live_count (run deck (cut s n es))) (live_count (run deck (cut s n es)))
          (next_of (live_count (run deck (cut s n es))) (run deck (cut s n es)))
          (at_one (cut s n es) (live_count (run deck (cut s n es))))
      go false = All-nil Of
