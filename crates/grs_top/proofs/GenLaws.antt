-- The laws of the run of a number: its line is written whole, and its rounds are a run.
use Rattle.std.proofs.Common.{◌≡◌, ◌⊎◌, ◌≢◌, ◌<◌, ℕ, zero, suc, ◌+◌, Bool, true, false, cond, List, [], ◌∷◌, ◌++◌}
use Rattle.std.proofs.Common.{length, map, ◌||◌, Option, refl, ap, sym, ◌∙◌, subst, arith, inl, inr, add-one}
use Rattle.std.specs.Prelude.{◌==◌}
use Rattle.std.specs.List.{list_any, range_with_len}
use Rattle.std.proofs.lemmas.List.{length-append}
use Rattle.grs_gen.specs.Generated.{IsSize, deck_of, system_count, system_of}
use Rattle.grs_gen.specs.Rounds.{round_of}
use Rattle.grs_io.specs.Faults.{last_count, HasRisen}
use Rattle.grs_wire.specs.Decks.{AreOrders, IsDeck}
use Rattle.grs_wire.specs.declared.deck.Deck.{Deck}
use Rattle.grs_wire.specs.declared.deck.Event.{Event}
use Rattle.grs_wire.specs.declared.deck.Order.TheVariants.{Star}
use Rattle.grs_wire.specs.declared.deck.SystemDef.{SystemDef}
use Rattle.grs_world.specs.InStar.{NoneInStar, NoneTakesEntries}
use Rattle.grs_world.specs.Agree.{Sound}
use Rattle.grs_world.specs.Decks.{may_be_star, may_remove, orders_removal, FitsStar}
use Rattle.grs_world.specs.Running.{at_rest}
use Rattle.grs_world.specs.World.{World, first_world, happens, run_from, run}
use Rattle.grs_top.specs.declared.status.Status.{Status}
use Rattle.grs_top.specs.declared.status.Status.TheVariants as statuses
use Rattle.grs_top.specs.Generated.{most_rounds, Rounds, no_rounds, next_round, rounds_from, rounds_of, AnswersGen}
use Rattle.grs_top.specs.Generated.{LineUnlessMemory, events_of, AreRounds, GeneratedRuns}

-- ---- the line

not_risen : (old new : ℕ) → new ≡ old → old < last_count → HasRisen old new → ⊥
not_risen old new same below (inl more) = omega (arith, same, more)
not_risen old new same below (inr last) = omega (arith, below, last.0)

pub line_whole : LineUnlessMemory
line_whole n old new f g statuses.Done done same below = inl (done.written, done.ends)
line_whole n old new f g statuses.Waits done same below = inl (done.written, done.ends)
line_whole n old new f g statuses.Deck done same below = absurd done
line_whole n old new f g statuses.Words done same below = absurd done
line_whole n old new f g statuses.ReadFault done same below = absurd done
line_whole n old new f g statuses.WriteFault done same below = absurd (not_risen f g same below done.failed)
line_whole n old new f g statuses.NoMemory done same below = inr refl
line_whole n old new f g statuses.Bad done same below = absurd done

-- ---- the rounds

run-behind : (deck : Deck) (w : World) (xs ys : List Event)
    → run_from deck w (xs ++ ys) ≡ run_from deck (run_from deck w xs) ys
run-behind deck w [] ys = refl
run-behind deck w (x ∷ xs) ys = run-behind deck (happens deck w x) xs ys

-- rounds that were made with these events
record Made (deck : Deck) (r : Rounds) (es : List Event) : Type 0 where
  rounds : es ≡ events_of deck r.made
  world : r.world ≡ run deck es
  events : r.events ≡ length es

next : (deck : Deck) (r : Rounds) (es : List Event) → Made deck r es
    → Made deck (next_round deck r) (es ++ round_of deck (r.made + 1))
unfolding next_round
next deck r es made = record {
  rounds =
      ap (λ (xs : List Event). xs ++ round_of deck (r.made + 1)) made.rounds
      ∙ sym (ap (events_of deck) (add-one r.made));
  world =
      ap (λ (w : World). run_from deck w (round_of deck (r.made + 1))) made.world
      ∙ sym (run-behind deck (first_world deck) es (round_of deck (r.made + 1)));
  events =
      let joined = length-append es (round_of deck (r.made + 1)) in
      let before = made.events in
      omega (arith, joined, before);
}

-- where rounds end: at rest, or behind the last that may be made
Ends : Deck → ℕ → Rounds → Type 0
Ends deck last r = (at_rest deck r.world ≡ true) ⊎ (r.made ≡ last)

all-made : (deck : Deck) (left last : ℕ) (r : Rounds) (es : List Event) → r.made + left ≡ last → Made deck r es
    → (fs : List Event) × Made deck (rounds_from deck left r) fs × Ends deck last (rounds_from deck left r)
unfolding rounds_from Ends next_round
all-made deck zero last r es count made = (es, made, inr (omega (arith, count)))
all-made deck (suc left) last r es count made =
    by_rest (at_rest deck r.world) refl (all-made deck left last (next_round deck r) (es ++ round_of deck (r.made + 1))
    (counted count) (next deck r es made))
  where
    counted : r.made + suc left ≡ last → (next_round deck r).made + left ≡ last
    counted h = omega (arith, h)

    by_rest : (b : Bool) → at_rest deck r.world ≡ b
        → (fs : List Event) × Made deck (rounds_from deck left (next_round deck r)) fs
        × Ends deck last (rounds_from deck left (next_round deck r))
        → (fs : List Event) × Made deck (cond b r (rounds_from deck left (next_round deck r))) fs
        × Ends deck last (cond b r (rounds_from deck left (next_round deck r)))
    by_rest true rest more = (es, made, inl rest)
    by_rest false busy more = more

-- no desk of the deck of a number orders a removal
desk-quiet : (b : Bool) → orders_removal (cond b (record { at = 0; order = Star } ∷ []) []) ≡ false
desk-quiet true = refl
desk-quiet false = refl

desks-quiet : (n : ℕ) (is : List ℕ) → list_any (λ (s : SystemDef). orders_removal s.desk) (map (system_of n) is) ≡ false
desks-quiet n [] = refl
desks-quiet n (i ∷ is) =
    ap (λ b. b || list_any (λ (s : SystemDef). orders_removal s.desk) (map (system_of n) is)) (desk-quiet (i == 0))
    ∙ desks-quiet n is

removes-nobody : (n : ℕ) → may_remove (deck_of n) ≡ false
unfolding deck_of
removes-nobody n = desks-quiet n (range_with_len 0 (system_count n))

pub generated : ((n : ℕ) → IsSize n → IsDeck (deck_of n))
    → ((deck : Deck) → (may_be_star deck ≡ true → FitsStar deck) → AreOrders (length deck.systems) 0 deck.systems
    → (es : List Event) → NoneTakesEntries deck es → Sound deck es)
    → ((deck : Deck) → may_remove deck ≡ false → (es : List Event) → NoneInStar deck es)
    → ((deck : Deck) → (es : List Event) → NoneInStar deck es → NoneTakesEntries deck es) → GeneratedRuns
unfolding rounds_of Ends
generated is_deck sound spared takes n size = go (deck_of n) (is_deck n size) (removes-nobody n)
  where
    go : (deck : Deck) → IsDeck deck → may_remove deck ≡ false → (es : List Event) × AreRounds deck es
    go deck whole quiet =
        let all =
        all-made deck most_rounds most_rounds (no_rounds deck) [] (omega arith)
        (record { rounds = refl; world = refl; events = refl }) in (
          all.0,
          record {
            rounds = all.1.rounds;
            events = all.1.events;
            world = all.1.world;
            sound =
                sound deck (λ star. record { few = whole.fits.few; entries = whole.entries }) whole.orders all.0
                (takes deck all.0 (spared deck quiet all.0));
            ends = all.2;
          },
        )
