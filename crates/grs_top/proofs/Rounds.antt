-- Round after round, as the code makes them.
use Rattle.std.proofs.Common.{◌≡◌, ◌≤◌, ◌<◌, ℕ, zero, suc, ◌+◌, ◌-◌, Bool, true, false, cond, refl, ap, sym, ◌∙◌, subst}
use Rattle.std.proofs.Common.{arith, length}
use Rattle.grs_gen.specs.Rounds.{round_of}
use Rattle.grs_wire.specs.declared.deck.Deck.{Deck}
use Rattle.grs_world.specs.Running.{at_rest}
use Rattle.grs_world.specs.World.{World, run_from}
use Rattle.grs_top.specs.Generated.{most_rounds, Rounds, no_rounds, next_round, rounds_from, rounds_of, figures_after}
use Rattle.grs_top.specs.Generated.{figures_of}
use Rattle.grs_top.specs.LeftOut.{lasting, lasting_of}
use Rattle.grs_top.proofs.LeftOut.{same-run}

pub begins : (deck : Deck) → rounds_from deck most_rounds (no_rounds deck) ≡ rounds_of deck
unfolding rounds_of
begins deck = refl

pub rests : (deck : Deck) (left : ℕ) (r : Rounds) → at_rest deck r.world ≡ true → rounds_from deck left r ≡ r
unfolding rounds_from
rests deck zero r rest = refl
rests deck (suc left) r rest = rw rest refl

goes-on : (deck : Deck) (left : ℕ) (r : Rounds) → at_rest deck r.world ≡ false
    → rounds_from deck (suc left) r ≡ rounds_from deck left (next_round deck r)
unfolding rounds_from
goes-on deck left r busy = rw busy refl

pub goes : (deck : Deck) (made : ℕ) (r : Rounds) → made < most_rounds → at_rest deck r.world ≡ false
    → rounds_from deck (most_rounds - made) r ≡ rounds_from deck (most_rounds - (made + 1)) (next_round deck r)
goes deck made r few busy =
    let next : suc (most_rounds - (made + 1)) ≡ most_rounds - made = omega (arith, few) in
    subst (λ (left : ℕ). rounds_from deck left r ≡ rounds_from deck (most_rounds - (made + 1)) (next_round deck r)) next
    (goes-on deck (most_rounds - (made + 1)) r busy)

none-left : (deck : Deck) (r : Rounds) → rounds_from deck 0 r ≡ r
unfolding rounds_from
none-left deck r = refl

pub ends : (deck : Deck) (made : ℕ) (r : Rounds) → most_rounds ≤ made → rounds_from deck (most_rounds - made) r ≡ r
ends deck made r all =
    let none : 0 ≡ most_rounds - made = omega (arith, all) in
    subst (λ (left : ℕ). rounds_from deck left r ≡ r) none (none-left deck r)

-- ---- rounds by what lasts of their worlds

rests-alike : (deck : Deck) (r q : Rounds) → lasting_of r ≡ lasting_of q → at_rest deck r.world ≡ at_rest deck q.world
unfolding at_rest
rests-alike deck r q same = ap (λ (x : Rounds). at_rest deck x.world) same

next-alike : (deck : Deck) (r q : Rounds) → lasting_of r ≡ lasting_of q
    → lasting_of (next_round deck r) ≡ lasting_of (next_round deck q)
unfolding next_round
next-alike deck r q same =
    let made : r.made ≡ q.made = ap (λ (x : Rounds). x.made) same in
    let events : r.events ≡ q.events = ap (λ (x : Rounds). x.events) same in
    let world : lasting r.world ≡ lasting q.world = ap (λ (x : Rounds). x.world) same in
    let late : lasting (run_from deck r.world (round_of deck (r.made + 1)))
    ≡ lasting (run_from deck q.world (round_of deck (r.made + 1))) =
    same-run deck r.world q.world (round_of deck (r.made + 1)) world in
    ap (λ (w : World).
    record { world = w; made = r.made + 1; events = r.events + length (round_of deck (r.made + 1)) }) late
    ∙ ap (λ (k : ℕ).
    record {
      world = lasting (run_from deck q.world (round_of deck (k + 1)));
      made = k + 1;
      events = r.events + length (round_of deck (k + 1));
    }) made
    ∙ ap (λ (k : ℕ).
    record {
      world = lasting (run_from deck q.world (round_of deck (q.made + 1)));
      made = q.made + 1;
      events = k + length (round_of deck (q.made + 1));
    }) events

pub alike : (deck : Deck) (left : ℕ) (r q : Rounds) → lasting_of r ≡ lasting_of q
    → lasting_of (rounds_from deck left r) ≡ lasting_of (rounds_from deck left q)
unfolding rounds_from
alike deck zero r q same = same
alike deck (suc left) r q same =
    by (at_rest deck r.world) (alike deck left (next_round deck r) (next_round deck q) (next-alike deck r q same))
    ∙ ap (λ (b : Bool). lasting_of (cond b q (rounds_from deck left (next_round deck q)))) (rests-alike deck r q same)
  where
    by : (b : Bool)
        → lasting_of (rounds_from deck left (next_round deck r))
        ≡ lasting_of (rounds_from deck left (next_round deck q))
        → lasting_of (cond b r (rounds_from deck left (next_round deck r)))
        ≡ lasting_of (cond b q (rounds_from deck left (next_round deck q)))
    by true rest = same
    by false rest = rest

-- what a round more comes to, as the code makes and counts it
pub makes : (deck : Deck) (w v : World) (made events more count : ℕ)
    → lasting v ≡ lasting (run_from deck w (round_of deck (made + 1)))
    → count ≡ length (round_of deck (made + 1)) → more ≡ events + count
    → lasting_of (record { world = v; made = made + 1; events = more })
    ≡ lasting_of (next_round deck (record { world = w; made = made; events = events }))
unfolding next_round
makes deck w v made events more count world long sum =
    ap (λ (x : World). record { world = x; made = made + 1; events = more }) world
    ∙ ap (λ (k : ℕ).
    record { world = lasting (run_from deck w (round_of deck (made + 1))); made = made + 1; events = k })
    (sum ∙ ap (λ (k : ℕ). events + k) long)

-- figures go by what lasts
pub same-figures : (deck : Deck) (r : Rounds) → lasting_of r ≡ lasting_of (rounds_of deck)
    → figures_after deck r ≡ figures_of deck
unfolding figures_of
same-figures deck r same = ap (λ (x : Rounds). figures_after deck x) same
