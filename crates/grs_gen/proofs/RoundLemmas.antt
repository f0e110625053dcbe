-- Rounds differ by the change to star mode alone.
use Rattle.std.proofs.Common.{◌≡◌, ◌≤◌, ◌<◌, ℕ, true, false, cond, List, ◌∷◌, ◌++◌, drop, refl, ap, sym, ◌∙◌, arith}
use Rattle.std.specs.Prelude.{nat_le}
use Rattle.std.proofs.lemmas.Bool.Decides.{nat_tests}
use Rattle.grs_wire.specs.declared.deck.Deck.{Deck}
use Rattle.grs_wire.specs.declared.deck.Event.{Event}
use Rattle.grs_gen.specs.Rounds.{switch_in, switch_round, systems_round, round_of}

pub late-round : (deck : Deck) (round : ℕ) (last : List Event) → 3 ≤ round → last ≡ round_of deck switch_round
    → last ≡ round_of deck round
unfolding round_of
late-round deck round last late is =
    let due : nat_le 3 round ≡ true = grind (arith, nat_tests, late) in
    is ∙ rw due refl

pub early-round : (deck : Deck) (round : ℕ) (last : List Event) → round < 3 → last ≡ round_of deck switch_round
    → drop 1 last ≡ round_of deck round
unfolding round_of
early-round deck round last early is =
    let due : nat_le 3 round ≡ false = grind (arith, nat_tests, early) in
    ap (λ (es : List Event). drop 1 es) is ∙ rw due refl

pub ruleset earlier_rounds = (late-round, early-round)
