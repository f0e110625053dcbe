use Rattle.std.proofs.Common.{◌≡◌, ◌<◌, ◌≤◌, ℕ, ◌+◌, ◌-◌, true, false, length, ap, sym, ◌∙◌, arith}
use Rattle.grs_gen.specs.Rounds.{round_of}
use Rattle.grs_wire.specs.declared.deck.Deck.{Deck}
use Rattle.grs_world.specs.Running.{Running, at_rest}
use Rattle.grs_world.specs.World.{run_from}
use Rattle.grs_top.specs.Generated.{most_rounds, Rounds, rounds_from, next_round}
use Rattle.grs_top.specs.LeftOut.{lasting, lasting_of}
use Rattle.grs_top.proofs.Rounds.{begins, rests, goes, ends, makes, alike}
use Rattle.grs_top.proofs.generate.make_rounds.Goals as goal

pub loop-rounds-init : goal.loop-rounds-init
loop-rounds-init c = record {
  deck = ap (λ (w : Running). w.deck) c.requires.world;
  left =
      ap (λ (w : Running).
      lasting_of (rounds_from c.args.deck.now most_rounds (record { world = w.world; made = 0; events = 0 })))
      c.requires.world
      ∙ ap lasting_of (begins c.args.deck.now);
}

pub returns-then-at_rest-clause-made : goal.returns-then-at_rest-clause-made
returns-then-at_rest-clause-made c =
    let w = c.loop-rounds.world.world in
    let rest : at_rest c.args.deck.now w ≡ true =
    ap (λ (d : Deck). at_rest d w) (sym c.loop-rounds.invariant.deck) ∙ sym c.at_rest.ensures ∙ c.if-at_rest.true in
    ap lasting_of
    (sym (rests c.args.deck.now (most_rounds - c.loop-rounds.rounds)
    (record { world = w; made = c.loop-rounds.rounds; events = c.loop-rounds.events }) rest))
    ∙ c.loop-rounds.invariant.left

pub loop-rounds-preserved : goal.loop-rounds-preserved
loop-rounds-preserved c =
    let w = c.loop-rounds.world.world in
    let v = c.make_round.new.world.world in
    let d = c.args.deck.now in
    let busy : at_rest c.args.deck.now w ≡ false =
    ap (λ (d : Deck). at_rest d w) (sym c.loop-rounds.invariant.deck) ∙ sym c.at_rest.ensures ∙ c.if-at_rest.false in
    let few : c.loop-rounds.rounds < most_rounds =
    omega (arith, c.loop-rounds-test.true, c.loop-rounds.auto.rounds-end) in
    let led : lasting v ≡ lasting (run_from d w (round_of d (c.loop-rounds.rounds + 1))) =
    c.in_ok-made.ensures.world
    ∙ ap (λ (x : Deck). lasting (run_from x w (round_of x (c.loop-rounds.rounds + 1)))) c.loop-rounds.invariant.deck in
    let long : c.in_ok-made.made ≡ length (round_of d (c.loop-rounds.rounds + 1)) =
    c.in_ok-made.ensures.events
    ∙ ap (λ (x : Deck). length (round_of x (c.loop-rounds.rounds + 1))) c.loop-rounds.invariant.deck in
    record {
      deck = c.in_ok-made.ensures.deck ∙ c.loop-rounds.invariant.deck;
      left =
          alike d (most_rounds - (c.loop-rounds.rounds + 1))
          (record { world = v; made = c.loop-rounds.rounds + 1; events = c.in_ok-events.events })
          (next_round d (record { world = w; made = c.loop-rounds.rounds; events = c.loop-rounds.events }))
          (makes d w v c.loop-rounds.rounds c.loop-rounds.events c.in_ok-events.events c.in_ok-made.made led long
          c.in_ok-events.ensures)
          ∙ ap lasting_of
          (sym (goes c.args.deck.now c.loop-rounds.rounds
          (record { world = w; made = c.loop-rounds.rounds; events = c.loop-rounds.events }) few busy))
          ∙ c.loop-rounds.invariant.left;
    }

pub returns-clause-made : goal.returns-clause-made
returns-clause-made c =
    let w = c.loop-rounds.world.world in
    let all : c.loop-rounds.rounds ≡ most_rounds =
    omega (arith, c.loop-rounds-test.false, c.loop-rounds.auto.rounds-end) in
    let last : most_rounds ≤ c.loop-rounds.rounds = omega (arith, all) in
    ap (λ (n : ℕ). lasting_of (record { world = w; made = n; events = c.loop-rounds.events })) (sym all)
    ∙ ap lasting_of
    (sym (ends c.args.deck.now c.loop-rounds.rounds
    (record { world = w; made = c.loop-rounds.rounds; events = c.loop-rounds.events }) last))
    ∙ c.loop-rounds.invariant.left
