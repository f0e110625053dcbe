use Rattle.std.proofs.Common.{◌≡◌, subst}
use Rattle.std.specs.Prelude.{IfOk}
use Rattle.grs_top.specs.declared.generate.Figures.{Figures}
use Rattle.grs_top.proofs.Rounds.{same-figures}
use Rattle.grs_top.proofs.generate.figures_of.Goals as goal

pub returns : goal.returns
returns c =
    subst (λ (f : Figures). IfOk c.figures_after.result (λ figures. figures ≡ f))
    (same-figures c.args.deck.now
    (record {
      world = c.make_rounds.new.world.world;
      made = c.in_ok-made.made.rounds;
      events = c.in_ok-made.made.events;
    })
    c.in_ok-made.ensures.made)
    c.figures_after.ensures
