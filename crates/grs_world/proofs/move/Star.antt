-- An event of a system that has changed is the same event of what is shown.
use Rattle.grs_world.proofs.Common.{[], ◌<◌, ◌≡◌, Choice, chosen, Deck, false, has, items, most_systems, NodeState}
use Rattle.grs_world.proofs.Common.{placed, slice_get, Some, SysId, World}
use Rattle.grs_world.proofs.run.Came.{ChoiceRemovesNone}
use Rattle.grs_world.proofs.run.Removals.{GoneAreRemoved}
use Rattle.grs_world.proofs.run.Knowing.{KnowsRemoved}
use Rattle.grs_world.proofs.star.Usual.{usual}
use Rattle.grs_world.proofs.move.Changing.{IsChanging, IsMoved, fresh, has_changed, moved}
use Rattle.grs_world.proofs.star.Sound.{outcome}
use Rattle.grs_world.proofs.star.steps.Outcome.{IsOutcome}
use Rattle.grs_world.proofs.star.Members.{IsStep}
use Rattle.grs_world.proofs.star.Events.{good_choice}
use Rattle.grs_world.proofs.run.Site.{at_site}

module _ (deck : Deck) (some : 0 < deck.entries) (w : World) (g : IsChanging deck w) (c : SysId)
    (inside : c.0 < most_systems) (n : NodeState) (at : slice_get w.nodes c.0 ≡ Some n)
    (unremoved : has w.medium.removed c.0 ≡ false) (there : slice_get g.view c.0 ≡ Some n) (none : g.due c.0 ≡ []) where
  abbrev shown : World
  shown = record w { nodes = g.view }

  pub star-moved : GoneAreRemoved deck w → KnowsRemoved w.medium n → (choice : Choice)
      → ChoiceRemovesNone deck w.medium c n choice
      → IsMoved deck w c n (chosen deck w.medium c n choice)
  unfolding placed
  star-moved removed known choice kept = record {
    changing =
        goes (outcome deck some shown g.whole c inside n (at_site there unremoved) removed known choice kept step);
    news = (outcome deck some shown g.whole c inside n (at_site there unremoved) removed known choice kept step).news;
  }
    where
      step : IsStep deck shown c n (chosen deck w.medium c n choice)
      step =
          good_choice deck some (record w { nodes = g.view }) c inside n (at_site there unremoved) g.whole.roles
          (g.whole.roles.node c.0 n (at_site there unremoved))
          (usual deck (record w { nodes = g.view }) g.whole c n (at_site there unremoved) known) choice kept

      goes : IsOutcome deck shown g.whole c n (chosen deck w.medium c n choice)
          → IsChanging deck (placed w c n (chosen deck w.medium c n choice))
      goes h =
          let f = fresh deck c.0 g.whole.out (items w.fixed) _ h.stays.fixes in
          moved deck w g c n at unremoved (chosen deck w.medium c n choice) (chosen deck w.medium c n choice).step.node
          h.stays.whole h.stays.sent f step.message step.removed (has_changed none)
