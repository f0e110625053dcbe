use Rattle.std.proofs.Common.{◌≡◌, length}
use Rattle.grs_base.specs.NameLists.{AreLists}
use Rattle.grs_wire.specs.Decks.{Fits}
use Rattle.grs_deck.specs.Reading.{judge_all}
use Rattle.grs_deck.proofs.read.take_all.Given as goal

abbrev pub invariant-loop-draft : goal.invariant-loop-draft
invariant-loop-draft l = record {
  reads : judge_all l.draft l.rest ≡ judge_all l.initial.draft l.initial.rest;
  fits : Fits l.draft.deck.systems;
  lists : AreLists l.draft.deck.lists;
}

abbrev pub decreases-loop-draft : goal.decreases-loop-draft
decreases-loop-draft l = length l.rest
