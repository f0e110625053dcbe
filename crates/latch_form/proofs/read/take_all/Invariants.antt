use Rattle.std.proofs.Common.{◌≡◌, ◌≤◌, length}
use Rattle.grs_latch.specs.Limits.{most_sets}
use Rattle.latch_form.specs.Drafts.{no_draft}
use Rattle.latch_form.specs.Reading.{judge_all}
use Rattle.latch_form.proofs.read.take_all.Given as goal

abbrev pub invariant-loop-draft : goal.invariant-loop-draft
invariant-loop-draft l = record {
  reads : judge_all l.draft l.rest ≡ judge_all no_draft l.initial.rest;
  few : l.draft.made ≤ most_sets;
}

abbrev pub decreases-loop-draft : goal.decreases-loop-draft
decreases-loop-draft l = length l.rest
