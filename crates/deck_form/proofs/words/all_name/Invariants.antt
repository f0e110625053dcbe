use Rattle.std.proofs.Common.{◌≡◌, length}
use Rattle.grs_base.specs.ShortNames.{all_name}
use Rattle.deck_form.proofs.words.all_name.Given as goal

abbrev pub invariant-loop-b : goal.invariant-loop-b
invariant-loop-b l = all_name l.rest ≡ all_name l.w

abbrev pub decreases-loop-b : goal.decreases-loop-b
decreases-loop-b l = length l.rest
