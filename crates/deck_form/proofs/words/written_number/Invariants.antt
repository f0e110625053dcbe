use Rattle.std.proofs.Common.{◌≡◌, ◌<◌, ◌≤◌, ◌-◌, ◌^◌, length}
use Rattle.deck_form.specs.Words.{digits}
use Rattle.deck_form.proofs.words.written_number.Given as goal

abbrev pub invariant-loop-b : goal.invariant-loop-b
invariant-loop-b l = record {
  reads : digits l.number l.rest ≡ digits 0 l.w;
  small : l.number < 10 ^ (9 - length l.rest);
  short : length l.rest ≤ 9;
}

abbrev pub decreases-loop-b : goal.decreases-loop-b
decreases-loop-b l = length l.rest
