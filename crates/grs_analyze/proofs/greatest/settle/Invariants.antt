use Rattle.std.proofs.Common.{◌≡◌, ◌-◌, length}
use Rattle.grs_analyze.specs.Greatest.{left_after}
use Rattle.grs_analyze.specs.Numbered.{flagged}
use Rattle.grs_analyze.proofs.greatest.settle.Given as goal

abbrev pub invariant-loop-pass : goal.invariant-loop-pass
invariant-loop-pass l = record {
  long : length l.members ≡ length l.numbered.tasks;
  left :
      left_after l._rows (l.count - l._pass) (flagged l.numbered.tasks l.members)
      ≡ left_after l._rows l.count (flagged l.numbered.tasks l.initial.members);
}
