use Rattle.std.proofs.Common.{◌≡◌, ◌≤◌, length, drop}
use Rattle.rnl_match.specs.Matches.{matches_pattern}
use Rattle.rnl_match.proofs.pattern.matches_pattern.Given as goal

abbrev pub invariant-loop-place : goal.invariant-loop-place
invariant-loop-place l = record {
  within : l.place ≤ length l.text;
  same : matches_pattern l.pattern l.text ≡ matches_pattern (drop l.place l.pattern) (drop l.place l.text);
}
