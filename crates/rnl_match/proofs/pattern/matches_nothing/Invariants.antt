use Rattle.std.proofs.Common.{◌≡◌, [], drop}
use Rattle.rnl_match.specs.Matches.{matches_pattern}
use Rattle.rnl_match.proofs.pattern.matches_nothing.Given as goal

abbrev pub invariant-loop-byte : goal.invariant-loop-byte
invariant-loop-byte l = matches_pattern l.pattern [] ≡ matches_pattern (drop l.byte-index l.pattern) []
