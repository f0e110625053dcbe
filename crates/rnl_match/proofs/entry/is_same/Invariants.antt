use Rattle.std.proofs.Common.{◌≡◌, drop}
use Rattle.std.specs.Str.{bytes_eq}
use Rattle.rnl_match.proofs.entry.is_same.Given as goal

abbrev pub invariant-loop-i : goal.invariant-loop-i
invariant-loop-i l = bytes_eq l.wanted l.name ≡ bytes_eq (drop l.i l.wanted) (drop l.i l.name)
