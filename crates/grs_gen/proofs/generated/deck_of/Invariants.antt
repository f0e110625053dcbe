use Rattle.std.proofs.Common.{◌≡◌, map}
use Rattle.std.specs.List.{range_with_len}
use Rattle.grs_gen.specs.Generated.{system_of}
use Rattle.grs_gen.proofs.generated.deck_of.Given as goal

abbrev pub invariant-loop-system : goal.invariant-loop-system
invariant-loop-system l = l.systems ≡ map (system_of l.n) (range_with_len 0 l.system)
