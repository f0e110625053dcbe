use Rattle.std.proofs.Common.{◌≡◌, length}
use Rattle.std.specs.Prelude.{All}
use Rattle.grs_workers.specs.Rounds.{Grew, Each}
use Rattle.grs_workers.specs.Stands.{stand, IsOn, Agrees}
use Rattle.grs_workers.proofs.run.rounds.Given as goal

abbrev pub invariant-loop : goal.invariant-loop
invariant-loop g l = record {
  on : All (λ w. IsOn l.bus (stand w)) l.workers.items;
  agree : All (λ w. Agrees (stand w)) l.workers.items;
  grew : Each (λ v w. Grew (stand v) (stand w)) l.fn.workers.items l.workers.items;
  count : length l.workers.items ≡ length l.fn.workers.items;
}
