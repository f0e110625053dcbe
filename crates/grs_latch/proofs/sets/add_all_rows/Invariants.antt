use Rattle.std.proofs.Common.{◌≡◌, ◌++◌, drop}
use Rattle.grs_latch.specs.Calls.{rows_of}
use Rattle.grs_latch.proofs.sets.add_all_rows.Given as goal

abbrev pub invariant-loop-place : goal.invariant-loop-place
invariant-loop-place l = l.rows ++ rows_of l.place (drop l.place l.sets) ≡ l.initial.rows ++ rows_of 0 l.sets
