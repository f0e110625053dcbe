use Rattle.std.proofs.Common.{◌≡◌, ◌++◌, map}
use Rattle.std.specs.List.{range_with_len}
use Rattle.grs_wire.specs.declared.deck.Choice.TheVariants.{Tell}
use Rattle.grs_gen.specs.Rounds.{by}
use Rattle.grs_gen.proofs.rounds.put_tells.Given as goal

abbrev pub invariant-loop-entry : goal.invariant-loop-entry
invariant-loop-entry l = l.out ≡ l.initial.out ++ map (λ e. by l.system (Tell e)) (range_with_len 0 l.entry)
