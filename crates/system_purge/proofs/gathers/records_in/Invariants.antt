use Rattle.std.proofs.Common.{◌≡◌, ◌++◌, map}
use Rattle.system_purge.proofs.gathers.records_in.Given as goal

abbrev pub invariant-loop-part : goal.invariant-loop-part
invariant-loop-part l = l.all ++ map (λ p. p.records) l.part-iterator.rest.items ≡ map (λ p. p.records) l.fn.parts
