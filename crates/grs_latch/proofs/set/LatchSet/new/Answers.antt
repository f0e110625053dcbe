use Rattle.grs_latch.proofs.NumberLemmas.{made-numbered, made-lists}
use Rattle.grs_latch.proofs.set.LatchSet.new.Goals as goal

pub invariant_of-result : goal.invariant_of-result
invariant_of-result c =
    made-numbered c.in_ok-numbers.numbers.items c.args.count _ _ c.in_ok-numbers.ensures c.requires

pub returns : goal.returns
returns c = made-lists c.in_ok-numbers.numbers.items c.args.count _ c.in_ok-numbers.ensures
