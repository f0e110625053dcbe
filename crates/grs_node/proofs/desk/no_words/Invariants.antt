use Rattle.std.proofs.Common.{◌≡◌, replicate}
use Rattle.grs_node.proofs.desk.no_words.Given as goal

abbrev pub invariant-loop : goal.invariant-loop
invariant-loop l = l.words ≡ replicate l.counter 0
