use Rattle.std.proofs.Common.{◌≡◌, [], ◌∷◌}
use Rattle.std.specs.List.{flat_map, range_with_len}
use Rattle.grs_gen.specs.Generated.{enq_line, deq_line}
use Rattle.grs_gen.proofs.generated.lines_of.Given as goal

abbrev pub invariant-loop-place : goal.invariant-loop-place
invariant-loop-place l =
    l.lines ≡ flat_map (λ j. enq_line l.system l.task j ∷ deq_line l.task j ∷ []) (range_with_len 1 l.place)
