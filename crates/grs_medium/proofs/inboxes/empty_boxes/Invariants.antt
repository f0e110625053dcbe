use Rattle.std.proofs.Common.{◌≡◌, [], map, replicate}
use Rattle.grs_medium.proofs.inboxes.empty_boxes.Given as goal

abbrev pub invariant-loop : goal.invariant-loop
invariant-loop l = map (λ b. b.items) l.boxes.items ≡ replicate l.counter []
