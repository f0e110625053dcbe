use Rattle.std.proofs.Common.{◌≡◌, true}
use Rattle.grs_wire.specs.Masks.{all_others}
use Rattle.grs_medium.specs.Inboxes.{inbox_of, is_empty}
use Rattle.grs_medium.proofs.inboxes.Inboxes.all_empty.Given as goal

abbrev pub invariant-loop-s : goal.invariant-loop-s
invariant-loop-s l = all_others l.s l.removed (λ s. is_empty (inbox_of l.self.mail s)) ≡ true
