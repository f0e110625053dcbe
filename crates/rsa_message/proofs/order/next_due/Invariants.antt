use Rattle.std.proofs.Common.{◌≡◌, ◌+◌, ◌-◌, ◌%◌, map}
use Rattle.std.specs.Prelude.{find}
use Rattle.std.specs.List.{range_with_len}
use Rattle.rsa_message.specs.Message.{first_after, is_due}
use Rattle.rsa_message.proofs.order.next_due.Given as goal

abbrev pub invariant-loop-places : goal.invariant-loop-places
invariant-loop-places l =
    find (is_due l.entries l.live l.rest)
    (map (λ k. record { 0 = (l.system.0 + k) % l.systems }) (range_with_len (l.places + 1) (l.systems - l.places)))
    ≡ first_after l.systems l.system (is_due l.entries l.live l.rest)
