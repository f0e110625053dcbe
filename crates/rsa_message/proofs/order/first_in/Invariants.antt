use Rattle.std.proofs.Common.{◌≡◌, ◌+◌, ◌-◌, ◌%◌, map}
use Rattle.std.specs.Prelude.{find}
use Rattle.std.specs.List.{range_with_len}
use Rattle.grs_wire.specs.Masks.{has}
use Rattle.rsa_message.specs.Message.{first_after}
use Rattle.rsa_message.proofs.order.first_in.Given as goal

abbrev pub invariant-loop-places : goal.invariant-loop-places
invariant-loop-places l =
    find (λ s. has l.set s.0)
    (map (λ k. record { 0 = (l.system.0 + k) % l.systems }) (range_with_len (l.places + 1) (l.systems - l.places)))
    ≡ first_after l.systems l.system (λ s. has l.set s.0)
