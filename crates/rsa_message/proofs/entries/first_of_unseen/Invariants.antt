use Rattle.std.proofs.Common.{◌≡◌, drop}
use Rattle.std.specs.Prelude.{filter}
use Rattle.rsa_message.specs.Message.{first_number}
use Rattle.grs_wire.specs.Unseen.{is_unseen}
use Rattle.rsa_message.proofs.entries.first_of_unseen.Given as goal

abbrev pub invariant-loop-entry : goal.invariant-loop-entry
invariant-loop-entry l =
    first_number (filter (is_unseen l.system) (drop l.entry-index l.entries))
    ≡ first_number (filter (is_unseen l.system) l.entries)
