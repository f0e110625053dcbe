use Rattle.std.proofs.Common.{◌≡◌, take}
use Rattle.std.specs.Prelude.{filter}
use Rattle.grs_wire.specs.Unseen.{is_unseen}
use Rattle.rsa_message.proofs.entries.copy_unseen.Given as goal

abbrev pub invariant-loop-entry : goal.invariant-loop-entry
invariant-loop-entry l = l.list ≡ filter (is_unseen l.system) (take l.entry-index l.entries)
