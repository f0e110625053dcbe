-- Which entries of the message a system has yet to process.
use Rattle.std.specs.Prelude.{Bool, List, filter}
use Rattle.grs_base.specs.declared.resource.SysId.{SysId}
use Rattle.grs_wire.specs.Masks.{has}
use Rattle.grs_wire.specs.declared.medium.RingEntry.{RingEntry}

-- whether s has yet to process an entry: those that have are the entry's mask
abbrev pub is_unseen : SysId → RingEntry → Bool
is_unseen s e = has e.mask s.0

-- the entries that s has yet to process, in their order
unfoldable pub unseen : SysId → List RingEntry → List RingEntry
unseen s es = filter (is_unseen s) es
