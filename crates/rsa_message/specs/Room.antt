-- The room that a call of the message was given beforehand, so that it takes no memory.
use Rattle.std.specs.Prelude.{◌≡◌, ℕ, ◌≤◌, cond, List, [], Option, Some, None}
use Rattle.grs_base.specs.declared.resource.SysId.{SysId}
use Rattle.grs_wire.specs.declared.medium.RingEntry.{RingEntry}
use Rattle.rsa_message.specs.Message.{Message, stands_at}
use Rattle.grs_wire.specs.Unseen.{unseen}

-- For whose Turn there is room, if for any, and for how many new entries.
pub record Room : Type 0 where
  pub caller : Option SysId
  pub entries : ℕ

-- room for a Turn of c that puts in at most so many entries
abbrev pub HasRoom : Room → SysId → ℕ → Type 0
HasRoom room c count = (room.caller ≡ Some c) × (count ≤ room.entries)

-- a message with its room
pub record RsaValue : Type 0 where
  pub message : Message
  pub room : Room

-- the copies that are kept for the reply: those that it gives, where the message stands at its caller
abbrev pub given_to : Option SysId → Option SysId → List RingEntry → List RingEntry
given_to None holder es = []
given_to (Some s) holder es = cond (stands_at holder s) (unseen s es) []
