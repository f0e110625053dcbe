-- The room for new entries where no copies for a reply are kept: that of a Turn whose entries are read where they lie,
-- and of a removal.
use Rattle.std.specs.Prelude.{◌≡◌, ℕ, ◌≤◌, None}
use Rattle.rsa_message.specs.Room.{Room}

-- room for so many new entries, with no copies for a reply
abbrev pub HasPlaces : Room → ℕ → Type 0
HasPlaces room count = (room.caller ≡ None) × (count ≤ room.entries)
