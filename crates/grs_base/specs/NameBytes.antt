-- Bytes of a name that are kept in place, or elsewhere where they are many.
use Rattle.std.specs.Prelude.{ℕ, ◌≤◌, List, take}
use Rattle.grs_base.specs.declared.name.NameBytes.{NameBytes}
use Rattle.grs_base.specs.declared.name.NameBytes.TheVariants.{InPlace, Owned}

-- how many bytes are kept in place at most
abbrev pub most_in_place : ℕ
most_in_place = 23

-- the bytes
abbrev pub bytes_of : NameBytes → List ℕ
bytes_of (InPlace len kept) = take len kept
bytes_of (Owned bytes) = bytes.items

-- no more of them are in place than there is place for
abbrev pub HasPlace : NameBytes → Type 0
HasPlace (InPlace len kept) = len ≤ most_in_place
HasPlace (Owned bytes) = Unit {0}
