-- Counts of the calls of a stream that failed.
use Rattle.std.specs.Prelude.{◌≡◌, ℕ, ◌<◌, ◌⊎◌}

-- the last value of a count, which has 64 bits: there it stands still
abbrev pub last_count : ℕ
last_count = 18446744073709551615

-- the count rose, or it stood and stands at its last value
abbrev pub HasRisen : ℕ → ℕ → Type 0
HasRisen old new = (old < new) ⊎ ((old ≡ last_count) × (new ≡ last_count))
