-- How many sets of latches there may be, and how many latches a set may have.
use Rattle.std.specs.Prelude.{ℕ}

abbrev pub most_sets : ℕ
most_sets = 64

abbrev pub most_latches : ℕ
most_latches = 1024
