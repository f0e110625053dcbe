-- What holds without COMPLEX.
use Rattle.std.specs.Prelude.{ℕ}

-- Lock entries without ENTRIES.
abbrev pub default_entries : ℕ
default_entries = 64

-- Requests that a task may have without LIMIT.
abbrev pub default_limit : ℕ
default_limit = 4096
