-- Which system stops under `stop`, as its words say.
use Rattle.std.specs.Prelude.{ℕ, ◌-◌, ◌&&◌, cond, nat_le, List, ◌++◌, length, replicate, Option, None, Some}
use Rattle.grs_base.specs.Limits.{most_name_bytes}
use Rattle.grs_base.specs.ShortNames.{is_name}

-- the name of the system that stops, and how many events it makes before
pub record StopValue : Type 0 where
  pub name : List ℕ
  pub events : ℕ

-- a name with blanks behind it, up to as many bytes as it may have
abbrev pub with_blanks : List ℕ → List ℕ
with_blanks name = name ++ replicate (most_name_bytes - length name) 32

-- that, where the name has the form of a system's
abbrev pub stop_of : List ℕ → ℕ → Option StopValue
stop_of name events =
    cond (is_name name && nat_le (length name) most_name_bytes) (Some (record { name = name; events = events })) None
