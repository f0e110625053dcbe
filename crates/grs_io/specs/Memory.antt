-- What is seen of the streams over memory.
use Rattle.std.specs.Prelude.{ℕ, Bool, ◌==◌, List}
use Rattle.std.specs.List.{list_any}

-- a source over memory: the bytes left, how many one call gives at most, how many calls were made, the
-- numbers of the calls that fail, and how many failed
pub record SourceView : Type 0 where
  pub left : List ℕ
  pub chunk : ℕ
  pub calls : ℕ
  pub fails : List ℕ
  pub faults : ℕ

-- a sink over memory: the bytes written, how many one call takes at most, how many calls were made, the
-- numbers of the calls that fail, and how many failed
pub record SinkView : Type 0 where
  pub written : List ℕ
  pub chunk : ℕ
  pub calls : ℕ
  pub fails : List ℕ
  pub faults : ℕ

-- whether the call of this number is to fail
abbrev pub is_listed : List ℕ → ℕ → Bool
is_listed fails call = list_any (λ x. x == call) fails
