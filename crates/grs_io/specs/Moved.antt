-- What a whole reading or writing does to the bytes that a stream tells.
use Rattle.std.specs.Prelude.{◌≡◌, ℕ, ◌<◌, ◌++◌, List, length, take, drop, ⊤, Option, None, Some}
use Rattle.std.specs.Io.KnownBytes.{Appends, Consumes, IsAtEnd}

-- the bytes left lose their first n, or all of them where they are fewer, and these are the text
abbrev pub TakesFirst : ℕ → Option (List ℕ) → Option (List ℕ) → List ℕ → Type 0
TakesFirst n None new text = ⊤
TakesFirst n (Some xs) None text = ⊥
TakesFirst n (Some xs) (Some ys) text = (text ≡ take n xs) × (ys ≡ drop n xs)

-- what is written grows by a front of these bytes that is shorter than they are
abbrev pub AppendsPart : Option (List ℕ) → Option (List ℕ) → List ℕ → Type 0
AppendsPart old new bytes = (n : ℕ) × (n < length bytes) × Appends old new (take n bytes)

-- one read put n bytes, which the bytes left lost, behind a text, and none only at the end
pub record AddsRead (left left' : Option (List ℕ)) (text text' : List ℕ) (n : ℕ) : Type 0 where
  pub piece : List ℕ
  pub len : length piece ≡ n
  pub added : text' ≡ text ++ piece
  pub consumed : Consumes left left' piece
  pub ended : n ≡ 0 → IsAtEnd left'
