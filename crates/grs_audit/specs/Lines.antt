-- The lines of a text, and the parts of a line.
use Rattle.std.specs.Prelude.{ℕ, Bool, ◌==◌, cond, List, [], ◌∷◌}
use Rattle.std.specs.List.{list_any}

-- the greatest number of a line
abbrev pub most_lines : ℕ
most_lines = 4294967295

-- a byte before these lines: a line end begins a line, and another byte stands in the first one
abbrev pub before_lines : ℕ → List (List ℕ) → List (List ℕ)
before_lines b [] = cond (b == 10) ([] ∷ []) ((b ∷ []) ∷ [])
before_lines b (l ∷ ls) = cond (b == 10) ([] ∷ l ∷ ls) ((b ∷ l) ∷ ls)

-- the lines of a text: the last one may lack its line end, and behind the last line end there is none
abbrev pub lines_in : List ℕ → List (List ℕ)
lines_in [] = []
lines_in (b ∷ bs) = before_lines b (lines_in bs)

-- what stands before the first of this byte, and what stands behind it
abbrev pub front : ℕ → List ℕ → List ℕ
front b [] = []
front b (x ∷ xs) = cond (x == b) [] (x ∷ front b xs)

abbrev pub behind : ℕ → List ℕ → List ℕ
behind b [] = []
behind b (x ∷ xs) = cond (x == b) xs (behind b xs)

-- whether a byte is among these
abbrev pub holds : ℕ → List ℕ → Bool
holds b xs = list_any (λ x. x == b) xs
