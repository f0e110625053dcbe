-- Lines of words. A word is a list of bytes.
use Rattle.std.specs.Prelude.{ℕ, List, [], ◌∷◌, ◌++◌}

-- these words, each with a blank before it
abbrev pub spaced : List (List ℕ) → List ℕ
spaced [] = []
spaced (w ∷ ws) = (32 ∷ w) ++ spaced ws

-- a line: the words with a blank between any two, and a line end
unfoldable pub line : List (List ℕ) → List ℕ
line [] = 10 ∷ []
line (w ∷ ws) = (w ++ spaced ws) ++ 10 ∷ []
