-- Where a set stands among others.
use Rattle.std.specs.Prelude.{ℕ, suc, List, [], ◌∷◌, if◌then◌else◌}
use Rattle.std.specs.Str.{bytes_eq}
use Rattle.grs_latch.specs.Calls.{Sets}

-- the place of the first set of this name; where there is none, how many there are
abbrev pub set_place : List ℕ → Sets → ℕ
set_place n [] = 0
set_place n (s ∷ ss) = if bytes_eq s.name n then 0 else suc (set_place n ss)
