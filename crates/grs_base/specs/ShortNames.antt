-- Names of systems, jobs and tasks.
use Rattle.std.specs.Prelude.{◌≡◌, ℕ, Bool, true, false, not, ◌&&◌, ◌||◌, ◌==◌, ◌≤◌, nat_le, List, [], ◌∷◌, length}
use Rattle.grs_base.specs.Limits.{most_name_bytes}

-- 0 to 9
abbrev pub is_digit : ℕ → Bool
is_digit b = nat_le 48 b && nat_le b 57

-- A to Z, 0 to 9, $, # and @
unfoldable pub is_name_byte : ℕ → Bool
is_name_byte b = (nat_le 65 b && nat_le b 90) || is_digit b || b == 36 || b == 35 || b == 64

unfoldable pub all_name : List ℕ → Bool
all_name [] = true
all_name (b ∷ bs) = is_name_byte b && all_name bs

-- a name of any length but none, whose first byte is no digit
unfoldable pub is_name : List ℕ → Bool
is_name [] = false
is_name (b ∷ bs) = not (is_digit b) && all_name (b ∷ bs)

-- the name of a system, a job or a task: of 1 to 8 of its bytes, the first no digit
abbrev pub IsShortName : List ℕ → Type 0
IsShortName n = (is_name n ≡ true) × (length n ≤ most_name_bytes)
