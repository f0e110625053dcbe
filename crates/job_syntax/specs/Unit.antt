-- Units of devices, as four hexadecimal digits.
use Rattle.std.specs.Prelude.{ℕ, ◌==◌, ◌+◌, ◌*◌, List, [], ◌∷◌, length, Option, Some, None, if◌then◌else◌}
use Rattle.deck_scan.specs.Bytes.{is_hex, digit}
use Rattle.deck_scan.specs.Next.{◌>>=◌}

-- The value of a hexadecimal digit of either case.
abbrev pub hex_of : ℕ → Option ℕ
hex_of b = if is_hex b then Some (digit b) else None

abbrev pub hex_at : List ℕ → Option (ℕ × List ℕ)
hex_at [] = None
hex_at (b ∷ bs) = do
  x ← hex_of b
  Some (x, bs)

-- The unit that four hexadecimal digits write.
unfoldable pub unit_of : List ℕ → Option ℕ
unit_of w = do
  a ← hex_at w
  b ← hex_at a.1
  c ← hex_at b.1
  d ← hex_at c.1
  if length d.1 == 0 then Some (a.0 * 4096 + b.0 * 256 + c.0 * 16 + d.0) else None
