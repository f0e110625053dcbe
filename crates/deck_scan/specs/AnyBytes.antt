-- How a text of any bytes is read, as it is handed in for one statement.
use Rattle.std.specs.Prelude.{ℕ, List, [], ◌∷◌, codes, if◌then◌else◌}
use Rattle.deck_scan.specs.Bytes.{is_allowed}

-- What stands for a byte that a deck may not have: wherever it stands, also in a comment, it ends that and is a
-- token that no statement has.
abbrev pub wrong_byte : List ℕ
wrong_byte = codes "!*/!"

-- A text as it is read: up to its first byte that a deck may not have, and nothing behind that byte.
unfoldable pub readable : List ℕ → List ℕ
readable [] = []
readable (b ∷ bs) = if is_allowed b bs then b ∷ readable bs else wrong_byte
