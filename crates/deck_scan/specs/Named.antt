-- Names that can be printed, and the piece that a printed name is.
use Rattle.std.specs.Prelude.{ℕ, false, List, [], ◌∷◌, if◌then◌else◌}
use Rattle.std.specs.List.{list_all}
use Rattle.grs_base.specs.Printed.{is_plain_byte, is_printable, hex_digits}
use Rattle.deck_scan.specs.declared.token.Token.{Token}
use Rattle.deck_scan.specs.declared.token.Token.TheVariants.{Word, Name}
use Rattle.deck_scan.specs.declared.token.TokenLine.{TokenLine}
use Rattle.deck_scan.specs.Pieces.{Piece, Plain, Quoted, Hexed, Place, with_token, with_word}

-- The piece by which the name of these bytes is printed.
abbrev pub name_piece : List ℕ → Piece
name_piece bs =
    if list_all is_plain_byte bs
    then Plain bs
    else (if list_all is_printable bs then Quoted bs else Hexed (hex_digits bs))

-- The token that it says, with the same bytes.
abbrev pub name_token : List ℕ → Token
name_token bs = if list_all is_plain_byte bs then Word bs else Name bs

-- Where a text stands behind it.
abbrev pub past_name : List ℕ → Place → Place
past_name bs p = if list_all is_plain_byte bs then with_word bs p else with_token (Name bs) p

-- The line of a text that is this name alone.
abbrev pub name_line : List ℕ → TokenLine
name_line bs = record { at = 1; tokens = name_token bs ∷ []; joined = false }
