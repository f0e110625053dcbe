-- The lines of a text, or its first fault of length or bytes.
use Rattle.std.specs.Prelude.{◌≡◌, ℕ, nat_lt, List, length, Option, Some, None, Result, Ok, Err, if◌then◌else◌}
use Rattle.grs_base.specs.declared.fault.DeckFault.{DeckFault}
use Rattle.grs_base.specs.declared.fault.Kind.TheVariants.{TooLong, BadByte}
use Rattle.grs_base.specs.declared.fault.ReadError.{ReadError}
use Rattle.grs_base.specs.declared.fault.ReadError.TheVariants as read_errors
use Rattle.deck_scan.specs.declared.token.TokenLine.{TokenLine}
use Rattle.deck_scan.specs.Bytes.{bad_line}
use Rattle.deck_scan.specs.Pieces.{SpellsLines}
use Rattle.deck_scan.specs.Scan.{lines_of}

-- How many bytes a deck may have.
abbrev pub most_text_bytes : ℕ
most_text_bytes = 1048576

abbrev pub bad_byte : Option ℕ → Option DeckFault
bad_byte None = None
bad_byte (Some n) = Some (record { line = n; kind = BadByte })

-- A text that is too long has this fault alone; else its first byte that a deck may not have is the fault.
abbrev pub byte_fault : List ℕ → Option DeckFault
byte_fault text =
    if nat_lt most_text_bytes (length text)
    then Some (record { line = 0; kind = TooLong })
    else bad_byte (bad_line 1 text)

-- What a reader of lines answers: the lines that the text spells where it has no fault of length or
-- bytes, else that fault. Want of memory is the only other answer.
abbrev pub Answers : Result (List TokenLine) ReadError → List ℕ → Type 0
Answers (Ok lines) text = (byte_fault text ≡ None) × SpellsLines text lines
Answers (Err read_errors.NoMemory) text = Unit {0}
Answers (Err (read_errors.Fault f)) text = byte_fault text ≡ Some f

abbrev pub unless_fault : Option DeckFault → List TokenLine → Result (List TokenLine) DeckFault
unless_fault None lines = Ok lines
unless_fault (Some f) lines = Err f

-- What is read of a text.
unfoldable pub lines_or_fault : List ℕ → Result (List TokenLine) DeckFault
lines_or_fault text = unless_fault (byte_fault text) (lines_of text)
