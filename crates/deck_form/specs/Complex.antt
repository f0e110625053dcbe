-- The operands of COMPLEX, in any order, each at most once.
use Rattle.std.specs.Prelude.{ℕ, Bool, true, false, List, codes, Option, Some, None, if◌then◌else◌}
use Rattle.std.specs.Str.{bytes_eq}
use Rattle.grs_base.specs.Limits.{is_entries, is_limit}
use Rattle.deck_scan.specs.declared.token.Token.{Token}
use Rattle.deck_form.specs.declared.complex.Setup.{Setup}
use Rattle.deck_scan.specs.Next.{◌>>=◌, open_at, close_at, any_word_at, up_to, once}
use Rattle.deck_form.specs.Words.{written_number}

abbrev pub no_setup : Setup
no_setup = record { star = None; entries = None; limit = None }

unfoldable pub mode_of : List ℕ → Option Bool
mode_of w = if bytes_eq w (codes "RING") then Some false else if bytes_eq w (codes "STAR") then Some true else None

unfoldable pub entries_of : List ℕ → Option ℕ
entries_of w = do
  n ← written_number w
  if is_entries n then Some n else None

unfoldable pub limit_of : List ℕ → Option ℕ
limit_of w = do
  n ← written_number w
  if is_limit n then Some n else None

-- MODE stands once.
abbrev pub with_star : Setup → Bool → Option Setup
with_star o star = once o.star (record o { star = Some star })

-- ENTRIES stands once.
abbrev pub with_entries : Setup → ℕ → Option Setup
with_entries o entries = once o.entries (record o { entries = Some entries })

-- LIMIT stands once.
abbrev pub with_limit : Setup → ℕ → Option Setup
with_limit o limit = once o.limit (record o { limit = Some limit })

-- A word and the word between its parentheses.
unfoldable pub with_operand : Setup → List ℕ → List ℕ → Option Setup
with_operand o w v =
    if bytes_eq w (codes "MODE") then (mode_of v >>= λ x. with_star o x)
    else if bytes_eq w (codes "ENTRIES") then (entries_of v >>= λ x. with_entries o x)
    else if bytes_eq w (codes "LIMIT") then (limit_of v >>= λ x. with_limit o x)
    else None

unfoldable pub operand_at : Setup → List Token → Option (Setup × List Token)
operand_at o ts = do
  w ← any_word_at ts
  a ← open_at w.1
  v ← any_word_at a
  b ← close_at v.1
  p ← with_operand o w.0 v.0
  Some (p, b)

unfoldable pub complex_at : List Token → Option Setup
complex_at ts = up_to 3 operand_at no_setup ts
