-- The names that the SYSTEM statements of a deck give, wherever these stand. Which statement a line belongs to is no
-- matter.
use Rattle.std.specs.Prelude.{ℕ, Bool, not, ◌&&◌, nat_le, List, [], ◌∷◌, length, codes, filter_map, position, take_while}
use Rattle.std.specs.Prelude.{Option, Some, None, is_some, if◌then◌else◌}
use Rattle.std.specs.List.{list_any, cons_option}
use Rattle.std.specs.Str.{bytes_eq}
use Rattle.grs_base.specs.Limits.{most_name_bytes}
use Rattle.deck_scan.specs.declared.token.TokenLine.{TokenLine}
use Rattle.deck_scan.specs.AnyBytes.{readable}
use Rattle.deck_scan.specs.Next.{◌>>=◌, word_at}
use Rattle.deck_scan.specs.Scan.{lines_of}
use Rattle.deck_form.specs.Words.{named_at}

-- The name of a SYSTEM statement, where it isn't too long. Whatever else is wrong with the statement, it counts.
unfoldable pub name_given : TokenLine → Option (List ℕ)
name_given l = if l.joined then None else (do
  ts ← word_at (codes "SYSTEM") l.tokens
  n ← named_at ts
  if nat_le (length n) most_name_bytes then Some n else None)

-- The first word of the line is SCHEDULE, whatever else stands there.
unfoldable pub begins_schedule : TokenLine → Bool
begins_schedule l = not l.joined && is_some (word_at (codes "SCHEDULE") l.tokens)

-- The names that lines give to systems, before the first whose first word is SCHEDULE.
unfoldable pub names_to_schedule : List TokenLine → List (List ℕ)
names_to_schedule ls = filter_map name_given (take_while (λ l. not (begins_schedule l)) ls)

-- The names that a removal may give: those from the first line on that gives one. In front of it stand COMPLEX and the
-- name lists: none of their lines gives a name where they are right, and one of them may be SCHEDULE within an RNLDEF.
unfoldable pub system_names : List TokenLine → List (List ℕ)
system_names [] = []
system_names (l ∷ ls) =
    if is_some (name_given l) then cons_option (name_given l) (names_to_schedule ls) else system_names ls

-- Those of a text.
abbrev pub names_in : List ℕ → List (List ℕ)
names_in text = system_names (lines_of (readable text))

-- This name is among them.
unfoldable pub is_named : List (List ℕ) → List ℕ → Bool
is_named names name = list_any (bytes_eq name) names

-- Where it stands there for the first time.
unfoldable pub name_place : List (List ℕ) → List ℕ → Option ℕ
name_place names name = position (bytes_eq name) names
