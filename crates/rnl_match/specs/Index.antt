-- How the entries of a name list are split for an index, and how many of them a name is compared with at most.
use Rattle.std.specs.Prelude.{◌≡◌, ℕ, ◌+◌, Bool, true, false, not, ◌&&◌, List, [], ◌∷◌, Option, Some, None, unwrap_or}
use Rattle.std.specs.Prelude.{if◌then◌else◌, nat_lt, slice_get, count_by}
use Rattle.std.specs.Option.{option_map_or}
use Rattle.std.specs.Map.{lookup}
use Rattle.std.specs.Str.{bytes_eq}
use Rattle.grs_base.specs.Rnl.{RnlView}
use Rattle.grs_base.specs.declared.rnl.Form.{Form}
use Rattle.grs_base.specs.declared.rnl.Form.TheVariants.{Specific, Generic, Pattern}
use Rattle.grs_base.specs.declared.rnl.RnlEntry.{RnlEntry}

-- whether entries of this form are patterns
abbrev pub is_pattern_form : Form → Bool
is_pattern_form Specific = false
is_pattern_form Generic = false
is_pattern_form Pattern = true

-- whether an entry is a pattern
abbrev pub is_pattern : RnlEntry → Bool
is_pattern e = is_pattern_form e.form

-- whether an entry is of a qname, and no pattern
abbrev pub is_under : List ℕ → RnlEntry → Bool
is_under q e = not (is_pattern e) && bytes_eq e.q q

-- with how many entries a name of this qname is compared at most: those of the qname, and the patterns
abbrev pub most_compared : RnlView → List ℕ → ℕ
most_compared list q = count_by (is_under q) list.entries + count_by is_pattern list.entries

-- the places of the entries that pass a test, in a list whose first place is n
abbrev pub places : (RnlEntry → Bool) → ℕ → List RnlEntry → List ℕ
places passes n [] = []
places passes n (e ∷ es) = if passes e then n ∷ places passes (n + 1) es else places passes (n + 1) es

-- the places that buckets have of a qname
abbrev pub bucket_at : List (List ℕ × List ℕ) → List ℕ → List ℕ
bucket_at buckets q = unwrap_or (lookup (bytes_eq q) buckets) []

-- the first of some places at which an entry passes; the places from an end on aren't looked at
abbrev pub first_place : (RnlEntry → Bool) → List RnlEntry → ℕ → List ℕ → Option ℕ
first_place passes es end [] = None
first_place passes es end (p ∷ ps) =
    if nat_lt p end then (if option_map_or passes (slice_get es p) false then Some p else first_place passes es end ps)
    else None

-- what an index keeps of a list: of each qname the places of its entries, and those of the patterns
pub record IsIndex (es : List RnlEntry) (buckets : List (List ℕ × List ℕ)) (patterns : List ℕ) : Type 0 where
  pub under : (q : List ℕ) → bucket_at buckets q ≡ places (is_under q) 0 es
  pub apart : patterns ≡ places is_pattern 0 es
