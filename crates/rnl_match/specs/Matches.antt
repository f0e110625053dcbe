-- Which names an entry of a name list matches.
use Rattle.std.specs.Prelude.{ℕ, Bool, true, false, ◌&&◌, ◌||◌, ◌==◌, nat_eq, List, [], ◌∷◌, Option, Some, None}
use Rattle.std.specs.Prelude.{position, if◌then◌else◌}
use Rattle.std.specs.List.{starts_with}
use Rattle.std.specs.Str.{bytes_eq}
use Rattle.grs_base.specs.Rnl.{RnlView}
use Rattle.grs_base.specs.declared.rnl.Form.{Form}
use Rattle.grs_base.specs.declared.rnl.Form.TheVariants.{Specific, Generic, Pattern}
use Rattle.grs_base.specs.declared.rnl.RnlEntry.{RnlEntry}

-- whether a rest of a text passes: the text itself, or what is left behind some of its bytes
abbrev pub some_rest : (List ℕ → Bool) → List ℕ → Bool
some_rest passes [] = passes []
some_rest passes (b ∷ x) = passes (b ∷ x) || some_rest passes x

-- whether a text has a first byte that a pattern's byte stands for, and its rest passes: `?` stands for any
-- byte, every other for itself
abbrev pub one_byte : ℕ → (List ℕ → Bool) → List ℕ → Bool
one_byte c passes [] = false
one_byte c passes (b ∷ x) = (c == 63 || c == b) && passes x

-- whether a pattern matches a text: nothing matches nothing, and `*` stands for any bytes or none
abbrev pub matches_pattern : List ℕ → List ℕ → Bool
matches_pattern [] [] = true
matches_pattern [] (b ∷ x) = false
matches_pattern (c ∷ p) x = if c == 42 then some_rest (matches_pattern p) x else one_byte c (matches_pattern p) x

-- whether a qname is matched: a generic entry wants it equal
abbrev pub matches_qname : Form → List ℕ → List ℕ → Bool
matches_qname Specific wanted q = bytes_eq wanted q
matches_qname Generic wanted q = bytes_eq wanted q
matches_qname Pattern wanted q = matches_pattern wanted q

-- whether an rname is matched: a generic entry wants it to begin so
abbrev pub matches_rname : Form → List ℕ → List ℕ → Bool
matches_rname Specific wanted r = bytes_eq wanted r
matches_rname Generic wanted r = starts_with nat_eq r wanted
matches_rname Pattern wanted r = matches_pattern wanted r

-- whether an entry without an rname matches every rname
abbrev pub matches_every : Form → Bool
matches_every Specific = false
matches_every Generic = true
matches_every Pattern = true

-- whether an rname is matched by an entry that may have none
abbrev pub matches_some_rname : Form → Option (List ℕ) → List ℕ → Bool
matches_some_rname form None r = matches_every form
matches_some_rname form (Some wanted) r = matches_rname form wanted r

-- whether an entry matches the names of a resource
abbrev pub matches : RnlEntry → List ℕ → List ℕ → Bool
matches e q r = matches_qname e.form e.q q && matches_some_rname e.form e.r r

-- the place of the first entry that matches, from 0
abbrev pub find : RnlView → List ℕ → List ℕ → Option ℕ
find list q r = position (λ e. matches e q r) list.entries
