-- The names of a resource as a statement gives them, of any length; a statement may leave them out.
use Rattle.std.specs.Prelude.{ℕ, Bool, false, not, List, Option, Some, None}
use Rattle.grs_base.specs.Names.{trim_blanks, is_qname, is_rname}

-- A qname that has a length which it may not have.
abbrev pub is_bad_qname : Option (List ℕ) → Bool
is_bad_qname None = false
is_bad_qname (Some q) = not (is_qname q)

-- An rname that has a length which it may not have.
abbrev pub is_bad_rname : Option (List ℕ) → Bool
is_bad_rname None = false
is_bad_rname (Some r) = not (is_rname r)

-- A qname loses its trailing blanks.
abbrev pub trimmed : Option (List ℕ) → Option (List ℕ)
trimmed None = None
trimmed (Some q) = Some (trim_blanks q)
