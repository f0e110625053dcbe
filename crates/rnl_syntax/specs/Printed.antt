-- How an entry of a name list is printed: as one line, with RNL, TYPE, QNAME and, where there is one, RNAME.
use Rattle.std.specs.Prelude.{ℕ, List, [], ◌++◌, codes, Option, Some, None}
use Rattle.grs_base.specs.Printed.{printed_name}
use Rattle.grs_base.specs.declared.rnl.RnlEntry.{RnlEntry}
use Rattle.rnl_syntax.specs.Spelled.{which_word, form_word}

abbrev pub printed_rname : Option (List ℕ) → List ℕ
printed_rname None = []
printed_rname (Some r) = codes " RNAME(" ++ printed_name r ++ codes ")"

abbrev pub printed_rnldef : RnlEntry → List ℕ
printed_rnldef e =
    codes "RNLDEF RNL(" ++ which_word e.which
    ++ codes ") TYPE(" ++ form_word e.form
    ++ codes ") QNAME(" ++ printed_name e.q
    ++ codes ")" ++ printed_rname e.r
