-- What callers see of a name list.
use Rattle.std.specs.Prelude.{List, []}
use Rattle.grs_base.specs.declared.rnl.Which.{Which}
use Rattle.grs_base.specs.declared.rnl.RnlEntry.{RnlEntry}

-- which list it is, and its entries in order
pub record RnlView : Type 0 where
  pub which : Which
  pub entries : List RnlEntry

-- a list without entries
abbrev pub no_entries : Which → RnlView
no_entries which = record { which = which; entries = [] }
