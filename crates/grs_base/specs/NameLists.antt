-- Which entries a name list can have, and which name lists a deck.
use Rattle.std.specs.Prelude.{◌≡◌, Bool, true, false, ◌&&◌, ◌≤◌, length, is_none, All}
use Rattle.grs_base.specs.Limits.{most_entries}
use Rattle.grs_base.specs.Names.{are_bytes, IsQname, IsMaybeRname}
use Rattle.grs_base.specs.Rnl.{RnlView}
use Rattle.grs_base.specs.declared.rnl.Which.{Which}
use Rattle.grs_base.specs.declared.rnl.Which.TheVariants.{Incl, Excl, Con}
use Rattle.grs_base.specs.declared.rnl.Form.{Form}
use Rattle.grs_base.specs.declared.rnl.Form.TheVariants.{Specific, Generic, Pattern}
use Rattle.grs_base.specs.declared.rnl.RnlEntry.{RnlEntry}
use Rattle.grs_base.specs.declared.rnl.Lists.{Lists}

abbrev pub is_specific : Form → Bool
is_specific Specific = true
is_specific Generic = false
is_specific Pattern = false

-- an entry that an RNLDEF can make: its names have their lengths, and a SPECIFIC entry has an rname
pub record IsEntry (e : RnlEntry) : Type 0 where
  pub q : IsQname e.q
  pub q_bytes : are_bytes e.q ≡ true
  pub r : IsMaybeRname e.r
  pub needed : (is_specific e.form && is_none e.r) ≡ false

-- a name list with entries of its own alone, and at most 4,096 of them
pub record IsListOf (which : Which) (list : RnlView) : Type 0 where
  pub which_is : list.which ≡ which
  pub few : length list.entries ≤ most_entries
  pub own : All (λ (e : RnlEntry). e.which ≡ which) list.entries

-- the three name lists
pub record AreLists (lists : Lists) : Type 0 where
  pub incl : IsListOf Incl lists.incl
  pub excl : IsListOf Excl lists.excl
  pub con : IsListOf Con lists.con

-- the entries of the three name lists: each is one that an RNLDEF can make
pub record AreEntries (lists : Lists) : Type 0 where
  pub incl : All IsEntry lists.incl.entries
  pub excl : All IsEntry lists.excl.entries
  pub con : All IsEntry lists.con.entries
