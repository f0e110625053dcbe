-- Which lines a task of a deck can have.
use Rattle.std.specs.Prelude.{◌≡◌, ℕ, Bool, true, false, ◌&&◌, ◌<◌, [], ◌∷◌, Option, Some, None, is_none}
use Rattle.grs_base.specs.Names.{AreNames, IsMaybeQname, IsMaybeRname}
use Rattle.grs_base.specs.declared.look.Filter.{Filter}
use Rattle.grs_base.specs.declared.look.Filter.TheVariants as filters
use Rattle.grs_base.specs.declared.line.Item.{Item}
use Rattle.grs_base.specs.declared.line.Line.{Line}
use Rattle.grs_base.specs.declared.line.Line.TheVariants as lines

-- a filter of a GQSCAN: all lists, or those of a qname, of an rname or of both
abbrev pub IsFilter : Filter → Type 0
IsFilter filters.All = Unit {0}
IsFilter filters.Contended = ⊥
IsFilter (filters.Named q r) = IsMaybeQname q × IsMaybeRname r × ((is_none q && is_none r) ≡ false)

-- a unit is a number of 16 bits
abbrev pub IsMaybeUnit : Option ℕ → Type 0
IsMaybeUnit None = Unit {0}
IsMaybeUnit (Some unit) = unit < 65536

-- names, filters and units are within their limits, and an ENQ has one item
abbrev pub IsDeckLine : Line → Type 0
IsDeckLine (lines.Enq items ret rnl) = (i : Item) × (items ≡ i ∷ []) × AreNames i.q i.r
IsDeckLine (lines.Reserve q r ctl unit ret rnl) = AreNames q r × (unit < 65536)
IsDeckLine (lines.Deq q r scope have unit rnl) = AreNames q r × IsMaybeUnit unit
IsDeckLine (lines.Wait q r scope rnl) = AreNames q r
IsDeckLine (lines.Gqscan global filter) = IsFilter filter
IsDeckLine lines.DisplayC = Unit {0}
IsDeckLine (lines.DisplayRes q r) = AreNames q r

-- whether a line shows something
abbrev pub is_display : Line → Bool
is_display (lines.Gqscan global filter) = true
is_display lines.DisplayC = true
is_display (lines.DisplayRes q r) = true
is_display _ = false
