-- What a look at the lists shows.
use Rattle.std.specs.Prelude.{ℕ, Bool, true, false, ◌&&◌, ◌==◌, nat_lt, List, length, filter, Option, None, Some}
use Rattle.std.specs.Str.{bytes_eq}
use Rattle.grs_base.specs.ResOrder.{qname_of, rname_of}
use Rattle.grs_base.specs.Rows.{rows_of}
use Rattle.grs_base.specs.Slices.{slice_of}
use Rattle.grs_base.specs.State.{State}
use Rattle.grs_base.specs.declared.resource.Res.{Res}
use Rattle.grs_base.specs.declared.resource.Res.TheVariants.{Step, System, Systems}
use Rattle.grs_base.specs.declared.resource.Row.{Row}
use Rattle.grs_base.specs.declared.look.Place.{Place}
use Rattle.grs_base.specs.declared.look.Place.TheVariants.{Slice, Local}
use Rattle.grs_base.specs.declared.look.Filter.{Filter}
use Rattle.grs_base.specs.declared.look.Filter.TheVariants as filters

-- whether a resource is of a place: a Systems resource of its slice, any other of its system
abbrev pub is_of_place : Place → Res → Bool
is_of_place (Slice n) (Systems q r) = slice_of q r == n
is_of_place (Slice n) (System s q r) = false
is_of_place (Slice n) (Step s j q r) = false
is_of_place (Local t) (Systems q r) = false
is_of_place (Local t) (System s q r) = s.0 == t.0
is_of_place (Local t) (Step s j q r) = s.0 == t.0

-- whether a name is the one that is asked for, if one is
abbrev pub is_named : Option (List ℕ) → List ℕ → Bool
is_named None name = true
is_named (Some wanted) name = bytes_eq wanted name

-- whether a resource, on which somebody waits or nobody does, passes a filter
abbrev pub matches : Filter → Res → Bool → Bool
matches filters.All res waits = true
matches filters.Contended res waits = waits
matches (filters.Named q r) res waits = is_named q (qname_of res) && is_named r (rname_of res)

-- whether somebody waits in a list that is shown
abbrev pub is_contended : Row → Bool
is_contended row = nat_lt row.owners (length row.elems)

-- whether a list is shown by a look at this place with this filter
abbrev pub is_shown : Place → Filter → Row → Bool
is_shown place f row = is_of_place place row.res && matches f row.res (is_contended row)

-- the lists of a place that pass a filter, in the order in which lists are shown; empty lists aren't
abbrev pub look : State → Place → Filter → List Row
look s place f = filter (is_shown place f) (rows_of s)
