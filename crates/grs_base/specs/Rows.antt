-- The lists that aren't empty, in the order in which they are shown.
use Rattle.std.specs.Prelude.{List, [], ◌∷◌, map}
use Rattle.std.specs.FinMap.{put}
use Rattle.grs_base.specs.Lists.{owners}
use Rattle.grs_base.specs.State.{State, list_of}
use Rattle.grs_base.specs.ResOrder.{res_order}
use Rattle.grs_base.specs.declared.resource.Res.{Res}
use Rattle.grs_base.specs.declared.resource.Elem.{Elem}
use Rattle.grs_base.specs.declared.resource.Row.{Row}

-- the lists in s of the resources of these elements: each resource once, in order
abbrev pub lists_from : State → State → List (Res × List Elem)
lists_from s [] = []
lists_from s (h ∷ hs) = put res_order h.0 (list_of s h.0) (lists_from s hs)

-- the resources that have elements, each once and in order, with their lists
abbrev pub lists_of : State → List (Res × List Elem)
lists_of s = lists_from s s

-- a resource with its list, and how many of the list own it
abbrev pub row_of : Res × List Elem → Row
row_of e = record { res = e.0; elems = e.1; owners = owners e.1 }

-- what is shown of all lists
abbrev pub rows_of : State → List Row
rows_of s = map row_of (lists_of s)
