-- Resources and their lists as lines.
use Rattle.std.specs.Prelude.{ℕ, ◌-◌, nat_lt, Bool, Option, Some, None, List, [], ◌∷◌, ◌++◌, codes, if◌then◌else◌}
use Rattle.std.specs.Fmt.{decimal}
use Rattle.grs_base.specs.Printed.{printed_name}
use Rattle.grs_base.specs.declared.resource.Res.{Res}
use Rattle.grs_base.specs.declared.resource.Res.TheVariants.{Step, System, Systems}
use Rattle.grs_base.specs.declared.resource.Elem.{Elem}
use Rattle.grs_base.specs.declared.look.Place.{Place}
use Rattle.grs_base.specs.declared.look.Place.TheVariants.{Slice, Local}
use Rattle.grs_base.specs.declared.look.Filter.{Filter}
use Rattle.grs_base.specs.declared.look.Filter.TheVariants.{All, Contended, Named}
use Rattle.grs_base.specs.declared.resource.Row.{Row}
use Rattle.grs_wire.specs.declared.seen.Names.{Names}
use Rattle.grs_display.specs.Lines.{line}
use Rattle.grs_display.specs.Names.{name_at, name_in, task_word}
use Rattle.grs_base.specs.Printed.{ctl_word}

-- the two names of a resource, behind its other ones
unfoldable pub names_word : List ℕ → List ℕ → List ℕ
names_word q r = ((printed_name q ++ 44 ∷ []) ++ printed_name r) ++ 41 ∷ []

-- SYSTEMS(q,r), SYSTEM(s,q,r) or STEP(s,j,q,r)
unfoldable pub res_word : Names → Res → List ℕ
res_word names (Systems q r) = codes "SYSTEMS(" ++ names_word q r
res_word names (System s q r) = ((codes "SYSTEM(" ++ name_at names.systems s.0) ++ 44 ∷ []) ++ names_word q r
res_word names (Step s j q r) =
    ((((codes "STEP(" ++ name_at names.systems s.0) ++ 44 ∷ []) ++ name_in names.jobs s.0 j) ++ 44 ∷ [])
    ++ names_word q r

-- where a look was taken: a slice, or LOCAL
unfoldable pub place_word : Place → List ℕ
place_word (Slice n) = decimal n
place_word (Local s) = codes "LOCAL"

-- a name that may be left out
abbrev pub name_word : Option (List ℕ) → List ℕ
name_word None = []
name_word (Some name) = printed_name name

-- an rname behind a comma, which may be left out
abbrev pub rname_word : Option (List ℕ) → List ℕ
rname_word None = []
rname_word (Some r) = 44 ∷ printed_name r

-- what a look shows: ALL, C, or the resources of a name or of two
unfoldable pub filter_word : Filter → List ℕ
filter_word All = codes "ALL"
filter_word Contended = codes "C"
filter_word (Named q r) = ((40 ∷ name_word q) ++ rname_word r) ++ 41 ∷ []

-- an element of a list: its task, its control, and a star where it owns the resource
unfoldable pub elem_word : Names → Bool → Elem → List ℕ
elem_word names owns e = ((task_word names e.task ++ 58 ∷ []) ++ ctl_word e.ctl) ++ (if owns then 42 ∷ [] else [])

-- the elements of a list, of which so many own the resource
abbrev pub elem_words : Names → ℕ → List Elem → List (List ℕ)
elem_words names owners [] = []
elem_words names owners (e ∷ es) = elem_word names (nat_lt 0 owners) e ∷ elem_words names (owners - 1) es

-- a letter, the resource, and its elements in order
unfoldable pub row_line : Names → ℕ → Row → List ℕ
row_line names letter row = line ((letter ∷ []) ∷ res_word names row.res ∷ elem_words names row.owners row.elems)
