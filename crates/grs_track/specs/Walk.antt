-- How far a task is in its lines, line by line.
use Rattle.std.specs.Prelude.{◌≡◌, ◌<◌, ◌≤◌, ℕ, zero, suc, Bool, true, false, ◌||◌, ◌-◌, ◌+◌, nat_lt, List, [], ◌∷◌, cond, map, slice_get}
use Rattle.std.specs.Prelude.{Some, None}
use Rattle.std.specs.List.{list_all}
use Rattle.std.specs.Option.{option_map}
use Rattle.grs_base.specs.State.{State}
use Rattle.grs_base.specs.declared.decision.Code.{Code}
use Rattle.grs_base.specs.declared.decision.Code.TheVariants.{C00, C04}
use Rattle.grs_base.specs.declared.line.Line.{Line}
use Rattle.grs_base.specs.declared.line.Line.TheVariants as lines
use Rattle.grs_base.specs.declared.resource.TaskId.{TaskId}
use Rattle.grs_base.specs.declared.rnl.Lists.{Lists}
use Rattle.grs_legal.specs.Asks.{asks_of, meaning_of}
use Rattle.grs_legal.specs.Legal.{lets_pass, passed_behind}
use Rattle.grs_legal.specs.declared.meaning.Meaning.{Meaning}
use Rattle.grs_track.specs.Track.{Kept, entry_for}
use Rattle.grs_track.specs.declared.onward.Onward.{Onward}
use Rattle.grs_track.specs.declared.onward.Onward.TheVariants as onwards
use Rattle.grs_track.specs.declared.walk.Stand.{Stand}
use Rattle.grs_track.specs.declared.walk.Stand.TheVariants.{At, Held, Behind}

-- how many entries a line asks for
abbrev pub asks_count : Line → ℕ
asks_count (lines.Enq [] ret rnl) = 0
asks_count (lines.Enq (i ∷ more) ret rnl) = 1
asks_count (lines.Reserve q r ctl unit ret rnl) = 1
asks_count (lines.Deq q r scope have unit rnl) = 1
asks_count (lines.Wait q r scope rnl) = 0
asks_count (lines.Gqscan true filter) = 64
asks_count (lines.Gqscan false filter) = 1
asks_count lines.DisplayC = 65
asks_count (lines.DisplayRes q r) = 2

-- whether a task that a DEQ with RET=HAVE would be answered so doesn't wait for the resource
abbrev pub is_no_wait : Code → Bool
is_no_wait C04 = false
is_no_wait _ = true

-- whether one that would be answered so owns it
abbrev pub is_granted : Code → Bool
is_granted C00 = true
is_granted _ = false

-- where a task stands that has so many entries of these lines, of which the first has this place
abbrev pub stand : State → TaskId → Lists → List Line → ℕ → ℕ → Stand
stand s t lists [] place asked = Behind
stand s t lists (l ∷ ls) place asked =
    cond (nat_lt asked (asks_count l)) (At place asked)
    (cond (nat_lt 0 asked || lets_pass s t (meaning_of lists t l))
    (stand s t lists ls (place + 1) (asked - asks_count l)) Held)

-- A task that has so many entries of these lines is past so many of them, with so many entries of the lines behind
-- those: of each line that it is past it has all entries, and of a later one at least one.
abbrev pub IsPast : List Line → ℕ → ℕ → ℕ → Type 0
IsPast ls asked zero part = part ≡ asked
IsPast [] asked (suc place) part = ⊥
IsPast (l ∷ ls) asked (suc place) part =
    (0 < asked) × (asks_count l ≤ asked) × IsPast ls (asked - asks_count l) place part

-- What is kept of a task with these lines is so far in them as its track says.
abbrev pub IsInLines : List Line → Kept → Type 0
IsInLines ls k = IsPast ls k.track.asked k.place k.part

-- what the lines of a task mean
abbrev pub meant : Lists → TaskId → List Line → List Meaning
meant lists t ls = map (meaning_of lists t) ls

-- whether the lines that a task passes before its next entry let it pass
abbrev pub passes : State → TaskId → List Meaning → ℕ → Bool
passes s t ls asked = list_all (lets_pass s t) (passed_behind asked ls)

-- How a task that has so many entries of its lines goes on: a WAIT line holds it, or no line asks any more, or it asks
-- this next, with the reply of the lists.
abbrev pub GoesOnBy : ℕ → State → TaskId → List Meaning → ℕ → Onward → Type 0
GoesOnBy limit s t ls asked onwards.Held = passes s t ls asked ≡ false
GoesOnBy limit s t ls asked onwards.Behind = (passes s t ls asked ≡ true) × (slice_get (asks_of ls) asked ≡ None)
GoesOnBy limit s t ls asked (onwards.Asks h) =
    (passes s t ls asked ≡ true) × (option_map (entry_for limit s t) (slice_get (asks_of ls) asked) ≡ Some h)
