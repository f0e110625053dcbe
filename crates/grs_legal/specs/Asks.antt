-- What the lines of a task ask.
use Rattle.std.specs.Prelude.{ℕ, zero, suc, Bool, true, false, if◌then◌else◌, ◌==◌, List, [], ◌∷◌, ◌++◌, length, map}
use Rattle.std.specs.Prelude.{cond, Option, Some, None, slice_get}
use Rattle.grs_base.specs.declared.resource.Ctl.{Ctl}
use Rattle.grs_base.specs.declared.resource.Ret.{Ret}
use Rattle.grs_base.specs.declared.resource.Res.{Res}
use Rattle.grs_base.specs.declared.resource.TaskId.{TaskId}
use Rattle.grs_base.specs.declared.line.Scope.{Scope}
use Rattle.grs_base.specs.declared.line.Scope.TheVariants.{Systems}
use Rattle.grs_base.specs.declared.line.Line.{Line}
use Rattle.grs_base.specs.declared.line.Line.TheVariants as lines
use Rattle.grs_base.specs.declared.look.Place.{Place}
use Rattle.grs_base.specs.declared.look.Place.TheVariants.{Slice, Local}
use Rattle.grs_base.specs.declared.look.Filter.{Filter}
use Rattle.grs_base.specs.declared.look.Filter.TheVariants.{Contended, Named}
use Rattle.grs_base.specs.declared.resource.SysId.{SysId}
use Rattle.grs_base.specs.Slices.{slice_of}
use Rattle.grs_base.specs.declared.rnl.Lists.{Lists}
use Rattle.grs_wire.specs.declared.deck.Deck.{Deck}
use Rattle.grs_wire.specs.declared.deck.SystemDef.{SystemDef}
use Rattle.grs_wire.specs.declared.deck.JobDef.{JobDef}
use Rattle.grs_wire.specs.declared.deck.TaskDef.{TaskDef}
use Rattle.grs_wire.specs.declared.told.Verb.TheVariants as verbs
use Rattle.scope_resolve.specs.declared.decide.Resolved.{Resolved}
use Rattle.scope_resolve.specs.Resolve.{resolved}
use Rattle.grs_legal.specs.declared.meaning.Display.{Display}
use Rattle.grs_legal.specs.declared.meaning.Meaning.{Meaning}
use Rattle.grs_legal.specs.declared.meaning.Meaning.TheVariants.{Enq, Deq, Wait, Shows, Nothing}

-- what is asked, without its answer
pub data Ask : Type 0 where
  AsksEnq : (res : Res) → (ctl : Ctl) → (ret : Ret) → Ask
  AsksDeq : (res : Res) → (have : Bool) → Ask
  AsksRelease : (res : Res) → Ask
  AsksLook : (place : Place) → (filter : Filter) → Ask

-- the resource of two names in a task's line
abbrev pub named : Lists → TaskId → Scope → List ℕ → List ℕ → Bool → Res
named lists t scope q r rnl = (resolved lists false scope rnl t.system t.job q r).res

-- what a RESERVE means that was resolved like this: it has its unit where it also reserves in hardware
abbrev pub reserved : Resolved → Ctl → ℕ → Ret → Meaning
reserved found ctl unit ret = Enq found.res ctl ret (if found.hardware then Some unit else None)

-- a GQSCAN looks at the lists of the task's system, or at all slices
abbrev pub scan_of : TaskId → Bool → Filter → Display
scan_of t true f = record { verb = verbs.Gqscan; home = None; first = 0; count = 64; filter = f }
scan_of t false f = record { verb = verbs.Gqscan; home = Some t.system; first = 0; count = 0; filter = f }

-- what a line means: a RESERVE asks as an ENQ does, and DEQ and WAIT resolve as ENQ does; a DISPLAY looks at the lists
-- of the task's system, and then at all slices for those on which somebody waits, or at the slice of a name
abbrev pub meaning_of : Lists → TaskId → Line → Meaning
meaning_of lists t (lines.Enq [] ret rnl) = Nothing
meaning_of lists t (lines.Enq (i ∷ more) ret rnl) = Enq (named lists t i.scope i.q i.r rnl) i.ctl ret None
meaning_of lists t (lines.Reserve q r ctl unit ret rnl) =
    reserved (resolved lists true Systems rnl t.system t.job q r) ctl unit ret
meaning_of lists t (lines.Deq q r scope have unit rnl) = Deq (named lists t scope q r rnl) have
meaning_of lists t (lines.Wait q r scope rnl) = Wait (named lists t scope q r rnl)
meaning_of lists t (lines.Gqscan global filter) = Shows (scan_of t global filter)
meaning_of lists t lines.DisplayC =
    Shows (record { verb = verbs.Display; home = Some t.system; first = 0; count = 64; filter = Contended })
meaning_of lists t (lines.DisplayRes q r) =
    Shows (record {
      verb = verbs.Display;
      home = Some t.system;
      first = slice_of q r;
      count = 1;
      filter = Named (Some q) (Some r);
    })

-- a look at the own lists of a system, if there is one
abbrev pub home_asks : Option SysId → Filter → List Ask
home_asks None f = []
home_asks (Some s) f = AsksLook (Local s) f ∷ []

-- a look at each of so many slices, from this one on
abbrev pub slice_asks : ℕ → ℕ → Filter → List Ask
slice_asks first zero f = []
slice_asks first (suc count) f = AsksLook (Slice first) f ∷ slice_asks (suc first) count f

-- what a line asks that shows lists
abbrev pub looks_in : Display → List Ask
looks_in d = home_asks d.home d.filter ++ slice_asks d.first d.count d.filter

-- what is asked by a line that means this, in order
abbrev pub asks_in : Meaning → List Ask
asks_in (Enq r c ret unit) = AsksEnq r c ret ∷ []
asks_in (Deq r have) = AsksDeq r have ∷ []
asks_in (Wait r) = []
asks_in (Shows d) = looks_in d
asks_in Nothing = []

-- what these lines ask, in order
abbrev pub asks_of : List Meaning → List Ask
asks_of [] = []
asks_of (l ∷ ls) = asks_in l ++ asks_of ls

-- whether a line asks nothing
abbrev pub is_silent : Meaning → Bool
is_silent l = length (asks_in l) == 0

-- the place of a task's job, and the task's lines
pub record Script : Type 0 where
  pub job : ℕ
  pub lines : List Line

-- the scripts of the tasks of one job
abbrev pub scripts_in : ℕ → List TaskDef → List Script
scripts_in job tasks = map (λ x. record { job = job; lines = x.lines }) tasks

-- the scripts of the tasks of these jobs, of which the first has this place
abbrev pub scripts_from : ℕ → List JobDef → List Script
scripts_from job [] = []
scripts_from job (j ∷ js) = scripts_in job j.tasks ++ scripts_from (suc job) js

-- the scripts of a system's tasks
abbrev pub scripts_at : Option SystemDef → List Script
scripts_at None = []
scripts_at (Some s) = scripts_from 0 s.jobs

-- the scripts of all tasks of a system, in order
abbrev pub scripts_of : Deck → ℕ → List Script
scripts_of deck n = scripts_at (slice_get deck.systems n)

-- the lines of a script, where its job has this place
abbrev pub lines_at : ℕ → Option Script → Option (List Line)
lines_at job None = None
lines_at job (Some s) = cond (s.job == job) (Some s.lines) None

-- the lines of a task among the scripts of its system
abbrev pub lines_in : List Script → TaskId → Option (List Line)
lines_in scripts t = lines_at t.job (slice_get scripts t.task)

-- what the lines of a task mean, where it has lines
abbrev pub meanings : Lists → TaskId → Option (List Line) → Option (List Meaning)
meanings lists t None = None
meanings lists t (Some ls) = Some (map (meaning_of lists t) ls)

-- what the lines of a task of the deck mean
abbrev pub lines_of : Deck → TaskId → Option (List Meaning)
lines_of deck t = meanings deck.lists t (lines_in (scripts_of deck t.system.0) t)
