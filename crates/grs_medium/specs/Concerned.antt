-- Whom a call concerns, so that whoever sleeps is woken: the systems which it may have given something to do.
use Rattle.std.specs.Prelude.{ℕ, Bool, cond, ◌&&◌, Option, Some, None}
use Rattle.grs_base.specs.declared.resource.SysId.{SysId}
use Rattle.grs_wire.specs.declared.medium.Act.{Act}
use Rattle.grs_wire.specs.declared.medium.Act.TheVariants.{Turn, Switch, Submit, Take, Settle, Tell, Leave, Purge, Rest}
use Rattle.grs_wire.specs.Masks.{only, others}
use Rattle.lock_structure.specs.Words.{route}
use Rattle.lock_structure.specs.declared.word.Route.{Route}
use Rattle.lock_structure.specs.declared.word.Route.TheVariants.{Sole, To}
use Rattle.grs_medium.specs.Medium.{MediumState, systems_of, all_rest, medium_at_end, word}

-- the set of a system, if it is one
abbrev pub just : Option SysId → ℕ
just None = 0
just (Some s) = only s.0

-- whom a request goes to
abbrev pub addressee : Route → ℕ
addressee Sole = 0
addressee (To s) = only s.0

-- all systems, the removed ones too
abbrev pub everybody : MediumState → ℕ
everybody m = others (systems_of m) 0

-- whether all systems that aren't removed have come to rest, and nothing is left to do
abbrev pub is_over : MediumState → Bool
is_over m = all_rest m && medium_at_end m

-- Whom an act of c concerns that changed the medium, which now is m: behind a Turn the system at which the message
-- stands, behind a request, a Settle and a Tell whoever got the mail, and everybody behind a Switch, a Purge, and the
-- Rest by which all is over.
abbrev pub concerned : MediumState → SysId → Act → ℕ
concerned m c (Turn out) = just m.message.holder
concerned m c (Switch words) = everybody m
concerned m c (Submit entry req) = addressee (route (word m entry) c)
concerned m c Take = 0
concerned m c (Settle to mail) = only to.0
concerned m c (Tell to mail) = only to.0
concerned m c (Leave entry) = 0
concerned m c (Purge target) = everybody m
concerned m c Rest = cond (is_over m) (everybody m) 0
