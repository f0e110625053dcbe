-- What a line that shows lists does at its system, on examples: each is what the rules of the service give by hand.
use Rattle.std.proofs.Common.{◌≡◌, ℕ, List, [], ◌∷◌, Option, Some, None, refl, codes}
use Rattle.grs_base.specs.State.{State}
use Rattle.grs_base.specs.declared.decision.Code.TheVariants.{C00, C04}
use Rattle.grs_base.specs.declared.look.Filter.TheVariants.{All}
use Rattle.grs_base.specs.declared.resource.Ctl.TheVariants.{E}
use Rattle.grs_base.specs.declared.resource.Elem.{Elem}
use Rattle.grs_base.specs.declared.resource.Res.{Res}
use Rattle.grs_base.specs.declared.resource.Res.TheVariants.{System}
use Rattle.grs_base.specs.declared.resource.Row.{Row}
use Rattle.grs_base.specs.declared.resource.SysId.{SysId}
use Rattle.grs_base.specs.declared.resource.TaskId.{TaskId}
use Rattle.grs_legal.specs.declared.meaning.Display.{Display}
use Rattle.grs_node.specs.Node.{NodeState, show}
use Rattle.grs_node.specs.Star.{StarPart, first_part}
use Rattle.grs_wire.specs.declared.request.Fixed.TheVariants as fixes
use Rattle.grs_wire.specs.declared.request.Req.{Req}
use Rattle.grs_wire.specs.declared.request.Want.TheVariants.{Look}
use Rattle.grs_wire.specs.declared.told.ToldLine.{ToldLine}
use Rattle.grs_wire.specs.declared.told.ToldLine.TheVariants as told
use Rattle.grs_wire.specs.declared.told.Verb.TheVariants as verbs
use Rattle.task_state.specs.Replies.{tell_rows}
use Rattle.task_state.specs.View.{state_of, with_state, with_phase, with_outstanding, with_rows, without_rows, telling}
use Rattle.task_state.specs.declared.state.Asked.{Asked}
use Rattle.task_state.specs.declared.state.Phase.{Phase}
use Rattle.task_state.specs.declared.state.Phase.TheVariants as phases
use Rattle.task_state.specs.declared.state.TaskState.{TaskState}

abbrev system : SysId
system = record { 0 = 0 }

abbrev task : TaskId
task = record { system = system; job = 0; task = 0 }

-- the only list of the system's own: (A,B), which its task owns
abbrev ab : Res
ab = System system (codes "A") (codes "B")

abbrev owner : Elem
owner = record { task = task; ctl = E }

abbrev own : State
own = (ab, owner) ∷ []

abbrev row : Row
row = record { res = ab; elems = owner ∷ []; owners = 1 }

-- the system with its task at its first line
abbrev at : Option StarPart → State → List Req → Phase → Option Asked → List Row → List ToldLine → NodeState
at star lists outbox phase asked rows lines = record {
  tasks = record {
    system = 0;
    tasks =
        record { line = 1; phase = phase; code = 0; records = []; outstanding = asked; rows = rows } ∷ [];
    told = lines;
  };
  own = lists;
  shared = [];
  outbox = outbox;
  star = star;
  known = 0;
  done = 0;
}

-- a GQSCAN of the system's own lists, if of any, and of so many slices from the 52nd on
abbrev scan : Option SysId → ℕ → Display
scan home count = record { verb = verbs.Gqscan; home = home; first = 52; count = count; filter = All }

abbrev asked : ℕ → ℕ → Asked
asked count left = record {
  req = record { task = task; want = Look 52 count All };
  unit = None;
  showing = Some (record { verb = verbs.Gqscan; left = left });
}

-- one of the system's own lists alone is told at once, with what its look shows; that look is fixed
own_alone : show (at None own [] phases.Ready None [] []) task (scan (Some system) 0) ≡ record {
  node = at None own [] phases.Ready None [] (told.Shown task 1 verbs.Gqscan C00 (row ∷ []) ∷ []);
  fixed = fixes.LocalLook task All ∷ [];
}
unfolding show tell_rows state_of with_state with_rows without_rows telling
own_alone = refl

none_own : show (at None [] [] phases.Ready None [] []) task (scan (Some system) 0) ≡ record {
  node = at None [] [] phases.Ready None [] (told.Shown task 1 verbs.Gqscan C04 [] ∷ []);
  fixed = fixes.LocalLook task All ∷ [];
}
unfolding show tell_rows state_of with_state with_rows without_rows telling
none_own = refl

-- In a ring one request asks for all slices, and waits to be put into the message; what the own look showed stays with
-- the task until then.
in_ring : show (at None own [] phases.Ready None [] []) task (scan (Some system) 2) ≡ record {
  node = at None own ((asked 2 0).req ∷ []) phases.ToSend (Some (asked 2 0)) (row ∷ []) [];
  fixed = fixes.LocalLook task All ∷ [];
}
unfolding show state_of with_state with_phase with_outstanding with_rows
in_ring = refl

-- In star mode each slice is asked for by itself, the first of them first; this one looks at no own lists.
abbrev part : Option StarPart
part = Some (first_part system 1)

in_star : show (at part own [] phases.Ready None [] []) task (scan None 2) ≡ record {
  node = at part own [] phases.ToSend (Some (asked 1 1)) [] [];
  fixed = [];
}
unfolding show state_of with_state with_phase with_outstanding
in_star = refl
