-- Worked logs in one order, by which the rules of merging are checked.
use Rattle.std.proofs.Common.{◌≡◌, ℕ, Bool, true, false, List, [], ◌∷◌, map, refl}
use Rattle.grs_base.specs.declared.decision.Code.TheVariants.{C00, Wait}
use Rattle.grs_base.specs.declared.resource.Ctl.TheVariants.{E}
use Rattle.grs_base.specs.declared.resource.Res.{Res}
use Rattle.grs_base.specs.declared.resource.Res.TheVariants as kinds
use Rattle.grs_base.specs.declared.resource.Ret.TheVariants.{RetNone}
use Rattle.grs_base.specs.declared.resource.SysId.{SysId}
use Rattle.grs_base.specs.declared.resource.TaskId.{TaskId}
use Rattle.grs_wire.specs.declared.deck.Choice.{Choice}
use Rattle.grs_wire.specs.declared.deck.Choice.TheVariants.{Turn, Take, Settle, Rest}
use Rattle.grs_wire.specs.declared.deck.Event.{Event}
use Rattle.grs_wire.specs.declared.history.HistEntry.TheVariants.{Enq}
use Rattle.grs_wire.specs.declared.log.StepDone.{StepDone}
use Rattle.grs_wire.specs.declared.medium.Act.TheVariants as acts
use Rattle.grs_wire.specs.declared.medium.JEntry.{JEntry}
use Rattle.grs_wire.specs.declared.medium.Reply.TheVariants.{Empty}
use Rattle.grs_wire.specs.declared.request.Fixed.TheVariants.{Asked}
use Rattle.grs_wire.specs.declared.request.Want.TheVariants as wants
use Rattle.grs_wire.specs.declared.told.ToldLine.TheVariants.{Ended}
use Rattle.grs_history.specs.Merge.{in_order, event_of, merged}

abbrev sys : ℕ → SysId
sys s = record { 0 = s }

abbrev task : ℕ → TaskId
task s = record { system = sys s; job = 0; task = 0 }

abbrev step : Choice → Bool → StepDone
step choice journalled = record { choice = choice; journalled = journalled; fixed = []; told = [] }

-- An entry of this system. Its call and its reply decide nothing here.
abbrev entry : ℕ → JEntry
entry s = record { system = sys s; call = record { known = 0; act = acts.Take }; reply = Empty }

abbrev event : ℕ → Choice → Event
event s choice = record { system = sys s; choice = choice }

events : List JEntry → List (List StepDone) → List Event
events journal logs = map event_of (in_order journal logs)

-- The quiet steps before any of the journal come first, system by system; then each of the journal's in its order, and
-- the quiet ones behind it.
orders :
    (events (entry 1 ∷ entry 0 ∷ entry 1 ∷ []) ((step Settle false ∷ step Turn true ∷ step Take false ∷ [])
    ∷ (step Turn false ∷ step Rest true ∷ step Settle false ∷ step Take true ∷ []) ∷ [])
    ≡ event 0 Settle ∷ event 1 Turn ∷ event 1 Rest ∷ event 1 Settle ∷ event 0 Turn ∷ event 0 Take ∷ event 1 Take ∷ [])
    × (events (entry 0 ∷ entry 1 ∷ entry 1 ∷ []) ((step Settle false ∷ step Turn true ∷ step Take false ∷ [])
    ∷ (step Turn false ∷ step Rest true ∷ step Settle false ∷ step Take true ∷ []) ∷ [])
    ≡ event 0 Settle ∷ event 1 Turn ∷ event 0 Turn ∷ event 0 Take ∷ event 1 Rest ∷ event 1 Settle ∷ event 1 Take ∷ [])
    × (events [] ((step Settle false ∷ []) ∷ [] ∷ (step Turn false ∷ []) ∷ []) ≡ event 0 Settle ∷ event 2 Turn ∷ [])
unfolding events
orders = (refl, refl, refl)

-- A step in which the task of a system asks for a resource of the whole complex and is told an end.
abbrev res : Res
res = kinds.Systems (65 ∷ []) (66 ∷ [])

abbrev asking : ℕ → StepDone
asking s = record {
  choice = Take;
  journalled = true;
  fixed = Asked (record { task = task s; want = wants.Enq res E RetNone false }) ∷ [];
  told = Ended (task s) s ∷ [];
}

-- The history goes by the order of the journal, and so do the replies of the lists; a line has the number of its event.
shows :
    merged (entry 1 ∷ entry 0 ∷ [])
    (record { steps = step Settle false ∷ asking 0 ∷ [] } ∷ record { steps = asking 1 ∷ [] } ∷ [])
    ≡ record {
      events = event 0 Settle ∷ event 1 Take ∷ event 0 Take ∷ [];
      hist = Enq (task 1) res E RetNone C00 ∷ Enq (task 0) res E RetNone Wait ∷ [];
      told =
          record { event = 2; system = sys 1; line = Ended (task 1) 1 }
          ∷ record { event = 3; system = sys 0; line = Ended (task 0) 0 } ∷ [];
    }
shows = refl
