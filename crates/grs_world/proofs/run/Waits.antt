-- In each world that a run reaches the message waits for live systems alone.
use Rattle.grs_world.proofs.Common.{Call, carry_out, chosen, Deck, Event, first_world, happens, length, List, NodeState}
use Rattle.grs_world.proofs.Common.{Nothing, prepare, Prepared, Quiet, run, WaitsForLive, World}
use Rattle.grs_medium.proofs.GoesOn.{call_goes, start_waits}
use Rattle.grs_world.proofs.run.Each.{each_medium, each_run}

-- an event keeps it, in whatever world
pub event_waits : (deck : Deck) (w : World) (e : Event) → WaitsForLive w.medium → WaitsForLive (happens deck w e).medium
unfolding chosen carry_out
event_waits deck w e waits =
    each_medium deck w e WaitsForLive waits (λ n at alive. by_call n (prepare deck n e.choice))
  where
    by_call : (n : NodeState) (p : Prepared) → WaitsForLive (carry_out deck w.medium e.system n e.choice p).medium
    by_call n Nothing = waits
    by_call n Quiet = waits
    by_call n (Call call) = call_goes w.medium e.system call waits

pub run_waits : (deck : Deck) (es : List Event) → WaitsForLive (run deck es).medium
unfolding first_world
run_waits deck es =
    each_run deck (λ us w. WaitsForLive w.medium) (start_waits (length deck.systems) deck.entries deck.star)
    (λ us e w. event_waits deck (run deck us) e w) es

pub ruleset waiting = (event_waits)
