-- What the run of merged events shows.
use Rattle.std.proofs.Common.{◌≡◌, List, sym, ap}
use Rattle.grs_base.specs.Rows.{rows_of}
use Rattle.grs_history.specs.declared.order.Merged.{Merged}
use Rattle.grs_medium.specs.Medium.{MediumState}
use Rattle.grs_node.specs.Log.{NodeView}
use Rattle.grs_node.specs.Node.{NodeState}
use Rattle.grs_wire.specs.History.{replay}
use Rattle.grs_wire.specs.declared.deck.Deck.{Deck}
use Rattle.grs_wire.specs.declared.history.HistEntry.{HistEntry}
use Rattle.grs_world.specs.Running.{nodes_of, units_of}
use Rattle.grs_top.specs.Beside.{IsRun}
use Rattle.grs_top.specs.Seen.{seen_of_run}
use Rattle.deck_tasks.specs.Tasks.{tasks_of}
use Rattle.grs_top.specs.Tasks.{ends_at}

-- what is seen of the medium, of the systems and of what they show together is what is seen of the run
pub seen_is : (deck : Deck) (m : MediumState) (vs : List NodeView) (x : Merged) → IsRun deck m vs x
    → record {
      events = x.events;
      hist = x.hist;
      told = x.told;
      queues = rows_of (replay deck.limit x.hist);
      units = units_of (nodes_of vs);
      words = m.words;
      star = m.star;
      ended = ends_at m.removed (nodes_of vs) (tasks_of deck);
    }
    ≡ seen_of_run deck x.events
unfolding seen_of_run
seen_is deck m vs x r = λ i. record {
  events = x.events;
  hist = sym r.hist i;
  told = sym r.told i;
  queues = ap (λ (h : List HistEntry). rows_of (replay deck.limit h)) (sym r.hist) i;
  units = ap (λ (ns : List NodeState). units_of ns) (sym r.nodes) i;
  words = ap (λ (y : MediumState). y.words) (sym r.medium) i;
  star = ap (λ (y : MediumState). y.star) (sym r.medium) i;
  ended = ends_at (ap (λ (y : MediumState). y.removed) (sym r.medium) i) (sym r.nodes i) (tasks_of deck);
}
