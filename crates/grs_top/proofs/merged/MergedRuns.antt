-- Systems that ran beside each other: their merged events are a run.
use Rattle.std.proofs.Common.{◌≡◌, ◌<◌, ◌+◌, ℕ, zero, suc, List, [], ◌∷◌, length, map, get_or, Some, refl, ap, sym, ◌∙◌}
use Rattle.std.proofs.Common.{subst, arith}
use Rattle.std.specs.Prelude.{slice_get}
use Rattle.std.proofs.lemmas.List.{ext_get_or}
use Rattle.std.proofs.lemmas.Option.{slice_get-get_or, slice_get_within}
use Rattle.grs_bus.specs.Journal.{after_all, entries_of}
use Rattle.grs_history.specs.Merge.{quiet_fronts, by_journal, without_front, in_order, merged_steps}
use Rattle.grs_medium.specs.Medium.{MediumState, systems_of}
use Rattle.grs_node.specs.Log.{NodeView}
use Rattle.grs_workers.specs.Makes.{Makes}
use Rattle.grs_node.specs.Node.{NodeState, first_node}
use Rattle.grs_wire.specs.History.{answered}
use Rattle.grs_wire.specs.declared.deck.Deck.{Deck}
use Rattle.grs_wire.specs.declared.deck.SystemDef.{SystemDef}
use Rattle.grs_wire.specs.declared.medium.JEntry.{JEntry}
use Rattle.grs_world.specs.Running.{nodes_of}
use Rattle.grs_world.specs.World.{World, first_nodes, first_world}
use Rattle.grs_world.proofs.system.First.{systems_of-first}
use Rattle.grs_workers.specs.Beside.{AreServed, AreMade, RanBeside}
use Rattle.grs_top.specs.Beside.{logs_of, IsRun, MergedRuns}
use Rattle.grs_top.proofs.merged.Cuts.{Cut, Ends, ends}
use Rattle.grs_top.proofs.merged.Fronts.{Begun, All_Begun, fronts}
use Rattle.grs_top.proofs.merged.Shows.{Shows, shows-then}

first-at : (deck : Deck) (ds : List SystemDef) (s u : ℕ) (n : NodeState) → slice_get (first_nodes deck s ds) u ≡ Some n
    → n ≡ first_node deck (s + u)
first-at deck [] s u n at = absurd (cc)
first-at deck (d ∷ ds) s zero n at =
    let same : first_node deck s ≡ n = cc in
    let number : s ≡ s + 0 = omega arith in
    sym same ∙ ap (first_node deck) number
first-at deck (d ∷ ds) s (suc u) n at =
    let number : s + 1 + u ≡ s + suc u = omega arith in first-at deck ds (s + 1) u n at ∙ ap (first_node deck) number

first-count : (deck : Deck) (ds : List SystemDef) (s : ℕ) → length (first_nodes deck s ds) ≡ length ds
first-count deck [] s = refl
first-count deck (d ∷ ds) s = ap suc (first-count deck ds (s + 1))

pub count-nodes : (vs : List NodeView) → length (nodes_of vs) ≡ length vs
count-nodes [] = refl
count-nodes (v ∷ vs) = ap suc (count-nodes vs)

count-logs : (vs : List NodeView) → length (logs_of vs) ≡ length vs
count-logs [] = refl
count-logs (v ∷ vs) = ap suc (count-logs vs)

-- what the log of the system at a place makes of it
made-at : (deck : Deck) (journal : List JEntry) (vs : List NodeView) (s u : ℕ) (d : NodeState)
    → AreMade deck journal s vs → u < length vs
    → Makes deck (first_node deck (s + u)) (get_or (logs_of vs) u []) (entries_of (s + u) journal)
    (get_or (nodes_of vs) u d)
made-at deck journal [] s u d made below = absurd (omega (arith, below))
made-at deck journal (v ∷ vs) s zero d made below =
    let number : s ≡ s + 0 = omega arith in
    subst (λ k. Makes deck (first_node deck k) v.log (entries_of k journal) v.node) number made.0.makes
made-at deck journal (v ∷ vs) s (suc u) d made below =
    let number : s + 1 + u ≡ s + suc u = omega arith in
    subst (λ k.
    Makes deck (first_node deck k) (get_or (logs_of vs) u []) (entries_of k journal) (get_or (nodes_of vs) u d))
    number (made-at deck journal vs (s + 1) u d made.1 (omega (arith, below)))

module _ (deck : Deck) (m : MediumState) (journal : List JEntry) (vs : List NodeView)
    (h : RanBeside deck m journal vs) where
  count : ℕ
  count = length vs

  abbrev end : ℕ → NodeState
  end u = get_or (nodes_of vs) u (first_node deck 0)

  begun : Begun deck end (length vs) journal (first_world deck) (logs_of vs) 0
  unfolding first_world
  begun = record {
    systems = first-count deck deck.systems 0 ∙ sym h.count;
    left = count-logs vs;
    medium = refl;
    make = λ u n at.
        let below : u < length vs =
        subst (λ k. u < k) (first-count deck deck.systems 0 ∙ sym h.count)
        (slice_get_within (first_nodes deck 0 deck.systems) u n at) in
        let number : 0 + u ≡ u = omega arith in
        let first : n ≡ first_node deck u = first-at deck deck.systems 0 u n at ∙ ap (first_node deck) number in
        subst (λ (z : NodeState). Makes deck z (get_or (logs_of vs) u []) (entries_of u journal) (end u)) (sym first)
        (subst (λ k. Makes deck (first_node deck k) (get_or (logs_of vs) u []) (entries_of k journal) (end u)) number
        (made-at deck journal vs 0 u (first_node deck 0) h.made below));
    none_quiet = λ u below. absurd (omega (arith, below));
  }

  fronts_gone :
      All_Begun deck end (length vs) journal (first_world deck) (quiet_fronts 0 (logs_of vs))
      (map without_front (logs_of vs))
  fronts_gone = fronts deck end (length vs) journal (logs_of vs) [] (first_world deck) begun

  cut : Cut deck end (length vs) fronts_gone.world (map without_front (logs_of vs)) journal
  cut = let b = fronts_gone.begun in record {
    systems = b.systems;
    sized = ap systems_of b.medium ∙ systems_of-first (length deck.systems) deck.entries deck.star ∙ sym h.count;
    left = b.left;
    served = subst (λ (x : MediumState). AreServed x journal) (sym b.medium) h.served;
    make = b.make;
    none_quiet = b.none_quiet;
  }

  ended : Ends deck end (length vs) fronts_gone.world (by_journal (map without_front (logs_of vs)) journal) journal
  ended = ends deck end (length vs) journal fronts_gone.world (map without_front (logs_of vs)) cut

  shows : Shows deck (first_world deck) (in_order journal (logs_of vs)) ended.world
  shows =
      shows-then deck (first_world deck) fronts_gone.world ended.world (quiet_fronts 0 (logs_of vs))
      (by_journal (map without_front (logs_of vs)) journal) fronts_gone.shows ended.shows

  nodes : ended.world.nodes ≡ nodes_of vs
  nodes = ext_get_or (first_node deck 0) ended.world.nodes (nodes_of vs) (ended.systems ∙ sym (count-nodes vs))
      (λ u below.
      ended.nodes u (get_or ended.world.nodes u (first_node deck 0))
      (slice_get-get_or ended.world.nodes u (first_node deck 0) below))

  pub is_run : IsRun deck m vs (merged_steps journal (logs_of vs))
  unfolding first_world
  is_run = record {
    all_do = shows.all_do;
    medium =
        ap (λ (w : World). w.medium) shows.leads
        ∙ ended.medium
        ∙ ap (λ (x : MediumState). after_all x journal) fronts_gone.begun.medium
        ∙ sym h.medium;
    nodes = ap (λ (w : World). w.nodes) shows.leads ∙ nodes;
    hist = ap (λ (w : World). answered w.fixed) shows.leads ∙ ap answered shows.fixed;
    told = ap (λ (w : World). w.told) shows.leads ∙ shows.told;
  }

pub merged_runs : MergedRuns
merged_runs deck m journal vs h = is_run deck m journal vs h
