-- Systems that ran beside each other, cut between two entries of their journal: the world that their steps so far lead
-- to, and what is left of their logs.
use Rattle.std.proofs.Common.{◌≡◌, ◌≢◌, ◌<◌, ◌⊎◌, ℕ, suc, Bool, true, false, cond, List, [], ◌∷◌, length, take, drop}
use Rattle.std.proofs.Common.{get_or, Some, refl, ap, sym, ◌∙◌, subst, inl, inr, length-set}
use Rattle.std.specs.Prelude.{slice_get, set, ◌==◌}
use Rattle.std.proofs.lemmas.Bool.{eq-eqb, ne_eqb}
use Rattle.std.proofs.lemmas.Bool.Decides.{eqb_tells}
use Rattle.std.proofs.lemmas.List.{get_or-set_same, get_or-set_other}
use Rattle.std.proofs.lemmas.Option.{slice_get-get_or, slice_get_within}
use Rattle.grs_base.specs.declared.resource.SysId.{SysId}
use Rattle.grs_bus.specs.Journal.{after_all, entries_of}
use Rattle.grs_history.specs.Merge.{Step, steps_by, quiet_count, run_count, rest_of, by_journal}
use Rattle.grs_known.proofs.lists.Facts.{slice_get-set, slice_get-set_other, filter-cons_kept, filter-cons_left}
use Rattle.grs_medium.proofs.KeptSizes.{keeps_systems}
use Rattle.grs_medium.specs.Apply.{reply_to, medium_after}
use Rattle.grs_medium.specs.Medium.{MediumState, systems_of}
use Rattle.grs_workers.specs.Makes.{IsJournalled, Makes}
use Rattle.grs_node.specs.Node.{NodeState, first_node, prepare, finish}
use Rattle.grs_wire.specs.Masks.{has}
use Rattle.grs_wire.specs.declared.deck.Deck.{Deck}
use Rattle.grs_wire.specs.declared.log.StepDone.{StepDone}
use Rattle.grs_wire.specs.declared.medium.JEntry.{JEntry}
use Rattle.grs_wire.specs.declared.medium.Reply.{Reply}
use Rattle.grs_world.specs.World.{World, Turnout, chosen, carry_out, placed}
use Rattle.grs_workers.specs.Beside.{AreServed}
use Rattle.grs_top.proofs.merged.Live.{stays_there, was_there}
use Rattle.grs_top.proofs.merged.Quiet.{GoesOn, goes_on, no_quiet, set-again}
use Rattle.grs_top.proofs.merged.Shows.{Shows, shows-none, shows-then, shows-one, some-call, placed-medium}
use Rattle.grs_top.proofs.merged.Shows.{placed-nodes}

-- the entries of a system behind one of its own, and behind one of another system
pub entries-own : (s : ℕ) (e : JEntry) (es : List JEntry) → e.system.0 ≡ s → entries_of s (e ∷ es) ≡ e ∷ entries_of s es
entries-own s e es is = filter-cons_kept (λ (x : JEntry). x.system.0 == s) e es (eq-eqb e.system.0 s is)

pub entries-other : (s : ℕ) (e : JEntry) (es : List JEntry) → e.system.0 ≢ s → entries_of s (e ∷ es) ≡ entries_of s es
entries-other s e es ne = filter-cons_left (λ (x : JEntry). x.system.0 == s) e es (ne_eqb e.system.0 s ne)

-- a log that begins with a journalled step, where another entry comes
record Next (deck : Deck) (n : NodeState) (log : List StepDone) (e : JEntry) (es : List JEntry) (end : NodeState) :
    Type 0 where
  step : StepDone
  behind : List StepDone
  is : log ≡ step ∷ behind
  after : NodeState
  journalled : IsJournalled deck n step e after
  makes : Makes deck after behind es end

next_of : (deck : Deck) (n : NodeState) (log : List StepDone) (e : JEntry) (es : List JEntry) (end : NodeState)
    → quiet_count log ≡ 0 → Makes deck n log (e ∷ es) end → Next deck n log e es end
next_of deck n [] e es end none makes = let clash : e ∷ es ≡ [] = makes.0 in absurd (cc)
next_of deck n (x ∷ log) e es end none (inl q) =
    let quiet : x.journalled ≡ false = ap (λ (y : StepDone). y.journalled) q.1.step in
    let clash : suc (quiet_count log) ≡ 0 = sym (ap (λ (b : Bool). cond b 0 (suc (quiet_count log))) quiet) ∙ none in
    absurd (cc)
next_of deck n (x ∷ log) e es end none (inr j) =
    let first : e ≡ j.0 = cc in
    let rest : es ≡ j.1 = cc in
    record {
      step = x;
      behind = log;
      is = refl;
      after = j.3;
      journalled = subst (λ (y : JEntry). IsJournalled deck n x y j.3) (sym first) j.4;
      makes = subst (λ (ys : List JEntry). Makes deck j.3 log ys end) (sym rest) j.5;
    }

-- where no entry comes any more nothing is left of a log that has no quiet step in front
last_of : (deck : Deck) (n : NodeState) (log : List StepDone) (end : NodeState) → quiet_count log ≡ 0
    → Makes deck n log [] end → n ≡ end
last_of deck n [] end none makes = sym makes.1
last_of deck n (x ∷ log) end none (inl q) =
    let quiet : x.journalled ≡ false = ap (λ (y : StepDone). y.journalled) q.1.step in
    let clash : suc (quiet_count log) ≡ 0 = sym (ap (λ (b : Bool). cond b 0 (suc (quiet_count log))) quiet) ∙ none in
    absurd (cc)
last_of deck n (x ∷ log) end none (inr j) = let clash : [] ≡ j.0 ∷ j.1 = j.2 in absurd (cc)

-- what a journalled step leads to
pub journalled-choice :
    (deck : Deck) (m : MediumState) (s : SysId) (n : NodeState) (x : StepDone) (e : JEntry) (k : NodeState)
    → IsJournalled deck n x e k → e.reply ≡ reply_to m s e.call
    → chosen deck m s n x.choice
    ≡ record { medium = medium_after m s e.call; step = finish deck n x.choice (Some e.reply) }
unfolding chosen carry_out
journalled-choice deck m s n x e k j reply =
    ap (carry_out deck m s n x.choice) j.prepared
    ∙ ap (λ (r : Reply). record { medium = medium_after m s e.call; step = finish deck n x.choice (Some r) })
    (sym reply)

module _ (deck : Deck) (end : ℕ → NodeState) (count : ℕ) where
  -- Of each system what is left of its log makes it what it is in the end, with its entries that come.
  abbrev pub Make : World → List (List StepDone) → List JEntry → Type 0
  Make w logs es =
      (u : ℕ) (n : NodeState) → slice_get w.nodes u ≡ Some n → Makes deck n (get_or logs u []) (entries_of u es) (end u)

  -- of one system the log goes on
  pub make-set :
      (w v : World) (logs : List (List StepDone)) (es fs : List JEntry) (s : ℕ) (n k : NodeState) (log : List StepDone)
      → slice_get w.nodes s ≡ Some n → s < length logs → v.nodes ≡ set w.nodes s k
      → Makes deck k log (entries_of s fs) (end s) → ((u : ℕ) → u ≢ s → entries_of u es ≡ entries_of u fs)
      → Make w logs es → Make v (set logs s log) fs
  make-set w v logs es fs s n k log at inside nodes makes others make u m there = by_place (eqb_tells u s)
    where
      by_place : (((u == s) ≡ true) × (u ≡ s)) ⊎ (((u == s) ≡ false) × (u ≢ s))
          → Makes deck m (get_or (set logs s log) u []) (entries_of u fs) (end u)
      by_place (inl is) =
          let here : Some k ≡ Some m =
          sym (slice_get-set w.nodes s n k at)
          ∙ ap (λ i. slice_get (set w.nodes s k) i) (sym is.1)
          ∙ ap (λ ns. slice_get ns u) (sym nodes)
          ∙ there in
          let same : k ≡ m = cc in
          let left : get_or (set logs s log) s [] ≡ log = get_or-set_same logs s log [] inside in
          subst (λ i. Makes deck m (get_or (set logs s log) i []) (entries_of i fs) (end i)) (sym is.1)
          (subst (λ (l : List StepDone). Makes deck m l (entries_of s fs) (end s)) (sym left)
          (subst (λ (z : NodeState). Makes deck z log (entries_of s fs) (end s)) same makes))
      by_place (inr is) =
          let here : slice_get w.nodes u ≡ Some m =
          sym (slice_get-set_other w.nodes s u k is.1) ∙ ap (λ ns. slice_get ns u) (sym nodes) ∙ there in
          let left : get_or (set logs s log) u [] ≡ get_or logs u [] = get_or-set_other logs s u log [] is.1 in
          subst (λ (l : List StepDone). Makes deck m l (entries_of u fs) (end u)) (sym left)
          (subst (λ (l : List JEntry). Makes deck m (get_or logs u []) l (end u)) (others u is.1) (make u m here))

  pub record Cut (w : World) (logs : List (List StepDone)) (es : List JEntry) : Type 0 where
    pub systems : length w.nodes ≡ count
    pub sized : systems_of w.medium ≡ count
    pub left : length logs ≡ count
    pub served : AreServed w.medium es
    pub make : Make w logs es
    -- no log has a quiet step in front
    pub none_quiet : (u : ℕ) → u < count → quiet_count (get_or logs u []) ≡ 0

  -- These steps lead to the end of all systems, and the entries to the medium there.
  pub record Ends (w : World) (xs : List Step) (es : List JEntry) : Type 0 where
    pub world : World
    pub shows : Shows deck w xs world
    pub medium : world.medium ≡ after_all w.medium es
    pub systems : length world.nodes ≡ count
    pub nodes : (u : ℕ) (n : NodeState) → slice_get world.nodes u ≡ Some n → n ≡ end u

  -- an entry of the journal, with the quiet steps behind it
  pub record Further (w : World) (logs : List (List StepDone)) (e : JEntry) (es : List JEntry) : Type 0 where
    pub world : World
    pub shows :
        Shows deck w (steps_by e.system (take (run_count (rest_of logs e.system)) (rest_of logs e.system))) world
    pub medium : world.medium ≡ medium_after w.medium e.system e.call
    pub cut : Cut world (set logs e.system.0 (drop (run_count (rest_of logs e.system)) (rest_of logs e.system))) es

  module _ (w : World) (logs : List (List StepDone)) (e : JEntry) (es : List JEntry) (c : Cut w logs (e ∷ es))
      (n : NodeState) (at : slice_get w.nodes e.system.0 ≡ Some n) where
    inside : e.system.0 < count
    inside = subst (λ k. e.system.0 < k) c.systems (slice_get_within w.nodes e.system.0 n at)

    within : e.system.0 < length logs
    within = subst (λ k. e.system.0 < k) (sym c.left) inside

    there : has w.medium.removed e.system.0 ≡ false
    there = was_there w.medium e.system e.call (λ is. c.served.0.there (c.served.0.reply ∙ is))

    -- what the entry's step leads to
    abbrev called : StepDone → Turnout
    called x = record { medium = medium_after w.medium e.system e.call; step = finish deck n x.choice (Some e.reply) }

    -- and what the quiet ones behind it do
    by_quiet : (next : Next deck n (rest_of logs e.system) e (entries_of e.system.0 es) (end e.system.0))
        → GoesOn deck (placed w e.system n (called next.step)) e.system next.behind (quiet_count next.behind)
        (entries_of e.system.0 es) (end e.system.0)
        → Further w logs e es
    by_quiet next g =
        let out : Turnout = called next.step in
        let v : World = placed w e.system n out in
        let log : List StepDone = rest_of logs e.system in
        let nodes : g.world.nodes ≡ set w.nodes e.system.0 g.node =
        g.nodes
        ∙ ap (λ ns. set ns e.system.0 g.node) (placed-nodes w e.system n out)
        ∙ set-again w.nodes e.system.0 _ g.node in
        let medium : g.world.medium ≡ medium_after w.medium e.system e.call =
        g.medium ∙ placed-medium w e.system n out in
        let first : Shows deck w ((e.system, next.step) ∷ []) v =
        shows-one deck w e.system next.step n out at there
        (some-call (prepare deck n next.step.choice) e.call next.journalled.prepared)
        (journalled-choice deck w.medium e.system n next.step e next.after next.journalled c.served.0.reply)
        (ap (λ (y : StepDone). y.fixed) next.journalled.step) (ap (λ (y : StepDone). y.told) next.journalled.step) in
        let all :
        Shows deck w (steps_by e.system (take (run_count (next.step ∷ next.behind)) (next.step ∷ next.behind)))
        g.world =
        shows-then deck w v g.world ((e.system, next.step) ∷ [])
        (steps_by e.system (take (quiet_count next.behind) next.behind)) first g.shows in
        let rest : drop (run_count log) log ≡ drop (quiet_count next.behind) next.behind =
        ap (λ (l : List StepDone). drop (run_count l) l) next.is in
        record {
          world = g.world;
          shows =
              subst (λ (l : List StepDone). Shows deck w (steps_by e.system (take (run_count l) l)) g.world)
              (sym next.is) all;
          medium = medium;
          cut = record {
            systems = ap length nodes ∙ length-set w.nodes e.system.0 g.node ∙ c.systems;
            sized = ap systems_of medium ∙ keeps_systems w.medium e.system e.call c.served.0.may_call.1 ∙ c.sized;
            left = length-set logs e.system.0 _ ∙ c.left;
            served = subst (λ (m : MediumState). AreServed m es) (sym medium) c.served.1;
            make = make-set w g.world logs (e ∷ es) es e.system.0 n g.node (drop (run_count log) log) at within nodes
                (subst (λ (l : List StepDone). Makes deck g.node l (entries_of e.system.0 es) (end e.system.0))
                (sym rest) g.makes)
                (λ u ne. entries-other u e es (λ is. ne (sym is))) c.make;
            none_quiet = λ u below. by_place u below (eqb_tells u e.system.0);
          };
        }
      where
        by_place : (u : ℕ) → u < count
            → (((u == e.system.0) ≡ true) × (u ≡ e.system.0)) ⊎ (((u == e.system.0) ≡ false) × (u ≢ e.system.0))
            → quiet_count
            (get_or (set logs e.system.0 (drop (run_count (rest_of logs e.system)) (rest_of logs e.system))) u [])
            ≡ 0
        by_place u below (inl is) =
            let log : List StepDone = rest_of logs e.system in
            let rest : drop (run_count log) log ≡ drop (quiet_count next.behind) next.behind =
            ap (λ (l : List StepDone). drop (run_count l) l) next.is in
            ap (λ i. quiet_count (get_or (set logs e.system.0 (drop (run_count log) log)) i [])) is.1
            ∙ ap quiet_count (get_or-set_same logs e.system.0 (drop (run_count log) log) [] within)
            ∙ ap quiet_count rest ∙ no_quiet next.behind
        by_place u below (inr is) = ap quiet_count (get_or-set_other logs e.system.0 u _ [] is.1) ∙ c.none_quiet u below

    further-at : Further w logs e es
    further-at =
        let makes : Makes deck n (rest_of logs e.system) (e ∷ entries_of e.system.0 es) (end e.system.0) =
        subst (λ (l : List JEntry). Makes deck n (rest_of logs e.system) l (end e.system.0))
        (entries-own e.system.0 e es refl) (c.make e.system.0 n at) in
        let next : Next deck n (rest_of logs e.system) e (entries_of e.system.0 es) (end e.system.0) =
        next_of deck n (rest_of logs e.system) e (entries_of e.system.0 es) (end e.system.0)
        (c.none_quiet e.system.0 inside) makes in
        let out : Turnout = called next.step in
        let v : World = placed w e.system n out in
        let after : slice_get v.nodes e.system.0 ≡ Some next.after =
        ap (λ ns. slice_get ns e.system.0) (placed-nodes w e.system n out)
        ∙ slice_get-set w.nodes e.system.0 n _ at
        ∙ ap Some (sym next.journalled.after) in
        let still : has v.medium.removed e.system.0 ≡ false =
        ap (λ (m : MediumState). has m.removed e.system.0) (placed-medium w e.system n out)
        ∙ stays_there w.medium e.system e.call c.served.0.may_call.1
        ∙ there in
        by_quiet next (goes_on deck e.system next.behind (entries_of e.system.0 es) (end e.system.0) v next.after after
        still next.makes)

  pub further : (w : World) (logs : List (List StepDone)) (e : JEntry) (es : List JEntry) → Cut w logs (e ∷ es)
      → Further w logs e es
  further w logs e es c =
      let below : e.system.0 < length w.nodes =
      subst (λ k. e.system.0 < k) (c.sized ∙ sym c.systems) c.served.0.may_call.0 in
      further-at w logs e es c (get_or w.nodes e.system.0 (first_node deck 0))
      (slice_get-get_or w.nodes e.system.0 (first_node deck 0) below)

  -- the steps of a whole journal
  pub ends : (es : List JEntry) (w : World) (logs : List (List StepDone)) → Cut w logs es
      → Ends w (by_journal logs es) es
  ends [] w logs c = record {
    world = w;
    shows = shows-none deck w;
    medium = refl;
    systems = c.systems;
    nodes = λ u n at.
        last_of deck n (get_or logs u []) (end u)
        (c.none_quiet u (subst (λ k. u < k) c.systems (slice_get_within w.nodes u n at))) (c.make u n at);
  }
  ends (e ∷ es) w logs c =
      let f : Further w logs e es = further w logs e es c in
      let rest = rest_of logs e.system in
      let g : Ends f.world (by_journal (set logs e.system.0 (drop (run_count rest) rest)) es) es =
      ends es f.world (set logs e.system.0 (drop (run_count rest) rest)) f.cut in
      record {
        world = g.world;
        shows =
            shows-then deck w f.world g.world (steps_by e.system (take (run_count rest) rest))
            (by_journal (set logs e.system.0 (drop (run_count rest) rest)) es) f.shows g.shows;
        medium = g.medium ∙ ap (λ (m : MediumState). after_all m es) f.medium;
        systems = g.systems;
        nodes = g.nodes;
      }
