-- The quiet steps before all entries of a journal.
use Rattle.std.proofs.Common.{◌≡◌, ◌≢◌, ◌<◌, ◌+◌, ◌⊎◌, ℕ, true, false, List, [], ◌∷◌, ◌++◌, length, take, map, get_or}
use Rattle.std.proofs.Common.{Some, refl, ap, sym, ◌∙◌, subst, inl, inr, arith, length-set, append_assoc, append-nil}
use Rattle.std.proofs.Common.{length-append}
use Rattle.std.specs.Prelude.{slice_get, set, ◌==◌}
use Rattle.std.proofs.Math.Seq.{set-append_seam}
use Rattle.std.proofs.lemmas.Bool.Decides.{eqb_tells}
use Rattle.std.proofs.lemmas.List.{get_or-set_same, get_or-set_other}
use Rattle.std.proofs.lemmas.Option.{slice_get-get_or, get_or_from_slice_get}
use Rattle.grs_bus.specs.Journal.{entries_of}
use Rattle.grs_history.specs.Merge.{Step, steps_by, quiet_count, quiet_fronts, without_front}
use Rattle.grs_known.proofs.lists.Facts.{slice_get-end}
use Rattle.grs_medium.specs.Medium.{MediumState}
use Rattle.grs_workers.specs.Makes.{Makes}
use Rattle.grs_node.specs.Node.{NodeState, first_node}
use Rattle.grs_wire.specs.Masks.{has}
use Rattle.grs_wire.proofs.MaskLaws.{has-zero}
use Rattle.grs_wire.specs.declared.deck.Deck.{Deck}
use Rattle.grs_wire.specs.declared.log.StepDone.{StepDone}
use Rattle.grs_wire.specs.declared.medium.JEntry.{JEntry}
use Rattle.grs_world.specs.World.{World}
use Rattle.grs_workers.specs.Beside.{medium_of}
use Rattle.grs_top.proofs.merged.Cuts.{Make, make-set}
use Rattle.grs_top.proofs.merged.Quiet.{GoesOn, goes_on, no_quiet}
use Rattle.grs_top.proofs.merged.Shows.{Shows, shows-none, shows-then}

module _ (deck : Deck) (end : ℕ → NodeState) (count : ℕ) (journal : List JEntry) where
  -- Nobody made a call yet, and so many logs have no quiet step in front any more.
  pub record Begun (w : World) (logs : List (List StepDone)) (s : ℕ) : Type 0 where
    pub systems : length w.nodes ≡ count
    pub left : length logs ≡ count
    pub medium : w.medium ≡ medium_of deck
    pub make : Make deck end count w logs journal
    pub none_quiet : (u : ℕ) → u < s → quiet_count (get_or logs u []) ≡ 0

  pub record All_Begun (w : World) (xs : List Step) (logs : List (List StepDone)) : Type 0 where
    pub world : World
    pub shows : Shows deck w xs world
    pub begun : Begun world logs count

  -- the log of one system more
  one_more :
      (done : List (List StepDone)) (log : List StepDone) (rest : List (List StepDone)) (w : World) (n : NodeState)
      (b : Begun w (done ++ log ∷ rest) (length done))
      → slice_get w.nodes (length done) ≡ Some n
      → (g :
      GoesOn deck w (record { 0 = length done }) log (quiet_count log) (entries_of (length done) journal)
      (end (length done)))
      → Begun g.world ((done ++ without_front log ∷ []) ++ rest) (length (done ++ without_front log ∷ []))
  one_more done log rest w n b at g =
      let s : ℕ = length done in
      let logs : List (List StepDone) = done ++ log ∷ rest in
      let now : set logs s (without_front log) ≡ (done ++ without_front log ∷ []) ++ rest =
      set-append_seam done log rest (without_front log) ∙ sym (append_assoc done (without_front log ∷ []) rest) in
      let within : s < length logs =
      let n : length logs ≡ s + length (log ∷ rest) = length-append done (log ∷ rest) in omega (arith, n) in
      subst (λ (l : List (List StepDone)). Begun g.world l (length (done ++ without_front log ∷ []))) now record {
        systems = ap length g.nodes ∙ length-set w.nodes s g.node ∙ b.systems;
        left = length-set logs s (without_front log) ∙ b.left;
        medium = g.medium ∙ b.medium;
        make =
            make-set deck end count w g.world logs journal journal s n g.node (without_front log) at within g.nodes
            g.makes (λ u ne. refl) b.make;
        none_quiet = λ u below. by_place u below (eqb_tells u s);
      }
    where
      by_place : (u : ℕ) → u < length (done ++ without_front log ∷ [])
          → (((u == length done) ≡ true) × (u ≡ length done)) ⊎ (((u == length done) ≡ false) × (u ≢ length done))
          → quiet_count (get_or (set (done ++ log ∷ rest) (length done) (without_front log)) u []) ≡ 0
      by_place u below (inl is) =
          let within : length done < length (done ++ log ∷ rest) =
          let n : length (done ++ log ∷ rest) ≡ length done + length (log ∷ rest) = length-append done (log ∷ rest) in
          omega (arith, n) in
          ap (λ i. quiet_count (get_or (set (done ++ log ∷ rest) (length done) (without_front log)) i [])) is.1
          ∙ ap quiet_count (get_or-set_same (done ++ log ∷ rest) (length done) (without_front log) [] within)
          ∙ no_quiet log
      by_place u below (inr is) =
          let n : length (done ++ without_front log ∷ []) ≡ length done + 1 =
          length-append done (without_front log ∷ []) in
          ap quiet_count (get_or-set_other (done ++ log ∷ rest) (length done) u (without_front log) [] is.1)
          ∙ b.none_quiet u (omega (arith, below, n, is.1))

  pub fronts : (rest done : List (List StepDone)) (w : World) → Begun w (done ++ rest) (length done)
      → All_Begun w (quiet_fronts (length done) rest) (done ++ map without_front rest)
  fronts [] done w b = record {
    world = w;
    shows = shows-none deck w;
    begun = record {
      systems = b.systems;
      left = b.left;
      medium = b.medium;
      make = b.make;
      none_quiet = λ u below.
          b.none_quiet u (subst (λ k. u < k) (sym (ap length (sym (append-nil done)) ∙ b.left)) below);
    };
  }
  fronts (log ∷ rest) done w b =
      let s : ℕ = length done in
      let logs : List (List StepDone) = done ++ log ∷ rest in
      let size : length logs ≡ s + length (log ∷ rest) = length-append done (log ∷ rest) in
      let below : s < length w.nodes =
      let n : length w.nodes ≡ length logs = b.systems ∙ sym b.left in omega (arith, n, size) in
      let n : NodeState = get_or w.nodes s (first_node deck 0) in
      let at : slice_get w.nodes s ≡ Some n = slice_get-get_or w.nodes s (first_node deck 0) below in
      let its : get_or logs s [] ≡ log = get_or_from_slice_get logs s log [] (slice_get-end done log rest) in
      let makes : Makes deck n log (entries_of s journal) (end s) =
      subst (λ (l : List StepDone). Makes deck n l (entries_of s journal) (end s)) its (b.make s n at) in
      let there : has w.medium.removed s ≡ false = ap (λ (m : MediumState). has m.removed s) b.medium ∙ has-zero s in
      let g : GoesOn deck w (record { 0 = s }) log (quiet_count log) (entries_of s journal) (end s) =
      goes_on deck (record { 0 = s }) log (entries_of s journal) (end s) w n at there makes in
      let next : Begun g.world ((done ++ without_front log ∷ []) ++ rest) (length (done ++ without_front log ∷ [])) =
      one_more done log rest w n b at g in
      let count : length (done ++ without_front log ∷ []) ≡ s + 1 = length-append done (without_front log ∷ []) in
      let f : All_Begun g.world (quiet_fronts (s + 1) rest) (done ++ map without_front (log ∷ rest)) =
      subst (λ (l : List (List StepDone)). All_Begun g.world (quiet_fronts (s + 1) rest) l)
      (append_assoc done (without_front log ∷ []) (map without_front rest))
      (subst (λ k. All_Begun g.world (quiet_fronts k rest) ((done ++ without_front log ∷ []) ++ map without_front rest))
      count (fronts rest (done ++ without_front log ∷ []) g.world next)) in
      record {
        world = f.world;
        shows =
            shows-then deck w g.world f.world (steps_by (record { 0 = s }) (take (quiet_count log) log))
            (quiet_fronts (s + 1) rest) g.shows f.shows;
        begun = f.begun;
      }
