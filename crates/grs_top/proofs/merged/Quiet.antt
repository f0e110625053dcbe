-- The quiet steps with which a system's log goes on, as events of a run.
use Rattle.std.proofs.Common.{◌≡◌, ℕ, zero, suc, Bool, true, false, cond, List, [], ◌∷◌, take, drop, Some, None, refl}
use Rattle.std.proofs.Common.{ap, sym, ◌∙◌, subst, inl, inr}
use Rattle.std.specs.Prelude.{slice_get, set}
use Rattle.std.proofs.lemmas.List.{set-get_or}
use Rattle.std.proofs.lemmas.Option.{get_or_from_slice_get}
use Rattle.grs_base.specs.declared.resource.SysId.{SysId}
use Rattle.grs_history.specs.Merge.{steps_by, quiet_count}
use Rattle.grs_known.proofs.lists.Facts.{slice_get-set}
use Rattle.grs_workers.specs.Makes.{IsQuiet, Makes}
use Rattle.grs_node.specs.Node.{NodeState, prepare, finish}
use Rattle.grs_wire.specs.Masks.{has}
use Rattle.grs_wire.specs.declared.deck.Deck.{Deck}
use Rattle.grs_wire.specs.declared.log.StepDone.{StepDone}
use Rattle.grs_wire.specs.declared.medium.JEntry.{JEntry}
use Rattle.grs_world.specs.World.{World, Turnout, chosen, carry_out, placed}
use Rattle.grs_top.proofs.merged.Shows.{Shows, shows-none, shows-then, shows-one, some-quiet, placed-medium}
use Rattle.grs_top.proofs.merged.Shows.{placed-nodes}

-- a place that is set again
pub set-again : {X : Type 0} (xs : List X) (i : ℕ) (x y : X) → set (set xs i x) i y ≡ set xs i y
set-again [] i x y = refl
set-again (z ∷ xs) zero x y = refl
set-again (z ∷ xs) (suc i) x y = ap (λ ys. z ∷ ys) (set-again xs i x y)

pub set-same : {X : Type 0} (xs : List X) (i : ℕ) (x : X) → slice_get xs i ≡ Some x → xs ≡ set xs i x
set-same xs i x at = sym (ap (set xs i) (sym (get_or_from_slice_get xs i x x at)) ∙ set-get_or xs i x)

-- what a quiet step leads to
quiet-choice : (deck : Deck) (w : World) (s : SysId) (n : NodeState) (x : StepDone) (k : NodeState) → IsQuiet deck n x k
    → chosen deck w.medium s n x.choice ≡ record { medium = w.medium; step = finish deck n x.choice None }
unfolding chosen carry_out
quiet-choice deck w s n x k q = ap (carry_out deck w.medium s n x.choice) q.prepared

-- So many steps of a system's log come to this: what is left of the log still makes of the system what it is in the
-- end.
pub record GoesOn (deck : Deck) (w : World) (s : SysId) (log : List StepDone) (count : ℕ) (es : List JEntry)
    (end : NodeState) :
    Type 0 where
  pub world : World
  pub node : NodeState
  pub shows : Shows deck w (steps_by s (take count log)) world
  pub medium : world.medium ≡ w.medium
  pub nodes : world.nodes ≡ set w.nodes s.0 node
  pub makes : Makes deck node (drop count log) es end

stays : (deck : Deck) (w : World) (s : SysId) (n : NodeState) (log : List StepDone) (es : List JEntry) (end : NodeState)
    → slice_get w.nodes s.0 ≡ Some n → Makes deck n log es end → GoesOn deck w s log 0 es end
stays deck w s n log es end at makes = record {
  world = w;
  node = n;
  shows = shows-none deck w;
  medium = refl;
  nodes = set-same w.nodes s.0 n at;
  makes = makes;
}

one-more :
    (deck : Deck) (w : World) (s : SysId) (n k : NodeState) (x : StepDone) (log : List StepDone) (count : ℕ)
    (es : List JEntry) (end : NodeState)
    → slice_get w.nodes s.0 ≡ Some n → has w.medium.removed s.0 ≡ false → IsQuiet deck n x k
    → GoesOn deck (placed w s n (record { medium = w.medium; step = finish deck n x.choice None })) s log count es end
    → GoesOn deck w s (x ∷ log) (suc count) es end
one-more deck w s n k x log count es end at there q g =
    let out : Turnout = record { medium = w.medium; step = finish deck n x.choice None } in record {
      world = g.world;
      node = g.node;
      shows = shows-then deck w (placed w s n out) g.world ((s, x) ∷ []) (steps_by s (take count log))
          (shows-one deck w s x n out at there (some-quiet (prepare deck n x.choice) q.prepared)
          (quiet-choice deck w s n x k q) (ap (λ (y : StepDone). y.fixed) q.step)
          (ap (λ (y : StepDone). y.told) q.step))
          g.shows;
      medium = g.medium ∙ placed-medium w s n out;
      nodes = g.nodes ∙ ap (λ ns. set ns s.0 g.node) (placed-nodes w s n out) ∙ set-again w.nodes s.0 _ g.node;
      makes = g.makes;
    }

-- The quiet steps in front of a log of a system that is there and wasn't removed.
pub goes_on :
    (deck : Deck) (s : SysId) (log : List StepDone) (es : List JEntry) (end : NodeState) (w : World) (n : NodeState)
    → slice_get w.nodes s.0 ≡ Some n → has w.medium.removed s.0 ≡ false → Makes deck n log es end
    → GoesOn deck w s log (quiet_count log) es end
goes_on deck s [] es end w n at there makes = stays deck w s n [] es end at makes
goes_on deck s (x ∷ log) es end w n at there makes =
    by_step (by_rest (λ v k after still rest. goes_on deck s log es end v k after still rest)) makes
  where
    by_rest :
        ((v : World) (k : NodeState) → slice_get v.nodes s.0 ≡ Some k → has v.medium.removed s.0 ≡ false
        → Makes deck k log es end → GoesOn deck v s log (quiet_count log) es end)
        → (k : NodeState) → IsQuiet deck n x k → Makes deck k log es end
        → GoesOn deck w s (x ∷ log) (suc (quiet_count log)) es end
    by_rest further k q rest =
        let out : Turnout = record { medium = w.medium; step = finish deck n x.choice None } in
        let v : World = placed w s n out in
        let after : slice_get v.nodes s.0 ≡ Some k =
        ap (λ ns. slice_get ns s.0) (placed-nodes w s n out)
        ∙ slice_get-set w.nodes s.0 n _ at
        ∙ ap Some (sym q.after) in
        one-more deck w s n k x log (quiet_count log) es end at there q
        (further v k after (ap (λ m. has m.removed s.0) (placed-medium w s n out) ∙ there) rest)

    by_step :
        ((k : NodeState) → IsQuiet deck n x k → Makes deck k log es end
        → GoesOn deck w s (x ∷ log) (suc (quiet_count log)) es end)
        → Makes deck n (x ∷ log) es end → GoesOn deck w s (x ∷ log) (cond x.journalled 0 (suc (quiet_count log))) es end
    by_step further (inl q) =
        subst (λ (b : Bool). GoesOn deck w s (x ∷ log) (cond b 0 (suc (quiet_count log))) es end)
        (sym (ap (λ (y : StepDone). y.journalled) q.1.step)) (further q.0 q.1 q.2)
    by_step further (inr j) =
        subst (λ (b : Bool). GoesOn deck w s (x ∷ log) (cond b 0 (suc (quiet_count log))) es end)
        (sym (ap (λ (y : StepDone). y.journalled) j.4.step)) (stays deck w s n (x ∷ log) es end at (inr j))

-- behind the quiet steps of a log stands a journalled one, or none
pub no_quiet : (log : List StepDone) → quiet_count (drop (quiet_count log) log) ≡ 0
no_quiet [] = refl
no_quiet (x ∷ log) = by_kind x.journalled refl (no_quiet log)
  where
    by_kind : (b : Bool) → x.journalled ≡ b → quiet_count (drop (quiet_count log) log) ≡ 0
        → quiet_count (drop (cond b 0 (suc (quiet_count log))) (x ∷ log)) ≡ 0
    by_kind true is rest = ap (λ (b : Bool). cond b 0 (suc (quiet_count log))) is
    by_kind false is rest = rest
