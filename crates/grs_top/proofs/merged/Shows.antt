-- Steps of systems, taken as the events of a run one by one.
use Rattle.std.proofs.Common.{◌≡◌, ◌≢◌, ◌+◌, ℕ, false, cond, List, [], ◌∷◌, ◌++◌, length, map, Some, refl, ap, sym, ◌∙◌}
use Rattle.std.proofs.Common.{subst, arith, append_assoc, append-nil, length-append, add-zero}
use Rattle.std.specs.Prelude.{slice_get, set}
use Rattle.std.specs.List.{flat_map}
use Rattle.std.proofs.lemmas.Grind.{flat_map-append}
use Rattle.grs_base.specs.declared.resource.SysId.{SysId}
use Rattle.grs_history.specs.Merge.{Step, event_of, fixed_in, told_in as told_of, told_behind}
use Rattle.grs_node.specs.Log.{told_in}
use Rattle.grs_node.specs.Node.{NodeState, prepare}
use Rattle.grs_node.specs.declared.prepared.Prepared.{Prepared}
use Rattle.grs_node.specs.declared.prepared.Prepared.TheVariants.{Quiet, Call, Nothing}
use Rattle.grs_wire.specs.Masks.{has}
use Rattle.grs_wire.specs.declared.deck.Deck.{Deck}
use Rattle.grs_wire.specs.declared.log.StepDone.{StepDone}
use Rattle.grs_wire.specs.declared.medium.Call.{Call as MediumCall}
use Rattle.grs_world.specs.World.{World, Turnout, fixed_by, told_by, chosen, placed, counted, happens_at, happens}
use Rattle.grs_world.specs.World.{run_from}
use Rattle.grs_top.specs.Beside.{AllDo}

-- The events of these steps lead from one world to another, each has something to do, and what was fixed and told there
-- are the steps' own.
pub record Shows (deck : Deck) (w : World) (xs : List Step) (v : World) : Type 0 where
  pub leads : run_from deck w (map event_of xs) ≡ v
  pub all_do : AllDo deck w (map event_of xs)
  pub events : v.events ≡ w.events + length xs
  pub fixed : v.fixed ≡ w.fixed ++ flat_map fixed_in xs
  pub told : v.told ≡ w.told ++ told_behind w.events xs

pub shows-none : (deck : Deck) (w : World) → Shows deck w [] w
shows-none deck w = record {
  leads = refl;
  all_do = tt;
  events = sym (add-zero w.events);
  fixed = sym (append-nil w.fixed);
  told = sym (append-nil w.told);
}

run-then : (deck : Deck) (xs ys : List Step) (w : World)
    → run_from deck w (map event_of (xs ++ ys)) ≡ run_from deck (run_from deck w (map event_of xs)) (map event_of ys)
run-then deck [] ys w = refl
run-then deck (x ∷ xs) ys w = run-then deck xs ys (happens deck w (event_of x))

do-then : (deck : Deck) (xs ys : List Step) (w u : World) → run_from deck w (map event_of xs) ≡ u
    → AllDo deck w (map event_of xs) → AllDo deck u (map event_of ys) → AllDo deck w (map event_of (xs ++ ys))
do-then deck [] ys w u leads first then = subst (λ (z : World). AllDo deck z (map event_of ys)) (sym leads) then
do-then deck (x ∷ xs) ys w u leads first
    then = (first.0, do-then deck xs ys (happens deck w (event_of x)) u leads first.1 then)

told-then : (xs ys : List Step) (n : ℕ) → told_behind n (xs ++ ys) ≡ told_behind n xs ++ told_behind (n + length xs) ys
told-then [] ys n = ap (λ k. told_behind k ys) (sym (add-zero n))
told-then (x ∷ xs) ys n =
    let count : n + 1 + length xs ≡ n + length (x ∷ xs) = omega arith in
    ap (λ ls. told_of (n + 1) x ++ ls) (told-then xs ys (n + 1))
    ∙ sym (append_assoc (told_of (n + 1) x) (told_behind (n + 1) xs) (told_behind (n + 1 + length xs) ys))
    ∙ ap (λ k. (told_of (n + 1) x ++ told_behind (n + 1) xs) ++ told_behind k ys) count

pub shows-then : (deck : Deck) (w u v : World) (xs ys : List Step) → Shows deck w xs u → Shows deck u ys v
    → Shows deck w (xs ++ ys) v
shows-then deck w u v xs ys a b = record {
  leads = run-then deck xs ys w ∙ ap (λ z. run_from deck z (map event_of ys)) a.leads ∙ b.leads;
  all_do = do-then deck xs ys w u a.leads a.all_do b.all_do;
  events =
      let n : length (xs ++ ys) ≡ length xs + length ys = length-append xs ys in omega (arith, a.events, b.events, n);
  fixed =
      b.fixed
      ∙ ap (λ fs. fs ++ flat_map fixed_in ys) a.fixed
      ∙ append_assoc w.fixed (flat_map fixed_in xs) (flat_map fixed_in ys)
      ∙ ap (λ fs. w.fixed ++ fs) (sym (flat_map-append fixed_in xs ys));
  told =
      b.told
      ∙ ap (λ ls. ls ++ told_behind u.events ys) a.told
      ∙ append_assoc w.told (told_behind w.events xs) (told_behind u.events ys)
      ∙ ap (λ k. w.told ++ (told_behind w.events xs ++ told_behind k ys)) a.events
      ∙ ap (λ ls. w.told ++ ls) (sym (told-then xs ys w.events));
}

-- what makes a call, or is done without one, has something to do
pub some-quiet : (p : Prepared) → p ≡ Quiet → p ≢ Nothing
some-quiet p is none = let clash : Quiet ≡ Nothing = sym is ∙ none in absurd (cc)

pub some-call : (p : Prepared) (call : MediumCall) → p ≡ Call call → p ≢ Nothing
some-call p call is none = let clash : Call call ≡ Nothing = sym is ∙ none in absurd (cc)

-- one step of a system that is there and wasn't removed, which fixed and told what its choice came to
pub shows-one : (deck : Deck) (w : World) (s : SysId) (x : StepDone) (n : NodeState) (out : Turnout)
    → slice_get w.nodes s.0 ≡ Some n → has w.medium.removed s.0 ≡ false → prepare deck n x.choice ≢ Nothing
    → chosen deck w.medium s n x.choice ≡ out → x.fixed ≡ out.step.fixed → x.told ≡ told_in n out.step
    → Shows deck w ((s, x) ∷ []) (placed w s n out)
unfolding happens happens_at placed
shows-one deck w s x n out at there some is fixed told = record {
  leads = ap (happens_at deck w (event_of (s, x))) at
      ∙ ap (λ b. cond b (counted w) (placed w s n (chosen deck w.medium s n x.choice))) there
      ∙ ap (placed w s n) is;
  all_do = (record { node = n; at = at; there = there; some = some }, tt);
  events = refl;
  fixed =
      ap (λ fs. w.fixed ++ fixed_by s fs) (sym fixed) ∙ ap (λ fs. w.fixed ++ fs) (sym (append-nil (fixed_in (s, x))));
  told =
      ap (λ ls. w.told ++ told_by (w.events + 1) s ls) (sym told)
      ∙ ap (λ ls. w.told ++ ls) (sym (append-nil (told_of (w.events + 1) (s, x))));
}

pub placed-medium : (w : World) (s : SysId) (n : NodeState) (out : Turnout) → (placed w s n out).medium ≡ out.medium
unfolding placed
placed-medium w s n out = refl

pub placed-nodes : (w : World) (s : SysId) (n : NodeState) (out : Turnout)
    → (placed w s n out).nodes ≡ set w.nodes s.0 out.step.node
unfolding placed
placed-nodes w s n out = refl
