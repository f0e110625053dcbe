-- Events that come to nothing, and worlds that differ by such events.
use Rattle.std.proofs.Common.{◌≡◌, ℕ, Bool, true, false, cond, List, [], ◌∷◌, ◌++◌, Option, Some, None, refl, ap, sym}
use Rattle.std.proofs.Common.{◌∙◌}
use Rattle.std.proofs.Common.{◌<◌, ◌+◌, length, drop, zero, suc, arith, slice_index_or}
use Rattle.std.proofs.Common.{append-nil}
use Rattle.std.specs.Prelude.{◌&&◌, ◌||◌, not, slice_get, set}
use Rattle.std.specs.List.{list_any}
use Rattle.std.proofs.lemmas.Bool.{or_from, or_parts}
use Rattle.std.proofs.lemmas.List.{set-get_or}
use Rattle.std.proofs.lemmas.Option.{get_or_from_slice_get}
use Rattle.grs_base.specs.declared.resource.Res.{Res}
use Rattle.grs_base.specs.declared.resource.SysId.{SysId}
use Rattle.grs_base.specs.declared.resource.TaskId.{TaskId}
use Rattle.grs_node.specs.Log.{end_in}
use Rattle.grs_node.specs.Node.{NodeState, goes_on, is_to_send, is_star_pending, is_pending, may_go, may_send, prepare}
use Rattle.grs_node.specs.Node.{star_call, prepared_by, is_of_deck}
use Rattle.grs_node.specs.Star.{StarPart, tell_by, settle_by, send_of}
use Rattle.grs_node.specs.declared.prepared.Prepared.{Prepared}
use Rattle.grs_node.specs.declared.prepared.Prepared.TheVariants.{Quiet, Nothing}
use Rattle.grs_node.specs.declared.star.Need.TheVariants.{Idle as NoNeed}
use Rattle.grs_wire.specs.Masks.{has}
use Rattle.grs_wire.specs.declared.deck.Choice.{Choice}
use Rattle.grs_wire.specs.declared.deck.Choice.TheVariants as choices
use Rattle.grs_wire.specs.declared.deck.Deck.{Deck}
use Rattle.grs_wire.specs.declared.deck.Event.{Event}
use Rattle.grs_wire.specs.declared.request.Fixed.{Fixed}
use Rattle.grs_wire.specs.declared.request.Req.{Req}
use Rattle.grs_world.specs.World.{World, chosen, carry_out, idle as unchanged, placed, counted, happens_at, happens}
use Rattle.grs_world.specs.World.{run_from}
use Rattle.grs_world.proofs.code.Happens.{run_from-more}
use Rattle.task_state.specs.View.{is_task, state_of}
use Rattle.task_state.specs.declared.state.Phase.{Phase}
use Rattle.task_state.specs.declared.state.Phase.TheVariants as phases
use Rattle.grs_top.proofs.at_rest.Pending.{none_pending_parts, no_go, no_send, no_held, no_tell}
use Rattle.grs_top.specs.LeftOut.{ComesToNothing, IsNothingAt, is_idle, is_over, lasting}

-- ---- worlds

-- an event leads from worlds that have what lasts in common to such worlds
step-lasting : (deck : Deck) (w : World) (e : Event)
    → lasting (happens deck w e) ≡ lasting (happens deck (lasting w) e)
unfolding happens happens_at placed
step-lasting deck w e = by_node (slice_get w.nodes e.system.0)
  where
    by_node : (o : Option NodeState) → lasting (happens_at deck w e o) ≡ lasting (happens_at deck (lasting w) e o)
    by_node None = refl
    by_node (Some n) = by_removed (has w.medium.removed e.system.0)
      where
        by_removed : (b : Bool)
            → lasting (cond b (counted w) (placed w e.system n (chosen deck w.medium e.system n e.choice)))
            ≡ lasting (cond b (counted (lasting w))
            (placed (lasting w) e.system n (chosen deck w.medium e.system n e.choice)))
        by_removed true = refl
        by_removed false = refl

pub same-step : (deck : Deck) (w v : World) (e : Event) → lasting w ≡ lasting v
    → lasting (happens deck w e) ≡ lasting (happens deck v e)
same-step deck w v e same =
    step-lasting deck w e
    ∙ ap (λ (x : World). lasting (happens deck x e)) same
    ∙ sym (step-lasting deck v e)

pub same-run : (deck : Deck) (w v : World) (es : List Event) → lasting w ≡ lasting v
    → lasting (run_from deck w es) ≡ lasting (run_from deck v es)
same-run deck w v [] same = same
same-run deck w v (e ∷ es) same = same-run deck (happens deck w e) (happens deck v e) es (same-step deck w v e same)

-- what stands at a place of a list stands there whatever is given past its end
in-range : (es : List Event) (i : ℕ) (d x : Event) → i < length es → slice_index_or es i d ≡ slice_index_or es i x
in-range [] i d x inside = absurd (omega (arith, inside))
in-range (e ∷ es) zero d x inside = refl
in-range (e ∷ es) (suc i) d x inside = in-range es i d x (omega (arith, inside))

-- behind the event at a place, what lasts is as if all from there on had happened
pub led-on : (deck k : Deck) (w v : World) (es : List Event) (i : ℕ) (d : Event) → i < length es → k ≡ deck
    → lasting v ≡ lasting (happens k w (slice_index_or es i d))
    → lasting (run_from deck v (drop (i + 1) es)) ≡ lasting (run_from deck w (drop i es))
led-on deck k w v es i d inside same led =
    let e : Event = slice_index_or es i d in
    same-run deck v (happens deck w e) (drop (i + 1) es) (led ∙ ap (λ (x : Deck). lasting (happens x w e)) same)
    ∙ ap lasting (sym (run_from-more deck w es i e inside (in-range es i d e inside)))

-- what lasts of a world with these systems and what was fixed
abbrev lasting_with : World → List NodeState → List (SysId × Fixed) → World
lasting_with w ns fs = record { medium = w.medium; nodes = ns; events = 0; fixed = fs; told = [] }

-- an event that comes to nothing leaves what lasts
pub nothing-lasts : (deck : Deck) (w : World) (e : Event) (n : NodeState) → slice_get w.nodes e.system.0 ≡ Some n
    → prepare deck n e.choice ≡ Nothing → lasting (happens deck w e) ≡ lasting w
unfolding happens happens_at placed chosen carry_out
nothing-lasts deck w e n there none =
    ap (λ (o : Option NodeState). lasting (happens_at deck w e o)) there
    ∙ by_removed (has w.medium.removed e.system.0)
  where
    same_nodes : set w.nodes e.system.0 n ≡ w.nodes
    same_nodes =
        ap (λ (x : NodeState). set w.nodes e.system.0 x) (sym (get_or_from_slice_get w.nodes e.system.0 n n there))
        ∙ set-get_or w.nodes e.system.0 n

    stays : lasting (placed w e.system n (unchanged w.medium n)) ≡ lasting w
    stays =
        ap (λ (ns : List NodeState). lasting_with w ns (w.fixed ++ [])) same_nodes
        ∙ ap (lasting_with w w.nodes) (append-nil w.fixed)

    by_removed : (b : Bool)
        → lasting (cond b (counted w) (placed w e.system n (chosen deck w.medium e.system n e.choice))) ≡ lasting w
    by_removed true = refl
    by_removed false =
        ap (λ (p : Prepared). lasting (placed w e.system n (carry_out deck w.medium e.system n e.choice p))) none
        ∙ stays

-- the same of an event of any system
pub nothing-leaves : (deck : Deck) (w : World) (e : Event) → IsNothingAt (slice_get w.nodes e.system.0) e.choice
    → lasting (happens deck w e) ≡ lasting w
unfolding happens happens_at
nothing-leaves deck w e none = by (slice_get w.nodes e.system.0) refl none
  where
    by : (o : Option NodeState) → slice_get w.nodes e.system.0 ≡ o → IsNothingAt o e.choice
        → lasting (happens deck w e) ≡ lasting w
    by None is k = ap (λ (o : Option NodeState). lasting (happens_at deck w e o)) is
    by (Some n) is k = nothing-lasts deck w e n is (k deck)

-- ---- systems

-- of three tests the last fails where the first holds
last-fails : (a b c : Bool) → (a ≡ true → c ≡ false) → a && (b && c) ≡ false
last-fails false b c fails = refl
last-fails true false c fails = refl
last-fails true true c fails = fails refl

task-nothing : (deck : Deck) (n : NodeState) (t : TaskId)
    → (is_task n.tasks t ≡ true → goes_on (state_of n.tasks t).phase ≡ false)
    → prepare deck n (choices.Task t) ≡ Nothing
unfolding prepare may_go
task-nothing deck n t stays =
    ap (λ (b : Bool). cond b Quiet Nothing)
    (last-fails (is_task n.tasks t) (is_of_deck deck t) (goes_on (state_of n.tasks t).phase) stays)

send-nothing : (deck : Deck) (n : NodeState) (t : TaskId)
    → (is_task n.tasks t ≡ true → is_to_send (state_of n.tasks t).phase ≡ false)
    → prepare deck n (choices.Send t) ≡ Nothing
unfolding prepare star_call may_send
send-nothing deck n t stays = by_star n.star
  where
    by_star : (o : Option StarPart) → star_call deck n o (choices.Send t) ≡ Nothing
    by_star None = refl
    by_star (Some p) =
        ap (λ (b : Bool). prepared_by n.known (cond b (send_of p t (state_of n.tasks t).outstanding) NoNeed))
        (last-fails (is_task n.tasks t) (is_of_deck deck t) (is_to_send (state_of n.tasks t).phase) stays)

-- ---- in ring mode

ring-star : (deck : Deck) (n : NodeState) → prepare deck n choices.Take ≡ Nothing → n.star ≡ None
unfolding prepare star_call
ring-star deck n none = by_star n.star none
  where
    by_star : (o : Option StarPart) → star_call deck n o choices.Take ≡ Nothing → o ≡ None
    by_star None k = refl
    by_star (Some p) k = absurd (cc)

pub ring-sends : (deck : Deck) (n : NodeState) (t : TaskId) → prepare deck n choices.Take ≡ Nothing
    → ComesToNothing n (choices.Send t)
unfolding prepare star_call
ring-sends deck n t
    none = λ own. ap (λ (o : Option StarPart). star_call own n o (choices.Send t)) (ring-star deck n none)

pub ring-settles : (deck : Deck) (n : NodeState) → prepare deck n choices.Take ≡ Nothing
    → ComesToNothing n choices.Settle
unfolding prepare star_call
ring-settles deck n none = λ own. ap (λ (o : Option StarPart). star_call own n o choices.Settle) (ring-star deck n none)

pub ring-tells : (deck : Deck) (n : NodeState) (e : ℕ) → prepare deck n choices.Take ≡ Nothing
    → ComesToNothing n (choices.Tell e)
unfolding prepare star_call
ring-tells deck n e
    none = λ own. ap (λ (o : Option StarPart). star_call own n o (choices.Tell e)) (ring-star deck n none)

-- ---- where nothing is pending

idle-parts : (n : NodeState) → is_idle n ≡ true
    → (list_any (λ x. goes_on x.phase) n.tasks.tasks ≡ false) × (is_star_pending n.tasks n.star ≡ false)
idle-parts n idle =
    or_parts _ _ (by (list_any (λ x. goes_on x.phase) n.tasks.tasks || is_star_pending n.tasks n.star) idle)
  where
    by : (b : Bool) → not b ≡ true → b ≡ false
    by true k = cc
    by false k = refl

pub idle-goes : (n : NodeState) (t : TaskId) → is_idle n ≡ true → ComesToNothing n (choices.Task t)
unfolding prepare
idle-goes n t idle = λ deck. ap (λ (b : Bool). cond b Quiet Nothing) (no_go deck n t (idle-parts n idle).0)

pub idle-sends : (n : NodeState) (t : TaskId) → is_idle n ≡ true → ComesToNothing n (choices.Send t)
unfolding prepare star_call
idle-sends n t idle = λ deck. by_star deck n.star refl
  where
    by_star : (deck : Deck) (o : Option StarPart) → n.star ≡ o → star_call deck n o (choices.Send t) ≡ Nothing
    by_star deck None star = refl
    by_star deck (Some p) star =
        ap (λ (b : Bool). prepared_by n.known (cond b (send_of p t (state_of n.tasks t).outstanding) NoNeed))
        (no_send deck n p t star (idle-parts n idle).1)

pub idle-settles : (n : NodeState) → is_idle n ≡ true → ComesToNothing n choices.Settle
unfolding prepare star_call
idle-settles n idle = λ deck. by_star deck n.star refl
  where
    by_star : (deck : Deck) (o : Option StarPart) → n.star ≡ o → star_call deck n o choices.Settle ≡ Nothing
    by_star deck None star = refl
    by_star deck (Some p) star =
        ap (λ (q : Option Req). prepared_by n.known (settle_by p q)) (no_held n p star (idle-parts n idle).1)

pub idle-tells : (n : NodeState) (e : ℕ) → is_idle n ≡ true → ComesToNothing n (choices.Tell e)
unfolding prepare star_call
idle-tells n e idle = λ deck. by_star deck n.star refl
  where
    by_star : (deck : Deck) (o : Option StarPart) → n.star ≡ o → star_call deck n o (choices.Tell e) ≡ Nothing
    by_star deck None star = refl
    by_star deck (Some p) star =
        ap (λ (x : Option (TaskId × Res)). prepared_by n.known (tell_by x)) (no_tell n p e star (idle-parts n idle).1)

-- nothing is pending, so the system is idle
pending-idle : (deck : Deck) (n : NodeState) → is_pending deck n ≡ false → is_idle n ≡ true
pending-idle deck n none =
    let parts = none_pending_parts deck n none in ap not (or_from _ _ parts.tasks parts.star)

pub not-pending : (deck : Deck) (n : NodeState) (b : Bool) → b ≡ is_pending deck n → not b ≡ true → is_idle n ≡ true
not-pending deck n true is h = cc
not-pending deck n false is h = pending-idle deck n (sym is)

-- ---- tasks that have ended or wait

end-goes : (p : Phase) → is_over (end_in p) ≡ true → goes_on p ≡ false
end-goes phases.Ready over = cc
end-goes phases.ToSend over = refl
end-goes phases.Sent over = refl
end-goes phases.HeldAnswer over = refl
end-goes (phases.HeldLine r) over = refl
end-goes (phases.Ending c) over = cc
end-goes phases.Ended over = refl

end-sends : (p : Phase) → is_over (end_in p) ≡ true → is_to_send p ≡ false
end-sends phases.Ready over = refl
end-sends phases.ToSend over = cc
end-sends phases.Sent over = refl
end-sends phases.HeldAnswer over = refl
end-sends (phases.HeldLine r) over = refl
end-sends (phases.Ending c) over = refl
end-sends phases.Ended over = refl

pub over-goes : (n : NodeState) (t : TaskId) → is_over (end_in (state_of n.tasks t).phase) ≡ true
    → ComesToNothing n (choices.Task t)
over-goes n t over = λ deck. task-nothing deck n t (λ is. end-goes (state_of n.tasks t).phase over)

pub over-sends : (n : NodeState) (t : TaskId) → is_over (end_in (state_of n.tasks t).phase) ≡ true
    → ComesToNothing n (choices.Send t)
over-sends n t over = λ deck. send-nothing deck n t (λ is. end-sends (state_of n.tasks t).phase over)
