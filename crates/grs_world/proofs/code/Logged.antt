-- What the event that is taken out of a log fixed and told.
use Rattle.grs_world.proofs.Common.{[], ◌++◌, ◌∙◌, ◌∷◌, ◌≡◌, ap, Choice, drop, false, finish, length, List, NodeView}
use Rattle.grs_world.proofs.Common.{None, Option, refl, Reply, Some, sym, true}
use Rattle.grs_node.specs.Log.{shown, step_done, finished}
use Rattle.std.specs.Prelude.{◌≢◌}
use Rattle.grs_wire.specs.declared.log.StepDone.{StepDone}
use Rattle.grs_wire.specs.Replies.{leaves_all}
use Rattle.grs_node.proofs.Finish.{replies_leave}
use Rattle.grs_world.specs.Done.{done_of, last_done, done_by, journalled}

-- nothing is behind all lines
pub drop-all : {X : Type 0} (xs : List X) → drop (length xs) xs ≡ []
drop-all [] = refl
drop-all (x ∷ xs) = drop-all xs

finished-node : (v : NodeView) (choice : Choice) (reply : Option Reply)
    → (finished v choice (journalled reply)).node ≡ (finish v.deck v.node choice reply).node
unfolding finished
finished-node v choice None = refl
finished-node v choice (Some reply) = refl

-- the last event of a log
pub last_done-behind : (log : List StepDone) (step : StepDone) → last_done (log ++ step ∷ []) ≡ done_of step
last_done-behind [] step = refl
last_done-behind (s ∷ []) step = refl
last_done-behind (s ∷ t ∷ ts) step = last_done-behind (t ∷ ts) step

-- of the log of a system that finished a choice
finished-done : (v : NodeView) (choice : Choice) (reply : Option Reply)
    → last_done (finished v choice (journalled reply)).log ≡ done_by v.node (finish v.deck v.node choice reply)
unfolding finished
finished-done v choice None = last_done-behind v.log (step_done v.node choice false (finish v.deck v.node choice None))
finished-done v choice (Some reply) =
    last_done-behind v.log (step_done v.node choice true (finish v.deck v.node choice (Some reply)))

-- which isn't empty
some-behind : (log : List StepDone) (step : StepDone) → log ++ step ∷ [] ≢ []
some-behind [] step h = absurd (cc)
some-behind (s ∷ log) step h = absurd (cc)

finished-some : (v : NodeView) (choice : Choice) (reply : Option Reply)
    → (finished v choice (journalled reply)).log ≢ []
unfolding finished
finished-some v choice None = some-behind v.log (step_done v.node choice false (finish v.deck v.node choice None))
finished-some v choice (Some reply) =
    some-behind v.log (step_done v.node choice true (finish v.deck v.node choice (Some reply)))

-- the same of the system that was finished, whatever room both have
pub shown-node : (v w : NodeView) (choice : Choice) (reply : Option Reply)
    → shown w ≡ finished (shown v) choice (journalled reply) → w.node ≡ (finish v.deck v.node choice reply).node
shown-node v w choice reply is = ap (λ (u : NodeView). u.node) is ∙ finished-node (shown v) choice reply

pub shown-done : (v w : NodeView) (choice : Choice) (reply : Option Reply)
    → shown w ≡ finished (shown v) choice (journalled reply)
    → last_done w.log ≡ done_by v.node (finish v.deck v.node choice reply)
shown-done v w choice reply is = ap (λ (u : NodeView). last_done u.log) is ∙ finished-done (shown v) choice reply

pub shown-some : (v w : NodeView) (choice : Choice) (reply : Option Reply)
    → shown w ≡ finished (shown v) choice (journalled reply) → w.log ≢ []
shown-some v w choice reply is h =
    finished-some (shown v) choice reply (sym (ap (λ (u : NodeView). u.log) is) ∙ h)

-- a reply that leaves the system as it is
pub left-node : (v : NodeView) (choice : Choice) (reply : Reply) → leaves_all reply ≡ true
    → v.node ≡ (finish v.deck v.node choice (Some reply)).node
left-node v choice reply h = sym (ap (λ s. s.node) (replies_leave v.deck v.node choice reply h))

pub left-done : (v : NodeView) (choice : Choice) (reply : Reply) → leaves_all reply ≡ true
    → record { fixed = []; told = [] } ≡ done_by v.node (finish v.deck v.node choice (Some reply))
left-done v choice reply h =
    ap (λ ls. record { fixed = []; told = ls }) (sym (drop-all v.node.tasks.told))
    ∙ sym (ap (done_by v.node) (replies_leave v.deck v.node choice reply h))

pub ruleset leaving_steps = (left-node, left-done)

pub ruleset taken_steps = (last_done-behind)

pub ruleset nothing_told = (drop-all)
