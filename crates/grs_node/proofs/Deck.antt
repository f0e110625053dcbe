-- The scripts of its own system, and a walk over jobs, give a system what the deck says of a task.
use Rattle.std.proofs.Common.{◌≡◌, ◌<◌, ◌≤◌, ◌+◌, ◌-◌, ℕ, zero, suc, Bool, true, false, cond, List, [], ◌∷◌, ◌++◌}
use Rattle.std.proofs.Common.{length, drop, get_or, Option, Some, None, refl, ap, sym, ◌∙◌, arith}
use Rattle.std.specs.Prelude.{◌&&◌, ◌==◌, nat_lt, slice_get, is_some}
use Rattle.std.proofs.lemmas.Bool.{and_parts, eqb-true}
use Rattle.grs_base.specs.declared.line.Line.{Line}
use Rattle.grs_base.specs.declared.rnl.Lists.{Lists}
use Rattle.grs_base.specs.declared.resource.TaskId.{TaskId}
use Rattle.grs_legal.specs.Asks.{Script, scripts_in, scripts_from, scripts_of, lines_at, lines_in, lines_of, meanings}
use Rattle.grs_wire.specs.declared.deck.Deck.{Deck}
use Rattle.grs_wire.specs.declared.deck.JobDef.{JobDef}
use Rattle.grs_wire.specs.declared.deck.TaskDef.{TaskDef}
use Rattle.grs_wire.specs.declared.deck.Choice.TheVariants as choices
use Rattle.task_state.specs.View.{is_task, state_of}
use Rattle.grs_node.specs.Node.{NodeState, prepare, may_go, goes_on, is_of_deck}
use Rattle.grs_node.specs.declared.prepared.Prepared.TheVariants.{Quiet, Nothing}

-- ---- the own system
-- a task of a system has that system's number
own : (deck : Deck) (n : NodeState) (t : TaskId) → is_task n.tasks t ≡ true
    → scripts_of deck n.tasks.system ≡ scripts_of deck t.system.0
own deck n t h =
    ap (λ s. scripts_of deck s) (eqb-true n.tasks.system t.system.0
    (and_parts (n.tasks.system == t.system.0) (nat_lt t.task (length n.tasks.tasks)) h).0)

is_some-meanings : (lists : Lists) (t : TaskId) (o : Option (List Line)) → is_some (meanings lists t o) ≡ is_some o
is_some-meanings lists t None = refl
is_some-meanings lists t (Some ls) = refl

-- whether a task may go
pub may_go-own : (deck : Deck) (n : NodeState) (t : TaskId)
    → (is_task n.tasks t
    && (is_some (lines_in (scripts_of deck n.tasks.system) t) && goes_on (state_of n.tasks t).phase))
    ≡ may_go deck n t
unfolding may_go
may_go-own deck n t = go (is_task n.tasks t) refl
  where
    go : (b : Bool) → is_task n.tasks t ≡ b
        → (b && (is_some (lines_in (scripts_of deck n.tasks.system) t) && goes_on (state_of n.tasks t).phase))
        ≡ (b && (is_some (lines_of deck t) && goes_on (state_of n.tasks t).phase))
    go false e = refl
    go true e =
        ap (λ b. b && goes_on (state_of n.tasks t).phase) (ap (λ s. is_some (lines_in s t)) (own deck n t e)
        ∙ sym (is_some-meanings deck.lists t (lines_in (scripts_of deck t.system.0) t)))

-- a task that is prepared to go is of its system
if_quiet : (b : Bool) → cond b Quiet Nothing ≡ Quiet → b ≡ true
if_quiet true h = refl
if_quiet false h = cc

pub quiet-task : (deck : Deck) (n : NodeState) (t : TaskId) → prepare deck n (choices.Task t) ≡ Quiet
    → is_task n.tasks t ≡ true
unfolding prepare may_go
quiet-task deck n t h = (and_parts _ _ (if_quiet _ h)).0

pub lines-own : (deck : Deck) (n : NodeState) (t : TaskId) → prepare deck n (choices.Task t) ≡ Quiet
    → meanings deck.lists t (lines_in (scripts_of deck n.tasks.system) t) ≡ lines_of deck t
lines-own deck n t h = ap (λ s. meanings deck.lists t (lines_in s t)) (own deck n t (quiet-task deck n t h))

pub ruleset of_system = (may_go-own, quiet-task, lines-own)

-- ---- any system
-- a task is of the deck where it is among the tasks of its system
pub is_of_deck-lines : (deck : Deck) (t : TaskId)
    → is_some (lines_in (scripts_of deck t.system.0) t) ≡ is_of_deck deck t
is_of_deck-lines deck t = sym (is_some-meanings deck.lists t (lines_in (scripts_of deck t.system.0) t))

-- the task at a place among those of one job, and then those of others
within : (job place k : ℕ) (ts : List TaskDef) (rest : List Script) → k < length ts
    → is_some (lines_at job (slice_get (scripts_in place ts ++ rest) k)) ≡ (place == job)
within job place k [] rest h = absurd (omega (arith, h))
within job place zero (t ∷ ts) rest h = go (place == job)
  where
    go : (b : Bool) → is_some (cond b (Some t.lines) None) ≡ b
    go true = refl
    go false = refl
within job place (suc k) (t ∷ ts) rest h = within job place k ts rest (omega (arith, h))

behind : (place k : ℕ) (ts : List TaskDef) (rest : List Script) → length ts ≤ k
    → slice_get (scripts_in place ts ++ rest) k ≡ slice_get rest (k - length ts)
behind place k [] rest h = ap (λ m. slice_get rest m) (omega arith)
behind place zero (t ∷ ts) rest h = absurd (omega (arith, h))
behind place (suc k) (t ∷ ts) rest h =
    behind place k ts rest (omega (arith, h)) ∙ ap (λ m. slice_get rest m) (omega (arith, h))

-- the task at a place among those of these jobs
lines_at-within : (job place k : ℕ) (j : JobDef) (js : List JobDef) → k < length j.tasks
    → is_some (lines_at job (slice_get (scripts_from place (j ∷ js)) k)) ≡ (place == job)
lines_at-within job place k j js h = within job place k j.tasks (scripts_from (suc place) js) h

lines_at-behind : (job place k : ℕ) (j : JobDef) (js : List JobDef) → length j.tasks ≤ k
    → is_some (lines_at job (slice_get (scripts_from place (j ∷ js)) k))
    ≡ is_some (lines_at job (slice_get (scripts_from (suc place) js) (k - length j.tasks)))
lines_at-behind job place k j js h =
    let same : slice_get (scripts_from place (j ∷ js)) k
    ≡ slice_get (scripts_from (suc place) js) (k - length j.tasks) =
    behind place k j.tasks (scripts_from (suc place) js) h in
    ap (λ (o : Option Script). is_some (lines_at job o)) same

drop-first : (js : List JobDef) (i : ℕ) (j : JobDef) → i < length js → j ≡ get_or js i j
    → drop i js ≡ j ∷ drop (suc i) js
drop-first [] i j h e = absurd (omega (arith, h))
drop-first (x ∷ js) zero j h e = ap (λ y. y ∷ js) (sym e)
drop-first (x ∷ js) (suc i) j h e = drop-first js i j (omega (arith, h)) e

-- the walk ends within a job, or goes on behind it
pub walk-within : (job i k : ℕ) (js : List JobDef) (j : JobDef) → i < length js → j ≡ get_or js i j → k < length j.tasks
    → is_some (lines_at job (slice_get (scripts_from i (drop i js)) k)) ≡ (i == job)
walk-within job i k js j h e w =
    ap (λ xs. is_some (lines_at job (slice_get (scripts_from i xs) k))) (drop-first js i j h e)
    ∙ lines_at-within job i k j (drop (suc i) js) w

pub walk-behind : (job i k n : ℕ) (js : List JobDef) (j : JobDef) → i < length js → j ≡ get_or js i j
    → n ≡ length j.tasks → n ≤ k
    → is_some (lines_at job (slice_get (scripts_from i (drop i js)) k))
    ≡ is_some (lines_at job (slice_get (scripts_from (i + 1) (drop (i + 1) js)) (k - n)))
walk-behind job i k n js j h e c b =
    let past : length j.tasks ≤ k = omega (arith, c, b) in
    let next : suc i ≡ i + 1 = omega arith in
    ap (λ xs. is_some (lines_at job (slice_get (scripts_from i xs) k))) (drop-first js i j h e)
    ∙ (lines_at-behind job i k j (drop (suc i) js) past
    ∙ (ap (λ m. is_some (lines_at job (slice_get (scripts_from m (drop m js)) (k - length j.tasks)))) next
    ∙ ap (λ m. is_some (lines_at job (slice_get (scripts_from (i + 1) (drop (i + 1) js)) (k - m)))) (sym c)))

pub ruleset of_deck = (is_of_deck-lines)
