-- What happens to a system outside star mode leaves its part there, what it knows of removed systems, and which lines
-- of its desk are done; and what its tasks do leaves its table.
use Rattle.std.proofs.Common.{◌≡◌, ℕ, zero, suc, Bool, true, false, cond, List, [], ◌∷◌, Option, Some, None, refl, ap}
use Rattle.std.proofs.Common.{◌∙◌}
use Rattle.std.specs.Prelude.{slice_get}
use Rattle.grs_base.specs.State.{State}
use Rattle.grs_legal.specs.declared.meaning.Display.{Display}
use Rattle.grs_legal.specs.declared.meaning.Meaning.{Meaning}
use Rattle.grs_legal.specs.declared.meaning.Meaning.TheVariants as lines
use Rattle.grs_node.specs.Node.{NodeState, Step, decide, post, ask, has_most, look_home, look_around, show, take_line}
use Rattle.grs_node.specs.Node.{end_step, ready_step, phase_step, task_step, read_entry, read_entries, put_in}
use Rattle.grs_node.specs.Node.{is_of_deck, with_side, with_tasks}
use Rattle.grs_wire.specs.Wants.{res_wanted, is_for_all}
use Rattle.grs_wire.specs.declared.deck.Deck.{Deck}
use Rattle.grs_wire.specs.declared.medium.RingBody.{RingBody}
use Rattle.grs_wire.specs.declared.medium.RingBody.TheVariants as bodies
use Rattle.grs_wire.specs.declared.medium.RingEntry.{RingEntry}
use Rattle.grs_base.specs.declared.resource.SysId.{SysId}
use Rattle.grs_base.specs.declared.resource.TaskId.{TaskId}
use Rattle.grs_wire.specs.declared.request.Want.{Want}
use Rattle.grs_node.specs.Star.{StarPart}
use Rattle.grs_wire.specs.declared.request.Want.TheVariants.{Enq, Deq, Release}
use Rattle.ring_mode.specs.Ring.{side_of, process_entry}
use Rattle.task_state.specs.declared.state.Phase.{Phase}
use Rattle.task_state.specs.declared.state.Phase.TheVariants as phases
use Rattle.task_state.specs.declared.state.Rec.{Rec}
use Rattle.task_state.specs.View.{TasksView, state_of, with_phase, with_line}

-- its part in star mode, its table of the Systems resources, what it knows of removed systems, and how many lines of
-- its desk are done
abbrev pub Rest : Type 0
Rest = Option StarPart × State × ℕ × ℕ

abbrev pub rest_of : NodeState → Rest
rest_of n = (n.star, n.shared, n.known, n.done)

either-rest : (b : Bool) (x y : Step) (o : Rest) → rest_of x.node ≡ o → rest_of y.node ≡ o
    → rest_of (cond b x y).node ≡ o
either-rest true x y o p q = p
either-rest false x y o p q = q

rest-post : (n : NodeState) (t : TaskId) (w : Want) (unit : Option ℕ) → rest_of (post n t w unit).node ≡ rest_of n
unfolding post
rest-post n t w unit = refl

rest-decide : (n : NodeState) (t : TaskId) (w : Want) (unit : Option ℕ) → rest_of (decide n t w unit).node ≡ rest_of n
unfolding decide
rest-decide n t w unit = refl

rest-ask : (n : NodeState) (t : TaskId) (w : Want) (unit : Option ℕ) → rest_of (ask n t w unit).node ≡ rest_of n
unfolding ask
rest-ask n t w unit =
    either-rest (is_for_all (res_wanted w)) (post n t w unit) (decide n t w unit) (rest_of n) (rest-post n t w unit)
    (rest-decide n t w unit)

-- a display: its system's own look, and then the looks that it asks for
rest-home : (n : NodeState) (t : TaskId) (d : Display) (home : Option SysId)
    → rest_of (look_home n t d home).node ≡ rest_of n
rest-home n t d None = refl
rest-home n t d (Some s) = refl

rest-around : (n : NodeState) (t : TaskId) (d : Display) (count : ℕ) → rest_of (look_around n t d count) ≡ rest_of n
rest-around n t d zero = refl
rest-around n t d (suc more) = refl

rest-show : (n : NodeState) (t : TaskId) (d : Display) → rest_of (show n t d).node ≡ rest_of n
unfolding show
rest-show n t d = let home : Step = look_home n t d d.home in rest-around home.node t d d.count ∙ rest-home n t d d.home

rest-take : (limit : ℕ) (n : NodeState) (t : TaskId) (l : Meaning) → rest_of (take_line limit n t l).node ≡ rest_of n
unfolding take_line
rest-take limit n t (lines.Enq r c ret unit) = rest-ask n t (Enq r c ret (has_most limit n.tasks t)) unit
rest-take limit n t (lines.Deq r have) = rest-ask n t (Deq r have) None
rest-take limit n t (lines.Wait r) = refl
rest-take limit n t (lines.Shows d) = rest-show n t d
rest-take limit n t lines.Nothing = refl

rest-end : (n : NodeState) (t : TaskId) (code : ℕ) (xs : List Rec) → rest_of (end_step n t code xs).node ≡ rest_of n
unfolding end_step
rest-end n t code [] = refl
rest-end n t code (x ∷ xs) = rest-ask n t (Release x.res) None

rest-ready : (limit : ℕ) (n : NodeState) (t : TaskId) (l : Option Meaning)
    → rest_of (ready_step limit n t l).node ≡ rest_of n
unfolding ready_step
rest-ready limit n t None =
    let v : TasksView = with_phase n.tasks t (phases.Ending 0) in rest-end (with_tasks n v) t 0 (state_of v t).records
rest-ready limit n t (Some l) = rest-take limit (with_tasks n (with_line n.tasks t)) t l

rest-phase : (limit : ℕ) (n : NodeState) (t : TaskId) (ls : List Meaning) (p : Phase)
    → rest_of (phase_step limit n t ls p).node ≡ rest_of n
unfolding phase_step
rest-phase limit n t ls phases.Ready = rest-ready limit n t (slice_get ls (state_of n.tasks t).line)
rest-phase limit n t ls (phases.Ending c) = rest-end n t c (state_of n.tasks t).records
rest-phase limit n t ls phases.ToSend = refl
rest-phase limit n t ls phases.Sent = refl
rest-phase limit n t ls phases.HeldAnswer = refl
rest-phase limit n t ls (phases.HeldLine r) = refl
rest-phase limit n t ls phases.Ended = refl

-- a task goes on
pub rest-task : (limit : ℕ) (n : NodeState) (t : TaskId) (ls : Option (List Meaning))
    → rest_of (task_step limit n t ls).node ≡ rest_of n
rest-task limit n t None = refl
rest-task limit n t (Some ls) = rest-phase limit n t ls (state_of n.tasks t).phase

pub star-task : (limit : ℕ) (n : NodeState) (t : TaskId) (ls : Option (List Meaning))
    → (task_step limit n t ls).node.star ≡ n.star
star-task limit n t ls = ap (λ (x : Rest). x.0) (rest-task limit n t ls)

pub shared-task : (limit : ℕ) (n : NodeState) (t : TaskId) (ls : Option (List Meaning))
    → (task_step limit n t ls).node.shared ≡ n.shared
shared-task limit n t ls = ap (λ (x : Rest). x.1) (rest-task limit n t ls)

-- the same without its table
pub record Stays (n k : NodeState) : Type 0 where
  pub star : k.star ≡ n.star
  pub known : k.known ≡ n.known
  pub done : k.done ≡ n.done

pub stays-task : (limit : ℕ) (n : NodeState) (t : TaskId) (ls : Option (List Meaning))
    → Stays n (task_step limit n t ls).node
stays-task limit n t ls =
    let h = rest-task limit n t ls in
    record { star = ap (λ (x : Rest). x.0) h; known = ap (λ (x : Rest). x.2) h; done = ap (λ (x : Rest). x.3) h }

stays-entry : (deck : Deck) (n : NodeState) (b : RingBody) → Stays n (read_entry deck n b)
stays-entry deck n (bodies.Request q) = go (is_of_deck deck q.task)
  where
    go : (b : Bool) → Stays n (cond b (with_side n (process_entry (side_of n.tasks n.shared) q)) n)
    go true = record { star = refl; known = refl; done = refl }
    go false = record { star = refl; known = refl; done = refl }
stays-entry deck n (bodies.Remove target) = record { star = refl; known = refl; done = refl }

-- entries of the message are read, and requests put in
pub stays-entries : (deck : Deck) (n : NodeState) (es : List RingEntry) → Stays n (read_entries deck n es)
unfolding read_entries
stays-entries deck n [] = record { star = refl; known = refl; done = refl }
stays-entries deck n (e ∷ es) =
    let h = stays-entry deck n e.body in
    let k = stays-entries deck (read_entry deck n e.body) es in
    record { star = k.star ∙ h.star; known = k.known ∙ h.known; done = k.done ∙ h.done }

pub stays-turned : (deck : Deck) (n : NodeState) (es : List RingEntry) (taken : ℕ)
    → Stays n (put_in (read_entries deck n es) taken).node
unfolding put_in
stays-turned deck n es taken =
    let h = stays-entries deck n es in record { star = h.star; known = h.known; done = h.done }

pub star-turned : (deck : Deck) (n : NodeState) (es : List RingEntry) (taken : ℕ)
    → (put_in (read_entries deck n es) taken).node.star ≡ n.star
star-turned deck n es taken = (stays-turned deck n es taken).star
