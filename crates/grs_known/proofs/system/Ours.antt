-- What holds of all tasks of the system, and telling control to some of them.
use Rattle.std.proofs.Common.{◌≡◌, ◌≢◌, ℕ, Bool, true, false, cond, List, Option, Some, None, refl, ap, sym, ◌∙◌, subst}
use Rattle.std.proofs.Common.{arith}
use Rattle.std.specs.Prelude.{slice_get, ◌==◌}
use Rattle.std.proofs.lemmas.Bool.{eqb-true, eq-eqb}
use Rattle.grs_base.specs.Same.{same_task}
use Rattle.grs_base.specs.declared.resource.TaskId.{TaskId}
use Rattle.grs_base.specs.declared.rnl.Lists.{Lists}
use Rattle.grs_legal.specs.declared.meaning.Meaning.{Meaning}
use Rattle.grs_base.proofs.SameLaws.{same_task-exact}
use Rattle.grs_wire.specs.declared.deck.Deck.{Deck}
use Rattle.grs_wire.specs.declared.history.HistEntry.{HistEntry}
use Rattle.grs_wire.specs.declared.told.ToldLine.{ToldLine}
use Rattle.grs_legal.specs.Asks.{Script, scripts_of, lines_at, meanings, lines_of}
use Rattle.task_state.specs.declared.state.TaskState.{TaskState}
use Rattle.task_state.specs.View.{TasksView, is_task, state_of, with_state, telling}
use Rattle.task_state.proofs.ViewLaws.{state_of-other, is_task-state, state_of-telling, is_task-telling}
use Rattle.task_state.proofs.Stays.{system-state, system-telling}
use Rattle.grs_known.specs.Told.{AgreesOf, LineAgrees}
use Rattle.grs_known.proofs.tasks.Invariant.{IsTask}
use Rattle.grs_known.proofs.system.Asking.{unasked, IsOpen, IsLooks, Opens, IsAskedBy, are_sent}
use Rattle.task_state.specs.Replies.{is_leaving}
use Rattle.grs_known.specs.Items.{RunItem, mine}
use Rattle.grs_known.specs.Known.{Known, outstanding}
use Rattle.grs_known.specs.Past.{past_of}
use Rattle.grs_known.proofs.known.Knowing.{one}
use Rattle.grs_known.proofs.known.Knows.{Knows}

-- a task of the deck that is of this system
pub record IsOurs (deck : Deck) (s : ℕ) (v : TasksView) (t : TaskId) (ls : List Meaning) : Type 0 where
  pub lines : lines_of deck t ≡ Some ls
  pub home : t.system.0 ≡ s
  pub here : is_task v t ≡ true

-- What holds of a task of the system, where the run has these items: what is known of it is right, its system has still
-- to process just its outstanding item, and it stands as it should by its past, as do the looks that it has
-- outstanding.
pub record IsHere (deck : Deck) (os : Opens) (P : List RunItem) (T : List ToldLine) (t : TaskId) (ls : List Meaning)
    (x : TaskState) :
    Type 0 where
  pub known : Known
  pub knows : Knows P t x.outstanding known
  pub due : mine t os.later ≡ one (outstanding t known P)
  pub task : IsTask ls (past_of t known P) T (λ r. is_leaving r x.outstanding) t (unasked x)
  pub opened : IsOpen deck.limit ls t x
  pub looks : IsLooks ls (past_of t known P).asked x.line x.outstanding
  pub asked : IsAskedBy t x.outstanding os.all
  pub sent : are_sent t x.phase os.out ≡ true

-- What holds of all tasks of the system.
pub record Holds (deck : Deck) (s : ℕ) (os : Opens) (P : List RunItem) (v : TasksView) : Type 0 where
  pub each : (t : TaskId) (ls : List Meaning) → IsOurs deck s v t ls → IsHere deck os P v.told t ls (state_of v t)

-- Tasks that differ in one task and in what was told.
pub record IsChanged (v w : TasksView) (t : TaskId) : Type 0 where
  pub here : (u : TaskId) → is_task w u ≡ is_task v u
  pub others : (u : TaskId) → u.task ≢ t.task → state_of w u ≡ state_of v u
  pub system : w.system ≡ v.system

pub changed-state : (v : TasksView) (t : TaskId) (f : TaskState → TaskState) → IsChanged v (with_state v t f) t
changed-state v t f = record {
  here = λ u. is_task-state v t u f;
  others = λ u apart. state_of-other v t u f apart;
  system = system-state v t f;
}

pub changed-telling : (v : TasksView) (t : TaskId) (l : ToldLine) → IsChanged v (telling v l) t
changed-telling v t l = record {
  here = λ u. is_task-telling v u l;
  others = λ u apart. state_of-telling v u l;
  system = system-telling v l;
}

pub changed-then : (v w x : TasksView) (t : TaskId) → IsChanged v w t → IsChanged w x t → IsChanged v x t
changed-then v w x t a b = record {
  here = λ u. b.here u ∙ a.here u;
  others = λ u apart. b.others u apart ∙ a.others u apart;
  system = b.system ∙ a.system;
}

pub changed-none : (v : TasksView) (t : TaskId) → IsChanged v v t
changed-none v t = record { here = λ u. refl; others = λ u apart. refl; system = refl }

-- two tasks of the deck at one place of this system are one
job_at : (lists : Lists) (t : TaskId) (o : Option Script) (ls : List Meaning)
    → meanings lists t (lines_at t.job o) ≡ Some ls → (s : Script) → o ≡ Some s → s.job ≡ t.job
job_at lists t None ls h s e = cc
job_at lists t (Some x) ls h s e = go (x.job == t.job) refl h
  where
    go : (b : Bool) → (x.job == t.job) ≡ b → meanings lists t (cond b (Some x.lines) None) ≡ Some ls → s.job ≡ t.job
    go true f g = let same : x ≡ s = cc in subst (λ (z : Script). z.job ≡ t.job) same (eqb-true x.job t.job f)
    go false f g = cc

pub script_at : (lists : Lists) (t : TaskId) (o : Option Script) (ls : List Meaning)
    → meanings lists t (lines_at t.job o) ≡ Some ls → (s : Script) × (o ≡ Some s)
script_at lists t None ls h = absurd (cc)
script_at lists t (Some s) ls h = (s, refl)

-- where two tasks of the deck stand at one place, they are one
pub same_place : (deck : Deck) (s : ℕ) (v : TasksView) (t u : TaskId) (ls ms : List Meaning) → IsOurs deck s v t ls
    → IsOurs deck s v u ms → t.task ≡ u.task → same_task t u ≡ true
same_place deck s v t u ls ms a b e =
    let mine = script_at deck.lists t (slice_get (scripts_of deck t.system.0) t.task) ls a.lines in
    let jt : (mine.0).job ≡ t.job = job_at deck.lists t _ ls a.lines mine.0 mine.1 in
    let at : slice_get (scripts_of deck u.system.0) u.task ≡ Some mine.0 =
    ap (λ k. slice_get (scripts_of deck u.system.0) k) (sym e)
    ∙ ap (λ n. slice_get (scripts_of deck n) t.task) (b.home ∙ sym a.home)
    ∙ mine.1 in
    let ju : (mine.0).job ≡ u.job = job_at deck.lists u _ ms b.lines mine.0 at in
    let systems : (t.system.0 == u.system.0) ≡ true = eq-eqb _ _ (a.home ∙ sym b.home) in
    let jobs : (t.job == u.job) ≡ true = eq-eqb _ _ (sym jt ∙ ju) in
    let tasks : (t.task == u.task) ≡ true = eq-eqb _ _ e in
    rw (systems, jobs, tasks) refl

ours-before : (deck : Deck) (s : ℕ) (v w : TasksView) (t u : TaskId) (ls : List Meaning) → IsChanged v w t
    → IsOurs deck s w u ls → IsOurs deck s v u ls
ours-before deck s v w t u ls c o = record { lines = o.lines; home = o.home; here = sym (c.here u) ∙ o.here }

-- what holds after one task changed
pub holds-changed :
    (deck : Deck) (s : ℕ) (os os' : Opens) (P Q : List RunItem) (v w : TasksView) (t : TaskId) (ms : List Meaning)
    →
    Holds deck s os P v → IsChanged v w t → IsOurs deck s v t ms →
    ((u : TaskId) (ls : List Meaning) → IsOurs deck s v u ls → same_task u t ≡ false
    → IsHere deck os P v.told u ls (state_of v u) → IsHere deck os' Q w.told u ls (state_of v u))
    →
    IsHere deck os' Q w.told t ms (state_of w t) →
    Holds deck s os' Q w
holds-changed deck s os os' P Q v w t ms h c ours others
    own = record { each = λ u ls o. go u ls (ours-before deck s v w t u ls c o) (same_task u t) refl }
  where
    go : (u : TaskId) (ls : List Meaning) → IsOurs deck s v u ls → (b : Bool) → same_task u t ≡ b
        → IsHere deck os' Q w.told u ls (state_of w u)
    go u ls o true same =
        let e : t ≡ u = sym (same_task-exact u t same) in
        let m : Some ms ≡ Some ls = sym ours.lines ∙ ap (λ z. lines_of deck z) e ∙ o.lines in
        let l : ms ≡ ls = cc in
        subst (λ z. IsHere deck os' Q w.told z ls (state_of w z)) e
        (subst (λ z. IsHere deck os' Q w.told t z (state_of w t)) l own)
    go u ls o false apart =
        subst (λ z. IsHere deck os' Q w.told u ls z)
        (sym (c.others u (λ e. absurd (grind (arith, apart, same_place deck s v u t ls ms o ours e)))))
        (others u ls o apart (h.each u ls o))

-- a line told to a task of ours is of a task of the system
pub ours-line : (deck : Deck) (s : ℕ) (v : TasksView) (t : TaskId) (ls : List Meaning) → IsOurs deck s v t ls
    → (t.system.0 == s) ≡ true
ours-line deck s v t ls o = eq-eqb _ _ o.home

pub agrees-ours : (deck : Deck) (t : TaskId) (ls : List Meaning) (P : List HistEntry) (T : List ToldLine) (l : ToldLine)
    → lines_of deck t ≡ Some ls → LineAgrees deck.limit ls P T l → AgreesOf deck.limit (lines_of deck t) P T l
agrees-ours deck t ls P T l e h = subst (λ o. AgreesOf deck.limit o P T l) (sym e) h
