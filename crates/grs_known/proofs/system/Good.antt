-- The tasks of a system: each stands as it should, by what is known of it.
use Rattle.std.proofs.Common.{◌≡◌, ℕ, Bool, true, false, List, [], ◌∷◌, ◌++◌, refl, ap, sym, ◌∙◌, subst}
use Rattle.std.specs.Prelude.{is_some, ◌==◌}
use Rattle.std.proofs.lemmas.Bool.{eq-eqb}
use Rattle.grs_base.specs.Same.{same_task}
use Rattle.grs_base.specs.declared.resource.Res.{Res}
use Rattle.grs_base.specs.declared.resource.TaskId.{TaskId}
use Rattle.grs_base.specs.declared.decision.Code.{Code}
use Rattle.grs_legal.specs.declared.meaning.Meaning.{Meaning}
use Rattle.grs_wire.specs.declared.deck.Deck.{Deck}
use Rattle.grs_wire.specs.declared.told.Verb.{Verb}
use Rattle.grs_wire.specs.declared.told.ToldLine.{ToldLine}
use Rattle.grs_legal.specs.Asks.{lines_of}
use Rattle.task_state.specs.declared.state.TaskState.{TaskState}
use Rattle.task_state.specs.View.{TasksView, is_task}
use Rattle.task_state.specs.Replies.{is_leaving}
use Rattle.task_state.proofs.ViewLaws.{is_task-system}
use Rattle.grs_known.specs.Items.{RunItem, is_of, removes_system_of, mine}
use Rattle.grs_known.specs.Past.{Past, past_of}
use Rattle.grs_known.proofs.known.Knowing.{one, outstanding-other}
use Rattle.grs_known.proofs.known.Knows.{knows-other, past-other}
use Rattle.grs_known.proofs.lists.Facts.{some_of}
use Rattle.grs_known.proofs.tasks.Asked.{told_after, by_code}
use Rattle.grs_known.proofs.tasks.Invariant.{IsTask}
use Rattle.grs_known.proofs.tasks.Others.{task-told}
use Rattle.grs_known.proofs.system.Asking.{unasked, IsLooks, Opens, IsAskedBy, are_sent}
use Rattle.grs_known.proofs.system.Ours.{IsOurs, Holds, IsHere}
use Rattle.grs_known.proofs.system.Says.{is_home_at}
use Rattle.grs_known.proofs.system.Telling.{IsHome}

-- The tasks of system s, where the run has these items.
pub record IsGood (deck : Deck) (s : ℕ) (os : Opens) (P : List RunItem) (v : TasksView) : Type 0 where
  -- each task stands as it should
  pub tasks : Holds deck s os P v
  -- each task of the deck and of the system is here
  pub here : (t : TaskId) → is_home_at deck s t ≡ true → is_task v t ≡ true
  pub system : v.system ≡ s

-- a task of the deck that is here is of the system
pub home-ours : (deck : Deck) (s : ℕ) (v : TasksView) (t : TaskId) → v.system ≡ s → is_some (lines_of deck t) ≡ true
    → is_task v t ≡ true → IsHome deck s v t
home-ours deck s v t system h here =
    let x = some_of (lines_of deck t) h in
    record { lines = x.0; ours = record { lines = x.1; home = sym (is_task-system v t here) ∙ system; here = here } }

pub ours-home : (deck : Deck) (s : ℕ) (v : TasksView) (t : TaskId) (ls : List Meaning) → IsOurs deck s v t ls
    → is_home_at deck s t ≡ true
ours-home deck s v t ls o = let a : (t.system.0 == s) ≡ true = eq-eqb _ _ o.home in rw (a, o.lines) refl

-- a code told to one task leaves the others
pub task-told_after :
    (ls : List Meaning) (p : Past) (T : List ToldLine) (leaving : Res → Bool) (u : TaskId) (x : TaskState) (t : TaskId)
    (k : ℕ) (verb : Verb) (c : Code)
    → same_task u t ≡ false → IsTask ls p T leaving u x → IsTask ls p (told_after T t k verb c) leaving u x
task-told_after ls p T leaving u x t k verb c apart h =
    by_code (λ d U. IsTask ls p U leaving u x) T t k verb h (λ d e. task-told ls p T leaving u x _ apart h) c

-- ---- what another task's request leaves
-- T' is what was told since T
abbrev pub Untold : List ToldLine → List ToldLine → TaskId → List Meaning → Type 0
Untold T T' u ls =
    (p : Past) (leaving : Res → Bool) (y : TaskState) → IsTask ls p T leaving u y → IsTask ls p T' leaving u y

-- a task stands as it did
pub here-kept :
    (deck : Deck) (os os' : Opens) (P : List RunItem) (T T' : List ToldLine) (u : TaskId) (ls : List Meaning)
    (x : TaskState)
    → mine u os'.later ≡ mine u os.later →
    (IsAskedBy u x.outstanding os.all → IsAskedBy u x.outstanding os'.all)
    → (are_sent u x.phase os.out ≡ true → are_sent u x.phase os'.out ≡ true) → Untold T T' u ls →
    IsHere deck os P T u ls x → IsHere deck os' P T' u ls x
here-kept deck os os' P T T' u ls x due asked sent told k = record {
  known = k.known;
  knows = k.knows;
  due = due ∙ k.due;
  task = told (past_of u k.known P) (λ r. is_leaving r x.outstanding) (unasked x) k.task;
  opened = k.opened;
  looks = k.looks;
  asked = asked k.asked;
  sent = sent k.sent;
}

-- and so it does where another task's item was fixed
pub here-other :
    (deck : Deck) (os : Opens) (P : List RunItem) (z : RunItem) (T : List ToldLine) (u : TaskId) (ls : List Meaning)
    (x : TaskState)
    → is_of u z.fixed ≡ false → removes_system_of u z.fixed ≡ false → IsHere deck os P T u ls x
    → IsHere deck os (P ++ z ∷ []) T u ls x
here-other deck os P z T u ls x apart live k = record {
  known = k.known;
  knows = knows-other P z u x.outstanding k.known apart live k.knows;
  due = k.due ∙ ap one (sym (outstanding-other u k.known P z apart));
  task =
      subst (λ p. IsTask ls p T (λ r. is_leaving r x.outstanding) u (unasked x)) (sym (past-other P z u k.known apart))
      k.task;
  opened = k.opened;
  looks = subst (λ (p : Past). IsLooks ls p.asked x.line x.outstanding) (sym (past-other P z u k.known apart)) k.looks;
  asked = k.asked;
  sent = k.sent;
}
