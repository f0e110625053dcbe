-- Steps of a task that fix nothing.
use Rattle.std.proofs.Common.{◌≡◌, ℕ, true, false, List, Option, None, ap, sym, ◌∙◌, subst}
use Rattle.grs_base.specs.Same.{same_task}
use Rattle.grs_base.specs.declared.resource.TaskId.{TaskId}
use Rattle.grs_legal.specs.declared.meaning.Meaning.{Meaning}
use Rattle.grs_wire.specs.declared.deck.Deck.{Deck}
use Rattle.grs_wire.specs.declared.told.ToldLine.{ToldLine}
use Rattle.task_state.specs.declared.state.Asked.{Asked}
use Rattle.task_state.specs.declared.state.Phase.{Phase}
use Rattle.task_state.specs.declared.state.TaskState.{TaskState}
use Rattle.task_state.specs.Replies.{is_leaving}
use Rattle.task_state.specs.View.{TasksView, state_of}
use Rattle.grs_known.specs.Items.{RunItem, mine, history}
use Rattle.grs_known.specs.Past.{Past}
use Rattle.grs_known.proofs.tasks.Invariant.{IsTask}
use Rattle.grs_known.proofs.system.Says.{ToldBy}
use Rattle.grs_known.proofs.system.Asking.{unasked, unasked-none, Opens, IsAskedBy, are_sent}
use Rattle.grs_known.proofs.system.Did.{Did}
use Rattle.grs_known.proofs.system.Events.{StaysGood}
use Rattle.grs_known.proofs.system.Good.{IsGood, Untold, here-kept}
use Rattle.grs_known.proofs.system.Ours.{IsOurs, IsHere, holds-changed}

-- a step that changes one task alone, and tells no more than lines to it
pub quiet_good :
    (deck : Deck) (s : ℕ) (os os' : Opens) (P : List RunItem) (v : TasksView) (good : IsGood deck s os P v) (t : TaskId)
    (ls : List Meaning) (ours : IsOurs deck s v t ls) (w : TasksView) (x : TaskState) (T : List ToldLine)
    →
    Did v w t x T → IsHere deck os' P T t ls x →
    ((u : TaskId) (o : Option Asked) → same_task u t ≡ false → IsAskedBy u o os.all → IsAskedBy u o os'.all) →
    ((u : TaskId) (p : Phase) → same_task u t ≡ false → are_sent u p os.out ≡ true → are_sent u p os'.out ≡ true) →
    os'.later ≡ os.later → ((u : TaskId) (ms : List Meaning) → same_task u t ≡ false → Untold v.told T u ms) →
    ToldBy deck s os'.all (history P) v.told T → StaysGood deck s os' P v.told w
quiet_good deck s os os' P v good t ls ours w x T did here asked sent same told agreed = record {
  good = record {
    tasks = holds-changed deck s os os' P P v w t ls good.tasks did.changed ours
        (λ u ms o apart k.
        here-kept deck os os' P v.told w.told u ms (state_of v u) (ap (mine u) same)
        (asked u (state_of v u).outstanding apart) (sent u (state_of v u).phase apart)
        (subst (λ U. Untold v.told U u ms) (sym did.told) (told u ms apart)) k)
        (subst (λ U. IsHere deck os' P U t ls (state_of w t)) (sym did.told)
        (subst (λ y. IsHere deck os' P T t ls y) (sym did.state) here));
    here = λ u h. did.changed.here u ∙ good.here u h;
    system = did.changed.system ∙ good.system;
  };
  told = subst (λ U. ToldBy deck s os'.all (history P) v.told U) (sym did.told) agreed;
}

-- a task in a phase, without an outstanding request
pub state-is : (x : TaskState) (ph : Phase) → x.phase ≡ ph → x.outstanding ≡ None
    → x ≡ record x { phase = ph; outstanding = None }
state-is x ph e o = ap (λ p. record x { phase = p }) e ∙ ap (λ z. record x { phase = ph; outstanding = z }) o

-- what holds of such a task
pub plain-task : (ls : List Meaning) (p : Past) (T : List ToldLine) (t : TaskId) (x : TaskState) (ph : Phase)
    → x.phase ≡ ph → x.outstanding ≡ None → IsTask ls p T (λ r. is_leaving r x.outstanding) t (unasked x)
    → IsTask ls p T (λ r. false) t (record x { phase = ph; outstanding = None })
plain-task ls p T t x ph e o k =
    subst (λ y. IsTask ls p T (λ r. false) t y) (state-is x ph e o)
    (subst (λ z. IsTask ls p T (λ r. is_leaving r z) t x) o
    (subst (λ y. IsTask ls p T (λ r. is_leaving r x.outstanding) t y) (unasked-none x o) k))
