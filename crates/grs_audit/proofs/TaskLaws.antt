-- A task that has lines is one of its system.
use Rattle.std.proofs.Common.{◌≡◌, ◌<◌, ◌≤◌, ◌+◌, ◌-◌, ℕ, zero, suc, Bool, true, false, cond, List, [], ◌∷◌, length}
use Rattle.std.proofs.Common.{take, Option, Some, None, refl, ap, sym, ◌∙◌, arith}
use Rattle.std.specs.Prelude.{◌==◌, nat_lt, slice_get}
use Rattle.std.proofs.lemmas.Bool.{eqb-true, ltb-true, ltb-false}
use Rattle.grs_base.specs.declared.line.Line.{Line}
use Rattle.grs_base.specs.declared.resource.TaskId.{TaskId}
use Rattle.grs_wire.specs.Decks.{task_count, IsTaskOf}
use Rattle.grs_wire.specs.declared.deck.Deck.{Deck}
use Rattle.grs_wire.specs.declared.deck.JobDef.{JobDef}
use Rattle.grs_wire.specs.declared.deck.SystemDef.{SystemDef}
use Rattle.grs_wire.specs.declared.deck.TaskDef.{TaskDef}
use Rattle.grs_legal.specs.Asks.{scripts_in, scripts_from, scripts_at, lines_at, lines_in, lines_of, meanings}
use Rattle.grs_legal.specs.declared.meaning.Meaning.{Meaning}
use Rattle.grs_track.proofs.WalkLaws.{get-front, get-back}

-- where a task stands among jobs, the first of which has this place
pub record Stands (i : ℕ) (js : List JobDef) (job k : ℕ) : Type 0 where
  pub x : ℕ
  pub held : JobDef
  pub place : ℕ
  pub is : job ≡ i + x
  pub there : slice_get js x ≡ Some held
  pub below : place < length held.tasks
  pub at : k ≡ task_count (take x js) + place

scripts-count : (job : ℕ) (ts : List TaskDef) → length (scripts_in job ts) ≡ length ts
scripts-count job [] = refl
scripts-count job (t ∷ ts) = ap suc (scripts-count job ts)

own-job : (job i k : ℕ) (ts : List TaskDef) (ls : List Line) → lines_at job (slice_get (scripts_in i ts) k) ≡ Some ls
    → job ≡ i
own-job job i k [] ls e = absurd (cc)
own-job job i zero (t ∷ ts) ls e = by_test (i == job) refl e
  where
    by_test : (b : Bool) → (i == job) ≡ b → cond b (Some t.lines) None ≡ Some ls → job ≡ i
    by_test true is f = sym (eqb-true i job is)
    by_test false is f = absurd (cc)
own-job job i (suc k) (t ∷ ts) ls e = own-job job i k ts ls e

stands-in : (i : ℕ) (js : List JobDef) (job k : ℕ) (ls : List Line)
    → lines_at job (slice_get (scripts_from i js) k) ≡ Some ls → Stands i js job k
stands-in i [] job k ls e = absurd (cc)
stands-in i (j ∷ js) job k ls e =
    by_test (nat_lt k (length j.tasks)) refl (λ f. stands-in (suc i) js job (k - length (scripts_in i j.tasks)) ls f)
  where
    count : length (scripts_in i j.tasks) ≡ length j.tasks
    count = scripts-count i j.tasks

    by_test : (b : Bool) → nat_lt k (length j.tasks) ≡ b
        → (lines_at job (slice_get (scripts_from (suc i) js) (k - length (scripts_in i j.tasks))) ≡ Some ls
        → Stands (suc i) js job (k - length (scripts_in i j.tasks))) → Stands i (j ∷ js) job k
    by_test true lt behind =
        let within : k < length j.tasks = ltb-true k (length j.tasks) lt in
        let same : job ≡ i =
        own-job job i k j.tasks ls
        (sym (ap (lines_at job) (get-front (scripts_in i j.tasks) (scripts_from (suc i) js) k (omega (arith, count, within))))
        ∙ e) in
        record {
          x = 0;
          held = j;
          place = k;
          is = omega (arith, same);
          there = refl;
          below = within;
          at = omega arith;
        }
    by_test false ge behind =
        let past : length j.tasks ≤ k = ltb-false k (length j.tasks) ge in
        let later =
        behind
        (sym (ap (lines_at job) (get-back (scripts_in i j.tasks) (scripts_from (suc i) js) k (omega (arith, count, past))))
        ∙ e) in
        record {
          x = suc later.x;
          held = later.held;
          place = later.place;
          is = let f = later.is in omega (arith, f);
          there = later.there;
          below = later.below;
          at = let f = later.at in omega (arith, f, count, past);
        }

-- a task of which the deck has lines, with its system
pub record IsOfSystem (deck : Deck) (t : TaskId) : Type 0 where
  pub system : SystemDef
  pub there : slice_get deck.systems t.system.0 ≡ Some system
  pub task : IsTaskOf system t.system t

pub has-system : (deck : Deck) (t : TaskId) (ms : List Meaning) → lines_of deck t ≡ Some ms → IsOfSystem deck t
has-system deck t ms e = by_system (slice_get deck.systems t.system.0) refl e
  where
    by_lines : (s : SystemDef) → slice_get deck.systems t.system.0 ≡ Some s → (o : Option (List Line))
        → lines_in (scripts_at (Some s)) t ≡ o → meanings deck.lists t o ≡ Some ms → IsOfSystem deck t
    by_lines s at None is f = absurd (cc)
    by_lines s at (Some ls) is f =
        let st = stands-in 0 s.jobs t.job t.task ls is in
        let f = st.is in
        let same : t.job ≡ st.x = omega (arith, f) in
        record {
          system = s;
          there = at;
          task = record {
            job = st.held;
            place = st.place;
            system = refl;
            held = ap (slice_get s.jobs) same ∙ st.there;
            below = st.below;
            at = st.at ∙ ap (λ n. task_count (take n s.jobs) + st.place) (sym same);
          };
        }

    by_system : (o : Option SystemDef) → slice_get deck.systems t.system.0 ≡ o
        → meanings deck.lists t (lines_in (scripts_at o) t) ≡ Some ms → IsOfSystem deck t
    by_system None at f = absurd (cc)
    by_system (Some s) at f = by_lines s at (lines_in (scripts_at (Some s)) t) refl f
