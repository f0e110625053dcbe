-- What a task does by itself leaves its system's part in star mode, and the lists of all lock entries.
use Rattle.grs_world.proofs.Common.{[], ◌++◌, ◌∙◌, ◌∷◌, ◌≡◌, ap, ask, by_test, cond, decide, Deq, Display, end_step}
use Rattle.grs_world.proofs.Common.{Enq, entry_of_res, entry_wanted, false, Fixed, has_most, is_entry, is_for_all}
use Rattle.grs_world.proofs.Common.{is_some, is_systems, List, Local, Look, look, look_around, look_home, looks_asked}
use Rattle.grs_world.proofs.Common.{Meaning, NodeState, None, only, Option, Phase, phase_step, post, ready_step, Rec}
use Rattle.grs_world.proofs.Common.{record_of, refl, Release, Req, Res, res_wanted, show, slice_get, Some, StarPart}
use Rattle.grs_world.proofs.Common.{State, state_of, Step, suc, SysId, System, take_line, task_step, TaskId, wait, Want}
use Rattle.grs_world.proofs.Common.{with_line, with_phase, with_rows, with_tasks, zero, ℕ}
use Rattle.grs_base.specs.declared.resource.Res.TheVariants.{Step as StepRes, Systems}
use Rattle.grs_world.proofs.star.Members.{lists_after}
use Rattle.grs_world.proofs.star.Under.{under, under-other}
use Rattle.grs_legal.specs.declared.meaning.Meaning.TheVariants as lines
use Rattle.grs_wire.specs.declared.request.Fixed.TheVariants as fixing
use Rattle.task_state.specs.declared.state.Phase.TheVariants as phases

-- A system of this part, this outbox and what it knows of removed ones, after a step that fixes nothing under a lock
-- entry.
pub record IsQuiet (part : Option StarPart) (box : List Req) (set : ℕ) (st : Step) : Type 0 where
  pub star : st.node.star ≡ part
  pub outbox : st.node.outbox ≡ box
  pub known : st.node.known ≡ set
  pub lists : (entries e : ℕ) (L : State) → under entries e (lists_after L st.fixed) ≡ under entries e L

-- a resource of one system is of no lock entry
res-local : (entries e : ℕ) (r : Res) → is_systems r ≡ false → is_entry e (entry_of_res entries r) ≡ false
res-local entries e (StepRes s j q r) h = refl
res-local entries e (System s q r) h = refl
res-local entries e (Systems q r) h = absurd (cc)

want-local : (entries e : ℕ) (w : Want) → is_for_all (res_wanted w) ≡ false
    → is_entry e (entry_wanted entries w) ≡ false
want-local entries e (Enq r c ret full) h = res-local entries e r h
want-local entries e (Deq r have) h = res-local entries e r h
want-local entries e (Release r) h = res-local entries e r h
want-local entries e (Look first count f) h = absurd (cc)

module _ (p : StarPart) (n : NodeState) (is : n.star ≡ Some p) where
  abbrev Keeps : Step → Type 0
  Keeps st = IsQuiet n.star n.outbox n.known st

  by_only : (k : NodeState) → k.star ≡ n.star → k.outbox ≡ n.outbox → k.known ≡ n.known → Keeps (only k)
  by_only k s o z = record { star = s; outbox = o; known = z; lists = λ entries e L. refl }

  by_post : (k : NodeState) (t : TaskId) (w : Want) (unit : Option ℕ) → k.star ≡ n.star → k.outbox ≡ n.outbox
      → k.known ≡ n.known → Keeps (post k t w unit)
  unfolding post
  by_post k t w unit s o z = record {
    star = s;
    outbox = ap (λ x. cond (is_some x) k.outbox (k.outbox ++ record { task = t; want = w } ∷ [])) (s ∙ is) ∙ o;
    known = z;
    lists = λ entries e L. refl;
  }

  by_decide : (k : NodeState) (t : TaskId) (w : Want) (unit : Option ℕ) → k.star ≡ n.star → k.outbox ≡ n.outbox
      → k.known ≡ n.known → is_for_all (res_wanted w) ≡ false → Keeps (decide k t w unit)
  unfolding decide
  by_decide k t w unit s o z alone = record {
    star = s;
    outbox = o;
    known = z;
    lists = λ entries e L. under-other entries e L t w (want-local entries e w alone);
  }

  by_ask : (k : NodeState) (t : TaskId) (w : Want) (unit : Option ℕ) → k.star ≡ n.star → k.outbox ≡ n.outbox
      → k.known ≡ n.known → Keeps (ask k t w unit)
  unfolding ask
  by_ask k t w unit s o z =
      by_test Keeps (is_for_all (res_wanted w)) (post k t w unit) (decide k t w unit) (λ h. by_post k t w unit s o z)
      (λ h. by_decide k t w unit s o z h)

  by_around : (k : NodeState) (t : TaskId) (d : Display) (count : ℕ) (fs : List Fixed) → k.star ≡ n.star
      → k.outbox ≡ n.outbox → k.known ≡ n.known →
      ((entries e : ℕ) (L : State) → under entries e (lists_after L fs) ≡ under entries e L)
      → Keeps (record { node = look_around k t d count; fixed = fs })
  by_around k t d zero fs s o z same = record { star = s; outbox = o; known = z; lists = same }
  by_around k t d (suc more) fs s o z same = record {
    star = s;
    outbox = ap (λ x. cond (is_some x) k.outbox (k.outbox ++ (looks_asked t d more k.star).req ∷ [])) (s ∙ is) ∙ o;
    known = z;
    lists = same;
  }

  by_show : (k : NodeState) (t : TaskId) (d : Display) → k.star ≡ n.star → k.outbox ≡ n.outbox → k.known ≡ n.known
      → Keeps (show k t d)
  unfolding show
  by_show k t d s o z = go d.home
    where
      go : (home : Option SysId)
          → Keeps (record {
            node = look_around (look_home k t d home).node t d d.count;
            fixed = (look_home k t d home).fixed;
          })
      go None = by_around k t d d.count [] s o z (λ entries e L. refl)
      go (Some u) =
          by_around (with_tasks k (with_rows k.tasks t (look k.own (Local t.system) d.filter))) t d d.count
          (fixing.LocalLook t d.filter ∷ []) s o z (λ entries e L. refl)

  by_line : (limit : ℕ) (k : NodeState) (t : TaskId) (l : Meaning) → k.star ≡ n.star → k.outbox ≡ n.outbox
      → k.known ≡ n.known → Keeps (take_line limit k t l)
  unfolding take_line
  by_line limit k t (lines.Enq r c ret unit) s o z = by_ask k t (Enq r c ret (has_most limit k.tasks t)) unit s o z
  by_line limit k t (lines.Deq r have) s o z = by_ask k t (Deq r have) None s o z
  by_line limit k t (lines.Wait r) s o z =
      by_only (with_tasks k (wait k.tasks t r (record_of (state_of k.tasks t).records r))) s o z
  by_line limit k t (lines.Shows d) s o z = by_show k t d s o z
  by_line limit k t lines.Nothing s o z = by_only k s o z

  by_end : (k : NodeState) (t : TaskId) (code : ℕ) (xs : List Rec) → k.star ≡ n.star → k.outbox ≡ n.outbox
      → k.known ≡ n.known → Keeps (end_step k t code xs)
  unfolding end_step
  by_end k t code [] s o z = record { star = s; outbox = o; known = z; lists = λ entries e L. refl }
  by_end k t code (x ∷ xs) s o z = by_ask k t (Release x.res) None s o z

  by_ready : (limit : ℕ) (t : TaskId) (l : Option Meaning) → Keeps (ready_step limit n t l)
  unfolding ready_step
  by_ready limit t None =
      by_end (with_tasks n (with_phase n.tasks t (phases.Ending 0))) t 0
      (state_of (with_phase n.tasks t (phases.Ending 0)) t).records refl refl refl
  by_ready limit t (Some l) = by_line limit (with_tasks n (with_line n.tasks t)) t l refl refl refl

  by_phase : (limit : ℕ) (t : TaskId) (ls : List Meaning) (ph : Phase) → Keeps (phase_step limit n t ls ph)
  unfolding phase_step
  by_phase limit t ls phases.Ready = by_ready limit t (slice_get ls (state_of n.tasks t).line)
  by_phase limit t ls (phases.Ending c) = by_end n t c (state_of n.tasks t).records refl refl refl
  by_phase limit t ls phases.ToSend = by_only n refl refl refl
  by_phase limit t ls phases.Sent = by_only n refl refl refl
  by_phase limit t ls phases.HeldAnswer = by_only n refl refl refl
  by_phase limit t ls (phases.HeldLine r) = by_only n refl refl refl
  by_phase limit t ls phases.Ended = by_only n refl refl refl

  pub task-quiet : (limit : ℕ) (t : TaskId) (o : Option (List Meaning))
      → IsQuiet n.star n.outbox n.known (task_step limit n t o)
  task-quiet limit t None = by_only n refl refl refl
  task-quiet limit t (Some ls) = by_phase limit t ls (state_of n.tasks t).phase
