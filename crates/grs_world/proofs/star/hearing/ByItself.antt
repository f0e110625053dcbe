-- What becomes of the tasks of a system, as far as sent requests and resources of the whole complex go, where a task
-- goes on by itself.
use Rattle.grs_world.proofs.Common.{[], ◌++◌, ◌+◌, ◌∙◌, ◌∷◌, ◌≡◌, after_code, ap, ask, Asked, Bool, by_test, C00, Code}
use Rattle.grs_world.proofs.Common.{code_in, decide, Deq, Did, did-line, did-none, did-outstanding, did-phase, did-rows}
use Rattle.grs_world.proofs.Common.{did-shown, did-telling, Display, end_step, Enq, false, false_by, is_for_all}
use Rattle.grs_world.proofs.Common.{is_granted, is_sent, is_systems, is_task, List, Local, Look, look, look_around}
use Rattle.grs_world.proofs.Common.{look_home, looks_asked, Meaning, new_owners, no_truth, NodeState, None, Option}
use Rattle.grs_world.proofs.Common.{Phase, phase_step, post, posted, ready_step, Rec, record_of, refl, Release, replied}
use Rattle.grs_world.proofs.Common.{Res, res_wanted, same_res, same_res-exact, show, slice_get, Some, state_of, Step}
use Rattle.grs_world.proofs.Common.{subst, suc, sym, SysId, take_line, task_step, TaskId, TaskState, TasksView}
use Rattle.grs_world.proofs.Common.{tell_code, tell_rows, telling, ToldLine, true, Wait, wait, Want, with_line}
use Rattle.grs_world.proofs.Common.{with_phase, with_rows, with_tasks, zero, ℕ}
use Rattle.grs_world.proofs.star.hearing.Ranks.{HaveRank, IsOld, code-keeps, keeps-ranks}
use Rattle.grs_world.proofs.star.hearing.Gentle.{Gentle, gentle-phase, gentle-none, gentle-then, gentle-did, gentle-new}
use Rattle.grs_world.proofs.star.hearing.Answering.{Told, told-code}
use Rattle.grs_legal.specs.declared.meaning.Meaning.TheVariants as lines
use Rattle.grs_wire.specs.declared.told.Verb.TheVariants as verbs
use Rattle.grs_wire.specs.declared.told.ToldLine.TheVariants as told
use Rattle.task_state.specs.declared.state.Phase.TheVariants as phases

-- ---- a task goes on by itself
-- a resource of the whole complex isn't one of another kind
apart-kinds : (q r : Res) → is_systems q ≡ true → is_systems r ≡ false → same_res q r ≡ false
apart-kinds q r wide narrow =
    false_by (same_res q r) (λ e. no_truth (is_systems q) wide (ap is_systems (same_res-exact q r e) ∙ narrow))

gentle-told : (v w : TasksView) (t : TaskId) (want : Want) (gives : Bool) (r : Res) → res_wanted want ≡ Some r
    → is_systems r ≡ false
    → ((q : Res) (n : ℕ) → is_systems q ≡ true → HaveRank q n (state_of v t).records
    → HaveRank q n (state_of w t).records)
    → Told v w t want gives (state_of v t) → Gentle v w
gentle-told v w t want gives r wanted narrow ranks k = gentle-did v w t k.state k.told k.did (record {
  sent = k.replied.sent;
  marked = λ q wide h. (k.replied.others q r wanted (apart-kinds q r wide narrow)).0 ∙ h;
  has = λ q wide. (k.replied.others q r wanted (apart-kinds q r wide narrow)).1;
  ranks = λ q n wide h. subst (λ (y : TaskState). HaveRank q n y.records) k.did.state (ranks q n wide h);
})

module _ (t : TaskId) where
  gentle-changed : (v w : TasksView) (x : TaskState) (T : List ToldLine) → Did v w t x T
      → x.records ≡ (state_of v t).records → (is_sent x.phase ≡ true → is_sent (state_of v t).phase ≡ true) → Gentle v w
  gentle-changed v w x T d same phase = gentle-did v w t x T d (gentle-phase (state_of v t) x same phase)

  gentle-to : (v : TasksView) → is_task v t ≡ true → (p : Phase) → is_sent p ≡ false → Gentle v (with_phase v t p)
  gentle-to v here p unsent =
      gentle-changed v (with_phase v t p) (record (state_of v t) { phase = p; code = code_in p (state_of v t).code })
      v.told (did-phase v v t (state_of v t) v.told here (did-none v t) p) refl (λ h. no_truth (is_sent p) h unsent)

  gentle-telling : (v : TasksView) (l : ToldLine) → Gentle v (telling v l)
  gentle-telling v l =
      gentle-changed v (telling v l) (state_of v t) (v.told ++ l ∷ [])
      (did-telling v v t (state_of v t) v.told l (did-none v t)) refl (λ h. h)

  gentle-posted : (n : NodeState) (a : Asked) → is_task n.tasks t ≡ true → Gentle n.tasks (posted n t a).tasks
  gentle-posted n a here =
      let v : TasksView = n.tasks in
      let w : TasksView = with_phase v t phases.ToSend in
      gentle-then v w _ (gentle-to v here phases.ToSend refl)
      (gentle-changed w _ (record (state_of w t) { outstanding = Some a }) w.told
      (did-outstanding w w t (state_of w t) w.told ((gentle-to v here phases.ToSend refl).here t ∙ here) (did-none w t)
      (Some a))
      refl (λ h. h))

  gentle-post : (n : NodeState) (w : Want) (unit : Option ℕ) → is_task n.tasks t ≡ true
      → Gentle n.tasks (post n t w unit).node.tasks
  unfolding post
  gentle-post n w unit here =
      gentle-posted n (record { req = record { task = t; want = w }; unit = unit; showing = None }) here

  gentle-coded : (v : TasksView) → is_task v t ≡ true → (w : Want) (unit : Option ℕ) (code : Code) (r : Res)
      → res_wanted w ≡ Some r → is_systems r ≡ false → Gentle v (after_code v t w unit code)
  gentle-coded v here w unit code r wanted narrow =
      gentle-told v (after_code v t w unit code) t w (is_granted code) r wanted narrow
      (λ q n wide h.
      keeps-ranks q n v (after_code v t w unit code) t
      (code-keeps q n v v t (state_of v t) v.told here (did-none v t) w unit code (other q wide) h))
      (told-code v v t (state_of v t) v.told here (did-none v t) w unit code)
    where
      other : (q : Res) → is_systems q ≡ true → IsOld q (res_wanted w) (state_of v t).records
      other q wide =
          subst (λ (o : Option Res). IsOld q o (state_of v t).records) (sym wanted)
          (λ same. no_truth (same_res q r) same (apart-kinds q r wide narrow))

  gentle-decided : (n : NodeState) (w : Want) (unit : Option ℕ) → is_task n.tasks t ≡ true
      → is_for_all (res_wanted w) ≡ false → Gentle n.tasks (decide n t w unit).node.tasks
  unfolding decide replied
  gentle-decided n (Enq r c ret full) unit here narrow =
      gentle-then n.tasks _ _ (gentle-coded n.tasks here (Enq r c ret full) unit _ r refl narrow)
      (gentle-new _ (Some r) (new_owners n.own t (Enq r c ret full)))
  gentle-decided n (Deq r have) unit here narrow =
      gentle-then n.tasks _ _ (gentle-coded n.tasks here (Deq r have) unit _ r refl narrow)
      (gentle-new _ (Some r) (new_owners n.own t (Deq r have)))
  gentle-decided n (Release r) unit here narrow =
      gentle-then n.tasks _ _ (gentle-coded n.tasks here (Release r) unit C00 r refl narrow)
      (gentle-new _ (Some r) (new_owners n.own t (Release r)))
  gentle-decided n (Look first count f) unit here narrow = absurd (cc)

  gentle-asked : (n : NodeState) (w : Want) (unit : Option ℕ) → is_task n.tasks t ≡ true
      → Gentle n.tasks (ask n t w unit).node.tasks
  unfolding ask
  gentle-asked n w unit here =
      by_test (λ (st : Step). Gentle n.tasks st.node.tasks) (is_for_all (res_wanted w)) (post n t w unit)
      (decide n t w unit) (λ h. gentle-post n w unit here) (λ h. gentle-decided n w unit here h)

  gentle-waits : (v : TasksView) (r : Res) (o : Option Rec) → is_task v t ≡ true → Gentle v (wait v t r o)
  unfolding wait tell_code
  gentle-waits v r None here = gentle-telling v _
  gentle-waits v r (Some x) here =
      by_test (Gentle v) x.told (tell_code v t verbs.Wait C00) (with_phase v t (phases.HeldLine r))
      (λ h. gentle-telling v _) (λ h. gentle-to v here (phases.HeldLine r) refl)

  -- a line that shows lists
  gentle-around : (n : NodeState) (d : Display) (count : ℕ) → is_task n.tasks t ≡ true
      → Gentle n.tasks (look_around n t d count).tasks
  gentle-around n d zero here =
      gentle-changed n.tasks (tell_rows n.tasks t d.verb) (record (state_of n.tasks t) { rows = [] })
      _ (did-shown n.tasks n.tasks t (state_of n.tasks t) (n.tasks).told here (did-none n.tasks t) d.verb) refl (λ h. h)
  gentle-around n d (suc more) here = gentle-posted n (looks_asked t d more n.star) here

  gentle-home : (n : NodeState) (d : Display) (o : Option SysId) → is_task n.tasks t ≡ true
      → Gentle n.tasks (look_home n t d o).node.tasks
  gentle-home n d None here = gentle-none n.tasks
  gentle-home n d (Some s) here =
      gentle-changed n.tasks (with_rows n.tasks t (look n.own (Local t.system) d.filter)) _ (n.tasks).told
      (did-rows n.tasks n.tasks t (state_of n.tasks t) (n.tasks).told here (did-none n.tasks t)
      (look n.own (Local t.system) d.filter))
      refl (λ h. h)

  gentle-shows : (n : NodeState) (d : Display) → is_task n.tasks t ≡ true → Gentle n.tasks (show n t d).node.tasks
  unfolding show
  gentle-shows n d here =
      let k = gentle-home n d d.home here in
      gentle-then n.tasks (look_home n t d d.home).node.tasks _ k
      (gentle-around (look_home n t d d.home).node d d.count (k.here t ∙ here))

  gentle-line : (limit : ℕ) (n : NodeState) (l : Meaning) → is_task n.tasks t ≡ true
      → Gentle n.tasks (take_line limit n t l).node.tasks
  unfolding take_line
  gentle-line limit n (lines.Enq r c ret unit) here = gentle-asked n _ unit here
  gentle-line limit n (lines.Deq r have) here = gentle-asked n _ None here
  gentle-line limit n (lines.Wait r) here = gentle-waits n.tasks r (record_of (state_of n.tasks t).records r) here
  gentle-line limit n (lines.Shows d) here = gentle-shows n d here
  gentle-line limit n lines.Nothing here = gentle-none n.tasks

  gentle-ends : (n : NodeState) (code : ℕ) (xs : List Rec) → is_task n.tasks t ≡ true
      → Gentle n.tasks (end_step n t code xs).node.tasks
  unfolding end_step
  gentle-ends n code [] here =
      gentle-then n.tasks (with_phase n.tasks t phases.Ended) _ (gentle-to n.tasks here phases.Ended refl)
      (gentle-telling (with_phase n.tasks t phases.Ended) (told.Ended t code))
  gentle-ends n code (x ∷ xs) here = gentle-asked n (Release x.res) None here

  gentle-ready : (limit : ℕ) (n : NodeState) (o : Option Meaning) → is_task n.tasks t ≡ true
      → Gentle n.tasks (ready_step limit n t o).node.tasks
  unfolding ready_step
  gentle-ready limit n None here =
      let v : TasksView = with_phase n.tasks t (phases.Ending 0) in
      let k : Gentle n.tasks v = gentle-to n.tasks here (phases.Ending 0) refl in
      gentle-then n.tasks v _ k (gentle-ends (with_tasks n v) 0 (state_of v t).records (k.here t ∙ here))
  gentle-ready limit n (Some l) here =
      let v : TasksView = with_line n.tasks t in
      let k : Gentle n.tasks v =
      gentle-changed n.tasks v (record (state_of n.tasks t) { line = suc (state_of n.tasks t).line }) (n.tasks).told
      (did-line n.tasks n.tasks t (state_of n.tasks t) (n.tasks).told here (did-none n.tasks t)) refl (λ h. h) in
      gentle-then n.tasks v _ k (gentle-line limit (with_tasks n v) l (k.here t ∙ here))

  gentle-by_phase : (limit : ℕ) (n : NodeState) (ls : List Meaning) (p : Phase) → is_task n.tasks t ≡ true
      → Gentle n.tasks (phase_step limit n t ls p).node.tasks
  unfolding phase_step
  gentle-by_phase limit n ls phases.Ready here = gentle-ready limit n (slice_get ls (state_of n.tasks t).line) here
  gentle-by_phase limit n ls (phases.Ending c) here = gentle-ends n c (state_of n.tasks t).records here
  gentle-by_phase limit n ls phases.ToSend here = gentle-none n.tasks
  gentle-by_phase limit n ls phases.Sent here = gentle-none n.tasks
  gentle-by_phase limit n ls phases.HeldAnswer here = gentle-none n.tasks
  gentle-by_phase limit n ls (phases.HeldLine r) here = gentle-none n.tasks
  gentle-by_phase limit n ls phases.Ended here = gentle-none n.tasks

  pub gentle-task : (limit : ℕ) (n : NodeState) (o : Option (List Meaning)) → is_task n.tasks t ≡ true
      → Gentle n.tasks (task_step limit n t o).node.tasks
  gentle-task limit n None here = gentle-none n.tasks
  gentle-task limit n (Some ls) here = gentle-by_phase limit n ls (state_of n.tasks t).phase here
