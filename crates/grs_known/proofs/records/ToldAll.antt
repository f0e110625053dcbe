-- What telling control to several tasks does to the records and phases of each.
use Rattle.std.proofs.Common.{◌≡◌, Bool, true, false, cond, ◌||◌, List, [], ◌∷◌, refl, ap, sym, ◌∙◌, subst}
use Rattle.std.specs.Prelude.{◌==◌}
use Rattle.std.proofs.lemmas.Bool.{eqb-true, eqb-false}
use Rattle.grs_base.specs.Same.{same_task}
use Rattle.grs_base.specs.declared.resource.Res.{Res}
use Rattle.grs_base.specs.declared.resource.TaskId.{TaskId}
use Rattle.grs_base.proofs.SameLaws.{same_task-exact}
use Rattle.task_state.specs.Replies.{tell_all, tell_control, tell_untold}
use Rattle.task_state.specs.View.{TasksView, is_task, record_of, state_of}
use Rattle.task_state.specs.declared.state.Phase.{Phase}
use Rattle.task_state.specs.declared.state.Phase.TheVariants as phases
use Rattle.task_state.specs.declared.state.TaskState.{TaskState}
use Rattle.grs_known.proofs.lists.Owners.{is_among}
use Rattle.grs_known.proofs.lists.Truths.{no_truth}
use Rattle.grs_known.proofs.tasks.Invariant.{has_res}
use Rattle.grs_known.proofs.records.Control.{Controlled, controlled, hears-has, hears-marked, hears-marks, hears-phase}
use Rattle.grs_known.proofs.records.Marks.{is_marked}
use Rattle.grs_known.proofs.records.Places.{state_at}

-- Tasks that were told control of a resource, where these were told it.
pub record ToldAll (v w : TasksView) (r : Res) (us : List TaskId) : Type 0 where
  pub here : (t : TaskId) → is_task w t ≡ is_task v t
  pub has : (t : TaskId) (q : Res) → is_task v t ≡ true
      → has_res q (state_of w t).records ≡ has_res q (state_of v t).records
  pub marks : (t : TaskId) (q : Res) → is_task v t ≡ true → is_marked q (state_of v t).records ≡ true
      → is_marked q (state_of w t).records ≡ true
  pub new : (t : TaskId) → is_task v t ≡ true → is_among t us ≡ true → has_res r (state_of v t).records ≡ true
      → is_marked r (state_of w t).records ≡ true
  -- no phase comes of it but Ready
  pub phase : (t : TaskId) (p : Phase → Bool) → is_task v t ≡ true → p phases.Ready ≡ false
      → p (state_of w t).phase ≡ true → p (state_of v t).phase ≡ true

told-none : (v : TasksView) (r : Res) → ToldAll v v r []
told-none v r = record {
  here = λ t. refl;
  has = λ t q at. refl;
  marks = λ t q at h. h;
  new = λ t at among has. absurd (cc);
  phase = λ t p at ready h. h;
}

told-one : (v : TasksView) (r : Res) (u : TaskId) → ToldAll v (tell_control v r u) r (u ∷ [])
unfolding tell_control
told-one v r u = go (is_task v u) refl
  where
    go : (b : Bool) → is_task v u ≡ b → ToldAll v (tell_control v r u) r (u ∷ [])
    go false e =
        subst (λ b. ToldAll v (cond b (tell_untold v u r (record_of (state_of v u).records r)) v) r (u ∷ []))
        (sym e) (record {
          here = λ t. refl;
          has = λ t q at. refl;
          marks = λ t q at h. h;
          new = λ t at among has.
              absurd (no_truth (is_task v u) (subst (λ z. is_task v z ≡ true) (by_among t among) at) e);
          phase = λ t p at ready h. h;
        })
      where
        by_among : (t : TaskId) → (same_task t u || false) ≡ true → t ≡ u
        by_among t k = by_parts t (same_task t u) refl k
          where
            by_parts : (t : TaskId) (b : Bool) → same_task t u ≡ b → (b || false) ≡ true → t ≡ u
            by_parts t true f k = same_task-exact t u f
            by_parts t false f k = absurd (cc)
    go true e = record {
      here = c.did.changed.here;
      has = λ t q at.
          by_place t (λ x y. has_res q y.records ≡ has_res q x.records)
          (hears-has u r q (state_of v u) v.told c.state c.told c.hears) (λ x. refl);
      marks = λ t q at.
          by_place t (λ x y. is_marked q x.records ≡ true → is_marked q y.records ≡ true)
          (hears-marked u r q (state_of v u) v.told c.state c.told c.hears) (λ x h. h);
      new = λ t at among has. by_new t among has (same_task t u) refl;
      phase = λ t p at ready.
          by_place t (λ x y. p y.phase ≡ true → p x.phase ≡ true)
          (hears-phase u r (state_of v u) v.told c.state c.told c.hears p ready) (λ x h. h);
    }
      where
        c : Controlled v r u (tell_control v r u)
        c = controlled v r u e

        by_place : (t : TaskId) (P : TaskState → TaskState → Type 0) → P (state_of v u) c.state
            → ((x : TaskState) → P x x) → P (state_of v t) (state_of (tell_control v r u) t)
        by_place t P here others = by_test (t.task == u.task) refl
          where
            by_test : (b : Bool) → (t.task == u.task) ≡ b → P (state_of v t) (state_of (tell_control v r u) t)
            by_test true f =
                let same : t.task ≡ u.task = eqb-true t.task u.task f in
                subst (λ x. P x (state_of (tell_control v r u) t)) (sym (state_at v t u same))
                (subst (P (state_of v u)) (sym (state_at (tell_control v r u) t u same ∙ c.did.state)) here)
            by_test false f =
                subst (P (state_of v t)) (sym (c.did.changed.others t (eqb-false t.task u.task f)))
                (others (state_of v t))

        by_new : (t : TaskId) → (same_task t u || false) ≡ true → has_res r (state_of v t).records ≡ true → (b : Bool)
            → same_task t u ≡ b → is_marked r (state_of (tell_control v r u) t).records ≡ true
        by_new t among has true f =
            let one : u ≡ t = sym (same_task-exact t u f) in
            subst (λ z. is_marked r (state_of (tell_control v r u) z).records ≡ true) one
            (subst (λ (x : TaskState). is_marked r x.records ≡ true) (sym c.did.state)
            (hears-marks u r (state_of v u) v.told c.state c.told c.hears
            (subst (λ z. has_res r (state_of v z).records ≡ true) (sym one) has)))
        by_new t among has false f = no_truth (same_task t u || false) among (ap (λ b. b || false) f)

told-then : (v w x : TasksView) (r : Res) (u : TaskId) (us : List TaskId) → ToldAll v w r (u ∷ []) → ToldAll w x r us
    → ToldAll v x r (u ∷ us)
told-then v w x r u us a b = record {
  here = λ t. b.here t ∙ a.here t;
  has = λ t q at. b.has t q (a.here t ∙ at) ∙ a.has t q at;
  marks = λ t q at h. b.marks t q (a.here t ∙ at) (a.marks t q at h);
  new = λ t at among has. by_new t at among has (same_task t u) refl;
  phase = λ t p at ready h. a.phase t p at ready (b.phase t p (a.here t ∙ at) ready h);
}
  where
    by_new : (t : TaskId) → is_task v t ≡ true → (same_task t u || is_among t us) ≡ true
        → has_res r (state_of v t).records ≡ true → (c : Bool) → same_task t u ≡ c
        → is_marked r (state_of x t).records ≡ true
    by_new t at among has true f = b.marks t r (a.here t ∙ at) (a.new t at (ap (λ c. c || false) f) has)
    by_new t at among has false f =
        b.new t (a.here t ∙ at) (sym (ap (λ c. c || is_among t us) f) ∙ among) (a.has t r at ∙ has)

pub told-all : (v : TasksView) (r : Res) (us : List TaskId) → ToldAll v (tell_all v r us) r us
unfolding tell_all
told-all v r [] = told-none v r
told-all v r (u ∷ us) =
    told-then v (tell_control v r u) (tell_all (tell_control v r u) r us) r u us (told-one v r u)
    (told-all (tell_control v r u) r us)
