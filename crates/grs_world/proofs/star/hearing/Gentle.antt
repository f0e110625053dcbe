-- What becomes of the tasks of a system, as far as sent requests and resources of the whole complex go, where control
-- is told: they lose nothing.
use Rattle.grs_world.proofs.Common.{[], ◌==◌, ◌||◌, ◌∙◌, ◌∷◌, ◌≡◌, ◌≢◌, ap, Bool, code_in, cond, controlled, Did}
use Rattle.grs_world.proofs.Common.{did-none, did-phase, eqb-false, eqb-true, false, get_or, has_res, is_among}
use Rattle.grs_world.proofs.Common.{is_marked, is_sent, is_systems, is_task, is_task-telling, List, new_task, None}
use Rattle.grs_world.proofs.Common.{Option, Phase, Rec, record_of, refl, Res, same_task, same_task-exact, Some}
use Rattle.grs_world.proofs.Common.{state_of, state_of-telling, subst, sym, TaskId, TaskState, TasksView, tell_all}
use Rattle.grs_world.proofs.Common.{tell_control, tell_new, tell_untold, telling, ToldLine, true, with_phase, ℕ}
use Rattle.grs_known.proofs.records.Control.{Controlled, hears-has, hears-marked, hears-marks, hears-phase}
use Rattle.grs_world.proofs.star.hearing.Ranks.{HaveRank, hears-ranks}
use Rattle.grs_wire.specs.declared.told.ToldLine.TheVariants as told

-- ---- tasks that lose nothing
-- From one state to another no request becomes a sent one, and of the resources of the whole complex the same are on
-- record, where what was told stays told, and ranks stay.
pub record GentleTo (x y : TaskState) : Type 0 where
  pub sent : is_sent y.phase ≡ true → is_sent x.phase ≡ true
  pub marked : (r : Res) → is_systems r ≡ true → is_marked r x.records ≡ true → is_marked r y.records ≡ true
  pub has : (r : Res) → is_systems r ≡ true → has_res r y.records ≡ has_res r x.records
  pub ranks : (r : Res) (n : ℕ) → is_systems r ≡ true → HaveRank r n x.records → HaveRank r n y.records

-- so of all tasks
pub record Gentle (v w : TasksView) : Type 0 where
  pub each : (u : TaskId) → GentleTo (state_of v u) (state_of w u)
  pub here : (u : TaskId) → is_task w u ≡ is_task v u

-- the records stay, and the phase is none in which a request is sent, or the same
pub gentle-phase : (x y : TaskState) → y.records ≡ x.records → (is_sent y.phase ≡ true → is_sent x.phase ≡ true)
    → GentleTo x y
gentle-phase x y same phase = record {
  sent = phase;
  marked = λ r wide h. ap (is_marked r) same ∙ h;
  has = λ r wide. ap (has_res r) same;
  ranks = λ r n wide h. subst (λ (zs : List Rec). HaveRank r n zs) (sym same) h;
}

pub gentle-to-then : (x y z : TaskState) → GentleTo x y → GentleTo y z → GentleTo x z
gentle-to-then x y z a b = record {
  sent = λ h. a.sent (b.sent h);
  marked = λ r wide h. b.marked r wide (a.marked r wide h);
  has = λ r wide. b.has r wide ∙ a.has r wide;
  ranks = λ r n wide h. b.ranks r n wide (a.ranks r n wide h);
}

pub gentle-none : (v : TasksView) → Gentle v v
gentle-none v = record { each = λ u. gentle-phase (state_of v u) (state_of v u) refl (λ h. h); here = λ u. refl }

pub gentle-then : (v w z : TasksView) → Gentle v w → Gentle w z → Gentle v z
gentle-then v w z a b = record {
  each = λ u. gentle-to-then (state_of v u) (state_of w u) (state_of z u) (a.each u) (b.each u);
  here = λ u. b.here u ∙ a.here u;
}

same-place : (v : TasksView) (t u : TaskId) → u.task ≡ t.task → state_of v u ≡ state_of v t
unfolding state_of
same-place v t u e = ap (λ i. get_or v.tasks i new_task) e

-- one task changed
pub gentle-did : (v w : TasksView) (t : TaskId) (x : TaskState) (T : List ToldLine) → Did v w t x T
    → GentleTo (state_of v t) x → Gentle v w
gentle-did v w t x T d k = record { each = λ u. go u (u.task == t.task) refl; here = d.changed.here }
  where
    go : (u : TaskId) (b : Bool) → (u.task == t.task) ≡ b → GentleTo (state_of v u) (state_of w u)
    go u true e =
        let same : u.task ≡ t.task = eqb-true u.task t.task e in
        subst (λ y. GentleTo y (state_of w u)) (sym (same-place v t u same))
        (subst (GentleTo (state_of v t)) (sym (same-place w t u same ∙ d.state)) k)
    go u false e =
        subst (GentleTo (state_of v u)) (sym (d.changed.others u (eqb-false u.task t.task e)))
        (gentle-phase (state_of v u) (state_of v u) refl (λ h. h))

-- a task in another phase has the same records
pub phase-records : (v : TasksView) (t : TaskId) (p : Phase) → is_task v t ≡ true → (u : TaskId)
    → (state_of (with_phase v t p) u).records ≡ (state_of v u).records
phase-records v t p here u = go (u.task == t.task) refl
  where
    d : Did v (with_phase v t p) t (record (state_of v t) { phase = p; code = code_in p (state_of v t).code }) v.told
    d = did-phase v v t (state_of v t) v.told here (did-none v t) p

    go : (b : Bool) → (u.task == t.task) ≡ b → (state_of (with_phase v t p) u).records ≡ (state_of v u).records
    go true e =
        let same : u.task ≡ t.task = eqb-true u.task t.task e in
        ap (λ (y : TaskState). y.records) (same-place (with_phase v t p) t u same ∙ d.state)
        ∙ ap (λ (y : TaskState). y.records) (sym (same-place v t u same))
    go false e = ap (λ (y : TaskState). y.records) (d.changed.others u (eqb-false u.task t.task e))

-- and the others stand as they did
pub phase-others : (v : TasksView) (t : TaskId) (p : Phase) → is_task v t ≡ true → (u : TaskId) → u.task ≢ t.task
    → state_of (with_phase v t p) u ≡ state_of v u
phase-others v t p here u ne = (did-phase v v t (state_of v t) v.told here (did-none v t) p).changed.others u ne

-- a line told changes no task
pub gentle-line_told : (v : TasksView) (l : ToldLine) → Gentle v (telling v l)
gentle-line_told v l = record {
  each = λ u.
      subst (GentleTo (state_of v u)) (sym (state_of-telling v u l))
      (gentle-phase (state_of v u) (state_of v u) refl (λ h. h));
  here = λ u. is_task-telling v u l;
}

-- ---- control is told
pub gentle-control : (v : TasksView) (r : Res) (t : TaskId) → Gentle v (tell_control v r t)
unfolding tell_control
gentle-control v r t = go (is_task v t) refl
  where
    go : (b : Bool) → is_task v t ≡ b → Gentle v (tell_control v r t)
    go false e =
        subst (λ b. Gentle v (cond b (tell_untold v t r (record_of (state_of v t).records r)) v)) (sym e)
        (gentle-none v)
    go true e =
        let k : Controlled v r t (tell_control v r t) = controlled v r t e in
        gentle-did v (tell_control v r t) t k.state k.told k.did (record {
          sent = λ h. hears-phase t r (state_of v t) v.told k.state k.told k.hears is_sent refl h;
          marked = λ q wide h. hears-marked t r q (state_of v t) v.told k.state k.told k.hears h;
          has = λ q wide. hears-has t r q (state_of v t) v.told k.state k.told k.hears;
          ranks = λ q n wide h. hears-ranks t r (state_of v t) v.told k.state k.told k.hears q n h;
        })

pub gentle-all : (v : TasksView) (r : Res) (ts : List TaskId) → Gentle v (tell_all v r ts)
unfolding tell_all
gentle-all v r [] = gentle-none v
gentle-all v r (t ∷ ts) =
    gentle-then v (tell_control v r t) (tell_all (tell_control v r t) r ts) (gentle-control v r t)
    (gentle-all (tell_control v r t) r ts)

pub gentle-new : (v : TasksView) (o : Option Res) (ts : List TaskId) → Gentle v (tell_new v o ts)
unfolding tell_new
gentle-new v None ts = gentle-none v
gentle-new v (Some r) ts = gentle-all v r ts

-- who has a record is marked
pub control-marks : (v : TasksView) (r : Res) (t : TaskId) → is_task v t ≡ true
    → has_res r (state_of v t).records ≡ true → is_marked r (state_of (tell_control v r t) t).records ≡ true
control-marks v r t here has =
    let k : Controlled v r t (tell_control v r t) = controlled v r t here in
    ap (λ (y : TaskState). is_marked r y.records) k.did.state
    ∙ hears-marks t r (state_of v t) v.told k.state k.told k.hears has

pub all-marked : (v : TasksView) (r : Res) (ts : List TaskId) (u : TaskId) → is_systems r ≡ true → is_among u ts ≡ true
    → is_task v u ≡ true → has_res r (state_of v u).records ≡ true
    → is_marked r (state_of (tell_all v r ts) u).records ≡ true
unfolding tell_all
all-marked v r [] u wide among here has = absurd (cc)
all-marked v r (t ∷ ts) u wide among here has = go (same_task u t) refl among
    (λ k.
    all-marked (tell_control v r t) r ts u wide k ((gentle-control v r t).here u ∙ here)
    (((gentle-control v r t).each u).has r wide ∙ has))
  where
    go : (b : Bool) → same_task u t ≡ b → (b || is_among u ts) ≡ true
        → (is_among u ts ≡ true → is_marked r (state_of (tell_all (tell_control v r t) r ts) u).records ≡ true)
        → is_marked r (state_of (tell_all (tell_control v r t) r ts) u).records ≡ true
    go true e k more =
        let same : t ≡ u = sym (same_task-exact u t e) in
        ((gentle-all (tell_control v r t) r ts).each u).marked r wide
        (subst (λ z. is_marked r (state_of (tell_control v r z) u).records ≡ true) (sym same)
        (control-marks v r u here has))
    go false e k more = more k

pub new-marked : (v : TasksView) (o : Option Res) (r : Res) (ts : List TaskId) (u : TaskId) → o ≡ Some r
    → is_systems r ≡ true → is_among u ts ≡ true → is_task v u ≡ true → has_res r (state_of v u).records ≡ true
    → is_marked r (state_of (tell_new v o ts) u).records ≡ true
unfolding tell_new
new-marked v o r ts u named wide among here has =
    subst (λ p. is_marked r (state_of (tell_new v p ts) u).records ≡ true) (sym named)
    (all-marked v r ts u wide among here has)
