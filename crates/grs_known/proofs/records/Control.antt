-- What telling control of a resource does to a task, case by case: it is marked on record, and a line tells it, unless
-- the task is about to give the resource up; and who waits for just that goes on.
use Rattle.std.proofs.Common.{◌≡◌, ℕ, suc, Bool, true, false, cond, not, ◌&&◌, ◌||◌, List, [], ◌∷◌, ◌++◌, Option, Some}
use Rattle.std.proofs.Common.{None, refl, ap, sym, ◌∙◌, subst, arith}
use Rattle.std.specs.Prelude.{◌==◌, slice_get}
use Rattle.std.specs.List.{list_any}
use Rattle.std.proofs.lemmas.Bool.{and_parts, cases_Bool, eqb-true, or_left, or_right}
use Rattle.grs_base.specs.Same.{same_res}
use Rattle.grs_base.specs.declared.resource.Res.{Res}
use Rattle.grs_base.specs.declared.resource.TaskId.{TaskId}
use Rattle.grs_base.specs.declared.decision.Code.TheVariants.{C00}
use Rattle.grs_base.proofs.SameLaws.{same_res-exact, same_res-itself}
use Rattle.grs_wire.specs.declared.told.Verb.TheVariants as verbs
use Rattle.grs_wire.specs.declared.told.ToldLine.{ToldLine}
use Rattle.grs_wire.specs.declared.told.ToldLine.TheVariants.{Coded, Post}
use Rattle.grs_wire.proofs.WantLaws.{by_test}
use Rattle.task_state.specs.declared.state.Rec.{Rec}
use Rattle.task_state.specs.declared.state.Phase.{Phase}
use Rattle.task_state.specs.declared.state.Phase.TheVariants as phases
use Rattle.task_state.specs.declared.state.TaskState.{TaskState}
use Rattle.task_state.specs.View.{TasksView, is_task, state_of, with_phase, with_told, telling, record_of, record_place}
use Rattle.task_state.specs.View.{on_record}
use Rattle.task_state.specs.Replies.{is_leaving, is_held, is_held_for, tell_control, tell_untold, tell_line}
use Rattle.task_state.specs.Replies.{passes_wait}
use Rattle.grs_known.proofs.lists.Facts.{any-more}
use Rattle.grs_known.proofs.lists.Truths.{no_truth}
use Rattle.grs_known.proofs.system.Did.{Did, did-none, did-state, did-phase, did-telling}
use Rattle.grs_known.proofs.tasks.Invariant.{Each, has_res}
use Rattle.grs_known.proofs.tasks.Records.{not_found}
use Rattle.grs_known.proofs.records.Marks.{is_marked}

-- ---- marks
abbrev pub told_rec : Rec → Rec
told_rec z = record z { told = true }

-- a task whose records of a resource are marked
abbrev pub marks : Res → TaskState → TaskState
marks r x = record x { records = on_record r told_rec x.records }

pub marked-now : (r : Res) (xs : List Rec) → has_res r xs ≡ true → is_marked r (on_record r told_rec xs) ≡ true
marked-now r [] h = absurd (cc)
marked-now r (x ∷ xs) h = go (same_res r x.res) refl h (marked-now r xs)
  where
    go : (b : Bool) → same_res r x.res ≡ b → (b || has_res r xs) ≡ true
        → (has_res r xs ≡ true → is_marked r (on_record r told_rec xs) ≡ true)
        → is_marked r (cond b (told_rec x) x ∷ on_record r told_rec xs) ≡ true
    go true e k more = or_left (same_res r x.res && true) _ (ap (λ b. b && true) e)
    go false e k more = or_right (same_res r x.res && x.told) _ (more k)

-- marks stay
pub marked-still : (q r : Res) (xs : List Rec) → is_marked q xs ≡ true → is_marked q (on_record r told_rec xs) ≡ true
marked-still q r [] h = h
marked-still q r (x ∷ xs) h =
    grind (
      arith,
      h,
      marked-still q r xs,
      cases_Bool (same_res r x.res),
      cases_Bool (same_res q x.res),
      cases_Bool x.told,
    )

-- a record of another resource that isn't marked stays so
abbrev pub is_unmarked : Res → List Rec → Bool
is_unmarked r xs = list_any (λ (x : Rec). same_res r x.res && not x.told) xs

pub unmarked-still : (q r : Res) (xs : List Rec) → same_res r q ≡ false → is_unmarked q xs ≡ true
    → is_unmarked q (on_record r told_rec xs) ≡ true
unmarked-still q r [] apart h = h
unmarked-still q r (x ∷ xs) apart h = go (same_res r x.res) refl (same_res q x.res) refl (unmarked-still q r xs apart) h
  where
    go : (b : Bool) → same_res r x.res ≡ b → (c : Bool) → same_res q x.res ≡ c
        → (is_unmarked q xs ≡ true → is_unmarked q (on_record r told_rec xs) ≡ true)
        → ((c && not x.told) || is_unmarked q xs) ≡ true →
        is_unmarked q (cond b (told_rec x) x ∷ on_record r told_rec xs) ≡ true
    go true e true f more k =
        absurd (let same : q ≡ r = same_res-exact q x.res f ∙ sym (same_res-exact r x.res e) in
        let no : true ≡ false = sym (same_res-itself r) ∙ (ap (same_res r) (sym same) ∙ apart) in
        cc)
    go true e false f more k = or_right (same_res q x.res && false) _ (more k)
    go false e true f more k = grind (arith, f, k, more, cases_Bool x.told)
    go false e false f more k = or_right (same_res q x.res && not x.told) _ (more k)

-- which resources are on record stays
pub has_res-marks : (q r : Res) (xs : List Rec) → has_res q (on_record r told_rec xs) ≡ has_res q xs
has_res-marks q r [] = refl
has_res-marks q r (x ∷ xs) = go (same_res r x.res) (has_res-marks q r xs)
  where
    go : (b : Bool) → has_res q (on_record r told_rec xs) ≡ has_res q xs
        → has_res q (cond b (told_rec x) x ∷ on_record r told_rec xs) ≡ has_res q (x ∷ xs)
    go true more = ap (λ c. same_res q x.res || c) more
    go false more = ap (λ c. same_res q x.res || c) more

pub each-marks : (P : Rec → Type 0) → ((z : Rec) → P z → P (told_rec z)) → (r : Res) (xs : List Rec) → Each P xs
    → Each P (on_record r told_rec xs)
each-marks P k r [] h = h
each-marks P k r (x ∷ xs) h = (go (same_res r x.res), each-marks P k r xs h.1)
  where
    go : (b : Bool) → P (cond b (told_rec x) x)
    go true = k x h.0
    go false = h.0

-- a record that is found and marked
found-marked : (xs : List Rec) (r : Res) (y : Rec) → record_of xs r ≡ Some y → y.told ≡ true → is_marked r xs ≡ true
found-marked [] r y e told = absurd (cc)
found-marked (x ∷ xs) r y e told = go (same_res r x.res) e (λ f. found-marked xs r y f told)
  where
    go : (b : Bool) → slice_get (x ∷ xs) (cond b 0 (suc (record_place xs r))) ≡ Some y
        → (record_of xs r ≡ Some y → is_marked r xs ≡ true) → ((b && x.told) || is_marked r xs) ≡ true
    go true f more = let same : x ≡ y = cc in or_left x.told (is_marked r xs) (ap (λ (z : Rec). z.told) same ∙ told)
    go false f more = more f

-- ---- what becomes of the task
-- Task t stands as x, and these lines are told. Control of r is told to it.
pub data Hears (t : TaskId) (r : Res) (x : TaskState) (T : List ToldLine) : TaskState → List ToldLine → Type 0 where
  -- it has no record, or is marked
  none : (has_res r x.records ≡ true → is_marked r x.records ≡ true) → Hears t r x T x T
  -- it is about to give the resource up
  given : is_leaving r x.outstanding ≡ true → Hears t r x T (marks r x) T
  -- it is held by its last answer
  coded : is_held x.phase ≡ true
      → Hears t r x T (record (marks r x) { phase = phases.Ready }) (T ++ Coded t x.line 0 verbs.Enq C00 ∷ [])
  -- its ECB is posted, and it may be held at a WAIT line
  posted : (k : ℕ) → is_held_for r x.phase ≡ false → Hears t r x T (marks r x) (T ++ Post t k ∷ [])
  passed : (k : ℕ) → is_held_for r x.phase ≡ true
      → Hears t r x T (record (marks r x) { phase = phases.Ready })
      ((T ++ Post t k ∷ []) ++ Coded t x.line 0 verbs.Wait C00 ∷ [])

-- what telling it control makes of the tasks
pub record Controlled (v : TasksView) (r : Res) (t : TaskId) (w : TasksView) : Type 0 where
  pub state : TaskState
  pub told : List ToldLine
  pub did : Did v w t state told
  pub hears : Hears t r (state_of v t) v.told state told

module _ (v : TasksView) (r : Res) (t : TaskId) (here : is_task v t ≡ true) where
  abbrev x : TaskState
  x = state_of v t

  did-marks : Did v (with_told v t r) t (marks r (state_of v t)) v.told
  unfolding with_told
  did-marks =
      did-state v v t (state_of v t) v.told (λ y. record y { records = on_record r told_rec y.records }) here
      (did-none v t)

  nothing : (has_res r (state_of v t).records ≡ true → is_marked r (state_of v t).records ≡ true) → Controlled v r t v
  nothing h = record { state = x; told = v.told; did = did-none v t; hears = none h }

  by_post : (k : ℕ) → Controlled v r t (passes_wait (telling (with_told v t r) (Post t k)) t r)
  unfolding passes_wait
  by_post k = by_test (Controlled v r t) (is_held_for r (state_of w t).phase) _ _ passes stays
    where
      w : TasksView
      w = telling (with_told v t r) (Post t k)

      T : List ToldLine
      T = v.told ++ Post t k ∷ []

      d : Did v (telling (with_told v t r) (Post t k)) t (marks r (state_of v t)) (v.told ++ Post t k ∷ [])
      d = did-telling v (with_told v t r) t (marks r x) v.told (Post t k) did-marks

      held : is_held_for r (state_of (telling (with_told v t r) (Post t k)) t).phase
          ≡ is_held_for r (state_of v t).phase
      held = ap (λ (y : TaskState). is_held_for r y.phase) d.state

      passes : is_held_for r (state_of (telling (with_told v t r) (Post t k)) t).phase ≡ true →
          Controlled v r t (telling (with_phase (telling (with_told v t r) (Post t k)) t phases.Ready)
          (Coded t (state_of (telling (with_told v t r) (Post t k)) t).line 0 verbs.Wait C00))
      passes h = record {
        state = record (marks r x) { phase = phases.Ready };
        told = T ++ Coded t x.line 0 verbs.Wait C00 ∷ [];
        did =
            subst (λ n.
            Did v (telling (with_phase w t phases.Ready) (Coded t (state_of w t).line 0 verbs.Wait C00)) t
            (record (marks r x) { phase = phases.Ready }) (T ++ Coded t n 0 verbs.Wait C00 ∷ []))
            (ap (λ (y : TaskState). y.line) d.state)
            (did-telling v (with_phase w t phases.Ready) t (record (marks r x) { phase = phases.Ready }) T
            (Coded t (state_of w t).line 0 verbs.Wait C00) (did-phase v w t (marks r x) T here d phases.Ready));
        hears = passed k (sym held ∙ h);
      }

      stays : is_held_for r (state_of (telling (with_told v t r) (Post t k)) t).phase ≡ false
          → Controlled v r t (telling (with_told v t r) (Post t k))
      stays h = record { state = marks r x; told = T; did = d; hears = posted k (sym held ∙ h) }

  by_line : (k : ℕ) → Controlled v r t (tell_line v t r k)
  unfolding tell_line
  by_line k = by_test (Controlled v r t) (is_held x.phase && (k == x.line)) _ _ answers (λ e. by_post k)
    where
      answers : (is_held (state_of v t).phase && (k == (state_of v t).line)) ≡ true
          → Controlled v r t (telling (with_phase (with_told v t r) t phases.Ready) (Coded t k 0 verbs.Enq C00))
      answers e =
          let both = and_parts (is_held x.phase) (k == x.line) e in
          record {
            state = record (marks r x) { phase = phases.Ready };
            told = v.told ++ Coded t x.line 0 verbs.Enq C00 ∷ [];
            did =
                subst (λ n.
                Did v (telling (with_phase (with_told v t r) t phases.Ready) (Coded t k 0 verbs.Enq C00)) t
                (record (marks r x) { phase = phases.Ready }) (v.told ++ Coded t n 0 verbs.Enq C00 ∷ []))
                (eqb-true k x.line both.1)
                (did-telling v (with_phase (with_told v t r) t phases.Ready) t
                (record (marks r x) { phase = phases.Ready }) v.told (Coded t k 0 verbs.Enq C00)
                (did-phase v (with_told v t r) t (marks r x) v.told here did-marks phases.Ready));
            hears = coded both.0;
          }

  pub controlled : Controlled v r t (tell_control v r t)
  unfolding tell_control tell_untold
  controlled =
      subst (λ b. Controlled v r t (cond b (tell_untold v t r (record_of (state_of v t).records r)) v)) (sym here)
      (go (record_of (state_of v t).records r) refl)
    where
      go : (o : Option Rec) → record_of (state_of v t).records r ≡ o → Controlled v r t (tell_untold v t r o)
      go None e = nothing (λ h. no_truth (has_res r x.records) h (not_found x.records r e))
      go (Some y) e = by_test (Controlled v r t) y.told _ _ (λ told. nothing (λ h. found-marked x.records r y e told))
          (λ untold.
          by_test (Controlled v r t) (is_leaving r x.outstanding) _ _
          (λ leaves. record { state = marks r x; told = v.told; did = did-marks; hears = given leaves })
          (λ stays. by_line y.line))

-- ---- what holds of it then
-- what was told before stays told
pub hears-grows : (t : TaskId) (r : Res) (x : TaskState) (T : List ToldLine) (y : TaskState) (U : List ToldLine)
    → Hears t r x T y U → (p : ToldLine → Bool) → list_any p T ≡ true → list_any p U ≡ true
hears-grows t r x T y U (none m) p h = h
hears-grows t r x T y U (given l) p h = h
hears-grows t r x T y U (coded a) p h = any-more p T _ h
hears-grows t r x T y U (posted k a) p h = any-more p T _ h
hears-grows t r x T y U (passed k a) p h = any-more p (T ++ Post t k ∷ []) _ (any-more p T _ h)

-- marks stay, and a record of the resource is marked
pub hears-marked : (t : TaskId) (r q : Res) (x : TaskState) (T : List ToldLine) (y : TaskState) (U : List ToldLine)
    → Hears t r x T y U → is_marked q x.records ≡ true → is_marked q y.records ≡ true
hears-marked t r q x T y U (none m) h = h
hears-marked t r q x T y U (given l) h = marked-still q r x.records h
hears-marked t r q x T y U (coded a) h = marked-still q r x.records h
hears-marked t r q x T y U (posted k a) h = marked-still q r x.records h
hears-marked t r q x T y U (passed k a) h = marked-still q r x.records h

pub hears-marks : (t : TaskId) (r : Res) (x : TaskState) (T : List ToldLine) (y : TaskState) (U : List ToldLine)
    → Hears t r x T y U → has_res r x.records ≡ true → is_marked r y.records ≡ true
hears-marks t r x T y U (none m) h = m h
hears-marks t r x T y U (given l) h = marked-now r x.records h
hears-marks t r x T y U (coded a) h = marked-now r x.records h
hears-marks t r x T y U (posted k a) h = marked-now r x.records h
hears-marks t r x T y U (passed k a) h = marked-now r x.records h

-- which resources are on record stays
pub hears-has : (t : TaskId) (r q : Res) (x : TaskState) (T : List ToldLine) (y : TaskState) (U : List ToldLine)
    → Hears t r x T y U → has_res q y.records ≡ has_res q x.records
hears-has t r q x T y U (none m) = refl
hears-has t r q x T y U (given l) = has_res-marks q r x.records
hears-has t r q x T y U (coded a) = has_res-marks q r x.records
hears-has t r q x T y U (posted k a) = has_res-marks q r x.records
hears-has t r q x T y U (passed k a) = has_res-marks q r x.records

-- no phase comes of it but Ready
pub hears-phase : (t : TaskId) (r : Res) (x : TaskState) (T : List ToldLine) (y : TaskState) (U : List ToldLine)
    → Hears t r x T y U → (p : Phase → Bool) → p phases.Ready ≡ false → p y.phase ≡ true → p x.phase ≡ true
hears-phase t r x T y U (none m) p ready h = h
hears-phase t r x T y U (given l) p ready h = h
hears-phase t r x T y U (coded a) p ready h = no_truth (p phases.Ready) h ready
hears-phase t r x T y U (posted k a) p ready h = h
hears-phase t r x T y U (passed k a) p ready h = no_truth (p phases.Ready) h ready
