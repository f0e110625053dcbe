-- What the words of an event do to its task, to the others and to what was told.
use Rattle.std.proofs.Common.{◌≡◌, ◌+◌, ℕ, suc, Bool, true, false, cond, List, [], ◌∷◌, ◌++◌, length, Option, refl, ap}
use Rattle.std.proofs.Common.{◌∙◌, subst, add-one}
use Rattle.grs_base.specs.declared.resource.Res.{Res}
use Rattle.grs_base.specs.declared.resource.Ctl.{Ctl}
use Rattle.grs_base.specs.declared.resource.Ctl.TheVariants as ctls
use Rattle.grs_base.specs.declared.resource.Ret.{Ret}
use Rattle.grs_base.specs.declared.resource.Row.{Row}
use Rattle.grs_base.specs.declared.resource.TaskId.{TaskId}
use Rattle.grs_base.specs.declared.decision.Code.{Code}
use Rattle.grs_base.specs.declared.decision.Code.TheVariants.{C00, C04, C08, C14, C18, Wait, End}
use Rattle.gqscan.specs.Shown.{code_for}
use Rattle.task_state.specs.declared.state.Asked.{Asked}
use Rattle.grs_wire.specs.declared.request.Want.TheVariants.{Enq, Deq, Release}
use Rattle.grs_wire.specs.declared.told.Verb.{Verb}
use Rattle.grs_wire.specs.declared.told.Verb.TheVariants as verbs
use Rattle.grs_wire.specs.declared.told.ToldLine.{ToldLine}
use Rattle.grs_wire.specs.declared.told.ToldLine.TheVariants.{Coded, Shown}
use Rattle.task_state.specs.declared.state.Rec.{Rec}
use Rattle.task_state.specs.declared.state.Phase.{Phase}
use Rattle.task_state.specs.declared.state.TaskState.{TaskState}
use Rattle.task_state.specs.View.{TasksView, is_task, state_of, with_state, with_line, with_phase, with_outstanding}
use Rattle.task_state.specs.View.{with_record, without_record, with_exclusive, with_rows, without_rows, telling}
use Rattle.task_state.specs.View.{on_record, with_last, without_first, code_in}
use Rattle.task_state.proofs.ViewLaws.{state_of-same, told-state, state_of-telling, told-telling}
use Rattle.task_state.specs.Replies.{is_queued, is_changed, is_granted, phase_after, tell_code, tell_rows, record_enq}
use Rattle.task_state.specs.Replies.{after_code, new_record}
use Rattle.grs_known.proofs.system.Ours.{IsChanged, changed-state, changed-telling, changed-then, changed-none}
use Rattle.grs_known.proofs.tasks.Asked.{told_after}
use Rattle.grs_known.proofs.tasks.Decided.{enq_records}

-- Tasks that differ from others in task t, which now stands as x, and in what was told, which now is T.
pub record Did (v w : TasksView) (t : TaskId) (x : TaskState) (T : List ToldLine) : Type 0 where
  pub changed : IsChanged v w t
  pub state : state_of w t ≡ x
  pub told : w.told ≡ T

pub did-none : (v : TasksView) (t : TaskId) → Did v v t (state_of v t) v.told
did-none v t = record { changed = changed-none v t; state = refl; told = refl }

pub did-state : (v w : TasksView) (t : TaskId) (x : TaskState) (T : List ToldLine) (f : TaskState → TaskState)
    → is_task v t ≡ true → Did v w t x T → Did v (with_state w t f) t (f x) T
did-state v w t x T f here d = record {
  changed = changed-then v w (with_state w t f) t d.changed (changed-state w t f);
  state = state_of-same w t f (d.changed.here t ∙ here) ∙ ap f d.state;
  told = told-state w t f ∙ d.told;
}

pub did-telling : (v w : TasksView) (t : TaskId) (x : TaskState) (T : List ToldLine) (l : ToldLine) → Did v w t x T
    → Did v (telling w l) t x (T ++ l ∷ [])
did-telling v w t x T l d = record {
  changed = changed-then v w (telling w l) t d.changed (changed-telling w t l);
  state = state_of-telling w t l ∙ d.state;
  told = told-telling w l ∙ ap (λ U. U ++ l ∷ []) d.told;
}

module _ (v w : TasksView) (t : TaskId) (x : TaskState) (T : List ToldLine) (here : is_task v t ≡ true)
    (d : Did v w t x T) where
  pub did-line : Did v (with_line w t) t (record x { line = suc x.line }) T
  unfolding with_line
  did-line =
      subst (λ n. Did v (with_state w t (λ y. record y { line = y.line + 1 })) t (record x { line = n }) T)
      (add-one x.line) (did-state v w t x T (λ y. record y { line = y.line + 1 }) here d)

  pub did-phase : (p : Phase) → Did v (with_phase w t p) t (record x { phase = p; code = code_in p x.code }) T
  unfolding with_phase
  did-phase p = did-state v w t x T (λ y. record y { phase = p; code = code_in p y.code }) here d

  pub did-outstanding : (q : Option Asked) → Did v (with_outstanding w t q) t (record x { outstanding = q }) T
  unfolding with_outstanding
  did-outstanding q = did-state v w t x T (λ y. record y { outstanding = q }) here d

  pub did-record : (new : Rec) → Did v (with_record w t new) t (record x { records = with_last x.records new }) T
  unfolding with_record
  did-record new = did-state v w t x T (λ y. record y { records = with_last y.records new }) here d

  pub did-without : (r : Res) → Did v (without_record w t r) t (record x { records = without_first x.records r }) T
  unfolding without_record
  did-without r = did-state v w t x T (λ y. record y { records = without_first y.records r }) here d

  pub did-rows : (rs : List Row) → Did v (with_rows w t rs) t (record x { rows = x.rows ++ rs }) T
  unfolding with_rows
  did-rows rs = did-state v w t x T (λ y. record y { rows = y.rows ++ rs }) here d

  did-no_rows : Did v (without_rows w t) t (record x { rows = [] }) T
  unfolding without_rows
  did-no_rows = did-state v w t x T (λ y. record y { rows = [] }) here d

  -- all rows of the task's last line are told
  pub did-shown : (verb : Verb)
      → Did v (tell_rows w t verb) t (record x { rows = [] })
      (T ++ Shown t x.line verb (code_for (length x.rows)) x.rows ∷ [])
  unfolding tell_rows
  did-shown verb =
      subst (λ (y : TaskState).
      Did v (tell_rows w t verb) t (record x { rows = [] })
      (T ++ Shown t y.line verb (code_for (length y.rows)) y.rows ∷ []))
      d.state (did-telling v (without_rows w t) t (record x { rows = [] }) T _ did-no_rows)

  pub did-exclusive : (r : Res)
      → Did v (with_exclusive w t r) t (record x { records = on_record r (λ z. record z { ctl = ctls.E }) x.records }) T
  unfolding with_exclusive
  did-exclusive r =
      did-state v w t x T (λ y. record y { records = on_record r (λ z. record z { ctl = ctls.E }) y.records }) here d

  -- the code of the task's last line is told
  pub did-code : (verb : Verb) (c : Code) → Did v (tell_code w t verb c) t x (told_after T t x.line verb c)
  unfolding tell_code
  did-code verb Wait = d
  did-code verb C00 =
      subst (λ n. Did v (telling w (Coded t (state_of w t).line 0 verb C00)) t x (T ++ Coded t n 0 verb C00 ∷ []))
      (ap (λ (y : TaskState). y.line) d.state) (did-telling v w t x T _ d)
  did-code verb C04 =
      subst (λ n. Did v (telling w (Coded t (state_of w t).line 0 verb C04)) t x (T ++ Coded t n 0 verb C04 ∷ []))
      (ap (λ (y : TaskState). y.line) d.state) (did-telling v w t x T _ d)
  did-code verb C08 =
      subst (λ n. Did v (telling w (Coded t (state_of w t).line 0 verb C08)) t x (T ++ Coded t n 0 verb C08 ∷ []))
      (ap (λ (y : TaskState). y.line) d.state) (did-telling v w t x T _ d)
  did-code verb C14 =
      subst (λ n. Did v (telling w (Coded t (state_of w t).line 0 verb C14)) t x (T ++ Coded t n 0 verb C14 ∷ []))
      (ap (λ (y : TaskState). y.line) d.state) (did-telling v w t x T _ d)
  did-code verb C18 =
      subst (λ n. Did v (telling w (Coded t (state_of w t).line 0 verb C18)) t x (T ++ Coded t n 0 verb C18 ∷ []))
      (ap (λ (y : TaskState). y.line) d.state) (did-telling v w t x T _ d)
  did-code verb (End m) =
      subst (λ n.
      Did v (telling w (Coded t (state_of w t).line 0 verb (End m))) t x (T ++ Coded t n 0 verb (End m) ∷ []))
      (ap (λ (y : TaskState). y.line) d.state) (did-telling v w t x T _ d)

  did-new : (r : Res) (c : Ctl) (unit : Option ℕ) (code : Code)
      → Did v (with_record w t (new_record w t r c unit code)) t
      (record x {
        records =
            with_last x.records
            (record { res = r; ctl = c; rank = 0; told = is_granted code; unit = unit; line = x.line });
      })
      T
  did-new r c unit code =
      subst (λ n.
      Did v (with_record w t (new_record w t r c unit code)) t
      (record x {
        records =
            with_last x.records (record { res = r; ctl = c; rank = 0; told = is_granted code; unit = unit; line = n });
      })
      T)
      (ap (λ (y : TaskState). y.line) d.state) (did-record (new_record w t r c unit code))

  -- the records after an ENQ
  pub did-enq : (r : Res) (c : Ctl) (unit : Option ℕ) (ret : Ret) (code : Code)
      → Did v (record_enq w t r c unit ret code) t
      (record x { records = enq_records r c unit ret code x.line x.records }) T
  unfolding record_enq
  did-enq r c unit ret code = go (is_queued ret code) (is_changed ret code)
    where
      go : (a b : Bool)
          → Did v (cond a (with_record w t (new_record w t r c unit code)) (cond b (with_exclusive w t r) w)) t
          (record x {
            records =
                cond a (with_last x.records
                (record { res = r; ctl = c; rank = 0; told = is_granted code; unit = unit; line = x.line }))
                (cond b (on_record r (λ z. record z { ctl = ctls.E }) x.records) x.records);
          })
          T
      go true b = did-new r c unit code
      go false true = did-exclusive r
      go false false = d

  pub did-taken : (r : Res) (b : Bool)
      → Did v (cond b (without_record w t r) w) t (record x { records = cond b (without_first x.records r) x.records })
      T
  did-taken r true = did-without r
  did-taken r false = d

-- a task after the answer to its own request
pub did-after_code_enq : (v w : TasksView) (t : TaskId) (x : TaskState) (T : List ToldLine) → is_task v t ≡ true
    → Did v w t x T → (r : Res) (c : Ctl) (unit : Option ℕ) (ret : Ret) (full : Bool) (code : Code) →
    Did v (after_code w t (Enq r c ret full) unit code) t (record {
      line = x.line;
      phase = phase_after code;
      code = code_in (phase_after code) x.code;
      records = enq_records r c unit ret code x.line x.records;
      outstanding = x.outstanding;
      rows = x.rows;
    })
    (told_after T t x.line verbs.Enq code)
unfolding after_code
did-after_code_enq v w t x T here d r c unit ret full code =
    did-code v (with_phase (record_enq w t r c unit ret code) t (phase_after code)) t
    (record {
      line = x.line;
      phase = phase_after code;
      code = code_in (phase_after code) x.code;
      records = enq_records r c unit ret code x.line x.records;
      outstanding = x.outstanding;
      rows = x.rows;
    })
    T here
    (did-phase v (record_enq w t r c unit ret code) t
    (record x { records = enq_records r c unit ret code x.line x.records }) T here
    (did-enq v w t x T here d r c unit ret code) (phase_after code))
    verbs.Enq code

pub did-after_code_deq : (v w : TasksView) (t : TaskId) (x : TaskState) (T : List ToldLine) → is_task v t ≡ true
    → Did v w t x T → (r : Res) (have : Bool) (unit : Option ℕ) (code : Code) →
    Did v (after_code w t (Deq r have) unit code) t (record {
      line = x.line;
      phase = phase_after code;
      code = code_in (phase_after code) x.code;
      records = cond (is_granted code) (without_first x.records r) x.records;
      outstanding = x.outstanding;
      rows = x.rows;
    })
    (told_after T t x.line verbs.Deq code)
unfolding after_code
did-after_code_deq v w t x T here d r have unit code =
    did-code v (with_phase (cond (is_granted code) (without_record w t r) w) t (phase_after code)) t
    (record {
      line = x.line;
      phase = phase_after code;
      code = code_in (phase_after code) x.code;
      records = cond (is_granted code) (without_first x.records r) x.records;
      outstanding = x.outstanding;
      rows = x.rows;
    })
    T here
    (did-phase v (cond (is_granted code) (without_record w t r) w) t
    (record x { records = cond (is_granted code) (without_first x.records r) x.records }) T here
    (did-taken v w t x T here d r (is_granted code)) (phase_after code))
    verbs.Deq code

pub did-after_code_release : (v w : TasksView) (t : TaskId) (x : TaskState) (T : List ToldLine) → is_task v t ≡ true
    → Did v w t x T → (r : Res) (unit : Option ℕ) (code : Code) →
    Did v (after_code w t (Release r) unit code) t (record x { records = without_first x.records r }) T
unfolding after_code
did-after_code_release v w t x T here d r unit code = did-without v w t x T here d r
