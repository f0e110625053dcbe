-- A task whose own request is answered stays up to date.
use Rattle.std.proofs.Common.{◌≡◌, ◌<◌, ◌-◌, ℕ, zero, suc, Bool, true, false, cond, List, [], ◌∷◌, ◌++◌, Option, Some}
use Rattle.std.proofs.Common.{None, refl, sym, subst, length}
use Rattle.std.specs.Prelude.{◌==◌, slice_get}
use Rattle.std.specs.List.{list_any}
use Rattle.std.proofs.lemmas.Bool.{and_from, eq-eqb}
use Rattle.grs_base.specs.declared.decision.Code.{Code}
use Rattle.grs_base.specs.declared.decision.Code.TheVariants.{C00, C04, C08, C14, C18, Wait, End}
use Rattle.grs_base.specs.declared.resource.Ctl.{Ctl}
use Rattle.grs_base.specs.declared.resource.Ctl.TheVariants as ctls
use Rattle.grs_base.specs.declared.resource.Res.{Res}
use Rattle.grs_base.specs.declared.resource.Ret.{Ret}
use Rattle.grs_base.specs.declared.resource.Row.{Row}
use Rattle.grs_base.specs.State.{State}
use Rattle.grs_base.specs.declared.resource.TaskId.{TaskId}
use Rattle.grs_wire.specs.Wants.{answer_to}
use Rattle.gqscan.specs.Shown.{code_for}
use Rattle.grs_legal.specs.declared.meaning.Meaning.{Meaning}
use Rattle.grs_wire.specs.declared.request.Answer.{Answer}
use Rattle.grs_wire.specs.declared.request.Answer.TheVariants.{Coded as CodedBy, Rows}
use Rattle.grs_wire.specs.declared.request.Want.{Want}
use Rattle.grs_wire.specs.declared.request.Want.TheVariants.{Enq, Deq, Release, Look}
use Rattle.grs_wire.specs.declared.told.ToldLine.{ToldLine}
use Rattle.grs_wire.specs.declared.told.ToldLine.TheVariants.{Coded, Shown}
use Rattle.grs_wire.specs.declared.told.Verb.{Verb}
use Rattle.grs_wire.specs.declared.told.Verb.TheVariants as verbs
use Rattle.task_state.specs.Replies.{is_changed, is_granted, is_queued, phase_after, phase_asking, recalled, replied}
use Rattle.task_state.specs.Replies.{goes_on_looking, looked, next_asked, next_look, tell_answer}
use Rattle.task_state.specs.View.{TasksView, code_in, is_task, on_record, record_of, state_of, with_last, with_last_by}
use Rattle.task_state.specs.View.{with_phase, with_rows, without_first}
use Rattle.task_state.specs.declared.state.Asked.{Asked}
use Rattle.task_state.specs.declared.state.Phase.{Phase}
use Rattle.task_state.specs.declared.state.Phase.TheVariants as phases
use Rattle.task_state.specs.declared.state.Rec.{Rec}
use Rattle.task_state.specs.declared.state.Showing.{Showing}
use Rattle.task_state.specs.declared.state.TaskState.{TaskState}
use Rattle.grs_known.proofs.lists.Facts.{any-more}
use Rattle.grs_known.proofs.system.Did.{Did, did-after_code_deq, did-after_code_enq, did-after_code_release, did-none}
use Rattle.grs_known.proofs.system.Did.{did-outstanding, did-phase, did-rows, did-shown}
use Rattle.grs_known.proofs.tasks.Asked.{any-after, told_after}
use Rattle.grs_known.proofs.tasks.Decided.{enq_records}
use Rattle.grs_known.proofs.tasks.Invariant.{Each}
use Rattle.grs_known.specs.Passed.{has_ended}
use Rattle.grs_known.proofs.tasks.Keys.{each-exclusive, each-push, each-without}
use Rattle.grs_known.proofs.tasks.UpToDate.{AreCoded, HasUnit, IsLeft, IsUpToDate, IsWanted, IsWantedBy, coded-next}
use Rattle.grs_known.proofs.tasks.UpToDate.{is_kept, is_placed, unit_of}
use Rattle.grs_known.specs.Passed.{is_at_line, passed_asking, passed_by}

-- ---- what is told after a code
pub coded-line : (ls : List Meaning) (T : List ToldLine) (t u : TaskId) (n : ℕ) (verb : Verb) (c : Code)
    → is_placed t u ≡ true → AreCoded ls T t (n - 1) → AreCoded ls (T ++ Coded u n 0 verb c ∷ []) t n
coded-line ls T t u n verb c place h =
    coded-next ls T t n (Coded u n 0 verb c) h (and_from (is_placed t u) (n == n) place (eq-eqb n n refl))

-- and after rows
pub shown-line : (ls : List Meaning) (T : List ToldLine) (t u : TaskId) (n : ℕ) (verb : Verb) (c : Code)
    (rows : List Row) → is_placed t u ≡ true → AreCoded ls T t (n - 1)
    → AreCoded ls (T ++ Shown u n verb c rows ∷ []) t n
shown-line ls T t u n verb c rows place h =
    coded-next ls T t n (Shown u n verb c rows) h (and_from (is_placed t u) (n == n) place (eq-eqb n n refl))

-- whether a task in this phase may be answered at once: it is at its lines, or ending
abbrev pub is_free : Phase → Bool
is_free phases.Ready = true
is_free (phases.Ending c) = true
is_free phases.HeldAnswer = false
is_free (phases.HeldLine r) = false
is_free phases.ToSend = false
is_free phases.Sent = false
is_free phases.Ended = false

free-kept : (p : Phase) (xs : List Rec) → is_free p ≡ true → is_kept p xs ≡ true
free-kept phases.Ready xs e = refl
free-kept (phases.Ending c) xs e = refl
free-kept phases.HeldAnswer xs e = absurd (cc)
free-kept (phases.HeldLine r) xs e = absurd (cc)
free-kept phases.ToSend xs e = absurd (cc)
free-kept phases.Sent xs e = absurd (cc)
free-kept phases.Ended xs e = absurd (cc)

free-not : (p : Phase) → is_free p ≡ true → is_at_line p ≡ false
free-not phases.Ready e = refl
free-not (phases.Ending c) e = refl
free-not phases.HeldAnswer e = absurd (cc)
free-not (phases.HeldLine r) e = absurd (cc)
free-not phases.ToSend e = absurd (cc)
free-not phases.Sent e = absurd (cc)
free-not phases.Ended e = absurd (cc)

pub free-going : (p : Phase) → is_free p ≡ true → has_ended p ≡ true → ⊥
free-going phases.Ready e k = absurd (cc)
free-going (phases.Ending c) e k = absurd (cc)
free-going phases.HeldAnswer e k = absurd (cc)
free-going (phases.HeldLine r) e k = absurd (cc)
free-going phases.ToSend e k = absurd (cc)
free-going phases.Sent e k = absurd (cc)
free-going phases.Ended e k = absurd (cc)

-- what holds of the phase after a code, and of what is told then: the task is held by its answer, or free and told the
-- code
by_phase : (Q : Phase → List ToldLine → Type 0) (T : List ToldLine) (u : TaskId) (n : ℕ) (verb : Verb)
    → Q phases.HeldAnswer T → ((c : Code) (p : Phase) → is_free p ≡ true → Q p (T ++ Coded u n 0 verb c ∷ []))
    → (c : Code) → Q (phase_after c) (told_after T u n verb c)
by_phase Q T u n verb held free Wait = held
by_phase Q T u n verb held free C00 = free C00 phases.Ready refl
by_phase Q T u n verb held free C04 = free C04 phases.Ready refl
by_phase Q T u n verb held free C08 = free C08 phases.Ready refl
by_phase Q T u n verb held free C14 = free C14 phases.Ready refl
by_phase Q T u n verb held free C18 = free C18 phases.Ready refl
by_phase Q T u n verb held free (End m) = free (End m) (phases.Ending m) refl

-- lines up to that of the answer
coded-after : (ls : List Meaning) (T : List ToldLine) (t u : TaskId) (n : ℕ) (verb : Verb) (c : Code)
    → is_placed t u ≡ true → AreCoded ls T t (n - 1)
    → AreCoded ls (told_after T u n verb c) t (passed_by None (phase_after c) n)
coded-after ls T t u n verb c place h = by_phase (λ p U. AreCoded ls U t (passed_by None p n)) T u n verb h
    (λ d p free.
    subst (λ b. AreCoded ls (T ++ Coded u n 0 verb d ∷ []) t (cond b (n - 1) n)) (sym (free-not p free))
    (coded-line ls T t u n verb d place h))
    c

kept-after : (t : TaskId) (c : Code) (xs : List Rec) → is_kept (phase_after c) xs ≡ true
kept-after t c xs = by_phase (λ p U. is_kept p xs ≡ true) [] t 0 verbs.Enq refl (λ d p free. free-kept p xs free) c

going-after : (t : TaskId) (c : Code) → has_ended (phase_after c) ≡ true → ⊥
going-after t c =
    by_phase (λ p U. has_ended p ≡ true → ⊥) [] t 0 verbs.Enq (λ e. absurd (cc)) (λ d p free. free-going p free) c

-- ---- records
units-last : (ls : List Meaning) (xs : List Rec) (y : Rec) → Each (HasUnit ls) xs → HasUnit ls y
    → Each (HasUnit ls) (with_last xs y)
units-last ls xs y h k = go (record_of xs y.res)
  where
    go : (o : Option Rec) → Each (HasUnit ls) (with_last_by o xs y)
    go None = each-push (HasUnit ls) xs y h k
    go (Some z) = h

units-enq : (ls : List Meaning) (r : Res) (c : Ctl) (unit : Option ℕ) (ret : Ret) (code : Code) (n : ℕ) (xs : List Rec)
    → Each (HasUnit ls) xs → unit ≡ unit_of (slice_get ls (n - 1))
    → Each (HasUnit ls) (enq_records r c unit ret code n xs)
units-enq ls r c unit ret code n xs h k = go (is_queued ret code) (is_changed ret code)
  where
    go : (a b : Bool)
        → Each (HasUnit ls) (cond a
        (with_last xs (record { res = r; ctl = c; rank = 0; told = is_granted code; unit = unit; line = n }))
        (cond b (on_record r (λ z. record z { ctl = ctls.E }) xs) xs))
    go true b = units-last ls xs _ h k
    go false true = each-exclusive (HasUnit ls) (λ z e. e) r xs h
    go false false = h

units-without : (ls : List Meaning) (b : Bool) (r : Res) (xs : List Rec) → Each (HasUnit ls) xs
    → Each (HasUnit ls) (cond b (without_first xs r) xs)
units-without ls true r xs h = each-without (HasUnit ls) r xs h
units-without ls false r xs h = h

-- ---- the answer
-- an ENQ reserves the unit of its line
abbrev pub UnitIs : List Meaning → ℕ → Want → Option ℕ → Type 0
UnitIs ls n (Enq r c ret full) unit = unit ≡ unit_of (slice_get ls (n - 1))
UnitIs ls n (Deq r have) unit = Unit {0}
UnitIs ls n (Release r) unit = Unit {0}
UnitIs ls n (Look first count f) unit = Unit {0}

-- a request that isn't for rows is answered by a code
abbrev pub IsCoded : Want → Answer → Type 0
IsCoded (Enq r c ret full) (CodedBy code) = Unit {0}
IsCoded (Deq r have) (CodedBy code) = Unit {0}
IsCoded (Release r) (CodedBy code) = Unit {0}
IsCoded w a = ⊥

-- and looks are answered by rows
abbrev pub IsAnswerTo : Want → Answer → Type 0
IsAnswerTo (Enq r c ret full) (CodedBy code) = Unit {0}
IsAnswerTo (Deq r have) (CodedBy code) = Unit {0}
IsAnswerTo (Release r) (CodedBy code) = Unit {0}
IsAnswerTo (Look first count f) (Rows rows) = Unit {0}
IsAnswerTo w a = ⊥

-- as lists answer them
pub lists-answer : (s : State) (t : TaskId) (w : Want) → IsAnswerTo w (answer_to s t w)
lists-answer s t (Enq r c ret full) = tt
lists-answer s t (Deq r have) = tt
lists-answer s t (Release r) = tt
lists-answer s t (Look first count f) = tt

pub code-answers : (w : Want) (code : Code) → IsAnswerTo w (CodedBy code) → IsCoded w (CodedBy code)
code-answers (Enq r c ret full) code k = k
code-answers (Deq r have) code k = k
code-answers (Release r) code k = k
code-answers (Look first count f) code k = absurd k

-- A task at this place asks this as it stands at x, where these lines were told: nothing else is outstanding, and it is
-- done with all lines before.
pub record IsDue (ls : List Meaning) (T : List ToldLine) (t : TaskId) (x : TaskState) (w : Want) (unit : Option ℕ) :
    Type 0 where
  pub closed : x.outstanding ≡ None
  pub wanted : UnitIs ls x.line w unit
  pub coded : AreCoded ls T t (passed_asking w x.line)
  pub units : Each (HasUnit ls) x.records
  pub phase : is_free x.phase ≡ true

-- the tasks after an answer, of which task u at place t is one
pub record IsAnswered (whole : Bool) (ls : List Meaning) (t : TaskId) (v : TasksView) (u : TaskId) (w : TasksView) :
    Type 0 where
  pub state : TaskState
  pub told : List ToldLine
  pub did : Did v w u state told
  pub grows : (p : ToldLine → Bool) → list_any p v.told ≡ true → list_any p told ≡ true
  pub date : IsUpToDate whole ls told t state

-- the same, where its records stay
pub record KeepsRecords (whole : Bool) (ls : List Meaning) (t : TaskId) (v : TasksView) (u : TaskId) (w : TasksView) :
    Type 0 where
  pub stands : IsAnswered whole ls t v u w
  pub records : stands.state.records ≡ (state_of v u).records

-- u is the task whose request is answered; v0 are the tasks as it asks
module _ (whole : Bool) (ls : List Meaning) (v v0 : TasksView) (t u : TaskId) (place : is_placed t u ≡ true)
    (here : is_task v u ≡ true) (x : TaskState) (did0 : Did v v0 u x v.told) where
  pub answered : (w : Want) (unit : Option ℕ) (a : Answer) → IsCoded w a → IsDue ls v.told t x w unit
      → IsAnswered whole ls t v u (replied v0 u w unit a)
  unfolding replied
  answered (Enq r c ret full) unit (CodedBy code) is d = record {
    state = record {
      line = x.line;
      phase = phase_after code;
      code = code_in (phase_after code) x.code;
      records = enq_records r c unit ret code x.line x.records;
      outstanding = x.outstanding;
      rows = x.rows;
    };
    told = told_after v.told u x.line verbs.Enq code;
    did = did-after_code_enq v v0 u x v.told here did0 r c unit ret full code;
    grows = λ p h. any-after p v.told u x.line verbs.Enq code h;
    date = record {
      closed = λ e. d.closed;
      wanted = subst (IsWantedBy whole ls x.line) (sym d.closed) tt;
      held = kept-after t code _;
      coded =
          subst (λ o. AreCoded ls (told_after v.told u x.line verbs.Enq code) t (passed_by o (phase_after code) x.line))
          (sym d.closed) (coded-after ls v.told t u x.line verbs.Enq code place d.coded);
      units = units-enq ls r c unit ret code x.line x.records d.units d.wanted;
      ended = λ e. absurd (going-after t code e);
    };
  }
  answered (Deq r have) unit (CodedBy code) is d = record {
    state = record {
      line = x.line;
      phase = phase_after code;
      code = code_in (phase_after code) x.code;
      records = cond (is_granted code) (without_first x.records r) x.records;
      outstanding = x.outstanding;
      rows = x.rows;
    };
    told = told_after v.told u x.line verbs.Deq code;
    did = did-after_code_deq v v0 u x v.told here did0 r have unit code;
    grows = λ p h. any-after p v.told u x.line verbs.Deq code h;
    date = record {
      closed = λ e. d.closed;
      wanted = subst (IsWantedBy whole ls x.line) (sym d.closed) tt;
      held = kept-after t code _;
      coded =
          subst (λ o. AreCoded ls (told_after v.told u x.line verbs.Deq code) t (passed_by o (phase_after code) x.line))
          (sym d.closed) (coded-after ls v.told t u x.line verbs.Deq code place d.coded);
      units = units-without ls (is_granted code) r x.records d.units;
      ended = λ e. absurd (going-after t code e);
    };
  }
  answered (Release r) unit (CodedBy code) is d = record {
    state = record x { records = without_first x.records r };
    told = v.told;
    did = did-after_code_release v v0 u x v.told here did0 r unit code;
    grows = λ p h. h;
    date = record {
      closed = λ e. d.closed;
      wanted = subst (IsWantedBy whole ls x.line) (sym d.closed) tt;
      held = free-kept x.phase (without_first x.records r) d.phase;
      coded =
          subst (λ o. AreCoded ls v.told t (passed_by o x.phase x.line)) (sym d.closed)
          (subst (λ b. AreCoded ls v.told t (cond b (x.line - 1) x.line)) (sym (free-not x.phase d.phase)) d.coded);
      units = each-without (HasUnit ls) r x.records d.units;
      ended = λ e. absurd (free-going x.phase d.phase e);
    };
  }
  answered (Enq r c ret full) unit (Rows rows) is d = absurd is
  answered (Deq r have) unit (Rows rows) is d = absurd is
  answered (Release r) unit (Rows rows) is d = absurd is
  answered (Look first count f) unit (CodedBy code) is d = absurd is
  answered (Look first count f) unit (Rows rows) is d = absurd is

-- ---- an outstanding request is answered
module _ (whole : Bool) (ls : List Meaning) (v : TasksView) (t u : TaskId) (place : is_placed t u ≡ true)
    (here : is_task v u ≡ true)
    (a : Asked) (asks : (state_of v u).outstanding ≡ Some a) (h : IsUpToDate whole ls v.told t (state_of v u)) where
  abbrev y : TaskState
  y = state_of v u

  abbrev x : TaskState
  x =
      record (state_of v u) {
        phase = phase_asking a.req.want (state_of v u).code;
        code = code_in (phase_asking a.req.want (state_of v u).code) (state_of v u).code;
        outstanding = None;
      }

  did-recalled :
      Did v (recalled v u a.req.want) u (record (state_of v u) {
        phase = phase_asking a.req.want (state_of v u).code;
        code = code_in (phase_asking a.req.want (state_of v u).code) (state_of v u).code;
        outstanding = None;
      })
      v.told
  unfolding recalled
  did-recalled =
      did-outstanding v (with_phase v u (phase_asking a.req.want y.code)) u
      (record y { phase = phase_asking a.req.want y.code; code = code_in (phase_asking a.req.want y.code) y.code })
      v.told here
      (did-phase v v u y v.told here (did-none v u) (phase_asking a.req.want y.code)) None

  free_asking : (w : Want) (code : ℕ) → is_free (phase_asking w code) ≡ true
  free_asking (Enq r c ret full) code = refl
  free_asking (Deq r have) code = refl
  free_asking (Release r) code = refl
  free_asking (Look first count f) code = refl

  unit-is : (w : Want) (n : ℕ) (unit : Option ℕ) (showing : Option Showing) → IsWanted whole ls n w unit showing
      → UnitIs ls n w unit
  unit-is (Enq r c ret full) n unit showing k = k.1.0
  unit-is (Deq r have) n unit showing k = tt
  unit-is (Release r) n unit showing k = tt
  unit-is (Look first count f) n unit showing k = tt

  wanted : IsWanted whole ls (state_of v u).line a.req.want a.unit a.showing
  wanted = subst (IsWantedBy whole ls y.line) asks h.wanted

  done : AreCoded ls v.told t (passed_asking a.req.want (state_of v u).line)
  done = subst (λ o. AreCoded ls v.told t (passed_by o y.phase y.line)) asks h.coded

  code-told : (code : Code) → IsAnswerTo a.req.want (CodedBy code)
      → IsAnswered whole ls t v u (tell_answer v u a (CodedBy code))
  unfolding tell_answer
  code-told code is =
      answered whole ls v (recalled v u a.req.want) t u place here x did-recalled a.req.want a.unit (CodedBy code)
      (code-answers a.req.want code is) (record {
        closed = refl;
        wanted = unit-is a.req.want y.line a.unit a.showing wanted;
        coded = done;
        units = h.units;
        phase = free_asking a.req.want y.code;
      })

  -- ---- rows come
  -- it looks
  looks-shown : (w : Want) (rows : List Row) (unit : Option ℕ) (showing : Option Showing) (n : ℕ)
      → IsAnswerTo w (Rows rows) → IsWanted whole ls n w unit showing → (0 < n) × IsLeft whole showing
  looks-shown (Enq r c ret full) rows unit showing n is k = absurd is
  looks-shown (Deq r have) rows unit showing n is k = absurd is
  looks-shown (Release r) rows unit showing n is k = absurd is
  looks-shown (Look first count f) rows unit showing n is k = k

  looks-passed : (w : Want) (rows : List Row) (n : ℕ) → IsAnswerTo w (Rows rows)
      → (passed_asking w n ≡ n - 1) × (passed_asking (next_look w) n ≡ n - 1)
  looks-passed (Enq r c ret full) rows n is = absurd is
  looks-passed (Deq r have) rows n is = absurd is
  looks-passed (Release r) rows n is = absurd is
  looks-passed (Look first count f) rows n is = (refl, refl)

  looks-next : (w : Want) (rows : List Row) (unit : Option ℕ) (showing : Showing) (n : ℕ) → IsAnswerTo w (Rows rows)
      → 0 < n → (whole ≡ true → showing.left ≡ 0) → IsWanted whole ls n (next_look w) unit (Some showing)
  looks-next (Enq r c ret full) rows unit showing n is low left = absurd is
  looks-next (Deq r have) rows unit showing n is low left = absurd is
  looks-next (Release r) rows unit showing n is low left = absurd is
  looks-next (Look first count f) rows unit showing n is low left = (low, left)

  module _ (rows : List Row) (is : IsAnswerTo a.req.want (Rows rows)) where
    -- with these rows behind those of its line so far
    abbrev x1 : TaskState
    x1 =
        record (state_of v u) {
          phase = phase_asking a.req.want (state_of v u).code;
          code = code_in (phase_asking a.req.want (state_of v u).code) (state_of v u).code;
          outstanding = None;
          rows = (state_of v u).rows ++ rows;
        }

    did-more :
        Did v (with_rows (recalled v u a.req.want) u rows) u (record (state_of v u) {
          phase = phase_asking a.req.want (state_of v u).code;
          code = code_in (phase_asking a.req.want (state_of v u).code) (state_of v u).code;
          outstanding = None;
          rows = (state_of v u).rows ++ rows;
        })
        v.told
    did-more = did-rows v (recalled v u a.req.want) u x v.told here did-recalled rows

    before : AreCoded ls v.told t ((state_of v u).line - 1)
    before = subst (AreCoded ls v.told t) (looks-passed a.req.want rows y.line is).0 done

    looked-told : (verb : Verb) (left : ℕ) → (whole ≡ true → left ≡ 0)
        → KeepsRecords whole ls t v u (goes_on_looking (with_rows (recalled v u a.req.want) u rows) u a verb left)
    unfolding goes_on_looking
    looked-told verb zero none = record {
      stands = record {
        state = record x1 { rows = [] };
        told = v.told ++ Shown u y.line verb (code_for (length x1.rows)) x1.rows ∷ [];
        did = did-shown v (with_rows (recalled v u a.req.want) u rows) u x1 v.told here did-more verb;
        grows = λ p k. any-more p v.told _ k;
        date = record {
          closed = λ e. refl;
          wanted = tt;
          held = free-kept x1.phase x1.records (free_asking a.req.want y.code);
          coded =
              subst (λ b.
              AreCoded ls (v.told ++ Shown u y.line verb (code_for (length x1.rows)) x1.rows ∷ []) t
              (cond b (y.line - 1) y.line))
              (sym (free-not x1.phase (free_asking a.req.want y.code)))
              (shown-line ls v.told t u y.line verb (code_for (length x1.rows)) x1.rows place before);
          units = h.units;
          ended = λ e. absurd (free-going x1.phase (free_asking a.req.want y.code) e);
        };
      };
      records = refl;
    }
    looked-told verb (suc left) none =
        let next : Asked = next_asked u a verb left in
        record {
          stands = record {
            state = record x1 { phase = phases.ToSend; code = x1.code; outstanding = Some next };
            told = v.told;
            did =
                did-outstanding v (with_phase (with_rows (recalled v u a.req.want) u rows) u phases.ToSend) u
                (record x1 { phase = phases.ToSend; code = x1.code }) v.told here
                (did-phase v (with_rows (recalled v u a.req.want) u rows) u x1 v.told here did-more phases.ToSend)
                (Some next);
            grows = λ p k. k;
            date = record {
              closed = λ e. absurd (cc);
              wanted =
                  looks-next a.req.want rows a.unit (record { verb = verb; left = left }) y.line is
                  (looks-shown a.req.want rows a.unit a.showing y.line is wanted).0
                  (λ e. absurd (let no : suc left ≡ 0 = none e in cc));
              held = refl;
              coded = subst (AreCoded ls v.told t) (sym (looks-passed a.req.want rows y.line is).1) before;
              units = h.units;
              ended = λ e. absurd (cc);
            };
          };
          records = refl;
        }

    pub rows-told : KeepsRecords whole ls t v u (tell_answer v u a (Rows rows))
    unfolding tell_answer
    rows-told = go a.showing (looks-shown a.req.want rows a.unit a.showing y.line is wanted).1
      where
        go : (o : Option Showing) → IsLeft whole o
            → KeepsRecords whole ls t v u (looked (recalled v u a.req.want) u a rows o)
        go None e = absurd e
        go (Some s) e = looked-told s.verb s.left e

  pub answer-told : (answer : Answer) → IsAnswerTo a.req.want answer
      → IsAnswered whole ls t v u (tell_answer v u a answer)
  answer-told (CodedBy code) is = code-told code is
  answer-told (Rows rows) is = (rows-told rows is).stands
