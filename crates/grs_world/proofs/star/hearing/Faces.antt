-- What tasks have on record but for marks, units and lines: a record's face is its resource, its control and its rank.
-- What mail does to faces goes by them, by the requests that are outstanding, and by which of these were sent, alone.
use Rattle.grs_world.proofs.Common.{[], ◌++◌, ◌||◌, ◌∙◌, ◌∷◌, ◌≡◌, after_code, Answer, ap, Asked, Bool, C00, C04, C08}
use Rattle.grs_world.proofs.Common.{C14, Code, code_in, cond, Ctl, Deq, Did, did-none, did-outstanding, did-phase}
use Rattle.grs_world.proofs.Common.{did-rows, did-shown, E, End, Enq, false, goes_on_looking, has_res, is_granted}
use Rattle.grs_world.proofs.Common.{is_none, is_sent, is_task, List, Look, looked, map, map-append, None, on_record}
use Rattle.grs_world.proofs.Common.{Option, Phase, Rec, recalled, record_of, refl, Release, replied, Res, res_wanted}
use Rattle.grs_world.proofs.Common.{Ret, Row, Rows, same_res, Showing, Some, state_of, subst, suc, sym, TaskId}
use Rattle.grs_world.proofs.Common.{TaskState, TasksView, tell_answer, tell_answer_ranked, ToldLine, true, unrecorded}
use Rattle.grs_world.proofs.Common.{Wait, Want, with_phase, with_rank, with_rank_of, with_rows, zero, ℕ}
use Rattle.std.specs.List.{list_any}
use Rattle.task_state.specs.Replies.{answered as answered_by, is_changed, is_queued, next_asked, phase_after}
use Rattle.task_state.specs.Replies.{phase_asking}
use Rattle.task_state.specs.View.{with_last, with_last_by, without_first}
use Rattle.grs_base.specs.declared.decision.Code.TheVariants.{C18}
use Rattle.grs_known.proofs.records.Control.{told_rec}
use Rattle.grs_known.proofs.system.Did.{did-after_code_deq, did-after_code_enq, did-after_code_release, did-state}
use Rattle.grs_known.proofs.tasks.Asked.{told_after}
use Rattle.grs_known.proofs.tasks.Decided.{enq_records}
use Rattle.grs_known.proofs.tasks.Records.{found_has, not_found}
use Rattle.grs_wire.specs.declared.request.Answer.TheVariants.{Coded as CodedAnswer}
use Rattle.grs_wire.specs.declared.told.Verb.{Verb}
use Rattle.grs_wire.specs.declared.told.Verb.TheVariants as verbs
use Rattle.task_state.specs.declared.state.Phase.TheVariants as phases

-- ---- faces
abbrev pub Face : Type 0
Face = Res × Ctl × ℕ

abbrev pub face : Rec → Face
face z = (z.res, z.ctl, z.rank)

abbrev pub faces : List Rec → List Face
faces xs = map face xs

abbrev face_has : Res → List Face → Bool
face_has r ks = list_any (λ k. same_res r k.0) ks

abbrev face_on : (Face → Face) → Res → List Face → List Face
face_on f r ks = map (λ k. cond (same_res r k.0) (f k) k) ks

abbrev face_without : Res → List Face → List Face
face_without r [] = []
face_without r (k ∷ ks) = cond (same_res r k.0) ks (k ∷ face_without r ks)

abbrev face_last : Face → List Face → List Face
face_last new ks = cond (face_has new.0 ks) ks (ks ++ new ∷ [])

-- a change of records is one of faces
faces-on : (f : Rec → Rec) (h : Face → Face) → ((z : Rec) → face (f z) ≡ h (face z)) → (r : Res) (xs : List Rec)
    → faces (on_record r f xs) ≡ face_on h r (faces xs)
faces-on f h same r [] = refl
faces-on f h same r (x ∷ xs) = go (same_res r x.res) (faces-on f h same r xs)
  where
    go : (b : Bool) → faces (on_record r f xs) ≡ face_on h r (faces xs)
        → face (cond b (f x) x) ∷ faces (on_record r f xs) ≡ cond b (h (face x)) (face x) ∷ face_on h r (faces xs)
    go true more =
        ap (λ (k : Face). k ∷ faces (on_record r f xs)) (same x) ∙ ap (λ (ks : List Face). h (face x) ∷ ks) more
    go false more = ap (λ (ks : List Face). face x ∷ ks) more

-- a mark is none
pub faces-told : (r : Res) (xs : List Rec) → faces (on_record r told_rec xs) ≡ faces xs
faces-told r [] = refl
faces-told r (x ∷ xs) = go (same_res r x.res) (faces-told r xs)
  where
    go : (b : Bool) → faces (on_record r told_rec xs) ≡ faces xs
        → face (cond b (told_rec x) x) ∷ faces (on_record r told_rec xs) ≡ face x ∷ faces xs
    go true more = ap (λ (ks : List Face). face x ∷ ks) more
    go false more = ap (λ (ks : List Face). face x ∷ ks) more

faces-has : (r : Res) (xs : List Rec) → face_has r (faces xs) ≡ has_res r xs
faces-has r [] = refl
faces-has r (x ∷ xs) = ap (λ b. same_res r x.res || b) (faces-has r xs)

faces-without : (r : Res) (xs : List Rec) → faces (without_first xs r) ≡ face_without r (faces xs)
faces-without r [] = refl
faces-without r (x ∷ xs) = go (same_res r x.res) (faces-without r xs)
  where
    go : (b : Bool) → faces (without_first xs r) ≡ face_without r (faces xs)
        → faces (cond b xs (x ∷ without_first xs r)) ≡ cond b (faces xs) (face x ∷ face_without r (faces xs))
    go true more = refl
    go false more = ap (λ (ks : List Face). face x ∷ ks) more

faces-last : (xs : List Rec) (new : Rec) → faces (with_last xs new) ≡ face_last (face new) (faces xs)
faces-last xs new = go (record_of xs new.res) refl
  where
    by-has : (b : Bool) → has_res new.res xs ≡ b
        → face_last (face new) (faces xs) ≡ cond b (faces xs) (faces xs ++ face new ∷ [])
    by-has b is =
        ap (λ c. cond c (faces xs) (faces xs ++ face new ∷ [])) (faces-has new.res xs ∙ is)

    go : (o : Option Rec) → record_of xs new.res ≡ o
        → faces (with_last_by o xs new) ≡ face_last (face new) (faces xs)
    go None e = map-append face xs (new ∷ []) ∙ sym (by-has false (not_found xs new.res e))
    go (Some y) e = sym (by-has true (found_has xs new.res y e))

-- ---- what an answer does
abbrev face_enq : Res → Ctl → Ret → Code → List Face → List Face
face_enq r c ret code ks =
    cond (is_queued ret code) (face_last (r, c, 0) ks)
    (cond (is_changed ret code) (face_on (λ k. (k.0, E, k.2)) r ks) ks)

faces-enq : (r : Res) (c : Ctl) (unit : Option ℕ) (ret : Ret) (code : Code) (line : ℕ) (xs : List Rec)
    → faces (enq_records r c unit ret code line xs) ≡ face_enq r c ret code (faces xs)
faces-enq r c unit ret code line xs = go (is_queued ret code) (is_changed ret code)
  where
    new : Rec
    new = record { res = r; ctl = c; rank = 0; told = is_granted code; unit = unit; line = line }

    exclusive : Rec → Rec
    exclusive z = record z { ctl = E }

    go : (a b : Bool) →
        faces (cond a (with_last xs new) (cond b (on_record r exclusive xs) xs))
        ≡ cond a (face_last (r, c, 0) (faces xs)) (cond b (face_on (λ k. (k.0, E, k.2)) r (faces xs)) (faces xs))
    go true b = faces-last xs new
    go false true = faces-on exclusive (λ k. (k.0, E, k.2)) (λ z. refl) r xs
    go false false = refl

abbrev face_code : Want → Code → List Face → List Face
face_code (Enq r c ret full) code ks = face_enq r c ret code ks
face_code (Deq r have) code ks = cond (is_granted code) (face_without r ks) ks
face_code (Release r) code ks = face_without r ks
face_code (Look first count f) code ks = ks

abbrev face_told : Asked → Answer → List Face → List Face
face_told a (CodedAnswer code) ks = face_code a.req.want code ks
face_told a (Rows rows) ks = ks

-- a record that is new gets a rank
abbrev face_ranked : Option Res → ℕ → List Face → List Face → List Face
face_ranked None rank old ks = ks
face_ranked (Some r) rank old ks = cond (face_has r old) ks (face_on (λ k. (k.0, k.1, rank)) r ks)

abbrev pub face_answered : Asked → Answer → ℕ → List Face → List Face
face_answered a answer rank ks = face_ranked (res_wanted a.req.want) rank ks (face_told a answer ks)

-- and what is outstanding then
abbrev out_left : TaskId → Asked → Verb → ℕ → Option Asked
out_left t a verb zero = None
out_left t a verb (suc left) = Some (next_asked t a verb left)

abbrev out_shown : TaskId → Asked → Option Showing → Option Asked
out_shown t a None = None
out_shown t a (Some s) = out_left t a s.verb s.left

abbrev pub out_answered : TaskId → Asked → Answer → Option Asked
out_answered t a (CodedAnswer code) = None
out_answered t a (Rows rows) = out_shown t a a.showing

-- Task t changed: it has these faces on record and this request outstanding, which it hasn't sent.
pub record Faced (v w : TasksView) (t : TaskId) (ks : List Face) (out : Option Asked) : Type 0 where
  pub state : TaskState
  pub told : List ToldLine
  pub did : Did v w t state told
  pub faced : faces state.records ≡ ks
  pub out_is : state.outstanding ≡ out
  pub unsent : is_sent state.phase ≡ false

unsent-after : (code : Code) → is_sent (phase_after code) ≡ false
unsent-after C00 = refl
unsent-after C04 = refl
unsent-after C08 = refl
unsent-after C14 = refl
unsent-after C18 = refl
unsent-after Wait = refl
unsent-after (End n) = refl

unsent-asking : (w : Want) (code : ℕ) → is_sent (phase_asking w code) ≡ false
unsent-asking (Enq r c ret full) code = refl
unsent-asking (Deq r have) code = refl
unsent-asking (Release r) code = refl
unsent-asking (Look first count f) code = refl

code-face : (v w : TasksView) (t : TaskId) (x : TaskState) (T : List ToldLine) → is_task v t ≡ true → Did v w t x T
    → (want : Want) (unit : Option ℕ) (code : Code) → x.outstanding ≡ None → is_sent x.phase ≡ false
    → Faced v (after_code w t want unit code) t (face_code want code (faces x.records)) None
unfolding after_code
code-face v w t x T here d (Enq r c ret full) unit code out unsent = record {
  state =
      record x {
        phase = phase_after code;
        code = code_in (phase_after code) x.code;
        records = enq_records r c unit ret code x.line x.records;
      };
  told = told_after T t x.line verbs.Enq code;
  did = did-after_code_enq v w t x T here d r c unit ret full code;
  faced = faces-enq r c unit ret code x.line x.records;
  out_is = out;
  unsent = unsent-after code;
}
code-face v w t x T here d (Deq r have) unit code out unsent = record {
  state =
      record x {
        phase = phase_after code;
        code = code_in (phase_after code) x.code;
        records = cond (is_granted code) (without_first x.records r) x.records;
      };
  told = told_after T t x.line verbs.Deq code;
  did = did-after_code_deq v w t x T here d r have unit code;
  faced = go (is_granted code);
  out_is = out;
  unsent = unsent-after code;
}
  where
    go : (b : Bool) → faces (cond b (without_first x.records r) x.records)
        ≡ cond b (face_without r (faces x.records)) (faces x.records)
    go true = faces-without r x.records
    go false = refl
code-face v w t x T here d (Release r) unit code out unsent = record {
  state = record x { records = without_first x.records r };
  told = T;
  did = did-after_code_release v w t x T here d r unit code;
  faced = faces-without r x.records;
  out_is = out;
  unsent = unsent;
}
code-face v w t x T here d (Look first count f) unit code out unsent =
    record { state = x; told = T; did = d; faced = refl; out_is = out; unsent = unsent }

rows-face : (v w : TasksView) (t : TaskId) (x : TaskState) (T : List ToldLine) → is_task v t ≡ true → Did v w t x T
    → (a : Asked) (rows : List Row) (o : Option Showing) → x.outstanding ≡ None → is_sent x.phase ≡ false
    → Faced v (looked w t a rows o) t (faces x.records) (out_shown t a o)
unfolding goes_on_looking
rows-face v w t x T here d a rows None out unsent =
    record { state = x; told = T; did = d; faced = refl; out_is = out; unsent = unsent }
rows-face v w t x T here d a rows (Some s) out unsent = by_left s.left
  where
    shown : Did v (with_rows w t rows) t (record x { rows = x.rows ++ rows }) T
    shown = did-rows v w t x T here d rows

    by_left : (left : ℕ)
        → Faced v (goes_on_looking (with_rows w t rows) t a s.verb left) t (faces x.records) (out_left t a s.verb left)
    by_left zero = record {
      state = record x { rows = [] };
      told = _;
      did = did-shown v (with_rows w t rows) t (record x { rows = x.rows ++ rows }) T here shown s.verb;
      faced = refl;
      out_is = out;
      unsent = unsent;
    }
    by_left (suc left) = record {
      state = _;
      told = T;
      did =
          did-outstanding v (with_phase (with_rows w t rows) t phases.ToSend) t _ T here
          (did-phase v (with_rows w t rows) t (record x { rows = x.rows ++ rows }) T here shown phases.ToSend)
          (Some (next_asked t a s.verb left));
      faced = refl;
      out_is = refl;
      unsent = refl;
    }

ranked-face : (v w : TasksView) (t : TaskId) (ks : List Face) (out : Option Asked) → is_task v t ≡ true
    → Faced v w t ks out → (o : Option Res) (rank : ℕ) →
    Faced v (with_rank_of w t (unrecorded v t o) rank) t (face_ranked o rank (faces (state_of v t).records) ks) out
unfolding with_rank
ranked-face v w t ks out here k None rank = k
ranked-face v w t ks out here k (Some r) rank = go (record_of (state_of v t).records r) refl
  where
    by-has : (b : Bool) → has_res r (state_of v t).records ≡ b →
        face_ranked (Some r) rank (faces (state_of v t).records) ks
        ≡ cond b ks (face_on (λ z. (z.0, z.1, rank)) r ks)
    by-has b is =
        ap (λ c. cond c ks (face_on (λ z. (z.0, z.1, rank)) r ks)) (faces-has r (state_of v t).records ∙ is)

    go : (z : Option Rec) → record_of (state_of v t).records r ≡ z →
        Faced v (with_rank_of w t (cond (is_none z) (Some r) None) rank) t
        (face_ranked (Some r) rank (faces (state_of v t).records) ks) out
    go (Some y) e =
        subst (λ (zs : List Face). Faced v w t zs out)
        (sym (by-has true (found_has (state_of v t).records r y e))) k
    go None e = record {
      state = record k.state { records = on_record r (λ z. record z { rank = rank }) (k.state).records };
      told = k.told;
      did =
          did-state v w t k.state k.told
          (λ y. record y { records = on_record r (λ z. record z { rank = rank }) y.records }) here k.did;
      faced =
          faces-on (λ z. record z { rank = rank }) (λ z. (z.0, z.1, rank)) (λ z. refl) r (k.state).records
          ∙ (ap (λ (zs : List Face). face_on (λ z. (z.0, z.1, rank)) r zs) k.faced
          ∙ sym (by-has false (not_found (state_of v t).records r e)));
      out_is = k.out_is;
      unsent = k.unsent;
    }

pub answer-face : (v : TasksView) (t : TaskId) → is_task v t ≡ true → (a : Asked) (answer : Answer) (rank : ℕ) →
    Faced v (tell_answer_ranked v t a answer rank) t (face_answered a answer rank (faces (state_of v t).records))
    (out_answered t a answer)
unfolding tell_answer_ranked tell_answer recalled replied
answer-face v t here a answer rank =
    let w : Want = a.req.want in
    let x : TaskState = state_of v t in
    let p : Phase = phase_asking w x.code in
    let y : TaskState = record x { phase = p; code = code_in p x.code; outstanding = None } in
    let d : Did v (recalled v t w) t y v.told =
    did-outstanding v (with_phase v t p) t (record x { phase = p; code = code_in p x.code }) v.told here
    (did-phase v v t x v.told here (did-none v t) p) None in
    ranked-face v (answered_by (recalled v t w) t a answer) t (face_told a answer (faces x.records))
    (out_answered t a answer) here (by_answer (recalled v t w) y d refl (unsent-asking w x.code) answer)
    (res_wanted w) rank
  where
    by_answer : (u : TasksView) (y : TaskState) → Did v u t y v.told → y.outstanding ≡ None
        → is_sent y.phase ≡ false → (b : Answer)
        → Faced v (answered_by u t a b) t (face_told a b (faces y.records)) (out_answered t a b)
    by_answer u y d out unsent (CodedAnswer code) = code-face v u t y v.told here d a.req.want a.unit code out unsent
    by_answer u y d out unsent (Rows rows) = rows-face v u t y v.told here d a rows a.showing out unsent

-- ---- tasks of the same faces
pub record SameFaces (v w : TasksView) : Type 0 where
  pub system : w.system ≡ v.system
  pub here : (t : TaskId) → is_task w t ≡ is_task v t
  pub faces_are : (t : TaskId) → faces (state_of w t).records ≡ faces (state_of v t).records
  pub out_is : (t : TaskId) → (state_of w t).outstanding ≡ (state_of v t).outstanding
  pub sent_is : (t : TaskId) → is_sent (state_of w t).phase ≡ is_sent (state_of v t).phase

pub faces-none : (v : TasksView) → SameFaces v v
faces-none v = record {
  system = refl;
  here = λ t. refl;
  faces_are = λ t. refl;
  out_is = λ t. refl;
  sent_is = λ t. refl;
}

pub faces-then : (v w z : TasksView) → SameFaces v w → SameFaces w z → SameFaces v z
faces-then v w z a b = record {
  system = b.system ∙ a.system;
  here = λ t. b.here t ∙ a.here t;
  faces_are = λ t. b.faces_are t ∙ a.faces_are t;
  out_is = λ t. b.out_is t ∙ a.out_is t;
  sent_is = λ t. b.sent_is t ∙ a.sent_is t;
}

pub faces-back : (v w : TasksView) → SameFaces v w → SameFaces w v
faces-back v w a = record {
  system = sym a.system;
  here = λ t. sym (a.here t);
  faces_are = λ t. sym (a.faces_are t);
  out_is = λ t. sym (a.out_is t);
  sent_is = λ t. sym (a.sent_is t);
}
