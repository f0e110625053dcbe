-- The ranks of a task's records: what leaves them as they are, and that an answer gives the record that it makes its
-- rank.
use Rattle.grs_world.proofs.Common.{[], ◌++◌, ◌||◌, ◌∙◌, ◌∷◌, ◌≡◌, after_code, Answer, ap, Asked, Bool, Code, code_in}
use Rattle.grs_world.proofs.Common.{cond, Ctl, Deq, Did, did-none, did-outstanding, did-phase, did-rows, did-shown}
use Rattle.grs_world.proofs.Common.{Each, Enq, false, false_by, get_or, goes_on_looking, has_res, is_granted, is_none}
use Rattle.grs_world.proofs.Common.{is_task, List, Look, looked, new_task, no_truth, None, on_record, Option, Phase}
use Rattle.grs_world.proofs.Common.{Rec, recalled, record_of, refl, Release, replied, Res, res_wanted, Ret, Row, Rows}
use Rattle.grs_world.proofs.Common.{same_res, same_res-exact, set, Showing, Some, state_of, subst, suc, sym, TaskId}
use Rattle.grs_world.proofs.Common.{TaskState, TasksView, tell_answer, tell_answer_ranked, tell_rows, ToldLine, true}
use Rattle.grs_world.proofs.Common.{unrecorded, Want, with_phase, with_rank, with_rank_of, with_rows, with_state, zero}
use Rattle.grs_world.proofs.Common.{ℕ}
use Rattle.task_state.specs.Replies.{is_changed, is_queued, phase_after, answered as answered_by, next_asked}
use Rattle.task_state.specs.Replies.{phase_asking}
use Rattle.task_state.specs.View.{with_last, with_last_by, without_first}
use Rattle.grs_known.proofs.system.Did.{did-after_code_deq, did-after_code_enq, did-after_code_release, did-state}
use Rattle.grs_wire.specs.declared.request.Answer.TheVariants.{Coded as CodedAnswer}
use Rattle.grs_known.proofs.tasks.Asked.{told_after}
use Rattle.grs_known.proofs.tasks.Decided.{enq_records}
use Rattle.grs_known.proofs.tasks.Keys.{each-push, each-without}
use Rattle.grs_known.proofs.tasks.Records.{found, found_has, not_found}
use Rattle.grs_known.proofs.records.Control.{Hears, coded, each-marks, given, none, passed, posted}
use Rattle.grs_base.specs.declared.resource.Ctl.TheVariants as ctls
use Rattle.grs_wire.specs.declared.told.Verb.TheVariants as verbs
use Rattle.task_state.specs.declared.state.Phase.TheVariants as phases

-- ---- records
-- a record, where it is one of a resource, has a rank
abbrev pub HasRank : Res → ℕ → Rec → Type 0
HasRank q n z = same_res q z.res ≡ true → z.rank ≡ n

-- so all records of the resource
abbrev pub HaveRank : Res → ℕ → List Rec → Type 0
HaveRank q n xs = Each (HasRank q n) xs

-- the first of them, and any rank where there is none
pub rank-found : (q : Res) (n : ℕ) (xs : List Rec) (y : Rec) → HaveRank q n xs → record_of xs q ≡ Some y → y.rank ≡ n
rank-found q n xs y h e = let k = found (HasRank q n) xs q y h e in k.0 k.1

pub rank-none : (q : Res) (n : ℕ) (xs : List Rec) → has_res q xs ≡ false → HaveRank q n xs
rank-none q n [] h = tt
rank-none q n (x ∷ xs) h = go (same_res q x.res) refl h (rank-none q n xs)
  where
    go : (b : Bool) → same_res q x.res ≡ b → (b || has_res q xs) ≡ false → (has_res q xs ≡ false → HaveRank q n xs)
        → HasRank q n x × HaveRank q n xs
    go true e k more = absurd (cc)
    go false e k more = ((λ is. no_truth (same_res q x.res) is e), more k)

-- one that is there has one
pub one-rank-on : (q : Res) (xs : List Rec) → has_res q xs ≡ true → (n m : ℕ) → HaveRank q n xs → HaveRank q m xs
    → n ≡ m
one-rank-on q [] one n m h k = no_truth true refl (sym one)
one-rank-on q (x ∷ xs) one n m h k = go (same_res q x.res) refl one (λ more. one-rank-on q xs more n m h.1 k.1)
  where
    go : (b : Bool) → same_res q x.res ≡ b → (b || has_res q xs) ≡ true → (has_res q xs ≡ true → n ≡ m) → n ≡ m
    go true is some more = sym (h.0 is) ∙ k.0 is
    go false off some more = more some

-- what changes neither a record's resource nor its rank
rank-on : (f : Rec → Rec) → ((z : Rec) → (f z).res ≡ z.res) → ((z : Rec) → (f z).rank ≡ z.rank) → (q : Res) (n : ℕ)
    (r : Res) (xs : List Rec) → HaveRank q n xs → HaveRank q n (on_record r f xs)
rank-on f same ranks q n r [] h = tt
rank-on f same ranks q n r (x ∷ xs) h = (go (same_res r x.res), rank-on f same ranks q n r xs h.1)
  where
    go : (b : Bool) → HasRank q n (cond b (f x) x)
    go true = λ is. ranks x ∙ h.0 (sym (ap (same_res q) (same x)) ∙ is)
    go false = h.0

-- ranks given to records of another resource, and to those of this one
pub rank-apart : (q : Res) (n : ℕ) (r : Res) (k : ℕ) (xs : List Rec) → same_res q r ≡ false → HaveRank q n xs
    → HaveRank q n (on_record r (λ (z : Rec). record z { rank = k }) xs)
rank-apart q n r k [] apart h = tt
rank-apart q n r k (x ∷ xs) apart h = (go (same_res r x.res) refl, rank-apart q n r k xs apart h.1)
  where
    go : (b : Bool) → same_res r x.res ≡ b → HasRank q n (cond b (record x { rank = k }) x)
    go true e = λ is. no_truth (same_res q r) (ap (same_res q) (same_res-exact r x.res e) ∙ is) apart
    go false e = h.0

pub rank-given : (q : Res) (k : ℕ) (xs : List Rec) → HaveRank q k (on_record q (λ (z : Rec). record z { rank = k }) xs)
rank-given q k [] = tt
rank-given q k (x ∷ xs) = (go (same_res q x.res) refl, rank-given q k xs)
  where
    go : (b : Bool) → same_res q x.res ≡ b → HasRank q k (cond b (record x { rank = k }) x)
    go true e = λ is. refl
    go false e = λ is. no_truth (same_res q x.res) is e

-- one more record, of another resource or of one that is on record
rank-last : (q : Res) (n : ℕ) (xs : List Rec) (new : Rec) → (same_res q new.res ≡ true → has_res q xs ≡ true)
    → HaveRank q n xs → HaveRank q n (with_last xs new)
rank-last q n xs new old h = go (record_of xs new.res) refl
  where
    go : (o : Option Rec) → record_of xs new.res ≡ o → HaveRank q n (with_last_by o xs new)
    go None e =
        each-push (HasRank q n) xs new h (λ is.
        no_truth (has_res new.res xs) (ap (λ (z : Res). has_res z xs) (sym (same_res-exact q new.res is)) ∙ old is)
        (not_found xs new.res e))
    go (Some y) e = h

rank-without : (q : Res) (n : ℕ) (r : Res) (b : Bool) (xs : List Rec) → HaveRank q n xs
    → HaveRank q n (cond b (without_first xs r) xs)
rank-without q n r true xs h = each-without (HasRank q n) r xs h
rank-without q n r false xs h = h

rank-enq : (q : Res) (n : ℕ) (r : Res) (c : Ctl) (unit : Option ℕ) (ret : Ret) (code : Code) (line : ℕ) (xs : List Rec)
    → (same_res q r ≡ true → has_res q xs ≡ true) → HaveRank q n xs
    → HaveRank q n (enq_records r c unit ret code line xs)
rank-enq q n r c unit ret code line xs old h = go (is_queued ret code) (is_changed ret code)
  where
    new : Rec
    new = record { res = r; ctl = c; rank = 0; told = is_granted code; unit = unit; line = line }

    exclusive : Rec → Rec
    exclusive z = record z { ctl = ctls.E }

    go : (a b : Bool) → HaveRank q n (cond a (with_last xs new) (cond b (on_record r exclusive xs) xs))
    go true b = rank-last q n xs new old h
    go false true = rank-on exclusive (λ z. refl) (λ z. refl) q n r xs h
    go false false = h

-- ---- control is told
pub hears-ranks : (t : TaskId) (r : Res) (x : TaskState) (T : List ToldLine) (y : TaskState) (U : List ToldLine)
    → Hears t r x T y U → (q : Res) (n : ℕ) → HaveRank q n x.records → HaveRank q n y.records
hears-ranks t r x T y U (none m) q n h = h
hears-ranks t r x T y U (given l) q n h = each-marks (HasRank q n) (λ z k. k) r x.records h
hears-ranks t r x T y U (coded a) q n h = each-marks (HasRank q n) (λ z k. k) r x.records h
hears-ranks t r x T y U (posted k a) q n h = each-marks (HasRank q n) (λ z m. m) r x.records h
hears-ranks t r x T y U (passed k a) q n h = each-marks (HasRank q n) (λ z m. m) r x.records h

-- ---- an answer
-- what is asked for, if it is this resource, is on record
abbrev pub IsOld : Res → Option Res → List Rec → Type 0
IsOld q None xs = Unit {0}
IsOld q (Some r) xs = same_res q r ≡ true → has_res q xs ≡ true

pub old-has : (q : Res) (o : Option Res) (xs : List Rec) → has_res q xs ≡ true → IsOld q o xs
old-has q None xs h = tt
old-has q (Some r) xs h = λ is. h

-- task t changed, and its records of a resource have a rank
pub record Keeps (q : Res) (n : ℕ) (v w : TasksView) (t : TaskId) : Type 0 where
  pub state : TaskState
  pub told : List ToldLine
  pub did : Did v w t state told
  pub ranks : HaveRank q n state.records

keeps : (q : Res) (n : ℕ) (v w : TasksView) (t : TaskId) (x : TaskState) (T : List ToldLine) → Did v w t x T
    → HaveRank q n x.records → Keeps q n v w t
keeps q n v w t x T d h = record { state = x; told = T; did = d; ranks = h }

-- so it stands
pub keeps-ranks : (q : Res) (n : ℕ) (v w : TasksView) (t : TaskId) → Keeps q n v w t
    → HaveRank q n (state_of w t).records
keeps-ranks q n v w t k = subst (λ (y : TaskState). HaveRank q n y.records) (sym k.did.state) k.ranks

module _ (q : Res) (n : ℕ) where
  pub code-keeps : (v w : TasksView) (t : TaskId) (x : TaskState) (T : List ToldLine) → is_task v t ≡ true
      → Did v w t x T → (want : Want) (unit : Option ℕ) (code : Code) → IsOld q (res_wanted want) x.records
      → HaveRank q n x.records → Keeps q n v (after_code w t want unit code) t
  unfolding after_code
  code-keeps v w t x T here d (Enq r c ret full) unit code old h =
      let y :
      TaskState =
      record x {
        phase = phase_after code;
        code = code_in (phase_after code) x.code;
        records = enq_records r c unit ret code x.line x.records;
      } in
      keeps q n v (after_code w t (Enq r c ret full) unit code) t y (told_after T t x.line verbs.Enq code)
      (did-after_code_enq v w t x T here d r c unit ret full code)
      (rank-enq q n r c unit ret code x.line x.records old h)
  code-keeps v w t x T here d (Deq r have) unit code old h =
      let y :
      TaskState =
      record x {
        phase = phase_after code;
        code = code_in (phase_after code) x.code;
        records = cond (is_granted code) (without_first x.records r) x.records;
      } in
      keeps q n v (after_code w t (Deq r have) unit code) t y (told_after T t x.line verbs.Deq code)
      (did-after_code_deq v w t x T here d r have unit code) (rank-without q n r (is_granted code) x.records h)
  code-keeps v w t x T here d (Release r) unit code old h =
      keeps q n v (after_code w t (Release r) unit code) t (record x { records = without_first x.records r }) T
      (did-after_code_release v w t x T here d r unit code) (each-without (HasRank q n) r x.records h)
  code-keeps v w t x T here d (Look first count f) unit code old h = keeps q n v w t x T d h

  rows-keep : (v w : TasksView) (t : TaskId) (x : TaskState) (T : List ToldLine) → is_task v t ≡ true → Did v w t x T
      → (a : Asked) (rows : List Row) (o : Option Showing) → HaveRank q n x.records
      → Keeps q n v (looked w t a rows o) t
  unfolding goes_on_looking
  rows-keep v w t x T here d a rows None h = keeps q n v w t x T d h
  rows-keep v w t x T here d a rows (Some s) h = by_left s.left
    where
      shown : Did v (with_rows w t rows) t (record x { rows = x.rows ++ rows }) T
      shown = did-rows v w t x T here d rows

      by_left : (left : ℕ) → Keeps q n v (goes_on_looking (with_rows w t rows) t a s.verb left) t
      by_left zero =
          keeps q n v (tell_rows (with_rows w t rows) t s.verb) t (record x { rows = [] }) _
          (did-shown v (with_rows w t rows) t (record x { rows = x.rows ++ rows }) T here shown s.verb) h
      by_left (suc left) =
          keeps q n v _ t _ T
          (did-outstanding v (with_phase (with_rows w t rows) t phases.ToSend) t _ T here
          (did-phase v (with_rows w t rows) t (record x { rows = x.rows ++ rows }) T here shown phases.ToSend)
          (Some (next_asked t a s.verb left)))
          h

  -- no rank is given to what is on record
  abbrev IsApart : Option Res → Type 0
  IsApart None = Unit {0}
  IsApart (Some r) = same_res q r ≡ false

  old-apart : (v : TasksView) (t : TaskId) (o : Option Res) → IsOld q o (state_of v t).records
      → IsApart (unrecorded v t o)
  old-apart v t None old = tt
  old-apart v t (Some r) old = go (record_of (state_of v t).records r) refl
    where
      go : (z : Option Rec) → record_of (state_of v t).records r ≡ z → IsApart (cond (is_none z) (Some r) None)
      go (Some y) e = tt
      go None e =
          false_by (same_res q r) (λ is.
          no_truth (has_res r (state_of v t).records)
          (ap (λ (z : Res). has_res z (state_of v t).records) (sym (same_res-exact q r is)) ∙ old is)
          (not_found (state_of v t).records r e))

  ranked-keep : (v w : TasksView) (t : TaskId) → is_task v t ≡ true → Keeps q n v w t → (o : Option Res) (rank : ℕ)
      → IsApart o → Keeps q n v (with_rank_of w t o rank) t
  unfolding with_rank
  ranked-keep v w t here k None rank apart = k
  ranked-keep v w t here k (Some r) rank apart =
      keeps q n v (with_rank w t r rank) t
      (record k.state { records = on_record r (λ z. record z { rank = rank }) (k.state).records }) k.told
      (did-state v w t k.state k.told
      (λ y. record y { records = on_record r (λ z. record z { rank = rank }) y.records })
      here k.did)
      (rank-apart q n r rank (k.state).records apart k.ranks)

  pub answer-keeps : (v : TasksView) (t : TaskId) → is_task v t ≡ true → (a : Asked) (answer : Answer) (rank : ℕ)
      → IsOld q (res_wanted a.req.want) (state_of v t).records → HaveRank q n (state_of v t).records
      → Keeps q n v (tell_answer_ranked v t a answer rank) t
  unfolding tell_answer_ranked tell_answer recalled replied
  answer-keeps v t here a answer rank old h =
      let w : Want = a.req.want in
      let x : TaskState = state_of v t in
      let p : Phase = phase_asking w x.code in
      let y :
      TaskState = record x { phase = p; code = code_in p x.code; outstanding = None } in
      let d : Did v (recalled v t w) t y v.told =
      did-outstanding v (with_phase v t p) t (record x { phase = p; code = code_in p x.code }) v.told here
      (did-phase v v t x v.told here (did-none v t) p) None in
      ranked-keep v (answered_by (recalled v t w) t a answer) t here (by_answer (recalled v t w) y d old h answer)
      (unrecorded v t (res_wanted w)) rank (old-apart v t (res_wanted w) old)
    where
      by_answer : (u : TasksView) (y : TaskState) → Did v u t y v.told → IsOld q (res_wanted a.req.want) y.records
          → HaveRank q n y.records → (b : Answer) → Keeps q n v (answered_by u t a b) t
      by_answer u y d was k (CodedAnswer code) = code-keeps v u t y v.told here d a.req.want a.unit code was k
      by_answer u y d was k (Rows rows) = rows-keep v u t y v.told here d a rows a.showing k

-- a task whose records of a resource are given a rank
abbrev ranked-as : Res → ℕ → TaskState → TaskState
ranked-as r n s = record s { records = on_record r (λ z. record z { rank = n }) s.records }

given-in : (r : Res) (n : ℕ) (s : TaskState) (ts : List TaskState) (i : ℕ)
    → HaveRank r n (get_or (set ts i (ranked-as r n s)) i new_task).records
given-in r n s [] i = tt
given-in r n s (t ∷ ts) zero = rank-given r n s.records
given-in r n s (t ∷ ts) (suc i) = given-in r n s ts i

given-to : (v : TasksView) (t : TaskId) (r : Res) (n : ℕ) → HaveRank r n (state_of (with_rank v t r n) t).records
unfolding with_rank with_state state_of
given-to v t r n = given-in r n (state_of v t) v.tasks t.task

none-found : (xs : List Rec) (r : Res) → has_res r xs ≡ false → record_of xs r ≡ None
none-found xs r h = go (record_of xs r) refl
  where
    go : (o : Option Rec) → record_of xs r ≡ o → record_of xs r ≡ None
    go None e = e
    go (Some y) e = no_truth (has_res r xs) (found_has xs r y e) h

-- a record that an answer makes has the answer's rank
pub answer-gives : (v : TasksView) (t : TaskId) (a : Asked) (answer : Answer) (rank : ℕ) (r : Res)
    → res_wanted a.req.want ≡ Some r → has_res r (state_of v t).records ≡ false
    → HaveRank r rank (state_of (tell_answer_ranked v t a answer rank) t).records
unfolding tell_answer_ranked
answer-gives v t a answer rank r wants new =
    let w : TasksView = tell_answer v t a answer in
    subst (λ (o : Option Res). HaveRank r rank (state_of (with_rank_of w t o rank) t).records)
    (sym (ap (unrecorded v t) wants
    ∙ ap (λ (o : Option Rec). cond (is_none o) (Some r) None) (none-found (state_of v t).records r new)))
    (given-to w t r rank)
