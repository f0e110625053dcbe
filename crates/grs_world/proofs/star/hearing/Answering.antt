-- What becomes of the tasks of a system, as far as sent requests and resources of the whole complex go, where an answer
-- is told.
use Rattle.grs_world.proofs.Common.{[], ◌&&◌, ◌++◌, ◌+◌, ◌||◌, ◌∙◌, ◌∷◌, ◌≡◌, after_code, and_from, Answer, any-last}
use Rattle.grs_world.proofs.Common.{any-more, ap, Asked, Bool, C00, C04, C08, C14, Code, code_in, cond, Ctl, Deq, Did}
use Rattle.grs_world.proofs.Common.{did-none, did-outstanding, did-phase, did-rows, did-shown, End, Enq, false}
use Rattle.grs_world.proofs.Common.{false_by, Filter, goes_on_looking, has_res, is_distinct, is_granted, is_marked}
use Rattle.grs_world.proofs.Common.{is_sent, is_task, List, Look, looked, no_truth, None, on_record, Option, Phase, Rec}
use Rattle.grs_world.proofs.Common.{recalled, record_of, refl, Release, replied, Res, res_wanted, Ret, Row, Rows}
use Rattle.grs_world.proofs.Common.{same_res, same_res-exact, same_res-itself, same_Some, Showing, Some, state_of}
use Rattle.grs_world.proofs.Common.{subst, suc, sym, TaskId, TaskState, TasksView, tell_answer, tell_answer_ranked}
use Rattle.grs_world.proofs.Common.{tell_rows, ToldLine, true, unrecorded, Wait, Want, with_phase, with_rank}
use Rattle.grs_world.proofs.Common.{with_rank_of, with_rows, zero, ℕ}
use Rattle.task_state.specs.Replies.{is_changed, is_queued, phase_after, phase_asking, answered as answered_by}
use Rattle.task_state.specs.Replies.{next_asked}
use Rattle.grs_base.specs.declared.decision.Code.TheVariants.{C18}
use Rattle.task_state.specs.View.{with_last, with_last_by, without_first}
use Rattle.grs_known.proofs.system.Did.{did-after_code_deq, did-after_code_enq, did-after_code_release, did-state}
use Rattle.grs_wire.specs.declared.request.Answer.TheVariants.{Coded as CodedAnswer}
use Rattle.grs_known.proofs.tasks.Asked.{told_after}
use Rattle.grs_known.proofs.tasks.Decided.{enq_records}
use Rattle.grs_known.proofs.tasks.Keys.{gone-without}
use Rattle.grs_known.proofs.tasks.Records.{found_has}
use Rattle.grs_world.proofs.star.Heard.{grants}
use Rattle.grs_base.specs.declared.resource.Ctl.TheVariants as ctls
use Rattle.grs_wire.specs.declared.told.Verb.TheVariants as verbs
use Rattle.grs_wire.specs.declared.told.ToldLine.TheVariants as told
use Rattle.task_state.specs.declared.state.Phase.TheVariants as phases

-- ---- records
pub has-on : (f : Rec → Rec) → ((z : Rec) → (f z).res ≡ z.res) → (q r : Res) (xs : List Rec)
    → has_res q (on_record r f xs) ≡ has_res q xs
has-on f same q r [] = refl
has-on f same q r (x ∷ xs) = go (same_res r x.res) (has-on f same q r xs)
  where
    go : (b : Bool) → has_res q (on_record r f xs) ≡ has_res q xs
        → has_res q (cond b (f x) x ∷ on_record r f xs) ≡ has_res q (x ∷ xs)
    go true h = ap (λ z. same_res q z || has_res q (on_record r f xs)) (same x) ∙ ap (λ b. same_res q x.res || b) h
    go false h = ap (λ b. same_res q x.res || b) h

pub marked-on : (f : Rec → Rec) → ((z : Rec) → (f z).res ≡ z.res) → ((z : Rec) → (f z).told ≡ z.told)
    → (q r : Res) (xs : List Rec) → is_marked q (on_record r f xs) ≡ is_marked q xs
marked-on f same told q r [] = refl
marked-on f same told q r (x ∷ xs) = go (same_res r x.res) (marked-on f same told q r xs)
  where
    go : (b : Bool) → is_marked q (on_record r f xs) ≡ is_marked q xs
        → is_marked q (cond b (f x) x ∷ on_record r f xs) ≡ is_marked q (x ∷ xs)
    go true h =
        ap (λ z. (same_res q z && (f x).told) || is_marked q (on_record r f xs)) (same x)
        ∙ (ap (λ b. (same_res q x.res && b) || is_marked q (on_record r f xs)) (told x)
        ∙ ap (λ b. (same_res q x.res && x.told) || b) h)
    go false h = ap (λ b. (same_res q x.res && x.told) || b) h

has-push : (q : Res) (xs : List Rec) (new : Rec) → same_res q new.res ≡ false
    → has_res q (xs ++ new ∷ []) ≡ has_res q xs
has-push q [] new apart = ap (λ b. b || false) apart
has-push q (x ∷ xs) new apart = ap (λ b. same_res q x.res || b) (has-push q xs new apart)

has-last : (q : Res) (xs : List Rec) (new : Rec) → same_res q new.res ≡ false
    → has_res q (with_last xs new) ≡ has_res q xs
has-last q xs new apart = go (record_of xs new.res)
  where
    go : (o : Option Rec) → has_res q (with_last_by o xs new) ≡ has_res q xs
    go None = has-push q xs new apart
    go (Some y) = refl

marked-last : (q : Res) (xs : List Rec) (new : Rec) → is_marked q xs ≡ true → is_marked q (with_last xs new) ≡ true
marked-last q xs new h = go (record_of xs new.res)
  where
    go : (o : Option Rec) → is_marked q (with_last_by o xs new) ≡ true
    go None = any-more (λ (x : Rec). same_res q x.res && x.told) xs new h
    go (Some y) = h

marked-made : (xs : List Rec) (new : Rec) → new.told ≡ true → has_res new.res xs ≡ false
    → is_marked new.res (with_last xs new) ≡ true
marked-made xs new told none = go (record_of xs new.res) refl
  where
    go : (o : Option Rec) → record_of xs new.res ≡ o → is_marked new.res (with_last_by o xs new) ≡ true
    go None e =
        any-last (λ (x : Rec). same_res new.res x.res && x.told) xs new
        (and_from (same_res new.res new.res) new.told (same_res-itself new.res) told)
    go (Some y) e = no_truth (has_res new.res xs) (found_has xs new.res y e) none

has-without : (q r : Res) (xs : List Rec) → same_res q r ≡ false → has_res q (without_first xs r) ≡ has_res q xs
has-without q r [] apart = refl
has-without q r (x ∷ xs) apart = go (same_res r x.res) refl (has-without q r xs apart)
  where
    go : (b : Bool) → same_res r x.res ≡ b → has_res q (without_first xs r) ≡ has_res q xs
        → has_res q (cond b xs (x ∷ without_first xs r)) ≡ (same_res q x.res || has_res q xs)
    go true e h = ap (λ b. b || has_res q xs) (sym (ap (same_res q) (sym (same_res-exact r x.res e)) ∙ apart))
    go false e h = ap (λ b. same_res q x.res || b) h

marked-without : (q r : Res) (xs : List Rec) → same_res q r ≡ false → is_marked q (without_first xs r) ≡ is_marked q xs
marked-without q r [] apart = refl
marked-without q r (x ∷ xs) apart = go (same_res r x.res) refl (marked-without q r xs apart)
  where
    go : (b : Bool) → same_res r x.res ≡ b → is_marked q (without_first xs r) ≡ is_marked q xs
        → is_marked q (cond b xs (x ∷ without_first xs r)) ≡ ((same_res q x.res && x.told) || is_marked q xs)
    go true e h =
        ap (λ b. (b && x.told) || is_marked q xs) (sym (ap (same_res q) (sym (same_res-exact r x.res e)) ∙ apart))
    go false e h = ap (λ b. (same_res q x.res && x.told) || b) h

-- ---- an answer
-- What an answer to this request, which gives control or doesn't, makes of a task's state: marks stay on what stays on
-- record, other resources stay, and a record that a granted request makes is marked.
pub record Replied (w : Want) (gives : Bool) (x y : TaskState) : Type 0 where
  pub sent : is_sent y.phase ≡ true → is_sent x.phase ≡ true
  pub others : (q r : Res) → res_wanted w ≡ Some r → same_res q r ≡ false
      → (is_marked q y.records ≡ is_marked q x.records) × (has_res q y.records ≡ has_res q x.records)
  pub kept : is_distinct x.records ≡ true → (q : Res) → has_res q y.records ≡ true → is_marked q x.records ≡ true
      → is_marked q y.records ≡ true
  pub made : (r : Res) → res_wanted w ≡ Some r → gives ≡ true → has_res r x.records ≡ false
      → has_res r y.records ≡ true → is_marked r y.records ≡ true

unsent-after : (code : Code) → is_sent (phase_after code) ≡ false
unsent-after C00 = refl
unsent-after C04 = refl
unsent-after C08 = refl
unsent-after C14 = refl
unsent-after C18 = refl
unsent-after Wait = refl
unsent-after (End n) = refl

-- by the records
replied-enq : (x y : TaskState) (r : Res) (c : Ctl) (ret : Ret) (full : Bool) (unit : Option ℕ) (code : Code)
    → y.records ≡ enq_records r c unit ret code x.line x.records → (is_sent y.phase ≡ true → is_sent x.phase ≡ true)
    → Replied (Enq r c ret full) (is_granted code) x y
replied-enq x y r c ret full unit code same phase = record {
  sent = phase;
  others = λ q p wanted apart.
      subst (λ zs. (is_marked q zs ≡ is_marked q x.records) × (has_res q zs ≡ has_res q x.records)) (sym same)
      (other q (ap (same_res q) (same_Some r p wanted) ∙ apart) (is_queued ret code) (is_changed ret code));
  kept = λ distinct q has marked. ap (is_marked q) same ∙ stay q marked (is_queued ret code) (is_changed ret code);
  made = λ p wanted granted none has.
      let is : r ≡ p = same_Some r p wanted in
      subst (λ z. is_marked z y.records ≡ true) is (ap (is_marked r) same
      ∙ make granted (ap (λ z. has_res z x.records) is ∙ none) (is_queued ret code) (is_changed ret code)
      (sym (ap (has_res r) same) ∙ (ap (λ z. has_res z y.records) is ∙ has)));
}
  where
    new : Rec
    new = record { res = r; ctl = c; rank = 0; told = is_granted code; unit = unit; line = x.line }

    exclusive : Rec → Rec
    exclusive z = record z { ctl = ctls.E }

    other : (q : Res) → same_res q r ≡ false → (a b : Bool)
        → (is_marked q (cond a (with_last x.records new) (cond b (on_record r exclusive x.records) x.records))
        ≡ is_marked q x.records)
        × (has_res q (cond a (with_last x.records new) (cond b (on_record r exclusive x.records) x.records))
        ≡ has_res q x.records)
    other q apart true b = (unmarked (record_of x.records r), has-last q x.records new apart)
      where
        push : (xs : List Rec) → is_marked q (xs ++ new ∷ []) ≡ is_marked q xs
        push [] = ap (λ b. (b && is_granted code) || false) apart
        push (z ∷ zs) = ap (λ b. (same_res q z.res && z.told) || b) (push zs)

        unmarked : (o : Option Rec) → is_marked q (with_last_by o x.records new) ≡ is_marked q x.records
        unmarked None = push x.records
        unmarked (Some z) = refl
    other q apart false
        true = (marked-on exclusive (λ z. refl) (λ z. refl) q r x.records, has-on exclusive (λ z. refl) q r x.records)
    other q apart false false = (refl, refl)

    stay : (q : Res) → is_marked q x.records ≡ true → (a b : Bool)
        → is_marked q (cond a (with_last x.records new) (cond b (on_record r exclusive x.records) x.records)) ≡ true
    stay q marked true b = marked-last q x.records new marked
    stay q marked false true = marked-on exclusive (λ z. refl) (λ z. refl) q r x.records ∙ marked
    stay q marked false false = marked

    make : is_granted code ≡ true → has_res r x.records ≡ false → (a b : Bool)
        → has_res r (cond a (with_last x.records new) (cond b (on_record r exclusive x.records) x.records)) ≡ true
        → is_marked r (cond a (with_last x.records new) (cond b (on_record r exclusive x.records) x.records)) ≡ true
    make granted none true b has = marked-made x.records new granted none
    make granted none false true has =
        no_truth (has_res r x.records) (sym (has-on exclusive (λ z. refl) r r x.records) ∙ has) none
    make granted none false false has = no_truth (has_res r x.records) has none

replied-gone : (x y : TaskState) (w : Want) (r : Res) (gives : Bool) → res_wanted w ≡ Some r → (b : Bool)
    → y.records ≡ cond b (without_first x.records r) x.records → (is_sent y.phase ≡ true → is_sent x.phase ≡ true)
    → Replied w gives x y
replied-gone x y w r gives wants b same phase = record {
  sent = phase;
  others = λ q p wanted apart.
      subst (λ zs. (is_marked q zs ≡ is_marked q x.records) × (has_res q zs ≡ has_res q x.records)) (sym same)
      (other q (ap (same_res q) (same_Some r p (sym wants ∙ wanted)) ∙ apart) b);
  kept = λ distinct q has marked. ap (is_marked q) same ∙ stay distinct q marked b (sym (ap (has_res q) same) ∙ has);
  made = λ p wanted granted none has.
      subst (λ z. is_marked z y.records ≡ true) (same_Some r p (sym wants ∙ wanted))
      (no_truth (has_res r x.records) (before b
      (sym (ap (has_res r) same) ∙ (ap (λ z. has_res z y.records) (same_Some r p (sym wants ∙ wanted)) ∙ has)))
      (ap (λ z. has_res z x.records) (same_Some r p (sym wants ∙ wanted)) ∙ none));
}
  where
    other : (q : Res) → same_res q r ≡ false → (d : Bool)
        → (is_marked q (cond d (without_first x.records r) x.records) ≡ is_marked q x.records)
        × (has_res q (cond d (without_first x.records r) x.records) ≡ has_res q x.records)
    other q apart true = (marked-without q r x.records apart, has-without q r x.records apart)
    other q apart false = (refl, refl)

    stay : is_distinct x.records ≡ true → (q : Res) → is_marked q x.records ≡ true → (d : Bool)
        → has_res q (cond d (without_first x.records r) x.records) ≡ true
        → is_marked q (cond d (without_first x.records r) x.records) ≡ true
    stay distinct q marked false has = marked
    stay distinct q marked true has = by_same (same_res q r) refl
      where
        by_same : (d : Bool) → same_res q r ≡ d → is_marked q (without_first x.records r) ≡ true
        by_same false e = marked-without q r x.records e ∙ marked
        by_same true e =
            no_truth (has_res r (without_first x.records r))
            (ap (λ z. has_res z (without_first x.records r)) (sym (same_res-exact q r e)) ∙ has)
            (gone-without r x.records distinct)

    more : (xs : List Rec) → has_res r (without_first xs r) ≡ true → has_res r xs ≡ true
    more [] h = h
    more (z ∷ zs) h = go (same_res r z.res) refl h (more zs)
      where
        go : (d : Bool) → same_res r z.res ≡ d → has_res r (cond d zs (z ∷ without_first zs r)) ≡ true
            → (has_res r (without_first zs r) ≡ true → has_res r zs ≡ true) → (d || has_res r zs) ≡ true
        go true e k rest = refl
        go false e k rest = rest (sym (ap (λ f. f || has_res r (without_first zs r)) e) ∙ k)

    before : (d : Bool) → has_res r (cond d (without_first x.records r) x.records) ≡ true → has_res r x.records ≡ true
    before true h = more x.records h
    before false h = h

-- what is done to a task that is told an answer
pub record Told (v w : TasksView) (t : TaskId) (want : Want) (gives : Bool) (x : TaskState) : Type 0 where
  pub state : TaskState
  pub told : List ToldLine
  pub did : Did v w t state told
  pub replied : Replied want gives x state

-- looks leave it, and are none of its answers
replied-look : (x : TaskState) (first count : ℕ) (f : Filter) (gives : Bool) → Replied (Look first count f) gives x x
replied-look x first count f gives = record {
  sent = λ h. h;
  others = λ q p wanted apart. absurd (cc);
  kept = λ distinct q has marked. marked;
  made = λ p wanted granted none has. absurd (cc);
}

-- and so are rows, which leave all that is on record
replied-rows : (w : Want) (x y : TaskState) → y.records ≡ x.records → (is_sent y.phase ≡ true → is_sent x.phase ≡ true)
    → Replied w false x y
replied-rows w x y same phase = record {
  sent = phase;
  others = λ q p wanted apart. (ap (is_marked q) same, ap (has_res q) same);
  kept = λ distinct q has marked. ap (is_marked q) same ∙ marked;
  made = λ p wanted granted none has. absurd (cc);
}

pub told-code : (v w : TasksView) (t : TaskId) (x : TaskState) (T : List ToldLine) → is_task v t ≡ true → Did v w t x T
    → (want : Want) (unit : Option ℕ) (code : Code) → Told v (after_code w t want unit code) t want (is_granted code) x
unfolding after_code
told-code v w t x T here d (Enq r c ret full) unit code =
    let y :
    TaskState =
    record x {
      phase = phase_after code;
      code = code_in (phase_after code) x.code;
      records = enq_records r c unit ret code x.line x.records;
    } in
    record {
      state = y;
      told = told_after T t x.line verbs.Enq code;
      did = did-after_code_enq v w t x T here d r c unit ret full code;
      replied =
          replied-enq x y r c ret full unit code refl
          (λ h. no_truth (is_sent (phase_after code)) h (unsent-after code));
    }
told-code v w t x T here d (Deq r have) unit code =
    let y :
    TaskState =
    record x {
      phase = phase_after code;
      code = code_in (phase_after code) x.code;
      records = cond (is_granted code) (without_first x.records r) x.records;
    } in
    record {
      state = y;
      told = told_after T t x.line verbs.Deq code;
      did = did-after_code_deq v w t x T here d r have unit code;
      replied =
          replied-gone x y (Deq r have) r (is_granted code) refl (is_granted code) refl
          (λ h. no_truth (is_sent (phase_after code)) h (unsent-after code));
    }
told-code v w t x T here d (Release r) unit code =
    record {
      state = record x { records = without_first x.records r };
      told = T;
      did = did-after_code_release v w t x T here d r unit code;
      replied =
          replied-gone x (record x { records = without_first x.records r }) (Release r) r (is_granted code) refl true
          refl (λ h. h);
    }
told-code v w t x T here d (Look first count f) unit
    code = record { state = x; told = T; did = d; replied = replied-look x first count f (is_granted code) }

-- a record gets a rank
ranked-replied : (want : Want) (gives : Bool) (x y : TaskState) (r : Res) (rank : ℕ) → Replied want gives x y
    → Replied want gives x (record y { records = on_record r (λ z. record z { rank = rank }) y.records })
ranked-replied want gives x y r rank k = record {
  sent = k.sent;
  others = λ q p wanted apart. let both = k.others q p wanted apart in (same-mark q ∙ both.0, same-has q ∙ both.1);
  kept = λ distinct q has marked. same-mark q ∙ k.kept distinct q (sym (same-has q) ∙ has) marked;
  made = λ p wanted granted none has. same-mark p ∙ k.made p wanted granted none (sym (same-has p) ∙ has);
}
  where
    ranked : Rec → Rec
    ranked z = record z { rank = rank }

    same-mark : (q : Res)
        → is_marked q (on_record r (λ (z : Rec). record z { rank = rank }) y.records) ≡ is_marked q y.records
    same-mark q = marked-on ranked (λ z. refl) (λ z. refl) q r y.records

    same-has : (q : Res)
        → has_res q (on_record r (λ (z : Rec). record z { rank = rank }) y.records) ≡ has_res q y.records
    same-has q = has-on ranked (λ z. refl) q r y.records

told-rank : (v w : TasksView) (t : TaskId) (want : Want) (gives : Bool) (x : TaskState) → is_task v t ≡ true
    → Told v w t want gives x → (o : Option Res) (rank : ℕ) → Told v (with_rank_of w t o rank) t want gives x
unfolding with_rank
told-rank v w t want gives x here k None rank = k
told-rank v w t want gives x here k (Some r) rank = record {
  state = record k.state { records = on_record r (λ z. record z { rank = rank }) (k.state).records };
  told = k.told;
  did =
      did-state v w t k.state k.told (λ y. record y { records = on_record r (λ z. record z { rank = rank }) y.records })
      here k.did;
  replied = ranked-replied want gives x k.state r rank k.replied;
}

-- A task whose outstanding request is answered stands as having sent none.
pub record Answered (v w : TasksView) (t : TaskId) (want : Want) (gives : Bool) : Type 0 where
  pub state : TaskState
  pub told : List ToldLine
  pub did : Did v w t state told
  pub replied : Replied want gives (state_of v t) state
  pub unsent : is_sent state.phase ≡ false

unsent-asking : (want : Want) (code : ℕ) → is_sent (phase_asking want code) ≡ false
unsent-asking (Enq r c ret full) code = refl
unsent-asking (Deq r have) code = refl
unsent-asking (Release r) code = refl
unsent-asking (Look first count f) code = refl

-- one that is shown rows is told all rows of its line, or waits to send its next request
told-changed : (v w : TasksView) (t : TaskId) (want : Want) (x y : TaskState) (T : List ToldLine) → Did v w t y T
    → y.records ≡ x.records → (is_sent y.phase ≡ true → is_sent x.phase ≡ true) → Told v w t want false x
told-changed v w t want x y T d same phase =
    record { state = y; told = T; did = d; replied = replied-rows want x y same phase }

told-rows : (v w : TasksView) (t : TaskId) (x : TaskState) (T : List ToldLine) → is_task v t ≡ true → Did v w t x T
    → (a : Asked) (rows : List Row) (o : Option Showing) → Told v (looked w t a rows o) t a.req.want false x
unfolding goes_on_looking
told-rows v w t x T here d a rows None = told-changed v w t a.req.want x x T d refl (λ h. h)
told-rows v w t x T here d a rows (Some s) = by_left s.left
  where
    y : TaskState
    y = record x { rows = x.rows ++ rows }

    shown : Did v (with_rows w t rows) t (record x { rows = x.rows ++ rows }) T
    shown = did-rows v w t x T here d rows

    by_left : (left : ℕ) → Told v (goes_on_looking (with_rows w t rows) t a s.verb left) t a.req.want false x
    by_left zero =
        told-changed v (tell_rows (with_rows w t rows) t s.verb) t a.req.want x (record x { rows = [] }) _
        (did-shown v (with_rows w t rows) t (record x { rows = x.rows ++ rows }) T here shown s.verb) refl (λ h. h)
    by_left (suc left) =
        told-changed v _ t a.req.want x _ T
        (did-outstanding v (with_phase (with_rows w t rows) t phases.ToSend) t _ T here
        (did-phase v (with_rows w t rows) t (record x { rows = x.rows ++ rows }) T here shown phases.ToSend)
        (Some (next_asked t a s.verb left)))
        refl (λ h. absurd (cc))

pub answered : (v : TasksView) (t : TaskId) → is_task v t ≡ true → (a : Asked) (answer : Answer) (rank : ℕ)
    → Answered v (tell_answer_ranked v t a answer rank) t a.req.want (grants answer)
unfolding tell_answer_ranked tell_answer recalled replied
answered v t here a answer rank =
    let w : Want = a.req.want in
    let x : TaskState = state_of v t in
    let p : Phase = phase_asking w x.code in
    let y :
    TaskState = record x { phase = p; code = code_in p x.code; outstanding = None } in
    let d : Did v (recalled v t w) t y v.told =
    did-outstanding v (with_phase v t p) t (record x { phase = p; code = code_in p x.code }) v.told here
    (did-phase v v t x v.told here (did-none v t) p) None in
    let z : Told v (tell_answer_ranked v t a answer rank) t w (grants answer) y =
    told-rank v (answered_by (recalled v t w) t a answer) t w (grants answer) y here
    (by_answer (recalled v t w) y d answer) (unrecorded v t (res_wanted w)) rank in
    record {
      state = z.state;
      told = z.told;
      did = z.did;
      replied = record {
        sent = λ h. no_truth (is_sent p) (z.replied.sent h) (unsent-asking w x.code);
        others = z.replied.others;
        kept = z.replied.kept;
        made = z.replied.made;
      };
      unsent =
          false_by (is_sent (z.state).phase) (λ h. no_truth (is_sent p) (z.replied.sent h) (unsent-asking w x.code));
    }
  where
    by_answer : (u : TasksView) (y : TaskState) → Did v u t y v.told → (b : Answer)
        → Told v (answered_by u t a b) t a.req.want (grants b) y
    by_answer u y d (CodedAnswer code) = told-code v u t y v.told here d a.req.want a.unit code
    by_answer u y d (Rows rows) = told-rows v u t y v.told here d a rows a.showing
