-- A request is decided by lists, and told of: the records of a system's tasks go on with its lists.
use Rattle.std.proofs.Common.{◌≡◌, ℕ, Bool, true, false, cond, List, Option, Some, refl, ap, sym, ◌∙◌, subst}
use Rattle.grs_base.specs.Same.{same_res, same_task}
use Rattle.grs_base.specs.State.{State, enq_code, deq_reply}
use Rattle.grs_base.specs.declared.decision.Code.{Code}
use Rattle.grs_base.specs.declared.decision.Code.TheVariants.{C00, C04, C08, C14, C18, Wait, End}
use Rattle.grs_base.specs.declared.resource.Res.{Res}
use Rattle.grs_base.specs.declared.resource.TaskId.{TaskId}
use Rattle.grs_base.proofs.SameLaws.{same_res-exact, same_task-exact}
use Rattle.grs_legal.specs.declared.meaning.Meaning.{Meaning}
use Rattle.grs_wire.specs.Wants.{after_want, answer_to, new_owners, res_wanted}
use Rattle.grs_wire.specs.declared.deck.Deck.{Deck}
use Rattle.grs_wire.specs.declared.request.Want.{Want}
use Rattle.grs_wire.specs.declared.request.Want.TheVariants.{Enq, Deq, Release, Look}
use Rattle.grs_wire.specs.declared.told.ToldLine.{ToldLine}
use Rattle.grs_wire.specs.declared.told.Verb.TheVariants as verbs
use Rattle.task_state.specs.Replies.{is_granted, phase_after, replied, tell_all, tell_new}
use Rattle.task_state.specs.View.{TasksView, code_in, is_task, state_of, without_first}
use Rattle.task_state.specs.declared.state.Phase.{Phase}
use Rattle.task_state.specs.declared.state.Phase.TheVariants as phases
use Rattle.task_state.specs.declared.state.Rec.{Rec}
use Rattle.task_state.specs.declared.state.TaskState.{TaskState}
use Rattle.grs_known.proofs.lists.Owners.{is_among}
use Rattle.grs_known.proofs.lists.Truths.{false_by, no_truth}
use Rattle.grs_known.proofs.system.Did.{Did, did-after_code_deq, did-after_code_enq, did-after_code_release}
use Rattle.grs_known.proofs.system.Ours.{IsOurs, same_place}
use Rattle.grs_known.proofs.tasks.Asked.{told_after}
use Rattle.grs_known.proofs.tasks.Decided.{enq_records}
use Rattle.grs_known.proofs.tasks.Invariant.{has_res, is_distinct}
use Rattle.grs_known.proofs.records.Lists.{Matches, enq-elsewhere, has-without, marked-without, matches-deq}
use Rattle.grs_known.proofs.records.Lists.{matches-enq}
use Rattle.grs_known.proofs.records.Lists.{matches-other, matches-records, matches-release}
use Rattle.grs_known.proofs.records.Marks.{is_marked}
use Rattle.grs_known.proofs.records.ToldAll.{ToldAll, told-all}

-- A test of phases that no answer gives, but the wait for one.
pub record IsQuiet (f : Phase → Bool) : Type 0 where
  pub ready : f phases.Ready ≡ false
  pub held : f phases.HeldAnswer ≡ false
  pub ending : (c : ℕ) → f (phases.Ending c) ≡ false

-- ---- the asker
-- Task u stood as x, which has these records, and got the answer to this by the lists.
pub record AskerRead (v : TasksView) (u : TaskId) (xs : List Rec) (p : Res → Bool) (s : State) (w : Want) (r : Res)
    (k : TasksView) :
    Type 0 where
  pub state : TaskState
  pub told : List ToldLine
  pub did : Did v k u state told
  pub lists : Matches p (after_want s u w) u state.records
  pub quiet : (f : Phase → Bool) → IsQuiet f → f state.phase ≡ false
  -- of other resources its records stay
  pub has : (q : Res) → same_res q r ≡ false → has_res q state.records ≡ has_res q xs
  pub marks : (q : Res) → same_res q r ≡ false → is_marked q state.records ≡ is_marked q xs

quiet-after : (f : Phase → Bool) → IsQuiet f → (c : Code) → f (phase_after c) ≡ false
quiet-after f k C00 = k.ready
quiet-after f k C04 = k.ready
quiet-after f k C08 = k.ready
quiet-after f k C14 = k.ready
quiet-after f k C18 = k.ready
quiet-after f k Wait = k.held
quiet-after f k (End m) = k.ending m

same-if : (b : Bool) (xs : List Rec) (r q : Res) → same_res q r ≡ false
    → (has_res q (cond b (without_first xs r) xs) ≡ has_res q xs)
    × (is_marked q (cond b (without_first xs r) xs) ≡ is_marked q xs)
same-if true xs r q apart = (has-without q r xs apart, marked-without q r xs apart)
same-if false xs r q apart = (refl, refl)

module _ (v v0 : TasksView) (u : TaskId) (here : is_task v u ≡ true) (x : TaskState) (did : Did v v0 u x v.told)
    (free : (f : Phase → Bool) → IsQuiet f → f x.phase ≡ false) (p : Res → Bool) (s : State)
    (h : Matches p s u x.records) (distinct : is_distinct x.records ≡ true) where
  pub asker-read : (w : Want) (r : Res) → res_wanted w ≡ Some r → p r ≡ true → (unit : Option ℕ)
      → AskerRead v u x.records p s w r (replied v0 u w unit (answer_to s u w))
  unfolding replied
  asker-read (Enq k c ret full) r wanted in_r unit =
      let same : k ≡ r = cc in
      let code : Code = enq_code s k u c ret full in
      let in_k : p k ≡ true = ap p same ∙ in_r in
      record {
        state = record {
          line = x.line;
          phase = phase_after code;
          code = code_in (phase_after code) x.code;
          records = enq_records k c unit ret code x.line x.records;
          outstanding = x.outstanding;
          rows = x.rows;
        };
        told = told_after v.told u x.line verbs.Enq code;
        did = did-after_code_enq v v0 u x v.told here did k c unit ret full code;
        lists = matches-enq p s u x.records h distinct k in_k c unit ret full x.line;
        quiet = λ f k. quiet-after f k code;
        has = λ q apart. (enq-elsewhere q k c unit ret code x.line x.records (ap (same_res q) same ∙ apart)).0;
        marks = λ q apart. (enq-elsewhere q k c unit ret code x.line x.records (ap (same_res q) same ∙ apart)).1;
      }
  asker-read (Deq k have) r wanted in_r unit =
      let same : k ≡ r = cc in
      let code : Code = deq_reply s k u have in
      let in_k : p k ≡ true = ap p same ∙ in_r in
      record {
        state = record {
          line = x.line;
          phase = phase_after code;
          code = code_in (phase_after code) x.code;
          records = cond (is_granted code) (without_first x.records k) x.records;
          outstanding = x.outstanding;
          rows = x.rows;
        };
        told = told_after v.told u x.line verbs.Deq code;
        did = did-after_code_deq v v0 u x v.told here did k have unit code;
        lists = matches-deq p s u x.records h distinct k in_k have;
        quiet = λ f k. quiet-after f k code;
        has = λ q apart. (same-if (is_granted code) x.records k q (ap (same_res q) same ∙ apart)).0;
        marks = λ q apart. (same-if (is_granted code) x.records k q (ap (same_res q) same ∙ apart)).1;
      }
  asker-read (Release k) r wanted in_r unit =
      let same : k ≡ r = cc in
      let in_k : p k ≡ true = ap p same ∙ in_r in
      record {
        state = record x { records = without_first x.records k };
        told = v.told;
        did = did-after_code_release v v0 u x v.told here did k unit C00;
        lists = matches-release p s u x.records h distinct k in_k;
        quiet = free;
        has = λ q apart. has-without q k x.records (ap (same_res q) same ∙ apart);
        marks = λ q apart. marked-without q k x.records (ap (same_res q) same ∙ apart);
      }
  asker-read (Look first count f) r wanted in_r unit = absurd (cc)

-- ---- all tasks of a system
-- The lists by which is decided become those behind a request of task u; others stay. No task gets a request that is
-- sent.
pub record AllKept (deck : Deck) (home : ℕ) (p o : Res → Bool) (s' z : State) (v w : TasksView) : Type 0 where
  pub here : (t : TaskId) → is_task w t ≡ is_task v t
  pub lists : (t : TaskId) (ls : List Meaning) → IsOurs deck home v t ls → Matches p s' t (state_of w t).records
  pub others : (t : TaskId) (ls : List Meaning) → IsOurs deck home v t ls → Matches o z t (state_of w t).records
  pub phases_are : (f : Phase → Bool) → IsQuiet f → (t : TaskId) (ls : List Meaning) → IsOurs deck home v t ls
      → f (state_of w t).phase ≡ true → f (state_of v t).phase ≡ true

module _ (deck : Deck) (home : ℕ) (p o : Res → Bool) (s z : State) (v : TasksView) (r : Res) (in_r : p r ≡ true)
    (out_r : o r ≡ false)
    (lists : (t : TaskId) (ls : List Meaning) → IsOurs deck home v t ls → Matches p s t (state_of v t).records)
    (others : (t : TaskId) (ls : List Meaning) → IsOurs deck home v t ls → Matches o z t (state_of v t).records) where
  other-res : (q : Res) → o q ≡ true → same_res q r ≡ false
  other-res q in_q = false_by (same_res q r) (λ e. no_truth (o r) (ap o (sym (same_res-exact q r e)) ∙ in_q) out_r)

  -- those that were told control stand as they did as to other lists
  told-others : (k : TasksView) (us : List TaskId) → ToldAll v k r us → (t : TaskId) (ls : List Meaning)
      → IsOurs deck home v t ls → Matches o z t (state_of k t).records
  told-others k us m t ls ours =
      matches-records o z t (state_of v t).records (state_of k t).records (λ q in_q. m.has t q ours.here)
      (λ q in_q. m.marks t q ours.here) (others t ls ours)

  -- a request of another system's task
  pub foreign-kept : (u : TaskId) (w : Want) → res_wanted w ≡ Some r
      → ((t : TaskId) (ls : List Meaning) → IsOurs deck home v t ls → same_task t u ≡ false)
      → AllKept deck home p o (after_want s u w) z v (tell_new v (Some r) (new_owners s u w))
  unfolding tell_new
  foreign-kept u w wanted away =
      let m = told-all v r (new_owners s u w) in
      let k = tell_all v r (new_owners s u w) in
      record {
        here = m.here;
        lists = λ t ls ours.
            matches-other p s u t w (state_of v t).records (state_of k t).records (away t ls ours)
            (λ q. m.has t q ours.here) (λ q. m.marks t q ours.here)
            (λ q wants among has. let same : r ≡ q = of_one r q (sym wanted ∙ wants) in
            subst (λ y. is_marked y (state_of k t).records ≡ true) same
            (m.new t ours.here among (subst (λ y. has_res y (state_of v t).records ≡ true) (sym same) has)))
            (lists t ls ours);
        others = told-others k (new_owners s u w) m;
        phases_are = λ f k t ls ours e. m.phase t f ours.here k.ready e;
      }
    where
      of_one : (a b : Res) → Some a ≡ Some b → a ≡ b
      of_one a b e = cc

  -- one of a task of its own, which asks as x
  module _ (u : TaskId) (ms : List Meaning) (ours_u : IsOurs deck home v u ms) (v0 : TasksView) (x : TaskState)
      (did : Did v v0 u x v.told) (recs : x.records ≡ (state_of v u).records)
      (free : (f : Phase → Bool) → IsQuiet f → f x.phase ≡ false) (distinct : is_distinct (state_of v u).records ≡ true)
      (w : Want) (wanted : res_wanted w ≡ Some r) (unit : Option ℕ) where
    abbrev k1 : TasksView
    k1 = replied v0 u w unit (answer_to s u w)

    a : AskerRead v u x.records p s w r (replied v0 u w unit (answer_to s u w))
    a =
        asker-read v v0 u ours_u.here x did free p s (subst (Matches p s u) (sym recs) (lists u ms ours_u))
        (ap is_distinct recs ∙ distinct) w r wanted in_r unit

    abbrev k2 : TasksView
    k2 = tell_all (replied v0 u w unit (answer_to s u w)) r (new_owners s u w)

    m :
        ToldAll (replied v0 u w unit (answer_to s u w))
        (tell_all (replied v0 u w unit (answer_to s u w)) r (new_owners s u w)) r (new_owners s u w)
    m = told-all k1 r (new_owners s u w)

    -- by places: the asker, and the others
    by_task : (P : TaskId → TaskState → Type 0) → P u a.state
        → ((t : TaskId) (ls : List Meaning) → IsOurs deck home v t ls → same_task t u ≡ false → P t (state_of v t))
        → (t : TaskId) (ls : List Meaning) → IsOurs deck home v t ls
        → P t (state_of (replied v0 u w unit (answer_to s u w)) t)
    by_task P asks rest t ls ours = go (same_task t u) refl
      where
        go : (b : Bool) → same_task t u ≡ b → P t (state_of (replied v0 u w unit (answer_to s u w)) t)
        go true e =
            let one : u ≡ t = sym (same_task-exact t u e) in
            subst (λ y. P y (state_of k1 y)) one (subst (P u) (sym a.did.state) asks)
        go false e =
            subst (P t) (sym (a.did.changed.others t
            (λ place. no_truth (same_task t u) (same_place deck home v t u ls ms ours ours_u place) e)))
            (rest t ls ours e)

    here1 : (t : TaskId) (ls : List Meaning) → IsOurs deck home v t ls
        → is_task (replied v0 u w unit (answer_to s u w)) t ≡ true
    here1 t ls ours = a.did.changed.here t ∙ ours.here

    own_lists : (t : TaskId) (ls : List Meaning) → IsOurs deck home v t ls
        → Matches p (after_want s u w) t (state_of k2 t).records
    own_lists t ls ours =
        by_task (λ y st.
        (fresh : TaskState) → is_task k1 y ≡ true → ((q : Res) → has_res q fresh.records ≡ has_res q st.records)
        → ((q : Res) → is_marked q st.records ≡ true → is_marked q fresh.records ≡ true) →
        (is_among y (new_owners s u w) ≡ true → has_res r st.records ≡ true → is_marked r fresh.records ≡ true)
        → Matches p (after_want s u w) y fresh.records)
        (λ fresh at has marks new.
        matches-records p (after_want s u w) u a.state.records fresh.records (λ q in_q. has q) (λ q in_q. marks q)
        a.lists)
        (λ y ms2 ours_y apart fresh at has marks new.
        matches-other p s u y w (state_of v y).records fresh.records apart has marks
        (λ q wants among got. let same : r ≡ q = of_one r q (sym wanted ∙ wants) in
        subst (λ i. is_marked i fresh.records ≡ true) same
        (new among (subst (λ i. has_res i (state_of v y).records ≡ true) (sym same) got)))
        (lists y ms2 ours_y))
        t ls ours (state_of k2 t) (here1 t ls ours) (λ q. m.has t q (here1 t ls ours))
        (λ q. m.marks t q (here1 t ls ours)) (λ among got. m.new t (here1 t ls ours) among got)
      where
        of_one : (c d : Res) → Some c ≡ Some d → c ≡ d
        of_one c d e = cc

    other_lists : (t : TaskId) (ls : List Meaning) → IsOurs deck home v t ls → Matches o z t (state_of k2 t).records
    other_lists t ls ours =
        by_task (λ y st.
        (fresh : TaskState) → ((q : Res) → has_res q fresh.records ≡ has_res q st.records)
        → ((q : Res) → is_marked q st.records ≡ true → is_marked q fresh.records ≡ true) → Matches o z y fresh.records)
        (λ fresh has marks.
        matches-records o z u (state_of v u).records fresh.records
        (λ q in_q. has q ∙ (a.has q (other-res q in_q) ∙ ap (has_res q) recs))
        (λ q in_q h. marks q (a.marks q (other-res q in_q) ∙ (ap (is_marked q) recs ∙ h))) (others u ms ours_u))
        (λ y ms2 ours_y apart fresh has marks.
        matches-records o z y (state_of v y).records fresh.records (λ q in_q. has q) (λ q in_q. marks q)
        (others y ms2 ours_y))
        t ls ours (state_of k2 t) (λ q. m.has t q (here1 t ls ours)) (λ q. m.marks t q (here1 t ls ours))

    -- the asker waits for nothing
    asker-quiet : (f : Phase → Bool) → IsQuiet f → f (state_of k2 u).phase ≡ false
    asker-quiet f k =
        false_by (f (state_of k2 u).phase) (λ e.
        no_truth (f a.state.phase)
        (ap (λ (y : TaskState). f y.phase) (sym a.did.state) ∙ m.phase u f (here1 u ms ours_u) k.ready e) (a.quiet f k))

    all_phases : (f : Phase → Bool) → IsQuiet f → (t : TaskId) (ls : List Meaning) → IsOurs deck home v t ls
        → f (state_of k2 t).phase ≡ true → f (state_of v t).phase ≡ true
    all_phases f k t ls ours e =
        by_task (λ y st. f st.phase ≡ true → f (state_of v y).phase ≡ true)
        (λ z. no_truth (f a.state.phase) z (a.quiet f k)) (λ y ms2 ours_y apart z. z) t ls ours
        (m.phase t f (here1 t ls ours) k.ready e)

    pub own-kept :
        AllKept deck home p o (after_want s u w) z v
        (tell_new (replied v0 u w unit (answer_to s u w)) (Some r) (new_owners s u w))
    unfolding tell_new
    own-kept = record {
      here = λ t. m.here t ∙ a.did.changed.here t;
      lists = own_lists;
      others = other_lists;
      phases_are = all_phases;
    }

    pub asker-waits : (f : Phase → Bool) → IsQuiet f
        → f (state_of (tell_new (replied v0 u w unit (answer_to s u w)) (Some r) (new_owners s u w)) u).phase ≡ false
    unfolding tell_new
    asker-waits = asker-quiet
