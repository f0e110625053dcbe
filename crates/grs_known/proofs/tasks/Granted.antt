-- A task that is told control: what holds of it afterwards, and that the lines agree.
use Rattle.std.proofs.Common.{◌≡◌, ◌-◌, ◌+◌, ℕ, suc, Bool, true, false, not, ◌||◌, List, [], ◌∷◌, ◌++◌, map, length}
use Rattle.std.proofs.Common.{take, Option, Some, None, refl, ap, sym, ◌∙◌, subst, arith, inl, inr}
use Rattle.std.specs.Prelude.{slice_get, IfSome, nat_lt, ◌==◌}
use Rattle.std.specs.List.{list_any, list_all}
use Rattle.std.proofs.lemmas.Bool.{and_from, and_right, eqb-true, lt-ltb, or_left, or_right}
use Rattle.std.proofs.lemmas.Bool.Decides.{nat_tests}
use Rattle.std.proofs.lemmas.Option.{same_Some}
use Rattle.grs_base.specs.Same.{same_res, same_task}
use Rattle.grs_base.specs.Lists.{owns}
use Rattle.grs_base.specs.State.{State, list_of}
use Rattle.grs_base.specs.declared.resource.Res.{Res}
use Rattle.grs_base.specs.declared.resource.Row.{Row}
use Rattle.grs_base.specs.declared.resource.TaskId.{TaskId}
use Rattle.grs_base.specs.declared.decision.Code.TheVariants.{C00, C04, Wait}
use Rattle.grs_legal.specs.declared.meaning.Meaning.{Meaning}
use Rattle.grs_legal.specs.declared.meaning.Meaning.TheVariants as lines
use Rattle.grs_base.proofs.SameLaws.{same_res-exact, same_res-itself, same_task-itself}
use Rattle.grs_wire.specs.declared.history.HistEntry.{HistEntry}
use Rattle.grs_wire.specs.declared.history.HistEntry.TheVariants.{Enq, Deq, Release, Look, Remove}
use Rattle.task_state.specs.declared.state.Asked.{Asked}
use Rattle.grs_wire.specs.declared.told.Verb.TheVariants as verbs
use Rattle.grs_wire.specs.declared.told.ToldLine.{ToldLine}
use Rattle.grs_wire.specs.declared.told.ToldLine.TheVariants.{Coded, Shown, Post, Ended, Desk}
use Rattle.grs_wire.specs.History.{code_of, replay}
use Rattle.grs_legal.specs.Asks.{asks_of, asks_in}
use Rattle.grs_legal.specs.Legal.{passed_behind}
use Rattle.grs_known.specs.Past.{has_own, Past, Speaks, SpeaksOf}
use Rattle.task_state.specs.declared.state.Rec.{Rec}
use Rattle.task_state.specs.declared.state.Phase.{Phase}
use Rattle.task_state.specs.declared.state.Phase.TheVariants as phases
use Rattle.task_state.specs.declared.state.TaskState.{TaskState}
use Rattle.task_state.specs.View.{on_record}
use Rattle.task_state.specs.Replies.{is_held}
use Rattle.grs_known.specs.Told.{is_post_of, entry_of_line, queued_last, tells_control, is_code_before, is_end_of}
use Rattle.grs_known.specs.Told.{TellsEnq, TellsWait, Posts, LineAgrees}
use Rattle.grs_known.proofs.lists.Entries.{asked_at-grows}
use Rattle.grs_known.proofs.lists.Lines.{asks-same, passed-more}
use Rattle.grs_known.proofs.tasks.Invariant.{key, has_res, Each, IsEntryOn, IsEcb, IsRec, IsDue, WaitsFor, also}
use Rattle.grs_known.proofs.tasks.Invariant.{with_control, may_pass, owns_entry, Passed, IsWaitFor, IsInPhase, IsTask}
use Rattle.grs_known.proofs.tasks.Invariant.{is_post_before, code_bound}
use Rattle.grs_known.specs.Passed.{has_ended}
use Rattle.grs_known.proofs.tasks.Others.{recs-told, phase-told, passed-control, phase-control}
use Rattle.grs_known.proofs.tasks.Records.{recs-marked, keys-told, distinct-told, recs-coded, recs-posted}
use Rattle.grs_known.proofs.tasks.Keys.{has_res-own, each-kept}
use Rattle.grs_known.proofs.lists.Truths.{false_by, no_truth}
use Rattle.grs_known.proofs.lists.Facts.{all-kept, all-more, none-more, take-more}

-- A line agrees with each history of which a past speaks, or speaks where one resource is concerned.
abbrev pub AgreesPast : List Meaning → Past → List ToldLine → TaskId → ToldLine → Type 0
AgreesPast ls p T t l = (limit : ℕ) (P : List HistEntry) → Speaks limit t p P → LineAgrees limit ls P T l

abbrev pub AgreesPastOf : List Meaning → Past → List ToldLine → TaskId → Res → ToldLine → Type 0
AgreesPastOf ls p T t r l = (limit : ℕ) (P : List HistEntry) → SpeaksOf limit t r p P → LineAgrees limit ls P T l

-- an entry that waited, of this resource, is told 00 to an owner
tells_waited : (s : State) (t : TaskId) (r : Res) (o : Option HistEntry) (h : HistEntry) → o ≡ Some h → code_of h ≡ Wait
    → IsEntryOn r o → owns (list_of s r) t ≡ true → TellsEnq s t C00 o
tells_waited s t r None h e w on own = absurd on
tells_waited s t r (Some (Enq u q c ret code)) h e w on own =
    let is_wait : code ≡ Wait = ap code_of (same_Some (Enq u q c ret code) h e) ∙ w in
    (rw is_wait refl, λ g. subst (λ z. owns (list_of s z) t ≡ true) (sym on.0) own)
tells_waited s t r (Some (Deq u q have code)) h e w on own = absurd on
tells_waited s t r (Some (Release u q)) h e w on own = absurd on
tells_waited s t r (Some (Look u place filter rows)) h e w on own = absurd on
tells_waited s t r (Some (Remove by target)) h e w on own = absurd on

-- an owner of a resource owns what an entry of it asked for
owns-on : (has : Res → Bool) (r : Res) (o : Option HistEntry) (h : HistEntry) → o ≡ Some h → IsEntryOn r o
    → has r ≡ true → owns_entry has h ≡ true
owns-on has r None h e on own = absurd on
owns-on has r (Some (Enq u q c ret code)) h e on own =
    subst (λ z. owns_entry has z ≡ true) (same_Some (Enq u q c ret code) h e) (subst (λ z. has z ≡ true) (sym on.0) own)
owns-on has r (Some (Deq u q have code)) h e on own = absurd on
owns-on has r (Some (Release u q)) h e on own = absurd on
owns-on has r (Some (Look u place filter rows)) h e on own = absurd on
owns-on has r (Some (Remove by target)) h e on own = absurd on

-- an ECB entry is posted to an owner
posts_ecb : (s : State) (t : TaskId) (r : Res) (o : Option HistEntry) → IsEcb o → IsEntryOn r o
    → owns (list_of s r) t ≡ true → Posts s t o
posts_ecb s t r None ecb on own = absurd on
posts_ecb s t r (Some (Enq u q c ret code)) ecb on
    own = (ecb.0, ecb.1, subst (λ z. owns (list_of s z) t ≡ true) (sym on.0) own)
posts_ecb s t r (Some (Deq u q have code)) ecb on own = absurd on
posts_ecb s t r (Some (Release u q)) ecb on own = absurd on
posts_ecb s t r (Some (Look u place filter rows)) ecb on own = absurd on
posts_ecb s t r (Some (Remove by target)) ecb on own = absurd on

posts-grows : (s : State) (t : TaskId) (o o' : Option HistEntry) → ((h : HistEntry) → o ≡ Some h → o' ≡ Some h)
    → Posts s t o → Posts s t o'
posts-grows s t None o' grows a = absurd a
posts-grows s t (Some h) o' grows a = subst (Posts s t) (sym (grows h refl)) a

code_later : (t : TaskId) (n : ℕ) (l : ToldLine) → is_code_before t n l ≡ true → is_code_before t (suc n) l ≡ true
code_later t n (Coded u j part verb code) h = grind (arith, nat_tests, h)
code_later t n (Post u j) h = refl
code_later t n (Ended u code) h = refl
code_later t n (Shown u j verb code rows) h = grind (arith, nat_tests, h)
code_later t n (Desk j said) h = refl

pub codes_later : (t : TaskId) (n : ℕ) (T : List ToldLine) → list_all (is_code_before t n) T ≡ true
    → list_all (is_code_before t (suc n)) T ≡ true
codes_later t n T h = all-kept (is_code_before t n) (is_code_before t (suc n)) (code_later t n) T h

pub lt_suc : (n : ℕ) → nat_lt n (suc n) ≡ true
lt_suc n = lt-ltb n (suc n) (omega arith)

-- the line of a record is the last that queued an element on its resource
pub latest-on :
    (ls : List Meaning) (E : List HistEntry) (T : List ToldLine) (has leaving : Res → Bool) (t : TaskId) (r : Res)
    (y : Rec) (line : ℕ) (ph : Phase)
    → same_res r y.res ≡ true → IsRec ls E T has leaving t line ph y → queued_last ls E r y.line ≡ true
latest-on ls E T has leaving t r y line ph same rec =
    subst (λ q. queued_last ls E q y.line ≡ true) (sym (same_res-exact r y.res same)) rec.latest

-- a task that has something on record hasn't ended
no_end-of : (ls : List Meaning) (p : Past) (T : List ToldLine) (t : TaskId) (n : ℕ) (ph : Phase) → has_ended ph ≡ false
    → IsInPhase ls p T t n ph → list_any (is_end_of t) T ≡ false
no_end-of ls p T t n phases.Ready e h = h.going.no_end
no_end-of ls p T t n phases.ToSend e h = h.going.no_end
no_end-of ls p T t n phases.Sent e h = h.going.no_end
no_end-of ls p T t n phases.HeldAnswer e h = h.going.no_end
no_end-of ls p T t n (phases.HeldLine r) e h = h.going.no_end
no_end-of ls p T t n (phases.Ending c) e h = h.no_end
no_end-of ls p T t n phases.Ended e h = absurd (cc)

-- where a task has a record it may own
owned-also : (p : Past) (xs : List Rec) (r : Res) → map key xs ≡ p.own → has_res r xs ≡ true
    → ((q : Res) → p.owns q ≡ true → has_own q p.own ≡ true) → (q : Res) → also r p.owns q ≡ true
    → has_own q p.own ≡ true
owned-also p xs r keys has owned q o = go (p.owns q) (owned q) o
  where
    go : (b : Bool) → (b ≡ true → has_own q p.own ≡ true) → (b || same_res q r) ≡ true → has_own q p.own ≡ true
    go true f e = f refl
    go false f e = sym (has_res-own q xs p.own keys) ∙ ap (λ z. has_res z xs) (same_res-exact q r e) ∙ has

-- an ECB's line isn't the one by whose answer its task is held
ecb-waits : (g : HistEntry) → IsEcb (Some g) → code_of g ≡ Wait → ⊥
ecb-waits (Enq u q c ret code) ecb waits = absurd (let f : C04 ≡ Wait = sym ecb.1 ∙ waits in cc)
ecb-waits (Deq u q have code) ecb waits = absurd ecb
ecb-waits (Release u q) ecb waits = absurd ecb
ecb-waits (Look u place filter rows) ecb waits = absurd ecb
ecb-waits (Remove by target) ecb waits = absurd ecb

held-apart : (ls : List Meaning) (p : Past) (T : List ToldLine) (t : TaskId) (n k : ℕ) (q : Phase) → is_held q ≡ true
    → IsInPhase ls p T t n q → IsEcb (entry_of_line ls p.asked k) → is_post_of t n (Post t k) ≡ false
held-apart ls p T t n k phases.HeldAnswer e h ecb =
    and_right (same_task t t) (k == n) (false_by (k == n) (λ same.
    absurd (ecb-waits h.last (subst IsEcb (ap (entry_of_line ls p.asked) (eqb-true k n same) ∙ h.of_line) ecb)
    h.waits)))
held-apart ls p T t n k phases.Ready e h ecb = absurd (cc)
held-apart ls p T t n k phases.ToSend e h ecb = absurd (cc)
held-apart ls p T t n k phases.Sent e h ecb = absurd (cc)
held-apart ls p T t n k (phases.HeldLine r) e h ecb = absurd (cc)
held-apart ls p T t n k (phases.Ending c) e h ecb = absurd (cc)
held-apart ls p T t n k phases.Ended e h ecb = absurd (cc)

-- A task that is told control of resource r, of which it has the record y.
module _ (ls : List Meaning) (p : Past) (T : List ToldLine) (leaving : Res → Bool) (t : TaskId) (r : Res) (y : Rec)
    (same : same_res r y.res ≡ true) where
  on_entry : (o : Option HistEntry) → IsEntryOn y.res o → IsEntryOn r o
  on_entry o h = subst (λ q. IsEntryOn q o) (sym (same_res-exact r y.res same)) h

  now_owns : also r p.owns r ≡ true
  now_owns = or_right (p.owns r) (same_res r r) (same_res-itself r)

  -- held by its last answer, it is told that
  pub task-coded : (n code : ℕ) (xs : List Rec) (o : Option Asked) (ws : List Row) →
      IsTask ls p T leaving t
      (record { line = n; phase = phases.HeldAnswer; code = code; records = xs; outstanding = o; rows = ws })
      →
      IsRec ls p.asked T p.owns leaving t n phases.HeldAnswer y → has_res r xs ≡ true → y.line ≡ n →
      IsTask ls (with_control r p) (T ++ Coded t y.line 0 verbs.Enq C00 ∷ []) leaving t
      (record {
        line = n;
        phase = phases.Ready;
        code = code;
        records = on_record r (λ z. record z { told = true }) xs;
        outstanding = o;
        rows = ws;
      })
      × AgreesPast ls (with_control r p) T t (Coded t y.line 0 verbs.Enq C00)
  task-coded n code xs o ws h rec has at =
      let on : IsEntryOn r (entry_of_line ls p.asked y.line) = on_entry (entry_of_line ls p.asked y.line) rec.entry in
      let on_n : IsEntryOn r (entry_of_line ls p.asked n) =
      subst (λ k. IsEntryOn r (entry_of_line ls p.asked k)) at on in
      let of_line : entry_of_line ls p.asked y.line ≡ Some h.phase.last =
      ap (λ k. entry_of_line ls p.asked k) at ∙ h.phase.of_line in
      let codes_at : list_all (is_code_before t y.line) T ≡ true =
      subst (λ k. list_all (is_code_before t k) T ≡ true) (sym at) h.codes in
      let last_code : is_code_before t (suc n) (Coded t y.line 0 verbs.Enq C00) ≡ true =
      or_right (not (same_task t t)) _ (subst (λ k. nat_lt k (suc n) ≡ true) (sym at) (lt_suc n)) in
      let latest : queued_last ls p.asked r n ≡ true =
      subst (λ k. queued_last ls p.asked r k ≡ true) at
      (latest-on ls p.asked T p.owns leaving t r y n phases.HeldAnswer same rec) in
      let control : tells_control t ls p.asked r (Coded t n 0 verbs.Enq C00) ≡ true =
      and_from (same_task t t) _ (same_task-itself t) latest in (
        record {
          keys = keys-told r xs ∙ h.keys;
          owned = owned-also p xs r h.keys has h.owned;
          distinct = distinct-told r xs ∙ h.distinct;
          within = h.within;
          count = λ e. h.count refl;
          records =
              subst (λ k.
              Each (IsRec ls p.asked (T ++ Coded t k 0 verbs.Enq C00 ∷ []) (also r p.owns) leaving t n phases.Ready)
              (on_record r (λ z. record z { told = true }) xs))
              (sym at)
              (recs-coded ls p.asked T p.owns leaving t r n on_n xs h.records (Coded t n 0 verbs.Enq C00) control
              (λ k. refl));
          codes = all-more (is_code_before t (suc n)) T _ (codes_later t n T h.codes) last_code;
          posts = all-more (is_post_before t (suc n)) T _ h.posts refl;
          phase = record {
            going = record {
              no_code = h.phase.going.no_code;
              no_end = none-more (is_end_of t) T _ h.phase.going.no_end refl;
            };
            free =
                subst (λ z. IfSome z (λ g. code_of g ≡ Wait → owns_entry (also r p.owns) g ≡ true))
                (sym h.phase.is_last)
                (λ w. owns-on (also r p.owns) r (entry_of_line ls p.asked y.line) h.phase.last of_line on now_owns);
            passed = passed-control r p ls n h.phase.passed;
          };
          shown = h.shown;
          emptied = λ e. absurd (cc);
        },
        λ limit P s. (
          rec.low,
          subst (λ E. TellsEnq (replay limit P) t C00 (entry_of_line ls E y.line)) (sym s.asked)
              (tells_waited (replay limit P) t r (entry_of_line ls p.asked y.line) h.phase.last of_line h.phase.waits on
              (s.owns r now_owns)),
          codes_at,
          h.phase.going.no_end,
        ),
      )

  -- or by its ECB
  pub task-posted : (x : TaskState) → IsTask ls p T leaving t x →
      IsRec ls p.asked T p.owns leaving t x.line x.phase y → has_res r x.records ≡ true → IsDue ls p.asked T t y.line
      → has_ended x.phase ≡ false →
      IsTask ls (with_control r p) (T ++ Post t y.line ∷ []) leaving t
      (record x { records = on_record r (λ z. record z { told = true }) x.records })
      × AgreesPastOf ls (with_control r p) T t r (Post t y.line)
  task-posted x h rec has due going =
      let on : IsEntryOn r (entry_of_line ls p.asked y.line) = on_entry (entry_of_line ls p.asked y.line) rec.entry in (
        record {
          keys = keys-told r x.records ∙ h.keys;
          owned = owned-also p x.records r h.keys has h.owned;
          distinct = distinct-told r x.records ∙ h.distinct;
          within = h.within;
          count = h.count;
          records =
              recs-posted ls p.asked T p.owns leaving t r y.line on
              (latest-on ls p.asked T p.owns leaving t r y x.line x.phase same rec) x.line x.phase x.records h.records;
          codes = all-more (is_code_before t (code_bound x.phase x.line)) T _ h.codes refl;
          posts =
              all-more (is_post_before t (suc x.line)) T _ h.posts
              (or_right (not (same_task t t)) _ (lt-ltb y.line (suc x.line) (omega (arith, rec.high))));
          phase =
              phase-told ls (with_control r p) T t x.line x.phase (Post t y.line) refl
              (λ e. held-apart ls p T t x.line y.line x.phase e h.phase due.ecb)
              (phase-control r p ls T t x.line x.phase h.phase);
          shown = h.shown;
          emptied = λ e. absurd (grind (arith, e, going));
        },
        λ limit P s. (
          rec.low,
          subst (λ E. Posts (replay limit P) t (entry_of_line ls E y.line)) (sym s.asked.1)
              (posts-grows (replay limit P) t (entry_of_line ls p.asked y.line) _
              (asked_at-grows (slice_get ls (y.line - 1)) p.asked s.asked.0 (length (asks_of (take (y.line - 1) ls))))
              (posts_ecb (replay limit P) t r (entry_of_line ls p.asked y.line) due.ecb on (s.owns now_owns))),
          due.coded,
          due.unposted,
          no_end-of ls p T t x.line x.phase going h.phase,
        ),
      )

-- a resource is marked of a task that is about to give it up: no line tells it
pub task-marked :
    (ls : List Meaning) (p : Past) (T : List ToldLine) (leaving : Res → Bool) (t : TaskId) (r : Res) (x : TaskState)
    → leaving r ≡ true → has_res r x.records ≡ true → IsTask ls p T leaving t x
    → IsTask ls (with_control r p) T leaving t
    (record x { records = on_record r (λ z. record z { told = true }) x.records })
task-marked ls p T leaving t r x leaves has h = record {
  keys = keys-told r x.records ∙ h.keys;
  owned = owned-also p x.records r h.keys has h.owned;
  distinct = distinct-told r x.records ∙ h.distinct;
  within = h.within;
  count = h.count;
  records = recs-marked ls p.asked T p.owns leaving t r leaves x.line x.phase x.records h.records;
  codes = h.codes;
  posts = h.posts;
  phase = phase-control r p ls T t x.line x.phase h.phase;
  shown = h.shown;
  emptied = λ e. ap (on_record r (λ z. record z { told = true })) (h.emptied e);
}

pub recs-phase :
    (ls : List Meaning) (E : List HistEntry) (T : List ToldLine) (has leaving : Res → Bool) (t : TaskId) (n : ℕ)
    (ph ph' : Phase)
    → is_held ph ≡ false → (xs : List Rec) → Each (IsRec ls E T has leaving t n ph) xs
    → Each (IsRec ls E T has leaving t n ph') xs
recs-phase ls E T has leaving t n ph ph' e xs =
    each-kept (IsRec ls E T has leaving t n ph) (IsRec ls E T has leaving t n ph') xs
    (λ x among h. record {
      entry = h.entry;
      latest = h.latest;
      low = h.low;
      high = h.high;
      known = h.known;
      control = h.control;
      due = λ u. still x (h.due u);
    })
  where
    still : (x : Rec) → WaitsFor ls E T t n ph x → WaitsFor ls E T t n ph' x
    still x (inl a) = no_truth (is_held ph) a.0 e
    still x (inr d) = inr d

-- one line more that asks nothing and lets the task pass
pub passed-line : (ls : List Meaning) (p : Past) (m : ℕ) (l : Meaning) → slice_get ls m ≡ Some l → asks_in l ≡ []
    → length p.asked ≡ length (asks_of (take m ls)) → may_pass p l ≡ true → Passed ls p m → Passed ls p (m + 1)
passed-line ls p m l at asks count lets h =
    rw (take-more ls m l at, passed-more (take m ls) l asks (length p.asked) count)
    (all-more (may_pass p) (passed_behind (length p.asked) (take m ls)) l h lets)

-- a WAIT line that is at hand lets an owner pass
wait_passes : (ls : List Meaning) (p : Past) (q : Res) (m : ℕ) (o : Option Meaning) → slice_get ls m ≡ o → IsWaitFor q o
    → length p.asked ≡ length (asks_of (take (m + 1) ls)) → p.owns q ≡ true → Passed ls p m → Passed ls p (m + 1)
wait_passes ls p q m None at w count own h = absurd w
wait_passes ls p q m (Some (lines.Enq r c ret unit)) at w count own h = absurd w
wait_passes ls p q m (Some (lines.Deq r have)) at w count own h = absurd w
wait_passes ls p q m (Some (lines.Shows d)) at w count own h = absurd w
wait_passes ls p q m (Some lines.Nothing) at w count own h = absurd w
wait_passes ls p q m (Some (lines.Wait r)) at w count own h =
    passed-line ls p m (lines.Wait r) at refl (count ∙ ap length (asks-same ls m _ at refl))
    (or_left (p.owns r) _ (subst (λ z. p.owns z ≡ true) (sym w) own)) h

tells_wait :
    (ls : List Meaning) (E : List HistEntry) (T : List ToldLine) (s : State) (t : TaskId) (q : Res) (o : Option Meaning)
    → IsWaitFor q o → owns (list_of s q) t ≡ true → list_any (tells_control t ls E q) T ≡ true
    → TellsWait t ls E T s C00 o
tells_wait ls E T s t q None w own control = absurd w
tells_wait ls E T s t q (Some (lines.Enq r c ret unit)) w own control = absurd w
tells_wait ls E T s t q (Some (lines.Deq r have)) w own control = absurd w
tells_wait ls E T s t q (Some (lines.Shows d)) w own control = absurd w
tells_wait ls E T s t q (Some lines.Nothing) w own control = absurd w
tells_wait ls E T s t q (Some (lines.Wait r)) w own control = (
  subst (λ z. owns (list_of s z) t ≡ true) (sym w) own,
  subst (λ z. list_any (tells_control t ls E z) T ≡ true) (sym w) control,
)

-- a task held at a WAIT line passes it when it has control
pub task-passed :
    (ls : List Meaning) (p : Past) (T : List ToldLine) (leaving : Res → Bool) (t : TaskId) (q : Res) (n code : ℕ)
    (xs : List Rec) (o : Option Asked) (ws : List Row)
    →
    IsTask ls p T leaving t
    (record { line = n; phase = phases.HeldLine q; code = code; records = xs; outstanding = o; rows = ws })
    →
    p.owns q ≡ true → list_any (tells_control t ls p.asked q) T ≡ true →
    IsTask ls p (T ++ Coded t n 0 verbs.Wait C00 ∷ []) leaving t
    (record { line = n; phase = phases.Ready; code = code; records = xs; outstanding = o; rows = ws })
    × AgreesPast ls p T t (Coded t n 0 verbs.Wait C00)
task-passed ls p T leaving t q n code xs o ws h own control =
    let back : (n - 1) + 1 ≡ n = omega (arith, h.phase.begun) in (
      record {
        keys = h.keys;
        owned = h.owned;
        distinct = h.distinct;
        within = h.within;
        count = λ e. h.count refl;
        records =
            recs-told ls p.asked T p.owns leaving t n phases.Ready (Coded t n 0 verbs.Wait C00) xs (λ k. refl)
            (recs-phase ls p.asked T p.owns leaving t n (phases.HeldLine q) phases.Ready refl xs h.records);
        codes =
            all-more (is_code_before t (suc n)) T _ (codes_later t n T h.codes)
            (or_right (not (same_task t t)) _ (lt_suc n));
        posts = all-more (is_post_before t (suc n)) T _ h.posts refl;
        phase = record {
          going = record {
            no_code = h.phase.going.no_code;
            no_end = none-more (is_end_of t) T _ h.phase.going.no_end refl;
          };
          free = h.phase.free;
          passed =
              subst (λ m. Passed ls p m) back (wait_passes ls p q (n - 1) _ refl h.phase.at
              (h.count refl ∙ ap (λ m. length (asks_of (take m ls))) (sym back)) own h.phase.passed);
        };
        shown = h.shown;
        emptied = λ e. absurd (cc);
      },
      λ limit P s. (
        h.phase.begun,
        subst (λ E. TellsWait t ls E T (replay limit P) C00 (slice_get ls (n - 1))) (sym s.asked)
            (tells_wait ls p.asked T (replay limit P) t q _ h.phase.at (s.owns q own) control),
        h.codes,
        h.phase.going.no_end,
      ),
    )
