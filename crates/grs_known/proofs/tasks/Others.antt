-- What control of one resource more, or a line told to another task, leaves of a task.
use Rattle.std.proofs.Common.{◌≡◌, ◌-◌, ℕ, Bool, true, false, not, ◌||◌, List, [], ◌∷◌, ◌++◌, length, take, refl, sym}
use Rattle.std.proofs.Common.{◌∙◌, arith}
use Rattle.std.proofs.lemmas.Option.{IfSome_then}
use Rattle.std.proofs.Common.{inl, inr}
use Rattle.std.proofs.lemmas.Bool.{or_left, or_right}
use Rattle.grs_base.specs.Same.{same_res}
use Rattle.grs_base.specs.declared.resource.Res.{Res}
use Rattle.grs_base.specs.declared.resource.TaskId.{TaskId}
use Rattle.grs_legal.specs.declared.meaning.Meaning.{Meaning}
use Rattle.grs_legal.specs.declared.meaning.Meaning.TheVariants as lines
use Rattle.grs_wire.specs.ToldTo.{is_told_to}
use Rattle.grs_wire.specs.declared.history.HistEntry.{HistEntry}
use Rattle.grs_wire.specs.declared.history.HistEntry.TheVariants.{Enq, Deq, Release, Look, Remove}
use Rattle.grs_wire.specs.declared.told.ToldLine.{ToldLine}
use Rattle.grs_wire.specs.declared.told.ToldLine.TheVariants.{Coded, Shown, Post, Ended, Desk}
use Rattle.grs_legal.specs.Legal.{passed_behind}
use Rattle.grs_known.specs.Past.{has_own, Past}
use Rattle.task_state.specs.Replies.{is_held}
use Rattle.task_state.specs.declared.state.Rec.{Rec}
use Rattle.task_state.specs.declared.state.Phase.{Phase}
use Rattle.task_state.specs.declared.state.Phase.TheVariants as phases
use Rattle.task_state.specs.declared.state.TaskState.{TaskState}
use Rattle.grs_known.specs.Told.{tells_control, is_code_before, is_code_of, is_post_of, is_end_of}
use Rattle.grs_known.proofs.tasks.Invariant.{Each, has_res, IsRec, IsDue, WaitsFor, may_pass, owns_entry, with_control}
use Rattle.grs_known.proofs.tasks.Invariant.{Passed, IsFree, IsLooking, IsInPhase, IsTask, is_post_before}
use Rattle.grs_known.proofs.tasks.Keys.{each-kept}
use Rattle.grs_known.proofs.lists.Facts.{all-kept, all-more, any-more, none-more}

-- a task that is told control of one resource more stands in its phase as before
module _ (r : Res) (p : Past) where
  pass-control : (l : Meaning) → may_pass p l ≡ true → may_pass (with_control r p) l ≡ true
  pass-control (lines.Enq q c ret unit) h = refl
  pass-control (lines.Deq q have) h = refl
  pass-control (lines.Wait q) h = more (p.owns q) (same_res q r) (not (has_own q p.own)) h
    where
      more : (a b c : Bool) → (a || c) ≡ true → ((a || b) || c) ≡ true
      more true b c e = refl
      more false b c e = or_right b c e
  pass-control (lines.Shows d) h = refl
  pass-control lines.Nothing h = refl

  pub passed-control : (ls : List Meaning) (n : ℕ) → Passed ls p n → Passed ls (with_control r p) n
  passed-control ls n h =
      all-kept (may_pass p) (may_pass (with_control r p)) pass-control (passed_behind (length p.asked) (take n ls)) h

  free-control : IsFree p → IsFree (with_control r p)
  free-control f = IfSome_then p.last f (λ h k w. owned h (k w))
    where
      owned : (h : HistEntry) → owns_entry p.owns h ≡ true → owns_entry (with_control r p).owns h ≡ true
      owned (Enq u q c ret code) e = or_left (p.owns q) (same_res q r) e
      owned (Deq u q have code) e = or_left (p.owns q) (same_res q r) e
      owned (Release u q) e = or_left (p.owns q) (same_res q r) e
      owned (Look u place filter rows) e = e
      owned (Remove by target) e = e

  looking-control : (ls : List Meaning) (T : List ToldLine) (t : TaskId) (line : ℕ) → IsLooking ls p T t line
      → IsLooking ls (with_control r p) T t line
  looking-control ls T t line h = record {
    going = h.going;
    free = free-control h.free;
    begun = h.begun;
    display = h.display;
    at = h.at;
    passed = passed-control ls (line - 1) h.passed;
    from = h.from;
    to = h.to;
  }

  pub phase-control : (ls : List Meaning) (T : List ToldLine) (t : TaskId) (line : ℕ) (x : Phase)
      → IsInPhase ls p T t line x → IsInPhase ls (with_control r p) T t line x
  phase-control ls T t line phases.Ready
      h = record { going = h.going; free = free-control h.free; passed = passed-control ls line h.passed }
  phase-control ls T t line phases.ToSend h = looking-control ls T t line h
  phase-control ls T t line phases.Sent h = looking-control ls T t line h
  phase-control ls T t line phases.HeldAnswer h = record {
    going = h.going;
    passed = passed-control ls line h.passed;
    last = h.last;
    is_last = h.is_last;
    of_line = h.of_line;
    waits = h.waits;
    unposted = h.unposted;
  }
  phase-control ls T t line (phases.HeldLine q) h = record {
    going = h.going;
    free = free-control h.free;
    begun = h.begun;
    at = h.at;
    passed = passed-control ls (line - 1) h.passed;
  }
  phase-control ls T t line (phases.Ending c) h = record {
    no_end = h.no_end;
    code = h.code;
    free = free-control h.free;
    all_lines = λ e. ((h.all_lines e).0, passed-control ls line (h.all_lines e).1);
  }
  phase-control ls T t line phases.Ended h = h

-- records of a task that owns as much there, and gives up no more of that
pub recs-owns :
    (ls : List Meaning) (E : List HistEntry) (T : List ToldLine) (has has' leaving leaving' : Res → Bool) (t : TaskId)
    (line : ℕ) (ph : Phase) (xs : List Rec)
    →
    ((q : Res) → has_res q xs ≡ true → has' q ≡ has q)
    → ((q : Res) → has_res q xs ≡ true → has q ≡ true → leaving' q ≡ false → leaving q ≡ false)
    → Each (IsRec ls E T has leaving t line ph) xs → Each (IsRec ls E T has' leaving' t line ph) xs
recs-owns ls E T has has' leaving leaving' t line ph xs same stays =
    each-kept (IsRec ls E T has leaving t line ph) (IsRec ls E T has' leaving' t line ph) xs (λ x among h. record {
      entry = h.entry;
      latest = h.latest;
      low = h.low;
      high = h.high;
      known = h.known ∙ sym (same x.res among);
      control = λ o s. h.control (sym (same x.res among) ∙ o) (stays x.res among (sym (same x.res among) ∙ o) s);
      due = h.due;
    })

-- a task that asks for something stands as before, whatever that gives up
pub task-leaving :
    (ls : List Meaning) (p : Past) (T : List ToldLine) (leaving : Res → Bool) (t : TaskId) (x : TaskState)
    → IsTask ls p T (λ r. false) t x → IsTask ls p T leaving t x
task-leaving ls p T leaving t x h = record {
  keys = h.keys;
  owned = h.owned;
  distinct = h.distinct;
  within = h.within;
  count = h.count;
  records =
      recs-owns ls p.asked T p.owns p.owns (λ r. false) leaving t x.line x.phase x.records (λ q e. refl)
      (λ q e o s. refl) h.records;
  codes = h.codes;
  posts = h.posts;
  phase = h.phase;
  shown = h.shown;
  emptied = h.emptied;
}

-- what a line told to another task is not
pub other-code_before : (t : TaskId) (k : ℕ) (l : ToldLine) → is_told_to t l ≡ false → is_code_before t k l ≡ true
other-code_before t k (Coded u j part verb code) apart = grind (arith, apart)
other-code_before t k (Post u j) apart = refl
other-code_before t k (Ended u code) apart = refl
other-code_before t k (Shown u j verb code rows) apart = grind (arith, apart)
other-code_before t k (Desk j said) apart = refl

pub other-post_before : (t : TaskId) (k : ℕ) (l : ToldLine) → is_told_to t l ≡ false → is_post_before t k l ≡ true
other-post_before t k (Coded u j part verb code) apart = refl
other-post_before t k (Post u j) apart = grind (arith, apart)
other-post_before t k (Ended u code) apart = refl
other-post_before t k (Shown u j verb code rows) apart = refl
other-post_before t k (Desk j said) apart = refl

pub other-post_of : (t : TaskId) (k : ℕ) (l : ToldLine) → is_told_to t l ≡ false → is_post_of t k l ≡ false
other-post_of t k (Coded u j part verb code) apart = refl
other-post_of t k (Post u j) apart = grind (arith, apart)
other-post_of t k (Ended u code) apart = refl
other-post_of t k (Shown u j verb code rows) apart = refl
other-post_of t k (Desk j said) apart = refl

pub other-end_of : (t : TaskId) (l : ToldLine) → is_told_to t l ≡ false → is_end_of t l ≡ false
other-end_of t (Coded u j part verb code) apart = refl
other-end_of t (Post u j) apart = refl
other-end_of t (Ended u code) apart = apart
other-end_of t (Shown u j verb code rows) apart = refl
other-end_of t (Desk j said) apart = refl

looking-told : (ls : List Meaning) (p : Past) (T : List ToldLine) (t : TaskId) (line : ℕ) (l : ToldLine)
    → is_end_of t l ≡ false → IsLooking ls p T t line → IsLooking ls p (T ++ l ∷ []) t line
looking-told ls p T t line l e h = record {
  going = record { no_code = h.going.no_code; no_end = none-more (is_end_of t) T l h.going.no_end e };
  free = h.free;
  begun = h.begun;
  display = h.display;
  at = h.at;
  passed = h.passed;
  from = h.from;
  to = h.to;
}

pub phase-told : (ls : List Meaning) (p : Past) (T : List ToldLine) (t : TaskId) (line : ℕ) (x : Phase) (l : ToldLine)
    → is_end_of t l ≡ false → (is_held x ≡ true → is_post_of t line l ≡ false) → IsInPhase ls p T t line x
    → IsInPhase ls p (T ++ l ∷ []) t line x
phase-told ls p T t line phases.Ready l e k h = record {
  going = record { no_code = h.going.no_code; no_end = none-more (is_end_of t) T l h.going.no_end e };
  free = h.free;
  passed = h.passed;
}
phase-told ls p T t line phases.ToSend l e k h = looking-told ls p T t line l e h
phase-told ls p T t line phases.Sent l e k h = looking-told ls p T t line l e h
phase-told ls p T t line phases.HeldAnswer l e k h = record {
  going = record { no_code = h.going.no_code; no_end = none-more (is_end_of t) T l h.going.no_end e };
  passed = h.passed;
  last = h.last;
  is_last = h.is_last;
  of_line = h.of_line;
  waits = h.waits;
  unposted = none-more (is_post_of t line) T l h.unposted (k refl);
}
phase-told ls p T t line (phases.HeldLine r) l e k h = record {
  going = record { no_code = h.going.no_code; no_end = none-more (is_end_of t) T l h.going.no_end e };
  free = h.free;
  begun = h.begun;
  at = h.at;
  passed = h.passed;
}
phase-told ls p T t line (phases.Ending c) l e k h = record {
  no_end = none-more (is_end_of t) T l h.no_end e;
  code = h.code;
  free = h.free;
  all_lines = h.all_lines;
}
phase-told ls p T t line phases.Ended l e k h = h

due-told : (ls : List Meaning) (E : List HistEntry) (T : List ToldLine) (t : TaskId) (k : ℕ) (l : ToldLine)
    → is_post_of t k l ≡ false → IsDue ls E T t k → IsDue ls E (T ++ l ∷ []) t k
due-told ls E T t k l e h = record {
  ecb = h.ecb;
  coded = any-more (is_code_of t k) T l h.coded;
  unposted = none-more (is_post_of t k) T l h.unposted e;
}

-- a line that posts no record of the task leaves what holds of its records
pub recs-told :
    (ls : List Meaning) (E : List HistEntry) (T : List ToldLine) (owns leaving : Res → Bool) (t : TaskId) (line : ℕ)
    (ph : Phase) (l : ToldLine) (xs : List Rec)
    →
    ((k : ℕ) → is_post_of t k l ≡ false) → Each (IsRec ls E T owns leaving t line ph) xs
    → Each (IsRec ls E (T ++ l ∷ []) owns leaving t line ph) xs
recs-told ls E T owns leaving t line ph l xs e =
    each-kept (IsRec ls E T owns leaving t line ph) (IsRec ls E (T ++ l ∷ []) owns leaving t line ph)
    xs (λ x among h. record {
      entry = h.entry;
      latest = h.latest;
      low = h.low;
      high = h.high;
      known = h.known;
      control = λ c stays. any-more (tells_control t ls E x.res) T l (h.control c stays);
      due = λ u. still x (h.due u);
    })
  where
    still : (x : Rec) → WaitsFor ls E T t line ph x → WaitsFor ls E (T ++ l ∷ []) t line ph x
    still x (inl a) = inl a
    still x (inr d) = inr (due-told ls E T t x.line l (e x.line) d)

-- a line told to another task leaves what holds of a task
pub task-told :
    (ls : List Meaning) (p : Past) (T : List ToldLine) (leaving : Res → Bool) (t : TaskId) (x : TaskState)
    (l : ToldLine)
    → is_told_to t l ≡ false → IsTask ls p T leaving t x → IsTask ls p (T ++ l ∷ []) leaving t x
task-told ls p T leaving t x l apart h = record {
  keys = h.keys;
  owned = h.owned;
  distinct = h.distinct;
  within = h.within;
  count = h.count;
  records =
      recs-told ls p.asked T p.owns leaving t x.line x.phase l x.records (λ k. other-post_of t k l apart) h.records;
  codes = all-more (is_code_before t _) T l h.codes (other-code_before t _ l apart);
  posts = all-more (is_post_before t _) T l h.posts (other-post_before t _ l apart);
  phase = phase-told ls p T t x.line x.phase l (other-end_of t l apart) (λ e. other-post_of t x.line l apart) h.phase;
  shown = h.shown;
  emptied = h.emptied;
}
