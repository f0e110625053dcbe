-- A task is up to date with what its system knows, whatever the other systems and the medium do: each of its lines that
-- is answered has its code line, and who is held at a WAIT line has still to be told control. This needs nothing of the
-- run.
use Rattle.std.proofs.Common.{◌≡◌, ◌≢◌, ◌<◌, ◌≤◌, ◌-◌, ℕ, Bool, true, false, cond, ◌&&◌, List, [], ◌∷◌, ◌++◌, Option}
use Rattle.std.proofs.Common.{Some, None, refl, ap, sym, subst, arith}
use Rattle.std.specs.Prelude.{◌==◌, slice_get}
use Rattle.std.specs.List.{list_any}
use Rattle.std.proofs.lemmas.Bool.{and_from, eq-eqb, eqb-true, eqb-false}
use Rattle.grs_wire.specs.Wants.{is_for_all}
use Rattle.grs_base.specs.declared.resource.Res.{Res}
use Rattle.grs_base.specs.declared.resource.TaskId.{TaskId}
use Rattle.grs_base.specs.declared.decision.Code.TheVariants.{C00}
use Rattle.grs_legal.specs.declared.meaning.Meaning.{Meaning}
use Rattle.grs_legal.specs.declared.meaning.Meaning.TheVariants as lines
use Rattle.grs_wire.specs.declared.request.Want.{Want}
use Rattle.grs_wire.specs.declared.request.Want.TheVariants.{Enq, Deq, Release, Look}
use Rattle.grs_wire.specs.declared.told.Verb.TheVariants as verbs
use Rattle.grs_wire.specs.declared.told.ToldLine.{ToldLine}
use Rattle.grs_wire.specs.declared.told.ToldLine.TheVariants.{Coded, Shown, Post, Ended, Desk}
use Rattle.task_state.specs.Replies.{is_held, is_held_for, is_leaving}
use Rattle.task_state.specs.View.{on_record}
use Rattle.task_state.specs.declared.state.Asked.{Asked}
use Rattle.task_state.specs.declared.state.Phase.{Phase}
use Rattle.task_state.specs.declared.state.Phase.TheVariants as phases
use Rattle.task_state.specs.declared.state.Rec.{Rec}
use Rattle.task_state.specs.declared.state.Showing.{Showing}
use Rattle.task_state.specs.declared.state.TaskState.{TaskState}
use Rattle.grs_known.proofs.lists.Facts.{any-more, any-last}
use Rattle.grs_known.proofs.lists.Truths.{no_truth}
use Rattle.grs_known.proofs.tasks.Invariant.{Each, is_unsent}
use Rattle.grs_known.specs.Passed.{has_ended}
use Rattle.grs_known.proofs.records.Control.{Hears, none, given, coded, posted, passed, told_rec, is_unmarked}
use Rattle.grs_known.proofs.records.Control.{unmarked-still, each-marks}
use Rattle.grs_known.specs.Passed.{has_code, is_at_line, lines_passed, passed_by}

-- ---- what is told and asked
-- whether two tasks are at the same place of the same system, as a system tells its tasks apart
abbrev pub is_placed : TaskId → TaskId → Bool
is_placed t u = (t.system.0 == u.system.0) && (t.task == u.task)

-- whether a line tells the code of a line of the task at this place
abbrev pub is_code_at : TaskId → ℕ → ToldLine → Bool
is_code_at t k (Coded u j part verb code) = is_placed t u && (j == k)
is_code_at t k (Shown u j verb code rows) = is_placed t u && (j == k)
is_code_at t k (Post u j) = false
is_code_at t k (Ended u code) = false
is_code_at t k (Desk j said) = false

-- whether a line tells the end of the task at this place
abbrev pub is_end_at : TaskId → ToldLine → Bool
is_end_at t (Coded u j part verb code) = false
is_end_at t (Shown u j verb code rows) = false
is_end_at t (Post u j) = false
is_end_at t (Ended u code) = is_placed t u
is_end_at t (Desk j said) = false

-- the unit that a line reserves
abbrev pub unit_of : Option Meaning → Option ℕ
unit_of None = None
unit_of (Some (lines.Enq r c ret unit)) = unit
unit_of (Some (lines.Deq r have)) = None
unit_of (Some (lines.Wait r)) = None
unit_of (Some (lines.Shows d)) = None
unit_of (Some lines.Nothing) = None

-- what is left of a line behind its looks that are outstanding: nothing, where its looks go as a whole
abbrev pub IsLeft : Bool → Option Showing → Type 0
IsLeft whole None = ⊥
IsLeft whole (Some s) = whole ≡ true → s.left ≡ 0

-- An outstanding request is for a resource of the whole complex, and reserves the unit of its line; or it is looks of a
-- line that shows lists.
abbrev pub IsWanted : Bool → List Meaning → ℕ → Want → Option ℕ → Option Showing → Type 0
IsWanted whole ls n (Enq r c ret full) unit showing =
    (0 < n) × ((unit ≡ unit_of (slice_get ls (n - 1))) × (is_for_all (Some r) ≡ true))
IsWanted whole ls n (Deq r have) unit showing = (0 < n) × (is_for_all (Some r) ≡ true)
IsWanted whole ls n (Release r) unit showing = is_for_all (Some r) ≡ true
IsWanted whole ls n (Look first count f) unit showing = (0 < n) × IsLeft whole showing

abbrev pub IsWantedBy : Bool → List Meaning → ℕ → Option Asked → Type 0
IsWantedBy whole ls n None = Unit {0}
IsWantedBy whole ls n (Some a) = IsWanted whole ls n a.req.want a.unit a.showing

-- who is held at a WAIT line has a record there that isn't marked
abbrev pub is_kept : Phase → List Rec → Bool
is_kept (phases.HeldLine r) xs = is_unmarked r xs
is_kept phases.HeldAnswer xs = true
is_kept phases.ToSend xs = true
is_kept phases.Sent xs = true
is_kept phases.Ready xs = true
is_kept (phases.Ending c) xs = true
is_kept phases.Ended xs = true

-- each line up to this one that is answered by a code has its code line
abbrev pub AreCoded : List Meaning → List ToldLine → TaskId → ℕ → Type 0
AreCoded ls T t n =
    (k : ℕ) → 0 < k → k ≤ n → has_code (slice_get ls (k - 1)) ≡ true → list_any (is_code_at t k) T ≡ true

-- a record reserves the unit of its line
abbrev pub HasUnit : List Meaning → Rec → Type 0
HasUnit ls y = y.unit ≡ unit_of (slice_get ls (y.line - 1))

-- Task t of these lines stands as x, where these lines were told. Looks of a line may go as a whole, as they do in ring
-- mode.
pub record IsUpToDate (whole : Bool) (ls : List Meaning) (T : List ToldLine) (t : TaskId) (x : TaskState) :
    Type 0 where
  -- only who waits to send, or has sent, has a request outstanding
  pub closed : is_unsent x.phase ≡ false → x.outstanding ≡ None
  pub wanted : IsWantedBy whole ls x.line x.outstanding
  pub held : is_kept x.phase x.records ≡ true
  pub coded : AreCoded ls T t (lines_passed x)
  pub units : Each (HasUnit ls) x.records
  pub ended : has_ended x.phase ≡ true → list_any (is_end_at t) T ≡ true

-- ---- more is told
pub more-told : (whole : Bool) (ls : List Meaning) (T U : List ToldLine) (t : TaskId) (x : TaskState)
    → ((p : ToldLine → Bool) → list_any p T ≡ true → list_any p U ≡ true) → IsUpToDate whole ls T t x
    → IsUpToDate whole ls U t x
more-told whole ls T U t x grows h = record {
  closed = h.closed;
  wanted = h.wanted;
  held = h.held;
  coded = λ k low in_it asks. grows (is_code_at t k) (h.coded k low in_it asks);
  units = h.units;
  ended = λ e. grows (is_end_at t) (h.ended e);
}

pub any-left : (whole : Bool) (o : Option Showing) → IsLeft whole o → IsLeft false o
any-left whole None k = k
any-left whole (Some s) k = λ e. absurd (cc)

pub any-wanted : (whole : Bool) (ls : List Meaning) (n : ℕ) (w : Want) (unit : Option ℕ) (showing : Option Showing)
    → IsWanted whole ls n w unit showing → IsWanted false ls n w unit showing
any-wanted whole ls n (Enq r c ret full) unit showing k = k
any-wanted whole ls n (Deq r have) unit showing k = k
any-wanted whole ls n (Release r) unit showing k = k
any-wanted whole ls n (Look first count f) unit showing k = (k.0, any-left whole showing k.1)

-- its looks may go one by one
pub any-date : (whole : Bool) (ls : List Meaning) (T : List ToldLine) (t : TaskId) (x : TaskState)
    → IsUpToDate whole ls T t x → IsUpToDate false ls T t x
any-date whole ls T t x h = record {
  closed = h.closed;
  wanted = go x.outstanding h.wanted;
  held = h.held;
  coded = h.coded;
  units = h.units;
  ended = h.ended;
}
  where
    go : (o : Option Asked) → IsWantedBy whole ls x.line o → IsWantedBy false ls x.line o
    go None k = tt
    go (Some a) k = any-wanted whole ls x.line a.req.want a.unit a.showing k

-- ---- control is told
units-marks : (ls : List Meaning) (r : Res) (xs : List Rec) → Each (HasUnit ls) xs
    → Each (HasUnit ls) (on_record r told_rec xs)
units-marks ls r xs h = each-marks (HasUnit ls) (λ z k. k) r xs h

-- an unheld task has no record to keep
kept-free : (p : Phase) (xs ys : List Rec) → is_unsent p ≡ true → is_kept p xs ≡ true → is_kept p ys ≡ true
kept-free phases.ToSend xs ys e h = refl
kept-free phases.Sent xs ys e h = refl
kept-free phases.Ready xs ys e h = refl
kept-free phases.HeldAnswer xs ys e h = refl
kept-free (phases.HeldLine r) xs ys e h = absurd (cc)
kept-free (phases.Ending c) xs ys e h = refl
kept-free phases.Ended xs ys e h = refl

kept-marks : (p : Phase) (r : Res) (xs : List Rec) → is_held_for r p ≡ false → is_kept p xs ≡ true
    → is_kept p (on_record r told_rec xs) ≡ true
kept-marks (phases.HeldLine q) r xs apart h = unmarked-still q r xs apart h
kept-marks phases.HeldAnswer r xs apart h = refl
kept-marks phases.ToSend r xs apart h = refl
kept-marks phases.Sent r xs apart h = refl
kept-marks phases.Ready r xs apart h = refl
kept-marks (phases.Ending c) r xs apart h = refl
kept-marks phases.Ended r xs apart h = refl

held-unsent : (p : Phase) → is_held p ≡ true → (is_unsent p ≡ false) × (is_at_line p ≡ true)
held-unsent phases.HeldAnswer e = (refl, refl)
held-unsent phases.Ready e = absurd (cc)
held-unsent phases.ToSend e = absurd (cc)
held-unsent phases.Sent e = absurd (cc)
held-unsent (phases.HeldLine q) e = absurd (cc)
held-unsent (phases.Ending c) e = absurd (cc)
held-unsent phases.Ended e = absurd (cc)

held_for-unsent : (r : Res) (p : Phase) → is_held_for r p ≡ true → (is_unsent p ≡ false) × (is_at_line p ≡ true)
held_for-unsent r (phases.HeldLine q) e = (refl, refl)
held_for-unsent r phases.HeldAnswer e = absurd (cc)
held_for-unsent r phases.Ready e = absurd (cc)
held_for-unsent r phases.ToSend e = absurd (cc)
held_for-unsent r phases.Sent e = absurd (cc)
held_for-unsent r (phases.Ending c) e = absurd (cc)
held_for-unsent r phases.Ended e = absurd (cc)

-- lines up to one that is held, and it
pub coded-next : (ls : List Meaning) (T : List ToldLine) (t : TaskId) (n : ℕ) (l : ToldLine) → AreCoded ls T t (n - 1)
    → is_code_at t n l ≡ true → AreCoded ls (T ++ l ∷ []) t n
coded-next ls T t n l h is k low in_it asks = go (k == n) refl
  where
    go : (b : Bool) → (k == n) ≡ b → list_any (is_code_at t k) (T ++ l ∷ []) ≡ true
    go true e = any-last (is_code_at t k) T l (subst (λ i. is_code_at t i l ≡ true) (sym (eqb-true k n e)) is)
    go false e =
        let ne : k ≢ n = eqb-false k n e in any-more (is_code_at t k) T l (h k low (omega (arith, in_it, ne)) asks)

placed-itself : (t u : TaskId) → is_placed t u ≡ true → (n : ℕ) → is_code_at t n (Coded u n 0 verbs.Enq C00) ≡ true
placed-itself t u e n = and_from (is_placed t u) (n == n) e (eq-eqb n n refl)

-- Control of a resource is told to a task at its place.
pub hears-date :
    (whole : Bool) (ls : List Meaning) (t u : TaskId) (r : Res) (x : TaskState) (T : List ToldLine) (y : TaskState)
    (U : List ToldLine)
    → is_placed t u ≡ true → Hears u r x T y U → IsUpToDate whole ls T t x → IsUpToDate whole ls U t y
hears-date whole ls t u r x T y U place (none m) h = h
hears-date whole ls t u r x T y U place (given l) h = record {
  closed = h.closed;
  wanted = h.wanted;
  held = go (is_unsent x.phase) refl;
  coded = h.coded;
  units = units-marks ls r x.records h.units;
  ended = h.ended;
}
  where
    go : (b : Bool) → is_unsent x.phase ≡ b → is_kept x.phase (on_record r told_rec x.records) ≡ true
    go true e = kept-free x.phase x.records (on_record r told_rec x.records) e h.held
    go false e = no_truth (is_leaving r x.outstanding) l (ap (is_leaving r) (h.closed e))
hears-date whole ls t u r x T y U place (coded a) h =
    let free = held-unsent x.phase a in
    let closed : x.outstanding ≡ None = h.closed free.0 in
    record {
      closed = λ e. closed;
      wanted = h.wanted;
      held = refl;
      coded =
          subst (λ o. AreCoded ls (T ++ Coded u x.line 0 verbs.Enq C00 ∷ []) t (passed_by o phases.Ready x.line))
          (sym closed)
          (coded-next ls T t x.line (Coded u x.line 0 verbs.Enq C00)
          (subst (λ b. AreCoded ls T t (cond b (x.line - 1) x.line)) free.1
          (subst (λ o. AreCoded ls T t (passed_by o x.phase x.line)) closed h.coded))
          (placed-itself t u place x.line));
      units = units-marks ls r x.records h.units;
      ended = λ e. absurd (cc);
    }
hears-date whole ls t u r x T y U place (posted k a) h = record {
  closed = h.closed;
  wanted = h.wanted;
  held = kept-marks x.phase r x.records a h.held;
  coded = λ j low in_it asks. any-more (is_code_at t j) T _ (h.coded j low in_it asks);
  units = units-marks ls r x.records h.units;
  ended = λ e. any-more (is_end_at t) T _ (h.ended e);
}
hears-date whole ls t u r x T y U place (passed k a) h =
    let free = held_for-unsent r x.phase a in
    let closed : x.outstanding ≡ None = h.closed free.0 in
    let before : AreCoded ls T t (x.line - 1) =
    subst (λ b. AreCoded ls T t (cond b (x.line - 1) x.line)) free.1
    (subst (λ o. AreCoded ls T t (passed_by o x.phase x.line)) closed h.coded) in
    record {
      closed = λ e. closed;
      wanted = h.wanted;
      held = refl;
      coded =
          subst (λ o.
          AreCoded ls ((T ++ Post u k ∷ []) ++ Coded u x.line 0 verbs.Wait C00 ∷ []) t
          (passed_by o phases.Ready x.line))
          (sym closed)
          (coded-next ls (T ++ Post u k ∷ []) t x.line (Coded u x.line 0 verbs.Wait C00)
          (λ j low in_it asks. any-more (is_code_at t j) T _ (before j low in_it asks))
          (placed-itself t u place x.line));
      units = units-marks ls r x.records h.units;
      ended = λ e. absurd (cc);
    }
