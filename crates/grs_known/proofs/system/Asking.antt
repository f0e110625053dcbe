-- A task whose request is outstanding is seen as one that hasn't asked yet.
use Rattle.std.proofs.Common.{◌≡◌, ◌<◌, ◌≤◌, ◌-◌, ◌+◌, ℕ, Bool, true, false, not, ◌||◌, List, [], ◌∷◌, map, length}
use Rattle.std.proofs.Common.{take, Option, Some, None, refl, ap, sym, ◌∙◌, subst, arith}
use Rattle.std.specs.Prelude.{slice_get, nat_le}
use Rattle.std.specs.List.{list_all}
use Rattle.std.proofs.lemmas.Bool.{cases_Bool}
use Rattle.grs_base.specs.Same.{same_res, same_task}
use Rattle.grs_base.specs.State.{is_systems}
use Rattle.grs_base.specs.declared.look.Filter.{Filter}
use Rattle.grs_base.specs.declared.resource.Res.{Res}
use Rattle.grs_base.specs.declared.resource.Row.{Row}
use Rattle.grs_base.specs.declared.resource.TaskId.{TaskId}
use Rattle.grs_base.proofs.SameLaws.{same_res-exact}
use Rattle.grs_legal.specs.Asks.{asks_of}
use Rattle.grs_legal.specs.declared.meaning.Display.{Display}
use Rattle.grs_legal.specs.declared.meaning.Meaning.{Meaning}
use Rattle.grs_legal.specs.declared.meaning.Meaning.TheVariants as lines
use Rattle.grs_wire.specs.declared.history.HistEntry.{HistEntry}
use Rattle.grs_wire.specs.declared.request.Req.{Req}
use Rattle.grs_wire.specs.declared.request.Want.{Want}
use Rattle.grs_wire.specs.declared.request.Want.TheVariants.{Enq, Deq, Release, Look}
use Rattle.grs_wire.specs.declared.told.ToldLine.{ToldLine}
use Rattle.task_state.specs.declared.state.Asked.{Asked}
use Rattle.task_state.specs.declared.state.Rec.{Rec}
use Rattle.task_state.specs.declared.state.Showing.{Showing}
use Rattle.task_state.specs.declared.state.Phase.{Phase}
use Rattle.task_state.specs.declared.state.Phase.TheVariants as phases
use Rattle.task_state.specs.declared.state.TaskState.{TaskState}
use Rattle.task_state.specs.View.{on_record, is_sent}
use Rattle.task_state.specs.Replies.{gives_up, is_leaving, is_held}
use Rattle.task_state.proofs.ViewLaws.{length-on_record}
use Rattle.grs_known.proofs.lists.Owners.{is_among}
use Rattle.grs_known.proofs.tasks.Invariant.{IsTask, is_unsent}
use Rattle.grs_known.specs.Items.{RunItem}
use Rattle.grs_known.specs.Past.{Past, may_leave}
use Rattle.grs_known.proofs.known.Following.{AsksLooks, asks-looks}
use Rattle.grs_known.proofs.known.Knows.{IsOutstanding, stays-asked}
use Rattle.grs_known.proofs.lists.Truths.{false_by, no_truth}
use Rattle.grs_known.proofs.system.Says.{askers}

-- the line at which a task is seen that has asked this at line n, and its phase
abbrev pub line_asked : Want → ℕ → ℕ
line_asked (Enq r c ret full) n = n - 1
line_asked (Deq r have) n = n - 1
line_asked (Release r) n = n
line_asked (Look first count f) n = n

abbrev pub phase_seen : Want → ℕ → Phase
phase_seen (Enq r c ret full) code = phases.Ready
phase_seen (Deq r have) code = phases.Ready
phase_seen (Release r) code = phases.Ending code
phase_seen (Look first count f) code = phases.ToSend

abbrev pub unasked_by : Option Asked → TaskState → TaskState
unasked_by None x = x
unasked_by (Some a) x = record x { line = line_asked a.req.want x.line; phase = phase_seen a.req.want x.code }

-- A task as it was before it asked what is outstanding. One that looks goes on looking.
abbrev pub unasked : TaskState → TaskState
unasked x = unasked_by x.outstanding x

pub unasked-told : (x : TaskState) (r : Res) (f : Rec → Rec)
    → unasked (record x { records = on_record r f x.records })
    ≡ record (unasked x) { records = on_record r f (unasked x).records }
unasked-told x r f = go x.outstanding
  where
    go : (o : Option Asked)
        → unasked_by o (record x { records = on_record r f x.records })
        ≡ record (unasked_by o x) { records = on_record r f (unasked_by o x).records }
    go None = refl
    go (Some a) = refl

pub records-unasked : (x : TaskState) → (unasked x).records ≡ x.records
records-unasked x = go x.outstanding
  where
    go : (o : Option Asked) → (unasked_by o x).records ≡ x.records
    go None = refl
    go (Some a) = refl

-- a task without an outstanding request: it neither waits to send nor has sent, and knows its end code
abbrev pub IsAtLines : Phase → ℕ → Type 0
IsAtLines phases.Ready code = Unit {0}
IsAtLines phases.ToSend code = ⊥
IsAtLines phases.Sent code = ⊥
IsAtLines phases.HeldAnswer code = Unit {0}
IsAtLines (phases.HeldLine r) code = Unit {0}
IsAtLines (phases.Ending c) code = code ≡ c
IsAtLines phases.Ended code = Unit {0}

-- what an outstanding request has to do with its task: it is what the last line means, or, of an ending task,
-- the release of its first resource on record; and it is for a resource of the whole complex. What looks have to do
-- with their line is `IsLooks`.
abbrev pub IsAskedFor : ℕ → List Meaning → ℕ → List Rec → Want → Option ℕ → Type 0
IsAskedFor limit ls n xs (Enq r c ret full) unit =
    (0 < n) × (slice_get ls (n - 1) ≡ Some (lines.Enq r c ret unit)) × (is_systems r ≡ true)
    × (full ≡ nat_le limit (length xs))
IsAskedFor limit ls n xs (Deq r have) unit =
    (0 < n) × (slice_get ls (n - 1) ≡ Some (lines.Deq r have)) × (is_systems r ≡ true)
IsAskedFor limit ls n xs (Release r) unit = (slice_get (map (λ y. y.res) xs) 0 ≡ Some r) × (is_systems r ≡ true)
IsAskedFor limit ls n xs (Look first count f) unit = Unit {0}

abbrev pub IsOpenBy : ℕ → List Meaning → TaskId → TaskState → Option Asked → Type 0
IsOpenBy limit ls t x None = IsAtLines x.phase x.code
IsOpenBy limit ls t x (Some a) =
    (a.req.task ≡ t) × (is_unsent x.phase ≡ true) × IsAskedFor limit ls x.line x.records a.req.want a.unit

-- a task's phase goes with its outstanding request
abbrev pub IsOpen : ℕ → List Meaning → TaskId → TaskState → Type 0
IsOpen limit ls t x = IsOpenBy limit ls t x x.outstanding

-- ---- looks
-- Looks are outstanding of the line of a task with these entries: at slices of the line's display, behind those at
-- which it looked, and with so many left behind them.
pub record AreLooks (ls : List Meaning) (E : List HistEntry) (line first count : ℕ) (f : Filter)
    (showing : Option Showing) :
    Type 0 where
  pub display : Display
  pub at : slice_get ls (line - 1) ≡ Some (lines.Shows display)
  pub left : ℕ
  pub is : showing ≡ Some (record { verb = display.verb; left = left })
  pub filter : f ≡ display.filter
  pub some : 0 < count
  pub from : display.first ≤ first
  pub to : first + count + left ≡ display.first + display.count
  pub all : length E + count + left ≡ length (asks_of (take line ls))

abbrev pub IsLooksBy : List Meaning → List HistEntry → ℕ → Want → Option Showing → Type 0
IsLooksBy ls E line (Enq r c ret full) showing = Unit {0}
IsLooksBy ls E line (Deq r have) showing = Unit {0}
IsLooksBy ls E line (Release r) showing = Unit {0}
IsLooksBy ls E line (Look first count f) showing = AreLooks ls E line first count f showing

abbrev pub IsLooks : List Meaning → List HistEntry → ℕ → Option Asked → Type 0
IsLooks ls E line None = Unit {0}
IsLooks ls E line (Some a) = IsLooksBy ls E line a.req.want a.showing

-- they are what the task asks next
pub looks-asked :
    (ls : List Meaning) (p : Past) (T : List ToldLine) (leaving : Res → Bool) (t : TaskId) (line code : ℕ)
    (xs : List Rec) (o : Option Asked) (ws : List Row)
    →
    IsTask ls p T leaving t
    (record { line = line; phase = phases.ToSend; code = code; records = xs; outstanding = o; rows = ws })
    → (first count : ℕ) (f : Filter) (showing : Option Showing) →
    AreLooks ls p.asked line first count f showing → AsksLooks ls p first count f
looks-asked ls p T leaving t line code xs o ws k first count f showing a =
    subst (AsksLooks ls p first count) (sym a.filter)
    (asks-looks ls p line a.display first count a.left k.phase.begun a.at k.phase.going.no_code k.phase.free
    k.phase.passed a.some a.from a.to a.all)

-- and they are so where only the first is asked for, and the others are left behind it
pub first-looks :
    (ls : List Meaning) (E : List HistEntry) (line first count : ℕ) (f : Filter) (showing : Option Showing)
    → (a : AreLooks ls E line first count f showing) →
    AreLooks ls E line first 1 f (Some (record { verb = a.display.verb; left = a.left + (count - 1) }))
first-looks ls E line first count f showing a = record {
  display = a.display;
  at = a.at;
  left = a.left + (count - 1);
  is = refl;
  filter = a.filter;
  some = omega arith;
  from = a.from;
  to = omega (arith, a.some, a.to);
  all = omega (arith, a.some, a.all);
}

-- ---- control is told
same-res : (r : Res) (xs : List Rec)
    → map (λ (y : Rec). y.res) (on_record r (λ z. record z { told = true }) xs) ≡ map (λ (y : Rec). y.res) xs
same-res r [] = refl
same-res r (x ∷ xs) = grind (arith, same-res r xs)

pub open-told : (limit : ℕ) (ls : List Meaning) (t : TaskId) (r : Res) (x : TaskState) → IsOpen limit ls t x
    → IsOpen limit ls t (record x { records = on_record r (λ z. record z { told = true }) x.records })
open-told limit ls t r x h = go x.outstanding h
  where
    by_want : (n : ℕ) (xs : List Rec) (w : Want) (unit : Option ℕ) → IsAskedFor limit ls n xs w unit
        → IsAskedFor limit ls n (on_record r (λ z. record z { told = true }) xs) w unit
    by_want n xs (Enq q c ret full) unit
        k = (k.0, k.1, k.2, k.3 ∙ ap (nat_le limit) (sym (length-on_record r (λ z. record z { told = true }) xs)))
    by_want n xs (Deq q have) unit k = k
    by_want n xs (Release q) unit k = (ap (λ zs. slice_get zs 0) (same-res r xs) ∙ k.0, k.1)
    by_want n xs (Look first count f) unit k = k

    go : (o : Option Asked) → IsOpenBy limit ls t x o
        → IsOpenBy limit ls t (record x { records = on_record r (λ z. record z { told = true }) x.records }) o
    go None k = k
    go (Some a) k = (k.0, k.1, by_want x.line x.records a.req.want a.unit k.2)

-- a task that is held has no outstanding request
pub held-none : (limit : ℕ) (ls : List Meaning) (t : TaskId) (x : TaskState) → IsOpen limit ls t x
    → is_unsent x.phase ≡ false → x.outstanding ≡ None
held-none limit ls t x h e = go x.outstanding h
  where
    go : (o : Option Asked) → IsOpenBy limit ls t x o → o ≡ None
    go None k = refl
    go (Some a) k = let f : false ≡ true = sym e ∙ k.1 in absurd (cc)

-- a task with a request is seen as one that isn't held
pub unheld : (limit : ℕ) (ls : List Meaning) (t : TaskId) (x : TaskState) → IsOpen limit ls t x
    → is_held (unasked x).phase ≡ true → x.outstanding ≡ None
unheld limit ls t x h e = go x.outstanding h e
  where
    asks : (w : Want) (code : ℕ) → is_held (phase_seen w code) ≡ false
    asks (Enq r c ret full) code = refl
    asks (Deq r have) code = refl
    asks (Release r) code = refl
    asks (Look first count f) code = refl

    go : (o : Option Asked) → IsOpenBy limit ls t x o → is_held (unasked_by o x).phase ≡ true → o ≡ None
    go None k f = refl
    go (Some a) k f = let g : false ≡ true = sym (asks a.req.want x.code) ∙ f in absurd (cc)

-- what waits for the message is for a resource of the whole complex, so it leaves others
pub stays-open : (limit : ℕ) (ls : List Meaning) (t : TaskId) (x : TaskState) (r : Res) (i : Option RunItem)
    → IsOpen limit ls t x → IsOutstanding x.outstanding i → is_systems r ≡ false → may_leave r i ≡ false
stays-open limit ls t x r i h out narrow = stays-asked r x.outstanding i out (go x.outstanding h)
  where
    apart : (q : Res) → is_systems q ≡ true → same_res r q ≡ false
    apart q wide =
        false_by (same_res r q)
        (λ e. no_truth (is_systems q) wide (subst (λ z. is_systems z ≡ false) (same_res-exact r q e) narrow))

    by_want : (n : ℕ) (xs : List Rec) (w : Want) (unit : Option ℕ) → IsAskedFor limit ls n xs w unit
        → gives_up r w ≡ false
    by_want n xs (Enq q c ret full) unit k = refl
    by_want n xs (Deq q have) unit k = apart q k.2
    by_want n xs (Release q) unit k = apart q k.1
    by_want n xs (Look first count f) unit k = refl

    go : (o : Option Asked) → IsOpenBy limit ls t x o → is_leaving r o ≡ false
    go None k = refl
    go (Some a) k = by_want x.line x.records a.req.want a.unit k.2

pub unasked-none : (x : TaskState) → x.outstanding ≡ None → unasked x ≡ x
unasked-none x e = ap (λ o. unasked_by o x) e

-- What is open at a system: the items of the message that it has still to process, and the requests of its tasks, those
-- that were sent, and all.
pub record Opens : Type 0 where
  pub later : List RunItem
  pub out : List Req
  pub all : List Req

-- a request is the outstanding one
abbrev pub IsReq : Req → Option Asked → Type 0
IsReq q None = ⊥
IsReq q (Some a) = a.req ≡ q

-- each open request of the task is its outstanding one
abbrev pub IsAskedBy : TaskId → Option Asked → List Req → Type 0
IsAskedBy t o [] = Unit {0}
IsAskedBy t o (q ∷ qs) = (same_task t q.task ≡ true → IsReq q o) × IsAskedBy t o qs

pub asked-none : (t : TaskId) (qs : List Req) → IsAskedBy t None qs → is_among t (askers qs) ≡ false
asked-none t [] h = refl
asked-none t (q ∷ qs) h = go (same_task t q.task) refl (asked-none t qs h.1)
  where
    go : (b : Bool) → same_task t q.task ≡ b → is_among t (askers qs) ≡ false → (b || is_among t (askers qs)) ≡ false
    go true e more = absurd (h.0 e)
    go false e more = more

pub asked-absent : (t : TaskId) (o : Option Asked) (qs : List Req) → is_among t (askers qs) ≡ false → IsAskedBy t o qs
asked-absent t o [] h = tt
asked-absent t o (q ∷ qs)
    h = (λ e. absurd (grind (arith, h, e)), asked-absent t o qs (grind (arith, h, cases_Bool (same_task t q.task))))

-- a task whose request was sent is so
abbrev pub are_sent : TaskId → Phase → List Req → Bool
are_sent t p qs = list_all (λ q. not (same_task t q.task) || is_sent p) qs

pub sent-kept : (t : TaskId) (p p' : Phase) (qs : List Req) → (is_sent p ≡ true → is_sent p' ≡ true)
    → are_sent t p qs ≡ true → are_sent t p' qs ≡ true
sent-kept t p p' [] k h = refl
sent-kept t p p' (q ∷ qs) k h = grind (arith, h, k, sent-kept t p p' qs k, cases_Bool (same_task t q.task))

pub sent-absent : (t : TaskId) (p : Phase) (qs : List Req) → is_among t (askers qs) ≡ false → are_sent t p qs ≡ true
sent-absent t p [] h = refl
sent-absent t p (q ∷ qs) h = grind (arith, h, sent-absent t p qs, cases_Bool (same_task t q.task))

-- the same task, whatever its outstanding request
pub task-open :
    (ls : List Meaning) (p : Past) (T : List ToldLine) (leaving : Res → Bool) (t : TaskId) (x : TaskState)
    (o : Option Asked)
    → IsTask ls p T leaving t x → IsTask ls p T leaving t (record x { outstanding = o })
task-open ls p T leaving t x o k = record {
  keys = k.keys;
  owned = k.owned;
  distinct = k.distinct;
  within = k.within;
  count = k.count;
  records = k.records;
  codes = k.codes;
  posts = k.posts;
  phase = k.phase;
  shown = k.shown;
  emptied = k.emptied;
}
