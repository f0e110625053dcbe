-- What is read stays within the limits.
use Rattle.std.proofs.Common.{◌≡◌, ℕ, zero, suc, ◌+◌, ◌≤◌, Bool, true, false, cond, leb, List, [], ◌∷◌, ◌++◌, length}
use Rattle.std.proofs.Common.{Option, Some, None, Result, Ok, Err, refl, sym, ap, subst, arith, length-append}
use Rattle.std.specs.Prelude.{All}
use Rattle.std.proofs.lemmas.Bool.{leb-false}
use Rattle.std.proofs.lemmas.List.Elements.{All-push}
use Rattle.rnl_syntax.specs.Operands.{entry_of}
use Rattle.grs_base.specs.declared.fault.Kind.{Kind}
use Rattle.grs_base.specs.declared.fault.Kind.TheVariants.{NameLength, Repeated, OutOfPlace, TooMany, UnknownName}
use Rattle.grs_base.specs.Rnl.{RnlView}
use Rattle.grs_base.specs.declared.rnl.Which.{Which}
use Rattle.grs_base.specs.declared.rnl.Which.TheVariants.{Incl, Excl, Con}
use Rattle.grs_base.specs.declared.rnl.RnlEntry.{RnlEntry}
use Rattle.grs_base.specs.declared.rnl.Lists.{Lists}
use Rattle.grs_base.specs.declared.line.Line.{Line}
use Rattle.grs_base.specs.NameLists.{IsListOf, AreLists}
use Rattle.grs_wire.specs.declared.deck.Desk.{Desk}
use Rattle.grs_wire.specs.declared.deck.Order.{Order}
use Rattle.grs_wire.specs.declared.deck.TaskDef.{TaskDef}
use Rattle.grs_wire.specs.declared.deck.JobDef.{JobDef}
use Rattle.grs_wire.specs.declared.deck.SystemDef.{SystemDef}
use Rattle.grs_wire.specs.declared.deck.Event.{Event}
use Rattle.grs_wire.specs.declared.deck.Deck.{Deck}
use Rattle.grs_wire.specs.Decks.{task_count, IsWithin, Fits}
use Rattle.deck_scan.specs.declared.token.TokenLine.{TokenLine}
use Rattle.deck_form.specs.declared.form.Stmt.{Stmt}
use Rattle.deck_form.specs.declared.form.Stmt.TheVariants as stmts
use Rattle.deck_form.specs.Form.{form}
use Rattle.grs_deck.specs.declared.judge.Draft.{Draft}
use Rattle.grs_deck.specs.Places.{at_last, desk_now, jobs_now, place_ordered, event_of}
use Rattle.grs_deck.specs.Judge.{has_bad_name, is_repeated, is_misplaced, is_list_full, is_full, is_unknown, verdict}
use Rattle.grs_deck.specs.Grow.{on_last, add_command, add_order, add_job, add_task, add_line, in_jobs, in_tasks}
use Rattle.grs_deck.specs.Grow.{order_by, add_entry, in_list, with_event, grow}
use Rattle.grs_deck.specs.Reading.{unless, judge_form, judge}
use Rattle.grs_deck.proofs.PlacesLaws.{all_head, all_tail}

-- ---- a statement without a fault

pub record NoFault (a b c d e : Bool) : Type 0 where
  pub long : a ≡ false
  pub repeated : b ≡ false
  pub misplaced : c ≡ false
  pub full : d ≡ false
  pub unknown : e ≡ false

pub no_fault : (a b c d e : Bool)
    → cond a (Some NameLength)
    (cond b (Some Repeated) (cond c (Some OutOfPlace) (cond d (Some TooMany) (cond e (Some UnknownName) None))))
    ≡ None
    → NoFault a b c d e
no_fault true b c d e h = absurd cc
no_fault false true c d e h = absurd cc
no_fault false false true d e h = absurd cc
no_fault false false false true e h = absurd cc
no_fault false false false false true h = absurd cc
no_fault false false false false false
    h = record { long = refl; repeated = refl; misplaced = refl; full = refl; unknown = refl }

pub tests_of : (d : Draft) (st : Stmt) → verdict d st ≡ None
    → NoFault (has_bad_name st) (is_repeated d st) (is_misplaced d st) (is_full d st) (is_unknown d st)
tests_of d st h = no_fault (has_bad_name st) (is_repeated d st) (is_misplaced d st) (is_full d st) (is_unknown d st) h

-- ---- each system of a list, as a pair of the first and the others

abbrev Each : List SystemDef → Type 0
Each [] = Unit {0}
Each (s ∷ ss) = IsWithin s × Each ss

all_each : (ss : List SystemDef) → All IsWithin ss → Each ss
all_each [] h = tt
all_each (s ∷ ss) h = (all_head s ss h, all_each ss (all_tail s ss h))

each_all : (ss : List SystemDef) → Each ss → All IsWithin ss
each_all [] h k d lt = absurd (omega (arith, lt))
each_all (s ∷ ss) h zero d lt = h.0
each_all (s ∷ ss) h (suc k) d lt = each_all ss h.1 k d (omega (arith, lt))

each_push : (ss : List SystemDef) (s : SystemDef) → Each ss → IsWithin s → Each (ss ++ s ∷ [])
each_push [] s h w = (w, tt)
each_push (x ∷ ss) s h w = (h.0, each_push ss s h.1 w)

each_last : {A : Type 0} (v : SystemDef → List A) (f : SystemDef → SystemDef) (ss : List SystemDef) → Each ss
    → ((s : SystemDef) → IsWithin s → at_last v ss ≡ v s → IsWithin (f s)) → Each (on_last f ss)
each_last v f [] h g = tt
each_last v f (s ∷ []) h g = (g s h.0 refl, tt)
each_last v f (s ∷ t ∷ ss) h g = (h.0, each_last v f (t ∷ ss) h.1 g)

length-on_last : {A : Type 0} (f : A → A) (xs : List A) → length (on_last f xs) ≡ length xs
length-on_last f [] = refl
length-on_last f (x ∷ []) = refl
length-on_last f (x ∷ y ∷ ys) = let k = length-on_last f (y ∷ ys) in omega (arith, k)

-- ---- how many tasks jobs have

task_count-append : (js ks : List JobDef) → task_count (js ++ ks) ≡ task_count js + task_count ks
task_count-append [] ks = omega arith
task_count-append (j ∷ js) ks = let k = task_count-append js ks in omega (arith, k)

task_count-add : (name : List ℕ) (js : List JobDef) → task_count (add_task name js) ≤ suc (task_count js)
task_count-add name [] = omega arith
task_count-add name (j ∷ []) = omega (arith, length-append j.tasks (record { name = name; lines = [] } ∷ []))
task_count-add name (j ∷ k ∷ js) = let h = task_count-add name (k ∷ js) in omega (arith, h)

task_count-line : (line : Line) (js : List JobDef) → task_count (in_tasks (add_line line) js) ≡ task_count js
task_count-line line [] = refl
task_count-line line (j ∷ []) =
    let k = length-on_last (λ (t : TaskDef). record { name = t.name; lines = t.lines ++ line ∷ [] }) j.tasks in
    omega (arith, k)
task_count-line line (j ∷ k ∷ js) = let h = task_count-line line (k ∷ js) in omega (arith, h)

-- ---- what each statement adds

below : (n m : ℕ) → leb n m ≡ false → suc m ≤ n
below n m h = let k = leb-false n m h in omega (arith, k)

fits_system : (ss : List SystemDef) (name : List ℕ) → Fits ss → suc (length ss) ≤ 8
    → Fits (ss ++ record { name = name; desk = []; jobs = [] } ∷ [])
fits_system ss name h lt =
    let s : SystemDef = record { name = name; desk = []; jobs = [] } in
    let new : IsWithin s = record { desk = omega arith; jobs = omega arith; tasks = omega arith } in
    record {
      few = omega (arith, length-append ss (s ∷ []), lt);
      each = each_all (ss ++ s ∷ []) (each_push ss s (all_each ss h.each) new);
    }

fits_command : (ss : List SystemDef) (c : Desk) → Fits ss → suc (length (desk_now ss)) ≤ 64 → Fits (add_command c ss)
fits_command ss c h lt = record {
  few = rw (length-on_last _ ss) h.few;
  each = each_all (add_command c ss) (each_last (λ s. s.desk) _ ss (all_each ss h.each) one);
}
  where
    one : (s : SystemDef) → IsWithin s → desk_now ss ≡ s.desk → IsWithin (record s { desk = s.desk ++ c ∷ [] })
    one s w e =
        let long : length (desk_now ss) ≡ length s.desk = ap length e in
        record { desk = omega (arith, length-append s.desk (c ∷ []), long, lt); jobs = w.jobs; tasks = w.tasks }

fits_order : (ss : List SystemDef) (at : ℕ) (o : Option Order) → Fits ss → suc (length (desk_now ss)) ≤ 64
    → Fits (add_order at o ss)
fits_order ss at None h lt = h
fits_order ss at (Some o) h lt = fits_command ss _ h lt

fits_job : (ss : List SystemDef) (name : List ℕ) → Fits ss → suc (length (jobs_now ss)) ≤ 64 → Fits (add_job name ss)
fits_job ss name h lt = record {
  few = rw (length-on_last _ ss) h.few;
  each = each_all (add_job name ss) (each_last (λ s. s.jobs) _ ss (all_each ss h.each) one);
}
  where
    one : (s : SystemDef) → IsWithin s → jobs_now ss ≡ s.jobs
        → IsWithin (record s { jobs = s.jobs ++ record { name = name; tasks = [] } ∷ [] })
    one s w e =
        let j : JobDef = record { name = name; tasks = [] } in
        let long : length (jobs_now ss) ≡ length s.jobs = ap length e in
        record {
          desk = w.desk;
          jobs = omega (arith, length-append s.jobs (j ∷ []), long, lt);
          tasks = omega (arith, task_count-append s.jobs (j ∷ []), w.tasks);
        }

fits_task : (ss : List SystemDef) (name : List ℕ) → Fits ss → suc (task_count (jobs_now ss)) ≤ 64
    → Fits (in_jobs (add_task name) ss)
fits_task ss name h lt = record {
  few = rw (length-on_last _ ss) h.few;
  each = each_all (in_jobs (add_task name) ss) (each_last (λ s. s.jobs) _ ss (all_each ss h.each) one);
}
  where
    one : (s : SystemDef) → IsWithin s → jobs_now ss ≡ s.jobs → IsWithin (record s { jobs = add_task name s.jobs })
    one s w e =
        let count : task_count (jobs_now ss) ≡ task_count s.jobs = ap task_count e in
        record {
          desk = w.desk;
          jobs = rw (length-on_last _ s.jobs) w.jobs;
          tasks = omega (arith, task_count-add name s.jobs, count, lt);
        }

fits_line : (ss : List SystemDef) (line : Line) → Fits ss → Fits (in_jobs (in_tasks (add_line line)) ss)
fits_line ss line h = record {
  few = rw (length-on_last _ ss) h.few;
  each = each_all (in_jobs (in_tasks (add_line line)) ss) (each_last (λ s. s.jobs) _ ss (all_each ss h.each) one);
}
  where
    one : (s : SystemDef) → IsWithin s → jobs_now ss ≡ s.jobs
        → IsWithin (record s { jobs = in_tasks (add_line line) s.jobs })
    one s w e = record {
      desk = w.desk;
      jobs = rw (length-on_last _ s.jobs) w.jobs;
      tasks = rw (task_count-line line s.jobs) w.tasks;
    }

pub event_systems : (o : Option Event) (d : Deck) → (with_event o d).systems ≡ d.systems
event_systems None d = refl
event_systems (Some e) d = refl

pub fits_grow : (d : Draft) (st : Stmt) → is_full d st ≡ false → Fits d.deck.systems → Fits (grow d st).deck.systems
fits_grow d (stmts.Complex c) full h = h
fits_grow d (stmts.System n) full h = fits_system d.deck.systems n h (below 8 (length d.deck.systems) full)
fits_grow d (stmts.Job n) full h = fits_job d.deck.systems n h (below 64 (length (jobs_now d.deck.systems)) full)
fits_grow d (stmts.Task n) full h = fits_task d.deck.systems n h (below 64 (task_count (jobs_now d.deck.systems)) full)
fits_grow d (stmts.Rnldef r) full h = h
fits_grow d (stmts.Line s) full h = fits_line d.deck.systems _ h
fits_grow d (stmts.Command c) full h =
    fits_order d.deck.systems c.at (order_by (place_ordered d.names c.order) c.order) h
    (below 64 (length (desk_now d.deck.systems)) full)
fits_grow d stmts.Schedule full h = h
fits_grow d (stmts.Event s a) full h = subst Fits (sym (event_systems (event_of d.deck.systems s a) d.deck)) h

-- ---- name lists

list_more : (which : Which) (e : RnlEntry) (v : RnlView) → e.which ≡ which → leb 4096 (length v.entries) ≡ false
    → IsListOf which v → IsListOf which (add_entry e v)
list_more which e v own full h =
    let room = leb-false 4096 (length v.entries) full in
    record {
      which_is = h.which_is;
      few = omega (arith, length-append v.entries (e ∷ []), room);
      own = All-push (λ (x : RnlEntry). x.which ≡ which) v.entries e h.own own;
    }

lists_more : (which : Which) (e : RnlEntry) (lists : Lists) → e.which ≡ which → is_list_full lists which ≡ false
    → AreLists lists → AreLists (in_list which e lists)
lists_more Incl e lists own full
    h = record { incl = list_more Incl e lists.incl own full h.incl; excl = h.excl; con = h.con }
lists_more Excl e lists own full
    h = record { incl = h.incl; excl = list_more Excl e lists.excl own full h.excl; con = h.con }
lists_more Con e lists own full
    h = record { incl = h.incl; excl = h.excl; con = list_more Con e lists.con own full h.con }

event_lists : (o : Option Event) (d : Deck) → (with_event o d).lists ≡ d.lists
event_lists None d = refl
event_lists (Some e) d = refl

pub lists_grow : (d : Draft) (st : Stmt) → is_full d st ≡ false → AreLists d.deck.lists
    → AreLists (grow d st).deck.lists
lists_grow d (stmts.Complex c) full h = h
lists_grow d (stmts.Rnldef r) full h = lists_more r.which (entry_of r) d.deck.lists refl full h
lists_grow d (stmts.System n) full h = h
lists_grow d (stmts.Job n) full h = h
lists_grow d (stmts.Task n) full h = h
lists_grow d (stmts.Line s) full h = h
lists_grow d (stmts.Command c) full h = h
lists_grow d stmts.Schedule full h = h
lists_grow d (stmts.Event s a) full h = subst AreLists (sym (event_lists (event_of d.deck.systems s a) d.deck)) h

-- ---- lines

unless_none : (at : ℕ) (o : Option Kind) (d e : Draft) → unless at o d ≡ Ok e → (o ≡ None) × (d ≡ e)
unless_none at None d e h = (refl, cc)
unless_none at (Some k) d e h = absurd cc

-- a line that was taken is a statement without a fault
pub record Judged (d : Draft) (l : TokenLine) (e : Draft) : Type 0 where
  pub st : Stmt
  pub formed : form d.scheduled d.deck.entries l ≡ Ok st
  pub right : verdict d st ≡ None
  pub grown : grow d st ≡ e

pub judged : (d e : Draft) (l : TokenLine) → judge d l ≡ Ok e → Judged d l e
unfolding judge
judged d e l h = go (form d.scheduled d.deck.entries l) refl h
  where
    go : (r : Result Stmt Kind) → form d.scheduled d.deck.entries l ≡ r → judge_form d l.at r ≡ Ok e → Judged d l e
    go (Ok st) is k =
        let u = unless_none l.at (verdict d st) (grow d st) e k in
        record { st = st; formed = is; right = u.0; grown = u.1 }
    go (Err k) is m = absurd cc

-- a line keeps the limits
pub fits_judge : (d e : Draft) (l : TokenLine) → judge d l ≡ Ok e → Fits d.deck.systems → Fits e.deck.systems
fits_judge d e l h fits =
    let j = judged d e l h in
    let P : Draft → Type 0 = λ x. Fits x.deck.systems in
    subst P j.grown (fits_grow d j.st (tests_of d j.st j.right).full fits)

-- a line keeps the name lists
pub lists_judge : (d e : Draft) (l : TokenLine) → judge d l ≡ Ok e → AreLists d.deck.lists → AreLists e.deck.lists
lists_judge d e l h lists =
    let j = judged d e l h in
    let P : Draft → Type 0 = λ x. AreLists x.deck.lists in
    subst P j.grown (lists_grow d j.st (tests_of d j.st j.right).full lists)
