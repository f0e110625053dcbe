-- What each statement adds to the names, the task lines and the entries of a deck: they stay within their limits.
use Rattle.std.proofs.Common.{◌≡◌, ℕ, ◌+◌, ◌-◌, ◌<◌, Bool, true, false, cond, not, eqb, leb, List, [], ◌∷◌, ◌++◌}
use Rattle.std.proofs.Common.{length, map, filter, Option, Some, None, refl, sym, ap, subst, ◌∙◌, arith, append_assoc}
use Rattle.std.proofs.Common.{length-append}
use Rattle.std.specs.Prelude.{◌||◌, All, codes}
use Rattle.std.specs.List.{flat_map, list_all}
use Rattle.std.proofs.lemmas.Bool.{and_parts, and_from, or_parts, leb-true, le-leb}
use Rattle.std.proofs.lemmas.List.{append-nil, map-append}
use Rattle.std.proofs.lemmas.List.Elements.{All-nil, All-push, filter-append}
use Rattle.std.proofs.lemmas.Grind.{flat_map-append}
use Rattle.grs_base.specs.Names.{before_rest, trim_blanks, is_qname, is_rname, IsQname, are_bytes, IsMaybeRname}
use Rattle.grs_base.specs.Names.{AreNames}
use Rattle.grs_base.specs.declared.line.Line.{Line}
use Rattle.grs_base.specs.declared.rnl.Which.{Which}
use Rattle.grs_base.specs.declared.rnl.Which.TheVariants.{Incl, Excl, Con}
use Rattle.grs_base.specs.declared.rnl.Lists.{Lists}
use Rattle.grs_base.proofs.NameLaws.{trim_blanks-le}
use Rattle.grs_base.specs.Lines.{IsFilter, IsDeckLine, is_display}
use Rattle.grs_base.specs.Limits.{most_lines, most_displays}
use Rattle.grs_base.specs.ShortNames.{IsShortName}
use Rattle.grs_base.specs.NameLists.{IsEntry, AreEntries}
use Rattle.grs_wire.specs.declared.deck.Desk.{Desk}
use Rattle.grs_wire.specs.declared.deck.Order.{Order}
use Rattle.grs_wire.specs.declared.deck.TaskDef.{TaskDef}
use Rattle.grs_wire.specs.declared.deck.JobDef.{JobDef}
use Rattle.grs_wire.specs.declared.deck.SystemDef.{SystemDef}
use Rattle.grs_wire.specs.declared.deck.Event.{Event}
use Rattle.grs_wire.specs.declared.deck.Deck.{Deck}
use Rattle.grs_wire.specs.Decks.{all_names, all_lines}
use Rattle.deck_scan.specs.Lengths.{is_bad_qname, is_bad_rname}
use Rattle.deck_scan.specs.declared.token.Token.{Token}
use Rattle.deck_scan.specs.declared.token.TokenLine.{TokenLine}
use Rattle.deck_scan.specs.declared.token.Token.TheVariants.{Word}
use Rattle.job_syntax.specs.declared.ask.ResAsk.{ResAsk}
use Rattle.job_syntax.specs.declared.line_ask.LineAsk.{LineAsk}
use Rattle.job_syntax.specs.declared.line_ask.LineAsk.TheVariants as asks
use Rattle.job_syntax.specs.declared.display.Shown.{Shown}
use Rattle.job_syntax.specs.declared.display.Shown.TheVariants as shown
use Rattle.job_syntax.specs.Lines.{are_bad_names, is_bad_shown, has_bad_name as line_has_bad_name, filter_of}
use Rattle.job_syntax.specs.Lines.{display_line, line_of}
use Rattle.job_syntax.specs.Spelled.{IsResAsk, IsShown, IsLineAsk}
use Rattle.rnl_syntax.specs.declared.operands.Rnldef.{Rnldef}
use Rattle.rnl_syntax.specs.Operands.{entry_of, has_bad_name as rnldef_has_bad_name}
use Rattle.rnl_syntax.specs.Spelled.{IsRnldef}
use Rattle.deck_form.specs.declared.form.Stmt.{Stmt}
use Rattle.deck_form.specs.declared.form.Stmt.TheVariants as stmts
use Rattle.deck_form.specs.Spelled.{IsFirst, Spells}
use Rattle.grs_deck.specs.declared.judge.Draft.{Draft}
use Rattle.grs_deck.specs.Places.{at_last, jobs_now, tasks_now, place_ordered, event_of}
use Rattle.grs_deck.specs.Grow.{on_last, add_command, add_order, add_job, add_task, add_line, in_jobs, in_tasks}
use Rattle.grs_deck.specs.Grow.{order_by, with_event, in_list, shows, grow}
use Rattle.grs_deck.specs.Reading.{no_draft}
use Rattle.grs_deck.specs.Spells.{MayStand}
use Rattle.grs_deck.proofs.SpellsLaws.{no_test}
use Rattle.grs_deck.proofs.Distinct.{map_same}
use Rattle.grs_deck.proofs.TokenBytes.{says_bytes, are_of_bytes}
use Rattle.grs_deck.proofs.NameBytes.{BothBytes, trim_bytes, ask_bytes, IsMaybeBytes, scan_bytes, shown_bytes, ask_unit}
use Rattle.grs_deck.proofs.NameBytes.{unit_or, rnldef_bytes}

-- ---- the last of a list

-- where the last grows at its end, so do all together
flat_last : {A B C : Type 0} (g : A → List B) (f : A → A) (h : A → List C) (xs : List A) (ys : List B)
    → ((x : A) → at_last h xs ≡ h x → g (f x) ≡ g x ++ ys) → 0 < length xs
    → flat_map g (on_last f xs) ≡ flat_map g xs ++ ys
flat_last g f h [] ys e lt = absurd (omega (arith, lt))
flat_last g f h (x ∷ []) ys e lt = append-nil (g (f x)) ∙ e x refl ∙ ap (λ z. z ++ ys) (sym (append-nil (g x)))
flat_last g f h (x ∷ z ∷ zs) ys e lt =
    ap (λ t. g x ++ t) (flat_last g f h (z ∷ zs) ys e (omega arith)) ∙ sym (append_assoc (g x) (flat_map g (z ∷ zs)) ys)

flat_same : {A B : Type 0} (g : A → List B) (f : A → A) (xs : List A) → ((x : A) → g (f x) ≡ g x)
    → flat_map g (on_last f xs) ≡ flat_map g xs
flat_same g f [] e = refl
flat_same g f (x ∷ []) e = ap (λ z. z ++ []) (e x)
flat_same g f (x ∷ y ∷ ys) e = ap (λ t. g x ++ t) (flat_same g f (y ∷ ys) e)

not_empty : {A B : Type 0} (f : A → List B) (xs : List A) → 0 < length (at_last f xs) → 0 < length xs
not_empty f [] h = h
not_empty f (x ∷ xs) h = omega arith

-- ---- task lines

abbrev task_lines : TaskDef → List Line
task_lines t = t.lines

abbrev job_lines : JobDef → List Line
job_lines j = flat_map task_lines j.tasks

abbrev system_lines : SystemDef → List Line
system_lines s = flat_map job_lines s.jobs

lines_line : (line : Line) (ss : List SystemDef) → 0 < length (tasks_now (jobs_now ss))
    → all_lines (in_jobs (in_tasks (add_line line)) ss) ≡ all_lines ss ++ line ∷ []
lines_line line ss lt =
    flat_last system_lines _ (λ s. s.jobs) ss (line ∷ []) of_system
    (not_empty (λ s. s.jobs) ss (not_empty (λ j. j.tasks) (jobs_now ss) lt))
  where
    of_task : (t : TaskDef)
        → task_lines (record { name = t.name; lines = t.lines ++ line ∷ [] }) ≡ task_lines t ++ line ∷ []
    of_task t = refl

    of_job : (js : List JobDef) → 0 < length (tasks_now js) → (j : JobDef) → tasks_now js ≡ j.tasks
        → flat_map task_lines (add_line line j.tasks) ≡ flat_map task_lines j.tasks ++ line ∷ []
    of_job js some j e =
        flat_last task_lines _ (λ t. t.lines) j.tasks (line ∷ []) (λ t k. of_task t)
        (subst (λ (ts : List TaskDef). 0 < length ts) e some)

    of_system : (s : SystemDef) → jobs_now ss ≡ s.jobs
        → flat_map job_lines (in_tasks (add_line line) s.jobs) ≡ flat_map job_lines s.jobs ++ line ∷ []
    of_system s e =
        let some : 0 < length (tasks_now s.jobs) = subst (λ (js : List JobDef). 0 < length (tasks_now js)) e lt in
        flat_last job_lines _ (λ j. j.tasks) s.jobs (line ∷ []) (of_job s.jobs some)
        (not_empty (λ j. j.tasks) s.jobs some)

lines_task : (name : List ℕ) (ss : List SystemDef) → all_lines (in_jobs (add_task name) ss) ≡ all_lines ss
lines_task name ss = flat_same system_lines _ ss (λ s. flat_same job_lines _ s.jobs of_job)
  where
    of_job : (j : JobDef)
        → flat_map task_lines (j.tasks ++ record { name = name; lines = [] } ∷ []) ≡ flat_map task_lines j.tasks
    of_job j =
        flat_map-append task_lines j.tasks (record { name = name; lines = [] } ∷ [])
        ∙ append-nil (flat_map task_lines j.tasks)

lines_command : (c : Desk) (ss : List SystemDef) → all_lines (add_command c ss) ≡ all_lines ss
lines_command c ss = flat_same system_lines _ ss (λ s. refl)

lines_order : (at : ℕ) (o : Option Order) (ss : List SystemDef) → all_lines (add_order at o ss) ≡ all_lines ss
lines_order at None ss = refl
lines_order at (Some o) ss = lines_command _ ss

lines_job : (name : List ℕ) (ss : List SystemDef) → all_lines (add_job name ss) ≡ all_lines ss
lines_job name ss = flat_same system_lines _ ss of_system
  where
    of_system : (s : SystemDef)
        → flat_map job_lines (s.jobs ++ record { name = name; tasks = [] } ∷ []) ≡ flat_map job_lines s.jobs
    of_system s =
        flat_map-append job_lines s.jobs (record { name = name; tasks = [] } ∷ [])
        ∙ append-nil (flat_map job_lines s.jobs)

lines_system : (name : List ℕ) (ss : List SystemDef)
    → all_lines (ss ++ record { name = name; desk = []; jobs = [] } ∷ []) ≡ all_lines ss
lines_system name ss =
    flat_map-append system_lines ss (record { name = name; desk = []; jobs = [] } ∷ [])
    ∙ append-nil (flat_map system_lines ss)

-- ---- names

abbrev task_name : TaskDef → List ℕ
task_name t = t.name

abbrev job_names : JobDef → List (List ℕ)
job_names j = j.name ∷ map task_name j.tasks

abbrev system_names : SystemDef → List (List ℕ)
system_names s = s.name ∷ flat_map job_names s.jobs

names_system : (name : List ℕ) (ss : List SystemDef)
    → all_names (ss ++ record { name = name; desk = []; jobs = [] } ∷ []) ≡ all_names ss ++ name ∷ []
names_system name ss = flat_map-append system_names ss (record { name = name; desk = []; jobs = [] } ∷ [])

names_order : (at : ℕ) (o : Option Order) (ss : List SystemDef) → all_names (add_order at o ss) ≡ all_names ss
names_order at None ss = refl
names_order at (Some o) ss = flat_same system_names _ ss (λ s. refl)

names_job : (name : List ℕ) (ss : List SystemDef) → 0 < length ss
    → all_names (add_job name ss) ≡ all_names ss ++ name ∷ []
names_job name ss lt = flat_last system_names _ (λ s. s.jobs) ss (name ∷ []) of_system lt
  where
    of_system : (s : SystemDef) → jobs_now ss ≡ s.jobs
        → s.name ∷ flat_map job_names (s.jobs ++ record { name = name; tasks = [] } ∷ []) ≡ system_names s ++ name ∷ []
    of_system s e =
        ap (λ (t : List (List ℕ)). s.name ∷ t)
        (flat_map-append job_names s.jobs (record { name = name; tasks = [] } ∷ []))

names_task : (name : List ℕ) (ss : List SystemDef) → 0 < length (jobs_now ss)
    → all_names (in_jobs (add_task name) ss) ≡ all_names ss ++ name ∷ []
names_task name ss lt = flat_last system_names _ (λ s. s.jobs) ss (name ∷ []) of_system (not_empty (λ s. s.jobs) ss lt)
  where
    of_job : (js : List JobDef) (j : JobDef) → tasks_now js ≡ j.tasks
        → j.name ∷ map task_name (j.tasks ++ record { name = name; lines = [] } ∷ []) ≡ job_names j ++ name ∷ []
    of_job js j e =
        ap (λ (t : List (List ℕ)). j.name ∷ t) (map-append task_name j.tasks (record { name = name; lines = [] } ∷ []))

    of_system : (s : SystemDef) → jobs_now ss ≡ s.jobs
        → s.name ∷ flat_map job_names (add_task name s.jobs) ≡ system_names s ++ name ∷ []
    of_system s e =
        ap (λ (t : List (List ℕ)). s.name ∷ t) (flat_last job_names _ (λ j. j.tasks) s.jobs (name ∷ []) (of_job s.jobs)
        (subst (λ (js : List JobDef). 0 < length js) e lt))

names_line : (line : Line) (ss : List SystemDef) → all_names (in_jobs (in_tasks (add_line line)) ss) ≡ all_names ss
names_line line ss =
    flat_same system_names _ ss (λ s. ap (λ (t : List (List ℕ)). s.name ∷ t) (flat_same job_names _ s.jobs of_job))
  where
    of_job : (j : JobDef) → j.name ∷ map task_name (add_line line j.tasks) ≡ job_names j
    of_job j =
        ap (λ (t : List (List ℕ)). j.name ∷ t)
        (map_same task_name (λ t. record { name = t.name; lines = t.lines ++ line ∷ [] }) j.tasks (λ t. refl))

-- ---- one line

before_twice : (b : ℕ) (t : List ℕ) → trim_blanks t ≡ t → trim_blanks (before_rest b t) ≡ before_rest b t
before_twice b [] h = go (eqb b 32) refl
  where
    go : (x : Bool) → eqb b 32 ≡ x → trim_blanks (cond x [] (b ∷ [])) ≡ cond x [] (b ∷ [])
    go true is = refl
    go false is = rw is refl
before_twice b (c ∷ cs) h = ap (before_rest b) h

trim_twice : (q : List ℕ) → trim_blanks (trim_blanks q) ≡ trim_blanks q
trim_twice [] = refl
trim_twice (b ∷ bs) = before_twice b (trim_blanks bs) (trim_twice bs)

built : (q : List ℕ) → is_qname q ≡ true → IsQname (trim_blanks q)
built q h =
    let k = and_parts (leb (length q) 8) (leb 1 (length (trim_blanks q))) h in
    let few = le-leb (length (trim_blanks q)) 8 (omega (arith, trim_blanks-le q, leb-true (length q) 8 k.0)) in
    record {
      made =
          and_from (leb (length (trim_blanks q)) 8) _ few (ap (λ (t : List ℕ). leb 1 (length t)) (trim_twice q) ∙ k.1);
      trimmed = trim_twice q;
    }

not_either : (a b : Bool) → (not a || not b) ≡ false → (a ≡ true) × (b ≡ true)
not_either true true h = (refl, refl)
not_either true false h = absurd cc
not_either false b h = absurd cc

not_bad : (a b : Bool) → (not a || b) ≡ false → (a ≡ true) × (b ≡ false)
not_bad true false h = (refl, refl)
not_bad true true h = absurd cc
not_bad false b h = absurd cc

-- behind a first word
behind_bytes : (w : List ℕ) (ts behind : List Token) → ts ≡ Word w ∷ behind → list_all says_bytes ts ≡ true
    → list_all says_bytes behind ≡ true
behind_bytes w ts behind is all =
    (and_parts (are_bytes w) (list_all says_bytes behind)
    (subst (λ (x : List Token). list_all says_bytes x ≡ true) is all)).1

named : (q r : List ℕ) → are_bad_names q r ≡ false → BothBytes q r → AreNames (trim_blanks q) r
named q r good bytes =
    let k = not_either (is_qname q) (is_rname r) good in
    record { qname = built q k.0; q_bytes = trim_bytes q bytes.0; rname = k.1; r_bytes = bytes.1 }

asked : (front ts : List Token) (a : ResAsk) → IsResAsk front ts a → list_all says_bytes ts ≡ true
    → are_bad_names a.q a.r ≡ false → AreNames (trim_blanks a.q) a.r
asked front ts a h all good = named a.q a.r good (ask_bytes front ts a h all)

not_false : (b : Bool) → not b ≡ false → b ≡ true
not_false true e = refl
not_false false e = absurd cc

-- the filter of a GQSCAN
scan_filter : (q r : Option (List ℕ)) → is_bad_qname q ≡ false → is_bad_rname r ≡ false → IsMaybeBytes q
    → IsMaybeBytes r → IsFilter (filter_of (record { q = q; r = r }))
scan_filter None None good fine q r = tt
scan_filter None (Some y) good fine q r = (tt, (not_false (is_rname y) fine, r), refl)
scan_filter (Some x) None good fine q r = ((built x (not_false (is_qname x) good), trim_bytes x q), tt, refl)
scan_filter (Some x) (Some y) good fine q
    r = ((built x (not_false (is_qname x) good), trim_bytes x q), (not_false (is_rname y) fine, r), refl)

display_built : (ts : List Token) (s : Shown) → IsShown ts s → list_all says_bytes ts ≡ true → is_bad_shown s ≡ false
    → IsDeckLine (display_line s)
display_built ts shown.Contended h all good = tt
display_built ts (shown.Resource q r) h all good = named q r good (shown_bytes ts q r h all)

line_ask_built : (ts : List Token) (s : LineAsk) (h : IsLineAsk ts s) → list_all says_bytes h.behind ≡ true
    → line_has_bad_name s ≡ false → IsDeckLine (line_of s)
line_ask_built ts (asks.Enq e) h all good = (_, refl, asked _ h.behind e.ask h.is_behind.0 all good)
line_ask_built ts (asks.Reserve e) h all good = (
  asked _ h.behind e.ask h.is_behind.0 all good,
  unit_or e.ask.opts.unit (ask_unit _ h.behind e.ask h.is_behind.0),
)
line_ask_built ts (asks.Deq a) h all
    good = (asked _ h.behind a h.is_behind.0 all good, ask_unit _ h.behind a h.is_behind.0)
line_ask_built ts (asks.Wait a) h all good = asked _ h.behind a h.is_behind.0 all good
line_ask_built ts (asks.Gqscan x) h all good =
    let k = or_parts (is_bad_qname x.names.q) (is_bad_rname x.names.r) good in
    let bytes = scan_bytes h.behind x h.is_behind all in
    scan_filter x.names.q x.names.r k.0 k.1 bytes.0 bytes.1
line_ask_built ts (asks.Display x) h all good = display_built h.behind x h.is_behind all good

line_built : (ts : List Token) (s : LineAsk) → list_all says_bytes ts ≡ true → IsFirst ts (stmts.Line s)
    → line_has_bad_name s ≡ false → IsDeckLine (line_of s)
line_built ts s all h good = line_ask_built ts s h (behind_bytes h.word ts h.behind h.parts all) good

-- which lines show something
shows_line : (s : LineAsk) → is_display (line_of s) ≡ shows s
shows_line (asks.Enq e) = refl
shows_line (asks.Reserve e) = refl
shows_line (asks.Deq a) = refl
shows_line (asks.Wait a) = refl
shows_line (asks.Gqscan x) = refl
shows_line (asks.Display shown.Contended) = refl
shows_line (asks.Display (shown.Resource q r)) = refl

-- ---- a deck so far

pub record Keeps (d : Draft) : Type 0 where
  pub names : All IsShortName (all_names d.deck.systems)
  pub lines : All IsDeckLine (all_lines d.deck.systems)
  pub displays : length (filter is_display (all_lines d.deck.systems)) + d.displays ≡ most_displays
  pub room : length (all_lines d.deck.systems) + d.room ≡ most_lines
  pub entries : AreEntries d.deck.lists

pub keeps_none : (names : List (List ℕ)) → Keeps (no_draft names)
keeps_none names = record {
  names = All-nil IsShortName;
  lines = All-nil IsDeckLine;
  displays = refl;
  room = refl;
  entries = record { incl = All-nil IsEntry; excl = All-nil IsEntry; con = All-nil IsEntry };
}

-- no line more
no_line : (d e : Draft) → Keeps d → all_lines e.deck.systems ≡ all_lines d.deck.systems → e.room ≡ d.room
    → e.displays ≡ d.displays → All IsShortName (all_names e.deck.systems) → AreEntries e.deck.lists → Keeps e
no_line d e h same room displays names entries = record {
  names = names;
  lines = subst (All IsDeckLine) (sym same) h.lines;
  displays = rw (same, displays) h.displays;
  room = rw (same, room) h.room;
  entries = entries;
}

-- a name more
name_more : (d : Draft) (name : List ℕ) (all : List (List ℕ)) → Keeps d → all ≡ all_names d.deck.systems ++ name ∷ []
    → IsShortName name → All IsShortName all
name_more d name all h is short =
    subst (All IsShortName) (sym is) (All-push IsShortName (all_names d.deck.systems) name h.names short)

entry_more : (r : Rnldef) (lists : Lists) → IsEntry (entry_of r) → AreEntries lists → (which : Which)
    → AreEntries (in_list which (entry_of r) lists)
entry_more r lists e h
    Incl = record { incl = All-push IsEntry lists.incl.entries (entry_of r) h.incl e; excl = h.excl; con = h.con }
entry_more r lists e h
    Excl = record { incl = h.incl; excl = All-push IsEntry lists.excl.entries (entry_of r) h.excl e; con = h.con }
entry_more r lists e h
    Con = record { incl = h.incl; excl = h.excl; con = All-push IsEntry lists.con.entries (entry_of r) h.con e }

maybe_rname : (o : Option (List ℕ)) → is_bad_rname o ≡ false → IsMaybeBytes o → IsMaybeRname o
maybe_rname None h bytes = tt
maybe_rname (Some r) h bytes = (not_false (is_rname r) h, bytes)

entry_built : (ts : List Token) (r : Rnldef) → list_all says_bytes ts ≡ true → IsRnldef ts r
    → rnldef_has_bad_name r ≡ false → IsEntry (entry_of r)
entry_built ts r all h good =
    let k = not_bad (is_qname r.q) (is_bad_rname r.r) good in
    let bytes = rnldef_bytes ts r h all in
    record { q = built r.q k.0; q_bytes = trim_bytes r.q bytes.0; r = maybe_rname r.r k.1 bytes.1; needed = h.needed }

room_same : (n : ℕ) → n - 0 ≡ n
room_same n = omega arith

-- how many of the lines show something, with one more
shown_more : (b : Bool) (n d e : ℕ) → n + d ≡ most_displays → (b ≡ true → 0 < d) → e ≡ d - cond b 1 0
    → n + cond b 1 0 + e ≡ most_displays
shown_more true n d e all some is = omega (arith, all, some refl, is)
shown_more false n d e all some is = omega (arith, all, is)

one_shown : (b : Bool) (line : Line) → length (cond b (line ∷ []) []) ≡ cond b 1 0
one_shown true line = refl
one_shown false line = refl

line_more : (d : Draft) (s : LineAsk) → Keeps d → 0 < length (tasks_now (jobs_now d.deck.systems))
    → (0 < d.room) × (shows s ≡ true → 0 < d.displays) → IsDeckLine (line_of s) → Keeps (grow d (stmts.Line s))
line_more d s h task some new =
    let line = line_of s in
    let e = grow d (stmts.Line s) in
    let all : all_lines e.deck.systems ≡ all_lines d.deck.systems ++ line ∷ [] = lines_line line d.deck.systems task in
    let long : length (all_lines e.deck.systems) ≡ length (all_lines d.deck.systems) + 1 =
    ap length all ∙ length-append (all_lines d.deck.systems) (line ∷ []) in
    let count : length (filter is_display (all_lines e.deck.systems))
    ≡ length (filter is_display (all_lines d.deck.systems)) + cond (shows s) 1 0 =
    ap (λ ls. length (filter is_display ls)) all
    ∙ ap length (filter-append is_display (all_lines d.deck.systems) (line ∷ []))
    ∙ length-append (filter is_display (all_lines d.deck.systems)) (filter is_display (line ∷ []))
    ∙ ap (λ n. length (filter is_display (all_lines d.deck.systems)) + n)
    (one_shown (is_display line) line ∙ ap (λ b. cond b 1 0) (shows_line s)) in
    record {
      names = subst (All IsShortName) (sym (names_line line d.deck.systems)) h.names;
      lines = subst (All IsDeckLine) (sym all) (All-push IsDeckLine (all_lines d.deck.systems) line h.lines new);
      displays =
          ap (λ n. n + e.displays) count
          ∙ shown_more (shows s) (length (filter is_display (all_lines d.deck.systems))) d.displays e.displays
          h.displays some.1 refl;
      room = omega (arith, long, some.0, h.room);
      entries = h.entries;
    }

first_keeps : (d : Draft) (ts : List Token) (st : Stmt) → list_all says_bytes ts ≡ true → IsFirst ts st → MayStand d st
    → Keeps d → Keeps (grow d st)
first_keeps d ts (stmts.Complex c) all s right h =
    no_line d (grow d (stmts.Complex c)) h refl (room_same d.room) (room_same d.displays) h.names h.entries
first_keeps d ts (stmts.Rnldef r) all s right h =
    let e =
    entry_built s.0 r (behind_bytes (codes "RNLDEF") ts s.0 s.1 all) s.2 (no_test d (stmts.Rnldef r) right).long in
    no_line d (grow d (stmts.Rnldef r)) h refl (room_same d.room) (room_same d.displays) h.names
    (entry_more r d.deck.lists e h.entries r.which)
first_keeps d ts (stmts.System n) all s right h =
    no_line d (grow d (stmts.System n)) h (lines_system n d.deck.systems) (room_same d.room) (room_same d.displays)
    (name_more d n _ h (names_system n d.deck.systems) (s.1, right.sized)) h.entries
first_keeps d ts (stmts.Job n) all s right h =
    no_line d (grow d (stmts.Job n)) h (lines_job n d.deck.systems) (room_same d.room) (room_same d.displays)
    (name_more d n _ h (names_job n d.deck.systems right.placed) (s.1, right.sized)) h.entries
first_keeps d ts (stmts.Task n) all s right h =
    no_line d (grow d (stmts.Task n)) h (lines_task n d.deck.systems) (room_same d.room) (room_same d.displays)
    (name_more d n _ h (names_task n d.deck.systems right.placed) (s.1, right.sized)) h.entries
first_keeps d ts (stmts.Line x) all s right h =
    line_more d x h right.placed right.room (line_built ts x all s (no_test d (stmts.Line x) right).long)
first_keeps d ts (stmts.Command c) all s right h =
    let same = names_order c.at (order_by (place_ordered d.names c.order) c.order) d.deck.systems in
    no_line d (grow d (stmts.Command c)) h
    (lines_order c.at (order_by (place_ordered d.names c.order) c.order) d.deck.systems) (room_same d.room)
    (room_same d.displays) (subst (All IsShortName) (sym same) h.names) h.entries
first_keeps d ts stmts.Schedule all s right h =
    no_line d (grow d stmts.Schedule) h refl (room_same d.room) (room_same d.displays) h.names h.entries
first_keeps d ts (stmts.Event n a) all s right h = absurd s

event_keeps : (d : Draft) (o : Option Event) (e : Draft) → e.deck ≡ with_event o d.deck → e.room ≡ d.room
    → e.displays ≡ d.displays → Keeps d → Keeps e
event_keeps d None e is room displays h =
    no_line d e h (ap (λ (x : Deck). all_lines x.systems) is) room displays
    (subst (λ (x : Deck). All IsShortName (all_names x.systems)) (sym is) h.names)
    (subst (λ (x : Deck). AreEntries x.lists) (sym is) h.entries)
event_keeps d (Some v) e is room displays h =
    no_line d e h (ap (λ (x : Deck). all_lines x.systems) is) room displays
    (subst (λ (x : Deck). All IsShortName (all_names x.systems)) (sym is) h.names)
    (subst (λ (x : Deck). AreEntries x.lists) (sym is) h.entries)

-- A statement that is right keeps the limits of names, task lines and entries.
pub keeps_grow : (d : Draft) (l : TokenLine) (st : Stmt) → are_of_bytes l ≡ true
    → Spells d.scheduled d.deck.entries l st → MayStand d st → Keeps d → Keeps (grow d st)
keeps_grow d l st all s right h = go d.scheduled s
  where
    event : (x : Stmt) → Spells true d.deck.entries l x → Keeps (grow d x)
    event (stmts.Event n a) k =
        event_keeps d (event_of d.deck.systems n a) (grow d (stmts.Event n a)) refl (room_same d.room)
        (room_same d.displays) h
    event _ k = absurd k

    go : (b : Bool) → Spells b d.deck.entries l st → Keeps (grow d st)
    go true k = event st k
    go false k = first_keeps d l.tokens st all k.1 right h
