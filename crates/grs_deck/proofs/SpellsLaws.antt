-- What is read is spelled, and what is spelled is read.
use Rattle.std.proofs.Common.{◌≡◌, ℕ, suc, ltb, ◌+◌, ◌<◌, Bool, true, false, cond, not, eqb, leb, List, [], ◌∷◌, length}
use Rattle.std.proofs.Common.{Option, Some, None, Result, Ok, Err, refl, sym, ap, subst, ◌∙◌, arith}
use Rattle.std.specs.List.{list_any, position, position_or_len}
use Rattle.std.proofs.lemmas.Bool.Decides.{nat_tests}
use Rattle.std.specs.Prelude.{◌&&◌, ◌||◌, ◌≢◌, Contains, is_some, is_none}
use Rattle.std.specs.Str.{bytes_eq}
use Rattle.std.proofs.lemmas.Bool.{ltb-false, le-ltb, lt-leb, eqb-false, eqb-true, ne_eqb, leb-false, or_parts}
use Rattle.std.proofs.lemmas.List.Folds.{list_any_at}
use Rattle.std.proofs.lemmas.Map.Views.{Contains-from_any}
use Rattle.std.proofs.lemmas.Slice.Eq.{bytes_eq-Decides}
use Rattle.grs_base.specs.declared.fault.DeckFault.{DeckFault}
use Rattle.grs_base.specs.declared.fault.Kind.TheVariants.{NoSystem}
use Rattle.grs_base.specs.declared.fault.ReadError.{ReadError}
use Rattle.grs_base.specs.declared.fault.ReadError.TheVariants as read_errors
use Rattle.grs_base.specs.Names.{is_qname, is_rname}
use Rattle.grs_wire.specs.declared.deck.Deck.{Deck}
use Rattle.grs_wire.specs.Decks.{task_count}
use Rattle.deck_scan.specs.declared.token.TokenLine.{TokenLine}
use Rattle.deck_scan.specs.Gives.{◌>>=◌, Gives, IsOkUnlessMemory, refused}
use Rattle.deck_scan.specs.Lengths.{is_bad_qname, is_bad_rname}
use Rattle.deck_scan.specs.Reading.{lines_or_fault}
use Rattle.deck_scan.proofs.Taking.{same_bytes}
use Rattle.deck_scan.proofs.Texts.{bind_ok, read_text, text_read}
use Rattle.job_syntax.specs.declared.display.Shown.TheVariants as shown
use Rattle.job_syntax.specs.declared.line_ask.LineAsk.{LineAsk}
use Rattle.job_syntax.specs.declared.line_ask.LineAsk.TheVariants as asks
use Rattle.job_syntax.specs.Lines.{are_bad_names, has_bad_name as line_has_bad_name}
use Rattle.deck_form.specs.declared.command.GivenOrder.{GivenOrder}
use Rattle.deck_form.specs.declared.command.GivenOrder.TheVariants as orders
use Rattle.deck_form.specs.declared.event.EventAct.{EventAct}
use Rattle.deck_form.specs.declared.event.EventAct.TheVariants as acts
use Rattle.deck_form.specs.declared.form.Stmt.{Stmt}
use Rattle.deck_form.specs.declared.form.Stmt.TheVariants as stmts
use Rattle.deck_form.specs.Spelled.{Spells}
use Rattle.deck_form.specs.Statements.{statements}
use Rattle.deck_form.specs.SystemNames.{is_named, name_place}
use Rattle.deck_form.proofs.Taken.{form_taken}
use Rattle.deck_form.proofs.Again.{form_again}
use Rattle.grs_deck.specs.declared.judge.Draft.{Draft}
use Rattle.grs_deck.specs.Places.{name_now, desk_now, jobs_now, tasks_now, system_place, job_place, task_place}
use Rattle.grs_deck.specs.Places.{event_of}
use Rattle.grs_deck.specs.Judge.{is_too_long, list_of, has_long_name, has_long_order, has_bad_name, is_repeated}
use Rattle.grs_deck.specs.Judge.{is_misplaced, is_full, removes_unknown, is_unknown, verdict}
use Rattle.grs_deck.specs.Grow.{shows, grow}
use Rattle.grs_deck.specs.Reading.{judge, judge_all, first_draft, ended, reading, fault, fault_of}
use Rattle.grs_deck.specs.Spells.{IsShort, IsShortAct, IsShortOrder, MakeNames, HasNames, IsSized, IsNew, IsPlaced}
use Rattle.grs_deck.specs.Spells.{HasRoom, IsKnownOrder, IsKnown, MayStand, Says, SpellsDeck}
use Rattle.grs_deck.proofs.Distinct.{differs}
use Rattle.grs_deck.proofs.FitsLaws.{NoFault, tests_of, judged}

-- ---- tests and facts

both_false : (a b : Bool) → a ≡ false → b ≡ false → (a || b) ≡ false
both_false a b h k = rw (h, k) refl

none_of : {A : Type 0} (o : Option A) → is_some o ≡ false → o ≡ None
none_of None h = refl
none_of (Some x) h = absurd cc

none_there : {A : Type 0} (o : Option A) → o ≡ None → is_some o ≡ false
none_there o h = rw h refl

some_of : {A : Type 0} (o : Option A) → is_none o ≡ false → (x : A) × (o ≡ Some x)
some_of None h = absurd cc
some_of (Some x) h = (x, refl)

found_there : {A : Type 0} (o : Option A) (x : A) → o ≡ Some x → is_none o ≡ false
found_there o x h = rw h refl

there : (n : ℕ) → eqb n 0 ≡ false → 0 < n
there n h = let k = eqb-false n 0 h in omega (arith, k)

there_not : (n : ℕ) → 0 < n → eqb n 0 ≡ false
there_not n h = ne_eqb n 0 (λ e. omega (arith, e))

-- a line that shows something has room among those that do
shown_not : (b : Bool) (n : ℕ) → (b ≡ true → 0 < n) → (b && eqb n 0) ≡ false
shown_not true n h = there_not n (h refl)
shown_not false n h = refl

fewer : (n m : ℕ) → leb n m ≡ false → m < n
fewer n m h = leb-false n m h

fewer_not : (n m : ℕ) → m < n → leb n m ≡ false
fewer_not n m h = lt-leb n m h

short_of : (n : List ℕ) → is_too_long n ≡ false → IsShort n
short_of n h = ltb-false 8 (length n) h

of_short : (n : List ℕ) → IsShort n → is_too_long n ≡ false
of_short n h = le-ltb 8 (length n) h

passed : (b : Bool) → not b ≡ false → b ≡ true
passed true h = refl
passed false h = absurd cc

short_act : (a : EventAct) → has_long_name a ≡ false → IsShortAct a
short_act (acts.Task j t) h = let k = or_parts (is_too_long j) (is_too_long t) h in (short_of j k.0, short_of t k.1)
short_act (acts.Send j t) h = let k = or_parts (is_too_long j) (is_too_long t) h in (short_of j k.0, short_of t k.1)
short_act (acts.Purge n) h = short_of n h
short_act acts.Turn h = tt
short_act acts.Take h = tt
short_act acts.Settle h = tt
short_act (acts.Tell e) h = tt
short_act (acts.Part e) h = tt
short_act (acts.Leave e) h = tt
short_act acts.Switch h = tt
short_act acts.Rest h = tt

act_short : (a : EventAct) → IsShortAct a → has_long_name a ≡ false
act_short (acts.Task j t) h = both_false (is_too_long j) (is_too_long t) (of_short j h.0) (of_short t h.1)
act_short (acts.Send j t) h = both_false (is_too_long j) (is_too_long t) (of_short j h.0) (of_short t h.1)
act_short (acts.Purge n) h = of_short n h
act_short acts.Turn h = refl
act_short acts.Take h = refl
act_short acts.Settle h = refl
act_short (acts.Tell e) h = refl
act_short (acts.Part e) h = refl
act_short (acts.Leave e) h = refl
act_short acts.Switch h = refl
act_short acts.Rest h = refl

short_order : (o : GivenOrder) → has_long_order o ≡ false → IsShortOrder o
short_order orders.Star h = tt
short_order (orders.Vary n) h = short_of n h

order_short : (o : GivenOrder) → IsShortOrder o → has_long_order o ≡ false
order_short orders.Star h = refl
order_short (orders.Vary n) h = of_short n h

-- ---- names of systems

not_equal : (a b : List ℕ) → b ≢ a → bytes_eq a b ≡ false
not_equal a b h = go (bytes_eq a b) refl
  where
    go : (x : Bool) → bytes_eq a b ≡ x → x ≡ false
    go true is = absurd (h (sym (same_bytes a b is)))
    go false is = refl

place_any : {A : Type 0} (p : A → Bool) (xs : List A) → ltb (position_or_len p xs) (length xs) ≡ list_any p xs
place_any p [] = refl
place_any p (x ∷ xs) = go (p x) refl (place_any p xs)
  where
    further : (a b : ℕ) → ltb (1 + a) (suc b) ≡ ltb a b
    further a b = grind (arith, nat_tests)

    first : (n : ℕ) → ltb 0 (suc n) ≡ true
    first n = grind (arith, nat_tests)

    go : (b : Bool) → p x ≡ b → ltb (position_or_len p xs) (length xs) ≡ list_any p xs
        → ltb (position_or_len p (x ∷ xs)) (length (x ∷ xs)) ≡ list_any p (x ∷ xs)
    go true is h = rw is (first (length xs))
    go false is h = rw is (further (position_or_len p xs) (length xs) ∙ h)

no_place : {A : Type 0} (p : A → Bool) (xs : List A) → is_none (position p xs) ≡ not (list_any p xs)
no_place p xs = go (ltb (position_or_len p xs) (length xs)) ∙ ap not (place_any p xs)
  where
    go : (b : Bool) → is_none (cond b (Some (position_or_len p xs)) None) ≡ not b
    go true = refl
    go false = refl

-- a name has a place exactly where it is among them
placed_named : (names : List (List ℕ)) (n : List ℕ) → is_none (name_place names n) ≡ not (is_named names n)
unfolding name_place is_named
placed_named names n = no_place (bytes_eq n) names

named_there : (names : List (List ℕ)) (n : List ℕ) → is_named names n ≡ true → Contains names n
unfolding is_named
named_there names n h = Contains-from_any same_bytes n names h

there_named : (names : List (List ℕ)) (n : List ℕ) → Contains names n → is_named names n ≡ true
unfolding is_named
there_named names n h = list_any_at (bytes_eq n) names h.0 n h.1 ((bytes_eq-Decides n _).1 (sym h.2))

known_order : (d : Draft) (o : GivenOrder) → removes_unknown d o ≡ false → IsKnownOrder d o
known_order d orders.Star h = tt
known_order d (orders.Vary n) h =
    let k =
    or_parts (bytes_eq (name_now d.deck.systems) n) (not (is_named d.names n))
    (ap (λ (b : Bool). bytes_eq (name_now d.deck.systems) n || b) (sym (placed_named d.names n)) ∙ h) in
    (named_there d.names n (passed (is_named d.names n) k.1), λ e. differs (name_now d.deck.systems) n k.0 (sym e))

order_known : (d : Draft) (o : GivenOrder) → IsKnownOrder d o → removes_unknown d o ≡ false
order_known d orders.Star h = refl
order_known d (orders.Vary n) h =
    both_false (bytes_eq (name_now d.deck.systems) n) (is_none (name_place d.names n))
    (not_equal (name_now d.deck.systems) n h.1) (placed_named d.names n ∙ rw (there_named d.names n h.0) refl)

-- ---- a statement that may stand there

both_names : (q r : List ℕ) → are_bad_names q r ≡ false → MakeNames q r
both_names q r h =
    let k = or_parts (not (is_qname q)) (not (is_rname r)) h in
    (passed (is_qname q) k.0, passed (is_rname r) k.1)

names_by : (s : LineAsk) → line_has_bad_name s ≡ false → HasNames s
names_by (asks.Enq e) h = both_names e.ask.q e.ask.r h
names_by (asks.Reserve e) h = both_names e.ask.q e.ask.r h
names_by (asks.Deq a) h = both_names a.q a.r h
names_by (asks.Wait a) h = both_names a.q a.r h
names_by (asks.Gqscan s) h = or_parts (is_bad_qname s.names.q) (is_bad_rname s.names.r) h
names_by (asks.Display shown.Contended) h = tt
names_by (asks.Display (shown.Resource q r)) h = both_names q r h

none_yet : {A : Type 0} (xs : List A) → length xs ≡ 0 → xs ≡ []
none_yet [] h = refl
none_yet (x ∷ xs) h = absurd (omega (arith, h))

pub sized_by : (st : Stmt) → has_bad_name st ≡ false → IsSized st
sized_by (stmts.Rnldef r) h =
    let k = or_parts (not (is_qname r.q)) (is_bad_rname r.r) h in (passed (is_qname r.q) k.0, k.1)
sized_by (stmts.System n) h = short_of n h
sized_by (stmts.Job n) h = short_of n h
sized_by (stmts.Task n) h = short_of n h
sized_by (stmts.Line s) h = names_by s h
sized_by (stmts.Command c) h = short_order c.order h
sized_by (stmts.Event s a) h = let k = or_parts (is_too_long s) (has_long_name a) h in (short_of s k.0, short_act a k.1)
sized_by _ h = tt

pub new_by : (d : Draft) (st : Stmt) → is_repeated d st ≡ false → IsNew d st
new_by d (stmts.System n) h = none_of (system_place d.deck.systems n) h
new_by d (stmts.Job n) h = none_of (job_place (jobs_now d.deck.systems) n) h
new_by d (stmts.Task n) h = none_of (task_place (tasks_now (jobs_now d.deck.systems)) n) h
new_by d _ h = tt

pub placed_by : (d : Draft) (st : Stmt) → is_misplaced d st ≡ false → IsPlaced d st
placed_by d (stmts.Complex c) h = h
placed_by d (stmts.Rnldef r) h =
    none_yet d.deck.systems (eqb-true (length d.deck.systems) 0 (passed (eqb (length d.deck.systems) 0) h))
placed_by d (stmts.Job n) h = there (length d.deck.systems) h
placed_by d (stmts.Task n) h = there (length (jobs_now d.deck.systems)) h
placed_by d (stmts.Line s) h = there (length (tasks_now (jobs_now d.deck.systems))) h
placed_by d (stmts.Command c) h =
    let k = or_parts (eqb (length d.deck.systems) 0) (not (eqb (length (jobs_now d.deck.systems)) 0)) h in (
      there (length d.deck.systems) k.0,
      none_yet (jobs_now d.deck.systems)
          (eqb-true (length (jobs_now d.deck.systems)) 0 (passed (eqb (length (jobs_now d.deck.systems)) 0) k.1)),
    )
placed_by d stmts.Schedule h = there (length d.deck.systems) h
placed_by d _ h = tt

pub room_by : (d : Draft) (st : Stmt) → is_full d st ≡ false → HasRoom d st
room_by d (stmts.Rnldef r) h = fewer 4096 (length (list_of r.which d.deck.lists).entries) h
room_by d (stmts.System n) h = fewer 8 (length d.deck.systems) h
room_by d (stmts.Job n) h = fewer 64 (length (jobs_now d.deck.systems)) h
room_by d (stmts.Task n) h = fewer 64 (task_count (jobs_now d.deck.systems)) h
room_by d (stmts.Line s) h =
    let k = or_parts (eqb d.room 0) (shows s && eqb d.displays 0) h in
    (there d.room k.0, λ e. there d.displays (sym (ap (λ b. b && eqb d.displays 0) e) ∙ k.1))
room_by d (stmts.Command c) h = fewer 64 (length (desk_now d.deck.systems)) h
room_by d _ h = tt

pub known_by : (d : Draft) (st : Stmt) → is_unknown d st ≡ false → IsKnown d st
known_by d (stmts.Event s a) h = some_of (event_of d.deck.systems s a) h
known_by d (stmts.Command c) h = known_order d c.order h
known_by d _ h = tt

pub right_of : (d : Draft) (st : Stmt) → verdict d st ≡ None → MayStand d st
right_of d st h =
    let t = tests_of d st h in
    record {
      sized = sized_by st t.long;
      new = new_by d st t.repeated;
      placed = placed_by d st t.misplaced;
      room = room_by d st t.full;
      known = known_by d st t.unknown;
    }

names_fail : (q r : List ℕ) → MakeNames q r → are_bad_names q r ≡ false
names_fail q r h = rw (h.0, h.1) refl

no_bad : (s : LineAsk) → HasNames s → line_has_bad_name s ≡ false
no_bad (asks.Enq e) h = names_fail e.ask.q e.ask.r h
no_bad (asks.Reserve e) h = names_fail e.ask.q e.ask.r h
no_bad (asks.Deq a) h = names_fail a.q a.r h
no_bad (asks.Wait a) h = names_fail a.q a.r h
no_bad (asks.Gqscan s) h = both_false (is_bad_qname s.names.q) (is_bad_rname s.names.r) h.0 h.1
no_bad (asks.Display shown.Contended) h = refl
no_bad (asks.Display (shown.Resource q r)) h = names_fail q r h

pub of_sized : (st : Stmt) → IsSized st → has_bad_name st ≡ false
of_sized (stmts.Rnldef r) h = rw h.0 h.1
of_sized (stmts.System n) h = of_short n h
of_sized (stmts.Job n) h = of_short n h
of_sized (stmts.Task n) h = of_short n h
of_sized (stmts.Line s) h = no_bad s h
of_sized (stmts.Command c) h = order_short c.order h
of_sized (stmts.Event s a) h = both_false (is_too_long s) (has_long_name a) (of_short s h.0) (act_short a h.1)
of_sized _ h = refl

pub of_new : (d : Draft) (st : Stmt) → IsNew d st → is_repeated d st ≡ false
of_new d (stmts.System n) h = none_there (system_place d.deck.systems n) h
of_new d (stmts.Job n) h = none_there (job_place (jobs_now d.deck.systems) n) h
of_new d (stmts.Task n) h = none_there (task_place (tasks_now (jobs_now d.deck.systems)) n) h
of_new d _ h = refl

pub of_placed : (d : Draft) (st : Stmt) → IsPlaced d st → is_misplaced d st ≡ false
of_placed d (stmts.Complex c) h = h
of_placed d (stmts.Rnldef r) h = rw h refl
of_placed d (stmts.Job n) h = there_not (length d.deck.systems) h
of_placed d (stmts.Task n) h = there_not (length (jobs_now d.deck.systems)) h
of_placed d (stmts.Line s) h = there_not (length (tasks_now (jobs_now d.deck.systems))) h
of_placed d (stmts.Command c) h =
    both_false (eqb (length d.deck.systems) 0) (not (eqb (length (jobs_now d.deck.systems)) 0))
    (there_not (length d.deck.systems) h.0) (rw h.1 refl)
of_placed d stmts.Schedule h = there_not (length d.deck.systems) h
of_placed d _ h = refl

pub of_room : (d : Draft) (st : Stmt) → HasRoom d st → is_full d st ≡ false
of_room d (stmts.Rnldef r) h = fewer_not 4096 (length (list_of r.which d.deck.lists).entries) h
of_room d (stmts.System n) h = fewer_not 8 (length d.deck.systems) h
of_room d (stmts.Job n) h = fewer_not 64 (length (jobs_now d.deck.systems)) h
of_room d (stmts.Task n) h = fewer_not 64 (task_count (jobs_now d.deck.systems)) h
of_room d (stmts.Line s) h =
    both_false (eqb d.room 0) (shows s && eqb d.displays 0) (there_not d.room h.0) (shown_not (shows s) d.displays h.1)
of_room d (stmts.Command c) h = fewer_not 64 (length (desk_now d.deck.systems)) h
of_room d _ h = refl

pub of_known : (d : Draft) (st : Stmt) → IsKnown d st → is_unknown d st ≡ false
of_known d (stmts.Event s a) h = found_there (event_of d.deck.systems s a) h.0 h.1
of_known d (stmts.Command c) h = order_known d c.order h
of_known d _ h = refl

-- no test applies to a statement that is right
pub no_test : (d : Draft) (st : Stmt) → MayStand d st
    → NoFault (has_bad_name st) (is_repeated d st) (is_misplaced d st) (is_full d st) (is_unknown d st)
no_test d st h = record {
  long = of_sized st h.sized;
  repeated = of_new d st h.new;
  misplaced = of_placed d st h.placed;
  full = of_room d st h.room;
  unknown = of_known d st h.known;
}

pub of_right : (d : Draft) (st : Stmt) → MayStand d st → verdict d st ≡ None
of_right d st h = let t = no_test d st h in rw (t.long, t.repeated, t.misplaced, t.full, t.unknown) refl

-- ---- lines

pub judged_again : (d : Draft) (l : TokenLine) (st : Stmt) → Spells d.scheduled d.deck.entries l st → MayStand d st
    → judge d l ≡ Ok (grow d st)
unfolding judge
judged_again d l st h k = rw (form_again d.scheduled d.deck.entries l st h, of_right d st k) refl

abbrev ok_draft : Draft → Result Draft DeckFault
ok_draft d = Ok d

draft_is : (d e : Draft) → ok_draft d ≡ ok_draft e → d ≡ e
draft_is d e h = cc

abbrev pub no_error : Deck → Result Deck DeckFault
no_error d = Ok d

deck_is : (d e : Deck) → no_error d ≡ no_error e → d ≡ e
deck_is d e h = cc

pub says : (ls : List TokenLine) (d e : Draft) → judge_all d ls ≡ Ok e → Says d ls e
unfolding judge_all
says [] d e h = draft_is d e h
says (l ∷ ls) d e h =
    let b = bind_ok (judge d l) (λ new. judge_all new ls) e h in
    let j = judged d b.0 l b.1 in (
      j.st,
      form_taken d.scheduled d.deck.entries l j.st j.formed,
      right_of d j.st j.right,
      says ls (grow d j.st) e (ap (λ (x : Draft). judge_all x ls) j.grown ∙ b.2),
    )

pub says_again : (ls : List TokenLine) (d e : Draft) → Says d ls e → judge_all d ls ≡ Ok e
unfolding judge_all
says_again [] d e h = ap ok_draft h
says_again (l ∷ ls) d e h = rw (judged_again d l h.0 h.1 h.2) (says_again ls (grow d h.0) e h.3)

-- ---- texts

ended_there : (d : Draft) (e : Deck) → ended d ≡ Ok e → (0 < length d.deck.systems) × (d.deck ≡ e)
ended_there d e h = go (eqb (length d.deck.systems) 0) refl h
  where
    go : (b : Bool) → eqb (length d.deck.systems) 0 ≡ b → cond b (refused 0 NoSystem) (no_error d.deck) ≡ no_error e
        → (0 < length d.deck.systems) × (d.deck ≡ e)
    go true is k = absurd cc
    go false is k = (there (length d.deck.systems) is, deck_is d.deck e k)

-- What is read is spelled.
pub reading_spells : (text : List ℕ) (deck : Deck) → reading text ≡ Ok deck → SpellsDeck text deck
unfolding reading
reading_spells text deck h =
    let b =
    bind_ok (lines_or_fault text) (λ ls. judge_all (first_draft ls) (statements ls) >>= ended) deck h in
    let t = read_text text b.0 b.1 in
    let j = bind_ok (judge_all (first_draft b.0) (statements b.0)) ended deck b.2 in
    let e = ended_there j.0 deck j.2 in
    record {
      short = t.short;
      lines = b.0;
      spelled = t.spelled;
      draft = j.0;
      says = says (statements b.0) (first_draft b.0) j.0 j.1;
      is = e.1;
      system = subst (λ (x : Deck). 0 < length x.systems) e.1 e.0;
    }

-- What is spelled is read.
pub spells_reading : (text : List ℕ) (deck : Deck) → SpellsDeck text deck → reading text ≡ Ok deck
unfolding reading
spells_reading text deck h =
    let some : 0 < length h.draft.deck.systems = subst (λ (x : Deck). 0 < length x.systems) (sym h.is) h.system in
    rw (
      text_read text h.lines h.short h.spelled,
      says_again (statements h.lines) (first_draft h.lines) h.draft h.says,
      there_not (length h.draft.deck.systems) some,
    )
    (ap no_error h.is)

-- ---- the answers of the reader

pub no_fault_of : (text : List ℕ) (d : Deck) → reading text ≡ Ok d → fault text ≡ None
unfolding fault
no_fault_of text d h = ap fault_of h

pub fault_is : (text : List ℕ) (f : DeckFault) → reading text ≡ Err f → fault text ≡ Some f
unfolding fault
fault_is text f h = ap fault_of h

pub only : (text : List ℕ) (r : Result Deck ReadError) → Gives r (reading text) → (d : Deck) → SpellsDeck text d
    → IsOkUnlessMemory r d
only text (Ok e) h d s = deck_is e d (sym h ∙ spells_reading text d s)
only text (Err read_errors.NoMemory) h d s = tt
only text (Err (read_errors.Fault f)) h d s =
    absurd (let k : no_error d ≡ Err f = sym (spells_reading text d s) ∙ h in cc)

pub one : (text : List ℕ) (d e : Deck) → SpellsDeck text d → SpellsDeck text e → d ≡ e
one text d e h k = deck_is d e (sym (spells_reading text d h) ∙ spells_reading text e k)

pub spelled_none : (text : List ℕ) (d : Deck) → SpellsDeck text d → fault text ≡ None
spelled_none text d h = no_fault_of text d (spells_reading text d h)
