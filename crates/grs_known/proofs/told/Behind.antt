-- What agrees behind the lines of a task's system agrees behind all lines.
use Rattle.std.proofs.Common.{◌≡◌, ℕ, ◌-◌, Bool, true, false, not, ◌||◌, List, [], ◌∷◌, Option, Some, None, refl, ap}
use Rattle.std.proofs.Common.{sym, ◌∙◌, arith}
use Rattle.std.specs.Prelude.{filter, ◌==◌, slice_get}
use Rattle.std.specs.List.{list_any, list_all}
use Rattle.std.proofs.lemmas.Bool.{and_parts, eq-eqb, eqb-true}
use Rattle.std.proofs.lemmas.Map.Views.{any-filter_same}
use Rattle.grs_base.specs.Same.{same_task}
use Rattle.grs_base.specs.State.{State}
use Rattle.grs_base.specs.declared.resource.Res.{Res}
use Rattle.grs_base.specs.declared.resource.TaskId.{TaskId}
use Rattle.grs_base.proofs.SameLaws.{same_task-exact}
use Rattle.grs_base.specs.declared.decision.Code.{Code}
use Rattle.grs_base.specs.declared.decision.Code.TheVariants.{C00, C04, C08, C14, C18, Wait, End}
use Rattle.grs_wire.specs.History.{replay}
use Rattle.grs_wire.specs.declared.deck.Deck.{Deck}
use Rattle.grs_wire.specs.declared.history.HistEntry.{HistEntry}
use Rattle.grs_wire.specs.declared.told.Verb.{Verb}
use Rattle.grs_wire.specs.declared.told.Verb.TheVariants as verbs
use Rattle.grs_wire.specs.declared.told.ToldLine.{ToldLine}
use Rattle.grs_wire.specs.declared.told.ToldLine.TheVariants.{Coded, Shown, Post, Ended, Desk}
use Rattle.grs_legal.specs.Asks.{lines_of}
use Rattle.grs_legal.specs.Legal.{line_entries}
use Rattle.grs_legal.specs.declared.meaning.Meaning.{Meaning}
use Rattle.grs_legal.specs.declared.meaning.Meaning.TheVariants as meanings
use Rattle.grs_known.specs.Told.{AgreesOf, CodeAgrees, TellsWait, TellsWaitOf, tells_control, is_code_before}
use Rattle.grs_known.specs.Told.{is_code_of, is_post_of, is_end_of}
use Rattle.grs_known.proofs.system.Says.{AgreesBehind, is_line_of}

-- a line told to a task is of the task's system
line-home : (n : ℕ) (t u : TaskId) → t.system.0 ≡ n → same_task t u ≡ true → (u.system.0 == n) ≡ true
line-home n t u home same = grind (arith, eq-eqb, home, same_task-exact t u same)

tells_control-home : (n : ℕ) (t : TaskId) (ls : List Meaning) (entries : List HistEntry) (r : Res) → t.system.0 ≡ n
    → (l : ToldLine) → tells_control t ls entries r l ≡ true → is_line_of n l ≡ true
tells_control-home n t ls entries r home (Coded u k part verb code) h = line-home n t u home (and_parts _ _ h).0
tells_control-home n t ls entries r home (Shown u k verb code rows) h = absurd (cc)
tells_control-home n t ls entries r home (Post u k) h = line-home n t u home (and_parts _ _ h).0
tells_control-home n t ls entries r home (Ended u code) h = absurd (cc)
tells_control-home n t ls entries r home (Desk k said) h = absurd (cc)

is_code_of-home : (n : ℕ) (t : TaskId) (k : ℕ) → t.system.0 ≡ n → (l : ToldLine) → is_code_of t k l ≡ true
    → is_line_of n l ≡ true
is_code_of-home n t k home (Coded u j part verb code) h = line-home n t u home (and_parts _ _ h).0
is_code_of-home n t k home (Shown u j verb code rows) h = line-home n t u home (and_parts _ _ h).0
is_code_of-home n t k home (Post u j) h = absurd (cc)
is_code_of-home n t k home (Ended u code) h = absurd (cc)
is_code_of-home n t k home (Desk j said) h = absurd (cc)

is_post_of-home : (n : ℕ) (t : TaskId) (k : ℕ) → t.system.0 ≡ n → (l : ToldLine) → is_post_of t k l ≡ true
    → is_line_of n l ≡ true
is_post_of-home n t k home (Coded u j part verb code) h = absurd (cc)
is_post_of-home n t k home (Shown u j verb code rows) h = absurd (cc)
is_post_of-home n t k home (Post u j) h = line-home n t u home (and_parts _ _ h).0
is_post_of-home n t k home (Ended u code) h = absurd (cc)
is_post_of-home n t k home (Desk j said) h = absurd (cc)

is_end_of-home : (n : ℕ) (t : TaskId) → t.system.0 ≡ n → (l : ToldLine) → is_end_of t l ≡ true → is_line_of n l ≡ true
is_end_of-home n t home (Coded u j part verb code) h = absurd (cc)
is_end_of-home n t home (Shown u j verb code rows) h = absurd (cc)
is_end_of-home n t home (Post u j) h = absurd (cc)
is_end_of-home n t home (Ended u code) h = line-home n t u home h
is_end_of-home n t home (Desk j said) h = absurd (cc)

away : (n : ℕ) (t u : TaskId) (b : Bool) → t.system.0 ≡ n → (u.system.0 == n) ≡ false
    → (not (same_task t u) || b) ≡ true
away n t u b home h = grind (arith, h, line-home n t u home)

is_code_before-away : (n : ℕ) (t : TaskId) (k : ℕ) → t.system.0 ≡ n → (l : ToldLine) → is_line_of n l ≡ false
    → is_code_before t k l ≡ true
is_code_before-away n t k home (Coded u j part verb code) h = away n t u _ home h
is_code_before-away n t k home (Shown u j verb code rows) h = away n t u _ home h
is_code_before-away n t k home (Post u j) h = refl
is_code_before-away n t k home (Ended u code) h = refl
is_code_before-away n t k home (Desk j said) h = refl

all-filter : {X : Type 0} (test p : X → Bool) → ((x : X) → p x ≡ false → test x ≡ true) → (xs : List X)
    → list_all test (filter p xs) ≡ list_all test xs
all-filter test p away [] = refl
all-filter test p away (x ∷ xs) = grind (arith, away x, all-filter test p away xs)

-- the lines told before have the lines of a system's tasks, as the system told them beside those of its desk
record Lines (n : ℕ) (before after : List ToldLine) : Type 0 where
  theirs : filter (is_line_of n) before ≡ filter (is_line_of n) after

any-told : (n : ℕ) (before after : List ToldLine) (test : ToldLine → Bool) → Lines n before after
    → ((l : ToldLine) → test l ≡ true → is_line_of n l ≡ true) → list_any test after ≡ list_any test before
any-told n before after test lines home =
    sym (any-filter_same test (is_line_of n) true home after)
    ∙ (ap (list_any test) (sym lines.theirs) ∙ any-filter_same test (is_line_of n) true home before)

ended-told : (n : ℕ) (before after : List ToldLine) (t : TaskId) → Lines n before after → t.system.0 ≡ n
    → list_any (is_end_of t) before ≡ false → list_any (is_end_of t) after ≡ false
ended-told n before after t lines home h = any-told n before after (is_end_of t) lines (is_end_of-home n t home) ∙ h

codes-told : (n : ℕ) (before after : List ToldLine) (t : TaskId) (k : ℕ) → Lines n before after → t.system.0 ≡ n
    → list_all (is_code_before t k) before ≡ true → list_all (is_code_before t k) after ≡ true
codes-told n before after t k lines home h =
    sym (all-filter (is_code_before t k) (is_line_of n) (is_code_before-away n t k home) after)
    ∙ (ap (list_all (is_code_before t k)) (sym lines.theirs)
    ∙ (all-filter (is_code_before t k) (is_line_of n) (is_code_before-away n t k home) before ∙ h))

-- what a WAIT line tells
tells_wait-behind :
    (n : ℕ) (s : State) (before after : List ToldLine) (t : TaskId) (ls : List Meaning) (entries : List HistEntry)
    (code : Code) (m : Option Meaning)
    → Lines n before after → t.system.0 ≡ n → TellsWait t ls entries before s code m
    → TellsWait t ls entries after s code m
tells_wait-behind n s before after t ls entries code None lines home a = a
tells_wait-behind n s before after t ls entries code (Some (meanings.Enq r c ret unit)) lines home a = a
tells_wait-behind n s before after t ls entries code (Some (meanings.Deq r have)) lines home a = a
tells_wait-behind n s before after t ls entries code (Some (meanings.Shows d)) lines home a = a
tells_wait-behind n s before after t ls entries code (Some meanings.Nothing) lines home a = a
tells_wait-behind n s before after t ls entries code (Some (meanings.Wait r)) lines home a = by_code code a
  where
    by_code : (c : Code) → TellsWaitOf t ls entries before s r c → TellsWaitOf t ls entries after s r c
    by_code C00 b = (
      b.0,
      any-told n before after (tells_control t ls entries r) lines (tells_control-home n t ls entries r home) ∙ b.1,
    )
    by_code C04 b = b
    by_code C08 b = b
    by_code C14 b = b
    by_code C18 b = b
    by_code Wait b = b
    by_code (End m) b = b

code-behind :
    (limit : ℕ) (n : ℕ) (P : List HistEntry) (before after : List ToldLine) (t : TaskId) (ls : List Meaning) (j : ℕ)
    (code : Code) (verb : Verb)
    → Lines n before after → t.system.0 ≡ n → CodeAgrees limit t ls P before j code verb
    → CodeAgrees limit t ls P after j code verb
code-behind limit n P before after t ls j code verbs.Enq lines home a = a
code-behind limit n P before after t ls j code verbs.Deq lines home a = a
code-behind limit n P before after t ls j code verbs.Gqscan lines home a = a
code-behind limit n P before after t ls j code verbs.Display lines home a = a
code-behind limit n P before after t ls j code verbs.Wait lines home a =
    tells_wait-behind n (replay limit P) before after t ls (line_entries t P) code (slice_get ls (j - 1)) lines home a

-- what agrees behind the lines of a task's system agrees behind all lines
agrees-behind :
    (limit : ℕ) (n : ℕ) (P : List HistEntry) (before after : List ToldLine) (ls : Option (List Meaning)) (l : ToldLine)
    → Lines n before after → is_line_of n l ≡ true → AgreesOf limit ls P before l → AgreesOf limit ls P after l
agrees-behind limit n P before after None l lines home a = a
agrees-behind limit n P before after (Some ls) (Coded t k part verb code) lines home a =
    let at = eqb-true _ _ home in (
      a.0,
      code-behind limit n P before after t ls k code verb lines at a.1,
      codes-told n before after t k lines at a.2,
      ended-told n before after t lines at a.3,
    )
agrees-behind limit n P before after (Some ls) (Post t k) lines home a =
    let at = eqb-true _ _ home in (
      a.0,
      a.1,
      any-told n before after (is_code_of t k) lines (is_code_of-home n t k at) ∙ a.2,
      any-told n before after (is_post_of t k) lines (is_post_of-home n t k at) ∙ a.3,
      ended-told n before after t lines at a.4,
    )
agrees-behind limit n P before after (Some ls) (Ended t code) lines home
    a = (a.0, a.1, a.2, ended-told n before after t lines (eqb-true _ _ home) a.3)
agrees-behind limit n P before after (Some ls) (Shown t k verb code rows) lines home a =
    let at = eqb-true _ _ home in
    (a.0, a.1, codes-told n before after t k lines at a.2, ended-told n before after t lines at a.3)
agrees-behind limit n P before after (Some ls) (Desk k said) lines home a = a

pub line-behind : (deck : Deck) (n : ℕ) (P : List HistEntry) (before after : List ToldLine) (l : ToldLine)
    → is_line_of n l ≡ true → filter (is_line_of n) before ≡ filter (is_line_of n) after → AgreesBehind deck P before l
    → AgreesBehind deck P after l
line-behind deck n P before after (Coded t k part verb code) home theirs
    a = (
      a.0,
      agrees-behind deck.limit n P before after (lines_of deck t) (Coded t k part verb code)
          (record { theirs = theirs }) home a.1,
    )
line-behind deck n P before after (Shown t k verb code rows) home theirs a =
    agrees-behind deck.limit n P before after (lines_of deck t) (Shown t k verb code rows) (record { theirs = theirs })
    home a
line-behind deck n P before after (Post t k) home theirs a =
    agrees-behind deck.limit n P before after (lines_of deck t) (Post t k) (record { theirs = theirs }) home a
line-behind deck n P before after (Ended t code) home theirs a =
    agrees-behind deck.limit n P before after (lines_of deck t) (Ended t code) (record { theirs = theirs }) home a
line-behind deck n P before after (Desk k said) home theirs a = a
