-- The printed lines of events of a deck spell these events.
use Rattle.std.proofs.Common.{◌≡◌, ℕ, ◌+◌, ◌-◌, ◌*◌, ◌/◌, ◌%◌, ◌^◌, ◌<◌, ◌≤◌, Bool, true, false, cond, eqb, leb, ltb}
use Rattle.std.proofs.Common.{List, [], ◌∷◌}
use Rattle.std.proofs.Common.{◌++◌, length, map, get_or, codes, Option, Some, None, refl, sym, ap, subst, ◌∙◌, arith}
use Rattle.std.proofs.Common.{inl, inr, lit<}
use Rattle.std.specs.Prelude.{All, ◌&&◌, ◌||◌, ◌≢◌, slice_get}
use Rattle.std.specs.Fmt.{decimal}
use Rattle.std.specs.List.{list_all, flat_map}
use Rattle.std.proofs.lemmas.Bool.{and_from, and_parts, ne_eqb, le-leb, ltb-true, ltb-false}
use Rattle.std.proofs.lemmas.Bool.Decides.{nat_tests}
use Rattle.std.proofs.lemmas.Fmt.{decimal_digit, decimal_step}
use Rattle.std.proofs.lemmas.List.Elements.{All-head, All-tail}
use Rattle.std.proofs.lemmas.List.Folds.{list_all-append}
use Rattle.std.proofs.lemmas.Option.{slice_get-get_or}
use Rattle.grs_base.specs.Limits.{is_entries}
use Rattle.grs_base.specs.ShortNames.{is_digit, is_name_byte, all_name, is_name, IsShortName}
use Rattle.grs_base.specs.declared.resource.SysId.{SysId}
use Rattle.grs_base.specs.declared.resource.TaskId.{TaskId}
use Rattle.grs_wire.specs.Decks.{IsChoiceOf, IsEventOf, IsDeck}
use Rattle.grs_wire.specs.declared.seen.Names.{Names}
use Rattle.grs_wire.specs.declared.deck.Choice.{Choice}
use Rattle.grs_wire.specs.declared.deck.Choice.TheVariants as choices
use Rattle.grs_wire.specs.declared.deck.SystemDef.{SystemDef}
use Rattle.grs_wire.specs.declared.deck.Event.{Event}
use Rattle.grs_wire.specs.declared.deck.Deck.{Deck}
use Rattle.deck_scan.specs.Bytes.{is_word}
use Rattle.deck_scan.specs.Next.{◌>>=◌}
use Rattle.deck_scan.specs.Pieces.{Plain, is_piece, is_nonempty, SpellsLines}
use Rattle.deck_scan.specs.declared.token.Token.{Token}
use Rattle.deck_scan.specs.declared.token.Token.TheVariants.{Word}
use Rattle.deck_form.specs.Spelled.{IsAct}
use Rattle.deck_form.specs.Words.{digits, written_number}
use Rattle.deck_form.specs.declared.event.EventAct.{EventAct}
use Rattle.deck_form.specs.declared.event.EventAct.TheVariants as acts
use Rattle.deck_form.specs.declared.form.Stmt.TheVariants as stmts
use Rattle.grs_deck.specs.EventLines.{SaysEvent, SayEvents, SpellsEvents}
use Rattle.grs_deck.specs.Places.{system_at, choice_of, event_of, system_id}
use Rattle.grs_deck.specs.Spells.{IsShortAct}
use Rattle.grs_display.specs.Lines.{line}
use Rattle.grs_display.specs.Names.{names_of, name_at, name_in, task_in_job}
use Rattle.grs_report.specs.Schedule.{choice_words, event_line}
use Rattle.grs_audit.proofs.NamedAgain.{IsFound, found, IsTaskFound, task_found}
use Rattle.grs_top.proofs.WordLines.{Words, is_line_word, are_words, text_of, numbered, words_spell}

-- ---- words

name_byte_word : (b : ℕ) → is_name_byte b ≡ true → is_word b ≡ true
unfolding is_name_byte is_word
name_byte_word b h = grind (arith, nat_tests, h)

all_words : (bs : List ℕ) → all_name bs ≡ true → list_all is_word bs ≡ true
unfolding all_name
all_words [] h = refl
all_words (b ∷ bs) h =
    let k = and_parts (is_name_byte b) (all_name bs) h in
    and_from (is_word b) (list_all is_word bs) (name_byte_word b k.0) (all_words bs k.1)

name_words : (n : List ℕ) → is_name n ≡ true → list_all is_word n ≡ true
unfolding is_name
name_words [] h = absurd cc
name_words (b ∷ bs) h = all_words (b ∷ bs) (and_parts _ (all_name (b ∷ bs)) h).1

name_word : (n : List ℕ) → is_name n ≡ true → is_line_word n ≡ true
unfolding is_name
name_word [] h = absurd cc
name_word (b ∷ bs) h = and_from (is_nonempty (b ∷ bs)) (list_all is_word (b ∷ bs)) refl (name_words (b ∷ bs) h)

point_word : is_word 46 ≡ true
unfolding is_word
point_word = refl

pair_word : (j t : List ℕ) → is_name j ≡ true → is_name t ≡ true → is_line_word (j ++ 46 ∷ t) ≡ true
unfolding is_name
pair_word [] t h k = absurd cc
pair_word (b ∷ bs) t h k =
    and_from (is_nonempty (b ∷ (bs ++ 46 ∷ t))) (list_all is_word ((b ∷ bs) ++ 46 ∷ t)) refl
    (list_all-append is_word (b ∷ bs) (46 ∷ t) ∙ rw (name_words (b ∷ bs) h, point_word, name_words t k) refl)

fixed_words : (is_line_word (codes "TASK") ≡ true) × (is_line_word (codes "TURN") ≡ true)
    × (is_line_word (codes "SEND") ≡ true) × (is_line_word (codes "TAKE") ≡ true)
    × (is_line_word (codes "SETTLE") ≡ true) × (is_line_word (codes "TELL") ≡ true)
    × (is_line_word (codes "LEAVE") ≡ true) × (is_line_word (codes "SWITCH") ≡ true)
    × (is_line_word (codes "PURGE") ≡ true) × (is_line_word (codes "REST") ≡ true)
    × (is_line_word (codes "PART") ≡ true)
unfolding is_word
fixed_words = (refl, refl, refl, refl, refl, refl, refl, refl, refl, refl, refl)

-- ---- numbers of entries

digit_is : (n : ℕ) → n < 10 → is_digit (48 + n) ≡ true
digit_is n h =
    and_from (leb 48 (48 + n)) (leb (48 + n) 57) (le-leb 48 (48 + n) (omega arith))
    (le-leb (48 + n) 57 (omega (arith, h)))

digit_word : (n : ℕ) → n < 10 → is_word (48 + n) ≡ true
unfolding is_word
digit_word n h = grind (arith, nat_tests, h)

some_number : ℕ → Option ℕ
some_number n = Some n

one_digit : (n : ℕ) → n < 10 → written_number ((48 + n) ∷ []) ≡ Some n
unfolding written_number digits some_number
one_digit n h = rw (digit_is n h) (ap some_number (omega arith))

two_digits : (n m : ℕ) → n < 10 → m < 10 → written_number ((48 + n) ∷ (48 + m) ∷ []) ≡ Some (n * 10 + m)
unfolding written_number digits some_number
two_digits n m h k = rw (digit_is n h, digit_is m k) (ap some_number (omega arith))

record IsNumber (n : ℕ) : Type 0 where
  word : is_line_word (decimal n) ≡ true
  read : written_number (decimal n) ≡ Some n

small_number : (n : ℕ) → n < 100 → n < 2 ^ 64
small_number n h = omega (arith, h)

number_again : (n : ℕ) → n < 100 → IsNumber n
unfolding some_number
number_again n small = go (ltb n 10) refl
  where
    go : (b : Bool) → ltb n 10 ≡ b → IsNumber n
    go true e =
        let lt : n < 10 = ltb-true n 10 e in
        let is = decimal_digit n lt in
        record { word = rw (is, digit_word n lt) refl; read = rw is (one_digit n lt) }
    go false e =
        let le : 10 ≤ n = ltb-false n 10 e in
        let high : n / 10 < 10 = omega (arith, small) in
        let low : n % 10 < 10 = omega arith in
        let is : decimal n ≡ (48 + n / 10) ∷ (48 + n % 10) ∷ [] =
        decimal_step n le (small_number n small)
        ∙ ap (λ (ds : List ℕ). ds ++ (48 + n % 10) ∷ []) (decimal_digit (n / 10) high) in
        let all : n / 10 * 10 + n % 10 ≡ n = omega arith in
        record {
          word = rw (is, digit_word (n / 10) high, digit_word (n % 10) low) refl;
          read = rw is (two_digits (n / 10) (n % 10) high low ∙ ap some_number all);
        }

-- an entry has at most two digits
few_entries : (n : ℕ) → is_entries n ≡ true → n < 100
few_entries n h = grind (arith, nat_tests, h)

-- ---- an event

-- what its line says
abbrev act_of : Names → Choice → EventAct
act_of names (choices.Task t) = acts.Task (name_in names.jobs t.system.0 t.job) (name_in names.tasks t.system.0 t.task)
act_of names choices.Turn = acts.Turn
act_of names (choices.Send t) = acts.Send (name_in names.jobs t.system.0 t.job) (name_in names.tasks t.system.0 t.task)
act_of names choices.Take = acts.Take
act_of names choices.Settle = acts.Settle
act_of names (choices.Tell e) = acts.Tell e
act_of names (choices.Part e) = acts.Part e
act_of names (choices.Leave e) = acts.Leave e
act_of names choices.Switch = acts.Switch
act_of names (choices.Purge s) = acts.Purge (name_at names.systems s.0)
act_of names choices.Rest = acts.Rest

record IsActOf (deck : Deck) (s : SystemDef) (id : SysId) (c : Choice) : Type 0 where
  words : list_all is_line_word (choice_words (names_of deck) c) ≡ true
  spelled : IsAct deck.entries (map (λ w. Word w) (choice_words (names_of deck) c)) (act_of (names_of deck) c)
  short : IsShortAct (act_of (names_of deck) c)
  is : choice_of deck.systems id s (act_of (names_of deck) c) ≡ Some c

plain_act : (deck : Deck) (s : SystemDef) (id : SysId)
    → IsActOf deck s id choices.Turn × IsActOf deck s id choices.Take × IsActOf deck s id choices.Settle
    × IsActOf deck s id choices.Switch × IsActOf deck s id choices.Rest
unfolding choice_words
plain_act deck s id = (
  record { words = rw fixed_words.1 refl; spelled = refl; short = tt; is = refl },
  record { words = rw fixed_words.3 refl; spelled = refl; short = tt; is = refl },
  record { words = rw fixed_words.4 refl; spelled = refl; short = tt; is = refl },
  record { words = rw fixed_words.7 refl; spelled = refl; short = tt; is = refl },
  record { words = rw fixed_words.9 refl; spelled = refl; short = tt; is = refl },
)

task_act : (deck : Deck) (s : SystemDef) (id : SysId) (t : TaskId) → IsTaskFound deck id s t
    → IsActOf deck s id (choices.Task t) × IsActOf deck s id (choices.Send t)
unfolding choice_words task_in_job
task_act deck s id t f =
    let pair = pair_word f.job f.task f.job_short.0 f.task_short.0 in (
      record {
        words = rw (f.job_word, f.task_word, fixed_words.0, pair) refl;
        spelled = rw (f.job_word, f.task_word) (refl, f.job_short.0, f.task_short.0);
        short = rw (f.job_word, f.task_word) (f.job_short.1, f.task_short.1);
        is = rw (f.job_word, f.task_word, f.at) refl;
      },
      record {
        words = rw (f.job_word, f.task_word, fixed_words.2, pair) refl;
        spelled = rw (f.job_word, f.task_word) (refl, f.job_short.0, f.task_short.0);
        short = rw (f.job_word, f.task_word) (f.job_short.1, f.task_short.1);
        is = rw (f.job_word, f.task_word, f.at) refl;
      },
    )

entry_act : (deck : Deck) (s : SystemDef) (id : SysId) (e : ℕ) → IsDeck deck → e < deck.entries
    → IsActOf deck s id (choices.Tell e) × IsActOf deck s id (choices.Part e) × IsActOf deck s id (choices.Leave e)
unfolding choice_words
entry_act deck s id e h lt =
    let few = few_entries deck.entries h.entries in
    let n = number_again e (omega (arith, few, lt)) in (
      record {
        words = rw (fixed_words.5, n.word) refl;
        spelled = (decimal e, refl, n.read, lt);
        short = tt;
        is = refl;
      },
      record {
        words = rw (fixed_words.10, n.word) refl;
        spelled = (decimal e, refl, n.read, lt);
        short = tt;
        is = refl;
      },
      record {
        words = rw (fixed_words.6, n.word) refl;
        spelled = (decimal e, refl, n.read, lt);
        short = tt;
        is = refl;
      },
    )

purge_act : (deck : Deck) (s : SystemDef) (id other : SysId) → IsDeck deck → other.0 < length deck.systems
    → other.0 ≢ id.0 → IsActOf deck s id (choices.Purge other)
unfolding choice_words
purge_act deck s id other h lt apart =
    let p = get_or deck.systems other.0 s in
    let f = found deck other.0 p h (slice_get-get_or deck.systems other.0 s lt) in
    record {
      words = rw (f.word, fixed_words.8, name_word p.name f.short.0) refl;
      spelled = rw f.word (refl, f.short.0);
      short = rw f.word f.short.1;
      is = rw (f.word, f.at, ne_eqb other.0 id.0 apart) refl;
    }

of_choice : (deck : Deck) (s : SystemDef) (id : SysId) (c : Choice) → IsDeck deck → slice_get deck.systems id.0 ≡ Some s
    → IsChoiceOf deck.systems deck.entries s id c → IsActOf deck s id c
of_choice deck s id (choices.Task t) h at of = (task_act deck s id t (task_found deck id s t h at of)).0
of_choice deck s id choices.Turn h at of = (plain_act deck s id).0
of_choice deck s id (choices.Send t) h at of = (task_act deck s id t (task_found deck id s t h at of)).1
of_choice deck s id choices.Take h at of = (plain_act deck s id).1
of_choice deck s id choices.Settle h at of = (plain_act deck s id).2
of_choice deck s id (choices.Tell e) h at of = (entry_act deck s id e h of).0
of_choice deck s id (choices.Part e) h at of = (entry_act deck s id e h of).1
of_choice deck s id (choices.Leave e) h at of = (entry_act deck s id e h of).2
of_choice deck s id choices.Switch h at of = (plain_act deck s id).3
of_choice deck s id (choices.Purge other) h at of = purge_act deck s id other h of.0 of.1
of_choice deck s id choices.Rest h at of = (plain_act deck s id).4

-- ---- events

abbrev words_of : Names → Event → Words
words_of names e = (name_at names.systems e.system.0, choice_words names e.choice)

record IsRead (deck : Deck) (e : Event) : Type 0 where
  words : are_words (words_of (names_of deck) e) ≡ true
  says : (n : ℕ)
      → SaysEvent deck.systems deck.entries
      (record {
        at = n;
        tokens = Word (name_at (names_of deck).systems e.system.0)
            ∷ map (λ w. Word w) (choice_words (names_of deck) e.choice);
        joined = false;
      })
      e

read_event : (deck : Deck) (e : Event) → IsDeck deck → IsEventOf deck.systems deck.entries e → IsRead deck e
read_event deck e h of =
    let f = found deck e.system.0 of.found h of.system in
    let a = of_choice deck of.found e.system e.choice h of.system of.choice in
    let at : system_at deck.systems of.found.name ≡ Some (e.system, of.found) = f.at in
    record {
      words = rw (f.word, name_word of.found.name f.short.0) a.words;
      says = λ n. record {
        st = stmts.Event of.found.name (act_of (names_of deck) e.choice);
        spelled = (
          map (λ w. Word w) (choice_words (names_of deck) e.choice),
          ap (λ (x : List ℕ). Word x ∷ map (λ w. Word w) (choice_words (names_of deck) e.choice)) f.word,
          f.short.0,
          a.spelled,
        );
        sized = (f.short.1, a.short);
        event = rw (at, a.is) refl;
      };
    }

all_words_right : (deck : Deck) (es : List Event) → IsDeck deck → All (IsEventOf deck.systems deck.entries) es
    → list_all are_words (map (words_of (names_of deck)) es) ≡ true
all_words_right deck [] h of = refl
all_words_right deck (e ∷ es) h of =
    let first = read_event deck e h (All-head (IsEventOf deck.systems deck.entries) e es of) in
    and_from (are_words (words_of (names_of deck) e)) _ first.words
    (all_words_right deck es h (All-tail (IsEventOf deck.systems deck.entries) e es of))

all_say : (deck : Deck) (es : List Event) (n : ℕ) → IsDeck deck → All (IsEventOf deck.systems deck.entries) es
    → SayEvents deck.systems deck.entries (numbered n (map (words_of (names_of deck)) es)) es
all_say deck [] n h of = tt
all_say deck (e ∷ es) n h of =
    let first = read_event deck e h (All-head (IsEventOf deck.systems deck.entries) e es of) in
    (first.says n, all_say deck es (n + 1) h (All-tail (IsEventOf deck.systems deck.entries) e es of))

same_text : (names : Names) (es : List Event) → text_of (map (words_of names) es) ≡ flat_map (event_line names) es
unfolding event_line
same_text names [] = refl
same_text names (e ∷ es) = ap (λ (t : List ℕ). event_line names e ++ t) (same_text names es)

-- The printed lines of a deck's events spell these events.
pub printed_spell : (deck : Deck) (es : List Event) → IsDeck deck → All (IsEventOf deck.systems deck.entries) es
    → SpellsEvents deck.systems deck.entries (flat_map (event_line (names_of deck)) es) es
printed_spell deck es h of = record {
  lines = numbered 1 (map (words_of (names_of deck)) es);
  spelled =
      subst (λ (t : List ℕ). SpellsLines t (numbered 1 (map (words_of (names_of deck)) es)))
      (same_text (names_of deck) es) (words_spell (map (words_of (names_of deck)) es) (all_words_right deck es h of));
  says = all_say deck es 1 h of;
}
