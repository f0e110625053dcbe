-- A report whose history is legal is answered Yes.
use Rattle.std.proofs.Common.{◌≡◌, ◌<◌, ◌≤◌, ◌+◌, ◌-◌, ◌*◌, ◌/◌, ◌%◌, ◌^◌, ℕ, zero, suc, Bool, true, false, cond, List, []}
use Rattle.std.proofs.Common.{◌∷◌, ◌++◌, length, take, drop, get_or, Some, None, refl, ap, sym, subst, ◌∙◌, arith}
use Rattle.std.proofs.Common.{append_assoc, append-nil, length-append}
use Rattle.std.specs.Prelude.{◌==◌, All, codes, if◌then◌else◌}
use Rattle.std.specs.Fmt.{decimal}
use Rattle.std.specs.List.{flat_map}
use Rattle.std.specs.Option.{option_map}
use Rattle.std.specs.Str.{bytes_eq}
use Rattle.std.proofs.lemmas.Option.{slice_get-get_or}
use Rattle.std.proofs.lemmas.Bool.{le-leb, ne_eqb, and_from}
use Rattle.std.proofs.lemmas.Fmt.{decimal_by_steps, decimal_digit, decimal_nonempty, first_decimal}
use Rattle.std.proofs.lemmas.List.{take-append-drop}
use Rattle.std.proofs.lemmas.List.Elements.{All-head, All-tail}
use Rattle.std.proofs.lemmas.Bool.Decides.{nat_tests}
use Rattle.std.proofs.lemmas.Slice.Eq.{bytes_eq-Decides}
use Rattle.deck_form.specs.Words.{digits}
use Rattle.grs_base.specs.Limits.{is_entries}
use Rattle.grs_base.specs.ShortNames.{is_digit}
use Rattle.grs_base.specs.declared.resource.TaskId.{TaskId}
use Rattle.grs_display.specs.Lines.{line, spaced}
use Rattle.grs_display.specs.Names.{names_of, name_at, name_in, task_in_job}
use Rattle.grs_legal.specs.Legal.{Legal}
use Rattle.grs_audit.proofs.NamedAgain.{IsFound, IsTaskFound, found, task_found}
use Rattle.grs_report.specs.History.{history_line, history_lines, history_text}
use Rattle.grs_report.specs.Ends.{all_ended}
use Rattle.grs_report.specs.Report.{head_line, end_line, report}
use Rattle.grs_report.specs.Schedule.{choice_words, event_line, schedule_text}
use Rattle.grs_report.specs.State.{queues_text, units_text, words_text, mode_line}
use Rattle.grs_report.specs.Told.{told_text, systems_text}
use Rattle.grs_wire.specs.Decks.{IsDeck, IsEventOf, IsChoiceOf, IsTaskOf}
use Rattle.grs_wire.specs.declared.deck.Choice.{Choice}
use Rattle.grs_wire.specs.declared.deck.Choice.TheVariants as choices
use Rattle.grs_wire.specs.declared.deck.Deck.{Deck}
use Rattle.grs_wire.specs.declared.deck.Event.{Event}
use Rattle.grs_wire.specs.declared.deck.SystemDef.{SystemDef}
use Rattle.grs_wire.specs.declared.history.HistEntry.{HistEntry}
use Rattle.grs_wire.specs.declared.seen.Names.{Names}
use Rattle.grs_wire.specs.declared.seen.Seen.{Seen}
use Rattle.grs_base.specs.declared.resource.SysId.{SysId}
use Rattle.grs_audit.specs.Halves.{report_at}
use Rattle.grs_audit.specs.Lines.{lines_in, behind, holds}
use Rattle.grs_audit.specs.Reports.{ReportsAreYes}
use Rattle.grs_audit.specs.Verdicts.{Head, later, head_by, head_in, history_word, count_in, plain_number, IsVerdictOn}
use Rattle.grs_audit.specs.Way.{told_word, printed, IsWhole}
use Rattle.grs_audit.specs.declared.verdict.Verdict.TheVariants.{Yes}
use Rattle.grs_audit.proofs.HeadLaws.{lines-some}
use Rattle.grs_audit.proofs.LineLaws.{front-past, behind-past, holds-parts, holds-past, lines-append}
use Rattle.grs_audit.proofs.LineLaws.{name-no-blank, name-no-end, number-no-end}
use Rattle.grs_audit.proofs.PartLaws.{lines-few}
use Rattle.grs_audit.proofs.StepLaws.{told-whole, lines-count}
use Rattle.grs_audit.proofs.WayLaws.{entry_lines, entry-then, printed-cons}

-- ---- numbers, read again
digit_is : (n : ℕ) → n < 10 → is_digit (48 + n) ≡ true
digit_is n h = and_from _ _ (le-leb 48 (48 + n) (omega arith)) (le-leb (48 + n) 57 (omega (arith, h)))

digits-more : (m k d : ℕ) (ds : List ℕ) → digits m ds ≡ Some k → is_digit d ≡ true
    → digits m (ds ++ d ∷ []) ≡ Some (k * 10 + (d - 48))
unfolding digits
digits-more m k d [] e is =
    let same : m ≡ k = cc in
    ap (λ b. if b then Some (m * 10 + (d - 48)) else None) is ∙ ap (λ x. Some (x * 10 + (d - 48))) same
digits-more m k d (b ∷ ds) e is = go (is_digit b) (λ f. digits-more (m * 10 + (b - 48)) k d ds f is) e
  where
    go : (c : Bool)
        → (digits (m * 10 + (b - 48)) ds ≡ Some k
        → digits (m * 10 + (b - 48)) (ds ++ d ∷ []) ≡ Some (k * 10 + (d - 48)))
        → (if c then digits (m * 10 + (b - 48)) ds else None) ≡ Some k
        → (if c then digits (m * 10 + (b - 48)) (ds ++ d ∷ []) else None) ≡ Some (k * 10 + (d - 48))
    go true more f = more f
    go false more f = absurd (cc)

digits-decimal : (n : ℕ) → n < 2 ^ 64 → digits 0 (decimal n) ≡ Some n
unfolding digits
digits-decimal n small = decimal_by_steps (λ n ds. digits 0 ds ≡ Some n) one more n small
  where
    one : (n : ℕ) → n < 10 → digits 0 ((48 + n) ∷ []) ≡ Some n
    one n h =
        let value : 0 * 10 + (48 + n - 48) ≡ n = omega arith in
        ap (λ b. if b then Some (0 * 10 + (48 + n - 48)) else None) (digit_is n h) ∙ ap (λ x. Some x) value

    more : (n : ℕ) (ds : List ℕ) → 10 ≤ n → digits 0 ds ≡ Some (n / 10)
        → digits 0 (ds ++ (48 + n % 10) ∷ []) ≡ Some n
    more n ds le e =
        let low : n % 10 < 10 = omega arith in
        let value : n / 10 * 10 + (48 + n % 10 - 48) ≡ n = omega arith in
        digits-more 0 (n / 10) (48 + n % 10) ds e (digit_is (n % 10) low) ∙ ap (λ x. Some x) value

plain-decimal : (n : ℕ) → n < 2 ^ 64 → plain_number (decimal n) ≡ Some n
plain-decimal n small =
    go (decimal n) (digits-decimal n small) (decimal_nonempty n small) (λ some. first_decimal n some small) zero_digit
  where
    zero_digit : n ≡ 0 → length (decimal n) ≡ 1
    zero_digit e = ap length (decimal_digit n (omega (arith, e)))

    go : (ds : List ℕ) → digits 0 ds ≡ Some n → 0 < length ds → (0 < n → 48 < get_or ds 0 0) → (n ≡ 0 → length ds ≡ 1)
        → plain_number ds ≡ Some n
    go [] e some first none = absurd (omega (arith, some))
    go (d ∷ []) e some first none = e
    go (d ∷ f ∷ ds) e some first none = ap (λ b. cond b None (digits 0 (d ∷ f ∷ ds))) (ne_eqb d 48 other) ∙ e
      where
        other : d ≡ 48 → ⊥
        other same = by_size n refl
          where
            by_size : (m : ℕ) → n ≡ m → ⊥
            by_size zero is = let l = none is in absurd (omega (arith, l))
            by_size (suc m) is = let f = first (omega (arith, is)) in absurd (omega (arith, f, same))

-- ---- texts that begin no history
-- What is found behind a text is found with it.
abbrev Passes : List ℕ → Type 0
Passes text =
    (rest : List ℕ) (h : Head) → head_in (lines_in rest) ≡ Some h
    → (p : ℕ) × (head_in (lines_in (text ++ rest)) ≡ Some (record { place = p; count = h.count; lines = h.lines }))

line-then : (q rest : List ℕ) → holds 10 q ≡ false → lines_in ((q ++ 10 ∷ []) ++ rest) ≡ q ∷ lines_in rest
line-then q rest endless = lines-append q rest ∙ ap (λ ls. ls ++ lines_in rest) one
  where
    one : lines_in (q ++ 10 ∷ []) ≡ q ∷ []
    one =
        let l = length-append q (10 ∷ []) in
        lines-some (q ++ 10 ∷ []) (omega (arith, l))
        ∙ ap (λ x. x ∷ lines_in (behind 10 (q ++ 10 ∷ []))) (front-past 10 q [] endless)
        ∙ ap (λ x. q ∷ lines_in x) (behind-past 10 q [] endless)

pass-none : Passes []
pass-none rest h e = (h.place, e)

pass-line : (q : List ℕ) → holds 10 q ≡ false → count_in q ≡ None → Passes (q ++ 10 ∷ [])
pass-line q endless none rest h e = (
  suc h.place,
  ap head_in (line-then q rest endless)
      ∙ ap (λ o. head_by o (lines_in rest) (head_in (lines_in rest))) none
      ∙ ap (option_map later) e,
)

pass-append : (a b : List ℕ) → Passes a → Passes b → Passes (a ++ b)
pass-append a b pa pb rest h e =
    let x = pb rest h e in
    let y = pa (b ++ rest) (record { place = x.0; count = h.count; lines = h.lines }) x.1 in
    (y.0, ap (λ t. head_in (lines_in t)) (append_assoc a b rest) ∙ y.1)

pass-all : {A : Type 0} (P : A → Type 0) (f : A → List ℕ) (xs : List A) → ((x : A) → P x → Passes (f x)) → All P xs
    → Passes (flat_map f xs)
pass-all P f [] each all = pass-none
pass-all P f (x ∷ xs) each all =
    pass-append (f x) (flat_map f xs) (each x (All-head P x xs all)) (pass-all P f xs each (All-tail P x xs all))

-- ---- lines of words
abbrev Endless : List (List ℕ) → Type 0
Endless [] = Unit {0}
Endless (w ∷ ws) = (holds 10 w ≡ false) × Endless ws

spaced-endless : (ws : List (List ℕ)) → Endless ws → holds 10 (spaced ws) ≡ false
spaced-endless [] e = refl
spaced-endless (w ∷ ws) e = holds-parts 10 (32 ∷ w) (spaced ws) e.0 (spaced-endless ws e.1)

pass-words : (w : List ℕ) (ws : List (List ℕ)) → holds 10 w ≡ false → Endless ws → count_in (w ++ spaced ws) ≡ None
    → Passes (line (w ∷ ws))
unfolding line
pass-words w ws endless each none =
    pass-line (w ++ spaced ws) (holds-parts 10 w (spaced ws) endless (spaced-endless ws each)) none

-- a line whose second word begins with no digit begins no history
no-number : (c : ℕ) (more : List ℕ) → is_digit c ≡ false → plain_number (c ∷ more) ≡ None
unfolding digits
no-number c [] o = ap (λ b. if b then Some (0 * 10 + (c - 48)) else None) o
no-number c (d ∷ ds) o = go (c == 48)
  where
    go : (b : Bool) → cond b None (digits 0 (c ∷ d ∷ ds)) ≡ None
    go true = refl
    go false = ap (λ b. if b then digits (0 * 10 + (c - 48)) (d ∷ ds) else None) o

other-word : (name : List ℕ) (c : ℕ) (more : List ℕ) → holds 32 name ≡ false → is_digit c ≡ false
    → count_in (name ++ 32 ∷ c ∷ more) ≡ None
other-word name c more blank other = go (bytes_eq (take 8 q) history_word) refl
  where
    q : List ℕ
    q = name ++ 32 ∷ c ∷ more

    go : (b : Bool) → bytes_eq (take 8 q) history_word ≡ b → cond b (plain_number (drop 8 q)) None ≡ None
    go false e = refl
    go true e =
        let begins : take 8 q ≡ history_word = (bytes_eq-Decides (take 8 q) history_word).0 e in
        let whole : history_word ++ drop 8 q ≡ q =
        ap (λ x. x ++ drop 8 q) (sym begins) ∙ take-append-drop 8 q in
        let back : drop 8 q ≡ c ∷ more = ap (behind 32) whole ∙ behind-past 32 name (c ∷ more) blank in
        ap plain_number back ∙ no-number c more other

-- ---- events
module _ (deck : Deck) (is : IsDeck deck) where
  abbrev names : Names
  names = names_of deck

  task-endless : (s : SystemDef) (id : SysId) (t : TaskId) → IsTaskFound deck id s t
      → holds 10 (task_in_job names t) ≡ false
  unfolding task_in_job
  task-endless s id t f =
      ap (λ x. holds 10 (x ++ 46 ∷ name_in names.tasks t.system.0 t.task)) f.job_word
      ∙ ap (λ x. holds 10 (f.job ++ 46 ∷ x)) f.task_word
      ∙ holds-past 10 46 f.job f.task (name-no-end f.job f.job_short) refl (name-no-end f.task f.task_short)

  few_entries : (e : ℕ) → e < deck.entries → e < 2 ^ 64
  few_entries e less = let few = entries_few deck.entries is.entries in omega (arith, less, few)
    where
      entries_few : (n : ℕ) → is_entries n ≡ true → n < 100
      entries_few n h = grind (arith, nat_tests, h)

  pass-event : (e : Event) → IsEventOf deck.systems deck.entries e → Passes (event_line names e)
  unfolding event_line choice_words
  pass-event e of = go e.choice of.choice
    where
      f : IsFound deck e.system.0 of.found
      f = found deck e.system.0 of.found is of.system

      name : List ℕ
      name = name_at names.systems e.system.0

      no_blank : holds 32 name ≡ false
      no_blank = ap (holds 32) f.word ∙ name-no-blank of.found.name f.short

      no_end : holds 10 name ≡ false
      no_end = ap (holds 10) f.word ∙ name-no-end of.found.name f.short

      task : (t : TaskId) → IsTaskOf of.found e.system t → holds 10 (task_in_job names t) ≡ false
      task t it = task-endless of.found e.system t (task_found deck e.system of.found t is of.system it)

      go : (c : Choice) → IsChoiceOf deck.systems deck.entries of.found e.system c
          → Passes (line (name ∷ choice_words names c))
      go (choices.Task t) it =
          pass-words name (choice_words names (choices.Task t)) no_end (refl, (task t it, tt))
          (other-word name 84 _ no_blank refl)
      go choices.Turn it =
          pass-words name (choice_words names choices.Turn) no_end (refl, tt) (other-word name 84 _ no_blank refl)
      go (choices.Send t) it =
          pass-words name (choice_words names (choices.Send t)) no_end (refl, (task t it, tt))
          (other-word name 83 _ no_blank refl)
      go choices.Take it =
          pass-words name (choice_words names choices.Take) no_end (refl, tt) (other-word name 84 _ no_blank refl)
      go choices.Settle it =
          pass-words name (choice_words names choices.Settle) no_end (refl, tt) (other-word name 83 _ no_blank refl)
      go (choices.Tell n) it =
          pass-words name (choice_words names (choices.Tell n)) no_end (refl, (number-no-end n (few_entries n it), tt))
          (other-word name 84 _ no_blank refl)
      go (choices.Part n) it =
          pass-words name (choice_words names (choices.Part n)) no_end (refl, (number-no-end n (few_entries n it), tt))
          (other-word name 80 _ no_blank refl)
      go (choices.Leave n) it =
          pass-words name (choice_words names (choices.Leave n)) no_end (refl, (number-no-end n (few_entries n it), tt))
          (other-word name 76 _ no_blank refl)
      go choices.Switch it =
          pass-words name (choice_words names choices.Switch) no_end (refl, tt) (other-word name 83 _ no_blank refl)
      go (choices.Purge s) it =
          pass-words name (choice_words names (choices.Purge s)) no_end (refl, (system s it.0, tt))
          (other-word name 80 _ no_blank refl)
        where
          system : (s : SysId) → s.0 < length deck.systems → holds 10 (name_at names.systems s.0) ≡ false
          system s below =
              let none : SystemDef = record { name = []; desk = []; jobs = [] } in
              let g = found deck s.0 (get_or deck.systems s.0 none) is (slice_get-get_or deck.systems s.0 none below) in
              ap (holds 10) g.word ∙ name-no-end (get_or deck.systems s.0 none).name g.short
      go choices.Rest it =
          pass-words name (choice_words names choices.Rest) no_end (refl, tt) (other-word name 82 _ no_blank refl)

  pass-schedule : (es : List Event) → length es < 2 ^ 64 → All (IsEventOf deck.systems deck.entries) es
      → Passes (schedule_text names es)
  unfolding schedule_text
  pass-schedule es small all =
      pass-append (line (codes "SCHEDULE" ∷ decimal (length es) ∷ [])) (flat_map (event_line names) es)
      (pass-words (codes "SCHEDULE") (decimal (length es) ∷ []) refl (number-no-end (length es) small, tt) refl)
      (pass-all (IsEventOf deck.systems deck.entries) (event_line names) es pass-event all)

  pass-head : Passes head_line
  unfolding head_line
  pass-head = pass-words (codes "GRS") (codes "REPORT" ∷ codes "1" ∷ []) refl (refl, (refl, tt)) refl

  -- ---- the history
  lines-history : (m : ℕ) (hist : List HistEntry) (xs : List ℕ)
      → lines_in (history_lines names m hist ++ xs) ≡ printed deck m hist ++ lines_in xs
  lines-history m [] xs = refl
  lines-history m (h ∷ hs) xs =
      ap lines_in (append_assoc (history_line names m h) (history_lines names (m + 1) hs) xs)
      ∙ entry-then names m h (history_lines names (m + 1) hs ++ xs)
      ∙ ap (λ ls. entry_lines names m h ++ ls) (lines-history (m + 1) hs xs)
      ∙ sym (append_assoc (entry_lines names m h) (printed deck (m + 1) hs) (lines_in xs))
      ∙ ap (λ ls. ls ++ lines_in xs) (sym (printed-cons deck m h hs))

  told-first : (xs : List ℕ) → lines_in (line (codes "TOLD" ∷ []) ++ xs) ≡ told_word ∷ lines_in xs
  unfolding line
  told-first xs = line-then (codes "TOLD") xs refl

  history-head : (hist : List HistEntry) (xs : List ℕ) → length hist < 2 ^ 64
      → head_in (lines_in (history_text names hist ++ xs))
      ≡ Some (record { place = 0; count = length hist; lines = lines_in (history_lines names 1 hist ++ xs) })
  unfolding history_text line
  history-head hist xs small =
      ap (λ t. head_in (lines_in t))
      (append_assoc ((codes "HISTORY" ++ ((32 ∷ decimal (length hist)) ++ [])) ++ 10 ∷ []) (history_lines names 1 hist) xs)
      ∙ ap head_in
      (line-then (codes "HISTORY" ++ ((32 ∷ decimal (length hist)) ++ [])) (history_lines names 1 hist ++ xs)
      (holds-parts 10 (codes "HISTORY") ((32 ∷ decimal (length hist)) ++ []) refl
      (holds-parts 10 (32 ∷ decimal (length hist)) [] (number-no-end (length hist) small) refl)))
      ∙ ap (λ o. head_by o (lines_in (history_lines names 1 hist ++ xs))
      (head_in (lines_in (history_lines names 1 hist ++ xs)))) count
    where
      count : count_in (codes "HISTORY" ++ ((32 ∷ decimal (length hist)) ++ [])) ≡ Some (length hist)
      count = ap plain_number (append-nil (decimal (length hist))) ∙ plain-decimal (length hist) small

  -- the lines behind are those of the history, TOLD, and what is told
  whole-report : (hist : List HistEntry) (more : List ℕ) → Legal deck hist
      → IsWhole deck (length hist) (lines_in (history_lines names 1 hist ++ (line (codes "TOLD" ∷ []) ++ more)))
  whole-report hist more legal = record {
    hist = hist;
    legal = legal;
    count = refl;
    rest = lines_in more;
    begins =
        lines-history 1 hist (line (codes "TOLD" ∷ []) ++ more)
        ∙ ap (λ ls. printed deck 1 hist ++ ls) (told-first more)
        ∙ sym (append_assoc (printed deck 1 hist) (told_word ∷ []) (lines_in more))
        ∙ ap (λ ls. (printed deck 1 hist ++ ls) ++ lines_in more) (sym (told-whole (length hist) hist refl));
  }

-- one more part of a text, behind its first ones
behind-three : (a h t s y text : List ℕ) → text ≡ a ++ (h ++ (t ++ s)) → text ++ y ≡ a ++ (h ++ (t ++ (s ++ y)))
behind-three a h t s y text e =
    ap (λ x. x ++ y) e
    ∙ append_assoc a (h ++ (t ++ s)) y
    ∙ ap (λ x. a ++ x) (append_assoc h (t ++ s) y ∙ ap (λ x. h ++ x) (append_assoc t s y))

-- all parts of a report but its first three stand behind these
parts : (a h t s q u w m e : List ℕ)
    → a ++ h ++ (t ++ s) ++ q ++ u ++ w ++ m ++ e ≡ a ++ (h ++ (t ++ (s ++ q ++ u ++ w ++ m ++ e)))
parts a h t s q u w m e =
    behind-three a h t (s ++ q ++ u ++ w ++ m) e (a ++ h ++ (t ++ s) ++ q ++ u ++ w ++ m)
    (behind-three a h t (s ++ q ++ u ++ w) m (a ++ h ++ (t ++ s) ++ q ++ u ++ w)
    (behind-three a h t (s ++ q ++ u) w (a ++ h ++ (t ++ s) ++ q ++ u)
    (behind-three a h t (s ++ q) u (a ++ h ++ (t ++ s) ++ q)
    (behind-three a h t s q (a ++ h ++ (t ++ s)) (append_assoc a h (t ++ s))))))

-- each event and each entry has bytes
schedule-long : (names : Names) (es : List Event) → length es ≤ length (schedule_text names es)
unfolding schedule_text event_line line
schedule-long names es =
    let all = length-append ((codes "SCHEDULE" ++ spaced (decimal (length es) ∷ [])) ++ 10 ∷ [])
    (flat_map (event_line names) es) in
    let events = each es in
    omega (arith, all, events)
  where
    each : (es : List Event) → length es ≤ length (flat_map (event_line names) es)
    each [] = omega arith
    each (e ∷ es) =
        let all = length-append (event_line names e) (flat_map (event_line names) es) in
        let one = length-append (name_at names.systems e.system.0 ++ spaced (choice_words names e.choice)) (10 ∷ []) in
        let more = each es in
        omega (arith, all, one, more)

history-long : (deck : Deck) (hist : List HistEntry) → length hist ≤ length (history_text (names_of deck) hist)
unfolding history_text
history-long deck hist =
    let all = length-append (line (codes "HISTORY" ∷ decimal (length hist) ∷ [])) (history_lines (names_of deck) 1 hist) in
    let lines = lines-count deck 1 hist in
    let bytes = lines-few (history_lines (names_of deck) 1 hist) in
    omega (arith, all, lines, bytes)

-- a report begins by its first line
pub report-begins : (deck : Deck) (seen : Seen) → report_at true (report deck seen) ≡ 0
unfolding report head_line line
report-begins deck seen = refl

pub reports_are_yes : ReportsAreYes
unfolding report told_text
reports_are_yes deck seen first is legal events small =
    subst (λ o. IsVerdictOn deck (length (lines_in (report deck seen))) o first Yes) (sym found_head)
    (whole-report deck is seen.hist tail legal)
  where
    names : Names
    names = names_of deck

    told : List ℕ
    told = systems_text names seen.told seen.ended 0 deck.systems

    ending : List ℕ
    ending = end_line (all_ended seen.ended)

    tail : List ℕ
    tail =
        told ++ queues_text names seen.queues ++ units_text names seen.units ++ words_text names seen.words
        ++ mode_line seen.star ++ ending

    rest : List ℕ
    rest = history_text names seen.hist ++ (line (codes "TOLD" ∷ []) ++ tail)

    whole : report deck seen ≡ (head_line ++ schedule_text names seen.events) ++ rest
    whole =
        parts (head_line ++ schedule_text names seen.events) (history_text names seen.hist) (line (codes "TOLD" ∷ [])) told
        (queues_text names seen.queues) (units_text names seen.units) (words_text names seen.words)
        (mode_line seen.star) ending

    few_events : length seen.events < 2 ^ 64
    few_events =
        let all = ap length whole ∙ length-append (head_line ++ schedule_text names seen.events) rest in
        let front = length-append head_line (schedule_text names seen.events) in
        let events = schedule-long names seen.events in
        omega (arith, small, all, front, events)

    few : length seen.hist < 2 ^ 64
    few =
        let all = ap length whole ∙ length-append (head_line ++ schedule_text names seen.events) rest in
        let behind = length-append (history_text names seen.hist) (line (codes "TOLD" ∷ []) ++ tail) in
        let entries = history-long deck seen.hist in
        omega (arith, small, all, behind, entries)

    at : (p : ℕ) × (head_in (lines_in ((head_line ++ schedule_text names seen.events) ++ rest))
        ≡ Some (record {
          place = p;
          count = length seen.hist;
          lines = lines_in (history_lines names 1 seen.hist ++ (line (codes "TOLD" ∷ []) ++ tail));
        }))
    at =
        pass-append head_line (schedule_text names seen.events) (pass-head deck is)
        (pass-schedule deck is seen.events few_events events) rest
        (record {
          place = 0;
          count = length seen.hist;
          lines = lines_in (history_lines names 1 seen.hist ++ (line (codes "TOLD" ∷ []) ++ tail));
        })
        (history-head deck is seen.hist (line (codes "TOLD" ∷ []) ++ tail) few)

    found_head : head_in (lines_in (report deck seen))
        ≡ Some (record {
          place = at.0;
          count = length seen.hist;
          lines = lines_in (history_lines names 1 seen.hist ++ (line (codes "TOLD" ∷ []) ++ tail));
        })
    found_head =
        ap (λ x. head_in (lines_in x)) whole
        ∙ at.1
