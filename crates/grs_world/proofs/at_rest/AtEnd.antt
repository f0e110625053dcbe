-- Where nothing goes on and nothing is outstanding, owners and replies were told.
use Rattle.grs_world.proofs.Common.{[], ◌&&◌, ◌+◌, ◌-◌, ◌<◌, ◌==◌, ◌∙◌, ◌≡◌, ◌≢◌, ◌≤◌, all-filter, and_from, and_parts}
use Rattle.grs_world.proofs.Common.{ap, arith, asks_in, asks_of, Bool, code_of, cond, Deck, Display, entry_of_line}
use Rattle.grs_world.proofs.Common.{eq-eqb, Event, false, false_by, goes_on, has, has_code, has_res, has_task, hist}
use Rattle.grs_world.proofs.Common.{HistEntry, history, is_by, is_code_at, is_code_of, is_leaving, is_line_of}
use Rattle.grs_world.proofs.Common.{is_marked, is_some, is_unmarked, is_unsent, IsGood, IsHere, IsHistory, IsOurs}
use Rattle.grs_world.proofs.Common.{IsTask, items, items_are_history, known-all, LegalFrom, length, line_entries}
use Rattle.grs_world.proofs.Common.{lines_of, lines_of_told, List, list_all, list_any, list_of, lists, lists_after}
use Rattle.grs_world.proofs.Common.{ltb-true, Meaning, mine, nat_lt, ne_eqb, no_truth, NodeState, None, not, not-true}
use Rattle.grs_world.proofs.Common.{Opens, Option, or_left, or_right, OrdersFit, owns, Past, past_of, Phase, refl}
use Rattle.grs_world.proofs.Common.{replay, replayed, Res, run, RunItem, same_res, same_res-itself, same_Some}
use Rattle.grs_world.proofs.Common.{slice_get, slice_get-past, slice_get_within, Some, Speaks, speaks-known, state_of}
use Rattle.grs_world.proofs.Common.{subst, sym, take, TaskId, TaskState, tells_control, ToldLine, true, Wait, ℕ}
use Rattle.std.proofs.Common.{leb, leb-true, leb-false, length-drop, length-take}
use Rattle.std.specs.Prelude.{drop}
use Rattle.grs_legal.specs.Asks.{is_silent, looks_in}
use Rattle.grs_known.specs.Told.{asked_at, asks_at, entries_of_line, is_code_before}
use Rattle.grs_known.proofs.tasks.Invariant.{IsHeld, IsInPhase, IsHeldLine, IsWaitFor, code_bound}
use Rattle.grs_known.proofs.known.ItemLaws.{entries_are_of_items}
use Rattle.grs_known.proofs.known.Knows.{knows-closed}
use Rattle.grs_legal.specs.Legal.{ask_in, end_among, entries_of, last_entry}
use Rattle.grs_world.specs.AtRest.{DisplaysAreTold, IsThere, OwnersAreTold, RepliesAreTold, is_coded, IsWaiting}
use Rattle.grs_world.specs.AtRest.{TasksWait, first_uncoded, is_next, is_uncoded, is_wait, stands_at, waits_at}
use Rattle.grs_world.specs.AtRest.{waits_on}
use Rattle.grs_known.proofs.system.Asking.{unasked-none}
use Rattle.grs_known.specs.Past.{has_own}
use Rattle.grs_known.specs.Passed.{passed_by}
use Rattle.std.proofs.lemmas.Map.Views.{any-filter_same}
use Rattle.grs_node.specs.Log.{end_in}
use Rattle.grs_wire.specs.declared.seen.TaskEnd.TheVariants.{Ended}
use Rattle.grs_known.proofs.known.Knowing.{all_is_known}
use Rattle.grs_known.proofs.lists.Lines.{asks-same, asks_of-place}
use Rattle.grs_known.proofs.lists.Own.{has_task-own}
use Rattle.grs_known.proofs.tasks.Keys.{has_res-own}
use Rattle.grs_known.specs.Known.{learned}
use Rattle.grs_world.proofs.at_rest.AsAsked.{AreAsked, display-looks, entries-asked, look-first}
use Rattle.grs_world.proofs.at_rest.Held.{WaitsOn, all-well, first-found, no-tells, none-earlier, not-both, uncoded}
use Rattle.grs_world.proofs.at_rest.Held.{unmarked-has, waits-among, waits_well}
use Rattle.grs_world.specs.Running.{end_at, task_end, end_of, end_removed}
use Rattle.grs_world.proofs.at_rest.Steps.{AllDate}
use Rattle.grs_known.proofs.tasks.UpToDate.{is_kept}
use Rattle.grs_world.proofs.run.Runs.{GoodTold}
use Rattle.grs_world.proofs.at_rest.EndLines.{more-asks, is_asking, of-line, waits-uncoded, marked-tells, asking-code}
use Rattle.grs_world.proofs.at_rest.EndLines.{wait-code, wait-silent, tells-home, code_of-home, code-home, code-exact}
use Rattle.grs_wire.specs.declared.told.ToldLine.TheVariants as told
use Rattle.task_state.specs.declared.state.Phase.TheVariants as phases
use Rattle.grs_wire.specs.declared.seen.TaskEnd.TheVariants as ends
use Rattle.grs_legal.specs.declared.meaning.Meaning.TheVariants as lines

-- System s, where these items were fixed: nothing goes on by itself and nothing is outstanding, and who owns by all
-- items is marked.
pub record IsStill (deck : Deck) (s : ℕ) (P : List RunItem) (n : NodeState) : Type 0 where
  pub opens : Opens
  pub good : IsGood deck s opens P n.tasks
  pub idle : (t : TaskId) (ls : List Meaning) → IsOurs deck s n.tasks t ls → (state_of n.tasks t).outstanding ≡ None
  pub calm : (t : TaskId) (ls : List Meaning) → IsOurs deck s n.tasks t ls
      → (goes_on (state_of n.tasks t).phase ≡ false) × (is_unsent (state_of n.tasks t).phase ≡ false)
  pub marked : (t : TaskId) (ls : List Meaning) (r : Res) → IsOurs deck s n.tasks t ls
      → owns (list_of (lists P) r) t ≡ true → is_marked r (state_of n.tasks t).records ≡ true
  pub date : AllDate false deck n.tasks

-- ---- a run that has come to this
module _ (deck : Deck) (es : List Event) (right : IsHistory deck (items (run deck es).fixed))
    (g : GoodTold deck es (run deck es)) (orders : OrdersFit deck)
    (still : (s : ℕ) (n : NodeState) → slice_get (run deck es).nodes s ≡ Some n
    → has (run deck es).medium.removed s ≡ false → IsStill deck s (items (run deck es).fixed) n) where
  abbrev P : List RunItem
  P = items (run deck es).fixed

  hist_is : hist deck es ≡ history P
  hist_is = sym (items_are_history (run deck es).fixed).0

  lists_are : (r : Res) → list_of (lists_after deck es) r ≡ list_of (lists P) r
  lists_are r = ap (λ s. list_of s r) (ap (replay deck.limit) hist_is ∙ sym (replayed deck P right))

  -- a task of a live system, where it is
  module _ (t : TaskId) (ls : List Meaning) (there : IsThere deck es t ls) where
    found : (n : NodeState) × (slice_get (run deck es).nodes t.system.0 ≡ Some n)
    found = go (slice_get (run deck es).nodes t.system.0) refl
      where
        go : (o : Option NodeState) → slice_get (run deck es).nodes t.system.0 ≡ o
            → (n : NodeState) × (slice_get (run deck es).nodes t.system.0 ≡ Some n)
        go (Some n) e = (n, e)
        go None e =
            let within : t.system.0 < length (run deck es).nodes =
            ltb-true _ _ (and_parts (nat_lt t.system.0 (length (run deck es).nodes)) _ there.live).0 in
            let past : length (run deck es).nodes ≤ t.system.0 = slice_get-past (run deck es).nodes t.system.0 e in
            absurd (omega (arith, within, past))

    alive : has (run deck es).medium.removed t.system.0 ≡ false
    alive =
        not-true (has (run deck es).medium.removed t.system.0)
        (and_parts (nat_lt t.system.0 (length (run deck es).nodes)) (not (has (run deck es).medium.removed t.system.0))
        there.live).1

    abbrev n : NodeState
    n = found.0

    abbrev k : IsStill deck t.system.0 (items (run deck es).fixed) found.0
    k = still t.system.0 found.0 found.1 alive

    ours : IsOurs deck t.system.0 found.0.tasks t ls
    ours = record {
      lines = there.lines;
      home = refl;
      here =
          k.good.here t (and_from (t.system.0 == t.system.0) (is_some (lines_of deck t))
          (eq-eqb t.system.0 t.system.0 refl) (ap is_some there.lines));
    }

    abbrev y : TaskState
    y = state_of found.0.tasks t

    idle : y.outstanding ≡ None
    idle = k.idle t ls ours

    here_is : IsHere deck k.opens P found.0.tasks.told t ls y
    here_is = k.good.tasks.each t ls ours

    abbrev p : Past
    p = past_of t here_is.known (items (run deck es).fixed)

    speaks : Speaks deck.limit t p (history P)
    speaks =
        speaks-known deck P t here_is.known right here_is.knows.live here_is.knows.right
        (knows-closed P t y.outstanding here_is.known idle here_is.knows)

    -- its entries, and how it stands
    entries_are : line_entries t (hist deck es) ≡ p.asked
    entries_are = ap (line_entries t) hist_is ∙ speaks.asked

    task_is : IsTask ls p found.0.tasks.told (λ r. false) t y
    task_is =
        subst (λ o. IsTask ls p n.tasks.told (λ r. is_leaving r o) t y) idle
        (subst (λ x. IsTask ls p n.tasks.told (λ r. is_leaving r y.outstanding) t x) (unasked-none y idle) here_is.task)

    -- its system's lines are told, and no others of it
    told-same : (q : ToldLine → Bool) → ((l : ToldLine) → q l ≡ true → is_line_of t.system.0 l ≡ true)
        → list_any q (lines_of_told (run deck es).told) ≡ list_any q found.0.tasks.told
    told-same q home =
        sym (any-filter_same q (is_line_of t.system.0) true home (lines_of_told (run deck es).told))
        ∙ (ap (list_any q) (sym (g.lines t.system.0 n found.1))
        ∙ any-filter_same q (is_line_of t.system.0) true home n.tasks.told)

    all-told : (q : ToldLine → Bool) → ((l : ToldLine) → q l ≡ true → is_line_of t.system.0 l ≡ true)
        → list_any q found.0.tasks.told ≡ true → list_any q (lines_of_told (run deck es).told) ≡ true
    all-told q home h = told-same q home ∙ h

    -- each line up to the one that it is done with has its code line
    code-told : (j m : ℕ) → passed_by None y.phase y.line ≡ m → 0 < j → j ≤ m → has_code (slice_get ls (j - 1)) ≡ true
        → list_any (is_code_of t j) (lines_of_told (run deck es).told) ≡ true
    code-told j m is low l has =
        code-exact deck n.tasks t ls there.lines ours.here es [] (run deck es).told j (g.agree orders)
        (all-told (is_code_at t j) (code-home t j) ((k.date t ls there.lines ours.here).coded j low
        (subst (λ o. j ≤ passed_by o y.phase y.line) (sym idle) (subst (λ i. j ≤ i) (sym is) l)) has))

    -- an owner was told
    owner-told : (r : Res) → owns (list_of (lists_after deck es) r) t ≡ true
        → list_any (tells_control t ls (line_entries t (hist deck es)) r) (lines_of_told (run deck es).told) ≡ true
    owner-told r own =
        subst (λ E. list_any (tells_control t ls E r) (lines_of_told (run deck es).told) ≡ true) (sym entries_are)
        (all-told (tells_control t ls p.asked r) (tells-home t ls p.asked r)
        (marked-tells ls p.asked n.tasks.told p.owns (λ q. false) t y.line y.phase r y.records task_is.records
        (λ q. refl) (k.marked t ls r ours (ap (λ xs. owns xs t) (sym (lists_are r)) ∙ own))))

    -- a line whose first entry stands has its code line, but where its task is held there
    stood-told : (j : ℕ) → 0 < j → has_code (slice_get ls (j - 1)) ≡ true
        → length (asks_of (take (j - 1) ls)) < length p.asked → ((r : Res) → IsWaitFor r (slice_get ls (j - 1)) → ⊥)
        → (IsHeld ls p found.0.tasks.told t j → ⊥) →
        list_any (is_code_of t j) (lines_of_told (run deck es).told) ≡ true
    stood-told j low has stands no_wait not_held = by_phase y.phase refl
      where
        within : j ≤ y.line
        within = go (leb y.line (j - 1)) refl
          where
            count : length p.asked ≡ length (asks_of (take y.line ls))
            count = task_is.count (k.calm t ls ours).1

            go : (b : Bool) → leb y.line (j - 1) ≡ b → j ≤ y.line
            go false e = let past : j - 1 < y.line = leb-false y.line (j - 1) e in omega (arith, past)
            go true e =
                absurd (omega (arith, more-asks y.line (j - 1) (leb-true y.line (j - 1) e) ls, stands, count))

        date : (m : ℕ) → passed_by None y.phase y.line ≡ m → j ≤ m
            → list_any (is_code_of t j) (lines_of_told (run deck es).told) ≡ true
        date m is l = code-told j m is low l has

        by_phase : (q : Phase) → y.phase ≡ q → list_any (is_code_of t j) (lines_of_told (run deck es).told) ≡ true
        by_phase phases.Ready e = absurd (let f : true ≡ false = sym (ap goes_on e) ∙ (k.calm t ls ours).0 in cc)
        by_phase (phases.Ending c) e = absurd (let f : true ≡ false = sym (ap goes_on e) ∙ (k.calm t ls ours).0 in cc)
        by_phase phases.ToSend e = absurd (let f : true ≡ false = sym (ap is_unsent e) ∙ (k.calm t ls ours).1 in cc)
        by_phase phases.Sent e = absurd (let f : true ≡ false = sym (ap is_unsent e) ∙ (k.calm t ls ours).1 in cc)
        by_phase phases.Ended e = date y.line (ap (λ q. passed_by None q y.line) e) within
        by_phase (phases.HeldLine r) e =
            date (y.line - 1) (ap (λ q. passed_by None q y.line) e) (omega (arith, within, low, apart))
          where
            hl : IsHeldLine ls p found.0.tasks.told t y.line r
            hl = subst (IsInPhase ls p n.tasks.told t y.line) e task_is.phase

            apart : j ≢ y.line
            apart same = no_wait r (subst (λ i. IsWaitFor r (slice_get ls (i - 1))) (sym same) hl.at)
        by_phase phases.HeldAnswer e =
            date (y.line - 1) (ap (λ q. passed_by None q y.line) e) (omega (arith, within, low, apart))
          where
            held : IsHeld ls p found.0.tasks.told t y.line
            held = subst (IsInPhase ls p n.tasks.told t y.line) e task_is.phase

            apart : j ≢ y.line
            apart same = not_held (subst (IsHeld ls p n.tasks.told t) (sym same) held)

    -- a reply was told
    reply-told : (j : ℕ) (h : HistEntry) → 0 < j → entry_of_line ls (line_entries t (hist deck es)) j ≡ Some h
        → is_coded h ≡ true → list_any (is_code_of t j) (lines_of_told (run deck es).told) ≡ true
    reply-told j h low at coded =
        stood-told j low (asking-code (slice_get ls (j - 1)) asks.0) asks.1
        (λ r w. wait-silent r (slice_get ls (j - 1)) w asks.0) not_held
      where
        at_past : entry_of_line ls p.asked j ≡ Some h
        at_past = subst (λ E. entry_of_line ls E j ≡ Some h) entries_are at

        asks : (is_asking (slice_get ls (j - 1)) ≡ true) × (length (asks_of (take (j - 1) ls)) < length p.asked)
        asks = of-line ls p.asked j h at_past

        -- whose reply it is doesn't wait
        not_held : IsHeld ls p found.0.tasks.told t j → ⊥
        not_held held =
            let same : Some held.last ≡ Some h = sym held.of_line ∙ at_past in
            absurd (no_truth (is_coded h) coded
            (waits-uncoded h (ap code_of (sym (same_Some held.last h same)) ∙ held.waits)))

    -- a display was told, all of whose looks stand
    display-told : (j : ℕ) (d : Display) → 0 < j → slice_get ls (j - 1) ≡ Some (lines.Shows d)
        → length (entries_of_line ls (line_entries t (hist deck es)) j) ≡ length (looks_in d)
        → list_any (is_code_of t j) (lines_of_told (run deck es).told) ≡ true
    display-told j d low at all =
        stood-told j low (ap has_code at) enough (λ r w. subst (IsWaitFor r) at w) not_held
      where
        some : 0 < length (looks_in d)
        some = display-looks deck t ls (j - 1) d there.lines at

        stands : length (take (length (looks_in d)) (drop (length (asks_of (take (j - 1) ls))) p.asked))
            ≡ length (looks_in d)
        stands =
            ap (λ o. length (take (length (asks_at o)) (drop (length (asks_of (take (j - 1) ls))) p.asked))) (sym at)
            ∙ (ap (λ E. length (entries_of_line ls E j)) (sym entries_are) ∙ all)

        enough : length (asks_of (take (j - 1) ls)) < length p.asked
        enough =
            omega (
              arith,
              some,
              stands,
              length-take (length (looks_in d)) (drop (length (asks_of (take (j - 1) ls))) p.asked),
              length-drop (length (asks_of (take (j - 1) ls))) p.asked,
            )

        loud : is_silent (lines.Shows d) ≡ false
        loud = ne_eqb (length (looks_in d)) 0 (λ none. absurd (omega (arith, none, some)))

        -- who is held by its answer has asked for a resource
        not_held : IsHeld ls p found.0.tasks.told t j → ⊥
        not_held held = look-first d held.last (sym first ∙ asked) some held.waits
          where
            entry : slice_get p.asked (length (asks_of (take (j - 1) ls))) ≡ Some held.last
            entry =
                sym (ap (λ o. asked_at o (slice_get p.asked (length (asks_of (take (j - 1) ls))))) at
                ∙ ap (λ b. cond b None (slice_get p.asked (length (asks_of (take (j - 1) ls))))) loud)
                ∙ held.of_line

            asked : slice_get (asks_of ls) (length (asks_of (take (j - 1) ls))) ≡ ask_in held.last
            asked =
                (subst (AreAsked (asks_of ls)) (ap (line_entries t) hist_is ∙ speaks.asked)
                (entries-asked deck t ls there.lines (hist deck es)
                (subst (LegalFrom deck []) (sym hist_is) (right.legal orders)))
                (length (asks_of (take (j - 1) ls))) held.last entry).0

            first : slice_get (asks_of ls) (length (asks_of (take (j - 1) ls))) ≡ slice_get (looks_in d) 0
            first =
                ap (slice_get (asks_of ls)) (omega arith) ∙ asks_of-place ls (j - 1) (lines.Shows d) 0 at some

    -- ---- it waits
    -- on record is what it has
    has_element : (r : Res) → has_res r y.records ≡ true → has_task (list_of (lists_after deck es) r) t ≡ true
    has_element r has = ap (λ (hs : List HistEntry). has_task (list_of (replay deck.limit hs) r) t) hist_is
        ∙ (has_task-own (replay deck.limit (history P)) t r
        ∙ (ap (has_own r) speaks.own ∙ (sym (has_res-own r y.records p.own task_is.keys) ∙ has)))

    -- and what isn't marked it doesn't own
    unowned : (r : Res) → (is_marked r y.records ≡ true → ⊥) → owns (list_of (lists_after deck es) r) t ≡ false
    unowned r none =
        false_by (owns (list_of (lists_after deck es) r) t)
        (λ own. absurd (none (k.marked t ls r ours (ap (λ xs. owns xs t) (sym (lists_are r)) ∙ own))))

    end_is : task_end (run deck es).medium.removed (run deck es).nodes t ≡ end_in y.phase
    end_is =
        ap (end_at (run deck es).medium.removed t) found.1
        ∙ (ap (λ b. cond b (end_removed (end_of n.tasks t)) (end_of n.tasks t)) alive
        ∙ ap (λ b. cond b (end_in y.phase) ends.Open) ours.here)

    -- at a WAIT line
    held_line : (r : Res) → y.phase ≡ phases.HeldLine r → IsWaiting deck es t ls
    held_line r e = record {
      res = r;
      held =
          or_right (waits_on r (last_entry (entries_of t (hist deck es))))
          (stands_at r ls (line_entries t (hist deck es)) (first_uncoded t ls (lines_of_told (run deck es).told)))
          stands;
      queued = has_element r (unmarked-has r y.records unmarked);
      waits = unowned r (λ m. not-both r y.records task_is.distinct m unmarked);
      shown = end_is ∙ ap end_in e;
    }
      where
        unmarked : is_unmarked r y.records ≡ true
        unmarked = subst (λ q. is_kept q y.records ≡ true) e (k.date t ls there.lines ours.here).held

        hl : IsHeldLine ls p found.0.tasks.told t y.line r
        hl = subst (IsInPhase ls p n.tasks.told t y.line) e task_is.phase

        line_at : (o : Option Meaning) → IsWaitFor r o
            → (l : Meaning) × (o ≡ Some l) × (asks_in l ≡ []) × (waits_at r o ≡ true) × (is_wait o ≡ true)
        line_at None w = absurd w
        line_at (Some (lines.Enq q ctl ret unit)) w = absurd w
        line_at (Some (lines.Deq q have)) w = absurd w
        line_at (Some (lines.Shows d)) w = absurd w
        line_at (Some lines.Nothing) w = absurd w
        line_at (Some (lines.Wait q))
            w = (lines.Wait q, refl, refl, subst (λ z. same_res r z ≡ true) (sym w) (same_res-itself r), refl)

        found_line : (l : Meaning) × (slice_get ls (y.line - 1) ≡ Some l) × (asks_in l ≡ [])
            × (waits_at r (slice_get ls (y.line - 1)) ≡ true) × (is_wait (slice_get ls (y.line - 1)) ≡ true)
        found_line = line_at (slice_get ls (y.line - 1)) hl.at

        count : length p.asked ≡ length (asks_of (take (y.line - 1) ls))
        count =
            let back : y.line - 1 + 1 ≡ y.line = omega (arith, hl.begun) in
            task_is.count (k.calm t ls ours).1
            ∙ (ap (λ m. length (asks_of (take m ls))) (sym back)
            ∙ ap (λ xs. length xs) (asks-same ls (y.line - 1) found_line.0 found_line.1 found_line.2))

        -- it has no code line, and each WAIT line before has one
        none_yet : list_any (is_code_of t y.line) (lines_of_told (run deck es).told) ≡ false
        none_yet =
            told-same (is_code_of t y.line) (code_of-home t y.line)
            ∙ uncoded t y.line n.tasks.told
            (subst (λ q. list_all (is_code_before t (code_bound q y.line)) n.tasks.told ≡ true) e task_is.codes)

        before : (j : ℕ) → 1 ≤ j → j < y.line → is_uncoded t ls (lines_of_told (run deck es).told) j ≡ false
        before j low l = go (is_wait (slice_get ls (j - 1))) refl
          where
            go : (b : Bool) → is_wait (slice_get ls (j - 1)) ≡ b
                → (b && not (list_any (is_code_of t j) (lines_of_told (run deck es).told))) ≡ false
            go false f = refl
            go true f =
                ap not (code-told j (y.line - 1) (ap (λ q. passed_by None q y.line) e) (omega (arith, low))
                (omega (arith, l)) (wait-code (slice_get ls (j - 1)) f))

        first : first_uncoded t ls (lines_of_told (run deck es).told) ≡ Some y.line
        first =
            first-found (is_uncoded t ls (lines_of_told (run deck es).told)) 1 (length ls) y.line
            (omega (arith, hl.begun)) (omega (arith, slice_get_within ls (y.line - 1) found_line.0 found_line.1))
            (and_from (is_wait (slice_get ls (y.line - 1)))
            (not (list_any (is_code_of t y.line) (lines_of_told (run deck es).told))) found_line.4 (ap not none_yet))
            before

        next : is_next ls p.asked y.line ≡ true
        next =
            and_from (not (is_some (end_among p.asked))) (length (asks_of (take (y.line - 1) ls)) == length p.asked)
            (ap (λ o. not (is_some o)) hl.going.no_code) (eq-eqb _ _ (sym count))

        stands : stands_at r ls (line_entries t (hist deck es)) (first_uncoded t ls (lines_of_told (run deck es).told))
            ≡ true
        stands = subst (λ o. stands_at r ls (line_entries t (hist deck es)) o ≡ true) (sym first)
            (subst (λ E. (waits_at r (slice_get ls (y.line - 1)) && is_next ls E y.line) ≡ true) (sym entries_are)
            (and_from (waits_at r (slice_get ls (y.line - 1))) (is_next ls p.asked y.line) found_line.3 next))

    -- by its last answer
    held_answer : y.phase ≡ phases.HeldAnswer → IsWaiting deck es t ls
    held_answer e = record {
      res = w.res;
      held =
          or_left (waits_on w.res (last_entry (entries_of t (hist deck es))))
          (stands_at w.res ls (line_entries t (hist deck es)) (first_uncoded t ls (lines_of_told (run deck es).told)))
          (ap (waits_on w.res) last_is ∙ w.waits);
      queued = has_element w.res (has_res-own w.res y.records p.own task_is.keys ∙ w.has);
      waits =
          unowned w.res (λ m.
          no_truth (list_any (tells_control t ls p.asked w.res) n.tasks.told)
          (marked-tells ls p.asked n.tasks.told p.owns (λ q. false) t y.line y.phase w.res y.records task_is.records
          (λ q. refl) m)
          none_told);
      shown = end_is ∙ ap end_in e;
    }
      where
        hd : IsHeld ls p found.0.tasks.told t y.line
        hd = subst (IsInPhase ls p n.tasks.told t y.line) e task_is.phase

        learned_is : learned t here_is.known P ≡ mine t P
        learned_is =
            (all_is_known t here_is.known P (known-all P t here_is.known here_is.knows.right
            (knows-closed P t y.outstanding here_is.known idle here_is.knows))
            here_is.knows.right).0

        well : list_all waits_well (history (learned t here_is.known P)) ≡ true
        well =
            ap (λ xs. list_all waits_well (history xs)) learned_is
            ∙ (ap (list_all waits_well) (sym (entries_are_of_items t P right.made))
            ∙ all-filter waits_well (is_by t) (history P) (all-well [] P right.made))

        w : WaitsOn p.own hd.last
        w = waits-among (history (learned t here_is.known P)) [] hd.last hd.is_last well hd.waits

        last_is : last_entry (entries_of t (hist deck es)) ≡ Some hd.last
        last_is = ap (λ hs. last_entry (entries_of t hs)) hist_is ∙ (speaks.last ∙ hd.is_last)

        none_told : list_any (tells_control t ls p.asked w.res) found.0.tasks.told ≡ false
        none_told =
            no-tells t ls p.asked w.res y.line n.tasks.told
            (subst (λ q. list_all (is_code_before t (code_bound q y.line)) n.tasks.told ≡ true) e task_is.codes)
            task_is.posts hd.unposted
            (none-earlier ls p.asked w.res y.line hd.last (λ a b l. more-asks a b l ls) hd.of_line w.queued)

    task-waits : task_end (run deck es).medium.removed (run deck es).nodes t ≢ Ended → IsWaiting deck es t ls
    task-waits going = by_phase y.phase refl
      where
        by_phase : (q : Phase) → y.phase ≡ q → IsWaiting deck es t ls
        by_phase phases.Ready e = absurd (let f : true ≡ false = sym (ap goes_on e) ∙ (k.calm t ls ours).0 in cc)
        by_phase (phases.Ending c) e = absurd (let f : true ≡ false = sym (ap goes_on e) ∙ (k.calm t ls ours).0 in cc)
        by_phase phases.ToSend e = absurd (let f : true ≡ false = sym (ap is_unsent e) ∙ (k.calm t ls ours).1 in cc)
        by_phase phases.Sent e = absurd (let f : true ≡ false = sym (ap is_unsent e) ∙ (k.calm t ls ours).1 in cc)
        by_phase phases.Ended e = absurd (going (end_is ∙ ap end_in e))
        by_phase phases.HeldAnswer e = held_answer e
        by_phase (phases.HeldLine r) e = held_line r e

  pub owners-told : OwnersAreTold deck es
  owners-told t ls r there own = owner-told t ls there r own

  pub replies-told : RepliesAreTold deck es
  replies-told t ls j h there low at coded = reply-told t ls there j h low at coded

  pub displays-told : DisplaysAreTold deck es
  displays-told t ls j d there low at all = display-told t ls there j d low at all

  pub tasks-wait : TasksWait deck es
  tasks-wait t ls there going = task-waits t ls there going
