-- A task at a line that shows lists: it begins to look, looks, and is told all rows.
use Rattle.std.proofs.Common.{◌≡◌, ◌<◌, ◌≤◌, ◌-◌, ◌+◌, ℕ, zero, suc, Bool, true, false, cond, not, List, [], ◌∷◌, ◌++◌}
use Rattle.std.proofs.Common.{length, take, drop, Option, Some, refl, ap, sym, ◌∙◌, subst, arith, add-one}
use Rattle.std.proofs.Common.{length-append, append-nil, append_assoc}
use Rattle.std.specs.Prelude.{slice_get, nat_lt, ◌==◌}
use Rattle.std.specs.List.{list_all}
use Rattle.std.proofs.Math.Seq.{drop-length, take-length}
use Rattle.std.proofs.lemmas.Bool.{and_parts, and_from, eqb-true, le-ltb, or_right}
use Rattle.std.proofs.lemmas.Option.{slice_get_within}
use Rattle.grs_base.specs.Same.{same_task}
use Rattle.grs_base.specs.declared.look.Filter.{Filter}
use Rattle.grs_base.specs.declared.look.Place.{Place}
use Rattle.grs_base.specs.declared.look.Place.TheVariants.{Local}
use Rattle.grs_base.specs.declared.resource.Res.{Res}
use Rattle.grs_base.specs.declared.resource.Row.{Row}
use Rattle.grs_base.specs.declared.resource.SysId.{SysId}
use Rattle.grs_base.specs.declared.resource.TaskId.{TaskId}
use Rattle.gqscan.specs.Shown.{code_for}
use Rattle.grs_legal.specs.Asks.{AsksLook, asks_of, asks_in, home_asks, looks_in, slice_asks}
use Rattle.grs_legal.specs.Legal.{passed_behind}
use Rattle.grs_legal.specs.declared.meaning.Display.{Display}
use Rattle.grs_legal.specs.declared.meaning.Meaning.{Meaning}
use Rattle.grs_legal.specs.declared.meaning.Meaning.TheVariants as lines
use Rattle.grs_wire.specs.declared.history.HistEntry.{HistEntry}
use Rattle.grs_wire.specs.declared.history.HistEntry.TheVariants.{Enq, Deq, Release, Look, Remove}
use Rattle.grs_wire.specs.declared.told.ToldLine.{ToldLine}
use Rattle.grs_wire.specs.declared.told.ToldLine.TheVariants.{Shown}
use Rattle.task_state.specs.declared.state.Asked.{Asked}
use Rattle.task_state.specs.declared.state.Rec.{Rec}
use Rattle.task_state.specs.declared.state.Phase.TheVariants as phases
use Rattle.grs_known.specs.Items.{rows_in}
use Rattle.grs_known.specs.Past.{Past, after_entry, after_entries}
use Rattle.grs_known.specs.Told.{TellsRows, entries_of_line, is_code_before, is_end_of, is_same_verb}
use Rattle.grs_known.proofs.lists.Entries.{end_among-push}
use Rattle.grs_known.proofs.lists.Facts.{all-more, none-more, take-more}
use Rattle.grs_known.proofs.lists.Lines.{asks-take, asks_of-place, passed-before}
use Rattle.grs_known.proofs.lists.Shows.{is_look, looked, after-looks}
use Rattle.grs_known.proofs.lists.Truths.{false_by}
use Rattle.grs_known.proofs.tasks.Asked.{recs-looked}
use Rattle.grs_known.proofs.tasks.Granted.{AgreesPast, codes_later, lt_suc, recs-phase}
use Rattle.grs_known.proofs.tasks.Invariant.{may_pass, Passed, IsNext, IsTask, is_post_before}
use Rattle.grs_known.proofs.tasks.Others.{recs-told}
use Rattle.grs_known.proofs.tasks.Steps.{recs-line, all-posts_later}

-- ---- lines
-- what the lines up to a display ask
asks-display : (ls : List Meaning) (n : ℕ) (d : Display) → slice_get ls n ≡ Some (lines.Shows d)
    → length (asks_of (take (n + 1) ls)) ≡ length (asks_of (take n ls)) + length (looks_in d)
asks-display ls n d at =
    ap length (asks-take ls n (lines.Shows d) at) ∙ length-append (asks_of (take n ls)) (looks_in d)

-- behind more than lines ask nothing is passed
passed-past : (ls : List Meaning) (k : ℕ) → length (asks_of ls) < k → passed_behind k ls ≡ []
passed-past [] k more = refl
passed-past (m ∷ ls) zero more = absurd (omega (arith, more))
passed-past (m ∷ ls) (suc k) more =
    let count : length (asks_in m) + length (asks_of ls) < suc k =
    subst (λ n. n < suc k) (length-append (asks_in m) (asks_of ls)) more in
    by_rest (nat_lt (suc k) (length (asks_in m))) (passed-past ls (suc k - length (asks_in m)) (omega (arith, count)))
  where
    by_rest : (b : Bool) → passed_behind (suc k - length (asks_in m)) ls ≡ []
        → cond b [] (passed_behind (suc k - length (asks_in m)) ls) ≡ []
    by_rest true h = refl
    by_rest false h = h

-- a display all of whose looks stand is passed
passed-display : (p : Past) (d : Display) (ls : List Meaning) (k : ℕ) → k ≡ length (asks_of ls) + length (looks_in d)
    → list_all (may_pass p) (passed_behind k ls) ≡ true
    → list_all (may_pass p) (passed_behind k (ls ++ lines.Shows d ∷ [])) ≡ true
passed-display p d [] zero same h = by_end (length (looks_in d) == 0)
  where
    by_end : (b : Bool) → list_all (may_pass p) (cond b (lines.Shows d ∷ []) []) ≡ true
    by_end true = refl
    by_end false = refl
passed-display p d [] (suc k) same h = by_end (nat_lt (suc k) (length (looks_in d))) (suc k - length (looks_in d))
  where
    by_end : (b : Bool) (j : ℕ) → list_all (may_pass p) (cond b [] (passed_behind j [])) ≡ true
    by_end true j = refl
    by_end false j = refl
passed-display p d (m ∷ ls) zero same h =
    let count : 0 ≡ (length (asks_in m) + length (asks_of ls)) + length (looks_in d) =
    same ∙ ap (λ n. n + length (looks_in d)) (length-append (asks_in m) (asks_of ls)) in
    by_first (length (asks_in m) == 0) h (passed-display p d ls zero (omega (arith, count)))
  where
    by_first : (b : Bool) → list_all (may_pass p) (cond b (m ∷ passed_behind 0 ls) []) ≡ true
        → (list_all (may_pass p) (passed_behind 0 ls) ≡ true
        → list_all (may_pass p) (passed_behind 0 (ls ++ lines.Shows d ∷ [])) ≡ true)
        → list_all (may_pass p) (cond b (m ∷ passed_behind 0 (ls ++ lines.Shows d ∷ [])) []) ≡ true
    by_first true all more =
        let parts = and_parts (may_pass p m) (list_all (may_pass p) (passed_behind 0 ls)) all in
        and_from (may_pass p m) _ parts.0 (more parts.1)
    by_first false all more = refl
passed-display p d (m ∷ ls) (suc k) same h =
    let count : suc k ≡ (length (asks_in m) + length (asks_of ls)) + length (looks_in d) =
    same ∙ ap (λ n. n + length (looks_in d)) (length-append (asks_in m) (asks_of ls)) in
    let behind : nat_lt (suc k) (length (asks_in m)) ≡ false =
    le-ltb (suc k) (length (asks_in m)) (omega (arith, count)) in
    rw behind (passed-display p d ls (suc k - length (asks_in m)) (omega (arith, count))
    (subst (λ b. list_all (may_pass p) (cond b [] (passed_behind (suc k - length (asks_in m)) ls)) ≡ true) behind h))

-- ---- rows
rows_in-append : (xs ys : List HistEntry) → rows_in (xs ++ ys) ≡ rows_in xs ++ rows_in ys
rows_in-append [] ys = refl
rows_in-append (Enq u r c ret code ∷ xs) ys = rows_in-append xs ys
rows_in-append (Deq u r have code ∷ xs) ys = rows_in-append xs ys
rows_in-append (Release u r ∷ xs) ys = rows_in-append xs ys
rows_in-append (Look u place f rows ∷ xs) ys =
    ap (λ zs. rows ++ zs) (rows_in-append xs ys) ∙ sym (append_assoc rows (rows_in xs) (rows_in ys))
rows_in-append (Remove by target ∷ xs) ys = rows_in-append xs ys

drop-more : {X : Type 0} (n : ℕ) (xs ys : List X) → n ≤ length xs → drop n (xs ++ ys) ≡ drop n xs ++ ys
drop-more zero xs ys le = refl
drop-more (suc n) [] ys le = absurd (omega (arith, le))
drop-more (suc n) (x ∷ xs) ys le = drop-more n xs ys (omega (arith, le))

length-drop : {X : Type 0} (n m : ℕ) (xs : List X) → length xs ≡ n + m → length (drop n xs) ≡ m
length-drop zero m xs e = omega (arith, e)
length-drop (suc n) m [] e = absurd (omega (arith, e))
length-drop (suc n) m (x ∷ xs) e = length-drop n m xs (omega (arith, e))

take-all : {X : Type 0} (n : ℕ) (xs : List X) → length xs ≡ n → take n xs ≡ xs
take-all n xs e = ap (λ m. take m xs) (sym e) ∙ take-length xs

-- the past of a task that looked has so many entries more of its lines
pub asked-looked : (hs : List HistEntry) (p : Past) → length (looked hs p).asked ≡ length p.asked + length hs
asked-looked [] p = omega arith
asked-looked (h ∷ hs) p = length-append p.asked (h ∷ hs)

module _ (ls : List Meaning) (T : List ToldLine) (leaving : Res → Bool) (t : TaskId) (code : ℕ) (xs : List Rec)
    (o : Option Asked) where
  -- ---- a display is begun
  pub task-begins : (p : Past) (n : ℕ) (ws : List Row) (d : Display)
      → IsTask ls p T leaving t
      (record { line = n; phase = phases.Ready; code = code; records = xs; outstanding = o; rows = ws })
      → slice_get ls n ≡ Some (lines.Shows d) →
      IsTask ls p T leaving t
      (record { line = suc n; phase = phases.ToSend; code = code; records = xs; outstanding = o; rows = ws })
  task-begins p n ws d k at =
      let back : n ≡ suc n - 1 = omega arith in
      let count : length (asks_of (take (suc n) ls)) ≡ length (asks_of (take n ls)) + length (looks_in d) =
      ap (λ m. length (asks_of (take m ls))) (sym (add-one n)) ∙ asks-display ls n d at in
      record {
        keys = k.keys;
        owned = k.owned;
        distinct = k.distinct;
        within = slice_get_within ls n (lines.Shows d) at;
        count = λ e. absurd (cc);
        records = recs-line ls p.asked T p.owns leaving t n phases.ToSend xs k.records;
        codes = k.codes;
        posts = all-posts_later t (suc n) T k.posts;
        phase = record {
          going = k.phase.going;
          free = k.phase.free;
          begun = omega arith;
          display = d;
          at = ap (slice_get ls) (sym back) ∙ at;
          passed = subst (λ m. Passed ls p m) back k.phase.passed;
          from = subst (λ m. length (asks_of (take m ls)) ≤ length p.asked) back (omega (arith, k.count refl));
          to = omega (arith, k.count refl, count);
        };
        shown =
            k.shown
            ∙ sym (ap (λ m. rows_in (drop m p.asked))
            (ap (λ m. length (asks_of (take m ls))) (sym back) ∙ sym (k.count refl))
            ∙ ap rows_in (drop-length p.asked));
        emptied = λ e. absurd (cc);
      }

  -- and the look at the task's own lists is what it asks next, if there is one
  pub next-home : (p : Past) (n : ℕ) (ws : List Row) (d : Display) (s : SysId)
      → IsTask ls p T leaving t
      (record { line = n; phase = phases.Ready; code = code; records = xs; outstanding = o; rows = ws })
      → slice_get ls n ≡ Some (lines.Shows d) → d.home ≡ Some s →
      IsNext ls p (AsksLook (Local s) d.filter)
  next-home p n ws d s k at home =
      let looks : looks_in d ≡ AsksLook (Local s) d.filter ∷ slice_asks d.first d.count d.filter =
      ap (λ h. home_asks h d.filter ++ slice_asks d.first d.count d.filter) home in
      let some : 0 < length (looks_in d) = subst (λ zs. 0 < length zs) (sym looks) (omega arith) in
      let here : length (asks_of (take n ls)) + 0 ≡ length p.asked = omega (arith, k.count refl) in
      let first : slice_get (asks_of ls) (length p.asked) ≡ Some (AsksLook (Local s) d.filter) =
      ap (slice_get (asks_of ls)) (sym here)
      ∙ asks_of-place ls n (lines.Shows d) 0 at some
      ∙ ap (λ zs. slice_get zs 0) looks in
      record {
        next = rw (k.phase.going.no_code, first) refl;
        free = k.phase.free;
        passed =
            rw (
              k.phase.going.no_code,
              passed-before ls n (lines.Shows d) at (false_by (length (looks_in d) == 0)
                  (λ e. absurd (omega (arith, some, eqb-true (length (looks_in d)) 0 e))))
                  (length p.asked) (k.count refl),
            )
            k.phase.passed;
      }

  -- ---- it looks
  task-look : (p : Past) (n : ℕ) (ws : List Row) (u : TaskId) (place : Place) (f : Filter) (rows : List Row)
      → IsTask ls p T leaving t
      (record { line = n; phase = phases.ToSend; code = code; records = xs; outstanding = o; rows = ws })
      →
      length p.asked < length (asks_of (take n ls)) →
      IsTask ls (after_entry (Look u place f rows) p) T leaving t
      (record { line = n; phase = phases.ToSend; code = code; records = xs; outstanding = o; rows = ws ++ rows })
  task-look p n ws u place f rows k more =
      let h : HistEntry = Look u place f rows in
      let count : length (p.asked ++ h ∷ []) ≡ suc (length p.asked) =
      length-append p.asked (h ∷ []) ∙ add-one (length p.asked) in
      record {
        keys = k.keys;
        owned = k.owned;
        distinct = k.distinct;
        within = k.within;
        count = λ e. absurd (cc);
        records = recs-looked ls p.asked h t T p.owns leaving n phases.ToSend xs (λ r. refl) k.records;
        codes = k.codes;
        posts = k.posts;
        phase = record {
          going = record { no_code = end_among-push p.asked h k.phase.going.no_code; no_end = k.phase.going.no_end };
          free = λ w. absurd (cc);
          begun = k.phase.begun;
          display = k.phase.display;
          at = k.phase.at;
          passed =
              ap (list_all (may_pass (after_entry h p)))
              (passed-past (take (n - 1) ls) (length (p.asked ++ h ∷ [])) (omega (arith, k.phase.from, count)));
          from = omega (arith, k.phase.from, count);
          to = omega (arith, more, count);
        };
        shown =
            ap (λ zs. zs ++ rows) k.shown
            ∙ sym (ap rows_in (drop-more (length (asks_of (take (n - 1) ls))) p.asked (h ∷ []) k.phase.from)
            ∙ rows_in-append (drop (length (asks_of (take (n - 1) ls))) p.asked) (h ∷ [])
            ∙ ap (λ zs. rows_in (drop (length (asks_of (take (n - 1) ls))) p.asked) ++ zs) (append-nil rows));
        emptied = λ e. absurd (cc);
      }

  looks-through : (hs : List HistEntry) (p : Past) (n : ℕ) (ws : List Row) → list_all is_look hs ≡ true
      → IsTask ls p T leaving t
      (record { line = n; phase = phases.ToSend; code = code; records = xs; outstanding = o; rows = ws })
      →
      length p.asked + length hs ≤ length (asks_of (take n ls)) →
      IsTask ls (after_entries hs p) T leaving t
      (record { line = n; phase = phases.ToSend; code = code; records = xs; outstanding = o; rows = ws ++ rows_in hs })
  looks-through [] p n ws all k le =
      subst (λ zs.
      IsTask ls p T leaving t
      (record { line = n; phase = phases.ToSend; code = code; records = xs; outstanding = o; rows = zs }))
      (sym (append-nil ws)) k
  looks-through (Look u place f rows ∷ hs) p n ws all k le =
      let h : HistEntry = Look u place f rows in
      let count : length (p.asked ++ h ∷ []) ≡ suc (length p.asked) =
      length-append p.asked (h ∷ []) ∙ add-one (length p.asked) in
      subst (λ zs.
      IsTask ls (after_entries hs (after_entry h p)) T leaving t
      (record { line = n; phase = phases.ToSend; code = code; records = xs; outstanding = o; rows = zs }))
      (append_assoc ws rows (rows_in hs))
      (looks-through hs (after_entry h p) n (ws ++ rows) all (task-look p n ws u place f rows k (omega (arith, le)))
      (omega (arith, le, count)))
  looks-through (Enq u r c ret d ∷ hs) p n ws all k le = absurd (cc)
  looks-through (Deq u r have d ∷ hs) p n ws all k le = absurd (cc)
  looks-through (Release u r ∷ hs) p n ws all k le = absurd (cc)
  looks-through (Remove by target ∷ hs) p n ws all k le = absurd (cc)

  pub task-looked : (hs : List HistEntry) (p : Past) (n : ℕ) (ws : List Row) → list_all is_look hs ≡ true
      → IsTask ls p T leaving t
      (record { line = n; phase = phases.ToSend; code = code; records = xs; outstanding = o; rows = ws })
      →
      length p.asked + length hs ≤ length (asks_of (take n ls)) →
      IsTask ls (looked hs p) T leaving t
      (record { line = n; phase = phases.ToSend; code = code; records = xs; outstanding = o; rows = ws ++ rows_in hs })
  task-looked hs p n ws all k le =
      subst (λ q.
      IsTask ls q T leaving t
      (record { line = n; phase = phases.ToSend; code = code; records = xs; outstanding = o; rows = ws ++ rows_in hs }))
      (after-looks hs all p) (looks-through hs p n ws all k le)

  -- ---- all its looks stand, and it is told their rows
  module _ (p : Past) (n : ℕ) (ws : List Row) (k :
      IsTask ls p T leaving t
      (record { line = n; phase = phases.ToSend; code = code; records = xs; outstanding = o; rows = ws }))
      (all : length p.asked ≡ length (asks_of (take n ls))) where
    back : (n - 1) + 1 ≡ n
    back = omega (arith, k.phase.begun)

    made : length p.asked ≡ length (asks_of (take (n - 1) ls)) + length (looks_in k.phase.display)
    made = all ∙ ap (λ m. length (asks_of (take m ls))) (sym back) ∙ asks-display ls (n - 1) k.phase.display k.phase.at

    passed-all : Passed ls p n
    passed-all =
        subst (λ m. Passed ls p m) back (subst (λ zs. list_all (may_pass p) (passed_behind (length p.asked) zs) ≡ true)
        (sym (take-more ls (n - 1) (lines.Shows k.phase.display) k.phase.at))
        (passed-display p k.phase.display (take (n - 1) ls) (length p.asked) made k.phase.passed))

    -- the entries of the line are all that are left
    left-are : entries_of_line ls p.asked n ≡ drop (length (asks_of (take (n - 1) ls))) p.asked
    left-are =
        rw k.phase.at (take-all (length (looks_in k.phase.display)) (drop (length (asks_of (take (n - 1) ls))) p.asked)
        (length-drop (length (asks_of (take (n - 1) ls))) (length (looks_in k.phase.display)) p.asked made))

    abbrev shown_line : ToldLine
    shown_line = Shown t n k.phase.display.verb (code_for (length ws)) ws

    pub task-shown : is_same_verb k.phase.display.verb k.phase.display.verb ≡ true →
        IsTask ls p (T ++ shown_line ∷ []) leaving t
        (record { line = n; phase = phases.Ready; code = code; records = xs; outstanding = o; rows = [] })
        × AgreesPast ls p T t shown_line
    task-shown kind = (
      record {
        keys = k.keys;
        owned = k.owned;
        distinct = k.distinct;
        within = k.within;
        count = λ e. all;
        records =
            recs-told ls p.asked T p.owns leaving t n phases.Ready shown_line xs (λ j. refl)
            (recs-phase ls p.asked T p.owns leaving t n phases.ToSend phases.Ready refl xs k.records);
        codes =
            all-more (is_code_before t (suc n)) T _ (codes_later t n T k.codes)
            (or_right (not (same_task t t)) _ (lt_suc n));
        posts = all-more (is_post_before t (suc n)) T _ k.posts refl;
        phase = record {
          going = record {
            no_code = k.phase.going.no_code;
            no_end = none-more (is_end_of t) T _ k.phase.going.no_end refl;
          };
          free = k.phase.free;
          passed = passed-all;
        };
        shown = refl;
        emptied = λ e. absurd (cc);
      },
      λ limit P s. (
        k.phase.begun,
        subst (λ E.
            TellsRows k.phase.display.verb (code_for (length ws)) ws (slice_get ls (n - 1)) (entries_of_line ls E n))
            (sym s.asked)
            (subst (λ l. TellsRows k.phase.display.verb (code_for (length ws)) ws l (entries_of_line ls p.asked n))
            (sym k.phase.at) (record {
              kind = kind;
              all =
                  ap length left-are
                  ∙ length-drop (length (asks_of (take (n - 1) ls))) (length (looks_in k.phase.display)) p.asked made;
              shown = k.shown ∙ sym (ap rows_in left-are);
              told = refl;
            })),
        k.codes,
        k.phase.going.no_end,
      ),
    )
