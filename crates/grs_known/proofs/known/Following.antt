-- What a task asks next by its past may follow in the history.
use Rattle.std.proofs.Common.{◌≡◌, ◌<◌, ◌≤◌, ◌+◌, ◌-◌, ℕ, zero, suc, true, false, cond, ◌&&◌, ◌||◌, List, [], ◌∷◌, ◌++◌}
use Rattle.std.proofs.Common.{map, length, take, Option, Some, None, refl, ap, sym, ◌∙◌, subst, arith, length-append}
use Rattle.std.specs.Prelude.{is_some, nat_le, IsSomeAnd, slice_get}
use Rattle.std.specs.List.{list_all, list_any}
use Rattle.std.specs.Option.{option_or, option_map}
use Rattle.std.proofs.lemmas.Bool.{ne_eqb}
use Rattle.std.proofs.lemmas.List.Folds.{list_any-append}
use Rattle.grs_base.specs.Lists.{has_task, owns}
use Rattle.grs_base.specs.Looks.{look}
use Rattle.grs_base.specs.State.{State, list_of, is_full, is_systems, enq_code}
use Rattle.grs_base.specs.declared.look.Filter.{Filter}
use Rattle.grs_base.specs.declared.look.Place.{Place}
use Rattle.grs_base.specs.declared.look.Place.TheVariants.{Slice, Local}
use Rattle.grs_base.specs.declared.resource.Res.{Res}
use Rattle.grs_base.specs.declared.resource.Row.{Row}
use Rattle.grs_base.specs.declared.resource.SysId.{SysId}
use Rattle.grs_base.specs.declared.resource.TaskId.{TaskId}
use Rattle.grs_base.proofs.SameLaws.{same_task-itself}
use Rattle.grs_legal.specs.Asks.{Ask, AsksEnq, AsksDeq, AsksRelease, AsksLook, asks_of, home_asks, slice_asks, looks_in}
use Rattle.grs_legal.specs.Asks.{lines_of}
use Rattle.grs_legal.specs.Legal.{ask_in, end_among, entries_of, is_of_line, last_entry, passed_behind, IsLegal}
use Rattle.grs_legal.specs.Legal.{LegalFrom, MayAsk}
use Rattle.grs_legal.specs.declared.meaning.Display.{Display}
use Rattle.grs_legal.specs.declared.meaning.Meaning.{Meaning}
use Rattle.grs_legal.specs.declared.meaning.Meaning.TheVariants as lines
use Rattle.grs_wire.specs.History.{answer_of, is_by, look_entries, removes, replay, reply_of}
use Rattle.grs_wire.specs.Wants.{res_wanted}
use Rattle.grs_wire.specs.declared.deck.Deck.{Deck}
use Rattle.grs_wire.specs.declared.history.HistEntry.{HistEntry}
use Rattle.grs_wire.specs.declared.history.HistEntry.TheVariants.{Look}
use Rattle.grs_wire.specs.declared.request.Answer.TheVariants.{Coded, Rows}
use Rattle.grs_wire.specs.declared.request.Fixed.TheVariants.{Asked, LocalLook}
use Rattle.grs_wire.specs.declared.request.Want.{Want}
use Rattle.grs_wire.specs.declared.request.Want.TheVariants as wants
use Rattle.grs_wire.proofs.HistoryLaws.{replay_from-append}
use Rattle.task_state.specs.declared.state.Rec.{Rec}
use Rattle.grs_known.specs.Items.{RunItem, lists, history, CountsIn}
use Rattle.grs_known.specs.Past.{after_entry, has_own, own_elements, Past, Speaks}
use Rattle.grs_known.proofs.lists.Entries.{last_entry-push}
use Rattle.grs_known.proofs.lists.Facts.{filter-push_kept}
use Rattle.grs_known.proofs.lists.Lines.{asks-take, asks_of-place, length-slice_asks, passed-before, passed-middle}
use Rattle.grs_known.proofs.lists.Lines.{slice_asks-at, slice_get-back}
use Rattle.grs_known.proofs.lists.Parts.{is_res_of}
use Rattle.grs_known.proofs.lists.Shows.{looks-end}
use Rattle.grs_known.proofs.tasks.Invariant.{key, may_pass, IsFree, IsNext, Passed}
use Rattle.grs_known.proofs.tasks.Speaking.{has-speaks, queued-speaks, legal-speaks}
use Rattle.grs_known.proofs.known.Histories.{AsksHere, IsHistory, IsAsk, IsLive, MayFollow, MayLook, made_item}
use Rattle.grs_known.proofs.known.Histories.{replayed, removes-history}

-- what a request asks, apart from its flag
abbrev pub ask_of : Want → Option Ask
ask_of (wants.Enq r c ret full) = Some (AsksEnq r c ret)
ask_of (wants.Deq r have) = Some (AsksDeq r have)
ask_of (wants.Release r) = Some (AsksRelease r)
ask_of (wants.Look first count f) = None

-- ---- looks
-- A task asks looks next at so many slices from this one on, one after the other, and may: it passes no line amid them.
pub record AsksLooks (ls : List Meaning) (p : Past) (first count : ℕ) (f : Filter) : Type 0 where
  pub going : end_among p.asked ≡ None
  pub free : IsFree p
  pub at : (i : ℕ) → i < count → slice_get (asks_of ls) (length p.asked + i) ≡ Some (AsksLook (Slice (first + i)) f)
  pub passed : 0 < count → list_all (may_pass p) (passed_behind (length p.asked) ls) ≡ true
  pub inside : (i : ℕ) → 0 < i → i < count → passed_behind (length p.asked + i) ls ≡ []

-- the first of them is what it asks next
looks-next : (ls : List Meaning) (p : Past) (first count : ℕ) (f : Filter) → AsksLooks ls p first (suc count) f
    → IsNext ls p (AsksLook (Slice first) f)
looks-next ls p first count f k = record {
  next =
      ap (λ o.
      option_or (cond (is_some o) None (slice_get (asks_of ls) (length p.asked)))
      (option_map AsksRelease (slice_get (map (λ z. z.0) p.own) 0)))
      k.going
      ∙ ap (λ o. option_or o (option_map AsksRelease (slice_get (map (λ z. z.0) p.own) 0)))
      (ap (slice_get (asks_of ls)) (omega arith)
      ∙ k.at 0 (omega arith)
      ∙ ap (λ n. Some (AsksLook (Slice n) f)) (omega arith));
  free = k.free;
  passed =
      ap (λ o. list_all (may_pass p) (cond (is_some o) [] (passed_behind (length p.asked) ls))) k.going
      ∙ k.passed (omega arith);
}

-- and behind it come the others
looks-then : (ls : List Meaning) (p : Past) (t : TaskId) (first count : ℕ) (f : Filter) (rows : List Row)
    → AsksLooks ls p first (suc count) f
    → AsksLooks ls (after_entry (Look t (Slice first) f rows) p) (suc first) count f
looks-then ls p t first count f rows k = record {
  going = looks-end p.asked (h ∷ []) refl ∙ k.going;
  free = λ e. absurd (cc);
  at = λ i e.
      ap (slice_get (asks_of ls)) (longer i)
      ∙ k.at (suc i) (omega (arith, e))
      ∙ ap (λ n. Some (AsksLook (Slice n) f)) (omega arith);
  passed = λ e.
      ap (list_all (may_pass p))
      (ap (λ n. passed_behind n ls) (length-append p.asked (h ∷ [])) ∙ k.inside 1 (omega arith) (omega (arith, e)));
  inside = λ i some e. ap (λ n. passed_behind n ls) (longer i) ∙ k.inside (suc i) (omega arith) (omega (arith, e));
}
  where
    h : HistEntry
    h = Look t (Slice first) f rows

    longer : (i : ℕ) → length (p.asked ++ h ∷ []) + i ≡ length p.asked + suc i
    longer i = let more = length-append p.asked (h ∷ []) in omega (arith, more)

-- A task at a display line asks looks at the slices that are left.
pub asks-looks : (ls : List Meaning) (p : Past) (line : ℕ) (d : Display) (first count left : ℕ) → 0 < line
    → slice_get ls (line - 1) ≡ Some (lines.Shows d) → end_among p.asked ≡ None → IsFree p → Passed ls p (line - 1) →
    0 < count → d.first ≤ first → first + count + left ≡ d.first + d.count
    → length p.asked + count + left ≡ length (asks_of (take line ls)) → AsksLooks ls p first count d.filter
asks-looks ls p line d first count left begun at going free passed some low slices all = record {
  going = going;
  free = free;
  at = λ i e.
      ap (slice_get (asks_of ls)) (here i)
      ∙ asks_of-place ls (line - 1) (lines.Shows d) (home + (first - d.first) + i) at (within i e)
      ∙ slice_at i e;
  passed = λ e. by_place (home + (first - d.first)) refl;
  inside = λ i begun e.
      passed-middle ls (line - 1) (lines.Shows d) (home + (first - d.first) + i) at (omega (arith, begun)) (within i e)
      (length p.asked + i) (here i);
}
  where
    home : ℕ
    home = length (home_asks d.home d.filter)

    start : ℕ
    start = length (asks_of (take (line - 1) ls))

    many : length (looks_in d) ≡ home + d.count
    many =
        length-append (home_asks d.home d.filter) (slice_asks d.first d.count d.filter)
        ∙ ap (λ n. home + n) (length-slice_asks d.first d.count d.filter)

    -- the line's looks end where its last look stands
    ends : length (asks_of (take line ls)) ≡ start + length (looks_in d)
    ends =
        ap (λ n. length (asks_of (take n ls))) (omega (arith, begun))
        ∙ ap length (asks-take ls (line - 1) (lines.Shows d) at)
        ∙ length-append (asks_of (take (line - 1) ls)) (looks_in d)

    here : (i : ℕ) → length p.asked + i ≡ start + (home + (first - d.first) + i)
    here i = omega (arith, all, ends, many, slices, low)

    within : (i : ℕ) → i < count → home + (first - d.first) + i < length (looks_in d)
    within i e = omega (arith, e, all, ends, many, slices, low)

    slice_at : (i : ℕ) → i < count
        → slice_get (looks_in d) (home + (first - d.first) + i) ≡ Some (AsksLook (Slice (first + i)) d.filter)
    slice_at i e =
        ap (slice_get (looks_in d)) (omega arith)
        ∙ slice_get-back (home_asks d.home d.filter) (slice_asks d.first d.count d.filter) (first - d.first + i)
        ∙ slice_asks-at d.first d.count d.filter (first - d.first + i) (omega (arith, e, slices, low))
        ∙ ap (λ n. Some (AsksLook (Slice n) d.filter)) (omega (arith, low))

    by_place : (n : ℕ) → home + (first - d.first) ≡ n → list_all (may_pass p) (passed_behind (length p.asked) ls) ≡ true
    by_place zero e =
        ap (list_all (may_pass p)) (passed-before ls (line - 1) (lines.Shows d) at
        (ne_eqb (length (looks_in d)) 0 (λ none. omega (arith, none, all, ends, many, slices, some))) (length p.asked)
        (omega (arith, e, all, ends, many, slices, low)))
        ∙ passed
    by_place (suc n) e =
        ap (list_all (may_pass p)) (passed-middle ls (line - 1) (lines.Shows d) (suc n) at (omega arith)
        (omega (arith, e, some, all, ends, many, slices, low)) (length p.asked)
        (omega (arith, e, all, ends, many, slices, low)))

-- ---- they follow in the history
module _ (deck : Deck) (t : TaskId) (ls : List Meaning) (lines : lines_of deck t ≡ Some ls) where
  same-lists : (limit : ℕ) (H : List HistEntry) (place : Place) (f : Filter) (rows : List Row)
      → replay limit (H ++ Look t place f rows ∷ []) ≡ replay limit H
  same-lists limit H place f rows = replay_from-append limit [] H (Look t place f rows ∷ [])

  -- the past behind a look is that of the history behind it
  speaks-look : (limit : ℕ) (p : Past) (H : List HistEntry) (place : Place) (f : Filter) (rows : List Row)
      → Speaks limit t p H → Speaks limit t (after_entry (Look t place f rows) p) (H ++ Look t place f rows ∷ [])
  speaks-look limit p H place f rows k = record {
    own = ap (λ s. own_elements s t) (same-lists limit H place f rows) ∙ k.own;
    owns = λ r e. ap (λ s. owns (list_of s r) t) (same-lists limit H place f rows) ∙ k.owns r e;
    asked =
        filter-push_kept (λ h. is_by t h && is_of_line h) H (Look t place f rows)
        (ap (λ b. b && true) (same_task-itself t))
        ∙ ap (λ hs. hs ++ Look t place f rows ∷ []) k.asked;
    last =
        ap last_entry (filter-push_kept (is_by t) H (Look t place f rows) (same_task-itself t))
        ∙ last_entry-push (entries_of t H) (Look t place f rows);
  }

  follow-looks : (s : State) (first count : ℕ) (f : Filter) (p : Past) (H : List HistEntry) → Speaks deck.limit t p H
      → list_any (removes t.system) H ≡ false → replay deck.limit H ≡ s → AsksLooks ls p first count f
      → LegalFrom deck H (look_entries s t first count f)
  follow-looks s first zero f p H speaks live at next = tt
  follow-looks s first (suc count) f p H speaks live at next =
      let h : HistEntry = Look t (Slice first) f (look s (Slice first) f) in (
        subst (λ o. IsSomeAnd o (λ zs. IsLegal deck.limit t zs H h)) (sym lines)
            (legal-speaks deck.limit t p H speaks ls (AsksLook (Slice first) f) h live
            (looks-next ls p first count f next) (ap (λ z. Rows (look z (Slice first) f)) (sym at)) refl),
        follow-looks s (suc first) count f (after_entry h p) (H ++ h ∷ [])
            (speaks-look deck.limit p H (Slice first) f (look s (Slice first) f) speaks)
            (list_any-append (removes t.system) H (h ∷ []) ∙ ap (λ b. b || false) live)
            (same-lists deck.limit H (Slice first) f (look s (Slice first) f) ∙ at)
            (looks-then ls p t first count f (look s (Slice first) f) next),
      )

module _ (deck : Deck) (P : List RunItem) (right : IsHistory deck P) (t : TaskId) (p : Past)
    (speaks : Speaks deck.limit t p (history P)) where
  -- it has elements where its past has them, as many as it has records
  pub has-known : (r : Res) → has_task (list_of (lists P) r) t ≡ has_own r p.own
  has-known r =
      ap (λ s. has_task (list_of s r) t) (replayed deck P right) ∙ has-speaks deck.limit t p (history P) speaks r

  pub is_full-known : (xs : List Rec) → map key xs ≡ p.own
      → nat_le deck.limit (length xs) ≡ is_full deck.limit (lists P) t
  is_full-known xs e =
      ap (nat_le deck.limit)
      (same_length xs ∙ ap length (ap (map (λ z. z.0)) e ∙ sym (queued-speaks deck.limit t p (history P) speaks)))
      ∙ ap (λ s. is_full deck.limit s t) (sym (replayed deck P right))
    where
      same_length : (ys : List Rec) → length ys ≡ length (map (λ z. z.0) (map key ys))
      same_length [] = refl
      same_length (y ∷ ys) = ap suc (same_length ys)

  module _ (ls : List Meaning) (lines : lines_of deck t ≡ Some ls) (live : IsLive t P) where
    unremoved : list_any (removes t.system) (history P) ≡ false
    unremoved = removes-history [] P right.made t ∙ live

    asks : (a : Ask) (h : HistEntry) → IsNext ls p a → ask_in h ≡ Some a → answer_of h ≡ reply_of deck.limit (lists P) h
        → MayAsk deck t (history P) h
    asks a h next is reply = subst (λ o. IsSomeAnd o (λ zs. IsLegal deck.limit t zs (history P) h)) (sym lines)
        (legal-speaks deck.limit t p (history P) speaks ls a h unremoved next
        (reply ∙ ap (λ s. reply_of deck.limit s h) (replayed deck P right)) is)

    pub may_follow : (c : SysId) (w : Want) (r : Res) → res_wanted w ≡ Some r
        → (is_systems r || is_res_of t.system.0 r) ≡ true → CountsIn deck.limit (lists P) t w → (a : Ask)
        → ask_of w ≡ Some a → IsNext ls p a →
        MayFollow deck P (made_item c P (Asked (record { task = t; want = w })))
    may_follow c w r wanted place counts a is next = by_want w counts is wanted
      where
        ask : (v : Want) → res_wanted v ≡ Some r → IsAsk deck (made_item c P (Asked (record { task = t; want = v })))
        ask v e = record {
          req = record { task = t; want = v };
          asked = refl;
          known = ap is_some lines;
          place = subst (AsksHere t) (sym e) place;
        }

        by_want : (v : Want) → CountsIn deck.limit (lists P) t v → ask_of v ≡ Some a → res_wanted v ≡ Some r
            → MayFollow deck P (made_item c P (Asked (record { task = t; want = v })))
        by_want (wants.Enq q d ret full) k i e = record {
          ask = ask (wants.Enq q d ret full) e;
          live = live;
          made = refl;
          counts = k;
          stands = (asks a _ next i (ap (λ b. Coded (enq_code (lists P) q t d ret b)) k), tt);
        }
        by_want (wants.Deq q have) k i e = record {
          ask = ask (wants.Deq q have) e;
          live = live;
          made = refl;
          counts = tt;
          stands = (asks a _ next i refl, tt);
        }
        by_want (wants.Release q) k i e = record {
          ask = ask (wants.Release q) e;
          live = live;
          made = refl;
          counts = tt;
          stands = (asks a _ next i refl, tt);
        }
        by_want (wants.Look first count f) k i e = absurd (cc)

    -- looks, each behind those before it
    pub may_follow_looks : (c : SysId) (first count : ℕ) (f : Filter) → AsksLooks ls p first count f
        → MayFollow deck P (made_item c P (Asked (record { task = t; want = wants.Look first count f })))
    may_follow_looks c first count f next = record {
      ask = record {
        req = record { task = t; want = wants.Look first count f };
        asked = refl;
        known = ap is_some lines;
        place = tt;
      };
      live = live;
      made = refl;
      counts = tt;
      stands =
          follow-looks deck t ls lines (lists P) first count f p (history P) speaks unremoved
          (sym (replayed deck P right)) next;
    }

    -- a look at the lists of the task's system
    pub may_look : (c : SysId) (f : Filter) → IsNext ls p (AsksLook (Local t.system) f)
        → MayLook deck P (made_item c P (LocalLook t f))
    may_look c f next = record {
      task = t;
      filter = f;
      looks = refl;
      known = ap is_some lines;
      made = refl;
      stands = (asks (AsksLook (Local t.system) f) _ next refl refl, tt);
    }
