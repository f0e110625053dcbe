-- The entries of a task's lines are what these lines asked, in the order of the lines.
use Rattle.grs_world.proofs.Common.{[], ◌&&◌, ◌*◌, ◌++◌, ◌<◌, ◌∙◌, ◌∷◌, ◌≡◌, ◌≤◌, ◌⊎◌, and_parts, ap, append-nil}
use Rattle.grs_world.proofs.Common.{append_assoc, arith, asks_in, asks_of, Bool, code_of, cond, Deck, Display, false}
use Rattle.grs_world.proofs.Common.{Filter, HistEntry, inl, inr, is_by, is_some, LegalFrom, length, length-append, Line}
use Rattle.grs_world.proofs.Common.{line_entries, lines_of, List, Local, ltb-true, map, Meaning, meanings, nat_lt, None}
use Rattle.grs_world.proofs.Common.{Option, option_map, Place, refl, replay, Res, same_task-exact, scripts_of, Slice}
use Rattle.grs_world.proofs.Common.{slice_get, slice_get-past, slice_get_within, Some, subst, suc, sym, SysId, TaskId}
use Rattle.grs_world.proofs.Common.{true, Wait, zero, ℕ}
use Rattle.grs_legal.specs.Asks.{Ask, AsksRelease, AsksLook, lines_in, home_asks, looks_in, meaning_of, slice_asks}
use Rattle.std.specs.Prelude.{IsSomeAnd}
use Rattle.grs_legal.specs.Legal.{IsLegal, MayAsk, MayStand, ask_in, end_code, is_of_line}
use Rattle.std.specs.Option.{option_or}
use Rattle.grs_known.proofs.lists.Facts.{filter-push_kept, filter-push_left}
use Rattle.grs_base.specs.State.{queued_by}
use Rattle.grs_base.specs.declared.rnl.Lists.{Lists}
use Rattle.grs_node.proofs.Places.{slice_get-map}
use Rattle.grs_wire.specs.declared.history.HistEntry.TheVariants.{Enq, Deq, Release, Look, Remove}
use Rattle.grs_base.specs.declared.line.Line.TheVariants as written
use Rattle.grs_legal.specs.declared.meaning.Meaning.TheVariants as lines

-- these entries are the first of what is asked, in order, and none is of a task's end
abbrev pub AreAsked : List Ask → List HistEntry → Type 0
AreAsked asks es =
    (i : ℕ) (h : HistEntry) → slice_get es i ≡ Some h → (slice_get asks i ≡ ask_in h) × (is_of_line h ≡ true)

-- the last of some, or one before
last-or : {X : Type 0} (es : List X) (h : X) (i : ℕ) (g : X) → slice_get (es ++ h ∷ []) i ≡ Some g
    → ((i ≡ length es) × (h ≡ g)) ⊎ (slice_get es i ≡ Some g)
last-or [] h zero g e = let same : h ≡ g = cc in inl (refl, same)
last-or [] h (suc i) g e = absurd (cc)
last-or (x ∷ es) h zero g e = inr e
last-or (x ∷ es) h (suc i) g e = go (last-or es h i g e)
  where
    go : ((i ≡ length es) × (h ≡ g)) ⊎ (slice_get es i ≡ Some g)
        → ((suc i ≡ suc (length es)) × (h ≡ g)) ⊎ (slice_get es i ≡ Some g)
    go (inl k) = inl (ap suc k.0, k.1)
    go (inr k) = inr k

-- one more, which is what is asked next
asked-push : (asks : List Ask) (es : List HistEntry) (h : HistEntry) → AreAsked asks es
    → slice_get asks (length es) ≡ ask_in h → is_of_line h ≡ true → AreAsked asks (es ++ h ∷ [])
asked-push asks es h all next of_line i g e = go (last-or es h i g e)
  where
    go : ((i ≡ length es) × (h ≡ g)) ⊎ (slice_get es i ≡ Some g)
        → (slice_get asks i ≡ ask_in g) × (is_of_line g ≡ true)
    go (inl k) = (ap (slice_get asks) k.0 ∙ (next ∙ ap ask_in k.1), ap is_of_line (sym k.1) ∙ of_line)
    go (inr k) = all i g k

-- so they are no more than what is asked
pub asked-few : (asks : List Ask) (es : List HistEntry) → AreAsked asks es → length es ≤ length asks
asked-few asks es all = by_entry (slice_get es (length asks)) refl
  where
    by_ask : (h : HistEntry) → is_of_line h ≡ true → (o : Option Ask) → slice_get asks (length asks) ≡ o → o ≡ ask_in h
        → ⊥
    by_ask h of_line (Some a) e is =
        let within : length asks < length asks = slice_get_within asks (length asks) a e in omega (arith, within)
    by_ask (Enq t r c ret code) of_line None e is = absurd (cc)
    by_ask (Deq t r have code) of_line None e is = absurd (cc)
    by_ask (Look t place f rows) of_line None e is = absurd (cc)
    by_ask (Release t r) of_line None e is = absurd (cc)
    by_ask (Remove by target) of_line None e is = absurd (cc)

    by_entry : (o : Option HistEntry) → slice_get es (length asks) ≡ o → length es ≤ length asks
    by_entry None e = slice_get-past es (length asks) e
    by_entry (Some h) e = let k = all (length asks) h e in absurd (by_ask h k.1 (slice_get asks (length asks)) refl k.0)

-- what an entry of a line asks is what the next asking line asks
by-line : (h : HistEntry) → is_of_line h ≡ true → (ended : Bool) (next : Option Ask) (left : Option Res)
    → option_or (cond ended None next) (option_map AsksRelease left) ≡ ask_in h → next ≡ ask_in h
by-line (Enq t r c ret code) of_line false (Some a) left e = e
by-line (Enq t r c ret code) of_line false None None e = absurd (cc)
by-line (Enq t r c ret code) of_line false None (Some q) e = absurd (cc)
by-line (Enq t r c ret code) of_line true next None e = absurd (cc)
by-line (Enq t r c ret code) of_line true next (Some q) e = absurd (cc)
by-line (Deq t r have code) of_line false (Some a) left e = e
by-line (Deq t r have code) of_line false None None e = absurd (cc)
by-line (Deq t r have code) of_line false None (Some q) e = absurd (cc)
by-line (Deq t r have code) of_line true next None e = absurd (cc)
by-line (Deq t r have code) of_line true next (Some q) e = absurd (cc)
by-line (Look t place f rows) of_line false (Some a) left e = e
by-line (Look t place f rows) of_line false None None e = absurd (cc)
by-line (Look t place f rows) of_line false None (Some q) e = absurd (cc)
by-line (Look t place f rows) of_line true next None e = absurd (cc)
by-line (Look t place f rows) of_line true next (Some q) e = absurd (cc)
by-line (Release t r) of_line ended next left e = absurd (cc)
by-line (Remove by target) of_line ended next left e = absurd (cc)

module _ (deck : Deck) (t : TaskId) (ls : List Meaning) (lines : lines_of deck t ≡ Some ls) where
  may-ask : (before : List HistEntry) (u : TaskId) (h : HistEntry) → is_of_line h ≡ true → t ≡ u
      → MayAsk deck u before h → slice_get (asks_of ls) (length (line_entries t before)) ≡ ask_in h
  may-ask before u h of_line one may =
      let is : IsLegal deck.limit t ls before h =
      subst (λ o. IsSomeAnd o (λ ms. IsLegal deck.limit t ms before h)) lines
      (subst (λ z. MayAsk deck z before h) (sym one) may) in
      by-line h of_line (is_some (end_code t before)) (slice_get (asks_of ls) (length (line_entries t before)))
      (slice_get (queued_by (replay deck.limit before) t) 0) is.next

  may-stand : (before : List HistEntry) (h : HistEntry) → (is_by t h && is_of_line h) ≡ true → MayStand deck before h
      → slice_get (asks_of ls) (length (line_entries t before)) ≡ ask_in h
  may-stand before (Enq u r c ret code) e may =
      may-ask before u (Enq u r c ret code) refl (same_task-exact t u (and_parts _ _ e).0) may
  may-stand before (Deq u r have code) e may =
      may-ask before u (Deq u r have code) refl (same_task-exact t u (and_parts _ _ e).0) may
  may-stand before (Look u place f rows) e may =
      may-ask before u (Look u place f rows) refl (same_task-exact t u (and_parts _ _ e).0) may
  may-stand before (Release u r) e may =
      absurd (let no : false ≡ true = (and_parts (is_by t (Release u r)) false e).1 in cc)
  may-stand before (Remove by target) e may =
      absurd (let no : false ≡ true = (and_parts (is_by t (Remove by target)) false e).1 in cc)

  asked-from : (before hs : List HistEntry) → LegalFrom deck before hs → AreAsked (asks_of ls) (line_entries t before)
      → AreAsked (asks_of ls) (line_entries t (before ++ hs))
  asked-from before [] legal all =
      subst (λ es. AreAsked (asks_of ls) (line_entries t es)) (sym (append-nil before)) all
  asked-from before (h ∷ hs) legal all =
      subst (λ es. AreAsked (asks_of ls) (line_entries t es)) (append_assoc before (h ∷ []) hs)
      (asked-from (before ++ h ∷ []) hs legal.1 (go (is_by t h && is_of_line h) refl))
    where
      go : (b : Bool) → (is_by t h && is_of_line h) ≡ b → AreAsked (asks_of ls) (line_entries t (before ++ h ∷ []))
      go false e =
          subst (AreAsked (asks_of ls)) (sym (filter-push_left (λ x. is_by t x && is_of_line x) before h e)) all
      go true e =
          subst (AreAsked (asks_of ls)) (sym (filter-push_kept (λ x. is_by t x && is_of_line x) before h e))
          (asked-push (asks_of ls) (line_entries t before) h all (may-stand before h e legal.0)
          (and_parts (is_by t h) (is_of_line h) e).1)

  -- so the entries that a task's lines asked for, in a legal history, are what the lines ask
  pub entries-asked : (hist : List HistEntry) → LegalFrom deck [] hist → AreAsked (asks_of ls) (line_entries t hist)
  entries-asked hist legal = asked-from [] hist legal (λ i h e. absurd (cc))

-- what looks doesn't wait
pub look-waits : (h : HistEntry) (place : Place) (f : Filter) → Some (AsksLook place f) ≡ ask_in h
    → code_of h ≡ Wait → ⊥
look-waits (Enq t r c ret code) place f e waits = absurd (cc)
look-waits (Deq t r have code) place f e waits = absurd (cc)
look-waits (Release t r) place f e waits = absurd (cc)
look-waits (Look t p g rows) place f e waits = absurd (cc)
look-waits (Remove by target) place f e waits = absurd (cc)

-- ---- a line asks at most 65 times: a display looks at its system's own lists and at 64 slices
line-asks : (lists : Lists) (t : TaskId) (l : Line) → length (asks_in (meaning_of lists t l)) ≤ 65
line-asks lists t (written.Enq [] ret rnl) = omega arith
line-asks lists t (written.Enq (i ∷ more) ret rnl) = omega arith
line-asks lists t (written.Reserve q r ctl unit ret rnl) = omega arith
line-asks lists t (written.Deq q r scope have unit rnl) = omega arith
line-asks lists t (written.Wait q r scope rnl) = omega arith
line-asks lists t (written.Gqscan true filter) = omega arith
line-asks lists t (written.Gqscan false filter) = omega arith
line-asks lists t written.DisplayC = omega arith
line-asks lists t (written.DisplayRes q r) = omega arith

lines-ask : (lists : Lists) (t : TaskId) (xs : List Line)
    → length (asks_of (map (meaning_of lists t) xs)) ≤ length (map (meaning_of lists t) xs) * 65
lines-ask lists t [] = omega arith
lines-ask lists t (x ∷ xs) =
    let h = lines-ask lists t xs in
    let k = line-asks lists t x in
    let e = length-append (asks_in (meaning_of lists t x)) (asks_of (map (meaning_of lists t) xs)) in
    omega (arith, h, k, e)

pub asks-few : (deck : Deck) (t : TaskId) (ls : List Meaning) → lines_of deck t ≡ Some ls
    → length (asks_of ls) ≤ length ls * 65
asks-few deck t ls h = of_task (lines_in (scripts_of deck t.system.0) t) h
  where
    of_task : (o : Option (List Line)) → meanings deck.lists t o ≡ Some ls → length (asks_of ls) ≤ length ls * 65
    of_task None e = absurd (cc)
    of_task (Some xs) e =
        let same : map (meaning_of deck.lists t) xs ≡ ls = cc in
        subst (λ ms. length (asks_of ms) ≤ length ms * 65) same (lines-ask deck.lists t xs)

-- ---- a line that shows lists looks at some
-- whether it does, if a line is one
abbrev looks_at_some : Meaning → Bool
looks_at_some (lines.Enq r c ret unit) = true
looks_at_some (lines.Deq r have) = true
looks_at_some (lines.Wait r) = true
looks_at_some (lines.Shows d) = nat_lt 0 (length (looks_in d))
looks_at_some lines.Nothing = true

line-looks : (lists : Lists) (t : TaskId) (l : Line) → looks_at_some (meaning_of lists t l) ≡ true
line-looks lists t (written.Enq [] ret rnl) = refl
line-looks lists t (written.Enq (i ∷ more) ret rnl) = refl
line-looks lists t (written.Reserve q r ctl unit ret rnl) = refl
line-looks lists t (written.Deq q r scope have unit rnl) = refl
line-looks lists t (written.Wait q r scope rnl) = refl
line-looks lists t (written.Gqscan true filter) = refl
line-looks lists t (written.Gqscan false filter) = refl
line-looks lists t written.DisplayC = refl
line-looks lists t (written.DisplayRes q r) = refl

pub display-looks : (deck : Deck) (t : TaskId) (ls : List Meaning) (k : ℕ) (d : Display) → lines_of deck t ≡ Some ls
    → slice_get ls k ≡ Some (lines.Shows d) → 0 < length (looks_in d)
display-looks deck t ls k d h at =
    ltb-true 0 (length (looks_in d)) (of_task (lines_in (scripts_of deck t.system.0) t) h)
  where
    of_line : (o : Option Line) → option_map (meaning_of deck.lists t) o ≡ Some (lines.Shows d)
        → looks_at_some (lines.Shows d) ≡ true
    of_line None e = absurd (cc)
    of_line (Some x) e =
        let same : meaning_of deck.lists t x ≡ lines.Shows d = cc in
        ap looks_at_some (sym same) ∙ line-looks deck.lists t x

    of_task : (o : Option (List Line)) → meanings deck.lists t o ≡ Some ls → looks_at_some (lines.Shows d) ≡ true
    of_task None e = absurd (cc)
    of_task (Some xs) e =
        let same : map (meaning_of deck.lists t) xs ≡ ls = cc in
        of_line (slice_get xs k)
        (sym (slice_get-map (meaning_of deck.lists t) xs k)
        ∙ subst (λ zs. slice_get zs k ≡ Some (lines.Shows d)) (sym same) at)

-- what the first look of such a line stands for doesn't wait
pub look-first : (d : Display) (h : HistEntry) → slice_get (looks_in d) 0 ≡ ask_in h → 0 < length (looks_in d)
    → code_of h ≡ Wait → ⊥
look-first d h is some waits = by_home d.home is some
  where
    by_slices : (count : ℕ) → slice_get (slice_asks d.first count d.filter) 0 ≡ ask_in h
        → 0 < length (slice_asks d.first count d.filter) → ⊥
    by_slices zero e low = absurd (omega (arith, low))
    by_slices (suc count) e low = look-waits h (Slice d.first) d.filter e waits

    by_home : (home : Option SysId)
        → slice_get (home_asks home d.filter ++ slice_asks d.first d.count d.filter) 0 ≡ ask_in h
        → 0 < length (home_asks home d.filter ++ slice_asks d.first d.count d.filter) → ⊥
    by_home None e low = by_slices d.count e low
    by_home (Some u) e low = look-waits h (Local u) d.filter e waits
