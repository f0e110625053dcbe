-- How far a text leads: the entries that its lines show so far, and what the next line may be.
use Rattle.std.proofs.Common.{◌≡◌, ◌<◌, ◌≤◌, ◌+◌, ◌^◌, ℕ, suc, Bool, true, false, cond, List, [], ◌∷◌, ◌++◌, length}
use Rattle.std.proofs.Common.{take, Some, None, refl, ap, sym, subst, ◌∙◌, arith, append_assoc, append-nil}
use Rattle.std.proofs.Common.{length-append, ◌⊎◌, inl, inr}
use Rattle.std.specs.Prelude.{◌==◌}
use Rattle.std.proofs.lemmas.Bool.{eq-eqb, eqb-true}
use Rattle.std.proofs.lemmas.List.{append_cancel_left}
use Rattle.grs_wire.specs.Decks.{IsDeck}
use Rattle.grs_wire.specs.declared.deck.Deck.{Deck}
use Rattle.grs_wire.specs.declared.history.HistEntry.{HistEntry}
use Rattle.grs_wire.specs.declared.seen.Names.{Names}
use Rattle.grs_display.specs.Names.{names_of}
use Rattle.grs_legal.specs.Legal.{Legal, MayStand}
use Rattle.grs_report.specs.History.{history_line, history_lines}
use Rattle.grs_track.specs.Tracks.{TracksView, IsBehind, MayCome, GoesOn}
use Rattle.grs_track.proofs.Standing.{stands_by_tracks, longer_by_tracks}
use Rattle.grs_audit.specs.Lines.{lines_in, front}
use Rattle.grs_audit.specs.Way.{told_word, printed, told_behind, IsOnTheWay, IsWhole, IsOff}
use Rattle.grs_audit.specs.Words.{next_by_line, NextLineIsSaid}
use Rattle.grs_audit.proofs.WordLaws.{says-next}
use Rattle.grs_audit.proofs.WayLaws.{entry_lines, entry_first, entry_more, entry-begins, no-told, Begins, one-way}
use Rattle.grs_audit.proofs.WayLaws.{entry-then, printed-cons, printed-append, legal-parts, legal-longer}

-- Of these lines behind `HISTORY n`, those before the rest are the lines of so many entries of a legal history, behind
-- which this is kept.
pub record IsAt (deck : Deck) (n : ℕ) (all rest : List (List ℕ)) (done far : ℕ) (v : TracksView) : Type 0 where
  pub hist : List HistEntry
  pub legal : Legal deck hist
  pub behind : IsBehind hist v
  pub of : v.deck ≡ deck
  pub count : length hist ≡ done
  pub few : done ≤ n
  pub lines : length (printed deck 1 hist) ≡ far
  pub split : all ≡ printed deck 1 hist ++ rest

pub at-first : (deck : Deck) (n : ℕ) (all : List (List ℕ)) (v : TracksView) → v.deck ≡ deck → IsBehind [] v
    → IsAt deck n all all 0 0 v
at-first deck n all v of behind = record {
  hist = [];
  legal = tt;
  behind = behind;
  of = of;
  count = refl;
  few = omega arith;
  lines = refl;
  split = refl;
}

-- each entry has a line
pub lines-count : (deck : Deck) (m : ℕ) (hs : List HistEntry) → length hs ≤ length (printed deck m hs)
lines-count deck m [] = omega arith
lines-count deck m (h ∷ hs) =
    let more = lines-count deck (m + 1) hs in
    let all =
    ap length (printed-cons deck m h hs)
    ∙ length-append (entry_lines (names_of deck) m h) (printed deck (m + 1) hs)
    ∙ ap (λ x. length x + length (printed deck (m + 1) hs)) (entry-begins (names_of deck) m h) in
    omega (arith, more, all)

pub at-few : (deck : Deck) (n : ℕ) (all rest : List (List ℕ)) (done far : ℕ) (v : TracksView)
    → IsAt deck n all rest done far v → (done ≤ far) × (far ≤ length all)
at-few deck n all rest done far v at =
    let c = at.count in
    let l = at.lines in
    let s = ap length at.split ∙ length-append (printed deck 1 at.hist) rest in
    let few = lines-count deck 1 at.hist in
    (omega (arith, c, l, few), omega (arith, l, s))

-- what lines behind so many entries go on with: TOLD behind all, and else an entry that may stand next
pub data Goes (names : Names) (n done : ℕ) (v : TracksView) (ls : List (List ℕ)) : Type 0 where
  Told : (all : done ≡ n) → (more : List (List ℕ)) → (is : ls ≡ told_word ∷ more) → Goes names n done v ls
  Entry : (h : HistEntry) → (less : done < n) → (may : MayCome v h) → (more : List (List ℕ))
      → (is : ls ≡ entry_lines names (1 + done) h ++ more) → Goes names n done v ls

-- where the lines of a history end: nothing is behind, or TOLD behind n entries
pub data Tail (n : ℕ) (k : List HistEntry) (ls : List (List ℕ)) : Type 0 where
  Open : (is : ls ≡ []) → Tail n k ls
  Closed : (all : length k ≡ n) → (more : List (List ℕ)) → (is : ls ≡ told_word ∷ more) → Tail n k ls

tail-behind : (n : ℕ) (k : List HistEntry) → Tail n k (told_behind n (length k))
tail-behind n k = go (length k == n) refl
  where
    go : (b : Bool) → (length k == n) ≡ b → Tail n k (cond b (told_word ∷ []) [])
    go true e = Closed (eqb-true (length k) n e) [] refl
    go false e = Open refl

pub told-whole : (n : ℕ) (k : List HistEntry) → length k ≡ n → told_behind n (length k) ≡ told_word ∷ []
told-whole n k e = ap (λ b. cond b (told_word ∷ []) []) (eq-eqb (length k) n e)

take-front : (xs ys : List (List ℕ)) → take (length xs) (xs ++ ys) ≡ xs
take-front [] ys = refl
take-front (x ∷ xs) ys = ap (λ zs. x ∷ zs) (take-front xs ys)

heads : (x y : List ℕ) (xs ys : List (List ℕ)) → x ∷ xs ≡ y ∷ ys → x ≡ y
heads x y xs ys f = cc

pub nothing-there : (x : List ℕ) (xs : List (List ℕ)) → [] ≡ x ∷ xs → ⊥
nothing-there x xs f = absurd (cc)

pub is-some : (x y : HistEntry) → Some x ≡ Some y → x ≡ y
is-some x y f = cc

none-some : (x : HistEntry) → None ≡ Some x → ⊥
none-some x f = absurd (cc)

module _ (deck : Deck) (is : IsDeck deck) (n : ℕ) (all rest : List (List ℕ)) (done far : ℕ) (v : TracksView)
    (small : done + 2 < 2 ^ 64) (at : IsAt deck n all rest done far v) where
  abbrev names : Names
  names = names_of deck

  pub may-come : (h : HistEntry) → MayStand deck at.hist h → MayCome v h
  may-come h may = (stands_by_tracks at.hist v h at.behind).0 (subst (λ d. MayStand d at.hist h) (sym at.of) may)

  may-stand : (h : HistEntry) → MayCome v h → MayStand deck at.hist h
  may-stand h may = subst (λ d. MayStand d at.hist h) at.of ((stands_by_tracks at.hist v h at.behind).1 may)

  -- what the first line of an entry says
  pub says : (h : HistEntry) → MayCome v h → next_by_line v (entry_first names (1 + done) h) ≡ Some h
  says h may =
      subst (λ d. next_by_line v (entry_first (names_of d) (1 + done) h) ≡ Some h) at.of
      (says-next v (1 + done) h (subst IsDeck (sym at.of) is) (omega (arith, small)) may)

  -- one more entry
  longer : (h : HistEntry)
      → printed deck 1 (at.hist ++ h ∷ []) ≡ printed deck 1 at.hist ++ entry_lines names (1 + done) h
  longer h =
      printed-append deck 1 at.hist (h ∷ [])
      ∙ ap (λ x. printed deck 1 at.hist ++ lines_in x) (append-nil (history_line names (1 + length at.hist) h))
      ∙ ap (λ k. printed deck 1 at.hist ++ entry_lines names (1 + k) h) at.count

  pub at-next : (h : HistEntry) (v' : TracksView) (more : List (List ℕ)) → done < n → MayCome v h → GoesOn v h v'
      → rest ≡ entry_lines names (1 + done) h ++ more
      → IsAt deck n all more (done + 1) (far + length (entry_lines names (1 + done) h)) v'
  at-next h v' more less may goes split = record {
    hist = at.hist ++ h ∷ [];
    legal = legal-longer deck [] at.hist h at.legal (may-stand h may);
    behind = longer_by_tracks at.hist v v' h at.behind goes;
    of = goes.deck ∙ at.of;
    count = let c = at.count in let l = length-append at.hist (h ∷ []) in omega (arith, c, l);
    few = omega (arith, less);
    lines =
        ap length (longer h)
        ∙ length-append (printed deck 1 at.hist) (entry_lines names (1 + done) h)
        ∙ ap (λ k. k + length (entry_lines names (1 + done) h)) at.lines;
    split =
        at.split
        ∙ ap (λ x. printed deck 1 at.hist ++ x) split
        ∙ sym (append_assoc (printed deck 1 at.hist) (entry_lines names (1 + done) h) more)
        ∙ ap (λ x. x ++ more) (sym (longer h));
  }

  -- ---- what the lines of another history go on with
  of-same : (k : List HistEntry) (tail ys : List (List ℕ)) → k ≡ at.hist
      → printed deck 1 k ++ tail ≡ printed deck 1 at.hist ++ ys → Tail n k tail → (tail ≡ [] → ys ≡ [] → ⊥)
      → Goes names n done v ys
  of-same k tail ys same e t some = go t
    where
      one : tail ≡ ys
      one =
          append_cancel_left (printed deck 1 at.hist) tail ys
          (ap (λ x. printed deck 1 x ++ tail) (sym same) ∙ e)

      go : Tail n k tail → Goes names n done v ys
      go (Open none) = absurd (some none (sym one ∙ none))
      go (Closed whole more told) = Told (sym at.count ∙ ap length (sym same) ∙ whole) more (sym one ∙ told)

  of-longer : (k : List HistEntry) (h : HistEntry) (hs : List HistEntry) (tail ys : List (List ℕ))
      → Legal deck k → length k ≤ n → k ≡ at.hist ++ h ∷ hs
      → printed deck 1 k ++ tail ≡ printed deck 1 at.hist ++ ys → Goes names n done v ys
  of-longer k h hs tail ys legal few same e =
      Entry h less (may-come h (legal-parts deck [] at.hist (h ∷ hs) (subst (Legal deck) same legal)).1.0)
      (printed deck (1 + done + 1) hs ++ tail)
      (append_cancel_left (printed deck 1 at.hist) ys
      (entry_lines names (1 + done) h ++ (printed deck (1 + done + 1) hs ++ tail))
      (sym e
      ∙ ap (λ x. printed deck 1 x ++ tail) same
      ∙ ap (λ x. x ++ tail) (printed-append deck 1 at.hist (h ∷ hs))
      ∙ append_assoc (printed deck 1 at.hist) (printed deck (1 + length at.hist) (h ∷ hs)) tail
      ∙ ap (λ c. printed deck 1 at.hist ++ (printed deck (1 + c) (h ∷ hs) ++ tail)) at.count
      ∙ ap (λ x. printed deck 1 at.hist ++ (x ++ tail))
      (entry-then names (1 + done) h (history_lines names (1 + done + 1) hs))
      ∙ ap (λ x. printed deck 1 at.hist ++ x)
      (append_assoc (entry_lines names (1 + done) h) (printed deck (1 + done + 1) hs) tail)))
    where
      less : done < n
      less =
          let c = at.count in
          let l = ap length same ∙ length-append at.hist (h ∷ hs) in
          omega (arith, c, l, few)

  of-shorter : (k : List HistEntry) (h : HistEntry) (hs : List HistEntry) (tail ys : List (List ℕ))
      → at.hist ≡ k ++ h ∷ hs → printed deck 1 k ++ tail ≡ printed deck 1 at.hist ++ ys → Tail n k tail → ⊥
  of-shorter k h hs tail ys same e t = go t
    where
      begins : tail
          ≡ entry_first names (1 + length k) h
          ∷ ((entry_more names (1 + length k) h ++ printed deck (1 + length k + 1) hs) ++ ys)
      begins =
          append_cancel_left (printed deck 1 k) tail
          (entry_first names (1 + length k) h
          ∷ ((entry_more names (1 + length k) h ++ printed deck (1 + length k + 1) hs) ++ ys))
          (e
          ∙ ap (λ x. printed deck 1 x ++ ys) same
          ∙ ap (λ x. x ++ ys) (printed-append deck 1 k (h ∷ hs))
          ∙ append_assoc (printed deck 1 k) (printed deck (1 + length k) (h ∷ hs)) ys
          ∙ ap (λ x. printed deck 1 k ++ (x ++ ys))
          (entry-then names (1 + length k) h (history_lines names (1 + length k + 1) hs))
          ∙ ap (λ x. printed deck 1 k ++ ((x ++ printed deck (1 + length k + 1) hs) ++ ys))
          (entry-begins names (1 + length k) h))

      go : Tail n k tail → ⊥
      go (Open none) =
          nothing-there (entry_first names (1 + length k) h)
          ((entry_more names (1 + length k) h ++ printed deck (1 + length k + 1) hs) ++ ys) (sym none ∙ begins)
      go (Closed whole rest told) =
          no-told names (1 + length k) h
          (heads told_word (entry_first names (1 + length k) h) rest
          ((entry_more names (1 + length k) h ++ printed deck (1 + length k + 1) hs) ++ ys) (sym told ∙ begins))

  goes-of : (k : List HistEntry) (tail ys : List (List ℕ)) → Legal deck k → length k ≤ n
      → printed deck 1 k ++ tail ≡ printed deck 1 at.hist ++ ys → Tail n k tail → (tail ≡ [] → ys ≡ [] → ⊥)
      → Goes names n done v ys
  goes-of k tail ys legal few e t some =
      go (one-way deck is [] at.hist k 1 ys tail at.legal legal (let c = at.count in omega (arith, c, small)) (sym e))
    where
      beyond : (r : List HistEntry) → k ≡ at.hist ++ r → Goes names n done v ys
      beyond [] same = of-same k tail ys (same ∙ append-nil at.hist) e t some
      beyond (h ∷ hs) same = of-longer k h hs tail ys legal few same e

      within : (r : List HistEntry) → at.hist ≡ k ++ r → Goes names n done v ys
      within [] same = of-same k tail ys (sym (same ∙ append-nil k)) e t some
      within (h ∷ hs) same = absurd (of-shorter k h hs tail ys same e t)

      go : Begins deck at.hist k ⊎ Begins deck k at.hist → Goes names n done v ys
      go (inl x) = beyond x.0 x.1
      go (inr x) = within x.0 x.1

  not-none : (ys more : List (List ℕ)) → (ys ≡ [] → ⊥) → ys ++ more ≡ [] → ⊥
  not-none [] more some e = some refl
  not-none (y ∷ ys) more some e = nothing-there y (ys ++ more) (sym e)

  -- what is on the way goes on
  pub way-goes : (ys : List (List ℕ)) → (ys ≡ [] → ⊥) → IsOnTheWay deck n (printed deck 1 at.hist ++ ys)
      → (more : List (List ℕ)) × Goes names n done v (ys ++ more)
  way-goes ys some o = (
    o.rest,
    goes-of o.hist (told_behind n (length o.hist)) (ys ++ o.rest) o.legal o.few
        (o.front ∙ append_assoc (printed deck 1 at.hist) ys o.rest) (tail-behind n o.hist)
        (λ _ e. not-none ys o.rest some e),
  )

  -- and what is whole
  whole-goes : IsWhole deck n all → Goes names n done v rest
  whole-goes w =
      goes-of w.hist (told_word ∷ w.rest) rest w.legal (omega (arith, count)) one (Closed w.count w.rest refl)
      (λ none. absurd (nothing-there told_word w.rest (sym none)))
    where
      count : length w.hist ≡ n
      count = w.count

      one : printed deck 1 w.hist ++ told_word ∷ w.rest ≡ printed deck 1 at.hist ++ rest
      one =
          sym (append_assoc (printed deck 1 w.hist) (told_word ∷ []) w.rest)
          ∙ ap (λ x. (printed deck 1 w.hist ++ x) ++ w.rest) (sym (told-whole n w.hist w.count))
          ∙ sym w.begins
          ∙ at.split

  -- ---- a line that can't stand
  abbrev so_far : List (List ℕ)
  so_far = printed deck 1 at.hist

  off-by : (same behind : List (List ℕ)) → rest ≡ same ++ behind → IsOnTheWay deck n (so_far ++ same)
      → ((y : List ℕ) (ys more : List (List ℕ)) → behind ≡ y ∷ ys → Goes names n done v ((same ++ y ∷ []) ++ more) → ⊥)
      → (Goes names n done v rest → ⊥) → IsOff deck n all (far + length same)
  off-by same behind split on bad nowhole = record {
    whole = λ w. nowhole (whole-goes w);
    within = let l = ap length cut ∙ length-append (so_far ++ same) behind in omega (arith, l, count);
    on = subst (IsOnTheWay deck n) (sym front-is) on;
    off = go behind cut bad;
  }
    where
      cut : all ≡ (so_far ++ same) ++ behind
      cut = at.split ∙ ap (λ x. so_far ++ x) split ∙ sym (append_assoc so_far same behind)

      count : length (so_far ++ same) ≡ far + length same
      count = length-append so_far same ∙ ap (λ k. k + length same) at.lines

      front-is : take (far + length same) all ≡ so_far ++ same
      front-is =
          ap (λ k. take k all) (sym count)
          ∙ ap (take (length (so_far ++ same))) cut
          ∙ take-front (so_far ++ same) behind

      go : (xs : List (List ℕ)) → all ≡ (so_far ++ same) ++ xs
          → ((y : List ℕ) (ys more : List (List ℕ)) → xs ≡ y ∷ ys → Goes names n done v ((same ++ y ∷ []) ++ more) → ⊥)
          → far + length same < length all → IsOnTheWay deck n (take (suc (far + length same)) all) → ⊥
      go [] is-all none less o =
          let l = ap length is-all ∙ length-append (so_far ++ same) [] in absurd (omega (arith, l, count, less))
      go (y ∷ ys) is-all none less o =
          let w = way-goes (same ++ y ∷ []) (not-empty same) (subst (IsOnTheWay deck n) one o) in
          none y ys w.0 refl w.1
        where
          not-empty : (xs : List (List ℕ)) → xs ++ y ∷ [] ≡ [] → ⊥
          not-empty [] e = nothing-there y [] (sym e)
          not-empty (x ∷ xs) e = nothing-there x (xs ++ y ∷ []) (sym e)

          long : length (so_far ++ (same ++ y ∷ [])) ≡ suc (far + length same)
          long =
              let a = length-append so_far (same ++ y ∷ []) in
              let b = length-append same (y ∷ []) in
              let c = at.lines in
              omega (arith, a, b, c)

          one : take (suc (far + length same)) all ≡ so_far ++ (same ++ y ∷ [])
          one =
              ap (λ k. take k all) (sym long)
              ∙ ap (take (length (so_far ++ (same ++ y ∷ []))))
              (is-all
              ∙ sym (append_assoc (so_far ++ same) (y ∷ []) ys)
              ∙ ap (λ x. x ++ ys) (append_assoc so_far same (y ∷ [])))
              ∙ take-front (so_far ++ (same ++ y ∷ [])) ys

  here-on : IsOnTheWay deck n (so_far ++ [])
  here-on = record {
    hist = at.hist;
    legal = at.legal;
    few = let c = at.count in let f = at.few in omega (arith, c, f);
    rest = told_behind n (length at.hist);
    front = ap (λ x. x ++ told_behind n (length at.hist)) (sym (append-nil so_far));
  }

  -- behind all entries TOLD is missing
  pub off-told : done ≡ n → ((more : List (List ℕ)) → rest ≡ told_word ∷ more → ⊥) → IsOff deck n all far
  off-told whole other =
      subst (IsOff deck n all) (omega arith)
      (off-by [] rest refl here-on
      (λ y ys more e g. bad g (λ xs f. other ys (e ∙ ap (λ x. x ∷ ys) (heads y told_word more xs f))))
      (λ g. bad g other))
    where
      bad : {ls : List (List ℕ)} → Goes names n done v ls → ((more : List (List ℕ)) → ls ≡ told_word ∷ more → ⊥) → ⊥
      bad (Told every more e) none = none more e
      bad (Entry h less may more e) none = absurd (omega (arith, less, whole))

  -- the text ends, or its next line isn't that of an entry that may stand
  pub off-line : done < n → ((y : List ℕ) (ys : List (List ℕ)) → rest ≡ y ∷ ys → next_by_line v y ≡ None)
      → IsOff deck n all far
  off-line less none =
      subst (IsOff deck n all) (omega arith)
      (off-by [] rest refl here-on (λ y ys more e g. bad y more (none y ys e) g refl)
      (λ g. whole rest refl g))
    where
      bad : (y : List ℕ) (ls : List (List ℕ)) → next_by_line v y ≡ None → {xs : List (List ℕ)}
          → Goes names n done v xs → xs ≡ y ∷ ls → ⊥
      bad y ls lacks (Told every more e) f = absurd (omega (arith, less, every))
      bad y ls lacks (Entry h _ may more e) f =
          none-some h
          (sym lacks
          ∙ ap (next_by_line v)
          (heads y (entry_first names (1 + done) h) ls (entry_more names (1 + done) h ++ more)
          (sym f ∙ e ∙ ap (λ x. x ++ more) (entry-begins names (1 + done) h)))
          ∙ says h may)

      whole : (xs : List (List ℕ)) → rest ≡ xs → Goes names n done v rest → ⊥
      whole [] e (Told every more f) = absurd (omega (arith, less, every))
      whole [] e (Entry h _ may more f) =
          nothing-there (entry_first names (1 + done) h) (entry_more names (1 + done) h ++ more)
          (sym e ∙ f ∙ ap (λ x. x ++ more) (entry-begins names (1 + done) h))
      whole (y ∷ ys) e g = bad y ys (none y ys e) g e

  -- its next lines are not all those of the entry that may stand
  pub off-entry : (x : List ℕ) (xs : List (List ℕ)) (h : HistEntry) → done < n → rest ≡ x ∷ xs
      → next_by_line v x ≡ Some h → MayCome v h → (same behind : List (List ℕ)) (a : List ℕ) (ms : List (List ℕ))
      → rest ≡ same ++ behind → entry_lines names (1 + done) h ≡ same ++ a ∷ ms
      → ((ys : List (List ℕ)) → behind ≡ a ∷ ys → ⊥) → IsOff deck n all (far + length same)
  off-entry x xs h less begins next may same behind a ms split wanted other =
      off-by same behind split on (λ y ys more e g. bad y ys more e g) whole
    where
      on : IsOnTheWay deck n (so_far ++ same)
      on = record {
        hist = at.hist ++ h ∷ [];
        legal = legal-longer deck [] at.hist h at.legal (may-stand h may);
        few = let c = at.count in let l = length-append at.hist (h ∷ []) in omega (arith, c, l, less);
        rest = (a ∷ ms) ++ told_behind n (length (at.hist ++ h ∷ []));
        front =
            ap (λ z. z ++ told_behind n (length (at.hist ++ h ∷ [])))
            (longer h ∙ ap (λ z. so_far ++ z) wanted ∙ sym (append_assoc so_far same (a ∷ ms)))
            ∙ append_assoc (so_far ++ same) (a ∷ ms) (told_behind n (length (at.hist ++ h ∷ [])));
      }

      -- an entry with this first line is the one
      one : (g : HistEntry) (ls more : List (List ℕ)) → MayCome v g → ls ≡ entry_lines names (1 + done) g ++ more
          → (zs : List (List ℕ)) → ls ≡ x ∷ zs → g ≡ h
      one g ls more may-g e zs f =
          is-some g h
          (sym (says g may-g)
          ∙ ap (next_by_line v)
          (heads (entry_first names (1 + done) g) x (entry_more names (1 + done) g ++ more) zs
          (ap (λ z. z ++ more) (sym (entry-begins names (1 + done) g)) ∙ sym e ∙ f))
          ∙ next)

      -- what begins with the same lines begins with x
      first-is : (us : List (List ℕ)) (y : List ℕ) (ys more : List (List ℕ)) → rest ≡ us ++ y ∷ ys
          → (zs : List (List ℕ)) × ((us ++ y ∷ []) ++ more ≡ x ∷ zs)
      first-is [] y ys more e = (more, ap (λ z. z ∷ more) (heads y x ys xs (sym e ∙ begins)))
      first-is (u ∷ us) y ys more e = (
        (us ++ y ∷ []) ++ more,
        ap (λ z. z ∷ ((us ++ y ∷ []) ++ more)) (heads u x (us ++ y ∷ ys) xs (sym e ∙ begins)),
      )

      bad : (y : List ℕ) (ys more : List (List ℕ)) → behind ≡ y ∷ ys → Goes names n done v ((same ++ y ∷ []) ++ more) → ⊥
      bad y ys more e (Told every more2 f) = absurd (omega (arith, less, every))
      bad y ys more e (Entry g _ may-g more2 f) =
          let begun = first-is same y ys more (split ∙ ap (λ z. same ++ z) e) in
          let same-h = one g _ more2 may-g f begun.0 begun.1 in
          other ys
          (e
          ∙ ap (λ z. z ∷ ys)
          (heads y a more (ms ++ more2)
          (append_cancel_left same (y ∷ more) (a ∷ (ms ++ more2))
          (sym (append_assoc same (y ∷ []) more)
          ∙ f
          ∙ ap (λ z. entry_lines names (1 + done) z ++ more2) same-h
          ∙ ap (λ z. z ++ more2) wanted
          ∙ append_assoc same (a ∷ ms) more2))))

      whole : Goes names n done v rest → ⊥
      whole (Told every more2 f) = absurd (omega (arith, less, every))
      whole (Entry g _ may-g more2 f) =
          let same-h = one g rest more2 may-g f xs begins in
          other (ms ++ more2)
          (append_cancel_left same behind (a ∷ (ms ++ more2))
          (sym split
          ∙ f
          ∙ ap (λ z. entry_lines names (1 + done) z ++ more2) same-h
          ∙ ap (λ z. z ++ more2) wanted
          ∙ append_assoc same (a ∷ ms) more2))

  -- behind all entries stands TOLD
  pub yes-told : done ≡ n → (more : List (List ℕ)) → rest ≡ told_word ∷ more → IsWhole deck n all
  yes-told whole more e = record {
    hist = at.hist;
    legal = at.legal;
    count = at.count ∙ whole;
    rest = more;
    begins =
        at.split
        ∙ ap (λ x. so_far ++ x) e
        ∙ sym (append_assoc so_far (told_word ∷ []) more)
        ∙ ap (λ x. (so_far ++ x) ++ more) (sym (told-whole n at.hist (at.count ∙ whole)));
  }

-- ---- the next line says who asks
pub next_line_is_said : NextLineIsSaid
next_line_is_said deck n hist v l is small few legal behind of on =
    let at : IsAt deck n (printed deck 1 hist) [] (length hist) (length (printed deck 1 hist)) v = record {
      hist = hist;
      legal = legal;
      behind = behind;
      of = of;
      count = refl;
      few = few;
      lines = refl;
      split = sym (append-nil (printed deck 1 hist));
    } in
    let goes = way-goes deck is n (printed deck 1 hist) [] (length hist) (length (printed deck 1 hist)) v small at
    (l ∷ []) (λ e. nothing-there l [] (sym e)) on in
    by_cases at goes.0 goes.1
  where
    by_cases : IsAt deck n (printed deck 1 hist) [] (length hist) (length (printed deck 1 hist)) v
        → (more : List (List ℕ)) → Goes (names_of deck) n (length hist) v ((l ∷ []) ++ more)
        → ((length hist ≡ n) × (l ≡ told_word))
        ⊎ ((h : HistEntry) × (next_by_line v l ≡ Some h)
        × (l ≡ front 10 (history_line (names_of deck) (1 + length hist) h)))
    by_cases at more (Told every rest e) = inl (every, heads l told_word more rest e)
    by_cases at more (Entry h less may rest e) =
        let first : l ≡ entry_first (names_of deck) (1 + length hist) h =
        heads l (entry_first (names_of deck) (1 + length hist) h) more
        (entry_more (names_of deck) (1 + length hist) h ++ rest)
        (e ∙ ap (λ x. x ++ rest) (entry-begins (names_of deck) (1 + length hist) h)) in
        inr (
          h,
          (ap (next_by_line v) first
              ∙ says deck is n (printed deck 1 hist) [] (length hist) (length (printed deck 1 hist)) v small at h may),
          first,
        )
