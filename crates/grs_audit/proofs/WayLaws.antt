-- Behind a legal history a line stands on the way exactly where it is a line of the one entry that it says.
use Rattle.std.proofs.Common.{◌≡◌, ◌<◌, ◌+◌, ◌^◌, ℕ, List, [], ◌∷◌, ◌++◌, length}
use Rattle.std.proofs.Common.{get_or}
use Rattle.std.proofs.Common.{Some, refl, ap, sym, subst, ◌∙◌, arith, append_assoc, append-nil}
use Rattle.std.proofs.Common.{◌⊎◌, inl, inr}
use Rattle.std.specs.List.{flat_map}
use Rattle.std.proofs.lemmas.List.{append_cancel_left}
use Rattle.grs_base.specs.declared.resource.Row.{Row}
use Rattle.grs_wire.specs.Decks.{IsDeck}
use Rattle.grs_wire.specs.declared.deck.Deck.{Deck}
use Rattle.grs_wire.specs.declared.history.HistEntry.{HistEntry}
use Rattle.grs_wire.specs.declared.history.HistEntry.TheVariants.{Enq, Deq, Release, Look, Remove}
use Rattle.grs_wire.specs.declared.seen.Names.{Names}
use Rattle.grs_display.specs.Lines.{line, spaced}
use Rattle.grs_display.specs.Names.{names_of}
use Rattle.grs_display.specs.Rows.{row_line}
use Rattle.grs_legal.specs.Legal.{LegalFrom, MayStand}
use Rattle.grs_report.specs.History.{history_line, history_lines}
use Rattle.grs_track.specs.Tracks.{tracks_of, IsBehind}
use Rattle.grs_track.proofs.Standing.{stands_by_tracks}
use Rattle.grs_audit.specs.Lines.{lines_in, front, behind}
use Rattle.grs_audit.specs.Way.{told_word, printed}
use Rattle.grs_audit.specs.Words.{next_by_line}
use Rattle.grs_audit.proofs.LineLaws.{lines-append, lines-cut}
use Rattle.grs_audit.proofs.WordLaws.{entry-asked, says-next}

-- ---- the lines of an entry
-- a text that ends with a line end
pub record Ends (text : List ℕ) : Type 0 where
  pub before : List ℕ
  pub is : text ≡ before ++ 10 ∷ []

ends-behind : (x y : List ℕ) → Ends y → Ends (x ++ y)
ends-behind x y e = record {
  before = x ++ e.before;
  is = ap (λ z. x ++ z) e.is ∙ sym (append_assoc x e.before (10 ∷ []));
}

line-ends : (w : List ℕ) (ws : List (List ℕ)) → Ends (line (w ∷ ws))
unfolding line
line-ends w ws = record { before = w ++ spaced ws; is = refl }

row-ends : (names : Names) (row : Row) → Ends (row_line names 82 row)
unfolding row_line
row-ends names row = line-ends (82 ∷ []) _

rows-end : (names : Names) (x : List ℕ) (rows : List Row) → Ends x → Ends (x ++ flat_map (row_line names 82) rows)
rows-end names x [] e = record { before = e.before; is = append-nil x ∙ e.is }
rows-end names x (r ∷ rows) e =
    let rest = rows-end names (x ++ row_line names 82 r) rows (ends-behind x (row_line names 82 r) (row-ends names r)) in
    record {
      before = rest.before;
      is = sym (append_assoc x (row_line names 82 r) (flat_map (row_line names 82) rows)) ∙ rest.is;
    }

entry-ends : (names : Names) (m : ℕ) (h : HistEntry) → Ends (history_line names m h)
unfolding history_line
entry-ends names m (Enq t r c ret code) = line-ends _ _
entry-ends names m (Deq t r have code) = line-ends _ _
entry-ends names m (Release t r) = line-ends _ _
entry-ends names m (Look t place filter rows) = rows-end names _ rows (line-ends _ _)
entry-ends names m (Remove by target) = line-ends _ _

-- the lines of one entry
abbrev pub entry_lines : Names → ℕ → HistEntry → List (List ℕ)
entry_lines names m h = lines_in (history_line names m h)

-- the text of an entry, and then its lines stand before what follows
pub entry-then : (names : Names) (m : ℕ) (h : HistEntry) (xs : List ℕ)
    → lines_in (history_line names m h ++ xs) ≡ entry_lines names m h ++ lines_in xs
entry-then names m h xs =
    let e = entry-ends names m h in
    ap (λ x. lines_in (x ++ xs)) e.is
    ∙ lines-append e.before xs
    ∙ ap (λ x. lines_in x ++ lines_in xs) (sym e.is)

-- the first of them
abbrev pub entry_first : Names → ℕ → HistEntry → List ℕ
entry_first names m h = front 10 (history_line names m h)

abbrev pub entry_more : Names → ℕ → HistEntry → List (List ℕ)
entry_more names m h = lines_in (behind 10 (history_line names m h))

pub entry-begins : (names : Names) (m : ℕ) (h : HistEntry)
    → entry_lines names m h ≡ entry_first names m h ∷ entry_more names m h
entry-begins names m h = by_text (history_line names m h) _ (entry-asked names m h).is
  where
    by_text : (text xs : List ℕ) → text ≡ 72 ∷ xs → lines_in text ≡ front 10 text ∷ lines_in (behind 10 text)
    by_text text xs e =
        ap lines_in e ∙ lines-cut 72 xs ∙ ap (λ x. front 10 x ∷ lines_in (behind 10 x)) (sym e)

-- it begins with H, and TOLD doesn't
entry-head : (names : Names) (m : ℕ) (h : HistEntry) → (xs : List ℕ) × (entry_first names m h ≡ 72 ∷ xs)
entry-head names m h = (_, ap (front 10) (entry-asked names m h).is)

pub no-told : (names : Names) (m : ℕ) (h : HistEntry) → told_word ≡ entry_first names m h → ⊥
no-told names m h e = differs _ (e ∙ (entry-head names m h).1)
  where
    differs : (xs : List ℕ) → told_word ≡ 72 ∷ xs → ⊥
    differs xs f = let n = ap (λ (l : List ℕ). get_or l 0 0) f in absurd (omega (arith, n))

-- ---- the lines of a history
module _ (deck : Deck) where
  abbrev names : Names
  names = names_of deck

  pub printed-cons : (m : ℕ) (h : HistEntry) (hs : List HistEntry)
      → printed deck m (h ∷ hs) ≡ entry_lines names m h ++ printed deck (m + 1) hs
  printed-cons m h hs = entry-then names m h (history_lines names (m + 1) hs)

  pub printed-append : (m : ℕ) (hs gs : List HistEntry)
      → printed deck m (hs ++ gs) ≡ printed deck m hs ++ printed deck (m + length hs) gs
  printed-append m [] gs = ap (λ k. printed deck k gs) (omega arith)
  printed-append m (h ∷ hs) gs =
      printed-cons m h (hs ++ gs)
      ∙ ap (λ x. entry_lines names m h ++ x) (printed-append (m + 1) hs gs)
      ∙ ap (λ k. entry_lines names m h ++ (printed deck (m + 1) hs ++ printed deck k gs)) (omega arith)
      ∙ sym (append_assoc (entry_lines names m h) (printed deck (m + 1) hs) (printed deck (m + length (h ∷ hs)) gs))
      ∙ ap (λ x. x ++ printed deck (m + length (h ∷ hs)) gs) (sym (printed-cons m h hs))

  -- a history is legal as far as it goes, and then behind that
  pub legal-parts : (p hs gs : List HistEntry) → LegalFrom deck p (hs ++ gs)
      → LegalFrom deck p hs × LegalFrom deck (p ++ hs) gs
  legal-parts p [] gs l = (tt, subst (λ x. LegalFrom deck x gs) (sym (append-nil p)) l)
  legal-parts p (h ∷ hs) gs l =
      let r = legal-parts (p ++ h ∷ []) hs gs l.1 in
      ((l.0, r.0), subst (λ x. LegalFrom deck x gs) (append_assoc p (h ∷ []) hs) r.1)

  pub legal-longer : (p hs : List HistEntry) (h : HistEntry) → LegalFrom deck p hs → MayStand deck (p ++ hs) h
      → LegalFrom deck p (hs ++ h ∷ [])
  legal-longer p [] h l may = (subst (λ x. MayStand deck x h) (append-nil p) may, tt)
  legal-longer p (g ∷ hs) h l may = (
    l.0,
    legal-longer (p ++ g ∷ []) hs h l.1
        (subst (λ x. MayStand deck x h) (sym (append_assoc p (g ∷ []) hs)) may),
  )

  -- ---- one line, one entry
  behind-of : (p : List HistEntry) → IsBehind p (tracks_of deck p)
  behind-of p = record { lists = refl; removed = refl; tracks = λ t. refl }

  same-first : (is : IsDeck deck) (p : List HistEntry) (m : ℕ) (h g : HistEntry) → m < 2 ^ 64
      → MayStand deck p h → MayStand deck p g → entry_first names m h ≡ entry_first names m g → h ≡ g
  same-first is p m h g small mh mg e =
      let v = tracks_of deck p in
      let a = says-next v m h is small ((stands_by_tracks p v h (behind-of p)).0 mh) in
      let b = says-next v m g is small ((stands_by_tracks p v g (behind-of p)).0 mg) in
      some_is h g (sym a ∙ ap (next_by_line v) e ∙ b)
    where
      some_is : (x y : HistEntry) → Some x ≡ Some y → x ≡ y
      some_is x y f = cc

  -- of two histories whose lines begin one text, one begins with the other
  abbrev pub Begins : List HistEntry → List HistEntry → Type 0
  Begins hs gs = (rest : List HistEntry) × (gs ≡ hs ++ rest)

  pub one-way : (is : IsDeck deck) (p hs gs : List HistEntry) (m : ℕ) (a b : List (List ℕ))
      → LegalFrom deck p hs → LegalFrom deck p gs → m + length hs < 2 ^ 64
      → printed deck m hs ++ a ≡ printed deck m gs ++ b → Begins hs gs ⊎ Begins gs hs
  one-way is p [] gs m a b lh lg small e = inl (gs, refl)
  one-way is p (h ∷ hs) [] m a b lh lg small e = inr (h ∷ hs, refl)
  one-way is p (h ∷ hs) (g ∷ gs) m a b lh lg small e = go (one-way is (p ++ h ∷ []) hs gs (m + 1) a b lh.1 legal-gs
      (omega (arith, small)) behind-first)
    where
      first-of : (k : HistEntry) (ks : List HistEntry) (c : List (List ℕ))
          → printed deck m (k ∷ ks) ++ c ≡ entry_lines names m k ++ (printed deck (m + 1) ks ++ c)
      first-of k ks c =
          ap (λ x. x ++ c) (printed-cons m k ks)
          ∙ append_assoc (entry_lines names m k) (printed deck (m + 1) ks) c

      heads : (x y : List ℕ) (xs ys : List (List ℕ)) → x ∷ xs ≡ y ∷ ys → x ≡ y
      heads x y xs ys f = cc

      both-ways : entry_lines names m h ++ (printed deck (m + 1) hs ++ a)
          ≡ entry_lines names m g ++ (printed deck (m + 1) gs ++ b)
      both-ways = sym (first-of h hs a) ∙ e ∙ first-of g gs b

      same : h ≡ g
      same =
          same-first is p m h g (omega (arith, small)) lh.0 lg.0
          (heads (entry_first names m h) (entry_first names m g)
          (entry_more names m h ++ (printed deck (m + 1) hs ++ a))
          (entry_more names m g ++ (printed deck (m + 1) gs ++ b))
          (ap (λ x. x ++ (printed deck (m + 1) hs ++ a)) (sym (entry-begins names m h))
          ∙ both-ways
          ∙ ap (λ x. x ++ (printed deck (m + 1) gs ++ b)) (entry-begins names m g)))

      legal-gs : LegalFrom deck (p ++ h ∷ []) gs
      legal-gs = subst (λ x. LegalFrom deck (p ++ x ∷ []) gs) (sym same) lg.1

      behind-first : printed deck (m + 1) hs ++ a ≡ printed deck (m + 1) gs ++ b
      behind-first =
          append_cancel_left (entry_lines names m h) (printed deck (m + 1) hs ++ a) (printed deck (m + 1) gs ++ b)
          (both-ways
          ∙ ap (λ x. entry_lines names m x ++ (printed deck (m + 1) gs ++ b)) (sym same))

      go : Begins hs gs ⊎ Begins gs hs → Begins (h ∷ hs) (g ∷ gs) ⊎ Begins (g ∷ gs) (h ∷ hs)
      go (inl x) = inl (x.0, ap (λ y. y ∷ gs) (sym same) ∙ ap (λ y. h ∷ y) x.1)
      go (inr x) = inr (x.0, ap (λ y. y ∷ hs) same ∙ ap (λ y. g ∷ y) x.1)
