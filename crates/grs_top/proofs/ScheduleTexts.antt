-- A text of event lines behind the SCHEDULE of a deck's text.
use Rattle.std.proofs.Common.{◌≡◌, ◌<◌, ◌≤◌, ◌+◌, ℕ, Bool, true, false, cond, List, [], ◌∷◌, ◌++◌, length, codes, Option}
use Rattle.std.proofs.Common.{Some, None, refl, sym, ap, subst, ◌∙◌, arith, append_assoc, append-nil}
use Rattle.std.specs.Prelude.{◌&&◌, ◌||◌, ◌==◌, not}
use Rattle.std.specs.List.{cons_option}
use Rattle.std.proofs.lemmas.Bool.{and_parts}
use Rattle.std.proofs.lemmas.List.Elements.{filter-append}
use Rattle.grs_wire.specs.declared.deck.Deck.{Deck}
use Rattle.grs_wire.specs.declared.deck.Event.{Event}
use Rattle.grs_wire.specs.declared.deck.SystemDef.{SystemDef}
use Rattle.deck_scan.specs.Bytes.{bad_line, begins, is_allowed}
use Rattle.deck_scan.specs.Pieces.{Piece, Place, SpellsLines, apart, are_pieces, first_place, followed_by, is_piece}
use Rattle.deck_scan.specs.Pieces.{lines_said, lines_with, next_line, over, past, past_all, spelled, spelling, with_sign}
use Rattle.deck_scan.specs.Pieces.{with_token, without_cr}
use Rattle.deck_scan.specs.Pieces.{Blank, Comment, Hexed, LineEnd, LoneSlash, OpenComment, OpenHexed, OpenQuote, Plain}
use Rattle.deck_scan.specs.Pieces.{Quoted, Sign, StrayByte}
use Rattle.deck_scan.specs.declared.token.Token.{Token}
use Rattle.deck_scan.specs.declared.token.Token.TheVariants.{Open, Unclosed, Word}
use Rattle.deck_scan.specs.declared.token.TokenLine.{TokenLine}
use Rattle.deck_scan.proofs.Print.{piece_on}
use Rattle.deck_scan.proofs.Taking.{same_bytes}
use Rattle.rnl_syntax.specs.Lines.{goes_on, with_line}
use Rattle.deck_form.specs.declared.form.Stmt.{Stmt}
use Rattle.deck_form.specs.declared.form.Stmt.TheVariants as stmts
use Rattle.deck_form.specs.Spelled.{Spells}
use Rattle.deck_form.specs.Statements.{is_schedule, statements, statements_from}
use Rattle.deck_form.specs.SystemNames.{begins_schedule, name_given, names_to_schedule, system_names}
use Rattle.deck_form.proofs.FirstWords.{begins_with_schedule}
use Rattle.deck_form.proofs.Gathered.{ends_schedule}
use Rattle.deck_form.proofs.Systems.{named_here, none_behind}
use Rattle.grs_deck.specs.declared.judge.Draft.{Draft}
use Rattle.grs_deck.specs.EventLines.{SayEvents, SpellsEvents}
use Rattle.grs_deck.specs.Grow.{grow}
use Rattle.grs_deck.specs.Reading.{first_draft, no_draft}
use Rattle.grs_deck.specs.Spells.{Says, SpellsDeck}
use Rattle.grs_deck.proofs.EventLaws.{events_added}
use Rattle.grs_deck.proofs.Named.{names_of_statements}
use Rattle.deck_scan.specs.Reading.{most_text_bytes}
use Rattle.grs_top.specs.Schedules.{IsFront}

-- ---- the bytes of two texts

begins_more : (n : ℕ) (rest more : List ℕ) → begins n rest ≡ true → begins n (rest ++ more) ≡ true
begins_more n [] more h = absurd cc
begins_more n (b ∷ rest) more h = h

last_of_three : (p q r s t : Bool) → (s ≡ true → t ≡ true) → (p || q || (r && s)) ≡ true → (p || q || (r && t)) ≡ true
last_of_three true q r s t f h = refl
last_of_three false true r s t f h = refl
last_of_three false false true true t f h = f refl
last_of_three false false true false t f h = absurd cc
last_of_three false false false s t f h = absurd cc

allowed_more : (b : ℕ) (rest more : List ℕ) → is_allowed b rest ≡ true → is_allowed b (rest ++ more) ≡ true
unfolding is_allowed
allowed_more b rest more h =
    last_of_three _ (b == 10) (b == 13) (begins 10 rest) (begins 10 (rest ++ more)) (begins_more 10 rest more) h

-- a text that is allowed is so from each line on
on_any_line : (text : List ℕ) (m n : ℕ) → bad_line m text ≡ None → bad_line n text ≡ None
unfolding bad_line
on_any_line [] m n h = refl
on_any_line (b ∷ text) m n h =
    go (is_allowed b text) (on_any_line text (cond (b == 10) (m + 1) m) (cond (b == 10) (n + 1) n)) h
  where
    go : (a : Bool)
        → (bad_line (cond (b == 10) (m + 1) m) text ≡ None → bad_line (cond (b == 10) (n + 1) n) text ≡ None)
        → cond a (bad_line (cond (b == 10) (m + 1) m) text) (Some m) ≡ None
        → cond a (bad_line (cond (b == 10) (n + 1) n) text) (Some n) ≡ None
    go true more k = more k
    go false more k = absurd cc

both_allowed : (front text : List ℕ) (n : ℕ) → bad_line n front ≡ None → bad_line 1 text ≡ None
    → bad_line n (front ++ text) ≡ None
unfolding bad_line
both_allowed [] text n h k = on_any_line text 1 n k
both_allowed (b ∷ front) text n h k =
    go (is_allowed b front) refl (λ m. both_allowed front text (cond (b == 10) (n + 1) n) m k) h
  where
    go : (a : Bool) → is_allowed b front ≡ a
        → (bad_line (cond (b == 10) (n + 1) n) front ≡ None
        → bad_line (cond (b == 10) (n + 1) n) (front ++ text) ≡ None)
        → cond a (bad_line (cond (b == 10) (n + 1) n) front) (Some n) ≡ None
        → cond (is_allowed b (front ++ text)) (bad_line (cond (b == 10) (n + 1) n) (front ++ text)) (Some n) ≡ None
    go true is more m = rw (allowed_more b front text is) (more m)
    go false is more m = absurd cc

-- ---- their pieces

spelled-append : (ps qs : List Piece) → spelled (ps ++ qs) ≡ spelled ps ++ spelled qs
spelled-append [] qs = refl
spelled-append (p ∷ ps) qs =
    ap (λ (t : List ℕ). spelling p ++ t) (spelled-append ps qs) ∙ sym (append_assoc (spelling p) (spelled ps) (spelled qs))

past_all-append : (ps qs : List Piece) (a : Place) → past_all (ps ++ qs) a ≡ past_all qs (past_all ps a)
past_all-append [] qs a = refl
past_all-append (p ∷ ps) qs a = past_all-append ps qs (past p a)

end_followed : (text : List ℕ) → followed_by LineEnd text ≡ true
end_followed [] = refl
end_followed (b ∷ text) = refl

followed_on : (p : Piece) (us text : List ℕ) → followed_by p (us ++ 10 ∷ []) ≡ true
    → followed_by p ((us ++ 10 ∷ []) ++ text) ≡ true
followed_on p [] text h = h
followed_on p (u ∷ us) text h = h

-- these pieces, and the end of a line
abbrev ended : List Piece → List Piece
ended ps = ps ++ LineEnd ∷ []

are_both : (ps qs : List Piece) → are_pieces (ended ps) ≡ true → are_pieces qs ≡ true → are_pieces (ended ps ++ qs) ≡ true
are_both [] qs h k = piece_on LineEnd qs refl (end_followed (spelled qs)) k
are_both (p ∷ ps) qs h k =
    let a = and_parts (is_piece p) (followed_by p (spelled (ended ps)) && are_pieces (ended ps)) h in
    let b = and_parts (followed_by p (spelled (ended ps))) (are_pieces (ended ps)) a.1 in
    let ends : spelled (ended ps) ≡ spelled ps ++ 10 ∷ [] = spelled-append ps (LineEnd ∷ []) in
    let next : followed_by p ((spelled ps ++ 10 ∷ []) ++ spelled qs) ≡ true =
    followed_on p (spelled ps) (spelled qs) (subst (λ (t : List ℕ). followed_by p t ≡ true) ends b.0) in
    let whole : spelled (ended ps ++ qs) ≡ (spelled ps ++ 10 ∷ []) ++ spelled qs =
    spelled-append (ended ps) qs ∙ ap (λ (t : List ℕ). t ++ spelled qs) ends in
    piece_on p (ended ps ++ qs) a.0 (subst (λ (t : List ℕ). followed_by p t ≡ true) (sym whole) next)
    (are_both ps qs b.1 k)

-- ---- their lines

-- a line so many lines further on
abbrev later : ℕ → TokenLine → TokenLine
later n l = record { at = n + l.at; tokens = l.tokens; joined = l.joined }

abbrev all_later : ℕ → List TokenLine → List TokenLine
all_later n [] = []
all_later n (l ∷ ls) = later n l ∷ all_later n ls

later-append : (n : ℕ) (xs ys : List TokenLine) → all_later n (xs ++ ys) ≡ all_later n xs ++ all_later n ys
later-append n [] ys = refl
later-append n (x ∷ xs) ys = ap (λ (ls : List TokenLine). later n x ∷ ls) (later-append n xs ys)

abbrev one_line : ℕ → List Token → Bool → List TokenLine
one_line at ts joined = record { at = at; tokens = ts; joined = joined } ∷ []

-- where a line begins
abbrev begun_at : ℕ → List TokenLine → Place
begun_at n ls = record { line = n; tokens = []; near = false; joined = false; lines = ls }

same_begun : (m n : ℕ) (xs ys : List TokenLine) → m ≡ n → xs ≡ ys → begun_at m xs ≡ begun_at n ys
same_begun m n xs ys e f = rw (e, f) refl

-- the same place behind other lines
module _ (n : ℕ) (before : List TokenLine) where
  abbrev moved : Place → Place
  moved a = record {
    line = n + a.line;
    tokens = a.tokens;
    near = a.near;
    joined = a.joined;
    lines = before ++ all_later n a.lines;
  }

  lines-moved : (at : ℕ) (ts : List Token) (j : Bool) (ls : List TokenLine)
      → lines_with (n + at) ts j (before ++ all_later n ls) ≡ before ++ all_later n (lines_with at ts j ls)
  lines-moved at ts j ls = go (length ts == 0)
    where
      go : (b : Bool)
          → cond b (before ++ all_later n ls) ((before ++ all_later n ls) ++ one_line (n + at) ts j)
          ≡ before ++ all_later n (cond b ls (ls ++ one_line at ts j))
      go true = refl
      go false =
          append_assoc before (all_later n ls) (one_line (n + at) ts j)
          ∙ ap (λ (xs : List TokenLine). before ++ xs) (sym (later-append n ls (one_line at ts j)))

  next-moved : (a : Place) → next_line (moved a) ≡ moved (next_line a)
  next-moved a =
      same_begun ((n + a.line) + 1) (n + (a.line + 1)) _ _ (omega arith) (lines-moved a.line a.tokens a.joined a.lines)

  over-moved : (c : List ℕ) (a : Place) → over c (moved a) ≡ moved (over c a)
  over-moved [] a = refl
  over-moved (b ∷ c) a = go (b == 10) (over-moved c (next_line a)) (over-moved c a)
    where
      go : (t : Bool) → over c (moved (next_line a)) ≡ moved (over c (next_line a))
          → over c (moved a) ≡ moved (over c a)
          → over c (cond t (next_line (moved a)) (moved a)) ≡ moved (over c (cond t (next_line a) a))
      go true next here = ap (over c) (next-moved a) ∙ next
      go false next here = here

  sign-moved : (t : Token) (a : Place) → with_sign t (moved a) ≡ moved (with_sign t a)
  sign-moved Open a = refl
  sign-moved _ a = refl

  -- an open comment is a line of its own
  abbrev unclosed : ℕ → Place → Place
  unclosed l a = record (with_token Unclosed a) { line = l }

  past-moved : (q : Piece) (a : Place) → past q (moved a) ≡ moved (past q a)
  past-moved (Plain w) a = refl
  past-moved (Quoted w) a = refl
  past-moved (Hexed ds) a = refl
  past-moved (Sign t) a = sign-moved t a
  past-moved Blank a = refl
  past-moved (Comment c) a = over-moved c (apart a)
  past-moved LineEnd a = next-moved a
  past-moved LoneSlash a = refl
  past-moved (StrayByte b) a = refl
  past-moved (OpenQuote w) a = refl
  past-moved (OpenHexed ds) a = refl
  past-moved (OpenComment c) a =
      ap (λ (x : Place). unclosed (n + a.line) (next_line x)) (over-moved c (apart a))
      ∙ ap (λ (x : Place). unclosed (n + a.line) x) (next-moved (over c (apart a)))

  all-moved : (qs : List Piece) (a : Place) → past_all qs (moved a) ≡ moved (past_all qs a)
  all-moved [] a = refl
  all-moved (q ∷ qs) a = ap (past_all qs) (past-moved q a) ∙ all-moved qs (past q a)

lines_of_both : (ps qs : List Piece)
    → (n : ℕ) × (lines_said (ended ps ++ qs) ≡ lines_said (ended ps) ++ all_later n (lines_said qs))
lines_of_both ps qs = (x.line, said)
  where
    x : Place
    x = past_all ps first_place

    front : List TokenLine
    front = (next_line x).lines

    behind_front : past_all (ended ps) first_place ≡ next_line x
    behind_front = past_all-append ps (LineEnd ∷ []) first_place

    front_said : lines_said (ended ps) ≡ front
    front_said = ap (λ (a : Place). (next_line a).lines) behind_front

    begins_there : next_line x ≡ moved x.line front first_place
    begins_there = same_begun (x.line + 1) (x.line + 1) front (front ++ []) refl (sym (append-nil front))

    said : lines_said (ended ps ++ qs) ≡ lines_said (ended ps) ++ all_later x.line (lines_said qs)
    said =
        ap (λ (a : Place). (next_line a).lines)
        (past_all-append (ended ps) qs first_place
        ∙ ap (past_all qs) (behind_front ∙ begins_there)
        ∙ all-moved x.line front qs first_place)
        ∙ ap (λ (a : Place). a.lines) (next-moved x.line front (past_all qs first_place))
        ∙ ap (λ (ls : List TokenLine). ls ++ all_later x.line (lines_said qs)) (sym front_said)

both_spelled :
    (front text : List ℕ) (xs ys : List TokenLine) (h : SpellsLines front xs) (k : SpellsLines text ys) (ps : List Piece)
    → h.pieces ≡ ended ps → (n : ℕ) × SpellsLines (front ++ text) (xs ++ all_later n ys)
both_spelled front text xs ys h k ps ends =
    let two = lines_of_both ps k.pieces in (
      two.0,
      record {
        allowed = both_allowed front text 1 h.allowed k.allowed;
        pieces = ended ps ++ k.pieces;
        spells =
            filter-append (λ (b : ℕ). not (b == 13)) front text
            ∙ ap (λ (t : List ℕ). t ++ without_cr text) (h.spells ∙ ap spelled ends)
            ∙ ap (λ (t : List ℕ). spelled (ended ps) ++ t) k.spells
            ∙ sym (spelled-append (ended ps) k.pieces);
        are = are_both ps k.pieces (subst (λ (us : List Piece). are_pieces us ≡ true) ends h.are) k.are;
        says =
            ap (λ (ls : List TokenLine). ls ++ all_later two.0 ys) (h.says ∙ ap lines_said ends)
            ∙ ap (λ (ls : List TokenLine). lines_said (ended ps) ++ all_later two.0 ls) k.says
            ∙ sym two.1;
      },
    )

-- an event line says its event wherever it stands
say_later : (systems : List SystemDef) (entries n : ℕ) (ls : List TokenLine) (es : List Event)
    → SayEvents systems entries ls es → SayEvents systems entries (all_later n ls) es
say_later systems entries n [] [] h = tt
say_later systems entries n [] (e ∷ es) h = absurd h
say_later systems entries n (l ∷ ls) [] h = absurd h
say_later systems entries n (l ∷ ls) (e ∷ es) h = (
  record { st = h.0.st; spelled = h.0.spelled; sized = h.0.sized; event = h.0.event },
  say_later systems entries n ls es h.1,
)

-- ---- statements

says-append : (d e f : Draft) (xs ys : List TokenLine) → Says d xs e → Says e ys f → Says d (xs ++ ys) f
says-append d e f [] ys h k = subst (λ (x : Draft). Says x ys f) (sym h) k
says-append d e f (x ∷ xs) ys h k = (h.0, h.1, h.2, says-append (grow d h.0) e f xs ys h.3 k)

early_spelled : (d : Draft) (l : TokenLine) (st : Stmt) → d.scheduled ≡ false → Spells d.scheduled d.deck.entries l st
    → Spells false d.deck.entries l st
early_spelled d l st early s = subst (λ (b : Bool). Spells b d.deck.entries l st) early s

-- behind another statement SCHEDULE is still to come
not_yet : (d : Draft) (l : TokenLine) (st : Stmt) → d.scheduled ≡ false → Spells d.scheduled d.deck.entries l st
    → is_schedule l.tokens ≡ false → (grow d st).scheduled ≡ false
not_yet d l stmts.Schedule early s other =
    let y = early_spelled d l stmts.Schedule early s in
    let z : true ≡ false = ap is_schedule (sym y.1) ∙ other in absurd cc
not_yet d l (stmts.Complex c) early s other = rw early refl
not_yet d l (stmts.Rnldef r) early s other = rw early refl
not_yet d l (stmts.System n) early s other = rw early refl
not_yet d l (stmts.Job n) early s other = rw early refl
not_yet d l (stmts.Task n) early s other = rw early refl
not_yet d l (stmts.Line x) early s other = rw early refl
not_yet d l (stmts.Command c) early s other = rw early refl
not_yet d l (stmts.Event n a) early s other = rw early refl

-- so where the deck has it, it comes
clash : {X : Type 0} (d e : Draft) → d ≡ e → d.scheduled ≡ false → e.scheduled ≡ true → X
clash d e same early late =
    let z : true ≡ false = sym late ∙ ap (λ (x : Draft). x.scheduled) (sym same) ∙ early in absurd cc

by_lines : (s l : TokenLine) (ls : List TokenLine) → is_schedule s.tokens ≡ false
    → statements_from s (l ∷ ls)
    ≡ cond (goes_on s l) (statements_from (with_line s l) ls) (s ∷ statements_from l ls)
unfolding statements_from
by_lines s l ls other = rw other refl

-- Where the lines behind a statement so far, with it, make a draft, those behind them are statements each.
abbrev GoesOn : TokenLine → List TokenLine → List TokenLine → Draft → Draft → Type 0
GoesOn s ls more d e =
    Says d (statements_from s ls) e → statements_from s (ls ++ more) ≡ statements_from s ls ++ more

-- so it is where the draft has SCHEDULE
from_more : (ls more : List TokenLine) (s : TokenLine) (d e : Draft) → d.scheduled ≡ false → e.scheduled ≡ true
    → Says d (statements_from s ls) e → statements_from s (ls ++ more) ≡ statements_from s ls ++ more
unfolding statements_from
from_more [] more s d e early late h = go (is_schedule s.tokens) refl
  where
    go : (b : Bool) → is_schedule s.tokens ≡ b → statements_from s more ≡ s ∷ more
    go true is = ends_schedule s more is
    go false is = clash (grow d h.0) e h.3 (not_yet d s h.0 early h.1 is) late
from_more (l ∷ ls) more s d e early late h =
    go (is_schedule s.tokens) refl (λ k. from_more ls more (with_line s l) d e early late k)
    (λ x early_x k. from_more ls more l x e early_x late k)
  where
    go_on : GoesOn (with_line s l) ls more d e → ((x : Draft) → x.scheduled ≡ false → GoesOn l ls more x e)
        → is_schedule s.tokens ≡ false → (b : Bool)
        → Says d (cond b (statements_from (with_line s l) ls) (s ∷ statements_from l ls)) e
        → cond b (statements_from (with_line s l) (ls ++ more)) (s ∷ statements_from l (ls ++ more))
        ≡ cond b (statements_from (with_line s l) ls) (s ∷ statements_from l ls) ++ more
    go_on gathers begins other true k = gathers k
    go_on gathers begins other false k =
        ap (λ (xs : List TokenLine). s ∷ xs)
        (begins (grow d k.0) (not_yet d s k.0 early k.1 other) k.3)

    go : (b : Bool) → is_schedule s.tokens ≡ b → GoesOn (with_line s l) ls more d e
        → ((x : Draft) → x.scheduled ≡ false → GoesOn l ls more x e)
        → statements_from s (l ∷ (ls ++ more)) ≡ statements_from s (l ∷ ls) ++ more
    go true is gathers begins =
        ends_schedule s (l ∷ (ls ++ more)) is
        ∙ ap (λ (xs : List TokenLine). xs ++ more) (sym (ends_schedule s (l ∷ ls) is))
    go false is gathers begins =
        by_lines s l (ls ++ more) is
        ∙ go_on gathers begins is (goes_on s l) (subst (λ (xs : List TokenLine). Says d xs e) (by_lines s l ls is) h)
        ∙ ap (λ (xs : List TokenLine). xs ++ more) (sym (by_lines s l ls is))

statements_more : (ls more : List TokenLine) (d e : Draft) → d.scheduled ≡ false → e.scheduled ≡ true
    → Says d (statements ls) e → statements (ls ++ more) ≡ statements ls ++ more
unfolding statements
statements_more [] more d e early late h = clash d e h early late
statements_more (l ∷ ls) more d e early late h = from_more ls more l d e early late h

-- ---- names

alone : (ts : List Token) → is_schedule ts ≡ true → ts ≡ Word (codes "SCHEDULE") ∷ []
alone [] h = absurd cc
alone (Word w ∷ []) h = ap (λ (v : List ℕ). Word v ∷ []) (same_bytes w (codes "SCHEDULE") h)
alone (Word w ∷ t ∷ ts) h = absurd cc
alone (_ ∷ ts) h = absurd cc

-- behind SCHEDULE no name is given
names_more : (xs more : List TokenLine) (d e : Draft) → d.scheduled ≡ false → e.scheduled ≡ true → Says d xs e
    → names_to_schedule (xs ++ more) ≡ names_to_schedule xs
names_more [] more d e early late h = clash d e h early late
names_more (x ∷ xs) more d e early late h =
    go (begins_schedule x) refl (λ y early_y k. names_more xs more y e early_y late k)
  where
    other : begins_schedule x ≡ false → (b : Bool) → is_schedule x.tokens ≡ b → is_schedule x.tokens ≡ false
    other unbegun false is = is
    other unbegun true is =
        let y = early_spelled d x h.0 early h.1 in
        let z : true ≡ false = sym (begins_with_schedule x y.0 (alone x.tokens is)) ∙ unbegun in absurd cc

    go : (b : Bool) → begins_schedule x ≡ b
        → ((y : Draft) → y.scheduled ≡ false → Says y xs e → names_to_schedule (xs ++ more) ≡ names_to_schedule xs)
        → names_to_schedule (x ∷ (xs ++ more)) ≡ names_to_schedule (x ∷ xs)
    go true is behind = none_behind x (xs ++ more) is ∙ sym (none_behind x xs is)
    go false is behind =
        named_here x (xs ++ more) is
        ∙ ap (cons_option (name_given x))
        (behind (grow d h.0) (not_yet d x h.0 early h.1 (other is (is_schedule x.tokens) refl)) h.3)
        ∙ sym (named_here x xs is)

-- ---- the deck

pub with_events : (front text : List ℕ) (deck : Deck) (es : List Event) → IsFront front deck
    → SpellsEvents deck.systems deck.entries text es → length (front ++ text) ≤ most_text_bytes
    → SpellsDeck (front ++ text) (record deck { events = es })
with_events front text deck es f k short =
    let h = f.spelled in
    let two = both_spelled front text h.lines k.lines h.spelled k.spelled f.before f.ends in
    let more : List TokenLine = all_later two.0 k.lines in
    let lines : List TokenLine = h.lines ++ more in
    let first : Draft = first_draft h.lines in
    let here : SayEvents h.draft.deck.systems h.draft.deck.entries more es =
    subst (λ (x : Deck). SayEvents x.systems x.entries more es) (sym h.is)
    (say_later deck.systems deck.entries two.0 k.lines es k.says) in
    let added = events_added more es h.draft f.scheduled here in
    let split : statements lines ≡ statements h.lines ++ more =
    statements_more h.lines more first h.draft refl f.scheduled h.says in
    let says : Says first (statements lines) added.0 =
    subst (λ (xs : List TokenLine). Says first xs added.0) (sym split)
    (says-append first h.draft added.0 (statements h.lines) more h.says added.1) in
    let names : system_names lines ≡ system_names h.lines =
    names_of_statements lines first added.0 refl refl says
    ∙ ap names_to_schedule split
    ∙ names_more (statements h.lines) more first h.draft refl f.scheduled h.says
    ∙ sym (names_of_statements h.lines first h.draft refl refl h.says) in
    record {
      short = short;
      lines = lines;
      spelled = two.1;
      draft = added.0;
      says =
          subst (λ (ns : List (List ℕ)). Says (no_draft ns) (statements lines) added.0) (sym names) says;
      is = added.2 ∙ ap (λ (x : Deck). record x { events = x.events ++ es }) h.is;
      system = h.system;
    }
