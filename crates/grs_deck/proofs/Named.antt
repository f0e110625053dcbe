-- The names that the lines of a deck give are those that its statements give, though some lines make a statement
-- together.
use Rattle.std.proofs.Common.{◌≡◌, ℕ, zero, suc, ◌≤◌, ◌<◌, Bool, true, false, cond, List, [], ◌∷◌, ◌++◌, length, codes}
use Rattle.std.proofs.Common.{Option}
use Rattle.std.proofs.Common.{Some, None, refl, sym, ap, subst, ◌∙◌, arith, append_assoc, append-nil}
use Rattle.std.specs.Prelude.{◌||◌}
use Rattle.std.specs.List.{cons_option, flat_map}
use Rattle.std.proofs.lemmas.Bool.{and_parts}
use Rattle.deck_scan.proofs.Taking.{same_bytes}
use Rattle.deck_scan.specs.declared.token.Token.{Token}
use Rattle.deck_scan.specs.declared.token.Token.TheVariants.{Word, Open, Close}
use Rattle.deck_scan.specs.declared.token.TokenLine.{TokenLine}
use Rattle.rnl_syntax.specs.Lines.{begins_rnldef, begins_operand, is_open, goes_on, with_line, first_from, left_from}
use Rattle.rnl_syntax.specs.Spelled.{Operand, WithRnl, WithType, WithQname, WithRname, operand, which_word, form_word}
use Rattle.rnl_syntax.specs.Spelled.{IsRnldef}
use Rattle.deck_form.specs.declared.form.Stmt.{Stmt}
use Rattle.deck_form.specs.declared.form.Stmt.TheVariants as stmts
use Rattle.deck_form.specs.Spelled.{Spells}
use Rattle.deck_form.specs.Statements.{is_schedule, statements_from, statements}
use Rattle.deck_form.specs.SystemNames.{name_given, begins_schedule, names_to_schedule, system_names}
use Rattle.deck_form.proofs.FirstWords.{schedule_spelled, begins_with_schedule, rnldef_word, rnldef_spelled}
use Rattle.deck_form.proofs.Gathered.{gathered, ends_schedule}
use Rattle.deck_form.proofs.Systems.{named_here, none_behind, no_lines, first_named, unnamed, spelled_name, given_name}
use Rattle.deck_form.proofs.Unknown.{one_spelled}
use Rattle.grs_wire.specs.declared.deck.Order.{Order}
use Rattle.grs_wire.specs.declared.deck.SystemDef.{SystemDef}
use Rattle.grs_deck.specs.declared.judge.Draft.{Draft}
use Rattle.grs_deck.specs.Grow.{on_last, add_order, order_by, grow}
use Rattle.grs_deck.specs.Places.{place_ordered}
use Rattle.grs_deck.specs.Spells.{MayStand, Says}
use Rattle.grs_deck.proofs.Orders.{no_schedule, quiet_names}

-- ---- the lines of an RNLDEF give no name: in it no two words stand side by side

two_words : List ℕ → List ℕ → List Token → List Token
two_words v w rest = Word v ∷ Word w ∷ rest

-- an operand is four tokens, of which the second and the last are no words
operand_parts : (x : Operand) → (w : List ℕ) × (t : Token) × (operand x ≡ Word w ∷ Open ∷ t ∷ Close ∷ [])
operand_parts (WithRnl which) = (codes "RNL", Word (which_word which), refl)
operand_parts (WithType form) = (codes "TYPE", Word (form_word form), refl)
operand_parts (WithQname t q) = (codes "QNAME", t, refl)
operand_parts (WithRname t r) = (codes "RNAME", t, refl)

no_pair : (given : List Operand) (front : List Token) (v w : List ℕ) (rest : List Token)
    → front ++ two_words v w rest ≡ flat_map operand given → ⊥
unfolding two_words
no_pair [] [] v w rest h = cc
no_pair [] (t ∷ front) v w rest h = cc
no_pair (x ∷ given) front v w rest h =
    let p = operand_parts x in
    go (λ ts e. no_pair given ts v w rest e) front (h ∙ ap (λ (ts : List Token). ts ++ flat_map operand given) p.2)
  where
    go : {u : List ℕ} {t : Token} → ((ts : List Token) → ts ++ two_words v w rest ≡ flat_map operand given → ⊥)
        → (ts : List Token)
        → ts ++ two_words v w rest ≡ Word u ∷ Open ∷ t ∷ Close ∷ flat_map operand given → ⊥
    go more [] e = cc
    go more (a ∷ []) e = cc
    go more (a ∷ b ∷ []) e = cc
    go more (a ∷ b ∷ c ∷ []) e = cc
    go more (a ∷ b ∷ c ∷ d ∷ ts) e = more ts (by e)
      where
        by : {u : List ℕ} {t : Token}
            → a ∷ b ∷ c ∷ d ∷ (ts ++ two_words v w rest) ≡ Word u ∷ Open ∷ t ∷ Close ∷ flat_map operand given
            → ts ++ two_words v w rest ≡ flat_map operand given
        by e = cc

-- the tokens of the statement begin with those so far
further : (ls : List TokenLine) (s : TokenLine) → (more : List Token) × ((first_from s ls).tokens ≡ s.tokens ++ more)
unfolding first_from
further [] s = ([], sym (append-nil s.tokens))
further (l ∷ ls) s = go (goes_on s l) (further ls (with_line s l))
  where
    go : (b : Bool)
        → (more : List Token) × ((first_from (with_line s l) ls).tokens ≡ (s.tokens ++ l.tokens) ++ more)
        → (more : List Token) × ((cond b (first_from (with_line s l) ls) s).tokens ≡ s.tokens ++ more)
    go true f = (l.tokens ++ f.0, f.1 ∙ append_assoc s.tokens l.tokens f.0)
    go false f = ([], sym (append-nil s.tokens))

-- a line within gives none
within : (entries : ℕ) (s l : TokenLine) (ls : List TokenLine) (given : List Operand) (so_far : List Token)
    → s.tokens ≡ Word (codes "RNLDEF") ∷ so_far
    → (first_from (with_line s l) ls).tokens ≡ Word (codes "RNLDEF") ∷ flat_map operand given → name_given l ≡ None
unfolding two_words
within entries s l ls given so_far begun whole = go (name_given l) refl
  where
    go : (o : Option (List ℕ)) → name_given l ≡ o → name_given l ≡ None
    go None is = is
    go (Some n) is =
        let y = (spelled_name entries l n is).0 in
        let f = further ls (with_line s l) in
        let all : Word (codes "RNLDEF") ∷ (so_far ++ two_words (codes "SYSTEM") n f.0)
        ≡ Word (codes "RNLDEF") ∷ flat_map operand given =
        sym (whole_is y.1.0 f.0 f.1) ∙ whole in
        absurd (no_pair given so_far (codes "SYSTEM") n f.0 (rest_is all))
      where
        rest_is : {a b : List Token} → Word (codes "RNLDEF") ∷ a ≡ Word (codes "RNLDEF") ∷ b → a ≡ b
        rest_is e = cc

        whole_is : {m : List ℕ} → l.tokens ≡ Word (codes "SYSTEM") ∷ Word m ∷ [] → (more : List Token)
            → (first_from (with_line s l) ls).tokens ≡ (s.tokens ++ l.tokens) ++ more
            → (first_from (with_line s l) ls).tokens
            ≡ Word (codes "RNLDEF") ∷ (so_far ++ two_words (codes "SYSTEM") m more)
        whole_is {m} spelled more h =
            h
            ∙ rw (begun, spelled)
            (ap (λ (ts : List Token). Word (codes "RNLDEF") ∷ ts)
            (append_assoc so_far (Word (codes "SYSTEM") ∷ Word m ∷ []) more))

-- so the first name comes behind it
past_rnldef : (entries : ℕ) (ls : List TokenLine) (s : TokenLine) (given : List Operand) (so_far : List Token)
    → s.tokens ≡ Word (codes "RNLDEF") ∷ so_far
    → (first_from s ls).tokens ≡ Word (codes "RNLDEF") ∷ flat_map operand given
    → system_names ls ≡ system_names (left_from s ls)
unfolding first_from left_from
past_rnldef entries [] s given so_far begun whole = refl
past_rnldef entries (l ∷ ls) s given so_far begun whole =
    go (goes_on s l)
    (λ h. past_rnldef entries ls (with_line s l) given (so_far ++ l.tokens)
    (ap (λ (ts : List Token). ts ++ l.tokens) begun) h)
    whole
  where
    go : (b : Bool)
        → ((first_from (with_line s l) ls).tokens ≡ Word (codes "RNLDEF") ∷ flat_map operand given
        → system_names ls ≡ system_names (left_from (with_line s l) ls))
        → (cond b (first_from (with_line s l) ls) s).tokens ≡ Word (codes "RNLDEF") ∷ flat_map operand given
        → system_names (l ∷ ls) ≡ system_names (cond b (left_from (with_line s l) ls) (l ∷ ls))
    go false more h = refl
    go true more h = unnamed l ls (within entries s l ls given so_far begun h) ∙ more h

no_longer : (ls : List TokenLine) (s : TokenLine) → length (left_from s ls) ≤ length ls
unfolding left_from
no_longer [] s = omega arith
no_longer (l ∷ ls) s = go (goes_on s l) (no_longer ls (with_line s l))
  where
    go : (b : Bool) → length (left_from (with_line s l) ls) ≤ length ls
        → length (cond b (left_from (with_line s l) ls) (l ∷ ls)) ≤ length (l ∷ ls)
    go true k = omega (arith, k)
    go false k = omega arith

-- ---- a statement of one line

alone_on : (l x : TokenLine) → begins_rnldef l.tokens ≡ false → goes_on l x ≡ false
alone_on l x h = rw h refl

alone_first : (l : TokenLine) (ls : List TokenLine) → begins_rnldef l.tokens ≡ false → first_from l ls ≡ l
unfolding first_from
alone_first l [] h = refl
alone_first l (x ∷ ls) h = rw (alone_on l x h) refl

alone_left : (l : TokenLine) (ls : List TokenLine) → begins_rnldef l.tokens ≡ false → left_from l ls ≡ ls
unfolding left_from
alone_left l [] h = refl
alone_left l (x ∷ ls) h = rw (alone_on l x h) refl

-- ---- behind the first system

last_none : {A : Type 0} (f : A → A) (xs : List A) → on_last f xs ≡ [] → xs ≡ []
last_none f [] h = refl
last_none f (x ∷ []) h = absurd cc
last_none f (x ∷ y ∷ ys) h = absurd cc

push_none : {A : Type 0} {B : Type 0} (xs : List A) (x : A) → xs ++ x ∷ [] ≡ [] → B
push_none [] x h = absurd cc
push_none (y ∷ ys) x h = absurd cc

order_none : (at : ℕ) (o : Option Order) (ss : List SystemDef) → add_order at o ss ≡ [] → ss ≡ []
order_none at None ss h = h
order_none at (Some o) ss h = last_none _ ss h

-- systems stay
still_some : (d : Draft) (st : Stmt) (entries : ℕ) (l : TokenLine) → Spells false entries l st
    → (d.deck.systems ≡ [] → ⊥) → (grow d st).deck.systems ≡ [] → ⊥
still_some d (stmts.Complex c) entries l s some h = some h
still_some d (stmts.Rnldef r) entries l s some h = some h
still_some d (stmts.System n) entries l s some h =
    push_none d.deck.systems (record { name = n; desk = []; jobs = [] }) h
still_some d (stmts.Job n) entries l s some h = some (last_none _ d.deck.systems h)
still_some d (stmts.Task n) entries l s some h = some (last_none _ d.deck.systems h)
still_some d (stmts.Line x) entries l s some h = some (last_none _ d.deck.systems h)
still_some d (stmts.Command c) entries l s some h =
    some (order_none c.at (order_by (place_ordered d.names c.order) c.order) d.deck.systems h)
still_some d stmts.Schedule entries l s some h = some h
still_some d (stmts.Event n a) entries l s some h = absurd s.1

-- before SCHEDULE still
abbrev early_still : (d : Draft) (st : Stmt) → Type 0
early_still d st = (grow d st).scheduled ≡ false

stays_early : (d : Draft) (st : Stmt) → d.scheduled ≡ false → (st ≡ stmts.Schedule → ⊥) → early_still d st
stays_early d stmts.Schedule early other = absurd (other refl)
stays_early d (stmts.Complex c) early other = rw early refl
stays_early d (stmts.Rnldef r) early other = rw early refl
stays_early d (stmts.System n) early other = rw early refl
stays_early d (stmts.Job n) early other = rw early refl
stays_early d (stmts.Task n) early other = rw early refl
stays_early d (stmts.Line x) early other = rw early refl
stays_early d (stmts.Command c) early other = rw early refl
stays_early d (stmts.Event n a) early other = rw early refl

early_spells : (d : Draft) (l : TokenLine) (st : Stmt) → d.scheduled ≡ false → Spells d.scheduled d.deck.entries l st
    → Spells false d.deck.entries l st
early_spells d l st early s = subst (λ (b : Bool). Spells b d.deck.entries l st) early s

-- an RNLDEF so far begins with its word, and goes on to do so
begun_still : (ts all more : List Token) → all ≡ ts ++ more → begins_rnldef ts ≡ true → begins_rnldef all ≡ true
begun_still [] all more is h = absurd cc
begun_still (Word w ∷ ts) all more is h = rw is h
begun_still (_ ∷ ts) all more is h = absurd cc

not_begun : (l : TokenLine) (entries : ℕ) (st : Stmt) → Spells false entries l st → st ≡ stmts.Schedule
    → begins_schedule l ≡ false → ⊥
not_begun l entries st s is unbegun =
    let y : Spells false entries l stmts.Schedule = subst (λ (x : Stmt). Spells false entries l x) is s in
    absurd (let z : true ≡ false = sym (begins_with_schedule l y.0 y.1) ∙ unbegun in cc)

-- a line gives its name, whatever stands behind it
same_front : (l : TokenLine) (xs ys : List TokenLine)
    → (begins_schedule l ≡ false → names_to_schedule xs ≡ names_to_schedule ys)
    → names_to_schedule (l ∷ xs) ≡ names_to_schedule (l ∷ ys)
same_front l xs ys same = go (begins_schedule l) refl
  where
    go : (b : Bool) → begins_schedule l ≡ b → names_to_schedule (l ∷ xs) ≡ names_to_schedule (l ∷ ys)
    go true is = none_behind l xs is ∙ sym (none_behind l ys is)
    go false is = named_here l xs is ∙ ap (cons_option (name_given l)) (same is) ∙ sym (named_here l ys is)

-- behind a system the names of these lines are those of their statements
abbrev Behind : Draft → List TokenLine → Type 0
Behind e ls =
    (x : Draft) → x.scheduled ≡ false → (x.deck.systems ≡ [] → ⊥) → Says x (statements ls) e
    → names_to_schedule ls ≡ names_to_schedule (statements ls)

-- behind a system each line is a statement
pub behind_first : (ls : List TokenLine) (d e : Draft) → d.scheduled ≡ false → (d.deck.systems ≡ [] → ⊥)
    → Says d (statements ls) e → names_to_schedule ls ≡ names_to_schedule (statements ls)
unfolding statements
behind_first [] d e early some says = refl
behind_first (l ∷ ls) d e early some says =
    go (is_schedule l.tokens) refl (λ x early_x some_x says_x. behind_first ls x e early_x some_x says_x)
  where
    by_rnldef : Behind e ls → is_schedule l.tokens ≡ false → Says d (first_from l ls ∷ statements (left_from l ls)) e
        → (b : Bool)
        → begins_rnldef l.tokens ≡ b
        → names_to_schedule (l ∷ ls) ≡ names_to_schedule (first_from l ls ∷ statements (left_from l ls))
    by_rnldef more other h true is =
        let f = further ls l in
        let s = early_spells d (first_from l ls) h.0 early h.1 in
        let r =
        rnldef_spelled d.deck.entries (first_from l ls) h.0 s
        (begun_still l.tokens (first_from l ls).tokens f.0 f.1 is) in
        absurd (some (subst (λ (x : Stmt). MayStand d x) r.1 h.2).placed)
    by_rnldef more other h false is =
        let first = alone_first l ls is in
        let left = alone_left l ls is in
        let k : Says d (l ∷ statements ls) e =
        subst (λ (x : TokenLine). Says d (x ∷ statements ls) e) first
        (subst (λ (x : List TokenLine). Says d (first_from l ls ∷ statements x) e) left h) in
        let s = early_spells d l k.0 early k.1 in
        rw (first, left)
        (same_front l ls (statements ls)
        (λ unbegun. more (grow d k.0)
        (stays_early d k.0 early (λ is_it. not_begun l d.deck.entries k.0 s is_it unbegun))
        (still_some d k.0 d.deck.entries l s some)
        k.3))

    go : (b : Bool) → is_schedule l.tokens ≡ b → Behind e ls
        → names_to_schedule (l ∷ ls) ≡ names_to_schedule (statements_from l ls)
    go true is more = ap names_to_schedule (sym (ends_schedule l ls is))
    go false is more =
        let g = gathered l ls is in
        by_rnldef more is (subst (λ (x : List TokenLine). Says d x e) g says) (begins_rnldef l.tokens) refl
        ∙ ap names_to_schedule (sym g)

-- ---- up to the first system

-- no system stands yet, and none is added
none_still : (d : Draft) (st : Stmt) (entries : ℕ) (l : TokenLine) → Spells false entries l st
    → ((n : List ℕ) → st ≡ stmts.System n → ⊥) → d.deck.systems ≡ [] → (grow d st).deck.systems ≡ []
none_still d (stmts.Complex c) entries l s unnamed h = h
none_still d (stmts.Rnldef r) entries l s unnamed h = h
none_still d (stmts.System n) entries l s unnamed h = absurd (unnamed n refl)
none_still d (stmts.Job n) entries l s unnamed h = rw h refl
none_still d (stmts.Task n) entries l s unnamed h = rw h refl
none_still d (stmts.Line x) entries l s unnamed h = rw h refl
none_still d (stmts.Command c) entries l s unnamed h =
    rw h (empty (order_by (place_ordered d.names c.order) c.order))
  where
    empty : (o : Option Order) → add_order c.at o [] ≡ []
    empty None = refl
    empty (Some o) = refl
none_still d stmts.Schedule entries l s unnamed h = h
none_still d (stmts.Event n a) entries l s unnamed h = absurd s.1

no_schedule_yet : (d : Draft) (st : Stmt) → MayStand d st → d.deck.systems ≡ [] → st ≡ stmts.Schedule → ⊥
no_schedule_yet d st right none is =
    let placed : 0 < length d.deck.systems = (subst (λ (x : Stmt). MayStand d x) is right).placed in
    let many : length d.deck.systems ≡ 0 = ap length none in
    absurd (omega (arith, placed, many))

-- SCHEDULE alone
alone_schedule : (ts : List Token) → is_schedule ts ≡ true → ts ≡ Word (codes "SCHEDULE") ∷ []
alone_schedule [] h = absurd cc
alone_schedule (Word w ∷ []) h = ap (λ (v : List ℕ). Word v ∷ []) (same_bytes w (codes "SCHEDULE") h)
alone_schedule (Word w ∷ t ∷ ts) h = absurd cc
alone_schedule (_ ∷ ts) h = absurd cc

-- a line that begins an RNLDEF gives no name
rnldef_unnamed : (l : TokenLine) → begins_rnldef l.tokens ≡ true → name_given l ≡ None
rnldef_unnamed l begun = go (name_given l) refl
  where
    go : (o : Option (List ℕ)) → name_given l ≡ o → name_given l ≡ None
    go None is = is
    go (Some n) is =
        let y = (spelled_name 0 l n is).0 in
        absurd (let z : begins_rnldef (Word (codes "SYSTEM") ∷ Word n ∷ []) ≡ true =
        ap begins_rnldef (sym y.1.0) ∙ begun in
        cc)

abbrev no_name : Option (List ℕ)
no_name = None

module _ (e : Draft) where
  abbrev Named : List TokenLine → Type 0
  Named ls = system_names ls ≡ names_to_schedule (statements ls)

  -- the same of these lines behind others
  abbrev From : List TokenLine → Type 0
  From ls = (x : Draft) → x.scheduled ≡ false → x.deck.systems ≡ [] → Says x (statements ls) e → Named ls

  abbrev More : TokenLine → List TokenLine → Type 0
  More l ls = From (left_from l ls)

  -- an entry of a name list
  by_rnldef : (l : TokenLine) (ls : List TokenLine) (d : Draft) → d.scheduled ≡ false → d.deck.systems ≡ []
      → begins_rnldef l.tokens ≡ true → Says d (first_from l ls ∷ statements (left_from l ls)) e
      → ((x : Draft) → x.scheduled ≡ false → x.deck.systems ≡ [] → Says x (statements (left_from l ls)) e
      → Named (left_from l ls))
      → system_names (l ∷ ls) ≡ names_to_schedule (first_from l ls ∷ statements (left_from l ls))
  by_rnldef l ls d early none is h more =
      let f = further ls l in
      let s = early_spells d (first_from l ls) h.0 early h.1 in
      let begun = begun_still l.tokens (first_from l ls).tokens f.0 f.1 is in
      let r = rnldef_spelled d.deck.entries (first_from l ls) h.0 s begun in
      let word = rnldef_word l.tokens is in
      let spelled : (first_from l ls).tokens ≡ Word (codes "RNLDEF") ∷ flat_map operand r.2.2.given =
      r.2.1 ∙ ap (λ (ts : List Token). Word (codes "RNLDEF") ∷ ts) r.2.2.spelled in
      let t = subst (λ (x : Stmt). Spells false d.deck.entries (first_from l ls) x) r.1 s in
      let k = subst (λ (x : Stmt). Says (grow d x) (statements (left_from l ls)) e) r.1 h.3 in
      unnamed l ls (rnldef_unnamed l is)
      ∙ past_rnldef d.deck.entries ls l r.2.2.given word.0 word.1 spelled
      ∙ more (grow d (stmts.Rnldef r.0)) (stays_early d (stmts.Rnldef r.0) early (λ x. cc)) none k
      ∙ sym (quiet_names d.deck.entries (first_from l ls) (statements (left_from l ls)) (stmts.Rnldef r.0) t (λ x. cc)
      (λ n x. cc))

  -- another statement
  by_line : (l : TokenLine) (ls : List TokenLine) (d : Draft) → d.scheduled ≡ false → d.deck.systems ≡ []
      → Says d (l ∷ statements ls) e
      → ((x : Draft) → x.scheduled ≡ false → x.deck.systems ≡ [] → Says x (statements ls) e → Named ls)
      → system_names (l ∷ ls) ≡ names_to_schedule (l ∷ statements ls)
  by_line l ls d early none h more = go (name_given l) refl
    where
      s : Spells false d.deck.entries l h.0
      s = early_spells d l h.0 early h.1

      unscheduled : h.0 ≡ stmts.Schedule → ⊥
      unscheduled = no_schedule_yet d h.0 h.2 none

      go : (o : Option (List ℕ)) → name_given l ≡ o → system_names (l ∷ ls) ≡ names_to_schedule (l ∷ statements ls)
      go (Some n) is =
          let y = (spelled_name d.deck.entries l n is).0 in
          let st = one_spelled false d.deck.entries l h.0 (stmts.System n) s y in
          let some : (grow d h.0).deck.systems ≡ [] → ⊥ =
          subst (λ (x : Stmt). (grow d x).deck.systems ≡ [] → ⊥) (sym st)
          (λ x. push_none d.deck.systems (record { name = n; desk = []; jobs = [] }) x) in
          first_named l ls n is
          ∙ ap (λ (ns : List (List ℕ)). n ∷ ns)
          (behind_first ls (grow d h.0) e (stays_early d h.0 early unscheduled) some h.3)
          ∙ sym (named_here l (statements ls) (no_schedule d.deck.entries l h.0 s unscheduled)
          ∙ ap (λ (o : Option (List ℕ)). cons_option o (names_to_schedule (statements ls))) is)
      go None is =
          unnamed l ls is
          ∙ more (grow d h.0) (stays_early d h.0 early unscheduled)
          (none_still d h.0 d.deck.entries l s no_system none) h.3
          ∙ sym (quiet_names d.deck.entries l (statements ls) h.0 s unscheduled no_system)
        where
          no_system : (n : List ℕ) → h.0 ≡ stmts.System n → ⊥
          no_system n st =
              let y = subst (λ (x : Stmt). Spells false d.deck.entries l x) st s in
              let right = subst (λ (x : Stmt). MayStand d x) st h.2 in
              absurd (let z : no_name ≡ Some n = sym is ∙ given_name d.deck.entries l n y right.sized in cc)

  up_to_first : (n : ℕ) (ls : List TokenLine) (d : Draft) → length ls ≤ n → d.scheduled ≡ false → d.deck.systems ≡ []
      → Says d (statements ls) e → Named ls
  unfolding system_names statements
  up_to_first n [] d few early none says = sym no_lines
  up_to_first zero (l ∷ ls) d few early none says = absurd (omega (arith, few))
  up_to_first (suc n) (l ∷ ls) d few early none says =
      let shorter : length (left_from l ls) ≤ n = let k = no_longer ls l in omega (arith, k, few) in
      go (is_schedule l.tokens) refl
      (λ x early_x none_x says_x. up_to_first n (left_from l ls) x shorter early_x none_x says_x)
    where
      begun : More l ls → is_schedule l.tokens ≡ false → Says d (first_from l ls ∷ statements (left_from l ls)) e
          → (b : Bool)
          → begins_rnldef l.tokens ≡ b
          → system_names (l ∷ ls) ≡ names_to_schedule (first_from l ls ∷ statements (left_from l ls))
      begun left other h true is = by_rnldef l ls d early none is h left
      begun left other h false is =
          let one = alone_first l ls is in
          let rest = alone_left l ls is in
          rw (one, rest)
          (by_line l ls d early none
          (subst (λ (x : TokenLine). Says d (x ∷ statements ls) e) one
          (subst (λ (x : List TokenLine). Says d (first_from l ls ∷ statements x) e) rest h))
          (subst (λ (y : List TokenLine). From y) rest left))

      go : (b : Bool) → is_schedule l.tokens ≡ b → More l ls
          → system_names (l ∷ ls) ≡ names_to_schedule (statements_from l ls)
      go true is left =
          let h : Says d (l ∷ ls) e = subst (λ (x : List TokenLine). Says d x e) (ends_schedule l ls is) says in
          let s = early_spells d l h.0 early h.1 in
          let word = begins_with_schedule l s.0 (alone_schedule l.tokens is) in
          absurd (no_schedule_yet d h.0 h.2 none (schedule_spelled d.deck.entries l h.0 s word))
      go false is left =
          let g = gathered l ls is in
          begun left is (subst (λ (x : List TokenLine). Says d x e) g says) (begins_rnldef l.tokens) refl
          ∙ ap names_to_schedule (sym g)

-- Where all statements are right, their names are those that the lines give.
pub names_of_statements : (ls : List TokenLine) (d e : Draft) → d.scheduled ≡ false → d.deck.systems ≡ []
    → Says d (statements ls) e → system_names ls ≡ names_to_schedule (statements ls)
names_of_statements ls d e early none says = up_to_first e (length ls) ls d (omega arith) early none says
