-- The names that lines give to systems, one line after the other.
use Rattle.std.proofs.Common.{◌≡◌, ℕ, ◌≤◌, Bool, true, false, cond, not, leb, List, [], ◌∷◌, ◌++◌, length, codes}
use Rattle.std.proofs.Common.{Option, Some, None, refl, sym, ap, subst, ◌∙◌, arith, append_assoc}
use Rattle.std.proofs.Common.{append-nil}
use Rattle.std.specs.Prelude.{◌&&◌, ◌==◌, filter_map, take_while}
use Rattle.std.specs.List.{cons_option}
use Rattle.std.proofs.lemmas.Bool.{leb-true, le-leb, ne_eqb}
use Rattle.std.proofs.lemmas.List.Sums.{take_while-cons}
use Rattle.deck_scan.specs.declared.token.Token.{Token}
use Rattle.deck_scan.specs.declared.token.Token.TheVariants.{Word}
use Rattle.deck_scan.specs.declared.token.TokenLine.{TokenLine}
use Rattle.deck_scan.specs.AnyBytes.{readable}
use Rattle.deck_scan.specs.Next.{◌>>=◌, word_at}
use Rattle.deck_scan.specs.Rows.{Next}
use Rattle.deck_scan.specs.Scan.{lines_of}
use Rattle.deck_scan.proofs.Taking.{bind_some, guard_some}
use Rattle.deck_form.specs.declared.form.Stmt.TheVariants as stmts
use Rattle.deck_form.specs.Spelled.{Spells}
use Rattle.deck_form.specs.SystemNames.{name_given, begins_schedule, names_to_schedule, names_in, system_names}
use Rattle.deck_form.specs.Words.{named_at}
use Rattle.deck_form.proofs.Again.{named_again}
use Rattle.deck_form.proofs.Taken.{named_taken, word_taken}

names_more : (l : TokenLine) (ls : List TokenLine)
    → names_to_schedule (l ∷ ls)
    ≡ cond (not (begins_schedule l)) (cons_option (name_given l) (names_to_schedule ls)) []
unfolding names_to_schedule
names_more l ls =
    ap (filter_map name_given) (take_while-cons (λ (x : TokenLine). not (begins_schedule x)) l ls)
    ∙ go (not (begins_schedule l))
  where
    go : (b : Bool)
        → filter_map name_given (cond b (l ∷ take_while (λ (x : TokenLine). not (begins_schedule x)) ls) [])
        ≡ cond b
        (cons_option (name_given l) (filter_map name_given (take_while (λ (x : TokenLine). not (begins_schedule x)) ls)))
        []
    go true = refl
    go false = refl

-- behind SCHEDULE no name is given
pub none_behind : (l : TokenLine) (ls : List TokenLine) → begins_schedule l ≡ true → names_to_schedule (l ∷ ls) ≡ []
none_behind l ls h = names_more l ls ∙ rw h refl

-- before it each line gives its name
pub named_here : (l : TokenLine) (ls : List TokenLine) → begins_schedule l ≡ false
    → names_to_schedule (l ∷ ls) ≡ cons_option (name_given l) (names_to_schedule ls)
named_here l ls h = names_more l ls ∙ rw h refl

-- no line is left
pub no_lines : names_to_schedule [] ≡ []
unfolding names_to_schedule
no_lines = refl

-- the first name
pub first_named : (l : TokenLine) (ls : List TokenLine) (n : List ℕ) → name_given l ≡ Some n
    → system_names (l ∷ ls) ≡ n ∷ names_to_schedule ls
unfolding system_names
first_named l ls n h = rw h refl

-- in front of it
pub unnamed : (l : TokenLine) (ls : List TokenLine) → name_given l ≡ None → system_names (l ∷ ls) ≡ system_names ls
unfolding system_names
unnamed l ls h = rw h refl

pub append-given : (names rest : List (List ℕ)) (o : Option (List ℕ))
    → (names ++ cons_option o []) ++ rest ≡ names ++ cons_option o rest
append-given names rest None = append_assoc names [] rest
append-given names rest (Some n) = append_assoc names (n ∷ []) rest

-- ---- the next statement

pub one_next : (found : Option TokenLine) (l : TokenLine) (rest tail : List TokenLine) → found ≡ Some l
    → Next found rest tail → rest ≡ l ∷ tail
one_next found l rest tail is h = subst (λ (f : Option TokenLine). Next f rest tail) is h

pub none_next : (found : Option TokenLine) (rest tail : List TokenLine) → found ≡ None → Next found rest tail
    → rest ≡ []
none_next found rest tail is h =
    let k : Next None rest tail = subst (λ (f : Option TokenLine). Next f rest tail) is h in k.0

-- the names that are given from here on, where none was so far or some were
abbrev pub names_left : Bool → List TokenLine → List (List ℕ)
names_left true rest = system_names rest
names_left false rest = names_to_schedule rest

none_left : (none : Bool) → names_left none [] ≡ []
unfolding system_names
none_left true = refl
none_left false = no_lines

some_names : (m : List ℕ) (ms more : List (List ℕ)) → (length ((m ∷ ms) ++ more) == 0) ≡ false
some_names m ms more = ne_eqb _ 0 (λ e. omega (arith, e))

some_name : (m : List ℕ) (ms : List (List ℕ)) → (length (m ∷ ms) == 0) ≡ false
some_name m ms = ne_eqb _ 0 (λ e. omega (arith, e))

-- where some stand already, a line is the last by its word
by_word : (m : List ℕ) (ms : List (List ℕ)) (b : Bool) → (not (length (m ∷ ms) == 0) && b) ≡ b
by_word m ms b = ap (λ (z : Bool). not z && b) (some_name m ms)

-- the names so far and those of what is left go on to be those of the text
pub names_goes : (names more : List (List ℕ)) (l : TokenLine) (rest tail : List TokenLine) → rest ≡ l ∷ tail
    → (not (length names == 0) && begins_schedule l) ≡ false → more ≡ names ++ cons_option (name_given l) []
    → more ++ names_left (length more == 0) tail ≡ names ++ names_left (length names == 0) rest
names_goes [] more l rest tail next other given = rw (next, given) (go (name_given l) refl)
  where
    go : (o : Option (List ℕ)) → name_given l ≡ o
        → cons_option (name_given l) [] ++ names_left (length (cons_option (name_given l) []) == 0) tail
        ≡ system_names (l ∷ tail)
    go None is = rw is (sym (unnamed l tail is))
    go (Some n) is = rw is (sym (first_named l tail n is))
names_goes (m ∷ ms) more l rest tail next other given =
    rw (next, given, some_name m ms, some_names m ms (cons_option (name_given l) []))
    (append-given (m ∷ ms) (names_to_schedule tail) (name_given l)
    ∙ ap (λ (ns : List (List ℕ)). (m ∷ ms) ++ ns)
    (sym (named_here l tail (sym (by_word m ms (begins_schedule l)) ∙ other))))

-- those so far are the names of the text, where nothing is left, or SCHEDULE is next
pub names_end : (text : List ℕ) (names none : List (List ℕ)) (lines rest : List TokenLine)
    → lines ≡ lines_of (readable text) → none ≡ []
    → names ++ names_left (length names == 0) rest ≡ none ++ names_left (length none == 0) lines
    → names_left (length names == 0) rest ≡ [] → names ≡ names_in text
names_end text names none lines rest read empty so left =
    sym (append-nil names)
    ∙ ap (λ (ns : List (List ℕ)). names ++ ns) (sym left)
    ∙ so
    ∙ rw (empty, read) refl

pub nothing_left : (names : List (List ℕ)) (rest : List TokenLine) → rest ≡ []
    → names_left (length names == 0) rest ≡ []
nothing_left names rest h = rw h (none_left (length names == 0))

pub schedule_next : (names : List (List ℕ)) (l : TokenLine) (rest tail : List TokenLine) → rest ≡ l ∷ tail
    → (not (length names == 0) && begins_schedule l) ≡ true → names_left (length names == 0) rest ≡ []
schedule_next [] l rest tail next h = absurd cc
schedule_next (m ∷ ms) l rest tail next h =
    rw (next, some_name m ms) (none_behind l tail (sym (by_word m ms (begins_schedule l)) ∙ h))

-- ---- names and the statements that give them

pub spelled_name : (entries : ℕ) (l : TokenLine) (n : List ℕ) → name_given l ≡ Some n
    → Spells false entries l (stmts.System n) × (length n ≤ 8)
unfolding name_given
spelled_name entries l n h = go l.joined refl h
  where
    go : (b : Bool) → l.joined ≡ b
        → cond b None
        (word_at (codes "SYSTEM") l.tokens >>= λ ts. named_at ts >>= λ m. cond (leb (length m) 8) (Some m) None)
        ≡ Some n
        → Spells false entries l (stmts.System n) × (length n ≤ 8)
    go true is k = absurd cc
    go false is k =
        let w =
        bind_some (word_at (codes "SYSTEM") l.tokens) (λ ts. named_at ts >>= λ m. cond (leb (length m) 8) (Some m) None)
        n k in
        let m = bind_some (named_at w.0) (λ m. cond (leb (length m) 8) (Some m) None) n w.2 in
        let g = guard_some (leb (length m.0) 8) m.0 n m.2 in
        let t = named_taken w.0 m.0 m.1 in
        let tokens : l.tokens ≡ Word (codes "SYSTEM") ∷ Word m.0 ∷ [] =
        word_taken (codes "SYSTEM") l.tokens w.0 w.1 ∙ ap (λ (ts : List Token). Word (codes "SYSTEM") ∷ ts) t.0 in
        subst (λ (x : List ℕ). Spells false entries l (stmts.System x) × (length x ≤ 8)) g.1
        ((is, (tokens, t.1)), leb-true (length m.0) 8 g.0)

pub given_name : (entries : ℕ) (l : TokenLine) (n : List ℕ) → Spells false entries l (stmts.System n) → length n ≤ 8
    → name_given l ≡ Some n
unfolding name_given
given_name entries l n h short = rw (h.0, h.1.0, named_again n h.1.1, le-leb (length n) 8 short) refl
