-- What is spelled so is read.
use Rattle.std.proofs.Common.{◌≡◌, inl, inr, ℕ, suc, ◌+◌, ◌<◌, Bool, true, false, eqb, ltb, List, [], ◌∷◌, ◌++◌, length}
use Rattle.std.proofs.Common.{take, drop, Option, Some, None, Ok, refl, sym, ap, subst, ◌∙◌, arith, lit≤, append_assoc}
use Rattle.std.proofs.Common.{length-append}
use Rattle.std.specs.Prelude.{codes, position}
use Rattle.std.specs.List.{flat_map, position_or_len}
use Rattle.std.specs.Str.{bytes_eq}
use Rattle.std.proofs.lemmas.Bool.{and_parts, ne_eqb, lt-ltb}
use Rattle.std.proofs.lemmas.List.{take_at, drop_at}
use Rattle.grs_base.specs.ShortNames.{is_name_byte, all_name, is_name}
use Rattle.deck_scan.specs.declared.token.Token.{Token}
use Rattle.deck_scan.specs.declared.token.Token.TheVariants.{Word, Open, Close, Comma}
use Rattle.deck_scan.specs.declared.token.TokenLine.{TokenLine}
use Rattle.deck_scan.specs.Next.{Sets}
use Rattle.deck_scan.proofs.Again.{is_free, all_again}
use Rattle.deck_scan.proofs.Taking.{same_bytes}
use Rattle.job_syntax.specs.declared.line_ask.LineWord.{LineWord}
use Rattle.job_syntax.specs.declared.line_ask.LineWord.TheVariants as lines
use Rattle.job_syntax.specs.LineAsk.{line_word}
use Rattle.job_syntax.specs.Spelled.{IsWord, line_word_for}
use Rattle.job_syntax.proofs.Again.{line_ask_again}
use Rattle.rnl_syntax.proofs.Again.{rnldef_again}
use Rattle.deck_form.specs.declared.command.Command.{Command}
use Rattle.deck_form.specs.declared.command.GivenOrder.{GivenOrder}
use Rattle.deck_form.specs.declared.command.GivenOrder.TheVariants as orders
use Rattle.deck_form.specs.declared.complex.Setup.{Setup}
use Rattle.deck_form.specs.declared.event.EventAct.{EventAct}
use Rattle.deck_form.specs.declared.event.EventAct.TheVariants as acts
use Rattle.deck_form.specs.declared.form.Stmt.{Stmt}
use Rattle.deck_form.specs.declared.form.Stmt.TheVariants as stmts
use Rattle.deck_form.specs.declared.form.Key.TheVariants as keys
use Rattle.deck_form.specs.Words.{short_at, parted, dotted_at, written_number, named_at}
use Rattle.deck_form.specs.Complex.{no_setup, mode_of, entries_of, limit_of, with_operand, operand_at, complex_at}
use Rattle.deck_form.specs.Command.{setgrs_at, vary_at, order_at, command_at}
use Rattle.deck_form.specs.Event.{event_word, pair_at, entry_at, act_at, event_at}
use Rattle.deck_form.specs.Form.{key, plain_form, keyed, first_form, event_form, form}
use Rattle.deck_form.specs.Spelled.{IsName, Operand, Mode, Entries, Limit, operand, IsFreeOperand, set_operand}
use Rattle.deck_form.specs.Spelled.{IsComplex, IsOrder, IsCommand, IsFirst, IsAct, IsEvent, Spells}

pub named_again : (n : List ℕ) → IsName n → named_at (Word n ∷ []) ≡ Some n
unfolding named_at short_at
named_again n h = rw h refl

-- ---- COMPLEX

operand_again : (x : Operand) (o : Setup) (rest : List Token) → IsFreeOperand x o
    → operand_at o (operand x ++ rest) ≡ Some (set_operand x o, rest)
unfolding operand_at with_operand mode_of entries_of limit_of
operand_again (Mode true) o rest h = rw h refl
operand_again (Mode false) o rest h = rw h refl
operand_again (Entries w n) o rest h = rw (h.1, h.2, h.0) refl
operand_again (Limit w n) o rest h = rw (h.1, h.2, h.0) refl

long_operand : (x : Operand) (rest : List Token) → eqb (length (operand x ++ rest)) 0 ≡ false
long_operand (Mode b) rest = ne_eqb _ 0 (λ e. omega (arith, e))
long_operand (Entries w n) rest = ne_eqb _ 0 (λ e. omega (arith, e))
long_operand (Limit w n) rest = ne_eqb _ 0 (λ e. omega (arith, e))

free_operands : Setup → ℕ
free_operands o = is_free o.star + is_free o.entries + is_free o.limit

fewer_operands : (x : Operand) (o : Setup) → IsFreeOperand x o → free_operands o ≡ suc (free_operands (set_operand x o))
unfolding free_operands
fewer_operands (Mode b) o h = rw h (omega arith)
fewer_operands (Entries w n) o h = rw h.0 (omega arith)
fewer_operands (Limit w n) o h = rw h.0 (omega arith)

operands_again : (given : List Operand) (c : Setup) → Sets IsFreeOperand set_operand no_setup given c
    → complex_at (flat_map operand given) ≡ Some c
unfolding complex_at free_operands
operands_again given c h =
    all_again IsFreeOperand set_operand operand operand_at free_operands long_operand operand_again fewer_operands 3
    given no_setup c (lit≤ tt) h

complex_again : (ts : List Token) (c : Setup) → IsComplex ts c → complex_at ts ≡ Some c
complex_again ts c h = rw h.spelled (operands_again h.given c h.operands)

-- ---- commands

-- the word of a command and what stands behind it
abbrev ordered : List Token → Option GivenOrder
ordered (Word w ∷ ts) = order_at w ts
ordered _ = None

vary_again : (n : List ℕ) → IsName n
    → vary_at (Word (codes "GRS") ∷ Open ∷ Word n ∷ Close ∷ Comma ∷ Word (codes "PURGE") ∷ []) ≡ Some (orders.Vary n)
unfolding vary_at short_at
vary_again n h = rw h refl

order_again : (ts : List Token) (o : GivenOrder) → IsOrder ts o → ordered ts ≡ Some o
unfolding order_at setgrs_at
order_again ts orders.Star h = rw h refl
order_again ts (orders.Vary n) h = rw (h.0, vary_again n h.1) refl

command_tail : (w : List ℕ) (ts : List Token) (n : ℕ) (o : GivenOrder) → written_number w ≡ Some n → ordered ts ≡ Some o
    → command_at (Word w ∷ ts) ≡ Some (record { at = n; order = o })
unfolding command_at
command_tail w (Word v ∷ ts) n o h k = rw (h, k) refl
command_tail w [] n o h k = absurd cc
command_tail w (_ ∷ ts) n o h k = absurd cc

command_again : (ts : List Token) (c : Command) → IsCommand ts c → command_at ts ≡ Some c
command_again ts c h =
    rw h.spelled (command_tail h.number h.behind c.at c.order h.at (order_again h.behind c.order h.order))

-- ---- statements before SCHEDULE

-- the key of a task line
line_again : (v : LineWord) (w : List ℕ) → IsWord v w → key w ≡ keys.Line v
unfolding key line_word
line_again lines.Enq w h = rw h refl
line_again lines.Reserve w h = rw h refl
line_again lines.Deq w h = rw h refl
line_again lines.Wait w h = rw h refl
line_again lines.Gqscan w h = rw h refl
line_again lines.Display w (inl h) = rw h refl
line_again lines.Display w (inr h) = rw h refl

first_again : (ts : List Token) (st : Stmt) → IsFirst ts st → first_form false ts ≡ Ok st
unfolding first_form key plain_form
first_again ts (stmts.Complex c) h = rw (h.1, complex_again h.0 c h.2) refl
first_again ts (stmts.Rnldef d) h = rw (h.1, rnldef_again h.0 d h.2) refl
first_again ts (stmts.System n) h = rw (h.0, named_again n h.1) refl
first_again ts (stmts.Job n) h = rw (h.0, named_again n h.1) refl
first_again ts (stmts.Task n) h = rw (h.0, named_again n h.1) refl
first_again ts (stmts.Command c) h = rw (h.1, command_again h.0 c h.2) refl
first_again ts (stmts.Line s) h =
    rw (h.parts, line_again (line_word_for s) h.word h.is_word, line_ask_again h.behind s h.is_behind) refl
first_again ts stmts.Schedule h = rw h refl
first_again ts (stmts.Event s a) h = absurd h

-- ---- event lines

not_dot : (b : ℕ) → is_name_byte b ≡ true → eqb b 46 ≡ false
unfolding is_name_byte
not_dot b h =
    ne_eqb b 46 (λ e. let P : ℕ → Type 0 = λ n. is_name_byte n ≡ true in let k : false ≡ true = subst P e h in cc)

dot_at : (j t : List ℕ) → all_name j ≡ true → position_or_len (λ b. eqb b 46) (j ++ 46 ∷ t) ≡ length j
unfolding all_name
dot_at [] t h = refl
dot_at (b ∷ bs) t h =
    let both = and_parts (is_name_byte b) (all_name bs) h in
    rw (not_dot b both.0, dot_at bs t both.1) (omega arith)

name_all : (n : List ℕ) → IsName n → all_name n ≡ true
unfolding is_name
name_all [] h = absurd cc
name_all (b ∷ bs) h = (and_parts _ (all_name (b ∷ bs)) h).1

parted_again : (j t : List ℕ) → IsName j → IsName t
    → parted (position (λ b. eqb b 46) (j ++ 46 ∷ t)) (j ++ 46 ∷ t) ≡ Some (j, t)
parted_again j t hj ht =
    let at = dot_at j t (name_all j hj) in
    let within : ltb (length j) (length (j ++ 46 ∷ t)) ≡ true = lt-ltb _ _ (omega (arith, length-append j (46 ∷ t))) in
    let found : position (λ b. eqb b 46) (j ++ 46 ∷ t) ≡ Some (length j) = rw (at, within) refl in
    let front : take (length j) (j ++ 46 ∷ t) ≡ j = take_at j (46 ∷ t) (length j) refl in
    let back : drop (length j + 1) (j ++ 46 ∷ t) ≡ t =
    ap (drop (length j + 1)) (sym (append_assoc j (46 ∷ []) t))
    ∙ drop_at (j ++ 46 ∷ []) t (length j + 1) (length-append j (46 ∷ [])) in
    rw found (rw (front, back, hj, ht) refl)

pair_again : (j t : List ℕ) → IsName j → IsName t → pair_at (Word (j ++ 46 ∷ t) ∷ []) ≡ Some (j, t)
unfolding pair_at dotted_at
pair_again j t hj ht = rw (parted_again j t hj ht) refl

entry_again : (entries : ℕ) (w : List ℕ) (e : ℕ) → written_number w ≡ Some e → e < entries
    → entry_at entries (Word w ∷ []) ≡ Some e
unfolding entry_at
entry_again entries w e h lt = rw (h, lt-ltb e entries lt) refl

-- the word of an event and what stands behind it
abbrev acted : ℕ → List Token → Option EventAct
acted entries (Word w ∷ ts) = act_at entries (event_word w) ts
acted entries _ = None

act_again : (entries : ℕ) (ts : List Token) (a : EventAct) → IsAct entries ts a → acted entries ts ≡ Some a
unfolding act_at event_word
act_again entries ts (acts.Task j t) h = rw (h.0, pair_again j t h.1 h.2) refl
act_again entries ts acts.Turn h = rw h refl
act_again entries ts (acts.Send j t) h = rw (h.0, pair_again j t h.1 h.2) refl
act_again entries ts acts.Take h = rw h refl
act_again entries ts acts.Settle h = rw h refl
act_again entries ts (acts.Tell e) h = rw (h.1, entry_again entries h.0 e h.2 h.3) refl
act_again entries ts (acts.Part e) h = rw (h.1, entry_again entries h.0 e h.2 h.3) refl
act_again entries ts (acts.Leave e) h = rw (h.1, entry_again entries h.0 e h.2 h.3) refl
act_again entries ts acts.Switch h = rw h refl
act_again entries ts (acts.Purge n) h = rw (h.0, named_again n h.1) refl
act_again entries ts acts.Rest h = rw h refl

event_tail : (entries : ℕ) (s : List ℕ) (rest : List Token) (a : EventAct) → IsName s → acted entries rest ≡ Some a
    → event_form entries (Word s ∷ rest) ≡ Some (stmts.Event s a)
unfolding event_form event_at short_at
event_tail entries s (Word w ∷ rest) a h k = rw (h, k) refl
event_tail entries s [] a h k = absurd cc
event_tail entries s (_ ∷ rest) a h k = absurd cc

event_again : (entries : ℕ) (ts : List Token) (st : Stmt) → IsEvent entries ts st → event_form entries ts ≡ Some st
event_again entries ts (stmts.Event s a) h = rw h.1 (event_tail entries s h.0 a h.2 (act_again entries h.0 a h.3))
event_again entries ts _ h = absurd h

-- What is spelled so is read.
pub form_again : (scheduled : Bool) (entries : ℕ) (l : TokenLine) (st : Stmt) → Spells scheduled entries l st
    → form scheduled entries l ≡ Ok st
unfolding form
form_again false entries l st h = rw h.0 (first_again l.tokens st h.1)
form_again true entries l st h = rw (event_again entries l.tokens st h) refl
