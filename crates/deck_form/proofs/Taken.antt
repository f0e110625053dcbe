-- What is read is spelled so.
use Rattle.std.proofs.Common.{◌≡◌, ℕ, ◌+◌, ◌<◌, Bool, true, false, cond, eqb, ltb, List, [], ◌∷◌, ◌++◌, length, get_or}
use Rattle.std.proofs.Common.{take, drop, Option, Some, None, Ok, refl, sym, ap, subst, ◌∙◌, drop-cons, add-one}
use Rattle.std.specs.Prelude.{codes, position, ◌&&◌}
use Rattle.std.specs.Str.{bytes_eq}
use Rattle.std.proofs.lemmas.Bool.{and_parts, eqb-true, ltb-true}
use Rattle.std.proofs.lemmas.List.{take-append-drop}
use Rattle.std.proofs.lemmas.List.Quantifiers.{position-Some}
use Rattle.grs_base.specs.ShortNames.{is_name}
use Rattle.grs_base.specs.Limits.{is_entries, is_limit}
use Rattle.deck_scan.specs.declared.token.Token.{Token}
use Rattle.deck_scan.specs.declared.token.Token.TheVariants.{Word, Open, Close, Comma, Equals, Unclosed}
use Rattle.deck_scan.specs.declared.token.TokenLine.{TokenLine}
use Rattle.deck_scan.specs.Next.{◌>>=◌, open_at, close_at, comma_at, end_at, any_word_at, word_at, value_at}
use Rattle.deck_scan.proofs.Taking.{bind_some, guard_some, some_is, same_bytes, IsWordOf, row, once_some, open_taken}
use Rattle.deck_scan.proofs.Taking.{close_taken, comma_taken, end_taken, any_word_taken, value_taken, TookOne}
use Rattle.deck_scan.proofs.Taking.{all_taken}
use Rattle.job_syntax.specs.declared.line_ask.LineWord.{LineWord}
use Rattle.job_syntax.specs.LineAsk.{line_word, line_ask_at}
use Rattle.job_syntax.specs.Spelled.{IsWord, IsLineAsk}
use Rattle.job_syntax.proofs.Taken.{line_ask_taken, line_word_taken}
use Rattle.rnl_syntax.specs.Lines.{is_rnldef_word}
use Rattle.rnl_syntax.specs.Operands.{rnldef_at}
use Rattle.rnl_syntax.proofs.Taken.{rnldef_taken}
use Rattle.deck_form.specs.declared.command.Command.{Command}
use Rattle.deck_form.specs.declared.command.GivenOrder.{GivenOrder}
use Rattle.deck_form.specs.declared.command.GivenOrder.TheVariants as orders
use Rattle.deck_form.specs.declared.complex.Setup.{Setup}
use Rattle.deck_form.specs.declared.event.EventAct.{EventAct}
use Rattle.deck_form.specs.declared.event.EventAct.TheVariants as acts
use Rattle.deck_form.specs.declared.event.EventWord.{EventWord}
use Rattle.deck_form.specs.declared.event.EventWord.TheVariants as words
use Rattle.deck_form.specs.declared.form.Stmt.{Stmt}
use Rattle.deck_form.specs.declared.form.Stmt.TheVariants as stmts
use Rattle.deck_form.specs.declared.form.Key.{Key}
use Rattle.deck_form.specs.declared.form.Key.TheVariants as keys
use Rattle.deck_form.specs.Words.{short_at, parted, dotted_at, written_number, named_at}
use Rattle.deck_form.specs.Complex.{no_setup, mode_of, entries_of, limit_of, with_star, with_entries, with_limit}
use Rattle.deck_form.specs.Complex.{with_operand, operand_at, complex_at}
use Rattle.deck_form.specs.Command.{setgrs_at, vary_at, order_at, command_at}
use Rattle.deck_form.specs.Event.{event_word, pair_at, entry_at, alone_at, act_at, event_at}
use Rattle.deck_form.specs.Form.{line_key, key, plain_form, or_bad, keyed, first_form, event_form, form}
use Rattle.deck_form.specs.Spelled.{IsName, mode_word, Operand, Mode, Entries, Limit, enclosed, operand, IsFreeOperand}
use Rattle.deck_form.specs.Spelled.{set_operand, IsComplex, IsOrder, IsCommand, IsFirst, IsAct, IsEvent, Spells}

pub short_taken : (ts : List Token) (x : List ℕ × List Token) → short_at ts ≡ Some x → (ts ≡ Word x.0 ∷ x.1) × IsName x.0
unfolding short_at
short_taken ts x e =
    let b = bind_some (any_word_at ts) (λ w. cond (is_name w.0) (Some (w.0, w.1)) None) x e in
    let g = guard_some (is_name b.0.0) (b.0.0, b.0.1) x b.2 in
    subst (λ (y : List ℕ × List Token). (ts ≡ Word y.0 ∷ y.1) × IsName y.0) g.1 (any_word_taken ts b.0 b.1, g.0)

pub named_taken : (ts : List Token) (n : List ℕ) → named_at ts ≡ Some n → (ts ≡ Word n ∷ []) × IsName n
unfolding named_at
named_taken ts n e =
    let b = bind_some (short_at ts) (λ n. end_at n.1 >>= λ end. Some n.0) n e in
    let d = bind_some (end_at b.0.1) (λ end. Some b.0.0) n b.2 in
    let s = short_taken ts b.0 b.1 in
    let none = end_taken b.0.1 d.0 d.1 in
    let is = some_is b.0.0 n d.2 in
    (s.0 ∙ rw (none, is) refl, rw is at s.1)

-- ---- COMPLEX

mode_taken : (w : List ℕ) (b : Bool) → mode_of w ≡ Some b → w ≡ mode_word b
unfolding mode_of
mode_taken w b e = subst (IsWordOf mode_word w) e (row mode_word w false _ (row mode_word w true None tt))

front : (w v : List ℕ) (ts us : List Token) → w ≡ v → ts ≡ us → Word w ∷ ts ≡ Word v ∷ us
front w v ts us p q = cc

entries_taken : (w : List ℕ) (n : ℕ) → entries_of w ≡ Some n → (written_number w ≡ Some n) × (is_entries n ≡ true)
unfolding entries_of
entries_taken w n e =
    let k = bind_some (written_number w) (λ m. cond (is_entries m) (Some m) None) n e in
    let g = guard_some (is_entries k.0) k.0 n k.2 in
    subst (λ (m : ℕ). (written_number w ≡ Some m) × (is_entries m ≡ true)) g.1 (k.1, g.0)

limit_taken : (w : List ℕ) (n : ℕ) → limit_of w ≡ Some n → (written_number w ≡ Some n) × (is_limit n ≡ true)
unfolding limit_of
limit_taken w n e =
    let k = bind_some (written_number w) (λ m. cond (is_limit m) (Some m) None) n e in
    let g = guard_some (is_limit k.0) k.0 n k.2 in
    subst (λ (m : ℕ). (written_number w ≡ Some m) × (is_limit m ≡ true)) g.1 (k.1, g.0)

enclosed_is : (w v word value : List ℕ) → w ≡ word → v ≡ value → enclosed w v ≡ enclosed word value
enclosed_is w v word value p q = cc

-- an operand by its word and the word in its parentheses
record Operated (o : Setup) (w v : List ℕ) (p : Setup) : Type 0 where
  given : Operand
  fresh : IsFreeOperand given o
  is : p ≡ set_operand given o
  spelled : enclosed w v ≡ operand given

star_operated : (o : Setup) (w v : List ℕ) (p : Setup) → w ≡ codes "MODE" → (mode_of v >>= λ x. with_star o x) ≡ Some p
    → Operated o w v p
star_operated o w v p is e =
    let b = bind_some (mode_of v) (λ x. with_star o x) p e in
    let k = once_some o.star (record o { star = Some b.0 }) p b.2 in
    record { given = Mode b.0; fresh = k.0; is = k.1; spelled = enclosed_is w v _ _ is (mode_taken v b.0 b.1) }

entries_operated : (o : Setup) (w v : List ℕ) (p : Setup) → w ≡ codes "ENTRIES"
    → (entries_of v >>= λ x. with_entries o x) ≡ Some p → Operated o w v p
entries_operated o w v p is e =
    let b = bind_some (entries_of v) (λ x. with_entries o x) p e in
    let k = once_some o.entries (record o { entries = Some b.0 }) p b.2 in
    let n = entries_taken v b.0 b.1 in
    record { given = Entries v b.0; fresh = (k.0, n.0, n.1); is = k.1; spelled = enclosed_is w v _ v is refl }

limit_operated : (o : Setup) (w v : List ℕ) (p : Setup) → w ≡ codes "LIMIT"
    → (limit_of v >>= λ x. with_limit o x) ≡ Some p → Operated o w v p
limit_operated o w v p is e =
    let b = bind_some (limit_of v) (λ x. with_limit o x) p e in
    let k = once_some o.limit (record o { limit = Some b.0 }) p b.2 in
    let n = limit_taken v b.0 b.1 in
    record { given = Limit v b.0; fresh = (k.0, n.0, n.1); is = k.1; spelled = enclosed_is w v _ v is refl }

operated : (o : Setup) (w v : List ℕ) (p : Setup) → with_operand o w v ≡ Some p → Operated o w v p
unfolding with_operand
operated o w v p e =
    which (bytes_eq w (codes "MODE")) (bytes_eq w (codes "ENTRIES")) (bytes_eq w (codes "LIMIT")) refl refl refl e
  where
    which : (a b c : Bool) → bytes_eq w (codes "MODE") ≡ a → bytes_eq w (codes "ENTRIES") ≡ b
        → bytes_eq w (codes "LIMIT") ≡ c
        → cond a (mode_of v >>= λ x. with_star o x)
        (cond b (entries_of v >>= λ x. with_entries o x) (cond c (limit_of v >>= λ x. with_limit o x) None))
        ≡ Some p
        → Operated o w v p
    which true b c q r s h = star_operated o w v p (same_bytes w _ q) h
    which false true c q r s h = entries_operated o w v p (same_bytes w _ r) h
    which false false true q r s h = limit_operated o w v p (same_bytes w _ s) h
    which false false false q r s h = absurd cc

operand_taken : (o : Setup) (ts : List Token) (x : Setup × List Token) → operand_at o ts ≡ Some x
    → TookOne IsFreeOperand set_operand operand o ts x.0 x.1
unfolding operand_at
operand_taken o ts x e =
    let w =
    bind_some (any_word_at ts)
    (λ w. open_at w.1 >>= λ a. any_word_at a >>= λ v. close_at v.1 >>= λ b. with_operand o w.0 v.0 >>= λ p. Some (p, b))
    x e in
    let a =
    bind_some (open_at w.0.1)
    (λ a. any_word_at a >>= λ v. close_at v.1 >>= λ b. with_operand o w.0.0 v.0 >>= λ p. Some (p, b)) x w.2 in
    let v =
    bind_some (any_word_at a.0) (λ v. close_at v.1 >>= λ b. with_operand o w.0.0 v.0 >>= λ p. Some (p, b)) x a.2 in
    let b = bind_some (close_at v.0.1) (λ b. with_operand o w.0.0 v.0.0 >>= λ p. Some (p, b)) x v.2 in
    let p = bind_some (with_operand o w.0.0 v.0.0) (λ p. Some (p, b.0)) x b.2 in
    let k = operated o w.0.0 v.0.0 p.0 p.1 in
    let front : ts ≡ enclosed w.0.0 v.0.0 ++ b.0 =
    any_word_taken ts w.0 w.1
    ∙ ap (λ (t : List Token). Word w.0.0 ∷ t) (open_taken w.0.1 a.0 a.1
    ∙ ap (λ (t : List Token). Open ∷ t)
    (any_word_taken a.0 v.0 v.1 ∙ ap (λ (t : List Token). Word v.0.0 ∷ t) (close_taken v.0.1 b.0 b.1))) in
    let made :
    TookOne IsFreeOperand set_operand operand o ts p.0 b.0 = record {
      given = k.given;
      fresh = k.fresh;
      is = k.is;
      spelled = front ∙ ap (λ (t : List Token). t ++ b.0) k.spelled;
    } in
    subst (λ (y : Setup × List Token). TookOne IsFreeOperand set_operand operand o ts y.0 y.1)
    (some_is (p.0, b.0) x p.2) made

complex_taken : (ts : List Token) (c : Setup) → complex_at ts ≡ Some c → IsComplex ts c
unfolding complex_at
complex_taken ts c e =
    let t = all_taken IsFreeOperand set_operand operand operand_at operand_taken 3 no_setup ts c e in
    record { given = t.0; spelled = t.1; operands = t.2 }

-- ---- commands

pub word_taken : (word : List ℕ) (ts rest : List Token) → word_at word ts ≡ Some rest → ts ≡ Word word ∷ rest
word_taken word ts rest e =
    let b = bind_some (any_word_at ts) (λ w. cond (bytes_eq w.0 word) (Some w.1) None) rest e in
    let g = guard_some (bytes_eq b.0.0 word) b.0.1 rest b.2 in
    any_word_taken ts b.0 b.1 ∙ front b.0.0 word b.0.1 rest (same_bytes b.0.0 word g.0) g.1

setgrs_taken : (ts : List Token) (o : GivenOrder) → setgrs_at ts ≡ Some o → IsOrder (Word (codes "SETGRS") ∷ ts) o
unfolding setgrs_at
setgrs_taken ts o e =
    let a =
    bind_some (word_at (codes "MODE") ts)
    (λ a. value_at a >>= λ v. end_at v.1 >>= λ end. cond (bytes_eq v.0 (codes "STAR")) (Some orders.Star) None) o e in
    let v =
    bind_some (value_at a.0) (λ v. end_at v.1 >>= λ end. cond (bytes_eq v.0 (codes "STAR")) (Some orders.Star) None) o
    a.2 in
    let z = bind_some (end_at v.0.1) (λ end. cond (bytes_eq v.0.0 (codes "STAR")) (Some orders.Star) None) o v.2 in
    let g = guard_some (bytes_eq v.0.0 (codes "STAR")) orders.Star o z.2 in
    let mode : a.0 ≡ Equals ∷ Word (codes "STAR") ∷ [] =
    value_taken a.0 v.0 v.1
    ∙ ap (λ (t : List Token). Equals ∷ t) (front v.0.0 _ v.0.1 [] (same_bytes v.0.0 _ g.0) (end_taken v.0.1 z.0 z.1)) in
    subst (IsOrder (Word (codes "SETGRS") ∷ ts)) g.1 (ap (λ (t : List Token). Word (codes "SETGRS") ∷ t)
    (word_taken _ ts a.0 a.1 ∙ ap (λ (t : List Token). Word (codes "MODE") ∷ t) mode))

vary_taken : (ts : List Token) (o : GivenOrder) → vary_at ts ≡ Some o → IsOrder (Word (codes "VARY") ∷ ts) o
unfolding vary_at
vary_taken ts o e =
    let a =
    bind_some (word_at (codes "GRS") ts) (λ a.
    open_at a
    >>= λ b.
    short_at b
    >>= λ n.
    close_at n.1
    >>= λ c. comma_at c >>= λ d. word_at (codes "PURGE") d >>= λ f. end_at f >>= λ end. Some (orders.Vary n.0))
    o e in
    let b =
    bind_some (open_at a.0) (λ b.
    short_at b
    >>= λ n.
    close_at n.1
    >>= λ c. comma_at c >>= λ d. word_at (codes "PURGE") d >>= λ f. end_at f >>= λ end. Some (orders.Vary n.0))
    o a.2 in
    let n =
    bind_some (short_at b.0) (λ n.
    close_at n.1
    >>= λ c. comma_at c >>= λ d. word_at (codes "PURGE") d >>= λ f. end_at f >>= λ end. Some (orders.Vary n.0))
    o b.2 in
    let c =
    bind_some (close_at n.0.1)
    (λ c. comma_at c >>= λ d. word_at (codes "PURGE") d >>= λ f. end_at f >>= λ end. Some (orders.Vary n.0.0)) o n.2 in
    let d =
    bind_some (comma_at c.0) (λ d. word_at (codes "PURGE") d >>= λ f. end_at f >>= λ end. Some (orders.Vary n.0.0)) o
    c.2 in
    let f = bind_some (word_at (codes "PURGE") d.0) (λ f. end_at f >>= λ end. Some (orders.Vary n.0.0)) o d.2 in
    let z = bind_some (end_at f.0) (λ end. Some (orders.Vary n.0.0)) o f.2 in
    let s = short_taken b.0 n.0 n.1 in
    let tail : n.0.1 ≡ Close ∷ Comma ∷ Word (codes "PURGE") ∷ [] =
    close_taken n.0.1 c.0 c.1
    ∙ ap (λ (t : List Token). Close ∷ t) (comma_taken c.0 d.0 d.1
    ∙ ap (λ (t : List Token). Comma ∷ t)
    (word_taken _ d.0 f.0 f.1 ∙ ap (λ (t : List Token). Word (codes "PURGE") ∷ t) (end_taken f.0 z.0 z.1))) in
    let behind : ts ≡ Word (codes "GRS") ∷ Open ∷ Word n.0.0 ∷ Close ∷ Comma ∷ Word (codes "PURGE") ∷ [] =
    word_taken _ ts a.0 a.1
    ∙ ap (λ (t : List Token). Word (codes "GRS") ∷ t)
    (open_taken a.0 b.0 b.1 ∙ ap (λ (t : List Token). Open ∷ t) (s.0 ∙ ap (λ (t : List Token). Word n.0.0 ∷ t) tail)) in
    subst (IsOrder (Word (codes "VARY") ∷ ts)) (some_is (orders.Vary n.0.0) o z.2)
    (ap (λ (t : List Token). Word (codes "VARY") ∷ t) behind, s.1)

order_taken : (w : List ℕ) (ts : List Token) (o : GivenOrder) → order_at w ts ≡ Some o → IsOrder (Word w ∷ ts) o
unfolding order_at
order_taken w ts o e = which (bytes_eq w (codes "SETGRS")) (bytes_eq w (codes "VARY")) refl refl e
  where
    worded : (word : List ℕ) → w ≡ word → IsOrder (Word word ∷ ts) o → IsOrder (Word w ∷ ts) o
    worded word is h = subst (λ (x : List ℕ). IsOrder (Word x ∷ ts) o) (sym is) h

    which : (a b : Bool) → bytes_eq w (codes "SETGRS") ≡ a → bytes_eq w (codes "VARY") ≡ b
        → cond a (setgrs_at ts) (cond b (vary_at ts) None) ≡ Some o → IsOrder (Word w ∷ ts) o
    which true b p q h = worded _ (same_bytes w _ p) (setgrs_taken ts o h)
    which false true p q h = worded _ (same_bytes w _ q) (vary_taken ts o h)
    which false false p q h = absurd cc

command_taken : (ts : List Token) (c : Command) → command_at ts ≡ Some c → IsCommand ts c
unfolding command_at
command_taken ts c e =
    let w =
    bind_some (any_word_at ts) (λ w.
    written_number w.0 >>= λ n. any_word_at w.1 >>= λ v. order_at v.0 v.1 >>= λ o. Some (record { at = n; order = o }))
    c e in
    let n =
    bind_some (written_number w.0.0)
    (λ n. any_word_at w.0.1 >>= λ v. order_at v.0 v.1 >>= λ o. Some (record { at = n; order = o })) c w.2 in
    let v =
    bind_some (any_word_at w.0.1) (λ v. order_at v.0 v.1 >>= λ o. Some (record { at = n.0; order = o })) c n.2 in
    let o = bind_some (order_at v.0.0 v.0.1) (λ o. Some (record { at = n.0; order = o })) c v.2 in
    let made :
    IsCommand ts (record { at = n.0; order = o.0 }) = record {
      number = w.0.0;
      behind = Word v.0.0 ∷ v.0.1;
      spelled = any_word_taken ts w.0 w.1 ∙ ap (λ (t : List Token). Word w.0.0 ∷ t) (any_word_taken w.0.1 v.0 v.1);
      at = n.1;
      order = order_taken v.0.0 v.0.1 o.0 o.1;
    } in
    subst (IsCommand ts) (some_is (record { at = n.0; order = o.0 }) c o.2) made

-- ---- event lines

parted_taken : (w : List ℕ) (x : List ℕ × List ℕ) → parted (position (λ b. eqb b 46) w) w ≡ Some x
    → (w ≡ x.0 ++ 46 ∷ x.1) × IsName x.0 × IsName x.1
parted_taken w x e = go (position (λ b. eqb b 46) w) refl e
  where
    go : (o : Option ℕ) → position (λ b. eqb b 46) w ≡ o → parted o w ≡ Some x
        → (w ≡ x.0 ++ 46 ∷ x.1) × IsName x.0 × IsName x.1
    go None is h = absurd cc
    go (Some i) is h =
        let at = position-Some (λ b. eqb b 46) w i 0 is in
        let dot : get_or w i 0 ≡ 46 = eqb-true _ _ at.1 in
        let g = guard_some (is_name (take i w) && is_name (drop (i + 1) w)) (take i w, drop (i + 1) w) x h in
        let both = and_parts (is_name (take i w)) (is_name (drop (i + 1) w)) g.0 in
        let lt : i < length w = at.0 in
        let parts : w ≡ take i w ++ 46 ∷ drop (i + 1) w =
        sym (take-append-drop i w) ∙ ap (λ (t : List ℕ). take i w ++ t) (drop-cons w i 0 lt ∙ rw (dot, add-one) refl) in
        subst (λ (y : List ℕ × List ℕ). (w ≡ y.0 ++ 46 ∷ y.1) × IsName y.0 × IsName y.1) g.1 (parts, both.0, both.1)

dotted_taken : (ts : List Token) (x : List ℕ × List ℕ × List Token) → dotted_at ts ≡ Some x
    → (ts ≡ Word (x.0 ++ 46 ∷ x.1) ∷ x.2) × IsName x.0 × IsName x.1
unfolding dotted_at
dotted_taken ts x e =
    let w =
    bind_some (any_word_at ts) (λ w. parted (position (λ b. eqb b 46) w.0) w.0 >>= λ q. Some (q.0, q.1, w.1)) x e in
    let q = bind_some (parted (position (λ b. eqb b 46) w.0.0) w.0.0) (λ q. Some (q.0, q.1, w.0.1)) x w.2 in
    let parts = parted_taken w.0.0 q.0 q.1 in
    subst (λ (y : List ℕ × List ℕ × List Token). (ts ≡ Word (y.0 ++ 46 ∷ y.1) ∷ y.2) × IsName y.0 × IsName y.1)
    (some_is (q.0.0, q.0.1, w.0.1) x q.2)
    (any_word_taken ts w.0 w.1 ∙ front w.0.0 _ w.0.1 _ parts.0 refl, parts.1, parts.2)

pair_taken : (ts : List Token) (x : List ℕ × List ℕ) → pair_at ts ≡ Some x
    → (ts ≡ Word (x.0 ++ 46 ∷ x.1) ∷ []) × IsName x.0 × IsName x.1
unfolding pair_at
pair_taken ts x e =
    let p = bind_some (dotted_at ts) (λ p. end_at p.2 >>= λ end. Some (p.0, p.1)) x e in
    let z = bind_some (end_at p.0.2) (λ end. Some (p.0.0, p.0.1)) x p.2 in
    let d = dotted_taken ts p.0 p.1 in
    subst (λ (y : List ℕ × List ℕ). (ts ≡ Word (y.0 ++ 46 ∷ y.1) ∷ []) × IsName y.0 × IsName y.1)
    (some_is (p.0.0, p.0.1) x z.2) (d.0 ∙ front _ _ p.0.2 _ refl (end_taken p.0.2 z.0 z.1), d.1, d.2)

entry_taken : (entries : ℕ) (ts : List Token) (e : ℕ) → entry_at entries ts ≡ Some e
    → (w : List ℕ) × (ts ≡ Word w ∷ []) × (written_number w ≡ Some e) × (e < entries)
unfolding entry_at
entry_taken entries ts e h =
    let w =
    bind_some (any_word_at ts)
    (λ w. written_number w.0 >>= λ n. end_at w.1 >>= λ end. cond (ltb n entries) (Some n) None) e h in
    let n = bind_some (written_number w.0.0) (λ n. end_at w.0.1 >>= λ end. cond (ltb n entries) (Some n) None) e w.2 in
    let z = bind_some (end_at w.0.1) (λ end. cond (ltb n.0 entries) (Some n.0) None) e n.2 in
    let g = guard_some (ltb n.0 entries) n.0 e z.2 in
    subst (λ (m : ℕ). (w : List ℕ) × (ts ≡ Word w ∷ []) × (written_number w ≡ Some m) × (m < entries)) g.1 (
      w.0.0,
      any_word_taken ts w.0 w.1 ∙ front w.0.0 _ w.0.1 _ refl (end_taken w.0.1 z.0 z.1),
      n.1,
      ltb-true n.0 entries g.0,
    )

-- the word of an event
abbrev SaysWord : List ℕ → EventWord → Type 0
SaysWord w words.Task = w ≡ codes "TASK"
SaysWord w words.Turn = w ≡ codes "TURN"
SaysWord w words.Send = w ≡ codes "SEND"
SaysWord w words.Take = w ≡ codes "TAKE"
SaysWord w words.Settle = w ≡ codes "SETTLE"
SaysWord w words.Tell = w ≡ codes "TELL"
SaysWord w words.Part = w ≡ codes "PART"
SaysWord w words.Leave = w ≡ codes "LEAVE"
SaysWord w words.Switch = w ≡ codes "SWITCH"
SaysWord w words.Purge = w ≡ codes "PURGE"
SaysWord w words.Rest = w ≡ codes "REST"
SaysWord w words.Unknown = Unit {0}

word_by : (P : EventWord → Type 0) (b : Bool) (x y : EventWord) → (b ≡ true → P x) → P y → P (cond b x y)
word_by P true x y p q = p refl
word_by P false x y p q = q

says_word : (w : List ℕ) → SaysWord w (event_word w)
unfolding event_word
says_word w =
    word_by (SaysWord w) (bytes_eq w (codes "TASK")) _ _ (same_bytes w _)
    (word_by (SaysWord w) (bytes_eq w (codes "TURN")) _ _ (same_bytes w _)
    (word_by (SaysWord w) (bytes_eq w (codes "SEND")) _ _ (same_bytes w _)
    (word_by (SaysWord w) (bytes_eq w (codes "TAKE")) _ _ (same_bytes w _)
    (word_by (SaysWord w) (bytes_eq w (codes "SETTLE")) _ _ (same_bytes w _)
    (word_by (SaysWord w) (bytes_eq w (codes "TELL")) _ _ (same_bytes w _)
    (word_by (SaysWord w) (bytes_eq w (codes "PART")) _ _ (same_bytes w _)
    (word_by (SaysWord w) (bytes_eq w (codes "LEAVE")) _ _ (same_bytes w _)
    (word_by (SaysWord w) (bytes_eq w (codes "SWITCH")) _ _ (same_bytes w _)
    (word_by (SaysWord w) (bytes_eq w (codes "PURGE")) _ _ (same_bytes w _)
    (word_by (SaysWord w) (bytes_eq w (codes "REST")) _ _ (same_bytes w _) tt))))))))))

alone_taken : (entries : ℕ) (w word : List ℕ) (ts : List Token) (a act : EventAct) → w ≡ word → alone_at a ts ≡ Some act
    → (Word w ∷ ts ≡ Word word ∷ []) × (a ≡ act)
alone_taken entries w word ts a act is e =
    let z = bind_some (end_at ts) (λ end. Some a) act e in
    (front w word ts [] is (end_taken ts z.0 z.1), some_is a act z.2)

act_taken : (entries : ℕ) (v : EventWord) (w : List ℕ) (ts : List Token) (act : EventAct) → SaysWord w v
    → act_at entries v ts ≡ Some act → IsAct entries (Word w ∷ ts) act
unfolding act_at
act_taken entries words.Task w ts act is e =
    let p = bind_some (pair_at ts) (λ p. Some (acts.Task p.0 p.1)) act e in
    let d = pair_taken ts p.0 p.1 in
    subst (IsAct entries (Word w ∷ ts)) (some_is (acts.Task p.0.0 p.0.1) act p.2) (front w _ ts _ is d.0, d.1, d.2)
act_taken entries words.Send w ts act is e =
    let p = bind_some (pair_at ts) (λ p. Some (acts.Send p.0 p.1)) act e in
    let d = pair_taken ts p.0 p.1 in
    subst (IsAct entries (Word w ∷ ts)) (some_is (acts.Send p.0.0 p.0.1) act p.2) (front w _ ts _ is d.0, d.1, d.2)
act_taken entries words.Turn w ts act is e =
    let k = alone_taken entries w _ ts acts.Turn act is e in subst (IsAct entries (Word w ∷ ts)) k.1 k.0
act_taken entries words.Take w ts act is e =
    let k = alone_taken entries w _ ts acts.Take act is e in subst (IsAct entries (Word w ∷ ts)) k.1 k.0
act_taken entries words.Settle w ts act is e =
    let k = alone_taken entries w _ ts acts.Settle act is e in subst (IsAct entries (Word w ∷ ts)) k.1 k.0
act_taken entries words.Switch w ts act is e =
    let k = alone_taken entries w _ ts acts.Switch act is e in subst (IsAct entries (Word w ∷ ts)) k.1 k.0
act_taken entries words.Rest w ts act is e =
    let k = alone_taken entries w _ ts acts.Rest act is e in subst (IsAct entries (Word w ∷ ts)) k.1 k.0
act_taken entries words.Tell w ts act is e =
    let p = bind_some (entry_at entries ts) (λ n. Some (acts.Tell n)) act e in
    let d = entry_taken entries ts p.0 p.1 in
    subst (IsAct entries (Word w ∷ ts)) (some_is (acts.Tell p.0) act p.2) (d.0, front w _ ts _ is d.1, d.2, d.3)
act_taken entries words.Part w ts act is e =
    let p = bind_some (entry_at entries ts) (λ n. Some (acts.Part n)) act e in
    let d = entry_taken entries ts p.0 p.1 in
    subst (IsAct entries (Word w ∷ ts)) (some_is (acts.Part p.0) act p.2) (d.0, front w _ ts _ is d.1, d.2, d.3)
act_taken entries words.Leave w ts act is e =
    let p = bind_some (entry_at entries ts) (λ n. Some (acts.Leave n)) act e in
    let d = entry_taken entries ts p.0 p.1 in
    subst (IsAct entries (Word w ∷ ts)) (some_is (acts.Leave p.0) act p.2) (d.0, front w _ ts _ is d.1, d.2, d.3)
act_taken entries words.Purge w ts act is e =
    let p = bind_some (named_at ts) (λ n. Some (acts.Purge n)) act e in
    let d = named_taken ts p.0 p.1 in
    subst (IsAct entries (Word w ∷ ts)) (some_is (acts.Purge p.0) act p.2) (front w _ ts _ is d.0, d.1)
act_taken entries words.Unknown w ts act is e = absurd cc

event_taken : (entries : ℕ) (ts : List Token) (st : Stmt) → event_form entries ts ≡ Some st → IsEvent entries ts st
unfolding event_form event_at
event_taken entries ts st e =
    let x = bind_some (event_at entries ts) (λ x. Some (stmts.Event x.0 x.1)) st e in
    let s =
    bind_some (short_at ts) (λ s. any_word_at s.1 >>= λ w. act_at entries (event_word w.0) w.1 >>= λ a. Some (s.0, a))
    x.0 x.1 in
    let w = bind_some (any_word_at s.0.1) (λ w. act_at entries (event_word w.0) w.1 >>= λ a. Some (s.0.0, a)) x.0 s.2 in
    let a = bind_some (act_at entries (event_word w.0.0) w.0.1) (λ a. Some (s.0.0, a)) x.0 w.2 in
    let system = short_taken ts s.0 s.1 in
    let act : IsAct entries s.0.1 a.0 =
    subst (λ (t : List Token). IsAct entries t a.0) (sym (any_word_taken s.0.1 w.0 w.1))
    (act_taken entries (event_word w.0.0) w.0.0 w.0.1 a.0 (says_word w.0.0) a.1) in
    let made : IsEvent entries ts (stmts.Event s.0.0 a.0) = (s.0.1, system.0, system.1, act) in
    let at_x : IsEvent entries ts (stmts.Event x.0.0 x.0.1) =
    subst (λ (y : List ℕ × EventAct). IsEvent entries ts (stmts.Event y.0 y.1)) (some_is (s.0.0, a.0) x.0 a.2) made in
    subst (IsEvent entries ts) (some_is (stmts.Event x.0.0 x.0.1) st x.2) at_x

-- ---- statements

-- the word of a key
abbrev Worded : List ℕ → Key → Type 0
Worded w keys.Complex = w ≡ codes "COMPLEX"
Worded w keys.Rnldef = w ≡ codes "RNLDEF"
Worded w keys.System = w ≡ codes "SYSTEM"
Worded w keys.Job = w ≡ codes "JOB"
Worded w keys.Task = w ≡ codes "TASK"
Worded w keys.At = w ≡ codes "AT"
Worded w keys.Schedule = w ≡ codes "SCHEDULE"
Worded w (keys.Line v) = line_word w ≡ Some v
Worded w keys.Unknown = Unit {0}

by_test : (P : Key → Type 0) (b : Bool) (x y : Key) → (b ≡ true → P x) → P y → P (cond b x y)
by_test P true x y p q = p refl
by_test P false x y p q = q

line_worded : (w : List ℕ) (o : Option LineWord) → line_word w ≡ o → Worded w (line_key o)
line_worded w None is = tt
line_worded w (Some v) is = is

worded : (w : List ℕ) → Worded w (key w)
unfolding key
worded w =
    by_test (Worded w) (bytes_eq w (codes "COMPLEX")) _ _ (same_bytes w _)
    (by_test (Worded w) (is_rnldef_word w) _ _ (same_bytes w _)
    (by_test (Worded w) (bytes_eq w (codes "SYSTEM")) _ _ (same_bytes w _)
    (by_test (Worded w) (bytes_eq w (codes "JOB")) _ _ (same_bytes w _)
    (by_test (Worded w) (bytes_eq w (codes "TASK")) _ _ (same_bytes w _)
    (by_test (Worded w) (bytes_eq w (codes "AT")) _ _ (same_bytes w _)
    (by_test (Worded w) (bytes_eq w (codes "SCHEDULE")) _ _ (same_bytes w _)
    (line_worded w (line_word w) refl)))))))

ok_taken : (o : Option Stmt) (st : Stmt) → or_bad o ≡ Ok st → o ≡ Some st
ok_taken (Some x) st e = cc
ok_taken None st e = absurd cc

keyed_taken : (k : Key) (w : List ℕ) (ts : List Token) (st : Stmt) → Worded w k → keyed k ts ≡ Ok st
    → IsFirst (Word w ∷ ts) st
unfolding plain_form
keyed_taken keys.Unknown w ts st is e = absurd cc
keyed_taken keys.Complex w ts st is e =
    let b = bind_some (complex_at ts) (λ c. Some (stmts.Complex c)) st (ok_taken _ st e) in
    subst (IsFirst (Word w ∷ ts)) (some_is (stmts.Complex b.0) st b.2)
    (ts, front w _ ts _ is refl, complex_taken ts b.0 b.1)
keyed_taken keys.Rnldef w ts st is e =
    let b = bind_some (rnldef_at ts) (λ d. Some (stmts.Rnldef d)) st (ok_taken _ st e) in
    subst (IsFirst (Word w ∷ ts)) (some_is (stmts.Rnldef b.0) st b.2)
    (ts, front w _ ts _ is refl, rnldef_taken ts b.0 b.1)
keyed_taken keys.System w ts st is e =
    let b = bind_some (named_at ts) (λ n. Some (stmts.System n)) st (ok_taken _ st e) in
    let n = named_taken ts b.0 b.1 in
    subst (IsFirst (Word w ∷ ts)) (some_is (stmts.System b.0) st b.2) (front w _ ts _ is n.0, n.1)
keyed_taken keys.Job w ts st is e =
    let b = bind_some (named_at ts) (λ n. Some (stmts.Job n)) st (ok_taken _ st e) in
    let n = named_taken ts b.0 b.1 in
    subst (IsFirst (Word w ∷ ts)) (some_is (stmts.Job b.0) st b.2) (front w _ ts _ is n.0, n.1)
keyed_taken keys.Task w ts st is e =
    let b = bind_some (named_at ts) (λ n. Some (stmts.Task n)) st (ok_taken _ st e) in
    let n = named_taken ts b.0 b.1 in
    subst (IsFirst (Word w ∷ ts)) (some_is (stmts.Task b.0) st b.2) (front w _ ts _ is n.0, n.1)
keyed_taken (keys.Line v) w ts st is e =
    let b = bind_some (line_ask_at v ts) (λ x. Some (stmts.Line x)) st (ok_taken _ st e) in
    let line_ask = line_ask_taken v ts b.0 b.1 in
    let made :
    IsLineAsk (Word w ∷ ts) b.0 = record {
      word = w;
      behind = ts;
      parts = refl;
      is_word = subst (λ (x : LineWord). IsWord x w) (sym line_ask.of) (line_word_taken w v is);
      is_behind = line_ask.behind;
    } in
    subst (IsFirst (Word w ∷ ts)) (some_is (stmts.Line b.0) st b.2) made
keyed_taken keys.At w ts st is e =
    let b = bind_some (command_at ts) (λ c. Some (stmts.Command c)) st (ok_taken _ st e) in
    subst (IsFirst (Word w ∷ ts)) (some_is (stmts.Command b.0) st b.2)
    (ts, front w _ ts _ is refl, command_taken ts b.0 b.1)
keyed_taken keys.Schedule w ts st is e =
    let b = bind_some (end_at ts) (λ end. Some stmts.Schedule) st (ok_taken _ st e) in
    subst (IsFirst (Word w ∷ ts)) (some_is stmts.Schedule st b.2) (front w _ ts _ is (end_taken ts b.0 b.1))

first_taken : (joined : Bool) (ts : List Token) (st : Stmt) → first_form joined ts ≡ Ok st
    → (joined ≡ false) × IsFirst ts st
unfolding first_form
first_taken true ts st e = absurd cc
first_taken false (Word w ∷ ts) st e = (refl, keyed_taken (key w) w ts st (worded w) e)
first_taken false (Unclosed ∷ ts) st e = absurd cc
first_taken false [] st e = absurd cc
first_taken false (_ ∷ ts) st e = absurd cc

-- What is read is spelled so.
pub form_taken : (scheduled : Bool) (entries : ℕ) (l : TokenLine) (st : Stmt) → form scheduled entries l ≡ Ok st
    → Spells scheduled entries l st
unfolding form
form_taken false entries l st e = first_taken l.joined l.tokens st e
form_taken true entries l st e = event_taken entries l.tokens st (ok_taken (event_form entries l.tokens) st e)
