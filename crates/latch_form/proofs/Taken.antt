-- What is read is spelled so.
use Rattle.std.proofs.Common.{◌≡◌, ℕ, ◌≤◌, Bool, true, false, cond, List, [], ◌∷◌, Option, Some, None, Result, Ok, Err}
use Rattle.std.proofs.Common.{refl, sym, ap, subst, ◌∙◌}
use Rattle.std.specs.Prelude.{codes, nat_le, ◌&&◌}
use Rattle.std.specs.Str.{bytes_eq}
use Rattle.std.proofs.lemmas.Bool.{and_parts, leb-true}
use Rattle.grs_base.specs.Printed.{ctl_word}
use Rattle.grs_base.specs.ShortNames.{is_name}
use Rattle.grs_base.specs.declared.fault.Kind.{Kind}
use Rattle.grs_base.specs.declared.fault.Kind.TheVariants.{UnknownStatement}
use Rattle.grs_base.specs.declared.resource.Ctl.{Ctl}
use Rattle.grs_base.specs.declared.resource.Ctl.TheVariants.{E, S}
use Rattle.deck_scan.specs.declared.token.Token.{Token}
use Rattle.deck_scan.specs.declared.token.Token.TheVariants.{Word, Unclosed}
use Rattle.deck_scan.specs.declared.token.TokenLine.{TokenLine}
use Rattle.deck_scan.specs.Next.{◌>>=◌, end_at, any_word_at}
use Rattle.deck_scan.proofs.Taking.{bind_some, guard_some, some_is, IsWordOf, row, end_taken, any_word_taken}
use Rattle.deck_form.specs.Words.{short_at, written_number}
use Rattle.deck_form.proofs.Taken.{short_taken}
use Rattle.grs_latch.specs.Limits.{most_latches}
use Rattle.latch_form.specs.declared.form.Ask.{Ask}
use Rattle.latch_form.specs.declared.form.Ask.TheVariants.{Make, Obtain, Release, Purge}
use Rattle.latch_form.specs.declared.form.GivenCall.{GivenCall}
use Rattle.latch_form.specs.declared.form.Verb.{Verb}
use Rattle.latch_form.specs.declared.form.Verb.TheVariants.{Crt, Obt, Rel, Prg}
use Rattle.latch_form.specs.Drafts.{most_requestor}
use Rattle.latch_form.specs.Form.{number_at, requestor_at, ctl_of, ctl_at, sync_of, sync_at, is_count}
use Rattle.latch_form.specs.Form.{make_at, obtain_at, release_at, purge_at, ask_at, verb_of, call_at, or_bad, formed}
use Rattle.latch_form.specs.Form.{first_form, form}
use Rattle.latch_form.specs.Spelled.{ask_word, sync_word, IsRequestor, IsAsk, Spells}

number_taken : (ts : List Token) (x : ℕ × List Token) → number_at ts ≡ Some x
    → (w : List ℕ) × (ts ≡ Word w ∷ x.1) × (written_number w ≡ Some x.0)
unfolding number_at
number_taken ts x e =
    let b = bind_some (any_word_at ts) (λ w. written_number w.0 >>= λ n. Some (n, w.1)) x e in
    let n = bind_some (written_number b.0.0) (λ n. Some (n, b.0.1)) x b.2 in
    subst (λ (y : ℕ × List Token). (w : List ℕ) × (ts ≡ Word w ∷ y.1) × (written_number w ≡ Some y.0))
    (some_is (n.0, b.0.1) x n.2) (b.0.0, any_word_taken ts b.0 b.1, n.1)

requestor_taken : (ts : List Token) (x : ℕ × List Token) → requestor_at ts ≡ Some x
    → (w : List ℕ) × (ts ≡ Word w ∷ x.1) × IsRequestor w x.0
unfolding requestor_at
requestor_taken ts x e =
    let b = bind_some (number_at ts) (λ n. cond (nat_le n.0 most_requestor) (Some (n.0, n.1)) None) x e in
    let g = guard_some (nat_le b.0.0 most_requestor) (b.0.0, b.0.1) x b.2 in
    let n = number_taken ts b.0 b.1 in
    subst (λ (y : ℕ × List Token). (w : List ℕ) × (ts ≡ Word w ∷ y.1) × IsRequestor w y.0) g.1
    (n.0, n.1, (n.2, leb-true b.0.0 most_requestor g.0))

ctl_word_taken : (w : List ℕ) (c : Ctl) → ctl_of w ≡ Some c → w ≡ ctl_word c
ctl_word_taken w c e = subst (IsWordOf ctl_word w) e (row ctl_word w E _ (row ctl_word w S None tt))

sync_word_taken : (w : List ℕ) (s : Bool) → sync_of w ≡ Some s → w ≡ sync_word s
sync_word_taken w s e = subst (IsWordOf sync_word w) e (row sync_word w true _ (row sync_word w false None tt))

ctl_taken : (ts : List Token) (x : Ctl × List Token) → ctl_at ts ≡ Some x → ts ≡ Word (ctl_word x.0) ∷ x.1
unfolding ctl_at
ctl_taken ts x e =
    let b = bind_some (any_word_at ts) (λ w. ctl_of w.0 >>= λ c. Some (c, w.1)) x e in
    let c = bind_some (ctl_of b.0.0) (λ c. Some (c, b.0.1)) x b.2 in
    subst (λ (y : Ctl × List Token). ts ≡ Word (ctl_word y.0) ∷ y.1) (some_is (c.0, b.0.1) x c.2)
    (any_word_taken ts b.0 b.1 ∙ ap (λ (w : List ℕ). Word w ∷ b.0.1) (ctl_word_taken b.0.0 c.0 c.1))

sync_taken : (ts : List Token) (x : Bool × List Token) → sync_at ts ≡ Some x → ts ≡ Word (sync_word x.0) ∷ x.1
unfolding sync_at
sync_taken ts x e =
    let b = bind_some (any_word_at ts) (λ w. sync_of w.0 >>= λ s. Some (s, w.1)) x e in
    let s = bind_some (sync_of b.0.0) (λ s. Some (s, b.0.1)) x b.2 in
    subst (λ (y : Bool × List Token). ts ≡ Word (sync_word y.0) ∷ y.1) (some_is (s.0, b.0.1) x s.2)
    (any_word_taken ts b.0 b.1 ∙ ap (λ (w : List ℕ). Word w ∷ b.0.1) (sync_word_taken b.0.0 s.0 s.1))

abbrev behind : List ℕ → List Token → List Token
behind w ts = Word w ∷ ts

-- what is asked, and by which word
abbrev Asked : List ℕ → List Token → Ask → Type 0
Asked word ts a = IsAsk ts a × (ask_word a ≡ word)

make_taken : (ts : List Token) (a : Ask) → make_at ts ≡ Some a → Asked (codes "CRT") ts a
unfolding make_at
make_taken ts a e =
    let n = bind_some (number_at ts) (λ n. end_at n.1 >>= λ end. cond (is_count n.0) (Some (Make n.0)) None) a e in
    let z = bind_some (end_at n.0.1) (λ end. cond (is_count n.0.0) (Some (Make n.0.0)) None) a n.2 in
    let g = guard_some (is_count n.0.0) (Make n.0.0) a z.2 in
    let k = number_taken ts n.0 n.1 in
    let few = and_parts (nat_le 1 n.0.0) (nat_le n.0.0 most_latches) g.0 in
    subst (Asked (codes "CRT") ts) g.1 (
      (
        k.0,
        k.1 ∙ ap (behind k.0) (end_taken n.0.1 z.0 z.1),
        k.2,
        leb-true 1 n.0.0 few.0,
        leb-true n.0.0 most_latches few.1,
      ),
      refl,
    )

obtain_taken : (ts : List Token) (a : Ask) → obtain_at ts ≡ Some a → Asked (codes "OBT") ts a
unfolding obtain_at
obtain_taken ts a e =
    let l = bind_some (number_at ts) (λ l. requestor_at l.1 >>= λ r. ctl_at r.1 >>= λ c. sync_at c.1 >>= λ s. end_at s.1
    >>= λ end. Some (Obtain l.0 r.0 c.0 s.0)) a e in
    let r = bind_some (requestor_at l.0.1) (λ r. ctl_at r.1 >>= λ c. sync_at c.1 >>= λ s. end_at s.1
    >>= λ end. Some (Obtain l.0.0 r.0 c.0 s.0)) a l.2 in
    let c = bind_some (ctl_at r.0.1) (λ c. sync_at c.1 >>= λ s. end_at s.1
    >>= λ end. Some (Obtain l.0.0 r.0.0 c.0 s.0)) a r.2 in
    let s = bind_some (sync_at c.0.1) (λ s. end_at s.1 >>= λ end. Some (Obtain l.0.0 r.0.0 c.0.0 s.0)) a c.2 in
    let z = bind_some (end_at s.0.1) (λ end. Some (Obtain l.0.0 r.0.0 c.0.0 s.0.0)) a s.2 in
    let n = number_taken ts l.0 l.1 in
    let m = requestor_taken l.0.1 r.0 r.1 in
    let options : r.0.1 ≡ Word (ctl_word c.0.0) ∷ Word (sync_word s.0.0) ∷ [] =
    ctl_taken r.0.1 c.0 c.1
    ∙ ap (behind (ctl_word c.0.0))
    (sync_taken c.0.1 s.0 s.1 ∙ ap (behind (sync_word s.0.0)) (end_taken s.0.1 z.0 z.1)) in
    subst (Asked (codes "OBT") ts) (some_is (Obtain l.0.0 r.0.0 c.0.0 s.0.0) a z.2)
    ((n.0, m.0, n.1 ∙ ap (behind n.0) (m.1 ∙ ap (behind m.0) options), n.2, m.2), refl)

release_taken : (ts : List Token) (a : Ask) → release_at ts ≡ Some a → Asked (codes "REL") ts a
unfolding release_at
release_taken ts a e =
    let l = bind_some (number_at ts) (λ l. requestor_at l.1 >>= λ r. end_at r.1 >>= λ end. Some (Release l.0 r.0)) a e in
    let r = bind_some (requestor_at l.0.1) (λ r. end_at r.1 >>= λ end. Some (Release l.0.0 r.0)) a l.2 in
    let z = bind_some (end_at r.0.1) (λ end. Some (Release l.0.0 r.0.0)) a r.2 in
    let n = number_taken ts l.0 l.1 in
    let m = requestor_taken l.0.1 r.0 r.1 in
    subst (Asked (codes "REL") ts) (some_is (Release l.0.0 r.0.0) a z.2)
    ((n.0, m.0, n.1 ∙ ap (behind n.0) (m.1 ∙ ap (behind m.0) (end_taken r.0.1 z.0 z.1)), n.2, m.2), refl)

purge_taken : (ts : List Token) (a : Ask) → purge_at ts ≡ Some a → Asked (codes "PRG") ts a
unfolding purge_at
purge_taken ts a e =
    let r = bind_some (requestor_at ts) (λ r. end_at r.1 >>= λ end. Some (Purge r.0)) a e in
    let z = bind_some (end_at r.0.1) (λ end. Some (Purge r.0.0)) a r.2 in
    let m = requestor_taken ts r.0 r.1 in
    subst (Asked (codes "PRG") ts) (some_is (Purge r.0.0) a z.2)
    ((m.0, m.1 ∙ ap (behind m.0) (end_taken r.0.1 z.0 z.1), m.2), refl)

abbrev pub verb_word : Verb → List ℕ
verb_word Crt = codes "CRT"
verb_word Obt = codes "OBT"
verb_word Rel = codes "REL"
verb_word Prg = codes "PRG"

ask_taken : (v : Verb) (ts : List Token) (a : Ask) → ask_at v ts ≡ Some a → Asked (verb_word v) ts a
ask_taken Crt ts a e = make_taken ts a e
ask_taken Obt ts a e = obtain_taken ts a e
ask_taken Rel ts a e = release_taken ts a e
ask_taken Prg ts a e = purge_taken ts a e

pub verb_taken : (w : List ℕ) (v : Verb) → verb_of w ≡ Some v → w ≡ verb_word v
verb_taken w v e =
    subst (IsWordOf verb_word w) e
    (row verb_word w Crt _ (row verb_word w Obt _ (row verb_word w Rel _ (row verb_word w Prg None tt))))

-- what stands behind the first word
record Called (v : Verb) (ts : List Token) (c : GivenCall) : Type 0 where
  rest : List Token
  spelled : ts ≡ Word c.set ∷ rest
  name : is_name c.set ≡ true
  ask : IsAsk rest c.ask
  word : ask_word c.ask ≡ verb_word v

call_taken : (v : Verb) (ts : List Token) (c : GivenCall) → call_at v ts ≡ Some c → Called v ts c
unfolding call_at
call_taken v ts c e =
    let n = bind_some (short_at ts) (λ n. ask_at v n.1 >>= λ a. Some (record { set = n.0; ask = a })) c e in
    let a = bind_some (ask_at v n.0.1) (λ a. Some (record { set = n.0.0; ask = a })) c n.2 in
    let s = short_taken ts n.0 n.1 in
    let k = ask_taken v n.0.1 a.0 a.1 in
    let made : Called v ts (record { set = n.0.0; ask = a.0 }) =
    record { rest = n.0.1; spelled = s.0; name = s.1; ask = k.0; word = k.1 } in
    subst (Called v ts) (some_is (record { set = n.0.0; ask = a.0 }) c a.2) made

abbrev call_ok : GivenCall → Result GivenCall Kind
call_ok c = Ok c

or_bad_taken : (o : Option GivenCall) (c : GivenCall) → or_bad o ≡ call_ok c → o ≡ Some c
or_bad_taken (Some d) c e = let z : d ≡ c = cc in ap (λ (x : GivenCall). Some x) z
or_bad_taken None c e = absurd cc

-- a line's tokens spell a call
pub record SpellsTokens (ts : List Token) (c : GivenCall) : Type 0 where
  pub behind : List Token
  pub spelled : ts ≡ Word (ask_word c.ask) ∷ Word c.set ∷ behind
  pub name : is_name c.set ≡ true
  pub ask : IsAsk behind c.ask

formed_taken : (w : List ℕ) (ts : List Token) (c : GivenCall) (o : Option Verb) → verb_of w ≡ o
    → formed o ts ≡ call_ok c → SpellsTokens (Word w ∷ ts) c
formed_taken w ts c None is e = absurd cc
formed_taken w ts c (Some v) is e =
    let k = call_taken v ts c (or_bad_taken (call_at v ts) c e) in
    let word : w ≡ ask_word c.ask = verb_taken w v is ∙ sym k.word in
    record {
      behind = k.rest;
      spelled =
          ap (λ (x : List ℕ). Word x ∷ ts) word
          ∙ ap (λ (x : List Token). Word (ask_word c.ask) ∷ x) k.spelled;
      name = k.name;
      ask = k.ask;
    }

first_taken : (ts : List Token) (c : GivenCall) → first_form ts ≡ call_ok c → SpellsTokens ts c
first_taken (Word w ∷ ts) c e = formed_taken w ts c (verb_of w) refl e
first_taken (Unclosed ∷ ts) c e = absurd cc
first_taken [] c e = absurd cc
first_taken (_ ∷ ts) c e = absurd cc

pub form_taken : (l : TokenLine) (c : GivenCall) → form l ≡ Ok c → Spells l c
unfolding form
form_taken l c e = go l.joined refl e
  where
    go : (b : Bool) → l.joined ≡ b → cond b (Err UnknownStatement) (first_form l.tokens) ≡ call_ok c → Spells l c
    go true is h = absurd cc
    go false is h =
        let k = first_taken l.tokens c h in
        record { behind = k.behind; apart = is; spelled = k.spelled; name = k.name; ask = k.ask }
