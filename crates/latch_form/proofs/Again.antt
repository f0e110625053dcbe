-- What is spelled so is read.
use Rattle.std.proofs.Common.{◌≡◌, ℕ, ◌≤◌, Bool, true, false, cond, List, [], ◌∷◌, Option, Some, None, Result, Ok, Err}
use Rattle.std.proofs.Common.{refl, sym, ap, subst, ◌∙◌}
use Rattle.std.specs.Prelude.{codes, nat_le, ◌&&◌}
use Rattle.std.specs.Str.{bytes_eq}
use Rattle.std.proofs.lemmas.Bool.{le-leb}
use Rattle.grs_base.specs.Printed.{ctl_word}
use Rattle.grs_base.specs.ShortNames.{is_name}
use Rattle.grs_base.specs.declared.fault.Kind.{Kind}
use Rattle.grs_base.specs.declared.resource.Ctl.{Ctl}
use Rattle.grs_base.specs.declared.resource.Ctl.TheVariants.{E, S}
use Rattle.deck_scan.specs.declared.token.Token.{Token}
use Rattle.deck_scan.specs.declared.token.Token.TheVariants.{Word}
use Rattle.deck_scan.specs.declared.token.TokenLine.{TokenLine}
use Rattle.deck_form.specs.Words.{short_at, written_number}
use Rattle.grs_latch.specs.Limits.{most_latches}
use Rattle.latch_form.specs.declared.form.Ask.{Ask}
use Rattle.latch_form.specs.declared.form.Ask.TheVariants.{Make, Obtain, Release, Purge}
use Rattle.latch_form.specs.declared.form.GivenCall.{GivenCall}
use Rattle.latch_form.specs.declared.form.Verb.{Verb}
use Rattle.latch_form.specs.declared.form.Verb.TheVariants.{Crt, Obt, Rel, Prg}
use Rattle.latch_form.specs.Drafts.{most_requestor}
use Rattle.latch_form.specs.Form.{number_at, requestor_at, ctl_at, sync_at, is_count}
use Rattle.latch_form.specs.Form.{make_at, obtain_at, release_at, purge_at, ask_at, verb_of, call_at, form}
use Rattle.latch_form.specs.Spelled.{ask_word, sync_word, IsRequestor, IsAsk, Spells}

number_again : (w : List ℕ) (n : ℕ) (rest : List Token) → written_number w ≡ Some n
    → number_at (Word w ∷ rest) ≡ Some (n, rest)
unfolding number_at
number_again w n rest h = rw h refl

requestor_again : (w : List ℕ) (r : ℕ) (rest : List Token) → IsRequestor w r
    → requestor_at (Word w ∷ rest) ≡ Some (r, rest)
unfolding requestor_at
requestor_again w r rest h = rw (number_again w r rest h.0, le-leb r most_requestor h.1) refl

ctl_again : (c : Ctl) (rest : List Token) → ctl_at (Word (ctl_word c) ∷ rest) ≡ Some (c, rest)
unfolding ctl_at
ctl_again E rest = refl
ctl_again S rest = refl

sync_again : (s : Bool) (rest : List Token) → sync_at (Word (sync_word s) ∷ rest) ≡ Some (s, rest)
unfolding sync_at
sync_again true rest = refl
sync_again false rest = refl

make_again : (ts : List Token) (n : ℕ) → IsAsk ts (Make n) → make_at ts ≡ Some (Make n)
unfolding make_at
make_again ts n h = rw (h.1, number_again h.0 n [] h.2, le-leb 1 n h.3, le-leb n most_latches h.4) refl

obtain_again : (ts : List Token) (l r : ℕ) (c : Ctl) (s : Bool) → IsAsk ts (Obtain l r c s)
    → obtain_at ts ≡ Some (Obtain l r c s)
unfolding obtain_at
obtain_again ts l r c s h =
    rw (
      h.2,
      number_again h.0 l (Word h.1 ∷ Word (ctl_word c) ∷ Word (sync_word s) ∷ []) h.3,
      requestor_again h.1 r (Word (ctl_word c) ∷ Word (sync_word s) ∷ []) h.4,
      ctl_again c (Word (sync_word s) ∷ []),
      sync_again s [],
    ) refl

release_again : (ts : List Token) (l r : ℕ) → IsAsk ts (Release l r) → release_at ts ≡ Some (Release l r)
unfolding release_at
release_again ts l r h =
    rw (h.2, number_again h.0 l (Word h.1 ∷ []) h.3, requestor_again h.1 r [] h.4) refl

purge_again : (ts : List Token) (r : ℕ) → IsAsk ts (Purge r) → purge_at ts ≡ Some (Purge r)
unfolding purge_at
purge_again ts r h = rw (h.1, requestor_again h.0 r [] h.2) refl

abbrev pub verb_for : Ask → Verb
verb_for (Make n) = Crt
verb_for (Obtain l r c s) = Obt
verb_for (Release l r) = Rel
verb_for (Purge r) = Prg

ask_again : (ts : List Token) (a : Ask) → IsAsk ts a → ask_at (verb_for a) ts ≡ Some a
ask_again ts (Make n) h = make_again ts n h
ask_again ts (Obtain l r c s) h = obtain_again ts l r c s h
ask_again ts (Release l r) h = release_again ts l r h
ask_again ts (Purge r) h = purge_again ts r h

pub verb_again : (a : Ask) → verb_of (ask_word a) ≡ Some (verb_for a)
verb_again (Make n) = refl
verb_again (Obtain l r c s) = refl
verb_again (Release l r) = refl
verb_again (Purge r) = refl

call_again : (v : Verb) (n : List ℕ) (a : Ask) (ts : List Token) → is_name n ≡ true → ask_at v ts ≡ Some a
    → call_at v (Word n ∷ ts) ≡ Some (record { set = n; ask = a })
unfolding call_at short_at
call_again v n a ts name h = rw (name, h) refl

pub form_again : (l : TokenLine) (c : GivenCall) → Spells l c → form l ≡ Ok c
unfolding form
form_again l c h =
    rw (
      h.apart,
      h.spelled,
      verb_again c.ask,
      call_again (verb_for c.ask) c.set c.ask h.behind h.name
          (ask_again h.behind c.ask h.ask),
    ) refl

abbrev ok : GivenCall → Result GivenCall Kind
ok c = Ok c

pub one_spelled : (l : TokenLine) (c d : GivenCall) → Spells l c → Spells l d → c ≡ d
one_spelled l c d h k = let e : ok c ≡ ok d = sym (form_again l c h) ∙ form_again l d k in cc
