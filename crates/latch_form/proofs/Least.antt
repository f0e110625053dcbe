-- The fault of a line is of the least kind that applies.
use Rattle.std.proofs.Common.{◌≡◌, inl, inr, ◌⊎◌, ℕ, ◌≤◌, ◌<◌, ◌+◌, Bool, true, false, cond, eqb, List, [], ◌∷◌, length, Option}
use Rattle.std.proofs.Common.{Some, None, Result, Ok, Err, refl, sym, ap, subst, ◌∙◌, arith, lit≤}
use Rattle.std.specs.Prelude.{codes, nat_lt, nat_le, ◌||◌}
use Rattle.std.specs.Str.{bytes_eq}
use Rattle.std.proofs.lemmas.Bool.{or_parts, ltb-true, ltb-false, leb-true, leb-false, lt-ltb, le-ltb}
use Rattle.std.proofs.lemmas.Bool.Decides.{nat_tests}
use Rattle.grs_base.specs.Limits.{most_name_bytes}
use Rattle.grs_base.specs.declared.fault.DeckFault.{DeckFault}
use Rattle.grs_base.specs.declared.fault.Kind.{Kind}
use Rattle.grs_base.specs.declared.fault.Kind.TheVariants.{TooLong, BadByte, UnknownStatement, BadOperand, NameLength}
use Rattle.grs_base.specs.declared.fault.Kind.TheVariants.{Repeated, OutOfPlace, TooMany, UnknownName, NoSystem}
use Rattle.grs_base.specs.declared.resource.Ctl.TheVariants.{E}
use Rattle.deck_scan.specs.declared.token.Token.{Token}
use Rattle.deck_scan.specs.declared.token.Token.TheVariants.{Word, Unclosed}
use Rattle.deck_scan.specs.declared.token.TokenLine.{TokenLine}
use Rattle.grs_latch.specs.Limits.{most_sets}
use Rattle.latch_form.specs.declared.form.Ask.{Ask}
use Rattle.latch_form.specs.declared.form.Ask.TheVariants.{Make, Obtain, Release, Purge}
use Rattle.latch_form.specs.declared.form.GivenCall.{GivenCall}
use Rattle.latch_form.specs.declared.form.Verb.{Verb}
use Rattle.latch_form.specs.declared.form.Verb.TheVariants.{Crt, Obt, Rel, Prg}
use Rattle.latch_form.specs.declared.judge.Draft.{Draft}
use Rattle.latch_form.specs.Form.{verb_of, call_at, or_bad, formed, first_form, form}
use Rattle.latch_form.specs.Drafts.{most_calls, makes, grow}
use Rattle.latch_form.specs.Reading.{is_too_long, is_full, verdict, unless, judge_call}
use Rattle.latch_form.specs.Reading.{judge_form, judge}
use Rattle.latch_form.specs.Spelled.{ask_word, Spells, IsSized, HasRoom}
use Rattle.grs_base.specs.Faults.{number}
use Rattle.latch_form.specs.Faults.{BeginsOtherwise, NoWord, SomeCall, Applies, IsLeast}
use Rattle.latch_form.proofs.Again.{verb_for, verb_again, form_again, one_spelled}
use Rattle.latch_form.proofs.Taken.{verb_taken, form_taken}
use Rattle.latch_form.proofs.Loop.{no_fault}

abbrev pub failed : Kind → Result GivenCall Kind
failed k = Err k

abbrev pub formed_as : GivenCall → Result GivenCall Kind
formed_as c = Ok c

failed_is : (j k : Kind) → failed j ≡ failed k → j ≡ k
failed_is j k h = cc

not_both : {A : Type 0} (r : Result GivenCall Kind) (c : GivenCall) (k : Kind) → r ≡ formed_as c → r ≡ failed k → A
not_both r c k h e = absurd (let z : formed_as c ≡ failed k = sym h ∙ e in cc)

-- ---- the first word

abbrev some : Verb → Option Verb
some v = Some v

-- a word that begins no call is no verb
none_verb : (w : List ℕ) → verb_of w ≡ None → (a : Ask) → w ≡ ask_word a → ⊥
none_verb w h a is =
    let z : some (verb_for a) ≡ None = sym (verb_again a) ∙ ap verb_of (sym is) ∙ h in cc

-- the verb of a word that begins no call
verb_none : (w : List ℕ) → ((a : Ask) → w ≡ ask_word a → ⊥) → verb_of w ≡ None
verb_none w h = go (verb_of w) refl
  where
    go : (o : Option Verb) → verb_of w ≡ o → o ≡ None
    go None is = refl
    go (Some Crt) is = absurd (h (Make 0) (verb_taken w Crt is))
    go (Some Obt) is = absurd (h (Obtain 0 0 E true) (verb_taken w Obt is))
    go (Some Rel) is = absurd (h (Release 0 0) (verb_taken w Rel is))
    go (Some Prg) is = absurd (h (Purge 0) (verb_taken w Prg is))

or_bad_known : (o : Option GivenCall) → or_bad o ≡ failed UnknownStatement → ⊥
or_bad_known (Some c) h = cc
or_bad_known None h = cc

formed_unknown : (o : Option Verb) (ts : List Token) → formed o ts ≡ failed UnknownStatement → o ≡ None
formed_unknown None ts h = refl
formed_unknown (Some v) ts h = absurd (or_bad_known (call_at v ts) h)

first_unknown : (ts : List Token) → first_form ts ≡ failed UnknownStatement → BeginsOtherwise ts
first_unknown (Word w ∷ ts) h = none_verb w (formed_unknown (verb_of w) ts h)
first_unknown (Unclosed ∷ ts) h = absurd cc
first_unknown [] h = tt
first_unknown (_ ∷ ts) h = tt

unknown_first : (ts : List Token) → BeginsOtherwise ts → first_form ts ≡ failed UnknownStatement
unknown_first (Word w ∷ ts) h = rw (verb_none w h) refl
unknown_first (Unclosed ∷ ts) h = absurd h
unknown_first [] h = refl
unknown_first (_ ∷ ts) h = refl

unknown_there : (l : TokenLine) → form l ≡ failed UnknownStatement → NoWord l
unfolding form
unknown_there l h = go l.joined refl h
  where
    go : (b : Bool) → l.joined ≡ b → cond b (failed UnknownStatement) (first_form l.tokens) ≡ failed UnknownStatement
        → NoWord l
    go true is k = inl is
    go false is k = inr (first_unknown l.tokens k)

there_unknown : (l : TokenLine) → NoWord l → form l ≡ failed UnknownStatement
unfolding form
there_unknown l (inl h) = rw h refl
there_unknown l (inr h) = go l.joined
  where
    go : (b : Bool) → cond b (failed UnknownStatement) (first_form l.tokens) ≡ failed UnknownStatement
    go true = refl
    go false = unknown_first l.tokens h

-- ---- which kinds a form may have

or_bad_kind : (o : Option GivenCall) (k : Kind) → or_bad o ≡ failed k → (k ≡ UnknownStatement) ⊎ (k ≡ BadOperand)
or_bad_kind (Some c) k h = absurd cc
or_bad_kind None k h = inr (sym (failed_is BadOperand k h))

formed_kind : (o : Option Verb) (ts : List Token) (k : Kind) → formed o ts ≡ failed k
    → (k ≡ UnknownStatement) ⊎ (k ≡ BadOperand)
formed_kind None ts k h = inl (sym (failed_is UnknownStatement k h))
formed_kind (Some v) ts k h = or_bad_kind (call_at v ts) k h

first_kind : (ts : List Token) (k : Kind) → first_form ts ≡ failed k → (k ≡ UnknownStatement) ⊎ (k ≡ BadOperand)
first_kind (Word w ∷ ts) k h = formed_kind (verb_of w) ts k h
first_kind (Unclosed ∷ ts) k h = inr (sym (failed_is BadOperand k h))
first_kind [] k h = inl (sym (failed_is UnknownStatement k h))
first_kind (_ ∷ ts) k h = inl (sym (failed_is UnknownStatement k h))

form_kind : (l : TokenLine) (k : Kind) → form l ≡ failed k → (k ≡ UnknownStatement) ⊎ (k ≡ BadOperand)
unfolding form
form_kind l k h = go l.joined h
  where
    go : (b : Bool) → cond b (failed UnknownStatement) (first_form l.tokens) ≡ failed k
        → (k ≡ UnknownStatement) ⊎ (k ≡ BadOperand)
    go true e = inl (sym (failed_is UnknownStatement k e))
    go false e = first_kind l.tokens k e

-- ---- the least kind of a line that spells no call

above_three : (d : Draft) (l : TokenLine) (j : Kind) → Applies j d l → 3 ≤ number j
above_three d l UnknownStatement a = lit≤ tt
above_three d l BadOperand a = lit≤ tt
above_three d l NameLength a = lit≤ tt
above_three d l TooMany a = lit≤ tt
above_three d l Repeated a = absurd a
above_three d l OutOfPlace a = absurd a
above_three d l UnknownName a = absurd a
above_three d l TooLong a = absurd a
above_three d l BadByte a = absurd a
above_three d l NoSystem a = absurd a

above_four : (d : Draft) (l : TokenLine) → (NoWord l → ⊥) → (j : Kind) → Applies j d l → 4 ≤ number j
above_four d l bad UnknownStatement a = absurd (bad a)
above_four d l bad BadOperand a = lit≤ tt
above_four d l bad NameLength a = lit≤ tt
above_four d l bad TooMany a = lit≤ tt
above_four d l bad Repeated a = absurd a
above_four d l bad OutOfPlace a = absurd a
above_four d l bad UnknownName a = absurd a
above_four d l bad TooLong a = absurd a
above_four d l bad BadByte a = absurd a
above_four d l bad NoSystem a = absurd a

unknown_bad : UnknownStatement ≡ BadOperand → ⊥
unknown_bad h = cc

least_form : (d : Draft) (l : TokenLine) (k : Kind) → form l ≡ failed k → IsLeast k d l
least_form d l k h = go (form_kind l k h)
  where
    unknown : form l ≡ failed UnknownStatement → IsLeast UnknownStatement d l
    unknown e = record { applies = unknown_there l e; least = above_three d l }

    bad : form l ≡ failed BadOperand → IsLeast BadOperand d l
    bad e =
        let word : NoWord l → ⊥ =
        λ n. unknown_bad (failed_is UnknownStatement BadOperand (sym (there_unknown l n) ∙ e)) in
        record {
          applies = (word, λ c s. not_both (form l) c BadOperand (form_again l c s) e);
          least = above_four d l word;
        }

    go : (k ≡ UnknownStatement) ⊎ (k ≡ BadOperand) → IsLeast k d l
    go (inl is) = subst (λ (x : Kind). IsLeast x d l) (sym is) (unknown (h ∙ ap failed is))
    go (inr is) = subst (λ (x : Kind). IsLeast x d l) (sym is) (bad (h ∙ ap failed is))

-- ---- a line that spells a call

pub sized_by : (c : GivenCall) → IsSized c → is_too_long c ≡ false
sized_by c h = le-ltb most_name_bytes (length c.set) h

pub of_sized : (c : GivenCall) → is_too_long c ≡ false → IsSized c
of_sized c h = ltb-false most_name_bytes (length c.set) h

pub room_by : (d : Draft) (c : GivenCall) → HasRoom d c → is_full d c ≡ false
room_by d c h =
    let few : nat_le most_calls (length d.calls) ≡ false = grind (arith, nat_tests, h.0) in
    rw (few, le-ltb most_sets (d.made + makes c.ask) h.1) refl

pub of_room : (d : Draft) (c : GivenCall) → is_full d c ≡ false → HasRoom d c
of_room d c h =
    let parts = or_parts (nat_le most_calls (length d.calls)) (nat_lt most_sets (d.made + makes c.ask)) h in
    (leb-false most_calls (length d.calls) parts.0, ltb-false most_sets (d.made + makes c.ask) parts.1)

true_false : {A : Type 0} (b : Bool) → b ≡ true → b ≡ false → A
true_false b h k = absurd (let z : true ≡ false = sym h ∙ k in cc)

-- what isn't so of the line's call isn't so of this one, which is the same
some_holds : (l : TokenLine) (c : GivenCall) (P : GivenCall → Type 0) → Spells l c → SomeCall l P → P c → ⊥
some_holds l c P h a p = a.2 (subst P (one_spelled l c a.0 h a.1) p)

-- no kind applies to a line that is right
pub none_applies : (d : Draft) (l : TokenLine) (c : GivenCall) (k : Kind) → Spells l c → IsSized c → HasRoom d c
    → Applies k d l → ⊥
none_applies d l c UnknownStatement s sized room a =
    not_both (form l) c UnknownStatement (form_again l c s) (there_unknown l a)
none_applies d l c BadOperand s sized room a = a.1 c s
none_applies d l c NameLength s sized room a = some_holds l c IsSized s a sized
none_applies d l c TooMany s sized room a = some_holds l c (HasRoom d) s a room
none_applies d l c Repeated s sized room a = a
none_applies d l c OutOfPlace s sized room a = a
none_applies d l c UnknownName s sized room a = a
none_applies d l c TooLong s sized room a = a
none_applies d l c BadByte s sized room a = a
none_applies d l c NoSystem s sized room a = a

-- of a line that spells a call, a long name comes before want of room
above_five : (d : Draft) (l : TokenLine) (c : GivenCall) → Spells l c → (j : Kind) → Applies j d l → 5 ≤ number j
above_five d l c s UnknownStatement a =
    not_both (form l) c UnknownStatement (form_again l c s) (there_unknown l a)
above_five d l c s BadOperand a = absurd (a.1 c s)
above_five d l c s NameLength a = lit≤ tt
above_five d l c s TooMany a = lit≤ tt
above_five d l c s Repeated a = absurd a
above_five d l c s OutOfPlace a = absurd a
above_five d l c s UnknownName a = absurd a
above_five d l c s TooLong a = absurd a
above_five d l c s BadByte a = absurd a
above_five d l c s NoSystem a = absurd a

above_eight : (d : Draft) (l : TokenLine) (c : GivenCall) → Spells l c → IsSized c → (j : Kind) → Applies j d l
    → 8 ≤ number j
above_eight d l c s sized UnknownStatement a =
    not_both (form l) c UnknownStatement (form_again l c s) (there_unknown l a)
above_eight d l c s sized BadOperand a = absurd (a.1 c s)
above_eight d l c s sized NameLength a = absurd (some_holds l c IsSized s a sized)
above_eight d l c s sized TooMany a = lit≤ tt
above_eight d l c s sized Repeated a = absurd a
above_eight d l c s sized OutOfPlace a = absurd a
above_eight d l c s sized UnknownName a = absurd a
above_eight d l c s sized TooLong a = absurd a
above_eight d l c s sized BadByte a = absurd a
above_eight d l c s sized NoSystem a = absurd a

abbrev kind : Kind → Option Kind
kind k = Some k

least_call : (d : Draft) (l : TokenLine) (c : GivenCall) (k : Kind) → Spells l c → verdict d c ≡ kind k → IsLeast k d l
least_call d l c k s v = go (is_too_long c) (is_full d c) refl refl v
  where
    go : (long full : Bool) → is_too_long c ≡ long → is_full d c ≡ full
        → cond long (kind NameLength) (cond full (kind TooMany) None) ≡ kind k → IsLeast k d l
    go true full a b h =
        let is : NameLength ≡ k = cc in
        subst (λ (x : Kind). IsLeast x d l) is (record {
          applies = (c, s, λ p. true_false (is_too_long c) a (sized_by c p));
          least = above_five d l c s;
        })
    go false true a b h =
        let is : TooMany ≡ k = cc in
        subst (λ (x : Kind). IsLeast x d l) is (record {
          applies = (c, s, λ p. true_false (is_full d c) b (room_by d c p));
          least = above_eight d l c s (of_sized c a);
        })
    go false false a b h = absurd cc

-- ---- a line's fault, both ways

abbrev pub refused : DeckFault → Result Draft DeckFault
refused f = Err f

pub judged_err : (d : Draft) (l : TokenLine) (f : DeckFault) → judge d l ≡ refused f
    → (f.line ≡ l.at) × IsLeast f.kind d l
unfolding judge
judged_err d l f h = go (form l) refl h
  where
    made : (k : Kind) → refused (record { line = l.at; kind = k }) ≡ refused f → IsLeast k d l
        → (f.line ≡ l.at) × IsLeast f.kind d l
    made k e least =
        let is : record { line = l.at; kind = k } ≡ f = cc in (
          sym (ap (λ (x : DeckFault). x.line) is),
          subst (λ (x : Kind). IsLeast x d l) (ap (λ (x : DeckFault). x.kind) is) least,
        )

    go : (r : Result GivenCall Kind) → form l ≡ r → judge_form d l.at r ≡ refused f
        → (f.line ≡ l.at) × IsLeast f.kind d l
    go (Err k) is m = made k m (least_form d l k is)
    go (Ok c) is m = by (verdict d c) refl m
      where
        by : (o : Option Kind) → verdict d c ≡ o → unless l.at o (grow d c) ≡ refused f
            → (f.line ≡ l.at) × IsLeast f.kind d l
        by (Some k) v n = made k n (least_call d l c k (form_taken l c is) v)
        by None v n = absurd cc

pub judged_again : (d : Draft) (l : TokenLine) (c : GivenCall) → Spells l c → IsSized c → HasRoom d c
    → judge d l ≡ Ok (grow d c)
unfolding judge
judged_again d l c s sized room = rw (form_again l c s, sized_by c sized, room_by d c room) refl

-- two least kinds are one
of_number : ℕ → Kind
of_number n =
    cond (eqb n 3) UnknownStatement (cond (eqb n 4) BadOperand (cond (eqb n 5) NameLength TooMany))

numbered : (d : Draft) (l : TokenLine) (k : Kind) → Applies k d l → of_number (number k) ≡ k
unfolding of_number
numbered d l UnknownStatement a = refl
numbered d l BadOperand a = refl
numbered d l NameLength a = refl
numbered d l TooMany a = refl
numbered d l Repeated a = absurd a
numbered d l OutOfPlace a = absurd a
numbered d l UnknownName a = absurd a
numbered d l TooLong a = absurd a
numbered d l BadByte a = absurd a
numbered d l NoSystem a = absurd a

pub one_least : (d : Draft) (l : TokenLine) (j k : Kind) → IsLeast j d l → IsLeast k d l → j ≡ k
one_least d l j k a b =
    let below = a.least k b.applies in
    let above = b.least j a.applies in
    let same : number j ≡ number k = omega (arith, below, above) in
    sym (numbered d l j a.applies) ∙ ap of_number same ∙ numbered d l k b.applies
