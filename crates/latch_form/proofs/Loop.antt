-- Taking lines one after the other, as a loop does.
use Rattle.std.proofs.Common.{◌≡◌, ◌≤◌, ℕ, List, [], ◌∷◌, length, Option, Some, None, Result, Ok, Err, refl, sym, ap}
use Rattle.std.proofs.Common.{subst, ◌∙◌, arith, cond, Bool, true, false, ◌+◌}
use Rattle.std.specs.Prelude.{nat_lt, nat_le, ◌||◌}
use Rattle.std.proofs.lemmas.Bool.{or_parts, ltb-false}
use Rattle.grs_base.specs.declared.fault.DeckFault.{DeckFault}
use Rattle.grs_base.specs.declared.fault.Kind.{Kind}
use Rattle.grs_base.specs.declared.fault.Kind.TheVariants.{NameLength, TooMany}
use Rattle.grs_base.specs.declared.fault.ReadError.{ReadError}
use Rattle.grs_base.specs.declared.fault.ReadError.TheVariants as errors
use Rattle.deck_scan.specs.declared.token.TokenLine.{TokenLine}
use Rattle.deck_scan.specs.Gives.{◌>>=◌, Gives, Fails}
use Rattle.deck_scan.specs.Reading.{lines_or_fault}
use Rattle.deck_scan.specs.Rows.{Next}
use Rattle.grs_latch.specs.Limits.{most_sets}
use Rattle.grs_latch.specs.declared.call.LatchCall.{LatchCall}
use Rattle.latch_form.specs.declared.form.GivenCall.{GivenCall}
use Rattle.latch_form.specs.declared.judge.Draft.{Draft}
use Rattle.latch_form.specs.Form.{form}
use Rattle.latch_form.specs.Drafts.{most_calls, no_draft, grow, makes}
use Rattle.latch_form.specs.Reading.{is_too_long, is_full, verdict, unless, judge_call}
use Rattle.latch_form.specs.Reading.{judge_form, judge, judge_all, calls_of, reading}

-- what was taken of the lines to come
pub one_next : (found : Option TokenLine) (line : TokenLine) (rest tail : List TokenLine) → found ≡ Some line
    → Next found rest tail → rest ≡ line ∷ tail
one_next found line rest tail is h = subst (λ (f : Option TokenLine). Next f rest tail) is h

pub none_next : (found : Option TokenLine) (rest tail : List TokenLine) → found ≡ None → Next found rest tail
    → length rest ≡ 0
none_next found rest tail is h =
    let k : Next None rest tail = subst (λ (f : Option TokenLine). Next f rest tail) is h in
    ap length k.0

pub goes_on : (d new : Draft) (rest tail : List TokenLine) (line : TokenLine) (total : Result Draft DeckFault)
    → rest ≡ line ∷ tail → judge d line ≡ Ok new → judge_all d rest ≡ total → judge_all new tail ≡ total
unfolding judge_all
goes_on d new rest tail line total is took so_far =
    let one : judge_all d (line ∷ tail) ≡ judge_all new tail = rw took refl in
    sym one ∙ (ap (judge_all d) (sym is) ∙ so_far)

pub fails : (e : ReadError) (d : Draft) (rest tail : List TokenLine) (line : TokenLine) (total : Result Draft DeckFault)
    → rest ≡ line ∷ tail → Fails e (judge d line) → judge_all d rest ≡ total → Fails e total
unfolding judge_all
fails errors.NoMemory d rest tail line total is failed so_far = tt
fails (errors.Fault f) d rest tail line total is failed so_far =
    let one : judge_all d (line ∷ tail) ≡ Err f = rw failed refl in
    sym so_far ∙ (ap (judge_all d) is ∙ one)

pub is_done : (d : Draft) (rest : List TokenLine) (total : Result Draft DeckFault) → length rest ≡ 0
    → judge_all d rest ≡ total → total ≡ Ok d
unfolding judge_all
is_done d [] total none so_far = sym so_far
is_done d (l ∷ rest) total none so_far = absurd (omega (arith, none))

-- ---- a line without a fault

pub record NoFault (a b : Bool) : Type 0 where
  pub long : a ≡ false
  pub full : b ≡ false

pub no_fault : (long full : Bool) → cond long (Some NameLength) (cond full (Some TooMany) None) ≡ None
    → NoFault long full
no_fault true full h = absurd cc
no_fault false true h = absurd cc
no_fault false false h = record { long = refl; full = refl }

-- the call of a line that was taken
pub record Judged (d : Draft) (l : TokenLine) (e : Draft) : Type 0 where
  pub call : GivenCall
  pub formed : form l ≡ Ok call
  pub right : verdict d call ≡ None
  pub grown : e ≡ grow d call

pub judged : (d e : Draft) (l : TokenLine) → judge d l ≡ Ok e → Judged d l e
unfolding judge
judged d e l h = go (form l) refl h
  where
    go : (r : Result GivenCall Kind) → form l ≡ r → judge_form d l.at r ≡ Ok e → Judged d l e
    go (Err k) is m = absurd cc
    go (Ok c) is m = by (verdict d c) refl m
      where
        by : (o : Option Kind) → verdict d c ≡ o → unless l.at o (grow d c) ≡ Ok e → Judged d l e
        by (Some k) v n = absurd cc
        by None v n = record { call = c; formed = is; right = v; grown = let z : e ≡ grow d c = cc in z }

-- no more sets are made than there may be
pub few_judge : (d new : Draft) (line : TokenLine) → judge d line ≡ Ok new → new.made ≤ most_sets
few_judge d new line took =
    let j = judged d new line took in
    let none = no_fault (is_too_long j.call) (is_full d j.call) j.right in
    let room = or_parts (nat_le most_calls (length d.calls)) (nat_lt most_sets (d.made + makes j.call.ask)) none.full in
    let few : d.made + makes j.call.ask ≤ most_sets = ltb-false most_sets (d.made + makes j.call.ask) room.1 in
    let made : new.made ≡ d.made + makes j.call.ask = ap (λ (x : Draft). x.made) j.grown in
    omega (arith, few, made)

-- ---- a text

pub reading_ok : (text : List ℕ) (lines : List TokenLine) (d : Draft) → lines_or_fault text ≡ Ok lines
    → judge_all no_draft lines ≡ Ok d → reading text ≡ Ok d.calls
unfolding reading
reading_ok text lines d read all = rw (read, all) refl

pub reading_err : (text : List ℕ) (lines : List TokenLine) (e : ReadError) → lines_or_fault text ≡ Ok lines
    → Fails e (judge_all no_draft lines) → Fails e (reading text)
unfolding reading
reading_err text lines errors.NoMemory read h = tt
reading_err text lines (errors.Fault f) read h = rw (read, h) refl
