-- The fault of a line is of the least kind that applies.
use Rattle.std.proofs.Common.{◌≡◌, ℕ, ◌≤◌, Bool, true, false, cond, eqb, Option, Some, None, Result, Ok, Err, refl, sym}
use Rattle.std.proofs.Common.{ap, subst, ◌∙◌, arith, lit≤}
use Rattle.std.proofs.lemmas.Bool.{both_ways}
use Rattle.grs_base.specs.declared.fault.DeckFault.{DeckFault}
use Rattle.grs_base.specs.declared.fault.Kind.{Kind}
use Rattle.grs_base.specs.declared.fault.Kind.TheVariants.{TooLong, BadByte, UnknownStatement, BadOperand, NameLength}
use Rattle.grs_base.specs.declared.fault.Kind.TheVariants.{Repeated, OutOfPlace, TooMany, UnknownName, NoSystem}
use Rattle.deck_scan.specs.declared.token.TokenLine.{TokenLine}
use Rattle.deck_form.specs.declared.form.Stmt.{Stmt}
use Rattle.deck_form.specs.Form.{form}
use Rattle.deck_form.specs.Spelled.{Spells, IsNoStatement}
use Rattle.deck_form.proofs.Taken.{form_taken}
use Rattle.deck_form.proofs.Unknown.{failed, one_spelled, apart, one_kind, is_none}
use Rattle.grs_deck.specs.declared.judge.Draft.{Draft}
use Rattle.grs_deck.specs.Judge.{has_bad_name, is_repeated, is_misplaced, is_full, is_unknown, verdict}
use Rattle.grs_deck.specs.Grow.{grow}
use Rattle.grs_deck.specs.Reading.{unless, judge_form, judge}
use Rattle.grs_base.specs.Faults.{number}
use Rattle.grs_deck.specs.Faults.{SomeStmt, Applies, IsLeast}
use Rattle.grs_deck.specs.Spells.{IsSized, IsNew, IsPlaced, HasRoom, IsKnown}
use Rattle.grs_deck.proofs.FitsLaws.{tests_of}
use Rattle.grs_deck.proofs.SpellsLaws.{sized_by, new_by, placed_by, room_by, known_by, of_sized, of_new, of_placed}
use Rattle.grs_deck.proofs.SpellsLaws.{of_room, of_known}

-- the test of a kind
abbrev holds : Kind → Draft → Stmt → Bool
holds NameLength d st = has_bad_name st
holds Repeated d st = is_repeated d st
holds OutOfPlace d st = is_misplaced d st
holds TooMany d st = is_full d st
holds UnknownName d st = is_unknown d st
holds TooLong d st = false
holds BadByte d st = false
holds UnknownStatement d st = false
holds BadOperand d st = false
holds NoSystem d st = false

abbrev kind : Kind → Option Kind
kind k = Some k

kind_is : (a b : Kind) → kind a ≡ kind b → a ≡ b
kind_is a b h = cc

-- ---- the first test that holds

abbrev Holds : Draft → Stmt → Option Kind → Type 0
Holds d st None = Unit {0}
Holds d st (Some k) = holds k d st ≡ true

tested : (d : Draft) (st : Stmt) (b : Bool) (k : Kind) (rest : Option Kind) → (b ≡ true → holds k d st ≡ true)
    → Holds d st rest → Holds d st (cond b (Some k) rest)
tested d st true k rest h r = h refl
tested d st false k rest h r = r

verdict_holds : (d : Draft) (st : Stmt) → Holds d st (verdict d st)
verdict_holds d st =
    tested d st (has_bad_name st) NameLength _ (λ h. h)
    (tested d st (is_repeated d st) Repeated _ (λ h. h)
    (tested d st (is_misplaced d st) OutOfPlace _ (λ h. h)
    (tested d st (is_full d st) TooMany _ (λ h. h)
    (tested d st (is_unknown d st) UnknownName None (λ h. h) tt))))

-- one test more before others
chain : (n : ℕ) (b : Bool) (x k : Kind) (rest : Option Kind) → number x ≤ n → (rest ≡ kind k → number k ≤ n)
    → cond b (Some x) rest ≡ kind k → number k ≤ n
chain n true x k rest low next h = subst (λ (y : Kind). number y ≤ n) (kind_is x k h) low
chain n false x k rest low next h = next h

-- the test that holds ends the chain
ends : (n : ℕ) (b : Bool) (x k : Kind) (rest : Option Kind) → number x ≤ n → b ≡ true → cond b (Some x) rest ≡ kind k
    → number k ≤ n
ends n true x k rest low t h = subst (λ (y : Kind). number y ≤ n) (kind_is x k h) low
ends n false x k rest low t h = absurd cc

verdict_below : (d : Draft) (st : Stmt) (j k : Kind) → verdict d st ≡ kind k → holds j d st ≡ true → number k ≤ number j
verdict_below d st NameLength k v t =
    ends 5 (has_bad_name st) NameLength k _ (lit≤ tt) t v
verdict_below d st Repeated k v t =
    chain 6 (has_bad_name st) NameLength k _ (lit≤ tt) (ends 6 (is_repeated d st) Repeated k _ (lit≤ tt) t) v
verdict_below d st OutOfPlace k v t =
    chain 7 (has_bad_name st) NameLength k _ (lit≤ tt)
    (chain 7 (is_repeated d st) Repeated k _ (lit≤ tt) (ends 7 (is_misplaced d st) OutOfPlace k _ (lit≤ tt) t)) v
verdict_below d st TooMany k v t =
    chain 8 (has_bad_name st) NameLength k _ (lit≤ tt) (chain 8 (is_repeated d st) Repeated k _ (lit≤ tt)
    (chain 8 (is_misplaced d st) OutOfPlace k _ (lit≤ tt) (ends 8 (is_full d st) TooMany k _ (lit≤ tt) t)))
    v
verdict_below d st UnknownName k v t =
    chain 9 (has_bad_name st) NameLength k _ (lit≤ tt) (chain 9 (is_repeated d st) Repeated k _ (lit≤ tt)
    (chain 9 (is_misplaced d st) OutOfPlace k _ (lit≤ tt)
    (chain 9 (is_full d st) TooMany k _ (lit≤ tt) (ends 9 (is_unknown d st) UnknownName k _ (lit≤ tt) t))))
    v
verdict_below d st TooLong k v t = absurd cc
verdict_below d st BadByte k v t = absurd cc
verdict_below d st UnknownStatement k v t = absurd cc
verdict_below d st BadOperand k v t = absurd cc
verdict_below d st NoSystem k v t = absurd cc

-- ---- a line that spells a statement

-- a test holds where what it tests isn't so
wrong : {P : Type 0} (b : Bool) → (b ≡ false → P) → (P → ⊥) → b ≡ true
wrong true by none = refl
wrong false by none = absurd (none (by refl))

not_so : {P : Type 0} (b : Bool) → (P → b ≡ false) → b ≡ true → P → ⊥
not_so b of t p = both_ways b (of p) t

-- what isn't so of the line's statement isn't so of this one, which is the same
some_holds : (d : Draft) (l : TokenLine) (st : Stmt) (P : Stmt → Type 0) → Spells d.scheduled d.deck.entries l st
    → SomeStmt d l P → P st → ⊥
some_holds d l st P h a p = a.2 (subst P (one_spelled d.scheduled d.deck.entries l st a.0 h a.1) p)

applies_holds : (d : Draft) (l : TokenLine) (st : Stmt) (k : Kind) → Spells d.scheduled d.deck.entries l st
    → Applies k d l → holds k d st ≡ true
applies_holds d l st UnknownStatement h a = absurd (apart d.scheduled d.deck.entries l st UnknownStatement h a)
applies_holds d l st BadOperand h a = absurd (apart d.scheduled d.deck.entries l st BadOperand h a)
applies_holds d l st NameLength h a = wrong (has_bad_name st) (sized_by st) (some_holds d l st IsSized h a)
applies_holds d l st Repeated h a = wrong (is_repeated d st) (new_by d st) (some_holds d l st (IsNew d) h a)
applies_holds d l st OutOfPlace h a = wrong (is_misplaced d st) (placed_by d st) (some_holds d l st (IsPlaced d) h a)
applies_holds d l st TooMany h a = wrong (is_full d st) (room_by d st) (some_holds d l st (HasRoom d) h a)
applies_holds d l st UnknownName h a = wrong (is_unknown d st) (known_by d st) (some_holds d l st (IsKnown d) h a)
applies_holds d l st TooLong h a = absurd a
applies_holds d l st BadByte h a = absurd a
applies_holds d l st NoSystem h a = absurd a

holds_applies : (d : Draft) (l : TokenLine) (st : Stmt) (k : Kind) → Spells d.scheduled d.deck.entries l st
    → holds k d st ≡ true → Applies k d l
holds_applies d l st NameLength h t = (st, h, not_so (has_bad_name st) (of_sized st) t)
holds_applies d l st Repeated h t = (st, h, not_so (is_repeated d st) (of_new d st) t)
holds_applies d l st OutOfPlace h t = (st, h, not_so (is_misplaced d st) (of_placed d st) t)
holds_applies d l st TooMany h t = (st, h, not_so (is_full d st) (of_room d st) t)
holds_applies d l st UnknownName h t = (st, h, not_so (is_unknown d st) (of_known d st) t)
holds_applies d l st TooLong h t = absurd cc
holds_applies d l st BadByte h t = absurd cc
holds_applies d l st UnknownStatement h t = absurd cc
holds_applies d l st BadOperand h t = absurd cc
holds_applies d l st NoSystem h t = absurd cc

verdict_least : (d : Draft) (l : TokenLine) (st : Stmt) (k : Kind) → Spells d.scheduled d.deck.entries l st
    → verdict d st ≡ kind k → IsLeast k d l
verdict_least d l st k h v = record {
  applies = holds_applies d l st k h (subst (Holds d st) v (verdict_holds d st));
  least = λ j a. verdict_below d st j k v (applies_holds d l st j h a);
}

-- no test holds of a statement without a fault
no_holds : (d : Draft) (st : Stmt) (k : Kind) → verdict d st ≡ None → holds k d st ≡ true → ⊥
no_holds d st NameLength v t = both_ways (has_bad_name st) (tests_of d st v).long t
no_holds d st Repeated v t = both_ways (is_repeated d st) (tests_of d st v).repeated t
no_holds d st OutOfPlace v t = both_ways (is_misplaced d st) (tests_of d st v).misplaced t
no_holds d st TooMany v t = both_ways (is_full d st) (tests_of d st v).full t
no_holds d st UnknownName v t = both_ways (is_unknown d st) (tests_of d st v).unknown t
no_holds d st TooLong v t = cc
no_holds d st BadByte v t = cc
no_holds d st UnknownStatement v t = cc
no_holds d st BadOperand v t = cc
no_holds d st NoSystem v t = cc

-- ---- a line that spells none

above_three : (d : Draft) (l : TokenLine) (j : Kind) → Applies j d l → 3 ≤ number j
above_three d l UnknownStatement a = lit≤ tt
above_three d l BadOperand a = lit≤ tt
above_three d l NameLength a = lit≤ tt
above_three d l Repeated a = lit≤ tt
above_three d l OutOfPlace a = lit≤ tt
above_three d l TooMany a = lit≤ tt
above_three d l UnknownName a = lit≤ tt
above_three d l TooLong a = absurd a
above_three d l BadByte a = absurd a
above_three d l NoSystem a = absurd a

above_four : (d : Draft) (l : TokenLine) → IsNoStatement BadOperand d.scheduled d.deck.entries l → (j : Kind)
    → Applies j d l → 4 ≤ number j
above_four d l bad UnknownStatement a =
    absurd (let z : UnknownStatement ≡ BadOperand =
    one_kind d.scheduled d.deck.entries l UnknownStatement BadOperand a bad in
    cc)
above_four d l bad BadOperand a = lit≤ tt
above_four d l bad NameLength a = lit≤ tt
above_four d l bad Repeated a = lit≤ tt
above_four d l bad OutOfPlace a = lit≤ tt
above_four d l bad TooMany a = lit≤ tt
above_four d l bad UnknownName a = lit≤ tt
above_four d l bad TooLong a = absurd a
above_four d l bad BadByte a = absurd a
above_four d l bad NoSystem a = absurd a

none_least : (d : Draft) (l : TokenLine) (k : Kind) → IsNoStatement k d.scheduled d.deck.entries l → IsLeast k d l
none_least d l UnknownStatement h = record { applies = h; least = above_three d l }
none_least d l BadOperand h = record { applies = h; least = above_four d l h }
none_least d l TooLong h = absurd h
none_least d l BadByte h = absurd h
none_least d l NameLength h = absurd h
none_least d l Repeated h = absurd h
none_least d l OutOfPlace h = absurd h
none_least d l TooMany h = absurd h
none_least d l UnknownName h = absurd h
none_least d l NoSystem h = absurd h

least_form : (d : Draft) (l : TokenLine) (k : Kind) → form d.scheduled d.deck.entries l ≡ failed k → IsLeast k d l
least_form d l k h = none_least d l k (is_none d.scheduled d.deck.entries l k h)

-- ---- two least kinds are one

of_number : ℕ → Kind
of_number n =
    cond (eqb n 1) TooLong (cond (eqb n 2) BadByte (cond (eqb n 3) UnknownStatement
    (cond (eqb n 4) BadOperand (cond (eqb n 5) NameLength (cond (eqb n 6) Repeated
    (cond (eqb n 7) OutOfPlace
    (cond (eqb n 8) TooMany (cond (eqb n 9) UnknownName NoSystem))))))))

numbered : (k : Kind) → of_number (number k) ≡ k
unfolding of_number
numbered TooLong = refl
numbered BadByte = refl
numbered UnknownStatement = refl
numbered BadOperand = refl
numbered NameLength = refl
numbered Repeated = refl
numbered OutOfPlace = refl
numbered TooMany = refl
numbered UnknownName = refl
numbered NoSystem = refl

one_least : (d : Draft) (l : TokenLine) (j k : Kind) → IsLeast j d l → IsLeast k d l → j ≡ k
one_least d l j k a b =
    let below = a.least k b.applies in
    let above = b.least j a.applies in
    let same : number j ≡ number k = omega (arith, below, above) in
    sym (numbered j) ∙ ap of_number same ∙ numbered k

-- ---- a line's fault, both ways

abbrev pub refused : DeckFault → Result Draft DeckFault
refused f = Err f

pub refused_is : (f g : DeckFault) → refused f ≡ refused g → f ≡ g
refused_is f g h = cc

pub judged_err : (d : Draft) (l : TokenLine) (f : DeckFault) → judge d l ≡ refused f
    → (f.line ≡ l.at) × IsLeast f.kind d l
unfolding judge
judged_err d l f h = go (form d.scheduled d.deck.entries l) refl h
  where
    go : (r : Result Stmt Kind) → form d.scheduled d.deck.entries l ≡ r → judge_form d l.at r ≡ refused f
        → (f.line ≡ l.at) × IsLeast f.kind d l
    go (Ok st) is k = by (verdict d st) refl k
      where
        by : (o : Option Kind) → verdict d st ≡ o → unless l.at o (grow d st) ≡ refused f
            → (f.line ≡ l.at) × IsLeast f.kind d l
        by None v m = absurd cc
        by (Some k) v m =
            let e = refused_is (record { line = l.at; kind = k }) f m in
            subst (λ (x : DeckFault). (x.line ≡ l.at) × IsLeast x.kind d l) e
            (refl, verdict_least d l st k (form_taken d.scheduled d.deck.entries l st is) v)
    go (Err k) is m =
        let e = refused_is (record { line = l.at; kind = k }) f m in
        subst (λ (x : DeckFault). (x.line ≡ l.at) × IsLeast x.kind d l) e (refl, least_form d l k is)

pub judged_so : (d : Draft) (l : TokenLine) (k : Kind) → IsLeast k d l
    → judge d l ≡ refused (record { line = l.at; kind = k })
unfolding judge
judged_so d l k h = go (form d.scheduled d.deck.entries l) refl
  where
    go : (r : Result Stmt Kind) → form d.scheduled d.deck.entries l ≡ r
        → judge_form d l.at r ≡ refused (record { line = l.at; kind = k })
    go (Err j) is =
        ap (λ (x : Kind). refused (record { line = l.at; kind = x })) (one_least d l j k (least_form d l j is) h)
    go (Ok st) is = by (verdict d st) refl
      where
        spelled : Spells d.scheduled d.deck.entries l st
        spelled = form_taken d.scheduled d.deck.entries l st is

        by : (o : Option Kind) → verdict d st ≡ o
            → unless l.at o (grow d st) ≡ refused (record { line = l.at; kind = k })
        by None v = absurd (no_holds d st k v (applies_holds d l st k spelled h.applies))
        by (Some j) v =
            ap (λ (x : Kind). refused (record { line = l.at; kind = x }))
            (one_least d l j k (verdict_least d l st j spelled v) h)
