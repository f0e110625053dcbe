-- What a line spells whose first word is SCHEDULE, or RNLDEF.
use Rattle.std.proofs.Common.{◌≡◌, ℕ, Bool, true, false, not, List, [], ◌∷◌, codes, Option, Some, None, Result, Ok, Err}
use Rattle.std.proofs.Common.{refl, sym, ap, subst, ◌∙◌}
use Rattle.std.specs.Prelude.{is_some}
use Rattle.std.proofs.lemmas.Bool.{and_parts, not-true}
use Rattle.grs_base.specs.declared.fault.Kind.{Kind}
use Rattle.grs_base.specs.declared.fault.Kind.TheVariants.{BadOperand}
use Rattle.deck_scan.specs.Next.{word_at}
use Rattle.deck_scan.specs.declared.token.Token.{Token}
use Rattle.deck_scan.specs.declared.token.Token.TheVariants.{Word}
use Rattle.deck_scan.specs.declared.token.TokenLine.{TokenLine}
use Rattle.deck_scan.proofs.Taking.{same_bytes}
use Rattle.rnl_syntax.specs.Lines.{begins_rnldef}
use Rattle.rnl_syntax.specs.Operands.{rnldef_at}
use Rattle.rnl_syntax.specs.Spelled.{IsRnldef}
use Rattle.rnl_syntax.specs.declared.operands.Rnldef.{Rnldef}
use Rattle.deck_form.specs.declared.form.Stmt.{Stmt}
use Rattle.deck_form.specs.declared.form.Stmt.TheVariants as stmts
use Rattle.deck_form.specs.Form.{key, plain_form, first_form, or_bad, form}
use Rattle.deck_form.specs.Spelled.{Spells}
use Rattle.deck_form.specs.SystemNames.{begins_schedule}
use Rattle.deck_form.proofs.Again.{form_again}
use Rattle.deck_form.proofs.Taken.{word_taken}
use Rattle.deck_form.proofs.Unknown.{formed, formed_is, not_both}

-- the form of such a line before SCHEDULE
first_read : (entries : ℕ) (l : TokenLine) (st : Stmt) → Spells false entries l st
    → first_form false l.tokens ≡ formed st
unfolding form
first_read entries l st h =
    ap (λ (b : Bool). first_form b l.tokens) (sym h.0) ∙ form_again false entries l st h

-- ---- SCHEDULE

schedule_read : (ts : List Token) (st : Stmt) → first_form false (Word (codes "SCHEDULE") ∷ ts) ≡ formed st
    → st ≡ stmts.Schedule
unfolding first_form key plain_form
schedule_read [] st h = sym (formed_is stmts.Schedule st h)
schedule_read (t ∷ ts) st h = absurd cc

pub schedule_begun : (l : TokenLine) → begins_schedule l ≡ true
    → (rest : List Token) × (l.joined ≡ false) × (l.tokens ≡ Word (codes "SCHEDULE") ∷ rest)
unfolding begins_schedule
schedule_begun l h = go (word_at (codes "SCHEDULE") l.tokens) refl parts.1
  where
    parts : (not l.joined ≡ true) × (is_some (word_at (codes "SCHEDULE") l.tokens) ≡ true)
    parts = and_parts (not l.joined) (is_some (word_at (codes "SCHEDULE") l.tokens)) h

    go : (o : Option (List Token)) → word_at (codes "SCHEDULE") l.tokens ≡ o → is_some o ≡ true
        → (rest : List Token) × (l.joined ≡ false) × (l.tokens ≡ Word (codes "SCHEDULE") ∷ rest)
    go None is e = absurd cc
    go (Some rest) is e = (rest, not-true l.joined parts.0, word_taken (codes "SCHEDULE") l.tokens rest is)

-- a statement whose first word is SCHEDULE is no other
pub schedule_spelled : (entries : ℕ) (l : TokenLine) (st : Stmt) → Spells false entries l st → begins_schedule l ≡ true
    → st ≡ stmts.Schedule
schedule_spelled entries l st h b =
    let w = schedule_begun l b in
    schedule_read w.0 st (ap (first_form false) (sym w.2) ∙ first_read entries l st h)

pub begins_with_schedule : (l : TokenLine) → l.joined ≡ false → l.tokens ≡ Word (codes "SCHEDULE") ∷ []
    → begins_schedule l ≡ true
unfolding begins_schedule
begins_with_schedule l near is = rw (near, is) refl

-- ---- RNLDEF

rnldef_read : (ts : List Token) (st : Stmt) → first_form false (Word (codes "RNLDEF") ∷ ts) ≡ formed st
    → (r : Rnldef) × (st ≡ stmts.Rnldef r)
unfolding first_form key plain_form
rnldef_read ts st h = go (rnldef_at ts) refl
  where
    go : (o : Option Rnldef) → rnldef_at ts ≡ o → (r : Rnldef) × (st ≡ stmts.Rnldef r)
    go None is = not_both (first_form false (Word (codes "RNLDEF") ∷ ts)) st BadOperand h (rw is refl)
    go (Some r) is =
        let z : first_form false (Word (codes "RNLDEF") ∷ ts) ≡ formed (stmts.Rnldef r) = rw is refl in
        (r, sym (formed_is (stmts.Rnldef r) st (sym z ∙ h)))

pub rnldef_word : (ts : List Token) → begins_rnldef ts ≡ true
    → (rest : List Token) × (ts ≡ Word (codes "RNLDEF") ∷ rest)
rnldef_word [] h = absurd cc
rnldef_word (Word w ∷ ts) h = (ts, ap (λ (v : List ℕ). Word v ∷ ts) (same_bytes w (codes "RNLDEF") h))
rnldef_word (_ ∷ ts) h = absurd cc

-- a statement that begins with RNLDEF is an entry of a name list
pub rnldef_spelled : (entries : ℕ) (l : TokenLine) (st : Stmt) → Spells false entries l st
    → begins_rnldef l.tokens ≡ true
    → (r : Rnldef)
    × (st ≡ stmts.Rnldef r)
    × ((rest : List Token) × (l.tokens ≡ Word (codes "RNLDEF") ∷ rest) × IsRnldef rest r)
rnldef_spelled entries l st h b =
    let w = rnldef_word l.tokens b in
    let r = rnldef_read w.0 st (ap (first_form false) (sym w.1) ∙ first_read entries l st h) in
    let s : Spells false entries l (stmts.Rnldef r.0) = subst (λ (x : Stmt). Spells false entries l x) r.1 h in
    (r.0, r.1, s.1)
