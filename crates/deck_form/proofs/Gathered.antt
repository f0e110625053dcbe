-- Statements that are gathered one by one.
use Rattle.std.proofs.Common.{◌≡◌, Bool, true, false, cond, List, [], ◌∷◌, ◌++◌, codes, Option, Some, None, refl, sym}
use Rattle.std.proofs.Common.{ap, subst, ◌∙◌, IfSome}
use Rattle.std.specs.Prelude.{◌||◌}
use Rattle.std.proofs.lemmas.Bool.{and_parts}
use Rattle.deck_scan.specs.declared.token.Token.{Token}
use Rattle.deck_scan.specs.declared.token.Token.TheVariants.{Word}
use Rattle.deck_scan.specs.declared.token.TokenLine.{TokenLine}
use Rattle.deck_scan.specs.Rows.{Next}
use Rattle.deck_scan.proofs.Taking.{same_bytes}
use Rattle.rnl_syntax.specs.Lines.{begins_rnldef, begins_operand, is_open, goes_on, with_line, first_from, left_from}
use Rattle.deck_form.specs.Statements.{is_schedule, statements_from, statements, still}

-- a statement that begins with RNLDEF is no SCHEDULE
rnldef_first : (ts more : List Token) → begins_rnldef ts ≡ true → is_schedule (ts ++ more) ≡ false
rnldef_first [] more h = absurd cc
rnldef_first (Word w ∷ []) [] h = rw (same_bytes w (codes "RNLDEF") h) refl
rnldef_first (Word w ∷ []) (t ∷ ts) h = refl
rnldef_first (Word w ∷ u ∷ us) more h = refl
rnldef_first (_ ∷ ts) more h = absurd cc

still_no_schedule : (s l : TokenLine) → begins_rnldef s.tokens ≡ true → is_schedule (with_line s l).tokens ≡ false
still_no_schedule s l h = rnldef_first s.tokens l.tokens h

-- ---- a statement that is no SCHEDULE

pub gathered : (s : TokenLine) (ls : List TokenLine) → is_schedule s.tokens ≡ false
    → statements_from s ls ≡ first_from s ls ∷ statements (left_from s ls)
unfolding statements_from statements first_from left_from
gathered s [] other = refl
gathered s (l ∷ ls) other = rw other (go (goes_on s l) refl (gathered (with_line s l) ls))
  where
    go : (on : Bool) → goes_on s l ≡ on
        → (is_schedule (with_line s l).tokens ≡ false
        → statements_from (with_line s l) ls
        ≡ first_from (with_line s l) ls ∷ statements (left_from (with_line s l) ls))
        → cond on (statements_from (with_line s l) ls) (s ∷ statements_from l ls)
        ≡ cond on (first_from (with_line s l) ls) s ∷ statements (cond on (left_from (with_line s l) ls) (l ∷ ls))
    go true is more =
        more (still_no_schedule s l
        (and_parts (begins_rnldef s.tokens) (is_open s.tokens || begins_operand l.tokens) is).0)
    go false is more = refl

pub ends_schedule : (s : TokenLine) (ls : List TokenLine) → is_schedule s.tokens ≡ true → statements_from s ls ≡ s ∷ ls
unfolding statements_from
ends_schedule s [] p = refl
ends_schedule s (l ∷ ls) p = rw p refl

-- ---- the next statement

module _ (scheduled : Bool) (found : Option TokenLine) (ls new old : List TokenLine) (seen : still scheduled ls ≡ old)
    (next : Next found ls new) where
  next_as : (f : Option TokenLine) → found ≡ f → Next f ls new
  next_as f is = subst (λ (x : Option TokenLine). Next x ls new) is next

  pub none_left : found ≡ None → Next None old (still scheduled new)
  unfolding still statements
  none_left none = rw (← seen) (by scheduled (next_as None none))
    where
      by : (x : Bool) → Next None ls new → Next None (still x ls) (still x new)
      by true h = h
      by false h = (ap statements h.0, ap statements h.1)

  pub one_left : (l : TokenLine) → found ≡ Some l → scheduled ≡ true → Next (Some l) old (still scheduled new)
  unfolding still
  one_left l some is = sym seen ∙ rw is (next_as (Some l) some)

  pub schedule_left : (l : TokenLine) → found ≡ Some l → scheduled ≡ false → is_schedule l.tokens ≡ true
      → Next (Some l) old (still true new)
  unfolding still statements
  schedule_left l some is schedule =
      sym seen ∙ rw is (ap statements (next_as (Some l) some) ∙ ends_schedule l new schedule)

  pub gathered_left : (l s : TokenLine) (left : List TokenLine) → found ≡ Some l → scheduled ≡ false
      → is_schedule l.tokens ≡ false → s ≡ first_from l new → left ≡ left_from l new
      → Next (Some s) old (still scheduled left)
  unfolding still statements
  gathered_left l s left some is other first rest =
      sym seen ∙ rw (is, first, rest) (ap statements (next_as (Some l) some) ∙ gathered l new other)

-- the next line behind SCHEDULE, where one was taken
pub plain_left : (scheduled : Bool) (found : Option TokenLine) (ls new old : List TokenLine) → still scheduled ls ≡ old
    → scheduled ≡ true → IfSome found (λ l. Next (Some l) ls new)
    → IfSome found (λ l. Next (Some l) old (still scheduled new))
unfolding still
plain_left scheduled found ls new old seen is h = rw (← seen, is) h
