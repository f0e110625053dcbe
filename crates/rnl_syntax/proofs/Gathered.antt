-- The first statement, gathered line by line.
use Rattle.std.proofs.Common.{◌≡◌, true, false, List, [], ◌∷◌, Option, Some, None, refl, sym, ap, ◌∙◌}
use Rattle.deck_scan.specs.declared.token.TokenLine.{TokenLine}
use Rattle.deck_scan.specs.Rows.{Next}
use Rattle.rnl_syntax.specs.Lines.{goes_on, with_line, first_from, left_from, wants_more}

-- ---- the ends of a statement

pub ends : (s : TokenLine) (ls : List TokenLine) → wants_more s ls ≡ false
    → (first_from s ls ≡ s) × (left_from s ls ≡ ls)
unfolding first_from left_from
ends s [] h = (refl, refl)
ends s (l ∷ ls) h = let stops : goes_on s l ≡ false = h in (rw stops refl, rw stops refl)

-- the same statement is gathered of further lines
pub record Gathers (s : TokenLine) (ls : List TokenLine) (first : TokenLine) (all : List TokenLine) : Type 0 where
  pub statement : first_from s ls ≡ first_from first all
  pub left : left_from s ls ≡ left_from first all

pub gather_ends : (s : TokenLine) (ls : List TokenLine) (first : TokenLine) (all : List TokenLine)
    → Gathers s ls first all → wants_more s ls ≡ false → (s ≡ first_from first all) × (ls ≡ left_from first all)
gather_ends s ls first all h stops = let k = ends s ls stops in (sym k.0 ∙ h.statement, sym k.1 ∙ h.left)

-- no line is left
pub gather_none :
    (next : Option TokenLine) (s : TokenLine) (ls new : List TokenLine) (first : TokenLine) (all : List TokenLine)
    → Next next ls new → Gathers s ls first all → next ≡ None → (s ≡ first_from first all) × (new ≡ left_from first all)
unfolding first_from left_from
gather_none None s ls new first all h so_far
    e = (sym (ap (first_from s) h.0) ∙ so_far.statement, h.1 ∙ sym (ap (left_from s) h.0) ∙ so_far.left)
gather_none (Some l) s ls new first all h so_far e = absurd cc

-- it goes on with the next line
pub gather_goes :
    (next : Option TokenLine) (s t : TokenLine) (ls new : List TokenLine) (first : TokenLine) (all : List TokenLine)
    → Next next ls new → Gathers s ls first all → (line : TokenLine) → next ≡ Some line → wants_more s ls ≡ true
    → t ≡ with_line s line → Gathers t new first all
unfolding first_from left_from
gather_goes None s t ls new first all h so_far line e goes is = absurd cc
gather_goes (Some l) s t ls new first all h so_far line e goes is =
    let same : l ≡ line = cc in
    let on : goes_on s l ≡ true = sym (ap (wants_more s) h) ∙ goes in
    let made : t ≡ with_line s l = is ∙ ap (with_line s) (sym same) in
    let step : first_from s (l ∷ new) ≡ first_from (with_line s l) new = rw on refl in
    let rest : left_from s (l ∷ new) ≡ left_from (with_line s l) new = rw on refl in
    record {
      statement =
          ap (λ (x : TokenLine). first_from x new) made ∙ sym step ∙ sym (ap (first_from s) h) ∙ so_far.statement;
      left = ap (λ (x : TokenLine). left_from x new) made ∙ sym rest ∙ sym (ap (left_from s) h) ∙ so_far.left;
    }
