-- A deck's text with a report behind it is cut where the report begins.
use Rattle.std.proofs.Common.{◌≡◌, ℕ, suc, Bool, true, false, cond, ◌&&◌, List, [], ◌∷◌, ◌++◌, length, refl, ap, sym, ◌∙◌}
use Rattle.std.proofs.Common.{arith}
use Rattle.std.specs.Prelude.{◌==◌}
use Rattle.std.specs.Str.{bytes_eq}
use Rattle.std.proofs.lemmas.List.{take_at, drop_at}
use Rattle.grs_audit.specs.Halves.{report_word, report_at, deck_part, report_part}
use Rattle.grs_audit.specs.Lines.{front}

-- whether a line begins behind these bytes, of which the first begins one or stands within one
abbrev begins_line : Bool → List ℕ → Bool
begins_line start [] = start
begins_line start (b ∷ bs) = begins_line (b == 10) bs

begins-behind : (start : Bool) (bs : List ℕ) → begins_line start (bs ++ 10 ∷ []) ≡ true
begins-behind start [] = refl
begins-behind start (b ∷ bs) = begins-behind (b == 10) bs

-- the first line is the same whatever stands behind its end
front-same : (b : ℕ) (bs out : List ℕ) → begins_line (b == 10) bs ≡ true
    → front 10 (b ∷ bs ++ out) ≡ front 10 (b ∷ bs)
front-same b [] out e = ap (λ c. cond c [] (b ∷ front 10 out)) e ∙ sym (ap (λ c. cond c [] (b ∷ [])) e)
front-same b (y ∷ ys) out e = ap (λ zs. cond (b == 10) [] (b ∷ zs)) (front-same y ys out e)

at-report : (start : Bool) (xs out : List ℕ) → begins_line start xs ≡ true → report_at start xs ≡ length xs
    → report_at true out ≡ 0 → report_at start (xs ++ out) ≡ length xs
at-report start [] out e none here = ap (λ s. report_at s out) e ∙ here
at-report start (b ∷ bs) out e none here =
    ap (λ w. cond (start && bytes_eq w report_word) 0 (suc (report_at (b == 10) (bs ++ out)))) (front-same b bs out e)
    ∙ go (start && bytes_eq (front 10 (b ∷ bs)) report_word) (λ n. at-report (b == 10) bs out e n here) none
  where
    go : (c : Bool) → (report_at (b == 10) bs ≡ length bs → report_at (b == 10) (bs ++ out) ≡ length bs)
        → cond c 0 (suc (report_at (b == 10) bs)) ≡ suc (length bs)
        → cond c 0 (suc (report_at (b == 10) (bs ++ out))) ≡ suc (length bs)
    go true later n = absurd (omega (arith, n))
    go false later n = ap suc (later (omega (arith, n)))

-- Where no line of a text begins a report, and its last line has its end, the text is the deck's part, and the report that
-- stands behind it the other.
pub own-halves : (before text out : List ℕ) → text ≡ before ++ 10 ∷ [] → report_at true text ≡ length text
    → report_at true out ≡ 0 → (deck_part (text ++ out) ≡ text) × (report_part (text ++ out) ≡ out)
own-halves before text out ends none here =
    let at : report_at true (text ++ out) ≡ length text =
    at-report true text out (ap (begins_line true) ends ∙ begins-behind true before) none here in
    (take_at text out (report_at true (text ++ out)) (sym at), drop_at text out (report_at true (text ++ out)) (sym at))
