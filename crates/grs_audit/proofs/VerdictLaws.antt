-- The verdict on a text, by its first line of a history and by the lines behind.
use Rattle.std.proofs.Common.{◌≡◌, ◌≤◌, ◌+◌, ℕ, suc, List, [], ◌∷◌, length, Bor, Option, Some, None, refl, ap, sym, subst}
use Rattle.std.proofs.Common.{arith}
use Rattle.grs_wire.specs.declared.deck.Deck.{Deck}
use Rattle.grs_audit.specs.Found.{capped, IsFound}
use Rattle.grs_audit.specs.Lines.{lines_in}
use Rattle.grs_audit.specs.Steps.{IsJudged}
use Rattle.grs_audit.specs.Verdicts.{Head, later, head_by, head_in, count_in, IsVerdictOn}
use Rattle.grs_audit.specs.declared.head.Found.TheVariants.{At, Nowhere}
use Rattle.grs_audit.specs.declared.verdict.Verdict.TheVariants.{Yes, No}

-- the lines of a text are those before the first line of a history, that line, and those behind it
head-count : (ls : List (List ℕ)) (h : Head) → head_in ls ≡ Some h → h.place + 1 + length h.lines ≡ length ls
head-count [] h e = absurd (cc)
head-count (l ∷ ls) h e = go (count_in l) (head_in ls) (head-count ls) e
  where
    go : (o : Option ℕ) (found : Option Head)
        → ((k : Head) → found ≡ Some k → k.place + 1 + length k.lines ≡ length ls) → head_by o ls found ≡ Some h
        → h.place + 1 + length h.lines ≡ suc (length ls)
    go (Some n) found more g =
        let is : record { place = 0; count = n; lines = ls } ≡ h = cc in
        subst (λ (x : Head). x.place + 1 + length x.lines ≡ suc (length ls)) is (omega arith)
    go None None more g = absurd (cc)
    go None (Some k) more g =
        let is : later k ≡ h = cc in
        let left = more k refl in
        subst (λ (x : Head). x.place + 1 + length x.lines ≡ suc (length ls)) is (omega (arith, left))

module _ (deck : Deck) (ls : List (List ℕ)) (first place count : ℕ) (rest : Bor (List ℕ))
    (found : IsFound ls (At place count rest)) where
  abbrev pub Judged : Option ℕ → Type 0
  Judged off = (n : ℕ) → count ≡ capped n → IsJudged deck n (lines_in rest.now) off

  -- the lines behind are among all
  pub rest-few : length (lines_in rest.now) ≤ length ls
  rest-few =
      let h = found.0 in
      let all = head-count ls h found.1 in
      let same = ap length found.4 in
      omega (arith, all, same)

  -- what is said of the lines behind holds of those of the first line of a history
  behind-head : {off : Option ℕ} (known : Option ℕ) → off ≡ known → Judged off
      → IsJudged deck found.0.count found.0.lines known
  behind-head known is judged =
      let same : Judged known = subst Judged is judged in
      subst (λ (xs : List (List ℕ)). IsJudged deck found.0.count xs known) (sym found.4)
      (same found.0.count found.3)

  -- the line is one of the text, or the one behind
  pub off-within : {off : Option ℕ} (k : ℕ) → off ≡ Some k → Judged off → place + 1 + k ≤ length ls
  off-within k is judged =
      let off = behind-head (Some k) is judged in
      let within = off.within in
      let all = head-count ls found.0 found.1 in
      let at = found.2 in
      omega (arith, within, all, at)

  pub verdict-no : {off : Option ℕ} (k : ℕ) → off ≡ Some k → Judged off
      → IsVerdictOn deck (length ls) (head_in ls) first (No (first + (place + 1 + k)))
  verdict-no k is judged =
      let at = found.2 in
      subst (λ o. IsVerdictOn deck (length ls) o first (No (first + (place + 1 + k)))) (sym found.1)
      (k, omega (arith, at), behind-head (Some k) is judged)

  pub verdict-yes : {off : Option ℕ} → off ≡ None → Judged off
      → IsVerdictOn deck (length ls) (head_in ls) first Yes
  verdict-yes is judged =
      subst (λ o. IsVerdictOn deck (length ls) o first Yes) (sym found.1) (behind-head None is judged)

pub verdict-nowhere : (deck : Deck) (ls : List (List ℕ)) (first lines : ℕ) → IsFound ls (Nowhere lines)
    → IsVerdictOn deck (length ls) (head_in ls) first (No (first + lines))
verdict-nowhere deck ls first lines found =
    subst (λ o. IsVerdictOn deck (length ls) o first (No (first + lines))) (sym found.0) (ap (λ n. first + n) found.1)
