-- A text has one verdict.
use Rattle.std.proofs.Common.{◌≡◌, ◌<◌, ◌≤◌, ℕ, zero, suc, Bool, true, false, List, [], ◌∷◌, ◌++◌, length, take, drop}
use Rattle.std.proofs.Common.{Option, Some, None, refl, ap, sym, ◌∙◌, arith, append_assoc}
use Rattle.std.specs.Prelude.{nat_lt}
use Rattle.std.proofs.lemmas.Bool.{ltb-true, ltb-false}
use Rattle.std.proofs.lemmas.List.{take-append-drop}
use Rattle.grs_wire.specs.declared.deck.Deck.{Deck}
use Rattle.grs_audit.specs.Lines.{lines_in}
use Rattle.grs_audit.specs.Verdicts.{Head, head_in, IsVerdictBehind, IsVerdictOn, OneVerdict}
use Rattle.grs_audit.specs.Way.{IsOnTheWay, IsOff}
use Rattle.grs_audit.specs.declared.verdict.Verdict.{Verdict}
use Rattle.grs_audit.specs.declared.verdict.Verdict.TheVariants.{Yes, No}

take-take : {X : Type 0} (j k : ℕ) (xs : List X) → j ≤ k → take j (take k xs) ≡ take j xs
take-take zero k xs e = refl
take-take (suc j) zero xs e = absurd (omega (arith, e))
take-take (suc j) (suc k) [] e = refl
take-take (suc j) (suc k) (x ∷ xs) e = ap (λ ys. x ∷ ys) (take-take j k xs (omega (arith, e)))

module _ (deck : Deck) where
  -- a front of what is on the way is on the way
  on-front : (n j k : ℕ) (ls : List (List ℕ)) → j ≤ k → IsOnTheWay deck n (take k ls) → IsOnTheWay deck n (take j ls)
  on-front n j k ls less o = record {
    hist = o.hist;
    legal = o.legal;
    few = o.few;
    rest = drop j (take k ls) ++ o.rest;
    front =
        o.front
        ∙ ap (λ xs. xs ++ o.rest) (sym (take-append-drop j (take k ls)))
        ∙ append_assoc (take j (take k ls)) (drop j (take k ls)) o.rest
        ∙ ap (λ xs. xs ++ (drop j (take k ls) ++ o.rest)) (take-take j k ls less);
  }

  before : (n j k : ℕ) (ls : List (List ℕ)) → IsOff deck n ls j → IsOff deck n ls k → j < k → ⊥
  before n j k ls a b less =
      let within = b.within in
      a.off (omega (arith, less, within)) (on-front n (suc j) k ls (omega (arith, less)) b.on)

  one-off : (n j k : ℕ) (ls : List (List ℕ)) → IsOff deck n ls j → IsOff deck n ls k → j ≡ k
  one-off n j k ls a b = by_tests (nat_lt j k) refl (nat_lt k j) refl
    where
      by_tests : (c : Bool) → nat_lt j k ≡ c → (d : Bool) → nat_lt k j ≡ d → j ≡ k
      by_tests true e d f = absurd (before n j k ls a b (ltb-true j k e))
      by_tests false e true f = absurd (before n k j ls b a (ltb-true k j f))
      by_tests false e false f =
          let p = ltb-false j k e in
          let q = ltb-false k j f in
          omega (arith, p, q)

  one-behind : (h : Head) (first : ℕ) (v w : Verdict) → IsVerdictBehind deck h first v
      → IsVerdictBehind deck h first w → v ≡ w
  one-behind h first Yes Yes a b = refl
  one-behind h first Yes (No l) a b = absurd (b.2.whole a)
  one-behind h first (No l) Yes a b = absurd (a.2.whole b)
  one-behind h first (No l) (No m) a b =
      let same = one-off h.count a.0 b.0 h.lines a.2 b.2 in
      let p = a.1 in
      let q = b.1 in
      let lines : l ≡ m = omega (arith, same, p, q) in ap (λ x. No x) lines

  one-on : (all first : ℕ) (o : Option Head) (v w : Verdict) → IsVerdictOn deck all o first v
      → IsVerdictOn deck all o first w → v ≡ w
  one-on all first None Yes w a b = absurd a
  one-on all first None (No l) Yes a b = absurd b
  one-on all first None (No l) (No m) a b = ap (λ x. No x) (a ∙ sym b)
  one-on all first (Some h) v w a b = one-behind h first v w a b

pub one_verdict : OneVerdict
one_verdict deck text first v w a b =
    one-on deck (length (lines_in text)) first (head_in (lines_in text)) v w a b
