-- The first point of a word is the first match of a point.
use Rattle.std.proofs.Common.{◌≡◌, ℕ, ◌+◌, ◌<◌, ◌≤◌, Bool, true, false, cond, eqb, ltb, List, [], ◌∷◌, length, get_or}
use Rattle.std.proofs.Common.{Some, None, position, sym, ◌∙◌, arith, zero-le, refl}
use Rattle.std.specs.List.{position_or_len}
use Rattle.std.proofs.lemmas.Bool.{eqb-true, eq-eqb, ltb-true, ltb-false, false≢true}
use Rattle.std.proofs.lemmas.List.Sums.{fails_before_first, passes_at_first}
use Rattle.bstr.specs.Find.{OccursAt, FindsNeedle, first_of, matches}
use Rattle.memchr.proofs.lemmas.ValueLemmas.{FindsNeedle-value}

abbrev is_point : ℕ → Bool
is_point b = eqb b 46

abbrev point : List ℕ
point = 46 ∷ []

module _ (w : List ℕ) where
  occurs : (k : ℕ) → k < length w → is_point (get_or w k 0) ≡ true → OccursAt w point k
  occurs k within is = record { fits = omega (arith, within); reads = λ j l. first j (omega (arith, l)) }
    where
      first : (j : ℕ) → j ≡ 0 → get_or w (k + j) 0 ≡ get_or point j 0
      first j none = let here : k + j ≡ k = omega (arith, none) in rw (here, none) (eqb-true (get_or w k 0) 46 is)

  there : (k : ℕ) → OccursAt w point k → is_point (get_or w k 0) ≡ true
  there k h =
      let here : k + 0 ≡ k = omega arith in
      let one : get_or w (k + 0) 0 ≡ 46 = h.reads 0 (omega arith) in
      eq-eqb (get_or w k 0) 46 (rw here at one)

  abbrev n : ℕ
  n = position_or_len is_point w

  found : n < length w → FindsNeedle w point 0 (Some n)
  found within = (
    record {
      low = zero-le;
      high = omega (arith, within);
      before = λ k low l at. false≢true (sym (fails_before_first is_point w k 0 l) ∙ there k at);
    },
    occurs n within (passes_at_first is_point w 0 within),
  )

  nowhere : length w ≤ n → FindsNeedle w point 0 None
  nowhere long = λ k low high at.
      false≢true (sym (fails_before_first is_point w k 0 (let fits = at.fits in omega (arith, long, fits)))
      ∙ there k at)

  pub first_point : position is_point w ≡ first_of (matches w point 0)
  first_point = go (ltb n (length w)) refl
    where
      go : (x : Bool) → ltb n (length w) ≡ x → cond x (Some n) None ≡ first_of (matches w point 0)
      go true e = FindsNeedle-value w point (Some n) (found (ltb-true n (length w) e))
      go false e = FindsNeedle-value w point None (nowhere (ltb-false n (length w) e))
