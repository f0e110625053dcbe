-- Entries by their places, and the first of them that matches.
use Rattle.std.proofs.Common.{◌≡◌, ◌<◌, ◌≤◌, ◌+◌, ◌||◌, ℕ, suc, Bool, true, false, cond, List, [], ◌∷◌, ◌++◌, length}
use Rattle.std.proofs.Common.{take, drop, get_or, Option, Some, None, refl, ap, sym, subst, ◌∙◌, arith, true≢false}
use Rattle.std.specs.Prelude.{All, slice_get, count_by, nat_lt, unwrap_or, position, IfSome, if◌then◌else◌}
use Rattle.std.specs.List.{AllByRecursion, position_from}
use Rattle.std.specs.Option.{option_or, option_map_or}
use Rattle.std.proofs.lemmas.Bool.Decides.{nat_tests}
use Rattle.std.proofs.lemmas.Iterator.Adapters.{position_from-zero}
use Rattle.std.proofs.lemmas.List.{drop_more, take_more, length-take-le}
use Rattle.std.proofs.lemmas.List.Elements.{All-from_recursion}
use Rattle.std.proofs.lemmas.List.Sums.{sum_by-cons}
use Rattle.std.proofs.lemmas.Option.{slice_get-get_or}
use Rattle.grs_base.specs.declared.rnl.RnlEntry.{RnlEntry}
use Rattle.rnl_match.specs.Matches.{matches}
use Rattle.rnl_match.specs.Index.{places, first_place, is_under, is_pattern}

-- one entry more
pub places-push : (t : RnlEntry → Bool) (n : ℕ) (es : List RnlEntry) (e : RnlEntry)
    → places t n (es ++ e ∷ []) ≡ (if t e then places t n es ++ (n + length es) ∷ [] else places t n es)
places-push t n [] e = grind arith
places-push t n (x ∷ es) e = grind (arith, places-push t (n + 1) es e)

-- so with the places up to one of a list, as it is gone through
pub places-more : (t : RnlEntry → Bool) (es : List RnlEntry) (i : ℕ) (e : RnlEntry) (old new : List ℕ) → i < length es
    → e ≡ get_or es i e → old ≡ places t 0 (take i es) → new ≡ (if t e then old ++ i ∷ [] else old)
    → new ≡ places t 0 (take (i + 1) es)
places-more t es i e old new within is before behind =
    behind ∙ ap (λ (l : List ℕ). if t e then l ++ i ∷ [] else l) before
    ∙ ap (λ (k : ℕ). if t e then places t 0 (take i es) ++ k ∷ [] else places t 0 (take i es))
    (omega (arith, length-take-le i es (omega (arith, within))))
    ∙ sym (places-push t 0 (take i es) e)
    ∙ ap (λ (x : RnlEntry). places t 0 (take i es ++ x ∷ [])) is
    ∙ sym (ap (places t 0) (take_more es i e within))

-- as many places as entries
pub length-places : (t : RnlEntry → Bool) (n : ℕ) (es : List RnlEntry) → length (places t n es) ≡ count_by t es
length-places t n [] = refl
length-places t n (e ∷ es) = step (t e) (length-places t (n + 1) es) ∙ sym (sum_by-cons (λ x. cond (t x) 1 0) e es)
  where
    step : (b : Bool) → length (places t (n + 1) es) ≡ count_by t es
        → length (cond b (n ∷ places t (n + 1) es) (places t (n + 1) es)) ≡ cond b 1 0 + count_by t es
    step true rest = omega (arith, rest)
    step false rest = omega (arith, rest)

-- each of them lies within
places-below : (t : RnlEntry → Bool) (n end : ℕ) (es : List RnlEntry) → n + length es ≤ end
    → AllByRecursion (λ p. p < end) (places t n es)
places-below t n end [] h = tt
places-below t n end (e ∷ es) h = step (t e) (places-below t (n + 1) end es (omega (arith, h)))
  where
    step : (b : Bool) → AllByRecursion (λ p. p < end) (places t (n + 1) es)
        → AllByRecursion (λ p. p < end) (if b then n ∷ places t (n + 1) es else places t (n + 1) es)
    step true rest = (omega (arith, h), rest)
    step false rest = rest

pub places-within : (t : RnlEntry → Bool) (es : List RnlEntry) → All (λ p. p < length es) (places t 0 es)
places-within t es =
    All-from_recursion (λ p. p < length es) (places t 0 es) (places-below t 0 (length es) es (omega arith))

-- what is found at a place that comes next
module _ (m : RnlEntry → Bool) (w : List RnlEntry) (end : ℕ) where
  first_place-at : (ps : List ℕ) (i : ℕ) (e : RnlEntry) → i < length ps → get_or ps i 0 < end → get_or ps i 0 < length w
      → e ≡ get_or w (get_or ps i 0) e
      → first_place m w end (drop i ps) ≡ (if m e then Some (get_or ps i 0) else first_place m w end (drop (i + 1) ps))
  first_place-at ps i e within before inside is =
      let p = get_or ps i 0 in
      let earlier : nat_lt p end ≡ true = grind (arith, nat_tests, before) in
      let at : slice_get w p ≡ Some e = slice_get-get_or w p e inside ∙ ap (λ x. Some x) (sym is) in
      ap (first_place m w end) (drop_more ps i 0 within)
      ∙ ap (λ (b : Bool).
      if b
      then (if option_map_or m (slice_get w p) false then Some p else first_place m w end (drop (i + 1) ps))
      else None)
      earlier
      ∙ ap (λ (o : Option RnlEntry). if option_map_or m o false then Some p else first_place m w end (drop (i + 1) ps))
      at

  pub first_place-here : (ps : List ℕ) (i : ℕ) (e : RnlEntry) → i < length ps → get_or ps i 0 < end
      → get_or ps i 0 < length w → e ≡ get_or w (get_or ps i 0) e → m e ≡ true
      → first_place m w end (drop i ps) ≡ Some (get_or ps i 0)
  first_place-here ps i e within before inside is h =
      first_place-at ps i e within before inside is
      ∙ ap (λ (b : Bool). if b then Some (get_or ps i 0) else first_place m w end (drop (i + 1) ps)) h

  pub first_place-later : (ps : List ℕ) (i : ℕ) (e : RnlEntry) → i < length ps → get_or ps i 0 < end
      → get_or ps i 0 < length w → e ≡ get_or w (get_or ps i 0) e → m e ≡ false
      → first_place m w end (drop i ps) ≡ first_place m w end (drop (i + 1) ps)
  first_place-later ps i e within before inside is h =
      first_place-at ps i e within before inside is
      ∙ ap (λ (b : Bool). if b then Some (get_or ps i 0) else first_place m w end (drop (i + 1) ps)) h

  -- one entry more in front
  first_place-cons : (b : Bool) (n : ℕ) (ps : List ℕ)
      → first_place m w end (cond b (n ∷ ps) ps)
      ≡ cond b (cond (nat_lt n end) (cond (option_map_or m (slice_get w n) false) (Some n) (first_place m w end ps))
      None)
      (first_place m w end ps)
  first_place-cons true n ps = refl
  first_place-cons false n ps = refl

  -- places from the end on aren't looked at
  first_place-past : (t : RnlEntry → Bool) (n : ℕ) (es : List RnlEntry) → end ≤ n
      → first_place m w end (places t n es) ≡ None
  first_place-past t n [] h = refl
  first_place-past t n (e ∷ es) h =
      grind (arith, nat_tests, h, first_place-cons (t e) n (places t (n + 1) es), first_place-past t (n + 1) es)

  -- and the first is no place before these entries
  first_place-behind : (t : RnlEntry → Bool) (n : ℕ) (es : List RnlEntry)
      → n ≤ unwrap_or (first_place m w end (places t n es)) n
  first_place-behind t n [] = omega arith
  first_place-behind t n (e ∷ es) =
      subst (λ (o : Option ℕ). n ≤ unwrap_or o n) (sym (first_place-cons (t e) n (places t (n + 1) es)))
      (step (t e) (nat_lt n end) (option_map_or m (slice_get w n) false) (first_place m w end (places t (n + 1) es))
      (first_place-behind t (n + 1) es))
    where
      step : (b before here : Bool) (o : Option ℕ) → n + 1 ≤ unwrap_or o (n + 1)
          → n ≤ unwrap_or (cond b (cond before (cond here (Some n) o) None) o) n
      step true true true o rest = omega arith
      step true true false None rest = omega arith
      step true true false (Some k) rest = omega (arith, rest)
      step true false here o rest = omega arith
      step false before here None rest = omega arith
      step false before here (Some k) rest = omega (arith, rest)

-- which of two places is answered, and where the other may stand
choose : (n len : ℕ) (other : ℕ → Option ℕ) (named more : Option ℕ) → other n ≡ None
    → nat_lt n (unwrap_or named len) ≡ true → option_or (other (unwrap_or named len)) named ≡ more → (x y z : Bool)
    → (z ≡ true → (x || y) ≡ true) →
    let end = unwrap_or (cond x (cond z (Some n) named) named) len in
    option_or (cond y (cond (nat_lt n end) (cond z (Some n) (other end)) None) (other end))
    (cond x (cond z (Some n) named) named)
    ≡ cond z (Some n) more
choose n len other named more past later rest true true true kinds = grind (arith, nat_tests)
choose n len other named more past later rest true false true kinds = ap (λ (o : Option ℕ). option_or o (Some n)) past
choose n len other named more past later rest false true true kinds =
    ap (λ (b : Bool). option_or (cond b (Some n) None) named) later
choose n len other named more past later rest false false true kinds = absurd (true≢false (sym (kinds refl)))
choose n len other named more past later rest true true false kinds =
    ap (λ (b : Bool). option_or (cond b (other (unwrap_or named len)) None) named) later ∙ rest
choose n len other named more past later rest true false false kinds = rest
choose n len other named more past later rest false true false kinds =
    ap (λ (b : Bool). option_or (cond b (other (unwrap_or named len)) None) named) later ∙ rest
choose n len other named more past later rest false false false kinds = rest

-- The first entry that passes is the first of those of one kind that pass, or one of the other kind before it: where
-- all that pass are of these two kinds.
module _ (a b m : RnlEntry → Bool) (kinds : (e : RnlEntry) → m e ≡ true → (a e || b e) ≡ true) (w : List RnlEntry) where
  split : (n : ℕ) (es : List RnlEntry) → ((i : ℕ) → slice_get w (n + i) ≡ slice_get es i) → n + length es ≡ length w →
      option_or (first_place m w (unwrap_or (first_place m w (length w) (places a n es)) (length w)) (places b n es))
      (first_place m w (length w) (places a n es))
      ≡ position_from m n es
  split n [] at len = refl
  split n (e ∷ es) at len =
      let here : slice_get w n ≡ Some e = ap (slice_get w) (omega arith) ∙ at 0 in
      let rest = split (n + 1) es (λ i. ap (slice_get w) (omega arith) ∙ at (suc i)) (omega (arith, len)) in
      let named = first_place m w (length w) (places a (n + 1) es) in
      let other : ℕ → Option ℕ = λ k. first_place m w k (places b (n + 1) es) in
      let before : nat_lt n (length w) ≡ true = grind (arith, nat_tests, len) in
      let later : nat_lt n (unwrap_or named (length w)) ≡ true =
      grind (arith, nat_tests, len, first_place-behind m w (length w) a (n + 1) es) in
      let found : first_place m w (length w) (places a n (e ∷ es)) ≡ cond (a e) (cond (m e) (Some n) named) named
      = first_place-cons m w (length w) (a e) n (places a (n + 1) es)
      ∙ ap (λ (o : Option RnlEntry).
      cond (a e) (cond (nat_lt n (length w)) (cond (option_map_or m o false) (Some n) named) None) named)
      here
      ∙ ap (λ (l : Bool). cond (a e) (cond l (cond (m e) (Some n) named) None) named) before in
      let beside : (k : ℕ)
      → first_place m w k (places b n (e ∷ es))
      ≡ cond (b e) (cond (nat_lt n k) (cond (m e) (Some n) (other k)) None) (other k)
      = λ k.
      first_place-cons m w k (b e) n (places b (n + 1) es)
      ∙ ap (λ (o : Option RnlEntry).
      cond (b e) (cond (nat_lt n k) (cond (option_map_or m o false) (Some n) (other k)) None) (other k))
      here in
      ap (λ (o : Option ℕ). option_or (first_place m w (unwrap_or o (length w)) (places b n (e ∷ es))) o) found
      ∙ ap (λ (o : Option ℕ). option_or o (cond (a e) (cond (m e) (Some n) named) named))
      (beside (unwrap_or (cond (a e) (cond (m e) (Some n) named) named) (length w)))
      ∙ choose n (length w) other named (position_from m (n + 1) es) (first_place-past m w n b (n + 1) es (omega arith))
      later rest (a e) (b e) (m e) (kinds e)

-- what matches is of the qname, or a pattern
matches_kinds : (q r : List ℕ) (e : RnlEntry) → matches e q r ≡ true → (is_under q e || is_pattern e) ≡ true
matches_kinds q r e h = grind (arith, h)

-- So the first entry that matches is the first of the qname's that does, or a pattern before it that does.
module _ (q r : List ℕ) (es : List RnlEntry) where
  pub find_split : (len end : ℕ) (named pattern found : Option ℕ)
      → named ≡ first_place (λ e. matches e q r) es (length es) (places (is_under q) 0 es) → len ≡ length es
      → end ≡ unwrap_or named len
      → pattern ≡ first_place (λ e. matches e q r) es end (places is_pattern 0 es) → found ≡ option_or pattern named
      → found ≡ position (λ e. matches e q r) es
  find_split len end named pattern found n l k p f =
      let m : RnlEntry → Bool = λ e. matches e q r in
      let before : end ≡ unwrap_or (first_place m es (length es) (places (is_under q) 0 es)) (length es) =
      k ∙ ap (unwrap_or named) l ∙ ap (λ (o : Option ℕ). unwrap_or o (length es)) n in
      f
      ∙ ap (option_or pattern) n
      ∙ ap (λ (o : Option ℕ). option_or o (first_place m es (length es) (places (is_under q) 0 es)))
      (p ∙ ap (λ (k : ℕ). first_place m es k (places is_pattern 0 es)) before)
      ∙ split (is_under q) is_pattern m (matches_kinds q r) es 0 es (λ i. ap (slice_get es) (omega arith)) (omega arith)
      ∙ sym (position_from-zero m es)

  pub found-within : (found : Option ℕ) → found ≡ position (λ e. matches e q r) es → IfSome found (λ p. p < length es)
  found-within found h = subst (λ (o : Option ℕ). IfSome o (λ p. p < length es)) (sym h) (grind (arith, nat_tests))

pub ruleset placed = (length-places, places-within)
