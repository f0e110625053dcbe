-- The line of the first byte that a deck may not have.
use Rattle.std.proofs.Common.{◌≡◌, ℕ, ◌+◌, Bool, true, false, cond, eqb, List, [], ◌∷◌, ◌++◌, length, ◌≤◌, Option, Some}
use Rattle.std.proofs.Common.{None, refl, sym, ap, subst, ◌∙◌, arith}
use Rattle.std.specs.Prelude.{◌&&◌, ◌||◌}
use Rattle.std.specs.List.{list_all}
use Rattle.grs_base.specs.Printed.{is_printable}
use Rattle.std.proofs.lemmas.Bool.{and_from, and_parts}
use Rattle.std.proofs.lemmas.List.{append-nil}
use Rattle.deck_scan.specs.Pieces.{is_in_comment}
use Rattle.deck_scan.specs.Bytes.{begins, is_allowed, bad_line, are_allowed, line_ends, IsFirstBad}

raised : (lf : Bool) (n k : ℕ) → cond lf (n + 1) n + k ≡ n + (cond lf 1 0 + k)
raised true n k = omega arith
raised false n k = omega arith

pub first_bad : (n : ℕ) (text : List ℕ) (m : ℕ) → bad_line n text ≡ Some m → IsFirstBad n text m
unfolding bad_line
first_bad n [] m h = absurd cc
first_bad n (b ∷ bs) m h = go (is_allowed b bs) refl (λ k. first_bad (cond (eqb b 10) (n + 1) n) bs m k) h
  where
    go : (x : Bool) → is_allowed b bs ≡ x
        → (bad_line (cond (eqb b 10) (n + 1) n) bs ≡ Some m → IsFirstBad (cond (eqb b 10) (n + 1) n) bs m)
        → cond x (bad_line (cond (eqb b 10) (n + 1) n) bs) (Some n) ≡ Some m → IsFirstBad n (b ∷ bs) m
    go true e next h = let k = next h in record {
      before = b ∷ k.before;
      byte = k.byte;
      behind = k.behind;
      parts = ap (λ (t : List ℕ). b ∷ t) k.parts;
      good =
          and_from (is_allowed b (k.before ++ k.byte ∷ k.behind)) (are_allowed k.before (k.byte ∷ k.behind))
          (subst (λ (t : List ℕ). is_allowed b t ≡ true) k.parts e) k.good;
      bad = k.bad;
      at = k.at ∙ raised (eqb b 10) n (line_ends k.before);
    }
    go false e next h = record {
      before = [];
      byte = b;
      behind = bs;
      parts = refl;
      good = refl;
      bad = e;
      at = (let same : n ≡ m = cc in omega (arith, same));
    }

bad_at : (n : ℕ) (before : List ℕ) (byte : ℕ) (behind : List ℕ) → are_allowed before (byte ∷ behind) ≡ true
    → is_allowed byte behind ≡ false → bad_line n (before ++ byte ∷ behind) ≡ Some (n + line_ends before)
unfolding bad_line
bad_at n [] byte behind good bad = rw bad (ap (λ (k : ℕ). Some k) (omega arith))
bad_at n (b ∷ bs) byte behind good bad =
    let k = and_parts (is_allowed b (bs ++ byte ∷ behind)) (are_allowed bs (byte ∷ behind)) good in
    rw k.0 (bad_at (cond (eqb b 10) (n + 1) n) bs byte behind k.1 bad
    ∙ ap (λ (k : ℕ). Some k) (raised (eqb b 10) n (line_ends bs)))

pub only_bad : (n : ℕ) (text : List ℕ) (m : ℕ) → IsFirstBad n text m → bad_line n text ≡ Some m
only_bad n text m h =
    ap (bad_line n) h.parts ∙ bad_at n h.before h.byte h.behind h.good h.bad ∙ ap (λ (k : ℕ). Some k) (sym h.at)

pub none_bad : (n : ℕ) (text : List ℕ) → bad_line n text ≡ None → are_allowed text [] ≡ true
unfolding bad_line
none_bad n [] h = refl
none_bad n (b ∷ bs) h = go (is_allowed b bs) refl (λ k. none_bad (cond (eqb b 10) (n + 1) n) bs k) h
  where
    go : (x : Bool) → is_allowed b bs ≡ x → (bad_line (cond (eqb b 10) (n + 1) n) bs ≡ None → are_allowed bs [] ≡ true)
        → cond x (bad_line (cond (eqb b 10) (n + 1) n) bs) (Some n) ≡ None
        → (is_allowed b (bs ++ []) && are_allowed bs []) ≡ true
    go true e next h =
        and_from (is_allowed b (bs ++ [])) (are_allowed bs [])
        (subst (λ (t : List ℕ). is_allowed b t ≡ true) (sym (append-nil bs)) e) (next h)
    go false e next h = absurd cc

pub all_good : (n : ℕ) (text : List ℕ) → are_allowed text [] ≡ true → bad_line n text ≡ None
unfolding bad_line
all_good n [] h = refl
all_good n (b ∷ bs) h =
    let k = and_parts (is_allowed b (bs ++ [])) (are_allowed bs []) h in
    let here : is_allowed b bs ≡ true = subst (λ (t : List ℕ). is_allowed b t ≡ true) (append-nil bs) k.0 in
    rw here (all_good (cond (eqb b 10) (n + 1) n) bs k.1)

-- ---- as the reader finds it

pub common_good : (n : ℕ) (text : List ℕ) → list_all is_in_comment text ≡ true → bad_line n text ≡ None
unfolding bad_line is_allowed
common_good n [] h = refl
common_good n (b ∷ bs) h =
    let k = and_parts (is_in_comment b) (list_all is_in_comment bs) h in
    rw (allowed (is_printable b) (eqb b 10) (eqb b 13 && begins 10 bs) k.0)
    (common_good (cond (eqb b 10) (n + 1) n) bs k.1)
  where
    allowed : (p lf cr : Bool) → (p || lf) ≡ true → (p || lf || cr) ≡ true
    allowed true lf cr h = refl
    allowed false true cr h = refl
    allowed false false cr h = absurd cc

pub bad_here : (n : ℕ) (rest : List ℕ) (b : ℕ) (tail : List ℕ) (total : Option ℕ) → rest ≡ b ∷ tail
    → is_allowed b tail ≡ false → bad_line n rest ≡ total → Some n ≡ total
unfolding bad_line
bad_here n rest b tail total is bad h =
    let here : bad_line n (b ∷ tail) ≡ Some n = rw bad refl in
    sym here ∙ ap (bad_line n) (sym is) ∙ h

pub bad_later : (n : ℕ) (rest : List ℕ) (b : ℕ) (tail : List ℕ) (new : ℕ) (total : Option ℕ) → rest ≡ b ∷ tail
    → is_allowed b tail ≡ true → new ≡ cond (eqb b 10) (n + 1) n → bad_line n rest ≡ total → bad_line new tail ≡ total
unfolding bad_line
bad_later n rest b tail new total is ok made h =
    let here : bad_line n (b ∷ tail) ≡ bad_line (cond (eqb b 10) (n + 1) n) tail = rw ok refl in
    ap (λ (m : ℕ). bad_line m tail) made ∙ sym here ∙ ap (bad_line n) (sym is) ∙ h

pub bad_nowhere : (n : ℕ) (rest : List ℕ) (total : Option ℕ) → length rest ≡ 0 → bad_line n rest ≡ total → None ≡ total
unfolding bad_line
bad_nowhere n [] total none h = h
bad_nowhere n (b ∷ bs) total none h = absurd (omega (arith, none))

pub line_small : (b n new : ℕ) → new ≡ cond (eqb b 10) (n + 1) n → new ≤ n + 1
line_small b n new h = go (eqb b 10) h
  where
    go : (x : Bool) → new ≡ cond x (n + 1) n → new ≤ n + 1
    go true e = omega (arith, e)
    go false e = omega (arith, e)
