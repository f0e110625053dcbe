-- The fronts of a text of any bytes, and of a text as it is read.
use Rattle.std.proofs.Common.{◌≡◌, ℕ, Bool, true, false, cond, List, [], ◌∷◌, ◌++◌, get_or, None, refl, sym, ap, subst}
use Rattle.std.proofs.Common.{◌∙◌, arith, inl, inr}
use Rattle.std.specs.List.{list_all}
use Rattle.std.proofs.lemmas.Bool.{eqb-true, and_parts}
use Rattle.grs_base.specs.Printed.{is_printable}
use Rattle.deck_scan.specs.Bytes.{is_allowed, bad_line}
use Rattle.deck_scan.specs.AnyBytes.{wrong_byte, readable}
use Rattle.rnl_syntax.specs.Reading.{ends_closed}
use Rattle.rnl_syntax.specs.Laws.{IsLineEnd}
use Rattle.rnl_syntax.proofs.Fronts.{cut_allowed}

none_cut : (xs ys : List ℕ) → [] ≡ xs ++ 41 ∷ ys → ⊥
none_cut [] ys e = cc
none_cut (x ∷ xs) ys e = cc

-- no closing parenthesis stands for a byte that isn't allowed
no_close : (xs ys : List ℕ) → wrong_byte ≡ xs ++ 41 ∷ ys → ⊥
no_close [] ys e = let h : 33 ≡ 41 = ap (λ (t : List ℕ). get_or t 0 0) e in omega (arith, h)
no_close (a ∷ []) ys e = let h : 42 ≡ 41 = ap (λ (t : List ℕ). get_or t 1 0) e in omega (arith, h)
no_close (a ∷ b ∷ []) ys e = let h : 47 ≡ 41 = ap (λ (t : List ℕ). get_or t 2 0) e in omega (arith, h)
no_close (a ∷ b ∷ c ∷ []) ys e = let h : 33 ≡ 41 = ap (λ (t : List ℕ). get_or t 3 0) e in omega (arith, h)
no_close (a ∷ b ∷ c ∷ d ∷ xs) ys e = none_cut xs ys (tails 33 a (42 ∷ 47 ∷ 33 ∷ []) (b ∷ c ∷ d ∷ xs ++ 41 ∷ ys) e)
  where
    tail_of : (x y : ℕ) (xs ys : List ℕ) → x ∷ xs ≡ y ∷ ys → xs ≡ ys
    tail_of x y xs ys e = cc

    tails : (x y : ℕ) (ts us : List ℕ) → x ∷ 42 ∷ 47 ∷ 33 ∷ [] ≡ y ∷ b ∷ c ∷ d ∷ (xs ++ 41 ∷ ys) → [] ≡ xs ++ 41 ∷ ys
    tails x y ts us k =
        tail_of 33 d [] (xs ++ 41 ∷ ys) (tail_of 47 c (33 ∷ []) (d ∷ (xs ++ 41 ∷ ys))
        (tail_of 42 b (47 ∷ 33 ∷ []) (c ∷ d ∷ (xs ++ 41 ∷ ys))
        (tail_of x y (42 ∷ 47 ∷ 33 ∷ []) (b ∷ c ∷ d ∷ (xs ++ 41 ∷ ys)) k)))

first_same : (x y : ℕ) (xs ys : List ℕ) → x ∷ xs ≡ y ∷ ys → (x ≡ y) × (xs ≡ ys)
first_same x y xs ys e = (cc, cc)

-- A front of what is read, up to a closing parenthesis, is one of the text.
pub cut_readable : (text front back : List ℕ) → readable text ≡ front ++ 41 ∷ back
    → (more : List ℕ) × (text ≡ front ++ 41 ∷ more)
unfolding readable
cut_readable [] front back e = absurd (none_cut front back e)
cut_readable (b ∷ bs) front back e = go (is_allowed b bs) front e (λ xs k. cut_readable bs xs back k)
  where
    go : (ok : Bool) (xs : List ℕ) → cond ok (b ∷ readable bs) wrong_byte ≡ xs ++ 41 ∷ back
        → ((ys : List ℕ) → readable bs ≡ ys ++ 41 ∷ back → (more : List ℕ) × (bs ≡ ys ++ 41 ∷ more))
        → (more : List ℕ) × (b ∷ bs ≡ xs ++ 41 ∷ more)
    go true [] k next = let h = first_same b 41 (readable bs) back k in (bs, ap (λ (x : ℕ). x ∷ bs) h.0)
    go true (x ∷ xs) k next =
        let h = first_same b x (readable bs) (xs ++ 41 ∷ back) k in
        let n = next xs h.1 in
        (n.0, ap (λ (y : ℕ). y ∷ bs) h.0 ∙ ap (λ (t : List ℕ). x ∷ t) n.1)
    go false xs k next = absurd (no_close xs back k)

-- a text that ends with a closing parenthesis
closed_parts : (text : List ℕ) → ends_closed text ≡ true → (xs : List ℕ) × (text ≡ xs ++ 41 ∷ [])
closed_parts [] h = absurd cc
closed_parts (b ∷ []) h = let e = eqb-true b 41 h in ([], ap (λ (x : ℕ). x ∷ []) e)
closed_parts (b ∷ c ∷ bs) h = let k = closed_parts (c ∷ bs) h in (b ∷ k.0, ap (λ (t : List ℕ). b ∷ t) k.1)

-- A front of a text of allowed bytes is of allowed bytes, where a closing parenthesis ends it.
pub closed_allowed : (front back : List ℕ) (n : ℕ) → bad_line n (front ++ back) ≡ None → ends_closed front ≡ true
    → bad_line n front ≡ None
closed_allowed front back n good closed =
    let k = closed_parts front closed in
    let whole : front ++ back ≡ k.0 ++ 41 ∷ back = ap (λ (t : List ℕ). t ++ back) k.1 ∙ moved k.0 in
    subst (λ (t : List ℕ). bad_line n t ≡ None) (sym k.1)
    (cut_allowed k.0 back n (subst (λ (t : List ℕ). bad_line n t ≡ None) whole good))
  where
    moved : (xs : List ℕ) → (xs ++ 41 ∷ []) ++ back ≡ xs ++ 41 ∷ back
    moved [] = refl
    moved (x ∷ xs) = ap (λ (t : List ℕ). x ∷ t) (moved xs)

-- What can be printed is read as it stands, and so is the end of a line.
pub printable_read : (xs ys : List ℕ) → list_all is_printable xs ≡ true → readable (xs ++ ys) ≡ xs ++ readable ys
unfolding readable is_allowed
printable_read [] ys h = refl
printable_read (x ∷ xs) ys h =
    let k = and_parts (is_printable x) (list_all is_printable xs) h in
    rw k.0 (ap (λ (t : List ℕ). x ∷ t) (printable_read xs ys k.1))

pub end_read : (end rest : List ℕ) → IsLineEnd end → readable (end ++ rest) ≡ end ++ readable rest
unfolding readable is_allowed
end_read end rest (inl e) = rw e refl
end_read end rest (inr e) = rw e refl
