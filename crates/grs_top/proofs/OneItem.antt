-- Lists of one word and of two.
use Rattle.std.proofs.Common.{◌≡◌, ◌≤◌, ◌<◌, List, [], ◌∷◌, length, get_or, sym, ap, ◌∙◌, arith}

-- a list of one item is that item
pub one_item : {A : Type 0} (xs : List A) (x : A) → 1 ≤ length xs → length xs < 2 → x ≡ get_or xs 0 x → xs ≡ x ∷ []
one_item [] x some few is = absurd (omega arith)
one_item (y ∷ []) x some few is = ap (λ z. z ∷ []) (sym is)
one_item (y ∷ z ∷ zs) x some few is = absurd (omega arith)

-- a list of two items is these
pub two_items : {A : Type 0} (xs : List A) (x y : A) → 2 ≤ length xs → length xs < 3 → x ≡ get_or xs 0 x
    → y ≡ get_or xs 1 y → xs ≡ x ∷ y ∷ []
two_items [] x y some few first second = absurd (omega arith)
two_items (a ∷ []) x y some few first second = absurd (omega arith)
two_items {A} (a ∷ b ∷ []) x y some few first second =
    ap (λ (z : A). z ∷ b ∷ []) (sym first) ∙ ap (λ (z : A). x ∷ z ∷ []) (sym second)
two_items (a ∷ b ∷ z ∷ zs) x y some few first second = absurd (omega arith)
