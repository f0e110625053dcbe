-- A line of words, put together word by word.
use Rattle.std.proofs.Common.{◌≡◌, ℕ, List, [], ◌∷◌, ◌++◌, ap, refl, sym, ◌∙◌, append_assoc, append-nil}
use Rattle.std.specs.Prelude.{codes}
use Rattle.grs_display.specs.Lines.{spaced}

spaced-append : (xs ys : List (List ℕ)) → spaced (xs ++ ys) ≡ spaced xs ++ spaced ys
spaced-append [] ys = refl
spaced-append (x ∷ xs) ys =
    ap (λ (bs : List ℕ). (32 ∷ x) ++ bs) (spaced-append xs ys) ∙ sym (append_assoc (32 ∷ x) (spaced xs) (spaced ys))

pub first_words : (n out : List ℕ) → out ≡ codes "GEN " ++ n → out ≡ codes "GEN" ++ spaced (n ∷ [])
first_words n out is = is ∙ ap (λ (bs : List ℕ). codes "GEN " ++ bs) (sym (append-nil n))

pub more_words : (ws : List (List ℕ)) (w v now new : List ℕ) → now ≡ codes "GEN" ++ spaced ws
    → new ≡ now ++ spaced (w ∷ v ∷ []) → new ≡ codes "GEN" ++ spaced (ws ++ w ∷ v ∷ [])
more_words ws w v now new is then =
    then
    ∙ ap (λ (bs : List ℕ). bs ++ spaced (w ∷ v ∷ [])) is
    ∙ append_assoc (codes "GEN") (spaced ws) (spaced (w ∷ v ∷ []))
    ∙ ap (λ (bs : List ℕ). codes "GEN" ++ bs) (sym (spaced-append ws (w ∷ v ∷ [])))
