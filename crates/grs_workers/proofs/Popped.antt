-- What is taken from the end of a list, and put back there.
use Rattle.std.proofs.Common.{◌≡◌, List, [], ◌∷◌, ◌++◌, sym, subst}
use Rattle.std.specs.List.{AllZip}
use Rattle.std.proofs.lemmas.List.Elements.{AllZip-push}

-- The others are related, and so are the last of us and the one that stands behind them in xs.
pub pushed_back : {X : Type 0} (R : X → X → Type 0) (us vs ws xs : List X) (v w : X) → us ≡ vs ++ v ∷ [] → AllZip R vs ws
    → R v w → xs ≡ ws ++ w ∷ [] → AllZip R us xs
pushed_back R us vs ws xs v w popped others last pushed =
    subst (λ us. AllZip R us xs) (sym popped)
    (subst (AllZip R (vs ++ v ∷ [])) (sym pushed) (AllZip-push R vs ws v w others last))
