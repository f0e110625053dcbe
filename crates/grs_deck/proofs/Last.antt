-- The last item of a list.
use Rattle.std.proofs.Common.{◌≡◌, List, [], ◌∷◌, ◌++◌, Result, Ok, Err, refl, ap}
use Rattle.std.specs.Prelude.{OnOk}
use Rattle.grs_base.specs.declared.fault.NoMemory.{NoMemory}
use Rattle.grs_deck.specs.Places.{at_last}
use Rattle.grs_deck.specs.Grow.{on_last}

pub at_last-snoc : {A B : Type 0} (f : A → List B) (xs : List A) (x : A) → at_last f (xs ++ x ∷ []) ≡ f x
at_last-snoc f [] x = refl
at_last-snoc f (y ∷ []) x = refl
at_last-snoc f (y ∷ z ∷ ys) x = at_last-snoc f (z ∷ ys) x

pub on_last-snoc : {A : Type 0} (f : A → A) (xs : List A) (x : A) → on_last f (xs ++ x ∷ []) ≡ xs ++ f x ∷ []
on_last-snoc f [] x = refl
on_last-snoc f (y ∷ []) x = refl
on_last-snoc {A} f (y ∷ z ∷ ys) x = ap (λ (w : List A). y ∷ w) (on_last-snoc f (z ∷ ys) x)

-- the same, where the list and the item are given by equations
pub at_last-is : {A B : Type 0} (f : A → List B) (all xs : List A) (x : A) → all ≡ xs ++ x ∷ [] → f x ≡ at_last f all
at_last-is f all xs x e = rw (e, at_last-snoc) refl

-- the last item was taken, changed and put back
pub changed : {A : Type 0} (f : A → A) (all xs : List A) (x y : A) (r : Result (Unit {0}) NoMemory) (new : List A)
    → all ≡ xs ++ x ∷ [] → y ≡ f x → OnOk r (new ≡ xs ++ y ∷ []) → OnOk r (new ≡ on_last f all)
changed f all xs x y (Ok u) new e h made = rw (e, made, h, on_last-snoc) refl
changed f all xs x y (Err d) new e h made = tt
