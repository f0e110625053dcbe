-- Functions of the systems that change at one of them.
use Rattle.std.proofs.Common.{◌≡◌, ◌≢◌, ℕ, Bool, true, false, cond, refl, sym, subst}
use Rattle.std.specs.Prelude.{eqb}
use Rattle.std.proofs.lemmas.Bool.{eqb-true, eqb-false}
use Rattle.grs_known.specs.Parts.{put_at}

-- what holds of the new value there, and of the others as they were, holds of two such functions
pub put_both : {A B : Type 0} (f : ℕ → A) (g : ℕ → B) (s u : ℕ) (x : A) (y : B) (P : A → B → Type 0) → (u ≡ s → P x y)
    → (u ≢ s → P (f u) (g u)) → P (put_at f s x u) (put_at g s y u)
put_both f g s u x y P here there = go (eqb u s) refl
  where
    go : (b : Bool) → eqb u s ≡ b → P (cond b x (f u)) (cond b y (g u))
    go true e = here (eqb-true u s e)
    go false e = there (eqb-false u s e)

pub put_one : {A : Type 0} (f : ℕ → A) (s u : ℕ) (x : A) (P : A → Type 0) → (u ≡ s → P x) → (u ≢ s → P (f u))
    → P (put_at f s x u)
put_one f s u x P here there = put_both f f s u x x (λ a b. P a) here there

pub put_each : {A B : Type 0} (f : ℕ → A) (g : ℕ → B) (s : ℕ) (x : A) (y : B) (P : ℕ → A → B → Type 0) → P s x y
    → ((u : ℕ) → u ≢ s → P u (f u) (g u)) → (u : ℕ) → P u (put_at f s x u) (put_at g s y u)
put_each f g s x y P here there u = put_both f g s u x y (P u) (λ same. subst (λ i. P i x y) (sym same) here) (there u)

-- the new value stands there, and the others stay
pub put_here : {A : Type 0} (f : ℕ → A) (s : ℕ) (x : A) → put_at f s x s ≡ x
put_here f s x = put_one f s s x (λ a. a ≡ x) (λ same. refl) (λ apart. absurd (apart refl))

pub put_other : {A : Type 0} (f : ℕ → A) (s : ℕ) (x : A) (u : ℕ) → u ≢ s → put_at f s x u ≡ f u
put_other f s x u ne = put_one f s u x (λ a. a ≡ f u) (λ same. absurd (ne same)) (λ apart. refl)
