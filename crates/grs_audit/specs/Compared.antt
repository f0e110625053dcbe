-- How far lines begin with others that are wanted.
use Rattle.std.specs.Prelude.{◌≡◌, ℕ, List, ◌∷◌, ◌++◌, length}
use Rattle.grs_audit.specs.Lines.{lines_in}
use Rattle.grs_audit.specs.declared.compare.Compared.{Compared}
use Rattle.grs_audit.specs.declared.compare.Compared.TheVariants as compared

-- Lines begin with so many of those that are wanted, and with no more.
pub record Parts (wanted ls : List (List ℕ)) (n : ℕ) : Type 0 where
  pub same : List (List ℕ)
  pub behind : List (List ℕ)
  pub next : List ℕ
  pub more : List (List ℕ)
  pub count : n ≡ length same
  pub has : ls ≡ same ++ behind
  pub wants : wanted ≡ same ++ next ∷ more
  pub other : (rest : List (List ℕ)) → behind ≡ next ∷ rest → ⊥

abbrev pub AreCompared : List (List ℕ) → List (List ℕ) → Compared → Type 0
AreCompared wanted ls (compared.All rest) = ls ≡ wanted ++ lines_in rest.now
AreCompared wanted ls (compared.Some n) = Parts wanted ls n
