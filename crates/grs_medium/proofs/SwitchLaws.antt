-- The managers of the lock words that a Switch may carry are systems.
use Rattle.std.proofs.Common.{◌≡◌, ◌<◌, ◌≤◌, ℕ, Bool, true, false, not, ◌&&◌, ◌||◌, List, get_or, refl, sym, ◌∙◌, subst}
use Rattle.std.proofs.Common.{arith}
use Rattle.std.proofs.lemmas.Bool.{and_parts, eqb-true, true≢false}
use Rattle.std.proofs.lemmas.Bool.Decides.{nat_tests}
use Rattle.std.proofs.lemmas.List.Folds.{list_all_at}
use Rattle.std.specs.Prelude.{Option, Some, None, ◌==◌, nat_lt}
use Rattle.std.specs.List.{All, list_all}
use Rattle.grs_base.specs.Limits.{most_systems}
use Rattle.grs_base.specs.declared.resource.SysId.{SysId}
use Rattle.grs_wire.specs.LockWords.{interest, manager, manager_number}
use Rattle.grs_wire.specs.Masks.{has, all_others}
use Rattle.lock_structure.specs.Words.{ManagerIsBelow}
use Rattle.lock_structure.specs.Words.{manager_fits, word_fits}

-- one word
empty-below : (systems : ℕ) → ManagerIsBelow systems 0
unfolding manager
empty-below systems = let none : 0 ≤ systems = omega arith in none

manager-below : (systems w : ℕ) (who : Option SysId) → manager_fits systems w who ≡ true → manager_number who ≤ systems
manager-below systems w None h = absurd cc
manager-below systems w (Some s) h =
    let parts = and_parts (nat_lt s.0 systems) _ h in
    let below : s.0 < systems = grind (arith, nat_tests, parts.0) in
    omega (arith, below)

word-below : (systems w : ℕ) → word_fits systems w ≡ true → ManagerIsBelow systems w
word-below systems w = by_empty (w == 0) refl
  where
    by_empty : (b : Bool) → (w == 0) ≡ b
        → (b
        || (manager_fits systems w (manager w)
        && all_others most_systems 0 (λ s. not (has (interest w) s) || nat_lt s systems)))
        ≡ true
        → ManagerIsBelow systems w
    by_empty true is h = subst (λ (x : ℕ). ManagerIsBelow systems x) (sym (eqb-true w 0 is)) (empty-below systems)
    by_empty false is h = manager-below systems w (manager w) (and_parts (manager_fits systems w (manager w)) _ h).0

-- all words
pub words-below : (systems : ℕ) (words : List ℕ) → list_all (word_fits systems) words ≡ true
    → All (ManagerIsBelow systems) words
words-below systems words all k d inside =
    word-below systems (get_or words k d) (by_fits (word_fits systems (get_or words k d)) refl)
  where
    by_fits : (b : Bool) → word_fits systems (get_or words k d) ≡ b → b ≡ true
    by_fits true is = refl
    by_fits false is = absurd (true≢false (sym all ∙ list_all_at (word_fits systems) words k d inside is))
