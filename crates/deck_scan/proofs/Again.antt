-- What tokens spell is read again: names, and things in any order.
use Rattle.std.proofs.Common.{◌≡◌, ℕ, zero, suc, ◌≤◌, false, eqb, List, [], ◌∷◌, ◌++◌, length, Option, Some, None, refl}
use Rattle.std.proofs.Common.{sym, subst, arith}
use Rattle.std.specs.List.{flat_map}
use Rattle.std.proofs.lemmas.List.Concat.{flat_map-cons}
use Rattle.deck_scan.specs.declared.token.Token.{Token}
use Rattle.deck_scan.specs.declared.token.Token.TheVariants.{Word, Name}
use Rattle.deck_scan.specs.Next.{name_at, up_to, Names, Sets}

pub name_again : (t : Token) (n : List ℕ) (rest : List Token) → Names t n → name_at (t ∷ rest) ≡ Some (n, rest)
name_again (Word w) n rest h = rw h refl
name_again (Name w) n rest h = rw h refl
name_again _ n rest h = absurd h

-- how many of one kind are free
abbrev pub is_free : {A : Type 0} → Option A → ℕ
is_free None = 1
is_free (Some x) = 0

-- Things of kinds that are counted, of which each that stands takes one away.
module _ {O X : Type 0} (free : X → O → Type 0) (sets : X → O → O) (spell : X → List Token)
    (read : O → List Token → Option (O × List Token)) (kinds : O → ℕ)
    (long : (x : X) (rest : List Token) → eqb (length (spell x ++ rest)) 0 ≡ false)
    (one : (x : X) (o : O) (rest : List Token) → free x o → read o (spell x ++ rest) ≡ Some (sets x o, rest))
    (fewer : (x : X) (o : O) → free x o → kinds o ≡ suc (kinds (sets x o))) where
  nothing_again : (n : ℕ) (o : O) → up_to n read o [] ≡ Some o
  nothing_again zero o = refl
  nothing_again (suc n) o = nothing_again n o

  pub all_again : (n : ℕ) (given : List X) (o p : O) → kinds o ≤ n → Sets free sets o given p
      → up_to n read o (flat_map spell given) ≡ Some p
  all_again n [] o p few h = let P : O → Type 0 = λ x. up_to n read o [] ≡ Some x in subst P (sym h) (nothing_again n o)
  all_again zero (x ∷ xs) o p few h = absurd (omega (arith, few, fewer x o h.0))
  all_again (suc n) (x ∷ xs) o p few h =
      rw (flat_map-cons spell x xs, long x (flat_map spell xs), one x o (flat_map spell xs) h.0)
      (all_again n xs (sets x o) p (omega (arith, few, fewer x o h.0)) h.1)
