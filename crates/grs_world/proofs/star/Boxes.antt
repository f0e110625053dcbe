-- A mail comes last in one inbox, and the others stay; or the first of one is taken.
use Rattle.grs_world.proofs.Common.{[], ◌++◌, ◌<◌, ◌==◌, ◌∙◌, ◌∷◌, ◌≡◌, ◌≢◌, ap, Bool, eqb-false, eqb-true, false}
use Rattle.grs_world.proofs.Common.{inbox_of, length, List, Mail, refl, subst, sym, true, with_mail, without_first, ℕ}
use Rattle.std.specs.Prelude.{drop}
use Rattle.std.proofs.lemmas.List.{get_or-set_other, get_or-set_same}

module _ (boxes : List (List Mail)) (s : ℕ) (mail : Mail) where
  pub its-box : s < length boxes → inbox_of (with_mail boxes s mail) s ≡ inbox_of boxes s ++ mail ∷ []
  its-box there = get_or-set_same boxes s (inbox_of boxes s ++ mail ∷ []) [] there

  pub other-box : (u : ℕ) → u ≢ s → inbox_of (with_mail boxes s mail) u ≡ inbox_of boxes u
  other-box u ne = get_or-set_other boxes s u (inbox_of boxes s ++ mail ∷ []) [] ne

  -- what holds of an inbox then, by whether it is that one
  pub by_box : (P : List Mail → Type 0) → s < length boxes → (u : ℕ) → (u ≡ s → P (inbox_of boxes u ++ mail ∷ []))
      → (u ≢ s → P (inbox_of boxes u)) → P (inbox_of (with_mail boxes s mail) u)
  by_box P there u its other = go (u == s) refl
    where
      go : (b : Bool) → (u == s) ≡ b → P (inbox_of (with_mail boxes s mail) u)
      go true e =
          let same : u ≡ s = eqb-true u s e in
          subst P (sym (ap (inbox_of (with_mail boxes s mail)) same
          ∙ (its-box there ∙ ap (λ i. inbox_of boxes i ++ mail ∷ []) (sym same))))
          (its same)
      go false e = let ne : u ≢ s = eqb-false u s e in subst P (sym (other-box u ne)) (other ne)

-- ---- the first of one is taken
pub taken-box : (boxes : List (List Mail)) (s : ℕ) → s < length boxes
    → inbox_of (without_first boxes s) s ≡ drop 1 (inbox_of boxes s)
taken-box boxes s there = get_or-set_same boxes s (drop 1 (inbox_of boxes s)) [] there

pub untaken-box : (boxes : List (List Mail)) (s u : ℕ) → u ≢ s → inbox_of (without_first boxes s) u ≡ inbox_of boxes u
untaken-box boxes s u ne = get_or-set_other boxes s u (drop 1 (inbox_of boxes s)) [] ne
