-- One system changes in what it is to an entry, and what is said of entries still holds.
use Rattle.grs_world.proofs.Common.{◌==◌, ◌∙◌, ◌≡◌, ap, Bool, cond, eq-eqb, eqb-true, false, is_some, refl, same_Some}
use Rattle.grs_world.proofs.Common.{Some, subst, sym, true, true≢false, ℕ}
use Rattle.grs_world.proofs.gather.way.Entry.{Entry, IsAt, IsEntry, at, is_there}
use Rattle.grs_world.specs.OnTheWay.{PartIs, Stance}

abbrev pub with_stance : Entry → ℕ → Stance → Entry
with_stance E c Y = record E { stance = λ s. cond (s == c) (Some Y) (E.stance s) }

-- the same systems are there
pub still-there : (E : Entry) (c : ℕ) (X Y : Stance) → E.stance c ≡ Some X → (u : ℕ)
    → is_there (with_stance E c Y) u ≡ true → is_there E u ≡ true
still-there E c X Y is u h = go (u == c) refl h
  where
    go : (b : Bool) → (u == c) ≡ b → is_some (cond b (Some Y) (E.stance u)) ≡ true → is_there E u ≡ true
    go true e k = ap (λ i. is_there E i) (eqb-true u c e) ∙ ap is_some is
    go false e k = k

module _ (E : Entry) (J : IsEntry E) (c : ℕ) (X Y : Stance) (is : E.stance c ≡ Some X)
    (own : IsAt (with_stance E c Y) c Y)
    (to-me : (u : ℕ) (U : Stance) → (c == u) ≡ false → E.manager ≡ Some (at c) → E.stance u ≡ Some U
    → PartIs c u Y U Y.manages)
    (of-me : (m : ℕ) (M : Stance) → (m == c) ≡ false → E.manager ≡ Some (at m) → E.stance m ≡ Some M
    → PartIs m c M Y M.manages) where
  abbrev F : Entry
  F = with_stance E c Y

  -- each is that system, or as it was
  by-place : (s : ℕ) (T : Stance) → F.stance s ≡ Some T → (P : Type 0) → (s ≡ c → Y ≡ T → P)
      → ((s == c) ≡ false → E.stance s ≡ Some T → P) → P
  by-place s T found P here other = go (s == c) refl found
    where
      go : (b : Bool) → (s == c) ≡ b → cond b (Some Y) (E.stance s) ≡ Some T → P
      go true e h = here (eqb-true s c e) (same_Some Y T h)
      go false e h = other e h

  other-at : (s : ℕ) (T : Stance) → E.stance s ≡ Some T → IsAt F s T
  other-at s T there = let j = J.each s T there in record {
    noticed = j.noticed;
    manages = j.manages;
    gathers = j.gathers;
    named = j.named;
    owes = j.owes;
    parts = λ u ne h. j.parts u ne (still-there E c X Y is u h);
    behind = λ u ne h. j.behind u ne (still-there E c X Y is u h);
  }

  pub entry-changed : IsEntry F
  entry-changed = record {
    live = λ s T found.
        by-place s T found (E.gone s ≡ false) (λ same now. ap E.gone same ∙ J.live c X is)
        (λ ne there. J.live s T there);
    each = λ s T found.
        by-place s T found (IsAt F s T)
        (λ same now. subst (IsAt F s) now (subst (λ i. IsAt F i Y) (sym same) own)) (λ ne there. other-at s T there);
    way = λ m u M U ne named found other.
        by-place m M found (PartIs m u M U M.manages)
        (λ same now.
        let apart : (c == u) ≡ false = ap (λ i. i == u) (sym same) ∙ ne in
        by-place u U other (PartIs m u M U M.manages)
        (λ place z. absurd (true≢false (sym (eq-eqb c u (sym place)) ∙ apart)))
        (λ far there.
        subst (λ (N : Stance). PartIs m u N U N.manages) now
        (subst (λ i. PartIs i u Y U Y.manages) (sym same)
        (to-me u U apart (named ∙ ap (λ i. Some (at i)) same) there))))
        (λ far there.
        by-place u U other (PartIs m u M U M.manages)
        (λ same now.
        subst (λ (V : Stance). PartIs m u M V M.manages) now
        (subst (λ i. PartIs m i M Y M.manages) (sym same)
        (of-me m M far named there)))
        (λ off is-u. J.way m u M U ne named there is-u));
  }
