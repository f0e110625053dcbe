-- How many live systems the message has still to come to, counted in places round.
use Rattle.grs_world.proofs.Common.{◌%◌, ◌+◌, ◌-◌, ◌<◌, ◌∙◌, ◌≡◌, ◌≤◌, ap, arith, cond, false, has, live_below, refl}
use Rattle.grs_world.proofs.Common.{suc, sym, zero, ℕ, ℕ_discrete}
use native.Mathlib.Decide.{dec_lt}
use Rattle.std.proofs.Math.Nat.{mod-eq_of_lt, add-mod_right}
use Rattle.grs_medium.proofs.Round.{came_round, under}
use Rattle.grs_world.proofs.message.LapsMessage.{the_way}

-- what a system counts
abbrev pub counts : ℕ → ℕ → ℕ
counts removed u = cond (has removed u) 0 1

-- how many live systems there are at the last so many places of a round of n from s on
abbrev pub still_ahead : ℕ → ℕ → ℕ → ℕ → ℕ
still_ahead removed n s zero = 0
still_ahead removed n s (suc r) = counts removed ((s + (n - suc r)) % n) + still_ahead removed n s r

module _ (removed n s : ℕ) (low : s < n) where
  -- one place more, and one system less below
  one_more : (r d : ℕ) → (s + (n - suc r)) % n ≡ d
      → still_ahead removed n s (suc r) + live_below removed d ≡ still_ahead removed n s r + live_below removed (suc d)
  one_more r d at = moved (counts removed ((s + (n - suc r)) % n)) (counts removed d) (ap (counts removed) at)
    where
      moved : (x y : ℕ) → x ≡ y
          → (x + still_ahead removed n s r) + live_below removed d
          ≡ still_ahead removed n s r + (live_below removed d + y)
      moved x y e = omega (arith, e)

  -- the last places are those of the systems below s
  last_places : (r d : ℕ) → r + d ≡ s → still_ahead removed n s r + live_below removed d ≡ live_below removed s
  last_places zero d e =
      let none : still_ahead removed n s 0 ≡ 0 = refl in
      let here : d ≡ s = omega (arith, e) in
      let same : live_below removed d ≡ live_below removed s = ap (live_below removed) here in
      omega (arith, none, same)
  last_places (suc r) d e =
      let way : s + (n - suc r) ≡ d + n = omega (arith, e, low) in
      let below : d < n = omega (arith, e, low) in
      let at : (s + (n - suc r)) % n ≡ d = ap (λ (x : ℕ). x % n) way ∙ add-mod_right d n ∙ mod-eq_of_lt below in
      one_more r d at ∙ last_places r (suc d) (omega (arith, e))

  -- the places before are those of the systems from s on
  first_places : (q d : ℕ) → q + d ≡ n → s ≤ d
      → still_ahead removed n s (q + s) + live_below removed d ≡ live_below removed s + live_below removed n
  first_places zero d e in_it =
      let all : still_ahead removed n s s + live_below removed 0 ≡ live_below removed s =
      last_places s 0 (omega arith) in
      let at : d ≡ n = omega (arith, e) in
      let same : live_below removed d ≡ live_below removed n = ap (live_below removed) at in
      let none : live_below removed 0 ≡ 0 = refl in
      let way : zero + s ≡ s = omega arith in
      let here : still_ahead removed n s (zero + s) ≡ still_ahead removed n s s = ap (still_ahead removed n s) way in
      omega (arith, all, same, none, here)
  first_places (suc q) d e in_it =
      let more : suc q + s ≡ suc (q + s) = omega arith in
      let way : s + (n - suc (q + s)) ≡ d = omega (arith, e, in_it) in
      let below : d < n = omega (arith, e) in
      let at : (s + (n - suc (q + s))) % n ≡ d = ap (λ (x : ℕ). x % n) way ∙ mod-eq_of_lt below in
      ap (λ (x : ℕ). still_ahead removed n s x + live_below removed d) more
      ∙ one_more (q + s) d at
      ∙ first_places q (suc d) (omega (arith, e)) (omega (arith, in_it))

  -- Once round there are as many as there are.
  pub whole_round : still_ahead removed n s n ≡ live_below removed n
  whole_round =
      let way : (n - s) + s ≡ n = omega (arith, low) in
      let all = first_places (n - s) s way (omega arith) in
      let same : still_ahead removed n s ((n - s) + s) ≡ still_ahead removed n s n = ap (still_ahead removed n s) way in
      omega (arith, all, same)

  fewer_ahead : (k r : ℕ) → r ≤ k → still_ahead removed n s r ≤ still_ahead removed n s k
  fewer_ahead zero r l =
      let none : r ≡ 0 = omega (arith, l) in
      let same : still_ahead removed n s r ≡ still_ahead removed n s 0 = ap (still_ahead removed n s) none in
      omega (arith, same)
  fewer_ahead (suc k) r l = go (ℕ_discrete r (suc k)) (λ h. fewer_ahead k r h)
    where
      more : (x : ℕ) → still_ahead removed n s r ≤ still_ahead removed n s k
          → still_ahead removed n s r ≤ x + still_ahead removed n s k
      more x h = omega (arith, h)

      go : Dec (r ≡ suc k) → (r ≤ k → still_ahead removed n s r ≤ still_ahead removed n s k)
          → still_ahead removed n s r ≤ still_ahead removed n s (suc k)
      go (yes e) rest =
          let same : still_ahead removed n s r ≡ still_ahead removed n s (suc k) = ap (still_ahead removed n s) e in
          omega (arith, same)
      go (no ne) rest = more (counts removed ((s + (n - suc k)) % n)) (rest (omega (arith, l, ne)))

  pub ahead_less : (p q : ℕ) → p ≤ q → q < n → still_ahead removed n s (n - q) ≤ still_ahead removed n s (n - p)
  ahead_less p q on inside = fewer_ahead (n - p) (n - q) (omega (arith, on, inside))

  -- A live system at a place counts, so behind it there are fewer.
  pub one_less : (p q c : ℕ) → p < q → q < n → (s + p) % n ≡ c → has removed c ≡ false
      → suc (still_ahead removed n s (n - q)) ≤ still_ahead removed n s (n - p)
  one_less p q c on inside at there =
      let r : ℕ = n - suc p in
      let here : n - p ≡ suc r = omega (arith, on, inside) in
      let place : s + (n - suc r) ≡ s + p = omega (arith, on, inside) in
      let counted : counts removed ((s + (n - suc r)) % n) ≡ 1 =
      ap (λ (x : ℕ). counts removed (x % n)) place ∙ (ap (counts removed) at ∙ ap (λ b. cond b 0 1) there) in
      let whole : still_ahead removed n s (n - p)
      ≡ counts removed ((s + (n - suc r)) % n) + still_ahead removed n s r = ap (still_ahead removed n s) here in
      let less : still_ahead removed n s (n - q) ≤ still_ahead removed n s r =
      fewer_ahead r (n - q) (omega (arith, on, inside)) in
      bound (still_ahead removed n s (n - q)) (still_ahead removed n s r) (still_ahead removed n s (n - p))
      (counts removed ((s + (n - suc r)) % n)) whole counted less
    where
      bound : (a b d x : ℕ) → d ≡ x + b → x ≡ 1 → a ≤ b → suc a ≤ d
      bound a b d x whole counted less = omega (arith, whole, counted, less)

  -- A live system at a place counts.
  pub one_there : (p c : ℕ) → p < n → (s + p) % n ≡ c → has removed c ≡ false → 0 < still_ahead removed n s (n - p)
  one_there p c inside at there =
      let r : ℕ = n - suc p in
      let here : n - p ≡ suc r = omega (arith, inside) in
      let place : s + (n - suc r) ≡ s + p = omega (arith, inside) in
      let counted : counts removed ((s + (n - suc r)) % n) ≡ 1 =
      ap (λ (x : ℕ). counts removed (x % n)) place ∙ (ap (counts removed) at ∙ ap (λ b. cond b 0 1) there) in
      let whole : still_ahead removed n s (n - p)
      ≡ counts removed ((s + (n - suc r)) % n) + still_ahead removed n s r = ap (still_ahead removed n s) here in
      bound (still_ahead removed n s r) (still_ahead removed n s (n - p))
      (counts removed ((s + (n - suc r)) % n)) whole counted
    where
      bound : (b d x : ℕ) → d ≡ x + b → x ≡ 1 → 0 < d
      bound b d x whole counted = omega (arith, whole, counted)

-- each system has a place in the round
pub place_of : (n s u : ℕ) → s < n → u < n → (k : ℕ) × (k < n) × ((s + k) % n ≡ u)
place_of n s u low in_it = go (dec_lt u s)
  where
    go : Dec (u < s) → (k : ℕ) × (k < n) × ((s + k) % n ≡ u)
    go (yes l) = (
      u + n - s,
      omega (arith, l, in_it, low),
      ap (λ (x : ℕ). x % n) (let w : s + (u + n - s) ≡ u + n = omega (arith, l, in_it, low) in w)
          ∙ add-mod_right u n
          ∙ mod-eq_of_lt in_it,
    )
    go (no far) = (
      u - s,
      omega (arith, far, in_it),
      ap (λ (x : ℕ). x % n) (let w : s + (u - s) ≡ u = omega (arith, far) in w) ∙ mod-eq_of_lt in_it,
    )

-- two places less than a round apart aren't those of one system
apart : (n s i j : ℕ) → 0 < n → i < j → j < i + n → (s + i) % n ≡ (s + j) % n → ⊥
apart n s i j some less near same =
    let h : ℕ = (s + i) % n in
    let back : (h + (j - i)) % n ≡ h = the_way n h s i j (omega (arith, less)) refl ∙ sym same in
    let full : j - i ≡ n =
    came_round n h (j - i) (under n (s + i) some) (omega (arith, less)) (omega (arith, near)) back in
    absurd (omega (arith, full, near, less))

pub same_place : (n s i j : ℕ) → 0 < n → i < n → j < n → (s + i) % n ≡ (s + j) % n → i ≡ j
same_place n s i j some low high same = go (dec_lt i j) (dec_lt j i)
  where
    go : Dec (i < j) → Dec (j < i) → i ≡ j
    go (yes l) z = absurd (apart n s i j some l (omega (arith, high)) same)
    go (no a) (yes l) = absurd (apart n s j i some l (omega (arith, low)) (sym same))
    go (no a) (no b) = omega (arith, a, b)
