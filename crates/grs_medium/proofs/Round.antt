-- How far round the message has gone, counted in places from a system on, and to whom it comes next.
use Rattle.std.proofs.Common.{ℕ, zero, suc, ◌≡◌, ◌≢◌, ◌+◌, ◌-◌, ◌%◌, ◌<◌, ◌≤◌, Bool, true, false, cond, List, [], ◌∷◌}
use Rattle.std.proofs.Common.{map, Option, Some, refl, sym, ap, ◌∙◌, subst, arith}
use Rattle.std.specs.Prelude.{find}
use Rattle.std.specs.List.{range_with_len}
use Rattle.std.proofs.Math.Nat.{mod-eq_of_lt, mod-lt, add-mod_right}
use native.Mathlib.Decide.{dec_lt}
use Rattle.grs_base.specs.declared.resource.SysId.{SysId}
use Rattle.rsa_message.specs.Message.{first_after}

-- The message, which stands at `here`, has gone `gone` places since it left `start`, and comes to `there` when it has
-- gone `whole` places, which is once round at most.
pub record Ahead (systems start here there : ℕ) : Type 0 where
  pub gone : ℕ
  pub whole : ℕ
  pub left : 0 < gone
  pub yet : gone ≤ whole
  pub once : whole ≤ systems
  pub stands : (start + gone) % systems ≡ here
  pub comes : (start + whole) % systems ≡ there

-- ---- places round
pub under : (n x : ℕ) → 0 < n → x % n < n
under n x some = mod-lt x some

-- Whoever comes to where it was has gone once round.
pub came_round : (n s k : ℕ) → s < n → 0 < k → k ≤ n → (s + k) % n ≡ s → k ≡ n
came_round n s k low some most same = go (dec_lt (s + k) n)
  where
    go : Dec ((s + k) < n) → k ≡ n
    go (yes l) = let e : (s + k) % n ≡ s + k = mod-eq_of_lt l in absurd (omega arith)
    go (no far) =
        let back : (s + k) % n ≡ (s + k - n) % n =
        ap (λ (x : ℕ). x % n) (let w : s + k ≡ (s + k - n) + n = omega arith in w) ∙ add-mod_right (s + k - n) n in
        let e : (s + k - n) % n ≡ s + k - n = mod-eq_of_lt (omega arith) in
        omega arith

-- The message has come home only when it has gone once round.
pub home : (n s u : ℕ) → Ahead n s s u → u ≡ s
home n s u a =
    let some : 0 < n = omega (arith, a.left, a.yet, a.once) in
    let low : s < n = subst (λ (x : ℕ). x < n) a.stands (under n (s + a.gone) some) in
    let full : a.gone ≡ n = came_round n s a.gone low a.left (omega (arith, a.yet, a.once)) a.stands in
    let end : a.whole ≡ a.gone = omega (arith, a.yet, a.once) in
    sym a.comes ∙ ap (λ (x : ℕ). (s + x) % n) end ∙ a.stands

pub inside_round : (n s h u : ℕ) → Ahead n s h u → u < n
inside_round n s h u a = subst (λ (x : ℕ). x < n) a.comes (under n (s + a.whole) (omega (arith, a.left, a.yet, a.once)))

-- Each system is some places after another.
pub after_some : (n c u : ℕ) → c < n → u < n → (k : ℕ) × (0 < k) × (k ≤ n) × ((c + k) % n ≡ u)
after_some n c u low in_it = go (dec_lt c u)
  where
    go : Dec (c < u) → (k : ℕ) × (0 < k) × (k ≤ n) × ((c + k) % n ≡ u)
    go (yes l) = (
      u - c,
      omega arith,
      omega arith,
      ap (λ (x : ℕ). x % n) (let w : c + (u - c) ≡ u = omega arith in w) ∙ mod-eq_of_lt in_it,
    )
    go (no far) = (
      u + n - c,
      omega arith,
      omega arith,
      ap (λ (x : ℕ). x % n) (let w : c + (u + n - c) ≡ u + n = omega arith in w)
          ∙ add-mod_right u n
          ∙ mod-eq_of_lt in_it,
    )

-- ---- the first that passes a test
-- One that passes isn't passed over.
found : (test : SysId → Bool) (g : ℕ → SysId) (k n i : ℕ) → k ≤ i → i < k + n → test (g i) ≡ true
    → (j : ℕ) × (k ≤ j) × (j ≤ i) × (find test (map g (range_with_len k n)) ≡ Some (g j))
found test g k zero i from to passes = absurd (omega arith)
found test g k (suc n) i from to passes =
    go (test (g k)) refl (λ past. found test g (k + 1) n i past (omega arith) passes)
  where
    Found : ℕ → Option SysId → Type 0
    Found low first = (j : ℕ) × (low ≤ j) × (j ≤ i) × (first ≡ Some (g j))

    go : (b : Bool) → test (g k) ≡ b → (k + 1 ≤ i → Found (k + 1) (find test (map g (range_with_len (k + 1) n))))
        → Found k (cond (test (g k)) (Some (g k)) (find test (map g (range_with_len (k + 1) n))))
    go true e on = (k, omega arith, from, rw e refl)
    go false e on =
        let other : k
        ≢ i = λ same. let clash : test (g i) ≡ false = subst (λ (x : ℕ). test (g x) ≡ false) same e in absurd cc in
        let r = on (omega arith) in
        (r.0, omega (arith, r.1), r.2, rw e r.3)

pub first_found : (test : SysId → Bool) (n : ℕ) (c : SysId) (i : ℕ) → 0 < i → i ≤ n
    → test (record { 0 = (c.0 + i) % n }) ≡ true
    → (j : ℕ) × (0 < j) × (j ≤ i) × (first_after n c test ≡ Some (record { 0 = (c.0 + j) % n }))
unfolding first_after
first_found test n c i from to passes =
    found test (λ k. record { 0 = (c.0 + k) % n }) 1 n i (omega arith) (omega arith) passes

-- It is one of the systems.
found_inside : (test : SysId → Bool) (n c : ℕ) (ks : List ℕ) (h : SysId) → 0 < n
    → find test (map (λ k. record { 0 = (c + k) % n }) ks) ≡ Some h → h.0 < n
found_inside test n c [] h some e = absurd cc
found_inside test n c (k ∷ ks) h some e = go (test (record { 0 = (c + k) % n })) (found_inside test n c ks h some) e
  where
    go : (b : Bool) → (find test (map (λ k. record { 0 = (c + k) % n }) ks) ≡ Some h → h.0 < n)
        → cond b (Some (record { 0 = (c + k) % n })) (find test (map (λ k. record { 0 = (c + k) % n }) ks)) ≡ Some h
        → h.0 < n
    go true on is =
        let same : record { 0 = (c + k) % n } ≡ h = cc in subst (λ (x : SysId). x.0 < n) same (under n (c + k) some)
    go false on is = on is

pub first_inside : (test : SysId → Bool) (n : ℕ) (c h : SysId) → 0 < n → first_after n c test ≡ Some h → h.0 < n
unfolding first_after
first_inside test n c h some e = found_inside test n c.0 (range_with_len 1 n) h some e
