-- The entries that stood in the message before a lap, and who has still to process one of them.
use Rattle.grs_world.proofs.Common.{[], ◌&&◌, ◌++◌, ◌<◌, ◌==◌, ◌||◌, ◌∙◌, ◌∷◌, ◌≡◌, ◌≢◌, ◌≤◌, and_parts, any_unseen, ap}
use Rattle.grs_world.proofs.Common.{arith, Bool, cleared, cond, false, false_by, filter, has, has-without_other}
use Rattle.grs_world.proofs.Common.{has-without_same, is_unseen, left_by, List, list_any, ltb-true, map, nat_lt, not}
use Rattle.grs_world.proofs.Common.{or_left, or_right, refl, Req, RingEntry, stamped, subst, suc, sym, SysId, true}
use Rattle.grs_world.proofs.Common.{true≢false, without, zero, ℕ, ℕ_discrete}
use Rattle.grs_wire.specs.Masks.{only}

-- whether a system has still to process an entry with a number below this one
abbrev pub waits_old : ℕ → ℕ → List RingEntry → Bool
waits_old b u [] = false
waits_old b u (x ∷ xs) = (nat_lt x.number b && has x.mask u) || waits_old b u xs

either : (a b : Bool) (P : Type 0) → (a ≡ true → P) → (b ≡ true → P) → (a || b) ≡ true → P
either true b P p q h = p refl
either false b P p q h = q h

-- who has still to process an old entry has an entry still to process
pub old_unseen : (b u : ℕ) (es : List RingEntry) → waits_old b u es ≡ true → any_unseen (record { 0 = u }) es ≡ true
unfolding any_unseen
old_unseen b u [] h = absurd (true≢false (sym h))
old_unseen b u (e ∷ es) h =
    either (nat_lt e.number b && has e.mask u) (waits_old b u es)
    (list_any (is_unseen (record { 0 = u })) (e ∷ es) ≡ true)
    (λ k. or_left (has e.mask u) (list_any (is_unseen (record { 0 = u })) es) (and_parts _ _ k).1)
    (λ k. or_right (has e.mask u) (list_any (is_unseen (record { 0 = u })) es) (old_unseen b u es k)) h

-- once c has left
pub old_cleared : (b u : ℕ) (c : SysId) (es : List RingEntry) → waits_old b u (cleared c es) ≡ true
    → (u ≢ c.0) × (waits_old b u es ≡ true)
unfolding cleared
old_cleared b u c [] h = absurd (true≢false (sym h))
old_cleared b u c (e ∷ es) h = go (not (e.mask == only c.0)) (old_cleared b u c es) h
  where
    Both : Type 0
    Both = (u ≢ c.0) × (waits_old b u (e ∷ es) ≡ true)

    rest : (waits_old b u (cleared c es) ≡ true → (u ≢ c.0) × (waits_old b u es ≡ true))
        → waits_old b u (cleared c es) ≡ true → Both
    rest more k = let r = more k in (r.0, or_right (nat_lt e.number b && has e.mask u) (waits_old b u es) r.1)

    head : (nat_lt e.number b && has (without e.mask c.0) u) ≡ true → Both
    head k =
        let parts = and_parts (nat_lt e.number b) (has (without e.mask c.0) u) k in
        let ne : u
        ≢ c.0 = λ same.
        true≢false (sym parts.1 ∙ (ap (has (without e.mask c.0)) same ∙ has-without_same e.mask c.0)) in
        let here : has e.mask u ≡ true = sym (has-without_other e.mask c.0 u ne) ∙ parts.1 in
        (ne, or_left (nat_lt e.number b && has e.mask u) (waits_old b u es) (rw (parts.0, here) refl))

    go : (k : Bool) → (waits_old b u (cleared c es) ≡ true → (u ≢ c.0) × (waits_old b u es ≡ true))
        → waits_old b u (map (left_by c)
        (cond k (e ∷ filter (λ x. not (x.mask == only c.0)) es) (filter (λ x. not (x.mask == only c.0)) es)))
        ≡ true
        → Both
    go true more k =
        either (nat_lt e.number b && has (without e.mask c.0) u) (waits_old b u (cleared c es)) Both head (rest more) k
    go false more k = rest more k

-- new entries are none
pub old_stamped : (b u number mask : ℕ) (c : SysId) (rs : List Req) → b ≤ number
    → waits_old b u (stamped number c mask rs) ≡ false
unfolding stamped
old_stamped b u number mask c [] l = refl
old_stamped b u number mask c (r ∷ rs) l =
    let new : nat_lt number b ≡ false =
    false_by (nat_lt number b) (λ h. absurd (let k : number < b = ltb-true number b h in omega (arith, k, l))) in
    ap (λ k. (k && has mask u) || waits_old b u (stamped (suc number) c mask rs)) new
    ∙ old_stamped b u (suc number) mask c rs (omega (arith, l))

pub old_joined : (b u : ℕ) (xs ys : List RingEntry) → waits_old b u ys ≡ false → waits_old b u (xs ++ ys) ≡ true
    → waits_old b u xs ≡ true
old_joined b u [] ys none h = absurd (true≢false (sym h ∙ none))
old_joined b u (x ∷ xs) ys none h =
    either (nat_lt x.number b && has x.mask u) (waits_old b u (xs ++ ys))
    (((nat_lt x.number b && has x.mask u) || waits_old b u xs) ≡ true)
    (λ k. or_left (nat_lt x.number b && has x.mask u) (waits_old b u xs) k)
    (λ k. or_right (nat_lt x.number b && has x.mask u) (waits_old b u xs) (old_joined b u xs ys none k)) h

-- Some system below a number passes a test, or none does.
pub data Search (test : ℕ → Bool) (n : ℕ) : Type 0 where
  somebody : (u : ℕ) → u < n → test u ≡ true → Search test n
  nobody : ((u : ℕ) → u < n → test u ≡ false) → Search test n

pub search_below : (test : ℕ → Bool) (n : ℕ) → Search test n
search_below test zero = nobody (λ u l. absurd (omega (arith, l)))
search_below test (suc n) = go (test n) refl (search_below test n)
  where
    go : (k : Bool) → test n ≡ k → Search test n → Search test (suc n)
    go true e rest = somebody n (omega arith) e
    go false e (somebody u l h) = somebody u (omega (arith, l)) h
    go false e (nobody none) = nobody (λ u l. at u l (ℕ_discrete u n))
      where
        at : (u : ℕ) → u < suc n → Dec (u ≡ n) → test u ≡ false
        at u l (yes same) = subst (λ (x : ℕ). test x ≡ false) (sym same) e
        at u l (no ne) = none u (omega (arith, l, ne))
