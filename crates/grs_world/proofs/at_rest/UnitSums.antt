-- Counts of units as sums: of what systems reserve, of what the tasks of one do, and by places.
use Rattle.grs_world.proofs.Common.{[], ◌&&◌, ◌++◌, ◌+◌, ◌-◌, ◌<◌, ◌==◌, ◌∙◌, ◌∷◌, ◌≡◌, ◌≢◌, and_parts, ap, arith, Bool}
use Rattle.grs_world.proofs.Common.{cond, eq-eqb, eqb-true, false, filter, filter-append, get_or, length, length-append}
use Rattle.grs_world.proofs.Common.{List, list_all, ltb-true, map, nat_lt, ne_eqb, new_task, NodeState, not, refl}
use Rattle.grs_world.proofs.Common.{slice_get, Some, subst, suc, sym, SysId, TaskState, true, units_of, zero, ℕ}
use Rattle.grs_world.specs.AtRest.{unit_count}
use Rattle.task_state.specs.Units.{counted, counting, counting_all, reserved_in, reserved_of, units_at}
use Rattle.grs_world.proofs.at_rest.Few.{below-all, length-parts}

-- ---- counts of units
abbrev pub occ : ℕ → List ℕ → ℕ
occ u us = length (filter (λ v. v == u) us)

pub occ-append : (u : ℕ) (xs ys : List ℕ) → occ u (xs ++ ys) ≡ occ u xs + occ u ys
occ-append u xs ys =
    ap (λ zs. length zs) (filter-append (λ v. v == u) xs ys)
    ∙ length-append (filter (λ v. v == u) xs) (filter (λ v. v == u) ys)

abbrev weight : ℕ → List (ℕ × ℕ) → ℕ
weight u [] = 0
weight u (c ∷ cs) = cond (c.0 == u) c.1 0 + weight u cs

weight-counting : (u v : ℕ) (cs : List (ℕ × ℕ)) → weight u (counting v cs) ≡ cond (v == u) 1 0 + weight u cs
weight-counting u v [] = refl
weight-counting u v (c ∷ cs) = go (nat_lt c.0 v) (v == c.0) refl (weight-counting u v cs)
  where
    same : v ≡ c.0 → (b : Bool) → (v == u) ≡ b
        → cond (v == u) (c.1 + 1) 0 + weight u cs ≡ cond (v == u) 1 0 + (cond (c.0 == u) c.1 0 + weight u cs)
    same e true f =
        let a : cond (v == u) (c.1 + 1) 0 ≡ c.1 + 1 = ap (λ b. cond b (c.1 + 1) 0) f in
        let d : ◌≡◌ {A = ℕ} (cond (v == u) 1 0) 1 = ap (λ b. cond b 1 0) f in
        let g : cond (c.0 == u) c.1 0 ≡ c.1 = ap (λ b. cond b c.1 0) (sym (ap (λ z. z == u) e) ∙ f) in
        omega (arith, a, d, g)
    same e false f =
        let a : cond (v == u) (c.1 + 1) 0 ≡ 0 = ap (λ b. cond b (c.1 + 1) 0) f in
        let d : ◌≡◌ {A = ℕ} (cond (v == u) 1 0) 0 = ap (λ b. cond b 1 0) f in
        let g : cond (c.0 == u) c.1 0 ≡ 0 = ap (λ b. cond b c.1 0) (sym (ap (λ z. z == u) e) ∙ f) in
        omega (arith, a, d, g)

    go : (a b : Bool) → (v == c.0) ≡ b → weight u (counting v cs) ≡ cond (v == u) 1 0 + weight u cs
        → weight u (cond a (c ∷ counting v cs) (cond b ((v, c.1 + 1) ∷ cs) ((v, 1) ∷ c ∷ cs)))
        ≡ cond (v == u) 1 0 + (cond (c.0 == u) c.1 0 + weight u cs)
    go true b e h = omega (arith, h)
    go false true e h = same (eqb-true v c.0 e) (v == u) refl
    go false false e h = refl

weight-all : (u : ℕ) (cs : List (ℕ × ℕ)) (us : List ℕ) → weight u (counting_all cs us) ≡ weight u cs + occ u us
weight-all u cs [] = omega arith
weight-all u cs (v ∷ us) = go (v == u) refl (weight-all u (counting v cs) us) (weight-counting u v cs)
  where
    go : (b : Bool) → (v == u) ≡ b → weight u (counting_all (counting v cs) us) ≡ weight u (counting v cs) + occ u us
        → weight u (counting v cs) ≡ cond (v == u) 1 0 + weight u cs →
        weight u (counting_all (counting v cs) us)
        ≡ weight u cs + length (cond (v == u) (v ∷ filter (λ z. z == u) us) (filter (λ z. z == u) us))
    go true e h k =
        let a : ◌≡◌ {A = ℕ} (cond (v == u) 1 0) 1 = ap (λ b. cond b 1 0) e in
        let d : length (cond (v == u) (v ∷ filter (λ z. z == u) us) (filter (λ z. z == u) us)) ≡ suc (occ u us) =
        ap (λ b. length (cond b (v ∷ filter (λ z. z == u) us) (filter (λ z. z == u) us))) e in
        omega (arith, h, k, a, d)
    go false e h k =
        let a : ◌≡◌ {A = ℕ} (cond (v == u) 1 0) 0 = ap (λ b. cond b 1 0) e in
        let d : length (cond (v == u) (v ∷ filter (λ z. z == u) us) (filter (λ z. z == u) us)) ≡ occ u us =
        ap (λ b. length (cond b (v ∷ filter (λ z. z == u) us) (filter (λ z. z == u) us))) e in
        omega (arith, h, k, a, d)

unit-map : (s z : SysId) (u : ℕ) (cs : List (ℕ × ℕ))
    → unit_count s u (map (λ c. (z, c.0, c.1)) cs) ≡ cond (z.0 == s.0) (weight u cs) 0
unit-map s z u [] = none (z.0 == s.0)
  where
    none : (b : Bool) → ◌≡◌ {A = ℕ} 0 (cond b 0 0)
    none true = refl
    none false = refl
unit-map s z u (c ∷ cs) = go (z.0 == s.0) (c.0 == u) (unit-map s z u cs)
  where
    go : (a b : Bool) → unit_count s u (map (λ k. (z, k.0, k.1)) cs) ≡ cond a (weight u cs) 0
        → cond (a && b) (c.1 + unit_count s u (map (λ k. (z, k.0, k.1)) cs))
        (unit_count s u (map (λ k. (z, k.0, k.1)) cs))
        ≡ cond a (cond b c.1 0 + weight u cs) 0
    go true true h = omega (arith, h)
    go true false h = omega (arith, h)
    go false b h = h

unit-append : (s : SysId) (u : ℕ) (xs ys : List (SysId × ℕ × ℕ))
    → unit_count s u (xs ++ ys) ≡ unit_count s u xs + unit_count s u ys
unit-append s u [] ys = omega arith
unit-append s u (x ∷ xs) ys = go ((x.0.0 == s.0) && (x.1 == u)) (unit-append s u xs ys)
  where
    go : (b : Bool) → unit_count s u (xs ++ ys) ≡ unit_count s u xs + unit_count s u ys
        → cond b (x.2 + unit_count s u (xs ++ ys)) (unit_count s u (xs ++ ys))
        ≡ cond b (x.2 + unit_count s u xs) (unit_count s u xs) + unit_count s u ys
    go true h = omega (arith, h)
    go false h = h

-- the units of one system are those of its tasks
at-system : (s z : SysId) (u : ℕ) (ts : List TaskState)
    → unit_count s u (units_at z ts) ≡ cond (z.0 == s.0) (occ u (reserved_of ts)) 0
at-system s z u ts =
    let w : weight u (counted (reserved_of ts)) ≡ occ u (reserved_of ts) =
    omega (arith, weight-all u [] (reserved_of ts)) in
    unit-map s z u (counted (reserved_of ts)) ∙ ap (λ n. cond (z.0 == s.0) n 0) w

-- nodes from number k on
none-before : (s : SysId) (u k : ℕ) (ns : List NodeState)
    → ((i : ℕ) (n : NodeState) → slice_get ns i ≡ Some n → n.tasks.system ≡ k + i) → s.0 < k
    → unit_count s u (units_of ns) ≡ 0
none-before s u k [] home l = refl
none-before s u k (n ∷ ns) home l =
    let at : n.tasks.system ≡ k + 0 = home 0 n refl in
    let apart : (n.tasks.system == s.0) ≡ false = ne_eqb n.tasks.system s.0 (λ e. absurd (omega (arith, e, at, l))) in
    let more = none-before s u (suc k) ns (λ i m f. let h = home (suc i) m f in omega (arith, h)) (omega (arith, l)) in
    unit-append s u (units_at (record { 0 = n.tasks.system }) n.tasks.tasks) (units_of ns)
    ∙ omega (
      arith,
      at-system s (record { 0 = n.tasks.system }) u n.tasks.tasks
          ∙ ap (λ b. cond b (occ u (reserved_of n.tasks.tasks)) 0) apart,
      more,
    )

pub units-found : (s : SysId) (u k i : ℕ) (ns : List NodeState) (n : NodeState)
    → ((j : ℕ) (m : NodeState) → slice_get ns j ≡ Some m → m.tasks.system ≡ k + j) → slice_get ns i ≡ Some n
    → s.0 ≡ k + i → unit_count s u (units_of ns) ≡ occ u (reserved_of n.tasks.tasks)
units-found s u k i [] n home at e = absurd (cc)
units-found s u k zero (m ∷ ns) n home at e =
    let same : m ≡ n = cc in
    let own : m.tasks.system ≡ k + 0 = home 0 m refl in
    let here : (m.tasks.system == s.0) ≡ true = eq-eqb m.tasks.system s.0 (own ∙ sym e) in
    let none = none-before s u (suc k) ns (λ j x f. let h = home (suc j) x f in omega (arith, h)) (omega (arith, e)) in
    unit-append s u (units_at (record { 0 = m.tasks.system }) m.tasks.tasks) (units_of ns)
    ∙ (omega (
      arith,
      at-system s (record { 0 = m.tasks.system }) u m.tasks.tasks
          ∙ ap (λ b. cond b (occ u (reserved_of m.tasks.tasks)) 0) here,
      none,
    )
    ∙ ap (λ (x : NodeState). occ u (reserved_of x.tasks.tasks)) same)
units-found s u k (suc i) (m ∷ ns) n home at e =
    let own : m.tasks.system ≡ k + 0 = home 0 m refl in
    let apart : (m.tasks.system == s.0) ≡ false = ne_eqb m.tasks.system s.0 (λ f. absurd (omega (arith, f, own, e))) in
    let more =
    units-found s u (suc k) i ns n (λ j x f. let h = home (suc j) x f in omega (arith, h)) at (omega (arith, e)) in
    unit-append s u (units_at (record { 0 = m.tasks.system }) m.tasks.tasks) (units_of ns)
    ∙ omega (
      arith,
      at-system s (record { 0 = m.tasks.system }) u m.tasks.tasks
          ∙ ap (λ b. cond b (occ u (reserved_of m.tasks.tasks)) 0) apart,
      more,
    )

-- ---- sums by places
abbrev sum_below : ℕ → (ℕ → ℕ) → ℕ
sum_below zero f = 0
sum_below (suc n) f = f n + sum_below n f

pub sum-same : (n : ℕ) (f g : ℕ → ℕ) → ((i : ℕ) → i < n → f i ≡ g i) → sum_below n f ≡ sum_below n g
sum-same zero f g h = refl
sum-same (suc n) f g h = omega (arith, h n (omega arith), sum-same n f g (λ i l. h i (omega (arith, l))))

sum-front : (n : ℕ) (f : ℕ → ℕ) → sum_below (suc n) f ≡ f 0 + sum_below n (λ i. f (suc i))
sum-front zero f = refl
sum-front (suc n) f = omega (arith, sum-front n f)

pub tasks-sum : (u : ℕ) (ts : List TaskState)
    → occ u (reserved_of ts) ≡ sum_below (length ts) (λ i. occ u (reserved_in (get_or ts i new_task).records))
tasks-sum u [] = refl
tasks-sum u (t ∷ ts) =
    occ-append u (reserved_in t.records) (reserved_of ts)
    ∙ omega (
      arith,
      tasks-sum u ts,
      sum-front (length ts) (λ i. occ u (reserved_in (get_or (t ∷ ts) i new_task).records)),
    )

-- those that pass, by classes
sub-class : {X : Type 0} (f : X → ℕ) (n i : ℕ) → i ≢ n → (xs : List X)
    → length (filter (λ x. f x == i) (filter (λ x. not (f x == n)) xs)) ≡ length (filter (λ x. f x == i) xs)
sub-class f n i ne [] = refl
sub-class f n i ne (x ∷ xs) = go (f x == n) refl (f x == i) refl (sub-class f n i ne xs)
  where
    go : (a : Bool) → (f x == n) ≡ a → (b : Bool) → (f x == i) ≡ b
        → length (filter (λ z. f z == i) (filter (λ z. not (f z == n)) xs)) ≡ length (filter (λ z. f z == i) xs) →
        length (filter (λ z. f z == i)
        (cond (not a) (x ∷ filter (λ z. not (f z == n)) xs) (filter (λ z. not (f z == n)) xs)))
        ≡ length (cond b (x ∷ filter (λ z. f z == i) xs) (filter (λ z. f z == i) xs))
    go true e true g h = absurd (ne (sym (eqb-true (f x) i g) ∙ eqb-true (f x) n e))
    go true e false g h = h
    go false e true g h =
        subst (λ c.
        length (cond c (x ∷ filter (λ z. f z == i) (filter (λ z. not (f z == n)) xs))
        (filter (λ z. f z == i) (filter (λ z. not (f z == n)) xs)))
        ≡ suc (length (filter (λ z. f z == i) xs)))
        (sym g) (ap suc h)
    go false e false g h =
        subst (λ c.
        length (cond c (x ∷ filter (λ z. f z == i) (filter (λ z. not (f z == n)) xs))
        (filter (λ z. f z == i) (filter (λ z. not (f z == n)) xs)))
        ≡ length (filter (λ z. f z == i) xs))
        (sym g) h

pub classes : {X : Type 0} (f : X → ℕ) (n : ℕ) (xs : List X) → list_all (λ x. nat_lt (f x) n) xs ≡ true
    → length xs ≡ sum_below n (λ i. length (filter (λ x. f x == i) xs))
classes f zero [] all = refl
classes f zero (x ∷ xs) all =
    absurd (let l : f x < 0 = ltb-true (f x) 0 (and_parts (nat_lt (f x) 0) (list_all (λ z. nat_lt (f z) 0) xs) all).0 in
    omega (arith, l))
classes f (suc n) xs all =
    let rest = filter (λ x. not (f x == n)) xs in
    let h : length rest ≡ sum_below n (λ i. length (filter (λ x. f x == i) rest)) =
    classes f n rest (below-all f n xs all) in
    let same : sum_below n (λ i. length (filter (λ x. f x == i) rest))
    ≡ sum_below n (λ i. length (filter (λ x. f x == i) xs)) =
    sum-same n _ _ (λ i l. sub-class f n i (λ e. absurd (omega (arith, e, l))) xs) in
    let parts = length-parts (λ x. f x == n) xs in
    omega (arith, h, same, parts)
