-- The element that is told first, from the marks.
use Rattle.std.proofs.Common.{◌≡◌, ◌<◌, ◌≤◌, ◌+◌, ℕ, zero, suc, Bool, true, false, cond, ◌||◌, List, [], ◌∷◌, length}
use Rattle.std.proofs.Common.{drop, Option, Some, None, is_some, refl, ap, sym, ◌∙◌, subst, arith}
use Rattle.std.specs.Prelude.{slice_get, ◌==◌, nat_lt, IfSome, option_map}
use Rattle.std.specs.Map.{lookup}
use Rattle.std.specs.Cmp.{tied_itself}
use Rattle.std.specs.Ordering.{is_lt, ordering_reverse}
use Rattle.std.specs.declared.cmp.Ordering.{Ordering}
use Rattle.std.specs.declared.cmp.Ordering.TheVariants.{Less, Equal, Greater}
use Rattle.std.proofs.lemmas.Bool.{ltb-true, ltb-false, ne_eqb}
use Rattle.std.proofs.lemmas.Bool.Decides.{nat_tests}
use Rattle.grs_base.specs.ResOrder.{res_order}
use Rattle.grs_base.specs.Same.{same_res}
use Rattle.grs_base.specs.Lists.{has_task}
use Rattle.grs_base.specs.State.{State, list_of}
use Rattle.grs_base.specs.declared.resource.Elem.{Elem}
use Rattle.grs_base.specs.declared.resource.Res.{Res}
use Rattle.grs_base.specs.declared.resource.TaskId.{TaskId}
use Rattle.grs_base.proofs.OrderLaws.{res_total, res_order-IsAntisymmetric}
use Rattle.grs_base.proofs.SameLaws.{same_res-exact, same_res-itself, same_task-exact, same_task-itself}
use Rattle.contention_mgr.specs.Manager.{Ranked, is_untold, any_untold_in, sooner, first_untold, owner_of}
use Rattle.contention_mgr.specs.Elements.{holds}
use Rattle.contention_mgr.specs.Marks.{same_spot, mark_at, mark_under, mark_in, numbered_from, ranked, ranked_all}
use Rattle.contention_mgr.specs.Marks.{AreMarked}
use Rattle.contention_mgr.specs.Untold.{is_to_tell, sooner_names, sooner_number, better_of, best_with, least_from}
use Rattle.contention_mgr.specs.Untold.{first_to_tell}
use Rattle.contention_mgr.specs.declared.marks.Mark.{Mark}
use Rattle.contention_mgr.specs.declared.marks.Spot.{Spot}
use Rattle.contention_mgr.proofs.ItemLemmas.{Marking, holds-list}

pub by_cases : {P : Type 0} (b : Bool) → (b ≡ true → P) → (b ≡ false → P) → P
by_cases true yes_it no_it = yes_it refl
by_cases false yes_it no_it = no_it refl

-- ---- the order of names
pub lt_is : (o : Ordering) → is_lt o ≡ true → o ≡ Less
lt_is Less h = refl
lt_is Equal h = cc
lt_is Greater h = cc

sooner-trans : (a b c : Option (Res × ℕ)) → sooner_names a b ≡ true → sooner_names b c ≡ true → sooner_names a c ≡ true
sooner-trans None b c h k = cc
sooner-trans (Some p) None c h k = cc
sooner-trans (Some p) (Some q) None h k = cc
sooner-trans (Some p) (Some q) (Some r) h k =
    ap is_lt (res_total.trans p.0 q.0 r.0 (lt_is (res_order p.0 q.0) h) (lt_is (res_order q.0 r.0) k))

sooner-itself : (a : Option (Res × ℕ)) → sooner_names a a ≡ false
sooner-itself None = refl
sooner-itself (Some p) = ap is_lt (tied_itself res_total p.0)

-- one that isn't sooner than another isn't sooner than one before that
not-sooner : (a b c : Option (Res × ℕ)) → sooner_names b c ≡ true → sooner_names a c ≡ false → sooner_names a b ≡ false
not-sooner a b c h k = by_cases (sooner_names a b) (λ e. absurd (let t = sooner-trans a b c e h in cc)) (λ e. e)

-- ---- the least number
-- the best number so far isn't after what it was
abbrev NotAfter : List (Res × ℕ) → ℕ → Option ℕ → Type 0
NotAfter names n o = (k : ℕ) × (o ≡ Some k) × (sooner_number names n k ≡ false)

not_after-better : (names : List (Res × ℕ)) (n k j : ℕ) → sooner_number names n k ≡ false
    → NotAfter names n (Some (better_of names (Some k) j))
not_after-better names n k j h = by_cases (sooner_number names j k)
    (λ e. (
      j,
      ap (λ (b : Bool). Some (cond b j k)) e,
      not-sooner (slice_get names n) (slice_get names j) (slice_get names k) e h,
    ))
    (λ e. (k, ap (λ (b : Bool). Some (cond b j k)) e, h))

not_after-with : (home : ℕ) (names : List (Res × ℕ)) (n k : ℕ) (e : Spot × Mark) → sooner_number names n k ≡ false
    → NotAfter names n (best_with home names (Some k) e)
not_after-with home names n k e h = go (is_to_tell home e.0.task (Some e.1))
  where
    go : (b : Bool) → NotAfter names n (cond b (Some (better_of names (Some k) e.0.number)) (Some k))
    go true = not_after-better names n k e.0.number h
    go false = (k, refl, h)

not_after-from : (home : ℕ) (names : List (Res × ℕ)) (n : ℕ) (best : Option ℕ) (es : List (Spot × Mark))
    → NotAfter names n best → NotAfter names n (least_from home names best es)
not_after-from home names n best [] h = h
not_after-from home names n best (e ∷ es) h =
    not_after-from home names n (best_with home names best e) es
    (subst (λ (o : Option ℕ). NotAfter names n (best_with home names o e)) (sym h.1)
    (not_after-with home names n h.0 e h.2))

better-itself : (names : List (Res × ℕ)) (best : Option ℕ) (j : ℕ) → NotAfter names j (Some (better_of names best j))
better-itself names None j = (j, refl, sooner-itself (slice_get names j))
better-itself names (Some k) j = by_cases (sooner_number names j k)
    (λ e. (j, ap (λ (b : Bool). Some (cond b j k)) e, sooner-itself (slice_get names j)))
    (λ e. (k, ap (λ (b : Bool). Some (cond b j k)) e, e))

-- no mark that is to be told is sooner than the least
pub least-first : (home : ℕ) (names : List (Res × ℕ)) (best : Option ℕ) (es : List (Spot × Mark)) (s : Spot)
    → is_to_tell home s.task (lookup (same_spot s) es) ≡ true → NotAfter names s.number (least_from home names best es)
least-first home names best [] s h = cc
least-first home names best (e ∷ es) s h = by_cases (same_spot s e.0)
    (λ i. here (same_spot-exact s e.0 i) i)
    (λ i.
    least-first home names (best_with home names best e) es s
    (subst (λ (b : Bool). is_to_tell home s.task (cond b (Some e.1) (lookup (same_spot s) es)) ≡ true) i h))
  where
    same_spot-exact : (a b : Spot) → same_spot a b ≡ true → a ≡ b
    same_spot-exact a b i = grind (arith, nat_tests, i, same_task-exact a.task b.task)

    here : s ≡ e.0 → same_spot s e.0 ≡ true
        → NotAfter names s.number (least_from home names (best_with home names best e) es)
    here is i =
        let tells : is_to_tell home s.task (Some e.1) ≡ true =
        subst (λ (b : Bool). is_to_tell home s.task (cond b (Some e.1) (lookup (same_spot s) es)) ≡ true) i h in
        let told : is_to_tell home e.0.task (Some e.1) ≡ true =
        subst (λ (x : Spot). is_to_tell home x.task (Some e.1) ≡ true) is tells in
        subst (λ (x : Spot). NotAfter names x.number (least_from home names (best_with home names best e) es)) (sym is)
        (not_after-from home names e.0.number (best_with home names best e) es
        (subst (λ (b : Bool). NotAfter names e.0.number (cond b (Some (better_of names best e.0.number)) best))
        (sym told) (better-itself names best e.0.number)))

-- ---- the first of the elements

pub first-none : (home : ℕ) (f : Marking) → ((r : Res) (t : TaskId) → is_to_tell home t (f r t) ≡ false) → (s : State)
    → first_untold home (ranked_all f s) ≡ None
first-none home f none [] = refl
first-none home f none (h ∷ hs) =
    ap (λ (b : Bool).
    cond b (Some (sooner (ranked f h) (first_untold home (ranked_all f hs)))) (first_untold home (ranked_all f hs)))
    (none h.0 h.1.task)
    ∙ first-none home f none hs

-- one that is found is to be told
abbrev Tells : ℕ → Marking → Ranked → Type 0
Tells home f x = is_to_tell home x.elem.task (f x.res x.elem.task) ≡ true

tells-sooner : (home : ℕ) (f : Marking) (e x : Ranked) (o : Option Ranked) → Tells home f e
    → (o ≡ Some x → Tells home f x) → Some (sooner e o) ≡ Some x → Tells home f x
tells-sooner home f e x None b rest k = let one : e ≡ x = cc in subst (Tells home f) one b
tells-sooner home f e x (Some y) b rest k = go (is_lt (res_order y.res e.res)) k
  where
    go : (c : Bool) → Some (cond c y e) ≡ Some x → Tells home f x
    go true i = rest i
    go false i = let one : e ≡ x = cc in subst (Tells home f) one b

found-tells : (home : ℕ) (f : Marking) (s : State) (x : Ranked) → first_untold home (ranked_all f s) ≡ Some x
    → Tells home f x
found-tells home f [] x h = cc
found-tells home f (e ∷ es) x h = by_cases (is_to_tell home e.1.task (f e.0 e.1.task))
    (λ b.
    tells-sooner home f (ranked f e) x (first_untold home (ranked_all f es)) b (found-tells home f es x)
    (subst (λ (c : Bool).
    cond c (Some (sooner (ranked f e) (first_untold home (ranked_all f es)))) (first_untold home (ranked_all f es))
    ≡ Some x)
    b h))
    (λ b.
    found-tells home f es x (subst (λ (c : Bool).
    cond c (Some (sooner (ranked f e) (first_untold home (ranked_all f es)))) (first_untold home (ranked_all f es))
    ≡ Some x)
    b h))

reverse-lt : (o : Ordering) → is_lt o ≡ false → (o ≡ Equal → ⊥) → is_lt (ordering_reverse o) ≡ true
reverse-lt Less h k = cc
reverse-lt Equal h k = absurd (k refl)
reverse-lt Greater h k = refl

-- of two resources one is shown before the other
shown-before : (a b : Res) → is_lt (res_order a b) ≡ false → same_res b a ≡ false → is_lt (res_order b a) ≡ true
shown-before a b h apart =
    ap is_lt (res_total.antisymm b a)
    ∙ reverse-lt (res_order a b) h (λ e. let one : a ≡ b = res_order-IsAntisymmetric a b e in differ one)
  where
    differ : a ≡ b → ⊥
    differ i =
        let itself = same_res-itself b in
        let other : same_res b b ≡ false = subst (λ (x : Res). same_res b x ≡ false) i apart in
        cc

abbrev Finds : ℕ → Marking → State → Res → TaskId → Type 0
Finds home f s r t = (x : Ranked) × (first_untold home (ranked_all f s) ≡ Some x) × (x.res ≡ r) × (x.elem.task ≡ t)

-- the first on the least resource is the first of all
abbrev IsLeast : ℕ → Marking → Res → Type 0
IsLeast home f r = (p : Res) (u : TaskId) → is_to_tell home u (f p u) ≡ true → is_lt (res_order p r) ≡ false

module _ (home : ℕ) (f : Marking) (r : Res) (least : IsLeast home f r) (e : Res × Elem) (es : State) (t : TaskId) where
  abbrev chosen : Bool → Option Ranked
  chosen b =
      cond b (Some (sooner (ranked f e) (first_untold home (ranked_all f es)))) (first_untold home (ranked_all f es))

  not_sooner : (o : Option Ranked) → first_untold home (ranked_all f es) ≡ o → e.0 ≡ r
      → sooner (ranked f e) o ≡ ranked f e
  not_sooner None o i = refl
  not_sooner (Some y) o i =
      ap (λ (c : Bool). cond c y (ranked f e)) (subst (λ (p : Res). is_lt (res_order y.res p) ≡ false) (sym i)
      (least y.res y.elem.task (found-tells home f es y o)))

  -- the list of the resource without the element
  here_is : same_res r e.0 ≡ true
      → first_to_tell home f r (list_of (e ∷ es) r)
      ≡ cond (is_to_tell home e.1.task (f r e.1.task)) (Some e.1.task) (first_to_tell home f r (list_of es r))
  here_is i = ap (λ (c : Bool). first_to_tell home f r (cond c (e.1 ∷ list_of es r) (list_of es r))) i

  there_is : same_res r e.0 ≡ false
      → first_to_tell home f r (list_of (e ∷ es) r) ≡ first_to_tell home f r (list_of es r)
  there_is i = ap (λ (c : Bool). first_to_tell home f r (cond c (e.1 ∷ list_of es r) (list_of es r))) i

  at_r : (b : Bool) → same_res r e.0 ≡ true → is_to_tell home e.1.task (f e.0 e.1.task) ≡ b
      → is_to_tell home e.1.task (f r e.1.task) ≡ b
  at_r b i h = ap (λ (p : Res). is_to_tell home e.1.task (f p e.1.task)) (same_res-exact r e.0 i) ∙ h

  tells_here : is_to_tell home e.1.task (f e.0 e.1.task) ≡ true → same_res r e.0 ≡ true
      → first_to_tell home f r (list_of (e ∷ es) r) ≡ Some t → Finds home f (e ∷ es) r t
  tells_here b i h =
      let is : r ≡ e.0 = same_res-exact r e.0 i in
      let got : Some e.1.task ≡ Some t =
      sym (ap (λ (c : Bool). cond c (Some e.1.task) (first_to_tell home f r (list_of es r))) (at_r true i b))
      ∙ sym (here_is i)
      ∙ h in
      let same : e.1.task ≡ t = cc in (
        ranked f e,
        ap chosen b ∙ ap (λ (y : Ranked). Some y) (not_sooner (first_untold home (ranked_all f es)) refl (sym is)),
        sym is,
        same,
      )

  tells_there : is_to_tell home e.1.task (f e.0 e.1.task) ≡ true → same_res r e.0 ≡ false → Finds home f es r t
      → Finds home f (e ∷ es) r t
  tells_there b i found =
      let before : is_lt (res_order found.0.res e.0) ≡ true =
      ap (λ (p : Res). is_lt (res_order p e.0)) found.2 ∙ shown-before e.0 r (least e.0 e.1.task b) i in (
        found.0,
        ap chosen b
            ∙ ap (λ (o : Option Ranked). Some (sooner (ranked f e) o)) found.1
            ∙ ap (λ (c : Bool). Some (cond c found.0 (ranked f e))) before,
        found.2,
        found.3,
      )

  skips : is_to_tell home e.1.task (f e.0 e.1.task) ≡ false → Finds home f es r t → Finds home f (e ∷ es) r t
  skips b found = (found.0, ap chosen b ∙ found.1, found.2, found.3)

  skipped : is_to_tell home e.1.task (f e.0 e.1.task) ≡ false → first_to_tell home f r (list_of (e ∷ es) r) ≡ Some t
      → first_to_tell home f r (list_of es r) ≡ Some t
  skipped b h = by_cases (same_res r e.0)
      (λ i.
      sym (ap (λ (c : Bool). cond c (Some e.1.task) (first_to_tell home f r (list_of es r))) (at_r false i b))
      ∙ sym (here_is i)
      ∙ h)
      (λ i. sym (there_is i) ∙ h)

pub first-at : (home : ℕ) (f : Marking) (r : Res) → IsLeast home f r → (s : State) (t : TaskId)
    → first_to_tell home f r (list_of s r) ≡ Some t → Finds home f s r t
first-at home f r least [] t h = cc
first-at home f r least (e ∷ es) t h = by_cases (is_to_tell home e.1.task (f e.0 e.1.task))
    (λ b.
    by_cases (same_res r e.0) (λ i. tells_here home f r least e es t b i h)
    (λ i.
    tells_there home f r least e es t b i (first-at home f r least es t (sym (there_is home f r least e es t i) ∙ h))))
    (λ b. skips home f r least e es t b (first-at home f r least es t (skipped home f r least e es t b h)))

-- there is one on a resource where a mark is to be told
finds-one : (home : ℕ) (f : Marking) (r : Res) (t : TaskId) → is_to_tell home t (f r t) ≡ true → (es : List Elem)
    → has_task es t ≡ true → first_to_tell home f r es ≡ None → ⊥
finds-one home f r t tells [] has none = cc
finds-one home f r t tells (e ∷ es) has none =
    grind (arith, tells, has, none, same_task-exact t e.task, finds-one home f r t tells es)

pub some-on : (home : ℕ) (f : Marking) (s : State) (r : Res) (t : TaskId) → AreMarked f s
    → is_to_tell home t (f r t) ≡ true → first_to_tell home f r (list_of s r) ≡ None → ⊥
some-on home f s r t are tells none =
    finds-one home f r t tells (list_of s r) (sym (holds-list s r t) ∙ sym (are r t) ∙ has (f r t) tells) none
  where
    has : (o : Option Mark) → is_to_tell home t o ≡ true → is_some o ≡ true
    has None h = cc
    has (Some m) h = refl

-- whether one is found is whether one is to be told
pub first-any : (home : ℕ) (xs : List Ranked) → is_some (first_untold home xs) ≡ any_untold_in home xs
first-any home [] = refl
first-any home (x ∷ xs) = go (is_untold home x) (first-any home xs)
  where
    go : (b : Bool) → is_some (first_untold home xs) ≡ any_untold_in home xs
        → is_some (cond b (Some (sooner x (first_untold home xs))) (first_untold home xs))
        ≡ (b || any_untold_in home xs)
    go true rest = refl
    go false rest = rest

-- one that is found stands among the elements
pub first-untold : (home : ℕ) (xs : List Ranked) (x : Ranked) → first_untold home xs ≡ Some x
    → (i : ℕ) × (slice_get xs i ≡ Some x) × (is_untold home x ≡ true)
first-untold home [] x h = cc
first-untold home (e ∷ xs) x h = by_cases (is_untold home e)
    (λ b.
    chosen b (first_untold home xs) (first-untold home xs x)
    (subst (λ (c : Bool). cond c (Some (sooner e (first_untold home xs))) (first_untold home xs) ≡ Some x) b h))
    (λ b.
    behind (first-untold home xs x
    (subst (λ (c : Bool). cond c (Some (sooner e (first_untold home xs))) (first_untold home xs) ≡ Some x) b h)))
  where
    behind : (i : ℕ) × (slice_get xs i ≡ Some x) × (is_untold home x ≡ true)
        → (i : ℕ) × (slice_get (e ∷ xs) i ≡ Some x) × (is_untold home x ≡ true)
    behind found = (suc found.0, found.1, found.2)

    here : is_untold home e ≡ true → e ≡ x → (i : ℕ) × (slice_get (e ∷ xs) i ≡ Some x) × (is_untold home x ≡ true)
    here b is = (zero, ap (λ (y : Ranked). Some y) is, subst (λ (y : Ranked). is_untold home y ≡ true) is b)

    chosen : is_untold home e ≡ true → (o : Option Ranked)
        → (o ≡ Some x → (i : ℕ) × (slice_get xs i ≡ Some x) × (is_untold home x ≡ true)) → Some (sooner e o) ≡ Some x
        → (i : ℕ) × (slice_get (e ∷ xs) i ≡ Some x) × (is_untold home x ≡ true)
    chosen b None rest k = let one : e ≡ x = cc in here b one
    chosen b (Some y) rest k = go (is_lt (res_order y.res e.res)) k
      where
        go : (c : Bool) → Some (cond c y e) ≡ Some x
            → (i : ℕ) × (slice_get (e ∷ xs) i ≡ Some x) × (is_untold home x ≡ true)
        go true j = behind (rest j)
        go false j = let one : e ≡ x = cc in here b one

-- ---- numbers and names
pub number-at : (k : ℕ) (es : List (Res × ℕ)) (i : ℕ) (e : Res × ℕ) → numbered_from k es ≡ true
    → slice_get es i ≡ Some e → e.1 ≡ k + i
number-at k [] i e h g = cc
number-at k (x ∷ es) zero e h g = grind (arith, nat_tests, h, g)
number-at k (x ∷ es) (suc i) e h g = let rest = number-at (k + 1) es i e (grind (arith, h)) g in omega (arith, rest)

number-found : (k : ℕ) (es : List (Res × ℕ)) (p : Res) (n : ℕ) → numbered_from k es ≡ true
    → lookup (same_res p) es ≡ Some n → (i : ℕ) × (n ≡ k + i) × (slice_get es i ≡ Some (p, n))
number-found k [] p n h e = cc
number-found k (x ∷ es) p n h e = by_cases (same_res p x.0)
    (λ b. here (same_res-exact p x.0 b) (subst (λ (c : Bool). cond c (Some x.1) (lookup (same_res p) es) ≡ Some n) b e))
    (λ b.
    let rest =
    number-found (k + 1) es p n (grind (arith, h))
    (subst (λ (c : Bool). cond c (Some x.1) (lookup (same_res p) es) ≡ Some n) b e) in
    (suc rest.0, omega (arith, rest.1), rest.2))
  where
    here : p ≡ x.0 → Some x.1 ≡ Some n → (i : ℕ) × (n ≡ k + i) × (slice_get (x ∷ es) i ≡ Some (p, n))
    here is got =
        let one : x.1 ≡ n = cc in
        let first : x.1 ≡ k = grind (arith, nat_tests, h) in
        (zero, omega (arith, one, first), (λ j. Some (sym is j, one j)))

-- where no number is found, none is to be told
pub none-least : (home : ℕ) (names : List (Res × ℕ)) (ms : List (Spot × Mark)) → least_from home names None ms ≡ None
    → (r : Res) (t : TaskId) → is_to_tell home t (mark_in names ms r t) ≡ false
none-least home names ms none r t = go (lookup (same_res r) names)
  where
    go : (o : Option ℕ) → is_to_tell home t (mark_under (mark_at ms) o t) ≡ false
    go None = refl
    go (Some n) = by_cases (is_to_tell home t (mark_at ms n t))
        (λ b. let found = least-first home names None ms (record { number = n; task = t }) b in
        absurd (let i = sym none ∙ found.1 in cc))
        (λ b. b)

-- the resource of the least number is shown before all others that are to be told
pub first-least : (home : ℕ) (names : List (Res × ℕ)) (ms : List (Spot × Mark)) (k : ℕ) (r : Res) (v : ℕ)
    → numbered_from 0 names ≡ true → least_from home names None ms ≡ Some k → slice_get names k ≡ Some (r, v)
    → (p : Res) (t : TaskId) → is_to_tell home t (mark_in names ms p t) ≡ true → is_lt (res_order p r) ≡ false
first-least home names ms k r v h least at p t tells = go (lookup (same_res p) names) refl tells
  where
    go : (o : Option ℕ) → lookup (same_res p) names ≡ o → is_to_tell home t (mark_under (mark_at ms) o t) ≡ true
        → is_lt (res_order p r) ≡ false
    go None e b = cc
    go (Some n) e b =
        let found = least-first home names None ms (record { number = n; task = t }) b in
        let one : found.0 ≡ k = (let i = sym found.1 ∙ least in cc) in
        let place = number-found 0 names p n h e in
        let same : place.0 ≡ n = omega (arith, place.1) in
        let mine : slice_get names n ≡ Some (p, n) = subst (λ (i : ℕ). slice_get names i ≡ Some (p, n)) same place.2 in
        let other : slice_get names found.0 ≡ Some (r, v) = ap (slice_get names) one ∙ at in
        subst (λ (o : Option (Res × ℕ)). sooner_names o (Some (r, v)) ≡ false) mine
        (subst (λ (o : Option (Res × ℕ)). sooner_names (slice_get names n) o ≡ false) other found.2)

-- and a mark on it is to be told
pub there-least : (home : ℕ) (names : List (Res × ℕ)) (ms : List (Spot × Mark)) (k : ℕ) (r : Res) (v : ℕ) (t : TaskId)
    → numbered_from 0 names ≡ true → slice_get names k ≡ Some (r, v) → lookup (same_res r) names ≡ Some v
    → is_to_tell home t (mark_at ms k t) ≡ true → is_to_tell home t (mark_in names ms r t) ≡ true
there-least home names ms k r v t h at named tells =
    let number : v ≡ 0 + k = number-at 0 names k (r, v) h at in
    let one : v ≡ k = omega (arith, number) in
    ap (λ (o : Option ℕ). is_to_tell home t (mark_under (mark_at ms) o t)) named
    ∙ ap (λ (n : ℕ). is_to_tell home t (mark_at ms n t)) one
    ∙ tells

-- ---- one mark more
drop-at : (es : List (Spot × Mark)) (i : ℕ) (e : Spot × Mark) → slice_get es i ≡ Some e
    → drop i es ≡ e ∷ drop (i + 1) es
drop-at [] i e h = cc
drop-at (x ∷ es) zero e h = let one : x ≡ e = cc in ap (λ (y : Spot × Mark). y ∷ es) one
drop-at (x ∷ es) (suc i) e h =
    drop-at es i e h
    ∙ ap (λ (l : List (Spot × Mark)). e ∷ l)
    (let more : suc (i + 1) ≡ suc i + 1 = omega arith in ap (λ (n : ℕ). drop n (x ∷ es)) more)

pub least-more :
    (home : ℕ) (names : List (Res × ℕ)) (best next : Option ℕ) (es : List (Spot × Mark)) (i : ℕ) (e : Spot × Mark)
    (z : Option ℕ)
    → slice_get es i ≡ Some e → next ≡ best_with home names best e → least_from home names best (drop i es) ≡ z
    → least_from home names next (drop (i + 1) es) ≡ z
least-more home names best next es i e z at is so =
    ap (λ (o : Option ℕ). least_from home names o (drop (i + 1) es)) is
    ∙ sym (ap (least_from home names best) (drop-at es i e at))
    ∙ so

abbrev pub IsThere : ℕ → List (Spot × Mark) → Option ℕ → Type 0
IsThere home ms o = IfSome o (λ n. (t : TaskId) × (is_to_tell home t (mark_at ms n t) ≡ true))

pub there-more : (home : ℕ) (names : List (Res × ℕ)) (ms : List (Spot × Mark)) (best next : Option ℕ) (e : Spot × Mark)
    → mark_at ms e.0.number e.0.task ≡ Some e.1 → next ≡ best_with home names best e → IsThere home ms best
    → IsThere home ms next
there-more home names ms best next e at is so =
    subst (IsThere home ms) (sym is) (by_cases (is_to_tell home e.0.task (Some e.1))
    (λ b.
    subst (λ (c : Bool). IsThere home ms (cond c (Some (better_of names best e.0.number)) best)) (sym b)
    (better best so b))
    (λ b. subst (λ (c : Bool). IsThere home ms (cond c (Some (better_of names best e.0.number)) best)) (sym b) so))
  where
    mine : is_to_tell home e.0.task (Some e.1) ≡ true → IsThere home ms (Some e.0.number)
    mine b = (e.0.task, ap (is_to_tell home e.0.task) at ∙ b)

    better : (o : Option ℕ) → IsThere home ms o → is_to_tell home e.0.task (Some e.1) ≡ true
        → IsThere home ms (Some (better_of names o e.0.number))
    better None t b = mine b
    better (Some k) t b = either (sooner_number names e.0.number k)
      where
        either : (c : Bool) → IsThere home ms (Some (cond c e.0.number k))
        either true = mine b
        either false = t

-- ---- what is found
pub any-found : (home : ℕ) (f : Marking) (s : State) (r : Res) (t : TaskId) → AreMarked f s
    → ((p : Res) (u : TaskId) → is_to_tell home u (f p u) ≡ true → is_lt (res_order p r) ≡ false)
    → is_to_tell home t (f r t) ≡ true → any_untold_in home (ranked_all f s) ≡ true
any-found home f s r t are least tells =
    sym (first-any home (ranked_all f s)) ∙ go (first_to_tell home f r (list_of s r)) refl
  where
    go : (o : Option TaskId) → first_to_tell home f r (list_of s r) ≡ o
        → is_some (first_untold home (ranked_all f s)) ≡ true
    go None e = absurd (some-on home f s r t are tells e)
    go (Some u) e = let found = first-at home f r least s u e in ap is_some found.1

pub any-none : (home : ℕ) (f : Marking) (s : State) → ((r : Res) (t : TaskId) → is_to_tell home t (f r t) ≡ false)
    → any_untold_in home (ranked_all f s) ≡ false
any-none home f s none = sym (first-any home (ranked_all f s)) ∙ ap is_some (first-none home f none s)

pub first-found : (home : ℕ) (f : Marking) (s : State) (r : Res) (t : TaskId)
    → ((p : Res) (u : TaskId) → is_to_tell home u (f p u) ≡ true → is_lt (res_order p r) ≡ false)
    → first_to_tell home f r (list_of s r) ≡ Some t
    → Some (t, r) ≡ option_map owner_of (first_untold home (ranked_all f s))
first-found home f s r t least e =
    let found = first-at home f r least s t e in
    sym (ap (option_map owner_of) found.1 ∙ (λ i. Some (found.3 i, found.2 i)))

-- ---- whether there are elements
pub number-marked : (names : List (Res × ℕ)) (ms : List (Spot × Mark)) (k : ℕ) (r : Res) (v : ℕ) (t : TaskId) (m : Mark)
    → numbered_from 0 names ≡ true → slice_get names k ≡ Some (r, v) → lookup (same_res r) names ≡ Some v
    → mark_at ms k t ≡ Some m → is_some (mark_in names ms r t) ≡ true
number-marked names ms k r v t m h at named is =
    let number : v ≡ 0 + k = number-at 0 names k (r, v) h at in
    let one : v ≡ k = omega (arith, number) in
    ap (λ (o : Option ℕ). is_some (mark_under (mark_at ms) o t)) named
    ∙ ap (λ (n : ℕ). is_some (mark_at ms n t)) one
    ∙ ap is_some is

pub empty-is : (f : Marking) (s : State) → AreMarked f s → ((r : Res) (t : TaskId) → f r t ≡ None)
    → (length (ranked_all f s) == 0) ≡ true
empty-is f [] are none = refl
empty-is f (h ∷ hs) are none =
    absurd (let has = sym (are h.0 h.1.task) ∙ ap is_some (none h.0 h.1.task) in
    let there : holds (h ∷ hs) h.0 h.1.task ≡ true = grind (arith, same_res-itself h.0, same_task-itself h.1.task) in
    cc)

pub not-empty : (f : Marking) (s : State) (r : Res) (t : TaskId) → AreMarked f s → is_some (f r t) ≡ true
    → (length (ranked_all f s) == 0) ≡ false
not-empty f [] r t are has = absurd (let none = sym (are r t) ∙ has in cc)
not-empty f (h ∷ hs) r t are has = ne_eqb (suc (length (ranked_all f hs))) 0 (λ i. omega (arith, i))

pub empty-tells : (b : Bool) (f : Marking) (s : State) → AreMarked f s
    → (b ≡ true → (r : Res) (t : TaskId) → f r t ≡ None)
    → (b ≡ false → (r : Res) × (t : TaskId) × (is_some (f r t) ≡ true)) → b ≡ (length (ranked_all f s) == 0)
empty-tells true f s are none some = sym (empty-is f s are (none refl))
empty-tells false f s are none some = let has = some refl in sym (not-empty f s has.0 has.1 are has.2)

-- a number with a mark is that of a name
pub near : (len n : ℕ) (o : Option Mark) (m : Mark) → (len ≤ n → o ≡ None) → o ≡ Some m → n < len
near len n o m fresh is =
    by_cases (nat_lt n len) (λ b. ltb-true n len b) (λ b. absurd (let none = fresh (ltb-false n len b) in cc))

pub first-found_as : (home : ℕ) (f : Marking) (s : State) (r n : Res) (t : TaskId) → n ≡ r → IsLeast home f r
    → first_to_tell home f r (list_of s r) ≡ Some t
    → option_map owner_of (first_untold home (ranked_all f s)) ≡ Some (t, n)
first-found_as home f s r n t is least e =
    subst (λ (q : Res). option_map owner_of (first_untold home (ranked_all f s)) ≡ Some (t, q)) (sym is)
    (sym (first-found home f s r t least e))
