-- The records of a task as its own elements.
use Rattle.std.proofs.Common.{◌≡◌, Bool, true, false, cond, not, ◌||◌, List, [], ◌∷◌, ◌++◌, map, refl, ap, sym, ◌∙◌}
use Rattle.std.proofs.Common.{subst, arith, ◌&&◌}
use Rattle.std.specs.Prelude.{filter}
use Rattle.std.proofs.lemmas.Bool.{cases_Bool, or_left, or_right}
use Rattle.std.proofs.lemmas.List.{map-append}
use Rattle.grs_base.specs.Same.{same_res}
use Rattle.grs_base.specs.declared.resource.Res.{Res}
use Rattle.grs_base.specs.declared.resource.Ctl.{Ctl}
use Rattle.grs_base.specs.declared.resource.Ctl.TheVariants.{E}
use Rattle.grs_base.proofs.SameLaws.{same_res-exact, same_res-itself, same_res-sym}
use Rattle.grs_wire.proofs.WantLaws.{by_test}
use Rattle.task_state.specs.declared.state.Rec.{Rec}
use Rattle.task_state.specs.View.{without_first, on_record}
use Rattle.grs_known.specs.Past.{has_own, made_exclusive}
use Rattle.grs_known.proofs.tasks.Invariant.{Each, key, has_res, is_distinct}
use Rattle.grs_known.proofs.lists.Truths.{no_truth, false_by}

-- a task has a record of a resource just where it has an element there
pub has_res-own : (r : Res) (xs : List Rec) (ks : List (Res × Ctl)) → map key xs ≡ ks → has_res r xs ≡ has_own r ks
has_res-own r xs ks e = has_keys xs ∙ ap (has_own r) e
  where
    has_keys : (ys : List Rec) → has_res r ys ≡ has_own r (map key ys)
    has_keys [] = refl
    has_keys (y ∷ ys) = ap (λ b. same_res r y.res || b) (has_keys ys)

pub keys-push : (xs : List Rec) (y : Rec) → map key (xs ++ y ∷ []) ≡ map key xs ++ key y ∷ []
keys-push xs y = map-append key xs (y ∷ [])

has_res-push : (r : Res) (xs : List Rec) (y : Rec) → has_res r (xs ++ y ∷ []) ≡ (has_res r xs || same_res r y.res)
has_res-push r [] y = grind arith
has_res-push r (x ∷ xs) y = grind (arith, has_res-push r xs y)

pub distinct-push : (xs : List Rec) (y : Rec) → is_distinct xs ≡ true → has_res y.res xs ≡ false
    → is_distinct (xs ++ y ∷ []) ≡ true
distinct-push [] y d a = refl
distinct-push (x ∷ xs) y d a =
    grind (arith, d, a, distinct-push xs y, has_res-push x.res xs y, same_res-sym x.res y.res)

-- making control exclusive
pub keys-exclusive : (r : Res) (xs : List Rec)
    → map key (on_record r (λ z. record z { ctl = E }) xs) ≡ map (made_exclusive r) (map key xs)
keys-exclusive r [] = refl
keys-exclusive r (x ∷ xs) = grind (arith, keys-exclusive r xs)

-- ---- a change of the records of a resource
-- one that keeps a record's key keeps the keys,
pub keys-on_record : (f : Rec → Rec) → ((y : Rec) → key (f y) ≡ key y) → (r : Res) (xs : List Rec)
    → map key (on_record r f xs) ≡ map key xs
keys-on_record f same r [] = refl
keys-on_record f same r (x ∷ xs) =
    let behind = ap (λ ks. key x ∷ ks) (keys-on_record f same r xs) in
    by_test (λ y. key y ∷ map key (on_record r f xs) ≡ key x ∷ map key xs) (same_res r x.res) (f x) x
    (λ h. ap (λ k. k ∷ map key (on_record r f xs)) (same x) ∙ behind) (λ h. behind)

-- and one that keeps its resource leaves the resources distinct
has_res-on_record : (f : Rec → Rec) → ((y : Rec) → (f y).res ≡ y.res) → (q r : Res) (xs : List Rec)
    → has_res q (on_record r f xs) ≡ has_res q xs
has_res-on_record f same q r [] = refl
has_res-on_record f same q r (x ∷ xs) =
    let behind = ap (λ c. same_res q x.res || c) (has_res-on_record f same q r xs) in
    by_test (λ (y : Rec). (same_res q y.res || has_res q (on_record r f xs)) ≡ (same_res q x.res || has_res q xs))
    (same_res r x.res) (f x) x (λ h. ap (λ z. same_res q z || has_res q (on_record r f xs)) (same x) ∙ behind)
    (λ h. behind)

pub distinct-on_record : (f : Rec → Rec) → ((y : Rec) → (f y).res ≡ y.res) → (r : Res) (xs : List Rec)
    → is_distinct (on_record r f xs) ≡ is_distinct xs
distinct-on_record f same r [] = refl
distinct-on_record f same r (x ∷ xs) =
    let behind =
    ap (λ c. not c && is_distinct (on_record r f xs)) (has_res-on_record f same x.res r xs)
    ∙ ap (λ c. not (has_res x.res xs) && c) (distinct-on_record f same r xs) in
    by_test (λ (y : Rec).
    (not (has_res y.res (on_record r f xs)) && is_distinct (on_record r f xs))
    ≡ (not (has_res x.res xs) && is_distinct xs))
    (same_res r x.res) (f x) x
    (λ h. ap (λ z. not (has_res z (on_record r f xs)) && is_distinct (on_record r f xs)) (same x) ∙ behind)
    (λ h. behind)

-- taking a record out
without_absent : (r : Res) (xs : List Rec) → has_res r xs ≡ false
    → filter (λ k. not (same_res r k.0)) (map key xs) ≡ map key xs
without_absent r [] h = refl
without_absent r (x ∷ xs) h = grind (arith, h, without_absent r xs)

pub keys-without : (r : Res) (xs : List Rec) → is_distinct xs ≡ true
    → map key (without_first xs r) ≡ filter (λ k. not (same_res r k.0)) (map key xs)
keys-without r [] d = refl
keys-without r (x ∷ xs) d =
    grind (arith, d, keys-without r xs, without_absent r xs, same_res-exact r x.res, cases_Bool (same_res r x.res))

absent-without : (q r : Res) (xs : List Rec) → has_res q xs ≡ false → has_res q (without_first xs r) ≡ false
absent-without q r [] h = h
absent-without q r (x ∷ xs) h = grind (arith, h, absent-without q r xs, cases_Bool (same_res r x.res))

pub distinct-without : (r : Res) (xs : List Rec) → is_distinct xs ≡ true → is_distinct (without_first xs r) ≡ true
distinct-without r [] d = refl
distinct-without r (x ∷ xs) d =
    grind (arith, d, distinct-without r xs, absent-without x.res r xs, cases_Bool (same_res r x.res))

-- what is taken out is gone
pub gone-without : (r : Res) (xs : List Rec) → is_distinct xs ≡ true → has_res r (without_first xs r) ≡ false
gone-without r [] d = refl
gone-without r (x ∷ xs) d = grind (arith, d, gone-without r xs, same_res-exact r x.res, cases_Bool (same_res r x.res))

-- the elements that are left, and those that were made exclusive, are on the same resources
pub has_own-other : (q r : Res) (ks : List (Res × Ctl)) → same_res q r ≡ false
    → has_own q (filter (λ k. not (same_res r k.0)) ks) ≡ has_own q ks
has_own-other q r [] apart = refl
has_own-other q r (k ∷ ks) apart =
    grind (arith, apart, has_own-other q r ks, same_res-exact r k.0, cases_Bool (same_res r k.0))

pub has_own-exclusive : (q r : Res) (ks : List (Res × Ctl)) → has_own q (map (made_exclusive r) ks) ≡ has_own q ks
has_own-exclusive q r [] = refl
has_own-exclusive q r (k ∷ ks) = grind (arith, has_own-exclusive q r ks, cases_Bool (same_res r k.0))

-- so what is left is on other resources
pub other-without : (q r : Res) (xs : List Rec) → is_distinct xs ≡ true → has_res q (without_first xs r) ≡ true
    → same_res q r ≡ false
other-without q r xs d has =
    false_by (same_res q r) (λ e.
    no_truth (has_res q (without_first xs r)) has
    (subst (λ z. has_res z (without_first xs r) ≡ false) (sym (same_res-exact q r e)) (gone-without r xs d)))

-- what holds of each record, from what else does
pub each-kept : (P Q : Rec → Type 0) (xs : List Rec) → ((x : Rec) → has_res x.res xs ≡ true → P x → Q x) → Each P xs
    → Each Q xs
each-kept P Q [] f h = tt
each-kept P Q (x ∷ xs) f h = (
  f x (or_left (same_res x.res x.res) (has_res x.res xs) (same_res-itself x.res)) h.0,
  each-kept P Q xs (λ y e. f y (or_right (same_res y.res x.res) (has_res y.res xs) e)) h.1,
)

pub each-without : (P : Rec → Type 0) (r : Res) (xs : List Rec) → Each P xs → Each P (without_first xs r)
each-without P r [] h = h
each-without P r (x ∷ xs) h = go (same_res r x.res) (each-without P r xs h.1)
  where
    go : (b : Bool) → Each P (without_first xs r) → Each P (cond b xs (x ∷ without_first xs r))
    go true k = h.1
    go false k = (h.0, k)

pub each-push : (P : Rec → Type 0) (xs : List Rec) (y : Rec) → Each P xs → P y → Each P (xs ++ y ∷ [])
each-push P [] y h k = (k, tt)
each-push P (x ∷ xs) y h k = (h.0, each-push P xs y h.1 k)

pub each-exclusive : (P : Rec → Type 0) → ((z : Rec) → P z → P (record z { ctl = E })) → (r : Res) (xs : List Rec)
    → Each P xs → Each P (on_record r (λ z. record z { ctl = E }) xs)
each-exclusive P k r [] h = h
each-exclusive P k r (x ∷ xs) h = (go (same_res r x.res), each-exclusive P k r xs h.1)
  where
    go : (b : Bool) → P (cond b (record x { ctl = E }) x)
    go true = k x h.0
    go false = h.0
