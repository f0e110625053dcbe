-- An owner by a front of the items is still one by all of them.
use Rattle.std.proofs.Common.{◌≡◌, Bool, true, false, cond, List, [], ◌∷◌, ◌++◌, Option, Some, refl, sym, subst}
use Rattle.std.proofs.Common.{append_assoc, append-nil, inl, inr}
use Rattle.std.specs.Prelude.{◌⊎◌}
use Rattle.std.specs.List.{list_any}
use Rattle.std.proofs.lemmas.Bool.{or_parts}
use Rattle.grs_base.specs.Lists.{owns}
use Rattle.grs_base.specs.State.{list_of}
use Rattle.grs_base.specs.declared.resource.Res.{Res}
use Rattle.grs_base.specs.declared.resource.TaskId.{TaskId}
use Rattle.grs_known.specs.Items.{RunItem, is_of, removes_system_of, mine, lists}
use Rattle.grs_known.specs.Known.{Still}
use Rattle.grs_known.specs.Laws.{first_mine, FrontOwnersStay}
use Rattle.grs_known.proofs.known.Control.{owns-other, still-other, still-own}

pub pushed : (front : List RunItem) (x : RunItem) (xs : List RunItem) → front ++ (x ∷ xs) ≡ (front ++ x ∷ []) ++ xs
pushed front x xs = sym (append_assoc front (x ∷ []) xs)

-- items that are all of other tasks
pub still-rest : (t : TaskId) (r : Res) (front rest : List RunItem) (o : Option RunItem)
    → list_any (λ x. removes_system_of t x.fixed) rest ≡ false → mine t rest ≡ [] → Still r t front o
    → Still r t (front ++ rest) o
still-rest t r front [] o live none h = subst (λ T. Still r t T o) (sym (append-nil front)) h
still-rest t r front (x ∷ xs) o live none h =
    go (is_of t x.fixed) refl none (λ l f s. still-rest t r (front ++ x ∷ []) xs o l f s)
  where
    go : (b : Bool) → is_of t x.fixed ≡ b → cond b (x ∷ mine t xs) (mine t xs) ≡ []
        → (list_any (λ y. removes_system_of t y.fixed) xs ≡ false → mine t xs ≡ [] → Still r t (front ++ x ∷ []) o
        → Still r t ((front ++ x ∷ []) ++ xs) o)
        → Still r t (front ++ x ∷ xs) o
    go true e f more = absurd (cc)
    go false e f more =
        let l = or_parts (removes_system_of t x.fixed) (list_any (λ y. removes_system_of t y.fixed) xs) live in
        subst (λ T. Still r t T o) (sym (pushed front x xs)) (more l.1 f (still-other t front x e l.0 r o h))

pub front_owners_stay : FrontOwnersStay
front_owners_stay t r front [] made live few h =
    subst (λ T. owns (list_of (lists T) r) t ≡ true) (sym (append-nil front)) h
front_owners_stay t r front (x ∷ xs) made live few h =
    go (is_of t x.fixed) refl few (λ l f o. front_owners_stay t r (front ++ x ∷ []) xs made.1 l f o)
  where
    l : (removes_system_of t x.fixed ≡ false) × (list_any (λ y. removes_system_of t y.fixed) xs ≡ false)
    l = or_parts (removes_system_of t x.fixed) (list_any (λ y. removes_system_of t y.fixed) xs) live

    tail_none : (ys : List RunItem) → (x ∷ ys ≡ []) ⊎ ((y : RunItem) × (x ∷ ys ≡ y ∷ [])) → ys ≡ []
    tail_none ys (inl e) = absurd (cc)
    tail_none [] (inr e) = refl
    tail_none (y ∷ ys) (inr e) = let f = e.1 in absurd (cc)

    go : (b : Bool) → is_of t x.fixed ≡ b
        → (cond b (x ∷ mine t xs) (mine t xs) ≡ []) ⊎ ((y : RunItem) × (cond b (x ∷ mine t xs) (mine t xs) ≡ y ∷ [])) →
        (list_any (λ y. removes_system_of t y.fixed) xs ≡ false
        → (mine t xs ≡ []) ⊎ ((y : RunItem) × (mine t xs ≡ y ∷ []))
        → owns (list_of (lists (front ++ x ∷ [])) r) t ≡ true → Still r t ((front ++ x ∷ []) ++ xs) (first_mine t xs))
        →
        Still r t (front ++ x ∷ xs) (cond b (Some x) (first_mine t xs))
    go true e f more =
        subst (λ T. Still r t T (Some x)) (sym (pushed front x xs))
        (still-rest t r (front ++ x ∷ []) xs (Some x) l.1 (tail_none (mine t xs) f) (still-own t front x e made.0 r h))
    go false e f more =
        subst (λ T. Still r t T (first_mine t xs)) (sym (pushed front x xs))
        (more l.1 f (owns-other front x t r e l.0 h))
