-- Who gets control by the lists of an entry, resource by resource; and who of them is of the manager's own system.
use Rattle.std.proofs.Common.{◌≡◌, ℕ, Bool, true, false, cond, not, ◌&&◌, ◌||◌, List, [], ◌∷◌, ◌++◌, map, refl, ap, sym}
use Rattle.std.proofs.Common.{◌∙◌, arith}
use Rattle.std.specs.Prelude.{◌==◌, filter, take}
use Rattle.std.specs.List.{list_any, flat_map}
use Rattle.std.specs.FinMap.{put}
use Rattle.std.proofs.lemmas.List.Elements.{filter-append}
use Rattle.std.proofs.lemmas.List.Folds.{flat_map-map, list_any-append}
use Rattle.grs_base.specs.Lists.{owners, owns}
use Rattle.grs_base.specs.ResOrder.{res_order}
use Rattle.grs_base.specs.Rows.{lists_from, row_of}
use Rattle.grs_base.specs.Same.{same_res, same_task}
use Rattle.grs_base.specs.State.{State, list_of, pick, is_systems, is_of_other}
use Rattle.grs_base.specs.declared.resource.Elem.{Elem}
use Rattle.grs_base.specs.declared.resource.Res.{Res}
use Rattle.grs_base.specs.declared.resource.Row.{Row}
use Rattle.grs_base.specs.declared.resource.TaskId.{TaskId}
use Rattle.grs_base.proofs.Picks.{pick-append}
use Rattle.grs_base.proofs.SameLaws.{same_task-exact}
use Rattle.grs_wire.proofs.RemoveLaws.{by_systems, list_of-remove, list_of-remove_other}
use Rattle.freed_owners.specs.Freed.{newcomers, freed}
use Rattle.contention_mgr.specs.LoseLaws.{is_freed, GainedAreFreed, GainedInOrder, GainedOnList}
use Rattle.contention_mgr.specs.Loses.{Freed, freed_lists, own_freed, freed_at, by_name, gained}
use Rattle.contention_mgr.specs.Manager.{plain, items_of}
use Rattle.contention_mgr.proofs.NameOrder.{read_on, built, built-read, by_name-named, by_name-order}
use Rattle.contention_mgr.proofs.OwnLemmas.{owns-any, any-pick}

-- ---- lists of lists
module _ {X : Type 0} where
  any-same : (p q : X → Bool) → ((x : X) → p x ≡ q x) → (xs : List X) → list_any p xs ≡ list_any q xs
  any-same p q same [] = refl
  any-same p q same (x ∷ xs) =
      ap (λ b. b || list_any p xs) (same x) ∙ ap (λ b. q x || b) (any-same p q same xs)

  any-and : (b : Bool) (p : X → Bool) (xs : List X) → list_any (λ x. b && p x) xs ≡ (b && list_any p xs)
  any-and true p xs = refl
  any-and false p [] = refl
  any-and false p (x ∷ xs) = any-and false p xs

module _ {X Y : Type 0} where
  flat-same : (f g : X → List Y) → ((x : X) → f x ≡ g x) → (xs : List X) → flat_map f xs ≡ flat_map g xs
  flat-same f g same [] = refl
  flat-same f g same (x ∷ xs) =
      ap (λ (ys : List Y). ys ++ flat_map f xs) (same x)
      ∙ ap (λ (ys : List Y). g x ++ ys) (flat-same f g same xs)

  any-flat : (q : Y → Bool) (f : X → List Y) (xs : List X)
      → list_any q (flat_map f xs) ≡ list_any (λ x. list_any q (f x)) xs
  any-flat q f [] = refl
  any-flat q f (x ∷ xs) =
      list_any-append q (f x) (flat_map f xs) ∙ ap (λ b. list_any q (f x) || b) (any-flat q f xs)

  pick-mapped : (p : X → Bool) (f : X → Y) (xs : List X) → pick p f xs ≡ map f (filter p xs)
  pick-mapped p f [] = refl
  pick-mapped p f (x ∷ xs) = go (p x) (pick-mapped p f xs)
    where
      go : (b : Bool) → pick p f xs ≡ map f (filter p xs)
          → cond b (f x ∷ pick p f xs) (pick p f xs) ≡ map f (cond b (x ∷ filter p xs) (filter p xs))
      go true rest = ap (λ (ys : List Y). f x ∷ ys) rest
      go false rest = rest

pick-flat : {W X Y : Type 0} (p : X → Bool) (f : X → Y) (g : W → List X) (ws : List W)
    → pick p f (flat_map g ws) ≡ flat_map (λ w. pick p f (g w)) ws
pick-flat p f g [] = refl
pick-flat p f g (w ∷ ws) =
    pick-append p f (g w) (flat_map g ws) ∙ ap (λ (ys : List _). pick p f (g w) ++ ys) (pick-flat p f g ws)

-- ---- who gets control of a resource by the lists of an entry
abbrev pub freed_on : Res → List Freed → List TaskId
freed_on r fs = flat_map (λ f. cond (same_res r f.0) f.1 []) fs

pub lists-built : (s hs : State) → lists_from s hs ≡ built (λ h. h.0) (list_of s) hs
lists-built s [] = refl
lists-built s (h ∷ hs) = ap (put res_order h.0 (list_of s h.0)) (lists-built s hs)

list-none : (s : State) (r : Res) → list_any (λ h. same_res r h.0) s ≡ false → list_of s r ≡ []
list-none [] r none = refl
list-none (h ∷ hs) r none = grind (arith, none, list-none hs r)

freed-none : (n : ℕ) (r : Res) → freed n r [] ≡ []
freed-none n r = go (is_systems r)
  where
    go : (b : Bool) → ◌≡◌ {A = List TaskId} (cond b [] []) []
    go true = refl
    go false = refl

pub freed-on : (n : ℕ) (s : State) (r : Res) → freed_on r (freed_lists n s) ≡ freed n r (list_of s r)
freed-on n s r =
    flat_map-map (λ (f : Freed). cond (same_res r f.0) f.1 []) (λ (x : Row). (x.res, freed n x.res x.elems))
    (map row_of (lists_from s s))
    ∙ flat_map-map (λ (x : Row). cond (same_res r x.res) (freed n x.res x.elems) []) row_of (lists_from s s)
    ∙ ap (read_on (λ k es. freed n k es) r) (lists-built s s)
    ∙ built-read (λ h. h.0) (list_of s) (λ k es. freed n k es) r s
    ∙ go (list_any (λ h. same_res r h.0) s) refl
  where
    go : (b : Bool) → list_any (λ h. same_res r h.0) s ≡ b
        → cond b (freed n r (list_of s r)) [] ≡ freed n r (list_of s r)
    go true is = refl
    go false is = sym (ap (freed n r) (list-none s r is) ∙ freed-none n r)

-- just who owns then and didn't before
any-newcomers : (before left : List Elem) (t : TaskId)
    → list_any (same_task t) (newcomers before left) ≡ (owns left t && not (owns before t))
any-newcomers before left t =
    any-pick (λ u. not (owns before u)) (take (owners left) left) t
    ∙ ap (λ b. not (owns before t) && b) (sym (owns-any left t))
    ∙ flip (not (owns before t)) (owns left t)
  where
    flip : (a b : Bool) → (a && b) ≡ (b && a)
    flip a b = grind arith

pub any-freed : (n : ℕ) (s : State) (r : Res) (t : TaskId)
    → list_any (same_task t) (freed n r (list_of s r)) ≡ is_freed n s r t
any-freed n s r t = by_systems r _
    (λ wide.
    ap (λ b. list_any (same_task t) (cond b (newcomers (list_of s r) (filter (is_of_other n) (list_of s r))) [])) wide
    ∙ any-newcomers (list_of s r) (filter (is_of_other n) (list_of s r)) t
    ∙ ap (λ (es : List Elem). owns es t && not (owns (list_of s r) t)) (sym (list_of-remove s n r wide)))
    (λ narrow.
    ap (λ b. list_any (same_task t) (cond b (newcomers (list_of s r) (filter (is_of_other n) (list_of s r))) []))
    narrow
    ∙ never (owns (list_of s r) t)
    ∙ ap (λ (es : List Elem). owns es t && not (owns (list_of s r) t)) (sym (list_of-remove_other s n r narrow)))
  where
    never : (b : Bool) → false ≡ (b && not b)
    never true = refl
    never false = refl

-- ---- those of a system
filter-on : (p : TaskId → Bool) (r : Res) (fs : List Freed)
    → flat_map (λ f. cond (same_res r f.0) (filter p f.1) []) fs ≡ filter p (freed_on r fs)
filter-on p r [] = refl
filter-on p r (f ∷ fs) =
    ap (λ (us : List TaskId). us ++ flat_map (λ g. cond (same_res r g.0) (filter p g.1) []) fs) (go (same_res r f.0))
    ∙ ap (λ (us : List TaskId). filter p (cond (same_res r f.0) f.1 []) ++ us) (filter-on p r fs)
    ∙ sym (filter-append p (cond (same_res r f.0) f.1 []) (freed_on r fs))
  where
    go : (b : Bool) → cond b (filter p f.1) [] ≡ filter p (cond b f.1 [])
    go true = refl
    go false = refl

own-on : (s : ℕ) (r q : Res) (us : List TaskId)
    → pick (λ p. same_res r p.1) (λ p. p.0) (own_freed s (q, us))
    ≡ cond (same_res r q) (filter (λ u. s == u.system.0) us) []
own-on s r q us = go (same_res r q) refl us
  where
    go : (b : Bool) → same_res r q ≡ b → (vs : List TaskId)
        → pick (λ p. same_res r p.1) (λ p. p.0) (own_freed s (q, vs)) ≡ cond b (filter (λ u. s == u.system.0) vs) []
    go true is [] = refl
    go false is [] = refl
    go true is (v ∷ vs) = grind (arith, is, go true is vs)
    go false is (v ∷ vs) = grind (arith, is, go false is vs)

own-at : (s n : ℕ) (r : Res) (hs : State)
    → pick (λ p. same_res r p.1) (λ p. p.0) (flat_map (own_freed s) (freed_lists n hs))
    ≡ filter (λ u. s == u.system.0) (freed n r (list_of hs r))
own-at s n r hs =
    pick-flat (λ p. same_res r p.1) (λ p. p.0) (own_freed s) (freed_lists n hs)
    ∙ flat-same (λ f. pick (λ p. same_res r p.1) (λ p. p.0) (own_freed s f))
    (λ f. cond (same_res r f.0) (filter (λ u. s == u.system.0) f.1) []) (λ f. own-on s r f.0 f.1) (freed_lists n hs)
    ∙ filter-on (λ u. s == u.system.0) r (freed_lists n hs)
    ∙ ap (filter (λ u. s == u.system.0)) (freed-on n hs r)

pub gained_in_order : GainedInOrder
gained_in_order v n =
    by_name-order (flat_map (λ fs. flat_map (own_freed v.system.0) fs) (map (freed_at n.0) v.entries))

pub gained_on_list : GainedOnList
gained_on_list v n r =
    let all = flat_map (λ fs. flat_map (own_freed v.system.0) fs) (map (freed_at n.0) v.entries) in
    pick-mapped (λ p. same_res r p.1) (λ p. p.0) (by_name all)
    ∙ ap (map (λ p. p.0)) (by_name-named r all)
    ∙ sym (pick-mapped (λ p. same_res r p.1) (λ p. p.0) all)
    ∙ pick-flat (λ p. same_res r p.1) (λ p. p.0) (λ fs. flat_map (own_freed v.system.0) fs)
    (map (freed_at n.0) v.entries)
    ∙ flat_map-map (λ fs. pick (λ p. same_res r p.1) (λ p. p.0) (flat_map (own_freed v.system.0) fs)) (freed_at n.0)
    v.entries
    ∙ flat-same (λ o. pick (λ p. same_res r p.1) (λ p. p.0) (flat_map (own_freed v.system.0) (freed_at n.0 o)))
    (λ o. filter (λ u. v.system.0 == u.system.0) (freed n.0 r (list_of (plain (items_of o)) r)))
    (λ o. own-at v.system.0 n.0 r (plain (items_of o))) v.entries

any-pairs : (t : TaskId) (r : Res) (ps : List (TaskId × Res))
    → list_any (λ p. same_task t p.0 && same_res r p.1) ps
    ≡ list_any (same_task t) (pick (λ p. same_res r p.1) (λ p. p.0) ps)
any-pairs t r [] = refl
any-pairs t r (p ∷ ps) = go (same_res r p.1) (any-pairs t r ps)
  where
    go : (b : Bool)
        → list_any (λ p. same_task t p.0 && same_res r p.1) ps
        ≡ list_any (same_task t) (pick (λ p. same_res r p.1) (λ p. p.0) ps)
        → ((same_task t p.0 && b) || list_any (λ p. same_task t p.0 && same_res r p.1) ps)
        ≡ list_any (same_task t)
        (cond b (p.0 ∷ pick (λ p. same_res r p.1) (λ p. p.0) ps) (pick (λ p. same_res r p.1) (λ p. p.0) ps))
    go true rest = here (same_task t p.0) ∙ ap (λ b. same_task t p.0 || b) rest
      where
        here : (c : Bool)
            → ((c && true) || list_any (λ p. same_task t p.0 && same_res r p.1) ps)
            ≡ (c || list_any (λ p. same_task t p.0 && same_res r p.1) ps)
        here true = refl
        here false = refl
    go false rest = there (same_task t p.0) ∙ rest
      where
        there : (c : Bool)
            → ((c && false) || list_any (λ p. same_task t p.0 && same_res r p.1) ps)
            ≡ list_any (λ p. same_task t p.0 && same_res r p.1) ps
        there true = refl
        there false = refl

any-own : (s : ℕ) (t : TaskId) (us : List TaskId)
    → list_any (same_task t) (filter (λ u. s == u.system.0) us) ≡ ((s == t.system.0) && list_any (same_task t) us)
any-own s t [] = go (s == t.system.0)
  where
    go : (b : Bool) → false ≡ (b && false)
    go true = refl
    go false = refl
any-own s t (u ∷ us) = grind (arith, any-own s t us, same_task-exact t u)

pub gained_are_freed : GainedAreFreed
gained_are_freed v n r t =
    any-pairs t r (gained v n)
    ∙ ap (list_any (same_task t)) (gained_on_list v n r)
    ∙ any-flat (same_task t)
    (λ o. filter (λ u. v.system.0 == u.system.0) (freed n.0 r (list_of (plain (items_of o)) r))) v.entries
    ∙ any-same
    (λ o.
    list_any (same_task t) (filter (λ u. v.system.0 == u.system.0) (freed n.0 r (list_of (plain (items_of o)) r))))
    (λ o. (v.system.0 == t.system.0) && is_freed n.0 (plain (items_of o)) r t)
    (λ o.
    any-own v.system.0 t (freed n.0 r (list_of (plain (items_of o)) r))
    ∙ ap (λ b. (v.system.0 == t.system.0) && b) (any-freed n.0 (plain (items_of o)) r t))
    v.entries
    ∙ any-and (v.system.0 == t.system.0) (λ o. is_freed n.0 (plain (items_of o)) r t) v.entries
