-- Items under resources, each resource once and in order; and tasks with resources in the order of these.
use Rattle.std.proofs.Common.{◌≡◌, ◌≤◌, ◌<◌, ◌+◌, ℕ, suc, Bool, true, false, cond, T, not, ◌&&◌, ◌||◌, List, [], ◌∷◌}
use Rattle.std.proofs.Common.{◌++◌, length, get_or, Option, Some, None, refl, ap, sym, ◌∙◌, subst, arith, append-nil}
use Rattle.std.specs.Prelude.{filter}
use Rattle.std.specs.List.{list_any, list_all, flat_map}
use Rattle.std.specs.List.Sorted.{ties, IsSortedBy, IsStableBy}
use Rattle.std.specs.Cmp.{IsStrictWeakOrder, tied_itself}
use Rattle.std.specs.Fn.{Called, ComparesAs}
use Rattle.std.specs.declared.cmp.Ordering.{Ordering}
use Rattle.std.specs.declared.cmp.Ordering.TheVariants.{Less, Equal, Greater}
use Rattle.std.specs.Ordering.{is_lt, is_eq, ordering_reverse}
use Rattle.std.specs.FinMap.{put, find, is_sorted}
use Rattle.std.specs.FinMap.Entries.{by_order, below_all, is_sorted-put, find-put}
use Rattle.std.proofs.lemmas.Bool.{and_parts, and_from}
use Rattle.std.proofs.lemmas.Fn.{always_returns_same}
use Rattle.std.proofs.lemmas.List.Elements.{filter-append}
use Rattle.std.proofs.lemmas.List.Sorted.{ranks_by, sorted_far}
use denote.Param.Members.{Mut}
use denote.Ref.{Bor}
use Rattle.grs_base.specs.ResOrder.{res_order}
use Rattle.grs_base.specs.Same.{same_res}
use Rattle.grs_base.specs.declared.resource.Res.{Res}
use Rattle.grs_base.specs.declared.resource.TaskId.{TaskId}
use Rattle.grs_base.proofs.OrderLaws.{res_total, same_res-tie}
use Rattle.grs_base.proofs.SameLaws.{same_res-exact, same_res-itself}
use Rattle.contention_mgr.specs.LoseLaws.{in_name_order}
use Rattle.contention_mgr.specs.Loses.{on_each, by_name}

abbrev Pair : Type 0
Pair = TaskId × Res

-- those of a resource
abbrev pub named : Res → List Pair → List Pair
named r ps = filter (λ p. same_res r p.1) ps

-- ---- two resources
less-apart : (a b : Res) → T (is_lt (res_order a b)) → same_res a b ≡ false
less-apart a b h = same_res-tie a b ∙ go (res_order a b) h
  where
    go : (o : Ordering) → T (is_lt o) → is_eq o ≡ false
    go Less k = refl
    go Equal k = absurd k
    go Greater k = refl

less-not : (a b : Res) → T (is_lt (res_order a b)) → is_lt (res_order b a) ≡ false
less-not a b h = ap is_lt (res_total.antisymm b a) ∙ go (res_order a b) h
  where
    go : (o : Ordering) → T (is_lt o) → is_lt (ordering_reverse o) ≡ false
    go Less k = refl
    go Equal k = absurd k
    go Greater k = absurd k

-- neither of two is shown before the other exactly where they are one
ties-same : (a b : Res) → (not (is_lt (res_order a b)) && not (is_lt (res_order b a))) ≡ same_res a b
ties-same a b =
    ap (λ (o : Ordering). not (is_lt (res_order a b)) && not (is_lt o)) (res_total.antisymm b a)
    ∙ go (res_order a b)
    ∙ sym (same_res-tie a b)
  where
    go : (o : Ordering) → (not (is_lt o) && not (is_lt (ordering_reverse o))) ≡ is_eq o
    go Less = refl
    go Equal = refl
    go Greater = refl

-- ---- items under resources
is-true : (b : Bool) → T b → b ≡ true
is-true true h = refl
is-true false h = absurd h

T-both : (a b : Bool) → T (a && b) → T a × T b
T-both true b h = (tt, h)
T-both false b h = absurd h

module _ {X Y : Type 0} (g : Res → X → List Y) (r : Res) where
  -- what is read of the item of a resource, as all are gone through, and as it is found
  abbrev pub read_on : List (Res × X) → List Y
  read_on m = flat_map (λ e. cond (same_res r e.0) (g e.0 e.1) []) m

  abbrev pub found : Option X → List Y
  found None = []
  found (Some v) = g r v

  read-none : (k : Res) (m : List (Res × X)) → r ≡ k → T (below_all res_order k m) → read_on m ≡ []
  read-none k [] one below = refl
  read-none k (e ∷ m) one below =
      let both = T-both (is_lt (res_order k e.0)) (below_all res_order k m) below in
      let apart : same_res r e.0 ≡ false = ap (λ (q : Res). same_res q e.0) one ∙ less-apart k e.0 both.0 in
      ap (λ (b : Bool). cond b (g e.0 e.1) [] ++ read_on m) apart ∙ read-none k m one both.1

  pub read-found : (m : List (Res × X)) → T (is_sorted res_order m) → read_on m ≡ found (find res_order r m)
  read-found [] sorted = refl
  read-found (e ∷ m) sorted =
      let both = T-both (below_all res_order e.0 m) (is_sorted res_order m) sorted in
      go (same_res r e.0) refl both.0 (read-found m both.1)
      ∙ ap (λ (b : Bool). found (cond b (Some e.1) (find res_order r m))) (same_res-tie r e.0)
    where
      go : (b : Bool) → same_res r e.0 ≡ b → T (below_all res_order e.0 m) → read_on m ≡ found (find res_order r m)
          → cond (same_res r e.0) (g e.0 e.1) [] ++ read_on m
          ≡ found (cond (same_res r e.0) (Some e.1) (find res_order r m))
      go true is below rest =
          let one : r ≡ e.0 = same_res-exact r e.0 is in
          ap (λ (b : Bool). cond b (g e.0 e.1) [] ++ read_on m) is
          ∙ ap (λ (ys : List Y). g e.0 e.1 ++ ys) (read-none e.0 m one below)
          ∙ append-nil (g e.0 e.1)
          ∙ ap (λ (q : Res). g q e.1) (sym one)
          ∙ ap (λ (b : Bool). found (cond b (Some e.1) (find res_order r m))) (sym is)
      go false is below rest =
          ap (λ (b : Bool). cond b (g e.0 e.1) [] ++ read_on m) is
          ∙ rest
          ∙ ap (λ (b : Bool). found (cond b (Some e.1) (find res_order r m))) (sym is)

-- items that are put in under the resources of others
module _ {H X : Type 0} (key : H → Res) (val : Res → X) where
  abbrev pub built : List H → List (Res × X)
  built [] = []
  built (h ∷ hs) = put res_order (key h) (val (key h)) (built hs)

  pub built-sorted : (hs : List H) → T (is_sorted res_order (built hs))
  built-sorted [] = tt
  built-sorted (h ∷ hs) = is_sorted-put res_order res_total (key h) (val (key h)) (built hs) (built-sorted hs)

  pub built-find : (r : Res) (hs : List H)
      → find res_order r (built hs) ≡ cond (list_any (λ h. same_res r (key h)) hs) (Some (val r)) None
  built-find r [] = refl
  built-find r (h ∷ hs) =
      find-put res_order res_total r (key h) (val (key h)) (built hs)
      ∙ ap (λ (b : Bool). cond b (Some (val (key h))) (find res_order r (built hs))) (sym (same_res-tie r (key h)))
      ∙ go (same_res r (key h)) refl (built-find r hs)
    where
      go : (b : Bool) → same_res r (key h) ≡ b
          → find res_order r (built hs) ≡ cond (list_any (λ x. same_res r (key x)) hs) (Some (val r)) None
          → cond b (Some (val (key h))) (find res_order r (built hs))
          ≡ cond (b || list_any (λ x. same_res r (key x)) hs) (Some (val r)) None
      go true is rest = ap (λ (q : Res). Some (val q)) (sym (same_res-exact r (key h) is))
      go false is rest = rest

  pub built-read : {Y : Type 0} (g : Res → X → List Y) (r : Res) (hs : List H)
      → read_on g r (built hs) ≡ cond (list_any (λ h. same_res r (key h)) hs) (g r (val r)) []
  built-read g r hs =
      read-found g r (built hs) (built-sorted hs)
      ∙ ap (found g r) (built-find r hs)
      ∙ go (list_any (λ h. same_res r (key h)) hs)
    where
      go : (b : Bool) → found g r (cond b (Some (val r)) None) ≡ cond b (g r (val r)) []
      go true = refl
      go false = refl

  -- each item is that of its resource
  abbrev pub AreVals : List (Res × X) → Type 0
  AreVals [] = Unit {0}
  AreVals (e ∷ m) = (e.1 ≡ val e.0) × AreVals m

  put-vals : (k : Res) (m : List (Res × X)) → AreVals m → AreVals (put res_order k (val k) m)
  put-vals k [] h = (refl, tt)
  put-vals k (e ∷ m) h = go (res_order k e.0) refl (put-vals k m h.1)
    where
      go : (o : Ordering) → res_order k e.0 ≡ o → AreVals (put res_order k (val k) m)
          → AreVals (by_order o ((k, val k) ∷ e ∷ m) ((e.0, val k) ∷ m) (e ∷ put res_order k (val k) m))
      go Less is rest = (refl, h)
      go Equal is rest = (ap val (same_res-exact k e.0 (same_res-tie k e.0 ∙ ap is_eq is)), h.1)
      go Greater is rest = (h.0, rest)

  pub built-vals : (hs : List H) → AreVals (built hs)
  built-vals [] = tt
  built-vals (h ∷ hs) = put-vals (key h) (built hs) (built-vals hs)

-- ---- tasks with resources, by name
abbrev name : Pair → Res
name p = p.1

named-twice : (r k : Res) (ps : List Pair) → named r (named k ps) ≡ cond (same_res r k) (named k ps) []
named-twice r k [] = either (same_res r k)
  where
    either : (b : Bool) → ◌≡◌ {A = List Pair} [] (cond b [] [])
    either true = refl
    either false = refl
named-twice r k (p ∷ ps) = go (same_res k p.1) refl (named-twice r k ps)
  where
    go : (b : Bool) → same_res k p.1 ≡ b → named r (named k ps) ≡ cond (same_res r k) (named k ps) []
        → named r (cond b (p ∷ named k ps) (named k ps)) ≡ cond (same_res r k) (cond b (p ∷ named k ps) (named k ps)) []
    go false is rest = rest
    go true is rest =
        ap (λ (c : Bool). cond c (p ∷ named r (named k ps)) (named r (named k ps)))
        (ap (same_res r) (sym (same_res-exact k p.1 is)))
        ∙ here (same_res r k) rest
      where
        here : (c : Bool) → named r (named k ps) ≡ cond c (named k ps) []
            → cond c (p ∷ named r (named k ps)) (named r (named k ps)) ≡ cond c (p ∷ named k ps) []
        here true more = ap (λ (qs : List Pair). p ∷ qs) more
        here false more = more

named-none : (r : Res) (ps : List Pair) → list_any (λ p. same_res r p.1) ps ≡ false → named r ps ≡ []
named-none r [] none = refl
named-none r (p ∷ ps) none = grind (arith, none, named-none r ps)

module _ (all : List Pair) where
  abbrev groups : List Pair → List (Res × List Pair)
  groups = built name (λ r. named r all)

  on_each-built : (ps : List Pair) → on_each all ps ≡ groups ps
  on_each-built [] = refl
  on_each-built (p ∷ ps) = ap (put res_order p.1 (named p.1 all)) (on_each-built ps)

  -- those of one resource
  named-flat : (r : Res) (m : List (Res × List Pair)) → AreVals name (λ q. named q all) m
      → named r (flat_map (λ e. e.1) m) ≡ read_on (λ k v. v) r m
  named-flat r [] h = refl
  named-flat r (e ∷ m) h =
      filter-append (λ p. same_res r p.1) e.1 (flat_map (λ x. x.1) m)
      ∙ ap (λ (qs : List Pair). qs ++ named r (flat_map (λ x. x.1) m))
      (ap (named r) h.0 ∙ named-twice r e.0 all ∙ ap (λ (qs : List Pair). cond (same_res r e.0) qs []) (sym h.0))
      ∙ ap (λ (qs : List Pair). cond (same_res r e.0) e.1 [] ++ qs) (named-flat r m h.1)

  -- in order
  abbrev after : Res → List Pair → Bool
  after k ps = list_all (λ q. not (is_lt (res_order q.1 k))) ps

  all-named : (k : Res) (ps : List Pair) → list_all (λ p. same_res k p.1) (named k ps) ≡ true
  all-named k [] = refl
  all-named k (p ∷ ps) = grind (arith, all-named k ps)

  after-append : (k : Res) (xs ys : List Pair) → after k xs ≡ true → after k ys ≡ true → after k (xs ++ ys) ≡ true
  after-append k [] ys h l = l
  after-append k (x ∷ xs) ys h l = grind (arith, h, l, after-append k xs ys)

  after-same : (k j : Res) (xs : List Pair) → is_lt (res_order j k) ≡ false → list_all (λ p. same_res j p.1) xs ≡ true
      → after k xs ≡ true
  after-same k j [] h l = refl
  after-same k j (x ∷ xs) h l =
      let both = and_parts (same_res j x.1) (list_all (λ p. same_res j p.1) xs) l in
      and_from _ _ (ap not (ap (λ (q : Res). is_lt (res_order q k)) (sym (same_res-exact j x.1 both.0)) ∙ h))
      (after-same k j xs h both.1)

  order-append : (k : Res) (xs ys : List Pair) → list_all (λ p. same_res k p.1) xs ≡ true → after k ys ≡ true
      → in_name_order ys ≡ true → in_name_order (xs ++ ys) ≡ true
  order-append k [] ys same far order = order
  order-append k (x ∷ xs) ys same far order =
      let both = and_parts (same_res k x.1) (list_all (λ p. same_res k p.1) xs) same in
      let one : k ≡ x.1 = same_res-exact k x.1 both.0 in
      and_from _ _ (subst (λ (q : Res). after q (xs ++ ys) ≡ true) one
      (after-append k xs ys (after-same k k xs (ap is_lt (tied_itself res_total k)) both.1) far))
      (order-append k xs ys both.1 far order)

  of-group : (e : Res × List Pair) → e.1 ≡ named e.0 all → list_all (λ p. same_res e.0 p.1) e.1 ≡ true
  of-group e is = ap (list_all (λ p. same_res e.0 p.1)) is ∙ all-named e.0 all

  after-flat : (k : Res) (m : List (Res × List Pair)) → T (below_all res_order k m) → AreVals name (λ q. named q all) m
      → after k (flat_map (λ e. e.1) m) ≡ true
  after-flat k [] below h = refl
  after-flat k (e ∷ m) below h =
      let both = T-both (is_lt (res_order k e.0)) (below_all res_order k m) below in
      after-append k e.1 (flat_map (λ x. x.1) m)
      (after-same k e.0 e.1 (less-not k e.0 both.0) (of-group e h.0)) (after-flat k m both.1 h.1)

  order-flat : (m : List (Res × List Pair)) → T (is_sorted res_order m) → AreVals name (λ q. named q all) m
      → in_name_order (flat_map (λ e. e.1) m) ≡ true
  order-flat [] sorted h = refl
  order-flat (e ∷ m) sorted h =
      let both = T-both (below_all res_order e.0 m) (is_sorted res_order m) sorted in
      order-append e.0 e.1 (flat_map (λ x. x.1) m) (of-group e h.0) (after-flat e.0 m both.0 h.1)
      (order-flat m both.1 h.1)

pub by_name-named : (r : Res) (ps : List Pair) → named r (by_name ps) ≡ named r ps
by_name-named r ps =
    ap (λ (m : List (Res × List Pair)). named r (flat_map (λ e. e.1) m)) (on_each-built ps ps)
    ∙ named-flat ps r (groups ps ps) (built-vals name (λ q. named q ps) ps)
    ∙ built-read name (λ q. named q ps) (λ k v. v) r ps
    ∙ go (list_any (λ p. same_res r p.1) ps) refl
  where
    go : (b : Bool) → list_any (λ p. same_res r p.1) ps ≡ b → cond b (named r ps) [] ≡ named r ps
    go true is = refl
    go false is = sym (named-none r ps is)

pub by_name-order : (ps : List Pair) → in_name_order (by_name ps) ≡ true
by_name-order ps =
    ap (λ (m : List (Res × List Pair)). in_name_order (flat_map (λ e. e.1) m)) (on_each-built ps ps)
    ∙ order-flat ps (groups ps ps) (built-sorted name (λ q. named q ps) ps) (built-vals name (λ q. named q ps) ps)

-- ---- two lists in order that agree on each resource are one
later : (k r : Res) (ys : List Pair) (z : Pair) (zs : List Pair)
    → list_all (λ q. not (is_lt (res_order q.1 k))) ys ≡ true → named r ys ≡ z ∷ zs → is_lt (res_order r k) ≡ false
later k r [] z zs all some = cc
later k r (y ∷ ys) z zs all some =
    let both =
    and_parts (not (is_lt (res_order y.1 k))) (list_all (λ q. not (is_lt (res_order q.1 k))) ys) all in
    go (same_res r y.1) refl both.0 some (later k r ys z zs both.1)
  where
    go : (b : Bool) → same_res r y.1 ≡ b → not (is_lt (res_order y.1 k)) ≡ true
        → cond b (y ∷ named r ys) (named r ys) ≡ z ∷ zs → (named r ys ≡ z ∷ zs → is_lt (res_order r k) ≡ false)
        → is_lt (res_order r k) ≡ false
    go true is first here rest =
        ap (λ (q : Res). is_lt (res_order q k)) (same_res-exact r y.1 is)
        ∙ flip (is_lt (res_order y.1 k)) first
      where
        flip : (c : Bool) → not c ≡ true → c ≡ false
        flip true h = cc
        flip false h = refl
    go false is first here rest = rest here

-- the first of two such lists
first-one : (x y : Pair) (xs ys : List Pair) → list_all (λ q. not (is_lt (res_order q.1 x.1))) xs ≡ true
    → list_all (λ q. not (is_lt (res_order q.1 y.1))) ys ≡ true
    → ((r : Res) → named r (x ∷ xs) ≡ named r (y ∷ ys)) → same_res x.1 y.1 ≡ true
first-one x y xs ys front back agree = go (same_res x.1 y.1) refl
  where
    here : (p : Pair) (ps : List Pair) → named p.1 (p ∷ ps) ≡ p ∷ named p.1 ps
    here p ps = ap (λ (b : Bool). cond b (p ∷ named p.1 ps) (named p.1 ps)) (same_res-itself p.1)

    go : (b : Bool) → same_res x.1 y.1 ≡ b → b ≡ true
    go true is = refl
    go false is =
        let at_y : named x.1 ys ≡ x ∷ named x.1 xs =
        ap (λ (b : Bool). cond b (y ∷ named x.1 ys) (named x.1 ys)) (sym is) ∙ sym (agree x.1) ∙ here x xs in
        let swapped : same_res y.1 x.1 ≡ false = grind (arith, is, same_res-exact y.1 x.1, same_res-itself x.1) in
        let at_x : named y.1 xs ≡ y ∷ named y.1 ys =
        ap (λ (b : Bool). cond b (x ∷ named y.1 xs) (named y.1 xs)) (sym swapped) ∙ agree y.1 ∙ here y ys in
        let a : is_lt (res_order x.1 y.1) ≡ false = later y.1 x.1 ys x (named x.1 xs) back at_y in
        let b : is_lt (res_order y.1 x.1) ≡ false = later x.1 y.1 xs y (named y.1 ys) front at_x in
        sym is ∙ sym (ties-same x.1 y.1) ∙ ap (λ (c : Bool). not c && not (is_lt (res_order y.1 x.1))) a ∙ ap not b

pub one-order : (xs ys : List Pair) → in_name_order xs ≡ true → in_name_order ys ≡ true
    → ((r : Res) → named r xs ≡ named r ys) → xs ≡ ys
one-order [] [] up down agree = refl
one-order [] (y ∷ ys) up down agree =
    absurd (let z : [] ≡ y ∷ named y.1 ys =
    agree y.1 ∙ ap (λ (b : Bool). cond b (y ∷ named y.1 ys) (named y.1 ys)) (same_res-itself y.1) in cc)
one-order (x ∷ xs) [] up down agree =
    absurd (let z : [] ≡ x ∷ named x.1 xs =
    sym (agree x.1) ∙ ap (λ (b : Bool). cond b (x ∷ named x.1 xs) (named x.1 xs)) (same_res-itself x.1) in cc)
one-order (x ∷ xs) (y ∷ ys) up down agree =
    let front = and_parts (list_all (λ q. not (is_lt (res_order q.1 x.1))) xs) (in_name_order xs) up in
    let back = and_parts (list_all (λ q. not (is_lt (res_order q.1 y.1))) ys) (in_name_order ys) down in
    let same : x.1 ≡ y.1 = same_res-exact x.1 y.1 (first-one x y xs ys front.0 back.0 agree) in
    let heads : x ∷ named x.1 xs ≡ y ∷ named x.1 ys =
    sym (ap (λ (b : Bool). cond b (x ∷ named x.1 xs) (named x.1 xs)) (same_res-itself x.1))
    ∙ agree x.1
    ∙ ap (λ (b : Bool). cond b (y ∷ named x.1 ys) (named x.1 ys))
    (ap (same_res x.1) (sym same) ∙ same_res-itself x.1) in
    let one : x ≡ y = cc in
    let rest : xs ≡ ys =
    one-order xs ys front.1 back.1 (λ r. tails r (same_res r x.1) (same_res r y.1) (ap (same_res r) same) (agree r)) in
    λ i. one i ∷ rest i
  where
    tails : (r : Res) (b c : Bool) → b ≡ c → cond b (x ∷ named r xs) (named r xs) ≡ cond c (y ∷ named r ys) (named r ys)
        → named r xs ≡ named r ys
    tails r true true is h = cc
    tails r false false is h = h
    tails r true false is h = cc
    tails r false true is h = cc

-- ---- what a stable sort by resources leaves
abbrev pub sooner_pair : Pair → Pair → Bool
sooner_pair x y = is_lt (res_order x.1 y.1)

all-from : (k : Pair) (xs : List Pair) → ((j : ℕ) (d : Pair) → j < length xs → sooner_pair (get_or xs j d) k ≡ false)
    → list_all (λ q. not (is_lt (res_order q.1 k.1))) xs ≡ true
all-from k [] h = refl
all-from k (x ∷ xs) h =
    and_from _ _ (ap not (h 0 x (omega arith))) (all-from k xs (λ j d l. h (suc j) d (omega (arith, l))))

order-from : (xs : List Pair)
    → ((i j : ℕ) (d : Pair) → i ≤ j → j < length xs → sooner_pair (get_or xs j d) (get_or xs i d) ≡ false)
    → in_name_order xs ≡ true
order-from [] h = refl
order-from (x ∷ xs) h =
    and_from _ _ (all-from x xs (λ j d l. h 0 (suc j) d (omega arith) (omega (arith, l))))
    (order-from xs (λ i j d le l. h (suc i) (suc j) d (omega (arith, le)) (omega (arith, l))))

filter-same : {X : Type 0} (p q : X → Bool) → ((x : X) → p x ≡ q x) → (xs : List X) → filter p xs ≡ filter q xs
filter-same p q same [] = refl
filter-same p q same (x ∷ xs) =
    ap (λ (b : Bool). cond b (x ∷ filter p xs) (filter p xs)) (same x)
    ∙ ap (λ (ys : List _). cond (q x) (x ∷ ys) ys) (filter-same p q same xs)

sorted-by_name : (ps ys : List Pair) → IsSortedBy sooner_pair ys → IsStableBy sooner_pair ps ys → ys ≡ by_name ps
sorted-by_name ps ys sorted stable =
    one-order ys (by_name ps)
    (order-from ys (sorted_far sooner_pair (ranks_by res_total (λ (p : Pair). p.1)) ys sorted)) (by_name-order ps)
    (λ r.
    sym (filter-same (ties sooner_pair (any r)) (λ p. same_res r p.1) (λ p. ties-same r p.1) ys)
    ∙ stable (any r)
    ∙ filter-same (ties sooner_pair (any r)) (λ p. same_res r p.1) (λ p. ties-same r p.1) ps
    ∙ sym (by_name-named r ps))
  where
    any : Res → Pair
    any r = (record { system = record { 0 = 0 }; job = 0; task = 0 }, r)

pub sort-by_name : {F : Type 0} {g : Mut F (Bor Pair × (Bor Pair × Unit {0})) Ordering} {f : F} (ps ys : List Pair)
    → ((lt : Pair → Pair → Bool) → IsStrictWeakOrder lt → ComparesAs g lt f → IsSortedBy lt ys)
    → ((lt : Pair → Pair → Bool) → IsStrictWeakOrder lt → ComparesAs g lt f → IsStableBy lt ps ys)
    → ((a : Bor Pair × (Bor Pair × Unit {0})) (o : Ordering) (f' : F) → Called g f a o f'
    → (o ≡ res_order a.0.now.1 a.1.0.now.1) × (f' ≡ f))
    → ys ≡ by_name ps
sort-by_name {g = g} {f = f} ps ys sorted stable calls =
    let weak = ranks_by res_total (λ (p : Pair). p.1) in
    let compares =
    always_returns_same g (λ a o. is_lt o ≡ sooner_pair a.0.now a.1.0.now) f
    (λ a o f' k. (ap is_lt (calls a o f' k).0, (calls a o f' k).1)) in
    sorted-by_name ps ys (sorted sooner_pair weak compares) (stable sooner_pair weak compares)
