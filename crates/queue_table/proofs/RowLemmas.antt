-- Lists in the order in which they are shown.
use Rattle.std.proofs.Common.{◌≡◌, ◌⊎◌, ◌≤◌, ◌<◌, ◌+◌, ℕ, zero, suc, Bool, true, false, cond, T, not, List, []}
use Rattle.std.proofs.Common.{◌∷◌}
use Rattle.std.proofs.Common.{◌++◌, ◌&&◌, map, length, get_or, drop, take, Option, Some, None, refl, ap, sym, ◌∙◌}
use Rattle.std.proofs.Common.{subst, arith}
use Rattle.std.proofs.Common.{nat_eq, append-nil, append_assoc, inl, inr}
use Rattle.std.proofs.Math.Dec.{eqb-suc-zero}
use Rattle.std.proofs.Math.ListN.{drop_of_length-le}
use Rattle.std.proofs.lemmas.Bool.{and_parts, and_from}
use Rattle.std.proofs.lemmas.List.Sorted.{ranks_by, sorted_far, All-permutation}
use Rattle.std.specs.Prelude.{slice_get, filter, ◌==◌}
use Rattle.std.specs.Option.{option_map}
use Rattle.std.specs.declared.cmp.Ordering.{Ordering}
use Rattle.std.specs.declared.cmp.Ordering.TheVariants.{Less, Equal, Greater}
use Rattle.std.specs.Ordering.{eq_by_cmp, is_lt, is_eq, ordering_reverse}
use Rattle.std.specs.Cmp.{IsTotalOrder, IsStrictWeakOrder}
use Rattle.std.specs.List.Sorted.{ties, IsSortedBy, IsStableBy, IsPermutation}
use Rattle.std.specs.FinMap.{put, find, is_sorted, IsAntisymmetric}
use Rattle.std.specs.FinMap.Entries.{below_all, is_sorted-put, find-put, same_entries, where_key, is_sorted-where_key}
use Rattle.std.specs.FinMap.Entries.{find-where_key}
use Rattle.std.specs.Fn.{Called, ComparesAs}
use Rattle.std.proofs.lemmas.Fn.{always_returns_same}
use denote.Param.Members.{Mut}
use denote.Ref.{Bor}
use Rattle.grs_base.specs.Same.{same_res}
use Rattle.grs_base.specs.State.{Held, State, list_at, list_at_some, list_of}
use Rattle.grs_base.specs.ResOrder.{res_order}
use Rattle.grs_base.specs.Rows.{lists_from, lists_of, row_of}
use Rattle.grs_base.specs.Looks.{matches, is_contended}
use Rattle.grs_base.specs.declared.look.Place.{Place}
use Rattle.grs_base.specs.declared.look.Filter.{Filter}
use Rattle.grs_base.specs.declared.look.Filter.TheVariants.{All, Contended, Named}
use Rattle.grs_base.specs.declared.resource.Row.{Row}
use Rattle.grs_base.specs.declared.resource.Res.{Res}
use Rattle.grs_base.specs.declared.resource.Elem.{Elem}
use Rattle.grs_base.proofs.SameLaws.{same_res-exact, same_res-itself}
use Rattle.grs_base.proofs.OrderLaws.{res_total, res_order-IsAntisymmetric, same_res-tie}
use Rattle.queue_table.specs.Names.{Numbers, queue_number, named, is_paired, all_numbers}
use Rattle.queue_table.specs.Shown.{has_elements, kept, sooner, numbers_of, lists_at, AreLive, is_of, may_show}
use Rattle.queue_table.specs.Shown.{passes, shows}
use Rattle.queue_table.specs.Classes.{class_of, last_place, visits}
use Rattle.queue_table.proofs.NameLemmas.{list_of-some}
use Rattle.queue_table.proofs.ClassLemmas.{classes_of, IsOnWay, next-is, visited-none}

-- an element before those behind it
drop_at_get : {X : Type 0} (xs : List X) (i : ℕ) (x : X) → slice_get xs i ≡ Some x → drop i xs ≡ x ∷ drop (i + 1) xs
drop_at_get [] i x e = cc
drop_at_get (y ∷ xs) zero x e = grind (arith, e)
drop_at_get (y ∷ xs) (suc i) x e = grind (arith, e, drop_at_get xs i x)

abbrev Lists : Type 0
Lists = List (Res × List Elem)

-- what is found of a list that is put in unless it is empty
abbrev found : {X : Type 0} → List X → Option (List X) → Option (List X)
found [] o = o
found (x ∷ xs) o = Some (x ∷ xs)

-- what is found of the first list where the other has elements
abbrev shown : {X : Type 0} → List X → List X → Option (List X)
shown [] ys = None
shown (x ∷ xs) ys = Some ys

found-shown : {X : Type 0} (xs : List X) → found xs None ≡ shown xs xs
found-shown [] = refl
found-shown (x ∷ xs) = refl

either : {X : Type 0} (b : Bool) (x : X) → x ≡ cond b x x
either true x = refl
either false x = refl

none_behind : (e : Res × ℕ) (es : Numbers) (q : Res) → is_paired (e ∷ es) ≡ true → q ≡ e.0 → queue_number es q ≡ None
none_behind e es q p is = ap (queue_number es) is ∙ step (queue_number es e.0) refl
  where
    step : (o : Option ℕ) → queue_number es e.0 ≡ o → o ≡ None
    step None h = refl
    step (Some n) h = grind (arith, p, h)

module _ (R : Res → Res → Ordering) (total : IsTotalOrder R) (exact : IsAntisymmetric R)
    (tie : (a b : Res) → same_res a b ≡ eq_by_cmp R a b) where
  -- the definitions over any order
  abbrev from : State → State → Lists
  from s [] = []
  from s (h ∷ hs) = put R h.0 (list_of s h.0) (from s hs)

  from-sorted : (s hs : State) → T (is_sorted R (from s hs))
  from-sorted s [] = tt
  from-sorted s (h ∷ hs) = is_sorted-put R total h.0 (list_of s h.0) (from s hs) (from-sorted s hs)

  find-from : (s hs : State) (q : Res) → find R q (from s hs) ≡ shown (list_of hs q) (list_of s q)
  find-from s [] q = refl
  find-from s (h ∷ hs) q =
      find-put R total q h.0 (list_of s h.0) (from s hs)
      ∙ ap (λ (b : Bool). cond b (Some (list_of s h.0)) (find R q (from s hs))) (sym (tie q h.0))
      ∙ step (same_res q h.0) refl (find-from s hs q)
    where
      step : (b : Bool) → same_res q h.0 ≡ b → find R q (from s hs) ≡ shown (list_of hs q) (list_of s q)
          → cond b (Some (list_of s h.0)) (find R q (from s hs))
          ≡ shown (cond b (h.1 ∷ list_of hs q) (list_of hs q)) (list_of s q)
      step true e rest = ap (λ (r : Res). Some (list_of s r)) (sym (same_res-exact q h.0 e))
      step false e rest = rest

-- ---- resources with their queues
-- the number of a resource, if its queue has elements
abbrev held_number : Held ℕ → Option ℕ → Option ℕ
held_number hs None = None
held_number hs (Some n) = cond (has_elements hs n) (Some n) None

-- what is kept of numbers names what all name, of the resources that pass and have elements
number-kept : (t : Res → Bool) (hs : Held ℕ) (es : Numbers) (q : Res) → is_paired es ≡ true
    → queue_number (kept t hs es) q ≡ cond (t q) (held_number hs (queue_number es q)) None
number-kept t hs [] q p = either (t q) None
number-kept t hs (e ∷ es) q p = step (same_res q e.0) refl (number-kept t hs es q (grind (arith, p)))
  where
    here : (b : Bool) → t e.0 ≡ b → (c : Bool) → has_elements hs e.1 ≡ c → q ≡ e.0 → same_res q e.0 ≡ true
        → queue_number (kept t hs es) q ≡ cond (t q) (held_number hs (queue_number es q)) None
        → queue_number (cond (b && c) (e ∷ kept t hs es) (kept t hs es)) q
        ≡ cond (t q) (held_number hs (Some e.1)) None
    here true is true some same one rest = rw (one, ap t same ∙ is, some) refl
    here true is false none same one rest =
        rest
        ∙ ap (λ (o : Option ℕ). cond (t q) (held_number hs o) None) (none_behind e es q p same)
        ∙ ap (λ (b : Bool). cond (t q) (cond b (Some e.1) None) None) (sym none)
    here false is c some same one rest =
        let not_here : t q ≡ false = ap t same ∙ is in
        rest
        ∙ ap (λ (b : Bool). cond b (held_number hs (queue_number es q)) None) not_here
        ∙ ap (λ (b : Bool). cond b (held_number hs (Some e.1)) None) (sym not_here)

    there : (b : Bool) → same_res q e.0 ≡ false
        → queue_number (cond b (e ∷ kept t hs es) (kept t hs es)) q ≡ queue_number (kept t hs es) q
    there true other = ap (λ (c : Bool). cond c (Some e.1) (queue_number (kept t hs es) q)) other
    there false other = refl

    step : (b : Bool) → same_res q e.0 ≡ b
        → queue_number (kept t hs es) q ≡ cond (t q) (held_number hs (queue_number es q)) None
        → queue_number (cond (t e.0 && has_elements hs e.1) (e ∷ kept t hs es) (kept t hs es)) q
        ≡ cond (t q) (held_number hs (cond b (Some e.1) (queue_number es q))) None
    step true is rest = here (t e.0) refl (has_elements hs e.1) refl (same_res-exact q e.0 is) is rest
    step false is rest = there (t e.0 && has_elements hs e.1) is ∙ rest

-- the list of what is kept, if there is one
list-held : (hs : Held ℕ) (o : Option ℕ)
    → option_map (list_at nat_eq hs) (held_number hs o) ≡ found (list_at_some hs o) None
list-held hs None = refl
list-held hs (Some n) = by (list_at nat_eq hs n) refl
  where
    by : (xs : List Elem) → list_at nat_eq hs n ≡ xs
        → option_map (list_at nat_eq hs) (cond (not (length xs == 0)) (Some n) None) ≡ found xs None
    by [] is = refl
    by (x ∷ xs) is =
        ap (λ (b : Bool). option_map (list_at nat_eq hs) (cond (not b) (Some n) None)) (eqb-suc-zero (length xs))
        ∙ ap (λ (l : List Elem). Some l) is

-- ---- each resource once
abbrev of_number : Res → Numbers → Numbers
of_number q es = filter (λ e. same_res q e.0) es

none-numbered : (q : Res) (es : Numbers) → queue_number es q ≡ None → of_number q es ≡ []
none-numbered q [] none = refl
none-numbered q (e ∷ es) none = step (same_res q e.0) none (none-numbered q es)
  where
    step : (b : Bool) → cond b (Some e.1) (queue_number es q) ≡ None → (queue_number es q ≡ None → of_number q es ≡ [])
        → cond b (e ∷ of_number q es) (of_number q es) ≡ []
    step true h rest = cc
    step false h rest = rest h

once-paired : (q : Res) (es : Numbers) → is_paired es ≡ true → length (of_number q es) ≤ 1
once-paired q [] p = omega arith
once-paired q (e ∷ es) p = step (same_res q e.0) refl (once-paired q es (grind (arith, p)))
  where
    step : (b : Bool) → same_res q e.0 ≡ b → length (of_number q es) ≤ 1
        → length (cond b (e ∷ of_number q es) (of_number q es)) ≤ 1
    step true is rest =
        let none : of_number q es ≡ [] = none-numbered q es (none_behind e es q p (same_res-exact q e.0 is)) in
        subst (λ (l : Numbers). length (e ∷ l) ≤ 1) (sym none) (omega arith)
    step false is rest = rest

fewer-kept : (t : Res → Bool) (hs : Held ℕ) (q : Res) (es : Numbers)
    → length (of_number q (kept t hs es)) ≤ length (of_number q es)
fewer-kept t hs q [] = omega arith
fewer-kept t hs q (e ∷ es) = step (t e.0 && has_elements hs e.1) (same_res q e.0) refl (fewer-kept t hs q es)
  where
    step : (b c : Bool) → same_res q e.0 ≡ c → length (of_number q (kept t hs es)) ≤ length (of_number q es)
        → length (of_number q (cond b (e ∷ kept t hs es) (kept t hs es)))
        ≤ length (cond c (e ∷ of_number q es) (of_number q es))
    step true true is less = rw is (omega (arith, less))
    step true false is less = rw is less
    step false true is less = omega (arith, less)
    step false false is less = less

-- ---- in order
T-pair : (a b : Bool) → T a → T b → T (a && b)
T-pair true b x y = y
T-pair false b x y = absurd x

module _ (R : Res → Res → Ordering) (total : IsTotalOrder R) (exact : IsAntisymmetric R)
    (tie : (a b : Res) → same_res a b ≡ eq_by_cmp R a b) {X : Type 0} (key : X → Res) (num : X → ℕ) where
  abbrev numbers : List X → Numbers
  numbers xs = map (λ x. (key x, num x)) xs

  abbrev lists : Held ℕ → List X → Lists
  lists hs xs = map (λ x. (key x, list_at nat_eq hs (num x))) xs

  abbrev those : Res → List X → List X
  those q xs = filter (λ x. same_res q (key x)) xs

  abbrev less : X → X → Bool
  less x y = is_lt (R (key x) (key y))

  number-those : (q : Res) (xs : List X) → queue_number (numbers xs) q ≡ queue_number (numbers (those q xs)) q
  number-those q [] = refl
  number-those q (x ∷ xs) = step (same_res q (key x)) refl (number-those q xs)
    where
      step : (b : Bool) → same_res q (key x) ≡ b → queue_number (numbers xs) q ≡ queue_number (numbers (those q xs)) q
          → cond (same_res q (key x)) (Some (num x)) (queue_number (numbers xs) q)
          ≡ queue_number (numbers (cond b (x ∷ those q xs) (those q xs))) q
      step true is rest = rw is refl
      step false is rest =
          ap (λ (c : Bool). cond c (Some (num x)) (queue_number (numbers xs) q)) is ∙ rest

  find-number : (hs : Held ℕ) (xs : List X) (q : Res)
      → find R q (lists hs xs) ≡ option_map (list_at nat_eq hs) (queue_number (numbers xs) q)
  find-number hs [] q = refl
  find-number hs (x ∷ xs) q =
      ap (λ (b : Bool). cond b (Some (list_at nat_eq hs (num x))) (find R q (lists hs xs))) (sym (tie q (key x)))
      ∙ ap (cond (same_res q (key x)) (Some (list_at nat_eq hs (num x)))) (find-number hs xs q)
      ∙ step (same_res q (key x))
    where
      step : (b : Bool)
          → cond b (Some (list_at nat_eq hs (num x))) (option_map (list_at nat_eq hs) (queue_number (numbers xs) q))
          ≡ option_map (list_at nat_eq hs) (cond b (Some (num x)) (queue_number (numbers xs) q))
      step true = refl
      step false = refl

  of-numbers : (q : Res) (xs : List X) → length (those q xs) ≡ length (of_number q (numbers xs))
  of-numbers q [] = refl
  of-numbers q (x ∷ xs) = step (same_res q (key x)) (of-numbers q xs)
    where
      step : (b : Bool) → length (those q xs) ≡ length (of_number q (numbers xs))
          → length (cond b (x ∷ those q xs) (those q xs))
          ≡ length (cond b ((key x, num x) ∷ of_number q (numbers xs)) (of_number q (numbers xs)))
      step true rest = ap (λ (n : ℕ). suc n) rest
      step false rest = rest

  -- no resource stands twice
  abbrev Once : List X → Type 0
  Once xs = (q : Res) → length (those q xs) ≤ 1

  once-tail : (x : X) (xs : List X) → Once (x ∷ xs) → Once xs
  once-tail x xs once q = step (same_res q (key x)) (once q)
    where
      step : (b : Bool) → length (cond b (x ∷ those q xs) (those q xs)) ≤ 1 → length (those q xs) ≤ 1
      step true h = omega (arith, h)
      step false h = h

  none-same : (x : X) (xs : List X) → Once (x ∷ xs) → those (key x) xs ≡ []
  none-same x xs once =
      empty (those (key x) xs)
      (subst (λ (b : Bool). length (cond b (x ∷ those (key x) xs) (those (key x) xs)) ≤ 1) (same_res-itself (key x))
      (once (key x)))
    where
      empty : (ys : List X) → suc (length ys) ≤ 1 → ys ≡ []
      empty [] h = refl
      empty (y ∷ ys) h = absurd (omega (arith, h))

  less-from : (a b : Res) → is_lt (R b a) ≡ false → same_res a b ≡ false → T (is_lt (R a b))
  less-from a b far apart =
      step (R a b) (sym (ap is_lt (total.antisymm b a)) ∙ far) (sym (tie a b) ∙ apart)
    where
      step : (o : Ordering) → is_lt (ordering_reverse o) ≡ false → is_eq o ≡ false → T (is_lt o)
      step Less h k = tt
      step Equal h k = cc
      step Greater h k = cc

  below : (hs : Held ℕ) (x : X) (xs : List X) → ((j : ℕ) (d : X) → j < length xs → less (get_or xs j d) x ≡ false)
      → those (key x) xs ≡ [] → T (below_all R (key x) (lists hs xs))
  below hs x [] far none = tt
  below hs x (y ∷ ys) far none =
      let both = parts (same_res (key x) (key y)) refl none in
      T-pair (is_lt (R (key x) (key y))) (below_all R (key x) (lists hs ys))
      (less-from (key x) (key y) (far 0 y (omega arith)) both.0)
      (below hs x ys (λ j d l. far (suc j) d (omega (arith, l))) both.1)
    where
      parts : (b : Bool) → same_res (key x) (key y) ≡ b → cond b (y ∷ those (key x) ys) (those (key x) ys) ≡ []
          → (same_res (key x) (key y) ≡ false) × (those (key x) ys ≡ [])
      parts true is h = cc
      parts false is h = (is, h)

  sorted-lists : (hs : Held ℕ) (xs : List X)
      → ((i j : ℕ) (d : X) → i ≤ j → j < length xs → less (get_or xs j d) (get_or xs i d) ≡ false)
      → Once xs → T (is_sorted R (lists hs xs))
  sorted-lists hs [] far once = tt
  sorted-lists hs (x ∷ xs) far once =
      T-pair (below_all R (key x) (lists hs xs)) (is_sorted R (lists hs xs))
      (below hs x xs (λ j d l. far 0 (suc j) d (omega arith) (omega (arith, l))) (none-same x xs once))
      (sorted-lists hs xs (λ i j d le l. far (suc i) (suc j) d (omega (arith, le)) (omega (arith, l)))
      (once-tail x xs once))

  -- sorted resources of entries that name what all name, of the resources that pass
  shown-from : (t : Res → Bool) (ns es : Numbers) (hs : Held ℕ) (ps ys : List X) → is_paired ns ≡ true
      → is_paired es ≡ true → ((q : Res) → t q ≡ true → queue_number ns q ≡ queue_number es q)
      → numbers ps ≡ kept t hs ns
      → ((i j : ℕ) (d : X) → i ≤ j → j < length ys → less (get_or ys j d) (get_or ys i d) ≡ false)
      → ((q : Res) → those q ys ≡ those q ps)
      → lists hs ys
      ≡ where_key R t (from R total exact tie (named es hs) (named es hs))
  shown-from t ns es hs ps ys apart p same are far agree =
      same_entries R total exact (lists hs ys) (where_key R t (from R total exact tie (named es hs) (named es hs)))
      (sorted-lists hs ys far once)
      (is_sorted-where_key R t _ (from-sorted R total exact tie (named es hs) (named es hs)))
      (λ q.
      find-number hs ys q
      ∙ ap (option_map (list_at nat_eq hs))
      (number-those q ys
      ∙ ap (λ (l : List X). queue_number (numbers l) q) (agree q)
      ∙ sym (number-those q ps)
      ∙ ap (λ (l : Numbers). queue_number l q) are
      ∙ number-kept t hs ns q apart)
      ∙ by_test q (t q) refl
      ∙ ap (λ (l : List Elem). cond (t q) (found l None) None) (list_of-some es hs q (queue_number es q) p refl)
      ∙ ap (λ (o : Option (List Elem)). cond (t q) o None)
      (found-shown (list_of (named es hs) q) ∙ sym (find-from R total exact tie (named es hs) (named es hs) q))
      ∙ sym (find-where_key R t q (λ x tied. ap t (sym (exact q x tied)))
      (from R total exact tie (named es hs) (named es hs))))
    where
      once : Once ys
      once q =
          let kept_once : length (of_number q (kept t hs ns)) ≤ length (of_number q ns) = fewer-kept t hs q ns in
          let one : length (of_number q ns) ≤ 1 = once-paired q ns apart in
          let long : length (those q ys) ≡ length (of_number q (kept t hs ns)) =
          ap (λ (l : List X). length l) (agree q)
          ∙ of-numbers q ps
          ∙ ap (λ (l : Numbers). length (of_number q l)) are in
          omega (arith, kept_once, one, long)

      by_test : (q : Res) (b : Bool) → t q ≡ b
          → option_map (list_at nat_eq hs) (cond b (held_number hs (queue_number ns q)) None)
          ≡ cond b (found (list_at_some hs (queue_number es q)) None) None
      by_test q true f = list-held hs (queue_number ns q) ∙ ap (λ o. found (list_at_some hs o) None) (same q f)
      by_test q false f = refl

lists_from-from : (s hs : State)
    → lists_from s hs ≡ from res_order res_total res_order-IsAntisymmetric same_res-tie s hs
lists_from-from s [] = refl
lists_from-from s (h ∷ hs) = ap (put res_order h.0 (list_of s h.0)) (lists_from-from s hs)

-- references to resources, each with the number of its queue
abbrev pub Found : Type 0
Found = Bor Res × ℕ

-- what a sort by the order of resources ensures
pub sooner-weak : IsStrictWeakOrder sooner
sooner-weak = ranks_by res_total (λ (x : Found). x.0.now)

module _ {F : Type 0} {g : Mut F (Bor Found × (Bor Found × Unit {0})) Ordering} {f : F}
    (calls : (a : Bor Found × (Bor Found × Unit {0})) (o : Ordering) (f' : F) → Called g f a o f'
    → (o ≡ res_order a.0.now.0.now a.1.0.now.0.now) × (f' ≡ f)) where
  compares : ComparesAs g sooner f
  compares =
      always_returns_same g (λ a o. is_lt o ≡ sooner a.0.now a.1.0.now) f
      (λ a o f' k. (ap is_lt (calls a o f' k).0, (calls a o f' k).1))

  pub sort-sorted : (ys : List Found)
      → ((lt : Found → Found → Bool) → IsStrictWeakOrder lt → ComparesAs g lt f → IsSortedBy lt ys)
      → IsSortedBy sooner ys
  sort-sorted ys sorted = sorted sooner sooner-weak compares

  pub sort-stable : (xs ys : List Found)
      → ((lt : Found → Found → Bool) → IsStrictWeakOrder lt → ComparesAs g lt f → IsStableBy lt xs ys)
      → IsStableBy sooner xs ys
  sort-stable xs ys stable = stable sooner sooner-weak compares

abbrev found_of : Res → List Found → List Found
found_of q xs = filter (λ x. same_res q x.0.now) xs

-- the same by the order in which resources are shown
pub in_order-shown : (t : Res → Bool) (ns es : Numbers) (hs : Held ℕ) (ps ys : List Found) → is_paired ns ≡ true
    → is_paired es ≡ true → ((q : Res) → t q ≡ true → queue_number ns q ≡ queue_number es q)
    → numbers_of ps ≡ kept t hs ns → IsSortedBy sooner ys → IsStableBy sooner ps ys
    → lists_at hs ys ≡ filter (λ e. t e.0) (lists_of (named es hs))
in_order-shown t ns es hs ps ys apart p same are sorted stable =
    shown-from res_order res_total res_order-IsAntisymmetric same_res-tie (λ (x : Found). x.0.now) (λ (x : Found). x.1)
    t ns
    es hs ps ys apart p same are (sorted_far sooner sooner-weak ys sorted) agree
    ∙ ap (filter (λ (e : Res × List Elem). t e.0)) (sym (lists_from-from (named es hs) (named es hs)))
  where
    -- neither of two is shown before the other exactly where they are one
    ties-same : (a b : Res) → (not (is_lt (res_order a b)) && not (is_lt (res_order b a))) ≡ same_res a b
    ties-same a b =
        ap (λ (o : Ordering). not (is_lt (res_order a b)) && not (is_lt o)) (res_total.antisymm b a)
        ∙ go (res_order a b)
        ∙ sym (same_res-tie a b)
      where
        go : (o : Ordering) → (not (is_lt o) && not (is_lt (ordering_reverse o))) ≡ is_eq o
        go Less = refl
        go Equal = refl
        go Greater = refl

    same-tests : (f g : Found → Bool) → ((x : Found) → f x ≡ g x) → (xs : List Found) → filter f xs ≡ filter g xs
    same-tests f g alike [] = refl
    same-tests f g alike (x ∷ xs) =
        ap (λ (b : Bool). cond b (x ∷ filter f xs) (filter f xs)) (alike x)
        ∙ ap (λ (l : List Found). cond (g x) (x ∷ l) l) (same-tests f g alike xs)

    one_of : (q : Res) (xs : List Found) → ((x : Found) × (same_res q x.0.now ≡ true)) ⊎ (found_of q xs ≡ [])
    one_of q [] = inr refl
    one_of q (x ∷ xs) = go (same_res q x.0.now) refl (one_of q xs)
      where
        go : (b : Bool) → same_res q x.0.now ≡ b → ((y : Found) × (same_res q y.0.now ≡ true)) ⊎ (found_of q xs ≡ [])
            → ((y : Found) × (same_res q y.0.now ≡ true)) ⊎ (cond b (x ∷ found_of q xs) (found_of q xs) ≡ [])
        go true is rest = inl (x, is)
        go false is (inl y) = inl y
        go false is (inr none) = inr none

    at : (q : Res) (x : Found) → same_res q x.0.now ≡ true → found_of q ys ≡ found_of q ps
    at q x is =
        let one : q ≡ x.0.now = same_res-exact q x.0.now is in
        ap (λ (r : Res). found_of r ys) one
        ∙ sym (same-tests (ties sooner x) (λ y. same_res x.0.now y.0.now) (λ y. ties-same x.0.now y.0.now) ys)
        ∙ stable x
        ∙ same-tests (ties sooner x) (λ y. same_res x.0.now y.0.now) (λ y. ties-same x.0.now y.0.now) ps
        ∙ ap (λ (r : Res). found_of r ps) (sym one)

    agree : (q : Res) → found_of q ys ≡ found_of q ps
    agree q = by (one_of q ys) (one_of q ps)
      where
        by : ((x : Found) × (same_res q x.0.now ≡ true)) ⊎ (found_of q ys ≡ [])
            → ((x : Found) × (same_res q x.0.now ≡ true)) ⊎ (found_of q ps ≡ []) → found_of q ys ≡ found_of q ps
        by (inl x) other = at q x.0 x.1
        by (inr none) (inl x) = at q x.0 x.1
        by (inr none) (inr too) = none ∙ sym too

-- ---- queues that are there
all-append : (live : ℕ → Bool) (es fs : Numbers) → all_numbers live es ≡ true → all_numbers live fs ≡ true
    → all_numbers live (es ++ fs) ≡ true
all-append live [] fs h k = k
all-append live (e ∷ es) fs h k =
    let both = and_parts (live e.1) (all_numbers live es) h in and_from _ _ both.0 (all-append live es fs both.1 k)

all-kept : (live : ℕ → Bool) (t : Res → Bool) (hs : Held ℕ) (es : Numbers) → all_numbers live es ≡ true
    → all_numbers live (kept t hs es) ≡ true
all-kept live t hs [] h = refl
all-kept live t hs (e ∷ es) h =
    let both = and_parts (live e.1) (all_numbers live es) h in
    by (t e.0 && has_elements hs e.1) both.0 (all-kept live t hs es both.1)
  where
    by : (b : Bool) → live e.1 ≡ true → all_numbers live (kept t hs es) ≡ true
        → all_numbers live (cond b (e ∷ kept t hs es) (kept t hs es)) ≡ true
    by true one rest = and_from _ _ one rest
    by false one rest = rest

all-found : (live : ℕ → Bool) (xs : List Found) → all_numbers live (numbers_of xs) ≡ true → (k : ℕ) (d : Found)
    → k < length xs → live (get_or xs k d).1 ≡ true
all-found live [] h k d inside = absurd (omega (arith, inside))
all-found live (x ∷ xs) h zero d inside = (and_parts (live x.1) (all_numbers live (numbers_of xs)) h).0
all-found live (x ∷ xs) h (suc k) d inside =
    all-found live xs (and_parts (live x.1) (all_numbers live (numbers_of xs)) h).1 k d (omega (arith, inside))

pub all-visits : (live : ℕ → Bool) (c : ℕ) (es : Numbers) → all_numbers live es ≡ true
    → all_numbers live (visits c es) ≡ true
all-visits live c [] h = refl
all-visits live c (e ∷ es) h =
    let both = and_parts (live e.1) (all_numbers live es) h in
    all-append live (visits c es) _ (all-visits live c es both.1) (by (nat_eq (class_of e.0) c) both.0)
  where
    by : (b : Bool) → live e.1 ≡ true → all_numbers live (cond b (e ∷ []) []) ≡ true
    by true one = and_from _ _ one refl
    by false one = refl

-- those of what is kept, in another order
pub live-shown : (live : ℕ → Bool) (t : Res → Bool) (hs : Held ℕ) (ns : Numbers) (xs ys : List Found)
    → all_numbers live ns ≡ true → numbers_of xs ≡ kept t hs ns → IsPermutation xs ys → AreLive live ys
live-shown live t hs ns xs ys all is moved =
    All-permutation (λ (x : Found). live x.1 ≡ true) xs ys moved
    (all-found live xs
    (subst (λ (l : Numbers). all_numbers live l ≡ true) (sym is) (all-kept live t hs ns all)))

-- ---- what is found, entry by entry
-- the numbers of one entry more
pub kept-more : (t : Res → Bool) (hs : Held ℕ) (es : Numbers) (i : ℕ) (e : Res × ℕ) (old new all : Numbers)
    → slice_get es i ≡ Some e → new ≡ old ++ cond (t e.0 && has_elements hs e.1) (e ∷ []) []
    → old ++ kept t hs (drop i es) ≡ all → new ++ kept t hs (drop (i + 1) es) ≡ all
kept-more t hs es i e old new all at is so_far =
    ap (λ (l : Numbers). l ++ kept t hs (drop (i + 1) es)) is
    ∙ append_assoc old (cond (t e.0 && has_elements hs e.1) (e ∷ []) []) (kept t hs (drop (i + 1) es))
    ∙ ap (λ (l : Numbers). old ++ l) (one_before (t e.0 && has_elements hs e.1))
    ∙ ap (λ (l : Numbers). old ++ kept t hs l) (sym (drop_at_get es i e at))
    ∙ so_far
  where
    one_before : (b : Bool)
        → cond b (e ∷ []) [] ++ kept t hs (drop (i + 1) es)
        ≡ cond b (e ∷ kept t hs (drop (i + 1) es)) (kept t hs (drop (i + 1) es))
    one_before true = refl
    one_before false = refl

-- when all numbers are passed
pub kept-end : (t : Res → Bool) (hs : Held ℕ) (es : Numbers) (i : ℕ) (found all : Numbers) → length es ≤ i
    → found ++ kept t hs (drop i es) ≡ all → found ≡ all
kept-end t hs es i found all past h =
    sym (append-nil found) ∙ ap (λ (l : Numbers). found ++ kept t hs l) (sym (drop_of_length-le es past)) ∙ h

-- ---- the entries of a class, gathered from its last to its first
-- What is still to be gathered: with it what was found is what is kept of the class.
pub record Gathers (t : Res → Bool) (c : ℕ) (es : Numbers) (hs : Held ℕ) (found : Numbers) (next : Option ℕ) :
    Type 0 where
  pub way : IsOnWay c es next
  pub so_far : found ++ kept t hs (visits c way.front) ≡ kept t hs (visits c es)

pub gathers-begins : (t : Res → Bool) (c : ℕ) (es : Numbers) (hs : Held ℕ) (found : Numbers) (next : Option ℕ)
    → found ≡ [] → next ≡ last_place c (classes_of es) → Gathers t c es hs found next
gathers-begins t c es hs found next none is = record {
  way = record { front = es; back = []; parts = sym (append-nil es); next = is };
  so_far = ap (λ (l : Numbers). l ++ kept t hs (visits c es)) none;
}

pub gathers-next :
    (t : Res → Bool) (c : ℕ) (es : Numbers) (hs : Held ℕ) (old new : Numbers) (p : ℕ) (next : Option ℕ) (e : Res × ℕ)
    → Gathers t c es hs old (Some p) → slice_get es p ≡ Some e
    → new ≡ old ++ cond (t e.0 && has_elements hs e.1) (e ∷ []) []
    → next ≡ last_place c (take p (classes_of es)) → Gathers t c es hs new next
gathers-next t c es hs old new p next e g at is behind =
    let n = next-is c es p g.way in
    let w = n.way next behind in
    let same : n.last.entry ≡ e = let z : Some n.last.entry ≡ Some e = sym n.at ∙ at in cc in
    record {
      way = w.0;
      so_far = ap (λ l. new ++ kept t hs (visits c l)) w.1
          ∙ ap (λ (l : Numbers). l ++ kept t hs (visits c n.last.front)) is
          ∙ append_assoc old (cond (t e.0 && has_elements hs e.1) (e ∷ []) []) (kept t hs (visits c n.last.front))
          ∙ ap (λ (l : Numbers). old ++ l) (one_before (t e.0 && has_elements hs e.1) e n.last.front)
          ∙ ap (λ (x : Res × ℕ). old ++ kept t hs (x ∷ visits c n.last.front)) (sym same)
          ∙ ap (λ l. old ++ kept t hs l) (sym n.last.visited) ∙ g.so_far;
    }
  where
    one_before : (b : Bool) (x : Res × ℕ) (front : Numbers)
        → cond b (x ∷ []) [] ++ kept t hs (visits c front)
        ≡ cond b (x ∷ kept t hs (visits c front)) (kept t hs (visits c front))
    one_before true x front = refl
    one_before false x front = refl

pub gathers-ends : (t : Res → Bool) (c : ℕ) (es : Numbers) (hs : Held ℕ) (found : Numbers)
    → Gathers t c es hs found None → found ≡ kept t hs (visits c es)
gathers-ends t c es hs found g =
    sym (append-nil found)
    ∙ ap (λ l. found ++ kept t hs l) (sym (visited-none c g.way.front (sym g.way.next))) ∙ g.so_far

-- an entry of its class stands at the next place
pub gathers-class : (t : Res → Bool) (c : ℕ) (es : Numbers) (hs : Held ℕ) (found : Numbers) (p : ℕ)
    → Gathers t c es hs found (Some p) → slice_get (classes_of es) p ≡ Some c
gathers-class t c es hs found p g = (next-is c es p g.way).class

pub gathers-there : (t : Res → Bool) (c : ℕ) (es : Numbers) (hs : Held ℕ) (found : Numbers) (p : ℕ)
    → Gathers t c es hs found (Some p) → length es ≤ p → ⊥
gathers-there t c es hs found p g h =
    let z : None ≡ Some (next-is c es p g.way).last.entry = sym (slice_get_past es p h) ∙ (next-is c es p g.way).at in
    cc
  where
    slice_get_past : (xs : Numbers) (n : ℕ) → length xs ≤ n → slice_get xs n ≡ None
    slice_get_past [] n k = refl
    slice_get_past (x ∷ xs) zero k = absurd (omega (arith, k))
    slice_get_past (x ∷ xs) (suc n) k = slice_get_past xs n (omega (arith, k))

-- rows that pass of lists that may be shown
matches_true : (f : Filter) (r : Res) (w : Bool) → matches f r w ≡ true → matches f r true ≡ true
matches_true All r w h = refl
matches_true Contended r w h = refl
matches_true (Named q s) r w h = h

shows_may : (o : Option Place) (f : Filter) (r : Res) (w : Bool) → may_show o f r ≡ false
    → (is_of o r && matches f r w) ≡ false
shows_may o f r w h = grind (arith, h, matches_true f r w)

may_of : (o : Option Place) (f : Filter) (r : Res) → may_show o f r ≡ true → is_of o r ≡ true
may_of o f r h = grind (arith, h)

pub rows-shown : (o : Option Place) (f : Filter) (ls : Lists)
    → filter (passes f) (map row_of (filter (λ e. may_show o f e.0) ls)) ≡ filter (shows o f) (map row_of ls)
rows-shown o f [] = refl
rows-shown o f (e ∷ ls) = step (may_show o f e.0) refl (rows-shown o f ls)
  where
    step : (b : Bool) → may_show o f e.0 ≡ b
        → filter (passes f) (map row_of (filter (λ x. may_show o f x.0) ls)) ≡ filter (shows o f) (map row_of ls) →
        filter (passes f)
        (map row_of (cond b (e ∷ filter (λ x. may_show o f x.0) ls) (filter (λ x. may_show o f x.0) ls)))
        ≡ cond (is_of o e.0 && passes f (row_of e)) (row_of e ∷ filter (shows o f) (map row_of ls))
        (filter (shows o f) (map row_of ls))
    step true m rest = rw (may_of o f e.0 m) (ap (λ (l : List Row). cond (passes f (row_of e)) (row_of e ∷ l) l) rest)
    step false m rest = rw (shows_may o f e.0 (is_contended (row_of e)) m) rest

-- all rows pass where no place and no filter is given
pub rows-all : (rows : List Row) → filter (shows None All) rows ≡ rows
rows-all [] = refl
rows-all (x ∷ rows) = ap (λ (l : List Row). x ∷ l) (rows-all rows)

pub ruleset all_shown = (rows-all)
