-- What requests make of the plain lists of an entry, and of its ranks.
use Rattle.std.proofs.Common.{◌≡◌, ◌<◌, ◌≤◌, ◌+◌, ℕ, Bool, true, false, cond, not, ◌||◌, List, [], ◌∷◌, ◌++◌, length}
use Rattle.std.proofs.Common.{map, filter, Option, Some, None, zero, suc, refl, ap, ◌∙◌, arith}
use Rattle.std.specs.Prelude.{◌==◌, nat_lt, max, slice_set}
use Rattle.std.specs.Option.{option_map_or}
use Rattle.std.specs.List.{list_any, list_all}
use Rattle.std.proofs.lemmas.Bool.Decides.{nat_tests}
use Rattle.grs_base.specs.Same.{same_res}
use Rattle.grs_base.specs.Lists.{decide_enq, is_owner, standing_of}
use Rattle.grs_base.specs.State.{State, list_of, without, with_exclusive, after_effect}
use Rattle.grs_base.specs.declared.decision.Effect.{Effect}
use Rattle.grs_base.specs.declared.decision.Effect.TheVariants.{Nothing, Append, MakeExclusive}
use Rattle.grs_base.specs.declared.resource.Ctl.{Ctl}
use Rattle.grs_base.specs.declared.resource.Elem.{Elem}
use Rattle.grs_base.specs.declared.resource.Res.{Res}
use Rattle.grs_base.specs.declared.resource.TaskId.{TaskId}
use Rattle.grs_wire.specs.Wants.{new_owners}
use Rattle.grs_wire.specs.declared.request.Want.TheVariants.{Enq, Deq, Release, Look}
use Rattle.contention_mgr.specs.Manager.{Ranked, Managed, plain, is_of, exclusive, marked, made_exclusive, taken_out}
use Rattle.contention_mgr.specs.Manager.{with_mark, with_control, enqueued, given_up, settled, kept_at, managed_at}
use Rattle.contention_mgr.specs.Manager.{managed_for, with_entry, entry_wanted}
use Rattle.contention_mgr.specs.Loads.{ranked_list, ranked_rows, greatest, loaded}
use Rattle.lock_structure.specs.RankedRows.{RankedRow, ranks_of, rises, rows_apart}
use Rattle.contention_mgr.specs.Laws.{ListsFollow, TellingKeepsLists, by_rank, IsRanked, RanksBegin, LoadedRanksRise}
use Rattle.contention_mgr.specs.Laws.{RanksRise, TellingKeepsRanks, FirstIsAny, FirstIsUntold, FirstIsLeast, OthersStay}
use Rattle.contention_mgr.proofs.UntoldLemmas.{first-any, first-untold}
use Rattle.contention_mgr.proofs.FirstLaws.{first-least}

-- ---- the plain lists
plain-push : (xs : List Ranked) (x : Ranked) → plain (xs ++ x ∷ []) ≡ plain xs ++ (x.res, x.elem) ∷ []
plain-push [] x = refl
plain-push (y ∷ xs) x = ap (λ (l : State). (y.res, y.elem) ∷ l) (plain-push xs x)

plain-exclusive : (r : Res) (t : TaskId) (xs : List Ranked)
    → plain (made_exclusive r t xs) ≡ with_exclusive same_res (plain xs) r t
plain-exclusive r t [] = refl
plain-exclusive r t (x ∷ xs) = grind (arith, plain-exclusive r t xs)

pub plain-taken : (r : Res) (t : TaskId) (xs : List Ranked) → plain (taken_out r t xs) ≡ without same_res (plain xs) r t
plain-taken r t [] = refl
plain-taken r t (x ∷ xs) = grind (arith, plain-taken r t xs)

pub telling_keeps_lists : TellingKeepsLists
telling_keeps_lists b r t [] = refl
telling_keeps_lists b r t (x ∷ xs) = grind (arith, telling_keeps_lists b r t xs)

pub plain-control : (s : ℕ) (r : Res) (ts : List TaskId) (xs : List Ranked) → plain (with_control s r ts xs) ≡ plain xs
plain-control s r [] xs = refl
plain-control s r (t ∷ ts) xs =
    plain-control s r ts (cond (not (s == t.system.0)) (with_mark true r t xs) xs) ∙ step (not (s == t.system.0))
  where
    step : (b : Bool) → plain (cond b (with_mark true r t xs) xs) ≡ plain xs
    step true = telling_keeps_lists true r t xs
    step false = refl

plain-enqueued : (m : Managed) (r : Res) (t : TaskId) (c : Ctl) (e : Effect)
    → plain (enqueued m r t c e).items ≡ after_effect (plain m.items) r t c e
plain-enqueued m r t c Nothing = refl
plain-enqueued m r t c Append =
    plain-push m.items (record { res = r; elem = record { task = t; ctl = c }; rank = m.next; untold = false })
plain-enqueued m r t c MakeExclusive = plain-exclusive r t m.items

plain-given : (s : ℕ) (m : Managed) (r : Res) (t : TaskId) (ts : List TaskId)
    → plain (given_up s m r t ts).items ≡ without same_res (plain m.items) r t
plain-given s m r t ts = plain-control s r ts (taken_out r t m.items) ∙ plain-taken r t m.items

pub lists_follow : ListsFollow
lists_follow s m t (Enq r c ret full) =
    plain-enqueued m r t c (decide_enq (list_of (plain m.items) r) t c ret full).effect
lists_follow s m t (Deq r have) = step (is_owner (standing_of (list_of (plain m.items) r) t))
  where
    step : (b : Bool)
        → plain (cond b (given_up s m r t (new_owners (plain m.items) t (Deq r have))) m).items
        ≡ cond b (without same_res (plain m.items) r t) (plain m.items)
    step true = plain-given s m r t (new_owners (plain m.items) t (Deq r have))
    step false = refl
lists_follow s m t (Release r) = plain-given s m r t (new_owners (plain m.items) t (Release r))
lists_follow s m t (Look first count f) = refl

-- ---- ranks
abbrev before : Ranked → Ranked → Bool
before x y = not (same_res x.res y.res) || nat_lt x.rank y.rank

abbrev below : ℕ → List Ranked → Bool
below n xs = list_all (λ x. nat_lt x.rank n) xs

before-push : (x : Ranked) (xs : List Ranked) (y : Ranked) → list_all (before x) xs ≡ true → x.rank < y.rank
    → list_all (before x) (xs ++ y ∷ []) ≡ true
before-push x [] y h l = grind (arith, nat_tests, l)
before-push x (z ∷ xs) y h l = grind (arith, h, before-push x xs y)

by_rank-push : (xs : List Ranked) (y : Ranked) → by_rank xs ≡ true → below y.rank xs ≡ true
    → by_rank (xs ++ y ∷ []) ≡ true
by_rank-push [] y h l = refl
by_rank-push (x ∷ xs) y h l = grind (arith, nat_tests, h, l, before-push x xs y, by_rank-push xs y)

below-push : (n k : ℕ) (xs : List Ranked) (y : Ranked) → below n xs ≡ true → y.rank ≡ n → k ≡ n + 1
    → below k (xs ++ y ∷ []) ≡ true
below-push n k [] y h e f = grind (arith, nat_tests, e, f)
below-push n k (x ∷ xs) y h e f = grind (arith, nat_tests, h, e, f, below-push n k xs y)

-- a change that keeps resources and ranks
module _ (f : Ranked → Ranked) (res : (x : Ranked) → (f x).res ≡ x.res)
    (rank : (x : Ranked) → (f x).rank ≡ x.rank) where
  before-map : (x : Ranked) (xs : List Ranked) → list_all (before (f x)) (map f xs) ≡ list_all (before x) xs
  before-map x [] = refl
  before-map x (y ∷ xs) = grind (arith, res x, res y, rank x, rank y, before-map x xs)

  by_rank-map : (xs : List Ranked) → by_rank (map f xs) ≡ by_rank xs
  by_rank-map [] = refl
  by_rank-map (x ∷ xs) = grind (arith, before-map x xs, by_rank-map xs)

  below-map : (n : ℕ) (xs : List Ranked) → below n (map f xs) ≡ below n xs
  below-map n [] = refl
  below-map n (x ∷ xs) = grind (arith, rank x, below-map n xs)

  ranked-map : (n : ℕ) (xs : List Ranked) → IsRanked (record { next = n; items = xs })
      → IsRanked (record { next = n; items = map f xs })
  ranked-map n xs h = record { rising = by_rank-map xs ∙ h.rising; below = below-map n xs ∙ h.below }

-- elements that leave
before-filter : (p : Ranked → Bool) (x : Ranked) (xs : List Ranked) → list_all (before x) xs ≡ true
    → list_all (before x) (filter p xs) ≡ true
before-filter p x [] h = refl
before-filter p x (y ∷ xs) h = grind (arith, h, before-filter p x xs)

pub by_rank-filter : (p : Ranked → Bool) (xs : List Ranked) → by_rank xs ≡ true → by_rank (filter p xs) ≡ true
by_rank-filter p [] h = refl
by_rank-filter p (x ∷ xs) h = grind (arith, h, before-filter p x xs, by_rank-filter p xs)

pub below-filter : (p : Ranked → Bool) (n : ℕ) (xs : List Ranked) → below n xs ≡ true → below n (filter p xs) ≡ true
below-filter p n [] h = refl
below-filter p n (x ∷ xs) h = grind (arith, h, below-filter p n xs)

cond-res : (f : Ranked → Ranked) (b : Bool) (x : Ranked) → (f x).res ≡ x.res → (cond b (f x) x).res ≡ x.res
cond-res f true x e = e
cond-res f false x e = refl

cond-rank : (f : Ranked → Ranked) (b : Bool) (x : Ranked) → (f x).rank ≡ x.rank → (cond b (f x) x).rank ≡ x.rank
cond-rank f true x e = e
cond-rank f false x e = refl

ranked-exclusive : (n : ℕ) (r : Res) (t : TaskId) (xs : List Ranked) → IsRanked (record { next = n; items = xs })
    → IsRanked (record { next = n; items = made_exclusive r t xs })
ranked-exclusive n r t xs =
    ranked-map (λ x. cond (is_of r t x) (exclusive x) x) (λ x. cond-res exclusive (is_of r t x) x refl)
    (λ x. cond-rank exclusive (is_of r t x) x refl) n xs

ranked-mark : (n : ℕ) (b : Bool) (r : Res) (t : TaskId) (xs : List Ranked) → IsRanked (record { next = n; items = xs })
    → IsRanked (record { next = n; items = with_mark b r t xs })
ranked-mark n b r t xs =
    ranked-map (λ x. cond (is_of r t x) (marked b x) x) (λ x. cond-res (marked b) (is_of r t x) x refl)
    (λ x. cond-rank (marked b) (is_of r t x) x refl) n xs

pub ranked-control : (s n : ℕ) (r : Res) (ts : List TaskId) (xs : List Ranked)
    → IsRanked (record { next = n; items = xs })
    → IsRanked (record { next = n; items = with_control s r ts xs })
ranked-control s n r [] xs h = h
ranked-control s n r (t ∷ ts) xs h =
    ranked-control s n r ts (cond (not (s == t.system.0)) (with_mark true r t xs) xs) (step (not (s == t.system.0)))
  where
    step : (b : Bool) → IsRanked (record { next = n; items = cond b (with_mark true r t xs) xs })
    step true = ranked-mark n true r t xs h
    step false = h

ranked-given : (s : ℕ) (m : Managed) (r : Res) (t : TaskId) (ts : List TaskId) → IsRanked m
    → IsRanked (given_up s m r t ts)
ranked-given s m r t ts h =
    ranked-control s m.next r ts (taken_out r t m.items) (record {
      rising = by_rank-filter (λ x. not (is_of r t x)) m.items h.rising;
      below = below-filter (λ x. not (is_of r t x)) m.next m.items h.below;
    })

ranked-enqueued : (m : Managed) (r : Res) (t : TaskId) (c : Ctl) (e : Effect) → IsRanked m
    → IsRanked (enqueued m r t c e)
ranked-enqueued m r t c Nothing h = h
ranked-enqueued m r t c Append h =
    let x : Ranked = record { res = r; elem = record { task = t; ctl = c }; rank = m.next; untold = false } in
    record {
      rising = by_rank-push m.items x h.rising h.below;
      below = below-push m.next (m.next + 1) m.items x h.below refl refl;
    }
ranked-enqueued m r t c MakeExclusive h = ranked-exclusive m.next r t m.items h

pub ranks_rise : RanksRise
ranks_rise s m t (Enq r c ret full) h =
    ranked-enqueued m r t c (decide_enq (list_of (plain m.items) r) t c ret full).effect h
ranks_rise s m t (Deq r have) h = step (is_owner (standing_of (list_of (plain m.items) r) t))
  where
    step : (b : Bool) → IsRanked (cond b (given_up s m r t (new_owners (plain m.items) t (Deq r have))) m)
    step true = ranked-given s m r t (new_owners (plain m.items) t (Deq r have)) h
    step false = h
ranks_rise s m t (Release r) h = ranked-given s m r t (new_owners (plain m.items) t (Release r)) h
ranks_rise s m t (Look first count f) h = h

pub telling_keeps_ranks : TellingKeepsRanks
telling_keeps_ranks t r m h = ranked-mark m.next false r t m.items h

pub ranks_begin : RanksBegin
ranks_begin = record { rising = refl; below = refl }

-- ---- ranks that are loaded
-- elements of other resources than this one
abbrev others : Res → List Ranked → Bool
others r xs = list_all (λ y. not (same_res r y.res)) xs

before-list : (x : Ranked) (r : Res) (es : List Elem) (ns : List ℕ) (zs : List Ranked)
    → list_all (λ k. nat_lt x.rank k) ns ≡ true → others x.res zs ≡ true
    → list_all (before x) (ranked_list r es ns ++ zs) ≡ true
before-list x r [] ns [] h o = refl
before-list x r [] ns (z ∷ zs) h o = grind (arith, o, before-list x r [] ns zs)
before-list x r (e ∷ es) [] [] h o = refl
before-list x r (e ∷ es) [] (z ∷ zs) h o = grind (arith, o, before-list x r (e ∷ es) [] zs)
before-list x r (e ∷ es) (n ∷ ns) zs h o = grind (arith, h, before-list x r es ns zs)

by_rank-list : (r : Res) (es : List Elem) (ns : List ℕ) (zs : List Ranked) → rises ns ≡ true → others r zs ≡ true
    → by_rank zs ≡ true → by_rank (ranked_list r es ns ++ zs) ≡ true
by_rank-list r [] ns zs h o b = b
by_rank-list r (e ∷ es) [] zs h o b = b
by_rank-list r (e ∷ es) (n ∷ ns) zs h o b =
    grind (
      arith,
      h,
      o,
      b,
      before-list (record { res = r; elem = e; rank = n; untold = false }) r es ns zs,
      by_rank-list r es ns zs,
    )

others-list : (r q : Res) (es : List Elem) (ns : List ℕ) (zs : List Ranked) → same_res r q ≡ false → others r zs ≡ true
    → others r (ranked_list q es ns ++ zs) ≡ true
others-list r q [] ns zs h o = o
others-list r q (e ∷ es) [] zs h o = o
others-list r q (e ∷ es) (n ∷ ns) zs h o = grind (arith, h, others-list r q es ns zs)

others-rows : (r : Res) (xs : List RankedRow) → list_any (λ y. same_res r y.0.res) xs ≡ false
    → others r (ranked_rows xs) ≡ true
others-rows r [] h = refl
others-rows r (x ∷ xs) h =
    others-list r x.0.res x.0.elems x.1 (ranked_rows xs) (grind (arith, h)) (others-rows r xs (grind (arith, h)))

by_rank-rows : (xs : List RankedRow) → rows_apart xs ≡ true → list_all (λ x. rises x.1) xs ≡ true
    → by_rank (ranked_rows xs) ≡ true
by_rank-rows [] a h = refl
by_rank-rows (x ∷ xs) a h =
    by_rank-list x.0.res x.0.elems x.1 (ranked_rows xs) (grind (arith, h)) (others-rows x.0.res xs (grind (arith, a)))
    (by_rank-rows xs (grind (arith, a)) (grind (arith, h)))

below-list : (k : ℕ) (r : Res) (es : List Elem) (ns : List ℕ) (zs : List Ranked) → list_all (λ n. nat_lt n k) ns ≡ true
    → below k zs ≡ true → below k (ranked_list r es ns ++ zs) ≡ true
below-list k r [] ns zs h b = b
below-list k r (e ∷ es) [] zs h b = b
below-list k r (e ∷ es) (n ∷ ns) zs h b = grind (arith, h, below-list k r es ns zs)

all-front : (k : ℕ) (ns ms : List ℕ) → list_all (λ n. nat_lt n k) (ns ++ ms) ≡ true
    → list_all (λ n. nat_lt n k) ns ≡ true
all-front k [] ms h = refl
all-front k (n ∷ ns) ms h = grind (arith, h, all-front k ns ms)

all-behind : (k : ℕ) (ns ms : List ℕ) → list_all (λ n. nat_lt n k) (ns ++ ms) ≡ true
    → list_all (λ n. nat_lt n k) ms ≡ true
all-behind k [] ms h = h
all-behind k (n ∷ ns) ms h = all-behind k ns ms (grind (arith, h))

below-rows : (k : ℕ) (xs : List RankedRow) → list_all (λ n. nat_lt n k) (ranks_of xs) ≡ true
    → below k (ranked_rows xs) ≡ true
below-rows k [] h = refl
below-rows k (x ∷ xs) h =
    below-list k x.0.res x.0.elems x.1 (ranked_rows xs) (all-front k x.1 (ranks_of xs) h)
    (below-rows k xs (all-behind k x.1 (ranks_of xs) h))

greatest-from : (k : ℕ) (ns : List ℕ) → k ≤ greatest k ns
greatest-from k [] = omega arith
greatest-from k (n ∷ ns) = let rest = greatest-from (max k n) ns in omega (arith, rest)

pub below-greatest : (k top : ℕ) (ns : List ℕ) → greatest k ns < top → list_all (λ n. nat_lt n top) ns ≡ true
below-greatest k top [] h = refl
below-greatest k top (n ∷ ns) h =
    let from = greatest-from (max k n) ns in
    let small : n < top = omega (arith, h, from) in
    grind (arith, nat_tests, small, below-greatest (max k n) top ns h)

pub loaded-ranked : (xs : List RankedRow) → rows_apart xs ≡ true → list_all (λ x. rises x.1) xs ≡ true
    → IsRanked (loaded xs)
loaded-ranked xs once rising = record {
  rising = by_rank-rows xs once rising;
  below =
      below-rows (greatest 0 (ranks_of xs) + 1) xs
      (below-greatest 0 (greatest 0 (ranks_of xs) + 1) (ranks_of xs) (omega arith));
}

pub loaded_ranks_rise : LoadedRanksRise
loaded_ranks_rise entries e xs h = loaded-ranked xs h.once h.rising

-- ---- who is told first
pub first_is_any : FirstIsAny
first_is_any = first-any

pub first_is_untold : FirstIsUntold
first_is_untold = first-untold

pub first_is_least : FirstIsLeast
first_is_least = first-least

-- ---- other entries
kept-set : (es : List (Option Managed)) (i e : ℕ) (x : Option Managed) → (i ≡ e → ⊥)
    → kept_at (slice_set es i x) e ≡ kept_at es e
kept-set [] i e x apart = refl
kept-set (y ∷ es) zero zero x apart = absurd (apart refl)
kept-set (y ∷ es) zero (suc e) x apart = refl
kept-set (y ∷ es) (suc i) zero x apart = refl
kept-set (y ∷ es) (suc i) (suc e) x apart = kept-set es i e x (λ same. apart (ap suc same))

pub others_stay : OthersStay
others_stay v t w e apart = go (managed_for v w) (entry_wanted (length v.entries) w) refl
  where
    go : (o : Option Managed) (at : Option ℕ) → entry_wanted (length v.entries) w ≡ at
        → managed_at (option_map_or (λ m. with_entry v at (Some (settled v.system.0 m t w))) o v) e ≡ managed_at v e
    go None at is = refl
    go (Some m) None is = refl
    go (Some m) (Some i) is =
        kept-set v.entries i e (Some (settled v.system.0 m t w)) (λ same. apart (is ∙ ap Some same))
