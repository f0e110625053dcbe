-- What looks show of lists in which no task stands twice looks can show; and so are the lists of a run.
use Rattle.grs_world.proofs.Common.{[], ◌&&◌, ◌++◌, ◌+◌, ◌<◌, ◌==◌, ◌∙◌, ◌∷◌, ◌≡◌, after_fixed, all-filter, and_from}
use Rattle.grs_world.proofs.Common.{and_parts, ap, AreLists, arith, Bool, cond, eq-eqb, eqb-true, false, Filter, filter}
use Rattle.grs_world.proofs.Common.{List, list_all, list_all-append, list_of, lists, look, looks, lt-ltb, ltb-true}
use Rattle.grs_world.proofs.Common.{nat_le, nat_lt, or_left, or_right, refl, Res, Row, rows-lists, rows_of, RunItem}
use Rattle.grs_world.proofs.Common.{Slice, slice_of, Some, State, suc, true, zero, ℕ}
use Rattle.std.proofs.lemmas.Bool.{leb-true, le-leb}
use Rattle.grs_known.proofs.lists.Rows.{rows-tell}
use Rattle.grs_known.specs.Items.{lists_from}
use Rattle.grs_base.specs.Looks.{is_of_place, is_shown, matches, is_contended}
use Rattle.std.specs.Ordering.{is_lt}
use Rattle.grs_base.specs.Lists.{is_apart}
use Rattle.grs_base.specs.ResOrder.{res_order}
use Rattle.star_client.specs.Client.{slice_in, is_among, tells_owners, can_show, can_show_all, is_before_in}
use Rattle.star_client.specs.Client.{is_shown_before, are_in_order}
use Rattle.grs_known.proofs.lists.Elements.{apart-fixed}
use Rattle.grs_known.proofs.lists.Shows.{do_rise, is_before_all, look-rises}
use Rattle.grs_base.specs.declared.resource.Res.TheVariants as resources

-- no task stands twice in a list
abbrev pub AreApart : State → Type 0
AreApart s = (r : Res) → is_apart (list_of s r) ≡ true

apart-from : (xs : List RunItem) (s : State) → AreApart s → AreApart (lists_from s xs)
apart-from [] s apart = apart
apart-from (x ∷ xs) s apart = apart-from xs (after_fixed s x.fixed) (apart-fixed s x.fixed apart)

-- so it is behind all items
pub apart-lists : (T : List RunItem) → AreApart (lists T)
apart-lists T = apart-from T [] (λ r. refl)

-- whether a row tells its owners, and has no task twice
abbrev is_right : Row → Bool
is_right row = tells_owners row && is_apart row.elems

are-right : (s : State) → AreApart s → (rows : List Row) → AreLists s rows → list_all tells_owners rows ≡ true
    → list_all is_right rows ≡ true
are-right s apart [] of_lists tells = refl
are-right s apart (x ∷ xs) of_lists tells =
    let t = and_parts (tells_owners x) (list_all tells_owners xs) tells in
    and_from _ _ (and_from _ _ t.0 (ap is_apart of_lists.0 ∙ apart x.res)) (are-right s apart xs of_lists.1 t.1)

-- each of these rows is of this slice, or of one behind it
abbrev AreAt : ℕ → List Row → Type 0
AreAt n [] = Unit {0}
AreAt n (x ∷ xs) = (slice_in x.res ≡ Some n) × AreAt n xs

abbrev AreBehind : ℕ → List Row → Type 0
AreBehind n [] = Unit {0}
AreBehind n (x ∷ xs) = ((k : ℕ) × (slice_in x.res ≡ Some k) × (n < k)) × AreBehind n xs

-- ---- in order
before-slice : (a b : Res) (n k : ℕ) → slice_in a ≡ Some n → slice_in b ≡ Some k → n < k → is_shown_before a b ≡ true
before-slice a b n k at there less =
    ap (λ o. is_before_in o (slice_in b) (is_lt (res_order a b))) at
    ∙ ap (λ o. is_before_in (Some n) o (is_lt (res_order a b))) there
    ∙ or_left (nat_lt n k) ((n == k) && is_lt (res_order a b)) (lt-ltb n k less)

before-name : (a b : Res) (n : ℕ) → slice_in a ≡ Some n → slice_in b ≡ Some n → is_lt (res_order a b) ≡ true
    → is_shown_before a b ≡ true
before-name a b n at there less =
    ap (λ o. is_before_in o (slice_in b) (is_lt (res_order a b))) at
    ∙ ap (λ o. is_before_in (Some n) o (is_lt (res_order a b))) there
    ∙ or_right (nat_lt n n) ((n == n) && is_lt (res_order a b))
    (and_from (n == n) (is_lt (res_order a b)) (eq-eqb n n refl) less)

in-order : (n : ℕ) (xs ys : List Row) → AreAt n xs → AreBehind n ys → do_rise res_order xs ≡ true
    → are_in_order ys ≡ true → are_in_order (xs ++ ys) ≡ true
in-order n [] ys at behind rise order = order
in-order n (x ∷ []) [] at behind rise order = refl
in-order n (x ∷ []) (y ∷ ys) at behind rise order =
    and_from (is_shown_before x.res y.res) (are_in_order (y ∷ ys))
    (before-slice x.res y.res n behind.0.0 at.0 behind.0.1 behind.0.2) order
in-order n (x ∷ z ∷ xs) ys at behind rise order =
    let both = and_parts (is_before_all res_order x.res (z ∷ xs)) (do_rise res_order (z ∷ xs)) rise in
    and_from (is_shown_before x.res z.res) (are_in_order (z ∷ xs ++ ys))
    (before-name x.res z.res n at.0 at.1.0
    (and_parts (is_lt (res_order x.res z.res)) (is_before_all res_order x.res xs) both.0).0)
    (in-order n (z ∷ xs) ys at.1 behind both.1 order)

-- ---- row by row
slice-is : (n : ℕ) (q : Res) → is_of_place (Slice n) q ≡ true → slice_in q ≡ Some n
slice-is n (resources.Systems q r) e = ap Some (eqb-true (slice_of q r) n e)
slice-is n (resources.System s q r) e = absurd (cc)
slice-is n (resources.Step s j q r) e = absurd (cc)

among-first : (n count : ℕ) (q : Res) → slice_in q ≡ Some n → is_among n (suc count) q ≡ true
among-first n count (resources.Systems q r) e =
    let is : slice_of q r ≡ n = cc in
    and_from (nat_le n (slice_of q r)) (nat_lt (slice_of q r) (n + suc count))
    (le-leb n (slice_of q r) (omega (arith, is))) (lt-ltb (slice_of q r) (n + suc count) (omega (arith, is)))
among-first n count (resources.System s q r) e = absurd (cc)
among-first n count (resources.Step s j q r) e = absurd (cc)

among-more : (n count : ℕ) (q : Res) → is_among (suc n) count q ≡ true
    → (is_among n (suc count) q ≡ true) × ((k : ℕ) × (slice_in q ≡ Some k) × (n < k))
among-more n count (resources.Systems q r) e =
    let both = and_parts (nat_le (suc n) (slice_of q r)) (nat_lt (slice_of q r) (suc n + count)) e in
    let low = leb-true (suc n) (slice_of q r) both.0 in
    let high = ltb-true (slice_of q r) (suc n + count) both.1 in (
      and_from (nat_le n (slice_of q r)) (nat_lt (slice_of q r) (n + suc count))
          (le-leb n (slice_of q r) (omega (arith, low))) (lt-ltb (slice_of q r) (n + suc count) (omega (arith, high))),
      (slice_of q r, refl, omega (arith, low)),
    )
among-more n count (resources.System s q r) e = absurd (cc)
among-more n count (resources.Step s j q r) e = absurd (cc)

-- the rows of one slice
module _ (n count : ℕ) (f : Filter) where
  -- each is shown, tells its owners and has no task twice
  first-rows : (rows : List Row) → list_all is_right rows ≡ true → list_all (is_shown (Slice n) f) rows ≡ true
      → (list_all (can_show n (suc count) f) rows ≡ true) × AreAt n rows
  first-rows [] right shown = (refl, tt)
  first-rows (x ∷ xs) right shown =
      let t = and_parts (is_right x) (list_all is_right xs) right in
      let s = and_parts (is_shown (Slice n) f x) (list_all (is_shown (Slice n) f) xs) shown in
      let here = and_parts (is_of_place (Slice n) x.res) (matches f x.res (is_contended x)) s.0 in
      let at = slice-is n x.res here.0 in
      let more = first-rows xs t.1 s.1 in
      (and_from _ _ (and_from _ _ (among-first n count x.res at) (and_from _ _ here.1 t.0)) more.0, (at, more.1))

  -- and those of the slices behind it
  more-rows : (rows : List Row) → list_all (can_show (suc n) count f) rows ≡ true
      → (list_all (can_show n (suc count) f) rows ≡ true) × AreBehind n rows
  more-rows [] shown = (refl, tt)
  more-rows (x ∷ xs) shown =
      let s = and_parts (can_show (suc n) count f x) (list_all (can_show (suc n) count f) xs) shown in
      let here = and_parts (is_among (suc n) count x.res) (matches f x.res (is_contended x) && is_right x) s.0 in
      let wide = among-more n count x.res here.0 in
      let more = more-rows xs s.1 in
      (and_from _ _ (and_from _ _ wide.0 here.1) more.0, (wide.1, more.1))

filter-all : (p : Row → Bool) (rows : List Row) → list_all p (filter p rows) ≡ true
filter-all p [] = refl
filter-all p (x ∷ xs) = go (p x) refl (filter-all p xs)
  where
    go : (b : Bool) → p x ≡ b → list_all p (filter p xs) ≡ true
        → list_all p (cond b (x ∷ filter p xs) (filter p xs)) ≡ true
    go true e h = and_from _ _ e h
    go false e h = h

pub can-show : (s : State) → AreApart s → (first count : ℕ) (f : Filter)
    → can_show_all first count f (looks s first count f) ≡ true
can-show s apart first zero f = refl
can-show s apart first (suc count) f =
    let rest =
    and_parts (list_all (can_show (suc first) count f) (looks s (suc first) count f))
    (are_in_order (looks s (suc first) count f)) (can-show s apart (suc first) count f) in
    let here =
    first-rows first count f (look s (Slice first) f)
    (all-filter is_right (is_shown (Slice first) f) (rows_of s)
    (are-right s apart (rows_of s) (rows-lists s) (rows-tell s)))
    (filter-all (is_shown (Slice first) f) (rows_of s)) in
    let more = more-rows first count f (looks s (suc first) count f) rest.0 in
    and_from _ _ (list_all-append (can_show first (suc count) f) (look s (Slice first) f) (looks s (suc first) count f)
    ∙ and_from _ _ here.0 more.0)
    (in-order first (look s (Slice first) f) (looks s (suc first) count f) here.1 more.1 (look-rises s (Slice first) f)
    rest.1)
