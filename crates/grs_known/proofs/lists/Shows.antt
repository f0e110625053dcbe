-- Looks: what they leave of a task's past, and which lists they show.
use Rattle.std.proofs.Common.{◌≡◌, ◌+◌, ℕ, zero, suc, Bool, true, false, cond, T, ◌&&◌, List, [], ◌∷◌, ◌++◌, map}
use Rattle.std.proofs.Common.{length, Option, Some, None, refl, ap, sym, ◌∙◌, append_assoc}
use Rattle.std.specs.Prelude.{filter}
use Rattle.std.specs.List.{list_all, list_any}
use Rattle.std.specs.declared.cmp.Ordering.{Ordering}
use Rattle.std.specs.Ordering.{eq_by_cmp, is_lt}
use Rattle.std.specs.Cmp.{IsTotalOrder}
use Rattle.std.specs.FinMap.{put, find, is_sorted, IsAntisymmetric}
use Rattle.std.proofs.lemmas.Bool.{and_from, and_parts}
use Rattle.std.specs.FinMap.Entries.{below_all, is_sorted-put, find-put, same_entries, where_key, is_sorted-where_key}
use Rattle.std.specs.FinMap.Entries.{find-where_key}
use Rattle.grs_base.specs.Looks.{look, is_of_place, is_shown, matches, is_contended}
use Rattle.grs_base.specs.ResOrder.{res_order}
use Rattle.grs_base.specs.Rows.{lists_from, lists_of, row_of}
use Rattle.grs_base.specs.Same.{same_res}
use Rattle.grs_base.specs.State.{State, list_of, is_systems}
use Rattle.grs_base.specs.declared.look.Filter.{Filter}
use Rattle.grs_base.specs.declared.look.Place.{Place}
use Rattle.grs_base.specs.declared.look.Place.TheVariants.{Slice, Local}
use Rattle.grs_base.specs.declared.resource.Elem.{Elem}
use Rattle.grs_base.specs.declared.resource.Res.{Res}
use Rattle.grs_base.specs.declared.resource.Res.TheVariants as resources
use Rattle.grs_base.specs.declared.resource.Row.{Row}
use Rattle.grs_base.specs.declared.resource.SysId.{SysId}
use Rattle.grs_base.specs.declared.resource.TaskId.{TaskId}
use Rattle.grs_base.proofs.OrderLaws.{res_total, res_order-IsAntisymmetric, same_res-tie}
use Rattle.grs_base.proofs.SameLaws.{same_res-exact}
use Rattle.grs_legal.specs.Legal.{end_among, end_or, last_entry}
use Rattle.grs_wire.specs.History.{code_of, look_entries}
use Rattle.grs_wire.specs.Wants.{looks}
use Rattle.grs_wire.specs.declared.history.HistEntry.{HistEntry}
use Rattle.grs_wire.specs.declared.history.HistEntry.TheVariants.{Enq, Deq, Release, Look, Remove}
use Rattle.grs_known.specs.Past.{Past, after_entries}
use Rattle.grs_known.specs.Parts.{systems_part}
use Rattle.grs_known.specs.Told.{queues}
use Rattle.grs_known.proofs.lists.Parts.{part, is_res_of, list_of-part}

-- ---- entries
-- whether an entry is a look
abbrev pub is_look : HistEntry → Bool
is_look (Enq u r c ret code) = false
is_look (Deq u r have code) = false
is_look (Release u r) = false
is_look (Look u place f rows) = true
is_look (Remove by target) = false

pub looks-are : (s : State) (t : TaskId) (first count : ℕ) (f : Filter)
    → list_all is_look (look_entries s t first count f) ≡ true
looks-are s t first zero f = refl
looks-are s t first (suc count) f = looks-are s t (suc first) count f

pub length-looks : (s : State) (t : TaskId) (first count : ℕ) (f : Filter)
    → length (look_entries s t first count f) ≡ count
length-looks s t first zero f = refl
length-looks s t first (suc count) f = ap suc (length-looks s t (suc first) count f)

-- they queue nothing, and end no task
pub looks-queue : (r : Res) (hs : List HistEntry) → list_all is_look hs ≡ true → list_any (queues r) hs ≡ false
looks-queue r [] e = refl
looks-queue r (Enq u q c ret code ∷ hs) e = absurd (cc)
looks-queue r (Deq u q have code ∷ hs) e = absurd (cc)
looks-queue r (Release u q ∷ hs) e = absurd (cc)
looks-queue r (Look u place f rows ∷ hs) e = looks-queue r hs e
looks-queue r (Remove by target ∷ hs) e = absurd (cc)

end-looks : (hs : List HistEntry) → list_all is_look hs ≡ true → end_among hs ≡ None
end-looks [] e = refl
end-looks (Enq u q c ret code ∷ hs) e = absurd (cc)
end-looks (Deq u q have code ∷ hs) e = absurd (cc)
end-looks (Release u q ∷ hs) e = absurd (cc)
end-looks (Look u place f rows ∷ hs) e = end-looks hs e
end-looks (Remove by target ∷ hs) e = absurd (cc)

pub looks-end : (xs hs : List HistEntry) → list_all is_look hs ≡ true → end_among (xs ++ hs) ≡ end_among xs
looks-end [] hs e = end-looks hs e
looks-end (x ∷ xs) hs e = ap (end_or (code_of x)) (looks-end xs hs e)

-- ---- the past after looks: their entries stand, and nothing else changes
abbrev pub looked : List HistEntry → Past → Past
looked [] p = p
looked (h ∷ hs) p = record { own = p.own; owns = p.owns; asked = p.asked ++ h ∷ hs; last = last_entry (h ∷ hs) }

looked-on : (h : HistEntry) (hs : List HistEntry) (p : Past) → looked hs (looked (h ∷ []) p) ≡ looked (h ∷ hs) p
looked-on h [] p = refl
looked-on h (g ∷ gs) p =
    ap (λ es. record { own = p.own; owns = p.owns; asked = es; last = last_entry (g ∷ gs) })
    (append_assoc p.asked (h ∷ []) (g ∷ gs))

pub after-looks : (hs : List HistEntry) → list_all is_look hs ≡ true → (p : Past) → after_entries hs p ≡ looked hs p
after-looks [] e p = refl
after-looks (Enq u q c ret code ∷ hs) e p = absurd (cc)
after-looks (Deq u q have code ∷ hs) e p = absurd (cc)
after-looks (Release u q ∷ hs) e p = absurd (cc)
after-looks (Look u place f rows ∷ hs) e p =
    after-looks hs e (looked (Look u place f rows ∷ []) p) ∙ looked-on (Look u place f rows) hs p
after-looks (Remove by target ∷ hs) e p = absurd (cc)

-- ---- rows
-- what is found of a list where its resource has elements
abbrev shown : {X : Type 0} → List X → List X → Option (List X)
shown [] ys = None
shown (x ∷ xs) ys = Some ys

abbrev Lists : Type 0
Lists = List (Res × List Elem)

-- whether a resource stands before those of all these rows, and each before those behind it
abbrev pub is_before_all : (Res → Res → Ordering) → Res → List Row → Bool
is_before_all R r [] = true
is_before_all R r (x ∷ xs) = is_lt (R r x.res) && is_before_all R r xs

abbrev pub do_rise : (Res → Res → Ordering) → List Row → Bool
do_rise R [] = true
do_rise R (x ∷ xs) = is_before_all R x.res xs && do_rise R xs

module _ (R : Res → Res → Ordering) (total : IsTotalOrder R) (exact : IsAntisymmetric R)
    (tie : (a b : Res) → same_res a b ≡ eq_by_cmp R a b) where
  -- the lists over any order
  abbrev from : State → State → Lists
  from s [] = []
  from s (h ∷ hs) = put R h.0 (list_of s h.0) (from s hs)

  from-sorted : (s hs : State) → T (is_sorted R (from s hs))
  from-sorted s [] = tt
  from-sorted s (h ∷ hs) = is_sorted-put R total h.0 (list_of s h.0) (from s hs) (from-sorted s hs)

  find-from : (s hs : State) (q : Res) → find R q (from s hs) ≡ shown (list_of hs q) (list_of s q)
  find-from s [] q = refl
  find-from s (h ∷ hs) q =
      find-put R total q h.0 (list_of s h.0) (from s hs)
      ∙ ap (λ (b : Bool). cond b (Some (list_of s h.0)) (find R q (from s hs))) (sym (tie q h.0))
      ∙ step (same_res q h.0) refl (find-from s hs q)
    where
      step : (b : Bool) → same_res q h.0 ≡ b → find R q (from s hs) ≡ shown (list_of hs q) (list_of s q)
          → cond b (Some (list_of s h.0)) (find R q (from s hs))
          ≡ shown (cond b (h.1 ∷ list_of hs q) (list_of hs q)) (list_of s q)
      step true e rest = ap (λ (r : Res). Some (list_of s r)) (sym (same_res-exact q h.0 e))
      step false e rest = rest

  find-part : (p : Res → Bool) (s : State) (q : Res)
      → find R q (where_key R p (from s s)) ≡ cond (p q) (shown (list_of s q) (list_of s q)) None
  find-part p s q =
      find-where_key R p q (λ x tied. ap p (sym (exact q x tied))) (from s s)
      ∙ ap (λ (o : Option (List Elem)). cond (p q) o None) (find-from s s q)

  -- states with the same lists of some resources show these alike
  from-alike : (p : Res → Bool) (s z : State) → ((q : Res) → p q ≡ true → list_of s q ≡ list_of z q)
      → where_key R p (from s s) ≡ where_key R p (from z z)
  from-alike p s z same =
      same_entries R total exact (where_key R p (from s s)) (where_key R p (from z z))
      (is_sorted-where_key R p _ (from-sorted s s)) (is_sorted-where_key R p _ (from-sorted z z))
      (λ q. find-part p s q ∙ by_test q (p q) refl ∙ sym (find-part p z q))
    where
      by_test : (q : Res) (b : Bool) → p q ≡ b
          → cond b (shown (list_of s q) (list_of s q)) None ≡ cond b (shown (list_of z q) (list_of z q)) None
      by_test q true e = ap (λ es. shown es es) (same q e)
      by_test q false e = refl

  -- rows of lists in order rise, also where some of these aren't shown
  before-rows : (q : Row → Bool) (r : Res) (es : Lists) → below_all R r es ≡ true
      → is_before_all R r (filter q (map row_of es)) ≡ true
  before-rows q r [] h = refl
  before-rows q r (e ∷ es) h =
      let both = and_parts (is_lt (R r e.0)) (below_all R r es) h in
      go (q (row_of e)) both.0 (before-rows q r es both.1)
    where
      go : (b : Bool) → is_lt (R r e.0) ≡ true → is_before_all R r (filter q (map row_of es)) ≡ true
          → is_before_all R r (cond b (row_of e ∷ filter q (map row_of es)) (filter q (map row_of es))) ≡ true
      go true first more = and_from _ _ first more
      go false first more = more

  rows-rise : (q : Row → Bool) (es : Lists) → is_sorted R es ≡ true → do_rise R (filter q (map row_of es)) ≡ true
  rows-rise q [] h = refl
  rows-rise q (e ∷ es) h =
      let both = and_parts (below_all R e.0 es) (is_sorted R es) h in
      go (q (row_of e)) (before-rows q e.0 es both.0) (rows-rise q es both.1)
    where
      go : (b : Bool) → is_before_all R e.0 (filter q (map row_of es)) ≡ true
          → do_rise R (filter q (map row_of es)) ≡ true
          → do_rise R (cond b (row_of e ∷ filter q (map row_of es)) (filter q (map row_of es))) ≡ true
      go true first more = and_from _ _ first more
      go false first more = more

  rise-from : (q : Row → Bool) (s : State) → do_rise R (filter q (map row_of (from s s))) ≡ true
  rise-from q s = rows-rise q (from s s) (holds (is_sorted R (from s s)) (from-sorted s s))
    where
      holds : (b : Bool) → T b → b ≡ true
      holds true h = refl
      holds false h = absurd h

lists_from-from : (s hs : State)
    → lists_from s hs ≡ from res_order res_total res_order-IsAntisymmetric same_res-tie s hs
lists_from-from s [] = refl
lists_from-from s (h ∷ hs) = ap (put res_order h.0 (list_of s h.0)) (lists_from-from s hs)

lists-alike : (p : Res → Bool) (s z : State) → ((q : Res) → p q ≡ true → list_of s q ≡ list_of z q)
    → filter (λ e. p e.0) (lists_of s) ≡ filter (λ e. p e.0) (lists_of z)
lists-alike p s z same =
    ap (filter (λ (e : Res × List Elem). p e.0)) (lists_from-from s s)
    ∙ from-alike res_order res_total res_order-IsAntisymmetric same_res-tie p s z same
    ∙ ap (filter (λ (e : Res × List Elem). p e.0)) (sym (lists_from-from z z))

-- what is shown rises
pub look-rises : (s : State) (place : Place) (f : Filter) → do_rise res_order (look s place f) ≡ true
look-rises s place f =
    ap (λ es. do_rise res_order (filter (is_shown place f) (map row_of es))) (lists_from-from s s)
    ∙ rise-from res_order res_total res_order-IsAntisymmetric same_res-tie (is_shown place f) s

-- the rows of a place are those of its lists that pass the filter
look-from : (place : Place) (f : Filter) (es : Lists)
    → filter (is_shown place f) (map row_of es)
    ≡ filter (λ row. matches f row.res (is_contended row)) (map row_of (filter (λ e. is_of_place place e.0) es))
look-from place f [] = refl
look-from place f (e ∷ es) = go (is_of_place place e.0) (look-from place f es)
  where
    go : (b : Bool)
        → filter (is_shown place f) (map row_of es)
        ≡ filter (λ row. matches f row.res (is_contended row)) (map row_of (filter (λ e. is_of_place place e.0) es))
        →
        cond (b && matches f e.0 (is_contended (row_of e))) (row_of e ∷ filter (is_shown place f) (map row_of es))
        (filter (is_shown place f) (map row_of es))
        ≡ filter (λ row. matches f row.res (is_contended row))
        (map row_of (cond b (e ∷ filter (λ x. is_of_place place x.0) es) (filter (λ x. is_of_place place x.0) es)))
    go true h = ap (λ rows. cond (matches f e.0 (is_contended (row_of e))) (row_of e ∷ rows) rows) h
    go false h = h

-- A look depends on the lists of its place alone.
pub look-alike : (place : Place) (f : Filter) (s z : State)
    → ((q : Res) → is_of_place place q ≡ true → list_of s q ≡ list_of z q) → look s place f ≡ look z place f
look-alike place f s z same =
    look-from place f (lists_of s)
    ∙ ap (λ es. filter (λ row. matches f row.res (is_contended row)) (map row_of es))
    (lists-alike (is_of_place place) s z same)
    ∙ sym (look-from place f (lists_of z))

-- a slice is of the whole complex, and the lists of a system are of that system
pub slice-systems : (n : ℕ) (q : Res) → is_of_place (Slice n) q ≡ true → is_systems q ≡ true
slice-systems n (resources.Systems q r) e = refl
slice-systems n (resources.System s q r) e = absurd (cc)
slice-systems n (resources.Step s j q r) e = absurd (cc)

pub local-own : (u : SysId) (q : Res) → is_of_place (Local u) q ≡ true → is_res_of u.0 q ≡ true
local-own u (resources.Systems q r) e = absurd (cc)
local-own u (resources.System s q r) e = e
local-own u (resources.Step s j q r) e = e

-- so looks show the same by the part of the lists that their place is in
pub look-systems : (s : State) (n : ℕ) (f : Filter) → look (systems_part s) (Slice n) f ≡ look s (Slice n) f
look-systems s n f =
    look-alike (Slice n) f (systems_part s) s (λ q e. list_of-part is_systems s q (slice-systems n q e))

pub look-own : (s : State) (u : SysId) (f : Filter) → look (part (is_res_of u.0) s) (Local u) f ≡ look s (Local u) f
look-own s u f =
    look-alike (Local u) f (part (is_res_of u.0) s) s (λ q e. list_of-part (is_res_of u.0) s q (local-own u q e))

pub looks-systems : (s : State) (first count : ℕ) (f : Filter)
    → looks (systems_part s) first count f ≡ looks s first count f
looks-systems s first zero f = refl
looks-systems s first (suc count) f =
    ap (λ rows. rows ++ looks (systems_part s) (suc first) count f) (look-systems s first f)
    ∙ ap (λ rows. look s (Slice first) f ++ rows) (looks-systems s (suc first) count f)
