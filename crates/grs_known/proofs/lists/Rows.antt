-- Each row that is shown of the lists is a resource with its list, which isn't empty.
use Rattle.std.proofs.Common.{◌≡◌, suc, Bool, true, false, cond, not, ◌&&◌, List, [], ◌∷◌, ◌++◌, map, length, refl, ap}
use Rattle.std.proofs.Common.{sym, ◌∙◌, append_assoc, arith}
use Rattle.std.specs.Prelude.{◌==◌}
use Rattle.std.specs.List.{list_all}
use Rattle.std.proofs.lemmas.Bool.{and_from, and_parts, eq-eqb, ne_eqb}
use Rattle.std.specs.declared.cmp.Ordering.{Ordering}
use Rattle.std.specs.declared.cmp.Ordering.TheVariants.{Less, Equal, Greater}
use Rattle.std.specs.Ordering.{is_eq}
use Rattle.std.specs.FinMap.{put}
use Rattle.std.specs.FinMap.Entries.{by_order}
use Rattle.grs_base.specs.Lists.{owners}
use Rattle.grs_base.specs.ResOrder.{res_order}
use Rattle.grs_base.specs.Rows.{lists_from, row_of, rows_of}
use Rattle.grs_base.specs.State.{State, list_of}
use Rattle.grs_base.specs.declared.resource.Elem.{Elem}
use Rattle.grs_base.specs.declared.resource.Res.{Res}
use Rattle.grs_base.specs.declared.resource.Row.{Row}
use Rattle.grs_base.proofs.OrderLaws.{same_res-tie}
use Rattle.grs_base.specs.Same.{same_res}
use Rattle.grs_base.proofs.SameLaws.{same_res-exact, same_res-itself}

-- each of these rows has the list that these elements have of its resource
abbrev pub AreLists : State → List Row → Type 0
AreLists s [] = Unit {0}
AreLists s (x ∷ xs) = (x.elems ≡ list_of s x.res) × AreLists s xs

module _ (s : State) where
  with-put : (r : Res) (es : List (Res × List Elem)) → AreLists s (map row_of es)
      → AreLists s (map row_of (put res_order r (list_of s r) es))
  with-put r [] h = (refl, tt)
  with-put r (e ∷ es) h = go (res_order r e.0) refl (with-put r es h.1)
    where
      go : (o : Ordering) → res_order r e.0 ≡ o → AreLists s (map row_of (put res_order r (list_of s r) es)) →
          AreLists s (map row_of
          (by_order o ((r, list_of s r) ∷ e ∷ es) ((e.0, list_of s r) ∷ es) (e ∷ put res_order r (list_of s r) es)))
      go Less is rest = (refl, h)
      go Equal is rest = (ap (list_of s) (same_res-exact r e.0 (same_res-tie r e.0 ∙ ap is_eq is)), h.1)
      go Greater is rest = (h.0, rest)

  from-lists : (hs : State) → AreLists s (map row_of (lists_from s hs))
  from-lists [] = tt
  from-lists (h ∷ hs) = with-put h.0 (lists_from s hs) (from-lists hs)

pub rows-lists : (s : State) → AreLists s (rows_of s)
rows-lists s = from-lists s s

-- ---- a list that isn't empty, and how many of it own
-- whether a row has such a list, and tells that
abbrev pub tells_list : Row → Bool
tells_list row = not (length row.elems == 0) && (row.owners == owners row.elems)

tells-row : (r : Res) (v : List Elem) → (length v == 0) ≡ false → tells_list (row_of (r, v)) ≡ true
tells-row r v some = and_from _ _ (ap not some) (eq-eqb (owners v) (owners v) refl)

tells-put : (r : Res) (v : List Elem) (es : List (Res × List Elem)) → (length v == 0) ≡ false
    → list_all tells_list (map row_of es) ≡ true → list_all tells_list (map row_of (put res_order r v es)) ≡ true
tells-put r v [] some h = and_from _ _ (tells-row r v some) refl
tells-put r v (e ∷ es) some h =
    let both = and_parts (tells_list (row_of e)) (list_all tells_list (map row_of es)) h in
    go (res_order r e.0) both.1 (tells-put r v es some both.1)
  where
    go : (o : Ordering) → list_all tells_list (map row_of es) ≡ true
        → list_all tells_list (map row_of (put res_order r v es)) ≡ true →
        list_all tells_list (map row_of (by_order o ((r, v) ∷ e ∷ es) ((e.0, v) ∷ es) (e ∷ put res_order r v es)))
        ≡ true
    go Less rest more = and_from _ _ (tells-row r v some) h
    go Equal rest more = and_from _ _ (tells-row e.0 v some) rest
    go Greater rest more =
        and_from _ _ (and_parts (tells_list (row_of e)) (list_all tells_list (map row_of es)) h).0 more

-- the resource of an element has one
has-list : (xs : State) (h : Res × Elem) (hs : State) → (length (list_of (xs ++ h ∷ hs) h.0) == 0) ≡ false
has-list [] h hs =
    ap (λ b. length (cond b (h.1 ∷ list_of hs h.0) (list_of hs h.0)) == 0) (same_res-itself h.0)
    ∙ ne_eqb (suc (length (list_of hs h.0))) 0 (λ i. omega (arith, i))
has-list (x ∷ xs) h hs = go (same_res h.0 x.0) (has-list xs h hs)
  where
    go : (b : Bool) → (length (list_of (xs ++ h ∷ hs) h.0) == 0) ≡ false
        → (length (cond b (x.1 ∷ list_of (xs ++ h ∷ hs) h.0) (list_of (xs ++ h ∷ hs) h.0)) == 0) ≡ false
    go true e = ne_eqb (suc (length (list_of (xs ++ h ∷ hs) h.0))) 0 (λ i. omega (arith, i))
    go false e = e

tells-from : (s xs hs : State) → s ≡ xs ++ hs → list_all tells_list (map row_of (lists_from s hs)) ≡ true
tells-from s xs [] e = refl
tells-from s xs (h ∷ hs) e =
    tells-put h.0 (list_of s h.0) (lists_from s hs) (ap (λ z. length (list_of z h.0) == 0) e ∙ has-list xs h hs)
    (tells-from s (xs ++ h ∷ []) hs (e ∙ sym (append_assoc xs (h ∷ []) hs)))

pub rows-tell : (s : State) → list_all tells_list (rows_of s) ≡ true
rows-tell s = tells-from s [] s refl
