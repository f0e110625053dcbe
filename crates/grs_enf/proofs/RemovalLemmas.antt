-- What is noticed of the rows of lists, where others come in their place.
use Rattle.std.proofs.Common.{◌≡◌, Bool, true, false, cond, List, [], ◌∷◌, ◌++◌, map, refl, ap, ◌∙◌}
use Rattle.std.specs.Prelude.{filter}
use Rattle.std.specs.List.{flat_map}
use Rattle.std.specs.declared.cmp.Ordering.{Ordering}
use Rattle.std.specs.declared.cmp.Ordering.TheVariants.{Less, Equal, Greater}
use Rattle.std.specs.FinMap.{put, IsAntisymmetric}
use Rattle.std.specs.FinMap.Entries.{by_order}
use Rattle.grs_base.specs.ResOrder.{res_order}
use Rattle.grs_base.specs.Rows.{lists_from, lists_of, row_of, rows_of}
use Rattle.grs_base.specs.State.{State, list_of, is_systems}
use Rattle.grs_base.specs.declared.resource.Elem.{Elem}
use Rattle.grs_base.specs.declared.resource.Res.{Res}
use Rattle.grs_base.specs.declared.resource.Row.{Row}
use Rattle.grs_base.proofs.OrderLaws.{res_order-IsAntisymmetric}
use Rattle.grs_enf.specs.declared.notice.Notice.{Notice}
use Rattle.grs_enf.specs.Notices.{notices_at, notices_among}

-- Each resource stands with its own list.
abbrev AreLists : State → List (Res × List Elem) → Type 0
AreLists s [] = Unit {0}
AreLists s (e ∷ es) = (e.1 ≡ list_of s e.0) × AreLists s es

module _ (R : Res → Res → Ordering) (exact : IsAntisymmetric R) where
  put-lists : (s : State) (r : Res) (es : List (Res × List Elem)) → AreLists s es
      → AreLists s (put R r (list_of s r) es)
  put-lists s r [] h = (refl, tt)
  put-lists s r (e ∷ es) h = by (R r e.0) refl (put-lists s r es h.1)
    where
      by : (o : Ordering) → R r e.0 ≡ o → AreLists s (put R r (list_of s r) es)
          → AreLists s
          (by_order o ((r, list_of s r) ∷ e ∷ es) ((e.0, list_of s r) ∷ es) (e ∷ put R r (list_of s r) es))
      by Less k rest = (refl, h)
      by Equal k rest = (ap (list_of s) (exact r e.0 k), h.1)
      by Greater k rest = (h.0, rest)

lists-from : (s hs : State) → AreLists s (lists_from s hs)
lists-from s [] = tt
lists-from s (h ∷ hs) = put-lists res_order res_order-IsAntisymmetric s h.0 (lists_from s hs) (lists-from s hs)

among-from : (s after : State) (es : List (Res × List Elem)) → AreLists s es
    → flat_map (λ (row : Row). notices_at row.res row.elems (list_of after row.res))
    (filter (λ (row : Row). is_systems row.res) (map row_of es))
    ≡ notices_among s after (filter is_systems (map (λ e. e.0) es))
among-from s after [] h = refl
among-from s after (e ∷ es) h = by (is_systems e.0) (among-from s after es h.1)
  where
    rows : List Row
    rows = filter (λ (row : Row). is_systems row.res) (map row_of es)

    others : List Res
    others = filter is_systems (map (λ x. x.0) es)

    told : List Row → List Notice
    told xs = flat_map (λ (row : Row). notices_at row.res row.elems (list_of after row.res)) xs

    by : (b : Bool) → told rows ≡ notices_among s after others
        → told (cond b (row_of e ∷ rows) rows) ≡ notices_among s after (cond b (e.0 ∷ others) others)
    by true rest =
        ap (λ (xs : List Elem). notices_at e.0 xs (list_of after e.0) ++ told rows) h.0
        ∙ ap (λ (ns : List Notice). notices_at e.0 (list_of s e.0) (list_of after e.0) ++ ns) rest
    by false rest = rest

removal-among : (s after : State) (rows : List Row) → rows ≡ rows_of s
    → flat_map (λ (row : Row). notices_at row.res row.elems (list_of after row.res))
    (filter (λ (row : Row). is_systems row.res) rows)
    ≡ notices_among s after (filter is_systems (map (λ e. e.0) (lists_of s)))
removal-among s after rows is =
    ap (λ (xs : List Row).
    flat_map (λ (row : Row). notices_at row.res row.elems (list_of after row.res))
    (filter (λ (row : Row). is_systems row.res) xs)) is
    ∙ among-from s after (lists_of s) (lists-from s s)

pub removal-told :
    (s now after : State) (rows slice : List Row) (out none : List Notice) → rows ≡ rows_of s → slice ≡ rows
    → now ≡ after → none ≡ []
    → out
    ≡ none ++ flat_map (λ (row : Row). notices_at row.res row.elems (list_of now row.res))
    (filter (λ (row : Row). is_systems row.res) slice)
    → out ≡ notices_among s after (filter is_systems (map (λ e. e.0) (lists_of s)))
removal-told s now after rows slice out none is lent same empty told =
    told
    ∙ ap (λ (ns : List Notice).
    ns ++ flat_map (λ (row : Row). notices_at row.res row.elems (list_of now row.res))
    (filter (λ (row : Row). is_systems row.res) slice)) empty
    ∙ removal-among s now slice (lent ∙ is)
    ∙ ap (λ (x : State). notices_among s x (filter is_systems (map (λ e. e.0) (lists_of s)))) same
