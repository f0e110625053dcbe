-- No task stands twice in a row of the lists that a history leaves.
use Rattle.std.proofs.Common.{◌≡◌, ℕ, Bool, true, List, [], ◌∷◌, map, refl, sym, subst, arith}
use Rattle.std.specs.List.{list_all}
use Rattle.std.specs.declared.cmp.Ordering.{Ordering}
use Rattle.std.specs.declared.cmp.Ordering.TheVariants.{Less, Equal, Greater}
use Rattle.std.specs.FinMap.Entries.{by_order}
use Rattle.std.specs.FinMap.{put}
use Rattle.std.proofs.lemmas.List.Elements.{All-nil, All-cons}
use Rattle.grs_base.specs.Lists.{is_apart}
use Rattle.grs_base.specs.ResOrder.{res_order}
use Rattle.grs_base.specs.Rows.{lists_from, lists_of, row_of, rows_of}
use Rattle.grs_base.specs.State.{State, list_of}
use Rattle.grs_base.specs.declared.resource.Elem.{Elem}
use Rattle.grs_base.specs.declared.resource.Res.{Res}
use Rattle.grs_base.specs.declared.resource.Row.{Row}
use Rattle.grs_wire.specs.History.{replay}
use Rattle.grs_wire.specs.declared.history.HistEntry.{HistEntry}
use Rattle.grs_wire.proofs.HistoryLaws.{none_twice}
use Rattle.grs_analyze.specs.Depends.{AreApart, ListsAreApart}

abbrev are_apart : List (Res × List Elem) → Bool
are_apart es = list_all (λ e. is_apart e.1) es

module _ (R : Res → Res → Ordering) where
  put-apart : (r : Res) (xs : List Elem) (es : List (Res × List Elem)) → is_apart xs ≡ true → are_apart es ≡ true
      → are_apart (put R r xs es) ≡ true
  put-apart r xs [] h a = grind (arith, h)
  put-apart r xs (e ∷ es) h a = by (R r e.0) (put-apart r xs es h (grind (arith, a)))
    where
      by : (o : Ordering) → are_apart (put R r xs es) ≡ true
          → are_apart (by_order o ((r, xs) ∷ e ∷ es) ((e.0, xs) ∷ es) (e ∷ put R r xs es)) ≡ true
      by Less k = grind (arith, h, a)
      by Equal k = grind (arith, h, a)
      by Greater k = grind (arith, a, k)

from-apart : (s hs : State) → ((r : Res) → is_apart (list_of s r) ≡ true) → are_apart (lists_from s hs) ≡ true
from-apart s [] h = refl
from-apart s (x ∷ hs) h =
    put-apart res_order x.0 (list_of s x.0) (lists_from s hs) (h x.0) (from-apart s hs h)

rows-from : (es : List (Res × List Elem)) → are_apart es ≡ true → AreApart (map row_of es)
rows-from [] h = All-nil (λ (row : Row). is_apart row.elems ≡ true)
rows-from (e ∷ es) h =
    All-cons (λ (row : Row). is_apart row.elems ≡ true) (row_of e) (map row_of es) (grind (arith, h))
    (rows-from es (grind (arith, h)))

pub rows-apart : ListsAreApart
rows-apart limit hist =
    rows-from (lists_of (replay limit hist))
    (from-apart (replay limit hist) (replay limit hist) (none_twice limit hist))

pub apart-left : (rows : List Row) (limit : ℕ) (hist : List HistEntry) → rows ≡ rows_of (replay limit hist)
    → AreApart rows
apart-left rows limit hist is = subst AreApart (sym is) (rows-apart limit hist)

pub ruleset apart_rows = (apart-left)
