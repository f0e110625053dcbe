-- Resources and their lists on the way to what is shown of them.
use Rattle.std.specs.Prelude.{◌≡◌, ℕ, nat_eq, Bool, true, not, ◌&&◌, ◌==◌, List, map, filter, length, Option, None, Some}
use Rattle.std.specs.Prelude.{All}
use Rattle.std.specs.Ordering.{is_lt}
use denote.Ref.{Bor}
use Rattle.grs_base.specs.State.{Held, list_at}
use Rattle.grs_base.specs.ResOrder.{res_order}
use Rattle.grs_base.specs.Looks.{is_of_place, matches, is_contended}
use Rattle.grs_base.specs.declared.look.Place.{Place}
use Rattle.grs_base.specs.declared.look.Filter.{Filter}
use Rattle.grs_base.specs.declared.resource.Row.{Row}
use Rattle.grs_base.specs.declared.resource.Res.{Res}
use Rattle.grs_base.specs.declared.resource.Elem.{Elem}
use Rattle.queue_table.specs.Names.{Numbers}

-- whether a queue has elements
abbrev pub has_elements : Held ℕ → ℕ → Bool
has_elements hs n = not (length (list_at nat_eq hs n) == 0)

-- of resources with their queues those that pass and have elements
abbrev pub kept : (Res → Bool) → Held ℕ → Numbers → Numbers
kept t hs es = filter (λ e. t e.0 && has_elements hs e.1) es

-- references to resources with the numbers of their queues: as plain resources, and with their lists
abbrev pub numbers_of : List (Bor Res × ℕ) → Numbers
numbers_of xs = map (λ x. (x.0.now, x.1)) xs

abbrev pub lists_at : Held ℕ → List (Bor Res × ℕ) → List (Res × List Elem)
lists_at hs xs = map (λ x. (x.0.now, list_at nat_eq hs x.1)) xs

-- whether the first of two is shown before the other
abbrev pub sooner : Bor Res × ℕ → Bor Res × ℕ → Bool
sooner x y = is_lt (res_order x.0.now y.0.now)

-- all of their queues are there
abbrev pub AreLive : (ℕ → Bool) → List (Bor Res × ℕ) → Type 0
AreLive live xs = All (λ x. live x.1 ≡ true) xs

-- whether a resource is of the place that is looked at, if it is one
abbrev pub is_of : Option Place → Res → Bool
is_of None r = true
is_of (Some p) r = is_of_place p r

-- whether the list of a resource may be shown, as far as the resource tells
abbrev pub may_show : Option Place → Filter → Res → Bool
may_show o f r = is_of o r && matches f r true

-- whether a row passes a filter
abbrev pub passes : Filter → Row → Bool
passes f row = matches f row.res (is_contended row)

-- whether a row is shown
abbrev pub shows : Option Place → Filter → Row → Bool
shows o f row = is_of o row.res && passes f row
