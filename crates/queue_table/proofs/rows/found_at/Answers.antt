use Rattle.std.proofs.Common.{◌≡◌, ◌<◌, ◌∙◌, sym, ap, subst, refl, ℕ, Bool, cond, ◌&&◌, [], ◌∷◌, ◌++◌, Option, Some, None}
use Rattle.queue_table.specs.Classes.{class_at}
use Rattle.queue_table.specs.Shown.{has_elements, numbers_of, may_show}
use Rattle.queue_table.proofs.ClassLemmas.{classes_of, class_at_place, way_left, way-less}
use Rattle.queue_table.proofs.PurgeLemmas.{number_at-live}
use Rattle.queue_table.proofs.RowLemmas.{Gathers, gathers-begins, gathers-next, gathers-ends, gathers-class}
use Rattle.queue_table.proofs.RowLemmas.{gathers-there}
use Rattle.queue_table.proofs.rows.found_at.Goals as goal

pub places-init : goal.places-init
places-init g c =
    gathers-begins (may_show (Some c.args.place) c.args.chosen.now) (class_at c.args.place) c.args.numbers.now.entries
    (g.Q.Queues.elements c.args.queues.now) (numbers_of c.new-found.result.items) c.last_of-next.result
    (ap numbers_of c.new-found.ensures.items) c.last_of-next.ensures

pub add_shown-requires : goal.add_shown-requires
add_shown-requires g c =
    number_at-live (g.Q.Queues.is_live c.args.queues.now) c.args.numbers.now.entries c.in-Some.at
    (c.in-Some-entry.res.now, c.in-Some-entry.queue) c.requires.table.live_numbers c.in-Some-entry.ensures.entry

pub may_be_shown_at-shown-requires : goal.may_be_shown_at-shown-requires
may_be_shown_at-shown-requires g c =
    let shown = may_show (Some c.args.place) c.args.chosen.now in
    let elements = g.Q.Queues.elements c.args.queues.now in
    class_at_place c.args.numbers.now.entries c.in-Some.at (class_at c.args.place)
    (c.in-Some-entry.res.now, c.in-Some-entry.queue) c.in-Some-entry.ensures.entry
    (gathers-class shown (class_at c.args.place) c.args.numbers.now.entries elements (numbers_of c.places.found.items)
    c.in-Some.at
    (subst (Gathers shown (class_at c.args.place) c.args.numbers.now.entries elements (numbers_of c.places.found.items))
    c.in-Some.is c.places.invariant))

pub unreachable-requires : goal.unreachable-requires
unreachable-requires g c =
    let shown = may_show (Some c.args.place) c.args.chosen.now in
    let elements = g.Q.Queues.elements c.args.queues.now in
    gathers-there shown (class_at c.args.place) c.args.numbers.now.entries elements (numbers_of c.places.found.items)
    c.in-Some.at
    (subst (Gathers shown (class_at c.args.place) c.args.numbers.now.entries elements (numbers_of c.places.found.items))
    c.in-Some.is c.places.invariant)
    c.in-None.ensures.none

pub before-next-requires : goal.before-next-requires
before-next-requires g c =
    let shown = may_show (Some c.args.place) c.args.chosen.now in
    let elements = g.Q.Queues.elements c.args.queues.now in
    gathers-class shown (class_at c.args.place) c.args.numbers.now.entries elements (numbers_of c.places.found.items)
    c.in-Some.at
    (subst (Gathers shown (class_at c.args.place) c.args.numbers.now.entries elements (numbers_of c.places.found.items))
    c.in-Some.is c.places.invariant)

pub places-smaller : goal.places-smaller
places-smaller g c =
    subst (λ (o : Option ℕ). way_left c.before-next.result < way_left o) (sym c.in-Some.is)
    (way-less (class_at c.args.place) (classes_of c.args.numbers.now.entries) c.in-Some.at c.before-next.result
    c.before-next.ensures)

pub places-preserved : goal.places-preserved
places-preserved g c =
    let shown = may_show (Some c.args.place) c.args.chosen.now in
    let elements = g.Q.Queues.elements c.args.queues.now in
    let old = numbers_of c.places.found.items in
    gathers-next shown (class_at c.args.place) c.args.numbers.now.entries elements old
    (numbers_of c.add_shown.new.found.items) c.in-Some.at c.before-next.result
    (c.in-Some-entry.res.now, c.in-Some-entry.queue)
    (subst (Gathers shown (class_at c.args.place) c.args.numbers.now.entries elements old) c.in-Some.is
    c.places.invariant)
    c.in-Some-entry.ensures.entry
    (c.in_ok-add_shown-in-Some-entry.ensures
    ∙ ap (λ (b : Bool).
    old ++ cond (b && has_elements elements c.in-Some-entry.queue)
    ((c.in-Some-entry.res.now, c.in-Some-entry.queue) ∷ []) [])
    c.may_be_shown_at-shown.ensures)
    c.before-next.ensures

none-left : (o : Option ℕ) → ((p : ℕ) → o ≡ Some p → ⊥) → o ≡ None
none-left None h = refl
none-left (Some p) h = absurd (h p refl)

pub returns : goal.returns
returns g c =
    let shown = may_show (Some c.args.place) c.args.chosen.now in
    let elements = g.Q.Queues.elements c.args.queues.now in
    gathers-ends shown (class_at c.args.place) c.args.numbers.now.entries elements (numbers_of c.places.found.items)
    (subst (Gathers shown (class_at c.args.place) c.args.numbers.now.entries elements (numbers_of c.places.found.items))
    (none-left c.places.next c.in_default.not-Some) c.places.invariant)
