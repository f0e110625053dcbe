use Rattle.std.proofs.Common.{◌≡◌, refl, sym, subst, Option, Some, None}
use Rattle.std.specs.Prelude.{filter}
use Rattle.grs_base.specs.Rows.{lists_of}
use Rattle.grs_base.specs.declared.look.Place.{Place}
use Rattle.queue_table.specs.Classes.{class_at, visits}
use Rattle.queue_table.specs.Names.{named}
use Rattle.queue_table.specs.Shown.{lists_at, may_show}
use Rattle.queue_table.proofs.ClassLemmas.{class-may_show, paired-visits, number-visited}
use Rattle.queue_table.proofs.RowLemmas.{in_order-shown, live-shown, all-visits}
use Rattle.queue_table.proofs.rows.found_shown.Goals as goal

pub returns-in_ok-sorted-in-Some-clause-lists : goal.returns-in_ok-sorted-in-Some-clause-lists
returns-in_ok-sorted-in-Some-clause-lists g c =
    let entries = c.args.numbers.now.entries in
    let elements = g.Q.Queues.elements c.args.queues.now in
    let class = class_at c.in-Some.place in
    subst
    (λ (o : Option Place).
    lists_at elements c.in_ok-sorted-in-Some.sorted.items
    ≡ filter (λ e. may_show o c.args.chosen.now e.0) (lists_of (named entries elements)))
    (sym c.in-Some.is)
    (in_order-shown (may_show (Some c.in-Some.place) c.args.chosen.now) (visits class entries) entries elements
    c.in_ok-found-in-Some.found.items c.in_ok-sorted-in-Some.sorted.items
    (paired-visits class entries c.requires.table.paired) c.requires.table.paired
    (λ q f.
    number-visited class entries q c.requires.table.paired (class-may_show c.in-Some.place c.args.chosen.now q f))
    c.in_ok-found-in-Some.ensures c.in_ok-sorted-in-Some.ensures.sorted c.in_ok-sorted-in-Some.ensures.stable)

pub returns-in_ok-sorted-in-Some-clause-live : goal.returns-in_ok-sorted-in-Some-clause-live
returns-in_ok-sorted-in-Some-clause-live g c =
    let entries = c.args.numbers.now.entries in
    let live = g.Q.Queues.is_live c.args.queues.now in
    let class = class_at c.in-Some.place in
    live-shown live (may_show (Some c.in-Some.place) c.args.chosen.now) (g.Q.Queues.elements c.args.queues.now)
    (visits class entries) c.in_ok-found-in-Some.found.items c.in_ok-sorted-in-Some.sorted.items
    (all-visits live class entries c.requires.table.live_numbers) c.in_ok-found-in-Some.ensures
    c.in_ok-sorted-in-Some.ensures.permutation

pub returns-in_ok-sorted-in-None-clause-lists : goal.returns-in_ok-sorted-in-None-clause-lists
returns-in_ok-sorted-in-None-clause-lists g c =
    let entries = c.args.numbers.now.entries in
    let elements = g.Q.Queues.elements c.args.queues.now in
    subst
    (λ (o : Option Place).
    lists_at elements c.in_ok-sorted-in-None.sorted.items
    ≡ filter (λ e. may_show o c.args.chosen.now e.0) (lists_of (named entries elements)))
    (sym c.in-None.is)
    (in_order-shown (may_show None c.args.chosen.now) entries entries elements c.in_ok-found-in-None.found.items
    c.in_ok-sorted-in-None.sorted.items c.requires.table.paired c.requires.table.paired (λ q f. refl)
    c.in_ok-found-in-None.ensures c.in_ok-sorted-in-None.ensures.sorted c.in_ok-sorted-in-None.ensures.stable)

pub returns-in_ok-sorted-in-None-clause-live : goal.returns-in_ok-sorted-in-None-clause-live
returns-in_ok-sorted-in-None-clause-live g c =
    live-shown (g.Q.Queues.is_live c.args.queues.now) (may_show None c.args.chosen.now)
    (g.Q.Queues.elements c.args.queues.now) c.args.numbers.now.entries c.in_ok-found-in-None.found.items
    c.in_ok-sorted-in-None.sorted.items c.requires.table.live_numbers c.in_ok-found-in-None.ensures
    c.in_ok-sorted-in-None.ensures.permutation
