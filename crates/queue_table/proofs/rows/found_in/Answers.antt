use Rattle.std.proofs.Common.{◌∙◌, arith, ap, Bool, [], ◌∷◌, ◌++◌, ◌&&◌, cond, None}
use Rattle.queue_table.specs.Shown.{has_elements, numbers_of, may_show}
use Rattle.queue_table.proofs.PurgeLemmas.{number_at-live}
use Rattle.queue_table.proofs.RowLemmas.{kept-more, kept-end}
use Rattle.queue_table.proofs.rows.found_in.Goals as goal

pub add_shown-requires : goal.add_shown-requires
add_shown-requires g c =
    number_at-live (g.Q.Queues.is_live c.args.queues.now) c.args.numbers.now.entries c.loop-i.i
    (c.in-Some.res.now, c.in-Some.queue) c.requires.table.live_numbers c.in-Some.ensures.entry

pub loop-i-preserved : goal.loop-i-preserved
loop-i-preserved g c =
    kept-more (may_show None c.args.chosen.now) (g.Q.Queues.elements c.args.queues.now) c.args.numbers.now.entries
    c.loop-i.i (c.in-Some.res.now, c.in-Some.queue) _ _ _ c.in-Some.ensures.entry
    (c.in_ok-add_shown-in-Some.ensures
    ∙ ap (λ (b : Bool).
    numbers_of c.loop-i.found.items
    ++ cond (b && has_elements (g.Q.Queues.elements c.args.queues.now) c.in-Some.queue)
    ((c.in-Some.res.now, c.in-Some.queue) ∷ []) [])
    c.matches_filter-shown.ensures)
    c.loop-i.invariant

pub returns : goal.returns
returns g c =
    kept-end (may_show None c.args.chosen.now) (g.Q.Queues.elements c.args.queues.now) c.args.numbers.now.entries
    c.loop-i.i _ _ (omega arith) c.loop-i.invariant
