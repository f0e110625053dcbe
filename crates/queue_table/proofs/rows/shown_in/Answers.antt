use denote.Ref.{Bor}
use Rattle.std.proofs.Common.{◌≡◌, ◌∙◌, ℕ, List, ap, subst, filter, map}
use Rattle.std.specs.Prelude.{IfOk}
use Rattle.grs_base.specs.Rows.{row_of, lists_of}
use Rattle.grs_base.specs.declared.resource.Res.{Res}
use Rattle.grs_base.specs.declared.resource.Elem.{Elem}
use Rattle.grs_base.specs.declared.resource.Row.{Row}
use Rattle.queue_table.specs.Names.{named}
use Rattle.queue_table.specs.Shown.{lists_at, passes}
use Rattle.queue_table.proofs.RowLemmas.{rows-shown}
use Rattle.queue_table.proofs.rows.shown_in.Goals as goal

pub returns : goal.returns
returns g c =
    subst (λ (l : List Row). IfOk c.rows_from.result (λ rows. rows ≡ l))
    (ap (λ (xs : List (Bor Res × ℕ)).
    filter (passes c.args.chosen.now) (map row_of (lists_at (g.Q.Queues.elements c.args.queues.now) xs)))
    c.as_slice.ensures.value
    ∙ ap (λ (ls : List (Res × List Elem)). filter (passes c.args.chosen.now) (map row_of ls))
    c.in_ok-found.ensures.lists
    ∙ rows-shown c.args.place c.args.chosen.now
    (lists_of (named c.args.numbers.now.entries (g.Q.Queues.elements c.args.queues.now))))
    c.rows_from.ensures
