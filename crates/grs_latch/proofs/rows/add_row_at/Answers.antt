use Rattle.std.proofs.Common.{◌∙◌, ℕ, ap, Some}
use Rattle.std.specs.Prelude.{Option}
use Rattle.grs_latch.proofs.NumberLemmas.{among_at, on-ok}
use Rattle.grs_latch.proofs.PurgeLemmas.{rows-on, rows-absent}
use Rattle.grs_latch.proofs.rows.add_row_at.Goals as goal

pub add_row-requires : goal.add_row-requires
add_row-requires g c = record {
  live = c.requires.numbered.live c.in-Some.queue
      (among_at c.args.numbers.now c.args.latch c.in-Some.queue
      (c.queue_at.ensures ∙ ap (λ (o : Option ℕ). Some o) c.in-Some.is));
}

pub returns-in-Some : goal.returns-in-Some
returns-in-Some g c =
    on-ok c.add_row.result _ _ c.add_row.ensures (λ is.
    rows-on (g.Q.Queues.elements c.args.queues.now) c.args.set c.args.numbers.now c.args.latch c.in-Some.queue
    c.args.rows.now c.add_row.new.rows (c.queue_at.ensures ∙ ap (λ (o : Option ℕ). Some o) c.in-Some.is) is)

pub returns-in-None : goal.returns-in-None
returns-in-None g c =
    rows-absent (g.Q.Queues.elements c.args.queues.now) c.args.set c.args.numbers.now c.args.latch c.args.rows.now
    (c.queue_at.ensures ∙ ap (λ (o : Option ℕ). Some o) c.in-None.is)
