use Rattle.std.proofs.Common.{◌∙◌}
use Rattle.grs_latch.proofs.NumberLemmas.{among_at}
use Rattle.grs_latch.proofs.OneLemmas.{one-request, one-grants, one-purged}
use Rattle.grs_latch.proofs.parts.purge_one.Goals as goal

pub take_out-requires : goal.take_out-requires
take_out-requires g c = record {
  live = c.requires.numbered.live c.args.queue
      (among_at c.args.numbers.now c.args.latch c.args.queue c.requires.latch);
}

pub returns-clause-taken : goal.returns-clause-taken
returns-clause-taken g c =
    one-request (g.Q.Queues.elements c.args.queues.now) c.args.numbers.now c.args.latch c.args.queue c.args.task
    c.requires.numbered.apart c.requires.latch c.requires.only

pub returns-clause-grants : goal.returns-clause-grants
returns-clause-grants g c =
    c.in_ok-grants.ensures.grants
    ∙ one-grants (g.Q.Queues.elements c.args.queues.now) c.args.set c.args.numbers.now c.args.latch c.args.queue
    c.args.task c.requires.numbered.apart c.requires.latch c.requires.only

pub returns-clause-lists : goal.returns-clause-lists
returns-clause-lists g c =
    one-purged (g.Q.Queues.elements c.args.queues.now) (g.Q.Queues.elements c.take_out.new.queues) c.args.numbers.now
    c.args.queue c.args.task c.requires.only c.in_ok-grants.ensures.elements
