use Rattle.grs_history.specs.Merge.{merged_steps}
use Rattle.grs_top.specs.Beside.{logs_of}
use Rattle.grs_top.proofs.merged.SeenLaws.{seen_is}
use Rattle.grs_top.proofs.beside.seen_of.Goals as goal

pub returns-clause-seen : goal.returns-clause-seen
returns-clause-seen c =
    rw (
      c.in_ok-ended.ensures,
      c.removed.ensures,
      c.as_slice-4.ensures,
      c.star.ensures,
      c.in_ok-words.ensures,
      c.words.ensures,
      c.in_ok-units.ensures,
      c.as_slice-3.ensures,
      c.in_ok-queues.ensures,
      c.as_slice-2.ensures,
      c.in_ok-merged.ensures,
      c.as_slice.ensures,
    )
    (seen_is c.args.deck.now c.args.medium.now.state c.args.nodes.now
    (merged_steps c.args.journal.now (logs_of c.args.nodes.now))
    (c.merged_runs.ensures c.args.deck.now c.args.medium.now.state c.args.journal.now c.args.nodes.now c.requires.ran))
