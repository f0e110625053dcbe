use Rattle.std.proofs.Common.{length}
use Rattle.grs_workers.proofs.FirstStands.{seats-inside}
use Rattle.grs_workers.proofs.crew.workers_of.Goals as goal

pub workers_with-requires-clause-systems : goal.workers_with-requires-clause-systems
workers_with-requires-clause-systems c =
    seats-inside c.args.bus.now c.args.seats (length c.args.deck.now.systems) c.requires.seats c.requires.count
