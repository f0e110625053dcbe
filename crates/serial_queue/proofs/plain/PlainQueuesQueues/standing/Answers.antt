use Rattle.std.proofs.Common.{arith, nat_eq}
use Rattle.std.proofs.lemmas.Bool.Decides.{nat_tests}
use Rattle.grs_base.specs.State.{list_at}
use Rattle.serial_queue.proofs.PlainLemmas.{standing-places}
use Rattle.serial_queue.proofs.plain.PlainQueuesQueues.standing.Goals as goal

pub returns : goal.returns
returns c =
    let places = standing-places (list_at nat_eq c.args.self.now.pushed.items c.args.queue) c.args.task in
    grind (arith, nat_tests, places)
