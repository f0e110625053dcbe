use Rattle.std.proofs.Common.{◌≡◌, ◌+◌, drop, nat_eq}
use Rattle.grs_base.specs.Lists.{shared_front}
use Rattle.grs_base.specs.State.{list_at}
use Rattle.ret_codes.proofs.shared_in.Given as goal

abbrev pub invariant-loop-place : goal.invariant-loop-place
invariant-loop-place g l =
    let es = list_at nat_eq (g.Q.Queues.elements l.queues) l.queue in
    l.place + shared_front (drop l.place es) ≡ shared_front es
