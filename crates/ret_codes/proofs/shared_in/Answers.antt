use Rattle.std.proofs.Common.{◌≤◌, ap, arith, length, nat_eq}
use Rattle.std.proofs.Math.ListN.{drop_of_length-le}
use Rattle.grs_base.specs.Lists.{is_shared, shared_front}
use Rattle.grs_base.specs.State.{list_at}
use Rattle.ret_codes.proofs.Steps.{front-stop, front-next}
use Rattle.ret_codes.proofs.shared_in.Goals as goal

pub returns-in-E : goal.returns-in-E
returns-in-E g c =
    let es = list_at nat_eq (g.Q.Queues.elements c.args.queues.now) c.args.queue in
    omega (
      arith,
      c.loop-place.invariant,
      front-stop es c.loop-place.place c.elem.result c.elem.ensures (ap is_shared c.in-E.is),
    )

pub loop-place-preserved : goal.loop-place-preserved
loop-place-preserved g c =
    let es = list_at nat_eq (g.Q.Queues.elements c.args.queues.now) c.args.queue in
    omega (
      arith,
      c.loop-place.invariant,
      front-next es c.loop-place.place c.elem.result c.elem.ensures (ap is_shared c.in-S.is),
    )

pub returns : goal.returns
returns g c =
    let es = list_at nat_eq (g.Q.Queues.elements c.args.queues.now) c.args.queue in
    let past : length es ≤ c.loop-place.place = omega (arith, c.len-len.ensures) in
    omega (arith, c.loop-place.invariant, c.len-len.ensures, ap shared_front (drop_of_length-le es past))
