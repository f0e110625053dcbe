use Rattle.std.proofs.Common.{◌≡◌, ◌++◌, cond, map, take, drop, nat_eq}
use Rattle.std.specs.Prelude.{vec_len, vec_capacity}
use Rattle.grs_base.specs.State.{is_at}
use Rattle.grs_base.specs.declared.resource.Ctl.TheVariants.{E}
use Rattle.serial_queue.proofs.plain.make_exclusive.Given as goal

abbrev pub invariant-loop-i : goal.invariant-loop-i
invariant-loop-i l = record {
  items : l.pushed.items
      ≡ map (λ x. cond (is_at nat_eq l.queue l.task x) (x.0, record { task = x.1.task; ctl = E }) x)
      (take l.i l.initial.pushed.items)
      ++ drop l.i l.initial.pushed.items;
  len : vec_len l.pushed ≡ vec_len l.initial.pushed;
  capacity : vec_capacity l.pushed ≡ vec_capacity l.initial.pushed;
}
