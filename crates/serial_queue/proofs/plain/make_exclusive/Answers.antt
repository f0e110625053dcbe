use Rattle.std.proofs.Common.{arith, cond, nat_eq, ℕ}
use Rattle.std.proofs.lemmas.List.Edits.{map_over_more}
use Rattle.grs_base.specs.State.{is_at}
use Rattle.grs_base.specs.declared.resource.Ctl.TheVariants.{E}
use Rattle.grs_base.specs.declared.resource.Elem.{Elem}
use Rattle.serial_queue.proofs.plain.make_exclusive.Goals as goal

pub loop-i-preserved : goal.loop-i-preserved
loop-i-preserved c = record {
  items =
      rw c.excluded.ensures
      (map_over_more
      (λ (x : ℕ × Elem). cond (is_at nat_eq c.args.queue c.args.task x) (x.0, record { task = x.1.task; ctl = E }) x)
      c.args.pushed.now.items c.loop-i.pushed.items c.loop-i.i c.index_mut-x.result.now (omega arith)
      c.loop-i.invariant.items c.index_mut-x.ensures.value);
  len = c.loop-i.invariant.len;
  capacity = c.loop-i.invariant.capacity;
}
