use Rattle.std.proofs.Common.{◌∙◌, ◌++◌, ◌+◌, List, min, refl, ap, arith}
use Rattle.grs_base.specs.declared.resource.Row.{Row}
use Rattle.queue_table.proofs.SliceLemmas.{looks-more, looks-end}
use Rattle.queue_table.proofs.slices.look_slices.Goals as goal

pub loop-slice-preserved : goal.loop-slice-preserved
loop-slice-preserved g c =
    looks-more c.args.table.now.elements c.loop-slice.slice (min (c.args.first + c.args.count) 64) c.args.filter.now
    c.loop-slice.rows c.in_ok-rows.rows _ (omega arith) c.loop-slice.invariant
    (c.in_ok-rows.ensures ∙ ap (λ (l : List Row). c.loop-slice.rows ++ l) c.in_ok-look.ensures)

pub returns : goal.returns
returns g c =
    looks-end c.args.table.now.elements c.args.first c.args.count c.loop-slice.slice
    (min (c.args.first + c.args.count) 64) c.args.filter.now c.loop-slice.rows refl (omega arith) c.loop-slice.invariant
