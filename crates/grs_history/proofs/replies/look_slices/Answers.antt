use Rattle.std.proofs.Common.{◌∙◌, ◌++◌, ◌∷◌, [], ◌+◌, ap, arith}
use Rattle.grs_wire.specs.declared.history.HistEntry.{HistEntry}
use Rattle.grs_history.proofs.LoopLemmas.{entries-more}
use Rattle.grs_history.proofs.replies.look_slices.Goals as goal

pub loop-slice-preserved : goal.loop-slice-preserved
loop-slice-preserved c =
    entries-more c.args.table.now.elements c.args.task c.loop-slice.slice (c.args.first + c.args.count)
    c.args.filter.now c.loop-slice.hist c.push.new.self _ (omega (arith, c.in-Some.ensures)) c.loop-slice.invariant
    (c.in_ok-push.ensures.ok ∙ ap (λ (h : HistEntry). c.loop-slice.hist ++ h ∷ []) c.in_ok-look.ensures)
