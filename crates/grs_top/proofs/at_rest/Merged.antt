-- The run of merged events ends at rest.
use Rattle.std.proofs.Common.{ap, ◌∙◌, length}
use Rattle.grs_history.specs.Merge.{merged_steps}
use Rattle.grs_top.specs.Beside.{logs_of, MergedRests}
use Rattle.grs_top.proofs.merged.MergedRuns.{count-nodes, merged_runs}
use Rattle.grs_top.proofs.at_rest.Ended.{rests}
use Rattle.grs_top.proofs.at_rest.Informed.{runs_informed}

pub merged_rests : MergedRests
merged_rests deck m journal vs some h last =
    let r = merged_runs deck m journal vs h in
    rests deck m journal vs h last some (runs_informed deck) (merged_steps journal (logs_of vs)).events r.medium
    (ap (λ ns. length ns) r.nodes ∙ count-nodes vs ∙ h.count)
