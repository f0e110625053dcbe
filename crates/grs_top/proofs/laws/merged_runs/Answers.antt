use Rattle.grs_top.proofs.merged.MergedRuns.{merged_runs}
use Rattle.grs_top.proofs.laws.merged_runs.Goals as goal

pub returns : goal.returns
returns c = merged_runs
