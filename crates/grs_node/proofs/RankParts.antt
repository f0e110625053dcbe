-- Ranks of the parts of all lock entries, part by part.
use Rattle.std.proofs.Common.{◌≡◌, List, [], ◌∷◌, ◌++◌, refl}
use Rattle.grs_node.specs.Change.{with_list_ranks, with_ranks}
use Rattle.lock_structure.specs.RankedRows.{RankedRow}
use Rattle.task_state.specs.View.{TasksView}

-- what stands behind other rows gets its ranks behind them
pub ranks-behind : (v : TasksView) (xs ys : List RankedRow) → with_ranks v (xs ++ ys) ≡ with_ranks (with_ranks v xs) ys
ranks-behind v [] ys = refl
ranks-behind v (x ∷ xs) ys = ranks-behind (with_list_ranks v x.0.res x.0.elems x.1) xs ys

pub ruleset rank_parts = (ranks-behind)
