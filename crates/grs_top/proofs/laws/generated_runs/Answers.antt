use Rattle.grs_top.proofs.GenLaws.{generated}
use Rattle.grs_top.proofs.laws.generated_runs.Goals as goal

pub returns : goal.returns
returns c =
    generated c.are_decks.ensures c.runs_are_sound.ensures c.decks_without_removals_are_spared.ensures
    c.spared_runs_take_no_entries.ensures
