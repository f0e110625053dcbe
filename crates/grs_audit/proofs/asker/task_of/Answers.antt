use Rattle.std.proofs.Common.{ap, ◌∙◌}
use Rattle.grs_deck.specs.Places.{task_in}
use Rattle.grs_audit.specs.Lines.{front, behind}
use Rattle.grs_audit.proofs.asker.task_of.Goals as goal

pub task_in-requires : goal.task_in-requires
task_in-requires c = c.requires

pub returns : goal.returns
returns c =
    c.task_in.ensures
    ∙ ap (λ n. task_in c.args.id c.args.found.now n c.cut-2.result.1.now)
    (c.cut-2.ensures.front ∙ ap (front 46) c.cut.ensures.behind)
    ∙ ap (λ n. task_in c.args.id c.args.found.now (front 46 (behind 46 c.args.word.now)) n)
    (c.cut-2.ensures.behind ∙ ap (behind 46) c.cut.ensures.behind)
