use Rattle.std.proofs.Common.{◌∙◌, ap, map}
use Rattle.std.proofs.lemmas.Result.{IfOk-weaker}
use Rattle.grs_base.specs.Rows.{rows_of}
use Rattle.mode_migrate.specs.Groups.{groups_of, word_of}
use Rattle.mode_migrate.proofs.GroupLaws.{words-in}
use Rattle.mode_migrate.proofs.words.words_of.Goals as goal

pub returns : goal.returns
returns g c = IfOk-weaker c.words.result _ _
    (λ words are.
    are
    ∙ ap (map word_of)
    (c.as_slice.ensures.value ∙ c.in_ok-groups.ensures ∙ ap (groups_of c.args.entries) c.in_ok-rows.ensures)
    ∙ words-in c.args.entries (rows_of c.args.table.now.elements))
    c.words.ensures
