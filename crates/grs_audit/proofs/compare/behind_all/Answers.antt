use Rattle.std.proofs.Common.{ap, ◌∙◌, ◌++◌, ◌∷◌, []}
use Rattle.std.proofs.lemmas.Bool.Decides.{Decides-eqb}
use Rattle.std.proofs.lemmas.Slice.Eq.{strip_prefix_is}
use Rattle.grs_audit.proofs.CompareLaws.{lines-stripped}
use Rattle.grs_audit.proofs.compare.behind_all.Goals as goal

pub returns-in-Some : goal.returns-in-Some
returns-in-Some c =
    lines-stripped c.args.wanted.now c.args.text.now c.in-Some.field-0-1.now
    (c.in-Some.ensures.cases.0 ∙ ap (λ b. c.in-Some.field-0-1.now ++ b ∷ []) c.if-last-eq10.true)
    c.strip_prefix.result
    (strip_prefix_is Decides-eqb c.args.text.now c.args.wanted.now c.strip_prefix.result c.strip_prefix.ensures.cases)
