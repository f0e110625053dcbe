use Rattle.std.proofs.Common.{◌+◌, ◌-◌, length, drop, sym, ◌∙◌, arith, length-drop}
use Rattle.std.proofs.lemmas.List.{take_all}
use Rattle.grs_audit.proofs.PartLaws.{behind-some}
use Rattle.grs_audit.proofs.parts.cut.Goals as goal

pub returns-in-Some-clause-behind : goal.returns-in-Some-clause-behind
returns-in-Some-clause-behind c =
    take_all (length c.args.text.now - (c.in-Some.at + 1)) (drop (c.in-Some.at + 1) c.args.text.now)
    (omega (arith, length-drop (c.in-Some.at + 1) c.args.text.now))
    ∙ behind-some c.args.byte c.args.text.now c.in-Some.at (sym c.in-Some.is ∙ c.first_of.ensures.at)
