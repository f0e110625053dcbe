use Rattle.std.proofs.Common.{arith}
use Rattle.grs_audit.proofs.PartLaws.{lines-few}
use Rattle.grs_audit.proofs.halves.halves_of.Goals as goal

pub overflow_add-result : goal.overflow_add-result
overflow_add-result c =
    let few = c.find_report-lines.ensures.few in omega (arith, few, c.requires)

pub returns-clause-deck : goal.returns-clause-deck
returns-clause-deck c = c.find_report-lines.ensures.deck

pub returns-clause-report : goal.returns-clause-report
returns-clause-report c = c.find_report-lines.ensures.report

pub returns-clause-first : goal.returns-clause-first
returns-clause-first c = c.find_report-lines.ensures.first

pub returns-clause-few : goal.returns-clause-few
returns-clause-few c =
    let few = c.find_report-lines.ensures.few in
    let lines = lines-few c.find_report-lines.result.0.now in
    omega (arith, few, lines, c.requires)
