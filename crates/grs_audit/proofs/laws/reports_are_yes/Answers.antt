use Rattle.grs_audit.proofs.ReportLaws.{reports_are_yes}
use Rattle.grs_audit.proofs.laws.reports_are_yes.Goals as goal

pub returns : goal.returns
returns c = reports_are_yes
