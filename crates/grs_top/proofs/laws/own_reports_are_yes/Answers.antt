use Rattle.grs_top.proofs.OwnReports.{own_reports_are_yes}
use Rattle.grs_top.proofs.laws.own_reports_are_yes.Goals as goal

pub returns : goal.returns
returns c = own_reports_are_yes c.one_deck.ensures.whole c.reports_are_yes.ensures c.doers_are_of_deck.ensures
