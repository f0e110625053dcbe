use Rattle.std.proofs.Common.{sym, ◌∙◌}
use Rattle.grs_top.proofs.HistoryLen.{look-count}
use Rattle.grs_top.proofs.generate.entry_count.Goals as goal

pub returns-in-Look : goal.returns-in-Look
returns-in-Look c = λ lists system.
    look-count c.args.fixed.now c.in-Asked.req c.in-Look.first c.in-Look.count c.in-Look.filter lists system
    c.in-Asked.is c.in-Look.is
    ∙ sym c.from.ensures
