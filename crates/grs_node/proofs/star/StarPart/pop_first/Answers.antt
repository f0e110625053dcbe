use Rattle.std.proofs.Common.{ap, sym}
use Rattle.grs_node.proofs.Settled.{popped-first, popped-rest, none-first}
use Rattle.grs_node.specs.Star.{StarPart, may_settle}
use Rattle.grs_node.proofs.star.StarPart.pop_first.Goals as goal

pub returns-in-Some-clause-first : goal.returns-in-Some-clause-first
returns-in-Some-clause-first c =
    popped-first c.remove.result c.args.self.now c.self.inside.held.items c.in-Some.place c.self.inside.held.len
    (ap (λ (p : StarPart). p.held) c.self.view_is) c.self.inside.held.ok.0 (sym c.in-Some.ensures)
    c.remove.ensures.succeeds

pub returns-in-Some-clause-rest : goal.returns-in-Some-clause-rest
returns-in-Some-clause-rest c =
    popped-rest c.remove.result _ c.args.self.now c.remove.new.self.items c.in-Some.place c.self.view_is
    (sym c.in-Some.ensures) c.remove.ensures.items

pub returns-in-None-clause-first : goal.returns-in-None-clause-first
returns-in-None-clause-first c =
    sym (none-first (may_settle c.args.self.now) c.args.self.now.held (sym c.in-None.ensures))
