use Rattle.std.proofs.Common.{Bor, ap, sym}
use Rattle.grs_node.proofs.Settled.{lent-first, none-first}
use Rattle.grs_node.specs.Star.{StarPart, may_settle}
use Rattle.grs_wire.specs.declared.request.Req.{Req}
use Rattle.grs_node.proofs.star.StarPart.first_held.Goals as goal

pub returns-in-Some : goal.returns-in-Some
returns-in-Some c =
    lent-first (λ (x : Bor Req). x.now) c.get.result c.args.self.now c.self.inside.held.items c.in-Some.place
    c.self.inside.held.len (ap (λ (p : StarPart). p.held) c.self.view_is) c.self.inside.held.ok.0
    (sym c.in-Some.ensures) c.get.ensures.variant.1 c.get.ensures.lookup

pub returns-in-None : goal.returns-in-None
returns-in-None c = sym (none-first (may_settle c.args.self.now) c.args.self.now.held (sym c.in-None.ensures))
