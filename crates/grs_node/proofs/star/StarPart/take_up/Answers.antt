use Rattle.std.proofs.Common.{◌≡◌, length, ap, sym, ◌∙◌}
use Rattle.grs_node.specs.Star.{StarPart}
use Rattle.grs_node.proofs.RemovalFits.{may-install}
use Rattle.grs_node.proofs.star.StarPart.take_up.Goals as goal

pub install-requires-clause-recs : goal.install-requires-clause-recs
install-requires-clause-recs c =
    let p = c.self.inside in
    let many : length p.gathers ≡ length p.manager.entries =
    ap (λ (x : StarPart). length x.gathers) c.self.view_is
    ∙ (c.requires.count ∙ sym (ap (λ (x : StarPart). length x.manager.entries) c.self.view_is)) in
    may-install _ _ _ c.args.entry c.args.names.now c.args.tasks.now _ _ _ _ many c.entries.ensures.count
    c.in_ok-parts.ensures.right c.in_ok-own.ensures c.in_ok-parts.ensures.parts c.in_ok-records.ensures.recs
