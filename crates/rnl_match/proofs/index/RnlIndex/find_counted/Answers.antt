use Rattle.std.proofs.Common.{◌≡◌, ◌∙◌, length, ap}
use Rattle.grs_base.specs.Rnl.{RnlView}
use Rattle.rnl_match.proofs.IndexLaws.{find_split, found-within}
use Rattle.rnl_match.proofs.index.RnlIndex.find_counted.Goals as goal

pub returns-clause-first : goal.returns-clause-first
returns-clause-first g c =
    let all : c.len.result ≡ length c.args.self.now.entries =
    c.len.ensures ∙ ap (λ (v : RnlView). length v.entries) c.self.view_is in
    find_split c.args.q.now c.args.r.now c.args.self.now.entries _ _ _ _ _ c.find_named-named.ensures.first all
    c.unwrap_or-end.ensures c.find_pattern.ensures.first c.or.ensures

pub returns-clause-within : goal.returns-clause-within
returns-clause-within g c =
    found-within c.args.q.now c.args.r.now c.args.self.now.entries c.or.result (returns-clause-first g c)
