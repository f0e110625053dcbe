use Rattle.std.proofs.Common.{◌≡◌, ◌∙◌, [], ap, arith, length, count_by, unwrap_or}
use Rattle.grs_base.specs.Rnl.{RnlView}
use Rattle.rnl_match.specs.Index.{is_under, places}
use Rattle.rnl_match.proofs.IndexLaws.{length-places}
use Rattle.rnl_match.proofs.index.RnlIndex.find_named.Goals as goal

pub returns-in-None-clause-none : goal.returns-in-None-clause-none
returns-in-None-clause-none g c =
    let es = c.self.inside.list.now.entries in
    let none : [] ≡ places (is_under c.args.q.now) 0 es =
    ap (λ o. unwrap_or o []) c.in-None.ensures ∙ c.self.invariant.under c.args.q.now in
    let same : count_by (is_under c.args.q.now) es ≡ count_by (is_under c.args.q.now) c.args.self.now.entries =
    ap (λ (v : RnlView). count_by (is_under c.args.q.now) v.entries) c.self.view_is in
    omega (arith, ap length none, length-places (is_under c.args.q.now) 0 es, same)
