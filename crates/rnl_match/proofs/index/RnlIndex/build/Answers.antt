use Rattle.std.proofs.Common.{◌≡◌, ◌∙◌, ◌++◌, ◌∷◌, [], List, ◌<◌, length, get_or, ℕ, ap, arith, if◌then◌else◌}
use Rattle.grs_base.specs.declared.rnl.RnlEntry.{RnlEntry}
use Rattle.rnl_match.specs.Index.{is_under, is_pattern, bucket_at}
use Rattle.rnl_match.proofs.IndexLaws.{places-more}
use Rattle.rnl_match.proofs.index.RnlIndex.build.Goals as goal

pub loop-place-preserved : goal.loop-place-preserved
loop-place-preserved c =
    let e = c.entry-item.result in
    let i = c.loop-place.place in
    let es = c.args.list.now.entries in
    let all : c.as_slice-entry-items.result.now ≡ es = c.as_slice-entry-items.ensures in
    let within : i < length es = omega (arith, ap length all) in
    let is : e ≡ get_or es i e = c.entry-item.is ∙ ap (λ (l : List RnlEntry). get_or l i e) all in
    let place : c.in-Ok.place ≡ i = c.in-Ok.ensures.1 in
    record {
      under = λ q.
          places-more (is_under q) es i e (bucket_at c.loop-place.buckets.entries q) _ within is
          (c.loop-place.invariant.under q)
          (c.in_ok-add_entry.ensures.under q
          ∙ ap (λ (k : ℕ).
          if is_under q e
          then bucket_at c.loop-place.buckets.entries q ++ k ∷ []
          else bucket_at c.loop-place.buckets.entries q)
          place);
      apart = places-more is_pattern es i e c.loop-place.patterns _ within is c.loop-place.invariant.apart
          (c.in_ok-add_entry.ensures.apart
          ∙ ap (λ (k : ℕ). if is_pattern e then c.loop-place.patterns ++ k ∷ [] else c.loop-place.patterns) place);
    }
