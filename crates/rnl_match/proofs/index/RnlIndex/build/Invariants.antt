use Rattle.std.proofs.Common.{◌≡◌, ℕ, List, take}
use Rattle.rnl_match.specs.Index.{places, is_under, is_pattern, bucket_at}
use Rattle.rnl_match.proofs.index.RnlIndex.build.Given as goal

abbrev pub invariant-loop-place : goal.invariant-loop-place
invariant-loop-place l = record {
  under : (q : List ℕ) → bucket_at l.buckets.entries q ≡ places (is_under q) 0 (take l.place l.list.entries);
  apart : l.patterns ≡ places is_pattern 0 (take l.place l.list.entries);
}
