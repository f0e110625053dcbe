use Rattle.std.proofs.Common.{refl}
use Rattle.system_purge.proofs.Counting.{clear-distinct}
use Rattle.system_purge.specs.Gather.{all_of}
use Rattle.call_tests.specs.Parts.{own_recs, sent_recs}
use Rattle.call_tests.proofs.gathering.merged_with.Goals as goal

pub merge_parts-requires : goal.merge_parts-requires
merge_parts-requires c = rw (c.requires.own, c.requires.parts) (clear-distinct (all_of own_recs sent_recs) refl)
