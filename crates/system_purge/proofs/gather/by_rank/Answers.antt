use Rattle.std.proofs.Common.{rules, sym, subst, List}
use Rattle.std.specs.List.Sorted.{IsNonDecreasingBy}
use Rattle.std.proofs.lemmas.List.Sorted.{IsNonDecreasingBy-from_sort_by_key}
use Rattle.grs_wire.specs.declared.gather.PartRec.{PartRec}
use Rattle.system_purge.proofs.gather.by_rank.Goals as goal

pub returns-clause-sorted : goal.returns-clause-sorted
returns-clause-sorted c =
    subst (λ (recs : List PartRec). IsNonDecreasingBy (λ r. r.rank) recs) (sym c.from_vec.ensures)
    (IsNonDecreasingBy-from_sort_by_key (λ r. r.rank) _ c.sort_unstable_by_key.ensures.sorted
    (λ a r q k. search rules))
