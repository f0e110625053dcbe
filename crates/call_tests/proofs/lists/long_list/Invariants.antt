use Rattle.std.specs.Prelude.{◌≡◌, ◌+◌, ◌∷◌, [], cond, length, count_by, nat_lt}
use Rattle.grs_base.specs.declared.rnl.Which.TheVariants.{Excl}
use Rattle.rnl_match.specs.Index.{is_under, is_pattern}
use Rattle.call_tests.proofs.lists.long_list.Given as goal

abbrev pub invariant-loop-place : goal.invariant-loop-place
invariant-loop-place l = record {
  which : l.list.which ≡ Excl;
  long : length l.list.entries ≡ l.place;
  named : count_by (is_under (65 ∷ [])) l.list.entries ≡ cond (nat_lt 7 l.place) 1 0 + cond (nat_lt 4000 l.place) 1 0;
  apart : count_by is_pattern l.list.entries
      ≡ cond (nat_lt 2 l.place) 1 0 + cond (nat_lt 2000 l.place) 1 0 + cond (nat_lt 4095 l.place) 1 0;
}
