use Rattle.std.proofs.Common.{◌≤◌, ◌+◌, ◌-◌, ◌*◌, length}
use Rattle.rnl_match.proofs.SearchLaws.{IsSearch}
use Rattle.rnl_match.proofs.pattern.matches_some_rest.Given as goal

abbrev pub invariant-bytes : goal.invariant-bytes
invariant-bytes l = record {
  star_read : l.star ≤ l.reached;
  reached_within : l.reached ≤ length l.pattern;
  from_behind : l.from ≤ l.place;
  place_within : l.place ≤ length l.text;
  search : IsSearch l.pattern l.text l.star l.from l.reached l.place;
}

abbrev pub decreases-bytes : goal.decreases-bytes
decreases-bytes l = (length l.pattern + 1) * (length l.text - l.from) + (length l.pattern - l.reached)
