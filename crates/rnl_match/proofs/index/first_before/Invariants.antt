use Rattle.std.proofs.Common.{◌≡◌, ◌+◌, drop}
use Rattle.rnl_match.specs.Matches.{matches}
use Rattle.rnl_match.specs.Index.{first_place}
use Rattle.rnl_match.proofs.index.first_before.Given as goal

abbrev pub invariant-loop-place : goal.invariant-loop-place
invariant-loop-place g l = record {
  first : first_place (λ e. matches e l.q l.r) l.entries l.end l.places
      ≡ first_place (λ e. matches e l.q l.r) l.entries l.end (drop l.place-index l.places);
  steps : l.steps ≡ l.fn.steps + l.place-index;
}
