use Rattle.std.proofs.Common.{◌≡◌, ◌==◌, ◌∙◌, false, drop, get_or, arith, sym}
use Rattle.std.proofs.lemmas.Bool.{ne_eqb}
use Rattle.rnl_match.specs.Matches.{matches_pattern}
use Rattle.rnl_match.proofs.SearchLaws.{search-star, search-byte, search-fail, fails-at_end, fails-at}
use Rattle.rnl_match.proofs.pattern.matches_some_rest.Goals as goal
use Rattle.rnl_match.proofs.pattern.matches_some_rest.Goals.{else-reached-pattern-via-then-reached-pattern+else-pattern-reached-eq42}
use Rattle.rnl_match.proofs.pattern.matches_some_rest.Goals.{else-reached-pattern-via-else-reached-pattern}
use Rattle.rnl_match.proofs.pattern.matches_some_rest.Goals.{else-reached-pattern-2-via-then-reached-pattern-2+else-stands_for}
use Rattle.rnl_match.proofs.pattern.matches_some_rest.Goals.{else-reached-pattern-2-via-else-reached-pattern-2}

pub bytes-preserved-then-pattern-reached-eq42 : goal.bytes-preserved-then-pattern-reached-eq42
bytes-preserved-then-pattern-reached-eq42 c = record {
  star_read = omega arith;
  reached_within = omega arith;
  from_behind = omega arith;
  place_within = omega arith;
  search =
      search-star c.args.pattern.now c.args.text.now c.bytes.star c.bytes.from c.bytes.reached c.bytes.place
      (omega arith) c.if-pattern-reached-eq42.true c.bytes.invariant.search;
}

pub bytes-preserved-then-stands_for : goal.bytes-preserved-then-stands_for
bytes-preserved-then-stands_for c =
    let plain : (get_or c.args.pattern.now c.bytes.reached 0 == 42) ≡ false = elim c.else-reached-pattern.branch [
      | else-reached-pattern-via-then-reached-pattern+else-pattern-reached-eq42 w ↦ ne_eqb _ _
          w.if-pattern-reached-eq42.false
      | else-reached-pattern-via-else-reached-pattern w ↦ absurd (omega (arith, w.if-reached-pattern.false))
    ] in
    record {
      star_read = omega arith;
      reached_within = omega arith;
      from_behind = omega arith;
      place_within = omega arith;
      search =
          search-byte c.args.pattern.now c.args.text.now c.bytes.star c.bytes.from c.bytes.reached c.bytes.place
          (omega arith) (omega arith) plain (sym c.stands_for.ensures ∙ c.if-stands_for.true) c.bytes.invariant.search;
    }

pub bytes-preserved : goal.bytes-preserved
bytes-preserved c =
    let fails : matches_pattern (drop c.bytes.reached c.args.pattern.now) (drop c.bytes.place c.args.text.now) ≡ false =
    elim c.else-reached-pattern.branch [
      | else-reached-pattern-via-else-reached-pattern w ↦ fails-at_end c.args.pattern.now c.args.text.now
          c.bytes.reached c.bytes.place (omega (arith, w.if-reached-pattern.false)) (omega arith)
      | else-reached-pattern-via-then-reached-pattern+else-pattern-reached-eq42
          w ↦ elim c.else-reached-pattern-2.branch [
            | else-reached-pattern-2-via-else-reached-pattern-2 v ↦ fails-at_end c.args.pattern.now c.args.text.now
                c.bytes.reached c.bytes.place (omega (arith, v.if-reached-pattern-2.false)) (omega arith)
            | else-reached-pattern-2-via-then-reached-pattern-2+else-stands_for v ↦ fails-at c.args.pattern.now
                c.args.text.now c.bytes.reached c.bytes.place (omega (arith, v.if-reached-pattern-2.true)) (omega arith)
                (ne_eqb _ _ w.if-pattern-reached-eq42.false) (sym v.stands_for.ensures ∙ v.if-stands_for.false)
          ]
    ] in
    record {
      star_read = omega arith;
      reached_within = omega arith;
      from_behind = omega arith;
      place_within = omega arith;
      search =
          search-fail c.args.pattern.now c.args.text.now c.bytes.star c.bytes.from c.bytes.reached c.bytes.place fails
          c.bytes.invariant.search;
    }
