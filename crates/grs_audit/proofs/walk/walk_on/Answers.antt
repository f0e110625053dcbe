use Rattle.std.proofs.Common.{◌+◌, ap, sym, ◌∙◌, arith}
use Rattle.std.specs.Str.{bytes_eq}
use Rattle.grs_track.specs.Tracks.{view_of}
use Rattle.grs_audit.specs.Lines.{lines_in}
use Rattle.grs_audit.specs.Way.{told_word}
use Rattle.grs_audit.specs.declared.compare.Compared.TheVariants as compared
use Rattle.grs_audit.proofs.WalkLaws.{before, stepped, walked-none, walked-on, off-few, walked-off}
use Rattle.grs_audit.proofs.WalkLaws.{walked-told, walked-untold, first-front}
use Rattle.grs_audit.proofs.walk.walk_on.Goals as goal

pub entries-init : goal.entries-init
entries-init c = record {
  deck = c.requires.deck;
  at = walked-none c.args.deck.now c.args.count (lines_in c.args.text.now) (view_of c.args.tracks.now) c.requires.deck
      c.requires.begins;
}

pub overflow_add-done : goal.overflow_add-done
overflow_add-done c = let less = c.entries-test.true in let fits = c.ranges.count.fits in omega (arith, less, fits)

pub step-requires-clause-deck : goal.step-requires-clause-deck
step-requires-clause-deck c = c.entries.invariant.deck

pub step-requires-clause-read : goal.step-requires-clause-read
step-requires-clause-read c = c.requires.read

pub step-requires-clause-few : goal.step-requires-clause-few
step-requires-clause-few c =
    let left = c.entries.invariant.at.few in let few = c.requires.few in omega (arith, left, few)

pub lines_before-requires-clause-less : goal.lines_before-requires-clause-less
lines_before-requires-clause-less c = let few = c.entries.invariant.at.few in omega (arith, few)

pub returns-in-Some : goal.returns-in-Some
returns-in-Some c =
    rw c.lines_before.ensures
    (walked-off c.args.deck.now c.requires.read c.args.count (lines_in c.args.text.now) (lines_in c.entries.rest.now)
    c.entries.done (before (lines_in c.args.text.now) (lines_in c.entries.rest.now)) (view_of c.entries.tracks)
    c.requires.few c.entries.invariant.at (c.entries.done + 1)
    c.in-Some.lines (view_of c.step.new.tracks) c.entries-test.true (omega arith)
    (stepped c.args.deck.now c.args.names.now (c.entries.done + 1) (view_of c.entries.tracks)
    (lines_in c.entries.rest.now) (view_of c.step.new.tracks) (compared.Some c.in-Some.lines)
    c.requires.names c.in-Some.is
    c.in_ok-behind.ensures.steps))

pub overflow_add-result : goal.overflow_add-result
overflow_add-result c =
    let few =
    off-few c.args.deck.now c.requires.read c.args.count (lines_in c.args.text.now) (lines_in c.entries.rest.now)
    c.entries.done (before (lines_in c.args.text.now) (lines_in c.entries.rest.now)) (view_of c.entries.tracks)
    c.requires.few c.entries.invariant.at
    (c.entries.done + 1) c.in-Some.lines (view_of c.step.new.tracks) c.ranges.count.fits c.entries-test.true
    (omega arith)
    (stepped c.args.deck.now c.args.names.now (c.entries.done + 1) (view_of c.entries.tracks)
    (lines_in c.entries.rest.now) (view_of c.step.new.tracks) (compared.Some c.in-Some.lines)
    c.requires.names c.in-Some.is
    c.in_ok-behind.ensures.steps) in
    let all = c.requires.few in
    rw c.lines_before.ensures (omega (arith, few, all))

pub overflow_add-done-in-All : goal.overflow_add-done-in-All
overflow_add-done-in-All c =
    let less = c.entries-test.true in let fits = c.ranges.count.fits in omega (arith, less, fits)

pub entries-smaller : goal.entries-smaller
entries-smaller c = let less = c.entries-test.true in omega (arith, less)

pub entries-preserved : goal.entries-preserved
entries-preserved c = record {
  deck = c.step.ensures.deck ∙ c.entries.invariant.deck;
  at = walked-on c.args.deck.now c.requires.read c.args.count (lines_in c.args.text.now) (lines_in c.entries.rest.now)
      c.entries.done (before (lines_in c.args.text.now) (lines_in c.entries.rest.now)) (view_of c.entries.tracks)
      c.requires.few c.entries.invariant.at
      (c.entries.done + 1) c.in-All.behind (view_of c.step.new.tracks) c.ranges.count.fits
      c.entries-test.true (omega arith)
      (stepped c.args.deck.now c.args.names.now (c.entries.done + 1) (view_of c.entries.tracks)
      (lines_in c.entries.rest.now) (view_of c.step.new.tracks) (compared.All c.in-All.behind)
      c.requires.names c.in-All.is
      c.in_ok-behind.ensures.steps);
}

pub returns-then-is_told : goal.returns-then-is_told
returns-then-is_told c =
    walked-told c.args.deck.now c.requires.read c.args.count (lines_in c.args.text.now) (lines_in c.entries.rest.now)
    c.entries.done (before (lines_in c.args.text.now) (lines_in c.entries.rest.now)) (view_of c.entries.tracks)
    c.requires.few c.entries.invariant.at c.entries-test.false
    (ap (λ l. bytes_eq l told_word) (sym (first-front c.entries.rest.now)) ∙ sym c.is_told.ensures ∙ c.if-is_told.true)

pub lines_before-requires-else-is_told-clause-less : goal.lines_before-requires-else-is_told-clause-less
lines_before-requires-else-is_told-clause-less c = let few = c.entries.invariant.at.few in omega (arith, few)

pub returns-else-is_told : goal.returns-else-is_told
returns-else-is_told c =
    rw c.lines_before-else-is_told.ensures
    (walked-untold c.args.deck.now c.requires.read c.args.count (lines_in c.args.text.now) (lines_in c.entries.rest.now)
    c.entries.done (before (lines_in c.args.text.now) (lines_in c.entries.rest.now)) (view_of c.entries.tracks)
    c.requires.few c.entries.invariant.at c.entries-test.false
    (ap (λ l. bytes_eq l told_word) (sym (first-front c.entries.rest.now)) ∙ sym c.is_told.ensures ∙ c.if-is_told.false))
