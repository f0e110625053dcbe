use Rattle.std.proofs.Common.{◌≡◌, length}
use Rattle.deck_scan.specs.Rows.{coming}
use Rattle.deck_scan.proofs.cursor.Lines.next.Given as goal

abbrev pub invariant-loop-at : goal.invariant-loop-at
invariant-loop-at
    l = record { comes : coming l.at ≡ coming l.initial.self-inside.at; same : l.self-inside ≡ l.initial.self-inside }

abbrev pub decreases-loop-at : goal.decreases-loop-at
decreases-loop-at l = length l.at.rest.now
