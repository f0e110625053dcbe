use Rattle.std.proofs.Common.{◌≡◌, ◌+◌, ◌-◌, ℕ, length, map}
use Rattle.grs_report.specs.Shelves.{lines_under}
use Rattle.grs_report.proofs.shelves.Shelves.reach.Given as goal

abbrev pub invariant-grow : goal.invariant-grow
invariant-grow l =
    (n : ℕ) → lines_under n (map (λ list. map (λ t. t.now) list.items) l.self-inside.lists.items)
    ≡ lines_under n (map (λ list. map (λ t. t.now) list.items) l.initial.self-inside.lists.items)

abbrev pub decreases-grow : goal.decreases-grow
decreases-grow l = l.number + 1 - length l.self-inside.lists.items
