use Rattle.std.proofs.Common.{◌≡◌, ◌++◌, drop, map}
use Rattle.grs_history.proofs.order.add_told.Given as goal

abbrev pub invariant-loop-line : goal.invariant-loop-line
invariant-loop-line l =
    l.all ++ map (λ x. record { event = l.event; system = l.system; line = x }) (drop l.line-index l.lines)
    ≡ l.fn.all ++ map (λ x. record { event = l.event; system = l.system; line = x }) l.lines
