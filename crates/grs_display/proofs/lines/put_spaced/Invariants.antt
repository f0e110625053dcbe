use Rattle.std.proofs.Common.{◌≡◌, ◌++◌, map, drop}
use Rattle.grs_display.specs.Lines.{spaced}
use Rattle.grs_display.proofs.lines.put_spaced.Given as goal

abbrev pub invariant-loop-word : goal.invariant-loop-word
invariant-loop-word l =
    l.out ++ spaced (map (λ w. w.now) (drop l.word-index l.words)) ≡ l.initial.out ++ spaced (map (λ w. w.now) l.words)
