use Rattle.std.proofs.Common.{◌≡◌, ◌++◌, drop}
use Rattle.grs_display.specs.Lines.{spaced}
use Rattle.grs_display.specs.Rows.{elem_words}
use Rattle.grs_display.proofs.rows.put_elems.Given as goal

abbrev pub invariant-loop-elem : goal.invariant-loop-elem
invariant-loop-elem l =
    l.out ++ spaced (elem_words l.names l.left (drop l.elem-index l.elems))
    ≡ l.initial.out ++ spaced (elem_words l.names l.initial.left l.elems)
