use Rattle.std.proofs.Common.{◌≡◌, ◌++◌, drop}
use Rattle.grs_display.specs.Lines.{spaced}
use Rattle.latch_text.specs.Text.{elem_words}
use Rattle.latch_text.proofs.rows.put_elems.Given as goal

abbrev pub invariant-loop-elem : goal.invariant-loop-elem
invariant-loop-elem l =
    l.out ++ spaced (elem_words l.left (drop l.elem-index l.elems))
    ≡ l.initial.out ++ spaced (elem_words l.initial.left l.elems)
