use Rattle.std.proofs.Common.{◌≡◌, ℕ, map, ap, ◌∙◌, arith}
use Rattle.std.specs.List.{range_with_len}
use Rattle.grs_node.specs.Change.{is_among}
use Rattle.grs_node.proofs.change.flags_of.Goals as goal

pub returns : goal.returns
returns c =
    let same : c.loop-entry.entry ≡ c.args.entries =
    omega (arith, c.loop-entry-test.false, c.loop-entry.auto.entry-end) in
    c.loop-entry.invariant ∙ ap (λ (n : ℕ). map (is_among c.args.among.now) (range_with_len 0 n)) same
