use Rattle.std.proofs.Common.{◌≡◌, ℕ, replicate, ap, ◌∙◌, arith}
use Rattle.grs_node.proofs.desk.no_words.Goals as goal

pub returns : goal.returns
returns c =
    let same : c.loop.counter ≡ c.args.entries = omega (arith, c.loop-test.false, c.loop.auto.counter-end) in
    c.loop.invariant ∙ ap (λ (n : ℕ). replicate n 0) same
