use Rattle.std.proofs.Common.{arith}
use Rattle.call_tests.proofs.medium.is_right.Goals as goal

pub shown_and_made-requires : goal.shown_and_made-requires
shown_and_made-requires c = (
  grind (arith, c.requires, c.if-caller-gt1.false),
  c.in_ok-act.ensures c.args.medium.now.state _ c.requires
      (grind (arith, c.words.ensures, c.len.ensures, c.if-len-ne1.false)),
)
