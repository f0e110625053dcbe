use Rattle.std.proofs.Common.{rules}
use Rattle.deck_scan.proofs.PlainLines.{nonempty}
use Rattle.deck_scan.proofs.plain.front_word.Goals as goal

pub returns : goal.returns
returns c = record {
  parts = c.split_word.ensures.parts;
  some = nonempty c.split_word.result.0.now (search rules);
  every = c.split_word.ensures.every;
}
