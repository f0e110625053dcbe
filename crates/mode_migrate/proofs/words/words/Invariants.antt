use Rattle.std.proofs.Common.{◌≡◌, map, take}
use Rattle.mode_migrate.specs.Groups.{word_of}
use Rattle.mode_migrate.proofs.words.words.Given as goal

abbrev pub invariant-loop-rows : goal.invariant-loop-rows
invariant-loop-rows l = l.words ≡ map word_of (take l.rows-index l.groups)
