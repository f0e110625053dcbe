use Rattle.std.proofs.Common.{◌≡◌, take}
use Rattle.std.specs.List.{list_all}
use Rattle.deck_scan.specs.Pieces.{is_in_comment}
use Rattle.deck_scan.proofs.bytes.all_common.Given as goal

abbrev pub invariant-loop-b : goal.invariant-loop-b
invariant-loop-b l = l.common ≡ list_all is_in_comment (take l.b-index l.text)
