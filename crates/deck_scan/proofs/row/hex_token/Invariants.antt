use Rattle.std.proofs.Common.{◌≡◌, ◌++◌, cond, length}
use Rattle.deck_scan.specs.declared.token.Token.TheVariants.{Name, Stray}
use Rattle.deck_scan.specs.Pieces.{is_hexed, unhex, hex_token}
use Rattle.deck_scan.proofs.row.hex_token.Given as goal

abbrev pub invariant-loop-high : goal.invariant-loop-high
invariant-loop-high l = hex_token l.digits ≡ cond (is_hexed l.rest) (Name (l.made ++ unhex l.rest)) Stray

abbrev pub decreases-loop-high : goal.decreases-loop-high
decreases-loop-high l = length l.rest
