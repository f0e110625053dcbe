use Rattle.std.proofs.Common.{◌≡◌, take}
use Rattle.deck_scan.proofs.cursor.owned_tokens.Given as goal

abbrev pub invariant-loop-token : goal.invariant-loop-token
invariant-loop-token l = l.owned ≡ take l.token-index l.tokens
