use Rattle.std.proofs.Common.{refl}
use Rattle.deck_scan.proofs.Rows.{none_comes, one_comes}
use Rattle.deck_scan.proofs.cursor.last_line.Goals as goal

pub returns-in-None : goal.returns-in-None
returns-in-None c = λ line. rw c.in-None.is (none_comes line, refl)

pub returns-in_ok-push-in-Some : goal.returns-in_ok-push-in-Some
returns-in_ok-push-in-Some c = λ line.
    rw (c.in-Some.is, c.in_ok-push-in-Some.ensures.ok, c.in_ok-tokens-in-Some.ensures) (one_comes line c.in-Some.begun)
