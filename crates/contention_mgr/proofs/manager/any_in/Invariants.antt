use Rattle.std.proofs.Common.{◌≡◌, length}
use Rattle.contention_mgr.specs.Manager.{any_untold_at}
use Rattle.contention_mgr.proofs.manager.any_in.Given as goal

abbrev pub invariant-slots : goal.invariant-slots
invariant-slots l = any_untold_at l.home.0 l.rest ≡ any_untold_at l.home.0 l.slots

abbrev pub decreases-slots : goal.decreases-slots
decreases-slots l = length l.rest
