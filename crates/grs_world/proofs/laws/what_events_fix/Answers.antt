use Rattle.grs_world.proofs.run.Fixing.{event_fixes}
use Rattle.grs_world.proofs.laws.what_events_fix.Goals as goal

pub returns : goal.returns
returns c = event_fixes
