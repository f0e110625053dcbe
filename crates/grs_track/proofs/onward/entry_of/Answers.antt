use Rattle.std.proofs.Common.{◌≡◌, Some, sym, subst}
use Rattle.std.specs.Prelude.{slice_get, IfOk}
use Rattle.std.specs.Option.{option_map}
use Rattle.grs_legal.specs.Asks.{asks_in}
use Rattle.grs_track.specs.Track.{entry_for}
use Rattle.grs_track.proofs.onward.entry_of.Goals as goal

pub returns-in-Shows : goal.returns-in-Shows
returns-in-Shows c =
    subst (λ m. IfOk c.look_of.result (λ h. option_map (entry_for c.args.limit c.args.table.now.elements c.args.task)
    (slice_get (asks_in m) c.args.part) ≡ Some h)) (sym c.in-Shows.is) (c.look_of.ensures c.args.limit)
