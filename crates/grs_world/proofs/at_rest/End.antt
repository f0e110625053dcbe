-- Where a run is at rest, in either mode, nothing is lost.
use Rattle.grs_world.proofs.Common.{◌≡◌, at_rest, Deck, Event, false, FitsStar, has, IsHistory, items, List}
use Rattle.grs_world.proofs.Common.{may_be_star, NodeState, NoneInStar, run, slice_get, Some, true, ℕ}
use Rattle.grs_wire.specs.Decks.{IsBounded}
use Rattle.grs_world.proofs.move.Sound.{GoodRun, in_ring, in_star}
use Rattle.grs_world.proofs.at_rest.AtEnd.{IsStill, displays-told, owners-told, replies-told, tasks-wait}
use Rattle.grs_world.proofs.at_rest.Full.{full_run}
use Rattle.grs_world.proofs.at_rest.RingEnd.{still-ring}
use Rattle.grs_world.proofs.at_rest.RingRun.{ring_read}
use Rattle.grs_world.proofs.at_rest.StarEnd.{still-star}
use Rattle.grs_world.proofs.at_rest.StarRun.{restful_run}
use Rattle.grs_world.proofs.at_rest.Units.{units-reserved}
use Rattle.grs_world.proofs.run.Runs.{GoodTold}
use Rattle.grs_world.specs.AtRest.{NothingIsLost}
use Rattle.grs_world.specs.Passed.{PassedIsTold}
use Rattle.grs_world.proofs.at_rest.Homes.{homes_run}

module _ (deck : Deck) (bounds : IsBounded deck) (es : List Event) where
  fits : may_be_star deck ≡ true → FitsStar deck
  fits h = record { few = bounds.fits.few; entries = bounds.entries }

  -- each live system, in either mode
  pub still-good : NoneInStar deck es → at_rest deck (run deck es) ≡ true → GoodRun deck es (run deck es) → (s : ℕ)
      (n : NodeState) → slice_get (run deck es).nodes s ≡ Some n
      → has (run deck es).medium.removed s ≡ false → IsStill deck s (items (run deck es).fixed) n
  still-good none rest (in_ring begins ring g d) =
      still-ring deck es (run deck es) ring g (ring_read deck fits es none ring.mode) rest
  still-good none rest (in_star f g told d) =
      still-star deck (run deck es) g (restful_run deck bounds es none g.whole.roles.mode) rest

  -- so nothing is lost, where what is passed is told
  pub rests-by : IsHistory deck (items (run deck es).fixed) → GoodTold deck es (run deck es) → PassedIsTold deck es →
      ((s : ℕ) (n : NodeState) → slice_get (run deck es).nodes s ≡ Some n
      → has (run deck es).medium.removed s ≡ false → IsStill deck s (items (run deck es).fixed) n)
      → NothingIsLost deck es
  rests-by right told passed still = record {
    passed = passed;
    owners = owners-told deck es right told bounds.orders still;
    replies = replies-told deck es right told bounds.orders still;
    displays = displays-told deck es right told bounds.orders still;
    tasks = tasks-wait deck es right told bounds.orders still;
    units = units-reserved deck es right (full_run deck es) (homes_run deck es) still;
  }
