-- A live system that acts by its part in star mode: what holds of it in every run of a complex that begins in star
-- mode.
use Rattle.grs_world.proofs.Common.{◌≡◌, ◌≤◌, Deck, length, most_systems, NodeState, Some, StarPart, SysId, World}
use Rattle.grs_world.proofs.at_rest.Sized.{IsSized}
use Rattle.grs_world.proofs.gather.Notices.{AreFit}
use Rattle.grs_world.proofs.gather.way.Parts.{IsPartOf}
use Rattle.grs_world.proofs.run.Site.{Site}

pub record Acting (deck : Deck) (w : World) (c : SysId) (n : NodeState) (p : StarPart) : Type 0 where
  pub star : n.star ≡ Some p
  pub site : Site w c.0 n
  pub few : length deck.systems ≤ most_systems
  pub count : length w.nodes ≡ length deck.systems
  pub sized : IsSized deck.entries p
  pub part : IsPartOf deck.entries c.0 p
  pub fit : AreFit deck w.medium
