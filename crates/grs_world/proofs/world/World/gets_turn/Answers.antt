use Rattle.grs_world.proofs.Common.{◌∙◌, ◌≡◌, ap, call_in, is_live, is_turned, nodes_of, prepare, refl, reply_by}
use Rattle.grs_world.proofs.Common.{reply_of, subst, sym, true, Turn, turn_of, World}
use Rattle.grs_world.specs.Running.{Running}
use Rattle.grs_world.proofs.code.Lapped.{served-at}
use Rattle.grs_world.proofs.world.World.gets_turn.Goals as goal

pub returns-then-is_live : goal.returns-then-is_live
returns-then-is_live c =
    let inside = c.self.inside in
    let w : World = record {
      medium = inside.medium.state;
      nodes = nodes_of inside.nodes.items;
      events = inside.events;
      fixed = inside.fixed;
      told = inside.told;
    } in
    let lives : is_live w c.args.system ≡ true =
    ap (λ (r : Running). is_live r.world c.args.system) c.self.view_is ∙ sym c.if-is_live.ensures in
    c.is_served.ensures
    ∙ subst
    (λ (r : Running).
    is_turned (reply_by w.medium c.args.system
    (call_in (prepare c.index.result.now.deck c.index.result.now.node Turn)))
    ≡ is_turned (reply_of r.deck r.world (turn_of c.args.system)))
    c.self.view_is
    (served-at inside.deck.now inside.nodes.items w c.args.system c.index.result.now refl c.self.invariant.0
    c.index.ensures lives)
