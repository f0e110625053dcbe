use Rattle.std.proofs.Common.{◌≡◌, [], refl, sym}
use Rattle.grs_node.specs.Node.{NodeState, put_in, all_sent}
use Rattle.grs_node.specs.Log.{stepped}
use Rattle.grs_node.proofs.state.NodeState.put_in.Goals as goal

-- where nothing was put in, all stays
none : (n : NodeState) → put_in n 0 ≡ stepped n []
unfolding put_in all_sent
none n = refl

pub returns-then-taken-eq0-clause-step : goal.returns-then-taken-eq0-clause-step
returns-then-taken-eq0-clause-step c = rw (c.new.ensures, c.if-taken-eq0.true) (sym (none c.args.self.now))
