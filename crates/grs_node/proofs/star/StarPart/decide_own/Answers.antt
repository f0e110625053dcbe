use Rattle.grs_node.proofs.Decided.{decided-fixed}
use Rattle.grs_node.proofs.star.StarPart.decide_own.Goals as goal

pub returns-clause-step : goal.returns-clause-step
returns-clause-step c =
    decided-fixed c.asked_alone.result c.args.tasks.now c.args.self.now c.args.task c.in-Some.asked.now c.in_ok-req.req
    c.decide_req.new.tasks c.decide_req.new.self c.in-Some.ensures c.in_ok-req.ensures c.in_ok-decide_req.ensures.tasks
    c.in_ok-decide_req.ensures.part c.asked_alone.ensures
