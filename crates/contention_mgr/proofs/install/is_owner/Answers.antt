use Rattle.std.proofs.Common.{◌∙◌, ap}
use Rattle.grs_base.specs.State.{list_of}
use Rattle.grs_base.specs.declared.decision.Code.{Code}
use Rattle.grs_wire.specs.declared.request.Answer.TheVariants.{Coded}
use Rattle.contention_mgr.specs.Marks.{is_gone}
use Rattle.contention_mgr.proofs.InstallLemmas.{gone-deq}
use Rattle.contention_mgr.proofs.install.is_owner.Goals as goal

pub returns : goal.returns
returns c =
    c.is_zero.ensures
    ∙ ap (λ (k : Code). is_gone (Coded k)) c.decide_deq.ensures
    ∙ gone-deq (list_of c.args.table.now.elements c.args.res.now) c.args.task
