use Rattle.std.proofs.Common.{◌≡◌, None, refl, sym, subst, ◌∙◌}
use Rattle.std.proofs.lemmas.Result.{on_err_weaker}
use Rattle.grs_node.specs.declared.prepared.Prepared.{Prepared}
use Rattle.grs_node.specs.declared.prepared.Prepared.TheVariants.{Call}
use Rattle.grs_wire.specs.declared.medium.Call.{Call as MediumCall}
use Rattle.grs_workers.specs.Stands.{stand, MayDo, IsGivenUp}
use Rattle.grs_workers.proofs.DeedLaws.{agrees-done}
use Rattle.grs_workers.proofs.rounds.act.Goals as goal

pub returns-in_ok-finish-in-Quiet-clause-done : goal.returns-in_ok-finish-in-Quiet-clause-done
returns-in_ok-finish-in-Quiet-clause-done g c = (
  record { choice = c.args.choice; told = None },
  record {
    prepared = sym c.requires.may_do.prepared ∙ c.in-Quiet.is;
    node = c.in_ok-finish-in-Quiet.ensures.step;
    seat = refl;
    calls = refl;
  },
  refl,
)

pub returns-in_ok-finish-in-Quiet-clause-agrees : goal.returns-in_ok-finish-in-Quiet-clause-agrees
returns-in_ok-finish-in-Quiet-clause-agrees g c =
    agrees-done (stand c.args.worker.now) _ (record { choice = c.args.choice; told = None })
    (record {
      prepared = sym c.requires.may_do.prepared ∙ c.in-Quiet.is;
      node = c.in_ok-finish-in-Quiet.ensures.step;
      seat = refl;
      calls = refl;
    })
    refl c.finish.ensures.system c.requires.agrees

pub make_call-requires-clause-may_do : goal.make_call-requires-clause-may_do
make_call-requires-clause-may_do g c =
    subst (λ (p : Prepared). MayDo c.args.worker.now.node (c.args.choice, p)) c.in-Call.is c.requires.may_do

same-call : (a b : MediumCall) → Call a ≡ Call b → a ≡ b
same-call a b h = cc

pub returns-in-Call-clause-sure : goal.returns-in-Call-clause-sure
returns-in-Call-clause-sure g c =
    on_err_weaker c.make_call.result
    (λ up call is.
    subst (λ (k : MediumCall). IsGivenUp (stand c.args.worker.now) k c.make_call.new.worker.seat)
    (same-call c.in-Call.call call (sym c.in-Call.is ∙ is)) up)
    c.make_call.ensures.sure
