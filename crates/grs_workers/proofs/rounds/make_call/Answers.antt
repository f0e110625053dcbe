use Rattle.std.proofs.Common.{Some, sym, inl, refl}
use Rattle.task_state.proofs.Fronts.{on-err}
use Rattle.grs_workers.specs.Stands.{stand}
use Rattle.grs_workers.proofs.DeedLaws.{may_finish, agrees-done, given_up-answered}
use Rattle.grs_workers.proofs.Fits.{act-fits, home-addressed}
use Rattle.grs_workers.proofs.rounds.make_call.Goals as goal

pub call-requires-clause-call : goal.call-requires-clause-call
call-requires-clause-call g c = (
  c.requires.on.caller,
  act-fits c.args.bus.now.first c.args.worker.now.seat.system c.args.worker.now.node.deck c.args.call.act
      (home-addressed c.args.worker.now.seat.system.0 c.args.worker.now.node.node.tasks.system
      c.args.worker.now.node.deck c.args.call.act c.requires.agrees.system c.requires.may_do.addressed)
      c.requires.on.systems c.requires.on.entries,
)

pub finish-requires : goal.finish-requires
finish-requires g c =
    may_finish c.args.worker.now.node c.args.worker.now.seat c.call.new.seat c.args.choice c.args.call
    (c.in_ok-reply.reply, c.in_ok-reply.entered) (sym c.requires.may_do.prepared) c.in_ok-reply.ensures.ok

pub after-requires-clause-agrees : goal.after-requires-clause-agrees
after-requires-clause-agrees g c =
    agrees-done (stand c.args.worker.now) _
    (record { choice = c.args.choice; told = Some (c.in_ok-reply.reply, c.in_ok-reply.entered) })
    (record {
      in_time = c.requires.may_do.in_time;
      call = c.args.call;
      prepared = sym c.requires.may_do.prepared;
      same = c.call.ensures.same;
      takes = c.call.ensures.takes;
      answered = c.in_ok-reply.ensures.ok;
      node = c.in_ok-finish.ensures.step;
      calls = c.saturating_add-worker.ensures;
    })
    c.call.ensures.same.1 c.finish.ensures.system c.requires.agrees

pub returns-clause-done : goal.returns-clause-done
returns-clause-done g c = (
  record { choice = c.args.choice; told = Some (c.in_ok-reply.reply, c.in_ok-reply.entered) },
  record {
    in_time = c.requires.may_do.in_time;
    call = c.args.call;
    prepared = sym c.requires.may_do.prepared;
    same = c.call.ensures.same;
    takes = c.call.ensures.takes;
    answered = c.in_ok-reply.ensures.ok;
    node = c.in_ok-finish.ensures.step;
    calls = c.saturating_add-worker.ensures;
  },
  sym c.is_last_reply-out.ensures,
)

pub returns-clause-agrees : goal.returns-clause-agrees
returns-clause-agrees g c =
    agrees-done (stand c.args.worker.now) _
    (record { choice = c.args.choice; told = Some (c.in_ok-reply.reply, c.in_ok-reply.entered) })
    (record {
      in_time = c.requires.may_do.in_time;
      call = c.args.call;
      prepared = sym c.requires.may_do.prepared;
      same = c.call.ensures.same;
      takes = c.call.ensures.takes;
      answered = c.in_ok-reply.ensures.ok;
      node = c.in_ok-finish.ensures.step;
      calls = c.saturating_add-worker.ensures;
    })
    c.call.ensures.same.1 c.finish.ensures.system c.requires.agrees

pub returns-in_err-reply-clause-sure : goal.returns-in_err-reply-clause-sure
returns-in_err-reply-clause-sure g c = on-err c.from_residual.result (inl c.in_err-reply.ensures.err)

pub returns-in_err-finish-clause-sure : goal.returns-in_err-finish-clause-sure
returns-in_err-finish-clause-sure g c =
    on-err c.from_residual-in_err-finish.result
    (given_up-answered (stand c.args.worker.now) _ c.args.call (c.in_ok-reply.reply, c.in_ok-reply.entered)
    c.finish.result _ c.in_err-finish.was c.in_ok-reply.ensures.ok c.finish.ensures.unentered
    (λ little. c.finish.ensures.sure little (c.requires.may_do.room refl)))
