use Rattle.std.proofs.Common.{refl}
use Rattle.grs_top.proofs.GenAnswering.{answers_gen}
use Rattle.grs_top.proofs.generate.gen_command.Goals as goal

pub returns-in-Ok : goal.returns-in-Ok
returns-in-Ok g c =
    answers_gen c.args.n (g.K.Sink.written c.args.sink.now) (g.K.Sink.written c.write_due.new.sink)
    (g.K.Sink.faults c.args.sink.now) (g.K.Sink.faults c.write_due.new.sink)
    c.in-Ok.due.out c.in-Ok.due.status c.write_due.result c.in-Ok.ensures.out c.in-Ok.ensures.status c.write_due.ensures

pub returns-in-Err : goal.returns-in-Err
returns-in-Err g c = record { written = refl; failed = refl }
