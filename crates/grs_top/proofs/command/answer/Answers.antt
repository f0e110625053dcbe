use Rattle.std.proofs.Common.{refl}
use Rattle.grs_top.specs.Answers.{streams}
use Rattle.grs_top.proofs.Answering.{answers, names}
use Rattle.grs_top.proofs.command.answer.Goals as goal

pub returns-in-Ok-clause-answer : goal.returns-in-Ok-clause-answer
returns-in-Ok-clause-answer g c =
    answers c.args.command
    (streams (g.S.Source.left c.args.source.now) (g.K.Sink.written c.args.sink.now)
    (g.S.Source.faults c.args.source.now) (g.K.Sink.faults c.args.sink.now))
    (streams (g.S.Source.left c.read_due.new.source) (g.K.Sink.written c.write_due.new.sink)
    (g.S.Source.faults c.read_due.new.source) (g.K.Sink.faults c.write_due.new.sink))
    c.in-Ok.due.out c.in-Ok.due.status c.write_due.result c.in-Ok.ensures.due c.in-Ok.ensures.kept c.write_due.ensures

pub returns-in-Ok-clause-named : goal.returns-in-Ok-clause-named
returns-in-Ok-clause-named g c =
    names c.args.command
    (streams (g.S.Source.left c.args.source.now) (g.K.Sink.written c.args.sink.now)
    (g.S.Source.faults c.args.source.now) (g.K.Sink.faults c.args.sink.now))
    (streams (g.S.Source.left c.read_due.new.source) (g.K.Sink.written c.write_due.new.sink)
    (g.S.Source.faults c.read_due.new.source) (g.K.Sink.faults c.write_due.new.sink))
    c.write_due.result (returns-in-Ok-clause-answer g c)

pub returns-in-Err-Failed-clause-answer : goal.returns-in-Err-Failed-clause-answer
returns-in-Err-Failed-clause-answer g
    c = record { failed_reads = c.in-Err-Failed.ensures.failed (cc); written = refl; failed_writes = refl }

pub returns-in-Err-Failed-clause-named : goal.returns-in-Err-Failed-clause-named
returns-in-Err-Failed-clause-named g c = tt

pub returns-in-Err-NoMemory-clause-answer : goal.returns-in-Err-NoMemory-clause-answer
returns-in-Err-NoMemory-clause-answer g
    c = record { written = refl; failed_reads = c.in-Err-NoMemory.ensures.memory (cc); failed_writes = refl }

pub returns-in-Err-NoMemory-clause-named : goal.returns-in-Err-NoMemory-clause-named
returns-in-Err-NoMemory-clause-named g c = tt

pub read_due-requires-clause-callable : goal.read_due-requires-clause-callable
read_due-requires-clause-callable g c = c.requires.callable

pub read_due-requires-clause-due : goal.read_due-requires-clause-due
read_due-requires-clause-due g c = c.requires.due
