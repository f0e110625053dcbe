use Rattle.std.proofs.Common.{arith}
use Rattle.grs_wire.specs.declared.deck.Choice.TheVariants.{Tell}
use Rattle.grs_gen.specs.Rounds.{by}
use Rattle.grs_gen.proofs.Ranges.{put_behind}
use Rattle.grs_gen.proofs.rounds.put_tells.Goals as goal

pub loop-entry-preserved : goal.loop-entry-preserved
loop-entry-preserved c =
    put_behind (λ e. by c.args.system (Tell e)) c.args.out.now c.loop-entry.out c.put.new.out 0 c.loop-entry.entry
    c.loop-entry.entry (omega arith) c.loop-entry.invariant c.in_ok-put.ensures
