use Rattle.std.proofs.Common.{false, arith}
use Rattle.std.proofs.lemmas.Option.{slice_get_within}
use Rattle.grs_analyze.proofs.FlagLemmas.{flag-read}
use Rattle.grs_analyze.proofs.flags.is_up.Goals as goal

pub bounds-flags-number : goal.bounds-flags-number
bounds-flags-number c =
    omega (arith, slice_get_within c.args.tasks.now c.args.number c.args.task c.requires.named, c.requires.long)

pub returns : goal.returns
returns c =
    flag-read c.args.tasks.now c.args.flags.now c.args.number c.args.task false c.requires.distinct c.requires.long
    c.requires.named
