use Rattle.std.proofs.Common.{◌∙◌, true, arith}
use Rattle.std.proofs.lemmas.Option.{slice_get_within}
use Rattle.std.proofs.lemmas.List.{length-set}
use Rattle.grs_analyze.proofs.FlagLemmas.{flag-put}
use Rattle.grs_analyze.proofs.flags.put_up.Goals as goal

pub bounds-flags-number : goal.bounds-flags-number
bounds-flags-number c =
    omega (arith, slice_get_within c.args.tasks.now c.args.number c.args.task c.requires.named, c.requires.long)

pub returns-clause-long : goal.returns-clause-long
returns-clause-long c = length-set c.args.flags.now c.args.number true ∙ c.requires.long

pub returns-clause-up : goal.returns-clause-up
returns-clause-up c =
    λ t. flag-put c.args.tasks.now c.args.flags.now c.args.number c.args.task t c.requires.long c.requires.named
