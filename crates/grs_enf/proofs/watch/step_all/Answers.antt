use Rattle.grs_enf.specs.Notices.{told_step}
use Rattle.grs_enf.proofs.RemovalLemmas.{removal-told}
use Rattle.grs_enf.proofs.watch.step_all.Goals as goal

pub returns-clause-notices : goal.returns-clause-notices
returns-clause-notices c =
    removal-told c.args.table.now.elements c.carry_out.new.table.elements
    (told_step c.args.table.now.elements c.args.entry.now) c.in_ok-rows.rows c.as_slice.result.now c.put_systems.new.out
    c.new-notices.result c.in_ok-rows.ensures c.as_slice.ensures c.in_ok-carry_out.ensures c.new-notices.ensures
    c.in_ok-put_systems.ensures
