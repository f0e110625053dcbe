use Rattle.std.proofs.Common.{◌∙◌, ap}
use Rattle.grs_base.specs.State.{release_state}
use Rattle.contention_mgr.specs.Manager.{with_control}
use Rattle.contention_mgr.specs.Marks.{mark_in}
use Rattle.contention_mgr.proofs.ItemLemmas.{marked-without, ranked-without}
use Rattle.contention_mgr.proofs.entry.give_up.Goals as goal

pub returns : goal.returns
returns c = λ s are.
    let old = mark_in c.args.marks.now.names.entries c.args.marks.now.marks.entries in
    let took = mark_in c.take.new.self.names.entries c.take.new.self.marks.entries in
    let all =
    c.give_all_control.ensures (release_state s c.args.res.now c.args.task)
    (marked-without old took c.args.res.now c.args.task c.take.ensures s are) in (
      all.0
          ∙ ap (with_control c.args.system.0 c.args.res.now c.args.owners.now)
          (ranked-without old took c.args.res.now c.args.task c.take.ensures s),
      all.1,
    )
