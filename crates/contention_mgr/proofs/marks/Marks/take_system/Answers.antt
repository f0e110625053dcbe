use Rattle.std.proofs.Common.{refl, length}
use Rattle.contention_mgr.specs.Marks.{mark_at}
use Rattle.contention_mgr.proofs.LoseLemmas.{removed-marks, removed-fresh, removed-told}
use Rattle.contention_mgr.proofs.marks.Marks.take_system.Goals as goal

pub returns : goal.returns
returns c =
    removed-marks c.args.self.now.names.entries c.args.target.0 c.args.self.now.marks.entries
    c.remove_marks.new.marks.entries c.args.self.now.numbered c.remove_marks.ensures

pub invariant_of-self-clause-all_told : goal.invariant_of-self-clause-all_told
invariant_of-self-clause-all_told c =
    removed-told c.args.self.now.names.entries c.args.target.0 c.args.self.now.marks.entries
    c.remove_marks.new.marks.entries c.args.self.now.told c.told_after-self.result c.remove_marks.ensures
    c.told_after-self.ensures.all c.args.self.now.all_told

pub invariant_of-self-clause-fresh : goal.invariant_of-self-clause-fresh
invariant_of-self-clause-fresh c =
    removed-fresh c.args.self.now.names.entries c.args.target.0 c.args.self.now.marks.entries
    c.remove_marks.new.marks.entries (length c.args.self.now.names.entries) c.remove_marks.ensures
    c.args.self.now.fresh
