use Rattle.contention_mgr.specs.Marks.{mark_in}
use Rattle.contention_mgr.proofs.LoseLemmas.{lose-is}
use Rattle.contention_mgr.proofs.entry.Entry.lose.Goals as goal

pub returns : goal.returns
returns c = (lose-is c.args.system.0 c.args.target.0 c.self.inside.next
    (mark_in c.self.inside.marks.names.entries c.self.inside.marks.marks.entries)
    (mark_in c.take_system.new.self.names.entries c.take_system.new.self.marks.entries)
    (mark_in c.give_freed.new.marks.names.entries c.give_freed.new.marks.marks.entries) c.self.inside.table.elements
    c.remove_system.new.self.elements c.args.freed.now c.args.self.now c.self.view_is c.self.invariant
    c.remove_system.ensures c.take_system.ensures c.requires c.give_freed.ensures).0

pub invariant_of-self : goal.invariant_of-self
invariant_of-self c = (lose-is c.args.system.0 c.args.target.0 c.self.inside.next
    (mark_in c.self.inside.marks.names.entries c.self.inside.marks.marks.entries)
    (mark_in c.take_system.new.self.names.entries c.take_system.new.self.marks.entries)
    (mark_in c.give_freed.new.marks.names.entries c.give_freed.new.marks.marks.entries) c.self.inside.table.elements
    c.remove_system.new.self.elements c.args.freed.now c.args.self.now c.self.view_is c.self.invariant
    c.remove_system.ensures c.take_system.ensures c.requires c.give_freed.ensures).1
