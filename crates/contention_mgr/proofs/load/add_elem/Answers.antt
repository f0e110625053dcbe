use Rattle.contention_mgr.specs.Marks.{mark_in}
use Rattle.contention_mgr.proofs.LoadLemmas.{elements-added, added}
use Rattle.contention_mgr.proofs.load.add_elem.Goals as goal

pub returns-clause-elements : goal.returns-clause-elements
returns-clause-elements c =
    elements-added c.args.table.now.elements c.reserve.new.self.elements c.enq_copied.new.self.elements c.args.res.now
    c.args.elem c.reserve.ensures.elements c.in_ok-enq_copied.ensures.elements c.requires.absent

pub returns-clause-items : goal.returns-clause-items
returns-clause-items c = (added (mark_in c.args.marks.now.names.entries c.args.marks.now.marks.entries)
    (mark_in c.add.new.self.names.entries c.add.new.self.marks.entries) c.args.table.now.elements
    c.enq_copied.new.self.elements c.args.res.now c.args.elem c.args.rank c.requires.marked c.requires.absent
    c.in_ok-add.ensures.ok
    (elements-added c.args.table.now.elements c.reserve.new.self.elements c.enq_copied.new.self.elements c.args.res.now
    c.args.elem c.reserve.ensures.elements c.in_ok-enq_copied.ensures.elements c.requires.absent)).0

pub returns-clause-marked : goal.returns-clause-marked
returns-clause-marked c = (added (mark_in c.args.marks.now.names.entries c.args.marks.now.marks.entries)
    (mark_in c.add.new.self.names.entries c.add.new.self.marks.entries) c.args.table.now.elements
    c.enq_copied.new.self.elements c.args.res.now c.args.elem c.args.rank c.requires.marked c.requires.absent
    c.in_ok-add.ensures.ok
    (elements-added c.args.table.now.elements c.reserve.new.self.elements c.enq_copied.new.self.elements c.args.res.now
    c.args.elem c.reserve.ensures.elements c.in_ok-enq_copied.ensures.elements c.requires.absent)).1
