use Rattle.contention_mgr.specs.Installs.{elem_of}
use Rattle.contention_mgr.proofs.LoadLemmas.{elements-added}
use Rattle.contention_mgr.proofs.install.add_elem.Goals as goal

pub returns : goal.returns
returns c =
    elements-added c.args.table.now.elements c.reserve.new.self.elements c.enq_copied.new.self.elements
    c.args.rec.now.res
    (elem_of c.args.rec.now) c.reserve.ensures.elements c.in_ok-enq_copied.ensures.elements c.requires
