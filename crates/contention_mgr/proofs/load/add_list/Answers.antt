use Rattle.contention_mgr.specs.Marks.{mark_in}
use Rattle.contention_mgr.proofs.LoadLemmas.{apart-now, apart-behind, list-more}
use Rattle.contention_mgr.proofs.load.add_list.Goals as goal

pub add_elem-requires-clause-absent : goal.add_elem-requires-clause-absent
add_elem-requires-clause-absent c =
    apart-now c.elems.table.elements c.args.res.now c.in-Some.elem.now c.elems.rest.now c.in-Some.tail.now
    c.in-Some.ensures.cases.0 c.elems.invariant.apart

pub elems-preserved : goal.elems-preserved
elems-preserved c = record {
  marked = c.in_ok-add_elem.ensures.marked;
  apart =
      apart-behind c.elems.table.elements c.add_elem.new.table.elements c.args.res.now c.in-Some.elem.now
      c.elems.rest.now c.in-Some.tail.now c.in-Some.ensures.cases.0 c.in_ok-add_elem.ensures.elements
      c.elems.invariant.apart;
  items =
      list-more (mark_in c.elems.marks.names.entries c.elems.marks.marks.entries)
      (mark_in c.add_elem.new.marks.names.entries c.add_elem.new.marks.marks.entries) c.elems.table.elements
      c.add_elem.new.table.elements c.args.res.now c.in-Some.elem.now c.in-Some-split_first.rank.now c.elems.rest.now
      c.in-Some.tail.now c.elems.numbers.now c.in-Some-split_first.more.now _ c.in-Some.ensures.cases.0
      c.in-Some-split_first.ensures.cases.0 c.in_ok-add_elem.ensures.items c.elems.invariant.items;
}
