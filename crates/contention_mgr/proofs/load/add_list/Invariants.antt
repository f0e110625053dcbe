use Rattle.std.proofs.Common.{◌≡◌, ◌++◌, length, true}
use Rattle.grs_base.specs.Lists.{is_apart}
use Rattle.grs_base.specs.State.{list_of}
use Rattle.contention_mgr.specs.Loads.{ranked_list}
use Rattle.contention_mgr.specs.Marks.{mark_in, ranked_all, AreMarked}
use Rattle.contention_mgr.proofs.load.add_list.Given as goal

abbrev pub invariant-elems : goal.invariant-elems
invariant-elems l = record {
  marked : AreMarked (mark_in l.marks.names.entries l.marks.marks.entries) l.table.elements;
  apart : is_apart (list_of l.table.elements l.res ++ l.rest) ≡ true;
  items : ranked_all (mark_in l.marks.names.entries l.marks.marks.entries) l.table.elements
      ++ ranked_list l.res l.rest l.numbers
      ≡ ranked_all (mark_in l.fn.marks.names.entries l.fn.marks.marks.entries) l.fn.table.elements
      ++ ranked_list l.res l.elems l.ranks;
}

abbrev pub decreases-elems : goal.decreases-elems
decreases-elems l = length l.rest
