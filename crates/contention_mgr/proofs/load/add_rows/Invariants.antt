use Rattle.std.proofs.Common.{◌≡◌, ◌++◌, length, true}
use Rattle.contention_mgr.specs.Loads.{ranked_rows, rows_free}
use Rattle.lock_structure.specs.RankedRows.{all_apart}
use Rattle.contention_mgr.specs.Marks.{mark_in, ranked_all, AreMarked}
use Rattle.contention_mgr.proofs.load.add_rows.Given as goal

abbrev pub invariant-rows : goal.invariant-rows
invariant-rows l = record {
  marked : AreMarked (mark_in l.marks.names.entries l.marks.marks.entries) l.table.elements;
  free : rows_free l.table.elements l.rest ≡ true;
  apart : all_apart l.rest ≡ true;
  items : ranked_all (mark_in l.marks.names.entries l.marks.marks.entries) l.table.elements ++ ranked_rows l.rest
      ≡ ranked_all (mark_in l.fn.marks.names.entries l.fn.marks.marks.entries) l.fn.table.elements
      ++ ranked_rows l.rows;
}

abbrev pub decreases-rows : goal.decreases-rows
decreases-rows l = length l.rest
