use Rattle.std.proofs.Common.{◌≡◌, length}
use Rattle.std.specs.Map.{lookup}
use Rattle.grs_base.specs.Same.{same_res}
use Rattle.contention_mgr.specs.Marks.{mark_in}
use Rattle.contention_mgr.specs.Untold.{first_to_tell}
use Rattle.contention_mgr.proofs.untold.first_in.Given as goal

abbrev pub invariant-elems : goal.invariant-elems
invariant-elems l = record {
  number : l.number ≡ lookup (same_res l.res) l.marks.names.entries;
  rest : first_to_tell l.home.0 (mark_in l.marks.names.entries l.marks.marks.entries) l.res l.rest
      ≡ first_to_tell l.home.0 (mark_in l.marks.names.entries l.marks.marks.entries) l.res l.elems;
}

abbrev pub decreases-elems : goal.decreases-elems
decreases-elems l = length l.rest
