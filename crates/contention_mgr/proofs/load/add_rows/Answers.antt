use Rattle.std.proofs.Common.{◌∙◌, ◌++◌, ℕ, List, ap}
use Rattle.grs_base.specs.declared.resource.Elem.{Elem}
use Rattle.contention_mgr.specs.Loads.{ranked_list}
use Rattle.contention_mgr.specs.Marks.{mark_in, ranked_all}
use Rattle.contention_mgr.proofs.LoadLemmas.{rows-free_more, all_apart-more, rows-more}
use Rattle.contention_mgr.proofs.load.add_rows.Goals as goal

pub rows-preserved : goal.rows-preserved
rows-preserved c =
    let old = mark_in c.rows.marks.names.entries c.rows.marks.marks.entries in
    let new = mark_in c.add_list.new.marks.names.entries c.add_list.new.marks.marks.entries in
    let items = c.in_ok-add_list.ensures.items
    ∙ ap (λ (l : List Elem).
    ranked_all old c.rows.table.elements ++ ranked_list c.in-Some.row.now.0.res l c.as_slice-in-Some.result.now)
    c.as_slice.ensures
    ∙ ap (λ (l : List ℕ).
    ranked_all old c.rows.table.elements ++ ranked_list c.in-Some.row.now.0.res c.in-Some.row.now.0.elems l)
    c.as_slice-in-Some.ensures in
    record {
      marked = c.in_ok-add_list.ensures.marked;
      free =
          rows-free_more old new c.rows.table.elements c.add_list.new.table.elements c.in-Some.row.now c.rows.rest.now
          c.in-Some.tail.now c.in-Some.ensures.cases.0 items c.rows.invariant.free;
      apart =
          all_apart-more c.in-Some.row.now c.rows.rest.now c.in-Some.tail.now c.in-Some.ensures.cases.0
          c.rows.invariant.apart;
      items =
          rows-more old new c.rows.table.elements c.add_list.new.table.elements c.in-Some.row.now c.rows.rest.now
          c.in-Some.tail.now _ c.in-Some.ensures.cases.0 items c.rows.invariant.items;
    }
