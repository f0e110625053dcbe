use Rattle.std.proofs.Common.{sym, ◌∙◌}
use Rattle.contention_mgr.specs.Marks.{mark_at}
use Rattle.contention_mgr.proofs.MarkLemmas.{numbered-named, fresh-named, number-named, marks-named}
use Rattle.contention_mgr.proofs.marks.Marks.number.Goals as goal

pub invariant_of-self-in-None : goal.invariant_of-self-in-None
invariant_of-self-in-None c = record {
  numbered =
      numbered-named c.args.self.now.names.entries c.reserve_name.new.names.entries c.add_name.new.names.entries
      c.args.res.now c.in_ok-name-in-None.name c.len-number.result c.reserve_name.ensures.same c.add_name.ensures
      c.in_ok-name-in-None.ensures c.len-number.ensures.len c.args.self.now.numbered;
  fresh =
      fresh-named c.args.self.now.names.entries c.reserve_name.new.names.entries c.add_name.new.names.entries
      c.args.res.now c.in_ok-name-in-None.name c.len-number.result c.reserve_name.ensures.same c.add_name.ensures
      c.in_ok-name-in-None.ensures c.len-number.ensures.len (mark_at c.args.self.now.marks.entries)
      c.args.self.now.fresh;
  all_told = c.args.self.now.all_told;
}

pub returns-in_ok-reserve_name-in-None-clause-number : goal.returns-in_ok-reserve_name-in-None-clause-number
returns-in_ok-reserve_name-in-None-clause-number c =
    number-named c.args.self.now.names.entries c.reserve_name.new.names.entries c.add_name.new.names.entries
    c.args.res.now c.in_ok-name-in-None.name c.len-number.result c.reserve_name.ensures.same c.add_name.ensures
    c.in_ok-name-in-None.ensures c.len-number.ensures.len (sym c.find_number.ensures ∙ c.in-None.is)

pub returns-in_ok-reserve_name-in-None-clause-same : goal.returns-in_ok-reserve_name-in-None-clause-same
returns-in_ok-reserve_name-in-None-clause-same c =
    marks-named c.args.self.now.names.entries c.reserve_name.new.names.entries c.add_name.new.names.entries
    c.args.res.now c.in_ok-name-in-None.name c.len-number.result c.reserve_name.ensures.same c.add_name.ensures
    c.in_ok-name-in-None.ensures c.len-number.ensures.len (mark_at c.args.self.now.marks.entries)
    (sym c.find_number.ensures ∙ c.in-None.is) c.args.self.now.fresh
