use Rattle.std.proofs.Common.{Option, Some, cond, ap, sym, ◌∙◌, eqb, ◌&&◌, List}
use Rattle.grs_base.specs.Same.{same_res, same_task}
use Rattle.contention_mgr.specs.Marks.{mark_at}
use Rattle.contention_mgr.specs.declared.marks.Mark.{Mark}
use Rattle.contention_mgr.specs.declared.marks.Spot.{Spot}
use Rattle.contention_mgr.proofs.MarkLemmas.{by_number, fresh-put, told-change, told-put, told-before}
use Rattle.contention_mgr.proofs.marks.Marks.add.Goals as goal

pub invariant_of-self-2 : goal.invariant_of-self-2
invariant_of-self-2 c = record {
  numbered = c.number.new.self.numbered;
  fresh =
      fresh-put c.number.new.self.names.entries c.args.res.now c.in_ok-number.number c.args.task c.args.mark
      (mark_at c.number.new.self.marks.entries) (mark_at c.put_mark.new.marks.entries) c.number.new.self.numbered
      c.in_ok-number.ensures.number
      (λ k u.
      c.put_mark.ensures (record { number = k; task = u })
      ∙ ap (λ (ms : List (Spot × Mark)).
      cond (eqb c.in_ok-number.number k && same_task c.args.task u) (Some c.args.mark) (mark_at ms k u))
      c.reserve_mark.ensures.same)
      c.number.new.self.fresh;
  all_told =
      told-change c.number.new.self.told c.told_with-self.result c.in_ok-number.number c.args.task
      (λ _. Some c.args.mark) (mark_at c.number.new.self.marks.entries) c.put_mark.new.marks.entries
      (λ k u.
      c.put_mark.ensures (record { number = k; task = u })
      ∙ ap (λ (ms : List (Spot × Mark)).
      cond (eqb c.in_ok-number.number k && same_task c.args.task u) (Some c.args.mark) (mark_at ms k u))
      c.reserve_mark.ensures.same)
      (λ now o h. told-put c.number.new.self.told c.args.mark (sym c.told_with-self.ensures ∙ now))
      (λ now before. told-before c.number.new.self.told c.args.mark (sym c.told_with-self.ensures ∙ now) before)
      c.number.new.self.all_told;
}

pub returns-clause-ok : goal.returns-clause-ok
returns-clause-ok c = λ r t.
    by_number c.number.new.self.names.entries c.args.res.now c.in_ok-number.number c.args.task (λ _. Some c.args.mark)
    (mark_at c.number.new.self.marks.entries) (mark_at c.put_mark.new.marks.entries) c.number.new.self.numbered
    c.in_ok-number.ensures.number
    (λ k u.
    c.put_mark.ensures (record { number = k; task = u })
    ∙ ap (λ (ms : List (Spot × Mark)).
    cond (eqb c.in_ok-number.number k && same_task c.args.task u) (Some c.args.mark) (mark_at ms k u))
    c.reserve_mark.ensures.same)
    r t
    ∙ ap (λ (o : Option Mark). cond (same_res c.args.res.now r && same_task c.args.task t) (Some c.args.mark) o)
    (c.in_ok-number.ensures.same r t)
