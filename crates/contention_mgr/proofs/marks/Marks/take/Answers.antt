use Rattle.std.proofs.Common.{sym, ◌∙◌, refl, length, None}
use Rattle.contention_mgr.specs.Marks.{mark_at}
use Rattle.contention_mgr.proofs.MarkLemmas.{by_number, fresh-change, told-change}
use Rattle.contention_mgr.proofs.marks.Marks.take.Goals as goal

pub returns-in-Some : goal.returns-in-Some
returns-in-Some c =
    by_number c.args.self.now.names.entries c.args.res.now c.in-Some.number c.args.task (λ _. None)
    (mark_at c.args.self.now.marks.entries) (mark_at c.take_mark-mark.new.marks.entries) c.args.self.now.numbered
    (sym c.find_number.ensures ∙ c.in-Some.is) (λ k u. c.take_mark-mark.ensures (record { number = k; task = u }))

pub invariant_of-self-clause-all_told : goal.invariant_of-self-clause-all_told
invariant_of-self-clause-all_told c =
    told-change c.args.self.now.told c.told_without-self.result c.in-Some.number c.args.task (λ _. None)
    (mark_at c.args.self.now.marks.entries) c.take_mark-mark.new.marks.entries
    (λ k u. c.take_mark-mark.ensures (record { number = k; task = u })) (λ now o h. refl) c.told_without-self.ensures
    c.args.self.now.all_told

pub invariant_of-self-clause-fresh : goal.invariant_of-self-clause-fresh
invariant_of-self-clause-fresh c =
    fresh-change (length c.args.self.now.names.entries) c.in-Some.number c.args.task (λ _. None)
    (mark_at c.args.self.now.marks.entries) (mark_at c.take_mark-mark.new.marks.entries)
    (λ k u. c.take_mark-mark.ensures (record { number = k; task = u })) refl c.args.self.now.fresh
