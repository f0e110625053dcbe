use Rattle.std.proofs.Common.{◌≡◌, ◌∙◌, Bool, None, cond, nat_eq, subst, sym}
use Rattle.std.proofs.lemmas.List.{nil_from_length}
use Rattle.std.specs.List.{IsDistinct}
use Rattle.std.specs.Map.{keys_of, lookup}
use Rattle.grs_base.specs.State.{list_at}
use Rattle.grs_base.specs.declared.resource.Res.{Res}
use Rattle.grs_base.proofs.SameLaws.{derived_eq-same}
use Rattle.queue_table.proofs.GoneLemmas.{gone_at, live_at, if_some-map}
use Rattle.queue_table.proofs.resources.let_go.Goals as goal

pub len-left-requires : goal.len-left-requires
len-left-requires g c =
    live_at (g.Q.Queues.is_live c.args.queues.now) c.args.numbers.now.entries c.args.place c.args.queue
    c.requires.table.live_numbers c.requires.number

pub drop_empty-requires-clause-live : goal.drop_empty-requires-clause-live
drop_empty-requires-clause-live g c =
    live_at (g.Q.Queues.is_live c.args.queues.now) c.args.numbers.now.entries c.args.place c.args.queue
    c.requires.table.live_numbers c.requires.number

pub drop_empty-requires-clause-empty : goal.drop_empty-requires-clause-empty
drop_empty-requires-clause-empty g c =
    nil_from_length (list_at nat_eq (g.Q.Queues.elements c.args.queues.now) c.args.queue)
    (sym c.len-left.ensures ∙ c.if-left-eq0.true)

pub returns-then-left-eq0-clause-table : goal.returns-then-left-eq0-clause-table
returns-then-left-eq0-clause-table g c =
    let es = c.args.numbers.now.entries in
    let more = c.swap_remove_index.new.self.entries in
    let hs = g.Q.Queues.elements c.args.queues.now in
    let none = nil_from_length (list_at nat_eq hs c.args.queue) (sym c.len-left.ensures ∙ c.if-left-eq0.true) in
    let distinct = subst (λ (f : Res → Res → Bool). IsDistinct f (keys_of more)) derived_eq-same
    c.swap_remove_index.ensures.unique in
    (gone_at es more hs (g.Q.Queues.elements c.drop_empty.new.self) (g.Q.Queues.is_live c.args.queues.now)
    (g.Q.Queues.is_live c.drop_empty.new.self) c.args.place c.args.queue c.swap_remove_index.result c.requires.table
    c.requires.number c.swap_remove_index.ensures.entry none distinct
    (if_some-map c.swap_remove_index.result
    (λ e u x. subst (λ (f : Res → Res → Bool). lookup (f x) more ≡ cond (f e.0 x) None (lookup (f x) es)) derived_eq-same
    (u.0 x))
    c.swap_remove_index.ensures.updates)
    c.drop_empty.ensures.elements c.drop_empty.ensures.live).table

pub returns-then-left-eq0-clause-elements : goal.returns-then-left-eq0-clause-elements
returns-then-left-eq0-clause-elements g c =
    let es = c.args.numbers.now.entries in
    let more = c.swap_remove_index.new.self.entries in
    let hs = g.Q.Queues.elements c.args.queues.now in
    let none = nil_from_length (list_at nat_eq hs c.args.queue) (sym c.len-left.ensures ∙ c.if-left-eq0.true) in
    let distinct = subst (λ (f : Res → Res → Bool). IsDistinct f (keys_of more)) derived_eq-same
    c.swap_remove_index.ensures.unique in
    (gone_at es more hs (g.Q.Queues.elements c.drop_empty.new.self) (g.Q.Queues.is_live c.args.queues.now)
    (g.Q.Queues.is_live c.drop_empty.new.self) c.args.place c.args.queue c.swap_remove_index.result c.requires.table
    c.requires.number c.swap_remove_index.ensures.entry none distinct
    (if_some-map c.swap_remove_index.result
    (λ e u x. subst (λ (f : Res → Res → Bool). lookup (f x) more ≡ cond (f e.0 x) None (lookup (f x) es)) derived_eq-same
    (u.0 x))
    c.swap_remove_index.ensures.updates)
    c.drop_empty.ensures.elements c.drop_empty.ensures.live).elements
