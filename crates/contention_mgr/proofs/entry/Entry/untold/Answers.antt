use Rattle.std.proofs.Common.{◌∙◌, sym, ap}
use Rattle.std.specs.Prelude.{option_map}
use Rattle.contention_mgr.specs.Manager.{Managed, first_untold, owner_of}
use Rattle.contention_mgr.specs.Marks.{mark_in}
use Rattle.contention_mgr.specs.Untold.{first_to_tell}
use Rattle.contention_mgr.proofs.UntoldLemmas.{some-on, first-found_as, first-none}
use Rattle.contention_mgr.proofs.entry.Entry.untold.Goals as goal

pub unreachable-requires : goal.unreachable-requires
unreachable-requires c =
    let marks = mark_in c.self.inside.marks.names.entries c.self.inside.marks.marks.entries in
    some-on c.args.home.0 marks c.self.inside.table.elements c.in-Some.res.now c.in-Some.ensures.there.0
    c.self.invariant c.in-Some.ensures.there.1
    (sym (ap (first_to_tell c.args.home.0 marks c.in-Some.res.now)
    (c.as_slice.ensures ∙ c.in_ok-list-in-Some.ensures.list))
    ∙ sym c.first_in.ensures
    ∙ c.in-None-first_in.is)

pub returns-in_ok-name-in-Some-first_in : goal.returns-in_ok-name-in-Some-first_in
returns-in_ok-name-in-Some-first_in c =
    let marks = mark_in c.self.inside.marks.names.entries c.self.inside.marks.marks.entries in
    sym (first-found_as c.args.home.0 marks c.self.inside.table.elements c.in-Some.res.now
    c.in_ok-name-in-Some-first_in.name c.in-Some-first_in.task c.in_ok-name-in-Some-first_in.ensures
    c.in-Some.ensures.first
    (sym (ap (first_to_tell c.args.home.0 marks c.in-Some.res.now)
    (c.as_slice.ensures ∙ c.in_ok-list-in-Some.ensures.list))
    ∙ sym c.first_in.ensures
    ∙ c.in-Some-first_in.is))
    ∙ ap (λ (m : Managed). option_map owner_of (first_untold c.args.home.0 m.items)) c.self.view_is

pub returns-in-None : goal.returns-in-None
returns-in-None c =
    sym (ap (option_map owner_of) (first-none c.args.home.0
    (mark_in c.self.inside.marks.names.entries c.self.inside.marks.marks.entries) c.in-None.ensures.none
    c.self.inside.table.elements))
    ∙ ap (λ (m : Managed). option_map owner_of (first_untold c.args.home.0 m.items)) c.self.view_is
