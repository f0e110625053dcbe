use Rattle.std.proofs.Common.{◌∙◌, sym, ap, Bool}
use Rattle.std.specs.Map.{lookup}
use Rattle.grs_base.specs.declared.resource.Res.{Res}
use Rattle.grs_base.proofs.SameLaws.{derived_eq-same}
use Rattle.contention_mgr.proofs.UntoldLemmas.{there-least, first-least, none-least}
use Rattle.contention_mgr.proofs.marks.Marks.first_name.Goals as goal

pub returns-in-Some-get_index-clause-there : goal.returns-in-Some-get_index-clause-there
returns-in-Some-get_index-clause-there c = (
  c.in-Some.ensures.there.0,
  there-least c.args.home.0 c.args.self.now.names.entries c.args.self.now.marks.entries c.in-Some.number
      c.in-Some-get_index.res.now c.in-Some-get_index.field-0-1.now c.in-Some.ensures.there.0 c.args.self.now.numbered
      (sym c.in-Some-get_index.ensures.entry)
      (sym (ap (λ (f : Res → Res → Bool). lookup (f c.in-Some-get_index.res.now) c.args.self.now.names.entries)
      derived_eq-same)
      ∙ c.in-Some-get_index.ensures.value)
      c.in-Some.ensures.there.1,
)

pub returns-in-Some-get_index-clause-first : goal.returns-in-Some-get_index-clause-first
returns-in-Some-get_index-clause-first c =
    first-least c.args.home.0 c.args.self.now.names.entries c.args.self.now.marks.entries c.in-Some.number
    c.in-Some-get_index.res.now c.in-Some-get_index.field-0-1.now c.args.self.now.numbered
    (sym c.least_number.ensures.least ∙ c.in-Some.is) (sym c.in-Some-get_index.ensures.entry)

pub returns-in-None-clause-none : goal.returns-in-None-clause-none
returns-in-None-clause-none c =
    none-least c.args.home.0 c.args.self.now.names.entries c.args.self.now.marks.entries
    (sym c.least_number.ensures.least ∙ c.in-None.is)
