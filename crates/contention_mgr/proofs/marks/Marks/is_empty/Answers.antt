use Rattle.std.proofs.Common.{true≢false, ◌∙◌, sym, ap, subst, length, Bool}
use Rattle.std.specs.Prelude.{IsSome}
use Rattle.std.specs.Map.{lookup}
use Rattle.grs_base.specs.declared.resource.Res.{Res}
use Rattle.grs_base.proofs.SameLaws.{derived_eq-same}
use Rattle.contention_mgr.specs.Marks.{mark_at}
use Rattle.contention_mgr.proofs.UntoldLemmas.{number-marked, near}
use Rattle.contention_mgr.proofs.marks.Marks.is_empty.Goals as goal

pub unreachable-requires : goal.unreachable-requires
unreachable-requires c =
    true≢false (sym (subst (λ o. IsSome o) c.in-None-get_index.is (c.get_index-in-Some.ensures.found.1
    (near (length c.args.self.now.names.entries) c.in-Some.spot.now.number
    (mark_at c.args.self.now.marks.entries c.in-Some.spot.now.number c.in-Some.spot.now.task) c.in-Some.field-0-1.now
    (c.args.self.now.fresh c.in-Some.spot.now.number c.in-Some.spot.now.task) c.in-Some.ensures.value))))

pub returns-in-Some-get_index-clause-some : goal.returns-in-Some-get_index-clause-some
returns-in-Some-get_index-clause-some c = λ _. (
  c.in-Some-get_index.field-0.0.now,
  c.in-Some.spot.now.task,
  number-marked c.args.self.now.names.entries c.args.self.now.marks.entries c.in-Some.spot.now.number
      c.in-Some-get_index.field-0.0.now c.in-Some-get_index.field-0.1.now c.in-Some.spot.now.task
      c.in-Some.field-0-1.now c.args.self.now.numbered (sym c.in-Some-get_index.ensures.entry)
      (sym (ap (λ (f : Res → Res → Bool). lookup (f c.in-Some-get_index.field-0.0.now) c.args.self.now.names.entries)
      derived_eq-same)
      ∙ c.in-Some-get_index.ensures.value)
      c.in-Some.ensures.value,
)
