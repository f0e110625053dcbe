use Rattle.std.proofs.Common.{◌∙◌, ℕ, ap, Some}
use Rattle.std.specs.Prelude.{Option}
use Rattle.grs_latch.proofs.NumberLemmas.{among_at, on-ok}
use Rattle.grs_latch.proofs.PurgeLemmas.{taken-on, taken-absent, grants-on, grants-absent}
use Rattle.grs_latch.proofs.parts.add_purged_at.Goals as goal

pub add_purged-requires-clause-live : goal.add_purged-requires-clause-live
add_purged-requires-clause-live g c =
    c.requires.numbered.live c.in-Some.queue
    (among_at c.args.numbers.now c.args.latch c.in-Some.queue
    (c.queue_at.ensures ∙ ap (λ (o : Option ℕ). Some o) c.in-Some.is))

pub returns-in-Some-clause-taken : goal.returns-in-Some-clause-taken
returns-in-Some-clause-taken g c =
    on-ok c.add_purged.result _ _ c.add_purged.ensures.taken (λ is.
    taken-on (g.Q.Queues.elements c.args.queues.now) c.args.numbers.now c.args.latch c.in-Some.queue
    c.args.purged.now.taken c.add_purged.new.purged.taken c.args.task
    (c.queue_at.ensures ∙ ap (λ (o : Option ℕ). Some o) c.in-Some.is) is)

pub returns-in-Some-clause-grants : goal.returns-in-Some-clause-grants
returns-in-Some-clause-grants g c =
    on-ok c.add_purged.result _ _ c.add_purged.ensures.grants (λ is.
    grants-on (g.Q.Queues.elements c.args.queues.now) c.args.set c.args.numbers.now c.args.latch c.in-Some.queue
    c.args.purged.now.grants c.add_purged.new.purged.grants c.args.task
    (c.queue_at.ensures ∙ ap (λ (o : Option ℕ). Some o) c.in-Some.is) is)

pub returns-in-None-clause-taken : goal.returns-in-None-clause-taken
returns-in-None-clause-taken g c =
    taken-absent (g.Q.Queues.elements c.args.queues.now) c.args.numbers.now c.args.latch c.args.purged.now.taken
    c.args.task (c.queue_at.ensures ∙ ap (λ (o : Option ℕ). Some o) c.in-None.is)

pub returns-in-None-clause-grants : goal.returns-in-None-clause-grants
returns-in-None-clause-grants g c =
    grants-absent (g.Q.Queues.elements c.args.queues.now) c.args.set c.args.numbers.now c.args.latch
    c.args.purged.now.grants c.args.task (c.queue_at.ensures ∙ ap (λ (o : Option ℕ). Some o) c.in-None.is)
