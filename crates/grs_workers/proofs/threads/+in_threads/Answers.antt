use Rattle.std.proofs.Common.{rules, subst, sym}
use Rattle.std.specs.Prelude.{Some}
use Rattle.std.proofs.lemmas.List.Elements.{All-pop}
use Rattle.grs_workers.proofs.Popped.{pushed_back}
use Rattle.grs_workers.proofs.threads.+in_threads.Goals as goal

pub returns-then-place-eq0-clause-given : goal.returns-then-place-eq0-clause-given
returns-then-place-eq0-clause-given g t c =
    pushed_back (g.T.Work.gives c.args.work.now) c.args.workers.items c.pop.new.self.items
    c.in_threads-others.result.items c.push_reserved.new.self.items c.in-Some.worker c.work.result c.in-Some.ensures.items
    c.in_threads-others.ensures.given c.work.ensures c.push_reserved.ensures.items

pub in_threads-others-requires-in-Ok-after_bounds : goal.in_threads-others-requires-in-Ok-after_bounds
in_threads-others-requires-in-Ok-after_bounds g t c κs within =
    (All-pop (g.T.Work.asks c.args.work.now) c.args.workers.items c.pop.new.self.items (Some c.in-Some.worker)
    c.in-Some.ensures.items c.requires).0

pub in_threads-others-requires-in-Err-after_bounds : goal.in_threads-others-requires-in-Err-after_bounds
in_threads-others-requires-in-Err-after_bounds g t c κs within =
    (All-pop (g.T.Work.asks c.args.work.now) c.args.workers.items c.pop.new.self.items (Some c.in-Some.worker)
    c.in-Some.ensures.items c.requires).0

pub spawn_with-requires-in-Err : goal.spawn_with-requires-in-Err
spawn_with-requires-in-Err g t c κs within = (
  search rules,
  (
    search rules,
    subst (λ f. g.T.Work.asks f.0.now f.2) (sym c.in-Err.ensures.err)
        (All-pop (g.T.Work.asks c.args.work.now) c.args.workers.items c.pop.new.self.items (Some c.in-Some.worker)
        c.in-Some.ensures.items c.requires).1,
  ),
)

pub returns-in-Ok-clause-given : goal.returns-in-Ok-clause-given
returns-in-Ok-clause-given g t c =
    pushed_back (g.T.Work.gives c.args.work.now) c.args.workers.items c.pop.new.self.items
    c.in_threads-others-in-Ok.result.items c.push_reserved-in-Ok.new.self.items c.in-Some.worker c.join.result
    c.in-Some.ensures.items c.in_threads-others-in-Ok.ensures.given
    (subst (λ h. g.T.Work.gives h c.in-Some.worker c.join.result) c.of.ensures
    (subst (λ v. g.T.Work.gives c.of.result.value v c.join.result) c.of-2.ensures
    (subst (λ p. g.T.Work.gives p.work.value p.worker.value c.join.result) c.in-Ok.ensures.ok c.join.ensures)))
    c.push_reserved-in-Ok.ensures.items

pub returns-in-Err-clause-given : goal.returns-in-Err-clause-given
returns-in-Err-clause-given g t c =
    pushed_back (g.T.Work.gives c.args.work.now) c.args.workers.items c.pop.new.self.items
    c.in_threads-others-in-Err.result.items c.push_reserved-in-Err.new.self.items c.in-Some.worker
    c.spawn_with-in-Err.result c.in-Some.ensures.items c.in_threads-others-in-Err.ensures.given
    (subst (λ f. g.T.Work.gives f.0.now f.2 c.spawn_with-in-Err.result) c.in-Err.ensures.err c.spawn_with-in-Err.ensures)
    c.push_reserved-in-Err.ensures.items
