use Rattle.std.proofs.Common.{◌≡◌, ◌<◌, ℕ, IfErr, get_or, drop}
use Rattle.std.specs.Prelude.{◌&&◌}
use Rattle.std.specs.List.{list_all}
use Rattle.grs_workers.specs.Rounds.{is_out}
use Rattle.grs_workers.specs.declared.worker.Worker.{Worker}
use Rattle.grs_workers.proofs.rounds.all_out.Given as goal

abbrev pub invariant-loop-worker : goal.invariant-loop-worker
invariant-loop-worker l = record {
  out : (l.all && list_all (λ w. is_out w.outcome) (drop l.worker-index l.workers))
      ≡ list_all (λ w. is_out w.outcome) l.workers;
  ok : (k : ℕ) (d : Worker) → k < l.worker-index → IfErr (get_or l.workers k d).outcome (λ _. ⊥);
}
