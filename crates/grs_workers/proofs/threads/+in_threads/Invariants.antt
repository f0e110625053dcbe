use Rattle.std.specs.Prelude.{vec_len}
use Rattle.grs_workers.proofs.threads.+in_threads.Given as goal

abbrev pub decreases-in_threads : goal.decreases-in_threads
decreases-in_threads g l = vec_len l.workers
