use Rattle.std.proofs.Common.{◌<◌, ◌≤◌, length, ap, sym, ◌∙◌, arith}
use Rattle.std.specs.Prelude.{slice_get}
use Rattle.grs_legal.specs.Asks.{lines_at, scripts_in}
use Rattle.grs_track.proofs.ScriptLaws.{walk-within, walk-behind}
use Rattle.grs_track.proofs.script.lines_in_jobs.Goals as goal

pub returns-then-place-count : goal.returns-then-place-count
returns-then-place-count c =
    let here : c.loop-number.number < length c.args.jobs.now = omega (arith, c.loop-number-test.true) in
    let within : c.loop-number.place < length c.index-jobs-number.result.tasks =
    omega (arith, c.len-count.ensures, c.if-place-count.true) in
    c.lines_in_job.ensures
    ∙ ap (λ ts. lines_at c.args.task.job (slice_get (scripts_in c.loop-number.number ts) c.loop-number.place))
    c.as_slice.ensures
    ∙ sym (walk-within c.args.task.job c.loop-number.number c.loop-number.place c.args.jobs.now
    c.index-jobs-number.result here c.index-jobs-number.is within)
    ∙ c.loop-number.invariant

pub loop-number-preserved : goal.loop-number-preserved
loop-number-preserved c =
    let here : c.loop-number.number < length c.args.jobs.now = omega (arith, c.loop-number-test.true) in
    let behind : c.len-count.result ≤ c.loop-number.place = omega (arith, c.if-place-count.false) in
    sym (walk-behind c.args.task.job c.loop-number.number c.loop-number.place c.len-count.result c.args.jobs.now
    c.index-jobs-number.result here c.index-jobs-number.is c.len-count.ensures behind)
    ∙ c.loop-number.invariant
