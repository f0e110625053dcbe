use Rattle.std.proofs.Common.{arith}
use Rattle.grs_deck.proofs.PlacesLaws.{task_in-is, held_there, place_small}
use Rattle.grs_deck.proofs.places.task_in.Goals as goal

pub task_count-before-requires : goal.task_count-before-requires
task_count-before-requires c =
    let held =
    held_there c.as_slice-jobs.result.now c.in_ok-j.j c.in_ok-held.held.now c.in_ok-j.ensures.within
    c.in_ok-held.ensures.lookup.1 in
    let small =
    place_small c.as_slice-jobs.result.now c.args.found.now.jobs c.in_ok-j.j c.in_ok-k.k c.in_ok-held.held.now
    c.as_slice.result.now c.as_slice-jobs.ensures held c.as_slice.ensures c.in_ok-k.ensures.within c.requires.tasks in
    omega (arith, small)

pub overflow_add-result : goal.overflow_add-result
overflow_add-result c =
    let held =
    held_there c.as_slice-jobs.result.now c.in_ok-j.j c.in_ok-held.held.now c.in_ok-j.ensures.within
    c.in_ok-held.ensures.lookup.1 in
    let small =
    place_small c.as_slice-jobs.result.now c.args.found.now.jobs c.in_ok-j.j c.in_ok-k.k c.in_ok-held.held.now
    c.as_slice.result.now c.as_slice-jobs.ensures held c.as_slice.ensures c.in_ok-k.ensures.within c.requires.tasks in
    rw c.task_count-before.ensures (omega (arith, small))

pub overflow_cast-result-2 : goal.overflow_cast-result-2
overflow_cast-result-2 c =
    let held =
    held_there c.as_slice-jobs.result.now c.in_ok-j.j c.in_ok-held.held.now c.in_ok-j.ensures.within
    c.in_ok-held.ensures.lookup.1 in
    let small =
    place_small c.as_slice-jobs.result.now c.args.found.now.jobs c.in_ok-j.j c.in_ok-k.k c.in_ok-held.held.now
    c.as_slice.result.now c.as_slice-jobs.ensures held c.as_slice.ensures c.in_ok-k.ensures.within c.requires.tasks in
    rw c.task_count-before.ensures (omega (arith, small))

pub returns : goal.returns
returns c =
    let held =
    held_there c.as_slice-jobs.result.now c.in_ok-j.j c.in_ok-held.held.now c.in_ok-j.ensures.within
    c.in_ok-held.ensures.lookup.1 in
    task_in-is c.args.id c.args.found.now c.args.job.now c.args.task.now c.as_slice-jobs.result.now c.in_ok-j.j
    c.in_ok-k.k c.in_ok-held.held.now c.as_slice.result.now c.task_count-before.result c.as_slice-jobs.ensures
    c.in_ok-j.ensures.at held c.as_slice.ensures c.in_ok-k.ensures.at c.task_count-before.ensures
