use Rattle.std.proofs.Common.{◌≡◌, refl, subst}
use Rattle.grs_node.specs.Log.{NodeView, shown}
use Rattle.grs_workers.specs.Rounds.{Grew}
use Rattle.grs_workers.specs.Stands.{stand}
use Rattle.grs_workers.proofs.DeedLaws.{grew-done}
use Rattle.grs_workers.proofs.stretch.event_if.Goals as goal

-- a system of which only its room has changed is shown as before
same : (v w : NodeView) → v.deck ≡ w.deck → v.node ≡ w.node → v.log ≡ w.log → shown v ≡ shown w
same v w deck node log = rw (deck, node, log) refl

pub returns-then-branch-clause-grew : goal.returns-then-branch-clause-grew
returns-then-branch-clause-grew g c = let done = c.in_ok-act.ensures.done in
    subst (λ (n : NodeView).
    Grew (record { node = n; seat = c.args.worker.now.seat; calls = c.args.worker.now.calls }) (stand c.act.new.worker))
    (same c.next.new.node c.args.worker.now.node c.next.ensures.same.0 c.next.ensures.same.1 c.next.ensures.same.2)
    (grew-done
    (record { node = shown c.next.new.node; seat = c.args.worker.now.seat; calls = c.args.worker.now.calls })
    (stand c.act.new.worker) done.0 done.1)

pub returns-else-branch-clause-grew : goal.returns-else-branch-clause-grew
returns-else-branch-clause-grew g c = let done = c.in_ok-act.ensures.done in
    subst (λ (n : NodeView).
    Grew (record { node = n; seat = c.args.worker.now.seat; calls = c.args.worker.now.calls }) (stand c.act.new.worker))
    (same c.next.new.node c.args.worker.now.node c.next.ensures.same.0 c.next.ensures.same.1 c.next.ensures.same.2)
    (grew-done
    (record { node = shown c.next.new.node; seat = c.args.worker.now.seat; calls = c.args.worker.now.calls })
    (stand c.act.new.worker) done.0 done.1)
