use Rattle.std.proofs.Common.{◌<◌, ℕ, sym, subst}
use Rattle.std.specs.Prelude.{All, IfErr}
use Rattle.std.proofs.lemmas.List.Elements.{length_all_zip}
use Rattle.grs_workers.specs.Rounds.{HasMoved}
use Rattle.grs_workers.specs.declared.worker.Worker.{Worker}
use Rattle.grs_workers.proofs.RoundLaws.{all-moved}
use Rattle.grs_workers.proofs.stretch.stretch.Goals as goal

pub returns-clause-grew : goal.returns-clause-grew
returns-clause-grew g c = λ i d below.
    (all-moved c.args.bus.now c.args.workers.items c.at_once-moved.result.items c.at_once-moved.ensures
    (subst (All (λ (w : Worker). IfErr w.outcome (λ _. ⊥))) c.as_slice.ensures.value c.in_ok-all.ensures.ok) i d below).0

pub returns-clause-count : goal.returns-clause-count
returns-clause-count g c =
    sym (length_all_zip (HasMoved c.args.bus.now) c.args.workers.items c.at_once-moved.result.items
    c.at_once-moved.ensures)

pub returns-clause-on : goal.returns-clause-on
returns-clause-on g c = λ i d below.
    (all-moved c.args.bus.now c.args.workers.items c.at_once-moved.result.items c.at_once-moved.ensures
    (subst (All (λ (w : Worker). IfErr w.outcome (λ _. ⊥))) c.as_slice.ensures.value c.in_ok-all.ensures.ok) i d
    (subst (λ (k : ℕ). i < k) (sym (length_all_zip (HasMoved c.args.bus.now) c.args.workers.items
    c.at_once-moved.result.items c.at_once-moved.ensures)) below)).1

pub returns-clause-agree : goal.returns-clause-agree
returns-clause-agree g c = λ i d below.
    (all-moved c.args.bus.now c.args.workers.items c.at_once-moved.result.items c.at_once-moved.ensures
    (subst (All (λ (w : Worker). IfErr w.outcome (λ _. ⊥))) c.as_slice.ensures.value c.in_ok-all.ensures.ok) i d
    (subst (λ (k : ℕ). i < k) (sym (length_all_zip (HasMoved c.args.bus.now) c.args.workers.items
    c.at_once-moved.result.items c.at_once-moved.ensures)) below)).2
