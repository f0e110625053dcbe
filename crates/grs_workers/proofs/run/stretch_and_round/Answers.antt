use Rattle.std.proofs.Common.{◌≡◌, length, ap, sym, ◌∙◌, subst}
use Rattle.std.specs.Prelude.{All}
use Rattle.std.specs.Vec.{with_items}
use Rattle.std.proofs.lemmas.List.{with_items_is}
use Rattle.grs_workers.specs.Beside.{IsOver}
use Rattle.grs_workers.specs.Rounds.{Went, Grew, Each, is_out}
use Rattle.grs_workers.specs.Stands.{stand, IsOn, Agrees}
use Rattle.grs_workers.specs.declared.worker.Worker.{Worker}
use Rattle.grs_workers.proofs.RoundLaws.{grew-again, all-over}
use Rattle.grs_workers.proofs.run.stretch_and_round.Goals as goal

pub returns-clause-grew : goal.returns-clause-grew
returns-clause-grew g c =
    let vs = c.in_ok-moved.moved in let ws = c.round.new.workers in
    let count : length ws ≡ length vs.items = c.round.auto.workers ∙ ap length c.as_mut_slice.ensures.value in
    let back : (with_items vs ws).items ≡ ws = with_items_is vs ws (count ∙ sym vs.ok.0) in
    subst (Each (λ v w. Grew (stand v) (stand w)) c.args.workers.items) (sym back)
    (grew-again c.args.workers.items vs.items ws c.in_ok-moved.ensures.count c.in_ok-moved.ensures.grew
    (subst (λ us. Each (λ v w. Grew (stand v) (stand w)) us ws) c.as_mut_slice.ensures.value
    c.in_ok-over.ensures.grew))

pub returns-clause-count : goal.returns-clause-count
returns-clause-count g c =
    let vs = c.in_ok-moved.moved in let ws = c.round.new.workers in
    let count : length ws ≡ length vs.items = c.round.auto.workers ∙ ap length c.as_mut_slice.ensures.value in
    let back : (with_items vs ws).items ≡ ws = with_items_is vs ws (count ∙ sym vs.ok.0) in
    ap length back ∙ count ∙ c.in_ok-moved.ensures.count

pub returns-clause-over : goal.returns-clause-over
returns-clause-over g c = λ all.
    let vs = c.in_ok-moved.moved in let ws = c.round.new.workers in
    let count : length ws ≡ length vs.items = c.round.auto.workers ∙ ap length c.as_mut_slice.ensures.value in
    let back : (with_items vs ws).items ≡ ws = with_items_is vs ws (count ∙ sym vs.ok.0) in
    subst (All (λ (w : Worker). IsOver (stand w))) (sym back)
    (all-over vs.items ws count (sym c.in_ok-over.ensures.out ∙ all)
    (subst (λ us. Each (λ v w. Went (stand v) (is_out w.outcome) (stand w)) us ws) c.as_mut_slice.ensures.value
    c.in_ok-over.ensures.went))

pub returns-clause-on : goal.returns-clause-on
returns-clause-on g c =
    let vs = c.in_ok-moved.moved in let ws = c.round.new.workers in
    let count : length ws ≡ length vs.items = c.round.auto.workers ∙ ap length c.as_mut_slice.ensures.value in
    let back : (with_items vs ws).items ≡ ws = with_items_is vs ws (count ∙ sym vs.ok.0) in
    subst (All (λ (w : Worker). IsOn c.args.bus.now (stand w))) (sym back) c.in_ok-over.ensures.on

pub returns-clause-agree : goal.returns-clause-agree
returns-clause-agree g c =
    let vs = c.in_ok-moved.moved in let ws = c.round.new.workers in
    let count : length ws ≡ length vs.items = c.round.auto.workers ∙ ap length c.as_mut_slice.ensures.value in
    let back : (with_items vs ws).items ≡ ws = with_items_is vs ws (count ∙ sym vs.ok.0) in
    subst (All (λ (w : Worker). Agrees (stand w))) (sym back) c.in_ok-over.ensures.agree
