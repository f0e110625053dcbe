-- What is known of a worker whose round went well.
use Rattle.std.proofs.Common.{◌≡◌, ◌<◌, ℕ, Bool, true, false, List, length, get_or, Result, Ok, Err, IfOk, IfErr, sym}
use Rattle.std.proofs.Common.{◌∙◌, subst}
use Rattle.std.specs.Prelude.{All}
use Rattle.std.specs.List.{list_all, AllZip}
use Rattle.std.proofs.lemmas.Bool.{true≢false}
use Rattle.std.proofs.lemmas.List.Elements.{AllZip-get_or, length_all_zip}
use Rattle.std.proofs.lemmas.List.Folds.{list_all_at}
use Rattle.grs_base.specs.declared.fault.NoMemory.{NoMemory}
use Rattle.grs_bus.specs.Seats.{BusValue}
use Rattle.grs_workers.specs.Stands.{stand, IsOn, Agrees}
use Rattle.grs_workers.specs.Beside.{IsOver}
use Rattle.grs_workers.specs.Rounds.{Went, Grew, Each, HasWorked, HasMoved, is_out}
use Rattle.grs_workers.specs.declared.worker.Worker.{Worker}
use Rattle.grs_workers.proofs.DeedLaws.{went-grew, grew-none, grew-further}

pub worked-grew : (b : BusValue) (v w : Worker) → HasWorked b v w → IfErr w.outcome (λ _. ⊥) → Grew (stand v) (stand w)
worked-grew b v w worked fine = by_outcome w.outcome worked fine
  where
    by_outcome : (o : Result Bool NoMemory)
        → IfOk o (λ out. Went (stand v) out (stand w) × IsOn b (stand w) × Agrees (stand w)) → IfErr o (λ _. ⊥)
        → Grew (stand v) (stand w)
    by_outcome (Ok out) worked fine = went-grew (stand v) out (stand w) worked.0
    by_outcome (Err e) worked fine = absurd fine

pub moved-well : (b : BusValue) (v w : Worker) → HasMoved b v w → IfErr w.outcome (λ _. ⊥)
    → Grew (stand v) (stand w) × IsOn b (stand w) × Agrees (stand w)
moved-well b v w moved fine = by_outcome w.outcome moved fine
  where
    by_outcome : (o : Result Bool NoMemory)
        → IfOk o (λ out. Grew (stand v) (stand w) × IsOn b (stand w) × Agrees (stand w)) → IfErr o (λ _. ⊥)
        → Grew (stand v) (stand w) × IsOn b (stand w) × Agrees (stand w)
    by_outcome (Ok out) moved fine = moved
    by_outcome (Err e) moved fine = absurd fine

pub all-moved : (b : BusValue) (vs ws : List Worker) → AllZip (HasMoved b) vs ws → All (λ w. IfErr w.outcome (λ _. ⊥)) ws
    → (i : ℕ) (d : Worker) → i < length vs
    → Grew (stand (get_or vs i d)) (stand (get_or ws i d)) × IsOn b (stand (get_or ws i d)) × Agrees (stand (get_or ws i d))
all-moved b vs ws moved fine i d below =
    moved-well b (get_or vs i d) (get_or ws i d) (AllZip-get_or (HasMoved b) vs ws i d d moved below)
    (fine i d (subst (λ k. i < k) (length_all_zip (HasMoved b) vs ws moved) below))

-- ---- several rounds

pub grew-still : (ws : List Worker) → Each (λ v w. Grew (stand v) (stand w)) ws ws
grew-still ws i d below = grew-none (stand (get_or ws i d))

pub grew-again : (us vs ws : List Worker) → length vs ≡ length us → Each (λ v w. Grew (stand v) (stand w)) us vs
    → Each (λ v w. Grew (stand v) (stand w)) vs ws → Each (λ v w. Grew (stand v) (stand w)) us ws
grew-again us vs ws count first second i d below =
    grew-further (stand (get_or us i d)) (stand (get_or vs i d)) (stand (get_or ws i d)) (first i d below)
    (second i d (subst (λ k. i < k) (sym count) below))

out-at : (ws : List Worker) (i : ℕ) (d : Worker) → list_all (λ w. is_out w.outcome) ws ≡ true → i < length ws
    → is_out (get_or ws i d).outcome ≡ true
out-at ws i d all below = by_out (is_out (get_or ws i d).outcome) (list_all_at (λ w. is_out w.outcome) ws i d below)
  where
    by_out : (b : Bool) → (b ≡ false → list_all (λ w. is_out w.outcome) ws ≡ false) → b ≡ true
    by_out true none = λ j. true
    by_out false none = absurd (true≢false (sym all ∙ none (λ j. false)))

-- where all were answered Over or Removed in the last
pub all-over : (vs ws : List Worker) → length ws ≡ length vs → list_all (λ w. is_out w.outcome) ws ≡ true
    → Each (λ v w. Went (stand v) (is_out w.outcome) (stand w)) vs ws → All (λ w. IsOver (stand w)) ws
all-over vs ws count all went i d below = (
  stand (get_or vs i d),
  subst (λ (b : Bool). Went (stand (get_or vs i d)) b (stand (get_or ws i d))) (out-at ws i d all below)
      (went i d (subst (λ k. i < k) count below)),
)

pub ruleset rounds = (grew-still, grew-again, all-over)
