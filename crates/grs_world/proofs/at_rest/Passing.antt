-- What is passed is told: of each system's tasks and of its desk, in every run.
use Rattle.grs_world.proofs.Common.{[], ◌-◌, ◌<◌, ◌==◌, ◌∙◌, ◌∷◌, ◌≡◌, ◌≤◌, and_from, ap, arith, Bool, Deck, eq-eqb}
use Rattle.grs_world.proofs.Common.{Event, false, first_node, get_or, has_code, is_code_at, is_code_of, is_line_of}
use Rattle.grs_world.proofs.Common.{is_task, length, lines_of, lines_of_told, List, list_any, lt-ltb, Meaning, nat_lt}
use Rattle.grs_world.proofs.Common.{node_at, NodeState, None, Option, OrdersFit, refl, run, scripts_of, slice_get}
use Rattle.grs_world.proofs.Common.{slice_get_within, Some, state_of, subst, suc, sym, SysId, TaskId, TaskState}
use Rattle.grs_world.proofs.Common.{ToldLine, true, World, zero, ℕ}
use Rattle.grs_known.specs.Told.{is_end_of}
use Rattle.std.proofs.lemmas.Option.{get_or_from_slice_get}
use Rattle.grs_known.specs.Passed.{has_ended, lines_passed}
use Rattle.std.proofs.lemmas.Map.Views.{any-filter_same}
use Rattle.grs_known.proofs.system.Ours.{script_at}
use Rattle.grs_world.proofs.move.Sound.{GoodRun, in_ring, in_star}
use Rattle.grs_world.proofs.at_rest.EndLines.{code-exact, code-home, end-exact, end-home}
use Rattle.grs_world.proofs.at_rest.Full.{full_run}
use Rattle.grs_world.proofs.at_rest.Homes.{homes_run}
use Rattle.grs_world.proofs.at_rest.KeptUp.{kept_run}
use Rattle.grs_world.proofs.at_rest.RingRun.{first-state}
use Rattle.grs_known.proofs.tasks.UpToDate.{is_end_at}
use Rattle.grs_world.proofs.run.Desks.{GoodDesks}
use Rattle.grs_world.proofs.run.Runs.{GoodTold}
use Rattle.grs_world.specs.Passed.{DesksAreTold, EndsAreTold, LinesAreTold, PassedIsTold, is_desk_of}

pub good_desks : (deck : Deck) (es : List Event) (w : World) → GoodRun deck es w → GoodDesks deck w
good_desks deck es w (in_ring begins ring g d) = d
good_desks deck es w (in_star f g told d) = d

first-done : (deck : Deck) (s : ℕ) → (first_node deck s).done ≡ 0
unfolding first_node
first-done deck s = refl

get_or_past_none : {X : Type 0} (xs : List X) (i : ℕ) (d : X) → slice_get xs i ≡ None → get_or xs i d ≡ d
get_or_past_none [] i d e = refl
get_or_past_none (x ∷ xs) zero d e = absurd (cc)
get_or_past_none (x ∷ xs) (suc i) d e = get_or_past_none xs i d e

module _ (deck : Deck) (fit : OrdersFit deck) (es : List Event) (g : GoodTold deck es (run deck es))
    (d : GoodDesks deck (run deck es)) where
  -- a system of the run, or one that isn't there
  by_system : (s : SysId) (P : NodeState → Type 0)
      → ((n : NodeState) → slice_get (run deck es).nodes s.0 ≡ Some n → P n) → P (first_node deck s.0)
      → P (node_at deck (run deck es).nodes s)
  by_system s P there gone = go (slice_get (run deck es).nodes s.0) refl
    where
      go : (o : Option NodeState) → slice_get (run deck es).nodes s.0 ≡ o → P (node_at deck (run deck es).nodes s)
      go (Some n) e =
          subst P (sym (get_or_from_slice_get (run deck es).nodes s.0 n (first_node deck s.0) e)) (there n e)
      go None e = subst P (sym (get_or_past_none (run deck es).nodes s.0 (first_node deck s.0) e)) gone

  -- a task of the deck is one of its system's
  module _ (t : TaskId) (ls : List Meaning) (lines : lines_of deck t ≡ Some ls) (n : NodeState)
      (at : slice_get (run deck es).nodes t.system.0 ≡ Some n) where
    here : is_task n.tasks t ≡ true
    here =
        let script = script_at deck.lists t (slice_get (scripts_of deck t.system.0) t.task) ls lines in
        let within : t.task < length (scripts_of deck t.system.0) =
        slice_get_within (scripts_of deck t.system.0) t.task script.0 script.1 in
        and_from (n.tasks.system == t.system.0) (nat_lt t.task (length n.tasks.tasks))
        (eq-eqb n.tasks.system t.system.0 (homes_run deck es t.system.0 n at))
        (lt-ltb t.task (length n.tasks.tasks) (omega (arith, within, full_run deck es t.system.0 n at)))

    -- what its system told is told
    all-told : (q : ToldLine → Bool) → ((l : ToldLine) → q l ≡ true → is_line_of t.system.0 l ≡ true)
        → list_any q n.tasks.told ≡ true → list_any q (lines_of_told (run deck es).told) ≡ true
    all-told q home h =
        sym (any-filter_same q (is_line_of t.system.0) true home (lines_of_told (run deck es).told))
        ∙ (ap (list_any q) (sym (g.lines t.system.0 n at))
        ∙ (any-filter_same q (is_line_of t.system.0) true home n.tasks.told ∙ h))

    line-told : (k : ℕ) → 0 < k → k ≤ lines_passed (state_of n.tasks t) → has_code (slice_get ls (k - 1)) ≡ true
        → list_any (is_code_of t k) (lines_of_told (run deck es).told) ≡ true
    line-told k low l has =
        code-exact deck n.tasks t ls lines here es [] (run deck es).told k (g.agree fit)
        (all-told (is_code_at t k) (code-home t k)
        (((kept_run deck es t.system.0 n at).date t ls lines here).coded k low l has))

    end-told : has_ended (state_of n.tasks t).phase ≡ true
        → list_any (is_end_of t) (lines_of_told (run deck es).told) ≡ true
    end-told ended =
        end-exact deck n.tasks t ls lines here es [] (run deck es).told (g.agree fit)
        (all-told (is_end_at t) (end-home t)
        (((kept_run deck es t.system.0 n at).date t ls lines here).ended ended))

  lines-told : LinesAreTold deck es
  lines-told t ls k lines low l has =
      by_system t.system
      (λ n. k ≤ lines_passed (state_of n.tasks t)
      → list_any (is_code_of t k) (lines_of_told (run deck es).told) ≡ true)
      (λ n at within. line-told t ls lines n at k low within has)
      (λ within.
      absurd (omega (arith, low, subst (λ (x : TaskState). k ≤ lines_passed x) (first-state deck t.system.0 t) within)))
      l

  ends-told : EndsAreTold deck es
  ends-told t ls lines ended =
      by_system t.system
      (λ n. has_ended (state_of n.tasks t).phase ≡ true
      → list_any (is_end_of t) (lines_of_told (run deck es).told) ≡ true)
      (λ n at e. end-told t ls lines n at e)
      (λ e.
      absurd (let no : false ≡ true =
      sym (ap (λ (x : TaskState). has_ended x.phase) (first-state deck t.system.0 t)) ∙ e in
      cc))
      ended

  desks-told : DesksAreTold deck es
  desks-told s k low l =
      by_system s (λ n. k ≤ n.done → list_any (is_desk_of s k) (run deck es).told ≡ true)
      (λ n at within. d.each s.0 n at k low within)
      (λ within. absurd (omega (arith, low, first-done deck s.0, within))) l

  pub passed-by : PassedIsTold deck es
  passed-by = record { lines = lines-told; ends = ends-told; desks = desks-told }
