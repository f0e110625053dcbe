-- A system of the complex before its first event.
use Rattle.grs_world.proofs.Common.{[], ◌==◌, ◌∙◌, ◌≡◌, and_parts, ap, arith, askers, Deck, eq-eqb, eqb-true, false}
use Rattle.grs_world.proofs.Common.{first_node, is_home_at, is_task, IsGood, IsHere, length, lines_of, List, list_all}
use Rattle.grs_world.proofs.Common.{lt-ltb, Meaning, nat_lt, new_task, new_tasks, refl, Req, scripts_of, slice_get}
use Rattle.grs_world.proofs.Common.{slice_get_within, Some, some_of, stand_apart, state_of, subst, suc, sym, TaskId}
use Rattle.grs_world.proofs.Common.{true, zero, ℕ}
use Rattle.std.proofs.Common.{get_or}
use Rattle.grs_known.proofs.system.Ours.{script_at}
use Rattle.grs_world.proofs.system.AtNode.{Seen}
use Rattle.grs_world.proofs.system.First.{first_told}

new_tasks-blank : (n i : ℕ) → get_or (new_tasks n) i new_task ≡ new_task
new_tasks-blank zero i = grind (arith)
new_tasks-blank (suc n) zero = refl
new_tasks-blank (suc n) (suc i) = new_tasks-blank n i

length-new_tasks : (n : ℕ) → length (new_tasks n) ≡ n
length-new_tasks zero = refl
length-new_tasks (suc n) = ap suc (length-new_tasks n)

first_state : (deck : Deck) (s : ℕ) (t : TaskId) → state_of (first_node deck s).tasks t ≡ new_task
unfolding state_of first_node
first_state deck s t = new_tasks-blank (length (scripts_of deck s)) t.task

first_system : (deck : Deck) (s : ℕ) → (first_node deck s).tasks.system ≡ s
unfolding first_node
first_system deck s = refl

first_own : (deck : Deck) (s : ℕ) → (first_node deck s).own ≡ []
unfolding first_node
first_own deck s = refl

first_shared : (deck : Deck) (s : ℕ) → (first_node deck s).shared ≡ []
unfolding first_node
first_shared deck s = refl

first_outbox : (deck : Deck) (s : ℕ) → (first_node deck s).outbox ≡ []
unfolding first_node
first_outbox deck s = refl

first_here : (deck : Deck) (s : ℕ) (t : TaskId) → is_home_at deck s t ≡ true
    → is_task (first_node deck s).tasks t ≡ true
unfolding first_node
first_here deck s t h =
    let is_system : t.system.0 ≡ s = eqb-true _ _ (and_parts _ _ h).0 in
    let ls = some_of (lines_of deck t) (and_parts _ _ h).1 in
    let script = script_at deck.lists t (slice_get (scripts_of deck t.system.0) t.task) ls.0 ls.1 in
    let at : slice_get (scripts_of deck s) t.task ≡ Some script.0 =
    ap (λ n. slice_get (scripts_of deck n) t.task) (sym is_system) ∙ script.1 in
    let within : nat_lt t.task (length (new_tasks (length (scripts_of deck s)))) ≡ true =
    ap (nat_lt t.task) (length-new_tasks (length (scripts_of deck s)))
    ∙ lt-ltb _ _ (slice_get_within (scripts_of deck s) t.task script.0 at) in
    let system : (s == t.system.0) ≡ true = eq-eqb _ _ (sym is_system) in
    rw (system, within) refl

new_here : (deck : Deck) (t : TaskId) (ls : List Meaning)
    → IsHere deck (record { later = []; out = []; all = [] }) [] [] t ls new_task
new_here deck t ls = record {
  known = record { behind = false; owns = λ r. false };
  knows = record {
    right = record { waits = λ e. absurd (cc); owned = λ r e. absurd (cc); given = tt };
    request = tt;
    live = refl;
  };
  due = refl;
  task = record {
    keys = refl;
    owned = λ r e. cc;
    distinct = refl;
    within = omega arith;
    count = λ e. refl;
    records = tt;
    codes = refl;
    posts = refl;
    phase = record { going = record { no_code = refl; no_end = refl }; free = tt; passed = refl };
    shown = refl;
    emptied = λ e. refl;
  };
  opened = tt;
  looks = tt;
  asked = tt;
  sent = refl;
}

first_good : (deck : Deck) (s : ℕ)
    → IsGood deck s (record { later = []; out = []; all = [] }) [] (first_node deck s).tasks
first_good deck s = record {
  tasks = record {
    each = λ t ls o.
        subst (λ T.
        IsHere deck (record { later = []; out = []; all = [] }) [] T t ls (state_of (first_node deck s).tasks t))
        (sym (first_told deck s))
        (subst (λ x. IsHere deck (record { later = []; out = []; all = [] }) [] [] t ls x) (sym (first_state deck s t))
        (new_here deck t ls));
  };
  here = first_here deck s;
  system = first_system deck s;
}

-- a system at the start
pub first_seen : (deck : Deck) (s : ℕ) → Seen deck s [] [] [] [] (first_node deck s)
first_seen deck s = record {
  good =
      subst (λ qs. IsGood deck s (record { later = []; out = []; all = qs }) [] (first_node deck s).tasks)
      (sym (first_outbox deck s)) (first_good deck s);
  own = first_own deck s;
  shared = first_shared deck s;
  homes = ap (list_all (λ (q : Req). is_home_at deck s q.task)) (first_outbox deck s);
  apart = ap (λ qs. stand_apart (askers qs)) (first_outbox deck s);
}
