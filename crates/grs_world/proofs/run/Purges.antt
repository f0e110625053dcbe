-- What an event removes: nobody, or the system that its choice names, where the medium answers so. It needs nothing of
-- the run.
use Rattle.grs_world.proofs.Common.{[], ◌∷◌, ◌≡◌, ap, by_test, Choice, chosen, cond, decide_own, Deck, false, Fixed}
use Rattle.grs_world.proofs.Common.{has, has_most, is_for_all, length, lines_of, List, list_any, LocalLook, map}
use Rattle.grs_world.proofs.Common.{Meaning, MediumState, most_additions, next_order, NodeState, None, Option, Phase}
use Rattle.grs_world.proofs.Common.{purged, put_in, read_entries, Rec, refl, Req, request_of, res_wanted, Some}
use Rattle.grs_world.proofs.Common.{StarPart, state_of, subst, sym, SysId, take, TaskId, true, Turnout, unseen, Want}
use Rattle.grs_world.proofs.Common.{without_in_star, without_system, without_target, ℕ}
use Rattle.std.proofs.Common.{is_some}
use Rattle.grs_wire.specs.declared.request.Fixed.TheVariants.{Asked}
use Rattle.grs_medium.specs.Apply.{is_live}
use Rattle.grs_world.specs.Agree.{is_purge}
use Rattle.grs_world.proofs.run.Came.{Acts, Came, acted, acts-keep, already, began, changed, decided, informed}
use Rattle.grs_world.proofs.run.Came.{last_turn, left, no_such, parted, removes_one, removes_star, sent, settled, told}
use Rattle.grs_world.proofs.run.Came.{took, turn, went_on, Result}
use Rattle.grs_world.specs.Fixing.{at_once, fixed_at_end, fixed_by_line, fixed_by_task, fixed_in_phase}
use Rattle.grs_world.specs.Fixing.{fixed_when_ready}
use Rattle.grs_world.proofs.run.Fixing.{by_task, fixed-mail, may_go-task}
use Rattle.grs_world.proofs.run.Chosen.{came}
use Rattle.grs_legal.specs.declared.meaning.Meaning.TheVariants as lines
use Rattle.grs_wire.specs.declared.deck.Choice.TheVariants as choices
use Rattle.grs_wire.specs.declared.deck.Order.TheVariants as orders
use Rattle.grs_wire.specs.declared.request.Want.TheVariants as wants
use Rattle.task_state.specs.declared.state.Phase.TheVariants as phases
use Rattle.grs_world.proofs.run.Came as any

-- what was fixed removes nobody
abbrev pub RemovesNone : List Fixed → Type 0
RemovesNone fs = (s : SysId) → list_any (is_purge s) fs ≡ false

nothing : RemovesNone []
nothing s = refl

one_asked : (q : Req) → RemovesNone (Asked q ∷ [])
one_asked q s = refl

all_asked : (qs : List Req) → RemovesNone (map Asked qs)
all_asked [] s = refl
all_asked (q ∷ qs) s = all_asked qs s

-- ---- a task goes on
at_once-none : (t : TaskId) (w : Want) → RemovesNone (at_once t w)
at_once-none t w =
    by_test RemovesNone (is_for_all (res_wanted w)) [] (Asked (record { task = t; want = w }) ∷ []) (λ h. nothing)
    (λ h. one_asked (record { task = t; want = w }))

line-none : (limit : ℕ) (n : NodeState) (t : TaskId) (l : Meaning) → RemovesNone (fixed_by_line limit n t l)
line-none limit n t (lines.Enq r c ret unit) = at_once-none t (wants.Enq r c ret (has_most limit n.tasks t))
line-none limit n t (lines.Deq r have) = at_once-none t (wants.Deq r have)
line-none limit n t (lines.Wait r) = nothing
line-none limit n t (lines.Shows d) =
    by_test RemovesNone (is_some d.home) (LocalLook t d.filter ∷ []) [] (λ h s. refl) (λ h. nothing)
line-none limit n t lines.Nothing = nothing

end-none : (t : TaskId) (xs : List Rec) → RemovesNone (fixed_at_end t xs)
end-none t [] = nothing
end-none t (x ∷ xs) = at_once-none t (wants.Release x.res)

ready-none : (limit : ℕ) (n : NodeState) (t : TaskId) (l : Option Meaning) → RemovesNone (fixed_when_ready limit n t l)
ready-none limit n t None = end-none t (state_of n.tasks t).records
ready-none limit n t (Some l) = line-none limit n t l

phase-none : (limit : ℕ) (n : NodeState) (t : TaskId) (ls : List Meaning) (p : Phase)
    → RemovesNone (fixed_in_phase limit n t ls p)
phase-none limit n t ls phases.Ready = ready-none limit n t _
phase-none limit n t ls (phases.Ending c) = end-none t (state_of n.tasks t).records
phase-none limit n t ls phases.ToSend = nothing
phase-none limit n t ls phases.Sent = nothing
phase-none limit n t ls phases.HeldAnswer = nothing
phase-none limit n t ls (phases.HeldLine r) = nothing
phase-none limit n t ls phases.Ended = nothing

task-none : (limit : ℕ) (n : NodeState) (t : TaskId) (o : Option (List Meaning))
    → RemovesNone (fixed_by_task limit n t o)
task-none limit n t None = nothing
task-none limit n t (Some ls) = phase-none limit n t ls (state_of n.tasks t).phase

-- ---- what a system does by its part in star mode
by_acts :
    (deck : Deck) (m : MediumState) (s : SysId) (n : NodeState) (p : StarPart) (choice : Choice) (b : Result)
    (o : Turnout)
    → Acts deck m s n p choice b o → RemovesNone o.step.fixed
unfolding decide_own
by_acts deck m s n p choice b o (decided t a x asked to at same) = one_asked (request_of t a)
by_acts deck m s n p choice b o (began t a x asked none) = one_asked (request_of t a)
by_acts deck m s n p choice b o (sent t a x asked to at apart) = nothing
by_acts deck m s n p choice b o (took mail rest at) =
    subst RemovesNone (sym (fixed-mail deck n.known n.tasks p mail)) nothing
by_acts deck m s n p choice b o (settled q first) = one_asked q
by_acts deck m s n p choice b o (told e x first) = nothing
by_acts deck m s n p choice b o (parted e to owes unknown) = nothing
by_acts deck m s n p choice b o (left x flags free by) = nothing

-- ---- what an event comes to
pub data Removes (deck : Deck) (m : MediumState) (s : SysId) (n : NodeState) (choice : Choice) (o : Turnout) :
    Type 0 where
  nobody : o.medium.removed ≡ m.removed → RemovesNone o.step.fixed → Removes deck m s n choice o
  one : (target : SysId) → choice ≡ choices.Purge target → next_order deck n ≡ Some (orders.Vary target)
      → is_live m target ≡ true →
      o ≡ record { medium = without_target m s target; step = purged deck n (choices.Purge target) }
      → Removes deck m s n choice o

by_came : (deck : Deck) (m : MediumState) (s : SysId) (n : NodeState) (choice : Choice) (b : Result) (o : Turnout)
    → Came deck m s n choice b o → Removes deck m s n choice o
unfolding put_in
by_came deck m s n choice b o (any.nothing k r silent flags) = nobody refl nothing
by_came deck m s n choice b o (informed k) = nobody refl nothing
by_came deck m s n choice b o (went_on t may) =
    nobody refl (subst RemovesNone
    (sym (by_task deck.limit n t (may_go-task deck n t may) (lines_of deck t)))
    (task-none deck.limit n t (lines_of deck t)))
by_came deck m s n choice b o (turn flags alone unclosed here) =
    nobody refl (all_asked (take (length (take most_additions n.outbox))
    (read_entries deck n (unseen s m.message.entries)).outbox))
by_came deck m s n choice b o (last_turn flags alone shut here) = nobody refl nothing
by_came deck m s n choice b o (changed ring next seen) = nobody refl nothing
by_came deck m s n choice b o (already mode next) = nobody refl nothing
by_came deck m s n choice b o (removes_one target ring next lives) =
    one target refl next lives (ap
    (λ (k : MediumState). let z : Turnout = record { medium = k; step = purged deck n (choices.Purge target) } in z)
    (sym (ap (λ z. cond z (without_in_star m target) (without_system m s target)) ring)))
by_came deck m s n choice b o (removes_star target star next lives) =
    one target refl next lives (ap
    (λ (k : MediumState). let z : Turnout = record { medium = k; step = purged deck n (choices.Purge target) } in z)
    (sym (ap (λ z. cond z (without_in_star m target) (without_system m s target)) star)))
by_came deck m s n choice b o (no_such target next gone) = nobody refl nothing
by_came deck m s n choice b o (acted p is k r x acts) =
    nobody (acts-keep deck m s n p k r x acts).removed (by_acts deck m s n p k r x acts)

pub what_removes : (deck : Deck) (m : MediumState) (s : SysId) (n : NodeState) → has m.removed s.0 ≡ false
    → (choice : Choice) → Removes deck m s n choice (chosen deck m s n choice)
what_removes deck m s n alive choice = by_came deck m s n choice _ _ (came deck m s n alive choice)
