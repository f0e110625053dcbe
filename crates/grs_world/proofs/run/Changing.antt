-- The change to star mode fixes nothing: neither a Switch, nor an event by which its system changes.
use Rattle.grs_world.proofs.Common.{[], ◌++◌, ◌||◌, ◌∙◌, ◌≡◌, ◌⊎◌, and_parts, ap, append-nil, Bool, Choice, Deck}
use Rattle.grs_world.proofs.Common.{desk_told, Event, false, first_world, fixed_by, happens, inl, inr, is_none, length}
use Rattle.grs_world.proofs.Common.{lines_of, List, MediumState, most_additions, NodeState, None, Option, placed}
use Rattle.grs_world.proofs.Common.{purged, refl, run, slice_get, Some, StarPart, stays-task, stays-turned, Step, sym}
use Rattle.grs_world.proofs.Common.{SysId, take, true, Turnout, unseen, World}
use Rattle.std.proofs.Common.{is_some}
use Rattle.grs_world.proofs.run.InRing.{purged-ring, removed_by}
use Rattle.grs_world.proofs.run.Placed.{fixed-placed, own-placed}
use Rattle.grs_world.specs.Changing.{ChangesFixNothing, has_moved, is_switch}
use Rattle.grs_world.proofs.run.Each.{run-push}
use Rattle.grs_world.proofs.run.Came.{Acts, Came, acted, already, began, changed, decided, informed, last_turn, left}
use Rattle.grs_world.proofs.run.Came.{no_part, no_such, nothing, parted, removes_one, removes_star, sent, settled, told}
use Rattle.grs_world.proofs.run.Came.{took, turn, went_on, Result}
use Rattle.grs_world.proofs.run.Chosen.{each_came}
use Rattle.grs_wire.specs.declared.deck.Choice.TheVariants as choices

module _ (deck : Deck) (m : MediumState) (s : SysId) (n : NodeState) where
  -- a Switch, in either mode
  switch-none : (choice : Choice) (b : Result) (o : Turnout) → Came deck m s n choice b o → is_switch choice ≡ true
      → o.step.fixed ≡ []
  switch-none choice b o (nothing k r silent flags) h = refl
  switch-none choice b o (informed k) h = refl
  switch-none choice b o (went_on t may) h = absurd (cc)
  switch-none choice b o (turn flags alone unclosed here) h = absurd (cc)
  switch-none choice b o (last_turn flags alone shut here) h = refl
  switch-none choice b o (changed ring next seen) h = refl
  switch-none choice b o (already mode next) h = refl
  switch-none choice b o (removes_one target ring next lives) h = absurd (cc)
  switch-none choice b o (removes_star target mode next lives) h = absurd (cc)
  switch-none choice b o (no_such target next gone) h = refl
  switch-none choice b o (acted p is k r x acts) h = by_acts k r x acts h
    where
      by_acts : (k : Choice) (r : Result) (x : Turnout) → Acts deck m s n p k r x → is_switch k ≡ true
          → x.step.fixed ≡ []
      by_acts k r x (decided t a e asked to at same) h = absurd (cc)
      by_acts k r x (began t a e asked none) h = absurd (cc)
      by_acts k r x (sent t a e asked to at apart) h = refl
      by_acts k r x (took mail rest at) h = absurd (cc)
      by_acts k r x (settled q first) h = absurd (cc)
      by_acts k r x (told e y first) h = refl
      by_acts k r x (parted e to owes unknown) h = refl
      by_acts k r x (left e flags free by) h = refl

  -- a system that hasn't changed still hasn't where it removed another one
  still-alone : (target : SysId) → n.star ≡ None → (purged deck n (choices.Purge target)).node.star ≡ None
  unfolding removed_by desk_told
  still-alone target alone = ap (λ (z : Step). z.node.star) (purged-ring deck n target alone) ∙ alone

  -- an event of a system that hasn't changed: it still hasn't, or nothing is fixed
  moves-free : (choice : Choice) (b : Result) (o : Turnout) → Came deck m s n choice b o → n.star ≡ None
      → (o.step.node.star ≡ None) ⊎ (o.step.fixed ≡ [])
  moves-free choice b o (nothing k r silent flags) alone = inr refl
  moves-free choice b o (informed k) alone = inr refl
  moves-free choice b o (went_on t may) alone = inl ((stays-task deck.limit n t (lines_of deck t)).star ∙ alone)
  moves-free choice b o (turn flags by unclosed here) alone =
      inl ((stays-turned deck n (unseen s m.message.entries) (length (take most_additions n.outbox))).star ∙ alone)
  moves-free choice b o (last_turn flags by shut here) alone = inr refl
  moves-free choice b o (changed ring next seen) alone = inr refl
  moves-free choice b o (already mode next) alone = inr refl
  moves-free choice b o (removes_one target ring next lives) alone = inl (still-alone target alone)
  moves-free choice b o (removes_star target mode next lives) alone = inl (still-alone target alone)
  moves-free choice b o (no_such target next gone) alone = inr refl
  moves-free choice b o (acted p is k r x acts) alone = no_part n p is alone

  fixes-none : (choice : Choice) (b : Result) (o : Turnout) → Came deck m s n choice b o
      → (is_switch choice || has_moved (Some n) (Some o.step.node)) ≡ true → o.step.fixed ≡ []
  fixes-none choice b x came h = by_choice (is_switch choice) refl h
    where
      st : Step
      st = x.step

      free : n.star ≡ None → (o : Option StarPart) → st.node.star ≡ o → is_some o ≡ true → st.fixed ≡ []
      free alone None is some = absurd (cc)
      free alone (Some p) is some = go (moves-free choice b x came alone)
        where
          go : (st.node.star ≡ None) ⊎ (st.fixed ≡ []) → st.fixed ≡ []
          go (inl none) = absurd (let no : Some p ≡ None = sym is ∙ none in cc)
          go (inr none) = none

      moved : (o : Option StarPart) → n.star ≡ o → is_none o ≡ true → is_some st.node.star ≡ true → st.fixed ≡ []
      moved None is none some = free is st.node.star refl some
      moved (Some p) is none some = absurd (cc)

      by_choice : (d : Bool) → is_switch choice ≡ d → (d || has_moved (Some n) (Some st.node)) ≡ true → st.fixed ≡ []
      by_choice true is k = switch-none choice b x came is
      by_choice false is k =
          let parts = and_parts (is_none n.star) (is_some st.node.star) k in moved n.star refl parts.0 parts.1

-- ---- in the world
next_none : (deck : Deck) (w : World) (e : Event)
    → (is_switch e.choice || has_moved (slice_get w.nodes e.system.0) (slice_get (happens deck w e).nodes e.system.0))
    ≡ true
    → (happens deck w e).fixed ≡ w.fixed
next_none deck w e =
    each_came deck w e (λ x.
    (is_switch e.choice || has_moved (slice_get w.nodes e.system.0) (slice_get x.nodes e.system.0)) ≡ true
    → x.fixed ≡ w.fixed)
    (λ h. refl)
    (λ n b o at alive came h.
    let none = fixes-none deck w.medium e.system n e.choice b o came
    (sym (ap (λ x. is_switch e.choice || has_moved x (slice_get (placed w e.system n o).nodes e.system.0)) at
    ∙ ap (λ x. is_switch e.choice || has_moved (Some n) x) (own-placed w e.system n o at))
    ∙ h) in
    fixed-placed w e.system n o ∙ (ap (λ fs. w.fixed ++ fixed_by e.system fs) none ∙ append-nil w.fixed))

pub changes_none : (deck : Deck) (es : List Event) (next : Event) → ChangesFixNothing deck es next
changes_none deck es next =
    let is = run-push deck es (first_world deck) next in
    λ h.
    ap (λ (x : World). x.fixed) is
    ∙ next_none deck (run deck es) next (sym (ap (λ (x : World).
    is_switch next.choice || has_moved (slice_get (run deck es).nodes next.system.0) (slice_get x.nodes next.system.0))
    is)
    ∙ h)
