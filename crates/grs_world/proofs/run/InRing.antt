-- A run of a deck in ring mode, as long as nobody has changed the mode: no system has a part in star mode, and the
-- message is open. Systems may be removed.
use Rattle.grs_world.proofs.Common.{[], ◌<◌, ◌∙◌, ◌∷◌, ◌≡◌, and_parts, ap, arith, awake, Bool, by_test, Choice}
use Rattle.grs_world.proofs.Common.{closed_by, cond, counted, Deck, departed, desk_told, dropped, Event, false}
use Rattle.grs_world.proofs.Common.{first_node, first_number, first_part, first_world, happens, has, has-live}
use Rattle.grs_world.proofs.Common.{known_from, length, length-set, lines_of, List, live, lives, losing, losing_in}
use Rattle.grs_world.proofs.Common.{lt-ltb, ltb-true, may_go, MediumState, members, Message, most_additions, nat_lt}
use Rattle.grs_world.proofs.Common.{never_opened, next_order, no_truth, NodeState, None, only, opened, own_words}
use Rattle.grs_world.proofs.Common.{placed, Purged, purged, put_in, read_entries, refl, replicate, Req, run, slice_get}
use Rattle.grs_world.proofs.Common.{slice_get_within, Some, stale, stands_at, stays-task, stays-turned, Step, subst}
use Rattle.grs_world.proofs.Common.{switched, sym, SysId, take, task_step, TaskId, true, turned, turned_closed}
use Rattle.grs_world.proofs.Common.{turned_open, Turnout, unseen, with_also, without_system, without_those, World, ℕ}
use Rattle.std.proofs.Common.{◌^◌}
use Rattle.grs_medium.specs.Apply.{is_live}
use Rattle.grs_world.proofs.run.First.{count_first, first_is}
use Rattle.grs_world.proofs.run.Placed.{by_node, of_medium, medium-placed, of_world}
use Rattle.grs_world.proofs.run.Each.{each_run}
use Rattle.grs_world.proofs.run.Came.{Came, acts-keep, no_part, Result}
use Rattle.grs_world.proofs.run.Chosen.{each_came}
use Rattle.std.proofs.lemmas.Nat.{or_lt, pow_below, pow_pos}
use Rattle.grs_world.proofs.run.Came as any
use Rattle.grs_wire.specs.declared.deck.Order.TheVariants as orders
use Rattle.grs_wire.specs.declared.deck.Choice.TheVariants as choices
use Rattle.grs_wire.specs.declared.told.Said.TheVariants as saids

-- What holds of the medium and each system then.
pub record IsRing (deck : Deck) (w : World) : Type 0 where
  pub mode : w.medium.star ≡ false
  pub unclosed : w.medium.message.closed ≡ false
  pub systems : length w.nodes ≡ length deck.systems
  pub around : w.medium.message.systems ≡ length deck.systems
  pub boxes : w.medium.inboxes ≡ replicate (length deck.systems) []
  pub alone : (s : ℕ) (n : NodeState) → slice_get w.nodes s ≡ Some n → n.star ≡ None
  pub within : w.medium.removed < 2 ^ length deck.systems

-- a set of so many systems with one more of them
also-within : (n m s : ℕ) → m < 2 ^ n → s < n → with_also m s < 2 ^ n
unfolding with_also
also-within n m s h below = or_lt n m (2 ^ s) h (pow_below s n below)

-- a system that is there is live where it wasn't removed
pub live-there : (deck : Deck) (w : World) → IsRing deck w → (s : ℕ) (n : NodeState) → slice_get w.nodes s ≡ Some n
    → has w.medium.removed s ≡ false → has (live w.medium) s ≡ true
live-there deck w g s n at alive =
    let here = slice_get_within w.nodes s n at in
    let below : nat_lt s w.medium.message.systems ≡ true =
    lt-ltb s w.medium.message.systems (omega (arith, here, g.systems, g.around)) in
    has-live w.medium.message.systems w.medium.removed s ∙ rw (below, alive) refl

-- who is live, as the run says it
pub live-is : (deck : Deck) (w : World) → IsRing deck w → (s : ℕ)
    → has (live w.medium) s ≡ lives (length w.nodes) w.medium.removed s
live-is deck w g s =
    has-live w.medium.message.systems w.medium.removed s
    ∙ ap (λ i. lives i w.medium.removed s) (g.around ∙ sym g.systems)

-- what the removal of a system leaves of the one whose desk removed it
unfoldable pub removed_by : NodeState → SysId → Step
removed_by n target = record {
  node = record (desk_told n saids.VaryDone) { known = with_also n.known target.0 };
  fixed = Purged target ∷ [];
}

-- ---- What came of an event of a system of the ring: nothing but a flag of rest, a task that went on, its Turn, the
-- change to star mode, or what has to do with removals: it was told who was removed, it removed another, or there was
-- no such system.
pub data CameInRing (deck : Deck) (w : World) (s : SysId) (n : NodeState) : Turnout → Type 0 where
  nothing : (flags : ℕ) → CameInRing deck w s n (record { medium = record w.medium { rest = flags }; step = only n })
  went_on : (t : TaskId) → may_go deck n t ≡ true
      → CameInRing deck w s n (record { medium = w.medium; step = task_step deck.limit n t (lines_of deck t) })
  turn : (flags : ℕ) → stands_at w.medium.message.holder s ≡ true →
      CameInRing deck w s n (record {
        medium =
            record w.medium {
              message = turned_open w.medium.message s (take most_additions n.outbox) (live w.medium) w.medium.rest;
              rest = flags;
            };
        step = put_in (read_entries deck n (unseen s w.medium.message.entries)) (length (take most_additions n.outbox));
      })
  changed : next_order deck n ≡ Some orders.Star → first_number (unseen s w.medium.message.entries) ≡ None →
      CameInRing deck w s n (record {
        medium =
            record w.medium {
              star = true;
              words = own_words deck n;
              message = closed_by w.medium.message s (live w.medium);
              rest = awake w.medium s;
            };
        step = only (switched deck n);
      })
  informed : (known : ℕ)
      → CameInRing deck w s n (record { medium = w.medium; step = only (record n { known = known }) })
  removes_one : (target : SysId) → next_order deck n ≡ Some (orders.Vary target) → is_live w.medium target ≡ true →
      CameInRing deck w s n
      (record { medium = without_system w.medium s target; step = removed_by n target })
  no_such : (target : SysId) → next_order deck n ≡ Some (orders.Vary target) → is_live w.medium target ≡ false →
      CameInRing deck w s n (record { medium = w.medium; step = only (desk_told n saids.VaryNoSuch) })

-- a system of the ring has no part to lose anything
pub purged-ring : (deck : Deck) (n : NodeState) (target : SysId) → n.star ≡ None
    → purged deck n (choices.Purge target) ≡ removed_by n target
unfolding purged losing desk_told removed_by
purged-ring deck n target alone =
    ap (λ o. let z : Step = record {
      node =
          losing_in deck (record (desk_told n saids.VaryDone) { known = with_also n.known target.0 }) o
          (target ∷ []);
      fixed = Purged target ∷ [];
    } in z)
    alone

pub told-ring : (deck : Deck) (n : NodeState) (set : ℕ) → n.star ≡ None
    → stale deck n set ≡ record n { known = known_from deck n.known set }
unfolding stale losing
told-ring deck n set alone =
    ap (λ o.
    losing_in deck (record n { known = known_from deck n.known set }) o
    (members (without_those n.known (known_from deck n.known set))))
    alone

in-ring : (deck : Deck) (w : World) → IsRing deck w → (s : SysId) (n : NodeState) → slice_get w.nodes s.0 ≡ Some n
    → (choice : Choice) (b : Result) (o : Turnout) → Came deck w.medium s n choice b o → CameInRing deck w s n o
in-ring deck w g s n at choice b o (any.nothing k r silent flags) = nothing flags
in-ring deck w g s n at choice b o (any.informed k) =
    subst (λ z. CameInRing deck w s n (record { medium = w.medium; step = only z }))
    (sym (told-ring deck n w.medium.removed (g.alone s.0 n at)))
    (informed (known_from deck n.known w.medium.removed))
in-ring deck w g s n at choice b o (any.went_on t may) = went_on t may
in-ring deck w g s n at choice b o (any.turn flags alone unclosed here) = turn flags here
in-ring deck w g s n at choice b o (any.last_turn flags alone shut here) =
    no_truth w.medium.message.closed shut g.unclosed
in-ring deck w g s n at choice b o (any.changed ring next seen) = changed next seen
in-ring deck w g s n at choice b o (any.already star next) = no_truth w.medium.star star g.mode
in-ring deck w g s n at choice b o (any.removes_one target ring next lives) =
    subst (λ z. CameInRing deck w s n (record { medium = without_system w.medium s target; step = z }))
    (sym (purged-ring deck n target (g.alone s.0 n at))) (removes_one target next lives)
in-ring deck w g s n at choice b o (any.removes_star target star next lives) = no_truth w.medium.star star g.mode
in-ring deck w g s n at choice b o (any.no_such target next gone) = no_such target next gone
in-ring deck w g s n at choice b o (any.acted p is k r x acts) = no_part n p is (g.alone s.0 n at)

-- What holds where an event is only counted, and whatever comes of it at a system, holds behind the event.
pub each_in_ring : (deck : Deck) (w : World) (e : Event) (P : World → Type 0) → IsRing deck w → P (counted w)
    → ((n : NodeState) (o : Turnout) → slice_get w.nodes e.system.0 ≡ Some n → has w.medium.removed e.system.0 ≡ false
    → CameInRing deck w e.system n o → P (placed w e.system n o))
    → P (happens deck w e)
each_in_ring deck w e P ring idle comes =
    each_came deck w e P idle (λ n b o at alive c.
    comes n o at alive (in-ring deck w ring e.system n at e.choice b o c))

-- What speaks of the medium alone.
pub medium_in_ring : (deck : Deck) (w : World) (e : Event) (P : MediumState → Type 0) → IsRing deck w → P w.medium
    → ((n : NodeState) (o : Turnout) → slice_get w.nodes e.system.0 ≡ Some n → has w.medium.removed e.system.0 ≡ false
    → CameInRing deck w e.system n o → P o.medium)
    → P (happens deck w e).medium
medium_in_ring deck w e P ring idle comes =
    each_in_ring deck w e (λ x. P x.medium) ring idle
    (λ n o at alive came. of_medium w e.system n o P (comes n o at alive came))

-- ---- one event more
module _ (deck : Deck) (w : World) (g : IsRing deck w) where
  pub ring-counted : IsRing deck (counted w)
  ring-counted = record {
    mode = g.mode;
    unclosed = g.unclosed;
    systems = g.systems;
    around = g.around;
    boxes = g.boxes;
    alone = g.alone;
    within = g.within;
  }

  pub ring-placed : (c : SysId) (n : NodeState) → slice_get w.nodes c.0 ≡ Some n → (o : Turnout)
      → CameInRing deck w c n o
      → (placed w c n o).medium.star ≡ false → IsRing deck (placed w c n o)
  unfolding removed_by desk_told dropped
  ring-placed c n at o h mode = go o h (sym (ap (λ m. m.star) (medium-placed w c n o)) ∙ mode)
    where
      kept : (m : MediumState) (st : Step) → m.star ≡ false → m.message.closed ≡ false
          → m.message.systems ≡ length deck.systems → m.inboxes ≡ w.medium.inboxes → st.node.star ≡ n.star
          → m.removed < 2 ^ length deck.systems → IsRing deck (placed w c n (record { medium = m; step = st }))
      kept m st star shut around boxes same within =
          of_world w c n (record { medium = m; step = st }) (IsRing deck) (record {
            mode = star;
            unclosed = shut;
            systems = length-set w.nodes c.0 st.node ∙ g.systems;
            around = around;
            boxes = boxes ∙ g.boxes;
            alone =
                by_node w.nodes c.0 n st.node at (λ u k. k.star ≡ None) (same ∙ g.alone c.0 n at)
                (λ u k apart there. g.alone u k there);
            within = within;
          })

      with_target : (target : SysId) → is_live w.medium target ≡ true
          → with_also w.medium.removed target.0 < 2 ^ length deck.systems
      with_target target alive =
          also-within (length deck.systems) w.medium.removed target.0 g.within
          (subst (λ k. target.0 < k) g.around
          (ltb-true target.0 w.medium.message.systems
          (and_parts (nat_lt target.0 w.medium.message.systems) _ alive).0))

      go : (o : Turnout) → CameInRing deck w c n o → o.medium.star ≡ false → IsRing deck (placed w c n o)
      go o (nothing flags) h = kept o.medium o.step g.mode g.unclosed g.around refl refl g.within
      go o (went_on t may) h =
          kept o.medium o.step g.mode g.unclosed g.around refl (stays-task deck.limit n t (lines_of deck t)).star
          g.within
      go o (turn flags here) h =
          kept o.medium o.step g.mode g.unclosed g.around refl
          (stays-turned deck n (unseen c w.medium.message.entries) (length (take most_additions n.outbox))).star
          g.within
      go o (changed next seen) h = absurd (cc)
      go o (informed known) h = kept o.medium o.step g.mode g.unclosed g.around refl refl g.within
      go o (removes_one target next there) h =
          kept o.medium o.step g.mode g.unclosed g.around refl refl (with_target target there)
      go o (no_such target next gone) h = kept o.medium o.step g.mode g.unclosed g.around refl refl g.within

-- ---- once the medium is in star mode the mode stays, and the message changes by Turns, and where a system is removed
pub each_in_star : (deck : Deck) (w : World) (e : Event) → w.medium.star ≡ true → (P : Message → Bool → Type 0)
    → P w.medium.message w.medium.star
    → ((out : List Req) → P (turned w.medium.message e.system out (live w.medium) w.medium.rest) w.medium.star)
    → ((target : SysId) → P (departed w.medium.message target) w.medium.star) →
    P (happens deck w e).medium.message (happens deck w e).medium.star
unfolding turned
each_in_star deck w e star P same turns departs =
    each_came deck w e (λ (x : World). P x.medium.message x.medium.star) same
    (λ n b o at alive came. of_medium w e.system n o (λ z. P z.message z.star) (by_case n e.choice b o came))
  where
    m : MediumState
    m = w.medium

    -- what a Turn of a system at the message makes of it
    turns_to : (out : List Req) (d : Bool) → w.medium.message.closed ≡ d
        → stands_at w.medium.message.holder e.system ≡ true
        → P (cond d (turned_closed w.medium.message e.system)
        (turned_open w.medium.message e.system out (live w.medium) w.medium.rest))
        w.medium.star
    turns_to out d is here =
        subst (λ k. P k m.star)
        (ap (λ b.
        cond b (cond m.message.closed (turned_closed m.message e.system)
        (turned_open m.message e.system out (live m) m.rest))
        m.message)
        here
        ∙ ap (λ b.
        cond b (turned_closed m.message e.system) (turned_open m.message e.system out (live m) m.rest)) is)
        (turns out)

    by_case : (n : NodeState) (choice : Choice) (b : Result) (o : Turnout) → Came deck w.medium e.system n choice b o
        → P o.medium.message o.medium.star
    by_case n choice b o (any.nothing k r silent flags) = same
    by_case n choice b o (any.informed k) = same
    by_case n choice b o (any.went_on t may) = same
    by_case n choice b o (any.turn flags alone unclosed here) =
        turns_to (take most_additions n.outbox) false unclosed here
    by_case n choice b o (any.last_turn flags alone shut here) = turns_to [] true shut here
    by_case n choice b o (any.changed ring next seen) = no_truth m.star star ring
    by_case n choice b o (any.already k next) = same
    by_case n choice b o (any.removes_one target ring next lives) = no_truth m.star star ring
    by_case n choice b o (any.removes_star target k next lives) = departs target
    by_case n choice b o (any.no_such target next gone) = same
    by_case n choice b o (any.acted p is k r x acts) =
        let kept = acts-keep deck m e.system n p k r x acts in
        subst (λ z. P z o.medium.star) (sym kept.message) (subst (P m.message) (sym kept.star) same)

pub star-stays : (deck : Deck) (w : World) (e : Event) → w.medium.star ≡ true → (happens deck w e).medium.star ≡ true
star-stays deck w e star = each_in_star deck w e star (λ m b. b ≡ true) star (λ out. star) (λ target. star)

-- ---- at the start
no_first_part : (deck : Deck) → deck.star ≡ false → (s : ℕ) → (first_node deck s).star ≡ None
unfolding first_node
no_first_part deck h s = ap (λ (b : Bool). cond b (Some (first_part (record { 0 = s }) deck.entries)) None) h

pub first_ring : (deck : Deck) → deck.star ≡ false → IsRing deck (first_world deck)
unfolding first_world
first_ring deck h = record {
  mode = h;
  unclosed = ap (λ b. (cond b (never_opened (length deck.systems)) (opened (length deck.systems))).closed) h;
  systems = count_first deck 0 deck.systems;
  around =
      by_test (λ (m : Message). m.systems ≡ length deck.systems) deck.star (never_opened (length deck.systems))
      (opened (length deck.systems)) (λ e. refl) (λ e. refl);
  boxes = refl;
  alone = λ s n at.
      ap (λ (k : NodeState). k.star) (first_is deck s n at)
      ∙ no_first_part deck h s;
  within = pow_pos (length deck.systems);
}

-- ---- every list of events behind which the medium is still in ring mode
pub is_ring : (deck : Deck) → deck.star ≡ false → (es : List Event) → (run deck es).medium.star ≡ false
    → IsRing deck (run deck es)
is_ring deck h = each_run deck (λ es w. w.medium.star ≡ false → IsRing deck w) (λ mode. first_ring deck h) step
  where
    step : (es : List Event) (e : Event) → ((run deck es).medium.star ≡ false → IsRing deck (run deck es))
        → (happens deck (run deck es) e).medium.star ≡ false → IsRing deck (happens deck (run deck es) e)
    step es e more mode = go (run deck es).medium.star refl
      where
        w : World
        w = run deck es

        go : (b : Bool) → (run deck es).medium.star ≡ b → IsRing deck (happens deck (run deck es) e)
        go true at = absurd (let both : true ≡ false = sym (star-stays deck w e at) ∙ mode in cc)
        go false at =
            let k = more at in
            each_in_ring deck w e (λ x. x.medium.star ≡ false → IsRing deck x) k (λ z. ring-counted deck w k)
            (λ n o here alive c. ring-placed deck w k e.system n here o c) mode

-- A deck that begins in star mode stays in it, so a run that is in ring mode is one of these.
pub begins_ring : (deck : Deck) (es : List Event) → (run deck es).medium.star ≡ false → deck.star ≡ false
unfolding first_world
begins_ring deck es ring = go deck.star refl
  where
    in_star : deck.star ≡ true → (run deck es).medium.star ≡ true
    in_star h = each_run deck (λ us w. w.medium.star ≡ true) h (λ us e g. star-stays deck (run deck us) e g) es

    go : (b : Bool) → deck.star ≡ b → b ≡ false
    go true h = sym (in_star h) ∙ ring
    go false h = refl

pub open_ring : (deck : Deck) (es : List Event) → (run deck es).medium.star ≡ false
    → (run deck es).medium.message.closed ≡ false
open_ring deck es ring = (is_ring deck (begins_ring deck es ring) es ring).unclosed
