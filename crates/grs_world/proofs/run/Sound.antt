-- One event of a run in ring mode, and when a run is sound.
use Rattle.grs_world.proofs.Common.{[], ◌++◌, ◌+◌, ◌-◌, ◌∙◌, ◌∷◌, ◌≡◌, ap, append-nil, Bodies, Bool, counted, Deck}
use Rattle.grs_world.proofs.Common.{desk_told, Event, false, filter, first_medium, first_world, Fixed, fixed_by}
use Rattle.grs_world.proofs.Common.{happens, has, history, is_line_of, IsHistory, items, items_are_history, length}
use Rattle.grs_world.proofs.Common.{lines_of, List, list_any, live, map, may_go, MediumState, most_additions, NodeState}
use Rattle.grs_world.proofs.Common.{only, OrdersFit, own_requests, placed, Purged, put_at, put_in, read_entries, refl}
use Rattle.grs_world.proofs.Common.{removes, Req, rounds, run, RunItem, Said, slice_get, Some, stays-task, stays-turned}
use Rattle.grs_world.proofs.Common.{Step, subst, sym, SysId, take, task_step, TaskId, ToldNews, true, turned_open}
use Rattle.grs_world.proofs.Common.{Turnout, unseen, World, ℕ}
use Rattle.rsa_message.proofs.Stands.{none}
use Rattle.grs_wire.specs.declared.request.Fixed.TheVariants.{Asked}
use Rattle.grs_legal.specs.Legal.{Legal}
use Rattle.grs_known.proofs.lists.Facts.{take-taken}
use Rattle.grs_world.proofs.run.First.{first_is}
use Rattle.grs_world.specs.Agree.{Sound}
use Rattle.grs_world.proofs.run.Messages.{message-same, message-turned, given-later}
use Rattle.grs_world.proofs.run.OfEvents.{told_of_events}
use Rattle.grs_world.proofs.run.Outcomes.{Outcome, quiet_outcome, still_outcome, turn_outcome, puts}
use Rattle.grs_world.proofs.run.Purging.{desk_world, removed_world, target-fits}
use Rattle.grs_world.proofs.run.Removals.{AreHome, gone_are_removed, removals_told}
use Rattle.grs_world.proofs.run.Runs.{GoodTold, GoodWorld, GoodMessage, push, told-counted, seen_at, message_log}
use Rattle.grs_world.proofs.run.Silent.{removed-silent}
use Rattle.grs_world.proofs.system.AtNode.{Seen, seen-known}
use Rattle.grs_world.proofs.system.Begun.{first_seen}
use Rattle.grs_world.proofs.system.Desks.{desk-told}
use Rattle.grs_world.proofs.system.First.{first_told}
use Rattle.grs_world.proofs.system.Quiet.{quiet}
use Rattle.grs_world.proofs.run.InRing.{removed_by, CameInRing, IsRing, changed, informed, live-there, no_such, nothing}
use Rattle.grs_world.proofs.run.InRing.{removes_one, turn, went_on}
use Rattle.grs_world.proofs.run.Desks.{EventTells, tells_no_such, tells_removed, tells_tasks}
use Rattle.grs_world.proofs.run.Growing.{fixeds, grows-items}
use Rattle.grs_wire.specs.declared.told.Said.TheVariants as saids
use Rattle.grs_wire.specs.declared.told.ToldLine.TheVariants as lines

-- ---- what a desk is told of a removal
pub desk-done : (n : NodeState) (said : Said) → (desk_told n said).done ≡ n.done + 1
unfolding desk_told
desk-done n said = refl

pub removed-told : (n : NodeState) (target : SysId)
    → (removed_by n target).node.tasks.told ≡ n.tasks.told ++ lines.Desk (n.done + 1) saids.VaryDone ∷ []
unfolding removed_by
removed-told n target = desk-told n saids.VaryDone

pub removed-done : (n : NodeState) (target : SysId) → (removed_by n target).node.done ≡ n.done + 1
unfolding removed_by
removed-done n target = desk-done n saids.VaryDone

pub removed-fixed : (n : NodeState) (target : SysId) → (removed_by n target).fixed ≡ Purged target ∷ []
unfolding removed_by
removed-fixed n target = refl

-- ---- one event, behind which the medium is still in ring mode
module _ (deck : Deck) (es : List Event) (e : Event) (ring : IsRing deck (run deck es))
    (g : GoodWorld deck es (run deck es)) where
  abbrev c : SysId
  c = e.system

  abbrev w : World
  w = run deck es

  abbrev Good : World → Type 0
  Good x = GoodWorld deck (es ++ e ∷ []) x

  -- an event that is only counted
  pub good_counted : Good (counted w)
  good_counted = record {
    history = g.history;
    told = told-counted deck es e w g.told;
    before = g.before;
    later = g.later;
    whole = g.whole;
    message = g.message;
    systems = g.systems;
  }

  module _ (n : NodeState) (at : slice_get (run deck es).nodes e.system.0 ≡ Some n)
      (alive : has (run deck es).medium.removed e.system.0 ≡ false) where
    abbrev s : ℕ
    s = e.system.0

    abbrev P : List RunItem
    P = items (run deck es).fixed

    -- it is live
    lives : has (live w.medium) e.system.0 ≡ true
    lives = live-there deck w ring s n at alive

    seen :
        Seen deck e.system.0 P (g.before e.system.0) (g.later e.system.0) (own_requests e.system.0 (g.later e.system.0))
        n
    seen = g.systems s n at lives

    -- the world after this came of the event
    abbrev Leads : Turnout → Type 0
    Leads o =
        happens deck (run deck es) e ≡ placed (run deck es) e.system n o → Good (placed (run deck es) e.system n o)

    -- nothing was put into the message
    quiet_push : (m : MediumState) (st : Step) → m.message ≡ w.medium.message → live m ≡ live w.medium
        → Outcome deck e.system P n (g.before e.system.0) (g.later e.system.0) [] st
        → Leads (record { medium = m; step = st })
    quiet_push m st same alive o is =
        push deck es e g n at m (g.before s) (g.later s) [] st o is alive
        (message-same w.medium m (message_log P) g.before s same alive g.message)

    nothing_outcome : Outcome deck e.system P n (g.before e.system.0) (g.later e.system.0) [] (only n)
    nothing_outcome = still_outcome deck c P (g.before s) (g.later s) g.history (g.whole s) n n refl seen

    task_outcome : (t : TaskId) → may_go deck n t ≡ true
        → Outcome deck e.system P n (g.before e.system.0) (g.later e.system.0) []
        (task_step deck.limit n t (lines_of deck t))
    task_outcome t may =
        quiet_outcome deck c P (g.before s) (g.later s) g.history (g.whole s) n
        (task_step deck.limit n t (lines_of deck t))
        (quiet deck s c P (g.before s) (g.later s) (own_requests s (g.later s)) n t g.history seen
        may)

    task_done : (t : TaskId) → (task_step deck.limit n t (lines_of deck t)).node.done ≡ n.done
    task_done t = (stays-task deck.limit n t (lines_of deck t)).done

    given : Bodies (fixeds (g.later e.system.0)) (unseen e.system w.medium.message.entries)
    given = given-later w.medium c g.before (g.later s) P (g.whole s) lives g.message

    abbrev puts_new : List RunItem
    puts_new =
        (puts deck e.system P (g.before e.system.0) (g.later e.system.0) g.history (g.whole e.system.0) n
        (length (take most_additions n.outbox)) seen (unseen e.system (run deck es).medium.message.entries) given).new

    turned_outcome :
        Outcome deck e.system P n (rounds P) puts_new
        (map Asked (take (length (take most_additions n.outbox)) n.outbox))
        (put_in (read_entries deck n (unseen e.system w.medium.message.entries))
        (length (take most_additions n.outbox)))
    turned_outcome =
        turn_outcome deck c P (g.before s) (g.later s) g.history (g.whole s) n (length (take most_additions n.outbox))
        seen (unseen c w.medium.message.entries) given

    good_turn : (flags : ℕ)
        → Leads (record {
          medium =
              record w.medium {
                message = turned_open w.medium.message c (take most_additions n.outbox) (live w.medium) w.medium.rest;
                rest = flags;
              };
          step =
              put_in (read_entries deck n (unseen c w.medium.message.entries)) (length (take most_additions n.outbox));
        })
    good_turn flags is =
        let out : List Req = take most_additions n.outbox in
        let m : MediumState =
        record w.medium { message = turned_open w.medium.message c out (live w.medium) w.medium.rest; rest = flags } in
        push deck es e g n at m (rounds P) puts_new (map Asked (take (length out) n.outbox))
        (put_in (read_entries deck n (unseen c w.medium.message.entries)) (length out)) turned_outcome is refl
        (subst (λ qs. GoodMessage m (message_log P ++ map Asked qs) (seen_at (put_at g.before s (rounds P))))
        (sym (take-taken most_additions n.outbox))
        (message-turned w.medium m c out w.medium.rest g.before g.later P g.whole refl refl g.message))

    -- it is told which systems were removed
    informed_outcome : (known : ℕ) →
        Outcome deck e.system P n (g.before e.system.0) (g.later e.system.0) [] (only (record n { known = known }))
    informed_outcome known =
        still_outcome deck c P (g.before s) (g.later s) g.history (g.whole s) n (record n { known = known }) refl
        (seen-known deck s P (g.before s) (g.later s) (own_requests s (g.later s)) n known seen)

    -- whatever came of it, but the change to star mode
    pub good_came : (o : Turnout) → CameInRing deck w e.system n o → o.medium.star ≡ false
        → GoodTold deck (es ++ e ∷ []) (placed w e.system n o) → Leads o
    good_came o (nothing flags) mode told =
        quiet_push (record w.medium { rest = flags }) (only n) refl refl nothing_outcome
    good_came o (went_on t may) mode told =
        quiet_push w.medium (task_step deck.limit n t (lines_of deck t)) refl refl (task_outcome t may)
    good_came o (turn flags here) mode told = good_turn flags
    good_came o (changed next idle) mode told = absurd (cc)
    good_came o (informed known) mode told =
        quiet_push w.medium (only (record n { known = known })) refl refl (informed_outcome known)
    good_came o (removes_one target next there) mode
        told = λ is. removed_world deck es e ring g n at alive target next there told
    good_came o (no_such target next gone) mode
        told = λ is. desk_world deck es e ring g n at alive saids.VaryNoSuch told

    -- what it tells
    tells : (m : MediumState) (st : Step) (before' later' : List RunItem) (out : List Fixed) → m.star ≡ w.medium.star
        → st.node.done ≡ n.done → Outcome deck e.system P n before' later' out st
        → EventTells deck e.system (history (items (w.fixed ++ fixed_by e.system st.fixed))) st.fixed n st.node
        w.medium.star m.star
    tells m st before' later' out mode done o =
        tells_tasks (subst (λ U. ToldNews deck c.0 (history U) n.tasks.told st.node.tasks.told)
        (sym (grows-items w.fixed o.grows)) o.news)
        done mode

    pub came_tells : (o : Turnout) → CameInRing deck w e.system n o → o.medium.star ≡ false
        → EventTells deck e.system (history (items (w.fixed ++ fixed_by e.system o.step.fixed))) o.step.fixed n
        o.step.node w.medium.star o.medium.star
    came_tells o (nothing flags) mode =
        tells (record w.medium { rest = flags }) (only n) (g.before s) (g.later s) [] refl refl nothing_outcome
    came_tells o (went_on t may) mode =
        tells w.medium (task_step deck.limit n t (lines_of deck t)) (g.before s) (g.later s) [] refl (task_done t)
        (task_outcome t may)
    came_tells o (turn flags here) mode =
        tells o.medium o.step (rounds P) puts_new (map Asked (take (length (take most_additions n.outbox)) n.outbox))
        refl (stays-turned deck n (unseen c w.medium.message.entries) (length (take most_additions n.outbox))).done
        turned_outcome
    came_tells o (changed next idle) mode = absurd (cc)
    came_tells o (informed known) mode =
        tells w.medium (only (record n { known = known })) (g.before s) (g.later s) [] refl refl
        (informed_outcome known)
    came_tells o (removes_one target next there) mode =
        tells_removed target next (removed-told n target) (removed-done n target) refl (removed-fixed n target)
    came_tells o (no_such target next gone) mode =
        tells_no_such target next (desk-told n saids.VaryNoSuch) (desk-done n saids.VaryNoSuch) refl (λ fit.
        ap (λ gs. list_any (removes target) (history (items gs))) (append-nil w.fixed)
        ∙ gone_are_removed deck es target (target-fits deck n target fit next).0 gone)

-- ---- the first world
pub first_message : (deck : Deck)
    → GoodMessage (first_medium (length deck.systems) deck.entries deck.star) [] (seen_at (λ u. []))
first_message deck = go deck.star
  where
    go : (b : Bool) → GoodMessage (first_medium (length deck.systems) deck.entries b) [] (seen_at (λ u. []))
    go true = record { stands = none; next = refl }
    go false = record { stands = none; next = refl }

pub first_good_told : (deck : Deck) → GoodTold deck [] (first_world deck)
unfolding first_world
first_good_told deck = record {
  counted = refl;
  by_now = tt;
  agree = λ fit. tt;
  lines = λ s n h.
      ap (λ (m : NodeState). filter (is_line_of s) m.tasks.told) (first_is deck s n h)
      ∙ ap (filter (is_line_of s)) (first_told deck s);
}

pub first_history : (deck : Deck) → IsHistory deck []
first_history deck = record { made = tt; count = tt; asks = tt; stand = refl; legal = λ fit. tt }

pub first_good : (deck : Deck) → GoodWorld deck [] (first_world deck)
unfolding first_world
first_good deck = record {
  history = first_history deck;
  told = first_good_told deck;
  before = λ u. [];
  later = λ u. [];
  whole = λ u. refl;
  message = first_message deck;
  systems = λ s n h lives.
      subst (λ (m : NodeState). Seen deck s [] [] [] [] m) (sym (first_is deck s n h)) (first_seen deck s);
}

-- ---- So a run is sound, if what was fixed makes a history, what was told agrees, and live systems show their numbers,
-- and the desks' commands are of other systems that are there.
pub sound-of : (deck : Deck) → OrdersFit deck → (es : List Event) → ((k : ℕ) → AreHome deck (take k es))
    → IsHistory deck (items (run deck es).fixed) → GoodTold deck es (run deck es) → Sound deck es
sound-of deck fit es home right told = record {
  legal = subst (Legal deck) (items_are_history (run deck es).fixed).0 (right.legal fit);
  agree = record {
    lines = told.agree fit;
    events = told_of_events deck es;
    removals = removals_told deck es home;
    silent = removed-silent deck es;
  };
}
