-- A request comes back last: the message goes round in each world that a run reaches, so what an event gives a system
-- of its own is left to it alone.
use Rattle.grs_world.proofs.Common.{[], ◌&&◌, ◌++◌, ◌<◌, ◌∙◌, ◌∷◌, ◌≡◌, Act, and_parts, and_right, any_unseen, ap}
use Rattle.grs_world.proofs.Common.{arith, Bool, by_test, Call, Choice, closed_by, cond, Deck, departed, dropped, Event}
use Rattle.grs_world.proofs.Common.{false, first_medium, first_number, first_world, happens, has, has-live}
use Rattle.grs_world.proofs.Common.{has-with_other, has-with_same, inbox, interest, leave_reply, leave_row, length}
use Rattle.grs_world.proofs.Common.{List, live, ltb-true, Mail, mail_row, medium_at_end, MediumState, Message}
use Rattle.grs_world.proofs.Common.{most_additions, nat_lt, never_opened, no_truth, NodeState, None, not, Nothing}
use Rattle.grs_world.proofs.Common.{opened, Option, prepare, Prepared, purge_row, Quiet, refl, Reply, Req, Request}
use Rattle.grs_world.proofs.Common.{rest_row, RingEntry, route, row, run, slice_get, Some, stands_at, submit_row, subst}
use Rattle.grs_world.proofs.Common.{switch_row, sym, SysId, take_row, true, turn_reply, turn_row, turned, turned_closed}
use Rattle.grs_world.proofs.Common.{turned_open, Turnout, unseen, WaitsForLive, with_also, without_system}
use Rattle.grs_world.proofs.Common.{without_target, World, ℕ}
use Rattle.grs_medium.specs.Medium.{all_rest, word}
use Rattle.grs_wire.specs.Masks.{others}
use Rattle.grs_wire.specs.LockWords.{is_kept}
use Rattle.grs_medium.specs.Apply.{resting, is_live, is_noticed, manages, notice_reply, submit_on, switch_ring}
use Rattle.grs_medium.specs.Apply.{take_from}
use Rattle.std.specs.Prelude.{◌≢◌, take}
use Rattle.grs_wire.specs.declared.medium.Act.TheVariants.{Turn, Rest, Switch, Submit, Take, Settle, Tell, Leave, Purge}
use Rattle.grs_wire.specs.declared.medium.Reply.TheVariants.{Turned, NotYours, Resting, Over, Already, Kept, Left}
use Rattle.grs_wire.specs.declared.medium.Reply.TheVariants.{NoSuch, Purged, Yours, Old}
use Rattle.rsa_message.proofs.OrderLaws.{stands_at-exact}
use Rattle.grs_world.proofs.run.Each.{each_answer, each_run}
use Rattle.grs_world.specs.Laps.{OnlyLeft, ComesBackLast, given_by, given_when, given_at, ProcessedLast}
use Rattle.grs_world.proofs.message.LapsMessage.{Round, left_at_home, last_at_home, unseen_awaited, closed_round}
use Rattle.grs_world.proofs.message.LapsMessage.{closed_turn, departed_round, dropped_round, none_unseen, open_round}
use Rattle.grs_medium.proofs.GoesOn.{masks_of}
use Rattle.grs_world.proofs.run.Waits.{run_waits}
use Rattle.lock_structure.specs.declared.word.Route.{Route}
use Rattle.grs_world.proofs.run.InRing.{CameInRing, IsRing, changed, informed, is_ring, live-there, no_such, nothing}
use Rattle.grs_world.proofs.run.InRing.{removes_one, star-stays, turn, went_on, medium_in_ring}
use Rattle.grs_world.proofs.run.Came.{Came, Result, acts-keep}
use Rattle.grs_world.proofs.run.Chosen.{each_came}
use Rattle.grs_world.proofs.run.Placed.{of_medium}
use Rattle.lock_structure.specs.declared.word.Route.TheVariants as routes
use Rattle.grs_world.proofs.run.Came as any

-- This holds of the medium in a run of so many systems.
pub record Goes (count : ℕ) (m : MediumState) : Type 0 where
  -- The message goes round.
  pub round : Round m.message (live m)
  -- In star mode it is closed.
  pub closed : m.star ≡ true → m.message.closed ≡ true
  -- It goes round so many systems.
  pub around : m.message.systems ≡ count

-- ---- at the start
closed_at_start : (n : ℕ) → Round (never_opened n) (others n 0)
unfolding any_unseen
closed_at_start n = record {
  shut = λ e u low h. absurd cc;
  inside = λ h e. absurd cc;
  awaited = λ h e. absurd cc;
  ends = tt;
}

open_at_start : (n : ℕ) → Round (opened n) (others n 0)
unfolding any_unseen
open_at_start n = record {
  shut = λ e. absurd cc;
  inside = λ h e some. let zero_at : h.0 ≡ 0 = cc in omega arith;
  awaited = λ h e. tt;
  ends = tt;
}

goes_at_start : (n entries : ℕ) (star : Bool) → Goes n (first_medium n entries star)
goes_at_start n entries false = record { round = open_at_start n; closed = λ e. absurd cc; around = refl }
goes_at_start n entries true = record { round = closed_at_start n; closed = λ e. refl; around = refl }

begun : (deck : Deck) → Goes (length deck.systems) (first_world deck).medium
unfolding first_world
begun deck = goes_at_start (length deck.systems) deck.entries deck.star

-- ---- one event more
-- A Turn at the closed message.
pub turned_shut : (m : Message) (c : SysId) (out : List Req) (live rest : ℕ) → m.closed ≡ true
    → turned m c out live rest ≡ cond (stands_at m.holder c) (turned_closed m c) m
unfolding turned
turned_shut m c out live rest shut =
    ap (λ b. cond (stands_at m.holder c) (cond b (turned_closed m c) (turned_open m c out live rest)) m) shut

-- the systems that are live once a live one is removed
module _ (m : MediumState) (target : SysId) where
  abbrev now : ℕ
  now = others m.message.systems (with_also m.removed target.0)

  gone_now : has now target.0 ≡ false
  gone_now =
      has-live m.message.systems (with_also m.removed target.0) target.0
      ∙ and_right (nat_lt target.0 m.message.systems) (not (has (with_also m.removed target.0) target.0))
      (ap not (has-with_same m.removed target.0))

  same_now : (u : ℕ) → u ≢ target.0 → has now u ≡ has (live m) u
  same_now u ne =
      has-live m.message.systems (with_also m.removed target.0) u
      ∙ (ap (λ b. nat_lt u m.message.systems && not b) (has-with_other m.removed target.0 u ne)
      ∙ sym (has-live m.message.systems m.removed u))

star_goes : (deck : Deck) (w : World) (e : Event) → w.medium.star ≡ true → Goes (length deck.systems) w.medium
    → Goes (length deck.systems) (happens deck w e).medium
unfolding departed
star_goes deck w e star g =
    each_came deck w e (λ (x : World). Goes (length deck.systems) x.medium)
    (record { round = g.round; closed = g.closed; around = g.around })
    (λ n b o at alive came.
    of_medium w e.system n o (Goes (length deck.systems)) (by_case n e.choice b o came))
  where
    m : MediumState
    m = w.medium

    by_case : (n : NodeState) (choice : Choice) (b : Result) (o : Turnout) → Came deck w.medium e.system n choice b o
        → Goes (length deck.systems) o.medium
    by_case n choice b o (any.nothing k r silent flags) =
        record { round = g.round; closed = g.closed; around = g.around }
    by_case n choice b o (any.informed k) = g
    by_case n choice b o (any.went_on t may) = g
    by_case n choice b o (any.turn flags alone unclosed here) = no_truth m.message.closed (g.closed star) unclosed
    by_case n choice b o (any.last_turn flags alone shut here) = record {
      round = closed_turn m.message e.system (live m) g.round (stands_at-exact m.message.holder e.system here) shut;
      closed = λ z. shut;
      around = g.around;
    }
    by_case n choice b o (any.changed ring next seen) = no_truth m.star star ring
    by_case n choice b o (any.already mode next) = g
    by_case n choice b o (any.removes_one target ring next lives) = no_truth m.star star ring
    by_case n choice b o (any.removes_star target mode next lives) = record {
      round =
          departed_round m.message target (live m) (now m target) g.round (g.closed star) (gone_now m target)
          (same_now m target);
      closed = λ z. g.closed star;
      around = g.around;
    }
    by_case n choice b o (any.no_such target next gone) = g
    by_case n choice b o (any.acted p is k r x acts) =
        let kept = acts-keep deck m e.system n p k r x acts in
        let same : live o.medium ≡ live m =
        ap (λ (z : Message). others z.systems o.medium.removed) kept.message
        ∙ ap (others m.message.systems) kept.removed
        in
        record {
          round =
              subst (Round o.medium.message) (sym same)
              (subst (λ (z : Message). Round z (live m)) (sym kept.message) g.round);
          closed = λ z. ap (λ (x : Message). x.closed) kept.message ∙ g.closed star;
          around = ap (λ (x : Message). x.systems) kept.message ∙ g.around;
        }

ring_goes : (deck : Deck) (w : World) (e : Event) → IsRing deck w → WaitsForLive w.medium
    → Goes (length deck.systems) w.medium → Goes (length deck.systems) (happens deck w e).medium
unfolding closed_by dropped
ring_goes deck w e ring waits g =
    medium_in_ring deck w e (Goes (length deck.systems)) ring g
    (λ n o at alive came. by_case n o (live-there deck w ring e.system.0 n at alive) came)
  where
    below : (u : ℕ) → has (live w.medium) u ≡ true → u < w.medium.message.systems
    below u h =
        ltb-true u w.medium.message.systems (and_parts (nat_lt u w.medium.message.systems)
        (not (has w.medium.removed u)) (sym (has-live w.medium.message.systems w.medium.removed u) ∙ h)).0

    -- a system is removed
    without_one : (target : SysId) → Goes (length deck.systems) (without_system w.medium e.system target)
    without_one target = record {
      round =
          dropped_round w.medium.message e.system target (live w.medium) (now w.medium target) g.round
          (masks_of w.medium waits) ring.unclosed (gone_now w.medium target) (same_now w.medium target);
      closed = λ z. absurd (let no : true ≡ false = sym z ∙ ring.mode in cc);
      around = g.around;
    }

    by_case : (n : NodeState) (o : Turnout) → has (live w.medium) e.system.0 ≡ true → CameInRing deck w e.system n o
        → Goes (length deck.systems) o.medium
    by_case n o alive (nothing flags) = record { round = g.round; closed = g.closed; around = g.around }
    by_case n o alive (went_on t may) = g
    by_case n o alive (informed known) = g
    by_case n o alive (no_such target next gone) = g
    by_case n o alive (removes_one target next there) = without_one target
    by_case n o alive (turn flags here) = record {
      round =
          open_round w.medium.message e.system (take most_additions n.outbox) (live w.medium) w.medium.rest g.round
          (masks_of w.medium waits) below (stands_at-exact w.medium.message.holder e.system here) ring.unclosed;
      closed = λ z. absurd (let no : true ≡ false = sym z ∙ ring.mode in cc);
      around = g.around;
    }
    by_case n o alive (changed next idle) = record {
      round =
          closed_round w.medium.message e.system (live w.medium) g.round (masks_of w.medium waits)
          (none_unseen e.system w.medium.message.entries idle);
      closed = λ z. refl;
      around = g.around;
    }

pub goes : (deck : Deck) → deck.star ≡ false → (es : List Event) → Goes (length deck.systems) (run deck es).medium
goes deck h = each_run deck (λ es (w : World). Goes (length deck.systems) w.medium) (begun deck) step
  where
    step : (es : List Event) (e : Event) → Goes (length deck.systems) (run deck es).medium
        → Goes (length deck.systems) (happens deck (run deck es) e).medium
    step es e g = go (run deck es).medium.star refl
      where
        go : (b : Bool) → (run deck es).medium.star ≡ b
            → Goes (length deck.systems) (happens deck (run deck es) e).medium
        go true is = star_goes deck (run deck es) e is g
        go false is = ring_goes deck (run deck es) e (is_ring deck h es is) (run_waits deck es) g

-- So it is of a deck that begins in star mode, which stays in it.
pub stays_star : (deck : Deck) → deck.star ≡ true → (es : List Event)
    → ((run deck es).medium.star ≡ true) × Goes (length deck.systems) (run deck es).medium
unfolding first_world
stays_star deck h =
    each_run deck (λ es w. (w.medium.star ≡ true) × Goes (length deck.systems) w.medium) (h, begun deck)
    (λ es e g. (star-stays deck (run deck es) e g.0, star_goes deck (run deck es) e g.0 g.1))

pub goes_on : (deck : Deck) (es : List Event) → Goes (length deck.systems) (run deck es).medium
goes_on deck es = go deck.star refl
  where
    go : (b : Bool) → deck.star ≡ b → Goes (length deck.systems) (run deck es).medium
    go true h = (stays_star deck h es).1
    go false h = goes deck h es

pub comes_back_last : ComesBackLast
comes_back_last deck h es = last_at_home (run deck es).medium.message (live (run deck es).medium) (goes deck h es).round

-- ---- what the next event gives
-- Of these entries a system's own are left to it alone.
abbrev Gives : SysId → List RingEntry → Type 0
Gives s es =
    (before behind : List RingEntry) (entry : RingEntry) (q : Req) → es ≡ before ++ entry ∷ behind
    → entry.body ≡ Request q → entry.from ≡ s → OnlyLeft s entry

no_gift : (s : SysId) → Gives s []
no_gift s [] behind entry q is body from = absurd cc
no_gift s (x ∷ before) behind entry q is body from = absurd cc

turn_gift : (m : MediumState) (s : SysId) (out : List Req) → Round m.message (live m)
    → Gives s (given_by (row m s (Turn out)).0)
unfolding row turn_row turn_reply
turn_gift m s out round =
    by_test (λ r. Gives s (given_by r)) (stands_at m.message.holder s)
    (Turned (unseen s m.message.entries) (cond m.message.closed 0 (length out)) m.message.closed)
    (NotYours m.message.holder)
    (λ here before behind entry q is body from.
    left_at_home m.message.systems s (unseen s m.message.entries) before behind entry q
    (unseen_awaited m.message.systems s m.message.entries (round.awaited s (stands_at-exact m.message.holder s here)))
    is body from)
    (λ away. no_gift s)

-- What a notice answers gives none.
noticed_gift : (m : MediumState) (s : SysId) (entry : ℕ) (x : Reply × MediumState) → Gives s (given_by x.0)
    → Gives s (given_by (cond {A = Reply × MediumState} (is_noticed m s entry) (notice_reply m s entry, m) x).0)
noticed_gift m s entry x other = go (is_noticed m s entry) (manages m s entry)
  where
    go : (b d : Bool) → Gives s (given_by (cond {A = Reply × MediumState} b (cond d Yours Old, m) x).0)
    go true true = no_gift s
    go true false = no_gift s
    go false d = other

-- No other call gives any.
row_gift : (m : MediumState) (s : SysId) (act : Act) → Round m.message (live m) → Gives s (given_by (row m s act).0)
unfolding row switch_row submit_row take_row mail_row leave_row leave_reply purge_row rest_row
row_gift m s (Turn out) round = turn_gift m s out round
row_gift m s (Switch words) round = go m.star (first_number (unseen s m.message.entries))
  where
    go : (b : Bool) (o : Option ℕ)
        → Gives s (given_by (cond {A = Reply × MediumState} b (Already, m) (switch_ring m s words o)).0)
    go true o = no_gift s
    go false (Some first) = no_gift s
    go false None = no_gift s
row_gift m s (Submit entry q) round = noticed_gift m s entry _ (go (route (word m entry) s))
  where
    go : (r : Route) → Gives s (given_by (submit_on m s entry q r).0)
    go routes.Sole = no_gift s
    go (routes.To to) = no_gift s
row_gift m s Take round = go (inbox m s.0)
  where
    go : (ms : List Mail) → Gives s (given_by (take_from m s ms).0)
    go [] = no_gift s
    go (mail ∷ ms) = no_gift s
row_gift m s (Settle to mail) round = no_gift s
row_gift m s (Tell to mail) round = no_gift s
row_gift m s (Leave entry) round =
    noticed_gift m s entry _
    (by_test (λ r. Gives s (given_by r)) (is_kept (word m entry) s) (Kept (interest (word m entry))) Left
    (λ t. no_gift s) (λ t. no_gift s))
row_gift m s (Purge target) round =
    by_test {X = Reply × MediumState} (λ x. Gives s (given_by x.0)) (is_live m target)
    (Purged, without_target m s target) (NoSuch, m)
    (λ lives. no_gift s) (λ gone. no_gift s)
row_gift m s Rest round =
    by_test (λ r. Gives s (given_by r)) (all_rest (resting m s) && medium_at_end (resting m s)) Over Resting
    (λ t. no_gift s) (λ t. no_gift s)

prepared_gift : (m : MediumState) (s : SysId) (p : Prepared) → Round m.message (live m) → Gives s (given_when m s p)
prepared_gift m s Nothing round = no_gift s
prepared_gift m s Quiet round = no_gift s
prepared_gift m s (Call call) round =
    each_answer m s call (λ a. Gives s (given_by a.0)) (no_gift s) (no_gift s) (row_gift m s call.act round)

pub processed_last : (deck : Deck) → deck.star ≡ false → (es : List Event) (e : Event) → ProcessedLast deck es e
processed_last deck h es e = go (slice_get (run deck es).nodes e.system.0)
  where
    go : (n : Option NodeState) → Gives e.system (given_at deck (run deck es) e n)
    go None = no_gift e.system
    go (Some n) = prepared_gift (run deck es).medium e.system (prepare deck n e.choice) (goes deck h es).round
