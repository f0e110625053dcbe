-- A lap ends, and leaves none of the entries that stood in the message before.
use Rattle.grs_world.proofs.Common.{[], ◌&&◌, ◌*◌, ◌++◌, ◌+◌, ◌-◌, ◌<◌, ◌∙◌, ◌∷◌, ◌≡◌, ◌≢◌, ◌≤◌, ◌⊎◌, and_parts, ap}
use Rattle.grs_world.proofs.Common.{arith, Bool, cond, Deck, Event, false, first_world, happens, has, has-live, inl}
use Rattle.grs_world.proofs.Common.{inr, is_live, is_turned, lap, length, List, live, live_below, lives, lt-ltb}
use Rattle.grs_world.proofs.Common.{ltb-true, Message, nat_lt, not, Option, or_left, or_right, refl, reply_of}
use Rattle.grs_world.proofs.Common.{RingEntry, run, run_from, same_Some, slice_index_or, Some, subst, suc, sym, SysId}
use Rattle.grs_world.proofs.Common.{true, true≢false, turn_of, turned_open, WaitsForLive, World, zero, ℕ}
use Rattle.grs_world.specs.Stopped.{AreAtMessage, LapsEnd, lap_from, left_behind, live_count, next_of, turned_in}
use Rattle.std.specs.Prelude.{Contains}
use native.Mathlib.Decide.{dec_lt}
use Rattle.grs_medium.proofs.GoesOn.{masks_of}
use Rattle.grs_medium.specs.Apply.{is_live as is_live_at}
use Rattle.grs_world.proofs.lap.Held.{AllHeld, Held, run_held}
use Rattle.grs_world.proofs.lap.Old.{old_unseen, waits_old}
use Rattle.grs_world.proofs.lap.Phases.{Done, Phase, begins, ends, turned_phase}
use Rattle.grs_world.proofs.lap.Turns.{Knows, TurnCame, served, told, turn_came, unremoved}
use Rattle.grs_world.proofs.run.Each.{run-push}
use Rattle.grs_world.proofs.run.InRing.{IsRing, begins_ring, is_ring, live-is}
use Rattle.grs_world.proofs.run.Waits.{run_waits}

-- ---- one of the entries
held_at : (n next : ℕ) (x : RingEntry) (es : List RingEntry) (k : ℕ) → k < length es → slice_index_or es k x ≡ x
    → AllHeld n next es → Held n next x
held_at n next x [] k l is all = absurd (omega (arith, l))
held_at n next x (e ∷ es) zero l is all = subst (Held n next) is all.0
held_at n next x (e ∷ es) (suc k) l is all = held_at n next x es k (omega (arith, l)) is all.1

old_at : (b u : ℕ) (x : RingEntry) (es : List RingEntry) (k : ℕ) → k < length es → slice_index_or es k x ≡ x
    → x.number < b → has x.mask u ≡ true → waits_old b u es ≡ true
old_at b u x [] k l is old h = absurd (omega (arith, l))
old_at b u x (e ∷ es) zero l is old h =
    or_left (nat_lt e.number b && has e.mask u) (waits_old b u es)
    (subst (λ (z : RingEntry). (nat_lt z.number b && has z.mask u) ≡ true) (sym is)
    (rw (lt-ltb x.number b old, h) refl))
old_at b u x (e ∷ es) (suc k) l is old h =
    or_right (nat_lt e.number b && has e.mask u) (waits_old b u es) (old_at b u x es k (omega (arith, l)) is old h)

-- ---- the Turns
-- From this world these events are the Turns that are left of a lap, of which so many get to the message; and then
-- nobody has still to process an entry with a number below b.
record Ended (deck : Deck) (b : ℕ) (w : World) (left : ℕ) (es : List Event) : Type 0 where
  stands : AreAtMessage deck w es
  turned : turned_in deck w es ≡ left
  gone : Done b (run_from deck w es).medium.message
  held :
      AllHeld (run_from deck w es).medium.message.systems (run_from deck w es).medium.message.next
      (run_from deck w es).medium.message.entries

-- There are Turns enough: two for each that is left, or one less where the next system knows which were removed.
abbrev Enough : ℕ → ℕ → World → Type 0
Enough most left w =
    (2 * left ≤ most) ⊎ ((2 * left ≤ suc most) × ((h : SysId) → w.medium.message.holder ≡ Some h → Knows w h))

module _ (deck : Deck) (removed b s : ℕ) where
  -- where a lap has come to
  record Along (us : List Event) (w : World) (left most : ℕ) : Type 0 where
    run_of : run deck us ≡ w
    mode : w.medium.star ≡ false
    fixed : w.medium.removed ≡ removed
    later : b ≤ w.medium.message.next
    low : s < w.medium.message.systems
    phase : Phase removed b s w.medium.message left
    enough : Enough most left w
    one : SysId
    alive : is_live w one ≡ true

  module _ (us : List Event) (w : World) (left most : ℕ) (a : Along us w left most) where
    ring : IsRing deck w
    ring =
        let mode : (run deck us).medium.star ≡ false = ap (λ (x : World). x.medium.star) a.run_of ∙ a.mode in
        subst (IsRing deck) a.run_of (is_ring deck (begins_ring deck us mode) us mode)

    waits : WaitsForLive w.medium
    waits = subst (λ (x : World). WaitsForLive x.medium) a.run_of (run_waits deck us)

    same_live : (h : SysId) → is_live_at w.medium h ≡ is_live w h
    same_live h = ap (λ k. lives k w.medium.removed h.0) (ring.around ∙ sym ring.systems)

    all_held : AllHeld w.medium.message.systems w.medium.message.next w.medium.message.entries
    all_held =
        let mode : (run deck us).medium.star ≡ false = ap (λ (x : World). x.medium.star) a.run_of ∙ a.mode in
        let there : has (live w.medium) (a.one).0 ≡ true = live-is deck w ring (a.one).0 ∙ a.alive in
        subst (λ (x : World). AllHeld x.medium.message.systems x.medium.message.next x.medium.message.entries) a.run_of
        (run_held deck us mode (a.one).0
        (subst (λ (x : World). has (live x.medium) (a.one).0 ≡ true) (sym a.run_of) there))

    old_there : (u : ℕ) → waits_old b u w.medium.message.entries ≡ true → has removed u ≡ false
    old_there u h =
        let alive = masks_of w.medium waits u (old_unseen b u w.medium.message.entries h) in
        let parts =
        and_parts (nat_lt u w.medium.message.systems) (not (has w.medium.removed u))
        (sym (has-live w.medium.message.systems w.medium.removed u) ∙ alive) in
        ap (λ r. has r u) (sym a.fixed) ∙ off (has w.medium.removed u) parts.1
      where
        off : (k : Bool) → not k ≡ true → k ≡ false
        off true e = absurd cc
        off false e = refl

    -- the system at which the message stands is live
    next : (h : SysId) × (w.medium.message.holder ≡ Some h) × (is_live w h ≡ true)
    next =
        let r = waits.holder a.one a.mode (same_live a.one ∙ a.alive) in (r.0, r.1, sym (same_live r.0) ∙ r.2)

  -- no Turn is left
  at_end : (us : List Event) (w : World) (most : ℕ) → Along us w 0 most → Ended deck b w 0 []
  at_end us w most a = record {
    stands = tt;
    turned = refl;
    gone = ends removed b s w.medium.message a.low (old_there us w 0 most a) a.phase;
    held = all_held us w 0 most a;
  }

  first_left : (k l : ℕ) → 2 * suc l ≤ suc k → 2 * l ≤ k
  first_left k l h = omega (arith, h)

  later_left : (k l : ℕ) → 2 * suc l ≤ suc (suc k) → 2 * l ≤ k
  later_left k l h = omega (arith, h)

  none_left : (l : ℕ) (w : World) → Enough 0 (suc l) w → ⊥
  none_left l w (inl h) = absurd (omega (arith, h))
  none_left l w (inr h) = absurd (let k = h.0 in omega (arith, k))

  lap_ended : (most left : ℕ) (us : List Event) (w : World) → Along us w left most
      → Ended deck b w left (lap_from deck most left w (next_of left w))
  lap_ended zero zero us w a = at_end us w 0 a
  lap_ended (suc k) zero us w a = at_end us w (suc k) a
  lap_ended zero (suc l) us w a = absurd (none_left l w a.enough)
  lap_ended (suc k) (suc l) us w a =
      subst (λ (o : Option SysId). Ended deck b w (suc l) (lap_from deck (suc k) (suc l) w o)) (sym n.1)
      (by_turn (turn_came deck w (ring us w (suc l) (suc k) a) h n.1 n.2) (λ z. lap_ended k l us' w' z)
      (λ z. lap_ended k (suc l) us' w' z))
    where
      n : (h : SysId) × (w.medium.message.holder ≡ Some h) × (is_live w h ≡ true)
      n = next us w (suc l) (suc k) a

      h : SysId
      h = n.0

      w' : World
      w' = happens deck w (turn_of h)

      us' : List Event
      us' = us ++ turn_of h ∷ []

      ran : run deck us' ≡ w'
      ran = run-push deck us (first_world deck) (turn_of h) ∙ ap (λ (x : World). happens deck x (turn_of h)) a.run_of

      still_live : w'.medium.star ≡ false → w'.medium.removed ≡ w.medium.removed → is_live w' h ≡ true
      still_live mode same =
          let mode' : (run deck us').medium.star ≡ false = ap (λ (x : World). x.medium.star) ran ∙ mode in
          let there : IsRing deck w' =
          subst (IsRing deck) ran (is_ring deck (begins_ring deck us' mode') us' mode') in
          ap (λ r. lives (length w'.nodes) r h.0) same
          ∙ ap (λ i. lives i w.medium.removed h.0)
          (there.systems ∙ sym (ring us w (suc l) (suc k) a).systems)
          ∙ n.2

      -- one Turn more
      more : (left : ℕ) → left_behind deck w h (suc l) ≡ left
          → cond (is_turned (reply_of deck w (turn_of h))) 1 0 + left ≡ suc l
          → Ended deck b w' left (lap_from deck k left w' (next_of left w'))
          → Ended deck b w (suc l) (lap_from deck (suc k) (suc l) w (Some h))
      more left is count e =
          let after : ℕ = left_behind deck w h (suc l) in
          let r : Ended deck b w' left (lap_from deck k after w' (next_of after w')) =
          subst (λ x. Ended deck b w' left (lap_from deck k x w' (next_of x w'))) (sym is) e in
          record {
            stands = ((h, n.1, refl), r.stands);
            turned = ap (λ x. cond (is_turned (reply_of deck w (turn_of h))) 1 0 + x) r.turned ∙ count;
            gone = r.gone;
            held = r.held;
          }

      fewer : Enough (suc k) (suc l) w → 2 * l ≤ k
      fewer (inl e) = first_left k l e
      fewer (inr e) = later_left k l e.0

      told_left : Enough (suc k) (suc l) w → ¬ (Knows w h) → 2 * suc l ≤ suc k
      told_left (inl e) unknowing = e
      told_left (inr e) unknowing = absurd (unknowing (e.1 h n.1))

      by_turn : TurnCame deck w h → (Along us' w' l k → Ended deck b w' l (lap_from deck k l w' (next_of l w')))
          → (Along us' w' (suc l) k → Ended deck b w' (suc l) (lap_from deck k (suc l) w' (next_of (suc l) w')))
          → Ended deck b w (suc l) (lap_from deck (suc k) (suc l) w (Some h))
      by_turn (served out t message same star) one_less as_many =
          let one : suc l - 1 ≡ l = omega arith in
          let left_is : left_behind deck w h (suc l) ≡ l = ap (λ z. cond z (suc l - 1) (suc l)) t ∙ one in
          let there : has removed h.0 ≡ false =
          ap (λ r. has r h.0) (sym a.fixed)
          ∙ unremoved deck w (ring us w (suc l) (suc k) a) h n.1 n.2 in
          let turned : Phase removed b s
          (turned_open w.medium.message h out (live w.medium) w.medium.rest) (suc l - 1) =
          turned_phase w.medium.message h out (live w.medium) w.medium.rest removed b s (suc l) n.1 a.low there
          (masks_of w.medium (waits us w (suc l) (suc k) a)) a.later a.phase in
          let mode : w'.medium.star ≡ false = star ∙ a.mode in
          let one_more : 1 + l ≡ suc l = omega arith in
          more l left_is (ap (λ z. cond z 1 0 + l) t ∙ one_more)
          (one_less (record {
            run_of = ran;
            mode = mode;
            fixed = same ∙ a.fixed;
            later =
                subst (λ (m : Message). b ≤ m.next) (sym message)
                (let e = a.later in omega (arith, e));
            low = subst (λ (m : Message). s < m.systems) (sym message) a.low;
            phase =
                subst (λ (m : Message). Phase removed b s m l) (sym message)
                (subst (λ x. Phase removed b s (turned_open w.medium.message h out (live w.medium) w.medium.rest) x) one
                turned);
            enough = inl (fewer a.enough);
            one = h;
            alive = still_live mode same;
          }))
      by_turn (told t same knows unknowing) one_less as_many =
          let mode : w'.medium.star ≡ false = ap (λ m. m.star) same ∙ a.mode in
          let stays : w'.medium.removed ≡ w.medium.removed = ap (λ m. m.removed) same in
          let no_more : 0 + suc l ≡ suc l = omega arith in
          more (suc l) (ap (λ z. cond z (suc l - 1) (suc l)) t) (ap (λ z. cond z 1 0 + suc l) t ∙ no_more)
          (as_many (record {
            run_of = ran;
            mode = mode;
            fixed = stays ∙ a.fixed;
            later = subst (λ m. b ≤ m.message.next) (sym same) a.later;
            low = subst (λ m. s < m.message.systems) (sym same) a.low;
            phase = subst (λ m. Phase removed b s m.message (suc l)) (sym same) a.phase;
            enough =
                inr (
                  told_left a.enough unknowing,
                  λ g at.
                      subst (λ (x : SysId). Knows w' x)
                      (same_Some h g (sym n.1 ∙ (ap (λ m. m.message.holder) (sym same) ∙ at))) knows,
                );
            one = h;
            alive = still_live mode stays;
          }))

-- ---- the law
pub laps_end : (deck : Deck) (es : List Event) → LapsEnd deck es
laps_end deck es one mode alive =
    record { stands = e.stands; turned = e.turned; before = before; behind = behind }
  where
    w : World
    w = run deck es

    ring : IsRing deck w
    ring = is_ring deck (begins_ring deck es mode) es mode

    same_live : (h : SysId) → is_live_at w.medium h ≡ is_live w h
    same_live h = ap (λ k. lives k w.medium.removed h.0) (ring.around ∙ sym ring.systems)

    n : (h : SysId) × (w.medium.message.holder ≡ Some h) × (is_live_at w.medium h ≡ true)
    n = (run_waits deck es).holder one mode (same_live one ∙ alive)

    low : (n.0).0 < w.medium.message.systems
    low = ltb-true (n.0).0 w.medium.message.systems (and_parts (nat_lt (n.0).0 w.medium.message.systems) _ n.2).0

    count : live_below w.medium.removed w.medium.message.systems ≡ live_count w
    count = ap (live_below w.medium.removed) (ring.around ∙ sym ring.systems)

    e : Ended deck w.medium.message.next w (live_count w) (lap deck w)
    e =
        lap_ended deck w.medium.removed w.medium.message.next (n.0).0 (2 * live_count w) (live_count w) es w (record {
          run_of = refl;
          mode = mode;
          fixed = refl;
          later = omega arith;
          low = low;
          phase =
              subst (λ x. Phase w.medium.removed w.medium.message.next (n.0).0 w.medium.message x) count
              (begins w.medium.removed w.medium.message.next n.0 w.medium.message n.1 low);
          enough = inl (omega arith);
          one = one;
          alive = alive;
        })

    held : AllHeld w.medium.message.systems w.medium.message.next w.medium.message.entries
    held = run_held deck es mode one.0 (live-is deck w ring one.0 ∙ alive)

    before : (x : RingEntry) → Contains w.medium.message.entries x → x.number < w.medium.message.next
    before x c =
        (held_at w.medium.message.systems w.medium.message.next x w.medium.message.entries c.0 c.1 c.2 held).1

    behind : (x : RingEntry) → Contains (run_from deck w (lap deck w)).medium.message.entries x
        → w.medium.message.next ≤ x.number
    behind x c = go (dec_lt x.number w.medium.message.next)
      where
        m : Message
        m = (run_from deck w (lap deck w)).medium.message

        go : Dec (x.number < w.medium.message.next) → w.medium.message.next ≤ x.number
        go (no far) = omega (arith, far)
        go (yes old) =
            let h = held_at m.systems m.next x m.entries c.0 c.1 c.2 e.held in
            absurd (true≢false (sym (old_at w.medium.message.next (h.0).0 x m.entries c.0 c.1 c.2 old (h.0).2)
            ∙ e.gone (h.0).0 (h.0).1))
