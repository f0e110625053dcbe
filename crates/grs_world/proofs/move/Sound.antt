-- Every run is sound, in either mode and where it changes from ring to star mode.
use Rattle.grs_world.proofs.Common.{[], ◌++◌, ◌<◌, ◌∷◌, ◌≡◌, ◌≤◌, ap, arith, Bool, by_test, chosen, cond, Deck}
use Rattle.grs_world.proofs.Common.{entries_some, Event, false, first_node, first_world, FitsStar, fixed_by, happens}
use Rattle.grs_world.proofs.Common.{has, has-zero, history, IsHistory, items, length, List, list_any, live, may_be_star}
use Rattle.grs_world.proofs.Common.{Message, most_systems, never_opened, no_truth, NodeState, NoneInStar, not, opened}
use Rattle.grs_world.proofs.Common.{or_left, OrdersFit, placed, refl, removes_in_star, run, slice_get, slice_get_within}
use Rattle.grs_world.proofs.Common.{Some, SysId, take, true, Turnout, World, ℕ}
use Rattle.grs_world.specs.Decks.{orders_star}
use Rattle.std.specs.Prelude.{◌&&◌}
use Rattle.grs_world.proofs.move.Begin.{switched-moved}
use Rattle.grs_world.proofs.run.Placed.{fixed-placed, of_medium}
use Rattle.grs_world.proofs.run.First.{count_first, first_is}
use Rattle.grs_world.proofs.move.Changing.{IsChanging, IsMoved, Shown, has_changed, waits_yet}
use Rattle.grs_world.proofs.move.Decks.{order-may}
use Rattle.grs_world.proofs.move.Moved.{changing-counted, event-moved}
use Rattle.grs_world.proofs.run.Desks.{GoodDesks, desk-agrees, desks-after, desks-counted}
use Rattle.grs_world.proofs.at_rest.Homes.{homes_run}
use Rattle.grs_world.proofs.run.Chosen.{removes-none}
use Rattle.grs_world.proofs.run.Knowing.{known_run}
use Rattle.grs_world.proofs.run.Each.{each_live}
use Rattle.grs_world.proofs.run.Spared.{each_spared, none_in_ring, none_next}
use Rattle.grs_world.proofs.run.InRing.{CameInRing, IsRing, changed, each_in_ring, first_ring, informed, live-there}
use Rattle.grs_world.proofs.run.InRing.{no_such, nothing, removes_one, ring-counted, ring-placed, turn, went_on}
use Rattle.grs_world.proofs.run.Removals.{gone_are_removed, taken_out}
use Rattle.grs_world.proofs.run.Runs.{GoodTold, GoodWorld, told-after, told-counted}
use Rattle.grs_world.proofs.run.Sound.{came_tells, first_good, first_good_told, first_message, good_came, good_counted}
use Rattle.grs_world.proofs.run.Sound.{sound-of}
use Rattle.grs_world.proofs.star.Sound.{first_whole}
use Rattle.grs_world.specs.Agree.{Sound}
use Rattle.grs_world.proofs.run.Site.{at_site}

-- What holds of the world w after these events: the medium is in ring mode, or it was changed to star mode.
pub data GoodRun (deck : Deck) (es : List Event) (w : World) : Type 0 where
  in_ring : deck.star ≡ false → IsRing deck w → GoodWorld deck es w → GoodDesks deck w → GoodRun deck es w
  in_star : FitsStar deck → IsChanging deck w → GoodTold deck es w → GoodDesks deck w → GoodRun deck es w

-- ---- one event
-- a system shows its number
home-shown : (deck : Deck) (w : World) (g : IsChanging deck w) (s : ℕ) (n : NodeState) → slice_get w.nodes s ≡ Some n
    → has w.medium.removed s ≡ false → n.tasks.system ≡ s
home-shown deck w g s n at alive = by_shown (g.shown s n at alive).0 n (g.shown s n at alive).1 (g.shown s n at alive).2
  where
    by_shown : (k m : NodeState) → slice_get g.view s ≡ Some k
        → Shown deck s (items w.fixed) (g.before s) (g.due s) g.since (g.whole.out s) k m → m.tasks.system ≡ s
    by_shown k m there (has_changed none) = (g.whole.system s k (at_site there alive)).at.good.system
    by_shown k m there (waits_yet x h is empty) = h.seen.good.system

module _ (deck : Deck) (fits : may_be_star deck ≡ true → FitsStar deck) (es : List Event) (e : Event) where
  abbrev c : SysId
  c = e.system

  abbrev w : World
  w = run deck es

  abbrev Good : World → Type 0
  Good x = GoodRun deck (es ++ e ∷ []) x

  module _ (n : NodeState) (at : slice_get (run deck es).nodes e.system.0 ≡ Some n) where
    came : (o : Turnout) → items (placed w e.system n o).fixed ≡ items (w.fixed ++ fixed_by e.system o.step.fixed)
    came o = ap items (fixed-placed (run deck es) e.system n o)

    -- the medium is in star mode behind it
    to_star : FitsStar deck → GoodTold deck es w → GoodDesks deck w → n.tasks.system ≡ e.system.0 → (o : Turnout)
        → IsMoved deck w e.system n o → happens deck w e ≡ placed w e.system n o → Good (placed w e.system n o)
    to_star f told d home o moved is = in_star f moved.changing
        (told-after deck es e n at told o (items (w.fixed ++ fixed_by c o.step.fixed)) (came o) is
        (desk-agrees deck es w told d c n at home (history (items (w.fixed ++ fixed_by c o.step.fixed))) o.step.fixed
        o.step.node o.medium.star moved.news))
        (desks-after deck w d c n at o (history (items (w.fixed ++ fixed_by c o.step.fixed))) moved.news)

  -- in ring mode
  module _ (begins : deck.star ≡ false) (ring : IsRing deck (run deck es)) (g : GoodWorld deck es (run deck es))
      (d : GoodDesks deck (run deck es)) where
    module _ (n : NodeState) (at : slice_get (run deck es).nodes e.system.0 ≡ Some n)
        (alive : has (run deck es).medium.removed e.system.0 ≡ false) where
      here : has (live w.medium) e.system.0 ≡ true
      here = live-there deck w ring c.0 n at alive

      home : n.tasks.system ≡ e.system.0
      home = (g.systems c.0 n at here).good.system

      stays_ring : (o : Turnout) → CameInRing deck w e.system n o → o.medium.star ≡ false
          → happens deck w e ≡ placed w e.system n o → Good (placed w e.system n o)
      stays_ring o h mode is =
          let tells = came_tells deck es e ring g n at alive o h mode in
          let told =
          told-after deck es e n at g.told o (items (w.fixed ++ fixed_by c o.step.fixed)) (came n at o) is
          (desk-agrees deck es w g.told d c n at home (history (items (w.fixed ++ fixed_by c o.step.fixed)))
          o.step.fixed o.step.node o.medium.star tells) in
          in_ring begins (ring-placed deck w ring c n at o h (of_medium w c n o (λ m. m.star ≡ false) mode))
          (good_came deck es e ring g n at alive o h mode told is)
          (desks-after deck w d c n at o (history (items (w.fixed ++ fixed_by c o.step.fixed))) tells)

      comes : (o : Turnout) → CameInRing deck w e.system n o → happens deck w e ≡ placed w e.system n o
          → Good (placed w e.system n o)
      comes o (nothing flags) is = stays_ring _ (nothing flags) ring.mode is
      comes o (went_on t may) is = stays_ring _ (went_on t may) ring.mode is
      comes o (turn flags here) is = stays_ring _ (turn flags here) ring.mode is
      comes o (informed known) is = stays_ring _ (informed known) ring.mode is
      comes o (removes_one target next lives) is = stays_ring _ (removes_one target next lives) ring.mode is
      comes o (no_such target next out) is = stays_ring _ (no_such target next out) ring.mode is
      comes o (changed next idle) is =
          let f : FitsStar deck = fits (order-may deck n next) in
          to_star n at f g.told d home _ (switched-moved deck begins (entries_some deck.entries f.entries) f.few w ring
          g.history (taken_out deck es) g.before g.later g.whole g.message g.systems c n at alive next idle
          (known_run deck es c.0 n at))
          is

    from_ring : Good (happens deck w e)
    from_ring =
        each_in_ring deck w e (λ x. happens deck w e ≡ x → Good x) ring
        (λ is. in_ring begins (ring-counted deck w ring) (good_counted deck es e ring g) (desks-counted deck w d))
        (λ n o at alive h is. comes n at alive o h is) refl

  -- in star mode
  from_star : removes_in_star deck w e ≡ false → FitsStar deck → IsChanging deck w → GoodTold deck es w
      → GoodDesks deck w → Good (happens deck w e)
  from_star none f g told d =
      each_live deck w e (λ x. happens deck w e ≡ x → Good x)
      (λ is. in_star f (changing-counted deck w g) (told-counted deck es e w told) (desks-counted deck w d)) comes_star
      refl
    where
      comes_star : (n : NodeState) → slice_get w.nodes e.system.0 ≡ Some n → has w.medium.removed e.system.0 ≡ false
          → happens deck w e ≡ placed w e.system n (chosen deck w.medium e.system n e.choice)
          → Good (placed w e.system n (chosen deck w.medium e.system n e.choice))
      comes_star n at alive is =
          let here = slice_get_within w.nodes c.0 n at in
          let inside : c.0 < most_systems = omega (arith, here, g.count, f.few) in
          to_star n at f told d (home-shown deck w g c.0 n at alive) (chosen deck w.medium c n e.choice)
          (event-moved deck (entries_some deck.entries f.entries) w g c inside n at alive e.choice
          (gone_are_removed deck es) (known_run deck es c.0 n at) (removes-none deck w e none n at alive))
          is

  pub next_good : removes_in_star deck w e ≡ false → GoodRun deck es w → Good (happens deck w e)
  next_good none (in_ring begins ring g d) = from_ring begins ring g d
  next_good none (in_star f g told d) = from_star none f g told d

-- ---- the first world
first_changing : (deck : Deck) → deck.star ≡ true → IsChanging deck (first_world deck)
unfolding first_world
first_changing deck star = record {
  view = (first_world deck).nodes;
  whole = first_whole deck star;
  log = [];
  since = [];
  rounds_are = refl;
  before = λ u. [];
  due = λ u. [];
  parts = λ u. refl;
  message = first_message deck;
  closed = ap (λ b. (cond b (never_opened (length deck.systems)) (opened (length deck.systems))).closed) star;
  around =
      by_test (λ (m : Message). m.systems ≡ length deck.systems) deck.star (never_opened (length deck.systems))
      (opened (length deck.systems)) (λ e. refl) (λ e. refl);
  count = count_first deck 0 deck.systems;
  shown = λ s n at alive. (n, at, has_changed refl);
  gone = λ s n at out. no_truth (has 0 s) out (has-zero s);
}

none-done : (n k : ℕ) → n ≡ 0 → 0 < k → k ≤ n → ⊥
none-done n k e low l = omega (arith, e, low, l)

first_desks : (deck : Deck) → GoodDesks deck (first_world deck)
unfolding first_world first_node
first_desks deck = record {
  changes = never deck.star;
  lines = λ s n at. refl;
  each = λ s n at k low l. absurd (none-done n.done k (ap (λ (m : NodeState). m.done) (first_is deck s n at)) low l);
}
  where
    never : (b : Bool) → false ≡ (b && not b)
    never true = refl
    never false = refl

pub first_run : (deck : Deck) → (may_be_star deck ≡ true → FitsStar deck) → GoodRun deck [] (first_world deck)
first_run deck fits = go deck.star refl
  where
    go : (b : Bool) → deck.star ≡ b → GoodRun deck [] (first_world deck)
    go false is = in_ring is (first_ring deck is) (first_good deck) (first_desks deck)
    go true is =
        in_star (fits (or_left deck.star (list_any (λ s. orders_star s.desk) deck.systems) is)) (first_changing deck is)
        (first_good_told deck) (first_desks deck)

-- ---- every list of events that removes no system in star mode
pub every_run : (deck : Deck) → (may_be_star deck ≡ true → FitsStar deck) → (es : List Event) → NoneInStar deck es
    → GoodRun deck es (run deck es)
every_run deck fits =
    each_spared deck (GoodRun deck) (first_run deck fits)
    (λ es e none g. next_good deck fits es e (none_next deck es e none) g)

-- so is each run that is in ring mode
pub ring_good : (deck : Deck) → (may_be_star deck ≡ true → FitsStar deck) → (es : List Event)
    → (run deck es).medium.star ≡ false → GoodWorld deck es (run deck es)
ring_good deck fits es ring = by_run (every_run deck fits es (none_in_ring deck es ring))
  where
    by_run : GoodRun deck es (run deck es) → GoodWorld deck es (run deck es)
    by_run (in_ring begins mode g d) = g
    by_run (in_star f g told d) = no_truth (run deck es).medium.star g.whole.roles.mode ring

pub good_history : (deck : Deck) (es : List Event) (w : World) → GoodRun deck es w → IsHistory deck (items w.fixed)
good_history deck es w (in_ring begins ring g d) = g.history
good_history deck es w (in_star f g told d) = g.whole.right

pub good_told : (deck : Deck) (es : List Event) (w : World) → GoodRun deck es w → GoodTold deck es w
good_told deck es w (in_ring begins ring g d) = g.told
good_told deck es w (in_star f g told d) = told

-- ---- so every such run is sound, where no desk's command is of its own system or of one that isn't there
pub every_sound : (deck : Deck) → (may_be_star deck ≡ true → FitsStar deck) → OrdersFit deck → (es : List Event)
    → NoneInStar deck es → Sound deck es
every_sound deck fits fit es none =
    let here = every_run deck fits es none in
    sound-of deck fit es
    (λ k s n at alive. homes_run deck (take k es) s n at)
    (good_history deck es (run deck es) here) (good_told deck es (run deck es) here)
