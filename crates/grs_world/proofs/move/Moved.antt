-- An event of a run that changes from ring to star mode, behind the change of the medium.
use Rattle.grs_world.proofs.Common.{◌<◌, ◌∙◌, ◌≡◌, arith, change_to_star, Choice, chosen, counted, Deck, false, has}
use Rattle.grs_world.proofs.Common.{has-live, items, live, lt-ltb, most_systems, nat_lt, NodeState, None, read_entries}
use Rattle.grs_world.proofs.Common.{refl, slice_get, slice_get_within, Some, subst, sym, SysId, true, unseen, World, ℕ}
use Rattle.grs_node.specs.Node.{changed as changed_now}
use Rattle.grs_world.proofs.move.Changing.{IsChanging, IsMoved, Shown, has_changed, waits_yet}
use Rattle.grs_world.proofs.move.Late.{came_late}
use Rattle.grs_world.proofs.move.Star.{star-moved}
use Rattle.grs_world.proofs.move.Waiting.{change-stays, waits-moved}
use Rattle.grs_world.proofs.run.Knowing.{KnowsRemoved}
use Rattle.grs_world.proofs.run.Came.{ChoiceRemovesNone, no_part}
use Rattle.grs_world.proofs.run.Site.{at_site}
use Rattle.grs_world.proofs.run.Removals.{GoneAreRemoved}
use Rattle.grs_world.proofs.star.Worlds.{whole-counted, IsWhole}

-- an event that is only counted
pub changing-counted : (deck : Deck) (w : World) → IsChanging deck w → IsChanging deck (counted w)
changing-counted deck w g = record {
  view = g.view;
  whole = still.0;
  log = g.log;
  since = g.since;
  rounds_are = g.rounds_are;
  before = g.before;
  due = g.due;
  parts = g.parts;
  message = g.message;
  closed = g.closed;
  around = g.around;
  count = g.count;
  shown = λ s n at l. let old = g.shown s n at l in (
    old.0,
    old.1,
    subst (λ out. Shown deck s (items w.fixed) (g.before s) (g.due s) g.since out old.0 n) (sym (still.1 s)) old.2,
  );
  gone = g.gone;
}
  where
    still : (h : IsWhole deck (counted (record w { nodes = g.view }))) × ((u : ℕ) → h.out u ≡ g.whole.out u)
    still = whole-counted deck (record w { nodes = g.view }) g.whole

-- a system of the deck that wasn't removed is live
pub alive : (deck : Deck) (w : World) (g : IsChanging deck w) (c : SysId) (n : NodeState)
    → slice_get w.nodes c.0 ≡ Some n → has w.medium.removed c.0 ≡ false → has (live w.medium) c.0 ≡ true
alive deck w g c n at unremoved =
    let here = slice_get_within w.nodes c.0 n at in
    let below : nat_lt c.0 w.medium.message.systems ≡ true =
    lt-ltb c.0 w.medium.message.systems (omega (arith, here, g.count, g.around)) in
    has-live w.medium.message.systems w.medium.removed c.0 ∙ rw (below, unremoved) refl

-- a system that hasn't changed has nothing to lose behind its change
pub late-stays : (deck : Deck) (w : World) (g : IsChanging deck w) (c : SysId) (n : NodeState)
    → slice_get w.nodes c.0 ≡ Some n → has w.medium.removed c.0 ≡ false → n.star ≡ None → KnowsRemoved w.medium n
    → changed_now deck (read_entries deck n (unseen c w.medium.message.entries))
    ≡ change_to_star deck (read_entries deck n (unseen c w.medium.message.entries))
late-stays deck w g c n at unremoved alone known =
    by_shown (g.shown c.0 n at unremoved).0 n at (g.shown c.0 n at unremoved).1 (g.shown c.0 n at unremoved).2 alone
    known
  where
    by_shown : (k m : NodeState) → slice_get w.nodes c.0 ≡ Some m → slice_get g.view c.0 ≡ Some k
        → Shown deck c.0 (items w.fixed) (g.before c.0) (g.due c.0) g.since (g.whole.out c.0) k m
        → m.star ≡ None → KnowsRemoved w.medium m
        → changed_now deck (read_entries deck m (unseen c w.medium.message.entries))
        ≡ change_to_star deck (read_entries deck m (unseen c w.medium.message.entries))
    by_shown k m here there (has_changed none) off knows =
        no_part k (g.whole.roles.node c.0 k (at_site there unremoved)).part
        (g.whole.roles.node c.0 k (at_site there unremoved)).star off
    by_shown k m here there (waits_yet x h is empty) off knows =
        change-stays deck w g c x here unremoved k there h is empty (alive deck w g c x here unremoved) knows

module _ (deck : Deck) (some : 0 < deck.entries) (w : World) (g : IsChanging deck w) (c : SysId)
    (inside : c.0 < most_systems) (n : NodeState) (at : slice_get w.nodes c.0 ≡ Some n)
    (unremoved : has w.medium.removed c.0 ≡ false) (choice : Choice) where
  pub event-moved : GoneAreRemoved deck w → KnowsRemoved w.medium n → ChoiceRemovesNone deck w.medium c n choice
      → IsMoved deck w c n (chosen deck w.medium c n choice)
  event-moved removed known kept =
      by_shown (g.shown c.0 n at unremoved).0 n at (g.shown c.0 n at unremoved).1 (g.shown c.0 n at unremoved).2 known
      kept
    where
      by_shown : (k m : NodeState) → slice_get w.nodes c.0 ≡ Some m → slice_get g.view c.0 ≡ Some k
          → Shown deck c.0 (items w.fixed) (g.before c.0) (g.due c.0) g.since (g.whole.out c.0) k m
          → KnowsRemoved w.medium m → ChoiceRemovesNone deck w.medium c m choice
          → IsMoved deck w c m (chosen deck w.medium c m choice)
      by_shown k m here there (has_changed none) knows spared =
          star-moved deck some w g c inside k here unremoved there none removed knows choice spared
      by_shown k m here there (waits_yet x h is empty) knows spared =
          waits-moved deck w g c x here unremoved k there h is empty (alive deck w g c x here unremoved) removed
          (chosen deck w.medium c x choice)
          (came_late deck w g.whole.roles.mode g.closed c x h.alone unremoved
          (change-stays deck w g c x here unremoved k there h is empty (alive deck w g c x here unremoved) knows) choice
          spared)
