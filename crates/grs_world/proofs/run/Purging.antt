-- The events that have to do with removals, in ring mode: a system is removed, there was none of its number, or a
-- system is told which were removed.
use Rattle.grs_world.proofs.Common.{[], ◌&&◌, ◌++◌, ◌<◌, ◌∙◌, ◌∷◌, ◌≡◌, ◌≢◌, and_parts, and_right, ap, append-nil}
use Rattle.grs_world.proofs.Common.{append_assoc, Bool, Deck, desk_told, dropped, eq-eqb, Event, false, filter-append}
use Rattle.grs_world.proofs.Common.{fixed_by, goes_round, has, has-live, has-with_other, has-with_same, history}
use Rattle.grs_world.proofs.Common.{IsHistory, items, items-append, items_are_history, length, List, list_any, live}
use Rattle.grs_world.proofs.Common.{lives, made_item, map-append, MediumState, nat_lt, next_order, no_truth, NodeState}
use Rattle.grs_world.proofs.Common.{None, not, not-true, only, Option, option_map, OrdersFit, own_requests, placed}
use Rattle.grs_world.proofs.Common.{Purged, refl, removes, rounds, run, RunItem, Said, same_Some, slice_get, Some}
use Rattle.grs_world.proofs.Common.{subst, sym, SysId, SystemDef, systems_of, true, Turnout, with_also, without_system}
use Rattle.grs_world.proofs.Common.{World, ℕ}
use Rattle.grs_node.specs.Node.{desk_of}
use Rattle.grs_known.proofs.known.Histories.{MayPurge, follows-purge}
use Rattle.grs_medium.specs.Apply.{is_live}
use Rattle.std.proofs.lemmas.Map.Keys.{any_passes_from_place}
use Rattle.grs_legal.specs.Legal.{MayRemove, commands_removal, is_removal_of}
use Rattle.grs_node.proofs.Calls.{target-of}
use Rattle.grs_node.proofs.StartFits.{orders-at}
use Rattle.grs_wire.specs.declared.deck.Desk.{Desk}
use Rattle.grs_world.proofs.run.Growing.{fixeds, own_requests-append}
use Rattle.grs_world.proofs.run.InRing.{removed_by, IsRing, live-there}
use Rattle.grs_world.proofs.run.Messages.{message-removed}
use Rattle.grs_world.proofs.run.Removals.{removed_in_history}
use Rattle.grs_world.proofs.run.Runs.{GoodMessage, GoodTold, GoodWorld, message_log, seen_at}
use Rattle.grs_world.proofs.run.Placed.{by_node}
use Rattle.grs_world.proofs.system.AtNode.{Seen, seen-known, seen-removal}
use Rattle.grs_world.proofs.system.Desks.{desk-seen}
use Rattle.grs_wire.specs.declared.deck.Order.TheVariants as orders
use Rattle.grs_wire.specs.declared.told.Said.TheVariants as saids

-- ---- what a desk commands
-- the target is another system that is there
pub target-fits : (deck : Deck) (n : NodeState) (target : SysId) → OrdersFit deck
    → next_order deck n ≡ Some (orders.Vary target) → (target.0 < length deck.systems) × (target.0 ≢ n.tasks.system)
target-fits deck n target fit next =
    target-of deck n target (length deck.systems) (orders-at (length deck.systems) deck.systems n.tasks.system fit) next

-- its desk commands the removal
pub commands : (deck : Deck) (n : NodeState) (target : SysId) → next_order deck n ≡ Some (orders.Vary target)
    → commands_removal target (slice_get deck.systems n.tasks.system) ≡ true
commands deck n target next = by_system (slice_get deck.systems n.tasks.system) next
  where
    by_line : (d : SystemDef) (o : Option Desk) → slice_get d.desk n.done ≡ o
        → option_map (λ (c : Desk). c.order) o ≡ Some (orders.Vary target) → commands_removal target (Some d) ≡ true
    by_line d None at is = absurd (cc)
    by_line d (Some l) at is =
        any_passes_from_place (λ (c : Desk). is_removal_of target c.order) d.desk n.done l at
        (ap (is_removal_of target) (same_Some l.order (orders.Vary target) is) ∙ eq-eqb target.0 target.0 refl)

    by_system : (o : Option SystemDef)
        → option_map (λ (c : Desk). c.order) (slice_get (desk_of o) n.done) ≡ Some (orders.Vary target)
        → commands_removal target o ≡ true
    by_system None is = absurd (cc)
    by_system (Some d) is = by_line d (slice_get d.desk n.done) refl is

module _ (deck : Deck) (es : List Event) (e : Event) (ring : IsRing deck (run deck es))
    (g : GoodWorld deck es (run deck es)) (n : NodeState) (at : slice_get (run deck es).nodes e.system.0 ≡ Some n)
    (alive : has (run deck es).medium.removed e.system.0 ≡ false) where
  abbrev w : World
  w = run deck es

  abbrev c : SysId
  c = e.system

  abbrev P : List RunItem
  P = items (run deck es).fixed

  own_seen :
      Seen deck e.system.0 P (g.before e.system.0) (g.later e.system.0) (own_requests e.system.0 (g.later e.system.0)) n
  own_seen = g.systems c.0 n at (live-there deck w ring c.0 n at alive)

  -- ---- a line of its desk
  pub desk_world : (said : Said)
      → GoodTold deck (es ++ e ∷ [])
      (placed w e.system n (record { medium = w.medium; step = only (desk_told n said) }))
      → GoodWorld deck (es ++ e ∷ [])
      (placed w e.system n (record { medium = w.medium; step = only (desk_told n said) }))
  unfolding placed
  desk_world said told = record {
    history = subst (IsHistory deck) (sym same) g.history;
    told = told;
    before = g.before;
    later = g.later;
    whole = λ u. ap rounds same ∙ g.whole u;
    message = subst (λ U. GoodMessage w.medium (message_log U) (seen_at g.before)) (sym same) g.message;
    systems =
        by_node w.nodes c.0 n (desk_told n said) at (λ u k.
        has (live w.medium) u ≡ true
        → Seen deck u (items (w.fixed ++ fixed_by c [])) (g.before u) (g.later u) (own_requests u (g.later u)) k)
        (λ lives.
        now c.0 (desk_told n said)
        (desk-seen deck c.0 P (g.before c.0) (g.later c.0) (own_requests c.0 (g.later c.0)) n said own_seen))
        (λ u k ne there lives. now u k (g.systems u k there lives));
  }
    where
      same : items (w.fixed ++ fixed_by e.system []) ≡ items w.fixed
      same = ap items (append-nil (run deck es).fixed)

      now : (u : ℕ) (k : NodeState) → Seen deck u P (g.before u) (g.later u) (own_requests u (g.later u)) k
          → Seen deck u (items (w.fixed ++ fixed_by e.system [])) (g.before u) (g.later u) (own_requests u (g.later u))
          k
      now u k h = subst (λ U. Seen deck u U (g.before u) (g.later u) (own_requests u (g.later u)) k) (sym same) h

  -- ---- a removal
  module _ (target : SysId) (next : next_order deck n ≡ Some (orders.Vary target))
      (there : is_live (run deck es).medium target ≡ true) where
    abbrev m' : MediumState
    m' = without_system (run deck es).medium e.system target

    abbrev o : Turnout
    o = record { medium = without_system (run deck es).medium e.system target; step = removed_by n target }

    -- the item
    abbrev x : RunItem
    x = made_item e.system P (Purged target)

    not_removed : has w.medium.removed target.0 ≡ false
    not_removed =
        not-true _ (and_parts (nat_lt target.0 (systems_of w.medium)) (not (has w.medium.removed target.0)) there).1

    in_history : (s : SysId) → has w.medium.removed s.0 ≡ false → list_any (removes s) (history P) ≡ false
    in_history s h = ap (list_any (removes s)) (items_are_history w.fixed).0 ∙ (sym (removed_in_history deck es s) ∙ h)

    home : n.tasks.system ≡ c.0
    home = own_seen.good.system

    stands : OrdersFit deck → MayRemove deck (history P) e.system target
    stands fit = record {
      live = in_history c alive;
      first = in_history target not_removed;
      other = λ same. (target-fits deck n target fit next).1 (same ∙ sym home);
      commanded =
          subst (λ i. commands_removal target (slice_get deck.systems i) ≡ true) home (commands deck n target next);
    }

    removal : MayPurge deck P x
    removal = record { target = target; purged = refl; made = refl; stands = stands }

    pub items-removed : items (w.fixed ++ fixed_by e.system (Purged target ∷ [])) ≡ P ++ x ∷ []
    items-removed = items-append w.fixed (fixed_by c (Purged target ∷ []))

    -- who is live then
    abbrev lives_then : ℕ → Bool
    lives_then u = lives (systems_of (run deck es).medium) (with_also (run deck es).medium.removed target.0) u

    live_is : (u : ℕ) → has (live m') u ≡ lives_then u
    unfolding dropped
    live_is u = has-live w.medium.message.systems (with_also w.medium.removed target.0) u

    gone : has (live m') target.0 ≡ false
    gone =
        live_is target.0
        ∙ and_right (nat_lt target.0 (systems_of w.medium)) (not (has (with_also w.medium.removed target.0) target.0))
        (ap not (has-with_same w.medium.removed target.0))

    others_live : (u : ℕ) → u ≢ target.0 → has (live m') u ≡ has (live w.medium) u
    others_live u ne =
        live_is u
        ∙ (ap (λ b. nat_lt u (systems_of w.medium) && not b) (has-with_other w.medium.removed target.0 u ne)
        ∙ sym (has-live (systems_of w.medium) w.medium.removed u))

    -- another system has still to process it
    abbrev later_now : ℕ → List RunItem
    later_now u = g.later u ++ rounds (x ∷ [])

    own_later : (u : ℕ) → own_requests u (g.later u) ≡ own_requests u (later_now u)
    own_later u = sym (own_requests-append u (g.later u) (rounds (x ∷ [])) ∙ append-nil (own_requests u (g.later u)))

    apart_from : (u : ℕ) → has (live m') u ≡ true → u ≢ target.0
    apart_from u h same = no_truth (has (live m') u) h (ap (has (live m')) same ∙ gone)

    seen_on : (u : ℕ) (k : NodeState) → has (live m') u ≡ true
        → Seen deck u P (g.before u) (g.later u) (own_requests u (g.later u)) k
        → Seen deck u (items (w.fixed ++ fixed_by e.system (Purged target ∷ []))) (g.before u) (later_now u)
        (own_requests u (later_now u)) k
    seen_on u k h seen =
        subst (λ U. Seen deck u U (g.before u) (later_now u) (own_requests u (later_now u)) k) (sym items-removed)
        (subst (λ qs. Seen deck u (P ++ x ∷ []) (g.before u) (later_now u) qs k) (own_later u)
        (seen-removal deck u P (g.before u) (g.later u) (own_requests u (g.later u)) k x target refl
        (λ same. apart_from u h (sym same)) seen))

    pub removed_world : GoodTold deck (es ++ e ∷ []) (placed w e.system n o)
        → GoodWorld deck (es ++ e ∷ []) (placed w e.system n o)
    unfolding placed removed_by dropped
    removed_world told = record {
      history = subst (IsHistory deck) (sym items-removed) (follows-purge deck P x g.history removal);
      told = told;
      before = g.before;
      later = later_now;
      whole = λ u.
          ap rounds items-removed
          ∙ (filter-append (λ z. goes_round z.fixed) P (x ∷ [])
          ∙ (ap (λ zs. zs ++ rounds (x ∷ [])) (g.whole u) ∙ append_assoc (g.before u) (g.later u) (rounds (x ∷ []))));
      message =
          subst (λ log. GoodMessage m' log (seen_at g.before))
          (sym (ap message_log items-removed
          ∙ (ap fixeds (filter-append (λ z. goes_round z.fixed) P (x ∷ []))
          ∙ map-append (λ (z : RunItem). z.fixed) (rounds P) (x ∷ []))))
          (message-removed w.medium m' c target g.before g.later P g.whole refl gone others_live g.message);
      systems =
          by_node w.nodes c.0 n (removed_by n target).node at
          (λ u k.
          has (live m') u ≡ true
          → Seen deck u (items (w.fixed ++ fixed_by c (Purged target ∷ []))) (g.before u) (later_now u)
          (own_requests u (later_now u)) k)
          (λ h.
          seen-known deck c.0 _ (g.before c.0) (later_now c.0) (own_requests c.0 (later_now c.0))
          (desk_told n saids.VaryDone) _ (seen_on c.0 (desk_told n saids.VaryDone) h
          (desk-seen deck c.0 P (g.before c.0) (g.later c.0) (own_requests c.0 (g.later c.0)) n saids.VaryDone
          own_seen)))
          (λ u k ne there h. seen_on u k h (g.systems u k there (sym (others_live u (apart_from u h)) ∙ h)));
    }
