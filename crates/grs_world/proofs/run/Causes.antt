-- The causes of the answers that have to do with removals.
use Rattle.grs_world.proofs.Common.{◌&&◌, ◌<◌, ◌==◌, ◌∙◌, ◌≡◌, Act, and_parts, ap, arith, Bool, Call, call_at, call_in}
use Rattle.grs_world.proofs.Common.{chosen, cond, counted, Deck, eq-eqb, eqb-false, eqb-true, Event, false, happens}
use Rattle.grs_world.proofs.Common.{happens_at, has, hist, is_live, length, List, list_any, lt-ltb, nat_lt, ne_eqb}
use Rattle.grs_world.proofs.Common.{next_order, no_truth, NodeState, None, not, not-true, Nothing, Option, Order}
use Rattle.grs_world.proofs.Common.{OrdersFit, placed, prepare, refl, removes, Reply, reply_by, reply_of, reply_to, run}
use Rattle.grs_world.proofs.Common.{same_Some, slice_get, slice_get_within, Some, subst, sym, SysId, systems_of, true}
use Rattle.grs_world.proofs.Common.{World, ℕ}
use Rattle.grs_world.specs.Removing.{AnswersHaveCauses, call_of}
use Rattle.grs_node.specs.Node.{purge_call}
use Rattle.grs_medium.specs.Apply.{is_live as is_live_at}
use Rattle.grs_medium.specs.Causes.{is_heard, is_removed, is_uninformed, purges_nobody}
use Rattle.grs_medium.proofs.CauseLaws.{no_such_comes, removed_comes, stale_comes}
use Rattle.grs_wire.specs.declared.medium.Call.{Call as MediumCall}
use Rattle.grs_world.proofs.run.Laps.{goes_on}
use Rattle.grs_world.proofs.run.Purging.{target-fits}
use Rattle.grs_world.proofs.run.Removals.{removed_in_history}
use Rattle.grs_wire.specs.declared.deck.Choice.TheVariants as choices
use Rattle.grs_wire.specs.declared.deck.Order.TheVariants as orders
use Rattle.grs_wire.specs.declared.medium.Act.TheVariants as acts
use Rattle.grs_wire.specs.declared.medium.Reply.TheVariants as replies

-- what is so of a truth by its parts
not_false : (b : Bool) → not b ≡ true → b ≡ false
not_false b h = not-true b h

twice_not : (b : Bool) → not (not b) ≡ true → b ≡ true
twice_not true h = refl
twice_not false h = absurd (cc)

module _ (deck : Deck) (fit : OrdersFit deck) (es : List Event) (e : Event) where
  abbrev w : World
  w = run deck es

  abbrev c : SysId
  c = e.system

  -- ---- its call
  -- a system that calls is live
  call_live : (call : MediumCall) → call_of deck w e ≡ Some call → has w.medium.removed e.system.0 ≡ false
  call_live call made = by_node (slice_get w.nodes c.0) made
    where
      by_node : (o : Option NodeState) → call_at deck w e o ≡ Some call → has w.medium.removed e.system.0 ≡ false
      by_node None h = absurd (cc)
      by_node (Some n) h = go (is_live w c) refl h
        where
          go : (b : Bool) → is_live w e.system ≡ b → cond b (call_in (prepare deck n e.choice)) None ≡ Some call
              → has w.medium.removed e.system.0 ≡ false
          go true live k = not_false _ (and_parts (nat_lt c.0 (length w.nodes)) (not (has w.medium.removed c.0)) live).1
          go false live k = absurd (cc)

  -- one that calls to remove a system does so by its desk
  record Asks (target : SysId) (act : Act) : Type 0 where
    is : act ≡ acts.Purge target
    below : target.0 < length deck.systems

  call_asks : (target : SysId) → e.choice ≡ choices.Purge target → (call : MediumCall) → call_of deck w e ≡ Some call
      → Asks target call.act
  unfolding prepare
  call_asks target chose call made = by_node (slice_get w.nodes c.0) made
    where
      by_node : (o : Option NodeState) → call_at deck w e o ≡ Some call → Asks target call.act
      by_node None h = absurd (cc)
      by_node (Some n) h = go (is_live w c) h
        where
          by_order : (o : Option Order) → next_order deck n ≡ o → call_in (purge_call n target o) ≡ Some call
              → Asks target call.act
          by_order None at k = absurd (cc)
          by_order (Some orders.Star) at k = absurd (cc)
          by_order (Some (orders.Vary named)) at k = by_name (named.0 == target.0) refl k
            where
              by_name : (b : Bool) → (named.0 == target.0) ≡ b
                  → call_in (cond b (Call (record { known = n.known; act = acts.Purge target })) Nothing) ≡ Some call
                  → Asks target call.act
              by_name true same j = record {
                is =
                    ap (λ (z : MediumCall). z.act)
                    (sym (same_Some (record { known = n.known; act = acts.Purge target }) call j));
                below =
                    subst (λ (k : ℕ). k < length deck.systems) (eqb-true named.0 target.0 same)
                    (target-fits deck n named fit at).0;
              }
              by_name false same j = absurd (cc)

          go : (b : Bool) → cond b (call_in (prepare deck n e.choice)) None ≡ Some call → Asks target call.act
          go true k = by_order (next_order deck n) refl (ap (λ z. call_in (prepare deck n z)) (sym chose) ∙ k)
          go false k = absurd (cc)

  -- ---- its reply
  record Replied (reply : Reply) : Type 0 where
    call : MediumCall
    made : call_of deck w e ≡ Some call
    is : reply_to w.medium e.system call ≡ reply

  replied_by : (reply : Reply) → reply_of deck w e ≡ Some reply → Replied reply
  replied_by reply h = go (call_of deck w e) refl h
    where
      go : (o : Option MediumCall) → call_of deck w e ≡ o → reply_by w.medium e.system o ≡ Some reply → Replied reply
      go None made k = absurd (cc)
      go (Some call) made k = record { call = call; made = made; is = same_Some (reply_to w.medium c call) reply k }

  reply_is : (reply : Reply) (call : MediumCall) → call_of deck w e ≡ Some call
      → reply_to w.medium e.system call ≡ reply → reply_of deck w e ≡ Some reply
  reply_is reply call made is = ap (reply_by w.medium c) made ∙ ap Some is

  -- a call that is heard is one of a system that knows who was removed
  heard_knows : (call : MediumCall) → is_heard w.medium e.system call ≡ true → call.known ≡ w.medium.removed
  heard_knows call h =
      eqb-true call.known w.medium.removed
      (twice_not _ (and_parts (not (is_removed w.medium c)) (not (is_uninformed w.medium call)) h).1)

  knows_heard : (call : MediumCall) → call_of deck w e ≡ Some call → call.known ≡ w.medium.removed
      → is_heard w.medium e.system call ≡ true
  knows_heard call made knows =
      let live : has w.medium.removed c.0 ≡ false = call_live call made in
      let same : (call.known == w.medium.removed) ≡ true = eq-eqb call.known w.medium.removed knows in
      rw (live, same) refl

  -- ---- there is no such system
  gone_is : (target : SysId) → target.0 < length deck.systems
      → is_live_at w.medium target ≡ not (list_any (removes target) (hist deck es))
  gone_is target below =
      let within : nat_lt target.0 (systems_of w.medium) ≡ true =
      lt-ltb target.0 (systems_of w.medium) (omega (arith, below, (goes_on deck es).around)) in
      ap (λ b. b && not (has w.medium.removed target.0)) within ∙ ap not (removed_in_history deck es target)

  pub causes : AnswersHaveCauses deck es e
  unfolding happens happens_at
  causes = record {
    removed = λ h. let r = replied_by replies.Removed h in
        no_truth (has w.medium.removed c.0) ((removed_comes w.medium c r.call).0 r.is) (call_live r.call r.made);
    idle = λ out. by_idle (slice_get w.nodes c.0) refl out;
    stale = λ set. (
      λ h.
          let r = replied_by (replies.Stale set) h in
          let z = (stale_comes w.medium c r.call set).0 r.is in (
            record {
              call = r.call;
              made = r.made;
              unknowing = eqb-false r.call.known w.medium.removed (not_false _ z.1.0);
            },
            z.1.1,
          ),
      λ u.
          reply_is (replies.Stale set) u.0.call u.0.made ((stale_comes w.medium c u.0.call set).1
          (call_live u.0.call u.0.made, (ap not (ne_eqb u.0.call.known w.medium.removed u.0.unknowing), u.1))),
    );
    no_such = λ target chose. (
      λ h.
          let r = replied_by replies.NoSuch h in
          let z = (no_such_comes w.medium c r.call).0 r.is in
          let asks = call_asks target chose r.call r.made in (
            record { call = r.call; made = r.made; knows = heard_knows r.call z.0 },
            twice_not _ (ap not (sym (gone_is target asks.below)) ∙ (ap (purges_nobody w.medium) (sym asks.is) ∙ z.1)),
          ),
      λ k.
          let asks = call_asks target chose k.0.call k.0.made in
          let out : is_live_at w.medium target ≡ false = gone_is target asks.below ∙ ap not k.1 in
          reply_is replies.NoSuch k.0.call k.0.made ((no_such_comes w.medium c k.0.call).1
          (knows_heard k.0.call k.0.made k.0.knows, ap (purges_nobody w.medium) asks.is ∙ ap not out)),
    );
  }
    where
      by_idle : (o : Option NodeState) → slice_get w.nodes e.system.0 ≡ o → is_live w e.system ≡ false
          → happens_at deck w e o ≡ counted w
      by_idle None at out = refl
      by_idle (Some n) at out = go (has w.medium.removed c.0) refl
        where
          within : nat_lt e.system.0 (length w.nodes) ≡ true
          within = lt-ltb c.0 (length w.nodes) (slice_get_within w.nodes c.0 n at)

          go : (b : Bool) → has w.medium.removed e.system.0 ≡ b
              → cond b (counted w) (placed w e.system n (chosen deck w.medium e.system n e.choice)) ≡ counted w
          go true gone = refl
          go false here = no_truth (is_live w c) (rw (within, here) refl) out

pub answers_causes : (deck : Deck) → OrdersFit deck → (es : List Event) (e : Event) → AnswersHaveCauses deck es e
answers_causes deck fit es e = causes deck fit es e
