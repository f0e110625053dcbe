-- In every run each live system whose flag of rest is set knows who was removed, or is in the ring and has still to
-- process an entry of the message.
use Rattle.std.proofs.Common.{◌≡◌, ◌≢◌, ◌<◌, ◌⊎◌, ℕ, Bool, true, false, cond, not, ◌&&◌, List, [], ◌∷◌, ◌++◌, length}
use Rattle.std.proofs.Common.{take}
use Rattle.std.proofs.Common.{map, Some, None, refl, ap, sym, ◌∙◌, inl, inr, arith}
use Rattle.std.specs.Prelude.{◌==◌, ◌||◌, ◌^◌, filter, nat_lt, slice_get}
use Rattle.std.specs.List.{list_any}
use Rattle.std.proofs.lemmas.Bool.{and_from, eq-eqb, eqb-true, lt-ltb, or_left, or_right, true≢false}
use Rattle.std.proofs.lemmas.List.Folds.{list_any-append}
use Rattle.std.proofs.lemmas.Option.{slice_get_within}
use Rattle.grs_base.specs.Limits.{most_additions}
use Rattle.grs_base.specs.declared.resource.SysId.{SysId}
use Rattle.grs_legal.specs.Asks.{lines_of}
use Rattle.grs_medium.proofs.LiveLaws.{has-live}
use Rattle.grs_medium.proofs.Removals.{has-without_others}
use Rattle.grs_medium.specs.Apply.{apply, reply_to, row}
use Rattle.grs_medium.specs.Medium.{MediumState, systems_of}
use Rattle.grs_node.proofs.Keeping.{stays-entries, stays-task, stays-turned}
use Rattle.grs_node.specs.Node.{NodeState, desk_told, is_pending, known_from, next_order, own_words}
use Rattle.grs_node.specs.Node.{prepare, purge_call, purged, read_entries, stale, switch_call, turn_call}
use Rattle.grs_node.specs.Removal.{members, without_those}
use Rattle.grs_node.specs.declared.prepared.Prepared.{Prepared}
use Rattle.grs_node.specs.declared.prepared.Prepared.TheVariants.{Quiet, Call, Nothing}
use Rattle.grs_wire.proofs.MaskLaws.{has-with_other, has-without_other, has-zero}
use Rattle.grs_wire.specs.Masks.{has, only, others, with_also, without}
use Rattle.grs_wire.specs.Unseen.{is_unseen, unseen}
use Rattle.grs_wire.specs.declared.deck.Choice.{Choice}
use Rattle.grs_wire.specs.declared.deck.Choice.TheVariants as choices
use Rattle.grs_wire.specs.declared.deck.Deck.{Deck}
use Rattle.grs_wire.specs.declared.deck.Event.{Event}
use Rattle.grs_wire.specs.declared.deck.Order.TheVariants as orders
use Rattle.grs_wire.specs.declared.medium.Act.{Act}
use Rattle.grs_wire.specs.declared.medium.Act.TheVariants as acts
use Rattle.grs_wire.specs.declared.medium.Call.{Call as MediumCall}
use Rattle.grs_wire.specs.declared.medium.Reply.{Reply}
use Rattle.grs_wire.specs.declared.medium.Reply.TheVariants as replies
use Rattle.grs_wire.specs.declared.medium.RingEntry.{RingEntry}
use Rattle.grs_wire.specs.declared.told.Said.TheVariants as saids
use Rattle.rsa_message.specs.Message.{any_unseen, cleared, closed_by, dropped, left_by}
use Rattle.grs_world.proofs.run.Came as any
use Rattle.grs_world.proofs.run.Came.{Came, Result, acts-keep, no_part, replied, result_of}
use Rattle.grs_world.proofs.run.Chosen.{came}
use Rattle.grs_world.proofs.run.Each.{each_live, each_run}
use Rattle.grs_world.proofs.run.GoesOn.{as_many}
use Rattle.grs_world.proofs.run.InRing.{is_ring, told-ring}
use Rattle.grs_world.proofs.run.Knowing.{acts-known, changed-known, losing-known, switched-known}
use Rattle.grs_world.proofs.run.Laps.{goes_on, stays_star}
use Rattle.grs_world.proofs.run.Placed.{by_node}
use Rattle.grs_world.specs.World.{Turnout, World, carry_out, chosen, first_world, placed, run}
use Rattle.grs_top.proofs.at_rest.Flags.{goes, rest_knows}
use Rattle.grs_top.proofs.at_rest.Idle.{AreInformed, IsInformed, IsNoRest, chosen-flags, chosen-live, no_rest}

-- ---- entries of the message that a system has still to process
module _ (u c : SysId) (other : u.0 ≢ c.0) where
  not-only : (mask : ℕ) → (mask == only c.0) ≡ true → has mask u.0 ≡ false
  not-only mask is =
      ap (λ k. has k u.0) (eqb-true mask (only c.0) is) ∙ (has-with_other 0 c.0 u.0 other ∙ has-zero u.0)

  -- another one's Turn leaves them
  still-unseen : (es : List RingEntry) → any_unseen u es ≡ true → any_unseen u (cleared c es) ≡ true
  unfolding cleared any_unseen
  still-unseen [] h = h
  still-unseen (e ∷ es) h = go (e.mask == only c.0) refl (still-unseen es)
    where
      more : List RingEntry
      more = map (left_by c) (filter (λ x. not (x.mask == only c.0)) es)

      by_first : (b : Bool) → has e.mask u.0 ≡ b
          → (list_any (is_unseen u) es ≡ true
          → list_any (is_unseen u) (map (left_by c) (filter (λ x. not (x.mask == only c.0)) es)) ≡ true)
          → (has (without e.mask c.0) u.0
          || list_any (is_unseen u) (map (left_by c) (filter (λ x. not (x.mask == only c.0)) es)))
          ≡ true
      by_first true is rest =
          or_left (has (without e.mask c.0) u.0) (list_any (is_unseen u) more)
          (has-without_other e.mask c.0 u.0 other ∙ is)
      by_first false is rest =
          or_right (has (without e.mask c.0) u.0) (list_any (is_unseen u) more)
          (rest (sym (ap (λ b. b || list_any (is_unseen u) es) is) ∙ h))

      go : (b : Bool) → (e.mask == only c.0) ≡ b
          → (list_any (is_unseen u) es ≡ true
          → list_any (is_unseen u) (map (left_by c) (filter (λ x. not (x.mask == only c.0)) es)) ≡ true)
          → list_any (is_unseen u)
          (map (left_by c)
          (cond (not b) (e ∷ filter (λ x. not (x.mask == only c.0)) es) (filter (λ x. not (x.mask == only c.0)) es)))
          ≡ true
      go true is rest = rest (sym (ap (λ b. b || list_any (is_unseen u) es) (not-only e.mask is)) ∙ h)
      go false is rest = by_first (has e.mask u.0) refl rest

more-unseen : (u : SysId) (xs ys : List RingEntry) → any_unseen u xs ≡ true → any_unseen u (xs ++ ys) ≡ true
unfolding any_unseen
more-unseen u xs ys h =
    list_any-append (is_unseen u) xs ys ∙ or_left (list_any (is_unseen u) xs) (list_any (is_unseen u) ys) h

last-unseen : (u : SysId) (xs : List RingEntry) (e : RingEntry) → has e.mask u.0 ≡ true
    → any_unseen u (xs ++ e ∷ []) ≡ true
unfolding any_unseen
last-unseen u xs e h =
    list_any-append (is_unseen u) xs (e ∷ [])
    ∙ or_right (list_any (is_unseen u) xs) (list_any (is_unseen u) (e ∷ [])) (or_left (has e.mask u.0) false h)

-- ---- a call that is looked at is of a system that knows who was removed
abbrev is_off : Reply → Bool
is_off replies.Removed = true
is_off (replies.Stale set) = true
is_off _ = false

heard-by : (m : MediumState) (c : SysId) (call : MediumCall) (r : Reply) → reply_to m c call ≡ r → is_off r ≡ false
    → call.known ≡ m.removed
unfolding apply
heard-by m c call r is on = go (has m.removed c.0) (call.known == m.removed) refl is
  where
    go : (b d : Bool) → (call.known == m.removed) ≡ d
        → (cond {A = Reply × MediumState} b (replies.Removed, m)
        (cond d (row m c call.act) (replies.Stale m.removed, m))).0
        ≡ r
        → call.known ≡ m.removed
    go true d e k = absurd (true≢false (ap is_off k ∙ on))
    go false true e k = eqb-true call.known m.removed e
    go false false e k = absurd (true≢false (ap is_off k ∙ on))

-- the reply of a result, if it has one
abbrev said : Result → Reply
said (replied r) = r
said _ = replies.Removed

module _ (deck : Deck) (m : MediumState) (c : SysId) (n : NodeState) where
  heard : (choice : Choice) (act : Act) (r : Reply)
      → prepare deck n choice ≡ Call (record { known = n.known; act = act })
      → replied r ≡ result_of m c (prepare deck n choice) → is_off r ≡ false → n.known ≡ m.removed
  heard choice act r asks same on =
      heard-by m c (record { known = n.known; act = act }) r (sym (ap said (same ∙ ap (result_of m c) asks))) on

  turn-asks : n.star ≡ None
      → prepare deck n choices.Turn ≡ Call (record { known = n.known; act = acts.Turn (take most_additions n.outbox) })
  unfolding prepare
  turn-asks alone = ap (turn_call n) alone

  switch-asks : next_order deck n ≡ Some orders.Star
      → prepare deck n choices.Switch ≡ Call (record { known = n.known; act = acts.Switch (own_words deck n) })
  unfolding prepare
  switch-asks next = ap (switch_call deck n) next

  purge-asks : (target : SysId) → next_order deck n ≡ Some (orders.Vary target)
      → prepare deck n (choices.Purge target) ≡ Call (record { known = n.known; act = acts.Purge target })
  unfolding prepare
  purge-asks target next =
      ap (purge_call n target) next
      ∙ ap (λ b. cond b (Call (record { known = n.known; act = acts.Purge target })) Nothing)
      (eq-eqb target.0 target.0 refl)

  -- ---- the flag of an event's own system was set before, or the system knows
  other-flag : (choice : Choice) → IsNoRest (prepare deck n choice)
      → has (chosen deck m c n choice).medium.rest c.0 ≡ true → has m.rest c.0 ≡ true
  unfolding chosen carry_out
  other-flag choice none h = go (prepare deck n choice) none h
    where
      go : (p : Prepared) → IsNoRest p → has (carry_out deck m c n choice p).medium.rest c.0 ≡ true
          → has m.rest c.0 ≡ true
      go Nothing none h = h
      go Quiet none h = h
      go (Call call) none h = goes m c call none c.0 h

  rest-flag : has (chosen deck m c n choices.Rest).medium.rest c.0 ≡ true
      → (has m.rest c.0 ≡ true) ⊎ (n.known ≡ m.removed)
  unfolding chosen carry_out prepare
  rest-flag h = go (is_pending deck n) h
    where
      go : (b : Bool)
          → has (carry_out deck m c n choices.Rest
          (cond b Nothing (Call (record { known = n.known; act = acts.Rest })))).medium.rest c.0
          ≡ true
          → (has m.rest c.0 ≡ true) ⊎ (n.known ≡ m.removed)
      go true k = inl k
      go false k = rest_knows m c n.known k

  own-flag : (choice : Choice) → has (chosen deck m c n choice).medium.rest c.0 ≡ true
      → (has m.rest c.0 ≡ true) ⊎ (n.known ≡ m.removed)
  own-flag choices.Rest h = rest-flag h
  own-flag (choices.Task t) h =
      inl (other-flag (choices.Task t) (no_rest deck n (choices.Task t) (λ is. absurd (cc))) h)
  own-flag choices.Turn h = inl (other-flag choices.Turn (no_rest deck n choices.Turn (λ is. absurd (cc))) h)
  own-flag (choices.Send t) h =
      inl (other-flag (choices.Send t) (no_rest deck n (choices.Send t) (λ is. absurd (cc))) h)
  own-flag choices.Take h = inl (other-flag choices.Take (no_rest deck n choices.Take (λ is. absurd (cc))) h)
  own-flag choices.Settle h = inl (other-flag choices.Settle (no_rest deck n choices.Settle (λ is. absurd (cc))) h)
  own-flag (choices.Tell e) h =
      inl (other-flag (choices.Tell e) (no_rest deck n (choices.Tell e) (λ is. absurd (cc))) h)
  own-flag (choices.Part e) h =
      inl (other-flag (choices.Part e) (no_rest deck n (choices.Part e) (λ is. absurd (cc))) h)
  own-flag (choices.Leave e) h =
      inl (other-flag (choices.Leave e) (no_rest deck n (choices.Leave e) (λ is. absurd (cc))) h)
  own-flag choices.Switch h = inl (other-flag choices.Switch (no_rest deck n choices.Switch (λ is. absurd (cc))) h)
  own-flag (choices.Purge t) h =
      inl (other-flag (choices.Purge t) (no_rest deck n (choices.Purge t) (λ is. absurd (cc))) h)

  -- ---- the event's own system
  moved : (k : NodeState) → k.known ≡ n.known → k.star ≡ n.star → IsInformed m c.0 n → IsInformed m c.0 k
  moved k known star (inl same) = inl (known ∙ same)
  moved k known star (inr ring) = inr (star ∙ ring.0, ring.1)

  told-so : IsInformed m c.0 n → IsInformed m c.0 (stale deck n m.removed)
  unfolding stale
  told-so (inl same) =
      inl (losing-known deck (record n { known = known_from deck n.known m.removed })
      (members (without_those n.known (known_from deck n.known m.removed)))
      ∙ go (nat_lt m.removed (2 ^ length deck.systems)))
    where
      go : (b : Bool) → cond b m.removed n.known ≡ m.removed
      go true = refl
      go false = same
  told-so (inr ring) =
      inr (ap (λ (k : NodeState). k.star) (told-ring deck n m.removed ring.0) ∙ ring.0, ring.1)

  one-more : (target : SysId) → n.known ≡ m.removed
      → (purged deck n (choices.Purge target)).node.known ≡ with_also m.removed target.0
  unfolding purged
  one-more target knows =
      losing-known deck (record (desk_told n saids.VaryDone) { known = with_also n.known target.0 }) (target ∷ [])
      ∙ ap (λ k. with_also k target.0) knows

  own : (choice : Choice) (b : Result) (o : Turnout) → Came deck m c n choice b o
      → b ≡ result_of m c (prepare deck n choice) → IsInformed m c.0 n → IsInformed o.medium c.0 o.step.node
  unfolding desk_told
  own choice b o (any.nothing k r silent flags) asked now = now
  own choice b o (any.informed k) asked now = told-so now
  own choice b o (any.went_on t may) asked now =
      let stays = stays-task deck.limit n t (lines_of deck t) in moved o.step.node stays.known stays.star now
  own choice b o (any.turn flags alone unclosed here) asked now =
      inl ((stays-turned deck n (unseen c m.message.entries) (length (take most_additions n.outbox))).known
      ∙ heard choices.Turn _ _ (turn-asks alone) asked refl)
  own choice b o (any.last_turn flags alone shut here) asked now =
      inl (changed-known deck (read_entries deck n (unseen c m.message.entries))
      ∙ ((stays-entries deck n (unseen c m.message.entries)).known
      ∙ heard choices.Turn _ _ (turn-asks alone) asked refl))
  own choice b o (any.changed ring next seen) asked now =
      inl (switched-known deck n ∙ heard choices.Switch _ _ (switch-asks next) asked refl)
  own choice b o (any.already mode next) asked now = now
  own choice b o (any.removes_one target ring next lives) asked now =
      inl (one-more target (heard (choices.Purge target) _ _ (purge-asks target next) asked refl))
  own choice b o (any.removes_star target mode next lives) asked now =
      inl (one-more target (heard (choices.Purge target) _ _ (purge-asks target next) asked refl))
  own choice b o (any.no_such target next gone) asked now = now
  own choice b o (any.acted p is k r x acts) asked now = by_now now
    where
      by_now : IsInformed m c.0 n → IsInformed x.medium c.0 x.step.node
      by_now (inl same) =
          inl (acts-known deck m c n p k r x acts ∙ (same ∙ sym (acts-keep deck m c n p k r x acts).removed))
      by_now (inr ring) = no_part n p is ring.0

  -- ---- another system
  module _ (u : SysId) (k : NodeState) (other : u.0 ≢ c.0) (inside : u.0 < m.message.systems)
      (alone : m.star ≡ false → k.star ≡ None) (now : IsInformed m u.0 k) where
    cleared-now : (more : List RingEntry)
        → (k.known ≡ m.removed)
        ⊎ ((k.star ≡ None) × (any_unseen u (cleared c m.message.entries ++ more) ≡ true))
    cleared-now more = go now
      where
        go : IsInformed m u.0 k
            → (k.known ≡ m.removed)
            ⊎ ((k.star ≡ None) × (any_unseen u (cleared c m.message.entries ++ more) ≡ true))
        go (inl same) = inl same
        go (inr ring) =
            inr (
              ring.0,
              more-unseen u (cleared c m.message.entries) more
                  (still-unseen u c other m.message.entries ring.1),
            )

    closed-now : (k.known ≡ m.removed) ⊎ ((k.star ≡ None) × (any_unseen u (cleared c m.message.entries) ≡ true))
    closed-now = go now
      where
        go : IsInformed m u.0 k
            → (k.known ≡ m.removed) ⊎ ((k.star ≡ None) × (any_unseen u (cleared c m.message.entries) ≡ true))
        go (inl same) = inl same
        go (inr ring) = inr (ring.0, still-unseen u c other m.message.entries ring.1)

    -- who is live once a system is removed
    lives-on : (target : SysId) → has (with_also m.removed target.0) u.0 ≡ false
        → has (others m.message.systems (with_also m.removed target.0)) u.0 ≡ true
    lives-on target live =
        has-live m.message.systems (with_also m.removed target.0) u.0
        ∙ and_from (nat_lt u.0 m.message.systems) (not (has (with_also m.removed target.0) u.0))
        (lt-ltb u.0 m.message.systems inside) (ap not live)

    others-know : (choice : Choice) (b : Result) (o : Turnout) → Came deck m c n choice b o
        → has o.medium.removed u.0 ≡ false → has o.medium.rest u.0 ≡ true → IsInformed o.medium u.0 k
    unfolding closed_by dropped
    others-know choice b o (any.nothing q r silent flags) live set = now
    others-know choice b o (any.informed q) live set = now
    others-know choice b o (any.went_on t may) live set = now
    others-know choice b o (any.turn flags free unclosed here) live set = cleared-now _
    others-know choice b o (any.last_turn flags free shut here) live set = closed-now
    others-know choice b o (any.changed ring next seen) live set = now
    others-know choice b o (any.already mode next) live set = now
    others-know choice b o (any.removes_one target ring next lives) live set =
        inr (alone ring, last-unseen u (cleared target m.message.entries) _ (lives-on target live))
    others-know choice b o (any.removes_star target mode next lives) live set =
        let gone : has (others (systems_of m) (with_also m.removed target.0)) u.0 ≡ true = lives-on target live in
        absurd (true≢false (sym set
        ∙ (has-without_others (systems_of m) (with_also m.removed target.0) m.rest u.0
        ∙ (ap (λ b. has m.rest u.0 && not b) gone ∙ none (has m.rest u.0)))))
      where
        none : (b : Bool) → (b && false) ≡ false
        none true = refl
        none false = refl
    others-know choice b o (any.no_such target next gone) live set = now
    others-know choice b o (any.acted p is q r x acts) live set = go now
      where
        go : IsInformed m u.0 k → IsInformed x.medium u.0 k
        go (inl same) = inl (same ∙ sym (acts-keep deck m c n p q r x acts).removed)
        go (inr ring) =
            inr (ring.0, ap (λ z. any_unseen u z.entries) (acts-keep deck m c n p q r x acts).message ∙ ring.1)

-- ---- every run
alone_in_ring : (deck : Deck) (es : List Event) → (run deck es).medium.star ≡ false → (s : ℕ) (n : NodeState)
    → slice_get (run deck es).nodes s ≡ Some n → n.star ≡ None
alone_in_ring deck es ring = go deck.star refl
  where
    go : (b : Bool) → deck.star ≡ b → (s : ℕ) (n : NodeState) → slice_get (run deck es).nodes s ≡ Some n
        → n.star ≡ None
    go true star s n at = absurd (true≢false (sym (stays_star deck star es).0 ∙ ring))
    go false begins s n at = (is_ring deck begins es ring).alone s n at

module _ (deck : Deck) (es : List Event) (e : Event) (h : AreInformed (run deck es)) (n : NodeState)
    (at : slice_get (run deck es).nodes e.system.0 ≡ Some n)
    (alive : has (run deck es).medium.removed e.system.0 ≡ false) where
  abbrev w : World
  w = run deck es

  abbrev o : Turnout
  o = chosen deck (run deck es).medium e.system n e.choice

  here : has (chosen deck (run deck es).medium e.system n e.choice).medium.rest e.system.0 ≡ true
      → IsInformed (chosen deck (run deck es).medium e.system n e.choice).medium e.system.0
      (chosen deck (run deck es).medium e.system n e.choice).step.node
  here set =
      own deck w.medium e.system n e.choice _ _ (came deck w.medium e.system n alive e.choice) refl
      (by_flag (own-flag deck w.medium e.system n e.choice set))
    where
      by_flag : (has (run deck es).medium.rest e.system.0 ≡ true) ⊎ (n.known ≡ (run deck es).medium.removed)
          → IsInformed (run deck es).medium e.system.0 n
      by_flag (inl before) = h e.system.0 n at alive before
      by_flag (inr knows) = inl knows

  there : (u : ℕ) (k : NodeState) → u ≢ e.system.0 → slice_get (run deck es).nodes u ≡ Some k
      → has (chosen deck (run deck es).medium e.system n e.choice).medium.removed u ≡ false
      → has (chosen deck (run deck es).medium e.system n e.choice).medium.rest u ≡ true
      → IsInformed (chosen deck (run deck es).medium e.system n e.choice).medium u k
  there u k other found live set =
      let within = slice_get_within w.nodes u k found in
      let inside : u < w.medium.message.systems = omega (arith, within, as_many deck es, (goes_on deck es).around) in
      let lived : has w.medium.removed u ≡ false = chosen-live deck w.medium e.system n e.choice u live in
      let before : has w.medium.rest u ≡ true = chosen-flags deck w.medium e.system n e.choice u other set in
      others-know deck w.medium e.system n (record { 0 = u }) k other inside
      (λ ring. alone_in_ring deck es ring u k found) (h u k found lived before) e.choice _ _
      (came deck w.medium e.system n alive e.choice) live set

  informed-placed : AreInformed (placed (run deck es) e.system n (chosen deck (run deck es).medium e.system n e.choice))
  unfolding placed
  informed-placed u k found live set =
      by_node w.nodes e.system.0 n o.step.node at
      (λ s z. has o.medium.removed s ≡ false → has o.medium.rest s ≡ true → IsInformed o.medium s z)
      (λ live set. here set) (λ s z other found live set. there s z other found live set) u k found live set

first-informed : (deck : Deck) → AreInformed (first_world deck)
unfolding first_world
first-informed deck u n at live set = absurd (true≢false (sym set ∙ has-zero u))

pub runs_informed : (deck : Deck) (es : List Event) → AreInformed (run deck es)
runs_informed deck =
    each_run deck (λ es w. AreInformed w) (first-informed deck)
    (λ es e h.
    each_live deck (run deck es) e AreInformed (λ u n at live set. h u n at live set)
    (λ n at alive. informed-placed deck es e h n at alive))
