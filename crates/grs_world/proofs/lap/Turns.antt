-- What the Turn of the system comes to at which the message stands, in ring mode.
use Rattle.grs_world.proofs.Common.{[], ◌==◌, ◌∙◌, ◌≡◌, ◌≢◌, and_parts, ap, Bool, Call, chosen, cond, Deck, eq-eqb}
use Rattle.grs_world.proofs.Common.{false, finish, finish_call, first_node, happens, has, is_live, is_turned, length}
use Rattle.grs_world.proofs.Common.{List, live, lt-ltb, ltb-true, MediumState, most_additions, nat_lt, node_at}
use Rattle.grs_world.proofs.Common.{NodeState, None, not, only, placed, prepare, refl, reply_of, Req, same_Some}
use Rattle.grs_world.proofs.Common.{slice_get, slice_get-get_or, Some, stands_at, Step, sym, SysId, take, true}
use Rattle.grs_world.proofs.Common.{true≢false, Turn, turn_of, turn_row, turned, turned_open, Turnout, World}
use Rattle.std.specs.Prelude.{◌^◌}
use Rattle.grs_node.specs.Node.{turn_call}
use Rattle.grs_medium.specs.TurnReplies.{refusal}
use Rattle.grs_world.proofs.run.Placed.{medium-placed, own-placed}
use Rattle.grs_world.proofs.code.Happens.{happens-live}
use Rattle.grs_world.proofs.code.Lapped.{reply_of-live, turned-call}
use Rattle.grs_world.proofs.code.Turns.{chosen-given, chosen-refused}
use Rattle.grs_world.proofs.run.InRing.{IsRing, told-ring}
use Rattle.grs_medium.specs.declared.medium.TurnRefusal.TheVariants as refusals
use Rattle.grs_node.specs.TurnCalls as calls
use Rattle.grs_wire.specs.declared.medium.Reply.TheVariants as replies

-- A system knows which systems were removed.
abbrev pub Knows : World → SysId → Type 0
Knows w s = (n : NodeState) → slice_get w.nodes s.0 ≡ Some n → n.known ≡ w.medium.removed

-- It gets to the message, or its system is told which were removed, which it didn't know.
pub data TurnCame (deck : Deck) (w : World) (s : SysId) : Type 0 where
  served : (out : List Req) → is_turned (reply_of deck w (turn_of s)) ≡ true
      → (happens deck w (turn_of s)).medium.message ≡ turned_open w.medium.message s out (live w.medium) w.medium.rest
      → (happens deck w (turn_of s)).medium.removed ≡ w.medium.removed
      → (happens deck w (turn_of s)).medium.star ≡ w.medium.star → TurnCame deck w s
  told : is_turned (reply_of deck w (turn_of s)) ≡ false → (happens deck w (turn_of s)).medium ≡ w.medium
      → Knows (happens deck w (turn_of s)) s → ¬ (Knows w s) → TurnCame deck w s

module _ (deck : Deck) (w : World) (ring : IsRing deck w) (s : SysId) (here : w.medium.message.holder ≡ Some s)
    (lives : is_live w s ≡ true) where
  abbrev n : NodeState
  n = node_at deck w.nodes s

  there : slice_get w.nodes s.0 ≡ Some n
  there =
      slice_get-get_or w.nodes s.0 (first_node deck s.0)
      (ltb-true s.0 (length w.nodes) (and_parts (nat_lt s.0 (length w.nodes)) _ lives).0)

  pub unremoved : has w.medium.removed s.0 ≡ false
  unremoved = go (has w.medium.removed s.0) (and_parts (nat_lt s.0 (length w.nodes)) _ lives).1
    where
      go : (b : Bool) → not b ≡ true → b ≡ false
      go true h = absurd cc
      go false h = refl

  stands : stands_at w.medium.message.holder s ≡ true
  stands = ap (λ o. stands_at o s) here ∙ eq-eqb s.0 s.0 refl

  asks : prepare deck n Turn ≡ Call (calls.turn_of n n.known)
  unfolding prepare
  asks = ap (turn_call n) (ring.alone s.0 n there)

  refused : (b : Bool) → (n.known == w.medium.removed) ≡ b
      → refusal w.medium s n.known ≡ cond b None (Some (replies.Stale w.medium.removed))
  unfolding refusal
  refused b k = rw (unremoved, k, stands) refl

  by : (out : Turnout) → chosen deck w.medium s n Turn ≡ out → happens deck w (turn_of s) ≡ placed w s n out
  by out is = happens-live deck w (turn_of s) lives ∙ ap (placed w s n) is

  medium_by : (out : Turnout) → chosen deck w.medium s n Turn ≡ out → (happens deck w (turn_of s)).medium ≡ out.medium
  medium_by out is = ap (λ (x : World). x.medium) (by out is) ∙ medium-placed w s n out

  open_turn : (out : List Req)
      → turned w.medium.message s out (live w.medium) w.medium.rest
      ≡ turned_open w.medium.message s out (live w.medium) w.medium.rest
  unfolding turned
  open_turn out = rw (stands, ring.unclosed) refl

  at_message : (n.known == w.medium.removed) ≡ true → TurnCame deck w s
  unfolding turn_row
  at_message k =
      let none = refused true k in
      let out : List Req = take most_additions n.outbox in
      let is = medium_by _ (chosen-given deck w.medium s n n.known asks none) in
      served out
      (ap is_turned (reply_of-live deck w s lives)
      ∙ turned-call deck n w.medium s n.known None asks (sym none))
      (ap (λ (m : MediumState). m.message) is ∙ open_turn out) (ap (λ (m : MediumState). m.removed) is)
      (ap (λ (m : MediumState). m.star) is)

  not_knowing : (n.known == w.medium.removed) ≡ false → Knows w s → ⊥
  not_knowing k knows =
      let same : (n.known == w.medium.removed) ≡ true = eq-eqb n.known w.medium.removed (knows n there) in
      absurd (true≢false (sym same ∙ k))

  told_step : finish deck n Turn (Some (replies.Stale w.medium.removed))
      ≡ record { node = record n { known = w.medium.removed }; fixed = [] }
  unfolding finish finish_call
  told_step =
      ap only (told-ring deck n w.medium.removed (ring.alone s.0 n there))
      ∙ ap (λ (b : Bool). only (record n { known = cond b w.medium.removed n.known }))
      (lt-ltb w.medium.removed (2 ^ length deck.systems) ring.within)

  elsewhere : (n.known == w.medium.removed) ≡ false → TurnCame deck w s
  elsewhere k =
      let some = refused false k in
      let informed : Turnout = record { medium = w.medium; step = only (record n { known = w.medium.removed }) } in
      let came : chosen deck w.medium s n Turn ≡ informed =
      chosen-refused deck w.medium s n n.known asks (replies.Stale w.medium.removed) some
      ∙ ap (λ (st : Step). record { medium = w.medium; step = st }) told_step in
      told
      (ap is_turned (reply_of-live deck w s lives)
      ∙ turned-call deck n w.medium s n.known (Some (refusals.Stale w.medium.removed)) asks (sym some))
      (medium_by informed came)
      (λ t at.
      let now : slice_get (happens deck w (turn_of s)).nodes s.0 ≡ Some (record n { known = w.medium.removed }) =
      ap (λ (x : World). slice_get x.nodes s.0) (by informed came) ∙ own-placed w s n informed there in
      ap (λ (x : NodeState). x.known) (same_Some t (record n { known = w.medium.removed }) (sym at ∙ now))
      ∙ ap (λ (m : MediumState). m.removed) (sym (medium_by informed came)))
      (not_knowing k)

  pub turn_came : TurnCame deck w s
  turn_came = go (n.known == w.medium.removed) refl
    where
      go : (b : Bool) → (n.known == w.medium.removed) ≡ b → TurnCame deck w s
      go true k = at_message k
      go false k = elsewhere k
