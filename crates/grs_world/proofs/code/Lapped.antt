-- A Turn in a lap, as the code takes it.
use Rattle.grs_world.proofs.Common.{[], ◌++◌, ◌+◌, ◌-◌, ◌<◌, ◌==◌, ◌∙◌, ◌∷◌, ◌≡◌, ◌≤◌, and_parts, ap, append_assoc}
use Rattle.grs_world.proofs.Common.{arith, Bool, Call, call_at, call_in, cond, cut, Deck, drop, Event, false}
use Rattle.grs_world.proofs.Common.{first_node, happens, is_live, is_none, is_some, is_turned, length, length-append}
use Rattle.grs_world.proofs.Common.{length-map, List, ltb-true, MediumState, most_additions, nat_lt, node_at, nodes_of}
use Rattle.grs_world.proofs.Common.{NodeState, NodeView, None, Nothing, Option, option_map, prepare, refl, Reply}
use Rattle.grs_world.proofs.Common.{reply_by, reply_of, run_from, same_Some, slice_get, slice_get-get_or, Some, subst}
use Rattle.grs_world.proofs.Common.{suc, sym, SysId, take, true, Turn, turn_of, World, zero, ℕ}
use Rattle.std.proofs.Common.{get_or, ne_eqb}
use Rattle.std.specs.Prelude.{not}
use Rattle.grs_world.specs.Stopped.{lap_from, left_behind, left_of, next_of}
use Rattle.grs_world.specs.Running.{AreOf, Running, after}
use Rattle.std.proofs.lemmas.List.{at_drop_more}
use Rattle.grs_medium.proofs.TurnLaws.{turn_is_refused, turn_is_served}
use Rattle.grs_medium.specs.TurnReplies.{refusal, refusal_reply}
use Rattle.grs_medium.specs.declared.medium.TurnRefusal.{TurnRefusal}
use Rattle.grs_world.proofs.code.Nodes.{AreOf-get, nodes_of-get}
use Rattle.grs_world.proofs.run.Each.{run-push}
use Rattle.grs_medium.specs.declared.medium.TurnRefusal.TheVariants as refusals
use Rattle.grs_node.specs.TurnCalls as calls

-- no refusal is a Turned
refused-not : (r : TurnRefusal) → is_turned (Some (refusal_reply r)) ≡ false
refused-not (refusals.NotYours at) = refl
refused-not (refusals.Stale set) = refl
refused-not refusals.Removed = refl

pub turned-call : (deck : Deck) (n : NodeState) (m : MediumState) (c : SysId) (known : ℕ) (o : Option TurnRefusal)
    → prepare deck n Turn ≡ Call (calls.turn_of n known) → option_map refusal_reply o ≡ refusal m c known
    → is_turned (reply_by m c (call_in (prepare deck n Turn))) ≡ is_none o
turned-call deck n m c known None asks at =
    ap (λ p. is_turned (reply_by m c (call_in p))) asks
    ∙ ap (λ (x : Reply × MediumState). is_turned (Some x.0))
    (turn_is_served m c known (take most_additions n.outbox) (sym at))
turned-call deck n m c known (Some r) asks at =
    ap (λ p. is_turned (reply_by m c (call_in p))) asks
    ∙ (ap (λ (x : Reply × MediumState). is_turned (Some x.0))
    (turn_is_refused m c known (take most_additions n.outbox) (refusal_reply r) (sym at))
    ∙ refused-not r)

pub turned-nothing : (deck : Deck) (n : NodeState) (m : MediumState) (c : SysId) → prepare deck n Turn ≡ Nothing
    → is_turned (reply_by m c (call_in (prepare deck n Turn))) ≡ false
turned-nothing deck n m c asks = ap (λ p. is_turned (reply_by m c (call_in p))) asks

-- the reply to the Turn of a system that is there and wasn't removed
pub reply_of-live : (deck : Deck) (w : World) (s : SysId) → is_live w s ≡ true
    → reply_of deck w (turn_of s) ≡ reply_by w.medium s (call_in (prepare deck (node_at deck w.nodes s) Turn))
reply_of-live deck w s h =
    let below = ltb-true s.0 (length w.nodes) (and_parts (nat_lt s.0 (length w.nodes)) _ h).0 in
    ap (λ o. reply_by w.medium s (call_at deck w (turn_of s) o))
    (slice_get-get_or w.nodes s.0 (first_node deck s.0) below)
    ∙ ap (λ b. reply_by w.medium s (cond b (call_in (prepare deck (node_at deck w.nodes s) Turn)) None)) h

pub reply_of-idle : (deck : Deck) (w : World) (s : SysId) → is_live w s ≡ false
    → is_turned (reply_of deck w (turn_of s)) ≡ false
reply_of-idle deck w s h = at (slice_get w.nodes s.0)
  where
    at : (o : Option NodeState) → is_turned (reply_by w.medium s (call_at deck w (turn_of s) o)) ≡ false
    at None = refl
    at (Some n) = ap (λ b. is_turned (reply_by w.medium s (cond b (call_in (prepare deck n Turn)) None))) h

pub ruleset lapping = (turned-call, turned-nothing, reply_of-live, reply_of-idle)

-- ---- a lap, one Turn more
pub lap_from-more : (deck : Deck) (most left : ℕ) (w : World) (o : Option SysId) (s : SysId) → 0 < most → o ≡ Some s
    → lap_from deck most left w o
    ≡ turn_of s ∷ lap_from deck (most - 1) (left_behind deck w s left) (happens deck w (turn_of s))
    (next_of (left_behind deck w s left) (happens deck w (turn_of s)))
lap_from-more deck zero left w o s some is = absurd (omega (arith, some))
lap_from-more deck (suc k) left w o s some is =
    let one : k ≡ suc k - 1 = omega arith in
    let after : ℕ = left_behind deck w s left in
    let next : World = happens deck w (turn_of s) in
    ap (lap_from deck (suc k) left w) is
    ∙ ap (λ x. turn_of s ∷ lap_from deck x after next (next_of after next)) one

pub lap_from-none : (deck : Deck) (most left : ℕ) (w : World) (o : Option SysId) → o ≡ None
    → lap_from deck most left w o ≡ []
lap_from-none deck zero left w o is = refl
lap_from-none deck (suc k) left w o is = ap (lap_from deck (suc k) left w) is

pub ruleset lapped = (lap_from-more, lap_from-none, run-push)

-- ---- the events that are left, one event more
cut-other : (s : SysId) (n : ℕ) (e : Event) (es : List Event) → (e.system.0 == s.0) ≡ false
    → cut s n (e ∷ es) ≡ e ∷ cut s n es
cut-other s zero e es h = ap (λ b. cond (not b) (e ∷ cut s zero es) (cut s zero es)) h
cut-other s (suc n) e es h = ap (λ b. e ∷ cut s (cond b n (suc n)) es) h

cut-own : (s : SysId) (n : ℕ) (e : Event) (es : List Event) → (e.system.0 == s.0) ≡ true
    → cut s (suc n) (e ∷ es) ≡ e ∷ cut s n es
cut-own s n e es h = ap (λ b. e ∷ cut s (cond b n (suc n)) es) h

cut-gone : (s : SysId) (e : Event) (es : List Event) → (e.system.0 == s.0) ≡ true → cut s 0 (e ∷ es) ≡ cut s 0 es
cut-gone s e es h = ap (λ b. cond (not b) (e ∷ cut s zero es) (cut s zero es)) h

-- at a place of all events
pub cut-made : (s : SysId) (n m : ℕ) (es : List Event) (i : ℕ) (e : Event) → i < length es → e ≡ get_or es i e
    → left_of s n e ≡ Some m → cut s n (drop i es) ≡ e ∷ cut s m (drop (i + 1) es)
unfolding left_of
cut-made s n m es i e l at h =
    at_drop_more (cut s n) es i e l
    ∙ ap (λ x. cut s n (x ∷ drop (i + 1) es)) (sym at)
    ∙ go n (e.system.0 == s.0) refl h
  where
    go : (k : ℕ) (b : Bool) → (e.system.0 == s.0) ≡ b → cond b (cond (k == 0) None (Some (k - 1))) (Some k) ≡ Some m
        → cut s k (e ∷ drop (i + 1) es) ≡ e ∷ cut s m (drop (i + 1) es)
    go zero true own is = cc
    go (suc k) true own is =
        let one : suc k - 1 ≡ k = omega arith in
        let some : (suc k == 0) ≡ false = ne_eqb (suc k) 0 (λ z. absurd (omega (arith, z))) in
        let now : Some (suc k - 1) ≡ Some m = sym (ap (λ z. cond z None (Some (suc k - 1))) some) ∙ is in
        cut-own s k e (drop (i + 1) es) own
        ∙ ap (λ x. e ∷ cut s x (drop (i + 1) es)) (sym one ∙ same_Some (suc k - 1) m now)
    go k false other is =
        cut-other s k e (drop (i + 1) es) other ∙ ap (λ x. e ∷ cut s x (drop (i + 1) es)) (same_Some k m is)

pub cut-left_out : (s : SysId) (n : ℕ) (es : List Event) (i : ℕ) (e : Event) → i < length es → e ≡ get_or es i e
    → left_of s n e ≡ None → cut s n (drop i es) ≡ cut s n (drop (i + 1) es)
unfolding left_of
cut-left_out s n es i e l at h =
    at_drop_more (cut s n) es i e l
    ∙ ap (λ x. cut s n (x ∷ drop (i + 1) es)) (sym at)
    ∙ go n (e.system.0 == s.0) refl h
  where
    go : (k : ℕ) (b : Bool) → (e.system.0 == s.0) ≡ b → cond b (cond (k == 0) None (Some (k - 1))) (Some k) ≡ None
        → cut s k (e ∷ drop (i + 1) es) ≡ cut s k (drop (i + 1) es)
    go zero true own is = cut-gone s e (drop (i + 1) es) own
    go (suc k) true own is =
        let some : (suc k == 0) ≡ false = ne_eqb (suc k) 0 (λ z. absurd (omega (arith, z))) in
        let now : Some (suc k - 1) ≡ None = sym (ap (λ z. cond z None (Some (suc k - 1))) some) ∙ is in
        cc
    go k false other is = cc

-- what the loop keeps
pub kept-made : {e : Event} (s : SysId) (n m : ℕ) (es : List Event) (i : ℕ) (kept kept' all : List Event) (n' : ℕ)
    → i < length es → e ≡ get_or es i e → left_of s n e ≡ Some m → kept ++ cut s n (drop i es) ≡ all
    → kept' ≡ kept ++ e ∷ [] → n' ≡ m → kept' ++ cut s n' (drop (i + 1) es) ≡ all
kept-made {e = e} s n m es i kept kept' all n' l at h is grew now =
    ap (λ xs. xs ++ cut s n' (drop (i + 1) es)) grew
    ∙ (ap (λ k. (kept ++ e ∷ []) ++ cut s k (drop (i + 1) es)) now
    ∙ (append_assoc kept (e ∷ []) (cut s m (drop (i + 1) es))
    ∙ (ap (λ xs. kept ++ xs) (sym (cut-made s n m es i e l at h)) ∙ is)))

pub kept-out : {e : Event} (s : SysId) (n : ℕ) (es : List Event) (i : ℕ) (kept kept' all : List Event) (n' : ℕ)
    → i < length es → e ≡ get_or es i e → left_of s n e ≡ None → kept ++ cut s n (drop i es) ≡ all
    → kept' ≡ kept → n' ≡ n → kept' ++ cut s n' (drop (i + 1) es) ≡ all
kept-out {e = e} s n es i kept kept' all n' l at h is same now =
    ap (λ xs. xs ++ cut s n' (drop (i + 1) es)) same
    ∙ (ap (λ k. kept ++ cut s k (drop (i + 1) es)) now
    ∙ (ap (λ xs. kept ++ xs) (sym (cut-left_out s n es i e l at h)) ∙ is))

-- ---- as the code finds them
none-by : {X : Type 0} (o : Option X) (b : Bool) → is_some o ≡ not b → b ≡ is_none o
none-by None true h = refl
none-by None false h = absurd cc
none-by (Some x) true h = absurd cc
none-by (Some x) false h = refl

pub served-by :
    (deck : Deck) (n : NodeState) (m : MediumState) (c : SysId) (known : ℕ) (o : Option TurnRefusal) (b : Bool)
    → prepare deck n Turn ≡ Call (calls.turn_of n known) → option_map refusal_reply o ≡ refusal m c known
    → is_some o ≡ not b → b ≡ is_turned (reply_by m c (call_in (prepare deck n Turn)))
served-by deck n m c known o b asks at h = none-by o b h ∙ sym (turned-call deck n m c known o asks at)

pub served-at : (deck : Deck) (vs : List NodeView) (w : World) (s : SysId) (v : NodeView) → w.nodes ≡ nodes_of vs
    → AreOf deck vs → v ≡ get_or vs s.0 v → is_live w s ≡ true
    → is_turned (reply_by w.medium s (call_in (prepare v.deck v.node Turn)))
    ≡ is_turned (reply_of deck w (turn_of s))
served-at deck vs w s v nodes all at lives =
    let low = ltb-true s.0 (length w.nodes) (and_parts (nat_lt s.0 (length w.nodes)) _ lives).0 in
    let below : s.0 < length vs =
    subst (λ (k : ℕ). s.0 < k) (ap length nodes ∙ length-map vs (λ (x : NodeView). x.node)) low in
    let deck_is : v.deck ≡ deck = ap (λ (x : NodeView). x.deck) at ∙ AreOf-get deck vs s.0 v below all in
    let node_is : v.node ≡ node_at deck w.nodes s =
    ap (λ (x : NodeView). x.node) at
    ∙ (sym (nodes_of-get vs s.0 v (first_node deck s.0) below)
    ∙ ap (λ ns. node_at deck ns s) (sym nodes)) in
    ap (λ d. is_turned (reply_by w.medium s (call_in (prepare d v.node Turn)))) deck_is
    ∙ (ap (λ n. is_turned (reply_by w.medium s (call_in (prepare deck n Turn)))) node_is
    ∙ ap is_turned (sym (reply_of-live deck w s lives)))

-- what the loop of a lap keeps
pub lap-more : (deck0 : Deck) (w0 : World) (now now' : Running) (most left left' : ℕ) (s : SysId)
    (turns turns' all : List Event) (bound : ℕ)
    → now.deck ≡ deck0 → turns ++ lap_from now.deck most left now.world (next_of left now.world) ≡ all
    → now.world ≡ run_from deck0 w0 turns → length turns + most ≤ bound → 0 < most
    → next_of left now.world ≡ Some s → now' ≡ after now (turn_of s) → left' ≡ left_behind now.deck now.world s left
    → turns' ≡ turns ++ turn_of s ∷ []
    → (now'.deck ≡ deck0)
    × (turns' ++ lap_from now'.deck (most - 1) left' now'.world (next_of left' now'.world) ≡ all)
    × (now'.world ≡ run_from deck0 w0 turns')
    × (length turns' + (most - 1) ≤ bound)
lap-more deck0 w0 now now' most left left' s turns turns' all bound deck is world few some next step behind grew =
    let e = turn_of s in
    let deck_is : now'.deck ≡ now.deck = ap (λ (x : Running). x.deck) step in
    let world_is : now'.world ≡ happens now.deck now.world e = ap (λ (x : Running). x.world) step in
    let rest : lap_from now.deck most left now.world (next_of left now.world)
    ≡ e ∷ lap_from now'.deck (most - 1) left' now'.world (next_of left' now'.world) =
    lap_from-more now.deck most left now.world (next_of left now.world) s some next
    ∙ (ap (λ x. e ∷ lap_from now.deck (most - 1) x (happens now.deck now.world e)
    (next_of x (happens now.deck now.world e))) (sym behind)
    ∙ (ap (λ x. e ∷ lap_from now.deck (most - 1) left' x (next_of left' x)) (sym world_is)
    ∙ ap (λ d. e ∷ lap_from d (most - 1) left' now'.world (next_of left' now'.world)) (sym deck_is))) in
    let count : length turns' ≡ length turns + 1 = ap length grew ∙ length-append turns (e ∷ []) in (
      deck_is ∙ deck,
      ap (λ xs. xs ++ lap_from now'.deck (most - 1) left' now'.world (next_of left' now'.world)) grew
          ∙ (append_assoc turns (e ∷ []) (lap_from now'.deck (most - 1) left' now'.world (next_of left' now'.world))
          ∙ (ap (λ xs. turns ++ xs) (sym rest) ∙ is)),
      world_is
          ∙ (ap (λ d. happens d now.world e) deck
          ∙ (ap (λ x. happens deck0 x e) world
          ∙ (sym (run-push deck0 turns w0 e) ∙ ap (run_from deck0 w0) (sym grew)))),
      omega (arith, count, few, some),
    )
