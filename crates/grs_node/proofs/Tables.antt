-- A system's table of the Systems resources goes on to have elements of systems of the deck alone, and no task twice in
-- a list.
use Rattle.std.proofs.Common.{◌≡◌, ℕ, Bool, true, false, cond, not, ◌&&◌, List, [], ◌∷◌, ◌++◌, refl, ap, sym, subst}
use Rattle.std.specs.Prelude.{◌==◌, filter}
use Rattle.std.specs.List.{list_all}
use Rattle.std.proofs.lemmas.Bool.{and_parts}
use Rattle.grs_base.specs.Lists.{decide_enq, is_owner, standing_of}
use Rattle.grs_base.specs.Same.{same_res}
use Rattle.grs_base.specs.State.{State, list_of, is_at, is_systems, without, with_exclusive, after_effect, remove_state}
use Rattle.grs_base.specs.declared.decision.Effect.{Effect}
use Rattle.grs_base.specs.declared.decision.Effect.TheVariants.{Nothing, Append, MakeExclusive}
use Rattle.grs_base.specs.declared.resource.Ctl.{Ctl}
use Rattle.grs_base.specs.declared.resource.Ctl.TheVariants.{E}
use Rattle.grs_base.specs.declared.resource.Elem.{Elem}
use Rattle.grs_base.specs.declared.resource.Res.{Res}
use Rattle.grs_base.specs.declared.resource.TaskId.{TaskId}
use Rattle.grs_node.specs.Log.{stepped}
use Rattle.grs_node.specs.Node.{NodeState, Step, read_entry, read_entries, put_in, is_of_deck, with_side}
use Rattle.grs_wire.proofs.RemoveLaws.{apart-remove}
use Rattle.grs_wire.proofs.WantLaws.{apart-want}
use Rattle.grs_wire.specs.Wants.{after_want, res_wanted, is_for_all}
use Rattle.grs_wire.specs.declared.deck.Deck.{Deck}
use Rattle.grs_wire.specs.declared.medium.RingBody.{RingBody}
use Rattle.grs_wire.specs.declared.medium.RingBody.TheVariants as bodies
use Rattle.grs_wire.specs.declared.medium.RingEntry.{RingEntry}
use Rattle.grs_wire.specs.declared.request.Fixed.{Fixed}
use Rattle.grs_wire.specs.declared.request.Req.{Req}
use Rattle.grs_wire.specs.declared.request.Want.{Want}
use Rattle.grs_wire.specs.declared.request.Want.TheVariants.{Enq, Deq, Release, Look}
use Rattle.mode_migrate.specs.Migrate.{AreApart}
use Rattle.ring_mode.specs.Ring.{Side, side_of, process, process_entry}

both : (a b : Bool) → a ≡ true → b ≡ true → (a && b) ≡ true
both true true e f = refl
both true false e f = absurd cc
both false b e f = absurd cc

-- ---- of one request
module _ (p : TaskId → Bool) where
  abbrev pub all_of : State → Bool
  all_of t = list_all (λ h. p h.1.task) t

  all-push : (t : State) (r : Res) (x : Elem) → all_of t ≡ true → p x.task ≡ true → all_of (t ++ (r, x) ∷ []) ≡ true
  all-push [] r x h new = both (p x.task) true new refl
  all-push (y ∷ t) r x h new =
      both (p y.1.task) _ (and_parts (p y.1.task) _ h).0 (all-push t r x (and_parts (p y.1.task) _ h).1 new)

  all-filter : (test : Res × Elem → Bool) (t : State) → all_of t ≡ true → all_of (filter test t) ≡ true
  all-filter test [] h = refl
  all-filter test (y ∷ t) h = go (test y) (all-filter test t (and_parts (p y.1.task) _ h).1)
    where
      go : (b : Bool) → all_of (filter test t) ≡ true → all_of (cond b (y ∷ filter test t) (filter test t)) ≡ true
      go true rest = both (p y.1.task) _ (and_parts (p y.1.task) _ h).0 rest
      go false rest = rest

  all-exclusive : (t : State) (r : Res) (u : TaskId) → all_of t ≡ true → all_of (with_exclusive same_res t r u) ≡ true
  all-exclusive [] r u h = refl
  all-exclusive (y ∷ t) r u h =
      both _ _ (go (is_at same_res r u y)) (all-exclusive t r u (and_parts (p y.1.task) _ h).1)
    where
      go : (b : Bool) → p (cond b (y.0, record { task = y.1.task; ctl = E }) y).1.task ≡ true
      go true = (and_parts (p y.1.task) _ h).0
      go false = (and_parts (p y.1.task) _ h).0

  all-effect : (t : State) (r : Res) (u : TaskId) (c : Ctl) (e : Effect) → all_of t ≡ true → p u ≡ true
      → all_of (after_effect t r u c e) ≡ true
  all-effect t r u c Nothing h new = h
  all-effect t r u c Append h new = all-push t r (record { task = u; ctl = c }) h new
  all-effect t r u c MakeExclusive h new = all-exclusive t r u h

  all-without : (t : State) (r : Res) (u : TaskId) → all_of t ≡ true → all_of (without same_res t r u) ≡ true
  all-without t r u h = all-filter (λ x. not (is_at same_res r u x)) t h

  all-want : (t : State) (u : TaskId) (w : Want) → all_of t ≡ true → p u ≡ true → all_of (after_want t u w) ≡ true
  all-want t u (Enq r c ret full) h new = all-effect t r u c (decide_enq (list_of t r) u c ret full).effect h new
  all-want t u (Deq r have) h new = go (is_owner (standing_of (list_of t r) u))
    where
      go : (b : Bool) → all_of (cond b (without same_res t r u) t) ≡ true
      go true = all-without t r u h
      go false = h
  all-want t u (Release r) h new = all-without t r u h
  all-want t u (Look first count f) h new = h

-- ---- of an entry of the message
-- what holds of a table behind each request of a task of the deck, and behind each removal, holds of that of a system
-- which has read entries
module _ (deck : Deck) (P : State → Type 0)
    (kept : (t : State) (u : TaskId) (w : Want) → is_of_deck deck u ≡ true → P t → P (after_want t u w))
    (left : (t : State) (s : ℕ) → P t → P (remove_state t s)) where
  process-kept : (side : Side) (q : Req) → is_of_deck deck q.task ≡ true → P side.shared
      → P (process_entry side q).shared
  unfolding process process_entry
  process-kept side q own h = go (is_for_all (res_wanted q.want))
    where
      go : (b : Bool) → P (cond b (process side q) side).shared
      go true = kept side.shared q.task q.want own h
      go false = h

  entry-kept : (n : NodeState) (b : RingBody) → P n.shared → P (read_entry deck n b).shared
  entry-kept n (bodies.Request q) h = go (is_of_deck deck q.task) refl
    where
      go : (b : Bool) → is_of_deck deck q.task ≡ b
          → P (cond b (with_side n (process_entry (side_of n.tasks n.shared) q)) n).shared
      go true is = process-kept (side_of n.tasks n.shared) q is h
      go false is = h
  entry-kept n (bodies.Remove target) h = left n.shared target.0 h

  pub entries-kept : (n : NodeState) (es : List RingEntry) → P n.shared → P (read_entries deck n es).shared
  unfolding read_entries
  entries-kept n [] h = h
  entries-kept n (e ∷ es) h = entries-kept (read_entry deck n e.body) es (entry-kept n e.body h)

-- no task comes to stand twice
pub apart-entries : (deck : Deck) (n : NodeState) (es : List RingEntry) → AreApart n.shared
    → AreApart (read_entries deck n es).shared
apart-entries deck n es h =
    entries-kept deck AreApart (λ t u w own apart r. apart-want t u w r apart)
    (λ t s apart r. apart-remove t s r (apart r)) n es h

-- and who comes is of a system that the deck has
pub all-entries : (p : TaskId → Bool) (deck : Deck) (n : NodeState) (es : List RingEntry)
    → ((t : TaskId) → is_of_deck deck t ≡ true → p t ≡ true) → list_all (λ h. p h.1.task) n.shared ≡ true
    → list_all (λ h. p h.1.task) (read_entries deck n es).shared ≡ true
all-entries p deck n es own h =
    entries-kept deck (λ t. list_all (λ x. p x.1.task) t ≡ true) (λ t u w is all. all-want p t u w all (own u is))
    (λ t s all. all-filter p (λ h. not (is_systems h.0 && (s == h.1.task.system.0))) t all) n es h

-- putting requests in leaves the table
pub apart-turned : (deck : Deck) (n m : NodeState) (es : List RingEntry) (taken : ℕ) (fixed : List Fixed)
    → AreApart n.shared → stepped m fixed ≡ put_in (read_entries deck n es) taken → AreApart m.shared
unfolding put_in
apart-turned deck n m es taken fixed h is =
    subst AreApart (sym (ap (λ (x : Step). x.node.shared) is)) (apart-entries deck n es h)
