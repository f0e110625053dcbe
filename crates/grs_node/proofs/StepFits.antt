-- A system's part in star mode goes on to fit the deck, whatever step it takes.
use Rattle.std.proofs.Common.{◌≡◌, ◌≢◌, ◌<◌, ◌+◌, ℕ, Bool, true, false, cond, List, [], ◌∷◌, ◌++◌, ◌⊎◌}
use Rattle.std.proofs.Common.{inl, inr, length, Option, Some, None, is_some, refl, ap, sym, ◌∙◌}
use Rattle.std.proofs.Common.{subst, arith}
use Rattle.std.specs.Prelude.{slice_get, not, ◌&&◌, ◌||◌, ◌==◌, nat_lt, slice_set}
use Rattle.std.specs.List.{list_all, list_any}
use Rattle.std.specs.Option.{option_map_or}
use Rattle.std.proofs.lemmas.Bool.{and_parts, eqb-true, eq-eqb, false≢true}
use Rattle.std.proofs.lemmas.List.{length-set}
use Rattle.contention_mgr.proofs.ElementLemmas.{elements_are_askers, telling_keeps_elements}
use Rattle.contention_mgr.proofs.ElementLemmas.{elements-set}
use Rattle.contention_mgr.specs.Elements.{elements_of}
use Rattle.contention_mgr.specs.Manager.{Managed, ManagerView, no_elements}
use Rattle.contention_mgr.specs.Manager.{entry_wanted, managed_at, managed_of, managed_for, items_of}
use Rattle.contention_mgr.specs.Manager.{with_entry, settled, told, after_request, after_telling, kept_for}
use Rattle.lock_structure.specs.Entries.{entry_of_res, is_entry}
use Rattle.grs_base.specs.declared.resource.Res.{Res}
use Rattle.grs_base.specs.declared.resource.TaskId.{TaskId}
use Rattle.grs_node.specs.Addressed.{is_within, PartFits}
use Rattle.grs_node.specs.Addressed.{NodeFits}
use Rattle.grs_node.specs.Removal.{IsOrderly}
use Rattle.grs_node.specs.Node.{NodeState}
use Rattle.grs_node.specs.Node.{is_of_deck}
use Rattle.grs_node.specs.Star.{StarPart, first_held}
use Rattle.grs_node.specs.Star.{manages, gathers}
use Rattle.grs_node.specs.Star.{gathers_asked, may_settle, entry_for, is_kept, is_held_for}
use Rattle.grs_node.specs.Star.{is_done_with, own_step, decide_own, managing, begun, begin_at, sent_to}
use Rattle.grs_node.specs.Star.{with_held, settled_by, settled_first, told_by, not_managing, left_at}
use Rattle.grs_wire.specs.Masks.{has}
use Rattle.star_client.specs.Owes.{owing}
use Rattle.grs_node.proofs.Orderly.{at, set-cases, apart-set, kept-changes, orderly-more}
use Rattle.grs_node.proofs.Orderly.{orderly-same}
use Rattle.grs_node.proofs.RemovalFits.{gathering-owing}
use Rattle.grs_legal.specs.Asks.{scripts_at, lines_in, meanings}
use Rattle.grs_wire.specs.declared.deck.SystemDef.{SystemDef}
use Rattle.std.proofs.lemmas.Option.{slice_get_within}
use Rattle.grs_wire.specs.declared.deck.Deck.{Deck}
use Rattle.grs_wire.specs.declared.request.Req.{Req}
use Rattle.grs_wire.specs.declared.request.Want.{Want}
use Rattle.task_state.specs.View.{TasksView, is_task}
use Rattle.task_state.specs.declared.state.Asked.{Asked}
use Rattle.grs_node.proofs.AskFits.{lt-below, found, left-others}

-- ---- what a step leaves
-- a manager of the same system, of as many lock entries
abbrev SameManager : ManagerView → ManagerView → Type 0
SameManager v w = (w.system.0 ≡ v.system.0) × (length w.entries ≡ length v.entries)

-- one that has something else of an entry, where there is something to have
same-manager : (v : ManagerView) (f : Managed → Managed) (o : Option Managed) (at : Option ℕ)
    → SameManager v (option_map_or (λ m. with_entry v at (Some (f m))) o v)
same-manager v f None at = (refl, refl)
same-manager v f (Some m) None = (refl, refl)
same-manager v f (Some m) (Some e) = (refl, length-set v.entries e (Some (f m)))

same-request : (v : ManagerView) (t : TaskId) (w : Want) → SameManager v (after_request v t w)
same-request v t w =
    same-manager v (λ m. settled v.system.0 m t w) (managed_for v w) (entry_wanted (length v.entries) w)

same-telling : (v : ManagerView) (t : TaskId) (r : Res) → SameManager v (after_telling v t r)
same-telling v t r = same-manager v (told t r) (managed_of v r) (entry_of_res (length v.entries) r)

all-push : (f : Req → Bool) (qs : List Req) (q : Req) → list_all f qs ≡ true → f q ≡ true
    → list_all f (qs ++ q ∷ []) ≡ true
all-push f [] q h new = grind (arith, new)
all-push f (x ∷ qs) q h new = grind (arith, h, all-push f qs q)

-- an entry that isn't gathered may be managed
managed-orderly : (p : StarPart) (e : ℕ) (m : Managed) → IsOrderly p → gathers p e ≡ false
    → IsOrderly (record p { manager = with_entry p.manager (Some e) (Some m) })
managed-orderly p e m h free =
    orderly-more p (record p { manager = with_entry p.manager (Some e) (Some m) })
    (length-set p.manager.entries e (Some m)) (h.count ∙ sym (length-set p.manager.entries e (Some m))) more
    (apart-set p.manager.entries p.gathers e (Some m) h.apart (λ s. free))
    h.held
  where
    more : (k : ℕ) → (manages p k || gathers p k) ≡ true
        → (is_some (at (slice_set p.manager.entries e (Some m)) k) || gathers p k) ≡ true
    more k is = go (set-cases p.manager.entries e k (Some m))
      where
        go : (at (slice_set p.manager.entries e (Some m)) k ≡ at p.manager.entries k)
            ⊎ ((k ≡ e) × (at (slice_set p.manager.entries e (Some m)) k ≡ Some m))
            → (is_some (at (slice_set p.manager.entries e (Some m)) k) || gathers p k) ≡ true
        go (inl same) = ap (λ (o : Option Managed). is_some o || gathers p k) same ∙ is
        go (inr now) = ap (λ (o : Option Managed). is_some o || gathers p k) now.1

-- an entry of which no request is held may be given up
left-orderly : (p : StarPart) (e : ℕ) → IsOrderly p → is_some (managed_at p.manager e) ≡ true
    → is_done_with p e ≡ true → IsOrderly (record p { manager = with_entry p.manager (Some e) None })
left-orderly p e h managed done =
    record {
      count = h.count ∙ sym (length-set p.manager.entries e None);
      apart = apart-set p.manager.entries p.gathers e None h.apart (λ s. absurd cc);
      held = kept p.held h.held none;
    }
  where
    of_entry : Req → Bool
    of_entry q = is_entry e (entry_for p q.want)

    none-of : (a b : Bool) → a ≡ true → not (a && b) ≡ true → b ≡ false
    none-of true true is k = absurd cc
    none-of true false is k = refl
    none-of false b is k = absurd cc

    none : list_any of_entry p.held ≡ false
    none =
        none-of (manages p e) (list_any of_entry p.held) managed
        (and_parts (length (items_of (managed_at p.manager e)) == 0) _ done).1

    -- a request of another entry is kept as before
    other : (q : Req) → of_entry q ≡ false → is_kept p q ≡ true
        → is_kept (record p { manager = with_entry p.manager (Some e) None }) q ≡ true
    other q apart k =
        subst (λ (n : ℕ).
        (is_some (kept_for (slice_set p.manager.entries e None) (entry_wanted n q.want))
        || gathers_asked p (entry_wanted n q.want))
        ≡ true)
        (sym (length-set p.manager.entries e None)) (go (entry_for p q.want) apart k)
      where
        go : (to : Option ℕ) → is_entry e to ≡ false
            → (is_some (kept_for p.manager.entries to) || gathers_asked p to) ≡ true
            → (is_some (kept_for (slice_set p.manager.entries e None) to) || gathers_asked p to) ≡ true
        go None away is = is
        go (Some i) away is = set (set-cases p.manager.entries e i None)
          where
            set : (at (slice_set p.manager.entries e None) i ≡ at p.manager.entries i)
                ⊎ ((i ≡ e) × (at (slice_set p.manager.entries e None) i ≡ None))
                → (is_some (at (slice_set p.manager.entries e None) i) || gathers p i) ≡ true
            set (inl same) = ap (λ (o : Option Managed). is_some o || gathers p i) same ∙ is
            set (inr there) = absurd (false≢true (sym away ∙ eq-eqb i e there.0))

    kept : (qs : List Req) → list_all (is_kept p) qs ≡ true → list_any of_entry qs ≡ false
        → list_all (is_kept (record p { manager = with_entry p.manager (Some e) None })) qs ≡ true
    kept [] all away = refl
    kept (q ∷ qs) all away =
        let parts = and_parts (is_kept p q) (list_all (is_kept p) qs) all in
        let apart = or-none (of_entry q) (list_any of_entry qs) away in
        joined _ _ (other q apart.0 parts.0) (kept qs parts.1 apart.1)
      where
        or-none : (a b : Bool) → (a || b) ≡ false → (a ≡ false) × (b ≡ false)
        or-none true b k = absurd cc
        or-none false b k = (refl, k)

        joined : (a b : Bool) → a ≡ true → b ≡ true → (a && b) ≡ true
        joined a b e f = rw (e, f) refl

-- a request that is to be held is of an entry that the system manages or gathers
held-kept : (known : ℕ) (p : StarPart) (e : ℕ) (q : Req) → is_held_for known p e q ≡ true → is_kept p q ≡ true
held-kept known p e q h = go (entry_for p q.want) parts.0
  where
    parts : (is_entry e (entry_for p q.want) ≡ true)
        × (((manages p e || gathers p e) && not (has known q.task.system.0)) ≡ true)
    parts = and_parts (is_entry e (entry_for p q.want)) _ h

    go : (to : Option ℕ) → is_entry e to ≡ true
        → (is_some (kept_for p.manager.entries to) || gathers_asked p to) ≡ true
    go None is = absurd cc
    go (Some i) is =
        subst (λ (k : ℕ). (manages p k || gathers p k) ≡ true) (sym (eqb-true i e is))
        (and_parts (manages p e || gathers p e) _ parts.1).0

module _ (deck : Deck) (home : ℕ) where
  with-interest-fits : (p : StarPart) (e : ℕ) (b : Bool) → PartFits deck home p
      → PartFits deck home (record p { interest = slice_set p.interest e b })
  with-interest-fits p e b h = record {
    system = h.system;
    some = h.some;
    entries = h.entries;
    interest = length-set p.interest e b ∙ h.interest;
    elements = h.elements;
    held = h.held;
    gathering = h.gathering;
    orderly = record { count = h.orderly.count; apart = h.orderly.apart; held = h.orderly.held };
  }

  entry-fits : (p : StarPart) (e : ℕ) (o : Option Managed) → PartFits deck home p
      → elements_of (is_within deck) (items_of o) ≡ true
      → IsOrderly (record p { manager = with_entry p.manager (Some e) o })
      → PartFits deck home (record p { manager = with_entry p.manager (Some e) o })
  entry-fits p e o h new orderly = record {
    system = h.system;
    some = h.some;
    entries = length-set p.manager.entries e o ∙ h.entries;
    interest = h.interest;
    elements = elements-set (is_within deck) p.manager.entries e o h.elements new;
    held = h.held;
    gathering = h.gathering;
    orderly = orderly;
  }

  request-fits : (p : StarPart) (t : TaskId) (w : Want) → PartFits deck home p → is_within deck t ≡ true
      → PartFits deck home (record p { manager = after_request p.manager t w })
  request-fits p t w h own =
      let same = same-request p.manager t w in record {
        system = same.0 ∙ h.system;
        some = h.some;
        entries = same.1 ∙ h.entries;
        interest = h.interest;
        elements = elements_are_askers (is_within deck) p.manager t w own h.elements;
        held = h.held;
        gathering = h.gathering;
        orderly =
            orderly-same p (record p { manager = after_request p.manager t w }) h.orderly same.1 refl
            (kept-changes p.manager (λ m. settled p.manager.system.0 m t w)
            (entry_wanted (length p.manager.entries) w))
            (λ e. refl) h.orderly.held;
      }

  own-fits : (v : TasksView) (p : StarPart) (t : TaskId) (o : Option Asked) → PartFits deck home p
      → is_within deck t ≡ true → PartFits deck home (own_step v p t o).part
  unfolding decide_own
  own-fits v p t None h own = h
  own-fits v p t (Some a) h own = request-fits p t a.req.want h own

  managing-fits : (p : StarPart) (e : ℕ) → PartFits deck home p → gathers p e ≡ false
      → PartFits deck home (record p { manager = managing p.manager e })
  managing-fits p e h free = go (is_some (managed_at p.manager e))
    where
      go : (b : Bool)
          → PartFits deck home
          (record p { manager = cond b p.manager (with_entry p.manager (Some e) (Some no_elements)) })
      go true = h
      go false = entry-fits p e (Some no_elements) h refl (managed-orderly p e no_elements h.orderly free)

  pub begin-fits : (v : TasksView) (p : StarPart) (t : TaskId) (o : Option Asked) (to : Option ℕ) → PartFits deck home p
      → is_within deck t ≡ true → gathers_asked p to ≡ false → PartFits deck home (begin_at v p t o to).part
  begin-fits v p t o None h own free = h
  begin-fits v p t o (Some e) h own free =
      own-fits v (begun p e) t o
      (with-interest-fits (record p { manager = managing p.manager e }) e true (managing-fits p e h free)) own

  pub sent-fits : (v : TasksView) (p : StarPart) (t : TaskId) (at : Option ℕ) → PartFits deck home p
      → PartFits deck home (sent_to v p t at).part
  sent-fits v p t None h = h
  sent-fits v p t (Some e) h = with-interest-fits p e true h

  pub with_held-fits : (known : ℕ) (p : StarPart) (e : ℕ) (q : Req) → PartFits deck home p
      → is_within deck q.task ≡ true
      → PartFits deck home (with_held known p e q)
  with_held-fits known p e q h own = go (is_held_for known p e q) refl
    where
      go : (b : Bool) → is_held_for known p e q ≡ b
          → PartFits deck home (cond b (record p { held = p.held ++ q ∷ [] }) p)
      go true is = record {
        system = h.system;
        some = h.some;
        entries = h.entries;
        interest = h.interest;
        elements = h.elements;
        held = all-push (λ x. is_within deck x.task) p.held q h.held own;
        gathering = h.gathering;
        orderly = record {
          count = h.orderly.count;
          apart = h.orderly.apart;
          held = all-push (is_kept p) p.held q h.orderly.held (held-kept known p e q is);
        };
      }
      go false is = h

  -- the request that is settled is of a system of the deck, and so are those that are left
  pub settled-fits : (v : TasksView) (p : StarPart) → PartFits deck home p
      → PartFits deck home (settled_by v p (first_held p)).part
  settled-fits v p h = go (first_held p) (found (λ q. is_within deck q.task) (may_settle p) p.held h.held)
    where
      part : (q : Req) → is_within deck q.task ≡ true → PartFits deck home (settled_first v p q).part
      part q own =
          let k : PartFits deck home (record p { manager = after_request p.manager q.task q.want }) =
          request-fits p q.task q.want h own in
          record {
            system = k.system;
            some = k.some;
            entries = k.entries;
            interest = k.interest;
            elements = k.elements;
            held = left-others (λ x. is_within deck x.task) (may_settle p) p.held h.held;
            gathering = k.gathering;
            orderly = record {
              count = k.orderly.count;
              apart = k.orderly.apart;
              held =
                  left-others (is_kept (record p { manager = after_request p.manager q.task q.want })) (may_settle p)
                  p.held k.orderly.held;
            };
          }

      go : (o : Option Req) → option_map_or (λ q. is_within deck q.task) o true ≡ true
          → PartFits deck home (settled_by v p o).part
      go None own = h
      go (Some q) own = part q own

  pub told-fits : (p : StarPart) (o : Option (TaskId × Res)) → PartFits deck home p → PartFits deck home (told_by p o)
  told-fits p None h = h
  told-fits p (Some x) h =
      let same = same-telling p.manager x.0 x.1 in record {
        system = same.0 ∙ h.system;
        some = h.some;
        entries = same.1 ∙ h.entries;
        interest = h.interest;
        elements = telling_keeps_elements (is_within deck) p.manager x.0 x.1 h.elements;
        held = h.held;
        gathering = h.gathering;
        orderly =
            orderly-same p (record p { manager = after_telling p.manager x.0 x.1 }) h.orderly same.1 refl
            (kept-changes p.manager (told x.0 x.1) (entry_of_res (length p.manager.entries) x.1)) (λ e. refl)
            h.orderly.held;
      }

  pub left-fits : (p : StarPart) (e : ℕ) → PartFits deck home p → is_done_with p e ≡ true
      → PartFits deck home (left_at p e)
  left-fits p e h done =
      with-interest-fits (record p { manager = not_managing p.manager e }) e false
      (go (is_some (managed_at p.manager e)) refl)
    where
      go : (b : Bool) → is_some (managed_at p.manager e) ≡ b
          → PartFits deck home (record p { manager = cond b (with_entry p.manager (Some e) None) p.manager })
      go true is = entry-fits p e None h refl (left-orderly p e h.orderly is done)
      go false is = h

  -- a part isn't owed any more
  pub sent-part-fits : (p : StarPart) (e : ℕ) → PartFits deck home p
      → PartFits deck home (record p { owes = owing p.owes e None })
  sent-part-fits p e h = record {
    system = h.system;
    some = h.some;
    entries = h.entries;
    interest = h.interest;
    elements = h.elements;
    held = h.held;
    gathering = gathering-owing deck p.gathers p.owes e None h.gathering refl;
    orderly = record { count = h.orderly.count; apart = h.orderly.apart; held = h.orderly.held };
  }

-- a task of the deck is of a system of the deck
pub deck-task : (deck : Deck) (t : TaskId) → is_of_deck deck t ≡ true → is_within deck t ≡ true
deck-task deck t h = go (slice_get deck.systems t.system.0) refl h
  where
    go : (o : Option SystemDef) → slice_get deck.systems t.system.0 ≡ o
        → is_some (meanings deck.lists t (lines_in (scripts_at o) t)) ≡ true → is_within deck t ≡ true
    go None is some = cc
    go (Some s) is some = lt-below t.system.0 (length deck.systems) (slice_get_within deck.systems t.system.0 s is)

-- an own task is
pub own-task : (deck : Deck) (n : NodeState) (t : TaskId) → NodeFits deck n → is_task n.tasks t ≡ true
    → is_within deck t ≡ true
own-task deck n t fits h =
    let own : n.tasks.system ≡ t.system.0 =
    eqb-true n.tasks.system t.system.0
    (and_parts (n.tasks.system == t.system.0) (nat_lt t.task (length n.tasks.tasks)) h).0 in
    let below : n.tasks.system < length deck.systems = fits.system in
    lt-below t.system.0 (length deck.systems) (subst (λ (s : ℕ). s < length deck.systems) own below)
