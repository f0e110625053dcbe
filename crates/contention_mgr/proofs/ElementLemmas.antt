-- Whose elements a manager keeps.
use Rattle.std.proofs.Common.{◌≡◌, ℕ, Bool, true, false, cond, not, List, [], ◌∷◌, ◌++◌, map, filter, Option, Some}
use Rattle.std.proofs.Common.{None, zero, suc, refl, arith, length}
use Rattle.std.specs.Prelude.{◌==◌, slice_set}
use Rattle.std.specs.List.{list_all}
use Rattle.std.specs.Option.{option_map, option_map_or}
use Rattle.grs_base.specs.Lists.{decide_enq, is_owner, standing_of}
use Rattle.grs_base.specs.State.{State, list_of}
use Rattle.grs_base.specs.declared.decision.Effect.{Effect}
use Rattle.grs_base.specs.declared.decision.Effect.TheVariants.{Nothing, Append, MakeExclusive}
use Rattle.grs_base.specs.declared.resource.Ctl.{Ctl}
use Rattle.grs_base.specs.declared.resource.Res.{Res}
use Rattle.grs_base.specs.declared.resource.TaskId.{TaskId}
use Rattle.grs_wire.specs.Wants.{new_owners}
use Rattle.grs_wire.specs.declared.request.Want.{Want}
use Rattle.grs_wire.specs.declared.request.Want.TheVariants.{Enq, Deq, Release, Look}
use Rattle.grs_wire.specs.declared.gather.PartRec.{PartRec}
use Rattle.contention_mgr.specs.Elements.{all_of, elements_of, ElementsAreAskers, TellingKeepsElements}
use Rattle.contention_mgr.specs.Elements.{LosingKeepsElements, InstalledAreRecords}
use Rattle.contention_mgr.specs.Installs.{lists_of, kept_of}
use Rattle.contention_mgr.specs.Loses.{Freed, freed_lists, stays, with_freed, lost}
use Rattle.contention_mgr.specs.Manager.{Ranked, Managed, ManagerView, plain, is_of, exclusive, marked, taken_out}
use Rattle.contention_mgr.specs.Manager.{with_mark, with_control, enqueued, given_up, settled, items_of, kept_at}
use Rattle.contention_mgr.specs.Manager.{kept_for, managed_for, managed_of, with_entry, entry_wanted, after_request}
use Rattle.contention_mgr.specs.Manager.{after_telling, told}
use Rattle.lock_structure.specs.Entries.{entry_of_res}

module _ (p : TaskId → Bool) where
  push : (xs : List Ranked) (y : Ranked) → elements_of p xs ≡ true → p y.elem.task ≡ true
      → elements_of p (xs ++ y ∷ []) ≡ true
  push [] y h new = grind (arith, new)
  push (x ∷ xs) y h new = grind (arith, h, push xs y)

  elements-map : (f : Ranked → Ranked) → ((x : Ranked) → (f x).elem.task ≡ x.elem.task) → (xs : List Ranked)
      → elements_of p xs ≡ true → elements_of p (map f xs) ≡ true
  elements-map f same [] h = refl
  elements-map f same (x ∷ xs) h = grind (arith, h, same x, elements-map f same xs)

  elements-filter : (k : Ranked → Bool) (xs : List Ranked) → elements_of p xs ≡ true
      → elements_of p (filter k xs) ≡ true
  elements-filter k [] h = refl
  elements-filter k (x ∷ xs) h = grind (arith, h, elements-filter k xs)

  cond-task : (f : Ranked → Ranked) (b : Bool) (x : Ranked) → (f x).elem.task ≡ x.elem.task
      → (cond b (f x) x).elem.task ≡ x.elem.task
  cond-task f true x e = e
  cond-task f false x e = refl

  elements-mark : (b : Bool) (r : Res) (t : TaskId) (xs : List Ranked) → elements_of p xs ≡ true
      → elements_of p (with_mark b r t xs) ≡ true
  elements-mark b r t xs h =
      elements-map (λ x. cond (is_of r t x) (marked b x) x) (λ x. cond-task (marked b) (is_of r t x) x refl) xs h

  elements-control : (s : ℕ) (r : Res) (ts : List TaskId) (xs : List Ranked) → elements_of p xs ≡ true
      → elements_of p (with_control s r ts xs) ≡ true
  elements-control s r [] xs h = h
  elements-control s r (t ∷ ts) xs h =
      elements-control s r ts (cond (not (s == t.system.0)) (with_mark true r t xs) xs) (step (not (s == t.system.0)))
    where
      step : (b : Bool) → elements_of p (cond b (with_mark true r t xs) xs) ≡ true
      step true = elements-mark true r t xs h
      step false = h

  elements-given : (s : ℕ) (m : Managed) (r : Res) (t : TaskId) (ts : List TaskId) → elements_of p m.items ≡ true
      → elements_of p (given_up s m r t ts).items ≡ true
  elements-given s m r t ts h =
      elements-control s r ts (taken_out r t m.items) (elements-filter (λ x. not (is_of r t x)) m.items h)

  elements-enqueued : (m : Managed) (r : Res) (t : TaskId) (c : Ctl) (e : Effect) → p t ≡ true
      → elements_of p m.items ≡ true → elements_of p (enqueued m r t c e).items ≡ true
  elements-enqueued m r t c Nothing own h = h
  elements-enqueued m r t c Append own h =
      push m.items (record { res = r; elem = record { task = t; ctl = c }; rank = m.next; untold = false }) h own
  elements-enqueued m r t c MakeExclusive own h =
      elements-map (λ x. cond (is_of r t x) (exclusive x) x) (λ x. cond-task exclusive (is_of r t x) x refl) m.items h

  -- the elements of an entry after a request
  pub elements-settled : (s : ℕ) (m : Managed) (t : TaskId) (w : Want) → p t ≡ true → elements_of p m.items ≡ true
      → elements_of p (settled s m t w).items ≡ true
  elements-settled s m t (Enq r c ret full) own h =
      elements-enqueued m r t c (decide_enq (list_of (plain m.items) r) t c ret full).effect own h
  elements-settled s m t (Deq r have) own h = step (is_owner (standing_of (list_of (plain m.items) r) t))
    where
      step : (b : Bool)
          → elements_of p (cond b (given_up s m r t (new_owners (plain m.items) t (Deq r have))) m).items ≡ true
      step true = elements-given s m r t (new_owners (plain m.items) t (Deq r have)) h
      step false = h
  elements-settled s m t (Release r) own h = elements-given s m r t (new_owners (plain m.items) t (Release r)) h
  elements-settled s m t (Look first count f) own h = h

  -- what is kept of one entry, and another entry in its place
  pub elements-kept : (es : List (Option Managed)) (e : ℕ) → all_of p es ≡ true
      → elements_of p (items_of (kept_at es e)) ≡ true
  elements-kept [] e h = refl
  elements-kept (o ∷ es) zero h = grind (arith, h)
  elements-kept (o ∷ es) (suc e) h = elements-kept es e (grind (arith, h))

  pub elements-set : (es : List (Option Managed)) (e : ℕ) (o : Option Managed) → all_of p es ≡ true
      → elements_of p (items_of o) ≡ true → all_of p (slice_set es e o) ≡ true
  elements-set [] e o h new = refl
  elements-set (x ∷ es) zero o h new = grind (arith, h, new)
  elements-set (x ∷ es) (suc e) o h new = grind (arith, h, elements-set es e o)

  elements-for : (es : List (Option Managed)) (at : Option ℕ) → all_of p es ≡ true
      → elements_of p (items_of (kept_for es at)) ≡ true
  elements-for es None h = refl
  elements-for es (Some e) h = elements-kept es e h

  elements-entry : (v : ManagerView) (at : Option ℕ) (m : Managed) → all_of p v.entries ≡ true
      → elements_of p m.items ≡ true → all_of p (with_entry v at (Some m)).entries ≡ true
  elements-entry v None m h new = h
  elements-entry v (Some e) m h new = elements-set v.entries e (Some m) h new

  after-request : (v : ManagerView) (t : TaskId) (w : Want) → p t ≡ true → all_of p v.entries ≡ true
      → all_of p (after_request v t w).entries ≡ true
  after-request v t w own h = go (managed_for v w) (elements-for v.entries (entry_wanted (length v.entries) w) h)
    where
      go : (o : Option Managed) → elements_of p (items_of o) ≡ true
          → all_of p (option_map_or
          (λ m. with_entry v (entry_wanted (length v.entries) w) (Some (settled v.system.0 m t w))) o v).entries
          ≡ true
      go None k = h
      go (Some m) k =
          elements-entry v (entry_wanted (length v.entries) w) (settled v.system.0 m t w) h
          (elements-settled v.system.0 m t w own k)

  after-telling : (v : ManagerView) (t : TaskId) (r : Res) → all_of p v.entries ≡ true
      → all_of p (after_telling v t r).entries ≡ true
  after-telling v t r h = go (managed_of v r) (elements-for v.entries (entry_of_res (length v.entries) r) h)
    where
      go : (o : Option Managed) → elements_of p (items_of o) ≡ true
          → all_of p (option_map_or (λ m. with_entry v (entry_of_res (length v.entries) r) (Some (told t r m))) o
          v).entries
          ≡ true
      go None k = h
      go (Some m) k =
          elements-entry v (entry_of_res (length v.entries) r) (told t r m) h (elements-mark false r t m.items k)

  -- the elements of an entry, and of all, behind the loss of a system
  elements-freed : (s : ℕ) (fs : List Freed) (xs : List Ranked) → elements_of p xs ≡ true
      → elements_of p (with_freed s fs xs) ≡ true
  elements-freed s [] xs h = h
  elements-freed s (f ∷ fs) xs h = elements-freed s fs (with_control s f.0 f.1 xs) (elements-control s f.0 f.1 xs h)

  elements-lost : (s n : ℕ) (m : Managed) → elements_of p m.items ≡ true → elements_of p (lost s n m).items ≡ true
  elements-lost s n m h =
      elements-freed s (freed_lists n (plain m.items)) (filter (stays n) m.items) (elements-filter (stays n) m.items h)

  all-lost : (s n : ℕ) (es : List (Option Managed)) → all_of p es ≡ true
      → all_of p (map (option_map (lost s n)) es) ≡ true
  all-lost s n [] h = refl
  all-lost s n (None ∷ es) h = all-lost s n es h
  all-lost s n (Some m ∷ es) h = grind (arith, h, elements-lost s n m, all-lost s n es)

  -- the elements of records
  elements-kept-of : (s : ℕ) (lists : State) (recs : List PartRec) → list_all (λ y. p y.task) recs ≡ true
      → elements_of p (map (kept_of s lists) recs) ≡ true
  elements-kept-of s lists [] h = refl
  elements-kept-of s lists (y ∷ ys) h = grind (arith, h, elements-kept-of s lists ys)

pub elements_are_askers : ElementsAreAskers
elements_are_askers p v t w own h = after-request p v t w own h

pub telling_keeps_elements : TellingKeepsElements
telling_keeps_elements p v t r h = after-telling p v t r h

pub losing_keeps_elements : LosingKeepsElements
losing_keeps_elements p v t h = all-lost p v.system.0 t.0 v.entries h

pub installed_are_records : InstalledAreRecords
installed_are_records p s recs h = elements-kept-of p s (lists_of recs) recs h
