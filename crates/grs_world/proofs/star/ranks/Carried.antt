-- A test of a manager's elements that goes by resource, task and rank alone: which steps of the manager leave it true
-- of all of them. So an element's rank stays as long as it is kept.
use Rattle.grs_world.proofs.Common.{[], ◌&&◌, ◌==◌, ◌||◌, ◌∙◌, ◌∷◌, ◌≡◌, after_request, after_telling, and_from}
use Rattle.grs_world.proofs.Common.{and_parts, ap, Bool, by_test, cond, Ctl, Deq, Enq, entry_of_res, entry_wanted}
use Rattle.grs_world.proofs.Common.{eq-eqb, false, filter, has_task, items_of, kept_for, length, List, list_all}
use Rattle.grs_world.proofs.Common.{list_of, Look, Managed, managed_at, managed_of, ManagerView, map, new_owners}
use Rattle.grs_world.proofs.Common.{no_elements, no_truth, None, not, Option, option_map, option_map_or, or_left}
use Rattle.grs_world.proofs.Common.{or_right, PartRec, plain, Ranked, refl, Release, Res, res_wanted, same_res}
use Rattle.grs_world.proofs.Common.{same_res-exact, same_task, same_task-exact, same_task-itself, settled, Some}
use Rattle.grs_world.proofs.Common.{standing_of, State, SysId, TaskId, true, Want, with_entry, ℕ}
use Rattle.contention_mgr.specs.Loses.{after_losing, Freed, freed_lists, lost, stays, with_freed}
use Rattle.grs_base.specs.Lists.{decide_enq, is_owner}
use Rattle.grs_base.specs.declared.decision.Effect.{Effect}
use Rattle.contention_mgr.specs.Manager.{managed_for, appends, enqueued, exclusive, given_up, is_of, made_exclusive}
use Rattle.contention_mgr.specs.Manager.{marked, queues, taken_out, told as told_in, with_control, with_mark}
use Rattle.std.proofs.Common.{is_some}
use Rattle.contention_mgr.proofs.SettleLemmas.{queues-absent}
use Rattle.contention_mgr.specs.Elements.{holds}
use Rattle.contention_mgr.specs.Installs.{installed, kept_of, lists_of}
use Rattle.grs_node.proofs.Orderly.{all-at, all-set}
use Rattle.grs_node.specs.Star.{managing, not_managing}
use Rattle.system_purge.proofs.GatheredParts.{all-left, all-more}
use Rattle.grs_base.specs.declared.decision.Effect.TheVariants as effects

-- the element that a request puts into a list
abbrev pub new_of : Managed → Res → TaskId → Ctl → Ranked
new_of m r t c = record { res = r; elem = record { task = t; ctl = c }; rank = m.next; untold = false }

-- whether a task's element on a resource, if it is one, has this rank
abbrev pub has_this_rank : Res → TaskId → ℕ → Ranked → Bool
has_this_rank r t n x = not (is_of r t x) || (x.rank == n)

-- the test is true of all elements of an entry, and of all entries
abbrev pub AllOf : (Ranked → Bool) → List Ranked → Type 0
AllOf p xs = list_all p xs ≡ true

abbrev pub all_at : (Ranked → Bool) → Option Managed → Bool
all_at p o = list_all p (items_of o)

abbrev pub Carries : (Ranked → Bool) → ManagerView → Type 0
Carries p v = list_all (all_at p) v.entries ≡ true

-- where a request puts an element into a list, it is true of it
abbrev pub NewIs : (Ranked → Bool) → Managed → TaskId → Want → Type 0
NewIs p m t (Enq r c ret full) = queues (plain m.items) t (Enq r c ret full) ≡ true → p (new_of m r t c) ≡ true
NewIs p m t (Deq r have) = Unit {0}
NewIs p m t (Release r) = Unit {0}
NewIs p m t (Look first count f) = Unit {0}

module _ (p : Ranked → Bool) (unmarked : (b : Bool) (x : Ranked) → p (marked b x) ≡ p x)
    (alike : (x : Ranked) → p (exclusive x) ≡ p x) where
  -- ---- the elements of an entry
  all-same : (f : Ranked → Ranked) → ((x : Ranked) → p (f x) ≡ p x) → (xs : List Ranked) → AllOf p xs
      → AllOf p (map f xs)
  all-same f same [] h = refl
  all-same f same (x ∷ xs) h =
      let both = and_parts (p x) (list_all p xs) h in
      and_from (p (f x)) (list_all p (map f xs)) (same x ∙ both.0) (all-same f same xs both.1)

  exclusive-all : (r : Res) (t : TaskId) (xs : List Ranked) → AllOf p xs → AllOf p (made_exclusive r t xs)
  exclusive-all r t xs h =
      all-same (λ x. cond (is_of r t x) (exclusive x) x)
      (λ x.
      by_test (λ (y : Ranked). p y ≡ p x) (is_of r t x) (exclusive x) x (λ here. alike x) (λ other. refl))
      xs h

  mark-all : (b : Bool) (r : Res) (t : TaskId) (xs : List Ranked) → AllOf p xs → AllOf p (with_mark b r t xs)
  mark-all b r t xs h =
      all-same (λ x. cond (is_of r t x) (marked b x) x)
      (λ x.
      by_test (λ (y : Ranked). p y ≡ p x) (is_of r t x) (marked b x) x (λ here. unmarked b x) (λ other. refl))
      xs h

  control-all : (s : ℕ) (r : Res) (ts : List TaskId) (xs : List Ranked) → AllOf p xs → AllOf p (with_control s r ts xs)
  control-all s r [] xs h = h
  control-all s r (t ∷ ts) xs h =
      control-all s r ts (cond (not (s == t.system.0)) (with_mark true r t xs) xs)
      (by_test (λ (ys : List Ranked). AllOf p ys) (not (s == t.system.0)) (with_mark true r t xs) xs
      (λ far. mark-all true r t xs h) (λ near. h))

  enqueued-all : (m : Managed) (r : Res) (t : TaskId) (c : Ctl) (f : Effect)
      → (appends f ≡ true → p (new_of m r t c) ≡ true) → AllOf p m.items → AllOf p (enqueued m r t c f).items
  enqueued-all m r t c effects.Nothing new h = h
  enqueued-all m r t c effects.Append new h = all-more p m.items _ h (new refl)
  enqueued-all m r t c effects.MakeExclusive new h = exclusive-all r t m.items h

  given-all : (s : ℕ) (m : Managed) (r : Res) (t : TaskId) (owners : List TaskId) → AllOf p m.items
      → AllOf p (given_up s m r t owners).items
  given-all s m r t owners h =
      control-all s r owners (taken_out r t m.items) (all-left p (λ x. not (is_of r t x)) m.items h)

  pub settled-all : (s : ℕ) (m : Managed) (t : TaskId) (w : Want) → NewIs p m t w → AllOf p m.items
      → AllOf p (settled s m t w).items
  settled-all s m t (Enq r c ret full) new h =
      enqueued-all m r t c (decide_enq (list_of (plain m.items) r) t c ret full).effect new h
  settled-all s m t (Deq r have) new h =
      by_test (λ (k : Managed). AllOf p k.items) (is_owner (standing_of (list_of (plain m.items) r) t))
      (given_up s m r t (new_owners (plain m.items) t (Deq r have))) m
      (λ owns. given-all s m r t (new_owners (plain m.items) t (Deq r have)) h) (λ none. h)
  settled-all s m t (Release r) new h = given-all s m r t (new_owners (plain m.items) t (Release r)) h
  settled-all s m t (Look first count f) new h = h

  -- ---- a manager
  pub entry-all : (v : ManagerView) (e : Option ℕ) (o : Option Managed) → all_at p o ≡ true → Carries p v
      → Carries p (with_entry v e o)
  entry-all v None o new h = h
  entry-all v (Some e) o new h = all-set (all_at p) v.entries e o h new

  kept-all : (es : List (Option Managed)) (e : Option ℕ) → list_all (all_at p) es ≡ true
      → all_at p (kept_for es e) ≡ true
  kept-all es None h = refl
  kept-all es (Some e) h = all-at (all_at p) es e h refl

  some-all : (v : ManagerView) (e : Option ℕ) (f : Managed → Managed) (o : Option Managed)
      → ((m : Managed) → o ≡ Some m → AllOf p m.items → AllOf p (f m).items) → all_at p o ≡ true → Carries p v
      → Carries p (option_map_or (λ m. with_entry v e (Some (f m))) o v)
  some-all v e f None stay is h = h
  some-all v e f (Some m) stay is h = entry-all v e (Some (f m)) (stay m refl is) h

  pub request-all : (v : ManagerView) (t : TaskId) (w : Want)
      → ((m : Managed) → managed_for v w ≡ Some m → NewIs p m t w) → Carries p v → Carries p (after_request v t w)
  request-all v t w new h =
      some-all v (entry_wanted (length v.entries) w) (λ m. settled v.system.0 m t w) (managed_for v w)
      (λ m e k. settled-all v.system.0 m t w (new m e) k) (kept-all v.entries (entry_wanted (length v.entries) w) h) h

  pub telling-all : (v : ManagerView) (t : TaskId) (r : Res) → Carries p v → Carries p (after_telling v t r)
  telling-all v t r h =
      some-all v (entry_of_res (length v.entries) r) (told_in t r) (managed_of v r)
      (λ m e k. mark-all false r t m.items k) (kept-all v.entries (entry_of_res (length v.entries) r) h) h

  pub managing-all : (v : ManagerView) (e : ℕ) → Carries p v → Carries p (managing v e)
  managing-all v e h =
      by_test (Carries p) (is_some (managed_at v e)) v (with_entry v (Some e) (Some no_elements)) (λ mine. h)
      (λ other. entry-all v (Some e) (Some no_elements) refl h)

  pub leaving-all : (v : ManagerView) (e : ℕ) → Carries p v → Carries p (not_managing v e)
  leaving-all v e h =
      by_test (Carries p) (is_some (managed_at v e)) (with_entry v (Some e) None) v
      (λ mine. entry-all v (Some e) None refl h) (λ other. h)

  -- an entry is taken up by records
  records-all : (s : ℕ) (lists : State) (ys : List PartRec) → list_all (λ y. p (kept_of s lists y)) ys ≡ true
      → AllOf p (map (kept_of s lists) ys)
  records-all s lists [] h = refl
  records-all s lists (y ∷ ys) h =
      let both = and_parts (p (kept_of s lists y)) (list_all (λ z. p (kept_of s lists z)) ys) h in
      and_from (p (kept_of s lists y)) (list_all p (map (kept_of s lists) ys)) both.0 (records-all s lists ys both.1)

  pub installed-all : (v : ManagerView) (e : ℕ) (ys : List PartRec)
      → list_all (λ y. p (kept_of v.system.0 (lists_of ys) y)) ys ≡ true → Carries p v →
      Carries p (with_entry v (Some e) (Some (installed v.system.0 ys)))
  installed-all v e ys each h =
      entry-all v (Some e) (Some (installed v.system.0 ys)) (records-all v.system.0 (lists_of ys) ys each) h

  -- a system is lost
  freed-all : (s : ℕ) (fs : List Freed) (xs : List Ranked) → AllOf p xs → AllOf p (with_freed s fs xs)
  freed-all s [] xs h = h
  freed-all s (f ∷ fs) xs h = freed-all s fs (with_control s f.0 f.1 xs) (control-all s f.0 f.1 xs h)

  lost-all : (s n : ℕ) (o : Option Managed) → all_at p o ≡ true → all_at p (option_map (lost s n) o) ≡ true
  lost-all s n None h = refl
  lost-all s n (Some m) h =
      freed-all s (freed_lists n (plain m.items)) (filter (stays n) m.items) (all-left p (stays n) m.items h)

  each-all : (s n : ℕ) (os : List (Option Managed)) → list_all (all_at p) os ≡ true
      → list_all (all_at p) (map (option_map (lost s n)) os) ≡ true
  each-all s n [] h = refl
  each-all s n (o ∷ os) h =
      let both = and_parts (all_at p o) (list_all (all_at p) os) h in
      and_from (all_at p (option_map (lost s n) o)) (list_all (all_at p) (map (option_map (lost s n)) os))
      (lost-all s n o both.0) (each-all s n os both.1)

  pub losing-all : (v : ManagerView) (s : SysId) → Carries p v → Carries p (after_losing v s)
  losing-all v s h = each-all v.system.0 s.0 v.entries h

-- ---- So with the rank of one element.
abbrev pub CarriesRank : Res → TaskId → ℕ → ManagerView → Type 0
CarriesRank r t n v = Carries (has_this_rank r t n) v

-- An element that is there keeps its rank, for no request of its task on its resource is queued; and a new one gets the
-- next rank.
pub rank-old : (r : Res) (t : TaskId) (n : ℕ) (m : Managed) (u : TaskId) (w : Want)
    → ((q : Res) → res_wanted w ≡ Some q → same_res r q ≡ true → holds (plain m.items) r t ≡ true)
    → NewIs (has_this_rank r t n) m u w
rank-old r t n m u (Enq q c ret full) has = λ queued. go queued (same_res r q && same_task t u) refl
  where
    go : queues (plain m.items) u (Enq q c ret full) ≡ true → (b : Bool) → (same_res r q && same_task t u) ≡ b
        → (not b || (m.next == n)) ≡ true
    go queued false e = refl
    go queued true e =
        let both = and_parts (same_res r q) (same_task t u) e in
        no_truth (holds (plain m.items) r t) (has q refl both.0)
        (ap (λ (z : Res). holds (plain m.items) z t) (same_res-exact r q both.0)
        ∙ (ap (λ (z : TaskId). holds (plain m.items) q z) (same_task-exact t u both.1)
        ∙ queues-absent (plain m.items) u q c ret full queued))
rank-old r t n m u (Deq q have) has = tt
rank-old r t n m u (Release q) has = tt
rank-old r t n m u (Look first count f) has = tt

pub rank-next : (r : Res) (t : TaskId) (m : Managed) (u : TaskId) (w : Want) → NewIs (has_this_rank r t m.next) m u w
rank-next r t m u (Enq q c ret full) =
    λ queued.
    or_right (not (same_res r q && same_task t u)) (m.next == m.next) (eq-eqb m.next m.next refl)
rank-next r t m u (Deq q have) = tt
rank-next r t m u (Release q) = tt
rank-next r t m u (Look first count f) = tt

-- where it isn't there, it has any rank
pub rank-absent : (r : Res) (t : TaskId) (n : ℕ) (xs : List Ranked) → holds (plain xs) r t ≡ false
    → AllOf (has_this_rank r t n) xs
rank-absent r t n [] none = refl
rank-absent r t n (x ∷ xs) none = go (is_of r t x) refl none (rank-absent r t n xs)
  where
    go : (b : Bool) → is_of r t x ≡ b → (b || holds (plain xs) r t) ≡ false
        → (holds (plain xs) r t ≡ false → AllOf (has_this_rank r t n) xs)
        → ((not b || (x.rank == n)) && list_all (has_this_rank r t n) xs) ≡ true
    go true e k more = absurd (cc)
    go false e k more = more k

-- ---- who stands in the list of a resource
-- who stands in the list behind one stands in all, and so does the first
pub more-has : (r : Res) (x : Ranked) (xs : List Ranked) (t : TaskId) → has_task (list_of (plain xs) r) t ≡ true
    → has_task (list_of (plain (x ∷ xs)) r) t ≡ true
more-has r x xs t stands = go (same_res r x.res)
  where
    go : (b : Bool) → has_task (cond b (x.elem ∷ list_of (plain xs) r) (list_of (plain xs) r)) t ≡ true
    go true = or_right (same_task t x.elem.task) (has_task (list_of (plain xs) r) t) stands
    go false = stands

pub first-has : (r : Res) (x : Ranked) (xs : List Ranked) → same_res r x.res ≡ true
    → has_task (list_of (plain (x ∷ xs)) r) x.elem.task ≡ true
first-has r x xs is =
    ap (λ b. has_task (cond b (x.elem ∷ list_of (plain xs) r) (list_of (plain xs) r)) x.elem.task) is
    ∙ or_left (same_task x.elem.task x.elem.task) (has_task (list_of (plain xs) r) x.elem.task)
    (same_task-itself x.elem.task)
