-- A manager that keeps no element of a system: which of its steps leave it so, and by which it comes to be so.
use Rattle.grs_world.proofs.Common.{[], ◌&&◌, ◌==◌, ◌∙◌, ◌∷◌, ◌≡◌, after_request, after_telling, and-false, and_from}
use Rattle.grs_world.proofs.Common.{and_parts, ap, Bool, by_test, cond, Ctl, Deq, Enq, entry_of_res, entry_wanted}
use Rattle.grs_world.proofs.Common.{false, filter, is_systems, is_without, kept_for, length, List, list_all, list_of}
use Rattle.grs_world.proofs.Common.{Look, Managed, managed_at, managed_of, ManagerView, map, new_owners, no_elements}
use Rattle.grs_world.proofs.Common.{None, not, Option, option_map, option_map_or, PartRec, plain, Ranked, refl, Release}
use Rattle.grs_world.proofs.Common.{Res, settled, Some, standing_of, State, SysId, TaskId, true, Want, with_entry, ℕ}
use Rattle.std.proofs.Common.{is_some}
use Rattle.contention_mgr.specs.Manager.{enqueued, exclusive, given_up, is_of, made_exclusive, managed_for, marked}
use Rattle.contention_mgr.specs.Manager.{taken_out, told as told_in, with_control, with_mark}
use Rattle.grs_base.specs.Lists.{is_owner}
use Rattle.contention_mgr.specs.Installs.{installed, kept_of, lists_of}
use Rattle.contention_mgr.specs.Loses.{Freed, after_losing, freed_lists, lost, stays, with_freed}
use Rattle.grs_base.specs.declared.decision.Effect.{Effect}
use Rattle.grs_node.specs.Star.{managing, not_managing}
use Rattle.grs_node.proofs.Orderly.{all-at, all-items, all-set}
use Rattle.system_purge.proofs.GatheredParts.{all-left, all-more}
use Rattle.grs_base.specs.declared.decision.Effect.TheVariants as effects

module _ (u : ℕ) where
  -- ---- the elements of an entry
  abbrev pub NoneOf : List Ranked → Type 0
  NoneOf xs = list_all (stays u) xs ≡ true

  -- what changes no element's task and resource
  same-tasks : (f : Ranked → Ranked) → ((x : Ranked) → stays u (f x) ≡ stays u x) → (xs : List Ranked) → NoneOf xs
      → NoneOf (map f xs)
  same-tasks f same [] h = refl
  same-tasks f same (x ∷ xs) h =
      let both = and_parts (stays u x) (list_all (stays u) xs) h in
      and_from (stays u (f x)) (list_all (stays u) (map f xs)) (same x ∙ both.0) (same-tasks f same xs both.1)

  exclusive-none : (r : Res) (t : TaskId) (xs : List Ranked) → NoneOf xs → NoneOf (made_exclusive r t xs)
  exclusive-none r t xs h =
      same-tasks (λ x. cond (is_of r t x) (exclusive x) x)
      (λ x.
      by_test (λ (y : Ranked). stays u y ≡ stays u x) (is_of r t x) (exclusive x) x (λ here. refl) (λ other. refl))
      xs h

  mark-none : (b : Bool) (r : Res) (t : TaskId) (xs : List Ranked) → NoneOf xs → NoneOf (with_mark b r t xs)
  mark-none b r t xs h =
      same-tasks (λ x. cond (is_of r t x) (marked b x) x)
      (λ x.
      by_test (λ (y : Ranked). stays u y ≡ stays u x) (is_of r t x) (marked b x) x (λ here. refl) (λ other. refl))
      xs h

  control-none : (s : ℕ) (r : Res) (ts : List TaskId) (xs : List Ranked) → NoneOf xs → NoneOf (with_control s r ts xs)
  control-none s r [] xs h = h
  control-none s r (t ∷ ts) xs h =
      control-none s r ts (cond (not (s == t.system.0)) (with_mark true r t xs) xs)
      (by_test (λ (ys : List Ranked). NoneOf ys) (not (s == t.system.0)) (with_mark true r t xs) xs
      (λ far. mark-none true r t xs h) (λ near. h))

  new-stays : (r : Res) (t : TaskId) (c : Ctl) (n : ℕ) → (u == t.system.0) ≡ false →
      stays u (record { res = r; elem = record { task = t; ctl = c }; rank = n; untold = false }) ≡ true
  new-stays r t c n apart = ap (λ b. not (is_systems r && b)) apart ∙ ap not (and-false (is_systems r))

  enqueued-none : (m : Managed) (r : Res) (t : TaskId) (c : Ctl) (f : Effect) → (u == t.system.0) ≡ false
      → NoneOf m.items → NoneOf (enqueued m r t c f).items
  enqueued-none m r t c effects.Nothing apart h = h
  enqueued-none m r t c effects.Append apart h = all-more (stays u) m.items _ h (new-stays r t c m.next apart)
  enqueued-none m r t c effects.MakeExclusive apart h = exclusive-none r t m.items h

  given-none : (s : ℕ) (m : Managed) (r : Res) (t : TaskId) (owners : List TaskId) → NoneOf m.items
      → NoneOf (given_up s m r t owners).items
  given-none s m r t owners h =
      control-none s r owners (taken_out r t m.items) (all-left (stays u) (λ x. not (is_of r t x)) m.items h)

  settled-none : (s : ℕ) (m : Managed) (t : TaskId) (w : Want) → (u == t.system.0) ≡ false → NoneOf m.items
      → NoneOf (settled s m t w).items
  settled-none s m t (Enq r c ret full) apart h = enqueued-none m r t c _ apart h
  settled-none s m t (Deq r have) apart h =
      by_test (λ (k : Managed). NoneOf k.items) (is_owner (standing_of (list_of (plain m.items) r) t))
      (given_up s m r t (new_owners (plain m.items) t (Deq r have))) m
      (λ owns. given-none s m r t (new_owners (plain m.items) t (Deq r have)) h) (λ none. h)
  settled-none s m t (Release r) apart h = given-none s m r t (new_owners (plain m.items) t (Release r)) h
  settled-none s m t (Look first count f) apart h = h

  -- ---- a manager
  abbrev pub KeepsNone : ManagerView → Type 0
  KeepsNone v = list_all (is_without u) v.entries ≡ true

  entry-none : (v : ManagerView) (e : Option ℕ) (o : Option Managed) → is_without u o ≡ true → KeepsNone v
      → KeepsNone (with_entry v e o)
  entry-none v None o new h = h
  entry-none v (Some e) o new h = all-set (is_without u) v.entries e o h new

  kept-none : (es : List (Option Managed)) (e : Option ℕ) → list_all (is_without u) es ≡ true
      → is_without u (kept_for es e) ≡ true
  kept-none es None h = refl
  kept-none es (Some e) h = all-at (is_without u) es e h refl

  some-none : (v : ManagerView) (e : Option ℕ) (f : Managed → Managed) (o : Option Managed)
      → ((m : Managed) → NoneOf m.items → NoneOf (f m).items) → is_without u o ≡ true → KeepsNone v
      → KeepsNone (option_map_or (λ m. with_entry v e (Some (f m))) o v)
  some-none v e f None stay is h = h
  some-none v e f (Some m) stay is h = entry-none v e (Some (f m)) (stay m is) h

  pub request-none : (v : ManagerView) (t : TaskId) (w : Want) → (u == t.system.0) ≡ false → KeepsNone v
      → KeepsNone (after_request v t w)
  request-none v t w apart h =
      some-none v (entry_wanted (length v.entries) w) (λ m. settled v.system.0 m t w) (managed_for v w)
      (λ m k. settled-none v.system.0 m t w apart k) (kept-none v.entries (entry_wanted (length v.entries) w) h) h

  pub telling-none : (v : ManagerView) (t : TaskId) (r : Res) → KeepsNone v → KeepsNone (after_telling v t r)
  telling-none v t r h =
      some-none v (entry_of_res (length v.entries) r) (told_in t r) (managed_of v r)
      (λ m k. mark-none false r t m.items k) (kept-none v.entries (entry_of_res (length v.entries) r) h) h

  pub managing-none : (v : ManagerView) (e : ℕ) → KeepsNone v → KeepsNone (managing v e)
  managing-none v e h =
      by_test KeepsNone (is_some (managed_at v e)) v (with_entry v (Some e) (Some no_elements)) (λ mine. h)
      (λ other. entry-none v (Some e) (Some no_elements) refl h)

  pub leaving-none : (v : ManagerView) (e : ℕ) → KeepsNone v → KeepsNone (not_managing v e)
  leaving-none v e h =
      by_test KeepsNone (is_some (managed_at v e)) (with_entry v (Some e) None) v
      (λ mine. entry-none v (Some e) None refl h) (λ other. h)

  -- an entry is taken up by records of others
  kept-stays : (s : ℕ) (lists : State) (y : PartRec) → (u == y.task.system.0) ≡ false
      → stays u (kept_of s lists y) ≡ true
  kept-stays s lists y apart = ap (λ b. not (is_systems y.res && b)) apart ∙ ap not (and-false (is_systems y.res))

  records-none : (s : ℕ) (lists : State) (ys : List PartRec) → list_all (λ y. not (u == y.task.system.0)) ys ≡ true
      → NoneOf (map (kept_of s lists) ys)
  records-none s lists [] h = refl
  records-none s lists (y ∷ ys) h =
      let both = and_parts (not (u == y.task.system.0)) (list_all (λ z. not (u == z.task.system.0)) ys) h in
      and_from (stays u (kept_of s lists y)) (list_all (stays u) (map (kept_of s lists) ys))
      (kept-stays s lists y (off-by (u == y.task.system.0) both.0)) (records-none s lists ys both.1)
    where
      off-by : (b : Bool) → not b ≡ true → b ≡ false
      off-by true h = absurd (cc)
      off-by false h = refl

  pub installed-none : (v : ManagerView) (e : ℕ) (ys : List PartRec)
      → list_all (λ y. not (u == y.task.system.0)) ys ≡ true → KeepsNone v
      → KeepsNone (with_entry v (Some e) (Some (installed v.system.0 ys)))
  installed-none v e ys none h =
      entry-none v (Some e) (Some (installed v.system.0 ys)) (records-none v.system.0 (lists_of ys) ys none) h

  -- a system is lost
  freed-none : (s : ℕ) (fs : List Freed) (xs : List Ranked) → NoneOf xs → NoneOf (with_freed s fs xs)
  freed-none s [] xs h = h
  freed-none s (f ∷ fs) xs h = freed-none s fs (with_control s f.0 f.1 xs) (control-none s f.0 f.1 xs h)

  lost-none : (s n : ℕ) (o : Option Managed) → is_without u o ≡ true → is_without u (option_map (lost s n) o) ≡ true
  lost-none s n None h = refl
  lost-none s n (Some m) h =
      freed-none s (freed_lists n (plain m.items)) (filter (stays n) m.items) (all-left (stays u) (stays n) m.items h)

  each-none : (s n : ℕ) (os : List (Option Managed)) → list_all (is_without u) os ≡ true
      → list_all (is_without u) (map (option_map (lost s n)) os) ≡ true
  each-none s n [] h = refl
  each-none s n (o ∷ os) h =
      let both = and_parts (is_without u o) (list_all (is_without u) os) h in
      and_from (is_without u (option_map (lost s n) o)) (list_all (is_without u) (map (option_map (lost s n)) os))
      (lost-none s n o both.0) (each-none s n os both.1)

  pub losing-none : (v : ManagerView) (s : SysId) → KeepsNone v → KeepsNone (after_losing v s)
  losing-none v s h = each-none v.system.0 s.0 v.entries h

-- so it keeps none of the system that it loses
gone-of : (s n : ℕ) (o : Option Managed) → is_without n (option_map (lost s n) o) ≡ true
gone-of s n None = refl
gone-of s n (Some m) =
    freed-none n s (freed_lists n (plain m.items)) (filter (stays n) m.items) (all-items (stays n) m.items)

each-gone : (s n : ℕ) (os : List (Option Managed)) → list_all (is_without n) (map (option_map (lost s n)) os) ≡ true
each-gone s n [] = refl
each-gone s n (o ∷ os) =
    and_from (is_without n (option_map (lost s n) o)) (list_all (is_without n) (map (option_map (lost s n)) os))
    (gone-of s n o) (each-gone s n os)

pub gone-none : (v : ManagerView) (s : SysId) → KeepsNone s.0 (after_losing v s)
gone-none v s = each-gone v.system.0 s.0 v.entries
