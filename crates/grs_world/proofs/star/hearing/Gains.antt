-- What a request gives: to its own task an element, and control by what it is answered; to others control, of which a
-- manager keeps whom it has still to tell; and how the next rank goes with the number of requests that could queue an
-- element.
use Rattle.grs_world.proofs.Common.{[], ◌&&◌, ◌++◌, ◌+◌, ◌<◌, ◌==◌, ◌||◌, ◌∙◌, ◌∷◌, ◌≡◌, ◌≤◌, after_request}
use Rattle.grs_world.proofs.Common.{after_telling, after_want, and_from, answer_to, ap, arith, Bool, cond, Ctl, Deq}
use Rattle.grs_world.proofs.Common.{Elem, Enq, entry_of_res, entry_wanted, eq-eqb, eqb-true, false, filter, has_task}
use Rattle.grs_world.proofs.Common.{is_among, is_entry, is_granted, is_some, items_of, kept_at, kept_for, last_number}
use Rattle.grs_world.proofs.Common.{length, length-set, List, list_of, Look, Managed, managed_at, managed_of}
use Rattle.grs_world.proofs.Common.{ManagerView, nat_le, nat_tests, new_owners, no_elements, no_truth, None, not}
use Rattle.grs_world.proofs.Common.{Option, option_map_or, owns, owns-has, plain, Ranked, refl, Release, Res}
use Rattle.grs_world.proofs.Common.{res_wanted, Ret, RunItem, same_res, same_res-exact, same_Some, same_task, settled}
use Rattle.grs_world.proofs.Common.{slice_get, slice_get_within, slice_set, Some, standing_of, State, subst, suc, sym}
use Rattle.grs_world.proofs.Common.{TaskId, true, unwrap_or, Want, with_entry, ℕ}
use Rattle.contention_mgr.specs.Manager.{queues, rank_for, told, enqueued, given_up}
use Rattle.grs_wire.specs.Wants.{became_owners, became_owners_of}
use Rattle.grs_base.specs.Lists.{can_have, decide_enq, enq_decision, is_owner, list_after, list_without}
use Rattle.grs_known.proofs.lists.Owners.{is_among-became}
use Rattle.grs_base.specs.State.{without}
use Rattle.contention_mgr.specs.Elements.{holds}
use Rattle.contention_mgr.specs.Laws.{gains, untold_at}
use Rattle.contention_mgr.proofs.ItemLemmas.{holds-list}
use Rattle.contention_mgr.proofs.OwnLemmas.{gainers_are_untold, telling_tells, untold_follow}
use Rattle.grs_base.specs.declared.decision.Effect.{Effect}
use Rattle.grs_base.specs.declared.decision.Effect.TheVariants.{Nothing, Append, MakeExclusive}
use Rattle.grs_base.specs.declared.decision.Standing.TheVariants.{Absent}
use Rattle.grs_base.proofs.ListLaws.{has_task-append, has_task-exclusive, has_task-filter, is_owner-standing}
use Rattle.grs_base.proofs.StateLaws.{appends_absent, list_at-without, list_of-effect, only_owner, res_equality}
use Rattle.grs_wire.proofs.WantLaws.{absent-has, list_of-want_other, speaks_of}
use Rattle.grs_known.proofs.lists.Requests.{owns-push}
use Rattle.grs_world.proofs.star.Roles.{kept-set}
use Rattle.grs_world.proofs.star.Heard.{enq_count, grants, is_enq, is_enq_want}

-- ---- the asker
granted-absent : (ret : Ret) (full : Bool) → (enq_decision Absent ret full true).effect ≡ Append
    → is_granted (enq_decision Absent ret full true).code ≡ true
granted-absent ret full h = grind (arith, h)

-- a task that isn't owner is by its own request only where it had no element and is answered so
gain-enq : (es : List Elem) (t : TaskId) (c : Ctl) (ret : Ret) (full : Bool) (e : Effect)
    → (decide_enq es t c ret full).effect ≡ e → owns es t ≡ false → owns (list_after es t c e) t ≡ true
    → (is_granted (decide_enq es t c ret full).code ≡ true) × (has_task es t ≡ false)
gain-enq es t c ret full Nothing is before after = no_truth (owns es t) after before
gain-enq es t c ret full MakeExclusive is before after =
    no_truth (owns es t) (sym (is_owner-standing es t) ∙ ap is_owner (only_owner es t c ret full is)) before
gain-enq es t c ret full Append is before after =
    let at : standing_of es t ≡ Absent = appends_absent es t c ret full is in
    let none : has_task es t ≡ false = absent-has es t at in
    let can : can_have es c ≡ true = sym (owns-push es t c none) ∙ after in
    let same : decide_enq es t c ret full ≡ enq_decision Absent ret full true =
    ap (λ s. enq_decision s ret full (can_have es c)) at ∙ ap (enq_decision Absent ret full) can in
    (ap (λ d. is_granted d.code) same ∙ granted-absent ret full (sym (ap (λ d. d.effect) same) ∙ is), none)

gone-task : (es : List Elem) (t : TaskId) → has_task (list_without es t) t ≡ false
gone-task [] t = refl
gone-task (e ∷ es) t = go (same_task t e.task) refl (gone-task es t)
  where
    go : (b : Bool) → same_task t e.task ≡ b → has_task (list_without es t) t ≡ false
        → has_task (cond (not b) (e ∷ list_without es t) (list_without es t)) t ≡ false
    go true f h = h
    go false f h = ap (λ b. b || has_task (list_without es t) t) f ∙ h

pub own-gain : (s : State) (t : TaskId) (w : Want) (r : Res) → res_wanted w ≡ Some r → owns (list_of s r) t ≡ false
    → owns (list_of (after_want s t w) r) t ≡ true
    → (grants (answer_to s t w) ≡ true) × (has_task (list_of s r) t ≡ false)
own-gain s t (Enq q c ret full) r wanted before after =
    let same : q ≡ r = same_Some q r wanted in
    let z =
    gain-enq (list_of s q) t c ret full (decide_enq (list_of s q) t c ret full).effect refl
    (ap (λ p. owns (list_of s p) t) same ∙ before) (sym
    (ap (λ es. owns es t) (list_of-effect s q t c (decide_enq (list_of s q) t c ret full).effect))
    ∙ (ap (λ p. owns (list_of (after_want s t (Enq q c ret full)) p) t) same ∙ after)) in
    (z.0, ap (λ p. has_task (list_of s p) t) (sym same) ∙ z.1)
own-gain s t (Deq q have) r wanted before after = go (is_owner (standing_of (list_of s q) t)) refl after
  where
    same : q ≡ r
    same = same_Some q r wanted

    go : (b : Bool) → is_owner (standing_of (list_of s q) t) ≡ b
        → owns (list_of (cond b (without same_res s q t) s) r) t ≡ true
        → (grants (answer_to s t (Deq q have)) ≡ true) × (has_task (list_of s r) t ≡ false)
    go true e h =
        no_truth (owns (list_of s r) t)
        (ap (λ p. owns (list_of s p) t) (sym same) ∙ (sym (is_owner-standing (list_of s q) t) ∙ e)) before
    go false e h = no_truth (owns (list_of s r) t) h before
own-gain s t (Release q) r wanted before after =
    let same : q ≡ r = same_Some q r wanted in
    no_truth (has_task (list_without (list_of s r) t) t) (owns-has (list_without (list_of s r) t) t
    (sym (ap (λ es. owns es t) (list_at-without same_res res_equality s r t))
    ∙ (ap (λ p. owns (list_of (without same_res s p t) r) t) (sym same) ∙ after)))
    (gone-task (list_of s r) t)
own-gain s t (Look first count f) r wanted before after = absurd (cc)

-- a new element is the asker's
pub has-gain : (s : State) (t : TaskId) (w : Want) (r : Res) (u : TaskId) → has_task (list_of s r) u ≡ false
    → has_task (list_of (after_want s t w) r) u ≡ true → same_task u t ≡ true
has-gain s t w r u before after = go (speaks_of w r) refl
  where
    by-enq : (es : List Elem) (c : Ctl) (e : Effect) → has_task es u ≡ false → has_task (list_after es t c e) u ≡ true
        → same_task u t ≡ true
    by-enq es c Nothing absent present = no_truth (has_task es u) present absent
    by-enq es c MakeExclusive absent present =
        no_truth (has_task es u) (sym (has_task-exclusive es u t) ∙ present) absent
    by-enq es c Append absent present =
        last (same_task u t) (sym (ap (λ b. b || (same_task u t || false)) absent)
        ∙ (sym (has_task-append es (record { task = t; ctl = c } ∷ []) u) ∙ present))
      where
        last : (b : Bool) → (b || false) ≡ true → b ≡ true
        last true h = refl
        last false h = h

    by-gone : (q : Res) → r ≡ q → has_task (list_of (without same_res s q t) r) u ≡ true → same_task u t ≡ true
    by-gone q same present = no_truth (has_task (list_without (list_of s r) t) u)
        (sym (ap (λ es. has_task es u) (list_at-without same_res res_equality s r t))
        ∙ (ap (λ p. has_task (list_of (without same_res s p t) r) u) same ∙ present))
        (has_task-filter (λ x. not (same_task t x.task)) (list_of s r) u before)

    spoken : (v : Want) → speaks_of v r ≡ true → has_task (list_of (after_want s t v) r) u ≡ true → same_task u t ≡ true
    spoken (Enq q c ret full) e present =
        let same : r ≡ q = same_res-exact r q e in
        by-enq (list_of s q) c (decide_enq (list_of s q) t c ret full).effect
        (ap (λ p. has_task (list_of s p) u) (sym same) ∙ before)
        (sym (ap (λ es. has_task es u) (list_of-effect s q t c (decide_enq (list_of s q) t c ret full).effect))
        ∙ (ap (λ p. has_task (list_of (after_want s t (Enq q c ret full)) p) u) (sym same) ∙ present))
    spoken (Deq q have) e present = by-owner (is_owner (standing_of (list_of s q) t)) present
      where
        by-owner : (b : Bool) → has_task (list_of (cond b (without same_res s q t) s) r) u ≡ true → same_task u t ≡ true
        by-owner true h = by-gone q (same_res-exact r q e) h
        by-owner false h = no_truth (has_task (list_of s r) u) h before
    spoken (Release q) e present = by-gone q (same_res-exact r q e) present
    spoken (Look first count f) e present = absurd (cc)

    go : (b : Bool) → speaks_of w r ≡ b → same_task u t ≡ true
    go true e = spoken w e after
    go false e =
        no_truth (has_task (list_of s r) u) (sym (ap (λ es. has_task es u) (list_of-want_other s t w r e)) ∙ after)
        before

-- ---- others
-- who becomes owner by a request does by one for a resource
pub gain-asks : (s : State) (t : TaskId) (w : Want) (r : Res) (u : TaskId) → owns (list_of s r) u ≡ false
    → owns (list_of (after_want s t w) r) u ≡ true → (q : Res) × (res_wanted w ≡ Some q)
gain-asks s t (Enq q c ret full) r u before after = (q, refl)
gain-asks s t (Deq q have) r u before after = (q, refl)
gain-asks s t (Release q) r u before after = (q, refl)
gain-asks s t (Look first count f) r u before after = no_truth (owns (list_of s r) u) after before

-- a list changes only where the request speaks of its resource
pub gained-res : (s : State) (t : TaskId) (w : Want) (q r : Res) (u : TaskId) → res_wanted w ≡ Some q
    → owns (list_of s r) u ≡ false → owns (list_of (after_want s t w) r) u ≡ true → r ≡ q
gained-res s t w q r u wanted before after = go (speaks_of w r) refl
  where
    names : (v : Want) → res_wanted v ≡ Some q → speaks_of v r ≡ true → r ≡ q
    names (Enq p c ret full) e f = same_res-exact r p f ∙ same_Some p q e
    names (Deq p have) e f = same_res-exact r p f ∙ same_Some p q e
    names (Release p) e f = same_res-exact r p f ∙ same_Some p q e
    names (Look first count f) e g = absurd (cc)

    go : (b : Bool) → speaks_of w r ≡ b → r ≡ q
    go true e = names w wanted e
    go false e =
        no_truth (owns (list_of s r) u) (sym (ap (λ es. owns es u) (list_of-want_other s t w r e)) ∙ after) before

-- who becomes owner by another's request is of the resource that it speaks of, and among its new owners
pub gained-among : (s : State) (t : TaskId) (w : Want) (q r : Res) (u : TaskId) → res_wanted w ≡ Some q
    → same_task t u ≡ false → owns (list_of s r) u ≡ false → owns (list_of (after_want s t w) r) u ≡ true
    → (r ≡ q) × (is_among u (new_owners s t w) ≡ true)
gained-among s t w q r u wanted apart before after =
    let same : r ≡ q = gained-res s t w q r u wanted before after in (
      same,
      ap (λ o. is_among u (became_owners_of s (after_want s t w) t o)) wanted
          ∙ (ap (λ p. is_among u (became_owners (list_of s p) (list_of (after_want s t w) p) t)) (sym same)
          ∙ (is_among-became (list_of s r) (list_of (after_want s t w) r) t u
          ∙ and_from (not (owns (list_of s r) u) && not (same_task t u)) (owns (list_of (after_want s t w) r) u)
          (and_from (not (owns (list_of s r) u)) (not (same_task t u)) (ap not before) (ap not apart)) after)),
    )

-- ---- whom a manager has still to tell
managed-other : (es : List (Option Managed)) (x e : ℕ) (o : Option Managed) → is_some (kept_at es x) ≡ true
    → kept_at (slice_set es x o) e ≡ cond (e == x) o (kept_at es e)
managed-other es x e o kept = kept-set es x e o (within (slice_get es x) refl kept)
  where
    within : (p : Option (Option Managed)) → slice_get es x ≡ p → is_some (unwrap_or p None) ≡ true → x < length es
    within None at h = absurd (cc)
    within (Some y) at h = slice_get_within es x y at

-- an entry that is managed is kept otherwise
module _ (m : ManagerView) (e : ℕ) (x : Managed) (is : managed_at m e ≡ Some x) (o : Option Managed) where
  pub managed-set : (i : ℕ) → managed_at (with_entry m (Some e) o) i ≡ cond (i == e) o (managed_at m i)
  managed-set i = managed-other m.entries e i o (ap is_some is)

  pub managed_of-other : (r : Res) → is_entry e (entry_of_res (length m.entries) r) ≡ false
      → managed_of (with_entry m (Some e) o) r ≡ managed_of m r
  managed_of-other r apart =
      ap (λ k. kept_for (slice_set m.entries e o) (entry_of_res k r)) (length-set m.entries e o)
      ∙ go (entry_of_res (length m.entries) r) apart
    where
      go : (p : Option ℕ) → is_entry e p ≡ false → kept_for (slice_set m.entries e o) p ≡ kept_for m.entries p
      go None h = refl
      go (Some i) h = managed-set i ∙ ap (λ b. cond b o (managed_at m i)) h

  pub managed_of-same : (r : Res) → is_entry e (entry_of_res (length m.entries) r) ≡ true
      → (managed_of (with_entry m (Some e) o) r ≡ o) × (managed_of m r ≡ Some x)
  managed_of-same r here =
      let at : entry_of_res (length m.entries) r ≡ Some e = named (entry_of_res (length m.entries) r) here in (
        ap (λ k. kept_for (slice_set m.entries e o) (entry_of_res k r)) (length-set m.entries e o)
            ∙ (ap (kept_for (slice_set m.entries e o)) at
            ∙ (managed-set e ∙ ap (λ b. cond b o (managed_at m e)) (eq-eqb e e refl))),
        ap (kept_for m.entries) at ∙ is,
      )
    where
      named : (p : Option ℕ) → is_entry e p ≡ true → p ≡ Some e
      named None h = absurd (cc)
      named (Some i) h = ap Some (eqb-true i e h)

-- ---- ranks
enq_count-push : (xs : List RunItem) (x : RunItem) → is_enq x.fixed ≡ true
    → enq_count (xs ++ x ∷ []) ≡ suc (enq_count xs)
enq_count-push [] x h = ap (λ b. length (cond b (x ∷ []) [])) h
enq_count-push (y ∷ xs) x h = go (is_enq y.fixed) (enq_count-push xs x h)
  where
    go : (b : Bool) → enq_count (xs ++ x ∷ []) ≡ suc (enq_count xs)
        → length (cond b (y ∷ filter (λ z. is_enq z.fixed) (xs ++ x ∷ []))
        (filter (λ z. is_enq z.fixed) (xs ++ x ∷ [])))
        ≡ suc (length (cond b (y ∷ filter (λ z. is_enq z.fixed) xs) (filter (λ z. is_enq z.fixed) xs)))
    go true k = ap suc k
    go false k = k

queues-enq : (s : State) (t : TaskId) (w : Want) → queues s t w ≡ true → is_enq_want w ≡ true
queues-enq s t (Enq r c ret full) h = refl
queues-enq s t (Deq r have) h = absurd (cc)
queues-enq s t (Release r) h = absurd (cc)
queues-enq s t (Look first count f) h = absurd (cc)

-- the rank that a request gives has an effect
pub rank-timely : (o : Option Managed) (t : TaskId) (w : Want) (xs : List RunItem) (x : RunItem)
    → (is_enq_want w ≡ true → is_enq x.fixed ≡ true) → ((m : Managed) → o ≡ Some m → m.next ≤ suc (enq_count xs))
    → enq_count (xs ++ x ∷ []) ≤ last_number →
    nat_le (rank_for o t w) last_number ≡ true
rank-timely None t w xs x enq bound few = refl
rank-timely (Some m) t w xs x enq bound few = go (queues (plain m.items) t w) refl
  where
    go : (b : Bool) → queues (plain m.items) t w ≡ b → nat_le (cond b m.next 0) last_number ≡ true
    go false e = refl
    go true e =
        let one : enq_count (xs ++ x ∷ []) ≡ suc (enq_count xs) =
        enq_count-push xs x (enq (queues-enq (plain m.items) t w e)) in
        let low : m.next ≤ suc (enq_count xs) = bound m refl in
        let in_time : m.next ≤ last_number = omega (arith, one, low, few) in
        grind (arith, nat_tests, in_time)

-- and the next one is no more than the number of requests allows
pub next-bound : (s : ℕ) (m : Managed) (t : TaskId) (w : Want) (xs : List RunItem) (x : RunItem)
    → (is_enq_want w ≡ true → is_enq x.fixed ≡ true) → enq_count xs ≤ enq_count (xs ++ x ∷ [])
    → m.next ≤ suc (enq_count xs) → (settled s m t w).next ≤ suc (enq_count (xs ++ x ∷ []))
next-bound s m t (Enq r c ret full) xs x enq more low = go (decide_enq (list_of (plain m.items) r) t c ret full).effect
  where
    go : (e : Effect) → (enqueued m r t c e).next ≤ suc (enq_count (xs ++ x ∷ []))
    go Nothing = omega (arith, more, low)
    go Append = let one = enq_count-push xs x (enq refl) in omega (arith, one, low)
    go MakeExclusive = omega (arith, more, low)
next-bound s m t (Deq r have) xs x enq more low = go (is_owner (standing_of (list_of (plain m.items) r) t))
  where
    go : (b : Bool)
        → (cond b (given_up s m r t (new_owners (plain m.items) t (Deq r have))) m).next
        ≤ suc (enq_count (xs ++ x ∷ []))
    go true = omega (arith, more, low)
    go false = omega (arith, more, low)
next-bound s m t (Release r) xs x enq more low = omega (arith, more, low)
next-bound s m t (Look first count f) xs x enq more low = omega (arith, more, low)

-- ---- the manager behind a request and once an owner was told
abbrev pub untold_of : ManagerView → Res → TaskId → Bool
untold_of m r t = untold_at (items_of (managed_of m r)) r t

module _ (m : ManagerView) (t : TaskId) (w : Want) (e : ℕ) (at : entry_wanted (length m.entries) w ≡ Some e)
    (x : Managed) (is : managed_at m e ≡ Some x) where
  after-is : after_request m t w ≡ with_entry m (Some e) (Some (settled m.system.0 x t w))
  after-is =
      ap (λ o. option_map_or (λ z. with_entry m o (Some (settled m.system.0 z t w))) (kept_for m.entries o) m) at
      ∙ ap (λ o. option_map_or (λ z. with_entry m (Some e) (Some (settled m.system.0 z t w))) o m) is

  -- who owns behind it is still to be told if it was before
  pub request-untold : (r : Res) (u : TaskId)
      → (is_entry e (entry_of_res (length m.entries) r) ≡ true
      → owns (list_of (after_want (plain x.items) t w) r) u ≡ true)
      → untold_of m r u ≡ true → untold_of (after_request m t w) r u ≡ true
  request-untold r u owned before =
      ap (λ z. untold_of z r u) after-is ∙ go (is_entry e (entry_of_res (length m.entries) r)) refl
    where
      both : (a b c : Bool) → a ≡ true → b ≡ true → (a && (b || c)) ≡ true
      both true true c h k = refl
      both true false c h k = absurd (cc)
      both false b c h k = absurd (cc)

      go : (b : Bool) → is_entry e (entry_of_res (length m.entries) r) ≡ b
          → untold_of (with_entry m (Some e) (Some (settled m.system.0 x t w))) r u ≡ true
      go false f =
          ap (λ o. untold_at (items_of o) r u) (managed_of-other m e x is (Some (settled m.system.0 x t w)) r f)
          ∙ before
      go true f =
          let z = managed_of-same m e x is (Some (settled m.system.0 x t w)) r f in
          ap (λ o. untold_at (items_of o) r u) z.0
          ∙ (untold_follow m.system.0 x t w r u
          ∙ both (holds (after_want (plain x.items) t w) r u) (untold_at x.items r u) _
          (holds-list (after_want (plain x.items) t w) r u
          ∙ owns-has (list_of (after_want (plain x.items) t w) r) u (owned f))
          (sym (ap (λ o. untold_at (items_of o) r u) z.1) ∙ before))

  -- and so is who gains control by it at another system
  pub request-gained : (r : Res) (u : TaskId) → is_entry e (entry_of_res (length m.entries) r) ≡ true
      → gains m.system.0 (plain x.items) (after_want (plain x.items) t w) t r u ≡ true
      → untold_of (after_request m t w) r u ≡ true
  request-gained r u here gained =
      ap (λ z. untold_of z r u) after-is
      ∙ (ap (λ o. untold_at (items_of o) r u) (managed_of-same m e x is (Some (settled m.system.0 x t w)) r here).0
      ∙ gainers_are_untold m.system.0 x t w r u gained)

  pub request-next : (k : ℕ) → ((i : ℕ) (z : Managed) → managed_at m i ≡ Some z → z.next ≤ k)
      → (settled m.system.0 x t w).next ≤ k → (i : ℕ) (z : Managed) → managed_at (after_request m t w) i ≡ Some z
      → z.next ≤ k
  request-next k old new i z managed =
      go (i == e) (sym (managed-set m e x is (Some (settled m.system.0 x t w)) i)
      ∙ (sym (ap (λ v. managed_at v i) after-is) ∙ managed))
    where
      go : (b : Bool) → cond b (Some (settled m.system.0 x t w)) (managed_at m i) ≡ Some z → z.next ≤ k
      go true f = subst (λ y. y.next ≤ k) (same_Some (settled m.system.0 x t w) z f) new
      go false f = old i z f

module _ (m : ManagerView) (t : TaskId) (r : Res) where
  -- by what is kept of the entry
  by-kept : (P : ManagerView → Type 0) → P m
      → ((e : ℕ) (x : Managed) → managed_at m e ≡ Some x → P (with_entry m (Some e) (Some (told t r x))))
      → P (after_telling m t r)
  by-kept P stays changes = by-entry (entry_of_res (length m.entries) r)
    where
      by-managed : (e : ℕ) (o : Option Managed) → managed_at m e ≡ o
          → P (option_map_or (λ z. with_entry m (Some e) (Some (told t r z))) o m)
      by-managed e None is = stays
      by-managed e (Some x) is = changes e x is

      by-entry : (o : Option ℕ) → P (option_map_or (λ z. with_entry m o (Some (told t r z))) (kept_for m.entries o) m)
      by-entry None = stays
      by-entry (Some e) = by-managed e (managed_at m e) refl

  pub telling-untold : (q : Res) (u : TaskId) → (same_res r q && same_task t u) ≡ false → untold_of m q u ≡ true
      → untold_of (after_telling m t r) q u ≡ true
  telling-untold q u other before =
      by-kept (λ v. untold_of v q u ≡ true) before
      (λ e x is. go e x is (is_entry e (entry_of_res (length m.entries) q)) refl)
    where
      go : (e : ℕ) (x : Managed) → managed_at m e ≡ Some x → (b : Bool)
          → is_entry e (entry_of_res (length m.entries) q) ≡ b
          → untold_of (with_entry m (Some e) (Some (told t r x))) q u ≡ true
      go e x is false f =
          ap (λ o. untold_at (items_of o) q u) (managed_of-other m e x is (Some (told t r x)) q f) ∙ before
      go e x is true f =
          let z = managed_of-same m e x is (Some (told t r x)) q f in
          ap (λ o. untold_at (items_of o) q u) z.0
          ∙ (telling_tells t r x q u
          ∙ and_from (untold_at x.items q u) (not (same_res r q && same_task t u))
          (sym (ap (λ o. untold_at (items_of o) q u) z.1) ∙ before) (ap not other))

  pub telling-next : (k : ℕ) → ((i : ℕ) (z : Managed) → managed_at m i ≡ Some z → z.next ≤ k) → (i : ℕ) (z : Managed)
      → managed_at (after_telling m t r) i ≡ Some z → z.next ≤ k
  telling-next k old i z =
      by-kept (λ v. managed_at v i ≡ Some z → z.next ≤ k) (old i z)
      (λ e x is managed. go e x is (i == e) (sym (managed-set m e x is (Some (told t r x)) i) ∙ managed))
    where
      go : (e : ℕ) (x : Managed) → managed_at m e ≡ Some x → (b : Bool)
          → cond b (Some (told t r x)) (managed_at m i) ≡ Some z → z.next ≤ k
      go e x is true f = subst (λ y. y.next ≤ k) (same_Some (told t r x) z f) (old e x is)
      go e x is false f = old i z f

-- an entry in which nothing stands is given up
pub giving-untold : (m : ManagerView) (e : ℕ) → (length (items_of (managed_at m e)) == 0) ≡ true
    → (r : Res) (t : TaskId) → untold_of m r t ≡ true
    → untold_of (cond (is_some (managed_at m e)) (with_entry m (Some e) None) m) r t ≡ true
giving-untold m e empty r t before = by-managed (managed_at m e) refl
  where
    by-managed : (o : Option Managed) → managed_at m e ≡ o
        → untold_of (cond (is_some o) (with_entry m (Some e) None) m) r t ≡ true
    by-managed None is = before
    by-managed (Some x) is = go (is_entry e (entry_of_res (length m.entries) r)) refl
      where
        nothing : (xs : List Ranked) → (length xs == 0) ≡ true → untold_at xs r t ≡ false
        nothing [] h = refl
        nothing (y ∷ ys) h = absurd (omega (arith, eqb-true (length (y ∷ ys)) 0 h))

        go : (b : Bool) → is_entry e (entry_of_res (length m.entries) r) ≡ b
            → untold_of (with_entry m (Some e) None) r t ≡ true
        go false f = ap (λ o. untold_at (items_of o) r t) (managed_of-other m e x is None r f) ∙ before
        go true f =
            no_truth (untold_of m r t) before (ap (λ o. untold_at (items_of o) r t)
            ((managed_of-same m e x is None r f).1 ∙ sym is)
            ∙ nothing (items_of (managed_at m e)) empty)

pub giving-next : (m : ManagerView) (e k : ℕ) → ((i : ℕ) (z : Managed) → managed_at m i ≡ Some z → z.next ≤ k)
    → (i : ℕ) (z : Managed) → managed_at (cond (is_some (managed_at m e)) (with_entry m (Some e) None) m) i ≡ Some z
    → z.next ≤ k
giving-next m e k old i z = by-managed (managed_at m e) refl
  where
    by-managed : (o : Option Managed) → managed_at m e ≡ o
        → managed_at (cond (is_some o) (with_entry m (Some e) None) m) i ≡ Some z → z.next ≤ k
    by-managed None is managed = old i z managed
    by-managed (Some x) is managed = go (i == e) (sym (managed-set m e x is None i) ∙ managed)
      where
        go : (b : Bool) → cond b None (managed_at m i) ≡ Some z → z.next ≤ k
        go true f = absurd (cc)
        go false f = old i z f

-- an entry is begun of which nothing was kept
pub beginning-untold : (m : ManagerView) (e : ℕ) → e < length m.entries → managed_at m e ≡ None → (r : Res) (t : TaskId)
    → untold_of m r t ≡ true → untold_of (with_entry m (Some e) (Some no_elements)) r t ≡ true
beginning-untold m e inside none r t before =
    ap (λ k. untold_at (items_of (kept_for (slice_set m.entries e (Some no_elements)) (entry_of_res k r))) r t)
    (length-set m.entries e (Some no_elements))
    ∙ go (entry_of_res (length m.entries) r) before
  where
    go : (p : Option ℕ) → untold_at (items_of (kept_for m.entries p)) r t ≡ true
        → untold_at (items_of (kept_for (slice_set m.entries e (Some no_elements)) p)) r t ≡ true
    go None h = h
    go (Some i) h =
        ap (λ o. untold_at (items_of o) r t) (kept-set m.entries e i (Some no_elements) inside) ∙ by-entry (i == e) refl
      where
        by-entry : (b : Bool) → (i == e) ≡ b
            → untold_at (items_of (cond b (Some no_elements) (kept_at m.entries i))) r t ≡ true
        by-entry false f = h
        by-entry true f =
            absurd (let no_item : false ≡ true =
            sym (ap (λ o. untold_at (items_of o) r t) (ap (kept_at m.entries) (eqb-true i e f) ∙ none)) ∙ h in
            cc)

pub beginning-next : (m : ManagerView) (e : ℕ) → e < length m.entries → (k : ℕ)
    → ((i : ℕ) (z : Managed) → managed_at m i ≡ Some z → z.next ≤ suc k) → (i : ℕ) (z : Managed)
    → managed_at (with_entry m (Some e) (Some no_elements)) i ≡ Some z → z.next ≤ suc k
beginning-next m e inside k old i z managed =
    go (i == e) (sym (kept-set m.entries e i (Some no_elements) inside) ∙ managed)
  where
    go : (b : Bool) → cond b (Some no_elements) (managed_at m i) ≡ Some z → z.next ≤ suc k
    go true f = subst (λ (y : Managed). y.next ≤ suc k) (same_Some no_elements z f) (omega arith)
    go false f = old i z f
