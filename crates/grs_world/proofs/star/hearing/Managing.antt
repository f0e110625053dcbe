-- A manager decides a request by its lists of the entry, which are what all lists have of it: whom it has still to tell
-- then.
use Rattle.grs_world.proofs.Common.{[], ◌&&◌, ◌++◌, ◌∙◌, ◌∷◌, ◌≡◌, ◌≢◌, ◌≤◌, after_request, after_want, Alike, ap}
use Rattle.grs_world.proofs.Common.{arith, Bool, Deck, entry_of_res, entry_wanted, false, is_entry, is_some, items_of}
use Rattle.grs_world.proofs.Common.{length, List, list_of, Managed, managed_at, ne_eqb, not, owns, plain, refl, Res}
use Rattle.grs_world.proofs.Common.{RunItem, same_task, Some, StarPart, State, subst, suc, sym, TaskId, true, Want, ℕ}
use Rattle.grs_known.proofs.lists.Alike.{alike-want}
use Rattle.contention_mgr.specs.Laws.{is_elsewhere, owns_by}
use Rattle.grs_world.proofs.star.Heard.{enq_count, is_enq, is_enq_want}
use Rattle.grs_world.proofs.star.Members.{IsPart}
use Rattle.grs_world.proofs.star.Under.{entry-same, in_entry, list-under, res-entry, under, under-want}
use Rattle.grs_world.proofs.star.hearing.Gains.{gained-among, next-bound, request-gained, request-next, request-untold}
use Rattle.grs_world.proofs.star.hearing.Gains.{untold_of, gain-asks}

module _ (deck : Deck) (words : List ℕ) (L : State) (s : ℕ) (p : StarPart) (k : IsPart deck words L s p) (t : TaskId)
    (w : Want) (e : ℕ) (of_entry : entry_wanted deck.entries w ≡ Some e)
    (x : Managed) (is : managed_at p.manager e ≡ Some x) where
  at : entry_wanted (length p.manager.entries) w ≡ Some e
  at = ap (λ i. entry_wanted i w) k.entries ∙ of_entry

  in-same : (q : Res) → is_entry e (entry_of_res (length p.manager.entries) q) ≡ in_entry deck.entries e q
  in-same q = ap (λ i. is_entry e (entry_of_res i q)) k.entries

  before-here : Alike (plain x.items) (under deck.entries e L)
  before-here = subst (λ o. Alike (plain (items_of o)) (under deck.entries e L)) is (k.lists e (ap is_some is))

  after-here : Alike (after_want (plain x.items) t w) (under deck.entries e (after_want L t w))
  after-here =
      subst (Alike (after_want (plain x.items) t w))
      (under-want deck.entries e L t w (entry-same e (entry_wanted deck.entries w) of_entry))
      (alike-want (plain x.items) (under deck.entries e L) t w before-here)

  owns-before : (q : Res) (u : TaskId) → in_entry deck.entries e q ≡ true
      → owns (list_of (plain x.items) q) u ≡ owns (list_of L q) u
  owns-before q u here = ap (λ es. owns es u) (before-here.lists q ∙ list-under deck.entries e L q here)

  owns-after : (q : Res) (u : TaskId) → in_entry deck.entries e q ≡ true
      → owns (list_of (after_want (plain x.items) t w) q) u ≡ owns (list_of (after_want L t w) q) u
  owns-after q u here = ap (λ es. owns es u) (after-here.lists q ∙ list-under deck.entries e (after_want L t w) q here)

  -- who was still to be told, and owns
  pub untold-then : (q : Res) (u : TaskId) → owns (list_of (after_want L t w) q) u ≡ true
      → untold_of p.manager q u ≡ true → untold_of (after_request p.manager t w) q u ≡ true
  untold-then q u owned before =
      request-untold p.manager t w e at x is q u (λ here. owns-after q u (sym (in-same q) ∙ here) ∙ owned) before

  -- who gains control at another system
  pub gained-then : (q : Res) (u : TaskId) → same_task t u ≡ false → u.system.0 ≢ s → owns (list_of L q) u ≡ false
      → owns (list_of (after_want L t w) q) u ≡ true → untold_of (after_request p.manager t w) q u ≡ true
  gained-then q u apart away before after =
      let asks = gain-asks L t w q u before after in
      let z = gained-among L t w asks.0 q u asks.1 apart before after in
      let here : in_entry deck.entries e q ≡ true =
      ap (in_entry deck.entries e) z.0
      ∙ entry-same e (entry_of_res deck.entries asks.0) (res-entry deck.entries w asks.0 e asks.1 of_entry) in
      request-gained p.manager t w e at x is q u (in-same q ∙ here)
      (four (owns_by (after_want (plain x.items) t w) q u) (not (owns_by (plain x.items) q u)) (not (same_task t u))
      (is_elsewhere p.manager.system.0 q u)
      (owns-after q u here ∙ after) (ap not (owns-before q u here ∙ before)) (ap not apart)
      (ap not (ne_eqb p.manager.system.0 u.system.0 (λ same. away (sym same ∙ k.home)))))
    where
      four : (a b c d : Bool) → a ≡ true → b ≡ true → c ≡ true → d ≡ true → (a && b && c && d) ≡ true
      four true true true true f g h i = refl
      four true true true false f g h i = absurd (cc)
      four true true false d f g h i = absurd (cc)
      four true false c d f g h i = absurd (cc)
      four false b c d f g h i = absurd (cc)

  -- no rank that it gives is past the number of requests
  pub next-then : (T : List RunItem) (item : RunItem) → (is_enq_want w ≡ true → is_enq item.fixed ≡ true)
      → enq_count T ≤ enq_count (T ++ item ∷ [])
      → ((i : ℕ) (z : Managed) → managed_at p.manager i ≡ Some z → z.next ≤ suc (enq_count T)) →
      (i : ℕ) (z : Managed) → managed_at (after_request p.manager t w) i ≡ Some z
      → z.next ≤ suc (enq_count (T ++ item ∷ []))
  next-then T item enq more low =
      request-next p.manager t w e at x is (suc (enq_count (T ++ item ∷ [])))
      (λ i z managed. grown z.next (low i z managed)) (next-bound p.manager.system.0 x t w T item enq more (low e x is))
    where
      grown : (n : ℕ) → n ≤ suc (enq_count T) → n ≤ suc (enq_count (T ++ item ∷ []))
      grown n h = omega (arith, h, more)
