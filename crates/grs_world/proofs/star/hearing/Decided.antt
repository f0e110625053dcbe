-- A system decides a request of its own task: the task is told the answer, own tasks that became owners are told, and
-- those of other systems are still to be told.
use Rattle.grs_world.proofs.Common.{[], ◌++◌, ◌==◌, ◌∙◌, ◌∷◌, ◌≡◌, ◌≢◌, ◌≤◌, after_request, after_want, and_parts}
use Rattle.grs_world.proofs.Common.{answer_to, ap, append-nil, Asked, askers, Bool, Deck, entry_of_res, entry_wanted}
use Rattle.grs_world.proofs.Common.{eqb-false, eqb-true, false, false_by, fixed_by, has, has_res, has_task, inbox, inl}
use Rattle.grs_world.proofs.Common.{inr, is_among, is_home_at, is_marked, is_sent, is_some, is_systems, is_task, items}
use Rattle.grs_world.proofs.Common.{List, list_of, lists, lists-push, made_item, Managed, managed_at, mine, new_owners}
use Rattle.grs_world.proofs.Common.{no_truth, NodeState, None, Option, owns, owns-has, placed, refl, request_of, Res}
use Rattle.grs_world.proofs.Common.{res_wanted, RunItem, same_place, same_Some, same_task, same_task-exact}
use Rattle.grs_world.proofs.Common.{same_task-itself, Some, StarPart, state_of, subst, suc, sym, SysId, TaskId}
use Rattle.grs_world.proofs.Common.{TaskState, TasksView, tell_answer_ranked, tell_new, true, Turnout, Want, World, ℕ}
use Rattle.std.specs.Prelude.{◌⊎◌}
use Rattle.grs_world.proofs.star.Heard.{StaysHeard, enq_count, grants, had_by, hears, sent_by}
use Rattle.grs_world.proofs.star.Members.{IsPart, has_manager}
use Rattle.grs_world.proofs.star.Systems.{ours}
use Rattle.grs_world.proofs.star.Under.{res-entry}
use Rattle.grs_world.proofs.star.Worlds.{IsWhole, in_hands, items-one}
use Rattle.grs_world.proofs.star.hearing.Elements.{idle-element, idle-silent, records-distinct}
use Rattle.grs_world.proofs.star.hearing.Gains.{gained-among, gained-res, has-gain, own-gain, untold_of, gain-asks}
use Rattle.grs_world.proofs.star.hearing.Answering.{Answered, answered}
use Rattle.grs_world.proofs.star.hearing.Gentle.{Gentle, GentleTo, gentle-new, new-marked}
use Rattle.grs_world.proofs.star.hearing.Mails.{answers, hears-recorded}
use Rattle.grs_world.proofs.star.hearing.Managing.{gained-then, next-then, untold-then}
use Rattle.grs_world.proofs.star.hearing.Own.{hands-kept, own-addressed, own-owner, owner-by, request-kept}
use Rattle.grs_world.proofs.star.hearing.Passing.{Grown, Hearable, Requested, enq_count-grown, heard-placed}
use Rattle.grs_world.proofs.star.hearing.Passing.{is_untold_by, own-recorded-ready, untold-here, untold-own}
use Rattle.grs_world.proofs.star.hearing.Passing.{recorded-now}
use Rattle.grs_world.proofs.run.Site.{Site}
use Rattle.grs_world.proofs.run.Placed.{nodes_then}
use Rattle.grs_wire.specs.declared.request.Fixed.TheVariants as fixing

-- two tasks of a system are one, or stand at two places
pub one-place : (deck : Deck) (w : World) (g : IsWhole deck w) (s : ℕ) (n : NodeState) → Site w s n → (t u : TaskId)
    → is_home_at deck s t ≡ true → is_home_at deck s u ≡ true
    → (u ≡ t) ⊎ (u.task ≢ t.task)
one-place deck w g s n at t u home own = go (u.task == t.task) refl
  where
    go : (b : Bool) → (u.task == t.task) ≡ b → (u ≡ t) ⊎ (u.task ≢ t.task)
    go false e = inr (eqb-false u.task t.task e)
    go true e =
        let k = (g.system s n at).at in
        let x = ours deck s (items w.fixed) (g.later s) (g.out s) n k u own in
        let y = ours deck s (items w.fixed) (g.later s) (g.out s) n k t home in
        inl (same_task-exact u t (same_place deck s n.tasks u t x.0 y.0 x.1 y.1 (eqb-true u.task t.task e)))

module _ (deck : Deck) (w : World) (g : IsWhole deck w) (c : SysId) (n : NodeState)
    (at : Site w c.0 n) (words : List ℕ) (flags : ℕ)
    (t : TaskId) (home : is_home_at deck c.0 t ≡ true) (a : Asked) (free : is_among t (askers (g.out c.0)) ≡ false)
    (entry : ℕ) (of_entry : entry_wanted deck.entries a.req.want ≡ Some entry)
    (managing : has_manager words entry c.0 ≡ true) (rank : ℕ)
    (p q : StarPart) (star : n.star ≡ Some p) (fits : IsPart deck words (lists (items w.fixed)) c.0 q)
    (held : q.held ≡ p.held)
    (begins : (v : Res) (u : TaskId) → untold_of p.manager v u ≡ true → untold_of q.manager v u ≡ true)
    (low : (k : ℕ) → ((i : ℕ) (z : Managed) → managed_at p.manager i ≡ Some z → z.next ≤ suc k) → (i : ℕ) (z : Managed)
    → managed_at q.manager i ≡ Some z → z.next ≤ suc k) where
  abbrev T : List RunItem
  T = items w.fixed

  abbrev want : Want
  want = a.req.want

  abbrev item : RunItem
  item = made_item c (items w.fixed) (fixing.Asked (request_of t a))

  abbrev p' : StarPart
  p' = record q { manager = after_request q.manager t a.req.want }

  -- the tasks once the answer was told, and once own new owners were
  abbrev v1 : TasksView
  v1 = tell_answer_ranked n.tasks t a (answer_to (lists (items w.fixed)) t a.req.want) rank

  abbrev v2 : TasksView
  v2 =
      tell_new (tell_answer_ranked n.tasks t a (answer_to (lists (items w.fixed)) t a.req.want) rank)
      (res_wanted a.req.want) (new_owners (lists (items w.fixed)) t a.req.want)

  abbrev n' : NodeState
  n' =
      record n {
        tasks =
            tell_new (tell_answer_ranked n.tasks t a (answer_to (lists (items w.fixed)) t a.req.want) rank)
            (res_wanted a.req.want) (new_owners (lists (items w.fixed)) t a.req.want);
        star = Some (record q { manager = after_request q.manager t a.req.want });
      }

  abbrev o : Turnout
  o = record {
    medium = record w.medium { words = words; rest = flags };
    step = record {
      node =
          record n {
            tasks =
                tell_new (tell_answer_ranked n.tasks t a (answer_to (lists (items w.fixed)) t a.req.want) rank)
                (res_wanted a.req.want) (new_owners (lists (items w.fixed)) t a.req.want);
            star = Some (record q { manager = after_request q.manager t a.req.want });
          };
      fixed = fixing.Asked (request_of t a) ∷ [];
    };
  }

  here : (u : TaskId) → is_home_at deck c.0 u ≡ true → is_task n.tasks u ≡ true
  here u own = (g.system c.0 n at).at.good.here u own

  k : Answered n.tasks v1 t a.req.want (grants (answer_to (lists T) t a.req.want))
  k = answered n.tasks t (here t home) a (answer_to (lists T) t want) rank

  gentle : Gentle v1 v2
  gentle = gentle-new v1 (res_wanted want) (new_owners (lists T) t want)

  unsent : sent_by n' t ≡ false
  unsent =
      false_by (sent_by n' t) (λ e.
      no_truth (is_sent (state_of v1 t).phase) ((gentle.each t).sent e)
      (ap (λ (y : TaskState). is_sent y.phase) k.did.state ∙ k.unsent))

  -- another task
  gentle-other : (u : TaskId) → u.task ≢ t.task → GentleTo (state_of n.tasks u) (state_of v2 u)
  gentle-other u ne = subst (λ y. GentleTo y (state_of v2 u)) (k.did.changed.others u ne) (gentle.each u)

  grown : (u : ℕ) → u ≢ c.0 → Grown deck (inbox w.medium u) (inbox w.medium u)
  grown u ne = ([], sym (append-nil (inbox w.medium u)), tt)

  grown_items : items (w.fixed ++ fixed_by c (fixing.Asked (request_of t a) ∷ [])) ≡ T ++ item ∷ []
  grown_items = items-one w.fixed c (fixing.Asked (request_of t a))

  lists-are : (v : Res)
      → list_of (lists (items (w.fixed ++ fixed_by c (fixing.Asked (request_of t a) ∷ [])))) v
      ≡ list_of (after_want (lists T) t want) v
  lists-are v = ap (λ xs. list_of (lists xs) v) grown_items ∙ ap (λ s. list_of s v) (lists-push T item)

  managed : (x : Managed) × (managed_at q.manager entry ≡ Some x)
  managed = go (managed_at q.manager entry) refl (fits.roles entry ∙ managing)
    where
      go : (z : Option Managed) → managed_at q.manager entry ≡ z → is_some (managed_at q.manager entry) ≡ true
          → (x : Managed) × (managed_at q.manager entry ≡ Some x)
      go (Some x) e h = (x, e)
      go None e h = absurd (let f : false ≡ true = sym (ap is_some e) ∙ h in cc)

  idle : mine t (g.later c.0) ≡ []
  idle = (g.system c.0 n at).sent t free

  silent : answers t (inbox w.medium c.0) ≡ false
  silent =
      idle-silent deck w.medium.words T g.right c.0 n (inbox w.medium c.0) (g.later c.0) (g.out c.0)
      (g.system c.0 n at) t home idle

  -- another own task that becomes owner has a record, which is marked
  owner-marked : IsWhole deck (placed w c n o) → (u : TaskId) (v : Res) → is_home_at deck c.0 u ≡ true → u.task ≢ t.task
      → is_systems v ≡ true → owns (list_of (lists T) v) u ≡ false
      → owns (list_of (after_want (lists T) t want) v) u ≡ true → had_by n' u v ≡ true
  owner-marked g' u v own ne wide before after =
      let apart : same_task t u ≡ false =
      false_by (same_task t u) (λ e. absurd (ne (ap (λ (z : TaskId). z.task) (sym (same_task-exact t u e))))) in
      let asks = gain-asks (lists T) t want v u before after in
      let new = gained-among (lists T) t want asks.0 v u asks.1 apart before after in
      let has =
      recorded-now deck w g c n at o refl g' u own v
      (owns-has (list_of (lists (items (w.fixed ++ fixed_by c (fixing.Asked (request_of t a) ∷ [])))) v) u
      (ap (λ es. owns es u) (lists-are v) ∙ after))
      entry (ap (entry_of_res deck.entries) new.0 ∙ res-entry deck.entries want asks.0 entry asks.1 of_entry)
      managing in
      new-marked v1 (res_wanted want) v (new_owners (lists T) t want) u (asks.1 ∙ ap Some (sym new.0)) wide new.1
      (k.did.changed.here u ∙ here u own) (sym ((gentle.each u).has v wide) ∙ has)

  -- the asker
  module _ (g' : IsWhole deck (placed w c n o)) (v : Res) (wide : is_systems v ≡ true)
      (after : owns (list_of (after_want (lists (items w.fixed)) t a.req.want) v) t ≡ true) where
    asker-recorded : has_res v (state_of n'.tasks t).records ≡ true
    asker-recorded =
        own-recorded-ready deck w g c n at o refl g' t home v
        (owns-has (list_of (lists (items (w.fixed ++ fixed_by c (fixing.Asked (request_of t a) ∷ [])))) v) t
        (ap (λ es. owns es t) (lists-are v) ∙ after))
        unsent

    asker-has : has_res v k.state.records ≡ true
    asker-has =
        sym (ap (λ (y : TaskState). has_res v y.records) k.did.state)
        ∙ (sym ((gentle.each t).has v wide) ∙ asker-recorded)

    asker-marks : is_marked v k.state.records ≡ true → had_by n' t v ≡ true
    asker-marks h = (gentle.each t).marked v wide (ap (λ (y : TaskState). is_marked v y.records) k.did.state ∙ h)

    -- it owned before
    asker-stays : (had_by n t v ≡ true) ⊎ Hearable w.medium w.nodes c.0 n t v
        → (had_by n' t v ≡ true) ⊎ Hearable o.medium (nodes_then w c o) c.0 n' t v
    asker-stays (inl e) =
        inl (asker-marks (k.replied.kept (records-distinct deck w.medium.words T g.right c.0 n (inbox w.medium c.0)
        (g.later c.0) (g.out c.0) (g.system c.0 n at) t home)
        v asker-has e))
    asker-stays (inr (inl e)) =
        inr (inl (ap (λ b. hears t v b (inbox w.medium c.0)) asker-recorded
        ∙ hears-recorded t v (has_res v (state_of n.tasks t).records) (inbox w.medium c.0) silent e))
    asker-stays (inr (inr u)) = inr (inr (untold-own deck w g c n at o refl t v u))

    -- it owns by this answer
    asker-gains : owns (list_of (lists T) v) t ≡ false → had_by n' t v ≡ true
    asker-gains before =
        let asks = gain-asks (lists T) t want v t before after in
        let res : v ≡ asks.0 = gained-res (lists T) t want asks.0 v t asks.1 before after in
        let gain = own-gain (lists T) t want v (asks.1 ∙ ap Some (sym res)) before after in
        let none : has_res v (state_of n.tasks t).records ≡ false = false_by (has_res v (state_of n.tasks t).records)
        (λ e.
        no_truth (has_task (list_of (lists T) v) t) (idle-element deck w.medium.words T g.right c.0 n
        (inbox w.medium c.0) (g.later c.0) (g.out c.0) (g.system c.0 n at) t home idle v e)
        gain.1) in
        asker-marks (k.replied.made v (asks.1 ∙ ap Some (sym res)) gain.0 none asker-has)

  pub heard-decided : IsWhole deck (placed w c n o) → StaysHeard deck w c n o
  heard-decided g' sent had few h = heard-placed deck w g c n at o refl sent had h g' (record {
    boxes = grown;
    own_box = own-addressed deck w g c n at o refl sent had h grown refl;
    requests = λ u own is. request u own is (one-place deck w g c.0 n at t u home own);
    passed = λ s u v ne own known among.
        hands-kept deck w g c n at o refl sent had h grown refl s u p p' refl held
        (ap (λ z. is_among u (askers (in_hands z (inbox w.medium c.0)))) (part v known) ∙ among);
    owners = λ u v own wide owned.
        owner u v own wide (sym (ap (λ es. owns es u) (lists-are v)) ∙ owned)
        (one-place deck w g c.0 n at t u home own) (owns (list_of (lists T) v) u) refl;
    told = λ s y u v z ne found own wide owned known untold.
        inr (untold-here deck w g c n at o refl s u v p' ne refl
        (untold-then deck words (lists T) c.0 q fits t want entry of_entry managed.0 managed.1 v u
        (sym (ap (λ es. owns es u) (lists-are v)) ∙ owned)
        (begins v u (ap (λ x. is_untold_by x u v) (part z known) ∙ untold))));
    gained = λ s y u v ne found own wide before after.
        inr (untold-here deck w g c n at o refl s u v p' ne refl
        (gained-then deck words (lists T) c.0 q fits t want entry of_entry managed.0 managed.1 v u
        (false_by (same_task t u) (λ e. absurd (ne (elsewhere s u own e))))
        (λ same. ne (sym (eqb-true u.system.0 s (and_parts (u.system.0 == s) _ own).0) ∙ same)) before
        (sym (ap (λ es. owns es u) (lists-are v)) ∙ after)));
    queued = λ s y u v ne found own wide before after.
        absurd (ne (elsewhere s u own (ap (same_task t) (same_task-exact u t
        (has-gain (lists T) t want v u before (sym (ap (λ es. has_task es u) (lists-are v)) ∙ after)))
        ∙ same_task-itself t)));
    ranks = λ v e x known is. subst (λ xs. x.next ≤ suc (enq_count xs)) (sym grown_items)
        (next-then deck words (lists T) c.0 q fits t want entry of_entry managed.0 managed.1 T item (λ z. z)
        (enq_count-grown T (item ∷ [])) (low (enq_count T) (λ i z managed. h.ranks c.0 n p i z at star managed)) e
        x (ap (λ (z : StarPart). managed_at z.manager e) (same_Some p' v known) ∙ is));
  })
    where
      part : (v : StarPart) → n.star ≡ Some v → p ≡ v
      part v known = same_Some p v (sym star ∙ known)

      -- the asker is of this system
      elsewhere : (s : ℕ) (u : TaskId) → is_home_at deck s u ≡ true → same_task t u ≡ true → s ≡ c.0
      elsewhere s u own e =
          sym (eqb-true u.system.0 s (and_parts (u.system.0 == s) _ own).0)
          ∙ (ap (λ (z : TaskId). z.system.0) (sym (same_task-exact t u e))
          ∙ eqb-true t.system.0 c.0 (and_parts (t.system.0 == c.0) _ home).0)

      request : (u : TaskId) → is_home_at deck c.0 u ≡ true → sent_by n' u ≡ true → (u ≡ t) ⊎ (u.task ≢ t.task)
          → Requested o.medium (nodes_then w c o) c.0 u
      request u own is (inl same) = no_truth (sent_by n' t) (ap (sent_by n') (sym same) ∙ is) unsent
      request u own is (inr ne) =
          request-kept deck w g c n at o refl sent had h grown refl u own ((gentle-other u ne).sent is)

      owner : (u : TaskId) (v : Res) → is_home_at deck c.0 u ≡ true → is_systems v ≡ true
          → owns (list_of (after_want (lists T) t want) v) u ≡ true → (u ≡ t) ⊎ (u.task ≢ t.task) → (b : Bool)
          → owns (list_of (lists T) v) u ≡ b → (had_by n' u v ≡ true) ⊎ Hearable o.medium (nodes_then w c o) c.0 n' u v
      owner u v own wide after (inr ne) true e =
          owner-by deck w g c n at o refl sent had h grown refl u v own wide e ((gentle-other u ne).marked v wide)
          ((gentle-other u ne).has v wide)
      owner u v own wide after (inr ne) false e = inl (owner-marked g' u v own ne wide e after)
      owner u v own wide after (inl same) true e =
          subst (λ z. (had_by n' z v ≡ true) ⊎ Hearable o.medium (nodes_then w c o) c.0 n' z v) (sym same)
          (asker-stays g' v wide (ap (λ z. owns (list_of (after_want (lists T) t want) v) z) (sym same) ∙ after)
          (own-owner deck w g c n at o refl sent had h t v home wide
          (ap (λ z. owns (list_of (lists T) v) z) (sym same) ∙ e)))
      owner u v own wide after (inl same) false e =
          inl (subst (λ z. had_by n' z v ≡ true) (sym same) (asker-gains g' v wide
          (ap (λ z. owns (list_of (after_want (lists T) t want) v) z) (sym same) ∙ after)
          (ap (λ z. owns (list_of (lists T) v) z) (sym same) ∙ e)))
