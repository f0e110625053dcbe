-- A manager decides the request of a task of its own system: elements keep their ranks, and a new one gets its rank on
-- record at once.
use Rattle.grs_world.proofs.Common.{[], ◌++◌, ◌==◌, ◌∙◌, ◌∷◌, ◌≡◌, ◌≢◌, ◌⊎◌, after_request, after_want, and_parts}
use Rattle.grs_world.proofs.Common.{answer_to, ap, append-nil, Asked, askers, Bool, cond, Deck, entry_wanted, eqb-true}
use Rattle.grs_world.proofs.Common.{false, false_by, fixed_by, has_res, has_task, inbox, inl, inr, is_among, is_home_at}
use Rattle.grs_world.proofs.Common.{is_sent, is_some, is_systems, is_task, items, kept_for, List, list_of, lists}
use Rattle.grs_world.proofs.Common.{lists-push, made_item, Managed, managed_at, mine, new_owners, no_truth, NodeState}
use Rattle.grs_world.proofs.Common.{None, Option, placed, plain, rank_of, refl, request_of, Res, res_wanted, RunItem}
use Rattle.grs_world.proofs.Common.{same_Some, same_task, same_task-exact, Some, StarPart, state_of, subst, sym, SysId}
use Rattle.grs_world.proofs.Common.{TaskId, TaskState, TasksView, tell_answer_ranked, tell_new, true, Turnout, Want}
use Rattle.grs_world.proofs.Common.{World, ℕ}
use Rattle.contention_mgr.specs.Manager.{managed_for, rank_for}
use Rattle.grs_world.proofs.star.ranks.Carried.{CarriesRank}
use Rattle.grs_world.proofs.star.ranks.Ranked.{HasShown, LeavesRanks, StaysRanked, shown-placed}
use Rattle.grs_world.proofs.star.ranks.Settles.{absent-carried, entry-list, gain-wants, new-rank, queued, request-rank}
use Rattle.grs_world.proofs.star.ranks.Shows.{Shows, comes-none, comes_with}
use Rattle.grs_world.proofs.run.Site.{Site, each_site}
use Rattle.grs_world.proofs.star.Heard.{grants, sent_by}
use Rattle.grs_world.proofs.star.Members.{IsMember, IsPart, all_lists, has_manager}
use Rattle.grs_world.proofs.star.Worlds.{IsWhole, items-one}
use Rattle.grs_world.proofs.star.hearing.Decided.{one-place}
use Rattle.grs_world.proofs.star.hearing.Elements.{idle-element, idle-silent}
use Rattle.grs_world.proofs.star.hearing.Gains.{has-gain}
use Rattle.grs_world.proofs.star.hearing.Answering.{Answered, answered}
use Rattle.grs_world.proofs.star.hearing.Gentle.{Gentle, gentle-new}
use Rattle.grs_world.proofs.star.hearing.Passing.{lists_then, own-recorded-ready}
use Rattle.grs_world.proofs.star.hearing.Ranks.{HaveRank, answer-gives, answer-keeps, keeps-ranks, old-has}
use Rattle.grs_wire.specs.declared.request.Fixed.TheVariants as fixing

module _ (deck : Deck) (w : World) (g : IsWhole deck w) (c : SysId) (n : NodeState) (at : Site w c.0 n)
    (words : List ℕ) (flags : ℕ) (t : TaskId) (home : is_home_at deck c.0 t ≡ true) (a : Asked)
    (free : is_among t (askers (g.out c.0)) ≡ false) (entry : ℕ)
    (of_entry : entry_wanted deck.entries a.req.want ≡ Some entry) (managing : has_manager words entry c.0 ≡ true)
    (p q : StarPart) (star : n.star ≡ Some p) (fits : IsPart deck words (lists (items w.fixed)) c.0 q)
    (begins : (r : Res) (u : TaskId) (k : ℕ) → CarriesRank r u k p.manager → CarriesRank r u k q.manager) where
  abbrev T : List RunItem
  T = items w.fixed

  abbrev want : Want
  want = a.req.want

  abbrev rank : ℕ
  rank = rank_of q (request_of t a)

  abbrev item : RunItem
  item = made_item c (items w.fixed) (fixing.Asked (request_of t a))

  abbrev p' : StarPart
  p' = record q { manager = after_request q.manager t a.req.want }

  -- the tasks once the answer was told, and once own new owners were
  abbrev v1 : TasksView
  v1 =
      tell_answer_ranked n.tasks t a (answer_to (lists (items w.fixed)) t a.req.want) (rank_of q (request_of t a))

  abbrev v2 : TasksView
  v2 =
      tell_new
      (tell_answer_ranked n.tasks t a (answer_to (lists (items w.fixed)) t a.req.want) (rank_of q (request_of t a)))
      (res_wanted a.req.want) (new_owners (lists (items w.fixed)) t a.req.want)

  abbrev o : Turnout
  o = record {
    medium = record w.medium { words = words; rest = flags };
    step = record {
      node =
          record n {
            tasks =
                tell_new
                (tell_answer_ranked n.tasks t a (answer_to (lists (items w.fixed)) t a.req.want)
                (rank_of q (request_of t a)))
                (res_wanted a.req.want) (new_owners (lists (items w.fixed)) t a.req.want);
            star = Some (record q { manager = after_request q.manager t a.req.want });
          };
      fixed = fixing.Asked (request_of t a) ∷ [];
    };
  }

  here : is_task n.tasks t ≡ true
  here = (g.system c.0 n at).at.good.here t home

  k : Answered n.tasks v1 t a.req.want (grants (answer_to (lists T) t a.req.want))
  k = answered n.tasks t here a (answer_to (lists T) t want) rank

  gentle : Gentle v1 v2
  gentle = gentle-new v1 (res_wanted want) (new_owners (lists T) t want)

  unsent : sent_by o.step.node t ≡ false
  unsent =
      false_by (sent_by o.step.node t) (λ e.
      no_truth (is_sent (state_of v1 t).phase) ((gentle.each t).sent e)
      (ap (λ (y : TaskState). is_sent y.phase) k.did.state ∙ k.unsent))

  lists-are : (v : Res)
      → list_of (lists (items (w.fixed ++ fixed_by c (fixing.Asked (request_of t a) ∷ [])))) v
      ≡ list_of (after_want (lists T) t want) v
  lists-are v =
      ap (λ xs. list_of (lists xs) v) (items-one w.fixed c (fixing.Asked (request_of t a)))
      ∙ ap (λ s. list_of s v) (lists-push T item)

  idle : mine t (g.later c.0) ≡ []
  idle = (g.system c.0 n at).sent t free

  silent : comes_with t (inbox w.medium c.0) ≡ None
  silent =
      comes-none t (inbox w.medium c.0)
      (idle-silent deck w.medium.words T g.right c.0 n (inbox w.medium c.0) (g.later c.0) (g.out c.0)
      (g.system c.0 n at) t home idle)

  managed : (x : Managed) × (managed_for q.manager a.req.want ≡ Some x)
  managed = go (managed_at q.manager entry) refl (fits.roles entry ∙ managing)
    where
      go : (z : Option Managed) → managed_at q.manager entry ≡ z → is_some (managed_at q.manager entry) ≡ true
          → (x : Managed) × (managed_for q.manager a.req.want ≡ Some x)
      go (Some x) e h =
          (x, ap (kept_for q.manager.entries) (ap (λ i. entry_wanted i a.req.want) fits.entries ∙ of_entry) ∙ e)
      go None e h = absurd (let f : false ≡ true = sym (ap is_some e) ∙ h in cc)

  -- ---- what stands
  -- an element of the asker that stands is on record behind the event
  recorded : IsWhole deck (placed w c n o) → (v : Res) → has_task (list_of (lists_then w c o) v) t ≡ true
      → has_res v (state_of o.step.node.tasks t).records ≡ true
  recorded g' v stands = own-recorded-ready deck w g c n at o refl g' t home v stands unsent

  asker-shows : IsWhole deck (placed w c n o) → (v : Res) (i : ℕ) → is_systems v ≡ true
      → has_task (list_of (lists_then w c o) v) t ≡ true →
      Shows v t i (state_of n.tasks t).records (inbox w.medium c.0)
      → Shows v t i (state_of o.step.node.tasks t).records (inbox w.medium c.0)
  asker-shows g' v i wide stands shown = record {
    ranked = go (has_res v (state_of n.tasks t).records) refl;
    comes = λ none.
        no_truth (has_res v (state_of o.step.node.tasks t).records) (recorded g' v stands) none;
  }
    where
      go : (b : Bool) → has_res v (state_of n.tasks t).records ≡ b → HaveRank v i (state_of o.step.node.tasks t).records
      go true e =
          (gentle.each t).ranks v i wide
          (keeps-ranks v i n.tasks v1 t
          (answer-keeps v i n.tasks t here a (answer_to (lists T) t want) rank
          (old-has v (res_wanted want) (state_of n.tasks t).records e) shown.ranked))
      go false e = absurd (let f : None ≡ Some i = sym silent ∙ shown.comes e in cc)

  other-shows : (u : TaskId) → u.task ≢ t.task → (v : Res) (i : ℕ) → is_systems v ≡ true
      → Shows v u i (state_of n.tasks u).records (inbox w.medium c.0)
      → Shows v u i (state_of o.step.node.tasks u).records (inbox w.medium c.0)
  other-shows u place v i wide shown =
      let same : state_of v1 u ≡ state_of n.tasks u = k.did.changed.others u place in
      record {
        ranked =
            (gentle.each u).ranks v i wide
            (subst (λ (y : TaskState). HaveRank v i y.records) (sym same) shown.ranked);
        comes = λ none.
            shown.comes (ap (λ (y : TaskState). has_res v y.records) (sym same)
            ∙ (sym ((gentle.each u).has v wide) ∙ none));
      }

  -- ---- a new element
  module _ (u : TaskId) (v : Res) (wide : is_systems v ≡ true)
      (before : has_task (list_of (lists (items w.fixed)) v) u ≡ false)
      (after : has_task (list_of (after_want (lists (items w.fixed)) t a.req.want) v) u ≡ true)
      (same : same_task u t ≡ true) where
    abbrev m : Managed
    m = managed.0

    task : u ≡ t
    task = same_task-exact u t same

    rank-is : rank_of q (request_of t a) ≡ (managed.0).next
    rank-is =
        ap (λ (z : Option Managed). rank_for z t want) managed.1
        ∙ ap (λ b. cond b m.next 0)
        (queued (plain m.items) (lists T) t want v
        (entry-list deck words (lists T) c.0 q fits want entry of_entry managing m managed.1)
        (ap (has_task (list_of (lists T) v)) (sym task) ∙ before)
        (ap (has_task (list_of (after_want (lists T) t want) v)) (sym task) ∙ after))

    carried : (j : ℕ) (z : NodeState) (x : StarPart) → Site (placed w c n o) j z → z.star ≡ Some x
        → CarriesRank v u (managed.0).next x.manager
    unfolding placed
    carried j z x found known =
        each_site w c n at o (λ i live. live)
        (λ i (y : NodeState). (b : StarPart) → y.star ≡ Some b → CarriesRank v u (managed.0).next b.manager)
        (λ b is.
        subst (λ (d : StarPart). CarriesRank v u m.next d.manager) (same_Some p' b is)
        (new-rank deck words (lists T) c.0 q fits want entry of_entry managing m managed.1 t v u before))
        (λ i y ne there b is.
        let me : IsMember deck w.medium.words (all_lists w) i y = g.roles.node i y there in
        subst (λ (d : StarPart). CarriesRank v u m.next d.manager) (same_Some me.part b (sym me.star ∙ is))
        (absent-carried deck w.medium.words (lists T) i me.part me.fits v u before m.next))
        j z found x known

    shown : IsWhole deck (placed w c n o) → has_task (list_of (lists_then w c o) v) u ≡ true
        → Shows v u (managed.0).next (state_of o.step.node.tasks u).records (inbox w.medium c.0)
    shown g' stands =
        subst (λ (z : TaskId). Shows v z m.next (state_of o.step.node.tasks z).records (inbox w.medium c.0)) (sym task)
        (record {
          ranked =
              (gentle.each t).ranks v m.next wide
              (subst (λ i. HaveRank v i (state_of v1 t).records) rank-is
              (answer-gives n.tasks t a (answer_to (lists T) t want) rank v
              (gain-wants (lists T) t want v u before after) unrecorded));
          comes = λ none.
              no_truth (has_res v (state_of o.step.node.tasks t).records)
              (recorded g' v (ap (has_task (list_of (lists_then w c o) v)) (sym task) ∙ stands)) none;
        })
      where
        unrecorded : has_res v (state_of n.tasks t).records ≡ false
        unrecorded =
            false_by (has_res v (state_of n.tasks t).records) (λ e.
            no_truth (has_task (list_of (lists T) v) t)
            (idle-element deck w.medium.words T g.right c.0 n (inbox w.medium c.0) (g.later c.0) (g.out c.0)
            (g.system c.0 n at) t home idle v e)
            (ap (has_task (list_of (lists T) v)) (sym task) ∙ before))

  fresh : IsWhole deck (placed w c n o) → (s : ℕ) (y : NodeState) (u : TaskId) (v : Res) → Site (placed w c n o) s y
      → is_home_at deck s u ≡ true → is_systems v ≡ true → has_task (list_of (lists T) v) u ≡ false
      → has_task (list_of (lists_then w c o) v) u ≡ true → HasShown (placed w c n o) s y u v
  unfolding placed
  fresh g' s y u v found own wide before after =
      let gained = sym (ap (λ es. has_task es u) (lists-are v)) ∙ after in
      let same : same_task u t ≡ true = has-gain (lists T) t want v u before gained in
      each_site w c n at o (λ i live. live) (λ i z. is_home_at deck i u ≡ true → HasShown (placed w c n o) i z u v)
      (λ mine. record {
        rank = (managed.0).next;
        shown = shown u v wide before gained same g' after;
        carried = carried u v wide before gained same;
      })
      (λ i z ne there there_home. absurd (ne (elsewhere i there_home same))) s y found own
    where
      elsewhere : (i : ℕ) → is_home_at deck i u ≡ true → same_task u t ≡ true → i ≡ c.0
      elsewhere i there same =
          sym (eqb-true u.system.0 i (and_parts (u.system.0 == i) _ there).0)
          ∙ (ap (λ (z : TaskId). z.system.0) (same_task-exact u t same)
          ∙ eqb-true t.system.0 c.0 (and_parts (t.system.0 == c.0) _ home).0)

  ranks-decided : IsWhole deck (placed w c n o) → LeavesRanks deck w c n o
  ranks-decided g' = record {
    boxes = λ u ne. ([], sym (append-nil (inbox w.medium u)), tt);
    own = λ u v i own wide stands shows.
        by-place u v i wide stands shows (one-place deck w g c.0 n at t u home own);
    carries = λ x x' is is' u v i stands has.
        subst (λ (z : StarPart). CarriesRank v u i z.manager) (same_Some p' x' is')
        (request-rank deck words (lists T) c.0 q fits want entry of_entry managing t v u i stands
        (begins v u i (subst (λ (z : StarPart). CarriesRank v u i z.manager) (same_Some x p (sym is ∙ star)) has)));
    fresh = λ s y u v found own wide before after. fresh g' s y u v found own wide before after;
  }
    where
      by-place : (u : TaskId) (v : Res) (i : ℕ) → is_systems v ≡ true
          → has_task (list_of (lists_then w c o) v) u ≡ true →
          Shows v u i (state_of n.tasks u).records (inbox w.medium c.0)
          → (u ≡ t) ⊎ (u.task ≢ t.task)
          → Shows v u i (state_of o.step.node.tasks u).records (inbox w.medium c.0)
      by-place u v i wide stands shows (inr ne) = other-shows u ne v i wide shows
      by-place u v i wide stands shows (inl is) =
          subst (λ (z : TaskId). Shows v z i (state_of o.step.node.tasks z).records (inbox w.medium c.0)) (sym is)
          (asker-shows g' v i wide (ap (has_task (list_of (lists_then w c o) v)) (sym is) ∙ stands)
          (subst (λ (z : TaskId). Shows v z i (state_of n.tasks z).records (inbox w.medium c.0)) is shows))

  pub ranked-decided : IsWhole deck (placed w c n o) → StaysRanked deck w c n o
  ranked-decided g' sent had heard = shown-placed deck w g c n at o refl (ranks-decided g')
