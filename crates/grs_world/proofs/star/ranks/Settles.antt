-- A manager settles a request of another system: elements keep their ranks, and a new one's rank comes with the answer.
use Rattle.grs_world.proofs.Common.{[], ◌++◌, ◌<◌, ◌==◌, ◌∙◌, ◌∷◌, ◌≡◌, ◌≢◌, after_request, after_want, and_from}
use Rattle.grs_world.proofs.Common.{and_parts, answer_to, Answered, ap, arith, Bool, cond, Ctl, Deck, Deq, Elem, Enq}
use Rattle.grs_world.proofs.Common.{entry_of_res, entry_wanted, eqb-true, false, false_by, fixed_by, has_res, has_task}
use Rattle.grs_world.proofs.Common.{inbox, is_home_at, is_some, items, items_of, kept_at, kept_for, length, List}
use Rattle.grs_world.proofs.Common.{list_all, list_of, lists, lists-push, Look, made_item, Mail, Managed, managed_at}
use Rattle.grs_world.proofs.Common.{MediumState, mine, no_truth, NodeState, None, not, Option, owners_by, placed, plain}
use Rattle.grs_world.proofs.Common.{rank_of, Ranked, refl, Release, Req, Res, res_wanted, RunItem, same_res}
use Rattle.grs_world.proofs.Common.{same_res-exact, same_Some, same_task, same_task-exact, Some, standing_of, StarPart}
use Rattle.grs_world.proofs.Common.{State, state_of, subst, suc, sym, SysId, TaskId, tell_new, true, Turnout, Want}
use Rattle.grs_world.proofs.Common.{with_mail, World, zero, ℕ}
use Rattle.grs_base.specs.declared.decision.Effect.TheVariants.{Append, MakeExclusive, Nothing}
use Rattle.grs_base.specs.Lists.{decide_enq, is_owner, list_after, list_without}
use Rattle.grs_base.specs.declared.decision.Effect.{Effect}
use Rattle.grs_wire.proofs.WantLaws.{list_of-want_other, speaks_of}
use Rattle.contention_mgr.specs.Manager.{managed_for, rank_for, appends, queues}
use Rattle.std.specs.Prelude.{drop}
use Rattle.grs_base.specs.State.{without}
use Rattle.contention_mgr.proofs.ItemLemmas.{holds-list}
use Rattle.grs_base.proofs.ListLaws.{has_task-exclusive, has_task-filter}
use Rattle.grs_base.proofs.StateLaws.{list_at-without, list_of-effect, res_equality}
use Rattle.grs_world.proofs.star.ranks.Carried.{CarriesRank, NewIs, all_at, has_this_rank, rank-absent, rank-next}
use Rattle.grs_world.proofs.star.ranks.Carried.{rank-old, request-all}
use Rattle.grs_world.proofs.star.ranks.Ranked.{HasShown, LeavesRanks, StaysRanked, shown-placed}
use Rattle.grs_world.proofs.star.ranks.Shows.{Shows, comes-none, shows-gentle, shows-sent}
use Rattle.grs_world.proofs.run.Site.{Site, each_site}
use Rattle.grs_world.proofs.star.Boxes.{its-box, other-box}
use Rattle.grs_world.proofs.star.Members.{IsMember, IsPart, all_lists, has_manager}
use Rattle.grs_world.proofs.star.Under.{entry-same, in_entry, list-under, none-under, res-entry, under}
use Rattle.grs_world.proofs.star.Worlds.{IsHand, IsWhole, are_live, items-one, live-below}
use Rattle.grs_world.proofs.star.hearing.Elements.{idle-element, idle-silent}
use Rattle.grs_world.proofs.star.hearing.Gains.{has-gain}
use Rattle.grs_world.proofs.star.hearing.Gentle.{Gentle, gentle-new}
use Rattle.grs_world.proofs.star.hearing.Passing.{Grown, box-grown, lists_then}
use Rattle.grs_wire.specs.declared.request.Fixed.TheVariants as fixing

-- ---- which request is queued
-- one by which its task comes to have an element, by lists that are alike on what it asks for
pub queued : (s L : State) (t : TaskId) (w : Want) (r : Res)
    → ((q : Res) → res_wanted w ≡ Some q → list_of s q ≡ list_of L q) → has_task (list_of L r) t ≡ false
    → has_task (list_of (after_want L t w) r) t ≡ true → queues s t w ≡ true
queued s L t w r alike before after = go (speaks_of w r) refl
  where
    by-enq : (es : List Elem) (c : Ctl) (e : Effect) → has_task es t ≡ false → has_task (list_after es t c e) t ≡ true
        → appends e ≡ true
    by-enq es c Nothing absent present = no_truth (has_task es t) present absent
    by-enq es c MakeExclusive absent present =
        no_truth (has_task es t) (sym (has_task-exclusive es t t) ∙ present) absent
    by-enq es c Append absent present = refl

    by-gone : (q : Res) (X : Type 0) → r ≡ q → has_task (list_of (without same_res L q t) r) t ≡ true → X
    by-gone q X same present = no_truth (has_task (list_without (list_of L r) t) t)
        (sym (ap (λ es. has_task es t) (list_at-without same_res res_equality L r t))
        ∙ (ap (λ p. has_task (list_of (without same_res L p t) r) t) same ∙ present))
        (has_task-filter (λ x. not (same_task t x.task)) (list_of L r) t before)

    spoken : (v : Want) → ((q : Res) → res_wanted v ≡ Some q → list_of s q ≡ list_of L q) → speaks_of v r ≡ true
        → has_task (list_of (after_want L t v) r) t ≡ true → queues s t v ≡ true
    spoken (Enq q c ret full) like e present =
        let same : r ≡ q = same_res-exact r q e in
        ap (λ es. appends (decide_enq es t c ret full).effect) (like q refl)
        ∙ by-enq (list_of L q) c (decide_enq (list_of L q) t c ret full).effect
        (ap (λ p. has_task (list_of L p) t) (sym same) ∙ before)
        (sym (ap (λ es. has_task es t) (list_of-effect L q t c (decide_enq (list_of L q) t c ret full).effect))
        ∙ (ap (λ p. has_task (list_of (after_want L t (Enq q c ret full)) p) t) (sym same) ∙ present))
    spoken (Deq q have) like e present = by-owner (is_owner (standing_of (list_of L q) t)) present
      where
        by-owner : (b : Bool) → has_task (list_of (cond b (without same_res L q t) L) r) t ≡ true
            → queues s t (Deq q have) ≡ true
        by-owner true h = by-gone q (queues s t (Deq q have) ≡ true) (same_res-exact r q e) h
        by-owner false h = no_truth (has_task (list_of L r) t) h before
    spoken (Release q) like e present = by-gone q (queues s t (Release q) ≡ true) (same_res-exact r q e) present
    spoken (Look first count f) like e present = absurd (cc)

    go : (b : Bool) → speaks_of w r ≡ b → queues s t w ≡ true
    go true e = spoken w alike e after
    go false e =
        no_truth (has_task (list_of L r) t) (sym (ap (λ es. has_task es t) (list_of-want_other L t w r e)) ∙ after)
        before

-- and what it asks for is the resource of the new element
pub gain-wants : (L : State) (t : TaskId) (w : Want) (r : Res) (u : TaskId) → has_task (list_of L r) u ≡ false
    → has_task (list_of (after_want L t w) r) u ≡ true → res_wanted w ≡ Some r
gain-wants L t w r u before after = go (speaks_of w r) refl
  where
    named : (v : Want) → speaks_of v r ≡ true → res_wanted v ≡ Some r
    named (Enq q c ret full) e = ap Some (sym (same_res-exact r q e))
    named (Deq q have) e = ap Some (sym (same_res-exact r q e))
    named (Release q) e = ap Some (sym (same_res-exact r q e))
    named (Look first count f) e = absurd (cc)

    go : (b : Bool) → speaks_of w r ≡ b → res_wanted w ≡ Some r
    go true e = named w e
    go false e =
        no_truth (has_task (list_of L r) u) (sym (ap (λ es. has_task es u) (list_of-want_other L t w r e)) ∙ after)
        before

-- ---- a manager
pub each-entry : (p : Ranked → Bool) (os : List (Option Managed)) → ((e : ℕ) → all_at p (kept_at os e) ≡ true)
    → list_all (all_at p) os ≡ true
each-entry p [] h = refl
each-entry p (o ∷ os) h =
    and_from (all_at p o) (list_all (all_at p) os) (h zero) (each-entry p os (λ e. h (suc e)))

module _ (deck : Deck) (words : List ℕ) (L : State) (s : ℕ) (p : StarPart) (fits : IsPart deck words L s p) where
  under-absent : (e : ℕ) (r : Res) (t : TaskId) → has_task (list_of L r) t ≡ false
      → has_task (list_of (under deck.entries e L) r) t ≡ false
  under-absent e r t none = go (in_entry deck.entries e r) refl
    where
      go : (b : Bool) → in_entry deck.entries e r ≡ b → has_task (list_of (under deck.entries e L) r) t ≡ false
      go true h = ap (λ es. has_task es t) (list-under deck.entries e L r h) ∙ none
      go false h = ap (λ es. has_task es t) (none-under (in_entry deck.entries e) L r h)

  absent-at : (r : Res) (t : TaskId) → has_task (list_of L r) t ≡ false → (n e : ℕ)
      → all_at (has_this_rank r t n) (managed_at p.manager e) ≡ true
  absent-at r t none n e = go (managed_at p.manager e) refl
    where
      go : (o : Option Managed) → managed_at p.manager e ≡ o
          → all_at (has_this_rank r t n) (managed_at p.manager e) ≡ true
      go None is = ap (all_at (has_this_rank r t n)) is
      go (Some m) is =
          rank-absent r t n (items_of (managed_at p.manager e))
          (holds-list (plain (items_of (managed_at p.manager e))) r t
          ∙ (ap (λ es. has_task es t) ((fits.lists e (ap is_some is)).lists r) ∙ under-absent e r t none))

  -- an element that isn't there has any rank
  pub absent-carried : (r : Res) (t : TaskId) → has_task (list_of L r) t ≡ false → (n : ℕ) → CarriesRank r t n p.manager
  absent-carried r t none n = each-entry (has_this_rank r t n) p.manager.entries (absent-at r t none n)

  -- of what a request asks for its entry has the list
  module _ (w : Want) (e : ℕ) (at : entry_wanted deck.entries w ≡ Some e) (managing : has_manager words e s ≡ true)
    where
      pub entry-list : (m : Managed) → managed_for p.manager w ≡ Some m → (r : Res) → res_wanted w ≡ Some r
          → list_of (plain m.items) r ≡ list_of L r
      entry-list m is r wants =
          let same : managed_at p.manager e ≡ Some m =
          sym (ap (kept_for p.manager.entries) (ap (λ k. entry_wanted k w) fits.entries ∙ at)) ∙ is in
          ap (λ (o : Option Managed). list_of (plain (items_of o)) r) (sym same)
          ∙ ((fits.lists e (fits.roles e ∙ managing)).lists r
          ∙ list-under deck.entries e L r
          (entry-same e (entry_of_res deck.entries r) (res-entry deck.entries w r e wants at)))

      -- elements that are there keep their ranks
      pub request-rank : (u : TaskId) (r : Res) (t : TaskId) (n : ℕ) → has_task (list_of L r) t ≡ true
          → CarriesRank r t n p.manager → CarriesRank r t n (after_request p.manager u w)
      request-rank u r t n stands h =
          request-all (has_this_rank r t n) (λ b x. refl) (λ x. refl) p.manager u w
          (λ m is.
          rank-old r t n m u w (λ q wants same.
          holds-list (plain m.items) r t
          ∙ (ap (λ es. has_task es t) (entry-list m is r (wants ∙ ap Some (sym (same_res-exact r q same)))) ∙ stands)))
          h

      -- and a new one has the next
      pub new-rank : (m : Managed) → managed_for p.manager w ≡ Some m → (u : TaskId) (r : Res) (t : TaskId)
          → has_task (list_of L r) t ≡ false → CarriesRank r t m.next (after_request p.manager u w)
      new-rank m is u r t none =
          request-all (has_this_rank r t m.next) (λ b x. refl) (λ x. refl) p.manager u w
          (λ k known.
          subst (λ (z : Managed). NewIs (has_this_rank r t m.next) z u w) (same_Some m k (sym is ∙ known))
          (rank-next r t m u w))
          (absent-carried r t none m.next)

-- ---- the event
module _ (deck : Deck) (w : World) (g : IsWhole deck w) (c : SysId) (n : NodeState) (at : Site w c.0 n) (p : StarPart)
    (star : n.star ≡ Some p) (fits : IsPart deck w.medium.words (lists (items w.fixed)) c.0 p) (q : Req)
    (hand : IsHand deck w.medium.words (are_live w) g.later g.out c.0 q) (flags : ℕ) where
  abbrev T : List RunItem
  T = items w.fixed

  abbrev item : RunItem
  item = made_item c (items w.fixed) (fixing.Asked q)

  abbrev answer : Mail
  answer = Answered q.task (answer_to (lists (items w.fixed)) q.task q.want) (rank_of p q)

  abbrev sent_on : MediumState
  sent_on =
      record w.medium {
        inboxes =
            with_mail w.medium.inboxes q.task.system.0
            (Answered q.task (answer_to (lists (items w.fixed)) q.task q.want) (rank_of p q));
        rest = flags;
      }

  abbrev p' : StarPart
  p' = record p { manager = after_request p.manager q.task q.want; held = drop 1 p.held }

  abbrev o : Turnout
  o = record {
    medium =
        record w.medium {
          inboxes =
              with_mail w.medium.inboxes q.task.system.0
              (Answered q.task (answer_to (lists (items w.fixed)) q.task q.want) (rank_of p q));
          rest = flags;
        };
    step = record {
      node =
          record n {
            tasks = tell_new n.tasks (res_wanted q.want) (owners_by p q);
            star = Some (record p { manager = after_request p.manager q.task q.want; held = drop 1 p.held });
          };
      fixed = fixing.Asked q ∷ [];
    };
  }

  box_there : q.task.system.0 < length w.medium.inboxes
  box_there =
      let inside = (live-below w q.task.system.0 hand.below).0 in
      omega (arith, inside, g.roles.systems, g.roles.inboxes)

  its_box : inbox sent_on q.task.system.0 ≡ inbox w.medium q.task.system.0 ++ answer ∷ []
  its_box = its-box w.medium.inboxes q.task.system.0 answer box_there

  grown : (u : ℕ) → u ≢ c.0 → Grown deck (inbox w.medium u) (inbox sent_on u)
  grown u ne = box-grown deck w.medium.inboxes q.task.system.0 answer box_there tt u

  same_box : inbox sent_on c.0 ≡ inbox w.medium c.0
  same_box = other-box w.medium.inboxes q.task.system.0 answer c.0 (λ e. hand.apart (sym e))

  gentle : Gentle n.tasks (tell_new n.tasks (res_wanted q.want) (owners_by p q))
  gentle = gentle-new n.tasks (res_wanted q.want) (owners_by p q)

  lists-are : (v : Res)
      → list_of (lists (items (w.fixed ++ fixed_by c (fixing.Asked q ∷ [])))) v
      ≡ list_of (after_want (lists T) q.task q.want) v
  lists-are v =
      ap (λ xs. list_of (lists xs) v) (items-one w.fixed c (fixing.Asked q))
      ∙ ap (λ s. list_of s v) (lists-push T item)

  managed : (x : Managed) × (managed_for p.manager q.want ≡ Some x)
  managed = go (managed_at p.manager hand.entry) refl (fits.roles hand.entry ∙ hand.managed)
    where
      go : (z : Option Managed) → managed_at p.manager hand.entry ≡ z → is_some (managed_at p.manager hand.entry) ≡ true
          → (x : Managed) × (managed_for p.manager q.want ≡ Some x)
      go (Some x) e h =
          (x, ap (kept_for p.manager.entries) (ap (λ k. entry_wanted k q.want) fits.entries ∙ hand.at) ∙ e)
      go None e h = absurd (let f : false ≡ true = sym (ap is_some e) ∙ h in cc)

  -- a system's task is the asker only at the asker's system
  at_home : (s : ℕ) (u : TaskId) → is_home_at deck s u ≡ true → same_task u q.task ≡ true → s ≡ q.task.system.0
  at_home s u home same =
      sym (eqb-true u.system.0 s (and_parts (u.system.0 == s) _ home).0)
      ∙ ap (λ (z : TaskId). z.system.0) (same_task-exact u q.task same)

  -- the asker's new element
  module _ (u : TaskId) (v : Res) (before : has_task (list_of (lists (items w.fixed)) v) u ≡ false)
      (after : has_task (list_of (after_want (lists (items w.fixed)) q.task q.want) v) u ≡ true)
      (same : same_task u q.task ≡ true) where
    abbrev m : Managed
    m = managed.0

    task : u ≡ q.task
    task = same_task-exact u q.task same

    rank-is : rank_of p q ≡ (managed.0).next
    rank-is =
        ap (λ (z : Option Managed). rank_for z q.task q.want) managed.1
        ∙ ap (λ b. cond b m.next 0)
        (queued (plain m.items) (lists T) q.task q.want v
        (entry-list deck w.medium.words (lists T) c.0 p fits q.want hand.entry hand.at hand.managed m managed.1)
        (ap (has_task (list_of (lists T) v)) (sym task) ∙ before)
        (ap (has_task (list_of (after_want (lists T) q.task q.want) v)) (sym task) ∙ after))

    carried : (j : ℕ) (k : NodeState) (x : StarPart) → Site (placed w c n o) j k → k.star ≡ Some x
        → CarriesRank v u (managed.0).next x.manager
    unfolding placed
    carried j k x found known =
        each_site w c n at o (λ i live. live)
        (λ i (y : NodeState). (z : StarPart) → y.star ≡ Some z → CarriesRank v u (managed.0).next z.manager)
        (λ z is.
        subst (λ (b : StarPart). CarriesRank v u m.next b.manager) (same_Some p' z is)
        (new-rank deck w.medium.words (lists T) c.0 p fits q.want hand.entry hand.at hand.managed m managed.1 q.task v u
        before))
        (λ i y ne there z is.
        let me : IsMember deck w.medium.words (all_lists w) i y = g.roles.node i y there in
        subst (λ (b : StarPart). CarriesRank v u m.next b.manager) (same_Some me.part z (sym me.star ∙ is))
        (absent-carried deck w.medium.words (lists T) i me.part me.fits v u before m.next))
        j k found x known

    shown : (s : ℕ) (y : NodeState) → Site w s y → is_home_at deck s u ≡ true
        → Shows v u (managed.0).next (state_of y.tasks u).records (inbox sent_on s)
    shown s y found home =
        let there : s ≡ q.task.system.0 = at_home s u home same in
        let sys = g.system s y found in
        let idle : mine u (g.later s) ≡ [] =
        ap (λ z. mine z (g.later s)) task ∙ (ap (λ i. mine q.task (g.later i)) there ∙ hand.idle) in
        let silent =
        idle-silent deck w.medium.words T g.right s y (inbox w.medium s) (g.later s) (g.out s) sys u home idle in
        let box : inbox sent_on s
        ≡ inbox w.medium s ++ Answered u (answer_to (lists T) q.task q.want) m.next ∷ [] =
        ap (inbox sent_on) there
        ∙ (its_box
        ∙ (ap (λ i. inbox w.medium i ++ answer ∷ []) (sym there)
        ∙ (ap (λ z. inbox w.medium s ++ Answered z (answer_to (lists T) q.task q.want) (rank_of p q) ∷ []) (sym task)
        ∙ ap (λ k. inbox w.medium s ++ Answered u (answer_to (lists T) q.task q.want) k ∷ []) rank-is))) in
        let unrecorded : has_res v (state_of y.tasks u).records ≡ false =
        false_by (has_res v (state_of y.tasks u).records) (λ e.
        no_truth (has_task (list_of (lists T) v) u)
        (idle-element deck w.medium.words T g.right s y (inbox w.medium s) (g.later s) (g.out s) sys u home idle v e)
        before) in
        subst (λ (ms : List Mail). Shows v u m.next (state_of y.tasks u).records ms) (sym box)
        (shows-sent v u m.next (state_of y.tasks u).records (inbox w.medium s)
        (answer_to (lists T) q.task q.want) unrecorded (comes-none u (inbox w.medium s) silent))

  fresh : (s : ℕ) (y : NodeState) (u : TaskId) (v : Res) → Site (placed w c n o) s y → is_home_at deck s u ≡ true
      → has_task (list_of (lists T) v) u ≡ false → has_task (list_of (lists_then w c o) v) u ≡ true
      → HasShown (placed w c n o) s y u v
  unfolding placed
  fresh s y u v found home before after =
      let gained = sym (ap (λ es. has_task es u) (lists-are v)) ∙ after in
      let same : same_task u q.task ≡ true = has-gain (lists T) q.task q.want v u before gained in
      each_site w c n at o (λ i live. live) (λ i z. is_home_at deck i u ≡ true → HasShown (placed w c n o) i z u v)
      (λ own. absurd (hand.apart (sym (at_home c.0 u own same))))
      (λ i z ne there own. record {
        rank = (managed.0).next;
        shown = shown u v before gained same i z there own;
        carried = carried u v before gained same;
      })
      s y found home

  ranks-settled : LeavesRanks deck w c n o
  ranks-settled = record {
    boxes = grown;
    own = λ u v k home wide stands has.
        subst (λ (ms : List Mail).
        Shows v u k (state_of (tell_new n.tasks (res_wanted q.want) (owners_by p q)) u).records ms)
        (sym same_box)
        (shows-gentle n.tasks v u k (inbox w.medium c.0) (tell_new n.tasks (res_wanted q.want) (owners_by p q)) wide
        gentle has);
    carries = λ x x' is is' u v k stands has.
        subst (λ (z : StarPart). CarriesRank v u k z.manager) (same_Some p' x' is')
        (request-rank deck w.medium.words (lists T) c.0 p fits q.want hand.entry hand.at hand.managed q.task v u k
        stands (subst (λ (z : StarPart). CarriesRank v u k z.manager) (same_Some x p (sym is ∙ star)) has));
    fresh = λ s y u v found home wide before after. fresh s y u v found home before after;
  }

  pub ranked-settled : StaysRanked deck w c n o
  ranked-settled sent had heard = shown-placed deck w g c n at o refl ranks-settled
