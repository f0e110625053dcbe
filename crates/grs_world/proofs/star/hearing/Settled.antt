-- A manager settles a request of another system: the asker's answer comes, own tasks that became owners are told, and
-- those of other systems are still to be told.
use Rattle.grs_world.proofs.Common.{[], ◌++◌, ◌<◌, ◌==◌, ◌||◌, ◌∙◌, ◌∷◌, ◌≡◌, ◌≢◌, ◌≤◌, after_request, after_want}
use Rattle.grs_world.proofs.Common.{and_from, and_parts, answer_to, Answered, any-last, ap, arith, askers, Bool, Deck}
use Rattle.grs_world.proofs.Common.{entry_of_res, entry_wanted, eqb-true, false, false_by, fixed_by, has, has_res}
use Rattle.grs_world.proofs.Common.{has_task, inbox, inl, inr, is_among, is_home_at, is_some, is_systems, items}
use Rattle.grs_world.proofs.Common.{kept_for, last_number, length, List, list_any, list_of, lists, lists-push}
use Rattle.grs_world.proofs.Common.{made_item, Mail, Managed, managed_at, MediumState, mine, nat_le, new_owners}
use Rattle.grs_world.proofs.Common.{no_truth, NodeState, None, Option, owners_by, owns, owns-has, placed, rank_of, refl}
use Rattle.grs_world.proofs.Common.{Req, Res, res_wanted, RunItem, same_Some, same_task, same_task-exact}
use Rattle.grs_world.proofs.Common.{same_task-itself, Some, StarPart, state_of, subst, suc, sym, SysId, task_swap}
use Rattle.grs_world.proofs.Common.{TaskId, tell_new, true, Turnout, with_mail, World, ℕ}
use Rattle.std.specs.Prelude.{◌⊎◌, drop}
use Rattle.contention_mgr.specs.Manager.{managed_for}
use Rattle.grs_world.proofs.star.Heard.{StaysHeard, enq_count, had_by, hears, is_timely}
use Rattle.grs_world.proofs.star.Members.{IsPart}
use Rattle.grs_world.proofs.star.Systems.{requests_in}
use Rattle.grs_world.proofs.star.Under.{res-entry}
use Rattle.grs_world.proofs.star.Worlds.{IsHand, IsWhole, in_hands, items-one, are_live, live-below}
use Rattle.grs_world.proofs.star.hearing.Elements.{idle-element, idle-silent}
use Rattle.grs_world.proofs.star.hearing.Gains.{gained-among, gained-res, has-gain, own-gain, rank-timely, gain-asks}
use Rattle.grs_world.proofs.star.hearing.Gentle.{Gentle, gentle-new, new-marked}
use Rattle.grs_world.proofs.star.hearing.Mails.{hears-answer}
use Rattle.grs_world.proofs.star.hearing.Managing.{gained-then, next-then, untold-then}
use Rattle.grs_world.proofs.star.hearing.Own.{own-addressed, owner-kept, request-kept}
use Rattle.grs_world.proofs.star.hearing.Passing.{Grown, Hearable, Requested, enq_count-grown, handed-here}
use Rattle.grs_world.proofs.star.hearing.Passing.{heard-placed, is_untold_by, untold-here, box-grown, recorded-now}
use Rattle.grs_world.proofs.run.Site.{Site}
use Rattle.grs_world.proofs.star.Boxes.{its-box, other-box}
use Rattle.grs_world.proofs.run.Placed.{nodes_then}
use Rattle.grs_wire.specs.declared.request.Fixed.TheVariants as fixing

module _ (deck : Deck) (w : World) (g : IsWhole deck w) (c : SysId) (n : NodeState) (at : Site w c.0 n) (p : StarPart)
    (star : n.star ≡ Some p) (fits : IsPart deck w.medium.words (lists (items w.fixed)) c.0 p) (q : Req) (qs : List Req)
    (held : p.held ≡ q ∷ qs) (hand : IsHand deck w.medium.words (are_live w) g.later g.out c.0 q)
    (same_owners : owners_by p q ≡ new_owners (lists (items w.fixed)) q.task q.want) (flags : ℕ) where
  abbrev T : List RunItem
  T = items w.fixed

  abbrev item : RunItem
  item = made_item c (items w.fixed) (fixing.Asked q)

  abbrev answer : Mail
  answer = Answered q.task (answer_to (lists (items w.fixed)) q.task q.want) (rank_of p q)

  abbrev sent_on : MediumState
  sent_on =
      record w.medium {
        inboxes =
            with_mail w.medium.inboxes q.task.system.0
            (Answered q.task (answer_to (lists (items w.fixed)) q.task q.want) (rank_of p q));
        rest = flags;
      }

  abbrev p' : StarPart
  p' = record p { manager = after_request p.manager q.task q.want; held = drop 1 p.held }

  abbrev n' : NodeState
  n' =
      record n {
        tasks = tell_new n.tasks (res_wanted q.want) (owners_by p q);
        star = Some (record p { manager = after_request p.manager q.task q.want; held = drop 1 p.held });
      }

  abbrev o : Turnout
  o = record {
    medium =
        record w.medium {
          inboxes =
              with_mail w.medium.inboxes q.task.system.0
              (Answered q.task (answer_to (lists (items w.fixed)) q.task q.want) (rank_of p q));
          rest = flags;
        };
    step = record {
      node =
          record n {
            tasks = tell_new n.tasks (res_wanted q.want) (owners_by p q);
            star = Some (record p { manager = after_request p.manager q.task q.want; held = drop 1 p.held });
          };
      fixed = fixing.Asked q ∷ [];
    };
  }

  box_there : q.task.system.0 < length w.medium.inboxes
  box_there =
      let inside = (live-below w q.task.system.0 hand.below).0 in
      omega (arith, inside, g.roles.systems, g.roles.inboxes)

  its_box : inbox sent_on q.task.system.0 ≡ inbox w.medium q.task.system.0 ++ answer ∷ []
  its_box = its-box w.medium.inboxes q.task.system.0 answer box_there

  grown : (u : ℕ) → u ≢ c.0 → Grown deck (inbox w.medium u) (inbox sent_on u)
  grown u ne = box-grown deck w.medium.inboxes q.task.system.0 answer box_there tt u

  same_box : inbox sent_on c.0 ≡ inbox w.medium c.0
  same_box = other-box w.medium.inboxes q.task.system.0 answer c.0 (λ e. hand.apart (sym e))

  gentle : Gentle n.tasks (tell_new n.tasks (res_wanted q.want) (owners_by p q))
  gentle = gentle-new n.tasks (res_wanted q.want) (owners_by p q)

  grown_items : items (w.fixed ++ fixed_by c (fixing.Asked q ∷ [])) ≡ T ++ item ∷ []
  grown_items = items-one w.fixed c (fixing.Asked q)

  -- the lists afterwards
  lists-are : (v : Res)
      → list_of (lists (items (w.fixed ++ fixed_by c (fixing.Asked q ∷ [])))) v
      ≡ list_of (after_want (lists T) q.task q.want) v
  lists-are v = ap (λ xs. list_of (lists xs) v) grown_items ∙ ap (λ s. list_of s v) (lists-push T item)

  managed : (x : Managed) × (managed_at p.manager hand.entry ≡ Some x)
  managed = go (managed_at p.manager hand.entry) refl (fits.roles hand.entry ∙ hand.managed)
    where
      go : (z : Option Managed) → managed_at p.manager hand.entry ≡ z → is_some (managed_at p.manager hand.entry) ≡ true
          → (x : Managed) × (managed_at p.manager hand.entry ≡ Some x)
      go (Some x) e h = (x, e)
      go None e h = absurd (let f : false ≡ true = sym (ap is_some e) ∙ h in cc)

  -- a system's task is the asker only at the asker's system
  at_home : (s : ℕ) (u : TaskId) → is_home_at deck s u ≡ true → same_task u q.task ≡ true → s ≡ q.task.system.0
  at_home s u home same =
      sym (eqb-true u.system.0 s (and_parts (u.system.0 == s) _ home).0)
      ∙ ap (λ (z : TaskId). z.system.0) (same_task-exact u q.task same)

  not-asker : (u : TaskId) → is_home_at deck c.0 u ≡ true → same_task q.task u ≡ false
  not-asker u home =
      false_by (same_task q.task u) (λ e.
      absurd (hand.apart (ap (λ (z : TaskId). z.system.0) (same_task-exact q.task u e)
      ∙ eqb-true u.system.0 c.0 (and_parts (u.system.0 == c.0) _ home).0)))

  module _ (few : enq_count (items (w.fixed ++ fixed_by c (fixing.Asked q ∷ []))) ≤ last_number)
      (ranks : (e : ℕ) (x : Managed) → managed_at p.manager e ≡ Some x → x.next ≤ suc (enq_count (items w.fixed))) where
    in-time : nat_le (rank_of p q) last_number ≡ true
    in-time =
        rank-timely (managed_for p.manager q.want) q.task q.want T item (λ h. h)
        (λ m is.
        ranks hand.entry m
        (sym (ap (kept_for p.manager.entries) (ap (λ k. entry_wanted k q.want) fits.entries ∙ hand.at)) ∙ is))
        (subst (λ xs. enq_count xs ≤ last_number) grown_items few)

    timely-last : (s : ℕ) (u : TaskId) → is_home_at deck s u ≡ true → same_task u q.task ≡ true
        → list_any (is_timely u) (inbox sent_on s) ≡ true
    timely-last s u home same =
        ap (λ i. list_any (is_timely u) (inbox sent_on i)) (at_home s u home same)
        ∙ (ap (list_any (is_timely u)) its_box
        ∙ any-last (is_timely u) (inbox w.medium q.task.system.0) answer
        (and_from (same_task u q.task) (nat_le (rank_of p q) last_number) same in-time))

    -- the asker, where its answer gives control: it had no record, and no answer before
    asker-hears : (s : ℕ) (y : NodeState) (u : TaskId) (v : Res) → Site w s y → is_home_at deck s u ≡ true
        → same_task u q.task ≡ true
        → owns (list_of (lists T) v) u ≡ false → owns (list_of (after_want (lists T) q.task q.want) v) u ≡ true →
        hears u v (has_res v (state_of y.tasks u).records) (inbox sent_on s) ≡ true
    asker-hears s y u v found home same before after =
        let task : u ≡ q.task = same_task-exact u q.task same in
        let there : s ≡ q.task.system.0 = at_home s u home same in
        let sys = g.system s y found in
        let idle : mine u (g.later s) ≡ [] =
        ap (λ z. mine z (g.later s)) task ∙ (ap (λ i. mine q.task (g.later i)) there ∙ hand.idle) in
        let silent =
        idle-silent deck w.medium.words T g.right s y (inbox w.medium s) (g.later s) (g.out s) sys u home idle in
        let box : inbox sent_on s
        ≡ inbox w.medium s ++ Answered u (answer_to (lists T) q.task q.want) (rank_of p q) ∷ [] =
        ap (inbox sent_on) there
        ∙ (its_box
        ∙ (ap (λ i. inbox w.medium i ++ answer ∷ []) (sym there)
        ∙ ap (λ z. inbox w.medium s ++ Answered z (answer_to (lists T) q.task q.want) (rank_of p q) ∷ [])
        (sym task))) in
        let asks = gain-asks (lists T) q.task q.want v u before after in
        let res : v ≡ asks.0 = gained-res (lists T) q.task q.want asks.0 v u asks.1 before after in
        let gain = own-gain (lists T) q.task q.want asks.0 asks.1
        (ap (λ z. owns (list_of (lists T) asks.0) z) (sym task)
        ∙ (ap (λ z. owns (list_of (lists T) z) u) (sym res) ∙ before))
        (ap (λ z. owns (list_of (after_want (lists T) q.task q.want) asks.0) z) (sym task)
        ∙ (ap (λ z. owns (list_of (after_want (lists T) q.task q.want) z) u) (sym res) ∙ after)) in
        let none : has_task (list_of (lists T) v) u ≡ false =
        ap (λ z. has_task (list_of (lists T) z) u) res ∙ (ap (has_task (list_of (lists T) asks.0)) task ∙ gain.1) in
        let unrecorded : has_res v (state_of y.tasks u).records ≡ false =
        false_by (has_res v (state_of y.tasks u).records) (λ e.
        no_truth (has_task (list_of (lists T) v) u)
        (idle-element deck w.medium.words T g.right s y (inbox w.medium s) (g.later s) (g.out s) sys u home idle v e)
        none) in
        ap (λ b. hears u v b (inbox sent_on s)) unrecorded
        ∙ (ap (hears u v false) box
        ∙ hears-answer u v (inbox w.medium s) (answer_to (lists T) q.task q.want) (rank_of p q) silent
        (and_from (same_task u u) (nat_le (rank_of p q) last_number) (same_task-itself u) in-time) gain.0)

  -- an own task that becomes owner has a record, which is marked
  owner-marked : IsWhole deck (placed w c n o) → (u : TaskId) (v : Res) → is_home_at deck c.0 u ≡ true
      → is_systems v ≡ true → owns (list_of (lists T) v) u ≡ false
      → owns (list_of (after_want (lists T) q.task q.want) v) u ≡ true → had_by n' u v ≡ true
  owner-marked g' u v home wide before after =
      let asks = gain-asks (lists T) q.task q.want v u before after in
      let new = gained-among (lists T) q.task q.want asks.0 v u asks.1 (not-asker u home) before after in
      let has =
      recorded-now deck w g c n at o refl g' u home v
      (owns-has (list_of (lists (items (w.fixed ++ fixed_by c (fixing.Asked q ∷ [])))) v) u
      (ap (λ es. owns es u) (lists-are v) ∙ after))
      hand.entry
      (ap (entry_of_res deck.entries) new.0 ∙ res-entry deck.entries q.want asks.0 hand.entry asks.1 hand.at)
      hand.managed in
      new-marked n.tasks (res_wanted q.want) v (owners_by p q) u (asks.1 ∙ ap Some (sym new.0)) wide
      (ap (is_among u) same_owners ∙ new.1) ((g.system c.0 n at).at.good.here u home)
      (sym ((gentle.each u).has v wide) ∙ has)

  pub heard-settled : IsWhole deck (placed w c n o) → StaysHeard deck w c n o
  heard-settled g' sent had few h = heard-placed deck w g c n at o refl sent had h g' (record {
    boxes = grown;
    own_box = own-addressed deck w g c n at o refl sent had h grown same_box;
    requests = λ u home is.
        request-kept deck w g c n at o refl sent had h grown same_box u home ((gentle.each u).sent is);
    passed = λ s u v ne home known among.
        passes s u home (same_task u q.task) refl (sym
        (ap (λ hs. is_among u (askers (hs ++ requests_in (inbox w.medium c.0)))) held)
        ∙ (ap (λ z. is_among u (askers (in_hands z (inbox w.medium c.0)))) (part v known) ∙ among));
    owners = λ u v home wide owned.
        owner u v home wide (sym (ap (λ es. owns es u) (lists-are v)) ∙ owned) (owns (list_of (lists T) v) u) refl;
    told = λ s y u v z ne found home wide owned known untold.
        inr (untold-here deck w g c n at o refl s u v p' ne refl
        (untold-then deck w.medium.words (lists T) c.0 p fits q.task q.want hand.entry hand.at managed.0
        managed.1 v u (sym (ap (λ es. owns es u) (lists-are v)) ∙ owned)
        (ap (λ x. is_untold_by x u v) (part z known) ∙ untold)));
    gained = λ s y u v ne found home wide before after.
        gains-control s y u v ne found home before (sym (ap (λ es. owns es u) (lists-are v)) ∙ after)
        (same_task u q.task) refl;
    queued = λ s y u v ne found home wide before after.
        timely-last few ranks s u home
        (has-gain (lists T) q.task q.want v u before (sym (ap (λ es. has_task es u) (lists-are v)) ∙ after));
    ranks = λ v e x known is. subst (λ xs. x.next ≤ suc (enq_count xs)) (sym grown_items)
        (next-then deck w.medium.words (lists T) c.0 p fits q.task q.want hand.entry hand.at managed.0
        managed.1 T item (λ z. z) (enq_count-grown T (item ∷ [])) ranks e x
        (ap (λ (z : StarPart). managed_at z.manager e) (same_Some p' v known) ∙ is));
  })
    where
      ranks : (e : ℕ) (x : Managed) → managed_at p.manager e ≡ Some x → x.next ≤ suc (enq_count T)
      ranks e x is = h.ranks c.0 n p e x at star is

      part : (v : StarPart) → n.star ≡ Some v → p ≡ v
      part v known = same_Some p v (sym star ∙ known)

      passes : (s : ℕ) (u : TaskId) → is_home_at deck s u ≡ true → (b : Bool) → same_task u q.task ≡ b
          → (same_task u q.task || is_among u (askers (qs ++ requests_in (inbox w.medium c.0)))) ≡ true
          → Requested o.medium (nodes_then w c o) s u
      passes s u home true e among = inr (timely-last few ranks s u home e)
      passes s u home false e among =
          inl (handed-here deck w g c n at o refl u p'
          refl (ap (λ hs. is_among u (askers (drop 1 hs ++ requests_in (inbox sent_on c.0)))) held
          ∙ (ap (λ ms. is_among u (askers (qs ++ requests_in ms))) same_box
          ∙ (sym (ap (λ b. b || is_among u (askers (qs ++ requests_in (inbox w.medium c.0)))) e) ∙ among))))

      owner : (u : TaskId) (v : Res) → is_home_at deck c.0 u ≡ true → is_systems v ≡ true
          → owns (list_of (after_want (lists T) q.task q.want) v) u ≡ true → (b : Bool)
          → owns (list_of (lists T) v) u ≡ b → (had_by n' u v ≡ true) ⊎ Hearable o.medium (nodes_then w c o) c.0 n' u v
      owner u v home wide after true e =
          owner-kept deck w g c n at o refl sent had h grown same_box u v home wide e (gentle.each u)
      owner u v home wide after false e = inl (owner-marked g' u v home wide e after)

      gains-control : (s : ℕ) (y : NodeState) (u : TaskId) (v : Res) → s ≢ c.0 → Site w s y → is_home_at deck s u ≡ true
          → owns (list_of (lists T) v) u ≡ false
          → owns (list_of (after_want (lists T) q.task q.want) v) u ≡ true →
          (b : Bool) → same_task u q.task ≡ b → Hearable o.medium (nodes_then w c o) s y u v
      gains-control s y u v ne found home before after true e =
          inl (asker-hears few ranks s y u v found home e before after)
      gains-control s y u v ne found home before after false e =
          inr (untold-here deck w g c n at o refl s u v p' ne refl
          (gained-then deck w.medium.words (lists T) c.0 p fits q.task q.want hand.entry hand.at managed.0
          managed.1 v u (task_swap u q.task e)
          (λ same. ne (sym (eqb-true u.system.0 s (and_parts (u.system.0 == s) _ home).0) ∙ same)) before after))
