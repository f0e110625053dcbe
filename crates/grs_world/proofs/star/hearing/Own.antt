-- What is still to be heard of a system's own tasks, where its inbox stays as it is; and the events that leave all
-- mail, what the system holds, and the lists of the resources of the whole complex.
use Rattle.grs_world.proofs.Common.{[], ◌++◌, ◌∙◌, ◌≡◌, ◌≢◌, ◌≤◌, ap, append-nil, askers, Bool, Deck, fixed_by, has}
use Rattle.grs_world.proofs.Common.{has_res, has_task, inbox, inl, inr, is_among, is_home_at, is_systems, items, List}
use Rattle.grs_world.proofs.Common.{list_any, list_of, Managed, managed_at, no_truth, NodeState, owns, placed, put_here}
use Rattle.grs_world.proofs.Common.{Res, RunItem, same_Some, Some, StarPart, state_of, subst, suc, sym, SysId, TaskId}
use Rattle.grs_world.proofs.Common.{true, Turnout, World, ℕ}
use Rattle.std.specs.Prelude.{◌⊎◌}
use Rattle.grs_world.proofs.star.Heard.{AreAddressed, IsHeard, enq_count, had_by, had_with, hears, is_timely, sent_by}
use Rattle.grs_world.proofs.star.Heard.{sent_with, StaysHeard}
use Rattle.grs_world.proofs.star.Members.{all_lists}
use Rattle.grs_world.proofs.star.Systems.{requests_in}
use Rattle.grs_world.proofs.star.Worlds.{IsWhole, in_hands}
use Rattle.grs_world.proofs.star.hearing.Gentle.{Gentle, GentleTo}
use Rattle.grs_world.proofs.star.hearing.Passing.{Grown, Hearable, Requested, handed-here, handed-own, heard-placed}
use Rattle.grs_world.proofs.star.hearing.Passing.{is_untold_by, lists_then, untold-here, untold-own}
use Rattle.grs_world.proofs.run.Site.{Site}
use Rattle.grs_world.proofs.run.Placed.{nodes_then}

module _ (deck : Deck) (w : World) (g : IsWhole deck w) (c : SysId) (n : NodeState) (at : Site w c.0 n) (o : Turnout)
    (same_removed : o.medium.removed ≡ w.medium.removed) (sent : ℕ → TaskId → Bool) (had : ℕ → TaskId → Res → Bool)
    (h : IsHeard deck w (sent_with sent c n) (had_with had c n)) where
  -- what holds of the system's own tasks before
  pub own-request : (t : TaskId) → is_home_at deck c.0 t ≡ true → sent_by n t ≡ true → Requested w.medium w.nodes c.0 t
  own-request t home is = h.requests c.0 n t at home (ap (λ f. f t) (put_here sent c.0 (sent_by n)) ∙ is)

  pub own-owner : (t : TaskId) (r : Res) → is_home_at deck c.0 t ≡ true → is_systems r ≡ true
      → owns (list_of (all_lists w) r) t ≡ true → (had_by n t r ≡ true) ⊎ Hearable w.medium w.nodes c.0 n t r
  own-owner t r home wide owned =
      subst (λ b. (b ≡ true) ⊎ Hearable w.medium w.nodes c.0 n t r) (ap (λ f. f t r) (put_here had c.0 (had_by n)))
      (h.owners c.0 n t r at home wide owned)

  -- ---- the inbox of the system stays
  module _ (boxes : (u : ℕ) → u ≢ c.0 → Grown deck (inbox w.medium u) (inbox o.medium u))
      (same : inbox o.medium c.0 ≡ inbox w.medium c.0) where
    pub own-addressed : AreAddressed deck (inbox o.medium c.0)
    own-addressed = subst (AreAddressed deck) (sym same) (h.mails c.0)

    pub request-kept : (t : TaskId) → is_home_at deck c.0 t ≡ true → sent_by n t ≡ true
        → Requested o.medium (nodes_then w c o) c.0 t
    request-kept t home is = go (own-request t home is)
      where
        go : Requested w.medium w.nodes c.0 t → Requested o.medium (nodes_then w c o) c.0 t
        go (inl i) = inl (handed-own deck w g c n at o same_removed boxes t home i)
        go (inr e) = inr (ap (list_any (is_timely t)) same ∙ e)

    -- an owner whose marks stay, and whose record does
    pub owner-by : (t : TaskId) (r : Res) → is_home_at deck c.0 t ≡ true → is_systems r ≡ true
        → owns (list_of (all_lists w) r) t ≡ true → (had_by n t r ≡ true → had_by o.step.node t r ≡ true)
        → has_res r (state_of o.step.node.tasks t).records ≡ has_res r (state_of n.tasks t).records →
        (had_by o.step.node t r ≡ true) ⊎ Hearable o.medium (nodes_then w c o) c.0 o.step.node t r
    owner-by t r home wide owned marked has = go (own-owner t r home wide owned)
      where
        go : (had_by n t r ≡ true) ⊎ Hearable w.medium w.nodes c.0 n t r
            → (had_by o.step.node t r ≡ true) ⊎ Hearable o.medium (nodes_then w c o) c.0 o.step.node t r
        go (inl e) = inl (marked e)
        go (inr (inl e)) =
            inr (inl (ap (hears t r (has_res r (state_of o.step.node.tasks t).records)) same
            ∙ (ap (λ b. hears t r b (inbox w.medium c.0)) has ∙ e)))
        go (inr (inr u)) = inr (inr (untold-own deck w g c n at o same_removed t r u))

    pub owner-kept : (t : TaskId) (r : Res) → is_home_at deck c.0 t ≡ true → is_systems r ≡ true
        → owns (list_of (all_lists w) r) t ≡ true → GentleTo (state_of n.tasks t) (state_of o.step.node.tasks t) →
        (had_by o.step.node t r ≡ true) ⊎ Hearable o.medium (nodes_then w c o) c.0 o.step.node t r
    owner-kept t r home wide owned k = owner-by t r home wide owned (k.marked r wide) (k.has r wide)

    -- what the system holds is in its hands
    pub hands-kept : (s : ℕ) (t : TaskId) (p p' : StarPart) → o.step.node.star ≡ Some p' → p'.held ≡ p.held
        → is_among t (askers (in_hands p (inbox w.medium c.0))) ≡ true → Requested o.medium (nodes_then w c o) s t
    hands-kept s t p p' star held among =
        inl (handed-here deck w g c n at o same_removed t p' star
        (ap (λ qs. is_among t (askers (qs ++ requests_in (inbox o.medium c.0)))) held
        ∙ (ap (λ ms. is_among t (askers (p.held ++ requests_in ms))) same ∙ among)))

-- The part of a system afterwards: it holds what it held, has still to tell whom it had to, and gives no rank past the
-- number of requests.
pub record Holds (p p' : StarPart) (T : List RunItem) : Type 0 where
  pub held : p'.held ≡ p.held
  pub untold : (t : TaskId) (r : Res) → is_untold_by p t r ≡ true → is_untold_by p' t r ≡ true
  pub ranks : (e : ℕ) (x : Managed) → managed_at p'.manager e ≡ Some x → x.next ≤ suc (enq_count T)

-- ---- an event that leaves all mail
module _ (deck : Deck) (w : World) (g : IsWhole deck w) (c : SysId) (n : NodeState) (at : Site w c.0 n) (o : Turnout)
    (same_removed : o.medium.removed ≡ w.medium.removed) where
  pub heard-calm : ((u : ℕ) → inbox o.medium u ≡ inbox w.medium u) → Gentle n.tasks o.step.node.tasks
      → ((r : Res) → is_systems r ≡ true → list_of (lists_then w c o) r ≡ list_of (all_lists w) r) →
      (p p' : StarPart) → n.star ≡ Some p → o.step.node.star ≡ Some p' →
      (((e : ℕ) (x : Managed) → managed_at p.manager e ≡ Some x → x.next ≤ suc (enq_count (items w.fixed)))
      → Holds p p' (items (w.fixed ++ fixed_by c o.step.fixed)))
      →
      IsWhole deck (placed w c n o) → StaysHeard deck w c n o
  heard-calm boxes gentle same p p' star star' holds g' sent had few h =
      heard-placed deck w g c n at o same_removed sent had h g' (record {
        boxes = grown;
        own_box = own-addressed deck w g c n at o same_removed sent had h grown (boxes c.0);
        requests = λ t home is.
            request-kept deck w g c n at o same_removed sent had h grown (boxes c.0) t home
            ((gentle.each t).sent is);
        passed = λ s t v ne home known among.
            hands-kept deck w g c n at o same_removed sent had h grown (boxes c.0) s t p p' star' k.held
            (ap (λ z. is_among t (askers (in_hands z (inbox w.medium c.0)))) (part v known) ∙ among);
        owners = λ t r home wide owned.
            owner-kept deck w g c n at o same_removed sent had h grown (boxes c.0) t r home wide
            (sym (ap (λ es. owns es t) (same r wide)) ∙ owned) (gentle.each t);
        told = λ s y t r v ne found home wide owned known untold.
            inr (untold-here deck w g c n at o same_removed s t r p' ne star'
            (k.untold t r (ap (λ z. is_untold_by z t r) (part v known) ∙ untold)));
        gained = λ s y t r ne found home wide before after.
            no_truth (owns (list_of (all_lists w) r) t) (sym (ap (λ es. owns es t) (same r wide)) ∙ after) before;
        queued = λ s y t r ne found home wide before after.
            no_truth (has_task (list_of (all_lists w) r) t) (sym (ap (λ es. has_task es t) (same r wide)) ∙ after)
            before;
        ranks = λ v e x known managed.
            k.ranks e x (sym (ap (λ (z : StarPart). managed_at z.manager e) (same-part v known)) ∙ managed);
      })
    where
      grown : (u : ℕ) → u ≢ c.0 → Grown deck (inbox w.medium u) (inbox o.medium u)
      grown u ne = ([], boxes u ∙ sym (append-nil (inbox w.medium u)), tt)

      k : Holds p p' (items (w.fixed ++ fixed_by c o.step.fixed))
      k = holds (λ e x managed. h.ranks c.0 n p e x at star managed)

      part : (v : StarPart) → n.star ≡ Some v → p ≡ v
      part v known = same_Some p v (sym star ∙ known)

      same-part : (v : StarPart) → o.step.node.star ≡ Some v → v ≡ p'
      same-part v known = same_Some v p' (sym known ∙ star')
