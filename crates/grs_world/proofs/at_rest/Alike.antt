-- What is still to be heard is the same where two worlds show the same of their live systems.
use Rattle.grs_world.proofs.Common.{◌∙◌, ◌≡◌, ◌≤◌, ◌⊎◌, ap, arith, askers, Bool, Deck, false, has, has_res, has_task}
use Rattle.grs_world.proofs.Common.{inbox, inl, inr, is_among, is_home_at, is_systems, items, List, list_any, list_of}
use Rattle.grs_world.proofs.Common.{lists, Mail, NodeState, owns, refl, Res, slice_get, Some, state_of, subst, sym}
use Rattle.grs_world.proofs.Common.{TaskId, true, World, ℕ}
use Rattle.grs_world.proofs.star.Heard.{AreAddressed, IsHeard, IsInHands, IsUntold, enq_count, hears, is_timely}
use Rattle.grs_world.proofs.star.Members.{all_lists}
use Rattle.grs_world.proofs.star.hearing.Ranks.{HaveRank}
use Rattle.grs_world.proofs.star.ranks.Ranked.{AreShown, HasShown}
use Rattle.grs_world.proofs.star.ranks.Shows.{Shows}
use Rattle.grs_world.proofs.star.Worlds.{in_hands}
use Rattle.grs_world.proofs.run.Site.{at_site}

-- a system stood like this, with the same part and the same on record, by the same ranks
pub record IsBack (deck : Deck) (w : World) (s : ℕ) (k' : NodeState) : Type 0 where
  pub node : NodeState
  pub at : slice_get w.nodes s ≡ Some node
  pub star : k'.star ≡ node.star
  pub has : (t : TaskId) (r : Res) → is_home_at deck s t ≡ true → is_systems r ≡ true
      → has_res r (state_of k'.tasks t).records ≡ has_res r (state_of node.tasks t).records
  pub ranks : (t : TaskId) (r : Res) → is_home_at deck s t ≡ true → is_systems r ≡ true → (n : ℕ)
      → HaveRank r n (state_of node.tasks t).records → HaveRank r n (state_of k'.tasks t).records

-- the same system, with the same part
pub record IsForth (w' : World) (s : ℕ) (k : NodeState) : Type 0 where
  pub node : NodeState
  pub at : slice_get w'.nodes s ≡ Some node
  pub star : node.star ≡ k.star

pub record SameShown (deck : Deck) (w w' : World) : Type 0 where
  pub removed : w'.medium.removed ≡ w.medium.removed
  pub back : (s : ℕ) (k' : NodeState) → slice_get w'.nodes s ≡ Some k' → has w.medium.removed s ≡ false
      → IsBack deck w s k'
  pub forth : (s : ℕ) (k : NodeState) → slice_get w.nodes s ≡ Some k → has w.medium.removed s ≡ false → IsForth w' s k
  pub boxes : (s : ℕ) → inbox w'.medium s ≡ inbox w.medium s
  pub lists : (r : Res) → is_systems r ≡ true → list_of (all_lists w') r ≡ list_of (all_lists w) r
  pub count : enq_count (items w.fixed) ≤ enq_count (items w'.fixed)

module _ (deck : Deck) (w w' : World) (z : SameShown deck w w') where
  hands-alike : (t : TaskId) → IsInHands w.medium w.nodes t → IsInHands w'.medium w'.nodes t
  hands-alike t i =
      let f = z.forth i.system i.node i.site.at i.site.live in
      record {
        system = i.system;
        node = f.node;
        part = i.part;
        site = at_site f.at (ap (λ m. has m i.system) z.removed ∙ i.site.live);
        star = f.star ∙ i.star;
        among = ap (λ ms. is_among t (askers (in_hands i.part ms))) (z.boxes i.system) ∙ i.among;
      }

  untold-alike : (s : ℕ) (t : TaskId) (r : Res) → IsUntold w.medium w.nodes s t r → IsUntold w'.medium w'.nodes s t r
  untold-alike s t r i =
      let f = z.forth i.system i.node i.site.at i.site.live in
      record {
        system = i.system;
        node = f.node;
        part = i.part;
        site = at_site f.at (ap (λ m. has m i.system) z.removed ∙ i.site.live);
        star = f.star ∙ i.star;
        apart = i.apart;
        untold = i.untold;
      }

  pub heard-alike : (sent sent' : ℕ → TaskId → Bool) (had had' : ℕ → TaskId → Res → Bool) →
      ((s : ℕ) (t : TaskId) → has w.medium.removed s ≡ false → is_home_at deck s t ≡ true → sent' s t ≡ true
      → sent s t ≡ true)
      →
      ((s : ℕ) (k' : NodeState) (t : TaskId) (r : Res) → slice_get w'.nodes s ≡ Some k' → has w.medium.removed s ≡ false
      → is_home_at deck s t ≡ true → is_systems r ≡ true → had s t r ≡ true → had' s t r ≡ true)
      →
      IsHeard deck w sent had → IsHeard deck w' sent' had'
  heard-alike sent sent' had had' less more h = record {
    requests = λ s k' t v home e. let l = was s v.live in
        let b = z.back s k' v.at l in
        by-request s t (h.requests s b.node t (at_site b.at l) home (less s t l home e));
    owners = λ s k' t r v home wide own. let l = was s v.live in let b = z.back s k' v.at l in
        by-owner s k' t r b home wide (λ e. more s k' t r v.at l home wide e)
        (h.owners s b.node t r (at_site b.at l) home wide (ap (λ es. owns es t) (sym (z.lists r wide)) ∙ own));
    recorded = λ s k' t r v home wide has_it. let l = was s v.live in let b = z.back s k' v.at l in
        by-record s k' t r b home wide
        (h.recorded s b.node t r (at_site b.at l) home wide (ap (λ es. has_task es t) (sym (z.lists r wide)) ∙ has_it));
    mails = λ s. subst (AreAddressed deck) (sym (z.boxes s)) (h.mails s);
    ranks = λ m k' p e x v star managed. let l = was m v.live in
        let b = z.back m k' v.at l in
        let low = h.ranks m b.node p e x (at_site b.at l) (sym b.star ∙ star) managed in
        let more = z.count in
        omega (arith, low, more);
  }
    where
      was : (s : ℕ) → has w'.medium.removed s ≡ false → has w.medium.removed s ≡ false
      was s live = sym (ap (λ m. has m s) z.removed) ∙ live

      by-request : (s : ℕ) (t : TaskId)
          → IsInHands w.medium w.nodes t ⊎ (list_any (is_timely t) (inbox w.medium s) ≡ true)
          → IsInHands w'.medium w'.nodes t ⊎ (list_any (is_timely t) (inbox w'.medium s) ≡ true)
      by-request s t (inl i) = inl (hands-alike t i)
      by-request s t (inr e) = inr (ap (list_any (is_timely t)) (z.boxes s) ∙ e)

      by-owner : (s : ℕ) (k' : NodeState) (t : TaskId) (r : Res) (b : IsBack deck w s k') → is_home_at deck s t ≡ true
          → is_systems r ≡ true → (had s t r ≡ true → had' s t r ≡ true) →
          (had s t r ≡ true)
          ⊎ ((hears t r (has_res r (state_of b.node.tasks t).records) (inbox w.medium s) ≡ true)
          ⊎ IsUntold w.medium w.nodes s t r)
          →
          (had' s t r ≡ true)
          ⊎ ((hears t r (has_res r (state_of k'.tasks t).records) (inbox w'.medium s) ≡ true)
          ⊎ IsUntold w'.medium w'.nodes s t r)
      by-owner s k' t r b home wide keep (inl e) = inl (keep e)
      by-owner s k' t r b home wide keep (inr (inl e)) =
          inr (inl (ap (hears t r (has_res r (state_of k'.tasks t).records)) (z.boxes s)
          ∙ (ap (λ c. hears t r c (inbox w.medium s)) (b.has t r home wide) ∙ e)))
      by-owner s k' t r b home wide keep (inr (inr i)) = inr (inr (untold-alike s t r i))

      by-record : (s : ℕ) (k' : NodeState) (t : TaskId) (r : Res) (b : IsBack deck w s k') → is_home_at deck s t ≡ true
          → is_systems r ≡ true →
          (has_res r (state_of b.node.tasks t).records ≡ true) ⊎ (list_any (is_timely t) (inbox w.medium s) ≡ true)
          → (has_res r (state_of k'.tasks t).records ≡ true) ⊎ (list_any (is_timely t) (inbox w'.medium s) ≡ true)
      by-record s k' t r b home wide (inl e) = inl (b.has t r home wide ∙ e)
      by-record s k' t r b home wide (inr e) = inr (ap (list_any (is_timely t)) (z.boxes s) ∙ e)

  -- so are ranks
  pub shown-alike : AreShown deck w → AreShown deck w'
  shown-alike h s k' t r v home wide stands =
      let l = was-live s v.live in
      let b = z.back s k' v.at l in
      let k : HasShown w s b.node t r =
      h s b.node t r (at_site b.at l) home wide (ap (λ es. has_task es t) (sym (z.lists r wide)) ∙ stands) in
      record {
        rank = k.rank;
        shown =
            subst (λ (ms : List Mail). Shows r t k.rank (state_of k'.tasks t).records ms) (sym (z.boxes s))
            (record {
              ranked = b.ranks t r home wide k.rank k.shown.ranked;
              comes = λ none. k.shown.comes (sym (b.has t r home wide) ∙ none);
            });
        carried = λ m x p there star.
            let mb = z.back m x there.at (was-live m there.live) in
            k.carried m mb.node p (at_site mb.at (was-live m there.live)) (sym mb.star ∙ star);
      }
    where
      was-live : (i : ℕ) → has w'.medium.removed i ≡ false → has w.medium.removed i ≡ false
      was-live i live = sym (ap (λ m. has m i) z.removed) ∙ live

-- the same live systems stand there
pub same-nodes : (deck : Deck) (w w' : World) → w'.medium.removed ≡ w.medium.removed
    → ((s : ℕ) → has w.medium.removed s ≡ false → slice_get w'.nodes s ≡ slice_get w.nodes s)
    → ((s : ℕ) → inbox w'.medium s ≡ inbox w.medium s) → items w'.fixed ≡ items w.fixed → SameShown deck w w'
same-nodes deck w w' removed nodes boxes same = record {
  removed = removed;
  back = λ s k' at live. record {
    node = k';
    at = sym (nodes s live) ∙ at;
    star = refl;
    has = λ t r home wide. refl;
    ranks = λ t r home wide n h. h;
  };
  forth = λ s k at live. record { node = k; at = nodes s live ∙ at; star = refl };
  boxes = boxes;
  lists = λ r wide. ap (λ T. list_of (lists T) r) same;
  count = subst (λ T. enq_count (items w.fixed) ≤ enq_count T) (sym same) (omega arith);
}
