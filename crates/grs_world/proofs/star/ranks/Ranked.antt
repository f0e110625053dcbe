-- The ranks of a star that loses nobody: each element has one rank, which the managers carry, and which its task's
-- system shows. What an event must leave so that it stays so; and the events that leave all mail and lists do.
use Rattle.grs_world.proofs.Common.{◌∙◌, ◌≡◌, ◌≢◌, ap, Bool, Deck, false, has, has_task, inbox, is_home_at, is_systems}
use Rattle.grs_world.proofs.Common.{List, list_of, Mail, no_truth, NodeState, placed, refl, Res, Some, StarPart}
use Rattle.grs_world.proofs.Common.{state_of, subst, sym, SysId, TaskId, true, Turnout, World, ℕ}
use Rattle.grs_world.proofs.star.ranks.Carried.{CarriesRank}
use Rattle.grs_world.proofs.star.ranks.Shows.{RecordsStay, Shows, shows-more, shows-stay}
use Rattle.grs_world.proofs.run.Site.{Site, each_site}
use Rattle.grs_world.proofs.star.Heard.{IsHeard}
use Rattle.grs_world.proofs.star.Members.{IsMember, all_lists}
use Rattle.grs_world.proofs.star.Worlds.{IsWhole}
use Rattle.grs_world.proofs.star.hearing.Passing.{Grown, lists_then}

-- A task of system s has an element on a resource: it has one rank, on record or under way, and with every manager.
pub record HasShown (w : World) (s : ℕ) (n : NodeState) (t : TaskId) (r : Res) : Type 0 where
  pub rank : ℕ
  pub shown : Shows r t rank (state_of n.tasks t).records (inbox w.medium s)
  pub carried : (m : ℕ) (k : NodeState) (p : StarPart) → Site w m k → k.star ≡ Some p → CarriesRank r t rank p.manager

abbrev pub AreShown : Deck → World → Type 0
AreShown deck w =
    (s : ℕ) (n : NodeState) (t : TaskId) (r : Res) → Site w s n → is_home_at deck s t ≡ true → is_systems r ≡ true
    → has_task (list_of (all_lists w) r) t ≡ true → HasShown w s n t r

-- The law of one event: where nothing is lost, ranks stay.
abbrev pub StaysRanked : (deck : Deck) → World → SysId → NodeState → Turnout → Type 0
StaysRanked deck w c n o =
    (sent : ℕ → TaskId → Bool) (had : ℕ → TaskId → Res → Bool) → IsHeard deck w sent had → AreShown deck w
    → AreShown deck (placed w c n o)

-- What an event of system c leaves.
pub record LeavesRanks (deck : Deck) (w : World) (c : SysId) (n : NodeState) (o : Turnout) : Type 0 where
  -- mail of others comes last
  pub boxes : (u : ℕ) → u ≢ c.0 → Grown deck (inbox w.medium u) (inbox o.medium u)
  -- what it shows of its own tasks, as long as their elements stand
  pub own : (t : TaskId) (r : Res) (k : ℕ) → is_home_at deck c.0 t ≡ true → is_systems r ≡ true
      → has_task (list_of (lists_then w c o) r) t ≡ true →
      Shows r t k (state_of n.tasks t).records (inbox w.medium c.0)
      → Shows r t k (state_of o.step.node.tasks t).records (inbox o.medium c.0)
  -- what it carries of elements that stood
  pub carries : (p p' : StarPart) → n.star ≡ Some p → o.step.node.star ≡ Some p' → (t : TaskId) (r : Res) (k : ℕ)
      → has_task (list_of (all_lists w) r) t ≡ true → CarriesRank r t k p.manager → CarriesRank r t k p'.manager
  -- and a new element has a rank
  pub fresh : (s : ℕ) (y : NodeState) (t : TaskId) (r : Res) → Site (placed w c n o) s y → is_home_at deck s t ≡ true
      → is_systems r ≡ true
      → has_task (list_of (all_lists w) r) t ≡ false → has_task (list_of (lists_then w c o) r) t ≡ true →
      HasShown (placed w c n o) s y t r

module _ (deck : Deck) (w : World) (g : IsWhole deck w) (c : SysId) (n : NodeState) (at : Site w c.0 n) (o : Turnout)
    (same_removed : o.medium.removed ≡ w.medium.removed) where
  abbrev me : IsMember deck w.medium.words (all_lists w) c.0 n
  me = g.roles.node c.0 n at

  -- who is live was so
  live-before : (s : ℕ) → has o.medium.removed s ≡ false → has w.medium.removed s ≡ false
  live-before s live = ap (λ i. has i s) (sym same_removed) ∙ live

  module _ (z : LeavesRanks deck w c n o) where
    carried-then : (t : TaskId) (r : Res) (k : ℕ) → has_task (list_of (all_lists w) r) t ≡ true
        → ((m : ℕ) (y : NodeState) (p : StarPart) → Site w m y → y.star ≡ Some p → CarriesRank r t k p.manager)
        → (m : ℕ) (y : NodeState) (p : StarPart) → Site (placed w c n o) m y → y.star ≡ Some p
        → CarriesRank r t k p.manager
    unfolding placed
    carried-then t r k stood before m y p found star =
        each_site w c n at o live-before
        (λ i (x : NodeState). (q : StarPart) → x.star ≡ Some q → CarriesRank r t k q.manager)
        (λ q is. z.carries me.part q me.star is t r k stood (before c.0 n me.part at me.star))
        (λ i x ne u q is. before i x q u is) m y found p star

    -- So ranks stay.
    pub shown-placed : AreShown deck w → AreShown deck (placed w c n o)
    unfolding placed
    shown-placed h s y t r found home wide stands = go (has_task (list_of (all_lists w) r) t) refl
      where
        own : has_task (list_of (all_lists w) r) t ≡ true → is_home_at deck c.0 t ≡ true
            → HasShown (placed w c n o) c.0 o.step.node t r
        own before mine =
            let k : HasShown w c.0 n t r = h c.0 n t r at mine wide before in
            record {
              rank = k.rank;
              shown = z.own t r k.rank mine wide stands k.shown;
              carried = carried-then t r k.rank before k.carried;
            }

        others : has_task (list_of (all_lists w) r) t ≡ true → (i : ℕ) (x : NodeState) → i ≢ c.0 → Site w i x
            → is_home_at deck i t ≡ true → HasShown (placed w c n o) i x t r
        others before i x ne u mine =
            let k : HasShown w i x t r = h i x t r u mine wide before in
            let b = z.boxes i ne in
            record {
              rank = k.rank;
              shown =
                  subst (λ (ms : List Mail). Shows r t k.rank (state_of x.tasks t).records ms) (sym b.1)
                  (shows-more r t k.rank (state_of x.tasks t).records (inbox w.medium i) b.0 k.shown);
              carried = carried-then t r k.rank before k.carried;
            }

        go : (b : Bool) → has_task (list_of (all_lists w) r) t ≡ b → HasShown (placed w c n o) s y t r
        go false before = z.fresh s y t r found home wide before stands
        go true before =
            each_site w c n at o live-before
            (λ i x. is_home_at deck i t ≡ true → HasShown (placed w c n o) i x t r) (own before) (others before) s y
            found home

  -- an event that leaves the lists, what its own tasks have on record, and its own mail
  pub shown-calm : ((u : ℕ) → u ≢ c.0 → Grown deck (inbox w.medium u) (inbox o.medium u))
      → inbox o.medium c.0 ≡ inbox w.medium c.0 → RecordsStay n.tasks o.step.node.tasks →
      ((r : Res) → is_systems r ≡ true → list_of (lists_then w c o) r ≡ list_of (all_lists w) r) →
      ((p p' : StarPart) → n.star ≡ Some p → o.step.node.star ≡ Some p' → (t : TaskId) (r : Res) (k : ℕ)
      → CarriesRank r t k p.manager → CarriesRank r t k p'.manager)
      → AreShown deck w → AreShown deck (placed w c n o)
  shown-calm boxes box stay same carries h =
      shown-placed (record {
        boxes = boxes;
        own = λ t r k mine wide stands shown.
            subst (λ (ms : List Mail). Shows r t k (state_of o.step.node.tasks t).records ms) (sym box)
            (shows-stay n.tasks r t k (inbox w.medium c.0) o.step.node.tasks wide stay shown);
        carries = λ p p' star star' t r k stands carried. carries p p' star star' t r k carried;
        fresh = λ s y t r found mine wide before after.
            no_truth (has_task (list_of (all_lists w) r) t)
            (sym (ap (λ es. has_task es t) (same r wide)) ∙ after) before;
      })
      h
