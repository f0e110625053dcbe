-- Ranks by events that leave all mail: nothing happens, a task goes on by itself, or a system gives up its interest in
-- an entry.
use Rattle.grs_world.proofs.Common.{[], ◌∙◌, ◌≡◌, ap, append-nil, Deck, inbox, inbox_of, is_systems, items, left_at}
use Rattle.grs_world.proofs.Common.{lines_of, list_of, lists, may_go, MediumState, NodeState, refl, Res, same_Some}
use Rattle.grs_world.proofs.Common.{Some, StarPart, subst, sym, SysId, task_step, TaskId, true, Turnout, World, ℕ}
use Rattle.grs_world.proofs.run.Site.{Site}
use Rattle.grs_world.proofs.star.Members.{IsMember, all_lists}
use Rattle.grs_world.proofs.star.OwnEvents.{Task}
use Rattle.grs_world.proofs.star.Worlds.{IsWhole, items-none}
use Rattle.grs_world.proofs.star.hearing.Gentle.{Gentle, gentle-none}
use Rattle.grs_world.proofs.star.hearing.Passing.{lists_then}
use Rattle.grs_world.proofs.star.hearing.Quiet.{task-lists, task_gentle, task_star}
use Rattle.grs_world.proofs.star.ranks.Carried.{CarriesRank, has_this_rank, leaving-all}
use Rattle.grs_world.proofs.star.ranks.Ranked.{StaysRanked, shown-calm}
use Rattle.grs_world.proofs.star.ranks.Shows.{gentle-stay}

module _ (deck : Deck) (w : World) (g : IsWhole deck w) (c : SysId) (n : NodeState) (at : Site w c.0 n) where
  abbrev me : IsMember deck w.medium.words (all_lists w) c.0 n
  me = g.roles.node c.0 n at

  -- all mail stays
  calm : (o : Turnout) → o.medium.removed ≡ w.medium.removed → o.medium.inboxes ≡ w.medium.inboxes
      → Gentle n.tasks o.step.node.tasks
      → ((r : Res) → is_systems r ≡ true → list_of (lists_then w c o) r ≡ list_of (all_lists w) r) →
      (p' : StarPart) → o.step.node.star ≡ Some p'
      → ((t : TaskId) (r : Res) (k : ℕ) → CarriesRank r t k me.part.manager → CarriesRank r t k p'.manager)
      → StaysRanked deck w c n o
  calm o removed boxes gentle same p' star' carries sent had h =
      shown-calm deck w g c n at o removed
      (λ u ne. ([], ap (λ bs. inbox_of bs u) boxes ∙ sym (append-nil (inbox w.medium u)), tt))
      (ap (λ bs. inbox_of bs c.0) boxes) (gentle-stay n.tasks o.step.node.tasks gentle) same
      (λ x x' is is' t r k has.
      subst (λ (z : StarPart). CarriesRank r t k z.manager) (same_Some p' x' (sym star' ∙ is'))
      (carries t r k
      (subst (λ (z : StarPart). CarriesRank r t k z.manager) (same_Some x me.part (sym is ∙ me.star)) has)))

  -- nothing happens to mail, tasks and the part, whatever happens to the medium else
  pub ranked-still : (m : MediumState) → m.inboxes ≡ w.medium.inboxes → m.removed ≡ w.medium.removed → (k : NodeState)
      → Gentle n.tasks k.tasks → k.star ≡ n.star →
      StaysRanked deck w c n (record { medium = m; step = record { node = k; fixed = [] } })
  ranked-still m boxes removed k gentle star =
      calm (record { medium = m; step = record { node = k; fixed = [] } }) removed boxes gentle
      (λ r wide. ap (λ T. list_of (lists T) r) (items-none w.fixed c)) me.part (star ∙ me.star)
      (λ t r i has. has)

  -- a task goes on by itself
  pub ranked-task : (t : TaskId) → may_go deck n t ≡ true
      → Task deck w.medium.words (items w.fixed) g.right c.0 n (inbox w.medium c.0) (g.later c.0) (g.out c.0)
      (g.system c.0 n at) c (task_step deck.limit n t (lines_of deck t))
      →
      StaysRanked deck w c n (record { medium = w.medium; step = task_step deck.limit n t (lines_of deck t) })
  ranked-task t goes z =
      calm (record { medium = w.medium; step = task_step deck.limit n t (lines_of deck t) }) refl refl
      (task_gentle deck w g c n at t goes) (λ r wide. (task-lists deck w g c n at t z).0 r wide) me.part
      (task_star deck w g c n at t) (λ u r i has. has)

  -- a system gives up its interest in an entry
  pub ranked-left : (x : ℕ) → (m : MediumState) → m.inboxes ≡ w.medium.inboxes → m.removed ≡ w.medium.removed →
      StaysRanked deck w c n
      (record { medium = m; step = record { node = record n { star = Some (left_at me.part x) }; fixed = [] } })
  ranked-left x m boxes removed =
      calm
      (record { medium = m; step = record { node = record n { star = Some (left_at me.part x) }; fixed = [] } })
      removed boxes (gentle-none n.tasks) (λ r wide. ap (λ T. list_of (lists T) r) (items-none w.fixed c))
      (left_at me.part x) refl
      (λ t r k has. leaving-all (has_this_rank r t k) (λ b y. refl) (λ y. refl) me.part.manager x has)
