-- A task of a system in star mode goes on by itself.
use Rattle.grs_world.proofs.Common.{[], ◌++◌, ◌∙◌, ◌≡◌, ap, Deck, fixed_by, history, inbox, items, lines_of, may_go}
use Rattle.grs_world.proofs.Common.{NodeState, refl, stays-task, Step, subst, sym, SysId, task_step, TaskId, told-news}
use Rattle.grs_world.proofs.Common.{ToldNews, true, World}
use Rattle.grs_world.proofs.star.OwnEvents.{Task, idle_task, local_task, system-task}
use Rattle.grs_world.proofs.star.Worlds.{IsWhole, items-none, items-one, whole-task}
use Rattle.grs_world.proofs.star.hearing.Quiet.{heard-task}
use Rattle.grs_world.proofs.star.ranks.Quiet.{ranked-task}
use Rattle.grs_world.proofs.star.steps.Outcome.{Comes}
use Rattle.grs_world.proofs.run.Desks.{tells_tasks}
use Rattle.grs_world.proofs.at_rest.Ring.{distinct-at}
use Rattle.grs_world.proofs.at_rest.StarTasks.{IsDated, dated-task}
use Rattle.grs_world.proofs.star.Ghosts.{ghosted}
use Rattle.grs_world.proofs.run.Site.{Site}

module _ (deck : Deck) (w : World) (g : IsWhole deck w) (c : SysId) (n : NodeState) (at : Site w c.0 n) where
  -- what it tells agrees
  task-news : (st : Step)
      → Task deck w.medium.words (items w.fixed) g.right c.0 n (inbox w.medium c.0) (g.later c.0) (g.out c.0)
      (g.system c.0 n at) c st
      → ToldNews deck c.0 (history (items (w.fixed ++ fixed_by c st.fixed))) n.tasks.told st.node.tasks.told
  task-news st (idle_task none_fixed z) =
      subst (λ U. ToldNews deck c.0 (history U) n.tasks.told st.node.tasks.told)
      (sym (ap (λ fs. items (w.fixed ++ fixed_by c fs)) none_fixed ∙ items-none w.fixed c)) (told-news z.told)
  task-news st (local_task f one_fixed away may z) =
      subst (λ U. ToldNews deck c.0 (history U) n.tasks.told st.node.tasks.told)
      (sym (ap (λ fs. items (w.fixed ++ fixed_by c fs)) one_fixed ∙ items-one w.fixed c f))
      (told-news z.told)

  -- and its tasks stay up to date
  own-dated : (t : TaskId) → may_go deck n t ≡ true → IsDated deck c.0 n
      → IsDated deck c.0 (task_step deck.limit n t (lines_of deck t)).node
  own-dated t goes =
      dated-task deck c.0 n (g.system c.0 n at).at.good.system
      (λ u ls o.
      distinct-at deck c.0 (items w.fixed) [] (g.later c.0) (g.out c.0) (ghosted n) (g.system c.0 n at).at u ls o)
      t goes

  pub outcome-task : (t : TaskId) → may_go deck n t ≡ true
      → Comes deck w g c n (record { medium = w.medium; step = task_step deck.limit n t (lines_of deck t) })
  outcome-task t goes step = record {
    stays = whole-task deck w g c n at t goes step;
    news =
        tells_tasks (task-news (task_step deck.limit n t (lines_of deck t))
        (system-task deck w.medium.words (items w.fixed) g.right c.0 n (inbox w.medium c.0) (g.later c.0) (g.out c.0)
        (g.system c.0 n at) c t (g.roles.node c.0 n at).part (g.roles.node c.0 n at).star goes))
        (stays-task deck.limit n t (lines_of deck t)).done refl;
    heard =
        heard-task deck w g c n at t goes (system-task deck w.medium.words (items w.fixed) g.right c.0 n
        (inbox w.medium c.0) (g.later c.0) (g.out c.0) (g.system c.0 n at) c t (g.roles.node c.0 n at).part
        (g.roles.node c.0 n at).star goes);
    ranked = λ g'.
        ranked-task deck w g c n at t goes (system-task deck w.medium.words (items w.fixed) g.right c.0 n
        (inbox w.medium c.0) (g.later c.0) (g.out c.0) (g.system c.0 n at) c t (g.roles.node c.0 n at).part
        (g.roles.node c.0 n at).star goes);
    dated = own-dated t goes;
  }
