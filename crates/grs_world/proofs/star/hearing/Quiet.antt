-- Events that leave all mail: nothing happens, a task goes on by itself, or a system gives up its interest in an entry.
use Rattle.grs_world.proofs.Common.{[], ◌&&◌, ◌++◌, ◌==◌, ◌∙◌, ◌∷◌, ◌≡◌, ◌≤◌, after_fixed, and_parts, ap, arith, Deck}
use Rattle.grs_world.proofs.Common.{Deq, Enq, false, false_by, Fixed, fixed_by, goes_on, goes_round, inbox, inbox_of}
use Rattle.grs_world.proofs.Common.{is_done_with, is_of_deck, is_systems, is_task, items, items_of, left_at, length}
use Rattle.grs_world.proofs.Common.{lines_of, List, list_of, lists, lists-push, Look, made_item, Managed, managed_at}
use Rattle.grs_world.proofs.Common.{may_go, MediumState, no_truth, NodeState, placed, refl, Release, Res, RunItem}
use Rattle.grs_world.proofs.Common.{same_res, same_res-exact, Some, StarPart, State, state_of, subst, suc, sym, SysId}
use Rattle.grs_world.proofs.Common.{task_step, TaskId, true, Want, wants_round, World, ℕ}
use Rattle.grs_wire.proofs.WantLaws.{list_of-want_other, speaks_of}
use Rattle.grs_world.proofs.star.Heard.{StaysHeard, enq_count}
use Rattle.grs_world.proofs.star.Members.{IsMember, all_lists}
use Rattle.grs_world.proofs.star.OwnEvents.{Task, idle_task, local_task}
use Rattle.grs_world.proofs.star.Tasks.{task-quiet}
use Rattle.grs_world.proofs.star.Worlds.{IsWhole, items-none, items-one}
use Rattle.grs_world.proofs.star.hearing.Gains.{giving-next, giving-untold}
use Rattle.grs_world.proofs.star.hearing.Gentle.{Gentle, gentle-none}
use Rattle.grs_world.proofs.star.hearing.ByItself.{gentle-task}
use Rattle.grs_world.proofs.star.hearing.Own.{Holds, heard-calm}
use Rattle.grs_world.proofs.star.hearing.Passing.{enq_count-grown}
use Rattle.grs_world.proofs.run.Site.{Site}
use Rattle.grs_wire.specs.declared.request.Fixed.TheVariants as fixing

-- the same part
pub holds-same : (p : StarPart) (T T' : List RunItem) → enq_count T ≤ enq_count T'
    → ((e : ℕ) (x : Managed) → managed_at p.manager e ≡ Some x → x.next ≤ suc (enq_count T)) → Holds p p T'
holds-same p T T' more ranks = record {
  held = refl;
  untold = λ t r h. h;
  ranks = λ e x managed. let low = ranks e x managed in omega (arith, low, more);
}

module _ (deck : Deck) (w : World) (g : IsWhole deck w) (c : SysId) (n : NodeState) (at : Site w c.0 n) where
  abbrev me : IsMember deck w.medium.words (all_lists w) c.0 n
  me = g.roles.node c.0 n at

  -- ---- nothing happens to mail, tasks and the part, whatever happens to the medium else
  pub heard-still : (m : MediumState) → m.inboxes ≡ w.medium.inboxes → m.removed ≡ w.medium.removed → (k : NodeState)
      → Gentle n.tasks k.tasks → k.star ≡ n.star →
      IsWhole deck (placed w c n (record { medium = m; step = record { node = k; fixed = [] } }))
      → StaysHeard deck w c n (record { medium = m; step = record { node = k; fixed = [] } })
  heard-still m boxes removed k gentle star =
      heard-calm deck w g c n at (record { medium = m; step = record { node = k; fixed = [] } }) removed
      (λ u. ap (λ bs. inbox_of bs u) boxes) gentle
      (λ r wide. ap (λ T. list_of (lists T) r) (items-none w.fixed c))
      me.part me.part me.star (star ∙ me.star)
      (λ ranks.
      subst (λ T. Holds me.part me.part T) (sym (items-none w.fixed c))
      (holds-same me.part (items w.fixed) (items w.fixed) (omega arith) ranks))

  -- ---- a task goes on by itself
  -- a request that doesn't go with the message leaves the resources of the whole complex
  pub other-kind : (q : Want) (r : Res) → is_systems r ≡ true → wants_round q ≡ false → speaks_of q r ≡ false
  other-kind (Enq p c ret full) r wide narrow =
      false_by (same_res r p) (λ e. no_truth (is_systems r) wide (ap is_systems (same_res-exact r p e) ∙ narrow))
  other-kind (Deq p have) r wide narrow =
      false_by (same_res r p) (λ e. no_truth (is_systems r) wide (ap is_systems (same_res-exact r p e) ∙ narrow))
  other-kind (Release p) r wide narrow =
      false_by (same_res r p) (λ e. no_truth (is_systems r) wide (ap is_systems (same_res-exact r p e) ∙ narrow))
  other-kind (Look first count f) r wide narrow = refl

  -- and so does all that doesn't go with it
  other-fixed : (s : State) (f : Fixed) (r : Res) → is_systems r ≡ true → goes_round f ≡ false
      → list_of (after_fixed s f) r ≡ list_of s r
  other-fixed s (fixing.Asked q) r wide narrow =
      list_of-want_other s q.task q.want r (other-kind q.want r wide narrow)
  other-fixed s (fixing.LocalLook t f) r wide narrow = refl
  other-fixed s (fixing.Purged target) r wide narrow = absurd (cc)

  pub task_gentle : (t : TaskId) → may_go deck n t ≡ true
      → Gentle n.tasks (task_step deck.limit n t (lines_of deck t)).node.tasks
  unfolding may_go
  task_gentle t goes =
      gentle-task t deck.limit n (lines_of deck t)
      (and_parts (is_task n.tasks t) (is_of_deck deck t && goes_on (state_of n.tasks t).phase) goes).0

  pub task_star : (t : TaskId) → (task_step deck.limit n t (lines_of deck t)).node.star ≡ Some me.part
  task_star t = (task-quiet me.part n me.star deck.limit t (lines_of deck t)).star ∙ me.star

  -- which leaves the lists of the whole complex
  pub task-lists : (t : TaskId) →
      Task deck w.medium.words (items w.fixed) g.right c.0 n (inbox w.medium c.0) (g.later c.0) (g.out c.0)
      (g.system c.0 n at) c (task_step deck.limit n t (lines_of deck t))
      →
      ((r : Res) → is_systems r ≡ true
      → list_of (lists (items (w.fixed ++ fixed_by c (task_step deck.limit n t (lines_of deck t)).fixed))) r
      ≡ list_of (lists (items w.fixed)) r)
      × (enq_count (items w.fixed)
      ≤ enq_count (items (w.fixed ++ fixed_by c (task_step deck.limit n t (lines_of deck t)).fixed)))
  task-lists t (idle_task nothing y) =
      let same : items (w.fixed ++ fixed_by c (task_step deck.limit n t (lines_of deck t)).fixed) ≡ items w.fixed =
      ap (λ fs. items (w.fixed ++ fixed_by c fs)) nothing ∙ items-none w.fixed c in (
        λ r wide. ap (λ T. list_of (lists T) r) same,
        subst (λ T. enq_count (items w.fixed) ≤ enq_count T) (sym same) (omega arith),
      )
  task-lists t (local_task f one away may y) =
      let item : RunItem = made_item c (items w.fixed) f in
      let same : items (w.fixed ++ fixed_by c (task_step deck.limit n t (lines_of deck t)).fixed)
      ≡ items w.fixed ++ item ∷ [] =
      ap (λ fs. items (w.fixed ++ fixed_by c fs)) one ∙ items-one w.fixed c f in (
        λ r wide.
            ap (λ T. list_of (lists T) r) same
            ∙ (ap (λ s. list_of s r) (lists-push (items w.fixed) item)
            ∙ other-fixed (lists (items w.fixed)) f r wide away),
        subst (λ T. enq_count (items w.fixed) ≤ enq_count T) (sym same)
            (enq_count-grown (items w.fixed) (item ∷ [])),
      )

  pub heard-task : (t : TaskId) → may_go deck n t ≡ true
      → Task deck w.medium.words (items w.fixed) g.right c.0 n (inbox w.medium c.0) (g.later c.0) (g.out c.0)
      (g.system c.0 n at) c (task_step deck.limit n t (lines_of deck t))
      →
      IsWhole deck (placed w c n (record { medium = w.medium; step = task_step deck.limit n t (lines_of deck t) }))
      → StaysHeard deck w c n (record { medium = w.medium; step = task_step deck.limit n t (lines_of deck t) })
  heard-task t goes z =
      heard-calm deck w g c n at (record { medium = w.medium; step = task_step deck.limit n t (lines_of deck t) })
      refl
      (λ u. refl) (task_gentle t goes)
      (λ r wide. (task-lists t z).0 r wide)
      me.part me.part me.star (task_star t)
      (λ ranks.
      holds-same me.part (items w.fixed)
      (items (w.fixed ++ fixed_by c (task_step deck.limit n t (lines_of deck t)).fixed))
      (task-lists t z).1 ranks)

  -- ---- a system gives up its interest in an entry
  pub heard-left : (x : ℕ) → is_done_with me.part x ≡ true → (m : MediumState) → m.inboxes ≡ w.medium.inboxes
      → m.removed ≡ w.medium.removed →
      IsWhole deck (placed w c n
      (record { medium = m; step = record { node = record n { star = Some (left_at me.part x) }; fixed = [] } }))
      → StaysHeard deck w c n
      (record { medium = m; step = record { node = record n { star = Some (left_at me.part x) }; fixed = [] } })
  heard-left x done m boxes removed =
      let empty = (and_parts (length (items_of (managed_at me.part.manager x)) == 0) _ done).0 in
      heard-calm deck w g c n at
      (record { medium = m; step = record { node = record n { star = Some (left_at me.part x) }; fixed = [] } }) removed
      (λ u. ap (λ bs. inbox_of bs u) boxes) (gentle-none n.tasks)
      (λ r wide. ap (λ T. list_of (lists T) r) (items-none w.fixed c))
      me.part (left_at me.part x) me.star refl
      (λ ranks. subst (λ T. Holds me.part (left_at me.part x) T) (sym (items-none w.fixed c)) (record {
        held = refl;
        untold = λ t r before. giving-untold me.part.manager x empty r t before;
        ranks = λ e y managed. giving-next me.part.manager x (suc (enq_count (items w.fixed))) ranks e y managed;
      }))
