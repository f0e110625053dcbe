-- An event of a star that lost systems which manage no lock entry: what is shown of it goes on, and what is told agrees
-- with the history.
use Rattle.grs_world.proofs.Common.{[], ◌&&◌, ◌++◌, ◌<◌, ◌==◌, ◌||◌, ◌∙◌, ◌∷◌, ◌≡◌, ◌≢◌, ◌≤◌, and_parts, ap, arith}
use Rattle.grs_world.proofs.Common.{Bool, cond, Deck, desk_told, entry_of_res, false, Fixed, fixed_by, has, HistEntry}
use Rattle.grs_world.proofs.Common.{history, inbox_of, is_home_at, is_manager, is_systems, is_task, items, items-append}
use Rattle.grs_world.proofs.Common.{items_of, kept_for, last_number, length, length-set, lines_of, List, list_of, lists}
use Rattle.grs_world.proofs.Common.{losing, made_item, Mail, Managed, managed_at, manager, manager_at, may_go, Meaning}
use Rattle.grs_world.proofs.Common.{members, Message, most_systems, nat_lt, next_order, no_truth, NodeState, None, not}
use Rattle.grs_world.proofs.Common.{only, Option, or_left, or_parts, or_right, owns-has, placed, plain, Purged, purged}
use Rattle.grs_world.proofs.Common.{refl, Res, same_Some, set, slice_get, slice_get-set, slice_get-set_other}
use Rattle.grs_world.proofs.Common.{slice_get_within, Some, stale, StarPart, stays-task, Step, still-told, subst, suc}
use Rattle.grs_world.proofs.Common.{sym, SysId, task_step, TaskId, told-news, ToldNews, true, Turnout, VaryDone}
use Rattle.grs_world.proofs.Common.{without_in_star, without_those, World, zero, ℕ}
use Rattle.std.specs.Prelude.{◌^◌}
use Rattle.grs_known.proofs.known.Histories.{MayPurge}
use Rattle.grs_medium.specs.Apply.{is_live}
use Rattle.grs_node.proofs.Keeping.{shared-task}
use Rattle.grs_world.specs.InStar.{manages_any}
use Rattle.grs_world.specs.Kept.{IsKeptBy}
use Rattle.contention_mgr.specs.Laws.{owns_by}
use Rattle.grs_world.proofs.at_rest.StarTasks.{dated-by, IsDated}
use Rattle.grs_world.proofs.loss.Heard.{acts-after, acts-before, calm-hears, gets_at, had-known, had_all, had_at}
use Rattle.grs_world.proofs.loss.Heard.{HearsOn, sent_all}
use Rattle.grs_world.proofs.loss.Hears.{gentle-losses, gets, keeps-losses, lists_by, losses-marked}
use Rattle.grs_world.proofs.star.Heard.{enq_count, had_by, IsHeard}
use Rattle.grs_world.proofs.star.Systems.{IsSystem}
use Rattle.grs_world.proofs.star.OwnEvents.{Goes, system-task}
use Rattle.grs_world.proofs.star.hearing.ByItself.{gentle-task}
use Rattle.grs_world.proofs.star.hearing.Elements.{recorded-here}
use Rattle.grs_world.proofs.star.hearing.Gentle.{Gentle, gentle-none}
use Rattle.grs_world.proofs.star.hearing.Quiet.{task-lists}
use Rattle.grs_world.proofs.loss.Leaves.{mail_without}
use Rattle.grs_world.proofs.loss.Losing.{in-those, is_in, lose_parts, losing-is, lost-system, none-unknown, OwnsAt}
use Rattle.grs_world.proofs.loss.Losing.{tell_losses}
use Rattle.grs_world.proofs.loss.Purging.{after, IsRemoval, losing-then, news, turns}
use Rattle.grs_world.proofs.loss.Removed.{heard-then}
use Rattle.grs_world.proofs.loss.Tells.{part-owns, system-loses}
use Rattle.grs_world.proofs.loss.View.{IsLeft, IsLosing, left-same, unknown, viewed_by}
use Rattle.grs_world.proofs.loss.Views.{AreShownBoxes, IsSeen}
use Rattle.grs_world.proofs.run.Desks.{EventTells, tells_already, tells_done, tells_lost, tells_no_such, tells_removed}
use Rattle.grs_world.proofs.run.Desks.{tells_tasks}
use Rattle.grs_world.proofs.run.Knowing.{KnownAreRemoved}
use Rattle.grs_world.proofs.run.Placed.{by_node, world_then}
use Rattle.grs_world.proofs.run.Removals.{GoneAreRemoved}
use Rattle.grs_world.proofs.run.Site.{at_site, Site}
use Rattle.grs_world.proofs.star.Events.{good_came}
use Rattle.grs_world.proofs.star.Ghosts.{ghosted, shows-task}
use Rattle.grs_world.proofs.star.Members.{all_lists, IsMember, IsPart, IsStep, stays}
use Rattle.grs_world.proofs.star.Plain.{came-usual}
use Rattle.grs_world.proofs.star.Sound.{came-outcome}
use Rattle.grs_world.proofs.star.Tasks.{task-quiet}
use Rattle.grs_world.proofs.star.Usual.{usual}
use Rattle.grs_world.proofs.star.Worlds.{are_live, Hands, in_hands, IsWhole, items-none, none_fixed, StaysWhole}
use Rattle.grs_world.proofs.star.Worlds.{whole-placed}
use Rattle.grs_world.proofs.star.ranks.Quiet.{ranked-still}
use Rattle.grs_world.proofs.star.ranks.Ranked.{AreShown}
use Rattle.grs_world.proofs.star.steps.Outcome.{IsOutcome}
use Rattle.grs_world.proofs.system.Desks.{desk-told}
use Rattle.grs_wire.specs.declared.deck.Choice.TheVariants as choices
use Rattle.grs_wire.specs.declared.deck.Order.TheVariants as orders
use Rattle.grs_world.proofs.star.Plain as plainly

-- ---- a task's step leaves the part
-- a system with another part
abbrev with_part : StarPart → NodeState → NodeState
with_part q n = record n { star = Some q }

node-from : (a b : NodeState) → ghosted a ≡ ghosted b → a.shared ≡ b.shared → a.outbox ≡ b.outbox → (q : StarPart)
    → a.star ≡ Some q → a ≡ record b { star = Some q }
node-from a b same shared outbox q star =
    ap (λ (z : NodeState).
    let k : NodeState = record z { star = a.star; outbox = a.outbox; shared = a.shared } in k) same
    ∙ (ap (λ o. let k : NodeState = record b { star = o; outbox = a.outbox; shared = a.shared } in k) star
    ∙ (ap (λ os. let k : NodeState = record b { star = Some q; outbox = os; shared = a.shared } in k) outbox
    ∙ ap (λ st. let k : NodeState = record b { star = Some q; shared = st } in k) shared))

pub task-left : (limit : ℕ) (n : NodeState) (p q : StarPart) → n.star ≡ Some p → (t : TaskId)
    → (o : Option (List Meaning)) →
    task_step limit (record n { star = Some q }) t o
    ≡ record {
      node = record (task_step limit n t o).node { star = Some q };
      fixed = (task_step limit n t o).fixed;
    }
task-left limit n p q star t o =
    let k : NodeState = record n { star = Some q } in
    let a = shows-task limit n p star t o in
    let b = shows-task limit (record n { star = Some q }) q refl t o in
    let x = task-quiet p n star limit t o in
    let y = task-quiet q (record n { star = Some q }) refl limit t o in
    let node = node-from (task_step limit (record n { star = Some q }) t o).node (task_step limit n t o).node
    (sym b.node ∙ a.node)
    (shared-task limit (record n { star = Some q }) t o ∙ sym (shared-task limit n t o)) (y.outbox ∙ sym x.outbox) q
    y.star in
    ap (λ (z : NodeState).
    let st : Step = record { node = z; fixed = (task_step limit (record n { star = Some q }) t o).fixed } in st) node
    ∙ ap (λ fs. let st : Step = record {
      node = record (task_step limit n t o).node { star = Some q };
      fixed = fs;
    } in st)
    (sym b.fixed ∙ a.fixed)

-- ---- what is told goes by the tasks and the desk alone
tells-left : (deck : Deck) (c : SysId) (H : List HistEntry) (fixed : List Fixed) (n k : NodeState)
    (o o' : Option StarPart) (before after : Bool)
    → EventTells deck c H fixed (record n { star = o }) (record k { star = o' }) before after
    → EventTells deck c H fixed n k before after
tells-left deck c H fixed n k o o' before after (tells_tasks news done mode) = tells_tasks news done mode
tells-left deck c H fixed n k o o' before after (tells_done next told done star was now) =
    tells_done next told done star was now
tells-left deck c H fixed n k o o' before after (tells_already next told done was now) =
    tells_already next told done was now
tells-left deck c H fixed n k o o' before after (tells_removed target next told done mode one) =
    tells_removed target next told done mode one
tells-left deck c H fixed n k o o' before after (tells_lost target next T1 first news done mode one) =
    tells_lost target next T1 first news done mode one
tells-left deck c H fixed n k o o' before after (tells_no_such target next told done mode gone) =
    tells_no_such target next told done mode gone

-- ---- What an event comes to.
pub record GoesOn (deck : Deck) (w : World) (g : IsLosing deck w) (c : SysId) (n : NodeState) (o : Turnout) : Type 0
  where
    pub losing : IsLosing deck (world_then w c n o)
    pub news :
        EventTells deck c (history (items (w.fixed ++ fixed_by c o.step.fixed))) o.step.fixed n o.step.node
        w.medium.star
        o.medium.star
    pub rests : HearsOn deck w g → enq_count (items (w.fixed ++ fixed_by c o.step.fixed)) ≤ last_number
        → HearsOn deck (world_then w c n o) losing

-- who owns by a part's lists of a resource owns by those of an entry
owns-at : (p : StarPart) (r : Res) (t : TaskId) → owns_by (lists_by p r) r t ≡ true → OwnsAt p.manager r t
owns-at p r t own = by-entry (entry_of_res (length p.manager.entries) r) own
  where
    by-kept : (e : ℕ) (o : Option Managed) → managed_at p.manager e ≡ o → owns_by (plain (items_of o)) r t ≡ true
        → OwnsAt p.manager r t
    by-kept e None at h = no_truth true refl (sym h)
    by-kept e (Some m) at h = record { entry = e; managed = m; at = at; own = h }

    by-entry : (o : Option ℕ) → owns_by (plain (items_of (kept_for p.manager.entries o))) r t ≡ true
        → OwnsAt p.manager r t
    by-entry None h = no_truth true refl (sym h)
    by-entry (Some e) h = by-kept e (managed_at p.manager e) refl h

-- a target that manages nothing manages no entry
idle-word : (words : List ℕ) (t : SysId) → manages_any words t ≡ false → (e : ℕ)
    → is_manager (manager_at words e) t ≡ false
unfolding manager
idle-word [] t none e = refl
idle-word (x ∷ xs) t none zero = (or_parts (is_manager (manager x) t) (manages_any xs t) none).0
idle-word (x ∷ xs) t none (suc e) = idle-word xs t (or_parts (is_manager (manager x) t) (manages_any xs t) none).1 e

module _ (deck : Deck) (some : 0 < deck.entries) (few_systems : length deck.systems ≤ most_systems) (w : World)
    (g : IsLosing deck w) (knows : KnownAreRemoved w) (removed : GoneAreRemoved deck w) (c : SysId) (n : NodeState)
    (at : slice_get w.nodes c.0 ≡ Some n) (alive : has w.medium.removed c.0 ≡ false) where
  abbrev V : World
  V = viewed_by w g.view g.boxes

  abbrev gone : ℕ
  gone = w.medium.removed

  inside : c.0 < length deck.systems
  inside = subst (λ k. c.0 < k) g.count (slice_get_within w.nodes c.0 n at)

  low : c.0 < most_systems
  low = let there = inside in omega (arith, there, few_systems)

  abbrev own : IsLeft w.medium.removed n (g.shown c.0 n at alive).0
  own = (g.shown c.0 n at alive).2

  abbrev p : StarPart
  p = (g.shown c.0 n at alive).2.part

  abbrev q : StarPart
  q = lose_parts (g.shown c.0 n at alive).2.part (unknown w.medium.removed n)

  -- what is shown of it
  abbrev k : NodeState
  k = record n { star = Some (lose_parts (g.shown c.0 n at alive).2.part (unknown w.medium.removed n)) }

  there : slice_get g.view c.0 ≡ Some k
  there = (g.shown c.0 n at alive).1 ∙ ap (λ (z : NodeState). Some z) own.is

  site : Site V c.0 k
  site = at_site there alive

  abbrev me : IsMember deck w.medium.words (all_lists V) c.0 k
  me = g.whole.roles.node c.0 k site

  fits : IsPart deck w.medium.words (all_lists V) c.0 q
  fits = subst (IsPart deck w.medium.words (all_lists V) c.0) (same_Some me.part q (sym me.star)) me.fits

  same-boxes : length g.boxes ≡ length w.medium.inboxes
  same-boxes = g.whole.roles.inboxes ∙ sym g.places

  -- ---- the world after an event, where this is shown of its system and of the inboxes
  abbrev losing-placed : (o : Turnout) (z : NodeState) (boxes : List (List Mail))
      → IsWhole deck (viewed_by (world_then w c n o) (set g.view c.0 z) boxes) → o.medium.removed ≡ w.medium.removed
      → o.medium.message ≡ w.medium.message → length o.medium.inboxes ≡ length w.medium.inboxes
      → IsLeft w.medium.removed o.step.node z → AreShownBoxes w.medium.removed o.medium.inboxes boxes
      → IsLosing deck (world_then w c n o)
  losing-placed o z boxes whole same message count left mail = record {
    view = set g.view c.0 z;
    boxes = boxes;
    whole = whole;
    shown =
        by_node w.nodes c.0 n o.step.node at (λ s y.
        has o.medium.removed s ≡ false
        → (j : NodeState) × (slice_get (set g.view c.0 z) s ≡ Some j) × IsLeft o.medium.removed y j)
        (λ live.
        (z, slice_get-set g.view c.0 k z there, subst (λ r. IsLeft r o.step.node z) (sym same) left))
        (λ s y ne found live.
        let old = g.shown s y found (sym (ap (λ r. has r s) same) ∙ live) in
        (old.0, slice_get-set_other g.view c.0 s z ne ∙ old.1, subst (λ r. IsLeft r y old.0) (sym same) old.2));
    mail = λ s live.
        mail s (sym (ap (λ r. has r s) same) ∙ live)
        ∙ ap (λ r. mail_without (has r) (inbox_of o.medium.inboxes s)) (sym same);
    around = ap (λ (m : Message). m.systems) message ∙ g.around;
    places = count ∙ g.places;
    gone = λ i z v found out star.
        by_node w.nodes c.0 n o.step.node at
        (λ s y. has o.medium.removed s ≡ true → (v : StarPart) → y.star ≡ Some v → IsKeptBy s v)
        (λ out. no_truth (has w.medium.removed c.0) (sym (ap (λ r. has r c.0) same) ∙ out) alive)
        (λ s y ne found out v star. g.gone s y v found (sym (ap (λ r. has r s) same) ∙ out) star)
        i z found out v star;
    count = length-set w.nodes c.0 o.step.node ∙ g.count;
  }

  -- and what is still to be heard then
  goes-by : (o : Turnout) (z : NodeState) (boxes : List (List Mail))
      → IsWhole deck (viewed_by (world_then w c n o) (set g.view c.0 z) boxes) → o.medium.removed ≡ w.medium.removed
      → o.medium.message ≡ w.medium.message → length o.medium.inboxes ≡ length w.medium.inboxes
      → IsLeft w.medium.removed o.step.node z → AreShownBoxes w.medium.removed o.medium.inboxes boxes →
      EventTells deck c (history (items (w.fixed ++ fixed_by c o.step.fixed))) o.step.fixed n o.step.node w.medium.star
      o.medium.star
      →
      (HearsOn deck w g → enq_count (items (w.fixed ++ fixed_by c o.step.fixed)) ≤ last_number
      → IsDated deck c.0 o.step.node
      × IsHeard deck (viewed_by (world_then w c n o) (set g.view c.0 z) boxes)
      (sent_all (set w.nodes c.0 o.step.node)) (had_all o.medium.removed (set w.nodes c.0 o.step.node))
      × AreShown deck (viewed_by (world_then w c n o) (set g.view c.0 z) boxes))
      → GoesOn deck w g c n o
  goes-by o z boxes whole same message count left mail news rests = record {
    losing = losing-placed o z boxes whole same message count left mail;
    news = news;
    rests = λ h few. let y = rests h few in record {
      dated =
          by_node w.nodes c.0 n o.step.node at (λ s v. has o.medium.removed s ≡ false → IsDated deck s v) (λ live. y.0)
          (λ s v ne found live. h.dated s v found (sym (ap (λ r. has r s) same) ∙ live));
      heard = y.1;
      ranked = y.2;
    };
  }

  none-lists : (r : Res) → list_of (lists (items (w.fixed ++ fixed_by c []))) r ≡ list_of (lists (items w.fixed)) r
  none-lists r = ap (λ T. list_of (lists T) r) (items-none w.fixed c)

  none-more : enq_count (items w.fixed) ≤ enq_count (items (w.fixed ++ fixed_by c []))
  none-more = subst (λ T. enq_count (items w.fixed) ≤ enq_count T) (sym (items-none w.fixed c)) (omega arith)

  -- ---- nothing but a flag of rest
  pub goes-nothing : (flags : ℕ)
      → GoesOn deck w g c n (record { medium = record w.medium { rest = flags }; step = only n })
  unfolding placed
  goes-nothing flags =
      let came : plainly.Came deck V.medium c k me.part
      (record { medium = record V.medium { rest = flags }; step = only k }) =
      plainly.nothing flags in
      let out = came-outcome deck some V g.whole c low k site removed
      (record { medium = record V.medium { rest = flags }; step = only k }) came
      (good_came deck some V c low k site g.whole.roles me
      (record { medium = record V.medium { rest = flags }; step = only k }) came) in
      goes-by (record { medium = record w.medium { rest = flags }; step = only n }) k g.boxes out.stays.whole refl refl
      refl (record {
        part = own.part;
        star = own.star;
        is = refl;
        well = own.well;
        calm = own.calm;
      })
      g.mail (tells_tasks (still-told refl) refl refl) (λ h few. (
        h.dated c.0 n at alive,
        calm-hears deck w g c n at k there refl
            (record { medium = record w.medium { rest = flags }; step = only n }) refl k refl refl (gentle-none n.tasks)
            (λ r wide. none-lists r) none-more (λ t r home wide e. e) h.heard,
        ranked-still deck V g.whole c k site (record V.medium { rest = flags }) refl refl k (gentle-none n.tasks) refl
            (sent_all w.nodes) (had_all w.medium.removed w.nodes) h.heard h.ranked,
      ))

  -- ---- a task goes on
  same-may : (t : TaskId) → may_go deck n t ≡ true → may_go deck k t ≡ true
  unfolding may_go
  same-may t may = may

  gentle : (t : TaskId) → may_go deck n t ≡ true
      → Gentle n.tasks (task_step deck.limit n t (lines_of deck t)).node.tasks
  unfolding may_go
  gentle t may =
      gentle-task t deck.limit n (lines_of deck t) (and_parts (is_task n.tasks t) _ may).0

  -- which leaves the lists of the whole complex
  task-leaves : (t : TaskId) → may_go deck n t ≡ true →
      ((r : Res) → is_systems r ≡ true →
      list_of (lists (items (w.fixed ++ fixed_by c (task_step deck.limit n t (lines_of deck t)).fixed))) r
      ≡ list_of (lists (items w.fixed)) r)
      × (enq_count (items w.fixed)
      ≤ enq_count (items (w.fixed ++ fixed_by c (task_step deck.limit n t (lines_of deck t)).fixed)))
  task-leaves t may =
      let z = task-lists deck V g.whole c k site t
      (system-task deck w.medium.words (items w.fixed) g.whole.right c.0 k (inbox_of g.boxes c.0) (g.whole.later c.0)
      (g.whole.out c.0) (g.whole.system c.0 k site) c t q refl (same-may t may)) in
      let same = task-left deck.limit n p q own.star t (lines_of deck t) in (
        λ r wide.
            ap (λ (st : Step). list_of (lists (items (w.fixed ++ fixed_by c st.fixed))) r) (sym same) ∙ z.0 r wide,
        subst (λ (st : Step). enq_count (items w.fixed) ≤ enq_count (items (w.fixed ++ fixed_by c st.fixed))) same z.1,
      )

  -- who was told still was, and who comes to own by what there is still to lose does
  task-had : (t : TaskId) → may_go deck n t ≡ true → (u : TaskId) (r : Res) → is_systems r ≡ true
      → had_at w.medium.removed (Some n) u r ≡ true
      → had_at w.medium.removed (Some (task_step deck.limit n t (lines_of deck t)).node) u r ≡ true
  task-had t may u r wide e = go (had_by n u r) refl e
    where
      after : NodeState
      after = (task_step deck.limit n t (lines_of deck t)).node

      go : (b : Bool) → had_by n u r ≡ b
          → (had_by n u r || gets_at n.star (unknown w.medium.removed n) r u) ≡ true
          → had_at w.medium.removed (Some (task_step deck.limit n t (lines_of deck t)).node) u r ≡ true
      go true is h =
          or_left (had_by after u r) (gets_at after.star (unknown w.medium.removed after) r u)
          (((gentle t may).each u).marked r wide is)
      go false is h =
          let stays = stays-task deck.limit n t (lines_of deck t) in
          or_right (had_by after u r) (gets_at after.star (unknown w.medium.removed after) r u)
          (ap (λ o. gets_at o (unknown w.medium.removed after) r u) stays.star
          ∙ (ap (λ i. gets_at n.star (members (without_those i w.medium.removed)) r u) stays.known
          ∙ (ap (λ b. b || gets_at n.star (unknown w.medium.removed n) r u) (sym is) ∙ h)))

  pub goes-task : (t : TaskId) → may_go deck n t ≡ true
      → GoesOn deck w g c n (record { medium = w.medium; step = task_step deck.limit n t (lines_of deck t) })
  unfolding placed
  goes-task t may =
      let ls = lines_of deck t in
      let st : Step = task_step deck.limit n t (lines_of deck t) in
      let came : plainly.Came deck V.medium c k me.part
      (record { medium = V.medium; step = task_step deck.limit k t (lines_of deck t) }) =
      plainly.went_on t (same-may t may) in
      let first = came-outcome deck some V g.whole c low k site removed
      (record { medium = V.medium; step = task_step deck.limit k t (lines_of deck t) }) came
      (good_came deck some V c low k site g.whole.roles me
      (record { medium = V.medium; step = task_step deck.limit k t (lines_of deck t) }) came) in
      let out : IsOutcome deck V g.whole c k (record {
        medium = V.medium;
        step = record {
          node = record (task_step deck.limit n t (lines_of deck t)).node { star = Some q };
          fixed = (task_step deck.limit n t (lines_of deck t)).fixed;
        };
      }) =
      subst (λ (x : Step). IsOutcome deck V g.whole c k (record { medium = V.medium; step = x }))
      (task-left deck.limit n p q own.star t (lines_of deck t)) first in
      let stays = stays-task deck.limit n t (lines_of deck t) in
      goes-by (record { medium = w.medium; step = task_step deck.limit n t (lines_of deck t) })
      (record (task_step deck.limit n t (lines_of deck t)).node { star = Some q }) g.boxes out.stays.whole refl refl
      refl
      (record {
        part = own.part;
        star = stays.star ∙ own.star;
        is = ap (λ known. let z : NodeState =
            record (task_step deck.limit n t (lines_of deck t)).node
            { star = Some (lose_parts own.part (members (without_those known w.medium.removed))) } in z)
            (sym stays.known);
        well = own.well;
        calm = own.calm;
      })
      g.mail
      (tells-left deck c (history (items (w.fixed ++ fixed_by c (task_step deck.limit n t (lines_of deck t)).fixed)))
      (task_step deck.limit n t (lines_of deck t)).fixed n (task_step deck.limit n t (lines_of deck t)).node (Some q)
      (Some q) w.medium.star w.medium.star out.news)
      (λ h few. (
        task-dated out (h.dated c.0 n at alive),
        calm-hears deck w g c n at k there refl
            (record { medium = w.medium; step = task_step deck.limit n t (lines_of deck t) }) refl
            (record (task_step deck.limit n t (lines_of deck t)).node { star = Some q }) refl refl (gentle t may)
            (λ r wide. (task-leaves t may).0 r wide) (task-leaves t may).1
            (λ u r home wide e. task-had t may u r wide e) h.heard,
        out.ranked out.stays.whole (sent_all w.nodes) (had_all w.medium.removed w.nodes) h.heard h.ranked,
      ))
    where
      task-dated : IsOutcome deck V g.whole c k (record {
        medium = V.medium;
        step = record {
          node = record (task_step deck.limit n t (lines_of deck t)).node { star = Some q };
          fixed = (task_step deck.limit n t (lines_of deck t)).fixed;
        };
      })
          → IsDated deck c.0 n → IsDated deck c.0 (task_step deck.limit n t (lines_of deck t)).node
      task-dated out h =
          let y = out.dated (record { date = h.date; own = h.own }) in record { date = y.date; own = y.own }

  -- ---- it is told which systems were removed, and loses those of which it didn't know
  abbrev told_all : NodeState
  told_all = record (record n { known = w.medium.removed }) {
    tasks = tell_losses n.tasks (g.shown c.0 n at alive).2.part (unknown w.medium.removed n);
    star = Some (lose_parts (g.shown c.0 n at alive).2.part (unknown w.medium.removed n));
  }

  -- none of them is itself
  not-itself : is_in c.0 (unknown w.medium.removed n) ≡ false
  not-itself = in-those n.known w.medium.removed c.0 low ∙ ap (λ b. b && not (has n.known c.0)) alive

  home : p.manager.system.0 ≡ c.0
  home = ap (λ (z : SysId). z.0) (sym (lost-system p (unknown w.medium.removed n))) ∙ fits.home

  loses : Goes deck w.medium.words (items w.fixed) c.0 told_all (inbox_of g.boxes c.0) (g.whole.later c.0)
      (g.whole.out c.0) n.tasks.told
  loses =
      system-loses deck w.medium.words (items w.fixed) c.0 k (inbox_of g.boxes c.0) (g.whole.later c.0)
      (g.whole.out c.0) g.whole.right (g.whole.system c.0 k site) p (unknown w.medium.removed n) home not-itself fits
      (Some q) w.medium.removed

  told-member : IsMember deck w.medium.words (all_lists V) c.0 told_all
  told-member = record { part = q; star = refl; outbox = me.outbox; fits = fits }

  told-step : IsStep deck V c k (record { medium = V.medium; step = only told_all })
  told-step = record {
    mode = g.whole.roles.mode;
    removed = refl;
    inboxes = refl;
    message = refl;
    moves = stays deck V c.0 g.whole.roles;
    member = told-member;
  }

  told-whole : StaysWhole deck V g.whole c (placed V c k (record { medium = V.medium; step = only told_all }))
  told-whole =
      whole-placed deck V g.whole c k site (record { medium = V.medium; step = only told_all }) told-step
      (items w.fixed) (items-none w.fixed c) g.whole.later g.whole.out (λ u ne. refl) none_fixed g.whole.right
      g.whole.near loses.system (λ s y ne found. g.whole.system s y found)
      (λ y star.
      subst (λ (z : StarPart).
      Hands deck w.medium.words (are_live V) g.whole.later g.whole.out c.0 (in_hands z (inbox_of g.boxes c.0)))
      (same_Some q y star) (g.whole.hands c.0 k q site refl))
      (λ s y z ne found star. g.whole.hands s y z found star)

  -- who came to own by the losses is told
  told-had : (u : TaskId) (r : Res) → is_home_at deck c.0 u ≡ true → is_systems r ≡ true
      → had_at w.medium.removed (Some n) u r ≡ true → had_at w.medium.removed (Some told_all) u r ≡ true
  told-had u r home_u wide e =
      had-known w.medium.removed told_all u r (none-unknown w.medium.removed) ∙ go (had_by n u r) refl e
    where
      sys : IsSystem deck w.medium.words (items w.fixed) c.0 k (inbox_of g.boxes c.0) (g.whole.later c.0)
          (g.whole.out c.0)
      sys = g.whole.system c.0 k site

      by-gets : gets p (unknown w.medium.removed n) r u ≡ true → had_by told_all u r ≡ true
      by-gets h =
          let owned = part-owns deck w.medium.words (all_lists V) c.0 q fits r u (owns-at q r u
          (and_parts (owns_by (lists_by q r) r u) (not (owns_by (lists_by p r) r u))
          (and_parts (p.manager.system.0 == u.system.0)
          (owns_by (lists_by q r) r u && not (owns_by (lists_by p r) r u)) h).1).0) in
          losses-marked (unknown w.medium.removed n) p n.tasks r u wide h (sys.at.good.here u home_u)
          (recorded-here deck w.medium.words (items w.fixed) g.whole.right c.0 k (inbox_of g.boxes c.0)
          (g.whole.later c.0) (g.whole.out c.0) sys u home_u r (owns-has (list_of (all_lists V) r) u owned.own)
          owned.entry owned.of owned.managed)

      go : (b : Bool) → had_by n u r ≡ b
          → (had_by n u r || gets_at n.star (unknown w.medium.removed n) r u) ≡ true → had_by told_all u r ≡ true
      go true is h = ((gentle-losses (unknown w.medium.removed n) p n.tasks).each u).marked r wide is
      go false is h =
          by-gets (ap (λ o. gets_at o (unknown w.medium.removed n) r u) (sym own.star)
          ∙ (ap (λ b. b || gets_at n.star (unknown w.medium.removed n) r u) (sym is) ∙ h))

  goes-told : GoesOn deck w g c n (record { medium = w.medium; step = only told_all })
  unfolding placed
  goes-told =
      goes-by (record { medium = w.medium; step = only told_all }) told_all g.boxes told-whole.whole refl refl refl
      (record {
        part = q;
        star = refl;
        is = ap (λ ss. let z : NodeState = record told_all { star = Some (lose_parts q ss) } in z)
            (sym (none-unknown w.medium.removed));
        well = fits.well;
        calm = fits.calm;
      })
      g.mail
      (tells_tasks (subst (λ T. ToldNews deck c.0 (history T) n.tasks.told told_all.tasks.told)
      (sym (items-none w.fixed c)) (told-news loses.told)) refl refl)
      (λ h few. (
        dated-by deck c.0 n told_all refl (h.dated c.0 n at alive)
            (keeps-losses deck (unknown w.medium.removed n) p n.tasks (h.dated c.0 n at alive).date),
        calm-hears deck w g c n at k there refl (record { medium = w.medium; step = only told_all }) refl told_all refl
            refl (gentle-losses (unknown w.medium.removed n) p n.tasks) (λ r wide. none-lists r) none-more
            (λ u r home wide e. told-had u r home wide e) h.heard,
        ranked-still deck V g.whole c k site V.medium refl refl told_all
            (gentle-losses (unknown w.medium.removed n) p n.tasks) refl (sent_all w.nodes)
            (had_all w.medium.removed w.nodes) h.heard h.ranked,
      ))

  -- a set with systems outside the deck has no effect
  stale-is : stale deck n w.medium.removed
      ≡ cond (nat_lt w.medium.removed (2 ^ length deck.systems)) told_all n
  unfolding stale
  stale-is = by-test (nat_lt w.medium.removed (2 ^ length deck.systems))
    where
      by-test : (b : Bool) →
          losing deck (record n { known = cond b w.medium.removed n.known })
          (members (without_those n.known (cond b w.medium.removed n.known)))
          ≡ cond b told_all n
      by-test true =
          losing-is deck (record n { known = w.medium.removed }) p own.star own.calm (unknown w.medium.removed n)
      by-test false =
          losing-is deck n p own.star own.calm (members (without_those n.known n.known))
          ∙ (ap (λ ss. let z : NodeState = record n {
            tasks = tell_losses n.tasks p ss;
            star = Some (lose_parts p ss);
          } in z)
          (none-unknown n.known)
          ∙ ap (λ o. let z : NodeState = record n { star = o } in z) (sym own.star))

  pub goes-informed :
      GoesOn deck w g c n (record { medium = w.medium; step = only (stale deck n w.medium.removed) })
  goes-informed =
      subst (λ (z : NodeState). GoesOn deck w g c n (record { medium = w.medium; step = only z })) (sym stale-is)
      (by-test (nat_lt w.medium.removed (2 ^ length deck.systems)))
    where
      by-test : (b : Bool) → GoesOn deck w g c n (record { medium = w.medium; step = only (cond b told_all n) })
      by-test true = goes-told
      by-test false = goes-nothing w.medium.rest

  -- ---- it acts: then it knows all of them, and shows itself
  module _ (all : n.known ≡ w.medium.removed) where
    in-view : slice_get g.view c.0 ≡ Some n
    in-view =
        (g.shown c.0 n at alive).1
        ∙ ap (λ (z : NodeState). Some z) (left-same w.medium.removed n (g.shown c.0 n at alive).0 own all)

    knows-now : unknown w.medium.removed n ≡ []
    knows-now = ap (λ r. members (without_those n.known r)) (sym all) ∙ none-unknown n.known

    knows-then : (o : Turnout) → o.step.node.known ≡ n.known → unknown w.medium.removed o.step.node ≡ []
    knows-then o known =
        ap (λ r. members (without_those r w.medium.removed)) (known ∙ all) ∙ none-unknown w.medium.removed

    abbrev mine : IsMember deck w.medium.words (all_lists V) c.0 n
    mine = g.whole.roles.node c.0 n (at_site in-view alive)

    pub goes-seen : (o : Turnout) → o.medium.removed ≡ w.medium.removed → o.medium.message ≡ w.medium.message
        → o.step.node.known ≡ n.known → IsSeen deck w.medium g.boxes c n o → GoesOn deck w g c n o
    unfolding placed
    goes-seen o same message known seen =
        let view : Turnout = record { medium = record o.medium { inboxes = seen.boxes }; step = o.step } in
        let came : plainly.Came deck V.medium c n mine.part
        (record { medium = record o.medium { inboxes = seen.boxes }; step = o.step }) =
        came-usual deck V.medium c n mine.part
        (usual deck V g.whole c n (at_site in-view alive) (knows c.0 n at)) g.whole.roles.mode seen.choice seen.result _
        seen.none seen.came in
        let step : IsStep deck V c n (record { medium = record o.medium { inboxes = seen.boxes }; step = o.step }) =
        good_came deck some V c low n (at_site in-view alive) g.whole.roles mine _ came in
        let out = came-outcome deck some V g.whole c low n (at_site in-view alive) removed
        (record { medium = record o.medium { inboxes = seen.boxes }; step = o.step }) came step in
        goes-by o o.step.node seen.boxes out.stays.whole same message seen.count
        (record {
          part = step.member.part;
          star = step.member.star;
          is =
              ap (λ y. let z : NodeState = record o.step.node { star = y } in z) step.member.star
              ∙ ap (λ ss. let z : NodeState =
              record o.step.node { star = Some (lose_parts step.member.part ss) } in z)
              (sym (knows-then o known));
          well = step.member.fits.well;
          calm = step.member.fits.calm;
        })
        seen.mail out.news
        (λ h few. (
          out.dated (h.dated c.0 n at alive),
          acts-after deck w g c n at n in-view refl o same knows-now
              (ap (λ r. members (without_those o.step.node.known r)) same ∙ knows-then o known)
              (set g.view c.0 o.step.node) seen.boxes
              (out.heard out.stays.whole (sent_all w.nodes) (had_all w.medium.removed w.nodes) few
              (acts-before deck w g c n at n in-view refl o same knows-now
              (ap (λ r. members (without_those o.step.node.known r)) same ∙ knows-then o known) h.heard)),
          out.ranked out.stays.whole (sent_all w.nodes) (had_all w.medium.removed w.nodes) h.heard h.ranked,
        ))

    -- it removes a system that manages no lock entry
    pub goes-removal : (target : SysId) → next_order deck n ≡ Some (orders.Vary target)
        → is_live w.medium target ≡ true → c.0 ≢ target.0 → manages_any w.medium.words target ≡ false
        → MayPurge deck (items w.fixed) (made_item c (items w.fixed) (Purged target)) →
        GoesOn deck w g c n
        (record { medium = without_in_star w.medium target; step = purged deck n (choices.Purge target) })
    unfolding desk_told
    goes-removal target next live ne none may =
        let event : IsRemoval deck w g c n target = record {
          few = few_systems;
          knows = knows;
          at = at;
          alive = alive;
          all = all;
          there = live;
          ne = ne;
          idle = idle-word w.medium.words target none;
          may = may;
        } in
        subst (GoesOn deck w g c n) (sym (turns event)) (record {
          losing = losing-then event;
          news =
              tells_lost target next (desk_told n VaryDone).tasks.told (desk-told n VaryDone)
              (subst (λ T. ToldNews deck c.0 (history T) (desk_told n VaryDone).tasks.told
              (after event).tasks.told)
              (sym (items-append w.fixed (fixed_by c (Purged target ∷ []))))
              (news event))
              refl refl refl;
          rests = λ h few. heard-then event h;
        })
