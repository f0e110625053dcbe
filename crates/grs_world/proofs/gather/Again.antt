-- A task that has sent its request is to send it again exactly where its system takes a notice of the request's entry.
use Rattle.grs_world.proofs.Common.{[], ◌&&◌, ◌<◌, ◌==◌, ◌||◌, ◌∙◌, ◌∷◌, ◌≡◌, ◌≢◌, and-false, and_parts, ap, Asked}
use Rattle.grs_world.proofs.Common.{awaited, awaiting, Bool, by_test, call_at, call_in, Choice, chosen, cond}
use Rattle.grs_world.proofs.Common.{controlled, counted, Deck, eqb-false, eqb-true, Event, false, filter, fixing_none}
use Rattle.grs_world.proofs.Common.{Gathering, gathering_at, gathers, get_or, happens, happens_at, has, is_held_for}
use Rattle.grs_world.proofs.Common.{is_item_of, is_live, is_news, is_sent, is_task, length, length-map, List, list_any}
use Rattle.grs_world.proofs.Common.{lose_each, lt-ltb, Mail, manages, MediumState, move_each, move_entry, Moved}
use Rattle.grs_world.proofs.Common.{names_of, nat_lt, new_task, no_truth, NodeState, None, not, not-true, Nothing}
use Rattle.grs_world.proofs.Common.{Option, owing, Phase, placed, prepare, Prepared, Quiet, record_of, refl, Reply}
use Rattle.grs_world.proofs.Common.{reply_by, Res, run, same_Some, sent_again, slice_get, slice_get-set, Some, Standing}
use Rattle.grs_world.proofs.Common.{standing, StarPart, StarStep, state_of, subst, sym, SysId, take_mail, take_up_all}
use Rattle.grs_world.proofs.Common.{TaskId, TaskState, TasksView, tell_control, tell_untold, ToldLine, took_mail, true}
use Rattle.grs_world.proofs.Common.{Turnout, with_role, World, ℕ}
use Rattle.std.proofs.Common.{is_some}
use Rattle.grs_node.specs.Removal.{again, installing, took_notice}
use Rattle.system_purge.specs.Gathers.{GathersView}
use Rattle.grs_known.proofs.records.Control.{Controlled, Hears, coded, given, none, passed, posted}
use Rattle.grs_node.specs.Star.{asks_in}
use Rattle.task_state.specs.Replies.{is_held}
use Rattle.grs_node.specs.Node.{fixing_nothing}
use Rattle.std.proofs.lemmas.List.{get_or-map, get_or-set_other}
use Rattle.grs_node.specs.declared.prepared.Prepared.TheVariants.{Call as Calls}
use Rattle.star_client.specs.Owes.{OwesView}
use Rattle.std.proofs.lemmas.Option.{unwrap_or-slice_get}
use Rattle.contention_mgr.specs.Installs.{own_owners}
use Rattle.task_state.proofs.ViewLaws.{is_task-place}
use Rattle.grs_world.proofs.run.Came.{Acts, Came, Result, acted, already, began, changed, decided, informed, is_silent}
use Rattle.grs_world.proofs.run.Came.{last_turn, left, no_such, parted, removes_one, removes_star, replied, result_of}
use Rattle.grs_world.proofs.run.Came.{sent, settled, told, took, turn, went_on}
use Rattle.grs_world.proofs.run.Chosen.{came}
use Rattle.grs_world.proofs.run.Lost.{by-loss, tasks-each}
use Rattle.grs_world.specs.Again.{NoticesSendAgain, asks_again}
use Rattle.grs_wire.specs.declared.medium.Mail.TheVariants as mails
use Rattle.grs_wire.specs.declared.medium.Reply.TheVariants as replies
use Rattle.task_state.specs.declared.state.Phase.TheVariants as phases
use Rattle.grs_world.proofs.run.Came as any

-- a task in this phase isn't held, by an answer or at a WAIT line
abbrev pub IsFree : Phase → Type 0
IsFree p = (is_held p ≡ false) × ((q : Res) → is_held_for q p ≡ false)

-- so control that it is told leaves its phase, and what it asks
hears-free : (t : TaskId) (r : Res) (x : TaskState) (T : List ToldLine) (y : TaskState) (U : List ToldLine)
    → Hears t r x T y U → IsFree x.phase → (y.phase ≡ x.phase) × (y.outstanding ≡ x.outstanding)
hears-free t r x T y U (none m) free = (refl, refl)
hears-free t r x T y U (given l) free = (refl, refl)
hears-free t r x T y U (coded held) free = no_truth (is_held x.phase) held free.0
hears-free t r x T y U (posted k away) free = (refl, refl)
hears-free t r x T y U (passed k held) free = no_truth (is_held_for r x.phase) held (free.1 r)

-- a task stands by its place alone
state-at : (v : TasksView) (t u : TaskId) → t.task ≡ u.task → state_of v t ≡ state_of v u
unfolding state_of
state-at v t u same = ap (λ i. get_or v.tasks i new_task) same

module _ (t : TaskId) (a : Option Asked) where
  -- It stands in this phase, and asks for this.
  pub record Stands (phase : Phase) (v : TasksView) : Type 0 where
    pub here : is_task v t ≡ true
    pub is : (state_of v t).phase ≡ phase
    pub asks : (state_of v t).outstanding ≡ a

  pub told-stands : (phase : Phase) → IsFree phase → (v : TasksView) (r : Res) (u : TaskId) → Stands phase v
      → Stands phase (tell_control v r u)
  unfolding tell_control
  told-stands phase free v r u h = go (is_task v u) refl
    where
      go : (b : Bool) → is_task v u ≡ b → Stands phase (tell_control v r u)
      go false away =
          subst (λ b. Stands phase (cond b (tell_untold v u r (record_of (state_of v u).records r)) v)) (sym away) h
      go true at = by_place (t.task == u.task) refl
        where
          c : Controlled v r u (tell_control v r u)
          c = controlled v r u at

          by_place : (b : Bool) → (t.task == u.task) ≡ b → Stands phase (tell_control v r u)
          by_place true f =
              let same = state-at v t u (eqb-true t.task u.task f) in
              let now : state_of (tell_control v r u) t ≡ c.state =
              state-at (tell_control v r u) t u (eqb-true t.task u.task f) ∙ c.did.state in
              let was : (state_of v u).phase ≡ phase =
              sym (ap (λ (x : TaskState). x.phase) same) ∙ h.is in
              let both = hears-free u r (state_of v u) v.told c.state c.told c.hears (subst IsFree (sym was) free) in
              record {
                here = c.did.changed.here t ∙ h.here;
                is = ap (λ (x : TaskState). x.phase) now ∙ (both.0 ∙ was);
                asks =
                    ap (λ (x : TaskState). x.outstanding) now
                    ∙ (both.1 ∙ (sym (ap (λ (x : TaskState). x.outstanding) same) ∙ h.asks));
              }
          by_place false f =
              let now = c.did.changed.others t (eqb-false t.task u.task f) in
              record {
                here = c.did.changed.here t ∙ h.here;
                is = ap (λ (x : TaskState). x.phase) now ∙ h.is;
                asks = ap (λ (x : TaskState). x.outstanding) now ∙ h.asks;
              }

  -- ---- an item of a notice
  again-is : (p : StarPart) (e : ℕ) (v : TasksView) → is_task v t ≡ true
      → state_of (sent_again p e v) t ≡ again p e (state_of v t)
  unfolding state_of
  again-is p e v here = get_or-map (again p e) v.tasks t.task new_task new_task (is_task-place v t here)

  again-here : (p : StarPart) (e : ℕ) (v : TasksView) → is_task v t ≡ true → is_task (sent_again p e v) t ≡ true
  again-here p e v here =
      ap (λ i. (v.system == t.system.0) && nat_lt t.task i) (length-map v.tasks (again p e)) ∙ here

  -- a task that is to send again is left so
  again-to-send : (p : StarPart) (e : ℕ) (v : TasksView) → Stands phases.ToSend v
      → Stands phases.ToSend (sent_again p e v)
  again-to-send p e v h = record {
    here = again-here p e v h.here;
    is = ap (λ (x : TaskState). x.phase) now ∙ h.is;
    asks = ap (λ (x : TaskState). x.outstanding) now ∙ h.asks;
  }
    where
      now : state_of (sent_again p e v) t ≡ state_of v t
      now =
          again-is p e v h.here
          ∙ ap (λ z. cond (is_sent z && asks_in p e (state_of v t).outstanding)
          (record (state_of v t) { phase = phases.ToSend }) (state_of v t)) h.is

  -- one that has sent a request of the entry is to send again, and one that asks in another entry isn't
  again-sent : (p : StarPart) (e : ℕ) (v : TasksView) (b : Bool) → asks_in p e a ≡ b → Stands phases.Sent v
      → Stands (cond b phases.ToSend phases.Sent) (sent_again p e v)
  again-sent p e v b asked h = go b asked
    where
      now : state_of (sent_again p e v) t
          ≡ cond (asks_in p e a) (record (state_of v t) { phase = phases.ToSend }) (state_of v t)
      now =
          again-is p e v h.here
          ∙ (ap (λ z. cond (is_sent z && asks_in p e (state_of v t).outstanding)
          (record (state_of v t) { phase = phases.ToSend }) (state_of v t)) h.is
          ∙ ap (λ o. cond (asks_in p e o) (record (state_of v t) { phase = phases.ToSend }) (state_of v t)) h.asks)

      go : (d : Bool) → asks_in p e a ≡ d → Stands (cond d phases.ToSend phases.Sent) (sent_again p e v)
      go true yes_it =
          let after = now ∙ ap (λ d. cond d (record (state_of v t) { phase = phases.ToSend }) (state_of v t)) yes_it in
          record {
            here = again-here p e v h.here;
            is = ap (λ (x : TaskState). x.phase) after;
            asks = ap (λ (x : TaskState). x.outstanding) after ∙ h.asks;
          }
      go false not_it =
          let after = now ∙ ap (λ d. cond d (record (state_of v t) { phase = phases.ToSend }) (state_of v t)) not_it in
          record {
            here = again-here p e v h.here;
            is = ap (λ (x : TaskState). x.phase) after ∙ h.is;
            asks = ap (λ (x : TaskState). x.outstanding) after ∙ h.asks;
          }

  -- whether an item says so
  abbrev pub says : StarPart → Moved → Bool
  says p m = is_news p m.entry && asks_in p m.entry a

  -- an item of an entry in which the task doesn't ask changes nothing of what the others say
  other-gathers : (gs : GathersView) (e f systems : ℕ) → f ≢ e
      → gathering_at (awaiting gs e systems) f ≡ gathering_at gs f
  other-gathers gs e f systems ne =
      unwrap_or-slice_get (awaiting gs e systems) f None
      ∙ (get_or-set_other gs e f (Some (record { awaits = systems; parts = [] })) None ne
      ∙ sym (unwrap_or-slice_get gs f None))

  asks-same : (p : StarPart) (gs : GathersView) (ow : OwesView) (e : ℕ) (o : Option Asked)
      → asks_in (record p { gathers = gs; owes = ow }) e o ≡ asks_in p e o
  asks-same p gs ow e None = refl
  asks-same p gs ow e (Some x) = refl

  -- what a part with other entries that are gathered says
  says-with : (p : StarPart) (gs : GathersView) (ow : OwesView) (z : Moved)
      → says (record p { gathers = gs; owes = ow }) z
      ≡ (not (manages p z.entry || is_some (gathering_at gs z.entry)) && asks_in p z.entry a)
  says-with p gs ow z =
      ap (λ b. not (manages p z.entry || is_some (gathering_at gs z.entry)) && b) (asks-same p gs ow z.entry a)

  both-off : (u w c : Bool) → c ≡ false → (u && c) ≡ (w && c)
  both-off u w true off = absurd (cc)
  both-off u w false off = and-false u ∙ sym (and-false w)

  says-still : (known : ℕ) (p : StarPart) (m : Moved) → asks_in p m.entry a ≡ false → (z : Moved)
      → says (with_role known p m) z ≡ says p z
  says-still known p m silent z =
      by_test (λ (q : StarPart). says q z ≡ says p z) (m.manager.0 == p.manager.system.0)
      (record p {
        gathers = awaiting p.gathers m.entry (awaited known p.manager.system.0 m.mask);
        owes = owing p.owes m.entry None;
      })
      (record p { owes = owing p.owes m.entry (Some m.manager) })
      (λ own.
      says-with p (awaiting p.gathers m.entry (awaited known p.manager.system.0 m.mask))
      (owing p.owes m.entry None) z
      ∙ by_entry (z.entry == m.entry) refl)
      (λ other. says-with p p.gathers (owing p.owes m.entry (Some m.manager)) z)
    where
      by_entry : (b : Bool) → (z.entry == m.entry) ≡ b
          → (not (manages p z.entry
          || is_some (gathering_at (awaiting p.gathers m.entry (awaited known p.manager.system.0 m.mask)) z.entry))
          && asks_in p z.entry a)
          ≡ says p z
      by_entry true f =
          both-off _ (is_news p z.entry) (asks_in p z.entry a)
          (ap (λ i. asks_in p i a) (eqb-true z.entry m.entry f) ∙ silent)
      by_entry false f =
          ap (λ (o : Option Gathering). not (manages p z.entry || is_some o) && asks_in p z.entry a)
          (other-gathers p.gathers m.entry z.entry (awaited known p.manager.system.0 m.mask)
          (eqb-false z.entry m.entry f))

  any-still : (known : ℕ) (p : StarPart) (m : Moved) → asks_in p m.entry a ≡ false → (ms : List Moved)
      → list_any (says (with_role known p m)) ms ≡ list_any (says p) ms
  any-still known p m silent [] = refl
  any-still known p m silent (z ∷ ms) =
      ap (λ b. b || list_any (says (with_role known p m)) ms) (says-still known p m silent z)
      ∙ ap (λ b. says p z || b) (any-still known p m silent ms)

  -- ---- all items
  moved-done : (known : ℕ) (ms : List Moved) (x : Standing) → Stands phases.ToSend x.tasks
      → Stands phases.ToSend (move_each known x ms).tasks
  unfolding move_each
  moved-done known [] x h = h
  moved-done known (m ∷ ms) x h =
      moved-done known ms (move_entry known x m)
      (by_test (λ (y : Standing). Stands phases.ToSend y.tasks) (is_news x.part m.entry)
      (standing (sent_again x.part m.entry x.tasks) (with_role known x.part m)) x
      (λ news. again-to-send x.part m.entry x.tasks h) (λ old. h))

  moved-sent : (known : ℕ) (ms : List Moved) (x : Standing) → Stands phases.Sent x.tasks
      → Stands (cond (list_any (says x.part) ms) phases.ToSend phases.Sent) (move_each known x ms).tasks
  unfolding move_each
  moved-sent known [] x h = h
  moved-sent known (m ∷ ms) x h =
      by_news (is_news x.part m.entry) (asks_in x.part m.entry a) refl
      (moved-sent known ms x h)
      (moved-done known ms (standing (sent_again x.part m.entry x.tasks) (with_role known x.part m)))
      (moved-sent known ms (standing (sent_again x.part m.entry x.tasks) (with_role known x.part m)))
    where
      by_news : (news asked : Bool) → asks_in x.part m.entry a ≡ asked
          → Stands (cond (list_any (says x.part) ms) phases.ToSend phases.Sent) (move_each known x ms).tasks
          → (Stands phases.ToSend (sent_again x.part m.entry x.tasks)
          → Stands phases.ToSend
          (move_each known (standing (sent_again x.part m.entry x.tasks) (with_role known x.part m)) ms).tasks)
          → (Stands phases.Sent (sent_again x.part m.entry x.tasks)
          → Stands (cond (list_any (says (with_role known x.part m)) ms) phases.ToSend phases.Sent)
          (move_each known (standing (sent_again x.part m.entry x.tasks) (with_role known x.part m)) ms).tasks)
          → Stands (cond ((news && asked) || list_any (says x.part) ms) phases.ToSend phases.Sent)
          (move_each known
          (cond news (standing (sent_again x.part m.entry x.tasks) (with_role known x.part m)) x) ms).tasks
      by_news false asked is old done more = old
      by_news true true is old done more = done (again-sent x.part m.entry x.tasks true is h)
      by_news true false is old done more =
          subst (λ b. Stands (cond b phases.ToSend phases.Sent)
          (move_each known (standing (sent_again x.part m.entry x.tasks) (with_role known x.part m)) ms).tasks)
          (any-still known x.part m is ms) (more (again-sent x.part m.entry x.tasks false is h))

  -- and entries that are taken up leave it so
  up-stands : (phase : Phase) → IsFree phase → (names : List TaskId) (x : Standing) → Stands phase x.tasks
      → Stands phase (take_up_all names x).tasks
  unfolding lose_each
  up-stands phase free names x h =
      by-loss (λ (y : Standing). Stands phase y.tasks)
      (λ ns y e k. tasks-each (Stands phase) (told-stands phase free) (own_owners (installing ns y e) e) y.tasks k)
      (λ y s k. tasks-each (Stands phase) (told-stands phase free) _ y.tasks k) names x [] h

  pub notice-sent : (known : ℕ) (names : List TaskId) (x : Standing) (ms : List Moved) → Stands phases.Sent x.tasks
      → Stands (cond (list_any (says x.part) ms) phases.ToSend phases.Sent) (took_notice known names x ms).tasks
  notice-sent known names x ms h =
      up-stands (cond (list_any (says x.part) ms) phases.ToSend phases.Sent) (free (list_any (says x.part) ms)) names
      (move_each known x ms) (moved-sent known ms x h)
    where
      free : (b : Bool) → IsFree (cond b phases.ToSend phases.Sent)
      free true = (refl, λ q. refl)
      free false = (refl, λ q. refl)

-- ---- the event
-- the items of the deck among those of a notice
any-filtered : (p q : Moved → Bool) (ms : List Moved) → list_any q (filter p ms) ≡ list_any (λ m. p m && q m) ms
any-filtered p q [] = refl
any-filtered p q (m ∷ ms) = go (p m) (any-filtered p q ms)
  where
    go : (b : Bool) → list_any q (filter p ms) ≡ list_any (λ z. p z && q z) ms
        → list_any q (cond b (m ∷ filter p ms) (filter p ms)) ≡ ((b && q m) || list_any (λ z. p z && q z) ms)
    go true more = ap (λ b. q m || b) more
    go false more = more

-- the reply to its call
result-is : (m : MediumState) (c : SysId) (x : Prepared) (r : Reply) → reply_by m c (call_in x) ≡ Some r
    → result_of m c x ≡ replied r
result-is m c Nothing r h = absurd (cc)
result-is m c Quiet r h = absurd (cc)
result-is m c (Calls call) r h = ap replied (same_Some _ r h)

module _ (deck : Deck) (m : MediumState) (c : SysId) (n : NodeState) (p : StarPart) (star : n.star ≡ Some p)
    (target : SysId) (moved : List Moved) (inside : target.0 < length deck.systems) where
  abbrev taken_tasks : TasksView
  taken_tasks =
      (took_notice n.known (names_of deck n.tasks.system) (standing n.tasks p) (filter (is_item_of deck) moved)).tasks

  -- the notice is taken
  notice-tasks : (take_mail deck n.known n.tasks p (mails.Notice target moved)).tasks
      ≡ (took_notice n.known (names_of deck n.tasks.system) (standing n.tasks p) (filter (is_item_of deck) moved)).tasks
  unfolding took_mail
  notice-tasks =
      ap (λ b.
      let s : StarStep = cond b
      (fixing_nothing
      (took_notice n.known (names_of deck n.tasks.system) (standing n.tasks p) (filter (is_item_of deck) moved)))
      (fixing_none n.tasks p) in
      s.tasks)
      (lt-ltb target.0 (length deck.systems) inside)

  acts-tasks : (q : StarPart) → n.star ≡ Some q → (choice : Choice) (b : Result) (o : Turnout)
      → Acts deck m c n q choice b o → b ≡ replied (replies.Taken (mails.Notice target moved))
      → o.step.node.tasks ≡ taken_tasks
  acts-tasks q is choice b o (decided t a x asked to at same) e = absurd (cc)
  acts-tasks q is choice b o (began t a x asked nobody) e = absurd (cc)
  acts-tasks q is choice b o (sent t a x asked to at apart) e = absurd (cc)
  acts-tasks q is choice b o (took mail rest at) e =
      let same : mail ≡ mails.Notice target moved = cc in
      let part : q ≡ p = same_Some q p (sym is ∙ star) in
      ap (λ (z : Mail). (take_mail deck n.known n.tasks q z).tasks) same
      ∙ (ap (λ (r : StarPart). (take_mail deck n.known n.tasks r (mails.Notice target moved)).tasks) part
      ∙ notice-tasks)
  acts-tasks q is choice b o (settled r first) e = absurd (cc)
  acts-tasks q is choice b o (told i x first) e = absurd (cc)
  acts-tasks q is choice b o (parted i to owes unknown) e = absurd (cc)
  acts-tasks q is choice b o (left x flags free by) e = absurd (cc)

  came-tasks : (choice : Choice) (b : Result) (o : Turnout) → Came deck m c n choice b o
      → b ≡ replied (replies.Taken (mails.Notice target moved)) → o.step.node.tasks ≡ taken_tasks
  came-tasks choice b o (any.nothing k r silent flags) e = no_truth (is_silent b) silent (ap is_silent e)
  came-tasks choice b o (informed k) e = absurd (cc)
  came-tasks choice b o (went_on t may) e = absurd (cc)
  came-tasks choice b o (turn flags alone unclosed here) e = absurd (cc)
  came-tasks choice b o (last_turn flags alone shut here) e = absurd (cc)
  came-tasks choice b o (changed ring next seen) e = absurd (cc)
  came-tasks choice b o (already mode next) e = absurd (cc)
  came-tasks choice b o (removes_one gone ring next lives) e = absurd (cc)
  came-tasks choice b o (removes_star gone mode next lives) e = absurd (cc)
  came-tasks choice b o (no_such gone next out) e = absurd (cc)
  came-tasks choice b o (acted q is k r x acts) e = acts-tasks q is k r x acts e

-- the system after the event
pub node-after : (deck : Deck) (w : World) (e : Event) (n : NodeState) → slice_get w.nodes e.system.0 ≡ Some n
    → has w.medium.removed e.system.0 ≡ false
    → slice_get (happens deck w e).nodes e.system.0
    ≡ Some (chosen deck w.medium e.system n e.choice).step.node
unfolding happens happens_at placed
node-after deck w e n at alive =
    ap (λ o. slice_get (happens_at deck w e o).nodes e.system.0) at
    ∙ (ap (λ b.
    let v : World = cond b (counted w) (placed w e.system n (chosen deck w.medium e.system n e.choice)) in
    slice_get v.nodes e.system.0)
    alive
    ∙ slice_get-set w.nodes e.system.0 n (chosen deck w.medium e.system n e.choice).step.node at)

pub send_again : (deck : Deck) (es : List Event) (e : Event) → NoticesSendAgain deck es e
send_again deck es e n k p target moved t at star now answer inside here is_out =
    by_live (is_live (run deck es) e.system) refl
  where
    -- its call, as far as it makes one
    call :
        reply_by (run deck es).medium e.system
        (cond (is_live (run deck es) e.system) (call_in (prepare deck n e.choice)) None)
        ≡ Some (replies.Taken (mails.Notice target moved))
    call = sym (ap (λ o. reply_by (run deck es).medium e.system (call_at deck (run deck es) e o)) at) ∙ answer

    stands : Stands t (state_of n.tasks t).outstanding phases.Sent n.tasks
    stands = record { here = here; is = is_out; asks = refl }

    by_live : (b : Bool) → is_live (run deck es) e.system ≡ b
        → (state_of k.tasks t).phase
        ≡ cond (list_any (asks_again deck p (state_of n.tasks t).outstanding) moved) phases.ToSend phases.Sent
    by_live false away =
        absurd (let unmade = sym (ap (λ b.
        reply_by (run deck es).medium e.system (cond b (call_in (prepare deck n e.choice)) None)) away) ∙ call in cc)
    by_live true live =
        let alive : has (run deck es).medium.removed e.system.0 ≡ false =
        not-true _
        (and_parts (nat_lt e.system.0 (length (run deck es).nodes))
        (not (has (run deck es).medium.removed e.system.0)) live).1 in
        let result = result-is (run deck es).medium e.system (prepare deck n e.choice) _
        (sym (ap (λ b. reply_by (run deck es).medium e.system (cond b (call_in (prepare deck n e.choice)) None)) live)
        ∙ call) in
        let node : k ≡ (chosen deck (run deck es).medium e.system n e.choice).step.node =
        same_Some k _ (sym now ∙ node-after deck (run deck es) e n at alive) in
        let tasks = came-tasks deck (run deck es).medium e.system n p star target moved inside e.choice _ _
        (came deck (run deck es).medium e.system n alive e.choice) result in
        let after = notice-sent t (state_of n.tasks t).outstanding n.known (names_of deck n.tasks.system)
        (standing n.tasks p) (filter (is_item_of deck) moved) stands in
        ap (λ (z : NodeState). (state_of z.tasks t).phase) node
        ∙ (ap (λ (v : TasksView). (state_of v t).phase) tasks
        ∙ (after.is
        ∙ ap (λ b. cond b phases.ToSend phases.Sent)
        (any-filtered (is_item_of deck) (says t (state_of n.tasks t).outstanding p) moved)))
