-- A task of a system that has nothing outstanding, by itself: what is known of it, and what is so of it and of the
-- system once its request was decided by the system's own lists, waits to be sent, or once it changed alone.
use Rattle.grs_world.proofs.Common.{[], ◌++◌, ◌+◌, ◌∙◌, ◌∷◌, ◌≡◌, among-front, and_parts, Answer, answer_to, ap}
use Rattle.grs_world.proofs.Common.{append_assoc, arith, Asked, askers, Bool, cases_Bool, cond, decide, Deck, Did}
use Rattle.grs_world.proofs.Common.{did-line, did-none, did-outstanding, did-phase, entries_for, false, follows}
use Rattle.grs_world.proofs.Common.{here-kept, here-other, HistEntry, history, is_among, is_home_at, is_leaving}
use Rattle.grs_world.proofs.Common.{is_res_of, is_some, IsAskedBy, IsAskedFor, IsGood, IsHere, IsHistory, IsLooks}
use Rattle.grs_world.proofs.Common.{IsLooksBy, IsOpenBy, IsOurs, IsOutstanding, IsReq, IsTask, known-all, line_asked}
use Rattle.grs_world.proofs.Common.{List, list_all, list_of, lists, made_item, MayFollow, Meaning, new_owners}
use Rattle.grs_world.proofs.Common.{NodeState, None, none, one, only, Opens, Option, outstanding, owns, owns-may, Past}
use Rattle.grs_world.proofs.Common.{past_of, phase_seen, post, quiet_good, refl, replied, Req, Res, res_wanted, RunItem}
use Rattle.grs_world.proofs.Common.{same_task, same_task-itself, Showing, Some, Speaks, speaks-known, stand_apart}
use Rattle.grs_world.proofs.Common.{state_of, StaysGood, subst, suc, sym, SysId, task-open, TaskId, TaskState}
use Rattle.grs_world.proofs.Common.{TasksView, tell_new, ToldBy, ToldLine, true, Want, with_line, with_outstanding}
use Rattle.grs_world.proofs.Common.{with_phase, with_tasks, ℕ}
use Rattle.grs_known.proofs.system.Askers.{apart-push}
use Rattle.grs_known.proofs.known.Histories.{live-push, wants-round}
use Rattle.grs_known.proofs.system.Good.{Untold, ours-home}
use Rattle.grs_known.proofs.lists.Parts.{own-one_system, answer_to-part}
use Rattle.grs_known.proofs.system.Asking.{unasked, IsAtLines, asked-absent, asked-none, sent-absent, stays-open}
use Rattle.grs_known.proofs.known.Knows.{knows-closed, owns-still, entry-decided}
use Rattle.grs_known.proofs.system.Turns.{state-is, plain-task}
use Rattle.grs_known.proofs.system.Events.{Decides, task-closed}
use Rattle.grs_known.proofs.ring.Reading.{owner-behind}
use Rattle.grs_known.proofs.lists.Facts.{all-more}
use Rattle.grs_known.proofs.tasks.Others.{task-leaving}
use Rattle.grs_world.proofs.system.AtNode.{opens_of, Seen, own_ask, QuietStep, keeps, fixes, part-same}
use Rattle.grs_world.proofs.system.Meant.{is_own}
use Rattle.grs_wire.specs.declared.request.Fixed.TheVariants as fixing
use Rattle.task_state.specs.declared.state.Phase.TheVariants as phases

asked-push_own : (t : TaskId) (o : Option Asked) (qs : List Req) (q : Req) → is_among t (askers qs) ≡ false → IsReq q o
    → IsAskedBy t o (qs ++ q ∷ [])
asked-push_own t o [] q h is = (λ e. is, tt)
asked-push_own t o (x ∷ qs) q h is = (
  λ e. absurd (grind (arith, h, e)),
  asked-push_own t o qs q (grind (arith, h, cases_Bool (same_task t x.task))) is,
)

asked-push_other : (u : TaskId) (o : Option Asked) (qs : List Req) (q : Req) → same_task u q.task ≡ false
    → IsAskedBy u o qs → IsAskedBy u o (qs ++ q ∷ [])
asked-push_other u o [] q apart h = (λ e. absurd (let f : false ≡ true = sym apart ∙ e in cc), tt)
asked-push_other u o (x ∷ qs) q apart h = (h.0, asked-push_other u o qs q apart h.1)

-- the task, with nothing outstanding
pub record IsFree (deck : Deck) (s : ℕ) (c : SysId) (P before later : List RunItem) (out : List Req) (n : NodeState)
    (t : TaskId) (ls : List Meaning) : Type 0 where
  pub right : IsHistory deck P
  pub seen : Seen deck s P before later out n
  pub ours : IsOurs deck s n.tasks t ls
  pub closed : (state_of n.tasks t).outstanding ≡ None

module _ {deck : Deck} {s : ℕ} {c : SysId} {P before later : List RunItem} {out : List Req} {n : NodeState} {t : TaskId}
    {ls : List Meaning} (me : IsFree deck s c P before later out n t ls) where
  open me use {right, seen, ours, closed}

  abbrev pub os : Opens
  os = opens_of later out n

  -- a step that changes the tasks alone, and fixes nothing
  by_tasks : (v : TasksView) → StaysGood deck s os P n.tasks.told v
      → QuietStep deck s c P before later out n (only (with_tasks n v))
  by_tasks v z =
      keeps refl (record {
        good = z.good;
        own = seen.own;
        shared = seen.shared;
        homes = seen.homes;
        apart = seen.apart;
      })
      z.told

  pub here : IsHere deck os P n.tasks.told t ls (state_of n.tasks t)
  here = seen.good.tasks.each t ls ours

  -- its past, which is that of the history
  abbrev pub p : Past
  p = past_of t here.known P

  pub none_open : outstanding t here.known P ≡ None
  none_open = knows-closed P t (state_of n.tasks t).outstanding here.known closed here.knows

  pub speaks : Speaks deck.limit t p (history P)
  speaks = speaks-known deck P t here.known right here.knows.live here.knows.right none_open

  unasked_here : IsAskedBy t None (out ++ n.outbox)
  unasked_here = subst (λ o. IsAskedBy t o (out ++ n.outbox)) closed here.asked

  pub free : is_among t (askers (out ++ n.outbox)) ≡ false
  free = asked-none t (out ++ n.outbox) unasked_here

  pub free_out : is_among t (askers out) ≡ false
  free_out = among-front t out n.outbox free

  -- a request that the system decides by the lists of its own resources
  module _ (w : Want) (r : Res) (wanted : res_wanted w ≡ Some r) (own : is_res_of s r ≡ true) (h : HistEntry)
      (entry : entries_for (lists P) t w ≡ h ∷ []) where
    abbrev q : Req
    q = record { task = t; want = w }

    abbrev x : RunItem
    x = made_item c P (fixing.Asked q)

    decides : MayFollow deck P x → Decides deck os os P (P ++ x ∷ []) t p h r (new_owners n.own t w)
    decides m = record {
      right = follows deck P x right m;
      learns =
          entry-decided deck P x t here.known h (follows deck P x right m) (same_task-itself t) refl
          (live-push t P x here.knows.live refl) here.knows.right
          (known-all P t here.known here.knows.right none_open) entry;
      due = here.due ∙ ap one none_open;
      leaves = λ u ls T T' y apart told k.
          here-kept deck os os (P ++ x ∷ []) T T' u ls y refl (λ a. a) (λ a. a) told
          (here-other deck os P x T u ls y apart refl k);
      away = free;
      away_out = free_out;
      owners = λ u e.
          let owned : owns (list_of (lists (P ++ x ∷ [])) r) u ≡ true =
          owner-behind (is_res_of s) P x q r u refl wanted own
          (ap (λ z. is_among u (new_owners z t w)) (sym seen.own) ∙ e) in
          let all : IsHistory deck (P ++ x ∷ []) = follows deck P x right m in (
            (and_parts _ _ (owns-may deck (P ++ x ∷ []) r u all.asks owned)).0,
            λ T ls y k.
                owns-still r u (P ++ x ∷ []) _
                (stays-open deck.limit ls u y r _ k.opened k.knows.request (own-one_system s r own)) owned,
          );
    }

    -- the code that the entry tells
    pub decided : (v0 : TasksView) (unit : Option ℕ) (answer : Answer) → answer_to (lists P) t w ≡ answer
        → (m : MayFollow deck P x) →
        (Decides deck os os P (P ++ x ∷ []) t p h r (new_owners n.own t w)
        → StaysGood deck s os (P ++ x ∷ []) n.tasks.told
        (tell_new (replied v0 t w unit answer) (Some r) (new_owners n.own t w)))
        →
        QuietStep deck s c P before later out n (decide (with_tasks n v0) t w unit)
    unfolding decide
    decided v0 unit answer told_is m done =
        let z = done (decides m) in
        let tasks : tell_new (replied v0 t w unit (answer_to n.own t w)) (res_wanted w) (new_owners n.own t w)
        ≡ tell_new (replied v0 t w unit answer) (Some r) (new_owners n.own t w) =
        ap (λ y. tell_new (replied v0 t w unit y) (res_wanted w) (new_owners n.own t w))
        (ap (λ y. answer_to y t w) seen.own ∙ answer_to-part (is_res_of s) (lists P) t w r wanted own ∙ told_is)
        ∙ ap (λ y. tell_new (replied v0 t w unit answer) y (new_owners n.own t w)) wanted in
        fixes (fixing.Asked q) refl (wants-round w r wanted ∙ own-one_system s r own) (own_ask q ours.home m)
        (record {
          good = subst (λ v. IsGood deck s os (P ++ x ∷ []) v) (sym tasks) z.good;
          own = part-same (is_res_of s) P x q r refl wanted n.own seen.own own;
          shared = seen.shared;
          homes = seen.homes;
          apart = seen.apart;
        })
        (subst (λ (v : TasksView). ToldBy deck s (out ++ n.outbox) (history (P ++ x ∷ [])) n.tasks.told v.told)
        (sym tasks) z.told)

  -- what waits then to be put into the message, if a request more does; in star mode none does
  abbrev pub box : Bool → Want → List Req
  box star w = cond star n.outbox (n.outbox ++ record { task = t; want = w } ∷ [])

  abbrev pub os_with : Bool → Want → Opens
  os_with star w = record { later = later; out = out; all = out ++ box star w }

  pushed : (w : Want) → (out ++ n.outbox) ++ record { task = t; want = w } ∷ [] ≡ out ++ box false w
  pushed w = append_assoc out n.outbox (record { task = t; want = w } ∷ [])

  pub box-asked : (star : Bool) (w : Want) (unit : Option ℕ) (showing : Option Showing)
      → IsAskedBy t (Some (record { req = record { task = t; want = w }; unit = unit; showing = showing }))
      (out ++ box star w)
  box-asked true w unit showing =
      let a : Asked = record { req = record { task = t; want = w }; unit = unit; showing = showing } in
      asked-absent t (Some a) (out ++ n.outbox) free
  box-asked false w unit showing =
      let a : Asked = record { req = record { task = t; want = w }; unit = unit; showing = showing } in
      subst (λ qs. IsAskedBy t (Some a) qs) (pushed w) (asked-push_own t (Some a) (out ++ n.outbox) a.req free refl)

  pub box-others : (star : Bool) (w : Want) (u : TaskId) (o : Option Asked) → same_task u t ≡ false
      → IsAskedBy u o (out ++ n.outbox) → IsAskedBy u o (out ++ box star w)
  box-others true w u o apart j = j
  box-others false w u o apart j =
      subst (λ qs. IsAskedBy u o qs) (pushed w)
      (asked-push_other u o (out ++ n.outbox) (record { task = t; want = w }) apart j)

  pub box-homes : (star : Bool) (w : Want) → list_all (λ y. is_home_at deck s y.task) (out ++ box star w) ≡ true
  box-homes true w = seen.homes
  box-homes false w =
      ap (list_all (λ y. is_home_at deck s y.task)) (sym (pushed w))
      ∙ all-more (λ (y : Req). is_home_at deck s y.task) (out ++ n.outbox) (record { task = t; want = w }) seen.homes
      (ours-home deck s n.tasks t ls ours)

  pub box-apart : (star : Bool) (w : Want) → stand_apart (askers (out ++ box star w)) ≡ true
  box-apart true w = seen.apart
  box-apart false w =
      ap (λ qs. stand_apart (askers qs)) (sym (pushed w))
      ∙ apart-push (out ++ n.outbox) (record { task = t; want = w }) seen.apart free

  -- a request that waits to be put into the message, or to be sent
  pub posted : (v1 : TasksView) (w : Want) (unit : Option ℕ) (x : TaskState) → Did n.tasks v1 t x n.tasks.told →
      IsTask ls p n.tasks.told (λ q. false) t (record x { line = line_asked w x.line; phase = phase_seen w x.code })
      →
      IsAskedFor deck.limit ls x.line x.records w unit → IsLooksBy ls p.asked x.line w None
      → QuietStep deck s c P before later out n (post (with_tasks n v1) t w unit)
  unfolding post
  posted v1 w unit x did k asked looks = go (is_some n.star)
    where
      a : Asked
      a = record { req = record { task = t; want = w }; unit = unit; showing = None }

      z : TaskState
      z = record x { phase = phases.ToSend; outstanding = Some a }

      v2 : TasksView
      v2 = with_outstanding (with_phase v1 t phases.ToSend) t (Some a)

      task : IsTask ls p n.tasks.told (λ r. is_leaving r (Some a)) t (unasked z)
      task =
          task-leaving ls p n.tasks.told (λ r. is_leaving r (Some a)) t (unasked z)
          (task-open ls p n.tasks.told (λ q. false) t
          (record x { line = line_asked w x.line; phase = phase_seen w x.code }) (Some a) k)

      did2 : Did n.tasks v2 t z n.tasks.told
      did2 =
          did-outstanding n.tasks (with_phase v1 t phases.ToSend) t _ n.tasks.told ours.here
          (did-phase n.tasks v1 t x n.tasks.told ours.here did phases.ToSend) (Some a)

      go : (star : Bool)
          → QuietStep deck s c P before later out n (only (record n { tasks = v2; outbox = box star w }))
      go b =
          let done =
          quiet_good deck s os (os_with b w) P n.tasks seen.good t ls ours v2 z n.tasks.told did2
          (record {
            known = here.known;
            knows = record {
              right = here.knows.right;
              request = subst (IsOutstanding (Some a)) (sym none_open) tt;
              live = here.knows.live;
            };
            due = here.due;
            task = task;
            opened = (refl, refl, asked);
            looks = looks;
            asked = box-asked b w unit None;
            sent = sent-absent t phases.ToSend out free_out;
          })
          (λ u o apart j. box-others b w u o apart j) (λ u ph apart j. j) refl (λ u ms apart q leaving y j. j) none in
          keeps refl
          (record {
            good = done.good;
            own = seen.own;
            shared = seen.shared;
            homes = box-homes b w;
            apart = box-apart b w;
          })
          done.told

  -- what makes the task one of ours after a step that leaves its open requests
  still_here : (T : List ToldLine) (x : TaskState) → x.outstanding ≡ None → IsAtLines x.phase x.code
      → IsTask ls p T (λ q. false) t x → IsHere deck os P T t ls x
  still_here T x o at k = record {
    known = here.known;
    knows = record {
      right = here.knows.right;
      request = subst (IsOutstanding x.outstanding) (sym none_open) tt;
      live = here.knows.live;
    };
    due = here.due;
    task = task-closed ls p T t x o k;
    opened = subst (λ z. IsOpenBy deck.limit ls t x z) (sym o) at;
    looks = subst (λ z. IsLooks ls p.asked x.line z) (sym o) tt;
    asked = subst (λ z. IsAskedBy t z (out ++ n.outbox)) (sym o) unasked_here;
    sent = sent-absent t x.phase out free_out;
  }

  -- a step that changes the task alone, and tells no more than lines to it
  pub by_task : (v : TasksView) (x : TaskState) (T : List ToldLine) → Did n.tasks v t x T → x.outstanding ≡ None
      → IsAtLines x.phase x.code → IsTask ls p T (λ q. false) t x →
      ((u : TaskId) (ms : List Meaning) → same_task u t ≡ false → Untold n.tasks.told T u ms) →
      ToldBy deck s (out ++ n.outbox) (history P) n.tasks.told T
      → QuietStep deck s c P before later out n (only (with_tasks n v))
  by_task v x T did o at k told agreed =
      by_tasks v (quiet_good deck s os os P n.tasks seen.good t ls ours v x T did (still_here T x o at k)
      (λ u z apart j. j) (λ u ph apart j. j) refl told agreed)

  pub place : (r : Res) → is_own s r ≡ true → is_own t.system.0 r ≡ true
  place r h = subst (λ z. is_own z r ≡ true) (sym ours.home) h

  pub own-of : (r : Res) → is_own t.system.0 r ≡ true → is_own s r ≡ true
  own-of r h = subst (λ z. is_own z r ≡ true) ours.home h

  module _ (ready : (state_of n.tasks t).phase ≡ phases.Ready) where
    pub is_ready :
        IsTask ls p n.tasks.told (λ q. false) t
        (record (state_of n.tasks t) { phase = phases.Ready; outstanding = None })
    is_ready = plain-task ls p n.tasks.told t (state_of n.tasks t) phases.Ready ready closed here.task

    pub begun :
        Did n.tasks n.tasks t (record (state_of n.tasks t) { phase = phases.Ready; outstanding = None }) n.tasks.told
    begun =
        subst (λ y. Did n.tasks n.tasks t y n.tasks.told) (state-is (state_of n.tasks t) phases.Ready ready closed)
        (did-none n.tasks t)

    -- the task with its next line taken
    pub taken :
        Did n.tasks (with_line n.tasks t) t
        (record (state_of n.tasks t) { line = suc (state_of n.tasks t).line; phase = phases.Ready; outstanding = None })
        n.tasks.told
    taken =
        did-line n.tasks n.tasks t (record (state_of n.tasks t) { phase = phases.Ready; outstanding = None })
        n.tasks.told ours.here begun
