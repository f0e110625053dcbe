-- Requests of a system that may be put into the message, and that are.
use Rattle.grs_world.proofs.Common.{[], ◌++◌, ◌-◌, ◌==◌, ◌∙◌, ◌∷◌, ◌≡◌, all-behind, all-middle, all_sent, and_parts, ap}
use Rattle.grs_world.proofs.Common.{append-nil, append_assoc, are_sent, arith, Asked, askers, Bool, cases_Bool, code_in}
use Rattle.grs_world.proofs.Common.{Deck, Deq, did-none, did-phase, drop, Enq, eqb-true, false, filter-append}
use Rattle.grs_world.proofs.Common.{filter-cons_kept, gives_up, goes_round, here-kept, here-other, history, is_home_at}
use Rattle.grs_world.proofs.Common.{is_leaving, is_of, is_some, IsAskedBy, IsAskedFor, IsGood, IsHere, IsHistory}
use Rattle.grs_world.proofs.Common.{IsLooks, IsLooksBy, IsOpenBy, IsOurs, IsReq, IsTask, known-all, line_asked}
use Rattle.grs_world.proofs.Common.{lines_of, List, list_all, Look, made_item, MayFollow, Meaning, mine, NodeState}
use Rattle.grs_world.proofs.Common.{None, none, one, Opens, Option, or_left, outstanding, Past, past_of, Phase}
use Rattle.grs_world.proofs.Common.{phase_seen, put_in, quiet_good, refl, Release, Req, rounds, RunItem, same_res}
use Rattle.grs_world.proofs.Common.{same_Some, same_task, same_task-exact, same_task-itself, Showing, Some, some_of}
use Rattle.grs_world.proofs.Common.{Speaks, speaks-known, stand_apart, state_of, subst, suc, sym, SysId, take}
use Rattle.grs_world.proofs.Common.{take-none, task-open, TaskId, TaskState, TasksView, true, unasked_by, Want}
use Rattle.grs_world.proofs.Common.{with_phase, zero, ℕ}
use Rattle.grs_known.proofs.system.Asking.{unasked, looks-asked}
use Rattle.grs_known.proofs.known.Histories.{stays-ask}
use Rattle.grs_known.proofs.known.Knows.{Knows, knows-behind, past-behind}
use Rattle.grs_legal.specs.Asks.{AsksEnq, AsksDeq, AsksRelease}
use Rattle.grs_known.proofs.known.Knowing.{one-none, outstanding-own}
use Rattle.grs_known.specs.Known.{falls_behind}
use Rattle.std.proofs.lemmas.List.{take-append-drop}
use Rattle.grs_known.proofs.known.Following.{is_full-known, may_follow, may_follow_looks}
use Rattle.grs_known.proofs.tasks.Asked.{next-asked}
use Rattle.grs_known.proofs.tasks.Steps.{next-ending}
use Rattle.grs_world.proofs.system.AtNode.{opens_of, Seen, mine-left, part-round, seen-more}
use Rattle.grs_known.proofs.system.Telling.{told-phase}
use Rattle.grs_legal.specs.declared.meaning.Meaning.TheVariants as lines
use Rattle.grs_wire.specs.declared.request.Fixed.TheVariants as fixing
use Rattle.task_state.specs.declared.state.Phase.TheVariants as phases

pub asked-middle : (t : TaskId) (o : Option Asked) (xs : List Req) (q : Req) (ys : List Req)
    → IsAskedBy t o (xs ++ q ∷ ys) → same_task t q.task ≡ true → IsReq q o
asked-middle t o [] q ys h e = h.0 e
asked-middle t o (x ∷ xs) q ys h e = asked-middle t o xs q ys h.1 e

all_sent-all : (t : TaskId) (qs : List Req) → are_sent t phases.Sent qs ≡ true
all_sent-all t [] = refl
all_sent-all t (q ∷ qs) = grind (arith, all_sent-all t qs, cases_Bool (same_task t q.task))

sent-push : (u : TaskId) (p : Phase) (qs : List Req) (q : Req) → same_task u q.task ≡ false → are_sent u p qs ≡ true
    → are_sent u p (qs ++ q ∷ []) ≡ true
sent-push u p [] q apart h = grind (arith, apart)
sent-push u p (x ∷ qs) q apart h = grind (arith, h, sent-push u p qs q apart)

-- a task of the deck and of the system
pub home-task : (deck : Deck) (s : ℕ) (os : Opens) (P : List RunItem) (v : TasksView) (t : TaskId)
    → IsGood deck s os P v → is_home_at deck s t ≡ true → (ls : List Meaning) × IsOurs deck s v t ls
home-task deck s os P v t good home =
    let both = and_parts (t.system.0 == s) (is_some (lines_of deck t)) home in
    let some = some_of (lines_of deck t) both.1 in
    (some.0, record { lines = some.1; home = eqb-true t.system.0 s both.0; here = good.here t home })

-- the first request that waits is put in
put_one : (deck : Deck) (s : ℕ) (P later : List RunItem) (out : List Req) (q : Req) (box : List Req) (v : TasksView)
    → IsGood deck s (record { later = later; out = out; all = out ++ q ∷ box }) P v → is_home_at deck s q.task ≡ true →
    IsGood deck s (record { later = later; out = out ++ q ∷ []; all = out ++ q ∷ box }) P
    (with_phase v q.task phases.Sent)
put_one deck s P later out q box v good home =
    let mine = home-task deck s (record { later = later; out = out; all = out ++ q ∷ box }) P v q.task good home in
    let k = good.tasks.each q.task mine.0 mine.1 in
    let x : TaskState = state_of v q.task in
    let did = did-phase v v q.task x v.told mine.1.here (did-none v q.task) phases.Sent in
    (quiet_good deck s (record { later = later; out = out; all = out ++ q ∷ box })
    (record { later = later; out = out ++ q ∷ []; all = out ++ q ∷ box }) P v good q.task mine.0 mine.1
    (with_phase v q.task phases.Sent) _ v.told did
    (record {
      known = k.known;
      knows = k.knows;
      due = k.due;
      task =
          by_task x mine.0 (past_of q.task k.known P) x.outstanding
          (asked-middle q.task x.outstanding out q box k.asked (same_task-itself q.task)) k.task;
      opened =
          by_opened x mine.0 x.outstanding
          (asked-middle q.task x.outstanding out q box k.asked (same_task-itself q.task)) k.opened;
      looks = k.looks;
      asked = k.asked;
      sent = all_sent-all q.task (out ++ q ∷ []);
    })
    (λ u o apart a. a) (λ u ph apart a. sent-push u ph out q apart a) refl (λ u ms apart p leaving y j. j) none).good
  where
    by_task : (x : TaskState) (ls : List Meaning) (p : Past) (o : Option Asked) → IsReq q o
        → IsTask ls p v.told (λ r. is_leaving r o) q.task (unasked_by o x) →
        IsTask ls p v.told (λ r. is_leaving r o) q.task
        (unasked_by o (record x { phase = phases.Sent; code = code_in phases.Sent x.code }))
    by_task x ls p None is j = absurd is
    by_task x ls p (Some a) is j = j

    by_opened : (x : TaskState) (ls : List Meaning) (o : Option Asked) → IsReq q o → IsOpenBy deck.limit ls q.task x o
        → IsOpenBy deck.limit ls q.task (record x { phase = phases.Sent; code = code_in phases.Sent x.code }) o
    by_opened x ls None is j = absurd is
    by_opened x ls (Some a) is j = (j.0, refl, j.2)

-- the first requests that wait are put in
put_all : (deck : Deck) (s : ℕ) (P later : List RunItem) (k : ℕ) (out box : List Req) (v : TasksView)
    → IsGood deck s (record { later = later; out = out; all = out ++ box }) P v
    → list_all (λ q. is_home_at deck s q.task) box ≡ true →
    IsGood deck s (record { later = later; out = out ++ take k box; all = out ++ box }) P (all_sent v (take k box))
unfolding all_sent
put_all deck s P later zero out box v good homes =
    subst (λ qs. IsGood deck s (record { later = later; out = out ++ qs; all = out ++ box }) P (all_sent v qs))
    (sym (take-none box))
    (subst (λ qs. IsGood deck s (record { later = later; out = qs; all = out ++ box }) P v) (sym (append-nil out)) good)
put_all deck s P later (suc k) out [] v good homes =
    subst (λ qs. IsGood deck s (record { later = later; out = qs; all = out ++ [] }) P v) (sym (append-nil out)) good
put_all deck s P later (suc k) out (q ∷ box) v good homes =
    let both = and_parts (is_home_at deck s q.task) (list_all (λ z. is_home_at deck s z.task) box) homes in
    let one = put_one deck s P later out q box v good both.0 in
    let more =
    put_all deck s P later k (out ++ q ∷ []) box (with_phase v q.task phases.Sent)
    (subst (λ qs.
    IsGood deck s (record { later = later; out = out ++ q ∷ []; all = qs }) P (with_phase v q.task phases.Sent))
    (sym (append_assoc out (q ∷ []) box)) one)
    both.1 in
    subst (λ qs.
    IsGood deck s (record { later = later; out = out ++ q ∷ take k box; all = qs }) P
    (all_sent (with_phase v q.task phases.Sent) (take k box)))
    (append_assoc out (q ∷ []) box)
    (subst (λ qs.
    IsGood deck s (record { later = later; out = qs; all = (out ++ q ∷ []) ++ box }) P
    (all_sent (with_phase v q.task phases.Sent) (take k box)))
    (append_assoc out (q ∷ []) (take k box)) more)

all_sent-told : (v : TasksView) (qs : List Req) → (all_sent v qs).told ≡ v.told
unfolding all_sent
all_sent-told v [] = refl
all_sent-told v (q ∷ qs) = all_sent-told (with_phase v q.task phases.Sent) qs ∙ told-phase v q.task phases.Sent

pub put_told : (n : NodeState) (k : ℕ) → (put_in n k).node.tasks.told ≡ n.tasks.told
unfolding put_in
put_told n k = all_sent-told n.tasks (take k n.outbox)

pub put : (deck : Deck) (s : ℕ) (P before later : List RunItem) (out : List Req) (n : NodeState) (k : ℕ)
    → Seen deck s P before later out n → Seen deck s P before later (out ++ take k n.outbox) (put_in n k).node
unfolding put_in
put deck s P before later out n k seen =
    let same : (out ++ take k n.outbox) ++ drop k n.outbox ≡ out ++ n.outbox =
    append_assoc out (take k n.outbox) (drop k n.outbox) ∙ ap (λ qs. out ++ qs) (take-append-drop k n.outbox) in
    record {
      good =
          subst (λ qs.
          IsGood deck s (record { later = later; out = out ++ take k n.outbox; all = qs }) P
          (all_sent n.tasks (take k n.outbox)))
          (sym same)
          (put_all deck s P later k out n.outbox n.tasks seen.good
          (all-behind (λ q. is_home_at deck s q.task) out n.outbox seen.homes));
      own = seen.own;
      shared = seen.shared;
      homes = ap (list_all (λ q. is_home_at deck s q.task)) same ∙ seen.homes;
      apart = ap (λ qs. stand_apart (askers qs)) same ∙ seen.apart;
    }

-- ---- a request that waits is fixed
-- it goes with the message, and may follow
pub record MayPut (deck : Deck) (P : List RunItem) (q : Req) : Type 0 where
  pub round : goes_round (fixing.Asked q) ≡ true
  pub follow : (c : SysId) → MayFollow deck P (made_item c P (fixing.Asked q))

module _ (deck : Deck) (s : ℕ) (P before later : List RunItem) (out : List Req) (n : NodeState)
    (seen : Seen deck s P before later out n) (box0 : List Req) (q : Req) (box1 : List Req)
    (among : n.outbox ≡ box0 ++ q ∷ box1) where
  abbrev t : TaskId
  t = q.task

  all_is : out ++ n.outbox ≡ (out ++ box0) ++ q ∷ box1
  all_is = ap (λ qs. out ++ qs) among ∙ sym (append_assoc out box0 (q ∷ box1))

  home : is_home_at deck s q.task ≡ true
  home =
      all-middle (λ z. is_home_at deck s z.task) (out ++ box0) q box1
      (sym (ap (list_all (λ z. is_home_at deck s z.task)) all_is) ∙ seen.homes)

  task_is : (ls : List Meaning) × IsOurs deck s n.tasks q.task ls
  task_is = home-task deck s (opens_of later out n) P n.tasks q.task seen.good home

  pub may_home : q.task.system.0 ≡ s
  may_home = task_is.1.home

  module _ (right : IsHistory deck P) (idle : mine q.task later ≡ []) where
    abbrev ls : List Meaning
    ls = task_is.0

    here : IsHere deck (opens_of later out n) P n.tasks.told t ls (state_of n.tasks t)
    here = seen.good.tasks.each t ls task_is.1

    abbrev p : Past
    p = past_of t here.known P

    none_open : outstanding t here.known P ≡ None
    none_open = one-none (outstanding t here.known P) (sym idle ∙ here.due)

    speaks : Speaks deck.limit t p (history P)
    speaks = speaks-known deck P t here.known right here.knows.live here.knows.right none_open

    is_asked : IsReq q (state_of n.tasks q.task).outstanding
    is_asked =
        asked-middle q.task _ (out ++ box0) q box1
        (subst (λ qs. IsAskedBy q.task (state_of n.tasks q.task).outstanding qs) all_is here.asked)
        (same_task-itself q.task)

    -- what its task asks next
    by_want : (w : Want) (unit : Option ℕ) (showing : Option Showing) →
        IsTask ls p n.tasks.told (λ r. gives_up r w) t (record (state_of n.tasks t) {
          line = line_asked w (state_of n.tasks t).line;
          phase = phase_seen w (state_of n.tasks t).code;
          outstanding = None;
        })
        →
        IsAskedFor deck.limit ls (state_of n.tasks t).line (state_of n.tasks t).records w unit
        → IsLooksBy ls p.asked (state_of n.tasks t).line w showing → MayPut deck P (record { task = t; want = w })
    by_want (Enq r c ret full) unit showing k a l =
        let x : TaskState = state_of n.tasks t in
        record {
          round = a.2;
          follow = λ by.
              may_follow deck P right t p speaks ls task_is.1.lines here.knows.live by (Enq r c ret full) r refl
              (or_left _ _ a.2) (a.3 ∙ is_full-known deck P right t p speaks x.records k.keys) (AsksEnq r c ret) refl
              (next-asked ls p n.tasks.told (λ q. false) t (x.line - 1) x.code x.records None x.rows
              (lines.Enq r c ret unit) (AsksEnq r c ret) (record { before = k; at = a.1; asks = refl }));
        }
    by_want (Deq r have) unit showing k a l =
        let x : TaskState = state_of n.tasks t in
        record {
          round = a.2;
          follow = λ by.
              may_follow deck P right t p speaks ls task_is.1.lines here.knows.live by (Deq r have) r refl
              (or_left _ _ a.2) tt (AsksDeq r have) refl
              (next-asked ls p n.tasks.told (λ q. same_res q r) t (x.line - 1) x.code x.records None x.rows
              (lines.Deq r have) (AsksDeq r have) (record { before = k; at = a.1; asks = refl }));
        }
    by_want (Release r) unit showing k a l =
        let x : TaskState = state_of n.tasks t in
        record {
          round = a.1;
          follow = λ by.
              may_follow deck P right t p speaks ls task_is.1.lines here.knows.live by (Release r) r refl
              (or_left _ _ a.1) tt (AsksRelease r) refl
              (next-ending ls p n.tasks.told (λ q. same_res q r) t x.line x.code x.code x.records None x.rows k r a.0);
        }
    by_want (Look first count f) unit showing k a l =
        let x : TaskState = state_of n.tasks t in
        record {
          round = refl;
          follow = λ by.
              may_follow_looks deck P right t p speaks ls task_is.1.lines here.knows.live by first count f
              (looks-asked ls p n.tasks.told (λ q. false) t x.line x.code x.records None x.rows k first count f showing
              l);
        }

    pub may_put : MayPut deck P q
    may_put = by_open (state_of n.tasks q.task).outstanding refl is_asked
      where
        by_open : (o : Option Asked) → (state_of n.tasks q.task).outstanding ≡ o
            → IsReq q (state_of n.tasks q.task).outstanding → MayPut deck P q
        by_open None f is = absurd (subst (IsReq q) f is)
        by_open (Some a) f is =
            let x : TaskState = state_of n.tasks q.task in
            let rq : a.req ≡ q = subst (IsReq q) f is in
            let opened : IsOpenBy deck.limit ls q.task x (Some a) =
            subst (λ o. IsOpenBy deck.limit ls q.task x o) f here.opened in
            let asked_for : IsAskedFor deck.limit ls x.line x.records q.want a.unit =
            subst (λ (z : Req). IsAskedFor deck.limit ls x.line x.records z.want a.unit) rq opened.2 in
            let task1 =
            subst (λ o. IsTask ls p n.tasks.told (λ r. is_leaving r o) q.task (unasked_by o x)) f here.task in
            let task2 =
            subst (λ (z : Req).
            IsTask ls p n.tasks.told (λ r. gives_up r z.want) q.task
            (record x { line = line_asked z.want x.line; phase = phase_seen z.want x.code }))
            rq task1 in
            by_want q.want a.unit a.showing (task-open ls p n.tasks.told _ q.task _ None task2) asked_for
            (subst (λ (z : Req). IsLooksBy ls p.asked x.line z.want a.showing) rq
            (subst (IsLooks ls p.asked x.line) f here.looks))

    -- its task is behind now, and the system has still to process it
    module _ (c : SysId) (m : MayFollow deck P (made_item c P (fixing.Asked q)))
        (round : goes_round (fixing.Asked q) ≡ true) where
      abbrev x : RunItem
      x = made_item c P (fixing.Asked q)

      now : here.known.behind ≡ false
      now = known-all P t here.known here.knows.right none_open

      own : is_of q.task (fixing.Asked q) ≡ true
      own = same_task-itself q.task

      behind :
          IsHere deck (opens_of (later ++ rounds (x ∷ [])) out n) (P ++ x ∷ []) n.tasks.told t ls (state_of n.tasks t)
      behind = record {
        known = falls_behind here.known;
        knows = by_open (state_of n.tasks q.task).outstanding is_asked;
        due =
            ap (λ zs. mine t (later ++ zs)) (filter-cons_kept (λ z. goes_round z.fixed) x [] round)
            ∙ filter-append (λ z. is_of t z.fixed) later (x ∷ [])
            ∙ ap (λ zs. zs ++ mine t (x ∷ [])) idle
            ∙ filter-cons_kept (λ z. is_of t z.fixed) x [] own ∙ ap one (sym (outstanding-own t P x own here.known));
        task =
            subst (λ z.
            IsTask ls z n.tasks.told (λ r. is_leaving r (state_of n.tasks t).outstanding) t
            (unasked (state_of n.tasks t)))
            (sym (past-behind P x t here.known own now)) here.task;
        opened = here.opened;
        looks =
            subst (λ (z : Past). IsLooks ls z.asked (state_of n.tasks t).line (state_of n.tasks t).outstanding)
            (sym (past-behind P x t here.known own now)) here.looks;
        asked = here.asked;
        sent = here.sent;
      }
        where
          by_open : (o : Option Asked) → IsReq q o → Knows (P ++ x ∷ []) t o (falls_behind here.known)
          by_open None is = absurd is
          by_open (Some a) is =
              knows-behind P x t here.known own now a (ap fixing.Asked (sym is)) m.made here.knows.live here.knows.right

      pub seen-put : Seen deck s (P ++ x ∷ []) before (later ++ rounds (x ∷ [])) out n
      seen-put =
          seen-more deck s P before later out n x seen (part-round deck s P x m.ask round)
          (record { each = λ u ms o. go u ms o (same_task u t) refl })
        where
          go : (u : TaskId) (ms : List Meaning) → IsOurs deck s n.tasks u ms → (b : Bool) → same_task u t ≡ b
              → IsHere deck (opens_of (later ++ rounds (x ∷ [])) out n) (P ++ x ∷ []) n.tasks.told u ms
              (state_of n.tasks u)
          go u ms o false apart =
              here-kept deck (opens_of later out n) (opens_of (later ++ rounds (x ∷ [])) out n) (P ++ x ∷ [])
              n.tasks.told n.tasks.told u ms _ (mine-left u later x apart) (λ k. k) (λ k. k) (λ p leaving y j. j)
              (here-other deck (opens_of later out n) P x n.tasks.told u ms _ apart (stays-ask deck u x m.ask)
              (seen.good.tasks.each u ms o))
          go u ms o true same =
              let e : t ≡ u = sym (same_task-exact u t same) in
              let l : ls ≡ ms = same_Some ls ms (sym task_is.1.lines ∙ ap (lines_of deck) e ∙ o.lines) in
              subst (λ z.
              IsHere deck (opens_of (later ++ rounds (x ∷ [])) out n) (P ++ x ∷ []) n.tasks.told z ms
              (state_of n.tasks z))
              e (subst (λ z.
              IsHere deck (opens_of (later ++ rounds (x ∷ [])) out n) (P ++ x ∷ []) n.tasks.told t z
              (state_of n.tasks t))
              l behind)
