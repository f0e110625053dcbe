-- Which elements of a system's tasks are on record: all but the one whose item is still to come, which is of an entry
-- that another system manages.
use Rattle.grs_world.proofs.Common.{[], ◌∙◌, ◌∷◌, ◌≡◌, Answer, answer_to, Answered, ap, Asked, askers, blank, Bool}
use Rattle.grs_world.proofs.Common.{cond, Deck, entries_for, entry_of_res, entry_wanted, false, has_res, has_task, inl}
use Rattle.grs_world.proofs.Common.{inr, is_among, is_distinct, is_home_at, is_look, is_sent, IsHistory, IsOpenBy}
use Rattle.grs_world.proofs.Common.{IsOutstanding, last_of, List, list_all, list_of, lists, Mail, map, mine, no_truth}
use Rattle.grs_world.proofs.Common.{NodeState, None, one, Option, outstanding, past_of, refl, replies_are_answers}
use Rattle.grs_world.proofs.Common.{reply_in, Req, Res, res_wanted, RunItem, same_Some, same_task-itself, Some}
use Rattle.grs_world.proofs.Common.{speaks-known, State, state_of, subst, sym, TaskId, true, ℕ}
use Rattle.grs_known.proofs.known.Blank.{no-answer}
use Rattle.grs_known.proofs.tasks.Invariant.{key}
use Rattle.grs_known.proofs.system.Asking.{records-unasked}
use Rattle.std.specs.Prelude.{◌⊎◌}
use Rattle.grs_known.proofs.known.Following.{has-known}
use Rattle.grs_known.proofs.system.Busy.{busy-behind, busy-idle, busy-looks}
use Rattle.grs_known.proofs.tasks.Keys.{has_res-own}
use Rattle.grs_world.proofs.star.Ghosts.{ghosted}
use Rattle.grs_world.proofs.star.Mailed.{sent-among}
use Rattle.grs_world.proofs.star.Members.{has_manager}
use Rattle.grs_world.proofs.star.OwnEvents.{late-in}
use Rattle.grs_world.proofs.star.Shown.{AreApart}
use Rattle.grs_world.proofs.star.Systems.{Away, IsLate, IsSystem, behind-late, here, is_late, late-none, news_of}
use Rattle.grs_world.proofs.star.hearing.Mails.{answers}
use Rattle.grs_world.proofs.system.AtNode.{opens_of}
use Rattle.grs_world.proofs.system.Puts.{home-task}
use Rattle.grs_world.proofs.star.Answering.{want-looks}
use Rattle.grs_world.proofs.star.Under.{res-entry}
use Rattle.grs_wire.specs.declared.request.Fixed.TheVariants as fixing

-- An item of task t that is still to come, of the entry of resource r, which another system manages: it is what the
-- task's outstanding request asked.
pub record IsDueOn (deck : Deck) (words : List ℕ) (s : ℕ) (n : NodeState) (later : List RunItem) (t : TaskId)
    (r : Res) :
    Type 0 where
  pub item : RunItem
  pub due : mine t later ≡ item ∷ []
  pub asked : Asked
  pub is : (state_of n.tasks t).outstanding ≡ Some asked
  pub wanted : res_wanted asked.req.want ≡ Some r
  pub entry : ℕ
  pub at : entry_of_res deck.entries r ≡ Some entry
  pub away : Away words s entry

module _ (deck : Deck) (words : List ℕ) (T : List RunItem) (right : IsHistory deck T) (s : ℕ) (n : NodeState)
    (ms : List Mail) (later : List RunItem) (out : List Req) (h : IsSystem deck words T s n ms later out) (t : TaskId)
    (home : is_home_at deck s t ≡ true) where
  -- what the task asks, if it asks anything
  request : (y : RunItem) → outstanding t (here deck s T later out n h.at t home).known T ≡ Some y
      → (a : Asked) × ((state_of n.tasks t).outstanding ≡ Some a) × (y.fixed ≡ fixing.Asked a.req)
  request y e =
      go (state_of n.tasks t).outstanding refl
      (subst (IsOutstanding (state_of n.tasks t).outstanding) e (here deck s T later out n h.at t home).knows.request)
    where
      go : (o : Option Asked) → (state_of n.tasks t).outstanding ≡ o
          → IsOutstanding (state_of n.tasks t).outstanding (Some y)
          → (a : Asked) × ((state_of n.tasks t).outstanding ≡ Some a) × (y.fixed ≡ fixing.Asked a.req)
      go None is z = absurd (subst (λ o. IsOutstanding o (Some y)) is z)
      go (Some a) is z = (a, is, subst (λ o. IsOutstanding o (Some y)) is z)

  -- an element is on record, or its item is still to come
  pub recorded-or-due : (r : Res) → has_task (list_of (lists T) r) t ≡ true
      → (has_res r (state_of n.tasks t).records ≡ true) ⊎ IsDueOn deck words s n later t r
  recorded-or-due r has = go (outstanding t (here deck s T later out n h.at t home).known T) refl
    where
      go : (o : Option RunItem) → outstanding t (here deck s T later out n h.at t home).known T ≡ o
          → (has_res r (state_of n.tasks t).records ≡ true) ⊎ IsDueOn deck words s n later t r
      go None e =
          inl (busy-idle deck (opens_of later out (ghosted n)) T right n.tasks.told t
          (home-task deck s (opens_of later out (ghosted n)) T n.tasks t h.at.good home).0 (state_of n.tasks t)
          (here deck s T later out n h.at t home) r e has)
      go (Some y) e =
          let rq = request y e in
          let due : mine t later ≡ y ∷ [] = (here deck s T later out n h.at t home).due ∙ ap one e in
          let i = late-in deck words s t y [] later due h.late in
          let same : fixing.Asked i.req ≡ fixing.Asked (rq.0).req = sym i.asked ∙ rq.2 in
          let req : i.req ≡ (rq.0).req = cc in
          let asker : (rq.0).req.task ≡ t =
          (subst (λ o.
          IsOpenBy deck.limit (home-task deck s (opens_of later out (ghosted n)) T n.tasks t h.at.good home).0 t
          (state_of n.tasks t) o)
          rq.1 (here deck s T later out n h.at t home).opened).0 in
          let made : y.entries ≡ entries_for i.lists t (rq.0).req.want =
          i.made
          ∙ (ap (λ (q : Req). entries_for i.lists q.task q.want) req
          ∙ ap (λ z. entries_for i.lists z (rq.0).req.want) asker) in
          by_res rq.0 rq.1 i (ap (λ (q : Req). entry_wanted deck.entries q.want) (sym req) ∙ i.at) due made
          (res_wanted (rq.0).req.want) refl
        where
          decide : (a : Asked) → (state_of n.tasks t).outstanding ≡ Some a → (q : Res)
              → res_wanted a.req.want ≡ Some q → (i : IsLate deck words s y)
              → entry_wanted deck.entries a.req.want ≡ Some i.entry → mine t later ≡ y ∷ [] →
              (has_res r (state_of n.tasks t).records ≡ true) ⊎ (q ≡ r)
              → (has_res r (state_of n.tasks t).records ≡ true) ⊎ IsDueOn deck words s n later t r
          decide a is q wanted i at due (inl z) = inl z
          decide a is q wanted i at due (inr z) =
              inr (record {
                item = y;
                due = due;
                asked = a;
                is = is;
                wanted = wanted ∙ ap Some z;
                entry = i.entry;
                at = res-entry deck.entries a.req.want r i.entry (wanted ∙ ap Some z) at;
                away = i.away;
              })

          -- looks queue none
          by_res : (a : Asked) → (state_of n.tasks t).outstanding ≡ Some a → (i : IsLate deck words s y)
              → entry_wanted deck.entries a.req.want ≡ Some i.entry → mine t later ≡ y ∷ []
              → y.entries ≡ entries_for i.lists t a.req.want → (o : Option Res) → res_wanted a.req.want ≡ o
              → (has_res r (state_of n.tasks t).records ≡ true) ⊎ IsDueOn deck words s n later t r
          by_res a is i at due made None none =
              inl (busy-looks deck (opens_of later out (ghosted n)) T right n.tasks.told t
              (home-task deck s (opens_of later out (ghosted n)) T n.tasks t h.at.good home).0 (state_of n.tasks t)
              (here deck s T later out n h.at t home) r y e
              (ap (list_all is_look) made ∙ want-looks i.lists t a.req.want none) has)
          by_res a is i at due made (Some q) wanted =
              decide a is q wanted i at due (busy-behind deck (opens_of later out (ghosted n)) T right n.tasks.told t
              (home-task deck s (opens_of later out (ghosted n)) T n.tasks t h.at.good home).0 (state_of n.tasks t)
              (here deck s T later out n h.at t home) r a y i.lists e made q wanted has)

  -- so it is on record where the system itself manages the entry
  pub recorded-here : (r : Res) → has_task (list_of (lists T) r) t ≡ true → (e : ℕ)
      → entry_of_res deck.entries r ≡ Some e → has_manager words e s ≡ true
      → has_res r (state_of n.tasks t).records ≡ true
  recorded-here r has e at mine_entry = go (recorded-or-due r has)
    where
      go : (has_res r (state_of n.tasks t).records ≡ true) ⊎ IsDueOn deck words s n later t r
          → has_res r (state_of n.tasks t).records ≡ true
      go (inl z) = z
      go (inr d) =
          no_truth (has_manager words d.entry s)
          (ap (λ i. has_manager words i s) (same_Some d.entry e (sym d.at ∙ at)) ∙ mine_entry) d.away.0

  -- a task whose item is still to come has sent its request
  pub due-sent : (y : RunItem) → mine t later ≡ y ∷ []
      → (is_among t (askers out) ≡ true) × (is_sent (state_of n.tasks t).phase ≡ true)
  due-sent y due = (
    among,
    sent-among t (state_of n.tasks t).phase out (here deck s T later out n h.at t home).sent among,
  )
    where
      among : is_among t (askers out) ≡ true
      among = go (is_among t (askers out)) refl
        where
          go : (b : Bool) → is_among t (askers out) ≡ b → is_among t (askers out) ≡ true
          go true e = e
          go false e = absurd (let f : [] ≡ y ∷ [] = sym (h.sent t e) ∙ due in cc)

  -- ---- no item of the task is to come
  module _ (idle : mine t later ≡ []) where
    idle-is : outstanding t (here deck s T later out n h.at t home).known T ≡ None
    idle-is =
        ap (λ b. cond b (last_of (mine t T)) None)
        (behind-late deck s T later out n h.at t home ∙ late-none t later idle)

    -- each resource on record is that of an element
    pub idle-element : (r : Res) → has_res r (state_of n.tasks t).records ≡ true
        → has_task (list_of (lists T) r) t ≡ true
    idle-element r has =
        has-known deck T right t (past_of t (here deck s T later out n h.at t home).known T)
        (speaks-known deck T t (here deck s T later out n h.at t home).known right
        (here deck s T later out n h.at t home).knows.live (here deck s T later out n h.at t home).knows.right idle-is)
        r
        ∙ (sym (has_res-own r (state_of n.tasks t).records
        (past_of t (here deck s T later out n h.at t home).known T).own
        (ap (map key) (sym (records-unasked (state_of n.tasks t))) ∙ (here deck s T later out n h.at t home).task.keys))
        ∙ has)

    -- and no answer comes to it
    pub idle-silent : answers t ms ≡ false
    idle-silent = no-answer t (blank (is_late t later)) T (news_of ms) (late-none t later idle) (h.coming t home)

  pub records-distinct : is_distinct (state_of n.tasks t).records ≡ true
  records-distinct =
      ap is_distinct (sym (records-unasked (state_of n.tasks t)))
      ∙ (here deck s T later out n h.at t home).task.distinct

-- ---- an answer comes first
-- What it answers: the request that the task has sent, by some lists in which no task stands twice.
pub record IsAnswered (n : NodeState) (t : TaskId) (answer : Answer) : Type 0 where
  pub asked : Asked
  pub is : (state_of n.tasks t).outstanding ≡ Some asked
  pub lists : State
  pub apart : AreApart lists
  pub reply : answer ≡ answer_to lists t asked.req.want
  pub sent : is_sent (state_of n.tasks t).phase ≡ true

pub answer-awaited : (deck : Deck) (words : List ℕ) (T : List RunItem) → IsHistory deck T
    → (s : ℕ) (n : NodeState) (t : TaskId) (answer : Answer) (rank : ℕ) (ms : List Mail) (later : List RunItem)
    (out : List Req)
    →
    IsSystem deck words T s n (Answered t answer rank ∷ ms) later out → is_home_at deck s t ≡ true
    → IsAnswered n t answer
answer-awaited deck words T right s n t answer rank ms later out h home =
    let z = (h.coming t home).0 (same_task-itself t) in
    let k = here deck s T later out n h.at t home in
    let out_is : outstanding t k.known T ≡ Some z.0 =
    ap (λ b. cond b (last_of (mine t T)) None) (behind-late deck s T later out n h.at t home) ∙ z.1 in
    let due : mine t later ≡ z.0 ∷ [] = k.due ∙ ap one out_is in
    let rq = request deck words T right s n (Answered t answer rank ∷ ms) later out h t home z.0 out_is in
    let i : IsLate deck words s z.0 = late-in deck words s t z.0 [] later due h.late in
    let same : fixing.Asked i.req ≡ fixing.Asked (rq.0).req = sym i.asked ∙ rq.2 in
    let req : i.req ≡ (rq.0).req = cc in
    let asker : (rq.0).req.task ≡ t =
    (subst (λ o.
    IsOpenBy deck.limit (home-task deck s (opens_of later out (ghosted n)) T n.tasks t h.at.good home).0 t
    (state_of n.tasks t) o)
    rq.1 k.opened).0 in
    let made : (z.0).entries ≡ entries_for i.lists t (rq.0).req.want =
    subst (λ u. (z.0).entries ≡ entries_for i.lists u (rq.0).req.want) asker
    (subst (λ (q : Req). (z.0).entries ≡ entries_for i.lists q.task q.want) req i.made) in
    record {
      asked = rq.0;
      is = rq.1;
      lists = i.lists;
      apart = i.apart;
      reply = sym z.2 ∙ (ap reply_in made ∙ replies_are_answers i.lists t (rq.0).req.want);
      sent = (due-sent deck words T right s n (Answered t answer rank ∷ ms) later out h t home z.0 due).1;
    }
