-- A system that changes to star mode: its records get ranks, and else its tasks stand as they did.
use Rattle.grs_world.proofs.Common.{[], ◌<◌, ◌==◌, ◌||◌, ◌∙◌, ◌∷◌, ◌≡◌, ◌≤◌, AllAsk, and_parts, ap, are_within, Bool}
use Rattle.grs_world.proofs.Common.{by_test, change_to_star, Deck, Deq, Did, Elem, Enq, entry_of_res, eqb-false}
use Rattle.grs_world.proofs.Common.{eqb-true, false, false_by, has_res, has_task, is_marked, is_res_of, is_sent}
use Rattle.grs_world.proofs.Common.{is_some, is_systems, is_task, is_task-system, IsOurs, length, lines_of, List}
use Rattle.grs_world.proofs.Common.{list_all, list_of, lists, Look, Meaning, most_systems, NodeState, on_record}
use Rattle.grs_world.proofs.Common.{one_by_one, owns, ranked_by, RankedRow, refl, Release, Req, Res, RunItem}
use Rattle.grs_world.proofs.Common.{same_place, same_task-exact, Some, some_of, state_of, subst, sym, TaskId, TaskState}
use Rattle.grs_world.proofs.Common.{TasksView, ToldLine, true, Want, with_first_look, with_list_ranks, with_rank}
use Rattle.grs_world.proofs.Common.{with_rank_by, with_ranks, ℕ}
use Rattle.grs_base.specs.Lists.{is_apart}
use Rattle.grs_world.proofs.move.TableRanks.{table-gives, table_rank}
use Rattle.grs_world.proofs.star.hearing.Ranks.{HaveRank}
use Rattle.grs_known.proofs.known.Histories.{has-may}
use Rattle.grs_world.proofs.move.Begin.{front-within, more-within}
use Rattle.grs_world.proofs.star.Shown.{apart-lists}
use Rattle.grs_world.proofs.star.Under.{wide-entry}
use Rattle.grs_world.proofs.at_rest.Events.{date-any, date-one_by_one, date-ranks, did-first, here-all, here-look}
use Rattle.grs_world.proofs.at_rest.Ring.{IsRead}
use Rattle.grs_world.proofs.at_rest.StarTasks.{IsDated, at-place, dated-by}
use Rattle.grs_world.proofs.at_rest.Steps.{AllDate}
use Rattle.grs_world.proofs.star.Ranked.{did-rank, ranked}
use Rattle.grs_world.proofs.star.hearing.Answering.{has-on, marked-on}

-- ---- ranks
-- The tasks are in the same phases, and the same is on record and marked.
pub record SameBut (v w : TasksView) : Type 0 where
  pub here : (t : TaskId) → is_task w t ≡ is_task v t
  pub phase : (t : TaskId) → (state_of w t).phase ≡ (state_of v t).phase
  pub has : (t : TaskId) (r : Res) → has_res r (state_of w t).records ≡ has_res r (state_of v t).records
  pub marks : (t : TaskId) (r : Res) → is_marked r (state_of w t).records ≡ is_marked r (state_of v t).records

same-none : (v : TasksView) → SameBut v v
same-none v = record { here = λ t. refl; phase = λ t. refl; has = λ t r. refl; marks = λ t r. refl }

same-then : (v w z : TasksView) → SameBut v w → SameBut w z → SameBut v z
same-then v w z a b = record {
  here = λ t. b.here t ∙ a.here t;
  phase = λ t. b.phase t ∙ a.phase t;
  has = λ t r. b.has t r ∙ a.has t r;
  marks = λ t r. b.marks t r ∙ a.marks t r;
}

same-rank : (v : TasksView) (u : TaskId) (r : Res) (k : ℕ) → is_task v u ≡ true → SameBut v (with_rank v u r k)
same-rank v u r k here = record {
  here = did.changed.here;
  phase = λ t. by_place t (λ (a b : TaskState). b.phase ≡ a.phase) refl (λ e. ap (λ (y : TaskState). y.phase) e);
  has = λ t q.
      by_place t (λ (a b : TaskState). has_res q b.records ≡ has_res q a.records)
      (has-on (ranked k) (λ z. refl) q r (state_of v u).records) (λ e. ap (λ (y : TaskState). has_res q y.records) e);
  marks = λ t q.
      by_place t (λ (a b : TaskState). is_marked q b.records ≡ is_marked q a.records)
      (marked-on (ranked k) (λ z. refl) (λ z. refl) q r (state_of v u).records)
      (λ e. ap (λ (y : TaskState). is_marked q y.records) e);
}
  where
    did :
        Did v (with_rank v u r k) u (record (state_of v u) { records = on_record r (ranked k) (state_of v u).records })
        v.told
    did = did-rank v u r k here

    by_place : (t : TaskId) (P : TaskState → TaskState → Type 0)
        → P (state_of v u) (record (state_of v u) { records = on_record r (ranked k) (state_of v u).records })
        → (state_of (with_rank v u r k) t ≡ state_of v t → P (state_of v t) (state_of (with_rank v u r k) t))
        → P (state_of v t) (state_of (with_rank v u r k) t)
    by_place t P own other = go (t.task == u.task) refl
      where
        go : (b : Bool) → (t.task == u.task) ≡ b → P (state_of v t) (state_of (with_rank v u r k) t)
        go true e =
            let same : t.task ≡ u.task = eqb-true t.task u.task e in
            subst (λ y. P y (state_of (with_rank v u r k) t)) (sym (at-place v u t same))
            (subst (P (state_of v u)) (sym (at-place (with_rank v u r k) u t same ∙ did.state)) own)
        go false e = other (did.changed.others t (eqb-false t.task u.task e))

same-by : (v : TasksView) (r : Res) (u : TaskId) (k : ℕ) → SameBut v (with_rank_by v r u k)
same-by v r u k =
    by_test (SameBut v) (is_task v u) (with_rank v u r k) v (λ here. same-rank v u r k here) (λ away. same-none v)

same-list : (v : TasksView) (r : Res) (es : List Elem) (ns : List ℕ) → SameBut v (with_list_ranks v r es ns)
same-list v r [] ns = same-none v
same-list v r (e ∷ es) [] = same-none v
same-list v r (e ∷ es) (n ∷ ns) =
    same-then v (with_rank_by v r e.task n) (with_list_ranks (with_rank_by v r e.task n) r es ns) (same-by v r e.task n)
    (same-list (with_rank_by v r e.task n) r es ns)

same-ranks : (v : TasksView) (xs : List RankedRow) → SameBut v (with_ranks v xs)
same-ranks v [] = same-none v
same-ranks v (x ∷ xs) =
    same-then v (with_list_ranks v x.0.res x.0.elems x.1) (with_ranks (with_list_ranks v x.0.res x.0.elems x.1) xs)
    (same-list v x.0.res x.0.elems x.1) (same-ranks (with_list_ranks v x.0.res x.0.elems x.1) xs)

-- ---- looks go one by one
same-did : (v w : TasksView) (u : TaskId) (x : TaskState) (T : List ToldLine) → Did v w u x T
    → x.phase ≡ (state_of v u).phase → x.records ≡ (state_of v u).records → SameBut v w
same-did v w u x T did phase records = record {
  here = did.changed.here;
  phase = λ t. by_place t (λ (a b : TaskState). b.phase ≡ a.phase) phase (λ y. refl);
  has = λ t q.
      by_place t (λ (a b : TaskState). has_res q b.records ≡ has_res q a.records) (ap (has_res q) records) (λ y. refl);
  marks = λ t q.
      by_place t (λ (a b : TaskState). is_marked q b.records ≡ is_marked q a.records) (ap (is_marked q) records)
      (λ y. refl);
}
  where
    by_place : (t : TaskId) (P : TaskState → TaskState → Type 0) → P (state_of v u) x → ((y : TaskState) → P y y)
        → P (state_of v t) (state_of w t)
    by_place t P own other = go (t.task == u.task) refl
      where
        go : (b : Bool) → (t.task == u.task) ≡ b → P (state_of v t) (state_of w t)
        go true e =
            let same : t.task ≡ u.task = eqb-true t.task u.task e in
            subst (λ y. P y (state_of w t)) (sym (at-place v u t same))
            (subst (P (state_of v u)) (sym (at-place w u t same ∙ did.state)) own)
        go false e =
            subst (P (state_of v t)) (sym (did.changed.others t (eqb-false t.task u.task e))) (other (state_of v t))

same-look : (v : TasksView) (u : TaskId) (w : Want) → is_task v u ≡ true → SameBut v (with_first_look v u w)
same-look v u (Enq r c ret full) here = same-none v
same-look v u (Deq r have) here = same-none v
same-look v u (Release r) here = same-none v
same-look v u (Look first count f) here = same-did v _ u _ v.told (did-first v u here) refl refl

same-one_by_one : (v : TasksView) (qs : List Req) → list_all (λ q. is_task v q.task) qs ≡ true
    → SameBut v (one_by_one v qs)
same-one_by_one v [] here = same-none v
same-one_by_one v (q ∷ qs) here =
    let both = and_parts (is_task v q.task) (list_all (λ z. is_task v z.task) qs) here in
    same-then v (with_first_look v q.task q.want) (one_by_one (with_first_look v q.task q.want) qs)
    (same-look v q.task q.want both.0)
    (same-one_by_one (with_first_look v q.task q.want) qs
    (here-all v (with_first_look v q.task q.want) (here-look v q.task q.want) qs both.1))

-- ---- the change
-- System s, whose outbox has requests of its tasks, has processed all.
module _ (deck : Deck) (s : ℕ) (m : NodeState) (box : list_all (λ q. is_task m.tasks q.task) m.outbox ≡ true) where
  pub change-same : SameBut m.tasks (change_to_star deck m).tasks
  unfolding change_to_star
  change-same =
      same-then m.tasks (one_by_one m.tasks m.outbox)
      (with_ranks (one_by_one m.tasks m.outbox) (ranked_by deck.entries m.shared))
      (same-one_by_one m.tasks m.outbox box)
      (same-ranks (one_by_one m.tasks m.outbox) (ranked_by deck.entries m.shared))

  change-date : AllDate true deck m.tasks → AllDate false deck (change_to_star deck m).tasks
  unfolding change_to_star
  change-date h =
      date-ranks false deck (ranked_by deck.entries m.shared) (one_by_one m.tasks m.outbox)
      (date-one_by_one deck m.outbox m.tasks (date-any true deck m.tasks h) box)

  change-own : (change_to_star deck m).own ≡ m.own
  unfolding change_to_star
  change-own = refl

  -- each element of a task has the table's rank on record
  pub change-ranks : (some : 0 < deck.entries) → are_within most_systems m.shared ≡ true → (r : Res) (e : ℕ)
      → entry_of_res deck.entries r ≡ Some e → is_apart (list_of m.shared r) ≡ true → (t : TaskId)
      → is_task m.tasks t ≡ true → has_task (list_of m.shared r) t ≡ true
      → ((u : TaskId) → has_task (list_of m.shared r) u ≡ true → is_task m.tasks u ≡ true → u.task ≡ t.task → u ≡ t)
      → HaveRank r (table_rank deck.entries m.shared e r t) (state_of (change_to_star deck m).tasks t).records
  unfolding change_to_star
  change-ranks some few r e of apart t here stands alone =
      let same = same-one_by_one m.tasks m.outbox box in
      table-gives deck.entries some m.shared few r e of apart t (one_by_one m.tasks m.outbox) (same.here t ∙ here)
      stands (λ u has at place. alone u has (sym (same.here u) ∙ at) place)

  -- So it is where the table is that of a front of the history.
  module _ (some : 0 < deck.entries) (few : length deck.systems ≤ most_systems) (before : List RunItem)
      (shared : m.shared ≡ lists before) (asks : AllAsk deck before) (system : m.tasks.system ≡ s) (t : TaskId)
      (ls : List Meaning) (ours : IsOurs deck s m.tasks t ls) (r : Res) (wide : is_systems r ≡ true) where
    alone : (u : TaskId) → has_task (list_of m.shared r) u ≡ true → is_task m.tasks u ≡ true → u.task ≡ t.task → u ≡ t
    alone u stands here place =
        let may =
        and_parts (is_some (lines_of deck u)) (is_systems r || is_res_of u.system.0 r)
        (has-may deck before r u asks (ap (λ z. has_task (list_of z r) u) (sym shared) ∙ stands)) in
        let found = some_of (lines_of deck u) may.0 in
        let mine : IsOurs deck s m.tasks u found.0 =
        record { lines = found.1; home = sym (is_task-system m.tasks u here) ∙ system; here = here } in
        same_task-exact u t (same_place deck s m.tasks u t found.0 ls mine ours place)

    pub home-ranks : has_task (list_of m.shared r) t ≡ true →
        HaveRank r (table_rank deck.entries m.shared (wide-entry deck.entries r wide).0 r t)
        (state_of (change_to_star deck m).tasks t).records
    home-ranks stands =
        change-ranks some
        (subst (λ z. are_within most_systems z ≡ true) (sym shared)
        (more-within (length deck.systems) most_systems few (lists before) (front-within deck before asks)))
        r (wide-entry deck.entries r wide).0 (wide-entry deck.entries r wide).1
        (ap (λ z. is_apart (list_of z r)) shared ∙ apart-lists before r) t ours.here stands alone

  module _ (h : IsRead deck s m []) where
    pub change-dated : IsDated deck s (change_to_star deck m)
    change-dated =
        dated-by deck s m (change_to_star deck m) change-own
        (record { date = date-any true deck m.tasks h.date; own = h.own }) (record {
          date = change-date h.date;
          here = change-same.here;
          local = λ t r l. (change-same.has t r, λ k. change-same.marks t r ∙ k);
        })

    -- nothing is outstanding
    pub change-unsent : (t : TaskId) (ls : List Meaning) → IsOurs deck s m.tasks t ls
        → is_sent (state_of (change_to_star deck m).tasks t).phase ≡ false
    change-unsent t ls ours =
        false_by (is_sent (state_of (change_to_star deck m).tasks t).phase)
        (λ e. absurd (let no : false ≡ true = h.sent t ls ours (ap is_sent (sym (change-same.phase t)) ∙ e) in cc))

    pub change-has : (t : TaskId) (ls : List Meaning) (r : Res) → IsOurs deck s m.tasks t ls → is_systems r ≡ true
        → has_res r (state_of (change_to_star deck m).tasks t).records ≡ has_task (list_of m.shared r) t
    change-has t ls r ours wide = change-same.has t r ∙ (h.shared t ls ours).same r wide

    pub change-had : (t : TaskId) (ls : List Meaning) (r : Res) → IsOurs deck s m.tasks t ls → is_systems r ≡ true
        → owns (list_of m.shared r) t ≡ true → is_marked r (state_of (change_to_star deck m).tasks t).records ≡ true
    change-had t ls r ours wide own = change-same.marks t r ∙ (h.shared t ls ours).told r wide own
