-- A system that changes to star mode: its tasks stand as they did, though their records get ranks; and what waited in
-- its outbox waits at them.
use Rattle.grs_world.proofs.Common.{[], ◌-◌, ◌<◌, ◌==◌, ◌∙◌, ◌∷◌, ◌≡◌, and_parts, ap, arith, Asked, Bool, by_test}
use Rattle.grs_world.proofs.Common.{change_to_star, Deck, Deq, Did, did-none, did-outstanding, Elem, Enq, eqb-false}
use Rattle.grs_world.proofs.Common.{eqb-true, false, gives_up, is_home_at, is_leaving, is_task, IsGood, IsHere, IsLooks}
use Rattle.grs_world.proofs.Common.{IsLooksBy, IsOpenBy, IsOurs, IsOutstanding, IsTask, line_asked, List, list_all}
use Rattle.grs_world.proofs.Common.{Look, Meaning, mine, new_task, NodeState, None, none, on_record, one_by_one, Opens}
use Rattle.grs_world.proofs.Common.{Option, option_map, outstanding, past_of, phase_seen, quiet_good, ranked_by}
use Rattle.grs_world.proofs.Common.{RankedRow, refl, Release, Req, Res, RunItem, Some, state_of, subst, suc, sym}
use Rattle.grs_world.proofs.Common.{task-open, TaskId, TaskState, TasksView, told-state, ToldLine, true, unasked_by}
use Rattle.grs_world.proofs.Common.{Want, with_first_look, with_list_ranks, with_outstanding, with_rank, with_rank_by}
use Rattle.grs_world.proofs.Common.{with_ranks, zero, ℕ}
use Rattle.std.proofs.Common.{get_or}
use Rattle.std.specs.Prelude.{min}
use Rattle.grs_known.proofs.system.Asking.{AreLooks, first-looks}
use Rattle.grs_node.specs.Change.{first_look, more_left}
use Rattle.grs_world.proofs.star.Ghosts.{IsAt, opens-as}
use Rattle.grs_world.proofs.system.AtNode.{Seen, opens_of}
use Rattle.grs_world.proofs.system.Puts.{home-task}
use Rattle.grs_world.proofs.star.Ranked.{did-rank, here-ranked, told-rank, ranked}
use Rattle.grs_known.proofs.known.Knowing.{one-none}
use Rattle.task_state.specs.declared.state.Phase.TheVariants as phases

-- ---- a rank is given, to whatever task
place-state : (v : TasksView) (t u : TaskId) → u.task ≡ t.task → state_of v u ≡ state_of v t
unfolding state_of
place-state v t u same = ap (λ (i : ℕ). get_or v.tasks i new_task) same

module _ (deck : Deck) (s : ℕ) (os : Opens) (P : List RunItem) where
  rank-good : (v : TasksView) (t : TaskId) (r : Res) (k : ℕ) → is_task v t ≡ true → IsGood deck s os P v
      → IsGood deck s os P (with_rank v t r k)
  rank-good v t r k here g = record {
    tasks = record {
      each = λ u ls o.
          subst (λ T. IsHere deck os P T u ls (state_of (with_rank v t r k) u)) (sym did.told)
          (by_place u ls (before u ls o) (u.task == t.task) refl);
    };
    here = λ u h. did.changed.here u ∙ g.here u h;
    system = did.changed.system ∙ g.system;
  }
    where
      did :
          Did v (with_rank v t r k) t
          (record (state_of v t) { records = on_record r (ranked k) (state_of v t).records }) v.told
      did = did-rank v t r k here

      before : (u : TaskId) (ls : List Meaning) → IsOurs deck s (with_rank v t r k) u ls → IsOurs deck s v u ls
      before u ls o = record { lines = o.lines; home = o.home; here = sym (did.changed.here u) ∙ o.here }

      by_place : (u : TaskId) (ls : List Meaning) → IsOurs deck s v u ls → (b : Bool) → (u.task == t.task) ≡ b
          → IsHere deck os P v.told u ls (state_of (with_rank v t r k) u)
      by_place u ls o true e =
          let same : u.task ≡ t.task = eqb-true u.task t.task e in
          let now : state_of (with_rank v t r k) u
          ≡ record (state_of v u) { records = on_record r (ranked k) (state_of v u).records } =
          place-state (with_rank v t r k) t u same
          ∙ (did.state
          ∙ ap (λ (x : TaskState). record x { records = on_record r (ranked k) x.records })
          (sym (place-state v t u same))) in
          subst (IsHere deck os P v.told u ls) (sym now)
          (here-ranked deck os P v.told u ls (state_of v u) r k (g.tasks.each u ls o))
      by_place u ls o false e =
          subst (IsHere deck os P v.told u ls) (sym (did.changed.others u (eqb-false u.task t.task e)))
          (g.tasks.each u ls o)

  -- of each element its task's record, where the task is of the system
  by-rank : (v : TasksView) (r : Res) (t : TaskId) (k : ℕ) → IsGood deck s os P v
      → IsGood deck s os P (with_rank_by v r t k)
  by-rank v r t k g =
      by_test (IsGood deck s os P) (is_task v t) (with_rank v t r k) v (λ h. rank-good v t r k h g) (λ h. g)

  list-ranks : (v : TasksView) (r : Res) (es : List Elem) (ns : List ℕ) → IsGood deck s os P v
      → IsGood deck s os P (with_list_ranks v r es ns)
  list-ranks v r [] ns g = g
  list-ranks v r (e ∷ es) [] g = g
  list-ranks v r (e ∷ es) (n ∷ ns) g = list-ranks (with_rank_by v r e.task n) r es ns (by-rank v r e.task n g)

  ranks-good : (v : TasksView) (xs : List RankedRow) → IsGood deck s os P v → IsGood deck s os P (with_ranks v xs)
  ranks-good v [] g = g
  ranks-good v (x ∷ xs) g =
      ranks-good (with_list_ranks v x.0.res x.0.elems x.1) xs (list-ranks v x.0.res x.0.elems x.1 g)

-- ---- nothing is told
by-told : (v : TasksView) (r : Res) (t : TaskId) (k : ℕ) → (with_rank_by v r t k).told ≡ v.told
by-told v r t k =
    by_test (λ (w : TasksView). w.told ≡ v.told) (is_task v t) (with_rank v t r k) v (λ h. told-rank v t r k h)
    (λ h. refl)

list-told : (v : TasksView) (r : Res) (es : List Elem) (ns : List ℕ) → (with_list_ranks v r es ns).told ≡ v.told
list-told v r [] ns = refl
list-told v r (e ∷ es) [] = refl
list-told v r (e ∷ es) (n ∷ ns) = list-told (with_rank_by v r e.task n) r es ns ∙ by-told v r e.task n

ranks-told : (v : TasksView) (xs : List RankedRow) → (with_ranks v xs).told ≡ v.told
ranks-told v [] = refl
ranks-told v (x ∷ xs) = ranks-told (with_list_ranks v x.0.res x.0.elems x.1) xs ∙ list-told v x.0.res x.0.elems x.1

-- ---- the requests of an outbox: of looks the first waits at its task, and the others are left behind it
-- nothing is open
abbrev closed : Opens
closed = record { later = []; out = []; all = [] }

least : (count : ℕ) → 0 < count → min count 1 ≡ 1
least zero h = absurd (omega (arith, h))
least (suc n) h = omega arith

-- a task with looks stands as it did, where only the first of them is asked for
here-first :
    (deck : Deck) (P : List RunItem) (T : List ToldLine) (t : TaskId) (ls : List Meaning) (x : TaskState)
    → IsHere deck closed P T t ls x
    → IsHere deck closed P T t ls
    (record x { outstanding = option_map (λ a. first_look a a.req.want) x.outstanding })
here-first deck P T t ls x h = go x.outstanding refl
  where
    -- it has learned all
    idle : outstanding t h.known P ≡ None
    idle = one-none (outstanding t h.known P) h.due

    same : (o : Option Asked) → x.outstanding ≡ o → IsHere deck closed P T t ls (record x { outstanding = o })
    same o e = subst (λ z. IsHere deck closed P T t ls (record x { outstanding = z })) e h

    go : (o : Option Asked) → x.outstanding ≡ o
        → IsHere deck closed P T t ls (record x { outstanding = option_map (λ a. first_look a a.req.want) o })
    go None e = same None e
    go (Some a) e = by_want a.req.want refl
      where
        by_want : (w : Want) → a.req.want ≡ w
            → IsHere deck closed P T t ls (record x { outstanding = Some (first_look a w) })
        by_want (Enq r c ret full) is = same (Some a) e
        by_want (Deq r have) is = same (Some a) e
        by_want (Release r) is = same (Some a) e
        by_want (Look first count f) is = record {
          known = h.known;
          knows = record {
            right = h.knows.right;
            request = subst (IsOutstanding (Some now)) (sym idle) tt;
            live = h.knows.live;
          };
          due = h.due;
          task =
              task-open ls (past_of t h.known P) T (λ r. false) t
              (record x { line = x.line; phase = phases.ToSend }) (Some now)
              (subst (λ w. IsTask ls (past_of t h.known P) T (λ r. gives_up r w) t
              (record x { line = line_asked w x.line; phase = phase_seen w x.code })) is
              (subst (λ o. IsTask ls (past_of t h.known P) T (λ r. is_leaving r o) t (unasked_by o x)) e h.task));
          opened = (opened.0, opened.1, tt);
          looks =
              subst (λ k. AreLooks ls (past_of t h.known P).asked x.line first k f now.showing)
              (sym (least count looks.some))
              (subst (λ o.
              AreLooks ls (past_of t h.known P).asked x.line first 1 f (option_map (more_left (count - 1)) o))
              (sym looks.is)
              (first-looks ls (past_of t h.known P).asked x.line first count f a.showing looks));
          asked = tt;
          sent = refl;
        }
          where
            now : Asked
            now = first_look a (Look first count f)

            opened : IsOpenBy deck.limit ls t x (Some a)
            opened = subst (IsOpenBy deck.limit ls t x) e h.opened

            looks : AreLooks ls (past_of t h.known P).asked x.line first count f a.showing
            looks =
                subst (λ w. IsLooksBy ls (past_of t h.known P).asked x.line w a.showing) is
                (subst (IsLooks ls (past_of t h.known P).asked x.line) e h.looks)

module _ (deck : Deck) (s : ℕ) (P : List RunItem) where
  first-good : (v : TasksView) (t : TaskId) → is_home_at deck s t ≡ true → (w : Want) → IsGood deck s closed P v
      → IsGood deck s closed P (with_first_look v t w)
  first-good v t home (Enq r c ret full) g = g
  first-good v t home (Deq r have) g = g
  first-good v t home (Release r) g = g
  first-good v t home (Look first count f) g =
      let x : TaskState = state_of v t in
      let z = home-task deck s closed P v t g home in
      let o : Option Asked = option_map (λ a. first_look a a.req.want) x.outstanding in
      (quiet_good deck s closed closed P v g t z.0 z.1 (with_outstanding v t o) (record x { outstanding = o }) v.told
      (did-outstanding v v t x v.told (g.here t home) (did-none v t) o)
      (here-first deck P v.told t z.0 x (g.tasks.each t z.0 z.1))
      (λ u p apart a. a) (λ u ph apart a. a) refl (λ u ms apart p leaving y j. j) none).good

  box-good : (v : TasksView) (qs : List Req) → list_all (λ q. is_home_at deck s q.task) qs ≡ true
      → IsGood deck s closed P v → IsGood deck s closed P (one_by_one v qs)
  box-good v [] homes g = g
  box-good v (q ∷ qs) homes g =
      let both = and_parts (is_home_at deck s q.task) (list_all (λ z. is_home_at deck s z.task) qs) homes in
      box-good (with_first_look v q.task q.want) qs both.1 (first-good v q.task both.0 q.want g)

first-told : (v : TasksView) (t : TaskId) (w : Want) → (with_first_look v t w).told ≡ v.told
unfolding with_outstanding
first-told v t (Enq r c ret full) = refl
first-told v t (Deq r have) = refl
first-told v t (Release r) = refl
first-told v t (Look first count f) = told-state v t _

box-told : (v : TasksView) (qs : List Req) → (one_by_one v qs).told ≡ v.told
box-told v [] = refl
box-told v (q ∷ qs) = box-told (with_first_look v q.task q.want) qs ∙ first-told v q.task q.want

-- ---- a system that has processed all of the message, and whose tasks have none of what was fixed since
module _ (deck : Deck) (s : ℕ) (T before since : List RunItem) (k : NodeState) (seen : Seen deck s T before since [] k)
    (away : (t : TaskId) (ls : List Meaning) → IsOurs deck s k.tasks t ls → mine t since ≡ []) where
  open-less : IsGood deck s closed T k.tasks
  open-less =
      opens-as deck s (opens_of since [] k) closed T k.tasks refl (λ u ls o. sym (away u ls o)) (λ u o a. tt) seen.good

  changed-good :
      IsGood deck s closed T (with_ranks (one_by_one k.tasks k.outbox) (ranked_by deck.entries k.shared))
  changed-good =
      ranks-good deck s closed T (one_by_one k.tasks k.outbox) (ranked_by deck.entries k.shared)
      (box-good deck s T k.tasks k.outbox seen.homes open-less)

  -- it is in star mode as it should be
  pub changed-at : IsAt deck s T [] [] (change_to_star deck k)
  unfolding change_to_star
  changed-at = record { good = changed-good; own = seen.own; shared = refl; homes = refl; apart = refl }

  -- and tells nothing by that
  pub changed-told : (change_to_star deck k).tasks.told ≡ k.tasks.told
  unfolding change_to_star
  changed-told =
      ranks-told (one_by_one k.tasks k.outbox) (ranked_by deck.entries k.shared) ∙ box-told k.tasks k.outbox
