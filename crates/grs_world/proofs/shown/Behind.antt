-- Behind the removal of a system the others show together the list without its elements, where they lost nothing
-- before:
-- a notice, and what is told where the system is lost, leave what is on record of them.
use Rattle.grs_world.proofs.Common.{[], ◌++◌, ◌+◌, ◌<◌, ◌==◌, ◌||◌, ◌∙◌, ◌∷◌, ◌≡◌, ◌⊎◌, and_from, and_parts, Answered}
use Rattle.grs_world.proofs.Common.{ap, Bool, cond, Deck, Elem, false, false_by, filter, first_node, get_or, Granted}
use Rattle.grs_world.proofs.Common.{has, has_task, inbox, is_among, is_home_at, is_systems, items, items_of, length}
use Rattle.grs_world.proofs.Common.{List, list_all, list_of, ltb-true, Mail, managed_of, map, Moved, names_of, nat_lt}
use Rattle.grs_world.proofs.Common.{new_task, no_truth, NodeState, not, Notice, Option, or_left, or_right, Part, plain}
use Rattle.grs_world.proofs.Common.{Rec, refl, Res, same_res, same_task, same_task-exact, slice_get, slice_get-get_or}
use Rattle.grs_world.proofs.Common.{slice_get_within, Some, StarPart, state_of, subst, sym, SysId, TaskId, TaskState}
use Rattle.grs_world.proofs.Common.{true, World, ℕ}
use Rattle.std.specs.List.Sorted.{IsPermutation}
use Rattle.std.proofs.lemmas.List.Sorted.{IsPermutation-sym}
use Rattle.contention_mgr.specs.Installs.{elem_of}
use Rattle.grs_base.specs.State.{is_of_other}
use Rattle.grs_legal.specs.Asks.{Script, scripts_of}
use Rattle.grs_medium.specs.Inboxes.{notices_to}
use Rattle.grs_wire.specs.declared.medium.Mail.TheVariants.{Request}
use Rattle.lock_structure.specs.RankedRows.{rises}
use Rattle.system_purge.specs.Gather.{by_rank, part_rec}
use Rattle.grs_world.proofs.run.Site.{Site}
use Rattle.grs_world.proofs.shown.ByTask.{by-tasks, of_task, of_tasks}
use Rattle.grs_world.proofs.shown.CaughtUp.{Caught, taken-node}
use Rattle.grs_world.proofs.shown.Lists.{all-taken, each-task, element-home, element-live, later_of, listed, own-elems}
use Rattle.grs_world.proofs.shown.Lists.{own-rank, rank_of, rising}
use Rattle.grs_world.proofs.shown.Mail.{ArePlain, KeepsFaces, TakesAlike, keeps-then, notice-keeps, same-keeps}
use Rattle.grs_world.proofs.shown.Mail.{takes-alike, taking-more}
use Rattle.grs_world.proofs.shown.Names.{home-named, live-apart, live-named, live_names, named-home, task_at, zero_plus}
use Rattle.grs_world.proofs.shown.OnRecord.{HasOwn, HaveThese, own_recs, recs-ranked, shown-have, system-has}
use Rattle.grs_world.proofs.shown.Sorted.{by_rank-is}
use Rattle.grs_world.proofs.star.Heard.{IsHeard, sent_by}
use Rattle.grs_world.proofs.star.Systems.{AllFit}
use Rattle.grs_world.proofs.star.Worlds.{IsWhole, live-below}
use Rattle.grs_world.proofs.star.hearing.Faces.{Face, SameFaces, faces, faces-none}
use Rattle.grs_world.proofs.star.hearing.Ranks.{HaveRank}
use Rattle.grs_world.proofs.star.ranks.Ranked.{AreShown}
use Rattle.grs_world.specs.Kept.{caught_up, on_record, once_changed, shown_from, taking}

-- ---- a list without the elements of a system
abbrev pub left : ℕ → List Elem → List Elem
left gone xs = filter (is_of_other gone) xs

left-task : (gone : ℕ) (t : TaskId) (xs : List Elem) → (gone == t.system.0) ≡ false
    → of_task t (left gone xs) ≡ of_task t xs
left-task gone t [] apart = refl
left-task gone t (x ∷ xs) apart = go (gone == x.task.system.0) refl (left-task gone t xs apart)
  where
    go : (b : Bool) → (gone == x.task.system.0) ≡ b → of_task t (left gone xs) ≡ of_task t xs
        → of_task t (cond (not b) (x ∷ left gone xs) (left gone xs))
        ≡ cond (same_task t x.task) (x ∷ of_task t xs) (of_task t xs)
    go false e more = ap (λ (ys : List Elem). cond (same_task t x.task) (x ∷ ys) ys) more
    go true e more =
        let off : same_task t x.task ≡ false =
        false_by (same_task t x.task) (λ is.
        no_truth (gone == x.task.system.0) e
        (ap (λ (u : TaskId). gone == u.system.0) (sym (same_task-exact t x.task is)) ∙ apart)) in
        more ∙ sym (ap (λ b. cond b (x ∷ of_task t xs) (of_task t xs)) off)

pub left-has : (gone : ℕ) (xs : List Elem) (t : TaskId) → has_task (left gone xs) t ≡ true
    → (has_task xs t ≡ true) × ((gone == t.system.0) ≡ false)
left-has gone [] t h = no_truth true refl (sym h)
left-has gone (x ∷ xs) t h = go (gone == x.task.system.0) refl h (left-has gone xs t)
  where
    by-same : (c : Bool) → same_task t x.task ≡ c → (gone == x.task.system.0) ≡ false
        → (c || has_task (left gone xs) t) ≡ true
        → (has_task (left gone xs) t ≡ true → (has_task xs t ≡ true) × ((gone == t.system.0) ≡ false))
        → (has_task (x ∷ xs) t ≡ true) × ((gone == t.system.0) ≡ false)
    by-same true is e k more = (
      or_left (same_task t x.task) (has_task xs t) is,
      ap (λ (u : TaskId). gone == u.system.0) (same_task-exact t x.task is) ∙ e,
    )
    by-same false is e k more = let z = more k in (or_right (same_task t x.task) (has_task xs t) z.0, z.1)

    go : (b : Bool) → (gone == x.task.system.0) ≡ b
        → has_task (cond (not b) (x ∷ left gone xs) (left gone xs)) t ≡ true
        → (has_task (left gone xs) t ≡ true → (has_task xs t ≡ true) × ((gone == t.system.0) ≡ false))
        → (has_task (x ∷ xs) t ≡ true) × ((gone == t.system.0) ≡ false)
    go true e k more = let z = more k in (or_right (same_task t x.task) (has_task xs t) z.0, z.1)
    go false e k more = by-same (same_task t x.task) refl e k more

-- along it ranks rise
low-left : (p : Elem → Bool) (f : TaskId → ℕ) (n : ℕ) (xs : List Elem)
    → list_all (λ k. nat_lt n k) (map (λ (x : Elem). f x.task) xs) ≡ true
    → list_all (λ k. nat_lt n k) (map (λ (x : Elem). f x.task) (filter p xs)) ≡ true
low-left p f n [] h = refl
low-left p f n (x ∷ xs) h =
    let both =
    and_parts (nat_lt n (f x.task)) (list_all (λ k. nat_lt n k) (map (λ (y : Elem). f y.task) xs)) h in
    go (p x) both.0 (low-left p f n xs both.1)
  where
    go : (b : Bool) → nat_lt n (f x.task) ≡ true
        → list_all (λ k. nat_lt n k) (map (λ (y : Elem). f y.task) (filter p xs)) ≡ true
        → list_all (λ k. nat_lt n k) (map (λ (y : Elem). f y.task) (cond b (x ∷ filter p xs) (filter p xs))) ≡ true
    go true low more =
        and_from (nat_lt n (f x.task)) (list_all (λ k. nat_lt n k) (map (λ (y : Elem). f y.task) (filter p xs))) low
        more
    go false low more = more

rises-left : (p : Elem → Bool) (f : TaskId → ℕ) (xs : List Elem) → rises (map (λ (x : Elem). f x.task) xs) ≡ true
    → rises (map (λ (x : Elem). f x.task) (filter p xs)) ≡ true
rises-left p f [] h = refl
rises-left p f (x ∷ xs) h =
    let both =
    and_parts (list_all (λ k. nat_lt (f x.task) k) (map (λ (y : Elem). f y.task) xs))
    (rises (map (λ (y : Elem). f y.task) xs)) h in
    go (p x) (low-left p f (f x.task) xs both.0) (rises-left p f xs both.1)
  where
    go : (b : Bool) → list_all (λ k. nat_lt (f x.task) k) (map (λ (y : Elem). f y.task) (filter p xs)) ≡ true
        → rises (map (λ (y : Elem). f y.task) (filter p xs)) ≡ true
        → rises (map (λ (y : Elem). f y.task) (cond b (x ∷ filter p xs) (filter p xs))) ≡ true
    go true low more =
        and_from (list_all (λ k. nat_lt (f x.task) k) (map (λ (y : Elem). f y.task) (filter p xs)))
        (rises (map (λ (y : Elem). f y.task) (filter p xs))) low more
    go false low more = more

-- ---- faces
abbrev face_elems : Res → TaskId → List Face → List Elem
face_elems r t [] = []
face_elems r t (k ∷ ks) =
    cond (same_res r k.0) (record { task = t; ctl = k.1 } ∷ face_elems r t ks) (face_elems r t ks)

recs-faces : (r : Res) (t : TaskId) (xs : List Rec) → map elem_of (own_recs r t xs) ≡ face_elems r t (faces xs)
recs-faces r t [] = refl
recs-faces r t (x ∷ xs) = go (same_res r x.res) (recs-faces r t xs)
  where
    go : (b : Bool) → map elem_of (own_recs r t xs) ≡ face_elems r t (faces xs) →
        map elem_of (cond b (part_rec t x ∷ own_recs r t xs) (own_recs r t xs))
        ≡ cond b (record { task = t; ctl = x.ctl } ∷ face_elems r t (faces xs)) (face_elems r t (faces xs))
    go true more = ap (λ (es : List Elem). record { task = t; ctl = x.ctl } ∷ es) more
    go false more = more

abbrev FacesRank : Res → ℕ → List Face → Type 0
FacesRank r n [] = Unit {0}
FacesRank r n (k ∷ ks) = (same_res r k.0 ≡ true → k.2 ≡ n) × FacesRank r n ks

to-faces : (r : Res) (n : ℕ) (xs : List Rec) → HaveRank r n xs → FacesRank r n (faces xs)
to-faces r n [] h = tt
to-faces r n (x ∷ xs) h = (h.0, to-faces r n xs h.1)

from-faces : (r : Res) (n : ℕ) (xs : List Rec) → FacesRank r n (faces xs) → HaveRank r n xs
from-faces r n [] h = tt
from-faces r n (x ∷ xs) h = (h.0, from-faces r n xs h.1)

fit-plain : (deck : Deck) (words : List ℕ) (s : ℕ) (ms : List Mail) → AllFit deck words s ms → ArePlain ms
fit-plain deck words s [] h = tt
fit-plain deck words s (Request e from q ∷ ms) h = (tt, fit-plain deck words s ms h.1)
fit-plain deck words s (Answered t answer rank ∷ ms) h = (tt, fit-plain deck words s ms h.1)
fit-plain deck words s (Granted t r ∷ ms) h = (tt, fit-plain deck words s ms h.1)
fit-plain deck words s (Notice target moved ∷ ms) h = absurd h.0
fit-plain deck words s (Part e from records ∷ ms) h = absurd h.0

-- ---- a system behind the event, and what it was before
-- Its tasks have the same faces, and it has the same lists, or lost the elements of the removed system.
pub record IsAfter (w : World) (target : SysId) (s : ℕ) (k : NodeState) : Type 0 where
  pub before : NodeState
  pub site : Site w s before
  pub part : StarPart
  pub star : k.star ≡ Some part
  pub alike : SameFaces before.tasks k.tasks
  pub lists : (q : Res) → is_systems q ≡ true → (p : StarPart) → before.star ≡ Some p →
      (list_of (plain (items_of (managed_of part.manager q))) q
      ≡ list_of (plain (items_of (managed_of p.manager q))) q)
      ⊎ (list_of (plain (items_of (managed_of part.manager q))) q
      ≡ left target.0 (list_of (plain (items_of (managed_of p.manager q))) q))

module _ (deck : Deck) (w : World) (g : IsWhole deck w) (sent : ℕ → TaskId → Bool) (had : ℕ → TaskId → Res → Bool)
    (h : IsHeard deck w sent had) (ranked : AreShown deck w)
    (is : (s : ℕ) (n : NodeState) (t : TaskId) → Site w s n → is_home_at deck s t ≡ true → sent_by n t ≡ true
    → sent s t ≡ true)
    (r : Res) (wide : is_systems r ≡ true) (target : SysId) (moved : ℕ → List Moved) (W : World)
    (removed : (s : ℕ) → has W.medium.removed s ≡ ((target.0 == s) || has w.medium.removed s))
    (boxes : (s : ℕ) → s < length w.nodes → has W.medium.removed s ≡ false
    → inbox W.medium s ≡ inbox w.medium s ++ notices_to target (moved s))
    (after : (s : ℕ) (k : NodeState) → slice_get W.nodes s ≡ Some k → has W.medium.removed s ≡ false
    → IsAfter w target s k)
    (count : length W.nodes ≡ length w.nodes) where
  abbrev rank : TaskId → ℕ
  rank = rank_of deck w g sent had h ranked is r wide

  abbrev those : List Elem
  those = listed deck w g sent had h ranked is r wide

  abbrev pub rest : List Elem
  rest = left target.0 (listed deck w g sent had h ranked is r wide)

  -- who is live then was so, and is another system
  other : (s : ℕ) → has W.medium.removed s ≡ false → (target.0 == s) ≡ false
  other s alive =
      false_by (target.0 == s) (λ same.
      no_truth (has W.medium.removed s) (removed s ∙ or_left (target.0 == s) (has w.medium.removed s) same) alive)

  -- ---- one system
  module _ (s : ℕ) (k : NodeState) (found : slice_get W.nodes s ≡ Some k) (alive : has W.medium.removed s ≡ false) where
    abbrev a : IsAfter w target s k
    a = after s k found alive

    abbrev then : NodeState
    then = caught_up deck W (record { 0 = s }) k

    alike : TakesAlike deck (inbox w.medium s) a.before k
    alike =
        takes-alike deck (inbox w.medium s)
        (fit-plain deck w.medium.words s (inbox w.medium s) (g.system s a.before a.site).fits) a.before k
        (g.roles.node s a.before a.site).part a.part (g.roles.node s a.before a.site).star a.star a.alike

    by-moved : (ms : List Moved) →
        KeepsFaces (taking deck k (inbox w.medium s)).tasks
        (taking deck (taking deck k (inbox w.medium s)) (notices_to target ms)).tasks
    by-moved [] =
        same-keeps (taking deck k (inbox w.medium s)).tasks (taking deck k (inbox w.medium s)).tasks
        (faces-none (taking deck k (inbox w.medium s)).tasks)
    by-moved (m ∷ ms) =
        let y : NodeState = taking deck k (inbox w.medium s) in
        subst (λ (z : NodeState). KeepsFaces y.tasks z.tasks)
        (sym (taken-node deck y alike.second (Notice target (m ∷ ms)) alike.second_is))
        (notice-keeps deck y.known y.tasks alike.second target (m ∷ ms))

    then-is : caught_up deck W (record { 0 = s }) k
        ≡ taking deck (taking deck k (inbox w.medium s)) (notices_to target (moved s))
    then-is =
        ap (λ (o : Option StarPart). taking deck (once_changed deck W (record { 0 = s }) k o) (inbox W.medium s)) a.star
        ∙ (ap (taking deck k) (boxes s (subst (λ i. s < i) count (slice_get_within W.nodes s k found)) alive)
        ∙ taking-more deck (inbox w.medium s) (notices_to target (moved s)) k)

    keeps : KeepsFaces (later_of deck w g sent had h ranked is r wide s a.before).tasks
        (caught_up deck W (record { 0 = s }) k).tasks
    keeps =
        subst
        (λ (z : NodeState).
        KeepsFaces (later_of deck w g sent had h ranked is r wide s a.before).tasks z.tasks)
        (sym then-is)
        (keeps-then (taking deck a.before (inbox w.medium s)).tasks (taking deck k (inbox w.medium s)).tasks
        (taking deck (taking deck k (inbox w.medium s)) (notices_to target (moved s))).tasks
        (same-keeps (taking deck a.before (inbox w.medium s)).tasks (taking deck k (inbox w.medium s)).tasks
        alike.alike)
        (by-moved (moved s)))

    own-left : (t : TaskId) → is_home_at deck s t ≡ true → (target.0 == t.system.0) ≡ false →
        HasOwn r (rank_of deck w g sent had h ranked is r wide)
        (left target.0 (listed deck w g sent had h ranked is r wide)) t
        (state_of (caught_up deck W (record { 0 = s }) k).tasks t).records
    own-left t home apart = record {
      elems =
          recs-faces r t (state_of then.tasks t).records
          ∙ (ap (face_elems r t) (keeps.faces_are t)
          ∙ (sym (recs-faces r t (state_of (taking deck a.before (inbox w.medium s)).tasks t).records)
          ∙ (own-elems deck w g sent had h ranked is r wide s a.before a.site t home
          ∙ sym (left-task target.0 t those apart))));
      ranked =
          recs-ranked r rank t (state_of then.tasks t).records
          (from-faces r (rank t) (state_of then.tasks t).records
          (subst (FacesRank r (rank t)) (sym (keeps.faces_are t))
          (to-faces r (rank t) (state_of (taking deck a.before (inbox w.medium s)).tasks t).records
          (own-rank deck w g sent had h ranked is r wide s a.before a.site t home))));
    }

    has-rest :
        HaveThese r (rank_of deck w g sent had h ranked is r wide)
        (left target.0 (listed deck w g sent had h ranked is r wide)) (names_of deck s)
        (on_record deck (caught_up deck W (record { 0 = s }) k) r)
    unfolding state_of
    has-rest =
        system-has r rank rest deck s then (scripts_of deck s)
        (ap (names_of deck) (keeps.system ∙ ((was.system).at.good).system)) each
      where
        was : Caught deck w.medium.words (items w.fixed) g.right s
            (later_of deck w g sent had h ranked is r wide s a.before)
        was = all-taken deck w g sent had h ranked is r wide s a.before a.site

        each : (i : ℕ) (x : Script) → slice_get (scripts_of deck s) i ≡ Some x →
            (y : TaskState) × (slice_get (caught_up deck W (record { 0 = s }) k).tasks.tasks i ≡ Some y)
            × HasOwn r (rank_of deck w g sent had h ranked is r wide)
            (left target.0 (listed deck w g sent had h ranked is r wide)) (task_at s x.job (0 + i)) y.records
        each i x found =
            let home : is_home_at deck s (task_at s x.job i) ≡ true = named-home deck s i x found in
            let inside =
            and_parts (then.tasks.system == s) (nat_lt i (length then.tasks.tasks))
            (keeps.here (task_at s x.job i) ∙ ((was.system).at.good).here (task_at s x.job i) home) in (
              state_of then.tasks (task_at s x.job i),
              slice_get-get_or then.tasks.tasks i new_task (ltb-true i (length then.tasks.tasks) inside.1),
              subst
                  (λ j.
                  HasOwn r (rank_of deck w g sent had h ranked is r wide)
                  (left target.0 (listed deck w g sent had h ranked is r wide)) (task_at s x.job j)
                  (state_of then.tasks (task_at s x.job i)).records)
                  (sym (zero_plus i)) (own-left (task_at s x.job i) home (other s alive)),
            )

  -- ---- together
  abbrev names : List TaskId
  names = live_names deck W.medium.removed 0 W.nodes

  these : HaveThese r rank rest names (shown_from deck W r 0 W.nodes)
  these = shown-have r rank rest deck W 0 W.nodes each
    where
      each : (k : ℕ) (n : NodeState) → slice_get W.nodes k ≡ Some n → has W.medium.removed (0 + k) ≡ false →
          HaveThese r (rank_of deck w g sent had h ranked is r wide)
          (left target.0 (listed deck w g sent had h ranked is r wide)) (names_of deck (0 + k))
          (on_record deck (caught_up deck W (record { 0 = 0 + k }) n) r)
      each k n found alive =
          subst
          (λ i.
          HaveThese r (rank_of deck w g sent had h ranked is r wide)
          (left target.0 (listed deck w g sent had h ranked is r wide)) (names_of deck i)
          (on_record deck (caught_up deck W (record { 0 = i }) n) r))
          (sym (zero_plus k))
          (has-rest k n found (subst (λ i. has W.medium.removed i ≡ false) (zero_plus k) alive))

  all-named : list_all (λ x. is_among x.task names) rest ≡ true
  all-named = each-task (λ t. is_among t names) rest named
    where
      named : (t : TaskId) → has_task rest t ≡ true → is_among t names ≡ true
      named t stands =
          let s : ℕ = t.system.0 in
          let was = left-has target.0 those t stands in
          let below = live-below w s (element-live deck w g sent had h ranked is r wide t was.0) in
          let alive : has W.medium.removed s ≡ false =
          removed s ∙ (ap (λ b. b || has w.medium.removed s) was.1 ∙ below.1) in
          live-named deck W.medium.removed 0 W.nodes s (get_or W.nodes s (first_node deck 0)) t
          (slice_get-get_or W.nodes s (first_node deck 0) (subst (λ i. s < i) (sym count) below.0))
          (subst (λ i. has W.medium.removed i ≡ false) (sym (zero_plus s)) alive)
          (subst (λ i. is_among t (names_of deck i) ≡ true) (sym (zero_plus s))
          (home-named deck s t (element-home deck w g sent had h ranked is r wide t was.0)))

  pub shown-rest : map elem_of (by_rank (shown_from deck W r 0 W.nodes))
      ≡ left target.0 (listed deck w g sent had h ranked is r wide)
  shown-rest =
      by_rank-is r rank (shown_from deck W r 0 W.nodes) rest these.ranked
      (rises-left (is_of_other target.0) rank those (rising deck w g sent had h ranked is r wide))
      (subst (λ (xs : List Elem). IsPermutation xs rest) (sym these.elems)
      (IsPermutation-sym rest (of_tasks names rest)
      (by-tasks names rest (live-apart deck W.medium.removed 0 W.nodes) all-named)))
