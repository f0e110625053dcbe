-- The ranks that a table gives where the complex changes to star mode: a system that changes gives the records of its
-- tasks the ranks that the table's managers give their elements, whichever system it is.
use Rattle.grs_world.proofs.Common.{[], ◌&&◌, ◌++◌, ◌<◌, ◌==◌, ◌||◌, ◌∙◌, ◌∷◌, ◌≡◌, ◌≢◌, and_from, and_parts, ap}
use Rattle.grs_world.proofs.Common.{are_within, Bool, by_test, cond, Elem, entry_of_res, eq-eqb, eqb-false, eqb-true}
use Rattle.grs_world.proofs.Common.{false, false_by, has_task, is_entry, is_task, List, list_all, list_all-append}
use Rattle.grs_world.proofs.Common.{list_of, most_systems, no_truth, None, not, not-true, on_record, or_right}
use Rattle.grs_world.proofs.Common.{part_by_table, plain, Ranked, ranked_by, RankedRow, refl, Res, same_res}
use Rattle.grs_world.proofs.Common.{same_res-exact, same_Some, same_task, same_task-exact, same_task-itself, Some}
use Rattle.grs_world.proofs.Common.{State, state_of, subst, sym, SysId, TaskId, TaskState, TasksView, true}
use Rattle.grs_world.proofs.Common.{with_list_ranks, with_rank, with_rank_by, with_ranks, ℕ}
use Rattle.contention_mgr.specs.Elements.{holds}
use Rattle.contention_mgr.specs.Loads.{loaded, ranked_list, ranked_rows}
use Rattle.contention_mgr.specs.Manager.{is_of}
use Rattle.contention_mgr.proofs.ItemLemmas.{holds-list}
use Rattle.grs_base.specs.Lists.{is_apart}
use Rattle.grs_node.proofs.TableParts.{part-list, table-kept}
use Rattle.mode_migrate.proofs.PartLaws.{parts_are_numbered}
use Rattle.mode_migrate.specs.Migrate.{managed_by_table, part_by, part_of, row_is_of}
use Rattle.grs_world.proofs.star.Ranked.{did-rank, ranked}
use Rattle.grs_world.proofs.star.Roles.{res-within}
use Rattle.grs_world.proofs.star.Under.{entry-is, entry-same}
use Rattle.grs_world.proofs.star.hearing.Ranks.{HaveRank, rank-apart, rank-given}
use Rattle.grs_world.proofs.star.ranks.Carried.{AllOf, CarriesRank, all_at, first-has, has_this_rank, more-has}
use Rattle.grs_world.proofs.star.ranks.Carried.{rank-absent}
use Rattle.grs_world.proofs.star.ranks.Settles.{each-entry}
use Rattle.grs_world.proofs.at_rest.StarTasks.{at-place}

-- ---- elements that give their tasks' records their ranks, one after the other
abbrev pub each_ranked : TasksView → List Ranked → TasksView
each_ranked v [] = v
each_ranked v (x ∷ xs) = each_ranked (with_rank_by v x.res x.elem.task x.rank) xs

list-each : (v : TasksView) (r : Res) (es : List Elem) (ns : List ℕ) (more : List Ranked)
    → each_ranked v (ranked_list r es ns ++ more) ≡ each_ranked (with_list_ranks v r es ns) more
list-each v r [] ns more = refl
list-each v r (e ∷ es) [] more = refl
list-each v r (e ∷ es) (n ∷ ns) more = list-each (with_rank_by v r e.task n) r es ns more

ranks-each : (v : TasksView) (xs : List RankedRow) → each_ranked v (ranked_rows xs) ≡ with_ranks v xs
ranks-each v [] = refl
ranks-each v (x ∷ xs) =
    list-each v x.0.res x.0.elems x.1 (ranked_rows xs) ∙ ranks-each (with_list_ranks v x.0.res x.0.elems x.1) xs

-- Of those on a resource only task t itself is at its place.
module _ (r : Res) (n : ℕ) (t : TaskId) where
  abbrev Alone : TasksView → List Ranked → Type 0
  Alone v xs =
      (u : TaskId) → has_task (list_of (plain xs) r) u ≡ true → is_task v u ≡ true → u.task ≡ t.task → u ≡ t

  abbrev IsRanked : TasksView → Type 0
  IsRanked v = HaveRank r n (state_of v t).records

  -- one that is here
  given-here : (v : TasksView) (x : Ranked) → is_task v x.elem.task ≡ true → x.elem.task.task ≡ t.task
      → HaveRank r n (on_record x.res (ranked x.rank) (state_of v x.elem.task).records)
      → IsRanked (with_rank v x.elem.task x.res x.rank)
  given-here v x here same h =
      subst (λ (y : TaskState). HaveRank r n y.records)
      (sym (at-place (with_rank v x.elem.task x.res x.rank) x.elem.task t (sym same)
      ∙ (did-rank v x.elem.task x.res x.rank here).state))
      h

  -- of this task and resource it gives it the rank,
  step-gives : (v : TasksView) (x : Ranked) → is_of r t x ≡ true → x.rank ≡ n → is_task v t ≡ true
      → IsRanked (with_rank_by v x.res x.elem.task x.rank)
  step-gives v x of same here =
      let both = and_parts (same_res r x.res) (same_task t x.elem.task) of in
      let res : r ≡ x.res = same_res-exact r x.res both.0 in
      let task : t ≡ x.elem.task = same_task-exact t x.elem.task both.1 in
      let there : is_task v x.elem.task ≡ true = ap (is_task v) (sym task) ∙ here in
      subst IsRanked
      (sym (ap (λ b. cond b (with_rank v x.elem.task x.res x.rank) v) there))
      (given-here v x there (ap (λ (u : TaskId). u.task) (sym task))
      (subst (λ q. HaveRank r n (on_record q (ranked x.rank) (state_of v x.elem.task).records)) res
      (subst (λ k. HaveRank r k (on_record r (ranked x.rank) (state_of v x.elem.task).records)) same
      (rank-given r x.rank (state_of v x.elem.task).records))))

  -- and any other leaves it
  step-stays : (v : TasksView) (x : Ranked) → has_this_rank r t n x ≡ true
      → (same_res r x.res ≡ true → is_task v x.elem.task ≡ true → x.elem.task.task ≡ t.task → x.elem.task ≡ t)
      → IsRanked v → IsRanked (with_rank_by v x.res x.elem.task x.rank)
  step-stays v x right alone h =
      by_test IsRanked (is_task v x.elem.task) (with_rank v x.elem.task x.res x.rank) v
      (λ here. by-place here (x.elem.task.task == t.task) refl) (λ away. h)
    where
      by-res : is_task v x.elem.task ≡ true → x.elem.task.task ≡ t.task
          → HaveRank r n (state_of v x.elem.task).records → (b : Bool) → same_res r x.res ≡ b
          → HaveRank r n (on_record x.res (ranked x.rank) (state_of v x.elem.task).records)
      by-res here same old false e = rank-apart r n x.res x.rank (state_of v x.elem.task).records e old
      by-res here same old true e =
          let task : x.elem.task ≡ t = alone e here same in
          let of : is_of r t x ≡ true =
          and_from (same_res r x.res) (same_task t x.elem.task) e
          (ap (same_task t) task ∙ same_task-itself t) in
          let k : x.rank ≡ n = eqb-true x.rank n (sym (ap (λ b. not b || (x.rank == n)) of) ∙ right) in
          subst (λ q. HaveRank r n (on_record q (ranked x.rank) (state_of v x.elem.task).records))
          (same_res-exact r x.res e)
          (subst (λ i. HaveRank r i (on_record r (ranked x.rank) (state_of v x.elem.task).records)) k
          (rank-given r x.rank (state_of v x.elem.task).records))

      by-place : is_task v x.elem.task ≡ true → (b : Bool) → (x.elem.task.task == t.task) ≡ b
          → IsRanked (with_rank v x.elem.task x.res x.rank)
      by-place here false e =
          let apart : x.elem.task.task ≢ t.task = eqb-false x.elem.task.task t.task e in
          subst (λ (y : TaskState). HaveRank r n y.records)
          (sym ((did-rank v x.elem.task x.res x.rank here).changed.others t (λ is. apart (sym is)))) h
      by-place here true e =
          let same : x.elem.task.task ≡ t.task = eqb-true x.elem.task.task t.task e in
          given-here v x here same
          (by-res here same
          (subst (λ (y : TaskState). HaveRank r n y.records) (at-place v x.elem.task t (sym same)) h)
          (same_res r x.res) refl)

  here-still : (v : TasksView) (x : Ranked) (u : TaskId)
      → is_task (with_rank_by v x.res x.elem.task x.rank) u ≡ is_task v u
  here-still v x u =
      by_test (λ (w : TasksView). is_task w u ≡ is_task v u) (is_task v x.elem.task)
      (with_rank v x.elem.task x.res x.rank) v
      (λ here. (did-rank v x.elem.task x.res x.rank here).changed.here u) (λ away. refl)

  alone-first : (v : TasksView) (x : Ranked) (xs : List Ranked) → Alone v (x ∷ xs) → same_res r x.res ≡ true
      → is_task v x.elem.task ≡ true → x.elem.task.task ≡ t.task → x.elem.task ≡ t
  alone-first v x xs alone is here same = alone x.elem.task (first-has r x xs is) here same

  alone-rest : (v : TasksView) (x : Ranked) (xs : List Ranked) → Alone v (x ∷ xs)
      → Alone (with_rank_by v x.res x.elem.task x.rank) xs
  alone-rest v x xs alone u has here same =
      alone u (more-has r x xs u has) (sym (here-still v x u) ∙ here) same

  all-stay : (v : TasksView) (xs : List Ranked) → AllOf (has_this_rank r t n) xs → Alone v xs → IsRanked v
      → IsRanked (each_ranked v xs)
  all-stay v [] right alone h = h
  all-stay v (x ∷ xs) right alone h =
      let both = and_parts (has_this_rank r t n x) (list_all (has_this_rank r t n) xs) right in
      all-stay (with_rank_by v x.res x.elem.task x.rank) xs both.1 (alone-rest v x xs alone)
      (step-stays v x both.0 (alone-first v x xs alone) h)

  -- So where all on the resource of the task have a rank, and there is one, it is on record.
  pub all-give : (v : TasksView) (xs : List Ranked) → AllOf (has_this_rank r t n) xs → Alone v xs
      → is_task v t ≡ true → holds (plain xs) r t ≡ true → IsRanked (each_ranked v xs)
  all-give v [] right alone here has = no_truth true refl (sym has)
  all-give v (x ∷ xs) right alone here has =
      let both = and_parts (has_this_rank r t n x) (list_all (has_this_rank r t n) xs) right in
      let w : TasksView = with_rank_by v x.res x.elem.task x.rank in
      go (is_of r t x) refl has both.0
      (λ more. all-give w xs both.1 (alone-rest v x xs alone) (here-still v x t ∙ here) more)
      (λ now. all-stay w xs both.1 (alone-rest v x xs alone) now)
    where
      go : (b : Bool) → is_of r t x ≡ b → (b || holds (plain xs) r t) ≡ true → has_this_rank r t n x ≡ true
          → (holds (plain xs) r t ≡ true → IsRanked (each_ranked v (x ∷ xs)))
          → (IsRanked (with_rank_by v x.res x.elem.task x.rank) → IsRanked (each_ranked v (x ∷ xs)))
          → IsRanked (each_ranked v (x ∷ xs))
      go false of k own more now = more k
      go true of k own more now =
          now (step-gives v x of (eqb-true x.rank n (sym (ap (λ b. not b || (x.rank == n)) of) ∙ own)) here)

-- ---- the rank of a task's element among others
abbrev pub rank_in : Res → TaskId → List Ranked → ℕ
rank_in r t [] = 0
rank_in r t (x ∷ xs) = cond (is_of r t x) x.rank (rank_in r t xs)

-- is one where no task stands twice
one-rank : (r : Res) (t : TaskId) (xs : List Ranked) → is_apart (list_of (plain xs) r) ≡ true
    → AllOf (has_this_rank r t (rank_in r t xs)) xs
one-rank r t [] apart = refl
one-rank r t (x ∷ xs) apart = go (same_res r x.res) (same_task t x.elem.task) refl refl apart (one-rank r t xs)
  where
    rest : Bool → Bool
    rest a = is_apart (cond a (x.elem ∷ list_of (plain xs) r) (list_of (plain xs) r))

    none-here : is_of r t x ≡ false → AllOf (has_this_rank r t (rank_in r t xs)) xs
        → AllOf (has_this_rank r t (rank_in r t (x ∷ xs))) (x ∷ xs)
    none-here other more =
        subst (λ k. AllOf (has_this_rank r t k) (x ∷ xs))
        (sym (ap (λ b. cond b x.rank (rank_in r t xs)) other))
        (and_from (has_this_rank r t (rank_in r t xs) x) (list_all (has_this_rank r t (rank_in r t xs)) xs)
        (ap (λ b. not b || (x.rank == rank_in r t xs)) other) more)

    off : (a b : Bool) → same_res r x.res ≡ a → same_task t x.elem.task ≡ b → (a && b) ≡ false → is_of r t x ≡ false
    off a b is mine h = ap (λ c. c && same_task t x.elem.task) is ∙ (ap (λ c. a && c) mine ∙ h)

    go : (a b : Bool) → same_res r x.res ≡ a → same_task t x.elem.task ≡ b → rest a ≡ true
        → (is_apart (list_of (plain xs) r) ≡ true → AllOf (has_this_rank r t (rank_in r t xs)) xs)
        → AllOf (has_this_rank r t (rank_in r t (x ∷ xs))) (x ∷ xs)
    go true true is mine alone more =
        let here : is_of r t x ≡ true = and_from (same_res r x.res) (same_task t x.elem.task) is mine in
        let both =
        and_parts (not (has_task (list_of (plain xs) r) x.elem.task)) (is_apart (list_of (plain xs) r)) alone in
        let none : holds (plain xs) r t ≡ false =
        holds-list (plain xs) r t
        ∙ (ap (has_task (list_of (plain xs) r)) (same_task-exact t x.elem.task mine)
        ∙ not-true (has_task (list_of (plain xs) r) x.elem.task) both.0) in
        subst (λ k. AllOf (has_this_rank r t k) (x ∷ xs)) (sym (ap (λ b. cond b x.rank (rank_in r t xs)) here))
        (and_from (has_this_rank r t x.rank x) (list_all (has_this_rank r t x.rank) xs)
        (or_right (not (is_of r t x)) (x.rank == x.rank) (eq-eqb x.rank x.rank refl)) (rank-absent r t x.rank xs none))
    go true false is other alone more =
        none-here (off true false is other refl)
        (more (and_parts (not (has_task (list_of (plain xs) r) x.elem.task)) (is_apart (list_of (plain xs) r)) alone).1)
    go false b is mine alone more = none-here (off false b is mine refl) (more alone)

-- ---- a list of one resource in front of others
list-front : (r q : Res) (es : List Elem) (ns : List ℕ) (xs ys : List Ranked)
    → list_of (plain xs) r ≡ list_of (plain ys) r
    → list_of (plain (ranked_list q es ns ++ xs)) r ≡ list_of (plain (ranked_list q es ns ++ ys)) r
list-front r q [] ns xs ys h = h
list-front r q (x ∷ es) [] xs ys h = h
list-front r q (x ∷ es) (n ∷ ns) xs ys h =
    ap (λ (zs : List Elem). cond (same_res r q) (x ∷ zs) zs) (list-front r q es ns xs ys h)

list-skip : (r q : Res) → same_res r q ≡ false → (es : List Elem) (ns : List ℕ) (xs : List Ranked)
    → list_of (plain (ranked_list q es ns ++ xs)) r ≡ list_of (plain xs) r
list-skip r q other [] ns xs = refl
list-skip r q other (x ∷ es) [] xs = refl
list-skip r q other (x ∷ es) (n ∷ ns) xs =
    ap
    (λ b. cond b (x ∷ list_of (plain (ranked_list q es ns ++ xs)) r) (list_of (plain (ranked_list q es ns ++ xs)) r))
    other
    ∙ list-skip r q other es ns xs

rank-skip : (r : Res) (t : TaskId) (k : ℕ) (q : Res) → same_res r q ≡ false → (es : List Elem) (ns : List ℕ)
    (xs : List Ranked)
    → AllOf (has_this_rank r t k) xs → AllOf (has_this_rank r t k) (ranked_list q es ns ++ xs)
rank-skip r t k q other [] ns xs h = h
rank-skip r t k q other (x ∷ es) [] xs h = h
rank-skip r t k q other (x ∷ es) (n ∷ ns) xs h =
    and_from (has_this_rank r t k (record { res = q; elem = x; rank = n; untold = false }))
    (list_all (has_this_rank r t k) (ranked_list q es ns ++ xs))
    (ap (λ b. not (b && same_task t x.task) || (n == k)) other) (rank-skip r t k q other es ns xs h)

-- ---- the rank of a task's element on a resource of a lock entry, by a table
abbrev pub table_rank : ℕ → State → ℕ → Res → TaskId → ℕ
table_rank entries table e r t = rank_in r t (ranked_rows (part_by entries table e))

module _ (entries : ℕ) (some : 0 < entries) (table : State) (few : are_within most_systems table ≡ true) (r : Res)
    (e : ℕ) (of : entry_of_res entries r ≡ Some e) (apart : is_apart (list_of table r) ≡ true) (t : TaskId) where
  abbrev the_rank : ℕ
  the_rank = table_rank entries table e r t

  listed : list_of (plain (ranked_rows (part_by entries table e))) r ≡ list_of table r
  listed =
      part-list entries table e r
      ∙ ap (λ b. cond b (list_of table r) []) (entry-same e (entry_of_res entries r) of)

  all-there : AllOf (has_this_rank r t the_rank) (ranked_rows (part_by entries table e))
  all-there = one-rank r t (ranked_rows (part_by entries table e)) (ap is_apart listed ∙ apart)

  -- each manager carries it
  pub table-carries : (s : SysId) → CarriesRank r t the_rank (part_by_table entries s table).manager
  table-carries s =
      each-entry (has_this_rank r t the_rank) (part_by_table entries s table).manager.entries (λ k.
      subst (λ o. all_at (has_this_rank r t the_rank) o ≡ true) (sym (table-kept entries some s table few k))
      (by-manager k (managed_by_table entries s table k)))
    where
      by-entry : (k : ℕ) (b : Bool) → is_entry k (entry_of_res entries r) ≡ b
          → AllOf (has_this_rank r t the_rank) (ranked_rows (part_by entries table k))
      by-entry k true is =
          let same : e ≡ k =
          same_Some e k (sym of ∙ entry-is k (entry_of_res entries r) is) in
          subst (λ i. AllOf (has_this_rank r t the_rank) (ranked_rows (part_by entries table i))) same all-there
      by-entry k false other =
          rank-absent r t the_rank (ranked_rows (part_by entries table k))
          (holds-list (plain (ranked_rows (part_by entries table k))) r t
          ∙ ap (λ es. has_task es t)
          (part-list entries table k r ∙ ap (λ b. cond b (list_of table r) []) other))

      by-manager : (k : ℕ) (b : Bool)
          → all_at (has_this_rank r t the_rank) (cond b (Some (loaded (part_by entries table k))) None) ≡ true
      by-manager k true = by-entry k (is_entry k (entry_of_res entries r)) refl
      by-manager k false = refl

  -- ---- the rows of all entries
  -- those of other entries have nothing on the resource
  other-res : (q : Res) → is_entry e (entry_of_res entries q) ≡ false → same_res r q ≡ false
  other-res q away =
      false_by (same_res r q) (λ same.
      no_truth (is_entry e (entry_of_res entries r)) (entry-same e (entry_of_res entries r) of)
      (ap (λ z. is_entry e (entry_of_res entries z)) (same_res-exact r q same) ∙ away))

  others-list : (xs : List RankedRow)
      → list_of (plain (ranked_rows xs)) r ≡ list_of (plain (ranked_rows (part_of entries e xs))) r
  others-list [] = refl
  others-list (x ∷ xs) = go (row_is_of entries e x.0) refl (others-list xs)
    where
      go : (b : Bool) → row_is_of entries e x.0 ≡ b
          → list_of (plain (ranked_rows xs)) r ≡ list_of (plain (ranked_rows (part_of entries e xs))) r
          → list_of (plain (ranked_list x.0.res x.0.elems x.1 ++ ranked_rows xs)) r
          ≡ list_of (plain (ranked_rows (cond b (x ∷ part_of entries e xs) (part_of entries e xs)))) r
      go true is more =
          list-front r x.0.res x.0.elems x.1 (ranked_rows xs) (ranked_rows (part_of entries e xs)) more
      go false away more = list-skip r x.0.res (other-res x.0.res away) x.0.elems x.1 (ranked_rows xs) ∙ more

  others-rank : (xs : List RankedRow) → AllOf (has_this_rank r t the_rank) (ranked_rows (part_of entries e xs))
      → AllOf (has_this_rank r t the_rank) (ranked_rows xs)
  others-rank [] h = refl
  others-rank (x ∷ xs) h = go (row_is_of entries e x.0) refl h (others-rank xs)
    where
      go : (b : Bool) → row_is_of entries e x.0 ≡ b →
          AllOf (has_this_rank r t the_rank)
          (ranked_rows (cond b (x ∷ part_of entries e xs) (part_of entries e xs)))
          →
          (AllOf (has_this_rank r t the_rank) (ranked_rows (part_of entries e xs))
          → AllOf (has_this_rank r t the_rank) (ranked_rows xs))
          → AllOf (has_this_rank r t the_rank) (ranked_list x.0.res x.0.elems x.1 ++ ranked_rows xs)
      go true is all more =
          let both =
          and_parts (list_all (has_this_rank r t the_rank) (ranked_list x.0.res x.0.elems x.1))
          (list_all (has_this_rank r t the_rank) (ranked_rows (part_of entries e xs)))
          (sym (list_all-append (has_this_rank r t the_rank) (ranked_list x.0.res x.0.elems x.1)
          (ranked_rows (part_of entries e xs)))
          ∙ all) in
          list_all-append (has_this_rank r t the_rank) (ranked_list x.0.res x.0.elems x.1) (ranked_rows xs)
          ∙ and_from (list_all (has_this_rank r t the_rank) (ranked_list x.0.res x.0.elems x.1))
          (list_all (has_this_rank r t the_rank) (ranked_rows xs)) both.0 (more both.1)
      go false away all more =
          rank-skip r t the_rank x.0.res (other-res x.0.res away) x.0.elems x.1 (ranked_rows xs) (more all)

  numbered : part_of entries e (ranked_by entries table) ≡ part_by entries table e
  numbered = parts_are_numbered entries e table (res-within entries r e some of)

  -- and a task of a system has it on record, where no other stands at its place
  pub table-gives : (v : TasksView) → is_task v t ≡ true → has_task (list_of table r) t ≡ true
      → ((u : TaskId) → has_task (list_of table r) u ≡ true → is_task v u ≡ true → u.task ≡ t.task → u ≡ t)
      → HaveRank r the_rank (state_of (with_ranks v (ranked_by entries table)) t).records
  table-gives v here stands alone =
      let all : list_of (plain (ranked_rows (ranked_by entries table))) r ≡ list_of table r =
      others-list (ranked_by entries table)
      ∙ (ap (λ xs. list_of (plain (ranked_rows xs)) r) numbered ∙ listed) in
      subst (λ (w : TasksView). HaveRank r the_rank (state_of w t).records)
      (ranks-each v (ranked_by entries table))
      (all-give r the_rank t v (ranked_rows (ranked_by entries table))
      (others-rank (ranked_by entries table)
      (subst (λ xs. AllOf (has_this_rank r t the_rank) (ranked_rows xs)) (sym numbered) all-there))
      (λ u has at same. alone u (ap (λ es. has_task es u) (sym all) ∙ has) at same) here
      (holds-list (plain (ranked_rows (ranked_by entries table))) r t ∙ (ap (λ es. has_task es t) all ∙ stands)))
