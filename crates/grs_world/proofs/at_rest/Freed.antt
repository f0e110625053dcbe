-- Where another system is removed, a system tells its tasks control by what is left of each list of the whole complex:
-- who becomes owner and is on record is marked then, and what was marked stays so.
use Rattle.grs_world.proofs.Common.{[], ◌&&◌, ◌==◌, ◌||◌, ◌∙◌, ◌∷◌, ◌≡◌, and_from, and_parts, ap, AreLists, Bool, cond}
use Rattle.grs_world.proofs.Common.{Deck, Elem, false, false_by, filter, freed, has_res, has_task, is_among, is_marked}
use Rattle.grs_world.proofs.Common.{is_systems, is_task, List, list_any, list_of, map, Matches, no_truth, not, or_left}
use Rattle.grs_world.proofs.Common.{or_right, owns, owns-has, Phase, refl, remove_state, Res, Row, rows-lists, rows_of}
use Rattle.grs_world.proofs.Common.{same_res, same_res-exact, same_res-itself, same_task, same_task-exact, Some, State}
use Rattle.grs_world.proofs.Common.{state_of, subst, sym, TaskId, TasksView, tell_freed, tell_new, true, ℕ}
use Rattle.std.specs.Prelude.{take}
use Rattle.freed_owners.specs.Freed.{newcomers}
use Rattle.grs_base.specs.Lists.{owners}
use Rattle.grs_known.proofs.lists.Owners.{is_among-pick, owns-any}
use Rattle.grs_base.specs.State.{is_of_other}
use Rattle.grs_base.specs.Rows.{lists_from, row_of}
use Rattle.std.specs.FinMap.{put}
use Rattle.std.specs.FinMap.Entries.{by_order}
use Rattle.std.specs.Ordering.{is_eq}
use Rattle.std.specs.declared.cmp.Ordering.{Ordering}
use Rattle.std.specs.declared.cmp.Ordering.TheVariants.{Less, Equal, Greater}
use Rattle.grs_base.specs.ResOrder.{res_order}
use Rattle.grs_base.proofs.OrderLaws.{same_res-tie}
use Rattle.grs_wire.proofs.RemoveLaws.{list_of-remove}
use Rattle.grs_world.proofs.at_rest.Steps.{AllDate, date-new}
use Rattle.grs_known.proofs.records.ToldAll.{ToldAll, told-all}
use Rattle.task_state.specs.declared.state.Phase.TheVariants as phases

-- ---- who is told
-- whether a task gets control of a resource by one of these lists
abbrev pub is_freed : ℕ → TaskId → Res → List Row → Bool
is_freed n t r [] = false
is_freed n t r (x ∷ xs) = (same_res r x.res && is_among t (freed n x.res x.elems)) || is_freed n t r xs

-- The tasks where those were told that get control by the removal of system n.
pub record ToldFreed (v w : TasksView) (n : ℕ) (rows : List Row) : Type 0 where
  pub here : (t : TaskId) → is_task w t ≡ is_task v t
  pub has : (t : TaskId) (q : Res) → is_task v t ≡ true
      → has_res q (state_of w t).records ≡ has_res q (state_of v t).records
  pub marks : (t : TaskId) (q : Res) → is_task v t ≡ true → is_marked q (state_of v t).records ≡ true
      → is_marked q (state_of w t).records ≡ true
  pub new : (t : TaskId) (r : Res) → is_task v t ≡ true → is_freed n t r rows ≡ true
      → has_res r (state_of v t).records ≡ true → is_marked r (state_of w t).records ≡ true
  -- no phase comes of it but Ready
  pub phase : (t : TaskId) (p : Phase → Bool) → is_task v t ≡ true → p phases.Ready ≡ false
      → p (state_of w t).phase ≡ true → p (state_of v t).phase ≡ true

freed-none : (v : TasksView) (n : ℕ) → ToldFreed v v n []
freed-none v n = record {
  here = λ t. refl;
  has = λ t q at. refl;
  marks = λ t q at h. h;
  new = λ t r at gets has. absurd (cc);
  phase = λ t p at ready h. h;
}

freed-then : (v w z : TasksView) (n : ℕ) (x : Row) (xs : List Row) → ToldAll v w x.res (freed n x.res x.elems)
    → ToldFreed w z n xs → ToldFreed v z n (x ∷ xs)
freed-then v w z n x xs a b = record {
  here = λ t. b.here t ∙ a.here t;
  has = λ t q at. b.has t q (a.here t ∙ at) ∙ a.has t q at;
  marks = λ t q at h. b.marks t q (a.here t ∙ at) (a.marks t q at h);
  new = λ t r at gets has. by_first t r at has (same_res r x.res && is_among t (freed n x.res x.elems)) refl gets;
  phase = λ t p at ready h. a.phase t p at ready (b.phase t p (a.here t ∙ at) ready h);
}
  where
    by_first : (t : TaskId) (r : Res) → is_task v t ≡ true → has_res r (state_of v t).records ≡ true → (c : Bool)
        → (same_res r x.res && is_among t (freed n x.res x.elems)) ≡ c → (c || is_freed n t r xs) ≡ true
        → is_marked r (state_of z t).records ≡ true
    by_first t r at has true f gets =
        let both = and_parts (same_res r x.res) (is_among t (freed n x.res x.elems)) f in
        let one : x.res ≡ r = sym (same_res-exact r x.res both.0) in
        b.marks t r (a.here t ∙ at) (subst (λ q. is_marked q (state_of w t).records ≡ true) one
        (a.new t at both.1 (subst (λ q. has_res q (state_of v t).records ≡ true) (sym one) has)))
    by_first t r at has false f gets = b.new t r (a.here t ∙ at) gets (a.has t r at ∙ has)

told-new : (v : TasksView) (r : Res) (us : List TaskId) → ToldAll v (tell_new v (Some r) us) r us
unfolding tell_new
told-new v r us = told-all v r us

pub told-freed : (n : ℕ) (rows : List Row) (v : TasksView) → ToldFreed v (tell_freed v n rows) n rows
unfolding tell_freed
told-freed n [] v = freed-none v n
told-freed n (x ∷ xs) v =
    freed-then v (tell_new v (Some x.res) (freed n x.res x.elems))
    (tell_freed (tell_new v (Some x.res) (freed n x.res x.elems)) n xs) n x xs
    (told-new v x.res (freed n x.res x.elems)) (told-freed n xs (tell_new v (Some x.res) (freed n x.res x.elems)))

-- each task stays up to date
pub date-freed : (whole : Bool) (deck : Deck) (n : ℕ) (rows : List Row) (v : TasksView) → AllDate whole deck v
    → AllDate whole deck (tell_freed v n rows)
unfolding tell_freed
date-freed whole deck n [] v h = h
date-freed whole deck n (x ∷ xs) v h =
    date-freed whole deck n xs (tell_new v (Some x.res) (freed n x.res x.elems))
    (date-new whole deck (Some x.res) (freed n x.res x.elems) v h)

-- ---- a resource with elements has its row
module _ (s : State) (p : Res → Bool) where
  any-put : (r : Res) (es : List (Res × List Elem))
      → list_any (λ (e : Res × List Elem). p e.0) (put res_order r (list_of s r) es)
      ≡ (p r || list_any (λ (e : Res × List Elem). p e.0) es)
  any-put r [] = refl
  any-put r (e ∷ es) = go (res_order r e.0) refl (any-put r es)
    where
      go : (o : Ordering) → res_order r e.0 ≡ o
          → list_any (λ (z : Res × List Elem). p z.0) (put res_order r (list_of s r) es)
          ≡ (p r || list_any (λ (z : Res × List Elem). p z.0) es)
          →
          list_any (λ (z : Res × List Elem). p z.0)
          (by_order o ((r, list_of s r) ∷ e ∷ es) ((e.0, list_of s r) ∷ es) (e ∷ put res_order r (list_of s r) es))
          ≡ (p r || (p e.0 || list_any (λ (z : Res × List Elem). p z.0) es))
      go Less is more = refl
      go Equal is more =
          let one : r ≡ e.0 = same_res-exact r e.0 (same_res-tie r e.0 ∙ ap is_eq is) in
          sym (ap (λ b. b || (p e.0 || list_any (λ (z : Res × List Elem). p z.0) es)) (ap p one)
          ∙ twice (p e.0) (list_any (λ (z : Res × List Elem). p z.0) es))
        where
          twice : (b c : Bool) → (b || (b || c)) ≡ (b || c)
          twice true c = refl
          twice false c = refl
      go Greater is more =
          ap (λ b. p e.0 || b) more ∙ swapped (p e.0) (p r) (list_any (λ (z : Res × List Elem). p z.0) es)
        where
          swapped : (b c d : Bool) → (b || (c || d)) ≡ (c || (b || d))
          swapped true true d = refl
          swapped true false d = refl
          swapped false c d = refl

  any-lists : (hs : State)
      → list_any (λ (e : Res × List Elem). p e.0) (lists_from s hs) ≡ list_any (λ (h : Res × Elem). p h.0) hs
  any-lists [] = refl
  any-lists (h ∷ hs) = any-put h.0 (lists_from s hs) ∙ ap (λ b. p h.0 || b) (any-lists hs)

  any-of : (r : Res) (t : TaskId) → p r ≡ true → (hs : State) → has_task (list_of hs r) t ≡ true
      → list_any (λ (h : Res × Elem). p h.0) hs ≡ true
  any-of r t passes [] has = absurd (cc)
  any-of r t passes (h ∷ hs) has = go (same_res r h.0) refl has (any-of r t passes hs)
    where
      go : (b : Bool) → same_res r h.0 ≡ b → has_task (cond b (h.1 ∷ list_of hs r) (list_of hs r)) t ≡ true
          → (has_task (list_of hs r) t ≡ true → list_any (λ (z : Res × Elem). p z.0) hs ≡ true)
          → (p h.0 || list_any (λ (z : Res × Elem). p z.0) hs) ≡ true
      go true same has more =
          or_left (p h.0) (list_any (λ (z : Res × Elem). p z.0) hs) (ap p (sym (same_res-exact r h.0 same)) ∙ passes)
      go false same has more = or_right (p h.0) (list_any (λ (z : Res × Elem). p z.0) hs) (more has)

-- by lists that are those of their resources
freed-any : (s : State) (n : ℕ) (t : TaskId) (r : Res) (es : List (Res × List Elem)) → AreLists s (map row_of es)
    → is_freed n t r (map row_of es)
    ≡ list_any (λ (e : Res × List Elem). same_res r e.0 && is_among t (freed n e.0 (list_of s e.0))) es
freed-any s n t r [] are = refl
freed-any s n t r (e ∷ es) are =
    ap (λ (z : List Elem). (same_res r e.0 && is_among t (freed n e.0 z)) || is_freed n t r (map row_of es)) are.0
    ∙ ap (λ b. (same_res r e.0 && is_among t (freed n e.0 (list_of s e.0))) || b) (freed-any s n t r es are.1)

-- who owns by what is left of a list, and didn't by the list, is told
pub gets-control : (s : State) (n : ℕ) (r : Res) (t : TaskId) → is_systems r ≡ true → has_task (list_of s r) t ≡ true
    → owns (list_of s r) t ≡ false → owns (filter (is_of_other n) (list_of s r)) t ≡ true
    → is_freed n t r (rows_of s) ≡ true
gets-control s n r t wide has before after =
    freed-any s n t r (lists_from s s) (rows-lists s)
    ∙ (any-lists s (λ q. same_res r q && is_among t (freed n q (list_of s q))) s
    ∙ any-of s (λ q. same_res r q && is_among t (freed n q (list_of s q))) r t
    (and_from (same_res r r) _ (same_res-itself r) among) s has)
  where
    left : List Elem
    left = filter (is_of_other n) (list_of s r)

    among : is_among t (freed n r (list_of s r)) ≡ true
    among = ap (λ b. is_among t (cond b (newcomers (list_of s r) (filter (is_of_other n) (list_of s r))) [])) wide
        ∙ (is_among-pick (λ u. not (owns (list_of s r) u)) (take (owners left) left) t
        ∙ and_from (not (owns (list_of s r) t)) _ (ap not before) (sym (owns-any left t) ∙ after))

-- a task of another system keeps its elements
has-left : (n : ℕ) (t : TaskId) → (n == t.system.0) ≡ false → (es : List Elem)
    → has_task (filter (is_of_other n) es) t ≡ has_task es t
has-left n t apart [] = refl
has-left n t apart (e ∷ es) = go (n == e.task.system.0) refl (has-left n t apart es)
  where
    go : (c : Bool) → (n == e.task.system.0) ≡ c → has_task (filter (is_of_other n) es) t ≡ has_task es t
        → has_task (cond (not c) (e ∷ filter (is_of_other n) es) (filter (is_of_other n) es)) t
        ≡ (same_task t e.task || has_task es t)
    go false f more = ap (λ b. same_task t e.task || b) more
    go true f more =
        more
        ∙ sym (ap (λ b. b || has_task es t) (false_by (same_task t e.task)
        (λ same.
        no_truth (n == t.system.0) (ap (λ (u : TaskId). n == u.system.0) (same_task-exact t e.task same) ∙ f) apart)))

-- ---- so the records of a task of another system go on with what is left
pub matches-freed : (s : State) (n : ℕ) (v : TasksView) (t : TaskId) → is_task v t ≡ true → (n == t.system.0) ≡ false
    → Matches is_systems s t (state_of v t).records
    → Matches is_systems (remove_state s n) t (state_of (tell_freed v n (rows_of s)) t).records
matches-freed s n v t here apart h = record {
  same = λ r wide. z.has t r here ∙ (h.same r wide ∙ sym (kept r wide));
  told = λ r wide own. by_old r wide (left r wide own) (owns (list_of s r) t) refl;
}
  where
    z : ToldFreed v (tell_freed v n (rows_of s)) n (rows_of s)
    z = told-freed n (rows_of s) v

    kept : (r : Res) → is_systems r ≡ true → has_task (list_of (remove_state s n) r) t ≡ has_task (list_of s r) t
    kept r wide = ap (λ es. has_task es t) (list_of-remove s n r wide) ∙ has-left n t apart (list_of s r)

    left : (r : Res) → is_systems r ≡ true → owns (list_of (remove_state s n) r) t ≡ true
        → owns (filter (is_of_other n) (list_of s r)) t ≡ true
    left r wide own = ap (λ es. owns es t) (sym (list_of-remove s n r wide)) ∙ own

    by_old : (r : Res) → is_systems r ≡ true → owns (filter (is_of_other n) (list_of s r)) t ≡ true → (b : Bool)
        → owns (list_of s r) t ≡ b → is_marked r (state_of (tell_freed v n (rows_of s)) t).records ≡ true
    by_old r wide own true e = z.marks t r here (h.told r wide e)
    by_old r wide own false e =
        let has : has_task (list_of s r) t ≡ true =
        sym (has-left n t apart (list_of s r)) ∙ owns-has (filter (is_of_other n) (list_of s r)) t own in
        z.new t r here (gets-control s n r t wide has e own) (h.same r wide ∙ has)
