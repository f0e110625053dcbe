-- Where a run is at rest a unit's count is that of the owners which a RESERVE of the unit queued.
use Rattle.grs_world.proofs.Common.{[], ◌&&◌, ◌+◌, ◌-◌, ◌<◌, ◌==◌, ◌||◌, ◌∙◌, ◌∷◌, ◌≡◌, ◌≢◌, ◌≤◌, and_from, and_parts}
use Rattle.grs_world.proofs.Common.{ap, arith, Bool, cond, Deck, Each, Elem, entry_of_line, eq-eqb, eqb-false, eqb-true}
use Rattle.grs_world.proofs.Common.{Event, false, false_by, filter, get_or, has, hist, HistEntry, history, is_leaving}
use Rattle.grs_world.proofs.Common.{is_marked, is_res_of, is_some, is_systems, is_task, IsHere, IsHistory, IsOurs}
use Rattle.grs_world.proofs.Common.{IsRec, IsTask, items, items_are_history, length, line_entries, lines_of, List}
use Rattle.grs_world.proofs.Common.{list_all, list_any, list_of, lists, lists_after, ltb-true, map, Meaning, meanings}
use Rattle.grs_world.proofs.Common.{nat_lt, ne_eqb, new_task, no_truth, NodeState, None, not, not-true, Option, owns}
use Rattle.grs_world.proofs.Common.{Past, past_of, Rec, refl, replay, replayed, Res, run, RunItem, same_res}
use Rattle.grs_world.proofs.Common.{same_res-exact, same_task, same_task-exact, same_task-itself, scripts_of, slice_get}
use Rattle.grs_world.proofs.Common.{slice_get-past, Some, Speaks, speaks-known, State, state_of, subst, suc, sym}
use Rattle.grs_world.proofs.Common.{TaskId, TaskState, TasksView, true, units_of, zero, ℕ}
use Rattle.std.specs.Prelude.{option_to_list}
use Rattle.std.proofs.lemmas.Bool.{ltb-false}
use Rattle.grs_known.proofs.tasks.Invariant.{key}
use Rattle.grs_known.specs.Told.{queued_last, queues, queues_at}
use Rattle.grs_known.proofs.known.Histories.{elements-ask, may_have}
use Rattle.grs_legal.specs.Asks.{Script, lines_at}
use Rattle.std.specs.List.{count_by, range_with_len}
use Rattle.grs_world.specs.AtRest.{UnitsAreReserved, is_reserve, is_unit, queued_with, queued_with_by, reserves}
use Rattle.grs_world.specs.AtRest.{unit_count}
use Rattle.grs_known.specs.Past.{own_elements}
use Rattle.grs_known.proofs.known.Knows.{knows-closed}
use Rattle.std.proofs.lemmas.List.Sums.{length-filter}
use Rattle.task_state.specs.Units.{reserved_by, reserved_in, reserved_of}
use Rattle.grs_known.proofs.system.Asking.{unasked-none}
use Rattle.grs_known.proofs.system.Good.{home-ours}
use Rattle.grs_world.proofs.at_rest.AtEnd.{IsStill}
use Rattle.grs_world.proofs.at_rest.EndLines.{more-asks}
use Rattle.grs_world.proofs.at_rest.Full.{AreFull}
use Rattle.grs_world.proofs.at_rest.Held.{none-earlier}
use Rattle.grs_world.proofs.at_rest.Steps.{one-task}
use Rattle.grs_known.proofs.tasks.UpToDate.{HasUnit, unit_of}
use Rattle.grs_world.proofs.at_rest.UnitSums.{occ, occ-append, units-found, sum-same, tasks-sum, classes}
use Rattle.grs_legal.specs.declared.meaning.Meaning.TheVariants as lines

-- ---- one task: its records are its elements, and a record reserves just where its owner's RESERVE queued it
picked : (q : Res → Bool) (t : TaskId) (s : State)
    → length (filter (λ h. same_task t h.1.task && q h.0) s) ≡ length (filter (λ k. q k.0) (own_elements s t))
picked q t [] = refl
picked q t (h ∷ s) = go (same_task t h.1.task) (q h.0) refl (picked q t s)
  where
    go : (a b : Bool) → q h.0 ≡ b
        → length (filter (λ z. same_task t z.1.task && q z.0) s) ≡ length (filter (λ k. q k.0) (own_elements s t)) →
        length (cond (a && b) (h ∷ filter (λ z. same_task t z.1.task && q z.0) s)
        (filter (λ z. same_task t z.1.task && q z.0) s))
        ≡ length (filter (λ k. q k.0) (cond a ((h.0, h.1.ctl) ∷ own_elements s t) (own_elements s t)))
    go false b e k = k
    go true true e k =
        subst (λ c.
        suc (length (filter (λ z. same_task t z.1.task && q z.0) s))
        ≡ length (cond c ((h.0, h.1.ctl) ∷ filter (λ z. q z.0) (own_elements s t))
        (filter (λ z. q z.0) (own_elements s t))))
        (sym e) (ap suc k)
    go true false e k =
        subst (λ c.
        length (filter (λ z. same_task t z.1.task && q z.0) s)
        ≡ length (cond c ((h.0, h.1.ctl) ∷ filter (λ z. q z.0) (own_elements s t))
        (filter (λ z. q z.0) (own_elements s t))))
        (sym e) k

-- a record reserves its unit where it is marked
eqb-turned : (a b : ℕ) → (a == b) ≡ (b == a)
eqb-turned a b = go (a == b) refl
  where
    go : (c : Bool) → (a == b) ≡ c → c ≡ (b == a)
    go true e = sym (eq-eqb b a (sym (eqb-true a b e)))
    go false e = sym (ne_eqb b a (λ f. eqb-false a b e (sym f)))

reserves-one : (u : ℕ) (x : Rec) → occ u (reserved_by x) ≡ cond (x.told && is_unit u x.unit) 1 0
reserves-one u x = go x.told x.unit
  where
    one : (v : ℕ) (b : Bool) → (u == v) ≡ b → length (cond (v == u) (v ∷ []) []) ≡ cond b 1 0
    one v true e = ap (λ c. length (cond c (v ∷ []) [])) (sym (eqb-turned u v) ∙ e)
    one v false e = ap (λ c. length (cond c (v ∷ []) [])) (sym (eqb-turned u v) ∙ e)

    go : (a : Bool) (o : Option ℕ) → occ u (cond a (option_to_list o) []) ≡ cond (a && is_unit u o) 1 0
    go false o = refl
    go true None = refl
    go true (Some v) = one v (u == v) refl

-- the line that queued an element is the only one
any-none : (q v : ℕ → Bool) (a n : ℕ) → ((k : ℕ) → a ≤ k → q k ≡ false)
    → list_any (λ k. q k && v k) (range_with_len a n) ≡ false
any-none q v a zero h = refl
any-none q v a (suc n) h =
    ap (λ b. (b && v a) || list_any (λ k. q k && v k) (range_with_len (a + 1) n)) (h a (omega arith))
    ∙ any-none q v (a + 1) n (λ k l. h k (omega (arith, l)))

any-only : (q v : ℕ → Bool) (line a n : ℕ) → q line ≡ true → a ≤ line → line < a + n
    → ((k : ℕ) → k ≢ line → a ≤ k → q k ≡ false) → list_any (λ k. q k && v k) (range_with_len a n) ≡ v line
any-only q v line a zero here low high others = absurd (omega (arith, low, high))
any-only q v line a (suc n) here low high others =
    go (a == line) refl
    (λ l. any-only q v line (a + 1) n here l (omega (arith, high)) (λ k ne m. others k ne (omega (arith, m))))
  where
    last : (b : Bool) → (b || false) ≡ b
    last true = refl
    last false = refl

    go : (b : Bool) → (a == line) ≡ b → (a + 1 ≤ line → list_any (λ k. q k && v k) (range_with_len (a + 1) n) ≡ v line)
        → ((q a && v a) || list_any (λ k. q k && v k) (range_with_len (a + 1) n)) ≡ v line
    go true e more =
        let same : a ≡ line = eqb-true a line e in
        ap (λ b. (b && v a) || list_any (λ k. q k && v k) (range_with_len (a + 1) n)) (ap q same ∙ here)
        ∙ (ap (λ b. v a || b)
        (any-none q v (a + 1) n (λ k l. others k (λ f. absurd (omega (arith, f, l, same))) (omega (arith, l))))
        ∙ (last (v a) ∙ ap v same))
    go false e more = let ne : a ≢ line = eqb-false a line e in
        ap (λ b. (b && v a) || list_any (λ k. q k && v k) (range_with_len (a + 1) n)) (others a ne (omega arith))
        ∙ more (omega (arith, ne, low))

queuer : (ls : List Meaning) (E : List HistEntry) (r : Res) (k : ℕ) → queued_last ls E r k ≡ true
    → (h : HistEntry) × (entry_of_line ls E k ≡ Some h) × (queues r h ≡ true)
queuer ls E r k e = go (entry_of_line ls E k) refl (and_parts (queues_at r (entry_of_line ls E k)) _ e).0
  where
    go : (o : Option HistEntry) → entry_of_line ls E k ≡ o → queues_at r o ≡ true
        → (h : HistEntry) × (entry_of_line ls E k ≡ Some h) × (queues r h ≡ true)
    go None f q = absurd (cc)
    go (Some h) f q = (h, f, q)

only-last : (ls : List Meaning) (E : List HistEntry) (r : Res) (line : ℕ) → queued_last ls E r line ≡ true → (k : ℕ)
    → k ≢ line → queued_last ls E r k ≡ false
only-last ls E r line last k ne = go (nat_lt k line) refl
  where
    go : (b : Bool) → nat_lt k line ≡ b → queued_last ls E r k ≡ false
    go true e =
        let z = queuer ls E r line last in
        none-earlier ls E r line z.0 (λ a b l. more-asks a b l ls) z.1 z.2 k (ltb-true k line e)
    go false e = false_by (queued_last ls E r k) (λ q. absurd (let z = queuer ls E r k q in
        no_truth (queued_last ls E r line) last (none-earlier ls E r k z.0 (λ a b l. more-asks a b l ls) z.1 z.2 line
        (let l : line ≤ k = ltb-false k line e in omega (arith, l, ne)))))

only-line : (u : ℕ) (ls : List Meaning) (E : List HistEntry) (r : Res) (line : ℕ) → queued_last ls E r line ≡ true
    → 0 < line → line ≤ length ls → queued_with u ls E r ≡ reserves u (slice_get ls (line - 1))
only-line u ls E r line last low high =
    any-only (queued_last ls E r) (λ k. reserves u (slice_get ls (k - 1))) line 1 (length ls) last (omega (arith, low))
    (omega (arith, high)) (λ k ne l. only-last ls E r line last k ne)

reserves-unit : (u : ℕ) (o : Option Meaning) → reserves u o ≡ is_unit u (unit_of o)
reserves-unit u None = refl
reserves-unit u (Some (lines.Enq r c ret unit)) = refl
reserves-unit u (Some (lines.Deq r have)) = refl
reserves-unit u (Some (lines.Wait r)) = refl
reserves-unit u (Some (lines.Shows d)) = refl
reserves-unit u (Some lines.Nothing) = refl

state-at : (v : TasksView) (t : TaskId) (i : ℕ) → t.task ≡ i → state_of v t ≡ get_or v.tasks i new_task
unfolding state_of
state-at v t i e = ap (λ j. get_or v.tasks j new_task) e

-- who is marked owns by the task's past
marked-owns : (f : Res → Bool) (r : Res) (xs : List Rec) → Each (λ (x : Rec). x.told ≡ f x.res) xs
    → is_marked r xs ≡ true → f r ≡ true
marked-owns f r [] h m = absurd (cc)
marked-owns f r (x ∷ xs) h m = go (same_res r x.res) refl x.told refl m (marked-owns f r xs h.1)
  where
    go : (b : Bool) → same_res r x.res ≡ b → (c : Bool) → x.told ≡ c → ((b && c) || is_marked r xs) ≡ true
        → (is_marked r xs ≡ true → f r ≡ true) → f r ≡ true
    go true e true g k more = ap f (same_res-exact r x.res e) ∙ (sym h.0 ∙ g)
    go true e false g k more = more k
    go false e c g k more = more k

-- the records reserve a unit as often as the keys pass
records-count : (u : ℕ) (q : Res → Bool) (xs : List Rec) → Each (λ (x : Rec). (x.told && is_unit u x.unit) ≡ q x.res) xs
    → occ u (reserved_in xs) ≡ length (filter (λ k. q k.0) (map key xs))
records-count u q [] h = refl
records-count u q (x ∷ xs) h =
    occ-append u (reserved_by x) (reserved_in xs) ∙ go (q x.res) refl (records-count u q xs h.1)
  where
    go : (b : Bool) → q x.res ≡ b → occ u (reserved_in xs) ≡ length (filter (λ k. q k.0) (map key xs))
        → occ u (reserved_by x) + occ u (reserved_in xs)
        ≡ length (cond (q x.res) (key x ∷ filter (λ k. q k.0) (map key xs)) (filter (λ k. q k.0) (map key xs)))
    go true e k =
        let one : occ u (reserved_by x) ≡ 1 = reserves-one u x ∙ ap (λ b. cond b 1 0) (h.0 ∙ e) in
        let d : length (cond (q x.res) (key x ∷ filter (λ z. q z.0) (map key xs)) (filter (λ z. q z.0) (map key xs)))
        ≡ suc (length (filter (λ z. q z.0) (map key xs))) =
        ap (λ b. length (cond b (key x ∷ filter (λ z. q z.0) (map key xs)) (filter (λ z. q z.0) (map key xs)))) e in
        omega (arith, one, k, d)
    go false e k =
        let one : occ u (reserved_by x) ≡ 0 = reserves-one u x ∙ ap (λ b. cond b 1 0) (h.0 ∙ e) in
        let d : length (cond (q x.res) (key x ∷ filter (λ z. q z.0) (map key xs)) (filter (λ z. q z.0) (map key xs)))
        ≡ length (filter (λ z. q z.0) (map key xs)) =
        ap (λ b. length (cond b (key x ∷ filter (λ z. q z.0) (map key xs)) (filter (λ z. q z.0) (map key xs)))) e in
        omega (arith, one, k, d)

same_truths : (a b : Bool) → (a ≡ true → b ≡ true) → (b ≡ true → a ≡ true) → a ≡ b
same_truths true b f g = sym (f refl)
same_truths false true f g = g refl
same_truths false false f g = refl

-- a task of the deck at each place
task-at : (deck : Deck) (s i : ℕ) → i < length (scripts_of deck s)
    → (t : TaskId) × (ls : List Meaning) × (lines_of deck t ≡ Some ls) × (t.system.0 ≡ s) × (t.task ≡ i)
task-at deck s i l = go (slice_get (scripts_of deck s) i) refl
  where
    go : (o : Option Script) → slice_get (scripts_of deck s) i ≡ o
        → (t : TaskId) × (ls : List Meaning) × (lines_of deck t ≡ Some ls) × (t.system.0 ≡ s) × (t.task ≡ i)
    go None e = let past = slice_get-past (scripts_of deck s) i e in absurd (omega (arith, past, l))
    go (Some z) e =
        let t : TaskId = record { system = record { 0 = s }; job = z.job; task = i } in
        let found : lines_at z.job (slice_get (scripts_of deck s) i) ≡ Some z.lines =
        ap (lines_at z.job) e ∙ ap (λ b. cond b (Some z.lines) None) (eq-eqb z.job z.job refl) in
        (t, _, ap (meanings deck.lists t) found, refl, refl)

module _ (deck : Deck) (es : List Event) (right : IsHistory deck (items (run deck es).fixed))
    (full : AreFull deck (run deck es))
    (home : (s : ℕ) (n : NodeState) → slice_get (run deck es).nodes s ≡ Some n → n.tasks.system ≡ s)
    (still : (s : ℕ) (n : NodeState) → slice_get (run deck es).nodes s ≡ Some n
    → has (run deck es).medium.removed s ≡ false → IsStill deck s (items (run deck es).fixed) n) where
  abbrev P : List RunItem
  P = items (run deck es).fixed

  abbrev L : State
  L = lists_after deck es

  hist_is : hist deck es ≡ history P
  hist_is = sym (items_are_history (run deck es).fixed).0

  lists_are : lists_after deck es ≡ lists P
  lists_are = ap (replay deck.limit) hist_is ∙ sym (replayed deck P right)

  known_all : list_all (λ h. may_have deck h.0 h.1.task) L ≡ true
  known_all =
      subst (λ z. list_all (λ h. may_have deck h.0 h.1.task) z ≡ true) (sym lists_are)
      (elements-ask deck [] P right.asks refl)

  module _ (s : ℕ) (n : NodeState) (at : slice_get (run deck es).nodes s ≡ Some n)
      (alive : has (run deck es).medium.removed s ≡ false) (u : ℕ) where
    abbrev k : IsStill deck s (items (run deck es).fixed) n
    k = still s n at alive

    -- whether an owner's element reserves, of one task
    abbrev Q : TaskId → Res → Bool
    Q t r =
        owns (list_of (lists_after deck es) r) t && queued_with_by u (lines_of deck t) (line_entries t (hist deck es)) r

    -- ---- one task of the system
    module _ (t : TaskId) (ls : List Meaning) (ours : IsOurs deck s n.tasks t ls) where
      abbrev y : TaskState
      y = state_of n.tasks t

      idle : y.outstanding ≡ None
      idle = k.idle t ls ours

      here_is : IsHere deck k.opens P n.tasks.told t ls y
      here_is = k.good.tasks.each t ls ours

      abbrev p : Past
      p = past_of t here_is.known (items (run deck es).fixed)

      speaks : Speaks deck.limit t p (history P)
      speaks =
          speaks-known deck P t here_is.known right here_is.knows.live here_is.knows.right
          (knows-closed P t y.outstanding here_is.known idle here_is.knows)

      task_is : IsTask ls p n.tasks.told (λ r. false) t y
      task_is =
          subst (λ o. IsTask ls p n.tasks.told (λ r. is_leaving r o) t y) idle
          (subst (λ x. IsTask ls p n.tasks.told (λ r. is_leaving r y.outstanding) t x) (unasked-none y idle)
          here_is.task)

      entries_are : line_entries t (hist deck es) ≡ p.asked
      entries_are = ap (line_entries t) hist_is ∙ speaks.asked

      known-each : (xs : List Rec) → Each (IsRec ls p.asked n.tasks.told p.owns (λ r. false) t y.line y.phase) xs
          → Each (λ (x : Rec). x.told ≡ p.owns x.res) xs
      known-each [] h = tt
      known-each (x ∷ xs) h = (h.0.known, known-each xs h.1)

      owns-as : (r : Res) → owns (list_of L r) t ≡ p.owns r
      owns-as r = same_truths (owns (list_of L r) t) (p.owns r)
          (λ own.
          marked-owns p.owns r y.records (known-each y.records task_is.records)
          (k.marked t ls r ours (ap (λ z. owns (list_of z r) t) (sym lists_are) ∙ own)))
          (λ own. ap (λ hs. owns (list_of (replay deck.limit hs) r) t) hist_is ∙ speaks.owns r own)

      each-reserves : (xs : List Rec) → Each (IsRec ls p.asked n.tasks.told p.owns (λ r. false) t y.line y.phase) xs
          → Each (HasUnit ls) xs → Each (λ (x : Rec). (x.told && is_unit u x.unit) ≡ Q t x.res) xs
      each-reserves [] h g = tt
      each-reserves (x ∷ xs) h g = (
        (ap (λ b. b && is_unit u x.unit) (h.0.known ∙ sym (owns-as x.res))
            ∙ ap (λ b. owns (list_of L x.res) t && b) (sym by_line)),
        each-reserves xs h.1 g.1,
      )
        where
          by_line : queued_with_by u (lines_of deck t) (line_entries t (hist deck es)) x.res ≡ is_unit u x.unit
          by_line =
              ap (λ o. queued_with_by u o (line_entries t (hist deck es)) x.res) ours.lines
              ∙ (ap (λ E. queued_with u ls E x.res) entries_are
              ∙ (only-line u ls p.asked x.res x.line h.0.latest h.0.low (omega (arith, h.0.high, task_is.within))
              ∙ (reserves-unit u (slice_get ls (x.line - 1)) ∙ ap (is_unit u) (sym g.0))))

      one-count : occ u (reserved_in y.records) ≡ length (filter (λ h. same_task t h.1.task && Q t h.0) L)
      one-count =
          records-count u (Q t) y.records
          (each-reserves y.records task_is.records (k.date t ls ours.lines ours.here).units)
          ∙ (ap (λ ks. length (filter (λ z. Q t z.0) ks))
          (task_is.keys ∙ sym (ap (λ hs. own_elements (replay deck.limit hs) t) hist_is ∙ speaks.own))
          ∙ sym (picked (Q t) t L))

      -- its elements are those at its place
      at-place : (xs : State) → list_all (λ h. may_have deck h.0 h.1.task) xs ≡ true
          → length (filter (λ h. h.1.task.task == t.task)
          (filter (is_reserve deck (hist deck es) (record { 0 = s }) u) xs))
          ≡ length (filter (λ h. same_task t h.1.task && Q t h.0) xs)
      at-place [] all = refl
      at-place (h ∷ xs) all =
          go (same_task t h.1.task) refl (is_reserve deck (hist deck es) (record { 0 = s }) u h) refl (Q t h.0) refl
          (at-place xs both.1)
        where
          both : (may_have deck h.0 h.1.task ≡ true) × (list_all (λ z. may_have deck z.0 z.1.task) xs ≡ true)
          both = and_parts (may_have deck h.0 h.1.task) (list_all (λ z. may_have deck z.0 z.1.task) xs) all

          -- the same element
          of-it : same_task t h.1.task ≡ true → is_reserve deck (hist deck es) (record { 0 = s }) u h ≡ Q t h.0
          of-it e = let same : h.1.task ≡ t = sym (same_task-exact t h.1.task e) in
              ap (λ (z : TaskId).
              ((z.system.0 == s) && owns (list_of L h.0) z)
              && queued_with_by u (lines_of deck z) (line_entries z (hist deck es)) h.0)
              same
              ∙ ap (λ b.
              (b && owns (list_of L h.0) t) && queued_with_by u (lines_of deck t) (line_entries t (hist deck es)) h.0)
              (eq-eqb t.system.0 s ours.home)

          -- another's at the place is none
          elsewhere : same_task t h.1.task ≡ false → is_reserve deck (hist deck es) (record { 0 = s }) u h ≡ true
              → (h.1.task.task == t.task) ≡ false
          elsewhere e r =
              false_by (h.1.task.task == t.task) (λ f. absurd (no_truth (same_task t h.1.task) (is-one f) e))
            where
              is-one : (h.1.task.task == t.task) ≡ true → same_task t h.1.task ≡ true
              is-one f =
                  let some : is_some (lines_of deck h.1.task) ≡ true =
                  (and_parts (is_some (lines_of deck h.1.task)) (is_systems h.0 || is_res_of h.1.task.system.0 h.0)
                  both.0).0 in
                  let home : (h.1.task.system.0 == s) ≡ true =
                  (and_parts (h.1.task.system.0 == s) (owns (list_of L h.0) h.1.task)
                  (and_parts ((h.1.task.system.0 == s) && owns (list_of L h.0) h.1.task) _ r).0).0 in
                  let here : is_task n.tasks h.1.task ≡ true =
                  k.good.here h.1.task
                  (and_from (h.1.task.system.0 == s) (is_some (lines_of deck h.1.task)) home some) in
                  let z = home-ours deck s n.tasks h.1.task k.good.system some here in
                  subst (λ x. same_task t x ≡ true) (sym (one-task deck n.tasks t h.1.task ls z.lines ours.lines
                  z.ours.lines ours.here here (sym (eqb-true h.1.task.task t.task f))))
                  (same_task-itself t)

          go : (a : Bool) → same_task t h.1.task ≡ a → (b : Bool)
              → is_reserve deck (hist deck es) (record { 0 = s }) u h ≡ b → (d : Bool) → Q t h.0 ≡ d →
              length (filter (λ z. z.1.task.task == t.task)
              (filter (is_reserve deck (hist deck es) (record { 0 = s }) u) xs))
              ≡ length (filter (λ z. same_task t z.1.task && Q t z.0) xs)
              →
              length (filter (λ z. z.1.task.task == t.task) (cond b
              (h ∷ filter (is_reserve deck (hist deck es) (record { 0 = s }) u) xs)
              (filter (is_reserve deck (hist deck es) (record { 0 = s }) u) xs)))
              ≡ length (cond (a && d) (h ∷ filter (λ z. same_task t z.1.task && Q t z.0) xs)
              (filter (λ z. same_task t z.1.task && Q t z.0) xs))
          go true e true f true g more =
              let there : (h.1.task.task == t.task) ≡ true =
              eq-eqb h.1.task.task t.task (ap (λ (z : TaskId). z.task) (sym (same_task-exact t h.1.task e))) in
              subst (λ c.
              length (cond c (h
              ∷ filter (λ z. z.1.task.task == t.task) (filter (is_reserve deck (hist deck es) (record { 0 = s }) u) xs))
              (filter (λ z. z.1.task.task == t.task) (filter (is_reserve deck (hist deck es) (record { 0 = s }) u) xs)))
              ≡ suc (length (filter (λ z. same_task t z.1.task && Q t z.0) xs)))
              (sym there) (ap suc more)
          go true e true f false g more = absurd (let no : true ≡ false = sym f ∙ (of-it e ∙ g) in cc)
          go true e false f true g more = absurd (let no : false ≡ true = sym f ∙ (of-it e ∙ g) in cc)
          go true e false f false g more = more
          go false e true f d g more =
              subst (λ c.
              length (cond c (h
              ∷ filter (λ z. z.1.task.task == t.task) (filter (is_reserve deck (hist deck es) (record { 0 = s }) u) xs))
              (filter (λ z. z.1.task.task == t.task) (filter (is_reserve deck (hist deck es) (record { 0 = s }) u) xs)))
              ≡ length (filter (λ z. same_task t z.1.task && Q t z.0) xs))
              (sym (elsewhere e f)) more
          go false e false f d g more = more

    -- ---- all of them
    abbrev count : ℕ
    count = length n.tasks.tasks

    -- those that pass are of tasks that are here
    in-range : (xs : State) → list_all (λ h. may_have deck h.0 h.1.task) xs ≡ true
        → list_all (λ h. nat_lt h.1.task.task count) (filter (is_reserve deck (hist deck es) (record { 0 = s }) u) xs)
        ≡ true
    in-range [] all = refl
    in-range (h ∷ xs) all = go (is_reserve deck (hist deck es) (record { 0 = s }) u h) refl (in-range xs both.1)
      where
        both : (may_have deck h.0 h.1.task ≡ true) × (list_all (λ z. may_have deck z.0 z.1.task) xs ≡ true)
        both = and_parts (may_have deck h.0 h.1.task) (list_all (λ z. may_have deck z.0 z.1.task) xs) all

        go : (b : Bool) → is_reserve deck (hist deck es) (record { 0 = s }) u h ≡ b
            → list_all (λ z. nat_lt z.1.task.task count)
            (filter (is_reserve deck (hist deck es) (record { 0 = s }) u) xs)
            ≡ true
            → list_all (λ z. nat_lt z.1.task.task count) (cond b
            (h ∷ filter (is_reserve deck (hist deck es) (record { 0 = s }) u) xs)
            (filter (is_reserve deck (hist deck es) (record { 0 = s }) u) xs))
            ≡ true
        go false e more = more
        go true e more =
            let some : is_some (lines_of deck h.1.task) ≡ true =
            (and_parts (is_some (lines_of deck h.1.task)) (is_systems h.0 || is_res_of h.1.task.system.0 h.0)
            both.0).0 in
            let home : (h.1.task.system.0 == s) ≡ true =
            (and_parts (h.1.task.system.0 == s) (owns (list_of L h.0) h.1.task)
            (and_parts ((h.1.task.system.0 == s) && owns (list_of L h.0) h.1.task) _ e).0).0 in
            let here : is_task n.tasks h.1.task ≡ true =
            k.good.here h.1.task (and_from (h.1.task.system.0 == s) (is_some (lines_of deck h.1.task)) home some) in
            and_from (nat_lt h.1.task.task (length n.tasks.tasks)) _
            (and_parts (n.tasks.system == h.1.task.system.0) (nat_lt h.1.task.task (length n.tasks.tasks)) here).1 more

    place-count : (i : ℕ) → i < length n.tasks.tasks
        → occ u (reserved_in (get_or n.tasks.tasks i new_task).records)
        ≡ length (filter (λ h. h.1.task.task == i) (filter (is_reserve deck (hist deck es) (record { 0 = s }) u) L))
    place-count i l =
        let z = task-at deck s i (let f = full s n at in omega (arith, f, l)) in
        let here : is_task n.tasks z.0 ≡ true =
        k.good.here z.0
        (and_from (z.0.system.0 == s) (is_some (lines_of deck z.0)) (eq-eqb z.0.system.0 s z.3) (ap is_some z.2)) in
        let ours : IsOurs deck s n.tasks z.0 z.1 = record { lines = z.2; home = z.3; here = here } in
        sym (ap (λ (x : TaskState). occ u (reserved_in x.records)) (state-at n.tasks z.0 i z.4))
        ∙ (one-count z.0 z.1 ours
        ∙ (sym (at-place z.0 z.1 ours L known_all)
        ∙ ap (λ j.
        length (filter (λ h. h.1.task.task == j) (filter (is_reserve deck (hist deck es) (record { 0 = s }) u) L)))
        z.4))

    pub units-here : occ u (reserved_of n.tasks.tasks)
        ≡ count_by (is_reserve deck (hist deck es) (record { 0 = s }) u) L
    units-here = tasks-sum u n.tasks.tasks ∙ (sum-same (length n.tasks.tasks) _ _ place-count
        ∙ (sym (classes (λ (h : Res × Elem). h.1.task.task) (length n.tasks.tasks)
        (filter (is_reserve deck (hist deck es) (record { 0 = s }) u) L) (in-range L known_all))
        ∙ length-filter (is_reserve deck (hist deck es) (record { 0 = s }) u) L))

  pub units-reserved : UnitsAreReserved deck es
  units-reserved s u live = go (slice_get (run deck es).nodes s.0) refl
    where
      alive : has (run deck es).medium.removed s.0 ≡ false
      alive =
          not-true (has (run deck es).medium.removed s.0)
          (and_parts (nat_lt s.0 (length (run deck es).nodes)) (not (has (run deck es).medium.removed s.0)) live).1

      go : (o : Option NodeState) → slice_get (run deck es).nodes s.0 ≡ o
          → unit_count s u (units_of (run deck es).nodes) ≡ count_by (is_reserve deck (hist deck es) s u) L
      go (Some n) at =
          units-found s u 0 s.0 (run deck es).nodes n (λ j m f. let own = home j m f in omega (arith, own)) at
          (omega arith)
          ∙ units-here s.0 n at alive u
      go None at =
          let within : s.0 < length (run deck es).nodes =
          ltb-true _ _ (and_parts (nat_lt s.0 (length (run deck es).nodes)) _ live).0 in
          let past : length (run deck es).nodes ≤ s.0 = slice_get-past (run deck es).nodes s.0 at in
          absurd (omega (arith, within, past))
