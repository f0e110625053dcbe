-- Behind the removal of a system none of its tasks asks for anything, in every run and either mode: what an event fixes
-- is asked by tasks of systems that weren't removed.
use Rattle.grs_world.proofs.Common.{[], ◌++◌, ◌<◌, ◌==◌, ◌||◌, ◌∙◌, ◌∷◌, ◌≡◌, ◌≤◌, after_fixed, and_parts, answer_for}
use Rattle.grs_world.proofs.Common.{Answered, ap, append-nil, append_assoc, apply, arith, Bool, by_test, Choice, chosen}
use Rattle.grs_world.proofs.Common.{cond, decide_own, Deck, entries_for, eq-eqb, eqb-true, Event, false, false_by}
use Rattle.grs_world.proofs.Common.{Filter, first_held, first_world, Fixed, fixed_by, fixed_entries, has}
use Rattle.grs_world.proofs.Common.{has-with_other, has-zero, has_most, hist, HistEntry, is_by, is_for_all, is_task}
use Rattle.grs_world.proofs.Common.{length, lines_of, List, list_all, list_any, list_any-append, LocalLook, map}
use Rattle.grs_world.proofs.Common.{may_send, may_settle, Meaning, MediumState, most_additions, most_systems, nat_lt}
use Rattle.grs_world.proofs.Common.{no_truth, NodeState, None, Option, or-false, or_left, or_parts, or_right, OrdersFit}
use Rattle.grs_world.proofs.Common.{Phase, prepare, prepared_by, Purged, purged, put_in, rank_of, Rec, refl, removes}
use Rattle.grs_world.proofs.Common.{Reply, reply_to, Req, res_wanted, row, run, same_task-exact, Some, star_call}
use Rattle.grs_world.proofs.Common.{StarPart, State, state_of, subst, suc, sym, SysId, take, TaskId, true, Turnout}
use Rattle.grs_world.proofs.Common.{unseen, Want, with_also, without_in_star, without_system, without_target, World}
use Rattle.grs_world.proofs.Common.{zero, ℕ, ℕ_discrete}
use Rattle.std.proofs.Common.{is_some}
use Rattle.grs_wire.specs.History.{answered_from, look_entries}
use Rattle.grs_node.specs.Star.{settle_by}
use Rattle.grs_wire.specs.declared.request.Fixed.TheVariants.{Asked}
use Rattle.grs_legal.specs.Legal.{entries_of}
use Rattle.grs_node.specs.declared.prepared.Prepared.TheVariants.{Call as Calls}
use Rattle.grs_wire.specs.declared.history.HistEntry.TheVariants.{Remove}
use Rattle.grs_wire.specs.declared.medium.Call.{Call}
use Rattle.grs_world.proofs.gather.HeldBack.{HoldsNone, held_run, none-found}
use Rattle.grs_world.proofs.at_rest.Homes.{homes_run}
use Rattle.grs_world.proofs.at_rest.KeptUp.{IsBoxed, kept_run}
use Rattle.grs_world.proofs.run.Came.{Acts, Came, Result, acted, already, began, changed, decided, informed, last_turn}
use Rattle.grs_world.proofs.run.Came.{left, no_such, parted, removes_one, removes_star, replied, result_of, sent}
use Rattle.grs_world.proofs.run.Came.{settled, told, took, turn, went_on}
use Rattle.grs_world.proofs.run.Chosen.{came}
use Rattle.grs_world.proofs.run.Each.{each_live, each_run, each_medium}
use Rattle.grs_world.proofs.run.Fixing.{by_task, fixed-mail, may_go-task, outbox-entries}
use Rattle.grs_world.proofs.run.Purges.{Removes, RemovesNone, nobody, one, what_removes}
use Rattle.grs_world.proofs.run.Purging.{target-fits}
use Rattle.grs_world.proofs.run.Removals.{one-removes, taken_out, takes_out}
use Rattle.grs_world.specs.Agree.{is_purge}
use Rattle.grs_world.specs.Fixing.{at_once, fixed_at_end, fixed_by_line, fixed_by_task, fixed_in_phase}
use Rattle.grs_world.specs.Fixing.{fixed_when_ready}
use Rattle.grs_world.specs.Removing.{NoneFollows}
use Rattle.grs_world.proofs.run.Placed.{fixed-placed}
use Rattle.grs_legal.specs.declared.meaning.Meaning.TheVariants as lines
use Rattle.grs_wire.specs.declared.deck.Choice.TheVariants as choices
use Rattle.grs_wire.specs.declared.medium.Act.TheVariants as acts
use Rattle.grs_wire.specs.declared.medium.Reply.TheVariants as replies
use Rattle.grs_wire.specs.declared.request.Want.TheVariants as wants
use Rattle.task_state.specs.declared.state.Phase.TheVariants as phases
use Rattle.grs_world.proofs.run.Came as any

-- ---- who asks
-- What is fixed is asked by a task of a system that isn't in the set of the removed ones; a removal is asked by no
-- task.
abbrev pub IsOfLive : ℕ → Fixed → Type 0
IsOfLive removed (Asked q) = has removed q.task.system.0 ≡ false
IsOfLive removed (LocalLook t f) = has removed t.system.0 ≡ false
IsOfLive removed (Purged target) = Unit {0}

abbrev pub AreOfLive : ℕ → List Fixed → Type 0
AreOfLive removed [] = Unit {0}
AreOfLive removed (f ∷ fs) = IsOfLive removed f × AreOfLive removed fs

-- a task of such a system goes on
module _ (removed : ℕ) (t : TaskId) (live : has removed t.system.0 ≡ false) where
  at_once-live : (w : Want) → AreOfLive removed (at_once t w)
  at_once-live w =
      by_test (AreOfLive removed) (is_for_all (res_wanted w)) [] (Asked (record { task = t; want = w }) ∷ []) (λ h. tt)
      (λ h. (live, tt))

  line-live : (limit : ℕ) (n : NodeState) (l : Meaning) → AreOfLive removed (fixed_by_line limit n t l)
  line-live limit n (lines.Enq r c ret unit) = at_once-live (wants.Enq r c ret (has_most limit n.tasks t))
  line-live limit n (lines.Deq r have) = at_once-live (wants.Deq r have)
  line-live limit n (lines.Wait r) = tt
  line-live limit n (lines.Shows d) =
      by_test (AreOfLive removed) (is_some d.home) (LocalLook t d.filter ∷ []) [] (λ h. (live, tt)) (λ h. tt)
  line-live limit n lines.Nothing = tt

  end-live : (xs : List Rec) → AreOfLive removed (fixed_at_end t xs)
  end-live [] = tt
  end-live (x ∷ xs) = at_once-live (wants.Release x.res)

  ready-live : (limit : ℕ) (n : NodeState) (l : Option Meaning) → AreOfLive removed (fixed_when_ready limit n t l)
  ready-live limit n None = end-live (state_of n.tasks t).records
  ready-live limit n (Some l) = line-live limit n l

  phase-live : (limit : ℕ) (n : NodeState) (ls : List Meaning) (p : Phase)
      → AreOfLive removed (fixed_in_phase limit n t ls p)
  phase-live limit n ls phases.Ready = ready-live limit n _
  phase-live limit n ls (phases.Ending c) = end-live (state_of n.tasks t).records
  phase-live limit n ls phases.ToSend = tt
  phase-live limit n ls phases.Sent = tt
  phase-live limit n ls phases.HeldAnswer = tt
  phase-live limit n ls (phases.HeldLine r) = tt
  phase-live limit n ls phases.Ended = tt

  task-live : (limit : ℕ) (n : NodeState) (o : Option (List Meaning)) → AreOfLive removed (fixed_by_task limit n t o)
  task-live limit n None = tt
  task-live limit n (Some ls) = phase-live limit n ls (state_of n.tasks t).phase

-- a call that is answered Settled is one of a system that knows who was removed
heard-knows : (m : MediumState) (c : SysId) (call : Call) → has m.removed c.0 ≡ false
    → (apply m c call).0 ≡ replies.Settled → call.known ≡ m.removed
unfolding apply
heard-knows m c call alive =
    by_test Known (has m.removed c.0) (replies.Removed, m) _ (λ r. no_truth (has m.removed c.0) r alive)
    (λ r.
    by_test Known (call.known == m.removed) (row m c call.act) (replies.Stale m.removed, m)
    (λ k e. eqb-true call.known m.removed k) (λ k e. absurd (cc)))
  where
    Known : Reply × MediumState → Type 0
    Known x = x.0 ≡ replies.Settled → call.known ≡ m.removed

may_send-task : (deck : Deck) (n : NodeState) (t : TaskId) → may_send deck n t ≡ true → is_task n.tasks t ≡ true
unfolding may_send
may_send-task deck n t h = (and_parts _ _ h).0

-- ---- an event of a live system
module _ (deck : Deck) (m : MediumState) (c : SysId) (n : NodeState) (home : n.tasks.system ≡ c.0)
    (alive : has m.removed c.0 ≡ false) (held : HoldsNone n) (box : IsBoxed n.tasks n.outbox)
    (few : (u : ℕ) → has m.removed u ≡ true → u < most_systems) where
  own-live : (t : TaskId) → is_task n.tasks t ≡ true → has m.removed t.system.0 ≡ false
  own-live t here =
      ap (has m.removed)
      (sym (eqb-true n.tasks.system t.system.0
      (and_parts (n.tasks.system == t.system.0) (nat_lt t.task (length n.tasks.tasks)) here).0)
      ∙ home)
      ∙ alive

  requests-live : (qs : List Req) (k : ℕ) → list_all (λ q. is_task n.tasks q.task) qs ≡ true
      → AreOfLive m.removed (map Asked (take k qs))
  requests-live [] zero h = tt
  requests-live [] (suc k) h = tt
  requests-live (q ∷ qs) zero h = tt
  requests-live (q ∷ qs) (suc k) h =
      let both = and_parts (is_task n.tasks q.task) (list_all (λ z. is_task n.tasks z.task) qs) h in
      (own-live q.task both.0, requests-live qs k both.1)

  -- the request that it settles
  settle_call : StarPart → Req → Call
  settle_call p q = record {
    known = n.known;
    act = acts.Settle q.task.system (Answered q.task (answer_for p q) (rank_of p q));
  }

  settle-is : (p : StarPart) (q : Req) → n.star ≡ Some p → first_held p ≡ Some q
      → prepare deck n choices.Settle ≡ Calls (settle_call p q)
  unfolding prepare star_call settle_call
  settle-is p q star first =
      ap (λ o. star_call deck n o choices.Settle) star ∙ ap (λ o. prepared_by n.known (settle_by p o)) first

  settled-live : (p : StarPart) (q : Req) → n.star ≡ Some p → first_held p ≡ Some q
      → replied replies.Settled ≡ result_of m c (prepare deck n choices.Settle) → has m.removed q.task.system.0 ≡ false
  unfolding settle_call
  settled-live p q star first was =
      let reply : replied (reply_to m c (settle_call p q)) ≡ replied replies.Settled =
      ap (result_of m c) (sym (settle-is p q star first)) ∙ sym was in
      let knows : n.known ≡ m.removed = heard-knows m c (settle_call p q) alive (same-reply _ _ reply) in
      false_by (has m.removed q.task.system.0) (λ gone.
      no_truth (q.task.system.0 == q.task.system.0) (eq-eqb q.task.system.0 q.task.system.0 refl)
      (none-found q.task.system.0 (may_settle p) p.held q
      (held.none p star q.task.system.0 (few q.task.system.0 gone)
      (ap (λ i. has i q.task.system.0) knows ∙ gone))
      first))
    where
      same-reply : (a b : Reply) → replied a ≡ replied b → a ≡ b
      same-reply a b e = cc

  acts-live : (p : StarPart) → n.star ≡ Some p → (choice : Choice) (b : Result) (o : Turnout)
      → b ≡ result_of m c (prepare deck n choice) → Acts deck m c n p choice b o → AreOfLive m.removed o.step.fixed
  unfolding decide_own
  acts-live p star choice b o was (decided t a x asked to at same) = (own-live t (may_send-task deck n t asked.may), tt)
  acts-live p star choice b o was (began t a x asked none) = (own-live t (may_send-task deck n t asked.may), tt)
  acts-live p star choice b o was (sent t a x asked to at apart) = tt
  acts-live p star choice b o was (took mail rest at) =
      subst (AreOfLive m.removed) (sym (fixed-mail deck n.known n.tasks p mail)) tt
  acts-live p star choice b o was (settled q first) = (settled-live p q star first was, tt)
  acts-live p star choice b o was (told e x first) = tt
  acts-live p star choice b o was (parted e to owes unknown) = tt
  acts-live p star choice b o was (left x flags free by) = tt

  came-live : (choice : Choice) (b : Result) (o : Turnout) → b ≡ result_of m c (prepare deck n choice)
      → Came deck m c n choice b o → AreOfLive m.removed o.step.fixed
  unfolding put_in purged
  came-live choice b o was (any.nothing k r silent flags) = tt
  came-live choice b o was (informed k) = tt
  came-live choice b o was (went_on t may) =
      let here : is_task n.tasks t ≡ true = may_go-task deck n t may in
      subst (AreOfLive m.removed) (sym (by_task deck.limit n t here (lines_of deck t)))
      (task-live m.removed t (own-live t here) deck.limit n (lines_of deck t))
  came-live choice b o was (turn flags alone unclosed here) =
      subst (λ qs. AreOfLive m.removed (map Asked (take (length (take most_additions n.outbox)) qs)))
      (sym (outbox-entries deck (unseen c m.message.entries) n))
      (requests-live n.outbox (length (take most_additions n.outbox)) box)
  came-live choice b o was (last_turn flags alone shut here) = tt
  came-live choice b o was (changed ring next seen) = tt
  came-live choice b o was (already mode next) = tt
  came-live choice b o was (removes_one target ring next lives) = (tt, tt)
  came-live choice b o was (removes_star target mode next lives) = (tt, tt)
  came-live choice b o was (no_such target next gone) = tt
  came-live choice b o was (acted p is k r x acts) = acts-live p is k r x was acts

  pub chosen-live : (choice : Choice) → AreOfLive m.removed (chosen deck m c n choice).step.fixed
  chosen-live choice =
      came-live choice (result_of m c (prepare deck n choice)) (chosen deck m c n choice) refl
      (came deck m c n alive choice)

-- ---- all that was fixed
-- what is fixed behind these is asked by a task whose system none of them removed
abbrev pub IsAllowed : List (SysId × Fixed) → Fixed → Type 0
IsAllowed before (Asked q) = takes_out q.task.system before ≡ false
IsAllowed before (LocalLook t f) = takes_out t.system before ≡ false
IsAllowed before (Purged target) = Unit {0}

abbrev pub AreAllowed : List (SysId × Fixed) → List (SysId × Fixed) → Type 0
AreAllowed before [] = Unit {0}
AreAllowed before (f ∷ fs) = IsAllowed before f.1 × AreAllowed (before ++ f ∷ []) fs

more-allowed : (before xs ys : List (SysId × Fixed)) → AreAllowed before xs → AreAllowed (before ++ xs) ys
    → AreAllowed before (xs ++ ys)
more-allowed before [] ys h more = subst (λ z. AreAllowed z ys) (append-nil before) more
more-allowed before (x ∷ xs) ys h more = (
  h.0,
  more-allowed (before ++ x ∷ []) xs ys h.1 (subst (λ z. AreAllowed z ys) (sym (append_assoc before (x ∷ []) xs)) more),
)

both-off : (a b : Bool) → a ≡ false → b ≡ false → (a || (b || false)) ≡ false
both-off true b e f = absurd (cc)
both-off false true e f = absurd (cc)
both-off false false e f = refl

module _ (removed : ℕ) (c : SysId) where
  one-allowed : (before : List (SysId × Fixed))
      → ((s : SysId) → has removed s.0 ≡ false → takes_out s before ≡ false) → (f : Fixed) → IsOfLive removed f
      → IsAllowed before f
  one-allowed before free (Asked q) live = free q.task.system live
  one-allowed before free (LocalLook t f) live = free t.system live
  one-allowed before free (Purged target) live = tt

  new-allowed : (fs : List Fixed) → AreOfLive removed fs → RemovesNone fs → (before : List (SysId × Fixed))
      → ((s : SysId) → has removed s.0 ≡ false → takes_out s before ≡ false) → AreAllowed before (fixed_by c fs)
  new-allowed [] live none before free = tt
  new-allowed (f ∷ fs) live none before free = (
    one-allowed before free f live.0,
    new-allowed fs live.1 (λ s. (or_parts (is_purge s f) (list_any (is_purge s) fs) (none s)).1)
        (before ++ (c, f) ∷ [])
        (λ s l.
        list_any-append (λ (x : SysId × Fixed). is_purge s x.1) before ((c, f) ∷ [])
        ∙ both-off (takes_out s before) (is_purge s f) (free s l)
        (or_parts (is_purge s f) (list_any (is_purge s) fs) (none s)).0),
  )

-- ---- every run
module _ (deck : Deck) (fits : length deck.systems ≤ most_systems) (fit : OrdersFit deck) where
  -- who was removed is a system of the deck
  abbrev RemovedFit : MediumState → Type 0
  RemovedFit m = (u : ℕ) → has m.removed u ≡ true → u < length deck.systems

  without-removed : (m : MediumState) (c target : SysId)
      → (without_target m c target).removed ≡ with_also m.removed target.0
  without-removed m c target =
      by_test (λ (k : MediumState). k.removed ≡ with_also m.removed target.0) m.star (without_in_star m target)
      (without_system m c target) (λ star. refl) (λ ring. refl)

  removed-fit : (m : MediumState) (c : SysId) (n : NodeState) (choice : Choice) (o : Turnout)
      → Removes deck m c n choice o → RemovedFit m → RemovedFit o.medium
  removed-fit m c n choice o (nobody kept none) h u out = h u (ap (λ i. has i u) (sym kept) ∙ out)
  removed-fit m c n choice o (one target chose next lives is) h u out = by_place (ℕ_discrete u target.0)
    where
      now : has (with_also m.removed target.0) u ≡ true
      now =
          ap (λ i. has i u) (sym (ap (λ (z : Turnout). z.medium.removed) is ∙ without-removed m c target)) ∙ out

      by_place : Dec (u ≡ target.0) → u < length deck.systems
      by_place (yes same) =
          subst (λ k. k < length deck.systems) (sym same) (target-fits deck n target fit next).0
      by_place (no other) = h u (sym (has-with_other m.removed target.0 u other) ∙ now)

  none-yet : RemovedFit (first_world deck).medium
  unfolding first_world
  none-yet u out = no_truth (has 0 u) out (has-zero u)

  removed_fit : (es : List Event) → RemovedFit (run deck es).medium
  removed_fit =
      each_run deck (λ es (w : World). RemovedFit w.medium) none-yet
      (λ es e h.
      each_medium deck (run deck es) e RemovedFit h
      (λ n at alive.
      removed-fit (run deck es).medium e.system n e.choice _
      (what_removes deck (run deck es).medium e.system n alive e.choice) h))

  -- what one event more fixes
  next-allowed : (es : List Event) (c : SysId) (n : NodeState) (choice : Choice) (o : Turnout)
      → AreOfLive (run deck es).medium.removed o.step.fixed
      → Removes deck (run deck es).medium c n choice o → AreAllowed [] (run deck es).fixed
      → AreAllowed [] ((run deck es).fixed ++ fixed_by c o.step.fixed)
  unfolding purged
  next-allowed es c n choice o live (nobody kept none) h =
      more-allowed [] (run deck es).fixed (fixed_by c o.step.fixed) h
      (new-allowed (run deck es).medium.removed c o.step.fixed live none (run deck es).fixed
      (λ s l. sym (taken_out deck es s) ∙ l))
  next-allowed es c n choice o live (one target chose next lives is) h =
      more-allowed [] (run deck es).fixed (fixed_by c o.step.fixed) h
      (subst (λ (z : Turnout). AreAllowed (run deck es).fixed (fixed_by c z.step.fixed)) (sym is) (tt, tt))

  none-fixed : AreAllowed [] (first_world deck).fixed
  unfolding first_world
  none-fixed = tt

  allowed_run : (es : List Event) → AreAllowed [] (run deck es).fixed
  allowed_run =
      each_run deck (λ es (w : World). AreAllowed [] w.fixed) none-fixed
      (λ es e h.
      each_live deck (run deck es) e (λ (w : World). AreAllowed [] w.fixed) h
      (λ n at alive.
      let o = chosen deck (run deck es).medium e.system n e.choice in
      subst (AreAllowed []) (sym (fixed-placed (run deck es) e.system n o))
      (next-allowed es e.system n e.choice o
      (chosen-live deck (run deck es).medium e.system n (homes_run deck es e.system.0 n at) alive
      (held_run deck es e.system.0 n at) (kept_run deck es e.system.0 n at).box
      (λ u out. let below : u < length deck.systems = removed_fit es u out in omega (arith, below, fits)) e.choice)
      (what_removes deck (run deck es).medium e.system n alive e.choice) h)))

-- ---- the history
-- each entry of a task stands behind no removal of its system
abbrev pub StandLive : List HistEntry → List HistEntry → Type 0
StandLive before [] = Unit {0}
StandLive before (h ∷ hs) =
    ((t : TaskId) → is_by t h ≡ true → list_any (removes t.system) before ≡ false) × StandLive (before ++ h ∷ []) hs

more-live : (before xs ys : List HistEntry) → StandLive before xs → StandLive (before ++ xs) ys
    → StandLive before (xs ++ ys)
more-live before [] ys h more = subst (λ z. StandLive z ys) (append-nil before) more
more-live before (x ∷ xs) ys h more = (
  h.0,
  more-live (before ++ x ∷ []) xs ys h.1 (subst (λ z. StandLive z ys) (sym (append_assoc before (x ∷ []) xs)) more),
)

live-behind : (before xs ys : List HistEntry) → StandLive before (xs ++ ys) → StandLive (before ++ xs) ys
live-behind before [] ys h = subst (λ z. StandLive z ys) (sym (append-nil before)) h
live-behind before (x ∷ xs) ys h =
    subst (λ z. StandLive z ys) (append_assoc before (x ∷ []) xs) (live-behind (before ++ x ∷ []) xs ys h.1)

none-behind : (t : TaskId) (before hs : List HistEntry) → StandLive before hs
    → list_any (removes t.system) before ≡ true → entries_of t hs ≡ []
none-behind t before [] live gone = refl
none-behind t before (h ∷ hs) live gone =
    go (is_by t h) refl (none-behind t (before ++ h ∷ []) hs live.1
    (list_any-append (removes t.system) before (h ∷ [])
    ∙ or_left (list_any (removes t.system) before) (list_any (removes t.system) (h ∷ [])) gone))
  where
    go : (b : Bool) → is_by t h ≡ b → entries_of t hs ≡ [] → cond b (h ∷ entries_of t hs) (entries_of t hs) ≡ []
    go true by more = no_truth (list_any (removes t.system) before) gone (live.0 t by)
    go false by more = more

-- what is asked by this task, where nothing removed its system
module _ (u : TaskId) where
  by-it : (before : List HistEntry) → list_any (removes u.system) before ≡ false → (t : TaskId)
      → (same : Bool) → same ≡ true → (same ≡ true → t ≡ u) → list_any (removes t.system) before ≡ false
  by-it before free t same is exact =
      subst (λ (z : TaskId). list_any (removes z.system) before ≡ false) (sym (exact is)) free

  looks-live : (s : State) (first count : ℕ) (f : Filter) (before : List HistEntry)
      → list_any (removes u.system) before ≡ false → StandLive before (look_entries s u first count f)
  looks-live s first zero f before free = tt
  looks-live s first (suc count) f before free = (
    λ t by. by-it before free t _ by (same_task-exact t u),
    looks-live s (suc first) count f _
        (list_any-append (removes u.system) before _ ∙ ap (λ b. b || false) free),
  )

  ask-live : (s : State) (w : Want) (before : List HistEntry) → list_any (removes u.system) before ≡ false
      → StandLive before (entries_for s u w)
  ask-live s (wants.Enq r c ret full) before free = (λ t by. by-it before free t _ by (same_task-exact t u), tt)
  ask-live s (wants.Deq r have) before free = (λ t by. by-it before free t _ by (same_task-exact t u), tt)
  ask-live s (wants.Release r) before free = (λ t by. by-it before free t _ by (same_task-exact t u), tt)
  ask-live s (wants.Look first count f) before free = looks-live s first count f before free

-- a history so far, and what was fixed for it
abbrev AreAlike : List HistEntry → List (SysId × Fixed) → Type 0
AreAlike hs fs = (s : SysId) → list_any (removes s) hs ≡ takes_out s fs

entries-live : (st : State) (by : SysId) (f : Fixed) (hs : List HistEntry) (fs : List (SysId × Fixed)) → AreAlike hs fs
    → IsAllowed fs f → StandLive hs (fixed_entries st by f)
entries-live st by (Asked q) hs fs same allowed = ask-live q.task st q.want hs (same q.task.system ∙ allowed)
entries-live st by (LocalLook t f) hs fs same allowed =
    (λ u is. by-it t hs (same t.system ∙ allowed) u _ is (same_task-exact u t), tt)
entries-live st by (Purged target) hs fs same allowed = (λ t is. absurd (cc), tt)

history-live : (st : State) (fs : List (SysId × Fixed)) (before : List (SysId × Fixed)) (hs : List HistEntry)
    → AreAlike hs before → AreAllowed before fs → StandLive hs (answered_from st fs)
history-live st [] before hs same allowed = tt
history-live st (f ∷ fs) before hs same allowed =
    more-live hs (fixed_entries st f.0 f.1) (answered_from (after_fixed st f.1) fs)
    (entries-live st f.0 f.1 hs before same allowed.0)
    (history-live (after_fixed st f.1) fs (before ++ f ∷ []) (hs ++ fixed_entries st f.0 f.1)
    (λ s.
    list_any-append (removes s) hs (fixed_entries st f.0 f.1)
    ∙ (ap (λ b. b || list_any (removes s) (fixed_entries st f.0 f.1)) (same s)
    ∙ (ap (λ b. takes_out s before || b) (one-removes st f.0 f.1 s ∙ sym (or-false (is_purge s f.1)))
    ∙ sym (list_any-append (λ (x : SysId × Fixed). is_purge s x.1) before (f ∷ [])))))
    allowed.1)

pub live_follow : (deck : Deck) → length deck.systems ≤ most_systems → OrdersFit deck → (es : List Event)
    → NoneFollows deck es
live_follow deck fits fit es before behind by target t is home =
    let whole : hist deck es ≡ (before ++ Remove by target ∷ []) ++ behind =
    is ∙ sym (append_assoc before (Remove by target ∷ []) behind) in
    none-behind t (before ++ Remove by target ∷ []) behind
    (live-behind [] (before ++ Remove by target ∷ []) behind
    (subst (StandLive []) whole
    (history-live [] (run deck es).fixed [] [] (λ s. refl) (allowed_run deck fits fit es))))
    (list_any-append (removes t.system) before (Remove by target ∷ [])
    ∙ or_right (list_any (removes t.system) before) _
    (or_left (t.system.0 == target.0) false (eq-eqb t.system.0 target.0 home)))
