-- A task of a system goes on by itself.
use Rattle.grs_world.proofs.Common.{[], ◌&&◌, ◌++◌, ◌+◌, ◌||◌, ◌∙◌, ◌∷◌, ◌≡◌, and_parts, ap, arith, ask, asks_in, Bool}
use Rattle.grs_world.proofs.Common.{by_test, C00, C08, Code, Coded, cond, Deck, Deq, Did, did-none, did-phase}
use Rattle.grs_world.proofs.Common.{did-telling, end_step, Ended, Enq, false, goes_on, has_most, has_res, history}
use Rattle.grs_world.proofs.Common.{is_res_of, is_some, is_systems, is_task, is_unsent, IsAskedFor, IsHistory}
use Rattle.grs_world.proofs.Common.{IsLooksBy, IsOpenBy, IsOurs, IsRec, IsTask, length, line_asked, line_entries}
use Rattle.grs_world.proofs.Common.{lines_of, List, list_any, lists, map, may_go, Meaning, nat_le, NodeState, None}
use Rattle.grs_world.proofs.Common.{none, not, only, Option, or_left, or_other, or_right, outstanding, owns, Past}
use Rattle.grs_world.proofs.Common.{past_of, Phase, phase_seen, phase_step, post, ready_step, Rec, record_of, refl}
use Rattle.grs_world.proofs.Common.{Release, replay, Req, Res, Row, RunItem, same_res, same_res-exact, same_res-itself}
use Rattle.grs_world.proofs.Common.{slice_get, Some, state_of, subst, suc, sym, SysId, take_line, task_step, TaskId}
use Rattle.grs_world.proofs.Common.{TaskState, TasksView, tell_code, telling, tells_control, ToldLine, true, wait, Want}
use Rattle.grs_world.proofs.Common.{with_line, with_phase, with_tasks, ℕ}
use Rattle.grs_known.proofs.tasks.Invariant.{may_pass}
use Rattle.grs_base.specs.State.{is_full, enq_code, deq_reply}
use Rattle.grs_known.proofs.system.Asking.{IsAtLines, held-none}
use Rattle.grs_known.proofs.known.Histories.{has-may}
use Rattle.grs_known.proofs.system.Ours.{ours-line, agrees-ours}
use Rattle.grs_legal.specs.Asks.{AsksEnq, AsksDeq, AsksRelease}
use Rattle.grs_known.proofs.system.Says.{more}
use Rattle.grs_known.specs.Past.{has_own}
use Rattle.grs_known.specs.Told.{LineAgrees, TellsWait}
use Rattle.grs_known.proofs.known.Following.{has-known, is_full-known, may_follow}
use Rattle.grs_known.proofs.tasks.Asked.{Asks, next-asked}
use Rattle.grs_known.proofs.tasks.Keys.{has_res-own}
use Rattle.grs_known.proofs.tasks.Others.{task-told}
use Rattle.grs_known.proofs.tasks.Records.{found, not_found}
use Rattle.grs_known.proofs.tasks.Speaking.{has-speaks}
use Rattle.grs_known.proofs.tasks.Steps.{task-skipped, task-waited, task-held, task-ending, next-ending, task-ended}
use Rattle.grs_world.proofs.system.AtNode.{Seen, QuietStep}
use Rattle.grs_known.proofs.system.Events.{enq-good, deq-good, release-good}
use Rattle.grs_known.proofs.system.Good.{home-ours}
use Rattle.grs_world.proofs.system.Meant.{is_own, lines_own}
use Rattle.grs_known.proofs.system.Turns.{state-is, plain-task}
use Rattle.grs_world.proofs.system.Free.{IsFree, begun, is_ready, taken, here, speaks, free, decided, posted, by_task}
use Rattle.grs_world.proofs.system.Free.{place, own-of, os}
use Rattle.grs_world.proofs.system.Shown.{show_outcome}
use Rattle.grs_legal.specs.declared.meaning.Meaning.TheVariants as lines
use Rattle.grs_wire.specs.declared.history.HistEntry.TheVariants as entries
use Rattle.grs_wire.specs.declared.request.Answer.TheVariants as answers
use Rattle.grs_wire.specs.declared.told.Verb.TheVariants as verbs
use Rattle.task_state.specs.declared.state.Phase.TheVariants as phases

module _ {deck : Deck} {s : ℕ} {c : SysId} {P before later : List RunItem} {out : List Req} {n : NodeState} {t : TaskId}
    {ls : List Meaning} (me : IsFree deck s c P before later out n t ls) where
  open me use {right, seen, ours, closed}

  abbrev p : Past
  p = past_of t (here me).known P

  -- an ending task, by its parts
  module _ (v : TasksView) (m d code : ℕ) (xs : List Rec) (ws : List Row)
      (did :
      Did n.tasks v t
      (record { line = m; phase = phases.Ending d; code = code; records = xs; outstanding = None; rows = ws })
      n.tasks.told)
      (coded : code ≡ d)
      (k :
      IsTask ls p n.tasks.told (λ q. false) t
      (record { line = m; phase = phases.Ending d; code = code; records = xs; outstanding = None; rows = ws })) where
    -- it releases the first resource on record
    released : (y : Rec) (ys : List Rec) → xs ≡ y ∷ ys
        → QuietStep deck s c P before later out n (ask (with_tasks n v) t (Release y.res) None)
    unfolding ask
    released y ys e = by_test (QuietStep deck s c P before later out n) (is_systems y.res) _ _
        (λ all.
        posted me v (Release y.res) None
        (record { line = m; phase = phases.Ending d; code = code; records = xs; outstanding = None; rows = ws }) did
        (subst (λ z.
        IsTask ls p n.tasks.told (λ q. false) t
        (record { line = m; phase = phases.Ending z; code = code; records = xs; outstanding = None; rows = ws }))
        (sym coded) k)
        (first, all) tt)
        (λ alone.
        let own : is_res_of s y.res ≡ true = or_other (is_systems y.res) (is_res_of s y.res) proper alone in
        decided me (Release y.res) y.res refl own (entries.Release t y.res) refl v None (answers.Coded C00) refl
        (may_follow deck P right t p (speaks me) ls ours.lines (here me).knows.live c (Release y.res) y.res refl
        (place me y.res proper) tt (AsksRelease y.res) refl
        (next-ending ls p n.tasks.told (λ q. false) t m d code xs None ws k y.res first))
        (λ z.
        release-good deck s (os me) (os me) P _ n.tasks seen.good t ls ours p y.res _ m d code xs ws v did coded
        (λ q. false)
        (λ q apart. refl) k z None))
      where
        first : slice_get (map (λ (z : Rec). z.res) xs) 0 ≡ Some y.res
        first = ap (λ zs. slice_get (map (λ (z : Rec). z.res) zs) 0) e

        there : has_res y.res xs ≡ true
        there = ap (has_res y.res) e ∙ ap (λ b. b || has_res y.res ys) (same_res-itself y.res)

        proper : is_own s y.res ≡ true
        proper =
            own-of me y.res (and_parts (is_some (lines_of deck t)) (is_own t.system.0 y.res)
            (has-may deck P y.res t right.asks
            (has-known deck P right t p (speaks me) y.res ∙ sym (has_res-own y.res xs p.own k.keys) ∙ there))).1

    -- it has ended
    ended : xs ≡ []
        → QuietStep deck s c P before later out n
        (only (with_tasks n (telling (with_phase v t phases.Ended) (Ended t d))))
    ended e =
        let none_left =
        subst (λ zs.
        IsTask ls p n.tasks.told (λ q. false) t
        (record { line = m; phase = phases.Ending d; code = code; records = zs; outstanding = None; rows = ws }))
        e k in
        let done = task-ended ls p n.tasks.told (λ q. false) t m d code None ws none_left in
        let did1 =
        did-telling n.tasks (with_phase v t phases.Ended) t
        (record { line = m; phase = phases.Ended; code = code; records = xs; outstanding = None; rows = ws })
        n.tasks.told (Ended t d)
        (did-phase n.tasks v t
        (record { line = m; phase = phases.Ending d; code = code; records = xs; outstanding = None; rows = ws })
        n.tasks.told ours.here did phases.Ended) in
        by_task me (telling (with_phase v t phases.Ended) (Ended t d)) _ _ did1 refl tt
        (subst (λ zs.
        IsTask ls p (n.tasks.told ++ Ended t d ∷ []) (λ q. false) t
        (record { line = m; phase = phases.Ended; code = code; records = zs; outstanding = None; rows = ws }))
        (sym e) done.0)
        (λ u ms apart q leaving y j. task-told ms q n.tasks.told leaving u y (Ended t d) apart j)
        (more n.tasks.told (Ended t d) none (ours-line deck s n.tasks t ls ours)
        (agrees-ours deck t ls (history P) n.tasks.told (Ended t d) ours.lines
        (done.1 deck.limit (history P) (speaks me)))
        tt)

    -- a step of its end
    end_outcome : (zs : List Rec) → xs ≡ zs
        → QuietStep deck s c P before later out n (end_step (with_tasks n v) t d zs)
    unfolding end_step
    end_outcome [] e = ended e
    end_outcome (y ∷ ys) e = released y ys e

  -- a task that is ready
  module _ (ready : (state_of n.tasks t).phase ≡ phases.Ready) where
    most-is : has_most deck.limit (with_line n.tasks t) t ≡ nat_le deck.limit (length (state_of n.tasks t).records)
    most-is = ap (λ (y : TaskState). nat_le deck.limit (length y.records)) (taken me ready).state

    -- a request for a resource of the whole complex waits
    kept : (w : Want) (unit : Option ℕ) → line_asked w (suc (state_of n.tasks t).line) ≡ (state_of n.tasks t).line
        → phase_seen w (state_of n.tasks t).code ≡ phases.Ready →
        IsAskedFor deck.limit ls (suc (state_of n.tasks t).line) (state_of n.tasks t).records w unit
        → IsLooksBy ls p.asked (suc (state_of n.tasks t).line) w None
        → QuietStep deck s c P before later out n (post (with_tasks n (with_line n.tasks t)) t w unit)
    kept w unit line phase asked looks =
        let x : TaskState = state_of n.tasks t in
        posted me (with_line n.tasks t) w unit
        (record x { line = suc x.line; phase = phases.Ready; outstanding = None })
        (taken me ready)
        (subst (λ m.
        IsTask ls p n.tasks.told (λ q. false) t
        (record x { line = m; phase = phase_seen w x.code; outstanding = None }))
        (sym line)
        (subst (λ ph.
        IsTask ls p n.tasks.told (λ q. false) t
        (record x { phase = ph; outstanding = None }))
        (sym phase) (is_ready me ready)))
        asked looks

    -- a line that asks nothing and is passed
    skipped : (l : Meaning) → slice_get ls (state_of n.tasks t).line ≡ Some l → asks_in l ≡ [] → may_pass p l ≡ true
        → QuietStep deck s c P before later out n (only (with_tasks n (with_line n.tasks t)))
    skipped l at asks lets =
        let x : TaskState = state_of n.tasks t in
        by_task me (with_line n.tasks t) _ _ (taken me ready) refl tt
        (task-skipped ls p n.tasks.told (λ q. false) t x.line x.code x.records None x.rows l (is_ready me ready) at asks
        lets)
        (λ u ms apart q leaving y j. j) none

    -- a WAIT line told by its code
    waited : (l : Meaning) → slice_get ls (state_of n.tasks t).line ≡ Some l → asks_in l ≡ [] → (d : Code)
        → may_pass p l ≡ true →
        TellsWait t ls (line_entries t (history P)) n.tasks.told (replay deck.limit (history P)) d (Some l) →
        (w : TasksView) → w ≡ telling (with_line n.tasks t) (Coded t (suc (state_of n.tasks t).line) 0 verbs.Wait d) →
        QuietStep deck s c P before later out n (only (with_tasks n w))
    waited l at asks d lets tells w is =
        let x : TaskState = state_of n.tasks t in
        let T : List ToldLine = n.tasks.told in
        let told_line : ToldLine = Coded t (suc x.line) 0 verbs.Wait d in
        let did1 =
        did-telling n.tasks (with_line n.tasks t) t
        (record x { line = suc x.line; phase = phases.Ready; outstanding = None })
        T told_line (taken me ready) in
        let agrees :
        LineAgrees deck.limit ls (history P) T told_line = (
          omega arith,
          subst (TellsWait t ls (line_entries t (history P)) T (replay deck.limit (history P)) d)
              (sym (ap (slice_get ls) (omega (arith)) ∙ at)) tells,
          (is_ready me ready).codes,
          (is_ready me ready).phase.going.no_end,
        ) in
        subst (λ z. QuietStep deck s c P before later out n (only (with_tasks n z))) (sym is)
        (by_task me (telling (with_line n.tasks t) told_line) _ _ did1 refl tt
        (task-waited ls p T (λ q. false) t x.line x.code x.records None x.rows l (is_ready me ready) at asks d lets)
        (λ u ms apart q leaving y j. task-told ms q T leaving u y told_line apart j)
        (more T told_line none (ours-line deck s n.tasks t ls ours)
        (refl, agrees-ours deck t ls (history P) T told_line ours.lines agrees) (free me)))

    -- a WAIT line
    wait_outcome : (q : Res) → slice_get ls (state_of n.tasks t).line ≡ Some (lines.Wait q) →
        QuietStep deck s c P before later out n (only
        (with_tasks n (wait (with_line n.tasks t) t q (record_of (state_of (with_line n.tasks t) t).records q))))
    unfolding wait tell_code
    wait_outcome q at =
        by_record (record_of (state_of (with_line n.tasks t) t).records q)
        (sym (ap (λ (y : TaskState). record_of y.records q) (taken me ready).state))
      where
        line_is : (state_of (with_line n.tasks t) t).line ≡ suc (state_of n.tasks t).line
        line_is = ap (λ (y : TaskState). y.line) (taken me ready).state

        tells_line : (d : Code)
            → telling (with_line n.tasks t) (Coded t (state_of (with_line n.tasks t) t).line 0 verbs.Wait d)
            ≡ telling (with_line n.tasks t) (Coded t (suc (state_of n.tasks t).line) 0 verbs.Wait d)
        tells_line d = ap (λ m. telling (with_line n.tasks t) (Coded t m 0 verbs.Wait d)) line_is

        by_record : (o : Option Rec) → record_of (state_of n.tasks t).records q ≡ o
            → QuietStep deck s c P before later out n (only (with_tasks n (wait (with_line n.tasks t) t q o)))
        by_record None e =
            let absent : has_own q p.own ≡ false =
            sym (has_res-own q (state_of n.tasks t).records p.own (is_ready me ready).keys)
            ∙ not_found (state_of n.tasks t).records q e in
            waited (lines.Wait q) at refl C08 (or_right (p.owns q) _ (ap not absent))
            (has-speaks deck.limit t p (history P) (speaks me) q ∙ absent) _ (tells_line C08)
        by_record (Some y) e = by_told y.told refl
          where
            f : IsRec ls p.asked n.tasks.told p.owns (λ z. false) t (state_of n.tasks t).line phases.Ready y
                × (same_res q y.res ≡ true)
            f =
                found (IsRec ls p.asked n.tasks.told p.owns (λ z. false) t (state_of n.tasks t).line phases.Ready)
                (state_of n.tasks t).records q y (is_ready me ready).records e

            same : y.res ≡ q
            same = sym (same_res-exact q y.res f.1)

            by_told : (b : Bool) → y.told ≡ b
                → QuietStep deck s c P before later out n (only
                (with_tasks n (cond b (tell_code (with_line n.tasks t) t verbs.Wait C00)
                (with_phase (with_line n.tasks t) t (phases.HeldLine q)))))
            by_told true g =
                let own : p.owns q ≡ true = subst (λ z. p.owns z ≡ true) same (sym f.0.known ∙ g) in
                let told : list_any (tells_control t ls p.asked q) n.tasks.told ≡ true =
                subst (λ z. list_any (tells_control t ls p.asked z) n.tasks.told ≡ true) same
                (f.0.control (sym f.0.known ∙ g) refl) in
                waited (lines.Wait q) at refl C00 (or_left (p.owns q) _ own) (
                  (speaks me).owns q own,
                  subst (λ E. list_any (tells_control t ls E q) n.tasks.told ≡ true) (sym (speaks me).asked) told,
                )
                _ (tells_line C00)
            by_told false g =
                let x : TaskState = state_of n.tasks t in
                let did1 =
                did-phase n.tasks (with_line n.tasks t) t
                (record x { line = suc x.line; phase = phases.Ready; outstanding = None })
                n.tasks.told ours.here (taken me ready) (phases.HeldLine q) in
                by_task me (with_phase (with_line n.tasks t) t (phases.HeldLine q)) _ _ did1 refl tt
                (task-held ls p n.tasks.told (λ q. false) t x.line x.code x.records None x.rows (lines.Wait q)
                (is_ready me ready) at refl q refl)
                (λ u ms apart z leaving w j. j) none

    line_outcome : (l : Meaning) → slice_get ls (state_of n.tasks t).line ≡ Some l
        → QuietStep deck s c P before later out n (take_line deck.limit (with_tasks n (with_line n.tasks t)) t l)
    unfolding take_line ask
    line_outcome (lines.Enq r ctl ret unit) at =
        let x : TaskState = state_of n.tasks t in
        let full : Bool = has_most deck.limit (with_line n.tasks t) t in
        let full_is : full ≡ is_full deck.limit (lists P) t =
        most-is ∙ is_full-known deck P right t p (speaks me) x.records (is_ready me ready).keys in
        let proper : is_own s r ≡ true =
        own-of me r (lines_own deck t ls x.line (lines.Enq r ctl ret unit) ours.lines at) in
        by_test (QuietStep deck s c P before later out n) (is_systems r) _ _
        (λ all.
        kept (Enq r ctl ret full) unit (omega arith) refl
        (omega arith, ap (slice_get ls) (omega arith) ∙ at, all, most-is) tt)
        (λ alone.
        let k :
        Asks ls p n.tasks.told (λ q. false) t x.line x.code x.records None x.rows (lines.Enq r ctl ret unit)
        (AsksEnq r ctl ret) = record { before = (is_ready me ready); at = at; asks = refl } in
        decided me (Enq r ctl ret full) r refl (or_other (is_systems r) (is_res_of s r) proper alone)
        (entries.Enq t r ctl ret (enq_code (lists P) r t ctl ret full)) refl (with_line n.tasks t) unit
        (answers.Coded (enq_code (lists P) r t ctl ret full)) refl
        (may_follow deck P right t p (speaks me) ls ours.lines (here me).knows.live c (Enq r ctl ret full) r refl
        (place me r proper) full_is (AsksEnq r ctl ret) refl (next-asked ls p n.tasks.told (λ q. false) t x.line x.code
        x.records None x.rows (lines.Enq r ctl ret unit) (AsksEnq r ctl ret) k))
        (λ z.
        enq-good deck s (os me) (os me) P _ n.tasks seen.good t ls ours p r _ x.line x.code x.records x.rows
        (with_line n.tasks t) (taken me ready) (lines.Enq r ctl ret unit) (enq_code (lists P) r t ctl ret full) ctl unit
        ret full
        z k))
    line_outcome (lines.Deq r have) at =
        let x : TaskState = state_of n.tasks t in
        let proper : is_own s r ≡ true = own-of me r (lines_own deck t ls x.line (lines.Deq r have) ours.lines at) in
        by_test (QuietStep deck s c P before later out n) (is_systems r) _ _
        (λ all. kept (Deq r have) None (omega arith) refl (omega arith, ap (slice_get ls) (omega arith) ∙ at, all) tt)
        (λ alone.
        let k :
        Asks ls p n.tasks.told (λ q. false) t x.line x.code x.records None x.rows (lines.Deq r have)
        (AsksDeq r have) = record { before = (is_ready me ready); at = at; asks = refl } in
        decided me (Deq r have) r refl (or_other (is_systems r) (is_res_of s r) proper alone)
        (entries.Deq t r have (deq_reply (lists P) r t have)) refl (with_line n.tasks t) None
        (answers.Coded (deq_reply (lists P) r t have)) refl
        (may_follow deck P right t p (speaks me) ls ours.lines (here me).knows.live c (Deq r have) r refl
        (place me r proper) tt
        (AsksDeq r have) refl (next-asked ls p n.tasks.told (λ q. false) t x.line x.code x.records None x.rows
        (lines.Deq r have) (AsksDeq r have) k))
        (λ z.
        deq-good deck s (os me) (os me) P _ n.tasks seen.good t ls ours p r _ x.line x.code x.records x.rows
        (with_line n.tasks t) (taken me ready) (lines.Deq r have) (deq_reply (lists P) r t have) have (λ q. false)
        (λ q apart. refl) z k None))
    line_outcome (lines.Wait r) at = wait_outcome r at
    line_outcome (lines.Shows d) at = show_outcome me ready d at
    line_outcome lines.Nothing at = skipped lines.Nothing at refl refl

    -- the next line, or the end
    ready_outcome :
        QuietStep deck s c P before later out n (ready_step deck.limit n t (slice_get ls (state_of n.tasks t).line))
    unfolding ready_step
    ready_outcome = by_line (slice_get ls (state_of n.tasks t).line) refl
      where
        by_line : (o : Option Meaning) → slice_get ls (state_of n.tasks t).line ≡ o
            → QuietStep deck s c P before later out n (ready_step deck.limit n t o)
        by_line (Some l) e = line_outcome l e
        by_line None e =
            let x : TaskState = state_of n.tasks t in
            let did1 =
            did-phase n.tasks n.tasks t (record x { phase = phases.Ready; outstanding = None }) n.tasks.told ours.here
            (begun me ready) (phases.Ending 0) in
            let k =
            task-ending ls p n.tasks.told (λ q. false) t x.line x.code x.records None x.rows (is_ready me ready) e in
            subst (λ zs.
            QuietStep deck s c P before later out n
            (end_step (with_tasks n (with_phase n.tasks t (phases.Ending 0))) t 0 zs))
            (sym (ap (λ (y : TaskState). y.records) did1.state))
            (end_outcome (with_phase n.tasks t (phases.Ending 0)) x.line 0 0 x.records x.rows did1 refl k x.records
            refl)

  -- an ending task
  ending_outcome : (d : ℕ) → (state_of n.tasks t).phase ≡ phases.Ending d
      → QuietStep deck s c P before later out n (end_step n t d (state_of n.tasks t).records)
  ending_outcome d e =
      let x : TaskState = state_of n.tasks t in
      let k = plain-task ls p n.tasks.told t x (phases.Ending d) e closed (here me).task in
      let did =
      subst (λ y. Did n.tasks n.tasks t y n.tasks.told) (state-is x (phases.Ending d) e closed)
      (did-none n.tasks t) in
      let coded : x.code ≡ d =
      subst (λ ph. IsAtLines ph x.code) e (subst (λ o. IsOpenBy deck.limit ls t x o) closed (here me).opened) in
      end_outcome n.tasks x.line d x.code x.records x.rows did coded k x.records refl

-- whatever the phase
module _ (deck : Deck) (s : ℕ) (c : SysId) (P before later : List RunItem) (right : IsHistory deck P) (out : List Req)
    (n : NodeState) (seen : Seen deck s P before later out n) where
  phase_outcome : (t : TaskId) (ls : List Meaning) → IsOurs deck s n.tasks t ls
      → goes_on (state_of n.tasks t).phase ≡ true
      → QuietStep deck s c P before later out n (phase_step deck.limit n t ls (state_of n.tasks t).phase)
  unfolding phase_step
  phase_outcome t ls ours goes = by_phase (state_of n.tasks t).phase refl goes
    where
      free_at : (ph : Phase) → (state_of n.tasks t).phase ≡ ph → is_unsent ph ≡ false
          → IsFree deck s c P before later out n t ls
      free_at ph e f = record {
        right = right;
        seen = seen;
        ours = ours;
        closed =
            held-none deck.limit ls t (state_of n.tasks t) (seen.good.tasks.each t ls ours).opened
            (ap is_unsent e ∙ f);
      }

      by_phase : (ph : Phase) → (state_of n.tasks t).phase ≡ ph → goes_on ph ≡ true
          → QuietStep deck s c P before later out n (phase_step deck.limit n t ls ph)
      by_phase phases.Ready e g = ready_outcome (free_at phases.Ready e refl) e
      by_phase (phases.Ending d) e g = ending_outcome (free_at (phases.Ending d) e refl) d e
      by_phase phases.ToSend e g = cc
      by_phase phases.Sent e g = cc
      by_phase phases.HeldAnswer e g = cc
      by_phase (phases.HeldLine r) e g = cc
      by_phase phases.Ended e g = cc

-- A task goes on. In star mode nothing goes into the outbox.
pub quiet :
    (deck : Deck) (s : ℕ) (c : SysId) (P before later : List RunItem) (out : List Req) (n : NodeState) (t : TaskId)
    → IsHistory deck P → Seen deck s P before later out n → may_go deck n t ≡ true
    → QuietStep deck s c P before later out n (task_step deck.limit n t (lines_of deck t))
unfolding may_go
quiet deck s c P before later out n t right seen goes =
    let here = and_parts (is_task n.tasks t) (is_some (lines_of deck t) && goes_on (state_of n.tasks t).phase) goes in
    let both = and_parts (is_some (lines_of deck t)) (goes_on (state_of n.tasks t).phase) here.1 in
    let mine = home-ours deck s n.tasks t seen.good.system both.0 here.0 in
    subst (λ o. QuietStep deck s c P before later out n (task_step deck.limit n t o)) (sym mine.ours.lines)
    (phase_outcome deck s c P before later right out n seen t mine.lines mine.ours both.1)
