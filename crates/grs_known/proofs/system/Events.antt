-- A request of a task of the system, decided: the system stays good, and what it tells agrees.
use Rattle.std.proofs.Common.{◌≡◌, ◌-◌, ℕ, zero, suc, Bool, true, false, cond, List, [], ◌∷◌, ◌++◌, map, length, take}
use Rattle.std.proofs.Common.{Option, Some, None, refl, ap, sym, ◌∙◌, subst, arith}
use Rattle.std.specs.Prelude.{is_some, ◌==◌, slice_get}
use Rattle.std.proofs.lemmas.Bool.{and_from, or_right}
use Rattle.std.proofs.lemmas.Option.{same_Some}
use Rattle.grs_base.specs.Same.{same_res, same_task}
use Rattle.grs_base.specs.Lists.{owns}
use Rattle.grs_base.specs.State.{list_of}
use Rattle.grs_base.specs.declared.line.Line.{Line}
use Rattle.grs_base.specs.declared.line.Line.TheVariants as written
use Rattle.grs_base.specs.declared.look.Filter.{Filter}
use Rattle.grs_base.specs.declared.resource.Res.{Res}
use Rattle.grs_base.specs.declared.resource.Ctl.{Ctl}
use Rattle.grs_base.specs.declared.resource.Ret.{Ret}
use Rattle.grs_base.specs.declared.resource.Row.{Row}
use Rattle.grs_base.specs.declared.resource.TaskId.{TaskId}
use Rattle.grs_base.specs.declared.decision.Code.{Code}
use Rattle.grs_base.specs.declared.decision.Code.TheVariants.{C00, C04, C08, C14, C18, Wait, End}
use Rattle.gqscan.specs.Shown.{code_for}
use Rattle.grs_legal.specs.Asks.{AsksEnq, AsksDeq, asks_of, lines_in, lines_of, meaning_of, meanings, scripts_of}
use Rattle.grs_legal.specs.declared.meaning.Display.{Display}
use Rattle.grs_legal.specs.declared.meaning.Meaning.{Meaning}
use Rattle.grs_legal.specs.declared.meaning.Meaning.TheVariants as lines
use Rattle.grs_base.proofs.SameLaws.{same_res-itself}
use Rattle.grs_wire.specs.declared.deck.Deck.{Deck}
use Rattle.grs_wire.specs.declared.history.HistEntry.{HistEntry}
use Rattle.grs_wire.specs.declared.history.HistEntry.TheVariants as entries
use Rattle.grs_wire.specs.declared.request.Answer.TheVariants as answers
use Rattle.grs_wire.specs.declared.request.Req.{Req}
use Rattle.grs_wire.specs.declared.request.Want.TheVariants.{Enq, Deq, Release, Look}
use Rattle.grs_wire.specs.declared.told.Verb.{Verb}
use Rattle.grs_wire.specs.declared.told.Verb.TheVariants as verbs
use Rattle.grs_wire.specs.declared.told.ToldLine.{ToldLine}
use Rattle.grs_wire.specs.declared.told.ToldLine.TheVariants.{Coded, Shown}
use Rattle.grs_wire.specs.History.{replay}
use Rattle.task_state.specs.declared.state.Asked.{Asked}
use Rattle.task_state.specs.declared.state.Rec.{Rec}
use Rattle.task_state.specs.declared.state.Showing.{Showing}
use Rattle.task_state.specs.declared.state.Phase.TheVariants as phases
use Rattle.task_state.specs.declared.state.TaskState.{TaskState}
use Rattle.task_state.specs.View.{TasksView, state_of, with_outstanding, with_phase, without_first, code_in}
use Rattle.task_state.specs.Replies.{tell_all, tell_new, tell_rows, replied, phase_after, is_granted, is_leaving}
use Rattle.grs_known.specs.Items.{RunItem, mine, history}
use Rattle.grs_known.specs.Known.{Known, outstanding}
use Rattle.grs_known.specs.Past.{Past, past_of, after_entry, Speaks}
use Rattle.grs_known.specs.Told.{AgreesOf, is_same_verb, told_as, gets_control, TellsEnq, entry_of_line, TellsDeq}
use Rattle.grs_known.proofs.known.Knowing.{one}
use Rattle.grs_known.proofs.known.Histories.{IsHistory, replayed}
use Rattle.grs_known.proofs.known.Knows.{Knows, KnowsEntry, KnowsLooks, knows-asks, knows-closed, speaks-known}
use Rattle.grs_known.proofs.lists.Owners.{is_among}
use Rattle.grs_known.proofs.lists.Shows.{looked}
use Rattle.grs_known.proofs.lists.Truths.{no_truth}
use Rattle.grs_known.proofs.tasks.Asked.{told_after, Asks, of_new_line, by_code}
use Rattle.grs_known.proofs.tasks.Decided.{enq_records, task-enq, task-deq}
use Rattle.grs_known.proofs.tasks.Invariant.{IsTask, with_control}
use Rattle.grs_known.proofs.tasks.Looks.{task-shown}
use Rattle.grs_known.proofs.tasks.Others.{task-told}
use Rattle.grs_known.proofs.tasks.Speaking.{speaks-control}
use Rattle.grs_known.proofs.tasks.Steps.{task-released}
use Rattle.grs_known.proofs.system.Asking.{unasked, unasked-none, Opens, IsAtLines, IsOpenBy, AreLooks, IsLooks}
use Rattle.grs_known.proofs.system.Asking.{IsAskedBy, asked-absent, sent-absent, task-open}
use Rattle.grs_known.proofs.system.Did.{Did, did-phase, did-outstanding, did-shown, did-after_code_enq}
use Rattle.grs_known.proofs.system.Did.{did-after_code_deq, did-after_code_release}
use Rattle.grs_known.proofs.system.Good.{IsGood, Untold, home-ours, task-told_after}
use Rattle.grs_known.proofs.system.Ours.{IsOurs, IsHere, holds-changed, ours-line, agrees-ours}
use Rattle.grs_known.proofs.system.Says.{askers, ToldBy, none, more}
use Rattle.grs_known.proofs.system.Telling.{learned_all, LearnedAll, StillOwns}

-- the tasks stay good in a step, and what they were told agrees
pub record StaysGood (deck : Deck) (s : ℕ) (os : Opens) (P : List RunItem) (T0 : List ToldLine) (v : TasksView) :
    Type 0 where
  pub good : IsGood deck s os P v
  pub told : ToldBy deck s os.all (history P) T0 v.told

-- each of these tasks is of the deck, and still owns
abbrev pub Owners : Deck → Opens → List RunItem → Res → List TaskId → Type 0
Owners deck os P r ts =
    (u : TaskId) → is_among u ts ≡ true → (is_some (lines_of deck u) ≡ true) × StillOwns deck os P r u

-- control is told to them
pub tells_good : (deck : Deck) (s : ℕ) (os : Opens) (P : List RunItem) → IsHistory deck P
    → (T0 : List ToldLine) (v : TasksView) → IsGood deck s os P v → ToldBy deck s os.all (history P) T0 v.told
    → (r : Res) (ts : List TaskId) → Owners deck os P r ts → StaysGood deck s os P T0 (tell_all v r ts)
tells_good deck s os P right T0 v good agreed r ts owners =
    let m : LearnedAll deck s os P T0 v (tell_all v r ts) =
    learned_all deck s os P right T0 r ts v
    (λ u e. (λ here. home-ours deck s v u good.system (owners u e).0 here, (owners u e).1)) good.tasks agreed in
    record {
      good = record { tasks = m.holds; here = λ u h. m.here u ∙ good.here u h; system = m.system ∙ good.system };
      told = m.agreed;
    }

-- a task without an outstanding request is seen as it is
pub task-closed : (ls : List Meaning) (p : Past) (T : List ToldLine) (t : TaskId) (x : TaskState) → x.outstanding ≡ None
    → IsTask ls p T (λ q. false) t x → IsTask ls p T (λ q. is_leaving q x.outstanding) t (unasked x)
task-closed ls p T t x closed k =
    subst (λ y. IsTask ls p T (λ q. is_leaving q x.outstanding) t y) (sym (unasked-none x closed))
    (subst (λ o. IsTask ls p T (λ q. is_leaving q o) t x) (sym closed) k)

-- the other tasks stand as they did
abbrev pub Leaves : Deck → Opens → Opens → List RunItem → List RunItem → TaskId → Type 0
Leaves deck os os' P P' t =
    (u : TaskId) (ls : List Meaning) (T T' : List ToldLine) (x : TaskState) → same_task u t ≡ false → Untold T T' u ls
    → IsHere deck os P T u ls x → IsHere deck os' P' T' u ls x

-- A request of task t of ours, with past p, was decided with this entry, and these became owners of the resource.
pub record Decides (deck : Deck) (os os' : Opens) (P P' : List RunItem) (t : TaskId) (p : Past) (h : HistEntry)
    (r : Res) (ts : List TaskId) :
    Type 0 where
  pub right : IsHistory deck P'
  pub learns : KnowsEntry P' t p h
  pub due : mine t os'.later ≡ []
  pub leaves : Leaves deck os os' P P' t
  pub away : is_among t (askers os'.all) ≡ false
  pub away_out : is_among t (askers os'.out) ≡ false
  pub owners : Owners deck os' P' r ts

-- a line that shows lists is a GQSCAN or a DISPLAY
display-verb : (deck : Deck) (t : TaskId) (ls : List Meaning) → lines_of deck t ≡ Some ls → (n : ℕ) (d : Display)
    → slice_get ls n ≡ Some (lines.Shows d) → is_same_verb d.verb d.verb ≡ true
display-verb deck t ls h n d at = of_task (lines_in (scripts_of deck t.system.0) t) h
  where
    of_display : (e : Display) → is_same_verb e.verb e.verb ≡ true → lines.Shows e ≡ lines.Shows d
        → is_same_verb d.verb d.verb ≡ true
    of_display e kind is = let same : e ≡ d = cc in subst (λ (z : Display). is_same_verb z.verb z.verb ≡ true) same kind

    of_line : (l : Line) → meaning_of deck.lists t l ≡ lines.Shows d → is_same_verb d.verb d.verb ≡ true
    of_line (written.Enq [] ret rnl) e = absurd (cc)
    of_line (written.Enq (i ∷ is) ret rnl) e = absurd (cc)
    of_line (written.Reserve q r ctl unit ret rnl) e = absurd (cc)
    of_line (written.Deq q r scope have unit rnl) e = absurd (cc)
    of_line (written.Wait q r scope rnl) e = absurd (cc)
    of_line (written.Gqscan true filter) e = of_display _ refl e
    of_line (written.Gqscan false filter) e = of_display _ refl e
    of_line written.DisplayC e = of_display _ refl e
    of_line (written.DisplayRes q r) e = of_display _ refl e

    of_place : (zs : List Line) (m : ℕ) → slice_get (map (meaning_of deck.lists t) zs) m ≡ Some (lines.Shows d)
        → is_same_verb d.verb d.verb ≡ true
    of_place [] m e = absurd (cc)
    of_place (z ∷ zs) zero e = of_line z (same_Some (meaning_of deck.lists t z) (lines.Shows d) e)
    of_place (z ∷ zs) (suc m) e = of_place zs m e

    of_task : (o : Option (List Line)) → meanings deck.lists t o ≡ Some ls → is_same_verb d.verb d.verb ≡ true
    of_task None e = absurd (cc)
    of_task (Some zs) e =
        of_place zs n (subst (λ ms. slice_get ms n ≡ Some (lines.Shows d))
        (sym (same_Some (map (meaning_of deck.lists t) zs) ls e)) at)

one_display : (d e : Display) → Some (lines.Shows d) ≡ Some (lines.Shows e) → d ≡ e
one_display d e h = cc

-- Task t of ours, with past p, looked: these are the entries of looks that it has learned.
pub record Looks (deck : Deck) (os os' : Opens) (P P' : List RunItem) (t : TaskId) (p : Past) (hs : List HistEntry) :
    Type 0 where
  pub right : IsHistory deck P'
  pub learns : KnowsLooks P' t p hs
  pub due : mine t os'.later ≡ []
  pub leaves : Leaves deck os os' P P' t

-- lines told after a code agree where the code does
agreed-code :
    (deck : Deck) (s : ℕ) (opens : List Req) (P : List HistEntry) (T : List ToldLine) (t : TaskId) (k : ℕ) (verb : Verb)
    → (t.system.0 == s) ≡ true → is_among t (askers opens) ≡ false → (c : Code) →
    (told_as c ≡ c → AgreesOf deck.limit (lines_of deck t) P T (Coded t k 0 verb c))
    → ToldBy deck s opens P T (told_after T t k verb c)
agreed-code deck s opens P T t k verb line away c h =
    by_code (λ d U.
    (told_as d ≡ d → AgreesOf deck.limit (lines_of deck t) P T (Coded t k 0 verb d)) → ToldBy deck s opens P T U)
    T t k verb (λ agrees. none) (λ d e agrees. more T (Coded t k 0 verb d) none line (refl, agrees e) away) c h

after-at_lines : (c : Code) (code : ℕ) → IsAtLines (phase_after c) (code_in (phase_after c) code)
after-at_lines C00 code = tt
after-at_lines C04 code = tt
after-at_lines C08 code = tt
after-at_lines C14 code = tt
after-at_lines C18 code = tt
after-at_lines Wait code = tt
after-at_lines (End m) code = refl

module _ (deck : Deck) (s : ℕ) (os os' : Opens) (P P' : List RunItem) (v : TasksView) (good : IsGood deck s os P v)
    (t : TaskId) (ls : List Meaning) (ours : IsOurs deck s v t ls) where
  -- the task alone changes, and lines are told to it
  changed-good : Leaves deck os os' P P' t → (v1 : TasksView) (x : TaskState) (T1 : List ToldLine) → Did v v1 t x T1
      → ((u : TaskId) (ms : List Meaning) → same_task u t ≡ false → Untold v.told T1 u ms)
      → IsHere deck os' P' T1 t ls x →
      ToldBy deck s os'.all (history P') v.told T1 → StaysGood deck s os' P' v.told v1
  changed-good leaves v1 x T1 did told here agreed = record {
    good = record {
      tasks =
          holds-changed deck s os os' P P' v v1 t ls good.tasks did.changed ours
          (λ u ms o apart k.
          leaves u ms v.told v1.told (state_of v u) apart
          (subst (λ T. Untold v.told T u ms) (sym did.told) (told u ms apart)) k)
          (subst (λ T. IsHere deck os' P' T t ls (state_of v1 t)) (sym did.told)
          (subst (λ y. IsHere deck os' P' T1 t ls y) (sym did.state) here));
      here = λ u g. did.changed.here u ∙ good.here u g;
      system = did.changed.system ∙ good.system;
    };
    told = subst (λ T. ToldBy deck s os'.all (history P') v.told T) (sym did.told) agreed;
  }

  -- one that has learned its item, and has nothing outstanding
  closed-here : (known : Known) (q : Past) → Knows P' t None known → past_of t known P' ≡ q → mine t os'.later ≡ []
      → is_among t (askers os'.all) ≡ false → is_among t (askers os'.out) ≡ false →
      (T1 : List ToldLine) (x : TaskState) → x.outstanding ≡ None → IsAtLines x.phase x.code
      → IsTask ls q T1 (λ z. false) t x → IsHere deck os' P' T1 t ls x
  closed-here known q knows past due away away_out T1 x closed at_lines task = record {
    known = known;
    knows = subst (λ o. Knows P' t o known) (sym closed) knows;
    due = due ∙ ap one (sym (knows-closed P' t None known refl knows));
    task =
        task-closed ls (past_of t known P') T1 t x closed
        (subst (λ y. IsTask ls y T1 (λ z. false) t x) (sym past) task);
    opened = subst (λ o. IsOpenBy deck.limit ls t x o) (sym closed) at_lines;
    looks = subst (λ o. IsLooks ls (past_of t known P').asked x.line o) (sym closed) tt;
    asked = asked-absent t x.outstanding os'.all away;
    sent = sent-absent t x.phase os'.out away_out;
  }

module _ (deck : Deck) (s : ℕ) (os os' : Opens) (P P' : List RunItem) (v : TasksView) (good : IsGood deck s os P v)
    (t : TaskId) (ls : List Meaning) (ours : IsOurs deck s v t ls) (p : Past) (r : Res) (ts : List TaskId) where
  -- x is the task, and T1 what was told, after its answer
  module _ (h : HistEntry) (d : Decides deck os os' P P' t p h r ts) where
    none_open : outstanding t d.learns.known P' ≡ None
    none_open = knows-closed P' t None d.learns.known refl d.learns.knows

    decided-speaks : Speaks deck.limit t (after_entry h p) (history P')
    decided-speaks =
        subst (λ q. Speaks deck.limit t q (history P')) d.learns.past
        (speaks-known deck P' t d.learns.known d.right d.learns.knows.live d.learns.knows.right none_open)

    pub decided-good : (v1 : TasksView) (x : TaskState) (T1 : List ToldLine) → Did v v1 t x T1 → x.outstanding ≡ None
        → IsAtLines x.phase x.code → IsTask ls (after_entry h p) T1 (λ q. false) t x →
        ((u : TaskId) (ms : List Meaning) → same_task u t ≡ false → Untold v.told T1 u ms)
        → ToldBy deck s os'.all (history P') v.told T1 → StaysGood deck s os' P' v.told (tell_all v1 r ts)
    decided-good v1 x T1 did closed at_lines task told agreed =
        let m =
        changed-good deck s os os' P P' v good t ls ours d.leaves v1 x T1 did told
        (closed-here deck s os os' P P' v good t ls ours d.learns.known (after_entry h p) d.learns.knows d.learns.past
        d.due d.away d.away_out T1 x closed at_lines task)
        agreed in
        tells_good deck s os' P' d.right v.told v1 m.good m.told r ts d.owners

  -- The task is seen ready at line n, and its next line is decided. v0 are the tasks when it has taken that line.
  module _ (n code0 : ℕ) (xs : List Rec) (ws : List Row) (v0 : TasksView)
      (did0 :
      Did v v0 t (record {
        line = suc n;
        phase = phases.Ready;
        code = code0;
        records = xs;
        outstanding = None;
        rows = ws;
      })
      v.told)
      (l : Meaning) (code : Code) where
    -- an ENQ
    module _ (c : Ctl) (unit : Option ℕ) (ret : Ret) (full : Bool)
        (d : Decides deck os os' P P' t p (entries.Enq t r c ret code) r ts)
        (k : Asks ls p v.told (λ q. false) t n code0 xs None ws l (AsksEnq r c ret)) where
      abbrev enq : HistEntry
      enq = entries.Enq t r c ret code

      -- its code agrees with each past that has the control which it tells
      enq-agrees : (q : Past) → Speaks deck.limit t q (history P') → q.asked ≡ p.asked ++ enq ∷ [] → told_as code ≡ code
          → (gets_control ret code ≡ true → q.owns r ≡ true)
          → AgreesOf deck.limit (lines_of deck t) (history P') v.told (Coded t (suc n) 0 verbs.Enq code)
      enq-agrees q z asked e control =
          agrees-ours deck t ls (history P') v.told (Coded t (suc n) 0 verbs.Enq code) ours.lines (
            omega arith,
            subst (TellsEnq (replay deck.limit (history P')) t code)
                (sym (ap (λ E. entry_of_line ls E (suc n)) (z.asked ∙ asked)
                ∙ of_new_line ls p v.told (λ z. false) t n code0 xs None ws l (AsksEnq r c ret) k enq))
                (e, λ g. z.owns r (control g)),
            k.before.codes,
            k.before.phase.going.no_end,
          )

      by_control : told_as code ≡ code → (b : Bool) → gets_control ret code ≡ b
          → AgreesOf deck.limit (lines_of deck t) (history P') v.told (Coded t (suc n) 0 verbs.Enq code)
      by_control e true g =
          let owned =
          ap (λ z. owns (list_of z r) t) (sym (replayed deck P' d.right))
          ∙ d.learns.control r (and_from (same_res r r) (gets_control ret code) (same_res-itself r) g) in
          enq-agrees (with_control r (after_entry enq p))
          (speaks-control deck.limit t (after_entry enq p) (history P') (decided-speaks enq d) r owned) refl e
          (λ f. or_right ((after_entry enq p).owns r) (same_res r r) (same_res-itself r))
      by_control e false g =
          enq-agrees (after_entry enq p) (decided-speaks enq d) refl e (λ f. no_truth (gets_control ret code) f g)

      pub enq-good :
          StaysGood deck s os' P' v.told
          (tell_new (replied v0 t (Enq r c ret full) unit (answers.Coded code)) (Some r) ts)
      unfolding tell_new replied
      enq-good =
          let did =
          did-after_code_enq v v0 t
          (record { line = suc n; phase = phases.Ready; code = code0; records = xs; outstanding = None; rows = ws })
          v.told ours.here did0 r c unit ret full code in
          decided-good enq d _ (record {
            line = suc n;
            phase = phase_after code;
            code = code_in (phase_after code) code0;
            records = enq_records r c unit ret code (suc n) xs;
            outstanding = None;
            rows = ws;
          })
          (told_after v.told t (suc n) verbs.Enq code) did refl (after-at_lines code code0)
          (task-enq ls p v.told t n code0 xs None ws l r c unit ret code k d.learns.fits)
          (λ u ms apart q leaving y j. task-told_after ms q v.told leaving u y t (suc n) verbs.Enq code apart j)
          (agreed-code deck s os'.all (history P') v.told t (suc n) verbs.Enq (ours-line deck s v t ls ours) d.away code
          (λ e. by_control e (gets_control ret code) refl))

    -- a DEQ
    module _ (have : Bool) (leaving : Res → Bool) (others : (q : Res) → same_res q r ≡ false → leaving q ≡ false)
        (d : Decides deck os os' P P' t p (entries.Deq t r have code) r ts)
        (k : Asks ls p v.told leaving t n code0 xs None ws l (AsksDeq r have)) where
      abbrev deq : HistEntry
      deq = entries.Deq t r have code

      pub deq-good : (unit : Option ℕ)
          → StaysGood deck s os' P' v.told (tell_new (replied v0 t (Deq r have) unit (answers.Coded code)) (Some r) ts)
      unfolding tell_new replied
      deq-good unit =
          let did =
          did-after_code_deq v v0 t
          (record { line = suc n; phase = phases.Ready; code = code0; records = xs; outstanding = None; rows = ws })
          v.told ours.here did0 r have unit code in
          decided-good deq d _ (record {
            line = suc n;
            phase = phase_after code;
            code = code_in (phase_after code) code0;
            records = cond (is_granted code) (without_first xs r) xs;
            outstanding = None;
            rows = ws;
          })
          (told_after v.told t (suc n) verbs.Deq code) did refl (after-at_lines code code0)
          (task-deq ls p v.told leaving t n code0 xs None ws l r have code k others d.learns.fits)
          (λ u ms apart q hold y j. task-told_after ms q v.told hold u y t (suc n) verbs.Deq code apart j)
          (agreed-code deck s os'.all (history P') v.told t (suc n) verbs.Deq (ours-line deck s v t ls ours) d.away
          code (λ e. agrees-ours deck t ls (history P') v.told (Coded t (suc n) 0 verbs.Deq code) ours.lines (
            omega arith,
            subst (TellsDeq code) (sym (ap (λ E. entry_of_line ls E (suc n)) (decided-speaks deq d).asked
                ∙ of_new_line ls p v.told leaving t n code0 xs None ws l (AsksDeq r have) k deq))
                refl,
            k.before.codes,
            k.before.phase.going.no_end,
          )))

  -- The task is seen ending, and the release of a resource is decided. v0 are the tasks when it asks for that.
  pub release-good : (n c code0 : ℕ) (xs : List Rec) (ws : List Row) (v0 : TasksView)
      → Did v v0 t (record {
        line = n;
        phase = phases.Ending c;
        code = code0;
        records = xs;
        outstanding = None;
        rows = ws;
      })
      v.told
      → code0 ≡ c →
      (leaving : Res → Bool) → ((q : Res) → same_res q r ≡ false → leaving q ≡ false)
      → IsTask ls p v.told leaving t
      (record { line = n; phase = phases.Ending c; code = code0; records = xs; outstanding = None; rows = ws })
      →
      Decides deck os os' P P' t p (entries.Release t r) r ts → (unit : Option ℕ)
      → StaysGood deck s os' P' v.told (tell_new (replied v0 t (Release r) unit (answers.Coded C00)) (Some r) ts)
  unfolding tell_new replied
  release-good n c code0 xs ws v0 did0 coded leaving others k d unit =
      let did =
      did-after_code_release v v0 t
      (record { line = n; phase = phases.Ending c; code = code0; records = xs; outstanding = None; rows = ws }) v.told
      ours.here did0 r unit C00 in
      decided-good (entries.Release t r) d _ (record {
        line = n;
        phase = phases.Ending c;
        code = code0;
        records = without_first xs r;
        outstanding = None;
        rows = ws;
      })
      v.told did refl coded
      (task-released ls p v.told leaving t n c code0 xs None ws r others k) (λ u ms apart q hold y j. j) none

module _ (deck : Deck) (s : ℕ) (os os' : Opens) (P P' : List RunItem) (v : TasksView) (good : IsGood deck s os P v)
    (t : TaskId) (ls : List Meaning) (ours : IsOurs deck s v t ls) (p : Past) where
  -- The task was shown what it looked at, or begins a display: it is seen looking at line n, with these rows. v1 are
  -- the tasks when it has them.
  module _ (hs : List HistEntry) (d : Looks deck os os' P P' t p hs) (n code : ℕ) (xs : List Rec) (ws : List Row)
      (v1 : TasksView) (did :
      Did v v1 t (record { line = n; phase = phases.Ready; code = code; records = xs; outstanding = None; rows = ws })
      v.told)
      (k :
      IsTask ls (looked hs p) v.told (λ q. false) t
      (record { line = n; phase = phases.ToSend; code = code; records = xs; outstanding = None; rows = ws })) where
    none_looked : outstanding t d.learns.known P' ≡ None
    none_looked = knows-closed P' t None d.learns.known refl d.learns.knows

    looked-speaks : Speaks deck.limit t (looked hs p) (history P')
    looked-speaks =
        subst (λ q. Speaks deck.limit t q (history P')) d.learns.past
        (speaks-known deck P' t d.learns.known d.right d.learns.knows.live d.learns.knows.right none_looked)

    -- where all looks of the line stand it is told their rows
    pub shown-good : is_among t (askers os'.all) ≡ false → is_among t (askers os'.out) ≡ false → (e : Display)
        → slice_get ls (n - 1) ≡ Some (lines.Shows e) → length (looked hs p).asked ≡ length (asks_of (take n ls))
        → StaysGood deck s os' P' v.told (tell_rows v1 t e.verb)
    shown-good away away_out e at all =
        let same : k.phase.display ≡ e = one_display k.phase.display e (sym k.phase.at ∙ at) in
        let l : ToldLine = Shown t n k.phase.display.verb (code_for (length ws)) ws in
        let both =
        task-shown ls v.told (λ q. false) t code xs None (looked hs p) n ws k all
        (display-verb deck t ls ours.lines (n - 1) k.phase.display k.phase.at) in
        subst (λ (z : Display). StaysGood deck s os' P' v.told (tell_rows v1 t z.verb)) same
        (changed-good deck s os os' P P' v good t ls ours d.leaves (tell_rows v1 t k.phase.display.verb)
        (record { line = n; phase = phases.Ready; code = code; records = xs; outstanding = None; rows = [] })
        (v.told ++ l ∷ [])
        (did-shown v v1 t
        (record { line = n; phase = phases.Ready; code = code; records = xs; outstanding = None; rows = ws }) v.told
        ours.here did k.phase.display.verb)
        (λ u ms apart q leaving y j. task-told ms q v.told leaving u y l apart j)
        (closed-here deck s os os' P P' v good t ls ours d.learns.known (looked hs p) d.learns.knows d.learns.past d.due
        away away_out (v.told ++ l ∷ []) _ refl tt both.0)
        (more v.told l none (ours-line deck s v t ls ours)
        (agrees-ours deck t ls (history P') v.told l ours.lines (both.1 deck.limit (history P') looked-speaks)) away))

    -- else it asks for more
    pub looks-good : (first count : ℕ) (f : Filter) (unit : Option ℕ) (showing : Option Showing)
        → AreLooks ls (looked hs p).asked n first count f showing →
        IsAskedBy t (Some
        (record { req = record { task = t; want = Look first count f }; unit = unit; showing = showing }))
        os'.all
        → is_among t (askers os'.out) ≡ false →
        StaysGood deck s os' P' v.told (with_outstanding (with_phase v1 t phases.ToSend) t
        (Some (record { req = record { task = t; want = Look first count f }; unit = unit; showing = showing })))
    looks-good first count f unit showing looks asked away_out =
        let a :
        Asked = record { req = record { task = t; want = Look first count f }; unit = unit; showing = showing } in
        let x :
        TaskState = record {
          line = n;
          phase = phases.ToSend;
          code = code;
          records = xs;
          outstanding = Some a;
          rows = ws;
        } in
        changed-good deck s os os' P P' v good t ls ours d.leaves
        (with_outstanding (with_phase v1 t phases.ToSend) t (Some a)) x v.told
        (did-outstanding v (with_phase v1 t phases.ToSend) t _ v.told ours.here
        (did-phase v v1 t _ v.told ours.here did phases.ToSend) (Some a))
        (λ u ms apart q leaving y j. j)
        (record {
          known = d.learns.known;
          knows = knows-asks P' t d.learns.known (Some a) d.learns.knows;
          due = d.due ∙ ap one (sym none_looked);
          task =
              subst (λ q. IsTask ls q v.told (λ r. is_leaving r (Some a)) t (unasked x)) (sym d.learns.past)
              (task-open ls (looked hs p) v.told (λ r. is_leaving r (Some a)) t
              (record { line = n; phase = phases.ToSend; code = code; records = xs; outstanding = None; rows = ws })
              (Some a) k);
          opened = (refl, refl, tt);
          looks = subst (λ (q : Past). AreLooks ls q.asked n first count f showing) (sym d.learns.past) looks;
          asked = asked;
          sent = sent-absent t phases.ToSend os'.out away_out;
        }) none
