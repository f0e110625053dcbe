-- Telling control to tasks that became owners.
use Rattle.std.proofs.Common.{◌≡◌, ℕ, Bool, true, false, cond, ◌&&◌, List, [], ◌∷◌, ◌++◌, Option, Some, None, refl, ap}
use Rattle.std.proofs.Common.{sym, ◌∙◌, subst, arith, inl, inr}
use Rattle.std.specs.Prelude.{◌⊎◌, ◌==◌}
use Rattle.std.specs.List.{list_any}
use Rattle.std.proofs.lemmas.Bool.{and_parts, and_from, eqb-true, eq-eqb, or_right}
use Rattle.grs_base.specs.Same.{same_res, same_task}
use Rattle.grs_base.specs.declared.resource.Res.{Res}
use Rattle.grs_base.specs.declared.resource.TaskId.{TaskId}
use Rattle.grs_base.specs.declared.decision.Code.TheVariants.{C00}
use Rattle.grs_legal.specs.declared.meaning.Meaning.{Meaning}
use Rattle.grs_base.proofs.SameLaws.{same_res-exact, same_res-itself, same_task-itself}
use Rattle.grs_wire.specs.declared.deck.Deck.{Deck}
use Rattle.grs_wire.specs.declared.told.Verb.TheVariants as verbs
use Rattle.grs_wire.specs.declared.told.ToldLine.{ToldLine}
use Rattle.grs_wire.specs.declared.told.ToldLine.TheVariants.{Coded, Post}
use Rattle.grs_wire.proofs.WantLaws.{by_test}
use Rattle.task_state.specs.declared.state.Asked.{Asked}
use Rattle.task_state.specs.declared.state.Rec.{Rec}
use Rattle.task_state.specs.declared.state.Phase.{Phase}
use Rattle.task_state.specs.declared.state.Phase.TheVariants as phases
use Rattle.task_state.specs.declared.state.TaskState.{TaskState}
use Rattle.task_state.specs.View.{TasksView, is_task, state_of, with_phase, with_told, telling, record_of, on_record}
use Rattle.task_state.specs.View.{code_in, is_sent}
use Rattle.task_state.proofs.ViewLaws.{state_of-same, told-state, state_of-telling, told-telling}
use Rattle.task_state.specs.Replies.{is_leaving, is_held, is_held_for, tell_control, tell_untold, tell_line}
use Rattle.task_state.specs.Replies.{passes_wait, tell_all}
use Rattle.grs_known.specs.Items.{RunItem, history}
use Rattle.grs_known.specs.Known.{Known, outstanding, Still, learns_control}
use Rattle.grs_known.specs.Past.{Past, past_of, Speaks}
use Rattle.grs_known.specs.Told.{tells_control}
use Rattle.grs_known.proofs.tasks.Invariant.{has_res, IsRec, IsDue, IsTask, with_control, is_unsent}
use Rattle.grs_known.specs.Passed.{has_ended}
use Rattle.grs_wire.specs.ToldTo.{is_told_to}
use Rattle.grs_known.proofs.tasks.Others.{task-told}
use Rattle.grs_known.proofs.lists.Owners.{is_among}
use Rattle.grs_known.proofs.tasks.Records.{found, found_has}
use Rattle.grs_known.proofs.tasks.Granted.{latest-on, task-coded, task-posted, task-marked, task-passed}
use Rattle.grs_known.proofs.system.Says.{AgreesBehind, Clears, ToldBy, more, is_line_of}
use Rattle.grs_known.proofs.system.Asking.{unasked, unasked-told, unasked-none, records-unasked, held-none, unheld}
use Rattle.grs_known.proofs.system.Asking.{Opens, IsOpenBy, open-told, IsAskedBy, asked-none, sent-kept}
use Rattle.grs_known.proofs.system.Ours.{IsOurs, Holds, IsHere, IsChanged, changed-state, changed-telling, changed-then}
use Rattle.grs_known.proofs.system.Ours.{changed-none, holds-changed, ours-line, agrees-ours}
use Rattle.grs_known.proofs.known.Histories.{IsHistory}
use Rattle.grs_known.proofs.known.Knows.{Knows, knows-closed, speaks-known, speaks_of-known, knows-control}
use Rattle.grs_known.proofs.lists.Facts.{any-last}

-- a record with control told
abbrev pub told_rec : Rec → Rec
told_rec z = record z { told = true }

state-told : (v : TasksView) (t : TaskId) (r : Res) → is_task v t ≡ true
    → state_of (with_told v t r) t ≡ record (state_of v t) { records = on_record r told_rec (state_of v t).records }
unfolding with_told
state-told v t r h = state_of-same v t _ h

changed-told : (v : TasksView) (t : TaskId) (r : Res) → IsChanged v (with_told v t r) t
unfolding with_told
changed-told v t r = changed-state v t _

told-told : (v : TasksView) (t : TaskId) (r : Res) → (with_told v t r).told ≡ v.told
unfolding with_told
told-told v t r = told-state v t _

pub state-phase : (v : TasksView) (t : TaskId) (p : Phase) → is_task v t ≡ true
    → state_of (with_phase v t p) t ≡ record (state_of v t) { phase = p; code = code_in p (state_of v t).code }
unfolding with_phase
state-phase v t p h = state_of-same v t _ h

pub changed-phase : (v : TasksView) (t : TaskId) (p : Phase) → IsChanged v (with_phase v t p) t
unfolding with_phase
changed-phase v t p = changed-state v t _

pub told-phase : (v : TasksView) (t : TaskId) (p : Phase) → (with_phase v t p).told ≡ v.told
unfolding with_phase
told-phase v t p = told-state v t _

-- Tasks after one of them, t, was told something: the others were told nothing, and it stands as it should.
pub record Learned (deck : Deck) (s : ℕ) (os : Opens) (P : List RunItem) (T0 : List ToldLine) (t : TaskId)
    (ls : List Meaning) (v w : TasksView) :
    Type 0 where
  pub changed : IsChanged v w t
  pub others : (u : TaskId) (ms : List Meaning) (p : Past) (leaving : Res → Bool) (y : TaskState)
      → same_task u t ≡ false → IsTask ms p v.told leaving u y → IsTask ms p w.told leaving u y
  pub own : IsHere deck os P w.told t ls (state_of w t)
  pub agreed : ToldBy deck s os.all (history P) T0 w.told

pub learned-holds :
    (deck : Deck) (s : ℕ) (os : Opens) (P : List RunItem) (T0 : List ToldLine) (t : TaskId) (ls : List Meaning)
    (v w : TasksView)
    → Holds deck s os P v → IsOurs deck s v t ls → Learned deck s os P T0 t ls v w → Holds deck s os P w
learned-holds deck s os P T0 t ls v w h ours m = holds-changed deck s os os P P v w t ls h m.changed ours
    (λ u ms o apart k. record {
      known = k.known;
      knows = k.knows;
      due = k.due;
      task =
          m.others u ms (past_of u k.known P) (λ r. is_leaving r (state_of v u).outstanding) (unasked (state_of v u))
          apart k.task;
      opened = k.opened;
      looks = k.looks;
      asked = k.asked;
      sent = k.sent;
    })
    m.own

module _ (deck : Deck) (s : ℕ) (os : Opens) (P : List RunItem) (right : IsHistory deck P) (T0 : List ToldLine) (r : Res)
    (t : TaskId) (ls : List Meaning) where
  -- the past of a task without a request
  speaks : (k : Known) (o : Option Asked) → o ≡ None → Knows P t o k → Speaks deck.limit t (past_of t k P) (history P)
  speaks k o e h = speaks-known deck P t k right h.live h.right (knows-closed P t o k e h)

  learned-none : (v : TasksView) → IsHere deck os P v.told t ls (state_of v t)
      → ToldBy deck s os.all (history P) T0 v.told → Learned deck s os P T0 t ls v v
  learned-none v k
      agreed = record { changed = changed-none v t; others = λ u ms p leaving y apart j. j; own = k; agreed = agreed }

  learned-then : (v w x : TasksView) → Learned deck s os P T0 t ls v w → Learned deck s os P T0 t ls w x
      → Learned deck s os P T0 t ls v x
  learned-then v w x a b = record {
    changed = changed-then v w x t a.changed b.changed;
    others = λ u ms p leaving y apart j. b.others u ms p leaving y apart (a.others u ms p leaving y apart j);
    own = b.own;
    agreed = b.agreed;
  }

  -- one line told, after which the task stands as x
  learned-by : (v w : TasksView) (l : ToldLine) (x : TaskState) → ToldBy deck s os.all (history P) T0 v.told
      → ((u : TaskId) → is_told_to u l ≡ same_task u t) →
      is_line_of s l ≡ true → AgreesBehind deck (history P) v.told l → Clears os.all l →
      IsChanged v w t → w.told ≡ v.told ++ l ∷ [] → state_of w t ≡ x → IsHere deck os P (v.told ++ l ∷ []) t ls x
      → Learned deck s os P T0 t ls v w
  learned-by v w l x agreed e line agrees clears changed told is here = record {
    changed = changed;
    others = λ u ms p leaving y apart k.
        subst (λ T. IsTask ms p T leaving u y) (sym told) (task-told ms p v.told leaving u y l (e u ∙ apart) k);
    own =
        subst (λ T. IsHere deck os P T t ls (state_of w t)) (sym told)
        (subst (λ z. IsHere deck os P (v.told ++ l ∷ []) t ls z) (sym is) here);
    agreed = subst (λ T. ToldBy deck s os.all (history P) T0 T) (sym told) (more v.told l agreed line agrees clears);
  }

  held_is : (ph : Phase) → is_held ph ≡ true → ph ≡ phases.HeldAnswer
  held_is phases.HeldAnswer e = refl
  held_is phases.Ready e = cc
  held_is phases.ToSend e = cc
  held_is phases.Sent e = cc
  held_is (phases.HeldLine q) e = cc
  held_is (phases.Ending c) e = cc
  held_is phases.Ended e = cc

  held_for_is : (ph : Phase) → is_held_for r ph ≡ true → ph ≡ phases.HeldLine r
  held_for_is (phases.HeldLine q) e = ap phases.HeldLine (sym (same_res-exact r q e))
  held_for_is phases.HeldAnswer e = cc
  held_for_is phases.Ready e = cc
  held_for_is phases.ToSend e = cc
  held_for_is phases.Sent e = cc
  held_for_is (phases.Ending c) e = cc
  held_for_is phases.Ended e = cc

  -- a task in a phase without an outstanding request, by its parts
  plain : (p : Past) (T : List ToldLine) (x : TaskState) (ph : Phase) → x.phase ≡ ph → x.outstanding ≡ None
      → IsTask ls p T (λ q. is_leaving q x.outstanding) t (unasked x) →
      IsTask ls p T (λ q. is_leaving q x.outstanding) t (record {
        line = x.line;
        phase = ph;
        code = x.code;
        records = x.records;
        outstanding = x.outstanding;
        rows = x.rows;
      })
  plain p T x ph e none_open k =
      subst (λ z.
      IsTask ls p T (λ q. is_leaving q x.outstanding) t (record {
        line = x.line;
        phase = z;
        code = x.code;
        records = x.records;
        outstanding = x.outstanding;
        rows = x.rows;
      }))
      e
      (subst (λ z. IsTask ls p T (λ q. is_leaving q x.outstanding) t z) (unasked-none x none_open) k)

  -- a task that stands as x, and passes a WAIT line if it is held at one
  passes : (v : TasksView) (x : TaskState) (T : List ToldLine) → IsOurs deck s v t ls → state_of v t ≡ x → v.told ≡ T
      → (k : IsHere deck os P T t ls x) → k.known.owns r ≡ true
      → list_any (tells_control t ls (past_of t k.known P).asked r) T ≡ true →
      ToldBy deck s os.all (history P) T0 v.told → Learned deck s os P T0 t ls v (passes_wait v t r)
  unfolding passes_wait
  passes v x T ours is told k owned control agreed =
      by_test (Learned deck s os P T0 t ls v) (is_held_for r (state_of v t).phase) _ _
      (λ held. held_here (held_for_is x.phase (ap (λ (y : TaskState). is_held_for r y.phase) (sym is) ∙ held)))
      (λ free.
      learned-none v (subst (λ U. IsHere deck os P U t ls (state_of v t)) (sym told)
      (subst (λ z. IsHere deck os P T t ls z) (sym is) k))
      agreed)
    where
      held_here : x.phase ≡ phases.HeldLine r
          → Learned deck s os P T0 t ls v
          (telling (with_phase v t phases.Ready) (Coded t (state_of v t).line 0 verbs.Wait C00))
      held_here is_line =
          let l : ToldLine = Coded t x.line 0 verbs.Wait C00 in
          let none_open : x.outstanding ≡ None = held-none deck.limit ls t x k.opened (ap is_unsent is_line) in
          let p : Past = past_of t k.known P in
          let both =
          task-passed ls p T (λ q. is_leaving q x.outstanding) t r x.line x.code x.records x.outstanding x.rows
          (plain p T x (phases.HeldLine r) is_line none_open k.task) owned control in
          let z : TaskState = record x { phase = phases.Ready } in
          let w : TasksView = telling (with_phase v t phases.Ready) (Coded t (state_of v t).line 0 verbs.Wait C00) in
          let same : Coded t (state_of v t).line 0 verbs.Wait C00 ≡ l =
          ap (λ (y : TaskState). Coded t y.line 0 verbs.Wait C00) is in
          learned-by v w l z agreed (λ u. refl) (ours-line deck s v t ls ours)
          (subst (λ U. AgreesBehind deck (history P) U l) (sym told) (
            refl,
            agrees-ours deck t ls (history P) T l ours.lines
                (both.1 deck.limit (history P) (speaks k.known x.outstanding none_open k.knows)),
          ))
          (asked-none t os.all (subst (λ o. IsAskedBy t o os.all) none_open k.asked))
          (changed-then v (with_phase v t phases.Ready) w t (changed-phase v t phases.Ready) (changed-telling _ t _))
          (told-telling _ _
          ∙ ap (λ U. U ++ Coded t (state_of v t).line 0 verbs.Wait C00 ∷ []) (told-phase v t phases.Ready)
          ∙ ap (λ m. v.told ++ m ∷ []) same)
          (state_of-telling _ t _
          ∙ state-phase v t phases.Ready ours.here
          ∙ ap (λ (y : TaskState). record y { phase = phases.Ready; code = code_in phases.Ready y.code }) is)
          (subst (λ U. IsHere deck os P (U ++ l ∷ []) t ls z) (sym told) (record {
            known = k.known;
            knows = k.knows;
            due = k.due;
            task =
                subst (λ y. IsTask ls p (T ++ l ∷ []) (λ q. is_leaving q x.outstanding) t y)
                (sym (unasked-none z none_open)) both.0;
            opened = subst (λ o. IsOpenBy deck.limit ls t z o) (sym none_open) tt;
            looks = k.looks;
            asked = k.asked;
            sent =
                sent-kept t x.phase phases.Ready os.out
                (λ e. absurd (let f : is_sent (phases.HeldLine r) ≡ true = ap is_sent (sym is_line) ∙ e in cc)) k.sent;
          }))

  -- A task that owns the resource, and has the record y of it, is told.
  module _ (v : TasksView) (ours : IsOurs deck s v t ls) (k : IsHere deck os P v.told t ls (state_of v t))
      (agreed : ToldBy deck s os.all (history P) T0 v.told) (still : Still r t P (outstanding t k.known P)) where
    -- its past, and what is known once it is told
    abbrev p : Past
    p = past_of t k.known P

    abbrev known : Known
    known = learns_control k.known r

    knows : Knows P t (state_of v t).outstanding known
    knows = knows-control P t r (state_of v t).outstanding k.known k.knows still

    -- of a resource that it is about to give up it is told nothing
    learned-marked : has_res r (unasked (state_of v t)).records ≡ true → is_leaving r (state_of v t).outstanding ≡ true
        → Learned deck s os P T0 t ls v (with_told v t r)
    learned-marked has leaves =
        let x : TaskState = state_of v t in
        let told : (with_told v t r).told ≡ v.told = told-told v t r in
        record {
          changed = changed-told v t r;
          others = λ u ms p leaving y apart j. subst (λ T. IsTask ms p T leaving u y) (sym told) j;
          own =
              subst (λ T. IsHere deck os P T t ls (state_of (with_told v t r) t))
              (sym told) (subst (λ y. IsHere deck os P v.told t ls y) (sym (state-told v t r ours.here)) (record {
                known = known;
                knows = knows;
                due = k.due;
                task =
                    subst (λ y. IsTask ls (with_control r p) v.told (λ q. is_leaving q x.outstanding) t y)
                    (sym (unasked-told x r told_rec))
                    (task-marked ls p v.told (λ q. is_leaving q x.outstanding) t r (unasked x) leaves has k.task);
                opened = open-told deck.limit ls t r x k.opened;
                looks = k.looks;
                asked = k.asked;
                sent = k.sent;
              }));
          agreed = subst (λ T. ToldBy deck s os.all (history P) T0 T) (sym told) agreed;
        }

    module _ (y : Rec) (rec :
        IsRec ls p.asked v.told k.known.owns (λ q. is_leaving q (state_of v t).outstanding) t
        (unasked (state_of v t)).line (unasked (state_of v t)).phase y)
        (has : has_res r (unasked (state_of v t)).records ≡ true) (same : same_res r y.res ≡ true) where
      -- by the code of the line that waited
      learned-coded : is_held (state_of v t).phase ≡ true → y.line ≡ (state_of v t).line
          → Learned deck s os P T0 t ls v
          (telling (with_phase (with_told v t r) t phases.Ready) (Coded t y.line 0 verbs.Enq C00))
      learned-coded held at =
          let x : TaskState = state_of v t in
          let is_held_answer : x.phase ≡ phases.HeldAnswer = held_is x.phase held in
          let none_open : x.outstanding ≡ None = held-none deck.limit ls t x k.opened (ap is_unsent is_held_answer) in
          let rec_plain =
          subst (λ (z : TaskState).
          IsRec ls p.asked v.told k.known.owns (λ q. is_leaving q x.outstanding) t z.line z.phase y)
          (unasked-none x none_open) rec in
          let both =
          task-coded ls p v.told (λ q. is_leaving q x.outstanding) t r y same x.line x.code x.records x.outstanding
          x.rows (plain p v.told x phases.HeldAnswer is_held_answer none_open k.task)
          (subst (λ ph. IsRec ls p.asked v.told k.known.owns (λ q. is_leaving q x.outstanding) t x.line ph y)
          is_held_answer rec_plain)
          (subst (λ (z : TaskState). has_res r z.records ≡ true) (unasked-none x none_open) has) at in
          let z :
          TaskState = record {
            line = x.line;
            phase = phases.Ready;
            code = x.code;
            records = on_record r told_rec x.records;
            outstanding = x.outstanding;
            rows = x.rows;
          } in
          let l : ToldLine = Coded t y.line 0 verbs.Enq C00 in
          learned-by v _ l z agreed (λ u. refl) (ours-line deck s v t ls ours) (
            refl,
            agrees-ours deck t ls (history P) v.told l ours.lines
                (both.1 deck.limit (history P) (speaks known x.outstanding none_open knows)),
          )
          (asked-none t os.all (subst (λ o. IsAskedBy t o os.all) none_open k.asked))
          (changed-then v (with_told v t r) _ t (changed-told v t r)
          (changed-then (with_told v t r) (with_phase (with_told v t r) t phases.Ready) _ t
          (changed-phase (with_told v t r) t phases.Ready) (changed-telling _ t _)))
          (told-telling _ _
          ∙ ap (λ T. T ++ Coded t y.line 0 verbs.Enq C00 ∷ [])
          (told-phase (with_told v t r) t phases.Ready ∙ told-told v t r))
          (state_of-telling _ t _
          ∙ state-phase (with_told v t r) t phases.Ready ((changed-told v t r).here t ∙ ours.here)
          ∙ ap (λ (z : TaskState). record z { phase = phases.Ready; code = code_in phases.Ready z.code })
          (state-told v t r ours.here))
          (record {
            known = known;
            knows = knows;
            due = k.due;
            task =
                subst (λ y. IsTask ls (with_control r p) (v.told ++ l ∷ []) (λ q. is_leaving q x.outstanding) t y)
                (sym (unasked-none z none_open)) both.0;
            opened = subst (λ o. IsOpenBy deck.limit ls t z o) (sym none_open) tt;
            looks = k.looks;
            asked = k.asked;
            sent =
                sent-kept t x.phase phases.Ready os.out
                (λ e. absurd (let f : is_sent phases.HeldAnswer ≡ true = ap is_sent (sym is_held_answer) ∙ e in cc))
                k.sent;
          })

      -- by posting its ECB, behind which it may pass a WAIT line
      learned-posted : is_leaving r (state_of v t).outstanding ≡ false
          → has_ended (unasked (state_of v t)).phase ≡ false → IsDue ls p.asked v.told t y.line →
          Learned deck s os P T0 t ls v (passes_wait (telling (with_told v t r) (Post t y.line)) t r)
      learned-posted stays going due =
          let x : TaskState = state_of v t in
          let both =
          task-posted ls p v.told (λ q. is_leaving q x.outstanding) t r y same (unasked x) k.task rec has due going in
          let z : TaskState = record x { records = on_record r told_rec x.records } in
          let l : ToldLine = Post t y.line in
          let w : TasksView = telling (with_told v t r) l in
          let latest =
          latest-on ls p.asked v.told k.known.owns (λ q. is_leaving q x.outstanding) t r y (unasked x).line
          (unasked x).phase same rec in
          let here : IsHere deck os P (v.told ++ l ∷ []) t ls z = record {
            known = known;
            knows = knows;
            due = k.due;
            task =
                subst (λ y. IsTask ls (with_control r p) (v.told ++ l ∷ []) (λ q. is_leaving q x.outstanding) t y)
                (sym (unasked-told x r told_rec)) both.0;
            opened = open-told deck.limit ls t r x k.opened;
            looks = k.looks;
            asked = k.asked;
            sent = k.sent;
          } in
          let told : w.told ≡ v.told ++ l ∷ [] = told-telling _ _ ∙ ap (λ T. T ++ l ∷ []) (told-told v t r) in
          let is : state_of w t ≡ z = state_of-telling _ t _ ∙ state-told v t r ours.here in
          let changed = changed-then v (with_told v t r) w t (changed-told v t r) (changed-telling _ t _) in
          let m : Learned deck s os P T0 t ls v w =
          learned-by v w l z agreed (λ u. refl) (ours-line deck s v t ls ours)
          (agrees-ours deck t ls (history P) v.told l ours.lines
          (both.1 deck.limit (history P) (speaks_of-known deck P t r x.outstanding known right knows stays)))
          tt
          changed told is here in
          learned-then v w _ m (passes w z (v.told ++ l ∷ [])
          (record { lines = ours.lines; home = ours.home; here = changed.here t ∙ ours.here }) is told here
          (or_right (k.known.owns r) (same_res r r) (same_res-itself r))
          (any-last (tells_control t ls p.asked r) v.told l (and_from (same_task t t) _ (same_task-itself t) latest))
          m.agreed)

      -- an untold record is told
      learned-record : is_leaving r (state_of v t).outstanding ≡ false
          → has_ended (unasked (state_of v t)).phase ≡ false → y.told ≡ false
          → Learned deck s os P T0 t ls v (tell_line v t r y.line)
      unfolding tell_line
      learned-record stays going untold =
          by_test (Learned deck s os P T0 t ls v) (is_held (state_of v t).phase && (y.line == (state_of v t).line)) _ _
          (λ e. learned-coded (and_parts _ _ e).0 (eqb-true _ _ (and_parts _ _ e).1))
          (λ e. learned-posted stays going (is_due e (rec.due untold)))
        where
          is_due : (is_held (state_of v t).phase && (y.line == (state_of v t).line)) ≡ false
              → ((is_held (unasked (state_of v t)).phase ≡ true) × (y.line ≡ (unasked (state_of v t)).line))
              ⊎ IsDue ls p.asked v.told t y.line
              → IsDue ls p.asked v.told t y.line
          is_due e (inl a) =
              let is : unasked (state_of v t) ≡ state_of v t =
              unasked-none (state_of v t) (unheld deck.limit ls t (state_of v t) k.opened a.0) in
              let a0 : is_held (state_of v t).phase ≡ true = ap (λ (z : TaskState). is_held z.phase) (sym is) ∙ a.0 in
              let a1 : y.line ≡ (state_of v t).line = a.1 ∙ ap (λ (z : TaskState). z.line) is in
              absurd (grind (arith, e, a0, eq-eqb y.line (state_of v t).line a1))
          is_due e (inr d) = d

    going-of : (y : Rec) → record_of (unasked (state_of v t)).records r ≡ Some y
        → has_ended (unasked (state_of v t)).phase ≡ false
    going-of y e = go (has_ended (unasked (state_of v t)).phase) refl
      where
        go : (b : Bool) → has_ended (unasked (state_of v t)).phase ≡ b → b ≡ false
        go true f = absurd (some_none (ap (λ xs. record_of xs r) (sym (k.task.emptied f)) ∙ e))
          where
            some_none : record_of [] r ≡ Some y → ⊥
            some_none g = absurd (cc)
        go false f = refl

    -- control is told to a task that owns, unless its record is marked already
    pub learned : Learned deck s os P T0 t ls v (tell_control v r t)
    unfolding tell_control tell_untold
    learned =
        subst (λ b. Learned deck s os P T0 t ls v (cond b (tell_untold v t r (record_of (state_of v t).records r)) v))
        (sym ours.here) (go (record_of (state_of v t).records r) refl)
      where
        go : (o : Option Rec) → record_of (state_of v t).records r ≡ o
            → Learned deck s os P T0 t ls v (tell_untold v t r o)
        go None e = learned-none v k agreed
        go (Some y) e =
            let seen : record_of (unasked (state_of v t)).records r ≡ Some y =
            ap (λ xs. record_of xs r) (records-unasked (state_of v t)) ∙ e in
            let f =
            found (IsRec ls p.asked v.told k.known.owns (λ q. is_leaving q (state_of v t).outstanding) t
            (unasked (state_of v t)).line (unasked (state_of v t)).phase)
            (unasked (state_of v t)).records r y k.task.records seen in
            by_test (Learned deck s os P T0 t ls v) y.told _ _
            (λ told. learned-none v k agreed)
            (λ untold.
            by_test (Learned deck s os P T0 t ls v) (is_leaving r (state_of v t).outstanding) _ _
            (learned-marked (found_has (unasked (state_of v t)).records r y seen))
            (λ stays.
            learned-record y f.0 (found_has (unasked (state_of v t)).records r y seen) f.1 stays (going-of y seen)
            untold))

-- tasks after control of a resource was told to these
pub record LearnedAll (deck : Deck) (s : ℕ) (os : Opens) (P : List RunItem) (T0 : List ToldLine) (v w : TasksView) :
    Type 0 where
  pub here : (u : TaskId) → is_task w u ≡ is_task v u
  pub system : w.system ≡ v.system
  pub holds : Holds deck s os P w
  pub agreed : ToldBy deck s os.all (history P) T0 w.told

-- a task of the deck and of this system
pub record IsHome (deck : Deck) (s : ℕ) (v : TasksView) (t : TaskId) : Type 0 where
  pub lines : List Meaning
  pub ours : IsOurs deck s v t lines

-- control that a task of the system is told now is still there
abbrev pub StillOwns : Deck → Opens → List RunItem → Res → TaskId → Type 0
StillOwns deck os P r u =
    (T : List ToldLine) (ls : List Meaning) (x : TaskState) (k : IsHere deck os P T u ls x)
    → Still r u P (outstanding u k.known P)

-- control is told, one by one, to tasks that own; one of another system is passed over
pub learned_all : (deck : Deck) (s : ℕ) (os : Opens) (P : List RunItem) → IsHistory deck P
    → (T0 : List ToldLine) (r : Res) (ts : List TaskId) (v : TasksView) →
    ((u : TaskId) → is_among u ts ≡ true → (is_task v u ≡ true → IsHome deck s v u) × StillOwns deck os P r u) →
    Holds deck s os P v → ToldBy deck s os.all (history P) T0 v.told → LearnedAll deck s os P T0 v (tell_all v r ts)
unfolding tell_all tell_control
learned_all deck s os P right T0 r [] v home h
    agreed = record { here = λ u. refl; system = refl; holds = h; agreed = agreed }
learned_all deck s os P right T0 r (t ∷ ts) v home h agreed =
    let m : LearnedAll deck s os P T0 v (tell_control v r t) =
    one (is_task v t) refl (home t (grind (arith, same_task-itself t))) in
    let n = learned_all deck s os P right T0 r ts (tell_control v r t)
    (λ u e. let hu = home u (or_right (same_task u t) (is_among u ts) e) in (
      λ z. let o = hu.0 (sym (m.here u) ∙ z) in
          record { lines = o.lines; ours = record { lines = o.ours.lines; home = o.ours.home; here = z } },
      hu.1,
    ))
    m.holds m.agreed in
    record { here = λ u. n.here u ∙ m.here u; system = n.system ∙ m.system; holds = n.holds; agreed = n.agreed }
  where
    one : (b : Bool) → is_task v t ≡ b → (is_task v t ≡ true → IsHome deck s v t) × StillOwns deck os P r t
        → LearnedAll deck s os P T0 v (tell_control v r t)
    one true e mine =
        let o = mine.0 e in
        let here = h.each t o.lines o.ours in
        let m =
        learned deck s os P right T0 r t o.lines v o.ours here agreed (mine.1 v.told o.lines (state_of v t) here) in
        record {
          here = m.changed.here;
          system = m.changed.system;
          holds = learned-holds deck s os P T0 t o.lines v (tell_control v r t) h o.ours m;
          agreed = m.agreed;
        }
    one false e mine =
        subst (λ b. LearnedAll deck s os P T0 v (cond b (tell_untold v t r (record_of (state_of v t).records r)) v))
        (sym e) (record { here = λ u. refl; system = refl; holds = h; agreed = agreed })
