-- The outstanding request of a task is decided: the task asks, and its request is decided, in one.
use Rattle.std.proofs.Common.{◌≡◌, ◌-◌, ◌+◌, ℕ, zero, suc, false, List, [], ◌∷◌, ◌++◌, length, ap, Option, Some, None}
use Rattle.std.proofs.Common.{refl, sym, ◌∙◌, subst, arith}
use Rattle.grs_base.specs.Same.{same_res}
use Rattle.grs_base.specs.State.{State, enq_code, deq_reply}
use Rattle.grs_base.specs.declared.look.Filter.{Filter}
use Rattle.grs_base.specs.declared.resource.Res.{Res}
use Rattle.grs_base.specs.declared.resource.TaskId.{TaskId}
use Rattle.grs_legal.specs.declared.meaning.Meaning.{Meaning}
use Rattle.grs_legal.specs.declared.meaning.Meaning.TheVariants as lines
use Rattle.grs_wire.specs.History.{entries_for, look_entries}
use Rattle.grs_wire.specs.Wants.{answer_to, looks, res_wanted}
use Rattle.grs_wire.specs.declared.deck.Deck.{Deck}
use Rattle.grs_wire.specs.declared.history.HistEntry.{HistEntry}
use Rattle.grs_wire.specs.declared.history.HistEntry.TheVariants as entries
use Rattle.grs_wire.specs.declared.request.Answer.TheVariants.{Rows}
use Rattle.grs_wire.specs.declared.request.Want.{Want}
use Rattle.grs_wire.specs.declared.request.Want.TheVariants.{Enq, Deq, Release, Look}
use Rattle.task_state.specs.Replies.{answered, recalled, goes_on_looking, tell_new, phase_asking, gives_up}
use Rattle.task_state.specs.View.{TasksView, state_of, with_rows, code_in}
use Rattle.task_state.specs.declared.state.Asked.{Asked}
use Rattle.task_state.specs.declared.state.Phase.TheVariants as phases
use Rattle.task_state.specs.declared.state.Showing.{Showing}
use Rattle.task_state.specs.declared.state.TaskState.{TaskState}
use Rattle.grs_known.specs.Items.{RunItem}
use Rattle.grs_known.specs.Past.{Past, past_of}
use Rattle.grs_known.proofs.known.ItemLaws.{rows-looks}
use Rattle.grs_known.proofs.lists.Owners.{is_among}
use Rattle.grs_known.proofs.lists.Shows.{looked, looks-are, length-looks}
use Rattle.grs_known.proofs.tasks.Invariant.{IsTask}
use Rattle.grs_known.proofs.tasks.Looks.{asked-looked, task-looked}
use Rattle.grs_known.proofs.system.Asking.{line_asked, phase_seen, IsAskedFor, AreLooks, IsLooksBy, Opens, asked-absent}
use Rattle.grs_known.proofs.system.Did.{Did, did-none, did-phase, did-outstanding, did-rows}
use Rattle.grs_known.proofs.system.Events.{StaysGood, Decides, Looks, shown-good, looks-good, enq-good, deq-good}
use Rattle.grs_known.proofs.system.Events.{release-good}
use Rattle.grs_known.proofs.system.Good.{IsGood}
use Rattle.grs_known.proofs.system.Ours.{IsOurs}
use Rattle.grs_known.proofs.system.Says.{askers}

module _ (deck : Deck) (s : ℕ) (os os' : Opens) (P P' : List RunItem) (v : TasksView) (good : IsGood deck s os P v)
    (t : TaskId) (ls : List Meaning) (ours : IsOurs deck s v t ls) where
  -- the task with its request taken back
  recalls : (w : Want)
      → Did v (recalled v t w) t (record (state_of v t) {
        phase = phase_asking w (state_of v t).code;
        code = code_in (phase_asking w (state_of v t).code) (state_of v t).code;
        outstanding = None;
      })
      v.told
  unfolding recalled
  recalls w =
      let y : TaskState = state_of v t in
      did-outstanding v _ t _ v.told ours.here
      (did-phase v v t y v.told ours.here (did-none v t) (phase_asking w y.code)) None

  abbrev p : Past
  p = past_of t (good.tasks.each t ls ours).known P

  -- what a task that looks comes to by the rows that it is shown
  looks-answered : (first count : ℕ) (f : Filter) (unit : Option ℕ) (showing : Option Showing) (S : State) →
      IsTask ls p v.told (λ r. false) t (record (state_of v t) { phase = phases.ToSend; outstanding = None }) →
      AreLooks ls p.asked (state_of v t).line first count f showing
      → Looks deck os os' P P' t p (look_entries S t first count f) → is_among t (askers os'.all) ≡ false
      → is_among t (askers os'.out) ≡ false →
      StaysGood deck s os' P' v.told (answered (recalled v t (Look first count f)) t
      (record { req = record { task = t; want = Look first count f }; unit = unit; showing = showing })
      (Rows (looks S first count f)))
  unfolding goes_on_looking
  looks-answered first count f unit showing S k a d away away_out =
      let y : TaskState = state_of v t in
      let hs : List HistEntry = look_entries S t first count f in
      let made : length hs ≡ count = length-looks S t first count f in
      let grown : length (looked hs p).asked ≡ length p.asked + count =
      asked-looked hs p ∙ ap (λ n. length p.asked + n) made in
      let task =
      subst (λ zs.
      IsTask ls (looked hs p) v.told (λ r. false) t (record {
        line = y.line;
        phase = phases.ToSend;
        code = y.code;
        records = y.records;
        outstanding = None;
        rows = y.rows ++ zs;
      }))
      (rows-looks S t first count f)
      (task-looked ls v.told (λ r. false) t y.code y.records None hs p y.line y.rows (looks-are S t first count f) k
      (omega (arith, a.all, made))) in
      let did =
      did-rows v (recalled v t (Look first count f)) t (record {
        line = y.line;
        phase = phases.Ready;
        code = y.code;
        records = y.records;
        outstanding = None;
        rows = y.rows;
      })
      v.told ours.here (recalls (Look first count f)) (looks S first count f) in
      subst (λ z.
      StaysGood deck s os' P' v.told (answered (recalled v t (Look first count f)) t
      (record { req = record { task = t; want = Look first count f }; unit = unit; showing = z })
      (Rows (looks S first count f))))
      (sym a.is) (by_left a.left refl task did grown)
    where
      by_left : (left : ℕ) → a.left ≡ left →
          IsTask ls (looked (look_entries S t first count f) p) v.told (λ r. false) t
          (record {
            line = (state_of v t).line;
            phase = phases.ToSend;
            code = (state_of v t).code;
            records = (state_of v t).records;
            outstanding = None;
            rows = (state_of v t).rows ++ looks S first count f;
          })
          →
          Did v (with_rows (recalled v t (Look first count f)) t (looks S first count f)) t
          (record {
            line = (state_of v t).line;
            phase = phases.Ready;
            code = (state_of v t).code;
            records = (state_of v t).records;
            outstanding = None;
            rows = (state_of v t).rows ++ looks S first count f;
          })
          v.told
          →
          length (looked (look_entries S t first count f) p).asked ≡ length p.asked + count →
          StaysGood deck s os' P' v.told (answered (recalled v t (Look first count f)) t
          (record {
            req = record { task = t; want = Look first count f };
            unit = unit;
            showing = Some (record { verb = a.display.verb; left = left });
          })
          (Rows (looks S first count f)))
      by_left zero e task did grown =
          shown-good deck s os os' P P' v good t ls ours p (look_entries S t first count f) d (state_of v t).line
          (state_of v t).code (state_of v t).records ((state_of v t).rows ++ looks S first count f)
          (with_rows (recalled v t (Look first count f)) t (looks S first count f)) did task away away_out a.display
          a.at
          (omega (arith, grown, a.all, e))
      by_left (suc left) e task did grown =
          looks-good deck s os os' P P' v good t ls ours p (look_entries S t first count f) d (state_of v t).line
          (state_of v t).code (state_of v t).records ((state_of v t).rows ++ looks S first count f)
          (with_rows (recalled v t (Look first count f)) t (looks S first count f)) did task (first + count) 1 f unit
          (Some (record { verb = a.display.verb; left = left }))
          (record {
            display = a.display;
            at = a.at;
            left = left;
            is = refl;
            filter = a.filter;
            some = omega arith;
            from = omega (arith, a.from);
            to = omega (arith, a.to, e);
            all = omega (arith, grown, a.all, e);
          })
          (asked-absent t (Some (record {
            req = record { task = t; want = Look (first + count) 1 f };
            unit = unit;
            showing = Some (record { verb = a.display.verb; left = left });
          }))
          os'.all away)
          away_out

  -- S are the lists by which it is decided, and ts the tasks that became owners by it
  wanted-good : (w : Want) (unit : Option ℕ) (showing : Option Showing) (S : State) (ts : List TaskId) →
      IsTask ls p v.told (λ r. gives_up r w) t (record (state_of v t)
      { line = line_asked w (state_of v t).line; phase = phase_seen w (state_of v t).code; outstanding = None })
      →
      IsAskedFor deck.limit ls (state_of v t).line (state_of v t).records w unit
      → IsLooksBy ls p.asked (state_of v t).line w showing →
      ((h : HistEntry) (r : Res) → res_wanted w ≡ Some r → entries_for S t w ≡ h ∷ []
      → Decides deck os os' P P' t p h r ts)
      →
      (res_wanted w ≡ None
      → Looks deck os os' P P' t p (entries_for S t w) × (is_among t (askers os'.all) ≡ false)
      × (is_among t (askers os'.out) ≡ false))
      →
      StaysGood deck s os' P' v.told (tell_new (answered (recalled v t w) t
      (record { req = record { task = t; want = w }; unit = unit; showing = showing }) (answer_to S t w))
      (res_wanted w) ts)
  unfolding tell_new
  wanted-good (Enq r c ret full) unit showing S ts k a l d z =
      let y : TaskState = state_of v t in
      let w : Want = Enq r c ret full in
      let back : suc (y.line - 1) ≡ y.line = omega (arith, a.0) in
      let did0 =
      subst (λ m.
      Did v (recalled v t w) t
      (record { line = m; phase = phases.Ready; code = y.code; records = y.records; outstanding = None; rows = y.rows })
      v.told)
      (sym back) (recalls w) in
      enq-good deck s os os' P P' v good t ls ours p r ts (y.line - 1) y.code y.records y.rows (recalled v t w) did0
      (lines.Enq r c ret unit) (enq_code S r t c ret full) c unit ret full
      (d (entries.Enq t r c ret (enq_code S r t c ret full)) r refl refl) (record { before = k; at = a.1; asks = refl })
  wanted-good (Deq r have) unit showing S ts k a l d z =
      let y : TaskState = state_of v t in
      let w : Want = Deq r have in
      let back : suc (y.line - 1) ≡ y.line = omega (arith, a.0) in
      let did0 =
      subst (λ m.
      Did v (recalled v t w) t
      (record { line = m; phase = phases.Ready; code = y.code; records = y.records; outstanding = None; rows = y.rows })
      v.told)
      (sym back) (recalls w) in
      deq-good deck s os os' P P' v good t ls ours p r ts (y.line - 1) y.code y.records y.rows (recalled v t w) did0
      (lines.Deq r have) (deq_reply S r t have) have (λ z. same_res z r) (λ z apart. apart)
      (d (entries.Deq t r have (deq_reply S r t have)) r refl refl) (record { before = k; at = a.1; asks = refl }) unit
  wanted-good (Release r) unit showing S ts k a l d z =
      let y : TaskState = state_of v t in
      release-good deck s os os' P P' v good t ls ours p r ts y.line y.code y.code y.records y.rows
      (recalled v t (Release r)) (recalls (Release r)) refl (λ z. same_res z r) (λ z apart. apart) k
      (d (entries.Release t r) r refl refl) unit
  wanted-good (Look first count f) unit showing S ts k a l d z =
      let b = z refl in looks-answered first count f unit showing S k l b.0 b.1 b.2

  pub asked-good : (a : Asked) → a.req.task ≡ t → (S : State) (ts : List TaskId) →
      IsTask ls p v.told (λ r. gives_up r a.req.want) t (record (state_of v t) {
        line = line_asked a.req.want (state_of v t).line;
        phase = phase_seen a.req.want (state_of v t).code;
        outstanding = None;
      })
      →
      IsAskedFor deck.limit ls (state_of v t).line (state_of v t).records a.req.want a.unit
      → IsLooksBy ls p.asked (state_of v t).line a.req.want a.showing →
      ((h : HistEntry) (r : Res) → res_wanted a.req.want ≡ Some r → entries_for S t a.req.want ≡ h ∷ []
      → Decides deck os os' P P' t p h r ts)
      →
      (res_wanted a.req.want ≡ None
      → Looks deck os os' P P' t p (entries_for S t a.req.want) × (is_among t (askers os'.all) ≡ false)
      × (is_among t (askers os'.out) ≡ false))
      →
      StaysGood deck s os' P' v.told
      (tell_new (answered (recalled v t a.req.want) t a (answer_to S t a.req.want)) (res_wanted a.req.want) ts)
  asked-good a own S ts k f l d z =
      subst (λ u.
      StaysGood deck s os' P' v.told (tell_new (answered (recalled v t a.req.want) t
      (record { req = record { task = u; want = a.req.want }; unit = a.unit; showing = a.showing })
      (answer_to S t a.req.want))
      (res_wanted a.req.want) ts))
      (sym own)
      (wanted-good a.req.want a.unit a.showing S ts k f l d z)
