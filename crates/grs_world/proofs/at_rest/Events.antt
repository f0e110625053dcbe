-- Each task of a system stays up to date in every event of the system.
use Rattle.grs_world.proofs.Common.{[], ◌&&◌, ◌++◌, ◌+◌, ◌-◌, ◌==◌, ◌||◌, ◌∙◌, ◌∷◌, ◌≡◌, all_sent, and_from, and_parts}
use Rattle.grs_world.proofs.Common.{Answer, answer_own, answer_to, any-more, ap, arith, Asked, Bool, by_test, cond}
use Rattle.grs_world.proofs.Common.{Deck, Deq, Did, did-none, did-outstanding, did-phase, Each, Elem, Enq, false}
use Rattle.grs_world.proofs.Common.{get_or, is_for_all, is_of_deck, is_sent, is_task, is_task-telling, is_unmarked}
use Rattle.grs_world.proofs.Common.{IsWanted, IsWantedBy, length-map, lines_of, List, list_all, Look, Meaning, nat_lt}
use Rattle.grs_world.proofs.Common.{new_owners, new_task, NodeState, None, not, on_record, one_by_one, Option}
use Rattle.grs_world.proofs.Common.{option_map, Phase, process, process_entry, RankedRow, read_entries, read_entry, Rec}
use Rattle.grs_world.proofs.Common.{refl, Release, Remove, Req, Request, Res, res_wanted, RingBody, RingEntry, Rows}
use Rattle.grs_world.proofs.Common.{rows_of, same_res, sent_again, Showing, side_of, Some, some_of, StarPart, State}
use Rattle.grs_world.proofs.Common.{state_of, state_of-telling, subst, suc, sym, TaskId, TaskState, TasksView}
use Rattle.grs_world.proofs.Common.{tell_answer, tell_answer_any, tell_answer_ranked, telling, told-telling, ToldLine}
use Rattle.grs_world.proofs.Common.{true, unrecorded, Want, with_first_look, with_list_ranks, with_outstanding}
use Rattle.grs_world.proofs.Common.{with_phase, with_rank, with_rank_by, with_rank_of, with_ranks, zero, ℕ}
use Rattle.std.specs.Prelude.{map}
use Rattle.ring_mode.specs.Ring.{Side, is_asked}
use Rattle.grs_known.proofs.system.Did.{did-state}
use Rattle.task_state.proofs.ViewLaws.{is_task-state}
use Rattle.grs_known.proofs.tasks.UpToDate.{AreCoded, HasUnit, IsLeft, IsUpToDate, any-date, any-wanted, is_kept}
use Rattle.grs_known.proofs.tasks.UpToDate.{more-told}
use Rattle.grs_node.specs.Change.{first_look, more_left}
use Rattle.grs_wire.specs.declared.request.Answer.TheVariants.{Coded as CodedBy}
use Rattle.grs_node.specs.Removal.{again, has_sent_in}
use Rattle.star_client.specs.Client.{can_get}
use Rattle.grs_known.specs.Passed.{is_at_line, passed_by, passed_asking}
use Rattle.grs_wire.specs.contracts.request.WantPartialEq.TheImpl.{eq-value as same_want}
use Rattle.grs_known.proofs.tasks.Answered.{IsAnswerTo, answer-told}
use Rattle.grs_world.proofs.at_rest.Steps.{AllDate, date-did, date-new, date-own, placed-here}
use Rattle.grs_world.proofs.at_rest.Freed.{date-freed}
use Rattle.task_state.specs.declared.state.Phase.TheVariants as phases

-- ---- the answer to an outstanding request
-- a task of the deck that has this outstanding gets its answer
date-answer : (whole : Bool) (deck : Deck) (v : TasksView) (u : TaskId) (a : Asked) (answer : Answer)
    → AllDate whole deck v
    → is_of_deck deck u ≡ true → is_task v u ≡ true → (state_of v u).outstanding ≡ Some a → IsAnswerTo a.req.want answer
    → AllDate whole deck (tell_answer v u a answer)
date-answer whole deck v u a answer h of_deck here asks is =
    let lines = some_of (lines_of deck u) of_deck in
    let z =
    answer-told whole lines.0 v u u (placed-here v u u here here refl) here a asks (h u lines.0 lines.1 here) answer
    is in
    date-own whole deck v (tell_answer v u a answer) u lines.0 z.state z.told lines.1 here z.did z.grows z.date h

-- what is asked for a resource a code answers, and looks rows do
wanted-answered : (w : Want) (s : State) (t : TaskId) (q : Want) → same_want.it q w ≡ true
    → IsAnswerTo w (answer_to s t q)
wanted-answered (Enq r c ret full) s t (Enq q d ret' full') e = tt
wanted-answered (Enq r c ret full) s t (Deq q have') e = tt
wanted-answered (Enq r c ret full) s t (Release q) e = tt
wanted-answered (Enq r c ret full) s t (Look first' count' f') e = absurd (cc)
wanted-answered (Deq r have) s t (Enq q d ret' full') e = tt
wanted-answered (Deq r have) s t (Deq q have') e = tt
wanted-answered (Deq r have) s t (Release q) e = tt
wanted-answered (Deq r have) s t (Look first' count' f') e = absurd (cc)
wanted-answered (Release r) s t (Enq q d ret' full') e = tt
wanted-answered (Release r) s t (Deq q have') e = tt
wanted-answered (Release r) s t (Release q) e = tt
wanted-answered (Release r) s t (Look first' count' f') e = absurd (cc)
wanted-answered (Look first count f) s t (Enq q d ret' full') e = absurd (cc)
wanted-answered (Look first count f) s t (Deq q have') e = absurd (cc)
wanted-answered (Look first count f) s t (Release q) e = absurd (cc)
wanted-answered (Look first count f) s t (Look first' count' f') e = tt

pub date-answer_own : (whole : Bool) (deck : Deck) (v : TasksView) (q : Req) (s : State) → AllDate whole deck v
    → is_of_deck deck q.task ≡ true → AllDate whole deck (answer_own v q (answer_to s q.task q.want))
unfolding answer_own tell_answer_any
date-answer_own whole deck v q s h of_deck =
    by_test (AllDate whole deck)
    (is_task v q.task && (is_sent (state_of v q.task).phase && is_asked q.want (state_of v q.task).outstanding)) _ v
    answers (λ e. h)
  where
    answers :
        (is_task v q.task && (is_sent (state_of v q.task).phase && is_asked q.want (state_of v q.task).outstanding))
        ≡ true
        → AllDate whole deck (tell_answer_any v q.task (answer_to s q.task q.want) (state_of v q.task).outstanding)
    answers e =
        go (state_of v q.task).outstanding refl
        (and_parts (is_sent (state_of v q.task).phase) _ (and_parts (is_task v q.task) _ e).1).1
      where
        go : (o : Option Asked) → (state_of v q.task).outstanding ≡ o
            → is_asked q.want (state_of v q.task).outstanding ≡ true
            → AllDate whole deck (tell_answer_any v q.task (answer_to s q.task q.want) o)
        go None f asked = h
        go (Some a) f asked =
            let here : is_task v q.task ≡ true = (and_parts (is_task v q.task) _ e).0 in
            date-answer whole deck v q.task a (answer_to s q.task q.want) h of_deck here f
            (wanted-answered a.req.want s q.task q.want (ap (is_asked q.want) (sym f) ∙ asked))

-- ---- what the message gave
date-entry : (whole : Bool) (deck : Deck) (n : NodeState) (body : RingBody) → AllDate whole deck n.tasks
    → AllDate whole deck (read_entry deck n body).tasks
unfolding process_entry process
date-entry whole deck n (Remove target) h = date-freed whole deck target.0 (rows_of n.shared) n.tasks h
date-entry whole deck n (Request q) h =
    by_test (λ (k : NodeState). AllDate whole deck k.tasks) (is_of_deck deck q.task) _
    n (λ of_deck.
    by_test (λ (side : Side). AllDate whole deck side.tasks) (is_for_all (res_wanted q.want)) _
    (side_of n.tasks n.shared)
    (λ wide.
    date-new whole deck (res_wanted q.want) (new_owners n.shared q.task q.want)
    (answer_own n.tasks q (answer_to n.shared q.task q.want)) (date-answer_own whole deck n.tasks q n.shared h of_deck))
    (λ narrow. h))
    (λ away. h)

pub date-entries : (whole : Bool) (deck : Deck) (es : List RingEntry) (n : NodeState) → AllDate whole deck n.tasks
    → AllDate whole deck (read_entries deck n es).tasks
unfolding read_entries
date-entries whole deck [] n h = h
date-entries whole deck (e ∷ es) n h =
    date-entries whole deck es (read_entry deck n e.body) (date-entry whole deck n e.body h)

-- ---- a request was sent
coded-less : (ls : List Meaning) (T : List ToldLine) (t : TaskId) (o : Option Asked) (p : Phase) (n : ℕ)
    → AreCoded ls T t (passed_by o p n) → AreCoded ls T t (passed_by o phases.Sent n)
coded-less ls T t (Some a) p n h = h
coded-less ls T t None p n h = go (is_at_line p) h
  where
    go : (b : Bool) → AreCoded ls T t (cond b (n - 1) n) → AreCoded ls T t (n - 1)
    go true k = k
    go false k = λ j low in_it asks. k j low (omega (arith, in_it)) asks

pub date-sent : (whole : Bool) (deck : Deck) (v : TasksView) (u : TaskId) → AllDate whole deck v → is_task v u ≡ true
    → AllDate whole deck (with_phase v u phases.Sent)
date-sent whole deck v u h here =
    date-did whole deck v (with_phase v u phases.Sent) u (record (state_of v u) { phase = phases.Sent }) v.told here
    (did-phase v v u (state_of v u) v.told here (did-none v u) phases.Sent) (λ p k. k)
    (λ t ls at place k. record {
      closed = λ e. absurd (cc);
      wanted = k.wanted;
      held = refl;
      coded = coded-less ls v.told t (state_of v u).outstanding (state_of v u).phase (state_of v u).line k.coded;
      units = k.units;
      ended = λ e. absurd (cc);
    })
    h

-- ---- tasks that sent what they ask of an entry are to send it again
get_or-again : (p : StarPart) (e : ℕ) (xs : List TaskState) (i : ℕ)
    → get_or (map (again p e) xs) i new_task ≡ again p e (get_or xs i new_task)
get_or-again p e [] i = refl
get_or-again p e (x ∷ xs) zero = refl
get_or-again p e (x ∷ xs) (suc i) = get_or-again p e xs i

passed-again : (o : Option Asked) (n : ℕ) → passed_by o phases.Sent n ≡ passed_by o phases.ToSend n
passed-again None n = refl
passed-again (Some a) n = refl

date-once : (whole : Bool) (ls : List Meaning) (T : List ToldLine) (t : TaskId) (p : StarPart) (e : ℕ) (x : TaskState)
    → IsUpToDate whole ls T t x → IsUpToDate whole ls T t (again p e x)
date-once whole ls T t p e x h =
    by_test (IsUpToDate whole ls T t) (has_sent_in p e x) (record x { phase = phases.ToSend }) x
    (λ sent. record {
      closed = λ z. absurd (cc);
      wanted = h.wanted;
      held = refl;
      coded =
          subst (AreCoded ls T t) (passed-again x.outstanding x.line)
          (coded-less ls T t x.outstanding x.phase x.line h.coded);
      units = h.units;
      ended = λ z. absurd (cc);
    })
    (λ other. h)

pub date-again : (whole : Bool) (deck : Deck) (v : TasksView) (p : StarPart) (e : ℕ) → AllDate whole deck v
    → AllDate whole deck (sent_again p e v)
unfolding state_of
date-again whole deck v p e h t ls lines here =
    subst (IsUpToDate whole ls v.told t) (sym (get_or-again p e v.tasks t.task))
    (date-once whole ls v.told t p e (state_of v t)
    (h t ls lines
    (ap (λ k. (v.system == t.system.0) && nat_lt t.task k) (sym (length-map v.tasks (again p e))) ∙ here)))

here-phase : (v : TasksView) (u : TaskId) (p : Phase) (t : TaskId) → is_task (with_phase v u p) t ≡ is_task v t
unfolding with_phase
here-phase v u p t = is_task-state v u t _

pub here-all : (v w : TasksView) → ((t : TaskId) → is_task w t ≡ is_task v t) → (qs : List Req)
    → list_all (λ q. is_task v q.task) qs ≡ true → list_all (λ q. is_task w q.task) qs ≡ true
here-all v w same [] h = refl
here-all v w same (q ∷ qs) h =
    let both = and_parts (is_task v q.task) (list_all (λ z. is_task v z.task) qs) h in
    and_from (is_task w q.task) _ (same q.task ∙ both.0) (here-all v w same qs both.1)

pub date-all_sent : (whole : Bool) (deck : Deck) (qs : List Req) (v : TasksView) → AllDate whole deck v
    → list_all (λ q. is_task v q.task) qs ≡ true → AllDate whole deck (all_sent v qs)
unfolding all_sent
date-all_sent whole deck [] v h here = h
date-all_sent whole deck (q ∷ qs) v h here =
    let both = and_parts (is_task v q.task) (list_all (λ z. is_task v z.task) qs) here in
    date-all_sent whole deck qs (with_phase v q.task phases.Sent) (date-sent whole deck v q.task h both.0)
    (here-all v (with_phase v q.task phases.Sent) (here-phase v q.task phases.Sent) qs both.1)

-- ---- ranks
abbrev ranked : ℕ → Rec → Rec
ranked n z = record z { rank = n }

units-ranked : (ls : List Meaning) (r : Res) (n : ℕ) (xs : List Rec) → Each (HasUnit ls) xs
    → Each (HasUnit ls) (on_record r (ranked n) xs)
units-ranked ls r n [] h = h
units-ranked ls r n (x ∷ xs) h = (go (same_res r x.res), units-ranked ls r n xs h.1)
  where
    go : (b : Bool) → HasUnit ls (cond b (ranked n x) x)
    go true = h.0
    go false = h.0

unmarked-ranked : (q r : Res) (n : ℕ) (xs : List Rec) → is_unmarked q (on_record r (ranked n) xs) ≡ is_unmarked q xs
unmarked-ranked q r n [] = refl
unmarked-ranked q r n (x ∷ xs) = go (same_res r x.res) (unmarked-ranked q r n xs)
  where
    go : (b : Bool) → is_unmarked q (on_record r (ranked n) xs) ≡ is_unmarked q xs
        → is_unmarked q (cond b (ranked n x) x ∷ on_record r (ranked n) xs) ≡ is_unmarked q (x ∷ xs)
    go true more = ap (λ c. (same_res q x.res && not x.told) || c) more
    go false more = ap (λ c. (same_res q x.res && not x.told) || c) more

kept-ranked : (p : Phase) (r : Res) (n : ℕ) (xs : List Rec) → is_kept p xs ≡ true
    → is_kept p (on_record r (ranked n) xs) ≡ true
kept-ranked (phases.HeldLine q) r n xs h = unmarked-ranked q r n xs ∙ h
kept-ranked phases.HeldAnswer r n xs h = refl
kept-ranked phases.ToSend r n xs h = refl
kept-ranked phases.Sent r n xs h = refl
kept-ranked phases.Ready r n xs h = refl
kept-ranked (phases.Ending c) r n xs h = refl
kept-ranked phases.Ended r n xs h = refl

pub date-rank : (whole : Bool) (deck : Deck) (v : TasksView) (u : TaskId) (r : Res) (n : ℕ) → AllDate whole deck v
    → is_task v u ≡ true
    → AllDate whole deck (with_rank v u r n)
unfolding with_rank
date-rank whole deck v u r n h here =
    date-did whole deck v (with_rank v u r n) u
    (record (state_of v u) { records = on_record r (ranked n) (state_of v u).records }) v.told here did (λ p k. k)
    (λ t ls at place k. record {
      closed = k.closed;
      wanted = k.wanted;
      held = kept-ranked (state_of v u).phase r n (state_of v u).records k.held;
      coded = k.coded;
      units = units-ranked ls r n (state_of v u).records k.units;
      ended = k.ended;
    })
    h
  where
    did :
        Did v (with_rank v u r n) u (record (state_of v u) { records = on_record r (ranked n) (state_of v u).records })
        v.told
    did =
        did-state v v u (state_of v u) v.told (λ y. record y { records = on_record r (ranked n) y.records }) here
        (did-none v u)

date-rank_by : (whole : Bool) (deck : Deck) (v : TasksView) (r : Res) (u : TaskId) (n : ℕ) → AllDate whole deck v
    → AllDate whole deck (with_rank_by v r u n)
date-rank_by whole deck v r u n h =
    by_test (AllDate whole deck) (is_task v u) (with_rank v u r n) v (λ here. date-rank whole deck v u r n h here)
    (λ away. h)

date-list_ranks : (whole : Bool) (deck : Deck) (r : Res) (xs : List Elem) (ns : List ℕ) (v : TasksView)
    → AllDate whole deck v
    → AllDate whole deck (with_list_ranks v r xs ns)
date-list_ranks whole deck r [] ns v h = h
date-list_ranks whole deck r (x ∷ xs) [] v h = h
date-list_ranks whole deck r (x ∷ xs) (n ∷ ns) v h =
    date-list_ranks whole deck r xs ns (with_rank_by v r x.task n) (date-rank_by whole deck v r x.task n h)

pub date-ranks : (whole : Bool) (deck : Deck) (xs : List RankedRow) (v : TasksView) → AllDate whole deck v
    → AllDate whole deck (with_ranks v xs)
date-ranks whole deck [] v h = h
date-ranks whole deck (x ∷ xs) v h =
    date-ranks whole deck xs (with_list_ranks v x.0.res x.0.elems x.1)
    (date-list_ranks whole deck x.0.res x.0.elems x.1 v h)

-- ---- looks go one by one
first-passed : (a : Asked) (w : Want) (n : ℕ) → a.req.want ≡ w
    → passed_asking (first_look a w).req.want n ≡ passed_asking a.req.want n
first-passed a (Enq r c ret full) n e = refl
first-passed a (Deq r have) n e = refl
first-passed a (Release r) n e = refl
first-passed a (Look first count f) n e = ap (λ w. passed_asking w n) (sym e)

-- some may be left behind those that are asked for
first-left : (whole : Bool) (n : ℕ) (o : Option Showing) → IsLeft whole o → IsLeft false (option_map (more_left n) o)
first-left whole n None e = e
first-left whole n (Some s) e = λ k. absurd (cc)

first-wanted : (whole : Bool) (ls : List Meaning) (n : ℕ) (a : Asked) (w : Want) → a.req.want ≡ w
    → IsWanted whole ls n a.req.want a.unit a.showing →
    IsWanted false ls n (first_look a w).req.want (first_look a w).unit (first_look a w).showing
first-wanted whole ls n a (Enq r c ret full) e k = any-wanted whole ls n a.req.want a.unit a.showing k
first-wanted whole ls n a (Deq r have) e k = any-wanted whole ls n a.req.want a.unit a.showing k
first-wanted whole ls n a (Release r) e k = any-wanted whole ls n a.req.want a.unit a.showing k
first-wanted whole ls n a (Look first count f) e k =
    let z : IsWanted whole ls n (Look first count f) a.unit a.showing =
    subst (λ w. IsWanted whole ls n w a.unit a.showing) e k in
    (z.0, first-left whole (count - 1) a.showing z.1)

abbrev first : Asked → Asked
first a = first_look a a.req.want

-- its task stands as it did, but that the other looks are left
date-first : (ls : List Meaning) (T : List ToldLine) (t : TaskId) (x : TaskState) → IsUpToDate false ls T t x
    → IsUpToDate false ls T t (record x { outstanding = option_map (λ a. first_look a a.req.want) x.outstanding })
date-first ls T t x h = record {
  closed = λ e. ap (option_map first) (h.closed e);
  wanted = wanted x.outstanding h.wanted;
  held = h.held;
  coded = coded x.outstanding h.coded;
  units = h.units;
  ended = h.ended;
}
  where
    wanted : (o : Option Asked) → IsWantedBy false ls x.line o
        → IsWantedBy false ls x.line (option_map (λ a. first_look a a.req.want) o)
    wanted None k = tt
    wanted (Some a) k = first-wanted false ls x.line a a.req.want refl k

    coded : (o : Option Asked) → AreCoded ls T t (passed_by o x.phase x.line)
        → AreCoded ls T t (passed_by (option_map (λ a. first_look a a.req.want) o) x.phase x.line)
    coded None k = k
    coded (Some a) k = subst (AreCoded ls T t) (sym (first-passed a a.req.want x.line refl)) k

pub did-first : (v : TasksView) (u : TaskId) → is_task v u ≡ true →
    Did v (with_outstanding v u (option_map (λ a. first_look a a.req.want) (state_of v u).outstanding)) u
    (record (state_of v u) { outstanding = option_map (λ a. first_look a a.req.want) (state_of v u).outstanding })
    v.told
did-first v u here = did-outstanding v v u (state_of v u) v.told here (did-none v u) _

date-look : (deck : Deck) (v : TasksView) (u : TaskId) (w : Want) → is_task v u ≡ true → AllDate false deck v
    → AllDate false deck (with_first_look v u w)
date-look deck v u (Enq r c ret full) here h = h
date-look deck v u (Deq r have) here h = h
date-look deck v u (Release r) here h = h
date-look deck v u (Look first count f) here h =
    date-did false deck v (with_outstanding v u (option_map (λ a. first_look a a.req.want) (state_of v u).outstanding))
    u
    (record (state_of v u) { outstanding = option_map (λ a. first_look a a.req.want) (state_of v u).outstanding })
    v.told here (did-first v u here) (λ p k. k)
    (λ t ls at place k. date-first ls v.told t (state_of v u) k)
    h

here-outstanding : (v : TasksView) (u : TaskId) (o : Option Asked) (t : TaskId)
    → is_task (with_outstanding v u o) t ≡ is_task v t
unfolding with_outstanding
here-outstanding v u o t = is_task-state v u t _

pub here-look : (v : TasksView) (u : TaskId) (w : Want) (t : TaskId) → is_task (with_first_look v u w) t ≡ is_task v t
here-look v u (Enq r c ret full) t = refl
here-look v u (Deq r have) t = refl
here-look v u (Release r) t = refl
here-look v u (Look first count f) t = here-outstanding v u _ t

-- they may go one by one
pub date-any : (whole : Bool) (deck : Deck) (v : TasksView) → AllDate whole deck v → AllDate false deck v
date-any whole deck v h t ls at here = any-date whole ls v.told t (state_of v t) (h t ls at here)

pub date-one_by_one : (deck : Deck) (qs : List Req) (v : TasksView) → AllDate false deck v
    → list_all (λ q. is_task v q.task) qs ≡ true → AllDate false deck (one_by_one v qs)
date-one_by_one deck [] v h here = h
date-one_by_one deck (q ∷ qs) v h here =
    let both = and_parts (is_task v q.task) (list_all (λ z. is_task v z.task) qs) here in
    date-one_by_one deck qs (with_first_look v q.task q.want) (date-look deck v q.task q.want both.0 h)
    (here-all v (with_first_look v q.task q.want) (here-look v q.task q.want) qs both.1)

-- ---- mail
pub can_get-answers : (w : Want) (answer : Answer) → can_get w answer ≡ true → IsAnswerTo w answer
can_get-answers (Enq r c ret full) (CodedBy code) e = tt
can_get-answers (Enq r c ret full) (Rows rows) e = absurd (cc)
can_get-answers (Deq r have) (CodedBy code) e = tt
can_get-answers (Deq r have) (Rows rows) e = absurd (cc)
can_get-answers (Release r) (CodedBy code) e = tt
can_get-answers (Release r) (Rows rows) e = absurd (cc)
can_get-answers (Look first count f) (CodedBy code) e = absurd (cc)
can_get-answers (Look first count f) (Rows rows) e = tt

here-answer : (whole : Bool) (deck : Deck) (v : TasksView) (u : TaskId) (a : Asked) (answer : Answer)
    → AllDate whole deck v
    → is_of_deck deck u ≡ true → is_task v u ≡ true → (state_of v u).outstanding ≡ Some a → IsAnswerTo a.req.want answer
    → is_task (tell_answer v u a answer) u ≡ true
here-answer whole deck v u a answer h of_deck here asks is =
    let lines = some_of (lines_of deck u) of_deck in
    let z =
    answer-told whole lines.0 v u u (placed-here v u u here here refl) here a asks (h u lines.0 lines.1 here) answer
    is in
    z.did.changed.here u ∙ here

pub date-ranked : (whole : Bool) (deck : Deck) (v : TasksView) (u : TaskId) (a : Asked) (answer : Answer) (rank : ℕ)
    → AllDate whole deck v
    → is_of_deck deck u ≡ true → is_task v u ≡ true → (state_of v u).outstanding ≡ Some a → IsAnswerTo a.req.want answer
    → AllDate whole deck (tell_answer_ranked v u a answer rank)
unfolding tell_answer_ranked
date-ranked whole deck v u a answer rank h of_deck here asks is = go (unrecorded v u (res_wanted a.req.want))
  where
    go : (o : Option Res) → AllDate whole deck (with_rank_of (tell_answer v u a answer) u o rank)
    go None = date-answer whole deck v u a answer h of_deck here asks is
    go (Some r) =
        date-rank whole deck (tell_answer v u a answer) u r rank
        (date-answer whole deck v u a answer h of_deck here asks is)
        (here-answer whole deck v u a answer h of_deck here asks is)

-- ---- a line that is no task's
pub date-telling : (whole : Bool) (deck : Deck) (v : TasksView) (l : ToldLine) → AllDate whole deck v
    → AllDate whole deck (telling v l)
date-telling whole deck v l h t ls at there =
    let k =
    more-told whole ls v.told (v.told ++ l ∷ []) t (state_of v t) (λ p z. any-more p v.told l z)
    (h t ls at (sym (is_task-telling v t l) ∙ there)) in
    subst (λ T. IsUpToDate whole ls T t (state_of (telling v l) t)) (sym (told-telling v l))
    (subst (IsUpToDate whole ls (v.told ++ l ∷ []) t) (sym (state_of-telling v t l)) k)
