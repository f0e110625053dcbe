-- What events of a worker come to: what its log and its seat have more, and how many they are.
use Rattle.std.proofs.Common.{◌≡◌, ℕ, ◌+◌, Bool, true, false, cond, not, ◌||◌, List, [], ◌∷◌, ◌++◌, length, Option}
use Rattle.std.proofs.Common.{Some, None, refl, ap, sym, ◌∙◌, subst, inl, inr, arith, append_assoc, append-nil}
use Rattle.std.proofs.Common.{length-append, zero-add, add-zero}
use Rattle.std.specs.Prelude.{Result, Ok, Err, IsOk}
use Rattle.std.specs.List.{count_by, list_any}
use Rattle.std.proofs.Math.Bool.{or-true}
use Rattle.std.proofs.lemmas.List.Sums.{sum_by-append}
use Rattle.grs_base.specs.declared.fault.NoMemory.{NoMemory}
use Rattle.grs_base.specs.declared.resource.SysId.{SysId}
use Rattle.grs_bus.specs.Journal.{is_entered, entry_of, after_all}
use Rattle.grs_bus.specs.Seats.{SeatValue, IsAnswered}
use Rattle.grs_node.specs.Finish.{may_come, MayFinish}
use Rattle.grs_wire.specs.Replies.{leaves_all}
use Rattle.grs_node.specs.Log.{NodeView, step_done, finished}
use Rattle.grs_workers.specs.Makes.{Makes}
use Rattle.grs_node.specs.Node.{NodeState, prepare, finish}
use Rattle.grs_node.specs.Room.{takes_no_memory}
use Rattle.grs_node.specs.declared.prepared.Prepared.TheVariants.{Call}
use Rattle.grs_medium.proofs.Replies.{replies_are_listed}
use Rattle.grs_medium.specs.Apply.{reply_to}
use Rattle.grs_node.proofs.Finish.{may_come-listed, unjournalled_leaves}
use Rattle.grs_wire.specs.declared.deck.Choice.{Choice}
use Rattle.grs_wire.specs.declared.deck.Deck.{Deck}
use Rattle.grs_wire.specs.declared.log.StepDone.{StepDone}
use Rattle.grs_wire.specs.declared.medium.Call.{Call as MediumCall}
use Rattle.grs_wire.specs.declared.medium.JEntry.{JEntry}
use Rattle.grs_wire.specs.declared.medium.Reply.{Reply}
use Rattle.grs_workers.specs.Stands.{Stand, journalled_steps, quiet_steps, Agrees, Deed, is_last, IsAlone, IsCalled}
use Rattle.grs_workers.specs.Stands.{IsDone, IsDoneBy, Does, IsGivenUp}
use Rattle.grs_workers.specs.Rounds.{most_events, made, Went, Grew}
use Rattle.grs_workers.proofs.LeftOut.{leaves_all-left_out}

-- ---- a system may be finished with what its seat was told

pub may_finish : (node : NodeView) (seat after : SeatValue) (choice : Choice) (call : MediumCall) (told : Reply × Bool)
    → prepare node.deck node.node choice ≡ Call call → IsAnswered seat call told after
    → MayFinish node choice (Some told)
may_finish node seat after choice call told prepared a = (
  subst (λ (r : Reply). may_come (prepare node.deck node.node choice) r ≡ true) (sym a.reply)
      (may_come-listed node.deck node.node choice call (reply_to (after_all seat.bus.first a.journal) seat.system call) prepared
      (replies_are_listed (after_all seat.bus.first a.journal) seat.system call)),
  by_entry (is_entered (after_all seat.bus.first a.journal) seat.system call) refl,
) where
  by_entry : (b : Bool) → is_entered (after_all seat.bus.first a.journal) seat.system call ≡ b
      → (told.1 || leaves_all told.0) ≡ true
  by_entry true is = ap (λ (b : Bool). b || leaves_all told.0) (a.entered ∙ is)
  by_entry false is =
      ap (λ (b : Bool). told.1 || b)
      (ap leaves_all a.reply ∙ leaves_all-left_out (after_all seat.bus.first a.journal) seat.system call is)
      ∙ or-true told.1

-- ---- why memory was wanting

not_true : (b : Bool) → ¬ (b ≡ true) → b ≡ false
not_true true h = absurd (h refl)
not_true false h = refl

not_false : (b : Bool) → ¬ (b ≡ false) → b ≡ true
not_false true h = refl
not_false false h = absurd (h refl)

refused-ok : {A : Type 0} (r : Result A NoMemory) (e : NoMemory) → r ≡ Err e → ¬ IsOk r
refused-ok (Ok x) e is ok = absurd (cc)
refused-ok (Err f) e is ok = absurd (cc)

-- where the system was refused memory behind its answered call, which it never is where the call wasn't entered, nor
-- for a reply for which it takes none
pub given_up-answered : {A : Type 0} (v : Stand) (after : SeatValue) (call : MediumCall) (told : Reply × Bool)
    (r : Result A NoMemory) (e : NoMemory) → r ≡ Err e → IsAnswered v.seat call told after → (told.1 ≡ false → IsOk r)
    → (takes_no_memory v.node.node told.0 ≡ true → IsOk r) → IsGivenUp v call after
given_up-answered v after call told r e is answered unentered sure =
    inr (
      told,
      answered,
      not_false told.1 (λ h. refused-ok r e is (unentered h)),
      not_true (takes_no_memory v.node.node told.0) (λ h. refused-ok r e is (sure h)),
    )

-- ---- counts

count-snoc : (p : StepDone → Bool) (xs : List StepDone) (x : StepDone) (b : Bool) → p x ≡ b
    → count_by p (xs ++ x ∷ []) ≡ count_by p xs + cond b 1 0
count-snoc p xs x b is =
    sum_by-append (λ y. cond (p y) 1 0) xs (x ∷ [])
    ∙ ap (λ (n : ℕ). count_by p xs + n) (zero-add (cond (p x) 1 0) ∙ ap (λ (c : Bool). cond c 1 0) is)

-- the steps that a finish logs
log-alone : (v : NodeView) (choice : Choice)
    → (finished v choice None).log ≡ v.log ++ step_done v.node choice false (finish v.deck v.node choice None) ∷ []
unfolding finished
log-alone v choice = refl

log-called : (v : NodeView) (choice : Choice) (reply : Reply)
    → (finished v choice (Some (reply, true))).log
    ≡ v.log ++ step_done v.node choice true (finish v.deck v.node choice (Some reply)) ∷ []
unfolding finished
log-called v choice reply = refl

node-alone : (v : NodeView) (choice : Choice) → (finished v choice None).node ≡ (finish v.deck v.node choice None).node
unfolding finished
node-alone v choice = refl

node-called : (v : NodeView) (choice : Choice) (reply : Reply)
    → (finished v choice (Some (reply, true))).node ≡ (finish v.deck v.node choice (Some reply)).node
unfolding finished
node-called v choice reply = refl

deck-alone : (v : NodeView) (choice : Choice) → (finished v choice None).deck ≡ v.deck
unfolding finished
deck-alone v choice = refl

deck-called : (v : NodeView) (choice : Choice) (reply : Reply) → (finished v choice (Some (reply, true))).deck ≡ v.deck
unfolding finished
deck-called v choice reply = refl

-- a worker whose seat has as many entries as its log has journalled steps still has as many
entries-alone : (v w : Stand) (choice : Choice) → IsAlone v choice w → length v.seat.own ≡ journalled_steps v.node.log
    → length w.seat.own ≡ journalled_steps w.node.log
entries-alone v w choice k same =
    let log : w.node.log
    ≡ v.node.log ++ step_done v.node.node choice false (finish v.node.deck v.node.node choice None) ∷ [] =
    ap (λ (n : NodeView). n.log) k.node ∙ log-alone v.node choice in
    ap (λ (s : SeatValue). length s.own) k.seat
    ∙ same
    ∙ sym (ap journalled_steps log
    ∙ count-snoc (λ x. x.journalled) v.node.log
    (step_done v.node.node choice false (finish v.node.deck v.node.node choice None)) false refl
    ∙ add-zero (journalled_steps v.node.log))

entries-called : (v w : Stand) (choice : Choice) (told : Reply × Bool) → IsCalled v choice told w
    → length v.seat.own ≡ journalled_steps v.node.log → length w.seat.own ≡ journalled_steps w.node.log
entries-called v w choice (reply, true) k same =
    let x : StepDone = step_done v.node.node choice true (finish v.node.deck v.node.node choice (Some reply)) in
    let log : w.node.log ≡ v.node.log ++ x ∷ [] =
    ap (λ (n : NodeView). n.log) k.node ∙ log-called v.node choice reply in
    ap length k.answered.own
    ∙ length-append v.seat.own (entry_of v.seat.system k.call reply ∷ [])
    ∙ ap (λ (n : ℕ). n + 1) same
    ∙ sym (ap journalled_steps log ∙ count-snoc (λ x. x.journalled) v.node.log x true refl)
entries-called v w choice (reply, false) k same =
    let node : w.node ≡ v.node =
    k.node
    ∙ unjournalled_leaves v.node choice reply
    (may_finish v.node v.seat w.seat choice k.call (reply, false) k.prepared k.answered) in
    ap length k.answered.own ∙ same ∙ ap (λ (n : NodeView). journalled_steps n.log) (sym node)

entries-done : (v w : Stand) (d : Deed) → IsDone v d w → length v.seat.own ≡ journalled_steps v.node.log
    → length w.seat.own ≡ journalled_steps w.node.log
entries-done v w d k same = by_told d.told k
  where
    by_told : (told : Option (Reply × Bool)) → IsDoneBy v d.choice told w
        → length w.seat.own ≡ journalled_steps w.node.log
    by_told None k = entries-alone v w d.choice k same
    by_told (Some told) k = entries-called v w d.choice told k same

-- a worker still agrees where its system is of the same number
pub agrees-done : (v w : Stand) (d : Deed) → IsDone v d w → w.seat.system ≡ v.seat.system
    → w.node.node.tasks.system ≡ v.node.node.tasks.system → Agrees v → Agrees w
agrees-done v w d k seat system a = record {
  system = ap (λ (s : SysId). s.0) seat ∙ a.system ∙ sym system;
  entries = entries-done v w d k a.entries;
}

-- an event is a take or a quiet step
made-alone : (v w : Stand) (choice : Choice) → IsAlone v choice w → made w ≡ made v + 1
made-alone v w choice k =
    let x : StepDone = step_done v.node.node choice false (finish v.node.deck v.node.node choice None) in
    let log : w.node.log ≡ v.node.log ++ x ∷ [] = ap (λ (n : NodeView). n.log) k.node ∙ log-alone v.node choice in
    let quiet : quiet_steps w.node.log ≡ quiet_steps v.node.log + 1 =
    ap quiet_steps log ∙ count-snoc (λ x. not x.journalled) v.node.log x true refl in
    let takes : w.seat.takes ≡ v.seat.takes = ap (λ (s : SeatValue). s.takes) k.seat in
    omega arith

made-called : (v w : Stand) (choice : Choice) (told : Reply × Bool) → IsCalled v choice told w → made w ≡ made v + 1
made-called v w choice (reply, true) k =
    let x : StepDone = step_done v.node.node choice true (finish v.node.deck v.node.node choice (Some reply)) in
    let log : w.node.log ≡ v.node.log ++ x ∷ [] =
    ap (λ (n : NodeView). n.log) k.node ∙ log-called v.node choice reply in
    let quiet : quiet_steps w.node.log ≡ quiet_steps v.node.log + 0 =
    ap quiet_steps log ∙ count-snoc (λ x. not x.journalled) v.node.log x false refl in
    let takes : w.seat.takes ≡ v.seat.takes + 1 = k.takes in
    omega arith
made-called v w choice (reply, false) k =
    let node : w.node ≡ v.node =
    k.node
    ∙ unjournalled_leaves v.node choice reply
    (may_finish v.node v.seat w.seat choice k.call (reply, false) k.prepared k.answered) in
    let quiet : quiet_steps w.node.log ≡ quiet_steps v.node.log = ap (λ (n : NodeView). quiet_steps n.log) node in
    let takes : w.seat.takes ≡ v.seat.takes + 1 = k.takes in
    omega arith

made-done : (v w : Stand) (d : Deed) → IsDone v d w → made w ≡ made v + 1
made-done v w d k = by_told d.told k
  where
    by_told : (told : Option (Reply × Bool)) → IsDoneBy v d.choice told w → made w ≡ made v + 1
    by_told None k = made-alone v w d.choice k
    by_told (Some told) k = made-called v w d.choice told k

made-does : (ds : List Deed) (v w : Stand) → Does v ds w → made w ≡ made v + length ds
made-does [] v w same = ap made same ∙ sym (add-zero (made v))
made-does (d ∷ ds) v w h =
    let first : made h.0 ≡ made v + 1 = made-done v h.0 d h.1 in
    let rest : made w ≡ made h.0 + length ds = made-does ds h.0 w h.2 in
    omega arith

-- ---- what the log and the seat have more

pub Makes-append :
    (deck : Deck) (n : NodeState) (xs : List StepDone) (es : List JEntry) (k : NodeState) (ys : List StepDone)
    (fs : List JEntry) (m : NodeState)
    → Makes deck n xs es k → Makes deck k ys fs m → Makes deck n (xs ++ ys) (es ++ fs) m
Makes-append deck n [] es k ys fs m first second =
    subst (λ (z : NodeState). Makes deck z ys (es ++ fs) m) first.1
    (subst (λ (z : List JEntry). Makes deck k ys (z ++ fs) m) (sym first.0) second)
Makes-append deck n (x ∷ xs) es k ys fs m first second =
    by_step (λ l ds h. Makes-append deck l xs ds k ys fs m h second) first
  where
    by_step : ((l : NodeState) (ds : List JEntry) → Makes deck l xs ds k → Makes deck l (xs ++ ys) (ds ++ fs) m)
        → Makes deck n (x ∷ xs) es k → Makes deck n (x ∷ xs ++ ys) (es ++ fs) m
    by_step rest (inl h) = inl (h.0, h.1, rest h.0 es h.2)
    by_step rest (inr h) = inr (h.0, h.1 ++ fs, ap (λ (z : List JEntry). z ++ fs) h.2, h.3, h.4, rest h.3 h.1 h.5)

pub grew-none : (v : Stand) → Grew v v
grew-none v = record {
  seat = (refl, refl, refl);
  deck = refl;
  steps = [];
  entries = [];
  log = sym (append-nil v.node.log);
  own = sym (append-nil v.seat.own);
  makes = (refl, refl);
}

grew-alone : (v w : Stand) (choice : Choice) → IsAlone v choice w → Grew v w
grew-alone v w choice k = record {
  seat = (
    ap (λ (s : SeatValue). s.bus) k.seat,
    ap (λ (s : SeatValue). s.system) k.seat,
    ap (λ (s : SeatValue). s.seats) k.seat,
  );
  deck = ap (λ (n : NodeView). n.deck) k.node ∙ deck-alone v.node choice;
  steps = step_done v.node.node choice false (finish v.node.deck v.node.node choice None) ∷ [];
  entries = [];
  log = ap (λ (n : NodeView). n.log) k.node ∙ log-alone v.node choice;
  own = ap (λ (s : SeatValue). s.own) k.seat ∙ sym (append-nil v.seat.own);
  makes =
      inl (
        (finish v.node.deck v.node.node choice None).node,
        record { prepared = k.prepared; step = refl; after = refl },
        (refl, ap (λ (n : NodeView). n.node) k.node ∙ node-alone v.node choice),
      );
}

grew-called : (v w : Stand) (choice : Choice) (told : Reply × Bool) → IsCalled v choice told w → Grew v w
grew-called v w choice (reply, true) k = record {
  seat = k.same;
  deck = ap (λ (n : NodeView). n.deck) k.node ∙ deck-called v.node choice reply;
  steps = step_done v.node.node choice true (finish v.node.deck v.node.node choice (Some reply)) ∷ [];
  entries = entry_of v.seat.system k.call reply ∷ [];
  log = ap (λ (n : NodeView). n.log) k.node ∙ log-called v.node choice reply;
  own = k.answered.own;
  makes =
      inr (
        entry_of v.seat.system k.call reply,
        [],
        refl,
        (finish v.node.deck v.node.node choice (Some reply)).node,
        record { prepared = k.prepared; step = refl; after = refl },
        (refl, ap (λ (n : NodeView). n.node) k.node ∙ node-called v.node choice reply),
      );
}
grew-called v w choice (reply, false) k =
    let node : w.node ≡ v.node =
    k.node
    ∙ unjournalled_leaves v.node choice reply
    (may_finish v.node v.seat w.seat choice k.call (reply, false) k.prepared k.answered) in
    record {
      seat = k.same;
      deck = ap (λ (n : NodeView). n.deck) node;
      steps = [];
      entries = [];
      log = ap (λ (n : NodeView). n.log) node ∙ sym (append-nil v.node.log);
      own = k.answered.own ∙ sym (append-nil v.seat.own);
      makes = (refl, ap (λ (n : NodeView). n.node) node);
    }

pub grew-done : (v w : Stand) (d : Deed) → IsDone v d w → Grew v w
grew-done v w d k = by_told d.told k
  where
    by_told : (told : Option (Reply × Bool)) → IsDoneBy v d.choice told w → Grew v w
    by_told None k = grew-alone v w d.choice k
    by_told (Some told) k = grew-called v w d.choice told k

pub grew-further : (u v w : Stand) → Grew u v → Grew v w → Grew u w
grew-further u v w g h = record {
  seat = (h.seat.0 ∙ g.seat.0, h.seat.1 ∙ g.seat.1, h.seat.2 ∙ g.seat.2);
  deck = h.deck ∙ g.deck;
  steps = g.steps ++ h.steps;
  entries = g.entries ++ h.entries;
  log = h.log ∙ ap (λ (l : List StepDone). l ++ h.steps) g.log ∙ append_assoc u.node.log g.steps h.steps;
  own = h.own ∙ ap (λ (l : List JEntry). l ++ h.entries) g.own ∙ append_assoc u.seat.own g.entries h.entries;
  makes =
      Makes-append u.node.deck u.node.node g.steps g.entries v.node.node h.steps h.entries w.node.node g.makes
      (subst (λ (d : Deck). Makes d v.node.node h.steps h.entries w.node.node) g.deck h.makes);
}

grew-does : (ds : List Deed) (v w : Stand) → Does v ds w → Grew v w
grew-does [] v w same = subst (Grew v) (sym same) (grew-none v)
grew-does (d ∷ ds) v w h = grew-further v h.0 w (grew-done v h.0 d h.1) (grew-does ds h.0 w h.2)

-- ---- rounds

does-more : (ds : List Deed) (v u w : Stand) (d : Deed) → Does v ds u → IsDone u d w → Does v (ds ++ d ∷ []) w
does-more [] v u w d same k = (w, subst (λ (z : Stand). IsDone z d w) same k, refl)
does-more (x ∷ xs) v u w d h k = (h.0, h.1, does-more xs h.0 u w d h.2 k)

none_last-more : (ds : List Deed) (d : Deed) → list_any is_last ds ≡ false → is_last d ≡ false
    → list_any is_last (ds ++ d ∷ []) ≡ false
none_last-more [] d none last = ap (λ (b : Bool). b || false) last
none_last-more (x ∷ xs) d none last = by_first (is_last x) (λ h. none_last-more xs d h last) none
  where
    by_first : (b : Bool) → (list_any is_last xs ≡ false → list_any is_last (xs ++ d ∷ []) ≡ false)
        → (b || list_any is_last xs) ≡ false → (b || list_any is_last (xs ++ d ∷ [])) ≡ false
    by_first true rest h = cc
    by_first false rest h = rest h

-- a round in which so many events were made, and none was answered Over or Removed
pub record Goes (v : Stand) (n : ℕ) (w : Stand) : Type 0 where
  pub deeds : List Deed
  pub does : Does v deeds w
  pub none_last : list_any is_last deeds ≡ false
  pub count : length deeds ≡ n

pub goes-more : (v u w : Stand) (n : ℕ) (d : Deed) → Goes v n u → IsDone u d w → is_last d ≡ false → Goes v (n + 1) w
goes-more v u w n d g k last = record {
  deeds = g.deeds ++ d ∷ [];
  does = does-more g.deeds v u w d g.does k;
  none_last = none_last-more g.deeds d g.none_last last;
  count = length-append g.deeds (d ∷ []) ∙ ap (λ (m : ℕ). m + 1) g.count;
}

pub went-on : (v w : Stand) (n : ℕ) → Goes v n w → n ≡ most_events → Went v false w
went-on v w n g all = record {
  before = g.deeds;
  between = w;
  does = g.does;
  none_last = g.none_last;
  ends = (refl, g.count ∙ all);
  count = λ e. made-does g.deeds v w g.does ∙ ap (λ (m : ℕ). made v + m) (g.count ∙ all);
}

pub went-grew : (v : Stand) (out : Bool) (w : Stand) → Went v out w → Grew v w
went-grew v true w g =
    grew-further v g.between w (grew-does g.before v g.between g.does) (grew-done g.between w g.ends.0 g.ends.1)
went-grew v false w g = subst (Grew v) (sym g.ends.0) (grew-does g.before v g.between g.does)
