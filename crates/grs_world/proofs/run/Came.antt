-- What came of an event of a live system, in either mode and whatever the run: one type, with the choice, what was
-- replied, and the medium and the system afterwards. Who goes by its cases opens neither what a choice is prepared to
-- ask nor the medium's table; `Chosen` does so once.
use Rattle.grs_world.proofs.Common.{◌==◌, ◌∙◌, ◌∷◌, ◌≡◌, answer_for, Asked, awake, begun, Bool, Call, Choice, closed_by}
use Rattle.grs_world.proofs.Common.{decide_own, Deck, desk_told, entry_for, false, first_held, first_number}
use Rattle.grs_world.proofs.Common.{fixing_none, gathers, has, inbox, leave_reply, left_at, left_words, length}
use Rattle.grs_world.proofs.Common.{lines_of, List, live, Mail, manager_at, may_go, may_send, MediumState}
use Rattle.grs_world.proofs.Common.{most_additions, names_of, next_order, NodeState, None, Nothing, only, owed_to}
use Rattle.grs_world.proofs.Common.{owing, own_words, part_of, prepare, Prepared, purged, put_in, Quiet, rank_of}
use Rattle.grs_world.proofs.Common.{read_entries, refl, Reply, reply_to, Req, request_of, Res, Some, stale, stands_at}
use Rattle.grs_world.proofs.Common.{StarPart, state_of, submitted_words, switched, sym, SysId, take, take_mail}
use Rattle.grs_world.proofs.Common.{task_step, TaskId, to_tell, true, turned_closed, turned_open, Turnout, unseen}
use Rattle.grs_world.proofs.Common.{with_interest, with_mail, with_phase, with_star, without_first, without_in_star}
use Rattle.grs_world.proofs.Common.{without_system, word_at, ℕ}
use Rattle.std.specs.Prelude.{◌≢◌}
use Rattle.grs_node.specs.Star.{may_leave, settled_first, told_by}
use Rattle.grs_node.specs.Node.{changed as changed_now}
use Rattle.grs_medium.specs.Apply.{is_live}
use Rattle.grs_wire.specs.declared.deck.Choice.TheVariants as choices
use Rattle.grs_wire.specs.declared.deck.Order.TheVariants as orders
use Rattle.grs_wire.specs.declared.medium.Mail.TheVariants as mails
use Rattle.grs_wire.specs.declared.medium.Reply.TheVariants as replies
use Rattle.grs_wire.specs.declared.told.Said.TheVariants as saids
use Rattle.task_state.specs.declared.state.Phase.TheVariants as phases

-- ---- What an event was: nothing was done, or something without a call, or a call was made and replied to.
pub data Result : Type 0 where
  skipped : Result
  by_itself : Result
  replied : Reply → Result

abbrev pub result_of : MediumState → SysId → Prepared → Result
result_of m s Nothing = skipped
result_of m s Quiet = by_itself
result_of m s (Call call) = replied (reply_to m s call)

-- whether its system has nothing new by it
abbrev pub is_silent : Result → Bool
is_silent skipped = true
is_silent (replied (replies.NotYours holder)) = true
is_silent (replied (replies.Behind first)) = true
is_silent (replied replies.Empty) = true
is_silent (replied (replies.Kept mask)) = true
is_silent (replied replies.Yours) = true
is_silent (replied replies.Old) = true
is_silent (replied replies.Resting) = true
is_silent (replied replies.Over) = true
is_silent _ = false

-- by this result no system is removed in star mode
abbrev pub RemovesNoneInStar : MediumState → Result → Type 0
RemovesNoneInStar m b = m.star ≡ true → b ≢ replied replies.Purged

-- nor is one by the call that a system prepares for this choice
abbrev pub ChoiceRemovesNone : Deck → MediumState → SysId → NodeState → Choice → Type 0
ChoiceRemovesNone deck m s n choice = RemovesNoneInStar m (result_of m s (prepare deck n choice))

-- a task asks for something of a lock entry, and waits to send it
pub record IsToSend (deck : Deck) (n : NodeState) (p : StarPart) (t : TaskId) (a : Asked) (x : ℕ) : Type 0 where
  pub may : may_send deck n t ≡ true
  pub asks : (state_of n.tasks t).outstanding ≡ Some a
  pub entry : entry_for p a.req.want ≡ Some x
  pub settled : gathers p x ≡ false

-- ---- What came of an event that a system makes by its part in star mode: a request of its own was decided, by the
-- lists that it keeps or by those that it begins to keep, or went to the manager of its entry; a mail was taken; a
-- request of another system was settled, or an owner told; a part was sent; or an entry was left.
pub data Acts (deck : Deck) (m : MediumState) (s : SysId) (n : NodeState) (p : StarPart) :
    Choice → Result → Turnout → Type 0 where
  decided : (t : TaskId) (a : Asked) (x : ℕ) → IsToSend deck n p t a x → (to : SysId)
      → manager_at m.words x ≡ Some to → (to.0 == s.0) ≡ true
      → Acts deck m s n p (choices.Send t) (replied replies.Sole)
      (record { medium = m; step = with_star n (decide_own n.tasks (begun p x) t a) })
  began : (t : TaskId) (a : Asked) (x : ℕ) → IsToSend deck n p t a x → manager_at m.words x ≡ None →
      Acts deck m s n p (choices.Send t) (replied replies.Sole) (record {
        medium = record m { words = submitted_words m.words x s; rest = awake m s };
        step = with_star n (decide_own n.tasks (begun p x) t a);
      })
  sent : (t : TaskId) (a : Asked) (x : ℕ) → IsToSend deck n p t a x → (to : SysId)
      → manager_at m.words x ≡ Some to → (to.0 == s.0) ≡ false →
      Acts deck m s n p (choices.Send t) (replied replies.Sent) (record {
        medium =
            record m {
              words = submitted_words m.words x s;
              inboxes = with_mail m.inboxes to.0 (mails.Request x s (request_of t a));
              rest = awake m s;
            };
        step = with_star n (fixing_none (with_phase n.tasks t phases.Sent) (with_interest p x true));
      })
  took : (mail : Mail) (rest : List Mail) → inbox m s.0 ≡ mail ∷ rest →
      Acts deck m s n p choices.Take (replied (replies.Taken mail)) (record {
        medium = record m { inboxes = without_first m.inboxes s.0; rest = awake m s };
        step = with_star n (take_mail deck n.known n.tasks p mail);
      })
  settled : (q : Req) → first_held p ≡ Some q →
      Acts deck m s n p choices.Settle (replied replies.Settled) (record {
        medium =
            record m {
              inboxes =
                  with_mail m.inboxes q.task.system.0 (mails.Answered q.task (answer_for p q) (rank_of p q));
              rest = awake m s;
            };
        step = with_star n (settled_first n.tasks p q);
      })
  told : (e : ℕ) (x : TaskId × Res) → to_tell p e ≡ Some x →
      Acts deck m s n p (choices.Tell e) (replied replies.Told) (record {
        medium =
            record m { inboxes = with_mail m.inboxes x.0.system.0 (mails.Granted x.0 x.1); rest = awake m s };
        step = with_star n (fixing_none n.tasks (told_by p (Some x)));
      })
  parted : (e : ℕ) (to : SysId) → owed_to p e ≡ Some to → has n.known to.0 ≡ false →
      Acts deck m s n p (choices.Part e) (replied replies.Told) (record {
        medium =
            record m {
              inboxes =
                  with_mail m.inboxes to.0
                  (mails.Part e p.manager.system
                  (part_of (length p.manager.entries) e (names_of deck n.tasks.system) n.tasks));
              rest = awake m s;
            };
        step = with_star n (fixing_none n.tasks (record p { owes = owing p.owes e None }));
      })
  left : (x : ℕ) (flags : ℕ) → may_leave p n.tasks x ≡ true
      → leave_reply (word_at m.words x) s ≡ replies.Left →
      Acts deck m s n p (choices.Leave x) (replied replies.Left) (record {
        medium = record m { words = left_words m.words x s; rest = flags };
        step = with_star n (fixing_none n.tasks (left_at p x));
      })

-- who has a part in star mode isn't in the ring
pub no_part : {X : Type 0} (n : NodeState) (p : StarPart) → n.star ≡ Some p → n.star ≡ None → X
no_part n p is alone = absurd (let none : Some p ≡ None = sym is ∙ alone in cc)

-- what the medium keeps in such an event
pub record Keeps (m : MediumState) (k : MediumState) : Type 0 where
  pub star : k.star ≡ m.star
  pub removed : k.removed ≡ m.removed
  pub message : k.message ≡ m.message

pub acts-keep : (deck : Deck) (m : MediumState) (s : SysId) (n : NodeState) (p : StarPart) (choice : Choice)
    (b : Result) (o : Turnout) → Acts deck m s n p choice b o → Keeps m o.medium
acts-keep deck m s n p choice b o (decided t a x asked to at same) =
    record { star = refl; removed = refl; message = refl }
acts-keep deck m s n p choice b o (began t a x asked none) = record { star = refl; removed = refl; message = refl }
acts-keep deck m s n p choice b o (sent t a x asked to at apart) =
    record { star = refl; removed = refl; message = refl }
acts-keep deck m s n p choice b o (took mail rest at) = record { star = refl; removed = refl; message = refl }
acts-keep deck m s n p choice b o (settled q first) = record { star = refl; removed = refl; message = refl }
acts-keep deck m s n p choice b o (told e x first) = record { star = refl; removed = refl; message = refl }
acts-keep deck m s n p choice b o (parted e to owes unknown) = record { star = refl; removed = refl; message = refl }
acts-keep deck m s n p choice b o (left x flags free by) = record { star = refl; removed = refl; message = refl }

-- ---- What came of any event.
pub data Came (deck : Deck) (m : MediumState) (s : SysId) (n : NodeState) : Choice → Result → Turnout → Type 0 where
  -- nothing but a flag of rest
  nothing : (choice : Choice) (b : Result) → is_silent b ≡ true → (flags : ℕ)
      → Came deck m s n choice b (record { medium = record m { rest = flags }; step = only n })
  -- it was told which systems were removed
  informed : (choice : Choice)
      → Came deck m s n choice (replied (replies.Stale m.removed))
      (record { medium = m; step = only (stale deck n m.removed) })
  -- a task went on
  went_on : (t : TaskId) → may_go deck n t ≡ true
      → Came deck m s n (choices.Task t) by_itself
      (record { medium = m; step = task_step deck.limit n t (lines_of deck t) })
  -- its Turn at the message: open, or closed, where the system changes to star mode
  turn : (flags : ℕ) → n.star ≡ None → m.message.closed ≡ false → stands_at m.message.holder s ≡ true →
      Came deck m s n choices.Turn
      (replied (replies.Turned (unseen s m.message.entries) (length (take most_additions n.outbox)) false)) (record {
        medium =
            record m {
              message = turned_open m.message s (take most_additions n.outbox) (live m) m.rest;
              rest = flags;
            };
        step = put_in (read_entries deck n (unseen s m.message.entries)) (length (take most_additions n.outbox));
      })
  last_turn : (flags : ℕ) → n.star ≡ None → m.message.closed ≡ true → stands_at m.message.holder s ≡ true →
      Came deck m s n choices.Turn (replied (replies.Turned (unseen s m.message.entries) 0 true)) (record {
        medium = record m { message = turned_closed m.message s; rest = flags };
        step = only (changed_now deck (read_entries deck n (unseen s m.message.entries)));
      })
  -- its desk changed the complex to star mode, or was told that it had changed
  changed : m.star ≡ false → next_order deck n ≡ Some orders.Star
      → first_number (unseen s m.message.entries) ≡ None →
      Came deck m s n choices.Switch (replied replies.Switched) (record {
        medium =
            record m {
              star = true;
              words = own_words deck n;
              message = closed_by m.message s (live m);
              rest = awake m s;
            };
        step = only (switched deck n);
      })
  already : m.star ≡ true → next_order deck n ≡ Some orders.Star
      → Came deck m s n choices.Switch (replied replies.Already)
      (record { medium = m; step = only (desk_told n saids.StarAlready) })
  -- its desk removed a system, in ring mode or in star mode, or there was none that is live
  removes_one : (target : SysId) → m.star ≡ false → next_order deck n ≡ Some (orders.Vary target)
      → is_live m target ≡ true →
      Came deck m s n (choices.Purge target) (replied replies.Purged)
      (record { medium = without_system m s target; step = purged deck n (choices.Purge target) })
  removes_star : (target : SysId) → m.star ≡ true → next_order deck n ≡ Some (orders.Vary target)
      → is_live m target ≡ true →
      Came deck m s n (choices.Purge target) (replied replies.Purged)
      (record { medium = without_in_star m target; step = purged deck n (choices.Purge target) })
  no_such : (target : SysId) → next_order deck n ≡ Some (orders.Vary target) → is_live m target ≡ false →
      Came deck m s n (choices.Purge target) (replied replies.NoSuch)
      (record { medium = m; step = only (desk_told n saids.VaryNoSuch) })
  -- or it acted by its part in star mode
  acted : (p : StarPart) → n.star ≡ Some p → (choice : Choice) (b : Result) (o : Turnout)
      → Acts deck m s n p choice b o → Came deck m s n choice b o
