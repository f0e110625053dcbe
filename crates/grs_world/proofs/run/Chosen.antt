-- What comes of each choice of a live system (`Came`), by what it is prepared to ask and by the row of the medium's
-- table that answers it.
use Rattle.grs_world.proofs.Common.{[], ◌==◌, ◌∙◌, ◌∷◌, ◌≡◌, Act, and-false, and_from, answer_for, ap, Asked, awake}
use Rattle.grs_world.proofs.Common.{begun, Bool, by_test, Call, call_at, call_in, carry_out, Choice, chosen, cond}
use Rattle.grs_world.proofs.Common.{counted, decide_own, Deck, entry_for, eqb-true, Event, false, finish, finish_call}
use Rattle.grs_world.proofs.Common.{finish_quiet, finish_star, first_held, first_number, fixing_none, gathers, happens}
use Rattle.grs_world.proofs.Common.{has, inbox, interest, is_manager, is_pending, is_purged, leave_changes, leave_reply}
use Rattle.grs_world.proofs.Common.{leave_row, left_word, left_words, length, List, live, lock_word, lt-ltb, Mail}
use Rattle.grs_world.proofs.Common.{mail_row, manager, manager_at, may_go, may_send, medium_at_end, MediumState}
use Rattle.grs_world.proofs.Common.{Message, most_additions, names_of, nat_lt, next_order, NodeState, None, Nothing}
use Rattle.grs_world.proofs.Common.{only, Option, Order, owed_to, own_words, part_of, placed, prepare, Prepared}
use Rattle.grs_world.proofs.Common.{prepared_by, purge_row, Quiet, rank_of, refl, removes_in_star, Reply, reply_by}
use Rattle.grs_world.proofs.Common.{reply_of, Req, request_of, Res, rest_after_turn, rest_row, route, row, slice_get}
use Rattle.grs_world.proofs.Common.{slice_get_within, slice_set, Some, stands_at, star_call, StarPart, state_of}
use Rattle.grs_world.proofs.Common.{submit_row, submitted_words, subst, switch_row, sym, SysId, take, take_row, TaskId}
use Rattle.grs_world.proofs.Common.{to_tell, true, true≢false, turn_reply, turn_row, turned, turned_closed, turned_open}
use Rattle.grs_world.proofs.Common.{Turnout, unseen, with_mail, with_star, without, without_first, without_in_star}
use Rattle.grs_world.proofs.Common.{without_system, without_target, word_at, World, ℕ}
use Rattle.std.specs.Prelude.{not, ◌&&◌}
use Rattle.grs_node.specs.Star.{begin_at, entry_asked, may_leave, send_of, send_to, sent_to, settle_by, settled_by}
use Rattle.grs_node.specs.Star.{tell_by, told_by, part_by}
use Rattle.grs_medium.specs.Medium.{all_rest}
use Rattle.grs_node.specs.Node.{purge_call, star_need, star_step, switch_call, turn_call, turned as node_turned}
use Rattle.grs_wire.specs.LockWords.{epoch, is_kept}
use Rattle.grs_medium.specs.Apply.{is_live, is_noticed, joined, notice_reply, resting, submit_on, switch_ring}
use Rattle.grs_medium.specs.Apply.{take_from}
use Rattle.lock_structure.specs.Words.{route_by}
use Rattle.std.proofs.lemmas.List.{set-get_or}
use Rattle.grs_node.proofs.InRing.{closed-turned, open-turned}
use Rattle.grs_node.specs.declared.star.Need.{Need}
use Rattle.grs_node.specs.declared.star.Need.TheVariants.{Asks, Idle}
use Rattle.grs_world.specs.Running.{is_live as is_live_in}
use Rattle.grs_world.proofs.run.Each.{each_heard, each_live}
use Rattle.grs_world.proofs.run.Came.{Acts, Came, ChoiceRemovesNone, IsToSend, Result, acted, already, began, by_itself}
use Rattle.grs_world.proofs.run.Came.{changed, decided, parted, informed, is_silent, last_turn, left, no_such, nothing}
use Rattle.grs_world.proofs.run.Came.{replied, removes_star, removes_one, result_of, sent, settled, skipped, told, took}
use Rattle.grs_world.proofs.run.Came.{turn, went_on}
use Rattle.grs_wire.specs.declared.deck.Choice.TheVariants as choices
use Rattle.grs_wire.specs.declared.deck.Order.TheVariants as orders
use Rattle.grs_wire.specs.declared.medium.Act.TheVariants as acts
use Rattle.grs_wire.specs.declared.medium.Mail.TheVariants as mails
use Rattle.grs_wire.specs.declared.medium.Reply.TheVariants as replies
use Rattle.lock_structure.specs.declared.word.Route.TheVariants as routes

module _ (deck : Deck) (m : MediumState) (s : SysId) (n : NodeState) (alive : has m.removed s.0 ≡ false) where
  abbrev Comes : Choice → Result → Turnout → Type 0
  Comes choice b o = Came deck m s n choice b o

  -- by the reply to a call, with the medium that it leaves
  abbrev ComesBy : Choice → Reply × MediumState → Type 0
  ComesBy choice a = Comes choice (replied a.0) (record { medium = a.1; step = finish deck n choice (Some a.0) })

  -- by what was prepared
  abbrev ComesOf : Choice → Prepared → Type 0
  ComesOf choice p = Comes choice (result_of m s p) (carry_out deck m s n choice p)

  idle : (choice : Choice) → ComesOf choice Nothing
  unfolding carry_out
  idle choice = nothing choice skipped refl m.rest

  told-removed : (choice : Choice) → ComesBy choice (replies.Stale m.removed, m)
  unfolding finish finish_call
  told-removed choice = informed choice

  called : (choice : Choice) (act : Act) → ComesBy choice (row m s act)
      → ComesOf choice (Call (record { known = n.known; act = act }))
  unfolding carry_out
  called choice act h =
      each_heard m s (record { known = n.known; act = act }) (ComesBy choice) alive (told-removed choice) h

  -- a reply that says nothing new to the system's part
  same-part : (p : StarPart) → n.star ≡ Some p → with_star n (fixing_none n.tasks p) ≡ only n
  same-part p is = ap (λ o. only (record n { star = o })) (sym is)

  same-step : (o : Option StarPart) → n.star ≡ o → (choice : Choice) (reply : Reply)
      → ((p : StarPart) → star_step deck n.known n.tasks p choice reply ≡ fixing_none n.tasks p)
      → finish_star deck n o choice reply ≡ only n
  unfolding finish_star
  same-step None is choice reply h = refl
  same-step (Some p) is choice reply h = ap (with_star n) (h p) ∙ same-part p is

  quiet : (flags : ℕ) (choice : Choice) (reply : Reply) → is_silent (replied reply) ≡ true
      → ((p : StarPart) → star_step deck n.known n.tasks p choice reply ≡ fixing_none n.tasks p)
      → Comes choice (replied reply)
      (record { medium = record m { rest = flags }; step = finish_star deck n n.star choice reply })
  quiet flags choice reply silent h =
      subst (λ st. Comes choice (replied reply) (record { medium = record m { rest = flags }; step = st }))
      (sym (same-step n.star refl choice reply h)) (nothing choice (replied reply) silent flags)

  -- what a notice in its inbox answers says nothing new to the part
  forestalled : (choice : Choice) (x : ℕ)
      → ((p : StarPart) → star_step deck n.known n.tasks p choice replies.Yours ≡ fixing_none n.tasks p)
      → ((p : StarPart) → star_step deck n.known n.tasks p choice replies.Old ≡ fixing_none n.tasks p)
      → ComesBy choice (notice_reply m s x, m)
  unfolding finish finish_call
  forestalled choice x yours old =
      by_test (λ r. ComesBy choice (r, m)) (is_manager (manager_at m.words x) s) replies.Yours replies.Old
      (λ own. quiet m.rest choice replies.Yours refl yours) (λ other. quiet m.rest choice replies.Old refl old)

  -- ---- a task that goes on, a Rest, a Turn, and the desk
  by-task : (t : TaskId) → may_go deck n t ≡ true → ComesOf (choices.Task t) Quiet
  unfolding carry_out finish finish_quiet
  by-task t may = went_on t may

  by-rest : ComesBy choices.Rest (row m s acts.Rest)
  unfolding row rest_row finish finish_call
  by-rest =
      by_test (λ r. ComesBy choices.Rest (r, resting m s)) (all_rest (resting m s) && medium_at_end (resting m s))
      replies.Over replies.Resting (λ h. quiet (resting m s).rest choices.Rest replies.Over refl (λ p. refl))
      (λ h. quiet (resting m s).rest choices.Rest replies.Resting refl (λ p. refl))

  abbrev after_turn : Message → MediumState
  after_turn k =
      record m { message = k; rest = rest_after_turn m.message s (length (take most_additions n.outbox)) m.rest }

  by-turn : n.star ≡ None → ComesBy choices.Turn (row m s (acts.Turn (take most_additions n.outbox)))
  unfolding row turn_row turn_reply turned finish finish_call
  by-turn alone = at (stands_at m.message.holder s) refl
    where
      put : ℕ
      put = length (take most_additions n.outbox)

      flags : ℕ
      flags = rest_after_turn m.message s (length (take most_additions n.outbox)) m.rest

      holds : stands_at m.message.holder s ≡ true → (d : Bool) → m.message.closed ≡ d →
          Comes choices.Turn
          (replied (replies.Turned (unseen s m.message.entries) (cond d 0 (length (take most_additions n.outbox))) d))
          (record {
            medium =
                after_turn (cond d (turned_closed m.message s)
                (turned_open m.message s (take most_additions n.outbox) (live m) m.rest));
            step = node_turned deck n (unseen s m.message.entries) (cond d 0 (length (take most_additions n.outbox))) d;
          })
      holds here false unclosed =
          subst (λ st.
          Comes choices.Turn (replied (replies.Turned (unseen s m.message.entries) put false)) (record {
            medium = after_turn (turned_open m.message s (take most_additions n.outbox) (live m) m.rest);
            step = st;
          }))
          (sym (open-turned deck n (unseen s m.message.entries) put)) (turn flags alone unclosed here)
      holds here true shut =
          subst (λ st.
          Comes choices.Turn (replied (replies.Turned (unseen s m.message.entries) 0 true))
          (record { medium = after_turn (turned_closed m.message s); step = st }))
          (sym (closed-turned deck n (unseen s m.message.entries) alone)) (last_turn flags alone shut here)

      at : (b : Bool) → stands_at m.message.holder s ≡ b →
          ComesBy choices.Turn (
            cond b (replies.Turned (unseen s m.message.entries)
                (cond m.message.closed 0 (length (take most_additions n.outbox))) m.message.closed)
                (replies.NotYours m.message.holder),
            after_turn (cond b (cond m.message.closed (turned_closed m.message s)
                (turned_open m.message s (take most_additions n.outbox) (live m) m.rest)) m.message),
          )
      at false away = quiet flags choices.Turn (replies.NotYours m.message.holder) refl (λ p. refl)
      at true here = holds here m.message.closed refl

  by-switch : next_order deck n ≡ Some orders.Star → ComesBy choices.Switch (row m s (acts.Switch (own_words deck n)))
  unfolding row switch_row finish finish_call
  by-switch next =
      by_test (ComesBy choices.Switch) m.star (replies.Already, m)
      (switch_ring m s (own_words deck n) (first_number (unseen s m.message.entries)))
      (λ mode. already mode next) (λ ring. go ring (first_number (unseen s m.message.entries)) refl)
    where
      go : m.star ≡ false → (o : Option ℕ) → first_number (unseen s m.message.entries) ≡ o
          → ComesBy choices.Switch (switch_ring m s (own_words deck n) o)
      go ring None seen = changed ring next seen
      go ring (Some first) behind = quiet m.rest choices.Switch (replies.Behind first) refl (λ p. refl)

  by-order : (o : Option Order) → next_order deck n ≡ o → ComesOf choices.Switch (switch_call deck n o)
  by-order None e = idle choices.Switch
  by-order (Some orders.Star) e = called choices.Switch (acts.Switch (own_words deck n)) (by-switch e)
  by-order (Some (orders.Vary t)) e = idle choices.Switch

  by-purge : (target : SysId) → next_order deck n ≡ Some (orders.Vary target)
      → ComesBy (choices.Purge target) (row m s (acts.Purge target))
  unfolding row purge_row finish finish_call
  by-purge target next =
      by_test (ComesBy (choices.Purge target)) (is_live m target) (replies.Purged, without_target m s target)
      (replies.NoSuch, m)
      (λ lives.
      by_test (λ k. ComesBy (choices.Purge target) (replies.Purged, k)) m.star (without_in_star m target)
      (without_system m s target) (λ mode. removes_star target mode next lives)
      (λ ring. removes_one target ring next lives))
      (λ gone. no_such target next gone)

  by-target : (target : SysId) (o : Option Order) → next_order deck n ≡ o
      → ComesOf (choices.Purge target) (purge_call n target o)
  by-target target None e = idle (choices.Purge target)
  by-target target (Some orders.Star) e = idle (choices.Purge target)
  by-target target (Some (orders.Vary named)) e =
      by_test (ComesOf (choices.Purge target)) (named.0 == target.0)
      (Call (record { known = n.known; act = acts.Purge target })) Nothing
      (λ same.
      called (choices.Purge target) (acts.Purge target)
      (by-purge target (e
      ∙ ap (λ (k : ℕ). let z : SysId = record { 0 = k } in Some (orders.Vary z)) (eqb-true named.0 target.0 same))))
      (λ away. idle (choices.Purge target))

  -- ---- the part in star mode
  module _ (p : StarPart) (is : n.star ≡ Some p) where
    abbrev Needs : Choice → Need → Type 0
    Needs choice need = ComesOf choice (prepared_by n.known need)

    -- the part finishes it
    finished : (k : MediumState) (choice : Choice) (reply : Reply)
        → Comes choice (replied reply)
        (record { medium = k; step = with_star n (star_step deck n.known n.tasks p choice reply) })
        → Comes choice (replied reply) (record { medium = k; step = finish_star deck n n.star choice reply })
    unfolding finish_star
    finished k choice reply h =
        subst (λ o. Comes choice (replied reply) (record { medium = k; step = finish_star deck n o choice reply }))
        (sym is) h

    -- what a task asks for goes where its entry's word says
    module _ (t : TaskId) (a : Asked) (x : ℕ) (asked : IsToSend deck n p t a x) where
      sole : (k : MediumState) → joined m s x ≡ k
          → Acts deck m s n p (choices.Send t) (replied replies.Sole)
          (record { medium = k; step = with_star n (decide_own n.tasks (begun p x) t a) })
          →
          Comes (choices.Send t) (replied replies.Sole)
          (record { medium = joined m s x; step = finish_star deck n n.star (choices.Send t) replies.Sole })
      sole k now acts =
          finished (joined m s x) (choices.Send t) replies.Sole
          (subst (λ o.
          Comes (choices.Send t) (replied replies.Sole)
          (record { medium = joined m s x; step = with_star n (begin_at n.tasks p t o (entry_asked p o)) }))
          (sym asked.asks)
          (subst (λ o.
          Comes (choices.Send t) (replied replies.Sole)
          (record { medium = joined m s x; step = with_star n (begin_at n.tasks p t (Some a) o) }))
          (sym asked.entry)
          (subst (λ (z : MediumState).
          Comes (choices.Send t) (replied replies.Sole)
          (record { medium = z; step = with_star n (decide_own n.tasks (begun p x) t a) }))
          (sym now) (acted p is (choices.Send t) _ _ acts))))

      -- the medium then, by whether the word names the system
      joined-is : (b : Bool) → is_manager (manager_at m.words x) s ≡ b
          → joined m s x ≡ cond b m (record m { words = submitted_words m.words x s; rest = awake m s })
      joined-is b e = ap (λ d. cond d m (record m { words = submitted_words m.words x s; rest = awake m s })) e

      sends : (to : SysId) → manager_at m.words x ≡ Some to → (to.0 == s.0) ≡ false →
          Comes (choices.Send t) (replied replies.Sent) (record {
            medium =
                record (joined m s x) { inboxes = with_mail m.inboxes to.0 (mails.Request x s (request_of t a)) };
            step = finish_star deck n n.star (choices.Send t) replies.Sent;
          })
      sends to at apart =
          let boxes : List (List Mail) = with_mail m.inboxes to.0 (mails.Request x s (request_of t a)) in
          let now : MediumState =
          record m { words = submitted_words m.words x s; inboxes = boxes; rest = awake m s } in
          subst (λ (k : MediumState).
          Comes (choices.Send t) (replied replies.Sent) (record {
            medium = record k { inboxes = boxes };
            step = finish_star deck n n.star (choices.Send t) replies.Sent;
          }))
          (sym (joined-is false (ap (λ o. is_manager o s) at ∙ apart)))
          (finished now (choices.Send t) replies.Sent
          (subst (λ o.
          Comes (choices.Send t) (replied replies.Sent)
          (record { medium = now; step = with_star n (sent_to n.tasks p t o) }))
          (sym (ap (entry_asked p) asked.asks ∙ asked.entry))
          (acted p is (choices.Send t) _ _ (sent t a x asked to at apart))))

      by-word : (o : Option SysId) → manager_at m.words x ≡ o
          → ComesBy (choices.Send t) (submit_on m s x (request_of t a) (route_by o s))
      unfolding finish finish_call
      by-word None at =
          sole _ (joined-is false (ap (λ o. is_manager o s) at)) (began t a x asked at)
      by-word (Some to) at =
          by_test (λ r. ComesBy (choices.Send t) (submit_on m s x (request_of t a) r)) (to.0 == s.0) routes.Sole
          (routes.To to)
          (λ same.
          sole m (joined-is true (ap (λ o. is_manager o s) at ∙ same)) (decided t a x asked to at same))
          (λ apart. sends to at apart)

      submits : ComesBy (choices.Send t) (row m s (acts.Submit x (request_of t a)))
      unfolding row submit_row route
      submits =
          by_test (ComesBy (choices.Send t)) (is_noticed m s x) (notice_reply m s x, m)
          (submit_on m s x (request_of t a) (route_by (manager_at m.words x) s))
          (λ noticed. forestalled (choices.Send t) x (λ k. refl) (λ k. refl))
          (λ heard. by-word (manager_at m.words x) refl)

    by-entry : (t : TaskId) (a : Asked) → may_send deck n t ≡ true → (state_of n.tasks t).outstanding ≡ Some a
        → (o : Option ℕ) → entry_for p a.req.want ≡ o → Needs (choices.Send t) (send_to p (request_of t a) o)
    by-entry t a may asks None e = idle (choices.Send t)
    by-entry t a may asks (Some x) e =
        by_test (Needs (choices.Send t)) (gathers p x) Idle (Asks (acts.Submit x (request_of t a)))
        (λ busy. idle (choices.Send t))
        (λ free.
        called (choices.Send t) (acts.Submit x (request_of t a))
        (submits t a x (record { may = may; asks = asks; entry = e; settled = free })))

    by-asked : (t : TaskId) → may_send deck n t ≡ true → (o : Option Asked) → (state_of n.tasks t).outstanding ≡ o
        → Needs (choices.Send t) (send_of p t o)
    by-asked t may None e = idle (choices.Send t)
    by-asked t may (Some a) e = by-entry t a may e (entry_for p a.req.want) refl

    -- the first mail is taken
    by-mail : ComesBy choices.Take (row m s acts.Take)
    unfolding row take_row finish finish_call
    by-mail = go (inbox m s.0) refl
      where
        go : (ms : List Mail) → inbox m s.0 ≡ ms → ComesBy choices.Take (take_from m s ms)
        go [] e = quiet m.rest choices.Take replies.Empty refl (λ k. refl)
        go (mail ∷ rest) e =
            finished (record m { inboxes = without_first m.inboxes s.0; rest = awake m s }) choices.Take
            (replies.Taken mail) (acted p is choices.Take _ _ (took mail rest e))

    -- the first request held of an entry that isn't gathered is settled
    settles : (q : Req) → first_held p ≡ Some q
        → ComesBy choices.Settle
        (row m s (acts.Settle q.task.system (mails.Answered q.task (answer_for p q) (rank_of p q))))
    unfolding row mail_row finish finish_call
    settles q e =
        let now : MediumState = record m {
          inboxes = with_mail m.inboxes q.task.system.0 (mails.Answered q.task (answer_for p q) (rank_of p q));
          rest = awake m s;
        } in
        finished now choices.Settle replies.Settled
        (subst (λ o.
        Comes choices.Settle (replied replies.Settled)
        (record { medium = now; step = with_star n (settled_by n.tasks p o) }))
        (sym e) (acted p is choices.Settle _ _ (settled q e)))

    by-held : (o : Option Req) → first_held p ≡ o → Needs choices.Settle (settle_by p o)
    by-held None e = idle choices.Settle
    by-held (Some q) e =
        called choices.Settle (acts.Settle q.task.system (mails.Answered q.task (answer_for p q) (rank_of p q)))
        (settles q e)

    -- an owner of another system is told
    tells : (e : ℕ) (x : TaskId × Res) → to_tell p e ≡ Some x
        → ComesBy (choices.Tell e) (row m s (acts.Tell x.0.system (mails.Granted x.0 x.1)))
    unfolding row mail_row finish finish_call
    tells e x is_next =
        let now : MediumState =
        record m { inboxes = with_mail m.inboxes x.0.system.0 (mails.Granted x.0 x.1); rest = awake m s } in
        finished now (choices.Tell e) replies.Told
        (subst (λ o.
        Comes (choices.Tell e) (replied replies.Told)
        (record { medium = now; step = with_star n (fixing_none n.tasks (told_by p o)) }))
        (sym is_next) (acted p is (choices.Tell e) _ _ (told e x is_next)))

    -- the part of an entry is sent
    abbrev part_at : ℕ → Mail
    part_at e =
        mails.Part e p.manager.system
        (part_of (length p.manager.entries) e (names_of deck n.tasks.system) n.tasks)

    parts : (e : ℕ) (to : SysId) → owed_to p e ≡ Some to → has n.known to.0 ≡ false
        → ComesBy (choices.Part e) (row m s (acts.Tell to (part_at e)))
    unfolding row mail_row finish finish_call
    parts e to owes unknown =
        finished (record m { inboxes = with_mail m.inboxes to.0 (part_at e); rest = awake m s }) (choices.Part e)
        replies.Told (acted p is (choices.Part e) _ _ (parted e to owes unknown))

    by-owed : (e : ℕ) (o : Option SysId) → owed_to p e ≡ o
        → Needs (choices.Part e) (part_by (names_of deck n.tasks.system) n.known p n.tasks e o)
    by-owed e None owes = idle (choices.Part e)
    by-owed e (Some to) owes =
        by_test (Needs (choices.Part e)) (has n.known to.0) Idle (Asks (acts.Tell to (part_at e)))
        (λ gone. idle (choices.Part e))
        (λ there. called (choices.Part e) (acts.Tell to (part_at e)) (parts e to owes there))

    by-owner : (e : ℕ) (o : Option (TaskId × Res)) → to_tell p e ≡ o → Needs (choices.Tell e) (tell_by o)
    by-owner e None is_next = idle (choices.Tell e)
    by-owner e (Some x) is_next =
        called (choices.Tell e) (acts.Tell x.0.system (mails.Granted x.0 x.1)) (tells e x is_next)

    -- an entry is left; a manager that would leave others behind stays
    module _ (x : ℕ) (free : may_leave p n.tasks x ≡ true) where
      abbrev w : ℕ
      w = word_at m.words x

      abbrev leaving : MediumState
      leaving = record m { words = left_words m.words x s; rest = awake m s }

      left-is : (b : Bool) → leave_changes (word_at m.words x) s ≡ b
          → cond b (record m { words = left_words m.words x s; rest = awake m s }) m
          ≡ record m { words = left_words m.words x s; rest = cond b (awake m s) m.rest }
      unfolding left_word
      left-is true h = refl
      left-is false h = ap (λ ws. record m { words = ws }) (sym same)
        where
          same : left_words m.words x s ≡ m.words
          same =
              ap (λ b.
              slice_set m.words x
              (cond b (cond (is_manager (manager w) s) (lock_word 0 None (epoch w))
              (lock_word (without (interest w) s.0) (manager w) (epoch w))) w))
              h
              ∙ set-get_or m.words x 0

      by-left : leave_reply (word_at m.words x) s ≡ replies.Left →
          Comes (choices.Leave x) (replied replies.Left) (record {
            medium =
                cond (leave_changes (word_at m.words x) s)
                (record m { words = left_words m.words x s; rest = awake m s }) m;
            step = finish_star deck n n.star (choices.Leave x) replies.Left;
          })
      by-left reply =
          subst (λ (k : MediumState).
          Comes (choices.Leave x) (replied replies.Left)
          (record { medium = k; step = finish_star deck n n.star (choices.Leave x) replies.Left }))
          (sym (left-is (leave_changes w s) refl))
          (finished _ (choices.Leave x) replies.Left (acted p is (choices.Leave x) _ _ (left x _ free reply)))

      by-kept : (mask : ℕ) → is_kept (word_at m.words x) s ≡ true →
          Comes (choices.Leave x) (replied (replies.Kept mask)) (record {
            medium =
                cond (leave_changes (word_at m.words x) s)
                (record m { words = left_words m.words x s; rest = awake m s }) m;
            step = finish_star deck n n.star (choices.Leave x) (replies.Kept mask);
          })
      unfolding leave_changes
      by-kept mask kept =
          subst (λ b.
          Comes (choices.Leave x) (replied (replies.Kept mask)) (record {
            medium = cond b leaving m;
            step = finish_star deck n n.star (choices.Leave x) (replies.Kept mask);
          }))
          (sym (ap (λ b. has (interest w) s.0 && not b) kept ∙ and-false (has (interest w) s.0)))
          (quiet m.rest (choices.Leave x) (replies.Kept mask) refl (λ k. refl))

      by-leave : ComesBy (choices.Leave x) (row m s (acts.Leave x))
      unfolding row leave_row leave_reply finish finish_call
      by-leave =
          by_test (ComesBy (choices.Leave x)) (is_noticed m s x) (notice_reply m s x, m)
          (cond (is_kept w s) (replies.Kept (interest w)) replies.Left, cond (leave_changes w s) leaving m)
          (λ noticed. forestalled (choices.Leave x) x (λ k. refl) (λ k. refl))
          (λ heard.
          by_test (λ reply. ComesBy (choices.Leave x) (reply, cond (leave_changes w s) leaving m)) (is_kept w s)
          (replies.Kept (interest w)) replies.Left (λ kept. by-kept (interest w) kept)
          (λ goes. by-left (ap (λ b. cond b (replies.Kept (interest w)) replies.Left) goes)))

  by-part : (choice : Choice)
      → ((p : StarPart) → n.star ≡ Some p → ComesOf choice (prepared_by n.known (star_need deck n p choice)))
      → ComesOf choice (star_call deck n n.star choice)
  unfolding star_call
  by-part choice h = go n.star refl
    where
      go : (o : Option StarPart) → n.star ≡ o → ComesOf choice (star_call deck n o choice)
      go None is = idle choice
      go (Some p) is = h p is

  pub came : (choice : Choice)
      → Came deck m s n choice (result_of m s (prepare deck n choice)) (chosen deck m s n choice)
  unfolding chosen prepare
  came (choices.Task t) =
      by_test (ComesOf (choices.Task t)) (may_go deck n t) Quiet Nothing (λ may. by-task t may)
      (λ h. idle (choices.Task t))
  came choices.Turn = go n.star refl
    where
      go : (o : Option StarPart) → n.star ≡ o → ComesOf choices.Turn (turn_call n o)
      go None alone = called choices.Turn (acts.Turn (take most_additions n.outbox)) (by-turn alone)
      go (Some p) is = idle choices.Turn
  came choices.Rest =
      by_test (ComesOf choices.Rest) (is_pending deck n) Nothing (Call (record { known = n.known; act = acts.Rest }))
      (λ h. idle choices.Rest) (λ h. called choices.Rest acts.Rest by-rest)
  came choices.Switch = by-order (next_order deck n) refl
  came (choices.Purge target) = by-target target (next_order deck n) refl
  came (choices.Send t) =
      by-part (choices.Send t) (λ p is.
      by_test (Needs p is (choices.Send t)) (may_send deck n t) (send_of p t (state_of n.tasks t).outstanding) Idle
      (λ may. by-asked p is t may (state_of n.tasks t).outstanding refl) (λ h. idle (choices.Send t)))
  came choices.Take = by-part choices.Take (λ p is. called choices.Take acts.Take (by-mail p is))
  came choices.Settle = by-part choices.Settle (λ p is. by-held p is (first_held p) refl)
  came (choices.Tell e) = by-part (choices.Tell e) (λ p is. by-owner p is e (to_tell p e) refl)
  came (choices.Part e) = by-part (choices.Part e) (λ p is. by-owed p is e (owed_to p e) refl)
  came (choices.Leave x) =
      by-part (choices.Leave x) (λ p is.
      by_test (Needs p is (choices.Leave x)) (may_leave p n.tasks x) (Asks (acts.Leave x)) Idle
      (λ free. called (choices.Leave x) (acts.Leave x) (by-leave p is x free)) (λ h. idle (choices.Leave x)))

-- What holds where an event is only counted, and whatever comes of it at a live system, holds behind the event.
pub each_came : (deck : Deck) (w : World) (e : Event) (P : World → Type 0) → P (counted w)
    → ((n : NodeState) (b : Result) (o : Turnout) → slice_get w.nodes e.system.0 ≡ Some n
    → has w.medium.removed e.system.0 ≡ false → Came deck w.medium e.system n e.choice b o
    → P (placed w e.system n o))
    → P (happens deck w e)
each_came deck w e P idle comes =
    each_live deck w e P idle (λ n at alive. comes n _ _ at alive (came deck w.medium e.system n alive e.choice))

-- ---- an event that removes no system in star mode
-- the reply to its call, if it made one
abbrev pub reply_in : Result → Option Reply
reply_in skipped = None
reply_in by_itself = None
reply_in (replied r) = Some r

pub reply-in : (m : MediumState) (s : SysId) (p : Prepared) → reply_in (result_of m s p) ≡ reply_by m s (call_in p)
reply-in m s Nothing = refl
reply-in m s Quiet = refl
reply-in m s (Call call) = refl

pub removes-none : (deck : Deck) (w : World) (e : Event) → removes_in_star deck w e ≡ false → (n : NodeState)
    → slice_get w.nodes e.system.0 ≡ Some n → has w.medium.removed e.system.0 ≡ false
    → ChoiceRemovesNone deck w.medium e.system n e.choice
removes-none deck w e none n at alive star is =
    true≢false (sym (and_from w.medium.star (is_purged (reply_of deck w e)) star purged) ∙ none)
  where
    s : SysId
    s = e.system

    there : is_live_in w e.system ≡ true
    there =
        and_from (nat_lt s.0 (length w.nodes)) (not (has w.medium.removed s.0))
        (lt-ltb s.0 (length w.nodes) (slice_get_within w.nodes s.0 n at)) (ap not alive)

    purged : is_purged (reply_of deck w e) ≡ true
    purged =
        ap (λ o. is_purged (reply_by w.medium s (call_at deck w e o))) at
        ∙ (ap (λ b. is_purged (reply_by w.medium s (cond b (call_in (prepare deck n e.choice)) None))) there
        ∙ (ap is_purged (sym (reply-in w.medium s (prepare deck n e.choice))) ∙ ap (λ b. is_purged (reply_in b)) is))
