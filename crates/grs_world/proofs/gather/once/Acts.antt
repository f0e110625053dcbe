-- What an event leaves of the requests in all hands and of the answers in all inboxes, but for one that takes a mail or
-- removes a system.
use Rattle.grs_world.proofs.Common.{[], ◌&&◌, ◌++◌, ◌+◌, ◌<◌, ◌==◌, ◌∙◌, ◌∷◌, ◌≡◌, ◌≢◌, ◌≤◌, ◌⊎◌, and_from, and_parts}
use Rattle.grs_world.proofs.Common.{answer_for, ap, append-nil, append_assoc, arith, Asked, awake, begun, Bool, Choice}
use Rattle.grs_world.proofs.Common.{cond, decide_own, Deck, eq-eqb, eqb-false, eqb-true, false, false_by, first_held}
use Rattle.grs_world.proofs.Common.{fixing_none, get_or, has, has_interest, inbox, inbox_of, inl, inr, is_interested}
use Rattle.grs_world.proofs.Common.{is_sent, is_task, is_to_send, leave_reply, left_at, left_words, length, List}
use Rattle.grs_world.proofs.Common.{list_any, Mail, manager_at, may_send, most_systems, nat_lt, new_task, no_truth}
use Rattle.grs_world.proofs.Common.{NodeState, None, not-true, noticed, or_parts, owing, PartRec, rank_of, refl, Req}
use Rattle.grs_world.proofs.Common.{request_of, Res, same_Some, slice_get, slice_get-set, slice_get_within, Some}
use Rattle.grs_world.proofs.Common.{StarPart, state_of, submitted_words, subst, suc, sym, SysId, TaskId, TasksView}
use Rattle.grs_world.proofs.Common.{to_tell, true, Turnout, with_interest, with_mail, with_phase, with_star, word_at}
use Rattle.grs_world.proofs.Common.{World, zero, ℕ}
use Rattle.std.proofs.lemmas.Bool.{ltb-false, ltb-true}
use Rattle.std.proofs.lemmas.List.{set_past}
use Rattle.contention_mgr.specs.Manager.{entry_wanted}
use Rattle.grs_node.specs.Star.{asks_in, besides_first, is_busy_in, may_leave, may_settle, settled_first, told_by}
use Rattle.grs_wire.specs.Notices.{names}
use Rattle.lock_structure.specs.Entries.{is_entry}
use Rattle.star_client.specs.Client.{has_sent}
use Rattle.task_state.proofs.ViewLaws.{is_task-place, is_task-state, outstanding-phase, state_of-same}
use Rattle.task_state.specs.declared.state.Phase.{Phase}
use Rattle.task_state.specs.declared.state.TaskState.{TaskState}
use Rattle.grs_world.proofs.gather.InBoxes.{named-from, other-entry, other-manager, other-system, stays-with}
use Rattle.grs_world.proofs.gather.StaysSent.{came-sent}
use Rattle.grs_world.proofs.gather.once.Boxes.{BoxGoes, goes-answer, goes-more, goes-same, once-last}
use Rattle.grs_world.proofs.gather.once.Lists.{asked-besides, asked-both, asked-none, asked-some, Fewer, fewer-append}
use Rattle.grs_world.proofs.gather.once.Lists.{fewer-behind, fewer-besides, fewer-front, fewer-same, in-either}
use Rattle.grs_world.proofs.gather.once.Lists.{in-found, in-left, in-right, request_in, requests-more}
use Rattle.grs_world.proofs.gather.once.Step.{AreOnce, Busy, IsCalm, step-once}
use Rattle.grs_world.proofs.gather.way.Acting.{Acting}
use Rattle.grs_world.proofs.gather.way.Entry.{at}
use Rattle.grs_world.proofs.run.Came.{acted, Came, IsToSend, replied, Result}
use Rattle.grs_world.proofs.run.Chosen.{reply_in}
use Rattle.grs_world.proofs.run.Placed.{nodes_then, world_then}
use Rattle.grs_world.proofs.run.Site.{each_site, Site}
use Rattle.grs_world.proofs.star.Boxes.{by_box, its-box}
use Rattle.grs_world.proofs.star.Roles.{interest-within, want-within}
use Rattle.grs_world.proofs.star.Sending.{submit-grows, submit-near, WordsGrow}
use Rattle.grs_world.proofs.star.Systems.{requests_in}
use Rattle.grs_world.proofs.star.Worlds.{IsIn}
use Rattle.grs_world.specs.Again.{is_touched}
use Rattle.grs_world.specs.InHands.{asked_by, HasSent, in_hands, is_answer_to, is_answered_once, IsAnswered, IsInHands}
use Rattle.grs_world.specs.InHands.{same_place}
use Rattle.grs_world.proofs.run.Came as any
use Rattle.grs_wire.specs.declared.deck.Choice.TheVariants as choices
use Rattle.grs_wire.specs.declared.medium.Mail.TheVariants as mails
use Rattle.grs_wire.specs.declared.medium.Reply.TheVariants as replies
use Rattle.task_state.specs.declared.state.Phase.TheVariants as phases

pub sent-is : (x : Phase) → is_sent x ≡ true → x ≡ phases.Sent
sent-is phases.Sent h = refl
sent-is phases.Ready h = absurd (cc)
sent-is (phases.Ending c) h = absurd (cc)
sent-is phases.HeldAnswer h = absurd (cc)
sent-is (phases.HeldLine r) h = absurd (cc)
sent-is phases.ToSend h = absurd (cc)
sent-is phases.Ended h = absurd (cc)

to_send-off : (x : Phase) → is_to_send x ≡ true → is_sent x ≡ false
to_send-off phases.ToSend h = refl
to_send-off phases.Ready h = refl
to_send-off (phases.Ending c) h = refl
to_send-off phases.HeldAnswer h = refl
to_send-off (phases.HeldLine r) h = refl
to_send-off phases.Sent h = absurd (cc)
to_send-off phases.Ended h = refl

-- a mail comes into one inbox
pub posted-at : (boxes : List (List Mail)) (to s : ℕ) (y : Mail) (P : List Mail → Type 0) → P (inbox_of boxes s)
    → (s ≡ to → P (inbox_of boxes s ++ y ∷ [])) → P (inbox_of (with_mail boxes to y) s)
posted-at boxes to s y P same more = go (nat_lt to (length boxes)) refl
  where
    go : (b : Bool) → nat_lt to (length boxes) ≡ b → P (inbox_of (with_mail boxes to y) s)
    go true there = by_box boxes to y P (ltb-true to (length boxes) there) s more (λ other. same)
    go false past =
        subst (λ bs. P (inbox_of bs s))
        (sym (set_past boxes to (inbox_of boxes to ++ y ∷ []) (ltb-false to (length boxes) past))) same

-- an inbox of which no request changes
abbrev pub Alike : List Mail → List Mail → Type 0
Alike ms ks = Fewer (requests_in ms) (requests_in ks)

pub alike-more : (ms : List Mail) (y : Mail) → request_in y ≡ [] → Alike ms (ms ++ y ∷ [])
alike-more ms y none =
    subst (Fewer (requests_in ms))
    (sym (requests-more ms y ∙ (ap (λ qs. requests_in ms ++ qs) none ∙ append-nil (requests_in ms))))
    (fewer-same (requests_in ms))

-- two places of one system
pub place-is : (t u : TaskId) → same_place t u ≡ true → (t.system.0 ≡ u.system.0) × (t.task ≡ u.task)
place-is t u h =
    let both = and_parts (t.system.0 == u.system.0) (t.task == u.task) h in
    (eqb-true t.system.0 u.system.0 both.0, eqb-true t.task u.task both.1)

pub place-of : (t u : TaskId) → t.system.0 ≡ u.system.0 → t.task ≡ u.task → same_place t u ≡ true
place-of t u home place =
    and_from (t.system.0 == u.system.0) (t.task == u.task) (eq-eqb t.system.0 u.system.0 home)
    (eq-eqb t.task u.task place)

-- whose task stands there is the same state
pub state-there : (v : TasksView) (t u : TaskId) → t.task ≡ u.task → state_of v t ≡ state_of v u
unfolding state_of
state-there v t u same = ap (λ i. get_or v.tasks i new_task) same

-- of which none passes, this one doesn't
none-at : (test : TaskState → Bool) (xs : List TaskState) (i : ℕ) (d : TaskState) → i < length xs
    → list_any test xs ≡ false → test (get_or xs i d) ≡ false
none-at test [] i d h none = absurd (omega (arith, h))
none-at test (x ∷ xs) zero d h none = (or_parts (test x) (list_any test xs) none).0
none-at test (x ∷ xs) (suc i) d h none =
    none-at test xs i d (omega (arith, h)) (or_parts (test x) (list_any test xs) none).1

module _ (deck : Deck) (some : 0 < deck.entries) (w : World) (c : SysId) (n : NodeState) (p : StarPart)
    (a : Acting deck w c n p) (home : n.tasks.system ≡ c.0) (J : AreOnce deck w) where
  -- what it sent it has sent still, but by a notice or an answer
  pub stays-sent : (t : TaskId) (x : Asked) (choice : Choice) (b : Result) (o : Turnout)
      → Came deck w.medium c n choice b o → is_touched t (reply_in b) ≡ false → has_sent n.tasks t ≡ true
      → (state_of n.tasks t).outstanding ≡ Some x
      → (has_sent o.step.node.tasks t ≡ true) × ((state_of o.step.node.tasks t).outstanding ≡ Some x)
  stays-sent t x choice b o came off sent asks =
      let both = and_parts (is_task n.tasks t) (is_sent (state_of n.tasks t).phase) sent in
      let z = came-sent deck t (Some x) n
      (record { here = both.0; is = sent-is (state_of n.tasks t).phase both.1; asks = asks }) w.medium c p a.star choice
      b o came off in (
        and_from (is_task o.step.node.tasks t) (is_sent (state_of o.step.node.tasks t).phase) z.here (ap is_sent z.is),
        z.asks,
      )

  -- who has something to send has sent nothing
  to-send-none : (t : TaskId) (u : TaskId) → may_send deck n u ≡ true → t.task ≡ u.task → has_sent n.tasks t ≡ false
  unfolding may_send
  to-send-none t u may same =
      let z = and_parts (is_task n.tasks u) _ may in
      let unsent = to_send-off (state_of n.tasks u).phase (and_parts _ (is_to_send (state_of n.tasks u).phase) z.1).1 in
      false_by (has_sent n.tasks t) (λ h.
      no_truth (is_sent (state_of n.tasks t).phase)
      (and_parts (is_task n.tasks t) (is_sent (state_of n.tasks t).phase) h).1
      (ap (λ (y : TaskState). is_sent y.phase) (state-there n.tasks t u same) ∙ unsent))

  -- ---- an event by which no request comes, and none is answered
  module _ (o : Turnout) (r : StarPart) (now : o.step.node.star ≡ Some r)
      (gone : (u : ℕ) → has w.medium.removed u ≡ true → has o.medium.removed u ≡ true)
      (near : (e u : ℕ) → has o.medium.removed u ≡ false → is_interested w.medium.words e u ≡ true
      → (u ≡ c.0 → Busy deck n e) → is_interested o.medium.words e u ≡ true)
      (managed : (e m u : ℕ) → has o.medium.removed m ≡ false → has o.medium.removed u ≡ false
      → manager_at w.medium.words e ≡ Some (at m) → is_interested w.medium.words e u ≡ true
      → (u ≡ c.0 → Busy deck n e) → manager_at o.medium.words e ≡ Some (at m))
      (tasks : (t : TaskId) (x : Asked) (e : ℕ) → t.system.0 ≡ c.0 → HasSent deck w.medium.words n.tasks t x e
      → IsCalm deck w c n p o r t e
      → (has_sent o.step.node.tasks t ≡ true) × ((state_of o.step.node.tasks t).outstanding ≡ Some x))
      (boxes : (u : ℕ) (k : NodeState) → Site w u k → has o.medium.removed u ≡ false
      → BoxGoes w.medium.words o.medium.removed (λ t. ⊥) u (inbox w.medium u) (inbox o.medium u))
      (own : has o.medium.removed c.0 ≡ false
      → Fewer (in_hands p (inbox w.medium c.0)) (in_hands r (inbox o.medium c.0)))
      (mail : (u : ℕ) (k : NodeState) → u ≢ c.0 → Site w u k → has o.medium.removed u ≡ false
      → Alike (inbox w.medium u) (inbox o.medium u)) where
    fewer-other : (m : ℕ) (k : NodeState) (z : StarPart) → m ≢ c.0 → Site w m k → has o.medium.removed m ≡ false
        → Fewer (in_hands z (inbox w.medium m)) (in_hands z (inbox o.medium m))
    fewer-other m k z ne there live =
        fewer-behind (requests_in (inbox w.medium m)) (requests_in (inbox o.medium m)) z.held (mail m k ne there live)

    pub calm-once : AreOnce deck (world_then w c n o)
    calm-once =
        step-once deck w c n p o r a.site a.star J (λ m q. ⊥) (λ t. ⊥) (record {
          now = now;
          gone = gone;
          near = near;
          managed = managed;
          tasks = tasks;
          boxes = boxes;
          own_hands = λ live q h. inl ((own live).among q h);
          hands = λ m k z ne there star live q h. inl ((fewer-other m k z ne there live).among q h);
          own_single = λ live t.
              let few = (own live).count t in
              let one = J.single c.0 n p a.site a.star t in
              omega (arith, few, one);
          single = λ m k z ne there star live t.
              let few = (fewer-other m k z ne there live).count t in
              let one = J.single m k z there star t in
              omega (arith, few, one);
          new_hand = λ m q h k there. absurd h;
          new_answer = λ t h k there. absurd h;
          own_apart = λ live q h y at_y new. new;
          apart = λ m k z ne there star live q h y at_y new. new;
        })

  -- nobody is removed, words, mail and what is held stay, and no notice or answer is taken
  pub still-once : (o : Turnout) (r : StarPart) → o.step.node.star ≡ Some r
      → o.medium.removed ≡ w.medium.removed → o.medium.words ≡ w.medium.words → o.medium.inboxes ≡ w.medium.inboxes
      → ((t : TaskId) (x : Asked) → has_sent n.tasks t ≡ true → (state_of n.tasks t).outstanding ≡ Some x
      → (has_sent o.step.node.tasks t ≡ true) × ((state_of o.step.node.tasks t).outstanding ≡ Some x))
      → Fewer p.held r.held → AreOnce deck (world_then w c n o)
  still-once o r now removed words inboxes tasks held =
      calm-once o r now (λ u h. ap (λ i. has i u) removed ∙ h)
      (λ e u live h busy. ap (λ ws. is_interested ws e u) words ∙ h)
      (λ e m u live_m live_u named h busy. ap (λ ws. manager_at ws e) words ∙ named)
      (λ t x e home h calm. tasks t x h.sent h.asks)
      (λ u k there live.
      subst (λ bs. BoxGoes w.medium.words o.medium.removed (λ t. ⊥) u (inbox w.medium u) (inbox_of bs u)) (sym inboxes)
      (goes-same w.medium.words o.medium.removed (λ t. ⊥) u (inbox w.medium u)))
      (λ live.
      subst (λ bs. Fewer (in_hands p (inbox w.medium c.0)) (in_hands r (inbox_of bs c.0))) (sym inboxes)
      (fewer-front p.held r.held (requests_in (inbox w.medium c.0)) held))
      (λ u k ne there live.
      subst (λ bs. Alike (inbox w.medium u) (inbox_of bs u)) (sym inboxes)
      (fewer-same (requests_in (inbox w.medium u))))

  -- a mail is posted that is neither a request nor an answer nor a notice
  pub posted-once : (o : Turnout) (r : StarPart) → o.step.node.star ≡ Some r
      → o.medium.removed ≡ w.medium.removed → o.medium.words ≡ w.medium.words → (to : ℕ) (y : Mail)
      → o.medium.inboxes ≡ with_mail w.medium.inboxes to y → request_in y ≡ []
      → ((place : ℕ) → is_answer_to place y ≡ false) → ((e : ℕ) → names e y ≡ false)
      → ((t : TaskId) (x : Asked) → has_sent n.tasks t ≡ true → (state_of n.tasks t).outstanding ≡ Some x
      → (has_sent o.step.node.tasks t ≡ true) × ((state_of o.step.node.tasks t).outstanding ≡ Some x))
      → Fewer p.held r.held → AreOnce deck (world_then w c n o)
  posted-once o r now removed words to y inboxes none answers away tasks held =
      calm-once o r now (λ u h. ap (λ i. has i u) removed ∙ h)
      (λ e u live h busy. ap (λ ws. is_interested ws e u) words ∙ h)
      (λ e m u live_m live_u named h busy. ap (λ ws. manager_at ws e) words ∙ named)
      (λ t x e home h calm. tasks t x h.sent h.asks)
      (λ u k there live.
      subst (λ bs. BoxGoes w.medium.words o.medium.removed (λ t. ⊥) u (inbox w.medium u) (inbox_of bs u)) (sym inboxes)
      (posted-at w.medium.inboxes to u y
      (BoxGoes w.medium.words o.medium.removed (λ t. ⊥) u (inbox w.medium u))
      (goes-same w.medium.words o.medium.removed (λ t. ⊥) u (inbox w.medium u))
      (λ here. goes-more w.medium.words o.medium.removed (λ t. ⊥) u (inbox w.medium u) y answers away)))
      (λ live.
      fewer-append p.held r.held (requests_in (inbox w.medium c.0)) (requests_in (inbox o.medium c.0)) held (alike c.0))
      (λ u k ne there live. alike u)
    where
      alike : (u : ℕ) → Alike (inbox w.medium u) (inbox o.medium u)
      alike u =
          subst (λ bs. Alike (inbox w.medium u) (inbox_of bs u)) (sym inboxes)
          (posted-at w.medium.inboxes to u y (Alike (inbox w.medium u)) (fewer-same (requests_in (inbox w.medium u)))
          (λ here. alike-more (inbox w.medium u) y none))

  -- ---- by its choice
  low : c.0 < most_systems
  low =
      let within = slice_get_within w.nodes c.0 n a.site.at in
      let count = a.count in
      let few = a.few in
      omega (arith, within, count, few)

  module _ (t : TaskId) (x : Asked) (e : ℕ) (asked : IsToSend deck n p t x e) where
    asked-within : e < deck.entries
    asked-within =
        let count = a.sized.0 in
        let here : e < length p.manager.entries =
        want-within (length p.manager.entries) x.req.want e (omega (arith, some, count)) asked.entry in
        omega (arith, here, count)

    there : e < length w.medium.words
    there = let words = a.fit.words in let inside = asked-within in omega (arith, inside, words)

    grows : WordsGrow w.medium.words (submitted_words w.medium.words e c)
    grows = submit-grows w.medium.words e c there low a.fit.managed

    pub decided-once : (to : SysId) → manager_at w.medium.words e ≡ Some to → (to.0 == c.0) ≡ true →
        AreOnce deck
        (world_then w c n (record { medium = w.medium; step = with_star n (decide_own n.tasks (begun p e) t x) }))
    unfolding decide_own
    decided-once to named same =
        still-once (record { medium = w.medium; step = with_star n (decide_own n.tasks (begun p e) t x) })
        (decide_own n.tasks (begun p e) t x).part refl refl refl refl
        (λ u y sent asks.
        stays-sent u y (choices.Send t) (replied replies.Sole) _
        (acted p a.star _ _ _ (any.decided t x e asked to named same)) refl sent asks)
        (fewer-same p.held)

    pub began-once : manager_at w.medium.words e ≡ None →
        AreOnce deck (world_then w c n (record {
          medium = record w.medium { words = submitted_words w.medium.words e c; rest = awake w.medium c };
          step = with_star n (decide_own n.tasks (begun p e) t x);
        }))
    unfolding decide_own
    began-once none =
        calm-once (record {
          medium = record w.medium { words = submitted_words w.medium.words e c; rest = awake w.medium c };
          step = with_star n (decide_own n.tasks (begun p e) t x);
        })
        (decide_own n.tasks (begun p e) t x).part refl (λ u h. h)
        (λ i u live h busy. (grows.keeps u).near i h)
        (λ i m u live_m live_u named h busy.
        named-from w.medium.words (submitted_words w.medium.words e c) i (grows.managed i) (at m) named)
        (λ u y i home h calm.
        stays-sent u y (choices.Send t) (replied replies.Sole) _
        (acted p a.star _ _ _ (any.began t x e asked none)) refl h.sent h.asks)
        (λ u k site live. goes-same w.medium.words w.medium.removed (λ z. ⊥) u (inbox w.medium u))
        (λ live. fewer-same (in_hands p (inbox w.medium c.0)))
        (λ u k ne site live. fewer-same (requests_in (inbox w.medium u)))

    -- ---- it goes to the manager
    module _ (to : SysId) (named : manager_at w.medium.words e ≡ Some to) (apart : (to.0 == c.0) ≡ false)
        (clear : noticed e (inbox w.medium c.0) ≡ false) where
      abbrev pub sends : Turnout
      sends = record {
        medium =
            record w.medium {
              words = submitted_words w.medium.words e c;
              inboxes = with_mail w.medium.inboxes to.0 (mails.Request e c (request_of t x));
              rest = awake w.medium c;
            };
        step = with_star n (fixing_none (with_phase n.tasks t phases.Sent) (with_interest p e true));
      }

      abbrev pub New : ℕ → Req → Type 0
      New m q = (m ≡ to.0) × (q ≡ request_of t x)

      -- the task is one of c, and stands there
      here : (is_task n.tasks t ≡ true) × (t.system.0 ≡ c.0)
      unfolding may_send
      here =
          let z = and_parts (is_task n.tasks t) _ asked.may in (
            z.0,
            sym (eqb-true n.tasks.system t.system.0
                (and_parts (n.tasks.system == t.system.0) (nat_lt t.task (length n.tasks.tasks)) z.0).0)
                ∙ home,
          )

      -- its system's inbox stays
      own-box : inbox_of (with_mail w.medium.inboxes to.0 (mails.Request e c (request_of t x))) c.0 ≡ inbox w.medium c.0
      own-box =
          posted-at w.medium.inboxes to.0 c.0 (mails.Request e c (request_of t x))
          (λ ms. ms ≡ inbox w.medium c.0) refl
          (λ same. no_truth (to.0 == c.0) (eq-eqb to.0 c.0 (sym same)) apart)

      -- no request of it was anywhere
      none-asked : (m : ℕ) (k : NodeState) (z : StarPart) → Site w m k → k.star ≡ Some z → (q : Req)
          → IsIn q (in_hands z (inbox w.medium m)) → same_place t q.task ≡ false
      none-asked m k z at_m star q among =
          false_by (same_place t q.task) (λ h.
          let both = place-is t q.task h in
          let home : q.task.system.0 ≡ c.0 = sym both.0 ∙ here.1 in
          let had = J.hands m k z q n at_m star among (subst (λ i. Site w i n) (sym home) a.site) in
          no_truth (has_sent n.tasks q.task) had.has.sent (to-send-none q.task t asked.may (sym both.1)))

      none-answered : list_any (is_answer_to t.task) (inbox w.medium c.0) ≡ false
      none-answered =
          false_by (list_any (is_answer_to t.task) (inbox w.medium c.0)) (λ h.
          let had = J.answers t n (subst (λ i. Site w i n) (sym here.1) a.site)
          (ap (λ i. list_any (is_answer_to t.task) (inbox w.medium i)) here.1 ∙ h) in
          no_truth (has_sent n.tasks t) had.has.sent (to-send-none t t asked.may refl))

      sent-now : has_sent (with_phase n.tasks t phases.Sent) t ≡ true
      unfolding with_phase
      sent-now =
          and_from (is_task (with_phase n.tasks t phases.Sent) t) _ (is_task-state n.tasks t t _ ∙ here.0)
          (ap (λ (y : TaskState). is_sent y.phase) (state_of-same n.tasks t _ here.0))

      -- an inbox then
      box-sent : (u : ℕ) →
          BoxGoes w.medium.words w.medium.removed (λ z. ⊥) u (inbox w.medium u)
          (inbox_of (with_mail w.medium.inboxes to.0 (mails.Request e c (request_of t x))) u)
      box-sent u =
          posted-at w.medium.inboxes to.0 u (mails.Request e c (request_of t x))
          (BoxGoes w.medium.words w.medium.removed (λ z. ⊥) u (inbox w.medium u))
          (goes-same w.medium.words w.medium.removed (λ z. ⊥) u (inbox w.medium u))
          (λ same.
          goes-more w.medium.words w.medium.removed (λ z. ⊥) u (inbox w.medium u)
          (mails.Request e c (request_of t x)) (λ place. refl) (λ i. refl))

      -- what comes into it
      abbrev pub Comes : ℕ → List Mail → Type 0
      Comes u ks =
          (requests_in ks ≡ requests_in (inbox w.medium u))
          ⊎ ((u ≡ to.0) × (requests_in ks ≡ requests_in (inbox w.medium u) ++ request_of t x ∷ []))

      comes : (u : ℕ) → Comes u (inbox_of (with_mail w.medium.inboxes to.0 (mails.Request e c (request_of t x))) u)
      comes u =
          posted-at w.medium.inboxes to.0 u (mails.Request e c (request_of t x)) (Comes u) (inl refl)
          (λ same. inr (same, requests-more (inbox w.medium u) (mails.Request e c (request_of t x))))

      hands-sent : (u : ℕ) (z : StarPart) (ks : List Mail) → Comes u ks → (q : Req) → IsIn q (in_hands z ks)
          → IsIn q (in_hands z (inbox w.medium u)) ⊎ New u q
      hands-sent u z ks (inl same) q h = inl (subst (λ qs. IsIn q (z.held ++ qs)) same h)
      hands-sent u z ks (inr more) q h =
          go (in-either q z.held (requests_in (inbox w.medium u) ++ request_of t x ∷ [])
          (subst (λ qs. IsIn q (z.held ++ qs)) more.1 h))
        where
          behind : IsIn q (requests_in (inbox w.medium u)) ⊎ IsIn q (request_of t x ∷ [])
              → IsIn q (in_hands z (inbox w.medium u)) ⊎ New u q
          behind (inl k) = inl (in-right q z.held (requests_in (inbox w.medium u)) k)
          behind (inr (inl k)) = inr (more.0, k)
          behind (inr (inr k)) = absurd k

          go : IsIn q z.held ⊎ IsIn q (requests_in (inbox w.medium u) ++ request_of t x ∷ [])
              → IsIn q (in_hands z (inbox w.medium u)) ⊎ New u q
          go (inl k) = inl (in-left q z.held (requests_in (inbox w.medium u)) k)
          go (inr k) = behind (in-either q (requests_in (inbox w.medium u)) (request_of t x ∷ []) k)

      single-sent : (u : ℕ) (k : NodeState) (z : StarPart) → Site w u k → k.star ≡ Some z → (ks : List Mail)
          → Comes u ks → (v : TaskId) → length (asked_by v (in_hands z ks)) ≤ 1
      single-sent u k z there star ks (inl same) v =
          subst (λ qs. length (asked_by v (z.held ++ qs)) ≤ 1) (sym same) (J.single u k z there star v)
      single-sent u k z there star ks (inr more) v =
          subst (λ qs. length (asked_by v (z.held ++ qs)) ≤ 1) (sym more.1) (go (same_place v t) refl)
        where
          whole : length (asked_by v (z.held ++ (requests_in (inbox w.medium u) ++ request_of t x ∷ [])))
              ≡ length (asked_by v (in_hands z (inbox w.medium u))) + length (asked_by v (request_of t x ∷ []))
          whole =
              ap (λ qs. length (asked_by v qs))
              (sym (append_assoc z.held (requests_in (inbox w.medium u)) (request_of t x ∷ [])))
              ∙ asked-both v (in_hands z (inbox w.medium u)) (request_of t x ∷ [])

          go : (b : Bool) → same_place v t ≡ b
              → length (asked_by v (z.held ++ (requests_in (inbox w.medium u) ++ request_of t x ∷ []))) ≤ 1
          go false off =
              let none : length (asked_by v (request_of t x ∷ [])) ≡ 0 =
              ap (λ b. length (cond b (request_of t x ∷ []) [])) off in
              let one = J.single u k z there star v in
              let all = whole in
              omega (arith, none, one, all)
          go true on =
              let places = place-is v t on in
              let none : length (asked_by v (in_hands z (inbox w.medium u))) ≡ 0 =
              asked-none v (in_hands z (inbox w.medium u)) (λ q among.
              false_by (same_place v q.task) (λ h.
              let b = place-is v q.task h in
              no_truth (same_place t q.task)
              (place-of t q.task (sym places.0 ∙ b.0) (sym places.1 ∙ b.1))
              (none-asked u k z there star q among))) in
              let one : length (asked_by v (request_of t x ∷ [])) ≡ 1 =
              ap (λ b. length (cond b (request_of t x ∷ []) [])) on in
              let all = whole in
              omega (arith, none, one, all)

      -- what is in the new hands
      new-sent : (m : ℕ) (q : Req) → New m q → (k : NodeState) → Site (world_then w c n sends) q.task.system.0 k →
          IsInHands deck (submitted_words w.medium.words e c) (at m) q k.tasks
          (inbox_of (with_mail w.medium.inboxes to.0 (mails.Request e c (request_of t x))) q.task.system.0)
      new-sent m q new k there_k =
          subst (λ (z : Req).
          Site (world_then w c n sends) z.task.system.0 k →
          IsInHands deck (submitted_words w.medium.words e c) (at m) z k.tasks
          (inbox_of (with_mail w.medium.inboxes to.0 (mails.Request e c (request_of t x))) z.task.system.0))
          (sym new.1) own there_k
        where
          node : Site (world_then w c n sends) t.system.0 k → k ≡ sends.step.node
          node at_k =
              same_Some k sends.step.node
              (sym at_k.at
              ∙ (ap (λ i. slice_get (nodes_then w c sends) i) here.1
              ∙ slice_get-set w.nodes c.0 n sends.step.node a.site.at))

          own : Site (world_then w c n sends) t.system.0 k →
              IsInHands deck (submitted_words w.medium.words e c) (at m) (request_of t x) k.tasks
              (inbox_of (with_mail w.medium.inboxes to.0 (mails.Request e c (request_of t x))) t.system.0)
          own at_k =
              subst (λ (y : NodeState).
              IsInHands deck (submitted_words w.medium.words e c) (at m) (request_of t x) y.tasks
              (inbox_of (with_mail w.medium.inboxes to.0 (mails.Request e c (request_of t x))) t.system.0))
              (sym (node at_k))
              (subst (λ (ms : List Mail).
              IsInHands deck (submitted_words w.medium.words e c) (at m) (request_of t x)
              (with_phase n.tasks t phases.Sent) ms)
              (sym (ap (inbox_of (with_mail w.medium.inboxes to.0 (mails.Request e c (request_of t x)))) here.1
              ∙ own-box))
              (record {
                asked = x;
                entry = e;
                has = record {
                  sent = sent-now;
                  asks = outstanding-phase n.tasks t phases.Sent here.0 ∙ asked.asks;
                  at = ap (λ i. entry_wanted i x.req.want) (sym a.sized.0) ∙ asked.entry;
                  near =
                      ap (is_interested (submitted_words w.medium.words e c) e) here.1
                      ∙ submit-near w.medium.words e c there low a.fit.managed;
                };
                same = refl;
                managed =
                    named-from w.medium.words (submitted_words w.medium.words e c) e (grows.managed e) (at m)
                    (named ∙ ap (λ i. Some (at i)) (sym new.0));
                unanswered = none-answered;
                unnoticed = clear;
              }))

      pub sent-once : AreOnce deck (world_then w c n (record {
        medium =
            record w.medium {
              words = submitted_words w.medium.words e c;
              inboxes = with_mail w.medium.inboxes to.0 (mails.Request e c (request_of t x));
              rest = awake w.medium c;
            };
        step = with_star n (fixing_none (with_phase n.tasks t phases.Sent) (with_interest p e true));
      }))
      sent-once =
          step-once deck w c n p sends (with_interest p e true) a.site a.star J New (λ z. ⊥) (record {
            now = refl;
            gone = λ u h. h;
            near = λ i u live h busy. (grows.keeps u).near i h;
            managed = λ i m u live_m live_u was h busy.
                named-from w.medium.words (submitted_words w.medium.words e c) i (grows.managed i) (at m) was;
            tasks = λ u y i home_u h calm.
                stays-sent u y (choices.Send t) (replied replies.Sent) sends
                (acted p a.star _ _ _ (any.sent t x e asked to named apart)) refl h.sent h.asks;
            boxes = λ u k there_u live. box-sent u;
            own_hands = λ live q h.
                hands-sent c.0 (with_interest p e true)
                (inbox_of (with_mail w.medium.inboxes to.0 (mails.Request e c (request_of t x))) c.0)
                (comes c.0) q h;
            hands = λ m k z ne there_m star live q h.
                hands-sent m z (inbox_of (with_mail w.medium.inboxes to.0 (mails.Request e c (request_of t x))) m)
                (comes m) q h;
            own_single = λ live v.
                single-sent c.0 n p a.site a.star
                (inbox_of (with_mail w.medium.inboxes to.0 (mails.Request e c (request_of t x))) c.0)
                (comes c.0) v;
            single = λ m k z ne there_m star live v.
                single-sent m k z there_m star
                (inbox_of (with_mail w.medium.inboxes to.0 (mails.Request e c (request_of t x))) m)
                (comes m) v;
            new_hand = new-sent;
            new_answer = λ z h k there_k. absurd h;
            own_apart = λ live q h y at_y new. new;
            apart = λ m k z ne there_m star live q h y at_y new. new;
          })

  -- ---- a request is settled
  module _ (q : Req) (first : first_held p ≡ Some q) where
    abbrev pub answer : Mail
    answer = mails.Answered q.task (answer_for p q) (rank_of p q)

    abbrev pub settles : Turnout
    settles = record {
      medium =
          record w.medium { inboxes = with_mail w.medium.inboxes q.task.system.0 answer; rest = awake w.medium c };
      step = with_star n (settled_first n.tasks p q);
    }

    abbrev pub NewAnswer : TaskId → Type 0
    NewAnswer t = same_place t q.task ≡ true

    -- it was in the hands of c
    was : IsIn q (in_hands p (inbox w.medium c.0))
    was = in-left q p.held (requests_in (inbox w.medium c.0)) (in-found (may_settle p) p.held q first)

    module _ (k : NodeState) (at_k : Site w q.task.system.0 k) where
      pub hand : IsInHands deck w.medium.words (at c.0) q k.tasks (inbox w.medium q.task.system.0)
      hand = J.hands c.0 n p q k a.site a.star was at_k

      -- no other of its task is in any hands
      other-hand : (m : ℕ) (y : NodeState) (z : StarPart) → m ≢ c.0 → Site w m y → y.star ≡ Some z → (r : Req)
          → IsIn r (in_hands z (inbox w.medium m)) → same_place r.task q.task ≡ true → ⊥
      other-hand m y z ne at_y star r among same =
          let places = place-is r.task q.task same in
          let h = J.hands m y z r k at_y star among (subst (λ i. Site w i k) (sym places.0) at_k) in
          let one : h.asked ≡ hand.asked =
          same_Some h.asked hand.asked
          (sym h.has.asks
          ∙ (ap (λ (x : TaskState). x.outstanding) (state-there k.tasks r.task q.task places.1) ∙ hand.has.asks)) in
          let entry : h.entry ≡ hand.entry =
          same_Some h.entry hand.entry
          (sym h.has.at ∙ (ap (λ (x : Asked). entry_wanted deck.entries x.req.want) one ∙ hand.has.at)) in
          ne (ap (λ (x : SysId). x.0) (same_Some (at m) (at c.0)
          (sym h.managed ∙ (ap (manager_at w.medium.words) entry ∙ hand.managed))))

    gone-held : (t : TaskId) → same_place t q.task ≡ true
        → length (asked_by t (besides_first (may_settle p) p.held ++ requests_in (inbox w.medium c.0))) ≡ 0
    gone-held t same =
        let less = asked-besides (may_settle p) p.held q first t same in
        let one = J.single c.0 n p a.site a.star t in
        let all = asked-both t p.held (requests_in (inbox w.medium c.0)) in
        let left = asked-both t (besides_first (may_settle p) p.held) (requests_in (inbox w.medium c.0)) in
        omega (arith, less, one, all, left)

    -- what comes is no request
    requests-settled : (u : ℕ)
        → requests_in (inbox_of (with_mail w.medium.inboxes q.task.system.0 answer) u) ≡ requests_in (inbox w.medium u)
    requests-settled u =
        posted-at w.medium.inboxes q.task.system.0 u answer
        (λ ks. requests_in ks ≡ requests_in (inbox w.medium u)) refl
        (λ same. requests-more (inbox w.medium u) answer ∙ append-nil (requests_in (inbox w.medium u)))

    pub box-settled : (u : ℕ) (k : NodeState) → Site w u k →
        BoxGoes w.medium.words w.medium.removed NewAnswer u (inbox w.medium u)
        (inbox_of (with_mail w.medium.inboxes q.task.system.0 answer) u)
    box-settled u k there_u =
        posted-at w.medium.inboxes q.task.system.0 u answer
        (BoxGoes w.medium.words w.medium.removed NewAnswer u (inbox w.medium u))
        (goes-same w.medium.words w.medium.removed NewAnswer u (inbox w.medium u))
        (λ same.
        goes-answer w.medium.words w.medium.removed NewAnswer u (inbox w.medium u) answer (λ e. refl)
        (λ t home_t is.
        let place : q.task.task ≡ t.task = eqb-true q.task.task t.task is in
        let at_k : Site w q.task.system.0 k = subst (λ i. Site w i k) same there_u in (
          place-of t q.task (home_t ∙ same) (sym place),
          ap (λ i. list_any (is_answer_to i) (inbox w.medium u)) (sym place)
              ∙ (ap (λ i. list_any (is_answer_to q.task.task) (inbox w.medium i)) same ∙ (hand k at_k).unanswered),
        )))

    -- the answer is to what its task has sent
    module _ (t : TaskId) (new : same_place t q.task ≡ true) where
      abbrev pub Answer : NodeState → Type 0
      Answer y =
          IsAnswered deck w.medium.words t y.tasks
          (inbox_of
          (with_mail w.medium.inboxes q.task.system.0 (mails.Answered q.task (answer_for p q) (rank_of p q)))
          t.system.0)

      places : (t.system.0 ≡ q.task.system.0) × (t.task ≡ q.task.task)
      places = place-is t q.task new

      boxes-there : (y : NodeState) → Site w q.task.system.0 y → q.task.system.0 < length w.medium.inboxes
      boxes-there y at_y =
          let within = slice_get_within w.nodes q.task.system.0 y at_y.at in
          let count = a.count in
          let boxes = a.fit.boxes in
          omega (arith, within, count, boxes)

      once : (y : NodeState) (at_y : Site w q.task.system.0 y)
          → is_answered_once (hand y at_y).entry t.task
          (inbox_of (with_mail w.medium.inboxes q.task.system.0 answer) t.system.0) ≡ true
      once y at_y =
          ap (is_answered_once (hand y at_y).entry t.task)
          (ap (inbox_of (with_mail w.medium.inboxes q.task.system.0 answer)) places.0
          ∙ its-box w.medium.inboxes q.task.system.0 answer (boxes-there y at_y))
          ∙ once-last (hand y at_y).entry t.task (inbox w.medium q.task.system.0) answer
          (eq-eqb q.task.task t.task (sym places.1))
          (ap (λ i. list_any (is_answer_to i) (inbox w.medium q.task.system.0)) places.1 ∙ (hand y at_y).unanswered)
          (hand y at_y).unnoticed

      made : (y z : NodeState) (at_y : Site w q.task.system.0 y) → has_sent z.tasks t ≡ true
          → (state_of z.tasks t).outstanding ≡ Some (hand y at_y).asked → Answer z
      made y z at_y sent asks = record {
        asked = (hand y at_y).asked;
        entry = (hand y at_y).entry;
        has = record {
          sent = sent;
          asks = asks;
          at = (hand y at_y).has.at;
          near = ap (is_interested w.medium.words (hand y at_y).entry) places.0 ∙ (hand y at_y).has.near;
        };
        once = once y at_y;
      }

      -- the same place of its system
      was-sent : (y : NodeState) (at_y : Site w q.task.system.0 y)
          → (has_sent y.tasks t ≡ true) × ((state_of y.tasks t).outstanding ≡ Some (hand y at_y).asked)
      was-sent y at_y =
          let same : state_of y.tasks t ≡ state_of y.tasks q.task = state-there y.tasks t q.task places.1 in
          let both =
          and_parts (is_task y.tasks q.task) (is_sent (state_of y.tasks q.task).phase) (hand y at_y).has.sent in (
            and_from (is_task y.tasks t) (is_sent (state_of y.tasks t).phase)
                (ap (λ i. (y.tasks.system == i) && nat_lt t.task (length y.tasks.tasks)) places.0
                ∙ (ap (λ i. (y.tasks.system == q.task.system.0) && nat_lt i (length y.tasks.tasks)) places.1
                ∙ both.0))
                (ap (λ (x : TaskState). is_sent x.phase) same ∙ both.1),
            ap (λ (x : TaskState). x.outstanding) same ∙ (hand y at_y).has.asks,
          )

      asks-own : t.system.0 ≡ c.0 → (at_n : Site w q.task.system.0 n)
          → (state_of settles.step.node.tasks t).outstanding ≡ Some (hand n at_n).asked
      asks-own same at_n =
          let h = was-sent n at_n in
          (stays-sent t (hand n at_n).asked choices.Settle (replied replies.Settled) settles
          (acted p a.star _ _ _ (any.settled q first)) refl h.0 h.1).1

      -- it asks for what was settled
      pub asks-then : (k : NodeState) → Site (world_then w c n settles) t.system.0 k → (x : Asked)
          → (state_of k.tasks t).outstanding ≡ Some x → x.req.want ≡ q.want
      asks-then k there_k x asks =
          each_site w c n a.site settles (λ u live. live)
          (λ u y. t.system.0 ≡ u → (state_of y.tasks t).outstanding ≡ Some x → x.req.want ≡ q.want)
          (λ same h.
          let at_n : Site w q.task.system.0 n = subst (λ i. Site w i n) (sym same ∙ places.0) a.site in
          ap (λ (y : Asked). y.req.want) (same_Some x (hand n at_n).asked (sym h ∙ asks-own same at_n))
          ∙ (hand n at_n).same)
          (λ u y ne at_u same h.
          let at_y : Site w q.task.system.0 y = subst (λ i. Site w i y) (sym same ∙ places.0) at_u in
          ap (λ (z : Asked). z.req.want) (same_Some x (hand y at_y).asked (sym h ∙ (was-sent y at_y).1))
          ∙ (hand y at_y).same)
          t.system.0 k there_k refl asks

      own-answered : t.system.0 ≡ c.0 → Answer settles.step.node
      own-answered same =
          let at_n : Site w q.task.system.0 n = subst (λ i. Site w i n) (sym same ∙ places.0) a.site in
          let h = was-sent n at_n in
          let z =
          stays-sent t (hand n at_n).asked choices.Settle (replied replies.Settled) settles
          (acted p a.star _ _ _ (any.settled q first)) refl h.0 h.1 in
          made n settles.step.node at_n z.0 z.1

      other-answered : (u : ℕ) (y : NodeState) → u ≢ c.0 → Site w u y → t.system.0 ≡ u → Answer y
      other-answered u y ne at_u same =
          let at_y : Site w q.task.system.0 y = subst (λ i. Site w i y) (sym same ∙ places.0) at_u in
          let h = was-sent y at_y in
          made y y at_y h.0 h.1

      new-answered : (k : NodeState) → Site (world_then w c n settles) t.system.0 k → Answer k
      new-answered k there_k =
          each_site w c n a.site settles (λ u live. live) (λ u y. t.system.0 ≡ u → Answer y) own-answered
          (λ u y ne at_y same. other-answered u y ne at_y same) t.system.0 k there_k refl

    pub settled-once : AreOnce deck (world_then w c n (record {
      medium =
          record w.medium {
            inboxes =
                with_mail w.medium.inboxes q.task.system.0 (mails.Answered q.task (answer_for p q) (rank_of p q));
            rest = awake w.medium c;
          };
      step = with_star n (settled_first n.tasks p q);
    }))
    settled-once =
        step-once deck w c n p settles (settled_first n.tasks p q).part a.site a.star J (λ m r. ⊥)
        (λ t. same_place t q.task ≡ true) (record {
          now = refl;
          gone = λ u h. h;
          near = λ e u live h busy. h;
          managed = λ e m u live_m live_u named h busy. named;
          tasks = λ t x e home_t h calm.
              stays-sent t x choices.Settle (replied replies.Settled) settles
              (acted p a.star _ _ _ (any.settled q first)) refl h.sent h.asks;
          boxes = λ u k there_u live. box-settled u k there_u;
          own_hands = λ live r h. inl ((fewer-now live).among r h);
          hands = λ m k z ne there_m star live r h.
              inl (subst (λ qs. IsIn r (z.held ++ qs)) (requests-settled m) h);
          own_single = λ live t.
              let few = (fewer-now live).count t in
              let one = J.single c.0 n p a.site a.star t in
              omega (arith, few, one);
          single = λ m k z ne there_m star live t.
              subst (λ qs. length (asked_by t (z.held ++ qs)) ≤ 1) (sym (requests-settled m))
              (J.single m k z there_m star t);
          new_hand = λ m r h k there_k. absurd h;
          new_answer = new-answered;
          own_apart = λ live r h y at_y new. own-gone r h new;
          apart = λ m k z ne there_m star live r h y at_y new. elsewhere m k z ne there_m star r h y at_y new;
        })
      where
        fewer-now : has w.medium.removed c.0 ≡ false
            → Fewer (in_hands p (inbox w.medium c.0))
            (in_hands (settled_first n.tasks p q).part
            (inbox_of (with_mail w.medium.inboxes q.task.system.0 answer) c.0))
        fewer-now live =
            subst (λ qs. Fewer (in_hands p (inbox w.medium c.0)) (besides_first (may_settle p) p.held ++ qs))
            (sym (requests-settled c.0))
            (fewer-append p.held (besides_first (may_settle p) p.held) (requests_in (inbox w.medium c.0))
            (requests_in (inbox w.medium c.0)) (fewer-besides (may_settle p) p.held)
            (fewer-same (requests_in (inbox w.medium c.0))))

        own-gone : (r : Req)
            → IsIn r (in_hands (settled_first n.tasks p q).part
            (inbox_of (with_mail w.medium.inboxes q.task.system.0 answer) c.0))
            → same_place r.task q.task ≡ true → ⊥
        own-gone r h new =
            let none = gone-held r.task new in
            let some =
            asked-some r.task (besides_first (may_settle p) p.held ++ requests_in (inbox w.medium c.0)) r
            (subst (λ qs. IsIn r (besides_first (may_settle p) p.held ++ qs)) (requests-settled c.0) h)
            (place-of r.task r.task refl refl) in
            absurd (omega (arith, none, some))

        elsewhere : (m : ℕ) (k : NodeState) (z : StarPart) → m ≢ c.0 → Site w m k → k.star ≡ Some z → (r : Req)
            → IsIn r (in_hands z (inbox_of (with_mail w.medium.inboxes q.task.system.0 answer) m)) → (y : NodeState)
            → Site w r.task.system.0 y → same_place r.task q.task ≡ true → ⊥
        elsewhere m k z ne there_m star r h y at_y new =
            other-hand y (subst (λ i. Site w i y) (place-is r.task q.task new).0 at_y) m k z ne there_m star r
            (subst (λ qs. IsIn r (z.held ++ qs)) (requests-settled m) h) new

  -- ---- an owner is told, and a part sent
  pub told-once : (e : ℕ) (x : TaskId × Res) → to_tell p e ≡ Some x →
      AreOnce deck (world_then w c n (record {
        medium =
            record w.medium {
              inboxes = with_mail w.medium.inboxes x.0.system.0 (mails.Granted x.0 x.1);
              rest = awake w.medium c;
            };
        step = with_star n (fixing_none n.tasks (told_by p (Some x)));
      }))
  told-once e x first =
      posted-once (record {
        medium =
            record w.medium {
              inboxes = with_mail w.medium.inboxes x.0.system.0 (mails.Granted x.0 x.1);
              rest = awake w.medium c;
            };
        step = with_star n (fixing_none n.tasks (told_by p (Some x)));
      })
      (told_by p (Some x)) refl refl refl x.0.system.0 (mails.Granted x.0 x.1) refl refl (λ place. refl) (λ i. refl)
      (λ t y sent asks. (sent, asks)) (fewer-same p.held)

  pub parted-once : (e : ℕ) (to : SysId) (recs : List PartRec) →
      AreOnce deck (world_then w c n (record {
        medium =
            record w.medium {
              inboxes = with_mail w.medium.inboxes to.0 (mails.Part e p.manager.system recs);
              rest = awake w.medium c;
            };
        step = with_star n (fixing_none n.tasks (record p { owes = owing p.owes e None }));
      }))
  parted-once e to recs =
      posted-once (record {
        medium =
            record w.medium {
              inboxes = with_mail w.medium.inboxes to.0 (mails.Part e p.manager.system recs);
              rest = awake w.medium c;
            };
        step = with_star n (fixing_none n.tasks (record p { owes = owing p.owes e None }));
      })
      (record p { owes = owing p.owes e None }) refl refl refl to.0 (mails.Part e p.manager.system recs) refl refl
      (λ place. refl) (λ i. refl) (λ t y sent asks. (sent, asks)) (fewer-same p.held)

  -- ---- an entry is left
  module _ (x flags : ℕ) (may : may_leave p n.tasks x ≡ true)
      (is : leave_reply (word_at w.medium.words x) c ≡ replies.Left) where
    leaves : x < length w.medium.words
    leaves =
        let count = a.sized.1 in
        let here : x < length p.interest = interest-within p x (and_parts (has_interest p x) _ may).0 in
        let words = a.fit.words in
        omega (arith, here, count, words)

    -- in which no task of its own asks for anything
    unasked : (t : TaskId) → is_task n.tasks t ≡ true → is_busy_in p x (state_of n.tasks t) ≡ false
    unfolding state_of
    unasked t here =
        none-at (is_busy_in p x) n.tasks.tasks t.task new_task (is_task-place n.tasks t here)
        (not-true (list_any (is_busy_in p x) n.tasks.tasks) (and_parts _ _ (and_parts (has_interest p x) _ may).1).0)

    free : (e : ℕ) → Busy deck n e → (e == x) ≡ false
    free e busy =
        let t = busy.task in
        let both = and_parts (is_task n.tasks t) (is_sent (state_of n.tasks t).phase) busy.sent in
        let off =
        (or_parts _ (asks_in p x (state_of n.tasks t).outstanding) (unasked t both.0)).1 in
        false_by (e == x) (λ same.
        no_truth (asks_in p x (state_of n.tasks t).outstanding)
        (ap (asks_in p x) busy.asks
        ∙ (ap (is_entry x) (ap (λ i. entry_wanted i busy.asked.req.want) a.sized.0 ∙ busy.at)
        ∙ eq-eqb e x (eqb-true e x same)))
        off)

    near-left : (e u : ℕ) → is_interested w.medium.words e u ≡ true → (u ≡ c.0 → Busy deck n e)
        → is_interested (left_words w.medium.words x c) e u ≡ true
    near-left e u near busy = go (u == c.0) refl
      where
        go : (b : Bool) → (u == c.0) ≡ b → is_interested (left_words w.medium.words x c) e u ≡ true
        go true same =
            other-entry w.medium.words x c leaves a.fit.managed is e u (free e (busy (eqb-true u c.0 same))) ∙ near
        go false other = other-system w.medium.words x c leaves a.fit.managed is e u other ∙ near

    managed-left : (e m u : ℕ) → manager_at w.medium.words e ≡ Some (at m) → is_interested w.medium.words e u ≡ true
        → (u ≡ c.0 → Busy deck n e) → manager_at (left_words w.medium.words x c) e ≡ Some (at m)
    managed-left e m u named near busy = go (u == c.0) refl
      where
        go : (b : Bool) → (u == c.0) ≡ b → manager_at (left_words w.medium.words x c) e ≡ Some (at m)
        go true same =
            other-manager w.medium.words x c leaves a.fit.managed is e (free e (busy (eqb-true u c.0 same))) ∙ named
        go false other =
            stays-with w.medium.words x c leaves a.fit.managed is e u (eqb-false u c.0 other) near ∙ named

    pub left-once : AreOnce deck (world_then w c n (record {
      medium = record w.medium { words = left_words w.medium.words x c; rest = flags };
      step = with_star n (fixing_none n.tasks (left_at p x));
    }))
    left-once =
        calm-once (record {
          medium = record w.medium { words = left_words w.medium.words x c; rest = flags };
          step = with_star n (fixing_none n.tasks (left_at p x));
        })
        (left_at p x) refl (λ u h. h) (λ e u live near busy. near-left e u near busy)
        (λ e m u live_m live_u named near busy. managed-left e m u named near busy)
        (λ t y e home_t h calm. (h.sent, h.asks))
        (λ u k there_u live. goes-same w.medium.words w.medium.removed (λ t. ⊥) u (inbox w.medium u))
        (λ live. fewer-same (in_hands p (inbox w.medium c.0)))
        (λ u k ne there_u live. fewer-same (requests_in (inbox w.medium u)))
