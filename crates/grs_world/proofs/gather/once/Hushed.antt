-- What each event leaves of the order of answers and notices.
use Rattle.grs_world.proofs.Common.{[], ◌&&◌, ◌++◌, ◌<◌, ◌==◌, ◌||◌, ◌∙◌, ◌∷◌, ◌≡◌, ◌≢◌, ◌⊎◌, after_request, and_parts}
use Rattle.grs_world.proofs.Common.{answer_for, ap, arith, Asked, awake, begun, Bool, Choice, cond, decide_own, Deck}
use Rattle.grs_world.proofs.Common.{desk_told, entry_for, eq-eqb, eqb-false, eqb-true, false, false_by, first_held}
use Rattle.grs_world.proofs.Common.{fixing_none, gathers, has, has-zero, has_interest, inbox, inbox_of, inl, inr}
use Rattle.grs_world.proofs.Common.{interest, is_interested, is_manager, is_some, known_from, leave_reply, left_at}
use Rattle.grs_world.proofs.Common.{left_words, length, lines_of, List, list_any, list_any-append, lose_all, losing}
use Rattle.grs_world.proofs.Common.{losing_in, Mail, manager, manager_at, manages, members, most_systems, Moved}
use Rattle.grs_world.proofs.Common.{names_of, no_truth, NodeState, None, not-true, noticed, only, Option, or_left}
use Rattle.grs_world.proofs.Common.{or_other, or_right, owing, PartRec, purged, rank_of, refl, Req, request_of, Res}
use Rattle.grs_world.proofs.Common.{Said, same_Some, slice_get_within, Some, stale, standing, StarPart, state_of}
use Rattle.grs_world.proofs.Common.{stays-task, submitted_words, subst, sym, SysId, systems_of, take_mail, TaskId, true}
use Rattle.grs_world.proofs.Common.{Turnout, VaryDone, with_also, with_interest, with_mail, with_phase, with_star}
use Rattle.grs_world.proofs.Common.{without_first, without_in_star, without_those, word_at, World, ℕ}
use Rattle.std.specs.Prelude.{find}
use Rattle.contention_mgr.specs.Manager.{entry_wanted}
use Rattle.grs_medium.proofs.Removals.{moved-at, told-where, told_to}
use Rattle.grs_medium.specs.Apply.{is_live}
use Rattle.grs_medium.specs.Inboxes.{notices_to}
use Rattle.grs_node.specs.Node.{next_order}
use Rattle.grs_node.specs.Star.{gathers_asked, may_leave, may_settle, settled_first, told_by}
use Rattle.grs_wire.specs.Notices.{names}
use Rattle.lock_structure.proofs.LawProofs.{leave_manages}
use Rattle.lock_structure.specs.Laws.{ManagedBy}
use Rattle.star_client.specs.Client.{has_sent}
use Rattle.grs_world.proofs.gather.InBoxes.{also-more, manager-others, named-from, noticed-more}
use Rattle.grs_world.proofs.gather.once.Acts.{asks-then, box-settled, hand, place-is, posted-at, settles, stays-sent}
use Rattle.grs_world.proofs.gather.once.Boxes.{answers-more, once-later}
use Rattle.grs_world.proofs.gather.once.Lists.{in-found}
use Rattle.grs_world.proofs.gather.once.Ready.{AreReady}
use Rattle.grs_world.proofs.gather.once.Removes.{apart, box-removed, box-then, near-within, own-star, within}
use Rattle.grs_world.proofs.gather.once.Silent.{AreSilent, IsOpen, lost-manages, silent-then, take-manages}
use Rattle.grs_world.proofs.gather.once.Step.{AreOnce}
use Rattle.grs_world.proofs.gather.once.Takes.{box-now, box-taken, box-was, clear, tasks-taken, took}
use Rattle.grs_world.proofs.gather.way.Acting.{Acting}
use Rattle.grs_world.proofs.gather.way.Entry.{at, IsEntry, IsNamed}
use Rattle.grs_world.proofs.gather.way.Boxes.{noticed-some}
use Rattle.grs_world.proofs.gather.way.Managing.{begun-other, begun-same, left-other, request-manages, telling-manages}
use Rattle.grs_world.proofs.gather.way.Scene.{entry_in, stance-is}
use Rattle.grs_world.proofs.run.Came.{acted, Acts, Came, IsToSend, no_part, replied, Result}
use Rattle.grs_world.proofs.run.Placed.{world_then}
use Rattle.grs_world.proofs.run.Site.{each_site, Site}
use Rattle.grs_world.proofs.star.Boxes.{untaken-box}
use Rattle.grs_world.proofs.star.Roles.{interest-within, want-within}
use Rattle.grs_world.proofs.star.Sending.{submit-grows, WordsGrow}
use Rattle.grs_world.specs.InHands.{HasSent, is_answer_to, is_answered_once, same_place}
use Rattle.grs_world.specs.OnTheWay.{stance_of}
use Rattle.grs_world.proofs.run.Came as cases
use Rattle.grs_wire.specs.declared.deck.Choice.TheVariants as choices
use Rattle.grs_wire.specs.declared.deck.Order.TheVariants as orders
use Rattle.grs_wire.specs.declared.medium.Mail.TheVariants as mails
use Rattle.grs_wire.specs.declared.medium.Reply.TheVariants as replies
use Rattle.grs_wire.specs.declared.told.Said.TheVariants as saids
use Rattle.task_state.specs.declared.state.Phase.TheVariants as phases

module _ (deck : Deck) (some : 0 < deck.entries) (w : World) (c : SysId) (n : NodeState) (p : StarPart)
    (a : Acting deck w c n p) (home : n.tasks.system ≡ c.0) (J : AreOnce deck w) (G : AreReady deck w)
    (E : (e : ℕ) → e < deck.entries → IsEntry (entry_in w e)) (S : AreSilent deck w) where
  -- where a system has interest, somebody manages
  manager-near : (e u : ℕ) → is_interested w.medium.words e u ≡ true
      → (m : SysId) × (manager_at w.medium.words e ≡ Some m)
  manager-near e u near = go (manager_at w.medium.words e) refl managed
    where
      managed : ManagedBy (manager_at w.medium.words e) (interest (word_at w.medium.words e))
      managed = a.fit.managed e 0 (near-within w.medium.words e u near)

      go : (o : Option SysId) → manager_at w.medium.words e ≡ o
          → ManagedBy (manager_at w.medium.words e) (interest (word_at w.medium.words e))
          → (m : SysId) × (manager_at w.medium.words e ≡ Some m)
      go (Some m) is h = (m, is)
      go None is h =
          no_truth (is_interested w.medium.words e u) near
          (ap (λ i. has i u) (subst (λ o. ManagedBy o (interest (word_at w.medium.words e))) is h) ∙ has-zero u)

  -- ---- nobody is removed
  module _ (o : Turnout) (r : StarPart) (now : o.step.node.star ≡ Some r)
      (removed : o.medium.removed ≡ w.medium.removed)
      (back : (e u m : ℕ) → is_interested w.medium.words e u ≡ true → manager_at o.medium.words e ≡ Some (at m)
      → manager_at w.medium.words e ≡ Some (at m))
      (mine : (e : ℕ) → manager_at o.medium.words e ≡ Some (at c.0) → manages p e ≡ true → manages r e ≡ true)
      (tasks : (t : TaskId) (x : Asked) → has_sent n.tasks t ≡ true → (state_of n.tasks t).outstanding ≡ Some x
      → (state_of o.step.node.tasks t).outstanding ≡ Some x) where
    live-was : (u : ℕ) → has o.medium.removed u ≡ false → has w.medium.removed u ≡ false
    live-was u live = sym (ap (λ i. has i u) removed) ∙ live

    -- the mail stays
    still-silent : o.medium.inboxes ≡ w.medium.inboxes → AreSilent deck (world_then w c n o)
    still-silent inboxes =
        silent-then deck w c n p a.site a.star J S o r now live-was (λ t. ⊥)
        (λ e u m k at_k live near named. inl (back e u m near named)) mine
        (λ t k at_k live any.
        inl (sym (ap (λ bs. list_any (is_answer_to t.task) (inbox_of bs t.system.0)) inboxes) ∙ any))
        (λ t k at_k live e once any told. ap (λ bs. noticed e (inbox_of bs t.system.0)) inboxes ∙ told)
        (λ t x e home_t h once any. tasks t x h.sent h.asks) (λ t k x e fresh there h opened. fresh)

    -- a mail comes that is neither an answer nor a notice
    posted-silent : (to : ℕ) (y : Mail) → o.medium.inboxes ≡ with_mail w.medium.inboxes to y
        → ((place : ℕ) → is_answer_to place y ≡ false) → ((e : ℕ) → names e y ≡ false)
        → AreSilent deck (world_then w c n o)
    posted-silent to y inboxes answers away =
        silent-then deck w c n p a.site a.star J S o r now live-was (λ t. ⊥)
        (λ e u m k at_k live near named. inl (back e u m near named)) mine
        (λ t k at_k live any. inl (answer t any))
        (λ t k at_k live e once any told. more t.system.0 e told)
        (λ t x e home_t h once any. tasks t x h.sent h.asks) (λ t k x e fresh there h opened. fresh)
      where
        answer : (t : TaskId) → list_any (is_answer_to t.task) (inbox o.medium t.system.0) ≡ true
            → list_any (is_answer_to t.task) (inbox w.medium t.system.0) ≡ true
        answer t any =
            posted-at w.medium.inboxes to t.system.0 y
            (λ ms. list_any (is_answer_to t.task) ms ≡ true
            → list_any (is_answer_to t.task) (inbox w.medium t.system.0) ≡ true)
            (λ h. h)
            (λ here h. sym (answers-more t.task (inbox w.medium t.system.0) y (answers t.task)) ∙ h)
            (sym (ap (λ bs. list_any (is_answer_to t.task) (inbox_of bs t.system.0)) inboxes) ∙ any)

        more : (u e : ℕ) → noticed e (inbox w.medium u) ≡ true → noticed e (inbox o.medium u) ≡ true
        more u e told =
            ap (λ bs. noticed e (inbox_of bs u)) inboxes
            ∙ posted-at w.medium.inboxes to u y (λ ms. noticed e ms ≡ true) told
            (λ here. noticed-more e (inbox w.medium u) y (away e) ∙ told)

  -- ---- a request of its own
  module _ (t : TaskId) (x : Asked) (e : ℕ) (asked : IsToSend deck n p t x e) where
    begun-stays : (i : ℕ) → manages p i ≡ true → manages (begun p e) i ≡ true
    begun-stays i h = go (i == e) refl
      where
        go : (b : Bool) → (i == e) ≡ b → manages (begun p e) i ≡ true
        go true same = begun-same p e (ap (manages p) (sym (eqb-true i e same)) ∙ h) i ∙ h
        go false other = begun-other p e i (eqb-false i e other) ∙ h

    own-manages : (i : ℕ) → manages p i ≡ true
        → manages (record (begun p e) { manager = after_request (begun p e).manager t x.req.want }) i ≡ true
    own-manages i h = request-manages (begun p e).manager t x.req.want i ∙ begun-stays i h

    inside : e < length w.medium.words
    inside =
        let count = a.sized.0 in
        let words = a.fit.words in
        let here : e < length p.manager.entries =
        want-within (length p.manager.entries) x.req.want e (omega (arith, some, count)) asked.entry in
        omega (arith, here, count, words)

    low : c.0 < most_systems
    low =
        let below = slice_get_within w.nodes c.0 n a.site.at in
        let count = a.count in
        let few = a.few in
        omega (arith, below, count, few)

    grows : WordsGrow w.medium.words (submitted_words w.medium.words e c)
    grows = submit-grows w.medium.words e c inside low a.fit.managed

    back-grown : (i u m : ℕ) → is_interested w.medium.words i u ≡ true
        → manager_at (submitted_words w.medium.words e c) i ≡ Some (at m) → manager_at w.medium.words i ≡ Some (at m)
    back-grown i u m near named =
        let k = manager-near i u near in
        let after =
        named-from w.medium.words (submitted_words w.medium.words e c) i (grows.managed i) k.0 k.1 in
        k.1 ∙ (sym after ∙ named)

    pub decided-silent : (to : SysId) → manager_at w.medium.words e ≡ Some to → (to.0 == c.0) ≡ true →
        AreSilent deck
        (world_then w c n (record { medium = w.medium; step = with_star n (decide_own n.tasks (begun p e) t x) }))
    unfolding decide_own
    decided-silent to named same =
        still-silent (record { medium = w.medium; step = with_star n (decide_own n.tasks (begun p e) t x) })
        (decide_own n.tasks (begun p e) t x).part refl refl (λ i u m near was. was) (λ i was h. own-manages i h)
        (λ u y sent asks.
        (stays-sent deck some w c n p a home J u y (choices.Send t) (replied replies.Sole) _
        (acted p a.star _ _ _ (cases.decided t x e asked to named same)) refl sent asks).1)
        refl

    pub began-silent : manager_at w.medium.words e ≡ None →
        AreSilent deck (world_then w c n (record {
          medium = record w.medium { words = submitted_words w.medium.words e c; rest = awake w.medium c };
          step = with_star n (decide_own n.tasks (begun p e) t x);
        }))
    unfolding decide_own
    began-silent none =
        still-silent (record {
          medium = record w.medium { words = submitted_words w.medium.words e c; rest = awake w.medium c };
          step = with_star n (decide_own n.tasks (begun p e) t x);
        })
        (decide_own n.tasks (begun p e) t x).part refl refl back-grown (λ i was h. own-manages i h)
        (λ u y sent asks.
        (stays-sent deck some w c n p a home J u y (choices.Send t) (replied replies.Sole) _
        (acted p a.star _ _ _ (cases.began t x e asked none)) refl sent asks).1)
        refl

    pub sent-silent : (to : SysId) → manager_at w.medium.words e ≡ Some to → (to.0 == c.0) ≡ false →
        AreSilent deck (world_then w c n (record {
          medium =
              record w.medium {
                words = submitted_words w.medium.words e c;
                inboxes = with_mail w.medium.inboxes to.0 (mails.Request e c (request_of t x));
                rest = awake w.medium c;
              };
          step = with_star n (fixing_none (with_phase n.tasks t phases.Sent) (with_interest p e true));
        }))
    sent-silent to named apart_to =
        posted-silent (record {
          medium =
              record w.medium {
                words = submitted_words w.medium.words e c;
                inboxes = with_mail w.medium.inboxes to.0 (mails.Request e c (request_of t x));
                rest = awake w.medium c;
              };
          step = with_star n (fixing_none (with_phase n.tasks t phases.Sent) (with_interest p e true));
        })
        (with_interest p e true) refl refl back-grown (λ i was h. h)
        (λ u y sent asks.
        (stays-sent deck some w c n p a home J u y (choices.Send t) (replied replies.Sent) _
        (acted p a.star _ _ _ (cases.sent t x e asked to named apart_to)) refl sent asks).1)
        to.0 (mails.Request e c (request_of t x)) refl (λ place. refl) (λ i. refl)

  -- ---- an owner is told, a part sent, an entry left
  pub told-silent : (e : ℕ) (x : TaskId × Res) →
      AreSilent deck (world_then w c n (record {
        medium =
            record w.medium {
              inboxes = with_mail w.medium.inboxes x.0.system.0 (mails.Granted x.0 x.1);
              rest = awake w.medium c;
            };
        step = with_star n (fixing_none n.tasks (told_by p (Some x)));
      }))
  told-silent e x =
      posted-silent (record {
        medium =
            record w.medium {
              inboxes = with_mail w.medium.inboxes x.0.system.0 (mails.Granted x.0 x.1);
              rest = awake w.medium c;
            };
        step = with_star n (fixing_none n.tasks (told_by p (Some x)));
      })
      (told_by p (Some x)) refl refl (λ i u m near was. was)
      (λ i was h. telling-manages p.manager x.0 x.1 i ∙ h) (λ u y sent asks. asks) x.0.system.0 (mails.Granted x.0 x.1)
      refl (λ place. refl) (λ i. refl)

  pub parted-silent : (e : ℕ) (to : SysId) (recs : List PartRec) →
      AreSilent deck (world_then w c n (record {
        medium =
            record w.medium {
              inboxes = with_mail w.medium.inboxes to.0 (mails.Part e p.manager.system recs);
              rest = awake w.medium c;
            };
        step = with_star n (fixing_none n.tasks (record p { owes = owing p.owes e None }));
      }))
  parted-silent e to recs =
      posted-silent (record {
        medium =
            record w.medium {
              inboxes = with_mail w.medium.inboxes to.0 (mails.Part e p.manager.system recs);
              rest = awake w.medium c;
            };
        step = with_star n (fixing_none n.tasks (record p { owes = owing p.owes e None }));
      })
      (record p { owes = owing p.owes e None }) refl refl (λ i u m near was. was) (λ i was h. h)
      (λ u y sent asks. asks) to.0 (mails.Part e p.manager.system recs) refl (λ place. refl) (λ i. refl)

  module _ (x flags : ℕ) (may : may_leave p n.tasks x ≡ true)
      (is : leave_reply (word_at w.medium.words x) c ≡ replies.Left) where
    leaves : x < length w.medium.words
    leaves =
        let count = a.sized.1 in
        let here : x < length p.interest = interest-within p x (and_parts (has_interest p x) _ may).0 in
        let words = a.fit.words in
        omega (arith, here, count, words)

    -- who manages then did before, and it isn't the one that left
    left-back : (e m : ℕ) → manager_at (left_words w.medium.words x c) e ≡ Some (at m)
        → (((e == x) && is_manager (manager_at w.medium.words e) c) ≡ false)
        × (manager_at w.medium.words e ≡ Some (at m))
    left-back e m named =
        go ((e == x) && is_manager (manager_at w.medium.words e) c) refl
        (sym (leave_manages w.medium.words x c leaves a.fit.managed is e) ∙ named)
      where
        go : (b : Bool) → ((e == x) && is_manager (manager_at w.medium.words e) c) ≡ b
            → cond b None (manager_at w.medium.words e) ≡ Some (at m)
            → (((e == x) && is_manager (manager_at w.medium.words e) c) ≡ false)
            × (manager_at w.medium.words e ≡ Some (at m))
        go true on h = absurd (cc)
        go false off h = (off, h)

    left-mine : (e : ℕ) → manager_at (left_words w.medium.words x c) e ≡ Some (at c.0) → manages p e ≡ true
        → manages (left_at p x) e ≡ true
    left-mine e named h = go (e == x) refl (left-back e c.0 named)
      where
        go : (b : Bool) → (e == x) ≡ b
            → (((e == x) && is_manager (manager_at w.medium.words e) c) ≡ false)
            × (manager_at w.medium.words e ≡ Some (at c.0))
            → manages (left_at p x) e ≡ true
        go false other z = left-other p x e (eqb-false e x other) ∙ h
        go true same z =
            no_truth ((e == x) && is_manager (manager_at w.medium.words e) c)
            (ap (λ b. b && is_manager (manager_at w.medium.words e) c) same
            ∙ (ap (λ o. is_manager o c) z.1 ∙ eq-eqb c.0 c.0 refl))
            z.0

    pub left-silent : AreSilent deck (world_then w c n (record {
      medium = record w.medium { words = left_words w.medium.words x c; rest = flags };
      step = with_star n (fixing_none n.tasks (left_at p x));
    }))
    left-silent =
        still-silent (record {
          medium = record w.medium { words = left_words w.medium.words x c; rest = flags };
          step = with_star n (fixing_none n.tasks (left_at p x));
        })
        (left_at p x) refl refl (λ e u m near named. (left-back e m named).1) left-mine (λ u y sent asks. asks) refl

  -- ---- a mail is taken
  module _ (mail : Mail) (rest : List Mail) (front : inbox w.medium c.0 ≡ mail ∷ rest) where
    noticed-later : (e : ℕ) → names e mail ≡ false → noticed e (mail ∷ rest) ≡ true → noticed e rest ≡ true
    noticed-later e away h = or_other (names e mail) (noticed e rest) h away

    taken-stays : (t : TaskId) (e : ℕ) → is_answered_once e t.task (inbox w.medium t.system.0) ≡ true
        → list_any (is_answer_to t.task) (inbox_of (without_first w.medium.inboxes c.0) t.system.0) ≡ true
        → noticed e (inbox w.medium t.system.0) ≡ true
        → noticed e (inbox_of (without_first w.medium.inboxes c.0) t.system.0) ≡ true
    taken-stays t e once any told = go (t.system.0 == c.0) refl
      where
        go : (b : Bool) → (t.system.0 == c.0) ≡ b
            → noticed e (inbox_of (without_first w.medium.inboxes c.0) t.system.0) ≡ true
        go false other =
            ap (noticed e) (untaken-box w.medium.inboxes c.0 t.system.0 (eqb-false t.system.0 c.0 other)) ∙ told
        go true same =
            let home_t : t.system.0 ≡ c.0 = eqb-true t.system.0 c.0 same in
            let was = box-was deck some w c n p a home J mail rest front t e home_t in
            let now = box-now deck some w c n p a home J mail rest front t e home_t in
            let z =
            once-later e t.task mail rest (sym (ap (is_answered_once e t.task) was) ∙ once)
            (sym (ap (list_any (is_answer_to t.task)) now) ∙ any) in
            ap (noticed e) now ∙ noticed-later e z.1 (sym (ap (noticed e) was) ∙ told)

    pub taken-silent : AreSilent deck (world_then w c n (record {
      medium = record w.medium { inboxes = without_first w.medium.inboxes c.0; rest = awake w.medium c };
      step = with_star n (take_mail deck n.known n.tasks p mail);
    }))
    taken-silent =
        silent-then deck w c n p a.site a.star J S (took deck some w c n p a home J mail rest front)
        (take_mail deck n.known n.tasks p mail).part refl (λ u live. live) (λ t. ⊥)
        (λ e u m k at_k live near named. inl named) (λ e named h. take-manages deck n p e h mail)
        (λ t k at_k live any. (box-taken deck some w c n p a home J mail rest front t.system.0).answered t refl any)
        (λ t k at_k live e once any told. taken-stays t e once any told)
        (λ t x e home_t h once any.
        let z = clear deck some w c n p a home J mail rest front t e home_t (inr (once, any)) in
        (tasks-taken deck some w c n p a home J mail rest front mail refl t x e h z.0 z.1).1)
        (λ t k x e fresh there h opened. fresh)

  -- ---- a request is settled
  module _ (q : Req) (first : first_held p ≡ Some q) where
    passes : (test : Req → Bool) (qs : List Req) → find test qs ≡ Some q → test q ≡ true
    passes test [] h = absurd (cc)
    passes test (y ∷ qs) h = go (test y) refl h (λ k. passes test qs k)
      where
        go : (b : Bool) → test y ≡ b → cond b (Some y) (find test qs) ≡ Some q
            → (find test qs ≡ Some q → test q ≡ true) → test q ≡ true
        go true is k more = ap test (sym (same_Some y q k)) ∙ is
        go false is k more = more k

    -- the one who settles it manages its entry
    module _ (k : NodeState) (at_k : Site w q.task.system.0 k) (e : ℕ)
        (wanted : entry_wanted deck.entries q.want ≡ Some e) where
      entry-is : (hand deck some w c n p a home J q first k at_k).entry ≡ e
      entry-is =
          let h = hand deck some w c n p a home J q first k at_k in
          same_Some h.entry e (sym h.has.at ∙ (ap (entry_wanted deck.entries) h.same ∙ wanted))

      named-c : manager_at w.medium.words e ≡ Some (at c.0)
      named-c =
          sym (ap (manager_at w.medium.words) entry-is) ∙ (hand deck some w c n p a home J q first k at_k).managed

      ungathered : gathers p e ≡ false
      ungathered =
          sym (ap (gathers_asked p) (ap (λ i. entry_wanted i q.want) a.sized.0 ∙ wanted))
          ∙ not-true (gathers_asked p (entry_for p q.want)) (passes (may_settle p) p.held first)

      pub manages-it : manages p e ≡ true
      manages-it =
          go (((E e within-e).each c.0 (stance_of e p (inbox w.medium c.0))
          (stance-is w e c.0 n p a.site a.star)).named named-c)
        where
          within-e : e < deck.entries
          within-e = want-within deck.entries q.want e some wanted

          go : IsNamed (stance_of e p (inbox w.medium c.0)) → manages p e ≡ true
          go (inl h) = h
          go (inr (inl z)) = no_truth (gathers p e) (ap is_some z.1) ungathered
          go (inr (inr z)) =
              no_truth (noticed e (inbox w.medium c.0)) (noticed-some e (inbox w.medium c.0) ∙ ap is_some z.1)
              (G.held c.0 n p a.site a.star q (in-found (may_settle p) p.held q first) k at_k e wanted)

    pub settled-silent : AreSilent deck (world_then w c n (record {
      medium =
          record w.medium {
            inboxes =
                with_mail w.medium.inboxes q.task.system.0 (mails.Answered q.task (answer_for p q) (rank_of p q));
            rest = awake w.medium c;
          };
      step = with_star n (settled_first n.tasks p q);
    }))
    settled-silent =
        silent-then deck w c n p a.site a.star J S (settles deck some w c n p a home J q first)
        (settled_first n.tasks p q).part refl (λ u live. live) (λ t. same_place t q.task ≡ true)
        (λ e u m k at_k live near named. inl named)
        (λ e named h. request-manages p.manager q.task q.want e ∙ h)
        (λ t k at_k live any.
        (box-settled deck some w c n p a home J q first t.system.0 k at_k).answered t refl any)
        (λ t k at_k live e once any told.
        posted-at w.medium.inboxes q.task.system.0 t.system.0
        (mails.Answered q.task (answer_for p q) (rank_of p q)) (λ ms. noticed e ms ≡ true) told
        (λ here.
        noticed-more e (inbox w.medium t.system.0) (mails.Answered q.task (answer_for p q) (rank_of p q)) refl ∙ told))
        (λ t x e home_t h once any.
        (stays-sent deck some w c n p a home J t x choices.Settle (replied replies.Settled)
        (settles deck some w c n p a home J q first) (acted p a.star _ _ _ (cases.settled q first)) refl h.sent
        h.asks).1)
        fresh-closed
      where
        closed : (e : ℕ) → IsOpen (world_then w c n (settles deck some w c n p a home J q first)) e
            → manager_at w.medium.words e ≡ Some (at c.0) → manages p e ≡ true → ⊥
        closed e opened named mine =
            each_site w c n a.site (settles deck some w c n p a home J q first) (λ u live. live)
            (λ i y. i ≡ c.0 → y.star ≡ Some opened.part → ⊥)
            (λ is star_y.
            no_truth (manages (settled_first n.tasks p q).part e)
            (request-manages p.manager q.task q.want e ∙ mine)
            (ap (λ (z : StarPart). manages z e) (same_Some (settled_first n.tasks p q).part opened.part star_y)
            ∙ opened.off))
            (λ i y ne was is star_y. absurd (ne is)) opened.m opened.node opened.site
            (ap (λ (z : SysId). z.0) (same_Some (at opened.m) (at c.0) (sym opened.named ∙ named))) opened.star

        fresh-closed : (t : TaskId) (k : NodeState) (x : Asked) (e : ℕ) → same_place t q.task ≡ true
            → Site (world_then w c n (settles deck some w c n p a home J q first)) t.system.0 k
            → HasSent deck w.medium.words k.tasks t x e
            → IsOpen (world_then w c n (settles deck some w c n p a home J q first)) e → ⊥
        fresh-closed t k x e same there h opened =
            let want = asks-then deck some w c n p a home J q first t same k there x h.asks in
            let wanted : entry_wanted deck.entries q.want ≡ Some e = sym (ap (entry_wanted deck.entries) want) ∙ h.at in
            let z : (y : NodeState) × Site w t.system.0 y =
            each_site w c n a.site (settles deck some w c n p a home J q first) (λ u live. live)
            (λ i y. (v : NodeState) × Site w i v) (n, a.site) (λ i y ne was. (y, was)) t.system.0 k there in
            let at_y : Site w q.task.system.0 z.0 = subst (λ i. Site w i z.0) (place-is t q.task same).0 z.1 in
            closed e opened (named-c z.0 at_y e wanted) (manages-it z.0 at_y e wanted)

  -- ---- it is told who was removed
  pub informed-silent : (choice : Choice) →
      AreSilent deck (world_then w c n (record { medium = w.medium; step = only (stale deck n w.medium.removed) }))
  unfolding stale losing
  informed-silent choice =
      still-silent (record { medium = w.medium; step = only (stale deck n w.medium.removed) })
      (lose_all (names_of deck n.tasks.system) (standing n.tasks p)
      (members (without_those n.known (known_from deck n.known w.medium.removed)))).part
      (ap (λ (o : Option StarPart).
      (losing_in deck (record n { known = known_from deck n.known w.medium.removed }) o
      (members (without_those n.known (known_from deck n.known w.medium.removed)))).star)
      a.star)
      refl (λ e u m near named. named)
      (λ e named h.
      lost-manages e (names_of deck n.tasks.system) (standing n.tasks p)
      (members (without_those n.known (known_from deck n.known w.medium.removed))) h)
      (λ t x sent asks.
      (stays-sent deck some w c n p a home J t x choice (replied (replies.Stale w.medium.removed)) _
      (cases.informed choice) refl sent asks).1)
      refl

  -- ---- it removes one
  module _ (around : systems_of w.medium ≡ length deck.systems) (target : SysId) (mode : w.medium.star ≡ true)
      (next : next_order deck n ≡ Some (orders.Vary target)) (lives : is_live w.medium target ≡ true) where
    abbrev removing : Turnout
    removing = record { medium = without_in_star w.medium target; step = purged deck n (choices.Purge target) }

    module _ (u : ℕ) (k : NodeState) (at_k : Site w u k)
        (live : has (with_also w.medium.removed target.0) u ≡ false) (e : ℕ) where
      noticed-posted : (xs : List Moved) → list_any (λ x. x.entry == e) xs ≡ true
          → noticed e (inbox w.medium u ++ notices_to target xs) ≡ true
      noticed-posted [] here = absurd (cc)
      noticed-posted (x ∷ xs) here =
          list_any-append (names e) (inbox w.medium u) (mails.Notice target (x ∷ xs) ∷ [])
          ∙ or_right (noticed e (inbox w.medium u)) _ (or_left (names e (mails.Notice target (x ∷ xs))) false here)

      -- its manager is removed
      noticed-now : is_interested w.medium.words e u ≡ true → is_manager (manager_at w.medium.words e) target ≡ true
          → noticed e (inbox (without_in_star w.medium target) u) ≡ true
      noticed-now near managed =
          let low = within deck some w c n p a home J around target mode next lives u k at_k live in
          ap (noticed e) (box-then deck some w c n p a home J around target mode next lives u k at_k live)
          ∙ noticed-posted (told_to w.medium target (record { 0 = u }))
          (ap (list_any (λ (x : Moved). x.entry == e))
          (moved-at w.medium target (record { 0 = u }) (omega (arith, low, around)))
          ∙ (told-where w.medium.words target (record { 0 = u }) e (near-within w.medium.words e u near)
          (apart deck some w c n p a home J around target mode next lives u live)
          ∙ (ap (λ b. b && is_interested w.medium.words e u) managed ∙ near)))

      noticed-still : noticed e (inbox w.medium u) ≡ true
          → noticed e (inbox (without_in_star w.medium target) u) ≡ true
      noticed-still told =
          ap (noticed e) (box-then deck some w c n p a home J around target mode next lives u k at_k live)
          ∙ (list_any-append (names e) (inbox w.medium u)
          (notices_to target (told_to w.medium target (record { 0 = u })))
          ∙ or_left (noticed e (inbox w.medium u)) _ told)

      back-removed : (m : ℕ) → is_interested w.medium.words e u ≡ true
          → manager_at (without_in_star w.medium target).words e ≡ Some (at m)
          → (manager_at w.medium.words e ≡ Some (at m))
          ⊎ (noticed e (inbox (without_in_star w.medium target) u) ≡ true)
      back-removed m near named = go (is_manager (manager_at w.medium.words e) target) refl
        where
          go : (b : Bool) → is_manager (manager_at w.medium.words e) target ≡ b
              → (manager_at w.medium.words e ≡ Some (at m))
              ⊎ (noticed e (inbox (without_in_star w.medium target) u) ≡ true)
          go true managed = inr (noticed-now near managed)
          go false other =
              inl (sym (manager-others w.medium.words target e (near-within w.medium.words e u near) other) ∙ named)

    pub removed-silent : AreSilent deck (world_then w c n (record {
      medium = without_in_star w.medium target;
      step = purged deck n (choices.Purge target);
    }))
    removed-silent =
        silent-then deck w c n p a.site a.star J S removing
        (lose_all (names_of deck n.tasks.system) (standing (desk_told n VaryDone).tasks p) (target ∷ [])).part
        (own-star deck some w c n p a home J around target mode next lives)
        (λ u live.
        false_by (has w.medium.removed u) (λ h.
        no_truth (has (with_also w.medium.removed target.0) u) (also-more w.medium.removed target.0 u h) live))
        (λ t. ⊥) (λ e u m k at_k live near named. back-removed u k at_k live e m near named)
        (λ e named h.
        lost-manages e (names_of deck n.tasks.system) (standing (desk_told n VaryDone).tasks p) (target ∷ []) h)
        (λ t k at_k live any.
        (box-removed deck some w c n p a home J around target mode next lives t.system.0 k at_k live).answered t refl
        any)
        (λ t k at_k live e once any told. noticed-still t.system.0 k at_k live e told)
        (λ t x e home_t h once any.
        (stays-sent deck some w c n p a home J t x (choices.Purge target) (replied replies.Purged) removing
        (cases.removes_star target mode next lives) refl h.sent h.asks).1)
        (λ t k x e fresh there h opened. fresh)

  -- ---- any event
  acts-silent : (choice : Choice) (b : Result) (o : Turnout) → Acts deck w.medium c n p choice b o
      → AreSilent deck (world_then w c n o)
  acts-silent choice b o (cases.decided t x e asked to named same) = decided-silent t x e asked to named same
  acts-silent choice b o (cases.began t x e asked none) = began-silent t x e asked none
  acts-silent choice b o (cases.sent t x e asked to named far) = sent-silent t x e asked to named far
  acts-silent choice b o (cases.took mail rest front) = taken-silent mail rest front
  acts-silent choice b o (cases.settled q first) = settled-silent q first
  acts-silent choice b o (cases.told e x first) = told-silent e x
  acts-silent choice b o (cases.parted e to owes unknown) = parted-silent e to _
  acts-silent choice b o (cases.left x flags may is) = left-silent x flags may is

  desk-star : (said : Said) → (desk_told n said).star ≡ Some p
  unfolding desk_told
  desk-star said = a.star

  module _ (around : systems_of w.medium ≡ length deck.systems) where
    pub came-silent : (choice : Choice) (b : Result) (o : Turnout) → Came deck w.medium c n choice b o
        → AreSilent deck (world_then w c n o)
    came-silent choice b o (cases.nothing k r silent flags) =
        still-silent o p a.star refl (λ e u m near named. named) (λ e named h. h) (λ t x sent asks. asks) refl
    came-silent choice b o (cases.informed k) = informed-silent k
    came-silent choice b o (cases.went_on t may) =
        still-silent o p ((stays-task deck.limit n t (lines_of deck t)).star ∙ a.star) refl
        (λ e u m near named. named) (λ e named h. h)
        (λ u x sent asks. (stays-sent deck some w c n p a home J u x choice b o (cases.went_on t may) refl sent asks).1)
        refl
    came-silent choice b o (cases.turn flags alone unclosed here) = no_part n p a.star alone
    came-silent choice b o (cases.last_turn flags alone shut here) = no_part n p a.star alone
    came-silent choice b o (cases.changed ring next seen) = no_truth w.medium.star a.fit.mode ring
    came-silent choice b o (cases.already mode next) =
        still-silent o p (desk-star saids.StarAlready) refl (λ e u m near named. named) (λ e named h. h)
        (λ u x sent asks.
        (stays-sent deck some w c n p a home J u x choice b o (cases.already mode next) refl sent asks).1)
        refl
    came-silent choice b o (cases.removes_one target ring next lives) = no_truth w.medium.star a.fit.mode ring
    came-silent choice b o (cases.removes_star target mode next lives) = removed-silent around target mode next lives
    came-silent choice b o (cases.no_such target next gone) =
        still-silent o p (desk-star saids.VaryNoSuch) refl (λ e u m near named. named) (λ e named h. h)
        (λ u x sent asks.
        (stays-sent deck some w c n p a home J u x choice b o (cases.no_such target next gone) refl sent asks).1)
        refl
    came-silent choice b o (cases.acted q is k r x acts) =
        acts-silent k r x
        (subst (λ (z : StarPart). Acts deck w.medium c n z k r x) (same_Some q p (sym is ∙ a.star)) acts)
