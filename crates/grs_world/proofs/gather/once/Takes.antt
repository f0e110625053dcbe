-- What the event by which a system takes a mail leaves of the requests in all hands and of the answers in all inboxes.
use Rattle.grs_world.proofs.Common.{[], ◌&&◌, ◌++◌, ◌<◌, ◌==◌, ◌||◌, ◌∙◌, ◌∷◌, ◌≡◌, ◌≢◌, and-false, and_from, and_parts}
use Rattle.grs_world.proofs.Common.{ap, append_assoc, arith, Asked, awaited, awaiting, awake, Bool, by_test, cond, Deck}
use Rattle.grs_world.proofs.Common.{entry_for, eqb-false, eqb-true, false, filter, fixing_none, inbox, inbox_of, inl}
use Rattle.grs_world.proofs.Common.{inr, is_for_deck, is_item_of, is_news, is_of_deck, is_sent, is_task, length, List}
use Rattle.grs_world.proofs.Common.{list_any, Mail, move_entry, Moved, names_of, NodeState, None, noticed, or_parts}
use Rattle.grs_world.proofs.Common.{owing, refl, Req, sent_again, slice_get_within, Some, Standing, standing, StarPart}
use Rattle.grs_world.proofs.Common.{StarStep, state_of, subst, sym, SysId, take_mail, TaskId, took_mail, true, Turnout}
use Rattle.grs_world.proofs.Common.{with_role, with_star, without_first, World, ℕ}
use Rattle.std.specs.Prelude.{drop}
use Rattle.grs_known.proofs.lists.Truths.{eqb-flip}
use Rattle.contention_mgr.specs.Manager.{entry_wanted}
use Rattle.grs_node.specs.Node.{fixing_nothing}
use Rattle.grs_node.specs.Removal.{took_notice}
use Rattle.grs_node.specs.Star.{is_held_for}
use Rattle.grs_wire.specs.Notices.{names}
use Rattle.lock_structure.specs.Entries.{is_entry}
use Rattle.star_client.specs.Client.{has_sent}
use Rattle.grs_world.proofs.gather.Again.{notice-sent, says, Stands}
use Rattle.grs_world.proofs.gather.once.Acts.{calm-once, sent-is, stays-sent}
use Rattle.grs_world.proofs.gather.once.Boxes.{BoxGoes, goes-left, goes-same, once-later}
use Rattle.grs_world.proofs.gather.once.Lists.{Fewer, fewer-behind, fewer-gone, fewer-same}
use Rattle.grs_world.proofs.gather.once.Step.{AreOnce, IsCalm}
use Rattle.grs_world.proofs.gather.way.Acting.{Acting}
use Rattle.grs_world.proofs.run.Came.{acted, replied}
use Rattle.grs_world.proofs.run.Lost.{by-notice, by-part}
use Rattle.grs_world.proofs.run.Placed.{world_then}
use Rattle.grs_world.proofs.star.Boxes.{taken-box, untaken-box}
use Rattle.grs_world.proofs.star.Systems.{requests_in}
use Rattle.grs_world.specs.Again.{is_touched}
use Rattle.grs_world.specs.InHands.{HasSent, in_hands, is_answer_to, is_answered_once}
use Rattle.grs_world.proofs.run.Came as any
use Rattle.grs_wire.specs.declared.deck.Choice.TheVariants as choices
use Rattle.grs_wire.specs.declared.medium.Mail.TheVariants as mails
use Rattle.grs_wire.specs.declared.medium.Reply.TheVariants as replies
use Rattle.task_state.specs.declared.state.Phase.TheVariants as phases

-- ---- a notice of other entries
module _ (p : StarPart) (t : TaskId) (x : Asked) (e : ℕ) (entry : entry_for p x.req.want ≡ Some e) where
  -- no item of it says that the task is to send again
  unsaid : (f : Moved → Bool) (ms : List Moved) → list_any (λ m. m.entry == e) ms ≡ false
      → list_any (says t (Some x) p) (filter f ms) ≡ false
  unsaid f [] away = refl
  unsaid f (m ∷ ms) away = go (f m) (unsaid f ms both.1)
    where
      both : ((m.entry == e) ≡ false) × (list_any (λ z. z.entry == e) ms ≡ false)
      both = or_parts (m.entry == e) (list_any (λ z. z.entry == e) ms) away

      one : says t (Some x) p m ≡ false
      one =
          ap (λ o. is_news p m.entry && is_entry m.entry o) entry
          ∙ (ap (λ b. is_news p m.entry && b) (eqb-flip e m.entry ∙ both.0) ∙ and-false (is_news p m.entry))

      go : (b : Bool) → list_any (says t (Some x) p) (filter f ms) ≡ false
          → list_any (says t (Some x) p) (cond b (m ∷ filter f ms) (filter f ms)) ≡ false
      go true more = ap (λ b. b || list_any (says t (Some x) p) (filter f ms)) one ∙ more
      go false more = more

  pub notice-stays : (deck : Deck) (n : NodeState) (target : SysId) (moved : List Moved)
      → list_any (λ m. m.entry == e) moved ≡ false → Stands t (Some x) phases.Sent n.tasks
      → Stands t (Some x) phases.Sent (take_mail deck n.known n.tasks p (mails.Notice target moved)).tasks
  unfolding took_mail
  notice-stays deck n target moved away h =
      by_test (λ (z : StarStep). Stands t (Some x) phases.Sent z.tasks) (is_for_deck deck (mails.Notice target moved))
      (fixing_nothing
      (took_notice n.known (names_of deck n.tasks.system) (standing n.tasks p) (filter (is_item_of deck) moved)))
      (fixing_none n.tasks p)
      (λ ours.
      subst
      (λ b. Stands t (Some x) (cond b phases.ToSend phases.Sent)
      (took_notice n.known (names_of deck n.tasks.system) (standing n.tasks p) (filter (is_item_of deck) moved)).tasks)
      (unsaid (is_item_of deck) moved away)
      (notice-sent t (Some x) n.known (names_of deck n.tasks.system) (standing n.tasks p)
      (filter (is_item_of deck) moved) h))
      (λ other. h)

-- ---- what is held
module _ (hs : List Req) where
  role-held : (known : ℕ) (p : StarPart) (m : Moved) → p.held ≡ hs → (with_role known p m).held ≡ hs
  role-held known p m h =
      by_test (λ (r : StarPart). r.held ≡ hs) (m.manager.0 == p.manager.system.0)
      (record p {
        gathers = awaiting p.gathers m.entry (awaited known p.manager.system.0 m.mask);
        owes = owing p.owes m.entry None;
      })
      (record p { owes = owing p.owes m.entry (Some m.manager) }) (λ own. h) (λ other. h)

  pub moved-held : (known : ℕ) (x : Standing) (m : Moved) → x.part.held ≡ hs → (move_entry known x m).part.held ≡ hs
  moved-held known x m h =
      by_test (λ (y : Standing). y.part.held ≡ hs) (is_news x.part m.entry)
      (standing (sent_again x.part m.entry x.tasks) (with_role known x.part m)) x
      (λ news. role-held known x.part m h) (λ old. h)

module _ (deck : Deck) (n : NodeState) (p : StarPart) (rest : List Mail) where
  take-fewer : (mail : Mail)
      → Fewer (in_hands p (mail ∷ rest)) (in_hands (take_mail deck n.known n.tasks p mail).part rest)
  unfolding took_mail
  take-fewer mail = go (is_for_deck deck mail) mail
    where
      as-held : (hs : List Req) → hs ≡ p.held → Fewer (p.held ++ requests_in rest) (hs ++ requests_in rest)
      as-held hs same =
          subst (λ (qs : List Req). Fewer (p.held ++ requests_in rest) (qs ++ requests_in rest)) (sym same)
          (fewer-same (p.held ++ requests_in rest))

      go : (b : Bool) (y : Mail)
          → Fewer (p.held ++ requests_in (y ∷ rest))
          ((cond b (took_mail deck n.known n.tasks p y) (fixing_none n.tasks p)).part.held ++ requests_in rest)
      go false (mails.Request e from q) =
          fewer-behind (q ∷ requests_in rest) (requests_in rest) p.held
          (fewer-gone q (requests_in rest) (requests_in rest) (fewer-same (requests_in rest)))
      go false (mails.Answered t answer rank) = fewer-same (p.held ++ requests_in rest)
      go false (mails.Granted t r) = fewer-same (p.held ++ requests_in rest)
      go false (mails.Notice target moved) = fewer-same (p.held ++ requests_in rest)
      go false (mails.Part e from records) = fewer-same (p.held ++ requests_in rest)
      go true (mails.Request e from q) =
          by_test (λ (z : StarPart). Fewer (p.held ++ q ∷ requests_in rest) (z.held ++ requests_in rest))
          (is_held_for n.known p e q) (record p { held = p.held ++ q ∷ [] }) p
          (λ here.
          subst (Fewer (p.held ++ q ∷ requests_in rest)) (sym (append_assoc p.held (q ∷ []) (requests_in rest)))
          (fewer-same (p.held ++ q ∷ requests_in rest)))
          (λ away.
          fewer-behind (q ∷ requests_in rest) (requests_in rest) p.held
          (fewer-gone q (requests_in rest) (requests_in rest) (fewer-same (requests_in rest))))
      go true (mails.Answered t answer rank) = fewer-same (p.held ++ requests_in rest)
      go true (mails.Granted t r) = fewer-same (p.held ++ requests_in rest)
      go true (mails.Notice target moved) =
          as-held _
          (by-notice (λ (x : Standing). x.part.held ≡ p.held) (λ ns y e k. k) n.known (moved-held p.held n.known)
          (names_of deck n.tasks.system) (standing n.tasks p) (filter (is_item_of deck) moved) refl)
      go true (mails.Part e from records) =
          as-held _
          (by-part (λ (x : Standing). x.part.held ≡ p.held) (λ ns y x k. k) n.known (names_of deck n.tasks.system)
          (standing n.tasks p) e from (filter (λ r. is_of_deck deck r.task) records) refl refl)

-- ---- the event
module _ (deck : Deck) (some : 0 < deck.entries) (w : World) (c : SysId) (n : NodeState) (p : StarPart)
    (a : Acting deck w c n p) (home : n.tasks.system ≡ c.0) (J : AreOnce deck w) (mail : Mail) (rest : List Mail)
    (front : inbox w.medium c.0 ≡ mail ∷ rest) where
  abbrev pub took : Turnout
  took = record {
    medium = record w.medium { inboxes = without_first w.medium.inboxes c.0; rest = awake w.medium c };
    step = with_star n (take_mail deck n.known n.tasks p mail);
  }

  inside : c.0 < length w.medium.inboxes
  inside =
      let within = slice_get_within w.nodes c.0 n a.site.at in
      let count = a.count in
      let boxes = a.fit.boxes in
      omega (arith, within, count, boxes)

  pub box-own : inbox_of (without_first w.medium.inboxes c.0) c.0 ≡ rest
  box-own = taken-box w.medium.inboxes c.0 inside ∙ ap (λ (ms : List Mail). drop 1 ms) front

  pub box-taken : (u : ℕ) →
      BoxGoes w.medium.words w.medium.removed (λ t. ⊥) u (inbox w.medium u)
      (inbox_of (without_first w.medium.inboxes c.0) u)
  box-taken u = go (u == c.0) refl
    where
      go : (b : Bool) → (u == c.0) ≡ b →
          BoxGoes w.medium.words w.medium.removed (λ t. ⊥) u (inbox w.medium u)
          (inbox_of (without_first w.medium.inboxes c.0) u)
      go true same =
          let here : u ≡ c.0 = eqb-true u c.0 same in
          subst (λ (ms : List Mail).
          BoxGoes w.medium.words w.medium.removed (λ t. ⊥) u ms (inbox_of (without_first w.medium.inboxes c.0) u))
          (sym (ap (λ i. inbox w.medium i) here ∙ front))
          (subst (BoxGoes w.medium.words w.medium.removed (λ t. ⊥) u (mail ∷ rest))
          (sym (ap (inbox_of (without_first w.medium.inboxes c.0)) here ∙ box-own))
          (goes-left w.medium.words w.medium.removed (λ t. ⊥) u mail rest))
      go false other =
          subst (BoxGoes w.medium.words w.medium.removed (λ t. ⊥) u (inbox w.medium u))
          (sym (untaken-box w.medium.inboxes c.0 u (eqb-false u c.0 other)))
          (goes-same w.medium.words w.medium.removed (λ t. ⊥) u (inbox w.medium u))

  -- the mail is no answer to a task that stays calm, and no notice of what it asks for
  module _ (t : TaskId) (e : ℕ) (home_t : t.system.0 ≡ c.0) where
    pub box-was : inbox w.medium t.system.0 ≡ mail ∷ rest
    box-was = ap (λ i. inbox w.medium i) home_t ∙ front

    pub box-now : inbox_of (without_first w.medium.inboxes c.0) t.system.0 ≡ rest
    box-now = ap (inbox_of (without_first w.medium.inboxes c.0)) home_t ∙ box-own

    pub clear : IsCalm deck w c n p took (take_mail deck n.known n.tasks p mail).part t e
        → (is_answer_to t.task mail ≡ false) × (names e mail ≡ false)
    clear (inl h) = (
      (or_parts (is_answer_to t.task mail) (list_any (is_answer_to t.task) rest)
          (sym (ap (list_any (is_answer_to t.task)) box-was) ∙ h.0)).0,
      (or_parts (names e mail) (noticed e rest) (sym (ap (noticed e) box-was) ∙ h.1)).0,
    )
    clear (inr h) =
        let z =
        once-later e t.task mail rest (sym (ap (is_answered_once e t.task) box-was) ∙ h.0)
        (sym (ap (list_any (is_answer_to t.task)) box-now) ∙ h.1) in
        (z.0, z.1)

  untouched : (t : TaskId) (x : Asked) → (e : ℕ) → HasSent deck w.medium.words n.tasks t x e
      → is_touched t (Some (replies.Taken mail)) ≡ false
      → (has_sent (take_mail deck n.known n.tasks p mail).tasks t ≡ true)
      × ((state_of (take_mail deck n.known n.tasks p mail).tasks t).outstanding ≡ Some x)
  untouched t x e h off =
      stays-sent deck some w c n p a home J t x choices.Take (replied (replies.Taken mail)) took
      (acted p a.star _ _ _ (any.took mail rest front)) off h.sent h.asks

  pub tasks-taken : (y : Mail) → mail ≡ y → (t : TaskId) (x : Asked) (e : ℕ)
      → HasSent deck w.medium.words n.tasks t x e → is_answer_to t.task y ≡ false → names e y ≡ false
      → (has_sent (take_mail deck n.known n.tasks p mail).tasks t ≡ true)
      × ((state_of (take_mail deck n.known n.tasks p mail).tasks t).outstanding ≡ Some x)
  tasks-taken (mails.Request f from q) same t x e h none away =
      untouched t x e h (ap (λ (z : Mail). is_touched t (Some (replies.Taken z))) same)
  tasks-taken (mails.Answered u answer rank) same t x e h none away =
      untouched t x e h (ap (λ (z : Mail). is_touched t (Some (replies.Taken z))) same ∙ none)
  tasks-taken (mails.Granted u r) same t x e h none away =
      untouched t x e h (ap (λ (z : Mail). is_touched t (Some (replies.Taken z))) same)
  tasks-taken (mails.Part f from records) same t x e h none away =
      untouched t x e h (ap (λ (z : Mail). is_touched t (Some (replies.Taken z))) same)
  tasks-taken (mails.Notice target moved) same t x e h none away =
      let both = and_parts (is_task n.tasks t) (is_sent (state_of n.tasks t).phase) h.sent in
      let z : Stands t (Some x) phases.Sent (take_mail deck n.known n.tasks p mail).tasks =
      subst (λ (m : Mail). Stands t (Some x) phases.Sent (take_mail deck n.known n.tasks p m).tasks) (sym same)
      (notice-stays p t x e (ap (λ i. entry_wanted i x.req.want) a.sized.0 ∙ h.at) deck n target moved away
      (record { here = both.0; is = sent-is (state_of n.tasks t).phase both.1; asks = h.asks })) in (
        and_from (is_task (take_mail deck n.known n.tasks p mail).tasks t) _ z.here (ap is_sent z.is),
        z.asks,
      )

  pub taken-once : AreOnce deck (world_then w c n (record {
    medium = record w.medium { inboxes = without_first w.medium.inboxes c.0; rest = awake w.medium c };
    step = with_star n (take_mail deck n.known n.tasks p mail);
  }))
  taken-once =
      calm-once deck some w c n p a home J took (take_mail deck n.known n.tasks p mail).part refl (λ u h. h)
      (λ e u live near busy. near) (λ e m u live_m live_u named near busy. named)
      (λ t x e home_t h calm.
      let z = clear t e home_t calm in
      tasks-taken mail refl t x e h z.0 z.1)
      (λ u k there live. box-taken u)
      (λ live.
      subst (λ (ms : List Mail).
      Fewer (in_hands p ms)
      (in_hands (take_mail deck n.known n.tasks p mail).part (inbox_of (without_first w.medium.inboxes c.0) c.0)))
      (sym front)
      (subst (λ (ms : List Mail).
      Fewer (in_hands p (mail ∷ rest)) (in_hands (take_mail deck n.known n.tasks p mail).part ms)) (sym box-own)
      (take-fewer deck n p rest mail)))
      (λ u k ne there live.
      subst (λ (ms : List Mail). Fewer (requests_in (inbox w.medium u)) (requests_in ms))
      (sym (untaken-box w.medium.inboxes c.0 u ne)) (fewer-same (requests_in (inbox w.medium u))))
