-- A system takes the first mail of its inbox: a request is held, an answer makes the record that is due, and control
-- marks one.
use Rattle.grs_world.proofs.Common.{[], ◌&&◌, ◌++◌, ◌==◌, ◌||◌, ◌∙◌, ◌∷◌, ◌≡◌, ◌≢◌, ◌≤◌, after_mail, and_from}
use Rattle.grs_world.proofs.Common.{and_parts, and_right, Answer, Answered, ap, append-nil, append_assoc, arith, Asked}
use Rattle.grs_world.proofs.Common.{askers, Bool, cond, Deck, entry_for, entry_wanted, eq-eqb, false, false_by}
use Rattle.grs_world.proofs.Common.{fixed_by, get_or, Granted, has, has_effect, has_res, has_task, inbox, inl, inr}
use Rattle.grs_world.proofs.Common.{is_among, is_entry, is_for_deck, is_home_at, is_marked, is_of_deck, is_sent}
use Rattle.grs_world.proofs.Common.{is_some, is_systems, is_task, is_task-system, items, last_number, length, lines_of}
use Rattle.grs_world.proofs.Common.{List, list_any, list_of, lists, Mail, managed_at, ManagerView, manages, MediumState}
use Rattle.grs_world.proofs.Common.{nat_le, nat_lt, nat_tests, no_truth, NodeState, owns, owns-has, placed, refl, Req}
use Rattle.grs_world.proofs.Common.{Res, res_wanted, same_res, same_res-exact, same_Some, same_task, same_task-exact}
use Rattle.grs_world.proofs.Common.{Some, StarPart, state_of, subst, suc, sym, SysId, TaskId, TaskState, TasksView}
use Rattle.grs_world.proofs.Common.{tell_answer_any_ranked, tell_answer_ranked, tell_control, true, Turnout}
use Rattle.grs_world.proofs.Common.{without_first, World, ℕ}
use Rattle.star_client.specs.Client.{can_get, has_sent, is_awaited}
use Rattle.grs_wire.specs.declared.medium.Mail.TheVariants.{Request}
use Rattle.std.specs.Prelude.{◌⊎◌, drop}
use Rattle.grs_world.proofs.star.Heard.{AreAddressed, IsAddressed, StaysHeard, enq_count, grants, had_by, hears}
use Rattle.grs_world.proofs.star.Heard.{is_timely}
use Rattle.grs_world.proofs.star.Members.{IsPart, all_lists, has_manager}
use Rattle.grs_world.proofs.star.Settling.{asker-home}
use Rattle.grs_world.proofs.star.Systems.{IsSystem, requests_in}
use Rattle.grs_world.proofs.star.Worlds.{AllHands, IsHand, IsWhole, in_hands, items-none, are_live, live-site}
use Rattle.grs_world.proofs.star.hearing.Decided.{one-place}
use Rattle.grs_world.proofs.star.hearing.Elements.{IsAnswered, IsDueOn, answer-awaited, recorded-or-due}
use Rattle.grs_world.proofs.star.hearing.Elements.{records-distinct}
use Rattle.grs_world.proofs.star.hearing.Answering.{Answered as AnsweredBy, answered}
use Rattle.grs_world.proofs.star.hearing.Gentle.{Gentle, control-marks, gentle-control, gentle-none}
use Rattle.grs_world.proofs.star.hearing.Mails.{hears-behind, hears-first, hears-lost, hears-other, timely-other}
use Rattle.grs_world.proofs.star.hearing.Own.{own-owner, own-request}
use Rattle.grs_world.proofs.star.hearing.Passing.{Grown, Hearable, Requested, handed-here, handed-own, heard-placed}
use Rattle.grs_world.proofs.star.hearing.Passing.{is_untold_by, own-recorded-ready, untold-here, untold-own}
use Rattle.grs_world.proofs.run.Site.{Site, site-below}
use Rattle.grs_world.proofs.star.Boxes.{taken-box, untaken-box}
use Rattle.grs_world.proofs.run.Placed.{nodes_then}
use Rattle.grs_world.proofs.star.hearing.Gets.{gets}

-- ---- the first mail is taken
module _ (deck : Deck) (w : World) (g : IsWhole deck w) (c : SysId) (n : NodeState) (at : Site w c.0 n) (p : StarPart)
    (star : n.star ≡ Some p) (mail : Mail) (rest : List Mail) (is : inbox w.medium c.0 ≡ mail ∷ rest) (flags : ℕ) where
  abbrev took : MediumState
  took = record w.medium { inboxes = without_first w.medium.inboxes c.0; rest = flags }

  -- what the event comes to, where the system has these tasks and this part afterwards
  abbrev to : TasksView → StarPart → Turnout
  to v q = record {
    medium = record w.medium { inboxes = without_first w.medium.inboxes c.0; rest = flags };
    step = record { node = record n { tasks = v; star = Some q }; fixed = [] };
  }

  own_box : inbox took c.0 ≡ rest
  own_box =
      taken-box w.medium.inboxes c.0
      (let k = site-below w c.0 n at in omega (arith, k, g.roles.systems, g.roles.inboxes))
      ∙ ap (drop 1) is

  grown : (u : ℕ) → u ≢ c.0 → Grown deck (inbox w.medium u) (inbox took u)
  grown u ne = ([], untaken-box w.medium.inboxes c.0 u ne ∙ sym (append-nil (inbox w.medium u)), tt)

  same_items : items (w.fixed ++ fixed_by c []) ≡ items w.fixed
  same_items = items-none w.fixed c

  sys : IsSystem deck w.medium.words (items w.fixed) c.0 n (mail ∷ rest) (g.later c.0) (g.out c.0)
  sys =
      subst (λ ms. IsSystem deck w.medium.words (items w.fixed) c.0 n ms (g.later c.0) (g.out c.0)) is
      (g.system c.0 n at)

  -- What it does to the system's own tasks and to the requests in its hands.
  pub record Takes (v : TasksView) (q : StarPart) : Type 0 where
    pub manager : q.manager ≡ p.manager
    pub hands : IsAddressed deck mail → (u : TaskId) → is_among u (askers (in_hands p (mail ∷ rest))) ≡ true
        → is_among u (askers (in_hands q rest)) ≡ true
    pub sent : (u : TaskId) → is_home_at deck c.0 u ≡ true → is_sent (state_of v u).phase ≡ true
        → (is_sent (state_of n.tasks u).phase ≡ true)
        × (list_any (is_timely u) (mail ∷ rest) ≡ true → list_any (is_timely u) rest ≡ true)
    pub marked : (u : TaskId) (r : Res) → is_home_at deck c.0 u ≡ true → is_systems r ≡ true
        → owns (list_of (all_lists w) r) u ≡ true → is_marked r (state_of n.tasks u).records ≡ true
        → is_marked r (state_of v u).records ≡ true
    pub heard : (u : TaskId) (r : Res) → is_home_at deck c.0 u ≡ true → is_systems r ≡ true
        → owns (list_of (all_lists w) r) u ≡ true
        → hears u r (has_res r (state_of n.tasks u).records) (mail ∷ rest) ≡ true →
        (is_marked r (state_of v u).records ≡ true) ⊎ (hears u r (has_res r (state_of v u).records) rest ≡ true)

  heard-by : (v : TasksView) (q : StarPart) → (IsWhole deck (placed w c n (to v q)) → Takes v q)
      → IsWhole deck (placed w c n (to v q)) → StaysHeard deck w c n (to v q)
  heard-by v q takes g' sent had few h = heard-placed deck w g c n at (to v q) refl sent had h g' (record {
    boxes = grown;
    own_box = subst (AreAddressed deck) (sym own_box) addressed.1;
    requests = λ u home e.
        request u home (k.sent u home e)
        (own-request deck w g c n at (to v q) refl sent had h u home (k.sent u home e).0);
    passed = λ s u x ne home known among.
        inl (handed-here deck w g c n at (to v q) refl u q
        refl (ap (λ ms. is_among u (askers (in_hands q ms))) own_box
        ∙ k.hands addressed.0 u (sym (ap (λ ms. is_among u (askers (in_hands p ms))) is)
        ∙ (ap (λ z. is_among u (askers (in_hands z (inbox w.medium c.0)))) (part x known) ∙ among))));
    owners = λ u r home wide owned.
        owner u r home wide (before u r owned)
        (own-owner deck w g c n at (to v q) refl sent had h u r home wide (before u r owned));
    told = λ s y u r x ne found home wide owned known untold.
        inr (untold-here deck w g c n at (to v q) refl s u r q ne refl
        (keeps u r (ap (λ z. is_untold_by z u r) (part x known) ∙ untold)));
    gained = λ s y u r ne found home wide absent present.
        no_truth (owns (list_of (all_lists w) r) u) (before u r present) absent;
    queued = λ s y u r ne found home wide absent present.
        no_truth (has_task (list_of (all_lists w) r) u)
        (sym (ap (λ T. has_task (list_of (lists T) r) u) same_items) ∙ present) absent;
    ranks = λ x e z known managed.
        subst (λ T. z.next ≤ suc (enq_count T)) (sym same_items)
        (h.ranks c.0 n p e z at star (sym (ap (λ (m : ManagerView). managed_at m e) k.manager)
        ∙ (ap (λ (m : StarPart). managed_at m.manager e) (same_Some q x known) ∙ managed)));
  })
    where
      k : Takes v q
      k = takes g'

      addressed : AreAddressed deck (mail ∷ rest)
      addressed = subst (AreAddressed deck) is (h.mails c.0)

      part : (x : StarPart) → n.star ≡ Some x → p ≡ x
      part x known = same_Some p x (sym star ∙ known)

      keeps : (u : TaskId) (r : Res) → is_untold_by p u r ≡ true → is_untold_by q u r ≡ true
      keeps u r untold =
          subst (λ (z : ManagerView). is_untold_by (record p { manager = z }) u r ≡ true) (sym k.manager) untold

      before : (u : TaskId) (r : Res) → owns (list_of (lists (items (w.fixed ++ fixed_by c []))) r) u ≡ true
          → owns (list_of (all_lists w) r) u ≡ true
      before u r owned = sym (ap (λ T. owns (list_of (lists T) r) u) same_items) ∙ owned

      request : (u : TaskId) → is_home_at deck c.0 u ≡ true
          → (is_sent (state_of n.tasks u).phase ≡ true)
          × (list_any (is_timely u) (mail ∷ rest) ≡ true → list_any (is_timely u) rest ≡ true)
          → Requested w.medium w.nodes c.0 u → Requested (to v q).medium (nodes_then w c (to v q)) c.0 u
      request u home z (inl i) = inl (handed-own deck w g c n at (to v q) refl grown u home i)
      request u home z (inr e) =
          inr (ap (list_any (is_timely u)) own_box ∙ z.1 (sym (ap (list_any (is_timely u)) is) ∙ e))

      owner : (u : TaskId) (r : Res) → is_home_at deck c.0 u ≡ true → is_systems r ≡ true
          → owns (list_of (all_lists w) r) u ≡ true → (had_by n u r ≡ true) ⊎ Hearable w.medium w.nodes c.0 n u r
          → (had_by (record n { tasks = v; star = Some q }) u r ≡ true)
          ⊎ Hearable (to v q).medium (nodes_then w c (to v q)) c.0 (record n { tasks = v; star = Some q }) u r
      owner u r home wide owned (inl e) = inl (k.marked u r home wide owned e)
      owner u r home wide owned (inr (inr z)) = inr (inr (untold-own deck w g c n at (to v q) refl u r z))
      owner u r home wide owned (inr (inl e)) =
          by-heard (k.heard u r home wide owned (sym (ap (hears u r (has_res r (state_of n.tasks u).records)) is) ∙ e))
        where
          by-heard : (is_marked r (state_of v u).records ≡ true)
              ⊎ (hears u r (has_res r (state_of v u).records) rest ≡ true)
              → (had_by (record n { tasks = v; star = Some q }) u r ≡ true)
              ⊎ Hearable (to v q).medium (nodes_then w c (to v q)) c.0 (record n { tasks = v; star = Some q }) u r
          by-heard (inl f) = inl f
          by-heard (inr f) = inr (inl (ap (hears u r (has_res r (state_of v u).records)) own_box ∙ f))

-- ---- by the mail
module _ (deck : Deck) (w : World) (g : IsWhole deck w) (c : SysId) (n : NodeState) (at : Site w c.0 n) (p : StarPart)
    (star : n.star ≡ Some p) (fits : IsPart deck w.medium.words (all_lists w) c.0 p) (rest : List Mail) (flags : ℕ)
  where
    -- a request is of this system's hands, of an entry that it manages, and of a task of the deck
    module _ (e : ℕ) (from : SysId) (q : Req) (is : inbox w.medium c.0 ≡ Request e from q ∷ rest) where
      its : IsHand deck w.medium.words (are_live w) g.later g.out c.0 q
      its =
          behind p.held (subst (λ ms. AllHands deck w.medium.words (are_live w) g.later g.out c.0 (in_hands p ms)) is
          (g.hands c.0 n p at star).each)
        where
          behind : (xs : List Req)
              → AllHands deck w.medium.words (are_live w) g.later g.out c.0 (xs ++ q ∷ requests_in rest)
              → IsHand deck w.medium.words (are_live w) g.later g.out c.0 q
          behind [] h = h.0
          behind (x ∷ xs) h = behind xs h.1

      known : is_of_deck deck q.task ≡ true
      known =
          let k : NodeState = get_or w.nodes q.task.system.0 n in
          let found : Site w q.task.system.0 k = live-site w q.task.system.0 n its.below in
          (and_parts (q.task.system.0 == q.task.system.0) (is_some (lines_of deck q.task))
          (asker-home deck w.medium.words (items w.fixed) g.right q.task.system.0 k (inbox w.medium q.task.system.0)
          (g.later q.task.system.0) (g.out q.task.system.0)
          (g.system q.task.system.0 k found) q its.among its.idle c its.entry
          its.at its.managed its.apart)).1

      for-deck : IsAddressed deck (Request e from q) → is_for_deck deck (Request e from q) ≡ true
      for-deck h =
          let low = h.1 in
          and_from (nat_lt from.0 (length deck.systems)) (is_of_deck deck q.task) (grind (arith, nat_tests, low)) known

      for-entry : IsAddressed deck (Request e from q) → (is_entry e (entry_for p q.want) && manages p e) ≡ true
      for-entry h =
          let same : its.entry ≡ e = same_Some its.entry e (sym its.at ∙ h.0) in
          and_from (is_entry e (entry_for p q.want)) (manages p e)
          (ap (is_entry e) (ap (λ k. entry_wanted k q.want) fits.entries ∙ h.0) ∙ eq-eqb e e refl)
          (fits.roles e ∙ (ap (λ i. has_manager w.medium.words i c.0) (sym same) ∙ its.managed))

      -- the tasks stay
      takes-request : (x : StarPart) → x.manager ≡ p.manager
          → (IsAddressed deck (Request e from q) → (u : TaskId)
          → is_among u (askers (in_hands p (Request e from q ∷ rest))) ≡ true
          → is_among u (askers (in_hands x rest)) ≡ true)
          →
          Takes deck w g c n at p star (Request e from q) rest is flags n.tasks x
      takes-request x manager hands = record {
        manager = manager;
        hands = hands;
        sent = λ u home sent. (sent, λ h. h);
        marked = λ u r home wide owned h. h;
        heard = λ u r home wide owned h. inr h;
      }

      pub heard-held :
          IsWhole deck (placed w c n (to deck w g c n at p star (Request e from q) rest is flags n.tasks
          (record p { held = p.held ++ q ∷ [] })))
          → StaysHeard deck w c n (to deck w g c n at p star (Request e from q) rest is flags n.tasks
          (record p { held = p.held ++ q ∷ [] }))
      heard-held =
          heard-by deck w g c n at p star (Request e from q) rest is flags n.tasks
          (record p { held = p.held ++ q ∷ [] })
          (λ g'.
          takes-request (record p { held = p.held ++ q ∷ [] }) refl
          (λ h u among. ap (λ qs. is_among u (askers qs)) (append_assoc p.held (q ∷ []) (requests_in rest)) ∙ among))

      -- it is never dropped
      pub heard-dropped :
          (is_for_deck deck (Request e from q) ≡ true → (is_entry e (entry_for p q.want) && manages p e) ≡ false)
          → IsWhole deck (placed w c n (to deck w g c n at p star (Request e from q) rest is flags n.tasks p))
          → StaysHeard deck w c n (to deck w g c n at p star (Request e from q) rest is flags n.tasks p)
      heard-dropped never = heard-by deck w g c n at p star (Request e from q) rest is flags n.tasks p
          (λ g'.
          takes-request p refl
          (λ h u among. no_truth (is_entry e (entry_for p q.want) && manages p e) (for-entry h) (never (for-deck h))))

    -- ---- control
    module _ (t : TaskId) (q : Res) (is : inbox w.medium c.0 ≡ Granted t q ∷ rest) where
      takes-gently : (v : TasksView) → Gentle n.tasks v
          → ((u : TaskId) (r : Res) → is_home_at deck c.0 u ≡ true → is_systems r ≡ true
          → has_res r (state_of n.tasks u).records ≡ true → same_task u t ≡ true → same_res r q ≡ true
          → is_marked r (state_of v u).records ≡ true)
          →
          Takes deck w g c n at p star (Granted t q) rest is flags v p
      takes-gently v gentle marks = record {
        manager = refl;
        hands = λ h u among. among;
        sent = λ u home sent. ((gentle.each u).sent sent, λ h. h);
        marked = λ u r home wide owned h. (gentle.each u).marked r wide h;
        heard = λ u r home wide owned h.
            by-heard u r home wide (hears-behind u r (has_res r (state_of n.tasks u).records) t q rest h);
      }
        where
          by-heard : (u : TaskId) (r : Res) → is_home_at deck c.0 u ≡ true → is_systems r ≡ true
              → ((has_res r (state_of n.tasks u).records ≡ true) × (same_task u t ≡ true) × (same_res r q ≡ true))
              ⊎ (hears u r (has_res r (state_of n.tasks u).records) rest ≡ true)
              →
              (is_marked r (state_of v u).records ≡ true) ⊎ (hears u r (has_res r (state_of v u).records) rest ≡ true)
          by-heard u r home wide (inl z) = inl (marks u r home wide z.0 z.1 z.2)
          by-heard u r home wide (inr e) = inr (ap (λ b. hears u r b rest) ((gentle.each u).has r wide) ∙ e)

      pub heard-control :
          IsWhole deck (placed w c n
          (to deck w g c n at p star (Granted t q) rest is flags (tell_control n.tasks q t) p))
          → StaysHeard deck w c n
          (to deck w g c n at p star (Granted t q) rest is flags (tell_control n.tasks q t) p)
      heard-control =
          heard-by deck w g c n at p star (Granted t q) rest is flags (tell_control n.tasks q t) p
          (λ g'. takes-gently (tell_control n.tasks q t) (gentle-control n.tasks q t) marks)
        where
          marks : (u : TaskId) (r : Res) → is_home_at deck c.0 u ≡ true → is_systems r ≡ true
              → has_res r (state_of n.tasks u).records ≡ true → same_task u t ≡ true → same_res r q ≡ true
              → is_marked r (state_of (tell_control n.tasks q t) u).records ≡ true
          marks u r home wide has task res =
              subst (λ z. is_marked r (state_of (tell_control n.tasks z t) u).records ≡ true) (same_res-exact r q res)
              (subst (λ z. is_marked r (state_of (tell_control n.tasks r z) u).records ≡ true)
              (same_task-exact u t task)
              (control-marks n.tasks r u ((g.system c.0 n at).at.good.here u home) has))

      pub heard-strange : is_of_deck deck t ≡ false
          → IsWhole deck (placed w c n (to deck w g c n at p star (Granted t q) rest is flags n.tasks p))
          → StaysHeard deck w c n (to deck w g c n at p star (Granted t q) rest is flags n.tasks p)
      heard-strange strange =
          heard-by deck w g c n at p star (Granted t q) rest is flags n.tasks
          p (λ g'. takes-gently n.tasks (gentle-none n.tasks)
          (λ u r home wide has task res.
          no_truth (is_of_deck deck t) (ap (is_of_deck deck) (sym (same_task-exact u t task))
          ∙ (and_parts (u.system.0 == c.0) (is_of_deck deck u) home).1)
          strange))

    -- ---- an answer
    module _ (t : TaskId) (answer : Answer) (rank : ℕ) (is : inbox w.medium c.0 ≡ Answered t answer rank ∷ rest) where
      now : IsSystem deck w.medium.words (items w.fixed) c.0 n (Answered t answer rank ∷ rest) (g.later c.0) (g.out c.0)
      now =
          subst (λ ms. IsSystem deck w.medium.words (items w.fixed) c.0 n ms (g.later c.0) (g.out c.0)) is
          (g.system c.0 n at)

      here : (u : TaskId) → is_home_at deck c.0 u ≡ true → is_task n.tasks u ≡ true
      here u home = (g.system c.0 n at).at.good.here u home

      -- one of a task of this system that has a rank in time has an effect
      pub effect : is_home_at deck c.0 t ≡ true → nat_le rank last_number ≡ true
          → has_effect n.tasks t answer rank ≡ true
      effect home low =
          let z =
          answer-awaited deck w.medium.words (items w.fixed) g.right c.0 n t answer rank rest (g.later c.0) (g.out c.0)
          now home in
          and_from (has_sent n.tasks t) (nat_le rank last_number && is_awaited answer (state_of n.tasks t).outstanding)
          (and_from (is_task n.tasks t) (is_sent (state_of n.tasks t).phase) (here t home) z.sent)
          (and_from (nat_le rank last_number) (is_awaited answer (state_of n.tasks t).outstanding) low
          (ap (is_awaited answer) z.is
          ∙ (ap (can_get z.asked.req.want) z.reply ∙ gets z.lists z.apart t z.asked.req.want)))

      -- it has none: it has a rank out of time, or is of no task of the system
      takes-nothing : (is_home_at deck c.0 t ≡ true → has_effect n.tasks t answer rank ≡ false)
          → Takes deck w g c n at p star (Answered t answer rank) rest is flags n.tasks p
      takes-nothing nothing = record {
        manager = refl;
        hands = λ h u among. among;
        sent = λ u home sent. (sent, λ h. lost u home h (same_task u t) refl);
        marked = λ u r home wide owned h. h;
        heard = λ u r home wide owned h. inr (missed u r home h (same_task u t) refl);
      }
        where
          out-of-time : (u : TaskId) → is_home_at deck c.0 u ≡ true → same_task u t ≡ true
              → is_timely u (Answered t answer rank) ≡ false
          out-of-time u home same =
              let at_home : is_home_at deck c.0 t ≡ true =
              ap (is_home_at deck c.0) (sym (same_task-exact u t same)) ∙ home in
              and_right (same_task u t) (nat_le rank last_number)
              (false_by (nat_le rank last_number)
              (λ low. no_truth (has_effect n.tasks t answer rank) (effect at_home low) (nothing at_home)))

          lost : (u : TaskId) → is_home_at deck c.0 u ≡ true
              → list_any (is_timely u) (Answered t answer rank ∷ rest) ≡ true → (b : Bool) → same_task u t ≡ b
              → list_any (is_timely u) rest ≡ true
          lost u home h false apart = timely-other u t answer rank rest apart h
          lost u home h true same = sym (ap (λ b. b || list_any (is_timely u) rest) (out-of-time u home same)) ∙ h

          missed : (u : TaskId) (r : Res) → is_home_at deck c.0 u ≡ true
              → hears u r (has_res r (state_of n.tasks u).records) (Answered t answer rank ∷ rest) ≡ true → (b : Bool)
              → same_task u t ≡ b → hears u r (has_res r (state_of n.tasks u).records) rest ≡ true
          missed u r home h false apart =
              hears-other u r (has_res r (state_of n.tasks u).records) t answer rank rest apart h
          missed u r home h true same =
              hears-lost u r (has_res r (state_of n.tasks u).records) t answer rank rest (out-of-time u home same) h

      -- it has one
      module _ (own : is_home_at deck c.0 t ≡ true) (low : nat_le rank last_number ≡ true) where
        z : IsAnswered n t answer
        z =
            answer-awaited deck w.medium.words (items w.fixed) g.right c.0 n t answer rank rest (g.later c.0)
            (g.out c.0)
            now own

        abbrev a : Asked
        a = z.asked

        k : AnsweredBy n.tasks (tell_answer_ranked n.tasks t z.asked answer rank) t z.asked.req.want (grants answer)
        k = answered n.tasks t (here t own) z.asked answer rank

        abbrev v : TasksView
        v = tell_answer_ranked n.tasks t z.asked answer rank

        abbrev o : Turnout
        o =
            to deck w g c n at p star (Answered t answer rank) rest is flags
            (tell_answer_ranked n.tasks t z.asked answer rank) p

        unsent : is_sent (state_of v t).phase ≡ false
        unsent = ap (λ (y : TaskState). is_sent y.phase) k.did.state ∙ k.unsent

        -- an owner has a record then
        recorded : IsWhole deck (placed w c n o) → (r : Res) → owns (list_of (all_lists w) r) t ≡ true
            → has_res r (state_of v t).records ≡ true
        recorded g' r owned =
            own-recorded-ready deck w g c n at o refl g' t own r
            (ap (λ T. has_task (list_of (lists T) r) t) (items-none w.fixed c)
            ∙ owns-has (list_of (all_lists w) r) t owned)
            unsent

        stands : (r : Res) → has_res r (state_of v t).records ≡ has_res r k.state.records
        stands r = ap (λ (y : TaskState). has_res r y.records) k.did.state

        marks : (r : Res) → is_marked r k.state.records ≡ true → is_marked r (state_of v t).records ≡ true
        marks r h = ap (λ (y : TaskState). is_marked r y.records) k.did.state ∙ h

        -- who owns without a record gets it by this answer
        asks-it : (r : Res) → owns (list_of (all_lists w) r) t ≡ true → has_res r (state_of n.tasks t).records ≡ false
            → res_wanted z.asked.req.want ≡ Some r
        asks-it r owned none =
            go (recorded-or-due deck w.medium.words (items w.fixed) g.right c.0 n (Answered t answer rank ∷ rest)
            (g.later c.0) (g.out c.0) now t own r (owns-has (list_of (all_lists w) r) t owned))
          where
            go : (has_res r (state_of n.tasks t).records ≡ true) ⊎ IsDueOn deck w.medium.words c.0 n (g.later c.0) t r
                → res_wanted z.asked.req.want ≡ Some r
            go (inl e) = no_truth (has_res r (state_of n.tasks t).records) e none
            go (inr d) =
                ap (λ (y : Asked). res_wanted y.req.want) (same_Some z.asked d.asked (sym z.is ∙ d.is)) ∙ d.wanted

        takes-answered : IsWhole deck (placed w c n o)
            → Takes deck w g c n at p star (Answered t answer rank) rest is flags v p
        takes-answered g' = record {
          manager = refl;
          hands = λ h u among. among;
          sent = λ u home sent. by-sent u home sent (one-place deck w g c.0 n at t u own home);
          marked = λ u r home wide owned h. by-mark u r owned h (one-place deck w g c.0 n at t u own home);
          heard = λ u r home wide owned h. by-heard u r owned h (one-place deck w g c.0 n at t u own home);
        }
          where
            other : (u : TaskId) → u.task ≢ t.task → same_task u t ≡ false
            other u ne =
                false_by (same_task u t) (λ e. absurd (ne (ap (λ (y : TaskId). y.task) (same_task-exact u t e))))

            by-sent : (u : TaskId) → is_home_at deck c.0 u ≡ true → is_sent (state_of v u).phase ≡ true
                → (u ≡ t) ⊎ (u.task ≢ t.task)
                → (is_sent (state_of n.tasks u).phase ≡ true)
                × (list_any (is_timely u) (Answered t answer rank ∷ rest) ≡ true → list_any (is_timely u) rest ≡ true)
            by-sent u home sent (inl same) =
                no_truth (is_sent (state_of v t).phase) (ap (λ y. is_sent (state_of v y).phase) (sym same) ∙ sent)
                unsent
            by-sent u home sent (inr ne) = (
              sym (ap (λ (y : TaskState). is_sent y.phase) (k.did.changed.others u ne)) ∙ sent,
              λ h. timely-other u t answer rank rest (other u ne) h,
            )

            by-mark : (u : TaskId) (r : Res) → owns (list_of (all_lists w) r) u ≡ true
                → is_marked r (state_of n.tasks u).records ≡ true → (u ≡ t) ⊎ (u.task ≢ t.task)
                → is_marked r (state_of v u).records ≡ true
            by-mark u r owned h (inr ne) = ap (λ (y : TaskState). is_marked r y.records) (k.did.changed.others u ne) ∙ h
            by-mark u r owned h (inl same) =
                subst (λ y. is_marked r (state_of v y).records ≡ true) (sym same)
                (marks r (k.replied.kept (records-distinct deck w.medium.words (items w.fixed) g.right c.0 n
                (Answered t answer rank ∷ rest) (g.later c.0) (g.out c.0) now t own)
                r (sym (stands r) ∙ recorded g' r (ap (λ y. owns (list_of (all_lists w) r) y) (sym same) ∙ owned))
                (ap (λ y. is_marked r (state_of n.tasks y).records) (sym same) ∙ h)))

            own-heard : (r : Res) → owns (list_of (all_lists w) r) t ≡ true
                → ((has_res r (state_of n.tasks t).records ≡ false) × (grants answer ≡ true))
                ⊎ (hears t r true rest ≡ true)
                → (is_marked r (state_of v t).records ≡ true)
                ⊎ (hears t r (has_res r (state_of v t).records) rest ≡ true)
            own-heard r owned (inl y) =
                inl (marks r (k.replied.made r (asks-it r owned y.0) y.1 y.0
                (sym (stands r) ∙ recorded g' r owned)))
            own-heard r owned (inr e) = inr (ap (λ b. hears t r b rest) (recorded g' r owned) ∙ e)

            by-heard : (u : TaskId) (r : Res) → owns (list_of (all_lists w) r) u ≡ true
                → hears u r (has_res r (state_of n.tasks u).records) (Answered t answer rank ∷ rest) ≡ true
                → (u ≡ t) ⊎ (u.task ≢ t.task)
                → (is_marked r (state_of v u).records ≡ true)
                ⊎ (hears u r (has_res r (state_of v u).records) rest ≡ true)
            by-heard u r owned h (inr ne) =
                inr (ap (λ (y : TaskState). hears u r (has_res r y.records) rest) (k.did.changed.others u ne)
                ∙ hears-other u r (has_res r (state_of n.tasks u).records) t answer rank rest (other u ne) h)
            by-heard u r owned h (inl same) =
                subst (λ y.
                (is_marked r (state_of v y).records ≡ true)
                ⊎ (hears y r (has_res r (state_of v y).records) rest ≡ true))
                (sym same)
                (own-heard r (ap (λ y. owns (list_of (all_lists w) r) y) (sym same) ∙ owned)
                (hears-first t r (has_res r (state_of n.tasks t).records) answer rank rest low
                (ap (λ y. hears y r (has_res r (state_of n.tasks y).records) (Answered t answer rank ∷ rest)) (sym same)
                ∙ h)))

      -- whichever it is
      abbrev Stays : TasksView → Type 0
      Stays v =
          IsWhole deck (placed w c n (to deck w g c n at p star (Answered t answer rank) rest is flags v p))
          → StaysHeard deck w c n (to deck w g c n at p star (Answered t answer rank) rest is flags v p)

      pub heard-answered : is_of_deck deck t ≡ true
          → IsWhole deck (placed w c n (to deck w g c n at p star (Answered t answer rank) rest is flags
          (after_mail n.tasks (Answered t answer rank)) p))
          → StaysHeard deck w c n (to deck w g c n at p star (Answered t answer rank) rest is flags
          (after_mail n.tasks (Answered t answer rank)) p)
      unfolding after_mail
      heard-answered of_deck = go (has_effect n.tasks t answer rank) refl
        where
          go : (b : Bool) → has_effect n.tasks t answer rank ≡ b
              → Stays (cond (has_effect n.tasks t answer rank)
              (tell_answer_any_ranked n.tasks t answer rank (state_of n.tasks t).outstanding) n.tasks)
          go false e =
              subst (λ b.
              Stays (cond b (tell_answer_any_ranked n.tasks t answer rank (state_of n.tasks t).outstanding) n.tasks))
              (sym e)
              (heard-by deck w g c n at p star (Answered t answer rank) rest is flags n.tasks p
              (λ g'. takes-nothing (λ home. e)))
          go true e =
              let both =
              and_parts (has_sent n.tasks t)
              (nat_le rank last_number && is_awaited answer (state_of n.tasks t).outstanding) e in
              let there = (and_parts (is_task n.tasks t) (is_sent (state_of n.tasks t).phase) both.0).0 in
              let low =
              (and_parts (nat_le rank last_number) (is_awaited answer (state_of n.tasks t).outstanding) both.1).0 in
              let own : is_home_at deck c.0 t ≡ true =
              and_from (t.system.0 == c.0) (is_some (lines_of deck t))
              (eq-eqb t.system.0 c.0 (sym (is_task-system n.tasks t there) ∙ (g.system c.0 n at).at.good.system))
              of_deck in
              subst (λ b.
              Stays (cond b (tell_answer_any_ranked n.tasks t answer rank (state_of n.tasks t).outstanding) n.tasks))
              (sym e)
              (subst (λ x. Stays (tell_answer_any_ranked n.tasks t answer rank x)) (sym (z own low).is)
              (heard-by deck w g c n at p star (Answered t answer rank) rest is flags
              (tell_answer_ranked n.tasks t (z own low).asked answer rank) p (takes-answered own low)))

      pub heard-missed : is_home_at deck c.0 t ≡ false
          → IsWhole deck (placed w c n (to deck w g c n at p star (Answered t answer rank) rest is flags n.tasks p))
          → StaysHeard deck w c n (to deck w g c n at p star (Answered t answer rank) rest is flags n.tasks p)
      heard-missed away =
          heard-by deck w g c n at p star (Answered t answer rank) rest is flags n.tasks p
          (λ g'. takes-nothing (λ home. no_truth (is_home_at deck c.0 t) home away))
