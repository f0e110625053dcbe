-- A system sends a request of its own task to the manager of its entry: it is in that system's hands.
use Rattle.grs_world.proofs.Common.{[], ◌++◌, ◌<◌, ◌==◌, ◌∙◌, ◌∷◌, ◌≡◌, ◌≢◌, ◌≤◌, ap, arith, Asked, askers, Bool, Deck}
use Rattle.grs_world.proofs.Common.{entry_wanted, eqb-false, eqb-true, false, fixed_by, get_or, has_res, has_task}
use Rattle.grs_world.proofs.Common.{inbox, inl, inr, is_among, is_home_at, is_marked, is_sent, is_task, items, length}
use Rattle.grs_world.proofs.Common.{List, list_of, lists, Mail, managed_at, ManagerView, MediumState, no_truth}
use Rattle.grs_world.proofs.Common.{NodeState, or_left, owns, placed, refl, request_of, Res, same_place, same_Some}
use Rattle.grs_world.proofs.Common.{same_task, same_task-exact, same_task-itself, Some, StarPart, state_of, subst, suc}
use Rattle.grs_world.proofs.Common.{sym, SysId, TaskId, TaskState, true, Turnout, with_mail, with_phase, World, ℕ}
use Rattle.grs_wire.specs.declared.medium.Mail.TheVariants.{Request}
use Rattle.grs_world.proofs.star.Heard.{IsInHands, StaysHeard, enq_count}
use Rattle.grs_world.proofs.star.Members.{all_lists}
use Rattle.grs_world.proofs.star.Systems.{ours, requests_in}
use Rattle.grs_world.proofs.star.Worlds.{IsWhole, in_hands, items-none, are_live, live-below, live-site}
use Rattle.grs_world.proofs.star.hearing.Gentle.{phase-others, phase-records}
use Rattle.grs_world.proofs.star.hearing.Mails.{among-last, requests-grown}
use Rattle.grs_world.proofs.star.hearing.Own.{hands-kept, own-addressed, owner-by, request-kept}
use Rattle.grs_world.proofs.star.hearing.Passing.{Grown, Requested, heard-placed, is_untold_by, untold-here, box-grown}
use Rattle.grs_world.proofs.run.Site.{Site, site-below, other-site}
use Rattle.grs_world.proofs.star.Boxes.{its-box, other-box}
use Rattle.grs_world.proofs.run.Placed.{nodes_then}
use Rattle.task_state.specs.declared.state.Phase.TheVariants as phases

module _ (deck : Deck) (w : World) (g : IsWhole deck w) (c : SysId) (n : NodeState) (at : Site w c.0 n) (words : List ℕ)
    (flags : ℕ) (t : TaskId) (home : is_home_at deck c.0 t ≡ true) (here : is_task n.tasks t ≡ true) (a : Asked)
    (entry : ℕ) (of_entry : entry_wanted deck.entries a.req.want ≡ Some entry) (s : SysId) (apart : s.0 ≢ c.0)
    (lives : are_live w s.0 ≡ true) (p p' : StarPart) (star : n.star ≡ Some p) (held : p'.held ≡ p.held)
    (manager : p'.manager ≡ p.manager) where
  abbrev mail : Mail
  mail = Request entry c (request_of t a)

  abbrev sent_on : MediumState
  sent_on =
      record w.medium
      { words = words; inboxes = with_mail w.medium.inboxes s.0 (Request entry c (request_of t a)); rest = flags }

  abbrev o : Turnout
  o = record {
    medium =
        record w.medium
        { words = words; inboxes = with_mail w.medium.inboxes s.0 (Request entry c (request_of t a)); rest = flags };
    step = record { node = record n { tasks = with_phase n.tasks t phases.Sent; star = Some p' }; fixed = [] };
  }

  inside : s.0 < length w.nodes
  inside = (live-below w s.0 lives).0

  box_there : s.0 < length w.medium.inboxes
  box_there = omega (arith, inside, g.roles.systems, g.roles.inboxes)

  its_box : inbox sent_on s.0 ≡ inbox w.medium s.0 ++ mail ∷ []
  its_box = its-box w.medium.inboxes s.0 mail box_there

  known_system : c.0 < length deck.systems
  known_system = let there = site-below w c.0 n at in omega (arith, there, g.roles.systems)

  grown : (u : ℕ) → u ≢ c.0 → Grown deck (inbox w.medium u) (inbox sent_on u)
  grown u ne = box-grown deck w.medium.inboxes s.0 mail box_there (of_entry, known_system) u

  same_box : inbox sent_on c.0 ≡ inbox w.medium c.0
  same_box = other-box w.medium.inboxes s.0 mail c.0 (λ e. apart (sym e))

  same_items : items (w.fixed ++ fixed_by c []) ≡ items w.fixed
  same_items = items-none w.fixed c

  -- it is in the hands of its manager
  in-manager : IsInHands o.medium (nodes_then w c o) t
  in-manager =
      let k : NodeState = get_or w.nodes s.0 n in
      let found : Site w s.0 k = live-site w s.0 n lives in
      let m = g.roles.node s.0 k found in
      record {
        system = s.0;
        node = k;
        part = m.part;
        site = other-site w c n at o s.0 k apart found found.live;
        star = m.star;
        among =
            among-last t m.part.held (requests_in (inbox sent_on s.0)) (ap (λ ms. is_among t (askers (requests_in ms)))
            its_box
            ∙ (ap (λ qs. is_among t (askers qs)) (requests-grown (inbox w.medium s.0) (mail ∷ []))
            ∙ among-last t (requests_in (inbox w.medium s.0)) (request_of t a ∷ [])
            (or_left (same_task t t) false (same_task-itself t))));
      }

  pub heard-sent : IsWhole deck (placed w c n o) → StaysHeard deck w c n o
  heard-sent g' sent had few h = heard-placed deck w g c n at o refl sent had h g' (record {
    boxes = grown;
    own_box = own-addressed deck w g c n at o refl sent had h grown same_box;
    requests = λ u own is. sends u own is (u.task == t.task) refl;
    passed = λ i u v ne own known among.
        hands-kept deck w g c n at o refl sent had h grown same_box i u p p' refl held
        (ap (λ z. is_among u (askers (in_hands z (inbox w.medium c.0)))) (part v known) ∙ among);
    owners = λ u q own wide owned.
        owner-by deck w g c n at o refl sent had h grown same_box u q own wide (before u q owned)
        (λ marked. ap (is_marked q) (phase-records n.tasks t phases.Sent here u) ∙ marked)
        (ap (has_res q) (phase-records n.tasks t phases.Sent here u));
    told = λ i y u q v ne found own wide owned known untold.
        inr (untold-here deck w g c n at o refl i u q p' ne refl
        (keeps u q (ap (λ z. is_untold_by z u q) (part v known) ∙ untold)));
    gained = λ i y u q ne found own wide absent present.
        no_truth (owns (list_of (all_lists w) q) u) (before u q present) absent;
    queued = λ i y u q ne found own wide absent present.
        no_truth (has_task (list_of (all_lists w) q) u)
        (sym (ap (λ T. has_task (list_of (lists T) q) u) same_items) ∙ present) absent;
    ranks = λ v e x known managed.
        subst (λ T. x.next ≤ suc (enq_count T)) (sym same_items)
        (h.ranks c.0 n p e x at star (sym (ap (λ (z : ManagerView). managed_at z e) manager)
        ∙ (ap (λ (z : StarPart). managed_at z.manager e) (same_Some p' v known) ∙ managed)));
  })
    where
      part : (v : StarPart) → n.star ≡ Some v → p ≡ v
      part v known = same_Some p v (sym star ∙ known)

      keeps : (u : TaskId) (q : Res) → is_untold_by p u q ≡ true → is_untold_by p' u q ≡ true
      keeps u q untold =
          subst (λ (z : ManagerView). is_untold_by (record p { manager = z }) u q ≡ true) (sym manager) untold

      before : (u : TaskId) (q : Res) → owns (list_of (lists (items (w.fixed ++ fixed_by c []))) q) u ≡ true
          → owns (list_of (all_lists w) q) u ≡ true
      before u q owned = sym (ap (λ T. owns (list_of (lists T) q) u) same_items) ∙ owned

      sends : (u : TaskId) → is_home_at deck c.0 u ≡ true
          → is_sent (state_of (with_phase n.tasks t phases.Sent) u).phase ≡ true → (b : Bool) → (u.task == t.task) ≡ b
          → Requested o.medium (nodes_then w c o) c.0 u
      sends u own is false e =
          request-kept deck w g c n at o refl sent had h grown same_box u own
          (sym (ap (λ (y : TaskState). is_sent y.phase)
          (phase-others n.tasks t phases.Sent here u (eqb-false u.task t.task e)))
          ∙ is)
      sends u own is true e =
          let k = (g.system c.0 n at).at in
          let x = ours deck c.0 (items w.fixed) (g.later c.0) (g.out c.0) n k u own in
          let y = ours deck c.0 (items w.fixed) (g.later c.0) (g.out c.0) n k t home in
          let same : u ≡ t =
          same_task-exact u t (same_place deck c.0 n.tasks u t x.0 y.0 x.1 y.1 (eqb-true u.task t.task e)) in
          inl (subst (IsInHands o.medium (nodes_then w c o)) (sym same) in-manager)
