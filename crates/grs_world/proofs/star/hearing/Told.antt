-- A manager tells an owner of another system: it hears that where it has a record, or its answer comes before.
use Rattle.grs_world.proofs.Common.{[], ◌&&◌, ◌++◌, ◌<◌, ◌==◌, ◌∙◌, ◌∷◌, ◌≡◌, ◌≢◌, ◌≤◌, after_telling, and_parts, ap}
use Rattle.grs_world.proofs.Common.{arith, askers, Bool, Deck, eqb-true, false, fixed_by, Granted, has_res, has_task}
use Rattle.grs_world.proofs.Common.{inbox, inl, inr, is_among, is_home_at, is_systems, items, length, list_of, lists}
use Rattle.grs_world.proofs.Common.{managed_at, MediumState, no_truth, NodeState, owns, owns-has, placed, refl, Res}
use Rattle.grs_world.proofs.Common.{same_res, same_res-exact, same_Some, same_task, same_task-exact, Some, StarPart}
use Rattle.grs_world.proofs.Common.{state_of, subst, suc, sym, SysId, TaskId, true, Turnout, with_mail, World, ℕ}
use Rattle.grs_world.proofs.star.Heard.{StaysHeard, enq_count, hears}
use Rattle.grs_world.proofs.star.Members.{all_lists}
use Rattle.grs_world.proofs.star.Worlds.{IsWhole, in_hands, items-none}
use Rattle.grs_world.proofs.star.hearing.Gains.{telling-next, telling-untold}
use Rattle.grs_world.proofs.star.hearing.Gentle.{gentle-none}
use Rattle.grs_world.proofs.star.hearing.Mails.{hears-granted}
use Rattle.grs_world.proofs.star.hearing.Own.{hands-kept, own-addressed, owner-kept, request-kept}
use Rattle.grs_world.proofs.star.hearing.Passing.{Grown, Hearable, heard-placed, is_untold_by, untold-here, box-grown}
use Rattle.grs_world.proofs.run.Site.{Site}
use Rattle.grs_world.proofs.star.Boxes.{its-box, other-box}
use Rattle.grs_world.proofs.run.Placed.{nodes_then}

module _ (deck : Deck) (w : World) (g : IsWhole deck w) (c : SysId) (n : NodeState) (at : Site w c.0 n) (p : StarPart)
    (star : n.star ≡ Some p) (t : TaskId) (r : Res) (apart : t.system.0 ≢ c.0) (inside : t.system.0 < length w.nodes)
    (flags : ℕ) where
  abbrev sent_on : MediumState
  sent_on = record w.medium { inboxes = with_mail w.medium.inboxes t.system.0 (Granted t r); rest = flags }

  abbrev p' : StarPart
  p' = record p { manager = after_telling p.manager t r }

  abbrev o : Turnout
  o = record {
    medium = record w.medium { inboxes = with_mail w.medium.inboxes t.system.0 (Granted t r); rest = flags };
    step = record {
      node = record n { tasks = n.tasks; star = Some (record p { manager = after_telling p.manager t r }) };
      fixed = [];
    };
  }

  box_there : t.system.0 < length w.medium.inboxes
  box_there = omega (arith, inside, g.roles.systems, g.roles.inboxes)

  its_box : inbox sent_on t.system.0 ≡ inbox w.medium t.system.0 ++ Granted t r ∷ []
  its_box = its-box w.medium.inboxes t.system.0 (Granted t r) box_there

  grown : (u : ℕ) → u ≢ c.0 → Grown deck (inbox w.medium u) (inbox sent_on u)
  grown u ne = box-grown deck w.medium.inboxes t.system.0 (Granted t r) box_there tt u

  same_box : inbox sent_on c.0 ≡ inbox w.medium c.0
  same_box = other-box w.medium.inboxes t.system.0 (Granted t r) c.0 (λ e. apart (sym e))

  same_items : items (w.fixed ++ fixed_by c []) ≡ items w.fixed
  same_items = items-none w.fixed c

  pub heard-told : IsWhole deck (placed w c n o) → StaysHeard deck w c n o
  heard-told g' sent had few h = heard-placed deck w g c n at o refl sent had h g' (record {
    boxes = grown;
    own_box = own-addressed deck w g c n at o refl sent had h grown same_box;
    requests = λ u home is. request-kept deck w g c n at o refl sent had h grown same_box u home is;
    passed = λ s u v ne home known among.
        hands-kept deck w g c n at o refl sent had h grown same_box s u p p' refl refl
        (ap (λ z. is_among u (askers (in_hands z (inbox w.medium c.0)))) (part v known) ∙ among);
    owners = λ u q home wide owned.
        owner-kept deck w g c n at o refl sent had h grown same_box u q home wide (before u q owned)
        ((gentle-none n.tasks).each u);
    told = λ s y u q v ne found home wide owned known untold.
        tells s y u q ne found home wide (before u q owned) (ap (λ z. is_untold_by z u q) (part v known) ∙ untold)
        (same_res r q && same_task t u) refl;
    gained = λ s y u q ne found home wide absent present.
        no_truth (owns (list_of (all_lists w) q) u) (before u q present) absent;
    queued = λ s y u q ne found home wide absent present.
        no_truth (has_task (list_of (all_lists w) q) u)
        (sym (ap (λ T. has_task (list_of (lists T) q) u) same_items) ∙ present) absent;
    ranks = λ v e x known managed. subst (λ T. x.next ≤ suc (enq_count T)) (sym same_items)
        (telling-next p.manager t r (suc (enq_count (items w.fixed))) (λ i z is. h.ranks c.0 n p i z at star is) e
        x (ap (λ (z : StarPart). managed_at z.manager e) (same_Some p' v known) ∙ managed));
  })
    where
      part : (v : StarPart) → n.star ≡ Some v → p ≡ v
      part v known = same_Some p v (sym star ∙ known)

      before : (u : TaskId) (q : Res) → owns (list_of (lists (items (w.fixed ++ fixed_by c []))) q) u ≡ true
          → owns (list_of (all_lists w) q) u ≡ true
      before u q owned = sym (ap (λ T. owns (list_of (lists T) q) u) same_items) ∙ owned

      tells : (s : ℕ) (y : NodeState) (u : TaskId) (q : Res) → s ≢ c.0 → Site w s y → is_home_at deck s u ≡ true
          → is_systems q ≡ true
          → owns (list_of (all_lists w) q) u ≡ true → is_untold_by p u q ≡ true →
          (b : Bool) → (same_res r q && same_task t u) ≡ b → Hearable o.medium (nodes_then w c o) s y u q
      tells s y u q ne found home wide owned untold false e =
          inr (untold-here deck w g c n at o refl s u q p' ne refl (telling-untold p.manager t r q u e untold))
      tells s y u q ne found home wide owned untold true e =
          let both = and_parts (same_res r q) (same_task t u) e in
          let task : t ≡ u = same_task-exact t u both.1 in
          let res : r ≡ q = same_res-exact r q both.0 in
          let there : s ≡ t.system.0 =
          sym (eqb-true u.system.0 s (and_parts (u.system.0 == s) _ home).0)
          ∙ ap (λ (z : TaskId). z.system.0) (sym task) in
          let box : inbox sent_on s ≡ inbox w.medium s ++ Granted u q ∷ [] =
          ap (inbox sent_on) there
          ∙ (its_box
          ∙ (ap (λ i. inbox w.medium i ++ Granted t r ∷ []) (sym there)
          ∙ (ap (λ z. inbox w.medium s ++ Granted z r ∷ []) task
          ∙ ap (λ z. inbox w.medium s ++ Granted u z ∷ []) res))) in
          inl (ap (hears u q (has_res q (state_of y.tasks u).records)) box
          ∙ hears-granted u q (has_res q (state_of y.tasks u).records) (inbox w.medium s)
          (h.recorded s y u q found home wide (owns-has (list_of (all_lists w) q) u owned)))
