-- A run that has changed to star mode and is at rest: nothing is outstanding any more, and each owner was told so.
use Rattle.grs_world.proofs.Common.{[], ◌&&◌, ◌++◌, ◌+◌, ◌<◌, ◌==◌, ◌||◌, ◌∙◌, ◌∷◌, ◌≡◌, ◌≢◌, ◌⊎◌, and_from, and_parts}
use Rattle.grs_world.proofs.Common.{ap, arith, askers, at_rest, Bool, Deck, eqb-false, eqb-true, false, false_by}
use Rattle.grs_world.proofs.Common.{goes_on, has, has-zero, has_res, inbox, inl, inr, is_among, is_marked, is_pending}
use Rattle.grs_world.proofs.Common.{is_res_of, is_sent, is_systems, is_task, is_to_send, is_unsent, IsOurs, items}
use Rattle.grs_world.proofs.Common.{items_of, kept_at, kept_for, length, List, list_any, list_of, list_of-part, lists}
use Rattle.grs_world.proofs.Common.{Managed, managed_of, map, Meaning, medium_at_end, new_task, no_truth, NodeState}
use Rattle.grs_world.proofs.Common.{None, not, Option, or_other, or_parts, owns, owns-may, Phase, Ranked, refl, Res}
use Rattle.grs_world.proofs.Common.{RunItem, same_res, same_Some, same_task, same_task-exact, slice_get}
use Rattle.grs_world.proofs.Common.{slice_get_within, Some, StarPart, state_of, subst, suc, sym, TaskId, TasksView}
use Rattle.grs_world.proofs.Common.{true, World, zero, ℕ}
use Rattle.grs_world.specs.Running.{is_busy, none_busy}
use Rattle.grs_node.specs.Node.{is_star_pending}
use Rattle.grs_wire.specs.Masks.{all_others}
use Rattle.contention_mgr.specs.Manager.{any_untold_at, any_untold_in, is_of, is_untold}
use Rattle.grs_node.specs.Star.{is_part_pending}
use Rattle.grs_medium.specs.Inboxes.{is_empty}
use Rattle.task_state.proofs.ViewLaws.{is_task-place}
use Rattle.grs_known.proofs.system.Good.{ours-home}
use Rattle.grs_world.proofs.move.Changing.{IsChanging}
use Rattle.grs_world.proofs.at_rest.AtEnd.{IsStill}
use Rattle.grs_world.proofs.at_rest.Restful.{IsRestful, had-star, had_in, had_of, sent-star, sent_in, sent_of}
use Rattle.grs_world.proofs.at_rest.RingEnd.{calm-at, no_length, none-at, pending-at}
use Rattle.grs_world.proofs.at_rest.View.{shown-star, view-is, view-of}
use Rattle.grs_world.proofs.star.Ghosts.{ghosted}
use Rattle.grs_world.proofs.star.Heard.{IsHeard, IsInHands, IsUntold, hears, is_timely}
use Rattle.grs_world.proofs.star.Systems.{IsSystem}
use Rattle.grs_world.proofs.star.Worlds.{in_hands}
use Rattle.grs_world.proofs.system.AtNode.{opens_of}
use Rattle.grs_world.proofs.run.Site.{at_site}
use Rattle.task_state.specs.declared.state.Phase.TheVariants as phases

-- ---- nothing is pending
pub others-pass : (k removed : ℕ) (test : ℕ → Bool) (s : ℕ) → all_others k removed test ≡ true → s < k
    → has removed s ≡ false → test s ≡ true
others-pass zero removed test s h l live = absurd (omega (arith, l))
others-pass (suc k) removed test s h l live = go (s == k) refl (λ m. others-pass k removed test s both.0 m live)
  where
    both : (all_others k removed test ≡ true) × ((has removed k || test k) ≡ true)
    both = and_parts (all_others k removed test) (has removed k || test k) h

    go : (b : Bool) → (s == k) ≡ b → (s < k → test s ≡ true) → test s ≡ true
    go true e more =
        let same : s ≡ k = eqb-true s k e in
        ap test same ∙ (ap (λ c. c || test k) (sym (ap (has removed) (sym same) ∙ live)) ∙ both.1)
    go false e more = let ne : s ≢ k = eqb-false s k e in more (omega (arith, l, ne))

pub untold-none : (home : ℕ) (r : Res) (t : TaskId) → t.system.0 ≢ home → (xs : List Ranked) → any_untold_in home xs ≡ false
    → list_any (λ y. is_of r t y && y.untold) xs ≡ true → ⊥
untold-none home r t ne [] h e = absurd (cc)
untold-none home r t ne (x ∷ xs) h e = go (is_of r t x) refl x.untold refl e (untold-none home r t ne xs parts.1)
  where
    parts : (is_untold home x ≡ false) × (any_untold_in home xs ≡ false)
    parts = or_parts (is_untold home x) (any_untold_in home xs) h

    go : (a : Bool) → is_of r t x ≡ a → (b : Bool) → x.untold ≡ b
        → ((a && b) || list_any (λ y. is_of r t y && y.untold) xs) ≡ true
        → (list_any (λ y. is_of r t y && y.untold) xs ≡ true → ⊥) → ⊥
    go false f b g k more = more k
    go true f false g k more = more k
    go true f true g k more =
        let same : t ≡ x.elem.task =
        same_task-exact t x.elem.task (and_parts (same_res r x.res) (same_task t x.elem.task) f).1 in
        let apart : (home == x.elem.task.system.0) ≡ false =
        false_by (home == x.elem.task.system.0)
        (λ z. absurd (ne (ap (λ (u : TaskId). u.system.0) same ∙ sym (eqb-true home x.elem.task.system.0 z)))) in
        no_truth (is_untold home x) (and_from x.untold (not (home == x.elem.task.system.0)) g (ap not apart)) parts.0

untold-at : (home : ℕ) (os : List (Option Managed)) (e : ℕ) → any_untold_at home os ≡ false
    → any_untold_in home (items_of (kept_at os e)) ≡ false
untold-at home [] e h = refl
untold-at home (o ∷ os) zero h = (or_parts (any_untold_in home (items_of o)) (any_untold_at home os) h).0
untold-at home (o ∷ os) (suc e) h =
    untold-at home os e (or_parts (any_untold_in home (items_of o)) (any_untold_at home os) h).1

pub untold-for : (home : ℕ) (os : List (Option Managed)) (o : Option ℕ) → any_untold_at home os ≡ false
    → any_untold_in home (items_of (kept_for os o)) ≡ false
untold-for home os None h = refl
untold-for home os (Some e) h = untold-at home os e h

-- no task here waits to send
pub to-send-at : (v : TasksView) (t : TaskId) → list_any (λ x. is_to_send x.phase) v.tasks ≡ false → is_task v t ≡ true
    → is_to_send (state_of v t).phase ≡ false
unfolding state_of
to-send-at v t h here = none-at (λ x. is_to_send x.phase) v.tasks t.task new_task h (is_task-place v t here)

module _ (deck : Deck) (w : World) (g : IsChanging deck w) (h : IsRestful deck w) (rest : at_rest deck w ≡ true) where
  both : (none_busy w.medium.removed 0 (map (is_busy deck w.medium.removed) w.nodes) ≡ true)
      × (medium_at_end w.medium ≡ true)
  unfolding at_rest
  both =
      and_parts (none_busy w.medium.removed 0 (map (is_busy deck w.medium.removed) w.nodes)) (medium_at_end w.medium)
      rest

  ends : (all_others w.medium.message.systems w.medium.removed (λ s. is_empty (inbox w.medium s)) ≡ true)
      × (((length w.medium.message.entries == 0) && (w.medium.message.still == 0)) ≡ true)
  unfolding medium_at_end
  ends =
      and_parts (all_others w.medium.message.systems w.medium.removed (λ s. is_empty (inbox w.medium s)))
      ((length w.medium.message.entries == 0) && (w.medium.message.still == 0)) both.1

  none-still : w.medium.message.still ≡ 0
  none-still =
      eqb-true w.medium.message.still 0
      (and_parts (length w.medium.message.entries == 0) (w.medium.message.still == 0) ends.1).1

  -- so each live system has changed
  module _ (s : ℕ) (n : NodeState) (at : slice_get w.nodes s ≡ Some n) (alive : has w.medium.removed s ≡ false) where
    part-here : (p : StarPart) × (n.star ≡ Some p)
    part-here = go n.star refl
      where
        go : (o : Option StarPart) → n.star ≡ o → (p : StarPart) × (n.star ≡ Some p)
        go (Some p) e = (p, e)
        go None e =
            absurd (no_truth (has w.medium.message.still s) (h.still s n at alive e)
            (ap (λ m. has m s) none-still ∙ has-zero s))

    there : slice_get g.view s ≡ Some n
    there =
        view-of deck w g s n at alive
        ∙ ap (λ (z : NodeState). Some z) (shown-star deck w.medium.message.entries s n part-here.0 part-here.1)

    box-none : inbox w.medium s ≡ []
    box-none =
        no_length (inbox w.medium s) (others-pass w.medium.message.systems w.medium.removed
        (λ u. is_empty (inbox w.medium u)) s ends.0
        (let inside = slice_get_within g.view s n there in
        let a = g.whole.roles.systems in
        let b = g.around in
        omega (arith, inside, a, b))
        alive)

    idle : is_pending deck n ≡ false
    idle =
        let same : 0 + s ≡ s = omega arith in
        pending-at deck w.medium.removed 0 w.nodes s n both.0 at (ap (has w.medium.removed) same ∙ alive)

    parts : (list_any (λ x. goes_on x.phase) n.tasks.tasks ≡ false)
        × (list_any (λ x. is_to_send x.phase) n.tasks.tasks ≡ false) × (is_part_pending part-here.0 ≡ false)
    unfolding is_pending
    parts =
        let a = or_parts (list_any (λ x. goes_on x.phase) n.tasks.tasks) _ idle in
        let b = or_parts (not (length n.outbox == 0)) _ a.1 in
        let c = (or_parts (is_star_pending n.tasks n.star) _ b.1).0 in
        let d =
        or_parts (list_any (λ x. is_to_send x.phase) n.tasks.tasks) (is_part_pending part-here.0)
        (ap (is_star_pending n.tasks) (sym part-here.1) ∙ c) in
        (a.0, d.0, d.1)

  -- nothing is in anybody's hands, and nobody has still to be told
  view-nodes : (s : ℕ) → has w.medium.removed s ≡ false → slice_get w.nodes s ≡ slice_get g.view s
  view-nodes =
      view-is deck w g w.nodes refl (λ s n at live.
      at
      ∙ ap (λ (z : NodeState). Some z)
      (sym (shown-star deck w.medium.message.entries s n (part-here s n at live).0 (part-here s n at live).1)))

  no-hands : (t : TaskId) → IsInHands w.medium g.view t → ⊥
  no-hands t i =
      let at : slice_get w.nodes i.system ≡ Some i.node = view-nodes i.system i.site.live ∙ i.site.at in
      let p = part-here i.system i.node at i.site.live in
      let same : p.0 ≡ i.part = same_Some p.0 i.part (sym p.1 ∙ i.star) in
      let held : i.part.held ≡ [] =
      ap (λ (q : StarPart). q.held) (sym same)
      ∙ no_length p.0.held
      (by_not (length p.0.held == 0)
      (or_parts (not (length p.0.held == 0)) _ (parts i.system i.node at i.site.live).2).0) in
      absurd (let no : is_among t (askers (in_hands i.part [])) ≡ true =
      ap (λ ms. is_among t (askers (in_hands i.part ms))) (sym (box-none i.system i.node at i.site.live)) ∙ i.among in
      let none : is_among t (askers ([] ++ [])) ≡ true = ap (λ qs. is_among t (askers (qs ++ []))) (sym held) ∙ no in
      cc)
    where
      by_not : (b : Bool) → not b ≡ false → b ≡ true
      by_not true e = refl
      by_not false e = absurd (cc)

  no-untold : (s : ℕ) (t : TaskId) (r : Res) → t.system.0 ≡ s → IsUntold w.medium g.view s t r → ⊥
  no-untold s t r home i =
      let at : slice_get w.nodes i.system ≡ Some i.node = view-nodes i.system i.site.live ∙ i.site.at in
      let p = part-here i.system i.node at i.site.live in
      let same : p.0 ≡ i.part = same_Some p.0 i.part (sym p.1 ∙ i.star) in
      let member = g.whole.roles.node i.system i.node i.site in
      let mine : member.part ≡ i.part = same_Some member.part i.part (sym member.star ∙ i.star) in
      let at_home : i.part.manager.system.0 ≡ i.system =
      ap (λ (q : StarPart). q.manager.system.0) (sym mine) ∙ member.fits.home in
      let told : any_untold_at i.part.manager.system.0 i.part.manager.entries ≡ false =
      subst (λ (q : StarPart). any_untold_at q.manager.system.0 q.manager.entries ≡ false) same
      (or_parts (any_untold_at p.0.manager.system.0 p.0.manager.entries) _
      (or_parts (not (length p.0.held == 0)) _ (parts i.system i.node at i.site.live).2).1).0 in
      untold-none i.part.manager.system.0 r t (λ e. i.apart (sym at_home ∙ (sym e ∙ home)))
      (items_of (managed_of i.part.manager r)) (untold-for i.part.manager.system.0 i.part.manager.entries _ told)
      i.untold

  abbrev P : List RunItem
  P = items w.fixed

  abbrev H : IsHeard deck (record w { nodes = g.view }) (sent_of w.nodes) (had_of deck w.medium.message.entries w.nodes)
  H = h.heard g

  module _ (s : ℕ) (n : NodeState) (at : slice_get w.nodes s ≡ Some n) (alive : has w.medium.removed s ≡ false) where
    sys : IsSystem deck w.medium.words P s n (inbox w.medium s) (g.whole.later s) (g.whole.out s)
    sys = g.whole.system s n (at_site (there s n at alive) alive)

    unsent : (t : TaskId) (ls : List Meaning) → IsOurs deck s n.tasks t ls
        → is_unsent (state_of n.tasks t).phase ≡ false
    unsent t ls ours = go (state_of n.tasks t).phase refl
      where
        not-sent : (is_sent (state_of n.tasks t).phase ≡ true) → ⊥
        not-sent e =
            by-request (H.requests s n t (at_site (there s n at alive) alive) (ours-home deck s n.tasks t ls ours)
            (ap (λ o. sent_in o t) at ∙ (sent-star n (part-here s n at alive).0 t (part-here s n at alive).1 ∙ e)))
          where
            by-request : IsInHands w.medium g.view t ⊎ (list_any (is_timely t) (inbox w.medium s) ≡ true)
                → ⊥
            by-request (inl i) = no-hands t i
            by-request (inr f) =
                absurd (let no : list_any (is_timely t) [] ≡ true =
                ap (list_any (is_timely t)) (sym (box-none s n at alive)) ∙ f in
                cc)

        go : (p : Phase) → (state_of n.tasks t).phase ≡ p → is_unsent p ≡ false
        go phases.ToSend e =
            absurd (no_truth (is_to_send (state_of n.tasks t).phase) (ap is_to_send e)
            (to-send-at n.tasks t (parts s n at alive).1 ours.here))
        go phases.Sent e = absurd (not-sent (ap is_sent e))
        go phases.Ready e = refl
        go phases.HeldAnswer e = refl
        go (phases.HeldLine r) e = refl
        go (phases.Ending c) e = refl
        go phases.Ended e = refl

    marked-at : (t : TaskId) (ls : List Meaning) (r : Res) → IsOurs deck s n.tasks t ls
        → owns (list_of (lists P) r) t ≡ true → is_marked r (state_of n.tasks t).records ≡ true
    marked-at t ls r ours own = go (is_systems r) refl
      where
        place : (is_systems r || is_res_of t.system.0 r) ≡ true
        place = (and_parts _ (is_systems r || is_res_of t.system.0 r) (owns-may deck P r t g.whole.right.asks own)).1

        by-owner : (had_of deck w.medium.message.entries w.nodes s t r ≡ true)
            ⊎ ((hears t r (has_res r (state_of n.tasks t).records) (inbox w.medium s) ≡ true)
            ⊎ IsUntold w.medium g.view s t r)
            → is_marked r (state_of n.tasks t).records ≡ true
        by-owner (inl e) =
            sym (had-star deck w.medium.message.entries s n (part-here s n at alive).0 t r (part-here s n at alive).1)
            ∙ (ap (λ o. had_in deck w.medium.message.entries s o t r) (sym at) ∙ e)
        by-owner (inr (inl e)) =
            absurd (let no : hears t r (has_res r (state_of n.tasks t).records) [] ≡ true =
            ap (hears t r (has_res r (state_of n.tasks t).records)) (sym (box-none s n at alive)) ∙ e in
            cc)
        by-owner (inr (inr i)) = absurd (no-untold s t r ours.home i)

        go : (b : Bool) → is_systems r ≡ b → is_marked r (state_of n.tasks t).records ≡ true
        go true wide =
            by-owner (H.owners s n t r (at_site (there s n at alive) alive) (ours-home deck s n.tasks t ls ours) wide
            own)
        go false narrow =
            let here : is_res_of s r ≡ true =
            subst (λ i. is_res_of i r ≡ true) ours.home
            (or_other (is_systems r) (is_res_of t.system.0 r) place narrow) in
            ((h.dated s n at alive).own t ls ours).told r (ap not narrow)
            (ap (λ z. owns (list_of z r) t) sys.at.own
            ∙ (ap (λ zs. owns zs t) (list_of-part (is_res_of s) (lists P) r here) ∙ own))

    pub still-star : IsStill deck s P n
    still-star = record {
      opens = opens_of (g.whole.later s) (g.whole.out s) (ghosted n);
      good = sys.at.good;
      idle = λ t ls ours. ((h.dated s n at alive).date t ls ours.lines ours.here).closed (unsent t ls ours);
      calm = λ t ls ours. (calm-at n.tasks t (parts s n at alive).0 ours.here, unsent t ls ours);
      marked = marked-at;
      date = (h.dated s n at alive).date;
    }
