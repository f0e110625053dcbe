-- Where a star that lost systems which manage no lock entry is at rest nothing is lost: each live system knows then who
-- was removed, so it is what is shown of it.
use Rattle.grs_world.proofs.Common.{[], ◌&&◌, ◌++◌, ◌+◌, ◌==◌, ◌||◌, ◌∙◌, ◌≡◌, ◌⊎◌, and_parts, ap, arith, askers}
use Rattle.grs_world.proofs.Common.{at_rest, Bool, Deck, eqb-true, Event, false, FitsStar, goes_on, has, has_res, inbox}
use Rattle.grs_world.proofs.Common.{inbox_of, inl, inr, is_among, is_marked, is_pending, is_res_of, is_sent, is_systems}
use Rattle.grs_world.proofs.Common.{is_to_send, is_unsent, IsOurs, items, items_of, length, List, list_any, list_of}
use Rattle.grs_world.proofs.Common.{list_of-part, lists, managed_of, map, may_be_star, Meaning, medium_at_end, members}
use Rattle.grs_world.proofs.Common.{no_truth, NodeState, None, not, Option, or_other, or_parts, owns, owns-may, Phase}
use Rattle.grs_world.proofs.Common.{refl, Res, run, RunItem, same_Some, slice_get, slice_get-past, slice_get_within}
use Rattle.grs_world.proofs.Common.{Some, StarPart, state_of, subst, sym, TaskId, true, without_those, World, ℕ}
use Rattle.contention_mgr.specs.Manager.{any_untold_at}
use Rattle.grs_known.proofs.system.Good.{ours-home}
use Rattle.grs_medium.specs.Inboxes.{is_empty}
use Rattle.grs_node.specs.Node.{is_star_pending}
use Rattle.grs_node.specs.Star.{is_part_pending}
use Rattle.grs_wire.specs.Decks.{IsBounded}
use Rattle.grs_wire.specs.Masks.{all_others}
use Rattle.grs_world.specs.AtRest.{RestsInTheEnd}
use Rattle.grs_world.specs.InStar.{NoneTakesEntries}
use Rattle.grs_world.specs.Running.{is_busy, none_busy}
use Rattle.grs_world.proofs.at_rest.AtEnd.{IsStill}
use Rattle.grs_world.proofs.at_rest.End.{rests-by, still-good}
use Rattle.grs_world.proofs.at_rest.RingEnd.{busy-at, calm-at, no_length}
use Rattle.grs_world.proofs.at_rest.StarEnd.{others-pass, to-send-at, untold-for, untold-none}
use Rattle.grs_world.proofs.loss.Heard.{had-known, had_all, had_at, HearsOn, sent_at}
use Rattle.grs_world.proofs.loss.Laws.{losses_passed}
use Rattle.grs_world.proofs.loss.Leaves.{mail_without}
use Rattle.grs_world.proofs.loss.Losing.{none-unknown}
use Rattle.grs_world.proofs.loss.Run.{every_loss, GoodLoss, has_lost, has_spared, loss_history, loss_told}
use Rattle.grs_world.proofs.loss.View.{IsLosing, left-same, unknown, viewed_by}
use Rattle.grs_world.proofs.run.Site.{at_site, Site}
use Rattle.grs_world.proofs.star.Ghosts.{ghosted}
use Rattle.grs_world.proofs.star.Heard.{hears, IsInHands, IsUntold, is_timely}
use Rattle.grs_world.proofs.star.Systems.{IsSystem}
use Rattle.grs_world.proofs.star.Worlds.{in_hands}
use Rattle.grs_world.proofs.system.AtNode.{opens_of}
use Rattle.task_state.specs.declared.state.Phase.TheVariants as phases

module _ (deck : Deck) (w : World) (g : IsLosing deck w) (h : HearsOn deck w g) (rest : at_rest deck w ≡ true) where
  abbrev V : World
  V = viewed_by w g.view g.boxes

  both : (none_busy w.medium.removed 0 (map (is_busy deck w.medium.removed) w.nodes) ≡ true)
      × (medium_at_end w.medium ≡ true)
  unfolding at_rest
  both =
      and_parts (none_busy w.medium.removed 0 (map (is_busy deck w.medium.removed) w.nodes)) (medium_at_end w.medium)
      rest

  ends : (all_others w.medium.message.systems w.medium.removed (λ s. is_empty (inbox w.medium s)) ≡ true)
      × (((length w.medium.message.entries == 0) && (w.medium.message.still == 0)) ≡ true)
  unfolding medium_at_end
  ends =
      and_parts (all_others w.medium.message.systems w.medium.removed (λ s. is_empty (inbox w.medium s)))
      ((length w.medium.message.entries == 0) && (w.medium.message.still == 0)) both.1

  module _ (s : ℕ) (n : NodeState) (at : slice_get w.nodes s ≡ Some n) (alive : has w.medium.removed s ≡ false) where
    idle : (is_pending deck n ≡ false) × (not (n.known == w.medium.removed) ≡ false)
    idle =
        let same : 0 + s ≡ s = omega arith in
        or_parts (is_pending deck n) (not (n.known == w.medium.removed))
        (busy-at deck w.medium.removed 0 w.nodes s n both.0 at (ap (has w.medium.removed) same ∙ alive))

    -- it knows who was removed
    knows : n.known ≡ w.medium.removed
    knows = eqb-true n.known w.medium.removed (by-not (n.known == w.medium.removed) idle.1)
      where
        by-not : (b : Bool) → not b ≡ false → b ≡ true
        by-not true e = refl
        by-not false e = no_truth true refl e

    -- so it is what is shown of it
    there : slice_get g.view s ≡ Some n
    there =
        (g.shown s n at alive).1
        ∙ ap (λ (z : NodeState). Some z)
        (left-same w.medium.removed n (g.shown s n at alive).0 (g.shown s n at alive).2 knows)

    site : Site V s n
    site = at_site there alive

    none-unknown-here : unknown w.medium.removed n ≡ []
    none-unknown-here =
        ap (λ r. members (without_those n.known r)) (sym knows) ∙ none-unknown n.known

    abbrev p : StarPart
    p = (g.shown s n at alive).2.part

    star : n.star ≡ Some (g.shown s n at alive).2.part
    star = (g.shown s n at alive).2.star

    box-none : inbox_of g.boxes s ≡ []
    box-none =
        let inside = slice_get_within w.nodes s n at in
        let a = g.count in
        let b = g.around in
        g.mail s alive
        ∙ ap (mail_without (has w.medium.removed))
        (no_length (inbox w.medium s) (others-pass w.medium.message.systems w.medium.removed
        (λ u. is_empty (inbox w.medium u)) s ends.0 (omega (arith, inside, a, b)) alive))

    parts : (list_any (λ x. goes_on x.phase) n.tasks.tasks ≡ false)
        × (list_any (λ x. is_to_send x.phase) n.tasks.tasks ≡ false)
        × (is_part_pending (g.shown s n at alive).2.part ≡ false)
    unfolding is_pending
    parts =
        let a = or_parts (list_any (λ x. goes_on x.phase) n.tasks.tasks) _ idle.0 in
        let b = or_parts (not (length n.outbox == 0)) _ a.1 in
        let c = (or_parts (is_star_pending n.tasks n.star) _ b.1).0 in
        let d =
        or_parts (list_any (λ x. is_to_send x.phase) n.tasks.tasks) (is_part_pending p)
        (ap (is_star_pending n.tasks) (sym star) ∙ c) in
        (a.0, d.0, d.1)

  -- each live system that is shown is one of these
  shown-node : (i : ℕ) (k : NodeState) → Site V i k → slice_get w.nodes i ≡ Some k
  shown-node i k u = go (slice_get w.nodes i) refl
    where
      go : (o : Option NodeState) → slice_get w.nodes i ≡ o → slice_get w.nodes i ≡ Some k
      go (Some n) at =
          at ∙ ap (λ (z : NodeState). Some z) (same_Some n k (sym (there i n at u.live) ∙ u.at))
      go None past =
          let beyond = slice_get-past w.nodes i past in
          let within = slice_get_within g.view i k u.at in
          absurd (omega (arith, beyond, within, g.count, g.whole.roles.systems))

  -- nothing is in anybody's hands, and nobody has still to be told
  no-hands : (t : TaskId) → IsInHands V.medium V.nodes t → ⊥
  no-hands t i =
      let at = shown-node i.system i.node i.site in
      let same : p i.system i.node at i.site.live ≡ i.part =
      same_Some (p i.system i.node at i.site.live) i.part (sym (star i.system i.node at i.site.live) ∙ i.star) in
      let held : i.part.held ≡ [] =
      ap (λ (q : StarPart). q.held) (sym same)
      ∙ no_length (p i.system i.node at i.site.live).held
      (by-not (length (p i.system i.node at i.site.live).held == 0)
      (or_parts (not (length (p i.system i.node at i.site.live).held == 0)) _
      (parts i.system i.node at i.site.live).2).0) in
      absurd (let no : is_among t (askers (in_hands i.part [])) ≡ true =
      ap (λ ms. is_among t (askers (in_hands i.part ms))) (sym (box-none i.system i.node at i.site.live)) ∙ i.among in
      let none : is_among t (askers ([] ++ [])) ≡ true = ap (λ qs. is_among t (askers (qs ++ []))) (sym held) ∙ no in
      cc)
    where
      by-not : (b : Bool) → not b ≡ false → b ≡ true
      by-not true e = refl
      by-not false e = no_truth true refl e

  no-untold : (s : ℕ) (t : TaskId) (r : Res) → t.system.0 ≡ s → IsUntold V.medium V.nodes s t r → ⊥
  no-untold s t r home i =
      let at = shown-node i.system i.node i.site in
      let same : p i.system i.node at i.site.live ≡ i.part =
      same_Some (p i.system i.node at i.site.live) i.part (sym (star i.system i.node at i.site.live) ∙ i.star) in
      let member = g.whole.roles.node i.system i.node i.site in
      let mine : member.part ≡ i.part = same_Some member.part i.part (sym member.star ∙ i.star) in
      let at-home : i.part.manager.system.0 ≡ i.system =
      ap (λ (q : StarPart). q.manager.system.0) (sym mine) ∙ member.fits.home in
      let told : any_untold_at i.part.manager.system.0 i.part.manager.entries ≡ false =
      subst (λ (q : StarPart). any_untold_at q.manager.system.0 q.manager.entries ≡ false) same
      (or_parts
      (any_untold_at (p i.system i.node at i.site.live).manager.system.0
      (p i.system i.node at i.site.live).manager.entries) _
      (or_parts (not (length (p i.system i.node at i.site.live).held == 0)) _
      (parts i.system i.node at i.site.live).2).1).0 in
      untold-none i.part.manager.system.0 r t (λ e. i.apart (sym at-home ∙ (sym e ∙ home)))
      (items_of (managed_of i.part.manager r)) (untold-for i.part.manager.system.0 i.part.manager.entries _ told)
      i.untold

  abbrev P : List RunItem
  P = items w.fixed

  module _ (s : ℕ) (n : NodeState) (at : slice_get w.nodes s ≡ Some n) (alive : has w.medium.removed s ≡ false) where
    sys : IsSystem deck w.medium.words P s n (inbox_of g.boxes s) (g.whole.later s) (g.whole.out s)
    sys = g.whole.system s n (site s n at alive)

    not-sent : (t : TaskId) (ls : List Meaning) → IsOurs deck s n.tasks t ls
        → is_sent (state_of n.tasks t).phase ≡ true → ⊥
    not-sent t ls ours e =
        by-request (h.heard.requests s n t (site s n at alive) (ours-home deck s n.tasks t ls ours)
        (ap (λ o. sent_at o t) at ∙ e))
      where
        by-request : IsInHands V.medium V.nodes t ⊎ (list_any (is_timely t) (inbox V.medium s) ≡ true) → ⊥
        by-request (inl i) = no-hands t i
        by-request (inr f) =
            absurd (let no : list_any (is_timely t) [] ≡ true =
            ap (list_any (is_timely t)) (sym (box-none s n at alive)) ∙ f in
            cc)

    unsent : (t : TaskId) (ls : List Meaning) → IsOurs deck s n.tasks t ls
        → is_unsent (state_of n.tasks t).phase ≡ false
    unsent t ls ours = go (state_of n.tasks t).phase refl
      where
        go : (ph : Phase) → (state_of n.tasks t).phase ≡ ph → is_unsent ph ≡ false
        go phases.ToSend e =
            no_truth (is_to_send (state_of n.tasks t).phase) (ap is_to_send e)
            (to-send-at n.tasks t (parts s n at alive).1 ours.here)
        go phases.Sent e = absurd (not-sent t ls ours (ap is_sent e))
        go phases.Ready e = refl
        go phases.HeldAnswer e = refl
        go (phases.HeldLine r) e = refl
        go (phases.Ending c) e = refl
        go phases.Ended e = refl

    marked-at : (t : TaskId) (ls : List Meaning) (r : Res) → IsOurs deck s n.tasks t ls
        → owns (list_of (lists P) r) t ≡ true → is_marked r (state_of n.tasks t).records ≡ true
    marked-at t ls r ours own = go (is_systems r) refl
      where
        place : (is_systems r || is_res_of t.system.0 r) ≡ true
        place = (and_parts _ (is_systems r || is_res_of t.system.0 r) (owns-may deck P r t g.whole.right.asks own)).1

        by-owner : (had_all w.medium.removed w.nodes s t r ≡ true)
            ⊎ ((hears t r (has_res r (state_of n.tasks t).records) (inbox V.medium s) ≡ true)
            ⊎ IsUntold V.medium V.nodes s t r)
            → is_marked r (state_of n.tasks t).records ≡ true
        by-owner (inl e) =
            sym (had-known w.medium.removed n t r (none-unknown-here s n at alive))
            ∙ (ap (λ o. had_at w.medium.removed o t r) (sym at) ∙ e)
        by-owner (inr (inl e)) =
            absurd (let no : hears t r (has_res r (state_of n.tasks t).records) [] ≡ true =
            ap (hears t r (has_res r (state_of n.tasks t).records)) (sym (box-none s n at alive)) ∙ e in
            cc)
        by-owner (inr (inr i)) = absurd (no-untold s t r ours.home i)

        go : (b : Bool) → is_systems r ≡ b → is_marked r (state_of n.tasks t).records ≡ true
        go true wide =
            by-owner (h.heard.owners s n t r (site s n at alive) (ours-home deck s n.tasks t ls ours) wide own)
        go false narrow =
            let here : is_res_of s r ≡ true =
            subst (λ i. is_res_of i r ≡ true) ours.home
            (or_other (is_systems r) (is_res_of t.system.0 r) place narrow) in
            ((h.dated s n at alive).own t ls ours).told r (ap not narrow)
            (ap (λ z. owns (list_of z r) t) sys.at.own
            ∙ (ap (λ zs. owns zs t) (list_of-part (is_res_of s) (lists P) r here) ∙ own))

    pub still-loss : IsStill deck s P n
    still-loss = record {
      opens = opens_of (g.whole.later s) (g.whole.out s) (ghosted n);
      good = sys.at.good;
      idle = λ t ls ours. ((h.dated s n at alive).date t ls ours.lines ours.here).closed (unsent t ls ours);
      calm = λ t ls ours. (calm-at n.tasks t (parts s n at alive).0 ours.here, unsent t ls ours);
      marked = marked-at;
      date = (h.dated s n at alive).date;
    }

-- ---- every such run that ends at rest
pub losses_rest : (deck : Deck) → IsBounded deck → (es : List Event) → NoneTakesEntries deck es → RestsInTheEnd deck es
losses_rest deck bounds es none rest =
    let good = every_loss deck fits es none in
    rests-by deck bounds es (loss_history deck es (run deck es) good) (loss_told deck es (run deck es) good)
    (losses_passed deck fits bounds.orders es none) (by-run good)
  where
    fits : may_be_star deck ≡ true → FitsStar deck
    fits h = record { few = bounds.fits.few; entries = bounds.entries }

    by-run : GoodLoss deck es (run deck es) → (s : ℕ) (n : NodeState) → slice_get (run deck es).nodes s ≡ Some n
        → has (run deck es).medium.removed s ≡ false → IsStill deck s (items (run deck es).fixed) n
    by-run (has_spared spared good) = still-good deck bounds es spared rest good
    by-run (has_lost f g told d hears) = still-loss deck (run deck es) g (hears bounds) rest
