-- What is still to be heard behind the removal of a system that manages no lock entry.
use Rattle.grs_world.proofs.Common.{[], ◌&&◌, ◌++◌, ◌==◌, ◌||◌, ◌∙◌, ◌∷◌, ◌≡◌, ◌≢◌, ◌≤◌, ◌⊎◌, and_from, and_parts, ap}
use Rattle.grs_world.proofs.Common.{arith, askers, Bool, Deck, departed, desk_told, Elem, entry_of_res, eq-eqb}
use Rattle.grs_world.proofs.Common.{eqb-false, eqb-true, false, false_by, first_node, fixed_by, get_or, has, has_res}
use Rattle.grs_world.proofs.Common.{has_task, inbox, inbox_of, inl, inr, is_among, is_home_at, is_some, is_systems}
use Rattle.grs_world.proofs.Common.{is_task, items, items_of, kept_for, List, list_any, list_of, lists, made_item, Mail}
use Rattle.grs_world.proofs.Common.{Managed, managed_at, manager_at, manages, MediumState, members, ne_eqb, no_truth}
use Rattle.grs_world.proofs.Common.{NodeState, None, not, Option, option_map, or_left, or_right, owns, owns-has, plain}
use Rattle.grs_world.proofs.Common.{Purged, refl, remove_state, Res, RunItem, same_Some, set, slice_get, slice_get-past}
use Rattle.grs_world.proofs.Common.{slice_get-set, slice_get-set_other, slice_get_within, Some, StarPart, State}
use Rattle.grs_world.proofs.Common.{state_of, subst, suc, sym, SysId, TaskId, true, Turnout, VaryDone, with_also}
use Rattle.grs_world.proofs.Common.{without_in_star, without_those, World, ℕ}
use Rattle.contention_mgr.specs.Laws.{is_elsewhere, owns_by, untold_at}
use Rattle.lock_structure.specs.Purge.{purged_words}
use Rattle.grs_world.proofs.at_rest.StarTasks.{dated-by, IsDated, keeps-telling, keeps-then}
use Rattle.grs_world.proofs.loss.Heard.{gets_at, had-known, had_all, had_at, HearsOn, sent_all, sent_at}
use Rattle.grs_world.proofs.loss.Hears.{gentle-losses, gets, keeps-losses, lists_by, losses-marked, owns-left}
use Rattle.grs_world.proofs.loss.Hears.{owns-more}
use Rattle.grs_world.proofs.loss.Marks.{kept-each, lost_each, marks-more}
use Rattle.grs_world.proofs.star.Heard.{AreAddressed, enq_count, had_by, hears, IsHeard, IsInHands, IsUntold, is_timely}
use Rattle.grs_world.proofs.star.hearing.Elements.{recorded-here}
use Rattle.grs_world.proofs.star.hearing.Gentle.{Gentle, gentle-line_told, gentle-then}
use Rattle.grs_world.proofs.star.hearing.Passing.{enq_count-grown, hand-found}
use Rattle.grs_world.proofs.loss.Losing.{is_in, lose_parts, lost-system, manages-lost, none-unknown}
use Rattle.grs_world.proofs.loss.Ranks.{ranked-then}
use Rattle.grs_world.proofs.loss.View.{IsLeft, IsLosing, left-from, left-there, left_node, unknown, unknown-free}
use Rattle.grs_world.proofs.loss.View.{viewed_by}
use Rattle.grs_world.proofs.run.Placed.{by_node, world_then}
use Rattle.grs_world.proofs.run.Site.{at_site, IsThere, Site}
use Rattle.grs_world.proofs.star.Members.{has_manager, IsMember, IsPart, manager-here}
use Rattle.grs_world.proofs.star.Systems.{IsSystem}
use Rattle.grs_world.proofs.star.Under.{entry-same, in_entry, list-under, under, wide-entry}
use Rattle.grs_world.proofs.star.Worlds.{are_live, in_hands, live-site, manager-live}
use Rattle.grs_world.proofs.loss.Purging.{after-fits, after-left, box-then, gone-is, grown, in-view, IsRemoval}
use Rattle.grs_world.proofs.loss.Purging.{its-member, its-part, its-star, lists-then, losing-then, near-same, one-more}
use Rattle.grs_world.proofs.loss.Purging.{other-fits, own-fits, own-left, own-live, roles-then, was-live}
use Rattle.grs_world.proofs.loss.Without.{addressed-left, among-left, hands-more, hears-left, left-has, next-each}
use Rattle.grs_world.proofs.loss.Without.{timely-left}
use Rattle.grs_world.proofs.loss.Purging as now

module _ {deck : Deck} {w : World} {g : IsLosing deck w} {c : SysId} {n : NodeState} {t : SysId}
    (event : IsRemoval deck w g c n t) where
  open event use {few, knows, at, alive, all, there, ne, idle, may}

  abbrev T : List RunItem
  T = items w.fixed

  abbrev x : RunItem
  x = made_item c (items w.fixed) (Purged t)

  abbrev L : State
  L = lists (items w.fixed)

  abbrev words : List ℕ
  words = w.medium.words

  abbrev words' : List ℕ
  words' = purged_words w.medium.words t

  abbrev gone : ℕ
  gone = with_also w.medium.removed t.0

  abbrev V : World
  V = viewed_by w g.view g.boxes

  abbrev p : StarPart
  p = (g.shown c.0 n event.at event.alive).2.part

  abbrev after : NodeState
  after = now.after event

  abbrev boxes : List (List Mail)
  boxes = now.boxes event

  abbrev nodes : List NodeState
  nodes = now.nodes event

  abbrev o : Turnout
  o = now.o event

  -- ---- another system
  module _ (s : ℕ) (z : NodeState) (found : slice_get w.nodes s ≡ Some z) (live : has gone s ≡ false) where
    abbrev old : (k : NodeState) × (slice_get g.view s ≡ Some k) × IsLeft w.medium.removed z k
    old = g.shown s z found (was-live event s live).1

    abbrev q : StarPart
    q = (g.shown s z found (was-live event s live).1).2.part

    more : (u : ℕ) → is_in u (unknown gone z) ≡ (is_in u (unknown w.medium.removed z) || (t.0 == u))
    more = now.more event s z found live

  -- a system that was live, behind the event
  record Behind (i : ℕ) (k : NodeState) : Type 0 where
    node : NodeState
    site : IsThere nodes gone i node
    part : StarPart
    ss : List SysId
    ts : List SysId
    star : k.star ≡ Some (lose_parts part ss)
    star-then : node.star ≡ Some (lose_parts part ts)
    more : (u : ℕ) → is_in u ts ≡ (is_in u ss || (t.0 == u))
    free : (u : ℕ) → has w.medium.removed u ≡ false → is_in u ss ≡ false

  behind : (i : ℕ) (k : NodeState) → Site V i k → i ≢ t.0 → Behind i k
  behind i k u apart = by-node (slice_get w.nodes i) refl
    where
      live : has gone i ≡ false
      live =
          gone-is event i
          ∙ (ap (λ b. b || has w.medium.removed i) (ne_eqb t.0 i (λ same. apart (sym same))) ∙ u.live)

      by-own : (z : NodeState) → slice_get w.nodes i ≡ Some z → (b : Bool) → (i == c.0) ≡ b → Behind i k
      by-own z found true e =
          let is : i ≡ c.0 = eqb-true i c.0 e in
          let same : n ≡ k = same_Some n k (sym (in-view event) ∙ (ap (slice_get g.view) (sym is) ∙ u.at)) in
          record {
            node = after;
            site = at_site
                (ap (slice_get nodes) is
                ∙ (left-there gone (set w.nodes c.0 after) c.0 after (slice_get-set w.nodes c.0 n after at)
                ∙ ap (λ (y : NodeState). Some y) (after-left event)))
                live;
            part = p;
            ss = [];
            ts = t ∷ [];
            star = ap (λ (y : NodeState). y.star) (sym same) ∙ (own-left event).star;
            star-then = refl;
            more = (one-more event);
            free = λ v alive. refl;
          }
      by-own z found false e =
          let ne : i ≢ c.0 = eqb-false i c.0 e in
          let same : (old i z found live).0 ≡ k = same_Some (old i z found live).0 k (sym (old i z found live).1 ∙ u.at)
          in
          record {
            node = left_node gone z;
            site =
                at_site (left-there gone (set w.nodes c.0 after) i z
                (slice_get-set_other w.nodes c.0 i after ne ∙ found))
                live;
            part = q i z found live;
            ss = unknown w.medium.removed z;
            ts = unknown gone z;
            star =
                ap (λ (y : NodeState). y.star) (sym same) ∙ ap (λ (y : NodeState). y.star) (old i z found live).2.is;
            star-then = its-star event i z found live;
            more = more i z found live;
            free = λ v alive. unknown-free z.known w.medium.removed v alive;
          }

      by-node : (o : Option NodeState) → slice_get w.nodes i ≡ o → Behind i k
      by-node (Some z) found = by-own z found (i == c.0) refl
      by-node None past =
          let beyond = slice_get-past w.nodes i past in
          let within = slice_get_within g.view i k u.at in
          absurd (omega (arith, beyond, within, g.count, g.whole.roles.systems))

  -- of its own tasks the same is sent, and of the resources of the whole complex the same is on record
  own-gentle : Gentle n.tasks after.tasks
  unfolding desk_told
  own-gentle =
      gentle-then n.tasks (desk_told n VaryDone).tasks after.tasks (gentle-line_told n.tasks _)
      (gentle-losses (t ∷ []) p (desk_told n VaryDone).tasks)

  own-keeps : IsDated deck c.0 n → IsDated deck c.0 after
  unfolding desk_told
  own-keeps h =
      dated-by deck c.0 n after refl h
      (keeps-then deck n.tasks (desk_told n VaryDone).tasks after.tasks (keeps-telling deck n.tasks _ h.date)
      (λ k. keeps-losses deck (t ∷ []) p (desk_told n VaryDone).tasks k))

  module _ (h : HearsOn deck w g) where
    abbrev H : IsHeard deck V (sent_all w.nodes) (had_all w.medium.removed w.nodes)
    H = h.heard

    -- a request of a live system's task is in the same hands
    hands-on : (s : ℕ) (u : TaskId) → is_home_at deck s u ≡ true → has gone s ≡ false
        → IsInHands V.medium V.nodes u → IsInHands (record (without_in_star w.medium t) { inboxes = boxes }) nodes u
    hands-on s u home live i = go (i.system == t.0) refl
      where
        its : u.system.0 ≡ s
        its = eqb-true u.system.0 s (and_parts (u.system.0 == s) _ home).0

        far : (t.0 == u.system.0) ≡ false
        far = ap (λ k. t.0 == k) its ∙ (was-live event s live).0

        go : (b : Bool) → (i.system == t.0) ≡ b
            → IsInHands (record (without_in_star w.medium t) { inboxes = boxes }) nodes u
        go true e =
            let is : i.system ≡ t.0 = eqb-true i.system t.0 e in
            let z =
            hand-found deck words (are_live V) g.whole.later g.whole.out i.system u
            (in_hands i.part (inbox V.medium i.system))
            (g.whole.hands i.system i.node i.part i.site i.star).each i.among in
            no_truth (has_manager words z.2.entry t.0)
            (ap (has_manager words z.2.entry) (sym is) ∙ z.2.managed) (idle z.2.entry)
        go false e =
            let b = behind i.system i.node i.site (eqb-false i.system t.0 e) in
            let same : i.part ≡ lose_parts b.part b.ss =
            same_Some i.part (lose_parts b.part b.ss) (sym i.star ∙ b.star) in
            record {
              system = i.system;
              node = b.node;
              part = lose_parts b.part b.ts;
              site = b.site;
              star = b.star-then;
              among =
                  ap (λ ms. is_among u (askers (in_hands (lose_parts b.part b.ts) ms))) (box-then event i.system)
                  ∙ (ap (λ qs. is_among u (askers qs))
                  (hands-more t b.part b.ss b.ts b.more (inbox_of g.boxes i.system))
                  ∙ among-left t u far (in_hands (lose_parts b.part b.ss) (inbox_of g.boxes i.system))
                  (ap (λ y. is_among u (askers (in_hands y (inbox_of g.boxes i.system)))) (sym same) ∙ i.among));
            }

    -- a manager that is left has still to tell an owner that it had to tell, or that comes to own
    untold-by : (s : ℕ) (u : TaskId) (r : Res) → is_home_at deck s u ≡ true → has gone s ≡ false
        → is_systems r ≡ true → owns (list_of (remove_state L t.0) r) u ≡ true
        → (i : ℕ) (k : NodeState) → Site V i k → i ≢ t.0 → i ≢ s → (y : StarPart) → k.star ≡ Some y
        → (e : ℕ) → entry_of_res deck.entries r ≡ Some e → manages y e ≡ true
        → (untold_at (items_of (managed_at y.manager e)) r u ≡ true) ⊎ (owns (list_of L r) u ≡ false)
        → IsUntold (record (without_in_star w.medium t) { inboxes = boxes }) nodes s u r
    untold-by s u r home live wide own i k site apart other y star e of mine mark =
        let b = behind i k site apart in
        let same : y ≡ lose_parts b.part b.ss = same_Some y (lose_parts b.part b.ss) (sym star ∙ b.star) in
        by-kept b same (managed_at b.part.manager e) refl
      where
        its : u.system.0 ≡ s
        its = eqb-true u.system.0 s (and_parts (u.system.0 == s) _ home).0

        by-kept : (b : Behind i k) → y ≡ lose_parts b.part b.ss → (o : Option Managed)
            → managed_at b.part.manager e ≡ o
            → IsUntold (record (without_in_star w.medium t) { inboxes = boxes }) nodes s u r
        by-kept b same None none =
            no_truth (manages y e) mine
            (ap (λ (v : StarPart). manages v e) same ∙ (manages-lost b.part b.ss e ∙ ap is_some none))
        by-kept b same (Some m) kept =
            let sys : ℕ = b.part.manager.system.0 in
            let member = (roles-then event).node i b.node b.site in
            let its-then : member.part ≡ lose_parts b.part b.ts =
            same_Some member.part (lose_parts b.part b.ts) (sym member.star ∙ b.star-then) in
            let fits : IsPart deck words' (remove_state L t.0) i (lose_parts b.part b.ts) =
            subst (λ K. IsPart deck words' K i (lose_parts b.part b.ts)) (lists-then event)
            (subst (IsPart deck words' (lists (items (w.fixed ++ fixed_by c (Purged t ∷ [])))) i) its-then
            member.fits) in
            let was : IsPart deck words L i (lose_parts b.part b.ss) =
            subst (IsPart deck words L i)
            (same_Some (g.whole.roles.node i k site).part (lose_parts b.part b.ss)
            (sym (g.whole.roles.node i k site).star ∙ b.star))
            (g.whole.roles.node i k site).fits in
            let at-home : b.part.manager.system.0 ≡ i =
            ap (λ (z : SysId). z.0) (sym (lost-system b.part b.ss)) ∙ was.home in
            let away : is_elsewhere b.part.manager.system.0 r u ≡ true =
            ap not (ap (λ j. j == u.system.0) at-home ∙ ne_eqb i u.system.0 (λ z. other (z ∙ its))) in
            let mine-then : manages (lose_parts b.part b.ts) e ≡ true =
            manages-lost b.part b.ts e ∙ ap is_some kept in
            let mine-was : manages (lose_parts b.part b.ss) e ≡ true =
            manages-lost b.part b.ss e ∙ ap is_some kept in
            let kept-then : managed_at (lose_parts b.part b.ts).manager e
            ≡ Some (lost_each b.part.manager.system.0 m b.ts) =
            kept-each b.part b.ts e ∙ ap (option_map (λ z. lost_each b.part.manager.system.0 z b.ts)) kept in
            let kept-was : managed_at (lose_parts b.part b.ss).manager e
            ≡ Some (lost_each b.part.manager.system.0 m b.ss) =
            kept-each b.part b.ss e ∙ ap (option_map (λ z. lost_each b.part.manager.system.0 z b.ss)) kept in
            let here : in_entry deck.entries e r ≡ true = entry-same e (entry_of_res deck.entries r) of in
            let own-then : owns_by (plain (lost_each b.part.manager.system.0 m b.ts).items) r u ≡ true =
            ap (λ o. owns_by (plain (items_of o)) r u) (sym kept-then)
            ∙ (ap (λ (es : List Elem). owns es u)
            ((fits.lists e mine-then).lists r ∙ list-under deck.entries e (remove_state L t.0) r here)
            ∙ own) in
            let mark-was : (untold_at (lost_each b.part.manager.system.0 m b.ss).items r u ≡ true)
            ⊎ (owns_by (plain (lost_each b.part.manager.system.0 m b.ss).items) r u ≡ false) =
            by-mark b m kept-was was mine-was here same mark in
            record {
              system = i;
              node = b.node;
              part = lose_parts b.part b.ts;
              site = b.site;
              star = b.star-then;
              apart = other;
              untold =
                  ap (λ k. untold_at (items_of (kept_for (lose_parts b.part b.ts).manager.entries (entry_of_res k r))) r
                  u) fits.entries
                  ∙ (ap (λ o. untold_at (items_of (kept_for (lose_parts b.part b.ts).manager.entries o)) r u) of
                  ∙ (ap (λ o. untold_at (items_of o) r u) kept-then
                  ∙ marks-more b.part.manager.system.0 r u b.ss b.ts m
                  (b.free u.system.0 (ap (has w.medium.removed) its ∙ (was-live event s live).1)) away own-then
                  mark-was));
            }
          where
            by-mark : (b : Behind i k) (m : Managed)
                → managed_at (lose_parts b.part b.ss).manager e ≡ Some (lost_each b.part.manager.system.0 m b.ss)
                → IsPart deck words L i (lose_parts b.part b.ss) → manages (lose_parts b.part b.ss) e ≡ true
                → in_entry deck.entries e r ≡ true → y ≡ lose_parts b.part b.ss
                → (untold_at (items_of (managed_at y.manager e)) r u ≡ true) ⊎ (owns (list_of L r) u ≡ false)
                → (untold_at (lost_each b.part.manager.system.0 m b.ss).items r u ≡ true)
                ⊎ (owns_by (plain (lost_each b.part.manager.system.0 m b.ss).items) r u ≡ false)
            by-mark b m kept-was was mine-was here same (inl z) =
                inl (ap (λ o. untold_at (items_of o) r u) (sym kept-was)
                ∙ (ap (λ (v : StarPart). untold_at (items_of (managed_at v.manager e)) r u) (sym same) ∙ z))
            by-mark b m kept-was was mine-was here same (inr z) =
                inr (ap (λ o. owns_by (plain (items_of o)) r u) (sym kept-was)
                ∙ (ap (λ (es : List Elem). owns es u)
                ((was.lists e mine-was).lists r ∙ list-under deck.entries e L r here)
                ∙ z))

    -- ---- one system, behind the event (k) and before it (z)
    module _ (s : ℕ) (live : has gone s ≡ false) (z k : NodeState) (before : Site V s z)
        (same : (u : TaskId) (r : Res) → is_systems r ≡ true
        → has_res r (state_of k.tasks u).records ≡ has_res r (state_of z.tasks u).records)
        (had : (u : TaskId) (r : Res) → is_home_at deck s u ≡ true → is_systems r ≡ true
        → had_all w.medium.removed w.nodes s u r ≡ true → had_all gone (set w.nodes c.0 after) s u r ≡ true)
        (sent : (u : TaskId) → sent_all (set w.nodes c.0 after) s u ≡ true → sent_all w.nodes s u ≡ true)
        (fresh : (u : TaskId) (r : Res) (e : ℕ) → is_home_at deck s u ≡ true → is_systems r ≡ true
        → entry_of_res deck.entries r ≡ Some e → has_manager words e s ≡ true
        → owns (list_of (remove_state L t.0) r) u ≡ true → owns (list_of L r) u ≡ false
        → has_task (list_of L r) u ≡ true → had_all gone (set w.nodes c.0 after) s u r ≡ true) where
      abbrev m' : MediumState
      m' = record (without_in_star w.medium t) { inboxes = boxes }

      request-then : (u : TaskId) → is_home_at deck s u ≡ true → sent_all (set w.nodes c.0 after) s u ≡ true
          → IsInHands m' nodes u ⊎ (list_any (is_timely u) (inbox_of boxes s) ≡ true)
      request-then u home asked = go (H.requests s z u before home (sent u asked))
        where
          go : IsInHands V.medium V.nodes u ⊎ (list_any (is_timely u) (inbox V.medium s) ≡ true)
              → IsInHands m' nodes u ⊎ (list_any (is_timely u) (inbox_of boxes s) ≡ true)
          go (inl i) = inl (hands-on s u home live i)
          go (inr e) =
              inr (ap (list_any (is_timely u)) (box-then event s)
              ∙ timely-left (λ v. t.0 == v) u (inbox_of g.boxes s) e)

      record-then : (u : TaskId) (r : Res) → is_home_at deck s u ≡ true → is_systems r ≡ true
          → has_task (list_of (remove_state L t.0) r) u ≡ true
          → (has_res r (state_of k.tasks u).records ≡ true)
          ⊎ (list_any (is_timely u) (inbox_of boxes s) ≡ true)
      record-then u r home wide stands =
          go (H.recorded s z u r before home wide (left-has deck words words' L t (near-same event) r wide u stands).0)
        where
          go : (has_res r (state_of z.tasks u).records ≡ true) ⊎ (list_any (is_timely u) (inbox V.medium s) ≡ true)
              → (has_res r (state_of k.tasks u).records ≡ true) ⊎ (list_any (is_timely u) (inbox_of boxes s) ≡ true)
          go (inl e) = inl (same u r wide ∙ e)
          go (inr e) =
              inr (ap (list_any (is_timely u)) (box-then event s)
              ∙ timely-left (λ v. t.0 == v) u (inbox_of g.boxes s) e)

      owner-then : (u : TaskId) (r : Res) → is_home_at deck s u ≡ true → is_systems r ≡ true
          → owns (list_of (remove_state L t.0) r) u ≡ true
          → (had_all gone (set w.nodes c.0 after) s u r ≡ true)
          ⊎ ((hears u r (has_res r (state_of k.tasks u).records) (inbox_of boxes s) ≡ true)
          ⊎ IsUntold m' nodes s u r)
      owner-then u r home wide own = by-before (owns (list_of L r) u) refl
        where
          Then : Type 0
          Then =
              (had_all gone (set w.nodes c.0 after) s u r ≡ true)
              ⊎ ((hears u r (has_res r (state_of k.tasks u).records) (inbox_of boxes s) ≡ true)
              ⊎ IsUntold m' nodes s u r)

          entry : (e : ℕ) × (entry_of_res deck.entries r ≡ Some e)
          entry = wide-entry deck.entries r wide

          by-untold : (i : IsUntold V.medium V.nodes s u r) → (b : Bool) → (i.system == t.0) ≡ b → Then
          by-untold i b e =
              by-system b e (managed_at i.part.manager entry.0) refl
            where
              me : IsMember deck words L i.system i.node
              me = g.whole.roles.node i.system i.node i.site

              fits : IsPart deck words L i.system i.part
              fits = subst (IsPart deck words L i.system) (same_Some me.part i.part (sym me.star ∙ i.star)) me.fits

              marked : untold_at (items_of (managed_at i.part.manager entry.0)) r u ≡ true
              marked =
                  ap (λ o. untold_at (items_of (kept_for i.part.manager.entries o)) r u) (sym entry.1)
                  ∙ (ap (λ n. untold_at (items_of (kept_for i.part.manager.entries (entry_of_res n r))) r u)
                  (sym fits.entries)
                  ∙ i.untold)

              by-system : (b : Bool) → (i.system == t.0) ≡ b → (o : Option Managed)
                  → managed_at i.part.manager entry.0 ≡ o → Then
              by-system b e None none =
                  no_truth (untold_at (items_of (managed_at i.part.manager entry.0)) r u) marked
                  (ap (λ o. untold_at (items_of o) r u) none)
              by-system true e (Some m) kept =
                  let is : i.system ≡ t.0 = eqb-true i.system t.0 e in
                  no_truth (has_manager words entry.0 t.0)
                  (ap (has_manager words entry.0) (sym is) ∙ (sym (fits.roles entry.0) ∙ ap is_some kept))
                  (idle entry.0)
              by-system false e (Some m) kept =
                  inr (inr (untold-by s u r home live wide own i.system i.node i.site (eqb-false i.system t.0 e) i.apart
                  i.part i.star entry.0 entry.1 (ap is_some kept) (inl marked)))

          by-old : (had_all w.medium.removed w.nodes s u r ≡ true)
              ⊎ ((hears u r (has_res r (state_of z.tasks u).records) (inbox V.medium s) ≡ true)
              ⊎ IsUntold V.medium V.nodes s u r) → Then
          by-old (inl e) = inl (had u r home wide e)
          by-old (inr (inl e)) =
              inr (inl (ap (hears u r (has_res r (state_of k.tasks u).records)) (box-then event s)
              ∙ (hears-left (λ v. t.0 == v) u r (has_res r (state_of k.tasks u).records) (inbox_of g.boxes s)
              ∙ (ap (λ b. hears u r b (inbox_of g.boxes s)) (same u r wide) ∙ e))))
          by-old (inr (inr i)) = by-untold i (i.system == t.0) refl

          stood : has_task (list_of L r) u ≡ true
          stood =
              (left-has deck words words' L t (near-same event) r wide u
              (owns-has (list_of (remove_state L t.0) r) u own)).0

          listed : list_of (under deck.entries entry.0 L) r ≡ list_of L r
          listed =
              list-under deck.entries entry.0 L r (entry-same entry.0 (entry_of_res deck.entries r) entry.1)

          by-manager : owns (list_of L r) u ≡ false → (o : Option SysId) → manager_at words entry.0 ≡ o → Then
          by-manager none None free =
              no_truth (has_task (list_of L r) u) stood
              (ap (λ (es : List Elem). has_task es u)
              (sym listed ∙ ap (λ (st : State). list_of st r) (g.whole.roles.free entry.0 free)))
          by-manager none (Some m) named = by-number (m.0 == s) refl
            where
              manages-it : has_manager words entry.0 m.0 ≡ true
              manages-it = manager-here words entry.0 m named

              y : NodeState
              y = get_or g.view m.0 (first_node deck 0)

              its : Site V m.0 (get_or g.view m.0 (first_node deck 0))
              its =
                  live-site V m.0 (first_node deck 0)
                  (manager-live deck V g.whole.roles entry.0 m.0 (manager-here words entry.0 m named))

              me : IsMember deck words L m.0 (get_or g.view m.0 (first_node deck 0))
              me = g.whole.roles.node m.0 (get_or g.view m.0 (first_node deck 0)) its

              by-number : (b : Bool) → (m.0 == s) ≡ b → Then
              by-number true e =
                  inl (fresh u r entry.0 home wide entry.1
                  (ap (has_manager words entry.0) (sym (eqb-true m.0 s e)) ∙ manages-it) own none stood)
              by-number false e =
                  inr (inr (untold-by s u r home live wide own m.0 y its
                  (λ is. no_truth (has_manager words entry.0 m.0) manages-it
                  (ap (has_manager words entry.0) is ∙ idle entry.0))
                  (eqb-false m.0 s e) me.part me.star entry.0 entry.1 (me.fits.roles entry.0 ∙ manages-it) (inr none)))

          by-before : (b : Bool) → owns (list_of L r) u ≡ b → Then
          by-before true is = by-old (H.owners s z u r before home wide is)
          by-before false is = by-manager is (manager_at words entry.0) refl

    -- a part's lists of a resource whose entry it manages
    lists-of : (ws : List ℕ) (K : State) (i : ℕ) (y : StarPart) → IsPart deck ws K i y → (r : Res) (e : ℕ)
        → entry_of_res deck.entries r ≡ Some e → manages y e ≡ true → list_of (lists_by y r) r ≡ list_of K r
    lists-of ws K i y fits r e of mine =
        ap (λ j. list_of (plain (items_of (kept_for y.manager.entries (entry_of_res j r)))) r) fits.entries
        ∙ (ap (λ o. list_of (plain (items_of (kept_for y.manager.entries o))) r) of
        ∙ ((fits.lists e mine).lists r
        ∙ list-under deck.entries e K r (entry-same e (entry_of_res deck.entries r) of)))

    -- ---- the event's own system
    set-own : slice_get (set w.nodes c.0 after) c.0 ≡ Some after
    set-own = slice_get-set w.nodes c.0 n after at

    none-unknown-here : unknown w.medium.removed n ≡ []
    none-unknown-here = ap (λ i. members (without_those n.known i)) (sym all) ∙ none-unknown n.known

    own-had : (u : TaskId) (r : Res) → is_systems r ≡ true → had_all w.medium.removed w.nodes c.0 u r ≡ true
        → had_all gone (set w.nodes c.0 after) c.0 u r ≡ true
    own-had u r wide e =
        ap (λ y. had_at gone y u r) set-own
        ∙ or_left (had_by after u r) (gets_at after.star (unknown gone after) r u)
        ((own-gentle.each u).marked r wide
        (sym (had-known w.medium.removed n u r none-unknown-here)
        ∙ (sym (ap (λ y. had_at w.medium.removed y u r) at) ∙ e)))

    own-fresh : (u : TaskId) (r : Res) (e : ℕ) → is_home_at deck c.0 u ≡ true → is_systems r ≡ true
        → entry_of_res deck.entries r ≡ Some e → has_manager words e c.0 ≡ true
        → owns (list_of (remove_state L t.0) r) u ≡ true → owns (list_of L r) u ≡ false
        → has_task (list_of L r) u ≡ true → had_all gone (set w.nodes c.0 after) c.0 u r ≡ true
    unfolding desk_told
    own-fresh u r e home wide of mine own none stood =
        ap (λ y. had_at gone y u r) set-own
        ∙ or_left (had_by after u r) (gets_at after.star (unknown gone after) r u)
        (losses-marked (t ∷ []) p (desk_told n VaryDone).tasks r u wide gets-it here recorded)
      where
        sys : IsSystem deck words T c.0 n (inbox_of g.boxes c.0) (g.whole.later c.0) (g.whole.out c.0)
        sys = g.whole.system c.0 n (at_site (in-view event) alive)

        here : is_task (desk_told n VaryDone).tasks u ≡ true
        here = (gentle-line_told n.tasks _).here u ∙ sys.at.good.here u home

        recorded : has_res r (state_of (desk_told n VaryDone).tasks u).records ≡ true
        recorded =
            ((gentle-line_told n.tasks _).each u).has r wide
            ∙ recorded-here deck words T g.whole.right c.0 n (inbox_of g.boxes c.0) (g.whole.later c.0)
            (g.whole.out c.0) sys u home r stood e of mine

        mine-by : manages p e ≡ true
        mine-by = (own-fits event).roles e ∙ mine

        gets-it : gets p (t ∷ []) r u ≡ true
        gets-it =
            and_from (p.manager.system.0 == u.system.0)
            (owns_by (lists_by (lose_parts p (t ∷ [])) r) r u && not (owns_by (lists_by p r) r u))
            (eq-eqb p.manager.system.0 u.system.0
            ((own-fits event).home ∙ sym (eqb-true u.system.0 c.0 (and_parts (u.system.0 == c.0) _ home).0)))
            (and_from (owns_by (lists_by (lose_parts p (t ∷ [])) r) r u) (not (owns_by (lists_by p r) r u))
            (ap (λ (es : List Elem). owns es u)
            (lists-of words' (remove_state L t.0) c.0 (lose_parts p (t ∷ [])) (after-fits event) r e of
            (manages-lost p (t ∷ []) e ∙ mine-by))
            ∙ own)
            (ap not (ap (λ (es : List Elem). owns es u) (lists-of words L c.0 p (own-fits event) r e of mine-by)
            ∙ none)))

    -- ---- another system
    module _ (s : ℕ) (z : NodeState) (apart : s ≢ c.0) (found : slice_get w.nodes s ≡ Some z)
        (live : has gone s ≡ false)
      where
        set-there : slice_get (set w.nodes c.0 after) s ≡ Some z
        set-there = slice_get-set_other w.nodes c.0 s after apart ∙ found

        its-old : IsPart deck words L s (lose_parts (q s z found live) (unknown w.medium.removed z))
        its-old = subst (IsPart deck words L s) (its-part event s z found live) (its-member event s z found live).fits

        far : (u : TaskId) → is_home_at deck s u ≡ true
            → ((t.0 == u.system.0) ≡ false) × (is_in u.system.0 (unknown w.medium.removed z) ≡ false)
        far u home =
            let its : u.system.0 ≡ s = eqb-true u.system.0 s (and_parts (u.system.0 == s) _ home).0 in (
              ap (λ i. t.0 == i) its ∙ (was-live event s live).0,
              unknown-free z.known w.medium.removed u.system.0
                  (ap (has w.medium.removed) its ∙ (was-live event s live).1),
            )

        gets-more : (u : TaskId) (r : Res) → is_home_at deck s u ≡ true → is_systems r ≡ true
            → gets (q s z found live) (unknown w.medium.removed z) r u ≡ true
            → gets (q s z found live) (unknown gone z) r u ≡ true
        gets-more u r home wide h =
            let y : StarPart = q s z found live in
            let both = and_parts (y.manager.system.0 == u.system.0)
            (owns_by (lists_by (lose_parts y (unknown w.medium.removed z)) r) r u && not (owns_by (lists_by y r) r u)) h
            in
            let owned = and_parts (owns_by (lists_by (lose_parts y (unknown w.medium.removed z)) r) r u)
            (not (owns_by (lists_by y r) r u)) both.1 in
            and_from (y.manager.system.0 == u.system.0)
            (owns_by (lists_by (lose_parts y (unknown gone z)) r) r u && not (owns_by (lists_by y r) r u)) both.0
            (and_from (owns_by (lists_by (lose_parts y (unknown gone z)) r) r u) (not (owns_by (lists_by y r) r u))
            (owns-more y (unknown w.medium.removed z) (unknown gone z) t (more s z found live) r wide u (far u home).0
            owned.0)
            owned.1)

        had-other : (u : TaskId) (r : Res) → is_home_at deck s u ≡ true → is_systems r ≡ true
            → had_all w.medium.removed w.nodes s u r ≡ true → had_all gone (set w.nodes c.0 after) s u r ≡ true
        had-other u r home wide e =
            ap (λ y. had_at gone y u r) set-there
            ∙ (ap (λ o. had_by z u r || gets_at o (unknown gone z) r u) (old s z found live).2.star
            ∙ go (had_by z u r) refl
            (ap (λ o. had_by z u r || gets_at o (unknown w.medium.removed z) r u) (sym (old s z found live).2.star)
            ∙ (sym (ap (λ y. had_at w.medium.removed y u r) found) ∙ e)))
          where
            go : (b : Bool) → had_by z u r ≡ b
                → (had_by z u r || gets (q s z found live) (unknown w.medium.removed z) r u) ≡ true
                → (had_by z u r || gets (q s z found live) (unknown gone z) r u) ≡ true
            go true is h = or_left (had_by z u r) (gets (q s z found live) (unknown gone z) r u) is
            go false is h =
                or_right (had_by z u r) (gets (q s z found live) (unknown gone z) r u)
                (gets-more u r home wide
                (ap (λ b. b || gets (q s z found live) (unknown w.medium.removed z) r u) (sym is) ∙ h))

        fresh-other : (u : TaskId) (r : Res) (e : ℕ) → is_home_at deck s u ≡ true → is_systems r ≡ true
            → entry_of_res deck.entries r ≡ Some e → has_manager words e s ≡ true
            → owns (list_of (remove_state L t.0) r) u ≡ true → owns (list_of L r) u ≡ false
            → has_task (list_of L r) u ≡ true → had_all gone (set w.nodes c.0 after) s u r ≡ true
        fresh-other u r e home wide of mine own none stood =
            let y : StarPart = q s z found live in
            let was : manages (lose_parts y (unknown w.medium.removed z)) e ≡ true = its-old.roles e ∙ mine in
            let base : manages y e ≡ true = sym (manages-lost y (unknown w.medium.removed z) e) ∙ was in
            let fits = other-fits event s z found live in
            ap (λ v. had_at gone v u r) set-there
            ∙ (ap (λ o. had_by z u r || gets_at o (unknown gone z) r u) (old s z found live).2.star
            ∙ or_right (had_by z u r) (gets (q s z found live) (unknown gone z) r u)
            (and_from (y.manager.system.0 == u.system.0)
            (owns_by (lists_by (lose_parts y (unknown gone z)) r) r u && not (owns_by (lists_by y r) r u))
            (eq-eqb y.manager.system.0 u.system.0
            (ap (λ (i : SysId). i.0) (sym (lost-system y (unknown w.medium.removed z)))
            ∙ (its-old.home ∙ sym (eqb-true u.system.0 s (and_parts (u.system.0 == s) _ home).0))))
            (and_from (owns_by (lists_by (lose_parts y (unknown gone z)) r) r u) (not (owns_by (lists_by y r) r u))
            (ap (λ (es : List Elem). owns es u)
            (lists-of words' (remove_state L t.0) s (lose_parts y (unknown gone z)) fits r e of
            (manages-lost y (unknown gone z) e ∙ base))
            ∙ own)
            (ap not (false_by (owns_by (lists_by y r) r u) (λ owned.
            no_truth (owns (list_of L r) u)
            (ap (λ (es : List Elem). owns es u)
            (sym (lists-of words L s (lose_parts y (unknown w.medium.removed z)) its-old r e of was))
            ∙ owns-left y (unknown w.medium.removed z) r wide u (far u home).1 owned)
            none))))))

        sent-other : (u : TaskId) → sent_all (set w.nodes c.0 after) s u ≡ true → sent_all w.nodes s u ≡ true
        sent-other u e =
            ap (λ y. sent_at y u) found ∙ (sym (ap (λ y. sent_at y u) set-there) ∙ e)

        same-other : (u : TaskId) (r : Res) → is_systems r ≡ true
            → has_res r (state_of (left_node gone z).tasks u).records
            ≡ has_res r (state_of (old s z found live).0.tasks u).records
        same-other u r wide =
            ap (λ (v : NodeState). has_res r (state_of v.tasks u).records) (sym (old s z found live).2.is)

        before-other : Site V s (old s z found live).0
        before-other = at_site (old s z found live).1 (was-live event s live).1

    own-sent : (u : TaskId) → sent_all (set w.nodes c.0 after) c.0 u ≡ true → sent_all w.nodes c.0 u ≡ true
    own-sent u e =
        ap (λ y. sent_at y u) at ∙ (own-gentle.each u).sent (sym (ap (λ y. sent_at y u) set-own) ∙ e)

    own-same : (u : TaskId) (r : Res) → is_systems r ≡ true
        → has_res r (state_of after.tasks u).records ≡ has_res r (state_of n.tasks u).records
    own-same u r wide = (own-gentle.each u).has r wide

    -- what holds of the event's system, and of each other one, holds of each
    each-heard : (P : ℕ → NodeState → Type 0) → P c.0 after
        → ((s : ℕ) (z : NodeState) → s ≢ c.0 → slice_get w.nodes s ≡ Some z → has gone s ≡ false
        → P s (left_node gone z))
        → (s : ℕ) (k : NodeState) → IsThere nodes gone s k → P s k
    each-heard P own others s k u =
        let z = left-from gone (set w.nodes c.0 after) s k u.at in
        subst (P s) (sym z.2)
        (by_node w.nodes c.0 n after at (λ i y. has gone i ≡ false → P i (left_node gone y))
        (λ live. subst (P c.0) (sym (after-left event)) own) (λ i y apart found live. others i y apart found live) s z.0
        z.1
        u.live)

    pub heard-then : HearsOn deck (world_then w c n o) (losing-then event)
    unfolding departed losing-then
    heard-then = record {
      dated =
          by_node w.nodes c.0 n after at (λ s y. has gone s ≡ false → IsDated deck s y)
          (λ live. own-keeps (h.dated c.0 n at alive))
          (λ s y apart found live. h.dated s y found (was-live event s live).1);
      heard = record {
        requests = λ s k u site home asked.
            each-heard (λ i y.
            is_home_at deck i u ≡ true → sent_all (set w.nodes c.0 after) i u ≡ true
            → IsInHands (record (without_in_star w.medium t) { inboxes = boxes }) nodes u
            ⊎ (list_any (is_timely u) (inbox_of boxes i) ≡ true))
            (λ v e.
            request-then c.0 (own-live event) n after (at_site (in-view event) alive) own-same
            (λ x r a b. own-had x r b) own-sent
            own-fresh u v e)
            (λ i y apart found live v e.
            request-then i live (old i y found live).0 (left_node gone y) (before-other i y apart found live)
            (same-other i y apart found live) (had-other i y apart found live) (sent-other i y apart found live)
            (fresh-other i y apart found live) u v e)
            s k site home asked;
        owners = λ s k u r site home wide own.
            each-heard (λ i y.
            is_home_at deck i u ≡ true
            → (had_all gone (set w.nodes c.0 after) i u r ≡ true)
            ⊎ ((hears u r (has_res r (state_of y.tasks u).records) (inbox_of boxes i) ≡ true)
            ⊎ IsUntold (record (without_in_star w.medium t) { inboxes = boxes }) nodes i u r))
            (λ v.
            owner-then c.0 (own-live event) n after (at_site (in-view event) alive) own-same (λ x r a b. own-had x r b)
            own-sent
            own-fresh u r v wide (now u r own))
            (λ i y apart found live v.
            owner-then i live (old i y found live).0 (left_node gone y) (before-other i y apart found live)
            (same-other i y apart found live) (had-other i y apart found live) (sent-other i y apart found live)
            (fresh-other i y apart found live) u r v wide (now u r own))
            s k site home;
        recorded = λ s k u r site home wide stands.
            each-heard (λ i y.
            is_home_at deck i u ≡ true
            → (has_res r (state_of y.tasks u).records ≡ true) ⊎ (list_any (is_timely u) (inbox_of boxes i) ≡ true))
            (λ v.
            record-then c.0 (own-live event) n after (at_site (in-view event) alive) own-same (λ x r a b. own-had x r b)
            own-sent
            own-fresh u r v wide (now-has u r stands))
            (λ i y apart found live v.
            record-then i live (old i y found live).0 (left_node gone y) (before-other i y apart found live)
            (same-other i y apart found live) (had-other i y apart found live) (sent-other i y apart found live)
            (fresh-other i y apart found live) u r v wide (now-has u r stands))
            s k site home;
        mails = λ s.
            subst (AreAddressed deck) (sym (box-then event s))
            (addressed-left (λ v. t.0 == v) deck (inbox_of g.boxes s) (H.mails s));
        ranks = ranks-then;
      };
      ranked = ranked-then event h.ranked;
    }
      where
        now : (u : TaskId) (r : Res) → owns (list_of (lists (items (w.fixed ++ fixed_by c (Purged t ∷ [])))) r) u ≡ true
            → owns (list_of (remove_state L t.0) r) u ≡ true
        now u r own = ap (λ st. owns (list_of st r) u) (sym (lists-then event)) ∙ own

        now-has : (u : TaskId) (r : Res)
            → has_task (list_of (lists (items (w.fixed ++ fixed_by c (Purged t ∷ [])))) r) u ≡ true
            → has_task (list_of (remove_state L t.0) r) u ≡ true
        now-has u r stands = ap (λ st. has_task (list_of st r) u) (sym (lists-then event)) ∙ stands

        grown-count : enq_count (items w.fixed) ≤ enq_count (items (w.fixed ++ fixed_by c (Purged t ∷ [])))
        grown-count =
            subst (λ U. enq_count (items w.fixed) ≤ enq_count U) (sym (grown event)) (enq_count-grown T (x ∷ []))

        bound : (y : StarPart) (ss ts : List SysId) (e : ℕ) (m : Managed)
            → managed_at (lose_parts y ts).manager e ≡ Some m
            → ((k : Managed) → managed_at (lose_parts y ss).manager e ≡ Some k → k.next ≤ suc (enq_count T))
            → m.next ≤ suc (enq_count (items (w.fixed ++ fixed_by c (Purged t ∷ []))))
        bound y ss ts e m kept low = by-kept (managed_at y.manager e) refl
          where
            by-kept : (o : Option Managed) → managed_at y.manager e ≡ o
                → m.next ≤ suc (enq_count (items (w.fixed ++ fixed_by c (Purged t ∷ []))))
            by-kept None none =
                absurd (let no : None ≡ Some m =
                sym (kept-each y ts e ∙ ap (option_map (λ v. lost_each y.manager.system.0 v ts)) none) ∙ kept in
                cc)
            by-kept (Some v) is =
                let then-is : lost_each y.manager.system.0 v ts ≡ m =
                same_Some (lost_each y.manager.system.0 v ts) m
                (sym (kept-each y ts e ∙ ap (option_map (λ v. lost_each y.manager.system.0 v ts)) is) ∙ kept) in
                let was = low (lost_each y.manager.system.0 v ss)
                (kept-each y ss e ∙ ap (option_map (λ v. lost_each y.manager.system.0 v ss)) is) in
                let next-then : m.next ≡ v.next =
                ap (λ (j : Managed). j.next) (sym then-is) ∙ next-each y.manager.system.0 v ts in
                let next-was : (lost_each y.manager.system.0 v ss).next ≡ v.next =
                next-each y.manager.system.0 v ss in
                let more = grown-count in
                omega (arith, was, next-then, next-was, more)

        ranks-then : (i : ℕ) (k : NodeState) (y : StarPart) (e : ℕ) (m : Managed) → IsThere nodes gone i k
            → k.star ≡ Some y → managed_at y.manager e ≡ Some m
            → m.next ≤ suc (enq_count (items (w.fixed ++ fixed_by c (Purged t ∷ []))))
        ranks-then i k y e m site star kept =
            each-heard (λ j v.
            (a : StarPart) → v.star ≡ Some a → managed_at a.manager e ≡ Some m
            → m.next ≤ suc (enq_count (items (w.fixed ++ fixed_by c (Purged t ∷ [])))))
            (λ a is held.
            bound p [] (t ∷ []) e m
            (subst (λ (b : StarPart). managed_at b.manager e ≡ Some m) (sym (same_Some (lose_parts p (t ∷ [])) a is))
            held)
            (λ b was. H.ranks c.0 n p e b (at_site (in-view event) alive) (own-left event).star was))
            (λ j v apart found live a is held.
            bound (q j v found live) (unknown w.medium.removed v) (unknown gone v) e m
            (subst (λ (b : StarPart). managed_at b.manager e ≡ Some m)
            (sym (same_Some (lose_parts (q j v found live) (unknown gone v)) a
            (sym (its-star event j v found live) ∙ is)))
            held)
            (λ b was.
            H.ranks j (old j v found live).0 (lose_parts (q j v found live) (unknown w.medium.removed v)) e b
            (before-other j v apart found live) (ap (λ (z : NodeState). z.star) (old j v found live).2.is) was))
            i k site y star kept
