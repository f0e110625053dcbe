-- What the removal of a system leaves of the requests in all hands and of the answers in all inboxes: those that it had
-- go, and every notice comes behind the answers.
use Rattle.grs_world.proofs.Common.{[], ◌&&◌, ◌++◌, ◌<◌, ◌==◌, ◌≤◌, ◌∙◌, ◌∷◌, ◌≡◌, ◌≢◌, ap, append-nil, arith, Bool}
use Rattle.grs_world.proofs.Common.{Deck, desk_told, eqb-true, false, false_by, filter, has, has-with_same, has-zero}
use Rattle.grs_world.proofs.Common.{inbox, interest, is_interested, is_manager, known_from, length, List, list_any}
use Rattle.grs_world.proofs.Common.{lose_all, losing, losing_in, ltb-true, Mail, manager, manager_at, members, Moved}
use Rattle.grs_world.proofs.Common.{names_of, nat_lt, no_truth, NodeState, None, not, noticed, only, Option, purged}
use Rattle.grs_world.proofs.Common.{refl, Req, same_Some, slice_get_within, Some, stale, Standing, standing, StarPart}
use Rattle.grs_world.proofs.Common.{subst, sym, SysId, systems_of, TaskId, telling, true, Turnout, VaryDone, with_also}
use Rattle.grs_world.proofs.Common.{without_in_star, without_those, word_at, World, ℕ}
use Rattle.std.proofs.lemmas.Bool.{ltb-false}
use Rattle.grs_medium.proofs.Removals.{inbox-left, moved-at, told-where, told_to}
use Rattle.grs_medium.specs.Inboxes.{notices_to}
use Rattle.grs_wire.specs.Notices.{names}
use Rattle.grs_world.proofs.gather.InBoxes.{also-more, manager-others, near-others, noticed-more}
use Rattle.grs_world.proofs.gather.once.Acts.{Alike, alike-more, calm-once, stays-sent, still-once}
use Rattle.grs_world.proofs.gather.once.Boxes.{BoxGoes, goes-notice, goes-same}
use Rattle.grs_world.proofs.gather.once.Lists.{Fewer, fewer-append, fewer-both, fewer-filter, fewer-same, in-left}
use Rattle.grs_world.proofs.gather.once.Lists.{in-right}
use Rattle.grs_world.proofs.gather.once.Ready.{all-more, AllBehind, AreReady, IsQuiet, ready-by, still-ready}
use Rattle.grs_world.proofs.star.Worlds.{IsIn}
use Rattle.contention_mgr.specs.Manager.{entry_wanted}
use Rattle.grs_world.proofs.gather.once.Step.{AreOnce}
use Rattle.grs_world.proofs.gather.way.Acting.{Acting}
use Rattle.grs_world.proofs.gather.way.Entry.{at}
use Rattle.grs_world.proofs.run.Came.{informed, removes_star, replied}
use Rattle.grs_world.proofs.run.Lost.{by-loss}
use Rattle.grs_world.proofs.run.Placed.{world_then}
use Rattle.grs_world.proofs.run.Site.{Site}
use Rattle.grs_world.proofs.star.Runs.{word_past}
use Rattle.grs_world.proofs.star.Systems.{requests_in}
use Rattle.grs_world.specs.InHands.{in_hands}
use Rattle.grs_medium.specs.Apply.{is_live}
use Rattle.grs_node.specs.Node.{next_order}
use Rattle.grs_wire.specs.declared.deck.Choice.{Choice}
use Rattle.grs_wire.specs.declared.deck.Choice.TheVariants as choices
use Rattle.grs_wire.specs.declared.deck.Order.TheVariants as orders
use Rattle.grs_wire.specs.declared.medium.Mail.TheVariants as mails
use Rattle.grs_wire.specs.declared.medium.Reply.TheVariants as replies

-- some of what is held goes with those that are lost
lost-held : (names : List TaskId) (x : Standing) (ss : List SysId) → Fewer x.part.held (lose_all names x ss).part.held
lost-held names x ss =
    by-loss (λ (y : Standing). Fewer x.part.held y.part.held) (λ ns y e k. k)
    (λ y s k.
    fewer-both x.part.held y.part.held (filter (λ q. not (s.0 == q.task.system.0)) y.part.held) k
    (fewer-filter (λ q. not (s.0 == q.task.system.0)) y.part.held))
    names x ss (fewer-same x.part.held)

-- a word past the last one names nobody
named-within : (words : List ℕ) (e : ℕ) (m : SysId) → manager_at words e ≡ Some m → e < length words
unfolding manager
named-within words e m named = go (nat_lt e (length words)) refl
  where
    go : (b : Bool) → nat_lt e (length words) ≡ b → e < length words
    go true low = ltb-true e (length words) low
    go false past =
        absurd (let none : Some m ≡ None =
        sym named ∙ ap manager (word_past words e (ltb-false e (length words) past)) in cc)

pub near-within : (words : List ℕ) (e u : ℕ) → is_interested words e u ≡ true → e < length words
near-within words e u near = go (nat_lt e (length words)) refl
  where
    go : (b : Bool) → nat_lt e (length words) ≡ b → e < length words
    go true low = ltb-true e (length words) low
    go false past =
        no_truth (is_interested words e u) near
        (ap (λ x. has (interest x) u) (word_past words e (ltb-false e (length words) past)) ∙ has-zero u)

module _ (deck : Deck) (some : 0 < deck.entries) (w : World) (c : SysId) (n : NodeState) (p : StarPart)
    (a : Acting deck w c n p) (home : n.tasks.system ≡ c.0) (J : AreOnce deck w) where
  -- ---- it is told who was removed
  pub told-once : (choice : Choice) →
      AreOnce deck (world_then w c n (record { medium = w.medium; step = only (stale deck n w.medium.removed) }))
  unfolding stale losing
  told-once choice =
      still-once deck some w c n p a home J
      (record { medium = w.medium; step = only (stale deck n w.medium.removed) })
      (lose_all (names_of deck n.tasks.system) (standing n.tasks p)
      (members (without_those n.known (known_from deck n.known w.medium.removed)))).part
      (ap (λ (o : Option StarPart).
      (losing_in deck (record n { known = known_from deck n.known w.medium.removed }) o
      (members (without_those n.known (known_from deck n.known w.medium.removed)))).star)
      a.star)
      refl refl refl
      (λ t x sent asks.
      stays-sent deck some w c n p a home J t x choice (replied (replies.Stale w.medium.removed)) _ (informed choice)
      refl sent asks)
      (lost-held (names_of deck n.tasks.system) (standing n.tasks p)
      (members (without_those n.known (known_from deck n.known w.medium.removed))))

  pub told-ready : AreReady deck w →
      AreReady deck (world_then w c n (record { medium = w.medium; step = only (stale deck n w.medium.removed) }))
  unfolding stale losing
  told-ready G =
      still-ready deck w c n p a.site a.star G
      (record { medium = w.medium; step = only (stale deck n w.medium.removed) })
      (lose_all (names_of deck n.tasks.system) (standing n.tasks p)
      (members (without_those n.known (known_from deck n.known w.medium.removed)))).part
      (ap (λ (o : Option StarPart).
      (losing_in deck (record n { known = known_from deck n.known w.medium.removed }) o
      (members (without_those n.known (known_from deck n.known w.medium.removed)))).star)
      a.star)
      (λ u live. live) refl
      (lost-held (names_of deck n.tasks.system) (standing n.tasks p)
      (members (without_those n.known (known_from deck n.known w.medium.removed))))

  -- ---- it removes one
  module _ (around : systems_of w.medium ≡ length deck.systems) (target : SysId) (mode : w.medium.star ≡ true)
      (next : next_order deck n ≡ Some (orders.Vary target)) (lives : is_live w.medium target ≡ true) where
    abbrev removing : Turnout
    removing = record { medium = without_in_star w.medium target; step = purged deck n (choices.Purge target) }

    abbrev q : StarPart
    q = (lose_all (names_of deck n.tasks.system) (standing (desk_told n VaryDone).tasks p) (target ∷ [])).part

    pub own-star : (purged deck n (choices.Purge target)).node.star
        ≡ Some (lose_all (names_of deck n.tasks.system) (standing (desk_told n VaryDone).tasks p) (target ∷ [])).part
    unfolding purged losing desk_told telling
    own-star =
        ap (λ (o : Option StarPart). (losing_in deck
        (record (desk_told n VaryDone) { known = with_also n.known target.0 }) o
        (target ∷ [])).star) a.star

    pub apart : (u : ℕ) → has (with_also w.medium.removed target.0) u ≡ false → u ≢ target.0
    apart u live same =
        no_truth (has (with_also w.medium.removed target.0) u)
        (ap (has (with_also w.medium.removed target.0)) same ∙ has-with_same w.medium.removed target.0) live

    -- a manager that isn't removed is another one
    other : (e : ℕ) (m : SysId) → manager_at w.medium.words e ≡ Some m
        → has (with_also w.medium.removed target.0) m.0 ≡ false
        → is_manager (manager_at w.medium.words e) target ≡ false
    other e m named live =
        ap (λ o. is_manager o target) named
        ∙ false_by (m.0 == target.0) (λ same. absurd (apart m.0 live (eqb-true m.0 target.0 same)))

    module _ (u : ℕ) (k : NodeState) (there : Site w u k)
        (live : has (with_also w.medium.removed target.0) u ≡ false) where
      abbrev mvs : List Moved
      mvs = told_to w.medium target (record { 0 = u })

      pub within : u < length deck.systems
      within =
          let below = slice_get_within w.nodes u k there.at in
          let count = a.count in
          omega (arith, below, count)

      pub box-then : inbox (without_in_star w.medium target) u
          ≡ inbox w.medium u ++ notices_to target (told_to w.medium target (record { 0 = u }))
      box-then =
          let low = within in
          let boxes = a.fit.boxes in
          inbox-left w.medium target (record { 0 = u }) (omega (arith, low, boxes)) (apart u live)

      -- its notice names no entry of such a manager
      quiet : (e : ℕ) (m : SysId) → manager_at w.medium.words e ≡ Some m
          → has (with_also w.medium.removed target.0) m.0 ≡ false
          → list_any (λ x. x.entry == e) (told_to w.medium target (record { 0 = u })) ≡ false
      quiet e m named live_m =
          let low = within in
          ap (list_any (λ (x : Moved). x.entry == e))
          (moved-at w.medium target (record { 0 = u }) (omega (arith, low, around)))
          ∙ (told-where w.medium.words target (record { 0 = u }) e (named-within w.medium.words e m named)
          (apart u live)
          ∙ ap (λ b. b && has (interest (word_at w.medium.words e)) u) (other e m named live_m))

      pub box-removed : BoxGoes w.medium.words (with_also w.medium.removed target.0) (λ t. ⊥) u (inbox w.medium u)
          (inbox (without_in_star w.medium target) u)
      box-removed =
          subst
          (BoxGoes w.medium.words (with_also w.medium.removed target.0) (λ t. ⊥) u (inbox w.medium u)) (sym box-then)
          (go (told_to w.medium target (record { 0 = u })) quiet)
        where
          go : (xs : List Moved)
              → ((e : ℕ) (m : SysId) → manager_at w.medium.words e ≡ Some m
              → has (with_also w.medium.removed target.0) m.0 ≡ false → list_any (λ x. x.entry == e) xs ≡ false)
              → BoxGoes w.medium.words (with_also w.medium.removed target.0) (λ t. ⊥) u (inbox w.medium u)
              (inbox w.medium u ++ notices_to target xs)
          go [] silent =
              subst
              (BoxGoes w.medium.words (with_also w.medium.removed target.0) (λ t. ⊥) u (inbox w.medium u))
              (sym (append-nil (inbox w.medium u)))
              (goes-same w.medium.words (with_also w.medium.removed target.0) (λ t. ⊥) u (inbox w.medium u))
          go (x ∷ xs) silent =
              goes-notice w.medium.words (with_also w.medium.removed target.0) (λ t. ⊥) u (inbox w.medium u)
              (mails.Notice target (x ∷ xs)) (λ place. refl) silent

      alike-removed : Alike (inbox w.medium u) (inbox (without_in_star w.medium target) u)
      alike-removed = subst (Alike (inbox w.medium u)) (sym box-then) (go (told_to w.medium target (record { 0 = u })))
        where
          go : (xs : List Moved) → Alike (inbox w.medium u) (inbox w.medium u ++ notices_to target xs)
          go [] =
              subst (Alike (inbox w.medium u)) (sym (append-nil (inbox w.medium u)))
              (fewer-same (requests_in (inbox w.medium u)))
          go (x ∷ xs) = alike-more (inbox w.medium u) (mails.Notice target (x ∷ xs)) refl

    pub removed-once : AreOnce deck (world_then w c n (record {
      medium = without_in_star w.medium target;
      step = purged deck n (choices.Purge target);
    }))
    removed-once =
        calm-once deck some w c n p a home J removing
        (lose_all (names_of deck n.tasks.system) (standing (desk_told n VaryDone).tasks p) (target ∷ [])).part own-star
        (λ u h. also-more w.medium.removed target.0 u h)
        (λ e u live near busy.
        near-others w.medium.words target e (near-within w.medium.words e u near) u (apart u live) ∙ near)
        (λ e m u live_m live_u named near busy.
        manager-others w.medium.words target e (named-within w.medium.words e (at m) named)
        (other e (at m) named live_m)
        ∙ named)
        (λ t x e home_t h calm.
        stays-sent deck some w c n p a home J t x (choices.Purge target) (replied replies.Purged) removing
        (removes_star target mode next lives) refl h.sent h.asks)
        (λ u k there live. box-removed u k there live)
        (λ live.
        fewer-append p.held
        (lose_all (names_of deck n.tasks.system) (standing (desk_told n VaryDone).tasks p) (target ∷ [])).part.held
        (requests_in (inbox w.medium c.0)) (requests_in (inbox (without_in_star w.medium target) c.0))
        (lost-held (names_of deck n.tasks.system) (standing (desk_told n VaryDone).tasks p) (target ∷ []))
        (alike-removed c.0 n a.site live))
        (λ u k ne there live. alike-removed u k there live)

    -- no notice comes of what is in the hands of one that isn't removed
    module _ (G : AreReady deck w) where
      was-live : (u : ℕ) → has (with_also w.medium.removed target.0) u ≡ false → has w.medium.removed u ≡ false
      was-live u live =
          false_by (has w.medium.removed u) (λ h.
          no_truth (has (with_also w.medium.removed target.0) u) (also-more w.medium.removed target.0 u h) live)

      module _ (u : ℕ) (k : NodeState) (z : StarPart) (there : Site w u k) (star : k.star ≡ Some z)
          (live : has (with_also w.medium.removed target.0) u ≡ false) where
        hand-quiet : (q : Req) → IsIn q (in_hands z (inbox w.medium u)) → (y : NodeState) → Site w q.task.system.0 y
            → (e : ℕ) → entry_wanted deck.entries q.want ≡ Some e
            → list_any (λ x. x.entry == e) (told_to w.medium target (record { 0 = u })) ≡ false
        hand-quiet q among y at_y e is =
            let h = J.hands u k z q y there star among at_y in
            let same : e ≡ h.entry =
            same_Some e h.entry (sym is ∙ (ap (entry_wanted deck.entries) (sym h.same) ∙ h.has.at)) in
            quiet u k there live e (at u) (ap (manager_at w.medium.words) same ∙ h.managed) live

        -- behind mail that it names nothing of
        quiet-more : (q : Req) → IsIn q (in_hands z (inbox w.medium u)) → (xs : List Moved)
            → xs ≡ told_to w.medium target (record { 0 = u }) → (ms : List Mail) → IsQuiet deck w q ms
            → IsQuiet deck w q (ms ++ notices_to target xs)
        quiet-more q among [] same ms h y at_y e is =
            ap (noticed e) (append-nil ms) ∙ h y at_y e is
        quiet-more q among (x ∷ xs) same ms h y at_y e is =
            noticed-more e ms (mails.Notice target (x ∷ xs))
            (ap (list_any (λ (m : Moved). m.entry == e)) same ∙ hand-quiet q among y at_y e is)
            ∙ h y at_y e is

        mail-more : (xs : List Moved) → xs ≡ told_to w.medium target (record { 0 = u })
            → AllBehind (IsQuiet deck w) (inbox w.medium u)
            → AllBehind (IsQuiet deck w) (inbox w.medium u ++ notices_to target xs)
        mail-more [] same h =
            subst (λ (ms : List Mail). AllBehind (IsQuiet deck w) ms) (sym (append-nil (inbox w.medium u))) h
        mail-more (x ∷ xs) same h =
            all-more (IsQuiet deck w) (IsQuiet deck w) (inbox w.medium u) (mails.Notice target (x ∷ xs))
            (λ q ks among h_q.
            quiet-more q (in-right q z.held (requests_in (inbox w.medium u)) among) (x ∷ xs) same ks h_q)
            tt h

        held-quiet : (q : Req) → IsIn q z.held → IsQuiet deck w q (inbox (without_in_star w.medium target) u)
        held-quiet q among =
            subst (λ (ms : List Mail). IsQuiet deck w q ms) (sym (box-then u k there live))
            (quiet-more q (in-left q z.held (requests_in (inbox w.medium u)) among)
            (told_to w.medium target (record { 0 = u })) refl (inbox w.medium u) (G.held u k z there star q among))

        mail-quiet : AllBehind (IsQuiet deck w) (inbox (without_in_star w.medium target) u)
        mail-quiet =
            subst (λ (ms : List Mail). AllBehind (IsQuiet deck w) ms) (sym (box-then u k there live))
            (mail-more (told_to w.medium target (record { 0 = u })) refl (G.mail u k z there star))

      pub removed-ready : AreReady deck (world_then w c n (record {
        medium = without_in_star w.medium target;
        step = purged deck n (choices.Purge target);
      }))
      removed-ready =
          ready-by deck w c n p a.site a.star G removing
          (lose_all (names_of deck n.tasks.system) (standing (desk_told n VaryDone).tasks p) (target ∷ [])).part
          own-star was-live
          (λ live q among.
          held-quiet c.0 n p a.site a.star live q
          ((lost-held (names_of deck n.tasks.system) (standing (desk_told n VaryDone).tasks p) (target ∷ [])).among q
          among))
          (λ m k z ne there star live q among. held-quiet m k z there star live q among)
          (λ m k z there star live. mail-quiet m k z there star live)
