-- A system that manages no lock entry is removed in star mode, where all systems have changed: what is shown of the
-- others goes on as a star that lost nobody, without that one's elements.
use Rattle.grs_world.proofs.Common.{[], ◌++◌, ◌<◌, ◌==◌, ◌||◌, ◌∙◌, ◌∷◌, ◌≡◌, ◌≢◌, ◌≤◌, and_from, and_parts, ap, arith}
use Rattle.grs_world.proofs.Common.{Bool, Deck, departed, desk_told, eq-eqb, eqb-true, false, false_by, fixed_by, has}
use Rattle.grs_world.proofs.Common.{has-with_other, has-with_same, history, inbox, inbox_of, is_interested, is_manager}
use Rattle.grs_world.proofs.Common.{IsHistory, items, items-append, length, length-map, length-set, List, lists}
use Rattle.grs_world.proofs.Common.{lists-push, lives, lt-ltb, ltb-true, made_item, Mail, manager_at, members}
use Rattle.grs_world.proofs.Common.{most_systems, nat_lt, ne_eqb, no_truth, NodeState, not, not-true, option_map}
use Rattle.grs_world.proofs.Common.{or-false, or_parts, Purged, purged, refl, remove_state, RunItem, same_Some, set}
use Rattle.grs_world.proofs.Common.{slice_get, Some, StarPart, State, subst, sym, SysId, systems_of, told-news}
use Rattle.grs_world.proofs.Common.{ToldNews, true, Turnout, VaryDone, with_also, without_in_star, without_those, World}
use Rattle.grs_world.proofs.Common.{ℕ}
use Rattle.grs_known.proofs.known.Histories.{follows-purge, MayPurge}
use Rattle.grs_medium.proofs.SpaceLaws.{length-posted}
use Rattle.grs_medium.specs.Apply.{is_live, moved_by}
use Rattle.grs_medium.specs.Inboxes.{emptied}
use Rattle.lock_structure.proofs.Purges.{purge_keeps_all_managed}
use Rattle.lock_structure.specs.Purge.{purged_word, purged_words}
use Rattle.grs_world.proofs.loss.Leaves.{hands-left, in-more, mail_without, part-removed, system-left, system-removed}
use Rattle.grs_world.proofs.loss.Leaves.{without-more}
use Rattle.grs_world.proofs.loss.Losing.{is_in, lose_parts, losing-is, none-unknown, tell_losses}
use Rattle.grs_world.proofs.loss.Tells.{system-loses}
use Rattle.grs_world.proofs.loss.View.{IsLeft, IsLosing, kept-by, left-box, left-from, left-same, left-there}
use Rattle.grs_world.proofs.loss.View.{left_boxes, left_node, left_nodes, unknown, viewed_by}
use Rattle.grs_world.proofs.loss.Words.{box-past, inbox-same, interest-gone, interest-same, manager-same, not-below}
use Rattle.grs_world.specs.Kept.{IsKeptBy}
use Rattle.grs_world.proofs.run.Knowing.{KnownAreRemoved}
use Rattle.grs_world.proofs.run.Placed.{by_node, world_then}
use Rattle.grs_world.proofs.run.Site.{at_site, IsThere}
use Rattle.grs_world.proofs.star.Elements.{AreNear}
use Rattle.grs_world.proofs.star.Members.{all_lists, has_manager, IsMember, IsPart, IsStar}
use Rattle.grs_world.proofs.star.OwnEvents.{Goes}
use Rattle.grs_world.proofs.star.Systems.{IsSystem, Keeps}
use Rattle.grs_world.proofs.star.Under.{under}
use Rattle.grs_world.proofs.star.Worlds.{are_live, Hands, in_hands, IsWhole}
use Rattle.grs_world.proofs.loss.Without.{hands-more, near-left, none-left, system-desk, system-part}
use Rattle.grs_wire.specs.declared.deck.Choice.TheVariants as choices

-- A system that manages no lock entry is removed by another one, which knows all who were removed before.
pub record IsRemoval (deck : Deck) (w : World) (g : IsLosing deck w) (c : SysId) (n : NodeState) (t : SysId) : Type 0
  where
    pub few : length deck.systems ≤ most_systems
    pub knows : KnownAreRemoved w
    pub at : slice_get w.nodes c.0 ≡ Some n
    pub alive : has w.medium.removed c.0 ≡ false
    pub all : n.known ≡ w.medium.removed
    pub there : is_live w.medium t ≡ true
    pub ne : c.0 ≢ t.0
    pub idle : (e : ℕ) → is_manager (manager_at w.medium.words e) t ≡ false
    pub may : MayPurge deck (items w.fixed) (made_item c (items w.fixed) (Purged t))

module _ {deck : Deck} {w : World} {g : IsLosing deck w} {c : SysId} {n : NodeState} {t : SysId}
    (event : IsRemoval deck w g c n t) where
  open event use {few, knows, at, alive, all, there, ne, idle, may}

  abbrev pub T : List RunItem
  T = items w.fixed

  abbrev pub x : RunItem
  x = made_item c (items w.fixed) (Purged t)

  abbrev pub L : State
  L = lists (items w.fixed)

  abbrev pub words : List ℕ
  words = w.medium.words

  abbrev pub words' : List ℕ
  words' = purged_words w.medium.words t

  abbrev pub gone : ℕ
  gone = with_also w.medium.removed t.0

  abbrev pub V : World
  V = viewed_by w g.view g.boxes

  -- ---- who is removed then
  pub gone-is : (s : ℕ) → has gone s ≡ ((t.0 == s) || has w.medium.removed s)
  gone-is s = go (t.0 == s) refl
    where
      go : (b : Bool) → (t.0 == s) ≡ b → has gone s ≡ (b || has w.medium.removed s)
      go true e = ap (has gone) (sym (eqb-true t.0 s e)) ∙ has-with_same w.medium.removed t.0
      go false e =
          has-with_other w.medium.removed t.0 s (λ same. no_truth (t.0 == s) (eq-eqb t.0 s (sym same)) e)

  pub was-live : (s : ℕ) → has gone s ≡ false → ((t.0 == s) ≡ false) × (has w.medium.removed s ≡ false)
  was-live s live = or_parts (t.0 == s) (has w.medium.removed s) (sym (gone-is s) ∙ live)

  pub elsewhere : (s : ℕ) → has gone s ≡ false → s ≢ t.0
  elsewhere s live same = no_truth (t.0 == s) (eq-eqb t.0 s (sym same)) (was-live s live).0

  pub target : (t.0 < length deck.systems) × (has w.medium.removed t.0 ≡ false)
  target =
      let both = and_parts (nat_lt t.0 (systems_of w.medium)) (not (has w.medium.removed t.0)) there in (
        subst (λ k. t.0 < k) g.around (ltb-true t.0 (systems_of w.medium) both.0),
        not-true (has w.medium.removed t.0) both.1,
      )

  low : t.0 < most_systems
  low = omega (arith, target.0, few)

  unknown-yet : (s : ℕ) (z : NodeState) → slice_get w.nodes s ≡ Some z → has z.known t.0 ≡ false
  unknown-yet s z found =
      false_by (has z.known t.0) (λ known.
      no_truth (has w.medium.removed t.0) (knows s z found t.0 known) target.1)

  -- ---- words
  roles : (e s : ℕ) → has_manager words' e s ≡ has_manager words e s
  roles e s = ap (λ o. is_manager o (record { 0 = s })) (manager-same words t idle e)

  pub near-same : (e s : ℕ) → s ≢ t.0 → is_interested words' e s ≡ is_interested words e s
  near-same e s apart = interest-same words t idle e s apart

  keeps : (s : ℕ) → s ≢ t.0 → Keeps words words' s
  keeps s apart = record {
    away = λ e h. (roles e s ∙ h.0, near-same e s apart ∙ h.1);
    near = λ e h. near-same e s apart ∙ h;
  }

  -- ---- the system of the event
  abbrev pub own-left : IsLeft w.medium.removed n (g.shown c.0 n at alive).0
  own-left = (g.shown c.0 n at alive).2

  abbrev pub p : StarPart
  p = (g.shown c.0 n at alive).2.part

  pub in-view : slice_get g.view c.0 ≡ Some n
  in-view =
      (g.shown c.0 n at alive).1
      ∙ ap (λ (z : NodeState). Some z) (left-same w.medium.removed n (g.shown c.0 n at alive).0 own-left all)

  abbrev own-member : IsMember deck words (all_lists V) c.0 n
  own-member = g.whole.roles.node c.0 n (at_site in-view alive)

  pub own-fits : IsPart deck words L c.0 p
  own-fits =
      subst (IsPart deck words L c.0)
      (same_Some own-member.part p (sym own-member.star ∙ own-left.star)) own-member.fits

  abbrev told : NodeState
  told = record (desk_told n VaryDone) { known = with_also n.known t.0 }

  abbrev pub after : NodeState
  after = record (record (desk_told n VaryDone) { known = with_also n.known t.0 }) {
    tasks = tell_losses (desk_told n VaryDone).tasks p (t ∷ []);
    star = Some (lose_parts p (t ∷ []));
  }

  abbrev pub o : Turnout
  o = record {
    medium = without_in_star w.medium t;
    step = record {
      node = record (record (desk_told n VaryDone) { known = with_also n.known t.0 }) {
        tasks = tell_losses (desk_told n VaryDone).tasks p (t ∷ []);
        star = Some (lose_parts p (t ∷ []));
      };
      fixed = Purged t ∷ [];
    };
  }

  pub turns : record { medium = without_in_star w.medium t; step = purged deck n (choices.Purge t) } ≡ o
  unfolding purged desk_told
  turns =
      ap (λ (k : NodeState).
      let z : Turnout = record {
        medium = without_in_star w.medium t;
        step = record { node = k; fixed = Purged t ∷ [] };
      } in z)
      (losing-is deck told p own-left.star own-left.calm (t ∷ []))

  -- it knows all that are removed then, and shows itself
  pub after-left : left_node gone after ≡ after
  after-left =
      ap (λ ss. let z : NodeState = record after { star = Some (lose_parts (lose_parts p (t ∷ [])) ss) } in z)
      (ap (λ r. members (without_those (with_also n.known t.0) (with_also r t.0))) (sym all)
      ∙ none-unknown (with_also n.known t.0))

  pub one-more : (u : ℕ) → is_in u (t ∷ []) ≡ (is_in u [] || (t.0 == u))
  one-more u = or-false (t.0 == u)

  -- ---- another one
  module _ (s : ℕ) (z : NodeState) (found : slice_get w.nodes s ≡ Some z) (live : has gone s ≡ false) where
    abbrev pub old : (k : NodeState) × (slice_get g.view s ≡ Some k) × IsLeft w.medium.removed z k
    old = g.shown s z found (was-live s live).1

    abbrev pub q : StarPart
    q = (g.shown s z found (was-live s live).1).2.part

    pub more : (u : ℕ) → is_in u (unknown gone z) ≡ (is_in u (unknown w.medium.removed z) || (t.0 == u))
    more u = in-more z.known w.medium.removed gone t low gone-is (unknown-yet s z found) u

    abbrev pub its-member : IsMember deck words (all_lists V) s old.0
    its-member = g.whole.roles.node s old.0 (at_site old.1 (was-live s live).1)

    pub its-part : its-member.part ≡ lose_parts q (unknown w.medium.removed z)
    its-part =
        same_Some its-member.part (lose_parts q (unknown w.medium.removed z))
        (sym its-member.star ∙ ap (λ (k : NodeState). k.star) old.2.is)

    pub its-star : (left_node gone z).star ≡ Some (lose_parts q (unknown gone z))
    its-star = ap (option_map (λ (y : StarPart). lose_parts y (unknown gone z))) old.2.star

    pub other-fits : IsPart deck words' (remove_state L t.0) s (lose_parts q (unknown gone z))
    other-fits =
        part-removed deck words words' L s t (λ e. roles e s) (λ e. near-same e s (elsewhere s live)) q
        (unknown w.medium.removed z) (unknown gone z) more (subst (IsPart deck words L s) its-part its-member.fits)
        old.2.well old.2.calm

    other-member : IsMember deck words' (remove_state L t.0) s (left_node gone z)
    other-member = record {
      part = lose_parts q (unknown gone z);
      star = its-star;
      outbox = ap (λ (k : NodeState). k.outbox) (sym old.2.is) ∙ its-member.outbox;
      fits = other-fits;
    }

    other-system : IsSystem deck words' (T ++ x ∷ []) s (left_node gone z)
        (mail_without (λ u. t.0 == u) (inbox_of g.boxes s)) (g.whole.later s) (g.whole.out s)
    other-system =
        let was : IsSystem deck words T s (record z { star = Some (lose_parts q (unknown w.medium.removed z)) })
        (inbox_of g.boxes s) (g.whole.later s) (g.whole.out s) =
        subst (λ (k : NodeState). IsSystem deck words T s k (inbox_of g.boxes s) (g.whole.later s) (g.whole.out s))
        old.2.is (g.whole.system s old.0 (at_site old.1 (was-live s live).1)) in
        system-left (λ u. t.0 == u) deck words' (T ++ x ∷ []) s (left_node gone z) (inbox_of g.boxes s)
        (g.whole.later s) (g.whole.out s)
        (system-part deck words' (T ++ x ∷ []) s
        (record z { star = Some (lose_parts q (unknown w.medium.removed z)) }) (inbox_of g.boxes s) (g.whole.later s)
        (g.whole.out s) (option_map (λ y. lose_parts y (unknown gone z)) z.star)
        (system-removed deck words words' T s (record z { star = Some (lose_parts q (unknown w.medium.removed z)) })
        (inbox_of g.boxes s) (g.whole.later s) (g.whole.out s) x t refl
        (λ same. elsewhere s live (sym same)) (keeps s (elsewhere s live)) was))

    pub other-left : IsLeft gone z (left_node gone z)
    other-left = record {
      part = q;
      star = old.2.star;
      is = ap (λ y. let k : NodeState = record z { star = option_map (λ p. lose_parts p (unknown gone z)) y } in k)
          old.2.star;
      well = old.2.well;
      calm = old.2.calm;
    }

  -- ---- the system itself, behind the event
  pub after-fits : IsPart deck words' (remove_state L t.0) c.0 (lose_parts p (t ∷ []))
  after-fits =
      part-removed deck words words' L c.0 t (λ e. roles e c.0) (λ e. near-same e c.0 ne) p [] (t ∷ []) one-more
      own-fits
      own-left.well own-left.calm

  after-member : IsMember deck words' (remove_state L t.0) c.0 after
  unfolding desk_told
  after-member = record {
    part = lose_parts p (t ∷ []);
    star = refl;
    outbox = own-member.outbox;
    fits = after-fits;
  }

  after-goes : Goes deck words' (T ++ x ∷ []) c.0 after (inbox_of g.boxes c.0) (g.whole.later c.0) (g.whole.out c.0)
      (desk_told n VaryDone).tasks.told
  after-goes =
      system-loses deck words' (T ++ x ∷ []) c.0 (desk_told n VaryDone) (inbox_of g.boxes c.0) (g.whole.later c.0)
      (g.whole.out c.0) (follows-purge deck T x g.whole.right may)
      (system-removed deck words words' T c.0 (desk_told n VaryDone) (inbox_of g.boxes c.0) (g.whole.later c.0)
      (g.whole.out c.0) x t refl (λ same. ne (sym same)) (keeps c.0 ne)
      (system-desk deck words T c.0 n (inbox_of g.boxes c.0) (g.whole.later c.0) (g.whole.out c.0) VaryDone
      (g.whole.system c.0 n (at_site in-view alive))))
      p (t ∷ []) own-fits.home
      (or-false (t.0 == c.0) ∙ ne_eqb t.0 c.0 (λ same. ne (sym same)))
      (subst (λ K. IsPart deck words' K c.0 (lose_parts p (t ∷ []))) (sym (lists-push T x))
      after-fits)
      (Some (lose_parts p (t ∷ []))) (with_also n.known t.0)

  after-system : IsSystem deck words' (T ++ x ∷ []) c.0 after (mail_without (λ u. t.0 == u) (inbox_of g.boxes c.0))
      (g.whole.later c.0) (g.whole.out c.0)
  after-system =
      system-left (λ u. t.0 == u) deck words' (T ++ x ∷ []) c.0 after (inbox_of g.boxes c.0) (g.whole.later c.0)
      (g.whole.out c.0) after-goes.system

  pub news : ToldNews deck c.0 (history (T ++ x ∷ [])) (desk_told n VaryDone).tasks.told after.tasks.told
  news = told-news after-goes.told

  pub after-is-left : IsLeft gone after (left_node gone after)
  after-is-left = record {
    part = lose_parts p (t ∷ []);
    star = refl;
    is = refl;
    well = after-fits.well;
    calm = after-fits.calm;
  }

  -- ---- the inboxes
  abbrev pub boxes : List (List Mail)
  boxes = left_boxes (λ u. t.0 == u) g.boxes

  pub box-then : (s : ℕ) → inbox_of boxes s ≡ mail_without (λ u. t.0 == u) (inbox_of g.boxes s)
  box-then s = left-box (λ u. t.0 == u) g.boxes s

  pub places : length (without_in_star w.medium t).inboxes ≡ length deck.systems
  places =
      length-posted t (moved_by w.medium.words (systems_of w.medium) t) (emptied w.medium.inboxes t.0)
      ∙ (length-set w.medium.inboxes t.0 [] ∙ g.places)

  -- they are those of the medium then, without requests of the removed
  pub mail-then : (s : ℕ) → has gone s ≡ false
      → inbox_of boxes s ≡ mail_without (has gone) (inbox (without_in_star w.medium t) s)
  mail-then s live =
      box-then s
      ∙ (ap (mail_without (λ u. t.0 == u)) (g.mail s (was-live s live).1)
      ∙ (without-more (has w.medium.removed) (λ u. t.0 == u) (has gone) gone-is (inbox w.medium s)
      ∙ ap (mail_without (has gone)) (by-place (nat_lt s (length w.medium.inboxes)) refl)))
    where
      emptied-past : length (without_in_star w.medium t).inboxes ≤ s → inbox (without_in_star w.medium t) s ≡ []
      emptied-past past = box-past (without_in_star w.medium t).inboxes s past

      by-place : (b : Bool) → nat_lt s (length w.medium.inboxes) ≡ b
          → inbox w.medium s ≡ inbox (without_in_star w.medium t) s
      by-place true is =
          sym (inbox-same w.medium t idle s (ltb-true s (length w.medium.inboxes) is) (elsewhere s live))
      by-place false is =
          let past : length w.medium.inboxes ≤ s =
          not-below (length w.medium.inboxes) s
          (λ l. no_truth (nat_lt s (length w.medium.inboxes)) (lt-ltb s (length w.medium.inboxes) l) is) in
          box-past w.medium.inboxes s past
          ∙ sym (emptied-past (subst (λ k. k ≤ s) (g.places ∙ sym places) past))

  -- ---- the world that is shown then
  abbrev pub W : World
  W = world_then w c n o

  abbrev pub nodes : List NodeState
  nodes = left_nodes gone (set w.nodes c.0 after)

  count : length nodes ≡ length deck.systems
  count =
      length-map (set w.nodes c.0 after) (left_node gone) ∙ (length-set w.nodes c.0 after ∙ g.count)

  pub grown : items (w.fixed ++ fixed_by c (Purged t ∷ [])) ≡ T ++ x ∷ []
  grown = items-append w.fixed (fixed_by c (Purged t ∷ []))

  pub lists-then : lists (items (w.fixed ++ fixed_by c (Purged t ∷ []))) ≡ remove_state L t.0
  lists-then = ap lists grown ∙ lists-push T x

  -- each system behind the event, by whether it is that of the event
  pub each-then : (P : ℕ → NodeState → Type 0) → P c.0 after
      → ((s : ℕ) (z : NodeState) → slice_get w.nodes s ≡ Some z → has gone s ≡ false → P s (left_node gone z))
      → (s : ℕ) (k : NodeState) → IsThere nodes gone s k → P s k
  each-then P own others s k u =
      let z = left-from gone (set w.nodes c.0 after) s k u.at in
      subst (P s) (sym z.2)
      (by_node w.nodes c.0 n after at (λ i y. has gone i ≡ false → P i (left_node gone y))
      (λ live. subst (P c.0) (sym after-left) own) (λ i y apart found live. others i y found live) s z.0 z.1 u.live)

  pub live-then : (u : ℕ) → (t.0 == u) ≡ false → are_live V u ≡ true → lives (length nodes) gone u ≡ true
  live-then u apart live =
      let both = and_parts (nat_lt u (length g.view)) (not (has w.medium.removed u)) live in
      and_from (nat_lt u (length nodes)) (not (has gone u))
      (ap (nat_lt u) (count ∙ sym g.whole.roles.systems) ∙ both.0)
      (ap not (gone-is u ∙ ap (λ b. b || has w.medium.removed u) apart) ∙ both.1)

  nobody : (e s : ℕ) → lives (length nodes) gone s ≡ false
      → (is_interested words' e s ≡ false) × (has_manager words' e s ≡ false)
  nobody e s past = go (t.0 == s) refl
    where
      was-past : (t.0 == s) ≡ false → are_live V s ≡ false
      was-past apart =
          false_by (are_live V s) (λ live. no_truth (lives (length nodes) gone s) (live-then s apart live) past)

      go : (b : Bool) → (t.0 == s) ≡ b → (is_interested words' e s ≡ false) × (has_manager words' e s ≡ false)
      go true same =
          let is : t.0 ≡ s = eqb-true t.0 s same in (
            ap (is_interested words' e) (sym is) ∙ interest-gone words t idle e,
            roles e s
                ∙ (ap (λ i. is_manager (manager_at words e) (record { 0 = i })) (sym is) ∙ idle e),
          )
      go false apart =
          let old = g.whole.roles.nobody e s (was-past apart) in (
            near-same e s (λ same. no_truth (t.0 == s) (eq-eqb t.0 s (sym same)) apart) ∙ old.0,
            roles e s ∙ old.1,
          )

  pub roles-then : IsStar deck (viewed_by W nodes boxes)
  roles-then = record {
    mode = g.whole.roles.mode;
    words = length-map words (λ (y : ℕ). purged_word y t) ∙ g.whole.roles.words;
    inboxes = length-map g.boxes (mail_without (λ u. t.0 == u)) ∙ g.whole.roles.inboxes;
    systems = count;
    managed = purge_keeps_all_managed words t g.whole.roles.managed;
    nobody = nobody;
    free = λ e none.
        ap (under deck.entries e) lists-then
        ∙ none-left deck words words' L t near-same e
        (g.whole.roles.free e (sym (manager-same words t idle e) ∙ none));
    node = λ s k u.
        subst (λ K. IsMember deck words' K s k) (sym lists-then)
        (each-then (IsMember deck words' (remove_state L t.0)) after-member
        (λ i z found live. other-member i z found live) s k u);
  }

  hands-by : (s : ℕ) (y : StarPart) (ss ts : List SysId) → ((u : ℕ) → is_in u ts ≡ (is_in u ss || (t.0 == u)))
      → Hands deck words (are_live V) g.whole.later g.whole.out s (in_hands (lose_parts y ss) (inbox_of g.boxes s))
      → Hands deck words' (lives (length nodes) gone) g.whole.later g.whole.out s
      (in_hands (lose_parts y ts) (inbox_of boxes s))
  hands-by s y ss ts is h =
      subst (Hands deck words' (lives (length nodes) gone) g.whole.later g.whole.out s)
      (sym (ap (in_hands (lose_parts y ts)) (box-then s) ∙ hands-more t y ss ts is (inbox_of g.boxes s)))
      (hands-left deck words words' (are_live V) (lives (length nodes) gone) g.whole.later g.whole.out s
      (λ u. t.0 == u) live-then (λ e mine. roles e s ∙ mine) (in_hands (lose_parts y ss) (inbox_of g.boxes s)) h)

  hands-then : (s : ℕ) (k : NodeState) → IsThere nodes gone s k → (y : StarPart) → k.star ≡ Some y
      → Hands deck words' (lives (length nodes) gone) g.whole.later g.whole.out s (in_hands y (inbox_of boxes s))
  hands-then s k u y star =
      each-then (λ i z.
      (v : StarPart) → z.star ≡ Some v
      → Hands deck words' (lives (length nodes) gone) g.whole.later g.whole.out i (in_hands v (inbox_of boxes i)))
      (λ v is.
      subst (λ (v : StarPart).
      Hands deck words' (lives (length nodes) gone) g.whole.later g.whole.out c.0 (in_hands v (inbox_of boxes c.0)))
      (same_Some (lose_parts p (t ∷ [])) v is)
      (hands-by c.0 p [] (t ∷ []) one-more
      (g.whole.hands c.0 n p (at_site in-view alive) own-left.star)))
      (λ i z found live v is.
      subst (λ (v : StarPart).
      Hands deck words' (lives (length nodes) gone) g.whole.later g.whole.out i (in_hands v (inbox_of boxes i)))
      (same_Some (lose_parts (q i z found live) (unknown gone z)) v (sym (its-star i z found live) ∙ is))
      (hands-by i (q i z found live) (unknown w.medium.removed z) (unknown gone z)
      (more i z found live)
      (g.whole.hands i (old i z found live).0
      (lose_parts (q i z found live) (unknown w.medium.removed z))
      (at_site (old i z found live).1 (was-live i live).1)
      (ap (λ (k : NodeState). k.star) (old i z found live).2.is))))
      s k u y star

  pub whole-then : IsWhole deck (viewed_by W nodes boxes)
  whole-then = record {
    roles = roles-then;
    right = subst (IsHistory deck) (sym grown) (follows-purge deck T x g.whole.right may);
    later = g.whole.later;
    out = g.whole.out;
    near =
        subst (AreNear deck words') (sym lists-then) (near-left deck words words' L t near-same g.whole.near);
    system = λ s k u.
        subst (λ U. IsSystem deck words' U s k (inbox_of boxes s) (g.whole.later s) (g.whole.out s)) (sym grown)
        (subst (λ ms. IsSystem deck words' (T ++ x ∷ []) s k ms (g.whole.later s) (g.whole.out s))
        (sym (box-then s))
        (each-then (λ i z.
        IsSystem deck words' (T ++ x ∷ []) i z (mail_without (λ v. t.0 == v) (inbox_of g.boxes i)) (g.whole.later i)
        (g.whole.out i))
        after-system (λ i z found live. other-system i z found live) s k u));
    hands = λ s k y u star. hands-then s k u y star;
  }

  -- who is removed then keeps well what it had
  pub own-live : has gone c.0 ≡ false
  own-live =
      gone-is c.0
      ∙ (ap (λ b. b || has w.medium.removed c.0) (ne_eqb t.0 c.0 (λ same. ne (sym same))) ∙ alive)

  pub gone-keeps : (s : ℕ) (z : NodeState) (u : StarPart) → slice_get w.nodes s ≡ Some z → has gone s ≡ true
      → z.star ≡ Some u → IsKeptBy s u
  gone-keeps s z u found dead star = go (has w.medium.removed s) refl
    where
      go : (b : Bool) → has w.medium.removed s ≡ b → IsKeptBy s u
      go true was = g.gone s z u found was star
      go false was = kept-by deck w g s z u found was star

  unfoldable pub losing-then : IsLosing deck (world_then w c n o)
  unfolding departed
  losing-then = record {
    view = nodes;
    boxes = boxes;
    whole = whole-then;
    shown = λ s z found live. (
      left_node gone z,
      left-there gone (set w.nodes c.0 after) s z found,
      by_node w.nodes c.0 n after at (λ i y. has gone i ≡ false → IsLeft gone y (left_node gone y))
          (λ l. after-is-left) (λ i y apart there l. other-left i y there l) s z found live,
    );
    mail = mail-then;
    around = g.around;
    places = places;
    gone = λ i z v found out star.
        by_node w.nodes c.0 n after at
        (λ s y. has gone s ≡ true → (u : StarPart) → y.star ≡ Some u → IsKeptBy s u)
        (λ dead. no_truth (has gone c.0) dead own-live) (λ s y apart there dead u is. gone-keeps s y u there dead is) i
        z
        found out v star;
    count = length-set w.nodes c.0 after ∙ g.count;
  }
