-- In a complex that begins in star mode the notices in a live system's inbox name the managers of lock entries,
-- whichever systems are removed: of those that name an entry the last one names its manager, each other one a system
-- that was removed; and whose inbox it is has interest in the entry.
use Rattle.grs_world.proofs.Common.{[], ◌++◌, ◌<◌, ◌==◌, ◌∙◌, ◌∷◌, ◌≡◌, ◌≢◌, ◌≤◌, All, and_from, and_parts, answer_for}
use Rattle.grs_world.proofs.Common.{ap, arith, Asked, awake, Bool, by_test, Choice, cond, Deck, entries_some, eqb-false}
use Rattle.grs_world.proofs.Common.{eqb-true, Event, false, first_world, FitsStar, has, has-with_other, has-with_same}
use Rattle.grs_world.proofs.Common.{has_interest, inbox, inbox_of, interest, IsManaged, leave_row, left_words, length}
use Rattle.grs_world.proofs.Common.{length-map, length-replicate, length-set, List, list_all, lt-ltb, ltb-true, Mail}
use Rattle.grs_world.proofs.Common.{manager, MediumState, most_systems, names_of, nat_lt, no_truth, NodeState, not}
use Rattle.grs_world.proofs.Common.{not-true, noticed, part_of, placed, prepare, prepared_by, rank_of, refl, replicate}
use Rattle.grs_world.proofs.Common.{Reply, request_of, row, run, Some, star_call, StarPart, submitted_words, subst, sym}
use Rattle.grs_world.proofs.Common.{SysId, systems_of, TaskId, true, Turnout, with_also, with_mail, without_first}
use Rattle.grs_world.proofs.Common.{without_in_star, World, ℕ}
use Rattle.std.specs.Prelude.{drop}
use Rattle.std.proofs.lemmas.Bool.{ltb-false}
use Rattle.grs_node.specs.Star.{may_leave}
use Rattle.grs_medium.specs.Inboxes.{emptied}
use Rattle.grs_medium.specs.Apply.{is_noticed, manages as manages_there, moved_by, notice_reply}
use Rattle.std.proofs.lemmas.List.{get_or_past, set_past}
use Rattle.grs_wire.specs.Notices.{names}
use Rattle.grs_medium.proofs.Removals.{inbox-left, moved-at, told_to}
use Rattle.grs_medium.proofs.SpaceLaws.{length-posted}
use Rattle.grs_node.specs.declared.prepared.Prepared.TheVariants.{Call as Calls}
use Rattle.grs_node.specs.declared.star.Need.TheVariants.{Asks, Idle}
use Rattle.lock_structure.proofs.LawProofs.{leave_keeps_all_managed, submit_keeps_all_managed, words_begin}
use Rattle.lock_structure.proofs.Purges.{purge_keeps_all_managed}
use Rattle.lock_structure.proofs.Within.{below-purged_words, within-left_words, within-purged_words, within-replicate}
use Rattle.lock_structure.proofs.Within.{within-submitted_words}
use Rattle.lock_structure.proofs.WordLaws.{below-left_words, below-replicate, below-submitted_words}
use Rattle.lock_structure.specs.Words.{ManagerIsBelow, MaskIsBelow}
use Rattle.grs_world.proofs.gather.way.Items.{BoxFits, fits-more, mail_fits, posted-fit}
use Rattle.grs_world.proofs.gather.way.Parts.{home-of, part_run}
use Rattle.grs_world.proofs.gather.way.Steps.{there-within}
use Rattle.lock_structure.specs.Purge.{purged_word, purged_words}
use Rattle.grs_world.proofs.at_rest.Sized.{IsSized, sized_run}
use Rattle.grs_world.proofs.run.Came.{Acts, Came, Result, acted, already, began, changed, decided, informed, last_turn}
use Rattle.grs_world.proofs.run.Came.{left, no_such, parted, removes_one, removes_star, replied, result_of, sent}
use Rattle.grs_world.proofs.run.Came.{settled, told, took, turn, went_on}
use Rattle.grs_world.proofs.run.Chosen.{came}
use Rattle.grs_world.proofs.run.Each.{each_heard, each_live, each_run}
use Rattle.grs_world.proofs.run.GoesOn.{as_many}
use Rattle.grs_world.proofs.run.Laps.{goes_on}
use Rattle.grs_world.proofs.run.Site.{at_site, site-below}
use Rattle.grs_world.proofs.star.Boxes.{by_box, taken-box, untaken-box}
use Rattle.grs_world.proofs.star.Roles.{interest-within, want-within}
use Rattle.grs_world.proofs.star.Sending.{WordsGrow, submit-grows}
use Rattle.grs_world.proofs.star.Sound.{no_mail}
use Rattle.grs_world.specs.Noticed.{InBox, NoticesName}
use Rattle.grs_wire.specs.declared.deck.Choice.TheVariants as choices
use Rattle.grs_wire.specs.declared.medium.Act.TheVariants as acts
use Rattle.grs_wire.specs.declared.medium.Mail.TheVariants as mails
use Rattle.grs_wire.specs.declared.medium.Reply.TheVariants as replies
use Rattle.grs_world.proofs.run.Came as any
use Rattle.grs_world.proofs.gather.InBoxes.{box-keeps, box-more, box-posted, named-from, other-entry, other-manager}
use Rattle.grs_world.proofs.gather.InBoxes.{other-system, stays-with, unnoticed}

-- ---- the medium
pub record AreFit (deck : Deck) (m : MediumState) : Type 0 where
  pub mode : m.star ≡ true
  pub words : length m.words ≡ deck.entries
  pub managed : All IsManaged m.words
  -- they name systems of the deck alone
  pub within : All (MaskIsBelow (length deck.systems)) m.words
  pub below : All (ManagerIsBelow (length deck.systems)) m.words
  pub boxes : length m.inboxes ≡ length deck.systems
  pub named : (s e : ℕ) → has m.removed s ≡ false → e < deck.entries → InBox m.words m.removed e s (inbox m s)
  -- so do notices and parts
  pub fits : (s : ℕ) → has m.removed s ≡ false → BoxFits deck (inbox m s)

-- the message and flags of rest say nothing of it
same-words : (deck : Deck) (m k : MediumState) → k.star ≡ m.star → k.words ≡ m.words → k.inboxes ≡ m.inboxes
    → k.removed ≡ m.removed → AreFit deck m → AreFit deck k
same-words deck m k star words boxes removed g = record {
  mode = star ∙ g.mode;
  words = ap (λ (ws : List ℕ). length ws) words ∙ g.words;
  managed = subst (All IsManaged) (sym words) g.managed;
  within = subst (All (MaskIsBelow (length deck.systems))) (sym words) g.within;
  below = subst (All (ManagerIsBelow (length deck.systems))) (sym words) g.below;
  boxes = ap (λ (bs : List (List Mail)). length bs) boxes ∙ g.boxes;
  named = λ s e live below.
      subst (λ ws. InBox ws k.removed e s (inbox k s)) (sym words)
      (subst (λ r. InBox m.words r e s (inbox k s)) (sym removed)
      (subst (λ bs. InBox m.words m.removed e s (inbox_of bs s)) (sym boxes)
      (g.named s e (sym (ap (λ i. has i s) removed) ∙ live) below)));
  fits = λ s live.
      subst (λ bs. BoxFits deck (inbox_of bs s)) (sym boxes)
      (g.fits s (sym (ap (λ i. has i s) removed) ∙ live));
}

-- a mail comes that is no notice
abbrev NoNotice : Mail → Type 0
NoNotice y = (e : ℕ) → names e y ≡ false

pub posted-one : (boxes : List (List Mail)) (to s : ℕ) (y : Mail) (P : List Mail → Type 0) → P (inbox_of boxes s)
    → P (inbox_of boxes s ++ y ∷ []) → P (inbox_of (with_mail boxes to y) s)
posted-one boxes to s y P same more = go (nat_lt to (length boxes)) refl
  where
    go : (b : Bool) → nat_lt to (length boxes) ≡ b → P (inbox_of (with_mail boxes to y) s)
    go true there = by_box boxes to y P (ltb-true to (length boxes) there) s (λ here. more) (λ other. same)
    go false past =
        subst (λ bs. P (inbox_of bs s))
        (sym (set_past boxes to (inbox_of boxes to ++ y ∷ []) (ltb-false to (length boxes) past))) same

fit-mail : (deck : Deck) (m : MediumState) (to : ℕ) (y : Mail) (flags : ℕ) → NoNotice y → mail_fits deck y ≡ true
    → AreFit deck m → AreFit deck (record m { inboxes = with_mail m.inboxes to y; rest = flags })
fit-mail deck m to y flags none fits g = record {
  mode = g.mode;
  words = g.words;
  managed = g.managed;
  within = g.within;
  below = g.below;
  boxes = length-set m.inboxes to (inbox_of m.inboxes to ++ y ∷ []) ∙ g.boxes;
  named = λ s e live below.
      posted-one m.inboxes to s y (InBox m.words m.removed e s) (g.named s e live below)
      (box-more m.words m.removed e s (inbox_of m.inboxes s) y (none e) (g.named s e live below));
  fits = λ s live.
      posted-one m.inboxes to s y (BoxFits deck) (g.fits s live)
      (fits-more deck (inbox_of m.inboxes s) y fits (g.fits s live));
}

-- other words, which name no other manager where there was one
fit-words : (deck : Deck) (m : MediumState) (ws : List ℕ) (flags : ℕ) → length ws ≡ length m.words
    → All IsManaged ws → All (MaskIsBelow (length deck.systems)) ws → All (ManagerIsBelow (length deck.systems)) ws →
    ((s e : ℕ) → has m.removed s ≡ false → e < deck.entries → InBox m.words m.removed e s (inbox m s)
    → InBox ws m.removed e s (inbox m s))
    → AreFit deck m → AreFit deck (record m { words = ws; rest = flags })
fit-words deck m ws flags count managed within low stay g = record {
  mode = g.mode;
  words = count ∙ g.words;
  managed = managed;
  within = within;
  below = low;
  boxes = g.boxes;
  named = λ s e live below. stay s e live below (g.named s e live below);
  fits = g.fits;
}

-- ---- one event
-- who may leave an entry finds no notice of it
module _ (m : MediumState) (c : SysId) (alive : has m.removed c.0 ≡ false) where
  no-left : (x : ℕ) (b : Bool) → replies.Left ≡ cond b replies.Yours replies.Old → noticed x (inbox m c.0) ≡ false
  no-left x true e = absurd (cc)
  no-left x false e = absurd (cc)

  left-row : (x : ℕ) → replies.Left ≡ (row m c (acts.Leave x)).0 → noticed x (inbox m c.0) ≡ false
  unfolding row leave_row
  left-row x =
      by_test (λ (z : Reply × MediumState). replies.Left ≡ z.0 → noticed x (inbox m c.0) ≡ false)
      (is_noticed m c x) (notice_reply m c x, m) _ (λ yes e. no-left x (manages_there m c x) e) (λ no e. no)

  same-reply : (a b : Reply) → replied a ≡ replied b → a ≡ b
  same-reply a b e = cc

  pub left-clear : (known x : ℕ)
      → replied replies.Left ≡ result_of m c (Calls (record { known = known; act = acts.Leave x }))
      → noticed x (inbox m c.0) ≡ false
  left-clear known x was =
      each_heard m c (record { known = known; act = acts.Leave x })
      (λ (z : Reply × MediumState). replies.Left ≡ z.0 → noticed x (inbox m c.0) ≡ false)
      alive (λ e. absurd (cc)) (left-row x) (same-reply _ _ was)

module _ (deck : Deck) (few : length deck.systems ≤ most_systems) (some : 0 < deck.entries) (m : MediumState)
    (c : SysId) (n : NodeState) (alive : has m.removed c.0 ≡ false) (below : c.0 < length deck.systems)
    (around : systems_of m ≡ length deck.systems)
    (sized : (p : StarPart) → n.star ≡ Some p → IsSized deck.entries p)
    (home : (p : StarPart) → n.star ≡ Some p → p.manager.system.0 ≡ c.0) (g : AreFit deck m) where
  low : c.0 < most_systems
  low = omega (arith, below, few)

  -- the caller joins
  fit-joined : (x flags : ℕ) → x < deck.entries
      → AreFit deck (record m { words = submitted_words m.words x c; rest = flags })
  fit-joined x flags there =
      let inside : x < length m.words = omega (arith, there, g.words) in
      let grow : WordsGrow m.words (submitted_words m.words x c) = submit-grows m.words x c inside low g.managed in
      fit-words deck m (submitted_words m.words x c) flags (length-set m.words x _)
      (submit_keeps_all_managed m.words x c inside low g.managed)
      (within-submitted_words (length deck.systems) m.words x c few below inside g.within)
      (below-submitted_words (length deck.systems) m.words x c few below inside g.below)
      (λ s e live in_range.
      box-keeps m.words (submitted_words m.words x c) m.removed m.removed e s ((grow.keeps s).near e) (λ u h. h)
      (λ k near at. named-from m.words (submitted_words m.words x c) e (grow.managed e) k at) (inbox m s))
      g

  asked-within : (p : StarPart) → n.star ≡ Some p → (t : TaskId) (a : Asked) (x : ℕ)
      → any.IsToSend deck n p t a x → x < deck.entries
  asked-within p star t a x asked =
      let count = (sized p star).0 in
      let here : x < length p.manager.entries =
      want-within (length p.manager.entries) a.req.want x (omega (arith, some, count)) asked.entry in
      omega (arith, here, count)

  leave-clear : (p : StarPart) → n.star ≡ Some p → (x : ℕ) → may_leave p n.tasks x ≡ true
      → replied replies.Left ≡ result_of m c (prepare deck n (choices.Leave x)) → noticed x (inbox m c.0) ≡ false
  unfolding prepare star_call
  leave-clear p star x may was =
      left-clear m c alive n.known x
      (was
      ∙ (ap (λ o. result_of m c (star_call deck n o (choices.Leave x))) star
      ∙ ap (λ b. result_of m c (prepared_by n.known (cond b (Asks (acts.Leave x)) Idle))) may))

  may-interest : (p : StarPart) (x : ℕ) → may_leave p n.tasks x ≡ true → has_interest p x ≡ true
  may-interest p x may = (and_parts (has_interest p x) _ may).0

  fit-acts : (p : StarPart) → n.star ≡ Some p → (choice : Choice) (b : Result) (o : Turnout)
      → b ≡ result_of m c (prepare deck n choice) → Acts deck m c n p choice b o → AreFit deck o.medium
  fit-acts p star choice b o was (decided t a x asked to at same) = g
  fit-acts p star choice b o was (began t a x asked none) =
      fit-joined x (awake m c) (asked-within p star t a x asked)
  fit-acts p star choice b o was (sent t a x asked to at apart) =
      fit-mail deck (record m { words = submitted_words m.words x c; rest = m.rest }) to.0
      (mails.Request x c (request_of t a)) (awake m c) (λ e. refl) refl
      (fit-joined x m.rest (asked-within p star t a x asked))
  fit-acts p star choice b o was (took mail rest at) = record {
    mode = g.mode;
    words = g.words;
    managed = g.managed;
    within = g.within;
    below = g.below;
    boxes = length-set m.inboxes c.0 (drop 1 (inbox_of m.inboxes c.0)) ∙ g.boxes;
    named = λ s e live in_range.
        by_system (InBox m.words m.removed e s) s (front m.words m.removed e s (inbox m s))
        (g.named s e live in_range) (s == c.0) refl;
    fits = λ s live. by_system (BoxFits deck) s (fits-front (inbox m s)) (g.fits s live) (s == c.0) refl;
  }
    where
      front : (words : List ℕ) (removed e s : ℕ) (ms : List Mail) → InBox words removed e s ms
          → InBox words removed e s (drop 1 ms)
      front words removed e s [] h = tt
      front words removed e s (y ∷ ms) h = h.1

      inside : c.0 < length m.inboxes
      inside = omega (arith, below, g.boxes)

      fits-front : (ms : List Mail) → BoxFits deck ms → BoxFits deck (drop 1 ms)
      fits-front [] h = refl
      fits-front (y ∷ ms) h = (and_parts (mail_fits deck y) (list_all (mail_fits deck) ms) h).1

      by_system : (P : List Mail → Type 0) (s : ℕ) → (P (inbox m s) → P (drop 1 (inbox m s))) → P (inbox m s)
          → (d : Bool) → (s == c.0) ≡ d → P (inbox_of (without_first m.inboxes c.0) s)
      by_system P s less h true same =
          let here : s ≡ c.0 = eqb-true s c.0 same in
          subst P
          (sym (ap (inbox_of (without_first m.inboxes c.0)) here
          ∙ (taken-box m.inboxes c.0 inside ∙ ap (λ i. drop 1 (inbox_of m.inboxes i)) (sym here))))
          (less h)
      by_system P s less h false other =
          subst P (sym (untaken-box m.inboxes c.0 s (eqb-false s c.0 other))) h
  fit-acts p star choice b o was (settled q first) =
      fit-mail deck m q.task.system.0 (mails.Answered q.task (answer_for p q) (rank_of p q)) (awake m c) (λ e. refl)
      refl g
  fit-acts p star choice b o was (told e x first) =
      fit-mail deck m x.0.system.0 (mails.Granted x.0 x.1) (awake m c) (λ i. refl) refl g
  fit-acts p star choice b o was (parted e to owes unknown) =
      fit-mail deck m to.0
      (mails.Part e p.manager.system
      (part_of (length p.manager.entries) e (names_of deck n.tasks.system) n.tasks))
      (awake m c) (λ i. refl)
      (and_from (nat_lt e deck.entries) _ (lt-ltb e deck.entries there)
      (lt-ltb p.manager.system.0 (length deck.systems)
      (subst (λ i. i < length deck.systems) (sym (home p star)) below)))
      g
    where
      there : e < deck.entries
      there = subst (λ i. e < i) (sized p star).2 (there-within p.owes e to owes)
  fit-acts p star choice b o was (left x flags may is) =
      fit-words deck m (left_words m.words x c) flags (length-set m.words x _)
      (leave_keeps_all_managed m.words x c inside g.managed)
      (within-left_words (length deck.systems) m.words x c inside g.within)
      (below-left_words (length deck.systems) m.words x c few inside g.below)
      (λ s e live in_range h. by_system s e h (s == c.0) refl) g
    where
      there : x < deck.entries
      there =
          let count = (sized p star).1 in
          let here : x < length p.interest = interest-within p x (may-interest p x may) in
          omega (arith, here, count)

      inside : x < length m.words
      inside = omega (arith, there, g.words)

      clear : noticed x (inbox m c.0) ≡ false
      clear = leave-clear p star x may was

      by_entry : (e : ℕ) → InBox m.words m.removed e c.0 (inbox m c.0) → (d : Bool) → (e == x) ≡ d
          → InBox (left_words m.words x c) m.removed e c.0 (inbox m c.0)
      by_entry e h true same =
          unnoticed (left_words m.words x c) m.removed e c.0 (inbox m c.0)
          (ap (λ i. noticed i (inbox m c.0)) (eqb-true e x same) ∙ clear)
      by_entry e h false other =
          box-keeps m.words (left_words m.words x c) m.removed m.removed e c.0
          (λ near. other-entry m.words x c inside g.managed is e c.0 other ∙ near) (λ u k. k)
          (λ k near at. other-manager m.words x c inside g.managed is e other ∙ at) (inbox m c.0) h

      by_system : (s e : ℕ) → InBox m.words m.removed e s (inbox m s) → (d : Bool) → (s == c.0) ≡ d
          → InBox (left_words m.words x c) m.removed e s (inbox m s)
      by_system s e h true same =
          subst (λ i. InBox (left_words m.words x c) m.removed e i (inbox m i)) (sym (eqb-true s c.0 same))
          (by_entry e (subst (λ i. InBox m.words m.removed e i (inbox m i)) (eqb-true s c.0 same) h) (e == x) refl)
      by_system s e h false other =
          box-keeps m.words (left_words m.words x c) m.removed m.removed e s
          (λ near. other-system m.words x c inside g.managed is e s other ∙ near) (λ u k. k)
          (λ k near at. stays-with m.words x c inside g.managed is e s (eqb-false s c.0 other) near ∙ at) (inbox m s) h

  -- a removal
  fit-removed : (target : SysId) → target.0 < length deck.systems → AreFit deck (without_in_star m target)
  fit-removed target small = record {
    mode = g.mode;
    words = length-map m.words (λ w. purged_word w target) ∙ g.words;
    managed = purge_keeps_all_managed m.words target g.managed;
    within = within-purged_words (length deck.systems) m.words target g.within;
    below = below-purged_words (length deck.systems) m.words target g.within g.below;
    boxes = count;
    named = λ s e live in_range. by_place s e live in_range (nat_lt s (length deck.systems)) refl;
    fits = λ s live. fits-place s live (nat_lt s (length deck.systems)) refl;
  }
    where
      count : length (without_in_star m target).inboxes ≡ length deck.systems
      count =
          length-posted target (moved_by m.words (systems_of m) target) (emptied m.inboxes target.0)
          ∙ (length-set m.inboxes target.0 [] ∙ g.boxes)

      not_target : (s : ℕ) → has (with_also m.removed target.0) s ≡ false → s ≢ target.0
      not_target s live same =
          no_truth (has (with_also m.removed target.0) s)
          (ap (has (with_also m.removed target.0)) same ∙ has-with_same m.removed target.0) live

      was_live : (s : ℕ) → has (with_also m.removed target.0) s ≡ false → has m.removed s ≡ false
      was_live s live = sym (has-with_other m.removed target.0 s (not_target s live)) ∙ live

      by_place : (s e : ℕ) → has (with_also m.removed target.0) s ≡ false → e < deck.entries → (d : Bool)
          → nat_lt s (length deck.systems) ≡ d
          → InBox (purged_words m.words target) (with_also m.removed target.0) e s (inbox (without_in_star m target) s)
      by_place s e live in_range true here =
          let low : s < length deck.systems = ltb-true s (length deck.systems) here in
          subst (InBox (purged_words m.words target) (with_also m.removed target.0) e s)
          (sym (inbox-left m target (record { 0 = s }) (omega (arith, low, g.boxes)) (not_target s live)))
          (box-posted m.words m.removed target (record { 0 = s }) e (omega (arith, in_range, g.words))
          (not_target s live) (inbox m s) (told_to m target (record { 0 = s }))
          (moved-at m target (record { 0 = s }) (omega (arith, low, around)))
          (g.named s e (was_live s live) in_range))
      by_place s e live in_range false past =
          subst (InBox (purged_words m.words target) (with_also m.removed target.0) e s)
          (sym (get_or_past (without_in_star m target).inboxes s []
          (omega (arith, ltb-false s (length deck.systems) past, count))))
          tt

      fits-place : (s : ℕ) → has (with_also m.removed target.0) s ≡ false → (d : Bool)
          → nat_lt s (length deck.systems) ≡ d → BoxFits deck (inbox (without_in_star m target) s)
      fits-place s live true here =
          let low : s < length deck.systems = ltb-true s (length deck.systems) here in
          subst (BoxFits deck)
          (sym (inbox-left m target (record { 0 = s }) (omega (arith, low, g.boxes)) (not_target s live)))
          (posted-fit deck m.words target g.words
          (within-purged_words (length deck.systems) m.words target g.within)
          (below-purged_words (length deck.systems) m.words target g.within g.below) (record { 0 = s }) small
          (inbox m s) (told_to m target (record { 0 = s }))
          (moved-at m target (record { 0 = s }) (omega (arith, low, around)))
          (g.fits s (was_live s live)))
      fits-place s live false past =
          subst (BoxFits deck)
          (sym (get_or_past (without_in_star m target).inboxes s []
          (omega (arith, ltb-false s (length deck.systems) past, count))))
          refl

  fit-came : (choice : Choice) (b : Result) (o : Turnout) → b ≡ result_of m c (prepare deck n choice)
      → Came deck m c n choice b o → AreFit deck o.medium
  fit-came choice b o was (any.nothing k r silent flags) =
      same-words deck m (record m { rest = flags }) refl refl refl refl g
  fit-came choice b o was (informed k) = g
  fit-came choice b o was (went_on t may) = g
  fit-came choice b o was (turn flags alone unclosed here) = same-words deck m _ refl refl refl refl g
  fit-came choice b o was (last_turn flags alone shut here) = same-words deck m _ refl refl refl refl g
  fit-came choice b o was (changed ring next seen) = no_truth m.star g.mode ring
  fit-came choice b o was (already mode next) = g
  fit-came choice b o was (removes_one target ring next lives) = no_truth m.star g.mode ring
  fit-came choice b o was (removes_star target mode next lives) =
      fit-removed target
      (subst (λ i. target.0 < i) around
      (ltb-true target.0 (systems_of m)
      (and_parts (nat_lt target.0 (systems_of m)) (not (has m.removed target.0)) lives).0))
  fit-came choice b o was (no_such target next gone) = g
  fit-came choice b o was (acted p is k r x acts) = fit-acts p is k r x was acts

-- ---- every run
first-fit : (deck : Deck) → deck.star ≡ true → AreFit deck (first_world deck).medium
unfolding first_world
first-fit deck star = record {
  mode = star;
  words = length-replicate deck.entries 0;
  managed = words_begin deck.entries;
  within = within-replicate (length deck.systems) deck.entries;
  below = below-replicate (length deck.systems) deck.entries;
  boxes = length-replicate (length deck.systems) [];
  named = λ s e live below. subst (InBox (replicate deck.entries 0) 0 e s) (sym (no_mail (length deck.systems) s)) tt;
  fits = λ s live. subst (BoxFits deck) (sym (no_mail (length deck.systems) s)) refl;
}

fit-placed : (deck : Deck) (w : World) (c : SysId) (n : NodeState) (o : Turnout) → AreFit deck o.medium
    → AreFit deck (placed w c n o).medium
unfolding placed
fit-placed deck w c n o h = h

pub fit_run : (deck : Deck) → deck.star ≡ true → length deck.systems ≤ most_systems → 0 < deck.entries
    → (es : List Event) → AreFit deck (run deck es).medium
fit_run deck star few some =
    each_run deck (λ es (w : World). AreFit deck w.medium) (first-fit deck star)
    (λ es e h.
    each_live deck (run deck es) e (λ (w : World). AreFit deck w.medium) h
    (λ n at alive.
    fit-placed deck (run deck es) e.system n _
    (fit-came deck few some (run deck es).medium e.system n alive
    (subst (λ k. e.system.0 < k) (as_many deck es) (site-below (run deck es) e.system.0 n (at_site at alive)))
    (goes_on deck es).around (λ p is. sized_run deck es e.system.0 n at p is)
    (home-of deck.entries e.system.0 n (part_run deck star es e.system.0 n at)) h e.choice
    (result_of (run deck es).medium e.system (prepare deck n e.choice)) _ refl
    (came deck (run deck es).medium e.system n alive e.choice))))

pub notices_name : (deck : Deck) → deck.star ≡ true → FitsStar deck → (es : List Event) → NoticesName deck es
notices_name deck star fits es s e live below =
    (fit_run deck star fits.few (entries_some deck.entries fits.entries) es).named s.0 e
    (not-true _
    (and_parts (nat_lt s.0 (length (run deck es).nodes)) (not (has (run deck es).medium.removed s.0)) live).1)
    below
