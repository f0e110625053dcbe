-- A system is removed: the entries that it managed are on their way to the next manager, and of the others nothing
-- changes but that it is gone.
use Rattle.grs_world.proofs.Common.{[], ◌&&◌, ◌++◌, ◌<◌, ◌==◌, ◌||◌, ◌∙◌, ◌∷◌, ◌≡◌, ◌≢◌, ap, append-nil, arith, Bool}
use Rattle.grs_world.proofs.Common.{cond, Deck, desk_told, eq-eqb, eqb-true, false, false_by, filter, has}
use Rattle.grs_world.proofs.Common.{has-with_other, has-with_same, has-zero, inbox, inl, interest, is_interested}
use Rattle.grs_world.proofs.Common.{is_manager, is_some, length, length-set, List, list_any, lose_all, losing}
use Rattle.grs_world.proofs.Common.{losing_in, ltb-true, Mail, manager, manager_at, Moved, names_of, nat_lt, no_truth}
use Rattle.grs_world.proofs.Common.{NodeState, None, Option, or_left, or_parts, or_right, purged, refl, same_Some}
use Rattle.grs_world.proofs.Common.{slice_get, slice_get_within, Some, standing, StarPart, subst, sym, SysId}
use Rattle.grs_world.proofs.Common.{systems_of, telling, true, Turnout, VaryDone, with_also, without_in_star, word_at}
use Rattle.grs_world.proofs.Common.{World, ℕ}
use Rattle.grs_medium.proofs.Removals.{inbox-left, moved-at, told-where, told_to}
use Rattle.std.proofs.lemmas.Bool.{ltb-false}
use Rattle.std.proofs.lemmas.List.{get_or_past}
use Rattle.grs_medium.proofs.SpaceLaws.{length-posted}
use Rattle.grs_medium.specs.Apply.{moved_by}
use Rattle.grs_medium.specs.Inboxes.{emptied, notices_to}
use Rattle.grs_wire.specs.LockWords.{epoch}
use Rattle.grs_wire.specs.Notices.{names}
use Rattle.lock_structure.proofs.Purges.{moved_for_interested, purge_keeps_managed}
use Rattle.lock_structure.specs.Laws.{ManagedBy}
use Rattle.lock_structure.specs.Purge.{made_known, moved_at, moved_for, purged_word, purged_words}
use Rattle.grs_world.proofs.gather.InBoxes.{manager-others, near-others, now}
use Rattle.grs_world.proofs.gather.way.Acting.{Acting}
use Rattle.grs_world.proofs.gather.way.Boxes.{early, early-more, early-none, last-more, last-new, names-some}
use Rattle.grs_world.proofs.gather.way.Boxes.{parts-more}
use Rattle.grs_world.proofs.gather.way.Entry.{IsEntry, RoleStays, as_before, at, is_there, there-is}
use Rattle.grs_world.proofs.gather.way.Removed.{Moves, entry-moved}
use Rattle.grs_world.proofs.gather.way.Scene.{BoxStays, box-grows, box-same, each-then, entry_in, live-entry}
use Rattle.grs_world.proofs.gather.way.Scene.{role-boxes}
use Rattle.grs_world.proofs.gather.way.Scene.{stance-is, stands, stays-then}
use Rattle.grs_world.proofs.gather.way.Steps.{AllOff, Keeps, all-lost, alike-same, keeps-same}
use Rattle.grs_world.proofs.run.Placed.{world_then}
use Rattle.grs_world.proofs.run.Site.{Site}
use Rattle.grs_world.proofs.star.Members.{managed-is}
use Rattle.grs_world.specs.Noticed.{items_in}
use Rattle.grs_world.specs.OnTheWay.{Stance, last_item, parts_from, stance_at, stance_of}
use Rattle.grs_wire.specs.declared.deck.Choice.TheVariants as choices
use Rattle.grs_wire.specs.declared.medium.Mail.TheVariants as mails

filter-none : (p : Moved → Bool) (xs : List Moved) → list_any p xs ≡ false → filter p xs ≡ []
filter-none p [] h = refl
filter-none p (x ∷ xs) h =
    let both = or_parts (p x) (list_any p xs) h in
    ap (λ b. cond b (x ∷ filter p xs) (filter p xs)) both.0 ∙ filter-none p xs both.1

module _ (deck : Deck) (w : World) (c : SysId) (n : NodeState) (p : StarPart) (a : Acting deck w c n p)
    (around : systems_of w.medium ≡ length deck.systems) (target : SysId) (e : ℕ) (inside : e < deck.entries)
    (J : IsEntry (entry_in w e)) where
  abbrev pub removing : Turnout
  removing = record { medium = without_in_star w.medium target; step = purged deck n (choices.Purge target) }

  abbrev W : World
  W = world_then w c n (record {
    medium = without_in_star w.medium target;
    step = purged deck n (choices.Purge target);
  })

  abbrev alive : ℕ → Bool
  alive = is_there (entry_in W e)

  abbrev q : StarPart
  q = (lose_all (names_of deck n.tasks.system) (standing (desk_told n VaryDone).tasks p) (target ∷ [])).part

  own-star : (purged deck n (choices.Purge target)).node.star
      ≡ Some (lose_all (names_of deck n.tasks.system) (standing (desk_told n VaryDone).tasks p) (target ∷ [])).part
  unfolding purged losing desk_told telling
  own-star =
      ap (λ (o : Option StarPart). (losing_in deck
      (record (desk_told n VaryDone) { known = with_also n.known target.0 }) o
      (target ∷ [])).star) a.star

  removed : (u : ℕ) → has (with_also w.medium.removed target.0) u ≡ ((target.0 == u) || has w.medium.removed u)
  removed u = go (target.0 == u) refl
    where
      go : (b : Bool) → (target.0 == u) ≡ b
          → has (with_also w.medium.removed target.0) u ≡ (b || has w.medium.removed u)
      go true is =
          ap (has (with_also w.medium.removed target.0)) (sym (eqb-true target.0 u is))
          ∙ has-with_same w.medium.removed target.0
      go false is =
          has-with_other w.medium.removed target.0 u
          (λ same. no_truth (target.0 == u) (eq-eqb target.0 u (sym same)) is)

  gone-then : (u : ℕ) → has w.medium.removed u ≡ true → has (with_also w.medium.removed target.0) u ≡ true
  gone-then u h = removed u ∙ or_right (target.0 == u) (has w.medium.removed u) h

  apart : (u : ℕ) → has (with_also w.medium.removed target.0) u ≡ false → u ≢ target.0
  apart u live same =
      no_truth (has (with_also w.medium.removed target.0) u)
      (removed u ∙ or_left (target.0 == u) (has w.medium.removed u) (eq-eqb target.0 u (sym same))) live

  there : e < length w.medium.words
  there = let words = a.fit.words in omega (arith, inside, words)

  -- its caller loses it
  keeps : Keeps alive c.0 e (length p.manager.entries) p
      (lose_all (names_of deck n.tasks.system) (standing (desk_told n VaryDone).tasks p) (target ∷ [])).part
  keeps =
      all-lost alive c.0 e (length p.manager.entries) p (names_of deck n.tasks.system)
      (standing (desk_told n VaryDone).tasks p) (target ∷ []) (off, tt) (keeps-same alive c.0 e p)
    where
      off : (u : ℕ) → alive u ≡ true → (target.0 == u) ≡ false
      off u h =
          let T = there-is (entry_in W e) u h in
          false_by (target.0 == u) (λ same.
          absurd (apart u (live-entry W e u T.0 T.1) (sym (eqb-true target.0 u same))))

  -- ---- what the inboxes have then
  abbrev mvs : ℕ → List Moved
  mvs s = told_to w.medium target (record { 0 = s })

  box-then : (s : ℕ) (k : NodeState) → Site w s k → s ≢ target.0
      → inbox (without_in_star w.medium target) s ≡ inbox w.medium s ++ notices_to target (mvs s)
  box-then s k u ne =
      let within = slice_get_within w.nodes s k u.at in
      let count = a.count in
      let boxes = a.fit.boxes in
      inbox-left w.medium target (record { 0 = s }) (omega (arith, within, count, boxes)) ne

  moved-is : (s : ℕ) (k : NodeState) → Site w s k → mvs s ≡ moved_for w.medium.words target (record { 0 = s })
  moved-is s k u =
      let within = slice_get_within w.nodes s k u.at in
      let count = a.count in
      moved-at w.medium target (record { 0 = s }) (omega (arith, within, count, around))

  -- a notice that doesn't name the entry leaves it
  box-quiet : (s : ℕ) (ms : List Mail) (xs : List Moved) → list_any (λ m. m.entry == e) xs ≡ false
      → BoxStays alive s e ms (ms ++ notices_to target xs)
  box-quiet s ms [] away = subst (BoxStays alive s e ms) (sym (append-nil ms)) (box-same alive s e ms)
  box-quiet s ms (x ∷ xs) away = box-grows alive s e ms (mails.Notice target (x ∷ xs)) away (λ u. refl)

  count-then : length (without_in_star w.medium target).inboxes ≡ length deck.systems
  count-then =
      length-posted target (moved_by w.medium.words (systems_of w.medium) target) (emptied w.medium.inboxes target.0)
      ∙ (length-set w.medium.inboxes target.0 [] ∙ a.fit.boxes)

  -- ---- another system manages the entry
  other-purged : is_manager (manager_at w.medium.words e) target ≡ false → IsEntry (entry_in W e)
  other-purged other =
      stays-then w e c n a.site removing gone-then p a.star J (manager-others w.medium.words target e there other)
      (λ s S live is h. inl (near-others w.medium.words target e there s (apart s live) ∙ h)) boxes q own-star
      keeps.owes
      keeps.role
    where
      boxes : (s : ℕ) → has (with_also w.medium.removed target.0) s ≡ false
          → BoxStays alive s e (inbox w.medium s) (inbox (without_in_star w.medium target) s)
      boxes s live = go (nat_lt s (length deck.systems)) refl
        where
          go : (b : Bool) → nat_lt s (length deck.systems) ≡ b
              → BoxStays alive s e (inbox w.medium s) (inbox (without_in_star w.medium target) s)
          go true low =
              let less : s < length deck.systems = ltb-true s (length deck.systems) low in
              let boxes = a.fit.boxes in
              subst (BoxStays alive s e (inbox w.medium s))
              (sym (inbox-left w.medium target (record { 0 = s }) (omega (arith, less, boxes)) (apart s live)))
              (box-quiet s (inbox w.medium s) (mvs s)
              (ap (list_any (λ (m : Moved). m.entry == e)) (moved-at w.medium target (record { 0 = s })
              (omega (arith, less, around)))
              ∙ (told-where w.medium.words target (record { 0 = s }) e there (apart s live)
              ∙ ap (λ b. b && has (interest (word_at w.medium.words e)) s) other)))
          go false high =
              let more = ltb-false s (length deck.systems) high in
              let boxes = a.fit.boxes in
              subst (λ (ms : List Mail). BoxStays alive s e ms (inbox (without_in_star w.medium target) s))
              (sym (get_or_past w.medium.inboxes s [] (omega (arith, more, boxes))))
              (subst (BoxStays alive s e [])
              (sym (get_or_past (without_in_star w.medium target).inboxes s []
              (let count = count-then in omega (arith, more, count))))
              (box-same alive s e []))

  -- ---- the removed one does
  module _ (mine : is_manager (manager_at w.medium.words e) target ≡ true) where
    abbrev word : ℕ
    word = purged_word (word_at w.medium.words e) target

    managed : manager_at w.medium.words e ≡ Some (at target.0)
    managed = managed-is w.medium.words e target.0 (manager_at w.medium.words e) refl mine

    -- the item by which it gets to be known
    abbrev item_by : Option SysId → Moved
    item_by None = record { entry = e; manager = target; mask = 0; epoch = 0 }
    item_by (Some k) = record { entry = e; manager = k; mask = interest word; epoch = epoch word }

    abbrev item : ℕ → Moved
    item s = item_by (manager word)

    manager-then : manager_at (purged_words w.medium.words target) e ≡ manager word
    manager-then = ap manager (now w.medium.words target e there)

    near-then : (s : ℕ) → is_interested (purged_words w.medium.words target) e s ≡ has (interest word) s
    near-then s = ap (λ (x : ℕ). has (interest x) s) (now w.medium.words target e there)

    by-word : ManagedBy (manager word) (interest word)
    by-word = purge_keeps_managed (word_at w.medium.words e) target (a.fit.managed e 0 there)

    -- there is a next one where somebody else has interest
    next : (s : ℕ) → s ≢ target.0 → is_interested w.medium.words e s ≡ true → (k : SysId) × (manager word ≡ Some k)
    next s ne near = go (manager word) refl by-word
      where
        go : (o : Option SysId) → manager word ≡ o → ManagedBy o (interest word) → (k : SysId) × (manager word ≡ Some k)
        go (Some k) is h = (k, is)
        go None is h =
            no_truth (has (interest word) s)
            (sym (near-then s) ∙ (near-others w.medium.words target e there s ne ∙ near))
            (ap (λ x. has x s) h ∙ has-zero s)

    named-then : (k : SysId) → manager word ≡ Some k → has (interest word) k.0 ≡ true
    named-then k is = subst (λ o. ManagedBy o (interest word)) is by-word

    -- its items for s
    items-then : (s : ℕ) (k : NodeState) → Site w s k → s ≢ target.0
        → filter (λ m. m.entry == e) (mvs s)
        ≡ cond (is_interested w.medium.words e s) (moved_at e (word_at w.medium.words e) target) []
    items-then s k u ne =
        ap (filter (λ (m : Moved). m.entry == e)) (moved-is s k u)
        ∙ (moved_for_interested w.medium.words target (record { 0 = s }) e there
        ∙ ap (λ b. cond b (moved_at e (word_at w.medium.words e) target) [])
        (near-others w.medium.words target e there s ne))

    known-then : (k : SysId) → manager word ≡ Some k
        → moved_at e (word_at w.medium.words e) target ≡ item_by (Some k) ∷ []
    known-then k is =
        ap (λ b. cond b (made_known e (manager word) word) []) mine ∙ ap (λ o. made_known e o word) is

    last-then : (s : ℕ) (k : NodeState) → Site w s k → s ≢ target.0
        → last_item e (inbox (without_in_star w.medium target) s)
        ≡ cond (is_interested w.medium.words e s) (Some (item s)) (last_item e (inbox w.medium s))
    last-then s k u ne =
        ap (last_item e) (box-then s k u ne) ∙ go (is_interested w.medium.words e s) refl
      where
        loud : (xs : List Moved) (m : Moved) → filter (λ z. z.entry == e) xs ≡ m ∷ []
            → last_item e (inbox w.medium s ++ notices_to target xs) ≡ Some m
        loud [] m is = absurd (cc)
        loud (x ∷ xs) m is =
            last-new e (inbox w.medium s) (mails.Notice target (x ∷ xs)) m
            (ap (λ (zs : List Moved). slice_get zs 0) is)

        silent : (xs : List Moved) → filter (λ z. z.entry == e) xs ≡ []
            → last_item e (inbox w.medium s ++ notices_to target xs) ≡ last_item e (inbox w.medium s)
        silent [] is = ap (last_item e) (append-nil (inbox w.medium s))
        silent (x ∷ xs) is =
            last-more e (inbox w.medium s) (mails.Notice target (x ∷ xs))
            (names-some e (mails.Notice target (x ∷ xs)) ∙ ap (λ (zs : List Moved). is_some (slice_get zs 0)) is)

        go : (b : Bool) → is_interested w.medium.words e s ≡ b
            → last_item e (inbox w.medium s ++ notices_to target (mvs s))
            ≡ cond b (Some (item s)) (last_item e (inbox w.medium s))
        go true near =
            let k' = next s ne near in
            loud (mvs s) (item_by (Some k'.0))
            (items-then s k u ne
            ∙ (ap (λ b. cond b (moved_at e (word_at w.medium.words e) target) []) near ∙ known-then k'.0 k'.1))
            ∙ ap (λ o. Some (item_by o)) (sym k'.1)
        go false far =
            silent (mvs s)
            (items-then s k u ne ∙ ap (λ b. cond b (moved_at e (word_at w.medium.words e) target) []) far)

    parts-then : (s : ℕ) (k : NodeState) → Site w s k → s ≢ target.0 → (u : ℕ)
        → parts_from e (inbox (without_in_star w.medium target) s) u ≡ parts_from e (inbox w.medium s) u
    parts-then s k site ne u = ap (λ ms. parts_from e ms u) (box-then s k site ne) ∙ go (mvs s)
      where
        go : (xs : List Moved)
            → parts_from e (inbox w.medium s ++ notices_to target xs) u ≡ parts_from e (inbox w.medium s) u
        go [] = ap (λ ms. parts_from e ms u) (append-nil (inbox w.medium s))
        go (x ∷ xs) =
            parts-more e (inbox w.medium s) (mails.Notice target (x ∷ xs)) u
            ∙ append-nil (parts_from e (inbox w.medium s) u)

    abbrev WasSo : ℕ → Stance → Type 0
    WasSo s T = (S : Stance) × (stance_at w e s ≡ Some S) × Moves (entry_in w e) alive item s S T

    own-was : (k : StarPart) → (purged deck n (choices.Purge target)).node.star ≡ Some k
        → has (with_also w.medium.removed target.0) c.0 ≡ false
        → WasSo c.0 (stance_of e k (inbox (without_in_star w.medium target) c.0))
    own-was k star live =
        subst (λ (z : StarPart). WasSo c.0 (stance_of e z (inbox (without_in_star w.medium target) c.0)))
        (same_Some q k (sym own-star ∙ star)) (
          stance_of e p (inbox w.medium c.0),
          stance-is w e c.0 n p a.site a.star,
          record {
            role =
                role-boxes alive c.0 e p q (inbox w.medium c.0) (inbox (without_in_star w.medium target) c.0)
                keeps.role;
            owes = keeps.owes;
            notice = last-then c.0 n a.site (apart c.0 live);
            coming = λ u far h. parts-then c.0 n a.site (apart c.0 live) u;
          },
        )

    other-was : (s : ℕ) (k : NodeState) (r : StarPart) → s ≢ c.0 → Site w s k → k.star ≡ Some r
        → has (with_also w.medium.removed target.0) s ≡ false
        → WasSo s (stance_of e r (inbox (without_in_star w.medium target) s))
    other-was s k r ne u star live = (
      stance_of e r (inbox w.medium s),
      stance-is w e s k r u star,
      record {
        role = as_before refl (alike-same alive s (stance_of e r (inbox w.medium s)).gathering);
        owes = refl;
        notice = last-then s k u (apart s live);
        coming = λ v far h. parts-then s k u (apart s live) v;
      },
    )

    live-of : (s : ℕ) (T : Stance) → stance_at W e s ≡ Some T → s ≢ target.0
    live-of s T is = apart s (live-entry W e s T is)

    was : (s : ℕ) (T : Stance) → stance_at W e s ≡ Some T → WasSo s T
    was = each-then w e c n a.site removing gone-then WasSo own-was other-was

    this-purged : IsEntry (entry_in W e)
    this-purged =
        entry-moved (entry_in w e) (entry_in W e) J target.0 managed item removed (live-entry W e)
        (λ s T is. near-others w.medium.words target e there s (live-of s T is)) was
        (λ s T is near.
        let k = next s (live-of s T is) near in
        manager-then ∙ (k.1 ∙ ap (λ o. Some (item_by o).manager) (sym k.1)))
        (λ s T is near u h.
        let k = next s (live-of s T is) near in
        ap (λ o. has (item_by o).mask u) k.1 ∙ sym (near-then u))
        (λ k is. near-then k.0 ∙ named-then k (sym manager-then ∙ is))
        (λ s u S T is is_S none.
        early-none e u (inbox (without_in_star w.medium target) s) (still s u S T is is_S none))
      where
        still : (s u : ℕ) (S T : Stance) → stance_at W e s ≡ Some T → stance_at w e s ≡ Some S → S.coming u ≡ []
            → parts_from e (inbox (without_in_star w.medium target) s) u ≡ []
        still s u S T is is_S none =
            let z = stands w e s S is_S in
            parts-then s z.node z.site (live-of s T is) u
            ∙ (ap (λ (x : Stance). x.coming u) z.is ∙ none)

  pub purged-then : IsEntry (entry_in (world_then w c n (record {
    medium = without_in_star w.medium target;
    step = purged deck n (choices.Purge target);
  })) e)
  purged-then = go (is_manager (manager_at w.medium.words e) target) refl
    where
      go : (b : Bool) → is_manager (manager_at w.medium.words e) target ≡ b → IsEntry (entry_in W e)
      go true mine = this-purged mine
      go false other = other-purged other
