-- The first removal of a system in star mode, once all have changed: what is kept behind it is the list without its
-- elements, whether it managed the entry of the resource or not.
use Rattle.contention_mgr.specs.Loses.{after_losing}
use Rattle.grs_world.proofs.Common.{[], ◌&&◌, ◌++◌, ◌+◌, ◌<◌, ◌==◌, ◌||◌, ◌∙◌, ◌∷◌, ◌≡◌, ◌≢◌, ◌⊎◌}
use Rattle.grs_world.proofs.Common.{and_from, and_parts, ap, Bool, cond, Deck, Elem, entry_of_res, eq-eqb, eqb-false}
use Rattle.grs_world.proofs.Common.{eqb-true, false, false_by, first_node, get_or, has, has_task, inbox, inl, inr}
use Rattle.grs_world.proofs.Common.{interest, is_home_at, is_interested, is_manager, is_systems, IsManaged, items}
use Rattle.grs_world.proofs.Common.{items_of, kept, kept_at, kept_for, length, length-map, List, list_any-append}
use Rattle.grs_world.proofs.Common.{list_of, lists, Managed, managed_of, manager, manager_at, ManagerView, map, Moved}
use Rattle.grs_world.proofs.Common.{no_truth, NodeState, None, not, not-true, noticed, Option, or-false, or_left}
use Rattle.grs_world.proofs.Common.{or_parts, or_right, plain, refl, Res, same_task, same_task-itself, slice_get}
use Rattle.grs_world.proofs.Common.{slice_get-get_or, Some, subst, suc, sym, SysId, TaskId, true, without_gone, word_at}
use Rattle.grs_world.proofs.Common.{World, zero, ℕ}
use Rattle.std.specs.Option.{option_map}
use Rattle.std.proofs.lemmas.List.{get_or-map}
use Rattle.contention_mgr.proofs.LoseLawProofs.{lost_lists}
use Rattle.contention_mgr.specs.Loses.{lost}
use Rattle.grs_medium.specs.Inboxes.{notices_to}
use Rattle.grs_wire.proofs.MaskLaws.{has-zero}
use Rattle.grs_wire.proofs.RemoveLaws.{list_of-remove}
use Rattle.lock_structure.proofs.Purges.{purge_keeps_managed, purge_keeps_others, purge_takes_target}
use Rattle.lock_structure.specs.Laws.{ManagedBy}
use Rattle.lock_structure.specs.Purge.{purged_word, purged_words}
use Rattle.grs_wire.specs.Notices.{names as names_entry}
use Rattle.grs_world.proofs.run.Site.{Site}
use Rattle.grs_world.proofs.shown.Behind.{IsAfter, left, left-has, shown-rest}
use Rattle.grs_world.proofs.shown.Lists.{element-live, entry, interested, listed, same-under}
use Rattle.grs_world.proofs.star.Heard.{IsHeard, sent_by}
use Rattle.grs_world.proofs.star.Members.{IsMember, all_lists, manager-here}
use Rattle.grs_world.proofs.star.Roles.{res-within}
use Rattle.grs_world.proofs.star.Worlds.{IsWhole, are_live, live-below}
use Rattle.grs_world.proofs.star.ranks.Ranked.{AreShown}
use Rattle.grs_world.specs.Kept.{at_manager, at_node, has_to_gather, kept_in, managed_list, named_by, shown_list}

-- ---- a list without the elements of a system
-- what of it isn't of a removed one
gone-left : (removed gone also : ℕ) → ((s : ℕ) → has also s ≡ ((gone == s) || has removed s)) → (xs : List Elem)
    → ((t : TaskId) → has_task xs t ≡ true → has removed t.system.0 ≡ false) → without_gone also xs ≡ left gone xs
gone-left removed gone also is [] alive = refl
gone-left removed gone also is (x ∷ xs) alive =
    let here : has removed x.task.system.0 ≡ false =
    alive x.task (or_left (same_task x.task x.task) (has_task xs x.task) (same_task-itself x.task)) in
    let same : has also x.task.system.0 ≡ (gone == x.task.system.0) =
    is x.task.system.0 ∙ (ap (λ b. (gone == x.task.system.0) || b) here ∙ or-false (gone == x.task.system.0)) in
    ap (λ b. cond (not b) (x ∷ without_gone also xs) (without_gone also xs)) same
    ∙ ap (λ (ys : List Elem). cond (not (gone == x.task.system.0)) (x ∷ ys) ys)
    (gone-left removed gone also is xs (λ t stands. alive t (or_right (same_task t x.task) (has_task xs t) stands)))

left-left : (gone : ℕ) (xs : List Elem) → left gone (left gone xs) ≡ left gone xs
left-left gone [] = refl
left-left gone (x ∷ xs) = go (gone == x.task.system.0) refl (left-left gone xs)
  where
    go : (b : Bool) → (gone == x.task.system.0) ≡ b → left gone (left gone xs) ≡ left gone xs
        → left gone (cond (not b) (x ∷ left gone xs) (left gone xs)) ≡ cond (not b) (x ∷ left gone xs) (left gone xs)
    go true e more = more
    go false e more =
        ap (λ b. cond (not b) (x ∷ left gone (left gone xs)) (left gone (left gone xs))) e
        ∙ ap (λ (ys : List Elem). x ∷ ys) more

none-listed : (xs : List Elem) → ((t : TaskId) → has_task xs t ≡ true → ⊥) → xs ≡ []
none-listed [] h = refl
none-listed (x ∷ xs) h =
    absurd (h x.task (or_left (same_task x.task x.task) (has_task xs x.task) (same_task-itself x.task)))

-- ---- a manager that loses a system
kept-map : (f : Option Managed → Option Managed) → f None ≡ None → (os : List (Option Managed)) (e : ℕ)
    → kept_at (map f os) e ≡ f (kept_at os e)
kept-map f none [] e = sym none
kept-map f none (o ∷ os) zero = refl
kept-map f none (o ∷ os) (suc e) = kept-map f none os e

pub lost-list : (v : ManagerView) (target : SysId) (r : Res) → is_systems r ≡ true
    → list_of (plain (items_of (managed_of (after_losing v target) r))) r
    ≡ left target.0 (list_of (plain (items_of (managed_of v r))) r)
lost-list v target r wide =
    ap (λ k. list_of (plain (items_of (kept_for (map f v.entries) (entry_of_res k r)))) r) (length-map v.entries f)
    ∙ by-entry (entry_of_res (length v.entries) r)
  where
    f : Option Managed → Option Managed
    f = option_map (lost v.system.0 target.0)

    by-kept : (o : Option Managed)
        → list_of (plain (items_of (option_map (lost v.system.0 target.0) o))) r
        ≡ left target.0 (list_of (plain (items_of o)) r)
    by-kept None = refl
    by-kept (Some m) =
        ap (λ s. list_of s r) (lost_lists v.system.0 target.0 m) ∙ list_of-remove (plain m.items) target.0 r wide

    by-entry : (o : Option ℕ)
        → list_of (plain (items_of (kept_for (map (option_map (lost v.system.0 target.0)) v.entries) o))) r
        ≡ left target.0 (list_of (plain (items_of (kept_for v.entries o))) r)
    by-entry None = refl
    by-entry (Some e) =
        ap (λ o. list_of (plain (items_of o)) r) (kept-map (option_map (lost v.system.0 target.0)) refl v.entries e)
        ∙ by-kept (kept_at v.entries e)

-- ---- the words
module _ (words : List ℕ) (target : SysId) (e : ℕ) (there : e < length words) where
  word-behind : word_at (purged_words words target) e ≡ purged_word (word_at words e) target
  word-behind = get_or-map (λ (x : ℕ). purged_word x target) words e 0 0 there

  -- who has interest then had it, and is another system
  interest-behind : (s : ℕ) → is_interested (purged_words words target) e s
      ≡ (is_interested words e s && not (s == target.0))
  interest-behind s =
      ap (λ x. has (interest x) s) word-behind ∙ purge_takes_target (word_at words e) target s

  managed-behind : IsManaged (word_at words e) → IsManaged (word_at (purged_words words target) e)
  managed-behind h = subst IsManaged (sym word-behind) (purge_keeps_managed (word_at words e) target h)

  -- where there is no manager then nobody has interest
  nobody-behind : IsManaged (word_at words e) → manager_at (purged_words words target) e ≡ None → (s : ℕ)
      → is_interested (purged_words words target) e s ≡ false
  nobody-behind h none s =
      let empty : interest (word_at (purged_words words target) e) ≡ 0 =
      subst (λ o. ManagedBy o (interest (word_at (purged_words words target) e))) none (managed-behind h) in
      ap (λ x. has x s) empty ∙ has-zero s

  -- and a manager has
  manager-interested : IsManaged (word_at words e) → (k : SysId)
      → manager_at (purged_words words target) e ≡ Some k
      → is_interested (purged_words words target) e k.0 ≡ true
  manager-interested h k is =
      subst (λ o. ManagedBy o (interest (word_at (purged_words words target) e))) is (managed-behind h)

  -- which was the manager where the removed one wasn't
  manager-stays : is_manager (manager_at words e) target ≡ false
      → manager_at (purged_words words target) e ≡ manager_at words e
  manager-stays other = ap manager word-behind ∙ (purge_keeps_others (word_at words e) target other).0

-- ---- what is kept
module _ (deck : Deck) (w : World) (g : IsWhole deck w) (sent : ℕ → TaskId → Bool) (had : ℕ → TaskId → Res → Bool)
    (h : IsHeard deck w sent had) (ranked : AreShown deck w)
    (is : (s : ℕ) (n : NodeState) (t : TaskId) → Site w s n → is_home_at deck s t ≡ true → sent_by n t ≡ true
    → sent s t ≡ true)
    (r : Res) (wide : is_systems r ≡ true) (target : SysId) (moved : ℕ → List Moved) (W : World)
    (removed : (s : ℕ) → has W.medium.removed s ≡ ((target.0 == s) || has w.medium.removed s))
    (boxes : (s : ℕ) → s < length w.nodes → has W.medium.removed s ≡ false
    → inbox W.medium s ≡ inbox w.medium s ++ notices_to target (moved s))
    (after : (s : ℕ) (k : NodeState) → slice_get W.nodes s ≡ Some k → has W.medium.removed s ≡ false
    → IsAfter w target s k)
    (count : length W.nodes ≡ length w.nodes) (some : 0 < deck.entries) (mode : W.medium.star ≡ true)
    (words : W.medium.words ≡ purged_words w.medium.words target)
    (notes : (e s : ℕ) → e < length w.medium.words → s < length w.nodes → s ≢ target.0
    → noticed e (notices_to target (moved s))
    ≡ (is_manager (manager (word_at w.medium.words e)) target && has (interest (word_at w.medium.words e)) s))
  where
    abbrev those : List Elem
    those = listed deck w g sent had h ranked is r wide

    abbrev e : ℕ
    e = (entry deck w g sent had h ranked is r wide).0

    of_entry : entry_of_res deck.entries r ≡ Some e
    of_entry = (entry deck w g sent had h ranked is r wide).1

    there : e < length w.medium.words
    there =
        subst (λ k. e < k) (sym g.roles.words)
        (res-within deck.entries r (entry deck w g sent had h ranked is r wide).0 some of_entry)

    entry-then : entry_of_res (length W.medium.words) r ≡ Some e
    entry-then =
        ap (λ (ws : List ℕ). entry_of_res (length ws) r) words
        ∙ (ap (λ k. entry_of_res k r) (length-map w.medium.words (λ x. purged_word x target) ∙ g.roles.words) ∙ of_entry)

    managed : IsManaged (word_at w.medium.words e)
    managed = g.roles.managed e 0 there

    live-those : (t : TaskId) → has_task those t ≡ true → has w.medium.removed t.system.0 ≡ false
    live-those t stands =
        (live-below w t.system.0 (element-live deck w g sent had h ranked is r wide t stands)).1

    gone-those : without_gone W.medium.removed those ≡ left target.0 those
    gone-those = gone-left w.medium.removed target.0 W.medium.removed removed those live-those

    gone-rest : without_gone W.medium.removed (left target.0 those) ≡ left target.0 those
    gone-rest =
        gone-left w.medium.removed target.0 W.medium.removed removed (left target.0 those)
        (λ t stands. live-those t (left-has target.0 those t stands).0)
        ∙ left-left target.0 those

    -- ---- a live manager
    module _ (k : SysId) (named : manager_at (purged_words w.medium.words target) e ≡ Some k) where
      interested_both : (is_interested w.medium.words e k.0 ≡ true) × (not (k.0 == target.0) ≡ true)
      interested_both =
          and_parts (is_interested w.medium.words e k.0) (not (k.0 == target.0))
          (sym (interest-behind w.medium.words target e there k.0)
          ∙ manager-interested w.medium.words target e there managed k named)

      apart : (target.0 == k.0) ≡ false
      apart =
          false_by (target.0 == k.0) (λ same.
          no_truth (k.0 == target.0) (eq-eqb k.0 target.0 (sym (eqb-true target.0 k.0 same)))
          (not-true (k.0 == target.0) interested_both.1))

      live-before : are_live w k.0 ≡ true
      live-before = go (are_live w k.0) refl
        where
          go : (b : Bool) → are_live w k.0 ≡ b → b ≡ true
          go true f = refl
          go false f =
              no_truth (is_interested w.medium.words e k.0) interested_both.0 (g.roles.nobody e k.0 f).0

      below : (k.0 < length w.nodes) × (has w.medium.removed k.0 ≡ false)
      below = live-below w k.0 live-before

      alive : has W.medium.removed k.0 ≡ false
      alive = removed k.0 ∙ (ap (λ b. b || has w.medium.removed k.0) apart ∙ below.1)

      abbrev y : NodeState
      y = get_or W.nodes k.0 (first_node deck 0)

      found : slice_get W.nodes k.0 ≡ Some y
      found = slice_get-get_or W.nodes k.0 (first_node deck 0) (subst (λ i. k.0 < i) (sym count) below.0)

      abbrev a : IsAfter w target k.0 y
      a = after k.0 y found alive

      abbrev m : IsMember deck w.medium.words (all_lists w) k.0 a.before
      m = g.roles.node k.0 a.before a.site

      -- it managed the entry before, where no notice tells it of that
      was-manager : noticed e (inbox W.medium k.0) ≡ false → manager_at w.medium.words e ≡ Some k
      was-manager silent =
          let parts =
          or_parts (noticed e (inbox w.medium k.0)) (noticed e (notices_to target (moved k.0)))
          (sym (ap (noticed e) (boxes k.0 below.0 alive)
          ∙ list_any-append (names_entry e) (inbox w.medium k.0) (notices_to target (moved k.0)))
          ∙ silent) in
          let ne : k.0 ≢ target.0 = eqb-false k.0 target.0 (not-true (k.0 == target.0) interested_both.1) in
          let other : is_manager (manager_at w.medium.words e) target ≡ false =
          false_by (is_manager (manager_at w.medium.words e) target) (λ mine.
          no_truth (noticed e (notices_to target (moved k.0)))
          (notes e k.0 there below.0 ne
          ∙ and_from (is_manager (manager_at w.medium.words e) target) (is_interested w.medium.words e k.0) mine
          interested_both.0)
          parts.1) in
          sym (manager-stays w.medium.words target e there other) ∙ named

      -- then it has the list
      had-list : manager_at w.medium.words e ≡ Some k
          → list_of (plain (items_of (managed_of m.part.manager r))) r ≡ those
      had-list was =
          ap (λ i. list_of (plain (items_of (kept_for m.part.manager.entries (entry_of_res i r)))) r) m.fits.entries
          ∙ (ap (λ o. list_of (plain (items_of (kept_for m.part.manager.entries o))) r) of_entry
          ∙ ((m.fits.lists e (m.fits.roles e ∙ manager-here w.medium.words e k was)).lists r
          ∙ same-under deck w g sent had h ranked is r wide))

      has-list : manager_at w.medium.words e ≡ Some k
          → without_gone W.medium.removed (managed_list deck W k y y.star r) ≡ left target.0 those
      has-list was =
          ap (λ o. without_gone W.medium.removed (managed_list deck W k y o r)) a.star ∙ go (a.lists r wide m.part m.star)
        where
          go :
              (list_of (plain (items_of (managed_of a.part.manager r))) r
              ≡ list_of (plain (items_of (managed_of m.part.manager r))) r)
              ⊎ (list_of (plain (items_of (managed_of a.part.manager r))) r
              ≡ left target.0 (list_of (plain (items_of (managed_of m.part.manager r))) r))
              → without_gone W.medium.removed (list_of (plain (items_of (managed_of a.part.manager r))) r)
              ≡ left target.0 those
          go (inl same) = ap (without_gone W.medium.removed) (same ∙ had-list was) ∙ gone-those
          go (inr less) =
              ap (without_gone W.medium.removed) (less ∙ ap (left target.0) (had-list was)) ∙ gone-rest

      at-manager : without_gone W.medium.removed (at_node deck W k (slice_get W.nodes k.0) r) ≡ left target.0 those
      at-manager =
          ap (λ o. without_gone W.medium.removed (at_node deck W k o r)) found
          ∙ (ap (λ o. without_gone W.medium.removed
          (cond (has_to_gather W k y o) (shown_list deck W r) (managed_list deck W k y y.star r))) entry-then
          ∙ go (has_to_gather W k y (Some e)) refl)
        where
          go : (b : Bool) → has_to_gather W k y (Some e) ≡ b →
              without_gone W.medium.removed
              (cond (has_to_gather W k y (Some e)) (shown_list deck W r) (managed_list deck W k y y.star r))
              ≡ left target.0 those
          go true f =
              ap (λ b. without_gone W.medium.removed
              (cond b (shown_list deck W r) (managed_list deck W k y y.star r))) f
              ∙ (ap (without_gone W.medium.removed)
              (shown-rest deck w g sent had h ranked is r wide target moved W removed boxes after count)
              ∙ gone-rest)
          go false f =
              ap (λ b. without_gone W.medium.removed
              (cond b (shown_list deck W r) (managed_list deck W k y y.star r))) f
              ∙ has-list (was-manager (or_parts (noticed e (inbox W.medium k.0)) _ f).0)

    pub kept-behind : (s : SysId) → kept deck W s r ≡ left target.0 (list_of (all_lists w) r)
    kept-behind s =
        ap (λ b. kept_in b deck W s r) mode
        ∙ (ap (λ o. without_gone W.medium.removed (at_manager deck W (named_by W.medium.words o) r)) entry-then
        ∙ (ap (λ (ws : List ℕ). without_gone W.medium.removed (at_manager deck W (manager_at ws e) r)) words
        ∙ by-word (manager_at (purged_words w.medium.words target) e) refl))
      where
        nobody-left : manager_at (purged_words w.medium.words target) e ≡ None → (t : TaskId)
            → has_task (left target.0 those) t ≡ true → ⊥
        nobody-left none t stands =
            let was = left-has target.0 those t stands in
            let far : not (t.system.0 == target.0) ≡ true =
            ap not (false_by (t.system.0 == target.0) (λ same.
            no_truth (target.0 == t.system.0) (eq-eqb target.0 t.system.0 (sym (eqb-true t.system.0 target.0 same)))
            was.1)) in
            no_truth (is_interested (purged_words w.medium.words target) e t.system.0)
            (interest-behind w.medium.words target e there t.system.0
            ∙ and_from (is_interested w.medium.words e t.system.0) (not (t.system.0 == target.0))
            (interested deck w g sent had h ranked is r wide t was.0) far)
            (nobody-behind w.medium.words target e there managed none t.system.0)

        by-word : (o : Option SysId) → manager_at (purged_words w.medium.words target) e ≡ o
            → without_gone W.medium.removed
            (at_manager deck W (manager_at (purged_words w.medium.words target) e) r)
            ≡ left target.0 those
        by-word None none =
            ap (λ o. without_gone W.medium.removed (at_manager deck W o r)) none
            ∙ sym (none-listed (left target.0 those) (nobody-left none))
        by-word (Some k) named =
            ap (λ o. without_gone W.medium.removed (at_manager deck W o r)) named ∙ at-manager k named
