-- What is kept is what the history says, in either mode and where the complex changes from ring to star mode.
use Rattle.grs_world.proofs.Common.{[], ◌++◌, ◌<◌, ◌||◌, ◌∙◌, ◌≡◌, ◌≤◌, AllAsk, ap, append_assoc, are_within, arith}
use Rattle.grs_world.proofs.Common.{cond, Deck, entries_some, entry_of_res, eq-eqb, Event, false, FitsStar, gathers}
use Rattle.grs_world.proofs.Common.{has, history, is_entry, is_systems, items, items_are_history, items_of, kept}
use Rattle.grs_world.proofs.Common.{kept_for, length, List, list_of, lists, manager_at, manages, may_be_star}
use Rattle.grs_world.proofs.Common.{most_systems, NodeState, None, NoneInStar, Option, option_map_or, part_by_table}
use Rattle.grs_world.proofs.Common.{places, plain, refl, replay, Res, rounds, run, same_Some, slice_get, slice_get-past}
use Rattle.grs_world.proofs.Common.{Some, StarPart, State, subst, sym, SysId, true, without_gone, World, ℕ}
use Rattle.grs_known.proofs.known.Histories.{asks-front}
use Rattle.grs_world.specs.Kept.{KeptArePlaces, at_manager, at_node, has_to_gather, kept_in, managed_list, named_by}
use Rattle.grs_node.proofs.TableParts.{table-lists}
use Rattle.grs_world.proofs.move.Begin.{front-within, more-within}
use Rattle.grs_world.proofs.move.Changing.{IsChanging, Shown, Waits, has_changed, view-read, view-star, viewed}
use Rattle.grs_world.proofs.move.Changing.{waits_yet}
use Rattle.grs_world.proofs.move.Moved.{alive}
use Rattle.grs_world.proofs.move.Sound.{GoodRun, every_run, in_ring, in_star}
use Rattle.grs_world.proofs.move.Waiting.{reads, whole_now}
use Rattle.grs_world.proofs.run.Growing.{asks-rounds}
use Rattle.grs_world.proofs.run.KeptPlaces.{kept_is}
use Rattle.grs_world.proofs.star.Members.{IsMember, all_lists, manager-here}
use Rattle.grs_world.proofs.star.Runs.{none-to-gather, own-kept}
use Rattle.grs_world.proofs.star.Worlds.{kept-whole, live-below, manager-live, quiet-whole}
use Rattle.grs_world.proofs.run.Site.{Site, at_site}

-- a resource of an entry is of that entry
of-entry : (o : Option ℕ) (x : ℕ) → o ≡ Some x → is_entry x o ≡ true
of-entry o x is = ap (is_entry x) is ∙ eq-eqb x x refl

module _ (deck : Deck) (some : 0 < deck.entries) (few : length deck.systems ≤ most_systems) (w : World)
    (g : IsChanging deck w) where
  abbrev shown : World
  shown = record w { nodes = g.view }

  -- ---- a manager keeps the list that is shown of it
  module _ (r : Res) (x : ℕ) (m : SysId) (of : entry_of_res deck.entries r ≡ Some x)
      (managed : manager_at w.medium.words x ≡ Some m) (n k : NodeState) (at : slice_get w.nodes m.0 ≡ Some n)
      (there : slice_get g.view m.0 ≡ Some k) (unremoved : has w.medium.removed m.0 ≡ false) where
    me : IsMember deck w.medium.words (all_lists shown) m.0 k
    me = g.whole.roles.node m.0 k (at_site there unremoved)

    -- who hasn't changed keeps it in its table
    module _ (h : Waits deck m.0 (items w.fixed) (g.before m.0) (g.due m.0) g.since n)
        (is : k ≡ viewed deck n (g.due m.0)) (empty : g.whole.out m.0 ≡ []) where
      abbrev t : State
      t = lists (g.before m.0 ++ g.due m.0)

      abbrev by_table : StarPart
      by_table = part_by_table deck.entries (record { 0 = m.0 }) (lists (g.before m.0 ++ g.due m.0))

      whole_here : rounds (items w.fixed) ≡ g.before m.0 ++ (g.due m.0 ++ g.since)
      whole_here = whole_now deck w g m n at unremoved k there h is empty

      within : are_within most_systems t ≡ true
      within =
          let asks : AllAsk deck (g.before m.0 ++ g.due m.0) =
          asks-front deck (g.before m.0 ++ g.due m.0) g.since
          (subst (AllAsk deck) (whole_here ∙ sym (append_assoc (g.before m.0) (g.due m.0) g.since))
          (asks-rounds deck (items w.fixed) g.whole.right.asks)) in
          more-within (length deck.systems) most_systems few t (front-within deck (g.before m.0 ++ g.due m.0) asks)

      part-is : k.star ≡ Some by_table
      part-is =
          ap (λ (z : NodeState). z.star) is
          ∙ view-star deck m.0 (items w.fixed) (g.before m.0) (g.due m.0) g.since g.whole.right whole_here n h

      same-part : me.part ≡ by_table
      same-part = same_Some me.part by_table (sym me.star ∙ part-is)

      mine : manages by_table x ≡ true
      mine =
          subst (λ (p : StarPart). manages p x ≡ true) same-part
          (me.fits.roles x ∙ manager-here w.medium.words x m managed)

      entry : entry_of_res (length by_table.manager.entries) r ≡ Some x
      entry =
          ap (λ i. entry_of_res i r)
          (subst (λ (p : StarPart). length p.manager.entries ≡ deck.entries) same-part me.fits.entries)
          ∙ of

      shown-list : managed_list deck shown m k (Some by_table) r ≡ list_of t r
      shown-list = ap (λ o. list_of (plain (items_of (kept_for by_table.manager.entries o))) r) entry
          ∙ (table-lists deck.entries some (record { 0 = m.0 }) t within x mine r
          ∙ ap (λ b. cond b (list_of t r) []) (of-entry (entry_of_res deck.entries r) x of))

      kept-list : managed_list deck w m n None r ≡ list_of t r
      kept-list =
          ap (λ (z : NodeState). list_of z.shared r)
          (reads deck w g m n at unremoved k there h is empty (alive deck w g m n at unremoved))
          ∙ ap (λ s. list_of s r) (view-read deck m.0 (items w.fixed) (g.before m.0) (g.due m.0) g.since g.whole.right
          whole_here n h).seen.shared

      waits-shown : managed_list deck w m n n.star r ≡ managed_list deck shown m k k.star r
      waits-shown =
          ap (λ o. managed_list deck w m n o r) h.alone
          ∙ (kept-list ∙ (sym shown-list ∙ sym (ap (λ o. managed_list deck shown m k o r) part-is)))

  lists_shown : (r : Res) (x : ℕ) (m : SysId) → entry_of_res deck.entries r ≡ Some x
      → manager_at w.medium.words x ≡ Some m → (n k : NodeState) → slice_get w.nodes m.0 ≡ Some n
      → slice_get g.view m.0 ≡ Some k → has w.medium.removed m.0 ≡ false
      → Shown deck m.0 (items w.fixed) (g.before m.0) (g.due m.0) g.since (g.whole.out m.0) k n
      → managed_list deck w m n n.star r ≡ managed_list deck shown m k k.star r
  lists_shown r x m of managed n k at there unremoved (has_changed none) =
      let star = (g.whole.roles.node m.0 k (at_site there unremoved)).star in
      ap (λ o. managed_list deck w m k o r) star ∙ sym (ap (λ o. managed_list deck shown m k o r) star)
  lists_shown r x m of managed n k at there unremoved (waits_yet z h is empty) =
      waits-shown r x m of managed z k at there unremoved h is empty

  -- it has nothing to gather, as who has changed hasn't
  none-gathers : (x : ℕ) (m : SysId) (n k : NodeState) (there : Site shown m.0 k)
      → Shown deck m.0 (items w.fixed) (g.before m.0) (g.due m.0) g.since (g.whole.out m.0) k n
      → has_to_gather w m n (Some x) ≡ false
  none-gathers x m n k there (has_changed none) =
      none-to-gather deck shown (all_lists shown) m k x (g.whole.roles.node m.0 k there)
      (quiet-whole deck shown g.whole m.0 k x there)
  none-gathers x m n k there (waits_yet z h is empty) =
      ap (λ b. b || option_map_or (λ p. gathers p x) z.star false) (quiet-whole deck shown g.whole m.0 k x there)
      ∙ ap (λ o. option_map_or (λ p. gathers p x) o false) h.alone

  at_shown : (r : Res) (x : ℕ) (m : SysId) → entry_of_res deck.entries r ≡ Some x → manager_at w.medium.words x ≡ Some m
      → (n k : NodeState) → slice_get w.nodes m.0 ≡ Some n → slice_get g.view m.0 ≡ Some k
      → has w.medium.removed m.0 ≡ false
      → Shown deck m.0 (items w.fixed) (g.before m.0) (g.due m.0) g.since (g.whole.out m.0) k n
      → at_node deck w m (Some n) r ≡ at_node deck shown m (Some k) r
  at_shown r x m of managed n k at there unremoved old =
      own-kept deck w m n r
      (ap (has_to_gather w m n) entry ∙ none-gathers x m n k (at_site there unremoved) old)
      ∙ (lists_shown r x m of managed n k at there unremoved old
      ∙ sym (own-kept deck shown m k r
      (ap (has_to_gather shown m k) entry
      ∙ none-to-gather deck shown (all_lists shown) m k x (g.whole.roles.node m.0 k (at_site there unremoved))
      (quiet-whole deck shown g.whole m.0 k x (at_site there unremoved)))))
    where
      entry : entry_of_res (length w.medium.words) r ≡ Some x
      entry = ap (λ i. entry_of_res i r) g.whole.roles.words ∙ of

  -- ---- so what is kept is what is shown
  kept_shown : (s : SysId) (r : Res) → kept deck w s r ≡ kept deck shown s r
  kept_shown s r =
      ap (λ b. kept_in b deck w s r) g.whole.roles.mode
      ∙ (ap (without_gone w.medium.removed) (by_entry (entry_of_res (length w.medium.words) r) refl)
      ∙ sym (ap (λ b. kept_in b deck shown s r) g.whole.roles.mode))
    where
      by_system : (x : ℕ) (m : SysId) → entry_of_res deck.entries r ≡ Some x → manager_at w.medium.words x ≡ Some m
          → (o : Option NodeState) → slice_get w.nodes m.0 ≡ o
          → at_node deck w m (slice_get w.nodes m.0) r ≡ at_node deck shown m (slice_get g.view m.0) r
      by_system x m of managed None at =
          let past = slice_get-past w.nodes m.0 at in
          let there =
          live-below shown m.0
          (manager-live deck shown g.whole.roles x m.0 (manager-here w.medium.words x m managed)) in
          absurd (omega (arith, past, there.0, g.count, g.whole.roles.systems))
      by_system x m of managed (Some n) at =
          let there =
          live-below shown m.0
          (manager-live deck shown g.whole.roles x m.0 (manager-here w.medium.words x m managed)) in
          let old = g.shown m.0 n at there.1 in
          ap (λ o. at_node deck w m o r) at
          ∙ (at_shown r x m of managed n old.0 at old.1 there.1 old.2 ∙ sym (ap (λ o. at_node deck shown m o r) old.1))

      by_manager : (x : ℕ) → entry_of_res (length w.medium.words) r ≡ Some x → (o : Option SysId)
          → manager_at w.medium.words x ≡ o → at_manager deck w o r ≡ at_manager deck shown o r
      by_manager x of None managed = refl
      by_manager x of (Some m) managed =
          by_system x m (ap (λ i. entry_of_res i r) (sym g.whole.roles.words) ∙ of) managed (slice_get w.nodes m.0) refl

      by_entry : (o : Option ℕ) → entry_of_res (length w.medium.words) r ≡ o
          → at_manager deck w (named_by w.medium.words (entry_of_res (length w.medium.words) r)) r
          ≡ at_manager deck shown (named_by w.medium.words (entry_of_res (length w.medium.words) r)) r
      by_entry None of =
          ap (λ o. at_manager deck w (named_by w.medium.words o) r) of
          ∙ sym (ap (λ o. at_manager deck shown (named_by w.medium.words o) r) of)
      by_entry (Some x) of =
          ap (λ o. at_manager deck w (named_by w.medium.words o) r) of
          ∙ (by_manager x of (manager_at w.medium.words x) refl
          ∙ sym (ap (λ o. at_manager deck shown (named_by w.medium.words o) r) of))

  pub kept_changing : (s : SysId) (r : Res) → is_systems r ≡ true
      → kept deck w s r ≡ list_of (replay deck.limit (history (items w.fixed))) r
  kept_changing s r all = kept_shown s r ∙ kept-whole deck shown g.whole s r all

pub good_kept : (deck : Deck) (es : List Event) → GoodRun deck es (run deck es) → KeptArePlaces deck es
good_kept deck es good s r live all = by_run good
  where
    by_run : GoodRun deck es (run deck es) → kept deck (run deck es) s r ≡ places deck es r
    by_run (in_ring begins ring g d) = kept_is deck es r all ring g ring.mode s live (run deck es).medium.star refl
    by_run (in_star f g told d) =
        kept_changing deck (entries_some deck.entries f.entries) f.few (run deck es) g s r all
        ∙ ap (λ h. list_of (replay deck.limit h) r) (items_are_history (run deck es).fixed).0

pub every_kept : (deck : Deck) → (may_be_star deck ≡ true → FitsStar deck) → (es : List Event) → NoneInStar deck es
    → KeptArePlaces deck es
every_kept deck fits es none = good_kept deck es (every_run deck fits es none)
