-- What is kept in a star that lost systems which manage no lock entry is what the history says: a manager that doesn't
-- know of a removal yet keeps that one's elements still, and they don't count.
use Rattle.grs_world.proofs.Common.{[], ◌&&◌, ◌||◌, ◌∙◌, ◌∷◌, ◌≡◌, Answered, ap, arith, Bool, cond, Deck, Elem}
use Rattle.grs_world.proofs.Common.{entry_of_res, Event, false, FitsStar, gathers, Granted, has, history, inbox}
use Rattle.grs_world.proofs.Common.{is_systems, items, items_are_history, items_of, kept, length, List, list_of, Mail}
use Rattle.grs_world.proofs.Common.{managed_of, manager_at, may_be_star, NodeState, None, not, Notice, noticed, Option}
use Rattle.grs_world.proofs.Common.{option_map_or, Part, places, plain, refl, replay, Res, run, slice_get}
use Rattle.grs_world.proofs.Common.{slice_get-past, Some, sym, SysId, true, without_gone, World, ℕ}
use Rattle.grs_wire.specs.Notices.{names}
use Rattle.grs_wire.specs.declared.medium.Mail.TheVariants.{Request}
use Rattle.grs_world.specs.InStar.{NoneTakesEntries}
use Rattle.grs_world.specs.Kept.{at_manager, at_node, has_to_gather, KeptArePlaces, kept_in, managed_list, named_by}
use Rattle.grs_world.proofs.loss.Leaves.{mail_without}
use Rattle.grs_world.proofs.loss.Losing.{filter-both, is_in, left_of, list-lost}
use Rattle.grs_world.proofs.loss.Run.{every_loss, GoodLoss, has_lost, has_spared}
use Rattle.grs_world.proofs.loss.View.{in-removed, IsLeft, IsLosing, unknown, viewed_by}
use Rattle.grs_world.proofs.move.Kept.{good_kept}
use Rattle.grs_world.proofs.run.Site.{at_site, Site}
use Rattle.grs_world.proofs.star.Calm.{not-gathered}
use Rattle.grs_world.proofs.star.Members.{all_lists, manager-here}
use Rattle.grs_world.proofs.star.Runs.{none-to-gather, own-kept}
use Rattle.grs_world.proofs.star.Worlds.{kept-whole, live-below, manager-live, quiet-whole}

-- so their elements don't count
left-gone : (removed : ℕ) (n : NodeState) (xs : List Elem)
    → without_gone removed (left_of (unknown removed n) xs) ≡ without_gone removed xs
left-gone removed n xs =
    filter-both (λ x. not (is_in x.task.system.0 (unknown removed n))) (λ x. not (has removed x.task.system.0))
    (λ x. not (has removed x.task.system.0)) (λ x. go x.task.system.0 (is_in x.task.system.0 (unknown removed n)) refl)
    xs
  where
    go : (u : ℕ) (b : Bool) → is_in u (unknown removed n) ≡ b
        → not (has removed u) ≡ (not b && not (has removed u))
    go u true is = ap not (in-removed n.known removed u is)
    go u false is = refl

-- ---- requests name no entry
noticed-without : (gone : ℕ → Bool) (e : ℕ) (ms : List Mail) → noticed e (mail_without gone ms) ≡ noticed e ms
noticed-without gone e [] = refl
noticed-without gone e (Request x from q ∷ ms) = go (gone q.task.system.0) (noticed-without gone e ms)
  where
    go : (b : Bool) → noticed e (mail_without gone ms) ≡ noticed e ms
        → noticed e (cond (not b) (Request x from q ∷ mail_without gone ms) (mail_without gone ms)) ≡ noticed e ms
    go true more = more
    go false more = more
noticed-without gone e (Answered t answer rank ∷ ms) = noticed-without gone e ms
noticed-without gone e (Granted t r ∷ ms) = noticed-without gone e ms
noticed-without gone e (Notice target moved ∷ ms) =
    ap (λ b. names e (Notice target moved) || b) (noticed-without gone e ms)
noticed-without gone e (Part x from records ∷ ms) = noticed-without gone e ms

module _ (deck : Deck) (w : World) (g : IsLosing deck w) where
  abbrev V : World
  V = viewed_by w g.view g.boxes

  abbrev gone : ℕ
  gone = w.medium.removed

  -- ---- what a manager keeps
  module _ (r : Res) (wide : is_systems r ≡ true) (x : ℕ) (m : SysId)
      (of : entry_of_res (length w.medium.words) r ≡ Some x) (n : NodeState) (at : slice_get w.nodes m.0 ≡ Some n)
      (live : has w.medium.removed m.0 ≡ false) where
    abbrev k : NodeState
    k = (g.shown m.0 n at live).0

    abbrev own : IsLeft w.medium.removed n (g.shown m.0 n at live).0
    own = (g.shown m.0 n at live).2

    site : Site V m.0 (g.shown m.0 n at live).0
    site = at_site (g.shown m.0 n at live).1 live

    quiet : has_to_gather w m n (Some x) ≡ false
    quiet =
        ap (λ b. b || option_map_or (λ p. gathers p x) n.star false)
        (sym (noticed-without (has w.medium.removed) x (inbox w.medium m.0))
        ∙ (ap (noticed x) (sym (g.mail m.0 live)) ∙ quiet-whole deck V g.whole m.0 k x site))
        ∙ (ap (λ o. option_map_or (λ p. gathers p x) o false) own.star ∙ not-gathered own.part own.calm x)

    quiet-then : has_to_gather V m k (Some x) ≡ false
    quiet-then =
        none-to-gather deck V (all_lists V) m k x (g.whole.roles.node m.0 k site)
        (quiet-whole deck V g.whole m.0 k x site)

    same-list : without_gone w.medium.removed (managed_list deck w m n n.star r)
        ≡ without_gone w.medium.removed (managed_list deck V m k k.star r)
    same-list =
        ap (λ o. without_gone w.medium.removed (managed_list deck w m n o r)) own.star
        ∙ (sym (left-gone w.medium.removed n (list_of (plain (items_of (managed_of own.part.manager r))) r))
        ∙ (ap (without_gone w.medium.removed) (sym (list-lost own.part (unknown w.medium.removed n) r wide))
        ∙ sym (ap (λ o. without_gone w.medium.removed (managed_list deck V m k o r))
        (ap (λ (z : NodeState). z.star) own.is))))

    same-node : without_gone w.medium.removed (at_node deck w m (Some n) r)
        ≡ without_gone w.medium.removed (at_node deck V m (Some k) r)
    same-node =
        ap (without_gone w.medium.removed) (own-kept deck w m n r (ap (has_to_gather w m n) of ∙ quiet))
        ∙ (same-list
        ∙ ap (without_gone w.medium.removed) (sym (own-kept deck V m k r (ap (has_to_gather V m k) of ∙ quiet-then))))

  kept-same : (s : SysId) (r : Res) → is_systems r ≡ true → kept deck w s r ≡ kept deck V s r
  kept-same s r wide =
      ap (λ b. kept_in b deck w s r) g.whole.roles.mode
      ∙ (by-entry (entry_of_res (length w.medium.words) r) refl
      ∙ sym (ap (λ b. kept_in b deck V s r) g.whole.roles.mode))
    where
      by-system : (x : ℕ) (m : SysId) → entry_of_res (length w.medium.words) r ≡ Some x
          → manager_at w.medium.words x ≡ Some m → (o : Option NodeState) → slice_get w.nodes m.0 ≡ o
          → without_gone w.medium.removed (at_node deck w m (slice_get w.nodes m.0) r)
          ≡ without_gone w.medium.removed (at_node deck V m (slice_get g.view m.0) r)
      by-system x m of managed None at =
          let past = slice_get-past w.nodes m.0 at in
          let there =
          live-below V m.0 (manager-live deck V g.whole.roles x m.0 (manager-here w.medium.words x m managed)) in
          absurd (omega (arith, past, there.0, g.count, g.whole.roles.systems))
      by-system x m of managed (Some n) at =
          let there =
          live-below V m.0 (manager-live deck V g.whole.roles x m.0 (manager-here w.medium.words x m managed)) in
          ap (λ o. without_gone w.medium.removed (at_node deck w m o r)) at
          ∙ (same-node r wide x m of n at there.1
          ∙ sym (ap (λ o. without_gone w.medium.removed (at_node deck V m o r)) (g.shown m.0 n at there.1).1))

      by-manager : (x : ℕ) → entry_of_res (length w.medium.words) r ≡ Some x → (o : Option SysId)
          → manager_at w.medium.words x ≡ o
          → without_gone w.medium.removed (at_manager deck w o r)
          ≡ without_gone w.medium.removed (at_manager deck V o r)
      by-manager x of None managed = refl
      by-manager x of (Some m) managed = by-system x m of managed (slice_get w.nodes m.0) refl

      by-entry : (o : Option ℕ) → entry_of_res (length w.medium.words) r ≡ o →
          without_gone w.medium.removed
          (at_manager deck w (named_by w.medium.words (entry_of_res (length w.medium.words) r)) r)
          ≡ without_gone w.medium.removed
          (at_manager deck V (named_by w.medium.words (entry_of_res (length w.medium.words) r)) r)
      by-entry None of =
          ap (λ o. without_gone w.medium.removed (at_manager deck w (named_by w.medium.words o) r)) of
          ∙ sym (ap (λ o. without_gone w.medium.removed (at_manager deck V (named_by w.medium.words o) r)) of)
      by-entry (Some x) of =
          ap (λ o. without_gone w.medium.removed (at_manager deck w (named_by w.medium.words o) r)) of
          ∙ (by-manager x of (manager_at w.medium.words x) refl
          ∙ sym (ap (λ o. without_gone w.medium.removed (at_manager deck V (named_by w.medium.words o) r)) of))

  pub kept-losing : (s : SysId) (r : Res) → is_systems r ≡ true
      → kept deck w s r ≡ list_of (replay deck.limit (history (items w.fixed))) r
  kept-losing s r wide = kept-same s r wide ∙ kept-whole deck V g.whole s r wide

pub losses_kept : (deck : Deck) → (may_be_star deck ≡ true → FitsStar deck) → (es : List Event)
    → NoneTakesEntries deck es → KeptArePlaces deck es
losses_kept deck fits es none s r live wide = by-run (every_loss deck fits es none)
  where
    by-run : GoodLoss deck es (run deck es) → kept deck (run deck es) s r ≡ places deck es r
    by-run (has_spared spared good) = good_kept deck es good s r live wide
    by-run (has_lost f g told d rest) =
        kept-losing deck (run deck es) g s r wide
        ∙ ap (λ h. list_of (replay deck.limit h) r) (items_are_history (run deck es).fixed).0
