-- A system's desk orders the change to star mode once more: it is told that there was one before. Or it orders the
-- removal of a system that isn't there any more.
use Rattle.grs_world.proofs.Common.{[], ◌++◌, ◌+◌, ◌∙◌, ◌≡◌, ap, append-nil, Deck, desk_told, false, fixed_by, history}
use Rattle.grs_world.proofs.Common.{inbox, items, List, list_any, next_order, NodeState, only, refl, removes, RunItem}
use Rattle.grs_world.proofs.Common.{Said, Some, StarPart, SysId, World}
use Rattle.grs_world.proofs.star.steps.Outcome.{Comes}
use Rattle.grs_world.proofs.star.Worlds.{Hands, IsWhole, are_live, in_hands, items-none, none_fixed, whole-placed}
use Rattle.grs_world.proofs.star.Systems.{IsSystem}
use Rattle.grs_world.proofs.star.hearing.Gentle.{Gentle, gentle-line_told}
use Rattle.grs_world.proofs.star.hearing.Quiet.{heard-still}
use Rattle.grs_world.proofs.star.ranks.Quiet.{ranked-still}
use Rattle.grs_world.proofs.system.Desks.{desk-at, desk-told}
use Rattle.grs_world.proofs.run.Desks.{EventTells, tells_already, tells_no_such}
use Rattle.grs_world.proofs.run.Purging.{target-fits}
use Rattle.grs_world.proofs.run.Removals.{GoneAreRemoved}
use Rattle.grs_medium.specs.Apply.{is_live}
use Rattle.grs_world.proofs.at_rest.StarTasks.{IsDated, dated-by, keeps-telling}
use Rattle.grs_world.proofs.run.Site.{Site}
use Rattle.grs_wire.specs.declared.told.Said.TheVariants as saids
use Rattle.grs_wire.specs.declared.deck.Order.TheVariants as orders

module _ (deck : Deck) (w : World) (g : IsWhole deck w) (c : SysId) (n : NodeState) (at : Site w c.0 n) where
  abbrev T : List RunItem
  T = items w.fixed

  own : (said : Said)
      → IsSystem deck w.medium.words T c.0 (desk_told n said) (inbox w.medium c.0) (g.later c.0) (g.out c.0)
  own said =
      let h = g.system c.0 n at in
      record {
        at = desk-at deck c.0 T (g.later c.0) (g.out c.0) n said h.at;
        late = h.late;
        sent = h.sent;
        near = h.near;
        coming = h.coming;
        answered = h.answered;
        fits = h.fits;
      }

  hands-own : (said : Said) (p : StarPart) → (desk_told n said).star ≡ Some p
      → Hands deck w.medium.words (are_live w) g.later g.out c.0 (in_hands p (inbox w.medium c.0))
  unfolding desk_told
  hands-own said p is = g.hands c.0 n p at is

  done-more : (said : Said) → (desk_told n said).done ≡ n.done + 1
  unfolding desk_told
  done-more said = refl

  calm : (said : Said) → Gentle n.tasks (desk_told n said).tasks
  unfolding desk_told
  calm said = gentle-line_told n.tasks _

  same_star : (said : Said) → (desk_told n said).star ≡ n.star
  unfolding desk_told
  same_star said = refl

  own_dated : (said : Said) → IsDated deck c.0 n → IsDated deck c.0 (desk_told n said)
  unfolding desk_told
  own_dated said h = dated-by deck c.0 n _ refl h (keeps-telling deck n.tasks _ h.date)

  outcome-desk : (said : Said)
      → EventTells deck c (history (items (w.fixed ++ fixed_by c []))) [] n (desk_told n said) w.medium.star
      w.medium.star
      → Comes deck w g c n (record { medium = w.medium; step = only (desk_told n said) })
  outcome-desk said news step = record {
    stays =
        whole-placed deck w g c n at (record { medium = w.medium; step = only (desk_told n said) }) step T
        (items-none w.fixed c) g.later g.out (λ u ne. refl) none_fixed g.right g.near (own said)
        (λ s k ne found. g.system s k found) (hands-own said)
        (λ m k p ne found is. g.hands m k p found is);
    news = news;
    heard = heard-still deck w g c n at w.medium refl refl (desk_told n said) (calm said) (same_star said);
    ranked = λ g'. ranked-still deck w g c n at w.medium refl refl (desk_told n said) (calm said) (same_star said);
    dated = own_dated said;
  }

  -- the change to star mode
  pub outcome-already : next_order deck n ≡ Some orders.Star
      → Comes deck w g c n (record { medium = w.medium; step = only (desk_told n saids.StarAlready) })
  outcome-already next =
      outcome-desk saids.StarAlready
      (tells_already next (desk-told n saids.StarAlready) (done-more saids.StarAlready) g.roles.mode g.roles.mode)

  -- the removal of a system that is no longer there
  pub outcome-no_such : GoneAreRemoved deck w → (target : SysId) → next_order deck n ≡ Some (orders.Vary target)
      → is_live w.medium target ≡ false
      → Comes deck w g c n (record { medium = w.medium; step = only (desk_told n saids.VaryNoSuch) })
  outcome-no_such removed target next gone =
      outcome-desk saids.VaryNoSuch
      (tells_no_such target next (desk-told n saids.VaryNoSuch) (done-more saids.VaryNoSuch) refl (λ fit.
      ap (λ gs. list_any (removes target) (history (items gs))) (append-nil w.fixed)
      ∙ removed target (target-fits deck n target fit next).0 gone))
