-- Runs of which no event removes, in star mode, a system that manages a lock entry: so it is of each front of theirs,
-- and of its next event; and of each run that removes none there.
use Rattle.grs_world.proofs.Common.{[], ◌&&◌, ◌++◌, ◌∙◌, ◌∷◌, ◌≡◌, ap, cond, Deck, Event, false, first_world, happens}
use Rattle.grs_world.proofs.Common.{List, MediumState, NoneInStar, not, refl, removes_in_star, run, run_from, World}
use Rattle.grs_world.specs.InStar.{NoneTakesEntries, removals_from, spares_entries, takes_entries, takings_from}
use Rattle.grs_world.proofs.run.Each.{each_run}
use Rattle.grs_world.proofs.run.Spared.{no-back, no-front, not-removed}

module _ (deck : Deck) where
  -- these events and one more
  record Both (w : World) (es : List Event) (e : Event) : Type 0 where
    before : takings_from deck w es ≡ []
    last : takes_entries deck (run_from deck w es) e ≡ false

  from-both : (w : World) (es : List Event) (e : Event) → takings_from deck w (es ++ e ∷ []) ≡ [] → Both w es e
  from-both w [] e none = record {
    before = refl;
    last =
        not-removed (takes_entries deck w e) w.medium
        (no-front (cond (takes_entries deck w e) (w.medium ∷ []) []) [] none);
  }
  from-both w (x ∷ es) e none =
      let here : List MediumState = cond (takes_entries deck w x) (w.medium ∷ []) [] in
      let more = from-both (happens deck w x) es e (no-back here _ none) in
      record {
        before =
            ap (λ ms. ms ++ takings_from deck (happens deck w x) es) (no-front here _ none)
            ∙ more.before;
        last = more.last;
      }

  pub takes-before : (es : List Event) (e : Event) → NoneTakesEntries deck (es ++ e ∷ []) → NoneTakesEntries deck es
  takes-before es e none = (from-both (first_world deck) es e none).before

  pub takes-next : (es : List Event) (e : Event) → NoneTakesEntries deck (es ++ e ∷ [])
      → takes_entries deck (run deck es) e ≡ false
  takes-next es e none = (from-both (first_world deck) es e none).last

  -- What holds of the first world, and of the world after each such event if it did before, holds of every such run.
  pub each_kept_entries : (P : List Event → World → Type 0) → P [] (first_world deck)
      → ((es : List Event) (e : Event) → NoneTakesEntries deck (es ++ e ∷ []) → P es (run deck es)
      → P (es ++ e ∷ []) (happens deck (run deck es) e))
      → (es : List Event) → NoneTakesEntries deck es → P es (run deck es)
  each_kept_entries P first next =
      each_run deck (λ es w. NoneTakesEntries deck es → P es w) (λ none. first)
      (λ es e more none. next es e none (more (takes-before es e none)))

  -- who removes none there removes none so
  none-takes : (w : World) (es : List Event) → removals_from deck w es ≡ [] → takings_from deck w es ≡ []
  none-takes w [] none = refl
  none-takes w (e ∷ es) none =
      let here : List MediumState = cond (removes_in_star deck w e) (w.medium ∷ []) [] in
      let kept : removes_in_star deck w e ≡ false =
      not-removed (removes_in_star deck w e) w.medium (no-front here (removals_from deck (happens deck w e) es) none) in
      ap (λ b. cond (b && not (spares_entries w e.system e.choice)) (w.medium ∷ []) []
      ++ takings_from deck (happens deck w e) es) kept
      ∙ none-takes (happens deck w e) es (no-back here (removals_from deck (happens deck w e) es) none)

  pub spared-takes : (es : List Event) → NoneInStar deck es → NoneTakesEntries deck es
  spared-takes es none = none-takes (first_world deck) es none
